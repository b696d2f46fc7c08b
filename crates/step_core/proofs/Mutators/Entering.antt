-- The steps by which a mutator enters the heap, and the load of the phase with which a call begins.
use Rattle.std.proofs.Common.{◌≡◌, ℕ, ◌<◌, Bool, true, false, Option, None, refl, sym, ap, ◌∙◌, subst, arith}
use Rattle.std.specs.Prelude.{◌==◌, if◌then◌else◌}
use Rattle.std.proofs.lemmas.Bool.{and_from, lt-ltb, false≢true}
use Rattle.std.proofs.lemmas.Bool.Decides.{nat_tests}
use Rattle.heap_words.specs.declared.config.Config.{Config}
use Rattle.heap_words.specs.Words.{Pause, State, Phase}
use Rattle.heap_words.specs.Touch.{touch, stores, touched}
use Rattle.shen_graph.specs.declared.command.Command.{Command}
use Rattle.shen_graph.specs.declared.command.Reply.{Reply}
use Rattle.shen_graph.specs.declared.order.Order.TheVariants.{Nothing}
use Rattle.handshake.specs.declared.enter_spot.EnterSpot.{EnterSpot}
use Rattle.handshake.specs.declared.enter_spot.EnterSpot.TheVariants.{Raise, Look, Lower, Await, Inside}
use Rattle.handshake.specs.EnterRows.{touch_at as enter_touch, next_at as enter_next}
use Rattle.mutator.specs.declared.spot.Kept.{Kept}
use Rattle.mutator.specs.declared.spot.Entered.{Entered}
use Rattle.mutator.specs.declared.spot.Entered.TheVariants.{Call, Waited}
use Rattle.mutator.specs.declared.spot.Spot.{Spot}
use Rattle.mutator.specs.declared.spot.Spot.TheVariants.{Entering, LoadPhase}
use Rattle.mutator.specs.Orders.{is_waiting}
use Rattle.mutator.specs.Rows.{Mutating}
use Rattle.mutator.specs.WaitRows.{after_enter}
use Rattle.mutator.specs.Fit.{is_ready, is_still_outside}
use Rattle.heap_world.specs.World.{World, Shared}
use Rattle.heap_world.specs.Rely.{Keeps, RelyCopies, RelyMarks}
use Rattle.heap_world.proofs.Keeping.{rely_same, keeps_of}
use Rattle.heap_world.proofs.Marked.{same_marks}
use Rattle.step_core.proofs.Machines.Stepped.{Mine, Stepped, Row}
use Rattle.step_core.proofs.Mutators.Spots.{mutator_at}
use Rattle.step_core.proofs.Mutators.WhileMarking.{marks_in, marking_relied, copies_in, copying_relied}
use Rattle.step_core.proofs.Handshake.Entering.{entered_world, enters}
use Rattle.heap_world.proofs.Copies.{same_copies}
use Rattle.step_core.proofs.Machines.Stable.{root_stays, enter_stays, seated_stays}
use Rattle.step_core.proofs.Mutators.Loading.{looks}
use Rattle.step_core.proofs.Machines.Ready.{ready_of, state_word}

-- the world after a store into a state word
abbrev pub state_world : World → ℕ → ℕ → World
state_world world seat value = record { memory = touched world.memory (touch (State seat) (stores value)); block = world.block; ghost = world.ghost; graph = world.graph }

-- a state word is no word that the facts of a mutator speak of
pub state_marks : (config : Config) (world : World) (seat other_seat value : ℕ) → RelyMarks config other_seat world (state_world world seat value)
state_marks config world seat other_seat value = marks_in config world (state_world world seat value).memory world.graph other_seat refl (λ n. refl) (λ t. refl) (λ t k. refl) (λ a. refl)

-- nor is it one of evacuation
state_copies : (config : Config) (world : World) (seat other_seat value : ℕ) → RelyCopies config other_seat world (state_world world seat value)
state_copies config world seat other_seat value = copies_in config world (state_world world seat value).memory world.graph other_seat refl refl (λ r. refl) (λ a. refl)

pub state_keeps : (config : Config) (world : World) (seat other_seat value : ℕ) → Keeps config other_seat world (state_world world seat value)
state_keeps config world seat checked_seat value = let marks = state_marks config world seat checked_seat value in let kept_marks = marks.keeps in let copies = state_copies config world seat checked_seat value in let kept_copies = copies.keeps in search (arith, nat_tests, kept_marks, kept_copies)

-- an entering that goes on stays one
still_enters : (next : Entered) (spot : EnterSpot) → is_still_outside spot ≡ true → after_enter next spot ≡ Entering spot next
still_enters Call Inside outside = absurd (false≢true outside)
still_enters Waited Inside outside = absurd (false≢true outside)
still_enters Call spot outside = refl
still_enters Waited spot outside = refl

module _ (config : Config) (world : World) (seat made : ℕ) (kept : Kept) (command : Command) (fixed : Option Reply) where
  abbrev at_spot : Spot → Mutating
  at_spot spot = mutator_at seat made kept spot

  -- the accesses of an entering can be made
  enter_ready : (spot : EnterSpot) (next : Entered) → is_still_outside spot ≡ true → seat < config.mutators → is_ready config seat made kept (Entering spot next) ≡ true
  enter_ready Raise next outside seat_below = ready_of _ true (state_word config seat seat_below) refl
  enter_ready Look next outside seat_below = refl
  enter_ready Lower next outside seat_below = ready_of _ true (state_word config seat seat_below) refl
  enter_ready Await next outside seat_below = refl
  enter_ready Inside next outside seat_below = absurd (false≢true outside)

  module _ (before : EnterSpot) (next : Entered) (own_facts : Mine config world (at_spot (Entering before next)) command fixed) where
    -- what it counts on where it goes on entering
    mine_at : (next_world : World) → Keeps config seat world next_world → RelyMarks config seat world next_world → RelyCopies config seat world next_world → next_world.block ≡ world.block → (spot : EnterSpot) → is_still_outside spot ≡ true → Mine config next_world (at_spot (after_enter next spot)) command fixed
    mine_at next_world world_kept marks copies same_block enter_spot outside = subst (λ spot. Mine config next_world (at_spot spot) command fixed) (sym (still_enters next enter_spot outside)) (record {
      seated = seated_stays config world next_world seat world_kept made (is_waiting (Entering before next)) own_facts.seated;
      ready = enter_ready enter_spot next outside own_facts.seated.below;
      marking = marking_relied config world next_world seat None kept.phase false marks own_facts.marking;
      copying = copying_relied config world next_world seat false kept.cset false copies own_facts.copying;
      roots = λ index index_below. rw (world_kept.root_words index) (root_stays config world next_world seat world_kept _ index (own_facts.roots index index_below));
      rooms = λ address piece has_piece. own_facts.rooms address piece (ap (λ plot. plot address) (sym same_block) ∙ has_piece);
      facts = enter_stays config world next_world seat world_kept made kept.command command fixed next own_facts.facts;
    })

    -- in the same world
    mine_on : (spot : EnterSpot) → is_still_outside spot ≡ true → Mine config world (at_spot (after_enter next spot)) command fixed
    mine_on = mine_at world (keeps_of config seat world world (rely_same config seat world)) (same_marks config world seat) (same_copies config world seat) refl

    -- after a store into its state word
    mine_stored : (value : ℕ) (spot : EnterSpot) → is_still_outside spot ≡ true → Mine config (state_world world seat value) (at_spot (after_enter next spot)) command fixed
    mine_stored value = mine_at (state_world world seat value) (state_keeps config world seat seat value) (state_marks config world seat seat value) (state_copies config world seat seat value) refl

  -- and once it is inside: a call begins with the phase, and one that has waited has its answer
  mine_inside : (next : Entered) → Mine config world (at_spot (Entering Look next)) command fixed → Mine config world (at_spot (after_enter next Inside)) command fixed
  mine_inside Call own_facts = record { seated = own_facts.seated; ready = refl; marking = own_facts.marking; copying = own_facts.copying; roots = own_facts.roots; rooms = own_facts.rooms; facts = own_facts.facts }
  mine_inside Waited own_facts = record { seated = own_facts.seated; ready = ready_of _ true (lt-ltb _ _ own_facts.seated.below) refl; marking = own_facts.marking; copying = own_facts.copying; roots = own_facts.roots; rooms = own_facts.rooms; facts = own_facts.facts }

  -- a step of an entering is a step of the mutator
  lifted : (spot : EnterSpot) (next : Entered) → Shared config world → Mine config (entered_world world seat spot) (at_spot (after_enter next (enter_next spot (world.memory (enter_touch seat spot).word)))) command fixed
      → Stepped config world (at_spot (Entering spot next)) command Nothing fixed
  lifted spot next shared own_facts =
      let step = enters config world seat spot (λ any_world. Mine config any_world (at_spot (after_enter next (enter_next spot (world.memory (enter_touch seat spot).word)))) command fixed) shared own_facts in
      record {
        world = step.world;
        memory = step.memory;
        graph = step.graph;
        legal = tt;
        settles = λ reply is_settled. cc;
        shared = step.shared;
        mine = step.own;
        others = step.others;
      }

  -- the steps of an entering
  pub at_enter : (spot : EnterSpot) (next : Entered) → Row config world (at_spot (Entering spot next)) command fixed
  at_enter Raise next shared mine = lifted Raise next shared (mine_stored Raise next mine 1 Look refl)
  at_enter Look next shared mine = lifted Look next shared (by_pause (world.memory Pause == 0))
    where
      by_pause : (holds : Bool) → Mine config world (at_spot (after_enter next (if holds then Inside else Lower))) command fixed
      by_pause true = mine_inside next mine
      by_pause false = mine_on Look next mine Lower refl
  at_enter Lower next shared mine = lifted Lower next shared (mine_stored Lower next mine 0 Await refl)
  at_enter Await next shared mine = lifted Await next shared (by_pause (world.memory Pause == 0))
    where
      by_pause : (holds : Bool) → Mine config world (at_spot (after_enter next (if holds then Raise else Await))) command fixed
      by_pause true = mine_on Await next mine Raise refl
      by_pause false = mine_on Await next mine Await refl
  at_enter Inside next shared mine = absurd (false≢true mine.ready)

  -- the load of the phase
  pub at_load_phase : Row config world (at_spot LoadPhase) command fixed
  at_load_phase shared own_facts =
      looks config world (at_spot LoadPhase) Phase command fixed refl refl refl shared
      (record {
        seated = own_facts.seated;
        ready = and_from _ _ refl (lt-ltb _ _ (let phase_most = shared.phased.phase_is in omega (arith, phase_most)));
        marking = record { records = own_facts.marking.records; scans = own_facts.marking.scans; phase_is = λ phase_on. refl };
        copying = own_facts.copying;
        roots = own_facts.roots;
        rooms = own_facts.rooms;
        facts = own_facts.facts;
      })
