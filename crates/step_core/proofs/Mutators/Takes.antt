-- The steps of a mutator that takes room for an object: what taking room owes is what its place owes.
use Rattle.std.proofs.Common.{◌≡◌, ℕ, ◌+◌, Bool, true, false, Option, None, refl, sym, ◌∙◌, arith}
use Rattle.std.specs.Prelude.{◌&&◌}
use Rattle.std.proofs.lemmas.Bool.{and_from, and_parts, false≢true}
use Rattle.heap_words.specs.declared.config.Config.{Config}
use Rattle.heap_words.specs.Words.{Top}
use Rattle.heap_words.specs.Fits.{touch_fits}
use Rattle.shen_graph.specs.declared.command.Command.{Command}
use Rattle.shen_graph.specs.declared.command.Reply.{Reply}
use Rattle.heap_world.specs.World.{World, Shared}
use Rattle.heap_world.specs.Asking.{nothing}
use Rattle.heap_world.specs.Rely.{Keeps}
use Rattle.heap_world.specs.Part.{SameWork}
use Rattle.alloc_buffers.specs.declared.spot.TakeSpot.{TakeSpot}
use Rattle.alloc_buffers.specs.declared.spot.TakeSpot.TheVariants.{Ended}
use Rattle.alloc_buffers.specs.declared.spot.Taken.TheVariants.{At, NoRoom}
use Rattle.alloc_buffers.specs.declared.spot.Kind.TheVariants.{Fresh}
use Rattle.alloc_buffers.specs.Rows as takes
use Rattle.alloc_buffers.specs.Facts.{CanTake}
use Rattle.alloc_buffers.proofs.Takes.{TakeStep, each_take}
use Rattle.mutator.specs.declared.spot.Spot.{Spot}
use Rattle.mutator.specs.declared.spot.Spot.TheVariants.{Ended, Making}
use Rattle.mutator.specs.declared.makes.MakeSpot.TheVariants as make
use Rattle.mutator.specs.declared.spot.Kept.{Kept}
use Rattle.shen_graph.specs.declared.order.Order.TheVariants.{Nothing}
use Rattle.mutator.specs.Commands.{refs_of, nums_of}
use Rattle.mutator.specs.Rows.{Mutating, after_take}
use Rattle.mutator.specs.Fit.{is_next_object, is_going}
use Rattle.step_core.proofs.Machines.Stepped.{HasMarkingBy, HasCopyingBy, Mine, Row, Stepped}
use Rattle.step_core.proofs.Machines.Stable.{root_stays, asked_stays, seated_stays}
use Rattle.step_core.proofs.Mutators.Spots.{mutator_at}
use Rattle.step_core.proofs.Machines.Ready.{seated_waiting, taking_ready, word_ready, request_ready}

-- a taking that goes on has not ended
not_ended : (take : TakeSpot) → is_going take ≡ true → takes.is_ended take ≡ false
not_ended (Ended taken end) take_going = absurd (false≢true take_going)
not_ended _ take_going = refl

module _ (config : Config) (world : World) (seat made : ℕ) (kept : Kept) (command : Command) (fixed : Option Reply) where
  abbrev at_spot : Spot → Mutating
  at_spot spot = mutator_at seat made kept spot

  -- how many references the command's object has
  abbrev refs : ℕ
  refs = refs_of kept.command

  -- and how many numbers
  abbrev nums : ℕ
  nums = nums_of kept.command

  module _ (take : TakeSpot) (own_facts : Mine config world (at_spot (Making (make.Taking take))) command fixed) where
    abbrev words : ℕ
    words = 3 + refs + nums

    -- the parts of its readiness: the access of the taking can be made, it goes on, and its numbers fit
    ready_parts : (touch_fits config (takes.touch_at seat words take) ≡ true) × (is_going take ≡ true) × (takes.numbers_fit config words take ≡ true)
    ready_parts =
        let both_tests = and_parts (touch_fits config (takes.touch_at seat words take)) (is_next_object made refs nums && (is_going take && takes.numbers_fit config words take)) own_facts.ready in
        let inner = and_parts (is_going take) (takes.numbers_fit config words take) (and_parts (is_next_object made refs nums) (is_going take && takes.numbers_fit config words take) both_tests.1).1 in
        (both_tests.0, inner.0, inner.1)

    -- so it has not ended
    going_now : takes.is_ended take ≡ false
    going_now = not_ended take ready_parts.1

    -- a mutator that takes room for an object can take it
    can_take : CanTake config world seat words take
    can_take = record {
      seated = (let seat_within = own_facts.seated.below in omega (arith, seat_within));
      least = omega arith;
      most = (let few_refs = own_facts.facts.0.few_refs in let few_nums = own_facts.facts.0.few_nums in omega (arith, few_refs, few_nums));
      ready = and_from _ _ ready_parts.0 ready_parts.2;
      facts = own_facts.facts.1;
      rooms = own_facts.rooms;
      records_none = own_facts.marking.records;
      scans_none = own_facts.marking.scans;
    }

    -- what it counts on of marking at another spot
    marking_at : (next : TakeSpot) (next_world : World) (knows : Bool) → Keeps config seat world next_world → CanTake config next_world seat words next → HasMarkingBy next_world seat None kept.phase knows
    marking_at next next_world knows world_kept can_take = record { records = can_take.records_none; scans = can_take.scans_none; phase_is = λ is_marking. own_facts.marking.phase_is refl ∙ sym world_kept.marks.phase }

    -- and of evacuation
    copying_at : (next_world : World) (knows : Bool) → Keeps config seat world next_world → SameWork world next_world seat → HasCopyingBy next_world seat false kept.cset knows
    copying_at next_world knows world_kept work = record {
      copies_is = work.copying ∙ own_facts.copying.copies_is;
      works_none = work.working ∙ own_facts.copying.works_none;
      set_is = λ is_moving. own_facts.copying.set_is refl ∙ sym world_kept.copies.cset;
    }

    -- what it counts on at another spot of the taking
    mine_at : (next : TakeSpot) (next_world : World) → is_going next ≡ true → Keeps config seat world next_world → SameWork world next_world seat → CanTake config next_world seat words next
        → Mine config next_world (at_spot (Making (make.Taking next))) command fixed
    mine_at next next_world next_going world_kept work can_take = record {
      seated = seated_stays config world next_world seat world_kept made false own_facts.seated;
      ready = (let ready_both = and_parts _ _ can_take.ready in taking_ready config seat made kept command fixed own_facts.facts.0 next ready_both.0 next_going ready_both.1);
      marking = marking_at next next_world true world_kept can_take;
      copying = copying_at next_world true world_kept work;
      roots = λ index index_below. rw (world_kept.root_words index) (root_stays config world next_world seat world_kept _ index (own_facts.roots index index_below));
      rooms = can_take.rooms;
      facts = (own_facts.facts.0, can_take.facts);
    }

    -- what it counts on after a step of the taking: with room in hand it goes on with the object's words, and without room it asks
    -- for the object
    mine_then : (next : TakeSpot) (next_world : World) → Shared config next_world → Keeps config seat world next_world → SameWork world next_world seat → CanTake config next_world seat words next → Mine config next_world (at_spot (after_take next)) command fixed
    mine_then (Ended NoRoom end) next_world shared world_kept work can_take = record {
      seated = seated_waiting config next_world seat made false (seated_stays config world next_world seat world_kept made false own_facts.seated);
      ready = request_ready config seat made kept command fixed own_facts.facts.0 own_facts.seated.below;
      marking = marking_at (Ended NoRoom end) next_world false world_kept can_take;
      copying = copying_at next_world false world_kept work;
      roots = λ index index_below. rw (world_kept.root_words index) (root_stays config world next_world seat world_kept _ index (own_facts.roots index index_below));
      rooms = can_take.rooms;
      facts = (own_facts.facts.0, asked_stays config world next_world seat world_kept nothing (own_facts.seated.unasked refl));
    }
    mine_then (Ended (At address) end) next_world shared world_kept work can_take = record {
      seated = seated_stays config world next_world seat world_kept made false own_facts.seated;
      ready = word_ready config seat made kept command fixed own_facts.facts.0 (λ region. next_world.memory (Top region)) next_world.block shared.parsable.plotted address can_take.facts.here own_facts.seated.below 0 (omega arith);
      marking = marking_at (Ended (At address) end) next_world true world_kept can_take;
      copying = copying_at next_world true world_kept work;
      roots = λ index index_below. rw (world_kept.root_words index) (root_stays config world next_world seat world_kept _ index (own_facts.roots index index_below));
      rooms = can_take.rooms;
      facts = (own_facts.facts.0, record { room = can_take.facts.here; within = omega arith; stored = λ offset index_below. absurd (omega arith) }, omega arith);
    }
    mine_then next next_world shared world_kept work can_take = mine_at next next_world refl world_kept work can_take

    -- the step of the taking is a step of the mutator
    lifted : TakeStep config world seat words Fresh take → Stepped config world (at_spot (Making (make.Taking take))) command Nothing fixed
    lifted step = record {
      world = step.world;
      memory = step.memory;
      graph = step.graph;
      legal = tt;
      settles = λ settled_reply reply_settled. cc;
      shared = step.shared;
      mine = mine_then (takes.next_at config words Fresh take (world.memory (takes.touch_at seat words take).word)) step.world step.shared step.keeps step.own.1 step.own.0;
      others = step.others;
    }

  -- the steps of a taking of room
  pub at_taking : (take : TakeSpot) → Row config world (at_spot (Making (make.Taking take))) command fixed
  at_taking take shared mine =
      lifted take mine
      (each_take config world seat (3 + refs + nums) Fresh take (going_now take mine) shared (can_take take mine))
