-- What holds of machines, by their roles: each lemma has one clause a role.
use Rattle.std.proofs.Common.{◌≡◌, ◌≢◌, ℕ, ◌+◌, ◌<◌, ◌⊎◌, inr, ⊎_elim, Bool, true, false, List, [], Option, Some, None, refl, sym, ap, ◌∙◌, subst, arith}
use Rattle.std.specs.Prelude.{◌==◌, ◌&&◌, nat_lt, get_or, length, slice_get, if◌then◌else◌}
use Rattle.std.proofs.Math.Bool.{Bool-set}
use Rattle.std.proofs.lemmas.Bool.{and_from, and_parts, lt-ltb, ltb-true}
use Rattle.std.proofs.lemmas.Bool.Decides.{nat_tests}
use Rattle.std.proofs.lemmas.Option.{slice_get-get_or}
use Rattle.std.proofs.Math.Path.{fun_ext}
use Rattle.std.proofs.lemmas.List.{append-nil}
use Rattle.shen_graph.proofs.Bools.{false_from_flip}
use Rattle.heap_words.specs.declared.config.Config.{Config}
use Rattle.heap_words.specs.Words.{Phase, Cset, Evac, Root, Answer, view, Word, Free, is_word, is_image}
use Rattle.heap_words.specs.Ranges.{seat_count}
use Rattle.shen_graph.specs.declared.command.Command.{Command}
use Rattle.shen_graph.specs.declared.command.Command.TheVariants.{Gc}
use Rattle.shen_graph.specs.declared.command.Reply.{Reply}
use Rattle.shen_graph.specs.declared.command.Reply.TheVariants.{Full}
use Rattle.regions.specs.Tops.{sum_below}
use Rattle.shen_graph.specs.History.{Entry, of_thread}
use Rattle.shen_graph.specs.Crowd.{words_asked}
use Rattle.shen_graph.specs.declared.order.Order.{Order}
use Rattle.shen_graph.specs.declared.order.Order.TheVariants.{Nothing, Begin, End, Hint}
use Rattle.shen_graph.specs.Order.{hint_in}
use Rattle.shen_graph.specs.Graph.{Graph}
use Rattle.handshake.specs.Standing.{outside, is_within, control_seat}
use Rattle.handshake.specs.Obeys.{Obeys}
use Rattle.handshake.specs.Left.{Counts}
use Rattle.handshake.specs.Ending.{KeepsEnd}
use Rattle.mutator.specs.declared.spot.Kept.{Kept}
use Rattle.mutator.specs.declared.spot.Spot.{Spot}
use Rattle.mutator.specs.declared.spot.Spot.TheVariants.{Rest, Ended, Waiting}
use Rattle.mutator.specs.declared.waits.WaitSpot.TheVariants as wait
use Rattle.mutator.specs.Orders.{takes_commands, is_between_calls, takes_at, is_valid}
use Rattle.mutator.specs.Rows.{Mutating, touch_of, touch_at, answer_at}
use Rattle.heap_words.specs.declared.access.Took.{Took}
use Rattle.heap_words.specs.declared.access.Took.TheVariants.{Done}
use Rattle.heap_words.proofs.Stores.{is_word_from}
use Rattle.heap_words.specs.Touch.{Touch, Form, touch, placed, touched}
use Rattle.mutator.specs.Fit.{IsReady}
use Rattle.heap_world.specs.World.{World, Points, UsableIn, AreUsable, Shared}
use Rattle.heap_world.specs.Asking.{IsAsked, nothing}
use Rattle.heap_world.specs.Represents.{NobodyMarks, NobodyCopies}
use Rattle.heap_world.specs.Rely.{Rely}
use Rattle.heap_world.specs.Change.{Change}
use Rattle.collector_rows.specs.HelperRows as help
use Rattle.collector_rows.specs.HelperRows.{Helping}
use Rattle.collector_rows.proofs.HelperHinted.{help_hinted_ready}
use Rattle.collector_rows.proofs.ControlHinted.{control_hinted_ready}
use Rattle.collector_rows.specs.ControlRows as controls
use Rattle.heap_words.specs.declared.access.Access.{Access}
use Rattle.step_core.proofs.Machines.Hinting.{help_hinted_is, help_hinted_stands, help_hinted_seat, help_hinted_gone, control_hinted_stands, control_hinted_gone}
use Rattle.collector_rows.specs.HelperReady.{spot_fits, help_ready}
use Rattle.collector_rows.specs.ControlRows.{Controlling, is_gone, control_says, word_stored, stored_next}
use Rattle.collector_rows.specs.ControlReady.{is_ready}
use Rattle.step_core.specs.Actor.{Machine, mutating, helping, controlling, Actor, fresh_helper, command_by}
use Rattle.step_core.specs.Machines.{takes_of, is_for_working, helping_by, controlling_by, plan_of, machine_after, answer_of, next_order, order_for, is_mutating, may_begin, has_ended_of, standing_of, HasNumber, IsIdle, IsFitFor}
use Rattle.step_core.specs.Settled.{control_number}
use Rattle.step_core.specs.Standing.{standing_at, help_standing}
use Rattle.step_core.proofs.Machines.Stepped.{HasMarkingBy, HasCopyingBy, Mine}
use Rattle.step_core.proofs.Machines.Owed.{IsSeen, IsShort, IsThread, IsHelper, IsResting, HelpFacts, ControlFacts, IsAim, IsOfExtent, IsMachine, words_promised}
use Rattle.step_core.proofs.Helpers.Stable.{help_stays, control_stays, rests_outside, help_outside, help_word, help_leaves_image}
use Rattle.step_core.proofs.Mutators.Ordered.{order_word}
use Rattle.step_core.proofs.Mutators.Outside.{outside_touch}
use Rattle.step_core.proofs.Helpers.GoOn.{helps_on, goes_on}
use Rattle.step_core.proofs.Machines.FitProps.{whole_is_prop, unit_is_prop, helpers_is_prop, part_is_prop, ends_is_prop}
use Rattle.step_core.proofs.Mutators.Within.{spares_outside, records_outside, copies_outside}
use Rattle.step_core.proofs.Handshake.Mutator.{has_not_ended, mutator_obeys, mutator_counts, ready_fits, ready_word}
use Rattle.step_core.proofs.Handshake.Helper.{help_obeys, help_counts, help_not_end}
use Rattle.step_core.proofs.Handshake.Control.{control_obeys, control_counts}
use Rattle.step_core.proofs.Handshake.EndWord.{not_end, control_keeps_end}
use Rattle.step_core.proofs.Mutators.Spots.{mutator_at}
use Rattle.step_core.proofs.Machines.Ready.{rest_ready}
use Rattle.step_core.proofs.Machines.Stable.{mine_stays}
use Rattle.alloc_buffers.specs.Facts.{OnlySpares}

-- what counts of answers and of the graph is the same in two worlds
pub record CountsTheSame (world other_world : World) : Type 0 where
  pub graph : other_world.graph ≡ world.graph
  pub promised : (t : ℕ) → words_promised other_world.memory t ≡ words_promised world.memory t

-- so crowding stays
pub short_stays : (config : Config) (world next_world : World) (thread words : ℕ) → CountsTheSame world next_world → IsShort config world.memory world.graph thread words → IsShort config next_world.memory next_world.graph thread words
short_stays config world next_world thread words counts_same short_before =
    let sums : sum_below (λ mutator. if mutator == thread then 0 else words_promised next_world.memory mutator) config.mutators ≡ sum_below (λ mutator. if mutator == thread then 0 else words_promised world.memory mutator) config.mutators =
    ap (λ f. sum_below (λ mutator. if mutator == thread then 0 else f mutator) config.mutators) (fun_ext counts_same.promised) in
    record {
      names = short_before.names;
      held = short_before.held;
      pinned = short_before.pinned;
      reach = rw counts_same.graph short_before.reach;
      held_is = rw counts_same.graph short_before.held_is;
      pinned_is = rw counts_same.graph short_before.pinned_is;
      crowd = rw (counts_same.graph, sums) short_before.crowd;
    }

-- What holds of a machine stays while another leads to a world that it can rely on. Its answer in the table stays, and either
-- that is the one that counts, or nothing changes by which crowding is measured; and what the control has read or written stays so.
pub record StaysWith (config : Config) (words words_then : List ℕ) (world next_world : World) (mutator : ℕ) (machine : Machine) : Type 0 where
  pub rely : Rely config mutator world next_world
  pub answer : view config words_then (Answer mutator) ≡ view config words (Answer mutator)
  pub counts : (view config words (Answer mutator) ≡ world.memory (Answer mutator)) ⊎ CountsTheSame world next_world
  pub aims : (control : Controlling) → machine ≡ controlling control → IsAim config words control.spot control.image → IsAim config words_then control.spot control.image

-- an answer stays with what is settled of it
pub seen_stays : (raw_answer raw_then shown_answer now_then : ℕ) (fixed : Option Reply) → raw_then ≡ raw_answer → now_then ≡ shown_answer → IsSeen raw_answer shown_answer fixed → IsSeen raw_then now_then fixed
seen_stays raw_answer raw_then shown_answer now_then fixed raws nows answer_seen = subst (λ raw_answer. IsSeen raw_answer now_then fixed) (sym raws) (subst (λ answer_now. IsSeen raw_answer answer_now fixed) (sym nows) answer_seen)

-- an answer that the heap is full, which counts and stands in the table, is settled
pub full_settled : (raw_answer shown_answer : ℕ) (fixed : Option Reply) → IsSeen raw_answer shown_answer fixed → raw_answer ≡ shown_answer → shown_answer ≡ 1 → fixed ≡ None → ⊥
full_settled raw_answer shown_answer fixed answer_seen same_answer full_answer unsettled = ⊎_elim
    (λ (full_seen : (raw_answer ≡ 1) × (fixed ≡ Some Full)). absurd (let same_reply = sym unsettled ∙ full_seen.1 in cc))
    (λ (none_seen : (raw_answer ≡ 0) × (fixed ≡ None)). omega (arith, none_seen.0, same_answer, full_answer))
    (answer_seen.full full_answer)

pub machine_stays : (config : Config) (words words_then : List ℕ) (world next_world : World) (entries entries_then : List Entry) (mutator : ℕ) (actor : Actor) (machine : Machine) → Shared config world
    → StaysWith config words words_then world next_world mutator machine → entries_then ≡ entries → IsMachine config words world entries mutator actor machine → IsMachine config words_then next_world entries_then mutator actor machine
machine_stays config words words_then world next_world entries entries_then mutator actor (mutating acting_mutator) shared stays same_entries machine_is = record {
  fixed = machine_is.fixed;
  number_is = machine_is.number_is;
  valid = machine_is.valid;
  mine = mine_stays config world next_world acting_mutator actor.command machine_is.fixed shared (subst (λ seat. Rely config seat world next_world) (sym machine_is.number_is) stays.rely) machine_is.mine;
  seen = seen_stays _ _ _ _ machine_is.fixed stays.answer stays.rely.answer machine_is.seen;
  short = λ answer_full unsettled. ⊎_elim
      (λ (whole_answer : view config words (Answer mutator) ≡ world.memory (Answer mutator)). absurd (full_settled _ _ machine_is.fixed machine_is.seen whole_answer (sym stays.rely.answer ∙ answer_full) unsettled))
      (λ (counts : CountsTheSame world next_world). short_stays config world next_world mutator (words_asked (Some actor.command)) counts (machine_is.short (sym stays.rely.answer ∙ answer_full) unsettled))
      stays.counts;
  entries_are = same_entries ∙ machine_is.entries_are;
}
machine_stays config words words_then world next_world entries entries_then mutator actor (helping helper) shared stays same_entries machine_is =
    record {
      number_is = machine_is.number_is;
      ready = machine_is.ready;
      facts = help_stays config world next_world mutator helper.spot shared stays.rely machine_is.facts;
      least = machine_is.least;
      below = machine_is.below;
    }
machine_stays config words words_then world next_world entries entries_then mutator actor (controlling control) shared stays same_entries machine_is =
    record {
      number_is = machine_is.number_is;
      ready = machine_is.ready;
      phase_is = machine_is.phase_is ∙ sym stays.rely.marks.keeps.phase;
      set_is = machine_is.set_is ∙ sym stays.rely.copies.keeps.cset;
      facts = control_stays config world next_world mutator control.spot shared stays.rely machine_is.facts;
      aims = stays.aims control refl machine_is.aims;
      extent_is = machine_is.extent_is;
    }

-- a machine has a number of its role
pub number_of : (config : Config) (words : List ℕ) (world : World) (entries : List Entry) (number : ℕ) (actor : Actor) (machine : Machine) → IsMachine config words world entries number actor machine → HasNumber config number machine
number_of config words world entries number actor (mutating mutator) machine_is = (machine_is.number_is, subst (λ seat. seat < config.mutators) machine_is.number_is machine_is.mine.seated.below)
number_of config words world entries number actor (helping helper) machine_is = (machine_is.number_is, machine_is.least, machine_is.below)
number_of config words world entries number actor (controlling control) machine_is = machine_is.number_is

-- that of a mutator's number is a mutator
pub mutator_of : (config : Config) (its_number : ℕ) (machine : Machine) → HasNumber config its_number machine → its_number < config.mutators → (mutator : Mutating) × (machine ≡ mutating mutator)
mutator_of config its_number (mutating mutator) number mutator_number = (mutator, refl)
mutator_of config mutator (helping helper) number mutator_number = absurd (omega (arith, number.1, mutator_number))
mutator_of config mutator (controlling control) number mutator_number = absurd (omega (arith, number, mutator_number))

-- and that of the control's number is the control
pub control_of : (config : Config) (its_number : ℕ) (machine : Machine) → HasNumber config its_number machine → its_number ≡ config.mutators + config.helpers → (control : Controlling) × (machine ≡ controlling control)
control_of config its_number (mutating mutator) number control_is = absurd (let number_below = number.1 in omega (arith, number_below, control_is))
control_of config its_number (helping helper) number control_is = absurd (let number_below = number.2 in omega (arith, number_below, control_is))
control_of config its_number (controlling control) number control_is = (control, refl)

-- a machine is a mutator where its number is one of a mutator, and nowhere else
pub role_of : (config : Config) (number : ℕ) (machine : Machine) → HasNumber config number machine → is_mutating machine ≡ nat_lt number config.mutators
role_of config number (mutating mutator) has_number = grind (arith, nat_tests, has_number.1)
role_of config number (helping helper) has_number = grind (arith, nat_tests, has_number.0)
role_of config number (controlling control) has_number = grind (arith, nat_tests, has_number)

-- an order for who works begins no command
no_command : (hints : Bool) (order : Order) (holds : Bool) (command : Command) → (is_for_working hints order && holds) ≡ true → command_by order command ≡ command
no_command hints Nothing holds command takes = refl
no_command hints (Begin begun) holds command takes = absurd (cc (takes))
no_command hints End holds command takes = refl
no_command hints (Hint address) holds command takes = refl

-- only a mutator takes a command
pub takes_no_command : (machine : Machine) (order : Order) (command : Command) → is_mutating machine ≡ false → takes_of machine order ≡ true → command_by order command ≡ command
takes_no_command (mutating mutator) order command no_mutator takes = absurd (cc (no_mutator))
takes_no_command (helping helper) order command no_mutator takes = no_command (help.takes_hint helper.spot) order _ command takes
takes_no_command (controlling control) order command no_mutator takes = no_command (controls.takes_hint control.spot) order _ command takes

-- a mutator that takes commands is outside
takes_outside : (spot : Spot) → takes_commands spot ≡ true → standing_at spot ≡ outside
takes_outside Rest takes = refl
takes_outside (Ended reply) takes = refl
takes_outside _ takes = absurd (cc (takes))

-- an idle machine of a seat is outside
pub idle_outside : (config : Config) (phase cset : ℕ) (graph : Graph) (number : ℕ) (machine : Machine) → HasNumber config number machine → IsIdle phase cset graph number machine → number < control_seat config → standing_of machine ≡ outside
idle_outside config phase cset graph number (mutating mutator) has_number is_idle seat_below = takes_outside mutator.spot is_idle.1
idle_outside config phase cset graph number (helping helper) has_number is_idle seat_below = ap help_standing is_idle
idle_outside config phase cset graph number (controlling control) has_number is_idle seat_below = absurd (omega (arith, has_number, seat_below))

-- A machine that is not in the heap rests, and the control where it is said to.
pub rests_there : (config : Config) (words : List ℕ) (world : World) (entries : List Entry) (seat : ℕ) (actor : Actor) (machine : Machine) → (seat ≢ control_number config → is_within (standing_of machine) ≡ false)
    → (seat ≡ control_number config → IsResting world seat) → IsMachine config words world entries seat actor machine → IsResting world seat
rests_there config words world entries seat actor (mutating mutator) outside_unless rests_still machine_is =
    let seat_below : seat < config.mutators = subst (λ given_number. given_number < config.mutators) machine_is.number_is machine_is.mine.seated.below in
    let is_outside = outside_unless (λ is_control. omega (arith, seat_below, is_control)) in
    subst (IsResting world) machine_is.number_is
    (record {
      records_none = machine_is.mine.marking.records ∙ records_outside mutator.spot is_outside;
      scans_none = machine_is.mine.marking.scans;
      copies_none = machine_is.mine.copying.copies_is ∙ copies_outside mutator.spot is_outside;
      works_none = machine_is.mine.copying.works_none;
      rooms = λ address piece piece_there room. spares_outside mutator.seat mutator.kept mutator.spot address piece is_outside (machine_is.mine.rooms address piece piece_there room);
    })
rests_there config words world entries seat actor (helping helper) outside_unless rests_still machine_is = rests_outside config world seat helper.spot (outside_unless (λ is_control. (let seat_below = machine_is.below in omega (arith, seat_below, is_control)))) machine_is.facts
rests_there config words world entries seat actor (controlling control) outside_unless rests_still machine_is = rests_still machine_is.number_is

-- What holds of a machine but the control that is not in the heap holds in each world in which it rests, of a mutator if that is known.
pub outside_goes_on : (config : Config) (words : List ℕ) (world world_then : World) (entries : List Entry) (seat : ℕ) (actor : Actor) (machine : Machine) → seat ≢ control_number config → is_within (standing_of machine) ≡ false
    → (seat < seat_count config.mutators config.helpers → IsResting world_then seat) → ((mutator : Mutating) → machine ≡ mutating mutator → IsThread config words world entries seat actor mutator → IsThread config words world_then entries seat actor mutator)
    → IsMachine config words world entries seat actor machine → IsMachine config words world_then entries seat actor machine
outside_goes_on config words world world_then entries seat actor (mutating mutator) not_control stands_outside rests threads machine_is = threads mutator refl machine_is
outside_goes_on config words world world_then entries seat actor (helping helper) not_control stands_outside rests threads machine_is = record {
  number_is = machine_is.number_is;
  ready = machine_is.ready;
  facts = help_outside config world_then seat helper.spot stands_outside (rests (let seat_below = machine_is.below in omega (arith, seat_below)));
  least = machine_is.least;
  below = machine_is.below;
}
outside_goes_on config words world world_then entries seat actor (controlling control) not_control stands_outside rests threads machine_is = absurd (not_control machine_is.number_is)

-- what a mutator counts on that takes commands
rest_mine : (config : Config) (world : World) (seat made : ℕ) (kept_words : Kept) (command : Command) (spot : Spot) → takes_commands spot ≡ true → seat < config.mutators → world.graph.count (seat + 1) ≡ made
    → ((index : ℕ) → index < 16 → Points world.block (world.memory (Root seat index)) (world.graph.root (seat + 1) index)) → OnlySpares world seat
    → IsAsked world.memory world.block world.graph.count seat nothing → HasMarkingBy world seat None kept_words.phase false → HasCopyingBy world seat false kept_words.cset false → ((index : ℕ) → index < 16 → UsableIn config world (world.memory (Root seat index))) → Mine config world (mutator_at seat made kept_words spot) command None
rest_mine config world seat made kept_words command Rest spot_rests seat_below counted roots only_spares nothing_asked marking copying usable = record {
  seated = record { below = seat_below; counted = counted; usable = usable; unasked = λ not_marking. nothing_asked };
  ready = rest_ready config seat made kept_words Rest spot_rests seat_below;
  marking = marking;
  copying = copying;
  roots = roots;
  rooms = only_spares;
  facts = refl;
}
rest_mine config world seat made kept_words command (Ended reply) spot_rests seat_below counted roots only_spares nothing_asked marking copying usable = record {
  seated = record { below = seat_below; counted = counted; usable = usable; unasked = λ not_marking. nothing_asked };
  ready = rest_ready config seat made kept_words (Ended reply) spot_rests seat_below;
  marking = marking;
  copying = copying;
  roots = roots;
  rooms = only_spares;
  facts = refl;
}
rest_mine config world seat made kept_words command _ spot_rests seat_below counted roots only_spares nothing_asked marking copying usable = absurd cc

-- A world in which nobody has room but free words of its buffer, and nobody waits, marks or copies.
pub record IsAtRest (config : Config) (world : World) : Type 0 where
  pub roots : (mutator index : ℕ) → mutator < config.mutators → index < 16 → Points world.block (world.memory (Root mutator index)) (world.graph.root (mutator + 1) index)
  pub spares : (seat : ℕ) → OnlySpares world seat
  pub asked : (mutator : ℕ) → mutator < config.mutators → IsAsked world.memory world.block world.graph.count mutator nothing
  pub unmarking : NobodyMarks config world.ghost
  pub uncopying : NobodyCopies config world.ghost
  pub usable : AreUsable config (world.memory Cset) (world.memory Evac) world.block (λ mutator index. world.memory (Root mutator index))

-- in it a mutator counts on this of marking, while its call has not loaded the phase
pub unmarking_by : (config : Config) (world : World) (seat loaded : ℕ) → NobodyMarks config world.ghost → seat < config.mutators → HasMarkingBy world seat None loaded false
unmarking_by config world seat loaded unmarking seat_below = record { records = unmarking.records_none seat (omega (arith, seat_below)); scans = unmarking.scans_none seat (omega (arith, seat_below)); phase_is = λ not_loaded. absurd (cc (not_loaded)) }

-- and this of evacuation, while it has not loaded the collection set
pub uncopying_by : (config : Config) (world : World) (seat loaded : ℕ) → NobodyCopies config world.ghost → seat < config.mutators → HasCopyingBy world seat false loaded false
uncopying_by config world seat loaded uncopying seat_below =
    record { copies_is = uncopying.copies_none seat (omega (arith, seat_below)); works_none = uncopying.works_none seat (omega (arith, seat_below)); set_is = λ not_loaded. absurd (cc (not_loaded)) }

-- any machine rests there
pub rests_by : (config : Config) (world : World) (seat : ℕ) → NobodyMarks config world.ghost → NobodyCopies config world.ghost → OnlySpares world seat → seat < seat_count config.mutators config.helpers → IsResting world seat
rests_by config world seat unmarking uncopying only_spares seated = record {
  records_none = unmarking.records_none seat seated;
  scans_none = unmarking.scans_none seat seated;
  copies_none = uncopying.copies_none seat seated;
  works_none = uncopying.works_none seat seated;
  rooms = only_spares;
}

-- an idle machine that has ended no call, in such a world
pub machine_begins : (config : Config) (words : List ℕ) (world : World) (mutator : ℕ) (actor : Actor) (machine : Machine) → view config words ≡ world.memory → HasNumber config mutator machine → IsIdle (world.memory Phase) (world.memory Cset) world.graph mutator machine → actor.calls ≡ []
    → is_valid actor.command ≡ true → IsAtRest config world → IsMachine config words world [] mutator actor machine
machine_begins config words world mutator actor (mutating acting_mutator) same_words number idle calls valid_command rests =
    let number_below : acting_mutator.seat < config.mutators = subst (λ seat. seat < config.mutators) (sym number.0) number.1 in
    let unasked = rests.asked mutator number.1 in
    record {
      fixed = None;
      number_is = number.0;
      valid = valid_command;
      mine = rest_mine config world acting_mutator.seat acting_mutator.made acting_mutator.kept actor.command acting_mutator.spot idle.1 number_below (subst (λ seat. world.graph.count (seat + 1) ≡ acting_mutator.made) (sym number.0) idle.0)
          (λ index small. rests.roots acting_mutator.seat index number_below small) (rests.spares acting_mutator.seat) (rests.asked acting_mutator.seat number_below) (unmarking_by config world acting_mutator.seat acting_mutator.kept.phase rests.unmarking number_below)
          (uncopying_by config world acting_mutator.seat acting_mutator.kept.cset rests.uncopying number_below) (λ index small. rests.usable acting_mutator.seat index number_below small);
      seen = record {
        null = λ answer_now. ap (λ memory. memory (Answer mutator)) same_words ∙ answer_now;
        full = λ answer_now. absurd (let answer = unasked.1 in omega (arith, answer_now, answer));
        given = λ answer_now. absurd (let answer = unasked.1 in omega (arith, answer_now, answer));
      };
      short = λ answer_now unsettled. absurd (let answer = unasked.1 in omega (arith, answer_now, answer));
      entries_are = sym (append-nil actor.calls ∙ calls);
    }
machine_begins config words world mutator actor (helping helper) same_words number idle calls valid_command rests = record {
  number_is = number.0;
  ready = and_from _ _ (lt-ltb _ _ (subst (λ seat. seat < config.mutators + config.helpers) (sym number.0) number.2)) (subst (λ spot. spot_fits config helper.seat spot ≡ true) (sym idle) refl);
  facts = subst (λ spot. HelpFacts config world mutator spot) (sym idle) (rests_by config world mutator rests.unmarking rests.uncopying (rests.spares mutator) (let number_below = number.2 in omega (arith, number_below)));
  least = number.1;
  below = number.2;
}
machine_begins config words world mutator actor (controlling control) same_words number idle calls valid_command rests = record {
  number_is = number;
  ready = subst (λ spot. is_ready config spot ≡ true) (sym idle.0) refl;
  phase_is = idle.2;
  set_is = idle.3;
  facts = subst (λ spot. ControlFacts config world mutator spot) (sym idle.0) (rests_by config world mutator rests.unmarking rests.uncopying (rests.spares mutator) (omega (arith, number)));
  aims = subst (λ spot. IsAim config words spot control.image) (sym idle.0) tt;
  extent_is = subst (λ spot. IsOfExtent config control.phase spot control.image) (sym idle.0) tt;
}

-- The machines of a stage, by their numbers.
module _ (config : Config) (words : List ℕ) (world : World) (past_entries : List Entry) (machines : List Actor) (seats : length machines ≡ seat_count config.mutators config.helpers) where
  -- there is one of each number
  pub machine_there : (seat : ℕ) → seat < seat_count config.mutators config.helpers → (actor : Actor) × (slice_get machines seat ≡ Some actor)
  machine_there seat seat_below = (get_or machines seat (record { machine = fresh_helper 0; command = Gc; calls = [] }), slice_get-get_or machines seat _ (omega (arith, seat_below, seats)))

  -- and the first of them are mutators
  pub mutator_there : ((index : ℕ) (actor : Actor) → slice_get machines index ≡ Some actor → IsMachine config words world (of_thread past_entries (index + 1)) index actor actor.machine) → (mutator_number : ℕ) → mutator_number < config.mutators
      → (actor : Actor) × (mutator : Mutating) × (slice_get machines mutator_number ≡ Some actor) × (actor.machine ≡ mutating mutator) × IsThread config words world (of_thread past_entries (mutator_number + 1)) mutator_number actor mutator
  mutator_there all_known mutator mutator_below =
      let machine_found = machine_there mutator (omega (arith, mutator_below)) in
      let role = mutator_of config mutator machine_found.0.machine (number_of config words world (of_thread past_entries (mutator + 1)) mutator machine_found.0 machine_found.0.machine (all_known mutator machine_found.0 machine_found.1)) mutator_below in
      (machine_found.0, role.0, machine_found.1, role.1, subst (λ machine. IsMachine config words world (of_thread past_entries (mutator + 1)) mutator machine_found.0 machine) role.1 (all_known mutator machine_found.0 machine_found.1))

-- a machine can make its next access
abbrev pub CanGo : Config → Machine → Type 0
CanGo config (mutating mutator) = IsReady config mutator
CanGo config (helping helper) = help_ready config helper ≡ true
CanGo config (controlling control) = is_ready config control.spot ≡ true

-- a machine that is where it should be can make its next access
pub can_go : (config : Config) (words : List ℕ) (world : World) (entries : List Entry) (number : ℕ) (actor : Actor) (machine : Machine) → IsMachine config words world entries number actor machine → CanGo config machine
can_go config words world entries number actor (mutating mutator) machine_is = machine_is.mine.ready
can_go config words world entries number actor (helping helper) machine_is = machine_is.ready
can_go config words world entries number actor (controlling control) machine_is = machine_is.ready

-- whether it is a mutator that has not ended
abbrev pub is_left_of : Machine → Bool
is_left_of (mutating mutator) = has_not_ended mutator.spot
is_left_of _ = false

-- Each obeys the handshake, and counts.
module _ (change : Change) (config : Config) (number : ℕ) (order : Order) where
  pub machine_obeys : (machine : Machine) → HasNumber config number machine → takes_of machine order ≡ true → CanGo config machine
      → Obeys config number (standing_of machine) (plan_of config order machine) (λ got. standing_of (machine_after change config order got machine))
  machine_obeys (mutating mutator) has_number takes can_go =
      subst (λ seat. Obeys config seat (standing_of (mutating mutator)) (plan_of config order (mutating mutator)) (λ got. standing_of (machine_after change config order got (mutating mutator)))) has_number.0
      (mutator_obeys config mutator order takes can_go)
  machine_obeys (helping helper) has_number takes can_go =
      subst (λ stands. Obeys config number stands (plan_of config order (helping helper)) (λ got. standing_of (machine_after change config order got (helping helper)))) (help_hinted_stands config (hint_in order) helper)
      (helper_obeys (helping_by config order helper) (help_hinted_seat config (hint_in order) helper ∙ has_number.0) (help_hinted_ready config (hint_in order) helper can_go)
      (help_hinted_gone config (hint_in order) helper ∙ false_from_flip (help.is_gone helper.spot) (and_parts _ _ takes).1))
    where
      helper_obeys : (told_helper : Helping) → told_helper.seat ≡ number → help_ready config told_helper ≡ true → help.is_gone told_helper.spot ≡ false
          → Obeys config number (help_standing told_helper.spot) (placed config (help.help_touch config told_helper)) (λ got. help_standing (help.next_spot config told_helper.spot got))
      helper_obeys told_helper seat_is helper_ready helper_going =
          subst (λ helper_number. Obeys config helper_number (help_standing told_helper.spot) (placed config (help.help_touch config told_helper)) (λ got. help_standing (help.next_spot config told_helper.spot got))) seat_is
          (let spot_is_fit = and_parts (nat_lt told_helper.seat (config.mutators + config.helpers)) (spot_fits config told_helper.seat told_helper.spot) helper_ready in help_obeys config told_helper.seat (ltb-true told_helper.seat (config.mutators + config.helpers) spot_is_fit.0) told_helper.spot spot_is_fit.1 helper_going)
  machine_obeys (controlling control) has_number takes can_go =
      let told_control : Controlling = controlling_by config order control in
      subst (λ stands. Obeys config number stands (plan_of config order (controlling control)) (λ got. standing_of (machine_after change config order got (controlling control)))) (control_hinted_stands config (hint_in order) control)
      (control_obeys config number told_control.phase told_control.cset told_control.seen (stored_next config told_control.spot told_control.image) (word_stored told_control.spot told_control.image) told_control.spot (control_hinted_ready config (hint_in order) control can_go))

  pub machine_counts : (machine : Machine) → takes_of machine order ≡ true → CanGo config machine
      → Counts config (is_left_of machine) (plan_of config order machine) (λ got. is_left_of (machine_after change config order got machine))
  machine_counts (mutating mutator) takes can_go = mutator_counts config mutator order takes can_go
  machine_counts (helping helper) takes can_go =
      let told_machine : Helping = helping_by config order helper in
      let spot_ready = and_parts _ _ (help_hinted_ready config (hint_in order) helper can_go) in
      help_counts config told_machine.seat (ltb-true _ _ spot_ready.0) told_machine.spot spot_ready.1
  machine_counts (controlling control) takes can_go =
      let told_machine : Controlling = controlling_by config order control in
      control_counts config (word_stored told_machine.spot told_machine.image) told_machine.spot (control_hinted_ready config (hint_in order) control can_go)

-- a step of the control writes the word of the end where it ends, and no other does
pub machine_keeps_end : (change : Change) (config : Config) (given_order : Order) (machine : Machine) → takes_of machine given_order ≡ true → CanGo config machine
    → KeepsEnd config (has_ended_of machine) (plan_of config given_order machine) (λ got. has_ended_of (machine_after change config given_order got machine))
machine_keeps_end change config given_order (mutating mutator) takes can_go = inr (record { not_written = not_end config mutator given_order mutator.spot takes (ready_fits config mutator can_go) (ready_word config mutator can_go); same = λ got. refl })
machine_keeps_end change config given_order (helping helper) takes can_go =
    let told_machine : Helping = helping_by config given_order helper in
    let spot_ready = and_parts _ _ (help_hinted_ready config (hint_in given_order) helper can_go) in
    inr (record { not_written = help_not_end config told_machine.seat (ltb-true _ _ spot_ready.0) told_machine.spot spot_ready.1; same = λ got. refl })
machine_keeps_end change config given_order (controlling control) takes can_go =
    let told_machine : Controlling = controlling_by config given_order control in
    subst (λ has_ended. KeepsEnd config has_ended (plan_of config given_order (controlling control)) (λ got. has_ended_of (machine_after change config given_order got (controlling control)))) (control_hinted_gone config (hint_in given_order) control)
    (control_keeps_end config told_machine.phase told_machine.cset told_machine.seen (stored_next config told_machine.spot told_machine.image) (word_stored told_machine.spot told_machine.image) told_machine.spot (control_hinted_ready config (hint_in given_order) control can_go))

-- who is told nothing goes on, unless it has ended
turn_by_gone : (holds : Bool) → ◌≡◌ {A = Option Order} (if holds then None else Some Nothing) (if (if holds then false else true) then Some Nothing else None)
turn_by_gone true = refl
turn_by_gone false = refl

-- A machine without an order: where it may be given a command its turn is the next command's, or the end, and else it goes on
-- if it has a turn.
pub turn_in_call : (machine : Machine) (next_command : Option Command) → may_begin machine ≡ false → order_for next_command machine ≡ (if takes_of machine Nothing then Some Nothing else None)
turn_in_call (mutating mutator) next_command machine_busy = by_spot mutator.spot machine_busy
  where
    by_spot : (spot : Spot) → takes_commands spot ≡ false
        → ◌≡◌ {A = Option Order} (if takes_commands spot then Some (next_order next_command) else (if is_between_calls spot then None else Some Nothing)) (if takes_at spot mutator.made Nothing then Some Nothing else None)
    by_spot Rest spot_busy = absurd cc
    by_spot (Ended reply) spot_busy = absurd cc
    by_spot _ spot_busy = refl
turn_in_call (helping helper) next_command machine_busy = turn_by_gone (help.is_gone helper.spot)
turn_in_call (controlling control) next_command machine_busy = turn_by_gone (is_gone control.spot)

-- a machine that makes a step says something
pub says_some : (config : Config) (machine : Machine) (order : Order) (got : ℕ) → takes_of machine order ≡ true → (said_reply : Took) × (answer_of config order machine got ≡ Some said_reply)
says_some config (mutating mutator) order got takes = (answer_at config mutator.kept mutator.spot got, refl)
says_some config (helping helper) order got takes = (help.help_says config (helping_by config order helper) got, refl)
says_some config (controlling control) order got takes = (control_says config (controlling_by config order control) got, refl)

-- a number but the control's is below it
pub below_control : (config : Config) (its_number : ℕ) (machine : Machine) → HasNumber config its_number machine → (its_number ≡ control_number config → ⊥) → its_number < control_number config
below_control config its_number (mutating mutator) number not_control = (let number_below = number.1 in omega (arith, number_below))
below_control config its_number (helping helper) number not_control = number.2
below_control config its_number (controlling control) number not_control = absurd (not_control number)

-- an access of no word of the image leaves the free word as it is
free_stays : (memory : Word → ℕ) (word : Word) (form : Form) → is_image word ≡ false → touched memory (touch word form) Free ≡ memory Free
free_stays memory Free form no_image_word = absurd (cc (no_image_word))
free_stays memory _ form no_image_word = refl

-- The access of a machine to a word of the table leaves the free word as it is.
pub record LeavesFreeBy (config : Config) (access : Access) : Type 0 where
  pub touch : Touch
  pub inside : is_word config touch.word ≡ true
  pub plan : access ≡ placed config touch
  pub free : (memory : Word → ℕ) → touched memory touch Free ≡ memory Free

abbrev pub LeavesFree : Config → Order → Machine → Type 0
LeavesFree config order machine = LeavesFreeBy config (plan_of config order machine)

-- So it is with a machine but the control that is not in the heap.
pub outside_access : (config : Config) (words : List ℕ) (world : World) (entries : List Entry) (number : ℕ) (actor : Actor) (order : Order) (machine : Machine) → Shared config world → number ≢ control_number config → is_within (standing_of machine) ≡ false
    → takes_of machine order ≡ true → IsMachine config words world entries number actor machine → LeavesFree config order machine
outside_access config words world entries number actor order (mutating mutator) shared not_control machine_outside takes machine_is = record {
  touch = touch_of config mutator order;
  inside = order_word config mutator.seat mutator.made mutator.kept order mutator.spot machine_is.mine.seated.below machine_is.mine.ready takes;
  plan = refl;
  free = λ memory. ⊎_elim
      (λ (not_image : is_image (touch_of config mutator order).word ≡ false). free_stays memory (touch_of config mutator order).word (touch_of config mutator order).form not_image)
      (λ (polls : mutator.spot ≡ Waiting wait.Poll). subst (λ spot. touched memory (touch_at config mutator.seat mutator.made mutator.kept order spot) Free ≡ memory Free) (sym polls) refl)
      (outside_touch config mutator.seat mutator.made mutator.kept order mutator.spot machine_outside takes);
}
outside_access config words world entries number actor order (helping acting_helper) shared not_control machine_outside takes machine_is = helper_access (helping_by config order acting_helper) (help_hinted_is config world number (hint_in order) acting_helper machine_is) (ap is_within (help_hinted_stands config (hint_in order) acting_helper) ∙ machine_outside)
  where
    helper_access : (helper : Helping) → IsHelper config world number helper → is_within (help_standing helper.spot) ≡ false → LeavesFreeBy config (placed config (help.help_touch config helper))
    helper_access helper helper_is stands_outside = record {
      touch = help.help_touch config helper;
      inside = is_word_from config (help.help_touch config helper).word (help_word config world number helper shared helper_is);
      plan = refl;
      free = λ memory. free_stays memory (help.help_touch config helper).word (help.help_touch config helper).form (help_leaves_image config helper.seat helper.spot stands_outside);
    }
outside_access config words world entries number actor order (controlling control) shared not_control machine_outside takes machine_is = absurd (not_control machine_is.number_is)

-- no step but a mutator's ends a call
pub others_go_on : (config : Config) (order : Order) (machine : Machine) (got : ℕ) → is_mutating machine ≡ false → answer_of config order machine got ≡ Some Done → ⊥
others_go_on config order (mutating mutator) got no_mutator says_done = absurd (cc (no_mutator))
others_go_on config order (helping helper) got no_mutator says_done = helps_on config (helping_by config order helper).spot got (let is_done = says_done in cc)
others_go_on config order (controlling control) got no_mutator says_done = goes_on config (controlling_by config order control).seen (controlling_by config order control).spot got (let is_done = says_done in cc)

-- that a word is fit is one fact
pub fit_is_prop : (config : Config) (order : Order) (got : ℕ) (machine : Machine) → IsProp (IsFitFor config order got machine)
fit_is_prop config order got (mutating mutator) = hlevel (Bool-set, part_is_prop config mutator.seat mutator.kept mutator.spot got, ends_is_prop order got)
fit_is_prop config order got (helping helper) = helpers_is_prop config (helping_by config order helper).seat (helping_by config order helper).spot got
fit_is_prop config order got (controlling control) = hlevel (whole_is_prop config control.phase control.spot control.image got, unit_is_prop config (controlling_by config order control).spot got)
