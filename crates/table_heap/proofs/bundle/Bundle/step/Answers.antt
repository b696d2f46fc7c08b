use Rattle.std.proofs.Common.{◌≡◌, ◌<◌, true, not, Some, refl, sym, ap, ◌∙◌, subst, arith}
use Rattle.std.specs.Prelude.{slice_set}
use Rattle.std.specs.Option.{option_copied_mut}
use Rattle.std.proofs.lemmas.Bool.{false≢true}
use Rattle.std.proofs.lemmas.List.{length-set}
use Rattle.heap_words.specs.Access.{table_index}
use Rattle.heap_words.specs.Words.{table_words}
use Rattle.shen_graph.specs.declared.order.Order.TheVariants.{Nothing}
use Rattle.shared_table.specs.Counted.{uncounted_seat}
use Rattle.shared_table.specs.Views.{kept_in_view}
use Rattle.shared_table.proofs.Counted.{can_counted, took_uncounted}
use Rattle.shared_table.proofs.Kept.{kept-set}
use Rattle.shared_table.proofs.Numbers.{same_none}
use Rattle.heap_machines.specs.Answer.{stepped_of, stepped_by, says}
use Rattle.heap_machines.specs.Shown.{shown, order_of, config_of, no_machine}
use Rattle.heap_machines.specs.Roles.{is_mutating}
use Rattle.step_core.specs.Machines.{takes_of, place_in, reply_in}
use Rattle.heap_words.specs.declared.config.Config.{Config}
use Rattle.shared_table.specs.Rule.{Took}
use Rattle.table_heap.specs.declared.key.HeapKey.{HeapKey}
use Rattle.table_heap.specs.Core.{heap_kind, start_of_key}
use Rattle.table_heap.specs.State as State
use Rattle.table_heap.specs.State.{order_at}
use Rattle.table_heap.proofs.MachineUnder.{within, read_here, never_none, shows_as, put_same, put_there}
use Rattle.table_heap.proofs.Said.{never_idle, done_only}
use Rattle.table_heap.proofs.Stepping.{can, can_as, took_as, took_in, step_counted, fits, numbers_stay, kept_after, role_after, heap_put}
use Rattle.std.specs.Prelude.{IfSome}
use Rattle.heap_words.specs.Words.{Heap, IsWord}
use Rattle.step_core.specs.Machines.{greys_of}
use Rattle.table_heap.proofs.Greyed.{greys_put, greys_step}
use Rattle.table_heap.proofs.bundle.Bundle.step.Goals as goal

pub index_mut-requires : goal.index_mut-requires
index_mut-requires c = let number_inside = within shown c.args.self.now.machines.items c.args.number c.requires.here in omega arith

pub index_mut-requires-2 : goal.index_mut-requires-2
index_mut-requires-2 c =
    let bundle = c.args.self.now in
    let number_inside = within shown bundle.machines.items c.args.number c.requires.here in
    omega (arith, number_inside, bundle.greys.numbers)

pub unreachable-requires : goal.unreachable-requires
unreachable-requires c =
    never_none shown c.args.self.now.machines.items c.args.number c.index_mut.result.now c.requires.here c.index_mut.ensures.value
    (sym c.as_mut.ensures.value ∙ ap option_copied_mut c.in_default.is)

-- ---- an idle machine

pub invariant_of-self : goal.invariant_of-self
invariant_of-self c =
    let bundle = c.args.self.now in
    let machine = c.in-Some.machine.now in
    let number_inside = within shown bundle.machines.items c.args.number c.requires.here in
    let machine_there = read_here shown bundle.machines.items c.args.number c.index_mut.result.now machine number_inside c.index_mut.ensures.value (sym c.as_mut.ensures.value ∙ ap option_copied_mut c.in-Some.is) in
    record {
      same_sizes = bundle.same_sizes;
      seats = length-set bundle.machines.items _ _ ∙ bundle.seats;
      kept = bundle.kept ∙ sym (put_same shown bundle.machines.items c.args.number machine machine machine_there refl);
      slots = bundle.slots;
      of_heap = heap_put bundle.config bundle.machines.items c.args.number machine machine machine_there refl refl bundle.of_heap;
      greys = greys_put bundle.config bundle.machines.items bundle.greyed.items c.args.number machine machine machine_there bundle.greys;
      hints_of_heap = bundle.hints_of_heap;
      thieves_of_heap = bundle.thieves_of_heap;
    }

pub returns-then-is_idle-clause-idle : goal.returns-then-is_idle-clause-idle
returns-then-is_idle-clause-idle c =
    let bundle = c.args.self.now in
    let machine = c.in-Some.machine.now in
    let number_inside = within shown bundle.machines.items c.args.number c.requires.here in
    let machine_there = read_here shown bundle.machines.items c.args.number c.index_mut.result.now machine number_inside c.index_mut.ensures.value (sym c.as_mut.ensures.value ∙ ap option_copied_mut c.in-Some.is) in
    let shown_at = shows_as shown bundle.machines.items c.args.number machine no_machine machine_there in
    let order_given = shows_as order_of bundle.machines.items c.args.number machine Nothing machine_there in (
      (λ says_idle. ap (λ asked_machine. takes_of asked_machine (order_at bundle c.args.number)) shown_at ∙ ap (takes_of (shown machine)) order_given ∙ c.is_idle.ensures ∙ ap not c.if-is_idle.true),
      (λ no_turn. refl),
    )

pub returns-then-is_idle-clause-event : goal.returns-then-is_idle-clause-event
returns-then-is_idle-clause-event c = λ turn.
    let bundle = c.args.self.now in
    let machine = c.in-Some.machine.now in
    let number_inside = within shown bundle.machines.items c.args.number c.requires.here in
    let machine_there = read_here shown bundle.machines.items c.args.number c.index_mut.result.now machine number_inside c.index_mut.ensures.value (sym c.as_mut.ensures.value ∙ ap option_copied_mut c.in-Some.is) in
    let shown_at = shows_as shown bundle.machines.items c.args.number machine no_machine machine_there in
    let order_given = shows_as order_of bundle.machines.items c.args.number machine Nothing machine_there in
    absurd (false≢true (sym (ap (λ asked_machine. takes_of asked_machine (order_at bundle c.args.number)) shown_at ∙ ap (takes_of (shown machine)) order_given ∙ c.is_idle.ensures ∙ ap not c.if-is_idle.true) ∙ turn))

pub returns-then-is_idle-clause-unchanged : goal.returns-then-is_idle-clause-unchanged
returns-then-is_idle-clause-unchanged c = λ no_turn.
    let bundle = c.args.self.now in
    let machine = c.in-Some.machine.now in
    let number_inside = within shown bundle.machines.items c.args.number c.requires.here in
    let machine_there = read_here shown bundle.machines.items c.args.number c.index_mut.result.now machine number_inside c.index_mut.ensures.value (sym c.as_mut.ensures.value ∙ ap option_copied_mut c.in-Some.is) in
    record {
      unmoved = record { same = record { table = refl; config = refl; key = refl; numbers = same_none (State.view_of bundle) }; view = refl; steps = refl; greyed = refl };
      orders = put_same order_of bundle.machines.items c.args.number machine machine machine_there refl;
    }

pub returns-then-is_idle-clause-same : goal.returns-then-is_idle-clause-same
returns-then-is_idle-clause-same c = record { table = refl; config = refl; key = refl; numbers = same_none (State.view_of c.args.self.now) }

pub returns-then-is_idle-clause-done : goal.returns-then-is_idle-clause-done
returns-then-is_idle-clause-done c =
    let bundle = c.args.self.now in
    let machine = c.in-Some.machine.now in
    let number_inside = within shown bundle.machines.items c.args.number c.requires.here in
    let machine_there = read_here shown bundle.machines.items c.args.number c.index_mut.result.now machine number_inside c.index_mut.ensures.value (sym c.as_mut.ensures.value ∙ ap option_copied_mut c.in-Some.is) in
    let shown_at = shows_as shown bundle.machines.items c.args.number machine no_machine machine_there in
    let order_given = shows_as order_of bundle.machines.items c.args.number machine Nothing machine_there in (
      (λ says_done. absurd cc),
      (λ both_told. absurd (false≢true (sym (ap (λ asked_machine. takes_of asked_machine (order_at bundle c.args.number)) shown_at ∙ ap (takes_of (shown machine)) order_given ∙ c.is_idle.ensures ∙ ap not c.if-is_idle.true) ∙ both_told.0))),
    )

-- ---- a machine that makes a step

pub make_step-got-requires-clause-inside : goal.make_step-got-requires-clause-inside
make_step-got-requires-clause-inside c =
    let bundle = c.args.self.now in
    let machine = c.in-Some.machine.now in
    let number_inside = within shown bundle.machines.items c.args.number c.requires.here in
    let machine_there = read_here shown bundle.machines.items c.args.number c.index_mut.result.now machine number_inside c.index_mut.ensures.value (sym c.as_mut.ensures.value ∙ ap option_copied_mut c.in-Some.is) in
    let heap = (bundle.of_heap c.args.number machine machine_there).heap in
    let same_words : c.args.heap.now.table.shared.table_id.words ≡ table_words (config_of machine) = c.args.heap.now.all_words ∙ ap table_words (sym c.requires.heap.config ∙ sym heap) in
    subst (λ word_count. table_index c.plan.result < word_count) (sym same_words) c.plan.ensures.inside

pub make_step-got-requires-clause-machine : goal.make_step-got-requires-clause-machine
make_step-got-requires-clause-machine c =
    let bundle = c.args.self.now in
    let machine = c.in-Some.machine.now in
    let number_inside = within shown bundle.machines.items c.args.number c.requires.here in
    let machine_there = read_here shown bundle.machines.items c.args.number c.index_mut.result.now machine number_inside c.index_mut.ensures.value (sym c.as_mut.ensures.value ∙ ap option_copied_mut c.in-Some.is) in
    let heap = (bundle.of_heap c.args.number machine machine_there).heap in
    let key : c.args.heap.now.table.shared.key ≡ bundle.key.value = c.args.heap.now.table_key ∙ sym c.requires.heap.key in
    let sizes : c.args.heap.now.table.shared.key.config ≡ bundle.config = ap (λ (key : HeapKey). key.config) key ∙ bundle.same_sizes in
    let turn = c.is_idle.ensures ∙ ap not c.if-is_idle.false in
    can_counted (heap_kind c.args.heap.now.table.shared.key.config) bundle.seat.me.0 c.args.number c.order.result c.plan.result
    (can_as c.args.heap.now.table.shared.key.config bundle.config (State.view_of bundle) c.args.number c.order.result (order_of machine) c.plan.result sizes c.order.ensures
    (can bundle.config bundle.key.value bundle.same_sizes bundle.machines.items (uncounted_seat bundle.seat.me) bundle.kept c.args.number machine machine_there c.plan.result heap turn c.plan.ensures.row))

pub took-said-requires-clause-fit : goal.took-said-requires-clause-fit
took-said-requires-clause-fit c =
    let bundle = c.args.self.now in
    let machine = c.in-Some.machine.now in
    let number_inside = within shown bundle.machines.items c.args.number c.requires.here in
    let machine_there = read_here shown bundle.machines.items c.args.number c.index_mut.result.now machine number_inside c.index_mut.ensures.value (sym c.as_mut.ensures.value ∙ ap option_copied_mut c.in-Some.is) in
    let heap = (bundle.of_heap c.args.number machine machine_there).heap in
    let key : c.args.heap.now.table.shared.key ≡ bundle.key.value = c.args.heap.now.table_key ∙ sym c.requires.heap.key in
    let took = took_in c.args.heap.now.table.shared.key bundle.key.value bundle.config c.args.number c.order.result (order_of machine) bundle.seat.me c.make_step-got.result c.make_step-got.new.seat.me key bundle.same_sizes c.order.ensures c.make_step-got.ensures.took in
    fits bundle.config bundle.key.value bundle.same_sizes bundle.machines.items (uncounted_seat bundle.seat.me) bundle.kept c.args.number machine machine_there c.make_step-got.result (uncounted_seat c.make_step-got.new.seat.me) took heap

pub invariant_of-self-2 : goal.invariant_of-self-2
invariant_of-self-2 c =
    let bundle = c.args.self.now in
    let machine = c.in-Some.machine.now in
    let number_inside = within shown bundle.machines.items c.args.number c.requires.here in
    let machine_there = read_here shown bundle.machines.items c.args.number c.index_mut.result.now machine number_inside c.index_mut.ensures.value (sym c.as_mut.ensures.value ∙ ap option_copied_mut c.in-Some.is) in
    let heap = (bundle.of_heap c.args.number machine machine_there).heap in
    let key : c.args.heap.now.table.shared.key ≡ bundle.key.value = c.args.heap.now.table_key ∙ sym c.requires.heap.key in
    let took = took_in c.args.heap.now.table.shared.key bundle.key.value bundle.config c.args.number c.order.result (order_of machine) bundle.seat.me c.make_step-got.result c.make_step-got.new.seat.me key bundle.same_sizes c.order.ensures c.make_step-got.ensures.took in
    let new_machine = c.took-said.new.self in
    record {
      same_sizes = bundle.same_sizes;
      seats = length-set bundle.machines.items _ _ ∙ bundle.seats;
      kept = kept_after bundle.config bundle.key.value bundle.same_sizes bundle.machines.items (uncounted_seat bundle.seat.me) bundle.kept c.args.number machine machine_there c.make_step-got.result (uncounted_seat c.make_step-got.new.seat.me) took new_machine c.took-said.ensures.shown heap;
      slots = took.slots ∙ bundle.slots;
      of_heap = heap_put bundle.config bundle.machines.items c.args.number machine new_machine machine_there c.took-said.ensures.heap
          (role_after bundle.config bundle.key.value bundle.same_sizes bundle.machines.items (uncounted_seat bundle.seat.me) bundle.kept c.args.number machine machine_there c.make_step-got.result (uncounted_seat c.make_step-got.new.seat.me) took new_machine c.took-said.ensures.shown heap) bundle.of_heap;
      greys = (greys_step bundle.config bundle.machines.items bundle.greyed.items c.args.number machine new_machine c.greys-greyed.result machine_there
          (subst (λ config. IfSome c.greys-greyed.result (λ address. IsWord config (Heap address))) heap c.greys-greyed.ensures.heap) bundle.greys);
      hints_of_heap = bundle.hints_of_heap;
      thieves_of_heap = bundle.thieves_of_heap;
    }

pub returns-clause-event : goal.returns-clause-event
returns-clause-event c = λ _.
    let bundle = c.args.self.now in
    let machine = c.in-Some.machine.now in
    let number_inside = within shown bundle.machines.items c.args.number c.requires.here in
    let machine_there = read_here shown bundle.machines.items c.args.number c.index_mut.result.now machine number_inside c.index_mut.ensures.value (sym c.as_mut.ensures.value ∙ ap option_copied_mut c.in-Some.is) in
    let heap = (bundle.of_heap c.args.number machine machine_there).heap in
    let key : c.args.heap.now.table.shared.key ≡ bundle.key.value = c.args.heap.now.table_key ∙ sym c.requires.heap.key in
    let shown_at = shows_as shown bundle.machines.items c.args.number machine no_machine machine_there in
    let order_given = shows_as order_of bundle.machines.items c.args.number machine Nothing machine_there in
    let new_machine = c.took-said.new.self in
    let took = took_as c.args.heap.now.table.shared.key bundle.key.value c.args.number c.order.result (order_at bundle c.args.number) bundle.seat.me c.make_step-got.result c.make_step-got.new.seat.me key (c.order.ensures ∙ sym order_given) c.make_step-got.ensures.took in
    record {
      got = c.make_step-got.result;
      took = subst (λ (config : Config). Took (heap_kind config) (start_of_key bundle.key.value) c.args.number (order_at bundle c.args.number) (uncounted_seat bundle.seat.me) c.make_step-got.result (uncounted_seat c.make_step-got.new.seat.me)) bundle.same_sizes
          (took_uncounted (heap_kind bundle.key.value.config) (start_of_key bundle.key.value) c.args.number (order_at bundle c.args.number) bundle.seat.me c.make_step-got.new.seat.me c.make_step-got.result took);
      steps = step_counted bundle.key.value c.args.number (order_at bundle c.args.number) bundle.seat.me c.make_step-got.new.seat.me c.make_step-got.result took;
      said_is = c.of.ensures ∙ ap stepped_by (sym c.took-said.ensures.answer) ∙ ap (λ asked_config. says asked_config (order_of machine) (shown machine) c.make_step-got.result) heap
          ∙ ap (λ order. says bundle.config order (shown machine) c.make_step-got.result) (sym order_given) ∙ ap (λ value. says bundle.config (order_at bundle c.args.number) value c.make_step-got.result) (sym shown_at);
      greyed = ap (λ value. slice_set bundle.greyed.items c.args.number value) (c.greys-greyed.ensures.row ∙ ap greys_of (sym shown_at));
      orders = kept-set order_of bundle.machines.items c.args.number (Some new_machine) ∙ ap (λ asked_order. slice_set (kept_in_view order_of bundle.machines.items) c.args.number (Some asked_order)) c.took-said.ensures.order;
    }

pub returns-clause-same : goal.returns-clause-same
returns-clause-same c =
    let bundle = c.args.self.now in
    let machine = c.in-Some.machine.now in
    let number_inside = within shown bundle.machines.items c.args.number c.requires.here in
    let machine_there = read_here shown bundle.machines.items c.args.number c.index_mut.result.now machine number_inside c.index_mut.ensures.value (sym c.as_mut.ensures.value ∙ ap option_copied_mut c.in-Some.is) in
    let heap = (bundle.of_heap c.args.number machine machine_there).heap in
    let key : c.args.heap.now.table.shared.key ≡ bundle.key.value = c.args.heap.now.table_key ∙ sym c.requires.heap.key in
    let took = took_in c.args.heap.now.table.shared.key bundle.key.value bundle.config c.args.number c.order.result (order_of machine) bundle.seat.me c.make_step-got.result c.make_step-got.new.seat.me key bundle.same_sizes c.order.ensures c.make_step-got.ensures.took in
    record { table = c.make_step-got.ensures.table.0; config = refl; key = refl; numbers = numbers_stay bundle.config bundle.key.value bundle.same_sizes bundle.machines.items (uncounted_seat bundle.seat.me) bundle.kept c.args.number machine machine_there c.make_step-got.result (uncounted_seat c.make_step-got.new.seat.me) took }

pub returns-clause-idle : goal.returns-clause-idle
returns-clause-idle c =
    let bundle = c.args.self.now in
    let machine = c.in-Some.machine.now in
    let number_inside = within shown bundle.machines.items c.args.number c.requires.here in
    let machine_there = read_here shown bundle.machines.items c.args.number c.index_mut.result.now machine number_inside c.index_mut.ensures.value (sym c.as_mut.ensures.value ∙ ap option_copied_mut c.in-Some.is) in
    let turn = c.is_idle.ensures ∙ ap not c.if-is_idle.false in
    let shown_at = shows_as shown bundle.machines.items c.args.number machine no_machine machine_there in
    let order_given = shows_as order_of bundle.machines.items c.args.number machine Nothing machine_there in
    let turn_there : State.has_turn bundle c.args.number ≡ true = ap (λ asked_machine. takes_of asked_machine (order_at bundle c.args.number)) shown_at ∙ ap (takes_of (shown machine)) order_given ∙ turn in
    ((λ says_idle. absurd (never_idle c.took-said.result (sym c.of.ensures ∙ says_idle))), (λ no_turn. absurd (false≢true (sym no_turn ∙ turn_there))))

pub returns-clause-unchanged : goal.returns-clause-unchanged
returns-clause-unchanged c = λ no_turn.
    let bundle = c.args.self.now in
    let machine = c.in-Some.machine.now in
    let number_inside = within shown bundle.machines.items c.args.number c.requires.here in
    let machine_there = read_here shown bundle.machines.items c.args.number c.index_mut.result.now machine number_inside c.index_mut.ensures.value (sym c.as_mut.ensures.value ∙ ap option_copied_mut c.in-Some.is) in
    let turn = c.is_idle.ensures ∙ ap not c.if-is_idle.false in
    let shown_at = shows_as shown bundle.machines.items c.args.number machine no_machine machine_there in
    let order_given = shows_as order_of bundle.machines.items c.args.number machine Nothing machine_there in
    let turn_there : State.has_turn bundle c.args.number ≡ true = ap (λ asked_machine. takes_of asked_machine (order_at bundle c.args.number)) shown_at ∙ ap (takes_of (shown machine)) order_given ∙ turn in
    absurd (false≢true (sym no_turn ∙ turn_there))

pub returns-clause-done : goal.returns-clause-done
returns-clause-done c =
    let bundle = c.args.self.now in
    let machine = c.in-Some.machine.now in
    let number_inside = within shown bundle.machines.items c.args.number c.requires.here in
    let machine_there = read_here shown bundle.machines.items c.args.number c.index_mut.result.now machine number_inside c.index_mut.ensures.value (sym c.as_mut.ensures.value ∙ ap option_copied_mut c.in-Some.is) in
    let turn = c.is_idle.ensures ∙ ap not c.if-is_idle.false in
    let shown_at = shows_as shown bundle.machines.items c.args.number machine no_machine machine_there in
    let order_given = shows_as order_of bundle.machines.items c.args.number machine Nothing machine_there in
    let turn_there : State.has_turn bundle c.args.number ≡ true = ap (λ asked_machine. takes_of asked_machine (order_at bundle c.args.number)) shown_at ∙ ap (takes_of (shown machine)) order_given ∙ turn in
    let place_known = ap (place_in (State.order_at bundle c.args.number)) shown_at ∙ ap (λ order. place_in order (shown machine)) order_given in (
      (λ says_done.
          let did = c.took-said.ensures.done.0 (done_only c.took-said.result (sym c.of.ensures ∙ says_done)) in
          (turn_there, ap is_mutating shown_at ∙ did.0, place_known ∙ did.1)),
      (λ all_hold. c.of.ensures ∙ ap stepped_of (c.took-said.ensures.done.1 (ap is_mutating (sym shown_at) ∙ all_hold.1, sym place_known ∙ all_hold.2))),
    )

pub returns-clause-replied : goal.returns-clause-replied
returns-clause-replied c = λ says_done no_reply.
    let bundle = c.args.self.now in
    let machine = c.in-Some.machine.now in
    let number_inside = within shown bundle.machines.items c.args.number c.requires.here in
    let machine_there = read_here shown bundle.machines.items c.args.number c.index_mut.result.now machine number_inside c.index_mut.ensures.value (sym c.as_mut.ensures.value ∙ ap option_copied_mut c.in-Some.is) in
    let new_machine = c.took-said.new.self in
    c.took-said.ensures.replied (done_only c.took-said.result (sym c.of.ensures ∙ says_done))
    (sym (ap reply_in (shows_as shown (slice_set bundle.machines.items c.args.number (Some new_machine)) c.args.number new_machine no_machine (put_there shown bundle.machines.items c.args.number machine new_machine machine_there))) ∙ no_reply)
