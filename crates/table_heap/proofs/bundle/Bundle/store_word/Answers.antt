use Rattle.std.proofs.Common.{◌≡◌, ◌+◌, ◌<◌, ℕ, Some, None, refl, sym, ap, ◌∙◌, subst, arith}
use Rattle.std.specs.Prelude.{slice_set}
use Rattle.std.specs.Option.{is_some, option_copied_mut}
use Rattle.std.proofs.lemmas.List.{length-set}
use Rattle.heap_words.specs.declared.config.Config.{Config}
use Rattle.heap_words.specs.declared.access.Access.TheVariants.{Store}
use Rattle.heap_words.specs.Words.{table_words}
use Rattle.shen_graph.specs.declared.order.Order.TheVariants.{Nothing}
use Rattle.shared_table.specs.Counted.{uncounted_seat}
use Rattle.shared_table.specs.Rule.{Took}
use Rattle.shared_table.specs.Views.{machine_of, kept_in_view}
use Rattle.shared_table.proofs.Counted.{can_counted, took_uncounted}
use Rattle.shared_table.proofs.Kept.{kept-set}
use Rattle.heap_machines.specs.Answer.{stepped_by, says}
use Rattle.heap_machines.specs.Inside.{stores_left}
use Rattle.heap_machines.specs.Shown.{shown, order_of, config_of, no_machine}
use Rattle.heap_machines.specs.declared.machine.Machine.{Machine}
use Rattle.heap_machines.proofs.Inside.{goes_inside, stores_inside}
use Rattle.step_core.specs.Machines.{takes_of}
use Rattle.table_heap.specs.declared.key.HeapKey.{HeapKey}
use Rattle.table_heap.specs.Core.{heap_kind, start_of_key}
use Rattle.table_heap.specs.State as State
use Rattle.table_heap.specs.State.{order_at}
use Rattle.table_heap.specs.declared.bundle.Bundle.{Bundle}
use Rattle.table_heap.proofs.MachineUnder.{within, read_here, never_none, shows_here, shows_as, put_there}
use Rattle.table_heap.proofs.Stepping.{can, can_as, took_as, took_in, step_counted, numbers_stay, kept_after, role_after, heap_put}
use Rattle.table_heap.proofs.Greyed.{greys_step}
use Rattle.table_heap.proofs.bundle.Bundle.store_word.Goals as goal

-- the machine in memory has words left
left_here : (bundle : Bundle) (number : ℕ) (machine : Machine) → machine_of bundle.machines.items number ≡ Some machine → 0 < stores_left bundle.config (State.machine_at bundle number) → 0 < stores_left (config_of machine) (shown machine)
left_here bundle number machine machine_there positive =
    subst (λ words_left. 0 < words_left) (ap (stores_left bundle.config) (shows_as shown bundle.machines.items number machine no_machine machine_there) ∙ ap (λ config. stores_left config (shown machine)) (sym (bundle.of_heap number machine machine_there).heap)) positive

pub index_mut-requires : goal.index_mut-requires
index_mut-requires c = let inside = within shown c.args.self.now.machines.items c.args.number c.requires.here in omega arith

pub index_mut-requires-2 : goal.index_mut-requires-2
index_mut-requires-2 c =
    let bundle = c.args.self.now in
    let inside = within shown bundle.machines.items c.args.number c.requires.here in
    omega (arith, inside, bundle.greys.numbers)

pub unreachable-requires : goal.unreachable-requires
unreachable-requires c =
    never_none shown c.args.self.now.machines.items c.args.number c.index_mut.result.now c.requires.here c.index_mut.ensures.value
    (sym c.as_mut.ensures.value ∙ ap option_copied_mut c.in_default.is)

pub next_to_store-at-requires : goal.next_to_store-at-requires
next_to_store-at-requires c =
    let bundle = c.args.self.now in
    let machine = c.in-Some.machine.now in
    let inside = within shown bundle.machines.items c.args.number c.requires.here in
    let machine_there = read_here shown bundle.machines.items c.args.number c.index_mut.result.now machine inside c.index_mut.ensures.value (sym c.as_mut.ensures.value ∙ ap option_copied_mut c.in-Some.is) in
    left_here bundle c.args.number machine machine_there c.requires.left

pub stored-requires : goal.stored-requires
stored-requires c =
    let bundle = c.args.self.now in
    let machine = c.in-Some.machine.now in
    let inside = within shown bundle.machines.items c.args.number c.requires.here in
    let machine_there = read_here shown bundle.machines.items c.args.number c.index_mut.result.now machine inside c.index_mut.ensures.value (sym c.as_mut.ensures.value ∙ ap option_copied_mut c.in-Some.is) in
    left_here bundle c.args.number machine machine_there c.requires.left

pub make_step-requires-clause-inside : goal.make_step-requires-clause-inside
make_step-requires-clause-inside c =
    let bundle = c.args.self.now in
    let machine = c.in-Some.machine.now in
    let inside = within shown bundle.machines.items c.args.number c.requires.here in
    let machine_there = read_here shown bundle.machines.items c.args.number c.index_mut.result.now machine inside c.index_mut.ensures.value (sym c.as_mut.ensures.value ∙ ap option_copied_mut c.in-Some.is) in
    let heap = (bundle.of_heap c.args.number machine machine_there).heap in
    let words : c.args.heap.now.table.shared.table_id.words ≡ table_words (config_of machine) = c.args.heap.now.all_words ∙ ap table_words (sym c.requires.heap.config ∙ sym heap) in
    subst (λ word_count. c.next_to_store-at.result.0 < word_count) (sym words) c.next_to_store-at.ensures.inside

pub make_step-requires-clause-machine : goal.make_step-requires-clause-machine
make_step-requires-clause-machine c =
    let bundle = c.args.self.now in
    let machine = c.in-Some.machine.now in
    let inside = within shown bundle.machines.items c.args.number c.requires.here in
    let machine_there = read_here shown bundle.machines.items c.args.number c.index_mut.result.now machine inside c.index_mut.ensures.value (sym c.as_mut.ensures.value ∙ ap option_copied_mut c.in-Some.is) in
    let heap = (bundle.of_heap c.args.number machine machine_there).heap in
    let key : c.args.heap.now.table.shared.key ≡ bundle.key.value = c.args.heap.now.table_key ∙ sym c.requires.heap.key in
    let words_remain = left_here bundle c.args.number machine machine_there c.requires.left in
    let turn = ap (takes_of (shown machine)) c.next_to_store-at.ensures.none ∙ (goes_inside (config_of machine) (shown machine) (stores_inside (config_of machine) (shown machine) words_remain)).takes in
    can_counted (heap_kind c.args.heap.now.table.shared.key.config) bundle.seat.me.0 c.args.number Nothing (Store c.next_to_store-at.result.0 c.next_to_store-at.result.1)
    (can_as c.args.heap.now.table.shared.key.config bundle.config (State.view_of bundle) c.args.number Nothing (order_of machine) (Store c.next_to_store-at.result.0 c.next_to_store-at.result.1) (ap (λ (key : HeapKey). key.config) key ∙ bundle.same_sizes) (sym c.next_to_store-at.ensures.none)
    (can bundle.config bundle.key.value bundle.same_sizes bundle.machines.items (uncounted_seat bundle.seat.me) bundle.kept c.args.number machine machine_there (Store c.next_to_store-at.result.0 c.next_to_store-at.result.1) heap turn c.next_to_store-at.ensures.row))

pub invariant_of-self : goal.invariant_of-self
invariant_of-self c =
    let bundle = c.args.self.now in
    let machine = c.in-Some.machine.now in
    let inside = within shown bundle.machines.items c.args.number c.requires.here in
    let machine_there = read_here shown bundle.machines.items c.args.number c.index_mut.result.now machine inside c.index_mut.ensures.value (sym c.as_mut.ensures.value ∙ ap option_copied_mut c.in-Some.is) in
    let heap = (bundle.of_heap c.args.number machine machine_there).heap in
    let key : c.args.heap.now.table.shared.key ≡ bundle.key.value = c.args.heap.now.table_key ∙ sym c.requires.heap.key in
    let took = took_in c.args.heap.now.table.shared.key bundle.key.value bundle.config c.args.number Nothing (order_of machine) bundle.seat.me c.make_step.result c.make_step.new.seat.me key bundle.same_sizes (sym c.next_to_store-at.ensures.none) c.make_step.ensures.took in
    let new_machine = c.stored.new.self in
    record {
      same_sizes = bundle.same_sizes;
      seats = length-set bundle.machines.items _ _ ∙ bundle.seats;
      kept = kept_after bundle.config bundle.key.value bundle.same_sizes bundle.machines.items (uncounted_seat bundle.seat.me) bundle.kept c.args.number machine machine_there c.make_step.result (uncounted_seat c.make_step.new.seat.me) took new_machine (c.stored.ensures.shown c.make_step.result) heap;
      slots = took.slots ∙ bundle.slots;
      of_heap = heap_put bundle.config bundle.machines.items c.args.number machine new_machine machine_there c.stored.ensures.heap
          (role_after bundle.config bundle.key.value bundle.same_sizes bundle.machines.items (uncounted_seat bundle.seat.me) bundle.kept c.args.number machine machine_there c.make_step.result (uncounted_seat c.make_step.new.seat.me) took new_machine (c.stored.ensures.shown c.make_step.result) heap) bundle.of_heap;
      greys = greys_step bundle.config bundle.machines.items bundle.greyed.items c.args.number machine new_machine None machine_there tt bundle.greys;
      hints_of_heap = bundle.hints_of_heap;
      thieves_of_heap = bundle.thieves_of_heap;
    }

pub returns-clause-event : goal.returns-clause-event
returns-clause-event c =
    let bundle = c.args.self.now in
    let machine = c.in-Some.machine.now in
    let inside = within shown bundle.machines.items c.args.number c.requires.here in
    let machine_there = read_here shown bundle.machines.items c.args.number c.index_mut.result.now machine inside c.index_mut.ensures.value (sym c.as_mut.ensures.value ∙ ap option_copied_mut c.in-Some.is) in
    let heap = (bundle.of_heap c.args.number machine machine_there).heap in
    let key : c.args.heap.now.table.shared.key ≡ bundle.key.value = c.args.heap.now.table_key ∙ sym c.requires.heap.key in
    let words_remain = left_here bundle c.args.number machine machine_there c.requires.left in
    let shown_at = shows_as shown bundle.machines.items c.args.number machine no_machine machine_there in
    let order_given = shows_as order_of bundle.machines.items c.args.number machine Nothing machine_there in
    let no_order = order_given ∙ c.next_to_store-at.ensures.none in
    let new_machine = c.stored.new.self in
    let took = took_as c.args.heap.now.table.shared.key bundle.key.value c.args.number Nothing (order_at bundle c.args.number) bundle.seat.me c.make_step.result c.make_step.new.seat.me key (sym no_order) c.make_step.ensures.took in
    record {
      got = c.make_step.result;
      took = subst (λ (config : Config). Took (heap_kind config) (start_of_key bundle.key.value) c.args.number (order_at bundle c.args.number) (uncounted_seat bundle.seat.me) c.make_step.result (uncounted_seat c.make_step.new.seat.me)) bundle.same_sizes
          (took_uncounted (heap_kind bundle.key.value.config) (start_of_key bundle.key.value) c.args.number (order_at bundle c.args.number) bundle.seat.me c.make_step.new.seat.me c.make_step.result took);
      steps = step_counted bundle.key.value c.args.number (order_at bundle c.args.number) bundle.seat.me c.make_step.new.seat.me c.make_step.result took;
      said_is = sym (ap (λ value. says bundle.config (order_at bundle c.args.number) value c.make_step.result) shown_at ∙ ap (λ order. says bundle.config order (shown machine) c.make_step.result) no_order
          ∙ ap (λ asked_config. says asked_config Nothing (shown machine) c.make_step.result) (sym heap) ∙ ap stepped_by ((goes_inside (config_of machine) (shown machine) (stores_inside (config_of machine) (shown machine) words_remain)).says c.make_step.result));
      greyed = ap (λ value. slice_set bundle.greyed.items c.args.number value) (sym (goes_inside bundle.config (State.machine_at bundle c.args.number) (stores_inside bundle.config (State.machine_at bundle c.args.number) c.requires.left)).greys);
      orders = kept-set order_of bundle.machines.items c.args.number (Some new_machine) ∙ ap (λ given_order. slice_set (kept_in_view order_of bundle.machines.items) c.args.number (Some given_order)) c.stored.ensures.order;
    }

pub returns-clause-same : goal.returns-clause-same
returns-clause-same c =
    let bundle = c.args.self.now in
    let machine = c.in-Some.machine.now in
    let inside = within shown bundle.machines.items c.args.number c.requires.here in
    let machine_there = read_here shown bundle.machines.items c.args.number c.index_mut.result.now machine inside c.index_mut.ensures.value (sym c.as_mut.ensures.value ∙ ap option_copied_mut c.in-Some.is) in
    let heap = (bundle.of_heap c.args.number machine machine_there).heap in
    let key : c.args.heap.now.table.shared.key ≡ bundle.key.value = c.args.heap.now.table_key ∙ sym c.requires.heap.key in
    let took = took_in c.args.heap.now.table.shared.key bundle.key.value bundle.config c.args.number Nothing (order_of machine) bundle.seat.me c.make_step.result c.make_step.new.seat.me key bundle.same_sizes (sym c.next_to_store-at.ensures.none) c.make_step.ensures.took in
    record { table = c.make_step.ensures.table.0; config = refl; key = refl; numbers = numbers_stay bundle.config bundle.key.value bundle.same_sizes bundle.machines.items (uncounted_seat bundle.seat.me) bundle.kept c.args.number machine machine_there c.make_step.result (uncounted_seat c.make_step.new.seat.me) took }

pub returns-clause-here : goal.returns-clause-here
returns-clause-here c =
    let bundle = c.args.self.now in
    let machine = c.in-Some.machine.now in
    let inside = within shown bundle.machines.items c.args.number c.requires.here in
    let machine_there = read_here shown bundle.machines.items c.args.number c.index_mut.result.now machine inside c.index_mut.ensures.value (sym c.as_mut.ensures.value ∙ ap option_copied_mut c.in-Some.is) in
    let new_machine = c.stored.new.self in
    ap is_some (shows_here shown (slice_set bundle.machines.items c.args.number (Some new_machine)) c.args.number new_machine (put_there shown bundle.machines.items c.args.number machine new_machine machine_there))

pub returns-clause-left : goal.returns-clause-left
returns-clause-left c =
    let bundle = c.args.self.now in
    let machine = c.in-Some.machine.now in
    let inside = within shown bundle.machines.items c.args.number c.requires.here in
    let machine_there = read_here shown bundle.machines.items c.args.number c.index_mut.result.now machine inside c.index_mut.ensures.value (sym c.as_mut.ensures.value ∙ ap option_copied_mut c.in-Some.is) in
    let new_machine = c.stored.new.self in
    let heap = (bundle.of_heap c.args.number machine machine_there).heap in
    ap (λ config. stores_left bundle.config config + 1) (shows_as shown (slice_set bundle.machines.items c.args.number (Some new_machine)) c.args.number new_machine no_machine (put_there shown bundle.machines.items c.args.number machine new_machine machine_there))
    ∙ ap (λ config. stores_left config (shown new_machine) + 1) (sym (c.stored.ensures.heap ∙ heap))
    ∙ c.stored.ensures.left
    ∙ ap (λ config. stores_left config (shown machine)) heap
    ∙ ap (stores_left bundle.config) (sym (shows_as shown bundle.machines.items c.args.number machine no_machine machine_there))
