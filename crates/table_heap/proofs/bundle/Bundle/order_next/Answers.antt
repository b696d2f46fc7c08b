use Rattle.std.proofs.Common.{◌<◌, Some, None, refl, sym, ap, ◌∙◌, subst, arith}
use Rattle.std.specs.Prelude.{IfSome, slice_set, unwrap_or, if◌then◌else◌}
use Rattle.std.specs.Option.{option_copied_mut}
use Rattle.std.proofs.lemmas.List.{length-set}
use Rattle.shared_table.specs.Views.{machine_of, kept_in_view}
use Rattle.shared_table.proofs.Kept.{kept-set}
use Rattle.shared_table.proofs.Numbers.{same_none}
use Rattle.shen_graph.specs.Valid.{IsValid, most_objects}
use Rattle.shen_graph.specs.declared.order.Order.TheVariants.{Nothing}
use Rattle.heap_machines.specs.Shown.{no_machine, shown, order_of}
use Rattle.step_core.specs.Machines.{takes_of, may_begin, made_of_machine}
use Rattle.heap_machines.specs.Roles.{is_mutating}
use Rattle.heap_machines.specs.Turn.{order_for}
use Rattle.table_heap.specs.State.{view_of}
use Rattle.table_heap.proofs.MachineUnder.{within, read_here, never_none, shows_here, shows_as, put_same, put_there}
use Rattle.table_heap.proofs.Stepping.{heap_put}
use Rattle.table_heap.proofs.Greyed.{greys_put}
use Rattle.table_heap.proofs.bundle.Bundle.order_next.Goals as goal

pub index_mut-requires : goal.index_mut-requires
index_mut-requires c = let number_inside = within shown c.args.self.now.machines.items c.args.number c.requires.here in omega arith

pub unreachable-requires : goal.unreachable-requires
unreachable-requires c =
    never_none shown c.args.self.now.machines.items c.args.number c.index_mut.result.now c.requires.here c.index_mut.ensures.value
    (sym c.as_mut.ensures.value ∙ ap option_copied_mut c.in_default.is)

pub order_next-requires-clause-none : goal.order_next-requires-clause-none
order_next-requires-clause-none c =
    let bundle = c.args.self.now in
    let machine = c.in-Some.machine.now in
    let number_inside = within shown bundle.machines.items c.args.number c.requires.here in
    let machine_there = read_here shown bundle.machines.items c.args.number c.index_mut.result.now machine number_inside c.index_mut.ensures.value (sym c.as_mut.ensures.value ∙ ap option_copied_mut c.in-Some.is) in
    c.requires.orders c.args.number (order_of machine) (shows_here order_of bundle.machines.items c.args.number machine machine_there)

pub order_next-requires-clause-next : goal.order_next-requires-clause-next
order_next-requires-clause-next c = λ can_begin.
    let bundle = c.args.self.now in
    let read_machine = c.in-Some.machine.now in
    let number_inside = within shown bundle.machines.items c.args.number c.requires.here in
    let machine_there = read_here shown bundle.machines.items c.args.number c.index_mut.result.now read_machine number_inside c.index_mut.ensures.value (sym c.as_mut.ensures.value ∙ ap option_copied_mut c.in-Some.is) in
    let shown_at = shows_as shown bundle.machines.items c.args.number read_machine no_machine machine_there in
    subst (λ machine. IfSome c.args.next (λ command. IsValid command × (made_of_machine machine < most_objects))) shown_at (c.requires.fits (ap may_begin shown_at ∙ can_begin))

pub invariant_of-self : goal.invariant_of-self
invariant_of-self c =
    let bundle = c.args.self.now in
    let machine = c.in-Some.machine.now in
    let number_inside = within shown bundle.machines.items c.args.number c.requires.here in
    let machine_there = read_here shown bundle.machines.items c.args.number c.index_mut.result.now machine number_inside c.index_mut.ensures.value (sym c.as_mut.ensures.value ∙ ap option_copied_mut c.in-Some.is) in
    let new_machine = c.order_next.new.self in
    record {
      same_sizes = bundle.same_sizes;
      seats = length-set bundle.machines.items _ _ ∙ bundle.seats;
      kept = bundle.kept ∙ sym (put_same shown bundle.machines.items c.args.number machine new_machine machine_there c.order_next.ensures.shown);
      slots = bundle.slots;
      of_heap = heap_put bundle.config bundle.machines.items c.args.number machine new_machine machine_there c.order_next.ensures.heap (ap is_mutating c.order_next.ensures.shown) bundle.of_heap;
      greys = greys_put bundle.config bundle.machines.items bundle.greyed.items c.args.number machine new_machine machine_there bundle.greys;
      hints_of_heap = bundle.hints_of_heap;
      thieves_of_heap = bundle.thieves_of_heap;
    }

pub returns-clause-turn : goal.returns-clause-turn
returns-clause-turn c =
    let bundle = c.args.self.now in
    let machine = c.in-Some.machine.now in
    let number_inside = within shown bundle.machines.items c.args.number c.requires.here in
    let machine_there = read_here shown bundle.machines.items c.args.number c.index_mut.result.now machine number_inside c.index_mut.ensures.value (sym c.as_mut.ensures.value ∙ ap option_copied_mut c.in-Some.is) in
    let new_machine = c.order_next.new.self in
    let shown_at = shows_as shown bundle.machines.items c.args.number machine no_machine machine_there in
    let order_given = shows_as order_of (slice_set bundle.machines.items c.args.number (Some new_machine)) c.args.number new_machine Nothing (put_there order_of bundle.machines.items c.args.number machine new_machine machine_there) in
    ap (order_for c.args.next) shown_at ∙ c.order_next.ensures.turn ∙ ap (λ order. if c.order_next.result then Some order else None) (sym order_given)

pub returns-clause-has : goal.returns-clause-has
returns-clause-has c =
    let bundle = c.args.self.now in
    let read_machine = c.in-Some.machine.now in
    let number_inside = within shown bundle.machines.items c.args.number c.requires.here in
    let machine_there = read_here shown bundle.machines.items c.args.number c.index_mut.result.now read_machine number_inside c.index_mut.ensures.value (sym c.as_mut.ensures.value ∙ ap option_copied_mut c.in-Some.is) in
    let new_machine = c.order_next.new.self in
    let items = slice_set bundle.machines.items c.args.number (Some new_machine) in
    let new_there = put_there shown bundle.machines.items c.args.number read_machine new_machine machine_there in
    let shown_at = shows_as shown items c.args.number new_machine no_machine new_there in
    let order_given = shows_as order_of items c.args.number new_machine Nothing new_there in
    ap (λ machine. takes_of machine (unwrap_or (machine_of (kept_in_view order_of items) c.args.number) Nothing)) shown_at ∙ ap (takes_of (shown new_machine)) order_given ∙ ap (λ machine. takes_of machine (order_of new_machine)) c.order_next.ensures.shown ∙ c.order_next.ensures.takes

pub returns-clause-orders : goal.returns-clause-orders
returns-clause-orders c =
    let bundle = c.args.self.now in
    let machine = c.in-Some.machine.now in
    let number_inside = within shown bundle.machines.items c.args.number c.requires.here in
    let machine_there = read_here shown bundle.machines.items c.args.number c.index_mut.result.now machine number_inside c.index_mut.ensures.value (sym c.as_mut.ensures.value ∙ ap option_copied_mut c.in-Some.is) in
    let new_machine = c.order_next.new.self in
    let order_given = shows_as order_of (slice_set bundle.machines.items c.args.number (Some new_machine)) c.args.number new_machine Nothing (put_there order_of bundle.machines.items c.args.number machine new_machine machine_there) in
    kept-set order_of bundle.machines.items c.args.number (Some new_machine) ∙ ap (λ order. slice_set (kept_in_view order_of bundle.machines.items) c.args.number (Some order)) (sym order_given)

pub returns-clause-unchanged : goal.returns-clause-unchanged
returns-clause-unchanged c = λ nothing_next.
    let bundle = c.args.self.now in
    let machine = c.in-Some.machine.now in
    let number_inside = within shown bundle.machines.items c.args.number c.requires.here in
    let machine_there = read_here shown bundle.machines.items c.args.number c.index_mut.result.now machine number_inside c.index_mut.ensures.value (sym c.as_mut.ensures.value ∙ ap option_copied_mut c.in-Some.is) in
    let new_machine = c.order_next.new.self in
    let order_before = c.requires.orders c.args.number (order_of machine) (shows_here order_of bundle.machines.items c.args.number machine machine_there) in
    record {
      unmoved = record { same = record { table = refl; config = refl; key = refl; numbers = same_none (view_of bundle) }; view = refl; steps = refl; greyed = refl };
      orders = put_same order_of bundle.machines.items c.args.number machine new_machine machine_there (c.order_next.ensures.idle nothing_next ∙ sym order_before);
    }

pub returns-clause-unmoved : goal.returns-clause-unmoved
returns-clause-unmoved c = record { same = record { table = refl; config = refl; key = refl; numbers = same_none (view_of c.args.self.now) }; view = refl; steps = refl; greyed = refl }
