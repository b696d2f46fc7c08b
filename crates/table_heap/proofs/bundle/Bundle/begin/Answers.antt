use Rattle.std.proofs.Common.{refl, ◌<◌, Some, sym, ap, ◌∙◌, subst, arith}
use Rattle.std.specs.Prelude.{slice_set}
use Rattle.std.proofs.lemmas.List.{length-set}
use Rattle.shared_table.specs.Views.{kept_in_view}
use Rattle.shared_table.proofs.Kept.{kept-set}
use Rattle.shared_table.proofs.Numbers.{same_none}
use Rattle.heap_machines.specs.Shown.{shown, order_of, no_machine}
use Rattle.std.specs.Option.{option_copied_mut}
use Rattle.shen_graph.specs.declared.order.Order.TheVariants.{Begin}
use Rattle.shen_graph.specs.Valid.{most_objects}
use Rattle.heap_machines.specs.Roles.{is_mutating}
use Rattle.step_core.specs.Machines.{takes_of, may_begin, made_of_machine}
use Rattle.table_heap.specs.State.{view_of}
use Rattle.table_heap.proofs.MachineUnder.{within, read_here, never_none, shows_as, put_same}
use Rattle.table_heap.proofs.Stepping.{heap_put}
use Rattle.table_heap.proofs.Greyed.{greys_put}
use Rattle.table_heap.proofs.bundle.Bundle.begin.Goals as goal

pub index_mut-requires : goal.index_mut-requires
index_mut-requires c = let number_inside = within shown c.args.self.now.machines.items c.args.number c.requires.here in omega arith

pub unreachable-requires : goal.unreachable-requires
unreachable-requires c =
    never_none shown c.args.self.now.machines.items c.args.number c.index_mut.result.now c.requires.here c.index_mut.ensures.value
    (sym c.as_mut.ensures.value ∙ ap option_copied_mut c.in_default.is)

pub begin-requires-clause-rest : goal.begin-requires-clause-rest
begin-requires-clause-rest c =
    let bundle = c.args.self.now in
    let machine = c.in-Some.machine.now in
    let number_inside = within shown bundle.machines.items c.args.number c.requires.here in
    let machine_there = read_here shown bundle.machines.items c.args.number c.index_mut.result.now machine number_inside c.index_mut.ensures.value (sym c.as_mut.ensures.value ∙ ap option_copied_mut c.in-Some.is) in
    ap may_begin (sym (shows_as shown bundle.machines.items c.args.number machine no_machine machine_there)) ∙ c.requires.rest

pub begin-requires-clause-made : goal.begin-requires-clause-made
begin-requires-clause-made c =
    let bundle = c.args.self.now in
    let machine = c.in-Some.machine.now in
    let number_inside = within shown bundle.machines.items c.args.number c.requires.here in
    let machine_there = read_here shown bundle.machines.items c.args.number c.index_mut.result.now machine number_inside c.index_mut.ensures.value (sym c.as_mut.ensures.value ∙ ap option_copied_mut c.in-Some.is) in
    subst (λ asked_machine. made_of_machine asked_machine < most_objects) (shows_as shown bundle.machines.items c.args.number machine no_machine machine_there) c.requires.made

pub invariant_of-self : goal.invariant_of-self
invariant_of-self c =
    let bundle = c.args.self.now in
    let machine = c.in-Some.machine.now in
    let number_inside = within shown bundle.machines.items c.args.number c.requires.here in
    let machine_there = read_here shown bundle.machines.items c.args.number c.index_mut.result.now machine number_inside c.index_mut.ensures.value (sym c.as_mut.ensures.value ∙ ap option_copied_mut c.in-Some.is) in
    let next_machine = c.begin.new.self in
    record {
      same_sizes = bundle.same_sizes;
      seats = length-set bundle.machines.items _ _ ∙ bundle.seats;
      kept = bundle.kept ∙ sym (put_same shown bundle.machines.items c.args.number machine next_machine machine_there c.begin.ensures.shown);
      slots = bundle.slots;
      of_heap = heap_put bundle.config bundle.machines.items c.args.number machine next_machine machine_there c.begin.ensures.heap (ap is_mutating c.begin.ensures.shown) bundle.of_heap;
      greys = greys_put bundle.config bundle.machines.items bundle.greyed.items c.args.number machine next_machine machine_there bundle.greys;
      hints_of_heap = bundle.hints_of_heap;
      thieves_of_heap = bundle.thieves_of_heap;
    }

pub returns-clause-order : goal.returns-clause-order
returns-clause-order c =
    kept-set order_of c.args.self.now.machines.items c.args.number (Some c.begin.new.self) ∙ ap (λ order. slice_set (kept_in_view order_of c.args.self.now.machines.items) c.args.number (Some order)) c.begin.ensures.order

pub returns-clause-takes : goal.returns-clause-takes
returns-clause-takes c =
    let bundle = c.args.self.now in
    let machine = c.in-Some.machine.now in
    let number_inside = within shown bundle.machines.items c.args.number c.requires.here in
    let machine_there = read_here shown bundle.machines.items c.args.number c.index_mut.result.now machine number_inside c.index_mut.ensures.value (sym c.as_mut.ensures.value ∙ ap option_copied_mut c.in-Some.is) in
    ap (λ asked_machine. takes_of asked_machine (Begin c.args.command)) (shows_as shown bundle.machines.items c.args.number machine no_machine machine_there) ∙ c.begin.ensures.takes

pub begin-requires-clause-valid : goal.begin-requires-clause-valid
begin-requires-clause-valid c = c.requires.valid

pub returns-clause-unmoved : goal.returns-clause-unmoved
returns-clause-unmoved c = record { same = record { table = refl; config = refl; key = refl; numbers = same_none (view_of c.args.self.now) }; view = refl; steps = refl; greyed = refl }
