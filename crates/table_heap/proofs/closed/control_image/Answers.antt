use Rattle.std.proofs.Common.{◌≡◌, ◌-◌, true, sym, ap, ◌∙◌, subst, arith}
use Rattle.std.specs.Option.{is_some}
use Rattle.std.proofs.lemmas.Option.{same_Some}
use Rattle.shared_table.specs.Views.{machine_of}
use Rattle.shared_table.proofs.ChangeHands.{machine_of-index, here_within}
use Rattle.heap_machines.specs.declared.machine.Machine.{Machine}
use Rattle.heap_machines.specs.Shown.{shown, config_of}
use Rattle.step_core.specs.Machines.{control_in}
use Rattle.step_core.specs.Settled.{control_number}
use Rattle.table_heap.proofs.closed.control_image.Goals as goal

pub index_mut-requires : goal.index_mut-requires
index_mut-requires c =
    let number : c.seats-number.result - 1 ≡ control_number c.args.config = omega (arith, c.seats-number.ensures) in
    let inside = here_within c.args.machines.items (control_number c.args.config) (ap is_some c.requires.here) in
    omega (arith, number, inside, c.args.machines.ok.0)

pub unreachable-requires : goal.unreachable-requires
unreachable-requires c =
    let items = c.args.machines.items in
    let number : c.seats-number.result - 1 ≡ control_number c.args.config = omega (arith, c.seats-number.ensures) in
    let inside = here_within items (control_number c.args.config) (ap is_some c.requires.here) in
    let found = c.index_mut.ensures.value ∙ sym (machine_of-index items (c.seats-number.result - 1) c.index_mut.result.now (omega (arith, number, inside))) ∙ ap (machine_of items) number ∙ c.requires.here in
    c.in_default.not-Some c.requires.machine (c.take.ensures.value ∙ found)

pub into_image-requires : goal.into_image-requires
into_image-requires c =
    let items = c.args.machines.items in
    let number : c.seats-number.result - 1 ≡ control_number c.args.config = omega (arith, c.seats-number.ensures) in
    let inside = here_within items (control_number c.args.config) (ap is_some c.requires.here) in
    let found = c.index_mut.ensures.value ∙ sym (machine_of-index items (c.seats-number.result - 1) c.index_mut.result.now (omega (arith, number, inside))) ∙ ap (machine_of items) number ∙ c.requires.here in
    let same_control : c.requires.machine ≡ c.in-Some.control = same_Some c.requires.machine c.in-Some.control (sym found ∙ sym c.take.ensures.value ∙ c.in-Some.is) in
    record { control = subst (λ (machine : Machine). is_some (control_in (shown machine)) ≡ true) same_control c.requires.role }

pub returns : goal.returns
returns c =
    let items = c.args.machines.items in
    let number : c.seats-number.result - 1 ≡ control_number c.args.config = omega (arith, c.seats-number.ensures) in
    let inside = here_within items (control_number c.args.config) (ap is_some c.requires.here) in
    let found = c.index_mut.ensures.value ∙ sym (machine_of-index items (c.seats-number.result - 1) c.index_mut.result.now (omega (arith, number, inside))) ∙ ap (machine_of items) number ∙ c.requires.here in
    let same_control : c.requires.machine ≡ c.in-Some.control = same_Some c.requires.machine c.in-Some.control (sym found ∙ sym c.take.ensures.value ∙ c.in-Some.is) in
    c.into_image.ensures.heap ∙ ap config_of (sym same_control) ∙ c.requires.heap
