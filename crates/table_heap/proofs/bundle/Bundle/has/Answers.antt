use Rattle.std.proofs.Common.{◌≡◌, false, nat_lt, sym, ap, ◌∙◌, arith}
use Rattle.std.specs.Option.{is_some}
use Rattle.std.proofs.lemmas.Bool.Decides.{nat_tests}
use Rattle.shared_table.specs.Views.{machine_of}
use Rattle.shared_table.proofs.Kept.{kept_some}
use Rattle.heap_machines.specs.Shown.{shown}
use Rattle.table_heap.specs.Core.{machine_in}
use Rattle.table_heap.specs.State.{view_of}
use Rattle.table_heap.proofs.MachineUnder.{some_read, some_past}
use Rattle.table_heap.proofs.bundle.Bundle.has.Goals as goal

pub returns-then-number-len-clause-machine : goal.returns-then-number-len-clause-machine
returns-then-number-len-clause-machine c =
    c.is_some.ensures ∙ some_read shown c.args.self.now.machines.items c.args.number c.index.result.now (omega (arith, c.len.ensures)) c.index.ensures

pub returns-then-number-len-clause-view : goal.returns-then-number-len-clause-view
returns-then-number-len-clause-view c =
    c.is_some.ensures ∙ some_read shown c.args.self.now.machines.items c.args.number c.index.result.now (omega (arith, c.len.ensures)) c.index.ensures
    ∙ ap (λ view. is_some (machine_of view c.args.number)) (sym c.args.self.now.kept) ∙ kept_some machine_in (view_of c.args.self.now) c.args.number

pub returns-else-number-len-clause-machine : goal.returns-else-number-len-clause-machine
returns-else-number-len-clause-machine c =
    let number_not_below : nat_lt c.args.number c.len.result ≡ false = grind (arith, nat_tests, c.if-number-len.false) in
    number_not_below ∙ sym (some_past shown c.args.self.now.machines.items c.args.number (λ inside. absurd (omega (arith, c.len.ensures, inside))))

pub returns-else-number-len-clause-view : goal.returns-else-number-len-clause-view
returns-else-number-len-clause-view c =
    let number_not_below : nat_lt c.args.number c.len.result ≡ false = grind (arith, nat_tests, c.if-number-len.false) in
    number_not_below ∙ sym (some_past shown c.args.self.now.machines.items c.args.number (λ inside. absurd (omega (arith, c.len.ensures, inside))))
    ∙ ap (λ view. is_some (machine_of view c.args.number)) (sym c.args.self.now.kept) ∙ kept_some machine_in (view_of c.args.self.now) c.args.number
