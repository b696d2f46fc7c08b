use Rattle.std.proofs.Common.{◌<◌, subst}
use Rattle.std.proofs.lemmas.Bool.{lt-ltb}
use Rattle.table_heap.proofs.Running.{has_script}
use Rattle.table_heap.proofs.bundle.Bundle.next_command.Goals as goal

pub next-requires : goal.next-requires
next-requires c =
    let bundle = c.args.self.now in
    let number_below : c.args.number < bundle.config.mutators = subst (λ mutator_count. c.args.number < mutator_count) c.mutators.ensures c.if-number-mutators.true in
    has_script bundle c.args.work.now c.args.number c.requires.work c.requires.here (lt-ltb c.args.number bundle.config.mutators number_below)
