-- Who has all machines has those of the run.
use Rattle.std.specs.Slots.{slots_items}
use Rattle.shared_table.proofs.Rules.{closes}
use Rattle.shared_table.proofs.bundles.close_table.Goals as goal

pub returns-clause-reached : goal.returns-clause-reached
returns-clause-reached g c =
    closes (g.M.Machines.kind c.args.table.shared.key) (g.M.Machines.opening c.args.table.shared.key) c.args.seat.id c.args.seat.me.0 (slots_items c.close_with.result.words) (slots_items c.close_with.result.slots)
    c.requires.all c.close_with.ensures.values.2
