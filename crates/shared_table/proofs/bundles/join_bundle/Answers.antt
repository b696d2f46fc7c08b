-- A view takes in another.
use Rattle.shared_table.proofs.Rules.{joins}
use Rattle.shared_table.proofs.bundles.join_bundle.Goals as goal

pub join_seat-requires : goal.join_seat-requires
join_seat-requires g c = (
  c.requires.table.0,
  c.requires.table.1,
  c.requires.slots,
  c.requires.table.2,
  joins (g.M.Machines.kind c.args.table.now.key) (g.M.Machines.opening c.args.table.now.key) c.args.seat.now.id c.args.other.id c.args.seat.now.me.0 c.args.other.me.0,
)
