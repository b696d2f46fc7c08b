-- A view is cut in two.
use Rattle.shared_table.specs.Views.{is_dealt_to}
use Rattle.shared_table.proofs.Rules.{splits}
use Rattle.shared_table.proofs.bundles.deal_bundle.Goals as goal

pub split_seat-requires : goal.split_seat-requires
split_seat-requires g c = (
  c.requires.table.0,
  c.requires.table.1,
  splits (g.M.Machines.kind c.args.table.now.key) (g.M.Machines.opening c.args.table.now.key) c.args.seat.now.id c.args.seat.now.me.0 (is_dealt_to g.G.Cut.bundles g.G.Cut.bundle),
)
