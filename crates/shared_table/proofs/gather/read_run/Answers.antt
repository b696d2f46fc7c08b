-- The load is at the first word.
use Rattle.shared_table.proofs.Reading.{reads}
use Rattle.shared_table.proofs.gather.read_run.Goals as goal

pub load-requires : goal.load-requires
load-requires g c = (
  c.requires.table.0,
  c.requires.table.1,
  reads g.M.Machines.kind g.M.Machines.opening c.args.table.now.key g.G.Keyed.key c.requires.key c.args.table.now.table_id.slots c.args.seat.now.id c.args.seat.now.me,
)
