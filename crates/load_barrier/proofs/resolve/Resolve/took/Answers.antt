use Rattle.load_barrier.proofs.Ends.{done_is}
use Rattle.load_barrier.proofs.resolve.Resolve.took.Goals as goal

pub returns-clause-done : goal.returns-clause-done
returns-clause-done c =
    let done_when = done_is c.args.self.now.config c.args.self.now.address c.args.self.now.phase c.args.self.now.spot c.args.got in
    search (done_when, c.after-spot.ensures.row, c.after-spot.ensures.says)
