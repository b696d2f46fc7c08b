use Rattle.shen_graph.proofs.ValidLemmas.{is_valid-Decides}
use Rattle.shen_graph.proofs.command.Command.is_valid.Goals as goal

pub returns-clause-valid : goal.returns-clause-valid
returns-clause-valid c = rw c.is_in_range.ensures (is_valid-Decides c.args.self.now)

pub returns-clause-test : goal.returns-clause-test
returns-clause-test c = c.is_in_range.ensures
