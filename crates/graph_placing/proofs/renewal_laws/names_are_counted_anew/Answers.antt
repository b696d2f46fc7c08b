use Rattle.graph_placing.proofs.Renamings.{is_renaming}
use Rattle.graph_placing.proofs.renewal_laws.names_are_counted_anew.Goals as goal

pub returns : goal.returns
returns c = is_renaming
