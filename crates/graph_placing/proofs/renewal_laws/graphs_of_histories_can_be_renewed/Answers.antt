use Rattle.graph_placing.proofs.Renewables.{opening_renewable, history_renewable}
use Rattle.graph_placing.proofs.ShownRenewable.{placeable, of_threads, renewable_anew}
use Rattle.graph_placing.proofs.renewal_laws.graphs_of_histories_can_be_renewed.Goals as goal

pub returns-clause-opening : goal.returns-clause-opening
returns-clause-opening c = opening_renewable

pub returns-clause-history : goal.returns-clause-history
returns-clause-history c = history_renewable

pub returns-clause-whole : goal.returns-clause-whole
returns-clause-whole c = placeable

pub returns-clause-names : goal.returns-clause-names
returns-clause-names c = of_threads

pub returns-clause-once_more : goal.returns-clause-once_more
returns-clause-once_more c = λ config text counts can_place are_counts. renewable_anew config text can_place are_counts counts
