use Rattle.heap_world.proofs.Tables.{table_stands}
use Rattle.heap_world.proofs.graph_laws.table_words_stand.Goals as goal

pub returns : goal.returns
returns c = table_stands
