use Rattle.std.proofs.Common.{length, ap, ◌∙◌}
use Rattle.table_heap.proofs.heap.opened_table.Goals as goal

pub open_table-requires : goal.open_table-requires
open_table-requires c = c.deref.ensures.value ∙ c.requires.words

pub returns-in-Ok-clause-words : goal.returns-in-Ok-clause-words
returns-in-Ok-clause-words c = c.in-Ok.ensures.1 ∙ ap length c.deref.ensures.value ∙ c.requires.count
