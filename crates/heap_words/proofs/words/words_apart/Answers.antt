use Rattle.heap_words.proofs.Stores.{are_apart, is_store_of_one}
use Rattle.heap_words.proofs.words.words_apart.Goals as goal

pub returns-clause-apart : goal.returns-clause-apart
returns-clause-apart c = are_apart

pub returns-clause-stores : goal.returns-clause-stores
returns-clause-stores c = is_store_of_one
