use Rattle.heap_words.proofs.Named.{are_named, are_read_whole}
use Rattle.heap_words.proofs.name.words_named.Goals as goal

pub returns-clause-named : goal.returns-clause-named
returns-clause-named c = are_named

pub returns-clause-whole : goal.returns-clause-whole
returns-clause-whole c = are_read_whole
