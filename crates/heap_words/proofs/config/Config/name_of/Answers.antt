use Rattle.std.proofs.Common.{sym, ◌∙◌}
use Rattle.heap_words.proofs.Named.{stands-name_of}
use Rattle.heap_words.proofs.Rows.{words_differ}
use Rattle.heap_words.proofs.config.Config.name_of.Goals as goal

pub returns-clause-name : goal.returns-clause-name
returns-clause-name c = stands-name_of _ _ _ c.name_there.ensures.word c.name_there.ensures.place

pub returns-clause-only : goal.returns-clause-only
returns-clause-only c word is_word place = words_differ c.args.self.now _ _ is_word c.name_there.ensures.word (place ∙ sym c.name_there.ensures.place)
