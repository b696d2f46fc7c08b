-- The words of a heap, kept beside it.
use Rattle.std.specs.Prelude.{ℕ, List, length, slice_set, nat_lt, if◌then◌else◌}
use Rattle.heap_words.specs.declared.config.Config.{Config}
use Rattle.heap_words.specs.declared.access.Access.{Access}
use Rattle.heap_words.specs.Access.{table_index, made_of}
use Rattle.listing.specs.declared.table.Table.{Table}

abbrev pub config_of : Table → Config
config_of table = table.config

abbrev pub words_of : Table → List ℕ
words_of table = table.words.items

-- a word that is put, where there is one
abbrev pub put_at : List ℕ → ℕ → ℕ → List ℕ
put_at words index word = if nat_lt index (length words) then slice_set words index word else words

-- what an access makes of the words, that has found this
abbrev pub after_access : List ℕ → Access → ℕ → List ℕ
after_access words access found = put_at words (table_index access) (made_of access found)
