-- The accesses that mark an address.
use Rattle.std.specs.Prelude.{ℕ}
use Rattle.heap_words.specs.declared.config.Config.{Config}
use Rattle.heap_words.specs.Words.{Grey, Black}
use Rattle.heap_words.specs.Touch.{Touch, touch, sets_bits}
use Rattle.regions.specs.Marks.{mark_word, mark_mask}

-- the access that makes an address grey
abbrev pub grey_touch : Config → ℕ → Touch
grey_touch config address = touch (Grey (mark_word config address)) (sets_bits (mark_mask config address))

-- the access that makes it black
abbrev pub black_touch : Config → ℕ → Touch
black_touch config address = touch (Black (mark_word config address)) (sets_bits (mark_mask config address))
