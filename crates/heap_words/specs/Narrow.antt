-- Which configurations a trace can have.
use Rattle.std.specs.Prelude.{◌≤◌}
use Rattle.heap_words.specs.declared.config.Config.{Config}

-- a region has at most so many words
abbrev pub IsNarrow : Config → Type 0
IsNarrow config = config.region_words ≤ 1024
