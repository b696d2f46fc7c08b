-- What the pause that ends marking and begins evacuation makes of the words of an image.
use Rattle.std.specs.Prelude.{ℕ}
use Rattle.heap_words.specs.declared.config.Config.{Config}
use Rattle.heap_words.specs.Words.{Word}
use Rattle.cycle_words.specs.Marking.Final.{final_marked}
use Rattle.cycle_words.specs.Evacuation.Choice.{chosen}
use Rattle.cycle_words.specs.Evacuation.Begun.{evac_begun}

-- Marking has ended, and evacuation begins: the marks are closed, dead regions are freed, regions are chosen, and roots and
-- answers cleared of them. Where no region is chosen the cycle is over.
abbrev pub evac_next : Config → (Word → ℕ) → Word → ℕ
evac_next config memory = evac_begun config (final_marked config memory) (chosen config (final_marked config memory))
