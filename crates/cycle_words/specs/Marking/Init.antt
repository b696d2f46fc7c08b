-- What the beginning of marking makes of the words of an image.
use Rattle.std.specs.Prelude.{ℕ, ◌+◌, if◌then◌else◌, Bool}
use Rattle.std.specs.Option.{option_map}
use Rattle.heap_words.specs.declared.config.Config.{Config}
use Rattle.heap_words.specs.Words.{Word, Phase, Claim, Ask, Tams, Count, Grey, Black}
use Rattle.heap_words.specs.Phases.{marking_phase}
use Rattle.image_graph.specs.Settled.{buffers_settled}
use Rattle.image_graph.specs.Edge.{edge}
use Rattle.heap_world.specs.Walk.{has}
use Rattle.heap_world.specs.World.{Block, thing, dead, Plot}
use Rattle.image_graph.specs.Full.{held_words}
use Rattle.cycle_words.specs.Marking.Marks.{mark_bits}

-- Nothing is black, and exactly what roots, answers and pin slots hold is grey. The edges are noted, no SATB buffer has an entry, no unit is
-- claimed and nothing is asked for. All other words stay.
abbrev pub marking_begun : Config → (Word → ℕ) → Word → ℕ
marking_begun config memory (Grey number) = mark_bits config (has (held_words config memory)) number
marking_begun config memory (Black number) = 0
marking_begun config memory (Tams region) = edge config memory region
marking_begun config memory (Count mutator) = 0
marking_begun config memory Claim = 0
marking_begun config memory Ask = 0
marking_begun config memory Phase = marking_phase
marking_begun config memory word = memory word

-- Buffers are settled, and marking begins: so what is allocated from now on lies at or above the edges.
abbrev pub init_marked : Config → (Word → ℕ) → Word → ℕ
init_marked config memory = marking_begun config (buffers_settled config memory)

-- a piece that stays, or of whose object only the words stay
abbrev pub pruned_piece : Bool → Block → Block
pruned_piece live (thing name refs nums) = if live then thing name refs nums else dead (3 + refs + nums)
pruned_piece live piece = piece

-- the pieces where objects that are not of a set are dead
abbrev pub pruned : (ℕ → Bool) → Plot → Plot
pruned live block address = option_map (pruned_piece (live address)) (block address)
