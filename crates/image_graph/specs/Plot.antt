-- How the regions are divided once the kept objects were packed.
use Rattle.std.specs.Prelude.{ℕ, ◌≡◌, ◌⊎◌, ◌+◌, ◌*◌, ◌/◌, ◌≤◌, ◌==◌, ◌&&◌, nat_lt, Bool, true, if◌then◌else◌, Option, Some, None, option_and_then, zero, suc}
use Rattle.heap_words.specs.declared.config.Config.{Config}
use Rattle.heap_words.specs.Encoding.{filler_header}
use Rattle.std.specs.Option.{option_map}
use Rattle.regions.specs.Place.{region_with}
use Rattle.regions.specs.Walk.{stride_at}
use Rattle.regions.specs.Places.{new_place}
use Rattle.regions.specs.Tops.{top_before}
use Rattle.shen_graph.specs.declared.name.Name.{Name}
use Rattle.heap_world.specs.World.{Block, Plot, thing, promised, hand, carved, filler, words_of, name_at, IsFilled}

-- Each piece is an object, or words that only fill, as they may stand in pinned regions: nobody has room in hand, and old copies and what
-- a pause has made for a mutator count as objects.
abbrev pub AreThings : Plot → Type 0
AreThings block = (address : ℕ) (piece : Block) → block address ≡ Some piece
    → ((name : Name) × (refs : ℕ) × (nums : ℕ) × (piece ≡ thing name refs nums)) ⊎ ((words : ℕ) × (1 ≤ words) × (piece ≡ filler words))

-- words that only fill begin with a header that says how many they are
abbrev pub FillersSay : (heap : ℕ → ℕ) → Plot → Type 0
FillersSay heap block = (address words : ℕ) → block address ≡ Some (filler words) → heap address ≡ filler_header words

-- What stands for a name is an object, and nothing is promised, in hand or carved: old copies and what a pause has made for a mutator count
-- as objects. Other pieces may be of any kind: dead objects, words that only fill, and the free words of buffers.
pub record NamedAreThings (block : Plot) : Type 0 where
  pub named : (address : ℕ) (name : Name) → name_at (block address) ≡ Some name → (refs : ℕ) × (nums : ℕ) × (block address ≡ Some (thing name refs nums))
  pub unpromised : (address seat words : ℕ) → block address ≡ Some (promised seat words) → ⊥
  pub unheld : (address seat words : ℕ) → block address ≡ Some (hand seat words) → ⊥
  pub uncarved : (address seat words : ℕ) → block address ≡ Some (carved seat words) → ⊥
  pub some : (address : ℕ) (piece : Block) → block address ≡ Some piece → 1 ≤ words_of piece

-- Regions can be walked from their bases on: pieces fill them, each has some word, and those of shut regions say how many.
pub record AreParsed (config : Config) (shut : ℕ → Bool) (top heap : ℕ → ℕ) (block : Plot) : Type 0 where
  pub filled : IsFilled config top block
  pub some : (address : ℕ) (piece : Block) → block address ≡ Some piece → 1 ≤ words_of piece
  pub sized : (address : ℕ) (piece : Block) → block address ≡ Some piece → shut (address / config.region_words) ≡ true → stride_at heap address ≡ words_of piece

-- the address behind the last one of the heap
abbrev pub heap_end : Config → ℕ
heap_end config = (config.regions + 1) * config.region_words

-- the kept address below an end whose object is placed at an address, if there is one
unfoldable pub origin : (place kept : ℕ → ℕ) (target_address : ℕ) → ℕ → Option ℕ
origin place kept target_address zero = None
origin place kept target_address (suc address) = if nat_lt 0 (kept address) && (place address == target_address) then Some address else origin place kept target_address address

-- a piece of a pinned region that no kept object is only fills then
abbrev pub left_piece : Block → Block
left_piece piece = filler (words_of piece)

-- At the new place of each kept object the piece that was at its address. In pinned regions, which are shut, each other piece only
-- fills; and there are no other pieces.
abbrev pub packed_block : Config → (shut : ℕ → Bool) (kept : ℕ → ℕ) → Plot → Plot
packed_block config shut kept block address =
    if shut (region_with config address + 1) then (if kept address == 0 then option_map left_piece (block address) else block address)
    else option_and_then block (origin (new_place config.region_words shut kept) kept address (heap_end config))

-- the top of each open region then
abbrev pub packed_top : Config → (shut : ℕ → Bool) (kept : ℕ → ℕ) → ℕ → ℕ
packed_top config shut kept region = top_before config.region_words shut kept region (heap_end config)
