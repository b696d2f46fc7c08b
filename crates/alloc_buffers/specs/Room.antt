-- When a machine that takes room finds none, by all the words that it has found.
use Rattle.std.specs.Prelude.{ℕ, ◌≡◌, ◌≤◌, ◌<◌, ◌+◌, Bool, true, false, List, [], ◌∷◌, ◌++◌}
use Rattle.heap_words.specs.declared.config.Config.{Config}
use Rattle.heap_words.specs.Encoding.{next_in, end_in}
use Rattle.regions.specs.Sets.{members_below}
use Rattle.alloc_buffers.specs.declared.spot.Kind.{Kind}
use Rattle.alloc_buffers.specs.declared.spot.Kind.TheVariants.{Fresh, Evacuated}
use Rattle.alloc_buffers.specs.declared.spot.Taken.TheVariants.{NoRoom}
use Rattle.alloc_buffers.specs.declared.spot.TakeSpot.{TakeSpot}
use Rattle.alloc_buffers.specs.declared.spot.TakeSpot.TheVariants.{LoadBuffer, LoadShared, LoadTop, LoadFree, TakeRegion, Ended}
use Rattle.alloc_buffers.specs.Rows.{next_at, is_ended}

-- where it stands after it has found these words, one after the other
abbrev pub after_found : Config → ℕ → Kind → TakeSpot → List ℕ → TakeSpot
after_found config words kind spot [] = spot
after_found config words kind spot (got ∷ rest) = after_found config words kind (next_at config words kind spot got) rest

-- it has found these words, and ends without room at the next
pub record FindsNoRoom (config : Config) (words : ℕ) (kind : Kind) (found : List ℕ) (free : ℕ) : Type 0 where
  pub going : is_ended (after_found config words kind LoadBuffer found) ≡ false
  pub ends : next_at config words kind (after_found config words kind LoadBuffer found) free ≡ Ended NoRoom 0

-- The word of the buffer is found first of these words, and tells fewer free words than are wanted; 0 tells none.
abbrev pub IsBufferShort : ℕ → List ℕ → Type 0
IsBufferShort words [] = ⊥
IsBufferShort words (buffer ∷ rest) = end_in buffer < next_in buffer + words

-- the word of the shared region, or its top where there is one, says at a spot that there is too little room to carve
abbrev pub IsFullAt : Config → ℕ → TakeSpot → ℕ → Type 0
IsFullAt config words (LoadShared buffer) got = got ≡ 0
IsFullAt config words (LoadTop buffer region) got = config.region_words < got + words
IsFullAt config words _ got = ⊥

-- whether it looks for a free region
abbrev pub is_searching : TakeSpot → Bool
is_searching (LoadFree buffer shared) = true
is_searching (TakeRegion buffer shared region) = true
is_searching _ = false

-- From a spot on one of these words says that no region is shared, or that the shared one has too little room; and behind it the machine
-- only looks for a free region, to the end: no later word tells of another shared region.
pub data HasFull (config : Config) (words : ℕ) (kind : Kind) : TakeSpot → List ℕ → Type 0 where
  here : (spot : TakeSpot) (got : ℕ) (more : List ℕ) → IsFullAt config words spot got → ((before after : List ℕ) → more ≡ before ++ after → is_searching (after_found config words kind (next_at config words kind spot got) before) ≡ true)
      → HasFull config words kind spot (got ∷ more)
  later : (spot : TakeSpot) (got : ℕ) (more : List ℕ) → HasFull config words kind (next_at config words kind spot got) more → HasFull config words kind spot (got ∷ more)

-- Of the free regions that are found none may be taken: a new object leaves those of the reserve to copies, and a copy may take each.
abbrev pub MayTakeNone : Config → Kind → ℕ → Type 0
MayTakeNone config Fresh free_regions = members_below free_regions 64 ≤ config.reserve
MayTakeNone config Evacuated free_regions = members_below free_regions 64 ≤ 0

-- the buffer and the shared region have too little room, and of the free regions none may be taken
pub record IsLackOfRoom (config : Config) (words : ℕ) (kind : Kind) (found : List ℕ) (free : ℕ) : Type 0 where
  pub short : IsBufferShort words found
  pub full : HasFull config words kind LoadBuffer found
  pub none : MayTakeNone config kind free
