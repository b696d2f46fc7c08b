-- What callers know of `Copiers`.
use Rattle.std.specs.Prelude.{ℕ, List, [], ◌∷◌, map, slice_index_or}
use Rattle.heap_words.specs.Steps.{Stage}
use Rattle.evac_room.specs.declared.copiers.Copiers.{Copiers}
use Rattle.evac_room.specs.declared.spot.RoomSpot.{RoomSpot}
use Rattle.evac_room.specs.declared.spot.RoomSpot.TheVariants.{Outside}
use Rattle.evac_room.specs.Copier.{spot_of}

-- the word that counts
abbrev pub counting_word : Copiers → ℕ
counting_word copiers = copiers.word

-- where the copiers stand, by their numbers
abbrev pub spots_of : Copiers → List RoomSpot
spots_of copiers = map spot_of copiers.copiers.items

abbrev pub spot_at : Copiers → ℕ → RoomSpot
spot_at copiers number = slice_index_or (spots_of copiers) number Outside

-- the word and the copiers, as steps see them
abbrev pub copiers_stage : Copiers → Stage RoomSpot
copiers_stage copiers = record { words = counting_word copiers ∷ []; machines = spots_of copiers }
