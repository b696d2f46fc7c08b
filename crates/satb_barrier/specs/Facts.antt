-- What a mutator counts on while it records an address, by the words alone.
use Rattle.std.specs.Prelude.{ℕ, ◌≡◌, ◌<◌, true, ⊤}
use Rattle.heap_words.specs.declared.config.Config.{Config}
use Rattle.heap_words.specs.Words.{Word, Count, Buffer}
use Rattle.regions.specs.Marks.{HasMark}
use Rattle.satb_barrier.specs.declared.spot.RememberSpot.{RememberSpot}
use Rattle.satb_barrier.specs.declared.spot.RememberSpot.TheVariants.{LoadCount, LoadEntry, MarkEntry, ClearCount, StoreEntry, StoreCount, Recorded}
use Rattle.satb_barrier.specs.Rows.{is_ready}
use Rattle.satb_barrier.specs.Recorded.{greys_in, IsRecorded, IsSatbBuffer}

-- so many entries of a buffer are grey, from the first on
abbrev pub AreGrey : Config → (Word → ℕ) → ℕ → ℕ → Type 0
AreGrey config memory mutator count = (index : ℕ) → index < count → HasMark config (greys_in memory) (memory (Buffer mutator index))

-- what holds of the words at each spot
abbrev pub RememberFacts : Config → (Word → ℕ) → ℕ → ℕ → RememberSpot → Type 0
RememberFacts config memory mutator address LoadCount = ⊤
RememberFacts config memory mutator address (LoadEntry entry) = (memory (Count mutator) ≡ 8) × (entry < 8) × AreGrey config memory mutator entry
RememberFacts config memory mutator address (MarkEntry entry found) =
    (memory (Count mutator) ≡ 8) × (entry < 8) × AreGrey config memory mutator entry × (memory (Buffer mutator entry) ≡ found)
RememberFacts config memory mutator address ClearCount = (memory (Count mutator) ≡ 8) × AreGrey config memory mutator 8
RememberFacts config memory mutator address (StoreEntry entry) = (memory (Count mutator) ≡ entry) × (entry < 8)
RememberFacts config memory mutator address (StoreCount entry) =
    (memory (Count mutator) ≡ entry) × (entry < 8) × (memory (Buffer mutator entry) ≡ address)
RememberFacts config memory mutator address Recorded = IsRecorded config memory mutator address

-- what a mutator counts on while it records an address
pub record CanRemember (config : Config) (memory : Word → ℕ) (mutator address : ℕ) (spot : RememberSpot) : Type 0 where
  pub buffer : IsSatbBuffer config memory mutator
  pub ready : is_ready config spot ≡ true
  pub facts : RememberFacts config memory mutator address spot
