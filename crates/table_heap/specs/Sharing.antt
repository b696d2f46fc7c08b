-- Who steals whose hints.
use Rattle.std.specs.Prelude.{ℕ, ◌≡◌, ◌≢◌, ◌<◌, List, length, Some, slice_get}
use Rattle.heap_words.specs.declared.config.Config.{Config}
use Rattle.table_heap.specs.Seen.{IsThiefOf, IsSameDeque}
use Rattle.table_heap.specs.declared.hints.Thief.{Thief}
use Rattle.table_heap.specs.declared.bundle.Bundle.{Bundle}
use Rattle.table_heap.specs.State.{config_in}
use Rattle.table_heap.specs.Turning.{OnlyHintsDiffer}

-- one of the bundle's thieves steals the other's hints
pub record StealsFrom (bundle other : Bundle) : Type 0 where
  pub place : ℕ
  pub thief : Thief
  pub there : slice_get bundle.thieves.items place ≡ Some thief
  pub steals : IsThiefOf other.hints thief

-- each bundle with a lower number than this steals the hints of the bundle under the other number, if it is another
abbrev pub StealFrom : (below : ℕ) → List Bundle → (number : ℕ) → Type 0
StealFrom below bundles number =
    (index : ℕ) (bundle other_bundle : Bundle) → index < below → index ≢ number → slice_get bundles index ≡ Some bundle → slice_get bundles number ≡ Some other_bundle → StealsFrom bundle other_bundle

-- each of the bundles steals the hints of each other one
abbrev pub StealFromEachOther : List Bundle → Type 0
StealFromEachOther bundles = (number : ℕ) → number < length bundles → StealFrom (length bundles) bundles number

-- some bundles are of heaps with one configuration
abbrev pub HaveConfig : Config → List Bundle → Type 0
HaveConfig config bundles = (index : ℕ) (bundle : Bundle) → slice_get bundles index ≡ Some bundle → config_in bundle ≡ config

-- The bundle has all thieves that it had, and its own hints are in the same deque. Nothing else has changed.
pub record SharesMore (old new : Bundle) : Type 0 where
  pub only : OnlyHintsDiffer old new
  pub deque : IsSameDeque old.hints new.hints
  pub thieves : (place : ℕ) (thief : Thief) → slice_get old.thieves.items place ≡ Some thief → slice_get new.thieves.items place ≡ Some thief

-- so it is of each of some bundles
pub record AllShareMore (old new : List Bundle) : Type 0 where
  pub count : length new ≡ length old
  pub each : (index : ℕ) (bundle : Bundle) → slice_get new index ≡ Some bundle → (other_bundle : Bundle) × (slice_get old index ≡ Some other_bundle) × SharesMore other_bundle bundle
