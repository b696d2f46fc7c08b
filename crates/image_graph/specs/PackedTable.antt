-- The words of a table after its marked objects were packed.
use Rattle.std.specs.Prelude.{ℕ, ◌≡◌, ◌+◌, ◌<◌, ◌≤◌, ◌⊎◌, if◌then◌else◌, Bool, List, slice_index}
use Rattle.heap_words.specs.declared.config.Config.{Config}
use Rattle.heap_words.specs.Words.{Top, word_at, heap_size, heap_start, heap_in}
use Rattle.regions.specs.Tops.{top_before}
use Rattle.regions.specs.Slide.{IsSlidTo, renewed}
use Rattle.regions.specs.Table.{word_of, kept_of, place_of, now_of, LeadsToKept, IsRenewedBy}

-- The heap was slid around the regions that are shut, the tops are those of the packed objects, or in a shut region as before, and no word
-- is changed that is of neither, before the heap or behind it. By the table of new places each word that led to a marked object can be renewed.
pub record IsPacked (config : Config) (shut : ℕ → Bool) (marks : List Bool) (before after places : List ℕ) : Type 0 where
  pub slid : IsSlidTo (config.region_words + heap_size config) config.region_words (place_of config.region_words shut (heap_in config before) marks) (kept_of config.region_words (heap_in config before) marks)
      (renewed (place_of config.region_words shut (heap_in config before) marks) (now_of config.region_words (heap_in config before)))
      (word_of config.region_words (heap_in config before)) (word_of config.region_words (heap_in config after))
  pub tops : (region : ℕ) → region < config.regions → slice_index after (word_at config (Top region))
      ≡ (if shut (region + 1) then slice_index before (word_at config (Top region)) else top_before config.region_words shut (kept_of config.region_words (heap_in config before) marks) region (config.region_words + heap_size config))
  pub others : (index : ℕ) → index < heap_start config → (index < word_at config (Top 0)) ⊎ (word_at config (Top 0) + config.regions ≤ index) → slice_index after index ≡ slice_index before index
  pub behind : (index : ℕ) → heap_start config + heap_size config ≤ index → slice_index after index ≡ slice_index before index
  pub renews : (word : ℕ) → LeadsToKept config.region_words (heap_in config before) marks word → IsRenewedBy config.region_words shut (heap_in config before) marks places word
