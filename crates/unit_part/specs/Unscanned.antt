-- Which address a machine scans next.
use Rattle.std.specs.Prelude.{ℕ, ◌≡◌, ◌≢◌, ◌<◌, ◌^◌}
use Rattle.std.specs.Int.{bit_at}
use Rattle.heap_words.specs.declared.config.Config.{Config}
use Rattle.regions.specs.Marks.{mark_word, mark_bit, lowest_address}
use Rattle.unit_part.specs.ScanRows.{unscanned_in}

-- a bit of a word is grey and not black
pub record IsUnscanned (grey black bit : ℕ) : Type 0 where
  pub is_grey : bit_at grey bit ≡ 1
  pub not_black : bit_at black bit ≡ 0

-- an address is the lowest of a word whose bit is grey and not black
pub record IsNextUnscanned (config : Config) (word grey black address : ℕ) : Type 0 where
  pub in_word : mark_word config address ≡ word
  pub unscanned : IsUnscanned grey black (mark_bit config address)
  pub none_lower : (bit : ℕ) → bit < mark_bit config address → IsUnscanned grey black bit → ⊥

-- the address that is scanned next is that one; and where there is none no bit of the word is grey and not black
pub record UnscannedIsFound : Type 0 where
  pub next : (config : Config) (word grey black : ℕ) → grey < 2 ^ 64 → black < 2 ^ 64 → unscanned_in grey black ≢ 0
      → IsNextUnscanned config word grey black (lowest_address config word (unscanned_in grey black))
  pub none : (grey black bit : ℕ) → black < 2 ^ 64 → unscanned_in grey black ≡ 0 → bit < 64 → IsUnscanned grey black bit → ⊥
