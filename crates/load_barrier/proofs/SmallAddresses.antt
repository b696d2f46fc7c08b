-- Addresses of the heap are small, and so are the numbers of words that only fill.
use Rattle.std.proofs.Common.{◌≡◌, ◌^◌, ◌<◌, ◌/◌, ◌%◌, ℕ, Bool, true, false, Option, Some, None, arith}
use Rattle.std.specs.Prelude.{◌==◌, if◌then◌else◌}
use Rattle.std.proofs.lemmas.Option.{none-some, same_Some}
use Rattle.heap_words.specs.declared.config.Config.{Config}
use Rattle.heap_words.specs.Encoding.{filler_words_in}
use Rattle.heap_words.specs.Words.{Heap, IsWord}
use Rattle.heap_words.proofs.Bounds as bounds

pub address_small : (config : Config) (address : ℕ) → IsWord config (Heap address) → address < 2 ^ 32
address_small config address is_word = bounds.address_small config address is_word

pub filler_small : (header words : ℕ) → header < 2 ^ 64 → filler_words_in header ≡ Some words → words < 2 ^ 62
filler_small header words header_small filler_is = by_test (header % 4 == 2) filler_is
  where
    by_test : (holds : Bool) → (if holds then Some (header / 4) else None) ≡ Some words → words < 2 ^ 62
    by_test true words_told = let quarter_is : header / 4 ≡ words = same_Some (header / 4) words words_told in omega (arith, quarter_is, header_small)
    by_test false words_told = absurd (none-some words words_told)
