-- What the turn of one seat changes.
use Rattle.std.proofs.Common.{◌≡◌, ◌≢◌, ℕ, ◌+◌, ◌-◌, Bool, true, false, refl, ap}
use Rattle.std.specs.Prelude.{◌==◌, nat_lt, if◌then◌else◌}
use Rattle.std.proofs.lemmas.Bool.{cond-true, cond-false, eq-eqb, ne_eqb}
use Rattle.heap_words.specs.declared.config.Config.{Config}
use Rattle.heap_words.specs.Words.{Word, Top, Current, Heap, write}
use Rattle.heap_words.specs.Encoding.{next_in, end_in, filler_header}
use Rattle.regions.specs.Place.{base_of}
use Rattle.image_graph.specs.SeatBuffers.{buffer_region, is_last, filled_over}
use Rattle.image_graph.specs.LetGo.{given_back}

-- of two memories, whichever, a word is the same where it is in both
pub if_at : (holds : Bool) (memory other_memory : Word → ℕ) (word : Word) (value : ℕ) → memory word ≡ value → other_memory word ≡ value → (if holds then memory else other_memory) word ≡ value
if_at true memory other_memory word value first_value second_value = first_value
if_at false memory other_memory word value first_value second_value = second_value

-- a buffer word is the one that was written, or as it was
pub own_current : (memory : Word → ℕ) (seat value : ℕ) → write memory (Current seat) value (Current seat) ≡ value
own_current memory seat value = cond-true (seat == seat) value (memory (Current seat)) (eq-eqb seat seat refl)

pub other_current : (memory : Word → ℕ) (seat value other_seat : ℕ) → seat ≢ other_seat → write memory (Current seat) value (Current other_seat) ≡ memory (Current other_seat)
other_current memory seat value other_seat differs = cond-false (seat == other_seat) value (memory (Current other_seat)) (ne_eqb seat other_seat differs)

-- Filling changes no word but those of the heap.
pub filled_top : (memory : Word → ℕ) (word region : ℕ) → filled_over memory word (Top region) ≡ memory (Top region)
filled_top memory word region = if_at (nat_lt (next_in word) (end_in word)) (write memory (Heap (next_in word)) (filler_header (end_in word - next_in word))) memory (Top region) (memory (Top region)) refl refl

pub filled_current : (memory : Word → ℕ) (word seat : ℕ) → filled_over memory word (Current seat) ≡ memory (Current seat)
filled_current memory word seat = if_at (nat_lt (next_in word) (end_in word)) (write memory (Heap (next_in word)) (filler_header (end_in word - next_in word))) memory (Current seat) (memory (Current seat)) refl refl

-- Giving back changes no buffer word.
pub back_current : (config : Config) (memory : Word → ℕ) (word seat : ℕ) → given_back config memory word (Current seat) ≡ memory (Current seat)
back_current config memory word seat = refl

-- whether a buffer is the last depends on tops alone
pub last_same : (config : Config) (memory other_memory : Word → ℕ) (word : ℕ) → ((region : ℕ) → other_memory (Top region) ≡ memory (Top region)) → is_last config other_memory word ≡ is_last config memory word
last_same config memory other_memory word tops = ap (λ top. end_in word == base_of config (buffer_region config word) + top) (tops (buffer_region config word))
