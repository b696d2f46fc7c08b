-- What settling and letting go may write are words of the heap, tops, and the words of buffers: all others stay.
use Rattle.std.proofs.Common.{◌≡◌, ℕ, ◌-◌, true, false, zero, suc, ⊎_elim, refl, ◌∙◌, subst}
use Rattle.std.specs.Prelude.{⊤, ◌==◌, ◌||◌, nat_lt, if◌then◌else◌}
use Rattle.std.proofs.lemmas.Bool.{cases_Bool, cond-false}
use Rattle.heap_words.specs.declared.config.Config.{Config}
use Rattle.heap_words.specs.Encoding.{filler_header, next_in, end_in}
use Rattle.heap_words.specs.Words.{Word, Top, Current, Heap, same_word, write}
use Rattle.heap_words.proofs.Stores.{same_word_true}
use Rattle.regions.specs.Place.{base_of}
use Rattle.image_graph.specs.SeatBuffers.{buffer_region, is_last, filled_over}
use Rattle.image_graph.specs.Settled.{settled_at, settled_below}
use Rattle.image_graph.specs.LetGo.{given_back, let_go_at, let_go_below}
use Rattle.image_graph.proofs.OneTurn.{if_at}

-- the words that they may write
abbrev pub IsOfBuffers : Word → Type 0
IsOfBuffers (Heap address) = ⊤
IsOfBuffers (Top region) = ⊤
IsOfBuffers (Current seat) = ⊤
IsOfBuffers word = ⊥

module _ (word : Word) (not_buffers : IsOfBuffers word → ⊥) where
  not_written : (memory : Word → ℕ) (written : Word) (value : ℕ) → IsOfBuffers written → write memory written value word ≡ memory word
  not_written memory written value of_buffers = ⊎_elim
      (λ (is_written : same_word written word ≡ true). absurd (not_buffers (subst IsOfBuffers (same_word_true written word is_written) of_buffers)))
      (λ (differs : same_word written word ≡ false). cond-false (same_word written word) value (memory word) differs)
      (cases_Bool (same_word written word))

  filled_else : (memory : Word → ℕ) (buffer : ℕ) → filled_over memory buffer word ≡ memory word
  filled_else memory buffer =
      if_at (nat_lt (next_in buffer) (end_in buffer)) (write memory (Heap (next_in buffer)) (filler_header (end_in buffer - next_in buffer))) memory word (memory word)
      (not_written memory (Heap (next_in buffer)) (filler_header (end_in buffer - next_in buffer)) tt) refl

  settled_else : (config : Config) (memory : Word → ℕ) (seat : ℕ) → settled_at config memory seat word ≡ memory word
  settled_else config memory seat =
      if_at ((memory (Current seat) == 0) || is_last config memory (memory (Current seat))) memory (write (filled_over memory (memory (Current seat))) (Current seat) 0) word (memory word) refl
      (not_written (filled_over memory (memory (Current seat))) (Current seat) 0 tt ∙ filled_else memory (memory (Current seat)))

  let_go_else : (config : Config) (memory : Word → ℕ) (seat : ℕ) → let_go_at config memory seat word ≡ memory word
  let_go_else config memory seat =
      if_at (memory (Current seat) == 0) memory (write (if is_last config memory (memory (Current seat)) then given_back config memory (memory (Current seat)) else filled_over memory (memory (Current seat))) (Current seat) 0) word (memory word) refl
      (not_written (if is_last config memory (memory (Current seat)) then given_back config memory (memory (Current seat)) else filled_over memory (memory (Current seat))) (Current seat) 0 tt
      ∙ if_at (is_last config memory (memory (Current seat))) (given_back config memory (memory (Current seat))) (filled_over memory (memory (Current seat))) word (memory word)
      (not_written memory (Top (buffer_region config (memory (Current seat)))) (next_in (memory (Current seat)) - base_of config (buffer_region config (memory (Current seat)))) tt) (filled_else memory (memory (Current seat))))

  -- after any number of turns
  pub settled_same : (config : Config) (memory : Word → ℕ) (turns : ℕ) → settled_below config memory turns word ≡ memory word
  unfolding settled_below
  settled_same config memory zero = refl
  settled_same config memory (suc seat) = settled_else config (settled_below config memory seat) seat ∙ settled_same config memory seat

  pub let_go_same : (config : Config) (memory : Word → ℕ) (turns : ℕ) → let_go_below config memory turns word ≡ memory word
  unfolding let_go_below
  let_go_same config memory zero = refl
  let_go_same config memory (suc seat) = let_go_else config (let_go_below config memory seat) seat ∙ let_go_same config memory seat
