-- What one turn more of a loop makes of the words.
use Rattle.std.proofs.Common.{◌≡◌, ℕ, ◌+◌, ◌==◌, nat_lt, cond, Bool, refl, arith}
use Rattle.std.proofs.lemmas.Bool.Decides.{nat_tests}
use Rattle.std.proofs.Math.Path.{fun_ext}
use Rattle.heap_words.specs.declared.config.Config.{Config}
use Rattle.heap_words.specs.Ranges.{seat_count}
use Rattle.heap_words.specs.Words.{Word, Tams, Count, Grey, Black, write}
use Rattle.image_graph.specs.Edge.{edge}
use Rattle.image_graph.proofs.Edges.{edges_same}
use Rattle.cycle_words.specs.Marking.Marks.{mark_bits}
use Rattle.mark_core.specs.Steps.{greyed, noted, emptied}

-- one number more below a bound
one_more : (before value : ℕ → ℕ) (count number : ℕ) → cond (count == number) (value count) (cond (nat_lt number count) (value number) (before number)) ≡ cond (nat_lt number (count + 1)) (value number) (before number)
one_more before value count number = grind (arith, nat_tests)

none_yet : (x y number : ℕ) → y ≡ cond (nat_lt number 0) x y
none_yet x y number = grind (arith, nat_tests)

-- buffers

emptied_next_at : (mutator : ℕ) (memory : Word → ℕ) (word : Word) → write (emptied mutator memory) (Count mutator) 0 word ≡ emptied (mutator + 1) memory word
emptied_next_at mutator memory (Count other_mutator) = one_more (λ mutator. memory (Count mutator)) (λ x. 0) mutator other_mutator
emptied_next_at mutator memory _ = refl

pub emptied_next : (mutator : ℕ) (memory : Word → ℕ) → write (emptied mutator memory) (Count mutator) 0 ≡ emptied (mutator + 1) memory
emptied_next mutator memory = fun_ext (λ word. emptied_next_at mutator memory word)

-- edges

pub edge_noted : (config : Config) (count region : ℕ) (memory : Word → ℕ) → edge config (noted config count memory) region ≡ edge config memory region
edge_noted config count region memory = edges_same config memory (noted config count memory) region (λ k. refl) (λ seat. refl) (seat_count config.mutators config.helpers)

noted_next_at : (config : Config) (region : ℕ) (memory : Word → ℕ) (word : Word) → write (noted config region memory) (Tams region) (edge config memory region) word ≡ noted config (region + 1) memory word
noted_next_at config region memory (Tams other_region) = one_more (λ region. memory (Tams region)) (edge config memory) region other_region
noted_next_at config region memory _ = refl

pub noted_next : (config : Config) (region : ℕ) (memory : Word → ℕ) → write (noted config region memory) (Tams region) (edge config memory region) ≡ noted config (region + 1) memory
noted_next config region memory = fun_ext (λ word. noted_next_at config region memory word)

-- marks

module _ (config : Config) (address_set : ℕ → Bool) where
  greyed_none_at : (memory : Word → ℕ) (word : Word) → memory word ≡ greyed config address_set 0 memory word
  greyed_none_at memory (Grey number) = none_yet (mark_bits config address_set number) (memory (Grey number)) number
  greyed_none_at memory (Black number) = none_yet 0 (memory (Black number)) number
  greyed_none_at memory _ = refl

  pub greyed_none : (memory : Word → ℕ) → memory ≡ greyed config address_set 0 memory
  greyed_none memory = fun_ext (λ word. greyed_none_at memory word)

  greyed_next_at : (number : ℕ) (memory : Word → ℕ) (word : Word) → write (write (greyed config address_set number memory) (Grey number) (mark_bits config address_set number)) (Black number) 0 word ≡ greyed config address_set (number + 1) memory word
  greyed_next_at number memory (Grey other_number) = one_more (λ number. memory (Grey number)) (mark_bits config address_set) number other_number
  greyed_next_at number memory (Black other_number) = one_more (λ number. memory (Black number)) (λ x. 0) number other_number
  greyed_next_at number memory _ = refl

  pub greyed_next : (number : ℕ) (memory : Word → ℕ) → write (write (greyed config address_set number memory) (Grey number) (mark_bits config address_set number)) (Black number) 0 ≡ greyed config address_set (number + 1) memory
  greyed_next number memory = fun_ext (λ word. greyed_next_at number memory word)
