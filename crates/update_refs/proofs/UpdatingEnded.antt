-- The end of updating makes the words that it says.
use Rattle.std.proofs.Common.{◌≡◌, ℕ, refl}
use Rattle.std.proofs.Math.Path.{fun_ext}
use Rattle.heap_words.specs.Words.{Word, Phase, Cset, Claim, write}
use Rattle.cycle_words.specs.Updating.Changes.{cycle_ended}

ended_at : (memory : Word → ℕ) (word : Word) → write (write (write memory Cset 0) Claim 0) Phase 0 word ≡ cycle_ended memory word
ended_at memory Phase = refl
ended_at memory Cset = refl
ended_at memory Claim = refl
ended_at memory _ = refl

pub ended : (memory : Word → ℕ) → write (write (write memory Cset 0) Claim 0) Phase 0 ≡ cycle_ended memory
ended memory = fun_ext (ended_at memory)
