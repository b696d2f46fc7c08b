-- The words before those of the image, stored one after the other.
use Rattle.std.proofs.Common.{◌≡◌, ℕ, ◌+◌, Bool, true, false, List, refl, arith}
use Rattle.std.specs.Prelude.{nat_lt, ◌==◌, slice_index, if◌then◌else◌}
use Rattle.std.proofs.Math.Path.{fun_ext}
use Rattle.std.proofs.lemmas.Bool.Decides.{nat_tests}
use Rattle.heap_words.specs.declared.config.Config.{Config}
use Rattle.heap_words.specs.Words.{Word, Pause, Left, End, State, write, view, word_at}
use Rattle.heap_machines.specs.Reopened.{words_reopened, words_left_out}

none_at : (memory : Word → ℕ) (word : Word) → memory word ≡ words_left_out 0 memory word
none_at memory (State seat) = grind (arith, nat_tests)
none_at memory _ = refl

pub none_out : (memory : Word → ℕ) → memory ≡ words_left_out 0 memory
none_out memory = fun_ext (λ word. none_at memory word)

one_more : (seats seat x : ℕ) → (if seats == seat then 0 else (if nat_lt seat seats then 0 else x)) ≡ (if nat_lt seat (seats + 1) then 0 else x)
one_more seats seat x = grind (arith, nat_tests)

next_at : (seats : ℕ) (memory : Word → ℕ) (word : Word) → write (words_left_out seats memory) (State seats) 0 word ≡ words_left_out (seats + 1) memory word
next_at seats memory (State seat) = one_more seats seat (memory (State seat))
next_at seats memory _ = refl

pub next_out : (seats : ℕ) (memory : Word → ℕ) → write (words_left_out seats memory) (State seats) 0 ≡ words_left_out (seats + 1) memory
next_out seats memory = fun_ext (λ word. next_at seats memory word)

-- a seat that there is not has no word
all_out : (is_below : Bool) (x : ℕ) → (if is_below then 0 else (if is_below then x else 0)) ≡ 0
all_out true x = refl
all_out false x = refl

stored_at : (config : Config) (words : List ℕ) (word : Word) → write (write (write (words_left_out (config.mutators + config.helpers) (view config words)) Pause 0) Left config.mutators) End 0 word ≡ words_reopened config (view config words) word
stored_at config words (State seat) = all_out (nat_lt seat (config.mutators + config.helpers)) (slice_index words (word_at config (State seat)))
stored_at config words Pause = refl
stored_at config words Left = refl
stored_at config words End = refl
stored_at config words _ = refl

pub all_stored : (config : Config) (words : List ℕ) → write (write (write (words_left_out (config.mutators + config.helpers) (view config words)) Pause 0) Left config.mutators) End 0 ≡ words_reopened config (view config words)
all_stored config words = fun_ext (λ word. stored_at config words word)
