-- Refusing what is left, thread by thread.
use Rattle.std.proofs.Common.{◌≡◌, ◌≢◌, ℕ, ◌+◌, ◌≤◌, ◌==◌, nat_lt, cond, ⊎_elim, refl, sym, ap, ◌∙◌, arith}
use Rattle.std.proofs.lemmas.Bool.Decides.{nat_tests}
use Rattle.std.proofs.lemmas.Bool.{cases_eq}
use Rattle.std.proofs.Math.Path.{fun_ext}
use Rattle.heap_words.specs.Words.{Word, Wait, Answer, write}
use Rattle.image_graph.specs.Full.{refused}
use Rattle.full_cycle.specs.Steps.{refused_below}

-- a thread that does not wait
idle_one : (turn thread wait answer : ℕ) → (turn ≡ thread → wait ≡ 0) → cond (nat_lt thread turn) (cond (wait == 0) answer 1) answer ≡ cond (nat_lt thread (turn + 1)) (cond (wait == 0) answer 1) answer
idle_one turn thread wait answer no_wait = grind (arith, nat_tests, no_wait)

idle_wait : (turn thread wait : ℕ) → (turn ≡ thread → wait ≡ 0) → cond (nat_lt thread turn) 0 wait ≡ cond (nat_lt thread (turn + 1)) 0 wait
idle_wait turn thread wait no_wait = grind (arith, nat_tests, no_wait)

idle_at : (memory : Word → ℕ) (mutator : ℕ) → memory (Wait mutator) ≡ 0 → (word : Word) → refused_below mutator memory word ≡ refused_below (mutator + 1) memory word
idle_at memory mutator no_wait (Answer asked_mutator) = idle_one mutator asked_mutator (memory (Wait asked_mutator)) (memory (Answer asked_mutator)) (λ same_mutator. ap (λ mutator. memory (Wait mutator)) (sym same_mutator) ∙ no_wait)
idle_at memory mutator no_wait (Wait asked_mutator) = idle_wait mutator asked_mutator (memory (Wait asked_mutator)) (λ same_mutator. ap (λ mutator. memory (Wait mutator)) (sym same_mutator) ∙ no_wait)
idle_at memory mutator no_wait _ = refl

-- a thread that does
left_one : (turn thread wait answer : ℕ) → (turn ≡ thread → wait ≢ 0) → cond (turn == thread) 1 (cond (nat_lt thread turn) (cond (wait == 0) answer 1) answer) ≡ cond (nat_lt thread (turn + 1)) (cond (wait == 0) answer 1) answer
left_one turn thread wait answer thread_waits = grind (arith, nat_tests, thread_waits)

left_wait : (turn thread wait : ℕ) → cond (turn == thread) 0 (cond (nat_lt thread turn) 0 wait) ≡ cond (nat_lt thread (turn + 1)) 0 wait
left_wait turn thread wait = grind (arith, nat_tests)

left_at : (memory : Word → ℕ) (mutator : ℕ) → memory (Wait mutator) ≢ 0 → (word : Word) → write (write (refused_below mutator memory) (Answer mutator) 1) (Wait mutator) 0 word ≡ refused_below (mutator + 1) memory word
left_at memory mutator positive (Answer asked_mutator) = left_one mutator asked_mutator (memory (Wait asked_mutator)) (memory (Answer asked_mutator)) (λ same_mutator is_zero. positive (ap (λ mutator. memory (Wait mutator)) same_mutator ∙ is_zero))
left_at memory mutator positive (Wait asked_mutator) = left_wait mutator asked_mutator (memory (Wait asked_mutator))
left_at memory mutator positive _ = refl

wait_here : (memory : Word → ℕ) (mutator : ℕ) → refused_below mutator memory (Wait mutator) ≡ memory (Wait mutator)
wait_here memory mutator = grind (arith, nat_tests)

-- the turn of a thread
pub refused_more : (memory memory_now after : Word → ℕ) (mutator : ℕ) → memory_now ≡ refused_below mutator memory → (memory_now (Wait mutator) ≡ 0 → after ≡ memory_now)
    → (memory_now (Wait mutator) ≢ 0 → after ≡ write (write memory_now (Answer mutator) 1) (Wait mutator) 0) → after ≡ refused_below (mutator + 1) memory
refused_more memory memory_now after mutator refused_before idle waits =
    let wait : memory_now (Wait mutator) ≡ memory (Wait mutator) = ap (λ state. state (Wait mutator)) refused_before ∙ wait_here memory mutator in
    ⊎_elim
    (λ (no_wait : memory (Wait mutator) ≡ 0). idle (wait ∙ no_wait) ∙ refused_before ∙ fun_ext (idle_at memory mutator no_wait))
    (λ (some_wait : memory (Wait mutator) ≢ 0). waits (λ nothing_waits. some_wait (sym wait ∙ nothing_waits)) ∙ ap (λ state. write (write state (Answer mutator) 1) (Wait mutator) 0) refused_before ∙ fun_ext (left_at memory mutator some_wait))
    (cases_eq (memory (Wait mutator)) 0)

-- where nobody behind the last thread waits, all that is left is refused
all_answer : (count thread wait answer : ℕ) → (count ≤ thread → wait ≡ 0) → cond (nat_lt thread count) (cond (wait == 0) answer 1) answer ≡ cond (wait == 0) answer 1
all_answer count thread wait answer none_behind = grind (arith, nat_tests, none_behind)

all_wait : (count thread wait : ℕ) → (count ≤ thread → wait ≡ 0) → cond (nat_lt thread count) 0 wait ≡ 0
all_wait count thread wait none_behind = grind (arith, nat_tests, none_behind)

all_at : (memory : Word → ℕ) (count : ℕ) → ((mutator : ℕ) → count ≤ mutator → memory (Wait mutator) ≡ 0) → (word : Word) → refused_below count memory word ≡ refused memory word
unfolding refused
all_at memory count none_behind (Answer mutator) = all_answer count mutator (memory (Wait mutator)) (memory (Answer mutator)) (none_behind mutator)
all_at memory count none_behind (Wait mutator) = all_wait count mutator (memory (Wait mutator)) (none_behind mutator)
all_at memory count none_behind _ = refl

pub refused_all : (memory : Word → ℕ) (count : ℕ) → ((mutator : ℕ) → count ≤ mutator → memory (Wait mutator) ≡ 0) → refused_below count memory ≡ refused memory
refused_all memory count none_behind = fun_ext (all_at memory count none_behind)
