-- What a mutator has asked for stays so where its words stay, and what is promised to it with its words.
use Rattle.std.proofs.Common.{◌≡◌, ℕ, ◌+◌, ◌<◌, Some, refl, sym, ◌∙◌, subst, arith}
use Rattle.heap_words.specs.Words.{Word, Wait, Answer, Heap}
use Rattle.heap_world.specs.World.{Plot, promised}
use Rattle.heap_world.specs.Asking.{Asking, nothing, asks, refused, given, IsPromise, IsAsked}

module _ (memory later_memory : Word → ℕ) (block plot : Plot) (count : ℕ → ℕ) (mutator : ℕ) (wait : later_memory (Wait mutator) ≡ memory (Wait mutator)) (answer : later_memory (Answer mutator) ≡ memory (Answer mutator))
    (heap : (promise_address words offset : ℕ) → block promise_address ≡ Some (promised mutator words) → offset < words → later_memory (Heap (promise_address + offset)) ≡ memory (Heap (promise_address + offset)))
    (promises_stay : (promise_address words : ℕ) → block promise_address ≡ Some (promised mutator words) → plot promise_address ≡ Some (promised mutator words)) (promised_before : (promise_address words : ℕ) → plot promise_address ≡ Some (promised mutator words) → block promise_address ≡ Some (promised mutator words)) where
  promise_stays : (refs nums address : ℕ) → IsPromise memory block count mutator refs nums address → IsPromise later_memory plot count mutator refs nums address
  promise_stays refs nums address promise = record {
    here = promises_stay address (3 + refs + nums) promise.here;
    words = λ offset offset_below. heap address (3 + refs + nums) offset promise.here offset_below ∙ promise.words offset offset_below;
    only = λ other_address more_words has_promise. promise.only other_address more_words (promised_before other_address more_words has_promise);
    few_refs = promise.few_refs;
    few_nums = promise.few_nums;
    few = promise.few;
  }

  pub asked_stays : (asking : Asking) → IsAsked memory block count mutator asking → IsAsked later_memory plot count mutator asking
  asked_stays nothing mutator_asked = (wait ∙ mutator_asked.0, answer ∙ mutator_asked.1, λ address words has_promise. mutator_asked.2 address words (promised_before address words has_promise))
  asked_stays (asks refs nums) mutator_asked = (
    record { wait_is = wait ∙ mutator_asked.0.wait_is; few_refs = mutator_asked.0.few_refs; few_nums = mutator_asked.0.few_nums; few = mutator_asked.0.few },
    answer ∙ mutator_asked.1,
    λ address words has_promise. mutator_asked.2 address words (promised_before address words has_promise),
  )
  asked_stays refused mutator_asked = (wait ∙ mutator_asked.0, answer ∙ mutator_asked.1, λ address words has_promise. mutator_asked.2 address words (promised_before address words has_promise))
  asked_stays (given refs nums) mutator_asked = (
    wait ∙ mutator_asked.0,
    subst (λ offset. 1 < offset) (sym answer) mutator_asked.1,
    subst (IsPromise later_memory plot count mutator refs nums) (sym answer) (promise_stays refs nums (memory (Answer mutator)) mutator_asked.2),
  )

-- a mutator whose answer is an address was given what it asked for
pub was_given : (memory : Word → ℕ) (block : Plot) (count : ℕ → ℕ) (mutator : ℕ) (asking : Asking) → IsAsked memory block count mutator asking → 1 < memory (Answer mutator)
    → (refs : ℕ) × (nums : ℕ) × (asking ≡ given refs nums) × (memory (Wait mutator) ≡ 0) × IsPromise memory block count mutator refs nums (memory (Answer mutator))
was_given memory block count mutator nothing mutator_asked answer_high = absurd (let no_wait = mutator_asked.1 in omega (arith, no_wait, answer_high))
was_given memory block count mutator (asks refs nums) mutator_asked answer_high = absurd (let no_wait = mutator_asked.1 in omega (arith, no_wait, answer_high))
was_given memory block count mutator refused mutator_asked answer_high = absurd (let no_wait = mutator_asked.1 in omega (arith, no_wait, answer_high))
was_given memory block count mutator (given refs nums) mutator_asked answer_high = (refs, nums, refl, mutator_asked.0, mutator_asked.2)
