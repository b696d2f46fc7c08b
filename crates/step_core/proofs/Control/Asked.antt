-- What mutators have asked for while a pause works, and what it makes of that.
use Rattle.std.proofs.Common.{◌≡◌, ℕ, ◌+◌, ◌<◌, ◌≤◌, ◌⊎◌, inl, inr, Option, Some, None, refl, sym, ap, ◌∙◌, subst, arith}
use Rattle.std.specs.Prelude.{◌==◌, nat_le, if◌then◌else◌}
use Rattle.std.proofs.lemmas.Bool.{cond-true, cond-false, eq-eqb, ne_eqb, le-leb}
use Rattle.std.proofs.lemmas.Bool.Decides.{nat_tests}
use Rattle.heap_words.specs.Words.{Word, Wait, Answer, Heap}
use Rattle.heap_words.specs.Encoding.{object_words, shape_word}
use Rattle.shen_graph.specs.declared.command.Command.{Command}
use Rattle.shen_graph.specs.declared.command.Reply.{Reply}
use Rattle.mutator.specs.declared.spot.Spot.{Spot}
use Rattle.mutator.specs.Commands.{refs_of, nums_of}
use Rattle.mutator.specs.Orders.{is_waiting}
use Rattle.heap_world.specs.World.{World, Plot}
use Rattle.heap_world.specs.Asking.{Asking, nothing, asks, refused, given, IsPromise, IsAsked}
use Rattle.heap_world.specs.Change.{Answers, words_given}
use Rattle.step_core.specs.Actor.{Machine, mutating, Actor}
use Rattle.step_core.proofs.Machines.Stepped.{IsPolling, IsAnswered}
use Rattle.step_core.proofs.Machines.Owed.{words_promised}

-- what a waiting mutator has asked for, by its answer and its command
abbrev pub asking_by : ℕ → Command → Asking
asking_by answer command = if answer == 0 then asks (refs_of command) (nums_of command) else (if answer == 1 then refused else given (refs_of command) (nums_of command))

-- what a mutator at a spot has asked for
abbrev pub asking_at : Spot → ℕ → Command → Asking
asking_at spot answer command = if is_waiting spot then asking_by answer command else nothing

abbrev pub asking_in : Machine → ℕ → Asking
asking_in (mutating mutator) answer = asking_at mutator.spot answer mutator.kept.command
asking_in _ answer = nothing

abbrev pub asking_of : Option Actor → ℕ → Asking
asking_of None answer = nothing
asking_of (Some actor) answer = asking_in actor.machine answer

pub asking_asks : (answer : ℕ) (command : Command) → answer ≡ 0 → asking_by answer command ≡ asks (refs_of command) (nums_of command)
asking_asks answer command no_answer = cond-true (answer == 0) _ _ (eq-eqb answer 0 no_answer)

pub asking_refused : (answer : ℕ) (command : Command) → answer ≡ 1 → asking_by answer command ≡ refused
asking_refused answer command answer_refused = cond-false (answer == 0) _ _ (ne_eqb answer 0 (λ no_answer. omega (arith, answer_refused, no_answer))) ∙ cond-true (answer == 1) _ _ (eq-eqb answer 1 answer_refused)

pub asking_given : (answer : ℕ) (command : Command) → 1 < answer → asking_by answer command ≡ given (refs_of command) (nums_of command)
asking_given answer command answer_given = cond-false (answer == 0) _ _ (ne_eqb answer 0 (λ equal. omega (arith, answer_given, equal))) ∙ cond-false (answer == 1) _ _ (ne_eqb answer 1 (λ equal. omega (arith, answer_given, equal)))

-- a mutator that looks for its answer has asked so
pub polling_asked : (world : World) (seat made : ℕ) (kept_command command : Command) (fixed : Option Reply) → IsPolling world seat made kept_command command fixed
    → IsAsked world.memory world.block world.graph.count seat (asking_by (world.memory (Answer seat)) kept_command)
polling_asked world seat made kept_command command fixed (inl waits) = subst (λ asked_for. IsAsked world.memory world.block world.graph.count seat asked_for) (sym (asking_asks _ kept_command waits.0.1.1)) waits.0.1
polling_asked world seat made kept_command command fixed (inr (inl was_given)) = subst (λ asked_for. IsAsked world.memory world.block world.graph.count seat asked_for) (sym (asking_given _ kept_command was_given.1.1)) was_given.1
polling_asked world seat made kept_command command fixed (inr (inr was_refused)) = subst (λ asked_for. IsAsked world.memory world.block world.graph.count seat asked_for) (sym (asking_refused _ kept_command was_refused.1.1)) was_refused.1

-- so has one that has its answer
pub answered_asked : (world : World) (seat made : ℕ) (kept_command command : Command) (fixed : Option Reply) → IsAnswered world seat made kept_command command fixed
    → IsAsked world.memory world.block world.graph.count seat (asking_by (world.memory (Answer seat)) kept_command)
answered_asked world seat made kept_command command fixed (inl was_given) = subst (λ asked_for. IsAsked world.memory world.block world.graph.count seat asked_for) (sym (asking_given _ kept_command was_given.1.1)) was_given.1
answered_asked world seat made kept_command command fixed (inr was_refused) = subst (λ asked_for. IsAsked world.memory world.block world.graph.count seat asked_for) (sym (asking_refused _ kept_command was_refused.1.1)) was_refused.1

-- who asked for nothing is answered nothing
pub nothing_then : (memory : Word → ℕ) (block : Plot) (count : ℕ → ℕ) (seat : ℕ) (asking : Asking) → Answers nothing asking → IsAsked memory block count seat asking → IsAsked memory block count seat nothing
nothing_then memory block count seat nothing answers asked = asked
nothing_then memory block count seat (asks refs nums) answers asked = absurd answers
nothing_then memory block count seat refused answers asked = absurd answers
nothing_then memory block count seat (given refs nums) answers asked = absurd answers

-- who was refused stays refused
pub refused_then : (memory : Word → ℕ) (block : Plot) (count : ℕ → ℕ) (seat : ℕ) (asking : Asking) → Answers refused asking → IsAsked memory block count seat asking → IsAsked memory block count seat refused
refused_then memory block count seat nothing answers asked = absurd answers
refused_then memory block count seat (asks refs nums) answers asked = absurd answers
refused_then memory block count seat refused answers asked = asked
refused_then memory block count seat (given refs nums) answers asked = absurd answers

-- who was given an object has it still
pub given_then : (memory : Word → ℕ) (block : Plot) (count : ℕ → ℕ) (seat refs nums : ℕ) (asking : Asking) → Answers (given refs nums) asking → IsAsked memory block count seat asking → IsAsked memory block count seat (given refs nums)
given_then memory block count seat refs nums nothing answers asked = absurd answers
given_then memory block count seat refs nums (asks asked_refs asked_nums) answers asked = absurd answers
given_then memory block count seat refs nums refused answers asked = absurd answers
given_then memory block count seat refs nums (given asked_refs asked_nums) answers asked =
    subst (λ refs. IsAsked memory block count seat (given refs nums)) (sym answers.0) (subst (λ nums. IsAsked memory block count seat (given asked_refs nums)) (sym answers.1) asked)

-- who asks is refused or given the object
pub asks_then : (memory : Word → ℕ) (block : Plot) (count : ℕ → ℕ) (seat refs nums : ℕ) (asking : Asking) → Answers (asks refs nums) asking → IsAsked memory block count seat asking
    → (IsAsked memory block count seat refused × (asking ≡ refused)) ⊎ IsAsked memory block count seat (given refs nums)
asks_then memory block count seat refs nums nothing answers asked = absurd answers
asks_then memory block count seat refs nums (asks asked_refs asked_nums) answers asked = absurd answers
asks_then memory block count seat refs nums refused answers asked = inl (asked, refl)
asks_then memory block count seat refs nums (given asked_refs asked_nums) answers asked =
    inr (subst (λ refs. IsAsked memory block count seat (given refs nums)) (sym answers.0) (subst (λ nums. IsAsked memory block count seat (given asked_refs nums)) (sym answers.1) asked))

-- what was asked for stands in two memories that have the same requests, answers and objects
pub asked_same : (memory other_memory : Word → ℕ) (block : Plot) (count : ℕ → ℕ) (mutator : ℕ) (asking : Asking) → other_memory (Wait mutator) ≡ memory (Wait mutator) → other_memory (Answer mutator) ≡ memory (Answer mutator) → ((address : ℕ) → other_memory (Heap address) ≡ memory (Heap address))
    → IsAsked memory block count mutator asking → IsAsked other_memory block count mutator asking
asked_same memory other_memory block count mutator nothing wait answer heap asked = (wait ∙ asked.0, answer ∙ asked.1, asked.2)
asked_same memory other_memory block count mutator (asks refs nums) wait answer heap asked =
    (record { wait_is = wait ∙ asked.0.wait_is; few_refs = asked.0.few_refs; few_nums = asked.0.few_nums; few = asked.0.few }, answer ∙ asked.1, asked.2)
asked_same memory other_memory block count mutator refused wait answer heap asked = (wait ∙ asked.0, answer ∙ asked.1, asked.2)
asked_same memory other_memory block count mutator (given refs nums) wait answer heap asked = (
  wait ∙ asked.0,
  subst (λ number. 1 < number) (sym answer) asked.1,
  subst (λ address. IsPromise other_memory block count mutator refs nums address) (sym answer) (record {
    here = asked.2.here;
    words = λ number offset_below. heap (memory (Answer mutator) + number) ∙ asked.2.words number offset_below;
    only = asked.2.only;
    few_refs = asked.2.few_refs;
    few_nums = asked.2.few_nums;
    few = asked.2.few;
  }),
)

shape_words : (refs nums : ℕ) → refs ≤ 16 → nums ≤ 16 → object_words (shape_word refs nums) ≡ 3 + refs + nums
shape_words refs nums at_most few_nums = omega (arith, at_most, few_nums)

-- the words of a promised object, by the answer and by what was asked for
pub promised_given : (memory : Word → ℕ) (block : Plot) (count : ℕ → ℕ) (mutator : ℕ) (asking : Asking) → IsAsked memory block count mutator asking → words_promised memory mutator ≡ words_given asking
promised_given memory block count mutator nothing asked = cond-true (nat_le (memory (Answer mutator)) 1) _ _ (le-leb _ _ (let answer = asked.1 in omega (arith, answer)))
promised_given memory block count mutator (asks refs nums) asked = cond-true (nat_le (memory (Answer mutator)) 1) _ _ (le-leb _ _ (let answer = asked.1 in omega (arith, answer)))
promised_given memory block count mutator refused asked = cond-true (nat_le (memory (Answer mutator)) 1) _ _ (le-leb _ _ (let answer = asked.1 in omega (arith, answer)))
promised_given memory block count mutator (given refs nums) asked =
    let shape : memory (Heap (memory (Answer mutator) + 1)) ≡ shape_word refs nums = asked.2.words 1 (omega arith) in
    cond-false (nat_le (memory (Answer mutator)) 1) _ _ (let answer = asked.1 in grind (arith, nat_tests)) ∙ ap object_words shape ∙ shape_words refs nums asked.2.few_refs asked.2.few_nums
