use Rattle.std.proofs.Common.{◌≡◌, ◌<◌, ◌≤◌, ℕ, ⊎_elim, ap, ◌∙◌, arith}
use Rattle.std.proofs.lemmas.Bool.{cases_lt}
use Rattle.heap_words.specs.Words.{Word, Answer}
use Rattle.heap_world.specs.Walk.{with_address}
use Rattle.image_graph.specs.State.{memory_of, found_of}
use Rattle.full_cycle.specs.Collect.{current_address}
use Rattle.image_graph.proofs.Same.{memory_same, both}
use Rattle.full_cycle.proofs.Listed.{answer_more, answer_none}
use Rattle.full_cycle.proofs.walk.find_answers.Goals as goal

pub loop-mutator-preserved : goal.loop-mutator-preserved
loop-mutator-preserved c =
    let mutator = c.loop-mutator.mutator in
    let old = c.args.image.now in
    let now = c.loop-mutator.image in
    let after = c.find_answer.new.image in
    let unchanged = c.loop-mutator.invariant.unchanged in
    let memory : Word → ℕ = memory_of old in
    let same_memory : memory_of now ≡ memory = memory_same old now unchanged in
    let answer : memory_of now (Answer mutator) ≡ memory (Answer mutator) = ap (λ state. state (Answer mutator)) same_memory in
    record {
      unchanged = both old now after unchanged c.find_answer.ensures.unchanged;
      found = c.find_answer.ensures.found;
      noted = ⊎_elim
          (λ (some_answer : 1 < memory (Answer mutator)).
          c.find_answer.ensures.noted (omega (arith, some_answer, answer))
          ∙ ap (λ (memory : Word → ℕ). with_address (found_of now) (current_address memory (memory (Answer mutator)))) same_memory
          ∙ ap (λ xs. with_address xs (current_address memory (memory (Answer mutator)))) c.loop-mutator.invariant.noted
          ∙ answer_more memory mutator (found_of old) some_answer)
          (λ (no_answer : memory (Answer mutator) ≤ 1).
          c.find_answer.ensures.none (omega (arith, no_answer, answer)) ∙ c.loop-mutator.invariant.noted ∙ answer_none memory mutator (found_of old) no_answer)
          (cases_lt 1 (memory (Answer mutator)));
    }
