-- The turns of the waiting threads, one after the other.
use Rattle.std.proofs.Common.{◌≡◌, ◌≢◌, ℕ, ◌+◌, ◌<◌, ◌==◌, suc, cond, Bool, true, false, refl, sym, ap, ◌∙◌, subst, ⊎_elim, arith}
use Rattle.std.proofs.lemmas.Bool.{cond-true, cond-false, cases_eq, eq-eqb, ne_eqb, false≢true}
use Rattle.std.proofs.Math.Path.{fun_ext}
use Rattle.std.proofs.Math.Logic.{∥∥₁_elim}
use Rattle.std.proofs.Math.Bridge.{le_prop}
use Rattle.heap_words.specs.declared.config.Config.{Config}
use Rattle.heap_words.specs.Words.{Word, Top, Wait}
use Rattle.heap_words.specs.Encoding.{object_words, request_shape_in}
use Rattle.regions.specs.ServedRooms.{NoneHasRoom}
use Rattle.image_graph.specs.Full.{asked_in, served, served_in, room_for}
use Rattle.image_graph.proofs.TurnWords.{before_turn}
use Rattle.image_graph.specs.Holds.{HoldsSome}
use Rattle.image_graph.specs.Left.{IsLeft}
use Rattle.image_graph.specs.Make.{AreWithin}

-- where an image holds a graph no region uses more words than it has
pub holds_within : (config : Config) (memory : Word → ℕ) → HoldsSome config memory → AreWithin config memory
holds_within config memory words_hold = ∥∥₁_elim words_hold (λ first_proof second_proof i region region_below. le_prop (first_proof region region_below) (second_proof region region_below) i)
    (λ holding. holding.1.3.objects.plotted.tops)

pub served_none : (config : Config) (memory : Word → ℕ) → memory ≡ served config memory 0
unfolding served
served_none config memory = refl

-- what a turn makes of the words is what the definition says
served_more : (config : Config) (memory : Word → ℕ) (mutator : ℕ)
    → served config memory (suc mutator) ≡ (λ word. cond (served config memory mutator (Wait mutator) == 0) (served config memory mutator word) (served_in config (served config memory mutator) mutator (room_for config (served config memory mutator) mutator) word))
unfolding served
served_more config memory mutator = refl

pub turned : (config : Config) (memory after : Word → ℕ) (mutator : ℕ) → (served config memory mutator (Wait mutator) ≡ 0 → after ≡ served config memory mutator)
    → (served config memory mutator (Wait mutator) ≢ 0 → after ≡ served_in config (served config memory mutator) mutator (room_for config (served config memory mutator) mutator)) → after ≡ served config memory (mutator + 1)
turned config memory after mutator idle waits =
    let now = served config memory mutator in
    let step_is : served config memory (suc mutator) ≡ (λ word. cond (now (Wait mutator) == 0) (now word) (served_in config now mutator (room_for config now mutator) word)) = served_more config memory mutator in
    let next_turn : suc mutator ≡ mutator + 1 = omega arith in
    ⊎_elim
    (λ (no_wait : now (Wait mutator) ≡ 0).
    idle no_wait ∙ fun_ext (λ word. sym (cond-true (now (Wait mutator) == 0) (now word) (served_in config now mutator (room_for config now mutator) word) (eq-eqb (now (Wait mutator)) 0 no_wait)))
    ∙ sym step_is ∙ ap (λ turns. served config memory turns) next_turn)
    (λ (is_waiting : now (Wait mutator) ≢ 0).
    waits is_waiting ∙ fun_ext (λ word. sym (cond-false (now (Wait mutator) == 0) (now word) (served_in config now mutator (room_for config now mutator) word) (ne_eqb (now (Wait mutator)) 0 is_waiting)))
    ∙ sym step_is ∙ ap (λ turns. served config memory turns) next_turn)
    (cases_eq (now (Wait mutator)) 0)

-- who waits at its turn waited before, and asks for the same
wait_is : (config : Config) (memory : Word → ℕ) (mutator : ℕ) → served config memory mutator (Wait mutator) ≡ memory (Wait mutator)
wait_is config memory mutator = (before_turn config memory mutator mutator (omega arith)).0

asks : (config : Config) (memory : Word → ℕ) (mutator : ℕ) → memory (Wait mutator) ≢ 0 → object_words (request_shape_in (served config memory mutator (Wait mutator))) ≡ asked_in memory mutator
asks config memory mutator some_request =
    ap (λ wait_word. object_words (request_shape_in wait_word)) (wait_is config memory mutator)
    ∙ sym (cond-false (memory (Wait mutator) == 0) 0 (object_words (request_shape_in (memory (Wait mutator)))) (ne_eqb (memory (Wait mutator)) 0 some_request))

-- what it means for a request to be left at its turn
pub left_at : (config : Config) (memory : Word → ℕ) (mutator : ℕ) → mutator < config.mutators → served config memory mutator (Wait mutator) ≢ 0
    → NoneHasRoom config.region_words (λ region. served config memory mutator (Top region)) (object_words (request_shape_in (served config memory mutator (Wait mutator)))) config.regions → IsLeft config memory mutator
left_at config memory mutator mutator_below still_waiting no_room =
    let waits : memory (Wait mutator) ≢ 0 = λ no_wait. still_waiting (wait_is config memory mutator ∙ no_wait) in
    record {
      below = mutator_below;
      waits = waits;
      no_room = subst (λ words. NoneHasRoom config.region_words (λ region. served config memory mutator (Top region)) words config.regions) (asks config memory mutator waits) no_room;
    }

pub left_from : (config : Config) (memory : Word → ℕ) (mutator : ℕ) → IsLeft config memory mutator → (served config memory mutator (Wait mutator) ≢ 0)
    × NoneHasRoom config.region_words (λ region. served config memory mutator (Top region)) (object_words (request_shape_in (served config memory mutator (Wait mutator)))) config.regions
left_from config memory mutator request_left = (
  λ no_wait. request_left.waits (sym (wait_is config memory mutator) ∙ no_wait),
  subst (λ words. NoneHasRoom config.region_words (λ region. served config memory mutator (Top region)) words config.regions) (sym (asks config memory mutator request_left.waits)) request_left.no_room,
)

-- whether a request is left of the threads that had their turn
pub record IsTold (config : Config) (memory : Word → ℕ) (t : ℕ) (all : Bool) : Type 0 where
  pub left : all ≡ false → (mutator : ℕ) × IsLeft config memory mutator
  pub served : all ≡ true → (mutator : ℕ) → mutator < t → IsLeft config memory mutator → ⊥

-- after a turn that found no room, ..
pub told_left : (config : Config) (memory : Word → ℕ) (mutator : ℕ) → IsLeft config memory mutator → IsTold config memory (mutator + 1) false
told_left config memory mutator request_left = record { left = λ _. (mutator, request_left); served = λ never. absurd (false≢true never) }

-- .. and after another
pub told_served : (config : Config) (memory : Word → ℕ) (mutator : ℕ) (all_served : Bool) → (IsLeft config memory mutator → ⊥) → IsTold config memory mutator all_served → IsTold config memory (mutator + 1) all_served
told_served config memory mutator all_served not_left told_before = record {
  left = told_before.left;
  served = λ told_all asked_mutator below_turn request_left. ⊎_elim
      (λ (own_turn : asked_mutator ≡ mutator). not_left (subst (IsLeft config memory) own_turn request_left))
      (λ (earlier_turn : asked_mutator ≢ mutator). told_before.served told_all asked_mutator (omega (arith, below_turn, earlier_turn)) request_left)
      (cases_eq asked_mutator mutator);
}
