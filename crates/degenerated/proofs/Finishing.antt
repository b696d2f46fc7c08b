-- Finishing a cycle makes the words that it says, and is whole exactly where nobody waits.
use Rattle.std.proofs.Common.{◌≡◌, ◌≢◌, ℕ, ◌≤◌, ◌&&◌, cond, Bool, true, false, refl, sym, ap, ◌∙◌, ⊎_elim, arith}
use Rattle.std.proofs.lemmas.Bool.{cases_eq, cond-true, cond-false, and_left, false_from_ne_true}
use Rattle.std.proofs.Math.Path.{fun_ext}
use Rattle.heap_words.specs.declared.config.Config.{Config}
use Rattle.heap_words.specs.Words.{Word, Evac, Ask, Top, Wait, write}
use Rattle.image_graph.specs.Full.{served}
use Rattle.image_graph.specs.Left.{IsLeft}
use Rattle.image_graph.specs.Make.{AreWithin}
use Rattle.cycle_words.specs.Updating.Changes.{cycle_ended}
use Rattle.cycle_words.specs.Finishing.Updated.{all_updated}
use Rattle.cycle_words.specs.Finishing.Copies.{is_room_for_all, all_copied}
use Rattle.cycle_words.proofs.Finishing.Whole.{nobody_is, nobody_from, waits_if_left, left_if_waits}
use Rattle.cycle_words.specs.Finishing.Finish.{is_to_free, set_left, set_freed, cycle_finished, finished_from, nobody_waits}

-- the end of the cycle
ended_at : (config : Config) (memory : Word → ℕ) (word : Word) → write (write (cycle_ended (set_left config memory)) Evac 0) Ask 0 word ≡ set_freed config memory word
ended_at config memory Evac = refl
ended_at config memory Ask = refl
ended_at config memory _ = refl

pub ended : (config : Config) (memory : Word → ℕ) → write (write (cycle_ended (set_left config memory)) Evac 0) Ask 0 ≡ set_freed config memory
ended config memory = fun_ext (ended_at config memory)

module _ (config : Config) (memory : Word → ℕ) where
  pub stops_short : is_room_for_all config memory ≡ false → all_copied config memory ≡ finished_from config memory
  stops_short no_room = fun_ext (λ word. sym (cond-false (is_room_for_all config memory) (served config (cycle_finished config memory) config.mutators word) (all_copied config memory word) no_room))

  pub is_short : is_room_for_all config memory ≡ false → (is_room_for_all config memory && nobody_waits config (finished_from config memory)) ≡ false
  is_short no_room = and_left (is_room_for_all config memory) (nobody_waits config (finished_from config memory)) no_room

  pub goes_through : is_room_for_all config memory ≡ true → served config (cycle_finished config memory) config.mutators ≡ finished_from config memory
  goes_through room_for_all = fun_ext (λ word. sym (cond-true (is_room_for_all config memory) (served config (cycle_finished config memory) config.mutators word) (all_copied config memory word) room_for_all))

-- who waits once all had their turn
module _ (config : Config) (memory : Word → ℕ) where
  abbrev after : Word → ℕ
  after = served config memory config.mutators

  pub all_served : ((mutator : ℕ) → IsLeft config memory mutator → ⊥) → nobody_waits config after ≡ true
  all_served nobody_left = nobody_from config after (λ mutator mutator_below. ⊎_elim
      (λ (mutator_done : after (Wait mutator) ≡ 0). mutator_done)
      (λ (still_waits : after (Wait mutator) ≢ 0). absurd (nobody_left mutator (left_if_waits config memory mutator mutator_below still_waits)))
      (cases_eq (after (Wait mutator)) 0))

  pub not_all_served : (mutator : ℕ) → IsLeft config memory mutator → nobody_waits config after ≡ false
  not_all_served mutator mutator_left = false_from_ne_true (nobody_waits config after) (λ all_answered. waits_if_left config memory mutator mutator_left (nobody_is config after all_answered mutator mutator_left.below))

-- what a whole cycle tells
pub whole_is : (config : Config) (memory : Word → ℕ) → is_room_for_all config memory ≡ true → (is_room_for_all config memory && nobody_waits config (finished_from config memory)) ≡ nobody_waits config (served config (cycle_finished config memory) config.mutators)
whole_is config memory room_for_all = ap (λ has_room. has_room && nobody_waits config (finished_from config memory)) room_for_all ∙ ap (nobody_waits config) (sym (goes_through config memory room_for_all))

-- no region uses more words than it has then
pub within_still : (config : Config) (memory : Word → ℕ) → AreWithin config memory → AreWithin config (set_freed config (all_updated config memory))
within_still config memory words_within region region_below = either (is_to_free config (all_updated config memory) region) (memory (Top region)) (words_within region region_below)
  where
    either : (holds : Bool) (top : ℕ) → top ≤ config.region_words → cond holds 0 top ≤ config.region_words
    either true top top_fits = omega arith
    either false top top_fits = top_fits
