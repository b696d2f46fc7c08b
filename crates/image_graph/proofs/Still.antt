-- Words that a full collection leaves at 0.
use Rattle.heap_words.specs.Phases.{idle_phase}
use Rattle.std.proofs.Common.{◌≡◌, ◌≢◌, ℕ, zero, suc, Option, Some, None, ⊎_elim, refl, ◌∙◌}
use Rattle.std.proofs.lemmas.Bool.{cases_eq}
use Rattle.heap_words.specs.declared.config.Config.{Config}
use Rattle.heap_words.specs.Words.{Word, Phase, Cset, Evac, Current, Wait, Share, Pin}
use Rattle.image_graph.specs.Full.{packed, packed_in, made_in, served_in, room_for, served, refused, full_from}
use Rattle.image_graph.proofs.TurnWords.{served_first, turn_idle, turn_waits}

module _ (config : Config) (word : Word) (word_kept : (given_memory : Word → ℕ) (given_thread given_region : ℕ) → made_in config given_memory given_thread given_region word ≡ given_memory word) where
  turn_still : (memory : Word → ℕ) (thread : ℕ) (found : Option ℕ) → served_in config memory thread found word ≡ memory word
  turn_still memory thread None = refl
  turn_still memory thread (Some region) = word_kept memory thread region

  pub served_still : (memory : Word → ℕ) (mutator : ℕ) → served config memory mutator word ≡ memory word
  served_still memory zero = served_first config memory word
  served_still memory (suc mutator) = ⊎_elim
      (λ (not_waiting : served config memory mutator (Wait mutator) ≡ 0). turn_idle config memory mutator word not_waiting ∙ served_still memory mutator)
      (λ (is_waiting : served config memory mutator (Wait mutator) ≢ 0). turn_waits config memory mutator word is_waiting ∙ turn_still (served config memory mutator) mutator (room_for config (served config memory mutator) mutator) ∙ served_still memory mutator)
      (cases_eq (served config memory mutator (Wait mutator)) 0)

  pub full_still : (memory : Word → ℕ) → ((other_memory : Word → ℕ) → refused other_memory word ≡ other_memory word) → full_from config memory word ≡ packed_in config memory word
  full_still memory refused_same = refused_same (served config (packed_in config memory) config.mutators) ∙ served_still (packed_in config memory) config.mutators

pub full_phase : (config : Config) (memory : Word → ℕ) → full_from config memory Phase ≡ idle_phase
unfolding packed made_in refused
full_phase config memory = full_still config Phase (λ w t r. refl) memory (λ w. refl)

pub full_cset : (config : Config) (memory : Word → ℕ) → full_from config memory Cset ≡ 0
unfolding packed made_in refused
full_cset config memory = full_still config Cset (λ w t r. refl) memory (λ w. refl)

pub full_evac : (config : Config) (memory : Word → ℕ) → full_from config memory Evac ≡ 0
unfolding packed made_in refused
full_evac config memory = full_still config Evac (λ w t r. refl) memory (λ w. refl)

pub full_current : (config : Config) (memory : Word → ℕ) (seat : ℕ) → full_from config memory (Current seat) ≡ 0
unfolding packed made_in refused
full_current config memory seat = full_still config (Current seat) (λ w t r. refl) memory (λ w. refl)

pub full_share : (config : Config) (memory : Word → ℕ) → full_from config memory Share ≡ 0
unfolding packed made_in refused
full_share config memory = full_still config Share (λ w t r. refl) memory (λ w. refl)

-- nobody waits
pub full_wait : (config : Config) (memory : Word → ℕ) (mutator : ℕ) → full_from config memory (Wait mutator) ≡ 0
unfolding refused
full_wait config memory mutator = refl

-- packing changes no request
pub packed_wait : (config : Config) (memory : Word → ℕ) (mutator : ℕ) → packed_in config memory (Wait mutator) ≡ memory (Wait mutator)
unfolding packed
packed_wait config memory mutator = refl
