-- Serving threads writes above the tops of regions: words below them stay.
use Rattle.std.proofs.Common.{◌≡◌, ◌≢◌, ℕ, ◌+◌, ◌<◌, ◌≤◌, ◌⊎◌, ◌==◌, inl, inr, zero, suc, Option, Some, None, ⊎_elim, refl, ap, ◌∙◌, arith}
use Rattle.std.proofs.lemmas.Bool.{cond_both, cases_eq, cases_lt, eqb-true}
use Rattle.heap_words.specs.declared.config.Config.{Config}
use Rattle.heap_words.specs.Words.{Word, Top, Wait, Heap}
use Rattle.heap_words.specs.Encoding.{object_words, name_code, request_count_in}
use Rattle.regions.specs.Place.{base_of}
use Rattle.heap_world.proofs.Pieces.{behind}
use Rattle.image_graph.specs.Full.{made_in, served_in, served, refused, full_from, packed_in}
use Rattle.image_graph.specs.Serving.{asked_shape, turn_room}
use Rattle.image_graph.proofs.Made.{outside_fresh}
use Rattle.image_graph.proofs.TurnWords.{served_first}
use Rattle.image_graph.proofs.ServingKeeps.{finds_room, turn_is}

module _ (config : Config) (memory : Word → ℕ) (region address : ℕ) (low : base_of config region ≤ address) (high : address < base_of config region + memory (Top region)) (within : memory (Top region) ≤ config.region_words) where
  -- the word is as it was, and still below the top
  abbrev Stays : (Word → ℕ) → Type 0
  Stays turned_memory = (turned_memory (Heap address) ≡ memory (Heap address)) × (memory (Top region) ≤ turned_memory (Top region))

  -- what is made in a region with room has no word below a top
  apart : (other_region top words : ℕ) → top + words ≤ config.region_words → (other_region ≡ region → memory (Top region) ≤ top) → (address < base_of config other_region + top) ⊎ (base_of config other_region + top + words ≤ address)
  apart other_region top words room top_above = ⊎_elim
      (λ (lower : other_region < region). let far_behind = behind config other_region region lower in inr (omega (arith, far_behind, room, low)))
      (λ (region_least : region ≤ other_region). ⊎_elim
      (λ (same_region : other_region ≡ region). let same_base : base_of config other_region ≡ base_of config region = ap (base_of config) same_region in inl (omega (arith, same_base, top_above same_region, high)))
      (λ (differs : other_region ≢ region). let far_behind = behind config region other_region (omega (arith, region_least, differs)) in inl (omega (arith, far_behind, within, high)))
      (cases_eq other_region region))
      (cases_lt other_region region)

  one_turn : (turned_memory : Word → ℕ) (mutator : ℕ) (found : Option ℕ) → turn_room config turned_memory mutator ≡ found → Stays turned_memory → Stays (served_in config turned_memory mutator found)
  unfolding made_in
  one_turn turned_memory mutator None room_is so_far = so_far
  one_turn turned_memory mutator (Some room_region) room_is so_far =
      let room = finds_room config turned_memory mutator room_region room_is in (
        outside_fresh (base_of config room_region + turned_memory (Top room_region)) (asked_shape turned_memory mutator) (name_code (mutator + 1) (request_count_in (turned_memory (Wait mutator)))) (turned_memory (Heap address)) address
            (apart room_region (turned_memory (Top room_region)) (object_words (asked_shape turned_memory mutator)) room.2 (λ same_region. omega (arith, ap (λ region. turned_memory (Top region)) same_region, so_far.1)))
            ∙ so_far.0,
        cond_both (room_region == region) (turned_memory (Top room_region) + object_words (asked_shape turned_memory mutator)) (turned_memory (Top region)) (λ top. memory (Top region) ≤ top)
            (λ same_region. omega (arith, ap (λ region. turned_memory (Top region)) (eqb-true room_region region same_region), so_far.1)) (λ _. so_far.1),
      )

  all_turns : (turns : ℕ) → Stays (served config memory turns)
  all_turns zero = (served_first config memory (Heap address), omega (arith, served_first config memory (Top region)))
  all_turns (suc mutator) =
      let next_stays = one_turn (served config memory mutator) mutator (turn_room config (served config memory mutator) mutator) refl (all_turns mutator) in
      (ap (λ f. f (Heap address)) (turn_is config memory mutator) ∙ next_stays.0, omega (arith, ap (λ f. f (Top region)) (turn_is config memory mutator), next_stays.1))

  pub below_stays : (turns : ℕ) → served config memory turns (Heap address) ≡ memory (Heap address)
  below_stays turns = (all_turns turns).0

-- so it is after a full collection
pub full_below : (config : Config) (memory : Word → ℕ) (region address : ℕ) → base_of config region ≤ address → address < base_of config region + packed_in config memory (Top region) → packed_in config memory (Top region) ≤ config.region_words
    → full_from config memory (Heap address) ≡ packed_in config memory (Heap address)
unfolding refused
full_below config memory region address low high within = below_stays config (packed_in config memory) region address low high within config.mutators
