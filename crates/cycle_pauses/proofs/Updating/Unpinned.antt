-- In phase 3 no region of the collection set is pinned: what a slot holds is an object, and none is in the set.
use Rattle.heap_words.specs.Phases.{updating_phase}
use Rattle.std.proofs.Common.{◌≡◌, ℕ, ◌+◌, ◌*◌, ◌<◌, ◌≤◌, nat_le, nat_lt, true, false, Option, Some, None, refl, sym, ap, ◌∙◌, subst, arith}
use Rattle.std.proofs.Math.Nat.{mul-le-mul_right}
use Rattle.std.proofs.lemmas.Bool.{and_parts, leb-true, ltb-true, false_from_ne_true}
use Rattle.shen_graph.proofs.Lists.{any_is}
use Rattle.heap_words.specs.declared.config.Config.{Config}
use Rattle.heap_words.specs.Words.{Word, Phase, Cset, Evac, Pin}
use Rattle.regions.specs.Place.{base_of, region_with}
use Rattle.regions.specs.Sets.{IsIn}
use Rattle.regions.proofs.PlaceLemmas.{regions_tile}
use Rattle.shen_graph.specs.declared.pin.Pinned.{Pinned}
use Rattle.shen_graph.specs.Graph.{Graph}
use Rattle.heap_world.specs.World.{PinStands}
use Rattle.heap_world.specs.Asking.{Asking}
use Rattle.heap_world.specs.Represents.{Represents}
use Rattle.image_graph.specs.Pinned.{lies_in, has_pin, is_pinned}
use Rattle.cycle_words.specs.Updating.Changes.{final_updated}
use Rattle.cycle_words.proofs.Pinned.{same_pinned}
use Rattle.cycle_pauses.specs.Updating.Laws.{NoneIsPinned}

-- a slot that holds an address of a region
record HasSlot (config : Config) (memory : Word → ℕ) (region : ℕ) : Type 0 where
  mutator : ℕ
  slot : ℕ
  inside : mutator < config.mutators
  few : slot < 4
  from : base_of config region ≤ memory (Pin mutator slot)
  before : memory (Pin mutator slot) < base_of config region + config.region_words

slot_there : (config : Config) (memory : Word → ℕ) (region : ℕ) → is_pinned config memory region ≡ true → HasSlot config memory region
slot_there config memory region region_pinned =
    let mutator_found = any_is (has_pin config memory region) 0 config.mutators region_pinned in
    let same_seat : 0 + mutator_found.0 ≡ mutator_found.0 = omega arith in
    let slot_found = any_is (λ slot. lies_in config region (memory (Pin mutator_found.0 slot))) 0 4 (sym (ap (has_pin config memory region) same_seat) ∙ mutator_found.2) in
    let same_slot : 0 + slot_found.0 ≡ slot_found.0 = omega arith in
    let lies_there : lies_in config region (memory (Pin mutator_found.0 slot_found.0)) ≡ true = sym (ap (λ slot. lies_in config region (memory (Pin mutator_found.0 slot))) same_slot) ∙ slot_found.2 in
    let both_parts = and_parts (nat_le (base_of config region) (memory (Pin mutator_found.0 slot_found.0))) (nat_lt (memory (Pin mutator_found.0 slot_found.0)) (base_of config region + config.region_words)) lies_there in
    record {
      mutator = mutator_found.0;
      slot = slot_found.0;
      inside = mutator_found.1;
      few = slot_found.1;
      from = leb-true (base_of config region) (memory (Pin mutator_found.0 slot_found.0)) both_parts.0;
      before = ltb-true (memory (Pin mutator_found.0 slot_found.0)) (base_of config region + config.region_words) both_parts.1;
    }

module _ (config : Config) (memory : Word → ℕ) (graph : Graph) (asking : ℕ → Asking) (represents : Represents config memory graph asking) (updating : memory Phase ≡ updating_phase) where
  -- what a slot holds lies outside of the set
  held_outside : (word : ℕ) (held_pin : Option Pinned) (region : ℕ) → IsIn (memory Cset) region → base_of config region ≤ word → word < base_of config region + config.region_words
      → PinStands config (memory Cset) (memory Evac) represents.block word held_pin → ⊥
  held_outside word None region region_in_set at_most word_below null_stands =
      let enough_words = config.in_range.least_words in
      let rows_ordered : 1 * config.region_words ≤ (region + 1) * config.region_words = mul-le-mul_right config.region_words (omega arith) in
      omega (arith, null_stands, at_most, rows_ordered, enough_words)
  held_outside word (Some pinned) given_region region_in_set at_most word_below pin_stands =
      let region : region_with config word ≡ given_region = regions_tile.of_no_other config given_region word (record { from = at_most; before = word_below }) in
      (represents.shared.updated updating).outside word pin_stands.1 pin_stands.2 pinned.name pin_stands.3.piece (subst (IsIn (memory Cset)) (sym region) region_in_set)

  none_pinned : (region : ℕ) → IsIn (memory Cset) region → is_pinned config memory region ≡ false
  none_pinned region region_in_set = false_from_ne_true (is_pinned config memory region) (λ region_pinned.
      let slot_found = slot_there config memory region region_pinned in
      held_outside (memory (Pin slot_found.mutator slot_found.slot)) (graph.pin (slot_found.mutator + 1) slot_found.slot) region region_in_set slot_found.from slot_found.before (represents.shared.pinned slot_found.mutator slot_found.slot slot_found.inside slot_found.few))

pub none_is_pinned : NoneIsPinned
none_is_pinned config memory graph asking represents updating region region_below region_in_set = same_pinned config memory (final_updated config memory) (λ t i. refl) region ∙ none_pinned config memory graph asking represents updating region region_in_set
