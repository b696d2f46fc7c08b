-- Which regions are pinned: those in which a pin slot holds an address.
use Rattle.std.proofs.Common.{◌≡◌, ℕ, ◌<◌, ◌≤◌, ◌==◌, ◌&&◌, nat_le, true, false, sym, ap, ◌∙◌, arith}
use Rattle.std.specs.List.{range_with_len, list_any}
use Rattle.std.specs.Int.{bit_at}
use Rattle.std.proofs.Math.Path.{fun_ext}
use Rattle.std.proofs.lemmas.Bool.{and_parts, leb-true, eqb-true, false_from_ne_true, true≢false}
use Rattle.std.proofs.lemmas.Nat.{mod_below}
use Rattle.heap_words.specs.declared.config.Config.{Config}
use Rattle.heap_words.specs.Words.{Word, Cset, Pin}
use Rattle.regions.specs.Place.{region_with}
use Rattle.regions.specs.Sets.{IsIn}
use Rattle.image_graph.specs.Pinned.{lies_in, is_pinned}
use Rattle.image_graph.proofs.PinnedRows.{pins_region}
use Rattle.cycle_words.specs.Evacuation.Begun.{is_collected}
use Rattle.cycle_words.specs.StillHolds.{IsUnpinned}
use Rattle.cycle_words.proofs.Evacuation.RegionAddresses.{from_base, some_words}

-- the same are, where pin slots are the same
pub same_pinned : (config : Config) (memory other_memory : Word → ℕ) → ((mutator index : ℕ) → other_memory (Pin mutator index) ≡ memory (Pin mutator index)) → (region : ℕ) → is_pinned config other_memory region ≡ is_pinned config memory region
same_pinned config memory other_memory same_pins region =
    let same_words : ◌≡◌ {A = ℕ → ℕ → ℕ} (λ mutator index. other_memory (Pin mutator index)) (λ mutator index. memory (Pin mutator index)) = fun_ext (λ mutator. fun_ext (same_pins mutator)) in
    ap (λ (pins : ℕ → ℕ → ℕ). list_any (λ mutator. list_any (λ index. lies_in config region (pins mutator index)) (range_with_len 0 4)) (range_with_len 0 config.mutators)) same_words

module _ (config : Config) (memory : Word → ℕ) where
  -- the region of what a slot holds is pinned
  pub slot_pins : (mutator index : ℕ) → mutator < config.mutators → index < 4 → config.region_words ≤ memory (Pin mutator index) → is_pinned config memory (region_with config (memory (Pin mutator index))) ≡ true
  slot_pins mutator index mutator_below slot_below address_above =
      let address_split = from_base config.region_words (memory (Pin mutator index)) (some_words config) address_above in
      let offset_below = mod_below (memory (Pin mutator index)) config.region_words (some_words config) in
      pins_region config memory (region_with config (memory (Pin mutator index))) mutator index mutator_below slot_below (omega (arith, address_split)) (omega (arith, address_split, offset_below))

  -- so no slot holds an address of a region that is not pinned
  pub unpinned_there : (address : ℕ) → config.region_words ≤ address → is_pinned config memory (region_with config address) ≡ false → IsUnpinned config memory address
  unpinned_there address address_above unpinned thread slot inside few same_address =
      let pin_in_heap : config.region_words ≤ memory (Pin thread slot) = omega (arith, address_above, same_address) in
      true≢false (sym (slot_pins thread slot inside few pin_in_heap) ∙ ap (λ any_address. is_pinned config memory (region_with config any_address)) same_address ∙ unpinned)

-- No pin slot holds an address of the collection set.
abbrev pub PinsOutside : Config → (Word → ℕ) → Type 0
PinsOutside config memory = (mutator index : ℕ) → mutator < config.mutators → index < 4 → is_collected config memory (memory (Pin mutator index)) ≡ false

-- So it is where no region of the set is pinned, ..
pub pins_outside : (config : Config) (memory : Word → ℕ) → ((region : ℕ) → IsIn (memory Cset) region → is_pinned config memory region ≡ false) → PinsOutside config memory
pins_outside config memory unpinned thread slot inside few = false_from_ne_true (is_collected config memory (memory (Pin thread slot))) (λ collected.
    let both_parts = and_parts (nat_le config.region_words (memory (Pin thread slot))) (bit_at (memory Cset) (region_with config (memory (Pin thread slot))) == 1) collected in
    let address_above = leb-true config.region_words (memory (Pin thread slot)) both_parts.0 in
    let pin_collected = eqb-true (bit_at (memory Cset) (region_with config (memory (Pin thread slot)))) 1 both_parts.1 in
    true≢false (sym (slot_pins config memory thread slot inside few address_above) ∙ unpinned (region_with config (memory (Pin thread slot))) pin_collected))

-- .. and then no slot holds an object of the set.
pub unpinned_inside : (config : Config) (memory : Word → ℕ) → PinsOutside config memory → (address : ℕ) → is_collected config memory address ≡ true → IsUnpinned config memory address
unpinned_inside config memory outside address address_collected thread slot inside few same_address = true≢false (sym address_collected ∙ ap (is_collected config memory) (sym same_address) ∙ outside thread slot inside few)

-- It stays so where pin slots and the set are the same.
pub still_outside : (config : Config) (memory other_memory : Word → ℕ) → ((mutator index : ℕ) → other_memory (Pin mutator index) ≡ memory (Pin mutator index)) → other_memory Cset ≡ memory Cset → PinsOutside config memory → PinsOutside config other_memory
still_outside config memory other_memory same_pins same_set outside mutator index inside few =
    ap (is_collected config other_memory) (same_pins mutator index) ∙ ap (λ set. nat_le config.region_words (memory (Pin mutator index)) && (bit_at set (region_with config (memory (Pin mutator index))) == 1)) same_set ∙ outside mutator index inside few
