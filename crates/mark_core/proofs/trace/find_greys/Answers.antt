use Rattle.std.proofs.Common.{◌≡◌, ◌+◌, ◌-◌, ◌≤◌, ℕ, refl, sym, ap, ◌∙◌, arith}
use Rattle.heap_words.specs.declared.config.Config.{Config}
use Rattle.heap_words.specs.Words.{Word}
use Rattle.heap_world.specs.Walk.{with_address, with_addresses}
use Rattle.image_graph.specs.State.{config_of, memory_of, found_of}
use Rattle.cycle_words.specs.Marking.Marks.{is_grey}
use Rattle.cycle_words.specs.Marking.Close.{greys_below}
use Rattle.image_graph.proofs.Same.{memory_same, both}
use Rattle.mark_core.proofs.Listed.{grey_more, greys_pass}
use Rattle.mark_core.proofs.trace.find_greys.Goals as goal

pub loop-address-init : goal.loop-address-init
loop-address-init c =
    let old = c.args.image.now in
    let config = config_of old in
    let memory : Word → ℕ = memory_of old in
    let first_grey : ℕ = c.next_grey-address.result in
    let grey_found = c.next_grey-address.ensures in
    let same_start : c.region_words-first.result ≡ config.region_words = c.region_words-first.ensures ∙ ap (λ (config : Config). config.region_words) c.config-config.ensures in
    let grey_above : config.region_words ≤ first_grey = omega (arith, grey_found.from, same_start) in
    let count : ℕ = first_grey - config.region_words in
    let same_count : 0 + count ≡ count = omega arith in
    record {
      unchanged = record { config = refl; words = refl };
      found = c.requires;
      first = grey_above;
      last = grey_found.end;
      grey = grey_found.grey;
      noted = greys_pass memory config 0 count (found_of old) (λ address from address_below. grey_found.none address (omega (arith, from, same_start)) (omega (arith, address_below, grey_above)))
          ∙ ap (λ number. with_addresses (found_of old) (greys_below config memory number)) same_count;
    }

pub loop-address-preserved : goal.loop-address-preserved
loop-address-preserved c =
    let old = c.args.image.now in
    let config = config_of old in
    let memory : Word → ℕ = memory_of old in
    let current_image = c.loop-address.image in
    let later_image = c.find.new.self in
    let address : ℕ = c.loop-address.address in
    let next_address : ℕ = c.next_grey-address-in-loop-address.result in
    let invariant_before = c.loop-address.invariant in
    let grey_found = c.next_grey-address-in-loop-address.ensures in
    let unchanged_image = both old current_image later_image invariant_before.unchanged c.find.ensures.unchanged in
    let colour : (asked_address : ℕ) → is_grey (config_of later_image) (memory_of later_image) asked_address ≡ is_grey config memory asked_address = λ asked_address.
    ap (λ (config : Config). is_grey config (memory_of later_image) asked_address) unchanged_image.config ∙ ap (λ count. is_grey config count asked_address) (memory_same old later_image unchanged_image) in
    let offset : ℕ = address - config.region_words in
    let same_address : config.region_words + offset ≡ address = omega (arith, invariant_before.first) in
    let count : ℕ = next_address - (address + 1) in
    let same_count : offset + 1 + count ≡ next_address - config.region_words = omega (arith, invariant_before.first, grey_found.from) in
    record {
      unchanged = unchanged_image;
      found = c.find.ensures.found;
      first = omega (arith, invariant_before.first, grey_found.from);
      last = grey_found.end;
      grey = λ next_below. sym (colour next_address) ∙ grey_found.grey next_below;
      noted = c.find.ensures.noted
          ∙ ap (λ addresses. with_address addresses address) invariant_before.noted
          ∙ ap (with_address (with_addresses (found_of old) (greys_below config memory offset))) (sym same_address)
          ∙ grey_more memory config offset (found_of old) (ap (is_grey config memory) same_address ∙ invariant_before.grey c.loop-address-test.true)
          ∙ greys_pass memory config (offset + 1) count (found_of old) (λ asked_address from address_below. sym (colour asked_address) ∙ grey_found.none asked_address (omega (arith, from, same_address)) (omega (arith, address_below, same_count, invariant_before.first, grey_found.from)))
          ∙ ap (λ number. with_addresses (found_of old) (greys_below config memory number)) same_count;
    }
