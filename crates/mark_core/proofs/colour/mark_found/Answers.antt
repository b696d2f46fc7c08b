use Rattle.std.proofs.Common.{◌≡◌, ◌+◌, ℕ, List, take, slice_get, Some, None, refl, sym, ap, ◌∙◌, subst, arith}
use Rattle.std.proofs.lemmas.List.{take_all}
use Rattle.std.proofs.lemmas.Option.{slice_get_within}
use Rattle.shen_graph.proofs.Lists.{index_past_end}
use Rattle.shen_graph.proofs.Options.{none_if_never}
use Rattle.heap_words.specs.declared.config.Config.{Config}
use Rattle.heap_words.specs.Words.{Word, Grey, Black, Heap, IsWord, word_at, heap_size, bit_words}
use Rattle.regions.proofs.MarksApart.{word_inside}
use Rattle.heap_world.specs.Walk.{has}
use Rattle.heap_world.proofs.TakenDown as marks
use Rattle.image_graph.specs.State.{config_of, memory_of, found_of, marks_of}
use Rattle.mark_core.specs.Steps.{marked}
use Rattle.mark_core.proofs.FoundStays.{still_found, found_inside}
use Rattle.mark_core.proofs.FoundMarks.{grey_besides, black_besides, none_marked, marked_more, has_next, has_others}
use Rattle.mark_core.proofs.colour.mark_found.Goals as goal

pub loop-address-init : goal.loop-address-init
loop-address-init c = record {
  config = refl;
  same = refl;
  found = c.requires;
  words = none_marked (config_of c.args.image.now) (bit_words (config_of c.args.image.now)) (memory_of c.args.image.now);
  few = omega arith;
}

pub set_mark-requires-clause-inside : goal.set_mark-requires-clause-inside
set_mark-requires-clause-inside c = found_inside c.loop-address.image c.loop-address.turn c.in-Some.address c.loop-address.invariant.found (sym c.in-Some.ensures)

pub set_mark-requires-in-Some-clause-inside : goal.set_mark-requires-in-Some-clause-inside
set_mark-requires-in-Some-clause-inside c =
    subst (λ (config : Config). IsWord config (Heap c.in-Some.address)) (sym c.set_mark.ensures.config)
    (found_inside c.loop-address.image c.loop-address.turn c.in-Some.address c.loop-address.invariant.found (sym c.in-Some.ensures))

pub loop-address-smaller : goal.loop-address-smaller
loop-address-smaller c =
    let current_image = c.loop-address.image in
    let turn_within = slice_get_within (found_of current_image) c.loop-address.turn c.in-Some.address (sym c.in-Some.ensures) in
    let few_found = marks.few (config_of current_image).region_words (marks_of current_image) (found_of current_image) c.loop-address.invariant.found in
    omega (arith, turn_within, few_found, current_image.all_marks, ap heap_size c.loop-address.invariant.config)

pub loop-address-preserved : goal.loop-address-preserved
loop-address-preserved c =
    let old = c.args.image.now in
    let config = config_of old in
    let memory : Word → ℕ = memory_of old in
    let found_list : List ℕ = found_of old in
    let current_image = c.loop-address.image in
    let marked_image = c.set_mark.new.image in
    let last_image = c.set_mark-in-Some.new.image in
    let invariant_before = c.loop-address.invariant in
    let address : ℕ = c.in-Some.address in
    let turn : ℕ = c.loop-address.turn in
    let address_found : slice_get found_list turn ≡ Some address = sym (ap (λ given_list. slice_get given_list turn) invariant_before.same) ∙ sym c.in-Some.ensures in
    let heap : IsWord config (Heap address) = subst (λ (config : Config). IsWord config (Heap address)) invariant_before.config (found_inside current_image turn address invariant_before.found (sym c.in-Some.ensures)) in
    let as_one : config_of marked_image ≡ config = c.set_mark.ensures.config ∙ invariant_before.config in
    let grey_start : c.grey_at-grey.result ≡ word_at (config_of current_image) (Grey 0) = c.grey_at-grey.ensures ∙ ap (λ (config : Config). word_at config (Grey 0)) (c.config-config.ensures ∙ sym invariant_before.config) in
    let black_start : c.black_at-black.result ≡ word_at (config_of marked_image) (Black 0) = c.black_at-black.ensures ∙ ap (λ (config : Config). word_at config (Black 0)) (c.config-config.ensures ∙ sym as_one) in
    let to_one : memory_of marked_image ≡ grey_besides config address (marked config (has (take turn found_list)) (bit_words config) memory) =
    c.set_mark.ensures.grey grey_start ∙ ap (λ (config : Config). grey_besides config address (memory_of current_image)) invariant_before.config ∙ ap (grey_besides config address) invariant_before.words in
    let to_two : memory_of last_image ≡ black_besides config address (memory_of marked_image) = c.set_mark-in-Some.ensures.black black_start ∙ ap (λ (config : Config). black_besides config address (memory_of marked_image)) as_one in
    let turn_within = slice_get_within (found_of current_image) turn address (sym c.in-Some.ensures) in
    let few_found = marks.few (config_of current_image).region_words (marks_of current_image) (found_of current_image) invariant_before.found in
    record {
      config = c.set_mark-in-Some.ensures.config ∙ as_one;
      same = c.set_mark-in-Some.ensures.found ∙ c.set_mark.ensures.found ∙ invariant_before.same;
      found = still_found marked_image last_image c.set_mark-in-Some.ensures.config c.set_mark-in-Some.ensures.marks c.set_mark-in-Some.ensures.found
          (still_found current_image marked_image c.set_mark.ensures.config c.set_mark.ensures.marks c.set_mark.ensures.found invariant_before.found);
      words = to_two ∙ ap (black_besides config address) to_one
          ∙ marked_more config (has (take turn found_list)) (has (take (turn + 1) found_list)) address heap.0 (has_next found_list turn address address_found) (λ asked_address other_address. has_others found_list turn address asked_address address_found other_address) memory (bit_words config) (word_inside config address heap);
      few = omega (arith, turn_within, few_found, current_image.all_marks, ap heap_size invariant_before.config);
    }

pub returns-clause-words : goal.returns-clause-words
returns-clause-words c =
    let old = c.args.image.now in
    let config = config_of old in
    let turn : ℕ = c.loop-address.turn in
    let invariant_before = c.loop-address.invariant in
    let none_left : slice_get (found_of old) turn ≡ None = sym (ap (λ given_list. slice_get given_list turn) invariant_before.same) ∙ sym c.found_at.ensures ∙ none_if_never c.found_at.result c.in_default.not-Some in
    invariant_before.words ∙ ap (λ given_list. marked config (has given_list) (bit_words config) (memory_of old)) (take_all turn (found_of old) (index_past_end (found_of old) turn none_left))
