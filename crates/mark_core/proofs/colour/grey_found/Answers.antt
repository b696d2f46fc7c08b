use Rattle.std.proofs.Common.{◌≡◌, ◌+◌, ℕ, List, take, slice_get, Some, None, sym, ap, ◌∙◌, subst, arith}
use Rattle.std.proofs.lemmas.List.{take_all}
use Rattle.std.proofs.lemmas.Option.{slice_get_within}
use Rattle.shen_graph.proofs.Lists.{index_past_end}
use Rattle.shen_graph.proofs.Options.{none_if_never}
use Rattle.heap_words.specs.declared.config.Config.{Config}
use Rattle.heap_words.specs.Words.{Word, Grey, Heap, IsWord, word_at, heap_size, bit_words}
use Rattle.regions.proofs.MarksApart.{word_inside}
use Rattle.heap_world.specs.Walk.{has}
use Rattle.heap_world.proofs.TakenDown as marks
use Rattle.image_graph.specs.State.{config_of, memory_of, found_of, marks_of}
use Rattle.mark_core.specs.Steps.{greyed}
use Rattle.mark_core.proofs.FoundStays.{still_found, found_inside}
use Rattle.mark_core.proofs.FoundMarks.{grey_besides, greyed_more, has_next, has_others}
use Rattle.mark_core.proofs.colour.grey_found.Goals as goal

pub loop-address-init : goal.loop-address-init
loop-address-init c = record {
  config = c.clear_marks.ensures.config;
  same = c.clear_marks.ensures.found;
  found = c.clear_marks.ensures.still;
  words = c.clear_marks.ensures.words;
  few = omega arith;
}

pub set_mark-requires-clause-inside : goal.set_mark-requires-clause-inside
set_mark-requires-clause-inside c = found_inside c.loop-address.image c.loop-address.turn c.in-Some.address c.loop-address.invariant.found (sym c.in-Some.ensures)

pub loop-address-smaller : goal.loop-address-smaller
loop-address-smaller c =
    let image_now = c.loop-address.image in
    let turn_within = slice_get_within (found_of image_now) c.loop-address.turn c.in-Some.address (sym c.in-Some.ensures) in
    let few_found = marks.few (config_of image_now).region_words (marks_of image_now) (found_of image_now) c.loop-address.invariant.found in
    omega (arith, turn_within, few_found, image_now.all_marks, ap heap_size c.loop-address.invariant.config)

pub loop-address-preserved : goal.loop-address-preserved
loop-address-preserved c =
    let old = c.args.image.now in
    let config = config_of old in
    let memory : Word → ℕ = memory_of old in
    let found_list : List ℕ = found_of old in
    let image_now = c.loop-address.image in
    let marked_image = c.set_mark.new.image in
    let greyed_so_far = c.loop-address.invariant in
    let address : ℕ = c.in-Some.address in
    let turn : ℕ = c.loop-address.turn in
    let address_at_turn : slice_get found_list turn ≡ Some address = sym (ap (λ list_now. slice_get list_now turn) greyed_so_far.same) ∙ sym c.in-Some.ensures in
    let heap : IsWord config (Heap address) = subst (λ (config : Config). IsWord config (Heap address)) greyed_so_far.config (found_inside image_now turn address greyed_so_far.found (sym c.in-Some.ensures)) in
    let grey_start : c.grey_at-grey.result ≡ word_at (config_of image_now) (Grey 0) = c.grey_at-grey.ensures ∙ ap (λ (config : Config). word_at config (Grey 0)) (c.config.ensures ∙ c.clear_marks.ensures.config ∙ sym greyed_so_far.config) in
    let to_one : memory_of marked_image ≡ grey_besides config address (greyed config (has (take turn found_list)) (bit_words config) memory) =
    c.set_mark.ensures.grey grey_start ∙ ap (λ (config : Config). grey_besides config address (memory_of image_now)) greyed_so_far.config ∙ ap (grey_besides config address) greyed_so_far.words in
    let turn_within = slice_get_within (found_of image_now) turn address (sym c.in-Some.ensures) in
    let few_found = marks.few (config_of image_now).region_words (marks_of image_now) (found_of image_now) greyed_so_far.found in
    record {
      config = c.set_mark.ensures.config ∙ greyed_so_far.config;
      same = c.set_mark.ensures.found ∙ greyed_so_far.same;
      found = still_found image_now marked_image c.set_mark.ensures.config c.set_mark.ensures.marks c.set_mark.ensures.found greyed_so_far.found;
      words = to_one
          ∙ greyed_more config (has (take turn found_list)) (has (take (turn + 1) found_list)) address heap.0 (has_next found_list turn address address_at_turn) (λ other_address differs. has_others found_list turn address other_address address_at_turn differs) memory (bit_words config) (word_inside config address heap);
      few = omega (arith, turn_within, few_found, image_now.all_marks, ap heap_size greyed_so_far.config);
    }

pub returns-clause-words : goal.returns-clause-words
returns-clause-words c =
    let old = c.args.image.now in
    let config = config_of old in
    let turn : ℕ = c.loop-address.turn in
    let greyed_so_far = c.loop-address.invariant in
    let none_at_turn : slice_get (found_of old) turn ≡ None = sym (ap (λ list_now. slice_get list_now turn) greyed_so_far.same) ∙ sym c.found_at.ensures ∙ none_if_never c.found_at.result c.in_default.not-Some in
    greyed_so_far.words ∙ ap (λ list_now. greyed config (has list_now) (bit_words config) (memory_of old)) (take_all turn (found_of old) (index_past_end (found_of old) turn none_at_turn))
