use Rattle.std.proofs.Common.{◌≡◌, ℕ, [], slice_get, Some, None, sym, ap, ◌∙◌, arith}
use Rattle.std.proofs.lemmas.Option.{slice_get_within}
use Rattle.shen_graph.proofs.Lists.{index_past_end}
use Rattle.shen_graph.proofs.Options.{none_if_never}
use Rattle.heap_words.specs.declared.config.Config.{Config}
use Rattle.heap_words.specs.Words.{Word, heap_size}
use Rattle.heap_world.specs.Walk.{with_addresses}
use Rattle.heap_world.proofs.TakenDown as marks
use Rattle.image_graph.proofs.HeldFound.{has_at}
use Rattle.image_graph.proofs.FoundInTurn.{noted_both, no_turn, next_turn, last_turn}
use Rattle.image_graph.specs.State.{config_of, memory_of, found_of, marks_of}
use Rattle.cycle_words.specs.Marking.Close.{IsTraced, greys_below, entries_below, starts_in, open_fields, traced_by}
use Rattle.cycle_words.proofs.Marking.Traced.{listed_traced}
use Rattle.mark_core.specs.Trace.{CanTrace}
use Rattle.image_graph.proofs.Same.{memory_same, carried, both}
use Rattle.mark_core.proofs.trace.find_traced.Goals as goal

pub find_all_entries-requires-clause-can : goal.find_all_entries-requires-clause-can
find_all_entries-requires-clause-can c =
    let old = c.args.image.now in
    carried CanTrace old c.find_greys.new.image (both old c.forget_found.new.self c.find_greys.new.image c.forget_found.ensures.unchanged c.find_greys.ensures.unchanged) c.requires

pub loop-address-init : goal.loop-address-init
loop-address-init c =
    let old = c.args.image.now in
    let config = config_of old in
    let memory : Word → ℕ = memory_of old in
    let emptied_image = c.forget_found.new.self in
    let greys_image = c.find_greys.new.image in
    let entries_image = c.find_all_entries.new.image in
    let to_one = c.forget_found.ensures.unchanged in
    let to_two = both old emptied_image greys_image to_one c.find_greys.ensures.unchanged in
    let greys : found_of greys_image ≡ with_addresses [] (greys_below config memory (heap_size config)) =
    c.find_greys.ensures.noted
    ∙ ap (λ (memory : Word → ℕ). with_addresses (found_of emptied_image) (greys_below (config_of emptied_image) memory (heap_size (config_of emptied_image)))) (memory_same old emptied_image to_one)
    ∙ ap (λ (config : Config). with_addresses (found_of emptied_image) (greys_below config memory (heap_size config))) to_one.config
    ∙ ap (λ addresses. with_addresses addresses (greys_below config memory (heap_size config))) c.forget_found.ensures.none in
    record {
      unchanged = both old greys_image entries_image to_two c.find_all_entries.ensures.unchanged;
      found = c.find_all_entries.ensures.found;
      turns = c.find_all_entries.ensures.noted
          ∙ ap (λ (memory : Word → ℕ). with_addresses (found_of greys_image) (entries_below memory (config_of greys_image).mutators)) (memory_same old greys_image to_two)
          ∙ ap (λ (config : Config). with_addresses (found_of greys_image) (entries_below memory config.mutators)) to_two.config
          ∙ ap (λ addresses. with_addresses addresses (entries_below memory config.mutators)) greys
          ∙ noted_both [] (greys_below config memory (heap_size config)) (entries_below memory config.mutators)
          ∙ no_turn (open_fields config memory) (starts_in config memory);
      few = omega arith;
    }

pub trace_one-requires-clause-can : goal.trace_one-requires-clause-can
trace_one-requires-clause-can c = carried CanTrace c.args.image.now c.loop-address.image c.loop-address.invariant.unchanged c.requires

pub trace_one-requires-clause-traced : goal.trace_one-requires-clause-traced
trace_one-requires-clause-traced c =
    let old = c.args.image.now in
    let address = c.in-Some.address in
    let turn = c.loop-address.turn in
    let address_found : slice_get (traced_by (config_of old) (memory_of old) turn) turn ≡ Some address =
    sym (ap (λ addresses. slice_get addresses turn) c.loop-address.invariant.turns) ∙ sym c.in-Some.ensures in
    carried (λ any_config any_memory. IsTraced any_config any_memory address) old c.loop-address.image c.loop-address.invariant.unchanged
    (listed_traced (config_of old) (memory_of old) turn address (has_at (traced_by (config_of old) (memory_of old) turn) turn address address_found))

pub loop-address-smaller : goal.loop-address-smaller
loop-address-smaller c =
    let current_image = c.loop-address.image in
    let turn_within = slice_get_within (found_of current_image) c.loop-address.turn c.in-Some.address (sym c.in-Some.ensures) in
    let few_found = marks.few (config_of current_image).region_words (marks_of current_image) (found_of current_image) c.loop-address.invariant.found in
    omega (arith, turn_within, few_found, current_image.all_marks, ap heap_size c.loop-address.invariant.unchanged.config)

pub loop-address-preserved : goal.loop-address-preserved
loop-address-preserved c =
    let old = c.args.image.now in
    let config = config_of old in
    let current_image = c.loop-address.image in
    let address = c.in-Some.address in
    let turn = c.loop-address.turn in
    let memory : Word → ℕ = memory_of old in
    let unchanged_image = c.loop-address.invariant.unchanged in
    let address_found : slice_get (traced_by config memory turn) turn ≡ Some address = sym (ap (λ addresses. slice_get addresses turn) c.loop-address.invariant.turns) ∙ sym c.in-Some.ensures in
    let turn_within = slice_get_within (found_of current_image) turn address (sym c.in-Some.ensures) in
    let few_found = marks.few (config_of current_image).region_words (marks_of current_image) (found_of current_image) c.loop-address.invariant.found in
    record {
      unchanged = both old current_image c.trace_one.new.image unchanged_image c.trace_one.ensures.unchanged;
      found = c.trace_one.ensures.found;
      turns = c.trace_one.ensures.noted
          ∙ ap (λ (memory : Word → ℕ). with_addresses (found_of current_image) (open_fields (config_of current_image) memory address)) (memory_same old current_image unchanged_image)
          ∙ ap (λ (config : Config). with_addresses (found_of current_image) (open_fields config memory address)) unchanged_image.config
          ∙ ap (λ addresses. with_addresses addresses (open_fields config memory address)) c.loop-address.invariant.turns
          ∙ next_turn (open_fields config memory) (starts_in config memory) turn address address_found;
      few = omega (arith, turn_within, few_found, current_image.all_marks, ap heap_size unchanged_image.config);
    }

pub returns-clause-traced : goal.returns-clause-traced
returns-clause-traced c =
    let old = c.args.image.now in
    let config = config_of old in
    let memory : Word → ℕ = memory_of old in
    let turn = c.loop-address.turn in
    let turns = c.loop-address.invariant.turns in
    let none_left : slice_get (found_of c.loop-address.image) turn ≡ None = sym c.found_at.ensures ∙ none_if_never c.found_at.result c.in_default.not-Some in
    turns ∙ last_turn (open_fields config memory) (starts_in config memory) turn (heap_size config) (index_past_end (traced_by config memory turn) turn (ap (λ addresses. slice_get addresses turn) (sym turns) ∙ none_left)) c.loop-address.invariant.few
