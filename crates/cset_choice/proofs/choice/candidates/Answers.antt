use Rattle.std.proofs.Common.{◌≡◌, ◌<◌, ℕ, ap, ◌∙◌, arith}
use Rattle.heap_words.specs.declared.config.Config.{Config}
use Rattle.heap_words.specs.Words.{Word}
use Rattle.image_graph.specs.State.{config_of, memory_of}
use Rattle.cycle_words.specs.Marking.Marks.{bits_of}
use Rattle.cycle_words.proofs.Marking.Bits.{bits_small}
use Rattle.cycle_words.specs.Evacuation.Live.{live_words, is_candidate}
use Rattle.cset_choice.specs.Tables.{most_live}
use Rattle.cset_choice.proofs.Choosing.{bits_none_yet, bits_next, live_none, live_more, counted_words, counted_few}
use Rattle.cset_choice.proofs.choice.candidates.Goals as goal

pub loop-region-init : goal.loop-region-init
loop-region-init c =
    let config = config_of c.args.image.now in
    let memory : Word → ℕ = memory_of c.args.image.now in
    record { live = live_none config memory; set = bits_none_yet (is_candidate config memory) }

pub with_if-set-requires-clause-below : goal.with_if-set-requires-clause-below
with_if-set-requires-clause-below c =
    let bits_are_small = bits_small (is_candidate (config_of c.args.image.now) (memory_of c.args.image.now)) 0 c.loop-region.region in
    omega (arith, bits_are_small, c.loop-region.invariant.set)

pub loop-region-preserved : goal.loop-region-preserved
loop-region-preserved c =
    let config = config_of c.args.image.now in
    let memory : Word → ℕ = memory_of c.args.image.now in
    let region = c.loop-region.region in
    let few_regions = config.in_range.most_regions in
    let region_few : region < 64 = omega (arith, c.loop-region-test.true, c.regions-region-end.ensures, ap (λ (config : Config). config.regions) c.config.ensures, few_regions) in
    let counted = c.live_of_candidate-counted.result in
    let live_told = c.live_of_candidate-counted.ensures in
    let words : ℕ = c.unwrap_or-words.result in
    record {
      live = live_more config memory c.loop-region.live region words region_few
          (counted_words counted words (live_words config memory region) (is_candidate config memory region) c.unwrap_or-words.ensures live_told.candidate live_told.live)
          (counted_few counted words most_live c.unwrap_or-words.ensures live_told.bound) c.loop-region.invariant.live;
      set = bits_next (is_candidate config memory) region c.loop-region.set c.with_if-set.result c.is_some-member.result c.loop-region.invariant.set (c.is_some-member.ensures ∙ live_told.candidate) c.with_if-set.ensures;
    }

pub returns-clause-live : goal.returns-clause-live
returns-clause-live c =
    let config = config_of c.args.image.now in
    let all_regions : c.loop-region.region ≡ config.regions =
    omega (arith, c.loop-region-test.false, c.loop-region.auto.region-end, c.regions-region-end.ensures, ap (λ (config : Config). config.regions) c.config.ensures) in
    let live = c.loop-region.invariant.live in
    record { long = live.long; small = live.small; is = λ asked_region region_below candidate_told. live.is asked_region (omega (arith, region_below, all_regions)) candidate_told }

pub returns-clause-set : goal.returns-clause-set
returns-clause-set c =
    let config = config_of c.args.image.now in
    let memory : Word → ℕ = memory_of c.args.image.now in
    let all_regions : c.loop-region.region ≡ config.regions =
    omega (arith, c.loop-region-test.false, c.loop-region.auto.region-end, c.regions-region-end.ensures, ap (λ (config : Config). config.regions) c.config.ensures) in
    c.loop-region.invariant.set ∙ ap (bits_of (is_candidate config memory) 0) all_regions
