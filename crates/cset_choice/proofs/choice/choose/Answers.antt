use Rattle.std.proofs.Common.{◌≡◌, ◌<◌, ◌==◌, ◌&&◌, nat_le, Bool, ℕ, sym, ap, ◌∙◌, subst, arith}
use Rattle.std.specs.Int.{bit_at}
use Rattle.heap_words.specs.declared.config.Config.{Config}
use Rattle.heap_words.specs.Words.{Word}
use Rattle.image_graph.specs.State.{config_of, memory_of}
use Rattle.cycle_words.specs.Marking.Marks.{bits_of}
use Rattle.cycle_words.proofs.Marking.Bits.{bits_small}
use Rattle.cycle_words.specs.Evacuation.Live.{live_words, is_candidate}
use Rattle.cycle_words.specs.Evacuation.Choice.{copy_limit, IsChoice, chosen}
use Rattle.cycle_words.specs.Evacuation.Front.{is_in_front}
use Rattle.cycle_words.proofs.Evacuation.Front.{front_is_longest}
use Rattle.cycle_words.specs.Evacuation.Laws.{ReachableAreLive}
use Rattle.cycle_words.proofs.Evacuation.CanCopy.{chosen_are_live}
use Rattle.cset_choice.specs.Tables.{up_to}
use Rattle.cset_choice.proofs.Choosing.{bits_none_yet, bits_next, fits_is}
use Rattle.cset_choice.proofs.choice.choose.Goals as goal

-- whether a region is to be chosen
abbrev taken : Config → (Word → ℕ) → ℕ → Bool
taken config memory = is_in_front config.regions (copy_limit config memory) (live_words config memory) (is_candidate config memory)

pub loop-region-init : goal.loop-region-init
loop-region-init c = bits_none_yet (taken (config_of c.args.image.now) (memory_of c.args.image.now))

pub with_if-set-requires-clause-below : goal.with_if-set-requires-clause-below
with_if-set-requires-clause-below c =
    let bits_are_small = bits_small (taken (config_of c.args.image.now) (memory_of c.args.image.now)) 0 c.loop-region.region in
    omega (arith, bits_are_small, c.loop-region.invariant)

pub loop-region-preserved : goal.loop-region-preserved
loop-region-preserved c =
    let config = config_of c.args.image.now in
    let memory : Word → ℕ = memory_of c.args.image.now in
    let region = c.loop-region.region in
    let live = c.candidates-counted.result.live in
    let region_below : region < config.regions = omega (arith, c.loop-region-test.true, c.regions-region-end.ensures, ap (λ (config : Config). config.regions) c.config-config.ensures) in
    let candidate_set : ℕ = bits_of (is_candidate config memory) 0 config.regions in
    let taken_told : c.is_taken.result ≡ taken config memory region =
    c.is_taken.ensures
    ∙ ap (λ candidate_set. (bit_at candidate_set region == 1) && nat_le (up_to live candidate_set c.config-config.result.regions region) c.copy_limit-limit.result) c.candidates-counted.ensures.set
    ∙ ap (λ (config : Config). (bit_at candidate_set region == 1) && nat_le (up_to live candidate_set config.regions region) c.copy_limit-limit.result) c.config-config.ensures
    ∙ ap (λ limit. (bit_at candidate_set region == 1) && nat_le (up_to live candidate_set config.regions region) limit) c.copy_limit-limit.ensures
    ∙ fits_is config memory live c.candidates-counted.ensures.live region (copy_limit config memory) region_below in
    bits_next (taken config memory) region c.loop-region.set c.with_if-set.result c.is_taken.result c.loop-region.invariant taken_told c.with_if-set.ensures

pub returns-clause-choice : goal.returns-clause-choice
returns-clause-choice c =
    let config = config_of c.args.image.now in
    let memory : Word → ℕ = memory_of c.args.image.now in
    let all_regions : c.loop-region.region ≡ config.regions =
    omega (arith, c.loop-region-test.false, c.loop-region.auto.region-end, c.regions-region-end.ensures, ap (λ (config : Config). config.regions) c.config-config.ensures) in
    let value : c.loop-region.set ≡ chosen config memory = c.loop-region.invariant ∙ ap (bits_of (taken config memory) 0) all_regions in
    subst (IsChoice config memory) (sym value) (front_is_longest config.regions (copy_limit config memory) (live_words config memory) (is_candidate config memory))

pub returns-clause-live : goal.returns-clause-live
returns-clause-live c =
    let config = config_of c.args.image.now in
    let memory : Word → ℕ = memory_of c.args.image.now in
    let all_regions : c.loop-region.region ≡ config.regions =
    omega (arith, c.loop-region-test.false, c.loop-region.auto.region-end, c.regions-region-end.ensures, ap (λ (config : Config). config.regions) c.config-config.ensures) in
    let value : c.loop-region.set ≡ chosen config memory = c.loop-region.invariant ∙ ap (bits_of (taken config memory) 0) all_regions in
    subst (ReachableAreLive config memory) (sym value) (chosen_are_live config memory)
