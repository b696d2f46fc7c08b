use Rattle.std.proofs.Common.{◌≡◌, ◌+◌, ◌<◌, ℕ, sym, ap, ◌∙◌, arith}
use Rattle.std.proofs.lemmas.Bool.{leb-true}
use Rattle.heap_words.specs.declared.config.Config.{Config}
use Rattle.heap_words.specs.Words.{Word, Cset, Top}
use Rattle.regions.proofs.ServedRooms.{lowest_is, all_full}
use Rattle.image_graph.specs.State.{config_of, memory_of}
use Rattle.cycle_words.specs.Evacuation.Copying.{tops_outside}
use Rattle.cset_choice.proofs.copy.room_outside.Goals as goal

pub returns-then-has_room : goal.returns-then-has_room
returns-then-has_room c =
    let config = config_of c.args.image.now in
    let memory : Word → ℕ = memory_of c.args.image.now in
    let region_words = config.region_words in
    let tops : ℕ → ℕ = tops_outside region_words (memory Cset) (λ region. memory (Top region)) in
    let region = c.loop-region.region in
    let region_below : region < config.regions = omega (arith, c.loop-region-test.true, c.regions-region-end.ensures, ap (λ (config : Config). config.regions) c.config.ensures) in
    sym (lowest_is region_words tops c.args.words config.regions region (record {
      below = region_below;
      room = leb-true (tops region + c.args.words) region_words (sym c.has_room.ensures ∙ c.if-has_room.true);
      none_lower = c.loop-region.invariant;
    }))

pub returns : goal.returns
returns c =
    let config = config_of c.args.image.now in
    let memory : Word → ℕ = memory_of c.args.image.now in
    let all_regions : c.loop-region.region ≡ config.regions =
    omega (arith, c.loop-region-test.false, c.loop-region.auto.region-end, c.regions-region-end.ensures, ap (λ (config : Config). config.regions) c.config.ensures) in
    sym (all_full config.region_words (tops_outside config.region_words (memory Cset) (λ region. memory (Top region))) c.args.words config.regions (λ asked_region region_below. c.loop-region.invariant asked_region (omega (arith, region_below, all_regions))))
