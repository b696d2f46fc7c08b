use Rattle.std.proofs.Common.{◌+◌, ◌*◌, ◌^◌, ◌<◌, ℕ, if◌then◌else◌, sym, ap, ◌∙◌, subst}
use Rattle.image_graph.specs.Pinned.{is_pinned}
use Rattle.image_graph.specs.State.{config_of, memory_of}
use Rattle.image_graph.proofs.FreeWord.{set_small}
use Rattle.image_graph.proofs.RegionSets.{set_none, set_more}
use Rattle.image_graph.proofs.image.Image.pinned_set.Goals as goal

pub loop-region-init : goal.loop-region-init
loop-region-init c = set_none (is_pinned (config_of c.args.self.now) (memory_of c.args.self.now))

pub with_if-set-requires-clause-below : goal.with_if-set-requires-clause-below
with_if-set-requires-clause-below c =
    let test = is_pinned (config_of c.args.self.now) (memory_of c.args.self.now) in
    subst (λ (region_set : ℕ). region_set < 2 ^ c.loop-region.region) (sym c.loop-region.invariant) (set_small test c.loop-region.region)

pub loop-region-preserved : goal.loop-region-preserved
loop-region-preserved c =
    let test = is_pinned (config_of c.args.self.now) (memory_of c.args.self.now) in
    let region = c.loop-region.region in
    c.with_if-set.ensures ∙ ap (λ pinned. (if pinned then 1 else 0) * 2 ^ region + c.loop-region.set) c.is_pinned.ensures
    ∙ ap (λ earlier_set. (if test region then 1 else 0) * 2 ^ region + earlier_set) c.loop-region.invariant ∙ set_more test region
