-- The free word while regions are looked at.
use Rattle.std.proofs.Common.{◌≡◌, ℕ, ◌+◌, ◌*◌, ◌^◌, ◌==◌, cond, suc, refl, ap, ◌∙◌, arith}
use Rattle.image_graph.specs.Full.{empty_regions}
use Rattle.image_graph.specs.Pinned.{set_of}

pub empty_none : (top : ℕ → ℕ) → 0 ≡ empty_regions top 0
unfolding set_of
empty_none top = refl

pub empty_more : (top : ℕ → ℕ) (region added_bit earlier_free edge : ℕ) → edge ≡ top region → added_bit ≡ cond (edge == 0) 1 0 * 2 ^ region → earlier_free ≡ empty_regions top region → earlier_free + added_bit ≡ empty_regions top (region + 1)
unfolding set_of
empty_more top region added_bit earlier_free edge edge_is set_is free_is =
    let next_region : suc region ≡ region + 1 = omega arith in
    let bit_added : added_bit ≡ cond (top region == 0) 1 0 * 2 ^ region = set_is ∙ ap (λ limit. cond (limit == 0) 1 0 * 2 ^ region) edge_is in
    let step : empty_regions top (suc region) ≡ cond (top region == 0) 1 0 * 2 ^ region + empty_regions top region = refl in
    let sum : earlier_free + added_bit ≡ empty_regions top (suc region) = omega (arith, bit_added, free_is, step) in
    sum ∙ ap (empty_regions top) next_region
