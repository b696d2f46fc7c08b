-- Sets of regions, put together from the lowest on.
use Rattle.std.proofs.Common.{◌≡◌, ℕ, ◌+◌, ◌*◌, ◌%◌, ◌^◌, ◌<◌, suc, cond, Bool, refl, sym, ap, ◌∙◌, arith}
use Rattle.std.specs.Int.RustNames.{bit_or}
use Rattle.std.proofs.lemmas.Nat.{or_comm, or_shifted, one_shl}
use Rattle.image_graph.specs.Pinned.{set_of}

-- a region above those of a set joins it
pub bit_joined : (set region : ℕ) → region < 64 → set < 2 ^ region → bit_or set (1 * 2 ^ region % 2 ^ 64) ≡ 1 * 2 ^ region + set
bit_joined set region region_below set_small =
    let mask : 1 * 2 ^ region % 2 ^ 64 ≡ 1 * 2 ^ region = one_shl region 64 region_below ∙ once (2 ^ region) in
    ap (bit_or set) mask ∙ or_comm set (1 * 2 ^ region) ∙ or_shifted 1 region set set_small
  where
    once : (y : ℕ) → y ≡ 1 * y
    once y = omega arith

-- no region yet, and one more
pub set_none : (test : ℕ → Bool) → 0 ≡ set_of test 0
unfolding set_of
set_none test = refl

set_suc : (test : ℕ → Bool) (n : ℕ) → set_of test (suc n) ≡ cond (test n) 1 0 * 2 ^ n + set_of test n
unfolding set_of
set_suc test n = refl

pub set_more : (test : ℕ → Bool) (n : ℕ) → cond (test n) 1 0 * 2 ^ n + set_of test n ≡ set_of test (n + 1)
set_more test n = let same_successor : suc n ≡ n + 1 = omega arith in sym (set_suc test n) ∙ ap (set_of test) same_successor
