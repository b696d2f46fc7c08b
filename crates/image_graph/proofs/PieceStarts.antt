-- Objects, and words that only fill, that stand one after another from the base of a region on: where the one begins that has a word.
use Rattle.std.proofs.Common.{◌≡◌, ◌≢◌, ℕ, ◌+◌, ◌==◌, cond, suc, refl, ◌∙◌}
use Rattle.std.proofs.lemmas.Bool.{cond-true, cond-false, eq-eqb, ne_eqb}
use Rattle.regions.specs.Walk.{stride_at, start_of}

module _ (heap : ℕ → ℕ) (base : ℕ) where
  abbrev start : ℕ → ℕ
  start = start_of heap base

  -- how many words stand as one from a distance on
  abbrev long : ℕ → ℕ
  long distance = stride_at heap (base + distance)

  pub start_first : start_of heap base 0 ≡ 0
  unfolding start_of
  start_first = refl

  more : (distance : ℕ) → start_of heap base (suc distance) ≡ cond (start_of heap base distance + long (start_of heap base distance) == suc distance) (suc distance) (start_of heap base distance)
  unfolding start_of
  more distance = refl

  pub start_ends : (distance : ℕ) → start distance + long (start distance) ≡ suc distance → start (suc distance) ≡ suc distance
  start_ends distance piece_ends = more distance ∙ cond-true (start distance + long (start distance) == suc distance) (suc distance) (start distance) (eq-eqb (start distance + long (start distance)) (suc distance) piece_ends)

  pub start_goes_on : (distance : ℕ) → start distance + long (start distance) ≢ suc distance → start (suc distance) ≡ start distance
  start_goes_on distance piece_goes_on = more distance ∙ cond-false (start distance + long (start distance) == suc distance) (suc distance) (start distance) (ne_eqb (start distance + long (start distance)) (suc distance) piece_goes_on)
