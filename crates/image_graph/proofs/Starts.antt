-- Objects, and words that only fill, that stand one after another: where the one begins that has the word at a distance.
use Rattle.std.proofs.Common.{◌≡◌, ◌≢◌, ℕ, ◌+◌, ◌-◌, ◌<◌, ◌≤◌, ◌==◌, cond, zero, suc, refl, sym, ap, ◌∙◌, ⊎_elim, arith}
use Rattle.std.proofs.lemmas.Bool.{cases_eq}
use Rattle.regions.specs.Walk.{stride_at, start_of}
use Rattle.image_graph.proofs.PieceStarts.{start_first, start_ends, start_goes_on}

module _ (heap : ℕ → ℕ) (base : ℕ) where
  -- how many words stand as one from a distance on
  abbrev pub words : ℕ → ℕ
  words offset = stride_at heap (base + offset)

  abbrev start : ℕ → ℕ
  start = start_of heap base

  more : (distance : ℕ) → start_of heap base (suc distance) ≡ cond (start_of heap base distance + words (start_of heap base distance) == suc distance) (suc distance) (start_of heap base distance)
  unfolding start_of
  more distance = refl

  -- a word lies in the object that has it
  pub from : (distance : ℕ) → start distance ≤ distance
  from zero = omega (arith, start_first heap base)
  from (suc distance) = ⊎_elim
      (λ (ends_here : start distance + words (start distance) ≡ suc distance). omega (arith, start_ends heap base distance ends_here))
      (λ (goes_on : start distance + words (start distance) ≢ suc distance). omega (arith, start_goes_on heap base distance goes_on, from distance))
      (cases_eq (start distance + words (start distance)) (suc distance))

  -- the object begins where it begins
  pub begins : (distance : ℕ) → start (start distance) ≡ start distance
  begins zero = ap start (start_first heap base)
  begins (suc distance) = ⊎_elim
      (λ (ends_here : start distance + words (start distance) ≡ suc distance). ap start (start_ends heap base distance ends_here))
      (λ (goes_on : start distance + words (start distance) ≢ suc distance). ap start (start_goes_on heap base distance goes_on) ∙ begins distance ∙ sym (start_goes_on heap base distance goes_on))
      (cases_eq (start distance + words (start distance)) (suc distance))

  -- each word of an object is one of the object
  pub starts_within : (distance step : ℕ) → start distance ≡ distance → step < words distance → start (distance + step) ≡ distance
  starts_within distance zero distance_begun step_below = let no_step : distance + zero ≡ distance = omega arith in ap start no_step ∙ distance_begun
  starts_within distance (suc step) distance_begun step_below =
      let same_start : start (distance + step) ≡ distance = starts_within distance step distance_begun (omega (arith, step_below)) in
      let next_step : distance + suc step ≡ suc (distance + step) = omega arith in
      let same_words : words (start (distance + step)) ≡ words distance = ap words same_start in
      ap start next_step ∙ start_goes_on heap base (distance + step) (λ ends. omega (arith, ends, same_start, same_words, step_below)) ∙ same_start

  -- an object ends at a distance, or it does not
  pub next_ends : (distance : ℕ) → base + start (distance - 1) + words (start (distance - 1)) ≡ base + distance → start distance ≡ distance
  next_ends zero ends_here = start_first heap base
  next_ends (suc last_distance) ends_here =
      let one_back : suc last_distance - 1 ≡ last_distance = omega arith in
      start_ends heap base last_distance (omega (arith, ends_here, ap start one_back, ap (λ distance. words (start distance)) one_back))

  pub next_goes_on : (distance : ℕ) → base + start (distance - 1) + words (start (distance - 1)) ≢ base + distance → start distance ≡ start (distance - 1)
  next_goes_on zero goes_on = (let one_back : 0 ≡ 0 - 1 = omega arith in ap start one_back)
  next_goes_on (suc last_distance) goes_on =
      let one_back : suc last_distance - 1 ≡ last_distance = omega arith in
      start_goes_on heap base last_distance (λ ends. goes_on (omega (arith, ends, ap start one_back, ap (λ distance. words (start distance)) one_back))) ∙ ap start (sym one_back)

-- They begin at the same places where they are as long.
pub same_starts : (heap other_heap : ℕ → ℕ) (base top : ℕ)
    → ((object_start : ℕ) → start_of heap base object_start ≡ object_start → object_start < top → stride_at other_heap (base + object_start) ≡ stride_at heap (base + object_start)) → (distance : ℕ) → distance < top → start_of other_heap base distance ≡ start_of heap base distance
same_starts heap other_heap base top same_stride zero distance_below = start_first other_heap base ∙ sym (start_first heap base)
same_starts heap other_heap base top same_stride (suc distance) distance_below =
    let current_start = start_of heap base distance in
    let start_same = same_starts heap other_heap base top same_stride distance (omega (arith, distance_below)) in
    let stride_same = same_stride current_start (begins heap base distance) (omega (arith, from heap base distance, distance_below)) in
    more other_heap base distance
    ∙ ap (λ object_start. cond (object_start + stride_at other_heap (base + object_start) == suc distance) (suc distance) object_start) start_same
    ∙ ap (λ stride. cond (current_start + stride == suc distance) (suc distance) current_start) stride_same
    ∙ sym (more heap base distance)
