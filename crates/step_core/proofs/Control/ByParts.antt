-- What the control has loaded of the image once one word more is loaded, and what of all of it once the last one is.
use Rattle.std.proofs.Common.{◌≡◌, ℕ, ◌+◌, ◌<◌, ◌≤◌, true, List, [], ◌∷◌, ◌++◌, length, ⊎_elim, sym, ap, ◌∙◌, subst, arith}
use Rattle.std.specs.Prelude.{slice_index, if◌then◌else◌}
use Rattle.std.proofs.lemmas.Bool.{cases_lt, cond-true}
use Rattle.std.proofs.lemmas.List.{length-append}
use Rattle.heap_words.specs.declared.config.Config.{Config}
use Rattle.heap_words.specs.Words.{Phase, image_start, view}
use Rattle.heap_words.proofs.Stores.{view_word}
use Rattle.heap_world.specs.Change.{image_words}
use Rattle.collector_rows.specs.declared.extent.Extent.{Extent}
use Rattle.collector_rows.specs.Extent.{is_of_extent, next_loaded, extent_after, extent_by, padded}
use Rattle.collector_rows.specs.ByParts.{IsImagePart}
use Rattle.collector_rows.specs.ControlRows.{loaded_on, loaded_all}
use Rattle.collector_rows.proofs.Extents.{early, IsNext, next_is, padded_reads, padded_long, same_extent, extent_on, changes_early}
use Rattle.step_core.proofs.Machines.Owed.{AreLoaded}
use Rattle.step_core.proofs.Control.Images.{image_grows, loaded_early, loaded_padded, image_in, image_in_reads}

-- a list with one more at its end
pub length-snoc : (xs : List ℕ) (x : ℕ) → length (xs ++ x ∷ []) ≡ length xs + 1
length-snoc xs x = length-append xs (x ∷ [])

module _ (config : Config) (words : List ℕ) (phase : ℕ) (extent : Extent) (image : List ℕ) (index : ℕ) (below : index < image_words config) (image_length : length image ≡ index) (loaded : AreLoaded config words extent image index) (in_extent : is_of_extent config extent index ≡ true)
    (extent_is : extent ≡ extent_by config phase image) where
  -- the word that is loaded, and the extent then
  abbrev got : ℕ
  got = slice_index words (image_start config + index)

  abbrev pub extent_then : Extent
  extent_then = extent_after phase index extent got

  abbrev more : List ℕ
  more = image ++ got ∷ []

  more_long : length more ≡ index + 1
  more_long = length-snoc image got ∙ ap (λ count. count + 1) image_length

  -- it is that of the words loaded
  then_is : extent_then ≡ extent_by config phase more
  then_is = ap (λ extent. extent_after phase index extent got) extent_is ∙ sym (extent_on config phase image index got image_length)

  padded_extent : (n : ℕ) → extent_then ≡ extent_by config phase (padded n more)
  padded_extent n = then_is ∙ sym (same_extent config phase (padded n more) more (padded_reads n more 3) (padded_reads n more 5))

  -- the words loaded are of it
  more_loaded : AreLoaded config words extent_then more (index + 1)
  more_loaded =
      let grown = image_grows config words extent image index image_length loaded in_extent in
      ⊎_elim
      (λ (index_first : index < 6). loaded_early config words extent extent_then more (index + 1) (omega (arith, index_first)) grown)
      (λ (late : 6 ≤ index). subst (λ any_extent. AreLoaded config words any_extent more (index + 1)) (sym (changes_early phase index extent got late)) grown)
      (cases_lt index 6)

  -- the word that is loaded next
  abbrev pub next : ℕ
  next = next_loaded config extent_then index

  pub goes_next : IsNext config extent_then index next
  goes_next = next_is config extent_then index below

  -- where there is one
  pub next_long : length (loaded_on next image got) ≡ next
  next_long = padded_long next more (let after = goes_next.above in let longer = more_long in omega (arith, after, longer))

  pub next_words : AreLoaded config words extent_then (loaded_on next image got) next
  next_words = loaded_padded config words extent_then more (index + 1) next more_long more_loaded (λ earlier_index from index_before. goes_next.between earlier_index (omega (arith, from)) index_before)

  pub next_extent : extent_then ≡ extent_by config phase (loaded_on next image got)
  next_extent = padded_extent next

  -- where there is none
  module _ (all_loaded : image_words config ≤ next) (phase_is : phase ≡ view config words Phase) where
    abbrev part : List ℕ
    part = loaded_all config image got

    pub part_long : length part ≡ image_words config
    part_long = padded_long (image_words config) more (let longer = more_long in omega (arith, below, longer))

    part_words : AreLoaded config words extent_then part (image_words config)
    part_words = loaded_padded config words extent_then more (index + 1) (image_words config) more_long more_loaded (λ earlier_index from index_before. goes_next.between earlier_index (omega (arith, from)) (omega (arith, index_before, all_loaded)))

    pub part_of : IsImagePart config extent_then (image_in config words) part
    part_of word_index index_below = part_words word_index index_below ∙ ap (λ value. if is_of_extent config extent_then word_index then value else 0) (sym (image_in_reads config words word_index))

    first_word : slice_index part 0 ≡ phase
    first_word =
        part_words 0 (omega (arith, below)) ∙ cond-true (is_of_extent config extent_then 0) _ _ (early config extent_then 0 (omega arith))
        ∙ ap (λ index. slice_index words index) (omega arith) ∙ sym (view_word config words Phase tt) ∙ sym phase_is

    pub part_extent : extent_then ≡ extent_by config (slice_index part 0) part
    part_extent = padded_extent (image_words config) ∙ ap (λ phase_read. extent_by config phase_read part) (sym first_word)
