-- Tables that have the same words from the image on have the same heap, roots and pin slots.
use Rattle.std.proofs.Common.{◌≡◌, ℕ, zero, suc, ◌+◌, ◌-◌, ◌*◌, ◌≤◌, List, [], ◌∷◌, take, drop, Option, refl, sym, ap, ◌∙◌, subst, arith}
use Rattle.std.specs.Prelude.{slice_range}
use Rattle.std.proofs.Math.Logic.{∥∥₁_map}
use Rattle.heap_words.specs.declared.config.Config.{Config}
use Rattle.heap_words.specs.Words.{image_start, heap_size, heap_start, roots_start, pins_start, heap_in, roots_in, pins_in}
use Rattle.shen_graph.specs.declared.name.Name.{Name}
use Rattle.shen_graph.specs.Graph.{Graph}
use Rattle.shen_graph.specs.GraphText.{Text}
use Rattle.heap_world.specs.Shows.{WordsStand}
use Rattle.image_graph.specs.Left.{StandsForSome, ShowsTheGraph}

drop_nothing : (count : ℕ) → drop {A = ℕ} count [] ≡ []
drop_nothing zero = refl
drop_nothing (suc count) = refl

-- so many are left out in two turns
drop_past : (first_count second_count : ℕ) (xs : List ℕ) → drop (first_count + second_count) xs ≡ drop second_count (drop first_count xs)
drop_past zero second_count xs = ap (λ count. drop count xs) (omega arith)
drop_past (suc first_count) second_count [] = drop_nothing (suc first_count + second_count) ∙ sym (drop_nothing second_count)
drop_past (suc first_count) second_count (x ∷ xs) = let same_sum : suc first_count + second_count ≡ suc (first_count + second_count) = omega arith in ap (λ count. drop count (x ∷ xs)) same_sum ∙ drop_past first_count second_count xs

same_range : (start first_index last_index : ℕ) (xs other_xs : List ℕ) → start ≤ first_index → drop start xs ≡ drop start other_xs → slice_range xs first_index last_index ≡ slice_range other_xs first_index last_index
same_range start first_index last_index xs other_xs start_below same_rest =
    let index_parts : first_index ≡ start + (first_index - start) = omega (arith, start_below) in
    let same_begin : drop first_index xs ≡ drop first_index other_xs =
    ap (λ count. drop count xs) index_parts ∙ drop_past start (first_index - start) xs ∙ ap (drop (first_index - start)) same_rest ∙ sym (drop_past start (first_index - start) other_xs) ∙ ap (λ count. drop count other_xs) (sym index_parts) in
    ap (take (last_index - first_index)) same_begin

module _ (config : Config) (changed_words image_words : List ℕ) (same_image : drop (image_start config) changed_words ≡ drop (image_start config) image_words) where
  same_heap : heap_in config changed_words ≡ heap_in config image_words
  same_heap = same_range (image_start config) (heap_start config) (heap_start config + heap_size config) changed_words image_words (omega arith) same_image

  same_roots : roots_in config changed_words ≡ roots_in config image_words
  same_roots = same_range (image_start config) (roots_start config) (roots_start config + 16 * config.mutators) changed_words image_words (omega arith) same_image

  same_pins : pins_in config changed_words ≡ pins_in config image_words
  same_pins = same_range (image_start config) (pins_start config) (pins_start config + 4 * config.mutators) changed_words image_words (omega arith) same_image

  stands_either : (stand_words : List ℕ) (naming : ℕ → Option Name) (graph : Graph) → heap_in config stand_words ≡ heap_in config changed_words → roots_in config stand_words ≡ roots_in config changed_words → pins_in config stand_words ≡ pins_in config changed_words
      → WordsStand config.region_words (heap_in config stand_words) (roots_in config stand_words) (pins_in config stand_words) naming graph → WordsStand config.region_words (heap_in config changed_words) (roots_in config changed_words) (pins_in config changed_words) naming graph
  stands_either stand_words naming graph heap roots pins stands =
      subst (λ heap. WordsStand config.region_words heap (roots_in config changed_words) (pins_in config changed_words) naming graph) heap
      (subst (λ roots. WordsStand config.region_words (heap_in config stand_words) roots (pins_in config changed_words) naming graph) roots (subst (λ pins. WordsStand config.region_words (heap_in config stand_words) (roots_in config stand_words) pins naming graph) pins stands))

  pub stands_same : StandsForSome config image_words → StandsForSome config changed_words
  stands_same stands_some = ∥∥₁_map stands_some (λ some_stand. (some_stand.0, (some_stand.1.0, stands_either image_words some_stand.0 some_stand.1.0 (sym same_heap) (sym same_roots) (sym same_pins) some_stand.1.1)))

  pub shows_same : (text : Text) → ShowsTheGraph config changed_words text → ShowsTheGraph config image_words text
  shows_same text shows naming graph stands = shows naming graph (stands_either image_words naming graph (sym same_heap) (sym same_roots) (sym same_pins) stands)
