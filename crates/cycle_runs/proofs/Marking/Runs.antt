-- What the theorem of the steps says of marking.
use Rattle.heap_words.specs.Phases.{marking_phase}
use Rattle.std.proofs.Common.{◌≡◌, ℕ, ◌+◌, ◌≤◌, Bool, true, false, List, [], ◌∷◌, ◌++◌, length, replicate, Some, refl, sym, ap, ◌∙◌, subst, arith}
use Rattle.std.specs.Prelude.{◌-◌, ◌&&◌, nat_le, nat_lt, slice_get, slice_index, if◌then◌else◌}
use Rattle.std.proofs.Math.Logic.{∥∥₁_elim}
use Rattle.std.proofs.lemmas.Bool.{and_parts, ltb-true, le-ltb}
use Rattle.std.proofs.lemmas.Grind.{same_number_lists}
use Rattle.std.proofs.lemmas.List.{append-nil, length-append}
use Rattle.heap_words.specs.declared.config.Config.{Config}
use Rattle.heap_words.specs.Words.{Phase, heap_size}
use Rattle.heap_words.proofs.Runs.{reached_has}
use Rattle.heap_world.specs.Represents.{Represents}
use Rattle.shen_graph.specs.declared.order.Order.TheVariants.{Nothing}
use Rattle.heap_world.specs.Change.{image_view, image_words}
use Rattle.cycle_words.specs.Marking.Close.{closed}
use Rattle.cycle_steps.proofs.Chained.{marking_comes}
use Rattle.cycle_pauses.specs.Collect.{collect_image}
use Rattle.cycle_pauses.proofs.Marking.WhileMarking.{reachable_are_marked}
use Rattle.cycle_pauses.proofs.Brief.ByParts.{collect_pauses_by_parts}
use Rattle.collector_rows.specs.declared.extent.Extent.{Extent}
use Rattle.collector_rows.specs.declared.extent.Extent.TheVariants.{Whole, OffHeap, Ahead}
use Rattle.collector_rows.specs.Extent.{is_wide, is_of_extent, heap_index, roots_index, next_loaded, says_room, extent_after, extent_by}
use Rattle.collector_rows.specs.ControlRows.{loaded_all}
use Rattle.collector_rows.specs.declared.control_spot.ControlSpot.{ControlSpot}
use Rattle.collector_rows.specs.declared.control_spot.ControlSpot.TheVariants.{LoadWord}
use Rattle.step_core.specs.Actor.{Machine, controlling}
use Rattle.step_core.specs.Fit.{IsWholeImage}
use Rattle.step_core.specs.Machines.{IsFitFor, kind}
use Rattle.step_core.specs.Pausing.{IsAim}
use Rattle.step_core.proofs.Control.Images.{image_reads}
use Rattle.step_core.proofs.Theorem.EveryList.{found_fit, every_run, run_aims}
use Rattle.cycle_runs.specs.Marking.Runs.{AreMarkedThrough, MarkingComesInRuns, ReachableAreMarkedInRuns}

pub marking_comes_in_runs : MarkingComesInRuns
marking_comes_in_runs config stage graph begins events = let run_stands = (every_run collect_image collect_pauses_by_parts config stage graph begins events).stands in record {
  stands = run_stands;
  comes = λ is_marking address address_loaded. marking_comes config _ run_stands.shared is_marking address address_loaded;
}

-- in phase 1 a pause is of all of the image
whole_in_marking : (config : Config) (image : List ℕ) → extent_by config 1 image ≡ Whole
whole_in_marking config image = by_wide (is_wide config) (says_room 1 3 (slice_index image 3)) (says_room 1 5 (slice_index image 5))
  where
    by_wide : (holds evac ask : Bool) → (if ask then Whole else (if evac then Whole else (if holds then Whole else Whole))) ≡ Whole
    by_wide holds evac true = refl
    by_wide holds true false = refl
    by_wide true false false = refl
    by_wide false false false = refl

-- behind the last word of the image none is loaded
none_behind : (config : Config) (extent : Extent) (index : ℕ) → index + 1 ≡ image_words config → image_words config ≤ next_loaded config extent index
none_behind config Whole index last_index = omega (arith, last_index)
none_behind config OffHeap index last_index = by_test (nat_le (heap_index config) (index + 1) && nat_lt (index + 1) (heap_index config + heap_size config)) refl
  where
    by_test : (holds : Bool) → (nat_le (heap_index config) (index + 1) && nat_lt (index + 1) (heap_index config + heap_size config)) ≡ holds → image_words config ≤ (if holds then heap_index config + heap_size config else index + 1)
    by_test true heap_test = absurd (let index_within = ltb-true (index + 1) (heap_index config + heap_size config) (and_parts (nat_le (heap_index config) (index + 1)) _ heap_test).1 in omega (arith, index_within, last_index))
    by_test false heap_test = omega (arith, last_index)
none_behind config Ahead index last_index = by_test (nat_lt (index + 1) (roots_index config))
  where
    by_test : (holds : Bool) → image_words config ≤ (if holds then index + 1 else image_words config)
    by_test true = omega (arith, last_index)
    by_test false = omega arith

-- with the last word of an image in phase 1 it is whole
module _ (config : Config) (phase index got : ℕ) (extent : Extent) (image : List ℕ) (last_index : index + 1 ≡ image_words config) (image_before : length image ≡ index) (is_marking : image_view config (image ++ got ∷ []) Phase ≡ marking_phase) where
  abbrev loaded : List ℕ
  loaded = image ++ got ∷ []

  loaded_long : length loaded ≡ image_words config
  loaded_long = (let longer = length-append image (got ∷ []) in omega (arith, longer, image_before, last_index))

  all_loaded : loaded_all config image got ≡ loaded
  all_loaded = (let none_missing : image_words config - length loaded ≡ 0 = omega (arith, loaded_long) in ap (λ missing. loaded ++ replicate missing 0) none_missing ∙ append-nil loaded)

  first_word : slice_index loaded 0 ≡ 1
  first_word = sym (image_reads config loaded Phase refl refl ∙ ap (λ index. slice_index loaded index) (omega arith)) ∙ is_marking

  whole_at : IsWholeImage config phase (LoadWord index extent) image got → ∥ AreMarkedThrough config (closed config (image_view config loaded)) ∥₁
  whole_at whole_image =
      let prop : IsProp (∥ AreMarkedThrough config (closed config (image_view config loaded)) ∥₁) = hlevel in
      ∥∥₁_elim (whole_image (le-ltb _ _ (none_behind config (extent_after phase index extent got) index last_index))) prop (λ image_facts.
      let whole_extent : extent_after phase index extent got ≡ Whole =
      image_facts.5 ∙ ap (λ xs. extent_by config (slice_index xs 0) xs) all_loaded ∙ ap (λ phase_word. extent_by config phase_word loaded) first_word ∙ whole_in_marking config loaded in
      let same_image : loaded ≡ image_facts.0 = same_number_lists loaded image_facts.0 (loaded_long ∙ sym image_facts.3)
      (λ place place_below.
      ap (λ xs. slice_index xs place) (sym all_loaded)
      ∙ subst (λ any_extent. slice_index (loaded_all config image got) place ≡ (if is_of_extent config any_extent place then slice_index image_facts.0 place else 0)) whole_extent (image_facts.4 place (omega (arith, place_below, loaded_long)))) in
      let reachable_marked = reachable_are_marked config (image_view config loaded) image_facts.1 image_facts.2 (subst (λ xs. Represents config (image_view config xs) image_facts.1 image_facts.2) (sym same_image) image_facts.6) is_marking in
      ∣ record { block = reachable_marked.0; owner = reachable_marked.1; promises = reachable_marked.2; graph = image_facts.1; holds = reachable_marked.3; marked = reachable_marked.4 } ∣₁)

pub reachable_are_marked_in_runs : ReachableAreMarkedInRuns
unfolding kind
reachable_are_marked_in_runs config stage graph begins number index got extent actor control finds control_is spot_is last_index is_marking =
    let image_fits : IsFitFor config Nothing got (controlling control) = subst (λ (machine : Machine). IsFitFor config Nothing got machine) control_is (found_fit collect_image collect_pauses_by_parts config stage graph begins number actor Nothing got finds) in
    let aims : IsAim config finds.stage.words control.spot control.image =
    reached_has (kind collect_image config) (λ reached_stage. slice_get reached_stage.machines number ≡ Some actor → IsAim config reached_stage.words control.spot control.image) stage finds.stage
    (λ events machine_there. (run_aims collect_image collect_pauses_by_parts config stage graph begins events number actor control machine_there control_is).1) finds.reached finds.here in
    whole_at config control.phase index got extent control.image last_index (subst (λ spot. IsAim config finds.stage.words spot control.image) spot_is aims).0 is_marking (subst (λ (spot : ControlSpot). IsWholeImage config control.phase spot control.image got) spot_is image_fits.0)
