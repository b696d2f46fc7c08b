-- Where the control stands next, and what it sees there.
use Rattle.heap_words.specs.Phases.{idle_phase}
use Rattle.std.proofs.Common.{◌≡◌, ℕ, ◌+◌, ◌<◌, Bool, true, false, List, [], length, set, take, Option, Some, None, ⊎_elim, refl, sym, ap, ◌∙◌, subst, arith}
use Rattle.std.specs.Prelude.{◌==◌, not, nat_lt, if◌then◌else◌, slice_index}
use Rattle.std.proofs.lemmas.Bool.{cases_Bool, cond-true, cond-false, lt-ltb, ltb-true, eq-eqb, or_cases, or_left, false≢true}
use Rattle.std.proofs.lemmas.List.{set-get_or}
use Rattle.heap_words.specs.declared.config.Config.{Config}
use Rattle.heap_words.specs.declared.access.Access.TheVariants.{Store}
use Rattle.heap_words.specs.declared.access.Unit.TheVariants.{Worked, NoneLeft}
use Rattle.heap_words.specs.Access.{table_index}
use Rattle.heap_words.specs.Words.{image_start}
use Rattle.heap_words.specs.Steps.{accessed}
use Rattle.handshake.specs.declared.stop_spot.StopSpot.{StopSpot}
use Rattle.handshake.specs.declared.stop_spot.StopSpot.TheVariants as stop
use Rattle.unit_part.specs.declared.spot.UnitSpot.{UnitSpot}
use Rattle.unit_part.specs.declared.spot.UnitSpot.TheVariants.{Ended}
use Rattle.heap_world.specs.Walk.{has}
use Rattle.heap_world.specs.Change.{Change, image_words}
use Rattle.collector_rows.specs.declared.extent.Extent.{Extent}
use Rattle.collector_rows.specs.declared.extent.Extent.TheVariants.{Whole}
use Rattle.collector_rows.specs.Extent.{is_of_extent, extent_after, says_room, first_extent, next_loaded, counts, next_stored}
use Rattle.collector_rows.specs.declared.control_spot.ControlSpot.{ControlSpot}
use Rattle.collector_rows.specs.declared.control_spot.ControlSpot.TheVariants.{LookLeft, StoreEnd, LookAsked, LookFree, Working, Stopping, LoadWord, StoreWord, Go, Gone}
use Rattle.collector_rows.specs.ControlReady.{is_ready}
use Rattle.collector_rows.specs.ControlRows.{Controlling, takes_hint, hinted_by, control_hinted, access_with, word_stored, control_access, after_unit, stopping, begins_pause, unasked, wants_pause, after_load, after_store, next_spot, stored_next, control_next, next_image, next_seen, next_phase, next_set}
use Rattle.handshake.specs.StopRows.{next_at as stop_next}
use Rattle.unit_part.specs.Rows as units
use Rattle.collector_rows.proofs.Extents.{early, next_is, stored_next_is, stored_next_one}
use Rattle.control.specs.Image.{is_seen, image_shown, words_seen, SeesOwn, IsLoadedFrom}
use Rattle.control.proofs.PartShown.{made_reads}
use Rattle.control.proofs.Loaded.{goes_on, stays}

-- a word of the new image that counts is seen
counted_is_seen : (config : Config) (extent : Extent) (starts image : List ℕ) (index : ℕ) → counts config extent (image_shown config extent starts image) index ≡ true → is_seen config extent starts index ≡ true
counted_is_seen config extent starts image index counted = ⊎_elim
    (λ (seen_there : is_seen config extent starts index ≡ true). seen_there)
    (λ (not_seen : is_seen config extent starts index ≡ false). ⊎_elim
    (λ (of_extent : is_of_extent config extent index ≡ true). or_left (is_of_extent config extent index) (has starts index) of_extent)
    (λ (not_zero : not (slice_index (image_shown config extent starts image) index == 0) ≡ true).
    absurd (false≢true (sym (ap not (eq-eqb (slice_index (image_shown config extent starts image) index) 0 (made_reads config extent starts image index ∙ cond-false (is_seen config extent starts index) (slice_index image index) 0 not_seen))) ∙ not_zero)))
    (or_cases (is_of_extent config extent index) (not (slice_index (image_shown config extent starts image) index == 0)) counted))
    (cases_Bool (is_seen config extent starts index))

module _ (config : Config) (starts : List ℕ) where
  -- of two spots, whichever
  either_own : (holds : Bool) (spot other_spot : ControlSpot) → (holds ≡ true → SeesOwn config spot starts) → (holds ≡ false → SeesOwn config other_spot starts) → SeesOwn config (if holds then spot else other_spot) starts
  either_own true spot other_spot first_own second_own = first_own refl
  either_own false spot other_spot first_own second_own = second_own refl

  unit_own : (spot : UnitSpot) → SeesOwn config (after_unit spot) starts
  unit_own (Ended Worked) = refl
  unit_own (Ended NoneLeft) = refl
  unit_own _ = refl

  stopping_own : (phase : ℕ) (spot : StopSpot) → SeesOwn config (stopping config phase spot) starts
  stopping_own phase stop.Stopped = early config (first_extent config phase) 0 (omega arith)
  stopping_own phase _ = refl

  pub load_own : (extent : Extent) (index : ℕ) → index < image_words config → SeesOwn config (after_load config extent index) starts
  load_own extent index index_within =
      either_own (nat_lt (next_loaded config extent index) (image_words config)) (LoadWord (next_loaded config extent index) extent) (StoreWord 0 extent)
      (λ next_there. (next_is config extent index index_within).here (ltb-true (next_loaded config extent index) (image_words config) next_there))
      (λ none_next. or_left (is_of_extent config extent 0) (has starts 0) (early config extent 0 (omega arith)))

  store_own : (extent : Extent) (image : List ℕ) (index next_index : ℕ) → index < image_words config → next_index ≡ next_stored config extent (image_shown config extent starts image) index → SeesOwn config (after_store config extent next_index) starts
  store_own extent image index next_index index_within is_next =
      either_own (nat_lt next_index (image_words config)) (StoreWord next_index extent) Go
      (λ next_there. counted_is_seen config extent starts image next_index
      (subst (λ asked_index. counts config extent (image_shown config extent starts image) asked_index ≡ true) (sym is_next)
      ((stored_next_is config extent (image_shown config extent starts image) index index_within).here (subst (λ asked_index. asked_index < image_words config) is_next (ltb-true next_index (image_words config) next_there)))))
      (λ none_next. refl)

  -- at its next spot a control sees the word that it loads or stores: but for a word that it loads, with what it saw before
  pub next_own : (phase cset seen next_index : ℕ) (spot : ControlSpot) (got : ℕ) (image : List ℕ) → is_ready config spot ≡ true → next_index ≡ stored_next config spot (words_seen config spot starts image)
      → SeesOwn config (next_spot config phase cset seen next_index spot got) starts
  next_own phase cset seen next_index LookLeft got image ready is_next = either_own (got == 0) StoreEnd LookAsked (λ tested. refl) (λ tested. refl)
  next_own phase cset seen next_index StoreEnd got image ready is_next = refl
  next_own phase cset seen next_index LookAsked got image ready is_next =
      either_own (begins_pause phase got) (Stopping stop.Raise) (unasked phase cset) (λ tested. refl) (λ tested. either_own (phase == idle_phase) LookFree (Working (units.begins phase cset)) (λ z. refl) (λ z. refl))
  next_own phase cset seen next_index LookFree got image ready is_next = either_own (wants_pause config seen got) (Stopping stop.Raise) LookLeft (λ tested. refl) (λ tested. refl)
  next_own phase cset seen next_index (Working spot) got image ready is_next = unit_own (units.next_at config spot got)
  next_own phase cset seen next_index (Stopping spot) got image ready is_next = stopping_own phase (stop_next config spot got)
  next_own phase cset seen next_index (LoadWord index extent) got image ready is_next = load_own (extent_after phase index extent got) index (ltb-true index (image_words config) ready)
  next_own phase cset seen next_index (StoreWord index extent) got image ready is_next = store_own extent image index next_index (ltb-true index (image_words config) ready) is_next
  next_own phase cset seen next_index Go got image ready is_next = refl
  next_own phase cset seen next_index Gone got image ready is_next = refl

  -- what it sees there: but for a word that it loads, what the row says
  either_seen : (holds : Bool) (spot other_spot : ControlSpot) (image expected_words : List ℕ) → (holds ≡ true → words_seen config spot starts image ≡ expected_words) → (holds ≡ false → words_seen config other_spot starts image ≡ expected_words)
      → words_seen config (if holds then spot else other_spot) starts image ≡ expected_words
  either_seen true spot other_spot image expected_words first_seen second_seen = first_seen refl
  either_seen false spot other_spot image expected_words first_seen second_seen = second_seen refl

  unit_seen : (spot : UnitSpot) (image : List ℕ) → words_seen config (after_unit spot) starts image ≡ []
  unit_seen (Ended Worked) image = refl
  unit_seen (Ended NoneLeft) image = refl
  unit_seen _ image = refl

  stopping_seen : (phase : ℕ) (spot : StopSpot) (image : List ℕ) → words_seen config (stopping config phase spot) starts image ≡ []
  stopping_seen phase stop.Stopped image = refl
  stopping_seen phase _ image = refl

  store_seen : (holds : Bool) (extent : Extent) (next_index : ℕ) (image : List ℕ) → words_seen config (if holds then StoreWord next_index extent else Go) starts image ≡ (if holds then image_shown config extent starts image else [])
  store_seen true extent next_index image = refl
  store_seen false extent next_index image = refl

  pub others_seen : (change : Change) (phase cset seen next_index : ℕ) (spot : ControlSpot) (got : ℕ) (image : List ℕ) → ((index : ℕ) (extent : Extent) → spot ≡ LoadWord index extent → ⊥)
      → next_index ≡ stored_next config spot (words_seen config spot starts image) → words_seen config (next_spot config phase cset seen next_index spot got) starts image ≡ next_image change config spot (words_seen config spot starts image) phase got
  others_seen change phase cset seen next_index LookLeft got image not_load is_next = either_seen (got == 0) StoreEnd LookAsked image [] (λ tested. refl) (λ tested. refl)
  others_seen change phase cset seen next_index StoreEnd got image not_load is_next = refl
  others_seen change phase cset seen next_index LookAsked got image not_load is_next =
      either_seen (begins_pause phase got) (Stopping stop.Raise) (unasked phase cset) image [] (λ tested. refl)
      (λ tested. either_seen (phase == idle_phase) LookFree (Working (units.begins phase cset)) image [] (λ z. refl) (λ z. refl))
  others_seen change phase cset seen next_index LookFree got image not_load is_next = either_seen (wants_pause config seen got) (Stopping stop.Raise) LookLeft image [] (λ tested. refl) (λ tested. refl)
  others_seen change phase cset seen next_index (Working spot) got image not_load is_next = unit_seen (units.next_at config spot got) image
  others_seen change phase cset seen next_index (Stopping spot) got image not_load is_next = stopping_seen phase (stop_next config spot got) image
  others_seen change phase cset seen next_index (LoadWord index extent) got image not_load is_next = absurd (not_load index extent refl)
  others_seen change phase cset seen next_index (StoreWord index extent) got image not_load is_next =
      store_seen (nat_lt next_index (image_words config)) extent next_index image ∙ ap (λ asked_index. if nat_lt asked_index (image_words config) then image_shown config extent starts image else []) is_next
  others_seen change phase cset seen next_index Go got image not_load is_next = refl
  others_seen change phase cset seen next_index Gone got image not_load is_next = refl

  -- with a hint it works on a unit
  pub hinted_own : (address : ℕ) (spot : ControlSpot) → takes_hint spot ≡ true → SeesOwn config (hinted_by config (Some address) spot) starts
  hinted_own address (Working spot) takes = refl
  hinted_own address _ takes = absurd (false≢true takes)

  -- what was loaded of a table is what all of the table shows of that
  pub loaded_same : (table image : List ℕ) (spot : ControlSpot) → IsLoadedFrom config table spot (words_seen config spot starts image) → words_seen config spot starts table ≡ words_seen config spot starts image
  loaded_same table image (LoadWord index extent) loaded_from = sym loaded_from
  loaded_same table image (StoreWord index extent) loaded_from = absurd loaded_from
  loaded_same table image _ loaded_from = refl

-- two controls of which all is the same are one
abbrev one_of : ControlSpot → (seen phase cset : ℕ) → List ℕ → (hints : ℕ) → Controlling
one_of spot seen phase cset image hints = record { spot = spot; seen = seen; phase = phase; cset = cset; image = image; hints = hints }

same_control : (spot other_spot : ControlSpot) (seen other_seen phase other_phase cset other_cset hints : ℕ) (xs ys : List ℕ) → spot ≡ other_spot → seen ≡ other_seen → phase ≡ other_phase → cset ≡ other_cset → xs ≡ ys → one_of spot seen phase cset xs hints ≡ one_of other_spot other_seen other_phase other_cset ys hints
same_control spot other_spot seen other_seen phase other_phase cset other_cset hints xs ys spots seens phases csets images =
    ap (λ part. one_of part seen phase cset xs hints) spots ∙ ap (λ seen. one_of other_spot seen phase cset xs hints) seens ∙ ap (λ phase. one_of other_spot other_seen phase cset xs hints) phases
    ∙ ap (λ cset. one_of other_spot other_seen other_phase cset xs hints) csets ∙ ap (λ part. one_of other_spot other_seen other_phase other_cset part hints) images

-- In a pause of all of the image it goes from a word to the next one.
module _ (change : Change) (config : Config) (seen phase cset hints : ℕ) (other_image : List ℕ) (image_long : length other_image ≡ image_words config) (index got : ℕ) (more_words : index + 1 < image_words config) where
  -- whatever was found
  whole_after : extent_after phase index Whole got ≡ Whole
  whole_after = by_test (says_room phase index got)
    where
      by_test : (holds : Bool) → (if holds then Whole else Whole) ≡ Whole
      by_test true = refl
      by_test false = refl

  less : index < image_words config
  less = omega (arith, more_words)

  there : next_loaded config (extent_after phase index Whole got) index < image_words config
  there = subst (λ extent. next_loaded config extent index < image_words config) (sym whole_after) more_words

  loads : after_load config (extent_after phase index Whole got) index ≡ LoadWord (index + 1) Whole
  loads = ap (λ extent. after_load config extent index) whole_after ∙ cond-true (nat_lt (index + 1) (image_words config)) (LoadWord (index + 1) Whole) (StoreWord 0 Whole) (lt-ltb _ _ more_words)

  abbrev loading : (asked_index : ℕ) (image : List ℕ) → Controlling
  loading asked_index image = record { spot = LoadWord asked_index Whole; seen = seen; phase = phase; cset = cset; image = image; hints = hints }

  pub load_goes : loading (index + 1) (take (index + 1) (set other_image index got)) ≡ control_next change config (loading index (take index other_image)) got
  load_goes =
      same_control (LoadWord (index + 1) Whole) (after_load config (extent_after phase index Whole got) index)
      seen (next_seen change config (LoadWord index Whole) (take index other_image) seen phase got) phase (next_phase change config (LoadWord index Whole) (take index other_image) phase got)
      cset (next_set change config (LoadWord index Whole) (take index other_image) cset phase got) hints
      (take (index + 1) (set other_image index got)) (next_image change config (LoadWord index Whole) (take index other_image) phase got)
      (sym loads)
      (sym (stays change config Whole phase index got other_image image_long less refl seen _ there))
      (sym (stays change config Whole phase index got other_image image_long less refl phase _ there))
      (sym (stays change config Whole phase index got other_image image_long less refl cset _ there))
      (ap (λ spot. words_seen config spot [] (set other_image index got)) (sym loads) ∙ goes_on change config Whole phase index got other_image image_long less refl [] there)

  -- the word that is stored next is the next one
  next_is_next : next_stored config Whole other_image index ≡ index + 1
  next_is_next = stored_next_one config Whole other_image index (next_stored config Whole other_image index) (index + 1) (stored_next_is config Whole other_image index less)
      (record { above = omega arith; most = omega (arith, more_words); between = λ asked_index index_above index_below. absurd (omega (arith, index_above, index_below)); here = λ index_below. refl })

  abbrev storing : (asked_index : ℕ) → Controlling
  storing asked_index = record { spot = StoreWord asked_index Whole; seen = seen; phase = phase; cset = cset; image = other_image; hints = hints }

  pub store_goes : storing (index + 1) ≡ control_next change config (storing index) got
  store_goes =
      same_control (StoreWord (index + 1) Whole) (after_store config Whole (next_stored config Whole other_image index)) seen seen phase phase cset cset hints other_image
      (if nat_lt (next_stored config Whole other_image index) (image_words config) then other_image else [])
      (sym (ap (after_store config Whole) next_is_next ∙ cond-true (nat_lt (index + 1) (image_words config)) (StoreWord (index + 1) Whole) Go (lt-ltb _ _ more_words))) refl refl refl
      (sym (ap (λ asked_index. if nat_lt asked_index (image_words config) then other_image else []) next_is_next ∙ cond-true (nat_lt (index + 1) (image_words config)) other_image [] (lt-ltb _ _ more_words)))

  -- the same of a spot that stands so
  module _ (starts : List ℕ) (spot : ControlSpot) where
    pub loads_on : (put_image : List ℕ) → spot ≡ LoadWord index Whole → put_image ≡ set other_image index got
        → one_of (LoadWord (index + 1) Whole) seen phase cset (take (index + 1) put_image) hints ≡ control_next change config (one_of spot seen phase cset (words_seen config spot starts other_image) hints) got
    loads_on put_image at_load image_put =
        ap (λ zs. one_of (LoadWord (index + 1) Whole) seen phase cset (take (index + 1) zs) hints) image_put ∙ load_goes
        ∙ ap (λ asked_spot. control_next change config (one_of asked_spot seen phase cset (words_seen config asked_spot starts other_image) hints) got) (sym at_load)

    pub stores_on : spot ≡ StoreWord index Whole → one_of (StoreWord (index + 1) Whole) seen phase cset other_image hints ≡ control_next change config (one_of spot seen phase cset (words_seen config spot starts other_image) hints) got
    stores_on at_store = store_goes ∙ ap (λ asked_spot. control_next change config (one_of asked_spot seen phase cset (words_seen config asked_spot starts other_image) hints) got) (sym at_store)

-- The access of a spot that stores a word of the new image, with a hint or without one.
module _ (config : Config) (index : ℕ) (extent : Extent) where
  -- who takes a hint stores none
  pub unhinted : (hint : Option ℕ) (spot : ControlSpot) → hinted_by config hint spot ≡ StoreWord index extent → spot ≡ StoreWord index extent
  unhinted hint (Working spot) hinted_store = absurd cc
  unhinted hint LookLeft hinted_store = hinted_store
  unhinted hint StoreEnd hinted_store = hinted_store
  unhinted hint LookAsked hinted_store = hinted_store
  unhinted hint LookFree hinted_store = hinted_store
  unhinted hint (Stopping spot) hinted_store = hinted_store
  unhinted hint (LoadWord word_index word_extent) hinted_store = hinted_store
  unhinted hint (StoreWord word_index word_extent) hinted_store = hinted_store
  unhinted hint Go hinted_store = hinted_store
  unhinted hint Gone hinted_store = hinted_store

  access_is : (spot : ControlSpot) (image : List ℕ) (value : ℕ) → spot ≡ StoreWord index extent → value ≡ slice_index image index → Store (image_start config + index) value ≡ access_with config spot (word_stored spot image)
  access_is spot image value at_store read =
      subst (λ asked_spot. Store (image_start config + index) value ≡ access_with config asked_spot (word_stored asked_spot image)) (sym at_store) (ap (λ value. Store (image_start config + index) value) read)

  pub stored_row : (hint : Option ℕ) (control : Controlling) (value : ℕ) → hinted_by config hint control.spot ≡ StoreWord index extent → value ≡ slice_index control.image index
      → Store (image_start config + index) value ≡ control_access config (control_hinted config hint control)
  stored_row None control value hinted_store read = access_is control.spot control.image value (unhinted None control.spot hinted_store) read
  stored_row (Some address) control value hinted_store read = access_is (hinted_by config (Some address) control.spot) control.image value hinted_store read

-- The step of a spot in the image, on the words of a table: it finds the word at its place, and leaves it or puts that of the new image there.
module _ (config : Config) (index : ℕ) (extent : Extent) (control : Controlling) (table : List ℕ) where
  pub load_finds : control.spot ≡ LoadWord index extent → slice_index table (image_start config + index) ≡ slice_index table (table_index (control_access config control))
  load_finds at_load = ap (λ spot. slice_index table (table_index (access_with config spot (word_stored spot control.image)))) (sym at_load)

  pub load_leaves : control.spot ≡ LoadWord index extent → table ≡ accessed (control_access config control) table
  load_leaves at_load = sym (set-get_or table (image_start config + index) 0) ∙ ap (λ spot. accessed (access_with config spot (word_stored spot control.image)) table) (sym at_load)

  pub store_puts : (value : ℕ) → control.spot ≡ StoreWord index extent → value ≡ slice_index control.image index → set table (image_start config + index) value ≡ accessed (control_access config control) table
  store_puts value at_store read = ap (set table (image_start config + index)) read ∙ ap (λ spot. accessed (access_with config spot (word_stored spot control.image)) table) (sym at_store)
