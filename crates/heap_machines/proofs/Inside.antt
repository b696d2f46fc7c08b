-- The control that goes from a word of the image to the next one.
use Rattle.std.proofs.Common.{◌≡◌, ◌≢◌, ◌+◌, ◌-◌, ◌<◌, ◌≤◌, ℕ, Bool, true, false, List, Option, Some, None, ⊎_elim, refl, sym, ap, ◌∙◌, subst, arith}
use Rattle.std.specs.Prelude.{nat_lt, if◌then◌else◌}
use Rattle.std.proofs.lemmas.Bool.{false≢true, lt-ltb, ltb-true, cond-true, cases_lt}
use Rattle.heap_words.specs.declared.config.Config.{Config}
use Rattle.heap_words.specs.declared.access.Took.TheVariants.{More}
use Rattle.heap_words.specs.Access.{table_index}
use Rattle.heap_world.specs.Change.{image_words}
use Rattle.heap_words.specs.Words.{Pause, word_at, image_start}
use Rattle.shen_graph.specs.declared.command.Command.{Command}
use Rattle.shen_graph.specs.declared.order.Order.TheVariants.{Nothing}
use Rattle.collector_rows.specs.declared.extent.Extent.TheVariants.{Whole}
use Rattle.collector_rows.specs.Extent.{extent_after, says_room, next_stored}
use Rattle.collector_rows.specs.ControlRows.{after_load, after_store, next_spot, stored_next}
use Rattle.collector_rows.proofs.Extents.{stored_next_is, stored_next_one}
use Rattle.collector_rows.specs.declared.control_spot.ControlSpot.{ControlSpot}
use Rattle.collector_rows.specs.declared.control_spot.ControlSpot.TheVariants.{LoadWord, StoreWord, Go}
use Rattle.control.specs.Image as controls
use Rattle.step_core.specs.Actor.{Machine, controlling, mutating, helping}
use Rattle.step_core.specs.Machines.{order_for, takes_of, plan_of, greys_of, answer_of, machine_after}
use Rattle.heap_machines.specs.Pause.{pause_image}
use Rattle.heap_machines.specs.Inside.{is_inside_image, loads_left, stores_left}

-- it has a turn, under no order, says that there is more to do, makes its access beside the pause word, and no address grey
pub record GoesInside (config : Config) (machine : Machine) : Type 0 where
  pub takes : takes_of machine Nothing ≡ true
  pub goes_on : (next : Option Command) → order_for next machine ≡ Some Nothing
  pub says : (got : ℕ) → answer_of config Nothing machine got ≡ Some More
  pub beside : word_at config Pause ≢ table_index (plan_of config Nothing machine)
  pub greys : greys_of machine ≡ None

-- a word of the image is not the pause word
apart : (config : Config) (index : ℕ) → 0 ≢ image_start config + index
apart config index word_same = omega arith

control_goes : (config : Config) (seen phase cset hints : ℕ) (image : List ℕ) (spot : ControlSpot) → controls.is_inside_image config spot ≡ true → GoesInside config (controlling (record { spot = spot; seen = seen; phase = phase; cset = cset; hints = hints; image = image }))
control_goes config seen phase cset hints image (LoadWord index Whole) spot_inside = record { takes = refl; goes_on = λ next. refl; says = λ got. refl; beside = apart config index; greys = refl }
control_goes config seen phase cset hints image (StoreWord index Whole) spot_inside = record { takes = refl; goes_on = λ next. refl; says = λ got. refl; beside = apart config index; greys = refl }
control_goes config seen phase cset hints image _ spot_inside = absurd (false≢true spot_inside)

pub goes_inside : (config : Config) (machine : Machine) → is_inside_image config machine ≡ true → GoesInside config machine
goes_inside config (mutating mutator) machine_inside = absurd (false≢true machine_inside)
goes_inside config (helping helper) machine_inside = absurd (false≢true machine_inside)
goes_inside config (controlling control) machine_inside = control_goes config control.seen control.phase control.cset control.hints control.image control.spot machine_inside

-- so it is where words are left to load, or to store
loads_in : (config : Config) (spot : ControlSpot) → 0 < controls.loads_left config spot → controls.is_inside_image config spot ≡ true
loads_in config (LoadWord index Whole) some_loads = lt-ltb (index + 1) (image_words config) (omega (arith, some_loads))
loads_in config _ some_loads = absurd (omega (arith, some_loads))

stores_in : (config : Config) (spot : ControlSpot) → 0 < controls.stores_left config spot → controls.is_inside_image config spot ≡ true
stores_in config (StoreWord index Whole) some_stores = lt-ltb (index + 1) (image_words config) (omega (arith, some_stores))
stores_in config _ some_stores = absurd (omega (arith, some_stores))

pub loads_inside : (config : Config) (machine : Machine) → 0 < loads_left config machine → is_inside_image config machine ≡ true
loads_inside config (controlling control) some_loads = loads_in config control.spot some_loads
loads_inside config _ some_loads = absurd (omega (arith, some_loads))

pub stores_inside : (config : Config) (machine : Machine) → 0 < stores_left config machine → is_inside_image config machine ≡ true
stores_inside config (controlling control) some_stores = stores_in config control.spot some_stores
stores_inside config _ some_stores = absurd (omega (arith, some_stores))

-- A step inside the image leaves one word fewer.
whole_after : (phase index got : ℕ) → extent_after phase index Whole got ≡ Whole
whole_after phase index got = by_test (says_room phase index got)
  where
    by_test : (holds : Bool) → (if holds then Whole else Whole) ≡ Whole
    by_test true = refl
    by_test false = refl

left_control : (config : Config) (seen phase cset got : ℕ) (image : List ℕ) (spot : ControlSpot) → controls.is_inside_image config spot ≡ true
    → controls.loads_left config (next_spot config phase cset seen (stored_next config spot image) spot got) + controls.stores_left config (next_spot config phase cset seen (stored_next config spot image) spot got) + 1
    ≡ controls.loads_left config spot + controls.stores_left config spot
left_control config seen phase cset got image (LoadWord index Whole) spot_inside =
    let more_words : index + 1 < image_words config = ltb-true (index + 1) (image_words config) spot_inside in
    let spot_next : LoadWord (index + 1) Whole ≡ after_load config (extent_after phase index Whole got) index =
    sym (ap (λ extent. after_load config extent index) (whole_after phase index got) ∙ cond-true (nat_lt (index + 1) (image_words config)) (LoadWord (index + 1) Whole) (StoreWord 0 Whole) spot_inside) in
    subst (λ asked_spot. controls.loads_left config asked_spot + controls.stores_left config asked_spot + 1 ≡ image_words config - (index + 1) + 0) spot_next (omega (arith, more_words))
left_control config seen phase cset got image (StoreWord index Whole) spot_inside =
    let more_words : index + 1 < image_words config = ltb-true (index + 1) (image_words config) spot_inside in
    let stored_index = next_stored config Whole image index in
    let index_is : stored_index ≡ index + 1 = stored_next_one config Whole image index stored_index (index + 1) (stored_next_is config Whole image index (omega (arith, more_words)))
    (record { above = omega arith; most = omega (arith, more_words); between = λ asked_index index_above index_below. absurd (omega (arith, index_above, index_below)); here = λ index_below. refl }) in
    let spot_next : StoreWord (index + 1) Whole ≡ after_store config Whole stored_index =
    sym (ap (after_store config Whole) index_is ∙ cond-true (nat_lt (index + 1) (image_words config)) (StoreWord (index + 1) Whole) Go spot_inside) in
    subst (λ asked_spot. controls.loads_left config asked_spot + controls.stores_left config asked_spot + 1 ≡ 0 + (image_words config - (index + 1))) spot_next (omega (arith, more_words))
left_control config seen phase cset got image _ spot_inside = absurd (false≢true spot_inside)

pub left_after : (config : Config) (machine : Machine) (got : ℕ) → is_inside_image config machine ≡ true
    → loads_left config (machine_after pause_image config Nothing got machine) + stores_left config (machine_after pause_image config Nothing got machine) + 1 ≡ loads_left config machine + stores_left config machine
left_after config (mutating machine) got machine_inside = absurd (false≢true machine_inside)
left_after config (helping helper) got machine_inside = absurd (false≢true machine_inside)
left_after config (controlling control) got machine_inside = left_control config control.seen control.phase control.cset got control.image control.spot machine_inside

-- it is inside the image where it has words left
pub left_inside : (config : Config) (machine : Machine) → 0 < loads_left config machine + stores_left config machine → is_inside_image config machine ≡ true
left_inside config machine some_accesses = ⊎_elim
    (λ (loads : 0 < loads_left config machine). loads_inside config machine loads)
    (λ (none_left : loads_left config machine ≤ 0). stores_inside config machine (omega (arith, some_accesses, none_left)))
    (cases_lt 0 (loads_left config machine))
