-- Who takes a region finds in the table the words that count.
use Rattle.std.proofs.Common.{◌≡◌, ℕ, ◌+◌, ◌<◌, true, List, [], Option, Some, None, refl, sym, ap, ◌∙◌, subst}
use Rattle.std.specs.Prelude.{slice_get}
use Rattle.std.proofs.lemmas.Option.{same_Some, none-some}
use Rattle.heap_words.specs.declared.config.Config.{Config}
use Rattle.heap_words.specs.Words.{Free, view, is_word}
use Rattle.regions.specs.Sets.{IsIn}
use Rattle.heap_words.specs.Steps.{Stage, Event, IsEvent, accessed, act, go}
use Rattle.heap_words.specs.Touch.{Touch, placed, touched}
use Rattle.heap_words.proofs.Laws.{act-event}
use Rattle.shen_graph.specs.declared.order.Order.{Order}
use Rattle.shen_graph.specs.Graph.{Graph}
use Rattle.shen_graph.specs.History.{Entry, after, of_thread}
use Rattle.heap_world.specs.World.{World}
use Rattle.heap_world.specs.Change.{Change}
use Rattle.collector_rows.specs.declared.control_spot.ControlSpot.{ControlSpot}
use Rattle.collector_rows.specs.declared.control_spot.ControlSpot.TheVariants.{StoreWord}
use Rattle.collector_rows.specs.ControlRows.{Controlling}
use Rattle.collector_rows.specs.Extent.{Counting}
use Rattle.step_core.specs.Actor.{Machine, controlling, Actor}
use Rattle.step_core.specs.History.{history}
use Rattle.step_core.specs.Machines.{takes_of, plan_of, kind}
use Rattle.step_core.specs.Settled.{stored_image, image_read, image_of, settled_by, settled, control_number}
use Rattle.step_core.specs.Sound.{world_of}
use Rattle.step_core.proofs.Theorem.Beginning.{goes_begins}
use Rattle.step_core.proofs.Control.Held.{held_image, outside_held}
use Rattle.step_core.proofs.Control.Images.{view-placed}
use Rattle.step_core.proofs.Theorem.Induction.{Goes, goes_run}
use Rattle.step_core.proofs.Machines.Roles.{number_of, below_control, outside_access}
use Rattle.cycle_runs.specs.Recycling.Held.{TakesRegion, TakenRegionsWereFree}

-- the order is taken, and the words after the event are those after the access
event_parts : (change : Change) (config : Config) (stage : Stage Actor) (event : Event Order) (actor : Actor) → IsEvent (kind change config) stage event actor
    → (takes_of actor.machine event.order ≡ true) × ((act (kind change config) stage event).words ≡ accessed (plan_of config event.order actor.machine) stage.words)
unfolding kind
event_parts change config stage given_event actor event = (event.takes, ap (λ reached_stage. reached_stage.words) (act-event (kind change config) stage given_event actor event))

module _ (change : Change) (config : Config) (graph : Graph) (stage : Stage Actor) (entries : List Entry) (goes_well : Goes config graph stage entries) (event : Event Order) (actor : Actor) (region : ℕ) (takes : TakesRegion change config stage event actor region) where
  abbrev the_world : World
  the_world = world_of config stage goes_well.follows.block goes_well.follows.ghost (after graph entries)

  abbrev order_taken : takes_of actor.machine event.order ≡ true
  order_taken = (event_parts change config stage event actor takes.event).0

  -- the free word is not left as it is
  not_left : (touch : Touch) → is_word config touch.word ≡ true → plan_of config event.order actor.machine ≡ placed config touch → touched (view config stage.words) touch Free ≡ view config stage.words Free → ⊥
  not_left touch word_inside plan free_left = takes.taken (subst (λ free_bits. IsIn free_bits region) (sym (
      ap (λ words. view config words Free) (event_parts change config stage event actor takes.event).1
      ∙ ap (λ access. view config (accessed access stage.words) Free) plan
      ∙ ap (λ memory. memory Free) (view-placed config stage.words touch word_inside goes_well.follows.words)
      ∙ free_left)) takes.free)

  -- while the control writes an image back no other machine changes it, and it takes no region
  not_storing : (control_actor : Actor) (control : Controlling) (image : Counting) → slice_get stage.machines (control_number config) ≡ Some control_actor → control_actor.machine ≡ controlling control → stored_image control.spot control.image ≡ Some image → ⊥
  not_storing control_actor control image control_there control_machine storing = other (λ number.
      let same_actor : actor ≡ control_actor = same_Some actor control_actor (sym takes.event.here ∙ ap (λ machine_number. slice_get stage.machines machine_number) number ∙ control_there) in
      none-some image (sym takes.no_image ∙ ap (λ y. image_read y.machine) same_actor ∙ ap image_read control_machine ∙ storing))
    where
      held : held_image config stage ≡ Some image
      held = ap image_of control_there ∙ ap image_read control_machine ∙ storing

      other : (event.number ≡ control_number config → ⊥) → ⊥
      other not_control =
          let facts = goes_well.follows.machines event.number actor takes.event.here in
          let below_number : event.number < control_number config = below_control config event.number actor.machine (number_of config stage.words the_world (of_thread entries (event.number + 1)) event.number actor actor.machine facts) not_control in
          let access = outside_access config stage.words the_world (of_thread entries (event.number + 1)) event.number actor event.order actor.machine goes_well.follows.shared not_control (outside_held config stage goes_well.shaken image held event.number actor below_number takes.event.here) order_taken facts in
          not_left access.touch access.inside access.plan (access.free (view config stage.words))

  -- so the words of the table count
  by_spot : (actor : Actor) (control : Controlling) → slice_get stage.machines (control_number config) ≡ Some actor → actor.machine ≡ controlling control → (spot : ControlSpot) → control.spot ≡ spot
      → settled_by config stage.words (stored_image spot control.image) ≡ view config stage.words
  by_spot actor control control_there control_machine (StoreWord index extent) same_spot =
      absurd (not_storing actor control (record { extent = extent; image = control.image }) control_there control_machine (ap (λ spot. stored_image spot control.image) same_spot))
  by_spot actor control control_there control_machine _ same_spot = refl

  by_machine : (actor : Actor) (machine : Machine) → slice_get stage.machines (control_number config) ≡ Some actor → actor.machine ≡ machine → settled_by config stage.words (image_read machine) ≡ view config stage.words
  by_machine actor (controlling control) control_there machine_is = by_spot actor control control_there machine_is control.spot refl
  by_machine actor _ control_there machine_is = refl

  by_actor : (found : Option Actor) → slice_get stage.machines (control_number config) ≡ found → settled_by config stage.words (image_of found) ≡ view config stage.words
  by_actor None control_there = refl
  by_actor (Some control_actor) control_there = by_machine control_actor control_actor.machine control_there refl

  pub table_counts : settled config stage ≡ view config stage.words
  table_counts = by_actor (slice_get stage.machines (control_number config)) refl

pub taken_regions_were_free : TakenRegionsWereFree
taken_regions_were_free change law config stage graph begins events event actor region region_below takes =
    let counts = table_counts change config graph (go (kind change config) stage events) (history change config stage events) (goes_run change law config graph stage [] events (goes_begins config stage graph begins)) event actor region takes in
    (counts, subst (λ memory. IsIn (memory Free) region) (sym counts) takes.free)
