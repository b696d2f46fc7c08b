-- A pin word changes only where its own mutator stores into it.
use Rattle.std.proofs.Common.{◌≡◌, ◌≢◌, ℕ, ◌+◌, ◌<◌, ⊎_elim, Bool, true, false, List, [], ◌++◌, Option, Some, None, refl, sym, ap, ◌∙◌, subst}
use Rattle.std.specs.Prelude.{◌==◌, ◌&&◌, slice_get, slice_index, if◌then◌else◌}
use Rattle.std.proofs.lemmas.Bool.{and_parts, cases_Bool, cond-false, eqb-true}
use Rattle.std.proofs.lemmas.Option.{none-some}
use Rattle.heap_words.specs.declared.config.Config.{Config}
use Rattle.heap_words.specs.Words.{Word, Cset, Evac, Answer, Pin, image_start}
use Rattle.heap_words.specs.Rows.{name_of}
use Rattle.heap_words.specs.Encoding.{is_forwarded}
use Rattle.heap_words.specs.Touch.{touched}
use Rattle.heap_words.specs.Steps.{Stage, Event, act}
use Rattle.shen_graph.specs.declared.pin.Pinned.{Pinned}
use Rattle.shen_graph.specs.declared.command.Reply.{Reply}
use Rattle.shen_graph.specs.declared.command.Reply.TheVariants.{Full}
use Rattle.shen_graph.specs.declared.order.Order.{Order}
use Rattle.shen_graph.specs.Graph.{Graph}
use Rattle.shen_graph.specs.Step.{slot_of}
use Rattle.shen_graph.specs.History.{Entry, after, of_thread}
use Rattle.mutator.specs.declared.spot.Kept.{Kept}
use Rattle.mutator.specs.declared.spot.Spot.{Spot}
use Rattle.mutator.specs.declared.spot.Spot.TheVariants.{Loading, OnField, OnNumber, StoreRoot, Making, AskCycle, Pinning, Waiting}
use Rattle.mutator.specs.declared.loads.LoadSpot.TheVariants as load
use Rattle.mutator.specs.declared.fields.FieldSpot.TheVariants as fields
use Rattle.mutator.specs.declared.numbers.NumberSpot.TheVariants as numbers
use Rattle.mutator.specs.declared.makes.MakeSpot.TheVariants as make
use Rattle.mutator.specs.declared.pins.PinSpot.TheVariants as pins
use Rattle.mutator.specs.declared.waits.WaitSpot.TheVariants as wait
use Rattle.mutator.specs.Orders.{takes_at}
use Rattle.mutator.specs.Rows.{Mutating, touch_at}
use Rattle.mutator.specs.Told.{told_at, told_of}
use Rattle.heap_world.specs.World.{World, Plot, PinStands, Shared}
use Rattle.heap_world.specs.Change.{Change}
use Rattle.collector_rows.specs.ByParts.{PausesByParts}
use Rattle.heap_world.proofs.Keeping.{load_keeps}
use Rattle.collector_rows.specs.declared.control_spot.ControlSpot.{ControlSpot}
use Rattle.collector_rows.specs.declared.control_spot.ControlSpot.TheVariants.{StoreWord}
use Rattle.step_core.specs.Actor.{Machine, mutating, helping, controlling, Actor, entries_of, command_by}
use Rattle.step_core.specs.Machines.{command_at, told_word, told_storing, takes_of, kind}
use Rattle.step_core.specs.History.{told_of_machine, told, told_by}
use Rattle.step_core.specs.Settled.{settled}
use Rattle.step_core.specs.Sound.{world_of}
use Rattle.step_core.specs.Pins.{HoldsPin, IsStoringPin, OnlyPinningPins}
use Rattle.step_core.proofs.Machines.Owed.{IsMachine, IsThread}
use Rattle.step_core.proofs.Machines.Stepped.{Stepped, graph_by}
use Rattle.step_core.proofs.History.Entries.{after-append, graph_settled}
use Rattle.step_core.proofs.Mutators.Places.{each_step}
use Rattle.step_core.proofs.Theorem.Induction.{Goes, goes_event}

-- a pin word stands for what its slot holds, in the words that count
pub pin_held : (config : Config) (world : World) → Shared config world → (word : ℕ) (held_pin : Option Pinned) → PinStands config (world.memory Cset) (world.memory Evac) world.block word held_pin → HoldsPin world.memory word held_pin
pin_held config world shared word None pin_stands = pin_stands
pin_held config world shared word (Some pinned) pin_stands = let object = shared.contents.objects.each word pin_stands.1 pin_stands.2 pinned.name pin_stands.3.piece in (pin_stands.0, object.2.name_word, ap is_forwarded object.2.header)

-- the place of what a slot holds
abbrev place_in : Option Pinned → ℕ
place_in None = 0
place_in (Some pinned) = pinned.place

word_is : (config : Config) (cset evac : ℕ) (block : Plot) (word : ℕ) (held_pin : Option Pinned) → PinStands config cset evac block word held_pin → word ≡ place_in held_pin
word_is config cset evac block word None pin_stands = pin_stands
word_is config cset evac block word (Some pinned) pin_stands = pin_stands.0

-- so the graph says what the pin words are
words_by : (config : Config) (world : World) → Shared config world → (mutator index : ℕ) → mutator < config.mutators → index < 4 → world.memory (Pin mutator index) ≡ place_in (world.graph.pin (mutator + 1) index)
words_by config world shared mutator index mutator_below index_small = word_is config (world.memory Cset) (world.memory Evac) world.block (world.memory (Pin mutator index)) (world.graph.pin (mutator + 1) index) (shared.pinned mutator index mutator_below index_small)

-- entries of who is refused change no graph
full_same : (graph : Graph) (machines : List Actor) (word : Word) (before now : ℕ) → after graph (told_word machines word before now) ≡ graph
full_same graph machines (Answer mutator) before now = by_test ((before == 0) && (now == 1))
  where
    by_test : (holds : Bool) → after graph (entries_of mutator (command_at (slice_get machines mutator)) (if holds then Some Full else None)) ≡ graph
    by_test true = refl
    by_test false = refl
full_same graph machines _ before now = refl

-- a mutator stores into this pin slot
record StoresPin (seat : ℕ) (kept : Kept) (spot : Spot) (t i : ℕ) : Type 0 where
  value : ℕ
  stands : spot ≡ Pinning value pins.Store
  seat_is : seat ≡ t
  slot_is : slot_of kept.command ≡ i

-- whoever settles a reply and changes a pin word stores into it
stores_pin : (config : Config) (memory : Word → ℕ) (seat made : ℕ) (kept : Kept) (order : Order) (mutator index : ℕ) (spot : Spot) (reply : Reply) → told_at memory seat made kept spot ≡ Some reply
    → touched memory (touch_at config seat made kept order spot) (Pin mutator index) ≢ memory (Pin mutator index) → StoresPin seat kept spot mutator index
stores_pin config memory seat made kept order mutator index (Loading load.First) reply reply_found changed = absurd (changed refl)
stores_pin config memory seat made kept order mutator index (Loading (load.Second first)) reply reply_found changed = absurd (changed refl)
stores_pin config memory seat made kept order mutator index (Loading (load.Third first second)) reply reply_found changed = absurd (changed refl)
stores_pin config memory seat made kept order mutator index (Loading (load.Shape object second third)) reply reply_found changed = absurd (changed refl)
stores_pin config memory seat made kept order mutator index (OnField object fields.Load) reply reply_found changed = absurd (changed refl)
stores_pin config memory seat made kept order mutator index (OnField object (fields.LoadExpected expect value)) reply reply_found changed = absurd (changed refl)
stores_pin config memory seat made kept order mutator index (OnField object (fields.LoadOld value)) reply reply_found changed = absurd (changed refl)
stores_pin config memory seat made kept order mutator index (OnField object (fields.Store value)) reply reply_found changed = absurd (changed refl)
stores_pin config memory seat made kept order mutator index (OnField object (fields.Swap value)) reply reply_found changed = absurd (changed refl)
stores_pin config memory seat made kept order mutator index (OnField object (fields.Exchange reply_found expect value)) reply some_reply changed = absurd (changed refl)
stores_pin config memory seat made kept order mutator index (OnNumber object refs numbers.Load) reply reply_found changed = absurd (changed refl)
stores_pin config memory seat made kept order mutator index (OnNumber object refs numbers.Store) reply reply_found changed = absurd (changed refl)
stores_pin config memory seat made kept order mutator index (StoreRoot value) reply reply_found changed = absurd (changed refl)
stores_pin config memory seat made kept order mutator index (Making (make.StoreRoot address)) reply reply_found changed = absurd (changed refl)
stores_pin config memory seat made kept order mutator index (Making spot) reply reply_found changed = absurd (cc (reply_found))
stores_pin config memory seat made kept order mutator index (Waiting (wait.StoreRoot address)) reply reply_found changed = absurd (changed refl)
stores_pin config memory seat made kept order mutator index (Waiting spot) reply reply_found changed = absurd (cc (reply_found))
stores_pin config memory seat made kept order mutator index AskCycle reply reply_found changed = absurd (changed refl)
stores_pin config memory seat made kept order mutator index (Pinning value pins.Look) reply reply_found changed = absurd (changed (ap (λ f. f (Pin mutator index)) (sym (load_keeps memory (Pin seat (slot_of kept.command))))))
stores_pin config memory seat made kept order mutator index (Pinning value pins.Store) reply reply_found changed = ⊎_elim
    (λ (stores_here : ((seat == mutator) && (slot_of kept.command == index)) ≡ true).
    let test_parts = and_parts (seat == mutator) (slot_of kept.command == index) stores_here in
    record { value = value; stands = refl; seat_is = eqb-true seat mutator test_parts.0; slot_is = eqb-true (slot_of kept.command) index test_parts.1 })
    (λ (stores_elsewhere : ((seat == mutator) && (slot_of kept.command == index)) ≡ false). absurd (changed (cond-false ((seat == mutator) && (slot_of kept.command == index)) value (memory (Pin mutator index)) stores_elsewhere)))
    (cases_Bool ((seat == mutator) && (slot_of kept.command == index)))
stores_pin config memory seat made kept order mutator index _ reply reply_found changed = absurd (cc (reply_found))

module _ (change : Change) (law : PausesByParts change) (config : Config) (graph_then : Graph) (stage : Stage Actor) (entries : List Entry) (event : Event Order) (goes_so_far : Goes config graph_then stage entries) (mutator slot : ℕ) (mutator_below : mutator < config.mutators) (slot_small : slot < 4)
    (changed : settled config (act (kind change config) stage event) (Pin mutator slot) ≢ settled config stage (Pin mutator slot)) where
  abbrev world_then : World
  world_then = world_of config stage goes_so_far.follows.block goes_so_far.follows.ghost (after graph_then entries)

  next : Goes config graph_then (act (kind change config) stage event) (entries ++ told config stage event)
  next = goes_event change law config graph_then stage entries event goes_so_far

  before : settled config stage (Pin mutator slot) ≡ place_in ((after graph_then entries).pin (mutator + 1) slot)
  before = words_by config world_then goes_so_far.follows.shared mutator slot mutator_below slot_small

  -- the word then, by the entries of the event
  now : (event_entries : List Entry) → told config stage event ≡ event_entries → settled config (act (kind change config) stage event) (Pin mutator slot) ≡ place_in ((after (after graph_then entries) event_entries).pin (mutator + 1) slot)
  now event_entries event_told =
      words_by config (world_of config (act (kind change config) stage event) next.follows.block next.follows.ghost (after graph_then (entries ++ told config stage event))) next.follows.shared mutator slot mutator_below slot_small
      ∙ ap (λ new_entries. place_in ((after graph_then (entries ++ new_entries)).pin (mutator + 1) slot)) event_told ∙ ap (λ some_graph. place_in (some_graph.pin (mutator + 1) slot)) (after-append graph_then entries event_entries)

  -- the graph is another then
  no_change : (event_entries : List Entry) → told config stage event ≡ event_entries → after (after graph_then entries) event_entries ≡ after graph_then entries → ⊥
  no_change event_entries event_told same_graph = changed (now event_entries event_told ∙ ap (λ some_graph. place_in (some_graph.pin (mutator + 1) slot)) same_graph ∙ sym before)

  storing : (actor : Actor) (spot : ControlSpot) (image : List ℕ) → told config stage event ≡ told_storing config stage spot image → ⊥
  storing actor (StoreWord index extent) image event_told = no_change (told_storing config stage (StoreWord index extent) image) event_told (full_same (after graph_then entries) stage.machines (name_of config (image_start config + index)) (slice_index stage.words (image_start config + index)) (slice_index image index))
  storing actor _ image event_told = no_change [] event_told refl

  -- a mutator that settles nothing changes none
  by_told : (actor : Actor) (own_mutating : Mutating) (found : Option Reply) → slice_get stage.machines event.number ≡ Some actor → actor.machine ≡ mutating own_mutating → takes_at own_mutating.spot own_mutating.made event.order ≡ true
      → told_of world_then.memory own_mutating ≡ found → told config stage event ≡ entries_of own_mutating.seat (command_by event.order actor.command) found → (event.number ≡ mutator) × IsStoringPin stage mutator slot
  by_told actor own_mutating None actor_there mutating_actor takes none_told told_is = absurd (no_change [] told_is refl)
  by_told actor own_mutating (Some reply) actor_there mutating_actor takes some_told told_is =
      let own_thread : IsThread config stage.words world_then (of_thread entries (event.number + 1)) event.number actor own_mutating =
      subst (λ any_machine. IsMachine config stage.words world_then (of_thread entries (event.number + 1)) event.number actor any_machine) mutating_actor (goes_so_far.follows.machines event.number actor actor_there) in
      let step : Stepped config world_then own_mutating actor.command event.order own_thread.fixed =
      each_step config world_then own_mutating actor.command event.order own_thread.fixed (λ polls answer_one. absurd (none-some reply (sym (ap (told_at world_then.memory own_mutating.seat own_mutating.made own_mutating.kept) polls) ∙ some_told))) goes_so_far.follows.no_more_pins goes_so_far.follows.shared own_thread.mine takes in
      let asked_command = command_by event.order actor.command in
      let same_graph : after (after graph_then entries) (entries_of own_mutating.seat asked_command (Some reply)) ≡ step.world.graph =
      sym (graph_settled (after graph_then entries) own_mutating.seat asked_command (Some reply)) ∙ ap (λ found. graph_by (after graph_then entries) own_mutating.seat asked_command found) (sym some_told) ∙ sym step.graph in
      let word : settled config (act (kind change config) stage event) (Pin mutator slot) ≡ step.world.memory (Pin mutator slot) =
      now (entries_of own_mutating.seat asked_command (Some reply)) told_is ∙ ap (λ some_graph. place_in (some_graph.pin (mutator + 1) slot)) same_graph ∙ sym (words_by config step.world step.shared mutator slot mutator_below slot_small) in
      let stores = stores_pin config world_then.memory own_mutating.seat own_mutating.made own_mutating.kept event.order mutator slot own_mutating.spot reply some_told (λ same_pin. changed (word ∙ ap (λ f. f (Pin mutator slot)) step.memory ∙ same_pin)) in
      let number : event.number ≡ mutator = sym own_thread.number_is ∙ stores.seat_is in
      (number, record { actor = actor; mutator = own_mutating; here = ap (slice_get stage.machines) (sym number) ∙ actor_there; is = mutating_actor; value = stores.value; stands = stores.stands; slot_is = stores.slot_is })

  by_machine : (actor : Actor) (machine : Machine) → slice_get stage.machines event.number ≡ Some actor → actor.machine ≡ machine → takes_of machine event.order ≡ true → told config stage event ≡ told_by config stage actor event.order machine
      → (event.number ≡ mutator) × IsStoringPin stage mutator slot
  by_machine actor (mutating own_mutating) actor_there same_machine takes told_is = by_told actor own_mutating (told_of world_then.memory own_mutating) actor_there same_machine takes refl told_is
  by_machine actor (helping helper) actor_there same_machine takes told_is = absurd (no_change [] told_is refl)
  by_machine actor (controlling control) actor_there same_machine takes told_is = absurd (storing actor control.spot control.image told_is)

  by_takes : (actor : Actor) (holds : Bool) → slice_get stage.machines event.number ≡ Some actor → takes_of actor.machine event.order ≡ holds → told config stage event ≡ (if holds then told_by config stage actor event.order actor.machine else []) → (event.number ≡ mutator) × IsStoringPin stage mutator slot
  by_takes actor true actor_there takes told_is = by_machine actor actor.machine actor_there refl takes told_is
  by_takes actor false actor_there takes told_is = absurd (no_change [] told_is refl)

  told_at_all : (found : Option Actor) → slice_get stage.machines event.number ≡ found → (event.number ≡ mutator) × IsStoringPin stage mutator slot
  unfolding told
  told_at_all None nobody_there = absurd (no_change [] (ap (told_of_machine config stage event) nobody_there) refl)
  told_at_all (Some actor) actor_there = by_takes actor (takes_of actor.machine event.order) actor_there refl (ap (told_of_machine config stage event) actor_there)

  only_own : (event.number ≡ mutator) × IsStoringPin stage mutator slot
  only_own = told_at_all (slice_get stage.machines event.number) refl

pub only_pinning : (change : Change) → PausesByParts change → (config : Config) (graph : Graph) (stage : Stage Actor) (entries : List Entry) (event : Event Order) → Goes config graph stage entries → OnlyPinningPins change config stage event
only_pinning change law config graph stage entries event goes_so_far mutator slot mutator_below small changed = only_own change law config graph stage entries event goes_so_far mutator slot mutator_below small changed
