-- Hints over a list of events: which events take one, and how many of them a machine has taken.
use Rattle.std.specs.Prelude.{ℕ, ◌≡◌, ◌+◌, ◌-◌, ◌<◌, ◌^◌, ◌==◌, ◌↔◌, ◌&&◌, not, min, Bool, true, false, List, [], ◌∷◌, Option, Some, None, is_some, slice_get, if◌then◌else◌}
use Rattle.heap_words.specs.declared.config.Config.{Config}
use Rattle.heap_words.specs.declared.place.Place.TheVariants.{MC, GO}
use Rattle.heap_words.specs.Steps.{Stage, Event, act, go}
use Rattle.shen_graph.specs.declared.order.Order.{Order}
use Rattle.shen_graph.specs.declared.order.Order.TheVariants.{Nothing}
use Rattle.shen_graph.specs.Order.{hint_in}
use Rattle.heap_world.specs.Change.{Change}
use Rattle.unit_part.specs.ScanRows as scans
use Rattle.unit_part.specs.declared.spot.UnitSpot.{UnitSpot}
use Rattle.unit_part.specs.declared.spot.UnitSpot.TheVariants.{Scanning}
use Rattle.step_core.specs.Actor.{Machine, Actor}
use Rattle.step_core.specs.Machines.{takes_of, takes_hint, greys_of, hints_of, place_in, kind}
use Rattle.step_core.specs.Seats.{unit_in}

-- whether an actor takes the order, which is a hint
abbrev pub takes_as_hint : Order → Option Actor → Bool
takes_as_hint order None = false
takes_as_hint order (Some actor) = takes_of actor.machine order && is_some (hint_in order)

-- how many hints a machine takes with an event: one, or none
abbrev pub hint_taken : Stage Actor → ℕ → Event Order → ℕ
hint_taken stage number event = if (event.number == number) && takes_as_hint event.order (slice_get stage.machines number) then 1 else 0

-- how many it takes with a list of events
unfoldable pub hints_taken : Change → Config → Stage Actor → ℕ → List (Event Order) → ℕ
hints_taken change config stage number [] = 0
hints_taken change config stage number (event ∷ events) = hint_taken stage number event + hints_taken change config (act (kind change config) stage event) number events

-- The number that a machine keeps is that of the hints that it has taken, and those before the events, up to 2^64 - 1.
abbrev pub HintsAreCounted : Type 0
HintsAreCounted = (change : Change) (config : Config) (stage : Stage Actor) (events : List (Event Order)) (number : ℕ) (before after : Actor)
    → slice_get stage.machines number ≡ Some before → slice_get (go (kind change config) stage events).machines number ≡ Some after → hints_of before.machine < 2 ^ 64
    → hints_of after.machine ≡ min (hints_of before.machine + hints_taken change config stage number events) (2 ^ 64 - 1)

-- the scan in which a machine is has not ended, as it has nowhere between two steps
abbrev pub scans_on : UnitSpot → Bool
scans_on (Scanning spot) = not (scans.is_ended spot)
scans_on _ = true

-- Hints are taken at MC, and nowhere else; and an address is made grey at GO, and nowhere else.
pub record HintsHavePlaces : Type 0 where
  pub taken : (machine : Machine) → scans_on (unit_in machine) ≡ true → (takes_hint machine ≡ true) ↔ (place_in Nothing machine ≡ MC)
  pub greyed : (machine : Machine) → (greys_of machine ≡ None) ↔ (place_in Nothing machine ≡ GO → ⊥)
