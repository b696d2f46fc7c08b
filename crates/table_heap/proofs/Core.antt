-- What the machines of a heap do as a kind. Nothing else here opens a definition of the core.
use Rattle.std.proofs.Common.{◌≡◌, ℕ, true, false, ◌&&◌, List, length, Option, None, Some, refl, sym, arith}
use Rattle.std.proofs.Math.Bool.{Bool-set}
use Rattle.std.proofs.Math.Logic.{∥∥₁_elim}
use Rattle.std.proofs.Math.Nat.{ℕ_set}
use Rattle.std.proofs.lemmas.Bool.{lt-ltb, le-ltb}
use Rattle.std.specs.Prelude.{if◌then◌else◌, slice_get, nat_lt}
use Rattle.heap_words.specs.declared.config.Config.{Config}
use Rattle.shen_graph.specs.declared.order.Order.{Order}
use Rattle.shen_graph.specs.declared.order.Order.TheVariants.{Nothing}
use Rattle.heap_words.specs.Ranges.{seat_count}
use Rattle.shen_graph.specs.Graph.{Graph}
use Rattle.heap_words.specs.Steps.{Stage, Event, Finds}
use Rattle.collector_rows.specs.declared.control_spot.ControlSpot.{ControlSpot}
use Rattle.collector_rows.specs.declared.control_spot.ControlSpot.TheVariants.{StoreWord}
use Rattle.collector_rows.specs.ControlRows.{is_gone}
use Rattle.step_core.specs.Actor.{Machine, mutating, helping, controlling, Actor}
use Rattle.heap_machines.specs.Pause.{pause_image}
use Rattle.heap_machines.proofs.Pauses.{heap_pauses}
use Rattle.step_core.specs.Begins.{Run, Begins, first_graph}
use Rattle.step_core.specs.Machines.{HasNumber, takes_of, plan_of, took_of, kind, IsFitFor}
use Rattle.step_core.proofs.Machines.Roles.{fit_is_prop}
use Rattle.heap_machines.specs.Roles.{is_mutating}
use Rattle.step_core.specs.Opening.{opening_words, opening}
use Rattle.step_core.specs.Settled.{stored_image, image_read, image_of}
use Rattle.step_core.proofs.Theorem.FirstFacts.{opening_begins}
use Rattle.step_core.proofs.Theorem.EveryList.{found_fit}
use Rattle.table_heap.specs.declared.key.HeapKey.{HeapKey}
use Rattle.table_heap.specs.Core.{heap_kind, heap_opening, start_of_key}

pub kind_takes : (config : Config) (actor : Actor) (order : Order) → (heap_kind config).takes actor order ≡ takes_of actor.machine order
unfolding kind
kind_takes config actor order = refl

pub kind_plan : (config : Config) (actor : Actor) (order : Order) → (heap_kind config).plan actor order ≡ plan_of config order actor.machine
unfolding kind
kind_plan config actor order = refl

pub kind_took : (config : Config) (actor : Actor) (order : Order) (got : ℕ) → (heap_kind config).took actor order got ≡ took_of pause_image config actor order got actor.machine
unfolding kind
kind_took config actor order got = refl

-- what is so of each stage that a key's heap may begin with is so of where it began, where that is a proposition
pub begun : (key : HeapKey) (P : Type 0) → IsProp P → ((graph : Graph) → Begins key.config (start_of_key key) graph → P) → P
begun key P prop each_begins = ∥∥₁_elim key.begins prop (λ begun_there. each_begins begun_there.0 begun_there.1)

-- a word that a machine finds after some events is fit
pub found_fits : (key : HeapKey) (number : ℕ) (actor : Actor) (order : Order) (got : ℕ) → Finds (heap_kind key.config) (start_of_key key) number actor order got → IsFitFor key.config order got actor.machine
found_fits key number actor order got finds =
    begun key (IsFitFor key.config order got actor.machine) (fit_is_prop key.config order got actor.machine)
    (λ graph begins. found_fit pause_image heap_pauses key.config (start_of_key key) graph begins number actor order got finds)

-- how many machines there are
pub start_count : (key : HeapKey) → length (start_of_key key).machines ≡ seat_count key.config.mutators key.config.helpers
start_count key = begun key (length (start_of_key key).machines ≡ seat_count key.config.mutators key.config.helpers) (hlevel ℕ_set) (λ graph begins. begins.seats)

-- the first of them are the mutators
role_of_number : (config : Config) (number : ℕ) (machine : Machine) → HasNumber config number machine → is_mutating machine ≡ nat_lt number config.mutators
role_of_number config number (mutating mutator) has_number = sym (lt-ltb number config.mutators has_number.1)
role_of_number config number (helping helper) has_number = sym (le-ltb number config.mutators has_number.1)
role_of_number config number (controlling control) has_number = sym (le-ltb number config.mutators (omega (arith, has_number)))

pub start_role : (key : HeapKey) (number : ℕ) (actor : Actor) → slice_get (start_of_key key).machines number ≡ Some actor → is_mutating actor.machine ≡ nat_lt number key.config.mutators
start_role key number actor actor_there =
    begun key (is_mutating actor.machine ≡ nat_lt number key.config.mutators) (hlevel Bool-set)
    (λ graph begins. role_of_number key.config number actor.machine (begins.machines number actor actor_there).number_is)

-- the words of the opening
pub first_words : (config : Config) → (heap_opening config).words ≡ opening_words config
unfolding opening
first_words config = refl

-- events from the opening are a run
abbrev pub run_of : (config : Config) → List (Event Order) → Run config
run_of config events = record { start = opening config; graph = first_graph config; begins = opening_begins config; events = events }

-- and so are those from any stage that begins a graph
abbrev pub run_from : (config : Config) (start : Stage Actor) (graph : Graph) → Begins config start graph → List (Event Order) → Run config
run_from config start graph begins events = record { start = start; graph = graph; begins = begins; events = events }

-- a control that has made its last access stores no image
gone_is_calm : (spot : ControlSpot) (image : List ℕ) → (true && (if is_gone spot then false else true)) ≡ false → stored_image spot image ≡ None
gone_is_calm (StoreWord index extent) image control_gone = absurd cc
gone_is_calm _ image control_gone = refl

machine_is_calm : (machine : Machine) → takes_of machine Nothing ≡ false → image_read machine ≡ None
machine_is_calm (controlling control) idle = gone_is_calm control.spot control.image idle
machine_is_calm _ idle = refl

pub idle_is_calm : (found : Option Actor) → ((actor : Actor) → found ≡ Some actor → takes_of actor.machine Nothing ≡ false) → image_of found ≡ None
idle_is_calm None idle = refl
idle_is_calm (Some actor) idle = machine_is_calm actor.machine (idle actor refl)
