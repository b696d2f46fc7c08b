-- What callers know of a `Plain`.
use Rattle.std.specs.Prelude.{ℕ, ◌≡◌, ◌≢◌, Bool, List, map, slice_index, slice_index_or}
use Rattle.heap_words.specs.declared.config.Config.{Config}
use Rattle.heap_words.specs.Access.{table_index}
use Rattle.heap_words.specs.Ranges.{seat_count}
use Rattle.heap_words.specs.Words.{Pause, word_at}
use Rattle.heap_machines.specs.Awaits.{Awaits}
use Rattle.heap_words.specs.Steps.{Stage}
use Rattle.shen_graph.specs.declared.order.Order.{Order}
use Rattle.shen_graph.specs.declared.order.Order.TheVariants.{Nothing}
use Rattle.shen_graph.specs.Noting.{Noting}
use Rattle.step_core.specs.Actor as actors
use Rattle.step_core.specs.Machines.{takes_of, plan_of}
use Rattle.shen_core.specs.declared.plain.Plain.{Plain}
use Rattle.heap_machines.specs.Shown.{shown, order_of, no_machine}
use Rattle.shen_core.specs.Runs as runs

-- its heap
abbrev pub config_of : Plain → Config
config_of plain = plain.config

-- its words, in the order of their places
abbrev pub words_of : Plain → List ℕ
words_of plain = plain.words.items

-- its machines by their numbers, as events see them
abbrev pub machines_of : Plain → List actors.Machine
machines_of plain = map shown plain.machines.items

-- the orders that its machines were given
abbrev pub orders_of : Plain → List Order
orders_of plain = map order_of plain.machines.items

-- the machines of its heap
abbrev pub seats_of : Plain → ℕ
seats_of plain = seat_count plain.config.mutators plain.config.helpers

-- the stage has its words and machines
abbrev pub Shows : Plain → Stage actors.Actor → Type 0
Shows plain stage = runs.WordsShow (words_of plain) (machines_of plain) stage

-- one machine, and the order that it was given
abbrev pub machine_at : Plain → ℕ → actors.Machine
machine_at plain number = slice_index_or (machines_of plain) number no_machine

abbrev pub order_at : Plain → ℕ → Order
order_at plain number = slice_index_or (orders_of plain) number Nothing

-- whether the machine makes a step: it takes the order that it was given
abbrev pub has_turn : Plain → ℕ → Bool
has_turn plain number = takes_of (machine_at plain number) (order_at plain number)

-- the word that the machine's next access finds
abbrev pub word_found_by : Plain → ℕ → ℕ
word_found_by plain number = slice_index (words_of plain) (table_index (plan_of plain.config (order_at plain number) (machine_at plain number)))

-- one event of the machine, under its order, leads from the one to the other
abbrev pub IsStep : Plain → Plain → ℕ → Type 0
IsStep old new number = runs.IsOneEvent (config_of old) (words_of old) (machines_of old) (words_of new) (machines_of new) number (order_at old number)

-- the history that it notes
abbrev pub notes_of : Plain → Noting
notes_of plain = plain.notes

-- all is as it was
pub record IsUnchanged (old new : Plain) : Type 0 where
  pub config : config_of new ≡ config_of old
  pub words : words_of new ≡ words_of old
  pub machines : machines_of new ≡ machines_of old
  pub orders : orders_of new ≡ orders_of old
  pub notes : notes_of new ≡ notes_of old

-- the machine after its step
abbrev pub next_machine : Plain → ℕ → actors.Machine
next_machine plain number = runs.machine_next (config_of plain) (words_of plain) (order_at plain number) (machine_at plain number)

-- The machine waits outside the heap for the end of a pause, and one is wanted or goes on.
pub record IsHalted (plain : Plain) (number : ℕ) : Type 0 where
  pub awaits : Awaits (config_of plain) (machine_at plain number)
  pub wanted : slice_index (words_of plain) (word_at (config_of plain) Pause) ≢ 0
