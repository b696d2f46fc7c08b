-- What the events see of a machine in memory: the one file of this crate's definitions that tells the roles apart, since memory has the
-- machines of its own.
use Rattle.std.specs.Prelude.{ℕ, List, Bool, slice_index}
use Rattle.heap_words.specs.declared.access.Access.{Access}
use Rattle.heap_words.specs.Access.{table_index}
use Rattle.heap_words.specs.declared.config.Config.{Config}
use Rattle.shen_graph.specs.declared.order.Order.{Order}
use Rattle.shen_graph.specs.Order.{hinting}
use Rattle.mutator.specs.Seen as seen
use Rattle.collector_rows.specs.Seen as helpers
use Rattle.control.specs.Seen as controls
use Rattle.step_core.specs.Actor as actors
use Rattle.step_core.specs.Machines.{takes_of, plan_of}
use Rattle.heap_machines.specs.declared.machine.Machine.{Machine}
use Rattle.heap_machines.specs.declared.machine.Machine.TheVariants.{Mutator, Helper, Control}

abbrev pub shown : Machine → actors.Machine
shown (Mutator mutator) = actors.mutating (seen.seen mutator)
shown (Helper helper) = actors.helping (helpers.seen_helper helper)
shown (Control control) = actors.controlling (controls.seen_control control)

-- a machine of no heap, which stands where there is none
abbrev pub no_machine : actors.Machine
no_machine = actors.fresh_helper 0

-- the order that it was given
abbrev pub order_of : Machine → Order
order_of (Mutator mutator) = seen.order_of mutator
order_of (Helper helper) = hinting (helpers.hint_of helper)
order_of (Control control) = hinting (controls.hint_of control)

-- the heap that it is of
abbrev pub config_of : Machine → Config
config_of (Mutator mutator) = seen.config_of mutator
config_of (Helper helper) = helpers.config_of helper
config_of (Control control) = controls.config_in control

-- whether it makes a step: it takes the order that it was given
abbrev pub has_turn : Machine → Bool
has_turn machine = takes_of (shown machine) (order_of machine)

-- its next access
abbrev pub access_of : Machine → Access
access_of machine = plan_of (config_of machine) (order_of machine) (shown machine)

-- the word that this finds in a table
abbrev pub word_found : Machine → List ℕ → ℕ
word_found machine words = slice_index words (table_index (access_of machine))
