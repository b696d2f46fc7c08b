-- What a machine does on its turn, and where the access between two calls stands.
use Rattle.std.specs.Prelude.{Option, Some, None}
use Rattle.heap_words.specs.declared.place.Place.{Place}
use Rattle.heap_words.specs.declared.place.Place.TheVariants.{E1, ML}
use Rattle.shen_graph.specs.declared.command.Command.{Command}
pub use Rattle.step_core.specs.Machines.{order_for}

-- the place of the access between two calls
abbrev pub first_place_of : Option Command → Place
first_place_of None = ML
first_place_of (Some command) = E1
