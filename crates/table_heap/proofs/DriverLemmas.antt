-- The entries of a driver, one more at a time.
use Rattle.std.proofs.Common.{◌≡◌, List, [], ◌∷◌, ◌++◌, Option, Some, refl}
use Rattle.shen_graph.specs.declared.command.Command.{Command}
use Rattle.shen_graph.specs.declared.command.Reply.{Reply}
use Rattle.shen_graph.specs.History.{Entry}
use Rattle.table_heap.specs.Drivers.{IsDrivenFrom, driver_after}

module _ {D : Type 0} (next_of : D → Option Command) (replied : D → Reply → D) where
  -- one entry more is the one that the driver gives after the others
  pub driven_more : (state : D) (entries : List Entry) (entry : Entry) → IsDrivenFrom next_of replied state entries → next_of (driver_after replied state entries) ≡ Some entry.command → IsDrivenFrom next_of replied state (entries ++ entry ∷ [])
  driven_more state [] entry driven next_given = (next_given, tt)
  driven_more state (first_entry ∷ entries) entry driven next_given = (driven.0, driven_more (replied state first_entry.reply) entries entry driven.1 next_given)

  pub after_more : (state : D) (entries : List Entry) (entry : Entry) → driver_after replied state (entries ++ entry ∷ []) ≡ replied (driver_after replied state entries) entry.reply
  after_more state [] entry = refl
  after_more state (first_entry ∷ entries) entry = after_more (replied state first_entry.reply) entries entry
