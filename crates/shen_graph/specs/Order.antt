-- What a machine is ordered.
use Rattle.std.specs.Prelude.{ℕ, Bool, true, false, Option, Some, None}
use Rattle.shen_graph.specs.declared.order.Order.{Order}
use Rattle.shen_graph.specs.declared.order.Order.TheVariants.{Nothing, Begin, End, Hint}

-- whether nothing is ordered
abbrev pub is_nothing : Order → Bool
is_nothing Nothing = true
is_nothing (Begin command) = false
is_nothing End = false
is_nothing (Hint address) = false

-- the address of a hint, if the order is one
abbrev pub hint_in : Order → Option ℕ
hint_in (Hint address) = Some address
hint_in _ = None

-- the order that a hint is, if there is one
abbrev pub hinting : Option ℕ → Order
hinting None = Nothing
hinting (Some address) = Hint address
