-- What the events see of a mutator.
use Rattle.std.specs.Prelude.{ℕ, List, Bool, ◌&&◌, slice_index}
use Rattle.heap_words.specs.declared.access.Access.{Access}
use Rattle.heap_words.specs.Access.{table_index}
use Rattle.heap_words.specs.declared.config.Config.{Config}
use Rattle.heap_words.specs.Touch.{placed}
use Rattle.mutator.specs.declared.thread.Mutator.{Mutator}
use Rattle.shen_graph.specs.declared.order.Order.{Order}
use Rattle.shen_graph.specs.Order.{is_nothing}
use Rattle.mutator.specs.Orders.{is_between_calls}
use Rattle.mutator.specs.Rows.{Mutating, touch_of}

-- all but its configuration and the order that it was given
abbrev pub seen : Mutator → Mutating
seen mutator = record { seat = mutator.mutator; made = mutator.made; kept = mutator.kept; spot = mutator.spot }

-- the heap that it works on
abbrev pub config_of : Mutator → Config
config_of mutator = mutator.config

-- the order that it was given
abbrev pub order_of : Mutator → Order
order_of mutator = mutator.order

-- neither a call is in progress nor one to begin
abbrev pub is_idle : Mutator → Bool
is_idle mutator = is_between_calls mutator.spot && is_nothing mutator.order

-- its next access
abbrev pub access_of : Mutator → Access
access_of mutator = placed (config_of mutator) (touch_of (config_of mutator) (seen mutator) (order_of mutator))

-- the word that this finds in a table
abbrev pub word_found : Mutator → List ℕ → ℕ
word_found mutator words = slice_index words (table_index (access_of mutator))
