-- Between two calls a step begins a call, or ends the mutator: it waits for nobody.
use Rattle.std.proofs.Common.{◌≡◌, ℕ, true, refl}
use Rattle.heap_words.specs.declared.config.Config.{Config}
use Rattle.heap_words.specs.declared.access.Took.TheVariants.{More}
use Rattle.shen_graph.specs.declared.order.Order.{Order}
use Rattle.mutator.specs.declared.spot.Kept.{Kept}
use Rattle.mutator.specs.declared.spot.Spot.{Spot}
use Rattle.mutator.specs.declared.spot.Spot.TheVariants.{Rest, Ended}
use Rattle.mutator.specs.Orders.{takes_commands}
use Rattle.mutator.specs.Rows.{Mutating, next_at, call_begun, answer_at}
use Rattle.mutator.specs.Waits.{WaitsAt}

pub begins : (config : Config) (mutator : Mutating) (order : Order) (got : ℕ) (spot : Spot) → takes_commands spot ≡ true → next_at config mutator order got spot ≡ call_begun order mutator
begins config mutator order got Rest between_calls = refl
begins config mutator order got (Ended reply) between_calls = refl
begins config mutator order got _ between_calls = absurd (cc (between_calls))

pub says_more : (config : Config) (kept : Kept) (spot : Spot) (got : ℕ) → takes_commands spot ≡ true → answer_at config kept spot got ≡ More
says_more config kept Rest got between_calls = refl
says_more config kept (Ended reply) got between_calls = refl
says_more config kept _ got between_calls = absurd (cc (between_calls))

pub waits_nowhere : (spot : Spot) (got : ℕ) → takes_commands spot ≡ true → WaitsAt spot got → ⊥
waits_nowhere Rest got between_calls waits = waits
waits_nowhere (Ended reply) got between_calls waits = waits
waits_nowhere _ got between_calls waits = cc (between_calls)
