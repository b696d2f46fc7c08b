-- In a call there is no order.
use Rattle.std.proofs.Common.{◌≡◌, ℕ, true, false, refl}
use Rattle.std.specs.Prelude.{◌&&◌}
use Rattle.shen_graph.specs.Order.{is_nothing}
use Rattle.shen_graph.specs.declared.order.Order.{Order}
use Rattle.shen_graph.specs.declared.order.Order.TheVariants.{Nothing, Begin, End, Hint}
use Rattle.mutator.specs.declared.spot.Spot.{Spot}
use Rattle.mutator.specs.declared.spot.Spot.TheVariants.{Rest, Ended, Gone}
use Rattle.mutator.specs.Orders.{is_between_calls, takes_commands, takes_at, is_pending}

pub in_call : (spot : Spot) (made : ℕ) (order : Order) → is_between_calls spot ≡ false → takes_at spot made order ≡ true → order ≡ Nothing
in_call Rest made order spot_busy takes = absurd (cc (spot_busy))
in_call (Ended reply) made order spot_busy takes = absurd (cc (spot_busy))
in_call Gone made order spot_busy takes = absurd (cc (spot_busy))
in_call _ made Nothing spot_busy takes = refl
in_call _ made (Begin command) spot_busy takes = absurd (cc (takes))
in_call _ made End spot_busy takes = absurd (cc (takes))
in_call _ made (Hint address) spot_busy takes = absurd (cc (takes))

-- nor is there one where no command is taken
pub in_progress : (spot : Spot) (made : ℕ) (order : Order) → takes_commands spot ≡ false → takes_at spot made order ≡ true → order ≡ Nothing
in_progress Rest made order spot_busy takes = absurd (cc (spot_busy))
in_progress (Ended reply) made order spot_busy takes = absurd (cc (spot_busy))
in_progress Gone made order spot_busy takes = absurd (cc (takes))
in_progress _ made Nothing spot_busy takes = refl
in_progress _ made (Begin command) spot_busy takes = absurd (cc (takes))
in_progress _ made End spot_busy takes = absurd (cc (takes))
in_progress _ made (Hint address) spot_busy takes = absurd (cc (takes))

-- a mutator that is not idle takes the order that it was given
pub takes_where_busy : (spot : Spot) (made : ℕ) (order : Order) → (is_between_calls spot && is_nothing order) ≡ false → is_pending spot made order ≡ true → takes_at spot made order ≡ true
takes_where_busy Rest made Nothing spot_busy pending = absurd (cc)
takes_where_busy Rest made (Begin command) spot_busy pending = pending
takes_where_busy Rest made End spot_busy pending = refl
takes_where_busy Rest made (Hint address) spot_busy pending = absurd (cc)
takes_where_busy (Ended reply) made Nothing spot_busy pending = absurd (cc)
takes_where_busy (Ended reply) made (Begin command) spot_busy pending = pending
takes_where_busy (Ended reply) made End spot_busy pending = refl
takes_where_busy (Ended reply) made (Hint address) spot_busy pending = absurd (cc)
takes_where_busy Gone made Nothing spot_busy pending = absurd (cc)
takes_where_busy Gone made (Begin command) spot_busy pending = absurd (cc)
takes_where_busy Gone made End spot_busy pending = absurd (cc)
takes_where_busy Gone made (Hint address) spot_busy pending = absurd (cc)
takes_where_busy _ made Nothing spot_busy pending = refl
takes_where_busy _ made (Begin command) spot_busy pending = absurd (cc)
takes_where_busy _ made End spot_busy pending = absurd (cc)
takes_where_busy _ made (Hint address) spot_busy pending = absurd (cc)
