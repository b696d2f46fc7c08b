-- Where a mutator stands after a step, its next access can be made.
use Rattle.std.proofs.Common.{◌≡◌, ℕ, true, refl, sym, subst}
use Rattle.heap_words.specs.declared.config.Config.{Config}
use Rattle.shen_graph.specs.declared.order.Order.{Order}
use Rattle.shen_graph.specs.declared.order.Order.TheVariants.{Nothing}
use Rattle.mutator.specs.declared.spot.Spot.{Spot}
use Rattle.mutator.specs.Orders.{is_pending}
use Rattle.mutator.specs.Rows.{Mutating, next_at, next_of}
use Rattle.mutator.specs.declared.spot.Kept.{Kept}
use Rattle.mutator.specs.Fit.{IsReady, PartFit}

-- no order stands everywhere
pub pending : (spot : Spot) (made : ℕ) (order : Order) → order ≡ Nothing → is_pending spot made order ≡ true
pending spot made order no_order = subst (λ any_order. is_pending spot made any_order ≡ true) (sym no_order) refl

-- what a mutator is after a step by the row of its spot, its next access can be made from there
pub ready_next : (config : Config) (mutator : Mutating) (order : Order) (got : ℕ) (spot : Spot) (later_mutator : Mutating) → mutator.spot ≡ spot → next_at config mutator order got spot ≡ later_mutator → IsReady config (next_of config mutator order got) → IsReady config later_mutator
ready_next config mutator order got spot later_mutator same_spot row mutator_ready = subst (IsReady config) row (subst (λ any_spot. IsReady config (next_at config mutator order got any_spot)) same_spot mutator_ready)

-- a word that is fit for the part of a spot is so for the part by its own name
pub part_at : (config : Config) (seat : ℕ) (kept : Kept) (spot own_spot : Spot) (got : ℕ) → spot ≡ own_spot → PartFit config seat kept spot got → PartFit config seat kept own_spot got
part_at config seat kept spot own_spot got same_spot fit = subst (λ any_spot. PartFit config seat kept any_spot got) same_spot fit
