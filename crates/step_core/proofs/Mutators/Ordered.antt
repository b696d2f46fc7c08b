-- Accesses of a mutator between two calls, under an order.
use Rattle.std.proofs.Common.{◌≡◌, ℕ, ◌<◌, true, refl, arith}
use Rattle.std.proofs.lemmas.Bool.{and_parts}
use Rattle.std.proofs.lemmas.Bool.Decides.{nat_tests}
use Rattle.heap_words.specs.declared.config.Config.{Config}
use Rattle.heap_words.specs.Words.{is_word}
use Rattle.shen_graph.specs.declared.order.Order.{Order}
use Rattle.shen_graph.specs.declared.order.Order.TheVariants.{Nothing, Begin, End, Hint}
use Rattle.mutator.specs.declared.spot.Kept.{Kept}
use Rattle.mutator.specs.declared.spot.Spot.{Spot}
use Rattle.mutator.specs.declared.spot.Spot.TheVariants.{Rest, Ended, Gone}
use Rattle.mutator.specs.Fit.{is_ready}
use Rattle.mutator.specs.Orders.{takes_at}
use Rattle.mutator.specs.Rows.{touch_at}

-- its access is of a word of the table, whatever order it takes
pub order_word : (config : Config) (seat made : ℕ) (kept : Kept) (order : Order) (spot : Spot) → seat < config.mutators → is_ready config seat made kept spot ≡ true → takes_at spot made order ≡ true → is_word config (touch_at config seat made kept order spot).word ≡ true
order_word config seat made kept Nothing spot seat_below spot_ready takes = (and_parts _ _ (and_parts _ _ spot_ready).0).0
order_word config seat made kept (Begin command) Rest seat_below spot_ready takes = grind (arith, nat_tests)
order_word config seat made kept (Begin command) (Ended reply) seat_below spot_ready takes = grind (arith, nat_tests)
order_word config seat made kept (Begin command) Gone seat_below spot_ready takes = absurd (cc (takes))
order_word config seat made kept (Begin command) _ seat_below spot_ready takes = absurd (cc (takes))
order_word config seat made kept End Rest seat_below spot_ready takes = refl
order_word config seat made kept End (Ended reply) seat_below spot_ready takes = refl
order_word config seat made kept End Gone seat_below spot_ready takes = absurd (cc (takes))
order_word config seat made kept End _ seat_below spot_ready takes = absurd (cc (takes))
order_word config seat made kept (Hint address) Rest seat_below spot_ready takes = absurd (cc (takes))
order_word config seat made kept (Hint address) (Ended reply) seat_below spot_ready takes = absurd (cc (takes))
order_word config seat made kept (Hint address) Gone seat_below spot_ready takes = absurd (cc (takes))
order_word config seat made kept (Hint address) _ seat_below spot_ready takes = absurd (cc (takes))
