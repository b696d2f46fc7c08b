-- A mutator that makes an object has made fewer than all, and its taking of room can go on.
use Rattle.std.proofs.Common.{◌≡◌, ℕ, ◌<◌, true, refl, subst}
use Rattle.std.proofs.lemmas.Bool.{and_parts, and_from, ltb-true}
use Rattle.heap_words.specs.declared.config.Config.{Config}
use Rattle.mutator.specs.declared.spot.Kept.{Kept}
use Rattle.mutator.specs.declared.spot.Spot.{Spot}
use Rattle.mutator.specs.declared.spot.Spot.TheVariants.{Making}
use Rattle.mutator.specs.declared.makes.MakeSpot.{MakeSpot}
use Rattle.mutator.specs.declared.makes.MakeSpot.TheVariants.{Taking, StoreWord, StoreRoot}
use Rattle.alloc_buffers.specs.declared.spot.TakeSpot.{TakeSpot}
use Rattle.alloc_buffers.specs.declared.spot.TakeSpot.TheVariants.{Ended}
use Rattle.alloc_buffers.specs.declared.spot.Taken.TheVariants.{At, NoRoom}
use Rattle.alloc_buffers.specs.Rows as takes
use Rattle.shen_graph.specs.declared.order.Order.TheVariants.{Nothing}
use Rattle.shen_graph.specs.Valid.{most_objects}
use Rattle.mutator.specs.Rows.{Mutating, words_made, after_take, take_next, next_at}
use Rattle.heap_words.specs.Fits.{touch_fits}
use Rattle.std.specs.Prelude.{◌&&◌}
use Rattle.mutator.specs.Fit.{is_ready, can_make, is_going, IsReady, make_goes}

-- where it can make its next access
makes_more : (config : Config) (seat made : ℕ) (kept : Kept) (spot : MakeSpot) → is_ready config seat made kept (Making spot) ≡ true → made < most_objects
makes_more config seat made kept spot spot_ready = ltb-true _ _ (and_parts _ _ (and_parts _ _ (and_parts _ _ spot_ready).1).0).0

pub can_make_more : (config : Config) (seat made : ℕ) (kept : Kept) (spot : Spot) (make_spot : MakeSpot) → spot ≡ Making make_spot → is_ready config seat made kept spot ≡ true → made < most_objects
can_make_more config seat made kept spot make_spot same_spot spot_ready = makes_more config seat made kept make_spot (subst (λ any_spot. is_ready config seat made kept any_spot ≡ true) same_spot spot_ready)

-- where it goes on with a taking of room, the taking can make its next access
going_ready : (config : Config) (seat made : ℕ) (kept : Kept) (next : TakeSpot) → is_ready config seat made kept (Making (Taking next)) ≡ true → takes.is_ready config seat (words_made kept.command) next ≡ true
going_ready config seat made kept next spot_ready =
    let touch_fits_there = touch_fits config (takes.touch_at seat (words_made kept.command) next) in
    let numbers = takes.numbers_fit config (words_made kept.command) next in
    let ready_parts = and_parts touch_fits_there (can_make made kept.command && (is_going next && numbers)) spot_ready in
    and_from touch_fits_there numbers ready_parts.0 (and_parts (is_going next) numbers (and_parts (can_make made kept.command) (is_going next && numbers) ready_parts.1).1).1

take_ready : (config : Config) (seat made : ℕ) (kept : Kept) (next : TakeSpot) → is_ready config seat made kept (after_take next) ≡ true → takes.is_ready config seat (words_made kept.command) next ≡ true
take_ready config seat made kept (Ended (At address) end) spot_ready = refl
take_ready config seat made kept (Ended NoRoom end) spot_ready = refl
take_ready config seat made kept next spot_ready = going_ready config seat made kept next spot_ready

-- so where it is ready after a step of the making, the making can go on
pub making_goes : (config : Config) (mutator : Mutating) (spot : MakeSpot) (got : ℕ) → IsReady config (next_at config mutator Nothing got (Making spot)) → make_goes config mutator.seat mutator.kept.command spot got ≡ true
making_goes config mutator (Taking take_spot) got mutator_ready = take_ready config mutator.seat mutator.made mutator.kept (take_next config mutator.kept.command take_spot got) mutator_ready
making_goes config mutator (StoreWord address done) got mutator_ready = refl
making_goes config mutator (StoreRoot address) got mutator_ready = refl
