-- The steps of a mutator that is not in the heap: they settle nothing, and are of no word of the image but its own answer.
use Rattle.std.proofs.Common.{◌≡◌, ℕ, ◌⊎◌, inl, inr, true, false, Option, None, refl, sym, ◌∙◌, arith}
use Rattle.std.specs.Prelude.{◌==◌}
use Rattle.std.proofs.lemmas.Bool.{eq-eqb, cond-true}
use Rattle.heap_words.proofs.Bools.{if_either_way}
use Rattle.heap_words.specs.declared.config.Config.{Config}
use Rattle.heap_words.specs.Words.{Word, Answer, is_image}
use Rattle.shen_graph.specs.declared.order.Order.{Order}
use Rattle.shen_graph.specs.declared.order.Order.TheVariants.{Nothing, Begin, End, Hint}
use Rattle.handshake.specs.declared.enter_spot.EnterSpot.TheVariants as enter
use Rattle.handshake.specs.Standing.{is_within}
use Rattle.mutator.specs.declared.spot.Kept.{Kept}
use Rattle.mutator.specs.declared.spot.Spot.{Spot}
use Rattle.mutator.specs.declared.pins.PinSpot.TheVariants as pins
use Rattle.mutator.specs.declared.spot.Spot.TheVariants.{Rest, Ended, Entering, Loading, OnField, Resolving, Recording, OnNumber, Showing, Making, Pinning, Waiting, Gone}
use Rattle.mutator.specs.declared.loads.LoadSpot.TheVariants as load
use Rattle.mutator.specs.declared.fields.FieldSpot.TheVariants as fields
use Rattle.mutator.specs.declared.numbers.NumberSpot.TheVariants as numbers
use Rattle.mutator.specs.declared.shows.ShowSpot.TheVariants as show
use Rattle.mutator.specs.declared.makes.MakeSpot.TheVariants as make
use Rattle.alloc_buffers.proofs.Accesses.{others_stay}
use Rattle.load_barrier.specs.declared.copying.CopySpot.{CopySpot}
use Rattle.load_barrier.specs.declared.copying.CopySpot.TheVariants as copying
use Rattle.load_barrier.specs.declared.spot.ResolveSpot.{ResolveSpot}
use Rattle.load_barrier.specs.declared.spot.ResolveSpot.TheVariants as resolve
use Rattle.load_barrier.specs.Rows as resolves
use Rattle.mutator.specs.declared.waits.WaitSpot.TheVariants as wait
use Rattle.satb_barrier.specs.declared.spot.RememberSpot.TheVariants as remember
use Rattle.mutator.specs.Orders.{takes_at}
use Rattle.mutator.specs.Rows.{words_made, touch_at, given_at}
use Rattle.heap_words.specs.Touch.{touched}
use Rattle.mutator.specs.Told.{told_at}
use Rattle.shen_graph.specs.declared.command.Command.{Command}
use Rattle.shen_graph.specs.declared.command.Reply.{Reply}
use Rattle.heap_world.specs.World.{World}
use Rattle.step_core.specs.Standing.{standing_at}
use Rattle.step_core.proofs.Machines.Stepped.{Mine}
use Rattle.step_core.proofs.Mutators.Spots.{mutator_at}

-- its access is of no word of the image, or it looks for its answer
pub outside_touch : (config : Config) (seat made : ℕ) (kept : Kept) (order : Order) (spot : Spot) → is_within (standing_at spot) ≡ false → takes_at spot made order ≡ true
    → (is_image (touch_at config seat made kept order spot).word ≡ false) ⊎ (spot ≡ Waiting wait.Poll)
outside_touch config seat made kept Nothing Rest outside takes = cc
outside_touch config seat made kept (Begin command) Rest outside takes = inl refl
outside_touch config seat made kept End Rest outside takes = inl refl
outside_touch config seat made kept (Hint address) Rest outside takes = cc
outside_touch config seat made kept Nothing (Ended reply) outside takes = cc
outside_touch config seat made kept (Begin command) (Ended reply) outside takes = inl refl
outside_touch config seat made kept End (Ended reply) outside takes = inl refl
outside_touch config seat made kept (Hint address) (Ended reply) outside takes = cc
outside_touch config seat made kept order (Entering enter.Raise then_on) outside takes = inl refl
outside_touch config seat made kept order (Entering enter.Look then_on) outside takes = inl refl
outside_touch config seat made kept order (Entering enter.Lower then_on) outside takes = inl refl
outside_touch config seat made kept order (Entering enter.Await then_on) outside takes = inl refl
outside_touch config seat made kept order (Entering enter.Inside then_on) outside takes = cc
outside_touch config seat made kept order (Waiting wait.Poll) outside takes = inr refl
outside_touch config seat made kept order (Waiting wait.StoreRequest) outside takes = cc
outside_touch config seat made kept order (Waiting wait.AskRoom) outside takes = cc
outside_touch config seat made kept order (Waiting wait.StepOut) outside takes = cc
outside_touch config seat made kept order (Waiting wait.LoadAnswer) outside takes = cc
outside_touch config seat made kept order (Waiting (wait.StoreRoot address)) outside takes = cc
outside_touch config seat made kept order (Waiting (wait.ClearAnswer reply)) outside takes = cc
outside_touch config seat made kept order Gone outside takes = cc
outside_touch config seat made kept order _ outside takes = cc

-- it settles nothing
pub outside_told : (memory : Word → ℕ) (seat made : ℕ) (kept : Kept) (spot : Spot) → is_within (standing_at spot) ≡ false → told_at memory seat made kept spot ≡ None
outside_told memory seat made kept Rest outside = refl
outside_told memory seat made kept (Ended reply) outside = refl
outside_told memory seat made kept (Entering spot then_on) outside = refl
outside_told memory seat made kept (Waiting wait.Poll) outside = refl
outside_told memory seat made kept (Waiting wait.StoreRequest) outside = cc
outside_told memory seat made kept (Waiting wait.AskRoom) outside = cc
outside_told memory seat made kept (Waiting wait.StepOut) outside = cc
outside_told memory seat made kept (Waiting wait.LoadAnswer) outside = cc
outside_told memory seat made kept (Waiting (wait.StoreRoot address)) outside = cc
outside_told memory seat made kept (Waiting (wait.ClearAnswer reply)) outside = cc
outside_told memory seat made kept Gone outside = refl
outside_told memory seat made kept _ outside = cc

-- and gives no reply
pub outside_given : (spot : Spot) → is_within (standing_at spot) ≡ false → given_at spot ≡ None
outside_given Rest outside = refl
outside_given (Ended reply) outside = refl
outside_given (Entering spot then_on) outside = refl
outside_given (Waiting spot) outside = refl
outside_given Gone outside = refl
outside_given _ outside = cc

-- no step of a resolving is of an answer
copy_answer : (memory : Word → ℕ) (seat address copy end mutator : ℕ) (spot : CopySpot) → touched memory (resolves.copy_touch seat address copy end spot) (Answer mutator) ≡ memory (Answer mutator)
copy_answer memory seat address copy end mutator (copying.LoadWord words index) = refl
copy_answer memory seat address copy end mutator (copying.StoreWord words index found) = refl
copy_answer memory seat address copy end mutator copying.StoreHeader = refl
copy_answer memory seat address copy end mutator copying.Publish = refl
copy_answer memory seat address copy end mutator (copying.GiveBack answer) = refl

resolve_answer : (config : Config) (memory : Word → ℕ) (seat address mutator : ℕ) (spot : ResolveSpot) → touched memory (resolves.touch_at config seat address spot) (Answer mutator) ≡ memory (Answer mutator)
resolve_answer config memory seat address mutator resolve.LoadHeader = refl
resolve_answer config memory seat address mutator (resolve.Entering spot) = refl
resolve_answer config memory seat address mutator resolve.LoadShape = refl
resolve_answer config memory seat address mutator (resolve.Taking words spot) = others_stay seat words memory spot (Answer mutator) refl
resolve_answer config memory seat address mutator (resolve.Copying copy end spot) = copy_answer memory seat address copy end mutator spot
resolve_answer config memory seat address mutator (resolve.Leaving answer) = refl
resolve_answer config memory seat address mutator (resolve.Stopping spot) = refl
resolve_answer config memory seat address mutator resolve.LoadAgain = refl
resolve_answer config memory seat address mutator (resolve.Resolved answer) = refl

-- a step of a mutator never writes into its answer that the heap is full
pub answer_before : (config : Config) (memory : Word → ℕ) (seat made : ℕ) (kept : Kept) (order : Order) (spot : Spot) → touched memory (touch_at config seat made kept order spot) (Answer seat) ≡ 1 → memory (Answer seat) ≡ 1
answer_before config memory seat made kept Nothing Rest answer_now = answer_now
answer_before config memory seat made kept (Begin command) Rest answer_now = answer_now
answer_before config memory seat made kept End Rest answer_now = answer_now
answer_before config memory seat made kept (Hint address) Rest answer_now = answer_now
answer_before config memory seat made kept Nothing (Ended reply) answer_now = answer_now
answer_before config memory seat made kept (Begin command) (Ended reply) answer_now = answer_now
answer_before config memory seat made kept End (Ended reply) answer_now = answer_now
answer_before config memory seat made kept (Hint address) (Ended reply) answer_now = answer_now
answer_before config memory seat made kept order (Entering enter.Raise then_on) answer_now = answer_now
answer_before config memory seat made kept order (Entering enter.Look then_on) answer_now = answer_now
answer_before config memory seat made kept order (Entering enter.Lower then_on) answer_now = answer_now
answer_before config memory seat made kept order (Entering enter.Await then_on) answer_now = answer_now
answer_before config memory seat made kept order (Entering enter.Inside then_on) answer_now = answer_now
answer_before config memory seat made kept order (Loading load.First) answer_now = answer_now
answer_before config memory seat made kept order (Loading (load.Second first)) answer_now = answer_now
answer_before config memory seat made kept order (Loading (load.Third first second)) answer_now = answer_now
answer_before config memory seat made kept order (Loading (load.Shape object second third)) answer_now = answer_now
answer_before config memory seat made kept order (OnField object fields.Load) answer_now = answer_now
answer_before config memory seat made kept order (OnField object (fields.LoadExpected expect value)) answer_now = answer_now
answer_before config memory seat made kept order (OnField object (fields.LoadOld value)) answer_now = answer_now
answer_before config memory seat made kept order (OnField object (fields.Store value)) answer_now = answer_now
answer_before config memory seat made kept order (OnField object (fields.Swap value)) answer_now = answer_now
answer_before config memory seat made kept order (OnField object (fields.Exchange found expect value)) answer_now = answer_now
answer_before config memory seat made kept order (Recording remember.LoadCount address next) answer_now = answer_now
answer_before config memory seat made kept order (Recording (remember.LoadEntry entry) address next) answer_now = answer_now
answer_before config memory seat made kept order (Recording (remember.MarkEntry entry found) address next) answer_now = answer_now
answer_before config memory seat made kept order (Recording remember.ClearCount address next) answer_now = answer_now
answer_before config memory seat made kept order (Recording (remember.StoreEntry entry) address next) answer_now = answer_now
answer_before config memory seat made kept order (Recording (remember.StoreCount entry) address next) answer_now = answer_now
answer_before config memory seat made kept order (Recording remember.Recorded address next) answer_now = answer_now
answer_before config memory seat made kept order (OnNumber object refs numbers.Load) answer_now = answer_now
answer_before config memory seat made kept order (OnNumber object refs numbers.Store) answer_now = answer_now
answer_before config memory seat made kept order (Showing value show.LoadName) answer_now = answer_now
answer_before config memory seat made kept order (Showing value (show.StoreRoot reply)) answer_now = answer_now
answer_before config memory seat made kept order (Pinning value pins.Look) answer_now = answer_now
answer_before config memory seat made kept order (Pinning value pins.Store) answer_now = answer_now
answer_before config memory seat made kept order (Making (make.Taking take)) answer_now = sym (others_stay seat (words_made kept.command) memory take (Answer seat) refl) ∙ answer_now
answer_before config memory seat made kept order (Making (make.StoreWord address done_words)) answer_now = answer_now
answer_before config memory seat made kept order (Making (make.StoreRoot address)) answer_now = answer_now
answer_before config memory seat made kept order (Waiting wait.StoreRequest) answer_now = answer_now
answer_before config memory seat made kept order (Waiting wait.AskRoom) answer_now = answer_now
answer_before config memory seat made kept order (Waiting wait.StepOut) answer_now = answer_now
answer_before config memory seat made kept order (Waiting wait.Poll) answer_now = sym (if_either_way (seat == seat) (memory (Answer seat))) ∙ answer_now
answer_before config memory seat made kept order (Waiting wait.LoadAnswer) answer_now = sym (if_either_way (seat == seat) (memory (Answer seat))) ∙ answer_now
answer_before config memory seat made kept order (Waiting (wait.StoreRoot address)) answer_now = answer_now
answer_before config memory seat made kept order (Waiting (wait.ClearAnswer reply)) answer_now = absurd (let answer_cleared = cond-true (seat == seat) 0 (memory (Answer seat)) (eq-eqb seat seat refl) in omega (arith, answer_now, answer_cleared))
answer_before config memory seat made kept order (Resolving address spot next) answer_now = sym (resolve_answer config memory seat address seat spot) ∙ answer_now
answer_before config memory seat made kept order _ answer_now = answer_now

-- who is refused settles and gives nothing until it has cleared its answer
pub refused_quiet : (config : Config) (world : World) (seat made : ℕ) (kept : Kept) (command : Command) (fixed : Option Reply) (spot : Spot) → world.memory (Answer seat) ≡ 1
    → Mine config world (mutator_at seat made kept spot) command fixed → (told_at world.memory seat made kept spot ≡ None) × (given_at spot ≡ None)
refused_quiet config world seat made kept command fixed (Waiting wait.StoreRequest) answer_full own_facts = (refl, refl)
refused_quiet config world seat made kept command fixed (Waiting wait.AskRoom) answer_full own_facts = (refl, refl)
refused_quiet config world seat made kept command fixed (Waiting wait.StepOut) answer_full own_facts = (refl, refl)
refused_quiet config world seat made kept command fixed (Waiting wait.Poll) answer_full own_facts = (refl, refl)
refused_quiet config world seat made kept command fixed (Waiting wait.LoadAnswer) answer_full own_facts = (refl, refl)
refused_quiet config world seat made kept command fixed (Waiting (wait.StoreRoot address)) answer_full own_facts = absurd (let refusal_facts = own_facts.facts.0.1.1 in omega (arith, answer_full, refusal_facts))
refused_quiet config world seat made kept command fixed (Waiting (wait.ClearAnswer reply)) answer_full own_facts = (refl, refl)
refused_quiet config world seat made kept command fixed (Entering spot then_on) answer_full own_facts = (refl, refl)
refused_quiet config world seat made kept command fixed _ answer_full own_facts = absurd (let none_told = (own_facts.seated.unasked refl).1 in omega (arith, answer_full, none_told))
