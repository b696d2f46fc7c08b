-- A mutator obeys the handshake, and counts itself off where it ends.
use Rattle.std.proofs.Common.{◌≡◌, ℕ, Bool, true, false, refl, sym, ◌∙◌, arith, inl, inr}
use Rattle.std.specs.Prelude.{nat_eq, ◌&&◌, if◌then◌else◌}
use Rattle.heap_words.specs.declared.config.Config.{Config}
use Rattle.heap_words.specs.Words.{IsWord, is_word, is_image}
use Rattle.heap_words.proofs.Stores.{is_word_true}
use Rattle.std.proofs.lemmas.Bool.{and_parts}
use Rattle.heap_words.specs.Touch.{placed}
use Rattle.shen_graph.specs.declared.order.Order.{Order}
use Rattle.shen_graph.specs.declared.order.Order.TheVariants.{Nothing, Begin, End, Hint}
use Rattle.shen_graph.specs.declared.command.Reply.{Reply}
use Rattle.heap_words.specs.Words.{Left}
use Rattle.heap_words.specs.Touch.{touch, subtracts}
use Rattle.alloc_buffers.proofs.Accesses.{in_image}
use Rattle.satb_barrier.specs.declared.spot.RememberSpot.{RememberSpot}
use Rattle.satb_barrier.specs.declared.spot.RememberSpot.TheVariants.{LoadCount, LoadEntry, MarkEntry, ClearCount, StoreEntry, StoreCount, Recorded}
use Rattle.handshake.specs.declared.enter_spot.EnterSpot.{EnterSpot}
use Rattle.handshake.specs.declared.enter_spot.EnterSpot.TheVariants.{Raise, Look, Lower, Await, Inside}
use Rattle.handshake.specs.EnterRows.{next_at as enter_next, is_ended as is_entered}
use Rattle.handshake.specs.Standing.{outside, inside, is_within, enter_standing}
use Rattle.handshake.specs.Obeys.{Obeys}
use Rattle.handshake.specs.Left.{Counts}
use Rattle.handshake.proofs.Obeying.{placed_elsewhere, placed_above, image_elsewhere, image_not_left, enter_obeys, obeys_same}
use Rattle.mutator.specs.declared.spot.Kept.{Kept}
use Rattle.mutator.specs.declared.spot.Entered.{Entered}
use Rattle.mutator.specs.declared.spot.Entered.TheVariants.{Call, Waited}
use Rattle.mutator.specs.declared.spot.Spot.{Spot}
use Rattle.load_barrier.proofs.Inside.{resolve_image}
use Rattle.mutator.specs.declared.pins.PinSpot.{PinSpot}
use Rattle.mutator.specs.declared.pins.PinSpot.TheVariants as pins
use Rattle.mutator.specs.declared.spot.Spot.TheVariants.{Rest, Ended, Entering, LoadPhase, LoadSet, Loading, OnField, Resolving, Recording, OnNumber, Showing, StoreRoot, Making, AskCycle, Pinning, Waiting, Leave, Gone}
use Rattle.mutator.specs.declared.loads.LoadSpot.{LoadSpot}
use Rattle.mutator.specs.declared.loads.LoadSpot.TheVariants as load
use Rattle.mutator.specs.declared.fields.FieldSpot.{FieldSpot}
use Rattle.mutator.specs.declared.fields.FieldSpot.TheVariants as fields
use Rattle.mutator.specs.declared.overwrites.Overwritten.{Overwritten}
use Rattle.mutator.specs.declared.numbers.NumberSpot.{NumberSpot}
use Rattle.mutator.specs.declared.numbers.NumberSpot.TheVariants as number
use Rattle.mutator.specs.declared.shows.ShowSpot.{ShowSpot}
use Rattle.mutator.specs.declared.shows.ShowSpot.TheVariants as show
use Rattle.mutator.specs.declared.makes.MakeSpot.{MakeSpot}
use Rattle.mutator.specs.declared.makes.MakeSpot.TheVariants as make
use Rattle.mutator.specs.declared.waits.WaitSpot.{WaitSpot}
use Rattle.mutator.specs.declared.waits.WaitSpot.TheVariants as wait
use Rattle.mutator.specs.Orders.{takes_at}
use Rattle.mutator.specs.Fit.{is_still_outside, numbers_fit, stores_fit, IsReady}
use Rattle.step_core.specs.Standing.{wait_standing, standing_at}
use Rattle.step_core.proofs.Mutators.Within.{goes_on_in}
use Rattle.mutator.specs.WaitRows.{after_enter}
use Rattle.mutator.specs.Rows.{Mutating, words_made, first_touch, call_begun, touch_at, touch_of, next_of}

-- whether a mutator has not ended
abbrev pub has_not_ended : Spot → Bool
has_not_ended Gone = false
has_not_ended _ = true

-- whether a spot is in the heap
abbrev in_heap : Spot → Bool
in_heap spot = is_within (standing_at spot)

-- who is in the heap has not ended
in_heap_left : (spot : Spot) → in_heap spot ≡ true → has_not_ended spot ≡ true
in_heap_left Gone inside_heap = absurd (cc (inside_heap))
in_heap_left _ inside_heap = refl

entering_left : (next : Entered) (spot : EnterSpot) → has_not_ended (after_enter next spot) ≡ true
entering_left Call Inside = refl
entering_left Waited Inside = refl
entering_left next _ = refl

enter_same : (next : Entered) (spot : EnterSpot) → standing_at (after_enter next spot) ≡ enter_standing spot
enter_same Call Inside = refl
enter_same Waited Inside = refl
enter_same next _ = refl

-- the words that parts access are of the image
load_image : (config : Config) (seat made : ℕ) (kept : Kept) (order : Order) (spot : LoadSpot) → is_image (touch_at config seat made kept order (Loading spot)).word ≡ true
load_image config seat made kept order load.First = refl
load_image config seat made kept order (load.Second first) = refl
load_image config seat made kept order (load.Third first second) = refl
load_image config seat made kept order (load.Shape object second third) = refl

field_image : (config : Config) (seat made object : ℕ) (kept : Kept) (order : Order) (spot : FieldSpot) → is_image (touch_at config seat made kept order (OnField object spot)).word ≡ true
field_image config seat made object kept order fields.Load = refl
field_image config seat made object kept order (fields.LoadExpected expect value) = refl
field_image config seat made object kept order (fields.LoadOld value) = refl
field_image config seat made object kept order (fields.Store value) = refl
field_image config seat made object kept order (fields.Swap value) = refl
field_image config seat made object kept order (fields.Exchange found expect value) = refl

record_image : (config : Config) (seat made address : ℕ) (kept : Kept) (order : Order) (spot : RememberSpot) (next : Overwritten) → is_image (touch_at config seat made kept order (Recording spot address next)).word ≡ true
record_image config seat made address kept order LoadCount next = refl
record_image config seat made address kept order (LoadEntry entry) next = refl
record_image config seat made address kept order (MarkEntry entry found) next = refl
record_image config seat made address kept order ClearCount next = refl
record_image config seat made address kept order (StoreEntry entry) next = refl
record_image config seat made address kept order (StoreCount entry) next = refl
record_image config seat made address kept order Recorded next = refl

number_image : (config : Config) (seat made object refs : ℕ) (kept : Kept) (order : Order) (spot : NumberSpot) → is_image (touch_at config seat made kept order (OnNumber object refs spot)).word ≡ true
number_image config seat made object refs kept order number.Load = refl
number_image config seat made object refs kept order number.Store = refl

show_image : (config : Config) (seat made value : ℕ) (kept : Kept) (order : Order) (spot : ShowSpot) → is_image (touch_at config seat made kept order (Showing value spot)).word ≡ true
show_image config seat made value kept order show.LoadName = refl
show_image config seat made value kept order (show.StoreRoot reply) = refl

pin_image : (config : Config) (seat made value : ℕ) (kept : Kept) (order : Order) (spot : PinSpot) → is_image (touch_at config seat made kept order (Pinning value spot)).word ≡ true
pin_image config seat made value kept order pins.Look = refl
pin_image config seat made value kept order pins.Store = refl

make_image : (config : Config) (seat made : ℕ) (kept : Kept) (order : Order) (spot : MakeSpot) → is_image (touch_at config seat made kept order (Making spot)).word ≡ true
make_image config seat made kept order (make.Taking take_spot) = in_image seat (words_made kept.command) take_spot
make_image config seat made kept order (make.StoreWord address done) = refl
make_image config seat made kept order (make.StoreRoot address) = refl

-- a mutator that enters is not inside yet
not_entered : (spot : EnterSpot) → is_still_outside spot ≡ true → is_entered spot ≡ false
not_entered Inside still_outside = absurd (cc (still_outside))
not_entered _ still_outside = refl

-- an order that a mutator may be given between two calls: a command, or the end
abbrev pub IsGiven : Order → Type 0
IsGiven Nothing = ⊥
IsGiven (Begin command) = Unit {0}
IsGiven End = Unit {0}
IsGiven (Hint address) = ⊥

-- a mutator between two calls: it enters, or ends
begins : (config : Config) (mutator : Mutating) (order : Order) → IsGiven order
    → Obeys config mutator.seat outside (placed config (first_touch mutator.seat order)) (λ got. standing_at (call_begun order mutator).spot)
begins config mutator Nothing order_given = absurd order_given
begins config mutator (Hint address) order_given = absurd order_given
begins config mutator (Begin command) order_given = inl (record { access_is = refl; next_is = λ got. refl })
begins config mutator End order_given = inr (record { harmless = inr (placed_elsewhere config (touch Left (subtracts 1)) tt refl, omega arith); next_is = λ got. refl })

begins_count : (config : Config) (mutator : Mutating) (order : Order) → IsGiven order → Counts config true (placed config (first_touch mutator.seat order)) (λ got. has_not_ended (call_begun order mutator).spot)
begins_count config mutator Nothing order_given = absurd order_given
begins_count config mutator (Hint address) order_given = absurd order_given
begins_count config mutator (Begin command) order_given = inr (record { not_written = inr (λ same_place. omega (arith, same_place)); same = λ got. refl })
begins_count config mutator End order_given = inl (record { access_is = refl; was_left = refl; has_ended = λ got. refl })

module _ (config : Config) (mutator : Mutating) (order : Order) where
  -- what a mutator that stands at a spot obeys
  abbrev pub ObeysAt : Spot → Type 0
  ObeysAt spot = Obeys config mutator.seat (standing_at spot) (placed config (touch_at config mutator.seat mutator.made mutator.kept order spot)) (λ got. standing_at (next_of config (record mutator { spot = spot }) order got).spot)

  -- the step stays in the heap: it is of a word of the image, and its next spot is in the heap
  pub record StaysIn (spot : Spot) : Type 0 where
    pub image : is_image (touch_at config mutator.seat mutator.made mutator.kept order spot).word ≡ true
    pub next : (got : ℕ) → in_heap (next_of config (record mutator { spot = spot }) order got).spot ≡ true

  pub waits_in : (spot : WaitSpot) → wait_standing spot ≡ inside → StaysIn (Waiting spot)
  waits_in wait.StepOut inside_there = absurd (cc (inside_there))
  waits_in wait.Poll inside_there = absurd (cc (inside_there))
  waits_in wait.LoadAnswer inside_there = record { image = refl; next = λ got. goes_on_in config mutator order got (Waiting wait.LoadAnswer) inside_there }
  waits_in wait.StoreRequest inside_there = record { image = refl; next = λ got. refl }
  waits_in wait.AskRoom inside_there = record { image = refl; next = λ got. refl }
  waits_in (wait.StoreRoot address) inside_there = record { image = refl; next = λ got. refl }
  waits_in (wait.ClearAnswer reply) inside_there = record { image = refl; next = λ got. refl }

  not_inside : (spot : EnterSpot) → is_still_outside spot ≡ true → enter_standing spot ≡ inside → ⊥
  not_inside Inside still_outside inside_there = absurd (cc (still_outside))
  not_inside Raise still_outside inside_there = cc
  not_inside Look still_outside inside_there = cc
  not_inside Lower still_outside inside_there = cc
  not_inside Await still_outside inside_there = cc

  pub stays_in : (spot : Spot) → numbers_fit config mutator.seat mutator.made mutator.kept spot ≡ true → standing_at spot ≡ inside → StaysIn spot
  stays_in LoadPhase numbers_right inside_there = record { image = refl; next = λ got. goes_on_in config mutator order got LoadPhase inside_there }
  stays_in LoadSet numbers_right inside_there = record { image = refl; next = λ got. goes_on_in config mutator order got LoadSet inside_there }
  stays_in (Loading spot) numbers_right inside_there = record { image = load_image config mutator.seat mutator.made mutator.kept order spot; next = λ got. goes_on_in config mutator order got (Loading spot) inside_there }
  stays_in (OnField object spot) numbers_right inside_there = record { image = field_image config mutator.seat mutator.made object mutator.kept order spot; next = λ got. goes_on_in config mutator order got (OnField object spot) inside_there }
  stays_in (Resolving address spot next) numbers_right inside_there = record { image = resolve_image config mutator.seat address spot; next = λ got. goes_on_in config mutator order got (Resolving address spot next) inside_there }
  stays_in (Recording spot address next) numbers_right inside_there = record { image = record_image config mutator.seat mutator.made address mutator.kept order spot next; next = λ got. goes_on_in config mutator order got (Recording spot address next) inside_there }
  stays_in (OnNumber object refs spot) numbers_right inside_there = record { image = number_image config mutator.seat mutator.made object refs mutator.kept order spot; next = λ got. goes_on_in config mutator order got (OnNumber object refs spot) inside_there }
  stays_in (Showing value spot) numbers_right inside_there = record { image = show_image config mutator.seat mutator.made value mutator.kept order spot; next = λ got. goes_on_in config mutator order got (Showing value spot) inside_there }
  stays_in (StoreRoot value) numbers_right inside_there = record { image = refl; next = λ got. goes_on_in config mutator order got (StoreRoot value) inside_there }
  stays_in (Making spot) numbers_right inside_there = record { image = make_image config mutator.seat mutator.made mutator.kept order spot; next = λ got. goes_on_in config mutator order got (Making spot) inside_there }
  stays_in (Pinning value spot) numbers_right inside_there = record { image = pin_image config mutator.seat mutator.made value mutator.kept order spot; next = λ got. goes_on_in config mutator order got (Pinning value spot) inside_there }
  stays_in AskCycle numbers_right inside_there = record { image = refl; next = λ got. goes_on_in config mutator order got AskCycle inside_there }
  stays_in (Waiting spot) numbers_right inside_there = waits_in spot inside_there
  stays_in (Entering spot next) numbers_right inside_there = absurd (not_inside spot numbers_right inside_there)
  stays_in Rest numbers_right inside_there = absurd (cc (inside_there))
  stays_in (Ended reply) numbers_right inside_there = absurd (cc (inside_there))
  stays_in Gone numbers_right inside_there = absurd (cc (inside_there))
  stays_in (Leave reply) numbers_right inside_there = absurd (cc (inside_there))

  -- where it is in the heap, so it obeys
  on : (spot : Spot) → StaysIn spot → IsWord config (touch_at config mutator.seat mutator.made mutator.kept order spot).word
      → Obeys config mutator.seat inside (placed config (touch_at config mutator.seat mutator.made mutator.kept order spot)) (λ got. standing_at (next_of config (record mutator { spot = spot }) order got).spot)
  on spot stays word = record { elsewhere = image_elsewhere config (placed config (touch_at config mutator.seat mutator.made mutator.kept order spot)) (placed_above config (touch_at config mutator.seat mutator.made mutator.kept order spot) word stays.image); goes_on = stays.next }

  polls : (holds : Bool) → standing_at (if holds then Waiting wait.Poll else Entering Raise Waited) ≡ outside
  polls true = refl
  polls false = refl

  waits_obey : (spot : WaitSpot) → IsWord config (touch_at config mutator.seat mutator.made mutator.kept order (Waiting spot)).word → ObeysAt (Waiting spot)
  waits_obey wait.StepOut word = record { access_is = refl; next_is = λ got. refl }
  waits_obey wait.Poll word = inr (record { harmless = inl refl; next_is = λ got. polls (nat_eq got 0) })
  waits_obey wait.StoreRequest word = on (Waiting wait.StoreRequest) (waits_in wait.StoreRequest refl) word
  waits_obey wait.AskRoom word = on (Waiting wait.AskRoom) (waits_in wait.AskRoom refl) word
  waits_obey wait.LoadAnswer word = on (Waiting wait.LoadAnswer) (waits_in wait.LoadAnswer refl) word
  waits_obey (wait.StoreRoot address) word = on (Waiting (wait.StoreRoot address)) (waits_in (wait.StoreRoot address) refl) word
  waits_obey (wait.ClearAnswer reply) word = on (Waiting (wait.ClearAnswer reply)) (waits_in (wait.ClearAnswer reply) refl) word

  pub given_order : (order : Order) → takes_at Rest mutator.made order ≡ true → IsGiven order
  given_order Nothing takes = absurd (cc (takes))
  given_order (Begin command) takes = tt
  given_order End takes = tt
  given_order (Hint address) takes = absurd (cc (takes))

  pub given_ended : (reply : Reply) (order : Order) → takes_at (Ended reply) mutator.made order ≡ true → IsGiven order
  given_ended reply Nothing takes = absurd (cc (takes))
  given_ended reply (Begin command) takes = tt
  given_ended reply End takes = tt
  given_ended reply (Hint address) takes = absurd (cc (takes))

  spot_obeys : (spot : Spot) → takes_at spot mutator.made order ≡ true → numbers_fit config mutator.seat mutator.made mutator.kept spot ≡ true → IsWord config (touch_at config mutator.seat mutator.made mutator.kept Nothing spot).word → ObeysAt spot
  spot_obeys Rest takes numbers_all_fit word = begins config (record mutator { spot = Rest }) order (given_order order takes)
  spot_obeys (Ended reply) takes numbers_all_fit word = begins config (record mutator { spot = Ended reply }) order (given_ended reply order takes)
  spot_obeys Gone takes numbers_all_fit word = absurd (cc (takes))
  spot_obeys (Entering spot next) takes numbers_all_fit word =
      obeys_same config mutator.seat (enter_standing spot) _ (λ got. enter_standing (enter_next spot got)) _ (λ got. enter_same next (enter_next spot got))
      (enter_obeys config mutator.seat spot (not_entered spot numbers_all_fit))
  spot_obeys (Waiting spot) takes numbers_all_fit word = waits_obey spot word
  spot_obeys (Leave reply) takes numbers_all_fit word = record { access_is = refl; next_is = λ got. refl }
  spot_obeys LoadPhase takes numbers_all_fit word = on LoadPhase (stays_in LoadPhase numbers_all_fit refl) word
  spot_obeys LoadSet takes numbers_all_fit word = on LoadSet (stays_in LoadSet numbers_all_fit refl) word
  spot_obeys (Loading spot) takes numbers_all_fit word = on (Loading spot) (stays_in (Loading spot) numbers_all_fit refl) word
  spot_obeys (OnField object spot) takes numbers_all_fit word = on (OnField object spot) (stays_in (OnField object spot) numbers_all_fit refl) word
  spot_obeys (Resolving address spot next) takes numbers_all_fit word = on (Resolving address spot next) (stays_in (Resolving address spot next) numbers_all_fit refl) word
  spot_obeys (Recording spot address next) takes numbers_all_fit word = on (Recording spot address next) (stays_in (Recording spot address next) numbers_all_fit refl) word
  spot_obeys (OnNumber object refs spot) takes numbers_all_fit word = on (OnNumber object refs spot) (stays_in (OnNumber object refs spot) numbers_all_fit refl) word
  spot_obeys (Showing value spot) takes numbers_all_fit word = on (Showing value spot) (stays_in (Showing value spot) numbers_all_fit refl) word
  spot_obeys (StoreRoot value) takes numbers_all_fit word = on (StoreRoot value) (stays_in (StoreRoot value) numbers_all_fit refl) word
  spot_obeys (Making spot) takes numbers_all_fit word = on (Making spot) (stays_in (Making spot) numbers_all_fit refl) word
  spot_obeys (Pinning value spot) takes numbers_all_fit word = on (Pinning value spot) (stays_in (Pinning value spot) numbers_all_fit refl) word
  spot_obeys AskCycle takes numbers_all_fit word = on AskCycle (stays_in AskCycle numbers_all_fit refl) word

  -- what it does to the count of the mutators that have not ended
  abbrev pub CountsAt : Spot → Type 0
  CountsAt spot = Counts config (has_not_ended spot) (placed config (touch_at config mutator.seat mutator.made mutator.kept order spot)) (λ got. has_not_ended (next_of config (record mutator { spot = spot }) order got).spot)

  counts_in : (spot : Spot) → StaysIn spot → has_not_ended spot ≡ true → IsWord config (touch_at config mutator.seat mutator.made mutator.kept order spot).word → CountsAt spot
  counts_in spot stays not_ended word = inr (record {
    not_written = inr (image_not_left config (placed config (touch_at config mutator.seat mutator.made mutator.kept order spot)) (placed_above config (touch_at config mutator.seat mutator.made mutator.kept order spot) word stays.image));
    same = λ got. in_heap_left _ (stays.next got) ∙ sym not_ended;
  })

  -- a step of no part in the heap that writes a state word or only reads
  enter_counts : (next : Entered) (spot : EnterSpot) → CountsAt (Entering spot next)
  enter_counts next Raise = inr (record { not_written = inr (λ same_place. omega (arith, same_place)); same = λ got. entering_left next Look })
  enter_counts next Look = inr (record { not_written = inl refl; same = λ got. entering_left next (enter_next Look got) })
  enter_counts next Lower = inr (record { not_written = inr (λ same_place. omega (arith, same_place)); same = λ got. entering_left next Await })
  enter_counts next Await = inr (record { not_written = inl refl; same = λ got. entering_left next (enter_next Await got) })
  enter_counts next Inside = inr (record { not_written = inl refl; same = λ got. entering_left next Inside })

  polls_left : (holds : Bool) → has_not_ended (if holds then Waiting wait.Poll else Entering Raise Waited) ≡ true
  polls_left true = refl
  polls_left false = refl

  waits_count : (spot : WaitSpot) → IsWord config (touch_at config mutator.seat mutator.made mutator.kept order (Waiting spot)).word → CountsAt (Waiting spot)
  waits_count wait.StepOut word = inr (record { not_written = inr (λ same_place. omega (arith, same_place)); same = λ got. refl })
  waits_count wait.Poll word = inr (record { not_written = inl refl; same = λ got. polls_left (nat_eq got 0) })
  waits_count wait.StoreRequest word = counts_in (Waiting wait.StoreRequest) (waits_in wait.StoreRequest refl) refl word
  waits_count wait.AskRoom word = counts_in (Waiting wait.AskRoom) (waits_in wait.AskRoom refl) refl word
  waits_count wait.LoadAnswer word = counts_in (Waiting wait.LoadAnswer) (waits_in wait.LoadAnswer refl) refl word
  waits_count (wait.StoreRoot address) word = counts_in (Waiting (wait.StoreRoot address)) (waits_in (wait.StoreRoot address) refl) refl word
  waits_count (wait.ClearAnswer reply) word = counts_in (Waiting (wait.ClearAnswer reply)) (waits_in (wait.ClearAnswer reply) refl) refl word

  spot_counts : (spot : Spot) → takes_at spot mutator.made order ≡ true → numbers_fit config mutator.seat mutator.made mutator.kept spot ≡ true → IsWord config (touch_at config mutator.seat mutator.made mutator.kept Nothing spot).word → CountsAt spot
  spot_counts Rest takes numbers_all_fit word = begins_count config (record mutator { spot = Rest }) order (given_order order takes)
  spot_counts (Ended reply) takes numbers_all_fit word = begins_count config (record mutator { spot = Ended reply }) order (given_ended reply order takes)
  spot_counts Gone takes numbers_all_fit word = absurd (cc (takes))
  spot_counts (Entering spot next) takes numbers_all_fit word = enter_counts next spot
  spot_counts (Waiting spot) takes numbers_all_fit word = waits_count spot word
  spot_counts (Leave reply) takes numbers_all_fit word = inr (record { not_written = inr (λ same_place. omega (arith, same_place)); same = λ got. refl })
  spot_counts LoadPhase takes numbers_all_fit word = counts_in LoadPhase (stays_in LoadPhase numbers_all_fit refl) refl word
  spot_counts LoadSet takes numbers_all_fit word = counts_in LoadSet (stays_in LoadSet numbers_all_fit refl) refl word
  spot_counts (Loading spot) takes numbers_all_fit word = counts_in (Loading spot) (stays_in (Loading spot) numbers_all_fit refl) refl word
  spot_counts (OnField object spot) takes numbers_all_fit word = counts_in (OnField object spot) (stays_in (OnField object spot) numbers_all_fit refl) refl word
  spot_counts (Resolving address spot next) takes numbers_all_fit word = counts_in (Resolving address spot next) (stays_in (Resolving address spot next) numbers_all_fit refl) refl word
  spot_counts (Recording spot address next) takes numbers_all_fit word = counts_in (Recording spot address next) (stays_in (Recording spot address next) numbers_all_fit refl) refl word
  spot_counts (OnNumber object refs spot) takes numbers_all_fit word = counts_in (OnNumber object refs spot) (stays_in (OnNumber object refs spot) numbers_all_fit refl) refl word
  spot_counts (Showing value spot) takes numbers_all_fit word = counts_in (Showing value spot) (stays_in (Showing value spot) numbers_all_fit refl) refl word
  spot_counts (StoreRoot value) takes numbers_all_fit word = counts_in (StoreRoot value) (stays_in (StoreRoot value) numbers_all_fit refl) refl word
  spot_counts (Making spot) takes numbers_all_fit word = counts_in (Making spot) (stays_in (Making spot) numbers_all_fit refl) refl word
  spot_counts (Pinning value spot) takes numbers_all_fit word = counts_in (Pinning value spot) (stays_in (Pinning value spot) numbers_all_fit refl) refl word
  spot_counts AskCycle takes numbers_all_fit word = counts_in AskCycle (stays_in AskCycle numbers_all_fit refl) refl word

-- a mutator that is ready has its numbers in range, and makes an access of a word of the table
pub ready_fits : (config : Config) (mutator : Mutating) → IsReady config mutator → numbers_fit config mutator.seat mutator.made mutator.kept mutator.spot ≡ true
ready_fits config mutator mutator_ready = (and_parts (is_word config (touch_of config mutator Nothing).word && stores_fit config mutator.seat mutator.made mutator.kept mutator.spot) (numbers_fit config mutator.seat mutator.made mutator.kept mutator.spot) mutator_ready).1

pub ready_word : (config : Config) (mutator : Mutating) → IsReady config mutator → IsWord config (touch_of config mutator Nothing).word
ready_word config mutator mutator_ready =
    is_word_true config (touch_of config mutator Nothing).word
    (and_parts (is_word config (touch_of config mutator Nothing).word) (stores_fit config mutator.seat mutator.made mutator.kept mutator.spot)
    (and_parts (is_word config (touch_of config mutator Nothing).word && stores_fit config mutator.seat mutator.made mutator.kept mutator.spot) (numbers_fit config mutator.seat mutator.made mutator.kept mutator.spot) mutator_ready).0).0

-- the step of a mutator obeys the handshake
pub mutator_obeys : (config : Config) (mutator : Mutating) (order : Order) → takes_at mutator.spot mutator.made order ≡ true → IsReady config mutator
    → Obeys config mutator.seat (standing_at mutator.spot) (placed config (touch_of config mutator order)) (λ got. standing_at (next_of config mutator order got).spot)
mutator_obeys config mutator order takes mutator_ready = spot_obeys config mutator order mutator.spot takes (ready_fits config mutator mutator_ready) (ready_word config mutator mutator_ready)

-- and counts
pub mutator_counts : (config : Config) (mutator : Mutating) (order : Order) → takes_at mutator.spot mutator.made order ≡ true → IsReady config mutator
    → Counts config (has_not_ended mutator.spot) (placed config (touch_of config mutator order)) (λ got. has_not_ended (next_of config mutator order got).spot)
mutator_counts config mutator order takes mutator_ready = spot_counts config mutator order mutator.spot takes (ready_fits config mutator mutator_ready) (ready_word config mutator mutator_ready)
