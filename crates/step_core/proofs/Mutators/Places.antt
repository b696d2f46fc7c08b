-- The table of places: each spot's step is as it should be.
use Rattle.heap_words.specs.declared.config.Config.{Config}
use Rattle.heap_words.specs.Words.{Answer}
use Rattle.shen_graph.specs.declared.command.Command.{Command}
use Rattle.shen_graph.specs.declared.command.Reply.{Reply}
use Rattle.shen_graph.specs.declared.command.Reply.TheVariants as reply
use Rattle.std.proofs.Common.{◌≡◌, ℕ, false, Option, Some, refl, sym, ap, subst}
use Rattle.shen_graph.specs.declared.order.Order.{Order}
use Rattle.mutator.specs.declared.spot.Kept.{Kept}
use Rattle.mutator.specs.declared.spot.Spot.{Spot}
use Rattle.mutator.specs.declared.spot.Spot.TheVariants.{Rest, Ended, Entering, LoadPhase, LoadSet, Loading, OnField, Resolving, Recording, OnNumber, Showing, StoreRoot, Making, AskCycle, Pinning, Waiting, Leave, Gone}
use Rattle.mutator.specs.declared.loads.LoadSpot.{LoadSpot}
use Rattle.mutator.specs.declared.loads.LoadSpot.TheVariants as load
use Rattle.mutator.specs.declared.fields.FieldSpot.{FieldSpot}
use Rattle.mutator.specs.declared.fields.FieldSpot.TheVariants as fields
use Rattle.mutator.specs.declared.numbers.NumberSpot.{NumberSpot}
use Rattle.mutator.specs.declared.numbers.NumberSpot.TheVariants as numbers
use Rattle.mutator.specs.declared.pins.PinSpot.{PinSpot}
use Rattle.mutator.specs.declared.pins.PinSpot.TheVariants as pins
use Rattle.mutator.specs.declared.shows.ShowSpot.{ShowSpot}
use Rattle.mutator.specs.declared.shows.ShowSpot.TheVariants as show
use Rattle.mutator.specs.declared.makes.MakeSpot.{MakeSpot}
use Rattle.mutator.specs.declared.makes.MakeSpot.TheVariants as make
use Rattle.mutator.specs.declared.waits.WaitSpot.TheVariants as wait
use Rattle.mutator.specs.Orders.{is_between_calls}
use Rattle.mutator.specs.Rows.{Mutating}
use Rattle.mutator.proofs.Orders.{in_call}
use Rattle.heap_world.specs.World.{World}
use Rattle.heap_world.specs.Roots.{HasNoMorePins}
use Rattle.step_core.proofs.Machines.Stepped.{Row, OrderedRow, Stepped}
use Rattle.step_core.proofs.Mutators.Calls.{at_rest, at_ended, at_ask, at_leave}
use Rattle.step_core.proofs.Mutators.Entering.{at_enter, at_load_phase}
use Rattle.step_core.proofs.Mutators.Waiting.{each_wait}
use Rattle.step_core.proofs.Mutators.CommandLoads.{at_load_set, at_load_root, at_load_second, at_load_third, at_load_shape}
use Rattle.step_core.proofs.Mutators.Fields.{at_load_field, at_load_old, at_load_expected, at_load_number, at_load_name}
use Rattle.step_core.proofs.Mutators.RootStores.{at_store_loaded, at_store_root}
use Rattle.step_core.proofs.Mutators.Stores.{at_store_field, at_swap_field, at_exchange_field, at_store_number}
use Rattle.step_core.proofs.Mutators.Pinnings.{at_look_pin, at_store_pin}
use Rattle.step_core.proofs.Mutators.Recording.{at_record}
use Rattle.step_core.proofs.Mutators.Resolving.{at_resolve}
use Rattle.step_core.proofs.Mutators.Takes.{at_taking}
use Rattle.step_core.proofs.Mutators.Fresh.{at_store_word, at_store_fresh}
use Rattle.step_core.proofs.Mutators.Spots.{mutator_at}

module _ (config : Config) (world : World) (seat made : ℕ) (kept : Kept) (command : Command) (fixed : Option Reply) where
  -- by the spot of each part of a call
  each_load : (spot : LoadSpot) → Row config world (mutator_at seat made kept (Loading spot)) command fixed
  each_load load.First = at_load_root config world seat made kept command fixed
  each_load (load.Second first) = at_load_second config world seat made kept command fixed first
  each_load (load.Third first second) = at_load_third config world seat made kept command fixed first second
  each_load (load.Shape object second third) = at_load_shape config world seat made kept command fixed object second third

  each_field : (object : ℕ) (spot : FieldSpot) → Row config world (mutator_at seat made kept (OnField object spot)) command fixed
  each_field object fields.Load = at_load_field config world seat made kept command fixed object
  each_field object (fields.LoadExpected expect value) = at_load_expected config world seat made kept command fixed object expect value
  each_field object (fields.LoadOld value) = at_load_old config world seat made kept command fixed object value
  each_field object (fields.Store value) = at_store_field config world seat made kept command fixed object value
  each_field object (fields.Swap value) = at_swap_field config world seat made kept command fixed object value
  each_field object (fields.Exchange found expect value) = at_exchange_field config world seat made kept command fixed object found expect value

  each_number : (object refs : ℕ) (spot : NumberSpot) → Row config world (mutator_at seat made kept (OnNumber object refs spot)) command fixed
  each_number object refs numbers.Load = at_load_number config world seat made kept command fixed object refs
  each_number object refs numbers.Store = at_store_number config world seat made kept command fixed object refs

  each_show : (value : ℕ) (spot : ShowSpot) → Row config world (mutator_at seat made kept (Showing value spot)) command fixed
  each_show value show.LoadName = at_load_name config world seat made kept command fixed value
  each_show value (show.StoreRoot answer) = at_store_loaded config world seat made kept command fixed value answer

  each_pin : HasNoMorePins config.mutators world.graph → (value : ℕ) (spot : PinSpot) → Row config world (mutator_at seat made kept (Pinning value spot)) command fixed
  each_pin no_more value pins.Look = at_look_pin config world seat made kept command fixed value
  each_pin no_more value pins.Store = at_store_pin config world seat made kept command fixed no_more value

  each_make : (spot : MakeSpot) → Row config world (mutator_at seat made kept (Making spot)) command fixed
  each_make (make.Taking take_spot) = at_taking config world seat made kept command fixed take_spot
  each_make (make.StoreWord address words_done) = at_store_word config world seat made kept command fixed address words_done
  each_make (make.StoreRoot address) = at_store_fresh config world seat made kept command fixed address

  -- What the history has where a mutator polls: if the words that count say that the heap is full, so does it. (They may say so
  -- before the word of the table does; it then finds 0, and polls on.)
  abbrev HasTold : Spot → Type 0
  HasTold spot = spot ≡ Waiting wait.Poll → world.memory (Answer seat) ≡ 1 → fixed ≡ Some reply.Full

  -- by the spot, in a call
  each_call : HasNoMorePins config.mutators world.graph → (spot : Spot) → HasTold spot → is_between_calls spot ≡ false → Row config world (mutator_at seat made kept spot) command fixed
  each_call no_more Rest has_told spot_busy = absurd (cc (spot_busy))
  each_call no_more (Ended given_reply) has_told spot_busy = absurd (cc (spot_busy))
  each_call no_more (Entering spot next) has_told spot_busy = at_enter config world seat made kept command fixed spot next
  each_call no_more LoadPhase has_told spot_busy = at_load_phase config world seat made kept command fixed
  each_call no_more LoadSet has_told spot_busy = at_load_set config world seat made kept command fixed
  each_call no_more (Loading spot) has_told spot_busy = each_load spot
  each_call no_more (OnField object spot) has_told spot_busy = each_field object spot
  each_call no_more (Resolving address spot next) has_told spot_busy = at_resolve config world seat made kept command fixed spot address next
  each_call no_more (Recording spot address next) has_told spot_busy = at_record config world seat made kept command fixed spot address next
  each_call no_more (OnNumber object refs spot) has_told spot_busy = each_number object refs spot
  each_call no_more (Showing value spot) has_told spot_busy = each_show value spot
  each_call no_more (StoreRoot value) has_told spot_busy = at_store_root config world seat made kept command fixed value
  each_call no_more (Making spot) has_told spot_busy = each_make spot
  each_call no_more AskCycle has_told spot_busy = at_ask config world seat made kept command fixed
  each_call no_more (Pinning value spot) has_told spot_busy = each_pin no_more value spot
  each_call no_more (Waiting spot) has_told spot_busy = each_wait config world seat made kept command fixed spot (λ same_spot. has_told (ap Waiting same_spot))
  each_call no_more (Leave given_reply) has_told spot_busy = at_leave config world seat made kept command fixed given_reply
  each_call no_more Gone has_told spot_busy = absurd (cc (spot_busy))

  -- in a call there is no order
  called : HasNoMorePins config.mutators world.graph → (order : Order) (spot : Spot) → HasTold spot → is_between_calls spot ≡ false → OrderedRow config world (mutator_at seat made kept spot) command order fixed
  called no_more order spot has_told spot_busy shared mine takes =
      subst (λ order. Stepped config world (mutator_at seat made kept spot) command order fixed) (sym (in_call spot made order spot_busy takes)) (each_call no_more spot has_told spot_busy shared mine)

  -- by the spot
  each_place : HasNoMorePins config.mutators world.graph → (order : Order) (spot : Spot) → HasTold spot → OrderedRow config world (mutator_at seat made kept spot) command order fixed
  each_place no_more order Rest has_told = at_rest config world seat made kept command fixed order
  each_place no_more order (Ended given_reply) has_told = at_ended config world seat made kept command fixed given_reply order
  each_place no_more order Gone has_told = λ shared mine takes. absurd (cc (takes))
  each_place no_more order spot has_told = called no_more order spot has_told refl

-- for a mutator wherever it stands
pub each_step : (config : Config) (world : World) (mutator : Mutating) (command : Command) (order : Order) (fixed : Option Reply)
    → (mutator.spot ≡ Waiting wait.Poll → world.memory (Answer mutator.seat) ≡ 1 → fixed ≡ Some reply.Full) → HasNoMorePins config.mutators world.graph → OrderedRow config world mutator command order fixed
each_step config world mutator command order fixed told_full no_more = each_place config world mutator.seat mutator.made mutator.kept command fixed no_more order mutator.spot told_full
