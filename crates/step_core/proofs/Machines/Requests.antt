-- What a mutator has asked for stands in the words of its request and its answer.
use Rattle.std.proofs.Common.{◌≡◌, ◌≢◌, ℕ, inl, inr, false, Option, refl, ap}
use Rattle.std.specs.Int.{bit_at}
use Rattle.heap_words.specs.declared.config.Config.{Config}
use Rattle.heap_words.specs.Words.{Ask}
use Rattle.shen_graph.specs.declared.command.Command.{Command}
use Rattle.shen_graph.specs.declared.command.Reply.{Reply}
use Rattle.mutator.specs.declared.spot.Kept.{Kept}
use Rattle.mutator.specs.declared.spot.Spot.{Spot}
use Rattle.mutator.specs.declared.spot.Spot.TheVariants.{Rest, Ended, Entering, LoadPhase, LoadSet, Loading, OnField, Resolving, Recording, OnNumber, Showing, StoreRoot, Making, AskCycle, Pinning, Waiting, Leave, Gone}
use Rattle.mutator.specs.declared.spot.Entered.TheVariants.{Call, Waited}
use Rattle.mutator.specs.declared.waits.WaitSpot.TheVariants as wait
use Rattle.mutator.specs.Commands.{dst_of, refs_of, nums_of}
use Rattle.mutator.specs.Orders.{is_waiting}
use Rattle.heap_world.specs.World.{World}
use Rattle.heap_world.specs.Asking.{nothing, asks, refused, given}
use Rattle.step_core.specs.Sound.{FitsSpot, HasAsked}
use Rattle.step_core.specs.Seats.{is_clearing}
use Rattle.step_core.proofs.Machines.Stepped.{IsMaking, IsAsking, IsPolling, IsAnswered, Mine}
use Rattle.step_core.proofs.Mutators.Spots.{mutator_at}

module _ (config : Config) (world : World) (seat made : ℕ) (kept : Kept) (command : Command) (fixed : Option Reply) where
  abbrev Asked : Spot → Type 0
  Asked spot = HasAsked world command (mutator_at seat made kept spot)

  -- what the command asks for
  of_making : IsMaking made command fixed (dst_of kept.command) (refs_of kept.command) (nums_of kept.command)
      → (refs_of command ≡ refs_of kept.command) × (nums_of command ≡ nums_of kept.command)
  of_making making = (ap refs_of making.is, ap nums_of making.is)

  -- nothing is asked for
  not_asked : (spot : Spot) → is_waiting spot ≡ false → FitsSpot spot nothing → Mine config world (mutator_at seat made kept spot) command fixed → Asked spot
  not_asked spot quiet fits own_facts = record { asking = nothing; is = own_facts.seated.unasked quiet; of_command = tt; at_spot = fits; heard = λ asked later. cc }

  -- it asks, or has asked, for an object
  asks_for : (spot : Spot) → FitsSpot spot (asks (refs_of kept.command) (nums_of kept.command)) → (spot ≢ Waiting wait.AskRoom → bit_at (world.memory Ask) 1 ≡ 1)
      → IsAsking world seat made kept.command command fixed (asks (refs_of kept.command) (nums_of kept.command)) → Asked spot
  asks_for spot fits bit facts = record {
    asking = asks (refs_of kept.command) (nums_of kept.command);
    is = facts.1;
    of_command = of_making facts.0;
    at_spot = fits;
    heard = λ asked later. bit later;
  }

  was_given : (spot : Spot) → FitsSpot spot (given (refs_of kept.command) (nums_of kept.command)) → IsAsking world seat made kept.command command fixed (given (refs_of kept.command) (nums_of kept.command)) → Asked spot
  was_given spot fits facts = record {
    asking = given (refs_of kept.command) (nums_of kept.command);
    is = facts.1;
    of_command = of_making facts.0;
    at_spot = fits;
    heard = λ asked later. cc;
  }

  polls_for : IsPolling world seat made kept.command command fixed → Asked (Waiting wait.Poll)
  polls_for (inl waits) = asks_for (Waiting wait.Poll) (λ not_spot. cc) (λ later. waits.1) waits.0
  polls_for (inr (inl has_given)) = was_given (Waiting wait.Poll) (λ not_spot. cc) has_given
  polls_for (inr (inr is_refused)) = record { asking = refused; is = is_refused.1; of_command = tt; at_spot = λ not_spot. cc; heard = λ asked later. cc }

  is_told : (spot : Spot) → FitsSpot spot (given (refs_of kept.command) (nums_of kept.command)) → FitsSpot spot refused → IsAnswered world seat made kept.command command fixed → Asked spot
  is_told spot fits_given fits_refused (inl answer) = was_given spot fits_given answer
  is_told spot fits_given fits_refused (inr full_answer) = record { asking = refused; is = full_answer.1; of_command = tt; at_spot = fits_refused; heard = λ asked later. cc }

  pub has_asked : (spot : Spot) → is_clearing spot ≡ false → Mine config world (mutator_at seat made kept spot) command fixed → Asked spot
  has_asked (Waiting wait.StoreRequest) spot_going own_facts = record { asking = nothing; is = own_facts.facts.1; of_command = tt; at_spot = refl; heard = λ asked later. cc }
  has_asked (Waiting wait.AskRoom) spot_going own_facts = asks_for (Waiting wait.AskRoom) refl (λ later. absurd (later refl)) own_facts.facts
  has_asked (Waiting wait.StepOut) spot_going own_facts = asks_for (Waiting wait.StepOut) refl (λ later. own_facts.facts.1) own_facts.facts.0
  has_asked (Waiting wait.Poll) spot_going own_facts = polls_for own_facts.facts
  has_asked (Waiting wait.LoadAnswer) spot_going own_facts = is_told (Waiting wait.LoadAnswer) refl refl own_facts.facts
  has_asked (Waiting (wait.StoreRoot address)) spot_going own_facts = was_given (Waiting (wait.StoreRoot address)) refl own_facts.facts.0
  has_asked (Waiting (wait.ClearAnswer reply)) spot_going own_facts = absurd (cc (spot_going))
  has_asked (Entering spot Waited) spot_going own_facts = is_told (Entering spot Waited) refl refl own_facts.facts
  has_asked (Entering spot Call) spot_going own_facts = not_asked (Entering spot Call) refl refl own_facts
  has_asked Rest spot_going own_facts = not_asked Rest refl refl own_facts
  has_asked (Ended reply) spot_going own_facts = not_asked (Ended reply) refl refl own_facts
  has_asked LoadPhase spot_going own_facts = not_asked LoadPhase refl refl own_facts
  has_asked LoadSet spot_going own_facts = not_asked LoadSet refl refl own_facts
  has_asked (Loading spot) spot_going own_facts = not_asked (Loading spot) refl refl own_facts
  has_asked (OnField object spot) spot_going own_facts = not_asked (OnField object spot) refl refl own_facts
  has_asked (Resolving address spot next) spot_going own_facts = not_asked (Resolving address spot next) refl refl own_facts
  has_asked (Recording spot address next) spot_going own_facts = not_asked (Recording spot address next) refl refl own_facts
  has_asked (OnNumber object refs spot) spot_going own_facts = not_asked (OnNumber object refs spot) refl refl own_facts
  has_asked (Showing value spot) spot_going own_facts = not_asked (Showing value spot) refl refl own_facts
  has_asked (StoreRoot value) spot_going own_facts = not_asked (StoreRoot value) refl refl own_facts
  has_asked (Making spot) spot_going own_facts = not_asked (Making spot) refl refl own_facts
  has_asked (Pinning value spot) spot_going own_facts = not_asked (Pinning value spot) refl refl own_facts
  has_asked AskCycle spot_going own_facts = not_asked AskCycle refl refl own_facts
  has_asked (Leave reply) spot_going own_facts = not_asked (Leave reply) refl refl own_facts
  has_asked Gone spot_going own_facts = not_asked Gone refl refl own_facts
