-- A step that ends a call gives its reply.
use Rattle.std.proofs.Common.{◌≡◌, ℕ, true, false, Some, refl}
use Rattle.std.specs.Prelude.{◌==◌, Bool, if◌then◌else◌}
use Rattle.heap_words.specs.declared.config.Config.{Config}
use Rattle.heap_words.specs.declared.access.Took.{Took}
use Rattle.heap_words.specs.declared.access.Took.TheVariants as took
use Rattle.shen_graph.specs.declared.command.Reply.{Reply}
use Rattle.handshake.specs.EnterRows.{says_at as enter_says}
use Rattle.alloc_buffers.specs.Rows as takes
use Rattle.load_barrier.specs.Rows as resolves
use Rattle.mutator.specs.declared.spot.Spot.{Spot}
use Rattle.mutator.specs.declared.spot.Spot.TheVariants.{Entering, OnField, Resolving, Making, Waiting, Leave}
use Rattle.mutator.specs.declared.spot.Kept.{Kept}
use Rattle.mutator.specs.declared.fields.FieldSpot.TheVariants.{Exchange}
use Rattle.shen_graph.specs.declared.command.Command.{Command}
use Rattle.mutator.specs.declared.makes.MakeSpot.{MakeSpot}
use Rattle.mutator.specs.declared.makes.MakeSpot.TheVariants.{Taking}
use Rattle.mutator.specs.declared.waits.WaitSpot.TheVariants.{Poll}
use Rattle.mutator.specs.WaitRows.{call_says}
use Rattle.mutator.specs.Rows.{given_at, take_next, make_says, answer_at}

-- a step that says one of two things, of which neither is Done, is not done
not_done : (holds : Bool) (first_said second_said : Took) → (first_said ≡ took.Done → ⊥) → (second_said ≡ took.Done → ⊥) → (if holds then first_said else second_said) ≡ took.Done → ⊥
not_done true first_said second_said first_not_done second_not_done said_done = first_not_done said_done
not_done false first_said second_said first_not_done second_not_done said_done = second_not_done said_done

-- a part never ends a call
pub goes_on : (said : Took) → call_says said ≡ took.Done → ⊥
goes_on took.Again said_done = cc
goes_on _ said_done = cc

-- nor does the making of an object
pub makes_go_on : (config : Config) (command : Command) (spot : MakeSpot) (got : ℕ) → make_says config command spot got ≡ took.Done → ⊥
makes_go_on config command (Taking take_spot) got said_done = goes_on (takes.says_at take_spot (take_next config command take_spot got)) said_done
makes_go_on config command _ got said_done = cc

-- a step that says Done gives its reply, and no other step does
pub done_gives : (config : Config) (kept : Kept) (spot : Spot) (got : ℕ) → answer_at config kept spot got ≡ took.Done → (reply : Reply) × (given_at spot ≡ Some reply)
done_gives config kept (Leave reply) got said_done = (reply, refl)
done_gives config kept (Entering spot next) got said_done = absurd (goes_on (enter_says spot got) said_done)
done_gives config kept (OnField object (Exchange found expect value)) got said_done = absurd (not_done (got == found) took.More took.Again (λ e. cc) (λ e. cc) said_done)
done_gives config kept (Resolving address spot next) got said_done = absurd (goes_on (resolves.says_at config address kept.phase spot got) said_done)
done_gives config kept (Waiting Poll) got said_done = absurd (not_done (got == 0) took.Again took.More (λ e. cc) (λ e. cc) said_done)
done_gives config kept (OnField object spot) got said_done = absurd (cc)
done_gives config kept (Making spot) got said_done = absurd (makes_go_on config kept.command spot got said_done)
done_gives config kept (Waiting spot) got said_done = absurd (cc)
done_gives config kept _ got said_done = absurd (cc)
