-- Where a step of a call has to look again.
use Rattle.std.proofs.Common.{◌≡◌, ◌↔◌, ℕ, arith}
use Rattle.std.proofs.lemmas.Bool.Decides.{nat_tests}
use Rattle.heap_words.specs.declared.access.Took.TheVariants.{More, Again}
use Rattle.heap_words.specs.declared.config.Config.{Config}
use Rattle.shen_graph.specs.declared.command.Command.{Command}
use Rattle.handshake.specs.declared.enter_spot.EnterSpot.{EnterSpot}
use Rattle.handshake.specs.declared.enter_spot.EnterSpot.TheVariants as enter
use Rattle.handshake.specs.EnterRows.{says_at as enter_says}
use Rattle.alloc_buffers.specs.declared.spot.Kind.TheVariants.{Fresh}
use Rattle.alloc_buffers.proofs.Accesses as taking
use Rattle.mutator.specs.declared.spot.Entered.{Entered}
use Rattle.mutator.specs.declared.spot.Spot.TheVariants.{OnField, Entering, Making, Waiting}
use Rattle.mutator.specs.declared.makes.MakeSpot.{MakeSpot}
use Rattle.mutator.specs.declared.makes.MakeSpot.TheVariants.{Taking}
use Rattle.mutator.specs.declared.waits.WaitSpot.{WaitSpot}
use Rattle.mutator.specs.declared.waits.WaitSpot.TheVariants as wait
use Rattle.mutator.specs.WaitRows.{call_says, wait_says}
use Rattle.mutator.specs.declared.fields.FieldSpot.{FieldSpot}
use Rattle.mutator.specs.declared.fields.FieldSpot.TheVariants.{Exchange}
use Rattle.mutator.specs.Rows.{words_made, field_says, make_says}
use Rattle.mutator.specs.Waits.{WaitsAt}
use Rattle.mutator.proofs.CallKnows.{says_again}

-- one that says that there is more to do does not say it
pub never : (More ≡ Again) ↔ ⊥
never = (λ said_again. cc, λ impossible. absurd impossible)

-- a step at a field says Again exactly where an exchange finds another reference
pub says_where_it_waits : (object : ℕ) (spot : FieldSpot) (got : ℕ) → (field_says spot got ≡ Again) ↔ WaitsAt (OnField object spot) got
says_where_it_waits object (Exchange found expect value) got = grind (arith, nat_tests)
says_where_it_waits object _ got = (λ said_again. cc, λ waits. absurd waits)

-- one that enters where a pause is wanted
pub enters_where_it_waits : (spot : EnterSpot) (next : Entered) (got : ℕ) → (call_says (enter_says spot got) ≡ Again) ↔ WaitsAt (Entering spot next) got
enters_where_it_waits enter.Look next got = grind (arith, nat_tests)
enters_where_it_waits enter.Await next got = grind (arith, nat_tests)
enters_where_it_waits enter.Raise next got = (λ said_again. cc, λ waits. absurd waits)
enters_where_it_waits enter.Lower next got = (λ said_again. cc, λ waits. absurd waits)
enters_where_it_waits enter.Inside next got = (λ said_again. cc, λ waits. absurd waits)

-- one that makes an object where its taking of room does
pub makes_where_it_waits : (config : Config) (command : Command) (spot : MakeSpot) (got : ℕ) → (make_says config command spot got ≡ Again) ↔ WaitsAt (Making spot) got
makes_where_it_waits config command (Taking take_spot) got =
    let take_waits = taking.says_where_it_waits config (words_made command) Fresh take_spot got in (λ said_again. take_waits.0 ((says_again _).0 said_again), λ waits. (says_again _).1 (take_waits.1 waits))
makes_where_it_waits config command _ got = (λ said_again. cc, λ waits. absurd waits)

-- and one that waits for its object where there is no answer yet
pub polls_where_it_waits : (spot : WaitSpot) (got : ℕ) → (wait_says spot got ≡ Again) ↔ WaitsAt (Waiting spot) got
polls_where_it_waits wait.Poll got = grind (arith, nat_tests)
polls_where_it_waits wait.StoreRequest got = (λ said_again. cc, λ waits. absurd waits)
polls_where_it_waits wait.AskRoom got = (λ said_again. cc, λ waits. absurd waits)
polls_where_it_waits wait.StepOut got = (λ said_again. cc, λ waits. absurd waits)
polls_where_it_waits wait.LoadAnswer got = (λ said_again. cc, λ waits. absurd waits)
polls_where_it_waits (wait.StoreRoot address) got = (λ said_again. cc, λ waits. absurd waits)
polls_where_it_waits (wait.ClearAnswer reply) got = (λ said_again. cc, λ waits. absurd waits)
