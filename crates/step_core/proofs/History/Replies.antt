-- Which reply the history has for a call in progress, by where its mutator stands and by its answer in the table.
use Rattle.std.proofs.Common.{◌≡◌, ◌≢◌, ℕ, ◌+◌, ◌⊎◌, inl, inr, ⊎_elim, true, false, Option, Some, None, sym, ◌∙◌, subst, arith}
use Rattle.std.specs.Prelude.{◌==◌}
use Rattle.std.proofs.lemmas.Bool.{eqb-true, eqb-false}
use Rattle.heap_words.specs.declared.config.Config.{Config}
use Rattle.heap_words.specs.Words.{Answer}
use Rattle.shen_graph.specs.declared.command.Command.{Command}
use Rattle.shen_graph.specs.declared.command.Reply.{Reply}
use Rattle.shen_graph.specs.declared.command.Reply.TheVariants.{Full}
use Rattle.mutator.specs.declared.spot.Kept.{Kept}
use Rattle.mutator.specs.declared.spot.Spot.{Spot}
use Rattle.mutator.specs.declared.pins.PinSpot.TheVariants as pins
use Rattle.mutator.specs.declared.spot.Spot.TheVariants.{Rest, Ended, Entering, LoadPhase, LoadSet, Loading, OnField, Resolving, Recording, OnNumber, Showing, StoreRoot, Making, AskCycle, Pinning, Waiting, Leave, Gone}
use Rattle.mutator.specs.declared.spot.Entered.TheVariants.{Call, Waited}
use Rattle.mutator.specs.declared.makes.MakeSpot.TheVariants as make
use Rattle.mutator.specs.declared.loads.LoadSpot.TheVariants as load
use Rattle.mutator.specs.declared.fields.FieldSpot.TheVariants as fields
use Rattle.mutator.specs.declared.overwrites.Overwritten.TheVariants as overwrites
use Rattle.mutator.specs.declared.resolves.Loaded.TheVariants.{ForRoot, ToCompare}
use Rattle.mutator.specs.declared.numbers.NumberSpot.TheVariants as numbers
use Rattle.mutator.specs.declared.shows.ShowSpot.TheVariants as show
use Rattle.mutator.specs.declared.waits.WaitSpot.TheVariants as wait
use Rattle.mutator.specs.Orders.{is_between_calls}
use Rattle.heap_world.specs.World.{World, Shared}
use Rattle.mutator.specs.Commands.{index_of}
use Rattle.mutator.specs.Told.{name_the_same}
use Rattle.step_core.proofs.Machines.Naming.{names_agree, not_one, one_reference}
use Rattle.step_core.specs.Sound.{has_settled}
use Rattle.step_core.proofs.Machines.Stepped.{IsCas, NameTheSame, NameOthers, IsPolling, IsAnswered, SpotFacts}
use Rattle.step_core.proofs.Machines.Owed.{IsSeen}

-- between two calls no reply is settled that is not given
pub unsettled_at_rest : (config : Config) (world : World) (seat made : ℕ) (kept : Kept) (command : Command) (fixed : Option Reply) (spot : Spot) → is_between_calls spot ≡ true → SpotFacts config world seat made kept command fixed spot → fixed ≡ None
unsettled_at_rest config world seat made kept command fixed Rest spot_rests facts = facts
unsettled_at_rest config world seat made kept command fixed (Ended reply) spot_rests facts = facts
unsettled_at_rest config world seat made kept command fixed Gone spot_rests facts = facts
unsettled_at_rest config world seat made kept command fixed _ spot_rests facts = absurd (cc (spot_rests))

-- the reply with which it clears its answer is settled
pub took_settled : (config : Config) (world : World) (seat made : ℕ) (kept : Kept) (command : Command) (fixed : Option Reply) (spot : Spot) (reply : Reply) → spot ≡ Waiting (wait.ClearAnswer reply)
    → SpotFacts config world seat made kept command fixed spot → fixed ≡ Some reply
took_settled config world seat made kept command fixed spot reply clears_answer facts =
    let facts_here : SpotFacts config world seat made kept command fixed (Waiting (wait.ClearAnswer reply)) = subst (λ given_spot. SpotFacts config world seat made kept command fixed given_spot) clears_answer facts in facts_here.0

-- where one waits that is answered
pub answered_polls : (world : World) (seat made : ℕ) (other_command command : Command) (fixed : Option Reply) → IsAnswered world seat made other_command command fixed → IsPolling world seat made other_command command fixed
answered_polls world seat made other_command command fixed (inl answer_given) = inr (inl answer_given)
answered_polls world seat made other_command command fixed (inr refused) =
    inr (inr (record { dst = refused.0.dst; refs = refused.0.refs; nums = refused.0.nums; is = refused.0.is; settled = inr refused.0.settled }, refused.1))

-- Of who waits for an answer: the reply is settled where the table says that the heap is full.
module _ (world : World) (seat made : ℕ) (other_command command : Command) (fixed : Option Reply) (raw_answer : ℕ) (seen_answer : IsSeen raw_answer (world.memory (Answer seat)) fixed) where
  full_or_none : IsPolling world seat made other_command command fixed → ((raw_answer ≡ 1) × (fixed ≡ Some Full)) ⊎ ((raw_answer ≢ 1) × (fixed ≡ None))
  full_or_none (inl asks) = inr (λ answer_one. (let null = seen_answer.null asks.0.1.1 in omega (arith, null, answer_one)), asks.0.0.unsettled)
  full_or_none (inr (inl answer_given)) = inr (seen_answer.given answer_given.1.1, answer_given.0.unsettled)
  full_or_none (inr (inr refused)) = ⊎_elim
      (λ (full_settled : (raw_answer ≡ 1) × (fixed ≡ Some Full)). inl full_settled)
      (λ (none_yet : (raw_answer ≡ 0) × (fixed ≡ None)). inr (λ answer_one. (let null = none_yet.0 in omega (arith, null, answer_one)), none_yet.1))
      (seen_answer.full refused.1.1)

  pub waits_unsettled : (raw_answer == 1) ≡ false → IsPolling world seat made other_command command fixed → fixed ≡ None
  waits_unsettled not_full polls = ⊎_elim
      (λ (full_settled : (raw_answer ≡ 1) × (fixed ≡ Some Full)). absurd (eqb-false _ _ not_full full_settled.0))
      (λ (neither : (raw_answer ≢ 1) × (fixed ≡ None)). neither.1)
      (full_or_none polls)

  pub waits_settled : (raw_answer == 1) ≡ true → IsPolling world seat made other_command command fixed → fixed ≢ None
  waits_settled reads_full polls unsettled = ⊎_elim
      (λ (full_settled : (raw_answer ≡ 1) × (fixed ≡ Some Full)). let clash = sym unsettled ∙ full_settled.1 in cc)
      (λ (neither : (raw_answer ≢ 1) × (fixed ≡ None)). neither.0 (eqb-true _ _ reads_full))
      (full_or_none polls)

module _ (config : Config) (world : World) (seat made : ℕ) (kept : Kept) (command : Command) (fixed : Option Reply) (raw_answer : ℕ) (seen_answer : IsSeen raw_answer (world.memory (Answer seat)) fixed) (shared : Shared config world) where
  -- by their name words two words name the same, or do not
  others_apart : (found object expect value : ℕ) → IsCas config world seat command object (index_of kept.command) expect value → NameOthers world.block found expect → name_the_same world.memory found expect ≡ false
  others_apart found object expect value cas others =
      names_agree config world shared found expect (Some others.name) (world.graph.root (seat + 1) cas.expected) others.is cas.expect_is.stands
      ∙ not_one config world shared found expect (Some others.name) (world.graph.root (seat + 1) cas.expected) others.is cas.expect_is.stands others

  same_name_words : (found object expect value : ℕ) → IsCas config world seat command object (index_of kept.command) expect value → found ≢ 0 → NameTheSame world.block found expect → name_the_same world.memory found expect ≡ true
  same_name_words found object expect value cas some_found (inl null) = absurd (some_found null.0)
  same_name_words found object expect value cas some_found (inr both_named) =
      names_agree config world shared found expect (Some both_named.0) (world.graph.root (seat + 1) cas.expected) both_named.1 cas.expect_is.stands
      ∙ one_reference config world shared found expect (Some both_named.0) (world.graph.root (seat + 1) cas.expected) both_named.1 cas.expect_is.stands (inr both_named)

  -- before the access that settles the reply there is none
  pub unsettled_before : (spot : Spot) → has_settled world.memory raw_answer spot ≡ false → SpotFacts config world seat made kept command fixed spot → fixed ≡ None
  unsettled_before Rest not_settled facts = facts
  unsettled_before (Ended reply) not_settled facts = facts
  unsettled_before Gone not_settled facts = facts
  unsettled_before (Entering spot Call) not_settled facts = facts.unsettled
  unsettled_before (Entering spot Waited) not_settled facts = waits_unsettled world seat made kept.command command fixed raw_answer seen_answer not_settled (answered_polls world seat made kept.command command fixed facts)
  unsettled_before LoadPhase not_settled facts = facts.unsettled
  unsettled_before LoadSet not_settled facts = facts.unsettled
  unsettled_before (Loading load.First) not_settled facts = facts.0.unsettled
  unsettled_before (Loading (load.Second first)) not_settled facts = facts.0.unsettled
  unsettled_before (Loading (load.Third first second)) not_settled facts = facts.0.unsettled
  unsettled_before (Loading (load.Shape object second third)) not_settled facts = facts.0.unsettled
  unsettled_before (OnField object fields.Load) not_settled facts = facts.0
  unsettled_before (OnField object (fields.LoadExpected expect value)) not_settled facts = facts.0
  unsettled_before (OnField object (fields.LoadOld value)) not_settled facts = facts.0
  unsettled_before (OnField object (fields.Store value)) not_settled facts = facts.0
  unsettled_before (OnField object (fields.Swap value)) not_settled facts = facts.0
  unsettled_before (OnField object (fields.Exchange found expect value)) not_settled facts = facts.0
  unsettled_before (Resolving address spot ForRoot) not_settled facts = absurd (cc (not_settled))
  unsettled_before (Resolving address part_spot (ToCompare object expect value)) not_settled facts = ⊎_elim
      (λ not_same. let names_apart = others_apart address object expect value facts.1.is_cas not_same.1 in absurd (cc (not_settled, names_apart)))
      (λ same_there. same_there.0)
      facts.1.settled
  unsettled_before (Recording part_spot address (overwrites.Set object value)) not_settled facts = facts.1.0
  unsettled_before (Recording spot address overwrites.Xchg) not_settled facts = absurd (cc (not_settled))
  unsettled_before (Recording spot address overwrites.Cas) not_settled facts = absurd (cc (not_settled))
  unsettled_before (OnNumber object refs numbers.Load) not_settled facts = facts.0
  unsettled_before (OnNumber object refs numbers.Store) not_settled facts = facts.0
  unsettled_before (StoreRoot value) not_settled facts = facts.0
  unsettled_before (Making (make.Taking taking)) not_settled facts = facts.0.unsettled
  unsettled_before (Making (make.StoreWord address words_done)) not_settled facts = facts.0.unsettled
  unsettled_before (Making (make.StoreRoot address)) not_settled facts = facts.0.unsettled
  unsettled_before AskCycle not_settled facts = facts.0
  unsettled_before (Pinning value pins.Look) not_settled facts = facts.0
  unsettled_before (Pinning value pins.Store) not_settled facts = facts.0
  unsettled_before (Waiting wait.StoreRequest) not_settled facts = facts.0.unsettled
  unsettled_before (Waiting wait.AskRoom) not_settled facts = facts.0.unsettled
  unsettled_before (Waiting wait.StepOut) not_settled facts = facts.0.0.unsettled
  unsettled_before (Waiting wait.Poll) not_settled facts = waits_unsettled world seat made kept.command command fixed raw_answer seen_answer not_settled facts
  unsettled_before (Waiting wait.LoadAnswer) not_settled facts = waits_unsettled world seat made kept.command command fixed raw_answer seen_answer not_settled (answered_polls world seat made kept.command command fixed facts)
  unsettled_before (Waiting (wait.StoreRoot address)) not_settled facts = facts.0.0.unsettled
  unsettled_before (Waiting (wait.ClearAnswer reply)) not_settled facts = absurd (cc (not_settled))
  unsettled_before (Showing value spot) not_settled facts = absurd (cc (not_settled))
  unsettled_before (Leave reply) not_settled facts = absurd (cc (not_settled))

  -- and behind it there is one
  pub settled_after : (spot : Spot) → has_settled world.memory raw_answer spot ≡ true → SpotFacts config world seat made kept command fixed spot → fixed ≢ None
  settled_after (Resolving address spot ForRoot) settled_here facts = λ unsettled. absurd (let settled_reply = facts.1.settled in cc)
  settled_after (Resolving address part_spot (ToCompare object expect value)) settled_here facts = λ unsettled. ⊎_elim
      (λ not_same. absurd (let settled_reply = not_same.0 in cc (settled_reply, unsettled)))
      (λ same_there. let names_same = same_name_words address object expect value facts.1.is_cas facts.1.some same_there.1 in absurd (cc (settled_here, names_same)))
      facts.1.settled
  settled_after (Showing value show.LoadName) settled_here facts = λ unsettled. absurd (let settled_reply = facts.0.settled in cc)
  settled_after (Showing value (show.StoreRoot reply)) settled_here facts = λ unsettled. absurd (let settled_reply = facts.0 in cc)
  settled_after (Recording part_spot address (overwrites.Set object value)) settled_here facts = absurd (cc (settled_here))
  settled_after (Recording spot address overwrites.Xchg) settled_here facts = λ unsettled. absurd (let settled_reply = facts.1.settled in cc)
  settled_after (Recording spot address overwrites.Cas) settled_here facts = λ unsettled. absurd (let settled_reply = facts.1 in cc)
  settled_after (Leave reply) settled_here facts = λ unsettled. absurd cc
  settled_after (Entering spot Waited) settled_here facts = waits_settled world seat made kept.command command fixed raw_answer seen_answer settled_here (answered_polls world seat made kept.command command fixed facts)
  settled_after (Entering spot Call) settled_here facts = absurd (cc (settled_here))
  settled_after (Waiting wait.Poll) settled_here facts = waits_settled world seat made kept.command command fixed raw_answer seen_answer settled_here facts
  settled_after (Waiting wait.LoadAnswer) settled_here facts = waits_settled world seat made kept.command command fixed raw_answer seen_answer settled_here (answered_polls world seat made kept.command command fixed facts)
  settled_after (Waiting (wait.ClearAnswer reply)) settled_here facts = λ unsettled. absurd (let settled_reply = facts.0 in cc)
  settled_after (Waiting _) settled_here facts = absurd (cc (settled_here))
  settled_after _ settled_here facts = absurd (cc (settled_here))
