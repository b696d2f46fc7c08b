-- A mutator that is refused: it waits for its answer, and the reply of its call is settled with it.
use Rattle.std.proofs.Common.{◌≡◌, ℕ, inl, inr, Some, None, refl, sym, subst, arith}
use Rattle.heap_words.specs.declared.config.Config.{Config}
use Rattle.heap_words.specs.Words.{Answer}
use Rattle.shen_graph.specs.declared.command.Command.{Command}
use Rattle.shen_graph.specs.declared.command.Reply.TheVariants.{Full}
use Rattle.shen_graph.specs.Step.{IsNew}
use Rattle.mutator.specs.declared.spot.Kept.{Kept}
use Rattle.mutator.specs.declared.spot.Spot.{Spot}
use Rattle.mutator.specs.declared.spot.Spot.TheVariants.{Entering, Waiting}
use Rattle.mutator.specs.declared.spot.Entered.TheVariants.{Call, Waited}
use Rattle.mutator.specs.declared.waits.WaitSpot.TheVariants as wait
use Rattle.heap_world.specs.World.{World}
use Rattle.heap_world.specs.Asking.{refused, IsAsked}
use Rattle.step_core.proofs.Machines.Stepped.{IsRefused, SpotFacts, Mine}
use Rattle.step_core.proofs.Mutators.Spots.{mutator_at}

module _ (config : Config) (world : World) (seat made : ℕ) (kept : Kept) (command : Command) (heap_full : world.memory (Answer seat) ≡ 1) where
  abbrev Own : Spot → Type 0
  Own spot = Mine config world (mutator_at seat made kept spot) command None

  -- it polls
  polls : (spot : Spot) → Own spot → (spot ≡ Waiting wait.Poll) × IsRefused command None × IsAsked world.memory world.block world.graph.count seat refused
  polls (Waiting wait.Poll) mine = by_facts mine.facts
    where
      by_facts : SpotFacts config world seat made kept command None (Waiting wait.Poll) → (Waiting wait.Poll ≡ Waiting wait.Poll) × IsRefused command None × IsAsked world.memory world.block world.graph.count seat refused
      by_facts (inl waits) = absurd (let no_answer = waits.0.1.1 in omega (arith, heap_full, no_answer))
      by_facts (inr (inl was_given)) = absurd (let answer_given = was_given.1.1 in omega (arith, heap_full, answer_given))
      by_facts (inr (inr was_refused)) = (refl, was_refused.0, was_refused.1)
  polls (Waiting wait.StoreRequest) mine = absurd (let answer_null = mine.facts.1.1 in omega (arith, heap_full, answer_null))
  polls (Waiting wait.AskRoom) mine = absurd (let answer_null = mine.facts.1.1 in omega (arith, heap_full, answer_null))
  polls (Waiting wait.StepOut) mine = absurd (let answer_null = mine.facts.0.1.1 in omega (arith, heap_full, answer_null))
  polls (Waiting wait.LoadAnswer) mine = absurd (by_facts mine.facts)
    where
      by_facts : SpotFacts config world seat made kept command None (Waiting wait.LoadAnswer) → ⊥
      by_facts (inl was_given) = (let answer_given = was_given.1.1 in omega (arith, heap_full, answer_given))
      by_facts (inr was_refused) = (let reply_settled = was_refused.0.settled in cc)
  polls (Waiting (wait.StoreRoot address)) mine = absurd (let refusal_facts = mine.facts.0.1.1 in omega (arith, heap_full, refusal_facts))
  polls (Waiting (wait.ClearAnswer reply)) mine = absurd (let command_settled = mine.facts.0 in cc)
  polls (Entering spot Waited) mine = absurd (by_facts mine.facts)
    where
      by_facts : SpotFacts config world seat made kept command None (Entering spot Waited) → ⊥
      by_facts (inl was_given) = (let answer_given = was_given.1.1 in omega (arith, heap_full, answer_given))
      by_facts (inr was_refused) = (let reply_settled = was_refused.0.settled in cc)
  polls (Entering spot Call) mine = absurd (let answer_null = (mine.seated.unasked refl).1 in omega (arith, heap_full, answer_null))
  polls _ mine = absurd (let answer_null = (mine.seated.unasked refl).1 in omega (arith, heap_full, answer_null))

  -- it makes an object
  pub refused_new : (spot : Spot) → Own spot → IsNew command
  refused_new spot mine = let polled = (polls spot mine).1 in subst IsNew (sym polled.is) tt

  -- what it counts on once that is settled
  pub refused_mine : (spot : Spot) → Own spot → Mine config world (mutator_at seat made kept spot) command (Some Full)
  refused_mine spot mine =
      let polled = polls spot mine in
      record {
        seated = mine.seated;
        ready = mine.ready;
        marking = mine.marking;
        copying = mine.copying;
        roots = mine.roots;
        rooms = mine.rooms;
        facts = subst (λ any_spot. SpotFacts config world seat made kept command (Some Full) any_spot) (sym polled.0)
            (inr (inr (record { dst = polled.1.dst; refs = polled.1.refs; nums = polled.1.nums; is = polled.1.is; settled = inr refl }, polled.2)));
      }
