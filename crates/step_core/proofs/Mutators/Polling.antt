-- A mutator that looks for its answer while a pause writes its image back: it finds the word of the table, which may not be written yet.
use Rattle.std.proofs.Common.{◌≡◌, ◌≢◌, ℕ, ◌+◌, ◌<◌, inl, inr, ⊎_elim, Bool, true, false, List, [], ◌++◌, Option, Some, None, refl, sym, ap, ◌∙◌, arith}
use Rattle.std.specs.Prelude.{◌==◌, if◌then◌else◌}
use Rattle.std.proofs.lemmas.Bool.{eqb-false}
use Rattle.std.proofs.lemmas.Bool.Decides.{nat_tests}
use Rattle.std.proofs.lemmas.List.{append-nil}
use Rattle.std.proofs.lemmas.List.Elements.{All-nil}
use Rattle.heap_words.specs.declared.config.Config.{Config}
use Rattle.heap_words.specs.Words.{Answer, view}
use Rattle.shen_graph.specs.declared.command.Command.{Command}
use Rattle.shen_graph.specs.declared.command.Reply.{Reply}
use Rattle.shen_graph.specs.declared.command.Reply.TheVariants.{Full}
use Rattle.shen_graph.specs.Graph.{Graph}
use Rattle.shen_graph.specs.History.{Entry, of_thread}
use Rattle.handshake.specs.declared.enter_spot.EnterSpot.TheVariants.{Raise}
use Rattle.mutator.specs.declared.spot.Kept.{Kept}
use Rattle.mutator.specs.declared.spot.Spot.{Spot}
use Rattle.mutator.specs.declared.spot.Spot.TheVariants.{Entering, Waiting}
use Rattle.mutator.specs.declared.spot.Entered.TheVariants.{Waited}
use Rattle.mutator.specs.declared.waits.WaitSpot.TheVariants as wait
use Rattle.mutator.specs.Fit.{is_ready}
use Rattle.heap_world.specs.World.{Ghost, World, Plot, Shared}
use Rattle.heap_world.proofs.Keeping.{rely_same}
use Rattle.step_core.specs.Actor.{mutating, Actor, entries_of}
use Rattle.collector_rows.specs.Extent.{Counting}
use Rattle.step_core.specs.Settled.{mixed}
use Rattle.step_core.proofs.Machines.Stepped.{IsPolling, IsAnswered}
use Rattle.step_core.specs.Threads.{IsSettled}
use Rattle.step_core.proofs.Machines.Owed.{IsSeen, IsThread, PromisedToMutators, Owes}
use Rattle.step_core.proofs.Machines.Roles.{machine_stays}
use Rattle.step_core.proofs.Mutators.Spots.{mutator_at}

-- a mutator can always say that it is in
raise_ready : (config : Config) (seat made : ℕ) (kept : Kept) → seat < config.mutators → is_ready config seat made kept (Entering Raise Waited) ≡ true
raise_ready config seat made kept seat_below = grind (arith, nat_tests)

-- an answer in the table is the one that it has been waiting for
answered_by : (world : World) (seat made raw : ℕ) (kept_command command : Command) (fixed : Option Reply) → raw ≢ 0 → IsSeen raw (world.memory (Answer seat)) fixed → IsPolling world seat made kept_command command fixed → IsAnswered world seat made kept_command command fixed
answered_by world seat made raw kept_command command fixed some_raw answer_seen (inl waits) = absurd (some_raw (answer_seen.null waits.0.1.1))
answered_by world seat made raw kept_command command fixed some_raw answer_seen (inr (inl was_given)) = inl was_given
answered_by world seat made raw kept_command command fixed some_raw answer_seen (inr (inr was_refused)) = inr (
  record {
    dst = was_refused.0.dst;
    refs = was_refused.0.refs;
    nums = was_refused.0.nums;
    is = was_refused.0.is;
    settled = ⊎_elim (λ (both_full : (raw ≡ 1) × (fixed ≡ Some Full)). both_full.1) (λ (none_settled : (raw ≡ 0) × (fixed ≡ None)). absurd (some_raw none_settled.0)) (answer_seen.full was_refused.1.1);
  },
  was_refused.1,
)

module _ (config : Config) (words : List ℕ) (image : Counting) (block : Plot) (ghost : Ghost) (graph : Graph) (past : List Entry) (seat made : ℕ) (kept : Kept) (machines : List Actor) (command : Command) (calls : List Entry) where
  abbrev world_then : World
  world_then = record { memory = mixed config words image; block = block; ghost = ghost; graph = graph }

  -- the word that it finds
  abbrev raw : ℕ
  raw = view config words (Answer seat)

  -- the actor at a spot
  abbrev pub polled : Spot → Actor
  polled spot = record { machine = mutating (mutator_at seat made kept spot); command = command; calls = calls ++ [] }

  abbrev polls : Actor
  polls = record { machine = mutating (mutator_at seat made kept (Waiting wait.Poll)); command = command; calls = calls }

  same_entries : (number : ℕ) → of_thread (past ++ []) (number + 1) ≡ of_thread past (number + 1)
  same_entries number = ap (λ entries. of_thread entries (number + 1)) (append-nil past)

  -- it goes on, or looks again
  own_polls : (thread_facts : IsThread config words world_then (of_thread past (seat + 1)) seat polls (mutator_at seat made kept (Waiting wait.Poll))) → (holds : Bool) → (raw == 0) ≡ holds
      → IsThread config words world_then (of_thread (past ++ []) (seat + 1)) seat (polled (if holds then Waiting wait.Poll else Entering Raise Waited)) (mutator_at seat made kept (if holds then Waiting wait.Poll else Entering Raise Waited))
  own_polls thread_facts true null_answer = record {
    fixed = thread_facts.fixed;
    number_is = refl;
    valid = thread_facts.valid;
    mine = thread_facts.mine;
    seen = thread_facts.seen;
    short = thread_facts.short;
    entries_are = same_entries seat ∙ thread_facts.entries_are ∙ ap (λ entries. entries ++ entries_of seat command thread_facts.fixed) (sym (append-nil calls));
  }
  own_polls thread_facts false some_answer = record {
    fixed = thread_facts.fixed;
    number_is = refl;
    valid = thread_facts.valid;
    mine = record {
      seated = record { below = thread_facts.mine.seated.below; counted = thread_facts.mine.seated.counted; usable = thread_facts.mine.seated.usable; unasked = λ never. absurd (cc (never)) };
      ready = raise_ready config seat made kept thread_facts.mine.seated.below;
      marking = thread_facts.mine.marking;
      copying = thread_facts.mine.copying;
      roots = thread_facts.mine.roots;
      rooms = thread_facts.mine.rooms;
      facts = answered_by world_then seat made raw kept.command command thread_facts.fixed (eqb-false _ _ some_answer) thread_facts.seen thread_facts.mine.facts;
    };
    seen = thread_facts.seen;
    short = thread_facts.short;
    entries_are = same_entries seat ∙ thread_facts.entries_are ∙ ap (λ entries. entries ++ entries_of seat command thread_facts.fixed) (sym (append-nil calls));
  }

  pub polls_owes : Shared config world_then → PromisedToMutators config block → IsThread config words world_then (of_thread past (seat + 1)) seat polls (mutator_at seat made kept (Waiting wait.Poll))
      → Owes config words words world_then past seat machines (mixed config words image) [] (polled (if raw == 0 then Waiting wait.Poll else Entering Raise Waited))
  polls_owes shared promised_to thread_facts = record {
    world = world_then;
    memory_is = refl;
    graph_is = refl;
    legal = tt;
    entries = All-nil (IsSettled config.mutators);
    shared = shared;
    promised_to = promised_to;
    own = own_polls thread_facts (raw == 0) refl;
    others = λ other_number actor differs machine_there known_machine.
        machine_stays config words words world_then world_then (of_thread past (other_number + 1)) (of_thread (past ++ []) (other_number + 1)) other_number actor actor.machine shared
        (record { rely = rely_same config other_number world_then; answer = refl; counts = inr (record { graph = refl; promised = λ v. refl }); aims = λ control same_machine aim_is. aim_is }) (same_entries other_number) known_machine;
  }
