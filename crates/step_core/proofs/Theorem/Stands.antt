-- What a stage says in which all goes as it should: its words and machines stand for the graph after the history.
use Rattle.std.proofs.Common.{ℕ, ◌+◌, List, subst}
use Rattle.heap_words.specs.declared.config.Config.{Config}
use Rattle.heap_words.specs.Steps.{Stage}
use Rattle.shen_graph.specs.Graph.{Graph}
use Rattle.shen_graph.specs.History.{Entry, after, of_thread}
use Rattle.mutator.specs.Rows.{Mutating}
use Rattle.heap_world.specs.World.{World}
use Rattle.step_core.specs.Actor.{Actor}
use Rattle.step_core.specs.Sound.{world_of, IsMutator, StandsFor}
use Rattle.step_core.proofs.Machines.Owed.{IsThread, IsMachine}
use Rattle.step_core.proofs.Machines.Requests.{has_asked}
use Rattle.step_core.proofs.Machines.Seats.{in_seat, served}
use Rattle.step_core.proofs.Theorem.Induction.{Goes}

module _ (config : Config) (graph : Graph) (stage : Stage Actor) (entries : List Entry) (goes_so_far : Goes config graph stage entries) where
  abbrev pub the_world : World
  the_world = world_of config stage goes_so_far.follows.block goes_so_far.follows.ghost (after graph entries)

  -- of a mutator
  pub thread_of : (number : ℕ) (actor : Actor) (mutator : Mutating) → IsMutator stage number actor mutator → IsThread config stage.words the_world (of_thread entries (number + 1)) number actor mutator
  thread_of number actor mutator mutator_here = subst (λ any_machine. IsMachine config stage.words the_world (of_thread entries (number + 1)) number actor any_machine) mutator_here.is (goes_so_far.follows.machines number actor mutator_here.here)

  -- words and machines stand for the graph
  abbrev pub stands : StandsFor config stage (after graph entries)
  stands = record {
    block = goes_so_far.follows.block;
    ghost = goes_so_far.follows.ghost;
    shared = goes_so_far.follows.shared;
    rooms = goes_so_far.follows.shared.owned.rooms.seated;
    promised_to = goes_so_far.follows.promised_to;
    mutators = λ number some_actor some_mutator mutator_here. let own_facts = (thread_of number some_actor some_mutator mutator_here).mine in record { made = own_facts.seated.counted; roots = own_facts.roots; rooms = own_facts.rooms };
    asked = λ number actor mutator mutator_here going. let thread = thread_of number actor mutator mutator_here in has_asked config the_world mutator.seat mutator.made mutator.kept actor.command thread.fixed mutator.spot going thread.mine;
    seats = λ number actor mutator_here. in_seat config stage.words the_world (of_thread entries (number + 1)) number actor actor.machine (goes_so_far.follows.machines number actor mutator_here);
    served = λ number actor mutator mutator_here. let thread = thread_of number actor mutator mutator_here in served config the_world mutator actor.command thread.fixed thread.mine;
  }
