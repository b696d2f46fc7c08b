-- An event that is as it should be leads from a stage that follows its history to one that does.
use Rattle.std.proofs.Common.{◌≡◌, ◌≢◌, ℕ, ◌+◌, ⊎_elim, List, ◌++◌, length, Some, refl, sym, ap, ◌∙◌, subst}
use Rattle.std.specs.Prelude.{slice_get, slice_set}
use Rattle.std.proofs.lemmas.List.{length-set}
use Rattle.std.proofs.lemmas.List.Elements.{All-append}
use Rattle.std.proofs.lemmas.Option.{same_Some}
use Rattle.std.proofs.lemmas.Bool.{cases_eq}
use Rattle.heap_words.proofs.Lists.{slice_get-set_other, slice_get-set_same}
use Rattle.heap_words.specs.declared.config.Config.{Config}
use Rattle.heap_words.specs.Words.{table_words}
use Rattle.heap_words.specs.Steps.{Stage}
use Rattle.shen_graph.specs.Graph.{Graph}
use Rattle.shen_graph.specs.History.{Entry, after, of_thread}
use Rattle.heap_world.specs.World.{World, Shared}
use Rattle.step_core.specs.Actor.{Actor}
use Rattle.step_core.specs.Settled.{settled}
use Rattle.step_core.specs.Threads.{IsSettled}
use Rattle.step_core.specs.Sound.{world_of}
use Rattle.heap_world.specs.Roots.{HasNoMoreRoots, HasNoMorePins}
use Rattle.step_core.proofs.Mutators.Roots.{no_more_after, no_more_pins_after}
use Rattle.step_core.proofs.Machines.Owed.{IsMachine, Follows, Owes}
use Rattle.step_core.proofs.History.Entries.{after-append, legal-append}

-- two worlds of equal parts are equal
same_world : (world other_world : World) → world.memory ≡ other_world.memory → world.block ≡ other_world.block → world.ghost ≡ other_world.ghost → world.graph ≡ other_world.graph → world ≡ other_world
same_world world other_world same_memory block ghost same_graph = λ address. record { memory = same_memory address; block = block address; ghost = ghost address; graph = same_graph address }

module _ (config : Config) (graph : Graph) (stage : Stage Actor) (past_entries : List Entry) (number : ℕ) (old new : Actor) (words : List ℕ) (settles : List Entry) where
  -- the stage after the event
  abbrev new_stage : Stage Actor
  new_stage = record { words = words; machines = slice_set stage.machines number new }

  -- the event puts the stage where it should be
  pub follows_owes : (past_follows : Follows config graph stage past_entries) → Owes config stage.words words (world_of config stage past_follows.block past_follows.ghost (after graph past_entries)) past_entries number stage.machines (settled config new_stage) settles new
      → slice_get stage.machines number ≡ Some old → length words ≡ table_words config → Follows config graph new_stage (past_entries ++ settles)
  follows_owes past_follows owes old_there table_length =
      let world_is : owes.world ≡ world_of config new_stage owes.world.block owes.world.ghost (after graph (past_entries ++ settles)) =
      same_world owes.world (world_of config new_stage owes.world.block owes.world.ghost (after graph (past_entries ++ settles))) owes.memory_is refl refl (owes.graph_is ∙ sym (after-append graph past_entries settles)) in
      record {
        block = owes.world.block;
        ghost = owes.world.ghost;
        words = table_length;
        seats = length-set stage.machines number new ∙ past_follows.seats;
        legal = legal-append config.regions config.region_words graph past_entries settles past_follows.legal owes.legal;
        entries = All-append (IsSettled config.mutators) past_entries settles past_follows.entries owes.entries;
        no_more = subst (λ graph_after. HasNoMoreRoots config.mutators graph_after) (sym (after-append graph past_entries settles)) (no_more_after config.mutators (after graph past_entries) settles owes.entries past_follows.no_more);
        no_more_pins = subst (λ graph_after. HasNoMorePins config.mutators graph_after) (sym (after-append graph past_entries settles)) (no_more_pins_after config.mutators (after graph past_entries) settles owes.entries past_follows.no_more_pins);
        shared = subst (λ world. Shared config world) world_is owes.shared;
        promised_to = owes.promised_to;
        machines = λ each_number actor actor_there.
            subst (λ world. IsMachine config words world (of_thread (past_entries ++ settles) (each_number + 1)) each_number actor actor.machine) world_is
            (⊎_elim
            (λ (same_number : each_number ≡ number).
            let same_actor : new ≡ actor = same_Some new actor (sym (slice_get-set_same stage.machines number old new old_there) ∙ ap (λ machine_number. slice_get new_stage.machines machine_number) (sym same_number) ∙ actor_there) in
            subst (λ machine_number. IsMachine config words owes.world (of_thread (past_entries ++ settles) (machine_number + 1)) machine_number actor actor.machine) (sym same_number)
            (subst (λ given_actor. IsMachine config words owes.world (of_thread (past_entries ++ settles) (number + 1)) number given_actor given_actor.machine) same_actor owes.own))
            (λ (numbers_differ : each_number ≢ number).
            let actor_before : slice_get stage.machines each_number ≡ Some actor = sym (slice_get-set_other stage.machines number each_number new numbers_differ) ∙ actor_there in
            owes.others each_number actor numbers_differ actor_before (past_follows.machines each_number actor actor_before))
            (cases_eq each_number number));
      }
