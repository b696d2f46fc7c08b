-- What a step owes as an event that settles nothing: of a helper, or of the control outside the words of an image.
use Rattle.std.proofs.Common.{◌≡◌, ◌≢◌, ℕ, ◌+◌, ⊎_elim, true, false, List, [], ◌++◌, length, Option, Some, refl, sym, ap, subst}
use Rattle.std.specs.Prelude.{slice_get}
use Rattle.std.proofs.lemmas.Bool.{cases_eq}
use Rattle.std.proofs.lemmas.List.{append-nil}
use Rattle.std.proofs.lemmas.List.Elements.{All-nil}
use Rattle.heap_words.specs.declared.config.Config.{Config}
use Rattle.heap_words.specs.Words.{is_word, is_image, table_words}
use Rattle.heap_words.specs.Touch.{Touch, touched}
use Rattle.shen_graph.specs.Graph.{Graph}
use Rattle.shen_graph.specs.History.{Entry, of_thread}
use Rattle.heap_world.specs.World.{Ghost, World, Plot, promised, Shared}
use Rattle.heap_world.specs.Part.{PartStep}
use Rattle.collector_rows.specs.Extent.{Counting}
use Rattle.collector_rows.specs.ControlRows.{Controlling}
use Rattle.step_core.specs.Actor.{controlling, Actor}
use Rattle.step_core.specs.Settled.{settled_by}
use Rattle.step_core.specs.Threads.{IsSettled}
use Rattle.step_core.proofs.Machines.Owed.{IsAim, IsMachine, PromisedToMutators, Owes}
use Rattle.step_core.proofs.Control.Images.{words_after}
use Rattle.step_core.proofs.Machines.Answered.{other_raw, other_counts}
use Rattle.step_core.proofs.Machines.Roles.{machine_stays}

-- a step promises nothing to its own seat that was not promised, and the others rely on that too
promises_stay : (config : Config) (world : World) (seat : ℕ) (touch : Touch) (facts : World → Type 0) → PromisedToMutators config world.block → (step : PartStep config world seat touch facts) → PromisedToMutators config step.world.block
promises_stay config world seat touch facts promised_to step address other_seat words piece_there = ⊎_elim
    (λ (same_seat : other_seat ≡ seat).
    promised_to address other_seat words (subst (λ seat. world.block address ≡ Some (promised seat words)) (sym same_seat) (step.keeps.no_promises address words (subst (λ seat. step.world.block address ≡ Some (promised seat words)) same_seat piece_there))))
    (λ (seats_differ : other_seat ≢ seat). promised_to address other_seat words ((step.others other_seat seats_differ).no_promises address words piece_there))
    (cases_eq other_seat seat)

module _ (config : Config) (words : List ℕ) (found : Option Counting) (block : Plot) (ghost : Ghost) (graph : Graph) (past : List Entry) (number : ℕ) (machines : List Actor) (touch : Touch)
    (table_long : length words ≡ table_words config) (word_tested : is_word config touch.word ≡ true) (held_apart : (image : Counting) → found ≡ Some image → is_image touch.word ≡ false) (new : Actor) where
  abbrev words_then : List ℕ
  words_then = words_after config words touch

  abbrev world_then : World
  world_then = record { memory = settled_by config words found; block = block; ghost = ghost; graph = graph }

  same_entries : (thread : ℕ) → of_thread (past ++ []) (thread + 1) ≡ of_thread past (thread + 1)
  same_entries thread = ap (λ entries. of_thread entries (thread + 1)) (append-nil past)

  pub quiet_owes : Shared config world_then → PromisedToMutators config block → (step : PartStep config world_then number touch (λ any_world. IsMachine config words_then any_world (of_thread past (number + 1)) number new new.machine))
      → ((index : ℕ) (actor : Actor) → index ≢ number → slice_get machines index ≡ Some actor → IsMachine config words world_then (of_thread past (index + 1)) index actor actor.machine → (control : Controlling) → actor.machine ≡ controlling control
      → IsAim config words control.spot control.image → IsAim config words_then control.spot control.image)
      → Owes config words words_then world_then past number machines (touched world_then.memory touch) [] new
  quiet_owes shared promised_to step aims = record {
    world = step.world;
    memory_is = step.memory;
    graph_is = step.graph;
    legal = tt;
    entries = All-nil (IsSettled config.mutators);
    shared = step.shared;
    promised_to = promises_stay config world_then number touch (λ any_world. IsMachine config words_then any_world (of_thread past (number + 1)) number new new.machine) promised_to step;
    own = subst (λ some_entries. IsMachine config words_then step.world some_entries number new new.machine) (sym (same_entries number)) step.own;
    others = λ index actor differs actor_there actor_known.
        machine_stays config words words_then world_then step.world (of_thread past (index + 1)) (of_thread (past ++ []) (index + 1)) index actor actor.machine shared
        (record {
          rely = step.others index differs;
          answer = other_raw config words found touch world_then step.world refl step.memory table_long word_tested held_apart found refl index (step.others index differs);
          counts = other_counts config words found touch world_then step.world refl step.memory table_long word_tested held_apart (λ image held_so. step.graph) found refl index;
          aims = λ control same_machine. aims index actor differs actor_there actor_known control same_machine;
        })
        (same_entries index) actor_known;
  }
