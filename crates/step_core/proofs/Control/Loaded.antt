-- The step by which the control has loaded a word of the image, and not the last one.
use Rattle.std.proofs.Common.{◌≡◌, ℕ, ◌+◌, inl, List, [], ◌++◌, None, refl, sym, ap}
use Rattle.std.proofs.lemmas.List.{append-nil}
use Rattle.std.proofs.lemmas.List.Elements.{All-nil}
use Rattle.heap_words.specs.declared.config.Config.{Config}
use Rattle.shen_graph.specs.declared.command.Command.{Command}
use Rattle.shen_graph.specs.Graph.{Graph}
use Rattle.shen_graph.specs.History.{Entry, of_thread}
use Rattle.heap_world.specs.World.{Ghost, Plot, Shared}
use Rattle.heap_world.proofs.Keeping.{rely_same}
use Rattle.collector_rows.specs.ControlRows.{Controlling}
use Rattle.step_core.specs.Actor.{controlling, Actor}
use Rattle.step_core.specs.Settled.{stored_image, settled_by, control_number}
use Rattle.step_core.specs.Threads.{IsSettled}
use Rattle.step_core.proofs.Machines.Owed.{IsControl, PromisedToMutators, Owes}
use Rattle.step_core.proofs.Control.OutsideImage.{open_world, no_other_control}
use Rattle.step_core.proofs.Machines.Roles.{machine_stays}

-- nothing changes but what the control has read
pub read_owes : (config : Config) (words : List ℕ) (block : Plot) (ghost : Ghost) (graph : Graph) (past : List Entry) (machines : List Actor) (command : Command) (calls : List Entry) (next : Controlling)
    → Shared config (open_world config words block ghost graph) → PromisedToMutators config block → IsControl config words (open_world config words block ghost graph) (control_number config) next → stored_image next.spot next.image ≡ None
    → Owes config words words (open_world config words block ghost graph) past (control_number config) machines (settled_by config words (stored_image next.spot next.image)) []
    (record { machine = controlling next; command = command; calls = calls ++ [] })
read_owes config words block ghost graph past machines command calls next shared promised_to control_stands no_image = record {
  world = open_world config words block ghost graph;
  memory_is = ap (settled_by config words) (sym no_image);
  graph_is = refl;
  legal = tt;
  entries = All-nil (IsSettled config.mutators);
  shared = shared;
  promised_to = promised_to;
  own = control_stands;
  others = λ other_number other_actor differs found_there known_machine.
      machine_stays config words words (open_world config words block ghost graph) (open_world config words block ghost graph) (of_thread past (other_number + 1)) (of_thread (past ++ []) (other_number + 1)) other_number other_actor other_actor.machine shared
      (record {
        rely = rely_same config other_number (open_world config words block ghost graph);
        answer = refl;
        counts = inl refl;
        aims = λ control is_control. absurd (no_other_control config words (open_world config words block ghost graph) (of_thread past (other_number + 1)) other_number other_actor other_actor.machine differs known_machine control is_control);
      })
      (ap (λ entries. of_thread entries (other_number + 1)) (append-nil past)) known_machine;
}
