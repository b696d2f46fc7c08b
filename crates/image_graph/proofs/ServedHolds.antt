-- Serving keeps the graph that the words hold: request by request, in the order of the threads.
use Rattle.std.proofs.Common.{◌≡◌, ℕ, ◌<◌, ◌≤◌, zero, suc, Option, Some, None, refl, sym, subst, arith}
use Rattle.std.proofs.Math.Path.{fun_ext}
use Rattle.heap_words.specs.declared.config.Config.{Config}
use Rattle.heap_words.specs.Words.{Word}
use Rattle.shen_graph.specs.Graph.{Graph}
use Rattle.heap_world.specs.World.{Plot}
use Rattle.image_graph.specs.Full.{served_in, served}
use Rattle.image_graph.specs.Promised.{Promises}
use Rattle.image_graph.specs.Serving.{made_block, made_promise, turn_room, served_block, served_promises}
use Rattle.image_graph.proofs.TurnWords.{served_first}
use Rattle.image_graph.proofs.ServingKeeps.{finds_room, turn_is}
use Rattle.image_graph.specs.Holds.{HoldsBy, AreSized}
use Rattle.image_graph.specs.Left.{HoldsServed}
use Rattle.image_graph.proofs.ObjectMade.{made_holds, made_sized}

-- what is kept from some words and pieces on
record KeptInTurn (config : Config) (memory : Word → ℕ) (block : Plot) (owner : ℕ → Option ℕ) (graph : Graph) (other_memory : Word → ℕ) (plot : Plot) (promises : Promises) : Type 0 where
  holds : HoldsBy config other_memory plot owner promises graph
  sized : AreSized memory block → AreSized other_memory plot

one_turn : (config : Config) (first_memory : Word → ℕ) (start : Plot) (owner : ℕ → Option ℕ) (graph : Graph) (memory : Word → ℕ) (block : Plot) (promises : Promises) (thread : ℕ) (found : Option ℕ) → thread < config.mutators
    → KeptInTurn config first_memory start owner graph memory block promises → turn_room config memory thread ≡ found
    → KeptInTurn config first_memory start owner graph (served_in config memory thread found) (made_block config memory block thread found) (made_promise memory promises thread found)
one_turn config first_memory start owner graph memory block promises thread None thread_below still_kept found_room = record { holds = still_kept.holds; sized = still_kept.sized }
one_turn config first_memory start owner graph memory block promises thread (Some region) thread_below still_kept found_room =
    let room = finds_room config memory thread region found_room in
    record {
      holds = made_holds config memory block owner promises graph still_kept.holds thread region thread_below room.0 room.1 room.2;
      sized = λ sized. made_sized config memory block owner promises graph still_kept.holds thread region thread_below room.0 room.1 room.2 (still_kept.sized sized);
    }

module _ (config : Config) (memory : Word → ℕ) (block : Plot) (owner : ℕ → Option ℕ) (promises : Promises) (graph : Graph) (graph_held : HoldsBy config memory block owner promises graph) where
  in_turn : (thread : ℕ) → thread ≤ config.mutators → KeptInTurn config memory block owner graph (served config memory thread) (served_block config memory block thread) (served_promises config memory promises thread)
  unfolding served_block served_promises
  in_turn zero thread_below =
      let same_memory : memory ≡ served config memory 0 = fun_ext (λ word. sym (served_first config memory word)) in
      subst (λ next_memory. KeptInTurn config memory block owner graph next_memory block promises) same_memory (record { holds = graph_held; sized = λ sized. sized })
  in_turn (suc thread) thread_below =
      let turn_before = in_turn thread (omega (arith, thread_below)) in
      let next_turn = one_turn config memory block owner graph (served config memory thread) (served_block config memory block thread) (served_promises config memory promises thread) thread (turn_room config (served config memory thread) thread) (omega (arith, thread_below)) turn_before refl in
      subst (λ next_memory. KeptInTurn config memory block owner graph next_memory (made_block config (served config memory thread) (served_block config memory block thread) thread (turn_room config (served config memory thread) thread))
      (made_promise (served config memory thread) (served_promises config memory promises thread) thread (turn_room config (served config memory thread) thread))) (sym (turn_is config memory thread)) next_turn

  pub serving_holds : HoldsServed config memory (served config memory config.mutators) block owner promises graph
  serving_holds = let all_turns = in_turn config.mutators (omega arith) in record { holds = all_turns.holds; sized = all_turns.sized }
