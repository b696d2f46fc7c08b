-- That the pauses of marking keep the graph, and what they leave.
use Rattle.std.specs.Prelude.{ℕ, ◌≡◌, ◌↔◌, ◌⊎◌, true, Option}
use Rattle.heap_words.specs.declared.config.Config.{Config}
use Rattle.heap_words.specs.Words.{Word, Cset}
use Rattle.shen_graph.specs.Graph.{Graph}
use Rattle.heap_world.specs.Walk.{has}
use Rattle.heap_world.specs.World.{Plot}
use Rattle.image_graph.specs.Full.{held_in}
use Rattle.image_graph.specs.Promised.{Promises}
use Rattle.image_graph.specs.Holds.{HoldsBy, AreSized}
use Rattle.image_graph.specs.Buffers.{HasNoMoreSeats, settled_block}
use Rattle.cycle_words.specs.Marking.Marks.{is_grey, is_black}
use Rattle.cycle_words.specs.Marking.Init.{init_marked, pruned}
use Rattle.cycle_words.specs.Marking.Close.{IsTraced, closed}
use Rattle.cycle_words.specs.Marking.WhileMarking.{IsMarking, IsMarkedThrough}
use Rattle.cycle_words.specs.Marking.Final.{IsDead, is_dead, dead_in, freed_block, freed_owner, final_marked}

-- The words stand for the same graph once buffers are settled, also where objects that nothing leads to are dead; and of these pieces what
-- holds while marking runs holds. Where each piece said how many words it has, each of these does.
pub record BeginsMarking (config : Config) (before after : Word → ℕ) (block : Plot) (owner : ℕ → Option ℕ) (promises : Promises) (graph : Graph) : Type 0 where
  pub holds : HoldsBy config after (settled_block config before block) owner promises graph
  pub left : HoldsBy config after (pruned (has (held_in config before)) (settled_block config before block)) owner promises graph
  pub marking : IsMarking config after (pruned (has (held_in config before)) (settled_block config before block))
  pub sized : AreSized before block → AreSized after (pruned (has (held_in config before)) (settled_block config before block))

-- So it is where marking begins.
abbrev pub InitMarks : Type 0
InitMarks = (config : Config) (memory : Word → ℕ) (block : Plot) (owner : ℕ → Option ℕ) (promises : Promises) (graph : Graph) → HoldsBy config memory block owner promises graph → memory Cset ≡ 0
    → HasNoMoreSeats config memory → BeginsMarking config memory (init_marked config memory) block owner promises graph

-- Closing the marks blackens exactly what tracing comes to, ..
pub record AreClosed (config : Config) (before after : Word → ℕ) : Type 0 where
  pub black : (a : ℕ) → (is_black config after a ≡ true) ↔ ((is_black config before a ≡ true) ⊎ IsTraced config before a)
  pub grey : (a : ℕ) → (is_grey config after a ≡ true) ↔ IsTraced config before a

abbrev pub ClosingTraces : Type 0
ClosingTraces = (config : Config) (memory : Word → ℕ) (block : Plot) (owner : ℕ → Option ℕ) (promises : Promises) (graph : Graph) → HoldsBy config memory block owner promises graph → IsMarking config memory block
    → AreClosed config memory (closed config memory)

-- .. so that each object that can be reached is kept.
abbrev pub ClosingKeeps : Type 0
ClosingKeeps = (config : Config) (memory : Word → ℕ) (block : Plot) (owner : ℕ → Option ℕ) (promises : Promises) (graph : Graph) → HoldsBy config memory block owner promises graph → IsMarking config memory block
    → HoldsBy config (closed config memory) block owner promises graph × IsMarkedThrough config (closed config memory) block

-- The test of a dead region says what it is to be dead.
abbrev pub DeadIsDead : Type 0
DeadIsDead = (config : Config) (memory : Word → ℕ) (region : ℕ) → (is_dead config memory region ≡ true) ↔ IsDead config memory region

-- The end of marking: nothing that can be reached lies in a dead region, so that without the pieces of those the words stand
-- for the same graph, and each object that can be reached is kept.
abbrev pub EndKeeps : Type 0
EndKeeps = (config : Config) (memory : Word → ℕ) (block : Plot) (owner : ℕ → Option ℕ) (promises : Promises) (graph : Graph) → HoldsBy config memory block owner promises graph → IsMarking config memory block
    → HasNoMoreSeats config memory
    → HoldsBy config (final_marked config memory) (freed_block config (dead_in config memory) block) (freed_owner (dead_in config memory) owner) promises graph
    × IsMarkedThrough config (final_marked config memory) (freed_block config (dead_in config memory) block)
