-- What is known of the words after a pause, whatever graph they held before.
use Rattle.std.proofs.Common.{ℕ, Bool}
use Rattle.std.proofs.Math.Logic.{∥∥₁_map}
use Rattle.heap_words.specs.declared.config.Config.{Config}
use Rattle.heap_words.specs.Words.{Word}
use Rattle.heap_world.specs.Walk.{has}
use Rattle.image_graph.specs.Full.{held_in}
use Rattle.image_graph.specs.Holds.{HoldsSome}
use Rattle.image_graph.specs.Buffers.{settled_block}
use Rattle.cycle_words.specs.Marking.Init.{pruned}
use Rattle.cycle_words.specs.Marking.Final.{freed_block, freed_owner}
use Rattle.mark_core.specs.Result.{MarksSome, BeginsToMark, MarksThrough, EndsMarking}

module _ (config : Config) (before after : Word → ℕ) where
  pub marks_after : BeginsToMark config before after → HoldsSome config before → MarksSome config after
  marks_after begins graph_held = ∥∥₁_map graph_held (λ witness. (let marking_begun = begins witness.1.0 witness.1.1 witness.1.2 witness.0 witness.1.3 in (witness.0, pruned (has (held_in config before)) (settled_block config before witness.1.0), witness.1.1, witness.1.2, marking_begun.left, marking_begun.marking)))

  pub holds_closed : MarksThrough config before after → MarksSome config before → HoldsSome config after
  holds_closed through marks = ∥∥₁_map marks (λ witness. (witness.0, (witness.1, witness.2, witness.3, (through witness.1 witness.2 witness.3 witness.0 witness.4 witness.5).0)))

  pub holds_ended : (freed_region : ℕ → Bool) → EndsMarking config freed_region before after → MarksSome config before → HoldsSome config after
  holds_ended freed_region ends marks = ∥∥₁_map marks (λ witness. (witness.0, (freed_block config freed_region witness.1, freed_owner freed_region witness.2, witness.3, (ends witness.1 witness.2 witness.3 witness.0 witness.4 witness.5).0)))
