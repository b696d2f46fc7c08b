use Rattle.std.proofs.Common.{◌≡◌}
use Rattle.image_graph.specs.State.{config_of, memory_of}
use Rattle.mark_core.specs.Steps.{emptied}
use Rattle.mark_core.proofs.clear.empty_buffers.Given as goal

abbrev pub invariant-loop-mutator : goal.invariant-loop-mutator
invariant-loop-mutator locals = record {
  config : config_of locals.image ≡ config_of locals.fn.image;
  words : memory_of locals.image ≡ emptied locals.mutator (memory_of locals.fn.image);
}
