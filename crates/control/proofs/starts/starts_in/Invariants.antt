use Rattle.std.proofs.Common.{◌≡◌, ◌<◌, ℕ, length}
use Rattle.std.specs.Prelude.{slice_index}
use Rattle.heap_words.specs.Words.{Current}
use Rattle.image_graph.specs.State.{config_of, memory_of}
use Rattle.control.specs.Starts.{start_index, AreHeapIndices}
use Rattle.control.proofs.starts.starts_in.Given as goal

abbrev pub invariant-loop-seat : goal.invariant-loop-seat
invariant-loop-seat loop = record {
  long : length loop.starts ≡ 12;
  of_seat : (seat : ℕ) → seat < loop.seat → slice_index loop.starts seat ≡ start_index (config_of loop.image) (memory_of loop.image (Current seat));
  heap : AreHeapIndices (config_of loop.image) loop.starts;
}
