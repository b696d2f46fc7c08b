-- What tracing comes to lies in the heap.
use Rattle.std.proofs.Common.{◌≡◌, ℕ, ◌+◌, ◌<◌, false, arith}
use Rattle.heap_words.specs.declared.config.Config.{Config}
use Rattle.heap_words.specs.Words.{Word, Count, Buffer, Heap, IsWord}
use Rattle.heap_words.specs.Encoding.{refs_in}
use Rattle.cycle_words.specs.Marking.Marks.{is_black}
use Rattle.cycle_words.specs.Marking.Close.{IsTraced, from_buffer, from_field}
use Rattle.mark_core.specs.Trace.{IsNullOrInside, CanTrace}

module _ (config : Config) (memory : Word → ℕ) (can_trace : CanTrace config memory) where
  -- an object with its references
  pub part_inside : (address index : ℕ) → IsTraced config memory address → index < 3 + refs_in (memory (Heap (address + 1))) → IsWord config (Heap (address + index))
  part_inside address index traced index_below = (let object_above = can_trace.above address traced in omega (arith, object_above), let object_below = can_trace.below address traced in omega (arith, object_below, index_below))

  pub traced_inside : (address : ℕ) → IsTraced config memory address → IsWord config (Heap address)
  traced_inside address traced = (can_trace.above address traced, let object_below = can_trace.below address traced in omega (arith, object_below))

  -- an entry, and what a reference names
  pub entry_inside : (mutator index : ℕ) → mutator < config.mutators → index < memory (Count mutator) → IsNullOrInside config (memory (Buffer mutator index))
  entry_inside mutator index mutator_below index_below some_word = traced_inside (memory (Buffer mutator index)) (from_buffer mutator index mutator_below index_below some_word)

  pub field_inside : (address index : ℕ) → IsTraced config memory address → is_black config memory address ≡ false → index < refs_in (memory (Heap (address + 1))) → IsNullOrInside config (memory (Heap (address + 3 + index)))
  field_inside address index traced not_black index_below some_word = traced_inside (memory (Heap (address + 3 + index))) (from_field address index traced not_black index_below some_word)
