use Rattle.std.proofs.Common.{arith}
use Rattle.std.proofs.lemmas.Bool.{and_parts}
use Rattle.heap_words.proofs.Stores.{is_word_true}
use Rattle.heap_words.specs.Words.{Heap}
use Rattle.load_barrier.proofs.SmallAddresses.{address_small}
use Rattle.load_barrier.proofs.copying.CopySpot.access.Goals as goal

pub buffer-requires-clause-next : goal.buffer-requires-clause-next
buffer-requires-clause-next c =
    let copy_small = address_small c.args.config c.args.copy (is_word_true c.args.config (Heap c.args.copy) (and_parts _ _ (rw c.in-GiveBack.is at c.requires.ready)).0) in
    omega (arith, copy_small)
