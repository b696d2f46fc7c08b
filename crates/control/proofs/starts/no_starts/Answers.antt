use Rattle.std.proofs.Common.{◌<◌, sym, subst, arith}
use Rattle.std.proofs.lemmas.List.{get_or-replicate}
use Rattle.control.specs.Starts.{IsHeapIndex}
use Rattle.control.proofs.Starting.{first_of_heap}
use Rattle.control.proofs.starts.no_starts.Goals as goal

pub returns : goal.returns
returns c = λ index index_less.
    let config = c.args.config in
    let index_below : index < 12 = omega (arith, index_less) in
    subst (IsHeapIndex config) (sym (get_or-replicate 12 index c.heap_index.result 0 index_below)) (subst (IsHeapIndex config) (sym c.heap_index.ensures) (first_of_heap config))
