use Rattle.std.proofs.Common.{ℕ, ◌≡◌, ◌-◌, List, [], ◌∷◌, map, set, codes, subst}
use Rattle.std.specs.Fmt.{decimal}
use Rattle.shen_graph.specs.Graph.{Reference}
use Rattle.trace_reading.specs.Causes.{parts_behind}
use Rattle.heap_dump.specs.HeldReferences.{held}
use Rattle.heap_dump.specs.ObjectWords.{AreRootsWords}
use Rattle.heap_dump.proofs.References.{not_same}
use Rattle.heap_dump.proofs.TakenRoots.{both_ways, first_is, same_bytes}
use Rattle.heap_dump.proofs.roots.take_roots.Goals as goal

pub returns-then-eq : goal.returns-then-eq
returns-then-eq c =
    rw c.cut.ensures.parts
    (both_ways c.take_numbered.result c.cut.result.0.now (codes "roots") (parts_behind 32 c.cut.result.1.now) (decimal c.args.thread ∷ [])
    (λ (roots : List Reference). c.take_numbered.new.graph ≡ record c.args.graph.now { roots = set c.args.graph.now.roots (c.args.thread - 1) (map held roots) })
    (same_bytes c.cut.result.0.now (codes "roots") (rw (← c.as_slice.ensures) c.if-eq.ensures)) c.take_numbered.ensures)

pub returns-else-eq : goal.returns-else-eq
returns-else-eq c = λ roots roots_words.
    not_same c.cut.result.0.now (codes "roots") (rw (← c.as_slice.ensures) c.if-eq.ensures)
    (first_is c.cut.result.0.now (codes "roots") (parts_behind 32 c.cut.result.1.now) (decimal c.args.thread ∷ []) roots
    (subst (λ (some_words : List (List ℕ)). AreRootsWords some_words (codes "roots" ∷ decimal c.args.thread ∷ []) roots) c.cut.ensures.parts roots_words))
