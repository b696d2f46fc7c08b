use Rattle.std.proofs.Common.{ℕ, ◌≡◌, ◌-◌, List, [], ◌∷◌, map, set, sym, ap, subst, ◌∙◌, arith}
use Rattle.std.specs.Fmt.{decimal}
use Rattle.shen_graph.specs.Graph.{Reference}
use Rattle.trace_reading.specs.Causes.{parts_behind}
use Rattle.heap_dump.specs.HeldReferences.{held}
use Rattle.heap_dump.specs.ObjectWords.{AreRootsWords}
use Rattle.heap_dump.proofs.TakenRoots.{both_ways, first_is, none_first, decimal_once}
use Rattle.heap_dump.proofs.roots.take_numbered.Goals as goal

pub returns-in_default : goal.returns-in_default
returns-in_default c = λ roots roots_words.
    none_first (decimal c.args.thread) [] roots (subst (λ (some_words : List (List ℕ)). AreRootsWords some_words (decimal c.args.thread ∷ []) roots) c.in_default.ensures.words roots_words)

pub returns-in-Some-number_in : goal.returns-in-Some-number_in
returns-in-Some-number_in c =
    rw c.in-Some.ensures.words
    (both_ways c.take_root_words.result c.in-Some.word.now (decimal c.args.thread) (parts_behind 32 c.in-Some.rest.now) []
    (λ (roots : List Reference). c.take_root_words.new.graph ≡ record c.args.graph.now { roots = set c.args.graph.now.roots (c.args.thread - 1) (map held roots) })
    (c.in-Some-number_in.ensures.1 ∙ ap decimal c.if-number-thread.true) c.take_root_words.ensures)

pub returns-in_default-number_in : goal.returns-in_default-number_in
returns-in_default-number_in c = λ roots roots_words.
    let whole_words = subst (λ (some_words : List (List ℕ)). AreRootsWords some_words (decimal c.args.thread ∷ []) roots) c.in-Some.ensures.words roots_words in
    let first_told = first_is c.in-Some.word.now (decimal c.args.thread) (parts_behind 32 c.in-Some.rest.now) [] roots whole_words in
    let number = c.in-Some-number_in.ensures in
    c.if-number-thread.false (decimal_once c.in-Some-number_in.number c.args.thread (omega (arith, number.0)) (omega (arith, c.requires.thread, c.requires.few)) (sym number.1 ∙ first_told))
