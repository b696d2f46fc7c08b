use Rattle.std.proofs.Common.{ℕ, ◌≡◌, ◌-◌, Bool, true, false, List, [], map, set, eqb, length, ap, subst, ◌∙◌, arith}
use Rattle.std.specs.Prelude.{MatchBool}
use Rattle.shen_graph.specs.Graph.{Reference}
use Rattle.shen_graph.specs.GraphText.{with_root_of}
use Rattle.trace_reading.specs.Causes.{parts_behind}
use Rattle.heap_dump.specs.HeldReferences.{held}
use Rattle.heap_dump.specs.ObjectWords.{AreRootsWords}
use Rattle.heap_dump.proofs.RowWords.{no_parts, some_parts}
use Rattle.heap_dump.proofs.TakenRoots.{TakenRoots, no_roots, roots_more, roots_end, roots_refused, roots_missing}
use Rattle.heap_dump.proofs.roots.take_root_words.Goals as goal

pub loop-index-init : goal.loop-index-init
loop-index-init c = no_roots (parts_behind 32 c.args.words.now) c.args.thread c.args.graph.now

pub returns-in_default : goal.returns-in_default
returns-in_default c =
    let all_words = parts_behind 32 c.args.words.now in
    let roots_taken = subst (λ (some_words : List (List ℕ)). TakenRoots all_words some_words c.loop-index.index c.args.thread c.args.graph.now c.loop-index.graph) c.in_default.ensures.words c.loop-index.invariant in
    roots_missing all_words [] c.loop-index.index c.args.thread c.args.graph.now c.loop-index.graph roots_taken (λ all_taken. omega (arith, all_taken, c.loop-index-test.true))

pub returns-in_default-reference_in : goal.returns-in_default-reference_in
returns-in_default-reference_in c =
    let all_words = parts_behind 32 c.args.words.now in
    let roots_taken = subst (λ (some_words : List (List ℕ)). TakenRoots all_words some_words c.loop-index.index c.args.thread c.args.graph.now c.loop-index.graph) c.in-Some.ensures.words c.loop-index.invariant in
    roots_refused all_words (parts_behind 32 c.in-Some.behind.now) c.loop-index.index c.args.thread c.args.graph.now c.loop-index.graph c.in-Some.word.now roots_taken c.in_default-reference_in.ensures

pub loop-index-preserved : goal.loop-index-preserved
loop-index-preserved c =
    let all_words = parts_behind 32 c.args.words.now in
    let roots_taken = subst (λ (some_words : List (List ℕ)). TakenRoots all_words some_words c.loop-index.index c.args.thread c.args.graph.now c.loop-index.graph) c.in-Some.ensures.words c.loop-index.invariant in
    let reference_told = c.in-Some-reference_in.ensures in
    roots_more all_words (parts_behind 32 c.in-Some.behind.now) c.loop-index.index c.args.thread c.args.graph.now c.loop-index.graph c.root.new.self c.in-Some.word.now reference_told.0 roots_taken c.loop-index-test.true
    (omega (arith, c.requires.thread)) c.requires.sixteen reference_told.1
    (c.root.ensures ∙ ap (with_root_of c.loop-index.graph c.args.thread c.loop-index.index) reference_told.2)

pub returns : goal.returns
returns c = by_result c.is_empty.result c.is_empty.ensures
  where
    all : List (List ℕ)
    all = parts_behind 32 c.args.words.now

    by_result : (holds : Bool) → holds ≡ eqb (length c.loop-index.rest.now) 0
        → MatchBool holds ((roots : List Reference) × AreRootsWords all [] roots × (c.loop-index.graph ≡ record c.args.graph.now { roots = set c.args.graph.now.roots (c.args.thread - 1) (map held roots) }))
        ((roots : List Reference) → AreRootsWords all [] roots → ⊥)
    by_result true length_test =
        let roots_taken = subst (λ (ws : List (List ℕ)). TakenRoots all ws c.loop-index.index c.args.thread c.args.graph.now c.loop-index.graph) (no_parts 32 c.loop-index.rest.now length_test) c.loop-index.invariant in
        let end_known = roots_end all c.loop-index.index c.args.thread c.args.graph.now c.loop-index.graph c.requires.sixteen (omega (arith, c.loop-index-test.false, c.loop-index.auto.index-end)) roots_taken in
        (roots_taken.roots, end_known.0, end_known.1)
    by_result false length_test =
        roots_missing all (parts_behind 32 c.loop-index.rest.now) c.loop-index.index c.args.thread c.args.graph.now c.loop-index.graph c.loop-index.invariant
        (λ sum. omega (arith, sum, c.loop-index-test.false, some_parts 32 c.loop-index.rest.now length_test))
