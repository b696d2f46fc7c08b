use Rattle.std.proofs.Common.{ℕ, List, ◌∷◌, codes, length, ap, subst, inl, inr, ◌∙◌, arith}
use Rattle.shen_graph.specs.GraphText.{add_reference, with_reference}
use Rattle.shen_graph.proofs.RowLemmas.{length-change_last}
use Rattle.trace_reading.specs.Causes.{parts_behind}
use Rattle.heap_dump.proofs.References.{not_same}
use Rattle.heap_dump.proofs.RowWords.{no_parts, some_parts}
use Rattle.heap_dump.proofs.TakenFields.{TakenRefs, no_refs, refs_more, refs_refused, refs_short, refs_missing}
use Rattle.heap_dump.proofs.fields.take_references.Goals as goal
use Rattle.heap_dump.proofs.fields.take_references.Goals.{then-count-eq-MOST_FIELDS-via-then-count-eq-MOST_FIELDS, then-count-eq-MOST_FIELDS-via-else-count-eq-MOST_FIELDS+then-is_empty}

pub references-init : goal.references-init
references-init c = no_refs (parts_behind 32 c.args.words.now) c.args.graph.now c.requires.room

pub returns-then-count-eq-MOST_FIELDS : goal.returns-then-count-eq-MOST_FIELDS
returns-then-count-eq-MOST_FIELDS c =
    let all_words = parts_behind 32 c.args.words.now in
    let references_taken = subst (λ (some_words : List (List ℕ)). TakenRefs all_words some_words c.references.count c.args.graph.now c.references.graph) c.in-Some.ensures.words c.references.invariant in
    let never = not_same c.in-Some.word.now (codes "/") (rw (← c.as_slice.ensures) c.if-eq.ensures) in
    elim c.then-count-eq-MOST_FIELDS.branch [
      | then-count-eq-MOST_FIELDS-via-then-count-eq-MOST_FIELDS w ↦ refs_refused all_words (parts_behind 32 c.in-Some.behind.now) c.references.count c.args.graph.now c.references.graph c.in-Some.word.now references_taken never (inl (omega (arith, w.if-count-eq-MOST_FIELDS.true)))
      | then-count-eq-MOST_FIELDS-via-else-count-eq-MOST_FIELDS+then-is_empty w ↦ refs_short all_words c.references.count c.args.graph.now c.references.graph c.in-Some.word.now
          (subst (λ (some_words : List (List ℕ)). TakenRefs all_words (c.in-Some.word.now ∷ some_words) c.references.count c.args.graph.now c.references.graph) (no_parts 32 c.in-Some.behind.now w.if-is_empty.ensures) references_taken) never
    ]

pub returns-in_err-reference_in : goal.returns-in_err-reference_in
returns-in_err-reference_in c =
    let all_words = parts_behind 32 c.args.words.now in
    let references_taken = subst (λ (some_words : List (List ℕ)). TakenRefs all_words some_words c.references.count c.args.graph.now c.references.graph) c.in-Some.ensures.words c.references.invariant in
    rw c.from_residual.ensures
    (refs_refused all_words (parts_behind 32 c.in-Some.behind.now) c.references.count c.args.graph.now c.references.graph c.in-Some.word.now references_taken
    (not_same c.in-Some.word.now (codes "/") (rw (← c.as_slice.ensures) c.if-eq.ensures)) (inr c.in_err-reference_in.ensures))

pub reference-requires-clause-room : goal.reference-requires-clause-room
reference-requires-clause-room c =
    let some_behind = some_parts 32 c.in-Some.behind.now c.if-is_empty.ensures in
    let sizes = ap length c.in-Some.ensures.words in
    omega (arith, some_behind, sizes, c.references.invariant.room)

pub references-preserved : goal.references-preserved
references-preserved c =
    let all_words = parts_behind 32 c.args.words.now in
    let graph_now = c.references.graph in
    let references_taken = subst (λ (some_words : List (List ℕ)). TakenRefs all_words some_words c.references.count c.args.graph.now graph_now) c.in-Some.ensures.words c.references.invariant in
    let some_behind = some_parts 32 c.in-Some.behind.now c.if-is_empty.ensures in
    let sizes = ap length c.in-Some.ensures.words in
    let reference_told = c.in_ok-reference_in.ensures in
    refs_more all_words (parts_behind 32 c.in-Some.behind.now) c.references.count c.args.graph.now graph_now c.reference.new.self c.in-Some.word.now reference_told.0 references_taken
    (omega (arith, c.if-count-eq-MOST_FIELDS.false, c.references.invariant.few)) (omega (arith, some_behind, sizes, c.references.invariant.room)) reference_told.1
    (c.reference.ensures ∙ ap (with_reference graph_now) reference_told.2)
    (ap (λ text. length text.rows) c.reference.ensures ∙ length-change_last (add_reference c.in_ok-reference_in.field-0) graph_now.rows)

pub returns : goal.returns
returns c =
    let all_words = parts_behind 32 c.args.words.now in
    refs_missing all_words c.references.count c.args.graph.now c.references.graph
    (subst (λ (some_words : List (List ℕ)). TakenRefs all_words some_words c.references.count c.args.graph.now c.references.graph) c.in_default.ensures.words c.references.invariant)
