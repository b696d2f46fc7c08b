use Rattle.std.proofs.Common.{◌≡◌, ℕ, ◌++◌, Option, Some, None, List, refl, ap, ◌∙◌, sym, subst}
use Rattle.std.specs.Prelude.{MatchOption, IsSome, Bool}
use Rattle.heap_words.specs.declared.config.Config.{Config}
use Rattle.shen_graph.specs.GraphText.{Row, Text}
use Rattle.heap_dump.specs.Dumped.{dumped, graph_in, IsDump, IsDumpOf}
use Rattle.heap_dump.specs.RowsReached.{MarksReached, marked_rows}
use Rattle.heap_dump.proofs.MarkedRows.{dump_left, lacks_none, left_is_dump, left_is_of}
use Rattle.heap_dump.proofs.dump.Dump.of.Goals as goal

found : {A : Type 0} (P : Type 0) (Q : A → Type 0) (option : Option A) → (P → ⊥) → MatchOption option P Q → IsSome option
found P Q None never matched = absurd (never matched)
found P Q (Some value) never matched = refl

of_found : {A : Type 0} (P : Type 0) (Q : A → Type 0) (found : Option A) (value : A) → found ≡ Some value → MatchOption found P Q → Q value
of_found {A} P Q option value matches held = subst (λ (found : Option A). MatchOption found P Q) matches held

-- what was copied is the rows with a mark, and the roots
copied : (config : Config) (counts : List ℕ) (graph : Text) (marks : List Bool) (text after : Text) → text.rows ≡ marked_rows marks graph.rows → after ≡ record text { roots = graph.roots }
    → dump_left config counts graph marks ≡ dumped config counts after
copied config counts graph marks text after rows roots =
    ap (λ (row_list : List Row). record { config = config; counts = counts; rows = row_list; roots = graph.roots }) (sym rows) ∙ ap (dumped config counts) (sym roots)

pub unwrap-marks-requires : goal.unwrap-marks-requires
unwrap-marks-requires c = found _ _ c.in_ok-rows_reached.field-0 (lacks_none c.args.config c.args.counts c.args.graph.now c.requires) c.in_ok-rows_reached.ensures

pub returns-clause-is_dump : goal.returns-clause-is_dump
returns-clause-is_dump c =
    let config = c.args.config in
    let counts = c.args.counts in
    let graph = c.args.graph.now in
    let marks = c.unwrap-marks.result.items in
    let reached : MarksReached graph marks = of_found _ _ c.in_ok-rows_reached.field-0 c.unwrap-marks.result c.unwrap-marks.ensures c.in_ok-rows_reached.ensures in
    let rows = c.copy_objects.ensures.rows ∙ ap (λ text. text.rows ++ marked_rows c.deref.result.now graph.rows) c.in_ok-text.ensures ∙ ap (λ mark_list. marked_rows mark_list graph.rows) c.deref.ensures.value in
    subst IsDump (copied config counts graph marks c.copy_objects.new.text c.copy_roots.new.text rows c.copy_roots.ensures) (left_is_dump config counts graph marks c.requires reached)

pub returns-clause-dump : goal.returns-clause-dump
returns-clause-dump c =
    let config = c.args.config in
    let counts = c.args.counts in
    let graph = c.args.graph.now in
    let marks = c.unwrap-marks.result.items in
    let reached : MarksReached graph marks = of_found _ _ c.in_ok-rows_reached.field-0 c.unwrap-marks.result c.unwrap-marks.ensures c.in_ok-rows_reached.ensures in
    let rows = c.copy_objects.ensures.rows ∙ ap (λ text. text.rows ++ marked_rows c.deref.result.now graph.rows) c.in_ok-text.ensures ∙ ap (λ mark_list. marked_rows mark_list graph.rows) c.deref.ensures.value in
    subst (IsDumpOf config (graph_in (dumped config counts graph))) (copied config counts graph marks c.copy_objects.new.text c.copy_roots.new.text rows c.copy_roots.ensures)
    (left_is_of config counts graph marks c.requires reached)
