use Rattle.std.proofs.Common.{ap, sym, ◌∙◌}
use Rattle.std.specs.List.{list_any}
use Rattle.shen_graph.specs.declared.name.Name.{Name}
use Rattle.shen_graph.specs.Graph.{same_name}
use Rattle.shen_graph.specs.PlainGraph.{graph_of}
use Rattle.shen_check.specs.JudgeState.{words_held}
use Rattle.shen_check.proofs.HeldFound.{name_again, name_added, words_added}
use Rattle.shen_check.proofs.crowd.held_words.Goals as goal
use Rattle.shen_check.proofs.crowd.held_words.Goals.{then-not-contains+in_ok-push+in-Some, else-not-contains}

pub loop-pinned-preserved : goal.loop-pinned-preserved
loop-pinned-preserved c =
    let found_names = c.loop-pinned.names.items in
    let g = graph_of c.args.graph.now in
    let membership = c.contains.ensures.value ∙ ap (list_any (λ (name : Name). same_name name _)) c.deref.ensures.value in
    elim c.if-not-contains.branch [
      | then-not-contains+in_ok-push+in-Some w ↦ record {
        names = ap (λ names. names.items) w.names-is ∙ w.in_ok-push.ensures.items ∙ name_added c.args.held.now c.loop-pinned.pinned-index _ found_names c.loop-pinned-test.true c.loop-pinned.invariant.names (sym membership ∙ w.if-not-contains.true);
        sum = (w.words-is ∙ w.in-Some.ensures.1 ∙ words_added g found_names _ c.loop-pinned.words w.unwrap_or-more.result w.words_of.result c.loop-pinned.invariant.sum w.unwrap_or-more.ensures w.words_of.ensures
            ∙ ap (words_held g) (sym (ap (λ names. names.items) w.names-is ∙ w.in_ok-push.ensures.items)));
      }
      | else-not-contains w ↦ record {
        names = ap (λ names. names.items) w.names-is ∙ name_again c.args.held.now c.loop-pinned.pinned-index _ found_names c.loop-pinned-test.true c.loop-pinned.invariant.names (sym membership ∙ w.if-not-contains.false);
        sum = w.words-is ∙ c.loop-pinned.invariant.sum ∙ ap (λ names. words_held g names.items) (sym w.names-is);
      }
    ]
