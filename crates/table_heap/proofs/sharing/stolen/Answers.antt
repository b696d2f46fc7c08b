use Rattle.std.proofs.Common.{◌≡◌, ◌<◌, sym, ◌∙◌, subst}
use Rattle.std.proofs.lemmas.List.Elements.{All-get_or, All-set}
use Rattle.heap_words.specs.Words.{Heap, IsWord}
use Rattle.table_heap.specs.Seen.{config_in}
use Rattle.table_heap.proofs.sharing.stolen.Goals as goal

pub returns-in-Some : goal.returns-in-Some
returns-in-Some c = λ config all_configs.
    let loop = c.loop-thief in
    let still_all = loop.invariant config all_configs in
    let thief_config = All-get_or (λ thief. config_in thief ≡ config) loop.thieves loop.thief-index c.thief-item.result (subst (λ thief_count. loop.thief-index < thief_count) (sym loop.auto.thieves) c.loop-thief-test.true) still_all in (
      subst (λ any_config. IsWord any_config (Heap c.in-Some.address)) thief_config c.in-Some.ensures.heap,
      All-set (λ thief. config_in thief ≡ config) loop.thieves loop.thief-index c.steal.new.self (c.steal.ensures.config ∙ thief_config) still_all,
    )

pub loop-thief-preserved : goal.loop-thief-preserved
loop-thief-preserved c = λ config all_configs.
    let loop = c.loop-thief in
    let still_all = loop.invariant config all_configs in
    let thief_config = All-get_or (λ thief. config_in thief ≡ config) loop.thieves loop.thief-index c.thief-item.result (subst (λ thief_count. loop.thief-index < thief_count) (sym loop.auto.thieves) c.loop-thief-test.true) still_all in
    All-set (λ thief. config_in thief ≡ config) loop.thieves loop.thief-index c.steal.new.self (c.steal.ensures.config ∙ thief_config) still_all

pub returns : goal.returns
returns c = λ config all_configs. (tt, c.loop-thief.invariant config all_configs)
