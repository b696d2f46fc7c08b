use Rattle.std.proofs.Common.{◌∙◌}
use Rattle.heap_tests.proofs.FirstScenes.{can_run}
use Rattle.heap_tests.proofs.scene.opened.Goals as goal

pub returns : goal.returns
returns c =
    let count = c.in_ok-scripts.scripts.ok.0 in
    can_run c.in_ok-plain.plain c.in_ok-config.config c.in_ok-scripts.scripts.items c.in_ok-work.work c.in_ok-plain.ensures.config c.in_ok-plain.ensures.opening c.in_ok-plain.ensures.orders
    (c.in_ok-config.ensures.mutators ∙ c.len.ensures ∙ count) c.in_ok-scripts.ensures.count c.in_ok-scripts.ensures.runnable c.in_ok-work.ensures
