use Rattle.std.proofs.Common.{sym, ap, subst, ◌∙◌}
use Rattle.shen_graph.specs.Work.{joined, HasScript}
use Rattle.find_search.specs.Courses.{short_script, IsHandedOver}
use Rattle.find_search.proofs.Handed.{handed_over, apart}
use Rattle.find_search.proofs.handing.hand_over.Goals as goal

pub returns-clause-ok : goal.returns-clause-ok
returns-clause-ok c =
    let mutator = c.args.mutator in
    let script = short_script c.args.command in
    let made = c.join.ensures ∙ ap (λ jobs. joined jobs c.in_ok-fresh.fresh) c.part.ensures.left in
    subst (IsHandedOver mutator script c.args.work.now) (sym made) (handed_over mutator script c.args.work.now c.in_ok-fresh.fresh c.requires c.in_ok-fresh.ensures)

pub join-requires : goal.join-requires
join-requires c = λ thread left_script fresh_script.
    apart c.args.mutator (short_script c.args.command) c.args.work.now c.in_ok-fresh.fresh c.requires c.in_ok-fresh.ensures thread (subst (λ jobs. HasScript jobs thread) c.part.ensures.left left_script) fresh_script
