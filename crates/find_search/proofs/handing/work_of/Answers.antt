use Rattle.std.proofs.Common.{List, sym, ap, subst, ◌∙◌}
use Rattle.shen_graph.specs.declared.command.Command.{Command}
use Rattle.shen_graph.specs.Work.{opened, parted}
use Rattle.find_search.specs.Courses.{IsWorkOf}
use Rattle.find_search.proofs.Handed.{work_of_one}
use Rattle.find_search.proofs.handing.work_of.Goals as goal

pub returns : goal.returns
returns c =
    let mutator = c.args.mutator in
    let short = c.in_ok-short_script.field-0 in
    let work_is = work_of_one c.in_ok-scripts.scripts.items short mutator c.requires c.in_ok-scripts.ensures.count in
    let made = c.part.ensures.parted ∙ ap (parted 8 mutator) (c.in-Ok-of.ensures ∙ ap opened c.in-Ok.ensures.items) in
    subst (λ (script : List Command). IsWorkOf mutator script c.part.result) c.in_ok-short_script.ensures (subst (IsWorkOf mutator short) (sym made) work_is)
