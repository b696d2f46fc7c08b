use Rattle.std.proofs.Common.{codes}
use Rattle.std.specs.Fmt.{decimal}
use Rattle.shen_base.proofs.Stages.{puts_both, taken_by_new}
use Rattle.trace_text.proofs.AnswerLemmas.{puts_told}
use Rattle.trace_text.proofs.message.write_churn.Goals as goal

pub returns : goal.returns
returns g c =
    let told = c.args.told in
    c.finish.ensures.ended _ _ (taken_by_new c.new-block.ensures (puts_both
    (puts_told (codes "churn ") (decimal told.seed) _ c.put_told.ensures
    (puts_told (codes " ") (decimal told.count) _ c.put_told-2.ensures
    (puts_told (codes "\nthreads 3\ncommands ") (decimal told.commands) _ c.put_told-3.ensures
    (puts_told (codes "\nbad ") (decimal told.bad) _ c.put_told-4.ensures
    (puts_told (codes "\nfull ") (decimal told.full) _ c.put_told-5.ensures
    (puts_told (codes "\nobjects ") (decimal told.objects) _ c.put_told-6.ensures
    (puts_told (codes "\nwords ") (decimal told.words) _ c.put_told-7.ensures
    c.put_told-8.ensures)))))))
    c.put.ensures.put))
