use Rattle.std.proofs.Common.{◌∙◌, ap, arith}
use Rattle.std.specs.Prelude.{if◌then◌else◌}
use Rattle.std.proofs.lemmas.Bool.{lt-ltb}
use Rattle.shen_graph.specs.Work.{progress_of, one_of, joined}
use Rattle.shen_graph.proofs.Parts.{all_joined}
use Rattle.shen_graph.proofs.work.Work.join.Goals as goal

pub returns : goal.returns
returns c =
    all_joined c.self.inside.jobs c.other.inside.jobs c.loop-mutator.own c.loop-mutator.invariant.places
    (λ index index_below. let loop = c.loop-mutator in loop.invariant.taken index
    ∙ ap (λ is_below. if is_below then one_of (progress_of c.self.inside.jobs index) (progress_of c.other.inside.jobs index) else progress_of c.self.inside.jobs index) (lt-ltb index loop.mutator (omega (arith, c.loop-mutator-test.false))))
    ∙ ap (λ work. joined work c.other.inside.jobs) c.self.view_is
    ∙ ap (joined c.args.self.now) c.other.view_is
