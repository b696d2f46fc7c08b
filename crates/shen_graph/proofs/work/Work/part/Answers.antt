use Rattle.std.proofs.Common.{◌≡◌, ◌∙◌, Bool, true, false, not, Option, None, refl, ap, subst, arith}
use Rattle.std.specs.Prelude.{if◌then◌else◌}
use Rattle.std.proofs.lemmas.Bool.{lt-ltb}
use Rattle.shen_graph.specs.Work.{Progress, progress_of, is_in_part, picked}
use Rattle.shen_graph.proofs.Parts.{all_picked}
use Rattle.shen_graph.proofs.work.Work.part.Goals as goal

turned : (holds : Bool) (found : Option Progress) → (if holds then None else found) ≡ (if not holds then found else None)
turned true found = refl
turned false found = refl

pub returns-clause-parted : goal.returns-clause-parted
returns-clause-parted c =
    subst (λ work. c.loop-mutator.jobs ≡ picked (is_in_part c.args.workers c.args.part) work) c.self.view_is
    (all_picked (is_in_part c.args.workers c.args.part) c.self.inside.jobs c.loop-mutator.jobs c.loop-mutator.invariant.part_places
    (λ index index_below. let loop = c.loop-mutator in loop.invariant.moved index
    ∙ ap (λ is_below. if is_below then (if is_in_part c.args.workers c.args.part index then progress_of c.self.inside.jobs index else None) else None) (lt-ltb index loop.mutator (omega (arith, c.loop-mutator-test.false)))))

pub returns-clause-left : goal.returns-clause-left
returns-clause-left c =
    subst (λ work. c.loop-mutator.own ≡ picked (λ index. not (is_in_part c.args.workers c.args.part index)) work) c.self.view_is
    (all_picked (λ index. not (is_in_part c.args.workers c.args.part index)) c.self.inside.jobs c.loop-mutator.own c.loop-mutator.invariant.places
    (λ index index_below. let loop = c.loop-mutator in loop.invariant.left index
    ∙ ap (λ is_below. if is_below then (if is_in_part c.args.workers c.args.part index then None else progress_of c.self.inside.jobs index) else progress_of c.self.inside.jobs index) (lt-ltb index loop.mutator (omega (arith, c.loop-mutator-test.false)))
    ∙ turned (is_in_part c.args.workers c.args.part index) (progress_of c.self.inside.jobs index)))
