use Rattle.std.proofs.Common.{Some, refl, sym, ◌∙◌, subst}
use Rattle.covremuj.specs.Border.{Works, WorksBy}
use Rattle.covremuj.proofs.workers.work.Goals as goal

pub returns : goal.returns
returns c =
    let seat = c.args.seat.now in
    let new = c.go.new.self in
    let worked : Works seat (Some new) c.args.steps c.of_progress.result = record {
      new = new;
      said = c.go.result;
      holds = refl;
      gone = c.go.ensures;
      answers = c.of_progress.ensures;
    } in
    subst (λ role. WorksBy role seat (Some new) c.args.steps c.of_progress.result) (sym c.if-is_mutator.false ∙ c.is_mutator.ensures) worked
