use Rattle.std.proofs.Common.{Some, refl, sym, ◌∙◌, subst}
use Rattle.covremuj.specs.Border.{SeatGoes, GoesBy}
use Rattle.covremuj.proofs.mutators.go.Goals as goal

pub returns : goal.returns
returns c =
    let seat = c.args.seat.now in
    let new = c.go-progress.new.self in
    let went : SeatGoes seat (Some new) c.args.steps c.of_progress.result c.args.value.now c.value_after.result = record {
      new = new;
      said = c.go-progress.result;
      holds = refl;
      gone = c.go-progress.ensures;
      answers = c.of_progress.ensures;
      value = c.value_after.ensures;
    } in
    subst (λ role. GoesBy role seat (Some new) c.args.steps c.of_progress.result c.args.value.now c.value_after.result) (sym c.if-not-is_mutator.false ∙ c.is_mutator.ensures) went
