use Rattle.std.proofs.Common.{sym, ◌∙◌}
use denote.Enum.Bare.{same_true, true_same}
use Rattle.heap_words.specs.contracts.place.Place.{the_type}
use Rattle.heap_words.proofs.Codes.{sameb-same_place}
use Rattle.heap_words.proofs.place.Place.is.Goals as goal

pub returns : goal.returns
returns c = record {
  same = (λ equal. same_true the_type tt c.args.self c.args.other (sym c.eq.ensures ∙ equal), λ equal. c.eq.ensures ∙ true_same the_type c.args.self c.args.other equal);
  test = c.eq.ensures ∙ sameb-same_place c.args.self c.args.other;
}
