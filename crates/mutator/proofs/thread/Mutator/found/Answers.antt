use Rattle.std.proofs.Common.{sym, ap, ◌∙◌, get_or}
use Rattle.std.proofs.lemmas.Bool.{and_parts}
use Rattle.heap_words.specs.Access.{table_index}
use Rattle.mutator.proofs.Inside.{touch_found}
use Rattle.mutator.proofs.thread.Mutator.found.Goals as goal

pub returns : goal.returns
returns c =
    let mutator = c.args.self.now in
    touch_found mutator.config c.args.words.now mutator.mutator mutator.made mutator.kept mutator.order mutator.spot (and_parts _ _ (and_parts _ _ mutator.ready).0).0
    ∙ sym (ap (λ index. get_or c.args.words.now index 0) (c.at.ensures ∙ ap table_index c.plan.ensures.row))
