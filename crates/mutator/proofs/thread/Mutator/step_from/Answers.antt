use Rattle.std.proofs.Common.{sym, subst, ◌<◌}
use Rattle.std.proofs.lemmas.Bool.{and_parts}
use Rattle.heap_words.specs.Access.{table_index}
use Rattle.heap_words.specs.Words.{table_words}
use Rattle.mutator.proofs.Inside.{touch_inside}
use Rattle.mutator.proofs.thread.Mutator.step_from.Goals as goal

pub make_access-got-requires : goal.make_access-got-requires
make_access-got-requires c =
    let mutator = c.args.self.now in
    subst (λ word_count. table_index c.access.result < word_count) (sym c.requires.words)
    (subst (λ access. table_index access < table_words mutator.config) (sym c.access.ensures)
    (touch_inside mutator.config mutator.mutator mutator.made mutator.kept mutator.order mutator.spot (and_parts _ _ (and_parts _ _ mutator.ready).0).0))
