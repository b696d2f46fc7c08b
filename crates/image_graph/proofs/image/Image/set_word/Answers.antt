use Rattle.std.proofs.Common.{◌≡◌, set, subst}
use Rattle.heap_words.specs.Words.{view, write}
use Rattle.heap_words.proofs.Stores.{view_set_all}
use Rattle.image_graph.proofs.image.Image.set_word.Goals as goal

pub returns-clause-named : goal.returns-clause-named
returns-clause-named c = λ word word_there same_index.
    let image = c.args.self.now in
    subst (λ place. view image.config (set image.words.items place c.args.value) ≡ write (view image.config image.words.items) word c.args.value) same_index
    (view_set_all image.config image.words.items word c.args.value image.all_words word_there)
