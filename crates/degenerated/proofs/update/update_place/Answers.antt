use Rattle.std.proofs.Common.{◌≡◌, ℕ, ap, ◌∙◌}
use Rattle.heap_words.specs.Words.{Word, write}
use Rattle.image_graph.specs.State.{config_of, memory_of}
use Rattle.degenerated.specs.Steps.{kept_now, updated_by}
use Rattle.degenerated.proofs.update.update_place.Goals as goal

pub returns-clause-words : goal.returns-clause-words
returns-clause-words c = λ place is_place place_word.
    let config = config_of c.args.image.now in
    let memory : Word → ℕ = memory_of c.args.image.now in
    let read : c.word.result ≡ memory place = c.word.ensures.named place is_place place_word in
    let value : c.updated-word.result ≡ updated_by config (kept_now c.args.image.now) memory (memory place) = c.updated-word.ensures ∙ ap (updated_by config (kept_now c.args.image.now) memory) read in
    c.set_word.ensures.named place is_place place_word ∙ ap (write memory place) value
