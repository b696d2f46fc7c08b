use Rattle.std.proofs.Common.{◌≡◌, ◌+◌, ℕ, sym, ap, ◌∙◌, subst}
use Rattle.std.proofs.lemmas.Bool.{cond-true}
use Rattle.heap_words.specs.declared.config.Config.{Config}
use Rattle.heap_words.specs.Words.{Word, Heap, IsWord}
use Rattle.image_graph.specs.State.{config_of, memory_of}
use Rattle.heap_words.specs.Encoding.{object_words}
use Rattle.cycle_words.specs.Marking.Marks.{is_black}
use Rattle.cycle_words.specs.Evacuation.Live.{words_at}
use Rattle.cset_choice.proofs.Reading.{read}
use Rattle.cset_choice.proofs.Objects.{shape_in_heap}
use Rattle.cset_choice.proofs.live.marked_words.Goals as goal

pub heap_at-requires : goal.heap_at-requires
heap_at-requires c =
    let config = config_of c.args.image.now in
    let memory : Word → ℕ = memory_of c.args.image.now in
    subst (λ (config : Config). IsWord config (Heap (c.args.address + 1))) (sym c.config.ensures)
    (shape_in_heap config memory c.args.address c.requires.apart c.requires.inside c.requires.black)

pub returns-clause-value : goal.returns-clause-value
returns-clause-value c =
    let config = config_of c.args.image.now in
    let memory : Word → ℕ = memory_of c.args.image.now in
    let address = c.args.address in
    let shape_read : c.word.result ≡ memory (Heap (address + 1)) =
    read config _ memory (Heap (address + 1)) _ _ c.config.ensures (shape_in_heap config memory address c.requires.apart c.requires.inside c.requires.black) c.heap_at.ensures c.word.ensures.named in
    c.words_of.ensures ∙ ap object_words shape_read ∙ sym (cond-true (is_black config memory address) (words_at memory address) 0 c.requires.black)
