use Rattle.std.proofs.Common.{◌≡◌, ℕ, sym, ap, ◌∙◌, subst}
use Rattle.heap_words.specs.declared.config.Config.{Config}
use Rattle.heap_words.specs.Words.{Word, Heap, IsWord, word_at, write}
use Rattle.image_graph.specs.State.{config_of, memory_of}
use Rattle.image_graph.proofs.NamedStores.{placed_inside}
use Rattle.degenerated.specs.Steps.{kept_now, updated_by}
use Rattle.degenerated.proofs.UpdatedFields.{CanRead, object_inside, address_inside, no_reference, not_kept, kept_reference, left, set_one}
use Rattle.degenerated.proofs.fields.update_word.Goals as goal

pub is_reference-requires-clause-header : goal.is_reference-requires-clause-header
is_reference-requires-clause-header c =
    let config = config_of c.args.image.now in
    let memory : Word → ℕ = memory_of c.args.image.now in
    subst (λ address. IsWord config (Heap address)) (sym c.requires.object) (object_inside config memory c.requires.can c.args.address c.requires.stays).0

pub is_reference-requires-clause-shape : goal.is_reference-requires-clause-shape
is_reference-requires-clause-shape c =
    let config = config_of c.args.image.now in
    let memory : Word → ℕ = memory_of c.args.image.now in
    (subst (CanRead config memory) (sym c.requires.object) (object_inside config memory c.requires.can c.args.address c.requires.stays)).1

pub is_kept-requires : goal.is_kept-requires
is_kept-requires c =
    let config = config_of c.args.image.now in
    let memory : Word → ℕ = memory_of c.args.image.now in
    subst (λ address. IsWord config (Heap address)) (sym c.requires.object) (object_inside config memory c.requires.can c.args.address c.requires.stays).0

pub returns-then-not-is_reference-clause-words : goal.returns-then-not-is_reference-clause-words
returns-then-not-is_reference-clause-words c =
    let config = config_of c.args.image.now in
    let memory : Word → ℕ = memory_of c.args.image.now in
    left config memory (kept_now c.args.image.now) c.args.address (no_reference config memory c.args.address c.args.object c.requires.object (sym c.is_reference.ensures ∙ c.if-not-is_reference.true))

pub returns-then-not-is_kept-clause-words : goal.returns-then-not-is_kept-clause-words
returns-then-not-is_kept-clause-words c =
    let config = config_of c.args.image.now in
    let memory : Word → ℕ = memory_of c.args.image.now in
    left config memory (kept_now c.args.image.now) c.args.address (not_kept config memory c.args.address c.args.object c.requires.object (sym c.is_kept.ensures ∙ c.if-not-is_kept.true))

pub heap_at-at-requires : goal.heap_at-at-requires
heap_at-at-requires c =
    let config = config_of c.args.image.now in
    subst (λ (config : Config). IsWord config (Heap c.args.address)) (sym c.config.ensures) (address_inside config (memory_of c.args.image.now) c.args.address c.requires.stays)

pub word-requires : goal.word-requires
word-requires c =
    let config = config_of c.args.image.now in
    placed_inside config c.config.result (Heap c.args.address) c.heap_at-at.result (sym c.config.ensures)
    (subst (λ (config : Config). IsWord config (Heap c.args.address)) (sym c.config.ensures) (address_inside config (memory_of c.args.image.now) c.args.address c.requires.stays))
    c.heap_at-at.ensures

pub set_word-requires : goal.set_word-requires
set_word-requires c =
    let config = config_of c.args.image.now in
    placed_inside config c.config.result (Heap c.args.address) c.heap_at-at.result (sym c.config.ensures)
    (subst (λ (config : Config). IsWord config (Heap c.args.address)) (sym c.config.ensures) (address_inside config (memory_of c.args.image.now) c.args.address c.requires.stays))
    c.heap_at-at.ensures

pub returns-clause-words : goal.returns-clause-words
returns-clause-words c =
    let config = config_of c.args.image.now in
    let memory : Word → ℕ = memory_of c.args.image.now in
    let address = c.args.address in
    let word : IsWord config (Heap address) = address_inside config memory address c.requires.stays in
    let same_place : c.heap_at-at.result ≡ word_at config (Heap address) = c.heap_at-at.ensures ∙ ap (λ (config : Config). word_at config (Heap address)) c.config.ensures in
    let read : c.word.result ≡ memory (Heap address) = c.word.ensures.named (Heap address) word (sym same_place) in
    let now : ℕ → ℕ = kept_now c.args.image.now in
    let value : c.updated-word.result ≡ updated_by config now memory (memory (Heap address)) = c.updated-word.ensures ∙ ap (updated_by config now memory) read in
    let field = kept_reference config memory address c.args.object c.requires.stays c.requires.object
    (sym c.is_kept.ensures ∙ c.if-not-is_kept.false) (sym c.is_reference.ensures ∙ c.if-not-is_reference.false) in
    c.set_word.ensures.named (Heap address) word (sym same_place) ∙ ap (write memory (Heap address)) value ∙ set_one config memory now address field
