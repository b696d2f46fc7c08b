use Rattle.std.proofs.Common.{◌≡◌, ℕ, true, false, Option, IsSome, refl, sym, ap, ◌∙◌, subst}
use Rattle.std.proofs.lemmas.Bool.{cond-true}
use Rattle.cycle_words.specs.Evacuation.Copied.{copy_room}
use Rattle.heap_words.specs.declared.config.Config.{Config}
use Rattle.heap_words.specs.Words.{Word, Heap, IsWord, word_at}
use Rattle.heap_words.specs.Encoding.{is_forwarded, forwardee_in}
use Rattle.image_graph.specs.Full.{now_in}
use Rattle.image_graph.specs.State.{config_of, memory_of}
use Rattle.image_graph.proofs.NamedStores.{placed_inside}
use Rattle.cset_choice.proofs.Objects.{collected_of_heap}
use Rattle.cset_choice.proofs.CopyStores.{copy_is_now}
use Rattle.cset_choice.proofs.Reading.{read}
use Rattle.cset_choice.proofs.EvacuationBegun.{moved_now, moved_before, some_copy}
use Rattle.cset_choice.proofs.begin.move_out.Goals as goal

pub word-header-requires : goal.word-header-requires
word-header-requires c =
    let config = config_of c.args.image.now in
    let memory : Word → ℕ = memory_of c.args.image.now in
    let address = c.args.address in
    placed_inside config c.config.result (Heap address) c.heap_at.result (sym c.config.ensures)
    (subst (λ (config : Config). IsWord config (Heap address)) (sym c.config.ensures) (collected_of_heap config memory address c.requires.can.set c.requires.collected)) c.heap_at.ensures

pub returns-clause-words : goal.returns-clause-words
returns-clause-words c =
    let config = config_of c.args.image.now in
    let memory : Word → ℕ = memory_of c.args.image.now in
    let address = c.args.address in
    let header_read : c.word-header.result ≡ memory (Heap address) =
    c.word-header.ensures.named (Heap address) (collected_of_heap config memory address c.requires.can.set c.requires.collected) (ap (λ (config : Config). word_at config (Heap address)) (sym c.config.ensures) ∙ sym c.heap_at.ensures) in
    let header_plain : is_forwarded (memory (Heap address)) ≡ false = ap is_forwarded (sym header_read) ∙ sym c.forwarded.ensures ∙ c.if-forwarded.false in
    c.copy_out.ensures.words ∙ moved_now config memory address header_plain

pub returns-clause-copy : goal.returns-clause-copy
returns-clause-copy c =
    let config = config_of c.args.image.now in
    let memory : Word → ℕ = memory_of c.args.image.now in
    let address = c.args.address in
    copy_is_now config memory address c.unwrap.result (sym c.copy_out.ensures.copy ∙ c.unwrap.ensures) ∙ ap (λ (memory : Word → ℕ). now_in memory address) (sym c.copy_out.ensures.words)

pub heap_at-requires : goal.heap_at-requires
heap_at-requires c = subst (λ (config : Config). IsWord config (Heap c.args.address)) (sym c.config.ensures) (collected_of_heap (config_of c.args.image.now) (memory_of c.args.image.now) c.args.address c.requires.can.set c.requires.collected)

pub copy_out-requires : goal.copy_out-requires
copy_out-requires c =
    let config = config_of c.args.image.now in
    let memory : Word → ℕ = memory_of c.args.image.now in
    let address = c.args.address in
    let header_read : c.word-header.result ≡ memory (Heap address) =
    read config _ memory (Heap address) _ _ c.config.ensures (collected_of_heap config memory address c.requires.can.set c.requires.collected) c.heap_at.ensures c.word-header.ensures.named in
    c.requires.can.object c.requires.collected (ap is_forwarded (sym header_read) ∙ sym c.forwarded.ensures ∙ c.if-forwarded.false)

pub unwrap-requires : goal.unwrap-requires
unwrap-requires c =
    let config = config_of c.args.image.now in
    let memory : Word → ℕ = memory_of c.args.image.now in
    let address = c.args.address in
    let header_read : c.word-header.result ≡ memory (Heap address) =
    read config _ memory (Heap address) _ _ c.config.ensures (collected_of_heap config memory address c.requires.can.set c.requires.collected) c.heap_at.ensures c.word-header.ensures.named in
    subst (λ (found : Option ℕ). IsSome found) (sym c.copy_out.ensures.copy)
    (some_copy config memory (copy_room config memory address) (c.requires.can.room c.requires.collected (ap is_forwarded (sym header_read) ∙ sym c.forwarded.ensures ∙ c.if-forwarded.false)))

pub returns-then-forwarded : goal.returns-then-forwarded
returns-then-forwarded c =
    let config = config_of c.args.image.now in
    let memory : Word → ℕ = memory_of c.args.image.now in
    let address = c.args.address in
    let header_read : c.word-header.result ≡ memory (Heap address) =
    read config _ memory (Heap address) _ _ c.config.ensures (collected_of_heap config memory address c.requires.can.set c.requires.collected) c.heap_at.ensures c.word-header.ensures.named in
    let object_moved : is_forwarded (memory (Heap address)) ≡ true = ap is_forwarded (sym header_read) ∙ sym c.forwarded.ensures ∙ c.if-forwarded.true in
    record {
      config = refl;
      words = moved_before config memory address object_moved;
      copy = c.forwardee.ensures ∙ ap forwardee_in header_read ∙ sym (cond-true (is_forwarded (memory (Heap address))) (forwardee_in (memory (Heap address))) address object_moved);
    }
