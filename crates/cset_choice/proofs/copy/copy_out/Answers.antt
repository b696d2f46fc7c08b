use Rattle.std.proofs.Common.{◌≡◌, ◌+◌, ℕ, Option, Some, None, sym, ap, ◌∙◌, subst, arith}
use Rattle.heap_words.specs.declared.config.Config.{Config}
use Rattle.heap_words.specs.Words.{Word, Cset, Top, Heap, IsWord, word_at}
use Rattle.heap_words.specs.Encoding.{object_words}
use Rattle.regions.specs.ServedRooms.{lowest_room}
use Rattle.image_graph.specs.State.{config_of, memory_of}
use Rattle.cycle_words.specs.Evacuation.Live.{words_at}
use Rattle.cycle_words.specs.Evacuation.Copying.{tops_outside}
use Rattle.cycle_words.specs.Evacuation.Copied.{CanCopyOut, copy_room, copy_in, copied_in}
use Rattle.cycle_words.proofs.Evacuation.CopiedOut.{copied_as}
use Rattle.cycle_words.specs.StillHolds.{CopyingHolds}
use Rattle.cycle_words.proofs.Evacuation.CanCopy.{copying_holds}
use Rattle.cset_choice.proofs.Objects.{object_in_heap, word_of_heap}
use Rattle.cset_choice.proofs.CopyStores.{found_room}
use Rattle.cset_choice.proofs.copy.copy_out.Goals as goal

-- the room that was found is that of the object's words
same_room : (config : Config) (memory : Word → ℕ) (address shape words : ℕ) (found room : Option ℕ) → shape ≡ memory (Heap (address + 1)) → words ≡ object_words shape
    → found ≡ lowest_room config.region_words (tops_outside config.region_words (memory Cset) (λ region. memory (Top region))) words config.regions → found ≡ room → copy_room config memory address ≡ room
same_room config memory address shape words found room read same_words room_found same_found =
    ap (λ words. lowest_room config.region_words (tops_outside config.region_words (memory Cset) (λ region. memory (Top region))) words config.regions) (sym (same_words ∙ ap object_words read)) ∙ sym room_found ∙ same_found

module _ (config : Config) (memory : Word → ℕ) (address : ℕ) (can_copy_out : CanCopyOut config memory address) where
  pub shape_is : IsWord config (Heap (address + 1))
  shape_is = word_of_heap config address (words_at memory address) 1 (object_in_heap config address (words_at memory address) can_copy_out.above can_copy_out.of_region can_copy_out.lies) (omega arith)

pub copy_to-requires-clause-region : goal.copy_to-requires-clause-region
copy_to-requires-clause-region c =
    let config = config_of c.args.image.now in
    let memory : Word → ℕ = memory_of c.args.image.now in
    let address = c.args.address in
    let read = c.word.ensures.named (Heap (address + 1)) (shape_is config memory address c.requires) (ap (λ (config : Config). word_at config (Heap (address + 1))) (sym c.config.ensures) ∙ sym c.heap_at.ensures) in
    (found_room config memory address c.in-Some.region (same_room config memory address c.word.result c.words_of-words.result c.room_outside.result (Some c.in-Some.region) read c.words_of-words.ensures c.room_outside.ensures c.in-Some.is)).0

pub copy_to-requires-clause-outside : goal.copy_to-requires-clause-outside
copy_to-requires-clause-outside c =
    let config = config_of c.args.image.now in
    let memory : Word → ℕ = memory_of c.args.image.now in
    let address = c.args.address in
    let read = c.word.ensures.named (Heap (address + 1)) (shape_is config memory address c.requires) (ap (λ (config : Config). word_at config (Heap (address + 1))) (sym c.config.ensures) ∙ sym c.heap_at.ensures) in
    (found_room config memory address c.in-Some.region (same_room config memory address c.word.result c.words_of-words.result c.room_outside.result (Some c.in-Some.region) read c.words_of-words.ensures c.room_outside.ensures c.in-Some.is)).1

pub copy_to-requires-clause-room : goal.copy_to-requires-clause-room
copy_to-requires-clause-room c =
    let config = config_of c.args.image.now in
    let memory : Word → ℕ = memory_of c.args.image.now in
    let address = c.args.address in
    let read = c.word.ensures.named (Heap (address + 1)) (shape_is config memory address c.requires) (ap (λ (config : Config). word_at config (Heap (address + 1))) (sym c.config.ensures) ∙ sym c.heap_at.ensures) in
    (found_room config memory address c.in-Some.region (same_room config memory address c.word.result c.words_of-words.result c.room_outside.result (Some c.in-Some.region) read c.words_of-words.ensures c.room_outside.ensures c.in-Some.is)).2

pub returns-in-Some-clause-words : goal.returns-in-Some-clause-words
returns-in-Some-clause-words c =
    let config = config_of c.args.image.now in
    let memory : Word → ℕ = memory_of c.args.image.now in
    let address = c.args.address in
    let read = c.word.ensures.named (Heap (address + 1)) (shape_is config memory address c.requires) (ap (λ (config : Config). word_at config (Heap (address + 1))) (sym c.config.ensures) ∙ sym c.heap_at.ensures) in
    c.copy_to.ensures.words
    ∙ sym (copied_as config memory address c.in-Some.region (same_room config memory address c.word.result c.words_of-words.result c.room_outside.result (Some c.in-Some.region) read c.words_of-words.ensures c.room_outside.ensures c.in-Some.is))

pub returns-in-Some-clause-copy : goal.returns-in-Some-clause-copy
returns-in-Some-clause-copy c =
    let config = config_of c.args.image.now in
    let memory : Word → ℕ = memory_of c.args.image.now in
    let address = c.args.address in
    let read = c.word.ensures.named (Heap (address + 1)) (shape_is config memory address c.requires) (ap (λ (config : Config). word_at config (Heap (address + 1))) (sym c.config.ensures) ∙ sym c.heap_at.ensures) in
    ap Some c.copy_to.ensures.address
    ∙ sym (ap (copy_in config memory) (same_room config memory address c.word.result c.words_of-words.result c.room_outside.result (Some c.in-Some.region) read c.words_of-words.ensures c.room_outside.ensures c.in-Some.is))

pub returns-in-None-clause-words : goal.returns-in-None-clause-words
returns-in-None-clause-words c =
    let config = config_of c.args.image.now in
    let memory : Word → ℕ = memory_of c.args.image.now in
    let address = c.args.address in
    let read = c.word.ensures.named (Heap (address + 1)) (shape_is config memory address c.requires) (ap (λ (config : Config). word_at config (Heap (address + 1))) (sym c.config.ensures) ∙ sym c.heap_at.ensures) in
    sym (ap (copied_in config memory address) (same_room config memory address c.word.result c.words_of-words.result c.room_outside.result None read c.words_of-words.ensures c.room_outside.ensures c.in-None.is))

pub returns-in-None-clause-copy : goal.returns-in-None-clause-copy
returns-in-None-clause-copy c =
    let config = config_of c.args.image.now in
    let memory : Word → ℕ = memory_of c.args.image.now in
    let address = c.args.address in
    let read = c.word.ensures.named (Heap (address + 1)) (shape_is config memory address c.requires) (ap (λ (config : Config). word_at config (Heap (address + 1))) (sym c.config.ensures) ∙ sym c.heap_at.ensures) in
    sym (ap (copy_in config memory) (same_room config memory address c.word.result c.words_of-words.result c.room_outside.result None read c.words_of-words.ensures c.room_outside.ensures c.in-None.is))

pub returns-in-Some-clause-holds : goal.returns-in-Some-clause-holds
returns-in-Some-clause-holds c =
    let config = config_of c.args.image.now in
    let memory : Word → ℕ = memory_of c.args.image.now in
    subst (λ (some_memory : Word → ℕ). CopyingHolds config memory some_memory c.args.address) (sym (returns-in-Some-clause-words c)) (copying_holds config memory c.args.address c.requires)

pub returns-in-None-clause-holds : goal.returns-in-None-clause-holds
returns-in-None-clause-holds c =
    let config = config_of c.args.image.now in
    let memory : Word → ℕ = memory_of c.args.image.now in
    subst (λ (some_memory : Word → ℕ). CopyingHolds config memory some_memory c.args.address) (sym (returns-in-None-clause-words c)) (copying_holds config memory c.args.address c.requires)
