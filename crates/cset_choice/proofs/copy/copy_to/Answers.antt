use Rattle.std.proofs.Common.{◌≡◌, ◌⊎◌, ◌≤◌, ◌<◌, ◌+◌, ℕ, bit_and, sym, ap, ◌∙◌, subst, arith}
use Rattle.heap_words.specs.declared.config.Config.{Config}
use Rattle.heap_words.specs.Words.{Word, Free, Top, Heap, IsWord, word_at, write}
use Rattle.heap_words.specs.Encoding.{header_word, object_words}
use Rattle.regions.specs.Place.{base_of}
use Rattle.image_graph.specs.State.{config_of, memory_of}
use Rattle.image_graph.specs.Make.{AreInHeap}
use Rattle.image_graph.proofs.Room.{room_in_heap}
use Rattle.image_graph.proofs.NamedStores.{stored, placed_inside}
use Rattle.cycle_words.specs.Evacuation.Live.{words_at}
use Rattle.cycle_words.specs.Evacuation.Copied.{top_address}
use Rattle.cset_choice.proofs.Objects.{object_in_heap, word_of_heap}
use Rattle.image_graph.proofs.HeapParts.{low_in}
use Rattle.cset_choice.proofs.Reading.{word_in, first_in}
use Rattle.cset_choice.proofs.CopyStores.{copies_apart, copied_stores}
use Rattle.cset_choice.proofs.copy.copy_to.Goals as goal

pub copy_words-requires-clause-from : goal.copy_words-requires-clause-from
copy_words-requires-clause-from c =
    let config = config_of c.args.image.now in
    let memory : Word → ℕ = memory_of c.args.image.now in
    let address = c.args.address in
    let object = object_in_heap config address (words_at memory address) c.requires.can.above c.requires.can.of_region c.requires.can.lies in
    let words_read : c.words_of-words.result ≡ words_at memory address =
    c.words_of-words.ensures ∙ ap object_words (c.word.ensures.named (Heap (address + 1)) (word_of_heap config address (words_at memory address) 1 object (omega arith))
    (ap (λ (config : Config). word_at config (Heap (address + 1))) (sym c.config-config.ensures) ∙ sym c.heap_at.ensures)) in
    subst (AreInHeap config address) (sym words_read) object

pub copy_words-requires-clause-to : goal.copy_words-requires-clause-to
copy_words-requires-clause-to c =
    let config = config_of c.args.image.now in
    let memory : Word → ℕ = memory_of c.args.image.now in
    let address = c.args.address in
    let region = c.args.region in
    let object = object_in_heap config address (words_at memory address) c.requires.can.above c.requires.can.of_region c.requires.can.lies in
    let words_read : c.words_of-words.result ≡ words_at memory address =
    c.words_of-words.ensures ∙ ap object_words (c.word.ensures.named (Heap (address + 1)) (word_of_heap config address (words_at memory address) 1 object (omega arith))
    (ap (λ (config : Config). word_at config (Heap (address + 1))) (sym c.config-config.ensures) ∙ sym c.heap_at.ensures)) in
    let base : c.base.result ≡ base_of config region = c.base.ensures ∙ ap (λ (config : Config). base_of config region) c.config-config.ensures in
    let copy_address : top_address config memory region ≡ c.base.result + c.top-top.result = omega (arith, base, c.top-top.ensures) in
    subst (λ address. AreInHeap config address c.words_of-words.result) copy_address
    (subst (AreInHeap config (top_address config memory region)) (sym words_read) (room_in_heap config region (memory (Top region)) (words_at memory address) c.requires.region c.requires.room))

pub copy_words-requires-clause-apart : goal.copy_words-requires-clause-apart
copy_words-requires-clause-apart c =
    let config = config_of c.args.image.now in
    let memory : Word → ℕ = memory_of c.args.image.now in
    let address = c.args.address in
    let region = c.args.region in
    let object = object_in_heap config address (words_at memory address) c.requires.can.above c.requires.can.of_region c.requires.can.lies in
    let words_read : c.words_of-words.result ≡ words_at memory address =
    c.words_of-words.ensures ∙ ap object_words (c.word.ensures.named (Heap (address + 1)) (word_of_heap config address (words_at memory address) 1 object (omega arith))
    (ap (λ (config : Config). word_at config (Heap (address + 1))) (sym c.config-config.ensures) ∙ sym c.heap_at.ensures)) in
    let base : c.base.result ≡ base_of config region = c.base.ensures ∙ ap (λ (config : Config). base_of config region) c.config-config.ensures in
    let copy_address : top_address config memory region ≡ c.base.result + c.top-top.result = omega (arith, base, c.top-top.ensures) in
    subst (λ target. (address + c.words_of-words.result ≤ target) ⊎ (target + c.words_of-words.result ≤ address)) copy_address
    (subst (λ size. (address + size ≤ top_address config memory region) ⊎ (top_address config memory region + size ≤ address)) (sym words_read) (copies_apart config memory address region c.requires.can c.requires.outside c.requires.room))

pub returns-clause-words : goal.returns-clause-words
returns-clause-words c =
    let old = config_of c.args.image.now in
    let g = c.config-config.result in
    let memory : Word → ℕ = memory_of c.args.image.now in
    let address = c.args.address in
    let region = c.args.region in
    let same_config : g ≡ old = c.config-config.ensures in
    -- what was read
    let object = object_in_heap old address (words_at memory address) c.requires.can.above c.requires.can.of_region c.requires.can.lies in
    let words_read : c.words_of-words.result ≡ words_at memory address =
    c.words_of-words.ensures ∙ ap object_words (c.word.ensures.named (Heap (address + 1)) (word_of_heap old address (words_at memory address) 1 object (omega arith))
    (ap (λ (config : Config). word_at config (Heap (address + 1))) (sym same_config) ∙ sym c.heap_at.ensures)) in
    let free_bits : c.word-free.result ≡ memory Free = c.word-free.ensures.named Free tt (ap (λ (config : Config). word_at config Free) (sym same_config) ∙ sym c.free_at.ensures) in
    let base : c.base.result ≡ base_of old region = c.base.ensures ∙ ap (λ (config : Config). base_of config region) same_config in
    let target_address : ℕ = c.base.result + c.top-top.result in
    let copy_address : target_address ≡ top_address old memory region = omega (arith, base, c.top-top.ensures) in
    -- where it is written
    let copy = room_in_heap old region (memory (Top region)) (words_at memory address) c.requires.region c.requires.room in
    let copy_is : IsWord g (Heap target_address) = subst (λ (config : Config). IsWord config (Heap target_address)) (sym same_config) (omega (arith, copy.from, copy_address), omega (arith, copy.to, copy_address)) in
    let old_is : IsWord g (Heap address) = subst (λ (config : Config). IsWord config (Heap address)) (sym same_config) (omega (arith, object.from), omega (arith, object.to)) in
    let config_copied : config_of c.copy_words.new.image ≡ g = c.copy_words.ensures.config ∙ sym same_config in
    let config_header : config_of c.set_word.new.self ≡ g = c.set_word.ensures.config ∙ config_copied in
    let config_top : config_of c.set_word-2.new.self ≡ g = c.set_word-2.ensures.config ∙ config_header in
    let config_free : config_of c.set_word-3.new.self ≡ g = c.set_word-3.ensures.config ∙ config_top in
    let top : ℕ = c.top-top.result + c.words_of-words.result in
    let bits : ℕ = bit_and c.word-free.result c.all_but.result in
    let stored_header = stored (config_of c.copy_words.new.image) g _ _ (Heap target_address) c.heap_at-2.result 1 config_copied copy_is c.heap_at-2.ensures c.set_word.ensures.named in
    let stored_top = stored (config_of c.set_word.new.self) g _ _ (Top region) c.top_at.result top config_header (subst (λ (config : Config). region < config.regions) (sym same_config) c.requires.region) c.top_at.ensures c.set_word-2.ensures.named in
    let stored_free = stored (config_of c.set_word-2.new.self) g _ _ Free c.free_at-2.result bits config_top tt c.free_at-2.ensures c.set_word-3.ensures.named in
    let stored_forward = stored (config_of c.set_word-3.new.self) g _ _ (Heap address) c.heap_at-3.result c.header_to.result config_free old_is c.heap_at-3.ensures c.set_word-4.ensures.named in
    stored_forward ∙ ap (λ written. write written (Heap address) c.header_to.result)
    (stored_free ∙ ap (λ written. write written Free bits)
    (stored_top ∙ ap (λ written. write written (Top region) top)
    (stored_header ∙ ap (λ written. write written (Heap target_address) 1) c.copy_words.ensures.words)))
    ∙ copied_stores old memory address region target_address c.words_of-words.result top bits c.header_to.result copy_address words_read
    (omega (arith, c.top-top.ensures, words_read))
    (ap (λ set. bit_and set c.all_but.result) free_bits ∙ ap (bit_and (memory Free)) c.all_but.ensures.value)
    (c.header_to.ensures ∙ ap header_word copy_address)

pub overflow_add-address : goal.overflow_add-address
overflow_add-address c =
    let config = config_of c.args.image.now in
    let memory : Word → ℕ = memory_of c.args.image.now in
    let address = c.args.address in
    let object = object_in_heap config address (words_at memory address) c.requires.can.above c.requires.can.of_region c.requires.can.lies in
    omega (arith, low_in _ _ _ object)

pub heap_at-requires : goal.heap_at-requires
heap_at-requires c =
    let config = config_of c.args.image.now in
    let memory : Word → ℕ = memory_of c.args.image.now in
    let address = c.args.address in
    let object = object_in_heap config address (words_at memory address) c.requires.can.above c.requires.can.of_region c.requires.can.lies in
    word_in config c.config-config.result address (words_at memory address) 1 c.config-config.ensures object (omega arith)

pub word-requires : goal.word-requires
word-requires c =
    let config = config_of c.args.image.now in
    let memory : Word → ℕ = memory_of c.args.image.now in
    let address = c.args.address in
    let object = object_in_heap config address (words_at memory address) c.requires.can.above c.requires.can.of_region c.requires.can.lies in
    placed_inside config c.config-config.result (Heap (address + 1)) _ (sym c.config-config.ensures) (word_in config c.config-config.result address (words_at memory address) 1 c.config-config.ensures object (omega arith)) c.heap_at.ensures

pub top-top-requires : goal.top-top-requires
top-top-requires c =
    c.requires.region

pub word-free-requires : goal.word-free-requires
word-free-requires c =
    placed_inside (config_of c.args.image.now) c.config-config.result Free _ (sym c.config-config.ensures) tt c.free_at.ensures

pub base-requires : goal.base-requires
base-requires c =
    subst (λ (config : Config). c.args.region < config.regions) (sym c.config-config.ensures) c.requires.region

pub overflow_add-copy : goal.overflow_add-copy
overflow_add-copy c =
    let config = config_of c.args.image.now in
    let memory : Word → ℕ = memory_of c.args.image.now in
    let region = c.args.region in
    let copy_address : base_of config region + memory (Top region) ≡ c.base.result + c.top-top.result =
    omega (arith, c.base.ensures ∙ ap (λ (config : Config). base_of config region) c.config-config.ensures, c.top-top.ensures) in
    let target = subst (λ (address : ℕ). AreInHeap config address (words_at memory c.args.address)) copy_address (room_in_heap config region (memory (Top region)) (words_at memory c.args.address) c.requires.region c.requires.room) in
    omega (arith, low_in _ _ _ target)

pub heap_at-requires-2 : goal.heap_at-requires-2
heap_at-requires-2 c =
    let config = config_of c.args.image.now in
    let memory : Word → ℕ = memory_of c.args.image.now in
    let region = c.args.region in
    let copy_address : base_of config region + memory (Top region) ≡ c.base.result + c.top-top.result =
    omega (arith, c.base.ensures ∙ ap (λ (config : Config). base_of config region) c.config-config.ensures, c.top-top.ensures) in
    let target = subst (λ (address : ℕ). AreInHeap config address (words_at memory c.args.address)) copy_address (room_in_heap config region (memory (Top region)) (words_at memory c.args.address) c.requires.region c.requires.room) in
    first_in config c.config-config.result _ (words_at memory c.args.address) c.config-config.ensures target (omega arith)

pub set_word-requires : goal.set_word-requires
set_word-requires c =
    let config = config_of c.args.image.now in
    let memory : Word → ℕ = memory_of c.args.image.now in
    let region = c.args.region in
    let copy_address : base_of config region + memory (Top region) ≡ c.base.result + c.top-top.result =
    omega (arith, c.base.ensures ∙ ap (λ (config : Config). base_of config region) c.config-config.ensures, c.top-top.ensures) in
    let target = subst (λ (address : ℕ). AreInHeap config address (words_at memory c.args.address)) copy_address (room_in_heap config region (memory (Top region)) (words_at memory c.args.address) c.requires.region c.requires.room) in
    placed_inside (config_of c.copy_words.new.image) c.config-config.result (Heap (c.base.result + c.top-top.result)) _ (c.copy_words.ensures.config ∙ sym c.config-config.ensures) (first_in config c.config-config.result _ (words_at memory c.args.address) c.config-config.ensures target (omega arith)) c.heap_at-2.ensures

pub top_at-requires : goal.top_at-requires
top_at-requires c =
    subst (λ (config : Config). c.args.region < config.regions) (sym c.config-config.ensures) c.requires.region

pub overflow_add-top : goal.overflow_add-top
overflow_add-top c =
    omega (arith, c.words_of-words.ensures, c.top-top.ensures, c.requires.room, (config_of c.args.image.now).in_range.most_words)

pub set_word-requires-2 : goal.set_word-requires-2
set_word-requires-2 c =
    placed_inside (config_of c.set_word.new.self) c.config-config.result (Top c.args.region) _ (c.set_word.ensures.config ∙ c.copy_words.ensures.config ∙ sym c.config-config.ensures) (subst (λ (config : Config). c.args.region < config.regions) (sym c.config-config.ensures) c.requires.region) c.top_at.ensures

pub all_but-requires : goal.all_but-requires
all_but-requires c =
    omega (arith, c.requires.region, (config_of c.args.image.now).in_range.most_regions)

pub set_word-requires-3 : goal.set_word-requires-3
set_word-requires-3 c =
    placed_inside (config_of c.set_word-2.new.self) c.config-config.result Free _ (c.set_word-2.ensures.config ∙ c.set_word.ensures.config ∙ c.copy_words.ensures.config ∙ sym c.config-config.ensures) tt c.free_at-2.ensures

pub heap_at-requires-3 : goal.heap_at-requires-3
heap_at-requires-3 c =
    let config = config_of c.args.image.now in
    let memory : Word → ℕ = memory_of c.args.image.now in
    let address = c.args.address in
    let object = object_in_heap config address (words_at memory address) c.requires.can.above c.requires.can.of_region c.requires.can.lies in
    first_in config c.config-config.result address (words_at memory address) c.config-config.ensures object (omega arith)

pub header_to-requires : goal.header_to-requires
header_to-requires c =
    let config = config_of c.args.image.now in
    let memory : Word → ℕ = memory_of c.args.image.now in
    let region = c.args.region in
    let copy_address : base_of config region + memory (Top region) ≡ c.base.result + c.top-top.result =
    omega (arith, c.base.ensures ∙ ap (λ (config : Config). base_of config region) c.config-config.ensures, c.top-top.ensures) in
    let target = subst (λ (address : ℕ). AreInHeap config address (words_at memory c.args.address)) copy_address (room_in_heap config region (memory (Top region)) (words_at memory c.args.address) c.requires.region c.requires.room) in
    omega (arith, low_in _ _ _ target)

pub set_word-requires-4 : goal.set_word-requires-4
set_word-requires-4 c =
    let config = config_of c.args.image.now in
    let memory : Word → ℕ = memory_of c.args.image.now in
    let address = c.args.address in
    let object = object_in_heap config address (words_at memory address) c.requires.can.above c.requires.can.of_region c.requires.can.lies in
    placed_inside (config_of c.set_word-3.new.self) c.config-config.result (Heap address) _ (c.set_word-3.ensures.config ∙ c.set_word-2.ensures.config ∙ c.set_word.ensures.config ∙ c.copy_words.ensures.config ∙ sym c.config-config.ensures) (first_in config c.config-config.result address (words_at memory address) c.config-config.ensures object (omega arith)) c.heap_at-3.ensures

pub returns-clause-config : goal.returns-clause-config
returns-clause-config c =
    c.set_word-4.ensures.config ∙ c.set_word-3.ensures.config ∙ c.set_word-2.ensures.config ∙ c.set_word.ensures.config ∙ c.copy_words.ensures.config

pub returns-clause-address : goal.returns-clause-address
returns-clause-address c =
    let config = config_of c.args.image.now in
    let memory : Word → ℕ = memory_of c.args.image.now in
    let region = c.args.region in
    let copy_address : base_of config region + memory (Top region) ≡ c.base.result + c.top-top.result =
    omega (arith, c.base.ensures ∙ ap (λ (config : Config). base_of config region) c.config-config.ensures, c.top-top.ensures) in
    let target = subst (λ (address : ℕ). AreInHeap config address (words_at memory c.args.address)) copy_address (room_in_heap config region (memory (Top region)) (words_at memory c.args.address) c.requires.region c.requires.room) in
    sym copy_address
