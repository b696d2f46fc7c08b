use Rattle.std.proofs.Common.{◌≡◌, ◌<◌, ◌+◌, ℕ, bit_and, sym, ap, ◌∙◌, subst, arith}
use Rattle.heap_words.specs.declared.config.Config.{Config}
use Rattle.heap_words.specs.Words.{Word, Free, Top, Wait, Answer, Heap, IsWord, word_at, write}
use Rattle.heap_words.specs.Encoding.{object_words, request_shape_in, request_count_in, name_code}
use Rattle.regions.specs.Place.{base_of}
use Rattle.image_graph.specs.State.{config_of, memory_of}
use Rattle.image_graph.specs.Make.{heap_cleared, AreInHeap}
use Rattle.image_graph.proofs.Room.{room_in_heap}
use Rattle.image_graph.proofs.HeapParts.{read, word_in, first_in, low_in, low_region, made_inside}
use Rattle.image_graph.proofs.NamedStores.{stored, placed_inside, made_steps}
use Rattle.image_graph.proofs.image.Image.make_object.Goals as goal

pub returns-clause-words : goal.returns-clause-words
returns-clause-words c =
    let g = c.config-config.result in
    let mutator = c.args.mutator in
    let region = c.args.region in
    let old : Word → ℕ = memory_of c.args.self.now in
    let same_config : g ≡ config_of c.args.self.now = c.config-config.ensures in
    -- what was read
    let request : c.word-request.result ≡ old (Wait mutator) = c.word-request.ensures.named (Wait mutator) c.requires.mutator (ap (λ (config : Config). word_at config (Wait mutator)) (sym same_config) ∙ sym c.wait_at.ensures) in
    let top_is : c.word-top.result ≡ old (Top region) = c.word-top.ensures.named (Top region) c.requires.region (ap (λ (config : Config). word_at config (Top region)) (sym same_config) ∙ sym c.top_at.ensures) in
    let same_free : c.word-free.result ≡ old Free = c.word-free.ensures.named Free tt (ap (λ (config : Config). word_at config Free) (sym same_config) ∙ sym c.free_at.ensures) in
    let shape_is : c.request_shape-shape.result ≡ request_shape_in (old (Wait mutator)) = c.request_shape-shape.ensures ∙ ap request_shape_in request in
    let base : c.base.result ≡ base_of (config_of c.args.self.now) region = c.base.ensures ∙ ap (λ (config : Config). base_of config region) same_config in
    let other_address : ℕ = c.base.result + c.word-top.result in
    let address_is : other_address ≡ base_of (config_of c.args.self.now) region + old (Top region) = omega (arith, base, top_is) in
    let name_is : c.name_word-name.result ≡ name_code (mutator + 1) (request_count_in (old (Wait mutator))) =
    c.name_word-name.ensures ∙ ap (name_code (mutator + 1)) (c.request_count.ensures ∙ ap request_count_in request) in
    let words : c.words_of.result ≡ object_words c.request_shape-shape.result = c.words_of.ensures in
    -- where it is written
    let object_inside : AreInHeap (config_of c.args.self.now) (base_of (config_of c.args.self.now) region + old (Top region)) (object_words (request_shape_in (old (Wait mutator)))) =
    room_in_heap (config_of c.args.self.now) region (old (Top region)) (object_words (request_shape_in (old (Wait mutator)))) c.requires.region c.requires.room in
    let is_heap : (index : ℕ) → index < 3 → IsWord g (Heap (other_address + index)) =
    λ index index_few. subst (λ (config : Config). IsWord config (Heap (other_address + index))) (sym same_config) (omega (arith, object_inside.from, address_is), omega (arith, object_inside.to, address_is, index_few)) in
    let config_cleared : config_of c.clear.new.self ≡ g = c.clear.ensures.config ∙ sym same_config in
    let config_header : config_of c.set_word.new.self ≡ g = c.set_word.ensures.config ∙ config_cleared in
    let config_shape : config_of c.set_word-2.new.self ≡ g = c.set_word-2.ensures.config ∙ config_header in
    let config_name : config_of c.set_word-3.new.self ≡ g = c.set_word-3.ensures.config ∙ config_shape in
    let config_top : config_of c.set_word-4.new.self ≡ g = c.set_word-4.ensures.config ∙ config_name in
    let config_free : config_of c.set_word-5.new.self ≡ g = c.set_word-5.ensures.config ∙ config_top in
    let config_answer : config_of c.set_word-6.new.self ≡ g = c.set_word-6.ensures.config ∙ config_free in
    let stored_header = stored (config_of c.clear.new.self) g _ _ (Heap other_address) c.heap_at.result 1 config_cleared (subst (λ (config : Config). IsWord config (Heap other_address)) (sym same_config) (omega (arith, object_inside.from, address_is), omega (arith, object_inside.to, address_is))) c.heap_at.ensures c.set_word.ensures.named in
    let stored_shape = stored (config_of c.set_word.new.self) g _ _ (Heap (other_address + 1)) c.heap_at-2.result c.request_shape-shape.result config_header (is_heap 1 (omega arith)) c.heap_at-2.ensures c.set_word-2.ensures.named in
    let stored_name = stored (config_of c.set_word-2.new.self) g _ _ (Heap (other_address + 2)) c.heap_at-3.result c.name_word-name.result config_shape (is_heap 2 (omega arith)) c.heap_at-3.ensures c.set_word-3.ensures.named in
    let stored_top = stored (config_of c.set_word-3.new.self) g _ _ (Top region) c.top_at-2.result (c.word-top.result + c.words_of-2.result) config_name (subst (λ (config : Config). region < config.regions) (sym same_config) c.requires.region) c.top_at-2.ensures c.set_word-4.ensures.named in
    let stored_free = stored (config_of c.set_word-4.new.self) g _ _ Free c.free_at-2.result (bit_and c.word-free.result c.all_but.result) config_top tt c.free_at-2.ensures c.set_word-5.ensures.named in
    let stored_answer = stored (config_of c.set_word-5.new.self) g _ _ (Answer mutator) c.answer_at.result other_address config_free (subst (λ (config : Config). mutator < config.mutators) (sym same_config) c.requires.mutator) c.answer_at.ensures c.set_word-6.ensures.named in
    let stored_wait = stored (config_of c.set_word-6.new.self) g _ _ (Wait mutator) c.wait_at-2.result 0 config_answer (subst (λ (config : Config). mutator < config.mutators) (sym same_config) c.requires.mutator) c.wait_at-2.ensures c.set_word-7.ensures.named in
    let cleared_is : memory_of c.clear.new.self ≡ heap_cleared other_address (object_words c.request_shape-shape.result) old = c.clear.ensures.words ∙ ap (λ words. heap_cleared other_address words old) words in
    stored_wait ∙ ap (λ written. write written (Wait mutator) 0)
    (stored_answer ∙ ap (λ written. write written (Answer mutator) other_address)
    (stored_free ∙ ap (λ written. write written Free (bit_and c.word-free.result c.all_but.result))
    (stored_top ∙ ap (λ written. write written (Top region) (c.word-top.result + c.words_of-2.result))
    (stored_name ∙ ap (λ written. write written (Heap (other_address + 2)) c.name_word-name.result)
    (stored_shape ∙ ap (λ written. write written (Heap (other_address + 1)) c.request_shape-shape.result)
    (stored_header ∙ ap (λ written. write written (Heap other_address) 1) cleared_is))))))
    ∙ made_steps (config_of c.args.self.now) old mutator region other_address c.request_shape-shape.result c.name_word-name.result (c.word-top.result + c.words_of-2.result) (bit_and c.word-free.result c.all_but.result)
    address_is shape_is name_is (omega (arith, top_is, c.words_of-2.ensures)) (ap (λ set. bit_and set c.all_but.result) same_free ∙ ap (bit_and (old Free)) c.all_but.ensures.value)

pub wait_at-requires : goal.wait_at-requires
wait_at-requires c =
    subst (λ (config : Config). c.args.mutator < config.mutators) (sym c.config-config.ensures) c.requires.mutator

pub word-request-requires : goal.word-request-requires
word-request-requires c =
    placed_inside (config_of c.args.self.now) c.config-config.result (Wait c.args.mutator) _ (sym c.config-config.ensures) (subst (λ (config : Config). c.args.mutator < config.mutators) (sym c.config-config.ensures) c.requires.mutator) c.wait_at.ensures

pub top_at-requires : goal.top_at-requires
top_at-requires c =
    subst (λ (config : Config). c.args.region < config.regions) (sym c.config-config.ensures) c.requires.region

pub word-top-requires : goal.word-top-requires
word-top-requires c =
    placed_inside (config_of c.args.self.now) c.config-config.result (Top c.args.region) _ (sym c.config-config.ensures) (subst (λ (config : Config). c.args.region < config.regions) (sym c.config-config.ensures) c.requires.region) c.top_at.ensures

pub word-free-requires : goal.word-free-requires
word-free-requires c =
    placed_inside (config_of c.args.self.now) c.config-config.result Free _ (sym c.config-config.ensures) tt c.free_at.ensures

pub base-requires : goal.base-requires
base-requires c =
    subst (λ (config : Config). c.args.region < config.regions) (sym c.config-config.ensures) c.requires.region

pub overflow_add-address : goal.overflow_add-address
overflow_add-address c =
    let config = config_of c.args.self.now in
    let region = c.args.region in
    let used : c.word-top.result ≡ memory_of c.args.self.now (Top region) =
    read config _ (memory_of c.args.self.now) (Top region) _ _ c.config-config.ensures c.requires.region c.top_at.ensures c.word-top.ensures.named in
    let base : c.base.result ≡ base_of config region = c.base.ensures ∙ ap (λ (config : Config). base_of config region) c.config-config.ensures in
    omega (arith, used, base, c.requires.room, low_region config region c.requires.region)

pub overflow_cast-mutator : goal.overflow_cast-mutator
overflow_cast-mutator c =
    omega (arith, c.requires.mutator, (config_of c.args.self.now).in_range.most_mutators)

pub overflow_add-mutator : goal.overflow_add-mutator
overflow_add-mutator c =
    omega (arith, c.requires.mutator, (config_of c.args.self.now).in_range.most_mutators)

pub clear-requires : goal.clear-requires
clear-requires c =
    let config = config_of c.args.self.now in
    let memory : Word → ℕ = memory_of c.args.self.now in
    let mutator = c.args.mutator in
    let region = c.args.region in
    let request_is : c.word-request.result ≡ memory (Wait mutator) = read config _ memory (Wait mutator) _ _ c.config-config.ensures c.requires.mutator c.wait_at.ensures c.word-request.ensures.named in
    let used : c.word-top.result ≡ memory (Top region) = read config _ memory (Top region) _ _ c.config-config.ensures c.requires.region c.top_at.ensures c.word-top.ensures.named in
    let object_inside = made_inside config _ memory mutator region _ _ _ _ c.words_of.result c.config-config.ensures c.requires.region c.requires.room c.base.ensures used request_is c.request_shape-shape.ensures c.words_of.ensures in
    record { inside = object_inside }

pub heap_at-requires : goal.heap_at-requires
heap_at-requires c =
    let config = config_of c.args.self.now in
    let memory : Word → ℕ = memory_of c.args.self.now in
    let mutator = c.args.mutator in
    let region = c.args.region in
    let request_is : c.word-request.result ≡ memory (Wait mutator) = read config _ memory (Wait mutator) _ _ c.config-config.ensures c.requires.mutator c.wait_at.ensures c.word-request.ensures.named in
    let used : c.word-top.result ≡ memory (Top region) = read config _ memory (Top region) _ _ c.config-config.ensures c.requires.region c.top_at.ensures c.word-top.ensures.named in
    let object_inside = made_inside config _ memory mutator region _ _ _ _ c.words_of.result c.config-config.ensures c.requires.region c.requires.room c.base.ensures used request_is c.request_shape-shape.ensures c.words_of.ensures in
    first_in config c.config-config.result _ _ c.config-config.ensures object_inside (omega (arith, c.words_of.ensures))

pub set_word-requires : goal.set_word-requires
set_word-requires c =
    let config = config_of c.args.self.now in
    let memory : Word → ℕ = memory_of c.args.self.now in
    let mutator = c.args.mutator in
    let region = c.args.region in
    let request_is : c.word-request.result ≡ memory (Wait mutator) = read config _ memory (Wait mutator) _ _ c.config-config.ensures c.requires.mutator c.wait_at.ensures c.word-request.ensures.named in
    let used : c.word-top.result ≡ memory (Top region) = read config _ memory (Top region) _ _ c.config-config.ensures c.requires.region c.top_at.ensures c.word-top.ensures.named in
    let object_inside = made_inside config _ memory mutator region _ _ _ _ c.words_of.result c.config-config.ensures c.requires.region c.requires.room c.base.ensures used request_is c.request_shape-shape.ensures c.words_of.ensures in
    placed_inside (config_of c.clear.new.self) c.config-config.result (Heap (c.base.result + c.word-top.result)) _ (c.clear.ensures.config ∙ sym c.config-config.ensures) (first_in config c.config-config.result _ _ c.config-config.ensures object_inside (omega (arith, c.words_of.ensures))) c.heap_at.ensures

pub overflow_add-address-2 : goal.overflow_add-address-2
overflow_add-address-2 c =
    let config = config_of c.args.self.now in
    let memory : Word → ℕ = memory_of c.args.self.now in
    let mutator = c.args.mutator in
    let region = c.args.region in
    let request_is : c.word-request.result ≡ memory (Wait mutator) = read config _ memory (Wait mutator) _ _ c.config-config.ensures c.requires.mutator c.wait_at.ensures c.word-request.ensures.named in
    let used : c.word-top.result ≡ memory (Top region) = read config _ memory (Top region) _ _ c.config-config.ensures c.requires.region c.top_at.ensures c.word-top.ensures.named in
    let object_inside = made_inside config _ memory mutator region _ _ _ _ c.words_of.result c.config-config.ensures c.requires.region c.requires.room c.base.ensures used request_is c.request_shape-shape.ensures c.words_of.ensures in
    omega (arith, low_in _ _ _ object_inside)

pub heap_at-requires-2 : goal.heap_at-requires-2
heap_at-requires-2 c =
    let config = config_of c.args.self.now in
    let memory : Word → ℕ = memory_of c.args.self.now in
    let mutator = c.args.mutator in
    let region = c.args.region in
    let request_is : c.word-request.result ≡ memory (Wait mutator) = read config _ memory (Wait mutator) _ _ c.config-config.ensures c.requires.mutator c.wait_at.ensures c.word-request.ensures.named in
    let used : c.word-top.result ≡ memory (Top region) = read config _ memory (Top region) _ _ c.config-config.ensures c.requires.region c.top_at.ensures c.word-top.ensures.named in
    let object_inside = made_inside config _ memory mutator region _ _ _ _ c.words_of.result c.config-config.ensures c.requires.region c.requires.room c.base.ensures used request_is c.request_shape-shape.ensures c.words_of.ensures in
    word_in config c.config-config.result _ _ 1 c.config-config.ensures object_inside (omega (arith, c.words_of.ensures))

pub set_word-requires-2 : goal.set_word-requires-2
set_word-requires-2 c =
    let config = config_of c.args.self.now in
    let memory : Word → ℕ = memory_of c.args.self.now in
    let mutator = c.args.mutator in
    let region = c.args.region in
    let request_is : c.word-request.result ≡ memory (Wait mutator) = read config _ memory (Wait mutator) _ _ c.config-config.ensures c.requires.mutator c.wait_at.ensures c.word-request.ensures.named in
    let used : c.word-top.result ≡ memory (Top region) = read config _ memory (Top region) _ _ c.config-config.ensures c.requires.region c.top_at.ensures c.word-top.ensures.named in
    let object_inside = made_inside config _ memory mutator region _ _ _ _ c.words_of.result c.config-config.ensures c.requires.region c.requires.room c.base.ensures used request_is c.request_shape-shape.ensures c.words_of.ensures in
    placed_inside (config_of c.set_word.new.self) c.config-config.result (Heap (c.base.result + c.word-top.result + 1)) _ (c.set_word.ensures.config ∙ c.clear.ensures.config ∙ sym c.config-config.ensures) (word_in config c.config-config.result _ _ 1 c.config-config.ensures object_inside (omega (arith, c.words_of.ensures))) c.heap_at-2.ensures

pub overflow_add-address-3 : goal.overflow_add-address-3
overflow_add-address-3 c =
    let config = config_of c.args.self.now in
    let memory : Word → ℕ = memory_of c.args.self.now in
    let mutator = c.args.mutator in
    let region = c.args.region in
    let request_is : c.word-request.result ≡ memory (Wait mutator) = read config _ memory (Wait mutator) _ _ c.config-config.ensures c.requires.mutator c.wait_at.ensures c.word-request.ensures.named in
    let used : c.word-top.result ≡ memory (Top region) = read config _ memory (Top region) _ _ c.config-config.ensures c.requires.region c.top_at.ensures c.word-top.ensures.named in
    let object_inside = made_inside config _ memory mutator region _ _ _ _ c.words_of.result c.config-config.ensures c.requires.region c.requires.room c.base.ensures used request_is c.request_shape-shape.ensures c.words_of.ensures in
    omega (arith, low_in _ _ _ object_inside)

pub heap_at-requires-3 : goal.heap_at-requires-3
heap_at-requires-3 c =
    let config = config_of c.args.self.now in
    let memory : Word → ℕ = memory_of c.args.self.now in
    let mutator = c.args.mutator in
    let region = c.args.region in
    let request_is : c.word-request.result ≡ memory (Wait mutator) = read config _ memory (Wait mutator) _ _ c.config-config.ensures c.requires.mutator c.wait_at.ensures c.word-request.ensures.named in
    let used : c.word-top.result ≡ memory (Top region) = read config _ memory (Top region) _ _ c.config-config.ensures c.requires.region c.top_at.ensures c.word-top.ensures.named in
    let object_inside = made_inside config _ memory mutator region _ _ _ _ c.words_of.result c.config-config.ensures c.requires.region c.requires.room c.base.ensures used request_is c.request_shape-shape.ensures c.words_of.ensures in
    word_in config c.config-config.result _ _ 2 c.config-config.ensures object_inside (omega (arith, c.words_of.ensures))

pub set_word-requires-3 : goal.set_word-requires-3
set_word-requires-3 c =
    let config = config_of c.args.self.now in
    let memory : Word → ℕ = memory_of c.args.self.now in
    let mutator = c.args.mutator in
    let region = c.args.region in
    let request_is : c.word-request.result ≡ memory (Wait mutator) = read config _ memory (Wait mutator) _ _ c.config-config.ensures c.requires.mutator c.wait_at.ensures c.word-request.ensures.named in
    let used : c.word-top.result ≡ memory (Top region) = read config _ memory (Top region) _ _ c.config-config.ensures c.requires.region c.top_at.ensures c.word-top.ensures.named in
    let object_inside = made_inside config _ memory mutator region _ _ _ _ c.words_of.result c.config-config.ensures c.requires.region c.requires.room c.base.ensures used request_is c.request_shape-shape.ensures c.words_of.ensures in
    placed_inside (config_of c.set_word-2.new.self) c.config-config.result (Heap (c.base.result + c.word-top.result + 2)) _ (c.set_word-2.ensures.config ∙ c.set_word.ensures.config ∙ c.clear.ensures.config ∙ sym c.config-config.ensures) (word_in config c.config-config.result _ _ 2 c.config-config.ensures object_inside (omega (arith, c.words_of.ensures))) c.heap_at-3.ensures

pub top_at-requires-2 : goal.top_at-requires-2
top_at-requires-2 c =
    subst (λ (config : Config). c.args.region < config.regions) (sym c.config-config.ensures) c.requires.region

pub overflow_add-top : goal.overflow_add-top
overflow_add-top c =
    let used : c.word-top.result ≡ memory_of c.args.self.now (Top c.args.region) =
    read (config_of c.args.self.now) _ (memory_of c.args.self.now) (Top c.args.region) _ _ c.config-config.ensures c.requires.region c.top_at.ensures c.word-top.ensures.named in
    omega (arith, used, c.requires.room, c.words_of-2.ensures, (config_of c.args.self.now).in_range.most_words)

pub set_word-requires-4 : goal.set_word-requires-4
set_word-requires-4 c =
    placed_inside (config_of c.set_word-3.new.self) c.config-config.result (Top c.args.region) _ (c.set_word-3.ensures.config ∙ c.set_word-2.ensures.config ∙ c.set_word.ensures.config ∙ c.clear.ensures.config ∙ sym c.config-config.ensures) (subst (λ (config : Config). c.args.region < config.regions) (sym c.config-config.ensures) c.requires.region) c.top_at-2.ensures

pub all_but-requires : goal.all_but-requires
all_but-requires c =
    omega (arith, c.requires.region, (config_of c.args.self.now).in_range.most_regions)

pub set_word-requires-5 : goal.set_word-requires-5
set_word-requires-5 c =
    placed_inside (config_of c.set_word-4.new.self) c.config-config.result Free _ (c.set_word-4.ensures.config ∙ c.set_word-3.ensures.config ∙ c.set_word-2.ensures.config ∙ c.set_word.ensures.config ∙ c.clear.ensures.config ∙ sym c.config-config.ensures) tt c.free_at-2.ensures

pub answer_at-requires : goal.answer_at-requires
answer_at-requires c =
    subst (λ (config : Config). c.args.mutator < config.mutators) (sym c.config-config.ensures) c.requires.mutator

pub set_word-requires-6 : goal.set_word-requires-6
set_word-requires-6 c =
    placed_inside (config_of c.set_word-5.new.self) c.config-config.result (Answer c.args.mutator) _ (c.set_word-5.ensures.config ∙ c.set_word-4.ensures.config ∙ c.set_word-3.ensures.config ∙ c.set_word-2.ensures.config ∙ c.set_word.ensures.config ∙ c.clear.ensures.config ∙ sym c.config-config.ensures) (subst (λ (config : Config). c.args.mutator < config.mutators) (sym c.config-config.ensures) c.requires.mutator) c.answer_at.ensures

pub wait_at-requires-2 : goal.wait_at-requires-2
wait_at-requires-2 c =
    subst (λ (config : Config). c.args.mutator < config.mutators) (sym c.config-config.ensures) c.requires.mutator

pub set_word-requires-7 : goal.set_word-requires-7
set_word-requires-7 c =
    placed_inside (config_of c.set_word-6.new.self) c.config-config.result (Wait c.args.mutator) _ (c.set_word-6.ensures.config ∙ c.set_word-5.ensures.config ∙ c.set_word-4.ensures.config ∙ c.set_word-3.ensures.config ∙ c.set_word-2.ensures.config ∙ c.set_word.ensures.config ∙ c.clear.ensures.config ∙ sym c.config-config.ensures) (subst (λ (config : Config). c.args.mutator < config.mutators) (sym c.config-config.ensures) c.requires.mutator) c.wait_at-2.ensures

pub returns-clause-config : goal.returns-clause-config
returns-clause-config c =
    c.set_word-7.ensures.config ∙ c.set_word-6.ensures.config ∙ c.set_word-5.ensures.config ∙ c.set_word-4.ensures.config ∙ c.set_word-3.ensures.config ∙ c.set_word-2.ensures.config ∙ c.set_word.ensures.config ∙ c.clear.ensures.config
