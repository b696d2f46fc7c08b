use Rattle.std.proofs.Common.{◌≡◌, ◌<◌, ◌+◌, ℕ, List, length, get_or, refl, sym, ap, ◌∙◌, subst, arith}
use Rattle.heap_words.specs.declared.config.Config.{Config}
use Rattle.heap_words.specs.Words.{Word, Heap, IsWord, write}
use Rattle.heap_words.proofs.Bounds.{address_small}
use Rattle.shen_graph.specs.GraphText.{Text, row_of}
use Rattle.image_graph.specs.State.{config_of, memory_of}
use Rattle.image_graph.proofs.NamedStores.{stored, placed_inside}
use Rattle.graph_placing.specs.ByName.{words_of_row, address_of, Fits}
use Rattle.graph_placing.specs.PlacedHeap.{word_for, words_of_object}
use Rattle.graph_placing.specs.PlaceableText.{IsPlaceable}
use Rattle.graph_placing.specs.Writing.{AreAddresses, copied}
use Rattle.graph_placing.proofs.Located as located
use Rattle.graph_placing.proofs.Written.{copied_none, copied_more}
use Rattle.graph_placing.proofs.objects.write_object.Goals as goal

-- a word of the object is a word of the heap
word_of_object : (config : Config) (text : Text) (addresses : List ℕ) (index offset : ℕ) → IsPlaceable config text → Fits config text → AreAddresses config text addresses → index < length text.rows → offset < words_of_row text index → IsWord config (Heap (get_or addresses index 0 + offset))
word_of_object config text addresses index offset placeable fits are_addresses index_below offset_inside =
    subst (λ (address : ℕ). IsWord config (Heap (address + offset))) (sym (are_addresses.each index index_below)) (located.is_word config text placeable fits index offset index_below offset_inside)

pub overflow_add-address : goal.overflow_add-address
overflow_add-address c =
    let config = config_of c.args.image.now in
    let text = c.args.text.now in
    let index_inside : c.loop-index.index < words_of_row text c.args.row = omega (arith, c.loop-index-test.true, c.words_of_row-index-end.ensures.value) in
    let word_is = word_of_object config text c.args.addresses.now c.args.row c.loop-index.index c.requires.whole c.requires.fits c.requires.addresses c.requires.row index_inside in
    omega (arith, address_small config _ word_is)

pub heap_at-requires : goal.heap_at-requires
heap_at-requires c =
    let config = config_of c.args.image.now in
    let text = c.args.text.now in
    let index_inside : c.loop-index.index < words_of_row text c.args.row = omega (arith, c.loop-index-test.true, c.words_of_row-index-end.ensures.value) in
    subst (λ (config : Config). IsWord config (Heap (get_or c.args.addresses.now c.args.row 0 + c.loop-index.index))) (sym c.config-config.ensures)
    (word_of_object config text c.args.addresses.now c.args.row c.loop-index.index c.requires.whole c.requires.fits c.requires.addresses c.requires.row index_inside)

pub set_word-requires : goal.set_word-requires
set_word-requires c =
    let config = config_of c.args.image.now in
    let text = c.args.text.now in
    let address = get_or c.args.addresses.now c.args.row 0 + c.loop-index.index in
    let index_inside : c.loop-index.index < words_of_row text c.args.row = omega (arith, c.loop-index-test.true, c.words_of_row-index-end.ensures.value) in
    placed_inside (config_of c.loop-index.image) c.config-config.result (Heap address) c.heap_at.result (c.loop-index.invariant.config ∙ sym c.config-config.ensures)
    (subst (λ (config : Config). IsWord config (Heap address)) (sym c.config-config.ensures)
    (word_of_object config text c.args.addresses.now c.args.row c.loop-index.index c.requires.whole c.requires.fits c.requires.addresses c.requires.row index_inside)) c.heap_at.ensures

pub loop-index-init : goal.loop-index-init
loop-index-init c =
    let config = config_of c.args.image.now in
    let text = c.args.text.now in
    record { config = refl; words = copied_none (address_of config text c.args.row) (words_of_object (word_for config text) (row_of text c.args.row)) (memory_of c.args.image.now) }

pub loop-index-preserved : goal.loop-index-preserved
loop-index-preserved c =
    let config = config_of c.args.image.now in
    let text = c.args.text.now in
    let row = c.args.row in
    let index = c.loop-index.index in
    let address = get_or c.args.addresses.now row 0 in
    let list : List ℕ = words_of_object (word_for config text) (row_of text row) in
    let same_config : c.config-config.result ≡ config = c.config-config.ensures in
    let address_is : address ≡ address_of config text row = c.requires.addresses.each row c.requires.row in
    let index_inside : index < words_of_row text row = omega (arith, c.loop-index-test.true, c.words_of_row-index-end.ensures.value) in
    let word_written : memory_of c.set_word.new.self ≡ write (memory_of c.loop-index.image) (Heap (address + index)) c.object_word-word.result =
    stored (config_of c.loop-index.image) c.config-config.result (memory_of c.loop-index.image) (memory_of c.set_word.new.self) (Heap (address + index)) c.heap_at.result c.object_word-word.result
    (c.loop-index.invariant.config ∙ sym same_config)
    (subst (λ (config : Config). IsWord config (Heap (address + index))) (sym same_config) (word_of_object config text c.args.addresses.now row index c.requires.whole c.requires.fits c.requires.addresses c.requires.row index_inside))
    c.heap_at.ensures c.set_word.ensures.named in
    let word : c.object_word-word.result ≡ get_or list index 0 = c.object_word-word.ensures ∙ ap (λ (config : Config). get_or (words_of_object (word_for config text) (row_of text row)) index 0) same_config in
    record {
      config = c.set_word.ensures.config ∙ c.loop-index.invariant.config;
      words = word_written ∙ ap (λ (memory : Word → ℕ). write memory (Heap (address + index)) c.object_word-word.result) c.loop-index.invariant.words
          ∙ ap (λ (x : ℕ). write (copied (address_of config text row) index list (memory_of c.args.image.now)) (Heap (x + index)) c.object_word-word.result) address_is
          ∙ ap (write (copied (address_of config text row) index list (memory_of c.args.image.now)) (Heap (address_of config text row + index))) word
          ∙ copied_more (address_of config text row) index list (memory_of c.args.image.now);
    }

pub returns-clause-words : goal.returns-clause-words
returns-clause-words c =
    let config = config_of c.args.image.now in
    let text = c.args.text.now in
    let row = c.args.row in
    let all_words : c.loop-index.index ≡ words_of_row text row = omega (arith, c.loop-index-test.false, c.loop-index.auto.index-end, c.words_of_row-index-end.ensures.value) in
    c.loop-index.invariant.words ∙ ap (λ (words : ℕ). copied (address_of config text row) words (words_of_object (word_for config text) (row_of text row)) (memory_of c.args.image.now)) all_words
