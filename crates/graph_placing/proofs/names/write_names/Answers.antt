use Rattle.std.proofs.Common.{◌≡◌, ◌+◌, ◌*◌, ◌<◌, ◌≤◌, ℕ, List, length, get_or, refl, sym, ap, ◌∙◌, subst, arith}
use Rattle.std.proofs.lemmas.List.{length-replicate, get_or-replicate, take_all}
use Rattle.std.proofs.lemmas.Nat.{mul-le}
use Rattle.heap_words.specs.declared.config.Config.{Config}
use Rattle.heap_words.specs.Words.{Word, Heap, IsWord, write}
use Rattle.heap_words.specs.Encoding.{name_code}
use Rattle.heap_words.proofs.Bounds.{end_small}
use Rattle.shen_graph.specs.declared.name.Name.{Name}
use Rattle.shen_graph.specs.Graph.{hub}
use Rattle.shen_graph.specs.GraphText.{Text, row_of, names_of}
use Rattle.image_graph.specs.State.{config_of, memory_of}
use Rattle.image_graph.proofs.NamedStores.{stored, placed_inside}
use Rattle.graph_placing.specs.ByName.{address_of, Fits}
use Rattle.graph_placing.specs.PlaceableText.{IsPlaceable}
use Rattle.graph_placing.proofs.Located as located
use Rattle.graph_placing.proofs.Searching.{names_count, name_of_row}
use Rattle.graph_placing.specs.NamesAnew.{earlier_names}
use Rattle.graph_placing.specs.Renaming.{AreCountsOf}
use Rattle.graph_placing.specs.NamesRewritten.{names_written}
use Rattle.graph_placing.proofs.CountsKept.{thread_within, count_is_few, next_is, counted_next}
use Rattle.graph_placing.proofs.FewRows.{row_is_small}
use Rattle.graph_placing.proofs.WrittenAnew.{names_none, names_more, code_anew}
use Rattle.graph_placing.proofs.names.write_names.Goals as goal

pub loop-row-init : goal.loop-row-init
loop-row-init c =
    let config = config_of c.args.image.now in
    let text = c.args.text.now in
    let same_words : c.region_words-region_words.result ≡ config.region_words = c.region_words-region_words.ensures ∙ ap (λ (config : Config). config.region_words) c.config-config.ensures in
    let first_region : 1 * config.region_words ≤ (config.regions + 1) * config.region_words = mul-le 1 config.region_words (config.regions + 1) config.region_words (omega arith) (omega arith) in
    record {
      end = same_words ∙ sym (located.first_end config text c.requires.whole);
      within = omega (arith, same_words, first_region);
      config = refl;
      words = names_none config text (memory_of c.args.image.now);
      counts = record {
        long = ap length c.requires.none ∙ length-replicate config.mutators 0;
        each = λ index index_below. ap (λ (xs : List ℕ). get_or xs index 0) c.requires.none ∙ get_or-replicate config.mutators index 0 0 index_below;
      };
    }

-- the row's place, and where its object ends
pub words_of_row-words-requires-clause-short : goal.words_of_row-words-requires-clause-short
words_of_row-words-requires-clause-short c = omega (arith, located.few_words (config_of c.args.image.now) c.args.text.now c.requires.whole c.loop-row.row)

pub place_behind-address-requires-clause-fits : goal.place_behind-address-requires-clause-fits
place_behind-address-requires-clause-fits c =
    let config = config_of c.args.image.now in
    let same_words : c.region_words-region_words.result ≡ config.region_words = c.region_words-region_words.ensures ∙ ap (λ (config : Config). config.region_words) c.config-config.ensures in
    omega (arith, same_words, config.in_range.most_words, end_small config, c.loop-row.invariant.within, located.few_words config c.args.text.now c.requires.whole c.loop-row.row, c.words_of_row-words.ensures)

pub overflow_add-end : goal.overflow_add-end
overflow_add-end c =
    let config = config_of c.args.image.now in
    let text = c.args.text.now in
    let row = c.loop-row.row in
    let row_inside : row < length text.rows = omega (arith, c.loop-row-test.true, c.rows-row-end.ensures) in
    let same_words : c.region_words-region_words.result ≡ config.region_words = c.region_words-region_words.ensures ∙ ap (λ (config : Config). config.region_words) c.config-config.ensures in
    let place_is = located.next_place config text c.requires.whole c.region_words-region_words.result c.loop-row.end c.words_of_row-words.result c.place_behind-address.result row same_words c.loop-row.invariant.end c.words_of_row-words.ensures
    c.place_behind-address.ensures in
    omega (arith, place_is, c.words_of_row-words.ensures, located.in_heap config text c.requires.whole c.requires.fits row row_inside, end_small config)

-- where the name stands
name_word_inside : (config read_config : Config) (text : Text) (placeable : IsPlaceable config text) → Fits config text → read_config ≡ config → (index address : ℕ) → index < length text.rows → address ≡ address_of config text index → IsWord read_config (Heap (address + 2))
name_word_inside config read_config text placeable fits same_config index address index_inside address_is =
    let is_word : IsWord config (Heap (address_of config text index + 2)) = located.is_word config text placeable fits index 2 index_inside (omega (arith, located.some_words config text placeable index)) in
    subst (λ (config : Config). IsWord config (Heap (address + 2))) (sym same_config) (subst (λ (any_address : ℕ). IsWord config (Heap (any_address + 2))) (sym address_is) is_word)

pub heap_at-requires : goal.heap_at-requires
heap_at-requires c =
    let config = config_of c.args.image.now in
    let text = c.args.text.now in
    let row = c.loop-row.row in
    let row_inside : row < length text.rows = omega (arith, c.loop-row-test.true, c.rows-row-end.ensures) in
    let same_words : c.region_words-region_words.result ≡ config.region_words = c.region_words-region_words.ensures ∙ ap (λ (config : Config). config.region_words) c.config-config.ensures in
    let place_is = located.next_place config text c.requires.whole c.region_words-region_words.result c.loop-row.end c.words_of_row-words.result c.place_behind-address.result row same_words c.loop-row.invariant.end c.words_of_row-words.ensures
    c.place_behind-address.ensures in
    name_word_inside config c.config-config.result text c.requires.whole c.requires.fits c.config-config.ensures row c.place_behind-address.result row_inside place_is

pub set_word-requires : goal.set_word-requires
set_word-requires c =
    let config = config_of c.args.image.now in
    let text = c.args.text.now in
    let row = c.loop-row.row in
    let row_inside : row < length text.rows = omega (arith, c.loop-row-test.true, c.rows-row-end.ensures) in
    let same_words : c.region_words-region_words.result ≡ config.region_words = c.region_words-region_words.ensures ∙ ap (λ (config : Config). config.region_words) c.config-config.ensures in
    let place_is = located.next_place config text c.requires.whole c.region_words-region_words.result c.loop-row.end c.words_of_row-words.result c.place_behind-address.result row same_words c.loop-row.invariant.end c.words_of_row-words.ensures
    c.place_behind-address.ensures in
    placed_inside (config_of c.loop-row.image) c.config-config.result (Heap (c.place_behind-address.result + 2)) c.heap_at.result (c.loop-row.invariant.config ∙ sym c.config-config.ensures)
    (name_word_inside config c.config-config.result text c.requires.whole c.requires.fits c.config-config.ensures row c.place_behind-address.result row_inside place_is) c.heap_at.ensures

pub overflow_add-address : goal.overflow_add-address
overflow_add-address c =
    let config = config_of c.args.image.now in
    let text = c.args.text.now in
    let row = c.loop-row.row in
    let row_inside : row < length text.rows = omega (arith, c.loop-row-test.true, c.rows-row-end.ensures) in
    let same_words : c.region_words-region_words.result ≡ config.region_words = c.region_words-region_words.ensures ∙ ap (λ (config : Config). config.region_words) c.config-config.ensures in
    let place_is = located.next_place config text c.requires.whole c.region_words-region_words.result c.loop-row.end c.words_of_row-words.result c.place_behind-address.result row same_words c.loop-row.invariant.end c.words_of_row-words.ensures
    c.place_behind-address.ensures in
    omega (arith, place_is, located.in_heap config text c.requires.whole c.requires.fits row row_inside, located.some_words config text c.requires.whole row, end_small config)

pub count_one-count-requires-clause-thread : goal.count_one-count-requires-clause-thread
count_one-count-requires-clause-thread c =
    let config = config_of c.args.image.now in
    let text = c.args.text.now in
    let row = c.loop-row.row in
    let row_inside : row < length text.rows = omega (arith, c.loop-row-test.true, c.rows-row-end.ensures) in
    let row_below : row < length (names_of text) = omega (arith, row_inside, names_count text) in
    let name_is : get_or (names_of text) row hub ≡ c.name_at-name.result = name_of_row text row hub row_inside ∙ sym c.name_at-name.ensures in
    thread_within (config_of c.args.image.now).mutators (names_of text) c.requires.names row row_below c.loop-row.counts c.loop-row.invariant.counts c.name_at-name.result name_is

pub count_one-count-requires-clause-few : goal.count_one-count-requires-clause-few
count_one-count-requires-clause-few c = λ some_thread.
    let config = config_of c.args.image.now in
    let text = c.args.text.now in
    let row = c.loop-row.row in
    let row_inside : row < length text.rows = omega (arith, c.loop-row-test.true, c.rows-row-end.ensures) in
    let row_below : row < length (names_of text) = omega (arith, row_inside, names_count text) in
    let name_is : get_or (names_of text) row hub ≡ c.name_at-name.result = name_of_row text row hub row_inside ∙ sym c.name_at-name.ensures in
    omega (arith, count_is_few config.mutators (names_of text) c.requires.names row row_below c.loop-row.counts c.loop-row.invariant.counts c.name_at-name.result name_is some_thread, row_is_small config text c.requires.whole c.requires.fits row row_inside)

pub loop-row-preserved : goal.loop-row-preserved
loop-row-preserved c =
    let config = config_of c.args.image.now in
    let text = c.args.text.now in
    let row = c.loop-row.row in
    let row_inside : row < length text.rows = omega (arith, c.loop-row-test.true, c.rows-row-end.ensures) in
    let same_words : c.region_words-region_words.result ≡ config.region_words = c.region_words-region_words.ensures ∙ ap (λ (config : Config). config.region_words) c.config-config.ensures in
    let place_is = located.next_place config text c.requires.whole c.region_words-region_words.result c.loop-row.end c.words_of_row-words.result c.place_behind-address.result row same_words c.loop-row.invariant.end c.words_of_row-words.ensures
    c.place_behind-address.ensures in
    let row_below : row < length (names_of text) = omega (arith, row_inside, names_count text) in
    let name : get_or (names_of text) row hub ≡ c.name_at-name.result = name_of_row text row hub row_inside ∙ sym c.name_at-name.ensures in
    let end_is = located.next_end config text c.requires.whole c.words_of_row-words.result c.place_behind-address.result row c.words_of_row-words.ensures place_is in
    let later = located.ends_rise config text c.requires.whole (row + 1) (length text.rows) (omega (arith, row_inside)) in
    let count = next_is config.mutators (names_of text) c.requires.names row row_below c.loop-row.counts c.loop-row.invariant.counts c.name_at-name.result name c.requires.whole.in_order c.count_one-count.result c.count_one-count.ensures.hub c.count_one-count.ensures.count in
    let named : c.name_at-name.result ≡ (row_of text row).name = c.name_at-name.ensures in
    let code : c.name_word.result ≡ code_anew text row =
    c.name_word.ensures ∙ ap (name_code c.name_at-name.result.thread) count ∙ ap (λ (name : Name). name_code name.thread (earlier_names (names_of text) name + 1)) named in
    let name_written : memory_of c.set_word.new.self ≡ write (memory_of c.loop-row.image) (Heap (c.place_behind-address.result + 2)) c.name_word.result =
    stored (config_of c.loop-row.image) c.config-config.result (memory_of c.loop-row.image) (memory_of c.set_word.new.self) (Heap (c.place_behind-address.result + 2)) c.heap_at.result c.name_word.result
    (c.loop-row.invariant.config ∙ sym c.config-config.ensures)
    (name_word_inside config c.config-config.result text c.requires.whole c.requires.fits c.config-config.ensures row c.place_behind-address.result row_inside place_is) c.heap_at.ensures c.set_word.ensures.named in
    record {
      end = end_is;
      within = omega (arith, end_is, later, c.requires.fits);
      config = c.set_word.ensures.config ∙ c.loop-row.invariant.config;
      words = name_written ∙ ap (λ (memory : Word → ℕ). write memory (Heap (c.place_behind-address.result + 2)) c.name_word.result) c.loop-row.invariant.words
          ∙ names_more config text row (memory_of c.args.image.now) c.place_behind-address.result c.name_word.result place_is code;
      counts = counted_next config.mutators (names_of text) c.requires.names row row_below c.loop-row.counts c.loop-row.invariant.counts c.name_at-name.result name c.count_one-count.new.counts
          c.count_one-count.ensures.hub_counts c.count_one-count.ensures.counts;
    }

pub returns-clause-words : goal.returns-clause-words
returns-clause-words c =
    let config = config_of c.args.image.now in
    let text = c.args.text.now in
    let all_rows : c.loop-row.row ≡ length text.rows = omega (arith, c.loop-row-test.false, c.loop-row.auto.row-end, c.rows-row-end.ensures) in
    c.loop-row.invariant.words ∙ ap (λ (count : ℕ). names_written config text count (memory_of c.args.image.now)) all_rows

pub returns-clause-counts : goal.returns-clause-counts
returns-clause-counts c =
    let config = config_of c.args.image.now in
    let text = c.args.text.now in
    let all_rows : length (names_of text) ≤ c.loop-row.row = omega (arith, c.loop-row-test.false, c.loop-row.auto.row-end, c.rows-row-end.ensures, names_count text) in
    subst (λ (name_list : List Name). AreCountsOf name_list config.mutators c.loop-row.counts) (take_all c.loop-row.row (names_of text) all_rows) c.loop-row.invariant.counts
