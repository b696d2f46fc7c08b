use Rattle.std.proofs.Common.{◌≡◌, ◌≢◌, ℕ, ◌-◌, ◌<◌, sym, ap, ◌∙◌, subst, arith}
use Rattle.std.specs.Prelude.{nat_lt}
use Rattle.std.proofs.lemmas.Bool.{cond-true, cond-false, lt-ltb, le-ltb}
use Rattle.heap_words.specs.declared.config.Config.{Config}
use Rattle.heap_words.specs.Words.{Heap, IsWord, word_at, image_start}
use Rattle.heap_words.specs.Encoding.{next_in, end_in}
use Rattle.regions.proofs.PlaceLemmas.{regions_tile}
use Rattle.image_graph.specs.SeatBuffers.{buffer_region, IsInside}
use Rattle.collector_rows.specs.Extent.{heap_index}
use Rattle.control.specs.Starts.{IsHeapIndex}
use Rattle.control.proofs.Starting.{first_of_heap}
use Rattle.control.proofs.starts.start_of.Goals as goal

-- where a buffer has free words, the first of them is a word of the heap
first_is_word : (config : Config) (word : ℕ) → (word ≢ 0 → IsInside config word) → next_in word < end_in word → IsWord config (Heap (next_in word))
first_is_word config word inside some_free =
    let word_inside : IsInside config word = inside (λ no_word. let end : end_in word ≡ 0 = ap end_in no_word in omega (arith, some_free, end)) in
    regions_tile.in_heap config (buffer_region config word) (next_in word) word_inside.region (record { from = word_inside.from_base; before = (let to_end = word_inside.to_end in omega (arith, some_free, to_end)) })

pub heap_at-requires : goal.heap_at-requires
heap_at-requires c =
    let word = c.args.word in
    let next_read = c.next_of-next.ensures in
    let end = c.end_of-end.ensures in
    let some_free : next_in word < end_in word = omega (arith, c.if-next-end.true, next_read, end) in
    subst (λ address. IsWord c.args.config (Heap address)) (sym next_read) (first_is_word c.args.config word c.requires some_free)

pub returns-then-next-end-clause-value : goal.returns-then-next-end-clause-value
returns-then-next-end-clause-value c =
    let config = c.args.config in
    let word = c.args.word in
    let next_read = c.next_of-next.ensures in
    let end = c.end_of-end.ensures in
    let some_free : next_in word < end_in word = omega (arith, c.if-next-end.true, next_read, end) in
    let heap_place : c.heap_at.result ≡ word_at config (Heap (next_in word)) = c.heap_at.ensures ∙ ap (λ address. word_at config (Heap address)) next_read in
    ap (λ place. place - c.image_start.result) heap_place ∙ ap (λ place. word_at config (Heap (next_in word)) - place) c.image_start.ensures.value
    ∙ sym (cond-true (nat_lt (next_in word) (end_in word)) (word_at config (Heap (next_in word)) - image_start config) (heap_index config) (lt-ltb _ _ some_free))

pub returns-then-next-end-clause-heap : goal.returns-then-next-end-clause-heap
returns-then-next-end-clause-heap c =
    let config = c.args.config in
    let word = c.args.word in
    let next_read = c.next_of-next.ensures in
    let end = c.end_of-end.ensures in
    let some_free : next_in word < end_in word = omega (arith, c.if-next-end.true, next_read, end) in
    let first_word = first_is_word config word c.requires some_free in
    let heap_place : c.heap_at.result ≡ word_at config (Heap (next_in word)) = c.heap_at.ensures ∙ ap (λ address. word_at config (Heap address)) next_read in
    let start = c.image_start.ensures.value in
    (omega (arith, heap_place, start, first_word.0, first_word.1), omega (arith, heap_place, start, first_word.0, first_word.1))

pub returns-else-next-end-clause-value : goal.returns-else-next-end-clause-value
returns-else-next-end-clause-value c =
    let config = c.args.config in
    let word = c.args.word in
    let next_read = c.next_of-next.ensures in
    let end = c.end_of-end.ensures in
    c.heap_index.ensures ∙ sym (cond-false (nat_lt (next_in word) (end_in word)) (word_at config (Heap (next_in word)) - image_start config) (heap_index config) (le-ltb _ _ (omega (arith, c.if-next-end.false, next_read, end))))

pub returns-else-next-end-clause-heap : goal.returns-else-next-end-clause-heap
returns-else-next-end-clause-heap c = subst (IsHeapIndex c.args.config) (sym c.heap_index.ensures) (first_of_heap c.args.config)
