use Rattle.std.proofs.Common.{◌≡◌, ◌<◌, length, get_or, take, map, arith, ap, sym, ◌∙◌}
use Rattle.std.proofs.lemmas.List.{take_more, map-append, get_or-map, length-map}
use Rattle.heap_world.specs.Walk.{current_at, currents, with_address, with_addresses}
use Rattle.heap_world.proofs.TakenDown.{with_addresses-push}
use Rattle.heap_world.proofs.walk.take_each_down.Goals as goal

pub loop-word-preserved : goal.loop-word-preserved
loop-word-preserved c = record {
  marked = c.take_down.ensures.marked;
  room = c.take_down.ensures.room ∙ c.loop-word.invariant.room;
  flags = omega arith;
  taken = (
      let index = c.loop-word.word-index in
      let before = c.args.order.now.items in
      let words = c.args.words.now in
      let word = get_or words index 0 in
      let current = current_at c.args.first c.args.heap.now in
      let taken_more = take_more words index 0 (omega arith) in
      c.take_down.ensures.taken ∙ ap (with_address c.loop-word.order.items) c.current.ensures ∙ ap (λ address_list. with_address address_list (current word)) c.loop-word.invariant.taken
      ∙ sym (with_addresses-push before (currents c.args.first c.args.heap.now (take index words)) (current word))
      ∙ ap (with_addresses before) (sym (map-append current (take index words) _)) ∙ ap (λ address_list. with_addresses before (currents c.args.first c.args.heap.now address_list)) (sym taken_more));
}

pub take_down-requires-clause-among : goal.take_down-requires-clause-among
take_down-requires-clause-among c some_word =
    let index = c.loop-word.word-index in
    let words = c.args.words.now in
    let current = current_at c.args.first c.args.heap.now in
    let low : index < length words = omega arith in
    let current_word : c.current.result ≡ get_or (map current words) index 0 = c.current.ensures ∙ sym (get_or-map current words index 0 0 low) in
    let address_among = c.requires.among index 0 (omega (arith, low, length-map words current)) (λ null_word. some_word (current_word ∙ null_word)) in
    (omega (arith, current_word, address_among.0), omega (arith, current_word, address_among.1, c.loop-word.invariant.flags))
