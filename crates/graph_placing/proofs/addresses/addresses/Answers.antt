use Rattle.std.proofs.Common.{◌≡◌, ◌≤◌, ◌+◌, ◌*◌, [], ◌∷◌, ◌++◌, length, get_or, sym, ap, ◌∙◌, arith, below_more}
use Rattle.std.proofs.lemmas.List.{length-append, get_or_append_left, get_or_push}
use Rattle.std.proofs.lemmas.Nat.{mul-le}
use Rattle.graph_placing.specs.ByName.{address_of}
use Rattle.graph_placing.proofs.Located as located
use Rattle.graph_placing.proofs.addresses.addresses.Goals as goal

pub loop-row-init : goal.loop-row-init
loop-row-init c =
    let config = c.args.config in
    let enough_words : 1 * config.region_words ≤ (config.regions + 1) * config.region_words = mul-le 1 config.region_words (config.regions + 1) config.region_words (omega arith) (omega arith) in (
      c.region_words-region_words.ensures ∙ sym (located.first_end config c.args.text.now c.requires.whole),
      omega (arith, c.region_words-region_words.ensures, enough_words),
      ap length c.in-Ok.ensures.items,
      λ row row_below. absurd (omega (arith, row_below)),
    )

pub loop-row-preserved : goal.loop-row-preserved
loop-row-preserved c =
    let config = c.args.config in
    let text = c.args.text.now in
    let text_placeable = c.requires.whole in
    let row = c.loop-row.row in
    let loop_invariant = c.loop-row.invariant in
    let next_place_is = located.next_place config text text_placeable c.region_words-region_words.result c.loop-row.end c.words_of_row-words.result c.place_behind-address.result row c.region_words-region_words.ensures loop_invariant.0 c.words_of_row-words.ensures.value
    c.place_behind-address.ensures in
    let next_end_is = located.next_end config text text_placeable c.words_of_row-words.result c.place_behind-address.result row c.words_of_row-words.ensures.value next_place_is in
    let later = located.ends_rise config text text_placeable (row + 1) (length text.rows) (omega (arith, c.loop-row-test.true, c.rows-row-end.ensures)) in
    let items : c.push.new.self.items ≡ c.loop-row.addresses.items ++ c.place_behind-address.result ∷ [] = c.in-Ok-push.ensures.items in (
      next_end_is,
      omega (arith, next_end_is, later, c.requires.fits),
      ap length items ∙ length-append c.loop-row.addresses.items (c.place_behind-address.result ∷ []) ∙ ap (λ row_count. row_count + 1) loop_invariant.2,
      below_more (λ index. get_or c.push.new.self.items index 0 ≡ address_of config text index) row
          (λ index index_below.
          ap (λ xs. get_or xs index 0) items ∙ get_or_append_left c.loop-row.addresses.items (c.place_behind-address.result ∷ []) 0 index (omega (arith, index_below, loop_invariant.2)) ∙ loop_invariant.3 index index_below)
          (ap (λ xs. get_or xs row 0) items ∙ get_or_push c.loop-row.addresses.items c.place_behind-address.result 0 row loop_invariant.2 ∙ next_place_is),
    )
