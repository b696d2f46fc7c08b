use Rattle.std.proofs.Common.{◌≡◌, ◌≤◌, ◌+◌, ◌*◌, ℕ, length, sym, ap, ◌∙◌, arith}
use Rattle.std.proofs.lemmas.Bool.{false≢true}
use Rattle.std.proofs.lemmas.Nat.{mul-le}
use Rattle.graph_placing.proofs.Located as located
use Rattle.graph_placing.proofs.addresses.fits.Goals as goal

pub loop-row-init : goal.loop-row-init
loop-row-init c =
    let config = c.args.config in
    let enough_words : 1 * config.region_words ≤ (config.regions + 1) * config.region_words = mul-le 1 config.region_words (config.regions + 1) config.region_words (omega arith) (omega arith) in
    (c.region_words-region_words.ensures ∙ sym (located.first_end config c.args.text.now c.requires), omega (arith, c.region_words-region_words.ensures, enough_words))

pub returns-then-end-last : goal.returns-then-end-last
returns-then-end-last c = (
  λ is_false. absurd (false≢true is_false),
  λ all_fit.
      let config = c.args.config in
      let text = c.args.text.now in
      let row = c.loop-row.row in
      let next_place_is = located.next_place config text c.requires c.region_words-region_words.result c.loop-row.end c.words_of_row-words.result c.place_behind.result row c.region_words-region_words.ensures c.loop-row.invariant.0 c.words_of_row-words.ensures.value
      c.place_behind.ensures in
      let next_end_is = located.next_end config text c.requires c.words_of_row-words.result c.place_behind.result row c.words_of_row-words.ensures.value next_place_is in
      let later = located.ends_rise config text c.requires (row + 1) (length text.rows) (omega (arith, c.loop-row-test.true, c.rows-row-end.ensures)) in
      let same_words : (c.regions.result + 1) * c.region_words-region_words.result ≡ (config.regions + 1) * config.region_words =
      ap (λ (region : ℕ). (region + 1) * c.region_words-region_words.result) c.regions.ensures ∙ ap (λ (any_words : ℕ). (config.regions + 1) * any_words) c.region_words-region_words.ensures in
      absurd (omega (arith, next_end_is, later, all_fit, c.if-end-last.true, same_words)),
)

pub loop-row-preserved : goal.loop-row-preserved
loop-row-preserved c =
    let config = c.args.config in
    let text = c.args.text.now in
    let row = c.loop-row.row in
    let next_place_is = located.next_place config text c.requires c.region_words-region_words.result c.loop-row.end c.words_of_row-words.result c.place_behind.result row c.region_words-region_words.ensures c.loop-row.invariant.0 c.words_of_row-words.ensures.value
    c.place_behind.ensures in
    let same_words : (c.regions.result + 1) * c.region_words-region_words.result ≡ (config.regions + 1) * config.region_words =
    ap (λ (region : ℕ). (region + 1) * c.region_words-region_words.result) c.regions.ensures ∙ ap (λ (any_words : ℕ). (config.regions + 1) * any_words) c.region_words-region_words.ensures in
    (located.next_end config text c.requires c.words_of_row-words.result c.place_behind.result row c.words_of_row-words.ensures.value next_place_is, omega (arith, c.if-end-last.false, same_words))
