use Rattle.std.proofs.Common.{arith, ◌≡◌, ℕ, ◌+◌, ◌-◌, ◌/◌, ◌<◌, true, if◌then◌else◌, length, get_or, sym, ap, ◌∙◌, subst, refl}
use Rattle.std.proofs.lemmas.Bool.{cond-false}
use Rattle.std.proofs.lemmas.List.{length-set}
use Rattle.regions.specs.Places.{is_shut, new_place}
use Rattle.regions.specs.Tops.{top_before}
use Rattle.regions.proofs.Placed.{end_of_none}
use Rattle.regions.proofs.Tops.{top_of_none}
use Rattle.regions.specs.Table.{kept_of, word_of}
use Rattle.regions.proofs.Flags.{kept_below}
use Rattle.regions.proofs.Assigned.{shape_inside, fits_behind, rows_fit, is_placed, end_marked, places_more, tops_marked, HaveTops, end_uncounted, tops_uncounted, stays_there, shut_counts, unmarked_counts, places_unmarked}
use Rattle.regions.proofs.places.assign.Goals as goal
use Rattle.regions.proofs.places.assign.Goals.{then-marked+then-is_shut, then-marked+else-is_shut, else-marked}

pub loop-index-init : goal.loop-index-init
loop-index-init c =
    let region_words = c.args.region_words in
    let shut = is_shut c.args.shut in
    let kept = kept_of region_words c.args.heap.now c.args.marks.now in
    let nothing_kept : (address : ℕ) → address < region_words + 0 → kept address ≡ 0 = λ address address_below. kept_below region_words c.args.heap.now c.args.marks.now address (omega (arith, address_below)) in
    record {
      table = refl;
      regions = c.clear_open.ensures.length;
      end = sym (end_of_none region_words shut kept (region_words + 0) nothing_kept);
      places = λ address address_below kept_words. absurd (omega (arith, nothing_kept address address_below, kept_words));
      tops = λ region address_below.
          c.clear_open.ensures.tops region (omega (arith, address_below, c.clear_open.ensures.length))
          ∙ ap (λ given_top. if shut (region + 1) then get_or c.args.tops.now region 0 else given_top) (sym (top_of_none region_words shut kept region (region_words + 0) nothing_kept));
    }

pub bounds-heap-index : goal.bounds-heap-index
bounds-heap-index c =
    shape_inside c.args.region_words (is_shut c.args.shut) c.args.heap.now c.args.marks.now (length c.args.tops.now) c.requires.marked c.requires.regions c.requires.few c.loop-index.index c.if-marked.true

pub place_around-place-requires-clause-fits : goal.place_around-place-requires-clause-fits
place_around-place-requires-clause-fits c =
    fits_behind c.args.region_words (is_shut c.args.shut) c.args.heap.now c.args.marks.now (length c.args.tops.now) c.requires.marked c.requires.regions c.requires.few
    c.loop-index.index c.loop-index.end c.words_of-words.result c.if-marked.true c.loop-index.invariant.end c.words_of-words.ensures

pub place_around-place-requires-clause-rows : goal.place_around-place-requires-clause-rows
place_around-place-requires-clause-rows c =
    rows_fit c.args.region_words (is_shut c.args.shut) c.args.heap.now c.args.marks.now (length c.args.tops.now) c.requires.marked c.requires.regions c.requires.few
    c.loop-index.index c.loop-index.end c.if-marked.true c.loop-index.invariant.end

pub overflow_sub-region : goal.overflow_sub-region
overflow_sub-region c =
    let placed = is_placed c.args.region_words (is_shut c.args.shut) c.args.heap.now c.args.marks.now (length c.args.tops.now) c.requires.marked c.requires.regions c.requires.few
    c.loop-index.index c.loop-index.end c.words_of-words.result c.place_around-place.result c.if-marked.true (sym c.is_shut.ensures ∙ c.if-is_shut.false)
    c.loop-index.invariant.end c.words_of-words.ensures c.place_around-place.ensures in
    placed.region_some

pub offset_bounds-tops-region : goal.offset_bounds-tops-region
offset_bounds-tops-region c =
    let placed = is_placed c.args.region_words (is_shut c.args.shut) c.args.heap.now c.args.marks.now (length c.args.tops.now) c.requires.marked c.requires.regions c.requires.few
    c.loop-index.index c.loop-index.end c.words_of-words.result c.place_around-place.result c.if-marked.true (sym c.is_shut.ensures ∙ c.if-is_shut.false)
    c.loop-index.invariant.end c.words_of-words.ensures c.place_around-place.ensures in
    omega (arith, placed.region_small)

pub bounds-tops-region-else-is_shut : goal.bounds-tops-region-else-is_shut
bounds-tops-region-else-is_shut c =
    let placed = is_placed c.args.region_words (is_shut c.args.shut) c.args.heap.now c.args.marks.now (length c.args.tops.now) c.requires.marked c.requires.regions c.requires.few
    c.loop-index.index c.loop-index.end c.words_of-words.result c.place_around-place.result c.if-marked.true (sym c.is_shut.ensures ∙ c.if-is_shut.false)
    c.loop-index.invariant.end c.words_of-words.ensures c.place_around-place.ensures in
    omega (arith, placed.region_within, c.loop-index.invariant.regions)

pub bounds-tops-region : goal.bounds-tops-region
bounds-tops-region c =
    let placed = is_placed c.args.region_words (is_shut c.args.shut) c.args.heap.now c.args.marks.now (length c.args.tops.now) c.requires.marked c.requires.regions c.requires.few
    c.loop-index.index c.loop-index.end c.words_of-words.result c.place_around-place.result c.if-marked.true (sym c.is_shut.ensures ∙ c.if-is_shut.false)
    c.loop-index.invariant.end c.words_of-words.ensures c.place_around-place.ensures in
    omega (arith, placed.region_within, c.loop-index.invariant.regions)

pub overflow_add-tops : goal.overflow_add-tops
overflow_add-tops c =
    let placed = is_placed c.args.region_words (is_shut c.args.shut) c.args.heap.now c.args.marks.now (length c.args.tops.now) c.requires.marked c.requires.regions c.requires.few
    c.loop-index.index c.loop-index.end c.words_of-words.result c.place_around-place.result c.if-marked.true (sym c.is_shut.ensures ∙ c.if-is_shut.false)
    c.loop-index.invariant.end c.words_of-words.ensures c.place_around-place.ensures in
    let new_region = c.place_around-place.result / c.args.region_words - 1 in
    let top = c.loop-index.invariant.tops new_region (omega (arith, placed.region_within, c.loop-index.invariant.regions)) in
    let old = cond-false (is_shut c.args.shut (new_region + 1)) (get_or c.args.tops.now new_region 0) (top_before c.args.region_words (is_shut c.args.shut) (kept_of c.args.region_words c.args.heap.now c.args.marks.now) new_region (c.args.region_words + c.loop-index.index)) placed.region_open in
    omega (arith, placed.room, top, old, c.requires.marked.small)

pub overflow_add-end : goal.overflow_add-end
overflow_add-end c =
    let placed = is_placed c.args.region_words (is_shut c.args.shut) c.args.heap.now c.args.marks.now (length c.args.tops.now) c.requires.marked c.requires.regions c.requires.few
    c.loop-index.index c.loop-index.end c.words_of-words.result c.place_around-place.result c.if-marked.true (sym c.is_shut.ensures ∙ c.if-is_shut.false)
    c.loop-index.invariant.end c.words_of-words.ensures c.place_around-place.ensures in
    omega (arith, placed.high, c.requires.marked.small)

pub loop-index-preserved : goal.loop-index-preserved
loop-index-preserved c =
    let index = c.loop-index.index in
    let words = c.args.region_words in
    let shut = is_shut c.args.shut in
    let heap = c.args.heap.now in
    let marks = c.args.marks.now in
    let old = c.args.tops.now in
    let regions = length old in
    let kept : ℕ → ℕ = kept_of words heap marks in
    let before = c.loop-index.invariant in
    let marked = c.requires.marked in
    let tile = c.requires.regions in
    let few = c.requires.few in
    let inside : index < length c.loop-index.places = omega (arith, before.table, c.requires.table, marked.flags, c.loop-index-test.true) in
    elim c.if-marked.branch [
      | then-marked+then-is_shut w ↦
          (let closed : shut ((words + index) / words) ≡ true = sym w.is_shut.ensures ∙ w.if-is_shut.true in
          let nothing_kept = shut_counts words shut heap marks regions marked tile few index closed in
          record {
            table = ap length w.places-is ∙ length-set c.loop-index.places index (words + index) ∙ before.table;
            regions = ap length w.tops-is ∙ before.regions;
            end = w.end-is ∙ end_uncounted words shut heap marks regions marked tile few index c.loop-index.end nothing_kept before.end;
            places = subst (λ new_places. (address : ℕ) → address < words + (index + 1) → 0 < kept address → word_of words new_places address ≡ new_place words shut kept address) (sym w.places-is)
                (places_more words shut heap marks regions marked tile few index (words + index) c.loop-index.places (stays_there words shut heap marks regions marked tile few index closed) inside before.places);
            tops = subst (λ new_places. HaveTops words shut heap marks regions marked tile few old new_places (words + (index + 1))) (sym w.tops-is)
                (tops_uncounted words shut heap marks regions marked tile few index old c.loop-index.tops nothing_kept before.tops);
          })
      | then-marked+else-is_shut w ↦
          (let placed = is_placed words shut heap marks regions marked tile few index c.loop-index.end w.words_of-words.result w.place_around-place.result w.if-marked.true
          (sym w.is_shut.ensures ∙ w.if-is_shut.false) before.end w.words_of-words.ensures w.place_around-place.ensures in
          let place = w.place_around-place.result in
          let size = w.words_of-words.result in
          record {
            table = ap length w.places-is ∙ length-set c.loop-index.places index place ∙ before.table;
            regions = ap length w.tops-is ∙ length-set c.loop-index.tops (place / words - 1) (get_or c.loop-index.tops (place / words - 1) 0 + size) ∙ before.regions;
            end = w.end-is ∙ end_marked words shut heap marks regions marked tile few index size place placed;
            places = subst (λ new_places. (address : ℕ) → address < words + (index + 1) → 0 < kept address → word_of words new_places address ≡ new_place words shut kept address) (sym w.places-is)
                (places_more words shut heap marks regions marked tile few index place c.loop-index.places placed.place_is inside before.places);
            tops = subst (λ new_places. HaveTops words shut heap marks regions marked tile few old new_places (words + (index + 1))) (sym w.tops-is)
                (tops_marked words shut heap marks regions marked tile few index size place old c.loop-index.tops placed before.regions before.tops);
          })
      | else-marked w ↦
          (let nothing_kept = unmarked_counts words shut heap marks regions marked tile few index w.if-marked.false in
          record {
            table = ap length w.places-is ∙ before.table;
            regions = ap length w.tops-is ∙ before.regions;
            end = w.end-is ∙ end_uncounted words shut heap marks regions marked tile few index c.loop-index.end nothing_kept before.end;
            places = subst (λ new_places. (address : ℕ) → address < words + (index + 1) → 0 < kept address → word_of words new_places address ≡ new_place words shut kept address) (sym w.places-is)
                (places_unmarked words shut heap marks regions marked tile few index c.loop-index.places w.if-marked.false before.places);
            tops = subst (λ new_places. HaveTops words shut heap marks regions marked tile few old new_places (words + (index + 1))) (sym w.tops-is)
                (tops_uncounted words shut heap marks regions marked tile few index old c.loop-index.tops nothing_kept before.tops);
          })
    ]
