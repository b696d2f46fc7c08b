use Rattle.std.proofs.Common.{◌+◌, length, sym, ap, ◌∙◌, subst}
use Rattle.regions.specs.Slide.{IsSlidTo}
use Rattle.regions.specs.Table.{kept_of, word_of, from_table}
use Rattle.regions.proofs.Moved.{entry_low, entry_down, entry_inside, entry_table, slid_at, slid_past}
use Rattle.regions.proofs.moves.slide.Goals as goal
use Rattle.regions.proofs.moves.slide.Goals.{then-marked, else-marked}

pub overflow_sub-to : goal.overflow_sub-to
overflow_sub-to c =
    entry_low c.args.region_words c.args.places.now c.args.marks.now c.args.heap.now c.requires.marked c.requires.places c.loop-index.index c.if-marked.true

pub slide_object-requires-clause-down : goal.slide_object-requires-clause-down
slide_object-requires-clause-down c =
    entry_down c.args.region_words c.args.places.now c.args.marks.now c.args.heap.now c.requires.marked c.requires.places c.loop-index.index c.if-marked.true

pub slide_object-requires-clause-inside : goal.slide_object-requires-clause-inside
slide_object-requires-clause-inside c =
    entry_inside c.args.region_words c.args.places.now c.args.marks.now c.args.heap.now c.requires.marked c.requires.places c.loop-index.heap c.loop-index.index c.if-marked.true
    c.loop-index.invariant.slid c.loop-index.invariant.words

pub slide_object-requires-clause-table : goal.slide_object-requires-clause-table
slide_object-requires-clause-table c =
    entry_table c.args.region_words c.args.places.now c.args.marks.now c.args.heap.now c.requires.marked c.requires.places c.loop-index.heap c.loop-index.index c.requires.closed c.if-marked.true
    c.loop-index.invariant.slid

pub loop-index-preserved : goal.loop-index-preserved
loop-index-preserved c =
    let words = c.args.region_words in
    let places = c.args.places.now in
    let marks = c.args.marks.now in
    let heap = c.args.heap.now in
    let before = c.loop-index.invariant in
    elim c.if-marked.branch [
      | then-marked w ↦
          record {
            words = ap length w.heap-is ∙ w.slide_object.auto.heap ∙ before.words;
            slid = subst (λ heap_words. IsSlidTo (words + (c.loop-index.index + 1)) words (word_of words places) (kept_of words heap marks) (from_table words places) (word_of words heap) (word_of words heap_words)) (sym w.heap-is)
                (slid_at words places marks heap c.requires.marked c.requires.places c.loop-index.heap w.slide_object.new.heap c.loop-index.index w.if-marked.true before.slid w.slide_object.ensures);
          }
      | else-marked w ↦
          record {
            words = ap length w.heap-is ∙ before.words;
            slid = subst (λ heap_words. IsSlidTo (words + (c.loop-index.index + 1)) words (word_of words places) (kept_of words heap marks) (from_table words places) (word_of words heap) (word_of words heap_words)) (sym w.heap-is)
                (slid_past words places marks heap c.requires.marked c.requires.places c.loop-index.heap c.loop-index.index w.if-marked.false before.slid);
          }
    ]
