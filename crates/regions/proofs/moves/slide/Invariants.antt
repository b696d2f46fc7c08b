use Rattle.std.proofs.Common.{◌≡◌, ◌+◌, length}
use Rattle.regions.specs.Slide.{IsSlidTo}
use Rattle.regions.specs.Table.{word_of, kept_of, from_table}
use Rattle.regions.proofs.moves.slide.Given as goal

abbrev pub invariant-loop-index : goal.invariant-loop-index
invariant-loop-index locals = record {
  words : length locals.heap ≡ length locals.fn.heap;
  slid : IsSlidTo (locals.region_words + locals.index) locals.region_words (word_of locals.region_words locals.places) (kept_of locals.region_words locals.fn.heap locals.marks) (from_table locals.region_words locals.places)
      (word_of locals.region_words locals.fn.heap) (word_of locals.region_words locals.heap);
}
