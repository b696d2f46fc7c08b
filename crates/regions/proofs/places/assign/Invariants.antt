use Rattle.std.proofs.Common.{◌≡◌, ℕ, ◌+◌, ◌<◌, if◌then◌else◌, length, slice_index}
use Rattle.regions.specs.Places.{is_shut, end_before, new_place}
use Rattle.regions.specs.Tops.{top_before}
use Rattle.regions.specs.Table.{kept_of, word_of}
use Rattle.regions.proofs.places.assign.Given as goal

abbrev pub invariant-loop-index : goal.invariant-loop-index
invariant-loop-index locals = record {
  table : length locals.places ≡ length locals.fn.places;
  regions : length locals.tops ≡ length locals.fn.tops;
  end : locals.end ≡ end_before locals.region_words (is_shut locals.shut) (kept_of locals.region_words locals.heap locals.marks) (locals.region_words + locals.index);
  places : (address : ℕ) → address < locals.region_words + locals.index → 0 < kept_of locals.region_words locals.heap locals.marks address
      → word_of locals.region_words locals.places address ≡ new_place locals.region_words (is_shut locals.shut) (kept_of locals.region_words locals.heap locals.marks) address;
  tops : (index : ℕ) → index < length locals.tops → slice_index locals.tops index
      ≡ (if is_shut locals.shut (index + 1) then slice_index locals.fn.tops index else top_before locals.region_words (is_shut locals.shut) (kept_of locals.region_words locals.heap locals.marks) index (locals.region_words + locals.index));
}
