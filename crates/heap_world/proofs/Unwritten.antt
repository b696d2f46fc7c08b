-- Pieces that nobody writes to stay as they are while other words change.
use Rattle.std.proofs.Common.{◌≡◌, ℕ, ◌+◌, ◌<◌, Some, sym, ap, ◌∙◌, arith}
use Rattle.heap_words.specs.Encoding.{object_words}
use Rattle.heap_world.specs.World.{promised, dead, filler, Plot, IsBlank, AreUnwritten}

-- a new object is one where its words stay
pub blank_stays : (heap after : ℕ → ℕ) (address words : ℕ) → ((index : ℕ) → index < words → after (address + index) ≡ heap (address + index)) → IsBlank heap address words → IsBlank after address words
blank_stays heap after address words same_words blank = record {
  refs = blank.refs;
  nums = blank.nums;
  long = blank.long;
  few_refs = blank.few_refs;
  few_nums = blank.few_nums;
  header = (let same_address : address + 0 ≡ address = omega arith in ap after (sym same_address) ∙ same_words 0 (let long_enough = blank.long in omega (arith, long_enough)) ∙ ap heap same_address ∙ blank.header);
  shape = same_words 1 (let long_enough = blank.long in omega (arith, long_enough)) ∙ blank.shape;
  nulls = λ field index_below.
      let same_address : address + (3 + field) ≡ address + 3 + field = omega arith in
      ap after (sym same_address) ∙ same_words (3 + field) (let long_enough = blank.long in omega (arith, long_enough, index_below)) ∙ ap heap same_address ∙ blank.nulls field index_below;
}

-- so it is with all such pieces
pub unwritten_stays : (heap after : ℕ → ℕ) (plot other_plot : Plot)
    → ((address seat words : ℕ) → other_plot address ≡ Some (promised seat words) → (plot address ≡ Some (promised seat words)) × ((index : ℕ) → index < words → after (address + index) ≡ heap (address + index)))
    → ((address words : ℕ) → other_plot address ≡ Some (dead words) → (plot address ≡ Some (dead words)) × (after address ≡ heap address) × (after (address + 1) ≡ heap (address + 1)))
    → ((address words : ℕ) → other_plot address ≡ Some (filler words) → (plot address ≡ Some (filler words)) × (after address ≡ heap address))
    → AreUnwritten heap plot → AreUnwritten after other_plot
unwritten_stays heap after plot other_plot promises deads fillers unwritten = record {
  blanks = λ address seat words piece_there. let piece_before = promises address seat words piece_there in blank_stays heap after address words piece_before.1 (unwritten.blanks address seat words piece_before.0);
  headers = λ address words piece_there. let piece_before = deads address words piece_there in piece_before.1 ∙ unwritten.headers address words piece_before.0;
  lengths = λ address words piece_there. let piece_before = deads address words piece_there in ap object_words piece_before.2 ∙ unwritten.lengths address words piece_before.0;
  fillers = λ address words piece_there. let piece_before = fillers address words piece_there in piece_before.1 ∙ unwritten.fillers address words piece_before.0;
}
