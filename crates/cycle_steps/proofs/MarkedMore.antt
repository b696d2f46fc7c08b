-- What is marked is a word of the heap, and an object more that is marked.
use Rattle.std.proofs.Common.{◌≡◌, ◌≢◌, ℕ, ◌+◌, ◌*◌, ◌^◌, ◌<◌, ◌≤◌, true, false, ⊎_elim, sym, ap, ◌∙◌, subst, arith, w64}
use Rattle.std.specs.Prelude.{◌==◌, bit_or}
use Rattle.std.specs.Int.{bit_at}
use Rattle.std.proofs.lemmas.Bool.{cases_Bool, cond-true, cond-false, eqb-true}
use Rattle.std.proofs.lemmas.Bool.Decides.{nat_tests}
use Rattle.std.proofs.lemmas.Nat.{or_lt}
use Rattle.std.proofs.lemmas.Nat.Bits.{bit_at_set_other}
use Rattle.heap_words.specs.declared.config.Config.{Config}
use Rattle.heap_words.specs.Words.{Top, Heap, IsWord}
use Rattle.heap_words.specs.Encoding.{refs_in}
use Rattle.heap_words.proofs.Shapes.{refs_in-shape_word}
use Rattle.regions.specs.Marks.{mark_word, mark_bit, mark_mask, address_at, with_mark}
use Rattle.regions.proofs.MarksApart.{bit_below}
use Rattle.heap_world.specs.World.{thing, promised, Plot, IsMarkable, AreMarks, World, Shared}
use Rattle.heap_world.proofs.Pointing.{piece_inside}

-- an object with so many references and numbers, as its words say
pub record IsShaped (config : Config) (world : World) (address : ℕ) : Type 0 where
  pub refs : ℕ
  pub nums : ℕ
  pub few : refs ≤ 16
  pub says : refs_in (world.memory (Heap (address + 1))) ≡ refs
  pub above : config.region_words ≤ address
  pub below : address + (3 + refs + nums) ≤ (config.regions + 1) * config.region_words

-- what can be marked is such an object
pub markable_shape : (config : Config) (world : World) (address : ℕ) → Shared config world → IsMarkable world.block address → IsShaped config world address
markable_shape config world address shared (IsMarkable.object name refs nums piece_there) =
    let shape_there = (shared.contents.objects.each address refs nums name piece_there).2 in
    let piece_within = piece_inside config (λ region. world.memory (Top region)) world.block shared.parsable.plotted address (thing name refs nums) piece_there in
    record {
      refs = refs;
      nums = nums;
      few = shape_there.few_refs;
      says = ap refs_in shape_there.shape ∙ refs_in-shape_word refs nums shape_there.few_refs shape_there.few_nums;
      above = piece_within.0;
      below = piece_within.1;
    }
markable_shape config world address shared (IsMarkable.to_come seat words piece_there) =
    let blank = shared.unwritten.blanks address seat words piece_there in
    let piece_within = piece_inside config (λ region. world.memory (Top region)) world.block shared.parsable.plotted address (promised seat words) piece_there in
    record {
      refs = blank.refs;
      nums = blank.nums;
      few = blank.few_refs;
      says = ap refs_in blank.shape ∙ refs_in-shape_word blank.refs blank.nums blank.few_refs blank.few_nums;
      above = piece_within.0;
      below = (let blank_long = blank.long in omega (arith, blank_long, piece_within.1));
    }

-- so it lies in the heap
pub markable_word : (config : Config) (world : World) (address : ℕ) → Shared config world → IsMarkable world.block address → IsWord config (Heap address)
markable_word config world address shared markable = let shape = markable_shape config world address shared markable in (shape.above, omega (arith, shape.below))

-- one object more is marked
pub marks_with : (config : Config) (marks : ℕ → ℕ) (block : Plot) (address : ℕ) → IsWord config (Heap address) → IsMarkable block address → AreMarks config marks block → AreMarks config (with_mark config marks address) block
marks_with config marks block address heap markable are_marks = record { small = small; of_objects = of_objects }
  where
    small : (number : ℕ) → with_mark config marks address number < 2 ^ 64
    small number = ⊎_elim
        (λ (same_number : (mark_word config address == number) ≡ true).
        let mark_fits : bit_or (marks (mark_word config address)) (mark_mask config address) < 2 ^ 64 = or_lt 64 (marks (mark_word config address)) (mark_mask config address) (are_marks.small (mark_word config address)) (omega arith) in
        subst (λ x. x < 2 ^ 64) (sym (cond-true (mark_word config address == number) _ _ same_number)) mark_fits)
        (λ (other_number : (mark_word config address == number) ≡ false). subst (λ x. x < 2 ^ 64) (sym (cond-false (mark_word config address == number) _ _ other_number)) (are_marks.small number))
        (cases_Bool (mark_word config address == number))

    at_word : (number bit_index : ℕ) → bit_index < 64 → mark_word config address ≡ number → bit_at (bit_or (marks (mark_word config address)) (mark_mask config address)) bit_index ≡ 1 → IsMarkable block (address_at config number bit_index)
    at_word number bit_index bit_small word bit_set = ⊎_elim
        (λ (same_bit : (bit_index == mark_bit config address) ≡ true).
        let bit : bit_index ≡ mark_bit config address = eqb-true bit_index (mark_bit config address) same_bit in
        let same_address : address_at config number bit_index ≡ address = omega (arith, word, bit, heap.0) in
        subst (IsMarkable block) (sym same_address) markable)
        (λ (bits_differ : (bit_index == mark_bit config address) ≡ false).
        let bit : bit_index ≢ mark_bit config address = grind (arith, nat_tests) in
        are_marks.of_objects number bit_index bit_small (ap (λ x. bit_at (marks x) bit_index) (sym word) ∙ sym (bit_at_set_other w64 (marks (mark_word config address)) (mark_bit config address) (bit_below config address) bit_index bit) ∙ bit_set))
        (cases_Bool (bit_index == mark_bit config address))

    of_objects : (number bit : ℕ) → bit < 64 → bit_at (with_mark config marks address number) bit ≡ 1 → IsMarkable block (address_at config number bit)
    of_objects number bit small_bit bit_set = ⊎_elim
        (λ (same_number : (mark_word config address == number) ≡ true).
        at_word number bit small_bit (eqb-true (mark_word config address) number same_number) (ap (λ x. bit_at x bit) (sym (cond-true (mark_word config address == number) _ _ same_number)) ∙ bit_set))
        (λ (other_number : (mark_word config address == number) ≡ false).
        are_marks.of_objects number bit small_bit (ap (λ x. bit_at x bit) (sym (cond-false (mark_word config address == number) _ _ other_number)) ∙ bit_set))
        (cases_Bool (mark_word config address == number))
