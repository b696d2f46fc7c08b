-- Items on a line of the schedule, and lines one after the other.
use Rattle.shen_graph.proofs.Lists.{cons_injective}
use Rattle.std.proofs.Common.{◌≡◌, ℕ, ◌-◌, false, eqb, List, [], ◌∷◌, ◌++◌, length, take, drop, refl, sym, ap, subst, ◌∙◌, append_assoc, arith}
use Rattle.std.specs.List.{flat_map, AllByRecursion}
use Rattle.std.proofs.lemmas.List.{append-nil, take_all}
use Rattle.std.proofs.lemmas.Bool.Decides.{nat_tests}
use Rattle.std.proofs.lemmas.List.Concat.{flat_map-cons}
use Rattle.std.proofs.lemmas.Grind.{flat_map-append}
use Rattle.heap_words.specs.declared.config.Config.{Config}
use Rattle.heap_words.specs.declared.schedule.Item.{Item}
use Rattle.trace_reading.specs.Spelling.{item, spaced_item, items_and_end, schedule_line, IsItem, IsScheduleLine}
use Rattle.trace_reading.specs.Front.{NoDigit, IsLineEnd, BeginsWith, BeginsWithNone}
use Rattle.trace_reading.specs.Grammar.{items_of, HasScheduled}
use Rattle.trace_reading.proofs.Pieces.{HasBegun, ArePieces, all_taken, none_follows}

-- ---- one item

pub spaced : (config : Config) (bytes word rest : List ℕ) (read_item : Item) → bytes ≡ 32 ∷ word → BeginsWith item (IsItem config) word read_item rest → BeginsWith spaced_item (IsItem config) bytes read_item rest
spaced config bytes word rest read_item space_first read = record {
  good = read.good;
  spelled = space_first ∙ ap (λ (text : List ℕ). 32 ∷ text) read.spelled;
  only = λ other_item after valid_item no_digit same_text. read.only other_item after valid_item no_digit ((cons_injective 32 32 word (item other_item ++ after) (sym space_first ∙ same_text)).1);
}

-- ---- the items of a line

pub items_are_pieces : ArePieces spaced_item IsLineEnd
items_are_pieces = record { ends = ends; no_tail = λ any_item after at_end. absurd (omega (arith, at_end)) }
  where
    ends : (items : List Item) (tail : List ℕ) → IsLineEnd tail → NoDigit (flat_map spaced_item items ++ tail)
    ends [] [] at_end = absurd at_end
    ends [] (byte ∷ tail) at_end = rw at_end refl
    ends (first_item ∷ items) tail at_end = refl

pub with_end : (items : List Item) (after : List ℕ) → items_and_end items ++ after ≡ flat_map spaced_item items ++ 10 ∷ after
with_end items after = append_assoc (flat_map spaced_item items) (10 ∷ []) after

-- what is behind the end of the line
pub behind_end : (rest : List ℕ) → IsLineEnd rest → rest ≡ 10 ∷ take (length rest - 1) (drop 1 rest)
behind_end [] at_end = absurd at_end
behind_end (byte ∷ after) at_end = rw at_end (ap (λ (text : List ℕ). 10 ∷ text) (sym (all_of after)))
  where
    all_of : (xs : List ℕ) → take (length (byte ∷ xs) - 1) xs ≡ xs
    all_of xs = take_all (length (byte ∷ xs) - 1) xs (omega arith)

pub line_taken : (config : Config) (bytes rest after : List ℕ) (items : List Item) → HasBegun spaced_item (IsItem config) IsLineEnd bytes rest items → rest ≡ 10 ∷ after → BeginsWith items_and_end (AllByRecursion (IsItem config)) bytes items after
line_taken config bytes rest after items items_begun at_end = record {
  good = items_begun.good;
  spelled = items_begun.spelled ∙ ap (λ (text : List ℕ). flat_map spaced_item items ++ text) at_end ∙ sym (with_end items after);
  only = λ other_items tail valid_items no_digit same_text.
      let both_same = all_taken spaced_item (IsItem config) IsLineEnd bytes rest items items_are_pieces items_begun (subst IsLineEnd (sym at_end) refl) other_items (10 ∷ tail) valid_items refl (same_text ∙ with_end other_items tail) in
      (both_same.0, (cons_injective 10 10 after tail (sym at_end ∙ both_same.1)).1);
}

pub no_items : (config : Config) (bytes rest : List ℕ) (items : List Item) → HasBegun spaced_item (IsItem config) IsLineEnd bytes rest items → (IsLineEnd rest → ⊥) → BeginsWithNone spaced_item (IsItem config) rest
    → (other_items : List Item) (after : List ℕ) → AllByRecursion (IsItem config) other_items → bytes ≡ items_and_end other_items ++ after → ⊥
no_items config bytes rest items items_begun not_line_end no_item other_items after valid_items same_bytes =
    none_follows spaced_item (IsItem config) IsLineEnd bytes rest items items_are_pieces items_begun not_line_end no_item other_items (10 ∷ after) valid_items refl (same_bytes ∙ with_end other_items after)

-- ---- a whole line

-- a line without an item is none
pub empty_line : (config : Config) (bytes word : List ℕ) → bytes ≡ 33 ∷ word → IsLineEnd word → (items : List Item) (after : List ℕ) → IsScheduleLine config items → bytes ≡ schedule_line items ++ after → ⊥
empty_line config bytes word mark_first at_end [] after valid_line same_bytes = absurd (omega (arith, valid_line.some))
empty_line config bytes word mark_first at_end (first_item ∷ later_items) after valid_line line_there =
    let same_bytes : word ≡ items_and_end (first_item ∷ later_items) ++ after = (cons_injective 33 33 word (items_and_end (first_item ∷ later_items) ++ after) (sym mark_first ∙ line_there)).1 in
    absurd (omega (arith, subst IsLineEnd same_bytes at_end))

-- ---- all lines

abbrev pub IsEmpty : List ℕ → Type 0
IsEmpty bytes = bytes ≡ []

pub lines_are_pieces : ArePieces schedule_line IsEmpty
lines_are_pieces = record { ends = ends; no_tail = λ y after at_end. absurd cc }
  where
    ends : (turns : List (List Item)) (tail : List ℕ) → IsEmpty tail → NoDigit (flat_map schedule_line turns ++ tail)
    ends [] tail at_end = rw at_end tt
    ends (first_turn ∷ turns) tail at_end = refl

pub not_empty : (bytes : List ℕ) → eqb (length bytes) 0 ≡ false → IsEmpty bytes → ⊥
not_empty bytes some_bytes empty = let no_length : length bytes ≡ 0 = ap length empty in grind (arith, nat_tests)

pub scheduled : (config : Config) (bytes rest : List ℕ) (turns : List (List Item)) (before after : List Item) → HasBegun schedule_line (IsScheduleLine config) IsEmpty bytes rest turns → IsEmpty rest → after ≡ before ++ items_of turns → HasScheduled config bytes before after
scheduled config bytes rest turns before after turns_begun at_end items_added = record {
  turns = turns;
  in_range = turns_begun.good;
  spelled = turns_begun.spelled ∙ ap (λ (text : List ℕ). flat_map schedule_line turns ++ text) at_end ∙ append-nil (flat_map schedule_line turns);
  items = items_added;
}

-- the items of one line more
pub items_more : (before mid after : List Item) (turns : List (List Item)) (items : List Item) → mid ≡ before ++ items_of turns → after ≡ mid ++ items → after ≡ before ++ items_of (turns ++ items ∷ [])
items_more before mid after turns items mid_is after_is =
    after_is ∙ ap (λ (item_list : List Item). item_list ++ items) mid_is ∙ append_assoc before (items_of turns) items
    ∙ ap (λ (item_list : List Item). before ++ item_list) (sym (flat_map-append (λ (item_list : List Item). item_list) turns (items ∷ []) ∙ ap (λ (item_list : List Item). items_of turns ++ item_list) (flat_map-cons (λ (item_list : List Item). item_list) items [] ∙ append-nil items)))

pub item_more : (before mid after items : List Item) (next_item : Item) → mid ≡ before ++ items → after ≡ mid ++ next_item ∷ [] → after ≡ before ++ (items ++ next_item ∷ [])
item_more before mid after items next_item mid_is after_is = after_is ∙ ap (λ (item_list : List Item). item_list ++ next_item ∷ []) mid_is ∙ append_assoc before items (next_item ∷ [])
