-- Rows that lie in memory: what a longer list leaves as it was, and how the last row grows.
use Rattle.std.proofs.Common.{ℕ, suc, add-zero, ◌≡◌, ◌+◌, ◌-◌, ◌<◌, ◌≤◌, List, [], ◌∷◌, ◌++◌, map, length, drop, get_or, refl, sym, ap, ◌∙◌, subst, arith, length-append, length-drop, set}
use Rattle.std.specs.Prelude.{sum_by, All}
use Rattle.std.proofs.lemmas.List.{length-take-le, map_push, take_all, take-append-le, drop-append-le, drop_at}
use Rattle.std.proofs.lemmas.List.Elements.{All-nil, All-cons, All-head, All-tail, All-weaker, All-push}
use Rattle.std.proofs.lemmas.List.Sums.{sum_by_push, sum_by-cons}
use Rattle.shen_graph.specs.declared.graph_text.Span.{Span}
use Rattle.shen_graph.specs.declared.graph_text.Place.{Place}
use Rattle.shen_graph.specs.Graph.{Reference}
use Rattle.shen_graph.specs.GraphText.{Row, change_last, add_reference, add_number}
use Rattle.shen_graph.specs.TextLayout.{part, row_at, span_length, Within, EndsAt, IsLaid}

-- what comes after its end changes no part
pub part-append : {A : Type 0} (xs ys : List A) (span : Span) → span.from ≤ span.to → span.to ≤ length xs → part (xs ++ ys) span ≡ part xs span
part-append xs ys span ordered within =
    let start : span.from ≤ length xs = omega arith in
    let short : span.to - span.from ≤ length (drop span.from xs) = omega (arith, length-drop span.from xs) in
    rw (drop-append-le span.from xs ys start) (take-append-le (span.to - span.from) (drop span.from xs) ys short)

pub length-part : {A : Type 0} (xs : List A) (span : Span) → span.from ≤ span.to → span.to ≤ length xs → length (part xs span) ≡ span_length span
length-part xs span ordered within = length-take-le (span.to - span.from) (drop span.from xs) (omega (arith, length-drop span.from xs))

-- a part that ends where the list ends is all that is left there
pub part_to_end : {A : Type 0} (xs : List A) (span : Span) → length xs ≤ span.to → part xs span ≡ drop span.from xs
part_to_end xs span past_end = take_all (span.to - span.from) (drop span.from xs) (omega (arith, length-drop span.from xs))

-- one element more at the end of a list, and of a part that ends there
abbrev pub longer : Span → Span
longer span = record { from = span.from; to = span.to + 1 }

pub part-push : {A : Type 0} (xs : List A) (x : A) (span : Span) → span.from ≤ span.to → span.to ≡ length xs → part (xs ++ x ∷ []) (longer span) ≡ part xs span ++ x ∷ []
part-push xs x span ordered ends =
    let past_end : length (xs ++ x ∷ []) ≤ span.to + 1 = omega (arith, length-append xs (x ∷ [])) in
    let start : span.from ≤ length xs = omega arith in
    part_to_end (xs ++ x ∷ []) (longer span) past_end ∙ drop-append-le span.from xs (x ∷ []) start ∙ ap (λ values. values ++ x ∷ []) (sym (part_to_end xs span (omega arith)))

-- what was put at the end
pub part_appended : {A : Type 0} (xs ys : List A) (span : Span) → span.from ≡ length xs → span.to ≡ length xs + length ys → part (xs ++ ys) span ≡ ys
part_appended xs ys span begins ends =
    part_to_end (xs ++ ys) span (omega (arith, length-append xs ys)) ∙ drop_at xs ys span.from (sym begins)

-- rows are as before where both lists grow at their ends
pub row_at-append : (refs added_refs : List Reference) (nums added_nums : List ℕ) (place : Place) → Within (length refs) (length nums) place → row_at (refs ++ added_refs) (nums ++ added_nums) place ≡ row_at refs nums place
row_at-append refs added_refs nums added_nums place within =
    let same_refs = part-append refs added_refs place.refs within.0 within.1 in
    let same_nums = part-append nums added_nums place.nums within.2 within.3 in
    rw (same_refs, same_nums) refl

pub rows-append : (refs added_refs : List Reference) (nums added_nums : List ℕ) (places : List Place) → All (Within (length refs) (length nums)) places → map (row_at (refs ++ added_refs) (nums ++ added_nums)) places ≡ map (row_at refs nums) places
rows-append refs added_refs nums added_nums [] all_within = refl
rows-append refs added_refs nums added_nums (place ∷ places) all_within =
    let same_row = row_at-append refs added_refs nums added_nums place (All-head (Within (length refs) (length nums)) place places all_within) in
    let rest = rows-append refs added_refs nums added_nums places (All-tail (Within (length refs) (length nums)) place places all_within) in
    cc

-- a write of the last element
pub set_last : {A : Type 0} (f : A → A) (xs : List A) (default : A) → 0 < length xs → set xs (length xs - 1) (f (get_or xs (length xs - 1) default)) ≡ change_last f xs
set_last f [] default positive = absurd (omega arith)
set_last f (x ∷ []) default positive = refl
set_last f (x ∷ y ∷ xs) default positive =
    let last_index : length (x ∷ y ∷ xs) - 1 ≡ suc (length (y ∷ xs) - 1) = omega arith in
    subst (λ (index : ℕ). set (x ∷ y ∷ xs) index (f (get_or (x ∷ y ∷ xs) index default)) ≡ change_last f (x ∷ y ∷ xs)) (sym last_index) (ap (λ values. x ∷ values) (set_last f (y ∷ xs) default (omega arith)))

-- the place of a row that grows by a reference, and by a number
abbrev pub grow_refs : Place → Place
grow_refs place = record { name = place.name; refs = longer place.refs; nums = place.nums }

abbrev pub grow_nums : Place → Place
grow_nums place = record { name = place.name; refs = place.refs; nums = longer place.nums }

-- the rows where the last one grows
pub rows-grow : (grow : Place → Place) (grow_row : Row → Row) (old_row new_row : Place → Row) (refs nums : ℕ)
    → ((place : Place) → Within refs nums place → new_row place ≡ old_row place)
    → ((place : Place) → Within refs nums place → place.refs.to ≡ refs → place.nums.to ≡ nums → new_row (grow place) ≡ grow_row (old_row place))
    → (places : List Place) → All (Within refs nums) places → EndsAt refs nums places → map new_row (change_last grow places) ≡ change_last grow_row (map old_row places)
rows-grow grow grow_row old_row new_row refs nums same_row last_row [] all_within ends_at = refl
rows-grow grow grow_row old_row new_row refs nums same_row last_row (place ∷ []) all_within ends_at =
    ap (λ x. x ∷ []) (last_row place (All-head (Within refs nums) place [] all_within) ends_at.0 ends_at.1)
rows-grow grow grow_row old_row new_row refs nums same_row last_row (place ∷ next_place ∷ places) all_within ends_at =
    let first_row = same_row place (All-head (Within refs nums) place (next_place ∷ places) all_within) in
    let rest = rows-grow grow grow_row old_row new_row refs nums same_row last_row (next_place ∷ places) (All-tail (Within refs nums) place (next_place ∷ places) all_within) ends_at in
    cc

pub rows-grow_refs : (refs : List Reference) (nums : List ℕ) (added_reference : Reference) (places : List Place) → IsLaid places (length refs) (length nums)
    → map (row_at (refs ++ added_reference ∷ []) nums) (change_last grow_refs places) ≡ change_last (add_reference added_reference) (map (row_at refs nums) places)
rows-grow_refs refs nums added_reference places laid =
    rows-grow grow_refs (add_reference added_reference) (row_at refs nums) (row_at (refs ++ added_reference ∷ []) nums) (length refs) (length nums)
    (λ place within. ap (λ part_refs. record { name = place.name; refs = part_refs; nums = part nums place.nums }) (part-append refs (added_reference ∷ []) place.refs within.0 within.1))
    (λ place within refs_end nums_end. ap (λ part_refs. record { name = place.name; refs = part_refs; nums = part nums place.nums }) (part-push refs added_reference place.refs within.0 refs_end))
    places laid.within laid.ends

pub rows-grow_nums : (refs : List Reference) (nums : List ℕ) (value : ℕ) (places : List Place) → IsLaid places (length refs) (length nums)
    → map (row_at refs (nums ++ value ∷ [])) (change_last grow_nums places) ≡ change_last (add_number value) (map (row_at refs nums) places)
rows-grow_nums refs nums value places laid =
    rows-grow grow_nums (add_number value) (row_at refs nums) (row_at refs (nums ++ value ∷ [])) (length refs) (length nums)
    (λ place within. ap (λ part_nums. record { name = place.name; refs = part refs place.refs; nums = part_nums }) (part-append nums (value ∷ []) place.nums within.2 within.3))
    (λ place within refs_end nums_end. ap (λ part_nums. record { name = place.name; refs = part refs place.refs; nums = part_nums }) (part-push nums value place.nums within.2 nums_end))
    places laid.within laid.ends

-- a row more, which begins where the others end
pub EndsAt-push : (places : List Place) (place : Place) → EndsAt place.refs.to place.nums.to (places ++ place ∷ [])
EndsAt-push [] place = (refl, refl)
EndsAt-push (only_place ∷ []) place = (refl, refl)
EndsAt-push (first_place ∷ second_place ∷ places) place = EndsAt-push (second_place ∷ places) place

pub Within-longer : (old_refs new_refs old_nums new_nums : ℕ) → old_refs ≤ new_refs → old_nums ≤ new_nums → (place : Place) → Within old_refs old_nums place → Within new_refs new_nums place
Within-longer old_refs new_refs old_nums new_nums refs_grow nums_grow place within = (within.0, omega arith, within.2, omega arith)

pub IsLaid-push : (places : List Place) (refs nums : ℕ) (place : Place) → IsLaid places refs nums → place.refs.from ≡ refs → place.nums.from ≡ nums → refs ≤ place.refs.to → nums ≤ place.nums.to → IsLaid (places ++ place ∷ []) place.refs.to place.nums.to
IsLaid-push places r n place laid refs nums refs_grow nums_grow = record {
  within = All-push (Within place.refs.to place.nums.to) places place
      (All-weaker (Within r n) (Within place.refs.to place.nums.to) (Within-longer r place.refs.to n place.nums.to refs_grow nums_grow) places laid.within)
      (omega arith, omega arith, omega arith, omega arith);
  ends = EndsAt-push places place;
  fills_refs = sum_by_push (λ place. span_length place.refs) places place ∙ omega (arith, laid.fills_refs);
  fills_nums = sum_by_push (λ place. span_length place.nums) places place ∙ omega (arith, laid.fills_nums);
}

-- the last row grows by so many references and numbers
pub IsLaid-grow : (grow : Place → Place) (added_refs added_nums : ℕ)
    → ((place : Place) → ((grow place).refs.from ≡ place.refs.from) × ((grow place).refs.to ≡ place.refs.to + added_refs) × ((grow place).nums.from ≡ place.nums.from) × ((grow place).nums.to ≡ place.nums.to + added_nums))
    → (places : List Place) (refs nums : ℕ) → 0 < length places → IsLaid places refs nums → IsLaid (change_last grow places) (refs + added_refs) (nums + added_nums)
IsLaid-grow grow added_refs added_nums grows all_places refs nums positive laid = record {
  within = within all_places laid.within;
  ends = ends all_places laid.ends;
  fills_refs = sums (λ place. span_length place.refs) added_refs (λ place fits. let place_grown = grows place in omega arith) all_places positive laid.within ∙ ap (λ total. total + added_refs) laid.fills_refs;
  fills_nums = sums (λ place. span_length place.nums) added_nums (λ place fits. let place_grown = grows place in omega arith) all_places positive laid.within ∙ ap (λ total. total + added_nums) laid.fills_nums;
} where
  within : (places : List Place) → All (Within refs nums) places → All (Within (refs + added_refs) (nums + added_nums)) (change_last grow places)
  within [] laid = All-nil (Within (refs + added_refs) (nums + added_nums))
  within (place ∷ []) laid =
      let place_within = All-head (Within refs nums) place [] laid in
      let grown_place = grows place in
      All-cons (Within (refs + added_refs) (nums + added_nums)) (grow place) [] (omega arith, omega arith, omega arith, omega arith) (All-nil (Within (refs + added_refs) (nums + added_nums)))
  within (place ∷ next_place ∷ places) laid =
      let place_within = All-head (Within refs nums) place (next_place ∷ places) laid in
      All-cons (Within (refs + added_refs) (nums + added_nums)) place (change_last grow (next_place ∷ places)) (place_within.0, omega arith, place_within.2, omega arith) (within (next_place ∷ places) (All-tail (Within refs nums) place (next_place ∷ places) laid))

  ends : (places : List Place) → EndsAt refs nums places → EndsAt (refs + added_refs) (nums + added_nums) (change_last grow places)
  ends [] ends_there = tt
  ends (place ∷ []) ends_there = let grown_place = grows place in (omega (arith, ends_there.0), omega (arith, ends_there.1))
  ends (place ∷ next_place ∷ []) ends_there = let grown_place = grows next_place in (omega (arith, ends_there.0), omega (arith, ends_there.1))
  ends (place ∷ next_place ∷ later_place ∷ places) ends_there = ends (next_place ∷ later_place ∷ places) ends_there

  sums : (size : Place → ℕ) (added : ℕ) → ((place : Place) → Within refs nums place → size (grow place) ≡ size place + added) → (places : List Place) → 0 < length places → All (Within refs nums) places → sum_by size (change_last grow places) ≡ sum_by size places + added
  sums size added size_grows [] positive laid = absurd (omega arith)
  sums size added size_grows (place ∷ []) positive laid = omega (arith, size_grows place (All-head (Within refs nums) place [] laid))
  sums size added size_grows (place ∷ next_place ∷ places) positive laid =
      omega (arith, sums size added size_grows (next_place ∷ places) (omega arith) (All-tail (Within refs nums) place (next_place ∷ places) laid), sum_by-cons size place (change_last grow (next_place ∷ places)), sum_by-cons size place (next_place ∷ places))

pub IsLaid-grow_refs : (places : List Place) (refs nums : ℕ) → 0 < length places → IsLaid places refs nums → IsLaid (change_last grow_refs places) (refs + 1) nums
IsLaid-grow_refs places refs nums positive laid =
    subst (λ (nums : ℕ). IsLaid (change_last grow_refs places) (refs + 1) nums) (add-zero nums)
    (IsLaid-grow grow_refs 1 0 (λ place. (refl, refl, refl, omega arith)) places refs nums positive laid)

pub IsLaid-grow_nums : (places : List Place) (refs nums : ℕ) → 0 < length places → IsLaid places refs nums → IsLaid (change_last grow_nums places) refs (nums + 1)
IsLaid-grow_nums places refs nums positive laid =
    subst (λ (refs : ℕ). IsLaid (change_last grow_nums places) refs (nums + 1)) (add-zero refs)
    (IsLaid-grow grow_nums 0 1 (λ place. (refl, omega arith, refl, refl)) places refs nums positive laid)

-- a write of the last element, as it was read
pub set_last_read : {A : Type 0} (f : A → A) (xs : List A) (count : ℕ) (x : A) → 0 < length xs → count ≡ length xs → x ≡ get_or xs (count - 1) x → set xs (count - 1) (f x) ≡ change_last f xs
set_last_read f xs count x positive count_is_length read =
    let same_read : get_or xs (count - 1) x ≡ get_or xs (length xs - 1) x = ap (λ size. get_or xs (size - 1) x) count_is_length in
    let last_set = set_last f xs x positive in
    let same_value : f x ≡ f (get_or xs (length xs - 1) x) = ap f (read ∙ same_read) in
    ap (λ size. set xs (size - 1) (f x)) count_is_length ∙ ap (λ y. set xs (length xs - 1) y) same_value ∙ last_set

-- a row's fields go to the ends of two other lists
pub row_carried : (refs : List Reference) (nums : List ℕ) (moved_refs : List Reference) (moved_nums : List ℕ) (place moved_place : Place)
    → moved_place.name ≡ place.name → moved_place.refs ≡ record { from = length moved_refs; to = length moved_refs + span_length place.refs } → moved_place.nums ≡ record { from = length moved_nums; to = length moved_nums + span_length place.nums }
    → Within (length refs) (length nums) place → row_at (moved_refs ++ part refs place.refs) (moved_nums ++ part nums place.nums) moved_place ≡ row_at refs nums place
row_carried refs nums moved_refs moved_nums place moved_place name to_refs to_nums within =
    let same_refs = part_appended moved_refs (part refs place.refs) moved_place.refs (ap (λ span. span.from) to_refs) (ap (λ span. span.to) to_refs ∙ ap (λ part_length. length moved_refs + part_length) (sym (length-part refs place.refs within.0 within.1))) in
    let same_nums = part_appended moved_nums (part nums place.nums) moved_place.nums (ap (λ span. span.from) to_nums) (ap (λ span. span.to) to_nums ∙ ap (λ part_length. length moved_nums + part_length) (sym (length-part nums place.nums within.2 within.3))) in
    rw (name, same_refs, same_nums) refl

-- one row more was moved
pub rows-carried : (refs : List Reference) (nums : List ℕ) (moved_refs : List Reference) (moved_nums : List ℕ) (moved_places : List Place) (rows : List Row) (place moved_place : Place)
    → moved_place.name ≡ place.name → moved_place.refs ≡ record { from = length moved_refs; to = length moved_refs + span_length place.refs } → moved_place.nums ≡ record { from = length moved_nums; to = length moved_nums + span_length place.nums }
    → Within (length refs) (length nums) place → IsLaid moved_places (length moved_refs) (length moved_nums) → map (row_at moved_refs moved_nums) moved_places ≡ rows
    → map (row_at (moved_refs ++ part refs place.refs) (moved_nums ++ part nums place.nums)) (moved_places ++ moved_place ∷ []) ≡ rows ++ row_at refs nums place ∷ []
rows-carried refs nums moved_refs moved_nums moved_places rows place moved_place name to_refs to_nums within laid same_rows =
    let last_row = row_carried refs nums moved_refs moved_nums place moved_place name to_refs to_nums within in
    let others = rows-append moved_refs (part refs place.refs) moved_nums (part nums place.nums) moved_places laid.within in
    map_push (row_at (moved_refs ++ part refs place.refs) (moved_nums ++ part nums place.nums)) moved_places moved_place ∙ rw (others, last_row, same_rows) refl

-- a row has the name of its place
pub names-rows : (refs : List Reference) (nums : List ℕ) (places : List Place) → map (λ (row : Row). row.name) (map (row_at refs nums) places) ≡ map (λ (place : Place). place.name) places
names-rows refs nums [] = refl
names-rows refs nums (place ∷ rest) = ap (λ names. place.name ∷ names) (names-rows refs nums rest)
