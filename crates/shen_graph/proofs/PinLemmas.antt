-- When an object may be pinned at a place, by what pin slots hold.
use Rattle.std.proofs.Common.{ℕ, ◌≡◌, ◌+◌, ◌*◌, ◌<◌, ◌≤◌, Bool, true, false, List, [], ◌∷◌, length, get_or, suc, Option, Some, None, refl, sym, ap, ◌∙◌, arith, inl, inr}
use Rattle.std.specs.Prelude.{◌==◌, not, MatchBool}
use Rattle.std.specs.List.{list_any}
use Rattle.std.proofs.lemmas.List.{get_or_past}
use Rattle.std.proofs.lemmas.List.Folds.{list_any_at}
use Rattle.std.proofs.lemmas.Bool.{false≢true, cases_lt}
use Rattle.std.proofs.lemmas.Bool.Decides.{Decides-eqb}
use Rattle.std.proofs.lemmas.Option.{none-some}
use Rattle.shen_graph.specs.declared.name.Name.{Name}
use Rattle.shen_graph.specs.declared.pin.Pinned.{Pinned}
use Rattle.shen_graph.specs.Graph.{same_name}
use Rattle.shen_graph.specs.Step.{MayBePinned}
use Rattle.shen_graph.specs.PlainGraph.{Plain, pin_in, graph_of, differs, same_bool}
use Rattle.shen_graph.proofs.PlainLemmas.{same_name-true, same_name-itself, pin-graph_of}

-- a slot that does not differ has the object and the place, or neither; and one that differs has one of them
pub agrees : (name : Name) (place : ℕ) (held_pin : Pinned) → differs name place (Some held_pin) ≡ false → (held_pin.name ≡ name → held_pin.place ≡ place) × (held_pin.place ≡ place → held_pin.name ≡ name)
agrees name place held_pin not_differing = by_tests (same_name held_pin.name name) (held_pin.place == place) refl refl not_differing
  where
    by_tests : (holds place_holds : Bool) → same_name held_pin.name name ≡ holds → (held_pin.place == place) ≡ place_holds → not (same_bool holds place_holds) ≡ false → (held_pin.name ≡ name → held_pin.place ≡ place) × (held_pin.place ≡ place → held_pin.name ≡ name)
    by_tests true true name_tested place_tested tests_agree = (λ _. (Decides-eqb held_pin.place place).0 place_tested, λ _. same_name-true held_pin.name name name_tested)
    by_tests true false name_tested place_tested tests_agree = absurd (false≢true (sym tests_agree))
    by_tests false true name_tested place_tested tests_agree = absurd (false≢true (sym tests_agree))
    by_tests false false name_tested place_tested tests_agree = (
      λ same_part. absurd (false≢true (sym name_tested ∙ ap (λ (compared_name : Name). same_name compared_name name) same_part ∙ same_name-itself name)),
      λ same_part. absurd (false≢true (sym place_tested ∙ (Decides-eqb held_pin.place place).1 same_part)),
    )

pub disagrees : (name : Name) (place : ℕ) (held_pin : Pinned) → differs name place (Some held_pin) ≡ true → (held_pin.name ≡ name → held_pin.place ≡ place) → (held_pin.place ≡ place → held_pin.name ≡ name) → ⊥
disagrees name place held_pin differing to_place to_name = by_tests (same_name held_pin.name name) (held_pin.place == place) refl refl differing
  where
    by_tests : (holds place_holds : Bool) → same_name held_pin.name name ≡ holds → (held_pin.place == place) ≡ place_holds → not (same_bool holds place_holds) ≡ true → ⊥
    by_tests true true name_tested place_tested tests_differ = false≢true tests_differ
    by_tests true false name_tested place_tested tests_differ = false≢true (sym place_tested ∙ (Decides-eqb held_pin.place place).1 (to_place (same_name-true held_pin.name name name_tested)))
    by_tests false true name_tested place_tested tests_differ =
        let names_same = to_name ((Decides-eqb held_pin.place place).0 place_tested) in
        false≢true (sym name_tested ∙ ap (λ (compared_name : Name). same_name compared_name name) names_same ∙ same_name-itself name)
    by_tests false false name_tested place_tested tests_differ = false≢true tests_differ

-- an element that passes a test, by its place
index_of_any : {X : Type 0} (test : X → Bool) (xs : List X) (fallback : X) → list_any test xs ≡ true → (index : ℕ) × (index < length xs) × (test (get_or xs index fallback) ≡ true)
index_of_any test [] fallback some_passes = absurd (false≢true some_passes)
index_of_any {X} test (x ∷ xs) some_passes e = by (test x) refl (index_of_any test xs some_passes)
  where
    by : (holds : Bool) → test x ≡ holds → (list_any test xs ≡ true → (index : ℕ) × (index < length xs) × (test (get_or xs index some_passes) ≡ true)) → (index : ℕ) × (index < length (x ∷ xs)) × (test (get_or (x ∷ xs) index some_passes) ≡ true)
    by true first_tested rest = (0, omega arith, first_tested)
    by false first_tested rest =
        let later : list_any test xs ≡ true = rw first_tested at e in
        let later_passing = rest later in
        (suc later_passing.0, omega (arith, later_passing.1), later_passing.2)

-- a pin slot that holds something is one of the rows
slot_within : (pins : List (List (Option Pinned))) (row_index index : ℕ) (held_pin : Pinned) → pin_in pins row_index index ≡ Some held_pin → (row_index < length pins) × (index < length (get_or pins row_index []))
slot_within pins row_index index held_pin has_pin =
    elim (cases_lt row_index (length pins)) [
      | inl in_rows ↦ elim (cases_lt index (length (get_or pins row_index []))) [
        | inl in_row ↦ (in_rows, in_row)
        | inr index_past ↦ absurd (none-some held_pin (sym (get_or_past (get_or pins row_index []) index None index_past) ∙ has_pin))
      ]
      | inr index_past ↦ absurd (none-some held_pin (sym (ap (λ (row : List (Option Pinned)). get_or row index None) (get_or_past pins row_index [] index_past)) ∙ has_pin))
    ]

-- where no slot differs, each agrees; and where one does, there is one
pub slots_agree : (plain : Plain) (name : Name) (place : ℕ) → list_any (list_any (differs name place)) plain.pins ≡ false
    → (thread slot : ℕ) (held_pin : Pinned) → (graph_of plain).pin thread slot ≡ Some held_pin → differs name place (Some held_pin) ≡ false
slots_agree plain name place none_differ thread slot held_pin has_pin = by (differs name place (Some held_pin)) refl
  where
    by : (holds : Bool) → differs name place (Some held_pin) ≡ holds → holds ≡ false
    by false pin_tested = refl
    by true pin_tested =
        let plain_pin : pin_in plain.pins thread slot ≡ Some held_pin = sym (pin-graph_of plain thread slot) ∙ has_pin in
        let within = slot_within plain.pins thread slot held_pin plain_pin in
        let row : list_any (differs name place) (get_or plain.pins thread []) ≡ true =
        list_any_at (differs name place) (get_or plain.pins thread []) slot None within.1 (ap (differs name place) plain_pin ∙ pin_tested) in
        absurd (false≢true (sym none_differ ∙ list_any_at (list_any (differs name place)) plain.pins thread [] within.0 row))

pub record Differing (plain : Plain) (name : Name) (place : ℕ) : Type 0 where
  pub thread : ℕ
  pub slot : ℕ
  pub held : Pinned
  pub there : (graph_of plain).pin thread slot ≡ Some held
  pub apart : differs name place (Some held) ≡ true

pub slots_disagree : (plain : Plain) (name : Name) (place : ℕ) → list_any (list_any (differs name place)) plain.pins ≡ true → Differing plain name place
slots_disagree plain name place some_differ =
    let row = index_of_any (list_any (differs name place)) plain.pins [] some_differ in
    let slot = index_of_any (differs name place) (get_or plain.pins row.0 []) None row.2 in
    by row.0 slot.0 (pin_in plain.pins row.0 slot.0) refl slot.2
  where
    by : (thread slot : ℕ) (found : Option Pinned) → pin_in plain.pins thread slot ≡ found → differs name place (pin_in plain.pins thread slot) ≡ true → Differing plain name place
    by thread slot None pin_found differing = absurd (false≢true (sym (ap (differs name place) pin_found) ∙ differing))
    by thread slot (Some held_pin) pin_found differing = record { thread = thread; slot = slot; held = held_pin; there = pin-graph_of plain thread slot ∙ pin_found; apart = sym (ap (differs name place) pin_found) ∙ differing }

pub may_be : (regions region_words : ℕ) (plain : Plain) (name : Name) (place : ℕ) → (region_words ≤ place) × (place < (regions + 1) * region_words)
    → list_any (list_any (differs name place)) plain.pins ≡ false → MayBePinned regions region_words (graph_of plain) name place
may_be regions region_words plain name place within none_differ = record {
  within = within;
  same = λ thread slot held_pin has_pin. (agrees name place held_pin (slots_agree plain name place none_differ thread slot held_pin has_pin)).0;
  alone = λ thread slot held_pin has_pin. (agrees name place held_pin (slots_agree plain name place none_differ thread slot held_pin has_pin)).1;
}

pub may_not : (regions region_words : ℕ) (plain : Plain) (name : Name) (place : ℕ) → list_any (list_any (differs name place)) plain.pins ≡ true
    → MayBePinned regions region_words (graph_of plain) name place → ⊥
may_not regions region_words plain name place some_differ may_pin =
    let differing_slot = slots_disagree plain name place some_differ in
    disagrees name place differing_slot.held differing_slot.apart (may_pin.same differing_slot.thread differing_slot.slot differing_slot.held differing_slot.there) (may_pin.alone differing_slot.thread differing_slot.slot differing_slot.held differing_slot.there)

pub may_told : (differs_some : Bool) (regions region_words : ℕ) (plain : Plain) (name : Name) (place : ℕ) → (region_words ≤ place) × (place < (regions + 1) * region_words)
    → differs_some ≡ list_any (list_any (differs name place)) plain.pins
    → MatchBool (not differs_some) (MayBePinned regions region_words (graph_of plain) name place) (MayBePinned regions region_words (graph_of plain) name place → ⊥)
may_told true regions region_words plain name place within tested = may_not regions region_words plain name place (sym tested)
may_told false regions region_words plain name place within tested = may_be regions region_words plain name place within (sym tested)
