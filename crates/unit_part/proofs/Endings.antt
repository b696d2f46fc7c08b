-- By which words a unit of updating ends.
use Rattle.std.proofs.Common.{◌≡◌, ◌≢◌, ℕ, ◌+◌, ◌≤◌, ◌↔◌, Bool, nat_lt, true, false, Option, Some, None, refl, sym, subst, arith}
use Rattle.std.specs.Prelude.{◌==◌, if◌then◌else◌}
use Rattle.std.specs.Int.{bit_at}
use Rattle.std.proofs.lemmas.Option.{none-some, same_Some}
use Rattle.std.proofs.lemmas.Bool.{eqb-true, eqb-false, eq-eqb, ne_eqb, ltb-true, ltb-false, le-ltb}
use Rattle.heap_words.specs.declared.config.Config.{Config}
use Rattle.heap_words.specs.declared.access.Unit.TheVariants.{Worked, NoneLeft}
use Rattle.heap_words.specs.Encoding.{filler_words_in, refs_in, is_forwarded, forwardee_in}
use Rattle.regions.specs.Marks.{mark_bit}
use Rattle.unit_part.specs.declared.update_spot.Walk.{Walk}
use Rattle.unit_part.specs.declared.update_spot.Visit.{Visit}
use Rattle.unit_part.specs.declared.update_spot.UpdateSpot.{UpdateSpot}
use Rattle.unit_part.specs.declared.update_spot.UpdateSpot.TheVariants.{LoadClaim, ClaimUnit, LoadLimit, LoadTams, LoadFirst, LoadShape, LoadBlack, LoadField, LoadHeader, ExchangeField, Ended}
use Rattle.unit_part.specs.UpdateRows.{has_unit, names_set, limit_of, tams_of, visit_end, next_object, after_words, next_field, after_shape, next_at, is_ended}
use Rattle.unit_part.specs.UpdateEnds.{HasNoneLeft, IsLast, IsLastField, IsDoneAt}

-- a unit is done there
abbrev IsWorked : UpdateSpot → Type 0
IsWorked spot = spot ≡ Ended Worked

-- of two spots by a test, where one is no end
where_true : (holds : Bool) (spot other_spot : UpdateSpot) (P : Type 0) → (IsWorked other_spot → ⊥) → (IsWorked spot ↔ P) → (IsWorked (if holds then spot else other_spot) ↔ ((holds ≡ true) × P))
where_true true spot other_spot P never spot_ends = ((λ end. (refl, spot_ends.0 end)), (λ test_and_end. spot_ends.1 test_and_end.1))
where_true false spot other_spot P never spot_ends = ((λ end. absurd (never end)), (λ test_and_end. absurd (let test_false = test_and_end.0 in cc)))

where_false : (holds : Bool) (spot other_spot : UpdateSpot) (P : Type 0) → (IsWorked spot → ⊥) → (IsWorked other_spot ↔ P) → (IsWorked (if holds then spot else other_spot) ↔ ((holds ≡ false) × P))
where_false true spot other_spot P never spot_ends = ((λ end. absurd (never end)), (λ test_and_end. absurd (let test_false = test_and_end.0 in cc)))
where_false false spot other_spot P never spot_ends = ((λ end. (refl, spot_ends.0 end)), (λ test_and_end. spot_ends.1 test_and_end.1))

-- the test in other words
by_words : (X A B P : Type 0) → (A → B) → (B → A) → (X ↔ (A × P)) → (X ↔ (B × P))
by_words X A B P forward backward ends_exactly = ((λ x. (forward (ends_exactly.0 x).0, (ends_exactly.0 x).1)), (λ both_parts. ends_exactly.1 (backward both_parts.0, both_parts.1)))

by_words_alone : (X A B : Type 0) → (A → B) → (B → A) → (X ↔ (A × Unit {0})) → (X ↔ B)
by_words_alone X A B forward backward ends_exactly = ((λ x. forward (ends_exactly.0 x).0), (λ b. ends_exactly.1 (backward b, tt)))

ended : IsWorked (Ended Worked) ↔ Unit {0}
ended = ((λ end. tt), (λ any. refl))

object_ends : (config : Config) (walk : Walk) (address : ℕ) → IsWorked (next_object config walk address) ↔ (limit_of config walk ≤ address)
object_ends config walk address = by_words_alone _ _ _ (ltb-false address (limit_of config walk)) (le-ltb _ _)
    (where_false (nat_lt address (limit_of config walk)) (LoadFirst walk address) (Ended Worked) (Unit {0}) (λ end. cc) ended)

first_ends : (config : Config) (walk : Walk) (address : ℕ) (filled : Option ℕ) → IsWorked (after_words config walk address filled) ↔ ((words : ℕ) × (filled ≡ Some words) × (limit_of config walk ≤ address + words))
first_ends config walk address (Some words) = (
  (λ end. (words, refl, (object_ends config walk (address + words)).0 end)),
  (λ last_words. (object_ends config walk (address + words)).1 (subst (λ size. limit_of config walk ≤ address + size) (sym (same_Some words last_words.0 last_words.1)) last_words.2)),
)
first_ends config walk address None = ((λ end. cc), (λ last_words. absurd (none-some last_words.0 last_words.1)))

field_ends : (config : Config) (visit : Visit) (field : ℕ) → IsWorked (next_field config visit field) ↔ ((refs_in visit.shape ≤ field) × IsLast config visit)
field_ends config visit field = by_words _ _ _ _ (ltb-false field (refs_in visit.shape)) (le-ltb _ _)
    (where_false (nat_lt field (refs_in visit.shape)) (LoadField visit field) (next_object config visit.walk (visit_end visit)) (IsLast config visit) (λ end. cc) (object_ends config visit.walk (visit_end visit)))

shape_ends : (config : Config) (visit : Visit) → IsWorked (after_shape config visit) ↔ ((refs_in visit.shape ≡ 0) × IsLast config visit)
shape_ends config visit = by_words _ _ _ _ (eqb-true (refs_in visit.shape) 0) (eq-eqb _ _)
    (where_true (refs_in visit.shape == 0) (next_object config visit.walk (visit_end visit)) (if nat_lt visit.address (tams_of config visit.walk) then LoadBlack visit else LoadField visit 0) (IsLast config visit)
    (goes_on (nat_lt visit.address (tams_of config visit.walk))) (object_ends config visit.walk (visit_end visit)))
  where
    goes_on : (holds : Bool) → IsWorked (if holds then LoadBlack visit else LoadField visit 0) → ⊥
    goes_on true end = cc
    goes_on false end = cc

claim_ends : (config : Config) (cset unit got : ℕ) → IsWorked (next_at config cset (ClaimUnit unit) got) ↔ IsDoneAt config cset (ClaimUnit unit) got
claim_ends config cset unit got = by_words _ _ _ _ (eqb-true got unit) (eq-eqb _ _)
    (where_true (got == unit) (if bit_at cset unit == 1 then Ended Worked else LoadLimit unit) LoadClaim (bit_at cset unit ≡ 1) (λ end. cc)
    (by_words_alone _ _ _ (eqb-true (bit_at cset unit) 1) (eq-eqb _ _)
    (where_true (bit_at cset unit == 1) (Ended Worked) (LoadLimit unit) (Unit {0}) (λ end. cc) ended)))

limit_ends : (config : Config) (cset region got : ℕ) → IsWorked (next_at config cset (LoadLimit region) got) ↔ (got ≡ 0)
limit_ends config cset region got = by_words_alone _ _ _ (eqb-true got 0) (eq-eqb _ _)
    (where_true (got == 0) (Ended Worked) (LoadTams region got) (Unit {0}) (λ end. cc) ended)

black_ends : (config : Config) (cset : ℕ) (visit : Visit) (got : ℕ) → IsWorked (next_at config cset (LoadBlack visit) got) ↔ IsDoneAt config cset (LoadBlack visit) got
black_ends config cset visit got = by_words _ _ _ _ (eqb-false (bit_at got (mark_bit config visit.address)) 1) (ne_eqb _ _)
    (where_false (bit_at got (mark_bit config visit.address) == 1) (LoadField visit 0) (next_object config visit.walk (visit_end visit)) (IsLast config visit) (λ end. cc) (object_ends config visit.walk (visit_end visit)))

no_unit : (holds : Bool) (got : ℕ) → IsWorked (if holds then ClaimUnit got else Ended NoneLeft) → ⊥
no_unit true got end = cc
no_unit false got end = cc

-- a unit is done exactly by these words
pub worked_is : (config : Config) (cset : ℕ) (spot : UpdateSpot) (got : ℕ) → is_ended spot ≡ false → (next_at config cset spot got ≡ Ended Worked) ↔ IsDoneAt config cset spot got
worked_is config cset LoadClaim got going = ((λ end. no_unit (has_unit config got) got end), (λ never. absurd never))
worked_is config cset (ClaimUnit unit) got going = claim_ends config cset unit got
worked_is config cset (LoadLimit region) got going = limit_ends config cset region got
worked_is config cset (LoadTams region limit) got going = ((λ end. cc), (λ never. absurd never))
worked_is config cset (LoadFirst walk address) got going = first_ends config walk address (filler_words_in got)
worked_is config cset (LoadShape walk address) got going = shape_ends config (record { walk = walk; address = address; shape = got })
worked_is config cset (LoadBlack visit) got going = black_ends config cset visit got
worked_is config cset (LoadField visit field) got going =
    where_false (names_set config cset got) (LoadHeader visit field got) (next_field config visit (field + 1)) (IsLastField config visit field) (λ end. cc) (field_ends config visit (field + 1))
worked_is config cset (LoadHeader visit field found) got going =
    where_false (is_forwarded got) (ExchangeField visit field found (forwardee_in got)) (next_field config visit (field + 1)) (IsLastField config visit field) (λ end. cc) (field_ends config visit (field + 1))
worked_is config cset (ExchangeField visit field found copy) got going = field_ends config visit (field + 1)
worked_is config cset (Ended unit) got going = absurd cc

-- no unit is left there
abbrev SaysNone : UpdateSpot → Type 0
SaysNone spot = spot ≡ Ended NoneLeft

none_object : (config : Config) (walk : Walk) (address : ℕ) → SaysNone (next_object config walk address) → ⊥
none_object config walk address = by_test (nat_lt address (limit_of config walk))
  where
    by_test : (holds : Bool) → SaysNone (if holds then LoadFirst walk address else Ended Worked) → ⊥
    by_test true end = cc
    by_test false end = cc

none_first : (config : Config) (walk : Walk) (address : ℕ) (filled : Option ℕ) → SaysNone (after_words config walk address filled) → ⊥
none_first config walk address (Some words) end = none_object config walk (address + words) end
none_first config walk address None end = cc

none_field : (config : Config) (visit : Visit) (field : ℕ) → SaysNone (next_field config visit field) → ⊥
none_field config visit field = by_test (nat_lt field (refs_in visit.shape))
  where
    by_test : (holds : Bool) → SaysNone (if holds then LoadField visit field else next_object config visit.walk (visit_end visit)) → ⊥
    by_test true end = cc
    by_test false end = none_object config visit.walk (visit_end visit) end

none_shape : (config : Config) (visit : Visit) → SaysNone (after_shape config visit) → ⊥
none_shape config visit = by_tests (refs_in visit.shape == 0) (nat_lt visit.address (tams_of config visit.walk))
  where
    by_tests : (holds other_holds : Bool) → SaysNone (if holds then next_object config visit.walk (visit_end visit) else (if other_holds then LoadBlack visit else LoadField visit 0)) → ⊥
    by_tests true other_holds end = none_object config visit.walk (visit_end visit) end
    by_tests false true end = cc
    by_tests false false end = cc

none_claim : (unit : ℕ) (holds other_holds : Bool) → SaysNone (if holds then (if other_holds then Ended Worked else LoadLimit unit) else LoadClaim) → ⊥
none_claim unit true true end = cc
none_claim unit true false end = cc
none_claim unit false holds end = cc

none_limit : (region got : ℕ) (holds : Bool) → SaysNone (if holds then Ended Worked else LoadTams region got) → ⊥
none_limit region got true end = cc
none_limit region got false end = cc

none_black : (config : Config) (visit : Visit) (holds : Bool) → SaysNone (if holds then LoadField visit 0 else next_object config visit.walk (visit_end visit)) → ⊥
none_black config visit true end = cc
none_black config visit false end = none_object config visit.walk (visit_end visit) end

none_else : (config : Config) (visit : Visit) (field : ℕ) (spot : UpdateSpot) → (SaysNone spot → ⊥) → (holds : Bool) → SaysNone (if holds then spot else next_field config visit field) → ⊥
none_else config visit field spot never true end = never end
none_else config visit field spot never false end = none_field config visit field end

claim_none : (config : Config) (got : ℕ) (holds : Bool) → has_unit config got ≡ holds → SaysNone (if holds then ClaimUnit got else Ended NoneLeft) ↔ (config.regions ≤ got)
claim_none config got true unit_test = ((λ end. absurd (let differ = end in cc)), (λ none_left. absurd (let unit_left = ltb-true got config.regions unit_test in omega (arith, unit_left, none_left))))
claim_none config got false unit_test = ((λ end. ltb-false got config.regions unit_test), (λ none_left. refl))

-- no unit is left exactly by these words
pub none_is : (config : Config) (cset : ℕ) (spot : UpdateSpot) (got : ℕ) → is_ended spot ≡ false → (next_at config cset spot got ≡ Ended NoneLeft) ↔ HasNoneLeft config spot got
none_is config cset LoadClaim got going = claim_none config got (has_unit config got) refl
none_is config cset (ClaimUnit unit) got going = ((λ end. none_claim unit (got == unit) (bit_at cset unit == 1) end), (λ never. absurd never))
none_is config cset (LoadLimit region) got going = ((λ end. none_limit region got (got == 0) end), (λ never. absurd never))
none_is config cset (LoadTams region limit) got going = ((λ end. cc), (λ never. absurd never))
none_is config cset (LoadFirst walk address) got going = ((λ end. none_first config walk address (filler_words_in got) end), (λ never. absurd never))
none_is config cset (LoadShape walk address) got going = ((λ end. none_shape config (record { walk = walk; address = address; shape = got }) end), (λ never. absurd never))
none_is config cset (LoadBlack visit) got going = ((λ end. none_black config visit (bit_at got (mark_bit config visit.address) == 1) end), (λ never. absurd never))
none_is config cset (LoadField visit field) got going = ((λ end. none_else config visit (field + 1) (LoadHeader visit field got) (λ same_end. (let differ = same_end in cc)) (names_set config cset got) end), (λ never. absurd never))
none_is config cset (LoadHeader visit field found) got going =
    ((λ end. none_else config visit (field + 1) (ExchangeField visit field found (forwardee_in got)) (λ same_end. (let differ = same_end in cc)) (is_forwarded got) end), (λ never. absurd never))
none_is config cset (ExchangeField visit field found copy) got going = ((λ end. none_field config visit (field + 1) end), (λ never. absurd never))
none_is config cset (Ended unit) got going = absurd cc
