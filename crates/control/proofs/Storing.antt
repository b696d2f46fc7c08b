-- Which word of the new image is stored next: the next one of the extent, or the least one before it where the free words of a buffer began and that is
-- not 0.
use Rattle.std.proofs.Common.{◌≡◌, ◌≢◌, ◌⊎◌, ℕ, ◌+◌, ◌<◌, ◌≤◌, true, false, inl, inr, List, length, take, ⊎_elim, refl, sym, ap, ◌∙◌, subst, arith}
use Rattle.std.specs.Prelude.{◌==◌, not, nat_eq, if◌then◌else◌, slice_index}
use Rattle.std.proofs.lemmas.Bool.{cases_Bool, cases_eq, cases_lt, cond-false, eq-eqb, eqb-true, ne_eqb, or_cases, or_left, or_right, or_from, not_from_true, not_from_false, false≢true}
use Rattle.std.proofs.lemmas.List.{take_all}
use Rattle.std.proofs.lemmas.List.Folds.{list_any_at}
use Rattle.heap_words.specs.declared.config.Config.{Config}
use Rattle.heap_world.specs.Walk.{has}
use Rattle.heap_world.specs.Change.{image_words}
use Rattle.collector_rows.specs.declared.extent.Extent.{Extent}
use Rattle.collector_rows.specs.Extent.{is_of_extent, next_loaded, counts, next_stored}
use Rattle.collector_rows.proofs.Extents.{stored_next_is, stored_next_one, next_is}
use Rattle.control.specs.Image.{is_seen, image_shown}
use Rattle.control.proofs.PartShown.{either_zero, made_reads, seen_reads}
use Rattle.control.proofs.Starting.{has_more}

module _ (config : Config) (extent : Extent) (starts image : List ℕ) (index : ℕ) where
  abbrev made : List ℕ
  made = image_shown config extent starts image

  -- the least index so far: it lies behind the one, and its word counts; so many of the others were looked at, and of those between none has another word
  -- than 0
  pub record IsLeast (number next : ℕ) : Type 0 where
    pub above : index < next
    pub most : next ≤ next_loaded config extent index
    pub here : next < image_words config → counts config extent made next ≡ true
    pub passed : (passed_index : ℕ) → has (take number starts) passed_index ≡ true → index < passed_index → passed_index < next → slice_index image passed_index ≡ 0

  pub least_first : index < image_words config → IsLeast 0 (next_loaded config extent index)
  least_first index_below =
      let next_facts = next_is config extent index index_below in
      record {
        above = next_facts.above;
        most = omega arith;
        here = λ in_extent. or_left (is_of_extent config extent (next_loaded config extent index)) (not (slice_index made (next_loaded config extent index) == 0)) (next_facts.here in_extent);
        passed = λ other_index among index_passed below_next. absurd (false≢true among);
      }

  module _ (number next_index : ℕ) (number_below : number < length starts) (next_least : IsLeast number next_index) where
    abbrev start : ℕ
    start = slice_index starts number

    -- an index looked at was looked at before, or is this one
    looked : (other_index : ℕ) → has (take (number + 1) starts) other_index ≡ true → (has (take number starts) other_index ≡ true) ⊎ (other_index ≡ start)
    looked other_index among = ⊎_elim
        (λ (before : has (take number starts) other_index ≡ true). inl before)
        (λ (same_start : nat_eq other_index start ≡ true). inr (eqb-true other_index start same_start))
        (or_cases (has (take number starts) other_index) (nat_eq other_index start) (sym (has_more starts number other_index number_below) ∙ among))

    kept : (index < start → start < next_index → slice_index image start ≡ 0) → IsLeast (number + 1) next_index
    kept nothing_between = record {
      above = next_least.above;
      most = next_least.most;
      here = next_least.here;
      passed = λ other_index among index_passed below_next. ⊎_elim
          (λ (before : has (take number starts) other_index ≡ true). next_least.passed other_index before index_passed below_next)
          (λ (is_start : other_index ≡ start). ap (slice_index image) is_start ∙ nothing_between (omega (arith, index_passed, is_start)) (omega (arith, below_next, is_start)))
          (looked other_index among);
    }

    taken : index < start → start < next_index → slice_index image start ≢ 0 → IsLeast (number + 1) start
    taken start_behind ahead counted =
        let start_seen : is_seen config extent starts start ≡ true = or_right (is_of_extent config extent start) (has starts start) (list_any_at (nat_eq start) starts number 0 number_below (eq-eqb start start refl)) in
        let differs : (slice_index made start == 0) ≡ false = ne_eqb (slice_index made start) 0 (λ no_word. counted (sym (seen_reads config extent starts image start start_seen) ∙ no_word)) in
        record {
          above = start_behind;
          most = (let next_low = next_least.most in omega (arith, next_low, ahead));
          here = λ in_extent. or_right (is_of_extent config extent start) (not (slice_index made start == 0)) (not_from_false (slice_index made start == 0) differs);
          passed = λ other_index among index_passed below_next. ⊎_elim
              (λ (before : has (take number starts) other_index ≡ true). next_least.passed other_index before index_passed (omega (arith, below_next, ahead)))
              (λ (is_start : other_index ≡ start). absurd (omega (arith, below_next, is_start)))
              (looked other_index among);
        }

    -- one more is looked at
    pub least_more : (then_next : ℕ) → (index < start → start < next_index → slice_index image start ≢ 0 → then_next ≡ start) → ((index < start → start < next_index → slice_index image start ≡ 0) → then_next ≡ next_index)
        → IsLeast (number + 1) then_next
    least_more then_next takes keeps = ⊎_elim
        (λ (start_behind : index < start). ⊎_elim
        (λ (ahead : start < next_index). ⊎_elim
        (λ (no_word : slice_index image start ≡ 0). stays (λ index_passed below_next. no_word))
        (λ (counted : slice_index image start ≢ 0). subst (IsLeast (number + 1)) (sym (takes start_behind ahead counted)) (taken start_behind ahead counted))
        (cases_eq (slice_index image start) 0))
        (λ (past_next : next_index ≤ start). stays (λ index_passed below_next. absurd (omega (arith, past_next, below_next))))
        (cases_lt start next_index))
        (λ (before : start ≤ index). stays (λ index_passed below_next. absurd (omega (arith, before, index_passed))))
        (cases_lt index start)
      where
        stays : (index < start → start < next_index → slice_index image start ≡ 0) → IsLeast (number + 1) then_next
        stays nothing_between = subst (IsLeast (number + 1)) (sym (keeps nothing_between)) (kept nothing_between)

  -- so it is the one that is stored next, once all were looked at
  pub least_is_next : (number next_index : ℕ) → length starts ≤ number → index < image_words config → IsLeast number next_index → next_index ≡ next_stored config extent made index
  least_is_next number next_index all_looked index_below next_least =
      let next_facts = next_is config extent index index_below in
      stored_next_one config extent made index next_index (next_stored config extent made index)
      (record {
        above = next_least.above;
        most = (let next_low = next_least.most in let loaded_low = next_facts.most in omega (arith, next_low, loaded_low));
        between = λ asked_index behind_index before_next.
            let outside_extent : is_of_extent config extent asked_index ≡ false = next_facts.between asked_index behind_index (let next_low = next_least.most in omega (arith, next_low, before_next)) in
            or_from (is_of_extent config extent asked_index) (not (slice_index made asked_index == 0)) outside_extent (not_from_true (slice_index made asked_index == 0) (eq-eqb (slice_index made asked_index) 0 (made_reads config extent starts image asked_index ∙ unseen asked_index behind_index before_next outside_extent)));
        here = next_least.here;
      })
      (stored_next_is config extent made index index_below)
    where
      unseen : (other_index : ℕ) → index < other_index → other_index < next_index → is_of_extent config extent other_index ≡ false → (if is_seen config extent starts other_index then slice_index image other_index else 0) ≡ 0
      unseen other_index index_passed below_next out_of_extent = ⊎_elim
          (λ (among : has starts other_index ≡ true). either_zero (is_seen config extent starts other_index) (slice_index image other_index) (next_least.passed other_index (ap (λ ys. has ys other_index) (take_all number starts all_looked) ∙ among) index_passed below_next))
          (λ (not_start : has starts other_index ≡ false). cond-false (is_seen config extent starts other_index) (slice_index image other_index) 0 (or_from (is_of_extent config extent other_index) (has starts other_index) out_of_extent not_start))
          (cases_Bool (has starts other_index))
