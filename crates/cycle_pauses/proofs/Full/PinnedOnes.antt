-- What pin slots hold, each once: the names of pinned objects, and the regions in which these stay.
use Rattle.std.proofs.Common.{◌≡◌, ◌≢◌, ℕ, ◌+◌, ◌*◌, ◌/◌, ◌%◌, ◌<◌, ◌++◌, Bool, true, false, nat_eq, zero, suc, List, [], ◌∷◌, length, Option, Some, None, ⊎_elim, refl, sym, ap, ◌∙◌, subst, arith}
use Rattle.std.specs.Prelude.{Contains, sum_by}
use Rattle.std.specs.List.{list_any, IsDistinct}
use Rattle.std.specs.Option.{option_map}
use Rattle.std.specs.Cmp.{IsEquivalence}
use Rattle.std.proofs.lemmas.Cmp.{nat_eq_equiv}
use Rattle.std.proofs.lemmas.Bool.{cases_Bool, cases_eq}
use Rattle.std.proofs.lemmas.Option.{none-some, same_Some}
use Rattle.std.proofs.lemmas.List.Elements.{Contains-push, Contains-push_cases, Contains-append_left}
use Rattle.std.proofs.lemmas.Map.Keys.{IsDistinct-push}
use Rattle.std.proofs.lemmas.Map.Views.{Contains-from_any, exact_unsigned_eq}
use Rattle.heap_words.specs.declared.config.Config.{Config}
use Rattle.shen_graph.specs.declared.name.Name.{Name}
use Rattle.shen_graph.specs.declared.pin.Pinned.{Pinned}
use Rattle.shen_graph.specs.Graph.{Graph, named, same_name}
use Rattle.shen_graph.specs.Reach.{size}
use Rattle.shen_graph.specs.Crowd.{Held, PinnedRegions}
use Rattle.shen_graph.proofs.PlainLemmas.{same_name-true}
use Rattle.shen_graph.proofs.ReachLemmas.{same_name-laws, Contains-nil}
use Rattle.heap_world.specs.Roots.{is_slot_of, HasNoMorePins}
use Rattle.cycle_pauses.proofs.Full.Before.{IsThreads, threads_one}

-- what the first so many places hold is listed, each once
record IsListed (X : Type 0) (eq : X → X → Bool) (at : ℕ → Option X) (n : ℕ) (xs : List X) : Type 0 where
  differ : IsDistinct eq xs
  all : (k : ℕ) (x : X) → k < n → at k ≡ Some x → Contains xs x
  only : (x : X) → Contains xs x → (k : ℕ) × (at k ≡ Some x)

none_distinct : (X : Type 0) (eq : X → X → Bool) → IsDistinct eq []
unfolding IsDistinct
none_distinct X eq = tt

module _ (X : Type 0) (eq : X → X → Bool) (laws : IsEquivalence eq) (exact : (x y : X) → eq x y ≡ true → x ≡ y) (held_at : ℕ → Option X) where
  one_more : (count : ℕ) (xs : List X) (found : Option X) → held_at count ≡ found → IsListed X eq held_at count xs → (longer : List X) × IsListed X eq held_at (suc count) longer
  one_more count xs None held_nothing listed = (
    xs,
    record {
      differ = listed.differ;
      all = λ place x place_below holds. ⊎_elim
          (λ (last_place : place ≡ count). absurd (none-some x (sym held_nothing ∙ ap held_at (sym last_place) ∙ holds)))
          (λ (earlier_place : place ≢ count). listed.all place x (omega (arith, place_below, earlier_place)) holds)
          (cases_eq place count);
      only = listed.only;
    },
  )
  one_more count xs (Some y) holds_here listed = ⊎_elim
      (λ (had : list_any (eq y) xs ≡ true). (
        xs,
        record {
          differ = listed.differ;
          all = λ place x place_below holds. ⊎_elim
              (λ (last_place : place ≡ count). let same_element : y ≡ x = same_Some y x (sym holds_here ∙ ap held_at (sym last_place) ∙ holds) in subst (Contains xs) same_element (Contains-from_any exact y xs had))
              (λ (earlier_place : place ≢ count). listed.all place x (omega (arith, place_below, earlier_place)) holds)
              (cases_eq place count);
          only = listed.only;
        },
      ))
      (λ (new : list_any (eq y) xs ≡ false). (
        xs ++ y ∷ [],
        record {
          differ = IsDistinct-push laws xs y listed.differ new;
          all = λ place x place_below holds. ⊎_elim
              (λ (last_place : place ≡ count). let same_element : y ≡ x = same_Some y x (sym holds_here ∙ ap held_at (sym last_place) ∙ holds) in subst (Contains (xs ++ y ∷ [])) same_element (Contains-push xs y))
              (λ (earlier_place : place ≢ count). Contains-append_left xs (y ∷ []) x (listed.all place x (omega (arith, place_below, earlier_place)) holds))
              (cases_eq place count);
          only = λ x contained. ⊎_elim
              (λ (old : Contains xs x). listed.only x old)
              (λ (holds : y ≡ x). (count, holds_here ∙ ap Some holds))
              (Contains-push_cases xs y x contained);
        },
      ))
      (cases_Bool (list_any (eq y) xs))

  listed : (count : ℕ) → (xs : List X) × IsListed X eq held_at count xs
  listed zero = ([], record { differ = none_distinct X eq; all = λ place x place_below holds. absurd (omega (arith, place_below)); only = λ x contained. absurd (Contains-nil x contained) })
  listed (suc count) = let rest = listed count in one_more count rest.0 (held_at count) refl rest.1

-- what is made of what a place holds
some_from : (X : Type 0) (make : Pinned → X) (found : Option Pinned) (made : X) → option_map make found ≡ Some made → (pinned : Pinned) × (found ≡ Some pinned) × (make pinned ≡ made)
some_from X make None made made_of_it = absurd (none-some made made_of_it)
some_from X make (Some pinned) made made_of_it = (pinned, refl, same_Some (make pinned) made made_of_it)

-- the slots by their numbers: 4 a mutator
abbrev slot_at : Graph → ℕ → Option Pinned
slot_at graph number = graph.pin (number / 4 + 1) (number % 4)

module _ (config : Config) (graph : Graph) (no_more : HasNoMorePins config.mutators graph) where
  number_of : (thread slot : ℕ) (pinned : Pinned) → graph.pin thread slot ≡ Some pinned → IsThreads config thread slot 4 → (number : ℕ) × (number < 4 * config.mutators) × (slot_at graph number ≡ Some pinned)
  number_of thread slot pinned pin_there threads =
      let thread_index : ℕ = threads.mutator in
      let few = threads.few in
      let inside = threads.inside in
      let row : (4 * threads.mutator + slot) / 4 ≡ threads.mutator = omega (arith, few) in
      let column : (4 * threads.mutator + slot) % 4 ≡ slot = omega (arith, few) in (
        4 * threads.mutator + slot,
        omega (arith, few, inside),
        ap (λ mutator. graph.pin (mutator + 1) ((4 * threads.mutator + slot) % 4)) row ∙ ap (graph.pin (threads.mutator + 1)) column ∙ ap (λ thread. graph.pin thread slot) (sym threads.thread) ∙ pin_there,
      )

  slot_number : (thread slot : ℕ) (pinned : Pinned) → graph.pin thread slot ≡ Some pinned → (number : ℕ) × (number < 4 * config.mutators) × (slot_at graph number ≡ Some pinned)
  slot_number thread slot pinned pin_there = number_of thread slot pinned pin_there (⊎_elim
      (λ (real_slot : is_slot_of config.mutators thread slot ≡ true). threads_one config thread slot 4 real_slot)
      (λ (no_slot : is_slot_of config.mutators thread slot ≡ false). absurd (none-some pinned (sym (no_more thread slot no_slot) ∙ pin_there)))
      (cases_Bool (is_slot_of config.mutators thread slot)))

  -- the names of what is pinned
  pub held_ones : (held : ℕ) × Held graph held
  held_ones =
      let name_of : Pinned → Name = λ pinned_one. pinned_one.name in
      let found = listed Name same_name same_name-laws same_name-true (λ number. option_map name_of (slot_at graph number)) (4 * config.mutators) in (
        sum_by (λ name. size (named graph (Some name))) found.0,
        (
          found.0,
          record {
            differ = found.1.differ;
            all = λ thread slot held pin_there. let slot_found = slot_number thread slot held pin_there in found.1.all slot_found.0 held.name slot_found.1 (ap (option_map name_of) slot_found.2);
            only = λ name contained.
                let slot_found = found.1.only name contained in
                let pinned_there = some_from Name name_of (slot_at graph slot_found.0) name slot_found.1 in
                (slot_found.0 / 4 + 1, slot_found.0 % 4, pinned_there.0, pinned_there.1, pinned_there.2);
          },
          refl,
        ),
      )

  -- the regions where it stays
  pub pinned_ones : (count : ℕ) × PinnedRegions config.region_words graph count
  pinned_ones =
      let region_of : Pinned → ℕ = λ pinned_one. pinned_one.place / config.region_words in
      let found = listed ℕ nat_eq nat_eq_equiv exact_unsigned_eq (λ number. option_map region_of (slot_at graph number)) (4 * config.mutators) in (
        length found.0,
        (
          found.0,
          record {
            differ = found.1.differ;
            all = λ thread slot pinned pin_there. let slot_found = slot_number thread slot pinned pin_there in found.1.all slot_found.0 (pinned.place / config.region_words) slot_found.1 (ap (option_map region_of) slot_found.2);
            only = λ region contained.
                let slot_found = found.1.only region contained in
                let pinned_there = some_from ℕ region_of (slot_at graph slot_found.0) region slot_found.1 in
                (slot_found.0 / 4 + 1, slot_found.0 % 4, pinned_there.0, pinned_there.1, pinned_there.2);
          },
          refl,
        ),
      )
