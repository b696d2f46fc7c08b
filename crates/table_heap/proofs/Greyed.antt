-- The addresses that the machines of a bundle made grey are of the heap, and each stands under the number of a machine of the bundle.
use Rattle.std.proofs.Common.{◌≡◌, ◌⊎◌, inl, inr, ⊎_elim, ℕ, zero, suc, Bool, true, false, [], ◌∷◌, length, Option, Some, None, refl, sym, ap, ◌∙◌, subst}
use Rattle.std.specs.Prelude.{slice_set, replicate, ◌==◌, IfSome, if◌then◌else◌}
use Rattle.std.specs.Option.{is_some}
use Rattle.std.proofs.lemmas.List.{length-set, length-replicate}
use Rattle.heap_words.specs.declared.config.Config.{Config}
use Rattle.heap_words.specs.Words.{Heap, IsWord}
use Rattle.shared_table.specs.Views.{View, machine_of, machines_picked, merged, whichever_is_there}
use Rattle.shared_table.proofs.ViewsShow.{machine_of-set, machine_of-picked, machine_of-merged}
use Rattle.shared_table.proofs.Dealing.{length-picked, length-merged}
use Rattle.heap_machines.specs.declared.machine.Machine.{Machine}
use Rattle.table_heap.specs.Known.{AreGreyedBy}
use Rattle.table_heap.proofs.Stepping.{each_merged}
use Rattle.table_heap.proofs.Opened.{picked_some}

-- what stands under a number after a change under another one, or the same
set_at : {R : Type 0} (view : View R) (number : ℕ) (found : Option R) (other_number : ℕ) (r : R) → machine_of (slice_set view number found) other_number ≡ Some r → ((other_number ≡ number) × (found ≡ Some r)) ⊎ (machine_of view other_number ≡ Some r)
set_at [] number found other_number r found_there = inr found_there
set_at (x ∷ xs) zero found zero r found_there = inl (refl, found_there)
set_at (x ∷ xs) zero found (suc other_number) r found_there = inr found_there
set_at (x ∷ xs) (suc number) found zero r found_there = inr found_there
set_at (x ∷ xs) (suc number) found (suc other_number) r found_there = ⊎_elim
    (λ (at_number : (other_number ≡ number) × (found ≡ Some r)). inl (ap suc at_number.0, at_number.1))
    (λ (in_rest : machine_of xs other_number ≡ Some r). inr in_rest)
    (set_at xs number found other_number r found_there)

-- a machine is there after another has taken a place
there_still : (items : View Machine) (number : ℕ) (machine other_machine : Machine) → machine_of items number ≡ Some machine → (other_number : ℕ) → is_some (machine_of items other_number) ≡ true → is_some (machine_of (slice_set items number (Some other_machine)) other_number) ≡ true
there_still items number machine other_machine machine_there other_number other_there = ap is_some (machine_of-set items number machine (Some other_machine) machine_there other_number) ∙ by_number (other_number == number)
  where
    by_number : (holds : Bool) → is_some (if holds then Some other_machine else machine_of items other_number) ≡ true
    by_number true = refl
    by_number false = other_there

-- at first there is none
pub none_greyed : (count number address : ℕ) → machine_of (replicate {A = Option ℕ} count None) number ≡ Some address → ⊥
none_greyed zero number address address_there = cc
none_greyed (suc count) zero address address_there = cc
none_greyed (suc count) (suc number) address address_there = none_greyed count number address address_there

module _ (config : Config) where
  -- a machine has changed
  pub greys_put : (items : View Machine) (greyed : View ℕ) (number : ℕ) (machine changed_machine : Machine) → machine_of items number ≡ Some machine → AreGreyedBy config items greyed → AreGreyedBy config (slice_set items number (Some changed_machine)) greyed
  greys_put items greyed number machine changed_machine machine_there greys = record {
    numbers = greys.numbers ∙ sym (length-set items number (Some changed_machine));
    known = λ other_number address address_there. let known_grey = greys.known other_number address address_there in (there_still items number machine changed_machine machine_there other_number known_grey.0, known_grey.1);
  }

  -- and it has made an address grey, or none
  pub greys_step : (items : View Machine) (greyed : View ℕ) (number : ℕ) (machine changed_machine : Machine) (found : Option ℕ) → machine_of items number ≡ Some machine → IfSome found (λ address. IsWord config (Heap address)) → AreGreyedBy config items greyed
      → AreGreyedBy config (slice_set items number (Some changed_machine)) (slice_set greyed number found)
  greys_step items greyed number machine changed_machine found machine_there address_inside greys = record {
    numbers = length-set greyed number found ∙ greys.numbers ∙ sym (length-set items number (Some changed_machine));
    known = λ other_number address address_there. ⊎_elim
        (λ (just_greyed : (other_number ≡ number) × (found ≡ Some address)). (
          there_still items number machine changed_machine machine_there other_number (ap (λ some_number. is_some (machine_of items some_number)) just_greyed.0 ∙ ap is_some machine_there),
          subst (λ grey. IfSome grey (λ address. IsWord config (Heap address))) just_greyed.1 address_inside,
        ))
        (λ (greyed_before : machine_of greyed other_number ≡ Some address). let known_grey = greys.known other_number address greyed_before in (there_still items number machine changed_machine machine_there other_number known_grey.0, known_grey.1))
        (set_at greyed number found other_number address address_there);
  }

  -- the same of lists with other names
  pub greys_as : (items machines : View Machine) (greyed other_greyed : View ℕ) → items ≡ machines → greyed ≡ other_greyed → AreGreyedBy config machines other_greyed → AreGreyedBy config items greyed
  greys_as items machines greyed given_greyed same_items greys greyed_so = subst (λ machines. AreGreyedBy config machines greyed) (sym same_items) (subst (AreGreyedBy config machines) (sym greys) greyed_so)

  -- what is known of an address that was made grey
  pub greys_inside : (items : View Machine) (greyed : View ℕ) (number : ℕ) (found : Option ℕ) → machine_of greyed number ≡ found → AreGreyedBy config items greyed → IfSome found (λ address. IsWord config (Heap address))
  greys_inside items greyed number None found_is greys = tt
  greys_inside items greyed number (Some address) found_is greys = (greys.known number address found_is).1

  -- some of the addresses, of all machines
  pub greys_fewer : (test : ℕ → Bool) (items : View Machine) (greyed : View ℕ) → AreGreyedBy config items greyed → AreGreyedBy config items (machines_picked test greyed)
  greys_fewer test items greyed greys = record {
    numbers = length-picked test greyed ∙ greys.numbers;
    known = λ number address address_there. greys.known number address (picked_some test greyed number address address_there);
  }

  -- some of the machines
  pub greys_picked : (test : ℕ → Bool) (items : View Machine) (greyed : View ℕ) → AreGreyedBy config items greyed → AreGreyedBy config (machines_picked test items) (machines_picked test greyed)
  greys_picked test items greyed greys = record {
    numbers = length-picked test greyed ∙ greys.numbers ∙ sym (length-picked test items);
    known = λ place address address_there. by_test place address (test place) (sym (machine_of-picked test greyed place) ∙ address_there) (machine_of-picked test items place);
  }
    where
      by_test : (number address : ℕ) (holds : Bool) → (if holds then machine_of greyed number else None) ≡ Some address → machine_of (machines_picked test items) number ≡ (if holds then machine_of items number else None)
          → (is_some (machine_of (machines_picked test items) number) ≡ true) × IsWord config (Heap address)
      by_test number address true address_found found_is = let known_grey = greys.known number address address_found in (ap is_some found_is ∙ known_grey.0, known_grey.1)
      by_test number address false address_found found_is = absurd cc

  -- the machines of two bundles
  pub greys_merged : (machines other_machines : View Machine) (greyed other_greyed : View ℕ) → length machines ≡ length other_machines → AreGreyedBy config machines greyed → AreGreyedBy config other_machines other_greyed → AreGreyedBy config (merged machines other_machines) (merged greyed other_greyed)
  greys_merged machines second_machines greyed second_greyed same_length first_greys later_greyed = record {
    numbers = length-merged greyed second_greyed (first_greys.numbers ∙ same_length ∙ sym later_greyed.numbers) ∙ first_greys.numbers ∙ sym (length-merged machines second_machines same_length);
    known = each_merged (λ number address. (is_some (machine_of (merged machines second_machines) number) ≡ true) × IsWord config (Heap address)) greyed second_greyed
        (λ number address address_there. let known_grey = first_greys.known number address address_there in (ap is_some (machine_of-merged machines second_machines number) ∙ first_there (machine_of machines number) (machine_of second_machines number) known_grey.0, known_grey.1))
        (λ number address address_there. let known_grey = later_greyed.known number address address_there in (ap is_some (machine_of-merged machines second_machines number) ∙ second_there (machine_of machines number) (machine_of second_machines number) known_grey.0, known_grey.1));
  }
    where
      first_there : (found other_found : Option Machine) → is_some found ≡ true → is_some (whichever_is_there found other_found) ≡ true
      first_there None other_found machine_there = absurd cc
      first_there (Some machine) other_found machine_there = refl

      second_there : (found other_found : Option Machine) → is_some other_found ≡ true → is_some (whichever_is_there found other_found) ≡ true
      second_there None other_found other_there = other_there
      second_there (Some machine) other_found other_there = refl

  pub greys_none : (items : View Machine) (n : ℕ) → length items ≡ n → AreGreyedBy config items (replicate n None)
  greys_none items n count = record { numbers = length-replicate n None ∙ sym count; known = λ number address address_there. absurd (none_greyed n number address address_there) }
