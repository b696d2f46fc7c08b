-- The numbers under which a view has machines.
use Rattle.std.proofs.Common.{◌≡◌, ℕ, zero, suc, Bool, true, false, List, [], ◌∷◌, length, Option, Some, None, refl, sym, ap, ◌∙◌, ◌<◌, ◌||◌, arith}
use Rattle.std.specs.Prelude.{slice_set, ◌==◌, if◌then◌else◌}
use Rattle.std.specs.Option.{is_some}
use Rattle.std.proofs.lemmas.List.{length-set}
use Rattle.std.proofs.lemmas.Bool.Decides.{nat_tests}
use Rattle.shared_table.specs.Views.{View, machine_of, whole, machines_of, HasAllMachines, merged, whichever_is_there, SameNumbers}
use Rattle.shared_table.specs.Laws.{NumberLaws}
use Rattle.shared_table.proofs.ViewsShow.{machine_of-set, machine_of-merged}
use Rattle.shared_table.proofs.Closing.{length-whole}
use Rattle.shared_table.proofs.Dealing.{length-merged}

module _ {R : Type 0} where
  pub same_none : (view : View R) → SameNumbers view view
  same_none view = record { long = refl; here = λ thread. refl }

  pub same_more : (old_view next_view last_view : View R) → SameNumbers old_view next_view → SameNumbers next_view last_view → SameNumbers old_view last_view
  same_more view other_view last_view same_numbers later_same = record { long = later_same.long ∙ same_numbers.long; here = λ thread. later_same.here thread ∙ same_numbers.here thread }

  -- a machine goes on
  pub same_step : (view : View R) (number : ℕ) (machine next_machine : R) → machine_of view number ≡ Some machine → SameNumbers view (slice_set view number (Some next_machine))
  same_step view number machine next_machine has_machine = record {
    long = length-set _ _ _;
    here = λ asked_thread. ap is_some (machine_of-set view number machine (Some next_machine) has_machine asked_thread) ∙ by_number asked_thread (asked_thread == number) refl;
  }
    where
      by_number : (thread : ℕ) (holds : Bool) → (thread == number) ≡ holds → is_some (if thread == number then Some next_machine else machine_of view thread) ≡ is_some (machine_of view thread)
      by_number thread true thread_test = let same_thread : thread ≡ number = grind (arith, nat_tests) in rw thread_test (sym (ap is_some (ap (machine_of view) same_thread ∙ has_machine)))
      by_number thread false thread_test = rw thread_test refl

  some_of : (found other_found : Option R) → is_some (whichever_is_there found other_found) ≡ (is_some found || is_some other_found)
  some_of None found = refl
  some_of (Some machine) found = refl

  -- bundles are joined
  pub same_merged : (old_view new_view second other_second : View R) → length old_view ≡ length second → SameNumbers old_view new_view → SameNumbers second other_second → SameNumbers (merged old_view second) (merged new_view other_second)
  same_merged view other_view second other_second same_length same_numbers second_same = record {
    long = length-merged other_view other_second (same_numbers.long ∙ same_length ∙ sym second_same.long) ∙ same_numbers.long ∙ sym (length-merged view second same_length);
    here = λ thread.
        ap is_some (machine_of-merged other_view other_second thread) ∙ some_of (machine_of other_view thread) (machine_of other_second thread)
        ∙ ap (λ holds. holds || is_some (machine_of other_second thread)) (same_numbers.here thread) ∙ ap (λ holds. is_some (machine_of view thread) || holds) (second_same.here thread)
        ∙ sym (ap is_some (machine_of-merged view second thread) ∙ some_of (machine_of view thread) (machine_of second thread));
  }

  -- where each number has its machine, the view has all
  pub all_here : (view : View R) → ((index : ℕ) → index < length view → is_some (machine_of view index) ≡ true) → view ≡ whole (machines_of view)
  all_here [] each_there = refl
  all_here (None ∷ rest) each_there = absurd (let first_there = each_there 0 (omega arith) in cc)
  all_here (Some machine ∷ rest) each_there = ap (λ (tail : View R). Some machine ∷ tail) (all_here rest (λ index within. each_there (suc index) (omega arith)))

  pub whole_here : (machines : List R) (index : ℕ) → index < length machines → is_some (machine_of (whole machines) index) ≡ true
  whole_here [] index within = absurd (omega arith)
  whole_here (machine ∷ rest) zero within = refl
  whole_here (machine ∷ rest) (suc index) within = whole_here rest index (omega arith)

  -- the machines of the opening have gone on
  pub same_whole : (machines : List R) (view : View R) → SameNumbers (whole machines) view → HasAllMachines (length machines) view
  same_whole machines view same_numbers = record {
    all = all_here view (λ index within. same_numbers.here index ∙ whole_here machines index (let same_length : length view ≡ length machines = same_numbers.long ∙ length-whole machines in omega arith));
    counts = same_numbers.long ∙ length-whole machines;
  }

  pub number_laws : NumberLaws R
  number_laws = record { none = same_none; more = same_more; step = same_step; joined = same_merged; whole = same_whole }
