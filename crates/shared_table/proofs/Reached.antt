-- Each machine of a bundle stands as it does in some run.
use Rattle.std.proofs.Common.{◌≡◌, ℕ, Bool, true, false, Option, Some, None, refl, sym, ap, ◌∙◌, subst}
use Rattle.std.specs.Prelude.{◌==◌, if◌then◌else◌}
use Rattle.std.proofs.lemmas.Bool.Decides.{nat_tests}
use Rattle.std.proofs.Common.{arith}
use Rattle.atomic_table.specs.Table.{Me}
use Rattle.heap_words.specs.Steps.{MachineKind, Stage, HasReached}
use Rattle.shared_table.specs.Views.{View, machine_of, whole, machines_picked, merged, whichever_is_there}
use Rattle.shared_table.specs.Rule.{Took, AreReached}
use Rattle.shared_table.specs.Laws.{ReachLaws}
use Rattle.shared_table.proofs.ViewsShow.{machine_of-picked, machine_of-merged, machine_of-set}
use Rattle.shared_table.proofs.Rules.{begins, tells}

module _ {R O : Type 0} (kind : MachineKind R O) (start : Stage R) where
  pub reached_opens : AreReached kind start (whole start.machines)
  reached_opens number machine has_machine = ∣ begins kind start number machine has_machine ∣₁

  pub reached_picked : (test : ℕ → Bool) (view : View R) → AreReached kind start view → AreReached kind start (machines_picked test view)
  reached_picked test view each_reached number machine has_machine = each_reached number machine (by_test (test number) (sym (machine_of-picked test view number) ∙ has_machine))
    where
      by_test : (holds : Bool) → (if holds then machine_of view number else None) ≡ Some machine → machine_of view number ≡ Some machine
      by_test true picked_machine = picked_machine
      by_test false picked_machine = cc

  pub reached_merged : (view other_view : View R) → AreReached kind start view → AreReached kind start other_view → AreReached kind start (merged view other_view)
  reached_merged view other_view each_reached other_reached number machine has_machine = by_machine (machine_of view number) refl (sym (machine_of-merged view other_view number) ∙ has_machine)
    where
      by_machine : (found : Option R) → machine_of view number ≡ found → whichever_is_there (machine_of view number) (machine_of other_view number) ≡ Some machine → ∥ HasReached kind start number machine ∥₁
      by_machine None view_found merged_has = other_reached number machine (sym (ap (λ own_found. whichever_is_there own_found (machine_of other_view number)) view_found) ∙ merged_has)
      by_machine (Some own_machine) view_found merged_has = each_reached number machine (view_found ∙ sym (ap (λ own_found. whichever_is_there own_found (machine_of other_view number)) view_found) ∙ merged_has)

  pub reached_step : {S : Type 0} (number : ℕ) (order : O) (before after : Me S (View R)) (got : ℕ) → Took kind start number order before got after → AreReached kind start before.0 → AreReached kind start after.0
  reached_step number order before after got took each_reached thread machine has_machine = by_number (thread == number) refl
    where
      next : R
      next = kind.took took.machine order got

      there : (if thread == number then Some (kind.took took.machine order got) else machine_of before.0 thread) ≡ Some machine
      there = sym (machine_of-set before.0 number took.machine (Some (kind.took took.machine order got)) took.here thread) ∙ sym (ap (λ any_view. machine_of any_view thread) took.view) ∙ has_machine

      by_number : (holds : Bool) → (thread == number) ≡ holds → ∥ HasReached kind start thread machine ∥₁
      by_number true thread_test =
          let same_thread : thread ≡ number = grind (arith, nat_tests) in
          let new : kind.took took.machine order got ≡ machine = let machine_there = there in cc (rw thread_test at there) in
          let reached = (tells kind start number order before after got took.machine took took.here).1 in
          ∣ subst (λ (number : ℕ). HasReached kind start number machine) (sym same_thread) (subst (λ (some_machine : R). HasReached kind start number some_machine) new reached) ∣₁
      by_number false thread_test = each_reached thread machine (rw thread_test at there)

  pub reach_laws : {S : Type 0} → ReachLaws S kind start
  reach_laws = record { opens = reached_opens; picked = reached_picked; merged = reached_merged; steps = reached_step }
