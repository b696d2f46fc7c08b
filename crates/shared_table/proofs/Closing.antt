-- Who has all machines has those of the run.
use Rattle.std.proofs.Common.{◌≡◌, ℕ, suc, List, [], ◌∷◌, length, refl, sym, ap, ◌∙◌}
use mathlib.Core.Option.{some}
use lib.ListN.{get_elem?}
use Rattle.heap_words.specs.Steps.{MachineKind, Stage, Event, go}
use Rattle.heap_words.proofs.Runs.{go-keeps}
use Rattle.heap_words.proofs.Laws.{length-machines, length-words}
use Rattle.shared_table.specs.Views.{View, machine_of, whole, machines_of, HasAllMachines}
use Rattle.shared_table.specs.Rule.{IsDealt}
use Rattle.shared_table.proofs.ViewsShow.{machine_of-whole, same_elements}
use Rattle.shared_table.proofs.Dealt.{machine-is}

module _ {R O : Type 0} (kind : MachineKind R O) (start : Stage R) where
  pub length-go : (events : List (Event O)) → length (go kind start events).machines ≡ length start.machines
  length-go events = go-keeps kind (λ stage. length stage.machines ≡ length start.machines) (λ stage event same_length. length-machines kind stage event ∙ same_length) start events refl

  pub length-go_words : (events : List (Event O)) → length (go kind start events).words ≡ length start.words
  length-go_words events = go-keeps kind (λ stage. length stage.words ≡ length start.words) (λ stage event same_length. length-words kind stage event ∙ same_length) start events refl

module _ {R : Type 0} where
  pub length-whole : (machines : List R) → length (whole machines) ≡ length machines
  length-whole [] = refl
  length-whole (machine ∷ rest) = ap suc (length-whole rest)

  pub machines_of-whole : (machines : List R) → machines_of (whole machines) ≡ machines
  machines_of-whole [] = refl
  machines_of-whole (machine ∷ rest) = let rest_same = machines_of-whole rest in cc

  pub whole-is : (machines : List R) → HasAllMachines (length machines) (whole machines)
  whole-is machines = record { all = ap whole (sym (machines_of-whole machines)); counts = length-whole machines }

  pub whole_has_all : (machines : List R) (views : List (View R)) → IsDealt machines views → (id : ℕ) (view : View R) → get_elem? views id ≡ some view → HasAllMachines (length machines) view → machines_of view ≡ machines
  whole_has_all machines views dealt id view view_at has_all =
      sym (same_elements machines (machines_of view)
      (sym has_all.counts ∙ ap length has_all.all ∙ length-whole (machines_of view))
      (λ number machine has_machine. machine-is machines views dealt id view view_at number machine (ap (λ x. machine_of x number) has_all.all ∙ machine_of-whole (machines_of view) number ∙ has_machine)))
