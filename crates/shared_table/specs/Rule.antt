-- The rule of a table whose words threads change by the steps of machines, each thread those of its own bundle. It knows
-- nothing of the machines but that they are of one kind.
use Rattle.std.specs.Prelude.{ℕ, ◌≡◌, ◌==◌, List, Option, Some, None, slice_get, slice_set, if◌then◌else◌}
use Rattle.atomic_table.specs.Table.{State, Me}
use Rattle.heap_words.specs.Steps.{MachineKind, Stage, Event, go, HasReached, Finds}
use Rattle.shared_table.specs.Views.{View, machine_of, seen_under}

-- each machine is in one view, that of its owner, and in no other. No view has a machine that there is not
pub record IsDealt {R : Type 0} (machines : List R) (views : List (View R)) : Type 0 where
  pub owner : ℕ → ℕ
  pub shows : (seat number : ℕ) → seen_under views seat number ≡ (if seat == owner number then slice_get machines number else None)

module _ {R O : Type 0} (kind : MachineKind R O) (start : Stage R) where
  -- some events lead from the start to these words, and to the machines of all views
  pub record IsRuleKept (words : List ℕ) (views : List (View R)) : Type 0 where
    pub events : List (Event O)
    pub words_are : words ≡ (go kind start events).words
    pub dealt : IsDealt (go kind start events).machines views

  abbrev pub Rule : {S : Type 0} → State S (View R) → Type 0
  Rule state = IsRuleKept state.words state.views

  -- what a step of a machine tells: the machine was there, it took the order and found this word, and goes on from it. No
  -- other machine of the bundle has changed, and no slot
  pub record Took {S : Type 0} (number : ℕ) (order : O) (before : Me S (View R)) (got : ℕ) (after : Me S (View R)) : Type 0 where
    pub machine : R
    pub here : machine_of before.0 number ≡ Some machine
    pub finds : Finds kind start number machine order got
    pub view : after.0 ≡ slice_set before.0 number (Some (kind.took machine order got))
    pub slots : after.1 ≡ before.1

  -- each machine of the view stands as it does in some run
  abbrev pub AreReached : View R → Type 0
  AreReached view = (number : ℕ) (machine : R) → machine_of view number ≡ Some machine → ∥ HasReached kind start number machine ∥₁

-- the same, of a table whose key says which kind and which opening, where key and order are named
abbrev pub TookAs : {R O K S : Type 0} → (K → MachineKind R O) → (K → Stage R) → Option K → ℕ → Option O → Me S (View R) → ℕ → Me S (View R) → Type 0
TookAs {R} {O} {K} {S} kinds starts key number order before got after =
    (named_key : K) (named_order : O) → key ≡ Some named_key → order ≡ Some named_order → Took (kinds named_key) (starts named_key) number named_order before got after
