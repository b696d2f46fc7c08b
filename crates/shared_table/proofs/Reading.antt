-- A load keeps the rule, and tells who has all machines that they stand as a run left them.
use Rattle.std.proofs.Common.{◌≡◌, ℕ, zero, suc, List, [], ◌∷◌, length, Option, Some, refl, sym, ◌∙◌, subst}
use Rattle.std.specs.Prelude.{slice_set, slice_index}
use mathlib.Core.Option.{some}
use lib.ListN.{get_elem?}
use Rattle.atomic_table.specs.Table.{State, Me, keeps, Allows}
use Rattle.heap_words.specs.Steps.{MachineKind, Stage, go}
use Rattle.shared_table.specs.Views.{View, machines_of, HasAllMachines}
use Rattle.shared_table.specs.Rule.{IsDealt, Rule}
use Rattle.shared_table.proofs.Closing.{length-go, whole_has_all}
use Rattle.shared_table.specs.Gathered.{StandInSomeRun, TellsOfRun}

same_words : (words : List ℕ) (index : ℕ) → slice_set words index (slice_index words index) ≡ words
same_words [] index = refl
same_words (word ∷ rest) zero = refl
same_words (word ∷ rest) (suc later_index) = λ i. word ∷ same_words rest later_index i

same_some : {A : Type 0} (x y : A) → some x ≡ some y → x ≡ y
same_some x y somes_same = cc

same_views : {V : Type 0} (views : List V) (id : ℕ) (view : V) → get_elem? views id ≡ some view → slice_set views id view ≡ views
same_views [] id view has_view = refl
same_views (first ∷ rest) zero view has_view = λ i. sym (same_some first view has_view) i ∷ rest
same_views (first ∷ rest) (suc id) view has_view = λ i. first ∷ same_views rest id view has_view i

module _ {R O : Type 0} (kind : MachineKind R O) (start : Stage R) {S : Type 0} where
  run_of_all : (state : State S (View R)) → Rule kind start state → (id : ℕ) (view : View R) → get_elem? state.views id ≡ some view → HasAllMachines (length start.machines) view → StandInSomeRun kind start view
  run_of_all state kept_rule id view view_at has_all =
      let stage : Stage R = go kind start kept_rule.events in
      let same_length : length stage.machines ≡ length start.machines = length-go kind start kept_rule.events in
      let same_machines : machines_of view ≡ stage.machines = whole_has_all stage.machines state.views kept_rule.dealt id view view_at (subst (λ (count : ℕ). HasAllMachines count view) (sym same_length) has_all) in
      record { words = stage.words; reached = record { events = kept_rule.events; ends = λ i. record { words = stage.words; machines = sym same_machines i } } }

module _ {R O K S : Type 0} (kinds : K → MachineKind R O) (starts : K → Stage R) (key : K) where
  pub reads : (named : Option K) → named ≡ Some key → (slots id : ℕ) (me : Me S (View R)) → Allows (Rule (kinds key) (starts key)) slots id me 0 (λ value. value) (λ found. TellsOfRun kinds starts named me)
  reads named name_is slots id me state kept_rule long view_at bound = (
    me.0,
    keeps,
    tt,
    record {
      events = kept_rule.events;
      words_are = same_words state.words 0 ∙ kept_rule.words_are;
      dealt = subst (λ views. IsDealt (go (kinds key) (starts key) kept_rule.events).machines views) (sym (same_views state.views id me.0 view_at)) kept_rule.dealt;
    },
    (
      refl,
      λ named_key is_key has_all.
          let same_key : key ≡ named_key = cc (name_is, is_key) in
          subst (λ any_key. HasAllMachines (length (starts any_key).machines) me.0 → StandInSomeRun (kinds any_key) (starts any_key) me.0) same_key (run_of_all (kinds key) (starts key) state kept_rule id me.0 view_at) has_all,
    ),
  )
