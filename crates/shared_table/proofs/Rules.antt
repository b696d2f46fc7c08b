-- The rule holds at the opening, and each move keeps it.
use Rattle.std.proofs.Common.{◌≡◌, ℕ, Bool, true, List, [], ◌∷◌, ◌++◌, length, Option, Some, refl, sym, ap, ◌∙◌, subst, ◌<◌}
use Rattle.std.specs.Prelude.{slice_get, slice_set, slice_index}
use mathlib.Core.Option.{some}
use lib.ListN.{get_elem?}
use Rattle.heap_words.specs.declared.access.Access.{Access}
use Rattle.heap_words.specs.Access.{table_index, made_of}
use Rattle.atomic_table.specs.Table.{State, Me, keeps, Allows, Splits, Joins, Final, Seen, opening}
use Rattle.heap_words.specs.Steps.{MachineKind, Stage, Event, go, moved, IsEvent, IsReached, HasReached, Finds}
use Rattle.heap_words.proofs.Runs.{go-none, go-step, has_start}
use Rattle.heap_words.proofs.Laws.{act-event, has_next}
use Rattle.shared_table.specs.Views.{View, machine_of, whole, machines_of, machines_picked, machines_left, merged, HasAllMachines}
use Rattle.shared_table.specs.Rule.{IsDealt, IsRuleKept, Rule, Took, TookAs}
use Rattle.shared_table.specs.Laws.{TableLaws}
use Rattle.shared_table.proofs.ViewsShow.{machine_of-whole}
use Rattle.shared_table.proofs.Dealt.{dealt_first, machine-is, dealt_step, dealt_split, dealt_join}
use Rattle.shared_table.proofs.Closing.{length-go, whole_has_all}

module _ {R O : Type 0} (kind : MachineKind R O) (start : Stage R) where
  pub begins : (number : ℕ) (machine : R) → machine_of (whole start.machines) number ≡ Some machine → HasReached kind start number machine
  begins number machine machine_there = has_start kind start number machine (sym (machine_of-whole start.machines number) ∙ machine_there)

module _ {R O : Type 0} (kind : MachineKind R O) (start : Stage R) {S : Type 0} where
  pub opens : (slots : List S) → Rule kind start (opening start.words slots (whole start.machines))
  opens slots = record {
    events = [];
    words_are = ap (λ x. x.words) (sym (go-none kind start));
    dealt = subst (λ (stage : Stage R). IsDealt stage.machines (whole start.machines ∷ [])) (sym (go-none kind start)) (dealt_first start.machines);
  }

  module _ (id number : ℕ) (me : Me S (View R)) (machine : R) (order : O) (machine_seen : machine_of me.0 number ≡ Some machine) (takes : kind.takes machine order ≡ true) where
    -- the words and views after the step are those after one more event
    planned_move : (state : State S (View R)) (kept : Rule kind start state) → get_elem? state.views id ≡ some me.0
        → let found : ℕ = slice_index state.words (table_index (kind.plan machine order)) in
        let view : View R = slice_set me.0 number (Some (kind.took machine order found)) in
        IsRuleKept kind start (slice_set state.words (table_index (kind.plan machine order)) (made_of (kind.plan machine order) found)) (slice_set state.views id view)
        × Took kind start number order me found (view, me.1)
    planned_move state kept view_there =
        let stage : Stage R = go kind start kept.events in
        let event : Event O = record { number = number; order = order } in
        let machine_there : slice_get stage.machines number ≡ Some machine = machine-is stage.machines state.views kept.dealt id me.0 view_there number machine machine_seen in
        let event_taken : IsEvent kind stage event machine = record { here = machine_there; takes = takes } in
        let same_found : slice_index state.words (table_index (kind.plan machine order)) ≡ slice_index stage.words (table_index (kind.plan machine order)) = ap (λ words. slice_index words (table_index (kind.plan machine order))) kept.words_are in
        let after : go kind start (kept.events ++ event ∷ []) ≡ moved kind stage number machine order = go-step kind start kept.events event ∙ act-event kind stage event machine event_taken in
        let machine_then : R = kind.took machine order (slice_index state.words (table_index (kind.plan machine order))) in (
          record {
            events = kept.events ++ event ∷ [];
            words_are =
                ap (λ words. slice_set words (table_index (kind.plan machine order)) (made_of (kind.plan machine order) (slice_index words (table_index (kind.plan machine order))))) kept.words_are
                ∙ ap (λ y. y.words) (sym after);
            dealt =
                subst (λ (machines : List R). IsDealt machines (slice_set state.views id (slice_set me.0 number (Some machine_then))))
                (ap (λ got. slice_set stage.machines number (kind.took machine order got)) same_found ∙ ap (λ y. y.machines) (sym after))
                (dealt_step stage.machines state.views kept.dealt id me.0 view_there number machine machine_seen machine_then);
          },
          record {
            machine = machine;
            here = machine_seen;
            finds = record {
              stage = stage;
              reached = record { events = kept.events; ends = refl };
              here = machine_there;
              takes = takes;
              found = same_found;
            };
            view = refl;
            slots = refl;
          },
        )

    -- the step of a machine of the seat, whose access is this one
    pub moves : (slots : ℕ) (access : Access) → kind.plan machine order ≡ access
        → Allows (Rule kind start) slots id me (table_index access) (made_of access) (λ found. Took kind start number order me found)
    moves slots access planned =
        subst (λ (access : Access). Allows (Rule kind start) slots id me (table_index access) (made_of access) (λ found. Took kind start number order me found)) planned
        (λ state kept homes view_there small. let planned_step = planned_move state kept view_there in (_, keeps, tt, planned_step.0, planned_step.1))

  pub splits : (id : ℕ) (view : View R) (test : ℕ → Bool) → Splits (Rule kind start {S = S}) id view (machines_left test view) (machines_picked test view)
  splits id view test state rule_kept view_there = record {
    events = rule_kept.events;
    words_are = rule_kept.words_are;
    dealt = dealt_split (go kind start rule_kept.events).machines state.views rule_kept.dealt id view view_there test;
  }

  pub joins : (id joined_seat : ℕ) (view joined_view : View R) → Joins (Rule kind start {S = S}) id view joined_seat joined_view (merged view joined_view) []
  joins id joined_seat view joined_view state rule_kept view_there other_seat joined_there = record {
    events = rule_kept.events;
    words_are = rule_kept.words_are;
    dealt = dealt_join (go kind start rule_kept.events).machines state.views rule_kept.dealt id view view_there joined_seat joined_view other_seat joined_there;
  }

  pub closes : (id : ℕ) (view : View R) (words : List ℕ) (slots : List S) → HasAllMachines (length start.machines) view
      → Final (Seen (Rule kind start) id view) words slots → IsReached kind start (record { words = words; machines = machines_of view })
  closes id view words slots has_all final =
      let rule_kept : Rule kind start final.0 = final.1.0 in
      let stage : Stage R = go kind start rule_kept.events in
      let same_length : length stage.machines ≡ length start.machines = length-go kind start rule_kept.events in
      let same_machines : machines_of view ≡ stage.machines = whole_has_all stage.machines final.0.views rule_kept.dealt id view final.1.1 (subst (λ (count : ℕ). HasAllMachines count view) (sym same_length) has_all) in
      record { events = rule_kept.events; ends = λ i. record { words = (sym rule_kept.words_are ∙ final.2) i; machines = sym same_machines i } }

  -- what a step tells of a machine that one knows
  pub tells : (number : ℕ) (order : O) (before after : Me S (View R)) (got : ℕ) (machine : R) → Took kind start number order before got after → machine_of before.0 number ≡ Some machine
      → Finds kind start number machine order got × HasReached kind start number (kind.took machine order got) × (after.0 ≡ slice_set before.0 number (Some (kind.took machine order got)))
  tells number order before after got machine took machine_seen =
      let same_machine : took.machine ≡ machine = cc (took.here, machine_seen) in
      let finds : Finds kind start number machine order got = subst (λ (one_machine : R). Finds kind start number one_machine order got) same_machine took.finds in
      (finds, has_next kind start number machine order got finds, took.view ∙ ap (λ one_machine. slice_set before.0 number (Some (kind.took one_machine order got))) same_machine)

  pub laws : TableLaws S kind start
  laws = record {
    opens = opens;
    moves = moves;
    splits = splits;
    joins = joins;
    closes = closes;
    tells = tells;
    begins = begins kind start;
  }

-- The same of a table whose key says which kind and which opening, with the key, the machine and the order as a step names
-- them.
module _ {R O K : Type 0} (kinds : K → MachineKind R O) (starts : K → Stage R) (key : K) {S : Type 0} where
  names : (table_key : Option K) (named : ℕ) (given_order : Option O) (number : ℕ) (order : O) (before : Me S (View R)) (got : ℕ) (after : Me S (View R))
      → table_key ≡ Some key → named ≡ number → given_order ≡ Some order → Took (kinds key) (starts key) number order before got after → TookAs kinds starts table_key named given_order before got after
  names table_key named given_order number order before got after same_key same_number same_order took asked_key asked_order is_key is_order =
      let key_is : key ≡ asked_key = cc (same_key, is_key) in
      let order_is : order ≡ asked_order = cc (same_order, is_order) in
      let took_asked : Took (kinds key) (starts key) number asked_order before got after = subst (λ (some_order : O). Took (kinds key) (starts key) number some_order before got after) order_is took in
      let took_named : Took (kinds key) (starts key) named asked_order before got after = subst (λ (some_number : ℕ). Took (kinds key) (starts key) some_number asked_order before got after) (sym same_number) took_asked in
      subst (λ (some_key : K). Took (kinds some_key) (starts some_key) named asked_order before got after) key_is took_named

  -- what a step of the table asks, where the access has this form
  pub can_step : (id number : ℕ) (me : Me S (View R)) (order : O) (slots words : ℕ) (table_key : Option K) (named : ℕ) (given_order : Option O) (access form : Access)
      → (table_key ≡ Some key) × (named ≡ number) × (given_order ≡ Some order)
      → (machine : R) × (machine_of me.0 number ≡ Some machine) × ((kinds key).takes machine order ≡ true) × ((kinds key).plan machine order ≡ access)
      → table_index access < words → access ≡ form
      → (table_index form < words) × Allows (Rule (kinds key) (starts key)) slots id me (table_index form) (made_of form) (TookAs kinds starts table_key named given_order me)
  can_step id number me order slots words table_key named given_order access form turn planned inside same_access = (
    subst (λ (access : Access). table_index access < words) same_access inside,
    (λ state kept homes view_there small.
        let step = moves (kinds key) (starts key) id number me planned.0 order planned.1 planned.2 slots form (planned.3 ∙ same_access) state kept homes view_there small in
        (step.0, step.1, step.2, step.3, names table_key named given_order number order me _ _ turn.0 turn.1 turn.2 step.4)),
  )

  -- what a step of the table tells
  pub step_told : (number : ℕ) (before : Me S (View R)) (order : O) (table_key : Option K) (named : ℕ) (given_order : Option O) (got : ℕ) (after : Me S (View R))
      → (table_key ≡ Some key) × (named ≡ number) × (given_order ≡ Some order) → TookAs kinds starts table_key named given_order before got after → Took (kinds key) (starts key) number order before got after
  step_told number before order table_key named given_order got after turn told_as =
      subst (λ (some_number : ℕ). Took (kinds key) (starts key) some_number order before got after) turn.1 (told_as key order turn.0 turn.2)
