-- What the rule gives, of every kind of machine: it holds at the opening, each step of a machine keeps it and says what it
-- did, views may be cut and joined, and who has all machines knows one run.
use Rattle.std.specs.Prelude.{ℕ, ◌≡◌, ◌+◌, ◌<◌, Bool, true, List, [], map, length, Option, Some, None, slice_set, if◌then◌else◌, ◌==◌, ◌%◌}
use Rattle.std.specs.Option.{is_some}
use Rattle.heap_words.specs.declared.access.Access.{Access}
use Rattle.heap_words.specs.Access.{table_index, made_of}
use Rattle.atomic_table.specs.Table.{Me, Allows, Splits, Joins, Final, Seen, opening}
use Rattle.heap_words.specs.Steps.{MachineKind, Stage, Event, go, IsReached, HasReached, Finds}
use Rattle.shared_table.specs.Views.{View, machine_of, whole, machines_of, HasAllMachines, machines_picked, machines_left, merged, is_dealt_to, dealt_to, dealt_below, kept_one, kept_in_view, SameNumbers}
use Rattle.shared_table.specs.Counted.{Counted, counting, counted_from, uncounted_stage, uncounted_view, steps_in_view, uncounted_seat}
use Rattle.shared_table.specs.Rule.{Rule, Took, AreReached}

-- `S` is what slots of the table hold; no step touches one
pub record TableLaws {R O : Type 0} (S : Type 0) (kind : MachineKind R O) (start : Stage R) : Type 0 where
  -- one seat has all machines
  pub opens : (slots : List S) → Rule kind start (opening start.words slots (whole start.machines))
  -- a machine of the seat makes its access, of whichever form, and goes on with the word that it found
  pub moves : (id number : ℕ) (me : Me S (View R)) (r : R) (order : O) → machine_of me.0 number ≡ Some r → kind.takes r order ≡ true
      → (slots : ℕ) (access : Access) → kind.plan r order ≡ access
      → Allows (Rule kind start) slots id me (table_index access) (made_of access) (λ found. Took kind start number order me found)
  -- the machines whose numbers pass a test go to a new seat
  pub splits : (id : ℕ) (view : View R) (test : ℕ → Bool) → Splits (Rule kind start {S = S}) id view (machines_left test view) (machines_picked test view)
  -- one seat takes all machines of another, which then has none
  pub joins : (id other : ℕ) (view more : View R) → Joins (Rule kind start {S = S}) id view other more (merged view more) []
  -- words and machines at the end are those of one run
  pub closes : (id : ℕ) (view : View R) (words : List ℕ) (slots : List S) → HasAllMachines (length start.machines) view
      → Final (Seen (Rule kind start) id view) words slots → IsReached kind start (record { words = words; machines = machines_of view })
  -- what a step told is a word that the machine finds in some run, and what it became is reached
  pub tells : (number : ℕ) (order : O) (before after : Me S (View R)) (got : ℕ) (r : R) → Took kind start number order before got after → machine_of before.0 number ≡ Some r
      → Finds kind start number r order got × HasReached kind start number (kind.took r order got) × (after.0 ≡ slice_set before.0 number (Some (kind.took r order got)))
  -- the machines of the opening are reached
  pub begins : (number : ℕ) (r : R) → machine_of (whole start.machines) number ≡ Some r → HasReached kind start number r

-- That each machine of a bundle is reached: it is so at the opening, and stays so
pub record ReachLaws {R O : Type 0} (S : Type 0) (kind : MachineKind R O) (start : Stage R) : Type 0 where
  pub opens : AreReached kind start (whole start.machines)
  pub picked : (test : ℕ → Bool) (view : View R) → AreReached kind start view → AreReached kind start (machines_picked test view)
  pub merged : (view other_view : View R) → AreReached kind start view → AreReached kind start other_view → AreReached kind start (merged view other_view)
  pub steps : (number : ℕ) (order : O) (before after : Me S (View R)) (got : ℕ) → Took kind start number order before got after → AreReached kind start before.0 → AreReached kind start after.0

-- Machines are dealt to so many bundles in turn. Bundles are cut off from the last to the first, and joined from the first
-- to the last
pub record DealingLaws (R : Type 0) (bundles : ℕ) (view : View R) : Type 0 where
  -- the bundle has the machines whose numbers have this remainder
  pub has : (bundle number : ℕ) → machine_of (dealt_to bundles bundle view) number ≡ (if number % bundles == bundle then machine_of view number else None)
  pub all : 0 < bundles → dealt_below bundles bundles view ≡ view
  pub first : dealt_below bundles 1 view ≡ dealt_to bundles 0 view
  pub cut_off : (bundle : ℕ) → machines_picked (is_dealt_to bundles bundle) (dealt_below bundles (bundle + 1) view) ≡ dealt_to bundles bundle view
  pub left : (bundle : ℕ) → machines_left (is_dealt_to bundles bundle) (dealt_below bundles (bundle + 1) view) ≡ dealt_below bundles bundle view
  pub joined : (bundle : ℕ) → merged (dealt_below bundles bundle view) (dealt_to bundles bundle view) ≡ dealt_below bundles (bundle + 1) view
  -- the opening's view has all machines, and so has one that is cut and joined again
  pub cut_and_joined : (test : ℕ → Bool) → merged (machines_left test view) (machines_picked test view) ≡ view

-- Memory keeps of a view what `kept` gives of each of its machines. That changes as the view does
pub record KeptLaws {R T : Type 0} (kept : R → T) : Type 0 where
  pub machine : (view : View R) (number : ℕ) → machine_of (kept_in_view kept view) number ≡ kept_one kept (machine_of view number)
  pub count : (view : View R) → length (kept_in_view kept view) ≡ length view
  pub all : (machines : List R) → kept_in_view kept (whole machines) ≡ whole (map kept machines)
  pub set : (view : View R) (number : ℕ) (other : Option R) → kept_in_view kept (slice_set view number other) ≡ slice_set (kept_in_view kept view) number (kept_one kept other)
  pub picked : (test : ℕ → Bool) (view : View R) → kept_in_view kept (machines_picked test view) ≡ machines_picked test (kept_in_view kept view)
  pub merged : (view other_view : View R) → kept_in_view kept (merged view other_view) ≡ merged (kept_in_view kept view) (kept_in_view kept other_view)
  pub here : (view : View R) (number : ℕ) (t : T) → machine_of (kept_in_view kept view) number ≡ Some t → (r : R) × (machine_of view number ≡ Some r) × (kept r ≡ t)
  pub some : (view : View R) (number : ℕ) → is_some (machine_of (kept_in_view kept view) number) ≡ is_some (machine_of view number)

-- A step of a machine that memory has: what it asks, and what memory keeps afterwards
pub record StepLaws {R O T : Type 0} (S : Type 0) (kind : MachineKind R O) (start : Stage R) (kept : R → T) : Type 0 where
  pub can : (view : View R) (number : ℕ) (order : O) (t : T) (access : Access) → machine_of (kept_in_view kept view) number ≡ Some t
      → ((r : R) → kept r ≡ t → (kind.takes r order ≡ true) × (kind.plan r order ≡ access))
      → (r : R) × (machine_of view number ≡ Some r) × (kind.takes r order ≡ true) × (kind.plan r order ≡ access)
  pub finds : (number : ℕ) (order : O) (before after : Me S (View R)) (got : ℕ) (t : T) → Took kind start number order before got after → machine_of (kept_in_view kept before.0) number ≡ Some t
      → (r : R) × (kept r ≡ t) × Finds kind start number r order got
  pub goes : (number : ℕ) (order : O) (before after : Me S (View R)) (got : ℕ) (t next : T) → Took kind start number order before got after
      → machine_of (kept_in_view kept before.0) number ≡ Some t → ((r : R) → kept r ≡ t → kept (kind.took r order got) ≡ next)
      → kept_in_view kept after.0 ≡ slice_set (kept_in_view kept before.0) number (Some next)

-- A bundle keeps its numbers. Steps change none, and who has all numbers of the opening has all machines
pub record NumberLaws (R : Type 0) : Type 0 where
  pub none : (view : View R) → SameNumbers view view
  pub more : (v w x : View R) → SameNumbers v w → SameNumbers w x → SameNumbers v x
  pub step : (view : View R) (number : ℕ) (r next : R) → machine_of view number ≡ Some r → SameNumbers view (slice_set view number (Some next))
  pub joined : (v w x y : View R) → length v ≡ length x → SameNumbers v w → SameNumbers x y → SameNumbers (merged v x) (merged w y)
  pub whole : (machines : List R) (view : View R) → SameNumbers (whole machines) view → HasAllMachines (length machines) view

-- Machines that count their steps run as those that do not, and a step is counted once
pub record CountLaws {R O : Type 0} (S : Type 0) (kind : MachineKind R O) (start : Stage R) : Type 0 where
  pub runs : (events : List (Event O)) → uncounted_stage (go (counting kind) (counted_from start) events) ≡ go kind start events
  -- words and machines that are reached are so without the numbers
  pub reached : (words : List ℕ) (view : View (Counted R)) → IsReached (counting kind) (counted_from start) (record { words = words; machines = machines_of view })
      → IsReached kind start (record { words = words; machines = machines_of (uncounted_view view) })
  -- so is what a step tells
  pub tells : (number : ℕ) (order : O) (before after : Me S (View (Counted R))) (got : ℕ) → Took (counting kind) (counted_from start) number order before got after
      → Took kind start number order (uncounted_seat before) got (uncounted_seat after)
  -- its machine has made one step more, and no other machine of the view has made one
  pub counts : (number : ℕ) (order : O) (before after : Me S (View (Counted R))) (got : ℕ) → Took (counting kind) (counted_from start) number order before got after
      → (n : ℕ) × (machine_of (steps_in_view before.0) number ≡ Some n) × (steps_in_view after.0 ≡ slice_set (steps_in_view before.0) number (Some (n + 1)))
