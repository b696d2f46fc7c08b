-- How large the numbers of the workload can be, and how many replies it has.
use Rattle.std.proofs.Common.{ℕ, zero, suc, ◌≡◌, ◌+◌, ◌*◌, ◌<◌, ◌≤◌, ◌⊎◌, Bool, true, false, List, [], ◌∷◌, ◌++◌, length, get_or, set, replicate, Option, Some, None, refl, ap, ◌∙◌, sym, subst, inl, inr, arith, length-append, get_or-set_same, get_or-set_other, length-set}
use Rattle.std.specs.Prelude.{if◌then◌else◌, sum_by, unwrap_or}
use Rattle.std.specs.List.{AllByRecursion, flat_map, range_with_len}
use Rattle.std.proofs.lemmas.Bool.{cases_lt}
use Rattle.std.proofs.lemmas.Bool.Decides.{eqb_tells}
use Rattle.std.proofs.lemmas.List.{get_or_past, get_or-replicate, length-replicate, length-map}
use Rattle.std.proofs.lemmas.List.Sums.{sum_by-cons}
use Rattle.std.proofs.lemmas.Option.{get_or_from_slice_get}
use Rattle.shen_graph.proofs.Lists.{all_append}
use Rattle.shen_graph.specs.declared.command.Command.{Command}
use Rattle.shen_graph.specs.declared.command.Command.TheVariants.{New, Get, Set, Cas, Xchg, Rd, Wr, Copy, Drop, Same, Gc, Pin, Unpin}
use Rattle.shen_graph.specs.declared.command.Reply.{Reply}
use Rattle.shen_graph.specs.declared.command.Reply.TheVariants as reply
use Rattle.shen_graph.specs.declared.name.Name.{Name}
use Rattle.shen_graph.specs.Graph.{Graph, Object, Reference, named, same_reference, field_at, number_at, with_root, with_object, with_named, with_field, with_number, with_pin, fresh, blank, hub, same_name, opening}
use Rattle.shen_graph.specs.Step.{Outcome, IsLegal, outcome, answers, on, shown, yes_or_no}
use Rattle.shen_graph.specs.History.{Entry, after_entry, EachIsLegal, of_thread, commands_of, replies_of, Follows}
use Rattle.churn.specs.Script.{round, churn_script, churn_scripts}
use Rattle.churn.specs.Summary.{number_summed}
use Rattle.churn.specs.Laws.{in_turn}
use Rattle.churn.proofs.Belongings.{IsThread}
use Rattle.churn.proofs.Moves.{object_case}
use Rattle.churn.proofs.BelowTheHub.{of_thread-here, of_thread-there, thread_or_not}
use Rattle.churn.proofs.Opening.{script_is, script_none}

-- no number of an object is above
abbrev pub AreBelow : ℕ → Object → Type 0
AreBelow limit object = (index : ℕ) → get_or object.nums index 0 ≤ limit

abbrev pub IsBelow : ℕ → Graph → Type 0
IsBelow limit graph = (name : Name) → AreBelow limit (named graph (Some name))

-- a command writes no number above
abbrev pub WritesBelow : ℕ → Command → Type 0
WritesBelow limit (Wr obj index value) = value ≤ limit
WritesBelow limit _ = Unit {0}

-- no number is told above, and none is left
pub record Below (most : ℕ) (o : Outcome) : Type 0 where
  pub told : number_summed o.reply ≤ most
  pub left : IsBelow most o.graph

null_below : (limit : ℕ) (graph : Graph) (reference : Reference) → IsBelow limit graph → AreBelow limit (named graph reference)
null_below limit graph None graph_below = λ index. subst (λ (number : ℕ). number ≤ limit) (sym (get_or_past [] index 0 (omega arith))) (omega arith)
null_below limit graph (Some name) graph_below = graph_below name

object_below : (limit : ℕ) (graph : Graph) (name : Name) (object : Object) → IsBelow limit graph → AreBelow limit object → IsBelow limit (with_object graph name object)
object_below limit graph name object graph_below numbers_below other_name = object_case (AreBelow limit) graph other_name name object (λ _. numbers_below) (graph_below other_name)

named_below : (limit : ℕ) (graph : Graph) (reference : Reference) (object : Object) → IsBelow limit graph → AreBelow limit object → IsBelow limit (with_named graph reference object)
named_below limit graph None object graph_below numbers_below = graph_below
named_below limit graph (Some name) object graph_below numbers_below = object_below limit graph name object graph_below numbers_below

field_below : (limit : ℕ) (graph : Graph) (thread index slot : ℕ) (reference : Reference) → IsBelow limit graph → IsBelow limit (with_field graph thread index slot reference)
field_below limit graph thread index slot reference graph_below = named_below limit graph (graph.root thread index) _ graph_below (null_below limit graph (graph.root thread index) graph_below)

set_below : (limit : ℕ) (xs : List ℕ) (index value : ℕ) → ((asked_index : ℕ) → get_or xs asked_index 0 ≤ limit) → value ≤ limit → (asked_index : ℕ) → get_or (set xs index value) asked_index 0 ≤ limit
set_below limit xs index value list_below value_below asked_index =
    elim (eqb_tells asked_index index) [
      | inl index_test ↦ subst (λ (asked_index : ℕ). get_or (set xs index value) asked_index 0 ≤ limit) (sym index_test.1) (at_place (cases_lt index (length xs)))
      | inr index_test ↦ subst (λ (x : ℕ). x ≤ limit) (sym (get_or-set_other xs index asked_index value 0 index_test.1)) (list_below asked_index)
    ]
  where
    at_place : (index < length xs) ⊎ (length xs ≤ index) → get_or (set xs index value) index 0 ≤ limit
    at_place (inl index_within) = subst (λ (number : ℕ). number ≤ limit) (sym (get_or-set_same xs index value 0 index_within)) value_below
    at_place (inr index_past) = subst (λ (number : ℕ). number ≤ limit) (sym (get_or_past (set xs index value) index 0 (omega (arith, length-set xs index value)))) (omega arith)

number_below : (limit : ℕ) (graph : Graph) (thread index place value : ℕ) → IsBelow limit graph → value ≤ limit → IsBelow limit (with_number graph thread index place value)
number_below limit graph thread index place value graph_below value_below =
    named_below limit graph (graph.root thread index) _ graph_below (set_below limit (named graph (graph.root thread index)).nums place value (null_below limit graph (graph.root thread index) graph_below) value_below)

zeros_below : (limit nums index : ℕ) → get_or (replicate nums 0) index 0 ≤ limit
zeros_below limit nums index =
    elim (cases_lt index nums) [
      | inl within ↦ subst (λ (number : ℕ). number ≤ limit) (sym (get_or-replicate nums index 0 0 within)) (omega arith)
      | inr index_past ↦ subst (λ (number : ℕ). number ≤ limit) (sym (get_or_past (replicate nums 0) index 0 (omega (arith, length-replicate {A = ℕ} nums 0)))) (omega arith)
    ]

on_below : {A : Type 0} (limit : ℕ) (found : Option A) (graph : Graph) (f : A → Outcome) → IsBelow limit graph → ((value : A) → found ≡ Some value → Below limit (f value)) → Below limit (on found graph f)
on_below limit None graph f graph_below each_below = record { told = omega arith; left = graph_below }
on_below limit (Some value) graph f graph_below each_below = each_below value refl

shown_below : (limit : ℕ) (reference : Reference) → number_summed (shown reference) ≤ limit
shown_below limit None = omega arith
shown_below limit (Some name) = omega arith

either_below : (limit : ℕ) (holds : Bool) → number_summed (yes_or_no holds) ≤ limit
either_below limit true = omega arith
either_below limit false = omega arith

outcome_below : (limit : ℕ) (graph : Graph) (thread : ℕ) (command : Command) → IsBelow limit graph → WritesBelow limit command → Below limit (outcome graph thread command)
outcome_below limit graph thread (New dst refs nums) graph_below writes_below =
    record { told = omega arith; left = object_below limit graph (fresh graph thread) (blank refs nums) graph_below (zeros_below limit nums) }
outcome_below limit graph thread (Get dst src field) graph_below writes_below =
    on_below limit (field_at graph thread src field) graph (λ got. answers (shown got) (with_root graph thread dst got)) graph_below (λ reference _. record { told = shown_below limit reference; left = graph_below })
outcome_below limit graph thread (Set obj field val) graph_below writes_below =
    on_below limit (field_at graph thread obj field) graph (λ _. answers reply.Ok (with_field graph thread obj field (graph.root thread val))) graph_below
    (λ got _. record { told = omega arith; left = field_below limit graph thread obj field (graph.root thread val) graph_below })
outcome_below limit graph thread (Cas obj field expect val) graph_below writes_below =
    on_below limit (field_at graph thread obj field) graph (λ got. if same_reference got (graph.root thread expect) then answers reply.Yes (with_field graph thread obj field (graph.root thread val)) else answers reply.No graph) graph_below
    (λ got _. elim (same_reference got (graph.root thread expect)) as (λ compared. Below limit (if compared then answers reply.Yes (with_field graph thread obj field (graph.root thread val)) else answers reply.No graph))
    [ true ↦ record { told = omega arith; left = field_below limit graph thread obj field (graph.root thread val) graph_below } | false ↦ record { told = omega arith; left = graph_below } ])
outcome_below limit graph thread (Xchg dst obj field val) graph_below writes_below =
    on_below limit (field_at graph thread obj field) graph (λ got. answers (shown got) (with_root (with_field graph thread obj field (graph.root thread val)) thread dst got)) graph_below
    (λ reference _. record { told = shown_below limit reference; left = field_below limit graph thread obj field (graph.root thread val) graph_below })
outcome_below limit graph thread (Rd obj index) graph_below writes_below =
    on_below limit (number_at graph thread obj index) graph (λ number_read. answers (reply.Number number_read) graph) graph_below
    (λ got found_value. record { told = subst (λ (number : ℕ). number ≤ limit) (get_or_from_slice_get (named graph (graph.root thread obj)).nums index got 0 found_value) (null_below limit graph (graph.root thread obj) graph_below index); left = graph_below })
outcome_below limit graph thread (Wr obj index value) graph_below writes_below =
    on_below limit (number_at graph thread obj index) graph (λ _. answers reply.Ok (with_number graph thread obj index value)) graph_below
    (λ got _. record { told = omega arith; left = number_below limit graph thread obj index value graph_below writes_below })
outcome_below limit graph thread (Copy dst src) graph_below writes_below = record { told = omega arith; left = graph_below }
outcome_below limit graph thread (Drop dst) graph_below writes_below = record { told = omega arith; left = graph_below }
outcome_below limit graph thread (Same index other_index) graph_below writes_below = record { told = either_below limit (same_reference (graph.root thread index) (graph.root thread other_index)); left = graph_below }
outcome_below limit graph thread Gc graph_below writes_below = record { told = omega arith; left = graph_below }
outcome_below limit graph thread (Pin slot obj) graph_below writes_below = record { told = omega arith; left = graph_below }
outcome_below limit graph thread (Unpin slot) graph_below writes_below =
    on_below limit (graph.pin thread slot) graph (λ _. answers reply.Ok (with_pin graph thread slot None)) graph_below (λ got _. record { told = omega arith; left = graph_below })

-- an entry

legal_below : (limit : ℕ) (graph next_graph : Graph) (thread : ℕ) (command : Command) (answer : Reply) → IsBelow limit graph → WritesBelow limit command → IsLegal 16 256 graph thread command answer next_graph → Below limit (answers answer next_graph)
legal_below limit graph next_graph thread command answer graph_below writes legal_answer =
    elim legal_answer [
      | inl served ↦ subst (Below limit) (sym served.1) (outcome_below limit graph thread command graph_below writes)
      | inr later ↦ elim later [
        | inl heap_full ↦ record {
          told = subst (λ (answer : Reply). number_summed answer ≤ limit) (sym heap_full.1) (omega arith);
          left = subst (IsBelow limit) (sym heap_full.2) graph_below;
        }
        | inr pinning ↦ record {
          told = subst (λ (answer : Reply). number_summed answer ≤ limit) (sym pinning.reply) (omega arith);
          left = subst (IsBelow limit) (sym pinning.graph) graph_below;
        }
      ]
    ]

told_below : (limit : ℕ) (graph : Graph) (entries : List Entry) → IsBelow limit graph → AllByRecursion (λ some_entry. WritesBelow limit some_entry.command) entries → EachIsLegal 16 256 graph entries → AllByRecursion (λ some_reply. number_summed some_reply ≤ limit) (replies_of entries)
told_below limit graph [] graph_below writes legal = tt
told_below limit graph (entry ∷ entries) graph_below writes legal =
    let answer_below = legal_below limit graph (after_entry graph entry) entry.thread entry.command entry.reply graph_below writes.0 legal.0 in
    (answer_below.told, told_below limit (after_entry graph entry) entries answer_below.left writes.1 legal.1)

pub sum_below : (limit : ℕ) (replies : List Reply) → AllByRecursion (λ some_reply. number_summed some_reply ≤ limit) replies → sum_by number_summed replies ≤ length replies * limit
sum_below limit [] all_below = omega arith
sum_below limit (answer ∷ replies) all_below =
    let rest_below = sum_below limit replies all_below.1 in
    let answer_below : number_summed answer ≤ limit = all_below.0 in
    let cons = sum_by-cons number_summed answer replies in
    let count : length (answer ∷ replies) * limit ≡ length replies * limit + limit = omega arith in
    omega arith

-- what holds of all commands of all scripts holds of the command of each entry

pub each_command : (P : Command → Type 0) (entries : List Entry) → ((thread : ℕ) → AllByRecursion P (commands_of (of_thread entries thread))) → AllByRecursion (λ some_entry. P some_entry.command) entries
each_command P [] each_thread = tt
each_command P (entry ∷ later_entries) each_thread =
    let own_commands : AllByRecursion P (entry.command ∷ commands_of (of_thread later_entries entry.thread)) =
    subst (λ (entries : List Entry). AllByRecursion P (commands_of entries)) (of_thread-here entry later_entries) (each_thread entry.thread) in (
      own_commands.0,
      each_command P later_entries (λ thread. elim (eqb_tells thread entry.thread) as (λ _. AllByRecursion P (commands_of (of_thread later_entries thread))) [
        | inl thread_test ↦ subst (λ (asked_thread : ℕ). AllByRecursion P (commands_of (of_thread later_entries asked_thread))) (sym thread_test.1) own_commands.1
        | inr thread_test ↦ subst (λ (entries : List Entry). AllByRecursion P (commands_of entries)) (of_thread-there entry later_entries thread thread_test.1) (each_thread thread)
      ]),
    )

rounds_below : (seed count start rounds : ℕ) → start + rounds ≤ count → AllByRecursion (WritesBelow (seed + count)) (flat_map (round seed) (range_with_len start rounds))
rounds_below seed count start zero rounds_within = tt
rounds_below seed count start (suc rounds) rounds_within =
    all_append (WritesBelow (seed + count)) (round seed start) (flat_map (round seed) (range_with_len (start + 1) rounds))
    (tt, (omega arith, (tt, (tt, (tt, (tt, (tt, (tt, tt)))))))) (rounds_below seed count (start + 1) rounds (omega arith))

script_below : (seed count thread : ℕ) → AllByRecursion (WritesBelow (seed + count)) (churn_script seed count thread)
script_below seed count thread = (tt, (tt, rounds_below seed count 0 count (omega arith)))

commands_below : (seed count : ℕ) (entries : List Entry) → Follows (churn_scripts seed count) entries → AllByRecursion (λ entry. WritesBelow (seed + count) entry.command) entries
commands_below seed count entries entries_follow =
    each_command (WritesBelow (seed + count)) entries (λ thread. elim (thread_or_not thread) [
      | inl is_thread ↦ subst (AllByRecursion (WritesBelow (seed + count))) (sym (entries_follow thread ∙ script_is seed count thread is_thread)) (script_below seed count thread)
      | inr no_thread ↦ subst (AllByRecursion (WritesBelow (seed + count))) (sym (entries_follow thread ∙ script_none seed count thread no_thread)) tt
    ])

begins_below : (limit : ℕ) → IsBelow limit (opening 3)
begins_below limit name = at (same_name name hub) refl
  where
    at : (holds : Bool) → same_name name hub ≡ holds → AreBelow limit (unwrap_or (if same_name name hub then Some (blank 16 0) else None) (record { refs = []; nums = [] }))
    at true hub_test index = rw hub_test (subst (λ (number : ℕ). number ≤ limit) (sym (get_or_past [] index 0 (omega arith))) (omega arith))
    at false hub_test index = rw hub_test (subst (λ (number : ℕ). number ≤ limit) (sym (get_or_past [] index 0 (omega arith))) (omega arith))

-- the sum of the numbers that a run tells
pub run_below : (seed count : ℕ) (entries : List Entry) → Follows (churn_scripts seed count) entries → EachIsLegal 16 256 (opening 3) entries
    → sum_by number_summed (replies_of entries) ≤ length (replies_of entries) * (seed + count)
run_below seed count entries entries_follow legal =
    sum_below (seed + count) (replies_of entries) (told_below (seed + count) (opening 3) entries (begins_below (seed + count)) (commands_below seed count entries entries_follow) legal)

-- how long the scripts are

rounds_long : (seed start rounds : ℕ) → length (flat_map (round seed) (range_with_len start rounds)) ≡ 8 * rounds
rounds_long seed start zero = refl
rounds_long seed start (suc rounds) = omega (arith, length-append (round seed start) (flat_map (round seed) (range_with_len (start + 1) rounds)), rounds_long seed (start + 1) rounds)

part_long : (seed count thread : ℕ) (entries : List Entry) → IsThread thread → Follows (churn_scripts seed count) entries → length (of_thread entries thread) ≡ 2 + 8 * count
part_long seed count thread entries is_thread entries_follow =
    sym (length-map (of_thread entries thread) (λ entry. entry.command)) ∙ ap (length {A = Command}) (entries_follow thread ∙ script_is seed count thread is_thread) ∙ omega (arith, rounds_long seed 0 count)

pub run_long : (seed count : ℕ) (entries : List Entry) → Follows (churn_scripts seed count) entries → length (in_turn entries) ≡ 6 + 24 * count
run_long seed count entries entries_follow =
    let first_part = part_long seed count 1 entries (omega arith, omega arith) entries_follow in
    let second_part = part_long seed count 2 entries (omega arith, omega arith) entries_follow in
    let third_part = part_long seed count 3 entries (omega arith, omega arith) entries_follow in
    omega (arith, length-append (of_thread entries 1) (of_thread entries 2 ++ of_thread entries 3), length-append (of_thread entries 2) (of_thread entries 3))
