-- Each history of the workload tells the same as the one in which the threads run one after the other.
use Rattle.std.proofs.lemmas.Bool.{ne_eqb}
use Rattle.std.proofs.Common.{ℕ, zero, suc, ◌≡◌, Bool, true, false, eqb, List, [], ◌∷◌, ◌++◌, Some, None, refl, ap, ◌∙◌, sym, subst, inl, inr, arith}
use Rattle.std.specs.Prelude.{◌≢◌, ◌==◌, if◌then◌else◌, slice_get}
use Rattle.std.specs.List.{AllByRecursion}
use Rattle.std.proofs.lemmas.Bool.Decides.{eqb_tells}
use Rattle.std.proofs.lemmas.List.{append-nil, ext_get_or}
use Rattle.std.proofs.lemmas.List.Elements.{filter-append, All-nil, All-cons}
use Rattle.shen_graph.proofs.Numbers.{eqb_itself}
use Rattle.shen_graph.specs.declared.command.Reply.TheVariants as reply
use Rattle.shen_graph.specs.declared.name.Name.{Name}
use Rattle.shen_graph.specs.Graph.{Graph, Reference, named, hub, opening, same_name}
use Rattle.shen_graph.specs.Step.{outcome}
use Rattle.shen_graph.specs.History.{Entry, after_entry, after, EachIsLegal, of_thread, commands_of, IsWithoutFull}
use Rattle.shen_graph.proofs.PlainLemmas.{fun_ext, same_name-true}
use Rattle.churn.specs.Laws.{IsWorkloadRun, in_turn, NoneIsFull, RunsAreInTurn, OneInTurn}
use Rattle.churn.proofs.Belongings.{IsThread, fields_of, field_of, IsLink, Same, Tidy, Same-itself, Same-join}
use Rattle.churn.proofs.BelowTheHub.{IsGiven, Going, solo, thread_or_not, replied}
use Rattle.churn.proofs.Opening.{tidy_opening, going_opening, thread_cases}
use Rattle.churn.proofs.Refusals.{none_from, after-append, legal-append}

-- graphs that are the same to each thread are one

out_link : (thread : ℕ) (reference : Reference) → IsLink thread reference → (IsThread thread → ⊥) → reference ≡ None
out_link thread None link no_thread = refl
out_link thread (Some name) link no_thread = absurd (no_thread link.2)

same_hub : (graph other_graph : Graph) → Tidy graph → Tidy other_graph → ((thread : ℕ) → IsThread thread → Same thread graph other_graph) → named graph (Some hub) ≡ named other_graph (Some hub)
same_hub graph other_graph tidy other_tidy same_parts =
    let same_refs : fields_of graph hub ≡ fields_of other_graph hub = ext_get_or None (fields_of graph hub) (fields_of other_graph hub) (tidy.hub_size ∙ sym other_tidy.hub_size) (λ f _. field f) in
    let same_nums : (named graph (Some hub)).nums ≡ (named other_graph (Some hub)).nums = tidy.hub_nums ∙ sym other_tidy.hub_nums in
    λ i. record { refs = same_refs i; nums = same_nums i }
  where
    field : (index : ℕ) → field_of graph hub index ≡ field_of other_graph hub index
    field index = elim (thread_or_not index) [
      | inl is_thread ↦ (same_parts index is_thread).link
      | inr no_thread ↦ out_link index (field_of graph hub index) (tidy.links index) no_thread ∙ sym (out_link index (field_of other_graph hub index) (other_tidy.links index) no_thread)
    ]

pub same_graph : (graph other_graph : Graph) → Tidy graph → Tidy other_graph → ((thread : ℕ) → IsThread thread → Same thread graph other_graph) → graph ≡ other_graph
same_graph graph other_graph tidy other_tidy same_parts =
    let object = fun_ext graph.object other_graph.object object_at in
    let root = fun_ext graph.root other_graph.root (λ owner. fun_ext (graph.root owner) (other_graph.root owner) (root_at owner)) in
    let count = fun_ext graph.count other_graph.count count_at in
    let pin = fun_ext graph.pin other_graph.pin (λ owner. fun_ext (graph.pin owner) (other_graph.pin owner) (λ slot. tidy.no_pin owner slot ∙ sym (other_tidy.no_pin owner slot))) in
    λ i. record { object = object i; root = root i; count = count i; pin = pin i }
  where
    object_at : (name : Name) → graph.object name ≡ other_graph.object name
    object_at name = elim (thread_or_not name.thread) [
      | inl is_thread ↦ (same_parts name.thread is_thread).object name.count
      | inr no_thread ↦ by_name name no_thread (same_name name hub) refl
    ] where
      by_name : (name : Name) → (IsThread name.thread → ⊥) → (holds : Bool) → same_name name hub ≡ holds → graph.object name ≡ other_graph.object name
      by_name name no_thread true hub_test =
          let same_hub_object : graph.object hub ≡ other_graph.object hub = tidy.hub_is ∙ ap Some (same_hub graph other_graph tidy other_tidy same_parts) ∙ sym other_tidy.hub_is in
          subst (λ (name : Name). graph.object name ≡ other_graph.object name) (sym (same_name-true name hub hub_test)) same_hub_object
      by_name name no_thread false hub_test = tidy.no_object name no_thread hub_test ∙ sym (other_tidy.no_object name no_thread hub_test)

    root_at : (owner index : ℕ) → graph.root owner index ≡ other_graph.root owner index
    root_at owner index = elim (thread_or_not owner) [ inl is_thread ↦ (same_parts owner is_thread).root index | inr no_thread ↦ tidy.no_root owner index no_thread ∙ sym (other_tidy.no_root owner index no_thread) ]

    count_at : (owner : ℕ) → graph.count owner ≡ other_graph.count owner
    count_at owner = elim (thread_or_not owner) [ inl is_thread ↦ (same_parts owner is_thread).count | inr no_thread ↦ tidy.no_count owner no_thread ∙ sym (other_tidy.no_count owner no_thread) ]

-- a fact of each entry

abbrev IsNotFull : Entry → Type 0
IsNotFull entry = entry.reply ≢ reply.Full

all_given : (entries : List Entry) → AllByRecursion IsGiven entries → IsWithoutFull entries
all_given [] entries_given = All-nil IsNotFull
all_given (entry ∷ entries) entries_given = All-cons IsNotFull entry entries entries_given.0.0 (all_given entries entries_given.1)

pub given_append : (entries other_entries : List Entry) → AllByRecursion IsGiven entries → AllByRecursion IsGiven other_entries → AllByRecursion IsGiven (entries ++ other_entries)
given_append [] entries entries_given other_given = other_given
given_append (entry ∷ other_entries) entries entries_given other_given = (entries_given.0, given_append other_entries entries entries_given.1 other_given)

pub given_of : (thread : ℕ) (entries : List Entry) → AllByRecursion IsGiven entries → AllByRecursion IsGiven (of_thread entries thread)
given_of thread [] entries_given = tt
given_of thread (entry ∷ entries) entries_given =
    elim (entry.thread == thread) as (λ same_thread. AllByRecursion IsGiven (if same_thread then entry ∷ of_thread entries thread else of_thread entries thread))
    [ true ↦ (entries_given.0, given_of thread entries entries_given.1) | false ↦ given_of thread entries entries_given.1 ]

pub run_given : (seed count : ℕ) (entries : List Entry) → IsWorkloadRun seed count entries → AllByRecursion IsGiven entries
run_given seed count entries run =
    none_from seed count entries [] run.legal.crowded tidy_opening (going_opening seed count entries run.follows) run.legal.each

pub none_is_full : NoneIsFull
none_is_full seed count entries run = all_given entries (run_given seed count entries run)

pub given_at : (entries : List Entry) (index : ℕ) (entry : Entry) → AllByRecursion IsGiven entries → slice_get entries index ≡ Some entry → IsGiven entry
given_at [] index entry entries_given entry_there = cc
given_at (first_entry ∷ entries) zero entry entries_given entry_there = let same_entry : first_entry ≡ entry = cc in subst IsGiven same_entry entries_given.0
given_at (first_entry ∷ entries) (suc index) entry entries_given entry_there = given_at entries index entry entries_given.1 entry_there

-- the entries of one thread, and then of another

abbrev pub AreOf : ℕ → List Entry → Type 0
AreOf thread entries = AllByRecursion (λ entry. entry.thread ≡ thread) entries

pub of_thread-are : (thread : ℕ) (entries : List Entry) → AreOf thread (of_thread entries thread)
of_thread-are thread [] = tt
of_thread-are thread (entry ∷ entries) =
    elim (eqb_tells entry.thread thread) as (λ _. AreOf thread (of_thread (entry ∷ entries) thread)) [
      | inl thread_test ↦ rw thread_test.0 (thread_test.1, of_thread-are thread entries)
      | inr thread_test ↦ rw thread_test.0 (of_thread-are thread entries)
    ]

pub all_of : (thread : ℕ) (entries : List Entry) → AreOf thread entries → of_thread entries thread ≡ entries
all_of thread [] are_of = refl
all_of thread (entry ∷ entries) are_of =
    let same_thread : eqb entry.thread thread ≡ true = ap (λ asked_thread. eqb asked_thread thread) are_of.0 ∙ eqb_itself thread in
    rw same_thread (ap (λ rest. entry ∷ rest) (all_of thread entries are_of.1))

pub none_of : (owner thread : ℕ) (entries : List Entry) → thread ≢ owner → AreOf owner entries → of_thread entries thread ≡ []
none_of owner thread [] threads_apart are_of = refl
none_of owner thread (entry ∷ entries) threads_apart are_of =
    let threads_differ : eqb entry.thread thread ≡ false = ap (λ entry_thread. eqb entry_thread thread) are_of.0 ∙ ne_eqb owner thread (λ same_thread. threads_apart (sym same_thread)) in
    rw threads_differ (none_of owner thread entries threads_apart are_of.1)

-- what stands in one of the three parts
parts : (entries : List Entry) (thread : ℕ) → of_thread (in_turn entries) thread ≡ of_thread (of_thread entries 1) thread ++ (of_thread (of_thread entries 2) thread ++ of_thread (of_thread entries 3) thread)
parts entries thread =
    filter-append (λ (entry : Entry). entry.thread == thread) (of_thread entries 1) (of_thread entries 2 ++ of_thread entries 3)
    ∙ ap (λ later_parts. of_thread (of_thread entries 1) thread ++ later_parts) (filter-append (λ (entry : Entry). entry.thread == thread) (of_thread entries 2) (of_thread entries 3))

own_part : (entries : List Entry) (thread : ℕ) → of_thread (of_thread entries thread) thread ≡ of_thread entries thread
own_part entries thread = all_of thread (of_thread entries thread) (of_thread-are thread entries)

other_part : (entries : List Entry) (thread asked_thread : ℕ) → asked_thread ≢ thread → of_thread (of_thread entries thread) asked_thread ≡ []
other_part entries thread asked_thread threads_apart = none_of thread asked_thread (of_thread entries thread) threads_apart (of_thread-are thread entries)

pub in_turn-thread : (graph : Graph) (entries : List Entry) → Going graph entries → (thread : ℕ) → of_thread (in_turn entries) thread ≡ of_thread entries thread
in_turn-thread graph entries going thread =
    parts entries thread ∙ elim (thread_or_not thread) as (λ _. of_thread (of_thread entries 1) thread ++ (of_thread (of_thread entries 2) thread ++ of_thread (of_thread entries 3) thread) ≡ of_thread entries thread) [
      | inl is_thread ↦ elim (thread_cases thread is_thread) as (λ _. of_thread (of_thread entries 1) thread ++ (of_thread (of_thread entries 2) thread ++ of_thread (of_thread entries 3) thread) ≡ of_thread entries thread) [
        | inl first_thread ↦ rw (first_thread, own_part entries 1, other_part entries 2 1 (λ same_thread. omega arith), other_part entries 3 1 (λ same_thread. omega arith)) (append-nil (of_thread entries 1))
        | inr later_thread ↦ elim later_thread as (λ _. of_thread (of_thread entries 1) thread ++ (of_thread (of_thread entries 2) thread ++ of_thread (of_thread entries 3) thread) ≡ of_thread entries thread) [
          | inl second_thread ↦ rw (second_thread, other_part entries 1 2 (λ same_thread. omega arith), own_part entries 2, other_part entries 3 2 (λ same_thread. omega arith)) (append-nil (of_thread entries 2))
          | inr third_thread ↦ rw (third_thread, other_part entries 1 3 (λ same_thread. omega arith), other_part entries 2 3 (λ same_thread. omega arith), own_part entries 3) refl
        ]
      ]
      | inr no_thread ↦
          rw (other_part entries 1 thread (λ same_thread. no_thread (omega arith, omega arith)), other_part entries 2 thread (λ same_thread. no_thread (omega arith, omega arith)), other_part entries 3 thread (λ same_thread. no_thread (omega arith, omega arith)))
          (sym (going.others thread no_thread))
    ]

-- The three parts, one after the other.
pub record InTurn (entries : List Entry) : Type 0 where
  pub legal : EachIsLegal 16 256 (opening 3) (in_turn entries)
  pub graph : after (opening 3) entries ≡ after (opening 3) (in_turn entries)

pub turns : (entries : List Entry) → Going (opening 3) entries → EachIsLegal 16 256 (opening 3) entries → AllByRecursion IsGiven entries → InTurn entries
turns history going legal entries_given =
    let opened_graph = opening 3 in
    let is_one : IsThread 1 = (omega arith, omega arith) in
    let is_two : IsThread 2 = (omega arith, omega arith) in
    let is_three : IsThread 3 = (omega arith, omega arith) in
    let first_turn = solo 1 is_one history opened_graph opened_graph tidy_opening tidy_opening (Same-itself 1 opened_graph) going legal entries_given in
    let after_first = after opened_graph (of_thread history 1) in
    let second_turn = solo 2 is_two history opened_graph after_first tidy_opening first_turn.other (first_turn.frame 2 is_two (λ equal_threads. omega arith)) going legal entries_given in
    let after_second = after after_first (of_thread history 2) in
    let third_turn = solo 3 is_three history opened_graph after_second tidy_opening second_turn.other (Same-join (first_turn.frame 3 is_three (λ equal_threads. omega arith)) (second_turn.frame 3 is_three (λ equal_threads. omega arith))) going legal entries_given in
    let after_third = after after_second (of_thread history 3) in
    let same_first : Same 1 (after opened_graph history) after_third = Same-join first_turn.same (Same-join (second_turn.frame 1 is_one (λ equal_threads. omega arith)) (third_turn.frame 1 is_one (λ equal_threads. omega arith))) in
    let same_second : Same 2 (after opened_graph history) after_third = Same-join second_turn.same (third_turn.frame 2 is_two (λ equal_threads. omega arith)) in
    let same_third : Same 3 (after opened_graph history) after_third = third_turn.same in
    let after_turns : after opened_graph (in_turn history) ≡ after_third = after-append opened_graph (of_thread history 1) (of_thread history 2 ++ of_thread history 3) ∙ after-append after_first (of_thread history 2) (of_thread history 3) in
    record {
      legal = legal-append opened_graph (of_thread history 1) (of_thread history 2 ++ of_thread history 3) first_turn.legal (legal-append after_first (of_thread history 2) (of_thread history 3) second_turn.legal third_turn.legal);
      graph = same_graph (after opened_graph history) after_third first_turn.tidy third_turn.other (each history after_third same_first same_second same_third) ∙ sym after_turns;
    }
  where
    each : (history : List Entry) (graph : Graph) → Same 1 (after (opening 3) history) graph → Same 2 (after (opening 3) history) graph → Same 3 (after (opening 3) history) graph → (asked_thread : ℕ) → IsThread asked_thread → Same asked_thread (after (opening 3) history) graph
    each history graph same_first same_second same_third asked_thread is_thread =
        elim (thread_cases asked_thread is_thread) [
          | inl same_thread ↦ subst (λ (thread : ℕ). Same thread (after (opening 3) history) graph) (sym same_thread) same_first
          | inr later_thread ↦ elim later_thread [
            | inl same_thread ↦ subst (λ (thread : ℕ). Same thread (after (opening 3) history) graph) (sym same_thread) same_second
            | inr same_thread ↦ subst (λ (thread : ℕ). Same thread (after (opening 3) history) graph) (sym same_thread) same_third
          ]
        ]

pub runs_are_in_turn : RunsAreInTurn
runs_are_in_turn seed count entries run =
    let run_going = going_opening seed count entries run.follows in
    let entries_given = run_given seed count entries run in
    let turned = turns entries run_going run.legal.each entries_given in
    let thread = in_turn-thread (opening 3) entries run_going in
    let given_too : AllByRecursion IsGiven (in_turn entries) =
    given_append (of_thread entries 1) (of_thread entries 2 ++ of_thread entries 3) (given_of 1 entries entries_given) (given_append (of_thread entries 2) (of_thread entries 3) (given_of 2 entries entries_given) (given_of 3 entries entries_given)) in (
      record {
        run = record {
          follows = λ asked_thread. ap commands_of (thread asked_thread) ∙ run.follows asked_thread;
          legal = record { each = turned.legal; crowded = λ index entry entry_there reply_full. absurd ((given_at (in_turn entries) index entry given_too entry_there).0 reply_full) };
        };
        turns = sym (ap (λ part. part ++ (of_thread (in_turn entries) 2 ++ of_thread (in_turn entries) 3)) (thread 1)
            ∙ ap (λ part. of_thread entries 1 ++ (part ++ of_thread (in_turn entries) 3)) (thread 2) ∙ ap (λ part. of_thread entries 1 ++ (of_thread entries 2 ++ part)) (thread 3));
        no_full = all_given (in_turn entries) given_too;
      },
      record { threads = λ asked_thread. sym (thread asked_thread); graph = turned.graph },
    )

-- There is one history for the commands of all threads in one order.

abbrev pub AskTheSame : List Entry → List Entry → Type 0
AskTheSame [] [] = Unit {0}
AskTheSame [] (entry ∷ entries) = ⊥
AskTheSame (entry ∷ entries) [] = ⊥
AskTheSame (entry ∷ entries) (other_entry ∷ other_entries) = (entry.thread ≡ other_entry.thread) × (entry.command ≡ other_entry.command) × AskTheSame entries other_entries

ask_append : (xs ys vs ws : List Entry) → AskTheSame xs ys → AskTheSame vs ws → AskTheSame (xs ++ vs) (ys ++ ws)
ask_append [] [] entries other_entries ask_the_same ends_alike = ends_alike
ask_append [] (entry ∷ rest) entries other_entries ask_the_same ends_alike = absurd ask_the_same
ask_append (entry ∷ rest) [] entries other_entries ask_the_same ends_alike = absurd ask_the_same
ask_append (entry ∷ rest) (other_entry ∷ ys) entries other_entries ask_the_same ends_alike = (ask_the_same.0, ask_the_same.1, ask_append rest ys entries other_entries ask_the_same.2 ends_alike)

ask_one : (thread : ℕ) (entries other_entries : List Entry) → AreOf thread entries → AreOf thread other_entries → commands_of entries ≡ commands_of other_entries → AskTheSame entries other_entries
ask_one thread [] [] are_of others_of_thread same_commands = tt
ask_one thread [] (entry ∷ entries) are_of others_of_thread same_commands = cc
ask_one thread (entry ∷ entries) [] are_of others_of_thread same_commands = cc
ask_one thread (entry ∷ entries) (other_entry ∷ other_entries) are_of others_of_thread same_commands =
    let same_command : entry.command ≡ other_entry.command = cc in
    let same_rest : commands_of entries ≡ commands_of other_entries = cc in
    (are_of.0 ∙ sym others_of_thread.0, same_command, ask_one thread entries other_entries are_of.1 others_of_thread.1 same_rest)

one_answer : (graph : Graph) (entries other_entries : List Entry) → AskTheSame entries other_entries → EachIsLegal 16 256 graph entries → EachIsLegal 16 256 graph other_entries → AllByRecursion IsGiven entries → AllByRecursion IsGiven other_entries → entries ≡ other_entries
one_answer graph [] [] ask each_is_legal other_legal entries_given other_given = refl
one_answer graph [] (entry ∷ entries) ask each_is_legal other_legal entries_given other_given = absurd ask
one_answer graph (entry ∷ entries) [] ask each_is_legal other_legal entries_given other_given = absurd ask
one_answer graph (first_entry ∷ entries) (second_entry ∷ other_entries) ask each_is_legal other_legal entries_given other_given =
    let outcomes : (outcome graph first_entry.thread first_entry.command).reply ≡ (outcome graph second_entry.thread second_entry.command).reply =
    ap (λ asked_thread. (outcome graph asked_thread first_entry.command).reply) ask.0 ∙ ap (λ asked_command. (outcome graph second_entry.thread asked_command).reply) ask.1 in
    let reply : first_entry.reply ≡ second_entry.reply = replied graph (after_entry graph first_entry) first_entry each_is_legal.0 entries_given.0 ∙ outcomes ∙ sym (replied graph (after_entry graph second_entry) second_entry other_legal.0 other_given.0) in
    let same_entry : first_entry ≡ second_entry = λ i. record { thread = ask.0 i; command = ask.1 i; reply = reply i } in
    let legal : EachIsLegal 16 256 (after_entry graph first_entry) other_entries = subst (λ (entry : Entry). EachIsLegal 16 256 (after_entry graph entry) other_entries) (sym same_entry) other_legal.1 in
    let same_rest = one_answer (after_entry graph first_entry) entries other_entries ask.2 each_is_legal.1 legal entries_given.1 other_given.1 in
    ap (λ head_entry. head_entry ∷ entries) same_entry ∙ ap (λ later_entries. second_entry ∷ later_entries) same_rest

pub one_in_turn : OneInTurn
one_in_turn seed count first_entries second_entries first_run second_run =
    let ask : (thread : ℕ) → AskTheSame (of_thread first_entries thread) (of_thread second_entries thread) =
    λ thread. ask_one thread (of_thread first_entries thread) (of_thread second_entries thread) (of_thread-are thread first_entries) (of_thread-are thread second_entries) (first_run.run.follows thread ∙ sym (second_run.run.follows thread)) in
    let turns_alike : AskTheSame (in_turn first_entries) (in_turn second_entries) =
    ask_append (of_thread first_entries 1) (of_thread second_entries 1) (of_thread first_entries 2 ++ of_thread first_entries 3) (of_thread second_entries 2 ++ of_thread second_entries 3) (ask 1)
    (ask_append (of_thread first_entries 2) (of_thread second_entries 2) (of_thread first_entries 3) (of_thread second_entries 3) (ask 2) (ask 3)) in
    let entries_alike : AskTheSame first_entries second_entries = subst (λ (entries : List Entry). AskTheSame entries second_entries) (sym first_run.turns) (subst (λ (entries : List Entry). AskTheSame (in_turn first_entries) entries) (sym second_run.turns) turns_alike) in
    one_answer (opening 3) first_entries second_entries entries_alike first_run.run.legal.each second_run.run.legal.each (run_given seed count first_entries first_run.run) (run_given seed count second_entries second_run.run)
