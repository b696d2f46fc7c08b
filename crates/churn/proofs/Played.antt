-- There is a run: the commands of the threads, one thread after the other, each with its outcome.
use Rattle.std.proofs.Common.{ℕ, ◌≡◌, true, false, List, [], ◌∷◌, ◌++◌, refl, ap, ◌∙◌, sym, subst, inl, inr, arith}
use Rattle.std.specs.Prelude.{◌==◌}
use Rattle.std.specs.List.{AllByRecursion, flat_map, range_with_len}
use Rattle.std.proofs.lemmas.List.{append-nil}
use Rattle.std.proofs.lemmas.List.Elements.{filter-append}
use Rattle.shen_graph.specs.declared.command.Command.{Command}
use Rattle.shen_graph.specs.declared.command.Command.TheVariants.{Set}
use Rattle.shen_graph.specs.Graph.{Graph, opening}
use Rattle.shen_graph.specs.Step.{IsLegal, IsPin, outcome}
use Rattle.shen_graph.specs.History.{Entry, is_full, after_entry, after, EachIsLegal, of_thread, commands_of, script_of, Follows}
use Rattle.shen_graph.proofs.Outcomes.{pins_none, leaves_outcome, outcome_given}
use Rattle.churn.specs.Script.{round, churn_script, churn_scripts, shared_hub, own_box}
use Rattle.churn.specs.Laws.{IsWorkloadRun, in_turn, ThereIsOneInTurn}
use Rattle.churn.proofs.Belongings.{IsThread}
use Rattle.churn.proofs.BelowTheHub.{IsGiven, thread_or_not, all_pin_none}
use Rattle.churn.proofs.Opening.{thread_cases, script_later, script_none}
use Rattle.churn.proofs.Refusals.{legal-append}
use Rattle.churn.proofs.OneAfterAnother.{AreOf, all_of, none_of, given_append, given_at, runs_are_in_turn}

-- the commands of a thread, each with its outcome
abbrev pub played : Graph → ℕ → List Command → List Entry
played graph thread [] = []
played graph thread (command ∷ script) = record { thread = thread; command = command; reply = (outcome graph thread command).reply } ∷ played (outcome graph thread command).graph thread script

-- none of them is to pin an object
abbrev PinNone : List Command → Type 0
PinNone script = AllByRecursion (λ command. IsPin command → ⊥) script

played_after : (graph : Graph) (thread : ℕ) (command : Command) → (IsPin command → ⊥) → after_entry graph (record { thread = thread; command = command; reply = (outcome graph thread command).reply }) ≡ (outcome graph thread command).graph
played_after graph thread command never = rw (outcome_given graph thread command) (leaves_outcome graph thread command (outcome graph thread command).reply never)

played_legal : (graph : Graph) (thread : ℕ) (script : List Command) → PinNone script → EachIsLegal 16 256 graph (played graph thread script)
played_legal graph thread [] no_pins = tt
played_legal graph thread (command ∷ script) no_pins =
    let graph_left = played_after graph thread command no_pins.0 in (
      subst (λ (next_graph : Graph). IsLegal 16 256 graph thread command (outcome graph thread command).reply next_graph) (sym graph_left) (inl (pins_none graph thread command no_pins.0, refl)),
      subst (λ (next_graph : Graph). EachIsLegal 16 256 next_graph (played (outcome graph thread command).graph thread script)) (sym graph_left) (played_legal (outcome graph thread command).graph thread script no_pins.1),
    )

played_given : (graph : Graph) (thread : ℕ) (script : List Command) → PinNone script → AllByRecursion IsGiven (played graph thread script)
played_given graph thread [] no_pins = tt
played_given graph thread (command ∷ script) no_pins =
    ((λ answer_full. let contradiction : true ≡ false = ap is_full (sym answer_full) ∙ outcome_given graph thread command in cc, no_pins.0), played_given (outcome graph thread command).graph thread script no_pins.1)

script_pins_none : (seed count thread : ℕ) → PinNone (churn_script seed count thread)
script_pins_none seed count thread = (λ is_pin. is_pin, all_pin_none thread (Set shared_hub thread own_box ∷ flat_map (round seed) (range_with_len 0 count)) (script_later seed count thread))

played_of : (graph : Graph) (thread : ℕ) (script : List Command) → AreOf thread (played graph thread script)
played_of graph thread [] = tt
played_of graph thread (command ∷ script) = (refl, played_of (outcome graph thread command).graph thread script)

played_commands : (graph : Graph) (thread : ℕ) (script : List Command) → commands_of (played graph thread script) ≡ script
played_commands graph thread [] = refl
played_commands graph thread (command ∷ script) = ap (λ later_commands. command ∷ later_commands) (played_commands (outcome graph thread command).graph thread script)

-- three threads, one after the other
abbrev pub first_part : ℕ → ℕ → List Entry
first_part seed count = played (opening 3) 1 (churn_script seed count 1)

abbrev pub after_first : ℕ → ℕ → Graph
after_first seed count = after (opening 3) (first_part seed count)

abbrev pub second_part : ℕ → ℕ → List Entry
second_part seed count = played (after_first seed count) 2 (churn_script seed count 2)

abbrev pub after_second : ℕ → ℕ → Graph
after_second seed count = after (after_first seed count) (second_part seed count)

abbrev pub third_part : ℕ → ℕ → List Entry
third_part seed count = played (after_second seed count) 3 (churn_script seed count 3)

abbrev pub whole : ℕ → ℕ → List Entry
whole seed count = first_part seed count ++ (second_part seed count ++ third_part seed count)

-- which of three parts a thread has

pick : (first_entries second_entries third_entries : List Entry) (thread : ℕ) → AreOf 1 first_entries → AreOf 2 second_entries → AreOf 3 third_entries → of_thread (first_entries ++ (second_entries ++ third_entries)) thread ≡ of_thread first_entries thread ++ (of_thread second_entries thread ++ of_thread third_entries thread)
pick first_list second_list third_entries thread are_of second_of third_of =
    filter-append (λ (entry : Entry). entry.thread == thread) first_list (second_list ++ third_entries) ∙ ap (λ later_parts. of_thread first_list thread ++ later_parts) (filter-append (λ (entry : Entry). entry.thread == thread) second_list third_entries)

picked_first : (first_entries second_entries third_entries : List Entry) → AreOf 1 first_entries → AreOf 2 second_entries → AreOf 3 third_entries → of_thread (first_entries ++ (second_entries ++ third_entries)) 1 ≡ first_entries
picked_first first_list second_list third_entries are_of second_of third_of =
    pick first_list second_list third_entries 1 are_of second_of third_of ∙ rw (all_of 1 first_list are_of, none_of 2 1 second_list (λ same_thread. omega arith) second_of, none_of 3 1 third_entries (λ same_thread. omega arith) third_of) (append-nil first_list)

picked_second : (first_entries second_entries third_entries : List Entry) → AreOf 1 first_entries → AreOf 2 second_entries → AreOf 3 third_entries → of_thread (first_entries ++ (second_entries ++ third_entries)) 2 ≡ second_entries
picked_second first_list second_list third_entries are_of second_of third_of =
    pick first_list second_list third_entries 2 are_of second_of third_of ∙ rw (none_of 1 2 first_list (λ same_thread. omega arith) are_of, all_of 2 second_list second_of, none_of 3 2 third_entries (λ same_thread. omega arith) third_of) (append-nil second_list)

picked_third : (first_entries second_entries third_entries : List Entry) → AreOf 1 first_entries → AreOf 2 second_entries → AreOf 3 third_entries → of_thread (first_entries ++ (second_entries ++ third_entries)) 3 ≡ third_entries
picked_third first_list second_list third_entries are_of second_of third_of =
    pick first_list second_list third_entries 3 are_of second_of third_of ∙ rw (none_of 1 3 first_list (λ same_thread. omega arith) are_of, none_of 2 3 second_list (λ same_thread. omega arith) second_of, all_of 3 third_entries third_of) refl

picked_none : (first_entries second_entries third_entries : List Entry) (thread : ℕ) → (IsThread thread → ⊥) → AreOf 1 first_entries → AreOf 2 second_entries → AreOf 3 third_entries → of_thread (first_entries ++ (second_entries ++ third_entries)) thread ≡ []
picked_none first_list second_list third_entries thread no_thread are_of second_of third_of =
    pick first_list second_list third_entries thread are_of second_of third_of
    ∙ rw (none_of 1 thread first_list (λ same_thread. no_thread (omega arith, omega arith)) are_of, none_of 2 thread second_list (λ same_thread. no_thread (omega arith, omega arith)) second_of, none_of 3 thread third_entries (λ same_thread. no_thread (omega arith, omega arith)) third_of) refl

whole_follows : (seed count : ℕ) → Follows (churn_scripts seed count) (whole seed count)
whole_follows seed count thread =
    let first_entries = first_part seed count in
    let second_entries = second_part seed count in
    let third_entries = third_part seed count in
    let first_played = played_of (opening 3) 1 (churn_script seed count 1) in
    let second_played = played_of (after_first seed count) 2 (churn_script seed count 2) in
    let third_played = played_of (after_second seed count) 3 (churn_script seed count 3) in
    elim (thread_or_not thread) as (λ _. commands_of (of_thread (whole seed count) thread) ≡ script_of (churn_scripts seed count) thread) [
      | inl is_thread ↦ elim (thread_cases thread is_thread) as (λ _. commands_of (of_thread (whole seed count) thread) ≡ script_of (churn_scripts seed count) thread) [
        | inl thread_number ↦ subst (λ (some_thread : ℕ). commands_of (of_thread (whole seed count) some_thread) ≡ script_of (churn_scripts seed count) some_thread) (sym thread_number)
            (ap commands_of (picked_first first_entries second_entries third_entries first_played second_played third_played) ∙ played_commands (opening 3) 1 (churn_script seed count 1))
        | inr later_thread ↦ elim later_thread as (λ _. commands_of (of_thread (whole seed count) thread) ≡ script_of (churn_scripts seed count) thread) [
          | inl thread_number ↦ subst (λ (some_thread : ℕ). commands_of (of_thread (whole seed count) some_thread) ≡ script_of (churn_scripts seed count) some_thread) (sym thread_number)
              (ap commands_of (picked_second first_entries second_entries third_entries first_played second_played third_played) ∙ played_commands (after_first seed count) 2 (churn_script seed count 2))
          | inr thread_number ↦ subst (λ (some_thread : ℕ). commands_of (of_thread (whole seed count) some_thread) ≡ script_of (churn_scripts seed count) some_thread) (sym thread_number)
              (ap commands_of (picked_third first_entries second_entries third_entries first_played second_played third_played) ∙ played_commands (after_second seed count) 3 (churn_script seed count 3))
        ]
      ]
      | inr no_thread ↦ ap commands_of (picked_none first_entries second_entries third_entries thread no_thread first_played second_played third_played) ∙ sym (script_none seed count thread no_thread)
    ]

whole_given : (seed count : ℕ) → AllByRecursion IsGiven (whole seed count)
whole_given seed count =
    given_append (first_part seed count) (second_part seed count ++ third_part seed count) (played_given (opening 3) 1 (churn_script seed count 1) (script_pins_none seed count 1))
    (given_append (second_part seed count) (third_part seed count) (played_given (after_first seed count) 2 (churn_script seed count 2) (script_pins_none seed count 2)) (played_given (after_second seed count) 3 (churn_script seed count 3) (script_pins_none seed count 3)))

whole_run : (seed count : ℕ) → IsWorkloadRun seed count (whole seed count)
whole_run seed count = record {
  follows = whole_follows seed count;
  legal = record {
    each = legal-append (opening 3) (first_part seed count) (second_part seed count ++ third_part seed count) (played_legal (opening 3) 1 (churn_script seed count 1) (script_pins_none seed count 1))
        (legal-append (after_first seed count) (second_part seed count) (third_part seed count) (played_legal (after_first seed count) 2 (churn_script seed count 2) (script_pins_none seed count 2)) (played_legal (after_second seed count) 3 (churn_script seed count 3) (script_pins_none seed count 3)));
    crowded = λ index entry entry_there answer_full. absurd ((given_at (whole seed count) index entry (whole_given seed count) entry_there).0 answer_full);
  };
}

pub there_is_one_in_turn : ThereIsOneInTurn
there_is_one_in_turn seed count = (in_turn (whole seed count), (runs_are_in_turn seed count (whole seed count) (whole_run seed count)).0)
