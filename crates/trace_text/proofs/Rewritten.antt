-- A trace that was read can be written: its commands and items are those of the lines that were read, and its text is no longer
-- than they were.
use Rattle.std.proofs.lemmas.Bool.{ne_eqb, cases_eq}
use Rattle.std.proofs.Common.{◌≡◌, ◌≢◌, ℕ, zero, suc, ◌+◌, ◌*◌, ◌<◌, ◌≤◌, true, eqb, List, [], ◌∷◌, ◌++◌, length, length-append, map, refl, sym, ap, subst, ◌∙◌, append-nil, inl, inr, arith}
use Rattle.std.specs.List.{flat_map, range_with_len, AllByRecursion}
use Rattle.std.proofs.lemmas.Bool.Decides.{nat_tests}
use Rattle.std.proofs.lemmas.List.Concat.{flat_map-append, flat_map-cons}
use Rattle.std.proofs.lemmas.List.FromFn.{length-map-range_with_len}
use Rattle.shen_graph.proofs.Lists.{all_append}
use Rattle.shen_graph.specs.declared.command.Command.{Command}
use Rattle.heap_words.specs.declared.config.Config.{Config}
use Rattle.heap_words.specs.declared.schedule.Item.{Item}
use Rattle.trace_reading.specs.Spelling.{newline, TraceLine, line, header, IsLine, spaced_item, schedule_line, IsItem, IsScheduleLine}
use Rattle.trace_reading.specs.Grammar.{commands_in, items_of, Reads}
use Rattle.trace_text.specs.Canonical.{lines_of, lines_from, turns_of, spelling_of, IsWritable}
use Rattle.trace_text.proofs.CanonicalLemmas.{map-range_same}

-- ---- the commands of a thread, where a line stands before others

own_script : (trace_line : TraceLine) (lines : List TraceLine) (thread : ℕ) → trace_line.thread ≡ thread → commands_in (trace_line ∷ lines) thread ≡ trace_line.command ∷ commands_in lines thread
own_script trace_line lines thread same_thread = rw (is_same trace_line.thread thread same_thread) refl
  where
    is_same : (a b : ℕ) → a ≡ b → eqb a b ≡ true
    is_same a b equal = grind (arith, nat_tests)

other_script : (trace_line : TraceLine) (lines : List TraceLine) (thread : ℕ) → trace_line.thread ≢ thread → commands_in (trace_line ∷ lines) thread ≡ commands_in lines thread
other_script trace_line lines thread other_thread = rw (ne_eqb trace_line.thread thread other_thread) refl

-- ---- the lines fit

script_fits : (version threads thread : ℕ) (lines : List TraceLine) → 1 ≤ thread → thread ≤ threads → AllByRecursion (IsLine version threads) lines → AllByRecursion (IsLine version threads) (lines_of thread (commands_in lines thread))
script_fits version threads thread [] low high all_fit = tt
script_fits version threads thread (trace_line ∷ lines) low high all_fit =
    let others = script_fits version threads thread lines low high all_fit.1 in
    elim (cases_eq trace_line.thread thread) [
      | inl same_thread ↦
          subst (λ (commands : List Command). AllByRecursion (IsLine version threads) (lines_of thread commands)) (sym (own_script trace_line lines thread same_thread))
          (record { from_one = low; to_last = high; known = all_fit.0.known; valid = all_fit.0.valid; fits = all_fit.0.fits }, others)
      | inr other_thread ↦ subst (λ (commands : List Command). AllByRecursion (IsLine version threads) (lines_of thread commands)) (sym (other_script trace_line lines thread other_thread)) others
    ]

scripts_fit : (version threads first_thread thread_count : ℕ) (lines : List TraceLine) → 1 ≤ first_thread → first_thread + thread_count ≤ threads + 1 → AllByRecursion (IsLine version threads) lines
    → AllByRecursion (IsLine version threads) (lines_from first_thread (map (commands_in lines) (range_with_len first_thread thread_count)))
scripts_fit version threads first_thread zero lines low high all_fit = tt
scripts_fit version threads first_thread (suc thread_count) lines low high all_fit =
    all_append (IsLine version threads) (lines_of first_thread (commands_in lines first_thread)) _ (script_fits version threads first_thread lines low (omega arith) all_fit)
    (scripts_fit version threads (first_thread + 1) thread_count lines (omega arith) (omega arith) all_fit)

-- ---- the items fit

items_fit : (config : Config) (turns : List (List Item)) → AllByRecursion (IsScheduleLine config) turns → AllByRecursion (IsItem config) (items_of turns)
items_fit config [] all_fit = tt
items_fit config (turn ∷ turns) all_fit = all_append (IsItem config) turn (items_of turns) all_fit.0.in_range (items_fit config turns all_fit.1)

-- ---- the lines are no longer

-- the bytes of the lines of some threads
abbrev bytes_of : (first_thread thread_count : ℕ) → List TraceLine → ℕ
bytes_of first_thread thread_count lines = length (flat_map line (lines_from first_thread (map (commands_in lines) (range_with_len first_thread thread_count))))

-- those of the first thread, and of the others
bytes_of_first : (first_thread thread_count : ℕ) (lines : List TraceLine)
    → bytes_of first_thread (suc thread_count) lines ≡ length (flat_map line (lines_of first_thread (commands_in lines first_thread))) + bytes_of (first_thread + 1) thread_count lines
bytes_of_first first_thread thread_count lines =
    ap length (flat_map-append line (lines_of first_thread (commands_in lines first_thread)) (lines_from (first_thread + 1) (map (commands_in lines) (range_with_len (first_thread + 1) thread_count))))
    ∙ length-append (flat_map line (lines_of first_thread (commands_in lines first_thread))) _

-- no line of a thread before these
bytes_behind : (first_thread thread_count : ℕ) (trace_line : TraceLine) (lines : List TraceLine) → trace_line.thread < first_thread → bytes_of first_thread thread_count (trace_line ∷ lines) ≡ bytes_of first_thread thread_count lines
bytes_behind first_thread thread_count trace_line lines thread_before =
    ap (λ (scripts : List (List Command)). length (flat_map line (lines_from first_thread scripts)))
    (map-range_same (commands_in (trace_line ∷ lines)) (commands_in lines) first_thread thread_count (λ thread low. other_script trace_line lines thread (λ same_thread. absurd (omega arith))))

-- a line more
bytes_more : (first_thread thread_count : ℕ) (trace_line : TraceLine) (lines : List TraceLine) → bytes_of first_thread thread_count (trace_line ∷ lines) ≤ length (line trace_line) + bytes_of first_thread thread_count lines
bytes_more first_thread zero trace_line lines = omega arith
bytes_more first_thread (suc thread_count) trace_line lines =
    let split_bytes = bytes_of_first first_thread thread_count (trace_line ∷ lines) in
    let before = bytes_of_first first_thread thread_count lines in
    elim (cases_eq trace_line.thread first_thread) [
      | inl same_thread ↦
          let own_bytes : length (flat_map line (lines_of first_thread (commands_in (trace_line ∷ lines) first_thread))) ≡ length (line trace_line) + length (flat_map line (lines_of first_thread (commands_in lines first_thread))) =
          ap (λ (commands : List Command). length (flat_map line (lines_of first_thread commands))) (own_script trace_line lines first_thread same_thread)
          ∙ ap (λ (thread : ℕ). length (flat_map line (record { thread = thread; command = trace_line.command } ∷ lines_of first_thread (commands_in lines first_thread)))) (sym same_thread)
          ∙ ap length (flat_map-cons line trace_line (lines_of first_thread (commands_in lines first_thread)))
          ∙ length-append (line trace_line) (flat_map line (lines_of first_thread (commands_in lines first_thread))) in
          let others = bytes_behind (first_thread + 1) thread_count trace_line lines (omega arith) in
          omega (arith, split_bytes, before, own_bytes, others)
      | inr other_thread ↦
          let own_bytes = ap (λ (commands : List Command). length (flat_map line (lines_of first_thread commands))) (other_script trace_line lines first_thread other_thread) in
          let others = bytes_more (first_thread + 1) thread_count trace_line lines in
          omega (arith, split_bytes, before, own_bytes, others)
    ]

no_bytes : (first_thread thread_count : ℕ) → bytes_of first_thread thread_count [] ≡ 0
no_bytes first_thread zero = refl
no_bytes first_thread (suc thread_count) = omega (arith, bytes_of_first first_thread thread_count [], no_bytes (first_thread + 1) thread_count)

bytes_sorted : (first_thread thread_count : ℕ) (lines : List TraceLine) → bytes_of first_thread thread_count lines ≤ length (flat_map line lines)
bytes_sorted first_thread thread_count [] = omega (arith, no_bytes first_thread thread_count)
bytes_sorted first_thread thread_count (first_line ∷ lines) =
    let split_bytes : length (flat_map line (first_line ∷ lines)) ≡ length (line first_line) + length (flat_map line lines) = ap length (flat_map-cons line first_line lines) ∙ length-append (line first_line) (flat_map line lines) in
    omega (arith, split_bytes, bytes_more first_thread thread_count first_line lines, bytes_sorted first_thread thread_count lines)

-- ---- the schedule is no longer

turn_bytes : (items : List Item) → length (schedule_line items) ≡ length (flat_map spaced_item items) + 2
turn_bytes items = omega (arith, length-append (flat_map spaced_item items) (newline ∷ []))

joined_bytes : (turns : List (List Item)) → length (flat_map spaced_item (items_of turns)) + 2 * length turns ≡ length (flat_map schedule_line turns)
joined_bytes [] = refl
joined_bytes (turn ∷ turns) =
    let schedule_bytes : length (flat_map schedule_line (turn ∷ turns)) ≡ length (schedule_line turn) + length (flat_map schedule_line turns) =
    ap length (flat_map-cons schedule_line turn turns) ∙ length-append (schedule_line turn) (flat_map schedule_line turns) in
    let item_bytes : length (flat_map spaced_item (items_of (turn ∷ turns))) ≡ length (flat_map spaced_item turn) + length (flat_map spaced_item (items_of turns)) =
    ap length (flat_map-append spaced_item turn (items_of turns)) ∙ length-append (flat_map spaced_item turn) (flat_map spaced_item (items_of turns)) in
    omega (arith, schedule_bytes, item_bytes, turn_bytes turn, joined_bytes turns)

one_turn_bytes : (items : List Item) → length (flat_map schedule_line (turns_of items)) ≤ length (flat_map spaced_item items) + 2
one_turn_bytes [] = omega arith
one_turn_bytes (item ∷ items) = omega (arith, turn_bytes (item ∷ items), ap length (append-nil (schedule_line (item ∷ items))))

schedule_sorted : (turns : List (List Item)) → length (flat_map schedule_line (turns_of (items_of turns))) ≤ length (flat_map schedule_line turns)
schedule_sorted [] = omega arith
schedule_sorted (turn ∷ turns) = omega (arith, one_turn_bytes (items_of (turn ∷ turns)), joined_bytes (turn ∷ turns))

-- ---- all together

pub can_be_written : (bytes : List ℕ) (version : ℕ) (config : Config) (scripts : List (List Command)) (items : List Item) → Reads bytes version config scripts items → IsWritable version config scripts items
can_be_written bytes version config scripts items reads =
    let sorted = bytes_sorted 1 config.mutators reads.lines in
    let lines : length (flat_map line (lines_from 1 scripts)) ≤ length (flat_map line reads.lines) = rw reads.by_thread sorted in
    let turns : length (flat_map schedule_line (turns_of items)) ≤ length (flat_map schedule_line reads.turns) = rw reads.in_order (schedule_sorted reads.turns) in
    let read : length bytes ≡ length (header version config) + (length (flat_map line reads.lines) + length (flat_map schedule_line reads.turns)) =
    ap length reads.spelled ∙ length-append (header version config) (flat_map line reads.lines ++ flat_map schedule_line reads.turns) ∙ ap (λ (count : ℕ). length (header version config) + count) (length-append (flat_map line reads.lines) (flat_map schedule_line reads.turns)) in
    let written : length (spelling_of version config scripts items) ≡ length (header version config) + (length (flat_map line (lines_from 1 scripts)) + length (flat_map schedule_line (turns_of items))) =
    length-append (header version config) (flat_map line (lines_from 1 scripts) ++ flat_map schedule_line (turns_of items)) ∙ ap (λ (count : ℕ). length (header version config) + count) (length-append (flat_map line (lines_from 1 scripts)) (flat_map schedule_line (turns_of items))) in
    record {
      known = reads.known;
      narrow = reads.narrow;
      threads = ap length reads.by_thread ∙ length-map-range_with_len (commands_in reads.lines) 1 config.mutators;
      lines_fit = subst (λ (some_scripts : List (List Command)). AllByRecursion (IsLine version config.mutators) (lines_from 1 some_scripts)) (sym reads.by_thread) (scripts_fit version config.mutators 1 config.mutators reads.lines (omega arith) (omega arith) reads.in_range);
      items_fit = subst (AllByRecursion (IsItem config)) (sym reads.in_order) (items_fit config reads.turns reads.turns_in_range);
      short = omega (arith, lines, turns, read, written, reads.short);
    }
