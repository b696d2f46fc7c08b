-- No allocation of the workload is refused: too few words are in use.
use Rattle.std.proofs.Common.{ℕ, zero, suc, ◌≡◌, ◌+◌, ◌-◌, ◌*◌, ◌<◌, ◌≤◌, Bool, true, false, List, [], ◌∷◌, ◌++◌, length, get_or, Option, Some, refl, ap, ◌∙◌, sym, subst, inl, inr, arith, append_assoc}
use Rattle.std.proofs.Math.Seq.{take-append_seam}
use Rattle.std.specs.Prelude.{◌≢◌, ◌==◌, if◌then◌else◌, All, slice_get}
use Rattle.std.specs.List.{AllByRecursion, flat_map, range_with_len}
use Rattle.std.proofs.lemmas.Bool.{cases_lt}
use Rattle.std.proofs.lemmas.List.{get_or_past}
use Rattle.std.proofs.lemmas.List.Elements.{All-nil, All-cons}
use Rattle.std.proofs.lemmas.List.Sums.{sum_by-le}
use Rattle.std.proofs.lemmas.Option.{none-some, slice_get-get_or, slice_get_past}
use Rattle.shen_graph.specs.declared.command.Command.{Command}
use Rattle.shen_graph.specs.declared.command.Command.TheVariants.{New, Set}
use Rattle.shen_graph.specs.declared.command.Reply.{Reply}
use Rattle.shen_graph.specs.declared.command.Reply.TheVariants as reply
use Rattle.shen_graph.specs.Graph.{Graph, opening}
use Rattle.shen_graph.specs.History.{Entry, is_full, after_entry, after, EachIsLegal, of_thread, commands_of}
use Rattle.shen_graph.specs.Crowd.{words_asked, next_command, words_open, PinnedRegions, IsCrowded, AreCrowded}
use Rattle.churn.specs.Script.{round, churn_script, churn_scripts, shared_hub, own_box}
use Rattle.churn.proofs.Belongings.{Tidy, Same-itself}
use Rattle.churn.proofs.Commands.{IsLater}
use Rattle.churn.proofs.Commands.IsLater.{makes, writes, links, stores, drops, loads, reads, swaps, exchanges}
use Rattle.churn.proofs.BelowTheHub.{IsGiven, Ahead, Going, ahead_pins_none, going-here, entry-step}
use Rattle.churn.proofs.Opening.{script_later}
use Rattle.churn.proofs.Bounds.{few_live}

-- a command asks for a few words
abbrev pub AsksFew : Command → Type 0
AsksFew command = words_asked (Some command) ≤ 19

later_few : (field : ℕ) (command : Command) → IsLater field command → AsksFew command
later_few field _ (makes refs nums few) = omega arith
later_few field _ (writes value) = omega arith
later_few field _ links = omega arith
later_few field _ (stores index) = omega arith
later_few field _ drops = omega arith
later_few field _ (loads index) = omega arith
later_few field _ reads = omega arith
later_few field _ (swaps index) = omega arith
later_few field _ (exchanges index) = omega arith

all_few : (field : ℕ) (script : List Command) → AllByRecursion (IsLater field) script → AllByRecursion AsksFew script
all_few field [] all_later = tt
all_few field (command ∷ script) all_later = (later_few field command all_later.0, all_few field script all_later.1)

ahead_few : (graph : Graph) (field : ℕ) (command : Command) (script : List Command) → Ahead graph field (command ∷ script) → AsksFew command
ahead_few graph field command script ahead =
    elim ahead [
      | inl first_ahead ↦ let same_command : New 1 16 0 ≡ command = cc (first_ahead.1.1) in subst AsksFew same_command (omega arith)
      | inr later ↦ later_few field command later.1.0
    ]

script_few : (seed count thread : ℕ) → AllByRecursion AsksFew (churn_script seed count thread)
script_few seed count thread = (omega arith, all_few thread (Set shared_hub thread own_box ∷ flat_map (round seed) (range_with_len 0 count)) (script_later seed count thread))

scripts_few : (seed count index : ℕ) → AllByRecursion AsksFew (get_or (churn_scripts seed count) index [])
scripts_few seed count zero = script_few seed count 1
scripts_few seed count (suc zero) = script_few seed count 2
scripts_few seed count (suc (suc zero)) = script_few seed count 3
scripts_few seed count (suc (suc (suc index))) = subst (AllByRecursion AsksFew) (sym (get_or_past (churn_scripts seed count) (suc (suc (suc index))) [] (omega arith))) tt

few_at : (script : List Command) (index : ℕ) (command : Command) → AllByRecursion AsksFew script → index < length script → AsksFew (get_or script index command)
few_at [] index command each_few within = absurd (omega arith)
few_at (first_command ∷ script) zero command each_few within = each_few.0
few_at (first_command ∷ script) (suc index) command each_few within = few_at script index command each_few.1 (omega arith)

asked_at : (script : List Command) (index : ℕ) → AllByRecursion AsksFew script → words_asked (slice_get script index) ≤ 19
asked_at script index each_few =
    elim (cases_lt index (length script)) [
      | inl within ↦ subst (λ (found : Option Command). words_asked found ≤ 19) (sym (slice_get-get_or script index (New own_box 16 0) within)) (few_at script index (New own_box 16 0) each_few within)
      | inr index_past ↦ subst (λ (found : Option Command). words_asked found ≤ 19) (sym (slice_get_past script index index_past)) (omega arith)
    ]

-- what the other threads ask for
few_open : (seed count : ℕ) (before : List Entry) (thread : ℕ) → words_open (churn_scripts seed count) before thread ≤ 57
few_open seed count before thread =
    let asked_words : ℕ → ℕ = λ other_thread. if other_thread == thread then 0 else words_asked (next_command (churn_scripts seed count) before other_thread) in
    let each_few : All (λ other_thread. asked_words other_thread ≤ 19) (range_with_len 1 3) = All-cons (λ other_thread. asked_words other_thread ≤ 19) 1 (range_with_len 2 2) (one 1) (All-cons (λ other_thread. asked_words other_thread ≤ 19) 2 (range_with_len 3 1) (one 2) (All-cons (λ other_thread. asked_words other_thread ≤ 19) 3 [] (one 3) (All-nil (λ other_thread. asked_words other_thread ≤ 19)))) in
    let total = sum_by-le asked_words 19 (range_with_len 1 3) each_few in
    total
  where
    one : (other_thread : ℕ) → (if other_thread == thread then 0 else words_asked (next_command (churn_scripts seed count) before other_thread)) ≤ 19
    one other_thread =
        elim (other_thread == thread) as (λ same_thread. (if same_thread then 0 else words_asked (next_command (churn_scripts seed count) before other_thread)) ≤ 19) [
          | true ↦ omega arith
          | false ↦ asked_at (get_or (churn_scripts seed count) (other_thread - 1) []) (length (of_thread before other_thread)) (scripts_few seed count (other_thread - 1))
        ]

-- no region has a pinned object
none_pinned : (graph : Graph) (count : ℕ) → Tidy graph → PinnedRegions 256 graph count → count ≡ 0
none_pinned graph count tidy ([], pinned_regions, region_count) = region_count
none_pinned graph count tidy (region ∷ regions, pinned_regions, region_count) =
    let pinned_object = pinned_regions.only region (0, omega arith, refl) in
    absurd (none-some pinned_object.2 (sym (tidy.no_pin pinned_object.0 pinned_object.1) ∙ pinned_object.3))

-- an allocation is not crowded out
not_crowded : (seed count : ℕ) (before : List Entry) (entry : Entry) → Tidy (after (opening 3) before) → AsksFew entry.command → IsCrowded 16 256 (opening 3) (churn_scripts seed count) before entry → ⊥
not_crowded seed count before entry tidy few crowded =
    let graph = after (opening 3) before in
    let live = crowded.0 in
    let held_words = crowded.1 in
    let pinned = crowded.2 in
    let few_words = few_live graph live tidy crowded.3 in
    let no_pinned : pinned ≡ 0 = none_pinned graph pinned tidy crowded.5 in
    let words_crowded : 16 * (256 - words_asked (Some entry.command) + 1) ≤ live - held_words + words_open (churn_scripts seed count) before entry.thread =
    subst (λ (pinned_count : ℕ). (16 - pinned_count) * (256 - words_asked (Some entry.command) + 1) ≤ live - held_words + words_open (churn_scripts seed count) before entry.thread) no_pinned crowded.6 in
    omega (arith, few, few_words, few_open seed count before entry.thread, words_crowded)

-- two histories one after the other

pub after-append : (graph : Graph) (earlier later : List Entry) → after graph (earlier ++ later) ≡ after (after graph earlier) later
after-append graph [] later = refl
after-append graph (entry ∷ earlier) later = after-append (after_entry graph entry) earlier later

pub legal-append : (graph : Graph) (earlier later : List Entry) → EachIsLegal 16 256 graph earlier → EachIsLegal 16 256 (after graph earlier) later → EachIsLegal 16 256 graph (earlier ++ later)
legal-append graph [] later legal rest = rest
legal-append graph (entry ∷ earlier) later legal rest = (legal.0, legal-append (after_entry graph entry) earlier later legal.1 rest)

full_is : (answer : Reply) → is_full answer ≡ true → answer ≡ reply.Full
full_is reply.Full answer_full = refl
full_is (reply.Ref name) answer_full = cc
full_is reply.Null answer_full = cc
full_is reply.Ok answer_full = cc
full_is reply.Yes answer_full = cc
full_is reply.No answer_full = cc
full_is (reply.Number number) answer_full = cc
full_is reply.Bad answer_full = cc
full_is (reply.At place) answer_full = cc

not_full_is : (answer : Reply) → is_full answer ≡ false → answer ≢ reply.Full
not_full_is answer not_full answer_full = let contradiction : true ≡ false = ap is_full (sym answer_full) ∙ not_full in cc

seam : (before entries : List Entry) (entry : Entry) → slice_get (before ++ entry ∷ entries) (length before) ≡ Some entry
seam [] entries entry = refl
seam (first_entry ∷ before) entries entry = seam before entries entry

-- What a history says of its refusals, from one of its places on.
abbrev pub NoneFrom : ℕ → ℕ → List Entry → Type 0
NoneFrom seed count entries = (before : List Entry) → AreCrowded 16 256 (opening 3) (churn_scripts seed count) (before ++ entries) → Tidy (after (opening 3) before)
    → Going (after (opening 3) before) entries → EachIsLegal 16 256 (after (opening 3) before) entries → AllByRecursion IsGiven entries

pub none_from : (seed count : ℕ) (entries : List Entry) → NoneFrom seed count entries
none_from seed count [] before crowded tidy going legal = tt
none_from seed count (entry ∷ later_entries) before crowded tidy going legal = by_reply (is_full entry.reply) refl (none_from seed count later_entries)
  where
    by_reply : (holds : Bool) → is_full entry.reply ≡ holds → NoneFrom seed count later_entries → AllByRecursion IsGiven (entry ∷ later_entries)
    by_reply true full_tested rest =
        let graph_before = after (opening 3) before in
        let crowded_entry = crowded (length before) entry (seam before later_entries entry) (full_is entry.reply full_tested) in
        let crowded_here : IsCrowded 16 256 (opening 3) (churn_scripts seed count) before entry =
        subst (λ (entries : List Entry). IsCrowded 16 256 (opening 3) (churn_scripts seed count) entries entry) (take-append_seam before (entry ∷ later_entries)) crowded_entry in
        absurd (not_crowded seed count before entry tidy (ahead_few graph_before entry.thread entry.command (commands_of (of_thread later_entries entry.thread)) (going-here graph_before entry later_entries going)) crowded_here)
    by_reply false full_tested rest =
        let graph_before = after (opening 3) before in
        let entry_given : IsGiven entry =
        (not_full_is entry.reply full_tested, ahead_pins_none graph_before entry.thread entry.command (commands_of (of_thread later_entries entry.thread)) (going-here graph_before entry later_entries going)) in
        let stepped = entry-step graph_before graph_before entry later_entries tidy tidy (Same-itself entry.thread graph_before) going legal.0 entry_given in
        let graph_now : after (opening 3) (before ++ entry ∷ []) ≡ after_entry graph_before entry = after-append (opening 3) before (entry ∷ []) in (
          entry_given,
          rest (before ++ entry ∷ []) (subst (AreCrowded 16 256 (opening 3) (churn_scripts seed count)) (sym (append_assoc before (entry ∷ []) later_entries)) crowded)
              (subst Tidy (sym graph_now) stepped.moved.tidy) (subst (λ (graph : Graph). Going graph later_entries) (sym graph_now) stepped.going) (subst (λ (graph : Graph). EachIsLegal 16 256 graph later_entries) (sym graph_now) legal.1),
        )
