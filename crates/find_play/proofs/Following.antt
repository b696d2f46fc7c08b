-- Lines lead on in one way, and to a test or to a line at fault.
use Rattle.std.proofs.lemmas.Option.{same_Some}
use Rattle.std.proofs.Common.{◌≡◌, ◌⊎◌, inl, inr, ℕ, suc, Bool, true, false, cond, List, [], ◌∷◌, ◌++◌, length, Some, None, Ok, Err, Result, refl, sym, ap, subst, ◌∙◌}
use Rattle.shen_graph.proofs.Lists.{cons_injective}
use Rattle.trace_reading.specs.declared.why.Why.TheVariants.{EndOfLine}
use Rattle.trace_reading.specs.Causes.{parts}
use Rattle.find_play.specs.declared.fault.TestWhy.{TestWhy}
use Rattle.find_play.specs.declared.fault.TestWhy.TheVariants as whys
use Rattle.find_play.specs.declared.kind.LineKind.{LineKind}
use Rattle.find_play.specs.declared.kind.LineKind.TheVariants as line
use Rattle.find_play.specs.declared.slot.Value.{Value}
use Rattle.find_play.specs.Told.{Told}
use Rattle.find_play.specs.Drafts.{has_all_threads}
use Rattle.find_play.specs.Lines.{line_in}
use Rattle.find_play.specs.Added.{added}
use Rattle.find_play.specs.Tests.{name_among, TestLineFollows, TestLinesFollow, test_end_cause, LineStops}
use Rattle.find_play.proofs.SaidLines.{line_said}
use Rattle.find_play.proofs.SaidAgain.{line_again}

same_ok : {A : Type 0} (x y : A) → ◌≡◌ {A = Result A TestWhy} (Ok x) (Ok y) → x ≡ y
same_ok x y same_result = cc

same_err : {A : Type 0} (x y : TestWhy) → ◌≡◌ {A = Result A TestWhy} (Err x) (Err y) → x ≡ y
same_err x y same_result = cc

-- ---- threads

adds_no_threads : (told : Told) (kind : LineKind) (values : List Value) (name : List ℕ) → (added told kind values name).threads ≡ told.threads
adds_no_threads told line.Bounds values name = refl
adds_no_threads told _ values name = refl

pub threads_stay : (told later_told : Told) (texts : List (List ℕ)) → TestLinesFollow told texts later_told → later_told.threads ≡ told.threads
threads_stay told later_told [] lead = ap (λ (told : Told). told.threads) (sym lead)
threads_stay told later_told (text ∷ texts) lead =
    let line_leads = lead.1 in
    threads_stay lead.0 later_told texts lead.2 ∙ ap (λ (told : Told). told.threads) line_leads.3 ∙ adds_no_threads told line_leads.0 line_leads.1 (name_among (parts 32 text))

adds_no_version : (told : Told) (kind : LineKind) (values : List Value) (name : List ℕ) → (added told kind values name).version ≡ told.version
adds_no_version told line.Bounds values name = refl
adds_no_version told _ values name = refl

pub version_stays : (told later_told : Told) (texts : List (List ℕ)) → TestLinesFollow told texts later_told → later_told.version ≡ told.version
version_stays told later_told [] lead = ap (λ (told : Told). told.version) (sym lead)
version_stays told later_told (text ∷ texts) lead =
    let line_leads = lead.1 in
    version_stays lead.0 later_told texts lead.2 ∙ ap (λ (told : Told). told.version) line_leads.3 ∙ adds_no_version told line_leads.0 line_leads.1 (name_among (parts 32 text))

-- ---- one line more

pub lines_then : (before between after : Told) (texts : List (List ℕ)) (text : List ℕ) → TestLinesFollow before texts between → TestLineFollows between text after → TestLinesFollow before (texts ++ text ∷ []) after
lines_then other_told between after [] text lead last_leads = (after, subst (λ (told : Told). TestLineFollows told text after) (sym lead) last_leads, refl)
lines_then told other_told after (first_text ∷ texts) text lead last_leads = (lead.0, lead.1, lines_then lead.0 other_told after texts text lead.2 last_leads)

-- ---- a line leads on in one way, and is not at fault

pub same_next : (before : Told) (text : List ℕ) (next second_next : Told) → TestLineFollows before text next → TestLineFollows before text second_next → next ≡ second_next
same_next told text first_next second_next test_line_follows other_follows =
    let first_line : LineKind × List Value = (test_line_follows.0, test_line_follows.1) in
    let second_line : LineKind × List Value = (other_follows.0, other_follows.1) in
    let same_line : first_line ≡ second_line = same_ok first_line second_line (sym (line_again told (parts 32 text) test_line_follows.0 test_line_follows.1 test_line_follows.2) ∙ line_again told (parts 32 text) other_follows.0 other_follows.1 other_follows.2) in
    test_line_follows.3 ∙ ap (λ (any_line : LineKind × List Value). added told any_line.0 any_line.1 (name_among (parts 32 text))) same_line ∙ sym other_follows.3

pub not_at_fault : (told : Told) (text : List ℕ) (next : Told) (why : TestWhy) → TestLineFollows told text next → line_in told (parts 32 text) ≡ Err why → ⊥
not_at_fault told text next why test_line_follows at_fault = let line_fine = line_again told (parts 32 text) test_line_follows.0 test_line_follows.1 test_line_follows.2 in cc

-- ---- lines lead to one end

-- the first of these lines is at fault, or they are the empty text behind the last end of a line of a whole test
abbrev pub IsEnding : Told → List (List ℕ) → Type 0
IsEnding told texts = ((why : TestWhy) × LineStops told texts why) ⊎ ((texts ≡ [] ∷ []) × (has_all_threads told ≡ true))

no_ending : (told : Told) → IsEnding told [] → ⊥
no_ending told (inl end) = end.1
no_ending told (inr end) = let texts_are = end.0 in cc

goes_on : (told next : Told) (text : List ℕ) (others : List (List ℕ)) → TestLineFollows told text next → (others ≡ [] → ⊥) → IsEnding told (text ∷ others) → ⊥
goes_on told next text [] test_line_follows some_others ending = some_others refl
goes_on told next text (next_text ∷ others) test_line_follows some_others (inl end) = not_at_fault told text next end.0 test_line_follows end.1
goes_on told next text (next_text ∷ others) test_line_follows some_others (inr end) = let texts_are = end.0 in cc

not_empty : (told : Told) (xs ys : List (List ℕ)) → IsEnding told ys → xs ++ ys ≡ [] → ⊥
not_empty told [] ys ending both_empty = no_ending told (subst (IsEnding told) both_empty ending)
not_empty told (x ∷ xs) ys ending both_empty = absurd cc

-- two readings come to one line with the same said, and the same is left
pub one_end : (start : Told) (xs ys : List (List ℕ)) (first_end second_end : Told) (lines_left second_left : List (List ℕ)) → TestLinesFollow start xs first_end → TestLinesFollow start ys second_end → xs ++ lines_left ≡ ys ++ second_left → IsEnding first_end lines_left → IsEnding second_end second_left → (length xs ≡ length ys) × (first_end ≡ second_end) × (lines_left ≡ second_left)
one_end told [] [] other_told second_end first_left second_left test_lines_follow other_follow both_same ending other_ending = (refl, sym test_lines_follow ∙ other_follow, both_same)
one_end other_told [] (text ∷ rest) first_end second_end first_left lines_left test_lines_follow other_follow both_same ending other_ending = absurd (goes_on other_told other_follow.0 text (rest ++ lines_left) other_follow.1 (not_empty second_end rest lines_left other_ending) (subst (IsEnding other_told) both_same (subst (λ (told : Told). IsEnding told first_left) (sym test_lines_follow) ending)))
one_end other_told (text ∷ rest) [] first_end second_end lines_left second_left test_lines_follow other_follow both_same ending other_ending = absurd (goes_on other_told test_lines_follow.0 text (rest ++ lines_left) test_lines_follow.1 (not_empty first_end rest lines_left ending) (subst (IsEnding other_told) (sym both_same) (subst (λ (told : Told). IsEnding told second_left) (sym other_follow) other_ending)))
one_end other_told (text ∷ rest) (other_text ∷ ys) first_end second_end first_left second_left test_lines_follow other_follow same_lists ending other_ending =
    let parts_same = cons_injective text other_text (rest ++ first_left) (ys ++ second_left) same_lists in
    let both_same : test_lines_follow.0 ≡ other_follow.0 = same_next other_told text test_lines_follow.0 other_follow.0 test_lines_follow.1 (subst (λ (any_text : List ℕ). TestLineFollows other_told any_text other_follow.0) (sym parts_same.0) other_follow.1) in
    let others = one_end other_follow.0 rest ys first_end second_end first_left second_left (subst (λ (told : Told). TestLinesFollow told rest first_end) both_same test_lines_follow.2) other_follow.2 parts_same.1 ending other_ending in
    (ap suc others.0, others.1, others.2)

-- ---- a line is at fault for one cause

pub one_cause : (told : Told) (texts : List (List ℕ)) (why other_why : TestWhy) → LineStops told texts why → LineStops told texts other_why → why ≡ other_why
one_cause told [] why other_why line_stops other_stops = absurd line_stops
one_cause told (text ∷ []) why other_why line_stops other_stops = same_Some why other_why (sym line_stops ∙ other_stops)
one_cause told (text ∷ next ∷ rest) why other_why line_stops other_stops = same_err why other_why (sym line_stops ∙ other_stops)

whole_stops : (told : Told) (why : TestWhy) → has_all_threads told ≡ true → test_end_cause told [] ≡ Some why → ⊥
whole_stops told why all_threads found = by_test (has_all_threads told) all_threads found
  where
    by_test : (test : Bool) → test ≡ true → cond test None (Some whys.More) ≡ Some why → ⊥
    by_test true test_holds found = cc
    by_test false test_holds found = cc

pub never_whole : (told : Told) (texts : List (List ℕ)) (why : TestWhy) → texts ≡ [] ∷ [] → has_all_threads told ≡ true → LineStops told texts why → ⊥
never_whole told texts why texts_are all_threads stops = whole_stops told why all_threads (subst (λ (lines : List (List ℕ)). LineStops told lines why) texts_are stops)

-- ---- lines come to one of the two ends

pub record Ends (told : Told) (texts : List (List ℕ)) : Type 0 where
  pub before : List (List ℕ)
  pub from_it : List (List ℕ)
  pub cut : texts ≡ before ++ from_it
  pub said : Told
  pub lead : TestLinesFollow told before said
  pub ending : IsEnding said from_it

ends_here : (told : Told) (texts : List (List ℕ)) → IsEnding told texts → Ends told texts
ends_here told texts ending = record { before = []; from_it = texts; cut = refl; said = told; lead = refl; ending = ending }

ends_behind : (told next : Told) (text : List ℕ) (texts : List (List ℕ)) → TestLineFollows told text next → Ends next texts → Ends told (text ∷ texts)
ends_behind told next text texts test_line_follows ends = record { before = text ∷ ends.before; from_it = ends.from_it; cut = ap (λ (lines : List (List ℕ)). text ∷ lines) ends.cut; said = ends.said; lead = (next, test_line_follows, ends.lead); ending = ends.ending }

last_ends : (told : Told) (text : List ℕ) → Ends told (text ∷ [])
last_ends told (byte ∷ text) = ends_here told ((byte ∷ text) ∷ []) (inl (whys.Trace EndOfLine, refl))
last_ends told [] = ends_here told ([] ∷ []) (by_test (has_all_threads told) refl)
  where
    by_test : (test : Bool) → has_all_threads told ≡ test → IsEnding told ([] ∷ [])
    by_test true all_threads = inr (refl, all_threads)
    by_test false some_missing = inl (whys.More, rw some_missing refl)

pub all_end : (told : Told) (text : List ℕ) (texts : List (List ℕ)) → Ends told (text ∷ texts)
all_end told text [] = last_ends told text
all_end told text (next ∷ rest) = by_line (line_in told (parts 32 text)) refl (λ next_told. all_end next_told next rest)
  where
    by_line : (read : Result (LineKind × List Value) TestWhy) → line_in told (parts 32 text) ≡ read → ((next_told : Told) → Ends next_told (next ∷ rest)) → Ends told (text ∷ next ∷ rest)
    by_line (Err why) read_is later_end = ends_here told (text ∷ next ∷ rest) (inl (why, read_is))
    by_line (Ok line_read) read_is later_end =
        let after = added told line_read.0 line_read.1 (name_among (parts 32 text)) in
        ends_behind told after text (next ∷ rest) (line_read.0, line_read.1, line_said told (parts 32 text) line_read.0 line_read.1 read_is, refl) (later_end after)
