-- Bytes are one test at most, or they are refused, once.
use Rattle.std.proofs.lemmas.Option.{same_Some}
use Rattle.std.proofs.Common.{◌≡◌, ◌⊎◌, inl, inr, ℕ, ◌+◌, ◌≤◌, Bool, ◌&&◌, true, false, eqb, List, [], ◌∷◌, ◌++◌, length, get_or, Option, Some, None, refl, sym, ap, subst, ◌∙◌, arith}
use Rattle.heap_words.specs.declared.config.Config.{Config}
use Rattle.heap_words.specs.declared.schedule.Item.{Item}
use Rattle.heap_words.specs.Narrow.{IsNarrow}
use Rattle.shen_graph.specs.declared.command.Command.{Command}
use Rattle.trace_reading.specs.Spelling.{IsVersion, header}
use Rattle.trace_reading.specs.Scanning.{HeadNumbers, sizes_at}
use Rattle.trace_reading.specs.Grammar.{most_bytes, Reads, HasNoHead}
use Rattle.trace_reading.specs.declared.why.Why.{Why}
use Rattle.trace_reading.proofs.HeadLaws.{numbers_in_head, sizes_again}
use Rattle.trace_reading.proofs.Once.{same_config}
use Rattle.trace_reading.specs.Causes.{parts}
use Rattle.trace_reading.specs.Refused.{Refused}
use Rattle.trace_reading.proofs.Cuts.{cut_parts}
use Rattle.trace_reading.proofs.Exact.{refused_once as trace_once}
use Rattle.trace_reading.proofs.Either.{either}
use Rattle.find_play.specs.declared.test.Bounds.{Bounds}
use Rattle.find_play.specs.declared.fault.TestWhy.{TestWhy}
use Rattle.find_play.specs.declared.fault.TestWhy.TheVariants as whys
use Rattle.find_play.specs.Told.{Told, untold}
use Rattle.find_play.specs.Drafts.{has_all_threads}
use Rattle.find_play.specs.Tests.{LineStops, TestSaid, said_in_all, IsWholeTest, IsTestBody, IsTest, StopsBehind, StopsInHead, StopsInBody, RefusesTest}
use Rattle.find_play.proofs.HeadFound.{HasHead, head_or_none}
use Rattle.find_play.proofs.Following.{version_stays, IsEnding, Ends, all_end, one_end, one_cause, never_whole}

-- ---- one head

-- a head, and what is behind it, are one
same_head : (version other_version : ℕ) (config other_config : Config) (rest after : List ℕ) → IsVersion version → IsVersion other_version → IsNarrow config → IsNarrow other_config → header version config ++ rest ≡ header other_version other_config ++ after → (version ≡ other_version) × (config ≡ other_config) × (rest ≡ after)
same_head version other_version config other_config rest after known_version other_known narrow other_narrow same_bytes =
    let first_head : HeadNumbers × List ℕ = (numbers_in_head version config, rest) in
    let second_head : HeadNumbers × List ℕ = (numbers_in_head other_version other_config, after) in
    let same_numbers : first_head ≡ second_head = same_Some first_head second_head (sym (sizes_again version config rest known_version narrow) ∙ ap sizes_at same_bytes ∙ sizes_again other_version other_config after other_known other_narrow) in (
      ap (λ (head : HeadNumbers × List ℕ). head.0.version) same_numbers,
      same_config config other_config (ap (λ (head : HeadNumbers × List ℕ). get_or head.0.heap 0 0) same_numbers) (ap (λ (head : HeadNumbers × List ℕ). get_or head.0.heap 1 0) same_numbers)
          (ap (λ (head : HeadNumbers × List ℕ). get_or head.0.threads 0 0) same_numbers) (ap (λ (head : HeadNumbers × List ℕ). get_or head.0.threads 1 0) same_numbers) (ap (λ (head : HeadNumbers × List ℕ). get_or head.0.heap 2 0) same_numbers),
      ap (λ (head : HeadNumbers × List ℕ). head.1) same_numbers,
    )

-- what holds of a head and what is behind it holds of the same
of_same : (P : ℕ → Config → List ℕ → Type 0) (version other_version : ℕ) (config other_config : Config) (rest after : List ℕ) → (version ≡ other_version) × (config ≡ other_config) × (rest ≡ after) → P version config rest → P other_version other_config after
of_same P version other_version config other_config rest after same_parts holds =
    subst (P other_version other_config) same_parts.2 (subst (λ (config : Config). P other_version config rest) same_parts.1 (subst (λ (some_version : ℕ). P some_version config rest) same_parts.0 holds))

-- ---- one test

said_once : (config : Config) (told : Told) (said other_said : TestSaid) → IsWholeTest config told said → IsWholeTest config told other_said → said ≡ other_said
said_once config told said other_said whole_test other_whole =
    let bounds : said.bounds ≡ other_said.bounds = same_Some said.bounds other_said.bounds (sym whole_test.bounds ∙ other_whole.bounds) in
    whole_test.test_is ∙ ap (λ (bounds : Bounds). said_in_all config bounds told) bounds ∙ sym other_whole.test_is

body_once : (version : ℕ) (config : Config) (bytes : List ℕ) (said other_said : TestSaid) → IsTestBody version config bytes said → IsTestBody version config bytes other_said → said ≡ other_said
body_once version config bytes said other_said test_body other_body =
    let same_end = one_end (untold version config.mutators) test_body.lines other_body.lines test_body.said other_body.said ([] ∷ []) ([] ∷ []) test_body.lead other_body.lead (sym test_body.cut ∙ other_body.cut) (inr (refl, test_body.whole.whole)) (inr (refl, other_body.whole.whole)) in
    said_once config other_body.said said other_said (subst (λ (told : Told). IsWholeTest config told said) same_end.1 test_body.whole) other_body.whole

pub test_once : (bytes : List ℕ) (said other_said : TestSaid) → IsTest bytes said → IsTest bytes other_said → said ≡ other_said
test_once bytes said other_said test other_test =
    let same_heads = same_head said.version other_said.version said.config other_said.config test.behind other_test.behind test.known other_test.known test.narrow other_test.narrow (sym test.head ∙ other_test.head) in
    body_once other_said.version other_said.config other_test.behind said other_said (of_same (λ version config body_bytes. IsTestBody version config body_bytes said) said.version other_said.version said.config other_said.config test.behind other_test.behind same_heads test.body) other_test.body

-- ---- never both

body_not_refused : (version : ℕ) (config : Config) (bytes : List ℕ) (said : TestSaid) (line : ℕ) (why : TestWhy) → IsTestBody version config bytes said → StopsBehind (untold version config.mutators) 4 bytes line why → ⊥
body_not_refused version config bytes said line why test_body stops_behind =
    let same_end = one_end (untold version config.mutators) test_body.lines stops_behind.before test_body.said stops_behind.said ([] ∷ []) stops_behind.from_it test_body.lead stops_behind.lead (sym test_body.cut ∙ stops_behind.cut) (inr (refl, test_body.whole.whole)) (inl (why, stops_behind.cause)) in
    never_whole stops_behind.said stops_behind.from_it why (sym same_end.2) (ap has_all_threads (sym same_end.1) ∙ test_body.whole.whole) stops_behind.cause

pub never_both : (bytes : List ℕ) (said : TestSaid) (line : ℕ) (why : TestWhy) → IsTest bytes said → RefusesTest bytes line why → ⊥
never_both bytes said line why test refuses_test = by_part refuses_test.stops
  where
    by_part : StopsInHead bytes line why ⊎ StopsInBody bytes line why → ⊥
    by_part (inl stop) = stop.no_head said.version said.config test.behind test.known test.narrow test.head
    by_part (inr stop) =
        let same_heads = same_head said.version stop.version said.config stop.config test.behind stop.behind test.known stop.known test.narrow stop.narrow (sym test.head ∙ stop.head) in
        body_not_refused stop.version stop.config stop.behind said line why (of_same (λ version config body_bytes. IsTestBody version config body_bytes said) said.version stop.version said.config stop.config test.behind stop.behind same_heads test.body) stop.stops

-- ---- refused once

body_refused_once : (told : Told) (bytes : List ℕ) (line other_line : ℕ) (why other_why : TestWhy) → StopsBehind told 4 bytes line why → StopsBehind told 4 bytes other_line other_why → (line ≡ other_line) × (why ≡ other_why)
body_refused_once told bytes line other_line why other_why stops_behind other_stops =
    let same_end = one_end told stops_behind.before other_stops.before stops_behind.said other_stops.said stops_behind.from_it other_stops.from_it stops_behind.lead other_stops.lead (sym stops_behind.cut ∙ other_stops.cut) (inl (why, stops_behind.cause)) (inl (other_why, other_stops.cause)) in
    let cause = subst (λ (told : Told). LineStops told other_stops.from_it why) same_end.1 (subst (λ (lines : List (List ℕ)). LineStops stops_behind.said lines why) same_end.2 stops_behind.cause) in
    (omega (arith, stops_behind.number, other_stops.number, same_end.0), one_cause other_stops.said other_stops.from_it why other_why cause other_stops.cause)

pub refused_once : (bytes : List ℕ) (line other_line : ℕ) (why other_why : TestWhy) → RefusesTest bytes line why → RefusesTest bytes other_line other_why → (line ≡ other_line) × (why ≡ other_why)
refused_once bytes line other_line why other_why refuses_test other_refusal = by_part refuses_test.stops other_refusal.stops
  where
    by_part : StopsInHead bytes line why ⊎ StopsInBody bytes line why → StopsInHead bytes other_line other_why ⊎ StopsInBody bytes other_line other_why → (line ≡ other_line) × (why ≡ other_why)
    by_part (inl stop) (inl other_stop) = let same_trace = trace_once bytes line other_line stop.cause other_stop.cause stop.stops other_stop.stops in (same_trace.0, stop.why_is ∙ ap whys.Trace same_trace.1 ∙ sym other_stop.why_is)
    by_part (inl stop) (inr other_stop) = absurd (stop.no_head other_stop.version other_stop.config other_stop.behind other_stop.known other_stop.narrow other_stop.head)
    by_part (inr stop) (inl other_stop) = absurd (other_stop.no_head stop.version stop.config stop.behind stop.known stop.narrow stop.head)
    by_part (inr stop) (inr other_stop) =
        let same_heads = same_head other_stop.version stop.version other_stop.config stop.config other_stop.behind stop.behind other_stop.known stop.known other_stop.narrow stop.narrow (sym other_stop.head ∙ stop.head) in
        let stops = of_same (λ version config body_bytes. StopsBehind (untold version config.mutators) 4 body_bytes other_line other_why) other_stop.version stop.version other_stop.config stop.config other_stop.behind stop.behind same_heads other_stop.stops in
        body_refused_once (untold stop.version stop.config.mutators) stop.behind line other_line why other_why stop.stops stops

-- ---- one or the other

no_bounds : (told : Told) → has_all_threads told ≡ true → told.bounds ≡ None → ⊥
no_bounds told all_threads bounds_absent = by_tests (eqb (length told.programs) told.threads) (eqb (length told.blocks) 0) (rw bounds_absent at all_threads)
  where
    by_tests : (holds other_holds : Bool) → ((holds && other_holds) && false) ≡ true → ⊥
    by_tests true true both_hold = cc
    by_tests true false both_hold = cc
    by_tests false other_holds both_hold = cc

-- a body behind a head is a test
whole_test : (bytes : List ℕ) (version : ℕ) (config : Config) (rest : List ℕ) (said_version : ℕ) → version ≡ said_version → length bytes ≤ most_bytes → IsVersion version → IsNarrow config → bytes ≡ header version config ++ rest
    → (test : TestSaid) → test.version ≡ said_version → test.config ≡ config → IsTestBody version config rest test → IsTest bytes test
whole_test bytes version config rest said_version same_version short known_version narrow head test version_is config_is body =
    let same_told : version ≡ test.version = same_version ∙ sym version_is in
    let config_same : config ≡ test.config = sym config_is in
    record {
      known = subst IsVersion same_told known_version;
      narrow = subst IsNarrow config_same narrow;
      behind = rest;
      head = head ∙ ap (λ (some_version : ℕ). header some_version config ++ rest) same_told ∙ ap (λ (config : Config). header test.version config ++ rest) config_same;
      body = of_same (λ version config body_bytes. IsTestBody version config body_bytes test) version test.version config test.config rest rest (same_told, config_same, refl) body;
      short = short;
    }

-- what was said of all threads is a test
whole_said : (config : Config) (told : Told) → has_all_threads told ≡ true → (bounds : Bounds) × IsWholeTest config told (said_in_all config bounds told)
whole_said config told all_threads = by_bounds told.bounds refl
  where
    by_bounds : (found : Option Bounds) → told.bounds ≡ found → (bounds : Bounds) × IsWholeTest config told (said_in_all config bounds told)
    by_bounds (Some found_bounds) bounds_found = (found_bounds, record { whole = all_threads; bounds = bounds_found; test_is = refl })
    by_bounds None bounds_found = absurd (no_bounds told all_threads bounds_found)

behind_head : (bytes : List ℕ) (version : ℕ) (config : Config) (rest : List ℕ) → length bytes ≤ most_bytes → IsVersion version → IsNarrow config → bytes ≡ header version config ++ rest
    → ((said : TestSaid) × IsTest bytes said) ⊎ ((line : ℕ) × (why : TestWhy) × RefusesTest bytes line why)
behind_head bytes version config rest short known_version narrow head = by_ends (subst (Ends (untold version config.mutators)) (sym (cut_parts 10 rest)) (all_end (untold version config.mutators) _ _))
  where
    by_ending : (ending : Ends (untold version config.mutators) (parts 10 rest)) → IsEnding ending.said ending.from_it → ((test : TestSaid) × IsTest bytes test) ⊎ ((line : ℕ) × (why : TestWhy) × RefusesTest bytes line why)
    by_ending ending (inl end_facts) =
        inr (4 + length ending.before, end_facts.0, record { stops = inr (record { version = version; config = config; known = known_version; narrow = narrow; behind = rest; head = head; stops = record { before = ending.before; from_it = ending.from_it; cut = ending.cut; number = refl; said = ending.said; lead = ending.lead; cause = end_facts.1 } }); short = short })
    by_ending ending (inr end_facts) =
        let said_test = whole_said config ending.said end_facts.1 in
        let cut : parts 10 rest ≡ ending.before ++ [] ∷ [] = ending.cut ∙ ap (λ (some_lines : List (List ℕ)). ending.before ++ some_lines) end_facts.0 in
        let same_version : version ≡ ending.said.version = sym (version_stays (untold version config.mutators) ending.said ending.before ending.lead) in
        inl (said_in_all config said_test.0 ending.said, whole_test bytes version config rest ending.said.version same_version short known_version narrow head (said_in_all config said_test.0 ending.said) refl refl (record { lines = ending.before; cut = cut; said = ending.said; lead = ending.lead; whole = said_test.1 }))

    by_ends : Ends (untold version config.mutators) (parts 10 rest) → ((test : TestSaid) × IsTest bytes test) ⊎ ((line : ℕ) × (why : TestWhy) × RefusesTest bytes line why)
    by_ends ending = by_ending ending ending.ending

-- bytes within the limit are a test or are refused
pub test_or_refused : (bytes : List ℕ) → length bytes ≤ most_bytes → ((said : TestSaid) × IsTest bytes said) ⊎ ((line : ℕ) × (why : TestWhy) × RefusesTest bytes line why)
test_or_refused bytes short = by_head (head_or_none bytes)
  where
    by_trace : HasNoHead bytes → ((version : ℕ) × (config : Config) × (scripts : List (List Command)) × (items : List Item) × Reads bytes version config scripts items) ⊎ ((line : ℕ) × (why : Why) × Refused bytes line why)
        → ((said : TestSaid) × IsTest bytes said) ⊎ ((line : ℕ) × (why : TestWhy) × RefusesTest bytes line why)
    by_trace head_missing (inl said) = absurd (head_missing said.0 said.1 _ said.4.known said.4.narrow said.4.spelled)
    by_trace head_missing (inr refusal) = inr (refusal.0, whys.Trace refusal.1, record { stops = inl (record { no_head = head_missing; cause = refusal.1; why_is = refl; stops = refusal.2.0 }); short = short })

    by_head : HasHead bytes ⊎ HasNoHead bytes → ((test : TestSaid) × IsTest bytes test) ⊎ ((line : ℕ) × (why : TestWhy) × RefusesTest bytes line why)
    by_head (inl head) = behind_head bytes head.0 head.1 head.2 short head.3 head.4 head.5
    by_head (inr no_head) = by_trace no_head (either bytes short)
