-- Bytes are a pair in one way at most, or are refused once.
use Rattle.std.proofs.Common.{◌≡◌, ◌⊎◌, ℕ, ◌^◌, ◌<◌, ◌≤◌, List, [], ◌∷◌, ◌++◌, length, codes, inl, inr, refl, sym, ap, subst, ◌∙◌, append_assoc, arith}
use Rattle.std.specs.List.{flat_map, AllByRecursion}
use Rattle.std.proofs.lemmas.List.{append-nil, append_cancel_right}
use Rattle.shen_graph.specs.declared.command.Command.{Command}
use Rattle.shen_graph.specs.History.{Entry}
use Rattle.heap_words.specs.declared.config.Config.{Config}
use Rattle.heap_words.specs.declared.schedule.Item.{Item}
use Rattle.trace_reading.specs.Grammar.{most_bytes, Reads, IsSameTrace}
use Rattle.trace_reading.specs.declared.why.Why.{Why}
use Rattle.trace_reading.proofs.Once.{read_once}
use Rattle.trace_reading.specs.Causes.{parts}
use Rattle.trace_reading.specs.Refused.{StopsAt, Refused}
use Rattle.trace_reading.proofs.Exact as exact
use Rattle.trace_reading.proofs.Either as all
use Rattle.trace_reading.proofs.Leads.{few_threads}
use Rattle.trace_text.specs.History.{entry_line}
use Rattle.trace_text.specs.Entries.{IsClaim, BeginsWithNoEntry}
use Rattle.trace_text.specs.LineCuts.{IsCutAt, HasNoLine, last_line}
use Rattle.trace_text.specs.Pairs.{HasTrace, HasClaims, IsPair, IsSamePair}
use Rattle.trace_text.specs.Refusals.{LacksTrace, LacksAnswer, LacksHistory, LacksEntry, HasBadClaims, IsPairRefused, wanted_behind, wanted_at}
use Rattle.trace_text.proofs.ReadEntries.{nothing_read, entries_once, entries_of}
use Rattle.trace_text.proofs.CutLines.{cut_once, cut_or_none, cut_short, behind_cut, IsCut}

abbrev Scripts : Type 0
Scripts = List (List Command)

-- ---- once

pub trace_once : (bytes behind other_behind : List ℕ) (version other_version : ℕ) (config other_config : Config) (scripts other_scripts : Scripts) (items other_items : List Item) → HasTrace bytes version config scripts items behind → HasTrace bytes other_version other_config other_scripts other_items other_behind → IsSameTrace version config scripts items other_version other_config other_scripts other_items × (behind ≡ other_behind)
trace_once bytes behind second_behind version other_version config other_config scripts other_scripts items other_items has_trace other_trace =
    let cut_same = cut_once (codes "answer") bytes has_trace.trace behind other_trace.trace second_behind has_trace.cut other_trace.cut in
    (read_once has_trace.trace version other_version config other_config scripts other_scripts items other_items has_trace.reads (subst (λ (given_bytes : List ℕ). Reads given_bytes other_version other_config other_scripts other_items) (sym cut_same.0) other_trace.reads), cut_same.1)

same_trace : (bytes behind other_behind : List ℕ) (version other_version : ℕ) (config other_config : Config) (scripts other_scripts : Scripts) (own_items items : List Item) → HasTrace bytes version config scripts own_items behind → HasTrace bytes other_version other_config other_scripts items other_behind → (config ≡ other_config) × (behind ≡ other_behind) × (version ≡ other_version)
same_trace bytes behind second_behind version second_version config other_config scripts other_scripts own_items items has_trace other_trace = let traces_same = trace_once bytes behind second_behind version second_version config other_config scripts other_scripts own_items items has_trace other_trace in (traces_same.0.config, traces_same.1, traces_same.0.version)

claims_once : (version threads : ℕ) (bytes body other_body : List ℕ) (entries other_entries : List Entry) → threads < 2 ^ 64 → HasClaims version threads bytes body entries → HasClaims version threads bytes other_body other_entries → (body ≡ other_body) × (entries ≡ other_entries)
claims_once version threads bytes body other_body entries other_entries small has_claims other_claims =
    let cut_same = cut_once (codes "history") bytes body has_claims.claimed other_body other_claims.claimed has_claims.cut other_claims.cut in
    let no_entry = nothing_read version threads small in
    (cut_same.0, (entries_once version threads entries other_entries [] [] small has_claims.in_range other_claims.in_range no_entry no_entry (append-nil (flat_map entry_line entries) ∙ sym has_claims.spelled ∙ cut_same.1 ∙ other_claims.spelled ∙ sym (append-nil (flat_map entry_line other_entries)))).0)

pub pair_once : (bytes : List ℕ) (version other_version : ℕ) (config other_config : Config) (scripts other_scripts : Scripts) (own_items items : List Item) (body other_body : List ℕ) (entries other_entries : List Entry) → IsPair bytes version config scripts own_items body entries → IsPair bytes other_version other_config other_scripts items other_body other_entries → IsSamePair version config scripts own_items body entries other_version other_config other_scripts items other_body other_entries
pair_once bytes version other_version config other_config scripts other_scripts own_items items body other_body entries other_entries pair other_pair =
    let trace = trace_once bytes pair.behind other_pair.behind version other_version config other_config scripts other_scripts own_items items pair.trace other_pair.trace in
    let claims : HasClaims version config.mutators pair.behind other_body other_entries =
    subst (λ (version : ℕ). HasClaims version config.mutators pair.behind other_body other_entries) (sym trace.0.version)
    (subst (λ (config : Config). HasClaims other_version config.mutators pair.behind other_body other_entries) (sym trace.0.config) (subst (λ (given_bytes : List ℕ). HasClaims other_version other_config.mutators given_bytes other_body other_entries) (sym trace.1) other_pair.claims)) in
    let claims_same = claims_once version config.mutators pair.behind body other_body entries other_entries (few_threads config) pair.claims claims in
    record { trace = trace.0; text = claims_same.0; history = claims_same.1 }

-- ---- one or the other

claims_or_not : (version threads : ℕ) (bytes front behind : List ℕ) → threads < 2 ^ 64 → bytes ≡ front ++ behind
    → ((body : List ℕ) × (entries : List Entry) × HasClaims version threads behind body entries) ⊎ ((n : ℕ) × (why : Why) × (LacksHistory bytes behind n why ⊎ LacksEntry version threads bytes behind n why))
claims_or_not version threads bytes front behind small bytes_are = by_cut (cut_or_none (length behind) (codes "history") behind (omega arith))
  where
    by_rest : (body claimed : List ℕ) → IsCutAt (codes "history") behind body claimed → (entries : List Entry) → AllByRecursion (IsClaim version threads) entries → (rest : List ℕ) → claimed ≡ flat_map entry_line entries ++ rest → BeginsWithNoEntry version threads rest
        → ((body : List ℕ) × (entries : List Entry) × HasClaims version threads behind body entries) ⊎ ((line_number : ℕ) × (why : Why) × (LacksHistory bytes behind line_number why ⊎ LacksEntry version threads bytes behind line_number why))
    by_rest body claimed cut entries in_range [] spelled no_entry = inl (body, entries, record { claimed = claimed; cut = cut; spelled = spelled ∙ append-nil (flat_map entry_line entries); in_range = in_range })
    by_rest body claimed cut entries in_range (byte ∷ rest) spelled no_entry =
        let before_it = behind_cut (codes "history") behind body claimed cut in
        let before = front ++ (before_it.0 ++ flat_map entry_line entries) in
        let whole_bytes : bytes ≡ before ++ byte ∷ rest =
        bytes_are ∙ ap (λ (given_bytes : List ℕ). front ++ given_bytes) (before_it.1 ∙ ap (λ (given_bytes : List ℕ). before_it.0 ++ given_bytes) spelled) ∙ sym (simp append_assoc) in
        inr (
          last_line before,
          wanted_at (parts 10 (byte ∷ rest)),
          inr (record {
            body = body;
            claimed = claimed;
            cut = cut;
            entries = entries;
            in_range = in_range;
            from_it = byte ∷ rest;
            spelled = spelled;
            some = omega arith;
            none = no_entry;
            before = before;
            whole = whole_bytes;
            number = refl;
            cause = refl;
          }),
        )

    by_cut : IsCut (codes "history") behind ⊎ HasNoLine (codes "history") behind
        → ((body : List ℕ) × (entries : List Entry) × HasClaims version threads behind body entries) ⊎ ((line_number : ℕ) × (why : Why) × (LacksHistory bytes behind line_number why ⊎ LacksEntry version threads bytes behind line_number why))
    by_cut (inl history_cut) = let has_entries = entries_of (length history_cut.1) version threads history_cut.1 small (omega arith) in by_rest history_cut.0 history_cut.1 history_cut.2 has_entries.entries has_entries.in_range has_entries.rest has_entries.spelled has_entries.none
    by_cut (inr no_history) = inr (last_line bytes, wanted_behind behind, inl (record { none = no_history; number = refl; cause = refl }))

abbrev IsAPair : List ℕ → Type 0
IsAPair bytes = (version : ℕ) × (config : Config) × (scripts : Scripts) × (items : List Item) × (body : List ℕ) × (entries : List Entry) × IsPair bytes version config scripts items body entries

abbrev IsRefused : List ℕ → Type 0
IsRefused bytes = (line_number : ℕ) × (why : Why) × IsPairRefused bytes line_number why

with_trace : (bytes behind : List ℕ) (version : ℕ) (config : Config) (scripts : Scripts) (items : List Item) → length bytes ≤ most_bytes → HasTrace bytes version config scripts items behind → IsAPair bytes ⊎ IsRefused bytes
with_trace bytes behind version config scripts items short trace =
    let bytes_are = behind_cut (codes "answer") bytes trace.trace behind trace.cut in
    by_claims (claims_or_not version config.mutators bytes bytes_are.0 behind (few_threads config) bytes_are.1)
  where
    by_claims : ((body : List ℕ) × (entries : List Entry) × HasClaims version config.mutators behind body entries) ⊎ ((line_number : ℕ) × (why : Why) × (LacksHistory bytes behind line_number why ⊎ LacksEntry version config.mutators bytes behind line_number why)) → IsAPair bytes ⊎ IsRefused bytes
    by_claims (inl outcome) = inl (version, config, scripts, items, outcome.0, outcome.1, record { behind = behind; trace = trace; claims = outcome.2; short = short })
    by_claims (inr outcome) = inr (outcome.0, outcome.1, (inr (record { version = version; config = config; scripts = scripts; items = items; behind = behind; trace = trace; fault = outcome.2 }), short))

pub pair_or_refused : (bytes : List ℕ) → length bytes ≤ most_bytes → IsAPair bytes ⊎ IsRefused bytes
pair_or_refused bytes short = by_cut (cut_or_none (length bytes) (codes "answer") bytes (omega arith))
  where
    by_front : (trace behind : List ℕ) → IsCutAt (codes "answer") bytes trace behind → ((version : ℕ) × (config : Config) × (scripts : Scripts) × (items : List Item) × Reads trace version config scripts items) ⊎ ((line_number : ℕ) × (why : Why) × Refused trace line_number why) → IsAPair bytes ⊎ IsRefused bytes
    by_front trace behind cut (inl outcome) = with_trace bytes behind outcome.0 outcome.1 outcome.2 outcome.3 short (record { trace = trace; cut = cut; reads = outcome.4 })
    by_front trace behind cut (inr outcome) = inr (outcome.0, outcome.1, (inl (inl (inl (trace, behind, cut, outcome.2.0))), short))

    by_whole : HasNoLine (codes "answer") bytes → ((version : ℕ) × (config : Config) × (scripts : Scripts) × (items : List Item) × Reads bytes version config scripts items) ⊎ ((line_number : ℕ) × (why : Why) × Refused bytes line_number why) → IsAPair bytes ⊎ IsRefused bytes
    by_whole no_answer (inl outcome) = inr (last_line bytes, _, (inl (inr (record { version = outcome.0; config = outcome.1; scripts = outcome.2; items = outcome.3; none = no_answer; reads = outcome.4; number = refl; cause = refl })), short))
    by_whole no_answer (inr outcome) = inr (outcome.0, outcome.1, (inl (inl (inr (no_answer, outcome.2.0))), short))

    by_cut : IsCut (codes "answer") bytes ⊎ HasNoLine (codes "answer") bytes → IsAPair bytes ⊎ IsRefused bytes
    by_cut (inl answer_cut) = by_front answer_cut.0 answer_cut.1 answer_cut.2 (all.either answer_cut.0 (cut_short most_bytes (codes "answer") bytes answer_cut.0 answer_cut.1 answer_cut.2 short))
    by_cut (inr no_answer) = by_whole no_answer (all.either bytes short)

-- ---- never both

-- a trace before the line `answer` is not refused there
trace_stands : (bytes behind : List ℕ) (version : ℕ) (config : Config) (scripts : Scripts) (items : List Item) (line_number : ℕ) (why : Why) → HasTrace bytes version config scripts items behind → LacksTrace bytes line_number why → ⊥
trace_stands bytes behind version config scripts items line_number why has_trace (inl lacking) =
    let cut_same = cut_once (codes "answer") bytes has_trace.trace behind lacking.0 lacking.1 has_trace.cut lacking.2 in
    exact.never_both has_trace.trace version config scripts items line_number why has_trace.reads (subst (λ (given_bytes : List ℕ). StopsAt given_bytes line_number why) (sym cut_same.0) lacking.3)
trace_stands bytes behind version config scripts items line_number why has_trace (inr lacking) = lacking.0 has_trace.trace behind has_trace.cut

answer_stands : (bytes behind : List ℕ) (version : ℕ) (config : Config) (scripts : Scripts) (items : List Item) (line_number : ℕ) (why : Why) → HasTrace bytes version config scripts items behind → LacksAnswer bytes line_number why → ⊥
answer_stands bytes behind version config scripts items line_number why has_trace lacking = lacking.none has_trace.trace behind has_trace.cut

claims_stand : (version threads : ℕ) (bytes behind body : List ℕ) (entries : List Entry) (line_number : ℕ) (why : Why) → threads < 2 ^ 64 → HasClaims version threads behind body entries → LacksHistory bytes behind line_number why ⊎ LacksEntry version threads bytes behind line_number why → ⊥
claims_stand version threads bytes behind body entries line_number why small has_claims (inl lacking) = lacking.none body has_claims.claimed has_claims.cut
claims_stand version threads bytes behind body entries line_number why small has_claims (inr lacking) =
    let cut_same = cut_once (codes "history") behind body has_claims.claimed lacking.body lacking.claimed has_claims.cut lacking.cut in
    let same_entries = entries_once version threads entries lacking.entries [] lacking.from_it small has_claims.in_range lacking.in_range (nothing_read version threads small) lacking.none (append-nil (flat_map entry_line entries) ∙ sym has_claims.spelled ∙ cut_same.1 ∙ lacking.spelled) in
    let size = ap length same_entries.1 in
    omega (arith, lacking.some, size)

pub never_both : (bytes : List ℕ) (version : ℕ) (config : Config) (scripts : Scripts) (items : List Item) (body : List ℕ) (entries : List Entry) (line_number : ℕ) (why : Why) → IsPair bytes version config scripts items body entries → IsPairRefused bytes line_number why → ⊥
never_both bytes version config scripts items body entries line_number why pair (inl (inl refusal), short) = trace_stands bytes pair.behind version config scripts items line_number why pair.trace refusal
never_both bytes version config scripts items body entries line_number why pair (inl (inr refusal), short) = answer_stands bytes pair.behind version config scripts items line_number why pair.trace refusal
never_both bytes version config scripts items body entries line_number why pair (inr refusal, short) =
    let traces_same = same_trace bytes pair.behind refusal.behind version refusal.version config refusal.config scripts refusal.scripts items refusal.items pair.trace refusal.trace in
    let claims : HasClaims refusal.version refusal.config.mutators refusal.behind body entries =
    subst (λ (version : ℕ). HasClaims version refusal.config.mutators refusal.behind body entries) traces_same.2 (subst (λ (config : Config). HasClaims version config.mutators refusal.behind body entries) traces_same.0 (subst (λ (given_bytes : List ℕ). HasClaims version config.mutators given_bytes body entries) traces_same.1 pair.claims)) in
    claims_stand refusal.version refusal.config.mutators bytes refusal.behind body entries line_number why (few_threads refusal.config) claims refusal.fault

-- ---- refused once

abbrev IsOne : ℕ → ℕ → Why → Why → Type 0
IsOne line_number other_line_number why other_why = (line_number ≡ other_line_number) × (why ≡ other_why)

trace_refused_once : (bytes : List ℕ) (line_number other_line_number : ℕ) (why other_why : Why) → LacksTrace bytes line_number why → LacksTrace bytes other_line_number other_why → IsOne line_number other_line_number why other_why
trace_refused_once bytes line_number other_line_number why other_why (inl lacking) (inl other_lacking) =
    let cut_same = cut_once (codes "answer") bytes lacking.0 lacking.1 other_lacking.0 other_lacking.1 lacking.2 other_lacking.2 in
    exact.refused_once lacking.0 line_number other_line_number why other_why lacking.3 (subst (λ (given_bytes : List ℕ). StopsAt given_bytes other_line_number other_why) (sym cut_same.0) other_lacking.3)
trace_refused_once bytes line_number other_line_number why other_why (inl lacking) (inr other_lacking) = absurd (other_lacking.0 lacking.0 lacking.1 lacking.2)
trace_refused_once bytes line_number other_line_number why other_why (inr lacking) (inl other_lacking) = absurd (lacking.0 other_lacking.0 other_lacking.1 other_lacking.2)
trace_refused_once bytes line_number other_line_number why other_why (inr lacking) (inr other_lacking) = exact.refused_once bytes line_number other_line_number why other_why lacking.1 other_lacking.1

-- where no line `answer` stands behind a trace the trace is not refused
no_answer_no_fault : (bytes : List ℕ) (line_number other_line_number : ℕ) (why other_why : Why) → LacksTrace bytes line_number why → LacksAnswer bytes other_line_number other_why → ⊥
no_answer_no_fault bytes line_number other_line_number why other_why (inl lacking) lacks_answer = lacks_answer.none lacking.0 lacking.1 lacking.2
no_answer_no_fault bytes line_number other_line_number why other_why (inr lacking) lacks_answer = exact.never_both bytes lacks_answer.version lacks_answer.config lacks_answer.scripts lacks_answer.items line_number why lacks_answer.reads lacking.1

answer_missed_once : (bytes : List ℕ) (line_number other_line_number : ℕ) (why other_why : Why) → LacksAnswer bytes line_number why → LacksAnswer bytes other_line_number other_why → IsOne line_number other_line_number why other_why
answer_missed_once bytes line_number other_line_number why other_why lacks_answer other_lacking = (lacks_answer.number ∙ sym other_lacking.number, lacks_answer.cause ∙ sym other_lacking.cause)

claims_refused_once : (version threads : ℕ) (bytes behind : List ℕ) (line_number other_line_number : ℕ) (why other_why : Why) → threads < 2 ^ 64 → LacksHistory bytes behind line_number why ⊎ LacksEntry version threads bytes behind line_number why → LacksHistory bytes behind other_line_number other_why ⊎ LacksEntry version threads bytes behind other_line_number other_why → IsOne line_number other_line_number why other_why
claims_refused_once version threads bytes behind line_number other_line_number why other_why small (inl lacking) (inl other_lacking) = (lacking.number ∙ sym other_lacking.number, lacking.cause ∙ sym other_lacking.cause)
claims_refused_once version threads bytes behind line_number other_line_number why other_why small (inl lacking) (inr other_lacking) = absurd (lacking.none other_lacking.body other_lacking.claimed other_lacking.cut)
claims_refused_once version threads bytes behind line_number other_line_number why other_why small (inr lacking) (inl other_lacking) = absurd (other_lacking.none lacking.body lacking.claimed lacking.cut)
claims_refused_once version threads bytes behind line_number other_line_number why other_why small (inr lacking) (inr other_lacking) =
    let cut_same = cut_once (codes "history") behind lacking.body lacking.claimed other_lacking.body other_lacking.claimed lacking.cut other_lacking.cut in
    let same_entries = entries_once version threads lacking.entries other_lacking.entries lacking.from_it other_lacking.from_it small lacking.in_range other_lacking.in_range lacking.none other_lacking.none (sym lacking.spelled ∙ cut_same.1 ∙ other_lacking.spelled) in
    let before : lacking.before ≡ other_lacking.before = append_cancel_right lacking.before other_lacking.before lacking.from_it (sym lacking.whole ∙ other_lacking.whole ∙ ap (λ (given_bytes : List ℕ). other_lacking.before ++ given_bytes) (sym same_entries.1)) in
    (lacking.number ∙ ap last_line before ∙ sym other_lacking.number, lacking.cause ∙ ap (λ (given_bytes : List ℕ). wanted_at (parts 10 given_bytes)) same_entries.1 ∙ sym other_lacking.cause)

bad_claims_once : (bytes : List ℕ) (line_number other_line_number : ℕ) (why other_why : Why) → HasBadClaims bytes line_number why → HasBadClaims bytes other_line_number other_why → IsOne line_number other_line_number why other_why
bad_claims_once bytes line_number other_line_number why other_why has_bad_claims other_bad_claims =
    let traces_same = same_trace bytes has_bad_claims.behind other_bad_claims.behind has_bad_claims.version other_bad_claims.version has_bad_claims.config other_bad_claims.config has_bad_claims.scripts other_bad_claims.scripts has_bad_claims.items other_bad_claims.items has_bad_claims.trace other_bad_claims.trace in
    let fault : LacksHistory bytes has_bad_claims.behind other_line_number other_why ⊎ LacksEntry has_bad_claims.version has_bad_claims.config.mutators bytes has_bad_claims.behind other_line_number other_why =
    subst (λ (version : ℕ). LacksHistory bytes has_bad_claims.behind other_line_number other_why ⊎ LacksEntry version has_bad_claims.config.mutators bytes has_bad_claims.behind other_line_number other_why) (sym traces_same.2)
    (subst (λ (config : Config). LacksHistory bytes has_bad_claims.behind other_line_number other_why ⊎ LacksEntry other_bad_claims.version config.mutators bytes has_bad_claims.behind other_line_number other_why) (sym traces_same.0)
    (subst (λ (given_bytes : List ℕ). LacksHistory bytes given_bytes other_line_number other_why ⊎ LacksEntry other_bad_claims.version other_bad_claims.config.mutators bytes given_bytes other_line_number other_why) (sym traces_same.1) other_bad_claims.fault)) in
    claims_refused_once has_bad_claims.version has_bad_claims.config.mutators bytes has_bad_claims.behind line_number other_line_number why other_why (few_threads has_bad_claims.config) has_bad_claims.fault fault

pub refused_once : (bytes : List ℕ) (line_number other_line_number : ℕ) (why other_why : Why) → IsPairRefused bytes line_number why → IsPairRefused bytes other_line_number other_why → IsOne line_number other_line_number why other_why
refused_once bytes line_number other_line_number why other_why (inl (inl refusal), short) (inl (inl other_refusal), small) = trace_refused_once bytes line_number other_line_number why other_why refusal other_refusal
refused_once bytes line_number other_line_number why other_why (inl (inl refusal), short) (inl (inr other_refusal), small) = absurd (no_answer_no_fault bytes line_number other_line_number why other_why refusal other_refusal)
refused_once bytes line_number other_line_number why other_why (inl (inl refusal), short) (inr other_refusal, small) = absurd (trace_stands bytes other_refusal.behind other_refusal.version other_refusal.config other_refusal.scripts other_refusal.items line_number why other_refusal.trace refusal)
refused_once bytes line_number other_line_number why other_why (inl (inr refusal), short) (inl (inl other_refusal), small) = absurd (no_answer_no_fault bytes other_line_number line_number other_why why other_refusal refusal)
refused_once bytes line_number other_line_number why other_why (inl (inr refusal), short) (inl (inr other_refusal), small) = answer_missed_once bytes line_number other_line_number why other_why refusal other_refusal
refused_once bytes line_number other_line_number why other_why (inl (inr refusal), short) (inr other_refusal, small) = absurd (answer_stands bytes other_refusal.behind other_refusal.version other_refusal.config other_refusal.scripts other_refusal.items line_number why other_refusal.trace refusal)
refused_once bytes line_number other_line_number why other_why (inr refusal, short) (inl (inl other_refusal), small) = absurd (trace_stands bytes refusal.behind refusal.version refusal.config refusal.scripts refusal.items other_line_number other_why refusal.trace other_refusal)
refused_once bytes line_number other_line_number why other_why (inr refusal, short) (inl (inr other_refusal), small) = absurd (answer_stands bytes refusal.behind refusal.version refusal.config refusal.scripts refusal.items other_line_number other_why refusal.trace other_refusal)
refused_once bytes line_number other_line_number why other_why (inr refusal, short) (inr other_refusal, small) = bad_claims_once bytes line_number other_line_number why other_why refusal other_refusal
