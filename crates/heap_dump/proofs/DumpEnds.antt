-- Lines that lead to an end lead to that one alone: bytes are refused once, and none of them is read.
use Rattle.std.proofs.Common.{ℕ, suc, ◌≡◌, ◌⊎◌, inl, inr, List, [], ◌∷◌, ◌++◌, length, refl, sym, ap, subst, ◌∙◌, Option, None, Some, arith, length-append}
use Rattle.shen_graph.proofs.Lists.{cons_injective}
use Rattle.trace_reading.specs.declared.why.Why.{Why}
use Rattle.trace_reading.specs.declared.why.Why.TheVariants.{DumpWanted}
use Rattle.trace_reading.specs.Refused.{LineStage, Lead, cause_of}
use Rattle.trace_reading.proofs.Exact.{one_end}
use Rattle.heap_dump.specs.DumpLines.{DumpStage, Version, Heap, Threads, Counts, Listed, Behind, DumpFollows, DumpLead, StopsFor, DumpStopsAt, ends_by}
use Rattle.heap_dump.proofs.Steps.{IsDumping}
use Rattle.heap_dump.proofs.LineOnce.{IsWithin, Same, same_back, carry, follows_once, each_small}

-- ---- ranges stay

pub within_next : (stage : DumpStage) (text : List ℕ) (next_stage : DumpStage) → IsWithin stage → DumpFollows stage text next_stage → IsWithin next_stage
within_next Version text next_stage stage_within dump_follows = subst IsWithin (sym dump_follows.1) tt
within_next Heap text next_stage stage_within dump_follows = subst IsWithin (sym dump_follows.3) tt
within_next (Threads config) text next_stage stage_within dump_follows = subst IsWithin (sym dump_follows.3) tt
within_next (Counts config) text next_stage stage_within dump_follows = subst IsWithin (sym dump_follows.4) (omega (arith, dump_follows.1, config.in_range.most_mutators), omega arith, each_small dump_follows.0 dump_follows.2)
within_next (Listed dump) text next_stage stage_within (inl follows) = subst IsWithin (sym follows.7) (stage_within.0, stage_within.1, stage_within.2)
within_next (Listed dump) text next_stage stage_within (inr (inl follows)) =
    subst IsWithin (sym follows.6) (stage_within.0, omega (arith, length-append dump.roots (follows.0 ∷ []), follows.2, dump.config.in_range.most_mutators), stage_within.2)
within_next (Listed dump) text next_stage stage_within (inr (inr follows)) = subst IsWithin (sym follows.2) tt
within_next (Behind stage) text next_stage stage_within dump_follows = subst IsWithin (sym dump_follows.2) tt

-- ---- behind the line `trace`

pub behind_lead : (texts : List (List ℕ)) (other_stage : LineStage) (stage : DumpStage) → DumpLead (Behind other_stage) texts stage → (line_stage : LineStage) × (stage ≡ Behind line_stage) × Lead other_stage texts line_stage
behind_lead [] other_stage stage lead = (other_stage, sym lead, refl)
behind_lead (first_text ∷ texts) other_stage stage lead =
    let lead_behind = behind_lead texts lead.1.0 stage (subst (λ (other_stage : DumpStage). DumpLead other_stage texts stage) lead.1.2 lead.2) in
    (lead_behind.0, lead_behind.1, (lead.1.0, lead.1.1, lead_behind.2))

same_stage : (stage other_stage : LineStage) → Behind stage ≡ Behind other_stage → stage ≡ other_stage
same_stage stage other_stage same_behind = cc

-- ---- ends

-- the first of these lines may not stand there; or they are the empty text behind the last end of a line, and all was read
abbrev pub IsAtEnd : DumpStage → List (List ℕ) → Type 0
IsAtEnd stage texts = ((why : Why) × StopsFor stage texts why) ⊎ ((line_stage : LineStage) × (stage ≡ Behind line_stage) × (texts ≡ [] ∷ []) × (cause_of line_stage texts ≡ None))

abbrev pub cause_at : (stage : DumpStage) (texts : List (List ℕ)) → IsAtEnd stage texts → Option Why
cause_at stage texts (inl end_kind) = Some end_kind.0
cause_at stage texts (inr end_kind) = None

-- the cause before the line `trace` is one
abbrev stop_why : List (List ℕ) → Why
stop_why [] = DumpWanted
stop_why (first_text ∷ []) = ends_by first_text
stop_why (first_text ∷ second_text ∷ later_texts) = DumpWanted

stop_is : (stage : DumpStage) (texts : List (List ℕ)) (why : Why) → IsDumping stage → StopsFor stage texts why → why ≡ stop_why texts
stop_is Version [] why is_dumping stops_for = absurd stops_for
stop_is Version (first_text ∷ []) why is_dumping stops_for = stops_for
stop_is Version (first_text ∷ second_text ∷ later_texts) why is_dumping stops_for = stops_for.0
stop_is Heap [] why is_dumping stops_for = absurd stops_for
stop_is Heap (first_text ∷ []) why is_dumping stops_for = stops_for
stop_is Heap (first_text ∷ second_text ∷ later_texts) why is_dumping stops_for = stops_for.0
stop_is (Threads config) [] why is_dumping stops_for = absurd stops_for
stop_is (Threads config) (first_text ∷ []) why is_dumping stops_for = stops_for
stop_is (Threads config) (first_text ∷ second_text ∷ later_texts) why is_dumping stops_for = stops_for.0
stop_is (Counts config) [] why is_dumping stops_for = absurd stops_for
stop_is (Counts config) (first_text ∷ []) why is_dumping stops_for = stops_for
stop_is (Counts config) (first_text ∷ second_text ∷ later_texts) why is_dumping stops_for = stops_for.0
stop_is (Listed dump) [] why is_dumping stops_for = absurd stops_for
stop_is (Listed dump) (first_text ∷ []) why is_dumping stops_for = stops_for
stop_is (Listed dump) (first_text ∷ second_text ∷ later_texts) why is_dumping stops_for = stops_for.0
stop_is (Behind stage) texts why is_dumping stops_for = absurd is_dumping

-- no line follows where the first of them may not stand
no_more : (stage : DumpStage) (text second_text : List ℕ) (later_texts : List (List ℕ)) (why : Why) (next_stage : DumpStage) → IsDumping stage → StopsFor stage (text ∷ second_text ∷ later_texts) why → DumpFollows stage text next_stage → ⊥
no_more Version text second_text later_texts why next_stage is_dumping stops_for dump_follows = stops_for.1 next_stage dump_follows
no_more Heap text second_text later_texts why next_stage is_dumping stops_for dump_follows = stops_for.1 next_stage dump_follows
no_more (Threads config) text second_text later_texts why next_stage is_dumping stops_for dump_follows = stops_for.1 next_stage dump_follows
no_more (Counts config) text second_text later_texts why next_stage is_dumping stops_for dump_follows = stops_for.1 next_stage dump_follows
no_more (Listed dump) text second_text later_texts why next_stage is_dumping stops_for dump_follows = stops_for.1 next_stage dump_follows
no_more (Behind stage) text second_text later_texts why next_stage is_dumping stops_for dump_follows = absurd is_dumping

not_behind : (stage : DumpStage) (other_stage : LineStage) → IsDumping stage → stage ≡ Behind other_stage → ⊥
not_behind stage other_stage is_dumping same_behind = subst IsDumping same_behind is_dumping

no_cause : (stage : LineStage) (why : Why) → cause_of stage [] ≡ Some why → ⊥
unfolding cause_of
no_cause stage why cause_found = absurd cc

-- what is at an end is some text
some_text : (stage : DumpStage) (texts : List (List ℕ)) → IsAtEnd stage texts → texts ≡ [] → ⊥
some_text stage texts (inr end_kind) texts_empty = absurd (omega (arith, ap length (sym end_kind.2 ∙ texts_empty)))
some_text stage (first_text ∷ later_texts) (inl end_kind) texts_empty = absurd (omega (arith, ap length texts_empty))
some_text Version [] (inl end_kind) texts_empty = end_kind.1
some_text Heap [] (inl end_kind) texts_empty = end_kind.1
some_text (Threads config) [] (inl end_kind) texts_empty = end_kind.1
some_text (Counts config) [] (inl end_kind) texts_empty = end_kind.1
some_text (Listed dump) [] (inl end_kind) texts_empty = end_kind.1
some_text (Behind stage) [] (inl end_kind) texts_empty = no_cause stage end_kind.0 end_kind.1

at_stop : (stage : DumpStage) (texts : List (List ℕ)) → IsDumping stage → (at_end : IsAtEnd stage texts) → cause_at stage texts at_end ≡ Some (stop_why texts)
at_stop stage texts is_dumping (inl end_kind) = ap Some (stop_is stage texts end_kind.0 is_dumping end_kind.1)
at_stop stage texts is_dumping (inr end_kind) = absurd (not_behind stage end_kind.0 is_dumping end_kind.1)

-- an end is none where a line follows
goes_on : (stage : DumpStage) (text : List ℕ) (others : List (List ℕ)) (next_stage : DumpStage) → IsDumping stage → (others ≡ [] → ⊥) → IsAtEnd stage (text ∷ others) → DumpFollows stage text next_stage → ⊥
goes_on stage text [] next_stage is_dumping some_others at_end dump_follows = some_others refl
goes_on stage text (second_text ∷ later_texts) next_stage is_dumping some_others (inl end_kind) dump_follows = no_more stage text second_text later_texts end_kind.0 next_stage is_dumping end_kind.1 dump_follows
goes_on stage text (second_text ∷ later_texts) next_stage is_dumping some_others (inr end_kind) dump_follows = not_behind stage end_kind.0 is_dumping end_kind.1

appended : (xs ys : List (List ℕ)) → (ys ≡ [] → ⊥) → xs ++ ys ≡ [] → ⊥
appended [] ys some_texts both_empty = some_texts both_empty
appended (x ∷ xs) ys some_texts both_empty = absurd (omega (arith, ap length both_empty))

-- ---- one end

pub record OneEnd (xs ys : List (List ℕ)) (one other : Option Why) : Type 0 where
  pub lengths : length xs ≡ length ys
  pub causes : one ≡ other

behind_once : (stage : LineStage) (other_xs other_ys : List (List ℕ)) (other_stage second_stage : DumpStage) (texts other_texts : List (List ℕ)) → DumpLead (Behind stage) other_xs other_stage → DumpLead (Behind stage) other_ys second_stage → other_xs ++ texts ≡ other_ys ++ other_texts
    → (at_end : IsAtEnd other_stage texts) (second_end : IsAtEnd second_stage other_texts) → OneEnd other_xs other_ys (cause_at other_stage texts at_end) (cause_at second_stage other_texts second_end)
behind_once other_stage other_xs other_ys first_stage second_stage first_texts other_texts first_lead second_lead same_texts at_end second_end = by_stages (behind_lead other_xs other_stage first_stage first_lead).0 (behind_lead other_ys other_stage second_stage second_lead).0 (behind_lead other_xs other_stage first_stage first_lead).1 (behind_lead other_ys other_stage second_stage second_lead).1 (behind_lead other_xs other_stage first_stage first_lead).2 (behind_lead other_ys other_stage second_stage second_lead).2
  where
    to_end : (given_stage : DumpStage) (line_stage : LineStage) (texts : List (List ℕ)) → given_stage ≡ Behind line_stage → IsAtEnd given_stage texts → ((why : Why) × (cause_of line_stage texts ≡ Some why)) ⊎ ((texts ≡ [] ∷ []) × (cause_of line_stage texts ≡ None))
    to_end given_stage line_stage texts stage_is (inl end_kind) = inl (end_kind.0, subst (λ (stage : DumpStage). StopsFor stage texts end_kind.0) stage_is end_kind.1)
    to_end given_stage line_stage texts stage_is (inr end_kind) = inr (end_kind.2, subst (λ (stage : LineStage). cause_of stage texts ≡ None) (same_stage end_kind.0 line_stage (sym end_kind.1 ∙ stage_is)) end_kind.3)

    its_cause : (given_stage : DumpStage) (line_stage : LineStage) (texts : List (List ℕ)) → given_stage ≡ Behind line_stage → (at_end : IsAtEnd given_stage texts) → cause_at given_stage texts at_end ≡ cause_of line_stage texts
    its_cause given_stage line_stage texts stage_is (inl end_kind) = sym (subst (λ (stage : DumpStage). StopsFor stage texts end_kind.0) stage_is end_kind.1)
    its_cause given_stage line_stage texts stage_is (inr end_kind) = sym (subst (λ (stage : LineStage). cause_of stage texts ≡ None) (same_stage end_kind.0 line_stage (sym end_kind.1 ∙ stage_is)) end_kind.3)

    by_stages : (first_line_stage second_line_stage : LineStage) → first_stage ≡ Behind first_line_stage → second_stage ≡ Behind second_line_stage → Lead other_stage other_xs first_line_stage → Lead other_stage other_ys second_line_stage → OneEnd other_xs other_ys (cause_at first_stage first_texts at_end) (cause_at second_stage other_texts second_end)
    by_stages first_line_stage second_line_stage stage_is also lead other_leads =
        let both_ends = one_end other_stage other_xs other_ys first_line_stage second_line_stage first_texts other_texts lead other_leads same_texts (to_end first_stage first_line_stage first_texts stage_is at_end) (to_end second_stage second_line_stage other_texts also second_end) in
        record { lengths = both_ends.0; causes = its_cause first_stage first_line_stage first_texts stage_is at_end ∙ both_ends.1 ∙ sym (its_cause second_stage second_line_stage other_texts also second_end) }

-- a stage is before the line `trace` or behind it
abbrev Which : DumpStage → Type 0
Which stage = IsDumping stage ⊎ ((other_stage : LineStage) × (stage ≡ Behind other_stage))

which : (stage : DumpStage) → Which stage
which Version = inl tt
which Heap = inl tt
which (Threads config) = inl tt
which (Counts config) = inl tt
which (Listed dump) = inl tt
which (Behind stage) = inr (stage, refl)

dumping_same : (stage other_stage : DumpStage) → Same stage other_stage → IsDumping stage → IsDumping other_stage
dumping_same stage other_stage (inl same_stages) is_dumping = subst IsDumping same_stages is_dumping
dumping_same stage other_stage (inr both_behind) is_dumping = subst IsDumping (sym both_behind.3) tt

behind_same : (stage other_stage : DumpStage) (line_stage : LineStage) → Same stage other_stage → stage ≡ Behind line_stage → other_stage ≡ Behind line_stage
behind_same stage other_stage line_stage (inl same_stages) stage_is = sym same_stages ∙ stage_is
behind_same stage other_stage line_stage (inr both_behind) stage_is = absurd (not_behind (Threads both_behind.0) line_stage tt (sym both_behind.2 ∙ stage_is))

from_behind : (start_stage other_start : DumpStage) (stage : LineStage) → start_stage ≡ Behind stage → Same start_stage other_start → (other_xs other_ys : List (List ℕ)) (first_stage second_stage : DumpStage) (texts other_texts : List (List ℕ)) → DumpLead start_stage other_xs first_stage → DumpLead other_start other_ys second_stage → other_xs ++ texts ≡ other_ys ++ other_texts
    → (at_end : IsAtEnd first_stage texts) (second_end : IsAtEnd second_stage other_texts) → OneEnd other_xs other_ys (cause_at first_stage texts at_end) (cause_at second_stage other_texts second_end)
from_behind other_stage other_start stage start_is same_start other_xs other_ys first_stage second_stage texts second_texts first_lead second_lead same_texts at_end second_end =
    behind_once stage other_xs other_ys first_stage second_stage texts second_texts (subst (λ (stage : DumpStage). DumpLead stage other_xs first_stage) start_is first_lead) (subst (λ (stage : DumpStage). DumpLead stage other_ys second_stage) (behind_same other_stage other_start stage same_start start_is) second_lead) same_texts at_end second_end

pub dump_end : (start_stage other_start : DumpStage) (other_xs other_ys : List (List ℕ)) (first_stage second_stage : DumpStage) (texts other_texts : List (List ℕ)) → Same start_stage other_start → IsWithin start_stage → DumpLead start_stage other_xs first_stage → DumpLead other_start other_ys second_stage → other_xs ++ texts ≡ other_ys ++ other_texts
    → (texts_end : IsAtEnd first_stage texts) (other_end : IsAtEnd second_stage other_texts) → OneEnd other_xs other_ys (cause_at first_stage texts texts_end) (cause_at second_stage other_texts other_end)
dump_end stage other_stage [] [] first_stage second_stage texts other_texts same_start stage_within first_lead second_lead same_texts texts_end other_end = by_which (which stage)
  where
    by_which : Which stage → OneEnd [] [] (cause_at first_stage texts texts_end) (cause_at second_stage other_texts other_end)
    by_which (inl is_dumping) = record {
      lengths = refl;
      causes = at_stop first_stage texts (subst IsDumping first_lead is_dumping) texts_end ∙ ap (λ (given_texts : List (List ℕ)). Some (stop_why given_texts)) same_texts ∙ sym (at_stop second_stage other_texts (subst IsDumping second_lead (dumping_same stage other_stage same_start is_dumping)) other_end);
    }
    by_which (inr is_behind) = from_behind stage other_stage is_behind.0 is_behind.1 same_start [] [] first_stage second_stage texts other_texts first_lead second_lead same_texts texts_end other_end
dump_end other_stage other_start [] (text ∷ rest) first_stage second_stage texts second_texts same_start stage_within first_lead second_lead same_texts texts_end at_end = by_which (which other_stage)
  where
    by_which : Which other_stage → OneEnd [] (text ∷ rest) (cause_at first_stage texts texts_end) (cause_at second_stage second_texts at_end)
    by_which (inl is_dumping) =
        let end_here : IsAtEnd other_stage (text ∷ (rest ++ second_texts)) = subst (λ (stage : DumpStage). IsAtEnd stage (text ∷ (rest ++ second_texts))) (sym first_lead) (subst (IsAtEnd first_stage) same_texts texts_end) in
        absurd (goes_on other_stage text (rest ++ second_texts) second_lead.0 is_dumping (appended rest second_texts (some_text second_stage second_texts at_end)) end_here (carry other_stage other_start text second_lead.0 same_start second_lead.1))
    by_which (inr is_behind) = from_behind other_stage other_start is_behind.0 is_behind.1 same_start [] (text ∷ rest) first_stage second_stage texts second_texts first_lead second_lead same_texts texts_end at_end
dump_end other_stage other_start (text ∷ rest) [] first_stage second_stage texts other_texts same_start stage_within first_lead second_lead same_texts texts_end at_end = by_which (which other_stage)
  where
    by_which : Which other_stage → OneEnd (text ∷ rest) [] (cause_at first_stage texts texts_end) (cause_at second_stage other_texts at_end)
    by_which (inl is_dumping) =
        let end_here : IsAtEnd other_start (text ∷ (rest ++ texts)) = subst (λ (stage : DumpStage). IsAtEnd stage (text ∷ (rest ++ texts))) (sym second_lead) (subst (IsAtEnd second_stage) (sym same_texts) at_end) in
        absurd (goes_on other_start text (rest ++ texts) first_lead.0 (dumping_same other_stage other_start same_start is_dumping) (appended rest texts (some_text first_stage texts texts_end)) end_here (carry other_start other_stage text first_lead.0 (same_back other_stage other_start same_start) first_lead.1))
    by_which (inr is_behind) = from_behind other_stage other_start is_behind.0 is_behind.1 same_start (text ∷ rest) [] first_stage second_stage texts other_texts first_lead second_lead same_texts texts_end at_end
dump_end stage other_stage (text ∷ own_rest) (other_text ∷ other_rest) first_stage second_stage texts other_texts same_start stage_within first_lead second_lead same_texts texts_end at_end = by_which (which stage) (λ stage_after other_after alike start_within lead own_leads rest. dump_end stage_after other_after own_rest other_rest first_stage second_stage texts other_texts alike start_within lead own_leads rest texts_end at_end)
  where
    by_which : Which stage → ((next_stage other_next : DumpStage) → Same next_stage other_next → IsWithin next_stage → DumpLead next_stage own_rest first_stage → DumpLead other_next other_rest second_stage → own_rest ++ texts ≡ other_rest ++ other_texts → OneEnd own_rest other_rest (cause_at first_stage texts texts_end) (cause_at second_stage other_texts at_end))
        → OneEnd (text ∷ own_rest) (other_text ∷ other_rest) (cause_at first_stage texts texts_end) (cause_at second_stage other_texts at_end)
    by_which (inl is_dumping) go_on =
        let same_first = cons_injective text other_text (own_rest ++ texts) (other_rest ++ other_texts) same_texts in
        let also : DumpFollows stage text second_lead.0 = subst (λ (next_stage : List ℕ). DumpFollows stage next_stage second_lead.0) (sym same_first.0) (carry stage other_stage other_text second_lead.0 same_start second_lead.1) in
        let later_end = go_on first_lead.0 second_lead.0 (follows_once stage text first_lead.0 second_lead.0 is_dumping stage_within first_lead.1 also) (within_next stage text first_lead.0 stage_within first_lead.1) first_lead.2 second_lead.2 same_first.1 in
        record { lengths = ap suc later_end.lengths; causes = later_end.causes }
    by_which (inr is_behind) go_on = from_behind stage other_stage is_behind.0 is_behind.1 same_start (text ∷ own_rest) (other_text ∷ other_rest) first_stage second_stage texts other_texts first_lead second_lead same_texts texts_end at_end

-- bytes are refused once
pub refused_once : (bytes : List ℕ) (line_number other_line_number : ℕ) (why other_why : Why) → DumpStopsAt bytes line_number why → DumpStopsAt bytes other_line_number other_why → (line_number ≡ other_line_number) × (why ≡ other_why)
refused_once bytes line_number other_line_number why other_why dump_stops_at other_stop =
    let one_end_only = dump_end Version Version dump_stops_at.before other_stop.before dump_stops_at.stage other_stop.stage dump_stops_at.from_it other_stop.from_it (inl refl) tt dump_stops_at.lead other_stop.lead (sym dump_stops_at.lines ∙ other_stop.lines) (inl (why, dump_stops_at.cause)) (inl (other_why, other_stop.cause)) in
    (omega (arith, dump_stops_at.number, other_stop.number, one_end_only.lengths), same_why why other_why one_end_only.causes)
  where
    same_why : (first_why second_why : Why) → Some first_why ≡ Some second_why → first_why ≡ second_why
    same_why first_why second_why same_cause = cc
