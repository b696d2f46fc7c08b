-- Lines that lead on, and lines that stop.
use Rattle.std.proofs.Common.{ℕ, ◌≡◌, ◌+◌, List, [], ◌∷◌, ◌++◌, length, refl, sym, ap, subst, ◌∙◌, append_assoc, length-append, Result, Ok, Err, arith}
use Rattle.trace_reading.specs.Spelling.{newline}
use Rattle.trace_reading.specs.declared.why.Why.{Why}
use Rattle.trace_reading.specs.declared.why.Why.TheVariants.{DumpWanted}
use Rattle.std.specs.Result.{is_err}
use Rattle.std.specs.Prelude.{OnOk, false}
use Rattle.std.proofs.lemmas.Bool.{false≢true}
use Rattle.shen_graph.proofs.Lists.{cons_injective}
use Rattle.trace_reading.specs.Causes.{parts, parts_behind}
use Rattle.trace_reading.proofs.Cuts.{cut_parts}
use Rattle.heap_dump.specs.DumpLines.{DumpStage, Version, Heap, Threads, Counts, Listed, Behind, DumpFollows, DumpLead, StopsFor, ends_by}
use Rattle.heap_dump.specs.Steps.{Leads, StopsAt}

-- nothing is read yet
pub leads_none : (stage : DumpStage) (bytes : List ℕ) → Leads stage bytes bytes 0 stage
leads_none stage bytes = record { texts = []; cut = refl; count = refl; lead = refl }

-- one line
pub leads_one : (stage next : DumpStage) (bytes text rest : List ℕ) → parts 10 bytes ≡ text ∷ parts 10 rest → DumpFollows stage text next → Leads stage bytes rest 1 next
leads_one stage next bytes text rest cut follows = record { texts = text ∷ []; cut = cut; count = refl; lead = (next, follows, refl) }

lead_both : (start_stage middle_stage end_stage : DumpStage) (xs ys : List (List ℕ)) → DumpLead start_stage xs middle_stage → DumpLead middle_stage ys end_stage → DumpLead start_stage (xs ++ ys) end_stage
lead_both other_stage middle_stage end_stage [] ys first_lead second_lead = subst (λ (stage : DumpStage). DumpLead stage ys end_stage) (sym first_lead) second_lead
lead_both stage other_stage end_stage (x ∷ xs) ys first_lead second_lead = (first_lead.0, first_lead.1, lead_both first_lead.0 other_stage end_stage xs ys first_lead.2 second_lead)

-- some lines, and more
pub leads_both : (start_stage middle_stage end_stage : DumpStage) (bytes rest more : List ℕ) (lines other_lines : ℕ) → Leads start_stage bytes rest lines middle_stage → Leads middle_stage rest more other_lines end_stage → Leads start_stage bytes more (lines + other_lines) end_stage
leads_both stage other_stage end_stage bytes rest more lines second_lines first_leads second_leads = record {
  texts = first_leads.texts ++ second_leads.texts;
  cut = first_leads.cut ∙ ap (λ (texts : List (List ℕ)). first_leads.texts ++ texts) second_leads.cut ∙ sym (append_assoc first_leads.texts second_leads.texts (parts newline more));
  count = omega (arith, length-append first_leads.texts second_leads.texts, first_leads.count, second_leads.count);
  lead = lead_both stage other_stage end_stage first_leads.texts second_leads.texts first_leads.lead second_leads.lead;
}

-- ---- stops

pub stops_here : (stage : DumpStage) (first : ℕ) (bytes : List ℕ) (why : Why) → StopsFor stage (parts newline bytes) why → StopsAt stage first bytes first why
stops_here stage first bytes why cause = record { rest = bytes; lines = 0; at = stage; led = leads_none stage bytes; number = omega arith; cause = cause }

pub stops_behind : (stage other_stage : DumpStage) (first later : ℕ) (bytes rest : List ℕ) (lines line : ℕ) (why : Why) → Leads stage bytes rest lines other_stage → later ≡ first + lines → StopsAt other_stage later rest line why → StopsAt stage first bytes line why
stops_behind stage other_stage first later bytes rest lines line why led number stops = record {
  rest = stops.rest;
  lines = lines + stops.lines;
  at = stops.at;
  led = leads_both stage other_stage stops.at bytes rest stops.rest lines stops.lines led stops.led;
  number = omega (arith, number, stops.number);
  cause = stops.cause;
}

-- a stage before the line `trace`
abbrev pub IsDumping : DumpStage → Type 0
IsDumping Version = Unit {0}
IsDumping Heap = Unit {0}
IsDumping (Threads config) = Unit {0}
IsDumping (Counts config) = Unit {0}
IsDumping (Listed dump) = Unit {0}
IsDumping (Behind stage) = ⊥

-- the bytes end there
pub ends_here : (stage : DumpStage) (bytes text : List ℕ) → IsDumping stage → parts 10 bytes ≡ text ∷ [] → StopsFor stage (parts newline bytes) (ends_by text)
ends_here Version bytes text is_dumping cut = subst (λ (texts : List (List ℕ)). StopsFor Version texts (ends_by text)) (sym cut) refl
ends_here Heap bytes text is_dumping cut = subst (λ (texts : List (List ℕ)). StopsFor Heap texts (ends_by text)) (sym cut) refl
ends_here (Threads config) bytes text is_dumping cut = subst (λ (texts : List (List ℕ)). StopsFor (Threads config) texts (ends_by text)) (sym cut) refl
ends_here (Counts config) bytes text is_dumping cut = subst (λ (texts : List (List ℕ)). StopsFor (Counts config) texts (ends_by text)) (sym cut) refl
ends_here (Listed dump) bytes text is_dumping cut = subst (λ (texts : List (List ℕ)). StopsFor (Listed dump) texts (ends_by text)) (sym cut) refl
ends_here (Behind stage) bytes text is_dumping cut = absurd is_dumping

-- the parts of bytes are one at least
pub some_part : (rest : List ℕ) → (text : List ℕ) × (later_texts : List (List ℕ)) × (parts 10 rest ≡ text ∷ later_texts)
some_part rest = (_, _, cut_parts 10 rest)

-- no line of the kind stands there
pub refused_here : (stage : DumpStage) (bytes text rest : List ℕ) → IsDumping stage → parts 10 bytes ≡ text ∷ parts 10 rest → ((next : DumpStage) → DumpFollows stage text next → ⊥) → StopsFor stage (parts newline bytes) DumpWanted
refused_here stage bytes text rest is_dumping cut follows_none =
    let first_part = some_part rest in
    let whole_parts = cut ∙ ap (λ (texts : List (List ℕ)). text ∷ texts) first_part.2 in
    subst (λ (texts : List (List ℕ)). StopsFor stage texts DumpWanted) (sym whole_parts) (by_stage stage is_dumping follows_none first_part.0 first_part.1)
  where
    by_stage : (other_stage : DumpStage) → IsDumping other_stage → ((next : DumpStage) → DumpFollows other_stage text next → ⊥) → (next_text : List ℕ) (later_texts : List (List ℕ)) → StopsFor other_stage (text ∷ next_text ∷ later_texts) DumpWanted
    by_stage Version dumping no_more next_text later_texts = (refl, no_more)
    by_stage Heap dumping no_more next_text later_texts = (refl, no_more)
    by_stage (Threads config) dumping no_more next_text later_texts = (refl, no_more)
    by_stage (Counts config) dumping no_more next_text later_texts = (refl, no_more)
    by_stage (Listed dump) dumping no_more next_text later_texts = (refl, no_more)
    by_stage (Behind other_stage) dumping no_more next_text later_texts = absurd dumping

-- ---- lines by their words

pub on_ok : {T E P : Type 0} (result : Result T E) → false ≡ is_err result → OnOk result P → P
on_ok (Ok value) not_error when_ok = when_ok
on_ok (Err fault) not_error when_ok = absurd (false≢true not_error)

pub no_line : (bytes first end : List ℕ) → parts 10 bytes ≡ first ∷ parts_behind 10 end → length end ≡ 0 → (text rest : List ℕ) → parts 10 bytes ≡ text ∷ parts 10 rest → ⊥
no_line bytes first [] cut nothing_left text rest cut_text =
    let sizes = ap length (sym cut ∙ cut_text) in
    let parts_length = ap length (cut_parts 10 rest) in
    omega (arith, sizes, parts_length)
no_line bytes first (byte ∷ end) cut nothing_left text rest cut_text = absurd (omega (arith, nothing_left))

pub line_behind : (bytes first_line end behind : List ℕ) (byte : ℕ) → parts 10 bytes ≡ first_line ∷ parts_behind 10 end → end ≡ byte ∷ behind → parts 10 bytes ≡ first_line ∷ parts 10 behind
line_behind bytes first_line end behind byte cut end_is = cut ∙ ap (λ (any_end : List ℕ). first_line ∷ parts_behind 10 any_end) end_is

pub same_line : (bytes first_line second_line first_rest second_rest : List ℕ) → parts 10 bytes ≡ first_line ∷ parts 10 first_rest → parts 10 bytes ≡ second_line ∷ parts 10 second_rest → (first_line ≡ second_line) × (parts 10 first_rest ≡ parts 10 second_rest)
same_line bytes first_line second_line first_rest second_rest first_cut second_cut = cons_injective first_line second_line (parts 10 first_rest) (parts 10 second_rest) (sym first_cut ∙ second_cut)

pub other_word : (text word title : List ℕ) (rest words : List (List ℕ)) → parts 32 text ≡ word ∷ rest → parts 32 text ≡ title ∷ words → word ≡ title
other_word text word title rest words first_cut second_cut = (cons_injective word title rest words (sym first_cut ∙ second_cut)).0
