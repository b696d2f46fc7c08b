-- A dump and its trace, read to the end.
use Rattle.std.proofs.Common.{ℕ, ◌≡◌, ◌≢◌, ◌+◌, ◌≤◌, ◌⊎◌, inl, inr, List, [], ◌∷◌, ◌++◌, length, map, replicate, None, refl, sym, ap, subst, ◌∙◌, append_assoc, append-nil, length-append, Result, Err, arith}
use Rattle.std.specs.Prelude.{All}
use Rattle.std.specs.List.{flat_map}
use Rattle.std.proofs.lemmas.List.{drop_all, length-replicate, length-map}
use Rattle.heap_words.specs.declared.config.Config.{Config}
use Rattle.heap_words.specs.declared.schedule.Item.{Item}
use Rattle.shen_graph.specs.declared.command.Command.{Command}
use Rattle.shen_graph.specs.Graph.{Reference}
use Rattle.shen_graph.specs.GraphText.{Row, Text, names_of, empty}
use Rattle.shen_graph.specs.Reach.{InOrder, IsReach}
use Rattle.trace_reading.specs.Spelling.{newline, line, schedule_line}
use Rattle.trace_reading.specs.Grammar.{most_bytes}
use Rattle.trace_reading.specs.declared.why.Why.{Why}
use Rattle.trace_reading.specs.Causes.{parts}
use Rattle.trace_reading.specs.Refused.{Commands}
use Rattle.trace_reading.proofs.Leads.{bytes_of_line}
use Rattle.trace_reading.specs.Faults.{IsTextFault}
use Rattle.trace_reading.specs.Stops.{HasReadBody, StopsBody}
use Rattle.trace_reading.specs.declared.fault.TraceFault.{TraceFault}
use Rattle.trace_reading.specs.declared.fault.TraceFault.TheVariants.{BadLine, NoMemory}
use Rattle.heap_dump.specs.Dumped.{Dumped, IsDump, dumped, most_made}
use Rattle.heap_dump.specs.DumpsToRun.{run_version, Resumes, mark_line}
use Rattle.heap_dump.specs.DumpLines.{DumpStage, Version, Counts, Listed, Behind, DumpLead, DumpRefused, Spells}
use Rattle.heap_dump.specs.HeldReferences.{held, held_row}
use Rattle.heap_dump.specs.RowsReached.{graph_from}
use Rattle.heap_dump.specs.Steps.{Leads, StopsAt, IsStop}
use Rattle.heap_dump.specs.Listing.{listed, HasTakenRows, HasTakenRoots, IsHeldDump}
use Rattle.heap_dump.proofs.Rowed.{names_now}
use Rattle.heap_dump.proofs.Steps.{leads_one, leads_both, stops_behind}
use Rattle.heap_dump.proofs.Stopped.{refused, body_stops}
use Rattle.heap_dump.proofs.Spelled.{ended, leads_bytes, head_spelled, head_narrow, counts_spelled, listed_spelled, all_spelled}
use Rattle.heap_dump.proofs.HeldDump.{held_is_dump, dump_small}

-- ---- faults

pub text_fault : (stage : DumpStage) (first_line : ℕ) (bytes : List ℕ) (fault other_fault : TraceFault) → fault ≡ other_fault → (other_fault ≡ NoMemory) ⊎ IsStop stage first_line bytes other_fault → IsTextFault fault
text_fault stage first_line bytes fault other_fault same_fault (inl no_memory) = subst IsTextFault (sym (same_fault ∙ no_memory)) tt
text_fault stage first_line bytes fault other_fault same_fault (inr stop) = subst IsTextFault (sym (same_fault ∙ stop.2)) tt

pub stop_line : {T : Type 0} (result : Result T TraceFault) (stage : DumpStage) (first_line : ℕ) (bytes : List ℕ) (fault other_fault : TraceFault) → result ≡ Err fault → fault ≡ other_fault → (other_fault ≡ NoMemory) ⊎ IsStop stage first_line bytes other_fault
    → (line_number : ℕ) (why : Why) → result ≡ Err (BadLine line_number why) → StopsAt stage first_line bytes line_number why
stop_line result stage first_line bytes given_fault found_fault fault same_fault (inl no_memory) line_number why result_is = absurd cc
stop_line result stage first_line bytes given_fault found_fault fault same_fault (inr stop) line_number why result_is =
    let fst : stop.0 ≡ line_number = let stop_place = stop.2 in cc in
    let snd : stop.1 ≡ why = let stop_place = stop.2 in cc in
    subst (λ (why : Why). StopsAt stage first_line bytes line_number why) snd (subst (λ (some_line : ℕ). StopsAt stage first_line bytes some_line stop.1) fst stop.3)

-- ---- what was taken

pub counts_size : (bytes rest : List ℕ) (config : Config) (dump : Dumped) → Leads (Counts config) bytes rest 1 (Listed dump) → (length dump.counts ≡ config.mutators) × All (λ made_count. made_count ≤ most_made) dump.counts
counts_size bytes rest config dump led = by_lines led.texts led.count led.lead
  where
    by_lines : (texts : List (List ℕ)) → length texts ≡ 1 → DumpLead (Counts config) texts (Listed dump) → (length dump.counts ≡ config.mutators) × All (λ made_count. made_count ≤ most_made) dump.counts
    by_lines [] one_text lead = absurd (omega (arith, one_text))
    by_lines (first_text ∷ second_text ∷ later_texts) one_text lead = absurd (omega (arith, one_text))
    by_lines (first_text ∷ []) one_text lead =
        let lead_facts = lead.1 in
        let same_dump : record { config = config; counts = lead_facts.0; rows = []; roots = [] } ≡ dump = let count_facts = lead_facts.4 in let later_lead = lead.2 in cc in
        let same_counts : lead_facts.0 ≡ dump.counts = ap (λ (dump : Dumped). dump.counts) same_dump in
        (subst (λ (given_counts : List ℕ). length given_counts ≡ config.mutators) same_counts lead_facts.1, subst (All (λ made_count. made_count ≤ most_made)) same_counts lead_facts.2)

pub shorter : (stage next_stage : DumpStage) (bytes rest : List ℕ) (lines : ℕ) → Leads stage bytes rest lines next_stage → length rest ≤ length bytes
shorter stage next_stage bytes rest lines led = omega (arith, ap length (leads_bytes stage next_stage bytes rest lines led), length-append (flat_map ended led.texts) rest)

pub line_shorter : (bytes text rest : List ℕ) → parts 10 bytes ≡ text ∷ parts 10 rest → length rest + 1 ≤ length bytes
line_shorter bytes text rest cut = omega (arith, ap length (bytes_of_line bytes text rest cut), length-append text (10 ∷ rest))

pub to_counts : (config : Config) (counts dump_bytes behind_head behind_counts : List ℕ) → Leads Version dump_bytes behind_head 3 (Counts config) → Leads (Counts config) behind_head behind_counts 1 (Listed (listed config counts [] [])) → Leads Version dump_bytes behind_counts 4 (Listed (listed config counts [] []))
to_counts config counts dump_bytes behind_head behind_counts head counted = leads_both Version (Counts config) (Listed (listed config counts [] [])) dump_bytes behind_head behind_counts 3 1 head counted

pub to_rows : (config : Config) (counts dump_bytes behind_head behind_counts behind_objects : List ℕ) (lines : ℕ) (opened_text objects_text : Text) → Leads Version dump_bytes behind_head 3 (Counts config) → Leads (Counts config) behind_head behind_counts 1 (Listed (listed config counts [] []))
    → (rowed : HasTakenRows counts behind_counts behind_objects lines opened_text objects_text) → Leads Version dump_bytes behind_objects (4 + lines) (Listed (listed config counts rowed.rows []))
to_rows config counts dump_bytes behind_head behind_counts behind_objects lines opened_text objects_text head counted rowed =
    leads_both Version (Listed (listed config counts [] [])) (Listed (listed config counts rowed.rows [])) dump_bytes behind_counts behind_objects 4 lines (to_counts config counts dump_bytes behind_head behind_counts head counted) (rowed.led config)

pub threads_now : (config : Config) (counts behind_counts behind_objects : List ℕ) (lines : ℕ) (opened_text objects_text : Text) (words threads : ℕ) → HasTakenRows counts behind_counts behind_objects lines opened_text objects_text → opened_text ≡ empty words threads → threads ≡ config.mutators → config.mutators ≡ length objects_text.roots
threads_now config counts behind_counts behind_objects lines opened_text objects_text words threads rowed text_opened threads_are =
    sym (ap length rowed.roots ∙ ap (λ (text : Text). length text.roots) text_opened ∙ length-replicate threads (replicate 16 None) ∙ threads_are)

pub counts_fault : (fault : TraceFault) (threads : ℕ) (bytes : List ℕ) (config : Config) → (fault ≡ NoMemory) ⊎ ((other_config : Config) → other_config.mutators ≡ threads → IsStop (Counts other_config) 4 bytes fault) → config.mutators ≡ threads → (fault ≡ NoMemory) ⊎ IsStop (Counts config) 4 bytes fault
counts_fault fault threads bytes config (inl no_memory) same_threads = inl no_memory
counts_fault fault threads bytes config (inr stop) same_threads = inr (stop config same_threads)

pub mark_fault : (fault : TraceFault) (first_line : ℕ) (bytes : List ℕ) (text : Text) (dump : Dumped) → (fault ≡ NoMemory) ⊎ ((other_dump : Dumped) → IsHeldDump other_dump text → other_dump.roots ≢ [] → IsStop (Listed other_dump) first_line bytes fault) → IsHeldDump dump text → dump.roots ≢ []
    → (fault ≡ NoMemory) ⊎ IsStop (Listed dump) first_line bytes fault
mark_fault fault first_line bytes text dump (inl no_memory) held some_roots = inl no_memory
mark_fault fault first_line bytes text dump (inr stop) held some_roots = inr (stop dump held some_roots)

module _ (config : Config) (counts dump_bytes behind_head behind_counts behind_objects behind_roots : List ℕ) (lines : ℕ) (opened_text objects_text rooted_text : Text) (all_roots : List (List Reference))
    (head : Leads Version dump_bytes behind_head 3 (Counts config)) (counted : Leads (Counts config) behind_head behind_counts 1 (Listed (listed config counts [] [])))
    (rowed : HasTakenRows counts behind_counts behind_objects lines opened_text objects_text) (rooted : HasTakenRoots behind_objects behind_roots (length objects_text.roots) objects_text rooted_text all_roots) (threads : config.mutators ≡ length objects_text.roots) (few_roots : length objects_text.roots ≤ 8) (some_roots_read : 1 ≤ length objects_text.roots) where
  abbrev pub whole : Dumped
  whole = listed config counts rowed.rows all_roots

  rows_now : rooted_text.rows ≡ map held_row rowed.rows
  rows_now = ap (λ (text : Text). text.rows) rooted.text ∙ rowed.held

  roots_now : rooted_text.roots ≡ map (map held) all_roots
  roots_now = ap (λ (text : Text). text.roots) rooted.text ∙ ap (λ (root_lists : List (List Reference)). map (map held) all_roots ++ root_lists) (drop_all (length objects_text.roots) objects_text.roots (omega arith)) ∙ append-nil (map (map held) all_roots)

  sizes : (length counts ≡ config.mutators) × All (λ made_count. made_count ≤ most_made) counts
  sizes = counts_size behind_head behind_counts config (listed config counts [] []) counted

  pub held_now : IsHeldDump whole rooted_text
  held_now = record {
    form = (record { narrow = head_narrow dump_bytes behind_head config head; threads = sizes.0; counts = sizes.1; rows = rowed.all; order = rowed.order; each = rooted.count ∙ sym threads; roots = rooted.each });
    rows = rows_now;
    roots = roots_now;
  }

  pub order_now : InOrder (names_of rooted_text)
  order_now = subst InOrder (sym (ap (λ (text : Text). names_of text) rooted.text ∙ names_now counts behind_counts behind_objects lines opened_text objects_text rowed)) rowed.order

  pub few_now : length rooted_text.roots ≤ 8
  few_now = omega (arith, ap length roots_now, (length-map all_roots (map held)), rooted.count, few_roots)

  pub some_roots : whole.roots ≢ []
  some_roots = λ no_roots. omega (arith, ap length no_roots, rooted.count, some_roots_read)

  pub listing : Leads (Listed (listed config counts [] [])) behind_counts behind_roots (lines + length objects_text.roots) (Listed whole)
  listing =
      leads_both (Listed (listed config counts [] [])) (Listed (listed config counts rowed.rows [])) (Listed whole) behind_counts behind_objects behind_roots lines (length objects_text.roots) (rowed.led config)
      (rooted.led (listed config counts rowed.rows []) refl threads)

  pub to_roots : Leads Version dump_bytes behind_roots (4 + (lines + length objects_text.roots)) (Listed whole)
  to_roots = leads_both Version (Listed (listed config counts [] [])) (Listed whole) dump_bytes behind_counts behind_roots 4 (lines + length objects_text.roots) (to_counts config counts dump_bytes behind_head behind_counts head counted) listing

  module _ (behind_mark text : List ℕ) (cut : parts 10 behind_roots ≡ text ∷ parts 10 behind_mark) (mark : Spells text mark_line) (reach : IsReach (graph_from rooted_text) (names_of rooted_text)) where
    is_dump : IsDump whole × (rooted_text.rows ≡ rowed.rows) × (rooted_text.roots ≡ all_roots)
    is_dump = held_is_dump whole rooted_text held_now few_now reach

    pub to_mark : Leads Version dump_bytes behind_mark (4 + (lines + length objects_text.roots) + 1) (Behind (Commands run_version config))
    to_mark =
        leads_both Version (Listed whole) (Behind (Commands run_version config)) dump_bytes behind_roots behind_mark (4 + (lines + length objects_text.roots)) 1 to_roots
        (leads_one (Listed whole) (Behind (Commands run_version config)) behind_roots text behind_mark cut (inr (inr (is_dump.0, mark, refl))))

    pub bad_trace : (first_line line_number : ℕ) (why : Why) → first_line ≡ 5 + lines + length objects_text.roots + 1 → length dump_bytes ≤ most_bytes → StopsBody run_version config first_line behind_mark line_number why → DumpRefused dump_bytes line_number why
    bad_trace first_line line_number why number bytes_short stops =
        refused dump_bytes line_number why bytes_short
        (stops_behind Version (Behind (Commands run_version config)) 1 first_line dump_bytes behind_mark (4 + (lines + length objects_text.roots) + 1) line_number why to_mark (omega (arith, number)) (body_stops config first_line behind_mark line_number why stops))

    pub resumes : (scripts : List (List Command)) (items : List Item) → length dump_bytes ≤ most_bytes → HasReadBody run_version config behind_mark scripts items → Resumes dump_bytes (dumped config counts rooted_text) scripts items
    resumes scripts items bytes_short body_read =
        let smalls = dump_small whole is_dump.0 (omega (arith, sizes.0, threads, few_roots)) in
        let same_dump : whole ≡ dumped config counts rooted_text =
        ap (λ (rs : List Row). record { config = config; counts = counts; rows = rs; roots = all_roots }) (sym is_dump.1)
        ∙ ap (λ (rs : List (List Reference)). record { config = config; counts = counts; rows = rooted_text.rows; roots = rs }) (sym is_dump.2) in
        let roots_marked : behind_roots ≡ mark_line ++ behind_mark = bytes_of_line behind_roots text behind_mark cut ∙ sym (append_assoc text (newline ∷ []) behind_mark) ∙ ap (λ (given_bytes : List ℕ). given_bytes ++ behind_mark) mark in
        let list = listed_spelled behind_counts behind_roots (lines + length objects_text.roots) (listed config counts [] []) whole listing refl refl (rooted.count ∙ sym threads) rooted.each smalls.0 smalls.1 in
        subst (λ (dump : Dumped). Resumes dump_bytes dump scripts items) same_dump
        (record {
          dump = is_dump.0;
          lines = body_read.lines;
          in_range = body_read.in_range;
          turns = body_read.turns;
          turns_in_range = body_read.turns_in_range;
          spelled = all_spelled dump_bytes behind_head behind_counts behind_roots behind_mark mark_line (flat_map line body_read.lines ++ flat_map schedule_line body_read.turns) whole (head_spelled dump_bytes behind_head config head) (counts_spelled behind_head behind_counts config (listed config counts [] []) counted) list roots_marked body_read.spelled;
          by_thread = body_read.by_thread;
          in_order = body_read.in_order;
          short = bytes_short;
        })
