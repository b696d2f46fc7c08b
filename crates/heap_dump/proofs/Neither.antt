-- Bytes within the limit are a dump with what is to run from it, or are refused: they cannot be neither.
use Rattle.std.proofs.Common.{ℕ, zero, suc, ◌≡◌, ◌⊎◌, inl, inr, ◌+◌, ◌≤◌, List, [], ◌∷◌, ◌++◌, length, codes, Option, Some, None, refl, sym, ap, subst, ◌∙◌, append_assoc, append-nil, arith}
use Rattle.std.specs.List.{flat_map, AllByRecursion}
use Rattle.std.proofs.lemmas.List.Concat.{flat_map-cons}
use Rattle.trace_reading.proofs.Either.{line_has_bytes, rest_is_shorter}
use Rattle.shen_graph.specs.declared.command.Command.{Command}
use Rattle.heap_words.specs.declared.config.Config.{Config}
use Rattle.heap_words.specs.declared.schedule.Item.{Item}
use Rattle.trace_reading.specs.Spelling.{TraceLine, IsLine, line, newline, titled, schedule_line, IsScheduleLine}
use Rattle.trace_reading.specs.Grammar.{most_bytes, scripts_of, items_of}
use Rattle.trace_reading.specs.declared.why.Why.{Why}
use Rattle.trace_reading.specs.declared.why.Why.TheVariants.{DumpWanted}
use Rattle.trace_reading.specs.Causes.{parts}
use Rattle.trace_reading.specs.Refused.{LineStage, Commands, Turns, words_cause, end_cause, LineFollows, Lead}
use Rattle.trace_reading.specs.Refused.LineStage.{Version as TraceVersion, Heap as TraceHeap, Threads as TraceThreads}
use Rattle.trace_reading.proofs.Lines.{whole_line, cut_line}
use Rattle.trace_reading.proofs.Leads.{Fits, follows, first_line, bytes_of_line, bytes_of_last}
use Rattle.heap_dump.specs.Dumped.{Dumped, IsDump}
use Rattle.heap_dump.specs.DumpsToRun.{run_version, Resumes, mark_line}
use Rattle.heap_dump.specs.DumpLines.{DumpStage, Version, Heap, Threads, Counts, Listed, Behind, DumpFollows, StopsFor, DumpRefused, Spells, with_row, with_roots, ends_by}
use Rattle.heap_dump.specs.Steps.{Leads}
use Rattle.heap_dump.proofs.Steps.{IsDumping, leads_none, leads_one, leads_both, ends_here, refused_here}
use Rattle.heap_dump.proofs.Stopped.{refused}
use Rattle.heap_dump.proofs.DumpEnds.{behind_lead}
use Rattle.heap_dump.proofs.HeldDump.{dump_small}
use Rattle.heap_dump.proofs.Spelled.{ended, leads_bytes, head_spelled, counts_spelled, listed_spelled, all_spelled}

-- ---- lines behind the line `trace`

ended-cons : (text : List ℕ) (texts : List (List ℕ)) (whole_text others : List ℕ) → text ++ newline ∷ [] ≡ whole_text → flat_map ended texts ≡ others → flat_map ended (text ∷ texts) ≡ whole_text ++ others
ended-cons text texts whole_text others same_text same_rest = flat_map-cons ended text texts ∙ ap (λ (bytes : List ℕ). bytes ++ flat_map ended texts) same_text ∙ ap (λ (bytes : List ℕ). whole_text ++ bytes) same_rest

-- lines of commands and of a schedule that these texts are
record AreBody (config : Config) (texts : List (List ℕ)) : Type 0 where
  lines : List TraceLine
  turns : List (List Item)
  in_range : AllByRecursion (IsLine run_version config.mutators) lines
  turns_in_range : AllByRecursion (IsScheduleLine config) turns
  spelled : flat_map ended texts ≡ flat_map line lines ++ flat_map schedule_line turns

of_turns : (config : Config) (texts : List (List ℕ)) (last_stage : LineStage) → Lead (Turns config) texts last_stage → (turns : List (List Item)) × AllByRecursion (IsScheduleLine config) turns × (flat_map ended texts ≡ flat_map schedule_line turns)
of_turns config [] last_stage lead = ([], tt, refl)
of_turns config (text ∷ texts) last_stage lead =
    let turn_item = lead.1.0 in
    let later_turns = of_turns config texts last_stage (subst (λ (stage : LineStage). Lead stage texts last_stage) lead.1.1 lead.2) in
    (turn_item.0 ∷ later_turns.0, (turn_item.1, later_turns.1), ended-cons text texts (schedule_line turn_item.0) (flat_map schedule_line later_turns.0) turn_item.2 later_turns.2 ∙ sym (flat_map-cons schedule_line turn_item.0 later_turns.0))

of_commands : (config : Config) (texts : List (List ℕ)) (last_stage : LineStage) → Lead (Commands run_version config) texts last_stage → AreBody config texts
of_commands config [] last_stage lead = record { lines = []; turns = []; in_range = tt; turns_in_range = tt; spelled = refl }
of_commands config (text ∷ texts) last_stage lead = by_kind lead.0 lead.1 lead.2 (of_commands config texts last_stage)
  where
    by_kind : (next_stage : LineStage) → LineFollows (Commands run_version config) text next_stage → Lead next_stage texts last_stage → (Lead (Commands run_version config) texts last_stage → AreBody config texts) → AreBody config (text ∷ texts)
    by_kind next_stage (inl line_follows) lead with_rest =
        let command_line = line_follows.0 in
        let later_lines = with_rest (subst (λ (stage : LineStage). Lead stage texts last_stage) line_follows.1 lead) in
        record {
          lines = command_line.0 ∷ later_lines.lines;
          turns = later_lines.turns;
          in_range = (command_line.1, later_lines.in_range);
          turns_in_range = later_lines.turns_in_range;
          spelled = ended-cons text texts (line command_line.0) (flat_map line later_lines.lines ++ flat_map schedule_line later_lines.turns) command_line.2 later_lines.spelled
              ∙ sym (append_assoc (line command_line.0) (flat_map line later_lines.lines) (flat_map schedule_line later_lines.turns))
              ∙ ap (λ (bytes : List ℕ). bytes ++ flat_map schedule_line later_lines.turns) (sym (flat_map-cons line command_line.0 later_lines.lines));
        }
    by_kind next_stage (inr line_follows) lead with_rest =
        let command_line = line_follows.0 in
        let later_lines = of_turns config texts last_stage (subst (λ (stage : LineStage). Lead stage texts last_stage) line_follows.1 lead) in
        record {
          lines = [];
          turns = command_line.0 ∷ later_lines.0;
          in_range = tt;
          turns_in_range = (command_line.1, later_lines.1);
          spelled = ended-cons text texts (schedule_line command_line.0) (flat_map schedule_line later_lines.0) command_line.2 later_lines.2 ∙ sym (flat_map-cons schedule_line command_line.0 later_lines.0);
        }

-- ---- stops before the line `trace`

-- the bytes end where a line of a trace may begin
nothing_left : (stage : LineStage) (text : List ℕ) → end_cause stage text ≡ None → text ≡ []
nothing_left TraceVersion text no_cause = absurd cc
nothing_left (TraceHeap trace_version) text no_cause = absurd cc
nothing_left (TraceThreads trace_version regions region_words reserve) text no_cause = absurd cc
nothing_left (Commands version config) [] no_cause = refl
nothing_left (Commands version config) (byte ∷ text) no_cause = absurd cc
nothing_left (Turns config) [] no_cause = refl
nothing_left (Turns config) (byte ∷ text) no_cause = absurd cc

-- ---- bytes that are neither

module _ (dump_bytes : List ℕ) (bytes_short : length dump_bytes ≤ most_bytes) (none_resumes : (dump : Dumped) (scripts : List (List Command)) (items : List Item) → Resumes dump_bytes dump scripts items → ⊥) (never_refused : (n : ℕ) (why : Why) → DumpRefused dump_bytes n why → ⊥) where
  fine_at : (stage : DumpStage) (later_bytes : List ℕ) (lines : ℕ) → Leads Version dump_bytes later_bytes lines stage → (reason : Why) → StopsFor stage (parts 10 later_bytes) reason → ⊥
  fine_at stage later_bytes lines led reason stops = never_refused (1 + lines) reason (refused dump_bytes (1 + lines) reason bytes_short (record { rest = later_bytes; lines = lines; at = stage; led = led; number = refl; cause = stops }))

  -- the next line follows, and there is one behind it
  step : (stage : DumpStage) → IsDumping stage → (bytes : List ℕ) (lines : ℕ) → Leads Version dump_bytes bytes lines stage
      → ((text rest : List ℕ) (next : DumpStage) → parts 10 bytes ≡ text ∷ parts 10 rest → DumpFollows stage text next → ⊥) → ⊥
  step stage dumping bytes lines led go_on = by_first (first_line bytes).0 (first_line bytes).1 (first_line bytes).2
    where
      by_first : (text rest : List ℕ) → (parts 10 bytes ≡ text ∷ []) ⊎ (parts 10 bytes ≡ text ∷ parts 10 rest) → ⊥
      by_first text rest (inl same_parts) = fine_at stage bytes lines led (ends_by text) (ends_here stage bytes text dumping same_parts)
      by_first text rest (inr same_parts) = fine_at stage bytes lines led DumpWanted (refused_here stage bytes text rest dumping same_parts (λ next_stage f. go_on text rest next_stage same_parts f))

  -- ---- behind the line `trace`

  module _ (read_config : Config) (behind_head behind_counts behind_roots behind_mark mark : List ℕ) (bare_dump dump : Dumped) (listed : ℕ) (dump_stands : IsDump dump) (same_config : dump.config ≡ read_config) (same_counts : dump.counts ≡ bare_dump.counts) (no_rows : bare_dump.rows ≡ []) (no_roots : bare_dump.roots ≡ [])
      (head : Leads Version dump_bytes behind_head 3 (Counts read_config)) (counted : Leads (Counts read_config) behind_head behind_counts 1 (Listed bare_dump)) (rowed : Leads (Listed bare_dump) behind_counts behind_roots listed (Listed dump)) (cut : parts 10 behind_roots ≡ mark ∷ parts 10 behind_mark) (marked : Spells mark mark_line) where
    to_mark : Leads Version dump_bytes behind_mark (3 + 1 + listed + 1) (Behind (Commands run_version read_config))
    to_mark =
        leads_both Version (Listed dump) (Behind (Commands run_version read_config)) dump_bytes behind_roots behind_mark (3 + 1 + listed) 1
        (leads_both Version (Listed bare_dump) (Listed dump) dump_bytes behind_counts behind_roots (3 + 1) listed (leads_both Version (Counts read_config) (Listed bare_dump) dump_bytes behind_head behind_counts 3 1 head counted) rowed)
        (leads_one (Listed dump) (Behind (Commands run_version read_config)) behind_roots mark behind_mark cut (inr (inr (dump_stands, marked, ap (λ (same_config : Config). Behind (Commands run_version same_config)) (sym same_config)))))

    few_counts : length dump.counts ≤ 8
    few_counts = omega (arith, dump_stands.form.threads, dump.config.in_range.most_mutators)

    -- nothing is left
    complete : (stage : LineStage) (line_number : ℕ) → Leads (Behind (Commands run_version read_config)) behind_mark [] line_number (Behind stage) → ⊥
    complete stage line_number led =
        let lead = behind_lead led.texts (Commands run_version read_config) (Behind stage) led.lead in
        let body = of_commands read_config led.texts lead.0 lead.2 in
        let smalls = dump_small dump dump_stands few_counts in
        none_resumes dump (scripts_of dump.config.mutators body.lines) (items_of body.turns) (record {
          dump = dump_stands;
          lines = body.lines;
          in_range = subst (λ (same_config : Config). AllByRecursion (IsLine run_version same_config.mutators) body.lines) (sym same_config) body.in_range;
          turns = body.turns;
          turns_in_range = subst (λ (same_config : Config). AllByRecursion (IsScheduleLine same_config) body.turns) (sym same_config) body.turns_in_range;
          spelled = all_spelled dump_bytes behind_head behind_counts behind_roots behind_mark mark_line (flat_map line body.lines ++ flat_map schedule_line body.turns) dump
              (head_spelled dump_bytes behind_head dump.config (subst (λ (same_config : Config). Leads Version dump_bytes behind_head 3 (Counts same_config)) (sym same_config) head))
              (counts_spelled behind_head behind_counts read_config bare_dump counted ∙ ap (λ (ns : List ℕ). titled (codes "counts") ns ++ behind_counts) (sym same_counts))
              (listed_spelled behind_counts behind_roots listed bare_dump dump rowed no_rows no_roots dump_stands.form.each dump_stands.form.roots smalls.0 smalls.1)
              (bytes_of_line behind_roots mark behind_mark cut ∙ sym (append_assoc mark (newline ∷ []) behind_mark) ∙ ap (λ (read_bytes : List ℕ). read_bytes ++ behind_mark) marked)
              (leads_bytes (Behind (Commands run_version read_config)) (Behind stage) behind_mark [] line_number led ∙ append-nil (flat_map ended led.texts) ∙ body.spelled);
          by_thread = refl;
          in_order = refl;
          short = bytes_short;
        })

    from_there : (stage : LineStage) (later_bytes : List ℕ) (lines : ℕ) → Leads (Behind (Commands run_version read_config)) behind_mark later_bytes lines (Behind stage) → Leads Version dump_bytes later_bytes (3 + 1 + listed + 1 + lines) (Behind stage)
    from_there stage later_bytes lines led = leads_both Version (Behind (Commands run_version read_config)) (Behind stage) dump_bytes behind_mark later_bytes (3 + 1 + listed + 1) lines to_mark led

    at_last : (stage : LineStage) (bytes text : List ℕ) (lines : ℕ) → Leads (Behind (Commands run_version read_config)) behind_mark bytes lines (Behind stage) → parts 10 bytes ≡ text ∷ [] → (cause : Option Why) → end_cause stage text ≡ cause → ⊥
    at_last stage bytes text lines led same_parts (Some reason) has_cause = fine_at (Behind stage) bytes (3 + 1 + listed + 1 + lines) (from_there stage bytes lines led) reason (cut_line stage bytes text same_parts ∙ has_cause)
    at_last stage bytes text lines led same_parts None has_cause =
        let empty : bytes ≡ [] = bytes_of_last bytes text same_parts ∙ nothing_left stage text has_cause in
        complete stage lines (subst (λ (read_bytes : List ℕ). Leads (Behind (Commands run_version read_config)) behind_mark read_bytes lines (Behind stage)) empty led)

    body_walk : (limit : ℕ) (stage : LineStage) (bytes : List ℕ) (lines : ℕ) → Fits stage → length bytes ≤ limit → Leads (Behind (Commands run_version read_config)) behind_mark bytes lines (Behind stage) → ⊥
    body_walk zero stage bytes lines fits length_within led = by_first (first_line bytes).0 (first_line bytes).1 (first_line bytes).2
      where
        by_first : (text rest : List ℕ) → (parts 10 bytes ≡ text ∷ []) ⊎ (parts 10 bytes ≡ text ∷ parts 10 rest) → ⊥
        by_first text rest (inl same_parts) = at_last stage bytes text lines led same_parts (end_cause stage text) refl
        by_first text rest (inr same_parts) = line_has_bytes bytes text rest (bytes_of_line bytes text rest same_parts) length_within
    body_walk (suc limit) stage bytes lines fits length_within led = by_first (λ other_stage bs lines f low leads. body_walk limit other_stage bs lines f low leads) (first_line bytes).0 (first_line bytes).1 (first_line bytes).2
      where
        by_cause : ((later_stage : LineStage) (later_bytes : List ℕ) (line_count : ℕ) → Fits later_stage → length later_bytes ≤ limit → Leads (Behind (Commands run_version read_config)) behind_mark later_bytes line_count (Behind later_stage) → ⊥) → (text rest : List ℕ) → parts 10 bytes ≡ text ∷ parts 10 rest
            → (cause : Option Why) → words_cause stage (parts 32 text) ≡ cause → ⊥
        by_cause walk_on text rest same_parts (Some reason) has_cause = fine_at (Behind stage) bytes (3 + 1 + listed + 1 + lines) (from_there stage bytes lines led) reason (whole_line stage bytes text rest same_parts ∙ has_cause)
        by_cause walk_on text rest same_parts None has_cause =
            let next_stage = follows stage text fits has_cause in
            walk_on next_stage.0 rest (lines + 1) next_stage.2 (rest_is_shorter bytes text rest limit (bytes_of_line bytes text rest same_parts) length_within)
            (leads_both (Behind (Commands run_version read_config)) (Behind stage) (Behind next_stage.0) behind_mark bytes rest lines 1 led (leads_one (Behind stage) (Behind next_stage.0) bytes text rest same_parts (next_stage.0, next_stage.1, refl)))

        by_first : ((later_stage : LineStage) (later_bytes : List ℕ) (line_count : ℕ) → Fits later_stage → length later_bytes ≤ limit → Leads (Behind (Commands run_version read_config)) behind_mark later_bytes line_count (Behind later_stage) → ⊥) → (text rest : List ℕ) → (parts 10 bytes ≡ text ∷ []) ⊎ (parts 10 bytes ≡ text ∷ parts 10 rest) → ⊥
        by_first walk_on text rest (inl same_parts) = at_last stage bytes text lines led same_parts (end_cause stage text) refl
        by_first walk_on text rest (inr same_parts) = by_cause walk_on text rest same_parts (words_cause stage (parts 32 text)) refl

    from_mark : ⊥
    from_mark = body_walk (length behind_mark) (Commands run_version read_config) behind_mark 0 tt (omega arith) (leads_none (Behind (Commands run_version read_config)) behind_mark)

  -- ---- objects and roots

  module _ (read_config : Config) (behind_head behind_counts : List ℕ) (bare_dump : Dumped) (bare_config : bare_dump.config ≡ read_config) (no_rows : bare_dump.rows ≡ []) (no_roots : bare_dump.roots ≡ []) (head : Leads Version dump_bytes behind_head 3 (Counts read_config)) (counted : Leads (Counts read_config) behind_head behind_counts 1 (Listed bare_dump)) where
    to_here : (dump : Dumped) (later_bytes : List ℕ) (lines : ℕ) → Leads (Listed bare_dump) behind_counts later_bytes lines (Listed dump) → Leads Version dump_bytes later_bytes (3 + 1 + lines) (Listed dump)
    to_here dump later_bytes lines led = leads_both Version (Listed bare_dump) (Listed dump) dump_bytes behind_counts later_bytes (3 + 1) lines (leads_both Version (Counts read_config) (Listed bare_dump) dump_bytes behind_head behind_counts 3 1 head counted) led

    one_line : (dump next_dump : Dumped) (bytes text rest : List ℕ) (lines : ℕ) → Leads (Listed bare_dump) behind_counts bytes lines (Listed dump) → parts 10 bytes ≡ text ∷ parts 10 rest → DumpFollows (Listed dump) text (Listed next_dump) → Leads (Listed bare_dump) behind_counts rest (lines + 1) (Listed next_dump)
    one_line dump next_dump bytes text rest lines led cut dump_follows = leads_both (Listed bare_dump) (Listed dump) (Listed next_dump) behind_counts bytes rest lines 1 led (leads_one (Listed dump) (Listed next_dump) bytes text rest cut dump_follows)

    from_listed : (limit : ℕ) (dump : Dumped) (bytes : List ℕ) (lines : ℕ) → length bytes ≤ limit → dump.config ≡ read_config → dump.counts ≡ bare_dump.counts → Leads (Listed bare_dump) behind_counts bytes lines (Listed dump) → ⊥
    from_listed zero dump bytes lines length_within config_is counts_are led = step (Listed dump) tt bytes (3 + 1 + lines) (to_here dump bytes lines led) (λ text rest next cut f. line_has_bytes bytes text rest (bytes_of_line bytes text rest cut) length_within)
    from_listed (suc limit) dump bytes lines length_within config_is counts_are led = step (Listed dump) tt bytes (3 + 1 + lines) (to_here dump bytes lines led) (λ text rest next cut f. by_kind (λ other_dump bs lines low same_config same_counts leads. from_listed limit other_dump bs lines low same_config same_counts leads) text rest next cut f)
      where
        by_kind : ((next_dump : Dumped) (later_bytes : List ℕ) (line_count : ℕ) → length later_bytes ≤ limit → next_dump.config ≡ read_config → next_dump.counts ≡ bare_dump.counts → Leads (Listed bare_dump) behind_counts later_bytes line_count (Listed next_dump) → ⊥) → (text rest : List ℕ) (next_stage : DumpStage) → parts 10 bytes ≡ text ∷ parts 10 rest
            → DumpFollows (Listed dump) text next_stage → ⊥
        by_kind walk_on text rest next_stage cut (inl line_follows) =
            walk_on (with_row dump line_follows.0) rest (lines + 1) (rest_is_shorter bytes text rest limit (bytes_of_line bytes text rest cut) length_within) config_is counts_are
            (one_line dump (with_row dump line_follows.0) bytes text rest lines led cut (inl (line_follows.0, line_follows.1, line_follows.2, line_follows.3, line_follows.4, line_follows.5, line_follows.6, refl)))
        by_kind walk_on text rest next_stage cut (inr (inl line_follows)) =
            walk_on (with_roots dump line_follows.0) rest (lines + 1) (rest_is_shorter bytes text rest limit (bytes_of_line bytes text rest cut) length_within) config_is counts_are
            (one_line dump (with_roots dump line_follows.0) bytes text rest lines led cut (inr (inl (line_follows.0, line_follows.1, line_follows.2, line_follows.3, line_follows.4, line_follows.5, refl))))
        by_kind walk_on text rest next_stage cut (inr (inr line_follows)) = from_mark read_config behind_head behind_counts bytes rest text bare_dump dump lines line_follows.0 config_is counts_are no_rows no_roots head counted led cut line_follows.1

  -- ---- the head

  from_counts : (read_config : Config) (bytes : List ℕ) → Leads Version dump_bytes bytes 3 (Counts read_config) → ⊥
  from_counts read_config bytes led = step (Counts read_config) tt bytes 3 led (λ text rest next_stage cut f.
      let bare_dump : Dumped = record { config = read_config; counts = f.0; rows = []; roots = [] } in
      from_listed read_config bytes rest bare_dump refl refl refl led (subst (λ (stage : DumpStage). Leads (Counts read_config) bytes rest 1 stage) f.4 (leads_one (Counts read_config) next_stage bytes text rest cut f)) (length rest) bare_dump rest 0 (omega arith) refl refl (leads_none (Listed bare_dump) rest))

  from_threads : (config : Config) (bytes : List ℕ) → Leads Version dump_bytes bytes 2 (Threads config) → ⊥
  from_threads config bytes led = step (Threads config) tt bytes 2 led (λ text rest next_stage cut f.
      from_counts f.0 rest (subst (λ (stage : DumpStage). Leads Version dump_bytes rest 3 stage) f.3 (leads_both Version (Threads config) next_stage dump_bytes bytes rest 2 1 led (leads_one (Threads config) next_stage bytes text rest cut f))))

  from_heap : (bytes : List ℕ) → Leads Version dump_bytes bytes 1 Heap → ⊥
  from_heap bytes led = step Heap tt bytes 1 led (λ text rest next_stage cut f.
      from_threads f.0 rest (subst (λ (stage : DumpStage). Leads Version dump_bytes rest 2 stage) f.3 (leads_both Version Heap next_stage dump_bytes bytes rest 1 1 led (leads_one Heap next_stage bytes text rest cut f))))

  pub not_neither : ⊥
  not_neither = step Version tt dump_bytes 0 (leads_none Version dump_bytes) (λ text rest next_stage cut f. from_heap rest (subst (λ (stage : DumpStage). Leads Version dump_bytes rest 1 stage) f.1 (leads_one Version next_stage dump_bytes text rest cut f)))
