-- Lines that were taken one after the other are those of a trace.
use Rattle.std.proofs.Common.{◌≡◌, ℕ, ◌≤◌, false, List, [], ◌∷◌, ◌++◌, length, inl, inr, refl, sym, ap, subst, ◌∙◌, append_assoc, append-nil}
use Rattle.std.specs.List.{flat_map, AllByRecursion}
use Rattle.std.proofs.lemmas.Bool.{false≢true}
use Rattle.std.proofs.lemmas.Grind.{flat_map-append}
use Rattle.std.proofs.lemmas.List.Concat.{flat_map-cons}
use Rattle.heap_words.specs.declared.config.Config.{Config}
use Rattle.heap_words.specs.Narrow.{IsNarrow}
use Rattle.heap_words.specs.declared.schedule.Item.{Item}
use Rattle.trace_reading.specs.Spelling.{newline, TraceLine, line, IsVersion, IsLine, schedule_line, IsScheduleLine, header}
use Rattle.trace_reading.specs.Grammar.{most_bytes, scripts_of, items_of, with_line, HasReadLines, Reads}
use Rattle.trace_reading.proofs.Traces.{taken_more}
use Rattle.trace_text.specs.LinesTaken.{Taken, none_taken, ended_lines, TakesCommand, TakesItems, TakesLine, TakesLines}

abbrev ended : List ℕ → List ℕ
ended text = text ++ newline ∷ []

-- these bytes are the lines that were taken
record AreTaken (v : ℕ) (c : Config) (bytes : List ℕ) (taken : Taken) : Type 0 where
  version : taken.version ≡ v
  config : taken.config ≡ c
  lines : List TraceLine
  in_range : AllByRecursion (IsLine v c.mutators) lines
  turns : List (List Item)
  turns_in_range : AllByRecursion (IsScheduleLine c) turns
  spelled : bytes ≡ flat_map line lines ++ flat_map schedule_line turns
  by_thread : taken.scripts ≡ scripts_of c.mutators lines
  in_order : taken.items ≡ items_of turns
  none_yet : taken.scheduled ≡ false → turns ≡ []

none_are_taken : (version : ℕ) (config : Config) → AreTaken version config [] (none_taken version config)
none_are_taken version config = record { version = refl; config = refl; lines = []; in_range = tt; turns = []; turns_in_range = tt; spelled = refl; by_thread = refl; in_order = refl; none_yet = λ unscheduled. refl }

-- a line of a command more
command_more : (version : ℕ) (config : Config) (bytes text : List ℕ) (before after : Taken) → AreTaken version config bytes before → TakesCommand before text after → AreTaken version config (bytes ++ ended text) after
command_more version config bytes text before after taken line_taken =
    let new_line = line_taken.0 in
    let no_turns = taken.none_yet line_taken.1 in
    let fits : IsLine version config.mutators new_line = subst (λ (version : ℕ). IsLine version config.mutators new_line) taken.version (subst (λ (config : Config). IsLine before.version config.mutators new_line) taken.config line_taken.2) in
    let alone : bytes ≡ flat_map line taken.lines = taken.spelled ∙ ap (λ (some_turns : List (List Item)). flat_map line taken.lines ++ flat_map schedule_line some_turns) no_turns ∙ append-nil (flat_map line taken.lines) in
    let read_lines : HasReadLines version config.mutators (bytes ++ line new_line) (line new_line) before.scripts = record { lines = taken.lines; in_range = taken.in_range; spelled = ap (λ (some_bytes : List ℕ). some_bytes ++ line new_line) alone; by_thread = taken.by_thread } in
    let lines_after = taken_more version config.mutators (bytes ++ line new_line) (line new_line) [] before.scripts (with_line before.scripts new_line) new_line read_lines fits (sym (append-nil (line new_line))) refl in
    subst (AreTaken version config (bytes ++ ended text)) (sym line_taken.4) (record {
      version = taken.version;
      config = taken.config;
      lines = lines_after.lines;
      in_range = lines_after.in_range;
      turns = [];
      turns_in_range = tt;
      spelled = ap (λ (some_bytes : List ℕ). bytes ++ some_bytes) line_taken.3 ∙ lines_after.spelled;
      by_thread = lines_after.by_thread;
      in_order = taken.in_order ∙ ap items_of no_turns;
      none_yet = λ unscheduled. refl;
    })

all_more : (config : Config) (turns : List (List Item)) (items : List Item) → AllByRecursion (IsScheduleLine config) turns → IsScheduleLine config items → AllByRecursion (IsScheduleLine config) (turns ++ items ∷ [])
all_more config [] items all_in_range items_in_range = (items_in_range, tt)
all_more config (turn ∷ turns) items all_in_range items_in_range = (all_in_range.0, all_more config turns items all_in_range.1 items_in_range)

-- a line of the schedule more
items_more : (version : ℕ) (config : Config) (bytes text : List ℕ) (before after : Taken) → AreTaken version config bytes before → TakesItems before text after → AreTaken version config (bytes ++ ended text) after
items_more version config bytes text before after taken items_taken =
    let items = items_taken.0 in
    let items_in_range : IsScheduleLine config items = subst (λ (config : Config). IsScheduleLine config items) taken.config items_taken.1 in
    let turns = taken.turns ++ items ∷ [] in
    let front = flat_map line taken.lines in
    let spelled_turns : flat_map schedule_line turns ≡ flat_map schedule_line taken.turns ++ schedule_line items =
    flat_map-append schedule_line taken.turns (items ∷ []) ∙ ap (λ (some_bytes : List ℕ). flat_map schedule_line taken.turns ++ some_bytes) (flat_map-cons schedule_line items [] ∙ append-nil (schedule_line items)) in
    let items_in_turns : items_of turns ≡ items_of taken.turns ++ items =
    flat_map-append (λ (some_items : List Item). some_items) taken.turns (items ∷ []) ∙ ap (λ (some_items : List Item). items_of taken.turns ++ some_items) (flat_map-cons (λ (some_items : List Item). some_items) items [] ∙ append-nil items) in
    subst (AreTaken version config (bytes ++ ended text)) (sym items_taken.3) (record {
      version = taken.version;
      config = taken.config;
      lines = taken.lines;
      in_range = taken.in_range;
      turns = turns;
      turns_in_range = all_more config taken.turns items taken.turns_in_range items_in_range;
      spelled = ap (λ (some_bytes : List ℕ). bytes ++ some_bytes) items_taken.2 ∙ ap (λ (some_bytes : List ℕ). some_bytes ++ schedule_line items) taken.spelled ∙ append_assoc front (flat_map schedule_line taken.turns) (schedule_line items) ∙ ap (λ (some_bytes : List ℕ). front ++ some_bytes) (sym spelled_turns);
      by_thread = taken.by_thread;
      in_order = ap (λ (some_items : List Item). some_items ++ items) taken.in_order ∙ sym items_in_turns;
      none_yet = λ unscheduled. absurd (false≢true (sym unscheduled));
    })

one_more : (version : ℕ) (config : Config) (bytes text : List ℕ) (before after : Taken) → AreTaken version config bytes before → TakesLine before text after → AreTaken version config (bytes ++ ended text) after
one_more version config bytes text before after taken (inl line_taken) = command_more version config bytes text before after taken line_taken
one_more version config bytes text before after taken (inr line_taken) = items_more version config bytes text before after taken line_taken

all_taken : (version : ℕ) (config : Config) (texts : List (List ℕ)) (bytes : List ℕ) (before after : Taken) → AreTaken version config bytes before → TakesLines before texts after → AreTaken version config (bytes ++ ended_lines texts) after
all_taken version config [] bytes before after taken lines_taken = subst (λ (some_bytes : List ℕ). AreTaken version config some_bytes after) (sym (append-nil bytes)) (subst (AreTaken version config bytes) lines_taken taken)
all_taken version config (text ∷ texts) bytes before after taken lines_taken =
    subst (λ (some_bytes : List ℕ). AreTaken version config some_bytes after) (append_assoc bytes (ended text) (ended_lines texts) ∙ ap (λ (some_bytes : List ℕ). bytes ++ some_bytes) (sym (flat_map-cons (λ (some_text : List ℕ). some_text ++ newline ∷ []) text texts)))
    (all_taken version config texts (bytes ++ ended text) lines_taken.0 after (one_more version config bytes text before lines_taken.0 taken lines_taken.1) lines_taken.2)

pub read_as_taken : (version : ℕ) (config : Config) (texts : List (List ℕ)) (taken : Taken) → IsVersion version → IsNarrow config → TakesLines (none_taken version config) texts taken
    → length (header version config ++ ended_lines texts) ≤ most_bytes → Reads (header version config ++ ended_lines texts) version config taken.scripts taken.items
read_as_taken version config texts taken known_version narrow lines_taken short =
    let all_lines = all_taken version config texts [] (none_taken version config) taken (none_are_taken version config) lines_taken in
    record {
      known = known_version;
      narrow = narrow;
      lines = all_lines.lines;
      in_range = all_lines.in_range;
      turns = all_lines.turns;
      turns_in_range = all_lines.turns_in_range;
      spelled = ap (λ (some_bytes : List ℕ). header version config ++ some_bytes) all_lines.spelled;
      by_thread = all_lines.by_thread;
      in_order = all_lines.in_order;
      short = short;
    }
