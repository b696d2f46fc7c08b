-- Lines of a trace at the front of bytes.
use Rattle.std.proofs.Common.{◌≡◌, ◌⊎◌, ℕ, suc, ◌+◌, Bool, true, false, List, [], ◌∷◌, ◌++◌, length, ltb, Some, None, inl, inr, refl, sym, ap, subst, ◌∙◌, append_assoc, arith}
use Rattle.std.specs.Prelude.{codes}
use Rattle.std.specs.List.{flat_map, join_with_byte, AllByRecursion}
use Rattle.std.proofs.lemmas.Bool.Decides.{nat_tests}
use Rattle.std.proofs.lemmas.List.Concat.{flat_map-cons}
use Rattle.std.proofs.lemmas.List.{length-append}
use Rattle.heap_words.specs.declared.config.Config.{Config}
use Rattle.heap_words.specs.Narrow.{IsNarrow}
use Rattle.heap_words.specs.declared.schedule.Item.{Item}
use Rattle.trace_reading.specs.Spelling.{TraceLine, IsVersion, IsLine, line, newline, titled, header, schedule_line, IsScheduleLine}
use Rattle.trace_reading.specs.declared.why.Why.{Why}
use Rattle.trace_reading.specs.Causes.{parts}
use Rattle.trace_reading.specs.Refused.{LineStage, Version, Heap, Threads, Commands, Turns, body_stage, cause_of, LineFollows, Lead, StopsAt}
use Rattle.trace_reading.proofs.HeadWords.{titled_is, version_spelled, heap_spelled, threads_spelled}
use Rattle.trace_reading.proofs.Commands.{line_words, line_is}
use Rattle.trace_reading.proofs.ScheduleWords.{words_of_turn, turn_is}
use Rattle.trace_reading.proofs.Leads.{line_of, line_in_front, bytes_of_line, first_line}

-- the bytes begin with so many lines of a trace, and this is to stand on the next
pub record Begun (bytes rest : List ℕ) (n : ℕ) (stage : LineStage) : Type 0 where
  pub before : List (List ℕ)
  pub lines : parts newline bytes ≡ before ++ parts newline rest
  pub number : n ≡ length before
  pub lead : Lead Version before stage

pub begun_none : (bytes : List ℕ) → Begun bytes bytes 0 Version
begun_none bytes = record { before = []; lines = refl; number = refl; lead = refl }

lead_more : (first_stage : LineStage) (texts : List (List ℕ)) (stage : LineStage) (text : List ℕ) (next_stage : LineStage) → Lead first_stage texts stage → LineFollows stage text next_stage → Lead first_stage (texts ++ text ∷ []) next_stage
lead_more first_stage [] stage text next_stage lead line_follows = subst (λ (stage : LineStage). Lead stage (text ∷ []) next_stage) (sym lead) (next_stage, line_follows, refl)
lead_more first_stage (first_text ∷ texts) stage text next_stage lead line_follows = (lead.0, lead.1, lead_more lead.0 texts stage text next_stage lead.2 line_follows)

pub begun_more : (bytes text rest : List ℕ) (count : ℕ) (stage next_stage : LineStage) → Begun bytes (text ++ 10 ∷ rest) count stage → LineFollows stage text next_stage → Begun bytes rest (count + 1) next_stage
begun_more bytes text rest count stage next_stage begun line_follows = record {
  before = begun.before ++ text ∷ [];
  lines = begun.lines ∙ ap (λ (later_texts : List (List ℕ)). begun.before ++ later_texts) (line_in_front stage text rest next_stage line_follows) ∙ sym (append_assoc begun.before (text ∷ []) (parts newline rest));
  number = omega (arith, begun.number, length-append begun.before (text ∷ []));
  lead = lead_more Version begun.before stage text next_stage begun.lead line_follows;
}

pub begun_stops : (bytes rest : List ℕ) (count stop_number : ℕ) (stage : LineStage) (reason : Why) → Begun bytes rest count stage → stop_number ≡ count + 1 → cause_of stage (parts newline rest) ≡ Some reason → StopsAt bytes stop_number reason
begun_stops bytes rest count stop_number stage reason begun next_number cause = record {
  before = begun.before;
  from_it = parts newline rest;
  lines = begun.lines;
  number = omega (arith, begun.number, next_number);
  stage = stage;
  lead = begun.lead;
  cause = cause;
}

-- ---- the head

-- a text and the end of its line, in front of the rest
front_line : (text whole_line rest : List ℕ) → text ++ newline ∷ [] ≡ whole_line → text ++ 10 ∷ rest ≡ whole_line ++ rest
front_line text whole_line rest line_ended = sym (append_assoc text (newline ∷ []) rest) ∙ ap (λ (front : List ℕ). front ++ rest) line_ended

-- the line that a title and numbers spell
titled_line : (title : List ℕ) (numbers : List ℕ) → (text : List ℕ) × (text ++ newline ∷ [] ≡ titled title numbers)
titled_line title numbers = (_, titled_is title numbers)

pub begun_head : (bytes rest : List ℕ) (version : ℕ) (config : Config) → IsVersion version → IsNarrow config → bytes ≡ header version config ++ rest → Begun bytes rest 3 (Commands version config)
begun_head bytes rest version config known_version narrow same_bytes =
    let shen = titled_line (codes "shen") (version ∷ []) in
    let heap = titled_line (codes "heap") (config.regions ∷ config.region_words ∷ config.reserve ∷ []) in
    let threads = titled_line (codes "threads") (config.mutators ∷ config.helpers ∷ []) in
    let third = threads.0 ++ 10 ∷ rest in
    let second = heap.0 ++ 10 ∷ third in
    let split_bytes : bytes ≡ shen.0 ++ 10 ∷ second =
    same_bytes ∙ append_assoc (titled (codes "shen") (version ∷ [])) (titled (codes "heap") (config.regions ∷ config.region_words ∷ config.reserve ∷ []) ++ titled (codes "threads") (config.mutators ∷ config.helpers ∷ [])) rest
    ∙ ap (λ (some_text : List ℕ). titled (codes "shen") (version ∷ []) ++ some_text)
    (append_assoc (titled (codes "heap") (config.regions ∷ config.region_words ∷ config.reserve ∷ [])) (titled (codes "threads") (config.mutators ∷ config.helpers ∷ [])) rest
    ∙ ap (λ (some_text : List ℕ). titled (codes "heap") (config.regions ∷ config.region_words ∷ config.reserve ∷ []) ++ some_text) (sym (front_line threads.0 (titled (codes "threads") (config.mutators ∷ config.helpers ∷ [])) rest threads.1))
    ∙ sym (front_line heap.0 (titled (codes "heap") (config.regions ∷ config.region_words ∷ config.reserve ∷ [])) third heap.1))
    ∙ sym (front_line shen.0 (titled (codes "shen") (version ∷ [])) second shen.1) in
    let version_begun = begun_more bytes shen.0 second 0 Version (Heap version) (subst (λ (some_bytes : List ℕ). Begun bytes some_bytes 0 Version) split_bytes (begun_none bytes)) (version, known_version, shen.1, refl) in
    let heap_begun = begun_more bytes heap.0 third 1 (Heap version) (Threads version config.regions config.region_words config.reserve) version_begun (config, narrow, heap.1, refl) in
    begun_more bytes threads.0 rest 2 (Threads version config.regions config.region_words config.reserve) (Commands version config) heap_begun (config, refl, refl, refl, threads.1, refl)

-- ---- the lines behind it

pub begun_lines : (bytes : List ℕ) (lines : List TraceLine) (rest : List ℕ) (n : ℕ) (version : ℕ) (config : Config) → AllByRecursion (IsLine version config.mutators) lines → Begun bytes (flat_map line lines ++ rest) n (Commands version config) → Begun bytes rest (n + length lines) (Commands version config)
begun_lines bytes [] rest n version config in_range begun = subst (λ (some_count : ℕ). Begun bytes rest some_count (Commands version config)) (zero_more n) begun
  where
    zero_more : (count : ℕ) → count ≡ count + 0
    zero_more count = omega arith
begun_lines bytes (other_line ∷ lines) rest n version config in_range begun =
    let text = join_with_byte 32 (line_words other_line) in
    let others = flat_map line lines ++ rest in
    let front : flat_map line (other_line ∷ lines) ++ rest ≡ text ++ 10 ∷ others =
    ap (λ (some_text : List ℕ). some_text ++ rest) (flat_map-cons line other_line lines) ∙ append_assoc (line other_line) (flat_map line lines) rest ∙ sym (front_line text (line other_line) others (line_is other_line)) in
    let line_begun = begun_more bytes text others n (Commands version config) (Commands version config) (subst (λ (some_bytes : List ℕ). Begun bytes some_bytes n (Commands version config)) front begun) (inl ((other_line, in_range.0, line_is other_line), refl)) in
    subst (λ (some_count : ℕ). Begun bytes rest some_count (Commands version config)) (one_less n (length lines)) (begun_lines bytes lines rest (n + 1) version config in_range.1 line_begun)
  where
    one_less : (count line_count : ℕ) → (count + 1) + line_count ≡ count + suc line_count
    one_less count line_count = omega arith

begun_turn : (bytes : List ℕ) (items : List Item) (others : List ℕ) (count : ℕ) (version : ℕ) (config : Config) (behind_turn : Bool) → IsScheduleLine config items → Begun bytes (schedule_line items ++ others) count (body_stage version config behind_turn) → Begun bytes others (count + 1) (Turns config)
begun_turn bytes items others count version config false in_range begun =
    let text = join_with_byte 32 (words_of_turn items) in
    begun_more bytes text others count (Commands version config) (Turns config) (subst (λ (some_bytes : List ℕ). Begun bytes some_bytes count (Commands version config)) (sym (front_line text (schedule_line items) others (turn_is items))) begun) (inr ((items, in_range, turn_is items), refl))
begun_turn bytes items others count version config true in_range begun =
    let text = join_with_byte 32 (words_of_turn items) in
    begun_more bytes text others count (Turns config) (Turns config) (subst (λ (some_bytes : List ℕ). Begun bytes some_bytes count (Turns config)) (sym (front_line text (schedule_line items) others (turn_is items))) begun) ((items, in_range, turn_is items), refl)

begun_later : (bytes : List ℕ) (turns : List (List Item)) (rest : List ℕ) (n : ℕ) (config : Config) → AllByRecursion (IsScheduleLine config) turns → Begun bytes (flat_map schedule_line turns ++ rest) n (Turns config) → Begun bytes rest (n + length turns) (Turns config)
begun_later bytes [] rest n config in_range begun = subst (λ (some_count : ℕ). Begun bytes rest some_count (Turns config)) (zero_more n) begun
  where
    zero_more : (count : ℕ) → count ≡ count + 0
    zero_more count = omega arith
begun_later bytes (items ∷ turns) rest n config in_range begun =
    let others = flat_map schedule_line turns ++ rest in
    let front : flat_map schedule_line (items ∷ turns) ++ rest ≡ schedule_line items ++ others = ap (λ (some_text : List ℕ). some_text ++ rest) (flat_map-cons schedule_line items turns) ∙ append_assoc (schedule_line items) (flat_map schedule_line turns) rest in
    let turn_begun = begun_turn bytes items others n 1 config true in_range.0 (subst (λ (some_bytes : List ℕ). Begun bytes some_bytes n (Turns config)) front begun) in
    subst (λ (some_count : ℕ). Begun bytes rest some_count (Turns config)) (one_less n (length turns)) (begun_later bytes turns rest (n + 1) config in_range.1 turn_begun)
  where
    one_less : (count turn_count : ℕ) → (count + 1) + turn_count ≡ count + suc turn_count
    one_less count turn_count = omega arith

pub begun_turns : (bytes : List ℕ) (turns : List (List Item)) (rest : List ℕ) (n : ℕ) (version : ℕ) (config : Config) → AllByRecursion (IsScheduleLine config) turns → Begun bytes (flat_map schedule_line turns ++ rest) n (Commands version config) → Begun bytes rest (n + length turns) (body_stage version config (ltb 0 (length turns)))
begun_turns bytes [] rest n version config in_range begun = subst (λ (some_count : ℕ). Begun bytes rest some_count (Commands version config)) (zero_more n) begun
  where
    zero_more : (count : ℕ) → count ≡ count + 0
    zero_more count = omega arith
begun_turns bytes (items ∷ turns) rest n version config in_range begun =
    let others = flat_map schedule_line turns ++ rest in
    let front : flat_map schedule_line (items ∷ turns) ++ rest ≡ schedule_line items ++ others = ap (λ (some_text : List ℕ). some_text ++ rest) (flat_map-cons schedule_line items turns) ∙ append_assoc (schedule_line items) (flat_map schedule_line turns) rest in
    let turn_begun = begun_turn bytes items others n version config false in_range.0 (subst (λ (some_bytes : List ℕ). Begun bytes some_bytes n (Commands version config)) front begun) in
    let later : Begun bytes rest (n + suc (length turns)) (Turns config) = subst (λ (some_count : ℕ). Begun bytes rest some_count (Turns config)) (one_less n (length turns)) (begun_later bytes turns rest (n + 1) config in_range.1 turn_begun) in
    subst (λ (has_turns : Bool). Begun bytes rest (n + suc (length turns)) (body_stage version config has_turns)) (sym (is_some (length turns))) later
  where
    is_some : (turn_count : ℕ) → ltb 0 (suc turn_count) ≡ true
    is_some turn_count = grind (arith, nat_tests)

    one_less : (count turn_count : ℕ) → (count + 1) + turn_count ≡ count + suc turn_count
    one_less count turn_count = omega arith

-- ---- the head, line by line

-- what is behind the first line, where it has an end
abbrev pub IsBehindLine : List ℕ → List ℕ → Type 0
IsBehindLine bytes rest = (text : List ℕ) × ((parts 10 bytes ≡ text ∷ []) ⊎ (parts 10 bytes ≡ text ∷ parts 10 rest))

pub version_read : (bytes rest : List ℕ) → IsBehindLine bytes rest → cause_of Version (parts 10 bytes) ≡ None → (version : ℕ) × IsVersion version × Begun bytes rest 1 (Heap version) × (bytes ≡ titled (codes "shen") (version ∷ []) ++ rest)
version_read bytes rest behind_line no_cause =
    let read = line_of Version bytes rest behind_line.0 behind_line.1 refl no_cause in
    let made = version_spelled behind_line.0 read.1 in
    let read_version = made.0 in
    let split_bytes = bytes_of_line bytes behind_line.0 rest read.0 in (
      read_version,
      made.1,
      begun_more bytes behind_line.0 rest 0 Version (Heap read_version) (subst (λ (some_bytes : List ℕ). Begun bytes some_bytes 0 Version) split_bytes (begun_none bytes)) (read_version, made.1, made.2, refl),
      split_bytes ∙ front_line behind_line.0 (titled (codes "shen") (read_version ∷ [])) rest made.2,
    )

pub heap_read : (version : ℕ) (bytes heap_line rest : List ℕ) → Begun bytes heap_line 1 (Heap version) → IsBehindLine heap_line rest → cause_of (Heap version) (parts 10 heap_line) ≡ None
    → (config : Config) × IsNarrow config × Begun bytes rest 2 (Threads version config.regions config.region_words config.reserve) × (heap_line ≡ titled (codes "heap") (config.regions ∷ config.region_words ∷ config.reserve ∷ []) ++ rest)
heap_read version bytes heap_line rest begun behind_line no_cause =
    let read = line_of (Heap version) heap_line rest behind_line.0 behind_line.1 refl no_cause in
    let made = heap_spelled version behind_line.0 read.1 in
    let read_config = made.0 in
    let split_bytes = bytes_of_line heap_line behind_line.0 rest read.0 in (
      read_config,
      made.1,
      begun_more bytes behind_line.0 rest 1 (Heap version) (Threads version read_config.regions read_config.region_words read_config.reserve) (subst (λ (some_bytes : List ℕ). Begun bytes some_bytes 1 (Heap version)) split_bytes begun) (read_config, made.1, made.2, refl),
      split_bytes ∙ front_line behind_line.0 (titled (codes "heap") (read_config.regions ∷ read_config.region_words ∷ read_config.reserve ∷ [])) rest made.2,
    )

pub threads_read : (version : ℕ) (config : Config) (threads_line : List ℕ) → IsNarrow config → cause_of (Threads version config.regions config.region_words config.reserve) (parts 10 threads_line) ≡ None
    → (read_config : Config) × IsNarrow read_config × (rest : List ℕ) × (titled (codes "heap") (config.regions ∷ config.region_words ∷ config.reserve ∷ []) ≡ titled (codes "heap") (read_config.regions ∷ read_config.region_words ∷ read_config.reserve ∷ [])) × (threads_line ≡ titled (codes "threads") (read_config.mutators ∷ read_config.helpers ∷ []) ++ rest)
threads_read version config threads_line narrow no_cause =
    let behind_line = first_line threads_line in
    let stage = Threads version config.regions config.region_words config.reserve in
    let read = line_of stage threads_line behind_line.1 behind_line.0 behind_line.2 refl no_cause in
    let made = threads_spelled version config.regions config.region_words config.reserve config behind_line.0 refl refl refl read.1 in
    let made_config = made.0 in (
      made_config,
      omega (arith, narrow, made.2),
      behind_line.1,
      ap (λ (some_regions : ℕ). titled (codes "heap") (some_regions ∷ config.region_words ∷ config.reserve ∷ [])) (sym made.1) ∙ ap (λ (some_words : ℕ). titled (codes "heap") (made_config.regions ∷ some_words ∷ config.reserve ∷ [])) (sym made.2) ∙ ap (λ (some_reserve : ℕ). titled (codes "heap") (made_config.regions ∷ made_config.region_words ∷ some_reserve ∷ [])) (sym made.3),
      bytes_of_line threads_line behind_line.0 behind_line.1 read.0 ∙ front_line behind_line.0 (titled (codes "threads") (made_config.mutators ∷ made_config.helpers ∷ [])) behind_line.1 made.4,
    )

pub head_read : (bytes heap_bytes second rest : List ℕ) (version : ℕ) (config read_config : Config) → bytes ≡ titled (codes "shen") (version ∷ []) ++ heap_bytes → heap_bytes ≡ titled (codes "heap") (config.regions ∷ config.region_words ∷ config.reserve ∷ []) ++ second
    → titled (codes "heap") (config.regions ∷ config.region_words ∷ config.reserve ∷ []) ≡ titled (codes "heap") (read_config.regions ∷ read_config.region_words ∷ read_config.reserve ∷ []) → second ≡ titled (codes "threads") (read_config.mutators ∷ read_config.helpers ∷ []) ++ rest → bytes ≡ header version read_config ++ rest
head_read bytes heap_bytes second rest version config read_config first_is second_is same_heap_line third_is =
    let shen = titled (codes "shen") (version ∷ []) in
    let heap = titled (codes "heap") (read_config.regions ∷ read_config.region_words ∷ read_config.reserve ∷ []) in
    let threads = titled (codes "threads") (read_config.mutators ∷ read_config.helpers ∷ []) in
    first_is ∙ ap (λ (some_text : List ℕ). shen ++ some_text) (second_is ∙ ap (λ (some_text : List ℕ). some_text ++ second) same_heap_line ∙ ap (λ (some_text : List ℕ). heap ++ some_text) third_is ∙ sym (append_assoc heap threads rest)) ∙ sym (append_assoc shen (heap ++ threads) rest)
