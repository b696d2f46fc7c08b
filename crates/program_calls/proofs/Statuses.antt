-- From the end of a writing call to what the status tells.
use Rattle.std.proofs.Common.{◌≡◌, ◌≢◌, ◌⊎◌, ℕ, ◌+◌, ◌<◌, Bool, true, false, List, codes, length, Result, Err, refl, sym, ap, ◌∙◌, subst, inl, inr}
use Rattle.std.specs.Prelude.{IfErr}
use Rattle.std.specs.Io.KnownBytes.{Appends, Consumes}
use Rattle.heap_words.specs.declared.config.Config.{Config}
use Rattle.heap_words.specs.declared.schedule.Item.{Item}
use Rattle.shen_base.specs.Count.{Rose}
use Rattle.step_core.specs.Schedule.{Scripts}
use Rattle.shen_base.specs.Sending.{Outlet, WritesFront}
use Rattle.trace_reading.specs.Grammar.{most_bytes, Reads, Came}
use Rattle.trace_reading.specs.declared.why.Why.{Why}
use Rattle.trace_reading.specs.declared.fault.TraceFault.{TraceFault}
use Rattle.trace_reading.specs.declared.fault.TraceFault.TheVariants as fault
use Rattle.trace_reading.specs.Faults.{IsTextFault}
use Rattle.trace_reading.specs.Refused.{Refused}
use Rattle.trace_text.specs.Message.{line_text}
use Rattle.trace_text.specs.declared.message.Line.TheVariants as line
use Rattle.trace_runs.specs.Answered.{Input, Output, HasRead, SaysLine}
use Rattle.trace_runs.specs.CallEnds.{EndsWith}
use Rattle.trace_runs.specs.Faults.{fault_line, fault_status}
use Rattle.trace_runs.specs.declared.status.Status.{Status}
use Rattle.trace_runs.specs.declared.status.Status.TheVariants.{Ok, BadWords, Unfinished, WriteFault, NoMemory}
use Rattle.program_calls.specs.Noted.{IsNotedRun}
use Rattle.program_calls.specs.NoteTellings.{IsTrace, NotingTells}

-- a line among the errors ends so with the status that it goes with, or the errors failed
line_tells : (text : List ℕ) (status result : Status) (input : Input) (sink errors : Output) → EndsWith text status result errors.before errors.after → sink.after ≡ sink.before
    → (SaysLine text sink errors → NotingTells status input sink errors) → NotingTells result input sink errors
line_tells text status result input sink errors ends sink_kept tells = by_end ends.written
  where
    by_end : ((result ≡ status) × Appends errors.before.written errors.after.written text) ⊎ ((result ≡ WriteFault) × Rose errors.before.faults errors.after.faults × WritesFront errors.before errors.after text)
        → NotingTells result input sink errors
    by_end (inl whole_line) = subst (λ given_status. NotingTells given_status input sink errors) (sym whole_line.0) (tells (record { kept = sink_kept; written = whole_line.1 }))
    by_end (inr front) = subst (λ given_status. NotingTells given_status input sink errors) (sym front.0) (inr front.1)

-- the sink or the errors, which nothing was written to
abbrev kept : Outlet → Output
kept outlet = record { before = outlet; after = outlet }

abbrev over : Outlet → Outlet → Output
over before after = record { before = before; after = after }

pub words_tell : (result : Status) (input : Input) (sink before after : Outlet) → EndsWith (line_text line.BadWords) BadWords result before after → NotingTells result input (kept sink) (over before after)
words_tell result input sink before after ends = line_tells (line_text line.BadWords) BadWords result input (kept sink) (over before after) ends refl (λ says. says)

pub memory_tells : (result : Status) (input : Input) (sink before after : Outlet) → EndsWith (line_text line.NoMemory) NoMemory result before after → NotingTells result input (kept sink) (over before after)
memory_tells result input sink before after ends = line_tells (line_text line.NoMemory) NoMemory result input (kept sink) (over before after) ends refl (λ says. says)

-- a trace came
came_whole : (input : Input) (bytes : List ℕ) (version : ℕ) (config : Config) (scripts : Scripts) (items : List Item) → Came input.before input.after bytes → Reads bytes version config scripts items → HasRead input IsTrace
came_whole input bytes version config scripts items came reads = record { bytes = bytes; came = came; is = (version, config, scripts, items, reads) }

pub long_tells : (result : Status) (input : Input) (sink before after : Outlet) (bytes : List ℕ) (version : ℕ) (config : Config) (scripts : Scripts) (items : List Item) → Came input.before input.after bytes → Reads bytes version config scripts items
    → EndsWith (codes "too many steps to note them\n") Unfinished result before after → NotingTells result input (kept sink) (over before after)
long_tells result input sink before after bytes version config scripts items came reads ends =
    line_tells (codes "too many steps to note them\n") Unfinished result input (kept sink) (over before after) ends refl
    (λ says. record { read = came_whole input bytes version config scripts items came reads; says = inl says })

pub other_tells : (result : Status) (input : Input) (sink before after : Outlet) (bytes : List ℕ) (version : ℕ) (config : Config) (scripts : Scripts) (items : List Item) → Came input.before input.after bytes → Reads bytes version config scripts items
    → EndsWith (codes "the replay has another answer\n") Unfinished result before after → NotingTells result input (kept sink) (over before after)
other_tells result input sink before after bytes version config scripts items came reads ends =
    line_tells (codes "the replay has another answer\n") Unfinished result input (kept sink) (over before after) ends refl
    (λ says. record { read = came_whole input bytes version config scripts items came reads; says = inr says })

-- a noted trace was written into the sink
pub trace_tells : (result : Status) (input : Input) (errors before after : Outlet) (bytes text written_text : List ℕ) → Came input.before input.after bytes → IsNotedRun bytes text → written_text ≡ text → EndsWith written_text Ok result before after
    → NotingTells result input (over before after) (kept errors)
trace_tells result input errors before after bytes text written_text came noted same_text ends = by_end (subst (λ text. EndsWith text Ok result before after) same_text ends).written
  where
    by_end : ((result ≡ Ok) × Appends before.written after.written text) ⊎ ((result ≡ WriteFault) × Rose before.faults after.faults × WritesFront before after text)
        → NotingTells result input (over before after) (kept errors)
    by_end (inl whole_text) =
        subst (λ status. NotingTells status input (over before after) (kept errors)) (sym whole_text.0)
        (record { text = text; noted = record { bytes = bytes; came = came; is = noted }; written = whole_text.1; silent = refl })
    by_end (inr front) = subst (λ status. NotingTells status input (over before after) (kept errors)) (sym front.0) (inl front.1)

-- what is known of a source where no trace was read
abbrev IsFaultOf : Input → TraceFault → Type 0
IsFaultOf input (fault.BadLine number why) = HasRead input (λ bytes. Refused bytes number why)
IsFaultOf input (fault.TooLong count) = (bytes : List ℕ) × Consumes input.before input.after bytes × (length bytes ≡ most_bytes + 1)
IsFaultOf input fault.ReadFault = Rose input.faults_before input.faults_after
IsFaultOf input fault.NoMemory = Unit {0}

-- the line of a fault goes with its status
fault_tells : (found_fault : TraceFault) (result : Status) (input : Input) (sink before after : Outlet) → IsFaultOf input found_fault → EndsWith (line_text (fault_line found_fault)) (fault_status found_fault) result before after
    → NotingTells result input (kept sink) (over before after)
fault_tells found_fault result input sink before after tells_fault ends = line_tells (line_text (fault_line found_fault)) (fault_status found_fault) result input (kept sink) (over before after) ends refl (by_fault found_fault tells_fault)
  where
    by_fault : (found_fault : TraceFault) → IsFaultOf input found_fault → SaysLine (line_text (fault_line found_fault)) (kept sink) (over before after) → NotingTells (fault_status found_fault) input (kept sink) (over before after)
    by_fault (fault.BadLine number why) fault_known says = inl (record { number = number; why = why; read = fault_known; says = says })
    by_fault (fault.TooLong count) fault_known says = inr (record { bytes = fault_known.0; taken = fault_known.1; many = fault_known.2; says = says })
    by_fault fault.ReadFault fault_known says = (fault_known, says)
    by_fault fault.NoMemory fault_known says = says

-- of the bytes, which were not read
pub unread_tells : {X : Type 0} (read : Result X TraceFault) (found_fault : TraceFault) (result : Status) (input : Input) (sink before after : Outlet) → read ≡ Err found_fault
    → ((byte_count : ℕ) → read ≡ Err (fault.TooLong byte_count) → (byte_count ≡ most_bytes + 1) × ((bytes : List ℕ) × Consumes input.before input.after bytes × (length bytes ≡ most_bytes + 1)))
    → (read ≡ Err fault.ReadFault → Rose input.faults_before input.faults_after)
    → ((byte_count : ℕ) (why : Why) → read ≢ Err (fault.BadLine byte_count why))
    → EndsWith (line_text (fault_line found_fault)) (fault_status found_fault) result before after → NotingTells result input (kept sink) (over before after)
unread_tells {X} read found_fault result input sink before after too_long read_failed failed never ends = fault_tells found_fault result input sink before after (by_fault found_fault too_long) ends
  where
    by_fault : (found_fault : TraceFault) → read ≡ Err found_fault → IsFaultOf input found_fault
    by_fault (fault.BadLine number why) read_told = absurd (never number why read_told)
    by_fault (fault.TooLong count) read_told = (read_failed count read_told).1
    by_fault fault.ReadFault read_told = failed read_told
    by_fault fault.NoMemory read_told = tt

-- of the trace that the bytes are not
pub refused_tells : {X : Type 0} (read : Result X TraceFault) (found_fault : TraceFault) (result : Status) (input : Input) (sink before after : Outlet) (bytes : List ℕ) → read ≡ Err found_fault → Came input.before input.after bytes
    → IfErr read IsTextFault → ((line_number : ℕ) (why : Why) → read ≡ Err (fault.BadLine line_number why) → Refused bytes line_number why)
    → EndsWith (line_text (fault_line found_fault)) (fault_status found_fault) result before after → NotingTells result input (kept sink) (over before after)
refused_tells {X} read found_fault result input sink before after bytes bytes_came came refused_text refused ends = fault_tells found_fault result input sink before after (by_fault found_fault bytes_came (subst (λ read_text. IfErr read_text IsTextFault) bytes_came refused_text)) ends
  where
    by_fault : (found_fault : TraceFault) → read ≡ Err found_fault → IsTextFault found_fault → IsFaultOf input found_fault
    by_fault (fault.BadLine number why) read_told of_text = record { bytes = bytes; came = came; is = refused number why read_told }
    by_fault (fault.TooLong count) read_told of_text = absurd of_text
    by_fault fault.ReadFault read_told of_text = absurd of_text
    by_fault fault.NoMemory read_told of_text = tt

-- ---- words are refused where there are words

abbrev pub is_words : Status → Bool
is_words BadWords = true
is_words _ = false

-- what ends with another status does not say that words are refused
pub not_words : (text : List ℕ) (status result : Status) (before after : Outlet) (count : ℕ) → EndsWith text status result before after → is_words status ≡ false → result ≡ BadWords → 0 < count
not_words text status result before after count ends other_status words_refused = by_end ends.written
  where
    by_end : ((result ≡ status) × Appends before.written after.written text) ⊎ ((result ≡ WriteFault) × Rose before.faults after.faults × WritesFront before after text) → 0 < count
    by_end (inl whole_text) = absurd (let impossible : true ≡ false = ap is_words (sym words_refused ∙ whole_text.0) ∙ other_status in cc)
    by_end (inr front) = absurd (let impossible : true ≡ false = ap is_words (sym words_refused ∙ front.0) in cc)

-- nor does what ends with the status of a fault
pub fault_no_words : (found_fault : TraceFault) (text : List ℕ) (result : Status) (before after : Outlet) (count : ℕ) → EndsWith text (fault_status found_fault) result before after → result ≡ BadWords → 0 < count
fault_no_words found_fault text result before after count ends words_refused = not_words text (fault_status found_fault) result before after count ends (by_fault found_fault) words_refused
  where
    by_fault : (found_fault : TraceFault) → is_words (fault_status found_fault) ≡ false
    by_fault (fault.BadLine number why) = refl
    by_fault (fault.TooLong bytes) = refl
    by_fault fault.ReadFault = refl
    by_fault fault.NoMemory = refl
