-- Where nothing fails, the statuses that are left by what the words ask for: where that reads a trace and one comes, and where it
-- reads nothing.
use Rattle.std.proofs.Common.{◌≡◌, ◌⊎◌, inl, inr, ℕ, ◌≤◌, List, [], ◌++◌, length, Option, Some, None, refl, sym, ap, subst, ◌∙◌, arith}
use Rattle.std.specs.Io.KnownBytes.{Consumes, IsAtEnd}
use Rattle.std.proofs.lemmas.List.{length-append, append-nil}
use Rattle.shen_base.specs.Count.{Rose}
use Rattle.trace_reading.specs.Grammar.{most_bytes, Came}
use Rattle.trace_reading.specs.declared.why.Why.{Why}
use Rattle.trace_reading.proofs.Exact.{never_both}
use Rattle.trace_text.proofs.PairLaws as pair
use Rattle.heap_dump.proofs.Reread as reread
use Rattle.heap_words.specs.declared.config.Config.{Config}
use Rattle.shen_graph.specs.GraphText.{Text}
use Rattle.graph_placing.specs.ByName.{Fits}
use Rattle.heap_dump.specs.Dumped.{Dumped, dumped}
use Rattle.trace_runs.specs.declared.mode.Mode.{Mode}
use Rattle.trace_runs.specs.declared.mode.Mode.TheVariants.{Replay, Noted, Dump, Resume, Run, Churn, Queue, Check}
use Rattle.trace_runs.specs.declared.status.Status.{Status}
use Rattle.trace_runs.specs.declared.status.Status.TheVariants.{Ok, BadWords, BadTrace, Unfinished, ReadFault, WriteFault, NoMemory}
use Rattle.trace_runs.specs.Words.{Asked}
use Rattle.trace_runs.specs.Readings.{Reading, ReadNothing, ReadTrace, ReadPair, ReadDump, reading_of, ReadsInput, ReadsNothing, Takes, Refuses, IsTooLarge}
use Rattle.trace_runs.specs.Answered.{Input, Output, HasRead, bound_of, IsRefused, IsTooLong, IsTooSmallHeap, IsTurnedDown, StatusFits, IsTraceStatus}
use Rattle.trace_runs.proofs.Words.{one_reading, asks_alike}

-- what came from known bytes to their end is these bytes
came_all : (bytes came_bytes : List ℕ) (before after : Option (List ℕ)) → before ≡ Some bytes → Came before after came_bytes → came_bytes ≡ bytes
came_all bytes came_bytes before after known_bytes came = by_after after (subst (λ (found : Option (List ℕ)). Consumes found after came_bytes) known_bytes came.taken) came.at_end
  where
    by_after : (found : Option (List ℕ)) → Consumes (Some bytes) found came_bytes → IsAtEnd found → came_bytes ≡ bytes
    by_after None taken input_ended = absurd taken
    by_after (Some rest) taken input_ended = sym (taken ∙ ap (λ (read_bytes : List ℕ). came_bytes ++ read_bytes) input_ended ∙ append-nil came_bytes)

-- no more came than there was
came_short : (bytes came_bytes : List ℕ) (before after : Option (List ℕ)) → before ≡ Some bytes → Consumes before after came_bytes → length came_bytes ≤ length bytes
came_short bytes came_bytes before after known_bytes taken = by_after after (subst (λ (found : Option (List ℕ)). Consumes found after came_bytes) known_bytes taken)
  where
    by_after : (found : Option (List ℕ)) → Consumes (Some bytes) found came_bytes → length came_bytes ≤ length bytes
    by_after None taken = absurd taken
    by_after (Some rest) taken = omega (arith, ap length taken, length-append came_bytes rest)

-- bytes that are read are not too many, and are neither refused nor too large
takes_few : (reading : Reading) (bytes : List ℕ) → Takes reading bytes → length bytes ≤ most_bytes
takes_few ReadNothing bytes takes = absurd takes
takes_few ReadTrace bytes takes = takes.4.short
takes_few ReadPair bytes takes = takes.6.short
takes_few ReadDump bytes takes = takes.0.resumes.short

takes_or_refuses : (reading : Reading) (bytes : List ℕ) (line_number : ℕ) (reason : Why) → Takes reading bytes → Refuses reading bytes line_number reason → ⊥
takes_or_refuses ReadNothing bytes line_number reason takes refuses = takes
takes_or_refuses ReadTrace bytes line_number reason takes refuses = never_both bytes takes.0 takes.1 takes.2 takes.3 line_number reason takes.4 refuses.0
takes_or_refuses ReadPair bytes line_number reason takes refuses = pair.never_both bytes takes.0 takes.1 takes.2 takes.3 takes.4 takes.5 line_number reason takes.6 refuses
takes_or_refuses ReadDump bytes line_number reason takes refuses =
    let read = takes.0 in
    reread.never_both bytes (dumped read.config read.counts read.graph) read.scripts read.items line_number reason read.resumes refuses.0

-- two readings of bytes are of one dump, and so fit alike
fits_alike : (config other_config : Config) (first_counts second_counts : List ℕ) (text other_text : Text) → dumped config first_counts text ≡ dumped other_config second_counts other_text → Fits config text → Fits other_config other_text
fits_alike config other_config first_counts second_counts text other_text same_dump fits =
    subst (λ (dump : Dumped). Fits dump.config (record { rows = dump.rows; roots = dump.roots; pins = []; spare = 0; room = 0 })) same_dump fits

takes_or_large : (reading : Reading) (bytes : List ℕ) → Takes reading bytes → IsTooLarge reading bytes → ⊥
takes_or_large ReadNothing bytes takes bytes_too_large = takes
takes_or_large ReadTrace bytes takes bytes_too_large = bytes_too_large
takes_or_large ReadPair bytes takes bytes_too_large = bytes_too_large
takes_or_large ReadDump bytes takes bytes_too_large =
    let bytes_taken = takes.0 in
    let read = bytes_too_large.read in
    let same_reading = reread.read_once bytes (dumped bytes_taken.config bytes_taken.counts bytes_taken.graph) (dumped read.config read.counts read.graph) bytes_taken.scripts read.scripts bytes_taken.items read.items bytes_taken.resumes read.resumes in
    bytes_too_large.too_large (fits_alike bytes_taken.config read.config bytes_taken.counts read.counts bytes_taken.graph read.graph same_reading.dump takes.1)

not_turned_down : (reading : Reading) (input : Input) (output bytes : List ℕ) → Takes reading bytes → input.before ≡ Some bytes → IsTurnedDown reading input output → ⊥
not_turned_down reading input output bytes takes known_bytes down = by_cause down.1
  where
    all_came : (P : List ℕ → Type 0) → ((came_bytes : List ℕ) → Takes reading came_bytes → P came_bytes → ⊥) → HasRead input P → ⊥
    all_came P never read = never read.bytes (subst (Takes reading) (sym (came_all bytes read.bytes input.before input.after known_bytes read.came)) takes) read.is

    by_cause : IsRefused reading input output ⊎ (IsTooLong input output ⊎ IsTooSmallHeap reading input output) → ⊥
    by_cause (inl bytes_refused) = all_came (λ came_bytes. Refuses reading came_bytes bytes_refused.number bytes_refused.why) (λ came_bytes takes_xs refuses. takes_or_refuses reading came_bytes bytes_refused.number bytes_refused.why takes_xs refuses) bytes_refused.refused
    by_cause (inr (inl too_long)) = absurd (omega (arith, came_short bytes too_long.bytes input.before input.after known_bytes too_long.taken, too_long.many, takes_few reading bytes takes))
    by_cause (inr (inr heap_too_small)) = all_came (IsTooLarge reading) (takes_or_large reading) heap_too_small.read

pub complete : (words : List (List ℕ)) (input : Input) (output : Output) (status : Status) → StatusFits words input output status
    → (bytes : List ℕ) → Asked words (λ mode. Takes (reading_of mode) bytes) → input.before ≡ Some bytes
    → (Rose input.faults_before input.faults_after → ⊥) → (Rose output.before.faults output.after.faults → ⊥) → IsTraceStatus words status
complete words input output Ok fits bytes mode_asked known_bytes read_fine written_fine = tt
complete words input output BadWords fits bytes mode_asked known_bytes read_fine written_fine = fits.allowed.0 (mode_asked.0, mode_asked.1)
complete words input output BadTrace fits bytes mode_asked known_bytes read_fine written_fine =
    let bad = fits.allowed in
    not_turned_down (reading_of bad.0) input fits.out bytes (subst (λ (reading : Reading). Takes reading bytes) (one_reading words mode_asked.0 bad.0 mode_asked.1 bad.1) mode_asked.2) known_bytes bad.2
complete words input output Unfinished fits bytes mode_asked known_bytes read_fine written_fine =
    let cut = fits.allowed in
    (cut.0, cut.1, (cut.2.steps, cut.2.limit))
complete words input output ReadFault fits bytes mode_asked known_bytes read_fine written_fine = read_fine fits.allowed.1
complete words input output WriteFault fits bytes mode_asked known_bytes read_fine written_fine = written_fine fits.failed
complete words input output NoMemory fits bytes mode_asked known_bytes read_fine written_fine = tt

-- a mode of which the steps are bounded reads something
limited_reads : (mode : Mode) (steps : ℕ) → bound_of mode ≡ Some steps → ReadsInput mode
limited_reads (Replay mode_steps) steps limited = tt
limited_reads (Noted mode_steps) steps limited = tt
limited_reads (Dump mode_steps) steps limited = tt
limited_reads (Resume mode_steps) steps limited = tt
limited_reads (Run workers) steps limited = tt
limited_reads (Churn load) steps limited = absurd cc
limited_reads (Queue count) steps limited = absurd cc
limited_reads Check steps limited = tt

reads_none : (words : List (List ℕ)) → Asked words ReadsNothing → Asked words ReadsInput → ⊥
reads_none words asks_nothing reads = asks_alike words reads.0 asks_nothing.0 reads.1 asks_nothing.1 reads.2 asks_nothing.2

pub made : (words : List (List ℕ)) (input : Input) (output : Output) (status : Status) → StatusFits words input output status → Asked words ReadsNothing → (Rose output.before.faults output.after.faults → ⊥)
    → (status ≡ Ok) ⊎ (status ≡ NoMemory)
made words input output Ok fits mode_asked written_fine = inl refl
made words input output BadWords fits mode_asked written_fine = absurd (fits.allowed.0 (mode_asked.0, mode_asked.1))
made words input output BadTrace fits mode_asked written_fine =
    let bad = fits.allowed in
    absurd (reads_none words mode_asked (bad.0, bad.1, bad.2.0))
made words input output Unfinished fits mode_asked written_fine =
    let cut = fits.allowed in
    absurd (asks_alike words cut.0 mode_asked.0 cut.1 mode_asked.1 (limited_reads cut.0 cut.2.steps cut.2.limit) mode_asked.2)
made words input output ReadFault fits mode_asked written_fine = absurd (reads_none words mode_asked fits.allowed.0)
made words input output WriteFault fits mode_asked written_fine = absurd (written_fine fits.failed)
made words input output NoMemory fits mode_asked written_fine = inr refl
