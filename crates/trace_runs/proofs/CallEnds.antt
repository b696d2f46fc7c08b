-- From the end of a writing call to what the program answers.
use Rattle.std.proofs.Common.{◌≡◌, ◌⊎◌, ℕ, ◌≤◌, List, ◌++◌, length, refl, sym, ap, subst, ◌∙◌, append_assoc, inl, inr, arith}
use Rattle.std.proofs.KnownBytes.{Appends-trans}
use Rattle.std.proofs.lemmas.List.{length-append}
use Rattle.std.specs.Io.KnownBytes.{Appends}
use Rattle.shen_base.specs.Count.{Rose, CalledAtMost}
use Rattle.shen_base.specs.Sending.{Outlet, WritesFront}
use Rattle.trace_runs.specs.declared.status.Status.{Status}
use Rattle.trace_runs.specs.declared.status.Status.TheVariants.{Ok, BadWords, BadTrace, Unfinished, ReadFault, WriteFault, NoMemory}
use Rattle.trace_runs.specs.Answered.{Allows, Input, Output, IsWritten, StatusFits, HasAnswered}
use Rattle.trace_runs.specs.CallEnds.{EndsWith}

-- a text that goes with a status and was written fits it: none goes with a write fault
written_fits : (words : List (List ℕ)) (input : Input) (output : Output) (status : Status) → IsWritten words input output status → StatusFits words input output status
written_fits words input output Ok written = written
written_fits words input output BadWords written = written
written_fits words input output BadTrace written = written
written_fits words input output Unfinished written = written
written_fits words input output ReadFault written = written
written_fits words input output WriteFault written = absurd written.allowed
written_fits words input output NoMemory written = written

-- a text that goes with a status was written, or the sink failed
pub said : (words : List (List ℕ)) (input : Input) (output : Output) (text : List ℕ) (status result : Status) → Allows words input status text
    → EndsWith text status result output.before output.after → StatusFits words input output result
said words input output text status result allowed ends = by_end ends.written
  where
    by_end : ((result ≡ status) × Appends output.before.written output.after.written text) ⊎ ((result ≡ WriteFault) × Rose output.before.faults output.after.faults × WritesFront output.before output.after text)
        → StatusFits words input output result
    by_end (inl whole_text) =
        subst (StatusFits words input output) (sym whole_text.0)
        (written_fits words input output status (record { out = text; allowed = allowed; appended = whole_text.1; few_calls = ends.few_calls }))
    by_end (inr front) =
        subst (StatusFits words input output) (sym front.0)
        (record { failed = front.1; status = status; out = text; allowed = allowed; front = front.2; few_calls = ends.few_calls })

-- the row of Ok is the headline
pub answered : (words : List (List ℕ)) (input : Input) (output : Output) (result : Status) → StatusFits words input output result → result ≡ Ok → HasAnswered words input output
answered words input output result fits result_ok = record { mode = w.allowed.0; asked = w.allowed.1; out = w.out; answer = w.allowed.2; written = w.appended }
  where
    w : IsWritten words input output Ok
    w = subst (StatusFits words input output) result_ok fits

-- ---- one text behind another

rose_after : (before middle after : ℕ) → before ≤ middle → Rose middle after → Rose before after
rose_after before middle after rose_before rose = grind arith

-- a front of the first text is one of both
pub front_of_first : (before after : Outlet) (text later_text : List ℕ) → WritesFront before after text → WritesFront before after (text ++ later_text)
front_of_first before after text later_text front = record {
  sent = front.sent;
  rest = front.rest ++ later_text;
  appended = front.appended;
  split = sym (append_assoc front.sent front.rest later_text) ∙ ap (λ (some_text : List ℕ). some_text ++ later_text) front.split;
  few_calls = front.few_calls;
}

-- so is the first text with a front of the second
pub front_of_second : (before middle after : Outlet) (first_text text : List ℕ) → Appends before.written middle.written first_text → CalledAtMost (length first_text) before.calls middle.calls → WritesFront middle after text → WritesFront before after (first_text ++ text)
front_of_second before middle after first_text text first_appended few front =
    let front_length = length-append first_text front.sent in
    let few_more = front.few_calls in
    record {
      sent = first_text ++ front.sent;
      rest = front.rest;
      appended = Appends-trans before.written middle.written after.written first_text front.sent first_appended front.appended;
      split = append_assoc first_text front.sent front.rest ∙ ap (λ (some_text : List ℕ). first_text ++ some_text) front.split;
      few_calls = omega (arith, front_length, few_more, few);
    }

-- the sink failed in the first text
pub ends_in_first : (before after : Outlet) (text later_text : List ℕ) (status : Status) → WritesFront before after text → Rose before.faults after.faults → CalledAtMost (length text) before.calls after.calls → EndsWith (text ++ later_text) status WriteFault before after
ends_in_first before after text later_text status front rose few =
    let text_length = length-append text later_text in
    record { written = inr (refl, rose, front_of_first before after text later_text front); few_calls = omega (arith, text_length, few) }

-- the sink failed in the second one
pub ends_in_second : (before middle after : Outlet) (first_text text : List ℕ) (status : Status) → before.faults ≤ middle.faults → Appends before.written middle.written first_text → CalledAtMost (length first_text) before.calls middle.calls
    → WritesFront middle after text → Rose middle.faults after.faults → CalledAtMost (length text) middle.calls after.calls → EndsWith (first_text ++ text) status WriteFault before after
ends_in_second before middle after first_text text status never_fell first_appended few front rose few_more =
    let text_length = length-append first_text text in
    record { written = inr (refl, rose_after before.faults middle.faults after.faults never_fell rose, front_of_second before middle after first_text text first_appended few front); few_calls = omega (arith, text_length, few_more, few) }
