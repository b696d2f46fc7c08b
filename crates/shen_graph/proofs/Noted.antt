-- Work after a reply was noted.
use Rattle.std.proofs.Common.{◌≡◌, ◌≢◌, ◌<◌, ◌≤◌, ⊎_elim, ℕ, List, [], ◌∷◌, ◌++◌, length, Option, Some, None, refl, sym, ap, ◌∙◌, subst}
use Rattle.std.specs.Prelude.{IsSome, unwrap_or}
use Rattle.std.proofs.lemmas.List.{get_or-set_same, get_or-set_other, get_or_past}
use Rattle.std.proofs.lemmas.Bool.{false≢true, cases_eq, cases_lt}
use Rattle.shen_graph.specs.declared.command.Reply.{Reply}
use Rattle.shen_graph.specs.Work.{Progress, HasScript, progress_of, script_in, replies_of, with_reply, begun, answered}

-- a script that is there lies in the work
pub has_within : (jobs : List (Option Progress)) (number : ℕ) → HasScript jobs number → number < length jobs
has_within jobs number has_script = ⊎_elim
    (λ (number_within : number < length jobs). number_within)
    (λ (number_past : length jobs ≤ number). absurd (let no_progress : progress_of jobs number ≡ None = get_or_past jobs number None number_past in false≢true (subst (λ progress. IsSome progress) no_progress has_script)))
    (cases_lt number (length jobs))

-- the progress of a script after a reply
pub progress_same : (jobs : List (Option Progress)) (number : ℕ) (reply : Reply) → HasScript jobs number → progress_of (with_reply jobs number reply) number ≡ Some (answered (unwrap_or (progress_of jobs number) (begun [])) reply)
progress_same jobs number reply has_script = get_or-set_same jobs number _ None (has_within jobs number has_script)

-- that of another
pub progress_other : (jobs : List (Option Progress)) (number : ℕ) (reply : Reply) (asked_number : ℕ) → asked_number ≢ number → progress_of (with_reply jobs number reply) asked_number ≡ progress_of jobs asked_number
progress_other jobs number reply asked_number numbers_differ = get_or-set_other jobs number asked_number _ None numbers_differ

-- scripts stay
pub script_kept : (jobs : List (Option Progress)) (number : ℕ) (reply : Reply) (asked_number : ℕ) → HasScript jobs number → script_in (with_reply jobs number reply) asked_number ≡ script_in jobs asked_number
script_kept jobs number reply asked_number has_script = ⊎_elim
    (λ (same_number : asked_number ≡ number). subst (λ some_number. script_in (with_reply jobs number reply) some_number ≡ script_in jobs some_number) (sym same_number)
    (ap (λ progress. (unwrap_or progress (begun [])).script) (progress_same jobs number reply has_script)))
    (λ (numbers_differ : asked_number ≡ number → ⊥). ap (λ progress. (unwrap_or progress (begun [])).script) (progress_other jobs number reply asked_number numbers_differ))
    (cases_eq asked_number number)

-- its replies are one more
pub replies_same : (jobs : List (Option Progress)) (number : ℕ) (reply : Reply) → HasScript jobs number → replies_of (with_reply jobs number reply) number ≡ replies_of jobs number ++ reply ∷ []
replies_same jobs number reply has_script = ap (λ progress. (unwrap_or progress (begun [])).replies) (progress_same jobs number reply has_script)

-- those of another stay
pub replies_other : (jobs : List (Option Progress)) (number : ℕ) (reply : Reply) (asked_number : ℕ) → asked_number ≢ number → replies_of (with_reply jobs number reply) asked_number ≡ replies_of jobs asked_number
replies_other jobs number reply asked_number numbers_differ = ap (λ progress. (unwrap_or progress (begun [])).replies) (progress_other jobs number reply asked_number numbers_differ)

-- no script is lost
pub script_stays : (jobs : List (Option Progress)) (number : ℕ) (reply : Reply) (asked_number : ℕ) → HasScript jobs number → HasScript jobs asked_number → HasScript (with_reply jobs number reply) asked_number
script_stays jobs number reply asked_number has_script asked_script = ⊎_elim
    (λ (same_number : asked_number ≡ number). subst (λ some_number. HasScript (with_reply jobs number reply) some_number) (sym same_number) (subst (λ progress. IsSome progress) (sym (progress_same jobs number reply has_script)) refl))
    (λ (numbers_differ : asked_number ≡ number → ⊥). subst (λ progress. IsSome progress) (sym (progress_other jobs number reply asked_number numbers_differ)) asked_script)
    (cases_eq asked_number number)

-- and none joins
pub none_stays : (jobs : List (Option Progress)) (number : ℕ) (reply : Reply) (asked_number : ℕ) → HasScript jobs number → progress_of jobs asked_number ≡ None → progress_of (with_reply jobs number reply) asked_number ≡ None
none_stays jobs number reply asked_number has_script no_progress = progress_other jobs number reply asked_number
    (λ same_number. false≢true (subst (λ progress. IsSome progress) (ap (progress_of jobs) (sym same_number) ∙ no_progress) has_script)) ∙ no_progress
