-- What the work has for a mutator, before and after a reply is noted.
use Rattle.std.proofs.Common.{◌≡◌, ⊎_elim, ℕ, [], length, Some, None, Option, refl, sym, ap, ◌∙◌, subst}
use Rattle.std.specs.Prelude.{slice_get, IsSome, unwrap_or, is_some}
use Rattle.std.proofs.lemmas.Bool.{false≢true, cases_eq}
use Rattle.shen_graph.specs.declared.command.Reply.{Reply}
use Rattle.shen_graph.specs.Work.{Progress, HasScript, progress_of, script_in, replies_of, next_of, begun, answered, with_reply}
use Rattle.shen_graph.proofs.Noted.{progress_same, progress_other}
use Rattle.table_heap.specs.Running.{Jobs}

-- what the work has for a number, by its progress there
module _ (jobs : Jobs) (number : ℕ) (progress : Progress) (has_progress : progress_of jobs number ≡ Some progress) where
  pub has_here : HasScript jobs number
  has_here = subst (λ progress. IsSome progress) (sym has_progress) refl

  pub script_here : script_in jobs number ≡ progress.script
  script_here = ap (λ progress_found. (unwrap_or progress_found (begun [])).script) has_progress

  pub replies_here : replies_of jobs number ≡ progress.replies
  replies_here = ap (λ progress_found. (unwrap_or progress_found (begun [])).replies) has_progress

  pub next_here : next_of jobs number ≡ slice_get progress.script (length progress.replies)
  next_here = ap (λ progress_found. slice_get (unwrap_or progress_found (begun [])).script (length (unwrap_or progress_found (begun [])).replies)) has_progress

  -- and where the next reply is noted
  pub noted_here : (reply : Reply) → progress_of (with_reply jobs number reply) number ≡ Some (answered progress reply)
  noted_here reply = progress_same jobs number reply has_here ∙ ap (λ progress_found. Some (answered (unwrap_or progress_found (begun [])) reply)) has_progress

-- where there is a script there is progress
pub progress_there : (jobs : Jobs) (number : ℕ) → HasScript jobs number → (progress : Progress) × (progress_of jobs number ≡ Some progress)
progress_there jobs number has_script = by_progress (progress_of jobs number) refl
  where
    by_progress : (found_progress : Option Progress) → progress_of jobs number ≡ found_progress → (progress : Progress) × (progress_of jobs number ≡ Some progress)
    by_progress None progress_is = absurd (false≢true (subst (λ found_progress. IsSome found_progress) progress_is has_script))
    by_progress (Some progress) progress_is = (progress, progress_is)

-- the same numbers have scripts
pub numbers_kept : (jobs : Jobs) (number : ℕ) (reply : Reply) (asked_number : ℕ) → HasScript jobs number → is_some (progress_of (with_reply jobs number reply) asked_number) ≡ is_some (progress_of jobs asked_number)
numbers_kept jobs number reply asked_number has_script = ⊎_elim
    (λ (same_number : asked_number ≡ number).
    let progress_found = progress_there jobs number has_script in
    ap (λ some_number. is_some (progress_of (with_reply jobs number reply) some_number)) same_number ∙ ap is_some (progress_same jobs number reply has_script)
    ∙ sym (ap (λ some_number. is_some (progress_of jobs some_number)) same_number ∙ ap is_some progress_found.1))
    (λ (numbers_differ : asked_number ≡ number → ⊥). ap is_some (progress_other jobs number reply asked_number numbers_differ))
    (cases_eq asked_number number)
