-- The end of a schedule that was walked.
use Rattle.std.proofs.Common.{◌≡◌, ◌<◌, ℕ, ◌+◌, ◌-◌, [], ◌++◌, length, refl, sym, ap, ◌∙◌, subst, arith, ◌≤◌, ⊎_elim}
use Rattle.std.proofs.lemmas.Bool.{cases_lt}
use Rattle.std.proofs.lemmas.List.{append-nil}
use Rattle.heap_words.specs.Steps.{Stage}
use Rattle.heap_machines.specs.Pause.{pause_image}
use Rattle.step_core.specs.Actor.{Actor}
use Rattle.step_core.specs.Schedule.{Scripts, Agenda, next, scheduled}
use Rattle.shen_core.specs.declared.plain.Plain.{Plain}
use Rattle.shen_core.specs.declared.run.Ran.{Ran}
use Rattle.shen_core.specs.declared.run.Ran.TheVariants.{Finished, Unfinished}
use Rattle.shen_core.specs.State.{config_of, Shows}
use Rattle.shen_core.specs.Progress.{Jobs, Tells, Runs, AllIdle, SomeBusy, agenda}
use Rattle.shen_core.specs.WholeRun.{EndsRun}
use Rattle.shen_core.proofs.Going.{goes_same, runs_out}
use Rattle.shen_core.proofs.Rounds.{idle_round, scheduled_none, ends_idle, ends_out, ends_then}
use Rattle.shen_core.specs.Nexts.{HasNoNext}

-- where there is no event and all are idle, only rounds are left
rounds_left : (plain : Plain) (jobs : Jobs) (rest : Agenda) (limit_left : ℕ) → HasNoNext plain jobs rest → AllIdle plain jobs → Runs plain jobs rest limit_left plain jobs (agenda [] 0) limit_left
rounds_left plain jobs rest limit_left no_next idle scripts stage shows tells = record {
  stage = stage;
  goes = goes_same (config_of plain) scripts stage rest (agenda [] 0) limit_left (no_next scripts stage shows tells ∙ sym (idle_round (config_of plain) scripts stage (idle scripts stage shows tells)));
  shows = shows;
  tells = tells;
}

-- the end where all machines are idle
pub ends_finished : (plain plain_then : Plain) (jobs later : Jobs) (todo rest : Agenda) (limit limit_left : ℕ) → config_of plain_then ≡ config_of plain → Runs plain jobs todo limit plain_then later rest limit_left → HasNoNext plain_then later rest → AllIdle plain_then later → EndsRun plain jobs todo limit plain_then later Finished
ends_finished plain plain_then jobs later todo rest limit limit_left same_config runs no_next idle =
    ends_then plain plain_then plain_then jobs later later todo rest limit limit_left Finished same_config runs
    (ends_then plain_then plain_then plain_then later later later rest (agenda [] 0) limit_left limit_left Finished refl (rounds_left plain_then later rest limit_left no_next idle) (ends_idle plain_then later limit_left idle))

-- the end where as many events were made as were allowed
pub ends_all_idle : (plain plain_then : Plain) (jobs later : Jobs) (todo rest : Agenda) (limit limit_left : ℕ) → config_of plain_then ≡ config_of plain → Runs plain jobs todo limit plain_then later rest limit_left → limit_left ≡ 0 → AllIdle plain_then later → EndsRun plain jobs todo limit plain_then later Finished
ends_all_idle plain plain_then jobs later todo rest limit limit_left same_config runs none_left idle =
    ends_then plain plain_then plain_then jobs later later todo rest limit limit_left Finished same_config runs
    (ends_then plain_then plain_then plain_then later later later rest (agenda [] 0) limit_left limit_left Finished refl (runs_out plain_then later rest (agenda [] 0) limit_left none_left) (ends_idle plain_then later limit_left idle))

pub ends_unfinished : (plain plain_then : Plain) (jobs later : Jobs) (todo rest : Agenda) (limit limit_left : ℕ) → config_of plain_then ≡ config_of plain → Runs plain jobs todo limit plain_then later rest limit_left → limit_left ≡ 0 → SomeBusy plain_then later → EndsRun plain jobs todo limit plain_then later Unfinished
ends_unfinished plain plain_then jobs later todo rest limit limit_left same_config runs none_left busy =
    ends_then plain plain_then plain_then jobs later later todo rest limit limit_left Unfinished same_config runs
    (ends_then plain_then plain_then plain_then later later later rest (agenda [] 0) limit_left limit_left Unfinished refl (runs_out plain_then later rest (agenda [] 0) limit_left none_left) (ends_out plain_then later limit_left none_left busy))

-- the end by what was found of the machines
pub ends_by : (plain plain_then : Plain) (jobs later : Jobs) (todo rest : Agenda) (limit limit_left : ℕ) (result : Ran) → config_of plain_then ≡ config_of plain → Runs plain jobs todo limit plain_then later rest limit_left → (0 < limit_left → HasNoNext plain_then later rest) → (0 < limit_left → AllIdle plain_then later)
    → (result ≡ Finished → 0 ≡ limit_left → AllIdle plain_then later) → (result ≡ Unfinished → (0 ≡ limit_left) × SomeBusy plain_then later) → EndsRun plain jobs todo limit plain_then later result
ends_by plain plain_then jobs later todo rest limit limit_left Finished same_config runs no_next_within idle finished unfinished = ⊎_elim
    (λ (some_left : 0 < limit_left). ends_finished plain plain_then jobs later todo rest limit limit_left same_config runs (no_next_within some_left) (idle some_left))
    (λ (limit_out : limit_left ≤ 0). let none_left : limit_left ≡ 0 = omega arith in ends_all_idle plain plain_then jobs later todo rest limit limit_left same_config runs none_left (finished refl (sym none_left)))
    (cases_lt 0 limit_left)
ends_by plain plain_then jobs later todo rest limit limit_left Unfinished same_config runs no_next_within idle finished unfinished =
    let busy = unfinished refl in
    ends_unfinished plain plain_then jobs later todo rest limit limit_left same_config runs (sym busy.0) busy.1

-- as many events as were made are those of the schedule, where there is none then
pub counts_ended : (plain plain_then : Plain) (jobs later : Jobs) (todo rest : Agenda) (limit limit_left : ℕ) → config_of plain_then ≡ config_of plain → Runs plain jobs todo limit plain_then later rest limit_left → HasNoNext plain_then later rest
    → (scripts : Scripts) (stage : Stage Actor) → Shows plain stage → Tells (config_of plain) scripts jobs stage → length (scheduled pause_image (config_of plain) scripts limit todo stage) + limit_left ≡ limit
counts_ended plain plain_then jobs later todo rest limit limit_left same_config runs no_next scripts stage shows tells =
    let went = runs scripts stage shows tells in
    let empty : scheduled pause_image (config_of plain) scripts limit_left rest went.stage ≡ [] = scheduled_none (config_of plain) scripts went.stage rest limit_left
    (ap (λ asked_config. next asked_config scripts went.stage rest) (sym same_config) ∙ no_next scripts went.stage went.shows (subst (λ config. Tells config scripts later went.stage) (sym same_config) went.tells)) in
    let all_events : length (scheduled pause_image (config_of plain) scripts limit todo stage) ≡ length went.goes.done = ap length (went.goes.events ∙ ap (λ later_events. went.goes.done ++ later_events) empty ∙ append-nil went.goes.done) in
    let count = went.goes.count in
    omega arith

-- or as many as were allowed
pub counts_out : (plain plain_then : Plain) (jobs later : Jobs) (todo rest : Agenda) (limit limit_left : ℕ) → Runs plain jobs todo limit plain_then later rest limit_left → limit_left ≡ 0
    → (scripts : Scripts) (stage : Stage Actor) → Shows plain stage → Tells (config_of plain) scripts jobs stage → length (scheduled pause_image (config_of plain) scripts limit todo stage) + limit_left ≡ limit
unfolding scheduled
counts_out plain plain_then jobs later todo rest limit limit_left runs none_left scripts stage shows tells =
    let went = runs scripts stage shows tells in
    let empty : scheduled pause_image (config_of plain) scripts limit_left rest went.stage ≡ [] = ap (λ event_limit. scheduled pause_image (config_of plain) scripts event_limit rest went.stage) none_left in
    let all_events : length (scheduled pause_image (config_of plain) scripts limit todo stage) ≡ length went.goes.done = ap length (went.goes.events ∙ ap (λ later_events. went.goes.done ++ later_events) empty ∙ append-nil went.goes.done) in
    let count = went.goes.count in
    omega arith

pub counts_by : (plain plain_then : Plain) (jobs later : Jobs) (todo rest : Agenda) (limit limit_left : ℕ) → config_of plain_then ≡ config_of plain → Runs plain jobs todo limit plain_then later rest limit_left → (0 < limit_left → HasNoNext plain_then later rest)
    → (scripts : Scripts) (stage : Stage Actor) → Shows plain stage → Tells (config_of plain) scripts jobs stage → length (scheduled pause_image (config_of plain) scripts limit todo stage) ≡ limit - limit_left
counts_by plain plain_then jobs later todo rest limit limit_left same_config runs no_next_within scripts stage shows tells =
    let count : length (scheduled pause_image (config_of plain) scripts limit todo stage) + limit_left ≡ limit = ⊎_elim
    (λ (some_left : 0 < limit_left). counts_ended plain plain_then jobs later todo rest limit limit_left same_config runs (no_next_within some_left) scripts stage shows tells)
    (λ (limit_out : limit_left ≤ 0). counts_out plain plain_then jobs later todo rest limit limit_left runs (omega arith) scripts stage shows tells)
    (cases_lt 0 limit_left) in
    omega arith
