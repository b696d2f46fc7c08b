-- Events one after the other.
use Rattle.std.proofs.Common.{arith, ◌≡◌, ◌<◌, ℕ, ◌+◌, ◌-◌, Some, None, sym, ◌∙◌, subst}
use Rattle.heap_words.specs.Steps.{act}
use Rattle.heap_machines.specs.Pause.{pause_image}
use Rattle.step_core.specs.Machines.{kind}
use Rattle.step_core.specs.Schedule.{Agenda}
use Rattle.shen_core.specs.declared.plain.Plain.{Plain}
use Rattle.shen_core.specs.State.{config_of}
use Rattle.shen_core.specs.Progress.{Jobs, Runs}
use Rattle.shen_core.proofs.Going.{goes_next, goes_same, runs_then}
use Rattle.shen_core.specs.declared.seen.Seen.{Seen}
use Rattle.shen_core.specs.Nexts.{MakesNext, RunsOn}

-- where there was no next event, the schedule goes on with none
pub runs_none_next : (plain plain_then : Plain) (jobs later : Jobs) (todo rest : Agenda) (limit_left : ℕ) → MakesNext plain jobs todo plain_then later rest None → Runs plain jobs todo limit_left plain_then later rest limit_left
runs_none_next plain plain_then jobs later todo rest limit_left makes scripts stage shows tells =
    let no_next = makes scripts stage shows tells in
    record { stage = stage; goes = goes_same (config_of plain) scripts stage todo rest limit_left (no_next.none ∙ sym no_next.none_later); shows = no_next.shows; tells = no_next.tells }

-- the next event of the schedule
pub runs_some_next : (plain plain_then : Plain) (jobs later : Jobs) (todo rest : Agenda) (event_seen : Seen) (limit_left : ℕ) → MakesNext plain jobs todo plain_then later rest (Some event_seen) → 0 < limit_left → Runs plain jobs todo limit_left plain_then later rest (limit_left - 1)
runs_some_next plain plain_then jobs later todo rest event_seen limit_left makes positive scripts stage shows tells =
    let made = makes scripts stage shows tells in
    record {
      stage = act (kind pause_image (config_of plain)) stage made.event;
      goes = goes_next (config_of plain) scripts stage todo rest made.event limit_left positive made.is;
      shows = made.shows;
      tells = made.tells;
    }

-- after some events, one more
pub runs_more : (first_plain plain plain_then : Plain) (start jobs later : Jobs) (begin todo rest : Agenda) (event_seen : Seen) (limit limit_left : ℕ) → config_of plain ≡ config_of first_plain → Runs first_plain start begin limit plain jobs todo limit_left → MakesNext plain jobs todo plain_then later rest (Some event_seen) → 0 < limit_left
    → Runs first_plain start begin limit plain_then later rest (limit_left - 1)
runs_more first_plain plain plain_then start jobs later begin todo rest event_seen limit limit_left same_config runs makes positive = runs_then first_plain plain plain_then start jobs later begin todo rest limit limit_left _ same_config runs (runs_some_next plain plain_then jobs later todo rest event_seen limit_left makes positive)

-- or no more
pub runs_end : (first_plain plain plain_then : Plain) (start jobs later : Jobs) (begin todo rest : Agenda) (limit limit_left : ℕ) → config_of plain ≡ config_of first_plain → Runs first_plain start begin limit plain jobs todo limit_left → MakesNext plain jobs todo plain_then later rest None → Runs first_plain start begin limit plain_then later rest limit_left
runs_end first_plain plain plain_then start jobs later begin todo rest limit limit_left same_config runs makes = runs_then first_plain plain plain_then start jobs later begin todo rest limit limit_left _ same_config runs (runs_none_next plain plain_then jobs later todo rest limit_left makes)

-- and where a higher limit was meant
pub runs_on : (first_plain plain plain_then : Plain) (start jobs later : Jobs) (begin todo rest : Agenda) (event_seen : Seen) (limit limit_left : ℕ) → config_of plain ≡ config_of first_plain → RunsOn first_plain start begin limit plain jobs todo limit_left → MakesNext plain jobs todo plain_then later rest (Some event_seen) → 0 < limit_left
    → RunsOn first_plain start begin limit plain_then later rest (limit_left - 1)
runs_on first_plain plain plain_then start jobs later begin todo rest event_seen limit limit_left same_config runs makes positive more_events =
    subst (λ events_left. Runs first_plain start begin (limit + more_events) plain_then later rest events_left) (omega arith)
    (runs_more first_plain plain plain_then start jobs later begin todo rest event_seen (limit + more_events) (limit_left + more_events) same_config (runs more_events) makes (omega arith))
