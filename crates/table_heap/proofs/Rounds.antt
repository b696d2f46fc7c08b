-- Rounds of the machines of a bundle.
use Rattle.std.proofs.Common.{◌≡◌, ◌<◌, ◌≤◌, ⊎_elim, ℕ, suc, ◌+◌, ◌&&◌, Bool, true, false, List, length, Option, Some, refl, sym, ap, ◌∙◌, subst, arith}
use Rattle.std.specs.Prelude.{is_some, nat_lt, if◌then◌else◌}
use Rattle.std.proofs.lemmas.Bool.{false≢true, cases_eq}
use Rattle.heap_words.specs.Ranges.{seat_count}
use Rattle.shared_table.specs.Views.{machine_of}
use Rattle.shen_graph.specs.declared.command.Command.{Command}
use Rattle.shen_graph.specs.declared.command.Reply.{Reply}
use Rattle.shen_graph.specs.Work.{replies_of}
use Rattle.step_core.specs.Actor.{Actor}
use Rattle.heap_machines.specs.declared.stepped.Stepped.{Stepped}
use Rattle.heap_machines.specs.declared.stepped.Stepped.TheVariants as stepped
use Rattle.heap_machines.specs.Shown.{shown}
use Rattle.table_heap.specs.declared.bundle.Bundle.{Bundle}
use Rattle.table_heap.specs.declared.run.Round.{Round}
use Rattle.table_heap.specs.declared.run.Round.TheVariants as round
use Rattle.table_heap.specs.State.{view_of, machine_at, IsSameBundle, IsUnchanged}
use Rattle.table_heap.specs.Running.{Jobs, CanStart, AreAtWork, IsIdleForGood, AreIdleForGood, HasDone, HaveDone, AreSameJobs}
use Rattle.table_heap.specs.Driving.{mutators_below, AreDriving}
use Rattle.table_heap.proofs.AtWork.{starts, done}
use Rattle.table_heap.proofs.Driving.{same_places}
use Rattle.table_heap.proofs.Jobs.{script_here, replies_here}
use Rattle.table_heap.proofs.MachineUnder.{within}
use Rattle.table_heap.proofs.Running.{in_memory, at_number, same_bundle, same_bundle_more, same_jobs_more}

-- A bundle in a round, in which it was the turn of the machines of the numbers below this one. Where nobody has made a step yet, these
-- are idle for good.
pub record IsRoundOf (old : Bundle) (number : ℕ) (now : Bundle) (so_far : Round) : Type 0 where
  pub same : IsSameBundle old now
  pub idle : so_far ≡ round.Idle → (k : ℕ) (actor : Actor) → k < number → machine_of (view_of now) k ≡ Some actor → IsIdleForGood actor.machine

-- what a turn of the machine has left
pub record IsTurnOf (now new : Bundle) (number : ℕ) (said : Stepped) : Type 0 where
  pub same : IsSameBundle now new
  pub unchanged : said ≡ stepped.Idle → IsUnchanged now new
  pub idle : said ≡ stepped.Idle → IsIdleForGood (machine_at now number)

-- it begins
pub round_first : (bundle : Bundle) (so_far : Round) → IsRoundOf bundle 0 bundle so_far
round_first bundle so_far = record { same = same_bundle bundle; idle = λ nothing_done asked_number actor number_below machine_there. absurd (omega (arith, number_below)) }

module _ (old now : Bundle) (number : ℕ) (so_far : Round) (round_before : IsRoundOf old number now so_far) where
  -- one turn more
  pub round_turn : (new : Bundle) (said : Stepped) (next : Round) → IsTurnOf now new number said → (next ≡ round.Idle → (so_far ≡ round.Idle) × (said ≡ stepped.Idle))
      → IsRoundOf old (number + 1) new next
  round_turn new said next turned idle_means = record {
    same = same_bundle_more old now new round_before.same turned.same;
    idle = λ nothing_done asked_number actor number_below machine_there.
        let machine_here : machine_of (view_of now) asked_number ≡ Some actor = ap (λ asked_view. machine_of asked_view asked_number) (sym (turned.unchanged (idle_means nothing_done).1).unmoved.view) ∙ machine_there in
        ⊎_elim
        (λ (same_number : asked_number ≡ number).
        subst (λ machine. IsIdleForGood machine) (ap (machine_at now) (sym same_number) ∙ at_number now asked_number actor machine_here) (turned.idle (idle_means nothing_done).1))
        (λ (other_number : asked_number ≡ number → ⊥). round_before.idle (idle_means nothing_done).0 asked_number actor (omega arith) machine_here)
        (cases_eq asked_number number);
  }

  -- the bundle has no machine of the number
  pub round_none : is_some (machine_of (view_of now) number) ≡ false → IsRoundOf old (number + 1) now so_far
  round_none absent = record {
    same = round_before.same;
    idle = λ nothing_done asked_number actor number_below machine_there. ⊎_elim
        (λ (same_number : asked_number ≡ number). absurd (false≢true (sym absent ∙ ap (λ some_number. is_some (machine_of (view_of now) some_number)) (sym same_number) ∙ ap is_some machine_there)))
        (λ (other_number : asked_number ≡ number → ⊥). round_before.idle nothing_done asked_number actor (omega arith) machine_there)
        (cases_eq asked_number number);
  }

  -- it was the turn of all machines
  pub all_idle : length old.machines.items ≤ number → so_far ≡ round.Idle → AreIdleForGood now
  all_idle all_turned nothing_done asked_number actor machine_there =
      let number_inside : asked_number < length now.machines.items = within shown now.machines.items asked_number (ap is_some (in_memory now asked_number actor machine_there)) in
      let same_length : length now.machines.items ≡ length old.machines.items = now.seats ∙ ap (λ config. seat_count config.mutators config.helpers) round_before.same.config ∙ sym old.seats in
      round_before.idle nothing_done asked_number actor (omega (arith, all_turned, number_inside, same_length)) machine_there

-- A bundle and its work in a round.
pub record IsInRound (old : Bundle) (jobs : Jobs) (number : ℕ) (now : Bundle) (later : Jobs) (so_far : Round) : Type 0 where
  pub work : AreAtWork now later
  pub jobs_are : AreSameJobs (view_of old) jobs later
  pub round : IsRoundOf old number now so_far

-- the turn has left them so
pub record HasTurned (now new : Bundle) (between later : Jobs) (number : ℕ) (said : Stepped) : Type 0 where
  pub work : AreAtWork new later
  pub jobs_are : AreSameJobs (view_of now) between later
  pub turn : IsTurnOf now new number said

module _ (old now : Bundle) (jobs between : Jobs) (number : ℕ) (so_far : Round) (round_before : IsInRound old jobs number now between so_far) where
  pub in_round_turn : (new : Bundle) (later : Jobs) (said : Stepped) (next : Round) → HasTurned now new between later number said → (next ≡ round.Idle → (so_far ≡ round.Idle) × (said ≡ stepped.Idle))
      → IsInRound old jobs (number + 1) new later next
  in_round_turn new later said next turned idle_means = record {
    work = turned.work;
    jobs_are = same_jobs_more old now jobs between later round_before.round.same round_before.jobs_are turned.jobs_are;
    round = round_turn old now number so_far round_before.round new said next turned.turn idle_means;
  }

  pub in_round_none : is_some (machine_of (view_of now) number) ≡ false → IsInRound old jobs (number + 1) now between so_far
  in_round_none absent = record { work = round_before.work; jobs_are = round_before.jobs_are; round = round_none old now number so_far round_before.round absent }

-- The drivers of a bundle's mutators in a round, and the place of the driver that is next.
pub record IsDrivenRound {D : Type 0} (next_of : D → Option Command) (replied : D → Reply → D) (to_come : D → ℕ) (old : Bundle) (drivers : List D) (number place : ℕ) (now : Bundle) (later : List D) (so_far : Round) : Type 0 where
  pub driving : (firsts : List D) → AreDriving next_of replied to_come old firsts drivers → AreDriving next_of replied to_come now firsts later
  pub round : IsRoundOf old number now so_far
  pub place_is : place ≡ mutators_below old number

module _ {D : Type 0} (next_of : D → Option Command) (replied : D → Reply → D) (to_come : D → ℕ) (old now : Bundle) (drivers between : List D) (number place : ℕ) (so_far : Round)
    (round_before : IsDrivenRound next_of replied to_come old drivers number place now between so_far) where
  -- the place of the driver in the bundle as it is now
  pub place_now : place ≡ mutators_below now number
  place_now = round_before.place_is ∙ sym (same_places old now number round_before.round.same)

  -- a machine of the bundle counts where it is a mutator
  counted : (is_there test : Bool) → is_there ≡ true → (count : ℕ) → (if is_there && test then suc count else count) ≡ (if test then count + 1 else count)
  counted true true there_so count = omega arith
  counted true false there_so count = refl
  counted false test there_so count = absurd (false≢true there_so)

  counted_none : (is_there test : Bool) → is_there ≡ false → (count : ℕ) → (if is_there && test then suc count else count) ≡ count
  counted_none true test not_there count = absurd (false≢true (sym not_there))
  counted_none false test not_there count = refl

  here_before : (holds : Bool) → is_some (machine_of (view_of now) number) ≡ holds → is_some (machine_of (view_of old) number) ≡ holds
  here_before holds there_now = sym (round_before.round.same.numbers.here number) ∙ there_now

  one_more : mutators_below old (number + 1) ≡ mutators_below old (suc number)
  one_more = ap (mutators_below old) (let next_number : number + 1 ≡ suc number = omega arith in next_number)

  pub driven_turn : (new : Bundle) (later : List D) (said : Stepped) (next : Round) (behind : ℕ) → is_some (machine_of (view_of now) number) ≡ true
      → ((firsts : List D) → AreDriving next_of replied to_come now firsts between → AreDriving next_of replied to_come new firsts later)
      → IsTurnOf now new number said → (next ≡ round.Idle → (so_far ≡ round.Idle) × (said ≡ stepped.Idle))
      → behind ≡ (if nat_lt number now.config.mutators then place + 1 else place)
      → IsDrivenRound next_of replied to_come old drivers (number + 1) behind new later next
  driven_turn new later said next behind present drivers_go turned idle_means behind_is = record {
    driving = λ firsts begun. drivers_go firsts (round_before.driving firsts begun);
    round = round_turn old now number so_far round_before.round new said next turned idle_means;
    place_is = behind_is ∙ ap (λ mutator_count. if nat_lt number now.config.mutators then mutator_count + 1 else mutator_count) round_before.place_is
        ∙ ap (λ asked_config. if nat_lt number asked_config.mutators then mutators_below old number + 1 else mutators_below old number) round_before.round.same.config
        ∙ sym (counted (is_some (machine_of (view_of old) number)) (nat_lt number old.config.mutators) (here_before true present) (mutators_below old number)) ∙ sym one_more;
  }

  pub driven_none : is_some (machine_of (view_of now) number) ≡ false → IsDrivenRound next_of replied to_come old drivers (number + 1) place now between so_far
  driven_none absent = record {
    driving = round_before.driving;
    round = round_none old now number so_far round_before.round absent;
    place_is = round_before.place_is
        ∙ sym (counted_none (is_some (machine_of (view_of old) number)) (nat_lt number old.config.mutators) (here_before false absent) (mutators_below old number)) ∙ sym one_more;
  }

-- a bundle that can start is at work
pub at_start : (bundle : Bundle) (jobs : Jobs) → CanStart bundle jobs → AreAtWork bundle jobs
at_start bundle jobs can_start = record { orders = can_start.orders; mutators = λ number actor actor_there role. starts jobs number actor (can_start.mutators number actor actor_there role) }

-- where all machines are idle for good the mutators have called their scripts
pub have_done : (bundle new : Bundle) (jobs later : Jobs) → AreSameJobs (view_of bundle) jobs later → AreAtWork new later → AreIdleForGood new → HaveDone new jobs later
have_done bundle new jobs later same_work work idle number actor actor_there role =
    let job = work.mutators number actor actor_there role in
    subst (λ script. HasDone script (replies_of later number) actor) (sym (script_here later number job.0 job.1) ∙ same_work.scripts number)
    (subst (λ replies. HasDone job.0.script replies actor) (sym (replies_here later number job.0 job.1))
    (done job.0 actor job.2 role (idle number actor actor_there)))
