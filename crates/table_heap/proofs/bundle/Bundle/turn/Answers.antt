use Rattle.std.proofs.Common.{⊎_elim, refl, sym, subst}
use Rattle.std.specs.Prelude.{◌<◌, IfSome}
use Rattle.shen_graph.specs.Valid.{IsValid, most_objects}
use Rattle.step_core.specs.Machines.{made_of_machine}
use Rattle.table_heap.specs.State.{config_in, view_of, machine_at}
use Rattle.table_heap.specs.Running.{AreAtWork, AreSameJobs, next_for}
use Rattle.table_heap.proofs.AtWork.{idle_for_good}
use Rattle.table_heap.proofs.Running.{command_fits, same_jobs, work_unchanged}
use Rattle.table_heap.proofs.Said.{done_not_idle, idle_or_not}
use Rattle.table_heap.proofs.Turning.{turn_as, turned_on, turned_noted, jobs_noted, can_tell}
use Rattle.table_heap.proofs.bundle.Bundle.turn.Goals as goal

pub go_on-stepped-requires-clause-orders : goal.go_on-stepped-requires-clause-orders
go_on-stepped-requires-clause-orders g c = λ _ _. c.requires.work.orders

pub go_on-stepped-requires-clause-fits : goal.go_on-stepped-requires-clause-fits
go_on-stepped-requires-clause-fits g c = λ _ _. λ can_begin.
    subst (λ next. IfSome next (λ command. IsValid command × (made_of_machine (machine_at c.args.self.now c.args.number) < most_objects))) (sym (c.next_to_begin-next.ensures.begins can_begin))
    (command_fits c.args.self.now c.args.work.now c.args.number c.requires.work c.requires.here can_begin)

pub told-requires-clause-script : goal.told-requires-clause-script
told-requires-clause-script g c =
    (can_tell _ _ _ _ _ (turn_as _ _ _ (next_for (config_in c.args.self.now) c.args.work.now c.args.number) _ _ c.next_to_begin-next.ensures.turn (c.go_on-stepped.ensures.turn (done_not_idle c.go_on-stepped.result c.in-Done.is))) c.args.work.now refl c.requires.work c.in-Done.is).0

pub told-requires-clause-more : goal.told-requires-clause-more
told-requires-clause-more g c =
    (can_tell _ _ _ _ _ (turn_as _ _ _ (next_for (config_in c.args.self.now) c.args.work.now c.args.number) _ _ c.next_to_begin-next.ensures.turn (c.go_on-stepped.ensures.turn (done_not_idle c.go_on-stepped.result c.in-Done.is))) c.args.work.now refl c.requires.work c.in-Done.is).1

pub returns-in-Done-clause-work : goal.returns-in-Done-clause-work
returns-in-Done-clause-work g c =
    subst (λ jobs. AreAtWork c.go_on-stepped.new.self jobs) (sym c.told.ensures)
    (turned_noted _ _ _ _ _ (turn_as _ _ _ (next_for (config_in c.args.self.now) c.args.work.now c.args.number) _ _ c.next_to_begin-next.ensures.turn (c.go_on-stepped.ensures.turn (done_not_idle c.go_on-stepped.result c.in-Done.is))) c.args.work.now refl c.requires.work c.reply.result c.in-Done.is c.reply.ensures)

pub returns-in-Done-clause-jobs : goal.returns-in-Done-clause-jobs
returns-in-Done-clause-jobs g c =
    subst (λ jobs. AreSameJobs (view_of c.args.self.now) c.args.work.now jobs) (sym c.told.ensures)
    (jobs_noted _ _ _ _ _ (turn_as _ _ _ (next_for (config_in c.args.self.now) c.args.work.now c.args.number) _ _ c.next_to_begin-next.ensures.turn (c.go_on-stepped.ensures.turn (done_not_idle c.go_on-stepped.result c.in-Done.is))) c.args.work.now refl c.requires.work c.reply.result c.in-Done.is c.reply.ensures)

pub returns-in_default-clause-work : goal.returns-in_default-clause-work
returns-in_default-clause-work g c = ⊎_elim
    (λ idle. work_unchanged c.args.self.now c.go_on-stepped.new.self c.args.work.now (c.go_on-stepped.ensures.unchanged idle) c.requires.work)
    (λ goes_on. turned_on _ _ _ _ _ (turn_as _ _ _ (next_for (config_in c.args.self.now) c.args.work.now c.args.number) _ _ c.next_to_begin-next.ensures.turn (c.go_on-stepped.ensures.turn goes_on)) c.args.work.now refl c.requires.work (λ says_done. c.in_default.not-Done says_done))
    (idle_or_not c.go_on-stepped.result)

pub returns-in_default-clause-same : goal.returns-in_default-clause-same
returns-in_default-clause-same g c = c.go_on-stepped.ensures.same

pub returns-in_default-clause-jobs : goal.returns-in_default-clause-jobs
returns-in_default-clause-jobs g c = same_jobs (view_of c.args.self.now) c.args.work.now

pub returns-in_default-clause-unchanged : goal.returns-in_default-clause-unchanged
returns-in_default-clause-unchanged g c = c.go_on-stepped.ensures.unchanged

pub returns-in_default-clause-idle : goal.returns-in_default-clause-idle
returns-in_default-clause-idle g c = λ says_idle. idle_for_good (machine_at c.args.self.now c.args.number) c.next_to_begin-next.result (c.go_on-stepped.ensures.idle says_idle)
