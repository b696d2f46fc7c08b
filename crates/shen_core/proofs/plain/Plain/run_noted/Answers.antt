use Rattle.std.proofs.Common.{◌∙◌, sym, subst, All}
use Rattle.shen_core.specs.Progress.{IsInSeats}
use Rattle.shen_core.proofs.Swapped.{can_run_swapped, ran_swapped, swapped_history}
use Rattle.shen_core.proofs.plain.Plain.run_noted.Goals as goal

pub run_agenda-ran-requires-clause-run : goal.run_agenda-ran-requires-clause-run
run_agenda-ran-requires-clause-run c =
    let swapped = c.swap_notes.ensures in
    can_run_swapped c.args.self.now c.swap_notes.new.self (record { config = swapped.config; words = swapped.words; machines = swapped.machines; orders = swapped.orders }) c.args.work.now c.requires.run

pub run_agenda-ran-requires-clause-items : goal.run_agenda-ran-requires-clause-items
run_agenda-ran-requires-clause-items c = subst (λ config. All (IsInSeats config) c.args.schedule.now) (sym c.swap_notes.ensures.config) c.requires.items

pub returns-clause-run : goal.returns-clause-run
returns-clause-run c =
    let swapped = c.swap_notes-2.ensures in
    can_run_swapped c.run_agenda-ran.new.self c.swap_notes-2.new.self (record { config = swapped.config; words = swapped.words; machines = swapped.machines; orders = swapped.orders }) c.run_agenda-ran.new.work c.run_agenda-ran.ensures.run

pub returns-clause-config : goal.returns-clause-config
returns-clause-config c = c.swap_notes-2.ensures.config ∙ c.run_agenda-ran.ensures.config ∙ c.swap_notes.ensures.config

pub returns-clause-events : goal.returns-clause-events
returns-clause-events c =
    let swapped = c.swap_notes.ensures in
    let swapped_back = c.swap_notes-2.ensures in
    ran_swapped c.args.self.now c.swap_notes.new.self c.run_agenda-ran.new.self c.swap_notes-2.new.self c.args.work.now c.run_agenda-ran.new.work _ c.args.steps c.run_agenda-ran.result
    (record { config = swapped.config; words = swapped.words; machines = swapped.machines; orders = swapped.orders })
    (record { config = swapped_back.config; words = swapped_back.words; machines = swapped_back.machines; orders = swapped_back.orders })
    c.run_agenda-ran.ensures.events

pub returns-clause-history : goal.returns-clause-history
returns-clause-history c =
    let swapped = c.swap_notes.ensures in
    swapped_history c.args.self.now c.swap_notes.new.self c.run_agenda-ran.new.self c.args.work.now c.run_agenda-ran.new.work c.args.schedule.now c.args.steps c.run_agenda-ran.result c.args.history.now c.swap_notes-2.new.history
    (record { config = swapped.config; words = swapped.words; machines = swapped.machines; orders = swapped.orders })
    swapped.notes c.swap_notes-2.ensures.history c.run_agenda-ran.ensures.config c.requires.spare c.run_agenda-ran.ensures.run c.within_scripts.ensures c.run_agenda-ran.ensures.events
