use Rattle.std.proofs.Common.{◌≡◌, ℕ, ◌+◌, ◌<◌, Bool, true, false, [], None, get_or, refl, sym, ap, ◌∙◌, subst, arith}
use Rattle.std.specs.Prelude.{nat_lt, if◌then◌else◌, Result, Ok, Err, IfOk}
use Rattle.std.proofs.lemmas.List.FromFn.{get_or-map-range_with_len}
use Rattle.heap_words.specs.declared.config.Config.{Config}
use Rattle.heap_words.specs.Ranges.{seat_count}
use Rattle.heap_words.proofs.Runs.{go-none}
use Rattle.mutator.specs.Rows.{fresh_mutator}
use Rattle.heap_machines.specs.Pause.{pause_image}
use Rattle.heap_machines.specs.Shown.{no_machine}
use Rattle.heap_machines.proofs.Openings.{first_machines, first_rests}
use Rattle.step_core.specs.Actor.{mutating, fresh_helper, fresh_control}
use Rattle.step_core.specs.Begins.{first_graph}
use Rattle.step_core.specs.History.{history}
use Rattle.step_core.specs.Machines.{kind, is_resting, image_read}
use Rattle.step_core.specs.Opening.{first_free, opening_machine, opening}
use Rattle.step_core.specs.Settled.{control_number}
use Rattle.step_core.proofs.Theorem.FirstFacts.{opening_begins}
use Rattle.shen_core.specs.declared.plain.Plain.{Plain}
use Rattle.shen_core.specs.State.{config_of, machine_at, Shows}
use Rattle.shen_core.specs.Progress.{AllRest}
use Rattle.graph_placing.proofs.Renewables.{opening_renewable}
use Rattle.shen_core.specs.RenewedHeap.{StandsRenewable}
use Rattle.heap_tests.proofs.renewal.opened.Goals as goal

-- a machine is that of the opening
first_at : (plain : Plain) (seat : ℕ) → Shows plain (opening (config_of plain)) → seat < seat_count (config_of plain).mutators (config_of plain).helpers → machine_at plain seat ≡ opening_machine (config_of plain) seat
first_at plain seat shows seat_below =
    let config = config_of plain in
    ap (λ some_machines. get_or some_machines seat no_machine) (sym shows.machines_are ∙ first_machines config) ∙ get_or-map-range_with_len (opening_machine config) 0 (seat_count config.mutators config.helpers) seat seat no_machine seat_below (omega arith)

-- the control has no image
control_calm : (config : Config) → image_read (opening_machine config (control_number config)) ≡ None
control_calm config = by_test (nat_lt (control_number config) config.mutators) (nat_lt (control_number config) (config.mutators + config.helpers))
  where
    by_test : (holds other_holds : Bool) → image_read (if holds then mutating (fresh_mutator (control_number config)) else (if other_holds then fresh_helper (control_number config) else fresh_control (first_free config.regions))) ≡ None
    by_test true other_holds = refl
    by_test false true = refl
    by_test false false = refl

rests : (plain : Plain) → Shows plain (opening (config_of plain)) → AllRest plain
rests plain shows =
    let config = config_of plain in
    record {
      mutators = λ mutator mutator_below. ap is_resting (first_at plain mutator shows (omega arith)) ∙ first_rests config mutator mutator_below;
      control = ap image_read (first_at plain (control_number config) shows (omega arith)) ∙ control_calm config;
    }

stands : (plain : Plain) → Shows plain (opening (config_of plain)) → StandsRenewable plain
unfolding history
stands plain shows =
    let config = config_of plain in
    record {
      run = record { start = opening config; graph = first_graph config; begins = opening_begins config; events = [] };
      leads = subst (Shows plain) (sym (go-none (kind pause_image config) (opening config))) shows;
      renewable = opening_renewable config.mutators;
    }

of_opened : {E : Type 0} (config : Config) (P : Plain → Type 0) → ((plain : Plain) → Shows plain (opening (config_of plain)) → P plain) → (result : Result Plain E) → IfOk result (λ plain. config_of plain ≡ config) → IfOk result (λ plain. Shows plain (opening config)) → IfOk result P
of_opened other_config P opened_holds (Ok plain) config shows = opened_holds plain (subst (λ (config : Config). Shows plain (opening config)) (sym config) shows)
of_opened other_config P opened_holds (Err fault) config shows = tt

pub returns-clause-rest : goal.returns-clause-rest
returns-clause-rest c = of_opened c.args.config AllRest rests c.open.result c.open.ensures.config c.open.ensures.opening

pub returns-clause-renewable : goal.returns-clause-renewable
returns-clause-renewable c = of_opened c.args.config StandsRenewable stands c.open.result c.open.ensures.config c.open.ensures.opening
