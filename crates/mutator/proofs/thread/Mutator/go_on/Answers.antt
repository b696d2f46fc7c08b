use Rattle.std.proofs.Common.{refl, sym, ap, ◌∙◌}
use Rattle.mutator.specs.declared.spot.Spot.{Spot}
use Rattle.mutator.specs.declared.spot.Spot.TheVariants.{Entering, LoadPhase, LoadSet, Loading, OnNumber, Showing, Leave, Ended}
use Rattle.shen_graph.specs.declared.order.Order.TheVariants.{Nothing}
use Rattle.mutator.specs.Rows.{Mutating}
use Rattle.mutator.specs.WaitRows.{after_enter}
use Rattle.mutator.specs.Seen.{seen}
use Rattle.mutator.proofs.Again.{never, enters_where_it_waits}
use Rattle.mutator.proofs.Goes.{pending, ready_next}
use Rattle.mutator.proofs.thread.Mutator.go_on.Goals as goal

-- the mutator at a spot
abbrev at_spot : Mutating → Spot → Mutating
at_spot mutator spot = record mutator { spot = spot }

pub invariant_of-self : goal.invariant_of-self
invariant_of-self c =
    let mutator = c.args.self.now in
    let row = sym (c.after-self.ensures ∙ ap (after_enter c.in-Entering.then) c.after.ensures.row) in
    record {
      is_mutator = mutator.is_mutator;
      allowed = pending _ _ _ c.requires.none;
      ready = ready_next mutator.config (seen mutator) Nothing c.args.got (Entering c.in-Entering.at c.in-Entering.then) (at_spot (seen mutator) c.after-self.result) (c.requires.at ∙ c.in-Entering.is) (ap (at_spot (seen mutator)) row) c.requires.fit.0;
    }

pub invariant_of-self-in-LoadPhase : goal.invariant_of-self-in-LoadPhase
invariant_of-self-in-LoadPhase c =
    let mutator = c.args.self.now in
    record {
      is_mutator = mutator.is_mutator;
      allowed = pending LoadSet mutator.made mutator.order c.requires.none;
      ready = ready_next mutator.config (seen mutator) Nothing c.args.got LoadPhase (record (seen mutator) { kept = record mutator.kept { phase = c.args.got }; spot = LoadSet }) (c.requires.at ∙ c.in-LoadPhase.is) refl c.requires.fit.0;
    }

pub invariant_of-self-in-Loading : goal.invariant_of-self-in-Loading
invariant_of-self-in-Loading c =
    let mutator = c.args.self.now in
    record {
      is_mutator = mutator.is_mutator;
      allowed = pending _ _ _ c.requires.none;
      ready = ready_next mutator.config (seen mutator) Nothing c.args.got (Loading c.in-Loading.at) (at_spot (seen mutator) c.after-self-in-Loading.result) (c.requires.at ∙ c.in-Loading.is) (ap (at_spot (seen mutator)) (sym c.after-self-in-Loading.ensures)) c.requires.fit.0;
    }

pub invariant_of-self-in-OnNumber : goal.invariant_of-self-in-OnNumber
invariant_of-self-in-OnNumber c =
    let mutator = c.args.self.now in
    record {
      is_mutator = mutator.is_mutator;
      allowed = pending _ _ _ c.requires.none;
      ready = ready_next mutator.config (seen mutator) Nothing c.args.got (OnNumber c.in-OnNumber.object c.in-OnNumber.refs c.in-OnNumber.at) (at_spot (seen mutator) c.after-self-in-OnNumber.result) (c.requires.at ∙ c.in-OnNumber.is) (ap (at_spot (seen mutator)) (sym c.after-self-in-OnNumber.ensures)) c.requires.fit.0;
    }

pub invariant_of-self-in-Showing : goal.invariant_of-self-in-Showing
invariant_of-self-in-Showing c =
    let mutator = c.args.self.now in
    record {
      is_mutator = mutator.is_mutator;
      allowed = pending _ _ _ c.requires.none;
      ready = ready_next mutator.config (seen mutator) Nothing c.args.got (Showing c.in-Showing.value c.in-Showing.at) (at_spot (seen mutator) c.after-self-in-Showing.result) (c.requires.at ∙ c.in-Showing.is) (ap (at_spot (seen mutator)) (sym c.after-self-in-Showing.ensures)) c.requires.fit.0;
    }

pub returns-in-Entering-clause-again : goal.returns-in-Entering-clause-again
returns-in-Entering-clause-again c = rw ((c.requires.at ∙ c.in-Entering.is), c.call_says.ensures, c.says.ensures) (enters_where_it_waits c.in-Entering.at c.in-Entering.then c.args.got)

pub invariant_of-self-in-LoadSet : goal.invariant_of-self-in-LoadSet
invariant_of-self-in-LoadSet c =
    let mutator = c.args.self.now in
    let mutator_at : Spot → Mutating = λ spot. record (seen mutator) { kept = record mutator.kept { cset = c.args.got }; spot = spot } in
    record {
      is_mutator = mutator.is_mutator;
      allowed = pending c.first_spot-self.result mutator.made mutator.order c.requires.none;
      ready = ready_next mutator.config (seen mutator) Nothing c.args.got LoadSet (mutator_at c.first_spot-self.result) (c.requires.at ∙ c.in-LoadSet.is) (ap mutator_at (sym c.first_spot-self.ensures)) c.requires.fit.0;
    }

pub invariant_of-self-in-Leave : goal.invariant_of-self-in-Leave
invariant_of-self-in-Leave c =
    let mutator = c.args.self.now in
    record {
      is_mutator = mutator.is_mutator;
      allowed = pending (Ended c.in-Leave.reply) mutator.made mutator.order c.requires.none;
      ready = ready_next mutator.config (seen mutator) Nothing c.args.got (Leave c.in-Leave.reply) (at_spot (seen mutator) (Ended c.in-Leave.reply)) (c.requires.at ∙ c.in-Leave.is) refl c.requires.fit.0;
    }

pub returns-in-LoadPhase-clause-again : goal.returns-in-LoadPhase-clause-again
returns-in-LoadPhase-clause-again c = rw (c.requires.at ∙ c.in-LoadPhase.is) never

pub returns-in-LoadSet-clause-again : goal.returns-in-LoadSet-clause-again
returns-in-LoadSet-clause-again c = rw (c.requires.at ∙ c.in-LoadSet.is) never

pub returns-in-Loading-clause-again : goal.returns-in-Loading-clause-again
returns-in-Loading-clause-again c = rw (c.requires.at ∙ c.in-Loading.is) never

pub returns-in-OnNumber-clause-again : goal.returns-in-OnNumber-clause-again
returns-in-OnNumber-clause-again c = rw (c.requires.at ∙ c.in-OnNumber.is) never

pub returns-in-Showing-clause-again : goal.returns-in-Showing-clause-again
returns-in-Showing-clause-again c = rw (c.requires.at ∙ c.in-Showing.is) never

pub field-requires-clause-at : goal.field-requires-clause-at
field-requires-clause-at c = c.requires.at ∙ c.in-OnField.is

pub field-requires-clause-order : goal.field-requires-clause-order
field-requires-clause-order c = c.requires.none

pub field-requires-clause-fit : goal.field-requires-clause-fit
field-requires-clause-fit c = c.requires.fit

pub returns-in-OnField-clause-again : goal.returns-in-OnField-clause-again
returns-in-OnField-clause-again c = rw (c.requires.at ∙ c.in-OnField.is) c.field.ensures.again
