use Rattle.std.proofs.Common.{sym, ap, ◌∙◌}
use Rattle.mutator.specs.declared.spot.Spot.{Spot}
use Rattle.mutator.specs.declared.spot.Spot.TheVariants.{Recording, Pinning}
use Rattle.shen_graph.specs.declared.order.Order.TheVariants.{Nothing}
use Rattle.mutator.specs.Rows.{Mutating, after_remember}
use Rattle.mutator.specs.Seen.{seen}
use Rattle.mutator.proofs.Again.{never, makes_where_it_waits, polls_where_it_waits}
use Rattle.mutator.proofs.Goes.{pending, ready_next}
use Rattle.mutator.proofs.thread.Mutator.go_on_apart.Goals as goal

-- the mutator at a spot
abbrev at_spot : Mutating → Spot → Mutating
at_spot mutator spot = record mutator { spot = spot }

pub invariant_of-self : goal.invariant_of-self
invariant_of-self c =
    let mutator = c.args.self.now in
    let row = sym (c.remember-self.ensures ∙ ap (after_remember c.in-Recording.address c.in-Recording.next) c.after.ensures.row) in
    record {
      is_mutator = mutator.is_mutator;
      allowed = pending _ _ _ c.requires.none;
      ready = ready_next mutator.config (seen mutator) Nothing c.args.got (Recording c.in-Recording.at c.in-Recording.address c.in-Recording.next) (at_spot (seen mutator) c.remember-self.result) c.in-Recording.is (ap (at_spot (seen mutator)) row) c.requires.fit.0;
    }

pub invariant_of-self-in-Pinning : goal.invariant_of-self-in-Pinning
invariant_of-self-in-Pinning c =
    let mutator = c.args.self.now in
    record {
      is_mutator = mutator.is_mutator;
      allowed = pending _ _ _ c.requires.none;
      ready = ready_next mutator.config (seen mutator) Nothing c.args.got (Pinning c.in-Pinning.value c.in-Pinning.at) (at_spot (seen mutator) c.after-self.result) c.in-Pinning.is (ap (at_spot (seen mutator)) (sym c.after-self.ensures)) c.requires.fit.0;
    }

pub returns-in-Waiting-clause-again : goal.returns-in-Waiting-clause-again
returns-in-Waiting-clause-again c = rw (c.in-Waiting.is, c.wait.ensures.answer) (polls_where_it_waits c.in-Waiting.at c.args.got)

pub returns-in-Making-clause-again : goal.returns-in-Making-clause-again
returns-in-Making-clause-again c = let mutator = c.args.self.now in rw (c.in-Making.is, c.make.ensures.answer) (makes_where_it_waits mutator.config mutator.kept.command c.in-Making.at c.args.got)

pub resolve-requires-clause-at : goal.resolve-requires-clause-at
resolve-requires-clause-at c = c.in-Resolving.is

pub resolve-requires-clause-order : goal.resolve-requires-clause-order
resolve-requires-clause-order c = c.requires.none

pub resolve-requires-clause-fit : goal.resolve-requires-clause-fit
resolve-requires-clause-fit c = c.requires.fit

pub make-requires-clause-at : goal.make-requires-clause-at
make-requires-clause-at c = c.in-Making.is

pub make-requires-clause-order : goal.make-requires-clause-order
make-requires-clause-order c = c.requires.none

pub make-requires-clause-fit : goal.make-requires-clause-fit
make-requires-clause-fit c = c.requires.fit

pub wait-requires-clause-at : goal.wait-requires-clause-at
wait-requires-clause-at c = c.in-Waiting.is

pub wait-requires-clause-order : goal.wait-requires-clause-order
wait-requires-clause-order c = c.requires.none

pub wait-requires-clause-fit : goal.wait-requires-clause-fit
wait-requires-clause-fit c = c.requires.fit

pub returns-in-Recording-clause-again : goal.returns-in-Recording-clause-again
returns-in-Recording-clause-again c = rw c.in-Recording.is never

pub returns-in-Pinning-clause-again : goal.returns-in-Pinning-clause-again
returns-in-Pinning-clause-again c = rw c.in-Pinning.is never
