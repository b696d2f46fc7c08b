use Rattle.std.proofs.Common.{sym, ap}
use Rattle.shen_graph.specs.declared.order.Order.TheVariants.{Nothing}
use Rattle.mutator.specs.declared.spot.Spot.{Spot}
use Rattle.mutator.specs.declared.spot.Spot.TheVariants.{OnField}
use Rattle.mutator.specs.Rows.{Mutating}
use Rattle.mutator.specs.Seen.{seen}
use Rattle.mutator.proofs.Again.{says_where_it_waits}
use Rattle.mutator.proofs.Goes.{pending, ready_next, part_at}
use Rattle.mutator.proofs.thread.Mutator.field.Goals as goal

-- the mutator at a spot
abbrev at_spot : Mutating → Spot → Mutating
at_spot mutator spot = record mutator { spot = spot }

pub after-self-requires : goal.after-self-requires
after-self-requires c =
    let mutator = c.args.self.now in
    part_at mutator.config mutator.mutator mutator.kept mutator.spot (OnField c.args.object c.args.at) c.args.got c.requires.at c.requires.fit.1

pub invariant_of-self : goal.invariant_of-self
invariant_of-self c =
    let mutator = c.args.self.now in
    record {
      is_mutator = mutator.is_mutator;
      allowed = pending _ _ _ c.requires.order;
      ready = ready_next mutator.config (seen mutator) Nothing c.args.got (OnField c.args.object c.args.at) (at_spot (seen mutator) c.after-self.result) c.requires.at (ap (at_spot (seen mutator)) (sym c.after-self.ensures)) c.requires.fit.0;
    }

pub returns-clause-again : goal.returns-clause-again
returns-clause-again c = rw c.says.ensures (says_where_it_waits c.args.object c.args.at c.args.got)
