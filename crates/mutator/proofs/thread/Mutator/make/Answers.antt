use Rattle.std.proofs.lemmas.Bool.{and_parts}
use Rattle.mutator.specs.declared.spot.Spot.TheVariants.{Making}
use Rattle.mutator.proofs.Inside.{ready_at}
use Rattle.std.proofs.Common.{refl}
use Rattle.shen_graph.specs.declared.order.Order.TheVariants.{Nothing}
use Rattle.mutator.specs.Seen.{seen}
use Rattle.mutator.proofs.Goes.{ready_next}
use Rattle.mutator.proofs.Making.{can_make_more, making_goes}
use Rattle.mutator.proofs.thread.Mutator.make.Goals as goal

pub made_after-self-requires : goal.made_after-self-requires
made_after-self-requires c = search (can_make_more)

pub after-next-requires-clause-seat : goal.after-next-requires-clause-seat
after-next-requires-clause-seat c = c.args.self.now.is_mutator

pub after-next-requires-clause-fits : goal.after-next-requires-clause-fits
after-next-requires-clause-fits c = let mutator = c.args.self.now in let spot_ready = ready_at mutator.config mutator.mutator mutator.made mutator.kept mutator.spot (Making c.args.at) c.requires.at mutator.ready in spot_ready.0

pub after-next-requires-clause-make : goal.after-next-requires-clause-make
after-next-requires-clause-make c = let mutator = c.args.self.now in let spot_ready = ready_at mutator.config mutator.mutator mutator.made mutator.kept mutator.spot (Making c.args.at) c.requires.at mutator.ready in (and_parts _ _ spot_ready.1).0

pub after-next-requires-clause-numbers : goal.after-next-requires-clause-numbers
after-next-requires-clause-numbers c = let mutator = c.args.self.now in let spot_ready = ready_at mutator.config mutator.mutator mutator.made mutator.kept mutator.spot (Making c.args.at) c.requires.at mutator.ready in (and_parts _ _ spot_ready.1).1

pub after-next-requires-clause-fit : goal.after-next-requires-clause-fit
after-next-requires-clause-fit c = let mutator = c.args.self.now in
    making_goes mutator.config (seen mutator) c.args.at c.args.got (ready_next mutator.config (seen mutator) Nothing c.args.got (Making c.args.at) _ c.requires.at refl c.requires.fit.0)
