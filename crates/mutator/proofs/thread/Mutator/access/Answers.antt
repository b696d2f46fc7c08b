use Rattle.std.proofs.Common.{◌∙◌, arith}
use Rattle.handshake.specs.EnterRows.{is_ended as is_entered}
use Rattle.mutator.specs.declared.spot.Spot.TheVariants.{OnField, Entering, Loading, OnNumber, Showing}
use Rattle.mutator.proofs.Inside.{ready_at, not_ended}
use Rattle.mutator.proofs.thread.Mutator.access.Goals as goal

pub first_access-requires : goal.first_access-requires
first_access-requires c = c.args.self.now.is_mutator

pub access-requires-clause-seat : goal.access-requires-clause-seat
access-requires-clause-seat c = let real_mutator = c.args.self.now.is_mutator in omega (arith, real_mutator)

pub leave_access-requires : goal.leave_access-requires
leave_access-requires c = let real_mutator = c.args.self.now.is_mutator in omega (arith, real_mutator)

pub access-requires-clause-busy : goal.access-requires-clause-busy
access-requires-clause-busy c = let mutator = c.args.self.now in let spot_ready = ready_at mutator.config mutator.mutator mutator.made mutator.kept mutator.spot (Entering c.in-Entering.at c.in-Entering.then) (c.requires.at ∙ c.in-Entering.is) mutator.ready in not_ended (is_entered c.in-Entering.at) spot_ready.1

pub access-requires-in-Loading : goal.access-requires-in-Loading
access-requires-in-Loading c = let mutator = c.args.self.now in let spot_ready = ready_at mutator.config mutator.mutator mutator.made mutator.kept mutator.spot (Loading c.in-Loading.at) (c.requires.at ∙ c.in-Loading.is) mutator.ready in spot_ready.0

pub access-requires-in-OnNumber : goal.access-requires-in-OnNumber
access-requires-in-OnNumber c = let mutator = c.args.self.now in let spot_ready = ready_at mutator.config mutator.mutator mutator.made mutator.kept mutator.spot (OnNumber c.in-OnNumber.object c.in-OnNumber.refs c.in-OnNumber.at) (c.requires.at ∙ c.in-OnNumber.is) mutator.ready in spot_ready.0

pub access-requires-in-Showing : goal.access-requires-in-Showing
access-requires-in-Showing c = let mutator = c.args.self.now in let spot_ready = ready_at mutator.config mutator.mutator mutator.made mutator.kept mutator.spot (Showing c.in-Showing.value c.in-Showing.at) (c.requires.at ∙ c.in-Showing.is) mutator.ready in spot_ready.0

pub access-requires-in-OnField : goal.access-requires-in-OnField
access-requires-in-OnField c = let mutator = c.args.self.now in let spot_ready = ready_at mutator.config mutator.mutator mutator.made mutator.kept mutator.spot (OnField c.in-OnField.object c.in-OnField.at) (c.requires.at ∙ c.in-OnField.is) mutator.ready in spot_ready.0
