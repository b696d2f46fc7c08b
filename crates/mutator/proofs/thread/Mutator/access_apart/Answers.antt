use Rattle.std.proofs.Common.{arith}
use Rattle.std.proofs.lemmas.Bool.{and_parts}
use Rattle.heap_words.specs.Words.{Heap}
use Rattle.heap_words.proofs.Stores.{is_word_true}
use Rattle.satb_barrier.specs.Rows.{is_ended}
use Rattle.load_barrier.specs.Rows.{is_ended as is_resolved}
use Rattle.mutator.specs.declared.spot.Spot.TheVariants.{Resolving, Recording, Making, Pinning, Waiting}
use Rattle.mutator.proofs.Inside.{ready_at, not_ended}
use Rattle.mutator.proofs.thread.Mutator.access_apart.Goals as goal

pub access-requires-clause-seat : goal.access-requires-clause-seat
access-requires-clause-seat c = let real_mutator = c.args.self.now.is_mutator in omega (arith, real_mutator)

pub access-requires-in-Recording-clause-mutator : goal.access-requires-in-Recording-clause-mutator
access-requires-in-Recording-clause-mutator c = c.args.self.now.is_mutator

pub access-requires-in-Making-clause-seat : goal.access-requires-in-Making-clause-seat
access-requires-in-Making-clause-seat c = c.args.self.now.is_mutator

pub access-requires-in-Waiting-clause-seat : goal.access-requires-in-Waiting-clause-seat
access-requires-in-Waiting-clause-seat c = c.args.self.now.is_mutator

pub access-requires-clause-address : goal.access-requires-clause-address
access-requires-clause-address c = let mutator = c.args.self.now in let spot_ready = ready_at mutator.config mutator.mutator mutator.made mutator.kept mutator.spot (Resolving c.in-Resolving.address c.in-Resolving.at c.in-Resolving.next) c.in-Resolving.is mutator.ready in is_word_true mutator.config (Heap c.in-Resolving.address) (and_parts _ _ spot_ready.1).0

pub access-requires-clause-ready : goal.access-requires-clause-ready
access-requires-clause-ready c = let mutator = c.args.self.now in let spot_ready = ready_at mutator.config mutator.mutator mutator.made mutator.kept mutator.spot (Resolving c.in-Resolving.address c.in-Resolving.at c.in-Resolving.next) c.in-Resolving.is mutator.ready in (and_parts _ _ (and_parts _ _ spot_ready.1).1).0

pub access-requires-clause-busy : goal.access-requires-clause-busy
access-requires-clause-busy c = let mutator = c.args.self.now in let spot_ready = ready_at mutator.config mutator.mutator mutator.made mutator.kept mutator.spot (Resolving c.in-Resolving.address c.in-Resolving.at c.in-Resolving.next) c.in-Resolving.is mutator.ready in not_ended (is_resolved c.in-Resolving.at) (and_parts _ _ (and_parts _ _ spot_ready.1).1).1

pub access-requires-in-Recording-clause-ready : goal.access-requires-in-Recording-clause-ready
access-requires-in-Recording-clause-ready c = let mutator = c.args.self.now in let spot_ready = ready_at mutator.config mutator.mutator mutator.made mutator.kept mutator.spot (Recording c.in-Recording.at c.in-Recording.address c.in-Recording.next) c.in-Recording.is mutator.ready in (and_parts _ _ (and_parts _ _ spot_ready.1).1).0

pub access-requires-in-Recording-clause-busy : goal.access-requires-in-Recording-clause-busy
access-requires-in-Recording-clause-busy c = let mutator = c.args.self.now in let spot_ready = ready_at mutator.config mutator.mutator mutator.made mutator.kept mutator.spot (Recording c.in-Recording.at c.in-Recording.address c.in-Recording.next) c.in-Recording.is mutator.ready in not_ended (is_ended c.in-Recording.at) (and_parts _ _ spot_ready.1).0

pub access-requires-in-Pinning : goal.access-requires-in-Pinning
access-requires-in-Pinning c = let mutator = c.args.self.now in let spot_ready = ready_at mutator.config mutator.mutator mutator.made mutator.kept mutator.spot (Pinning c.in-Pinning.value c.in-Pinning.at) c.in-Pinning.is mutator.ready in spot_ready.0

pub access-requires-in-Making-clause-fits : goal.access-requires-in-Making-clause-fits
access-requires-in-Making-clause-fits c = let mutator = c.args.self.now in let spot_ready = ready_at mutator.config mutator.mutator mutator.made mutator.kept mutator.spot (Making c.in-Making.at) c.in-Making.is mutator.ready in spot_ready.0

pub access-requires-in-Making-clause-make : goal.access-requires-in-Making-clause-make
access-requires-in-Making-clause-make c = let mutator = c.args.self.now in let spot_ready = ready_at mutator.config mutator.mutator mutator.made mutator.kept mutator.spot (Making c.in-Making.at) c.in-Making.is mutator.ready in (and_parts _ _ spot_ready.1).0

pub access-requires-in-Making-clause-numbers : goal.access-requires-in-Making-clause-numbers
access-requires-in-Making-clause-numbers c = let mutator = c.args.self.now in let spot_ready = ready_at mutator.config mutator.mutator mutator.made mutator.kept mutator.spot (Making c.in-Making.at) c.in-Making.is mutator.ready in (and_parts _ _ spot_ready.1).1

pub access-requires-in-Waiting-clause-fits : goal.access-requires-in-Waiting-clause-fits
access-requires-in-Waiting-clause-fits c = let mutator = c.args.self.now in let spot_ready = ready_at mutator.config mutator.mutator mutator.made mutator.kept mutator.spot (Waiting c.in-Waiting.at) c.in-Waiting.is mutator.ready in spot_ready.0

pub access-requires-in-Waiting-clause-numbers : goal.access-requires-in-Waiting-clause-numbers
access-requires-in-Waiting-clause-numbers c = let mutator = c.args.self.now in let spot_ready = ready_at mutator.config mutator.mutator mutator.made mutator.kept mutator.spot (Waiting c.in-Waiting.at) c.in-Waiting.is mutator.ready in spot_ready.1
