use Rattle.shen_core.specs.State.{machines_of}
use Rattle.heap_tests.proofs.LeftAtRest.{opened_begins}
use Rattle.heap_tests.proofs.hints.hints_change_no_mark.Goals as goal

pub make_calls-requires-clause-rest : goal.make_calls-requires-clause-rest
make_calls-requires-clause-rest g c = opened_begins c.in_ok-config.config (machines_of c.in_ok-plain.plain) c.in_ok-plain.ensures.opening.machines_are c.in_ok-config.ensures.mutators c.in_ok-config.ensures.helpers
