use Rattle.std.proofs.Common.{ℕ, ◌<◌}
use Rattle.find_search.specs.Courses.{IsResting}
use Rattle.find_search.proofs.course.Course.do_mutators_rest.Given as goal

abbrev pub invariant-loop-mutator : goal.invariant-loop-mutator
invariant-loop-mutator loop = (mutator : ℕ) → mutator < loop.mutator → IsResting loop.self mutator
