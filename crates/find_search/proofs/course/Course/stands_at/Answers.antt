use Rattle.std.proofs.lemmas.Bool.{true_from_ne_false}
use Rattle.shen_core.specs.State.{has_turn}
use Rattle.find_search.proofs.course.Course.stands_at.Goals as goal

pub plan-requires-clause-turn : goal.plan-requires-clause-turn
plan-requires-clause-turn c = true_from_ne_false (has_turn c.args.self.now.plain c.args.number) (λ no_turn. let none_there = c.in-Some.ensures.none.1 no_turn in cc)
