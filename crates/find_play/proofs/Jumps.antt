-- Leaving a part of a program.
use Rattle.std.proofs.Common.{◌≡◌, ℕ, suc, ◌+◌, ◌<◌, ◌≤◌, List, length, get_or, drop, Some, None, refl, add-one, drop-cons, arith}
use Rattle.std.proofs.lemmas.List.{drop_all}
use Rattle.find_play.specs.declared.statement.Statement.{Statement}
use Rattle.find_play.specs.declared.thread.Part.{Part}
use Rattle.find_play.specs.Meaning.{depth_after, after}

pub part_goes_on : (part : Part) (depth next_depth index : ℕ) (default : Statement) (statements : List Statement) → index < length statements → depth_after part depth (get_or statements index default) ≡ Some next_depth → after part depth (drop index statements) ≡ suc (after part next_depth (drop (index + 1) statements))
unfolding after
part_goes_on part depth next_depth index default statements index_below found = rw (add-one, drop-cons statements index default, found) refl

pub part_ends : (part : Part) (depth index : ℕ) (default : Statement) (statements : List Statement) → index < length statements → depth_after part depth (get_or statements index default) ≡ None → after part depth (drop index statements) ≡ 1
unfolding after
part_ends part depth index default statements index_below no_depth = rw (drop-cons statements index default, no_depth) refl

pub none_left : (part : Part) (depth index : ℕ) (statements : List Statement) → length statements ≤ index → after part depth (drop index statements) ≡ 0
unfolding after
none_left part depth index statements index_past = rw (drop_all index statements index_past) refl

pub one_on : (index steps later_steps whole : ℕ) → steps ≡ suc later_steps → index + steps ≡ whole → index + 1 + later_steps ≡ whole
one_on index steps later_steps whole one_more sum = omega (arith, one_more, sum)

pub nothing_on : (index steps whole : ℕ) → steps ≡ 0 → index + steps ≡ whole → index ≡ whole
nothing_on index steps whole no_steps sum = omega (arith, no_steps, sum)
