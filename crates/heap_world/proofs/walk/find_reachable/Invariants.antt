use Rattle.std.proofs.Common.{◌≡◌, ◌≢◌, ◌≤◌, ◌<◌, ◌-◌, ℕ, true, ◌++◌, length, get_or, vec_len, vec_capacity}
use Rattle.heap_world.specs.Walk.{IsMarked, Leads, has, refs_at, currents}
use Rattle.heap_world.proofs.walk.find_reachable.Given as goal

abbrev pub invariant-loop-next : goal.invariant-loop-next
invariant-loop-next locals = record {
  marked : IsMarked locals.first locals.marks locals.order.items;
  room : vec_capacity locals.order ≡ vec_capacity locals.fn.order;
  flags : length locals.marks ≡ length locals.heap;
  within : locals.next ≤ vec_len locals.order;
  led : (address : ℕ) → has locals.order.items address ≡ true → Leads locals.first locals.heap (locals.roots ++ locals.pins) address;
  roots : (address : ℕ) → address ≢ 0 → has (currents locals.first locals.heap (locals.roots ++ locals.pins)) address ≡ true → has locals.order.items address ≡ true;
  closed : (index address : ℕ) → index < locals.next → address ≢ 0 → has (currents locals.first locals.heap (refs_at locals.heap (get_or locals.order.items index 0 - locals.first))) address ≡ true → has locals.order.items address ≡ true;
}

abbrev pub decreases-loop-next : goal.decreases-loop-next
decreases-loop-next locals = length locals.heap - locals.next
