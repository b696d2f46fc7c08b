use Rattle.std.proofs.Common.{◌<◌, suc, refl, subst, arith}
use Rattle.heap_machines.specs.Inside.{stores_left}
use Rattle.heap_machines.proofs.Inside.{stores_inside}
use Rattle.table_heap.specs.State.{config_in, machine_at}
use Rattle.table_heap.proofs.Inside.{turn_inside, gone_same, gone_orders}
use Rattle.table_heap.proofs.Running.{still_of}
use Rattle.table_heap.proofs.bundle.Bundle.store_words.Goals as goal

pub loop-left-init : goal.loop-left-init
loop-left-init g c = record { turns = (0, refl); here = c.words_to_store-left.ensures.here; left = c.words_to_store-left.ensures.left }

pub store_word-requires-clause-heap : goal.store_word-requires-clause-heap
store_word-requires-clause-heap g c =
    still_of c.args.self.now c.loop-left.self c.args.heap.now (gone_same c.args.number c.loop-left.invariant.turns.0 c.args.self.now c.loop-left.self c.loop-left.invariant.turns.1) c.requires.heap

pub store_word-requires-clause-left : goal.store_word-requires-clause-left
store_word-requires-clause-left g c = subst (λ words_left. 0 < words_left) (c.loop-left.invariant.left c.loop-left-test.true) c.loop-left-test.true

pub store_word-requires-clause-here : goal.store_word-requires-clause-here
store_word-requires-clause-here g c = c.loop-left.invariant.here c.loop-left-test.true

pub loop-left-preserved : goal.loop-left-preserved
loop-left-preserved g c =
    let loop_turn = c.loop-left in
    let made = c.store_word.ensures in
    let left_before = loop_turn.invariant.left c.loop-left-test.true in
    let some_left : 0 < stores_left (config_in loop_turn.self) (machine_at loop_turn.self c.args.number) = subst (λ words_left. 0 < words_left) left_before c.loop-left-test.true in
    let orders = gone_orders c.args.number loop_turn.invariant.turns.0 c.args.self.now loop_turn.self loop_turn.invariant.turns.1 c.requires.orders in
    record {
      turns = (
        suc loop_turn.invariant.turns.0,
        (loop_turn.self, loop_turn.invariant.turns.1, made.same, λ next. turn_inside loop_turn.self c.store_word.new.self c.args.number next (loop_turn.invariant.here c.loop-left-test.true) orders (stores_inside (config_in loop_turn.self) (machine_at loop_turn.self c.args.number) some_left) made.event),
      );
      here = λ more_left. made.here;
      left = λ more_left. (let one_fewer = made.left in omega (arith, one_fewer, left_before));
    }
