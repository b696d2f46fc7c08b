use Rattle.std.proofs.Common.{◌<◌, suc, refl, subst, arith}
use Rattle.heap_machines.specs.Inside.{loads_left}
use Rattle.heap_machines.proofs.Inside.{loads_inside}
use Rattle.table_heap.specs.State.{config_in, machine_at}
use Rattle.table_heap.proofs.Inside.{turn_inside, gone_same, gone_orders}
use Rattle.table_heap.proofs.Running.{still_of}
use Rattle.table_heap.proofs.bundle.Bundle.load_words.Goals as goal

pub loop-left-init : goal.loop-left-init
loop-left-init g c = record { turns = (0, refl); here = c.words_to_load-left.ensures.here; left = c.words_to_load-left.ensures.left }

pub load_word-requires-clause-heap : goal.load_word-requires-clause-heap
load_word-requires-clause-heap g c =
    still_of c.args.self.now c.loop-left.self c.args.heap.now (gone_same c.args.number c.loop-left.invariant.turns.0 c.args.self.now c.loop-left.self c.loop-left.invariant.turns.1) c.requires.heap

pub load_word-requires-clause-left : goal.load_word-requires-clause-left
load_word-requires-clause-left g c = subst (λ words_left. 0 < words_left) (c.loop-left.invariant.left c.loop-left-test.true) c.loop-left-test.true

pub load_word-requires-clause-here : goal.load_word-requires-clause-here
load_word-requires-clause-here g c = c.loop-left.invariant.here c.loop-left-test.true

pub loop-left-preserved : goal.loop-left-preserved
loop-left-preserved g c =
    let loop = c.loop-left in
    let word_loaded = c.load_word.ensures in
    let words_left = loop.invariant.left c.loop-left-test.true in
    let some_left : 0 < loads_left (config_in loop.self) (machine_at loop.self c.args.number) = subst (λ left_count. 0 < left_count) words_left c.loop-left-test.true in
    let orders = gone_orders c.args.number loop.invariant.turns.0 c.args.self.now loop.self loop.invariant.turns.1 c.requires.orders in
    record {
      turns = (
        suc loop.invariant.turns.0,
        (loop.self, loop.invariant.turns.1, word_loaded.same, λ next. turn_inside loop.self c.load_word.new.self c.args.number next (loop.invariant.here c.loop-left-test.true) orders (loads_inside (config_in loop.self) (machine_at loop.self c.args.number) some_left) word_loaded.event),
      );
      here = λ more_left. word_loaded.here;
      left = λ more_left. (let fewer_left = word_loaded.left in omega (arith, fewer_left, words_left));
    }
