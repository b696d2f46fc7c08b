use Rattle.std.proofs.Common.{◌-◌, ap, arith}
use Rattle.heap_words.specs.declared.config.Config.{Config}
use Rattle.heap_words.specs.Ranges.{seat_count}
use Rattle.table_heap.proofs.Inside.{gone_same, gone_orders, gone_more}
use Rattle.table_heap.proofs.Running.{same_bundle_more, still_of}
use Rattle.table_heap.proofs.bundle.Bundle.go_through_image.Goals as goal

pub store_words-requires-clause-heap : goal.store_words-requires-clause-heap
store_words-requires-clause-heap g c = λ _ _.
    let turns = c.load_words.ensures.turns in
    still_of c.args.self.now c.load_words.new.self c.args.heap.now (gone_same (c.seats-control.result - 1) turns.0 c.args.self.now c.load_words.new.self turns.1) c.requires.heap

pub store_words-requires-clause-orders : goal.store_words-requires-clause-orders
store_words-requires-clause-orders g c = λ _ _.
    let turns = c.load_words.ensures.turns in
    gone_orders (c.seats-control.result - 1) turns.0 c.args.self.now c.load_words.new.self turns.1 c.requires.orders

pub store_words-requires-clause-number : goal.store_words-requires-clause-number
store_words-requires-clause-number g c = λ _ _.
    let turns = c.load_words.ensures.turns in
    let same_bundle = gone_same (c.seats-control.result - 1) turns.0 c.args.self.now c.load_words.new.self turns.1 in
    let count = ap (λ (config : Config). seat_count config.mutators config.helpers) same_bundle.config in
    let seats = c.seats-control.ensures in
    omega (arith, count, seats)

pub returns-clause-same : goal.returns-clause-same
returns-clause-same g c =
    let first_turns = c.load_words.ensures.turns in
    let later_turns = c.store_words.ensures.turns in
    same_bundle_more c.args.self.now c.load_words.new.self c.store_words.new.self
    (gone_same (c.seats-control.result - 1) first_turns.0 c.args.self.now c.load_words.new.self first_turns.1) (gone_same (c.seats-control.result - 1) later_turns.0 c.load_words.new.self c.store_words.new.self later_turns.1)

pub returns-clause-turns : goal.returns-clause-turns
returns-clause-turns g c =
    let first_turns = c.load_words.ensures.turns in
    let later_turns = c.store_words.ensures.turns in
    let control = c.seats-control.result - 1 in
    let all_turns = gone_more control later_turns.0 first_turns.0 c.args.self.now c.load_words.new.self c.store_words.new.self first_turns.1 later_turns.1 in
    (control, all_turns.0, all_turns.1)
