use Rattle.std.proofs.Common.{rules, ◌≡◌, ◌-◌, ◌<◌, [], ◌++◌, length, get_or, arith, ap, sym, ◌∙◌}
use Rattle.std.proofs.lemmas.List.{get_or_read, length-append}
use Rattle.std.proofs.lemmas.Bool.{false≢true}
use Rattle.heap_world.specs.Walk.{has, refs_at, currents, IsNamed, from_root, from_field, with_addresses}
use Rattle.heap_world.proofs.TakenDown.{few, kept, new, prefix, has-left, has-right}
use Rattle.heap_world.proofs.Walks.{all_named-in, IsMarked-none, all_among, led_step, closed_step, has-read, IsWalk-from, currents-left, currents-right, taken_both}
use Rattle.heap_world.proofs.walk.find_reachable.Goals as goal

pub take_each_down-requires-clause-named : goal.take_each_down-requires-clause-named
take_each_down-requires-clause-named c =
    all_named-in c.args.roots.now (IsNamed c.args.first c.args.heap.now)
    (λ address among. c.requires.sound.roots_named address (has-left c.args.roots.now c.args.pins.now address among))

pub take_each_down-requires-clause-marked : goal.take_each_down-requires-clause-marked
take_each_down-requires-clause-marked c =
    IsMarked-none _ _ _ _ (c.fill.ensures.after (λ y h. search rules)) c.clear.ensures.items

pub take_each_down-requires-clause-among : goal.take_each_down-requires-clause-among
take_each_down-requires-clause-among c =
    all_among c.args.first c.args.heap.now (c.args.roots.now ++ c.args.pins.now) _ _ c.requires.sound (omega arith)
    (λ address some_address among. from_root address some_address (currents-left c.args.first c.args.heap.now c.args.roots.now c.args.pins.now address among))

pub take_each_down-requires-2-clause-named : goal.take_each_down-requires-2-clause-named
take_each_down-requires-2-clause-named c =
    all_named-in c.args.pins.now (IsNamed c.args.first c.args.heap.now)
    (λ address among. c.requires.sound.roots_named address (has-right c.args.roots.now c.args.pins.now address among))

pub take_each_down-requires-2-clause-among : goal.take_each_down-requires-2-clause-among
take_each_down-requires-2-clause-among c =
    all_among c.args.first c.args.heap.now (c.args.roots.now ++ c.args.pins.now) _ _ c.requires.sound (omega arith)
    (λ address some_address among. from_root address some_address (currents-right c.args.first c.args.heap.now c.args.roots.now c.args.pins.now address among))

pub loop-next-init : goal.loop-next-init
loop-next-init c =
    let first = c.args.first in
    let heap = c.args.heap.now in
    let words = c.args.roots.now ++ c.args.pins.now in
    let start = c.take_each_down-2.ensures.taken
    ∙ ap (λ address_list. with_addresses address_list (currents first heap c.args.pins.now))
    (c.take_each_down.ensures.taken ∙ ap (λ address_list. with_addresses address_list (currents first heap c.args.roots.now)) c.clear.ensures.items)
    ∙ taken_both first heap [] c.args.roots.now c.args.pins.now in
    record {
      marked = c.take_each_down-2.ensures.marked;
      room = omega arith;
      flags = omega arith;
      within = omega arith;
      led = (λ reached_address among.
          led_step first heap words [] (currents first heap words) (λ reached_address has_nothing. absurd (false≢true has_nothing)) from_root reached_address
          (ap (λ address_list. has address_list reached_address) (sym start) ∙ among));
      roots = (λ reached_address some_address among. ap (λ address_list. has address_list reached_address) start ∙ new [] (currents first heap words) reached_address some_address among);
      closed = (λ index reached_address low. absurd (omega arith));
    }

pub overflow_sub-index : goal.overflow_sub-index
overflow_sub-index c =
    c.requires.sound.above _
    (c.loop-next.invariant.led _ (has-read _ c.loop-next.next _ (omega arith) c.index.ensures))

pub references-requires : goal.references-requires
references-requires c =
    let found_address = c.index.result.now in
    let led = c.loop-next.invariant.led found_address (has-read _ c.loop-next.next found_address (omega arith) c.index.ensures) in
    omega (arith, c.requires.sound.above found_address led, c.requires.sound.below found_address led)

pub take_each_down-requires-in-loop-next-clause-named :
    goal.take_each_down-requires-in-loop-next-clause-named
take_each_down-requires-in-loop-next-clause-named c =
    let found_address = c.index.result.now in
    let led = c.loop-next.invariant.led found_address (has-read _ c.loop-next.next found_address (omega arith) c.index.ensures) in
    all_named-in c.references.result.now (IsNamed c.args.first c.args.heap.now)
    (λ address among. c.requires.sound.fields_named found_address address led (ap (λ address_list. has address_list address) (sym c.references.ensures) ∙ among))

pub take_each_down-requires-in-loop-next-clause-among :
    goal.take_each_down-requires-in-loop-next-clause-among
take_each_down-requires-in-loop-next-clause-among c =
    let found_address = c.index.result.now in
    let led = c.loop-next.invariant.led found_address (has-read _ c.loop-next.next found_address (omega arith) c.index.ensures) in
    all_among c.args.first c.args.heap.now (c.args.roots.now ++ c.args.pins.now) _ _ c.requires.sound (omega arith)
    (λ address some_address among. from_field found_address address led some_address (ap (λ address_list. has (currents c.args.first c.args.heap.now address_list) address) (sym c.references.ensures) ∙ among))

pub loop-next-smaller : goal.loop-next-smaller
loop-next-smaller c =
    omega (arith, few c.args.first c.loop-next.marks c.loop-next.order.items c.loop-next.invariant.marked)

pub loop-next-preserved : goal.loop-next-preserved
loop-next-preserved c =
    let first = c.args.first in
    let heap = c.args.heap.now in
    let roots = c.args.roots.now ++ c.args.pins.now in
    let order = c.loop-next.order.items in
    let words = currents first heap c.references.result.now in
    let found_address = c.index.result.now in
    let low : c.loop-next.next < length order = omega arith in
    let led = c.loop-next.invariant.led found_address (has-read order c.loop-next.next found_address low c.index.ensures) in
    let taken = c.take_each_down-in-loop-next.ensures.taken in
    let next_of_order : found_address ≡ get_or order c.loop-next.next 0 = get_or_read order c.loop-next.next found_address low c.index.ensures 0 in
    let fields : words ≡ currents first heap (refs_at heap (get_or order c.loop-next.next 0 - first)) =
    ap (currents first heap) (c.references.ensures ∙ ap (λ y. refs_at heap (y - first)) next_of_order) in
    record {
      marked = c.take_each_down-in-loop-next.ensures.marked;
      room = omega arith;
      flags = omega arith;
      within = (let order_prefix = prefix order words in
          omega (arith, ap length taken, ap length order_prefix.1, length-append order order_prefix.0));
      led = (λ reached_address among.
          led_step first heap roots order words c.loop-next.invariant.led
          (λ address some_address among_fields. from_field found_address address led some_address (ap (λ address_list. has (currents first heap address_list) address) (sym c.references.ensures) ∙ among_fields)) reached_address
          (ap (λ address_list. has address_list reached_address) (sym taken) ∙ among));
      roots = (λ reached_address some_address among. ap (λ address_list. has address_list reached_address) taken ∙ kept order words reached_address (c.loop-next.invariant.roots reached_address some_address among));
      closed = (rw taken (closed_step first heap order words c.loop-next.next low fields c.loop-next.invariant.closed));
    }

pub returns-clause-walk : goal.returns-clause-walk
returns-clause-walk c =
    IsWalk-from c.args.first c.args.heap.now (c.args.roots.now ++ c.args.pins.now) c.loop-next.order.items c.loop-next.marks c.loop-next.next
    c.loop-next.invariant.marked c.loop-next.invariant.led c.loop-next.invariant.roots c.loop-next.invariant.closed
    (omega arith)
