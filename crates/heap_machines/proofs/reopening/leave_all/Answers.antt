use Rattle.std.proofs.Common.{ap, ◌∙◌, arith}
use Rattle.heap_words.specs.Words.{State, write}
use Rattle.image_graph.specs.State.{config_of, memory_of}
use Rattle.image_graph.proofs.NamedStores.{stored}
use Rattle.heap_machines.specs.Reopened.{words_left_out}
use Rattle.heap_machines.proofs.Stored.{none_out, next_out}
use Rattle.heap_machines.proofs.reopening.leave_all.Goals as goal

pub loop-seat-init : goal.loop-seat-init
loop-seat-init c = (c.requires.config, none_out (memory_of c.args.image.now))

pub loop-seat-preserved : goal.loop-seat-preserved
loop-seat-preserved c =
    let loop = c.loop-seat in
    let config = c.args.config in
    let seat_inside = c.loop-seat-test.true in
    let end_known = loop.auto.seat-end in (
      c.set_word.ensures.config ∙ loop.invariant.0,
      stored (config_of loop.image) config (memory_of loop.image) (memory_of c.set_word.new.self) (State loop.seat) c.state_at.result 0 loop.invariant.0 (omega (arith, seat_inside, end_known, c.mutators.ensures, c.helpers.ensures)) c.state_at.ensures c.set_word.ensures.named
          ∙ ap (λ some_memory. write some_memory (State loop.seat) 0) loop.invariant.1 ∙ next_out loop.seat (memory_of c.args.image.now),
    )

pub returns-clause-words : goal.returns-clause-words
returns-clause-words c =
    let loop = c.loop-seat in
    loop.invariant.1 ∙ ap (λ seats. words_left_out seats (memory_of c.args.image.now)) (omega (arith, c.loop-seat-test.false, loop.auto.seat-end, c.mutators.ensures, c.helpers.ensures))
