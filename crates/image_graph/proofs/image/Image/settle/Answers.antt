use Rattle.std.proofs.Common.{◌≡◌, ℕ, ◌<◌, refl, sym, ap, ◌∙◌, subst, arith}
use Rattle.heap_words.specs.declared.config.Config.{Config}
use Rattle.heap_words.specs.Ranges.{seat_count}
use Rattle.heap_words.specs.Words.{Word, Current}
use Rattle.image_graph.specs.SeatBuffers.{IsInside}
use Rattle.image_graph.specs.Settled.{settled_at, settled_below, buffers_settled}
use Rattle.image_graph.specs.State.{config_of, words_of, memory_of}
use Rattle.image_graph.specs.Buffers.{SettlingHolds}
use Rattle.image_graph.proofs.Loosening.Laws.{settling_holds}
use Rattle.image_graph.proofs.BufferTurns.{no_more_seats, settled_first, settled_next, settled_later}
use Rattle.image_graph.proofs.image.Image.settle.Goals as goal

pub loop-seat-init : goal.loop-seat-init
loop-seat-init c = record { config = refl; words = settled_first (config_of c.args.self.now) (memory_of c.args.self.now) }

pub settle_one-requires-clause-inside : goal.settle_one-requires-clause-inside
settle_one-requires-clause-inside c =
    let config = config_of c.args.self.now in
    let memory : Word → ℕ = memory_of c.args.self.now in
    let seat = c.loop-seat.seat in
    let same_config : config_of c.loop-seat.self ≡ config = c.loop-seat.invariant.config in
    let word : memory_of c.loop-seat.self (Current seat) ≡ memory (Current seat) = ap (λ (memory : Word → ℕ). memory (Current seat)) c.loop-seat.invariant.words ∙ settled_later config memory seat seat (omega arith) in
    let seat_below : seat < seat_count config.mutators config.helpers = omega (arith, c.loop-seat-test.true, c.seats-seat-end.ensures) in
    λ some_word. subst (λ (word : ℕ). IsInside (config_of c.loop-seat.self) word) (sym word) (subst (λ (config : Config). IsInside config (memory (Current seat))) (sym same_config) (c.requires seat seat_below (λ no_word. some_word (word ∙ no_word))))

pub loop-seat-preserved : goal.loop-seat-preserved
loop-seat-preserved c =
    let config = config_of c.args.self.now in
    let memory : Word → ℕ = memory_of c.args.self.now in
    let seat = c.loop-seat.seat in
    record {
      config = c.settle_one.ensures.config ∙ c.loop-seat.invariant.config;
      words = c.settle_one.ensures.words ∙ ap (λ (config : Config). settled_at config (memory_of c.loop-seat.self) seat) c.loop-seat.invariant.config
          ∙ ap (λ (memory : Word → ℕ). settled_at config memory seat) c.loop-seat.invariant.words ∙ settled_next config memory seat;
    }

pub returns-clause-holds : goal.returns-clause-holds
returns-clause-holds c =
    let config = config_of c.args.self.now in
    let memory : Word → ℕ = memory_of c.args.self.now in
    let all_seats : c.loop-seat.seat ≡ seat_count config.mutators config.helpers = omega (arith, c.loop-seat-test.false, c.loop-seat.auto.seat-end, c.seats-seat-end.ensures) in
    let words_settled : memory_of c.loop-seat.self ≡ buffers_settled config memory = c.loop-seat.invariant.words ∙ ap (settled_below config memory) all_seats in
    subst (SettlingHolds config memory) (sym words_settled) (settling_holds config memory (no_more_seats config (words_of c.args.self.now)))
