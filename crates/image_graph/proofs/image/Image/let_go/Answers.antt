use Rattle.std.proofs.Common.{◌≡◌, ℕ, ◌<◌, refl, sym, ap, ◌∙◌, subst, arith}
use Rattle.heap_words.specs.declared.config.Config.{Config}
use Rattle.heap_words.specs.Ranges.{seat_count}
use Rattle.heap_words.specs.Words.{Word, Current}
use Rattle.image_graph.specs.SeatBuffers.{IsInside}
use Rattle.image_graph.specs.LetGo.{let_go_at, let_go_below, let_go}
use Rattle.image_graph.specs.State.{config_of, words_of, memory_of}
use Rattle.image_graph.specs.Buffers.{LettingGoHolds}
use Rattle.image_graph.proofs.Loosening.Laws.{letting_go_holds}
use Rattle.image_graph.proofs.BufferTurns.{no_more_seats, let_go_first, let_go_next, let_go_later}
use Rattle.image_graph.proofs.image.Image.let_go.Goals as goal

pub loop-seat-init : goal.loop-seat-init
loop-seat-init c = record { config = refl; words = let_go_first (config_of c.args.self.now) (memory_of c.args.self.now) }

pub let_go_one-requires-clause-inside : goal.let_go_one-requires-clause-inside
let_go_one-requires-clause-inside c =
    let config = config_of c.args.self.now in
    let memory : Word → ℕ = memory_of c.args.self.now in
    let seat = c.loop-seat.seat in
    let same_config : config_of c.loop-seat.self ≡ config = c.loop-seat.invariant.config in
    let word : memory_of c.loop-seat.self (Current seat) ≡ memory (Current seat) = ap (λ (memory : Word → ℕ). memory (Current seat)) c.loop-seat.invariant.words ∙ let_go_later config memory seat seat (omega arith) in
    let seat_below : seat < seat_count config.mutators config.helpers = omega (arith, c.loop-seat-test.true, c.seats-seat-end.ensures) in
    λ some_word. subst (λ (word : ℕ). IsInside (config_of c.loop-seat.self) word) (sym word) (subst (λ (config : Config). IsInside config (memory (Current seat))) (sym same_config) (c.requires seat seat_below (λ no_word. some_word (word ∙ no_word))))

pub loop-seat-preserved : goal.loop-seat-preserved
loop-seat-preserved c =
    let config = config_of c.args.self.now in
    let memory : Word → ℕ = memory_of c.args.self.now in
    let seat = c.loop-seat.seat in
    record {
      config = c.let_go_one.ensures.config ∙ c.loop-seat.invariant.config;
      words = c.let_go_one.ensures.words ∙ ap (λ (config : Config). let_go_at config (memory_of c.loop-seat.self) seat) c.loop-seat.invariant.config
          ∙ ap (λ (memory : Word → ℕ). let_go_at config memory seat) c.loop-seat.invariant.words ∙ let_go_next config memory seat;
    }

pub returns-clause-holds : goal.returns-clause-holds
returns-clause-holds c =
    let config = config_of c.args.self.now in
    let memory : Word → ℕ = memory_of c.args.self.now in
    let all_seats : c.loop-seat.seat ≡ seat_count config.mutators config.helpers = omega (arith, c.loop-seat-test.false, c.loop-seat.auto.seat-end, c.seats-seat-end.ensures) in
    let words_let_go : memory_of c.loop-seat.self ≡ let_go config memory = c.loop-seat.invariant.words ∙ ap (let_go_below config memory) all_seats in
    subst (LettingGoHolds config memory) (sym words_let_go) (letting_go_holds config memory (no_more_seats config (words_of c.args.self.now)))
