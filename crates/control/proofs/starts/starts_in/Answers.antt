use Rattle.std.proofs.Common.{◌≡◌, ◌≢◌, ◌<◌, set, ⊎_elim, sym, ap, ◌∙◌, subst, arith, length-set}
use Rattle.std.specs.Prelude.{slice_index}
use Rattle.std.proofs.lemmas.Bool.{cases_eq}
use Rattle.std.proofs.lemmas.List.{get_or-set_same, get_or-set_other}
use Rattle.heap_words.specs.declared.config.Config.{Config}
use Rattle.heap_words.specs.Ranges.{seat_count}
use Rattle.heap_words.specs.Words.{Current, word_at}
use Rattle.image_graph.specs.SeatBuffers.{IsInside}
use Rattle.image_graph.specs.State.{config_of, memory_of}
use Rattle.control.specs.Starts.{start_index, IsHeapIndex, AreHeapIndices}
use Rattle.control.proofs.Starting.{one_more_of_heap}
use Rattle.control.proofs.starts.starts_in.Goals as goal

pub loop-seat-init : goal.loop-seat-init
loop-seat-init c = record {
  long = omega arith;
  of_seat = λ seat seat_less. absurd (omega (arith, seat_less));
  heap = subst (λ config. AreHeapIndices config c.no_starts-starts.result) c.config-config.ensures c.no_starts-starts.ensures;
}

pub start_of-requires : goal.start_of-requires
start_of-requires c =
    let config = config_of c.args.image.now in
    let memory = memory_of c.args.image.now in
    let seat = c.loop-seat.seat in
    let same_config = c.config-config.ensures in
    let seat_below : seat < seat_count config.mutators config.helpers = omega (arith, c.loop-seat-test.true, c.seats-seat-end.ensures, ap (λ (config : Config). seat_count config.mutators config.helpers) same_config) in
    let word : c.word.result ≡ memory (Current seat) = c.word.ensures.named (Current seat) seat_below (sym (c.cur_at.ensures ∙ ap (λ any_config. word_at any_config (Current seat)) same_config)) in
    λ some_buffer. subst (λ (config : Config). IsInside config c.word.result) (sym same_config) (subst (IsInside config) (sym word) (c.requires seat seat_below (λ no_buffer. some_buffer (word ∙ no_buffer))))

pub loop-seat-preserved : goal.loop-seat-preserved
loop-seat-preserved c =
    let config = config_of c.args.image.now in
    let memory = memory_of c.args.image.now in
    let seat = c.loop-seat.seat in
    let starts = c.loop-seat.starts in
    let same_config = c.config-config.ensures in
    let seat_below : seat < seat_count config.mutators config.helpers = omega (arith, c.loop-seat-test.true, c.seats-seat-end.ensures, ap (λ (config : Config). seat_count config.mutators config.helpers) same_config) in
    let mutators = config.in_range.most_mutators in
    let helpers = config.in_range.most_helpers in
    let word : c.word.result ≡ memory (Current seat) = c.word.ensures.named (Current seat) seat_below (sym (c.cur_at.ensures ∙ ap (λ any_config. word_at any_config (Current seat)) same_config)) in
    let start : c.start_of.result ≡ start_index config (memory (Current seat)) = c.start_of.ensures.value ∙ ap (λ any_config. start_index any_config c.word.result) same_config ∙ ap (start_index config) word in
    let starts_length = c.loop-seat.invariant.long in
    record {
      long = length-set starts seat c.start_of.result ∙ starts_length;
      of_seat = λ other_seat seat_less. ⊎_elim
          (λ (same_seat : other_seat ≡ seat). subst (λ other_seat. slice_index (set starts seat c.start_of.result) other_seat ≡ start_index config (memory (Current other_seat))) (sym same_seat)
          (get_or-set_same starts seat c.start_of.result 0 (omega (arith, starts_length, seat_below, mutators, helpers)) ∙ start))
          (λ (seat_differs : other_seat ≢ seat). get_or-set_other starts seat other_seat c.start_of.result 0 seat_differs ∙ c.loop-seat.invariant.of_seat other_seat (omega (arith, seat_less, seat_differs)))
          (cases_eq other_seat seat);
      heap = one_more_of_heap config starts seat c.start_of.result (subst (λ any_config. IsHeapIndex any_config c.start_of.result) same_config c.start_of.ensures.heap) c.loop-seat.invariant.heap;
    }

pub returns-clause-are : goal.returns-clause-are
returns-clause-are c =
    let seats = ap (λ (config : Config). seat_count config.mutators config.helpers) c.config-config.ensures in
    record {
      long = c.loop-seat.invariant.long;
      of_seat = λ seat seat_below. c.loop-seat.invariant.of_seat seat (omega (arith, seat_below, c.loop-seat-test.false, c.seats-seat-end.ensures, seats));
    }
