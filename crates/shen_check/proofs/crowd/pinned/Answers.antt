use Rattle.std.proofs.Common.{◌≡◌, ℕ, ◌+◌, ◌-◌, ◌≤◌, ◌++◌, List, refl, ap, sym, ◌∙◌, append_assoc, append-nil, arith}
use Rattle.std.specs.Prelude.{Option}
use Rattle.std.specs.List.{flat_map, range_with_len}
use Rattle.shen_graph.specs.declared.pin.Pinned.{Pinned}
use Rattle.shen_graph.specs.PlainGraph.{graph_of}
use Rattle.shen_check.specs.JudgeState.{slot_held, pins_held}
use Rattle.shen_check.proofs.LiveSums.{flat_more}
use Rattle.shen_check.proofs.crowd.pinned.Goals as goal
use Rattle.shen_check.proofs.crowd.pinned.Goals.{in-Some+in_ok-push, in_default, else-loop-thread-test, then-loop-thread-test+else-loop-slot-test+else-thread-threads}

-- one slot more
slot_more : (pin : ℕ → Option Pinned) (slot i : ℕ) (before held_pins after : List Pinned) → i ≡ slot → held_pins ≡ before ++ flat_map (λ thread. slot_held (pin thread)) (range_with_len 0 slot) → after ≡ held_pins ++ slot_held (pin slot)
    → after ≡ before ++ flat_map (λ thread. slot_held (pin thread)) (range_with_len 0 (slot + 1))
slot_more pin slot other_slot before held_pins after number so_far after_is =
    after_is ∙ ap (λ (pins : List Pinned). pins ++ slot_held (pin slot)) so_far
    ∙ append_assoc before (flat_map (λ thread. slot_held (pin thread)) (range_with_len 0 slot)) (slot_held (pin slot))
    ∙ ap (λ (pins : List Pinned). before ++ pins) (sym (flat_more (λ thread. slot_held (pin thread)) 0 slot slot (omega arith)))

-- one thread more
thread_more : (pin : ℕ → ℕ → Option Pinned) (thread : ℕ) → 1 ≤ thread
    → flat_map (λ thread. flat_map (λ slot. slot_held (pin thread slot)) (range_with_len 0 4)) (range_with_len 1 thread)
    ≡ flat_map (λ thread. flat_map (λ slot. slot_held (pin thread slot)) (range_with_len 0 4)) (range_with_len 1 (thread - 1)) ++ flat_map (λ slot. slot_held (pin thread slot)) (range_with_len 0 4)
thread_more pin thread thread_positive =
    let pins_of : ℕ → List Pinned = λ given_thread. flat_map (λ slot. slot_held (pin given_thread slot)) (range_with_len 0 4) in
    let same_thread : (thread - 1) + 1 ≡ thread = omega (arith, thread_positive) in
    ap (λ (count : ℕ). flat_map pins_of (range_with_len 1 count)) (sym same_thread) ∙ flat_more pins_of 1 (thread - 1) thread (omega (arith, thread_positive))

-- what the slots of a thread hold too
thread_held : (pin : ℕ → ℕ → Option Pinned) (thread slot : ℕ) (before held_pins : List Pinned) → 1 ≤ thread → slot ≡ 4
    → before ≡ flat_map (λ thread. flat_map (λ slot. slot_held (pin thread slot)) (range_with_len 0 4)) (range_with_len 1 (thread - 1)) → held_pins ≡ before ++ flat_map (λ slot. slot_held (pin thread slot)) (range_with_len 0 slot)
    → held_pins ≡ flat_map (λ thread. flat_map (λ slot. slot_held (pin thread slot)) (range_with_len 0 4)) (range_with_len 1 (thread + 1 - 1))
thread_held pin thread slot before held_pins thread_positive all_slots so_far held_is =
    let pins_of : ℕ → List Pinned = λ given_thread. flat_map (λ slot. slot_held (pin given_thread slot)) (range_with_len 0 4) in
    let same_thread : thread + 1 - 1 ≡ thread = omega arith in
    held_is ∙ ap (λ (count : ℕ). before ++ flat_map (λ slot. slot_held (pin thread slot)) (range_with_len 0 count)) all_slots
    ∙ ap (λ (pins : List Pinned). pins ++ pins_of thread) so_far ∙ sym (thread_more pin thread thread_positive) ∙ ap (λ (count : ℕ). flat_map pins_of (range_with_len 1 count)) (sym same_thread)

pub loop-slot-preserved : goal.loop-slot-preserved
loop-slot-preserved c =
    let pin = (graph_of c.args.graph.now).pin c.loop-thread.thread in
    elim c.match-pin_of.branch [
      | in-Some+in_ok-push w ↦
          slot_more pin c.loop-slot.slot c.loop-slot.slot c.loop-thread.held.items c.loop-slot.held.items c.match-pin_of.held.items refl c.loop-slot.invariant
          (ap (λ held. held.items) w.held-is ∙ w.in_ok-push.ensures.items ∙ ap (λ pinned. c.loop-slot.held.items ++ slot_held pinned) (sym w.in-Some.is ∙ c.pin_of.ensures))
      | in_default w ↦
          slot_more pin c.loop-slot.slot c.loop-slot.slot c.loop-thread.held.items c.loop-slot.held.items c.match-pin_of.held.items refl c.loop-slot.invariant
          (ap (λ held. held.items) w.held-is ∙ sym (append-nil c.loop-slot.held.items) ∙ ap (λ pinned. c.loop-slot.held.items ++ slot_held pinned) (sym w.in_default.is ∙ c.pin_of.ensures))
    ]

pub loop-thread-preserved : goal.loop-thread-preserved
loop-thread-preserved c =
    let pin = (graph_of c.args.graph.now).pin in
    let all_slots : c.loop-slot.slot ≡ 4 = omega (arith, c.loop-slot-test.false, c.loop-slot.auto.slot-end) in
    record {
      held = thread_held pin c.loop-thread.thread c.loop-slot.slot c.loop-thread.held.items c.loop-slot.held.items c.loop-thread.auto.thread all_slots c.loop-thread.invariant.held c.loop-slot.invariant;
      within = omega (arith, c.loop-thread-test.true);
    }

pub returns : goal.returns
returns c =
    let g = graph_of c.args.graph.now in
    let pin = g.pin in
    elim c.loop-thread-test.branch [
      | else-loop-thread-test w ↦ (
          let all_threads : c.loop-thread.thread - 1 ≡ c.args.threads = omega (arith, w.loop-thread-test.false, c.loop-thread.invariant.within) in
          ap (λ held. held.items) w.held-is ∙ c.loop-thread.invariant.held ∙ ap (pins_held g) all_threads)
      | then-loop-thread-test+else-loop-slot-test+else-thread-threads w ↦ (
          let all_slots : w.loop-slot.slot ≡ 4 = omega (arith, w.loop-slot-test.false, w.loop-slot.auto.slot-end) in
          let all_threads : c.loop-thread.thread + 1 - 1 ≡ c.args.threads = omega (arith, w.loop-thread-test.true) in
          ap (λ held. held.items) w.held-is
          ∙ thread_held pin c.loop-thread.thread w.loop-slot.slot c.loop-thread.held.items w.loop-slot.held.items c.loop-thread.auto.thread all_slots c.loop-thread.invariant.held w.loop-slot.invariant
          ∙ ap (pins_held g) all_threads)
    ]
