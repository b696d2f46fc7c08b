-- Where a memory reads 0 at all that is no word of the table, so it does once buffers were settled, or let go.
use Rattle.std.proofs.Common.{◌≡◌, ◌≢◌, ℕ, ◌+◌, ◌-◌, ◌*◌, ◌<◌, ◌≤◌, Bool, true, false, zero, suc, ⊎_elim, refl, sym, ap, ◌∙◌, subst, arith}
use Rattle.std.specs.Prelude.{◌==◌, ◌||◌, nat_lt, nat_le, if◌then◌else◌}
use Rattle.std.proofs.Math.Nat.{mul-le-mul_right}
use Rattle.std.proofs.lemmas.Bool.{cases_Bool, cases_eq, cases_lt, cond-true, cond-false, and_from, eq-eqb, le-leb, lt-ltb, le-ltb, true≢false}
use Rattle.heap_words.specs.declared.config.Config.{Config}
use Rattle.heap_words.specs.Ranges.{seat_count}
use Rattle.heap_words.specs.Encoding.{filler_header, next_in, end_in}
use Rattle.heap_words.specs.Words.{Word, Top, Current, Heap, is_word, same_word, write}
use Rattle.heap_words.proofs.Stores.{same_word_true}
use Rattle.regions.specs.Place.{base_of}
use Rattle.image_graph.specs.SeatBuffers.{buffer_region, is_last, filled_over, IsInside, AreInside}
use Rattle.image_graph.specs.Settled.{settled_at, settled_below, buffers_settled}
use Rattle.image_graph.specs.LetGo.{given_back, let_go_at, let_go_below, let_go}
use Rattle.image_graph.proofs.Settling as settling
use Rattle.image_graph.proofs.LettingGo as letting_go
use Rattle.cycle_pauses.proofs.Full.Outside.{IsZeroOutside}

-- a word of the table is written
write_outside : (config : Config) (memory : Word → ℕ) (word : Word) (value : ℕ) → is_word config word ≡ true → IsZeroOutside config memory → IsZeroOutside config (write memory word value)
write_outside config memory asked_word value real_word nothing word no_word = ⊎_elim
    (λ (same_name : same_word asked_word word ≡ true). absurd (true≢false (sym real_word ∙ ap (is_word config) (same_word_true asked_word word same_name) ∙ no_word)))
    (λ (differs : same_word asked_word word ≡ false). cond-false (same_word asked_word word) value (memory word) differs ∙ nothing word no_word)
    (cases_Bool (same_word asked_word word))

-- one of two memories
either_outside : (config : Config) (holds : Bool) (memory second_memory : Word → ℕ) → (holds ≡ true → IsZeroOutside config memory) → (holds ≡ false → IsZeroOutside config second_memory) → IsZeroOutside config (if holds then memory else second_memory)
either_outside config true memory second_memory first_outside second_outside = first_outside refl
either_outside config false memory second_memory first_outside second_outside = second_outside refl

module _ (config : Config) (memory : Word → ℕ) (word : ℕ) (nothing : IsZeroOutside config memory) where
  -- the free words of a buffer are words of the heap
  heap_word : IsInside config word → next_in word < end_in word → is_word config (Heap (next_in word)) ≡ true
  heap_word inside some_free =
      let from = inside.from_base in
      let end_inside = inside.to_end in
      let within = inside.region in
      let low : 1 * config.region_words ≤ (buffer_region config word + 1) * config.region_words = mul-le-mul_right config.region_words (omega arith) in
      let high : (buffer_region config word + 1 + 1) * config.region_words ≤ (config.regions + 1) * config.region_words = mul-le-mul_right config.region_words (omega (arith, within)) in
      and_from (nat_le config.region_words (next_in word)) (nat_lt (next_in word) ((config.regions + 1) * config.region_words))
      (le-leb config.region_words (next_in word) (omega (arith, low, from))) (lt-ltb (next_in word) ((config.regions + 1) * config.region_words) (omega (arith, high, end_inside, some_free)))

  filled_outside : IsInside config word → IsZeroOutside config (filled_over memory word)
  filled_outside inside =
      either_outside config (nat_lt (next_in word) (end_in word)) (write memory (Heap (next_in word)) (filler_header (end_in word - next_in word))) memory
      (λ test. ⊎_elim
      (λ (some_free : next_in word < end_in word). write_outside config memory (Heap (next_in word)) (filler_header (end_in word - next_in word)) (heap_word inside some_free) nothing)
      (λ (empty : end_in word ≤ next_in word). absurd (true≢false (sym test ∙ le-ltb (next_in word) (end_in word) empty)))
      (cases_lt (next_in word) (end_in word)))
      (λ test. nothing)

  back_outside : IsInside config word → IsZeroOutside config (given_back config memory word)
  back_outside inside = write_outside config memory (Top (buffer_region config word)) (next_in word - base_of config (buffer_region config word)) (lt-ltb (buffer_region config word) config.regions inside.region) nothing

module _ (config : Config) (memory : Word → ℕ) (seat : ℕ) (nothing : IsZeroOutside config memory) (seated : seat < seat_count config.mutators config.helpers) (inside : memory (Current seat) ≢ 0 → IsInside config (memory (Current seat))) where
  abbrev word : ℕ
  word = memory (Current seat)

  gone_outside : (memory : Word → ℕ) → IsZeroOutside config memory → IsZeroOutside config (write memory (Current seat) 0)
  gone_outside memory zero_outside = write_outside config memory (Current seat) 0 (lt-ltb seat (seat_count config.mutators config.helpers) seated) zero_outside

  settled_turn : IsZeroOutside config (settled_at config memory seat)
  settled_turn = ⊎_elim
      (λ (no_buffer : word ≡ 0).
      let test : ((word == 0) || is_last config memory word) ≡ true = ap (λ without_buffer. without_buffer || is_last config memory word) (eq-eqb word 0 no_buffer) in
      subst (IsZeroOutside config) (sym (cond-true ((word == 0) || is_last config memory word) memory (write (filled_over memory word) (Current seat) 0) test)) nothing)
      (λ (some_buffer : word ≢ 0).
      either_outside config ((word == 0) || is_last config memory word) memory (write (filled_over memory word) (Current seat) 0) (λ test. nothing)
      (λ test. gone_outside (filled_over memory word) (filled_outside config memory word nothing (inside some_buffer))))
      (cases_eq word 0)

  let_go_turn : IsZeroOutside config (let_go_at config memory seat)
  let_go_turn = ⊎_elim
      (λ (no_buffer : word ≡ 0).
      subst (IsZeroOutside config) (sym (cond-true (word == 0) memory (write (if is_last config memory word then given_back config memory word else filled_over memory word) (Current seat) 0) (eq-eqb word 0 no_buffer))) nothing)
      (λ (some_buffer : word ≢ 0).
      either_outside config (word == 0) memory (write (if is_last config memory word then given_back config memory word else filled_over memory word) (Current seat) 0) (λ test. nothing)
      (λ test. gone_outside (if is_last config memory word then given_back config memory word else filled_over memory word)
      (either_outside config (is_last config memory word) (given_back config memory word) (filled_over memory word) (λ last_piece. back_outside config memory word nothing (inside some_buffer)) (λ last_piece. filled_outside config memory word nothing (inside some_buffer)))))
      (cases_eq word 0)

module _ (config : Config) (memory : Word → ℕ) (nothing : IsZeroOutside config memory) (inside : AreInside config memory) where
  -- who has not had its turn has its buffer still
  settled_later : (turns seat : ℕ) → turns ≤ seat → settled_below config memory turns (Current seat) ≡ memory (Current seat)
  unfolding settled_below
  settled_later zero seat later = refl
  settled_later (suc turns) seat later = settling.turn_other config (settled_below config memory turns) turns seat (λ same_seat. omega (arith, same_seat, later)) ∙ settled_later turns seat (omega (arith, later))

  let_go_later : (turns seat : ℕ) → turns ≤ seat → let_go_below config memory turns (Current seat) ≡ memory (Current seat)
  unfolding let_go_below
  let_go_later zero seat later = refl
  let_go_later (suc turns) seat later = letting_go.turn_other config (let_go_below config memory turns) turns seat (λ same_seat. omega (arith, same_seat, later)) ∙ let_go_later turns seat (omega (arith, later))

  settled_turns : (turns : ℕ) → turns ≤ seat_count config.mutators config.helpers → IsZeroOutside config (settled_below config memory turns)
  unfolding settled_below
  settled_turns zero at_most = nothing
  settled_turns (suc seat) at_most =
      let buffer_unsettled = settled_later seat seat (omega arith) in
      settled_turn config (settled_below config memory seat) seat (settled_turns seat (omega (arith, at_most))) (omega (arith, at_most)) (λ some_buffer. subst (IsInside config) (sym buffer_unsettled) (inside seat (omega (arith, at_most)) (λ no_buffer. some_buffer (buffer_unsettled ∙ no_buffer))))

  let_go_turns : (turns : ℕ) → turns ≤ seat_count config.mutators config.helpers → IsZeroOutside config (let_go_below config memory turns)
  unfolding let_go_below
  let_go_turns zero at_most = nothing
  let_go_turns (suc seat) at_most =
      let buffer_kept = let_go_later seat seat (omega arith) in
      let_go_turn config (let_go_below config memory seat) seat (let_go_turns seat (omega (arith, at_most))) (omega (arith, at_most)) (λ some_buffer. subst (IsInside config) (sym buffer_kept) (inside seat (omega (arith, at_most)) (λ no_buffer. some_buffer (buffer_kept ∙ no_buffer))))

  pub settled_outside : IsZeroOutside config (buffers_settled config memory)
  settled_outside = settled_turns (seat_count config.mutators config.helpers) (omega arith)

  pub let_go_outside : IsZeroOutside config (let_go config memory)
  let_go_outside = let_go_turns (seat_count config.mutators config.helpers) (omega arith)
