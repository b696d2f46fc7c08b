-- Settling and letting go by turns keep whatever stands, if it does where one buffer goes. A buffer without free words tells of no piece, and a
-- top may have fallen below its end: so, while buffers are let go, it counts as none from the beginning on.
use Rattle.std.proofs.Common.{◌≡◌, ◌≢◌, ℕ, ◌+◌, ◌-◌, ◌<◌, ◌≤◌, ◌⊎◌, zero, suc, true, false, inl, inr, ⊎_elim, refl, sym, ap, ◌∙◌, subst, arith}
use Rattle.std.specs.Prelude.{◌==◌, ◌||◌, nat_lt, if◌then◌else◌}
use Rattle.std.proofs.Math.Path.{fun_ext}
use Rattle.std.proofs.lemmas.Bool.{cases_Bool, cases_eq, cases_lt, cond-true, cond-false, or_parts, eqb-true, eqb-false, eq-eqb, ne_eqb, lt-ltb, le-ltb}
use Rattle.heap_words.specs.declared.config.Config.{Config}
use Rattle.heap_words.specs.Ranges.{seat_count}
use Rattle.heap_words.specs.Encoding.{filler_header, next_in, end_in}
use Rattle.heap_words.specs.Words.{Word, Top, Current, Heap, write}
use Rattle.regions.specs.Place.{base_of}
use Rattle.heap_world.proofs.FunctionUpdates.{updated, updated_same, updated_else}
use Rattle.image_graph.specs.SeatBuffers.{buffer_region, is_last, IsInside, filled_over}
use Rattle.image_graph.specs.Settled.{settled_at, settled_below}
use Rattle.image_graph.specs.LetGo.{given_back, let_go_at, let_go_below, let_go}
use Rattle.image_graph.proofs.LettingGo.{turn_other, turn_own, none_left}
use Rattle.image_graph.proofs.Refitted.{refitted, tops_of, heap_of, currents_of, refit_same}
use Rattle.image_graph.proofs.Trimmed.{trimmed, trim, trimmed_full, trimmed_empty, trimmed_none, all_full, trim_without, trim_empty, fill_is, clear_is, back_is}

-- a seat has its buffer still, or had no free words and has none
abbrev pub IsDropped : (current then_current : ℕ → ℕ) → ℕ → Type 0
IsDropped current then_current seat = (then_current seat ≡ current seat) ⊎ ((then_current seat ≡ 0) × (end_in (current seat) ≤ next_in (current seat)))

-- each buffer has free words
abbrev pub AllHaveFree : (Word → ℕ) → Type 0
AllHaveFree memory = (seat : ℕ) → memory (Current seat) ≢ 0 → next_in (memory (Current seat)) < end_in (memory (Current seat))

-- What stands does so where buffers without free words are dropped, and where the free words of a buffer that does not end at the top are
-- filled, and it goes; ..
pub record KeepsFilling (config : Config) (Stand : (Word → ℕ) → Type 0) : Type 0 where
  pub drops : (memory : Word → ℕ) → Stand memory → (current : ℕ → ℕ) → ((seat : ℕ) → IsDropped (currents_of memory) current seat) → Stand (refitted memory (tops_of memory) (heap_of memory) current)
  pub fills : (memory : Word → ℕ) → Stand memory → (seat word : ℕ) → memory (Current seat) ≡ word → word ≢ 0 → next_in word < end_in word → is_last config memory word ≡ false
      → Stand (refitted memory (tops_of memory) (updated (heap_of memory) (next_in word) (filler_header (end_in word - next_in word))) (updated (currents_of memory) seat 0))

-- .. and where those that end at the top are given back, and it goes, while all buffers have some.
pub record KeepsTurns (config : Config) (Stand : (Word → ℕ) → Type 0) : Type 0 where
  pub filling : KeepsFilling config Stand
  pub lies : (memory : Word → ℕ) → Stand memory → (seat word : ℕ) → memory (Current seat) ≡ word → word ≢ 0 → IsInside config word
  pub gives : (memory : Word → ℕ) → Stand memory → (seat word : ℕ) → memory (Current seat) ≡ word → word ≢ 0 → next_in word < end_in word → is_last config memory word ≡ true → AllHaveFree memory
      → Stand (refitted memory (updated (tops_of memory) (buffer_region config word) (next_in word - base_of config (buffer_region config word))) (heap_of memory) (updated (currents_of memory) seat 0))

-- no buffer ends before its free words begin
abbrev AreOrdered : (Word → ℕ) → Type 0
AreOrdered memory = (seat : ℕ) → next_in (memory (Current seat)) ≤ end_in (memory (Current seat))

-- Settling: the turn of a seat.
module _ (config : Config) (Stand : (Word → ℕ) → Type 0) (filling_keeps : KeepsFilling config Stand) where
  module _ (memory : Word → ℕ) (stand : Stand memory) (seat : ℕ) where
    abbrev its : ℕ
    its = memory (Current seat)

    -- a buffer goes that is not the last
    gone : its ≢ 0 → is_last config memory its ≡ false → Stand (write (filled_over memory its) (Current seat) 0)
    gone some_buffer not_last = ⊎_elim
        (λ (some_free : next_in its < end_in its).
        subst Stand
        (sym (ap (λ some_memory. write some_memory (Current seat) 0) (cond-true (nat_lt (next_in its) (end_in its)) (write memory (Heap (next_in its)) (filler_header (end_in its - next_in its))) memory (lt-ltb (next_in its) (end_in its) some_free))
        ∙ fill_is memory seat (next_in its) (filler_header (end_in its - next_in its))))
        (filling_keeps.fills memory stand seat its refl some_buffer some_free not_last))
        (λ (empty : end_in its ≤ next_in its).
        subst Stand
        (sym (ap (λ some_memory. write some_memory (Current seat) 0) (cond-false (nat_lt (next_in its) (end_in its)) (write memory (Heap (next_in its)) (filler_header (end_in its - next_in its))) memory (le-ltb (next_in its) (end_in its) empty))
        ∙ clear_is memory seat))
        (filling_keeps.drops memory stand (updated (currents_of memory) seat 0) (λ asked_seat. ⊎_elim
        (λ (same_seat : seat ≡ asked_seat). inr (updated_same (currents_of memory) seat 0 asked_seat same_seat, subst (λ seat. end_in (memory (Current seat)) ≤ next_in (memory (Current seat))) same_seat empty))
        (λ (not_last : seat ≢ asked_seat). inl (updated_else (currents_of memory) seat 0 asked_seat not_last))
        (cases_eq seat asked_seat))))
        (cases_lt (next_in its) (end_in its))

    settling : Stand (settled_at config memory seat)
    settling = ⊎_elim
        (λ (stays : ((its == 0) || is_last config memory its) ≡ true). subst Stand (sym (cond-true ((its == 0) || is_last config memory its) memory (write (filled_over memory its) (Current seat) 0) stays)) stand)
        (λ (buffer_goes : ((its == 0) || is_last config memory its) ≡ false).
        subst Stand (sym (cond-false ((its == 0) || is_last config memory its) memory (write (filled_over memory its) (Current seat) 0) buffer_goes)) (gone (eqb-false its 0 (or_parts (its == 0) (is_last config memory its) buffer_goes).0) (or_parts (its == 0) (is_last config memory its) buffer_goes).1))
        (cases_Bool ((its == 0) || is_last config memory its))

  -- after any number of turns
  pub settled_by_turns : (memory : Word → ℕ) → Stand memory → (turns : ℕ) → Stand (settled_below config memory turns)
  unfolding settled_below
  settled_by_turns memory stand zero = stand
  settled_by_turns memory stand (suc turns) = settling (settled_below config memory turns) (settled_by_turns memory stand turns) turns

-- Letting go: the turn of a seat.
module _ (config : Config) (Stand : (Word → ℕ) → Type 0) (turns_keep : KeepsTurns config Stand) where
  module _ (memory : Word → ℕ) (stand : Stand (trim memory)) (ordered : AreOrdered memory) (seat : ℕ) where
    abbrev word : ℕ
    word = memory (Current seat)

    abbrev region : ℕ
    region = buffer_region config word

    -- what a buffer leaves that has free words
    module _ (some_word : word ≢ 0) (some_free : next_in word < end_in word) where
      is_there : trimmed (currents_of memory) seat ≡ word
      is_there = trimmed_full (currents_of memory) seat some_free

      fills : is_last config memory word ≡ false → Stand (trim (write (write memory (Heap (next_in word)) (filler_header (end_in word - next_in word))) (Current seat) 0))
      fills not_last = subst Stand
          (sym (ap trim (fill_is memory seat (next_in word) (filler_header (end_in word - next_in word)))
          ∙ trim_without memory (tops_of memory) (updated (heap_of memory) (next_in word) (filler_header (end_in word - next_in word))) seat))
          (turns_keep.filling.fills (trim memory) stand seat word is_there some_word some_free not_last)

      gives_back : is_last config memory word ≡ true → Stand (trim (write (given_back config memory word) (Current seat) 0))
      gives_back buffer_last = subst Stand
          (sym (ap trim (back_is config memory seat word) ∙ trim_without memory (updated (tops_of memory) region (next_in word - base_of config region)) (heap_of memory) seat))
          (turns_keep.gives (trim memory) stand seat word is_there some_word some_free buffer_last (λ seat is_some. all_full (currents_of memory) seat is_some))

    -- and one that has none
    module _ (empty : end_in word ≤ next_in word) where
      same_tops : is_last config memory word ≡ true → updated (tops_of memory) region (next_in word - base_of config region) ≡ tops_of memory
      same_tops buffer_last = fun_ext (λ asked_region. ⊎_elim
          (λ (same_region : region ≡ asked_region).
          let end_at_top : end_in word ≡ base_of config region + memory (Top region) = eqb-true (end_in word) (base_of config region + memory (Top region)) buffer_last in
          let free_ordered = ordered seat in
          updated_same (tops_of memory) region (next_in word - base_of config region) asked_region same_region ∙ (omega (arith, end_at_top, free_ordered, empty)) ∙ ap (tops_of memory) same_region)
          (λ (region_differs : region ≢ asked_region). updated_else (tops_of memory) region (next_in word - base_of config region) asked_region region_differs)
          (cases_eq region asked_region))

      back_same : is_last config memory word ≡ true → trim (write (given_back config memory word) (Current seat) 0) ≡ trim memory
      back_same buffer_last = ap trim (back_is config memory seat word) ∙ trim_empty memory (updated (tops_of memory) region (next_in word - base_of config region)) seat empty (same_tops buffer_last)

      fill_same : trim (write (filled_over memory word) (Current seat) 0) ≡ trim memory
      fill_same =
          ap (λ some_memory. trim (write some_memory (Current seat) 0)) (cond-false (nat_lt (next_in word) (end_in word)) (write memory (Heap (next_in word)) (filler_header (end_in word - next_in word))) memory (le-ltb (next_in word) (end_in word) empty))
          ∙ ap trim (clear_is memory seat) ∙ trim_empty memory (tops_of memory) seat empty refl

    gone_last : word ≢ 0 → is_last config memory word ≡ true → Stand (trim (write (given_back config memory word) (Current seat) 0))
    gone_last some_word buffer_last = ⊎_elim
        (λ (some_free : next_in word < end_in word). gives_back some_word some_free buffer_last)
        (λ (empty : end_in word ≤ next_in word). subst Stand (sym (back_same empty buffer_last)) stand)
        (cases_lt (next_in word) (end_in word))

    gone_else : word ≢ 0 → is_last config memory word ≡ false → Stand (trim (write (filled_over memory word) (Current seat) 0))
    gone_else some_word not_last = ⊎_elim
        (λ (some_free : next_in word < end_in word). subst (λ some_memory. Stand (trim (write some_memory (Current seat) 0)))
        (sym (cond-true (nat_lt (next_in word) (end_in word)) (write memory (Heap (next_in word)) (filler_header (end_in word - next_in word))) memory (lt-ltb (next_in word) (end_in word) some_free))) (fills some_word some_free not_last))
        (λ (empty : end_in word ≤ next_in word). subst Stand (sym (fill_same empty)) stand)
        (cases_lt (next_in word) (end_in word))

    -- its words without the buffer
    abbrev rest : Word → ℕ
    rest = if is_last config memory word then given_back config memory word else filled_over memory word

    goes : word ≢ 0 → Stand (trim (write rest (Current seat) 0))
    goes some_word = ⊎_elim
        (λ (buffer_last : is_last config memory word ≡ true). subst (λ some_memory. Stand (trim (write some_memory (Current seat) 0))) (sym (cond-true (is_last config memory word) (given_back config memory word) (filled_over memory word) buffer_last)) (gone_last some_word buffer_last))
        (λ (not_last : is_last config memory word ≡ false). subst (λ some_memory. Stand (trim (write some_memory (Current seat) 0))) (sym (cond-false (is_last config memory word) (given_back config memory word) (filled_over memory word) not_last)) (gone_else some_word not_last))
        (cases_Bool (is_last config memory word))

    letting_go : Stand (trim (let_go_at config memory seat))
    letting_go = ⊎_elim
        (λ (no_word : word ≡ 0). subst (λ some_memory. Stand (trim some_memory)) (sym (cond-true (word == 0) memory (write rest (Current seat) 0) (eq-eqb word 0 no_word))) stand)
        (λ (some_word : word ≢ 0). subst (λ some_memory. Stand (trim some_memory)) (sym (cond-false (word == 0) memory (write rest (Current seat) 0) (ne_eqb word 0 some_word))) (goes some_word))
        (cases_eq word 0)

  -- buffers are ordered still
  ordered_still : (memory : Word → ℕ) (seat : ℕ) → AreOrdered memory → AreOrdered (let_go_at config memory seat)
  ordered_still memory seat ordered given_seat = ⊎_elim
      (λ (same_seat : seat ≡ given_seat). subst (λ other_seat. next_in (let_go_at config memory seat (Current other_seat)) ≤ end_in (let_go_at config memory seat (Current other_seat))) same_seat (let no_word = turn_own config memory seat in subst (λ buffer. next_in buffer ≤ end_in buffer) (sym no_word) (omega arith)))
      (λ (seat_differs : seat ≢ given_seat). subst (λ buffer. next_in buffer ≤ end_in buffer) (sym (turn_other config memory seat given_seat seat_differs)) (ordered given_seat))
      (cases_eq seat given_seat)

  ordered_below : (memory : Word → ℕ) → AreOrdered memory → (turns : ℕ) → AreOrdered (let_go_below config memory turns)
  unfolding let_go_below
  ordered_below memory ordered zero = ordered
  ordered_below memory ordered (suc turns) = ordered_still (let_go_below config memory turns) turns (ordered_below memory ordered turns)

  -- after any number of turns
  let_go_trimmed : (memory : Word → ℕ) → Stand (trim memory) → AreOrdered memory → (turns : ℕ) → Stand (trim (let_go_below config memory turns))
  unfolding let_go_below
  let_go_trimmed memory stand ordered zero = stand
  let_go_trimmed memory stand ordered (suc turns) = letting_go (let_go_below config memory turns) (let_go_trimmed memory stand ordered turns) (ordered_below memory ordered turns) turns

  -- What stood stands after all turns, where buffers without free words count as none.
  pub trimmed_by_turns : (memory : Word → ℕ) → Stand memory → Stand (trim (let_go config memory))
  trimmed_by_turns memory stand =
      let ordered : AreOrdered memory = λ seat. ⊎_elim
      (λ (no_buffer : memory (Current seat) ≡ 0). subst (λ buffer. next_in buffer ≤ end_in buffer) (sym no_buffer) (omega arith))
      (λ (has_buffer : memory (Current seat) ≢ 0). (turns_keep.lies memory stand seat (memory (Current seat)) refl has_buffer).ordered)
      (cases_eq (memory (Current seat)) 0) in
      let_go_trimmed memory (turns_keep.filling.drops memory stand (trimmed (currents_of memory)) (λ seat. ⊎_elim
      (λ (some_free : next_in (memory (Current seat)) < end_in (memory (Current seat))). inl (trimmed_full (currents_of memory) seat some_free))
      (λ (empty : end_in (memory (Current seat)) ≤ next_in (memory (Current seat))). inr (trimmed_empty (currents_of memory) seat empty, empty))
      (cases_lt (next_in (memory (Current seat))) (end_in (memory (Current seat)))))) ordered (seat_count config.mutators config.helpers)

  -- who is no seat has no buffer still
  none_beyond : (memory : Word → ℕ) (seat : ℕ) → memory (Current seat) ≡ 0 → (turns : ℕ) → let_go_below config memory turns (Current seat) ≡ 0
  unfolding let_go_below
  none_beyond memory seat no_buffer zero = no_buffer
  none_beyond memory seat no_buffer (suc other_seat) = ⊎_elim
      (λ (same_seat : other_seat ≡ seat). subst (λ seat. let_go_at config (let_go_below config memory other_seat) other_seat (Current seat) ≡ 0) same_seat (turn_own config (let_go_below config memory other_seat) other_seat))
      (λ (seat_differs : other_seat ≢ seat). turn_other config (let_go_below config memory other_seat) other_seat seat seat_differs ∙ none_beyond memory seat no_buffer other_seat)
      (cases_eq other_seat seat)

  module _ (memory : Word → ℕ) (empty_beyond : (seat : ℕ) → seat_count config.mutators config.helpers ≤ seat → memory (Current seat) ≡ 0) where
    -- nobody has a buffer
    pub none_at_all : (seat : ℕ) → let_go config memory (Current seat) ≡ 0
    none_at_all seat = ⊎_elim
        (λ (seat_below : seat < seat_count config.mutators config.helpers). none_left config memory (seat_count config.mutators config.helpers) seat seat_below)
        (λ (seat_past : seat_count config.mutators config.helpers ≤ seat). none_beyond memory seat (empty_beyond seat seat_past) (seat_count config.mutators config.helpers))
        (cases_lt seat (seat_count config.mutators config.helpers))

    -- What stood stands after all turns.
    pub let_go_by_turns : Stand memory → Stand (let_go config memory)
    let_go_by_turns stand =
        subst Stand
        (sym (refit_same (let_go config memory) ∙ ap (refitted (let_go config memory) (tops_of (let_go config memory)) (heap_of (let_go config memory))) (fun_ext (λ seat. none_at_all seat ∙ sym (trimmed_none (currents_of (let_go config memory)) seat (none_at_all seat))))))
        (trimmed_by_turns memory stand)
