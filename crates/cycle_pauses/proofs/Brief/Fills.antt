-- Of the words that a pause neither loads nor stores it writes at most the first free word of a buffer: all others stay.
use Rattle.heap_words.specs.Phases.{marking_phase, evacuation_phase, idle_phase}
use Rattle.std.proofs.Common.{◌≡◌, ◌≢◌, ℕ, ◌-◌, ◌<◌, ◌≤◌, Bool, true, false, zero, suc, ⊎_elim, refl, sym, ap, ◌∙◌, subst, arith}
use Rattle.std.specs.Prelude.{⊤, ◌==◌, ◌||◌, nat_lt, if◌then◌else◌}
use Rattle.std.proofs.lemmas.Bool.{cases_Bool, cond-false, ltb-true, ne_eqb, true≢false}
use Rattle.heap_words.specs.declared.config.Config.{Config}
use Rattle.heap_words.specs.Ranges.{seat_count}
use Rattle.heap_words.specs.Words.{Word, Phase, Root, Count, Buffer, Wait, Answer, Grey, Black, Current, Heap, Share, Pin, write}
use Rattle.heap_words.specs.Encoding.{filler_header, next_in, end_in}
use Rattle.image_graph.specs.SeatBuffers.{is_last, filled_over}
use Rattle.image_graph.specs.Settled.{settled_at, settled_below, buffers_settled}
use Rattle.image_graph.proofs.OneTurn.{if_at}
use Rattle.image_graph.proofs.Settling.{turn_other}
use Rattle.image_graph.proofs.Elsewhere.{settled_same}
use Rattle.cycle_words.specs.Updating.Changes.{init_updated, final_updated}
use Rattle.cycle_pauses.specs.Collect.{is_room_needed, collected}
use Rattle.cycle_pauses.specs.Brief.{is_off_heap, is_ahead}
use Rattle.cycle_pauses.proofs.Brief.Collected.{marks, begins_updating, ends_updating}

-- the free words of a buffer begin at an address, by its word
abbrev pub BeginsAt : (address word : ℕ) → Type 0
BeginsAt address word = (next_in word < end_in word) × (next_in word ≡ address)

-- no seat's do
abbrev pub NoneBeginsAt : Config → (Word → ℕ) → ℕ → Type 0
NoneBeginsAt config memory address = (seat : ℕ) → seat < seat_count config.mutators config.helpers → BeginsAt address (memory (Current seat)) → ⊥

-- a word of the heap where the free words of no buffer begin, or another word
abbrev pub IsNoFirst : Config → (Word → ℕ) → Word → Type 0
IsNoFirst config memory (Heap address) = NoneBeginsAt config memory address
IsNoFirst config memory _ = ⊤

module _ (config : Config) (address : ℕ) where
  filled_stays : (memory : Word → ℕ) (word : ℕ) → (BeginsAt address word → ⊥) → filled_over memory word (Heap address) ≡ memory (Heap address)
  filled_stays memory word begins_none = by_test (nat_lt (next_in word) (end_in word)) refl
    where
      by_test : (holds : Bool) → nat_lt (next_in word) (end_in word) ≡ holds → (if holds then write memory (Heap (next_in word)) (filler_header (end_in word - next_in word)) else memory) (Heap address) ≡ memory (Heap address)
      by_test true has_free =
          cond-false (next_in word == address) (filler_header (end_in word - next_in word)) (memory (Heap address))
          (ne_eqb (next_in word) address (λ same_address. begins_none (ltb-true (next_in word) (end_in word) has_free, same_address)))
      by_test false has_free = refl

  turn_stays : (memory : Word → ℕ) (seat : ℕ) → (BeginsAt address (memory (Current seat)) → ⊥) → settled_at config memory seat (Heap address) ≡ memory (Heap address)
  turn_stays memory seat begins_none =
      if_at ((memory (Current seat) == 0) || is_last config memory (memory (Current seat))) memory (write (filled_over memory (memory (Current seat))) (Current seat) 0) (Heap address) (memory (Heap address)) refl
      (filled_stays memory (memory (Current seat)) begins_none)

  -- before its turn a seat has its buffer
  before_turn : (memory : Word → ℕ) (turns seat : ℕ) → turns ≤ seat → settled_below config memory turns (Current seat) ≡ memory (Current seat)
  unfolding settled_below
  before_turn memory zero seat at_most = refl
  before_turn memory (suc turns) seat at_most = turn_other config (settled_below config memory turns) turns seat (λ same_seat. omega (arith, same_seat, at_most)) ∙ before_turn memory turns seat (omega (arith, at_most))

  turns_stay : (memory : Word → ℕ) (turns : ℕ) → ((seat : ℕ) → seat < turns → BeginsAt address (memory (Current seat)) → ⊥) → settled_below config memory turns (Heap address) ≡ memory (Heap address)
  unfolding settled_below
  turns_stay memory zero none_begins = refl
  turns_stay memory (suc last_seat) none_begins =
      turn_stays (settled_below config memory last_seat) last_seat (subst (λ word. BeginsAt address word → ⊥) (sym (before_turn memory last_seat last_seat (omega arith))) (none_begins last_seat (omega arith)))
      ∙ turns_stay memory last_seat (λ seat seat_below. none_begins seat (omega (arith, seat_below)))

  settled_stays : (memory : Word → ℕ) → NoneBeginsAt config memory address → buffers_settled config memory (Heap address) ≡ memory (Heap address)
  settled_stays memory none_begins = turns_stay memory (seat_count config.mutators config.helpers) none_begins

-- the beginning of updating leaves words that do not stand before those of the mutators, and so does its end
module _ (config : Config) (memory : Word → ℕ) where
  begun_stays : (word : Word) → is_ahead word ≡ false → IsNoFirst config memory word → init_updated config memory word ≡ memory word
  begun_stays (Heap address) not_ahead not_first = settled_stays config address memory not_first
  begun_stays (Root mutator index) not_ahead not_first = settled_same (Root mutator index) (λ outside_buffers. outside_buffers) config memory (seat_count config.mutators config.helpers)
  begun_stays (Count mutator) not_ahead not_first = settled_same (Count mutator) (λ outside_buffers. outside_buffers) config memory (seat_count config.mutators config.helpers)
  begun_stays (Buffer mutator entry) not_ahead not_first = settled_same (Buffer mutator entry) (λ outside_buffers. outside_buffers) config memory (seat_count config.mutators config.helpers)
  begun_stays (Wait mutator) not_ahead not_first = settled_same (Wait mutator) (λ outside_buffers. outside_buffers) config memory (seat_count config.mutators config.helpers)
  begun_stays (Answer mutator) not_ahead not_first = settled_same (Answer mutator) (λ outside_buffers. outside_buffers) config memory (seat_count config.mutators config.helpers)
  begun_stays (Grey number) not_ahead not_first = settled_same (Grey number) (λ outside_buffers. outside_buffers) config memory (seat_count config.mutators config.helpers)
  begun_stays (Black number) not_ahead not_first = settled_same (Black number) (λ outside_buffers. outside_buffers) config memory (seat_count config.mutators config.helpers)
  begun_stays Share not_ahead not_first = settled_same Share (λ outside_buffers. outside_buffers) config memory (seat_count config.mutators config.helpers)
  begun_stays (Pin mutator slot) not_ahead not_first = settled_same (Pin mutator slot) (λ outside_buffers. outside_buffers) config memory (seat_count config.mutators config.helpers)
  begun_stays _ not_ahead not_first = absurd (true≢false not_ahead)

  ended_stays : (word : Word) → is_ahead word ≡ false → final_updated config memory word ≡ memory word
  ended_stays (Heap address) not_ahead = refl
  ended_stays (Root mutator index) not_ahead = refl
  ended_stays (Count mutator) not_ahead = refl
  ended_stays (Buffer mutator entry) not_ahead = refl
  ended_stays (Wait mutator) not_ahead = refl
  ended_stays (Answer mutator) not_ahead = refl
  ended_stays (Grey number) not_ahead = refl
  ended_stays (Black number) not_ahead = refl
  ended_stays Share not_ahead = refl
  ended_stays (Pin mutator slot) not_ahead = refl
  ended_stays _ not_ahead = absurd (true≢false not_ahead)

  module _ (no_room_needed : is_room_needed memory ≡ false) where
    -- So a pause leaves the words that it leaves out, but for the first free words of buffers: where marking begins, ..
    pub heap_left : memory Phase ≡ idle_phase → (word : Word) → is_off_heap word ≡ false → IsNoFirst config memory word → collected config memory word ≡ memory word
    heap_left idle (Heap address) on_heap not_first = ap (λ (made : Word → ℕ). made (Heap address)) (marks config memory no_room_needed idle) ∙ settled_stays config address memory not_first
    heap_left idle _ on_heap not_first = absurd (true≢false on_heap)

    -- .. and where updating begins or ends
    pub behind_left : memory Phase ≢ idle_phase → memory Phase ≢ marking_phase → (word : Word) → is_ahead word ≡ false → IsNoFirst config memory word → collected config memory word ≡ memory word
    behind_left not_idle not_marking word not_ahead not_first = ⊎_elim
        (λ (phase_two : (memory Phase == evacuation_phase) ≡ true). ap (λ (made : Word → ℕ). made word) (begins_updating config memory no_room_needed not_idle not_marking phase_two) ∙ begun_stays word not_ahead not_first)
        (λ (other_phase : (memory Phase == evacuation_phase) ≡ false). ap (λ (made : Word → ℕ). made word) (ends_updating config memory no_room_needed not_idle not_marking other_phase) ∙ ended_stays word not_ahead)
        (cases_Bool (memory Phase == evacuation_phase))
