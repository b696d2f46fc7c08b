-- The words of buffers that have free words, and what is written where a buffer goes.
use Rattle.std.proofs.Common.{◌≡◌, ◌≢◌, ℕ, ◌-◌, ◌<◌, ◌≤◌, ⊎_elim, sym, ap, ◌∙◌, subst}
use Rattle.std.specs.Prelude.{nat_lt, if◌then◌else◌}
use Rattle.std.proofs.Math.Path.{fun_ext}
use Rattle.std.proofs.lemmas.Bool.{cases_eq, cases_lt, cond-true, cond-false, lt-ltb, le-ltb}
use Rattle.heap_words.specs.declared.config.Config.{Config}
use Rattle.heap_words.specs.Encoding.{next_in, end_in}
use Rattle.heap_words.specs.Words.{Word, Top, Current, Heap, write}
use Rattle.regions.specs.Place.{base_of}
use Rattle.heap_world.proofs.FunctionUpdates.{updated, updated_same, updated_else}
use Rattle.image_graph.specs.SeatBuffers.{buffer_region}
use Rattle.image_graph.specs.LetGo.{given_back}
use Rattle.image_graph.proofs.Refitted.{refitted, tops_of, heap_of, currents_of, refit_same, refit_twice, refit_heap, refit_top, refit_current}

-- the words of buffers that have free words
abbrev pub trimmed : (ℕ → ℕ) → ℕ → ℕ
trimmed current seat = if nat_lt (next_in (current seat)) (end_in (current seat)) then current seat else 0

-- the memory with these alone
abbrev pub trim : (Word → ℕ) → Word → ℕ
trim memory = refitted memory (tops_of memory) (heap_of memory) (trimmed (currents_of memory))

-- with free words it is there
pub trimmed_full : (current : ℕ → ℕ) (seat : ℕ) → next_in (current seat) < end_in (current seat) → trimmed current seat ≡ current seat
trimmed_full current seat some_free = cond-true (nat_lt (next_in (current seat)) (end_in (current seat))) (current seat) 0 (lt-ltb (next_in (current seat)) (end_in (current seat)) some_free)

-- without, it is not
pub trimmed_empty : (current : ℕ → ℕ) (seat : ℕ) → end_in (current seat) ≤ next_in (current seat) → trimmed current seat ≡ 0
trimmed_empty current seat empty = cond-false (nat_lt (next_in (current seat)) (end_in (current seat))) (current seat) 0 (le-ltb (next_in (current seat)) (end_in (current seat)) empty)

-- nor where there was none
pub trimmed_none : (current : ℕ → ℕ) (seat : ℕ) → current seat ≡ 0 → trimmed current seat ≡ 0
trimmed_none current seat no_buffer = ⊎_elim (λ some_free. trimmed_full current seat some_free ∙ no_buffer) (λ empty. trimmed_empty current seat empty) (cases_lt (next_in (current seat)) (end_in (current seat)))

-- one that is there has free words
pub all_full : (current : ℕ → ℕ) (seat : ℕ) → trimmed current seat ≢ 0 → next_in (trimmed current seat) < end_in (trimmed current seat)
all_full current seat some_buffer = ⊎_elim
    (λ (some_free : next_in (current seat) < end_in (current seat)). subst (λ word. next_in word < end_in word) (sym (trimmed_full current seat some_free)) some_free)
    (λ (empty : end_in (current seat) ≤ next_in (current seat)). absurd (some_buffer (trimmed_empty current seat empty)))
    (cases_lt (next_in (current seat)) (end_in (current seat)))

-- trimmed without a seat's is without it trimmed
trimmed_without : (current : ℕ → ℕ) (seat : ℕ) → trimmed (updated current seat 0) ≡ updated (trimmed current) seat 0
trimmed_without current seat = fun_ext (λ other_seat. ⊎_elim
    (λ (same_seat : seat ≡ other_seat). trimmed_none (updated current seat 0) other_seat (updated_same current seat 0 other_seat same_seat) ∙ sym (updated_same (trimmed current) seat 0 other_seat same_seat))
    (λ (seat_differs : seat ≢ other_seat). ap (λ word. if nat_lt (next_in word) (end_in word) then word else 0) (updated_else current seat 0 other_seat seat_differs) ∙ sym (updated_else (trimmed current) seat 0 other_seat seat_differs))
    (cases_eq seat other_seat))

-- after a seat's buffer went
pub trim_without : (memory : Word → ℕ) (top heap : ℕ → ℕ) (seat : ℕ) → trim (refitted memory top heap (updated (currents_of memory) seat 0)) ≡ refitted (trim memory) top heap (updated (trimmed (currents_of memory)) seat 0)
trim_without memory top heap seat =
    refit_twice memory top heap (updated (currents_of memory) seat 0) top heap (trimmed (updated (currents_of memory) seat 0))
    ∙ ap (refitted memory top heap) (trimmed_without (currents_of memory) seat)
    ∙ sym (refit_twice memory (tops_of memory) (heap_of memory) (trimmed (currents_of memory)) top heap (updated (trimmed (currents_of memory)) seat 0))

-- the seat's, which had no free words, is none before and after
pub trim_empty : (memory : Word → ℕ) (top : ℕ → ℕ) (seat : ℕ) → end_in (memory (Current seat)) ≤ next_in (memory (Current seat)) → top ≡ tops_of memory → trim (refitted memory top (heap_of memory) (updated (currents_of memory) seat 0)) ≡ trim memory
trim_empty memory top seat empty same_tops =
    refit_twice memory top (heap_of memory) (updated (currents_of memory) seat 0) top (heap_of memory) (trimmed (updated (currents_of memory) seat 0))
    ∙ ap (λ top. refitted memory top (heap_of memory) (trimmed (updated (currents_of memory) seat 0))) same_tops
    ∙ ap (refitted memory (tops_of memory) (heap_of memory)) (fun_ext (λ other_seat. ⊎_elim
    (λ (same_seat : seat ≡ other_seat). trimmed_none (updated (currents_of memory) seat 0) other_seat (updated_same (currents_of memory) seat 0 other_seat same_seat) ∙ sym (trimmed_empty (currents_of memory) seat empty) ∙ ap (trimmed (currents_of memory)) same_seat)
    (λ (seat_differs : seat ≢ other_seat). ap (λ word. if nat_lt (next_in word) (end_in word) then word else 0) (updated_else (currents_of memory) seat 0 other_seat seat_differs))
    (cases_eq seat other_seat)))

-- a filler is stored, and the buffer goes
pub fill_is : (memory : Word → ℕ) (seat address value : ℕ) → write (write memory (Heap address) value) (Current seat) 0 ≡ refitted memory (tops_of memory) (updated (heap_of memory) address value) (updated (currents_of memory) seat 0)
fill_is memory seat address value =
    ap (λ some_memory. write (write some_memory (Heap address) value) (Current seat) 0) (refit_same memory)
    ∙ ap (λ some_memory. write some_memory (Current seat) 0) (refit_heap memory (tops_of memory) (heap_of memory) (currents_of memory) address value)
    ∙ refit_current memory (tops_of memory) (updated (heap_of memory) address value) (currents_of memory) seat 0

-- the buffer goes alone
pub clear_is : (memory : Word → ℕ) (seat : ℕ) → write memory (Current seat) 0 ≡ refitted memory (tops_of memory) (heap_of memory) (updated (currents_of memory) seat 0)
clear_is memory seat = ap (λ some_memory. write some_memory (Current seat) 0) (refit_same memory) ∙ refit_current memory (tops_of memory) (heap_of memory) (currents_of memory) seat 0

-- free words are given back, and the buffer goes
pub back_is : (config : Config) (memory : Word → ℕ) (seat word : ℕ) → write (given_back config memory word) (Current seat) 0
    ≡ refitted memory (updated (tops_of memory) (buffer_region config word) (next_in word - base_of config (buffer_region config word))) (heap_of memory) (updated (currents_of memory) seat 0)
back_is config memory seat word =
    ap (λ some_memory. write (write some_memory (Top (buffer_region config word)) (next_in word - base_of config (buffer_region config word))) (Current seat) 0) (refit_same memory)
    ∙ ap (λ some_memory. write some_memory (Current seat) 0) (refit_top memory (tops_of memory) (heap_of memory) (currents_of memory) (buffer_region config word) (next_in word - base_of config (buffer_region config word)))
    ∙ refit_current memory (updated (tops_of memory) (buffer_region config word) (next_in word - base_of config (buffer_region config word))) (heap_of memory) (currents_of memory) seat 0
