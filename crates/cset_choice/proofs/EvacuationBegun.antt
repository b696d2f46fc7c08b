-- The beginning of evacuation makes the words that it says.
use Rattle.std.proofs.Common.{◌≡◌, ◌≢◌, ℕ, ◌==◌, true, false, Option, Some, None, IsSome, refl, sym}
use Rattle.std.proofs.lemmas.Bool.{cond-true, cond-false, eq-eqb, ne_eqb}
use Rattle.std.proofs.Math.Path.{fun_ext}
use Rattle.heap_words.specs.declared.config.Config.{Config}
use Rattle.heap_words.specs.Words.{Word, Phase, Cset, Evac, Claim, Heap, write}
use Rattle.heap_words.specs.Encoding.{is_forwarded}
use Rattle.image_graph.specs.Full.{now_in}
use Rattle.cycle_words.specs.Evacuation.Copied.{copied_out, copy_in}
use Rattle.cycle_words.specs.Evacuation.Begun.{is_collected, moved_out, cleared_at, with_set, roots_cleared, evac_started, evac_spared, evac_begun}

-- the set is stored
set_stored_at : (memory : Word → ℕ) (chosen_set : ℕ) (word : Word) → write memory Cset chosen_set word ≡ with_set memory chosen_set word
set_stored_at memory chosen_set Cset = refl
set_stored_at memory chosen_set _ = refl

pub set_stored : (memory : Word → ℕ) (chosen_set : ℕ) → write memory Cset chosen_set ≡ with_set memory chosen_set
set_stored memory chosen_set = fun_ext (set_stored_at memory chosen_set)

-- evacuation begins
started_at : (memory : Word → ℕ) (word : Word) → write (write (write memory Evac 0) Claim 0) Phase 2 word ≡ evac_started memory word
started_at memory Phase = refl
started_at memory Evac = refl
started_at memory Claim = refl
started_at memory _ = refl

pub started : (memory : Word → ℕ) → write (write (write memory Evac 0) Claim 0) Phase 2 ≡ evac_started memory
started memory = fun_ext (started_at memory)

pub begun : (config : Config) (memory : Word → ℕ) (chosen_set : ℕ) → chosen_set ≢ 0 → evac_started (roots_cleared config memory chosen_set) ≡ evac_begun config memory chosen_set
begun config memory chosen_set some_chosen = fun_ext (λ word. sym (cond-false (chosen_set == 0) (evac_spared memory word) (evac_started (roots_cleared config memory chosen_set) word) (ne_eqb chosen_set 0 some_chosen)))

-- or is spared
spared_at : (memory : Word → ℕ) (word : Word) → write (write (write memory Cset 0) Claim 0) Phase 0 word ≡ evac_spared memory word
spared_at memory Phase = refl
spared_at memory Cset = refl
spared_at memory Claim = refl
spared_at memory _ = refl

pub spared : (memory : Word → ℕ) → write (write (write memory Cset 0) Claim 0) Phase 0 ≡ evac_spared memory
spared memory = fun_ext (spared_at memory)

pub not_begun : (config : Config) (memory : Word → ℕ) (chosen_set : ℕ) → chosen_set ≡ 0 → evac_spared memory ≡ evac_begun config memory chosen_set
not_begun config memory chosen_set no_set = fun_ext (λ word. sym (cond-true (chosen_set == 0) (evac_spared memory word) (evac_started (roots_cleared config memory chosen_set) word) (eq-eqb chosen_set 0 no_set)))

-- one place
pub not_cleared : (config : Config) (memory : Word → ℕ) (place : Word) → is_collected config memory (memory place) ≡ false → memory ≡ cleared_at config memory place
unfolding cleared_at
not_cleared config memory place outside = fun_ext (λ word. sym (cond-false (is_collected config memory (memory place)) _ (memory word) outside))

pub cleared : (config : Config) (memory : Word → ℕ) (place : Word) → is_collected config memory (memory place) ≡ true
    → write (moved_out config memory (memory place)) place (now_in (moved_out config memory (memory place)) (memory place)) ≡ cleared_at config memory place
unfolding cleared_at
cleared config memory place named_collected = fun_ext (λ word. sym (cond-true (is_collected config memory (memory place)) _ (memory word) named_collected))

-- one object
pub moved_before : (config : Config) (memory : Word → ℕ) (address : ℕ) → is_forwarded (memory (Heap address)) ≡ true → memory ≡ moved_out config memory address
moved_before config memory address object_forwarded = fun_ext (λ word. sym (cond-true (is_forwarded (memory (Heap address))) (memory word) (copied_out config memory address word) object_forwarded))

pub moved_now : (config : Config) (memory : Word → ℕ) (address : ℕ) → is_forwarded (memory (Heap address)) ≡ false → copied_out config memory address ≡ moved_out config memory address
moved_now config memory address header_plain = fun_ext (λ word. sym (cond-false (is_forwarded (memory (Heap address))) (memory word) (copied_out config memory address word) header_plain))

-- where some region has room there is a copy
pub some_copy : (config : Config) (memory : Word → ℕ) (room : Option ℕ) → room ≢ None → IsSome (copy_in config memory room)
some_copy config memory None some_room = absurd (some_room refl)
some_copy config memory (Some region) some_room = refl
