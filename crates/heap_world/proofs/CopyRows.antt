-- Where the current copy of an object is, by a header.
use Rattle.std.proofs.Common.{ℕ, ◌≡◌, ◌≢◌, ◌-◌, ◌%◌, ◌==◌, List, ap, ◌∙◌, arith}
use Rattle.std.specs.Prelude.{slice_index, if◌then◌else◌}
use Rattle.std.proofs.lemmas.Bool.{cond-true, cond-false, eq-eqb, ne_eqb}
use Rattle.heap_words.specs.Encoding.{plain_header, header_word, is_forwarded, forwardee_in}
use Rattle.heap_world.specs.Stands.{current_of}
use Rattle.heap_world.specs.Walk.{current_at}

-- what has the header of an object that has not moved is the current copy
pub plain_current : (heap : ℕ → ℕ) (address : ℕ) → heap address ≡ plain_header → current_of heap address ≡ address
plain_current heap address plain = cond-false (is_forwarded (heap address)) (forwardee_in (heap address)) address (ap is_forwarded plain)

-- a header that leads to an address says that it is there
pub moved_current : (heap : ℕ → ℕ) (address target : ℕ) → heap address ≡ header_word target → current_of heap address ≡ target
moved_current heap address target header_leads =
    let moved_on : heap address % 4 ≡ 3 = omega (arith, header_leads) in
    cond-true (is_forwarded (heap address)) (forwardee_in (heap address)) address (eq-eqb (heap address % 4) 3 moved_on) ∙ omega (arith, header_leads)

-- of a word that is not null it is the same by the list of words
pub current_same : (first : ℕ) (heap : List ℕ) (word : ℕ) → word ≢ 0 → current_at first heap word ≡ current_of (λ address. slice_index heap (address - first)) word
current_same first heap word positive =
    cond-false (word == 0) 0 (if is_forwarded (slice_index heap (word - first)) then forwardee_in (slice_index heap (word - first)) else word) (ne_eqb word 0 positive)

-- and null stays null
pub current_null : (first : ℕ) (heap : List ℕ) (word : ℕ) → word ≡ 0 → current_at first heap word ≡ 0
current_null first heap word null_word =
    cond-true (word == 0) 0 (if is_forwarded (slice_index heap (word - first)) then forwardee_in (slice_index heap (word - first)) else word) (eq-eqb word 0 null_word)
