-- The words of a marked object, by the flag at its index.
use Rattle.std.proofs.Common.{◌≡◌, ℕ, ◌+◌, ◌-◌, ◌<◌, ◌&&◌, Bool, true, false, nat_le, cond, List, get_or, ap, ◌∙◌, arith}
use Rattle.std.proofs.lemmas.Bool.{cond-true, cond-false, and_from, and_left, and_right, le-leb, lt-leb}
use Rattle.heap_words.specs.Encoding.{object_words}
use Rattle.regions.specs.Table.{kept_of}

-- the flag decides
by_flag : (first_address : ℕ) (heap : List ℕ) (marks : List Bool) (index : ℕ)
    → kept_of first_address heap marks (first_address + index) ≡ cond (nat_le first_address (first_address + index) && get_or marks index false) (object_words (get_or heap (index + 1) 0)) 0
by_flag first_address heap marks mark_index =
    let index : first_address + mark_index - first_address ≡ mark_index = omega arith in
    ap (λ index. cond (nat_le first_address (first_address + mark_index) && get_or marks index false) (object_words (get_or heap (index + 1) 0)) 0) index

pub kept_marked : (first_address : ℕ) (heap : List ℕ) (marks : List Bool) (index : ℕ) → get_or marks index false ≡ true
    → kept_of first_address heap marks (first_address + index) ≡ object_words (get_or heap (index + 1) 0)
kept_marked first_address heap marks index index_marked =
    by_flag first_address heap marks index
    ∙ cond-true (nat_le first_address (first_address + index) && get_or marks index false) (object_words (get_or heap (index + 1) 0)) 0
    (and_from (nat_le first_address (first_address + index)) (get_or marks index false) (le-leb first_address (first_address + index) (omega arith)) index_marked)

pub kept_unmarked : (first_address : ℕ) (heap : List ℕ) (marks : List Bool) (index : ℕ) → get_or marks index false ≡ false
    → kept_of first_address heap marks (first_address + index) ≡ 0
kept_unmarked first_address heap marks index unset =
    by_flag first_address heap marks index
    ∙ cond-false (nat_le first_address (first_address + index) && get_or marks index false) (object_words (get_or heap (index + 1) 0)) 0
    (and_right (nat_le first_address (first_address + index)) (get_or marks index false) unset)

-- below the heap nothing is kept
pub kept_below : (first_address : ℕ) (heap : List ℕ) (marks : List Bool) (address : ℕ) → address < first_address → kept_of first_address heap marks address ≡ 0
kept_below first_address heap marks address address_below =
    cond-false (nat_le first_address address && get_or marks (address - first_address) false) (object_words (get_or heap (address - first_address + 1) 0)) 0
    (and_left (nat_le first_address address) (get_or marks (address - first_address) false) (lt-leb first_address address address_below))
