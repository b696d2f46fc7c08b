-- The heap after its kept objects were slid down to their new places. `place` says where each goes.
use Rattle.std.specs.Prelude.{ℕ, ◌≡◌, ◌≢◌, ◌+◌, ◌-◌, ◌<◌, ◌≤◌, ◌==◌, ◌&&◌, Bool, true, zero, suc, nat_le, nat_lt, if◌then◌else◌}
use Rattle.heap_words.specs.Encoding.{plain_header, refs_in}

-- What a word that stands for a reference becomes: null stays null, and another one names the new place of the object.
-- `now` gives the address of an object's current copy.
abbrev pub renewed : (place now : ℕ → ℕ) → ℕ → ℕ
renewed place now word = if word == 0 then 0 else place (now word)

-- What a word of an object with so many references becomes, by its index in the object: the header is plain, references
-- are renewed, and shape, name and numbers stay.
abbrev pub placed_word : (renew : ℕ → ℕ) (refs index word : ℕ) → ℕ
placed_word renew refs index word = if index == 0 then plain_header else (if nat_le 3 index && nat_lt index (3 + refs) then renew word else word)

-- the word at an index of the object that began at an address, in its new place
abbrev pub slid_word : (renew heap : ℕ → ℕ) (address index : ℕ) → ℕ
slid_word renew heap address index = placed_word renew (refs_in (heap (address + 1))) index (heap (address + index))

-- The heap after the kept objects that begin below an address were slid. Their words stand at their new places, and each
-- other word of the heap, whose addresses begin at `first`, is as before.
pub record IsSlidTo (end first : ℕ) (place kept renew before after : ℕ → ℕ) : Type 0 where
  pub moved : (address index : ℕ) → address < end → index < kept address → after (place address + index) ≡ slid_word renew before address index
  pub others : (x : ℕ) → first ≤ x → ((a i : ℕ) → a < end → i < kept a → x ≢ place a + i) → after x ≡ before x

-- whether the new place of an object covers an address
abbrev pub is_covered : (place kept : ℕ → ℕ) (object address : ℕ) → Bool
is_covered place kept object address = nat_le (place object) address && nat_lt address (place object + kept object)

-- the same as a function: the word of the last of them whose new place covers an address, and where none does the old word
unfoldable pub slid : (place kept renew before : ℕ → ℕ) → ℕ → ℕ → ℕ
slid place kept renew before zero asked_address = before asked_address
slid place kept renew before (suc address) asked_address =
    if is_covered place kept address asked_address then slid_word renew before address (asked_address - place address) else slid place kept renew before address asked_address

-- the places of kept objects lie apart, in whatever order
abbrev pub PlacesApart : (place kept : ℕ → ℕ) → Type 0
PlacesApart place kept = (object other_object address : ℕ) → is_covered place kept object address ≡ true → is_covered place kept other_object address ≡ true → object ≡ other_object

-- Where the places of kept objects lie apart, the function gives a heap after sliding, and over the heap's addresses it is the only one.
pub record IsOneHeap : Type 0 where
  pub is : (first : ℕ) (place kept renew before : ℕ → ℕ) → PlacesApart place kept → (end : ℕ)
      → IsSlidTo end first place kept renew before (slid place kept renew before end)
  pub only : (first : ℕ) (place kept renew before : ℕ → ℕ) → PlacesApart place kept → (end : ℕ) (after : ℕ → ℕ)
      → IsSlidTo end first place kept renew before after → (x : ℕ) → first ≤ x → after x ≡ slid place kept renew before end x
