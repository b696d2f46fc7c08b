-- The references and the numbers of an object, where its words lie in the heap.
use Rattle.std.proofs.Common.{ℕ, ◌≡◌, ◌+◌, ◌-◌, ◌<◌, ◌≤◌, List, length, get_or, take, drop, arith, ◌∙◌, length-drop}
use Rattle.std.proofs.lemmas.List.{length-take-le, get_or-take, get_or-drop}
use Rattle.heap_words.specs.Encoding.{refs_in, nums_in}
use Rattle.heap_world.specs.Walk.{shape_at, refs_at, nums_at, size_at}

length_part : (xs : List ℕ) (from count : ℕ) → from + count ≤ length xs → length (take (from + count - from) (drop from xs)) ≡ count
length_part xs from count at_most =
    let short : from + count - from ≤ length (drop from xs) = omega (arith, length-drop from xs) in
    let count_back : from + count - from ≡ count = omega arith in
    length-take-le (from + count - from) (drop from xs) short ∙ count_back

get_or_part : (xs : List ℕ) (from count index : ℕ) → index < count → get_or (take (from + count - from) (drop from xs)) index 0 ≡ get_or xs (from + index) 0
get_or_part xs from count index index_below = get_or-take (from + count - from) (drop from xs) index 0 (omega arith) ∙ get_or-drop from xs index 0

pub length-refs_at : (heap : List ℕ) (place : ℕ) → place + size_at heap place ≤ length heap → length (refs_at heap place) ≡ refs_in (shape_at heap place)
length-refs_at heap address at_most = length_part heap (address + 3) (refs_in (shape_at heap address)) (omega arith)

pub length-nums_at : (heap : List ℕ) (place : ℕ) → place + size_at heap place ≤ length heap → length (nums_at heap place) ≡ nums_in (shape_at heap place)
length-nums_at heap address at_most = length_part heap (address + 3 + refs_in (shape_at heap address)) (nums_in (shape_at heap address)) (omega arith)

pub get_or-refs_at : (heap : List ℕ) (place index : ℕ) → index < refs_in (shape_at heap place) → get_or (refs_at heap place) index 0 ≡ get_or heap (place + 3 + index) 0
get_or-refs_at heap address index index_below = get_or_part heap (address + 3) (refs_in (shape_at heap address)) index index_below

pub get_or-nums_at : (heap : List ℕ) (place index : ℕ) → index < nums_in (shape_at heap place)
    → get_or (nums_at heap place) index 0 ≡ get_or heap (place + 3 + refs_in (shape_at heap place) + index) 0
get_or-nums_at heap address index index_below = get_or_part heap (address + 3 + refs_in (shape_at heap address)) (nums_in (shape_at heap address)) index index_below
