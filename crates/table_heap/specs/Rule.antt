-- The rule of a deque of hints: what it holds are addresses of the heap. A rule belongs to a type, and knows no configuration; so the
-- heap comes into it by what is pushed first: the least of its addresses, and then the greatest. From then on each pass knows both.
use Rattle.std.specs.Prelude.{ℕ, zero, suc, ◌≡◌, ◌+◌, ◌*◌, ◌-◌, ◌≤◌, List, [], ◌∷◌, length, All}
use mathlib.Core.Option.{some}
use lib.ListN.{get_elem?}
use Rattle.heap_words.specs.declared.config.Config.{Config}
use Rattle.table_heap.specs.declared.rule.Bounds.{Bounds}

-- what a pass knows: this many of the bounds, and these
abbrev pub bounds : (known least greatest : ℕ) → Bounds
bounds known least greatest = record { known = known; least = least; greatest = greatest }

-- an address lies between the bounds
abbrev pub IsBetween : Bounds → ℕ → Type 0
IsBetween bounds address = (bounds.least ≤ address) × (address ≤ bounds.greatest)

-- the passes all know the same
abbrev pub AllKnow : List Bounds → Bounds → Type 0
AllKnow views bounds = (port : ℕ) (view : Bounds) → get_elem? views port ≡ some view → view ≡ bounds

-- By how many bounds a pass knows: with none the deque is empty, with one it holds that address, and until both are known there is no
-- other pass. Then each address that it holds lies between them.
abbrev pub IsKnown : (known : ℕ) → Bounds → List ℕ → List Bounds → Type 0
IsKnown zero bounds items views = (items ≡ []) × (length views ≡ 1)
IsKnown (suc zero) bounds items views = (items ≡ bounds.least ∷ []) × (length views ≡ 1)
IsKnown (suc (suc more)) bounds items views = All (IsBetween bounds) items × AllKnow views bounds

-- the rule
abbrev pub AreHints : List ℕ → List Bounds → Type 0
AreHints items views = (port : ℕ) (view : Bounds) → get_elem? views port ≡ some view → IsKnown view.known view items views

-- the bounds of a heap's addresses: the base of its first region, and the last word of its last one
abbrev pub heap_bounds : Config → Bounds
heap_bounds config = bounds 2 config.region_words ((config.regions + 1) * config.region_words - 1)
