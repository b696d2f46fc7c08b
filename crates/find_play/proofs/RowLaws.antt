-- Following references.
use Rattle.std.proofs.Common.{◌≡◌, ℕ, zero, suc, ◌+◌, ◌-◌, ◌<◌, false, List, Option, Some, None, is_some, refl, sym, ap, ◌∙◌, arith}
use Rattle.shen_graph.specs.Graph.{Reference}
use Rattle.shen_graph.specs.GraphText.{Row}
use Rattle.find_play.specs.Rows.{follow, along}

-- a place that is not there leads nowhere
pub along_none : (rows : List Row) (field count : ℕ) → along rows field count None ≡ None
along_none rows field zero = refl
along_none rows field (suc count) = along_none rows field count

pub along_absent : (rows : List Row) (field count : ℕ) (start_reference : Option Reference) → is_some start_reference ≡ false → along rows field count start_reference ≡ None
along_absent rows field count None no_reference = along_none rows field count
along_absent rows field count (Some reference) no_reference = absurd cc

-- one object further
pub along_on : (rows : List Row) (field count made : ℕ) (reference next_reference : Option Reference) → made < count → next_reference ≡ follow rows field reference → along rows field (count - made) reference ≡ along rows field (count - (made + 1)) next_reference
along_on rows field count made reference next_reference made_below followed =
    let one_left : count - made ≡ suc (count - (made + 1)) = omega arith in
    ap (λ (n : ℕ). along rows field n reference) one_left ∙ ap (along rows field (count - (made + 1))) (sym followed)
