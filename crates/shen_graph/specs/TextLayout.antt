-- How the rows of a text lie in memory: the references of all rows in one list, and their numbers in another.
use Rattle.std.specs.Prelude.{ℕ, ◌≡◌, ◌-◌, ◌≤◌, List, [], ◌∷◌, slice_range, sum_by, All}
use Rattle.shen_graph.specs.declared.graph_text.Span.{Span}
use Rattle.shen_graph.specs.declared.graph_text.Place.{Place}
use Rattle.shen_graph.specs.Graph.{Reference}
use Rattle.shen_graph.specs.GraphText.{Row}

-- the part of a list that a span covers
abbrev pub part : {A : Type 0} → List A → Span → List A
part xs span = slice_range xs span.from span.to

-- the row that lies at a place
abbrev pub row_at : List Reference → List ℕ → Place → Row
row_at refs nums place = record { name = place.name; refs = part refs place.refs; nums = part nums place.nums }

abbrev pub span_length : Span → ℕ
span_length span = span.to - span.from

-- both spans are in order, and end at or before these ends
abbrev pub Within : ℕ → ℕ → Place → Type 0
Within refs nums place = (place.refs.from ≤ place.refs.to) × (place.refs.to ≤ refs) × (place.nums.from ≤ place.nums.to) × (place.nums.to ≤ nums)

-- the spans of the last place end exactly there
abbrev pub EndsAt : ℕ → ℕ → List Place → Type 0
EndsAt refs nums [] = Unit {0}
EndsAt refs nums (place ∷ []) = (place.refs.to ≡ refs) × (place.nums.to ≡ nums)
EndsAt refs nums (first_place ∷ second_place ∷ later_places) = EndsAt refs nums (second_place ∷ later_places)

-- The places lie in lists of these lengths, which they fill, and the last row can grow at the ends of both.
pub record IsLaid (places : List Place) (refs nums : ℕ) : Type 0 where
  pub within : All (Within refs nums) places
  pub ends : EndsAt refs nums places
  pub fills_refs : sum_by (λ p. span_length p.refs) places ≡ refs
  pub fills_nums : sum_by (λ p. span_length p.nums) places ≡ nums
