-- The heap of the test can be packed, by tests that compute.
use Rattle.std.proofs.Common.{ℕ, Bool, true, false, List, [], ◌∷◌, arith, refl}
use Rattle.regions.proofs.Checked.{marked_if, can_compact_if}
use Rattle.text_tests.proofs.packed_heaps.leaves_a_gap_in_each_region.Goals as goal

abbrev heap : List ℕ
heap = 7 ∷ 7 ∷ 7 ∷ 1 ∷ 65793 ∷ 11 ∷ 18 ∷ 100 ∷ 7 ∷ 7 ∷ 1 ∷ 65793 ∷ 12 ∷ 24 ∷ 101 ∷ 7 ∷ 1 ∷ 65793 ∷ 13 ∷ 11 ∷ 102 ∷ 7 ∷ 7 ∷ 7 ∷ []

abbrev marks : List Bool
marks = false ∷ false ∷ false ∷ true ∷ false ∷ false ∷ false ∷ false ∷ false ∷ false ∷ true ∷ false ∷ false ∷ false ∷ false ∷ false ∷ true ∷ false ∷ false ∷ false ∷ false ∷ false ∷ false ∷ false ∷ []

pub compact_marked-requires-clause-compact : goal.compact_marked-requires-clause-compact
compact_marked-requires-clause-compact c t = can_compact_if 8 heap marks (marked_if 8 heap marks (omega arith) refl (omega arith) refl refl) refl refl
