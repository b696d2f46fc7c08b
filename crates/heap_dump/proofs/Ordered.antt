-- Rows in the order of names, and what stands before and behind a name.
use Rattle.std.proofs.Common.{ℕ, zero, suc, ◌≡◌, ◌+◌, ◌<◌, ◌≤◌, List, [], ◌∷◌, length, get_or, sym, subst, ◌∙◌, ◌⊎◌, inl, inr, arith}
use Rattle.std.proofs.Math.Nat.{eq-or-lt_of_le}
use Rattle.std.proofs.lemmas.List.{get_or_default}
use Rattle.std.specs.Prelude.{Contains, false}
use Rattle.shen_graph.specs.declared.name.Name.{Name}
use Rattle.shen_graph.specs.Graph.{hub, same_name}
use Rattle.shen_graph.proofs.OrderLemmas.{same_name-Decides}
use Rattle.std.proofs.lemmas.Bool.{false≢true, cases_lt}
use Rattle.shen_graph.specs.Reach.{IsBefore, InOrder}
use Rattle.shen_graph.proofs.Distinct.{before_join}
use Rattle.heap_dump.proofs.OwnGraph.{before_at, order_rest}

pub not_itself : (name : Name) → IsBefore name name → ⊥
not_itself name name_before = elim name_before [ inl lower ↦ omega (arith, lower) | inr lower ↦ omega (arith, lower.1) ]

-- an earlier name is before a later one
pub earlier : (names : List Name) (index later_index : ℕ) (name : Name) → InOrder names → index < later_index → later_index < length names → IsBefore (get_or names index name) (get_or names later_index name)
earlier [] index later_index name order index_less later_below = absurd (omega arith)
earlier (first_name ∷ names) index zero name order index_less later_below = absurd (omega arith)
earlier (first_name ∷ names) zero (suc index) name order index_less later_below = before_at first_name names index name order (omega arith)
earlier (first_name ∷ names) (suc index) (suc later_index) name order index_less later_below = earlier names index later_index name (order_rest first_name names order) (omega arith) (omega arith)

-- ---- halving: all before `low` are before the name, and it is before all from `high` on
pub record Between (names : List Name) (name : Name) (low high : ℕ) : Type 0 where
  pub within : high ≤ length names
  pub below : (index : ℕ) → index < low → IsBefore (get_or names index hub) name
  pub above : (index : ℕ) → high ≤ index → index < length names → IsBefore name (get_or names index hub)

pub between_up : (names : List Name) (name : Name) (low high middle : ℕ) → InOrder names → Between names name low high → middle < high → IsBefore (get_or names middle hub) name → Between names name (middle + 1) high
between_up names name low high middle order between middle_below middle_before = record { within = between.within; below = upto; above = between.above }
  where
    upto : (index : ℕ) → index < middle + 1 → IsBefore (get_or names index hub) name
    upto index index_below = by_case (eq-or-lt_of_le (let index_at_most : index ≤ middle = omega arith in index_at_most))
      where
        by_case : (index ≡ middle) ⊎ (index < middle) → IsBefore (get_or names index hub) name
        by_case (inl at_middle) = subst (λ (index : ℕ). IsBefore (get_or names index hub) name) (sym at_middle) middle_before
        by_case (inr below_middle) = before_join (get_or names index hub) (get_or names middle hub) name (earlier names index middle hub order below_middle (omega (arith, middle_below, between.within))) middle_before

pub between_down : (names : List Name) (name : Name) (low high middle : ℕ) → InOrder names → Between names name low high → middle < high → IsBefore name (get_or names middle hub) → Between names name low middle
between_down names name low high middle order between middle_below name_before = record { within = omega (arith, between.within, middle_below); below = between.below; above = from }
  where
    from : (index : ℕ) → middle ≤ index → index < length names → IsBefore name (get_or names index hub)
    from index middle_at_most is_above = by_case (eq-or-lt_of_le middle_at_most)
      where
        by_case : (middle ≡ index) ⊎ (middle < index) → IsBefore name (get_or names index hub)
        by_case (inl at_middle) = subst (λ (index : ℕ). IsBefore name (get_or names index hub)) at_middle name_before
        by_case (inr later) = before_join name (get_or names middle hub) (get_or names index hub) name_before (earlier names middle index hub order later is_above)

pub between_none : (names : List Name) (name : Name) (low high : ℕ) → Between names name low high → high ≤ low → Contains names name → ⊥
between_none names name low high between met name_contained = by_case (cases_lt name_contained.0 low)
  where
    same : get_or names name_contained.0 hub ≡ name
    same = get_or_default names name_contained.0 hub name name_contained.1 ∙ name_contained.2

    by_case : (name_contained.0 < low) ⊎ (low ≤ name_contained.0) → ⊥
    by_case (inl below_low) = not_itself name (subst (λ (any_name : Name). IsBefore any_name name) same (between.below name_contained.0 below_low))
    by_case (inr later) = not_itself name (subst (IsBefore name) same (between.above name_contained.0 (omega (arith, met, later)) name_contained.1))

pub other_way : (name other_name : Name) → false ≡ same_name name other_name → (IsBefore name other_name → ⊥) → IsBefore other_name name
other_way name other_name different_names not_before = by_thread (cases_lt other_name.thread name.thread)
  where
    by_count : name.thread ≤ other_name.thread → (other_name.count < name.count) ⊎ (name.count ≤ other_name.count) → IsBefore other_name name
    by_count thread_at_most (inl count_less) = by_same (cases_lt name.thread other_name.thread)
      where
        by_same : (name.thread < other_name.thread) ⊎ (other_name.thread ≤ name.thread) → IsBefore other_name name
        by_same (inl thread_less) = absurd (not_before (inl thread_less))
        by_same (inr thread_at_least) = inr (omega (arith, thread_at_most, thread_at_least), count_less)
    by_count thread_at_most (inr count_more) = by_same (cases_lt name.thread other_name.thread)
      where
        by_equal : name.thread ≡ other_name.thread → (name.count < other_name.count) ⊎ (other_name.count ≤ name.count) → IsBefore other_name name
        by_equal equal_threads (inl count_less) = absurd (not_before (inr (equal_threads, count_less)))
        by_equal equal_threads (inr count_at_least) =
            let same_count : name.count ≡ other_name.count = omega (arith, count_more, count_at_least) in
            absurd (false≢true (different_names ∙ (same_name-Decides name other_name).1 (equal_threads, same_count)))

        by_same : (name.thread < other_name.thread) ⊎ (other_name.thread ≤ name.thread) → IsBefore other_name name
        by_same (inl thread_less) = absurd (not_before (inl thread_less))
        by_same (inr thread_at_least) = by_equal (omega (arith, thread_at_most, thread_at_least)) (cases_lt name.count other_name.count)

    by_thread : (other_name.thread < name.thread) ⊎ (name.thread ≤ other_name.thread) → IsBefore other_name name
    by_thread (inl thread_less) = inl thread_less
    by_thread (inr thread_at_most) = by_count thread_at_most (cases_lt other_name.count name.count)
