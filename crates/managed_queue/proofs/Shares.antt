-- What all threads did is the sum of what each did.
use Rattle.std.proofs.Common.{ℕ, zero, suc, ◌≡◌, ◌+◌, ◌<◌, ◌≤◌, List, [], ◌∷◌, refl, sym, ap, ◌∙◌, subst, inl, inr, arith, sum_by}
use Rattle.std.specs.Prelude.{◌≢◌}
use Rattle.std.specs.List.{range_with_len}
use Rattle.std.proofs.lemmas.Bool.{cases_eq}
use Rattle.std.proofs.lemmas.List.Sums.{sum_by-append, sum_by-cons}
use Rattle.shen_graph.specs.History.{Entry, of_thread}
use Rattle.managed_queue.specs.declared.spot.Spot.{Spot}
use Rattle.managed_queue.specs.Spots.{Operation, next_spot, fixed_at}
use Rattle.managed_queue.specs.Queue.{fixed, fixed_in, spot_moved, entry_spot}
use Rattle.managed_queue.specs.Shares.{AreOf, FixedAreShared}
use Rattle.managed_queue.proofs.Rising.{on_here, on_there}
use Rattle.managed_queue.proofs.Playing.{of_here, of_there}

-- two sums with the same terms
same_sum : (f g : ℕ → ℕ) (start count : ℕ) → ((index : ℕ) → start ≤ index → f index ≡ g index) → sum_by f (range_with_len start count) ≡ sum_by g (range_with_len start count)
same_sum f g start zero same_terms = refl
same_sum f g start (suc count) same_terms =
    let same_rest = same_sum f g (start + 1) count (λ index index_above. same_terms index (omega (arith, index_above))) in
    let first_term = same_terms start (omega arith) in
    omega (arith, sum_by-cons f start (range_with_len (start + 1) count), sum_by-cons g start (range_with_len (start + 1) count), same_rest, first_term)

-- two sums that differ in one term
one_term : (f g : ℕ → ℕ) (difference changed_index : ℕ) (start count : ℕ) → start ≤ changed_index → changed_index < start + count → f changed_index ≡ difference + g changed_index → ((index : ℕ) → index ≢ changed_index → f index ≡ g index) → sum_by f (range_with_len start count) ≡ difference + sum_by g (range_with_len start count)
one_term f g difference changed_index start zero changed_above changed_below changed_term same_terms = absurd (omega (arith, changed_above, changed_below))
one_term f g difference changed_index start (suc count) changed_above changed_below changed_term same_terms =
    elim (cases_eq start changed_index) [
      | inl at_start ↦
          let rest_sum = same_sum f g (start + 1) count (λ index index_above. same_terms index (λ same_index. omega (arith, index_above, at_start, same_index))) in
          let first_term : f start ≡ difference + g start = subst (λ (index : ℕ). f index ≡ difference + g index) (sym at_start) changed_term in
          omega (arith, sum_by-cons f start (range_with_len (start + 1) count), sum_by-cons g start (range_with_len (start + 1) count), rest_sum, first_term)
      | inr not_start ↦
          let rest_sum = one_term f g difference changed_index (start + 1) count (omega (arith, changed_above, not_start)) (omega (arith, changed_below)) changed_term same_terms in
          let first_term = same_terms start not_start in
          omega (arith, sum_by-cons f start (range_with_len (start + 1) count), sum_by-cons g start (range_with_len (start + 1) count), rest_sum, first_term)
    ]

no_terms : (start count : ℕ) → sum_by (λ t. 0) (range_with_len start count) ≡ 0
no_terms start zero = refl
no_terms start (suc count) = let rest_zero = no_terms (start + 1) count in omega (arith, sum_by-cons (λ t. 0) start (range_with_len (start + 1) count), rest_zero)

shared : (weight : Operation → ℕ) (threads : ℕ) (entries : List Entry) (spots : ℕ → Spot) → AreOf threads entries
    → sum_by weight (fixed spots entries) ≡ sum_by (λ moving_thread. sum_by weight (fixed_in (spots moving_thread) (of_thread entries moving_thread))) (range_with_len 1 threads)
shared weight threads [] spots are_of = sym (no_terms 1 threads)
shared weight threads (entry ∷ entries) spots are_of =
    let moving_thread = entry.thread in
    let fixed_now = fixed_at (spots moving_thread) entry.reply in
    let shares_before = λ (thread : ℕ). sum_by weight (fixed_in (spots thread) (of_thread (entry ∷ entries) thread)) in
    let shares_after = λ (thread : ℕ). sum_by weight (fixed_in (spot_moved spots entry thread) (of_thread entries thread)) in
    let later = shared weight threads entries (spot_moved spots entry) are_of.2 in
    let own_share : shares_before moving_thread ≡ sum_by weight fixed_now + shares_after moving_thread =
    ap (λ own_entries. sum_by weight (fixed_in (spots moving_thread) own_entries)) (of_here entry entries)
    ∙ sum_by-append weight fixed_now (fixed_in (next_spot (spots moving_thread) entry.command entry.reply) (of_thread entries moving_thread))
    ∙ ap (λ spot. sum_by weight fixed_now + sum_by weight (fixed_in spot (of_thread entries moving_thread))) (sym (on_here spots moving_thread entry.command entry.reply)) in
    let other_shares : (thread : ℕ) → thread ≢ moving_thread → shares_before thread ≡ shares_after thread = λ thread different_thread.
    ap (λ own_entries. sum_by weight (fixed_in (spots thread) own_entries)) (of_there entry entries thread different_thread)
    ∙ ap (λ spot. sum_by weight (fixed_in spot (of_thread entries thread))) (sym (on_there spots moving_thread entry.command entry.reply thread different_thread)) in
    sum_by-append weight fixed_now (fixed (spot_moved spots entry) entries)
    ∙ ap (λ amount. sum_by weight fixed_now + amount) later
    ∙ sym (one_term shares_before shares_after (sum_by weight fixed_now) moving_thread 1 threads are_of.0 (omega (arith, are_of.1)) own_share other_shares)

pub fixed_are_shared : FixedAreShared
fixed_are_shared weight threads history of_threads = shared weight threads history entry_spot of_threads
