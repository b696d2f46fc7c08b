-- Each call keeps the rule of a deque of hints.
use Rattle.std.proofs.Common.{◌≡◌, ◌≢◌, ℕ, zero, suc, ◌+◌, ◌-◌, ◌*◌, ◌<◌, ◌≤◌, List, [], ◌∷◌, ◌++◌, length, All, refl, sym, ap, ◌∙◌, subst, ⊎_elim, arith}
use Rattle.std.specs.Prelude.{slice_set, ⊤, Option, None, Some, MatchOption}
use Rattle.std.proofs.lemmas.List.{length-set}
use Rattle.std.proofs.lemmas.List.Elements.{All-nil, All-cons, All-append, All-take, All-drop}
use Rattle.std.proofs.Math.Nat.{mul-pos}
use mathlib.Core.Option.{some, some-ne-none}
use lib.ListN.{get_elem?}
use lib.Seq.{take-append_seam, drop-append_seam}
use Rattle.crossbeam_deque.specs.Tasks.{Pushes, Takes, Pops, Forks}
use Rattle.crossbeam_deque.proofs.Lists.{at_set, at_snoc}
use Rattle.table_heap.specs.declared.rule.Bounds.{Bounds}
use Rattle.table_heap.specs.Rule.{bounds, IsBetween, AllKnow, IsKnown, AreHints}

-- who is there has a number below the length
there_below : (views : List Bounds) (port : ℕ) (view : Bounds) → get_elem? views port ≡ some view → port < length views
there_below [] port view view_there = absurd (some-ne-none view (sym view_there))
there_below (x ∷ xs) zero view view_there = omega arith
there_below (x ∷ xs) (suc port) view view_there = let rest_below = there_below xs port view view_there in omega (arith, rest_below)

-- the first parts and the last parts of what holds of all
front : (P : ℕ → Type 0) (xs ys : List ℕ) → All P (xs ++ ys) → All P xs
front P xs ys all_hold = subst (All P) (take-append_seam xs ys) (All-take P (length xs) (xs ++ ys) all_hold)

back : (P : ℕ → Type 0) (xs ys : List ℕ) → All P (xs ++ ys) → All P ys
back P xs ys all_hold = subst (All P) (drop-append_seam xs ys) (All-drop P (length xs) (xs ++ ys) all_hold)

-- what holds of one address holds of the list of it
one_within : (view : Bounds) (address : ℕ) → IsBetween view address → All (IsBetween view) (address ∷ [])
one_within view address address_within = All-cons (IsBetween view) address [] address_within (All-nil (IsBetween view))

-- the least address of a heap is not above its greatest
pub least_below : (regions words least from size : ℕ) → 0 < regions → 0 < words → least ≡ words → from ≡ words → size ≡ regions * words → least ≤ from + size - 1
least_below regions words least from size some_regions any least_is begins_at size_is =
    let some_words : 0 < regions * words = mul-pos some_regions any in
    omega (arith, some_words, least_is, begins_at, size_is)

-- where there is one pass, all that there is after a change is the changed one
only : (views : List Bounds) (port : ℕ) (view new_view : Bounds) → length views ≡ 1 → get_elem? views port ≡ some view → (other_port : ℕ) (found_view : Bounds) → get_elem? (slice_set views port new_view) other_port ≡ some found_view → found_view ≡ new_view
only views port view new_view one_view view_there other_port found_view found_there = ⊎_elim
    (λ (same_port : (other_port ≡ port) × (new_view ≡ found_view)). sym same_port.1)
    (λ (other_view : (other_port ≢ port) × (get_elem? views other_port ≡ some found_view)).
    let port_below = there_below views port view view_there in
    let low_too = there_below views other_port found_view other_view.1 in
    absurd (other_view.0 (omega (arith, port_below, low_too, one_view))))
    (at_set views port other_port new_view found_view found_there)

-- at first
pub begins : AreHints [] (bounds 0 0 0 ∷ [])
begins zero view view_there = subst (λ asked_view. IsKnown asked_view.known asked_view [] (bounds 0 0 0 ∷ [])) (first_is view view_there) (refl, refl)
  where
    first_is : (view : Bounds) → get_elem? (bounds 0 0 0 ∷ []) 0 ≡ some view → bounds 0 0 0 ≡ view
    first_is view view_there = cc (view_there)
begins (suc n) view view_there = absurd (some-ne-none view (sym view_there))

-- the least address is told, and then the greatest
pub tells_least : (view : Bounds) (port least : ℕ) → view ≡ bounds 0 0 0 → Pushes AreHints port view (least ∷ []) (λ new_view. (least ∷ [] ≡ new_view.least ∷ []) × (new_view ≡ bounds 1 new_view.least 0))
tells_least view port least nothing items views holds view_there =
    let view_known = subst (λ found_view. IsKnown found_view.known found_view items views) nothing (holds port view view_there) in
    let new_view : Bounds = bounds 1 least 0 in
    let views_then : List Bounds = slice_set views port new_view in (
      new_view,
      (λ other_port found_view found_there. subst (λ asked_view. IsKnown asked_view.known asked_view (items ++ least ∷ []) views_then) (sym (only views port view new_view view_known.1 view_there other_port found_view found_there))
          (ap (λ known_list. known_list ++ least ∷ []) view_known.0, length-set views port new_view ∙ view_known.1)),
      (refl, refl),
    )

pub tells_greatest : (view : Bounds) (port greatest : ℕ) → view ≡ bounds 1 view.least 0 → view.least ≤ greatest → Pushes AreHints port view (greatest ∷ []) (λ new_view. (greatest ∷ [] ≡ new_view.greatest ∷ []) × (new_view ≡ bounds 2 view.least new_view.greatest))
tells_greatest view port greatest knows_least greatest_above items views holds view_there =
    let known_bounds = subst (λ known_bounds. IsKnown known_bounds view items views) (ap (λ found_view. found_view.known) knows_least) (holds port view view_there) in
    let new_view : Bounds = bounds 2 view.least greatest in
    let views_then : List Bounds = slice_set views port new_view in
    let both_within : All (IsBetween new_view) (view.least ∷ greatest ∷ []) = All-cons (IsBetween new_view) view.least (greatest ∷ []) (omega arith, greatest_above) (one_within new_view greatest (greatest_above, omega arith)) in (
      new_view,
      (λ other_port found_view found_there. subst (λ asked_view. IsKnown asked_view.known asked_view (items ++ greatest ∷ []) views_then) (sym (only views port view new_view known_bounds.1 view_there other_port found_view found_there))
          (subst (λ known_list. All (IsBetween new_view) known_list) (sym (ap (λ known_list. known_list ++ greatest ∷ []) known_bounds.0)) both_within, λ third_port third_view contained. only views port view new_view known_bounds.1 view_there third_port third_view contained)),
      (refl, refl),
    )

-- From then on the passes know both bounds, and each call leaves that.
module _ (view : Bounds) (knows_both : view.known ≡ 2) where
  -- a pass that is as it was changes nothing that is known
  all_same : (views : List Bounds) (port : ℕ) → AllKnow views view → AllKnow (slice_set views port view) view
  all_same views port all_know other_port found_view found_there = ⊎_elim
      (λ (same_port : (other_port ≡ port) × (view ≡ found_view)). sym same_port.1)
      (λ (other_view : (other_port ≢ port) × (get_elem? views other_port ≡ some found_view)). all_know other_port found_view other_view.1)
      (at_set views port other_port view found_view found_there)

  -- the rule of passes that know both
  rule_of : (items : List ℕ) (views : List Bounds) → All (IsBetween view) items → AllKnow views view → AreHints items views
  rule_of items views items_within all_know any_port found_view found_there = subst (λ y. IsKnown y.known y items views) (sym (all_know any_port found_view found_there)) (subst (λ known. IsKnown known view items views) (sym knows_both) (items_within, all_know))

  -- and what it says to one of them
  known_to : (items : List ℕ) (views : List Bounds) (port : ℕ) → AreHints items views → get_elem? views port ≡ some view → All (IsBetween view) items × AllKnow views view
  known_to items views port hints_hold view_there = subst (λ known. IsKnown known view items views) knows_both (hints_hold port view view_there)

  pub adds : (port address : ℕ) → IsBetween view address → Pushes AreHints port view (address ∷ []) (λ then_view. (then_view ≡ view) × All (IsBetween view) (address ∷ []))
  adds port address address_within items views holds view_there =
      let known_facts = known_to items views port holds view_there in
      let all_within = All-append (IsBetween view) items (address ∷ []) known_facts.0 (one_within view address address_within) in
      (view, rule_of (items ++ address ∷ []) (slice_set views port view) all_within (all_same views port known_facts.1), (refl, one_within view address address_within))

  pub takes : (port most : ℕ) → Takes AreHints port view most (λ addresses then_view. (then_view ≡ view) × All (IsBetween view) addresses)
  takes port most addresses items views any few holds view_there =
      let known_facts = known_to (addresses ++ items) views port holds view_there in
      let rest_within = back (IsBetween view) addresses items known_facts.0 in
      (view, rule_of items (slice_set views port view) rest_within (all_same views port known_facts.1), (refl, front (IsBetween view) addresses items known_facts.0))

  pub pops : (port : ℕ) → Pops AreHints port view (λ xs then_view. (then_view ≡ view) × All (IsBetween view) xs)
  pops port address items views holds view_there =
      let known_facts = known_to (items ++ address ∷ []) views port holds view_there in
      let rest_within = front (IsBetween view) items (address ∷ []) known_facts.0 in
      (view, rule_of items (slice_set views port view) rest_within (all_same views port known_facts.1), (refl, back (IsBetween view) items (address ∷ []) known_facts.0))

  pub forks : (port : ℕ) → Forks AreHints port view view view
  forks port items views holds view_there =
      let known_facts = known_to items views port holds view_there in
      let views_then : List Bounds = slice_set views port view in
      rule_of items (views_then ++ view ∷ []) known_facts.0 (λ other_port found_view found_there. ⊎_elim
      (λ (old : get_elem? views_then other_port ≡ some found_view). all_same views port known_facts.1 other_port found_view old)
      (λ (new : view ≡ found_view). sym new)
      (at_snoc views_then view found_view other_port found_there))

-- whether or not there was an address to take, what is known is as before
pub known_still : (least greatest : ℕ) (taken : Option ℕ) (old new : Bounds) → old ≡ bounds 2 least greatest → MatchOption taken ((new ≡ old) × ⊤) (λ address. (new ≡ old) × All (IsBetween old) (address ∷ [])) → new.known ≡ 2
known_still least greatest None old new old_knows kept_known = ap (λ asked_view. asked_view.known) (kept_known.0 ∙ old_knows)
known_still least greatest (Some address) old new old_knows kept_known = ap (λ asked_view. asked_view.known) (kept_known.0 ∙ old_knows)
