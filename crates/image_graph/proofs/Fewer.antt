-- What is kept in open regions and what is pinned have together no more words than what lives and what is promised.
use Rattle.std.proofs.Common.{◌≡◌, ℕ, ◌+◌, ◌-◌, ◌/◌, ◌<◌, ◌≤◌, ◌⊎◌, inl, inr, Bool, true, false, cond, nat_lt, List, length, get_or, sum_by, Contains, Some, ⊎_elim, refl, sym, ap, ◌∙◌, subst, arith}
use Rattle.std.proofs.lemmas.Bool.{cond-true, cond-false, cases_lt, cases_order, lt-ltb, le-ltb, true≢false}
use Rattle.std.proofs.lemmas.List.{get_or_default}
use Rattle.std.proofs.lemmas.Map.Keys.{apart_from_distinct}
use Rattle.std.proofs.lemmas.Option.{same_Some}
use Rattle.heap_words.specs.declared.config.Config.{Config}
use Rattle.regions.specs.Places.{open_kept}
use Rattle.regions.specs.Tops.{sum_below}
use Rattle.regions.proofs.Placed.{is_open}
use Rattle.regions.proofs.Sums.{sum_of_things, sum_by_index, sum_of_two_rows}
use Rattle.shen_graph.specs.declared.name.Name.{Name}
use Rattle.shen_graph.specs.declared.pin.Pinned.{Pinned}
use Rattle.shen_graph.specs.Graph.{Graph, named, hub, same_name}
use Rattle.shen_graph.specs.Reach.{IsReachable, IsReach, size}
use Rattle.shen_graph.specs.Reach as reach
use Rattle.shen_graph.specs.Crowd.{ArePinned, Held}
use Rattle.shen_graph.proofs.PlainLemmas.{same_name-itself}
use Rattle.heap_world.specs.World.{Plot}
use Rattle.image_graph.specs.Held.{IsLedTo, AreHeldKept, HoldsGraph, IsCopy}
use Rattle.image_graph.specs.Plot.{heap_end}
use Rattle.image_graph.specs.Promised.{Promises, with_promised, AreFresh, promised_words}
use Rattle.image_graph.proofs.Reached.{can_pack}
use Rattle.image_graph.proofs.Origin.{kept_inside}
use Rattle.image_graph.proofs.Live.{kept_one}
use Rattle.image_graph.proofs.HeldRoots.{copy_named}
use Rattle.image_graph.proofs.Promised.{old_object, kept_are_live_or_promised}

-- two objects at one address have one name
one_copy : (block : Plot) (address : ℕ) (name other_name : Name) → IsCopy block address name → IsCopy block address other_name → name ≡ other_name
one_copy block address name other_name copy other_copy = same_Some name other_name (sym (copy_named block address name copy) ∙ copy_named block address other_name other_copy)

-- where each object that a slot holds is kept in a shut region, at its place
abbrev pub ArePinnedThere : (region_words : ℕ) (shut : ℕ → Bool) → Plot → (kept : ℕ → ℕ) → Graph → Type 0
ArePinnedThere region_words shut block kept graph =
    (thread slot : ℕ) (pinned : Pinned) → graph.pin thread slot ≡ Some pinned
    → (0 < kept pinned.place) × (shut (pinned.place / region_words) ≡ true) × IsCopy block pinned.place pinned.name

module _ (config : Config) (shut : ℕ → Bool) (top heap : ℕ → ℕ) (block : Plot) (now kept : ℕ → ℕ) (IsRoot : ℕ → Type 0) (graph : Graph) (promises : Promises)
    (holds : HoldsGraph config top heap block now IsRoot (with_promised graph promises)) (are_kept : AreHeldKept heap (IsLedTo now heap IsRoot) kept)
    (fresh : AreFresh config.mutators graph promises) (pinned_there : ArePinnedThere config.region_words shut block kept graph) (names : List Name) (pinned : ArePinned graph names) (end : ℕ) where
  abbrev counts : ℕ → ℕ
  counts = open_kept config.region_words shut kept

  abbrev name_of : ℕ → Name
  name_of index = get_or names index hub

  abbrev words_of_name : ℕ → ℕ
  words_of_name index = size (named graph (Some (name_of index)))

  -- what is kept in open regions, and behind it what is pinned
  abbrev both : ℕ → ℕ
  both index = cond (nat_lt index end) (counts index) (words_of_name (index - end))

  -- each of them is at an address of its own
  abbrev IsOpenAt : ℕ → ℕ → Type 0
  IsOpenAt index address = (index < end) × (index ≡ address) × (shut (address / config.region_words) ≡ false)

  abbrev IsPinnedAt : ℕ → ℕ → Type 0
  IsPinnedAt index address = (end ≤ index) × (index - end < length names) × (shut (address / config.region_words) ≡ true) × IsCopy block address (name_of (index - end))

  abbrev Found : ℕ → Type 0
  Found index = (address : ℕ) × (address < heap_end config) × (both index ≤ kept address) × (IsOpenAt index address ⊎ IsPinnedAt index address)

  kept_below : (address : ℕ) → 0 < kept address → address < heap_end config
  kept_below address positive =
      let packable = can_pack config top heap block now IsRoot (with_promised graph promises) holds kept are_kept in
      omega (arith, (kept_inside config top heap block (with_promised graph promises).object now kept packable address positive).1, positive)

  found_open : (index : ℕ) → index < end → 0 < both index → Found index
  found_open index index_below positive =
      let weight = cond-true (nat_lt index end) (counts index) (words_of_name (index - end)) (lt-ltb index end index_below) in
      let opened = is_open config.region_words shut kept index (omega (arith, positive, weight)) in
      (index, kept_below index opened.0, omega (arith, weight, opened.2), inl (index_below, refl, opened.1))

  -- a pinned object is kept where its slot says
  found_pinned : (index : ℕ) → end ≤ index → index - end < length names → Found index
  found_pinned index index_past within =
      let name = name_of (index - end) in
      let listed : Contains names name = (index - end, within, get_or_default names (index - end) name hub within) in
      let slot = pinned.only name listed in
      let kept_shut = pinned_there slot.0 slot.1 slot.2 slot.3 in
      let place = slot.2.place in
      let kept_object = kept_one config top heap block now kept IsRoot (with_promised graph promises) holds are_kept place kept_shut.0 in
      let name_is : kept_object.name ≡ name = one_copy block place kept_object.name slot.2.name (kept_object.refs, kept_object.nums, kept_object.is) kept_shut.2 ∙ slot.4 in
      let reached : IsReachable graph name = subst (IsReachable graph) slot.4 (reach.from_pin slot.0 slot.1 slot.2 slot.3) in
      let old : size (named (with_promised graph promises) (Some kept_object.name)) ≡ size (named graph (Some name)) =
      ap (λ (name : Name). size (named (with_promised graph promises) (Some name))) name_is ∙ ap size (old_object config.mutators graph promises fresh name reached) in
      let weight = cond-false (nat_lt index end) (counts index) (words_of_name (index - end)) (le-ltb index end index_past) in
      (place, kept_below place kept_shut.0, omega (arith, weight, kept_object.words, old), inr (index_past, within, kept_shut.1, subst (IsCopy block place) slot.4 kept_shut.2))

  found : (index : ℕ) → index < end + length names → 0 < both index → Found index
  found index index_below positive = ⊎_elim
      (λ (open_one : index < end). found_open index open_one positive)
      (λ (index_past : end ≤ index). found_pinned index index_past (omega (arith, index_below, index_past)))
      (cases_lt index end)

  -- no name is pinned twice
  one_name : (index other_index : ℕ) → index < length names → other_index < length names → name_of index ≡ name_of other_index → index ≡ other_index
  one_name index other_index in_i in_j names_same = ⊎_elim
      (λ (same_index : index ≡ other_index). same_index)
      (λ (differing : (index < other_index) ⊎ (other_index < index)). absurd (⊎_elim
      (λ (in_order : index < other_index). differs index other_index in_order in_j names_same)
      (λ (reversed : other_index < index). differs other_index index reversed in_i (sym names_same))
      differing))
      (cases_order index other_index)
    where
      differs : (lower upper : ℕ) → lower < upper → upper < length names → name_of lower ≡ name_of upper → ⊥
      differs lower upper in_order within named_same =
          true≢false (sym (ap (λ (name : Name). same_name name (name_of upper)) named_same ∙ same_name-itself (name_of upper)) ∙ apart_from_distinct same_name names lower upper hub pinned.differ in_order within)

  -- so no two are at one address
  one_address : (first_index second_index : ℕ) (first_address second_address : ℕ) → IsOpenAt first_index first_address ⊎ IsPinnedAt first_index first_address → IsOpenAt second_index second_address ⊎ IsPinnedAt second_index second_address → first_address ≡ second_address → first_index ≡ second_index
  one_address first_index second_index first_address second_address first_lies second_lies same_address =
      let rows : shut (first_address / config.region_words) ≡ shut (second_address / config.region_words) = ap (λ any_address. shut (any_address / config.region_words)) same_address in
      ⊎_elim
      (λ (first_there : IsOpenAt first_index first_address). ⊎_elim
      (λ (second_there : IsOpenAt second_index second_address). first_there.1 ∙ same_address ∙ sym second_there.1)
      (λ (second_there : IsPinnedAt second_index second_address). absurd (true≢false (sym second_there.2 ∙ sym rows ∙ first_there.2)))
      second_lies)
      (λ (first_there : IsPinnedAt first_index first_address). ⊎_elim
      (λ (second_there : IsOpenAt second_index second_address). absurd (true≢false (sym first_there.2 ∙ rows ∙ second_there.2)))
      (λ (second_there : IsPinnedAt second_index second_address).
      let names_same = one_copy block second_address (name_of (first_index - end)) (name_of (second_index - end)) (subst (λ any_address. IsCopy block any_address (name_of (first_index - end))) same_address first_there.3) second_there.3 in
      omega (arith, one_name (first_index - end) (second_index - end) first_there.1 second_there.1 names_same, first_there.0, second_there.0))
      second_lies)
      first_lies

  pub both_fit : sum_below counts end + sum_by (λ name. size (named graph (Some name))) names ≤ sum_below kept (heap_end config)
  both_fit =
      let fit = sum_of_things both kept (end + length names) (heap_end config)
      (λ first_index index_below some_weight. let found_at = found first_index index_below some_weight in (found_at.0, found_at.1, found_at.2))
      (λ first_index second_index less_k some_k less_j some_j same_address. one_address first_index second_index (found first_index less_k some_k).0 (found second_index less_j some_j).0 (found first_index less_k some_k).3 (found second_index less_j some_j).3 same_address)
      in
      omega (arith, fit, sum_of_two_rows counts words_of_name end (length names), sum_by_index (λ name. size (named graph (Some name))) names hub)

pub open_kept_are_fewer : (config : Config) (shut : ℕ → Bool) (top heap : ℕ → ℕ) (block : Plot) (now kept : ℕ → ℕ) (IsRoot : ℕ → Type 0) (graph : Graph) (promises : Promises) (names : List Name) (held : ℕ)
    → HoldsGraph config top heap block now IsRoot (with_promised graph promises) → AreHeldKept heap (IsLedTo now heap IsRoot) kept
    → AreFresh config.mutators graph promises → IsReach graph names → Held graph held → ArePinnedThere config.region_words shut block kept graph
    → (end : ℕ) → sum_below (open_kept config.region_words shut kept) end ≤ sum_by (λ name. size (named graph (Some name))) names - held + sum_below (promised_words promises) (config.mutators + 1)
open_kept_are_fewer config shut top heap block now kept IsRoot graph promises names held holds are_kept fresh reach_is pinned pinned_there end =
    let fit = both_fit config shut top heap block now kept IsRoot graph promises holds are_kept fresh pinned_there pinned.0 pinned.1 end in
    let live = kept_are_live_or_promised config top heap block now kept IsRoot graph promises holds are_kept fresh names reach_is (heap_end config) in
    omega (arith, fit, live, pinned.2)
