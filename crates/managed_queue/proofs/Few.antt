-- Few words are live.
use Rattle.std.proofs.Common.{ℕ, ◌≡◌, ◌+◌, ◌*◌, ◌≤◌, Bool, true, false, Some, List, [], ◌∷◌, length, refl, sym, ap, ◌∙◌, subst, inl, inr, arith, sum_by}
use Rattle.std.specs.Prelude.{Contains, if◌then◌else◌}
use Rattle.std.specs.List.{AllByRecursion}
use Rattle.std.proofs.lemmas.Bool.{cases_eq}
use Rattle.std.proofs.lemmas.List.Sums.{sum_by-cons}
use Rattle.std.proofs.lemmas.Option.{none-some}
use Rattle.std.proofs.lemmas.Map.Made.{length-le_from_is_member}
use Rattle.std.proofs.lemmas.Map.Views.{Contains-from_any, list_any-from_Contains}
use Rattle.shen_graph.specs.declared.name.Name.{Name}
use Rattle.shen_graph.specs.Graph.{Graph, hub, named, same_name, opening}
use Rattle.shen_graph.specs.History.{Entry, after, after_entry, of_thread}
use Rattle.shen_graph.specs.Crowd.{PinnedRegions}
use Rattle.shen_graph.specs.Reach.{IsReachable, InOrder, size}
use Rattle.shen_graph.specs.Reach.IsReachable.{from_root, from_pin, from_field}
use Rattle.shen_graph.proofs.Distinct.{distinct, order_first, order_rest}
use Rattle.shen_graph.proofs.PlainLemmas.{same_name-true}
use Rattle.shen_graph.proofs.ReachLemmas.{same_name-laws}
use Rattle.managed_queue.specs.declared.spot.Spot.{Spot}
use Rattle.managed_queue.specs.Queue.{IsPlayed, ArePlayed, spot_moved, entry_spot}
use Rattle.managed_queue.specs.Live.{makings, FewAreLive}
use Rattle.managed_queue.proofs.Rising.{on_here, on_there}
use Rattle.managed_queue.proofs.Playing.{of_here, of_there}
use Rattle.managed_queue.proofs.Small.{most, AreSmall, Stays, next_small, entry_stays, small_opening}

-- what can be reached was given
reached : (graph : Graph) (names : List Name) → AreSmall graph names → (name : Name) → IsReachable graph name → Contains names name
reached graph names graph_small _ (from_root root_thread root_index name names_it) = graph_small.roots root_thread root_index name names_it
reached graph names graph_small _ (from_pin thread slot held_pin names_it) = absurd (none-some held_pin (sym (graph_small.no_pin thread slot) ∙ names_it))
reached graph names graph_small _ (from_field holder name field from names_it) = graph_small.fields holder field name names_it

-- the hub counts once

abbrev extra : Name → ℕ
extra name = if same_name hub name then 14 else 0

no_hub : (name : Name) (names : List Name) → name ≡ hub → AllByRecursion (λ y. same_name name y ≡ false) names → sum_by extra names ≡ 0
no_hub name [] same_hub others_differ = refl
no_hub name (next_name ∷ names) same_hub others_differ =
    let rest_none = no_hub name names same_hub others_differ.1 in
    let no_extra : extra next_name ≡ 0 = ap (λ is_hub. if is_hub then 14 else 0) (ap (λ x. same_name x next_name) (sym same_hub) ∙ others_differ.0) in
    omega (arith, sum_by-cons extra next_name names, rest_none, no_extra)

once : (names : List Name) → InOrder names → sum_by extra names ≤ 14
once [] order = omega arith
once (name ∷ names) order =
    let later = once names (order_rest name names order) in
    by_first (same_name hub name) refl later
  where
    by_first : (holds : Bool) → same_name hub name ≡ holds → sum_by extra names ≤ 14 → sum_by extra (name ∷ names) ≤ 14
    by_first true hub_tested later =
        let no_extra = no_hub name names (sym (same_name-true hub name hub_tested)) (order_first name names order) in
        let first_extra : extra name ≡ 14 = ap (λ holds. if holds then 14 else 0) hub_tested in
        omega (arith, sum_by-cons extra name names, no_extra, first_extra)
    by_first false hub_tested later =
        let first_extra : extra name ≡ 0 = ap (λ holds. if holds then 14 else 0) hub_tested in
        omega (arith, sum_by-cons extra name names, later, first_extra)

most_is : (name : Name) → most name ≡ 5 + extra name
most_is name = at (same_name hub name)
  where
    at : (holds : Bool) → (if holds then 19 else 5) ≡ 5 + (if holds then 14 else 0)
    at true = refl
    at false = refl

weigh : (graph : Graph) (names : List Name) → AreSmall graph names → (given_names : List Name) → sum_by (λ given_name. size (named graph (Some given_name))) given_names ≤ 5 * length given_names + sum_by extra given_names
weigh graph names graph_small [] = omega arith
weigh graph names graph_small (first_name ∷ given_names) =
    let rest_weighed = weigh graph names graph_small given_names in
    let size_most = graph_small.sizes first_name in
    let size_bound = most_is first_name in
    omega (arith, sum_by-cons (λ (name : Name). size (named graph (Some name))) first_name given_names, sum_by-cons extra first_name given_names, rest_weighed, size_most, size_bound)

-- all entries
all_stay : (entries : List Entry) (graph : Graph) (names : List Name) (spots : ℕ → Spot) → AreSmall graph names → ((thread : ℕ) → IsPlayed (spots thread) (of_thread entries thread)) → Stays (after graph entries) names (makings entries)
all_stay [] graph names spots graph_small played = record { new_names = names; small = graph_small; count = omega arith }
all_stay (entry ∷ entries) graph names spots graph_small played =
    let own_played : IsPlayed (spots entry.thread) (entry ∷ of_thread entries entry.thread) = subst (IsPlayed (spots entry.thread)) (of_here entry entries) (played entry.thread) in
    let step = entry_stays graph names entry (next_small (spots entry.thread) entry.command own_played.0) graph_small in
    let later = all_stay entries (after_entry graph entry) step.new_names (spot_moved spots entry) step.small (λ thread. elim (cases_eq thread entry.thread) [
      | inl same_thread ↦ subst (λ (player : ℕ). IsPlayed (spot_moved spots entry player) (of_thread entries player)) (sym same_thread) (subst (λ (spot : Spot). IsPlayed spot (of_thread entries entry.thread)) (sym (on_here spots entry.thread entry.command entry.reply)) own_played.2)
      | inr threads_differ ↦ subst (λ (spot : Spot). IsPlayed spot (of_thread entries thread)) (sym (on_there spots entry.thread entry.command entry.reply thread threads_differ)) (subst (IsPlayed (spots thread)) (of_there entry entries thread threads_differ) (played thread))
    ]) in
    record { new_names = later.new_names; small = later.small; count = later.count ∙ omega (arith, step.count) }

-- no region has a pinned object
pub none_pinned : (threads region_words pinned : ℕ) (history : List Entry) → ArePlayed history → PinnedRegions region_words (after (opening threads) history) pinned → pinned ≡ 0
none_pinned threads region_words pinned history played ([], pinned_regions, same_count) = same_count
none_pinned threads region_words pinned history played (region ∷ regions, pinned_regions, same_count) =
    let pinned_there = pinned_regions.only region (0, omega arith, refl) in
    let stayed = all_stay history (opening threads) (hub ∷ []) entry_spot (small_opening threads) played in
    absurd (none-some pinned_there.2 (sym (stayed.small.no_pin pinned_there.0 pinned_there.1) ∙ pinned_there.3))

pub few_are_live : FewAreLive
few_are_live threads words history played live =
    let graph = after (opening threads) history in
    let stayed = all_stay history (opening threads) (hub ∷ []) entry_spot (small_opening threads) played in
    let live_names = live.0 in
    let fewer = length-le_from_is_member same_name-laws live_names stayed.new_names (distinct live_names live.1.in_order)
    (λ name contained. list_any-from_Contains same_name-laws name stayed.new_names (reached graph stayed.new_names stayed.small name (live.1.only name (Contains-from_any same_name-true name live_names contained)))) in
    let weight = weigh graph stayed.new_names stayed.small live_names in
    let hubs = once live_names live.1.in_order in
    omega (arith, fewer, weight, hubs, stayed.count, live.2)
