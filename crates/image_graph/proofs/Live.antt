-- What is kept has no more words than what the graph reaches.
use Rattle.std.proofs.Common.{◌≡◌, ℕ, ◌+◌, ◌<◌, ◌≤◌, List, length, get_or, sum_by, Some, sym, ap, ◌∙◌, arith}
use Rattle.std.proofs.lemmas.List.{get_or_default}
use Rattle.heap_words.specs.declared.config.Config.{Config}
use Rattle.heap_words.specs.Encoding.{object_words}
use Rattle.regions.specs.Tops.{sum_below}
use Rattle.regions.proofs.Sums.{sum_of_things, sum_by_index}
use Rattle.shen_graph.specs.declared.name.Name.{Name}
use Rattle.shen_graph.specs.Graph.{Graph, named, hub}
use Rattle.shen_graph.specs.Reach.{IsReachable, IsReach, size}
use Rattle.heap_world.specs.World.{Plot, thing}
use Rattle.image_graph.specs.Held.{IsLedTo, AreHeldKept, HoldsGraph}
use Rattle.image_graph.proofs.Reached.{held_is_reached, named_object, words_read}

-- The object that is kept at an address: one of the graph, reachable, of so many words.
pub record KeptOne (block : Plot) (graph : Graph) (kept : ℕ → ℕ) (address : ℕ) : Type 0 where
  pub name : Name
  pub refs : ℕ
  pub nums : ℕ
  pub is : block address ≡ Some (thing name refs nums)
  pub reached : IsReachable graph name
  pub words : kept address ≡ size (named graph (Some name))

module _ (config : Config) (top heap : ℕ → ℕ) (block : Plot) (now kept : ℕ → ℕ) (IsRoot : ℕ → Type 0) (graph : Graph)
    (holds : HoldsGraph config top heap block now IsRoot graph) (held_kept : AreHeldKept heap (IsLedTo now heap IsRoot) kept) where
  pub kept_one : (address : ℕ) → 0 < kept address → KeptOne block graph kept address
  kept_one address positive =
      let is_held = held_kept.only address positive in
      let reached_name = held_is_reached config top heap block now IsRoot graph holds address is_held in
      let object = holds.each address reached_name.1 reached_name.2 reached_name.0 is_held reached_name.3 in
      let facts = object.2 in
      let shape : object_words (heap (address + 1)) ≡ 3 + reached_name.1 + reached_name.2 = ap object_words facts.shape ∙ words_read reached_name.1 reached_name.2 facts.few_refs facts.few_nums in
      let same_size : size (named graph (Some reached_name.0)) ≡ size object.0 = ap size (named_object graph reached_name.0 object.0 object.1) in
      record {
        name = reached_name.0;
        refs = reached_name.1;
        nums = reached_name.2;
        is = reached_name.3;
        reached = reached_name.4;
        words = omega (arith, held_kept.words address is_held, shape, same_size, facts.refs_are, facts.nums_are);
      }

  -- two kept addresses of one name are one
  pub one_name : (address other_address : ℕ) (first_kept : 0 < kept address) (second_kept : 0 < kept other_address) → (kept_one address first_kept).name ≡ (kept_one other_address second_kept).name → address ≡ other_address
  one_name address other_address first_kept second_kept names_same =
      let first_object = kept_one address first_kept in
      let second_object = kept_one other_address second_kept in
      let second_there : block address ≡ Some (thing second_object.name first_object.refs first_object.nums) = first_object.is ∙ ap (λ (name : Name). Some (thing name first_object.refs first_object.nums)) names_same in
      holds.once address other_address first_object.refs first_object.nums second_object.refs second_object.nums second_object.name (held_kept.only address first_kept) (held_kept.only other_address second_kept) second_there second_object.is

  pub kept_are_live : (names : List Name) → IsReach graph names → (end : ℕ) → sum_below kept end ≤ sum_by (λ some_name. size (named graph (Some some_name))) names
  kept_are_live names reach end =
      let words : ℕ → ℕ = λ index. size (named graph (Some (get_or names index hub))) in
      let place : (address : ℕ) (is_kept : 0 < kept address) → (index : ℕ) × (index < length names) × (get_or names index hub ≡ (kept_one address is_kept).name) = λ address is_kept.
      let kept_object = kept_one address is_kept in
      let found = reach.all kept_object.name kept_object.reached in
      (found.0, found.1, get_or_default names found.0 hub kept_object.name found.1 ∙ found.2)
      in
      let words_least = sum_of_things kept words end (length names)
      (λ address address_below is_kept.
      let name_place = place address is_kept in
      let same_number : words name_place.0 ≡ size (named graph (Some (kept_one address is_kept).name)) = ap (λ (name : Name). size (named graph (Some name))) name_place.2 in
      (name_place.0, name_place.1, omega (arith, same_number, (kept_one address is_kept).words)))
      (λ address other_address first_below first_kept second_below second_kept same_number.
      one_name address other_address first_kept second_kept (sym (place address first_kept).2 ∙ ap (λ index. get_or names index hub) same_number ∙ (place other_address second_kept).2))
      in
      omega (arith, words_least, sum_by_index (λ some_name. size (named graph (Some some_name))) names hub)
