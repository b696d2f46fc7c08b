-- A text that shows a graph which can be named anew meets what renewing asks for; and the graph that comes of it can be named anew once more.
use Rattle.std.proofs.Common.{◌≡◌, inl, inr, ℕ, zero, suc, ◌+◌, ◌-◌, ◌<◌, ◌≤◌, List, [], map, length, get_or, Option, Some, None, Contains, ⊎_elim, refl, sym, ap, ◌∙◌, subst, arith, All}
use Rattle.std.specs.Prelude.{slice_get}
use Rattle.std.specs.List.{range_with_len}
use Rattle.std.proofs.lemmas.Bool.{cases_lt}
use Rattle.std.proofs.lemmas.List.{get_or_past, length-map}
use Rattle.std.proofs.lemmas.List.Elements.{All-map, All-get_or}
use Rattle.std.proofs.lemmas.List.FromFn.{length-map-range_with_len}
use Rattle.std.proofs.lemmas.Option.{none-some, slice_get-get_or, same_Some}
use Rattle.heap_words.specs.declared.config.Config.{Config}
use Rattle.shen_graph.specs.declared.name.Name.{Name}
use Rattle.shen_graph.specs.Graph.{Graph, Object, Reference, hub}
use Rattle.shen_graph.specs.GraphText.{Text, Row, row_of, bare, names_of, root_of}
use Rattle.shen_graph.specs.PlainGraph.{object_in, graph_of}
use Rattle.shen_graph.specs.Reach.{IsReachable, from_root, from_field}
use Rattle.heap_world.specs.Shows.{ShowsGraph}
use Rattle.graph_placing.specs.PlaceableText.{IsShort, IsPlaceable}
use Rattle.graph_placing.specs.TextGraph.{row_object, text_graph}
use Rattle.graph_placing.proofs.TextGraphs.{has_object}
use Rattle.graph_placing.specs.NamesAnew.{earlier_names, name_anew, renamed, text_anew}
use Rattle.graph_placing.specs.Renaming.{AreOfThreads}
use Rattle.graph_placing.specs.Renewable.{IsOfThreads, IsShortObject, IsRenewable}
use Rattle.graph_placing.proofs.CountsKept.{hub_first}
use Rattle.graph_placing.proofs.Renamings.{one_name}
use Rattle.graph_placing.proofs.Renewables.{reachable_named, reachable_short}
use Rattle.graph_placing.proofs.SameGraphs.{row_found, text_objects, text_root}
use Rattle.graph_placing.proofs.TextShown.{row_there, shown_row, shown_root}
use Rattle.graph_placing.proofs.TextsAnew as anew

module _ (config : Config) (text : Text) (graph : Graph) (renewable : IsRenewable config.mutators graph) (shows : ShowsGraph text config.mutators graph) where
  threads : length text.roots ≡ config.mutators
  threads = ap length shows.roots ∙ length-map-range_with_len (λ thread. map (graph.root thread) (range_with_len 0 16)) 1 config.mutators

  row_reached : (index : ℕ) → index < length text.rows → IsReachable graph (row_of text index).name
  row_reached index index_below = shows.reach.only (row_of text index).name (row_there text index index_below)

  root_there : (thread index : ℕ) (name : Name) → 1 ≤ thread → thread ≤ config.mutators → index < 16 → root_of text thread index ≡ Some name → Contains (names_of text) name
  root_there zero index name some_thread thread_within index_below root_is = absurd (omega (arith, some_thread))
  root_there (suc mutator) index name some_thread thread_within index_below root_is =
      shows.reach.all name (from_root (suc mutator) index name (sym (shown_root text config.mutators graph shows mutator index (omega (arith, thread_within)) index_below) ∙ root_is))

  pub placeable : IsPlaceable config text
  placeable = record {
    threads = threads;
    sixteen = subst (All (λ (roots : List Reference). length roots ≡ 16)) (sym shows.roots)
        (All-map (λ (roots : List Reference). length roots ≡ 16) (λ thread. map (graph.root thread) (range_with_len 0 16)) (range_with_len 1 config.mutators) (λ index default index_below. length-map-range_with_len (graph.root (get_or (range_with_len 1 config.mutators) index default)) 0 16));
    in_order = shows.reach.in_order;
    short = λ row_number index_below.
        let row_short = reachable_short config.mutators graph renewable (row_of text row_number).name in
        subst IsShort (sym (shown_row text config.mutators graph shows row_number index_below)) (record { refs = row_short.few_refs; nums = row_short.few_nums });
    references = λ row_number place name index_below reference_is.
        let field = ap (λ (row : Row). slice_get row.refs place) (sym (shown_row text config.mutators graph shows row_number index_below)) ∙ reference_is in
        shows.reach.all name (from_field (row_of text row_number).name name place (row_reached row_number index_below) field);
    roots = root_there;
  }

  name_of_threads : (name : Name) → Contains (names_of text) name → IsOfThreads config.mutators (Some name)
  name_of_threads name name_there = reachable_named config.mutators graph renewable name (shows.reach.only name name_there)

  within_threads : (name : Name) → IsOfThreads config.mutators (Some name) → name.thread ≤ config.mutators
  within_threads name (inl hub_name) = let no_thread : name.thread ≡ 0 = ap (λ (name : Name). name.thread) hub_name in omega (arith, no_thread)
  within_threads name (inr name_made) = name_made.1

  hub_or_made : (name : Name) → IsOfThreads config.mutators (Some name) → name.thread ≡ 0 → name ≡ hub
  hub_or_made name (inl hub_name) no_thread = hub_name
  hub_or_made name (inr name_made) no_thread = absurd (omega (arith, name_made.0, no_thread))

  pub of_threads : AreOfThreads config.mutators (names_of text)
  of_threads = record {
    within = λ name name_there. within_threads name (name_of_threads name name_there);
    hub_alone = λ name name_there no_thread. hub_or_made name (name_of_threads name name_there) no_thread;
  }

module _ (config : Config) (text : Text) (text_placeable : IsPlaceable config text) (names_of_threads : AreOfThreads config.mutators (names_of text)) (counts : List ℕ) where
  abbrev names : List Name
  names = names_of text

  abbrev f : Name → Name
  f = name_anew names

  new_name : (name : Name) → Contains names name → IsOfThreads config.mutators (Some (f name))
  new_name name name_there = ⊎_elim
      (λ (no_thread : name.thread < 1).
      let is_zero : name.thread ≡ 0 = omega (arith, no_thread) in
      let is_hub = hub_first config.mutators names names_of_threads name is_zero name_there in
      let count : earlier_names names name + 1 ≡ 1 = omega (arith, is_hub) in
      inl (one_name (f name) hub is_zero count))
      (λ (some_thread : 1 ≤ name.thread). inr (some_thread, names_of_threads.within name name_there))
      (cases_lt name.thread 1)

  new_reference : (reference : Reference) → ((name : Name) → reference ≡ Some name → Contains names name) → IsOfThreads config.mutators (renamed f reference)
  new_reference None names_there = tt
  new_reference (Some name) names_there = new_name name (names_there name refl)

  old_root : (mutator index : ℕ) (name : Name) → root_of text (suc mutator) index ≡ Some name → Contains names name
  old_root mutator index name root_is =
      let one_back : suc mutator - 1 ≡ mutator = omega arith in
      let root_found : get_or (get_or text.roots mutator []) index None ≡ Some name = ap (λ (any_mutator : ℕ). get_or (get_or text.roots any_mutator []) index None) (sym one_back) ∙ root_is in
      ⊎_elim
      (λ (mutator_below : mutator < length text.roots). ⊎_elim
      (λ (index_below : index < 16). text_placeable.roots (suc mutator) index name (omega arith) (omega (arith, mutator_below, text_placeable.threads)) index_below root_is)
      (λ (index_large : 16 ≤ index).
      let sixteen_roots = All-get_or (λ (row : List Reference). length row ≡ 16) text.roots mutator [] mutator_below text_placeable.sixteen in
      absurd (none-some name (sym (get_or_past (get_or text.roots mutator []) index None (omega (arith, sixteen_roots, index_large))) ∙ root_found)))
      (cases_lt index 16))
      (λ (mutator_past : length text.roots ≤ mutator). absurd (none-some name (sym (ap (λ (row : List Reference). get_or row index None) (get_or_past text.roots mutator [] mutator_past)) ∙ root_found)))
      (cases_lt mutator (length text.roots))

  new_root : (thread root : ℕ) → IsOfThreads config.mutators ((text_graph (text_anew text) counts).root thread root)
  unfolding graph_of
  new_root zero root = tt
  new_root (suc mutator) root =
      subst (IsOfThreads config.mutators) (sym (text_root (text_anew text) counts mutator root ∙ anew.root_is f text (suc mutator) root)) (new_reference (root_of text (suc mutator) root) (old_root mutator root))

  row_short : (index : ℕ) → index < length text.rows → IsShortObject config.mutators (row_object (row_of (text_anew text) index))
  row_short index index_below = subst (λ (row : Row). IsShortObject config.mutators (row_object row)) (sym (anew.row_is f text index index_below)) (record {
    refs = All-map (IsOfThreads config.mutators) (renamed f) (row_of text index).refs (λ place default inside.
        new_reference (get_or (row_of text index).refs place default) (λ name reference_is. text_placeable.references index place name index_below (slice_get-get_or (row_of text index).refs place default inside ∙ ap (λ (reference : Reference). Some reference) reference_is)));
    few_refs = omega (arith, length-map (row_of text index).refs (renamed f), (text_placeable.short index index_below).refs);
    few_nums = (text_placeable.short index index_below).nums;
  })

  new_object : (name : Name) (object : Object) → (text_graph (text_anew text) counts).object name ≡ Some object → IsShortObject config.mutators object
  new_object name given_object object_is =
      let in_rows : object_in (text_anew text).rows name ≡ Some given_object = sym (ap (λ (object : Name → Option Object). object name) (text_objects (text_anew text) counts)) ∙ object_is in
      let found_row = row_found (text_anew text).rows name given_object (bare hub) in_rows in
      let row_index = found_row.0 in
      let object_there = has_object (text_anew text).rows (anew.placeable_anew config text text_placeable).in_order row_index (bare hub) found_row.1 in
      let same_object : Some (row_object (row_of (text_anew text) row_index)) ≡ Some given_object = sym object_there ∙ ap (object_in (text_anew text).rows) found_row.2 ∙ in_rows in
      subst (IsShortObject config.mutators) (same_Some (row_object (row_of (text_anew text) row_index)) given_object same_object) (row_short row_index (omega (arith, found_row.1, anew.rows_count f text)))

  pub renewable_anew : IsRenewable config.mutators (text_graph (text_anew text) counts)
  unfolding graph_of
  renewable_anew = record { root = new_root; object = new_object; pin = λ thread slot. tt }
