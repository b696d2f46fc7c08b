-- The graph of a text whose objects are named anew is that of the text, up to the names.
use Rattle.std.proofs.Common.{◌≡◌, ℕ, ◌+◌, ◌-◌, ◌<◌, ◌≤◌, suc, zero, true, false, List, [], ◌∷◌, length, get_or, Option, Some, None, Contains, ⊎_elim, refl, sym, ap, ◌∙◌, subst, arith}
use Rattle.std.specs.Prelude.{slice_index}
use Rattle.std.proofs.lemmas.Bool.{cond-false, cases_Bool, cases_lt}
use Rattle.std.proofs.lemmas.Option.{none-some}
use Rattle.heap_words.specs.declared.config.Config.{Config}
use Rattle.shen_graph.specs.declared.name.Name.{Name}
use Rattle.shen_graph.specs.Graph.{Graph, Object, hub, named, same_name}
use Rattle.shen_graph.specs.GraphText.{Text, Row, row_of, row_in, bare, names_of, root_of}
use Rattle.shen_graph.specs.PlainGraph.{object_in, graph_of}
use Rattle.shen_graph.specs.Reach.{IsReachable}
use Rattle.shen_graph.proofs.PlainLemmas.{same_name-true}
use Rattle.heap_world.specs.World.{IsGiven}
use Rattle.heap_world.specs.Shows.{ShowsGraph}
use Rattle.graph_placing.specs.ByName.{Fits}
use Rattle.graph_placing.specs.PlaceableText.{IsPlaceable}
use Rattle.graph_placing.specs.TextGraph.{row_object, text_graph, AreGiven, IsGraphOf}
use Rattle.graph_placing.proofs.Searching.{names_count, name_of_row}
use Rattle.graph_placing.proofs.TextGraphs.{has_object, is_graph}
use Rattle.graph_placing.specs.NamesAnew.{names_by, name_anew, renamed, row_renamed, text_anew}
use Rattle.graph_placing.specs.Renaming.{AreOfThreads, AreCountsOf, IsRenaming}
use Rattle.graph_placing.specs.SameGraph.{object_renamed, IsSameAnew}
use Rattle.graph_placing.proofs.NamesCounted.{earlier_fewer, thread_at_most}
use Rattle.graph_placing.proofs.CountsKept.{hub_first}
use Rattle.graph_placing.proofs.FewRows.{rows_are_few}
use Rattle.graph_placing.proofs.Renamings.{one_name, is_renaming}
use Rattle.graph_placing.proofs.TextShown.{row_there, shown_row, shown_root}
use Rattle.graph_placing.proofs.TextsAnew as anew

-- The graph of a text, by its parts.

pub text_objects : (text : Text) (counts : List ℕ) → (text_graph text counts).object ≡ object_in text.rows
unfolding graph_of
text_objects text counts = refl

pub text_root : (text : Text) (counts : List ℕ) (mutator index : ℕ) → (text_graph text counts).root (suc mutator) index ≡ root_of text (suc mutator) index
unfolding graph_of
text_root text counts mutator index = let mutator_back : mutator ≡ suc mutator - 1 = omega arith in ap (λ (any_mutator : ℕ). get_or (get_or text.roots any_mutator []) index None) mutator_back

pub text_count : (text : Text) (counts : List ℕ) (index : ℕ) → (text_graph text counts).count (suc index) ≡ slice_index counts index
unfolding graph_of
text_count text counts index = refl

-- an object is that of a row of its name
pub row_found : (rows : List Row) (name : Name) (object : Object) (row : Row) → object_in rows name ≡ Some object → (index : ℕ) × (index < length rows) × ((get_or rows index row).name ≡ name)
row_found [] name object row object_found = absurd (none-some object object_found)
row_found (first_row ∷ rows) name object row object_found = ⊎_elim
    (λ (names_agree : same_name name first_row.name ≡ true). (0, omega arith, sym (same_name-true name first_row.name names_agree)))
    (λ (names_differ : same_name name first_row.name ≡ false).
    let later_found = row_found rows name object row (sym (cond-false (same_name name first_row.name) (Some (row_object first_row)) (object_in rows name) names_differ) ∙ object_found) in
    (suc later_found.0, omega (arith, later_found.1), later_found.2))
    (cases_Bool (same_name name first_row.name))

module _ (config : Config) (text : Text) (placeable : IsPlaceable config text) (threads : AreOfThreads config.mutators (names_of text)) (counts : List ℕ) (made_counts : AreCountsOf (names_of text) config.mutators counts) where
  abbrev names : List Name
  names = names_of text

  abbrev f : Name → Name
  f = name_anew names

  abbrev row_count : ℕ
  row_count = length text.rows

  abbrev new : Graph
  new = text_graph (text_anew text) counts

  -- a thread has made as many objects as have names of it
  count_is : (thread : ℕ) → 1 ≤ thread → thread ≤ config.mutators → new.count thread ≡ names_by names thread
  count_is zero some_thread thread_within = absurd (omega (arith, some_thread))
  count_is (suc index) some_thread thread_within =
      let same_successor : index + 1 ≡ suc index = omega arith in
      text_count (text_anew text) counts index ∙ made_counts.each index (omega (arith, thread_within)) ∙ ap (names_by names) same_successor

  -- The new names are given, where all objects fit.

  name_is_given : Fits config text → (name : Name) → Contains names name → IsGiven config new.count (f name)
  name_is_given fits name name_contained =
      let thread_within = threads.within name name_contained in
      let fewer = earlier_fewer names name name_contained in
      record {
        thread = thread_within;
        made = ⊎_elim
            (λ (no_thread : name.thread < 1). omega (arith, hub_first config.mutators names threads name (omega (arith, no_thread)) name_contained))
            (λ (some_thread : 1 ≤ name.thread). omega (arith, fewer, count_is name.thread some_thread thread_within))
            (cases_lt name.thread 1);
        by_thread = λ some_thread. omega (arith, fewer, count_is name.thread some_thread thread_within);
        small = omega (arith, fewer, thread_at_most names name.thread, names_count text, rows_are_few config text placeable fits);
      }

  are_given : Fits config text → AreGiven config (text_anew text) counts
  are_given fits row_index row_below =
      let row : row_index < row_count = omega (arith, row_below, anew.rows_count f text) in
      let same_name_there : f (row_of text row_index).name ≡ (row_of (text_anew text) row_index).name = ap (λ (row : Row). row.name) (sym (anew.row_is f text row_index row)) in
      subst (IsGiven config new.count) same_name_there (name_is_given fits (row_of text row_index).name (row_there text row_index row))

  pub graph_anew : Fits config text → IsGraphOf config (text_anew text) counts new
  graph_anew fits = is_graph config (text_anew text) counts (anew.placeable_anew config text placeable) (are_given fits)

  -- It is the graph that the text shows, up to the names.
  module _ (graph : Graph) (shows : ShowsGraph text config.mutators graph) where
    renaming : IsRenaming names f
    renaming = is_renaming names placeable.in_order

    row_anew : (index : ℕ) → index < row_count → row_of (text_anew text) index ≡ row_renamed f (row_in graph (row_of text index).name)
    row_anew index index_below =
        anew.row_is f text index index_below ∙ ap (row_renamed f) (shown_row text config.mutators graph shows index index_below)

    has_object_anew : (name : Name) → IsReachable graph name → new.object (f name) ≡ Some (object_renamed f (named graph (Some name)))
    has_object_anew name reached =
        let found_row = shows.reach.all name reached in
        let row_index = found_row.0 in
        let row_below : row_index < row_count = omega (arith, found_row.1, names_count text) in
        let row_named : (row_of text row_index).name ≡ name = sym (name_of_row text row_index name row_below) ∙ found_row.2 in
        let row : row_of (text_anew text) row_index ≡ row_renamed f (row_in graph name) = row_anew row_index row_below ∙ ap (λ (name : Name). row_renamed f (row_in graph name)) row_named in
        let object_found = has_object (text_anew text).rows (anew.placeable_anew config text placeable).in_order row_index (bare hub) (omega (arith, row_below, anew.rows_count f text)) in
        ap (λ (object : Name → Option Object). object (f name)) (text_objects (text_anew text) counts)
        ∙ subst (λ (row : Row). object_in (text_anew text).rows row.name ≡ Some (row_object row)) row object_found

    from_old : (name : Name) (object : Object) → new.object name ≡ Some object → (old_name : Name) × IsReachable graph old_name × (f old_name ≡ name)
    from_old name given_object object_found =
        let found_row = row_found (text_anew text).rows name given_object (bare hub) (sym (ap (λ (object : Name → Option Object). object name) (text_objects (text_anew text) counts)) ∙ object_found) in
        let row_index = found_row.0 in
        let row_below : row_index < row_count = omega (arith, found_row.1, anew.rows_count f text) in
        ((row_of text row_index).name, shows.reach.only (row_of text row_index).name (row_there text row_index row_below), ap (λ (row : Row). row.name) (sym (anew.row_is f text row_index row_below)) ∙ found_row.2)

    roots_are : (thread root : ℕ) → 1 ≤ thread → thread ≤ config.mutators → root < 16 → new.root thread root ≡ renamed f (graph.root thread root)
    roots_are zero root some_thread thread_within root_below = absurd (omega (arith, some_thread))
    roots_are (suc mutator) root some_thread thread_within root_below =
        text_root (text_anew text) counts mutator root ∙ anew.root_is f text (suc mutator) root ∙ ap (renamed f) (shown_root text config.mutators graph shows mutator root (omega (arith, thread_within)) root_below)

    reached_there : (name : Name) → IsReachable graph name → Contains names name
    reached_there name reached = shows.reach.all name reached

    pub same_anew : IsSameAnew f config.mutators graph new
    same_anew = record {
      roots = roots_are;
      objects = has_object_anew;
      no_others = from_old;
      one_to_one = λ name other_name reached_a reached_b same_image. renaming.one_to_one name other_name (reached_there name reached_a) (reached_there other_name reached_b) same_image;
      thread = renaming.thread;
      order = λ name other_name reached_a reached_b before. renaming.order name other_name (reached_there name reached_a) (reached_there other_name reached_b) before;
      counted = λ reached_name reached some_thread.
          let name_there = reached_there reached_name reached in
          let counted = renaming.counted reached_name name_there in
          (counted.0, omega (arith, counted.1, count_is reached_name.thread some_thread (threads.within reached_name name_there)));
      no_gap = λ thread count some_thread within low high.
          let no_gap_name = renaming.no_gap thread count low (omega (arith, high, count_is thread some_thread within)) in
          (no_gap_name.0, shows.reach.only no_gap_name.0 no_gap_name.1, no_gap_name.2);
      hub_stays = λ reached.
          let none_before = hub_first config.mutators names threads hub refl (reached_there hub reached) in
          one_name (f hub) hub refl (omega (arith, none_before));
    }
