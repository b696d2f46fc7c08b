-- The dump of a formed graph is a dump: its own graph has the same roots and the same objects.
use Rattle.std.proofs.Common.{◌≡◌, ◌⊎◌, inl, inr, ℕ, zero, suc, ◌+◌, ◌-◌, ◌<◌, ◌≤◌, List, [], ◌∷◌, length, get_or, map, Option, Some, None, refl, sym, ap, ◌∙◌, subst, arith, All, Contains}
use Rattle.std.specs.Prelude.{slice_get, unwrap_or}
use Rattle.std.specs.List.{range_with_len}
use Rattle.std.proofs.lemmas.Bool.{cases_lt}
use Rattle.std.proofs.lemmas.List.{get_or_past}
use Rattle.std.proofs.lemmas.List.Elements.{All-map, Contains-get_or, Contains-append_right}
use Rattle.std.proofs.lemmas.List.FromFn.{length-map-range_with_len, get_or-map-range_with_len}
use Rattle.std.proofs.lemmas.Option.{slice_get-map, get_or_from_slice_get, slice_get_within}
use Rattle.std.specs.Option.{option_map}
use Rattle.shen_graph.proofs.Lists.{element_of_all, slice_get-from_Contains}
use Rattle.heap_words.specs.declared.config.Config.{Config}
use Rattle.heap_words.specs.Narrow.{IsNarrow}
use Rattle.shen_graph.specs.declared.name.Name.{Name}
use Rattle.shen_graph.specs.Graph.{Reference, Object, Graph, hub, named, opening}
use Rattle.shen_graph.specs.declared.pin.Pinned.{Pinned}
use Rattle.shen_graph.specs.GraphText.{Row, Text, row_in}
use Rattle.shen_graph.specs.PlainGraph.{graph_of, object_in}
use Rattle.shen_graph.specs.Reach.{IsReachable, InOrder, IsReach}
use Rattle.shen_graph.specs.Reach.IsReachable.{from_root, from_pin, from_field}
use Rattle.shen_graph.specs.Step.{name_in}
use Rattle.shen_graph.specs.History.{Entry, after}
use Rattle.shen_graph.proofs.PlainLemmas.{fun_ext}
use Rattle.heap_world.specs.Shows.{ShowsGraph}
use Rattle.heap_dump.specs.Dumped.{Dumped, dumped, names_in, graph_in, root_rows, most_made, unpinned, IsNamed, IsRow, IsInForm, IsDump, HasDump, IsDumpOf}
use Rattle.heap_dump.proofs.OwnGraph.{fields_of, length-names, object_at, counts_again}
use Rattle.heap_dump.specs.ObjectsMade.{objects_made, objects_made_by_each, IsDumpable}
use Rattle.heap_dump.proofs.FormedGraphs.{IsKnown, IsFormed, named_formed, refs_known, opening_formed, history_formed}
use Rattle.heap_dump.proofs.ObjectCounts.{made-count}

-- ---- graphs with the same roots that pin nothing, and with the same objects where roots lead to

abbrev pub PinsNone : Graph → Type 0
PinsNone graph = (thread slot : ℕ) → graph.pin thread slot ≡ None

pub carried : (graph second_graph : Graph) → PinsNone graph → ((thread index : ℕ) → graph.root thread index ≡ second_graph.root thread index) → ((name : Name) → IsReachable graph name → named graph (Some name) ≡ named second_graph (Some name)) → (name : Name) → IsReachable graph name → IsReachable second_graph name
carried graph second_graph pins_none roots same_objects _ (from_root thread root_index name link_there) = from_root thread root_index name (sym (roots thread root_index) ∙ link_there)
carried graph second_graph pins_none roots same_objects _ (from_pin thread slot held_pin link_there) = let pin_and_none = sym link_there ∙ pins_none thread slot in absurd cc
carried graph second_graph pins_none roots same_objects _ (from_field referrer name field referrer_reached link_there) =
    from_field referrer name field (carried graph second_graph pins_none roots same_objects referrer referrer_reached) (ap (λ (object : Object). slice_get object.refs field) (sym (same_objects referrer referrer_reached)) ∙ link_there)

pub carried_back : (graph second_graph : Graph) → PinsNone second_graph → ((thread index : ℕ) → graph.root thread index ≡ second_graph.root thread index) → ((name : Name) → IsReachable graph name → named graph (Some name) ≡ named second_graph (Some name)) → (name : Name) → IsReachable second_graph name → IsReachable graph name
carried_back graph second_graph pins_none roots same_objects _ (from_root thread root_index name link_there) = from_root thread root_index name (roots thread root_index ∙ link_there)
carried_back graph second_graph pins_none roots same_objects _ (from_pin thread slot held_pin link_there) = let pin_and_none = sym link_there ∙ pins_none thread slot in absurd cc
carried_back graph second_graph pins_none roots same_objects _ (from_field referrer name field referrer_reached link_there) =
    let reached_first = carried_back graph second_graph pins_none roots same_objects referrer referrer_reached in
    from_field referrer name field reached_first (ap (λ (object : Object). slice_get object.refs field) (same_objects referrer reached_first) ∙ link_there)

-- what is reached without pins is reached
led_with_pins : (graph : Graph) (name : Name) → IsReachable (unpinned graph) name → IsReachable graph name
led_with_pins graph _ (from_root thread index name link_there) = from_root thread index name link_there
led_with_pins graph _ (from_pin thread slot held_pin link_there) = absurd cc
led_with_pins graph _ (from_field referrer name field referrer_reached link_there) = from_field referrer name field (led_with_pins graph referrer referrer_reached) link_there

map_same_on : {A B : Type 0} (f g : A → B) (xs : List A) → ((x : A) → Contains xs x → f x ≡ g x) → map f xs ≡ map g xs
map_same_on f g [] same_values = refl
map_same_on f g (x ∷ xs) same_values =
    ap (λ y. y ∷ map f xs) (same_values x (0, omega arith, refl)) ∙ ap (λ ys. g x ∷ ys) (map_same_on f g xs (λ y value_contained. same_values y (Contains-append_right (x ∷ []) xs y value_contained)))

-- what can be reached is known
reachable_known : (threads : ℕ) (graph : Graph) → IsFormed threads graph → (name : Name) → IsReachable graph name → IsKnown threads graph.count (Some name)
reachable_known threads graph graph_formed _ (from_root thread index name link_there) = subst (IsKnown threads graph.count) link_there (graph_formed.root thread index)
reachable_known threads graph graph_formed _ (from_pin thread slot held_pin link_there) = subst (λ (found : Option Pinned). IsKnown threads graph.count (name_in found)) link_there (graph_formed.pin thread slot)
reachable_known threads graph graph_formed _ (from_field referrer name field referrer_reached link_there) = element_of_all (IsKnown threads graph.count) (named graph (Some referrer)).refs field (Some name) (refs_known threads graph (Some referrer) graph_formed) link_there

-- ---- a graph and the graph of a dump that has its parts

-- The parts of the dump are those of the graph: rows of names that can be reached, and of all those to which the roots lead.
pub record HasPartsOf (c : Config) (graph : Graph) (dump : Dumped) : Type 0 where
  pub config : dump.config ≡ c
  pub counts : dump.counts ≡ map graph.count (range_with_len 1 c.mutators)
  pub rows : dump.rows ≡ map (row_in graph) (names_in dump)
  pub roots : dump.roots ≡ root_rows graph c.mutators
  pub order : InOrder (names_in dump)
  pub all : (name : Name) → IsReachable (unpinned graph) name → Contains (names_in dump) name
  pub only : (name : Name) → Contains (names_in dump) name → IsReachable graph name

-- such is its dump
pub parts_of_dump : (config : Config) (graph : Graph) (dump : Dumped) → IsDumpOf config graph dump → HasPartsOf config graph dump
parts_of_dump config graph dump dump_of = record {
  config = ap (λ (dump : Dumped). dump.config) dump_of.parts;
  counts = ap (λ (dump : Dumped). dump.counts) dump_of.parts;
  rows = ap (λ (dump : Dumped). dump.rows) dump_of.parts;
  roots = ap (λ (dump : Dumped). dump.roots) dump_of.parts;
  order = dump_of.reach.in_order;
  all = dump_of.reach.all;
  only = λ name name_listed. led_with_pins graph name (dump_of.reach.only name name_listed);
}

module _ (config : Config) (graph : Graph) (narrow : IsNarrow config) (graph_formed : IsFormed config.mutators graph) (few_made : (some_thread : ℕ) → graph.count some_thread ≤ most_made) (dump : Dumped) (parts_of : HasPartsOf config graph dump) where
  none_beyond : (thread index : ℕ) → ((1 ≤ thread) × (thread ≤ config.mutators) × (index < 16) → ⊥) → graph.root thread index ≡ None
  none_beyond thread index not_within = by_root (graph.root thread index) refl
    where
      by_root : (found : Option Name) → graph.root thread index ≡ found → found ≡ None
      by_root None root_found = refl
      by_root (Some name) root_found = let name_within = graph_formed.within thread index name root_found in absurd (not_within (name_within.from_first, name_within.to_last, name_within.low))

  abbrev no_roots : List Reference
  no_roots = []

  abbrev row_of_roots : ℕ → List Reference
  row_of_roots thread = map (graph.root thread) (range_with_len 0 16)

  -- a row of roots
  row_at : (mutator : ℕ) → mutator < config.mutators → get_or dump.roots mutator [] ≡ row_of_roots (suc mutator)
  row_at mutator mutator_below = ap (λ (rows : List (List Reference)). get_or rows mutator no_roots) parts_of.roots ∙ get_or-map-range_with_len row_of_roots 1 config.mutators mutator (suc mutator) no_roots mutator_below (omega arith)

  length-roots : length dump.roots ≡ config.mutators
  length-roots = ap length parts_of.roots ∙ length-map-range_with_len row_of_roots 1 config.mutators

  root_is : (mutator index : ℕ) → get_or (get_or dump.roots mutator []) index None ≡ graph.root (suc mutator) index
  root_is mutator index = by_thread (cases_lt mutator config.mutators) (cases_lt index 16)
    where
      by_thread : (mutator < config.mutators) ⊎ (config.mutators ≤ mutator) → (index < 16) ⊎ (16 ≤ index) → get_or (get_or dump.roots mutator []) index None ≡ graph.root (suc mutator) index
      by_thread (inl mutator_below) (inl index_below) = ap (λ (row : List Reference). get_or row index None) (row_at mutator mutator_below) ∙ get_or-map-range_with_len (graph.root (suc mutator)) 0 16 index index None index_below (omega arith)
      by_thread (inl mutator_below) (inr big) =
          let roots_length = length-map-range_with_len (graph.root (suc mutator)) 0 16 in
          ap (λ (row : List Reference). get_or row index None) (row_at mutator mutator_below) ∙ get_or_past (row_of_roots (suc mutator)) index None (omega (arith, roots_length, big)) ∙ sym (none_beyond (suc mutator) index (λ both_below. absurd (omega (arith, big, both_below.2))))
      by_thread (inr mutator_above) any =
          ap (λ (row : List Reference). get_or row index None) (get_or_past dump.roots mutator no_roots (omega (arith, length-roots, mutator_above))) ∙ sym (none_beyond (suc mutator) index (λ both_below. absurd (omega (arith, mutator_above, both_below.1))))

  same_roots : (thread index : ℕ) → graph.root thread index ≡ (graph_in dump).root thread index
  unfolding graph_of
  same_roots zero index = none_beyond zero index (λ both_below. absurd (omega (arith, both_below.0)))
  same_roots (suc mutator) index = sym (root_is mutator index)

  -- the row of a name
  abbrev nobody : Row
  nobody = record { name = hub; refs = []; nums = [] }

  row_is : (index : ℕ) (name : Name) → slice_get (names_in dump) index ≡ Some name → get_or dump.rows index nobody ≡ row_in graph name
  row_is index name name_listed =
      ap (λ (rows : List Row). get_or rows index nobody) parts_of.rows
      ∙ get_or_from_slice_get (map (row_in graph) (names_in dump)) index (row_in graph name) nobody (slice_get-map (row_in graph) (names_in dump) index ∙ ap (option_map (row_in graph)) name_listed)

  row_within : (index : ℕ) (name : Name) → slice_get (names_in dump) index ≡ Some name → index < length dump.rows
  row_within index name name_listed = let index_below = slice_get_within (names_in dump) index name name_listed in omega (arith, index_below, length-names dump.rows)

  object_is : (name : Name) → Contains (names_in dump) name → object_in dump.rows name ≡ Some (named graph (Some name))
  object_is name name_listed =
      let name_index = slice_get-from_Contains (names_in dump) name name_listed in
      let row = row_is name_index.0 name name_index.1 in
      subst (λ (row : Row). object_in dump.rows row.name ≡ Some (fields_of row)) row (object_at dump.rows name_index.0 nobody parts_of.order (row_within name_index.0 name name_index.1))

  same_objects : (name : Name) → Contains (names_in dump) name → named graph (Some name) ≡ named (graph_in dump) (Some name)
  unfolding graph_of
  same_objects name name_listed = ap (λ (found : Option Object). unwrap_or found (record { refs = []; nums = [] })) (sym (object_is name name_listed))

  no_pins : PinsNone (graph_in dump)
  unfolding graph_of
  no_pins thread slot = refl

  lead_back : (name : Name) → IsReachable (graph_in dump) name → IsReachable (unpinned graph) name
  lead_back = carried_back (unpinned graph) (graph_in dump) no_pins same_roots (λ name led. same_objects name (parts_of.all name led))

  lead_on : (name : Name) → IsReachable (unpinned graph) name → IsReachable (graph_in dump) name
  lead_on = carried (unpinned graph) (graph_in dump) (λ some_thread slot. refl) same_roots (λ name led. same_objects name (parts_of.all name led))

  -- ---- its form

  length-counts : length dump.counts ≡ config.mutators
  length-counts = ap length parts_of.counts ∙ length-map-range_with_len graph.count 1 config.mutators

  count_is : (thread : ℕ) → 1 ≤ thread → thread ≤ config.mutators → get_or dump.counts (thread - 1) 0 ≡ graph.count thread
  count_is thread from_first to_last = ap (λ (numbers : List ℕ). get_or numbers (thread - 1) 0) parts_of.counts ∙ get_or-map-range_with_len graph.count 1 config.mutators (thread - 1) thread 0 (omega arith) (omega arith)

  named_by : (name : Name) → IsKnown config.mutators graph.count (Some name) → IsNamed dump.counts name
  named_by name (inl is_hub) = inl is_hub
  named_by name (inr name_made) =
      let count = count_is name.thread name_made.from_first name_made.to_last in
      inr (record { from_first = name_made.from_first; to_last = omega (arith, name_made.to_last, length-counts); from_one = name_made.from_one; to_count = omega (arith, name_made.to_count, count) })

  row_formed : (name : Name) → IsReachable graph name → IsRow dump.counts (row_in graph name)
  row_formed name reached =
      let object_formed = named_formed config.mutators graph name graph_formed in
      record {
        name = named_by name (reachable_known config.mutators graph graph_formed name reached);
        fields = record { few_refs = object_formed.few_refs; few_nums = object_formed.few_nums; hub_refs = object_formed.hub_refs; hub_nums = object_formed.hub_nums; fit = object_formed.fit };
      }

  rows_formed : All (IsRow dump.counts) dump.rows
  rows_formed = subst (All (IsRow dump.counts)) (sym parts_of.rows) (All-map (IsRow dump.counts) (row_in graph) (names_in dump) (λ index default index_below. row_formed _ (parts_of.only _ (Contains-get_or (names_in dump) index default index_below))))

  form_is : IsInForm dump
  form_is = record {
    narrow = subst IsNarrow (sym parts_of.config) narrow;
    threads = length-counts ∙ sym (ap (λ (config : Config). config.mutators) parts_of.config);
    counts = subst (All (λ count. count ≤ most_made)) (sym parts_of.counts) (All-map (λ count. count ≤ most_made) graph.count (range_with_len 1 config.mutators) (λ position some_thread low. few_made _));
    rows = rows_formed;
    order = parts_of.order;
    each = length-roots ∙ sym (ap (λ (config : Config). config.mutators) parts_of.config);
    roots = subst (All (λ row. length row ≡ 16)) (sym parts_of.roots) (All-map (λ row. length row ≡ 16) row_of_roots (range_with_len 1 config.mutators) (λ index some_thread low. length-map-range_with_len (graph.root (get_or (range_with_len 1 config.mutators) index some_thread)) 0 16));
  }

  -- a dump can be made of it
  pub has_dump : HasDump dump
  has_dump = record { form = form_is; all = λ name led. parts_of.all name (lead_back name led) }

  -- it is one, where it has no more rows than the roots lead to
  pub dump_is : IsReach (unpinned graph) (names_in dump) → IsDump dump
  dump_is reach = record {
    form = form_is;
    reach = record { in_order = parts_of.order; all = has_dump.all; only = λ name name_listed. lead_on name (reach.only name name_listed) };
  }

  -- ---- the dump of its graph is that of the graph

  unpinned_back : (name : Name) → IsReachable (unpinned (graph_in dump)) name → IsReachable (unpinned graph) name
  unpinned_back name led = lead_back name (led_with_pins (graph_in dump) name led)

  unpinned_on : (name : Name) → IsReachable (unpinned graph) name → IsReachable (unpinned (graph_in dump)) name
  unpinned_on = carried (unpinned graph) (unpinned (graph_in dump)) (λ some_thread slot. refl) same_roots (λ name led. same_objects name (parts_of.all name led))

  same_counts : map (graph_in dump).count (range_with_len 1 config.mutators) ≡ map graph.count (range_with_len 1 config.mutators)
  unfolding graph_of
  same_counts = counts_again dump.counts config.mutators length-counts ∙ parts_of.counts

  same_rows : (names : List Name) → ((name : Name) → Contains names name → Contains (names_in dump) name) → map (row_in (graph_in dump)) names ≡ map (row_in graph) names
  same_rows names names_within = map_same_on (row_in (graph_in dump)) (row_in graph) names (λ name in_names. ap (λ (object : Object). record { name = name; refs = object.refs; nums = object.nums }) (sym (same_objects name (names_within name in_names))))

  same_root_rows : root_rows (graph_in dump) config.mutators ≡ root_rows graph config.mutators
  same_root_rows = ap (λ (root : ℕ → ℕ → Reference). map (λ thread. map (root thread) (range_with_len 0 16)) (range_with_len 1 config.mutators))
      (fun_ext (graph_in dump).root graph.root (λ thread. fun_ext ((graph_in dump).root thread) (graph.root thread) (λ index. sym (same_roots thread index))))

  pub dump_through : (new_dump : Dumped) → IsDumpOf config (graph_in dump) new_dump → IsDumpOf config graph new_dump
  dump_through new_dump dump_of = record {
    reach = record { in_order = dump_of.reach.in_order; all = λ name led. dump_of.reach.all name (unpinned_on name led); only = λ name name_listed. unpinned_back name (dump_of.reach.only name name_listed) };
    parts = (dump_of.parts
        ∙ ap (λ (counts : List ℕ). record { config = config; counts = counts; rows = map (row_in (graph_in dump)) (names_in new_dump); roots = root_rows (graph_in dump) config.mutators }) same_counts
        ∙ ap (λ (rows : List Row). record { config = config; counts = map graph.count (range_with_len 1 config.mutators); rows = rows; roots = root_rows (graph_in dump) config.mutators })
        (same_rows (names_in new_dump) (λ name name_listed. parts_of.all name (unpinned_back name (dump_of.reach.only name name_listed))))
        ∙ ap (λ (roots : List (List Reference)). record { config = config; counts = map graph.count (range_with_len 1 config.mutators); rows = map (row_in graph) (names_in new_dump); roots = roots }) same_root_rows);
  }

-- ---- the graph of a history

counted : (config : Config) (history : List Entry) → IsDumpable config history → (thread : ℕ) → (after (opening config.mutators) history).count thread ≡ objects_made history thread
counted config history dumpable thread = made-count config.regions config.region_words (opening config.mutators) history thread dumpable.each ∙ none_before (objects_made history thread)
  where
    none_before : (count : ℕ) → 0 + count ≡ count
    none_before count = omega arith

formed_after : (config : Config) (history : List Entry) → IsDumpable config history → IsFormed config.mutators (after (opening config.mutators) history)
formed_after config history dumpable = history_formed config.mutators config.regions config.region_words (opening config.mutators) history dumpable.each dumpable.entries (opening_formed config.mutators)

few_after : (config : Config) (history : List Entry) → IsDumpable config history → (thread : ℕ) → (after (opening config.mutators) history).count thread ≤ most_made
few_after config history dumpable thread = let few_made = dumpable.few thread in let count = counted config history dumpable thread in omega (arith, few_made, count)

pub is_dump : (config : Config) (history : List Entry) (dump : Dumped) → IsNarrow config → IsDumpable config history → IsDumpOf config (after (opening config.mutators) history) dump → IsDump dump
is_dump config history dump narrow dumpable dump_of =
    let graph = after (opening config.mutators) history in
    dump_is config graph narrow (formed_after config history dumpable) (few_after config history dumpable) dump (parts_of_dump config graph dump dump_of) dump_of.reach

same_made : (config : Config) (history : List Entry) → IsDumpable config history → map (after (opening config.mutators) history).count (range_with_len 1 config.mutators) ≡ objects_made_by_each history config.mutators
same_made config history dumpable =
    ap (λ (count : ℕ → ℕ). map count (range_with_len 1 config.mutators)) (fun_ext (after (opening config.mutators) history).count (objects_made history) (counted config history dumpable))

pub counts_made : (config : Config) (history : List Entry) (dump : Dumped) → IsDumpable config history → IsDumpOf config (after (opening config.mutators) history) dump → dump.counts ≡ objects_made_by_each history config.mutators
counts_made config history dump dumpable dump_of = ap (λ (dump : Dumped). dump.counts) dump_of.parts ∙ same_made config history dumpable

-- ---- the text of the graph

-- it has the parts of the graph, and rows besides of what only pins lead to
parts_of_text : (config : Config) (history : List Entry) (counts : List ℕ) (text : Text) → IsDumpable config history → ShowsGraph text config.mutators (after (opening config.mutators) history)
    → counts ≡ objects_made_by_each history config.mutators → HasPartsOf config (after (opening config.mutators) history) (dumped config counts text)
parts_of_text config history counts text dumpable shows counts_are =
    let graph = after (opening config.mutators) history in
    record {
      config = refl;
      counts = counts_are ∙ sym (same_made config history dumpable);
      rows = shows.rows;
      roots = shows.roots;
      order = shows.reach.in_order;
      all = λ name led. shows.reach.all name (led_with_pins graph name led);
      only = shows.reach.only;
    }

-- a dump can be made of it
pub text_has_dump : (config : Config) (history : List Entry) (counts : List ℕ) (text : Text) → IsNarrow config → IsDumpable config history → ShowsGraph text config.mutators (after (opening config.mutators) history)
    → counts ≡ objects_made_by_each history config.mutators → HasDump (dumped config counts text)
text_has_dump config history counts text narrow dumpable shows counts_are =
    has_dump config (after (opening config.mutators) history) narrow (formed_after config history dumpable) (few_after config history dumpable) (dumped config counts text) (parts_of_text config history counts text dumpable shows counts_are)

-- and what is made of it is the dump of the graph
pub text_dump : (config : Config) (history : List Entry) (counts : List ℕ) (text : Text) → IsNarrow config → IsDumpable config history → ShowsGraph text config.mutators (after (opening config.mutators) history)
    → counts ≡ objects_made_by_each history config.mutators → (dump : Dumped) → IsDumpOf config (graph_in (dumped config counts text)) dump → IsDumpOf config (after (opening config.mutators) history) dump
text_dump config history counts text narrow dumpable shows counts_are =
    dump_through config (after (opening config.mutators) history) narrow (formed_after config history dumpable) (few_after config history dumpable) (dumped config counts text) (parts_of_text config history counts text dumpable shows counts_are)
