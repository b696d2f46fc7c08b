-- The text of a dump can be placed, and its graph begins from there.
use Rattle.std.proofs.Common.{◌≡◌, ℕ, ◌-◌, ◌^◌, ◌<◌, ◌≤◌, zero, suc, List, [], length, get_or, Option, Some, None, ⊎_elim, refl, sym, ap, ◌∙◌, subst, arith}
use Rattle.std.specs.Prelude.{slice_get, unwrap_or, Result, Ok, Err, IfOk}
use Rattle.std.proofs.lemmas.List.{get_or_past}
use Rattle.std.proofs.lemmas.List.Elements.{All-get_or, Contains-get_or}
use Rattle.std.proofs.lemmas.Bool.{cases_lt}
use Rattle.heap_words.specs.declared.config.Config.{Config}
use Rattle.heap_words.specs.Words.{Word, Pause, State}
use Rattle.shen_graph.specs.declared.name.Name.{Name}
use Rattle.shen_graph.specs.Graph.{Graph, Object, named, hub}
use Rattle.shen_graph.specs.GraphText.{Text, row_of, root_of, bare, names_of}
use Rattle.shen_graph.specs.Reach.{IsReachable, from_root, from_field}
use Rattle.shen_graph.specs.PlainGraph.{graph_of}
use Rattle.heap_world.specs.Asking.{nothing}
use Rattle.heap_world.specs.Represents.{Represents}
use Rattle.heap_world.specs.World.{IsGiven}
use Rattle.heap_machines.specs.FromImage.{CanBeginFrom}
use Rattle.heap_dump.specs.Dumped.{dumped, graph_in, most_made, IsMadeBy, IsNamed, IsRow, IsDump}
use Rattle.image_graph.specs.declared.image.Image.{Image}
use Rattle.graph_placing.specs.declared.placing.Placed.{Placed}
use Rattle.graph_placing.specs.declared.placing.Placed.TheVariants.{Heap, TooSmall}
use Rattle.graph_placing.specs.Outcome.{IfHeap}
use Rattle.graph_placing.specs.PlacedHeap.{IsPlaced}
use Rattle.graph_placing.specs.PlaceableText.{IsPlaceable}
use Rattle.graph_placing.specs.TextGraph.{row_object, text_graph, IsGraphOf}
use Rattle.graph_placing.proofs.Searching.{names_count, name_of_row}
use Rattle.graph_placing.proofs.TextGraphs.{has_object, is_graph}

module _ (config : Config) (counts : List ℕ) (text : Text) (is_dump : IsDump (dumped config counts text)) where
  abbrev graph_then : Graph
  graph_then = graph_in (dumped config counts text)

  abbrev row_count : ℕ
  row_count = length text.rows

  row_is : (row_number : ℕ) → row_number < row_count → IsRow counts (row_of text row_number)
  row_is row_number row_below = All-get_or (IsRow counts) text.rows row_number (bare hub) row_below is_dump.form.rows

  -- each row can be reached
  row_reached : (index : ℕ) → index < row_count → IsReachable graph_then (row_of text index).name
  row_reached index row_below =
      let name_there : get_or (names_of text) index hub ≡ (row_of text index).name = name_of_row text index hub row_below in
      subst (IsReachable graph_then) name_there (is_dump.reach.only (get_or (names_of text) index hub) (Contains-get_or (names_of text) index hub (omega (arith, row_below, names_count text))))

  -- and its object is the graph's
  row_named : (index : ℕ) → index < row_count → named graph_then (Some (row_of text index).name) ≡ row_object (row_of text index)
  unfolding graph_of
  row_named index row_below = ap (λ (found : Option Object). unwrap_or found (record { refs = []; nums = [] })) (has_object text.rows is_dump.form.order index (bare hub) row_below)

  root_is : (thread index : ℕ) → 1 ≤ thread → graph_then.root thread index ≡ root_of text thread index
  unfolding graph_of
  root_is zero index thread_positive = absurd (omega (arith, thread_positive))
  root_is (suc thread) index thread_positive = let same_thread : thread ≡ suc thread - 1 = omega arith in ap (λ (any_thread : ℕ). get_or (get_or text.roots any_thread []) index None) same_thread

  pub placeable : IsPlaceable config text
  placeable = record {
    threads = is_dump.form.each;
    sixteen = is_dump.form.roots;
    in_order = is_dump.form.order;
    short = λ row_number row_below. let fields = (row_is row_number row_below).fields in record { refs = fields.few_refs; nums = fields.few_nums };
    references = λ row_number place name row_below names.
        is_dump.reach.all name (from_field (row_of text row_number).name name place (row_reached row_number row_below) (ap (λ (object : Object). slice_get object.refs place) (row_named row_number row_below) ∙ names));
    roots = λ thread index name some_name within small names. is_dump.reach.all name (from_root thread index name (root_is thread index some_name ∙ names));
  }

  -- no thread has made too many
  few : (index : ℕ) → get_or counts index 0 < 2 ^ 32
  few index = ⊎_elim
      (λ (index_below : index < length counts). let made_bound = All-get_or (λ (made_count : ℕ). made_count ≤ most_made) counts index 0 index_below is_dump.form.counts in omega (arith, made_bound))
      (λ (index_past : length counts ≤ index). let none_made = get_or_past counts index 0 index_past in omega (arith, none_made))
      (cases_lt index (length counts))

  count_is : (thread : ℕ) → 1 ≤ thread → (text_graph text counts).count thread ≡ get_or counts (thread - 1) 0
  unfolding graph_of
  count_is zero thread_positive = absurd (omega (arith, thread_positive))
  count_is (suc thread) thread_positive = let same_thread : thread ≡ suc thread - 1 = omega arith in ap (λ (index : ℕ). get_or counts index 0) same_thread

  is_given : (name : Name) → IsNamed counts name → IsGiven config (text_graph text counts).count name
  is_given name named_by = ⊎_elim
      (λ (is_hub : name ≡ hub). subst (IsGiven config (text_graph text counts).count) (sym is_hub) (record { thread = omega arith; made = omega arith; by_thread = λ thread_positive. absurd (omega (arith, thread_positive)); small = omega arith }))
      (λ (name_made : IsMadeBy counts name).
      let count = count_is name.thread name_made.from_first in
      record {
        thread = omega (arith, name_made.to_last, is_dump.form.threads);
        made = omega (arith, name_made.to_count, count);
        by_thread = λ thread_positive. omega (arith, name_made.to_count, count);
        small = omega (arith, name_made.to_count, few (name.thread - 1));
      })
      named_by

  graph_is : IsGraphOf config text counts graph_then
  graph_is = is_graph config text counts placeable (λ row_number row_below. is_given (row_of text row_number).name (row_is row_number row_below).name)

  pub can_begin : (memory : Word → ℕ) → IsPlaced config text memory → ((other_counts : List ℕ) (graph : Graph) → IsGraphOf config text other_counts graph → Represents config memory graph (λ m. nothing)) → CanBeginFrom config memory counts graph_then
  can_begin memory placed graph_stands = record {
    stands = graph_stands counts graph_then graph_is;
    outside = record { pause = placed.others Pause refl; states = λ seat seat_below. placed.others (State seat) refl; left = placed.left };
    counts_are = graph_is.counts_are;
  }

-- what follows of an image from two facts of it
pub of_both : {E : Type 0} (P Q R : Image → Type 0) → ((image : Image) → P image → Q image → R image) → (result : Result Placed E)
    → IfOk result (λ placed. IfHeap placed P) → IfOk result (λ placed. IfHeap placed Q) → IfOk result (λ placed. IfHeap placed R)
of_both P Q R follows (Ok (Heap image)) first_fact second_fact = follows image first_fact second_fact
of_both P Q R follows (Ok TooSmall) first_fact second_fact = tt
of_both P Q R follows (Err error) first_fact second_fact = tt
