-- A dump is the dump of its own graph.
use Rattle.std.proofs.Common.{ℕ, zero, suc, ◌≡◌, ◌<◌, List, [], ◌∷◌, length, map, get_or, refl, sym, ap, ◌∙◌, arith, false}
use Rattle.std.proofs.lemmas.Bool.{cond-true, cond-false}
use Rattle.std.specs.Prelude.{Some, None, Option, All, unwrap_or}
use Rattle.std.specs.List.{range_with_len}
use Rattle.std.proofs.lemmas.List.{ext_get_or}
use Rattle.std.proofs.lemmas.List.Elements.{All-get_or}
use Rattle.std.proofs.lemmas.List.FromFn.{fill_by_all, length-map-range_with_len, get_or-map-range_with_len}
use Rattle.heap_words.specs.declared.config.Config.{Config}
use Rattle.shen_graph.specs.declared.name.Name.{Name}
use Rattle.shen_graph.specs.Graph.{Graph, Object, Reference, same_name}
use Rattle.shen_graph.specs.GraphText.{Row, row_in}
use Rattle.shen_graph.specs.PlainGraph.{graph_of, object_in, root_in}
use Rattle.shen_graph.specs.Reach.{IsBefore, InOrder, IsReach}
use Rattle.shen_graph.proofs.Distinct.{before_apart, before_join}
use Rattle.shen_graph.proofs.OrderLemmas.{same_name-flip}
use Rattle.shen_graph.proofs.PlainLemmas.{same_name-itself}
use Rattle.churn.proofs.OneReach.{one_reach}
use Rattle.heap_dump.specs.Dumped.{Dumped, names_in, graph_in, IsDump, IsDumpOf, dump_of, root_rows, unpinned}

-- ---- a graph has one dump

names_again : (graph : Graph) (names : List Name) → map (λ (row : Row). row.name) (map (row_in graph) names) ≡ names
names_again graph [] = refl
names_again graph (name ∷ later_names) = ap (λ (names : List Name). name ∷ names) (names_again graph later_names)

pub some_dump : (config : Config) (graph : Graph) (names : List Name) → IsReach (unpinned graph) names → IsDumpOf config graph (dump_of config graph names)
some_dump config graph names reach =
    let same_names = names_again graph names in
    record { reach = rw same_names reach; parts = ap (dump_of config graph) (sym same_names) }

pub one_dump : (config : Config) (graph : Graph) (dump other_dump : Dumped) → IsDumpOf config graph dump → IsDumpOf config graph other_dump → dump ≡ other_dump
one_dump config graph dump other_dump first_dump second_dump = first_dump.parts ∙ ap (dump_of config graph) (one_reach (unpinned graph) (names_in dump) (names_in other_dump) first_dump.reach second_dump.reach) ∙ sym second_dump.parts

-- ---- the object of a row

pub before_at : (name : Name) (names : List Name) (index : ℕ) (other_name : Name) → InOrder (name ∷ names) → index < length names → IsBefore name (get_or names index other_name)
before_at name [] index other_name order index_below = absurd (omega arith)
before_at name (first_name ∷ names) zero other_name order index_below = order.0
before_at name (first_name ∷ names) (suc index) other_name order index_below = before_join name first_name (get_or names index other_name) order.0 (before_at first_name names index other_name order.1 (omega arith))

pub order_rest : (name : Name) (names : List Name) → InOrder (name ∷ names) → InOrder names
order_rest name [] order = tt
order_rest name (first_name ∷ names) order = order.1

abbrev pub name_of : Row → Name
name_of row = row.name

abbrev pub fields_of : Row → Object
fields_of row = record { refs = row.refs; nums = row.nums }

pub name_at : (rows : List Row) (index : ℕ) (row : Row) → get_or (map name_of rows) index (name_of row) ≡ name_of (get_or rows index row)
name_at [] index row = refl
name_at (first_row ∷ rows) zero row = refl
name_at (first_row ∷ rows) (suc index) row = name_at rows index row

pub length-names : (rows : List Row) → length (map name_of rows) ≡ length rows
length-names [] = refl
length-names (row ∷ rows) = ap suc (length-names rows)

pub object_at : (rows : List Row) (index : ℕ) (row : Row) → InOrder (map name_of rows) → index < length rows
    → object_in rows (name_of (get_or rows index row)) ≡ Some (fields_of (get_or rows index row))
object_at [] index row order index_below = absurd (omega arith)
object_at (first_row ∷ rows) zero row order index_below = cond-true (same_name first_row.name first_row.name) (Some (fields_of first_row)) (object_in rows first_row.name) (same_name-itself first_row.name)
object_at (first_row ∷ rows) (suc index) row order index_below =
    let row_here = get_or rows index row in
    let name_before = before_at first_row.name (map name_of rows) index (name_of row) order (omega (arith, length-names rows)) in
    let different_names : same_name (name_of row_here) first_row.name ≡ false =
    same_name-flip (name_of row_here) first_row.name ∙ before_apart first_row.name (name_of row_here) (rw (sym (name_at rows index row)) name_before) in
    cond-false (same_name (name_of row_here) first_row.name) (Some (fields_of first_row)) (object_in rows (name_of row_here)) different_names
    ∙ object_at rows index row (order_rest first_row.name (map name_of rows) order) (omega arith)

-- ---- the dump of its graph

pub row_again : (dump : Dumped) (name : Name) (object : Object) → object_in dump.rows name ≡ Some object → row_in (graph_in dump) name ≡ record { name = name; refs = object.refs; nums = object.nums }
unfolding graph_of
row_again dump name object has_object =
    ap (λ (found : Option Object). record { name = name; refs = (unwrap_or found (record { refs = []; nums = [] })).refs; nums = (unwrap_or found (record { refs = []; nums = [] })).nums }) has_object

pub rows_by_names : (f : Name → Row) (rows : List Row) → ((index : ℕ) (row : Row) → index < length rows → f (name_of (get_or rows index row)) ≡ get_or rows index row) → map f (map name_of rows) ≡ rows
rows_by_names f [] each_row = refl
rows_by_names f (first_row ∷ rows) each_row =
    ap (λ (row : Row). row ∷ map f (map name_of rows)) (each_row zero first_row (omega arith))
    ∙ ap (λ (given_rows : List Row). first_row ∷ given_rows) (rows_by_names f rows (λ index row low. each_row (suc index) row (omega arith)))

rows_again : (dump : Dumped) → InOrder (names_in dump) → map (row_in (graph_in dump)) (names_in dump) ≡ dump.rows
rows_again dump order =
    rows_by_names (row_in (graph_in dump)) dump.rows
    (λ index row low. row_again dump (name_of (get_or dump.rows index row)) (fields_of (get_or dump.rows index row)) (object_at dump.rows index row order low))

pub counts_again : (counts : List ℕ) (threads : ℕ) → length counts ≡ threads → map (λ index. get_or (0 ∷ counts) index 0) (range_with_len 1 threads) ≡ counts
counts_again counts threads count =
    let count_at : ℕ → ℕ = λ index. get_or (0 ∷ counts) index 0 in
    sym (ext_get_or 0 counts (map count_at (range_with_len 1 threads)) (count ∙ sym (length-map-range_with_len count_at 1 threads))
    (λ position low. sym (get_or-map-range_with_len count_at 1 threads position (suc position) 0 (omega arith) (omega arith))))

pub roots_again : (roots : List (List Reference)) (threads : ℕ) → length roots ≡ threads → All (λ (row : List Reference). length row ≡ 16) roots
    → map (λ thread. map (root_in ([] ∷ roots) thread) (range_with_len 0 16)) (range_with_len 1 threads) ≡ roots
roots_again roots threads count full_rows =
    let row_at : ℕ → List Reference = λ thread. map (root_in ([] ∷ roots) thread) (range_with_len 0 16) in
    sym (ext_get_or [] roots (map row_at (range_with_len 1 threads)) (count ∙ sym (length-map-range_with_len row_at 1 threads))
    (λ index low. fill_by_all (λ root_index. get_or (get_or roots index []) root_index None) (get_or roots index []) 16 None (All-get_or (λ (row : List Reference). length row ≡ 16) roots index [] low full_rows) (λ position index_below. refl)
    ∙ sym (get_or-map-range_with_len row_at 1 threads index (suc index) [] (omega arith) (omega arith))))

pub same_parts : (config : Config) (dump : Dumped) (counts : List ℕ) (rows : List Row) (roots : List (List Reference)) → dump.config ≡ config → counts ≡ dump.counts → rows ≡ dump.rows → roots ≡ dump.roots
    → dump ≡ record { config = config; counts = counts; rows = rows; roots = roots }
same_parts given_config dump counts rows roots config same_counts same_rows same_roots =
    ap (λ part. record dump { config = part }) config
    ∙ ap (λ part. record { config = given_config; counts = part; rows = dump.rows; roots = dump.roots }) (sym same_counts)
    ∙ ap (λ part. record { config = given_config; counts = counts; rows = part; roots = dump.roots }) (sym same_rows)
    ∙ ap (λ part. record { config = given_config; counts = counts; rows = rows; roots = part }) (sym same_roots)

pub own_dump : (dump : Dumped) → IsDump dump → IsDumpOf dump.config (graph_in dump) dump
unfolding graph_of
own_dump dump is_dump = record {
  reach = is_dump.reach;
  parts = (same_parts dump.config dump (map (graph_in dump).count (range_with_len 1 dump.config.mutators)) (map (row_in (graph_in dump)) (names_in dump)) (root_rows (graph_in dump) dump.config.mutators)
      refl
      (counts_again dump.counts dump.config.mutators is_dump.form.threads)
      (rows_again dump is_dump.form.order)
      (roots_again dump.roots dump.config.mutators is_dump.form.each is_dump.form.roots));
}
