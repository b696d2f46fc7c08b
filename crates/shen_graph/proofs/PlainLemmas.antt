-- What each change of the rows, the roots and the counts of a plain graph makes of its graph.
use Rattle.std.proofs.Common.{ℕ, zero, suc, ◌≡◌, ◌+◌, ◌<◌, true, false, cond, eqb, List, [], ◌∷◌, length, get_or, set, replicate, Option, Some, None, refl, sym, ap, ◌∙◌, arith, inl, inr, get_or-set_same, get_or-set_other}
use Rattle.std.specs.Prelude.{IsSome, nat_le, slice_get, slice_index, position, option_and_then, unwrap_or, if◌then◌else◌, ◌&&◌, ◌==◌}
use Rattle.std.specs.List.{position_from}
use Rattle.std.proofs.lemmas.Bool.{false≢true, cases_lt, le-leb, lt-leb, ne_eqb}
use Rattle.std.proofs.lemmas.List.{get_or-replicate, get_or_past, length-replicate}
use Rattle.std.proofs.lemmas.Bool.Decides.{eqb_tells}
use Rattle.std.proofs.lemmas.List.Quantifiers.{position-Some}
use Rattle.std.proofs.lemmas.Option.{slice_get_within}
use Rattle.std.proofs.lemmas.Iterator.Adapters.{position_from-zero}
use Rattle.shen_graph.specs.declared.name.Name.{Name}
use Rattle.shen_graph.specs.declared.pin.Pinned.{Pinned}
use Rattle.shen_graph.specs.Graph.{Graph, Object, Reference, same_name, named, field_at, number_at, with_root, with_named, with_field, with_number, with_fresh, with_pin, blank, hub, opening}
use Rattle.shen_graph.specs.GraphText.{Row, Text, row_in, with_row, with_whole_row}
use Rattle.shen_graph.specs.Reach.{size}
use Rattle.shen_graph.proofs.OrderLemmas.{same_name-flip, same_name-Decides}
use Rattle.shen_graph.specs.PlainGraph.{Plain, object_in, root_in, pin_in, graph_of, place_of}

pub fun_ext : {A B : Type 0} (f g : A → B) → ((x : A) → f x ≡ g x) → f ≡ g
fun_ext f g same_values = λ i x. same_values x i

-- the tests of names
pub same_name-true : (name other_name : Name) → same_name name other_name ≡ true → name ≡ other_name
same_name-true name other_name names_agree =
    let equal_names = (same_name-Decides name other_name).0 names_agree in
    λ i. record { thread = equal_names.0 i; count = equal_names.1 i }

pub same_name-itself : (name : Name) → same_name name name ≡ true
same_name-itself name = (same_name-Decides name name).1 (refl, refl)

-- the row that an index out of range gives
abbrev pub nobody : Row
nobody = record { name = record { thread = 0; count = 0 }; refs = []; nums = [] }

abbrev pub object_of : Row → Object
object_of row = record { refs = row.refs; nums = row.nums }

-- the place of the first row with the name
pub record IsFirst (rows : List Row) (name : Name) (other_index : ℕ) : Type 0 where
  pub within : other_index < length rows
  pub same : same_name name (get_or rows other_index nobody).name ≡ true
  pub others : (index : ℕ) → index < other_index → same_name name (get_or rows index nobody).name ≡ false

pub IsFirst-position : (rows : List Row) (name : Name) (index : ℕ) → position (λ any_row. same_name name any_row.name) rows ≡ Some index → IsFirst rows name index
IsFirst-position rows name index place =
    let found = position-Some (λ (row : Row). same_name name row.name) rows index nobody place in
    record { within = found.0; same = found.1; others = found.2 }

IsFirst-rest : (row : Row) (rows : List Row) (name : Name) (index : ℕ) → IsFirst (row ∷ rows) name (suc index) → IsFirst rows name index
IsFirst-rest row rows name index first = record { within = omega (arith, first.within); same = first.same; others = λ earlier_index below. first.others (suc earlier_index) (omega arith) }

-- the first row with the name has the object
pub object_in-first : (rows : List Row) (name : Name) (index : ℕ) → IsFirst rows name index → object_in rows name ≡ Some (object_of (get_or rows index nobody))
object_in-first [] name index first = absurd (omega (arith, first.within))
object_in-first (row ∷ rows) name zero first = rw first.same refl
object_in-first (row ∷ rows) name (suc index) first =
    let head : same_name name row.name ≡ false = first.others 0 (omega arith) in
    rw head (object_in-first rows name index (IsFirst-rest row rows name index first))

pub object_in-none : (rows : List Row) (name : Name) (start : ℕ) → position_from (λ any_row. same_name name any_row.name) start rows ≡ None → object_in rows name ≡ None
object_in-none [] name start no_position = refl
object_in-none (head_row ∷ rows) name start no_position =
    elim (same_name name head_row.name) as (λ b. cond b (Some start) (position_from (λ (row : Row). same_name name row.name) (start + 1) rows) ≡ None → (if b then Some (object_of head_row) else object_in rows name) ≡ None)
    [ true ↦ λ impossible. cc | false ↦ λ rest. object_in-none rows name (start + 1) rest ] no_position

-- the row has another object
pub object_in-set : (rows : List Row) (name : Name) (index : ℕ) (object : Object) (asked_name : Name) → IsFirst rows name index
    → object_in (set rows index (record { name = (get_or rows index nobody).name; refs = object.refs; nums = object.nums })) asked_name ≡ (if same_name asked_name name then Some object else object_in rows asked_name)
object_in-set [] name index object asked_name first = absurd (omega (arith, first.within))
object_in-set (row ∷ rows) name zero object asked_name first =
    let row_named : name ≡ row.name = same_name-true name row.name first.same in
    rw row_named (elim (same_name asked_name row.name) as (λ names_agree. (if names_agree then Some object else object_in rows asked_name) ≡ (if names_agree then Some object else (if names_agree then Some (object_of row) else object_in rows asked_name))) [ true ↦ refl | false ↦ refl ])
object_in-set (row ∷ rows) name (suc index) object asked_name first =
    let head : same_name name row.name ≡ false = first.others 0 (omega arith) in
    let rest = object_in-set rows name index object asked_name (IsFirst-rest row rows name index first) in
    let different_names : same_name asked_name row.name ≡ true → same_name asked_name name ≡ false = λ agreeing_names. rw (same_name-true asked_name row.name agreeing_names, same_name-flip row.name name) head in
    elim (same_name asked_name row.name) as (λ names_agree. (names_agree ≡ true → same_name asked_name name ≡ false) → (if names_agree then Some (object_of row) else object_in (set rows index (record { name = (get_or rows index nobody).name; refs = object.refs; nums = object.nums })) asked_name) ≡ (if same_name asked_name name then Some object else (if names_agree then Some (object_of row) else object_in rows asked_name)))
    [ true ↦ λ different_names. rw (different_names refl) refl | false ↦ λ _. rest ] different_names

pub get_or-set : {A : Type 0} (xs : List A) (index asked_index : ℕ) (value default : A) → index < length xs → get_or (set xs index value) asked_index default ≡ cond (eqb asked_index index) value (get_or xs asked_index default)
get_or-set xs index asked_index value default within =
    elim (eqb_tells asked_index index) [ inl index_test ↦ rw (index_test.0, index_test.1) (get_or-set_same xs index value default within) | inr index_test ↦ rw index_test.0 (get_or-set_other xs index asked_index value default index_test.1) ]

-- what a root names, by the place of its row

pub root-graph_of : (plain : Plain) (thread root : ℕ) → (graph_of plain).root thread root ≡ root_in plain.roots thread root
unfolding graph_of
root-graph_of plain thread root = refl

pub pin-graph_of : (plain : Plain) (thread slot : ℕ) → (graph_of plain).pin thread slot ≡ pin_in plain.pins thread slot
unfolding graph_of
pin-graph_of plain thread slot = refl

pub count-graph_of : (plain : Plain) (thread : ℕ) → (graph_of plain).count thread ≡ slice_index plain.counts thread
unfolding graph_of
count-graph_of plain thread = refl

-- the object that stands at a place, if it is one
abbrev pub object_at : Plain → Option ℕ → Object
object_at plain None = record { refs = []; nums = [] }
object_at plain (Some index) = object_of (get_or plain.rows index nobody)

-- what a name names, by the place of its row
pub named-place : (plain : Plain) (name : Name) → named (graph_of plain) (Some name) ≡ object_at plain (position (λ (row : Row). same_name name row.name) plain.rows)
unfolding graph_of
named-place plain name = by_place (position (λ (row : Row). same_name name row.name) plain.rows) refl
  where
    by_place : (place : Option ℕ) → position (λ (row : Row). same_name name row.name) plain.rows ≡ place → unwrap_or (object_in plain.rows name) (record { refs = []; nums = [] }) ≡ object_at plain place
    by_place None found_place = rw (object_in-none plain.rows name 0 (sym (position_from-zero (λ (row : Row). same_name name row.name) plain.rows) ∙ found_place)) refl
    by_place (Some index) found_place = rw (object_in-first plain.rows name index (IsFirst-position plain.rows name index found_place)) refl

-- the object of a name, by the place of its row

pub object-placed : (plain : Plain) (name : Name) (index : ℕ) (row : Row) → position (λ (row : Row). same_name name row.name) plain.rows ≡ Some index → row ≡ get_or plain.rows index nobody
    → ((graph_of plain).object name ≡ Some (object_of row)) × (row.name ≡ name)
unfolding graph_of
object-placed plain name index row place row_at_index =
    let first = IsFirst-position plain.rows name index place in (
      object_in-first plain.rows name index first ∙ ap (λ (row : Row). Some (object_of row)) (sym row_at_index),
      ap (λ (row : Row). row.name) row_at_index ∙ sym (same_name-true name (get_or plain.rows index nobody).name first.same),
    )

pub object-nowhere : (plain : Plain) (name : Name) → position (λ (row : Row). same_name name row.name) plain.rows ≡ None → (graph_of plain).object name ≡ None
unfolding graph_of
object-nowhere plain name no_position = object_in-none plain.rows name 0 (sym (position_from-zero (λ (row : Row). same_name name row.name) plain.rows) ∙ no_position)

pub named-object : (graph : Graph) (name : Name) (object : Object) → graph.object name ≡ Some object → named graph (Some name) ≡ object
named-object graph name object found_object = ap (λ (found : Option Object). unwrap_or found (record { refs = []; nums = [] })) found_object

pub named-nothing : (graph : Graph) (name : Name) → graph.object name ≡ None → named graph (Some name) ≡ record { refs = []; nums = [] }
named-nothing graph name no_object = ap (λ (found : Option Object). unwrap_or found (record { refs = []; nums = [] })) no_object

-- the row of a name that has an object, and of one that has none

pub row-named : (graph : Graph) (name : Name) (row : Row) → (graph.object name ≡ Some (object_of row)) × (row.name ≡ name) → row ≡ row_in graph name
row-named graph name row found_row =
    let object_named = sym (named-object graph name (object_of row) found_row.0) in
    λ i. record { name = found_row.1 i; refs = (object_named i).refs; nums = (object_named i).nums }

pub size-named : (graph : Graph) (name : Name) (row : Row) → (graph.object name ≡ Some (object_of row)) × (row.name ≡ name) → size (named graph (Some name)) ≡ 3 + length row.refs + length row.nums
size-named graph name row found_row = ap size (named-object graph name (object_of row) found_row.0)

pub row-unnamed : (graph : Graph) (text : Text) (name : Name) → graph.object name ≡ None → with_row text name ≡ with_whole_row text (row_in graph name)
row-unnamed graph text name no_object = ap (λ (object : Object). with_whole_row text (record { name = name; refs = object.refs; nums = object.nums })) (sym (named-nothing graph name no_object))

pub named-graph_of : (plain : Plain) (thread root : ℕ) → named (graph_of plain) ((graph_of plain).root thread root) ≡ object_at plain (place_of plain thread root)
named-graph_of plain thread root =
    rw (root-graph_of plain thread root)
    (elim (root_in plain.roots thread root) as (λ reference. named (graph_of plain) reference ≡ object_at plain (option_and_then (λ name. position (λ (row : Row). same_name name row.name) plain.rows) reference))
    [ None ↦ refl | Some name ↦ named-place plain name ])

-- a root is another
pub graph_of-with_root : (plain : Plain) (thread root : ℕ) (value : Reference) (row : List Reference) → thread < length plain.roots → row ≡ get_or plain.roots thread [] → root < length row
    → graph_of (record plain { roots = set plain.roots thread (set row root value) }) ≡ with_root (graph_of plain) thread root value
unfolding graph_of
graph_of-with_root plain thread root value row in_threads row_at_thread in_roots =
    let same_roots : root_in (set plain.roots thread (set row root value)) ≡ (λ any_thread any_root. if (any_thread == thread) && (any_root == root) then value else root_in plain.roots any_thread any_root) =
    fun_ext _ _ (λ any_thread. fun_ext _ _ (λ any_root. at any_thread any_root)) in
    λ i. record { object = object_in plain.rows; root = same_roots i; count = slice_index plain.counts; pin = pin_in plain.pins }
  where
    at : (asked_thread asked_root : ℕ) → root_in (set plain.roots thread (set row root value)) asked_thread asked_root ≡ (if (asked_thread == thread) && (asked_root == root) then value else root_in plain.roots asked_thread asked_root)
    at asked_thread asked_root =
        rw (get_or-set plain.roots thread asked_thread (set row root value) [] in_threads)
        (elim (eqb_tells asked_thread thread) [
          | inl thread_test ↦ rw (thread_test.0, thread_test.1, ← row_at_thread) (get_or-set row root asked_root value None in_roots)
          | inr thread_test ↦ rw thread_test.0 refl
        ])

-- a pin slot holds another
pub graph_of-with_pin : (plain : Plain) (thread slot : ℕ) (pinned : Option Pinned) (row : List (Option Pinned)) → thread < length plain.pins → row ≡ get_or plain.pins thread [] → slot < length row
    → graph_of (record plain { pins = set plain.pins thread (set row slot pinned) }) ≡ with_pin (graph_of plain) thread slot pinned
unfolding graph_of
graph_of-with_pin plain thread slot pinned row in_threads row_at_thread in_slots =
    let same_pins : pin_in (set plain.pins thread (set row slot pinned)) ≡ (λ any_thread any_slot. if (any_thread == thread) && (any_slot == slot) then pinned else pin_in plain.pins any_thread any_slot) =
    fun_ext _ _ (λ any_thread. fun_ext _ _ (λ any_slot. at any_thread any_slot)) in
    λ i. record { object = object_in plain.rows; root = root_in plain.roots; count = slice_index plain.counts; pin = same_pins i }
  where
    at : (asked_thread asked_slot : ℕ) → pin_in (set plain.pins thread (set row slot pinned)) asked_thread asked_slot ≡ (if (asked_thread == thread) && (asked_slot == slot) then pinned else pin_in plain.pins asked_thread asked_slot)
    at asked_thread asked_slot =
        rw (get_or-set plain.pins thread asked_thread (set row slot pinned) [] in_threads)
        (elim (eqb_tells asked_thread thread) [
          | inl thread_test ↦ rw (thread_test.0, thread_test.1, ← row_at_thread) (get_or-set row slot asked_slot pinned None in_slots)
          | inr thread_test ↦ rw thread_test.0 refl
        ])

-- the object that a root names is another
pub graph_of-with_object : (plain : Plain) (thread root index : ℕ) (object : Object) → place_of plain thread root ≡ Some index
    → graph_of (record plain { rows = set plain.rows index (record { name = (get_or plain.rows index nobody).name; refs = object.refs; nums = object.nums }) }) ≡ with_named (graph_of plain) ((graph_of plain).root thread root) object
unfolding graph_of
graph_of-with_object plain thread root index object =
    elim (root_in plain.roots thread root) as (λ reference. option_and_then (λ name. position (λ (row : Row). same_name name row.name) plain.rows) reference ≡ Some index
    → graph_of (record plain { rows = set plain.rows index (record { name = (get_or plain.rows index nobody).name; refs = object.refs; nums = object.nums }) }) ≡ with_named (graph_of plain) reference object) [
      | None ↦ λ no_name. cc
      | Some name ↦ λ found. λ i. record {
        object = fun_ext (object_in (set plain.rows index (record { name = (get_or plain.rows index nobody).name; refs = object.refs; nums = object.nums }))) (λ asked_name. if same_name asked_name name then Some object else object_in plain.rows asked_name)
            (λ asked_name. object_in-set plain.rows name index object asked_name (IsFirst-position plain.rows name index found)) i;
        root = root_in plain.roots;
        count = slice_index plain.counts;
        pin = pin_in plain.pins;
      }
    ]

-- an object more
pub graph_of-with_fresh : (plain : Plain) (thread refs nums : ℕ) → thread < length plain.counts
    → graph_of (record { rows = record { name = record { thread = thread; count = slice_index plain.counts thread + 1 }; refs = replicate refs None; nums = replicate nums 0 } ∷ plain.rows; roots = plain.roots; counts = set plain.counts thread (slice_index plain.counts thread + 1); pins = plain.pins })
    ≡ with_fresh (graph_of plain) thread (blank refs nums)
unfolding graph_of
graph_of-with_fresh plain thread refs nums within =
    λ i. record {
      object = (with_fresh (graph_of plain) thread (blank refs nums)).object;
      root = root_in plain.roots;
      count = fun_ext (slice_index (set plain.counts thread (slice_index plain.counts thread + 1))) (λ any_thread. if any_thread == thread then slice_index plain.counts any_thread + 1 else slice_index plain.counts any_thread) (λ any_thread. at any_thread) i;
      pin = pin_in plain.pins;
    }
  where
    at : (asked_thread : ℕ) → slice_index (set plain.counts thread (slice_index plain.counts thread + 1)) asked_thread ≡ (if asked_thread == thread then slice_index plain.counts asked_thread + 1 else slice_index plain.counts asked_thread)
    at asked_thread = get_or-set plain.counts thread asked_thread (slice_index plain.counts thread + 1) 0 within ∙ (elim (eqb_tells asked_thread thread) [ inl thread_test ↦ rw (thread_test.0, thread_test.1) refl | inr thread_test ↦ rw thread_test.0 refl ])

pub field_at-graph_of : (plain : Plain) (thread root field : ℕ) → field_at (graph_of plain) thread root field ≡ slice_get (object_at plain (place_of plain thread root)).refs field
field_at-graph_of plain thread root field = ap (λ (object : Object). slice_get object.refs field) (named-graph_of plain thread root)

pub number_at-graph_of : (plain : Plain) (thread root index : ℕ) → number_at (graph_of plain) thread root index ≡ slice_get (object_at plain (place_of plain thread root)).nums index
number_at-graph_of plain thread root index = ap (λ (object : Object). slice_get object.nums index) (named-graph_of plain thread root)

pub place_of-within : (plain : Plain) (thread root index : ℕ) → Some index ≡ place_of plain thread root → index < length plain.rows
place_of-within plain thread root index =
    elim (root_in plain.roots thread root) as (λ reference. Some index ≡ option_and_then (λ name. position (λ (row : Row). same_name name row.name) plain.rows) reference → index < length plain.rows) [
      | None ↦ λ no_name. cc
      | Some name ↦ λ found. (IsFirst-position plain.rows name index (sym found)).within
    ]

within_some : {A : Type 0} (xs : List A) (index : ℕ) → IsSome (slice_get xs index) → index < length xs
within_some {A} xs index some =
    by_cases (slice_get xs index) refl some
  where
    by_cases : (found : Option A) → slice_get xs index ≡ found → IsSome found → index < length xs
    by_cases None element_found some_element = absurd (false≢true some_element)
    by_cases (Some x) element_found some_element = slice_get_within xs index x element_found

-- a field that is there is one of the row
pub field_at-within : (plain : Plain) (thread root field row_index : ℕ) → Some row_index ≡ place_of plain thread root → IsSome (field_at (graph_of plain) thread root field) → field < length (get_or plain.rows row_index nobody).refs
field_at-within plain thread root field row_index place some_field =
    within_some (get_or plain.rows row_index nobody).refs field (rw (field_at-graph_of, ← place) at some_field)

pub field_at-nowhere : (plain : Plain) (thread root field : ℕ) → None ≡ place_of plain thread root → IsSome (field_at (graph_of plain) thread root field) → ⊥
field_at-nowhere plain thread root field place some_field = false≢true (rw (field_at-graph_of, ← place) at some_field)

pub number_at-within : (plain : Plain) (thread root index row_index : ℕ) → Some row_index ≡ place_of plain thread root → IsSome (number_at (graph_of plain) thread root index) → index < length (get_or plain.rows row_index nobody).nums
number_at-within plain thread root index row_index place some_number =
    within_some (get_or plain.rows row_index nobody).nums index (rw (number_at-graph_of, ← place) at some_number)

pub number_at-nowhere : (plain : Plain) (thread root index : ℕ) → None ≡ place_of plain thread root → IsSome (number_at (graph_of plain) thread root index) → ⊥
number_at-nowhere plain thread root index place some_number = false≢true (rw (number_at-graph_of, ← place) at some_number)

-- one reference, or one number, of the object that a root names is another
pub graph_of-with_field : (plain : Plain) (thread root field index : ℕ) (value : Reference) → Some index ≡ place_of plain thread root
    → graph_of (record plain { rows = set plain.rows index (record (get_or plain.rows index nobody) { refs = set (get_or plain.rows index nobody).refs field value }) }) ≡ with_field (graph_of plain) thread root field value
graph_of-with_field plain thread root field index value place =
    let changed_object : Object = record { refs = set (get_or plain.rows index nobody).refs field value; nums = (get_or plain.rows index nobody).nums } in
    let root_object = named-graph_of plain thread root ∙ ap (object_at plain) (sym place) in
    graph_of-with_object plain thread root index changed_object (sym place)
    ∙ ap (λ (object : Object). with_named (graph_of plain) ((graph_of plain).root thread root) (record { refs = set object.refs field value; nums = object.nums })) (sym root_object)

pub graph_of-with_number : (plain : Plain) (thread root index row_index value : ℕ) → Some row_index ≡ place_of plain thread root
    → graph_of (record plain { rows = set plain.rows row_index (record (get_or plain.rows row_index nobody) { nums = set (get_or plain.rows row_index nobody).nums index value }) }) ≡ with_number (graph_of plain) thread root index value
graph_of-with_number plain thread root index row_index value place =
    let changed_object : Object = record { refs = (get_or plain.rows row_index nobody).refs; nums = set (get_or plain.rows row_index nobody).nums index value } in
    let root_object = named-graph_of plain thread root ∙ ap (object_at plain) (sym place) in
    graph_of-with_object plain thread root row_index changed_object (sym place)
    ∙ ap (λ (object : Object). with_named (graph_of plain) ((graph_of plain).root thread root) (record { refs = object.refs; nums = set object.nums index value })) (sym root_object)

-- how the threads begin

null_at : {A : Type 0} (n index : ℕ) (a : A) → get_or (replicate n a) index a ≡ a
null_at n index a =
    elim (cases_lt index n) [ inl within ↦ get_or-replicate n index a a within | inr index_past ↦ get_or_past (replicate n a) index a (omega (arith, length-replicate n a)) ]

-- the roots of a thread that begins
abbrev pub first_roots : List Reference
first_roots = Some hub ∷ replicate 15 None

-- four empty pin slots
abbrev pub no_pins : List (Option Pinned)
no_pins = replicate 4 None

pub graph_of-opening : (threads : ℕ) →
    graph_of (record { rows = record { name = hub; refs = replicate 16 None; nums = [] } ∷ []; roots = replicate 16 None ∷ replicate threads first_roots; counts = replicate (threads + 1) 0; pins = replicate (threads + 1) no_pins }) ≡ opening threads
unfolding graph_of
graph_of-opening threads =
    λ i. record {
      object = (opening threads).object;
      root = fun_ext (root_in (replicate 16 None ∷ replicate threads first_roots)) (opening threads).root (λ thread. fun_ext (root_in (replicate 16 None ∷ replicate threads first_roots) thread) ((opening threads).root thread) (λ index. at thread index)) i;
      count = fun_ext (slice_index (replicate (threads + 1) 0)) (λ _. 0) (λ index. null_at (threads + 1) index 0) i;
      pin = fun_ext (pin_in (replicate (threads + 1) no_pins)) (opening threads).pin (λ thread. fun_ext (pin_in (replicate (threads + 1) no_pins) thread) ((opening threads).pin thread) (λ any_slot. empty_at thread any_slot)) i;
    }
  where
    empty_at : (thread slot : ℕ) → pin_in (replicate (threads + 1) no_pins) thread slot ≡ None
    empty_at thread slot =
        elim (cases_lt thread (threads + 1)) [
          | inl within ↦ rw (get_or-replicate (threads + 1) thread no_pins [] within) (null_at 4 slot None)
          | inr thread_past ↦ rw (get_or_past (replicate (threads + 1) no_pins) thread [] (omega (arith, length-replicate (threads + 1) no_pins))) refl
        ]

    of_first : (index : ℕ) → get_or first_roots index None ≡ (if index == 0 then Some hub else None)
    of_first zero = refl
    of_first (suc index) = rw (ne_eqb (suc index) 0 (λ (impossible : suc index ≡ 0). omega arith)) (null_at 15 index None)

    at : (thread index : ℕ) → root_in (replicate 16 None ∷ replicate threads first_roots) thread index ≡ (if nat_le 1 thread && nat_le thread threads && (index == 0) then Some hub else None)
    at zero index = null_at 16 index None
    at (suc thread) index =
        rw (le-leb 1 (suc thread) (omega arith))
        (elim (cases_lt thread threads) [
          | inl within ↦ rw (get_or-replicate threads thread first_roots [] within, le-leb (suc thread) threads within) (of_first index)
          | inr thread_past ↦ rw (get_or_past (replicate threads first_roots) thread [] (omega (arith, length-replicate threads first_roots)), lt-leb (suc thread) threads (omega arith)) refl
        ])
