-- What changes of one thread's part keep.
use Rattle.std.proofs.Common.{ℕ, ◌≡◌, ◌+◌, ◌<◌, ◌≤◌, Bool, true, false, List, [], length, get_or, set, eqb, replicate, Some, None, refl, ap, ◌∙◌, sym, subst, inl, inr, arith, get_or-set_same, get_or-set_other, length-set}
use Rattle.std.specs.Prelude.{◌≢◌, ◌==◌, ◌&&◌, if◌then◌else◌, unwrap_or}
use Rattle.std.proofs.lemmas.Bool.{cases_lt, ne_eqb}
use Rattle.std.proofs.lemmas.Bool.Decides.{eqb_tells}
use Rattle.std.proofs.lemmas.List.{get_or_past, get_or-replicate, length-replicate}
use Rattle.shen_graph.proofs.Numbers.{eqb_itself}
use Rattle.shen_graph.specs.declared.name.Name.{Name}
use Rattle.shen_graph.specs.Graph.{Graph, Object, Reference, named, hub, same_name, with_root, with_object, with_named, with_fresh, blank}
use Rattle.shen_graph.specs.Reach.{size}
use Rattle.shen_graph.proofs.PlainLemmas.{same_name-true}
use Rattle.churn.specs.Script.{own_box}
use Rattle.churn.proofs.Belongings.{IsThread, own, fields_of, field_of, IsBox, IsLeaf, IsLink, Same, Tidy, Fits, Same-itself, Same-join, name_of, named_same}

-- Two graphs go on from two that are the same to a thread, by a change of what belongs to it.
pub record Moved (thread : ℕ) (graph other_graph g_then h_then : Graph) : Type 0 where
  pub same : Same thread g_then h_then
  pub tidy : Tidy g_then
  pub other : Tidy h_then
  pub frame : (u : ℕ) → IsThread u → u ≢ thread → Same u graph g_then
  pub beside : (u : ℕ) → IsThread u → u ≢ thread → Same u other_graph h_then
  pub grows : graph.count thread ≤ g_then.count thread

pub stays : (thread : ℕ) (graph next_graph : Graph) → Tidy graph → Tidy next_graph → Same thread graph next_graph → Moved thread graph next_graph graph next_graph
stays thread graph next_graph tidy next_tidy same_part = record { same = same_part; tidy = tidy; other = next_tidy; frame = λ thread _ _. Same-itself thread graph; beside = λ thread _ _. Same-itself thread next_graph; grows = omega arith }

-- a root that was set, and one that was not
pub root_case : (P : Reference → Type 0) (thread set_thread index set_index : ℕ) (reference old_reference : Reference) → (thread ≡ set_thread → index ≡ set_index → P reference) → P old_reference → P (if (thread == set_thread) && (index == set_index) then reference else old_reference)
root_case P thread set_thread index set_index reference old_reference of_new of_old =
    elim (eqb_tells thread set_thread) [
      | inl thread_test ↦ elim (eqb_tells index set_index) [ inl index_test ↦ rw (thread_test.0, index_test.0) (of_new thread_test.1 index_test.1) | inr index_test ↦ rw (thread_test.0, index_test.0) of_old ]
      | inr thread_test ↦ rw thread_test.0 of_old
    ]

with_root-tidy : (graph : Graph) (set_thread set_index : ℕ) (reference : Reference) → Tidy graph → IsThread set_thread → 1 ≤ set_index → set_index < 5 → (set_index ≡ 1 → IsBox set_thread reference) → (2 ≤ set_index → IsLeaf set_thread reference) → Tidy (with_root graph set_thread set_index reference)
with_root-tidy graph set_thread set_index reference tidy thread some_index index_below box leaf = record {
  hub_is = tidy.hub_is;
  hub_size = tidy.hub_size;
  hub_nums = tidy.hub_nums;
  links = tidy.links;
  threads = λ thread is_thread. record {
    hub_root = root_case (λ x. x ≡ Some hub) thread set_thread 0 set_index reference (graph.root thread 0) (λ _ wrong_root. absurd (omega arith)) (tidy.threads thread is_thread).hub_root;
    box_root = root_case (IsBox thread) thread set_thread 1 set_index reference (graph.root thread own_box) (λ same_thread same_index. subst (λ (owner : ℕ). IsBox owner reference) (sym same_thread) (box (sym same_index))) (tidy.threads thread is_thread).box_root;
    leaf_root = λ index index_above. root_case (IsLeaf thread) thread set_thread index set_index reference (graph.root thread index) (λ same_thread same_index. subst (λ (owner : ℕ). IsLeaf owner reference) (sym same_thread) (leaf (omega arith))) ((tidy.threads thread is_thread).leaf_root index index_above);
    slots = (tidy.threads thread is_thread).slots;
    slot_count = (tidy.threads thread is_thread).slot_count;
    leaves = (tidy.threads thread is_thread).leaves;
    small = (tidy.threads thread is_thread).small;
  };
  high_root = λ thread index index_above. root_case (λ x. x ≡ None) thread set_thread index set_index reference (graph.root thread index) (λ same_thread same_index. absurd (omega arith)) (tidy.high_root thread index index_above);
  no_root = λ other_thread index no_thread. root_case (λ x. x ≡ None) other_thread set_thread index set_index reference (graph.root other_thread index) (λ same_thread same_index. absurd (no_thread (subst IsThread (sym same_thread) thread))) (tidy.no_root other_thread index no_thread);
  no_count = tidy.no_count;
  no_object = tidy.no_object;
  no_pin = tidy.no_pin;
}

with_root-same : (graph other_graph : Graph) (thread set_index : ℕ) (reference : Reference) → Same thread graph other_graph → Same thread (with_root graph thread set_index reference) (with_root other_graph thread set_index reference)
with_root-same graph other_graph thread set_index reference same_part = record {
  root = λ index. ap (λ (old_reference : Reference). if (thread == thread) && (index == set_index) then reference else old_reference) (same_part.root index);
  count = same_part.count;
  object = same_part.object;
  link = same_part.link;
}

with_root-frame : (graph : Graph) (set_thread set_index thread : ℕ) (reference : Reference) → thread ≢ set_thread → Same thread graph (with_root graph set_thread set_index reference)
with_root-frame graph set_thread set_index thread reference threads_apart = record {
  root = λ index. root_case (λ x. graph.root thread index ≡ x) thread set_thread index set_index reference (graph.root thread index) (λ same_thread same_index. absurd (threads_apart same_thread)) refl;
  count = refl;
  object = λ name. refl;
  link = refl;
}

pub moved_root : (thread : ℕ) (graph next_graph g_then h_then : Graph) (set_index : ℕ) (reference other_reference : Reference) → IsThread thread → Moved thread graph next_graph g_then h_then → reference ≡ other_reference → 1 ≤ set_index → set_index < 5 → (set_index ≡ 1 → IsBox thread reference) → (2 ≤ set_index → IsLeaf thread reference)
    → Moved thread graph next_graph (with_root g_then thread set_index reference) (with_root h_then thread set_index other_reference)
moved_root thread_number graph next_graph g_then h_then set_index reference other_reference thread moved same_reference some_index index_below box leaf =
    subst (λ (other_reference : Reference). Moved thread_number graph next_graph (with_root g_then thread_number set_index reference) (with_root h_then thread_number set_index other_reference)) same_reference (record {
      same = with_root-same g_then h_then thread_number set_index reference moved.same;
      tidy = with_root-tidy g_then thread_number set_index reference moved.tidy thread some_index index_below box leaf;
      other = with_root-tidy h_then thread_number set_index reference moved.other thread some_index index_below box leaf;
      frame = λ thread is_thread threads_apart. Same-join (moved.frame thread is_thread threads_apart) (with_root-frame g_then thread_number set_index thread reference threads_apart);
      beside = λ thread is_thread threads_apart. Same-join (moved.beside thread is_thread threads_apart) (with_root-frame h_then thread_number set_index thread reference threads_apart);
      grows = moved.grows;
    })

-- an object that is another, and one that is not
pub object_case : (P : Object → Type 0) (graph : Graph) (name set_name : Name) (object : Object) → (name ≡ set_name → P object) → P (named graph (Some name)) → P (named (with_object graph set_name object) (Some name))
object_case P graph name set_name object of_new of_old =
    at (same_name name set_name) refl
  where
    at : (holds : Bool) → same_name name set_name ≡ holds → P (unwrap_or (if same_name name set_name then Some object else graph.object name) (record { refs = []; nums = [] }))
    at true name_test = rw name_test (of_new (same_name-true name set_name name_test))
    at false name_test = rw name_test of_old

named_other : (graph : Graph) (name set_name : Name) (object : Object) → same_name name set_name ≡ false → named (with_object graph set_name object) (Some name) ≡ named graph (Some name)
named_other graph name set_name object names_differ = rw names_differ refl

field_other : (graph : Graph) (name set_name : Name) (object : Object) (field : ℕ) → same_name name set_name ≡ false → field_of (with_object graph set_name object) name field ≡ field_of graph name field
field_other graph name set_name object field names_differ = ap (λ (object : Object). get_or object.refs field None) (named_other graph name set_name object names_differ)

-- a thread's objects are not the hub, nor those of another
not_hub : (thread count : ℕ) → IsThread thread → same_name hub (own thread count) ≡ false
not_hub thread count is_thread = rw (ne_eqb 0 thread (λ (zero_thread : 0 ≡ thread). omega (arith, is_thread.0))) refl

pub not_hub_too : (thread count : ℕ) → IsThread thread → same_name (own thread count) hub ≡ false
not_hub_too thread count is_thread = rw (ne_eqb thread 0 (λ (zero_thread : thread ≡ 0). omega (arith, is_thread.0))) refl

not_another : (other_thread other_count thread count : ℕ) → other_thread ≢ thread → same_name (own other_thread other_count) (own thread count) ≡ false
not_another other_thread other_count thread count threads_apart = rw (ne_eqb other_thread thread threads_apart) refl

own_object-tidy : (graph : Graph) (thread_number set_count : ℕ) (object : Object) → Tidy graph → IsThread thread_number → Fits thread_number set_count object → Tidy (with_object graph (own thread_number set_count) object)
own_object-tidy graph thread_number set_count object tidy known_thread fits =
    let names_equal = not_hub thread_number set_count known_thread in
    record {
      hub_is = rw names_equal tidy.hub_is;
      hub_size = subst (λ (object : Object). length object.refs ≡ 16) (sym (named_other graph hub (own thread_number set_count) object names_equal)) tidy.hub_size;
      hub_nums = subst (λ (object : Object). object.nums ≡ []) (sym (named_other graph hub (own thread_number set_count) object names_equal)) tidy.hub_nums;
      links = λ f. subst (IsLink f) (sym (field_other graph hub (own thread_number set_count) object f names_equal)) (tidy.links f);
      threads = λ other_thread is_thread. record {
        hub_root = (tidy.threads other_thread is_thread).hub_root;
        box_root = (tidy.threads other_thread is_thread).box_root;
        leaf_root = (tidy.threads other_thread is_thread).leaf_root;
        slots = λ f. object_case (λ some_object. IsLeaf other_thread (get_or some_object.refs f None)) graph (own other_thread 1) (own thread_number set_count) object
            (λ names_equal. subst (λ (number : ℕ). IsLeaf number (get_or object.refs f None)) (sym (ap (λ name. name.thread) names_equal)) (fits.box (sym (ap (λ name. name.count) names_equal)) f)) ((tidy.threads other_thread is_thread).slots f);
        slot_count = object_case (λ some_object. length some_object.refs ≤ 16) graph (own other_thread 1) (own thread_number set_count) object (λ names_equal. fits.box_size (sym (ap (λ name. name.count) names_equal))) (tidy.threads other_thread is_thread).slot_count;
        leaves = λ number f count_above. object_case (λ some_object. get_or some_object.refs f None ≡ None) graph (own other_thread number) (own thread_number set_count) object
            (λ names_equal. let same_count : number ≡ set_count = ap (λ name. name.count) names_equal in fits.leaf (omega arith) f) ((tidy.threads other_thread is_thread).leaves number f count_above);
        small = λ number. object_case (λ some_object. size some_object ≤ 19) graph (own other_thread number) (own thread_number set_count) object (λ names_equal. fits.small) ((tidy.threads other_thread is_thread).small number);
      };
      high_root = tidy.high_root;
      no_root = tidy.no_root;
      no_count = tidy.no_count;
      no_object = λ name no_thread hub_apart. object_none name no_thread hub_apart;
      no_pin = tidy.no_pin;
    }
  where
    object_none : (name : Name) → (IsThread name.thread → ⊥) → same_name name hub ≡ false → (if same_name name (own thread_number set_count) then Some object else graph.object name) ≡ None
    object_none name no_thread hub_apart =
        let other_owner : name.thread ≢ thread_number = λ same_owner. no_thread (subst IsThread (sym same_owner) known_thread) in
        rw (not_another name.thread name.count thread_number set_count other_owner) (tidy.no_object name no_thread hub_apart)

own_object-same : (graph other_graph : Graph) (thread set_count : ℕ) (object : Object) → IsThread thread → Same thread graph other_graph → Same thread (with_object graph (own thread set_count) object) (with_object other_graph (own thread set_count) object)
own_object-same graph other_graph thread_number set_count object thread same_part = record {
  root = same_part.root;
  count = same_part.count;
  object = λ name. ap (λ other_found. if same_name (own thread_number name) (own thread_number set_count) then Some object else other_found) (same_part.object name);
  link = field_other graph hub (own thread_number set_count) object thread_number (not_hub thread_number set_count thread) ∙ same_part.link ∙ sym (field_other other_graph hub (own thread_number set_count) object thread_number (not_hub thread_number set_count thread));
}

own_object-frame : (graph : Graph) (set_thread set_count thread : ℕ) (object : Object) → IsThread set_thread → thread ≢ set_thread → Same thread graph (with_object graph (own set_thread set_count) object)
own_object-frame graph set_thread set_count other_thread object thread threads_apart = record {
  root = λ root_number. refl;
  count = refl;
  object = λ number. rw (not_another other_thread number set_thread set_count threads_apart) refl;
  link = sym (field_other graph hub (own set_thread set_count) object other_thread (not_hub set_thread set_count thread));
}

pub moved_own : (thread : ℕ) (graph next_graph : Graph) (set_count : ℕ) (object other_object : Object) → IsThread thread → Tidy graph → Tidy next_graph → Same thread graph next_graph → object ≡ other_object → Fits thread set_count object
    → Moved thread graph next_graph (with_object graph (own thread set_count) object) (with_object next_graph (own thread set_count) other_object)
moved_own thread_number graph next_graph set_count object other_object thread tidy next_tidy same_part same_object fits =
    subst (λ (other_object : Object). Moved thread_number graph next_graph (with_object graph (own thread_number set_count) object) (with_object next_graph (own thread_number set_count) other_object)) same_object (record {
      same = own_object-same graph next_graph thread_number set_count object thread same_part;
      tidy = own_object-tidy graph thread_number set_count object tidy thread fits;
      other = own_object-tidy next_graph thread_number set_count object next_tidy thread fits;
      frame = λ other_thread _ threads_apart. own_object-frame graph thread_number set_count other_thread object thread threads_apart;
      beside = λ other_thread _ threads_apart. own_object-frame next_graph thread_number set_count other_thread object thread threads_apart;
      grows = omega arith;
    })

-- an object more
with_fresh-tidy : (graph : Graph) (thread : ℕ) (object : Object) → Tidy graph → IsThread thread → Fits thread (graph.count thread + 1) object → Tidy (with_fresh graph thread object)
with_fresh-tidy graph thread_number object tidy thread fits =
    let tidy_after = own_object-tidy graph thread_number (graph.count thread_number + 1) object tidy thread fits in
    record {
      hub_is = tidy_after.hub_is;
      hub_size = tidy_after.hub_size;
      hub_nums = tidy_after.hub_nums;
      links = tidy_after.links;
      threads = λ any_thread is_thread. record {
        hub_root = (tidy_after.threads any_thread is_thread).hub_root;
        box_root = (tidy_after.threads any_thread is_thread).box_root;
        leaf_root = (tidy_after.threads any_thread is_thread).leaf_root;
        slots = (tidy_after.threads any_thread is_thread).slots;
        slot_count = (tidy_after.threads any_thread is_thread).slot_count;
        leaves = (tidy_after.threads any_thread is_thread).leaves;
        small = (tidy_after.threads any_thread is_thread).small;
      };
      high_root = tidy_after.high_root;
      no_root = tidy_after.no_root;
      no_count = λ thread no_thread. rw (eqb_other thread no_thread) (tidy.no_count thread no_thread);
      no_object = tidy_after.no_object;
      no_pin = tidy_after.no_pin;
    }
  where
    eqb_other : (other_thread : ℕ) → (IsThread other_thread → ⊥) → eqb other_thread thread_number ≡ false
    eqb_other other_thread no_thread = elim (eqb_tells other_thread thread_number) [ inl thread_test ↦ absurd (no_thread (subst IsThread (sym thread_test.1) thread)) | inr thread_test ↦ thread_test.0 ]

fresh-frame : (graph : Graph) (thread other_thread : ℕ) (object : Object) → IsThread thread → other_thread ≢ thread → Same other_thread graph (with_fresh graph thread object)
fresh-frame graph thread_number second_thread object thread threads_apart =
    let frame = own_object-frame graph thread_number (graph.count thread_number + 1) second_thread object thread threads_apart in
    record { root = frame.root; count = rw (ne_eqb second_thread thread_number threads_apart) refl; object = frame.object; link = frame.link }

pub moved_fresh : (thread : ℕ) (graph next_graph : Graph) (object : Object) → IsThread thread → Tidy graph → Tidy next_graph → Same thread graph next_graph → Fits thread (graph.count thread + 1) object
    → Moved thread graph next_graph (with_fresh graph thread object) (with_fresh next_graph thread object)
moved_fresh thread_number graph next_graph object thread tidy next_tidy same_part fits =
    let fits_there : Fits thread_number (next_graph.count thread_number + 1) object = subst (λ (made_count : ℕ). Fits thread_number (made_count + 1) object) same_part.count fits in
    let objects_same = own_object-same graph next_graph thread_number (graph.count thread_number + 1) object thread same_part in
    record {
      same = record {
        root = same_part.root;
        count = ap (λ made_count. if thread_number == thread_number then made_count + 1 else made_count) same_part.count;
        object = subst (λ (made_count : ℕ). (count : ℕ) → (with_object graph (own thread_number (graph.count thread_number + 1)) object).object (own thread_number count) ≡ (with_object next_graph (own thread_number (made_count + 1)) object).object (own thread_number count)) same_part.count objects_same.object;
        link = subst (λ (made_count : ℕ). field_of (with_object graph (own thread_number (graph.count thread_number + 1)) object) hub thread_number ≡ field_of (with_object next_graph (own thread_number (made_count + 1)) object) hub thread_number) same_part.count objects_same.link;
      };
      tidy = with_fresh-tidy graph thread_number object tidy thread fits;
      other = with_fresh-tidy next_graph thread_number object next_tidy thread fits_there;
      frame = λ other_thread is_thread threads_apart. fresh-frame graph thread_number other_thread object thread threads_apart;
      beside = λ other_thread is_thread threads_apart. fresh-frame next_graph thread_number other_thread object thread threads_apart;
      grows = rw (eqb_itself thread_number) (omega arith);
    }

-- a field of the hub

abbrev pub hub_with : Graph → ℕ → Reference → Object
hub_with graph thread reference = record { refs = set (fields_of graph hub) thread reference; nums = (named graph (Some hub)).nums }

-- of the fields of an object one is another
pub field_case : (P : ℕ → Reference → Type 0) (references : List Reference) (set_index : ℕ) (reference : Reference) → ((index : ℕ) → P index (get_or references index None)) → P set_index reference → (index : ℕ) → P index (get_or (set references set_index reference) index None)
field_case P references set_index reference before of_new index =
    elim (eqb_tells index set_index) [
      | inl index_test ↦ elim (cases_lt set_index (length references)) [
        | inl within ↦ subst (λ (index : ℕ). P index (get_or (set references set_index reference) index None)) (sym index_test.1) (rw (get_or-set_same references set_index reference None within) of_new)
        | inr index_past ↦
            let short_list : length (set references set_index reference) ≤ index = omega (arith, length-set references set_index reference, index_test.1) in
            let same_field : get_or (set references set_index reference) index None ≡ get_or references index None = get_or_past (set references set_index reference) index None short_list ∙ sym (get_or_past references index None (omega (arith, index_test.1))) in
            rw same_field (before index)
      ]
      | inr index_test ↦ rw (get_or-set_other references set_index index reference None index_test.1) (before index)
    ]

hub-tidy : (graph : Graph) (thread_number : ℕ) (reference : Reference) → Tidy graph → IsThread thread_number → IsBox thread_number reference → Tidy (with_object graph hub (hub_with graph thread_number reference))
hub-tidy graph thread_number reference tidy known_thread box = record {
  hub_is = refl;
  hub_size = length-set (fields_of graph hub) thread_number reference ∙ tidy.hub_size;
  hub_nums = tidy.hub_nums;
  links = field_case IsLink (fields_of graph hub) thread_number reference tidy.links (link reference box);
  threads = λ other_thread is_thread. record {
    hub_root = (tidy.threads other_thread is_thread).hub_root;
    box_root = (tidy.threads other_thread is_thread).box_root;
    leaf_root = (tidy.threads other_thread is_thread).leaf_root;
    slots = λ f. subst (IsLeaf other_thread) (sym (field_other graph (own other_thread 1) hub (hub_with graph thread_number reference) f (not_hub_too other_thread 1 is_thread))) ((tidy.threads other_thread is_thread).slots f);
    slot_count = subst (λ (object : Object). length object.refs ≤ 16) (sym (named_other graph (own other_thread 1) hub (hub_with graph thread_number reference) (not_hub_too other_thread 1 is_thread))) (tidy.threads other_thread is_thread).slot_count;
    leaves = λ number f count_above. field_other graph (own other_thread number) hub (hub_with graph thread_number reference) f (not_hub_too other_thread number is_thread) ∙ (tidy.threads other_thread is_thread).leaves number f count_above;
    small = λ number. subst (λ (object : Object). size object ≤ 19) (sym (named_other graph (own other_thread number) hub (hub_with graph thread_number reference) (not_hub_too other_thread number is_thread))) ((tidy.threads other_thread is_thread).small number);
  };
  high_root = tidy.high_root;
  no_root = tidy.no_root;
  no_count = tidy.no_count;
  no_object = λ name no_thread hub_apart. rw hub_apart (tidy.no_object name no_thread hub_apart);
  no_pin = tidy.no_pin;
} where
  link : (reference : Reference) → IsBox thread_number reference → IsLink thread_number reference
  link None box = tt
  link (Some linked_name) box = (box.0, box.1, known_thread)

hub-link : (graph : Graph) (thread_number : ℕ) (reference : Reference) → Tidy graph → IsThread thread_number → field_of (with_object graph hub (hub_with graph thread_number reference)) hub thread_number ≡ reference
hub-link graph thread_number reference tidy is_thread = let size = tidy.hub_size in get_or-set_same (fields_of graph hub) thread_number reference None (omega arith)

hub-frame : (graph : Graph) (set_thread thread : ℕ) (reference : Reference) → IsThread thread → thread ≢ set_thread → Same thread graph (with_object graph hub (hub_with graph set_thread reference))
hub-frame graph set_thread other_thread reference thread threads_apart = record {
  root = λ root_number. refl;
  count = refl;
  object = λ number. rw (not_hub_too other_thread number thread) refl;
  link = sym (get_or-set_other (fields_of graph hub) set_thread other_thread reference None threads_apart);
}

pub moved_hub : (thread : ℕ) (graph next_graph : Graph) (reference other_reference : Reference) → IsThread thread → Tidy graph → Tidy next_graph → Same thread graph next_graph → reference ≡ other_reference → IsBox thread reference
    → Moved thread graph next_graph (with_object graph hub (hub_with graph thread reference)) (with_object next_graph hub (hub_with next_graph thread other_reference))
moved_hub thread_number graph next_graph reference other_reference thread tidy next_tidy same_part given_fact box =
    subst (λ (other_reference : Reference). Moved thread_number graph next_graph (with_object graph hub (hub_with graph thread_number reference)) (with_object next_graph hub (hub_with next_graph thread_number other_reference))) given_fact (record {
      same = record {
        root = same_part.root;
        count = same_part.count;
        object = λ name. rw (not_hub_too thread_number name thread) (same_part.object name);
        link = hub-link graph thread_number reference tidy thread ∙ sym (hub-link next_graph thread_number reference next_tidy thread);
      };
      tidy = hub-tidy graph thread_number reference tidy thread box;
      other = hub-tidy next_graph thread_number reference next_tidy thread box;
      frame = λ thread given_fact threads_apart. hub-frame graph thread_number thread reference given_fact threads_apart;
      beside = λ thread given_fact threads_apart. hub-frame next_graph thread_number thread reference given_fact threads_apart;
      grows = omega arith;
    })

-- a field of the box, and a number of a leaf

abbrev pub with_slot : Object → ℕ → Reference → Object
with_slot object name reference = record { refs = set object.refs name reference; nums = object.nums }

abbrev pub with_value : Object → ℕ → ℕ → Object
with_value object name value = record { refs = object.refs; nums = set object.nums name value }

box-fits : (graph : Graph) (thread_number slot : ℕ) (reference : Reference) → Tidy graph → IsThread thread_number → IsLeaf thread_number reference → Fits thread_number 1 (with_slot (named graph (Some (own thread_number 1))) slot reference)
box-fits graph thread_number slot reference tidy is_thread leaf =
    let small_object = (tidy.threads thread_number is_thread).small 1 in
    let count = (tidy.threads thread_number is_thread).slot_count in
    record {
      box = λ _. field_case (λ _ slot_reference. IsLeaf thread_number slot_reference) (fields_of graph (own thread_number 1)) slot reference (λ f. (tidy.threads thread_number is_thread).slots f) leaf;
      box_size = λ _. omega (arith, length-set (fields_of graph (own thread_number 1)) slot reference);
      leaf = λ count_above. absurd (omega arith);
      small = omega (arith, length-set (fields_of graph (own thread_number 1)) slot reference);
    }

pub moved_box : (thread : ℕ) (graph next_graph : Graph) (reference : Reference) (slot : ℕ) (stored_reference : Reference) → IsThread thread → Tidy graph → Tidy next_graph → Same thread graph next_graph → IsBox thread reference → IsLeaf thread stored_reference
    → Moved thread graph next_graph (with_named graph reference (with_slot (named graph reference) slot stored_reference)) (with_named next_graph reference (with_slot (named next_graph reference) slot stored_reference))
moved_box thread_number graph next_graph None slot reference thread tidy next_tidy same_part box leaf = stays thread_number graph next_graph tidy next_tidy same_part
moved_box thread_number graph next_graph (Some box_name) slot reference thread tidy next_tidy same_part box leaf =
    let same_box = named_same thread_number graph next_graph same_part (Some (own thread_number 1)) refl in
    subst (λ (name : Name). Moved thread_number graph next_graph (with_object graph name (with_slot (named graph (Some name)) slot reference)) (with_object next_graph name (with_slot (named next_graph (Some name)) slot reference)))
    (sym (name_of box_name thread_number 1 box.0 box.1))
    (moved_own thread_number graph next_graph 1 (with_slot (named graph (Some (own thread_number 1))) slot reference) (with_slot (named next_graph (Some (own thread_number 1))) slot reference) thread tidy next_tidy same_part
    (ap (λ some_object. with_slot some_object slot reference) same_box) (box-fits graph thread_number slot reference tidy thread leaf))

leaf-fits : (graph : Graph) (thread_number count index value : ℕ) → Tidy graph → IsThread thread_number → 2 ≤ count → Fits thread_number count (with_value (named graph (Some (own thread_number count))) index value)
leaf-fits graph thread_number count index value tidy is_thread count_above =
    let small_object = (tidy.threads thread_number is_thread).small count in
    record {
      box = λ first_count. absurd (omega arith);
      box_size = λ first_count. absurd (omega arith);
      leaf = λ _ f. (tidy.threads thread_number is_thread).leaves count f count_above;
      small = omega (arith, length-set (named graph (Some (own thread_number count))).nums index value);
    }

pub moved_leaf : (thread : ℕ) (graph next_graph : Graph) (reference : Reference) (index value : ℕ) → IsThread thread → Tidy graph → Tidy next_graph → Same thread graph next_graph → IsLeaf thread reference
    → Moved thread graph next_graph (with_named graph reference (with_value (named graph reference) index value)) (with_named next_graph reference (with_value (named next_graph reference) index value))
moved_leaf thread_number graph next_graph None index value thread tidy next_tidy same_part leaf = stays thread_number graph next_graph tidy next_tidy same_part
moved_leaf thread_number graph next_graph (Some leaf_name) index value thread tidy next_tidy same_part leaf =
    let same_leaf = named_same thread_number graph next_graph same_part (Some (own thread_number leaf_name.count)) refl in
    subst (λ (name : Name). Moved thread_number graph next_graph (with_object graph name (with_value (named graph (Some name)) index value)) (with_object next_graph name (with_value (named next_graph (Some name)) index value)))
    (sym (name_of leaf_name thread_number leaf_name.count leaf.0 refl))
    (moved_own thread_number graph next_graph leaf_name.count (with_value (named graph (Some (own thread_number leaf_name.count))) index value) (with_value (named next_graph (Some (own thread_number leaf_name.count))) index value) thread tidy next_tidy same_part
    (ap (λ some_object. with_value some_object index value) same_leaf) (leaf-fits graph thread_number leaf_name.count index value tidy thread leaf.1))

-- what is new fits

pub none_in : (refs field : ℕ) → get_or {A = Reference} (replicate refs None) field None ≡ None
none_in refs field =
    elim (cases_lt field refs) [
      | inl within ↦ get_or-replicate refs field None None within
      | inr field_past ↦ let nulls : List Reference = replicate refs None in get_or_past nulls field None (omega (arith, length-replicate {A = Reference} refs None))
    ]

pub first-fits : (thread : ℕ) → Fits thread 1 (blank 16 0)
first-fits thread = record {
  box = λ _ f. subst (IsLeaf thread) (sym (none_in 16 f)) tt;
  box_size = λ _. omega arith;
  leaf = λ count_above. absurd (omega arith);
  small = omega arith;
}

pub later-fits : (thread count refs nums : ℕ) → 2 ≤ count → refs + nums ≤ 16 → Fits thread count (blank refs nums)
later-fits thread count refs nums count_above at_most = record {
  box = λ first_count. absurd (omega arith);
  box_size = λ first_count. absurd (omega arith);
  leaf = λ _ f. none_in refs f;
  small = omega (arith, length-replicate {A = Reference} refs None, length-replicate {A = ℕ} nums 0);
}
