-- What a graph leads to does not rest on its counts, nor on rows to which it does not lead.
use Rattle.std.proofs.Common.{ℕ, ◌≡◌, List, [], ◌∷◌, Option, Some, None, refl, sym, subst}
use Rattle.std.specs.Prelude.{slice_get, unwrap_or}
use Rattle.shen_graph.specs.declared.name.Name.{Name}
use Rattle.shen_graph.specs.Graph.{Graph, Object, Reference}
use Rattle.shen_graph.specs.GraphText.{Row}
use Rattle.shen_graph.specs.PlainGraph.{graph_of, object_in}
use Rattle.shen_graph.specs.Reach.{IsReachable, IsReach}
use Rattle.shen_graph.specs.Reach.IsReachable.{from_root, from_pin, from_field}

abbrev pub counted : List Row → List (List Reference) → List ℕ → Graph
counted rows roots counts = graph_of (record { rows = rows; roots = [] ∷ roots; counts = counts; pins = [] })

pub reachable_again : (rows : List Row) (roots : List (List Reference)) (counts other_counts : List ℕ) (name : Name) → IsReachable (counted rows roots counts) name → IsReachable (counted rows roots other_counts) name
unfolding graph_of
reachable_again rows roots counts other_counts _ (from_root thread root name leads) = from_root thread root name leads
reachable_again rows roots counts other_counts _ (from_pin thread slot pin_held leads) = absurd cc
reachable_again rows roots counts other_counts _ (from_field from_name name field from_reachable leads) = from_field from_name name field (reachable_again rows roots counts other_counts from_name from_reachable) leads

pub reach_again : (rows : List Row) (roots : List (List Reference)) (counts other_counts : List ℕ) (names : List Name) → IsReach (counted rows roots counts) names → IsReach (counted rows roots other_counts) names
reach_again rows roots counts other_counts names reach = record {
  in_order = reach.in_order;
  all = λ name led. reach.all name (reachable_again rows roots other_counts counts name led);
  only = λ name name_there. reachable_again rows roots counts other_counts name (reach.only name name_there);
}

abbrev nothing : Object
nothing = record { refs = []; nums = [] }

-- a field of an object that is there in both
same_field : (few full_object : Option Object) → ((object : Object) → few ≡ Some object → full_object ≡ Some object) → (field : ℕ) (reference : Reference) → slice_get (unwrap_or few nothing).refs field ≡ Some reference → slice_get (unwrap_or full_object nothing).refs field ≡ Some reference
same_field None full_object object_kept field reference field_is = absurd cc
same_field (Some object) full_object object_kept field reference field_is = subst (λ (found : Option Object). slice_get (unwrap_or found nothing).refs field ≡ Some reference) (sym (object_kept object refl)) field_is

-- fewer rows lead to no more
pub leads_in_all : (few all_rows : List Row) (roots : List (List Reference)) (counts : List ℕ) → ((name : Name) (object : Object) → object_in few name ≡ Some object → object_in all_rows name ≡ Some object)
    → (name : Name) → IsReachable (counted few roots counts) name → IsReachable (counted all_rows roots counts) name
unfolding graph_of
leads_in_all few all_rows roots counts object_kept _ (from_root thread root name leads) = from_root thread root name leads
leads_in_all few all_rows roots counts object_kept _ (from_pin thread slot pin_held leads) = absurd cc
leads_in_all few all_rows roots counts object_kept _ (from_field from_name name field from_reachable leads) =
    from_field from_name name field (leads_in_all few all_rows roots counts object_kept from_name from_reachable) (same_field (object_in few from_name) (object_in all_rows from_name) (object_kept from_name) field (Some name) leads)

-- and no less, where they have the object of each name to which all lead
pub leads_in_few : (few all_rows : List Row) (roots : List (List Reference)) (counts : List ℕ) → ((name : Name) → IsReachable (counted all_rows roots counts) name → object_in all_rows name ≡ object_in few name)
    → (name : Name) → IsReachable (counted all_rows roots counts) name → IsReachable (counted few roots counts) name
unfolding graph_of
leads_in_few few all_rows roots counts same_objects _ (from_root thread root name leads) = from_root thread root name leads
leads_in_few few all_rows roots counts same_objects _ (from_pin thread slot pin_held leads) = absurd cc
leads_in_few few all_rows roots counts same_objects _ (from_field from_name name field from_reachable leads) =
    from_field from_name name field (leads_in_few few all_rows roots counts same_objects from_name from_reachable) (subst (λ (found : Option Object). slice_get (unwrap_or found nothing).refs field ≡ Some (Some name)) (same_objects from_name from_reachable) leads)
