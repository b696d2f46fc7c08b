-- What a command of the workload answers and changes.
use Rattle.std.proofs.Common.{ℕ, ◌≡◌, ◌+◌, ◌<◌, ◌≤◌, true, false, Option, Some, None, refl, ap, ◌∙◌, sym, subst, arith}
use Rattle.std.specs.Prelude.{if◌then◌else◌, slice_get}
use Rattle.std.proofs.lemmas.Option.{slice_get-get_or, get_or_from_slice_get}
use Rattle.shen_graph.specs.declared.command.Command.{Command}
use Rattle.shen_graph.specs.declared.command.Command.TheVariants.{New, Get, Set, Cas, Xchg, Rd, Wr, Drop}
use Rattle.shen_graph.specs.declared.command.Reply.TheVariants as reply
use Rattle.shen_graph.specs.declared.name.Name.{Name}
use Rattle.shen_graph.specs.Graph.{Graph, Object, Reference, named, hub, same_reference, field_at, number_at, with_root, with_field, with_number, with_named, with_fresh, fresh, blank}
use Rattle.shen_graph.specs.Step.{Outcome, outcome, answers, on, shown}
use Rattle.churn.specs.Script.{shared_hub, own_box, new_leaf, old_leaf, last_leaf}
use Rattle.churn.proofs.Belongings.{IsThread, own, fields_of, field_of, IsOf, IsBox, IsLeaf, Same, Tidy, Fits, box_of, leaf_of, name_of, named_same}
use Rattle.churn.proofs.Moves.{Moved, stays, moved_root, moved_fresh, moved_hub, moved_box, moved_leaf, with_slot, with_value, first-fits, later-fits}

-- the commands of a thread after its first, which makes its box
pub data IsLater (field : ℕ) : Command → Type 0 where
  makes : (refs nums : ℕ) → refs + nums ≤ 16 → IsLater field (New new_leaf refs nums)
  writes : (value : ℕ) → IsLater field (Wr new_leaf 0 value)
  links : IsLater field (Set shared_hub field own_box)
  stores : (k : ℕ) → IsLater field (Set own_box k new_leaf)
  drops : IsLater field (Drop new_leaf)
  loads : (k : ℕ) → IsLater field (Get old_leaf own_box k)
  reads : IsLater field (Rd old_leaf 0)
  swaps : (k : ℕ) → IsLater field (Cas own_box k old_leaf old_leaf)
  exchanges : (k : ℕ) → IsLater field (Xchg last_leaf own_box k old_leaf)

-- In two graphs that are the same to the thread it is answered the same, and goes on the same.
pub record Stepped (thread : ℕ) (graph next_graph : Graph) (a b : Outcome) : Type 0 where
  pub reply : a.reply ≡ b.reply
  pub moved : Moved thread graph next_graph a.graph b.graph

on-step : {A : Type 0} (thread : ℕ) (graph next_graph : Graph) (found other_found : Option A) (answer next_answer : A → Outcome) → Tidy graph → Tidy next_graph → Same thread graph next_graph → found ≡ other_found
    → ((value : A) → found ≡ Some value → Stepped thread graph next_graph (answer value) (next_answer value)) → Stepped thread graph next_graph (on found graph answer) (on other_found next_graph next_answer)
on-step {A} graph next_graph other_found first_found second_found answer next_answer tidy next_tidy same_graphs same_found steps =
    subst (λ (found : Option A). Stepped graph next_graph other_found (on first_found next_graph answer) (on found other_found next_answer)) same_found (at first_found steps)
  where
    at : (option : Option A) → ((value : A) → option ≡ Some value → Stepped graph next_graph other_found (answer value) (next_answer value)) → Stepped graph next_graph other_found (on option next_graph answer) (on option other_found next_answer)
    at None steps = record { reply = refl; moved = stays graph next_graph other_found tidy next_tidy same_graphs }
    at (Some value) steps = steps value refl

-- what a thread's root names is the same
root_named : (thread : ℕ) (graph next_graph : Graph) (index : ℕ) → Same thread graph next_graph → IsOf thread (graph.root thread index) → named graph (graph.root thread index) ≡ named next_graph (next_graph.root thread index)
root_named thread graph next_graph index same_graphs is_of = named_same thread graph next_graph same_graphs (graph.root thread index) is_of ∙ ap (named next_graph) (same_graphs.root index)

field_same : (thread : ℕ) (graph next_graph : Graph) (index field : ℕ) → Same thread graph next_graph → IsOf thread (graph.root thread index) → field_at graph thread index field ≡ field_at next_graph thread index field
field_same thread graph next_graph index field same_graphs is_of = ap (λ (object : Object). slice_get object.refs field) (root_named thread graph next_graph index same_graphs is_of)

number_same : (thread : ℕ) (graph next_graph : Graph) (index position : ℕ) → Same thread graph next_graph → IsOf thread (graph.root thread index) → number_at graph thread index position ≡ number_at next_graph thread index position
number_same thread graph next_graph index position same_graphs is_of = ap (λ (object : Object). slice_get object.nums position) (root_named thread graph next_graph index same_graphs is_of)

-- what the box holds is a leaf
loaded : (thread : ℕ) (graph : Graph) (index : ℕ) (reference : Reference) → Tidy graph → IsThread thread → field_at graph thread own_box index ≡ Some reference → IsLeaf thread reference
loaded thread_number graph index reference tidy thread field_holds = at (graph.root thread_number own_box) (tidy.threads thread_number thread).box_root field_holds
  where
    at : (box_reference : Reference) → IsBox thread_number box_reference → slice_get (named graph box_reference).refs index ≡ Some reference → IsLeaf thread_number reference
    at None box field_holds = cc
    at (Some box_name) box field_holds =
        let slot_holds : slice_get (fields_of graph (own thread_number 1)) index ≡ Some reference = subst (λ (name : Name). slice_get (fields_of graph name) index ≡ Some reference) (name_of box_name thread_number 1 box.0 box.1) field_holds in
        subst (IsLeaf thread_number) (get_or_from_slice_get (fields_of graph (own thread_number 1)) index reference None slot_holds) ((tidy.threads thread_number thread).slots index)

moved_slot : (thread : ℕ) (graph next_graph : Graph) (field index : ℕ) → IsThread thread → Tidy graph → Tidy next_graph → Same thread graph next_graph → 2 ≤ index → Moved thread graph next_graph (with_field graph thread own_box field (graph.root thread index)) (with_field next_graph thread own_box field (next_graph.root thread index))
moved_slot thread_number graph next_graph field index thread tidy next_tidy same_graphs index_above =
    subst (λ (reference : Reference). Moved thread_number graph next_graph (with_field graph thread_number own_box field (graph.root thread_number index)) (with_field next_graph thread_number own_box field reference)) (same_graphs.root index)
    (subst (λ (reference : Reference). Moved thread_number graph next_graph (with_field graph thread_number own_box field (graph.root thread_number index)) (with_named next_graph reference (with_slot (named next_graph reference) field (graph.root thread_number index)))) (same_graphs.root own_box)
    (moved_box thread_number graph next_graph (graph.root thread_number own_box) field (graph.root thread_number index) thread tidy next_tidy same_graphs (tidy.threads thread_number thread).box_root ((tidy.threads thread_number thread).leaf_root index index_above)))

moved_number : (thread : ℕ) (graph next_graph : Graph) (position value : ℕ) → IsThread thread → Tidy graph → Tidy next_graph → Same thread graph next_graph → Moved thread graph next_graph (with_number graph thread 2 position value) (with_number next_graph thread 2 position value)
moved_number thread_number graph next_graph position value thread tidy next_tidy same_graphs =
    subst (λ (reference : Reference). Moved thread_number graph next_graph (with_number graph thread_number 2 position value) (with_named next_graph reference (with_value (named next_graph reference) position value))) (same_graphs.root new_leaf)
    (moved_leaf thread_number graph next_graph (graph.root thread_number new_leaf) position value thread tidy next_tidy same_graphs ((tidy.threads thread_number thread).leaf_root 2 (omega arith)))

moved_link : (thread : ℕ) (graph next_graph : Graph) → IsThread thread → Tidy graph → Tidy next_graph → Same thread graph next_graph → Moved thread graph next_graph (with_field graph thread shared_hub thread (graph.root thread own_box)) (with_field next_graph thread shared_hub thread (next_graph.root thread own_box))
moved_link thread_number graph next_graph thread tidy next_tidy same_graphs =
    subst (λ (reference : Reference). Moved thread_number graph next_graph (with_named graph reference (with_slot (named graph reference) thread_number (graph.root thread_number own_box))) (with_field next_graph thread_number shared_hub thread_number (next_graph.root thread_number own_box))) (sym (tidy.threads thread_number thread).hub_root)
    (subst (λ (reference : Reference). Moved thread_number graph next_graph (with_named graph (Some hub) (with_slot (named graph (Some hub)) thread_number (graph.root thread_number own_box))) (with_named next_graph reference (with_slot (named next_graph reference) thread_number (next_graph.root thread_number own_box)))) (sym (next_tidy.threads thread_number thread).hub_root)
    (moved_hub thread_number graph next_graph (graph.root thread_number own_box) (next_graph.root thread_number own_box) thread tidy next_tidy same_graphs (same_graphs.root own_box) (tidy.threads thread_number thread).box_root))

link_same : (index : ℕ) (graph next_graph : Graph) → IsThread index → Tidy graph → Tidy next_graph → Same index graph next_graph → field_at graph index shared_hub index ≡ field_at next_graph index shared_hub index
link_same index graph next_graph is_thread tidy next_tidy same_graphs =
    at graph tidy ∙ ap Some same_graphs.link ∙ sym (at next_graph next_tidy)
  where
    at : (graph : Graph) → Tidy graph → field_at graph index shared_hub index ≡ Some (field_of graph hub index)
    at graph tidy =
        let size = tidy.hub_size in
        subst (λ (reference : Reference). slice_get (named graph reference).refs index ≡ Some (field_of graph hub index)) (sym (tidy.threads index is_thread).hub_root)
        (slice_get-get_or (fields_of graph hub) index None (omega arith))

moved_new : (thread : ℕ) (graph next_graph : Graph) (dst refs nums : ℕ) → IsThread thread → Tidy graph → Tidy next_graph → Same thread graph next_graph → 1 ≤ dst → dst < 5
    → Fits thread (graph.count thread + 1) (blank refs nums) → (dst ≡ 1 → graph.count thread + 1 ≡ 1) → (2 ≤ dst → 2 ≤ graph.count thread + 1)
    → Stepped thread graph next_graph (outcome graph thread (New dst refs nums)) (outcome next_graph thread (New dst refs nums))
moved_new thread_number graph next_graph dst refs nums thread tidy next_tidy same_graphs root_above root_below fits box leaf =
    let same_name : fresh graph thread_number ≡ fresh next_graph thread_number = ap (λ count. own thread_number (count + 1)) same_graphs.count in
    record {
      reply = ap (λ new_name. reply.Ref new_name) same_name;
      moved = moved_root thread_number graph next_graph (with_fresh graph thread_number (blank refs nums)) (with_fresh next_graph thread_number (blank refs nums)) dst (Some (fresh graph thread_number)) (Some (fresh next_graph thread_number)) thread
          (moved_fresh thread_number graph next_graph (blank refs nums) thread tidy next_tidy same_graphs fits) (ap Some same_name) root_above root_below (λ this_root. (refl, box this_root)) (λ this_root. (refl, leaf this_root));
    }

-- the first command
pub first-step : (thread : ℕ) (graph next_graph : Graph) → IsThread thread → Tidy graph → Tidy next_graph → Same thread graph next_graph → graph.count thread ≡ 0 → Stepped thread graph next_graph (outcome graph thread (New own_box 16 0)) (outcome next_graph thread (New own_box 16 0))
first-step thread_number graph next_graph thread tidy next_tidy same_graphs no_count =
    moved_new thread_number graph next_graph 1 16 0 thread tidy next_tidy same_graphs (omega arith) (omega arith) (subst (λ (count : ℕ). Fits thread_number (count + 1) (blank 16 0)) (sym no_count) (first-fits thread_number))
    (λ _. omega arith) (λ impossible. absurd (omega arith))

-- and each later one
pub later-step : (thread : ℕ) (graph next_graph : Graph) (command : Command) → IsThread thread → Tidy graph → Tidy next_graph → Same thread graph next_graph → 1 ≤ graph.count thread → IsLater thread command → Stepped thread graph next_graph (outcome graph thread command) (outcome next_graph thread command)
later-step thread_number graph next_graph _ thread tidy next_tidy same_graphs some_counted (makes refs nums few_refs) =
    moved_new thread_number graph next_graph 2 refs nums thread tidy next_tidy same_graphs (omega arith) (omega arith) (later-fits thread_number (graph.count thread_number + 1) refs nums (omega arith) few_refs)
    (λ holds. absurd (omega arith)) (λ _. omega arith)
later-step thread_number graph next_graph _ thread tidy next_tidy same_graphs some_counted (writes value) =
    on-step thread_number graph next_graph (number_at graph thread_number 2 0) (number_at next_graph thread_number 2 0) (λ _. answers reply.Ok (with_number graph thread_number 2 0 value)) (λ _. answers reply.Ok (with_number next_graph thread_number 2 0 value)) tidy next_tidy same_graphs
    (number_same thread_number graph next_graph new_leaf 0 same_graphs (leaf_of thread_number (graph.root thread_number new_leaf) ((tidy.threads thread_number thread).leaf_root 2 (omega arith))))
    (λ got holds. record { reply = refl; moved = moved_number thread_number graph next_graph 0 value thread tidy next_tidy same_graphs })
later-step thread_number graph next_graph _ thread tidy next_tidy same_graphs some_counted links =
    on-step thread_number graph next_graph (field_at graph thread_number shared_hub thread_number) (field_at next_graph thread_number shared_hub thread_number) (λ _. answers reply.Ok (with_field graph thread_number shared_hub thread_number (graph.root thread_number own_box))) (λ _. answers reply.Ok (with_field next_graph thread_number shared_hub thread_number (next_graph.root thread_number own_box))) tidy next_tidy same_graphs
    (link_same thread_number graph next_graph thread tidy next_tidy same_graphs)
    (λ got holds. record { reply = refl; moved = moved_link thread_number graph next_graph thread tidy next_tidy same_graphs })
later-step thread_number graph next_graph _ thread tidy next_tidy same_graphs some_counted (stores field) =
    on-step thread_number graph next_graph (field_at graph thread_number own_box field) (field_at next_graph thread_number own_box field) (λ _. answers reply.Ok (with_field graph thread_number own_box field (graph.root thread_number new_leaf))) (λ _. answers reply.Ok (with_field next_graph thread_number own_box field (next_graph.root thread_number new_leaf))) tidy next_tidy same_graphs
    (field_same thread_number graph next_graph own_box field same_graphs (box_of thread_number (graph.root thread_number own_box) (tidy.threads thread_number thread).box_root))
    (λ got holds. record { reply = refl; moved = moved_slot thread_number graph next_graph field new_leaf thread tidy next_tidy same_graphs (omega arith) })
later-step thread_number graph next_graph _ thread tidy next_tidy same_graphs some_counted drops =
    record { reply = refl; moved = moved_root thread_number graph next_graph graph next_graph 2 None None thread (stays thread_number graph next_graph tidy next_tidy same_graphs) refl (omega arith) (omega arith) (λ _. tt) (λ _. tt) }
later-step thread_number graph next_graph _ thread tidy next_tidy same_graphs some_counted (loads index) =
    on-step thread_number graph next_graph (field_at graph thread_number own_box index) (field_at next_graph thread_number own_box index) (λ got. answers (shown got) (with_root graph thread_number old_leaf got)) (λ got. answers (shown got) (with_root next_graph thread_number old_leaf got)) tidy next_tidy same_graphs
    (field_same thread_number graph next_graph own_box index same_graphs (box_of thread_number (graph.root thread_number own_box) (tidy.threads thread_number thread).box_root))
    (λ reference holds. record { reply = refl; moved = moved_root thread_number graph next_graph graph next_graph 3 reference reference thread (stays thread_number graph next_graph tidy next_tidy same_graphs) refl (omega arith) (omega arith) (λ holds_root. absurd (omega arith)) (λ _. loaded thread_number graph index reference tidy thread holds) })
later-step thread_number graph next_graph _ thread tidy next_tidy same_graphs some_counted reads =
    on-step thread_number graph next_graph (number_at graph thread_number 3 0) (number_at next_graph thread_number 3 0) (λ number. answers (reply.Number number) graph) (λ number. answers (reply.Number number) next_graph) tidy next_tidy same_graphs
    (number_same thread_number graph next_graph old_leaf 0 same_graphs (leaf_of thread_number (graph.root thread_number old_leaf) ((tidy.threads thread_number thread).leaf_root 3 (omega arith))))
    (λ got holds. record { reply = refl; moved = stays thread_number graph next_graph tidy next_tidy same_graphs })
later-step thread_number graph next_graph _ thread tidy next_tidy same_graphs some_counted (swaps field) =
    on-step thread_number graph next_graph (field_at graph thread_number own_box field) (field_at next_graph thread_number own_box field)
    (λ got. if same_reference got (graph.root thread_number old_leaf) then answers reply.Yes (with_field graph thread_number own_box field (graph.root thread_number old_leaf)) else answers reply.No graph)
    (λ got. if same_reference got (next_graph.root thread_number old_leaf) then answers reply.Yes (with_field next_graph thread_number own_box field (next_graph.root thread_number old_leaf)) else answers reply.No next_graph) tidy next_tidy same_graphs
    (field_same thread_number graph next_graph own_box field same_graphs (box_of thread_number (graph.root thread_number own_box) (tidy.threads thread_number thread).box_root))
    (λ got holds. subst (λ (reference : Reference). Stepped thread_number graph next_graph (if same_reference got (graph.root thread_number old_leaf) then answers reply.Yes (with_field graph thread_number own_box field (graph.root thread_number old_leaf)) else answers reply.No graph)
    (if same_reference got reference then answers reply.Yes (with_field next_graph thread_number own_box field (next_graph.root thread_number old_leaf)) else answers reply.No next_graph)) (same_graphs.root old_leaf)
    (elim (same_reference got (graph.root thread_number old_leaf)) as (λ same_leaf. Stepped thread_number graph next_graph (if same_leaf then answers reply.Yes (with_field graph thread_number own_box field (graph.root thread_number old_leaf)) else answers reply.No graph)
    (if same_leaf then answers reply.Yes (with_field next_graph thread_number own_box field (next_graph.root thread_number old_leaf)) else answers reply.No next_graph))
    [ true ↦ record { reply = refl; moved = moved_slot thread_number graph next_graph field old_leaf thread tidy next_tidy same_graphs (omega arith) } | false ↦ record { reply = refl; moved = stays thread_number graph next_graph tidy next_tidy same_graphs } ]))
later-step thread_number graph next_graph _ thread tidy next_tidy same_graphs some_counted (exchanges index) =
    on-step thread_number graph next_graph (field_at graph thread_number own_box index) (field_at next_graph thread_number own_box index)
    (λ got. answers (shown got) (with_root (with_field graph thread_number own_box index (graph.root thread_number old_leaf)) thread_number last_leaf got)) (λ got. answers (shown got) (with_root (with_field next_graph thread_number own_box index (next_graph.root thread_number old_leaf)) thread_number last_leaf got)) tidy next_tidy same_graphs
    (field_same thread_number graph next_graph own_box index same_graphs (box_of thread_number (graph.root thread_number own_box) (tidy.threads thread_number thread).box_root))
    (λ reference holds. record {
      reply = refl;
      moved = moved_root thread_number graph next_graph (with_field graph thread_number own_box index (graph.root thread_number old_leaf)) (with_field next_graph thread_number own_box index (next_graph.root thread_number old_leaf)) 4 reference reference thread (moved_slot thread_number graph next_graph index old_leaf thread tidy next_tidy same_graphs (omega arith))
          refl (omega arith) (omega arith) (λ holds_root. absurd (omega arith)) (λ _. loaded thread_number graph index reference tidy thread holds);
    })
