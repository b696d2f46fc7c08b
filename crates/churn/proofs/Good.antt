-- No command of the workload finds a null root, or no such field or number.
use Rattle.std.proofs.Common.{ℕ, ◌≡◌, ◌+◌, ◌%◌, ◌<◌, ◌≤◌, Bool, true, false, List, [], ◌∷◌, ◌++◌, length, get_or, Some, None, refl, ap, ◌∙◌, sym, subst, inl, inr, arith, get_or-set_same, length-set}
use Rattle.std.specs.Prelude.{◌≢◌, slice_get, All}
use Rattle.std.specs.List.{AllByRecursion, flat_map, range_with_len}
use Rattle.std.proofs.lemmas.List.{length-replicate}
use Rattle.std.proofs.lemmas.List.Elements.{All-nil, All-cons}
use Rattle.std.proofs.lemmas.Bool.Decides.{eqb_tells}
use Rattle.std.proofs.lemmas.Option.{slice_get-get_or}
use Rattle.shen_graph.proofs.Numbers.{eqb_itself}
use Rattle.shen_graph.specs.declared.command.Command.{Command}
use Rattle.shen_graph.specs.declared.command.Command.TheVariants.{New, Get, Set, Cas, Xchg, Rd, Wr, Drop}
use Rattle.shen_graph.specs.declared.command.Reply.{Reply}
use Rattle.shen_graph.specs.declared.command.Reply.TheVariants as reply
use Rattle.shen_graph.specs.declared.name.Name.{Name}
use Rattle.shen_graph.specs.Graph.{Graph, Object, Reference, named, hub, same_reference, field_at, number_at, with_root, with_object, with_named, with_fresh, with_field, fresh, blank, opening}
use Rattle.shen_graph.specs.History.{Entry, after_entry, EachIsLegal, of_thread, commands_of}
use Rattle.shen_graph.specs.Step.{Outcome, outcome, answers, shown}
use Rattle.shen_graph.proofs.PlainLemmas.{same_name-itself}
use Rattle.churn.specs.Script.{round, churn_script, shared_hub, own_box, new_leaf, old_leaf, last_leaf}
use Rattle.churn.specs.Laws.{NoneIsBad}
use Rattle.churn.proofs.Belongings.{IsThread, own, fields_of, field_of, Tidy, Same-itself}
use Rattle.churn.proofs.Moves.{root_case, object_case, field_case, with_slot, with_value, hub_with, none_in}
use Rattle.churn.proofs.Commands.{first-step}
use Rattle.churn.proofs.BelowTheHub.{IsGiven, thread_or_not, of_thread-here, of_thread-there, after_given, replied, solo}
use Rattle.churn.proofs.Opening.{begins_none, tidy_opening, going_opening, script_is}
use Rattle.churn.proofs.OneAfterAnother.{AreOf, of_thread-are, given_of, run_given}

-- null, or an object with a number
abbrev pub IsFilled : Graph → Reference → Type 0
IsFilled graph None = Unit {0}
IsFilled graph (Some name) = 1 ≤ length (named graph (Some name)).nums

-- A thread has made its box, and has only objects with numbers besides.
pub record Ready (thread : ℕ) (graph : Graph) : Type 0 where
  pub some : 1 ≤ graph.count thread
  pub box : graph.root thread own_box ≡ Some (own thread 1)
  pub size : length (fields_of graph (own thread 1)) ≡ 16
  pub slots : (f : ℕ) → IsFilled graph (field_of graph (own thread 1) f)
  pub two : IsFilled graph (graph.root thread new_leaf)
  pub three : IsFilled graph (graph.root thread old_leaf)

ready-root : (thread : ℕ) (graph : Graph) (index : ℕ) (reference : Reference) → Ready thread graph → 2 ≤ index → IsFilled graph reference → Ready thread (with_root graph thread index reference)
ready-root thread graph index reference ready index_above filled = record {
  some = ready.some;
  box = root_case (λ x. x ≡ Some (own thread 1)) thread thread own_box index reference (graph.root thread own_box) (λ _ wrong_root. absurd (omega arith)) ready.box;
  size = ready.size;
  slots = ready.slots;
  two = root_case (IsFilled graph) thread thread new_leaf index reference (graph.root thread new_leaf) (λ _ _. filled) ready.two;
  three = root_case (IsFilled graph) thread thread old_leaf index reference (graph.root thread old_leaf) (λ _ _. filled) ready.three;
}

-- an object that may be another
pub record Keeps (t : ℕ) (graph : Graph) (name : Name) (object : Object) : Type 0 where
  pub filled : 1 ≤ length (named graph (Some name)).nums → 1 ≤ length object.nums
  pub size : own t 1 ≡ name → length object.refs ≡ 16
  pub slots : own t 1 ≡ name → (f : ℕ) → IsFilled graph (get_or object.refs f None)

still_filled : (thread : ℕ) (graph : Graph) (name : Name) (object : Object) (reference : Reference) → (1 ≤ length (named graph (Some name)).nums → 1 ≤ length object.nums) → IsFilled graph reference → IsFilled (with_object graph name object) reference
still_filled thread graph name object None keeps_numbers filled = tt
still_filled thread graph name object (Some held_name) keeps_numbers filled =
    object_case (λ x. 1 ≤ length x.nums) graph held_name name object (λ same_name. keeps_numbers (subst (λ (name : Name). 1 ≤ length (named graph (Some name)).nums) same_name filled)) filled

ready-object : (thread : ℕ) (graph : Graph) (name : Name) (object : Object) → Ready thread graph → Keeps thread graph name object → Ready thread (with_object graph name object)
ready-object thread graph name object ready keeps_object = record {
  some = ready.some;
  box = ready.box;
  size = object_case (λ some_object. length some_object.refs ≡ 16) graph (own thread 1) name object keeps_object.size ready.size;
  slots = λ f. object_case (λ some_object. IsFilled (with_object graph name object) (get_or some_object.refs f None)) graph (own thread 1) name object
      (λ same_name. still_filled thread graph name object (get_or object.refs f None) keeps_object.filled (keeps_object.slots same_name f)) (still_filled thread graph name object (field_of graph (own thread 1) f) keeps_object.filled (ready.slots f));
  two = still_filled thread graph name object (graph.root thread new_leaf) keeps_object.filled ready.two;
  three = still_filled thread graph name object (graph.root thread old_leaf) keeps_object.filled ready.three;
}

-- what is done to the box, to a leaf, and to the hub

slot-keeps : (thread : ℕ) (graph : Graph) (field : ℕ) (reference : Reference) → Ready thread graph → IsFilled graph reference → Keeps thread graph (own thread 1) (with_slot (named graph (Some (own thread 1))) field reference)
slot-keeps thread graph field reference ready filled = record {
  filled = λ was_filled. was_filled;
  size = λ _. length-set (fields_of graph (own thread 1)) field reference ∙ ready.size;
  slots = λ _. field_case (λ _ slot_reference. IsFilled graph slot_reference) (fields_of graph (own thread 1)) field reference ready.slots filled;
}

value-keeps : (thread : ℕ) (graph : Graph) (name : Name) (position value : ℕ) → Ready thread graph → Keeps thread graph name (with_value (named graph (Some name)) position value)
value-keeps thread graph name position value ready = record {
  filled = λ had_numbers. omega (arith, length-set (named graph (Some name)).nums position value);
  size = λ box_name. subst (λ (name : Name). length (fields_of graph name) ≡ 16) box_name ready.size;
  slots = λ box_name f. subst (λ (name : Name). IsFilled graph (field_of graph name f)) box_name (ready.slots f);
}

ready-slot : (thread : ℕ) (graph : Graph) (field : ℕ) (reference : Reference) → Ready thread graph → IsFilled graph reference → Ready thread (with_field graph thread own_box field reference)
ready-slot thread graph field reference ready filled = rw ready.box (ready-object thread graph (own thread 1) (with_slot (named graph (Some (own thread 1))) field reference) ready (slot-keeps thread graph field reference ready filled))

-- the box has each of its slots
slot_there : (thread : ℕ) (graph : Graph) (index : ℕ) → Ready thread graph → index < 16 → field_at graph thread own_box index ≡ Some (field_of graph (own thread 1) index)
slot_there thread graph index ready index_within =
    let size = ready.size in
    rw ready.box (slice_get-get_or (fields_of graph (own thread 1)) index None (omega arith))

number_there : (thread : ℕ) (graph : Graph) (index : ℕ) (name : Name) → graph.root thread index ≡ Some name → 1 ≤ length (named graph (Some name)).nums → number_at graph thread index 0 ≡ Some (get_or (named graph (Some name)).nums 0 0)
number_there thread graph index name root_holds filled = rw root_holds (slice_get-get_or (named graph (Some name)).nums 0 0 (omega arith))

-- no reply is Bad, and something holds at the end

pub record Good (t : ℕ) (graph : Graph) (command : Command) (P : Graph → Type 0) : Type 0 where
  pub reply : (outcome graph t command).reply ≢ reply.Bad
  pub left : P (outcome graph t command).graph

by_outcome : (thread : ℕ) (graph : Graph) (command : Command) (P : Graph → Type 0) (answer : Reply) (next_graph : Graph) → outcome graph thread command ≡ answers answer next_graph → answer ≢ reply.Bad → P next_graph → Good thread graph command P
by_outcome thread graph command P answer next_graph same_outcome reply left = record {
  reply = λ bad. reply (sym (ap (λ (result : Outcome). result.reply) same_outcome) ∙ bad);
  left = subst (λ (result : Outcome). P result.graph) (sym same_outcome) left;
}

shown_not : (reference : Reference) → shown reference ≢ reply.Bad
shown_not None = λ null_shown. cc
shown_not (Some name) = λ null_shown. cc

-- with an object in root 2, then in the slot, then in root 3

pub record Made (thread : ℕ) (graph : Graph) : Type 0 where
  pub ready : Ready thread graph
  pub name : Name
  pub root : graph.root thread new_leaf ≡ Some name

pub record Stored (thread k : ℕ) (graph : Graph) : Type 0 where
  pub ready : Ready thread graph
  pub name : Name
  pub slot : field_of graph (own thread 1) k ≡ Some name

pub record Loaded (thread : ℕ) (graph : Graph) : Type 0 where
  pub ready : Ready thread graph
  pub name : Name
  pub root : graph.root thread old_leaf ≡ Some name

set_root_is : (graph : Graph) (thread index : ℕ) (reference : Reference) → (with_root graph thread index reference).root thread index ≡ reference
set_root_is graph thread index reference = rw (eqb_itself thread, eqb_itself index) refl

named_new : (graph : Graph) (name : Name) (object : Object) → named (with_object graph name object) (Some name) ≡ object
named_new graph name object = rw (same_name-itself name) refl

slot_set : (thread : ℕ) (graph : Graph) (index : ℕ) (reference : Reference) → Ready thread graph → index < 16 → field_of (with_field graph thread own_box index reference) (own thread 1) index ≡ reference
slot_set thread graph index reference ready index_within =
    let size = ready.size in
    subst (λ (box_reference : Reference). field_of (with_named graph box_reference (with_slot (named graph box_reference) index reference)) (own thread 1) index ≡ reference) (sym ready.box)
    (ap (λ (object : Object). get_or object.refs index None) (named_new graph (own thread 1) (with_slot (named graph (Some (own thread 1))) index reference)) ∙ get_or-set_same (fields_of graph (own thread 1)) index reference None (omega arith))

ready-fresh : (thread : ℕ) (graph : Graph) (object : Object) → Ready thread graph → 1 ≤ length object.nums → Ready thread (with_fresh graph thread object)
ready-fresh thread graph object ready filled =
    let made_some = ready.some in
    let not_fresh : own thread 1 ≡ fresh graph thread → ⊥ = λ box_fresh. let same_count : 1 ≡ graph.count thread + 1 = ap (λ (name : Name). name.count) box_fresh in omega arith in
    let still_ready = ready-object thread graph (fresh graph thread) object ready (record { filled = λ _. filled; size = λ box_fresh. absurd (not_fresh box_fresh); slots = λ box_fresh. absurd (not_fresh box_fresh) }) in
    record { some = rw (eqb_itself thread) (omega arith); box = still_ready.box; size = still_ready.size; slots = still_ready.slots; two = still_ready.two; three = still_ready.three }

good-new : (thread : ℕ) (graph : Graph) (refs nums : ℕ) → Ready thread graph → 1 ≤ nums → Good thread graph (New new_leaf refs nums) (Made thread)
good-new thread graph refs nums ready some_numbers =
    let fresh_graph = with_fresh graph thread (blank refs nums) in
    let has_number : 1 ≤ length (blank refs nums).nums = omega (arith, length-replicate {A = ℕ} nums 0) in
    let still_ready = ready-fresh thread graph (blank refs nums) ready has_number in
    let filled : IsFilled fresh_graph (Some (fresh graph thread)) = subst (λ (object : Object). 1 ≤ length object.nums) (sym (named_new graph (fresh graph thread) (blank refs nums))) has_number in
    by_outcome thread graph (New new_leaf refs nums) (Made thread) (reply.Ref (fresh graph thread)) (with_root fresh_graph thread new_leaf (Some (fresh graph thread))) refl (λ bad_reply. cc)
    (record { ready = ready-root thread fresh_graph 2 (Some (fresh graph thread)) still_ready (omega arith) filled; name = fresh graph thread; root = set_root_is fresh_graph thread 2 (Some (fresh graph thread)) })

good-write : (thread : ℕ) (graph : Graph) (value : ℕ) → Made thread graph → Good thread graph (Wr new_leaf 0 value) (Made thread)
good-write thread graph value made =
    let name = made.name in
    let filled : 1 ≤ length (named graph (Some name)).nums = subst (IsFilled graph) made.root made.ready.two in
    let has_number = number_there thread graph 2 name made.root filled in
    let written_graph = with_object graph name (with_value (named graph (Some name)) 0 value) in
    by_outcome thread graph (Wr new_leaf 0 value) (Made thread) reply.Ok written_graph (rw (has_number, made.root) refl) (λ bad_reply. cc)
    (record { ready = ready-object thread graph name (with_value (named graph (Some name)) 0 value) made.ready (value-keeps thread graph name 0 value made.ready); name = name; root = made.root })

good-store : (thread : ℕ) (graph : Graph) (index : ℕ) → index < 16 → Made thread graph → Good thread graph (Set own_box index new_leaf) (Stored thread index)
good-store thread graph index index_within made =
    let thread_ready = made.ready in
    let has_slot = slot_there thread graph index thread_ready index_within in
    let stored = slot_set thread graph index (graph.root thread new_leaf) thread_ready index_within ∙ made.root in
    by_outcome thread graph (Set own_box index new_leaf) (Stored thread index) reply.Ok (with_field graph thread own_box index (graph.root thread new_leaf)) (rw has_slot refl) (λ bad_reply. cc)
    (record { ready = ready-slot thread graph index (graph.root thread new_leaf) thread_ready thread_ready.two; name = made.name; slot = stored })

good-drop : (thread : ℕ) (graph : Graph) (field : ℕ) → Stored thread field graph → Good thread graph (Drop new_leaf) (Stored thread field)
good-drop thread graph field stored =
    by_outcome thread graph (Drop new_leaf) (Stored thread field) reply.Ok (with_root graph thread new_leaf None) refl (λ bad_reply. cc)
    (record { ready = ready-root thread graph 2 None stored.ready (omega arith) tt; name = stored.name; slot = stored.slot })

good-load : (thread : ℕ) (graph : Graph) (index : ℕ) → index < 16 → Stored thread index graph → Good thread graph (Get old_leaf own_box index) (Loaded thread)
good-load thread graph index index_within stored =
    let held_reference = field_of graph (own thread 1) index in
    by_outcome thread graph (Get old_leaf own_box index) (Loaded thread) (shown held_reference) (with_root graph thread old_leaf held_reference) (rw (slot_there thread graph index stored.ready index_within) refl) (shown_not held_reference)
    (record { ready = ready-root thread graph 3 held_reference stored.ready (omega arith) (stored.ready.slots index); name = stored.name; root = set_root_is graph thread 3 held_reference ∙ stored.slot })

good-read : (thread : ℕ) (graph : Graph) → Loaded thread graph → Good thread graph (Rd old_leaf 0) (Ready thread)
good-read thread graph loaded =
    let name = loaded.name in
    let filled : 1 ≤ length (named graph (Some name)).nums = subst (IsFilled graph) loaded.root loaded.ready.three in
    by_outcome thread graph (Rd old_leaf 0) (Ready thread) (reply.Number (get_or (named graph (Some name)).nums 0 0)) graph (rw (number_there thread graph 3 name loaded.root filled) refl) (λ bad_reply. cc) loaded.ready

good-swap : (thread : ℕ) (graph : Graph) (index : ℕ) → index < 16 → Ready thread graph → Good thread graph (Cas own_box index old_leaf old_leaf) (Ready thread)
good-swap thread graph index index_within ready = at (same_reference (field_of graph (own thread 1) index) (graph.root thread old_leaf)) refl
  where
    at : (holds : Bool) → same_reference (field_of graph (own thread 1) index) (graph.root thread old_leaf) ≡ holds → Good thread graph (Cas own_box index old_leaf old_leaf) (Ready thread)
    at true compared = by_outcome thread graph (Cas own_box index old_leaf old_leaf) (Ready thread) reply.Yes (with_field graph thread own_box index (graph.root thread old_leaf)) (rw (slot_there thread graph index ready index_within, compared) refl) (λ bad_reply. cc) (ready-slot thread graph index (graph.root thread old_leaf) ready ready.three)
    at false compared = by_outcome thread graph (Cas own_box index old_leaf old_leaf) (Ready thread) reply.No graph (rw (slot_there thread graph index ready index_within, compared) refl) (λ bad_reply. cc) ready

good-exchange : (thread : ℕ) (graph : Graph) (index : ℕ) → index < 16 → Ready thread graph → Good thread graph (Xchg last_leaf own_box index old_leaf) (Ready thread)
good-exchange thread graph index index_within ready =
    let held_reference = field_of graph (own thread 1) index in
    let stored_graph = with_field graph thread own_box index (graph.root thread old_leaf) in
    let filled : IsFilled stored_graph held_reference = rw ready.box (still_filled thread graph (own thread 1) (with_slot (named graph (Some (own thread 1))) index (graph.root thread old_leaf)) held_reference (λ x. x) (ready.slots index)) in
    by_outcome thread graph (Xchg last_leaf own_box index old_leaf) (Ready thread) (shown held_reference) (with_root stored_graph thread last_leaf held_reference) (rw (slot_there thread graph index ready index_within) refl) (shown_not held_reference)
    (ready-root thread stored_graph 4 held_reference (ready-slot thread graph index (graph.root thread old_leaf) ready ready.three) (omega arith) filled)

-- all commands one after another

abbrev pub AllGood : ℕ → Graph → List Command → Type 0
AllGood thread graph [] = Unit {0}
AllGood thread graph (command ∷ script) = ((outcome graph thread command).reply ≢ reply.Bad) × AllGood thread (outcome graph thread command).graph script

-- the graph after them
abbrev pub graph_after : ℕ → Graph → List Command → Graph
graph_after thread graph [] = graph
graph_after thread graph (command ∷ script) = graph_after thread (outcome graph thread command).graph script

good_append : (thread : ℕ) (graph : Graph) (script other_script : List Command) → AllGood thread graph script → AllGood thread (graph_after thread graph script) other_script → AllGood thread graph (script ++ other_script)
good_append thread graph [] script all_good later_good = later_good
good_append thread graph (command ∷ other_script) script all_good later_good = (all_good.0, good_append thread (outcome graph thread command).graph other_script script all_good.1 later_good)

round_good : (thread : ℕ) (graph : Graph) (seed number : ℕ) → Ready thread graph → AllGood thread graph (round seed number) × Ready thread (graph_after thread graph (round seed number))
round_good thread graph seed number ready =
    let slot = number % 16 in
    let slot_below : number % 16 < 16 = omega arith in
    let made_good = good-new thread graph ((seed + number) % 4) (1 + number % 8) ready (omega arith) in
    let made_graph = (outcome graph thread (New new_leaf ((seed + number) % 4) (1 + number % 8))).graph in
    let write_good = good-write thread made_graph (seed + number + 1) made_good.left in
    let written = (outcome made_graph thread (Wr new_leaf 0 (seed + number + 1))).graph in
    let store_good = good-store thread written slot slot_below write_good.left in
    let linked = (outcome written thread (Set own_box slot new_leaf)).graph in
    let drop_good = good-drop thread linked slot store_good.left in
    let dropped = (outcome linked thread (Drop new_leaf)).graph in
    let load_good = good-load thread dropped slot slot_below drop_good.left in
    let loaded_graph = (outcome dropped thread (Get old_leaf own_box slot)).graph in
    let read_good = good-read thread loaded_graph load_good.left in
    let read = (outcome loaded_graph thread (Rd old_leaf 0)).graph in
    let swap_good = good-swap thread read slot slot_below read_good.left in
    let swapped = (outcome read thread (Cas own_box slot old_leaf old_leaf)).graph in
    let exchange_good = good-exchange thread swapped slot slot_below swap_good.left in
    ((made_good.reply, (write_good.reply, (store_good.reply, (drop_good.reply, (load_good.reply, (read_good.reply, (swap_good.reply, (exchange_good.reply, tt)))))))), exchange_good.left)

rounds_good : (thread : ℕ) (graph : Graph) (seed : ℕ) (rounds : List ℕ) → Ready thread graph → AllGood thread graph (flat_map (round seed) rounds)
rounds_good thread graph seed [] ready = tt
rounds_good thread graph seed (number ∷ rounds) ready =
    let this_round = round_good thread graph seed number ready in
    good_append thread graph (round seed number) (flat_map (round seed) rounds) this_round.0 (rounds_good thread (graph_after thread graph (round seed number)) seed rounds this_round.1)

-- the first two commands

abbrev pub begun : ℕ → Graph
begun thread = (outcome (opening 3) thread (New own_box 16 0)).graph

ready_begun : (thread : ℕ) → Ready thread (begun thread)
ready_begun thread =
    let fresh_graph = with_fresh (opening 3) thread (blank 16 0) in
    let box = named_new (opening 3) (own thread 1) (blank 16 0) in
    record {
      some = rw (eqb_itself thread) (omega arith);
      box = set_root_is fresh_graph thread 1 (Some (own thread 1));
      size = ap (λ (object : Object). length object.refs) box;
      slots = λ f. subst (IsFilled (begun thread)) (sym (ap (λ (object : Object). get_or object.refs f None) box ∙ none_in 16 f)) tt;
      two = root_case (IsFilled (begun thread)) thread thread new_leaf 1 (Some (own thread 1)) (fresh_graph.root thread new_leaf) (λ _ wrong_root. absurd (omega arith)) (subst (IsFilled (begun thread)) (sym (begins_none thread 2 (omega arith))) tt);
      three = root_case (IsFilled (begun thread)) thread thread old_leaf 1 (Some (own thread 1)) (fresh_graph.root thread old_leaf) (λ _ wrong_root. absurd (omega arith)) (subst (IsFilled (begun thread)) (sym (begins_none thread 3 (omega arith))) tt);
    }

tidy_begun : (thread : ℕ) → IsThread thread → Tidy (begun thread)
tidy_begun thread is_thread = (first-step thread (opening 3) (opening 3) is_thread tidy_opening tidy_opening (Same-itself thread (opening 3)) refl).moved.tidy

good-link : (thread : ℕ) (graph : Graph) → IsThread thread → Tidy graph → Ready thread graph → Good thread graph (Set shared_hub thread own_box) (Ready thread)
good-link thread graph is_thread tidy ready =
    let size = tidy.hub_size in
    let has_link : field_at graph thread shared_hub thread ≡ Some (field_of graph hub thread) =
    subst (λ (reference : Reference). slice_get (named graph reference).refs thread ≡ Some (field_of graph hub thread)) (sym (tidy.threads thread is_thread).hub_root) (slice_get-get_or (fields_of graph hub) thread None (omega arith)) in
    let not_hub : own thread 1 ≡ hub → ⊥ = λ box_is_hub. let thread_zero : thread ≡ 0 = ap (λ (name : Name). name.thread) box_is_hub in omega (arith, is_thread.0) in
    let still_ready = ready-object thread graph hub (hub_with graph thread (graph.root thread own_box)) ready (record { filled = λ still_filled. still_filled; size = λ box_is_hub. absurd (not_hub box_is_hub); slots = λ box_is_hub. absurd (not_hub box_is_hub) }) in
    by_outcome thread graph (Set shared_hub thread own_box) (Ready thread) reply.Ok (with_field graph thread shared_hub thread (graph.root thread own_box)) (rw has_link refl) (λ box_is_hub. cc)
    (subst (λ (reference : Reference). Ready thread (with_named graph reference (with_slot (named graph reference) thread (graph.root thread own_box)))) (sym (tidy.threads thread is_thread).hub_root) still_ready)

pub script_good : (seed count thread : ℕ) → IsThread thread → AllGood thread (opening 3) (churn_script seed count thread)
script_good seed count thread is_thread =
    let link_good = good-link thread (begun thread) is_thread (tidy_begun thread is_thread) (ready_begun thread) in
    (λ bad_reply. cc, (link_good.reply, rounds_good thread (outcome (begun thread) thread (Set shared_hub thread own_box)).graph seed (range_with_len 0 count) link_good.left))

-- so of each run

abbrev pub IsGood : Entry → Type 0
IsGood entry = entry.reply ≢ reply.Bad

part_good : (thread : ℕ) (graph : Graph) (entries : List Entry) → AreOf thread entries → EachIsLegal 16 256 graph entries → AllByRecursion IsGiven entries → AllGood thread graph (commands_of entries) → AllByRecursion IsGood entries
part_good thread graph [] are_of legal are_given good_commands = tt
part_good thread graph (entry ∷ entries) are_of legal are_given good_commands =
    let same_reply = replied graph (after_entry graph entry) entry legal.0 are_given.0 in
    let same_graph : after_entry graph entry ≡ (outcome graph thread entry.command).graph = after_given graph entry are_given.0 ∙ ap (λ by_thread. (outcome graph by_thread entry.command).graph) are_of.0 in (
      λ bad. good_commands.0 (ap (λ by_thread. (outcome graph by_thread entry.command).reply) (sym are_of.0) ∙ sym same_reply ∙ bad),
      part_good thread (after_entry graph entry) entries are_of.1 legal.1 are_given.1 (subst (λ (graph : Graph). AllGood thread graph (commands_of entries)) (sym same_graph) good_commands.1),
    )

each_entry : (entries : List Entry) → ((thread : ℕ) → AllByRecursion IsGood (of_thread entries thread)) → AllByRecursion IsGood entries
each_entry [] each_thread = tt
each_entry (entry ∷ entries) each_thread =
    let entries_here : AllByRecursion IsGood (entry ∷ of_thread entries entry.thread) = subst (AllByRecursion IsGood) (of_thread-here entry entries) (each_thread entry.thread) in (
      entries_here.0,
      each_entry entries (λ thread. elim (eqb_tells thread entry.thread) as (λ _. AllByRecursion IsGood (of_thread entries thread)) [
        | inl compared ↦ subst (λ (any_thread : ℕ). AllByRecursion IsGood (of_thread entries any_thread)) (sym compared.1) entries_here.1
        | inr compared ↦ subst (AllByRecursion IsGood) (of_thread-there entry entries thread compared.1) (each_thread thread)
      ]),
    )

all_good : (entries : List Entry) → AllByRecursion IsGood entries → All IsGood entries
all_good [] each_good = All-nil IsGood
all_good (entry ∷ entries) each_good = All-cons IsGood entry entries each_good.0 (all_good entries each_good.1)

pub none_is_bad : NoneIsBad
none_is_bad seed count entries run =
    let run_going = going_opening seed count entries run.follows in
    let are_given = run_given seed count entries run in
    all_good entries (each_entry entries (λ thread. elim (thread_or_not thread) as (λ _. AllByRecursion IsGood (of_thread entries thread)) [
      | inl is_thread ↦
          let alone = solo thread is_thread entries (opening 3) (opening 3) tidy_opening tidy_opening (Same-itself thread (opening 3)) run_going run.legal.each are_given in
          part_good thread (opening 3) (of_thread entries thread) (of_thread-are thread entries) alone.legal (given_of thread entries are_given)
          (subst (AllGood thread (opening 3)) (sym (run.follows thread ∙ script_is seed count thread is_thread)) (script_good seed count thread is_thread))
      | inr not_thread ↦ subst (AllByRecursion IsGood) (sym (run_going.others thread not_thread)) tt
    ]))
