-- The graph of a legal history is formed: its names are those of the hub and of objects that threads made, and fields and numbers are in
-- range.
use Rattle.std.proofs.Common.{◌≡◌, ◌⊎◌, inl, inr, ℕ, ◌+◌, ◌^◌, ◌<◌, ◌≤◌, ◌&&◌, Bool, true, false, cond, eqb, List, [], ◌∷◌, length, Option, Some, None, refl, sym, ap, ◌∙◌, subst, arith, All}
use Rattle.std.specs.Prelude.{slice_set, unwrap_or, is_some}
use Rattle.std.proofs.lemmas.List.{length-replicate, length-set}
use Rattle.std.proofs.lemmas.List.Elements.{All-nil, All-replicate, All-set, All-head, All-tail}
use Rattle.std.proofs.lemmas.Option.{same_Some}
use Rattle.std.proofs.lemmas.Bool.Decides.{nat_tests}
use Rattle.shen_graph.proofs.Lists.{element_of_all}
use Rattle.shen_graph.specs.declared.name.Name.{Name}
use Rattle.shen_graph.specs.declared.command.Command.{Command}
use Rattle.shen_graph.specs.declared.command.Command.TheVariants.{New, Get, Set, Cas, Xchg, Rd, Wr, Copy, Drop, Same, Gc, Pin, Unpin}
use Rattle.shen_graph.specs.declared.pin.Pinned.{Pinned}
use Rattle.shen_graph.specs.Graph.{Reference, Object, Graph, same_name, same_reference, hub, blank, named, field_at, number_at, with_root, with_object, with_named, with_field, with_fresh, with_pin, fresh, opening}
use Rattle.shen_graph.specs.Step.{Outcome, on, outcome, pinned_by, name_in, slot_of, IsLegal}
use Rattle.shen_graph.specs.Valid.{IsValid, FitsValue}
use Rattle.shen_graph.specs.History.{Entry, after, after_entry, EachIsLegal}
use Rattle.shen_graph.proofs.PlainLemmas.{same_name-true}
use Rattle.heap_dump.specs.ObjectsMade.{IsEntryInRange}

-- the name of an object that one of these threads made, each of which made so many
pub record IsMade (threads : ℕ) (count : ℕ → ℕ) (name : Name) : Type 0 where
  pub from_first : 1 ≤ name.thread
  pub to_last : name.thread ≤ threads
  pub from_one : 1 ≤ name.count
  pub to_count : name.count ≤ count name.thread

-- null, the hub, or the name of such an object
abbrev pub IsKnown : ℕ → (ℕ → ℕ) → Reference → Type 0
IsKnown threads count None = Unit {0}
IsKnown threads count (Some name) = (name ≡ hub) ⊎ IsMade threads count name

-- an object of a name
pub record IsFormedObject (threads : ℕ) (count : ℕ → ℕ) (name : Name) (object : Object) : Type 0 where
  pub refs : All (IsKnown threads count) object.refs
  pub few_refs : length object.refs ≤ 16
  pub few_nums : length object.nums ≤ 16
  pub fit : All (λ x. x < 2 ^ 64) object.nums
  pub hub_refs : name ≡ hub → length object.refs ≡ 16
  pub hub_nums : name ≡ hub → length object.nums ≡ 0

-- the root of a number of a thread is one of 16, of one of so many threads
pub record IsRootWithin (threads t r : ℕ) : Type 0 where
  pub from_first : 1 ≤ t
  pub to_last : t ≤ threads
  pub low : r < 16

pub record IsFormed (threads : ℕ) (graph : Graph) : Type 0 where
  pub root : (thread index : ℕ) → IsKnown threads graph.count (graph.root thread index)
  pub within : (thread index : ℕ) (name : Name) → graph.root thread index ≡ Some name → IsRootWithin threads thread index
  pub object : (name : Name) (o : Object) → graph.object name ≡ Some o → IsFormedObject threads graph.count name o
  pub hub_there : (object : Object) × (graph.object hub ≡ Some object)
  pub pin : (thread slot : ℕ) → IsKnown threads graph.count (name_in (graph.pin thread slot))

-- ---- more objects

more_known : (threads : ℕ) (count count_then : ℕ → ℕ) (reference : Reference) → ((thread : ℕ) → count thread ≤ count_then thread) → IsKnown threads count reference → IsKnown threads count_then reference
more_known threads count count_then None counts_rise was_known = tt
more_known threads count count_then (Some name) counts_rise (inl is_hub) = inl is_hub
more_known threads count count_then (Some name) counts_rise (inr reference_made) =
    let higher = counts_rise name.thread in
    inr (record { from_first = reference_made.from_first; to_last = reference_made.to_last; from_one = reference_made.from_one; to_count = omega (arith, reference_made.to_count, higher) })

more_formed : (threads : ℕ) (count count_then : ℕ → ℕ) (name : Name) (object : Object) → ((thread : ℕ) → count thread ≤ count_then thread) → IsFormedObject threads count name object → IsFormedObject threads count_then name object
more_formed threads count count_then name object counts_rise object_formed = record {
  refs = λ index default index_below. more_known threads count count_then _ counts_rise (object_formed.refs index default index_below);
  few_refs = object_formed.few_refs;
  few_nums = object_formed.few_nums;
  fit = object_formed.fit;
  hub_refs = object_formed.hub_refs;
  hub_nums = object_formed.hub_nums;
}

-- ---- what a reference names

nothing_formed : (threads : ℕ) (count : ℕ → ℕ) (name : Name) → (name ≡ hub → ⊥) → IsFormedObject threads count name (record { refs = []; nums = [] })
nothing_formed threads count name not_hub = record {
  refs = All-nil (IsKnown threads count);
  few_refs = omega arith;
  few_nums = omega arith;
  fit = All-nil (λ x. x < 2 ^ 64);
  hub_refs = λ hub_name. absurd (not_hub hub_name);
  hub_nums = λ hub_name. absurd (not_hub hub_name);
}

-- the object of a name, also where there is none
pub named_formed : (threads : ℕ) (graph : Graph) (name : Name) → IsFormed threads graph → IsFormedObject threads graph.count name (named graph (Some name))
named_formed threads graph name graph_formed = by_object (graph.object name) refl
  where
    no_object : Object
    no_object = record { refs = []; nums = [] }

    by_object : (found : Option Object) → graph.object name ≡ found → IsFormedObject threads graph.count name (unwrap_or found (record { refs = []; nums = [] }))
    by_object (Some found) object_found = graph_formed.object name found object_found
    by_object None object_found = nothing_formed threads graph.count name (λ (is_hub : name ≡ hub).
        let hub_object = graph_formed.hub_there in
        let no_hub : graph.object hub ≡ None = ap graph.object (sym is_hub) ∙ object_found in
        let hub_both : ◌≡◌ {A = Option Object} (Some hub_object.0) None = sym hub_object.1 ∙ no_hub in
        absurd cc)

-- its references
pub refs_known : (threads : ℕ) (graph : Graph) (reference : Reference) → IsFormed threads graph → All (IsKnown threads graph.count) (named graph reference).refs
refs_known threads graph None graph_formed = All-nil (IsKnown threads graph.count)
refs_known threads graph (Some name) graph_formed = (named_formed threads graph name graph_formed).refs

-- ---- graphs of which one thing is another

known_either : (threads : ℕ) (count : ℕ → ℕ) (holds : Bool) (reference second_reference : Reference) → IsKnown threads count reference → IsKnown threads count second_reference → IsKnown threads count (cond holds reference second_reference)
known_either threads count true reference second_reference first_known second_known = first_known
known_either threads count false reference second_reference first_known second_known = second_known

root_formed : (threads : ℕ) (graph : Graph) (root_thread index : ℕ) (value : Reference) → 1 ≤ root_thread → root_thread ≤ threads → index < 16 → IsKnown threads graph.count value → IsFormed threads graph → IsFormed threads (with_root graph root_thread index value)
root_formed threads graph root_thread index value from_first to_last index_below value_known graph_formed = record {
  root = λ thread index. known_either threads graph.count _ value (graph.root thread index) value_known (graph_formed.root thread index);
  within = λ thread some_index name holds_name. by_thread thread some_index name (eqb thread root_thread) (eqb some_index index) refl refl holds_name;
  object = graph_formed.object;
  hub_there = graph_formed.hub_there;
  pin = graph_formed.pin;
}
  where
    by_thread : (thread slot : ℕ) (name : Name) (holds index_test : Bool) → eqb thread root_thread ≡ holds → eqb slot index ≡ index_test → cond (holds && index_test) value (graph.root thread slot) ≡ Some name → IsRootWithin threads thread slot
    by_thread thread slot name true true same_t same_r root_there =
        let same_thread : thread ≡ root_thread = grind (arith, nat_tests) in
        let same_slot : slot ≡ index = grind (arith, nat_tests) in
        record { from_first = omega arith; to_last = omega arith; low = omega arith }
    by_thread thread slot name true false same_t same_r root_there = graph_formed.within thread slot name root_there
    by_thread thread slot name false index_test same_t same_r root_there = graph_formed.within thread slot name root_there

object_either : (threads : ℕ) (count : ℕ → ℕ) (name asked_name : Name) (holds : Bool) (object : Object) (old_object : Option Object) (found_object : Object) → (holds ≡ true → asked_name ≡ name) → IsFormedObject threads count name object
    → (old_object ≡ Some found_object → IsFormedObject threads count asked_name found_object) → cond holds (Some object) old_object ≡ Some found_object → IsFormedObject threads count asked_name found_object
object_either threads count name asked_name true object old_object found_object same_if_new formed_object old_formed object_found = subst (IsFormedObject threads count asked_name) (same_Some object found_object object_found) (subst (λ name. IsFormedObject threads count name object) (sym (same_if_new refl)) formed_object)
object_either threads count name asked_name false object old_object found_object same_if_new formed_object old_formed object_found = old_formed object_found

there_either : (holds : Bool) (object : Object) (old_object : Option Object) → ((found_object : Object) × (old_object ≡ Some found_object)) → (found_object : Object) × (cond holds (Some object) old_object ≡ Some found_object)
there_either true object old_object old_there = (object, refl)
there_either false object old_object old_there = old_there

object_formed : (threads : ℕ) (graph : Graph) (name : Name) (object : Object) → IsFormedObject threads graph.count name object → IsFormed threads graph → IsFormed threads (with_object graph name object)
object_formed threads graph name object object_fits graph_formed = record {
  root = graph_formed.root;
  within = graph_formed.within;
  object = λ asked_name found_object object_found. object_either threads graph.count name asked_name (same_name asked_name name) object (graph.object asked_name) found_object (λ same_if_new. same_name-true asked_name name same_if_new) object_fits (λ old_there. graph_formed.object asked_name found_object old_there) object_found;
  hub_there = there_either (same_name hub name) object (graph.object hub) graph_formed.hub_there;
  pin = graph_formed.pin;
}

held_either : (threads : ℕ) (count : ℕ → ℕ) (holds : Bool) (found second_found : Option Pinned) → IsKnown threads count (name_in found) → IsKnown threads count (name_in second_found) → IsKnown threads count (name_in (cond holds found second_found))
held_either threads count true found second_found first_known second_known = first_known
held_either threads count false found second_found first_known second_known = second_known

-- a pin slot holds something else
pin_formed : (threads : ℕ) (graph : Graph) (pin_thread slot : ℕ) (new_held : Option Pinned) → IsKnown threads graph.count (name_in new_held) → IsFormed threads graph → IsFormed threads (with_pin graph pin_thread slot new_held)
pin_formed threads graph pin_thread slot new_held held_known graph_formed = record {
  root = graph_formed.root;
  within = graph_formed.within;
  object = graph_formed.object;
  hub_there = graph_formed.hub_there;
  pin = λ thread asked_slot. held_either threads graph.count (eqb thread pin_thread && eqb asked_slot slot) new_held (graph.pin thread asked_slot) held_known (graph_formed.pin thread asked_slot);
}

-- the object that a reference names has other references, as many
refs_formed : (threads : ℕ) (graph : Graph) (reference : Reference) (field : ℕ) (value : Reference) → IsKnown threads graph.count value → IsFormed threads graph
    → IsFormed threads (with_named graph reference (record { refs = slice_set (named graph reference).refs field value; nums = (named graph reference).nums }))
refs_formed threads graph None field value value_known graph_formed = graph_formed
refs_formed threads graph (Some name) field value value_known graph_formed =
    let old_formed = named_formed threads graph name graph_formed in
    let refs_length = length-set (named graph (Some name)).refs field value in
    object_formed threads graph name _ (record {
      refs = All-set (IsKnown threads graph.count) (named graph (Some name)).refs field value value_known old_formed.refs;
      few_refs = omega (arith, refs_length, old_formed.few_refs);
      few_nums = old_formed.few_nums;
      fit = old_formed.fit;
      hub_refs = λ hub_name. refs_length ∙ old_formed.hub_refs hub_name;
      hub_nums = old_formed.hub_nums;
    }) graph_formed

nums_formed : (threads : ℕ) (graph : Graph) (reference : Reference) (index value : ℕ) → value < 2 ^ 64 → IsFormed threads graph
    → IsFormed threads (with_named graph reference (record { refs = (named graph reference).refs; nums = slice_set (named graph reference).nums index value }))
nums_formed threads graph None index value value_fits graph_formed = graph_formed
nums_formed threads graph (Some name) index value value_fits graph_formed =
    let old_formed = named_formed threads graph name graph_formed in
    let nums_length = length-set (named graph (Some name)).nums index value in
    object_formed threads graph name _ (record {
      refs = old_formed.refs;
      few_refs = old_formed.few_refs;
      few_nums = omega (arith, nums_length, old_formed.few_nums);
      fit = All-set (λ x. x < 2 ^ 64) (named graph (Some name)).nums index value value_fits old_formed.fit;
      hub_refs = old_formed.hub_refs;
      hub_nums = λ hub_name. nums_length ∙ old_formed.hub_nums hub_name;
    }) graph_formed

-- a new object of a thread
fresh_formed : (threads : ℕ) (graph : Graph) (new_thread refs nums : ℕ) → 1 ≤ new_thread → new_thread ≤ threads → refs ≤ 16 → nums ≤ 16 → IsFormed threads graph → IsFormed threads (with_fresh graph new_thread (blank refs nums))
fresh_formed threads graph new_thread refs nums from_first to_last few_refs few_nums graph_formed = record {
  root = λ thread index. more_known threads graph.count more _ up (graph_formed.root thread index);
  within = graph_formed.within;
  object = λ name object object_found. object_either threads more n name (same_name name n) (blank refs nums) (graph.object name) object (λ names_agree. same_name-true name n names_agree) blank_formed (λ other. more_formed threads graph.count more name object up (graph_formed.object name object other)) object_found;
  hub_there = there_either (same_name hub n) (blank refs nums) (graph.object hub) graph_formed.hub_there;
  pin = λ thread slot. more_known threads graph.count more _ up (graph_formed.pin thread slot);
}
  where
    n : Name
    n = fresh graph new_thread

    more : ℕ → ℕ
    more = (with_fresh graph new_thread (blank refs nums)).count

    either_up : (holds : Bool) (old_count : ℕ) → old_count ≤ cond holds (old_count + 1) old_count
    either_up true old_count = omega arith
    either_up false old_count = omega arith

    up : (thread : ℕ) → graph.count thread ≤ more thread
    up thread = either_up (eqb thread new_thread) (graph.count thread)

    other : n ≡ hub → ⊥
    other new_is_hub = absurd (omega (arith, from_first, ap (λ (name : Name). name.thread) new_is_hub))

    blank_formed : IsFormedObject threads more n (blank refs nums)
    blank_formed = record {
      refs = All-replicate (IsKnown threads more) refs None tt;
      few_refs = let null : Reference = None in omega (arith, few_refs, length-replicate refs null);
      few_nums = omega (arith, few_nums, length-replicate {A = ℕ} nums 0);
      fit = All-replicate (λ x. x < 2 ^ 64) nums 0 (omega arith);
      hub_refs = λ new_is_hub. absurd (other new_is_hub);
      hub_nums = λ new_is_hub. absurd (other new_is_hub);
    }

-- its name is known then
fresh_known : (threads : ℕ) (graph : Graph) (thread refs nums : ℕ) → 1 ≤ thread → thread ≤ threads → IsKnown threads (with_fresh graph thread (blank refs nums)).count (Some (fresh graph thread))
fresh_known threads graph thread refs nums from_first to_last = inr (record { from_first = from_first; to_last = to_last; from_one = omega arith; to_count = counted (eqb thread thread) refl })
  where
    counted : (holds : Bool) → eqb thread thread ≡ holds → graph.count thread + 1 ≤ cond holds (graph.count thread + 1) (graph.count thread)
    counted true thread_test = omega arith
    counted false thread_test = absurd (grind (arith, nat_tests))

-- ---- outcomes

on_formed : {A : Type 0} (threads : ℕ) (found : Option A) (graph : Graph) (outcome_of : A → Outcome) → IsFormed threads graph → ((value : A) → found ≡ Some value → IsFormed threads (outcome_of value).graph) → IsFormed threads (on found graph outcome_of).graph
on_formed threads None graph outcome_of graph_formed each_formed = graph_formed
on_formed threads (Some value) graph outcome_of graph_formed each_formed = each_formed value refl

either_formed : (threads : ℕ) (holds : Bool) (first_outcome second_outcome : Outcome) → IsFormed threads first_outcome.graph → IsFormed threads second_outcome.graph → IsFormed threads (cond holds first_outcome second_outcome).graph
either_formed threads true first_outcome second_outcome first_formed second_formed = first_formed
either_formed threads false first_outcome second_outcome first_formed second_formed = second_formed

-- the counts of a graph are those that it has with another object
with_named-count : (graph : Graph) (reference : Reference) (object : Object) → (with_named graph reference object).count ≡ graph.count
with_named-count graph None object = refl
with_named-count graph (Some name) object = refl

outcome_formed : (threads : ℕ) (graph : Graph) (thread : ℕ) (command : Command) → 1 ≤ thread → thread ≤ threads → IsValid command → FitsValue command → IsFormed threads graph → IsFormed threads (outcome graph thread command).graph
outcome_formed threads graph thread (New dst refs nums) from_first to_last command_valid fits graph_formed =
    root_formed threads (with_fresh graph thread (blank refs nums)) thread dst (Some (fresh graph thread)) from_first to_last command_valid.0 (fresh_known threads graph thread refs nums from_first to_last) (fresh_formed threads graph thread refs nums from_first to_last command_valid.1 command_valid.2 graph_formed)
outcome_formed threads graph thread (Get dst src field) from_first to_last command_valid fits graph_formed =
    on_formed threads (field_at graph thread src field) graph _ graph_formed (λ found_value value_there.
    root_formed threads graph thread dst found_value from_first to_last command_valid.0 (element_of_all (IsKnown threads graph.count) (named graph (graph.root thread src)).refs field found_value (refs_known threads graph (graph.root thread src) graph_formed) value_there) graph_formed)
outcome_formed threads graph thread (Set obj field val) from_first to_last command_valid fits graph_formed =
    on_formed threads (field_at graph thread obj field) graph _ graph_formed (λ found_value value_there. refs_formed threads graph (graph.root thread obj) field (graph.root thread val) (graph_formed.root thread val) graph_formed)
outcome_formed threads graph thread (Cas obj field expect val) from_first to_last command_valid fits graph_formed =
    on_formed threads (field_at graph thread obj field) graph _ graph_formed (λ found_value value_there.
    either_formed threads (same_reference found_value (graph.root thread expect)) _ _ (refs_formed threads graph (graph.root thread obj) field (graph.root thread val) (graph_formed.root thread val) graph_formed) graph_formed)
outcome_formed threads graph thread (Xchg dst obj field val) from_first to_last command_valid fits graph_formed =
    on_formed threads (field_at graph thread obj field) graph _ graph_formed (λ found_value value_there.
    let old_known = element_of_all (IsKnown threads graph.count) (named graph (graph.root thread obj)).refs field found_value (refs_known threads graph (graph.root thread obj) graph_formed) value_there in
    let swapped = with_field graph thread obj field (graph.root thread val) in
    root_formed threads swapped thread dst found_value from_first to_last command_valid.0
    (subst (λ count. IsKnown threads count found_value) (sym (with_named-count graph (graph.root thread obj) _)) old_known)
    (refs_formed threads graph (graph.root thread obj) field (graph.root thread val) (graph_formed.root thread val) graph_formed))
outcome_formed threads graph thread (Rd obj index) from_first to_last command_valid fits graph_formed = on_formed threads (number_at graph thread obj index) graph _ graph_formed (λ found_value value_there. graph_formed)
outcome_formed threads graph thread (Wr obj index value) from_first to_last command_valid fits graph_formed =
    on_formed threads (number_at graph thread obj index) graph _ graph_formed (λ found_value value_there. nums_formed threads graph (graph.root thread obj) index value fits graph_formed)
outcome_formed threads graph thread (Copy dst src) from_first to_last command_valid fits graph_formed = root_formed threads graph thread dst (graph.root thread src) from_first to_last command_valid.0 (graph_formed.root thread src) graph_formed
outcome_formed threads graph thread (Drop dst) from_first to_last command_valid fits graph_formed = root_formed threads graph thread dst None from_first to_last command_valid tt graph_formed
outcome_formed threads graph thread (Same first_root second_root) from_first to_last command_valid fits graph_formed = graph_formed
outcome_formed threads graph thread Gc from_first to_last command_valid fits graph_formed = graph_formed
outcome_formed threads graph thread (Pin slot obj) from_first to_last command_valid fits graph_formed = graph_formed
outcome_formed threads graph thread (Unpin slot) from_first to_last command_valid fits graph_formed = on_formed threads (graph.pin thread slot) graph _ graph_formed (λ found_value value_there. pin_formed threads graph thread slot None tt graph_formed)

-- what a command pins is known
pinned_known : (threads : ℕ) (graph : Graph) (thread : ℕ) (command : Command) → IsFormed threads graph → IsKnown threads graph.count (pinned_by graph thread command)
pinned_known threads graph thread (New dst refs nums) graph_formed = tt
pinned_known threads graph thread (Get dst src field) graph_formed = tt
pinned_known threads graph thread (Set obj field val) graph_formed = tt
pinned_known threads graph thread (Cas obj field expect val) graph_formed = tt
pinned_known threads graph thread (Xchg dst obj field val) graph_formed = tt
pinned_known threads graph thread (Rd obj index) graph_formed = tt
pinned_known threads graph thread (Wr obj index value) graph_formed = tt
pinned_known threads graph thread (Copy dst src) graph_formed = tt
pinned_known threads graph thread (Drop dst) graph_formed = tt
pinned_known threads graph thread (Same first_root second_root) graph_formed = tt
pinned_known threads graph thread Gc graph_formed = tt
pinned_known threads graph thread (Pin slot obj) graph_formed = known_either threads graph.count (is_some (graph.pin thread slot)) None (graph.root thread obj) tt (graph_formed.root thread obj)
pinned_known threads graph thread (Unpin slot) graph_formed = tt

-- ---- histories

pub opening_formed : (threads : ℕ) → IsFormed threads (opening threads)
opening_formed threads = record {
  root = λ thread root. known_either threads (λ _. 0) _ (Some hub) None (inl refl) tt;
  within = λ thread root root_name root_there. grind (arith, nat_tests);
  object = λ name object object_found. object_either threads (λ _. 0) hub name (same_name name hub) (blank 16 0) None object (λ same_names. same_name-true name hub same_names) hub_formed (λ no_object. absurd cc) object_found;
  hub_there = (blank 16 0, refl);
  pin = λ thread slot. tt;
}
  where
    hub_formed : IsFormedObject threads (λ _. 0) hub (blank 16 0)
    hub_formed = record {
      refs = All-replicate (IsKnown threads (λ _. 0)) 16 None tt;
      few_refs = omega arith;
      few_nums = omega arith;
      fit = All-nil (λ x. x < 2 ^ 64);
      hub_refs = λ hub_name. refl;
      hub_nums = λ hub_name. refl;
    }

entry_formed : (threads regions region_words : ℕ) (graph : Graph) (entry : Entry) (graph_after : Graph) → IsEntryInRange threads entry → IsLegal regions region_words graph entry.thread entry.command entry.reply graph_after → IsFormed threads graph → IsFormed threads graph_after
entry_formed threads regions region_words graph entry graph_after range (inl told_reply) graph_formed =
    subst (IsFormed threads) (sym (ap (λ (some_outcome : Outcome). some_outcome.graph) told_reply.1)) (outcome_formed threads graph entry.thread entry.command range.from_first range.to_last range.valid range.fits graph_formed)
entry_formed threads regions region_words graph entry graph_after range (inr (inl heap_full)) graph_formed = subst (IsFormed threads) (sym heap_full.2) graph_formed
entry_formed threads regions region_words graph entry graph_after range (inr (inr pinning)) graph_formed =
    let pinned_name_known = subst (IsKnown threads graph.count) pinning.pins (pinned_known threads graph entry.thread entry.command graph_formed) in
    subst (IsFormed threads) (sym pinning.graph) (pin_formed threads graph entry.thread (slot_of entry.command) (Some (record { name = pinning.name; place = pinning.place })) pinned_name_known graph_formed)

pub history_formed : (threads regions region_words : ℕ) (graph : Graph) (entries : List Entry) → EachIsLegal regions region_words graph entries → All (IsEntryInRange threads) entries → IsFormed threads graph → IsFormed threads (after graph entries)
history_formed threads regions region_words graph [] legal range graph_formed = graph_formed
history_formed threads regions region_words graph (entry ∷ entries) legal range graph_formed =
    history_formed threads regions region_words (after_entry graph entry) entries legal.1 (All-tail (IsEntryInRange threads) entry entries range)
    (entry_formed threads regions region_words graph entry (after_entry graph entry) (All-head (IsEntryInRange threads) entry entries range) legal.0 graph_formed)
