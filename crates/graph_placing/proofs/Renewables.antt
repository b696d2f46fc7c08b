-- The graph of a legal history can be named anew, and so can one that was.
use Rattle.std.proofs.Common.{◌≡◌, inl, inr, ℕ, ◌≤◌, ◌&&◌, Bool, true, false, cond, eqb, List, [], ◌∷◌, Option, Some, None, refl, sym, ap, subst, arith, All}
use Rattle.std.specs.Prelude.{slice_set, unwrap_or, is_some}
use Rattle.std.proofs.lemmas.List.{length-replicate, length-set}
use Rattle.std.proofs.lemmas.List.Elements.{All-nil, All-replicate, All-set, All-head, All-tail}
use Rattle.std.proofs.lemmas.Option.{same_Some}
use Rattle.shen_graph.proofs.Lists.{element_of_all}
use Rattle.shen_graph.specs.declared.name.Name.{Name}
use Rattle.shen_graph.specs.declared.command.Command.{Command}
use Rattle.shen_graph.specs.declared.command.Command.TheVariants.{New, Get, Set, Cas, Xchg, Rd, Wr, Copy, Drop, Same, Gc, Pin, Unpin}
use Rattle.shen_graph.specs.declared.pin.Pinned.{Pinned}
use Rattle.shen_graph.specs.Graph.{Reference, Object, Graph, same_name, same_reference, hub, blank, named, field_at, number_at, with_root, with_object, with_named, with_field, with_fresh, with_pin, fresh, opening}
use Rattle.shen_graph.specs.Step.{Outcome, on, outcome, pinned_by, name_in, slot_of, IsLegal}
use Rattle.shen_graph.specs.Valid.{IsValid}
use Rattle.shen_graph.specs.Reach.{IsReachable, from_root, from_pin, from_field}
use Rattle.shen_graph.specs.History.{Entry, after, after_entry, EachIsLegal}
use Rattle.graph_placing.specs.Renewable.{IsOfThreads, IsShortObject, IsRenewable, IsEntryOf}

-- ---- what a reference names

-- the object of a name, also where there is none
named_short : (threads : ℕ) (graph : Graph) (name : Name) → IsRenewable threads graph → IsShortObject threads (named graph (Some name))
named_short threads graph name renewable = by_object (graph.object name) refl
  where
    by_object : (found : Option Object) → graph.object name ≡ found → IsShortObject threads (unwrap_or found (record { refs = []; nums = [] }))
    by_object (Some found) object_found = renewable.object name found object_found
    by_object None object_found = record { refs = All-nil (IsOfThreads threads); few_refs = omega arith; few_nums = omega arith }

-- its references
refs_named : (threads : ℕ) (graph : Graph) (reference : Reference) → IsRenewable threads graph → All (IsOfThreads threads) (named graph reference).refs
refs_named threads graph None renewable = All-nil (IsOfThreads threads)
refs_named threads graph (Some name) renewable = (named_short threads graph name renewable).refs

-- what can be reached is so
pub reachable_named : (threads : ℕ) (graph : Graph) → IsRenewable threads graph → (name : Name) → IsReachable graph name → IsOfThreads threads (Some name)
reachable_named threads graph renewable _ (from_root thread root name slot_holds) = subst (IsOfThreads threads) slot_holds (renewable.root thread root)
reachable_named threads graph renewable _ (from_pin thread slot pinned_name slot_holds) = subst (λ (found : Option Pinned). IsOfThreads threads (name_in found)) slot_holds (renewable.pin thread slot)
reachable_named threads graph renewable _ (from_field holder_name name field holder_reached slot_holds) = element_of_all (IsOfThreads threads) (named graph (Some holder_name)).refs field (Some name) (refs_named threads graph (Some holder_name) renewable) slot_holds

pub reachable_short : (threads : ℕ) (graph : Graph) → IsRenewable threads graph → (name : Name) → IsShortObject threads (named graph (Some name))
reachable_short threads graph renewable name = named_short threads graph name renewable

-- ---- graphs of which one thing is another

either_named : (threads : ℕ) (holds : Bool) (reference other_reference : Reference) → IsOfThreads threads reference → IsOfThreads threads other_reference → IsOfThreads threads (cond holds reference other_reference)
either_named threads true reference other_reference of_threads other_named = of_threads
either_named threads false reference other_reference of_threads other_named = other_named

root_renewable : (threads : ℕ) (graph : Graph) (changed_thread changed_root : ℕ) (value : Reference) → IsOfThreads threads value → IsRenewable threads graph → IsRenewable threads (with_root graph changed_thread changed_root value)
root_renewable threads graph changed_thread changed_root value named renewable = record {
  root = λ thread index. either_named threads _ value (graph.root thread index) named (renewable.root thread index);
  object = renewable.object;
  pin = renewable.pin;
}

object_either : (threads : ℕ) (holds : Bool) (object : Object) (other_found : Option Object) (other_object : Object) → IsShortObject threads object → (other_found ≡ Some other_object → IsShortObject threads other_object) → cond holds (Some object) other_found ≡ Some other_object → IsShortObject threads other_object
object_either threads true object other_found other_object short_object other_short object_found = subst (IsShortObject threads) (same_Some object other_object object_found) short_object
object_either threads false object other_found other_object short_object other_short object_found = other_short object_found

object_renewable : (threads : ℕ) (graph : Graph) (name : Name) (object : Object) → IsShortObject threads object → IsRenewable threads graph → IsRenewable threads (with_object graph name object)
object_renewable threads graph name object object_short renewable = record {
  root = renewable.root;
  object = λ asked_name found_object has_object. object_either threads (same_name asked_name name) object (graph.object asked_name) found_object object_short (renewable.object asked_name found_object) has_object;
  pin = renewable.pin;
}

held_either : (threads : ℕ) (holds : Bool) (found other_found : Option Pinned) → IsOfThreads threads (name_in found) → IsOfThreads threads (name_in other_found) → IsOfThreads threads (name_in (cond holds found other_found))
held_either threads true found other_found of_threads other_named = of_threads
held_either threads false found other_found of_threads other_named = other_named

pin_renewable : (threads : ℕ) (graph : Graph) (changed_thread slot : ℕ) (held : Option Pinned) → IsOfThreads threads (name_in held) → IsRenewable threads graph → IsRenewable threads (with_pin graph changed_thread slot held)
pin_renewable threads graph changed_thread slot held named renewable = record {
  root = renewable.root;
  object = renewable.object;
  pin = λ thread asked_slot. held_either threads (eqb thread changed_thread && eqb asked_slot slot) held (graph.pin thread asked_slot) named (renewable.pin thread asked_slot);
}

-- the object that a reference names has other references, or other numbers, as many
refs_renewable : (threads : ℕ) (graph : Graph) (reference : Reference) (field : ℕ) (value : Reference) → IsOfThreads threads value → IsRenewable threads graph
    → IsRenewable threads (with_named graph reference (record { refs = slice_set (named graph reference).refs field value; nums = (named graph reference).nums }))
refs_renewable threads graph None field value named_too renewable = renewable
refs_renewable threads graph (Some name) field value named_too renewable =
    let was_short = named_short threads graph name renewable in
    object_renewable threads graph name _ (record {
      refs = All-set (IsOfThreads threads) (named graph (Some name)).refs field value named_too was_short.refs;
      few_refs = omega (arith, length-set (named graph (Some name)).refs field value, was_short.few_refs);
      few_nums = was_short.few_nums;
    }) renewable

nums_renewable : (threads : ℕ) (graph : Graph) (reference : Reference) (index value : ℕ) → IsRenewable threads graph
    → IsRenewable threads (with_named graph reference (record { refs = (named graph reference).refs; nums = slice_set (named graph reference).nums index value }))
nums_renewable threads graph None index value renewable = renewable
nums_renewable threads graph (Some name) index value renewable =
    let was_short = named_short threads graph name renewable in
    object_renewable threads graph name _ (record {
      refs = was_short.refs;
      few_refs = was_short.few_refs;
      few_nums = omega (arith, length-set (named graph (Some name)).nums index value, was_short.few_nums);
    }) renewable

-- a new object of a thread
fresh_renewable : (threads : ℕ) (graph : Graph) (thread refs nums : ℕ) → refs ≤ 16 → nums ≤ 16 → IsRenewable threads graph → IsRenewable threads (with_fresh graph thread (blank refs nums))
fresh_renewable threads graph thread refs nums few_refs few_nums renewable = record {
  root = renewable.root;
  object = λ name found_object has_object. object_either threads (same_name name (fresh graph thread)) (blank refs nums) (graph.object name) found_object blank_short (renewable.object name found_object) has_object;
  pin = renewable.pin;
}
  where
    blank_short : IsShortObject threads (blank refs nums)
    blank_short = record {
      refs = All-replicate (IsOfThreads threads) refs None tt;
      few_refs = let null : Reference = None in omega (arith, few_refs, length-replicate refs null);
      few_nums = omega (arith, few_nums, length-replicate {A = ℕ} nums 0);
    }

-- ---- outcomes

on_renewable : {A : Type 0} (threads : ℕ) (found : Option A) (graph : Graph) (f : A → Outcome) → IsRenewable threads graph → ((value : A) → found ≡ Some value → IsRenewable threads (f value).graph) → IsRenewable threads (on found graph f).graph
on_renewable threads None graph f renewable each_renewable = renewable
on_renewable threads (Some value) graph f renewable each_renewable = each_renewable value refl

either_renewable : (threads : ℕ) (holds : Bool) (x y : Outcome) → IsRenewable threads x.graph → IsRenewable threads y.graph → IsRenewable threads (cond holds x y).graph
either_renewable threads true x y renewable other_renewable = renewable
either_renewable threads false x y renewable other_renewable = other_renewable

outcome_renewable : (threads : ℕ) (graph : Graph) (thread : ℕ) (command : Command) → 1 ≤ thread → thread ≤ threads → IsValid command → IsRenewable threads graph → IsRenewable threads (outcome graph thread command).graph
outcome_renewable threads graph thread (New dst refs nums) thread_least thread_most valid_command renewable =
    root_renewable threads (with_fresh graph thread (blank refs nums)) thread dst (Some (fresh graph thread)) (inr (thread_least, thread_most)) (fresh_renewable threads graph thread refs nums valid_command.1 valid_command.2 renewable)
outcome_renewable threads graph thread (Get dst src field) thread_least thread_most valid_command renewable =
    on_renewable threads (field_at graph thread src field) graph _ renewable (λ found_value value_found.
    root_renewable threads graph thread dst found_value (element_of_all (IsOfThreads threads) (named graph (graph.root thread src)).refs field found_value (refs_named threads graph (graph.root thread src) renewable) value_found) renewable)
outcome_renewable threads graph thread (Set obj field val) thread_least thread_most valid_command renewable =
    on_renewable threads (field_at graph thread obj field) graph _ renewable (λ found_value value_found. refs_renewable threads graph (graph.root thread obj) field (graph.root thread val) (renewable.root thread val) renewable)
outcome_renewable threads graph thread (Cas obj field expect val) thread_least thread_most valid_command renewable =
    on_renewable threads (field_at graph thread obj field) graph _ renewable (λ found_value value_found.
    either_renewable threads (same_reference found_value (graph.root thread expect)) _ _ (refs_renewable threads graph (graph.root thread obj) field (graph.root thread val) (renewable.root thread val) renewable) renewable)
outcome_renewable threads graph thread (Xchg dst obj field val) thread_least thread_most valid_command renewable =
    on_renewable threads (field_at graph thread obj field) graph _ renewable (λ found_value value_found.
    let was_named = element_of_all (IsOfThreads threads) (named graph (graph.root thread obj)).refs field found_value (refs_named threads graph (graph.root thread obj) renewable) value_found in
    root_renewable threads (with_field graph thread obj field (graph.root thread val)) thread dst found_value was_named (refs_renewable threads graph (graph.root thread obj) field (graph.root thread val) (renewable.root thread val) renewable))
outcome_renewable threads graph thread (Rd obj index) thread_least thread_most valid_command renewable = on_renewable threads (number_at graph thread obj index) graph _ renewable (λ found_value value_found. renewable)
outcome_renewable threads graph thread (Wr obj index value) thread_least thread_most valid_command renewable =
    on_renewable threads (number_at graph thread obj index) graph _ renewable (λ found_value value_found. nums_renewable threads graph (graph.root thread obj) index value renewable)
outcome_renewable threads graph thread (Copy dst src) thread_least thread_most valid_command renewable = root_renewable threads graph thread dst (graph.root thread src) (renewable.root thread src) renewable
outcome_renewable threads graph thread (Drop dst) thread_least thread_most valid_command renewable = root_renewable threads graph thread dst None tt renewable
outcome_renewable threads graph thread (Same left_root right_root) thread_least thread_most valid_command renewable = renewable
outcome_renewable threads graph thread Gc thread_least thread_most valid_command renewable = renewable
outcome_renewable threads graph thread (Pin slot obj) thread_least thread_most valid_command renewable = renewable
outcome_renewable threads graph thread (Unpin slot) thread_least thread_most valid_command renewable = on_renewable threads (graph.pin thread slot) graph _ renewable (λ found_value value_found. pin_renewable threads graph thread slot None tt renewable)

-- what a command pins
pinned_named : (threads : ℕ) (graph : Graph) (thread : ℕ) (command : Command) → IsRenewable threads graph → IsOfThreads threads (pinned_by graph thread command)
pinned_named threads graph thread (New dst refs nums) renewable = tt
pinned_named threads graph thread (Get dst src field) renewable = tt
pinned_named threads graph thread (Set obj field val) renewable = tt
pinned_named threads graph thread (Cas obj field expect val) renewable = tt
pinned_named threads graph thread (Xchg dst obj field val) renewable = tt
pinned_named threads graph thread (Rd obj index) renewable = tt
pinned_named threads graph thread (Wr obj index value) renewable = tt
pinned_named threads graph thread (Copy dst src) renewable = tt
pinned_named threads graph thread (Drop dst) renewable = tt
pinned_named threads graph thread (Same left_root right_root) renewable = tt
pinned_named threads graph thread Gc renewable = tt
pinned_named threads graph thread (Pin slot obj) renewable = either_named threads (is_some (graph.pin thread slot)) None (graph.root thread obj) tt (renewable.root thread obj)
pinned_named threads graph thread (Unpin slot) renewable = tt

-- ---- histories

pub opening_renewable : (threads : ℕ) → IsRenewable threads (opening threads)
opening_renewable threads = record {
  root = λ thread index. either_named threads _ (Some hub) None (inl refl) tt;
  object = λ name found_object has_object. object_either threads (same_name name hub) (blank 16 0) None found_object hub_short (λ no_object. absurd cc) has_object;
  pin = λ thread slot. tt;
}
  where
    hub_short : IsShortObject threads (blank 16 0)
    hub_short = record { refs = All-replicate (IsOfThreads threads) 16 None tt; few_refs = omega arith; few_nums = omega arith }

entry_renewable : (threads regions region_words : ℕ) (graph : Graph) (entry : Entry) (next_graph : Graph) → IsEntryOf threads entry → IsLegal regions region_words graph entry.thread entry.command entry.reply next_graph → IsRenewable threads graph → IsRenewable threads next_graph
entry_renewable threads regions region_words graph entry next_graph range (inl legal_step) renewable =
    subst (IsRenewable threads) (sym (ap (λ (any_outcome : Outcome). any_outcome.graph) legal_step.1)) (outcome_renewable threads graph entry.thread entry.command range.from_first range.to_last range.valid renewable)
entry_renewable threads regions region_words graph entry next_graph range (inr (inl full_reply)) renewable = subst (IsRenewable threads) (sym full_reply.2) renewable
entry_renewable threads regions region_words graph entry next_graph range (inr (inr pinning)) renewable =
    let named_too = subst (IsOfThreads threads) pinning.pins (pinned_named threads graph entry.thread entry.command renewable) in
    subst (IsRenewable threads) (sym pinning.graph) (pin_renewable threads graph entry.thread (slot_of entry.command) (Some (record { name = pinning.name; place = pinning.place })) named_too renewable)

pub history_renewable : (threads regions region_words : ℕ) (graph : Graph) (entries : List Entry) → EachIsLegal regions region_words graph entries → All (IsEntryOf threads) entries → IsRenewable threads graph → IsRenewable threads (after graph entries)
history_renewable threads regions region_words graph [] legal range renewable = renewable
history_renewable threads regions region_words graph (entry ∷ entries) legal range renewable =
    history_renewable threads regions region_words (after_entry graph entry) entries legal.1 (All-tail (IsEntryOf threads) entry entries range)
    (entry_renewable threads regions region_words graph entry (after_entry graph entry) (All-head (IsEntryOf threads) entry entries range) legal.0 renewable)
