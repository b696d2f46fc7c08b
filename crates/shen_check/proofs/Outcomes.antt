-- What outcomes have in common.
use Rattle.std.proofs.Common.{ℕ, ◌≡◌, ◌+◌, ◌≤◌, Bool, true, false, ◌<◌, ◌&&◌, Option, Some, None, inl, inr, refl, ap, sym, subst, arith}
use Rattle.std.specs.Prelude.{if◌then◌else◌, ◌==◌}
use Rattle.std.proofs.lemmas.Bool.Decides.{Decides-eqb, Decides-and}
use Rattle.std.proofs.lemmas.Option.{none-some}
use Rattle.shen_graph.specs.declared.name.Name.{Name}
use Rattle.shen_graph.specs.declared.pin.Pinned.{Pinned}
use Rattle.shen_graph.specs.declared.command.Command.{Command}
use Rattle.shen_graph.specs.declared.command.Command.TheVariants.{New, Get, Set, Cas, Xchg, Rd, Wr, Copy, Drop, Same, Gc, Pin, Unpin}
use Rattle.shen_graph.specs.declared.command.Reply.{Reply}
use Rattle.shen_graph.specs.declared.command.Reply.TheVariants as reply
use Rattle.shen_graph.specs.Graph.{Graph, Object, Reference, field_at, number_at, same_reference, with_field, with_named, with_pin, opening}
use Rattle.shen_graph.specs.Valid.{IsValid}
use Rattle.shen_graph.specs.History.{Entry, is_full, after_reply, after_entry}
use Rattle.shen_graph.specs.Step.{Outcome, answers, on, outcome, pinned_by, with_pinned, IsNew, IsLegal}
use Rattle.shen_check.specs.JudgeState.{HasPinsOf}

-- ---- only an allocation counts

named_count : (graph : Graph) (reference : Reference) (object : Object) (thread : ℕ) → (with_named graph reference object).count thread ≡ graph.count thread
named_count graph None object thread = refl
named_count graph (Some name) object thread = refl

on_count : {A : Type 0} (found : Option A) (graph : Graph) (outcome_of : A → Outcome) (thread : ℕ) → ((value : A) → (outcome_of value).graph.count thread ≡ graph.count thread) → (on found graph outcome_of).graph.count thread ≡ graph.count thread
on_count None graph outcome_of thread each_count = refl
on_count (Some value) graph outcome_of thread each_count = each_count value

if_count : (holds : Bool) (yes_outcome no_outcome : Outcome) (thread count : ℕ) → yes_outcome.graph.count thread ≡ count → no_outcome.graph.count thread ≡ count → (if holds then yes_outcome else no_outcome).graph.count thread ≡ count
if_count true yes_outcome no_outcome thread count yes_count no_count = yes_count
if_count false yes_outcome no_outcome thread count yes_count no_count = no_count

at_most : (holds : Bool) (made count : ℕ) → made ≡ count → made ≤ (if holds then count + 1 else count)
at_most true made count same_count = omega (arith, same_count)
at_most false made count same_count = omega (arith, same_count)

itself : (number : ℕ) → number ≤ number
itself number = omega arith

pub outcome_counts : (graph : Graph) (thread : ℕ) (command : Command) (other_thread : ℕ) → (outcome graph thread command).graph.count other_thread ≤ (if other_thread == thread then graph.count other_thread + 1 else graph.count other_thread)
outcome_counts graph thread (New dst refs nums) other_thread = itself (if other_thread == thread then graph.count other_thread + 1 else graph.count other_thread)
outcome_counts graph thread (Get dst src field) other_thread = at_most (other_thread == thread) _ (graph.count other_thread) (on_count (field_at graph thread src field) graph _ other_thread (λ found_value. refl))
outcome_counts graph thread (Set obj field val) other_thread = at_most (other_thread == thread) _ (graph.count other_thread) (on_count (field_at graph thread obj field) graph _ other_thread (λ found_value. named_count graph (graph.root thread obj) _ other_thread))
outcome_counts graph thread (Cas obj field expect val) other_thread = at_most (other_thread == thread) _ (graph.count other_thread) (on_count (field_at graph thread obj field) graph _ other_thread
    (λ found_value. if_count (same_reference found_value (graph.root thread expect)) (answers reply.Yes (with_field graph thread obj field (graph.root thread val))) (answers reply.No graph) other_thread (graph.count other_thread) (named_count graph (graph.root thread obj) _ other_thread) refl))
outcome_counts graph thread (Xchg dst obj field val) other_thread = at_most (other_thread == thread) _ (graph.count other_thread) (on_count (field_at graph thread obj field) graph _ other_thread (λ found_value. named_count graph (graph.root thread obj) _ other_thread))
outcome_counts graph thread (Rd obj index) other_thread = at_most (other_thread == thread) _ (graph.count other_thread) (on_count (number_at graph thread obj index) graph _ other_thread (λ found_value. refl))
outcome_counts graph thread (Wr obj index value) other_thread = at_most (other_thread == thread) _ (graph.count other_thread) (on_count (number_at graph thread obj index) graph _ other_thread (λ found_value. named_count graph (graph.root thread obj) _ other_thread))
outcome_counts graph thread (Copy dst src) other_thread = at_most (other_thread == thread) _ (graph.count other_thread) refl
outcome_counts graph thread (Drop dst) other_thread = at_most (other_thread == thread) _ (graph.count other_thread) refl
outcome_counts graph thread (Same first_root second_root) other_thread = at_most (other_thread == thread) _ (graph.count other_thread) refl
outcome_counts graph thread Gc other_thread = at_most (other_thread == thread) _ (graph.count other_thread) refl
outcome_counts graph thread (Pin slot obj) other_thread = at_most (other_thread == thread) _ (graph.count other_thread) refl
outcome_counts graph thread (Unpin slot) other_thread = at_most (other_thread == thread) _ (graph.count other_thread) (on_count (graph.pin thread slot) graph _ other_thread (λ found_value. refl))

-- ---- after a reply

-- a fact of the outcome and of a pinned object is one of what a reply leaves
pub left_by : (P : Graph → Type 0) (graph : Graph) (thread : ℕ) (command : Command) (answer : Reply) → P graph → P (outcome graph thread command).graph
    → ((slot obj place : ℕ) (name : Name) → command ≡ Pin slot obj → P (with_pin graph thread slot (Some (record { name = name; place = place })))) → P (after_reply graph thread command answer)
left_by P graph thread (Pin slot obj) (reply.At place) kept_fact outcome_fact pinned = by_name (pinned_by graph thread (Pin slot obj))
  where
    by_name : (reference : Reference) → P (with_pinned graph thread slot reference place)
    by_name None = kept_fact
    by_name (Some name) = pinned slot obj place name refl
left_by P graph thread command answer kept_fact outcome_fact pinned = outcome_fact

pub reply_counts : (graph : Graph) (other_thread : ℕ) (command : Command) (answer : Reply) (thread : ℕ) → (after_reply graph other_thread command answer).count thread ≤ (if thread == other_thread then graph.count thread + 1 else graph.count thread)
reply_counts graph other_thread command answer thread =
    left_by (λ (other_graph : Graph). other_graph.count thread ≤ (if thread == other_thread then graph.count thread + 1 else graph.count thread)) graph other_thread command answer (at_most (thread == other_thread) (graph.count thread) (graph.count thread) refl) (outcome_counts graph other_thread command thread) (λ slot obj place name pin_command. at_most (thread == other_thread) (graph.count thread) (graph.count thread) refl)

entry_count : (was_full : Bool) (graph next_graph : Graph) (thread count : ℕ) (holds : Bool) → next_graph.count thread ≤ (if holds then count + 1 else count) → graph.count thread ≡ count → (if was_full then graph else next_graph).count thread ≤ (if holds then count + 1 else count)
entry_count true graph next_graph thread count holds count_bound same_count = at_most holds (graph.count thread) count same_count
entry_count false graph next_graph thread count holds at_most same_count = at_most

pub entry_counts : (graph : Graph) (entry : Entry) (thread : ℕ) → (after_entry graph entry).count thread ≤ (if thread == entry.thread then graph.count thread + 1 else graph.count thread)
entry_counts graph entry thread = entry_count (is_full entry.reply) graph (after_reply graph entry.thread entry.command entry.reply) thread (graph.count thread) (thread == entry.thread) (reply_counts graph entry.thread entry.command entry.reply thread) refl

-- ---- what is pinned stands in the slots of the threads

on_pins : {A : Type 0} (threads : ℕ) (found : Option A) (graph : Graph) (outcome_of : A → Outcome) → HasPinsOf threads graph → ((value : A) → HasPinsOf threads (outcome_of value).graph) → HasPinsOf threads (on found graph outcome_of).graph
on_pins threads None graph outcome_of pins each_pins = pins
on_pins threads (Some value) graph outcome_of pins each_pins = each_pins value

if_pins : (threads : ℕ) (holds : Bool) (yes_outcome no_outcome : Outcome) → HasPinsOf threads yes_outcome.graph → HasPinsOf threads no_outcome.graph → HasPinsOf threads (if holds then yes_outcome else no_outcome).graph
if_pins threads true yes_outcome no_outcome has_pins_of other_pins = has_pins_of
if_pins threads false yes_outcome no_outcome has_pins_of other_pins = other_pins

named_pins : (threads : ℕ) (graph : Graph) (reference : Reference) (object : Object) → HasPinsOf threads graph → HasPinsOf threads (with_named graph reference object)
named_pins threads graph None object pins = pins
named_pins threads graph (Some name) object pins = pins

-- a slot that is emptied, or filled
empty_pins : (threads : ℕ) (graph : Graph) (thread slot : ℕ) → HasPinsOf threads graph → HasPinsOf threads (with_pin graph thread slot None)
empty_pins threads graph thread slot pins asked_thread asked_slot pinned pin_there = by_test ((asked_thread == thread) && (asked_slot == slot)) pin_there
  where
    by_test : (holds : Bool) → (if holds then None else graph.pin asked_thread asked_slot) ≡ Some pinned → (1 ≤ asked_thread) × (asked_thread ≤ threads) × (asked_slot < 4)
    by_test true pin_found = absurd (none-some pinned pin_found)
    by_test false pin_found = pins asked_thread asked_slot pinned pin_found

full_pins : (threads : ℕ) (graph : Graph) (thread slot : ℕ) (found : Option Pinned) → 1 ≤ thread → thread ≤ threads → slot < 4 → HasPinsOf threads graph → HasPinsOf threads (with_pin graph thread slot found)
full_pins threads graph thread slot found low high slot_below pins asked_thread asked_slot pinned pin_there = by_test ((asked_thread == thread) && (asked_slot == slot)) refl pin_there
  where
    by_test : (holds : Bool) → ((asked_thread == thread) && (asked_slot == slot)) ≡ holds → (if holds then found else graph.pin asked_thread asked_slot) ≡ Some pinned → (1 ≤ asked_thread) × (asked_thread ≤ threads) × (asked_slot < 4)
    by_test true tested pin_found =
        let both_same = (Decides-and (asked_thread == thread) (asked_slot == slot) (Decides-eqb asked_thread thread) (Decides-eqb asked_slot slot)).0 tested in
        (omega (arith, low, both_same.0), omega (arith, high, both_same.0), omega (arith, slot_below, both_same.1))
    by_test false tested pin_found = pins asked_thread asked_slot pinned pin_found

outcome_pins : (threads : ℕ) (graph : Graph) (thread : ℕ) (command : Command) → HasPinsOf threads graph → HasPinsOf threads (outcome graph thread command).graph
outcome_pins threads graph thread (New dst refs nums) pins = pins
outcome_pins threads graph thread (Get dst src field) pins = on_pins threads (field_at graph thread src field) graph _ pins (λ found_value. pins)
outcome_pins threads graph thread (Set obj field val) pins = on_pins threads (field_at graph thread obj field) graph _ pins (λ found_value. named_pins threads graph (graph.root thread obj) _ pins)
outcome_pins threads graph thread (Cas obj field expect val) pins = on_pins threads (field_at graph thread obj field) graph _ pins
    (λ found_value. if_pins threads (same_reference found_value (graph.root thread expect)) (answers reply.Yes (with_field graph thread obj field (graph.root thread val))) (answers reply.No graph) (named_pins threads graph (graph.root thread obj) _ pins) pins)
outcome_pins threads graph thread (Xchg dst obj field val) pins = on_pins threads (field_at graph thread obj field) graph _ pins (λ found_value. named_pins threads graph (graph.root thread obj) _ pins)
outcome_pins threads graph thread (Rd obj index) pins = on_pins threads (number_at graph thread obj index) graph _ pins (λ found_value. pins)
outcome_pins threads graph thread (Wr obj index value) pins = on_pins threads (number_at graph thread obj index) graph _ pins (λ found_value. named_pins threads graph (graph.root thread obj) _ pins)
outcome_pins threads graph thread (Copy dst src) pins = pins
outcome_pins threads graph thread (Drop dst) pins = pins
outcome_pins threads graph thread (Same first_root second_root) pins = pins
outcome_pins threads graph thread Gc pins = pins
outcome_pins threads graph thread (Pin slot obj) pins = pins
outcome_pins threads graph thread (Unpin slot) pins = on_pins threads (graph.pin thread slot) graph _ pins (λ found_value. empty_pins threads graph thread slot pins)

pin_slot : (command : Command) (slot obj : ℕ) → IsValid command → command ≡ Pin slot obj → slot < 4
pin_slot command slot obj valid pin_command = (subst IsValid pin_command valid).0

reply_pins : (threads : ℕ) (graph : Graph) (thread : ℕ) (command : Command) (answer : Reply) → 1 ≤ thread → thread ≤ threads → IsValid command → HasPinsOf threads graph → HasPinsOf threads (after_reply graph thread command answer)
reply_pins threads graph thread command answer low high valid pins =
    left_by (HasPinsOf threads) graph thread command answer pins (outcome_pins threads graph thread command pins) (λ slot obj place name pin_command. full_pins threads graph thread slot (Some (record { name = name; place = place })) low high (pin_slot command slot obj valid pin_command) pins)

full_or_not : (threads : ℕ) (was_full : Bool) (graph next_graph : Graph) → HasPinsOf threads graph → HasPinsOf threads next_graph → HasPinsOf threads (if was_full then graph else next_graph)
full_or_not threads true graph next_graph has_pins_of next_pins = has_pins_of
full_or_not threads false graph next_graph has_pins_of next_pins = next_pins

pub entry_pins : (threads : ℕ) (graph : Graph) (entry : Entry) → 1 ≤ entry.thread → entry.thread ≤ threads → IsValid entry.command → HasPinsOf threads graph → HasPinsOf threads (after_entry graph entry)
entry_pins threads graph entry low high valid pins = full_or_not threads (is_full entry.reply) graph (after_reply graph entry.thread entry.command entry.reply) pins (reply_pins threads graph entry.thread entry.command entry.reply low high valid pins)

pub opening_pins : (threads thread_count : ℕ) → HasPinsOf threads (opening thread_count)
opening_pins threads thread_count thread slot pinned pin_there = absurd (none-some pinned pin_there)

-- ---- legal answers

-- an allocation may be answered Full
pub full_is : (regions region_words : ℕ) (graph : Graph) (entry : Entry) → entry.reply ≡ reply.Full → IsNew entry.command → IsLegal regions region_words graph entry.thread entry.command entry.reply (after_entry graph entry) × (graph ≡ after_entry graph entry)
full_is regions region_words graph entry answered_full new =
    let same_graph : after_entry graph entry ≡ graph = ap (λ (answer : Reply). if is_full answer then graph else after_reply graph entry.thread entry.command answer) answered_full in
    (inr (inl (new, answered_full, same_graph)), sym same_graph)
