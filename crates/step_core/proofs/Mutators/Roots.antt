-- Commands in range change no root and no pin slot that a thread does not have.
use Rattle.std.proofs.Common.{ℕ, ◌≡◌, ◌≤◌, Bool, true, false, List, [], ◌∷◌, All, Option, Some, None, refl, ap, ◌∙◌, arith}
use Rattle.std.specs.Prelude.{slice_set, if◌then◌else◌}
use Rattle.std.proofs.lemmas.List.Elements.{All-head, All-tail}
use Rattle.std.proofs.lemmas.Bool.Decides.{nat_tests}
use Rattle.shen_graph.specs.declared.command.Command.{Command}
use Rattle.shen_graph.specs.declared.command.Command.TheVariants.{New, Get, Set, Cas, Xchg, Rd, Wr, Copy, Drop, Same, Gc, Pin, Unpin}
use Rattle.shen_graph.specs.Graph as graphs
use Rattle.shen_graph.specs.Graph.{Graph, Reference, Object, named, with_root, with_pin, with_named, with_field, with_number, with_fresh, fresh, blank, field_at, number_at, same_reference}
use Rattle.shen_graph.specs.Step.{Outcome, answers, shown, on, outcome, pinned_by, with_pinned}
use Rattle.shen_graph.specs.declared.pin.Pinned.{Pinned}
use Rattle.shen_graph.specs.declared.command.Reply.{Reply}
use Rattle.shen_graph.specs.declared.command.Reply.TheVariants as reply
use Rattle.shen_graph.specs.History.{Entry, is_full, after_reply, after_entry, after}
use Rattle.shen_graph.specs.Valid.{is_root, is_slot, is_valid, fits_value}
use Rattle.std.proofs.lemmas.Bool.{and_parts}
use Rattle.step_core.specs.Threads.{IsSettled}
use Rattle.heap_world.specs.Roots.{HasNoMoreRoots, HasNoMorePins}

-- the opening has no roots but those of its threads
pub no_more_opening : (threads : ℕ) → HasNoMoreRoots threads (graphs.opening threads)
no_more_opening threads thread index no_such_root = grind (arith, nat_tests)

-- a reference goes into a root of a thread
with_root_keeps : (threads : ℕ) (graph : Graph) (thread index : ℕ) (reference : Reference) → 1 ≤ thread → thread ≤ threads → is_root index ≡ true → HasNoMoreRoots threads graph → HasNoMoreRoots threads (with_root graph thread index reference)
with_root_keeps threads graph thread index reference from_one to_last root has_no_more_roots any_thread any_index no_such_root =
    let no_root_before = has_no_more_roots any_thread any_index no_such_root in
    grind (arith, nat_tests)

-- a change of an object changes no root
named_keeps : (threads : ℕ) (graph : Graph) (reference : Reference) (object : Object) → HasNoMoreRoots threads graph → HasNoMoreRoots threads (with_named graph reference object)
named_keeps threads graph None object has_no_more_roots = has_no_more_roots
named_keeps threads graph (Some name) object has_no_more_roots = has_no_more_roots

-- a change on an object that may be missing
on_keeps : {A : Type 0} (threads : ℕ) (found : Option A) (graph : Graph) (f : A → Outcome) → HasNoMoreRoots threads graph → ((x : A) → HasNoMoreRoots threads (f x).graph) → HasNoMoreRoots threads (on found graph f).graph
on_keeps threads None graph f has_no_more_roots each_keeps = has_no_more_roots
on_keeps threads (Some x) graph f has_no_more_roots each_keeps = each_keeps x

-- one of two changes
either_keeps : (threads : ℕ) (holds : Bool) (x y : Outcome) → HasNoMoreRoots threads x.graph → HasNoMoreRoots threads y.graph → HasNoMoreRoots threads (if holds then x else y).graph
either_keeps threads true x y has_no_more_roots second_keeps = has_no_more_roots
either_keeps threads false x y has_no_more_roots second_keeps = second_keeps

-- a change of a field
field_keeps : (threads : ℕ) (graph : Graph) (thread obj field : ℕ) (reference : Reference) → HasNoMoreRoots threads graph → HasNoMoreRoots threads (with_field graph thread obj field reference)
field_keeps threads graph thread obj field reference has_no_more_roots = named_keeps threads graph (graph.root thread obj) (record { refs = slice_set (named graph (graph.root thread obj)).refs field reference; nums = (named graph (graph.root thread obj)).nums }) has_no_more_roots

-- a change of a number
number_keeps : (threads : ℕ) (graph : Graph) (thread obj index value : ℕ) → HasNoMoreRoots threads graph → HasNoMoreRoots threads (with_number graph thread obj index value)
number_keeps threads graph thread obj index value has_no_more_roots = named_keeps threads graph (graph.root thread obj) (record { refs = (named graph (graph.root thread obj)).refs; nums = slice_set (named graph (graph.root thread obj)).nums index value }) has_no_more_roots

module _ (threads thread : ℕ) (from_one : 1 ≤ thread) (to_last : thread ≤ threads) (graph : Graph) (no_more_roots : HasNoMoreRoots threads graph) where
  -- each command in range
  outcome_keeps : (command : Command) → is_valid command ≡ true → HasNoMoreRoots threads (outcome graph thread command).graph
  outcome_keeps (New dst refs nums) valid_command =
      with_root_keeps threads (with_fresh graph thread (blank refs nums)) thread dst (Some (fresh graph thread)) from_one to_last (and_parts _ _ valid_command).0 no_more_roots
  outcome_keeps (Get dst src field) valid_command =
      on_keeps threads (field_at graph thread src field) graph (λ found_value. answers (shown found_value) (with_root graph thread dst found_value)) no_more_roots
      (λ reference. with_root_keeps threads graph thread dst reference from_one to_last (and_parts _ _ valid_command).0 no_more_roots)
  outcome_keeps (Set obj field val) valid_command =
      on_keeps threads (field_at graph thread obj field) graph (λ found_value. answers reply.Ok (with_field graph thread obj field (graph.root thread val))) no_more_roots
      (λ found_value. field_keeps threads graph thread obj field (graph.root thread val) no_more_roots)
  outcome_keeps (Cas obj field expect val) valid_command =
      let swapped = answers reply.Yes (with_field graph thread obj field (graph.root thread val)) in
      let left_alone = answers reply.No graph in
      on_keeps threads (field_at graph thread obj field) graph (λ found_value. if same_reference found_value (graph.root thread expect) then swapped else left_alone) no_more_roots
      (λ found_value. either_keeps threads (same_reference found_value (graph.root thread expect)) swapped left_alone (field_keeps threads graph thread obj field (graph.root thread val) no_more_roots) no_more_roots)
  outcome_keeps (Xchg dst obj field val) valid_command =
      on_keeps threads (field_at graph thread obj field) graph (λ found_value. answers (shown found_value) (with_root (with_field graph thread obj field (graph.root thread val)) thread dst found_value)) no_more_roots
      (λ reference. with_root_keeps threads (with_field graph thread obj field (graph.root thread val)) thread dst reference from_one to_last (and_parts _ _ valid_command).0
      (field_keeps threads graph thread obj field (graph.root thread val) no_more_roots))
  outcome_keeps (Rd obj index) valid_command =
      on_keeps threads (number_at graph thread obj index) graph (λ found_number. answers (reply.Number found_number) graph) no_more_roots (λ found_value. no_more_roots)
  outcome_keeps (Wr obj index value) valid_command =
      on_keeps threads (number_at graph thread obj index) graph (λ found_value. answers reply.Ok (with_number graph thread obj index value)) no_more_roots
      (λ found_value. number_keeps threads graph thread obj index value no_more_roots)
  outcome_keeps (Copy dst src) valid_command = with_root_keeps threads graph thread dst (graph.root thread src) from_one to_last (and_parts _ _ valid_command).0 no_more_roots
  outcome_keeps (Drop dst) valid_command = with_root_keeps threads graph thread dst None from_one to_last valid_command no_more_roots
  outcome_keeps (Same first_root second_root) valid_command = no_more_roots
  outcome_keeps Gc valid_command = no_more_roots
  outcome_keeps (Pin slot obj) valid_command = no_more_roots
  outcome_keeps (Unpin slot) valid_command = on_keeps threads (graph.pin thread slot) graph (λ _. answers reply.Ok (with_pin graph thread slot None)) no_more_roots (λ found_value. no_more_roots)

  -- a pin changes no root
  pinned_keeps : (slot place : ℕ) (reference : Reference) → HasNoMoreRoots threads (with_pinned graph thread slot reference place)
  pinned_keeps slot place None = no_more_roots
  pinned_keeps slot place (Some name) = no_more_roots

  -- so does each reply
  reply_keeps : (command : Command) (answer : Reply) → is_valid command ≡ true → HasNoMoreRoots threads (after_reply graph thread command answer)
  reply_keeps (Pin slot obj) (reply.At place) valid_command = pinned_keeps slot place (pinned_by graph thread (Pin slot obj))
  reply_keeps (Pin slot obj) _ valid_command = no_more_roots
  reply_keeps command answer valid_command = outcome_keeps command valid_command

-- each settled entry
entry_keeps : (threads : ℕ) (graph : Graph) (entry : Entry) → IsSettled threads entry → HasNoMoreRoots threads graph → HasNoMoreRoots threads (after_entry graph entry)
entry_keeps threads graph entry settled_entry has_no_more_roots = by_full (is_full entry.reply)
  where
    by_full : (holds : Bool) → HasNoMoreRoots threads (if holds then graph else after_reply graph entry.thread entry.command entry.reply)
    by_full true = has_no_more_roots
    by_full false = reply_keeps threads entry.thread settled_entry.least settled_entry.most graph has_no_more_roots entry.command entry.reply (and_parts (is_valid entry.command) (fits_value entry.command) settled_entry.valid).0

-- the same after a whole history
pub no_more_after : (threads : ℕ) (graph : Graph) (entries : List Entry) → All (IsSettled threads) entries → HasNoMoreRoots threads graph → HasNoMoreRoots threads (after graph entries)
no_more_after threads graph [] each_settled has_no_more_roots = has_no_more_roots
no_more_after threads graph (entry ∷ entries) each_settled has_no_more_roots =
    no_more_after threads (after_entry graph entry) entries (All-tail (IsSettled threads) entry entries each_settled) (entry_keeps threads graph entry (All-head (IsSettled threads) entry entries each_settled) has_no_more_roots)

-- the opening has nothing pinned
pub no_more_pins_opening : (threads : ℕ) → HasNoMorePins threads (graphs.opening threads)
no_more_pins_opening threads thread index no_such_slot = refl

-- something goes into a pin slot of a thread
with_pin_keeps : (threads : ℕ) (graph : Graph) (thread slot : ℕ) (held : Option Pinned) → 1 ≤ thread → thread ≤ threads → is_slot slot ≡ true → HasNoMorePins threads graph → HasNoMorePins threads (with_pin graph thread slot held)
with_pin_keeps threads graph thread slot held from_one to_last slot_fits has_no_more_pins any_thread any_slot no_such_slot =
    let no_pin_before = has_no_more_pins any_thread any_slot no_such_slot in
    grind (arith, nat_tests)

-- what a command does that pins and unpins nothing leaves all slots as they are
on_pins : {A : Type 0} (found : Option A) (graph : Graph) (f : A → Outcome) → ((x : A) → (f x).graph.pin ≡ graph.pin) → (on found graph f).graph.pin ≡ graph.pin
on_pins None graph f pins_same = refl
on_pins (Some x) graph f pins_same = pins_same x

named_pins : (graph : Graph) (reference : Reference) (object : Object) → (with_named graph reference object).pin ≡ graph.pin
named_pins graph None object = refl
named_pins graph (Some name) object = refl

either_pins : (holds : Bool) (x y : Outcome) (graph : Graph) → x.graph.pin ≡ graph.pin → y.graph.pin ≡ graph.pin → (if holds then x else y).graph.pin ≡ graph.pin
either_pins true x y graph first_same second_same = first_same
either_pins false x y graph first_same second_same = second_same

field_pins : (graph : Graph) (thread obj field : ℕ) (reference : Reference) → (with_field graph thread obj field reference).pin ≡ graph.pin
field_pins graph thread obj field reference = named_pins graph (graph.root thread obj) (record { refs = slice_set (named graph (graph.root thread obj)).refs field reference; nums = (named graph (graph.root thread obj)).nums })

number_pins : (graph : Graph) (thread obj index value : ℕ) → (with_number graph thread obj index value).pin ≡ graph.pin
number_pins graph thread obj index value = named_pins graph (graph.root thread obj) (record { refs = (named graph (graph.root thread obj)).refs; nums = slice_set (named graph (graph.root thread obj)).nums index value })

module _ (threads thread : ℕ) (from_one : 1 ≤ thread) (to_last : thread ≤ threads) (graph : Graph) (no_more_pins : HasNoMorePins threads graph) where
  -- where the slots are the same
  same_pins : (graph_then : Graph) → graph_then.pin ≡ graph.pin → HasNoMorePins threads graph_then
  same_pins graph_then pins_same any_thread any_slot no_such_slot = ap (λ pins. pins any_thread any_slot) pins_same ∙ no_more_pins any_thread any_slot no_such_slot

  emptied_keeps : (slot : ℕ) (held : Option Pinned) → is_slot slot ≡ true → HasNoMorePins threads (on held graph (λ _. answers reply.Ok (with_pin graph thread slot None))).graph
  emptied_keeps slot None valid_slot = no_more_pins
  emptied_keeps slot (Some pinned) valid_slot = with_pin_keeps threads graph thread slot None from_one to_last valid_slot no_more_pins

  pinned_keep : (slot place : ℕ) (reference : Reference) → is_slot slot ≡ true → HasNoMorePins threads (with_pinned graph thread slot reference place)
  pinned_keep slot place None valid_slot = no_more_pins
  pinned_keep slot place (Some name) valid_slot = with_pin_keeps threads graph thread slot (Some (record { name = name; place = place })) from_one to_last valid_slot no_more_pins

  -- so after each reply
  reply_keep : (command : Command) (answer : Reply) → is_valid command ≡ true → HasNoMorePins threads (after_reply graph thread command answer)
  reply_keep (Pin slot obj) (reply.At place) valid_command = pinned_keep slot place (pinned_by graph thread (Pin slot obj)) (and_parts _ _ valid_command).0
  reply_keep (Pin slot obj) _ valid_command = no_more_pins
  reply_keep (Unpin slot) answer valid_command = emptied_keeps slot (graph.pin thread slot) valid_command
  reply_keep (New dst refs nums) answer valid_command = no_more_pins
  reply_keep (Get dst src field) answer valid_command = same_pins (outcome graph thread (Get dst src field)).graph (on_pins (field_at graph thread src field) graph (λ found_value. answers (shown found_value) (with_root graph thread dst found_value)) (λ found_value. refl))
  reply_keep (Set obj field val) answer valid_command = same_pins (outcome graph thread (Set obj field val)).graph
      (on_pins (field_at graph thread obj field) graph (λ found_value. answers reply.Ok (with_field graph thread obj field (graph.root thread val))) (λ found_value. field_pins graph thread obj field (graph.root thread val)))
  reply_keep (Cas obj field expect val) answer valid_command =
      let swapped = answers reply.Yes (with_field graph thread obj field (graph.root thread val)) in
      let left_alone = answers reply.No graph in
      same_pins (outcome graph thread (Cas obj field expect val)).graph
      (on_pins (field_at graph thread obj field) graph (λ found_value. if same_reference found_value (graph.root thread expect) then swapped else left_alone)
      (λ found_value. either_pins (same_reference found_value (graph.root thread expect)) swapped left_alone graph (field_pins graph thread obj field (graph.root thread val)) refl))
  reply_keep (Xchg dst obj field val) answer valid_command = same_pins (outcome graph thread (Xchg dst obj field val)).graph
      (on_pins (field_at graph thread obj field) graph (λ found_value. answers (shown found_value) (with_root (with_field graph thread obj field (graph.root thread val)) thread dst found_value)) (λ found_value. field_pins graph thread obj field (graph.root thread val)))
  reply_keep (Rd obj index) answer valid_command = same_pins (outcome graph thread (Rd obj index)).graph (on_pins (number_at graph thread obj index) graph (λ found_number. answers (reply.Number found_number) graph) (λ found_number. refl))
  reply_keep (Wr obj index value) answer valid_command = same_pins (outcome graph thread (Wr obj index value)).graph
      (on_pins (number_at graph thread obj index) graph (λ found_value. answers reply.Ok (with_number graph thread obj index value)) (λ found_value. number_pins graph thread obj index value))
  reply_keep _ answer valid_command = no_more_pins

-- and each settled entry
entry_keep : (threads : ℕ) (graph : Graph) (entry : Entry) → IsSettled threads entry → HasNoMorePins threads graph → HasNoMorePins threads (after_entry graph entry)
entry_keep threads graph entry settled_entry has_no_more_pins = by_full (is_full entry.reply)
  where
    by_full : (holds : Bool) → HasNoMorePins threads (if holds then graph else after_reply graph entry.thread entry.command entry.reply)
    by_full true = has_no_more_pins
    by_full false = reply_keep threads entry.thread settled_entry.least settled_entry.most graph has_no_more_pins entry.command entry.reply (and_parts (is_valid entry.command) (fits_value entry.command) settled_entry.valid).0

pub no_more_pins_after : (threads : ℕ) (graph : Graph) (entries : List Entry) → All (IsSettled threads) entries → HasNoMorePins threads graph → HasNoMorePins threads (after graph entries)
no_more_pins_after threads graph [] each_settled has_no_more_pins = has_no_more_pins
no_more_pins_after threads graph (entry ∷ entries) each_settled has_no_more_pins =
    no_more_pins_after threads (after_entry graph entry) entries (All-tail (IsSettled threads) entry entries each_settled) (entry_keep threads graph entry (All-head (IsSettled threads) entry entries each_settled) has_no_more_pins)
