-- What each command answers and does.
use Rattle.std.specs.Prelude.{ℕ, ◌≡◌, ◌+◌, ◌*◌, ◌<◌, ◌≤◌, ◌⊎◌, Bool, Option, Some, None, is_some, if◌then◌else◌}
use Rattle.shen_graph.specs.declared.command.Command.{Command}
use Rattle.shen_graph.specs.declared.command.Command.TheVariants.{New, Get, Set, Cas, Xchg, Rd, Wr, Copy, Drop, Same, Gc, Pin, Unpin}
use Rattle.shen_graph.specs.declared.command.Reply.{Reply}
use Rattle.shen_graph.specs.declared.command.Reply.TheVariants as reply
use Rattle.shen_graph.specs.declared.name.Name.{Name}
use Rattle.shen_graph.specs.declared.pin.Pinned.{Pinned}
use Rattle.shen_graph.specs.Graph.{Graph, Reference, same_reference, blank, field_at, number_at, with_root, with_field, with_number, with_fresh, with_pin, fresh}

-- the reply that shows a reference
abbrev pub shown : Reference → Reply
shown None = reply.Null
shown (Some name) = reply.Ref name

-- yes or no
abbrev pub yes_or_no : Bool → Reply
yes_or_no holds = if holds then reply.Yes else reply.No

-- the reference that was found, or Bad
abbrev pub shown_at : Option Reference → Reply
shown_at None = reply.Bad
shown_at (Some reference) = shown reference

-- done, or Bad
abbrev pub ok_or_bad : Bool → Reply
ok_or_bad holds = if holds then reply.Ok else reply.Bad

-- an answer, and the graph that is left
pub record Outcome : Type 0 where
  pub reply : Reply
  pub graph : Graph

abbrev pub answers : Reply → Graph → Outcome
answers answer graph = record { reply = answer; graph = graph }

-- Bad where there is none, and then nothing changes
abbrev pub on : {A : Type 0} → Option A → Graph → (A → Outcome) → Outcome
on None graph f = answers reply.Bad graph
on (Some v) graph f = f v

-- The answer of a command of a thread, where there is room for an object that it makes, and where it pins none: the place
-- of an object that is pinned is no function of the graph. What is not named stays
abbrev pub outcome : Graph → ℕ → Command → Outcome
outcome graph thread (New dst refs nums) = answers (reply.Ref (fresh graph thread)) (with_root (with_fresh graph thread (blank refs nums)) thread dst (Some (fresh graph thread)))
outcome graph thread (Get dst src field) = on (field_at graph thread src field) graph (λ reference. answers (shown reference) (with_root graph thread dst reference))
outcome graph thread (Set obj field val) = on (field_at graph thread obj field) graph (λ _. answers reply.Ok (with_field graph thread obj field (graph.root thread val)))
outcome graph thread (Cas obj field expect val) = on (field_at graph thread obj field) graph (λ reference.
    if same_reference reference (graph.root thread expect) then answers reply.Yes (with_field graph thread obj field (graph.root thread val)) else answers reply.No graph)
outcome graph thread (Xchg dst obj field val) = on (field_at graph thread obj field) graph (λ reference. answers (shown reference) (with_root (with_field graph thread obj field (graph.root thread val)) thread dst reference))
outcome graph thread (Rd obj index) = on (number_at graph thread obj index) graph (λ number. answers (reply.Number number) graph)
outcome graph thread (Wr obj index value) = on (number_at graph thread obj index) graph (λ _. answers reply.Ok (with_number graph thread obj index value))
outcome graph thread (Copy dst src) = answers reply.Ok (with_root graph thread dst (graph.root thread src))
outcome graph thread (Drop dst) = answers reply.Ok (with_root graph thread dst None)
outcome graph thread (Same index other_index) = answers (yes_or_no (same_reference (graph.root thread index) (graph.root thread other_index))) graph
outcome graph thread Gc = answers reply.Ok graph
outcome graph thread (Pin slot obj) = answers reply.Bad graph
outcome graph thread (Unpin slot) = on (graph.pin thread slot) graph (λ _. answers reply.Ok (with_pin graph thread slot None))

-- a command that makes an object
abbrev pub IsNew : Command → Type 0
IsNew (New dst refs nums) = Unit {0}
IsNew _ = ⊥

-- a command that is to pin an object
abbrev pub IsPin : Command → Type 0
IsPin (Pin slot obj) = Unit {0}
IsPin _ = ⊥

-- the object that a command pins: that of the root, where the slot is empty
abbrev pub pinned_by : Graph → ℕ → Command → Reference
pinned_by graph thread (Pin slot obj) = if is_some (graph.pin thread slot) then None else graph.root thread obj
pinned_by graph thread _ = None

-- the name of what a pin slot holds
abbrev pub name_in : Option Pinned → Reference
name_in None = None
name_in (Some held) = Some held.name

-- The object may be pinned at the place: a place of the heap, where each slot that holds the object has it already, and no
-- slot has another object.
pub record MayBePinned (regions region_words : ℕ) (graph : Graph) (name : Name) (place : ℕ) : Type 0 where
  pub within : (region_words ≤ place) × (place < (regions + 1) * region_words)
  pub same : (thread slot : ℕ) (held : Pinned) → graph.pin thread slot ≡ Some held → held.name ≡ name → held.place ≡ place
  pub alone : (thread slot : ℕ) (held : Pinned) → graph.pin thread slot ≡ Some held → held.place ≡ place → held.name ≡ name

-- the place that a reply tells
abbrev pub place_in : Reply → Option ℕ
place_in (reply.At place) = Some place
place_in _ = None

-- the pin slot that a command names
abbrev pub slot_of : Command → ℕ
slot_of (Pin slot obj) = slot
slot_of (Unpin slot) = slot
slot_of _ = 0

-- the thread pinned that object at that place
abbrev pub with_pinned : Graph → ℕ → ℕ → Reference → ℕ → Graph
with_pinned graph thread slot None place = graph
with_pinned graph thread slot (Some name) place = with_pin graph thread slot (Some (record { name = name; place = place }))

-- a thread's command pins an object, and is answered its place
pub record IsPinning (regions region_words : ℕ) (before : Graph) (thread : ℕ) (command : Command) (answered : Reply) (after : Graph) : Type 0 where
  pub name : Name
  pub place : ℕ
  pub pins : pinned_by before thread command ≡ Some name
  pub may : MayBePinned regions region_words before name place
  pub reply : answered ≡ reply.At place
  pub graph : after ≡ with_pinned before thread (slot_of command) (Some name) place

-- From a graph, in a heap of so many regions of so many words, a thread's command may be answered so and leave the graph after it: the
-- outcome, where it pins no object; or for a New also Full, which changes nothing; or the place of the object that it pins.
abbrev pub IsLegal : (regions region_words : ℕ) → Graph → ℕ → Command → Reply → Graph → Type 0
IsLegal regions region_words graph thread command answered after =
    ((pinned_by graph thread command ≡ None) × (answers answered after ≡ outcome graph thread command)) ⊎ ((IsNew command × (answered ≡ reply.Full) × (after ≡ graph)) ⊎ IsPinning regions region_words graph thread command answered after)
