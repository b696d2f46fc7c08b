-- The graph of objects, as a program sees its heap: nothing moves and nothing is freed.
use Rattle.std.specs.Prelude.{ℕ, ◌+◌, ◌==◌, Bool, true, false, ◌&&◌, List, [], Option, Some, None, replicate, slice_get, slice_set, unwrap_or, if◌then◌else◌, nat_le}
use Rattle.shen_graph.specs.declared.name.Name.{Name}
use Rattle.shen_graph.specs.declared.pin.Pinned.{Pinned}

-- a reference: null, or the name of an object
abbrev pub Reference : Type 0
Reference = Option Name

-- an object: its reference fields and its numbers
pub record Object : Type 0 where
  pub refs : List Reference
  pub nums : List ℕ

-- for each name the object, if there is one; for each thread, counted from 1, its roots and its pin slots, of which some
-- hold an object and the place where it stays; how many objects each thread made
pub record Graph : Type 0 where
  pub object : Name → Option Object
  pub root : ℕ → ℕ → Reference
  pub count : ℕ → ℕ
  pub pin : ℕ → ℕ → Option Pinned

abbrev pub same_name : Name → Name → Bool
same_name name other_name = (name.thread == other_name.thread) && (name.count == other_name.count)

-- equal references: both null, or of one name
abbrev pub same_reference : Reference → Reference → Bool
same_reference None None = true
same_reference None (Some other_name) = false
same_reference (Some name) None = false
same_reference (Some name) (Some other_name) = same_name name other_name

-- a new object: its references are null and its numbers are 0
abbrev pub blank : ℕ → ℕ → Object
blank refs nums = record { refs = replicate refs None; nums = replicate nums 0 }

-- what a reference names: null names nothing, which has no field and no number
abbrev pub named : Graph → Reference → Object
named graph None = record { refs = []; nums = [] }
named graph (Some name) = unwrap_or (graph.object name) (record { refs = []; nums = [] })

-- the field of the object that a root of the thread names. There is none where the root is null, or the object has no such field
abbrev pub field_at : Graph → ℕ → ℕ → ℕ → Option Reference
field_at graph thread root field = slice_get (named graph (graph.root thread root)).refs field

-- the same for a number
abbrev pub number_at : Graph → ℕ → ℕ → ℕ → Option ℕ
number_at graph thread root index = slice_get (named graph (graph.root thread root)).nums index

-- The graph where one thing is another, and all else is as before.

abbrev pub with_root : Graph → ℕ → ℕ → Reference → Graph
with_root graph thread root value =
    record graph { root = λ other_thread index. if (other_thread == thread) && (index == root) then value else graph.root other_thread index }

abbrev pub with_pin : Graph → ℕ → ℕ → Option Pinned → Graph
with_pin graph thread slot held =
    record graph { pin = λ other_thread other_slot. if (other_thread == thread) && (other_slot == slot) then held else graph.pin other_thread other_slot }

abbrev pub with_object : Graph → Name → Object → Graph
with_object graph name object =
    record graph { object = λ other_name. if same_name other_name name then Some object else graph.object other_name }

-- the object that a reference names is another; null names nothing
abbrev pub with_named : Graph → Reference → Object → Graph
with_named graph None object = graph
with_named graph (Some name) object = with_object graph name object

abbrev pub with_field : Graph → ℕ → ℕ → ℕ → Reference → Graph
with_field graph thread root field value =
    let reference = graph.root thread root in
    with_named graph reference (record { refs = slice_set (named graph reference).refs field value; nums = (named graph reference).nums })

abbrev pub with_number : Graph → ℕ → ℕ → ℕ → ℕ → Graph
with_number graph thread root index value =
    let reference = graph.root thread root in
    with_named graph reference (record { refs = (named graph reference).refs; nums = slice_set (named graph reference).nums index value })

-- the name of the thread's next object
abbrev pub fresh : Graph → ℕ → Name
fresh graph thread = record { thread = thread; count = graph.count thread + 1 }

-- the thread made one object more, of its fresh name
abbrev pub with_fresh : Graph → ℕ → Object → Graph
with_fresh graph thread object =
    record (with_object graph (fresh graph thread) object) { count = λ other_thread. if other_thread == thread then graph.count other_thread + 1 else graph.count other_thread }

-- the object that is there from the start, in root 0 of each thread: 16 references and no number
abbrev pub hub : Name
hub = record { thread = 0; count = 1 }

-- how the threads 1 to `threads` begin
abbrev pub opening : ℕ → Graph
opening threads = record {
  object = λ n. if same_name n hub then Some (blank 16 0) else None;
  root = λ t r. if nat_le 1 t && nat_le t threads && (r == 0) then Some hub else None;
  count = λ _. 0;
  pin = λ _ _. None;
}
