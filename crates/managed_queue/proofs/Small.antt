-- The objects of the queue are small, and each name that is held was given.
use Rattle.std.proofs.Common.{ℕ, zero, suc, ◌≡◌, ◌+◌, ◌≤◌, ◌⊎◌, Bool, true, false, Option, Some, None, List, [], ◌∷◌, length, replicate, slice_get, slice_set, refl, sym, ap, ◌∙◌, subst, inl, inr, arith, length-set}
use Rattle.std.specs.Prelude.{Contains, ◌==◌, ◌&&◌, unwrap_or, if◌then◌else◌, nat_le}
use Rattle.std.proofs.lemmas.List.{length-replicate}
use Rattle.std.proofs.lemmas.List.Elements.{Contains-append_left, Contains-append_right}
use Rattle.shen_graph.specs.declared.name.Name.{Name}
use Rattle.shen_graph.specs.declared.command.Command.{Command}
use Rattle.shen_graph.specs.declared.command.Command.TheVariants.{New, Get, Set, Cas, Xchg, Rd, Wr, Copy, Drop, Same, Gc, Pin, Unpin}
use Rattle.shen_graph.specs.declared.command.Reply.TheVariants as reply
use Rattle.shen_graph.specs.Graph.{Graph, Object, Reference, hub, named, same_name, same_reference, field_at, number_at, with_root, with_object, with_named, with_field, with_number, with_fresh, fresh, blank, opening}
use Rattle.shen_graph.specs.Step.{Outcome, outcome, answers, on, shown, IsPin}
use Rattle.shen_graph.specs.History.{Entry, after_entry, after_reply, is_full}
use Rattle.shen_graph.specs.Reach.{size}
use Rattle.shen_graph.proofs.Outcomes.{leaves_outcome}
use Rattle.managed_queue.specs.declared.spot.Spot.{Spot}
use Rattle.managed_queue.specs.Spots.{MayCome}
use Rattle.managed_queue.specs.Spots.MayCome.{anchor_made, first_made, head_set, tail_set, anchor_shown, joined, put_begun, take_begun, filled, looked, followed, linked, helped, swung, turned, tail_taken, next_taken, compared, pushed, read, unlinked}
use Rattle.managed_queue.specs.Live.{made_by}
use Rattle.managed_queue.proofs.Moves.{by_name}

-- the most words of the object of a name
abbrev pub most : Name → ℕ
most name = if same_name hub name then 19 else 5

five_most : (name : Name) → 5 ≤ most name
five_most name = at (same_name hub name)
  where
    at : (holds : Bool) → 5 ≤ (if holds then 19 else 5)
    at true = omega arith
    at false = omega arith

-- All names that are held are among these, objects are small, and no pin slot holds one.
pub record AreSmall (graph : Graph) (names : List Name) : Type 0 where
  pub roots : (thread index : ℕ) (name : Name) → graph.root thread index ≡ Some name → Contains names name
  pub fields : (other_name : Name) (f : ℕ) (name : Name) → slice_get (named graph (Some other_name)).refs f ≡ Some (Some name) → Contains names name
  pub sizes : (name : Name) → size (named graph (Some name)) ≤ most name
  pub no_pin : (thread slot : ℕ) → graph.pin thread slot ≡ None

more : (name : Name) (names : List Name) (held_name : Name) → Contains names held_name → Contains (name ∷ names) held_name
more name names held_name name_contained = Contains-append_right (name ∷ []) names held_name name_contained

small_more : (graph : Graph) (names : List Name) (name : Name) → AreSmall graph names → AreSmall graph (name ∷ names)
small_more graph names name graph_small = record {
  roots = λ thread root held_name holds_name. more name names held_name (graph_small.roots thread root held_name holds_name);
  fields = λ holder f held_name holds_name. more name names held_name (graph_small.fields holder f held_name holds_name);
  sizes = graph_small.sizes;
  no_pin = graph_small.no_pin;
}

-- a root is another
small_root : (graph : Graph) (names : List Name) (changed_thread changed_root : ℕ) (reference : Reference) → AreSmall graph names → ((name : Name) → reference ≡ Some name → Contains names name) → AreSmall (with_root graph changed_thread changed_root reference) names
small_root graph names changed_thread changed_root reference graph_small reference_contained = record {
  roots = λ thread root name. at ((thread == changed_thread) && (root == changed_root)) thread root name;
  fields = graph_small.fields;
  sizes = graph_small.sizes;
  no_pin = graph_small.no_pin;
}
  where
    at : (holds : Bool) (thread asked_root : ℕ) (name : Name) → (if holds then reference else graph.root thread asked_root) ≡ Some name → Contains names name
    at true thread asked_root name root_holds = reference_contained name root_holds
    at false thread asked_root name root_holds = graph_small.roots thread asked_root name root_holds

-- an object is another
small_object : (graph : Graph) (names : List Name) (name : Name) (object : Object) → AreSmall graph names → ((field : ℕ) (asked_name : Name) → slice_get object.refs field ≡ Some (Some asked_name) → Contains names asked_name) → size object ≤ most name → AreSmall (with_object graph name object) names
small_object graph names name object graph_small fields_contained size_low = record {
  roots = graph_small.roots;
  fields = λ holder field asked_name. by_name (λ (found : Option Object). slice_get (unwrap_or {T = Object} found (record { refs = []; nums = [] })).refs field ≡ Some (Some asked_name) → Contains names asked_name) holder name (Some object) (graph.object holder) (λ _ field_holds. fields_contained field asked_name field_holds) (λ _ field_holds. graph_small.fields holder field asked_name field_holds);
  sizes = λ asked_name. by_name (λ (found : Option Object). size (unwrap_or {T = Object} found (record { refs = []; nums = [] })) ≤ most asked_name) asked_name name (Some object) (graph.object asked_name) (λ names_equal. subst (λ (name : Name). size object ≤ most name) (sym names_equal) size_low) (λ _. graph_small.sizes asked_name);
  no_pin = graph_small.no_pin;
}

-- a field that was set is the new one, or was there
was_field : (references : List Reference) (set_index : ℕ) (reference : Reference) (index : ℕ) (name : Name) → slice_get (slice_set references set_index reference) index ≡ Some (Some name) → (reference ≡ Some name) ⊎ (slice_get references index ≡ Some (Some name))
was_field [] set_index reference index name field_holds = inr field_holds
was_field (first_reference ∷ references) zero reference zero name field_holds = inl cc
was_field (first_reference ∷ references) zero reference (suc index) name field_holds = inr field_holds
was_field (first_reference ∷ references) (suc set_index) reference zero name field_holds = inr field_holds
was_field (first_reference ∷ references) (suc set_index) reference (suc index) name field_holds = was_field references set_index reference index name field_holds

small_field : (graph : Graph) (names : List Name) (reference : Reference) (field : ℕ) (new_reference : Reference) → AreSmall graph names → ((name : Name) → new_reference ≡ Some name → Contains names name)
    → AreSmall (with_named graph reference (record { refs = slice_set (named graph reference).refs field new_reference; nums = (named graph reference).nums })) names
small_field graph names None field reference graph_small new_contained = graph_small
small_field graph names (Some object_name) field reference graph_small new_contained =
    small_object graph names object_name _ graph_small (λ index name field_holds. elim (was_field (named graph (Some object_name)).refs field reference index name field_holds) [ inl new_field ↦ new_contained name new_field | inr old_field ↦ graph_small.fields object_name index name old_field ])
    (let size_low = graph_small.sizes object_name in let same_length = length-set (named graph (Some object_name)).refs field reference in omega (arith, size_low, same_length))

small_number : (graph : Graph) (names : List Name) (reference : Reference) (index value : ℕ) → AreSmall graph names → AreSmall (with_named graph reference (record { refs = (named graph reference).refs; nums = slice_set (named graph reference).nums index value })) names
small_number graph names None index value graph_small = graph_small
small_number graph names (Some name) index value graph_small =
    small_object graph names name _ graph_small (λ f held_name field_holds. graph_small.fields name f held_name field_holds) (let size_low = graph_small.sizes name in let same_length = length-set (named graph (Some name)).nums index value in omega (arith, size_low, same_length))

-- a new object holds nothing
blank_holds : (count index : ℕ) (name : Name) → slice_get (replicate count None) index ≡ Some (Some name) → ⊥
blank_holds zero index name field_holds = let never : None ≡ Some (Some name) = field_holds in absurd cc
blank_holds (suc count) zero name field_holds = let never : Some None ≡ Some (Some name) = field_holds in absurd cc
blank_holds (suc count) (suc index) name field_holds = blank_holds count index name field_holds

small_fresh : (graph : Graph) (names : List Name) (thread dst refs nums : ℕ) → AreSmall graph names → refs + nums ≤ 2 → AreSmall (with_root (with_fresh graph thread (blank refs nums)) thread dst (Some (fresh graph thread))) (fresh graph thread ∷ names)
small_fresh graph names thread dst refs nums graph_small at_most =
    let size_low : size (blank refs nums) ≤ most (fresh graph thread) =
    let most_least = five_most (fresh graph thread) in
    omega (arith, at_most, most_least, length-replicate {A = Reference} refs None, length-replicate {A = ℕ} nums 0) in
    let object_small = small_object graph (fresh graph thread ∷ names) (fresh graph thread) (blank refs nums) (small_more graph names (fresh graph thread) graph_small) (λ index name holds_name. absurd (blank_holds refs index name holds_name)) size_low in
    small_root (with_fresh graph thread (blank refs nums)) (fresh graph thread ∷ names) thread dst (Some (fresh graph thread)) (record { roots = object_small.roots; fields = object_small.fields; sizes = object_small.sizes; no_pin = object_small.no_pin })
    (λ held_name holds_name. let fresh_name : fresh graph thread ≡ held_name = cc in Contains-append_left (fresh graph thread ∷ []) names held_name (0, omega arith, fresh_name))

-- the commands of the table
abbrev pub IsSmall : Command → Type 0
IsSmall (New dst refs nums) = refs + nums ≤ 2
IsSmall (Xchg dst obj field val) = ⊥
IsSmall (Copy dst src) = ⊥
IsSmall (Drop dst) = ⊥
IsSmall Gc = ⊥
IsSmall (Pin slot obj) = ⊥
IsSmall (Unpin slot) = ⊥
IsSmall _ = Unit {0}

pub next_small : (spot : Spot) (command : Command) → MayCome spot command → IsSmall command
next_small _ _ anchor_made = omega arith
next_small _ _ first_made = omega arith
next_small _ _ head_set = tt
next_small _ _ tail_set = tt
next_small _ _ anchor_shown = tt
next_small _ _ joined = tt
next_small _ _ put_begun = omega arith
next_small _ _ take_begun = tt
next_small _ _ (filled value) = tt
next_small _ _ (looked value) = tt
next_small _ _ (followed value) = tt
next_small _ _ (linked value) = tt
next_small _ _ (helped value) = tt
next_small _ _ (swung value) = tt
next_small _ _ turned = tt
next_small _ _ tail_taken = tt
next_small _ _ next_taken = tt
next_small _ _ (compared nothing) = tt
next_small _ _ pushed = tt
next_small _ _ read = tt
next_small _ _ (unlinked value) = tt

-- none of them is to pin an object

small_pins_none : (command : Command) → IsSmall command → IsPin command → ⊥
small_pins_none (Pin slot obj) command_small pin_command = command_small
small_pins_none (New dst refs nums) command_small pin_command = pin_command
small_pins_none (Get dst src field) command_small pin_command = pin_command
small_pins_none (Set obj field val) command_small pin_command = pin_command
small_pins_none (Cas obj field expect val) command_small pin_command = pin_command
small_pins_none (Xchg dst obj field val) command_small pin_command = pin_command
small_pins_none (Rd obj index) command_small pin_command = pin_command
small_pins_none (Wr obj index value) command_small pin_command = pin_command
small_pins_none (Copy dst src) command_small pin_command = pin_command
small_pins_none (Drop dst) command_small pin_command = pin_command
small_pins_none (Same left_root right_root) command_small pin_command = pin_command
small_pins_none Gc command_small pin_command = pin_command
small_pins_none (Unpin slot) command_small pin_command = pin_command

pub next_pins_none : (spot : Spot) (command : Command) → MayCome spot command → IsPin command → ⊥
next_pins_none spot command may_come = small_pins_none command (next_small spot command may_come)

on_small : {A : Type 0} (graph : Graph) (names : List Name) (found : Option A) (f : A → Outcome) → AreSmall graph names → ((value : A) → found ≡ Some value → AreSmall (f value).graph names) → AreSmall (on found graph f).graph names
on_small graph names None f graph_small step = graph_small
on_small graph names (Some value) f graph_small step = step value refl

-- what a root's object has in a field is held
loaded : (graph : Graph) (names : List Name) (reference : Reference) (field : ℕ) (loaded_reference : Reference) → AreSmall graph names → slice_get (named graph reference).refs field ≡ Some loaded_reference → (name : Name) → loaded_reference ≡ Some name → Contains names name
loaded graph names None field reference graph_small field_holds name holds_name = let never : None ≡ Some reference = field_holds in absurd cc
loaded graph names (Some object_name) field reference graph_small field_holds name holds_name = graph_small.fields object_name field name (field_holds ∙ ap Some holds_name)

-- What is given and held after an outcome.
pub record Stays (graph : Graph) (names : List Name) (made : ℕ) : Type 0 where
  pub new_names : List Name
  pub small : AreSmall graph new_names
  pub count : length new_names ≡ length names + made

same_names : (graph : Graph) (names : List Name) → AreSmall graph names → Stays graph names 0
same_names graph names graph_small = record { new_names = names; small = graph_small; count = omega arith }

small_stays : (graph : Graph) (names : List Name) (thread : ℕ) (command : Command) → IsSmall command → AreSmall graph names → Stays (outcome graph thread command).graph names (made_by command)
small_stays graph names thread (New dst refs nums) command_small graph_small = record { new_names = fresh graph thread ∷ names; small = small_fresh graph names thread dst refs nums graph_small command_small; count = omega arith }
small_stays graph names thread (Get dst src field) command_small graph_small = same_names _ names (
    on_small graph names (field_at graph thread src field) (λ held_value. answers (shown held_value) (with_root graph thread dst held_value)) graph_small (λ reference found_value. small_root graph names thread dst reference graph_small (loaded graph names (graph.root thread src) field reference graph_small found_value))
    )
small_stays graph names thread (Set obj field val) command_small graph_small = same_names _ names (
    on_small graph names (field_at graph thread obj field) (λ _. answers reply.Ok (with_field graph thread obj field (graph.root thread val))) graph_small (λ held_value found_value. small_field graph names (graph.root thread obj) field (graph.root thread val) graph_small (graph_small.roots thread val))
    )
small_stays graph names thread (Cas obj field expect val) command_small graph_small = same_names _ names (
    on_small graph names (field_at graph thread obj field) (λ held_value. if same_reference held_value (graph.root thread expect) then answers reply.Yes (with_field graph thread obj field (graph.root thread val)) else answers reply.No graph) graph_small
    (λ held_value found_value. tested (same_reference held_value (graph.root thread expect)))
    )
  where
    tested : (holds : Bool) → AreSmall (if holds then answers reply.Yes (with_field graph thread obj field (graph.root thread val)) else answers reply.No graph).graph names
    tested true = small_field graph names (graph.root thread obj) field (graph.root thread val) graph_small (graph_small.roots thread val)
    tested false = graph_small
small_stays graph names thread (Rd obj index) command_small graph_small = same_names _ names (on_small graph names (number_at graph thread obj index) (λ number. answers (reply.Number number) graph) graph_small (λ held_value found_value. graph_small))
small_stays graph names thread (Wr obj index value) command_small graph_small = same_names _ names (
    on_small graph names (number_at graph thread obj index) (λ _. answers reply.Ok (with_number graph thread obj index value)) graph_small (λ held_value found_value. small_number graph names (graph.root thread obj) index value graph_small)
    )
small_stays graph names thread (Same left_root holds) command_small graph_small = same_names _ names graph_small
small_stays graph names thread (Xchg dst obj field val) command_small graph_small = absurd command_small
small_stays graph names thread (Copy dst src) command_small graph_small = absurd command_small
small_stays graph names thread (Drop dst) command_small graph_small = absurd command_small
small_stays graph names thread Gc command_small graph_small = absurd command_small
small_stays graph names thread (Pin slot obj) command_small graph_small = absurd command_small
small_stays graph names thread (Unpin slot) command_small graph_small = absurd command_small

-- after an entry
pub entry_stays : (graph : Graph) (names : List Name) (entry : Entry) → IsSmall entry.command → AreSmall graph names → Stays (after_entry graph entry) names (if is_full entry.reply then 0 else made_by entry.command)
entry_stays graph names entry command_small graph_small = at (is_full entry.reply)
  where
    at : (holds : Bool) → Stays (if holds then graph else after_reply graph entry.thread entry.command entry.reply) names (if holds then 0 else made_by entry.command)
    at true = same_names graph names graph_small
    at false = subst (λ (graph : Graph). Stays graph names (made_by entry.command)) (sym (leaves_outcome graph entry.thread entry.command entry.reply (small_pins_none entry.command command_small))) (small_stays graph names entry.thread entry.command command_small graph_small)

-- at the start there is the hub alone
pub small_opening : (threads : ℕ) → AreSmall (opening threads) (hub ∷ [])
small_opening threads = record {
  roots = λ thread root name. only (nat_le 1 thread && nat_le thread threads && (root == 0)) name;
  fields = λ asked_name index name. by_name (λ (found : Option Object). slice_get (unwrap_or {T = Object} found (record { refs = []; nums = [] })).refs index ≡ Some (Some name) → Contains (hub ∷ []) name) asked_name hub (Some (blank 16 0)) None
      (λ _ field_named. absurd (blank_holds 16 index name field_named)) (λ _ field_named. absurd (empty_holds index name field_named));
  sizes = λ asked_name. by_name (λ (found : Option Object). size (unwrap_or {T = Object} found (record { refs = []; nums = [] })) ≤ most asked_name) asked_name hub (Some (blank 16 0)) None
      (λ names_equal. subst (λ (name : Name). 19 ≤ most name) (sym names_equal) (omega arith)) (λ _. let most_least = five_most asked_name in omega (arith, most_least));
  no_pin = λ thread slot. refl;
}
  where
    only : (holds : Bool) (name : Name) → (if holds then Some hub else None) ≡ Some name → Contains (hub ∷ []) name
    only true name root_holds = let hub_name : hub ≡ name = cc in (0, omega arith, hub_name)
    only false name root_holds = let never : None ≡ Some name = root_holds in absurd cc

    empty_holds : (field : ℕ) (name : Name) → slice_get {X = Reference} [] field ≡ Some (Some name) → ⊥
    empty_holds field name field_holds = let never : None ≡ Some (Some name) = field_holds in absurd cc
