-- Facts that have one proof at most.
use Rattle.std.specs.Prelude.{ℕ}
use Rattle.std.specs.Coded.{×_prop, Unit-prop, le_prop}
use Rattle.std.proofs.Props.{props}
use Rattle.shen_graph.specs.declared.command.Command.{Command}
use Rattle.shen_graph.specs.declared.command.Command.TheVariants.{New, Get, Set, Cas, Xchg, Rd, Wr, Copy, Drop, Same, Gc, Pin, Unpin}
use Rattle.shen_graph.specs.Valid.{IsRoot, IsSize, IsIndex, IsSlot, IsValid}

root_prop : (root : ℕ) → IsProp (IsRoot root)
root_prop root = le_prop

size_prop : (fields : ℕ) → IsProp (IsSize fields)
size_prop fields = le_prop

index_prop : (index : ℕ) → IsProp (IsIndex index)
index_prop index = le_prop

slot_prop : (slot : ℕ) → IsProp (IsSlot slot)
slot_prop slot = le_prop

pub valid_prop : (command : Command) → IsProp (IsValid command)
valid_prop (New dst refs nums) = λ x y. λ i. (root_prop dst x.0 y.0 i, size_prop refs x.1 y.1 i, size_prop nums x.2 y.2 i)
valid_prop (Get dst src field) = λ x y. λ i. (root_prop dst x.0 y.0 i, root_prop src x.1 y.1 i, index_prop field x.2 y.2 i)
valid_prop (Set obj field val) = λ x y. λ i. (root_prop obj x.0 y.0 i, index_prop field x.1 y.1 i, root_prop val x.2 y.2 i)
valid_prop (Cas obj field expect val) = λ x y. λ i. (root_prop obj x.0 y.0 i, index_prop field x.1 y.1 i, root_prop expect x.2 y.2 i, root_prop val x.3 y.3 i)
valid_prop (Xchg dst obj field val) = λ x y. λ i. (root_prop dst x.0 y.0 i, root_prop obj x.1 y.1 i, index_prop field x.2 y.2 i, root_prop val x.3 y.3 i)
valid_prop (Rd obj index) = ×_prop (root_prop obj) (index_prop index)
valid_prop (Wr obj index value) = ×_prop (root_prop obj) (index_prop index)
valid_prop (Copy dst src) = ×_prop (root_prop dst) (root_prop src)
valid_prop (Drop dst) = root_prop dst
valid_prop (Same root other_root) = ×_prop (root_prop root) (root_prop other_root)
valid_prop Gc = Unit-prop
valid_prop (Pin slot obj) = ×_prop (slot_prop slot) (root_prop obj)
valid_prop (Unpin slot) = slot_prop slot

-- what shows that `CanRun` has one proof at most
pub ruleset can_run_props = (props, valid_prop)
