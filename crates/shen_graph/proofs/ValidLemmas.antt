-- Each range of a command's numbers as a test.
use Rattle.std.proofs.Common.{ℕ, ◌≤◌, ◌∙◌, Bool, ◌&&◌, inl, inr, refl, sym}
use Rattle.std.specs.Prelude.{nat_le}
use Rattle.std.specs.Bool.{Decides}
use Rattle.std.proofs.lemmas.Bool.{false≢true, le-leb}
use Rattle.std.proofs.lemmas.Bool.Decides.{Decides-and, Decides-like, Decides-ltb, leb_tells}
use Rattle.shen_graph.specs.declared.command.Command.{Command}
use Rattle.shen_graph.specs.declared.command.Command.TheVariants.{New, Get, Set, Cas, Xchg, Rd, Wr, Copy, Drop, Same, Gc, Pin, Unpin}
use Rattle.shen_graph.specs.Valid.{IsRoot, IsSize, IsIndex, IsSlot, IsValid, is_root, is_size, is_index, is_slot, is_valid}

root : (number : ℕ) → Decides (is_root number) (IsRoot number)
root number = Decides-ltb number 16

slot : (number : ℕ) → Decides (is_slot number) (IsSlot number)
slot number = Decides-ltb number 4

at_most : (number most : ℕ) → Decides (nat_le number most) (number ≤ most)
at_most number most = (λ test_true. elim (leb_tells number most) [ inl within ↦ within.1 | inr past_most ↦ absurd (false≢true (sym past_most.0 ∙ test_true)) ], λ within. le-leb number most within)

size : (number : ℕ) → Decides (is_size number) (IsSize number)
size number = at_most number 16

index : (number : ℕ) → Decides (is_index number) (IsIndex number)
index number = at_most number 31

both : {P Q : Type 0} (holds other_holds : Bool) → Decides holds P → Decides other_holds Q → Decides (holds && other_holds) (P × Q)
both holds other_holds decides other_decides = Decides-and holds other_holds decides other_decides

all_three : {P Q R : Type 0} (a b c : Bool) → Decides a P → Decides b Q → Decides c R → Decides (a && (b && c)) (P × Q × R)
all_three a b c decides q r = Decides-like (a && (b && c)) (λ facts. (facts.0, facts.1.0, facts.1.1)) (λ facts. (facts.0, (facts.1, facts.2))) (both a (b && c) decides (both b c q r))

all_four : {P Q R S : Type 0} (a b c d : Bool) → Decides a P → Decides b Q → Decides c R → Decides d S → Decides (a && (b && (c && d))) (P × Q × R × S)
all_four a b c d decides q r s = Decides-like (a && (b && (c && d))) (λ facts. (facts.0, facts.1.0, facts.1.1.0, facts.1.1.1)) (λ facts. (facts.0, (facts.1, (facts.2, facts.3)))) (both a (b && (c && d)) decides (both b (c && d) q (both c d r s)))

pub is_valid-Decides : (command : Command) → Decides (is_valid command) (IsValid command)
is_valid-Decides (New dst refs nums) = all_three (is_root dst) (is_size refs) (is_size nums) (root dst) (size refs) (size nums)
is_valid-Decides (Get dst src field) = all_three (is_root dst) (is_root src) (is_index field) (root dst) (root src) (index field)
is_valid-Decides (Set obj field val) = all_three (is_root obj) (is_index field) (is_root val) (root obj) (index field) (root val)
is_valid-Decides (Cas obj field expect val) = all_four (is_root obj) (is_index field) (is_root expect) (is_root val) (root obj) (index field) (root expect) (root val)
is_valid-Decides (Xchg dst obj field val) = all_four (is_root dst) (is_root obj) (is_index field) (is_root val) (root dst) (root obj) (index field) (root val)
is_valid-Decides (Rd obj field_index) = both (is_root obj) (is_index field_index) (root obj) (index field_index)
is_valid-Decides (Wr obj field_index value) = both (is_root obj) (is_index field_index) (root obj) (index field_index)
is_valid-Decides (Copy dst src) = both (is_root dst) (is_root src) (root dst) (root src)
is_valid-Decides (Drop dst) = root dst
is_valid-Decides (Same first_root second_root) = both (is_root first_root) (is_root second_root) (root first_root) (root second_root)
is_valid-Decides Gc = (λ e. tt, λ e. refl)
is_valid-Decides (Pin pin_slot obj) = both (is_slot pin_slot) (is_root obj) (slot pin_slot) (root obj)
is_valid-Decides (Unpin pin_slot) = slot pin_slot
