-- What is the same at a copy as where it was copied from.
use Rattle.std.proofs.Common.{◌≡◌, ℕ, ◌+◌, ◌<◌, length, Some, sym, ap, ◌∙◌, subst, arith}
use Rattle.std.proofs.lemmas.Option.{slice_get_within}
use Rattle.shen_graph.specs.declared.name.Name.{Name}
use Rattle.shen_graph.specs.Graph.{Object}
use Rattle.heap_world.specs.World.{Plot, name_at, Points, IsThing, IsBlank}
use Rattle.heap_world.proofs.Keeping.{points_stay}

-- a copy of an object reads as the object
pub object_copied : (heap after : ℕ → ℕ) (block new_plot : Plot) (address copy_address refs nums : ℕ) (name : Name) (object : Object)
    → ((offset : ℕ) → offset < 3 + refs + nums → after (copy_address + offset) ≡ heap (address + offset))
    → ((target_address : ℕ) (asked_name : Name) → name_at (block target_address) ≡ Some asked_name → name_at (new_plot target_address) ≡ Some asked_name)
    → IsThing heap block address refs nums name object → IsThing after new_plot copy_address refs nums name object
object_copied heap after block new_plot address copy_address refs nums name object words_copied names_kept object_stands = record {
  header = ap after (omega arith) ∙ words_copied 0 (omega arith) ∙ ap heap (omega arith) ∙ object_stands.header;
  shape = words_copied 1 (omega arith) ∙ object_stands.shape;
  name_word = words_copied 2 (omega arith) ∙ object_stands.name_word;
  few_refs = object_stands.few_refs;
  few_nums = object_stands.few_nums;
  refs_are = object_stands.refs_are;
  nums_are = object_stands.nums_are;
  references = λ index reference element_there.
      let index_below : index < length object.refs = slice_get_within object.refs index reference element_there in
      let same_length : length object.refs ≡ refs = object_stands.refs_are in
      let word : after (copy_address + 3 + index) ≡ heap (address + 3 + index) = ap after (omega arith) ∙ words_copied (3 + index) (omega arith) ∙ ap heap (omega arith) in
      subst (λ field_word. Points new_plot field_word reference) (sym word) (points_stay block new_plot names_kept (heap (address + 3 + index)) reference (object_stands.references index reference element_there));
  numbers = λ index asked_name element_there.
      let index_below : index < length object.nums = slice_get_within object.nums index asked_name element_there in
      let same_length : length object.nums ≡ nums = object_stands.nums_are in
      ap after (omega arith) ∙ words_copied (3 + refs + index) (omega arith) ∙ ap heap (omega arith) ∙ object_stands.numbers index asked_name element_there;
}

-- a copy of a new object is a new object
pub blank_copied : (heap after : ℕ → ℕ) (address copy_address words : ℕ) → ((offset : ℕ) → offset < words → after (copy_address + offset) ≡ heap (address + offset)) → IsBlank heap address words → IsBlank after copy_address words
blank_copied heap after address copy_address words words_copied blank_there = record {
  refs = blank_there.refs;
  nums = blank_there.nums;
  long = blank_there.long;
  few_refs = blank_there.few_refs;
  few_nums = blank_there.few_nums;
  header = (let long_enough = blank_there.long in let same_start : copy_address ≡ copy_address + 0 = omega arith in let same_address : address + 0 ≡ address = omega arith in ap after same_start ∙ words_copied 0 (omega (arith, long_enough)) ∙ ap heap same_address ∙ blank_there.header);
  shape = (let long_enough = blank_there.long in words_copied 1 (omega (arith, long_enough))) ∙ blank_there.shape;
  nulls = λ field field_below.
      let long_enough = blank_there.long in
      let from : copy_address + (3 + field) ≡ copy_address + 3 + field = omega arith in
      let same_sum : address + (3 + field) ≡ address + 3 + field = omega arith in
      sym (ap after from) ∙ words_copied (3 + field) (omega (arith, long_enough, field_below)) ∙ ap heap same_sum ∙ blank_there.nulls field field_below;
}
