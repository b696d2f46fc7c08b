-- The objects after packing are the graph's objects, and words that stood for them stand for them.
use Rattle.std.proofs.Common.{◌≡◌, ◌≢◌, ℕ, ◌+◌, ◌<◌, ◌==◌, ◌&&◌, nat_le, nat_lt, Bool, cond, Option, Some, None, ⊎_elim, refl, sym, ap, ◌∙◌, subst, arith}
use Rattle.std.proofs.lemmas.Bool.{cond-true, cond-false, eq-eqb, ne_eqb, and_from, and_left, and_right, le-leb, lt-leb, lt-ltb, le-ltb}
use Rattle.std.proofs.lemmas.Option.{slice_get_within}
use Rattle.heap_words.specs.declared.config.Config.{Config}
use Rattle.heap_words.specs.Encoding.{plain_header, refs_in}
use Rattle.regions.specs.Places.{new_place}
use Rattle.regions.specs.Slide.{renewed, placed_word, slid_word}
use Rattle.shen_graph.specs.declared.name.Name.{Name}
use Rattle.shen_graph.specs.Graph.{Object, Reference}
use Rattle.heap_world.specs.World.{Block, thing, filler, words_of, Plot, name_at, Points, IsThing, AreObjects}
use Rattle.image_graph.specs.Plot.{packed_block}
use Rattle.image_graph.specs.Packing.{CanPack}
use Rattle.image_graph.proofs.Reached.{none_at_0, refs_read}
use Rattle.image_graph.proofs.Origin.{block_at, IsFrom, IsLeft, block_from}

-- the words of an object in its new place, by their index
pub word_stays : (renew : ℕ → ℕ) (refs index word : ℕ) → index ≢ 0 → (index < 3) → placed_word renew refs index word ≡ word
word_stays renew refs index word some_index index_low =
    cond-false (index == 0) plain_header (cond (nat_le 3 index && nat_lt index (3 + refs)) (renew word) word) (ne_eqb index 0 some_index)
    ∙ cond-false (nat_le 3 index && nat_lt index (3 + refs)) (renew word) word (and_left (nat_le 3 index) (nat_lt index (3 + refs)) (lt-leb 3 index index_low))

pub reference_placed : (renew : ℕ → ℕ) (refs index word : ℕ) → index < refs → placed_word renew refs (3 + index) word ≡ renew word
reference_placed renew refs index word index_below =
    cond-false (3 + index == 0) plain_header (cond (nat_le 3 (3 + index) && nat_lt (3 + index) (3 + refs)) (renew word) word) (ne_eqb (3 + index) 0 (λ same_offset. omega (arith, same_offset)))
    ∙ cond-true (nat_le 3 (3 + index) && nat_lt (3 + index) (3 + refs)) (renew word) word
    (and_from (nat_le 3 (3 + index)) (nat_lt (3 + index) (3 + refs)) (le-leb 3 (3 + index) (omega arith)) (lt-ltb (3 + index) (3 + refs) (omega (arith, index_below))))

pub number_placed : (renew : ℕ → ℕ) (refs index word : ℕ) → placed_word renew refs (3 + refs + index) word ≡ word
number_placed renew refs index word =
    cond-false (3 + refs + index == 0) plain_header (cond (nat_le 3 (3 + refs + index) && nat_lt (3 + refs + index) (3 + refs)) (renew word) word) (ne_eqb (3 + refs + index) 0 (λ same_offset. omega (arith, same_offset)))
    ∙ cond-false (nat_le 3 (3 + refs + index) && nat_lt (3 + refs + index) (3 + refs)) (renew word) word
    (and_right (nat_le 3 (3 + refs + index)) (nat_lt (3 + refs + index) (3 + refs)) (le-ltb (3 + refs + index) (3 + refs) (omega arith)))

module _ (config : Config) (top heap : ℕ → ℕ) (block : Plot) (object : Name → Option Object) (now kept : ℕ → ℕ) (packable : CanPack config top heap block object now kept) (shut : ℕ → Bool) where
  abbrev place : ℕ → ℕ
  place = new_place config.region_words shut kept

  abbrev new_block : Plot
  new_block = packed_block config shut kept block

  abbrev renew : ℕ → ℕ
  renew = renewed place now

  abbrev from_kept : ℕ → Block → Type 0
  from_kept new_address piece = IsFrom config top heap block object now kept packable shut new_address piece

  abbrev left_over : ℕ → Block → Type 0
  left_over new_address piece = IsLeft config top heap block object now kept packable shut new_address piece

  -- a word that stood for a reference, renewed, stands for it
  pub renewed_points : (word : ℕ) (reference : Reference) → Points block word reference → (word ≢ 0 → 0 < kept (now word)) → Points new_block (renew word) reference
  renewed_points word None points led = cond-true (word == 0) 0 (place (now word)) (eq-eqb word 0 points)
  renewed_points word (Some name) points led =
      let not_null = none_at_0 config top block packable.plotted word name points in
      let copy = packable.current word name points in
      let word_goes : renew word ≡ place (now word) = cond-false (word == 0) 0 (place (now word)) (ne_eqb word 0 not_null) in
      ap (λ new_address. name_at (new_block new_address)) word_goes ∙ ap name_at (block_at config top heap block object now kept packable shut (now word) (led not_null) ∙ copy.2)

  -- an object of the new plot is that of a kept address
  pub object_from : (new_address refs nums : ℕ) (name : Name) → new_block new_address ≡ Some (thing name refs nums) → from_kept new_address (thing name refs nums)
  object_from new_address refs nums name new_thing = ⊎_elim
      (λ (kept_object : from_kept new_address (thing name refs nums)). kept_object)
      (λ (left_piece : left_over new_address (thing name refs nums)). absurd (let differ : filler (words_of left_piece.0) ≡ thing name refs nums = left_piece.4 in cc))
      (block_from config top heap block object now kept packable shut new_address (thing name refs nums) new_thing)

  -- it is as in the graph, where its words are as they should be
  module _ (after : ℕ → ℕ) (word_at : (given_address i : ℕ) → i < kept given_address → after (place given_address + i) ≡ slid_word renew heap given_address i) where
    object_slid : (address refs nums : ℕ) (name : Name) (object : Object) → 0 < kept address → kept address ≡ 3 + refs + nums → IsThing heap block address refs nums name object
        → IsThing after new_block (place address) refs nums name object
    object_slid address refs nums name object some_kept kept_size thing_there =
        let new_address = place address in
        let same_refs : refs_in (heap (address + 1)) ≡ refs = ap refs_in thing_there.shape ∙ refs_read refs nums thing_there.few_refs thing_there.few_nums in
        let same_address : new_address + 0 ≡ new_address = omega arith in
        record {
          header = ap after (sym same_address) ∙ word_at address 0 some_kept ∙ cond-true (0 == 0) plain_header (cond (nat_le 3 0 && nat_lt 0 (3 + refs_in (heap (address + 1)))) (renew (heap (address + 0))) (heap (address + 0))) refl;
          shape = word_at address 1 (omega (arith, kept_size)) ∙ word_stays renew (refs_in (heap (address + 1))) 1 (heap (address + 1)) (λ same_offset. omega (arith, same_offset)) (omega arith) ∙ thing_there.shape;
          name_word = word_at address 2 (omega (arith, kept_size)) ∙ word_stays renew (refs_in (heap (address + 1))) 2 (heap (address + 2)) (λ same_offset. omega (arith, same_offset)) (omega arith) ∙ thing_there.name_word;
          few_refs = thing_there.few_refs;
          few_nums = thing_there.few_nums;
          refs_are = thing_there.refs_are;
          nums_are = thing_there.nums_are;
          references = λ field reference entry_there.
              let index_below : field < refs = (let entry_within = slice_get_within object.refs field reference entry_there in omega (arith, entry_within, thing_there.refs_are)) in
              let field_below : field < refs_in (heap (address + 1)) = omega (arith, index_below, same_refs) in
              let index_parts : new_address + 3 + field ≡ new_address + (3 + field) = omega arith in
              let old : address + (3 + field) ≡ address + 3 + field = omega arith in
              let word : after (new_address + 3 + field) ≡ renew (heap (address + 3 + field)) =
              ap after index_parts ∙ word_at address (3 + field) (omega (arith, kept_size, index_below)) ∙ reference_placed renew (refs_in (heap (address + 1))) field (heap (address + (3 + field))) field_below ∙ ap (λ address. renew (heap address)) old in
              subst (λ x. Points new_block x reference) (sym word) (renewed_points (heap (address + 3 + field)) reference (thing_there.references field reference entry_there) (λ not_null. packable.closed address field some_kept field_below not_null));
          numbers = λ field number entry_there.
              let index_below : field < nums = (let entry_within = slice_get_within object.nums field number entry_there in omega (arith, entry_within, thing_there.nums_are)) in
              let index_parts : new_address + 3 + refs + field ≡ new_address + (3 + refs_in (heap (address + 1)) + field) = omega (arith, same_refs) in
              let old : address + (3 + refs_in (heap (address + 1)) + field) ≡ address + 3 + refs + field = omega (arith, same_refs) in
              ap after index_parts ∙ word_at address (3 + refs_in (heap (address + 1)) + field) (omega (arith, kept_size, index_below, same_refs))
              ∙ number_placed renew (refs_in (heap (address + 1))) field (heap (address + (3 + refs_in (heap (address + 1)) + field))) ∙ ap heap old ∙ thing_there.numbers field number entry_there;
        }

    -- the pieces of the new plot are the graph's objects, each once
    pub slid_are_objects : AreObjects after new_block object
    slid_are_objects = record {
      each = λ first_address refs nums name new_thing.
          let first_kept = object_from first_address refs nums name new_thing in
          let graph_object = packable.each first_kept.0 refs nums name first_kept.1 first_kept.4 in
          (graph_object.0, graph_object.1, subst (λ that_address. IsThing after new_block that_address refs nums name graph_object.0) first_kept.3 (object_slid first_kept.0 refs nums name graph_object.0 first_kept.1 (sym first_kept.5) graph_object.2));
      once = λ first_address second_address refs nums other_refs other_nums name first_new second_new.
          let first_kept = object_from first_address refs nums name first_new in
          let second_kept = object_from second_address other_refs other_nums name second_new in
          sym first_kept.3 ∙ ap place (packable.once first_kept.0 second_kept.0 refs nums other_refs other_nums name first_kept.1 second_kept.1 first_kept.4 second_kept.4) ∙ second_kept.3;
    }
