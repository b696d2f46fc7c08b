-- All references are updated: words that held a graph hold it in the same way, where each piece says how many words it has.
use Rattle.std.proofs.Common.{◌≡◌, ℕ, ◌+◌, ◌<◌, ◌≤◌, ◌⊎◌, ◌&&◌, not, nat_le, nat_lt, true, false, inl, inr, Some, Option, refl, sym, ap, ◌∙◌, ⊎_elim, arith}
use Rattle.std.proofs.lemmas.Bool.{cases_Bool, cond-true, cond-false, and_left, and_right, lt-leb, le-ltb}
use Rattle.heap_words.specs.declared.config.Config.{Config}
use Rattle.heap_words.specs.Words.{Word, Root, Answer, Heap}
use Rattle.heap_words.specs.Encoding.{refs_in, object_words}
use Rattle.regions.specs.Place.{region_with}
use Rattle.regions.specs.Walk.{is_filler}
use Rattle.shen_graph.specs.Graph.{Graph}
use Rattle.heap_world.specs.World.{Block, thing, filler, words_of, Plot, HasNoRoom}
use Rattle.image_graph.specs.Full.{now_in}
use Rattle.image_graph.specs.Promised.{Promises}
use Rattle.image_graph.specs.Holds.{HoldsBy, AreSized}
use Rattle.cycle_words.specs.Evacuation.Begun.{is_collected}
use Rattle.cycle_words.specs.Finishing.Updated.{updated_word, is_reference, stays, is_kept_field, all_updated}
use Rattle.image_graph.proofs.Carried.{IsRenamed, not_renamed}
use Rattle.cycle_words.proofs.Evacuation.RenamedInPlace.{IsRenaming, renamed_holds}
use Rattle.cycle_words.proofs.Finishing.Strides.{strides}
use Rattle.cycle_words.proofs.Finishing.Fields.{low_spared, other_stays, gone_stays}

-- an updated word is renamed
pub updated_renamed : (config : Config) (memory : Word → ℕ) (word : ℕ) → IsRenamed memory word (updated_word config memory word)
updated_renamed config memory word = record {
  small = low_spared config memory word;
  either = ⊎_elim
      (λ (word_collected : is_collected config memory word ≡ true). inr (cond-true (is_collected config memory word) (now_in memory word) word word_collected))
      (λ (not_collected : is_collected config memory word ≡ false). inl (cond-false (is_collected config memory word) (now_in memory word) word not_collected))
      (cases_Bool (is_collected config memory word));
}

module _ (config : Config) (memory : Word → ℕ) (block : Plot) (owner : ℕ → Option ℕ) (promises : Promises) (graph : Graph) (graph_held : HoldsBy config memory block owner promises graph) (sized : AreSized memory block) (no_room : HasNoRoom block) where
  abbrev memory_then : Word → ℕ
  memory_then = all_updated config memory

  abbrev heap : ℕ → ℕ
  heap address = memory (Heap address)

  -- the words of a piece that are no references stay
  not_reference : (address offset refs : ℕ) → (offset < 3) ⊎ ((3 + refs ≤ offset) × (refs_in (heap (address + 1)) ≡ refs)) → is_reference memory address (address + offset) ≡ false
  not_reference address offset refs not_in_fields = ⊎_elim
      (λ (offset_low : offset < 3). and_left (not (is_filler (heap address)) && nat_le (address + 3) (address + offset)) (nat_lt (address + offset) (address + 3 + refs_in (heap (address + 1))))
      (and_right (not (is_filler (heap address))) (nat_le (address + 3) (address + offset)) (lt-leb (address + 3) (address + offset) (omega (arith, offset_low)))))
      (λ (past_references : (3 + refs ≤ offset) × (refs_in (heap (address + 1)) ≡ refs)).
      let offset_past = past_references.0 in
      let reads = past_references.1 in
      and_right (not (is_filler (heap address)) && nat_le (address + 3) (address + offset)) (nat_lt (address + offset) (address + 3 + refs_in (heap (address + 1)))) (le-ltb (address + offset) (address + 3 + refs_in (heap (address + 1))) (omega (arith, offset_past, reads))))
      not_in_fields

  pub word_stays : (address offset refs : ℕ) (piece : Block) → block address ≡ Some piece → offset < words_of piece → (offset < 3) ⊎ ((3 + refs ≤ offset) × (refs_in (heap (address + 1)) ≡ refs)) → memory_then (Heap (address + offset)) ≡ memory (Heap (address + offset))
  word_stays address offset refs piece piece_there offset_below not_in_fields = ⊎_elim
      (λ (stay : stays config memory (region_with config address) ≡ true).
      other_stays config memory block graph_held.objects.plotted graph_held.filled graph_held.pieces.some (λ address piece stands_there region_stays. strides memory block sized no_room address piece stands_there) address offset piece piece_there offset_below stay (not_reference address offset refs not_in_fields))
      (λ (region_freed : stays config memory (region_with config address) ≡ false).
      gone_stays config memory block graph_held.objects.plotted graph_held.filled graph_held.pieces.some (λ address piece stands_there region_stays. strides memory block sized no_room address piece stands_there) address offset piece piece_there offset_below region_freed)
      (cases_Bool (stays config memory (region_with config address)))

  pub header_stays : (address : ℕ) (piece : Block) → block address ≡ Some piece → memory_then (Heap address) ≡ memory (Heap address)
  header_stays address piece piece_there =
      let same_address : address + 0 ≡ address = omega arith in
      sym (ap (λ address. memory_then (Heap address)) same_address) ∙ word_stays address 0 0 piece piece_there (graph_held.pieces.some address piece piece_there) (inl (omega arith)) ∙ ap heap same_address

  pub renaming : IsRenaming config memory memory_then block
  renaming = record {
    headers = λ address refs nums name object_there. header_stays address (thing name refs nums) object_there;
    words = λ address offset refs nums name object_there reads offset_below otherwise. word_stays address offset refs (thing name refs nums) object_there offset_below
        (⊎_elim (λ (slot_low : offset < 3). inl slot_low) (λ (past_references : 3 + refs ≤ offset). inr (past_references, reads)) otherwise);
    fields = λ object_address slot refs nums name object_there few. ⊎_elim
        (λ (kept_field : is_kept_field config memory (object_address + 3 + slot) ≡ true). record {
          small = λ slot_low. cond-true (is_kept_field config memory (object_address + 3 + slot)) (updated_word config memory (heap (object_address + 3 + slot))) (heap (object_address + 3 + slot)) kept_field ∙ low_spared config memory (heap (object_address + 3 + slot)) slot_low;
          either = ⊎_elim
              (λ same_word. inl (cond-true (is_kept_field config memory (object_address + 3 + slot)) (updated_word config memory (heap (object_address + 3 + slot))) (heap (object_address + 3 + slot)) kept_field ∙ same_word))
              (λ renamed_now. inr (cond-true (is_kept_field config memory (object_address + 3 + slot)) (updated_word config memory (heap (object_address + 3 + slot))) (heap (object_address + 3 + slot)) kept_field ∙ renamed_now))
              (updated_renamed config memory (heap (object_address + 3 + slot))).either;
        })
        (λ (otherwise : is_kept_field config memory (object_address + 3 + slot) ≡ false).
        not_renamed memory (heap (object_address + 3 + slot)) (memory_then (Heap (object_address + 3 + slot))) (cond-false (is_kept_field config memory (object_address + 3 + slot)) (updated_word config memory (heap (object_address + 3 + slot))) (heap (object_address + 3 + slot)) otherwise))
        (cases_Bool (is_kept_field config memory (object_address + 3 + slot)));
    roots = λ mutator index inside few. updated_renamed config memory (memory (Root mutator index));
    answers = λ mutator inside. updated_renamed config memory (memory (Answer mutator));
    waits = λ t. refl;
    tops = λ r. refl;
    free = refl;
    cset = refl;
    currents = λ seat. refl;
    share = refl;
    pins = λ t slot. refl;
  }

  pub updated_holds : HoldsBy config memory_then block owner promises graph
  updated_holds = renamed_holds config memory memory_then block owner promises graph graph_held renaming

  pub updated_sized : AreSized memory_then block
  updated_sized = record {
    objects = λ old_address old_piece piece_there fixed.
        let words = sized.objects old_address old_piece piece_there fixed in
        ap object_words (word_stays old_address 1 0 old_piece piece_there (omega (arith, words)) (inl (omega arith))) ∙ words;
    headers = λ address piece piece_there fixed. ap is_filler (header_stays address piece piece_there) ∙ sized.headers address piece piece_there fixed;
    fillers = λ address words piece_there. header_stays address (filler words) piece_there ∙ sized.fillers address words piece_there;
  }
