-- Pieces that nothing leads to only fill: words that hold a graph hold it by the pieces that are left.
use Rattle.std.proofs.Common.{◌≡◌, ◌≢◌, ℕ, ◌+◌, ◌<◌, Bool, true, false, Option, Some, None, refl, sym, ap, ◌∙◌, subst, ⊎_elim, arith}
use Rattle.std.specs.Option.{option_map}
use Rattle.std.proofs.lemmas.Bool.{cases_Bool, cond-false, true≢false}
use Rattle.std.proofs.lemmas.Option.{none-some}
use Rattle.heap_words.specs.declared.config.Config.{Config}
use Rattle.heap_words.specs.Words.{Word, Top, Current, Heap}
use Rattle.heap_words.specs.Encoding.{is_forwarded, forwardee_in, refs_in}
use Rattle.shen_graph.specs.declared.name.Name.{Name}
use Rattle.shen_graph.specs.Graph.{Graph}
use Rattle.heap_world.specs.World.{Block, thing, promised, filler, hand, carved, words_of, room_of, is_loose, Plot, name_at}
use Rattle.heap_world.proofs.Pointing.{named_piece}
use Rattle.image_graph.specs.Held.{IsAmong, IsCopy}
use Rattle.image_graph.specs.Full.{now_in, held_words}
use Rattle.image_graph.specs.Promised.{Promises}
use Rattle.image_graph.proofs.BuffersStay.{SameRoom, buffers_stay}
use Rattle.image_graph.specs.Holds.{HoldsBy}
use Rattle.image_graph.proofs.Loosening.Resized.{IsResized, resized_plotted, resized_filled}
use Rattle.cycle_words.specs.Marking.WhileMarking.{CanBeReached}
use Rattle.cycle_words.specs.StillHolds.{piece_left}
use Rattle.cycle_words.proofs.Marking.Pruned.{from_option}
use Rattle.cycle_words.proofs.Marking.Trimmed.{IsTrimmed, trimmed_objects, trimmed_rooted}

-- a piece was the same one, which does not pass a test; or it passes, and only fills
pub data WasLeft (passes : Bool) (piece other_piece : Block) : Type 0 where
  stays : piece ≡ other_piece → passes ≡ false → WasLeft passes piece other_piece
  fills : other_piece ≡ filler (words_of piece) → passes ≡ true → WasLeft passes piece other_piece

was_left : (passes : Bool) (piece : Block) → WasLeft passes piece (piece_left passes piece)
was_left true piece = WasLeft.fills refl refl
was_left false piece = WasLeft.stays refl refl

none_fills : (found : Option Block) → option_map (piece_left false) found ≡ found
none_fills None = refl
none_fills (Some piece) = refl

-- The pieces where those that pass a test only fill.
module _ (fill : ℕ → Bool) (block : Plot) where
  abbrev pub plot_left : Plot
  plot_left address = option_map (piece_left (fill address)) (block address)

  pub piece_was : (address : ℕ) (piece : Block) → plot_left address ≡ Some piece → (old_piece : Block) × (block address ≡ Some old_piece) × WasLeft (fill address) old_piece piece
  piece_was address piece left_there =
      let old_found = from_option (piece_left (fill address)) (block address) piece left_there in
      (old_found.0, old_found.1, subst (WasLeft (fill address) old_found.0) old_found.2 (was_left (fill address) old_found.0))

  pub same_there : (address : ℕ) → fill address ≡ false → plot_left address ≡ block address
  same_there address stands = ap (λ moved. option_map (piece_left moved) (block address)) stands ∙ none_fills (block address)

  words_were : (piece left_piece : Block) (holds : Bool) → WasLeft holds piece left_piece → words_of piece ≡ words_of left_piece
  words_were piece left_piece holds (WasLeft.stays same_piece stands) = ap words_of same_piece
  words_were piece left_piece holds (WasLeft.fills filler_is passed) = sym (ap words_of filler_is)

  pub resized : IsResized block plot_left
  resized = record {
    from = λ address piece piece_there. (let old_found = piece_was address piece piece_there in (old_found.0, old_found.1, words_were old_found.0 piece (fill address) old_found.2));
    to = λ left_address old_piece piece_there. (piece_left (fill left_address) old_piece, ap (option_map (piece_left (fill left_address))) piece_there);
  }

  -- a piece that is not loose was there
  object_of_left : (address : ℕ) (piece left_piece : Block) → is_loose left_piece ≡ false → block address ≡ Some piece → WasLeft (fill address) piece left_piece → (block address ≡ Some left_piece) × (fill address ≡ false)
  object_of_left address piece left_piece fixed piece_there (WasLeft.stays same_piece stands) = (piece_there ∙ ap Some same_piece, stands)
  object_of_left address piece left_piece fixed piece_there (WasLeft.fills filler_is passed) = absurd (true≢false (sym (ap is_loose filler_is) ∙ fixed))

  pub object_was : (address : ℕ) (piece : Block) → is_loose piece ≡ false → plot_left address ≡ Some piece → (block address ≡ Some piece) × (fill address ≡ false)
  object_was address piece fixed left_there = let old_found = piece_was address piece left_there in object_of_left address old_found.0 piece fixed old_found.1 old_found.2

  -- so was room
  room_of_left : (address seat : ℕ) (piece left_piece : Block) → room_of left_piece ≡ Some seat → block address ≡ Some piece → WasLeft (fill address) piece left_piece → block address ≡ Some left_piece
  room_of_left address seat piece left_piece room piece_there (WasLeft.stays same_piece stands) = piece_there ∙ ap Some same_piece
  room_of_left address seat piece left_piece room piece_there (WasLeft.fills filler_is passed) = absurd (none-some seat (sym (ap room_of filler_is) ∙ room))

  pub room_was : (address seat : ℕ) (piece : Block) → room_of piece ≡ Some seat → plot_left address ≡ Some piece → block address ≡ Some piece
  room_was address seat piece room left_there = let old_found = piece_was address piece left_there in room_of_left address seat old_found.0 piece room old_found.1 old_found.2

  -- and what stands for a name
  named_of_left : (address : ℕ) (name : Name) (piece left_piece : Block) → name_at (Some left_piece) ≡ Some name → block address ≡ Some piece → WasLeft (fill address) piece left_piece → (name_at (block address) ≡ Some name) × (fill address ≡ false)
  named_of_left address name piece left_piece named piece_there (WasLeft.stays same_piece stands) = (ap name_at (piece_there ∙ ap Some same_piece) ∙ named, stands)
  named_of_left address name piece left_piece named piece_there (WasLeft.fills filler_is passed) = absurd (none-some name (sym (ap (λ given_piece. name_at (Some given_piece)) filler_is) ∙ named))

  pub named_was : (address : ℕ) (name : Name) → name_at (plot_left address) ≡ Some name → (name_at (block address) ≡ Some name) × (fill address ≡ false)
  named_was address name name_there =
      let piece = named_piece (plot_left address) name name_there in
      let old_found = piece_was address piece.0 piece.1 in
      named_of_left address name old_found.0 piece.0 piece.2 old_found.1 old_found.2

-- No root, answer, pin slot and field of what can be reached names what passes; nor does the header of an old copy, and no room passes.
pub record CanBeFilled (config : Config) (memory : Word → ℕ) (block : Plot) (fill : ℕ → Bool) : Type 0 where
  pub unnamed_roots : (word : ℕ) → IsAmong (held_words config memory) word → word ≢ 0 → fill word ≡ false
  pub unnamed_fields : (address i : ℕ) → CanBeReached config memory address → i < refs_in (memory (Heap (address + 1))) → memory (Heap (address + 3 + i)) ≢ 0 → fill (memory (Heap (address + 3 + i))) ≡ false
  pub copies : (address refs nums : ℕ) (name : Name) → block address ≡ Some (thing name refs nums) → is_forwarded (memory (Heap address)) ≡ true → fill (now_in memory address) ≡ false
  pub rooms : (address seat : ℕ) (piece : Block) → block address ≡ Some piece → room_of piece ≡ Some seat → fill address ≡ false

module _ (config : Config) (memory : Word → ℕ) (block : Plot) (owner : ℕ → Option ℕ) (promises : Promises) (graph : Graph) (holds : HoldsBy config memory block owner promises graph) (fill : ℕ → Bool)
    (can_fill : CanBeFilled config memory block fill) where
  abbrev left : Plot
  left = plot_left fill block

  abbrev top : ℕ → ℕ
  top region = memory (Top region)

  -- what is left and stands for a name is an object, and so is its current copy
  named : (address : ℕ) (name : Name) → name_at (left address) ≡ Some name → IsCopy left address name
  named address name name_there =
      let name_before = named_was fill block address name name_there in
      let object_before = holds.pieces.named address name name_before.0 in
      (object_before.0, object_before.1, same_there fill block address name_before.1 ∙ object_before.2)

  current : (address : ℕ) (name : Name) → name_at (left address) ≡ Some name → IsCopy left (now_in memory address) name
  current address name name_there =
      let named_object = named address name name_there in
      let object_before = (object_was fill block address (thing name named_object.0 named_object.1) refl named_object.2).0 in
      ⊎_elim
      (λ (moved : is_forwarded (memory (Heap address)) ≡ true).
      (named_object.0, named_object.1, same_there fill block (now_in memory address) (can_fill.copies address named_object.0 named_object.1 name object_before moved) ∙ (holds.moved address named_object.0 named_object.1 name object_before moved).copy))
      (λ (plain : is_forwarded (memory (Heap address)) ≡ false). (named_object.0, named_object.1, ap left (cond-false (is_forwarded (memory (Heap address))) (forwardee_in (memory (Heap address))) address plain) ∙ named_object.2))
      (cases_Bool (is_forwarded (memory (Heap address))))

  trimmed : IsTrimmed config memory block top left
  trimmed = record {
    plotted = resized_plotted config top block left (resized fill block) holds.objects.plotted;
    roots = λ word among some_word. same_there fill block word (can_fill.unnamed_roots word among some_word);
    fields = λ address index is_held few some_word. same_there fill block (memory (Heap (address + 3 + index))) (can_fill.unnamed_fields address index is_held few some_word);
    current = current;
    was = λ object_address refs nums name left_there. (object_was fill block object_address (thing name refs nums) refl left_there).0;
  }

  same_room : SameRoom block left
  same_room = record {
    stays = λ address seat piece room room_there. same_there fill block address (can_fill.rooms address seat piece room_there room) ∙ room_there;
    came = λ address seat piece room room_there. room_was fill block address seat piece room room_there;
  }

  pub left_holds : HoldsBy config memory left owner promises graph
  left_holds = record {
    objects = trimmed_objects config memory block owner promises graph holds top left trimmed;
    rooted = trimmed_rooted config memory block owner promises graph holds top left trimmed;
    moved = λ left_address refs nums name left_there forwarded.
        let object_there = (object_was fill block left_address (thing name refs nums) refl left_there).0 in
        let moved_before = holds.moved left_address refs nums name object_there forwarded in
        record { in_set = moved_before.in_set; copy = same_there fill block (now_in memory left_address) (can_fill.copies left_address refs nums name object_there forwarded) ∙ moved_before.copy; outside = moved_before.outside; current = moved_before.current };
    filled = resized_filled config top block left (resized fill block) holds.filled;
    pieces = record {
      named = named;
      unpromised = λ address seat words left_there. holds.pieces.unpromised address seat words (object_was fill block address (promised seat words) refl left_there).0;
      unheld = λ address seat words left_there. holds.pieces.unheld address seat words (room_was fill block address seat (hand seat words) refl left_there);
      uncarved = λ address seat words left_there. holds.pieces.uncarved address seat words (room_was fill block address seat (carved seat words) refl left_there);
      some = λ left_address piece left_there. (let from = (resized fill block).from left_address piece left_there in let has_words = holds.pieces.some left_address from.0 from.1 in omega (arith, has_words, from.2));
    };
    free_word = holds.free_word;
    shared_one = holds.shared_one;
    buffers = buffers_stay config top top (λ seat. memory (Current seat)) block left same_room holds.buffers (λ seat has_buffer. omega arith);
    asking = holds.asking;
    next = holds.next;
    unreached = holds.unreached;
  }
