-- A word of room in hand is written.
use Rattle.heap_words.specs.Phases.{evacuation_phase}
use Rattle.std.proofs.Common.{◌≡◌, ◌≢◌, ℕ, ◌+◌, ◌<◌, ◌≤◌, Some, refl, sym, ap, ◌∙◌, subst, arith}
use Rattle.std.proofs.lemmas.Option.{same_Some}
use Rattle.heap_words.specs.declared.config.Config.{Config}
use Rattle.heap_words.specs.Encoding.{object_words}
use Rattle.heap_words.specs.Words.{Phase, Evac, Top, Heap}
use Rattle.heap_words.specs.Touch.{touch, stores}
use Rattle.heap_world.specs.World.{World, Block, thing, moved, spent, hand, words_of, room_of, Points, Shared}
use Rattle.heap_world.specs.Part.{PartStep}
use Rattle.heap_world.proofs.FunctionUpdates.{updated, updated_else}
use Rattle.heap_world.proofs.Apart.{far}
use Rattle.heap_world.proofs.Pieces.{object_reads}
use Rattle.cycle_steps.proofs.Resolving.Changes.{world_after, heap_written, IsCopyingStep, step_after}

module _ (config : Config) (world : World) (seat copy words index place value : ℕ) (shared : Shared config world) (evacuating : world.memory Phase ≡ evacuation_phase) (room_there : world.block copy ≡ Some (hand seat words)) (index_below : index < words) (place_is : copy + index ≡ place) where
  -- the words of the heap then
  abbrev pub heap_then : ℕ → ℕ
  heap_then = updated (λ address. world.memory (Heap address)) place value

  -- the world then
  abbrev pub worded_world : World
  worded_world = world_after config world seat heap_then (λ region. world.memory (Top region)) (world.memory Evac) world.block world.ghost.copying

  -- a word of another piece stays
  pub else_stays : (address offset : ℕ) (piece : Block) → world.block address ≡ Some piece → address ≢ copy → offset < words_of piece → heap_then (address + offset) ≡ world.memory (Heap (address + offset))
  else_stays address offset piece piece_there not_copy offset_inside = updated_else (λ address. world.memory (Heap address)) place value (address + offset)
      (λ same_address. far config (λ region. world.memory (Top region)) world.block shared.parsable.plotted copy address index offset (hand seat words) piece room_there piece_there (λ addresses_equal. not_copy (sym addresses_equal)) index_below offset_inside (place_is ∙ same_address))

  -- its first word too
  first_stays : (address : ℕ) (piece : Block) → world.block address ≡ Some piece → address ≢ copy → 1 ≤ words_of piece → heap_then address ≡ world.memory (Heap address)
  first_stays address piece piece_there not_copy some_words = let no_offset : address + 0 ≡ address = omega arith in subst (λ address. heap_then address ≡ world.memory (Heap address)) no_offset (else_stays address 0 piece piece_there not_copy (omega (arith, some_words)))

  -- what is no room is elsewhere
  elsewhere : (address : ℕ) (piece : Block) → world.block address ≡ Some piece → (hand seat words ≡ piece → ⊥) → address ≢ copy
  elsewhere address piece piece_there pieces_differ same_address = pieces_differ (same_Some (hand seat words) piece (sym room_there ∙ ap world.block (sym same_address) ∙ piece_there))

  wording : IsCopyingStep config world seat heap_then (λ region. world.memory (Top region)) (world.memory Evac) world.block world.ghost.copying
  wording = record {
    parsable = shared.parsable;
    objects = record {
      each = λ old_address refs nums name piece_there.
          let graph_object = shared.contents.objects.each old_address refs nums name piece_there in (
            graph_object.0,
            graph_object.1,
            object_reads (λ address. world.memory (Heap address)) heap_then world.block world.block old_address refs nums name graph_object.0
                (λ offset inside. else_stays old_address offset (thing name refs nums) piece_there (elsewhere old_address (thing name refs nums) piece_there (λ same_piece. (let differ = same_piece in cc))) inside) (λ nth entry entry_there. entry_there) graph_object.2,
          );
      once = shared.contents.objects.once;
    };
    owned = shared.owned;
    moved_are = record {
      moveds = λ old_address refs nums target name piece_there.
          let was_moved = shared.evacuated.moved.moveds old_address refs nums target name piece_there in
          let not_copy = elsewhere old_address (moved name refs nums target) piece_there (λ same_piece. (let differ = same_piece in cc)) in
          record {
            header = first_stays old_address (moved name refs nums target) piece_there not_copy (omega arith) ∙ was_moved.header;
            shape = else_stays old_address 1 (moved name refs nums target) piece_there not_copy (omega arith) ∙ was_moved.shape;
            name_word = else_stays old_address 2 (moved name refs nums target) piece_there not_copy (omega arith) ∙ was_moved.name_word;
            few_refs = was_moved.few_refs;
            few_nums = was_moved.few_nums;
            inside = was_moved.inside;
            copy = was_moved.copy;
            outside = was_moved.outside;
            references = λ offset index_less.
                let entry_there = was_moved.references offset index_less in
                let same_place : old_address + (3 + offset) ≡ old_address + 3 + offset = omega arith in
                (entry_there.0, subst (λ word_now. Points world.block word_now entry_there.0) (sym (subst (λ address. heap_then address ≡ world.memory (Heap address)) same_place (else_stays old_address (3 + offset) (moved name refs nums target) piece_there not_copy (omega (arith, index_less))))) entry_there.1);
          };
      spents = λ old_address spent_words target piece_there.
          let was_moved = shared.evacuated.moved.spents old_address spent_words target piece_there in
          let not_copy = elsewhere old_address (spent spent_words target) piece_there (λ same_piece. (let differ = same_piece in cc)) in
          let enough_words = shared.parsable.spents old_address spent_words target piece_there in
          record {
            header = first_stays old_address (spent spent_words target) piece_there not_copy (omega (arith, enough_words)) ∙ was_moved.header;
            shape = ap object_words (else_stays old_address 1 (spent spent_words target) piece_there not_copy (omega (arith, enough_words))) ∙ was_moved.shape;
            inside = was_moved.inside;
            copy = was_moved.copy;
            piece = was_moved.piece;
            there = was_moved.there;
            long = was_moved.long;
            outside = was_moved.outside;
          };
    };
    counted = shared.evacuated.counted;
    kept = shared.evacuated.kept;
    bodies = λ old_address body piece_there. piece_there;
    targets = λ address refs nums name piece_there. piece_there;
    moveds = λ old_address refs nums target name piece_there. piece_there;
    spents = λ old_address spent_words target piece_there. piece_there;
    pieces = λ old_address some_piece inside piece_there. (some_piece, piece_there, refl, refl);
    no_new = λ old_address refs nums name inside piece_there. piece_there;
    set_tops = λ region piece_there. refl;
    out = λ piece_there. piece_there;
    quiet = λ piece_there. piece_there;
    rooms = λ other_seat old_address some_piece differs piece_there own_room. piece_there;
    no_rooms = λ other_seat old_address some_piece piece_there own_room. piece_there;
    promises = λ old_address other_seat spent_words piece_there. piece_there;
    no_promises = λ address other_seat spent_words piece_there. piece_there;
    deads = λ old_address spent_words piece_there. piece_there;
    fillers = λ old_address spent_words piece_there. piece_there;
    no_deads = λ address spent_words piece_there. piece_there;
    no_fillers = λ address spent_words piece_there. piece_there;
    words = λ address offset piece piece_there inside no_room which. else_stays address offset piece piece_there (elsewhere address piece piece_there (λ same_piece. no_room (ap room_of (sym same_piece)))) inside;
    own_tops = λ region other_seat differs piece_there. refl;
    copiers_else = λ other_seat differs. refl;
  }

  -- the store of the word owes no more
  pub word_step : (facts : World → Type 0) → facts worded_world → PartStep config world seat (touch (Heap place) (stores value)) facts
  word_step facts own_facts = step_after config world seat heap_then (λ region. world.memory (Top region)) (world.memory Evac) world.block world.ghost.copying shared evacuating wording
      (touch (Heap place) (stores value)) facts (heap_written world.memory place value) own_facts
