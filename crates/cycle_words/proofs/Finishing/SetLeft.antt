-- The collection set is left: its regions are freed but those that are pinned, in which what has moved only fills. Words that hold a graph, of
-- which nothing names what goes, hold it by the pieces that are left.
use Rattle.std.proofs.Common.{◌≡◌, ◌≢◌, ℕ, ◌+◌, ◌<◌, ◌≤◌, ◌==◌, ◌&&◌, ◌||◌, nat_le, not, Bool, true, false, zero, suc, Option, Some, refl, sym, ap, ◌∙◌, ⊎_elim, arith}
use Rattle.std.specs.Int.{bit_at}
use Rattle.std.proofs.lemmas.Bool.{cond-true, cond-false, ne_eqb, eq-eqb, eqb-true, le-leb, and_parts, and_from, and_left, false_from_ne_true, true≢false}
use Rattle.std.proofs.lemmas.Nat.Bits.{bit_at-zero}
use Rattle.heap_words.specs.declared.config.Config.{Config}
use Rattle.heap_words.specs.Words.{Word, Cset, Top, Root, Answer, Heap}
use Rattle.heap_words.specs.Encoding.{is_forwarded, filler_header, refs_in, object_words}
use Rattle.regions.specs.Place.{region_with}
use Rattle.regions.specs.Sets.{IsIn}
use Rattle.regions.specs.Walk.{is_filler, stride_at}
use Rattle.shen_graph.specs.declared.name.Name.{Name}
use Rattle.shen_graph.specs.Graph.{Graph}
use Rattle.heap_world.specs.World.{Block, thing, filler, words_of, room_of, is_loose, Plot, name_at}
use Rattle.heap_world.proofs.Pointing.{named_piece, piece_inside}
use Rattle.heap_world.proofs.Roomless.{only_spares}
use Rattle.image_graph.specs.Held.{IsAmong}
use Rattle.image_graph.specs.Full.{now_in, held_words}
use Rattle.image_graph.specs.Pinned.{is_pinned, begins}
use Rattle.image_graph.specs.Promised.{Promises}
use Rattle.image_graph.specs.Holds.{HoldsBy, AreSized}
use Rattle.image_graph.proofs.Carried.{not_renamed}
use Rattle.image_graph.proofs.Loosening.Loosened.{kind_of}
use Rattle.cycle_words.specs.Marking.Final.{freed, freed_owner}
use Rattle.cycle_words.specs.Marking.WhileMarking.{CanBeReached}
use Rattle.cycle_words.specs.Evacuation.Begun.{with_set}
use Rattle.cycle_words.specs.Updating.Changes.{is_chosen}
use Rattle.cycle_words.specs.Finishing.Finish.{is_to_free, is_to_stay, has_moved, set_freed}
use Rattle.cycle_words.specs.StillHolds.{is_going, NothingNamesGone, left_block, LeavingHolds}
use Rattle.cycle_words.proofs.Marking.Plain.{field_named}
use Rattle.cycle_words.proofs.Marking.Vanished as vanished
use Rattle.cycle_words.proofs.Marking.Freed.{CanFree, spare_ends, left_unmoved, freed_holds}
use Rattle.cycle_words.proofs.Evacuation.ClearedHolds.{set_stored_holds}
use Rattle.cycle_words.proofs.Evacuation.RenamedInPlace.{IsRenaming, renamed_holds}
use Rattle.cycle_words.proofs.Finishing.Strides.{stride_of}
use Rattle.cycle_words.proofs.Finishing.Walking as walking
use Rattle.cycle_words.proofs.Finishing.LeftPieces.{WasLeft, plot_left, piece_was, object_was, CanBeFilled, left_holds}

-- What does not go: by whether its region is in the set, whether that is pinned, and whether it has moved.
not_going : (in_heap in_set pinned moved : Bool) → in_heap ≡ true → (in_heap && in_set && (not pinned || moved)) ≡ false → ((in_set && not pinned) ≡ false) × ((in_set && pinned && moved) ≡ false)
not_going in_heap false pinned moved high not_to_go = (refl, refl)
not_going in_heap true false moved high not_to_go = absurd (true≢false (sym (ap (λ high_now. high_now && true && (not false || moved)) high) ∙ not_to_go))
not_going in_heap true true moved high not_to_go = (refl, sym (ap (λ high_now. high_now && true && (not true || moved)) high) ∙ not_to_go)

-- in a region of the set that is not freed what is left has not moved
left_plain : (in_set pinned moved : Bool) → in_set ≡ true → (in_set && not pinned) ≡ false → (in_set && pinned && moved) ≡ false → moved ≡ false
left_plain false pinned moved member not_freed not_moved = absurd (true≢false (sym member))
left_plain true false moved member not_freed not_moved = absurd (true≢false not_freed)
left_plain true true moved member not_freed not_moved = not_moved

-- words that only fill have not moved
filler_stays : (words : ℕ) → is_forwarded (filler_header words) ≡ false
filler_stays words = ne_eqb _ 3 (λ same_number. omega (arith, same_number))

module _ (config : Config) (memory : Word → ℕ) (block : Plot) (owner : ℕ → Option ℕ) (promises : Promises) (graph : Graph) (holds : HoldsBy config memory block owner promises graph) (sized : AreSized memory block) (nothing : NothingNamesGone config memory) where
  abbrev out : ℕ → Bool
  out = is_to_free config memory

  -- what becomes filler
  abbrev fill : ℕ → Bool
  fill address = is_to_stay config memory (region_with config address) && has_moved memory address

  abbrev top : ℕ → ℕ
  top region = memory (Top region)

  -- a region outside of the set is neither freed nor filled
  not_chosen : (region : ℕ) → (IsIn (memory Cset) region → ⊥) → is_chosen memory region ≡ false
  not_chosen region away = ne_eqb (bit_at (memory Cset) region) 1 away

  not_out : (region : ℕ) → (IsIn (memory Cset) region → ⊥) → out region ≡ false
  not_out region away = and_left (is_chosen memory region) (not (is_pinned config memory region)) (not_chosen region away)

  not_filled : (address : ℕ) → (IsIn (memory Cset) (region_with config address) → ⊥) → fill address ≡ false
  not_filled address away = and_left (is_to_stay config memory (region_with config address)) (has_moved memory address) (and_left (is_chosen memory (region_with config address)) (is_pinned config memory (region_with config address)) (not_chosen (region_with config address) away))

  high : (word : ℕ) (name : Name) → name_at (block word) ≡ Some name → config.region_words ≤ word
  high word name name_there = let piece = named_piece (block word) name name_there in (piece_inside config top block holds.objects.plotted word piece.0 piece.1).0

  spared : (word : ℕ) (name : Name) → name_at (block word) ≡ Some name → is_going config memory word ≡ false → (out (region_with config word) ≡ false) × (fill word ≡ false)
  spared word name named is_left =
      not_going (nat_le config.region_words word) (bit_at (memory Cset) (region_with config word) == 1) (is_pinned config memory (region_with config word)) (is_forwarded (memory (Heap word)))
      (le-leb config.region_words word (high word name named)) is_left

  root_spared : (word : ℕ) → IsAmong (held_words config memory) word → word ≢ 0 → (out (region_with config word) ≡ false) × (fill word ≡ false)
  root_spared word among positive = let named_root = holds.objects.root_named word among positive in spared word named_root.2 named_root.4 (nothing.roots word among positive)

  field_spared : (address index : ℕ) → CanBeReached config memory address → index < refs_in (memory (Heap (address + 1))) → memory (Heap (address + 3 + index)) ≢ 0
      → (out (region_with config (memory (Heap (address + 3 + index)))) ≡ false) × (fill (memory (Heap (address + 3 + index))) ≡ false)
  field_spared address index is_held index_below positive =
      let named_field = field_named config memory block owner promises graph holds address index is_held index_below positive in
      spared (memory (Heap (address + 3 + index))) named_field.0 named_field.1 (nothing.fields address index is_held index_below positive)

  -- no room is in the set
  room_outside : (address seat : ℕ) (piece : Block) → block address ≡ Some piece → room_of piece ≡ Some seat → IsIn (memory Cset) (region_with config address) → ⊥
  room_outside address seat piece piece_there room =
      let is_spare = only_spares block holds.pieces.unheld holds.pieces.uncarved address seat piece piece_there room in
      nothing.unseated seat (region_with config address) (spare_ends config memory block owner promises graph holds address seat is_spare.0 (piece_there ∙ ap Some is_spare.1))

  can_fill : CanBeFilled config memory block fill
  can_fill = record {
    unnamed_roots = λ word among some_word. (root_spared word among some_word).1;
    unnamed_fields = λ address index is_held few some_word. (field_spared address index is_held few some_word).1;
    copies = λ moved_address refs nums name piece_there forwarded.
        let away = (holds.moved moved_address refs nums name piece_there forwarded).outside in
        not_filled (now_in memory moved_address) (λ member. omega (arith, away, member));
    rooms = λ address seat piece piece_there room. not_filled address (room_outside address seat piece piece_there room);
  }

  abbrev filled : Plot
  filled = plot_left fill block

  filled_holds : HoldsBy config memory filled owner promises graph
  filled_holds = left_holds config memory block owner promises graph holds fill can_fill

  -- what is left in the regions that are not freed has not moved
  unmoved : (address refs nums : ℕ) (name : Name) → filled address ≡ Some (thing name refs nums) → out (region_with config address) ≡ false → is_forwarded (memory (Heap address)) ≡ false
  unmoved address refs nums name left_there stays = false_from_ne_true (is_forwarded (memory (Heap address))) (λ forwarded.
      let object_before = object_was fill block address (thing name refs nums) refl left_there in
      let member = (holds.moved address refs nums name object_before.0 forwarded).in_set in
      true≢false (sym forwarded ∙ left_plain (is_chosen memory (region_with config address)) (is_pinned config memory (region_with config address)) (is_forwarded (memory (Heap address)))
      (eq-eqb (bit_at (memory Cset) (region_with config address)) 1 member) stays object_before.1))

  can : CanFree config out memory filled
  can = record {
    unseated = λ seat region found_there. not_out region (nothing.unseated seat region found_there);
    unshared = λ region found_there. not_out region (holds.shared_one region found_there).outside;
    unnamed_roots = λ word among some_word. (root_spared word among some_word).0;
    unnamed_fields = λ address index is_held few some_word. (field_spared address index is_held few some_word).0;
    unmoved = unmoved;
  }

  abbrev left : Plot
  left = left_block config memory block

  abbrev owned : ℕ → Option ℕ
  owned = freed_owner out owner

  -- the words once the regions were freed, without a set
  abbrev now : Word → ℕ
  now = with_set (freed config out memory) 0

  calm_holds : HoldsBy config now left owned promises graph
  calm_holds = set_stored_holds config (freed config out memory) left owned promises graph (freed_holds config out memory filled owner promises graph filled_holds can)
      (λ address refs nums name found_there. left_unmoved config out memory filled owner promises graph filled_holds can address refs nums name found_there) 0
      (λ region found_there member. (let no_bit = bit_at-zero region in omega (arith, member, no_bit)))

  abbrev memory_then : Word → ℕ
  memory_then = set_freed config memory

  -- Pinned regions of the set can be walked.
  abbrev IsWalked : ℕ → Type 0
  IsWalked region = is_to_stay config memory region ≡ true

  sizes : (address : ℕ) (piece : Block) → block address ≡ Some piece → IsWalked (region_with config address) → stride_at (λ address. memory (Heap address)) address ≡ words_of piece
  sizes address piece piece_there walked =
      let member = eqb-true (bit_at (memory Cset) (region_with config address)) 1 (and_parts (is_chosen memory (region_with config address)) (is_pinned config memory (region_with config address)) walked).0 in
      stride_of memory block sized address piece piece_there (λ seat room. room_outside address seat piece piece_there room member)

  -- a word becomes the header of filler
  abbrev changes : ℕ → Bool
  changes address = is_to_stay config memory (region_with config address) && begins config memory address && has_moved memory address

  change_parts : (address : ℕ) → changes address ≡ true → (is_to_stay config memory (region_with config address) ≡ true) × (begins config memory address ≡ true) × (has_moved memory address ≡ true)
  change_parts address changed =
      let parts = and_parts (is_to_stay config memory (region_with config address) && begins config memory address) (has_moved memory address) changed in
      let first_parts = and_parts (is_to_stay config memory (region_with config address)) (begins config memory address) parts.0 in
      (first_parts.0, first_parts.1, parts.1)

  -- the words of other pieces stay
  no_change : (address index : ℕ) (piece : Block) → block address ≡ Some piece → fill address ≡ false → index < words_of piece → changes (address + index) ≡ true → ⊥
  no_change address zero piece piece_there stands index_below change =
      let same_address : address + 0 ≡ address = omega arith in
      let changed_parts = change_parts address (sym (ap changes same_address) ∙ change) in
      true≢false (sym (and_from (is_to_stay config memory (region_with config address)) (has_moved memory address) changed_parts.0 changed_parts.2) ∙ stands)
  no_change address (suc index) piece piece_there stands index_below change =
      let changed_parts = change_parts (address + suc index) change in
      let same_region = walking.same_region config memory block holds.objects.plotted holds.filled holds.pieces.some IsWalked sizes address (suc index) piece piece_there index_below in
      let walked : IsWalked (region_with config address) = sym (ap (is_to_stay config memory) same_region) ∙ changed_parts.0 in
      true≢false (sym changed_parts.1 ∙ walking.begins_not config memory block holds.objects.plotted holds.filled holds.pieces.some IsWalked sizes address (suc index) piece piece_there index_below walked (omega arith))

  word_same : (address index : ℕ) (piece : Block) → block address ≡ Some piece → fill address ≡ false → index < words_of piece → memory_then (Heap (address + index)) ≡ memory (Heap (address + index))
  word_same address index piece piece_there stands index_below =
      cond-false (changes (address + index)) (filler_header (object_words (memory (Heap (address + index + 1))))) (memory (Heap (address + index)))
      (false_from_ne_true (changes (address + index)) (no_change address index piece piece_there stands index_below))

  header_same : (address : ℕ) (piece : Block) → block address ≡ Some piece → fill address ≡ false → memory_then (Heap address) ≡ memory (Heap address)
  header_same address piece piece_there stands =
      let same_address : address + 0 ≡ address = omega arith in
      sym (ap (λ address. memory_then (Heap address)) same_address) ∙ word_same address 0 piece piece_there stands (holds.pieces.some address piece piece_there) ∙ ap (λ address. memory (Heap address)) same_address

  -- and what has moved has the header of filler of its words
  header_filled : (address : ℕ) (piece : Block) → block address ≡ Some piece → fill address ≡ true → memory_then (Heap address) ≡ filler_header (object_words (memory (Heap (address + 1))))
  header_filled address piece piece_there passed =
      let stay_parts = and_parts (is_to_stay config memory (region_with config address)) (has_moved memory address) passed in
      let begins_here = walking.piece_begins config memory block holds.objects.plotted holds.filled holds.pieces.some IsWalked sizes address piece piece_there stay_parts.0 in
      cond-true (changes address) (filler_header (object_words (memory (Heap (address + 1))))) (memory (Heap address))
      (and_from (is_to_stay config memory (region_with config address) && begins config memory address) (has_moved memory address) (and_from (is_to_stay config memory (region_with config address)) (begins config memory address) stay_parts.0 begins_here) stay_parts.1)

  -- a piece that is left and is not loose was there
  there : (address : ℕ) (piece : Block) → is_loose piece ≡ false → left address ≡ Some piece → (block address ≡ Some piece) × (fill address ≡ false)
  there address piece fixed left_there = object_was fill block address piece fixed (vanished.piece_was config out filled address piece left_there).1

  renaming : IsRenaming config now memory_then left
  renaming = record {
    headers = λ address refs nums name left_there. let object_before = there address (thing name refs nums) refl left_there in header_same address (thing name refs nums) object_before.0 object_before.1;
    words = λ address offset refs nums name left_there reads index_below no_reference. let object_before = there address (thing name refs nums) refl left_there in word_same address offset (thing name refs nums) object_before.0 object_before.1 index_below;
    fields = λ object_address slot refs nums name left_there few.
        let object_before = there object_address (thing name refs nums) refl left_there in
        let place : object_address + (3 + slot) ≡ object_address + 3 + slot = omega arith in
        not_renamed now (memory (Heap (object_address + 3 + slot))) (memory_then (Heap (object_address + 3 + slot)))
        (sym (ap (λ address. memory_then (Heap address)) place) ∙ word_same object_address (3 + slot) (thing name refs nums) object_before.0 object_before.1 (omega (arith, few)) ∙ ap (λ address. memory (Heap address)) place);
    roots = λ mutator index inside few. not_renamed now (memory (Root mutator index)) (memory (Root mutator index)) refl;
    answers = λ mutator inside. not_renamed now (memory (Answer mutator)) (memory (Answer mutator)) refl;
    waits = λ t. refl;
    tops = λ r. refl;
    free = refl;
    cset = refl;
    currents = λ seat. refl;
    share = refl;
    pins = λ t slot. refl;
  }

  pub set_left_holds : HoldsBy config memory_then left owned promises graph
  set_left_holds = renamed_holds config now memory_then left owned promises graph calm_holds renaming

  -- what has moved is an object
  moved_fixed : (address : ℕ) (piece : Block) → block address ≡ Some piece → fill address ≡ true → is_loose piece ≡ false
  moved_fixed address piece piece_there passed =
      let stay_parts = and_parts (is_to_stay config memory (region_with config address)) (has_moved memory address) passed in
      ⊎_elim
      (λ (fixed : is_loose piece ≡ false). fixed)
      (λ loose. ⊎_elim
      (λ (room : (seat : ℕ) × (room_of piece ≡ Some seat)). absurd (true≢false (sym passed ∙ not_filled address (room_outside address room.0 piece piece_there room.1))))
      (λ (fills : (words : ℕ) × (piece ≡ filler words)).
      absurd (true≢false (sym stay_parts.1 ∙ ap is_forwarded (sized.fillers address fills.0 (piece_there ∙ ap Some fills.1)) ∙ filler_stays fills.0)))
      loose)
      (kind_of piece)

  filler_said : (address words : ℕ) (piece : Block) → block address ≡ Some piece → WasLeft (fill address) piece (filler words) → memory_then (Heap address) ≡ filler_header words
  filler_said address words piece piece_there (WasLeft.stays same_piece stands) = header_same address piece piece_there stands ∙ sized.fillers address words (piece_there ∙ ap Some same_piece)
  filler_said address words piece piece_there (WasLeft.fills fills passed) =
      header_filled address piece piece_there passed ∙ ap filler_header (sized.objects address piece piece_there (moved_fixed address piece piece_there passed)) ∙ ap filler_header (sym (ap words_of fills))

  pub set_left_sized : AreSized memory_then left
  set_left_sized = record {
    objects = λ left_address left_piece left_there fixed.
        let piece_before = there left_address left_piece fixed left_there in
        let words = sized.objects left_address left_piece piece_before.0 fixed in
        ap object_words (word_same left_address 1 left_piece piece_before.0 piece_before.1 (omega (arith, words))) ∙ words;
    headers = λ address piece left_there fixed. let piece_before = there address piece fixed left_there in ap is_filler (header_same address piece piece_before.0 piece_before.1) ∙ sized.headers address piece piece_before.0 fixed;
    fillers = λ left_address words left_there.
        let piece_before = piece_was fill block left_address (filler words) (vanished.piece_was config out filled left_address (filler words) left_there).1 in
        filler_said left_address words piece_before.0 piece_before.1 piece_before.2;
  }

pub leaving_holds : (config : Config) (memory : Word → ℕ) → LeavingHolds config memory (set_freed config memory)
leaving_holds config memory block owner promises graph holds sized nothing =
    record { holds = set_left_holds config memory block owner promises graph holds sized nothing; sized = set_left_sized config memory block owner promises graph holds sized nothing }
