-- Words hold the same graph where pieces that are loose become others, or go: all other pieces stay, with their words.
use Rattle.std.proofs.Common.{◌≡◌, ◌≢◌, ℕ, ◌+◌, ◌<◌, ◌≤◌, ◌⊎◌, Bool, true, false, Option, Some, inl, inr, ⊎_elim, refl, sym, ap, ◌∙◌, subst, arith}
use Rattle.std.proofs.lemmas.Bool.{cases_eq}
use Rattle.heap_words.specs.declared.config.Config.{Config}
use Rattle.heap_words.specs.Words.{Word, Cset, Free, Top, Current, Root, Wait, Answer, Heap, Share, Pin}
use Rattle.heap_words.specs.Encoding.{is_forwarded, object_words, filler_header}
use Rattle.regions.specs.Place.{region_with}
use Rattle.regions.specs.Sets.{IsIn, IsOutside}
use Rattle.regions.specs.Walk.{is_filler}
use Rattle.shen_graph.specs.declared.name.Name.{Name}
use Rattle.shen_graph.specs.Graph.{Graph}
use Rattle.heap_world.specs.World.{Block, thing, hand, promised, filler, spare, carved, words_of, room_of, is_loose, Plot, name_at, IsPlotted, IsFilled, IsFreeWord, ShareIsOpen, AreBuffers}
use Rattle.heap_world.proofs.Loose.{SameButLoose, names_stay}
use Rattle.image_graph.specs.Held.{IsLedTo, IsAmong}
use Rattle.image_graph.specs.Full.{now_in, held_words}
use Rattle.image_graph.specs.Promised.{Promises}
use Rattle.image_graph.specs.Plot.{NamedAreThings}
use Rattle.image_graph.specs.Holds.{HasMoved, HoldsBy, AreSized}
use Rattle.image_graph.proofs.Carried.{now_same, not_renamed, IsCarried, led_comes, carried_holds}
use Rattle.image_graph.specs.Buffers.{HasNoMoreSeats}

-- the words that change where buffers go: of the heap, of buffers, and tops
abbrev pub is_of_buffers : Word → Bool
is_of_buffers (Heap address) = true
is_of_buffers (Top region) = true
is_of_buffers (Current seat) = true
is_of_buffers _ = false

-- All pieces but loose ones are the same, with their words; room was there, and so were buffers; and no top rises.
pub record IsLoosened (memory other_memory : Word → ℕ) (block plot : Plot) : Type 0 where
  pub same : SameButLoose block plot
  pub rooms : (address seat : ℕ) (piece : Block) → plot address ≡ Some piece → room_of piece ≡ Some seat → block address ≡ Some piece
  pub some : (address words : ℕ) → plot address ≡ Some (filler words) → 1 ≤ words
  pub words : (address k : ℕ) (piece : Block) → is_loose piece ≡ false → block address ≡ Some piece → k < words_of piece → other_memory (Heap (address + k)) ≡ memory (Heap (address + k))
  pub headers : (address words : ℕ) → plot address ≡ Some (filler words) → (other_memory (Heap address) ≡ filler_header words) ⊎ ((block address ≡ Some (filler words)) × (other_memory (Heap address) ≡ memory (Heap address)))
  pub others : (word : Word) → is_of_buffers word ≡ false → other_memory word ≡ memory word
  pub lower : (region : ℕ) → other_memory (Top region) ≤ memory (Top region)
  pub fewer : (seat : ℕ) → other_memory (Current seat) ≢ 0 → other_memory (Current seat) ≡ memory (Current seat)

-- so it is where nothing changes
pub loosened_none : (memory : Word → ℕ) (block : Plot) → ((address words : ℕ) → block address ≡ Some (filler words) → 1 ≤ words) → IsLoosened memory memory block block
loosened_none memory block fillers_long = record {
  same = record { stays = λ address piece fixed piece_there. piece_there; came = λ address piece fixed piece_there. piece_there };
  rooms = λ address seat room_piece piece_there room. piece_there;
  some = fillers_long;
  words = λ address offset piece fixed piece_there word_below. refl;
  headers = λ address words piece_there. inr (piece_there, refl);
  others = λ word other_word. refl;
  lower = λ region. omega arith;
  fewer = λ some_seat fillers_long. refl;
}

-- and from one to a second, and on to a third
pub loosened_on : (first_memory second_memory third_memory : Word → ℕ) (block plot third_plot : Plot) → IsLoosened first_memory second_memory block plot → IsLoosened second_memory third_memory plot third_plot → IsLoosened first_memory third_memory block third_plot
loosened_on memory other_memory third_memory block plot third_plot loosened second_loosened = record {
  same = record {
    stays = λ place piece fixed piece_there. second_loosened.same.stays place piece fixed (loosened.same.stays place piece fixed piece_there);
    came = λ place piece fixed piece_there. loosened.same.came place piece fixed (second_loosened.same.came place piece fixed piece_there);
  };
  rooms = λ place seat room_piece piece_there room. loosened.rooms place seat room_piece (second_loosened.rooms place seat room_piece piece_there room) room;
  some = second_loosened.some;
  words = λ place offset piece fixed piece_there word_below. second_loosened.words place offset piece fixed (loosened.same.stays place piece fixed piece_there) word_below ∙ loosened.words place offset piece fixed piece_there word_below;
  headers = λ address words piece_there. ⊎_elim
      (λ header. inl header)
      (λ was_there. ⊎_elim (λ header. inl (was_there.1 ∙ header)) (λ before. inr (before.0, was_there.1 ∙ before.1)) (loosened.headers address words was_there.0))
      (second_loosened.headers address words piece_there);
  others = λ word other_word. second_loosened.others word other_word ∙ loosened.others word other_word;
  lower = λ region. (let first_lower = loosened.lower region in let second = second_loosened.lower region in omega (arith, first_lower, second));
  fewer = λ seat some_buffer. let piece_there = second_loosened.fewer seat some_buffer in piece_there ∙ loosened.fewer seat (λ no_buffer. some_buffer (piece_there ∙ no_buffer));
}

-- who is no seat has no buffer still
pub loosened_seats : (config : Config) (memory next_memory : Word → ℕ) (block plot : Plot) → IsLoosened memory next_memory block plot → HasNoMoreSeats config memory → HasNoMoreSeats config next_memory
loosened_seats config memory next_memory block plot loosened seats seat seat_past = ⊎_elim
    (λ (no_buffer : next_memory (Current seat) ≡ 0). no_buffer)
    (λ (some_buffer : next_memory (Current seat) ≢ 0). loosened.fewer seat some_buffer ∙ seats seat seat_past)
    (cases_eq (next_memory (Current seat)) 0)

-- a piece is not loose, or it is room, or it only fills
pub kind_of : (piece : Block) → (is_loose piece ≡ false) ⊎ (((seat : ℕ) × (room_of piece ≡ Some seat)) ⊎ ((words : ℕ) × (piece ≡ filler words)))
kind_of (hand seat words) = inr (inl (seat, refl))
kind_of (spare seat words) = inr (inl (seat, refl))
kind_of (carved seat words) = inr (inl (seat, refl))
kind_of (filler words) = inr (inr (words, refl))
kind_of _ = inl refl

module _ (config : Config) (memory next_memory : Word → ℕ) (block plot : Plot) (owner : ℕ → Option ℕ) (promises : Promises) (graph : Graph) (holds : HoldsBy config memory block owner promises graph) (loosened : IsLoosened memory next_memory block plot) where
  -- the header of a piece that is not loose stays
  pub header_stays : (address : ℕ) (piece : Block) → is_loose piece ≡ false → block address ≡ Some piece → next_memory (Heap address) ≡ memory (Heap address)
  header_stays address piece fixed piece_there =
      let same_address : address ≡ address + 0 = omega arith in
      ap (λ address. next_memory (Heap address)) same_address ∙ loosened.words address 0 piece fixed piece_there (holds.pieces.some address piece piece_there) ∙ ap (λ address. memory (Heap address)) (sym same_address)

  thing_header : (address refs nums : ℕ) (name : Name) → block address ≡ Some (thing name refs nums) → next_memory (Heap address) ≡ memory (Heap address)
  thing_header address refs nums name thing_there = header_stays address (thing name refs nums) refl thing_there

  -- what has a name had it
  named_was : (address : ℕ) (name : Name) → name_at (plot address) ≡ Some name → name_at (block address) ≡ Some name
  named_was = names_stay config plot block (record { stays = loosened.same.came; came = loosened.same.stays })

  named_now : (address : ℕ) (name : Name) → name_at (plot address) ≡ Some name → (refs : ℕ) × (nums : ℕ) × (plot address ≡ Some (thing name refs nums))
  named_now address name named = let was_named = holds.pieces.named address name (named_was address name named) in (was_named.0, was_named.1, loosened.same.stays address (thing name was_named.0 was_named.1) refl was_named.2)

  now_again : (address : ℕ) (name : Name) → name_at (block address) ≡ Some name → now_in next_memory address ≡ now_in memory address
  now_again address name named = let named_piece = holds.pieces.named address name named in now_same next_memory memory address (thing_header address named_piece.0 named_piece.1 name named_piece.2)

  -- pieces have words
  pub some_again : (address : ℕ) (piece : Block) → plot address ≡ Some piece → 1 ≤ words_of piece
  some_again address piece piece_there = ⊎_elim
      (λ (fixed : is_loose piece ≡ false). holds.pieces.some address piece (loosened.same.came address piece fixed piece_there))
      (λ loose. ⊎_elim
      (λ (room : (seat : ℕ) × (room_of piece ≡ Some seat)). holds.pieces.some address piece (loosened.rooms address room.0 piece piece_there room.1))
      (λ (fills : (words : ℕ) × (piece ≡ filler words)). let filler_long = loosened.some address fills.0 (piece_there ∙ ap Some fills.1) in let same_words : words_of piece ≡ fills.0 = ap words_of fills.1 in omega (arith, filler_long, same_words))
      loose)
      (kind_of piece)

  pieces_again : NamedAreThings plot
  pieces_again = record {
    named = named_now;
    unpromised = λ address seat words piece_there. holds.pieces.unpromised address seat words (loosened.same.came address (promised seat words) refl piece_there);
    unheld = λ address seat words piece_there. holds.pieces.unheld address seat words (loosened.rooms address seat (hand seat words) piece_there refl);
    uncarved = λ address seat words piece_there. holds.pieces.uncarved address seat words (loosened.rooms address seat (carved seat words) piece_there refl);
    some = some_again;
  }

  -- each piece says how many words it has, where each did
  pub loosened_sized : AreSized memory block → AreSized next_memory plot
  loosened_sized sized = record {
    objects = λ place object_piece piece_there fixed.
        let was_there = loosened.same.came place object_piece fixed piece_there in
        let words = sized.objects place object_piece was_there fixed in
        ap object_words (loosened.words place 1 object_piece fixed was_there (omega (arith, words))) ∙ words;
    headers = λ address piece piece_there fixed. let was_there = loosened.same.came address piece fixed piece_there in ap is_filler (header_stays address piece fixed was_there) ∙ sized.headers address piece was_there fixed;
    fillers = λ address words piece_there. ⊎_elim (λ header. header) (λ was_there. was_there.1 ∙ sized.fillers address words was_there.0) (loosened.headers address words piece_there);
  }

  abbrev same_place : ℕ → ℕ
  same_place address = address

  abbrev Anywhere : ℕ → Type 0
  Anywhere address = Unit {0}

  -- Where pieces fill the regions still, and the words of buffers tell of free words.
  module _ (plotted : IsPlotted config (λ any_region. next_memory (Top any_region)) plot) where
    carried : IsCarried config memory next_memory block plot same_place Anywhere
    carried = record {
      plotted = plotted;
      names = names_stay config block plot loosened.same;
      current = λ word name named.
          let was_named = named_was word name named in
          let copy = holds.objects.current word name was_named in
          (copy.0, copy.1, ap plot (now_again word name was_named) ∙ loosened.same.stays (now_in memory word) (thing name copy.0 copy.1) refl copy.2);
      now = now_again;
      lands = λ address name named. tt;
      one = λ thing_address second_address at_x at_y same_address. same_address;
      pieces = λ thing_address refs nums name thing_there. loosened.same.came thing_address (thing name refs nums) refl thing_there;
      header = λ address refs nums name thing_there address_named was_named. thing_header address refs nums name (loosened.same.came address (thing name refs nums) refl thing_there) ∙ was_named;
      words = λ thing_address offset refs nums name thing_there address_named reads some_word field_below not_same. loosened.words thing_address offset (thing name refs nums) refl (loosened.same.came thing_address (thing name refs nums) refl thing_there) field_below;
      fields = λ thing_address field refs nums name thing_there address_named few.
          let place : thing_address + 3 + field ≡ thing_address + (3 + field) = omega arith in
          not_renamed memory (memory (Heap (thing_address + 3 + field))) (next_memory (Heap (thing_address + 3 + field)))
          (ap (λ address. next_memory (Heap address)) place ∙ loosened.words thing_address (3 + field) (thing name refs nums) refl (loosened.same.came thing_address (thing name refs nums) refl thing_there) (omega (arith, few)) ∙ ap (λ address. memory (Heap address)) (sym place));
      roots = λ mutator index inside few. not_renamed memory (memory (Root mutator index)) (next_memory (Root mutator index)) (loosened.others (Root mutator index) refl);
      answers = λ mutator inside. not_renamed memory (memory (Answer mutator)) (next_memory (Answer mutator)) (loosened.others (Answer mutator) refl);
      pins = λ mutator slot inside few. loosened.others (Pin mutator slot) refl;
      pinned = λ mutator slot inside few name copy plain. ap is_forwarded (thing_header (memory (Pin mutator slot)) copy.0 copy.1 name copy.2) ∙ plain;
      waits = λ mutator. loosened.others (Wait mutator) refl;
    }

    moved_again : (address refs nums : ℕ) (name : Name) → plot address ≡ Some (thing name refs nums) → is_forwarded (next_memory (Heap address)) ≡ true → HasMoved config next_memory plot address refs nums name
    moved_again address refs nums name thing_there forwarded =
        let before = loosened.same.came address (thing name refs nums) refl thing_there in
        let was_moved = holds.moved address refs nums name before (ap is_forwarded (sym (thing_header address refs nums name before)) ∙ forwarded) in
        let now_named = now_again address name (ap name_at before) in
        let same_set = loosened.others Cset refl in
        record {
          in_set = subst (λ cset. IsIn cset (region_with config address)) (sym same_set) was_moved.in_set;
          copy = ap plot now_named ∙ loosened.same.stays (now_in memory address) (thing name refs nums) refl was_moved.copy;
          outside = subst (λ some_address. IsOutside (next_memory Cset) (region_with config some_address)) (sym now_named) (subst (λ cset. IsOutside cset (region_with config (now_in memory address))) (sym same_set) was_moved.outside);
          current = ap (λ address. is_forwarded (next_memory (Heap address))) now_named ∙ ap is_forwarded (thing_header (now_in memory address) refs nums name was_moved.copy) ∙ was_moved.current;
        }

    -- a free region has no words still
    free_again : IsFreeWord config (next_memory Free) (λ region. next_memory (Top region)) owner
    free_again = subst (λ free_regions. IsFreeWord config free_regions (λ region. next_memory (Top region)) owner) (sym (loosened.others Free refl)) (record {
      no_more = holds.free_word.no_more;
      empty = λ region inside free_regions. (let no_words = holds.free_word.empty region inside free_regions in let less_top = loosened.lower region in omega (arith, no_words, less_top));
      nobodys = holds.free_word.nobodys;
    })

    share_again : ShareIsOpen config (next_memory Share) (next_memory Free) (next_memory Cset) owner
    share_again =
        subst (λ share. ShareIsOpen config share (next_memory Free) (next_memory Cset) owner) (sym (loosened.others Share refl))
        (subst (λ free_regions. ShareIsOpen config (memory Share) free_regions (next_memory Cset) owner) (sym (loosened.others Free refl))
        (subst (λ cset. ShareIsOpen config (memory Share) (memory Free) cset owner) (sym (loosened.others Cset refl)) holds.shared_one))

    pub loosened_holds : IsFilled config (λ region. next_memory (Top region)) plot → AreBuffers config (λ region. next_memory (Top region)) (λ seat. next_memory (Current seat)) plot → HoldsBy config next_memory plot owner promises graph
    loosened_holds filled buffers = carried_holds config memory next_memory block plot owner promises graph holds same_place Anywhere carried moved_again filled pieces_again free_again share_again buffers

    -- what can be reached could be
    pub loosened_reached : (x : ℕ) → IsLedTo (now_in next_memory) (λ address. next_memory (Heap address)) (IsAmong (held_words config next_memory)) x → IsLedTo (now_in memory) (λ address. memory (Heap address)) (IsAmong (held_words config memory)) x
    loosened_reached x reached = (led_comes config memory next_memory block plot owner promises graph holds same_place Anywhere carried x reached).led
