-- A piece is copied out of the collection set: words that held a graph hold it, with the copy as a further piece.
use Rattle.std.proofs.Common.{◌≡◌, ◌≢◌, ℕ, ◌+◌, ◌-◌, ◌<◌, ◌≤◌, ◌⊎◌, ◌==◌, ◌&&◌, nat_le, true, false, inl, inr, Option, Some, ⊎_elim, refl, sym, ap, ◌∙◌, subst, arith}
use Rattle.std.specs.Prelude.{bit_and}
use Rattle.std.specs.Int.{bit_at}
use Rattle.std.proofs.Math.Path.{fun_ext}
use Rattle.std.proofs.lemmas.Bool.{cases_eq, cases_Bool, cond-false, true≢false}
use Rattle.std.proofs.lemmas.Option.{same_Some}
use Rattle.std.proofs.lemmas.Nat.{and_le_l}
use Rattle.std.proofs.lemmas.Nat.Bits.{bit_at-zero}
use Rattle.heap_words.specs.declared.config.Config.{Config}
use Rattle.heap_words.specs.Words.{Word, Phase, Cset, Free, Top, Tams, Current, Root, Wait, Answer, Black, Heap, Share, Pin}
use Rattle.heap_words.specs.Encoding.{is_forwarded, forwardee_in, object_words, end_in}
use Rattle.regions.specs.Place.{base_of, region_with, IsOf}
use Rattle.regions.specs.Sets.{IsIn, IsOutside, all_but}
use Rattle.regions.specs.Marks.{mark_word, mark_bit}
use Rattle.regions.specs.Walk.{is_filler}
use Rattle.regions.proofs.PlaceLemmas.{regions_tile}
use Rattle.shen_graph.specs.declared.name.Name.{Name}
use Rattle.shen_graph.specs.Graph.{Graph}
use Rattle.heap_world.specs.World.{Block, thing, hand, promised, filler, carved, words_of, room_of, is_loose, Plot, name_at, IsCollected, IsPlotted, IsFilled, IsFreeWord, ShareIsOpen, AreBuffers, AreYoungRooms}
use Rattle.heap_world.proofs.FunctionUpdates.{updated, updated_same, updated_there, updated_else}
use Rattle.heap_world.proofs.Pieces.{beside, piece_cases}
use Rattle.heap_world.proofs.Pointing.{named_piece}
use Rattle.heap_world.proofs.Apart.{far}
use Rattle.heap_world.proofs.Recut.{room_loose}
use Rattle.heap_world.proofs.Joined as joined
use Rattle.heap_world.proofs.Joined.{CanJoin}
use Rattle.image_graph.specs.Held.{IsCopy}
use Rattle.image_graph.specs.Plot.{NamedAreThings}
use Rattle.image_graph.specs.Full.{now_in}
use Rattle.image_graph.specs.Promised.{Promises}
use Rattle.image_graph.proofs.BuffersStay.{buffers_stay, share_stays}
use Rattle.image_graph.specs.State.{EndsIn}
use Rattle.image_graph.specs.Holds.{HasMoved, HoldsBy, AreSized}
use Rattle.cycle_words.specs.Marking.Marks.{is_black, IsNew, IsKept}
use Rattle.cycle_words.specs.Marking.WhileMarking.{CanBeReached}
use Rattle.cycle_words.specs.Evacuation.Live.{words_at}
use Rattle.cycle_words.specs.Evacuation.Copied.{MayChange, top_address, copied_to, copied_out, IsCopiedOut}
use Rattle.cycle_words.specs.Evacuation.Begun.{is_collected}
use Rattle.cycle_words.specs.StillHolds.{AreMarkedObjects, WhileCollecting, IsUnpinned}
use Rattle.cycle_words.proofs.Pinned.{same_pinned}
use Rattle.cycle_words.proofs.Evacuation.CopiedOut.{copied_as}
use Rattle.cycle_words.proofs.Evacuation.Copies.{header_forwarded, forwarded_fills, now_is}
use Rattle.image_graph.proofs.Carried.{now_same, not_renamed, IsCarried, led_comes, carried_holds}

-- a set that has a region is not empty
pub some_set : (config : Config) (cset address : ℕ) → IsCollected config cset address → cset ≢ 0
some_set config cset address address_collected no_set = (let is_zero : bit_at cset (region_with config address) ≡ 0 = ap (λ set. bit_at set (region_with config address)) no_set ∙ bit_at-zero (region_with config address) in omega (arith, is_zero, address_collected))

-- What holds of the collection set from one object to the next.
pub record IsInOrder (config : Config) (memory : Word → ℕ) (block : Plot) : Type 0 where
  pub marked : AreMarkedObjects config memory block
  pub reachable : (a : ℕ) → CanBeReached config memory a → IsKept config memory a
  pub no_new : (region : ℕ) → IsIn (memory Cset) region → memory (Top region) ≡ memory (Tams region)
  pub floors : (region : ℕ) → region < config.regions → memory (Tams region) ≤ memory (Top region)
  pub unseated : (seat region : ℕ) → EndsIn config memory seat region → IsIn (memory Cset) region → ⊥
  pub young : AreYoungRooms config (λ region. memory (Tams region)) block

pub in_order : (config : Config) (memory : Word → ℕ) (block : Plot) → WhileCollecting config memory block → memory Cset ≢ 0 → IsInOrder config memory block
in_order config memory block collecting some_cset = record { marked = collecting.marked; reachable = collecting.reachable some_cset; no_new = collecting.no_new; floors = collecting.floors some_cset; unseated = collecting.unseated; young = collecting.young some_cset }

module _ (config : Config) (memory : Word → ℕ) (block : Plot) (owner : ℕ → Option ℕ) (promises : Promises) (graph : Graph) (graph_held : HoldsBy config memory block owner promises graph)
    (address : ℕ) (copied_piece : Block) (piece_there : block address ≡ Some copied_piece) (fixed : is_loose copied_piece ≡ false) (object_collected : IsCollected config (memory Cset) address) (not_forwarded : is_forwarded (memory (Heap address)) ≡ false) (unpinned : IsUnpinned config memory address)
    (same_size : words_at memory address ≡ words_of copied_piece) (address_copied : IsCopiedOut config memory (copied_out config memory address) address) where
  abbrev memory_then : Word → ℕ
  memory_then = copied_out config memory address

  abbrev r : ℕ
  r = address_copied.region

  -- where the copy lies
  abbrev pub to : ℕ
  to = top_address config memory address_copied.region

  abbrev top : ℕ → ℕ
  top region = memory (Top region)

  abbrev heap : ℕ → ℕ
  heap address = memory (Heap address)

  abbrev after : ℕ → ℕ
  after address = memory_then (Heap address)

  -- the pieces with the copy
  abbrev pub plot : Plot
  plot = updated block to (Some copied_piece)

  -- where an object comes from
  abbrev origin : ℕ → ℕ
  origin = updated (λ place. place) to address

  abbrev Lands : ℕ → Type 0
  Lands offset = offset ≢ address

  long : (address : ℕ) (piece : Block) → block address ≡ Some piece → 1 ≤ words_of piece
  long = graph_held.pieces.some

  own : 1 ≤ words_of copied_piece
  own = long address copied_piece piece_there

  joins : CanJoin config top block r (memory (Top r)) copied_piece
  joins = record {
    plotted = graph_held.objects.plotted;
    long = long;
    within = address_copied.below;
    top_is = refl;
    room = (let room = address_copied.room in omega (arith, room, same_size));
    some = own;
  }

  pub stays : (address : ℕ) (piece : Block) → block address ≡ Some piece → plot address ≡ Some piece
  stays = joined.stays config top block r (memory (Top r)) copied_piece joins

  -- nothing stood where the copy lies
  none_there : (piece : Block) → block to ≡ Some piece → ⊥
  none_there piece has_piece =
      let some_words = long to piece has_piece in
      let where_is = beside config top block graph_held.objects.plotted r to piece has_piece in
      let room = address_copied.room in
      omega (arith, some_words, own, where_is, room, same_size)

  elsewhere : to ≢ address
  elsewhere same_address = none_there copied_piece (ap block same_address ∙ piece_there)

  new_there : plot to ≡ Some copied_piece
  new_there = updated_there block to (Some copied_piece)

  cases : (address : ℕ) (piece : Block) → plot address ≡ Some piece → ((address ≡ to) × (copied_piece ≡ piece)) ⊎ ((address ≢ to) × (block address ≡ Some piece))
  cases address piece has_piece = piece_cases block to copied_piece address piece has_piece

  origin_there : origin to ≡ address
  origin_there = updated_there (λ place. place) to address

  origin_else : (asked_address : ℕ) → asked_address ≢ to → origin asked_address ≡ asked_address
  origin_else asked_address not_new = updated_else (λ place. place) to address asked_address (λ same_address. not_new (sym same_address))

  -- words of pieces stay, but for the header
  word_stays : (asked_address offset : ℕ) (piece : Block) → block asked_address ≡ Some piece → offset < words_of piece → asked_address + offset ≢ address → after (asked_address + offset) ≡ heap (asked_address + offset)
  word_stays asked_address offset piece has_piece offset_below not_header =
      let room = address_copied.room in
      address_copied.copied.elsewhere (asked_address + offset) not_header
      (⊎_elim
      (λ (piece_before : asked_address + words_of piece ≤ base_of config r). inl (omega (arith, piece_before, offset_below)))
      (λ (not_before : ((base_of config r ≤ asked_address) × (asked_address + words_of piece ≤ base_of config r + top r)) ⊎ (base_of config r + config.region_words ≤ asked_address)). ⊎_elim
      (λ (piece_within : (base_of config r ≤ asked_address) × (asked_address + words_of piece ≤ base_of config r + top r)). inl (omega (arith, piece_within.1, offset_below)))
      (λ (lies_behind : base_of config r + config.region_words ≤ asked_address). inr (omega (arith, lies_behind, room)))
      not_before)
      (beside config top block graph_held.objects.plotted r asked_address piece has_piece))

  kept : (asked_address offset : ℕ) (piece : Block) → asked_address ≢ address → block asked_address ≡ Some piece → offset < words_of piece → after (asked_address + offset) ≡ heap (asked_address + offset)
  kept asked_address offset piece addresses_differ has_piece offset_below =
      let not_header : asked_address + offset ≢ address + 0 = far config top block graph_held.objects.plotted asked_address address offset 0 piece copied_piece has_piece piece_there addresses_differ offset_below (omega (arith, own)) in
      word_stays asked_address offset piece has_piece offset_below (λ same_word. not_header (omega (arith, same_word)))

  header_stays : (asked_address : ℕ) (piece : Block) → asked_address ≢ address → block asked_address ≡ Some piece → after asked_address ≡ heap asked_address
  header_stays asked_address piece addresses_differ has_piece =
      let same_sum : asked_address + 0 ≡ asked_address = omega arith in
      sym (ap after same_sum) ∙ kept asked_address 0 piece addresses_differ has_piece (long asked_address piece has_piece) ∙ ap heap same_sum

  shape_stays : (asked_address : ℕ) (piece : Block) → block asked_address ≡ Some piece → 2 ≤ words_of piece → after (asked_address + 1) ≡ heap (asked_address + 1)
  shape_stays asked_address piece has_piece at_most = ⊎_elim
      (λ (same_address : asked_address ≡ address). word_stays asked_address 1 piece has_piece (omega (arith, at_most)) (λ at_header. omega (arith, at_header, same_address)))
      (λ (addresses_differ : asked_address ≢ address). kept asked_address 1 piece addresses_differ has_piece (omega (arith, at_most)))
      (cases_eq asked_address address)

  -- current copies
  now_there : now_in memory_then address ≡ to
  now_there = now_is memory_then address to address_copied.copied.forwarded

  now_new : now_in memory_then to ≡ to
  now_new = cond-false (is_forwarded (after to)) (forwardee_in (after to)) to (ap is_forwarded address_copied.copied.header)

  now_here : now_in memory address ≡ address
  now_here = cond-false (is_forwarded (heap address)) (forwardee_in (heap address)) address not_forwarded

  now_else : (asked_address : ℕ) (piece : Block) → asked_address ≢ address → block asked_address ≡ Some piece → now_in memory_then asked_address ≡ now_in memory asked_address
  now_else asked_address piece addresses_differ has_piece = now_same memory_then memory asked_address (header_stays asked_address piece addresses_differ has_piece)

  now_not_old : (asked_address asked_refs asked_nums : ℕ) (named : Name) → asked_address ≢ address → block asked_address ≡ Some (thing named asked_refs asked_nums) → now_in memory asked_address ≢ address
  now_not_old asked_address asked_refs asked_nums named addresses_differ thing_there same_now = ⊎_elim
      (λ (object_moved : is_forwarded (heap asked_address) ≡ true).
      let away = (graph_held.moved asked_address asked_refs asked_nums named thing_there object_moved).outside in
      let out_of : bit_at (memory Cset) (region_with config address) ≡ 0 = subst (λ current. bit_at (memory Cset) (region_with config current) ≡ 0) same_now away in
      omega (arith, out_of, object_collected))
      (λ (object_stands : is_forwarded (heap asked_address) ≡ false). addresses_differ (sym (cond-false (is_forwarded (heap asked_address)) (forwardee_in (heap asked_address)) asked_address object_stands) ∙ same_now))
      (cases_Bool (is_forwarded (heap asked_address)))

  now_not_new : (address : ℕ) (named : Name) → name_at (block address) ≡ Some named → now_in memory address ≢ to
  now_not_new address named has_name same_now = let copy = graph_held.objects.current address named has_name in none_there (thing named copy.0 copy.1) (ap block (sym same_now) ∙ copy.2)

  -- other words stay
  word_same : (word : Word) → (MayChange word → ⊥) → memory_then word ≡ memory word
  word_same word = address_copied.copied.others word

  pub set_same : memory_then Cset ≡ memory Cset
  set_same = word_same Cset (λ never. never)

  top_same : (region : ℕ) → region ≢ r → memory_then (Top region) ≡ memory (Top region)
  top_same = address_copied.copied.other_tops

  tops_are : (λ region. memory_then (Top region)) ≡ updated top r (memory (Top r) + words_of copied_piece)
  tops_are = fun_ext (λ region. ⊎_elim
      (λ (same_region : r ≡ region).
      ap (λ region. memory_then (Top region)) (sym same_region) ∙ address_copied.copied.top ∙ ap (λ words. memory (Top r) + words) same_size ∙ sym (updated_same top r (memory (Top r) + words_of copied_piece) region same_region))
      (λ (regions_differ : r ≢ region). top_same region (λ regions_equal. regions_differ (sym regions_equal)) ∙ sym (updated_else top r (memory (Top r) + words_of copied_piece) region regions_differ))
      (cases_eq r region))

  -- the copy lies outside the set
  region_is : region_with config to ≡ r
  region_is = let room = address_copied.room in regions_tile.of_no_other config r to (record { from = omega arith; before = omega (arith, own, room, same_size) })

  -- room was there, for what is copied is none
  room_was : (address seat : ℕ) (piece : Block) → room_of piece ≡ Some seat → plot address ≡ Some piece → block address ≡ Some piece
  room_was address seat piece room_found has_piece = ⊎_elim
      (λ (new : (address ≡ to) × (copied_piece ≡ piece)). absurd (true≢false (sym (room_loose piece seat room_found) ∙ sym (ap is_loose new.1) ∙ fixed)))
      (λ (old : (address ≢ to) × (block address ≡ Some piece)). old.1)
      (cases address piece has_piece)

  named_again : (asked_address : ℕ) (named : Name) → name_at (plot asked_address) ≡ Some named → (refs : ℕ) × (nums : ℕ) × (plot asked_address ≡ Some (thing named refs nums))
  named_again asked_address named has_name =
      let thing_named = named_piece (plot asked_address) named has_name in
      ⊎_elim
      (λ (new : (asked_address ≡ to) × (copied_piece ≡ thing_named.0)).
      let same_piece : block address ≡ Some thing_named.0 = piece_there ∙ ap Some new.1 in
      let named_before = graph_held.pieces.named address named (ap name_at same_piece ∙ thing_named.2) in
      (named_before.0, named_before.1, thing_named.1 ∙ sym same_piece ∙ named_before.2))
      (λ (old : (asked_address ≢ to) × (block asked_address ≡ Some thing_named.0)).
      let named_before = graph_held.pieces.named asked_address named (ap name_at old.1 ∙ thing_named.2) in
      (named_before.0, named_before.1, thing_named.1 ∙ sym old.1 ∙ named_before.2))
      (cases asked_address thing_named.0 thing_named.1)

  pieces_again : NamedAreThings plot
  pieces_again = record {
    named = named_again;
    unpromised = λ asked_address seat words has_piece. ⊎_elim
        (λ (new : (asked_address ≡ to) × (copied_piece ≡ promised seat words)). graph_held.pieces.unpromised address seat words (piece_there ∙ ap Some new.1))
        (λ (old : (asked_address ≢ to) × (block asked_address ≡ Some (promised seat words))). graph_held.pieces.unpromised asked_address seat words old.1)
        (cases asked_address (promised seat words) has_piece);
    unheld = λ address seat words has_piece. graph_held.pieces.unheld address seat words (room_was address seat (hand seat words) refl has_piece);
    uncarved = λ address seat words has_piece. graph_held.pieces.uncarved address seat words (room_was address seat (carved seat words) refl has_piece);
    some = λ address piece has_piece. ⊎_elim
        (λ (new : (address ≡ to) × (copied_piece ≡ piece)). subst (λ asked_piece. 1 ≤ words_of asked_piece) new.1 own)
        (λ (old : (address ≢ to) × (block address ≡ Some piece)). long address piece old.1)
        (cases address piece has_piece);
  }

  current_again : (asked_address : ℕ) (named : Name) → name_at (plot asked_address) ≡ Some named → IsCopy plot (now_in memory_then asked_address) named
  current_again asked_address named has_name =
      let thing_named = named_again asked_address named has_name in
      ⊎_elim
      (λ (new : (asked_address ≡ to) × (copied_piece ≡ thing named thing_named.0 thing_named.1)). (thing_named.0, thing_named.1, ap (λ current. plot (now_in memory_then current)) new.0 ∙ ap plot now_new ∙ new_there ∙ ap Some new.1))
      (λ (old : (asked_address ≢ to) × (block asked_address ≡ Some (thing named thing_named.0 thing_named.1))). ⊎_elim
      (λ (same_address : asked_address ≡ address).
      (thing_named.0, thing_named.1, ap (λ current. plot (now_in memory_then current)) same_address ∙ ap plot now_there ∙ new_there ∙ sym piece_there ∙ ap block (sym same_address) ∙ old.1))
      (λ (addresses_differ : asked_address ≢ address).
      let copy = graph_held.objects.current asked_address named (ap name_at old.1) in
      (copy.0, copy.1, ap plot (now_else asked_address (thing named thing_named.0 thing_named.1) addresses_differ old.1) ∙ stays (now_in memory asked_address) (thing named copy.0 copy.1) copy.2))
      (cases_eq asked_address address))
      (cases asked_address (thing named thing_named.0 thing_named.1) thing_named.2)

  -- where an address leads comes from where it led
  now_from : (asked_address : ℕ) (named : Name) → name_at (block asked_address) ≡ Some named → (origin (now_in memory_then asked_address) ≡ now_in memory asked_address) × (now_in memory_then asked_address ≢ address)
  now_from asked_address named has_name =
      let thing_named = graph_held.pieces.named asked_address named has_name in
      ⊎_elim
      (λ (same_address : asked_address ≡ address). (
        ap (λ current. origin (now_in memory_then current)) same_address ∙ ap origin now_there ∙ origin_there ∙ sym now_here ∙ ap (now_in memory) (sym same_address),
        λ leads_back. elsewhere (sym (ap (now_in memory_then) same_address ∙ now_there) ∙ leads_back),
      ))
      (λ (addresses_differ : asked_address ≢ address).
      let same_now = now_else asked_address (thing named thing_named.0 thing_named.1) addresses_differ thing_named.2 in (
        ap origin same_now ∙ origin_else (now_in memory asked_address) (now_not_new asked_address named has_name),
        λ leads_back. now_not_old asked_address thing_named.0 thing_named.1 named addresses_differ thing_named.2 (sym same_now ∙ leads_back),
      ))
      (cases_eq asked_address address)

  pub pin_same : (mutator index : ℕ) → memory_then (Pin mutator index) ≡ memory (Pin mutator index)
  pin_same mutator index = word_same (Pin mutator index) (λ never. never)

  carried : IsCarried config memory memory_then block plot origin Lands
  carried = record {
    plotted = subst (λ top. IsPlotted config top plot) (sym tops_are) (joined.plotted_more config top block r (memory (Top r)) copied_piece joins);
    names = joined.names_stay config top block r (memory (Top r)) copied_piece joins;
    current = current_again;
    now = λ old_address named object_stands. (now_from old_address named object_stands).0;
    lands = λ address named object_stands. (now_from address named object_stands).1;
    one = λ first_address second_address first_lands second_lands equal. ⊎_elim
        (λ (first_is_new : first_address ≡ to). ⊎_elim
        (λ (second_is_new : second_address ≡ to). first_is_new ∙ sym second_is_new)
        (λ (second_is_old : second_address ≢ to). absurd (second_lands (sym (sym origin_there ∙ ap origin (sym first_is_new) ∙ equal ∙ origin_else second_address second_is_old))))
        (cases_eq second_address to))
        (λ (first_is_old : first_address ≢ to). ⊎_elim
        (λ (second_is_new : second_address ≡ to). absurd (first_lands (sym (origin_else first_address first_is_old) ∙ equal ∙ ap origin second_is_new ∙ origin_there)))
        (λ (second_is_old : second_address ≢ to). sym (origin_else first_address first_is_old) ∙ equal ∙ origin_else second_address second_is_old)
        (cases_eq second_address to))
        (cases_eq first_address to);
    pieces = λ address more less named object_stands. ⊎_elim
        (λ (new : (address ≡ to) × (copied_piece ≡ thing named more less)). ap (λ number. block (origin number)) new.0 ∙ ap block origin_there ∙ piece_there ∙ ap Some new.1)
        (λ (old : (address ≢ to) × (block address ≡ Some (thing named more less))). ap block (origin_else address old.0) ∙ old.1)
        (cases address (thing named more less) object_stands);
    header = λ address more less named object_stands away held_before. ⊎_elim
        (λ (new : (address ≡ to) × (copied_piece ≡ thing named more less)). ap after new.0 ∙ address_copied.copied.header)
        (λ (old : (address ≢ to) × (block address ≡ Some (thing named more less))).
        header_stays address (thing named more less) away old.1 ∙ ap heap (sym (origin_else address old.0)) ∙ held_before)
        (cases address (thing named more less) object_stands);
    words = λ old_address number more less named object_stands away reads offset_positive below_limit differs. all_words old_address number more less named object_stands away offset_positive below_limit;
    fields = λ old_address field more less named object_stands away number_below.
        let same_place : old_address + (3 + field) ≡ old_address + 3 + field = omega arith in
        let same_sum : origin old_address + (3 + field) ≡ origin old_address + 3 + field = omega arith in
        not_renamed memory (heap (origin old_address + 3 + field)) (after (old_address + 3 + field))
        (sym (ap after same_place) ∙ all_words old_address (3 + field) more less named object_stands away (omega arith) (omega (arith, number_below)) ∙ ap heap same_sum);
    roots = λ mutator index below_limit number_below. not_renamed memory (memory (Root mutator index)) (memory_then (Root mutator index)) (word_same (Root mutator index) (λ never. never));
    pins = λ mutator index below_limit number_below. pin_same mutator index;
    pinned = λ mutator slot below_limit number_below named copy held_before. ap is_forwarded (header_stays (memory (Pin mutator slot)) (thing named copy.0 copy.1) (unpinned mutator slot below_limit number_below) copy.2) ∙ held_before;
    answers = λ mutator below_limit. not_renamed memory (memory (Answer mutator)) (memory_then (Answer mutator)) (word_same (Answer mutator) (λ never. never));
    waits = λ mutator. word_same (Wait mutator) (λ never. never);
  }
    where
      all_words : (asked_address offset asked_refs asked_nums : ℕ) (named : Name) → plot asked_address ≡ Some (thing named asked_refs asked_nums) → asked_address ≢ address → 0 < offset → offset < 3 + asked_refs + asked_nums → after (asked_address + offset) ≡ heap (origin asked_address + offset)
      all_words asked_address offset asked_refs asked_nums named thing_there away some_offset offset_below = ⊎_elim
          (λ (new : (asked_address ≡ to) × (copied_piece ≡ thing named asked_refs asked_nums)).
          let words_known : words_of copied_piece ≡ 3 + asked_refs + asked_nums = ap words_of new.1 in
          ap (λ first_address. after (first_address + offset)) new.0 ∙ address_copied.copied.words offset some_offset (omega (arith, offset_below, words_known, same_size)) ∙ ap (λ first_address. heap (first_address + offset)) (sym origin_there ∙ ap origin (sym new.0)))
          (λ (old : (asked_address ≢ to) × (block asked_address ≡ Some (thing named asked_refs asked_nums))).
          kept asked_address offset (thing named asked_refs asked_nums) away old.1 offset_below ∙ ap (λ first_address. heap (first_address + offset)) (sym (origin_else asked_address old.0)))
          (cases asked_address (thing named asked_refs asked_nums) thing_there)

  moved_again : (asked_address asked_refs asked_nums : ℕ) (named : Name) → plot asked_address ≡ Some (thing named asked_refs asked_nums) → is_forwarded (after asked_address) ≡ true → HasMoved config memory_then plot asked_address asked_refs asked_nums named
  moved_again asked_address asked_refs asked_nums named thing_there object_forwarded = ⊎_elim
      (λ (new : (asked_address ≡ to) × (copied_piece ≡ thing named asked_refs asked_nums)).
      absurd (true≢false (sym object_forwarded ∙ ap (λ place. is_forwarded (after place)) new.0 ∙ ap is_forwarded address_copied.copied.header)))
      (λ (old : (asked_address ≢ to) × (block asked_address ≡ Some (thing named asked_refs asked_nums))). ⊎_elim
      (λ (same_address : asked_address ≡ address).
      let leads_now : now_in memory_then asked_address ≡ to = ap (now_in memory_then) same_address ∙ now_there in
      record {
        in_set = subst (λ set. IsIn set (region_with config asked_address)) (sym set_same) (subst (IsCollected config (memory Cset)) (sym same_address) object_collected);
        copy = ap plot leads_now ∙ new_there ∙ sym piece_there ∙ ap block (sym same_address) ∙ old.1;
        outside = subst (λ place. IsOutside (memory_then Cset) (region_with config place)) (sym leads_now)
            (subst (IsOutside (memory_then Cset)) (sym region_is) (subst (λ set. IsOutside set r) (sym set_same) address_copied.outside));
        current = ap (λ place. is_forwarded (after place)) leads_now ∙ ap is_forwarded address_copied.copied.header;
      })
      (λ (addresses_differ : asked_address ≢ address).
      let moved_before = graph_held.moved asked_address asked_refs asked_nums named old.1 (ap is_forwarded (sym (header_stays asked_address (thing named asked_refs asked_nums) addresses_differ old.1)) ∙ object_forwarded) in
      let leads_now : now_in memory_then asked_address ≡ now_in memory asked_address = now_else asked_address (thing named asked_refs asked_nums) addresses_differ old.1 in
      record {
        in_set = subst (λ set. IsIn set (region_with config asked_address)) (sym set_same) moved_before.in_set;
        copy = ap plot leads_now ∙ stays (now_in memory asked_address) (thing named asked_refs asked_nums) moved_before.copy;
        outside = subst (λ place. IsOutside (memory_then Cset) (region_with config place)) (sym leads_now) (subst (λ set. IsOutside set (region_with config (now_in memory asked_address))) (sym set_same) moved_before.outside);
        current = ap (λ place. is_forwarded (after place)) leads_now
            ∙ ap is_forwarded (header_stays (now_in memory asked_address) (thing named asked_refs asked_nums) (now_not_old asked_address asked_refs asked_nums named addresses_differ old.1) moved_before.copy) ∙ moved_before.current;
      })
      (cases_eq asked_address address))
      (cases asked_address (thing named asked_refs asked_nums) thing_there)

  -- a region that is free was, and is another
  free_was : (region : ℕ) → region < config.regions → IsIn (memory_then Free) region → (region ≢ r) × IsIn (memory Free) region
  free_was region region_below is_free =
      let regions_differ : region ≢ r = λ same_region. (let region_free : bit_at (memory_then Free) r ≡ 1 = subst (IsIn (memory_then Free)) same_region is_free in let used = address_copied.copied.in_use in omega (arith, region_free, used)) in
      (regions_differ, sym (address_copied.copied.others_free region region_below regions_differ) ∙ is_free)

  free_is : memory_then Free ≡ bit_and (memory Free) (all_but r)
  unfolding copied_to
  free_is = ap (λ (memory : Word → ℕ). memory Free) (copied_as config memory address r address_copied.found)

  free_again : IsFreeWord config (memory_then Free) (λ region. memory_then (Top region)) owner
  free_again = record {
    no_more = (let free_before = graph_held.free_word.no_more in let free_less = and_le_l (memory Free) (all_but r) in let free_now = free_is in omega (arith, free_before, free_less, free_now));
    empty = λ region region_below free_now. let free_before = free_was region region_below free_now in top_same region free_before.0 ∙ graph_held.free_word.empty region region_below free_before.1;
    nobodys = λ free_region region_below free_now. graph_held.free_word.nobodys free_region region_below (free_was free_region region_below free_now).1;
  }

  -- the shared region may be carved still, and buffers are as their words tell
  share_again : ShareIsOpen config (memory_then Share) (memory_then Free) (memory_then Cset) owner
  share_again =
      subst (λ share. ShareIsOpen config share (memory_then Free) (memory_then Cset) owner) (sym (word_same Share (λ never. never)))
      (subst (λ free_word. ShareIsOpen config (memory Share) free_word (memory_then Cset) owner) (sym free_is)
      (subst (λ cset. ShareIsOpen config (memory Share) (bit_and (memory Free) (all_but r)) cset owner) (sym set_same) (share_stays config (memory Share) (memory Free) (memory Cset) r owner address_copied.below graph_held.shared_one)))

  rises : (region : ℕ) → top region ≤ memory_then (Top region)
  rises region = ⊎_elim
      (λ (same_region : region ≡ r). (let grown = address_copied.copied.top in let top_now : memory_then (Top region) ≡ memory_then (Top r) = ap (λ region. memory_then (Top region)) same_region in let top_before : memory (Top region) ≡ memory (Top r) = ap (λ region. memory (Top region)) same_region in omega (arith, grown, top_now, top_before)))
      (λ (regions_differ : region ≢ r). (let top_stays = top_same region regions_differ in omega (arith, top_stays)))
      (cases_eq region r)

  buffers_again : AreBuffers config (λ region. memory_then (Top region)) (λ seat. memory_then (Current seat)) plot
  buffers_again = subst (λ current. AreBuffers config (λ region. memory_then (Top region)) current plot) (sym (fun_ext (λ seat. word_same (Current seat) (λ never. never))))
      (buffers_stay config top (λ region. memory_then (Top region)) (λ seat. memory (Current seat)) block plot (record { stays = λ address seat piece room has_piece. stays address piece has_piece; came = λ address seat piece room has_piece. room_was address seat piece room has_piece }) graph_held.buffers
      (λ seat has_buffer. rises (graph_held.buffers.each seat has_buffer).region))

  pub copied_holds : HoldsBy config memory_then plot owner promises graph
  copied_holds =
      carried_holds config memory memory_then block plot owner promises graph graph_held origin Lands carried moved_again
      (subst (λ top. IsFilled config top plot) (sym tops_are) (joined.filled_more config top block r (memory (Top r)) copied_piece joins graph_held.filled))
      pieces_again free_again share_again buffers_again

  pub copied_sized : AreSized memory block → AreSized memory_then plot
  copied_sized sized = record {
    objects = λ address piece has_piece object_stands. ⊎_elim
        (λ (new : (address ≡ to) × (copied_piece ≡ piece)).
        ap (λ place. object_words (after (place + 1))) new.0 ∙ ap object_words (address_copied.copied.words 1 (omega arith) (omega arith)) ∙ same_size ∙ ap words_of new.1)
        (λ (old : (address ≢ to) × (block address ≡ Some piece)).
        let words = sized.objects address piece old.1 object_stands in
        ap object_words (shape_stays address piece old.1 (omega (arith, words))) ∙ words)
        (cases address piece has_piece);
    headers = λ asked_address piece has_piece object_stands. ⊎_elim
        (λ (new : (asked_address ≡ to) × (copied_piece ≡ piece)). ap (λ place. is_filler (after place)) new.0 ∙ ap is_filler address_copied.copied.header)
        (λ (old : (asked_address ≢ to) × (block asked_address ≡ Some piece)). ⊎_elim
        (λ (same_address : asked_address ≡ address). ap (λ place. is_filler (after place)) same_address ∙ ap is_filler address_copied.copied.forwarded ∙ forwarded_fills to)
        (λ (addresses_differ : asked_address ≢ address). ap is_filler (header_stays asked_address piece addresses_differ old.1) ∙ sized.headers asked_address piece old.1 object_stands)
        (cases_eq asked_address address))
        (cases asked_address piece has_piece);
    fillers = λ address words has_piece. ⊎_elim
        (λ (new : (address ≡ to) × (copied_piece ≡ filler words)). absurd (true≢false (sym (ap is_loose new.1) ∙ fixed)))
        (λ (old : (address ≢ to) × (block address ≡ Some (filler words))).
        header_stays address (filler words) (λ same_address. true≢false (ap is_loose (same_Some (filler words) copied_piece (sym old.1 ∙ ap block same_address ∙ piece_there)) ∙ fixed)) old.1 ∙ sized.fillers address words old.1)
        (cases address (filler words) has_piece);
  }

  -- what can be reached is the copy, or could be reached
  reached_was : (asked_address : ℕ) → CanBeReached config memory_then asked_address → (asked_address ≡ to) ⊎ CanBeReached config memory asked_address
  reached_was asked_address reached = ⊎_elim
      (λ (new : asked_address ≡ to). inl new)
      (λ (old : asked_address ≢ to).
      let from = led_comes config memory memory_then block plot owner promises graph graph_held origin Lands carried asked_address reached in
      inr (subst (CanBeReached config memory) (origin_else asked_address old) from.led))
      (cases_eq asked_address to)

  pub black_same : (asked_address : ℕ) → is_black config memory_then asked_address ≡ is_black config memory asked_address
  black_same asked_address = ap (λ marks. nat_le config.region_words asked_address && (bit_at marks (mark_bit config asked_address) == 1)) (word_same (Black (mark_word config asked_address)) (λ never. never))

  -- and is kept still, for the copy is new
  kept_still : ((region : ℕ) → region < config.regions → memory (Tams region) ≤ memory (Top region)) → (address : ℕ) → (address ≡ to) ⊎ IsKept config memory address → IsKept config memory_then address
  kept_still floors address new_or_kept = ⊎_elim
      (λ (new : address ≡ to).
      let floor = floors r address_copied.below in
      let same_tams : memory_then (Tams r) ≡ memory (Tams r) = word_same (Tams r) (λ never. never) in
      inr (subst (IsNew config memory_then) (sym new) (subst (λ region. base_of config region + memory_then (Tams region) ≤ to) (sym region_is) (omega (arith, floor, same_tams)))))
      (λ (old : IsKept config memory address). ⊎_elim
      (λ (address_black : is_black config memory address ≡ true). inl (black_same address ∙ address_black))
      (λ (fresh : IsNew config memory address).
      inr (let same_tams : memory_then (Tams (region_with config address)) ≡ memory (Tams (region_with config address)) = word_same (Tams (region_with config address)) (λ never. never) in omega (arith, fresh, same_tams)))
      old)
      new_or_kept

  -- tops grow outside of the set alone
  floors_still : ((region : ℕ) → region < config.regions → memory (Tams region) ≤ memory (Top region)) → (region : ℕ) → region < config.regions → memory_then (Tams region) ≤ memory_then (Top region)
  floors_still floors region region_below =
      let tams : memory_then (Tams region) ≡ memory (Tams region) = word_same (Tams region) (λ never. never) in
      let floor = floors region region_below in
      ⊎_elim
      (λ (same_region : region ≡ r). (let grown = address_copied.copied.top in let top_now : memory_then (Top region) ≡ memory_then (Top r) = ap (λ region. memory_then (Top region)) same_region in let top_before : memory (Top region) ≡ memory (Top r) = ap (λ region. memory (Top region)) same_region in omega (arith, floor, grown, tams, top_now, top_before)))
      (λ (regions_differ : region ≢ r). (let top_stays = top_same region regions_differ in omega (arith, floor, top_stays, tams)))
      (cases_eq region r)

  no_new_still : ((region : ℕ) → IsIn (memory Cset) region → memory (Top region) ≡ memory (Tams region)) → (region : ℕ) → IsIn (memory_then Cset) region → memory_then (Top region) ≡ memory_then (Tams region)
  no_new_still no_new region region_in_set =
      let was_in_set : IsIn (memory Cset) region = subst (λ set. IsIn set region) set_same region_in_set in
      let regions_differ : region ≢ r = λ same_region. (let member_there : bit_at (memory Cset) r ≡ 1 = subst (IsIn (memory Cset)) same_region was_in_set in let away = address_copied.outside in omega (arith, member_there, away)) in
      top_same region regions_differ ∙ no_new region was_in_set ∙ sym (word_same (Tams region) (λ never. never))

  unseated_still : ((seat region : ℕ) → EndsIn config memory seat region → IsIn (memory Cset) region → ⊥) → (seat region : ℕ) → EndsIn config memory_then seat region → IsIn (memory_then Cset) region → ⊥
  unseated_still unseated seat region ends_there region_in_set =
      unseated seat region (subst (λ buffer. (buffer ≢ 0) × IsOf config region (end_in buffer - 1)) (word_same (Current seat) (λ never. never)) ends_there) (subst (λ set. IsIn set region) set_same region_in_set)

  -- room is young still
  young_still : AreYoungRooms config (λ region. memory (Tams region)) block → AreYoungRooms config (λ region. memory_then (Tams region)) plot
  young_still young asked_address seat asked_piece has_piece room =
      let same_tams : memory_then (Tams (region_with config asked_address)) ≡ memory (Tams (region_with config asked_address)) = word_same (Tams (region_with config asked_address)) (λ never. never) in
      let young_before = young asked_address seat asked_piece (room_was asked_address seat asked_piece room has_piece) room in
      omega (arith, young_before, same_tams)

  -- the header of another piece stays, and the object's own leads on
  pub header_same : (asked_address : ℕ) (piece : Block) → asked_address ≢ address → block asked_address ≡ Some piece → memory_then (Heap asked_address) ≡ memory (Heap asked_address)
  header_same = header_stays

  pub moved_now : is_forwarded (memory_then (Heap address)) ≡ true
  moved_now = ap is_forwarded address_copied.copied.forwarded ∙ header_forwarded to

  pub collected_same : (address : ℕ) → is_collected config memory_then address ≡ is_collected config memory address
  collected_same address = ap (λ set. nat_le config.region_words address && (bit_at set (region_with config address) == 1)) set_same

  pub marked_still : AreMarkedObjects config memory block → AreMarkedObjects config memory_then plot
  marked_still objects_marked asked_address collected black =
      let marked_before = objects_marked asked_address (sym (collected_same asked_address) ∙ collected) (sym (black_same asked_address) ∙ black) in
      (marked_before.0, stays asked_address marked_before.0 marked_before.1, marked_before.2)

  pub order_still : IsInOrder config memory block → IsInOrder config memory_then plot
  order_still words_ordered = record {
    marked = marked_still words_ordered.marked;
    reachable = λ address reached. kept_still words_ordered.floors address (⊎_elim (λ new. inl new) (λ old. inr (words_ordered.reachable address old)) (reached_was address reached));
    no_new = no_new_still words_ordered.no_new;
    floors = floors_still words_ordered.floors;
    unseated = unseated_still words_ordered.unseated;
    young = young_still words_ordered.young;
  }

  -- so finishing the cycle still keeps the graph: the copy lies outside of the set
  pub collecting_still : WhileCollecting config memory block → WhileCollecting config memory_then plot
  collecting_still collecting =
      let order = order_still (in_order config memory block collecting (some_set config (memory Cset) address object_collected)) in
      record {
        marked = order.marked;
        reachable = λ has_set. order.reachable;
        no_new = order.no_new;
        floors = λ has_set. order.floors;
        unseated = order.unseated;
        young = λ has_set. order.young;
        outside = λ not_evacuating reached_address reached address_collected.
            let was_collected : IsCollected config (memory Cset) reached_address = subst (λ cset. IsCollected config cset reached_address) set_same address_collected in
            ⊎_elim
            (λ (new : reached_address ≡ to).
            let member_there : bit_at (memory Cset) r ≡ 1 = subst (IsIn (memory Cset)) (ap (region_with config) new ∙ region_is) was_collected in
            let away = address_copied.outside in
            absurd (omega (arith, member_there, away)))
            (λ (old : CanBeReached config memory reached_address).
            same_pinned config memory memory_then pin_same (region_with config reached_address) ∙ collecting.outside (λ evacuating. not_evacuating (word_same Phase (λ never. never) ∙ evacuating)) reached_address old was_collected)
            (reached_was reached_address reached);
      }
