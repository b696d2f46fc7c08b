-- An object is copied out of the collection set: what holds between two turns holds again, with the object at its new place and an
-- old copy where it was.
use Rattle.std.proofs.Common.{◌≡◌, ◌≢◌, ℕ, ◌+◌, ◌<◌, ◌≤◌, ◌⊎◌, Option, Some, None, get_or, inl, inr, ⊎_elim, refl, sym, ap, ◌∙◌, subst, arith}
use Rattle.std.specs.Prelude.{bit_and}
use Rattle.std.specs.Int.{bit_at}
use Rattle.std.proofs.Math.Path.{fun_ext}
use Rattle.std.proofs.lemmas.Bool.{cases_eq}
use Rattle.std.proofs.lemmas.Option.{slice_get-get_or, none-some, same_Some}
use Rattle.std.proofs.lemmas.Nat.{and_le_l}
use Rattle.heap_words.specs.declared.config.Config.{Config}
use Rattle.heap_words.specs.Words.{Word, Cset, Free, Top, Tams, Current, Black, Heap, Share}
use Rattle.heap_words.specs.Encoding.{plain_header, header_word, shape_word, object_words}
use Rattle.regions.specs.Place.{base_of, region_with}
use Rattle.regions.specs.Sets.{IsIn, all_but}
use Rattle.regions.proofs.PlaceLemmas.{regions_tile}
use Rattle.shen_graph.specs.declared.name.Name.{Name}
use Rattle.shen_graph.specs.Graph.{Reference, Graph}
use Rattle.regions.specs.Marks.{HasMark}
use Rattle.heap_world.specs.World.{Block, thing, moved, spent, hand, promised, dead, filler, carved, words_of, room_of, Plot, name_at, Points, IsCollected, IsPlotted, IsFilled, IsThing, IsParsable, AreObjects, IsFreeWord, ShareIsOpen, AreBuffers, AreBuffersOutside, AreOwned, IsBlank, AreUnwritten, IsMoved, IsSpent, IsMarkable, IsYoung, HasCopy, body_at}
use Rattle.heap_world.proofs.FunctionUpdates.{updated, updated_same, updated_there, updated_else}
use Rattle.heap_world.proofs.Keeping.{points_stay}
use Rattle.heap_world.proofs.Pointing.{named_piece}
use Rattle.heap_world.proofs.Pieces.{some_words, beside, piece_cases, object_reads}
use Rattle.heap_world.proofs.Apart.{far}
use Rattle.heap_world.proofs.Joined as joined
use Rattle.heap_world.proofs.Joined.{CanJoin}
use Rattle.image_graph.proofs.BuffersStay.{SameRoom, rooms_stay, buffers_stay, share_stays}
use Rattle.cycle_words.specs.Evacuation.Live.{words_at}
use Rattle.cycle_words.specs.Evacuation.Copied.{MayChange, top_address, copied_to, copied_out, IsCopiedOut}
use Rattle.cycle_words.proofs.Evacuation.CopiedOut.{copied_as}
use Rattle.cycle_pauses.proofs.Evacuation.Replaced.{plotted_still, filled_still}
use Rattle.cycle_pauses.proofs.Evacuation.Copied.{object_copied, blank_copied}
use Rattle.cycle_pauses.proofs.Evacuation.Between.{AreBetween, IsLive, old_of, old_words, old_name, old_is_old, was_thing, was_promised, live_is_live, live_markable, old_has_copy}

-- What holds once a piece was copied from an address to another one: what held between two turns, and what of it is where.
pub record HasCopied (config : Config) (memory other_memory : Word → ℕ) (block plot : Plot) (owner : ℕ → Option ℕ) (graph : Graph) (address to : ℕ) (piece : Block) : Type 0 where
  pub between : AreBetween config other_memory plot owner graph
  pub header : other_memory (Heap address) ≡ header_word to
  pub there : plot to ≡ Some piece
  pub outside : IsCollected config (other_memory Cset) to → ⊥
  pub copied : (k : ℕ) → k < words_of piece → other_memory (Heap (to + k)) ≡ memory (Heap (address + k))
  pub stays : (other_address : ℕ) (other_piece : Block) → other_address ≢ address → block other_address ≡ Some other_piece → plot other_address ≡ Some other_piece
  pub kept : (other_address k : ℕ) (other_piece : Block) → other_address ≢ address → block other_address ≡ Some other_piece → k < words_of other_piece → other_memory (Heap (other_address + k)) ≡ memory (Heap (other_address + k))
  pub names : (other_address : ℕ) (name : Name) → name_at (block other_address) ≡ Some name → name_at (plot other_address) ≡ Some name
  pub promises : (other_address seat words : ℕ) → plot other_address ≡ Some (promised seat words) → ((other_address ≡ to) × (piece ≡ promised seat words)) ⊎ ((other_address ≢ address) × (block other_address ≡ Some (promised seat words)))
  pub same : (word : Word) → (MayChange word → ⊥) → other_memory word ≡ memory word

module _ (config : Config) (memory : Word → ℕ) (block : Plot) (owner : ℕ → Option ℕ) (graph : Graph) (between : AreBetween config memory block owner graph)
    (address : ℕ) (copied_piece : Block) (piece_there : block address ≡ Some copied_piece) (live : IsLive copied_piece) (address_inside : IsCollected config (memory Cset) address) (header_plain : memory (Heap address) ≡ plain_header) (words_are : words_at memory address ≡ words_of copied_piece)
    (copying : IsCopiedOut config memory (copied_out config memory address) address) where
  abbrev now : Word → ℕ
  now = copied_out config memory address

  abbrev r : ℕ
  r = copying.region

  -- where the copy lies
  abbrev to : ℕ
  to = top_address config memory copying.region

  abbrev old : Block
  old = old_of copied_piece to

  abbrev top : ℕ → ℕ
  top region = memory (Top region)

  abbrev heap : ℕ → ℕ
  heap address = memory (Heap address)

  abbrev after : ℕ → ℕ
  after address = now (Heap address)

  -- a piece has a word at least
  long : (address : ℕ) (piece : Block) → block address ≡ Some piece → 1 ≤ words_of piece
  long address piece has_piece = some_words config top block between.parsable between.owned.rooms address piece has_piece

  joins : CanJoin config top block r (memory (Top r)) copied_piece
  joins = record {
    plotted = between.parsable.plotted;
    long = long;
    within = copying.below;
    top_is = refl;
    room = (let room = copying.room in omega (arith, room, words_are));
    some = long address copied_piece piece_there;
  }

  -- nothing stood where the copy lies
  none_there : (piece : Block) → block to ≡ Some piece → ⊥
  none_there piece has_piece =
      let long_enough = long to piece has_piece in
      let where_is = beside config top block between.parsable.plotted r to piece has_piece in
      let address_small = long address copied_piece piece_there in
      let room = copying.room in
      omega (arith, long_enough, where_is, address_small, room, words_are)

  elsewhere : to ≢ address
  elsewhere same_address = none_there copied_piece (ap block same_address ∙ piece_there)

  abbrev mid : Plot
  mid = updated block to (Some copied_piece)

  abbrev plot : Plot
  plot = updated mid address (Some old)

  mid_stays : (address : ℕ) (piece : Block) → block address ≡ Some piece → mid address ≡ Some piece
  mid_stays = joined.stays config top block r (memory (Top r)) copied_piece joins

  -- what stood somewhere else stands there
  stays : (asked_address : ℕ) (piece : Block) → asked_address ≢ address → block asked_address ≡ Some piece → plot asked_address ≡ Some piece
  stays asked_address piece not_address has_piece = updated_else mid address (Some old) asked_address (λ same_address. not_address (sym same_address)) ∙ mid_stays asked_address piece has_piece

  new_there : plot to ≡ Some copied_piece
  new_there = updated_else mid address (Some old) to (λ same_address. elsewhere (sym same_address)) ∙ updated_there block to (Some copied_piece)

  old_there : plot address ≡ Some old
  old_there = updated_there mid address (Some old)

  same_plot : (asked_address : ℕ) → asked_address ≢ address → asked_address ≢ to → plot asked_address ≡ block asked_address
  same_plot asked_address not_address addresses_differ = updated_else mid address (Some old) asked_address (λ same_address. not_address (sym same_address)) ∙ updated_else block to (Some copied_piece) asked_address (λ same_address. addresses_differ (sym same_address))

  -- a piece is the old copy, or the new one, or stood there
  plot_cases : (asked_address : ℕ) (piece : Block) → plot asked_address ≡ Some piece → ((asked_address ≡ address) × (old ≡ piece)) ⊎ (((asked_address ≡ to) × (copied_piece ≡ piece)) ⊎ ((asked_address ≢ address) × (block asked_address ≡ Some piece)))
  plot_cases asked_address piece has_piece = ⊎_elim
      (λ (at_old : (asked_address ≡ address) × (old ≡ piece)). inl at_old)
      (λ (mid_there : (asked_address ≢ address) × (mid asked_address ≡ Some piece)). ⊎_elim
      (λ (new : (asked_address ≡ to) × (copied_piece ≡ piece)). inr (inl new))
      (λ (stood : (asked_address ≢ to) × (block asked_address ≡ Some piece)). inr (inr (mid_there.0, stood.1)))
      (piece_cases block to copied_piece asked_address piece mid_there.1))
      (piece_cases mid address old asked_address piece has_piece)

  -- what stood for an object does so still
  names_stay : (asked_address : ℕ) (name : Name) → name_at (block asked_address) ≡ Some name → name_at (plot asked_address) ≡ Some name
  names_stay asked_address name has_name = ⊎_elim
      (λ (same_address : asked_address ≡ address). ap name_at (ap plot same_address ∙ old_there) ∙ old_name copied_piece to live ∙ sym (ap name_at (ap block same_address ∙ piece_there)) ∙ has_name)
      (λ (not_address : asked_address ≢ address). let piece = named_piece (block asked_address) name has_name in ap name_at (stays asked_address piece.0 not_address piece.1) ∙ piece.2)
      (cases_eq asked_address address)

  -- words of pieces stay, but for the header
  word_stays : (asked_address offset : ℕ) (piece : Block) → block asked_address ≡ Some piece → offset < words_of piece → asked_address + offset ≢ address → now (Heap (asked_address + offset)) ≡ memory (Heap (asked_address + offset))
  word_stays asked_address offset piece has_piece offset_below not_header =
      let room = copying.room in
      copying.copied.elsewhere (asked_address + offset) not_header
      (⊎_elim
      (λ (ends_before : asked_address + words_of piece ≤ base_of config r). inl (omega (arith, ends_before, offset_below)))
      (λ (region_apart : ((base_of config r ≤ asked_address) × (asked_address + words_of piece ≤ base_of config r + top r)) ⊎ (base_of config r + config.region_words ≤ asked_address)). ⊎_elim
      (λ (piece_within : (base_of config r ≤ asked_address) × (asked_address + words_of piece ≤ base_of config r + top r)). inl (omega (arith, piece_within.1, offset_below)))
      (λ (region_past : base_of config r + config.region_words ≤ asked_address). inr (omega (arith, region_past, room)))
      region_apart)
      (beside config top block between.parsable.plotted r asked_address piece has_piece))

  kept : (asked_address offset : ℕ) (piece : Block) → asked_address ≢ address → block asked_address ≡ Some piece → offset < words_of piece → now (Heap (asked_address + offset)) ≡ memory (Heap (asked_address + offset))
  kept asked_address offset piece not_address has_piece offset_below =
      let not_header : asked_address + offset ≢ address + 0 = far config top block between.parsable.plotted asked_address address offset 0 piece copied_piece has_piece piece_there not_address offset_below (let long_enough = long address copied_piece piece_there in omega (arith, long_enough)) in
      word_stays asked_address offset piece has_piece offset_below (λ same_word. not_header (omega (arith, same_word)))

  left : (offset : ℕ) → 1 ≤ offset → offset < words_of copied_piece → now (Heap (address + offset)) ≡ memory (Heap (address + offset))
  left offset past_header offset_below = word_stays address offset copied_piece piece_there offset_below (λ same_word. omega (arith, same_word, past_header))

  -- the copy has the object's words
  copied : (offset : ℕ) → offset < words_of copied_piece → now (Heap (to + offset)) ≡ memory (Heap (address + offset))
  copied offset offset_below = ⊎_elim
      (λ (no_offset : offset ≡ 0).
      let new : to + offset ≡ to = omega (arith, no_offset) in
      let same_start : address ≡ address + offset = omega (arith, no_offset) in
      ap after new ∙ copying.copied.header ∙ sym header_plain ∙ ap heap same_start)
      (λ (some_offset : offset ≢ 0). copying.copied.words offset (omega (arith, some_offset)) (omega (arith, offset_below, words_are)))
      (cases_eq offset 0)

  -- other words stay
  word_same : (word : Word) → (MayChange word → ⊥) → now word ≡ memory word
  word_same word = copying.copied.others word

  set_same : now Cset ≡ memory Cset
  set_same = word_same Cset (λ never. never)

  top_same : (region : ℕ) → region ≢ r → now (Top region) ≡ memory (Top region)
  top_same = copying.copied.other_tops

  tops_are : (λ region. now (Top region)) ≡ updated top r (memory (Top r) + words_of copied_piece)
  tops_are = fun_ext (λ region. ⊎_elim
      (λ (same_region : r ≡ region).
      ap (λ region. now (Top region)) (sym same_region) ∙ copying.copied.top ∙ ap (λ added_words. memory (Top r) + added_words) words_are ∙ sym (updated_same top r (memory (Top r) + words_of copied_piece) region same_region))
      (λ (different_region : r ≢ region). top_same region (λ regions_equal. different_region (sym regions_equal)) ∙ sym (updated_else top r (memory (Top r) + words_of copied_piece) region different_region))
      (cases_eq r region))

  -- the copy lies outside the set
  region_is : region_with config to ≡ r
  region_is =
      let long_enough = long address copied_piece piece_there in
      let room = copying.room in
      regions_tile.of_no_other config r to (record { from = omega arith; before = omega (arith, long_enough, room, words_are) })

  outside : IsCollected config (memory Cset) to → ⊥
  outside is_collected =
      let region_chosen : bit_at (memory Cset) r ≡ 1 = subst (IsIn (memory Cset)) region_is is_collected in
      let not_in = copying.outside in
      omega (arith, region_chosen, not_in)

  inside_now : IsCollected config (now Cset) address
  inside_now = subst (λ cset. IsCollected config cset address) (sym set_same) address_inside

  outside_now : IsCollected config (now Cset) to → ⊥
  outside_now is_collected = outside (subst (λ cset. IsCollected config cset to) set_same is_collected)

  -- so nothing outside is the old copy
  not_old : (asked_address : ℕ) → (IsCollected config (memory Cset) asked_address → ⊥) → asked_address ≢ address
  not_old asked_address away same_address = away (subst (IsCollected config (memory Cset)) (sym same_address) address_inside)

  -- a dead object was there, and so were words that only fill
  dead_from : (asked_address words : ℕ) → plot asked_address ≡ Some (dead words) → (asked_address ≢ address) × (block asked_address ≡ Some (dead words))
  dead_from asked_address words has_piece = ⊎_elim
      (λ (at_old : (asked_address ≡ address) × (old ≡ dead words)). absurd ((old_is_old copied_piece to).3 words at_old.1))
      (λ new_or_other. ⊎_elim
      (λ (new : (asked_address ≡ to) × (copied_piece ≡ dead words)). absurd ((live_is_live copied_piece live).3 words new.1))
      (λ (stood : (asked_address ≢ address) × (block asked_address ≡ Some (dead words))). stood)
      new_or_other)
      (plot_cases asked_address (dead words) has_piece)

  filler_from : (asked_address words : ℕ) → plot asked_address ≡ Some (filler words) → (asked_address ≢ address) × (block asked_address ≡ Some (filler words))
  filler_from asked_address words has_piece = ⊎_elim
      (λ (at_old : (asked_address ≡ address) × (old ≡ filler words)). absurd ((old_is_old copied_piece to).4 words at_old.1))
      (λ new_or_other. ⊎_elim
      (λ (new : (asked_address ≡ to) × (copied_piece ≡ filler words)). absurd ((live_is_live copied_piece live).4 words new.1))
      (λ (stood : (asked_address ≢ address) × (block asked_address ≡ Some (filler words))). stood)
      new_or_other)
      (plot_cases asked_address (filler words) has_piece)

  parsable_again : IsParsable config (λ region. now (Top region)) plot
  parsable_again = record {
    plotted = subst (λ top. IsPlotted config top plot) (sym tops_are)
        (plotted_still config (updated top r (memory (Top r) + words_of copied_piece)) mid address copied_piece old (mid_stays address copied_piece piece_there) (old_words copied_piece to) (joined.plotted_more config top block r (memory (Top r)) copied_piece joins));
    filled = subst (λ top. IsFilled config top plot) (sym tops_are)
        (filled_still config (updated top r (memory (Top r) + words_of copied_piece)) mid address copied_piece old (mid_stays address copied_piece piece_there) (old_words copied_piece to)
        (joined.filled_more config top block r (memory (Top r)) copied_piece joins between.parsable.filled));
    promises = λ place seat words piece_is. let its_place = was_promise place seat words piece_is in between.parsable.promises its_place.0 seat words its_place.1;
    deads = λ place words piece_is. between.parsable.deads place words (dead_from place words piece_is).1;
    spents = λ spent_address words its_place piece_is. ⊎_elim
        (λ (holds_old : (spent_address ≡ address) × (old ≡ spent words its_place)).
        let promise_before = was_promised copied_piece to live words its_place holds_old.1 in
        between.parsable.promises address promise_before.0 words (piece_there ∙ ap Some promise_before.1))
        (λ copy_or_kept. ⊎_elim
        (λ (new : (spent_address ≡ to) × (copied_piece ≡ spent words its_place)). absurd ((live_is_live copied_piece live).1 words its_place new.1))
        (λ (stood : (spent_address ≢ address) × (block spent_address ≡ Some (spent words its_place))). between.parsable.spents spent_address words its_place stood.1)
        copy_or_kept)
        (plot_cases spent_address (spent words its_place) piece_is);
    fillers = λ place words piece_is. between.parsable.fillers place words (filler_from place words piece_is).1;
  }
    where
      was_promise : (asked_address seat words : ℕ) → plot asked_address ≡ Some (promised seat words) → (former_address : ℕ) × (block former_address ≡ Some (promised seat words))
      was_promise asked_address seat words has_piece = ⊎_elim
          (λ (at_old : (asked_address ≡ address) × (old ≡ promised seat words)). absurd ((old_is_old copied_piece to).1 seat words at_old.1))
          (λ new_or_other. ⊎_elim
          (λ (new : (asked_address ≡ to) × (copied_piece ≡ promised seat words)). (address, piece_there ∙ ap Some new.1))
          (λ (stood : (asked_address ≢ address) × (block asked_address ≡ Some (promised seat words))). (asked_address, stood.1))
          new_or_other)
          (plot_cases asked_address (promised seat words) has_piece)

  -- an object stood there, or where it was copied from
  thing_from : (asked_address refs nums : ℕ) (name : Name) → plot asked_address ≡ Some (thing name refs nums)
      → ((asked_address ≡ to) × (copied_piece ≡ thing name refs nums)) ⊎ ((asked_address ≢ address) × (block asked_address ≡ Some (thing name refs nums)))
  thing_from asked_address refs nums name has_piece = ⊎_elim
      (λ (at_old : (asked_address ≡ address) × (old ≡ thing name refs nums)). absurd ((old_is_old copied_piece to).0 name refs nums at_old.1))
      (λ rest. rest)
      (plot_cases asked_address (thing name refs nums) has_piece)

  promised_from : (asked_address seat words : ℕ) → plot asked_address ≡ Some (promised seat words)
      → ((asked_address ≡ to) × (copied_piece ≡ promised seat words)) ⊎ ((asked_address ≢ address) × (block asked_address ≡ Some (promised seat words)))
  promised_from asked_address seat words has_piece = ⊎_elim
      (λ (at_old : (asked_address ≡ address) × (old ≡ promised seat words)). absurd ((old_is_old copied_piece to).1 seat words at_old.1))
      (λ rest. rest)
      (plot_cases asked_address (promised seat words) has_piece)

  -- room is the same
  same_room : SameRoom block plot
  same_room = record {
    stays = λ place seat piece room_of_seat has_piece. stays place piece (λ same_address. none-some seat (sym (live_is_live copied_piece live).2 ∙ ap room_of (same_Some copied_piece piece (sym piece_there ∙ ap block (sym same_address) ∙ has_piece)) ∙ room_of_seat)) has_piece;
    came = λ asked_address seat piece room_of_seat has_piece. ⊎_elim
        (λ (at_old : (asked_address ≡ address) × (old ≡ piece)). absurd (none-some seat (sym (old_is_old copied_piece to).2 ∙ ap room_of at_old.1 ∙ room_of_seat)))
        (λ new_or_other. ⊎_elim
        (λ (new : (asked_address ≡ to) × (copied_piece ≡ piece)). absurd (none-some seat (sym (live_is_live copied_piece live).2 ∙ ap room_of new.1 ∙ room_of_seat)))
        (λ (stood : (asked_address ≢ address) × (block asked_address ≡ Some piece)). stood.1)
        new_or_other)
        (plot_cases asked_address piece has_piece);
  }

  objects_again : AreObjects after plot graph.object
  objects_again = record {
    each = λ asked_address refs nums name has_piece. ⊎_elim
        (λ (new : (asked_address ≡ to) × (copied_piece ≡ thing name refs nums)).
        let old_object = between.contents.objects.each address refs nums name (piece_there ∙ ap Some new.1) in
        let same_size : words_of copied_piece ≡ 3 + refs + nums = ap words_of new.1 in
        let copy = object_copied heap after block plot address to refs nums name old_object.0 (λ offset offset_below. copied offset (omega (arith, offset_below, same_size))) names_stay old_object.2 in
        (old_object.0, old_object.1, subst (λ second_address. IsThing after plot second_address refs nums name old_object.0) (sym new.0) copy))
        (λ (stood : (asked_address ≢ address) × (block asked_address ≡ Some (thing name refs nums))).
        let old_object = between.contents.objects.each asked_address refs nums name stood.1 in
        (old_object.0, old_object.1, object_reads heap after block plot asked_address refs nums name old_object.0 (λ offset offset_below. kept asked_address offset (thing name refs nums) stood.0 stood.1 offset_below) names_stay old_object.2))
        (thing_from asked_address refs nums name has_piece);
    once = λ asked_address second_address refs nums second_refs second_nums name first_there second_there. ⊎_elim
        (λ (new_p : (asked_address ≡ to) × (copied_piece ≡ thing name refs nums)). ⊎_elim
        (λ (new_q : (second_address ≡ to) × (copied_piece ≡ thing name second_refs second_nums)). new_p.0 ∙ sym new_q.0)
        (λ (stood_q : (second_address ≢ address) × (block second_address ≡ Some (thing name second_refs second_nums))).
        absurd (stood_q.0 (sym (between.contents.objects.once address second_address refs nums second_refs second_nums name (piece_there ∙ ap Some new_p.1) stood_q.1))))
        (thing_from second_address second_refs second_nums name second_there))
        (λ (stood_p : (asked_address ≢ address) × (block asked_address ≡ Some (thing name refs nums))). ⊎_elim
        (λ (new_q : (second_address ≡ to) × (copied_piece ≡ thing name second_refs second_nums)).
        absurd (stood_p.0 (between.contents.objects.once asked_address address refs nums second_refs second_nums name stood_p.1 (piece_there ∙ ap Some new_q.1))))
        (λ (stood_q : (second_address ≢ address) × (block second_address ≡ Some (thing name second_refs second_nums))).
        between.contents.objects.once asked_address second_address refs nums second_refs second_nums name stood_p.1 stood_q.1)
        (thing_from second_address second_refs second_nums name second_there))
        (thing_from asked_address refs nums name first_there);
  }

  -- a region that is free was, and is another
  free_was : (region : ℕ) → region < config.regions → IsIn (now Free) region → (region ≢ r) × IsIn (memory Free) region
  free_was region region_below is_free =
      let regions_differ : region ≢ r = λ same_region. (let region_free : bit_at (now Free) r ≡ 1 = subst (IsIn (now Free)) same_region is_free in let used = copying.copied.in_use in omega (arith, region_free, used)) in
      (regions_differ, sym (copying.copied.others_free region region_below regions_differ) ∙ is_free)

  free_is : now Free ≡ bit_and (memory Free) (all_but r)
  unfolding copied_to
  free_is = ap (λ (memory : Word → ℕ). memory Free) (copied_as config memory address r copying.found)

  free_again : IsFreeWord config (now Free) (λ region. now (Top region)) owner
  free_again = record {
    no_more = (let was_free = between.owned.free_word.no_more in let less_free = and_le_l (memory Free) (all_but r) in let is_free = free_is in omega (arith, was_free, less_free, is_free));
    empty = λ region region_below is_free. let was_free = free_was region region_below is_free in top_same region was_free.0 ∙ between.owned.free_word.empty region region_below was_free.1;
    nobodys = λ free_region region_below is_free. between.owned.free_word.nobodys free_region region_below (free_was free_region region_below is_free).1;
  }

  -- no top falls
  rises : (region : ℕ) → memory (Top region) ≤ now (Top region)
  rises region = ⊎_elim
      (λ (same_region : region ≡ r). (let grown = copying.copied.top in let own_top : now (Top region) ≡ now (Top r) = ap (λ region. now (Top region)) same_region in let old_top : memory (Top region) ≡ memory (Top r) = ap (λ region. memory (Top region)) same_region in omega (arith, grown, own_top, old_top)))
      (λ (different_region : region ≢ r). (let same_region = top_same region different_region in omega (arith, same_region)))
      (cases_eq region r)

  -- so regions and buffers are owned as before
  abbrev currents : ℕ → ℕ
  currents seat = now (Current seat)

  abbrev currents_were : ℕ → ℕ
  currents_were seat = memory (Current seat)

  currents_same : currents ≡ currents_were
  currents_same = fun_ext (λ seat. word_same (Current seat) (λ never. never))

  buffers_again : AreBuffers config (λ region. now (Top region)) currents plot
  buffers_again = subst (λ current. AreBuffers config (λ region. now (Top region)) current plot) (sym currents_same)
      (buffers_stay config top (λ region. now (Top region)) currents_were block plot same_room between.owned.buffers (λ seat some_buffer. rises (between.owned.buffers.each seat some_buffer).region))

  outside_again : AreBuffersOutside config (now Cset) currents
  outside_again = subst (λ current. AreBuffersOutside config (now Cset) current) (sym currents_same) (subst (λ given_set. AreBuffersOutside config given_set currents_were) (sym set_same) between.owned.outside)

  share_again : ShareIsOpen config (now Share) (now Free) (now Cset) owner
  share_again = subst (λ share. ShareIsOpen config share (now Free) (now Cset) owner) (sym (word_same Share (λ never. never)))
      (subst (λ free_word. ShareIsOpen config (memory Share) free_word (now Cset) owner) (sym free_is)
      (subst (λ set. ShareIsOpen config (memory Share) (bit_and (memory Free) (all_but r)) set owner) (sym set_same) (share_stays config (memory Share) (memory Free) (memory Cset) r owner copying.below between.owned.shared_one)))

  owned_again : AreOwned config (λ region. now (Top region)) (now Share) (now Free) (now Cset) currents plot owner
  owned_again = record { free_word = free_again; shared_one = share_again; rooms = rooms_stay config block plot same_room between.owned.rooms; buffers = buffers_again; outside = outside_again }

  unwritten_again : AreUnwritten after plot
  unwritten_again = record {
    blanks = λ asked_address seat words has_piece. ⊎_elim
        (λ (new : (asked_address ≡ to) × (copied_piece ≡ promised seat words)).
        let same_size : words_of copied_piece ≡ words = ap words_of new.1 in
        subst (λ address. IsBlank after address words) (sym new.0)
        (blank_copied heap after address to words (λ offset offset_below. copied offset (omega (arith, offset_below, same_size))) (between.unwritten.blanks address seat words (piece_there ∙ ap Some new.1))))
        (λ (stood : (asked_address ≢ address) × (block asked_address ≡ Some (promised seat words))).
        blank_copied heap after asked_address asked_address words (λ offset offset_below. kept asked_address offset (promised seat words) stood.0 stood.1 offset_below) (between.unwritten.blanks asked_address seat words stood.1))
        (promised_from asked_address seat words has_piece);
    headers = λ place words has_piece.
        let stood_before = dead_from place words has_piece in
        let long_enough = long place (dead words) stood_before.1 in
        let same_address : place + 0 ≡ place = omega arith in
        sym (ap after same_address) ∙ kept place 0 (dead words) stood_before.0 stood_before.1 long_enough ∙ ap heap same_address ∙ between.unwritten.headers place words stood_before.1;
    lengths = λ place words has_piece.
        let stood_before = dead_from place words has_piece in
        let long_enough = between.parsable.deads place words stood_before.1 in
        ap object_words (kept place 1 (dead words) stood_before.0 stood_before.1 (omega (arith, long_enough))) ∙ between.unwritten.lengths place words stood_before.1;
    fillers = λ place words has_piece.
        let stood_before = filler_from place words has_piece in
        let long_enough = long place (filler words) stood_before.1 in
        let same_address : place + 0 ≡ place = omega arith in
        sym (ap after same_address) ∙ kept place 0 (filler words) stood_before.0 stood_before.1 long_enough ∙ ap heap same_address ∙ between.unwritten.fillers place words stood_before.1;
  }

  -- an object that is not the one that is copied is where it was
  markable_stays : (asked_address : ℕ) → asked_address ≢ address → IsMarkable block asked_address → IsMarkable plot asked_address
  markable_stays asked_address not_address (IsMarkable.object name refs nums has_piece) = IsMarkable.object name refs nums (stays asked_address (thing name refs nums) not_address has_piece)
  markable_stays asked_address not_address (IsMarkable.to_come seat words has_piece) = IsMarkable.to_come seat words (stays asked_address (promised seat words) not_address has_piece)

  -- what a word that stays stood for it stands for then
  refers_still : (word_address : ℕ) (reference : Reference) → after word_address ≡ heap word_address → Points block (heap word_address) reference → Points plot (after word_address) reference
  refers_still word_address reference same_word points = subst (λ word. Points plot word reference) (sym same_word) (points_stay block plot names_stay (heap word_address) reference points)

  moved_again : (asked_address refs nums copy_address : ℕ) (name : Name) → plot asked_address ≡ Some (moved name refs nums copy_address) → IsMoved config (now Cset) after plot asked_address refs nums copy_address name
  moved_again asked_address refs nums copy_address name has_piece = ⊎_elim
      (λ (at_old : (asked_address ≡ address) × (old ≡ moved name refs nums copy_address)).
      let moved_before = was_thing copied_piece to live name refs nums copy_address at_old.1 in
      let old_object = between.contents.objects.each address refs nums name (piece_there ∙ ap Some moved_before.0) in
      let same_size : words_of copied_piece ≡ 3 + refs + nums = ap words_of moved_before.0 in
      subst (λ address. IsMoved config (now Cset) after plot address refs nums copy_address name) (sym at_old.0)
      (subst (λ number. IsMoved config (now Cset) after plot address refs nums number name) (sym moved_before.1)
      (record {
        header = copying.copied.forwarded;
        shape = left 1 (omega arith) (omega (arith, same_size)) ∙ old_object.2.shape;
        name_word = left 2 (omega arith) (omega (arith, same_size)) ∙ old_object.2.name_word;
        few_refs = old_object.2.few_refs;
        few_nums = old_object.2.few_nums;
        inside = inside_now;
        copy = new_there ∙ ap Some moved_before.0;
        outside = outside_now;
        references = λ number field_below.
            let null : Reference = None in
            let reference_there = slice_get-get_or old_object.0.refs number null (let few_refs = old_object.2.refs_are in omega (arith, field_below, few_refs)) in
            let same_place : address + (3 + number) ≡ address + 3 + number = omega arith in
            (get_or old_object.0.refs number null, refers_still (address + 3 + number) (get_or old_object.0.refs number null) (subst (λ word_address. after word_address ≡ heap word_address) same_place (left (3 + number) (omega arith) (omega (arith, same_size, field_below)))) (old_object.2.references number (get_or old_object.0.refs number null) reference_there));
      })))
      (λ new_or_other. ⊎_elim
      (λ (new : (asked_address ≡ to) × (copied_piece ≡ moved name refs nums copy_address)). absurd ((live_is_live copied_piece live).0 name refs nums copy_address new.1))
      (λ (stood : (asked_address ≢ address) × (block asked_address ≡ Some (moved name refs nums copy_address))).
      let moved_before = between.moves.moveds asked_address refs nums copy_address name stood.1 in
      let same_address : asked_address + 0 ≡ asked_address = omega arith in
      record {
        header = sym (ap after same_address) ∙ kept asked_address 0 (moved name refs nums copy_address) stood.0 stood.1 (omega arith) ∙ ap heap same_address ∙ moved_before.header;
        shape = kept asked_address 1 (moved name refs nums copy_address) stood.0 stood.1 (omega arith) ∙ moved_before.shape;
        name_word = kept asked_address 2 (moved name refs nums copy_address) stood.0 stood.1 (omega arith) ∙ moved_before.name_word;
        few_refs = moved_before.few_refs;
        few_nums = moved_before.few_nums;
        inside = subst (λ cset. IsCollected config cset asked_address) (sym set_same) moved_before.inside;
        copy = stays copy_address (thing name refs nums) (not_old copy_address moved_before.outside) moved_before.copy;
        outside = λ copy_collected. moved_before.outside (subst (λ cset. IsCollected config cset copy_address) set_same copy_collected);
        references = λ number field_below.
            let reference_there = moved_before.references number field_below in
            let same_place : asked_address + (3 + number) ≡ asked_address + 3 + number = omega arith in
            (reference_there.0, refers_still (asked_address + 3 + number) reference_there.0 (subst (λ word_address. after word_address ≡ heap word_address) same_place (kept asked_address (3 + number) (moved name refs nums copy_address) stood.0 stood.1 (omega (arith, field_below)))) reference_there.1);
      })
      new_or_other)
      (plot_cases asked_address (moved name refs nums copy_address) has_piece)

  spent_again : (asked_address words copy_address : ℕ) → plot asked_address ≡ Some (spent words copy_address) → IsSpent config (now Cset) after plot asked_address words copy_address
  spent_again asked_address words copy_address has_piece = ⊎_elim
      (λ (at_old : (asked_address ≡ address) × (old ≡ spent words copy_address)).
      let spent_before = was_promised copied_piece to live words copy_address at_old.1 in
      let blank = between.unwritten.blanks address spent_before.0 words (piece_there ∙ ap Some spent_before.1) in
      let same_size : words_of copied_piece ≡ words = ap words_of spent_before.1 in
      let three_words = blank.long in
      let refs = blank.few_refs in
      let nums = blank.few_nums in
      subst (λ address. IsSpent config (now Cset) after plot address words copy_address) (sym at_old.0)
      (subst (λ target. IsSpent config (now Cset) after plot address words target) (sym spent_before.2)
      (record {
        header = copying.copied.forwarded;
        shape = ap object_words (left 1 (omega arith) (omega (arith, same_size, three_words)) ∙ blank.shape) ∙ shape_words blank.refs blank.nums refs nums ∙ sym three_words;
        inside = inside_now;
        copy = live_markable plot to copied_piece live new_there;
        piece = copied_piece;
        there = new_there;
        long = same_size;
        outside = outside_now;
      })))
      (λ new_or_other. ⊎_elim
      (λ (new : (asked_address ≡ to) × (copied_piece ≡ spent words copy_address)). absurd ((live_is_live copied_piece live).1 words copy_address new.1))
      (λ (stood : (asked_address ≢ address) × (block asked_address ≡ Some (spent words copy_address))).
      let spent_before = between.moves.spents asked_address words copy_address stood.1 in
      let long_enough = between.parsable.spents asked_address words copy_address stood.1 in
      let same_address : asked_address + 0 ≡ asked_address = omega arith in
      let away = not_old copy_address spent_before.outside in
      record {
        header = sym (ap after same_address) ∙ kept asked_address 0 (spent words copy_address) stood.0 stood.1 (omega (arith, long_enough)) ∙ ap heap same_address ∙ spent_before.header;
        shape = ap object_words (kept asked_address 1 (spent words copy_address) stood.0 stood.1 (omega (arith, long_enough))) ∙ spent_before.shape;
        inside = subst (λ cset. IsCollected config cset asked_address) (sym set_same) spent_before.inside;
        copy = markable_stays copy_address away spent_before.copy;
        piece = spent_before.piece;
        there = stays copy_address spent_before.piece away spent_before.there;
        long = spent_before.long;
        outside = λ copy_collected. spent_before.outside (subst (λ cset. IsCollected config cset copy_address) set_same copy_collected);
      })
      new_or_other)
      (plot_cases asked_address (spent words copy_address) has_piece)
    where
      shape_words : (refs nums : ℕ) → refs ≤ 16 → nums ≤ 16 → object_words (shape_word refs nums) ≡ 3 + refs + nums
      shape_words refs nums few_refs few_nums = omega (arith, few_refs, few_nums)

  abbrev marks : ℕ → ℕ
  marks number = now (Black number)

  abbrev marks_were : ℕ → ℕ
  marks_were number = memory (Black number)

  abbrev tams : ℕ → ℕ
  tams region = now (Tams region)

  abbrev tams_were : ℕ → ℕ
  tams_were region = memory (Tams region)

  -- the copy is young
  young_there : IsYoung config tams to
  young_there =
      let floor = between.floors r copying.below in
      let same_tams : now (Tams r) ≡ memory (Tams r) = word_same (Tams r) (λ never. never) in
      subst (λ any_region. base_of config any_region + now (Tams any_region) ≤ to) (sym region_is) (omega (arith, floor, same_tams))

  marks_same : marks ≡ marks_were
  marks_same = fun_ext (λ number. word_same (Black number) (λ never. never))

  tams_same : tams ≡ tams_were
  tams_same = fun_ext (λ region. word_same (Tams region) (λ never. never))

  -- so what stood and is marked or young is so still
  marked_still : (address : ℕ) → HasMark config marks_were address ⊎ IsYoung config tams_were address → HasMark config marks address ⊎ IsYoung config tams address
  marked_still address marked_or_young = subst (λ bits. HasMark config bits address ⊎ IsYoung config tams address) (sym marks_same) (subst (λ floor. HasMark config marks_were address ⊎ IsYoung config floor address) (sym tams_same) marked_or_young)

  marked_again : (asked_address : ℕ) → IsMarkable plot asked_address → HasMark config marks asked_address ⊎ IsYoung config tams asked_address
  marked_again asked_address (IsMarkable.object name refs nums has_piece) = ⊎_elim
      (λ (new : (asked_address ≡ to) × (copied_piece ≡ thing name refs nums)). inr (subst (IsYoung config tams) (sym new.0) young_there))
      (λ (stood : (asked_address ≢ address) × (block asked_address ≡ Some (thing name refs nums))). marked_still asked_address (between.marked asked_address (IsMarkable.object name refs nums stood.1)))
      (thing_from asked_address refs nums name has_piece)
  marked_again asked_address (IsMarkable.to_come seat words has_piece) = ⊎_elim
      (λ (new : (asked_address ≡ to) × (copied_piece ≡ promised seat words)). inr (subst (IsYoung config tams) (sym new.0) young_there))
      (λ (stood : (asked_address ≢ address) × (block asked_address ≡ Some (promised seat words))). marked_still asked_address (between.marked asked_address (IsMarkable.to_come seat words stood.1)))
      (promised_from asked_address seat words has_piece)

  -- what has a copy in the set has one still
  copy_stays : (asked_address : ℕ) → asked_address ≢ address → asked_address ≢ to → HasCopy block asked_address → HasCopy plot asked_address
  copy_stays asked_address not_address addresses_differ (HasCopy.copy body has_piece) = HasCopy.copy body (ap body_at (same_plot asked_address not_address addresses_differ) ∙ has_piece)
  copy_stays asked_address not_address addresses_differ (HasCopy.spent_copy words copy_address has_piece) = HasCopy.spent_copy words copy_address (same_plot asked_address not_address addresses_differ ∙ has_piece)

  only_again : (asked_address : ℕ) → config.region_words ≤ asked_address → HasMark config marks asked_address → IsCollected config (now Cset) asked_address → IsMarkable plot asked_address ⊎ HasCopy plot asked_address
  only_again asked_address in_heap mark address_collected = ⊎_elim
      (λ (same_address : asked_address ≡ address). inr (subst (HasCopy plot) (sym same_address) (old_has_copy plot address to copied_piece live old_there)))
      (λ (not_address : asked_address ≢ address).
      let was_in : IsCollected config (memory Cset) asked_address = subst (λ cset. IsCollected config cset asked_address) set_same address_collected in
      let addresses_differ : asked_address ≢ to = λ same_address. outside (subst (IsCollected config (memory Cset)) same_address was_in) in
      ⊎_elim
      (λ (markable : IsMarkable block asked_address). inl (markable_stays asked_address not_address markable))
      (λ (copy : HasCopy block asked_address). inr (copy_stays asked_address not_address addresses_differ copy))
      (between.only asked_address in_heap (subst (λ bits. HasMark config bits asked_address) marks_same mark) was_in))
      (cases_eq asked_address address)

  in_set_was : (region : ℕ) → IsIn (now Cset) region → IsIn (memory Cset) region
  in_set_was region region_in_set = subst (λ set. IsIn set region) set_same region_in_set

  -- a region of the set is not the one that has grown
  not_grown : (region : ℕ) → IsIn (memory Cset) region → region ≢ r
  not_grown region region_chosen same_region =
      let copy_region_chosen : bit_at (memory Cset) r ≡ 1 = subst (IsIn (memory Cset)) same_region region_chosen in
      let not_in = copying.outside in
      omega (arith, copy_region_chosen, not_in)

  -- all of it holds again
  copied_between : AreBetween config now plot owner graph
  copied_between = record {
    parsable = parsable_again;
    contents = record { objects = objects_again; given = between.contents.given };
    owned = owned_again;
    unwritten = unwritten_again;
    moves = record { moveds = moved_again; spents = spent_again };
    unheld = λ address seat words known_fact. between.unheld address seat words (same_room.came address seat (hand seat words) refl known_fact);
    uncarved = λ address seat words known_fact. between.uncarved address seat words (same_room.came address seat (carved seat words) refl known_fact);
    no_rooms = λ piece_address seat piece known_fact room member. between.no_rooms piece_address seat piece (same_room.came piece_address seat piece room known_fact) room (subst (λ set. IsCollected config set piece_address) set_same member);
    promised_to = λ asked_address seat words known_fact. ⊎_elim
        (λ (new : (asked_address ≡ to) × (copied_piece ≡ promised seat words)). between.promised_to address seat words (piece_there ∙ ap Some new.1))
        (λ (stood : (asked_address ≢ address) × (block asked_address ≡ Some (promised seat words))). between.promised_to asked_address seat words stood.1)
        (promised_from asked_address seat words known_fact);
    in_heap = λ region known_fact. between.in_heap region (in_set_was region known_fact);
    used = λ region is_free known_fact. let was_in_set = in_set_was region known_fact in between.used region (free_was region (between.in_heap region was_in_set) is_free).1 was_in_set;
    nobodys = λ region seat own_region known_fact. between.nobodys region seat own_region (in_set_was region known_fact);
    no_new = λ region known_fact. let was_in_set = in_set_was region known_fact in top_same region (not_grown region was_in_set) ∙ between.no_new region was_in_set ∙ sym (word_same (Tams region) (λ never. never));
    marked = marked_again;
    young = λ piece_address seat piece known_fact room. subst (λ floor. IsYoung config floor piece_address) (sym tams_same) (between.young piece_address seat piece (same_room.came piece_address seat piece room known_fact) room);
    floors = λ region region_below. ⊎_elim
        (λ (same_region : region ≡ r).
        let floor = between.floors r copying.below in
        let grown = copying.copied.top in
        let tams : now (Tams r) ≡ memory (Tams r) = word_same (Tams r) (λ never. never) in
        subst (λ region. now (Tams region) ≤ now (Top region)) (sym same_region) (omega (arith, floor, grown, tams)))
        (λ (different_region : region ≢ r).
        let floor = between.floors region region_below in
        let same_region = top_same region different_region in
        let tams : now (Tams region) ≡ memory (Tams region) = word_same (Tams region) (λ never. never) in
        omega (arith, floor, same_region, tams))
        (cases_eq region r);
    unmarked = λ piece_address words known_fact mark. let stood = dead_from piece_address words known_fact in between.unmarked piece_address words stood.1 (subst (λ bits. HasMark config bits piece_address) marks_same mark);
    deads = λ piece_address words known_fact young. let stood = dead_from piece_address words known_fact in between.deads piece_address words stood.1 (subst (λ floor. IsYoung config floor piece_address) tams_same young);
    only = only_again;
  }

  -- and that is where the copy is
  pub copied_out_of : (copy_address : ℕ) × (new_plot : Plot) × HasCopied config memory (copied_out config memory address) block new_plot owner graph address copy_address copied_piece
  copied_out_of = (
    to,
    plot,
    record {
      between = copied_between;
      header = copying.copied.forwarded;
      there = new_there;
      outside = outside_now;
      copied = copied;
      stays = stays;
      kept = kept;
      names = names_stay;
      promises = promised_from;
      same = word_same;
    },
  )
