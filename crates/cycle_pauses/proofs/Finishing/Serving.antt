-- Who waits is given an object where there is room, while no cycle runs: the words stand for the same graph, with one promise more.
use Rattle.std.proofs.Common.{◌≡◌, ◌≢◌, ℕ, ◌+◌, ◌*◌, ◌<◌, ◌≤◌, ◌⊎◌, ◌==◌, Option, Some, None, zero, suc, inl, inr, ⊎_elim, refl, sym, ap, ◌∙◌, subst, arith, w64}
use Rattle.std.specs.Prelude.{bit_and}
use Rattle.std.specs.Int.{bit_at}
use Rattle.std.proofs.Math.Nat.{mul-le-mul_right}
use Rattle.std.proofs.Math.Path.{fun_ext}
use Rattle.std.proofs.lemmas.Bool.{cond-true, cond-false, cases_eq, eq-eqb, ne_eqb}
use Rattle.std.proofs.lemmas.Bool.Decides.{nat_tests}
use Rattle.std.proofs.lemmas.Nat.{and_le_l}
use Rattle.std.proofs.lemmas.Nat.Bits.{bit_at_clear_same}
use Rattle.heap_words.specs.declared.config.Config.{Config}
use Rattle.heap_words.specs.Words.{Word, Cset, Free, Evac, Top, Current, Root, Pin, Wait, Answer, Heap, Share}
use Rattle.heap_words.specs.Encoding.{object_words, request_shape_in, request_count_in, shape_word, name_code}
use Rattle.heap_words.specs.Encoding as encoding
use Rattle.regions.specs.ServedRooms.{IsLowestRoom}
use Rattle.regions.proofs.ServedRooms.{has_room}
use Rattle.regions.specs.Place.{base_of}
use Rattle.regions.specs.Sets.{all_but}
use Rattle.shen_graph.specs.declared.name.Name.{Name}
use Rattle.shen_graph.specs.Graph.{Graph}
use Rattle.heap_world.specs.World.{Block, thing, moved, spent, hand, promised, dead, filler, carved, words_of, room_of, Plot, name_at, Points, PinStands, IsPlotted, IsFilled, IsParsable, HasContents, AreOwned, ShareIsOpen, AreBuffers, AreBuffersOutside, AreUnwritten, AreObjects, IsFreeWord, IsBlank}
use Rattle.heap_world.specs.Asking.{Asking, nothing, asks, refused, given, IsRequest, IsPromise, IsAsked}
use Rattle.heap_world.proofs.FunctionUpdates.{updated, updated_same, updated_there, updated_else}
use Rattle.heap_world.proofs.Keeping.{points_stay}
use Rattle.heap_world.proofs.Pieces.{some_words, beside, piece_cases, object_reads}
use Rattle.heap_world.proofs.FreeRegions.{free_before}
use Rattle.heap_world.proofs.Joined as joined
use Rattle.heap_world.proofs.Joined.{CanJoin}
use Rattle.heap_world.proofs.Unwritten.{blank_stays}
use Rattle.image_graph.proofs.BuffersStay.{SameRoom, rooms_stay, buffers_stay, share_stays}
use Rattle.std.proofs.lemmas.Option.{none-some}
use Rattle.image_graph.specs.Full.{made_word, made_in, served_in, room_for, served}
use Rattle.image_graph.proofs.Made.{outside_fresh}
use Rattle.image_graph.proofs.TurnWords.{served_first, turn_idle, turn_waits}
use Rattle.cycle_pauses.proofs.Full.Holding.{request_reads}
use Rattle.cycle_pauses.specs.Marking.MarkedOut.{AreUnmoved}
use Rattle.cycle_pauses.proofs.Evacuation.Asked.{asked_stays}
use Rattle.cycle_pauses.proofs.Evacuation.PinsKept.{pin_kept}

-- The words stand for a graph, with what mutators have asked for, while no cycle runs: nothing has moved, and nobody has room in hand, or carved words.
pub record IsIdle (config : Config) (memory : Word → ℕ) (block : Plot) (owner : ℕ → Option ℕ) (graph : Graph) (asking : ℕ → Asking) : Type 0 where
  pub parsable : IsParsable config (λ region. memory (Top region)) block
  pub contents : HasContents config (λ address. memory (Heap address)) block graph.object graph.count
  pub owned : AreOwned config (λ region. memory (Top region)) (memory Share) (memory Free) (memory Cset) (λ seat. memory (Current seat)) block owner
  pub unwritten : AreUnwritten (λ address. memory (Heap address)) block
  pub unmoved : AreUnmoved block
  pub roots : (mutator index : ℕ) → mutator < config.mutators → index < 16 → Points block (memory (Root mutator index)) (graph.root (mutator + 1) index)
  pub pinned : (mutator index : ℕ) → mutator < config.mutators → index < 4 → PinStands config (memory Cset) (memory Evac) block (memory (Pin mutator index)) (graph.pin (mutator + 1) index)
  pub asked : (mutator : ℕ) → mutator < config.mutators → IsAsked memory block graph.count mutator (asking mutator)
  pub promised_to : (address seat words : ℕ) → block address ≡ Some (promised seat words) → seat < config.mutators

-- what a mutator has been given in place of what it asked for
pub data IsServedSo : Asking → Asking → Type 0 where
  as_before : (asking : Asking) → IsServedSo asking asking
  with_object : (refs nums : ℕ) → IsServedSo (asks refs nums) (given refs nums)

-- who waits has asked
pub asked_for : (memory : Word → ℕ) (block : Plot) (count : ℕ → ℕ) (mutator : ℕ) (asking : Asking) → IsAsked memory block count mutator asking → memory (Wait mutator) ≢ 0
    → (refs : ℕ) × (nums : ℕ) × (asking ≡ asks refs nums) × IsRequest memory count mutator refs nums × ((address words : ℕ) → block address ≡ Some (promised mutator words) → ⊥)
asked_for memory block count mutator nothing asked waits = absurd (waits asked.0)
asked_for memory block count mutator (asks refs nums) asked waits = (refs, nums, refl, asked.0, asked.2)
asked_for memory block count mutator refused asked waits = absurd (waits asked.0)
asked_for memory block count mutator (given refs nums) asked waits = absurd (waits asked.0)

-- the words of a new object, in order
fresh_at : (address mutator made refs nums shape before index : ℕ) → shape ≡ shape_word refs nums → index < object_words shape → made_word address shape (name_code (mutator + 1) (made + 1)) before (address + index) ≡ encoding.fresh_word mutator made refs nums index
fresh_at address mutator made refs nums shape before index same_shape index_below = grind (arith, nat_tests)

module _ (config : Config) (memory : Word → ℕ) (block : Plot) (owner : ℕ → Option ℕ) (graph : Graph) (asking : ℕ → Asking) (idle : IsIdle config memory block owner graph asking) (served_mutator served_region : ℕ) (inside : served_mutator < config.mutators)
    (waits : memory (Wait served_mutator) ≢ 0) (lowest : IsLowestRoom config.region_words (λ any_region. memory (Top any_region)) (object_words (request_shape_in (memory (Wait served_mutator)))) config.regions served_region) where
  abbrev memory_then : Word → ℕ
  memory_then = made_in config memory served_mutator served_region

  abbrev top : ℕ → ℕ
  top region = memory (Top region)

  abbrev heap : ℕ → ℕ
  heap address = memory (Heap address)

  abbrev after : ℕ → ℕ
  after address = memory_then (Heap address)

  abbrev to : ℕ
  to = base_of config served_region + memory (Top served_region)

  abbrev shape : ℕ
  shape = request_shape_in (memory (Wait served_mutator))

  -- what it asks for
  asked_so : (refs : ℕ) × (nums : ℕ) × (asking served_mutator ≡ asks refs nums) × IsRequest memory graph.count served_mutator refs nums × ((address words : ℕ) → block address ≡ Some (promised served_mutator words) → ⊥)
  asked_so = asked_for memory block graph.count served_mutator (asking served_mutator) (idle.asked served_mutator inside) waits

  abbrev refs : ℕ
  refs = asked_so.0

  abbrev nums : ℕ
  nums = asked_so.1

  abbrev x : Block
  x = promised served_mutator (3 + refs + nums)

  request : IsRequest memory graph.count served_mutator refs nums
  request = asked_so.3

  shape_is : shape ≡ shape_word refs nums
  shape_is = (request_reads memory graph.count served_mutator refs nums request).shaped

  words_are : object_words shape ≡ 3 + refs + nums
  words_are = let few_refs = request.few_refs in let few_nums = request.few_nums in ap object_words shape_is ∙ omega (arith, few_refs, few_nums)

  count_is : request_count_in (memory (Wait served_mutator)) ≡ graph.count (served_mutator + 1) + 1
  count_is = (request_reads memory graph.count served_mutator refs nums request).counted

  long : (address : ℕ) (piece : Block) → block address ≡ Some piece → 1 ≤ words_of piece
  long address piece piece_there = some_words config top block idle.parsable idle.owned.rooms address piece piece_there

  joins : CanJoin config top block served_region (memory (Top served_region)) x
  joins = record {
    plotted = idle.parsable.plotted;
    long = long;
    within = lowest.below;
    top_is = refl;
    room = (let room = lowest.room in omega (arith, room, words_are));
    some = omega arith;
  }

  abbrev plot : Plot
  plot = updated block to (Some x)

  stays : (address : ℕ) (piece : Block) → block address ≡ Some piece → plot address ≡ Some piece
  stays = joined.stays config top block served_region (memory (Top served_region)) x joins

  new_there : plot to ≡ Some x
  new_there = updated_there block to (Some x)

  names : (address : ℕ) (name : Name) → name_at (block address) ≡ Some name → name_at (plot address) ≡ Some name
  names = joined.names_stay config top block served_region (memory (Top served_region)) x joins

  cases : (address : ℕ) (piece : Block) → plot address ≡ Some piece → ((address ≡ to) × (x ≡ piece)) ⊎ ((address ≢ to) × (block address ≡ Some piece))
  cases address piece plot_there = piece_cases block to x address piece plot_there

  -- an object of the graph stood there, and so did what is no promise
  thing_was : (address thing_refs thing_nums : ℕ) (name : Name) → plot address ≡ Some (thing name thing_refs thing_nums) → block address ≡ Some (thing name thing_refs thing_nums)
  thing_was address thing_refs thing_nums name thing_there = ⊎_elim (λ (new : (address ≡ to) × (x ≡ thing name thing_refs thing_nums)). let differ = new.1 in cc) (λ old. old.1) (cases address (thing name thing_refs thing_nums) thing_there)

  dead_was : (address words : ℕ) → plot address ≡ Some (dead words) → block address ≡ Some (dead words)
  dead_was address words dead_there = ⊎_elim (λ (new : (address ≡ to) × (x ≡ dead words)). let differ = new.1 in cc) (λ old. old.1) (cases address (dead words) dead_there)

  filler_was : (address words : ℕ) → plot address ≡ Some (filler words) → block address ≡ Some (filler words)
  filler_was address words filler_there = ⊎_elim (λ (new : (address ≡ to) × (x ≡ filler words)). let differ = new.1 in cc) (λ old. old.1) (cases address (filler words) filler_there)

  -- the words of what stood there stay
  kept : (address index : ℕ) (piece : Block) → block address ≡ Some piece → index < words_of piece → after (address + index) ≡ heap (address + index)
  unfolding made_in
  kept address index piece piece_there index_below =
      let room = lowest.room in
      outside_fresh to shape (name_code (served_mutator + 1) (request_count_in (memory (Wait served_mutator)))) (heap (address + index)) (address + index)
      (⊎_elim
      (λ (before : address + words_of piece ≤ base_of config served_region). inl (omega (arith, before, index_below)))
      (λ (rest : ((base_of config served_region ≤ address) × (address + words_of piece ≤ to)) ⊎ (base_of config served_region + config.region_words ≤ address)). ⊎_elim
      (λ (within : (base_of config served_region ≤ address) × (address + words_of piece ≤ to)). inl (omega (arith, within.1, index_below)))
      (λ (behind_region : base_of config served_region + config.region_words ≤ address). inr (omega (arith, behind_region, room)))
      rest)
      (beside config top block idle.parsable.plotted served_region address piece piece_there))

  -- the new ones are those of a new object
  new_word : (index : ℕ) → index < 3 + refs + nums → after (to + index) ≡ encoding.fresh_word served_mutator (graph.count (served_mutator + 1)) refs nums index
  unfolding made_in
  new_word index index_below =
      ap (λ count. made_word to shape (name_code (served_mutator + 1) count) (heap (to + index)) (to + index)) count_is
      ∙ fresh_at to served_mutator (graph.count (served_mutator + 1)) refs nums shape (heap (to + index)) index shape_is (omega (arith, index_below, words_are))

  same_root : (mutator index : ℕ) → memory_then (Root mutator index) ≡ memory (Root mutator index)
  unfolding made_in
  same_root mutator index = refl

  own_wait : memory_then (Wait served_mutator) ≡ 0
  unfolding made_in
  own_wait = cond-true (served_mutator == served_mutator) 0 (memory (Wait served_mutator)) (eq-eqb served_mutator served_mutator refl)

  own_answer : memory_then (Answer served_mutator) ≡ to
  unfolding made_in
  own_answer = cond-true (served_mutator == served_mutator) to (memory (Answer served_mutator)) (eq-eqb served_mutator served_mutator refl)

  other_wait : (mutator : ℕ) → served_mutator ≢ mutator → memory_then (Wait mutator) ≡ memory (Wait mutator)
  unfolding made_in
  other_wait mutator mutators_apart = cond-false (served_mutator == mutator) 0 (memory (Wait mutator)) (ne_eqb served_mutator mutator mutators_apart)

  other_answer : (mutator : ℕ) → served_mutator ≢ mutator → memory_then (Answer mutator) ≡ memory (Answer mutator)
  unfolding made_in
  other_answer mutator mutators_apart = cond-false (served_mutator == mutator) to (memory (Answer mutator)) (ne_eqb served_mutator mutator mutators_apart)

  free_is : memory_then Free ≡ bit_and (memory Free) (all_but served_region)
  unfolding made_in
  free_is = refl

  tops_are : (λ region. memory_then (Top region)) ≡ updated top served_region (memory (Top served_region) + words_of x)
  unfolding made_in
  tops_are = fun_ext (λ given_region. ap (λ words. updated top served_region (memory (Top served_region) + words) given_region) words_are)

  other_top : (region : ℕ) → region ≢ served_region → memory_then (Top region) ≡ memory (Top region)
  other_top region regions_apart = ap (λ (tops : ℕ → ℕ). tops region) tops_are ∙ updated_else top served_region (memory (Top served_region) + words_of x) region (λ same_region. regions_apart (sym same_region))

  free_again : IsFreeWord config (memory_then Free) (λ region. memory_then (Top region)) owner
  free_again = subst (λ free_set. IsFreeWord config free_set (λ region. memory_then (Top region)) owner) (sym free_is) (record {
    no_more = (let free_below = idle.owned.free_word.no_more in let free_less = and_le_l (memory Free) (all_but served_region) in omega (arith, free_below, free_less));
    empty = λ given_region region_below free_there.
        let regions_apart : given_region ≢ served_region = λ same_region.
        let bit_gone = bit_at_clear_same w64 (memory Free) served_region (let few = config.in_range.most_regions in let within = lowest.below in omega (arith, few, within)) in
        let bit_there : bit_at (bit_and (memory Free) (all_but served_region)) served_region ≡ 1 = subst (λ bit_index. bit_at (bit_and (memory Free) (all_but served_region)) bit_index ≡ 1) same_region free_there in
        omega (arith, bit_gone, bit_there)
        in
        other_top given_region regions_apart ∙ idle.owned.free_word.empty given_region region_below (free_before config (memory Free) served_region lowest.below given_region region_below free_there);
    nobodys = λ given_region region_below free_there. idle.owned.free_word.nobodys given_region region_below (free_before config (memory Free) served_region lowest.below given_region region_below free_there);
  })

  -- room is the same, and no top falls
  same_room : SameRoom block plot
  same_room = record {
    stays = λ address seat piece room_is piece_there. stays address piece piece_there;
    came = λ address seat piece room_is piece_there. ⊎_elim (λ (new : (address ≡ to) × (x ≡ piece)). absurd (none-some seat (ap room_of new.1 ∙ room_is))) (λ (old : (address ≢ to) × (block address ≡ Some piece)). old.1) (cases address piece piece_there);
  }

  rises : (region : ℕ) → memory (Top region) ≤ memory_then (Top region)
  rises region = ⊎_elim
      (λ (same : served_region ≡ region). (let top_now : memory_then (Top region) ≡ memory (Top served_region) + words_of x = ap (λ (tops : ℕ → ℕ). tops region) tops_are ∙ updated_same top served_region (memory (Top served_region) + words_of x) region same in let top_before : memory (Top region) ≡ memory (Top served_region) = ap (λ region. memory (Top region)) (sym same) in omega (arith, top_now, top_before)))
      (λ (regions_apart : served_region ≢ region). (let same = other_top region (λ same_region. regions_apart (sym same_region)) in omega (arith, same)))
      (cases_eq served_region region)

  -- so regions and buffers are owned as before
  share_again : ShareIsOpen config (memory_then Share) (memory_then Free) (memory_then Cset) owner
  unfolding made_in
  share_again = share_stays config (memory Share) (memory Free) (memory Cset) served_region owner lowest.below idle.owned.shared_one

  buffers_again : AreBuffers config (λ region. memory_then (Top region)) (λ seat. memory_then (Current seat)) plot
  unfolding made_in
  buffers_again = buffers_stay config top (λ region. memory_then (Top region)) (λ seat. memory (Current seat)) block plot same_room idle.owned.buffers (λ seat some_buffer. rises (idle.owned.buffers.each seat some_buffer).region)

  outside_again : AreBuffersOutside config (memory_then Cset) (λ seat. memory_then (Current seat))
  unfolding made_in
  outside_again = idle.owned.outside

  abbrev asking_then : ℕ → Asking
  asking_then = updated asking served_mutator (given refs nums)

  promised_here : IsAsked memory_then plot graph.count served_mutator (given refs nums)
  promised_here =
      let low : 1 * config.region_words ≤ (served_region + 1) * config.region_words = mul-le-mul_right config.region_words (omega arith) in
      let least_words = config.in_range.least_words in (
        own_wait,
        subst (λ answer. 1 < answer) (sym own_answer) (omega (arith, low, least_words)),
        subst (IsPromise memory_then plot graph.count served_mutator refs nums) (sym own_answer)
            (record {
              here = new_there;
              words = new_word;
              only = λ address other_words piece_there. ⊎_elim (λ (new : (address ≡ to) × (x ≡ promised served_mutator other_words)). new.0) (λ (old : (address ≢ to) × (block address ≡ Some (promised served_mutator other_words))). absurd (asked_so.4 address other_words old.1)) (cases address (promised served_mutator other_words) piece_there);
              few_refs = request.few_refs;
              few_nums = request.few_nums;
              few = request.few;
            }),
      )

  asked_again : (mutator : ℕ) → mutator < config.mutators → IsAsked memory_then plot graph.count mutator (asking_then mutator)
  asked_again mutator mutator_below = ⊎_elim
      (λ (served_itself : served_mutator ≡ mutator).
      subst (IsAsked memory_then plot graph.count mutator) (sym (updated_same asking served_mutator (given refs nums) mutator served_itself)) (subst (λ number. IsAsked memory_then plot graph.count number (given refs nums)) served_itself promised_here))
      (λ (mutators_apart : served_mutator ≢ mutator).
      subst (IsAsked memory_then plot graph.count mutator) (sym (updated_else asking served_mutator (given refs nums) mutator mutators_apart))
      (asked_stays memory memory_then block plot graph.count mutator (other_wait mutator mutators_apart) (other_answer mutator mutators_apart) (λ address words number piece_there few. kept address number (promised mutator words) piece_there few)
      (λ address words piece_there. stays address (promised mutator words) piece_there)
      (λ address words piece_there. ⊎_elim
      (λ (new : (address ≡ to) × (x ≡ promised mutator words)). let new_parts = new.1 in let seats : served_mutator ≡ mutator = cc in absurd (mutators_apart seats))
      (λ old. old.1)
      (cases address (promised mutator words) piece_there))
      (asking mutator) (idle.asked mutator mutator_below)))
      (cases_eq served_mutator mutator)

  objects_again : AreObjects after plot graph.object
  objects_again = record {
    each = λ object_address thing_refs thing_nums name thing_there.
        let thing_before = thing_was object_address thing_refs thing_nums name thing_there in
        let object_told = idle.contents.objects.each object_address thing_refs thing_nums name thing_before in
        (object_told.0, object_told.1, object_reads heap after block plot object_address thing_refs thing_nums name object_told.0 (λ index index_below. kept object_address index (thing name thing_refs thing_nums) thing_before index_below) names object_told.2);
    once = λ address other_address thing_refs thing_nums other_refs other_nums name first_there second_there. idle.contents.objects.once address other_address thing_refs thing_nums other_refs other_nums name (thing_was address thing_refs thing_nums name first_there) (thing_was other_address other_refs other_nums name second_there);
  }

  null_word : (index : ℕ) → 3 ≤ index → encoding.fresh_word served_mutator (graph.count (served_mutator + 1)) refs nums index ≡ 0
  null_word index past_header = grind (arith, nat_tests)

  unwritten_again : AreUnwritten after plot
  unwritten_again = record {
    blanks = λ address seat words piece_there. ⊎_elim
        (λ (new : (address ≡ to) × (x ≡ promised seat words)). subst (λ address. IsBlank after address words) (sym new.0) (record {
          refs = refs;
          nums = nums;
          long = sym (ap words_of new.1);
          few_refs = request.few_refs;
          few_nums = request.few_nums;
          header = (let start : to ≡ to + 0 = omega arith in ap after start ∙ new_word 0 (omega arith));
          shape = new_word 1 (omega arith);
          nulls = λ field index_below.
              let place : to + (3 + field) ≡ to + 3 + field = omega arith in
              sym (ap after place) ∙ new_word (3 + field) (omega (arith, index_below)) ∙ null_word (3 + field) (omega arith);
        }))
        (λ (old : (address ≢ to) × (block address ≡ Some (promised seat words))).
        blank_stays heap after address words (λ offset index_below. kept address offset (promised seat words) old.1 index_below) (idle.unwritten.blanks address seat words old.1))
        (cases address (promised seat words) piece_there);
    headers = λ piece_address words piece_there.
        let piece_before = dead_was piece_address words piece_there in
        let first_word : piece_address + 0 ≡ piece_address = omega arith in
        sym (ap after first_word) ∙ kept piece_address 0 (dead words) piece_before (let size = idle.parsable.deads piece_address words piece_before in omega (arith, size)) ∙ ap heap first_word ∙ idle.unwritten.headers piece_address words piece_before;
    lengths = λ piece_address words piece_there.
        let piece_before = dead_was piece_address words piece_there in
        ap object_words (kept piece_address 1 (dead words) piece_before (let size = idle.parsable.deads piece_address words piece_before in omega (arith, size))) ∙ idle.unwritten.lengths piece_address words piece_before;
    fillers = λ piece_address words piece_there.
        let piece_before = filler_was piece_address words piece_there in
        let first_word : piece_address + 0 ≡ piece_address = omega arith in
        sym (ap after first_word) ∙ kept piece_address 0 (filler words) piece_before (idle.parsable.fillers piece_address words piece_before) ∙ ap heap first_word ∙ idle.unwritten.fillers piece_address words piece_before;
  }

  unmoved_again : AreUnmoved plot
  unmoved_again = record {
    no_moved = λ address thing_refs thing_nums new_address name has_piece. ⊎_elim (λ (new : (address ≡ to) × (x ≡ moved name thing_refs thing_nums new_address)). let differ = new.1 in cc) (λ old. idle.unmoved.no_moved address thing_refs thing_nums new_address name old.1) (cases address (moved name thing_refs thing_nums new_address) has_piece);
    no_spent = λ address words new_address has_piece. ⊎_elim (λ (new : (address ≡ to) × (x ≡ spent words new_address)). let differ = new.1 in cc) (λ old. idle.unmoved.no_spent address words new_address old.1) (cases address (spent words new_address) has_piece);
    no_hand = λ address seat words has_piece. idle.unmoved.no_hand address seat words (same_room.came address seat (hand seat words) refl has_piece);
    no_carved = λ carved_address seat words has_piece. idle.unmoved.no_carved carved_address seat words (same_room.came carved_address seat (carved seat words) refl has_piece);
  }

  pinned_again : (mutator index : ℕ) → mutator < config.mutators → index < 4 → PinStands config (memory_then Cset) (memory_then Evac) plot (memory_then (Pin mutator index)) (graph.pin (mutator + 1) index)
  unfolding made_in
  pinned_again mutator index mutator_below few = pin_kept config (memory Cset) (memory Evac) block plot (memory (Pin mutator index)) (graph.pin (mutator + 1) index) (λ piece piece_there. stays (memory (Pin mutator index)) piece piece_there) (idle.pinned mutator index mutator_below few)

  one_made : IsIdle config (made_in config memory served_mutator served_region) plot owner graph asking_then
  one_made = record {
    parsable = record {
      plotted = subst (λ top. IsPlotted config top plot) (sym tops_are) (joined.plotted_more config top block served_region (memory (Top served_region)) x joins);
      filled = subst (λ top. IsFilled config top plot) (sym tops_are) (joined.filled_more config top block served_region (memory (Top served_region)) x joins idle.parsable.filled);
      promises = λ address seat words piece_there. ⊎_elim
          (λ (new : (address ≡ to) × (x ≡ promised seat words)). (let size = ap words_of new.1 in omega (arith, size)))
          (λ old. idle.parsable.promises address seat words old.1)
          (cases address (promised seat words) piece_there);
      deads = λ address words piece_there. idle.parsable.deads address words (dead_was address words piece_there);
      spents = λ address words new_address piece_there. absurd (unmoved_again.no_spent address words new_address piece_there);
      fillers = λ address words piece_there. idle.parsable.fillers address words (filler_was address words piece_there);
    };
    contents = record { objects = objects_again; given = idle.contents.given };
    owned = record {
      free_word = free_again;
      shared_one = share_again;
      rooms = rooms_stay config block plot same_room idle.owned.rooms;
      buffers = buffers_again;
      outside = outside_again;
    };
    unwritten = unwritten_again;
    unmoved = unmoved_again;
    roots = λ mutator index mutator_below few. subst (λ root_word. Points plot root_word (graph.root (mutator + 1) index)) (sym (same_root mutator index)) (points_stay block plot names (memory (Root mutator index)) (graph.root (mutator + 1) index) (idle.roots mutator index mutator_below few));
    pinned = pinned_again;
    asked = asked_again;
    promised_to = λ address seat words piece_there. ⊎_elim
        (λ (new : (address ≡ to) × (x ≡ promised seat words)). let new_parts = new.1 in let seats : served_mutator ≡ seat = cc in subst (λ number. number < config.mutators) seats inside)
        (λ old. idle.promised_to address seat words old.1)
        (cases address (promised seat words) piece_there);
  }

  served_one : (asked_mutator : ℕ) → IsServedSo (asking asked_mutator) (asking_then asked_mutator)
  served_one asked_mutator = ⊎_elim
      (λ (served_itself : served_mutator ≡ asked_mutator).
      subst (IsServedSo (asking asked_mutator)) (sym (updated_same asking served_mutator (given refs nums) asked_mutator served_itself))
      (subst (λ request. IsServedSo request (given refs nums)) (sym (ap asking (sym served_itself) ∙ asked_so.2)) (IsServedSo.with_object refs nums)))
      (λ (mutators_apart : served_mutator ≢ asked_mutator). subst (IsServedSo (asking asked_mutator)) (sym (updated_else asking served_mutator (given refs nums) asked_mutator mutators_apart)) (IsServedSo.as_before (asking asked_mutator)))
      (cases_eq served_mutator asked_mutator)

  pub given_one : (new_plot : Plot) × (later_asking : ℕ → Asking) × IsIdle config (made_in config memory served_mutator served_region) new_plot owner graph later_asking × ((asked_mutator : ℕ) → IsServedSo (asking asked_mutator) (later_asking asked_mutator))
  given_one = (plot, asking_then, one_made, served_one)

-- served again
served_twice : (x y z : Asking) → IsServedSo x y → IsServedSo y z → IsServedSo x z
served_twice asking other_asking z (IsServedSo.as_before any_asking) later = later
served_twice asking other_asking z (IsServedSo.with_object refs nums) later = by_later z later
  where
    by_later : (any_asking : Asking) → IsServedSo (given refs nums) any_asking → IsServedSo (asks refs nums) any_asking
    by_later any_asking (IsServedSo.as_before kept_asking) = IsServedSo.with_object refs nums

-- After so many turns.
pub turns_idle : (config : Config) (memory : Word → ℕ) (block : Plot) (owner : ℕ → Option ℕ) (graph : Graph) (asking : ℕ → Asking) → IsIdle config memory block owner graph asking → (mutator : ℕ) → mutator ≤ config.mutators
    → (plot : Plot) × (later_asking : ℕ → Asking) × IsIdle config (served config memory mutator) plot owner graph later_asking × ((asked_mutator : ℕ) → IsServedSo (asking asked_mutator) (later_asking asked_mutator))
turns_idle config memory block owner graph asking idle zero at_most =
    (block, asking, subst (λ memory. IsIdle config memory block owner graph asking) (sym (fun_ext (served_first config memory))) idle, λ asked_mutator. IsServedSo.as_before (asking asked_mutator))
turns_idle config memory block owner graph asking idle (suc mutator) at_most =
    let rest = turns_idle config memory block owner graph asking idle mutator (omega (arith, at_most)) in
    let served_memory : Word → ℕ = served config memory mutator in
    ⊎_elim
    (λ (no_wait : served config memory mutator (Wait mutator) ≡ 0).
    (rest.0, rest.1, subst (λ memory. IsIdle config memory rest.0 owner graph rest.1) (sym (fun_ext (λ word. turn_idle config memory mutator word no_wait))) rest.2, rest.3))
    (λ (waits : served config memory mutator (Wait mutator) ≢ 0). by_room rest waits (room_for config (served config memory mutator) mutator) refl)
    (cases_eq (served config memory mutator (Wait mutator)) 0)
  where
    by_room : ((plot : Plot) × (later_asking : ℕ → Asking) × IsIdle config (served config memory mutator) plot owner graph later_asking × ((asked_mutator : ℕ) → IsServedSo (asking asked_mutator) (later_asking asked_mutator))) → served config memory mutator (Wait mutator) ≢ 0
        → (found_room : Option ℕ) → room_for config (served config memory mutator) mutator ≡ found_room
        → (plot : Plot) × (later_asking : ℕ → Asking) × IsIdle config (served config memory (suc mutator)) plot owner graph later_asking × ((asked_mutator : ℕ) → IsServedSo (asking asked_mutator) (later_asking asked_mutator))
    by_room rest waits None room_told = (
      rest.0,
      rest.1,
      subst (λ memory. IsIdle config memory rest.0 owner graph rest.1) (sym (fun_ext (λ word. turn_waits config memory mutator word waits ∙ ap (λ found_room. served_in config (served config memory mutator) mutator found_room word) room_told))) rest.2,
      rest.3,
    )
    by_room rest waits (Some found_region) found =
        let lowest = has_room config.region_words (λ region. served config memory mutator (Top region)) (object_words (request_shape_in (served config memory mutator (Wait mutator)))) config.regions found_region found in
        let one_given = given_one config (served config memory mutator) rest.0 owner graph rest.1 rest.2 mutator found_region (omega (arith, at_most)) waits lowest in (
          one_given.0,
          one_given.1,
          subst (λ memory. IsIdle config memory one_given.0 owner graph one_given.1) (sym (fun_ext (λ word. turn_waits config memory mutator word waits ∙ ap (λ found_room. served_in config (served config memory mutator) mutator found_room word) found))) one_given.2,
          λ asked_mutator. served_twice (asking asked_mutator) (rest.1 asked_mutator) (one_given.1 asked_mutator) (rest.3 asked_mutator) (one_given.3 asked_mutator),
        )
