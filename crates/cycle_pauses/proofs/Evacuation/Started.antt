-- The words that the pause leaves stand for the same graph: where a region was chosen evacuation runs, and else nothing does.
use Rattle.std.proofs.Common.{◌≡◌, ◌≢◌, ℕ, ◌+◌, ◌-◌, ◌<◌, ◌≤◌, ◌⊎◌, ◌==◌, nat_le, false, Option, Some, None, inl, inr, ⊎_elim, refl, sym, ap, ◌∙◌, subst, arith}
use Rattle.std.specs.Int.{bit_at}
use Rattle.std.proofs.lemmas.Bool.{true≢false, and_from, cases_lt, le-leb, eq-eqb}
use Rattle.std.proofs.lemmas.Option.{none-some}
use Rattle.heap_words.specs.declared.config.Config.{Config}
use Rattle.heap_words.specs.Words.{Word, Cset, Evac, Ask, Free, Top, Tams, Current, Root, Pin, Count, Buffer, Answer, Grey, Black, Heap, Share}
use Rattle.heap_words.specs.Encoding.{end_in}
use Rattle.heap_words.specs.Ranges.{seat_count}
use Rattle.regions.specs.Place.{region_with, IsOf}
use Rattle.regions.proofs.PlaceLemmas.{regions_tile}
use Rattle.regions.specs.Sets.{IsIn}
use Rattle.shen_graph.specs.declared.pin.Pinned.{Pinned}
use Rattle.shen_graph.specs.Graph.{Graph, Reference}
use Rattle.heap_world.specs.World.{Block, thing, moved, promised, dead, spare, Plot, Ghost, no_snapshot, Points, PinStands, body_of, AreOwned, IsUsable, IsCollected, IsMarkable, HasCopy, AreRoomsOutside, IsEvacuating, body_at}
use Rattle.heap_world.specs.Asking.{Asking, nothing, asks, refused, given, IsAsked}
use Rattle.heap_world.specs.Represents.{Represents}
use Rattle.heap_world.proofs.Pointing.{named_body, copy_cases, piece_inside}
use Rattle.heap_world.proofs.Keeping.{usable_now}
use Rattle.heap_world.proofs.Copies.{counted_none, none_evacuated}
use Rattle.heap_world.proofs.Unmarked.{none_marked_in}
use Rattle.heap_world.proofs.Roomless.{only_spares}
use Rattle.image_graph.proofs.Inside.{buffer_ends, buffer_region_is}
use Rattle.image_graph.specs.State.{IsSomeSeats}
use Rattle.cycle_pauses.specs.Marking.MarkedOut.{IsMarkedOut}
use Rattle.cycle_words.specs.Evacuation.Live.{IsCandidate}
use Rattle.cycle_words.specs.Evacuation.Begun.{is_collected, with_set, evac_started, evac_spared}
use Rattle.cycle_pauses.proofs.Evacuation.Asked.{asked_stays}
use Rattle.cycle_words.proofs.Evacuation.NamingPlaces.{IsPlace}
use Rattle.cycle_words.proofs.Pinned.{PinsOutside, pins_outside, same_pinned}
use Rattle.cycle_pauses.proofs.Evacuation.PinsKept.{pin_same}
use Rattle.cycle_pauses.proofs.Evacuation.ClearingInTurn.{IsClearing}

-- whoever is promised an object was given it, and its answer says where it is
promise_is_answer : (memory : Word → ℕ) (block : Plot) (count : ℕ → ℕ) (seat : ℕ) (asking : Asking) → IsAsked memory block count seat asking → (address words : ℕ) → block address ≡ Some (promised seat words) → address ≡ memory (Answer seat)
promise_is_answer memory block count seat nothing asked address words promise_there = absurd (asked.2 address words promise_there)
promise_is_answer memory block count seat (asks refs nums) asked address words promise_there = absurd (asked.2 address words promise_there)
promise_is_answer memory block count seat refused asked address words promise_there = absurd (asked.2 address words promise_there)
promise_is_answer memory block count seat (given refs nums) asked address words promise_there = asked.2.only address words promise_there

-- a dead object is nothing that is marked
no_dead : (block : Plot) (address words : ℕ) → block address ≡ Some (dead words) → IsMarkable block address → ⊥
no_dead block address words dead_there (IsMarkable.object name refs nums live_there) = let differ = sym dead_there ∙ live_there in cc
no_dead block address words dead_there (IsMarkable.to_come seat promised_words live_there) = let differ = sym dead_there ∙ live_there in cc

module _ (config : Config) (memory : Word → ℕ) (block : Plot) (ghost : Ghost) (graph : Graph) (asking : ℕ → Asking) (marked_out : IsMarkedOut config memory block ghost graph asking) where
  -- the ghost state, without a snapshot
  abbrev bare : Ghost
  bare = record {
    owner = ghost.owner;
    snapshot = no_snapshot;
    recording = ghost.recording;
    scanning = ghost.scanning;
    copying = ghost.copying;
    working = ghost.working;
  }

  -- A region where a buffer ends is some seat's.
  ends_somewhere : (seat : ℕ) → memory (Current seat) ≢ 0 → IsSomeSeats config memory (region_with config (end_in (memory (Current seat)) - 1))
  ends_somewhere seat positive =
      let buffer = marked_out.owned.buffers.each seat positive in
      let top_low = marked_out.parsable.plotted.tops buffer.region buffer.within in
      let region_is = buffer_region_is config (λ region. memory (Top region)) block seat (memory (Current seat)) buffer top_low in
      inr (
        seat,
        ⊎_elim (λ (seat_below : seat < seat_count config.mutators config.helpers). seat_below) (λ (seat_past : seat_count config.mutators config.helpers ≤ seat). absurd (positive (marked_out.seated seat seat_past))) (cases_lt seat (seat_count config.mutators config.helpers)),
        (positive, subst (λ region. IsOf config region (end_in (memory (Current seat)) - 1)) (sym region_is) (buffer_ends config (λ region. memory (Top region)) block seat (memory (Current seat)) buffer top_low)),
      )

  -- the free words of a buffer lie where it ends
  spare_region : (address seat words : ℕ) → block address ≡ Some (spare seat words) → (memory (Current seat) ≢ 0) × (region_with config address ≡ region_with config (end_in (memory (Current seat)) - 1))
  spare_region address seat words spare_there =
      let own_buffer = marked_out.owned.buffers.spares address seat words spare_there in
      let spare_words = marked_out.owned.rooms.spares address seat words spare_there in
      let used = marked_out.parsable.plotted.in_use address (spare seat words) spare_there in
      let top_low = marked_out.parsable.plotted.tops used.region used.within in
      let low = used.from_base in
      let high = used.to_top in
      let end = own_buffer.1 in (
        λ no_buffer. (let zero_end : end_in (memory (Current seat)) ≡ 0 = ap end_in no_buffer in omega (arith, zero_end, end, spare_words)),
        regions_tile.of_no_other config used.region address (record { from = low; before = omega (arith, high, top_low, spare_words) })
            ∙ sym (regions_tile.of_no_other config used.region (end_in (memory (Current seat)) - 1) (record { from = omega (arith, low, end, spare_words); before = omega (arith, high, top_low, end, spare_words) })),
      )

  -- So neither lies in a set of candidates, ..
  rooms_away : (candidate_set : ℕ) → ((region : ℕ) → IsIn candidate_set region → (region < config.regions) × IsCandidate config memory region) → AreRoomsOutside config candidate_set block
  rooms_away candidate_set candidates address seat piece piece_there room member =
      let is_spare = only_spares block marked_out.unmoved.no_hand marked_out.unmoved.no_carved address seat piece piece_there room in
      let spare_place = spare_region address seat is_spare.0 (piece_there ∙ ap Some is_spare.1) in
      (candidates (region_with config address) member).1.nobodys (subst (IsSomeSeats config memory) (sym spare_place.1) (ends_somewhere seat spare_place.0))

  -- .. nor does the region that is shared.
  owned_away : (candidate_set : ℕ) → ((region : ℕ) → IsIn candidate_set region → (region < config.regions) × IsCandidate config memory region)
      → AreOwned config (λ region. memory (Top region)) (memory Share) (memory Free) candidate_set (λ seat. memory (Current seat)) block ghost.owner
  owned_away candidate_set candidates = record {
    free_word = marked_out.owned.free_word;
    shared_one = λ asked_region shared_region.
        let was_shared = marked_out.owned.shared_one asked_region shared_region in
        record { within = was_shared.within; in_use = was_shared.in_use; nobodys = was_shared.nobodys; outside = λ member. (candidates asked_region member).1.nobodys (inl shared_region) };
    rooms = marked_out.owned.rooms;
    buffers = marked_out.owned.buffers;
    outside = λ seat has_buffer member. (candidates (region_with config (end_in (memory (Current seat)) - 1)) member).1.nobodys (ends_somewhere seat has_buffer);
  }

  -- Nor does what a slot holds, since a candidate is not pinned.
  pins_away : (candidate_set : ℕ) → ((region : ℕ) → IsIn candidate_set region → (region < config.regions) × IsCandidate config memory region) → PinsOutside config (with_set memory candidate_set)
  pins_away candidate_set candidates =
      pins_outside config (with_set memory candidate_set) (λ region region_pinned. same_pinned config memory (with_set memory candidate_set) (λ t i. refl) region ∙ (candidates region region_pinned).1.unpinned)

  -- it may be used, for nothing has been copied yet
  pin_before : (candidate_set word : ℕ) (held_pin : Option Pinned) → is_collected config (with_set memory candidate_set) word ≡ false → PinStands config (memory Cset) (memory Evac) block word held_pin → PinStands config candidate_set 0 block word held_pin
  pin_before candidate_set word None outside pin_stands = pin_stands
  pin_before candidate_set word (Some pinned) outside pin_stands =
      let lies_inside = piece_inside config (λ region. memory (Top region)) block marked_out.parsable.plotted word (thing pinned.name pin_stands.1 pin_stands.2) pin_stands.3.piece in (
        pin_stands.0,
        pin_stands.1,
        pin_stands.2,
        record {
          piece = pin_stands.3.piece;
          safe = λ member. absurd (true≢false
              (sym (and_from (nat_le config.region_words word) (bit_at candidate_set (region_with config word) == 1) (le-leb config.region_words word lies_inside.0) (eq-eqb (bit_at candidate_set (region_with config word)) 1 member)) ∙ outside));
        },
      )

  -- Before the first turn, with a set of candidates.
  pub clearing_begins : (candidate_set : ℕ) → ((region : ℕ) → IsIn candidate_set region → (region < config.regions) × IsCandidate config memory region)
      → IsClearing config (with_set memory candidate_set) (with_set memory candidate_set) block ghost.owner graph asking
  clearing_begins candidate_set candidates = record {
    between = record {
      parsable = marked_out.parsable;
      contents = marked_out.contents;
      owned = owned_away candidate_set candidates;
      unwritten = marked_out.unwritten;
      moves = record {
        moveds = λ address refs nums target name piece_there. absurd (marked_out.unmoved.no_moved address refs nums target name piece_there);
        spents = λ address words target piece_there. absurd (marked_out.unmoved.no_spent address words target piece_there);
      };
      unheld = marked_out.unmoved.no_hand;
      uncarved = marked_out.unmoved.no_carved;
      no_rooms = rooms_away candidate_set candidates;
      promised_to = marked_out.promised_to;
      in_heap = λ region piece_there. (candidates region piece_there).0;
      used = λ region region_free piece_there. let in_use = (candidates region piece_there).1.in_use in omega (arith, region_free, in_use);
      nobodys = λ region seat owned piece_there. none-some seat (sym (marked_out.nobodys region) ∙ owned);
      no_new = λ region piece_there. (candidates region piece_there).1.no_new;
      marked = marked_out.marked.objects;
      young = marked_out.marked.young;
      floors = marked_out.marked.floors;
      unmarked = λ place words piece_there mark.
          let above = piece_inside config (λ region. memory (Top region)) block marked_out.parsable.plotted place (dead words) piece_there in
          no_dead block place words piece_there (marked_out.marked.only place above.0 mark);
      deads = marked_out.marked.deads;
      only = λ place above mark inside. inl (marked_out.marked.only place above mark);
    };
    roots = marked_out.roots;
    asked = λ asked_mutator inside. asked_stays memory (with_set memory candidate_set) block block graph.count asked_mutator refl refl (λ place words offset piece_there offset_below. refl) (λ place words piece_there. piece_there) (λ place words piece_there. piece_there) (asking asked_mutator) (marked_out.asked asked_mutator inside);
    same = λ word fixed not_naming. refl;
    pinned = λ mutator slot inside few. pin_before candidate_set (memory (Pin mutator slot)) (graph.pin (mutator + 1) slot) (pins_away candidate_set candidates mutator slot inside few) (marked_out.pinned mutator slot inside few);
    apart = pins_away candidate_set candidates;
  }

  -- After the last one, where roots and answers name nothing in the set.
  module _ (candidate_set : ℕ) (cleared_memory : Word → ℕ) (plot : Plot) (clearing : IsClearing config (with_set memory candidate_set) cleared_memory plot ghost.owner graph asking)
      (cleared : (place : Word) → IsPlace config place → is_collected config (with_set memory candidate_set) (cleared_memory place) ≡ false) where
    abbrev now : Word → ℕ
    now = evac_started cleared_memory

    set_is : cleared_memory Cset ≡ candidate_set
    set_is = clearing.same Cset (λ never. never) (λ never. never)

    -- so no piece that one of them names lies there
    away : (place : Word) → IsPlace config place → config.region_words ≤ cleared_memory place → IsCollected config (cleared_memory Cset) (cleared_memory place) → ⊥
    away place is_place place_high inside =
        let member : bit_at candidate_set (region_with config (cleared_memory place)) ≡ 1 = subst (λ cset. IsCollected config cset (cleared_memory place)) set_is inside in
        true≢false
        (sym (and_from (nat_le config.region_words (cleared_memory place)) (bit_at candidate_set (region_with config (cleared_memory place)) == 1) (le-leb config.region_words (cleared_memory place) place_high)
        (eq-eqb (bit_at candidate_set (region_with config (cleared_memory place))) 1 member))
        ∙ cleared place is_place)

    no_promises : (address seat words : ℕ) → plot address ≡ Some (promised seat words) → IsCollected config (cleared_memory Cset) address → ⊥
    no_promises address seat words promise_there inside =
        let mutator = clearing.between.promised_to address seat words promise_there in
        let answer_here : address ≡ cleared_memory (Answer seat) = promise_is_answer cleared_memory plot graph.count seat (asking seat) (clearing.asked seat mutator) address words promise_there in
        let lies_inside = piece_inside config (λ region. cleared_memory (Top region)) plot clearing.between.parsable.plotted address (promised seat words) promise_there in
        away (Answer seat) mutator (omega (arith, lies_inside.0, answer_here)) (subst (IsCollected config (cleared_memory Cset)) answer_here inside)

    usable : (mutator index : ℕ) → mutator < config.mutators → index < 16 → IsUsable config (cleared_memory Cset) 0 plot (cleared_memory (Root mutator index))
    usable mutator index inside index_low = of_reference (graph.root (mutator + 1) index) (clearing.roots mutator index inside index_low)
      where
        outside : (piece : Block) → plot (cleared_memory (Root mutator index)) ≡ Some piece → IsCollected config (cleared_memory Cset) (cleared_memory (Root mutator index)) → ⊥
        outside piece piece_there = (let lies_inside = piece_inside config (λ region. cleared_memory (Top region)) plot clearing.between.parsable.plotted (cleared_memory (Root mutator index)) piece piece_there in away (Root mutator index) (inside, index_low) lies_inside.0)

        of_reference : (reference : Reference) → Points plot (cleared_memory (Root mutator index)) reference → IsUsable config (cleared_memory Cset) 0 plot (cleared_memory (Root mutator index))
        of_reference None is_null = inl is_null
        of_reference (Some name) points =
            let body = named_body (plot (cleared_memory (Root mutator index))) name points in
            ⊎_elim
            (λ (current : plot (cleared_memory (Root mutator index)) ≡ Some (thing name body.0 body.1)).
            inr (name, body.0, body.1, record { piece = current; safe = λ collected. absurd (outside (thing name body.0 body.1) current collected) }))
            (λ (old : (target : ℕ) × (plot (cleared_memory (Root mutator index)) ≡ Some (moved name body.0 body.1 target))).
            absurd (outside (moved name body.0 body.1 old.0) old.1 (clearing.between.moves.moveds (cleared_memory (Root mutator index)) body.0 body.1 old.0 name old.1).inside))
            (copy_cases (plot (cleared_memory (Root mutator index))) (body_of name body.0 body.1) body.2)

    has_copy : (address : ℕ) → IsCollected config (cleared_memory Cset) address → IsMarkable plot address ⊎ HasCopy plot address → HasCopy plot address
    has_copy address inside (inl (IsMarkable.object name refs nums markable_there)) = HasCopy.copy (body_of name refs nums) (ap body_at markable_there)
    has_copy address inside (inl (IsMarkable.to_come seat words markable_there)) = absurd (no_promises address seat words markable_there inside)
    has_copy address inside (inr copy_kept) = copy_kept

    pub evacuation_starts : Represents config now graph asking
    evacuation_starts = record {
      block = plot;
      ghost = bare;
      shared = record {
        parsable = clearing.between.parsable;
        contents = clearing.between.contents;
        owned = clearing.between.owned;
        phased = record { phase_is = omega arith; cset_is = λ low. absurd (omega (arith, low)); evac_is = λ other_phase. refl };
        unwritten = clearing.between.unwritten;
        marked = none_marked_in config 2 (λ number. now (Grey number)) (λ number. now (Black number)) (λ mutator. now (Count mutator)) (λ mutator entry. now (Buffer mutator entry)) (λ region. now (Top region)) (λ region. now (Tams region)) (λ address. now (Heap address)) plot
            ghost.recording ghost.scanning (λ is. omega (arith, is));
        evacuated = record {
          moved = clearing.between.moves;
          counted = counted_none config ghost.copying marked_out.uncopying.copies_none;
          aside = record {
            in_heap = clearing.between.in_heap;
            in_use = clearing.between.used;
            nobodys = clearing.between.nobodys;
            no_new = clearing.between.no_new;
            no_promises = no_promises;
            no_rooms = clearing.between.no_rooms;
          };
          kept = λ on. record {
            objects = clearing.between.marked;
            young = clearing.between.young;
            floors = clearing.between.floors;
            unmarked = clearing.between.unmarked;
            deads = clearing.between.deads;
            only = λ address address_high mark inside. has_copy address inside (clearing.between.only address address_high mark inside);
          };
          units = λ on given_region below. absurd (omega (arith, below));
        };
        updated = λ on. absurd (omega (arith, on));
        pinned = λ seat slot inside few.
            pin_same config candidate_set 0 (cleared_memory Cset) 0 plot (memory (Pin seat slot)) (cleared_memory (Pin seat slot)) (graph.pin (seat + 1) slot) (sym set_is) refl (sym (clearing.same (Pin seat slot) (λ never. never) (λ never. never))) (clearing.pinned seat slot inside few);
      };
      roots = clearing.roots;
      usable = usable;
      none = clearing.between.unheld;
      uncarved = clearing.between.uncarved;
      asked = λ seat inside. asked_stays cleared_memory now plot plot graph.count seat refl refl (λ place words value is below. refl) (λ place words is. is) (λ place words is. is) (asking seat) (clearing.asked seat inside);
      heard = λ seat refs nums inside is. ap (λ value. bit_at value 1) (clearing.same Ask (λ never. never) (λ never. never)) ∙ marked_out.heard seat refs nums inside is;
      promised_to = clearing.between.promised_to;
      unmarking = record { records_none = marked_out.unmarking.records_none; scans_none = marked_out.unmarking.scans_none };
      uncopying = record { copies_none = marked_out.uncopying.copies_none; works_none = marked_out.uncopying.works_none };
      no_more = marked_out.no_more;
      no_more_pins = marked_out.no_more_pins;
    }

  -- Where no region is chosen.
  abbrev idle : Word → ℕ
  idle = evac_spared memory

  pub cycle_ends : Represents config idle graph asking
  cycle_ends = record {
    block = block;
    ghost = bare;
    shared = record {
      parsable = marked_out.parsable;
      contents = marked_out.contents;
      owned = subst (λ set. AreOwned config (λ region. memory (Top region)) (memory Share) (memory Free) set (λ seat. memory (Current seat)) block ghost.owner) marked_out.cset_is marked_out.owned;
      phased = record { phase_is = omega arith; cset_is = λ other_phase. refl; evac_is = λ other_phase. marked_out.evac_is };
      unwritten = marked_out.unwritten;
      marked = none_marked_in config 0 (λ number. idle (Grey number)) (λ number. idle (Black number)) (λ mutator. idle (Count mutator)) (λ mutator entry. idle (Buffer mutator entry)) (λ region. idle (Top region)) (λ region. idle (Tams region)) (λ address. idle (Heap address)) block
          ghost.recording ghost.scanning (λ is. omega (arith, is));
      evacuated = subst
          (λ evac. IsEvacuating config 0 0 evac 0 (idle Free) (λ region. idle (Top region)) (λ region. idle (Tams region)) (λ address. idle (Heap address)) (λ number. idle (Black number)) block ghost.owner ghost.copying ghost.working)
          (sym marked_out.evac_is)
          (none_evacuated config 0 0 (idle Free) (λ region. idle (Top region)) (λ region. idle (Tams region)) (λ address. idle (Heap address)) (λ number. idle (Black number)) block ghost.owner ghost.copying ghost.working (λ is. omega (arith, is))
          marked_out.unmoved.no_moved marked_out.unmoved.no_spent marked_out.uncopying.copies_none);
      updated = λ on. absurd (omega (arith, on));
      pinned = λ asked_mutator slot inside few.
          pin_same config (memory Cset) (memory Evac) 0 (memory Evac) block (memory (Pin asked_mutator slot)) (memory (Pin asked_mutator slot)) (graph.pin (asked_mutator + 1) slot) marked_out.cset_is refl refl (marked_out.pinned asked_mutator slot inside few);
    };
    roots = marked_out.roots;
    usable = λ mutator index inside few. usable_now config (memory Evac) block (λ address refs nums copy_address name. marked_out.unmoved.no_moved address refs nums copy_address name) (memory (Root mutator index)) (graph.root (mutator + 1) index) (marked_out.roots mutator index inside few);
    none = marked_out.unmoved.no_hand;
    uncarved = marked_out.unmoved.no_carved;
    asked = λ asked_mutator inside. asked_stays memory idle block block graph.count asked_mutator refl refl (λ place words offset is offset_below. refl) (λ place words is. is) (λ place words is. is) (asking asked_mutator) (marked_out.asked asked_mutator inside);
    heard = marked_out.heard;
    promised_to = marked_out.promised_to;
    unmarking = record { records_none = marked_out.unmarking.records_none; scans_none = marked_out.unmarking.scans_none };
    uncopying = record { copies_none = marked_out.uncopying.copies_none; works_none = marked_out.uncopying.works_none };
    no_more = marked_out.no_more;
    no_more_pins = marked_out.no_more_pins;
  }
