-- Words that represent a graph do so by copies once all that is left in the collection set was copied out, or what found room.
use Rattle.heap_words.specs.Phases.{evacuation_phase, updating_phase}
use Rattle.std.proofs.Common.{◌≡◌, ◌≢◌, ℕ, ◌+◌, ◌*◌, ◌≤◌, ◌==◌, ◌⊎◌, Bool, true, false, Some, inl, inr, ⊎_elim, refl, sym, ap, ◌∙◌, subst, arith}
use Rattle.std.specs.Int.{bit_at}
use Rattle.std.proofs.Math.Path.{fun_ext}
use Rattle.std.proofs.lemmas.Option.{none-some}
use Rattle.std.proofs.lemmas.Bool.{cases_Bool, cases_eq, cond-true, cond-false, eq-eqb, ne_eqb}
use Rattle.heap_words.specs.declared.config.Config.{Config}
use Rattle.heap_words.specs.Words.{Word, Phase, Cset, Free, Evac, Claim, Ask, Top, Tams, Pin, Count, Buffer, Grey, Black, Heap}
use Rattle.regions.specs.Place.{base_of, region_with}
use Rattle.shen_graph.specs.declared.name.Name.{Name}
use Rattle.shen_graph.specs.Graph.{Graph}
use Rattle.heap_world.specs.World.{thing, Plot, Ghost, no_snapshot, body_of, body_at, IsCollected, IsMarkable, HasCopy, IsCounted, IsSweptTo, IsCaredFor, IsEvacuating}
use Rattle.heap_world.specs.Asking.{Asking}
use Rattle.heap_world.specs.Represents.{Represents, RepresentsByCopies}
use Rattle.heap_world.proofs.Pointing.{piece_inside}
use Rattle.heap_world.proofs.Copies.{none_in_0}
use Rattle.heap_world.proofs.Unmarked.{none_marked_in}
use Rattle.image_graph.specs.Pinned.{is_pinned}
use Rattle.cycle_words.specs.Evacuation.Copied.{MayChange}
use Rattle.cycle_pauses.proofs.Evacuation.PinsKept.{pin_same}
use Rattle.cycle_pauses.proofs.Full.ByCopies.{by_copies}
use Rattle.cycle_words.specs.Finishing.Copies.{CanCopyFrom, copied_from, is_room_from, all_copied, is_room_for_all}
use Rattle.cycle_words.proofs.Pinned.{same_pinned}
use Rattle.cycle_pauses.specs.Finishing.Copying.{IsCopiedAll, CopyingKeeps, LeftCanBeCopied}
use Rattle.cycle_pauses.proofs.Finishing.Copying.{IsCopying, all_passed, can_copy_from}

-- What is shown of words after copying, and of whether all found room.
record StandsByCopies (config : Config) (memory after : Word → ℕ) (room : Bool) (graph : Graph) (asking : ℕ → Asking) : Type 0 where
  stands : RepresentsByCopies config after graph asking
  none_left : room ≡ true → (address refs nums : ℕ) (name : Name) → stands.block address ≡ Some (thing name refs nums) → IsCollected config (after Cset) address → is_pinned config memory (region_with config address) ≡ true
  same : (word : Word) → (MayChange word → ⊥) → after word ≡ memory word

-- Words that represent a graph by copies, in phases 2 and 3, are as before the first object is copied.
module _ (config : Config) (memory : Word → ℕ) (graph : Graph) (asking : ℕ → Asking) (represents_by_copies : RepresentsByCopies config memory graph asking) (phase_high : 2 ≤ memory Phase) where
  abbrev evacuated : IsEvacuating config (memory Phase) (memory Cset) (memory Evac) (memory Claim) (memory Free) (λ region. memory (Top region)) (λ region. memory (Tams region)) (λ address. memory (Heap address)) (λ number. memory (Black number)) represents_by_copies.block represents_by_copies.ghost.owner represents_by_copies.ghost.copying represents_by_copies.ghost.working
  evacuated = represents_by_copies.shared.evacuated

  -- nobody works, so a unit that is cared for is swept
  swept_of : (region : ℕ) → IsCaredFor config (memory Evac) represents_by_copies.block represents_by_copies.ghost.working region → IsSweptTo config (memory Evac) represents_by_copies.block region (base_of config (region + 1))
  swept_of region (inl swept) = swept
  swept_of region (inr works) = absurd (none-some region (sym (represents_by_copies.uncopying.works_none works.0 works.1) ∙ works.2))

  pub copying_begins : IsCopying config memory memory represents_by_copies.block represents_by_copies.ghost.owner graph asking config.region_words
  copying_begins = record {
    between = record {
      parsable = represents_by_copies.shared.parsable;
      contents = represents_by_copies.shared.contents;
      owned = represents_by_copies.shared.owned;
      unwritten = represents_by_copies.shared.unwritten;
      moves = evacuated.moved;
      unheld = represents_by_copies.none;
      uncarved = represents_by_copies.uncarved;
      no_rooms = evacuated.aside.no_rooms;
      promised_to = represents_by_copies.promised_to;
      in_heap = evacuated.aside.in_heap;
      used = evacuated.aside.in_use;
      nobodys = evacuated.aside.nobodys;
      no_new = evacuated.aside.no_new;
      marked = (evacuated.kept phase_high).objects;
      young = (evacuated.kept phase_high).young;
      floors = (evacuated.kept phase_high).floors;
      unmarked = (evacuated.kept phase_high).unmarked;
      deads = (evacuated.kept phase_high).deads;
      only = λ address address_high mark inside. inr ((evacuated.kept phase_high).only address address_high mark inside);
    };
    roots = represents_by_copies.roots;
    asked = represents_by_copies.asked;
    same = λ word fixed. refl;
    no_promises = evacuated.aside.no_promises;
    pinned = represents_by_copies.shared.pinned;
    swept = λ address refs nums name thing_there member unpinned. (piece_inside config (λ region. memory (Top region)) represents_by_copies.block represents_by_copies.shared.parsable.plotted address (thing name refs nums) thing_there).0;
    units = λ evacuating region region_below member. swept_of region (evacuated.units evacuating region region_below member);
  }

module _ (config : Config) (memory : Word → ℕ) (graph : Graph) (asking : ℕ → Asking) (represents : Represents config memory graph asking) where
  -- While objects are evacuated, what is left is copied.
  module _ (evacuating : memory Phase ≡ evacuation_phase) where
    begins : IsCopying config memory memory represents.block represents.ghost.owner graph asking config.region_words
    begins = copying_begins config memory graph asking (by_copies config memory graph asking represents) (omega (arith, evacuating))

    abbrev room : Bool
    room = is_room_from config memory config.region_words (config.regions * config.region_words)

    abbrev now : Word → ℕ
    now = copied_from config memory config.region_words (config.regions * config.region_words)

    outcome : (plot : Plot) × (passed : ℕ) × IsCopying config memory now plot represents.ghost.owner graph asking passed × (room ≡ true → passed ≡ config.region_words + config.regions * config.region_words)
    outcome = all_passed config memory represents.ghost.owner graph asking (config.regions * config.region_words) memory represents.block config.region_words begins

    abbrev plot : Plot
    plot = outcome.0

    abbrev copying : IsCopying config memory now plot represents.ghost.owner graph asking outcome.1
    copying = outcome.2

    -- the ghost state, without a snapshot
    abbrev bare : Ghost
    bare = record {
      owner = represents.ghost.owner;
      snapshot = no_snapshot;
      recording = represents.ghost.recording;
      scanning = represents.ghost.scanning;
      copying = represents.ghost.copying;
      working = represents.ghost.working;
    }

    on_still : now Phase ≡ evacuation_phase
    on_still = copying.same Phase (λ never. never) ∙ evacuating

    has_copy : (address : ℕ) → IsCollected config (now Cset) address → IsMarkable plot address ⊎ HasCopy plot address → HasCopy plot address
    has_copy address inside (inl (IsMarkable.object name refs nums markable_there)) = HasCopy.copy (body_of name refs nums) (ap body_at markable_there)
    has_copy address inside (inl (IsMarkable.to_come seat words markable_there)) = absurd (copying.no_promises address seat words markable_there inside)
    has_copy address inside (inr copy_kept) = copy_kept

    evacuated_still : IsEvacuating config (now Phase) (now Cset) (now Evac) (now Claim) (now Free) (λ region. now (Top region)) (λ region. now (Tams region)) (λ address. now (Heap address)) (λ number. now (Black number)) plot represents.ghost.owner represents.ghost.copying represents.ghost.working
    evacuated_still = record {
      moved = copying.between.moves;
      counted = subst (λ evac. IsCounted config evac represents.ghost.copying) (sym (copying.same Evac (λ never. never))) represents.shared.evacuated.counted;
      aside = record {
        in_heap = copying.between.in_heap;
        in_use = copying.between.used;
        nobodys = copying.between.nobodys;
        no_new = copying.between.no_new;
        no_promises = copying.no_promises;
        no_rooms = copying.between.no_rooms;
      };
      kept = λ high. record {
        objects = copying.between.marked;
        young = copying.between.young;
        floors = copying.between.floors;
        unmarked = copying.between.unmarked;
        deads = copying.between.deads;
        only = λ address address_high mark inside. has_copy address inside (copying.between.only address address_high mark inside);
      };
      units = λ high asked_region region_below member. inl (copying.units on_still asked_region region_below member);
    }

    stands_by_copies : RepresentsByCopies config now graph asking
    stands_by_copies = record {
      block = plot;
      ghost = bare;
      shared = record {
        parsable = copying.between.parsable;
        contents = copying.between.contents;
        owned = copying.between.owned;
        phased = record { phase_is = omega (arith, on_still); cset_is = λ low. absurd (omega (arith, low, on_still)); evac_is = λ not_evacuating. absurd (not_evacuating on_still) };
        unwritten = copying.between.unwritten;
        marked = none_marked_in config (now Phase) (λ number. now (Grey number)) (λ number. now (Black number)) (λ mutator. now (Count mutator)) (λ mutator entry. now (Buffer mutator entry)) (λ region. now (Top region)) (λ region. now (Tams region)) (λ address. now (Heap address)) plot
            represents.ghost.recording represents.ghost.scanning (λ is. omega (arith, is, on_still));
        evacuated = evacuated_still;
        updated = λ high. absurd (omega (arith, high, on_still));
        pinned = λ seat slot inside few.
            pin_same config (memory Cset) (memory Evac) (now Cset) (now Evac) plot (memory (Pin seat slot)) (now (Pin seat slot)) (graph.pin (seat + 1) slot) (sym (copying.same Cset (λ never. never))) (sym (copying.same Evac (λ never. never)))
            (sym (copying.same (Pin seat slot) (λ never. never))) (copying.pinned seat slot inside few);
      };
      roots = copying.roots;
      usable = tt;
      none = copying.between.unheld;
      uncarved = copying.between.uncarved;
      asked = copying.asked;
      heard = λ seat refs nums inside is. ap (λ ask_bits. bit_at ask_bits 1) (copying.same Ask (λ never. never)) ∙ represents.heard seat refs nums inside is;
      promised_to = copying.between.promised_to;
      unmarking = record { records_none = represents.unmarking.records_none; scans_none = represents.unmarking.scans_none };
      uncopying = record { copies_none = represents.uncopying.copies_none; works_none = represents.uncopying.works_none };
      no_more = represents.no_more;
      no_more_pins = represents.no_more_pins;
    }

    copied_then : StandsByCopies config memory now room graph asking
    unfolding stands_by_copies
    copied_then = record {
      stands = stands_by_copies;
      none_left = λ all_room address refs nums name thing_there member. ⊎_elim
          (λ (pinned : is_pinned config memory (region_with config address) ≡ true). pinned)
          (λ (unpinned : is_pinned config memory (region_with config address) ≡ false).
          let inside = piece_inside config (λ region. now (Top region)) plot copying.between.parsable.plotted address (thing name refs nums) thing_there in
          let still_ahead = copying.swept address refs nums name thing_there member unpinned in
          let end = outcome.3 all_room in
          absurd (omega (arith, inside.1, still_ahead, end)))
          (cases_Bool (is_pinned config memory (region_with config address)));
      same = copying.same;
    }

    -- and it can be
    can_be_copied : CanCopyFrom config memory config.region_words (config.regions * config.region_words)
    can_be_copied = can_copy_from config memory represents.ghost.owner graph asking (config.regions * config.region_words) memory represents.block config.region_words begins

  -- In other phases nothing is left.
  none_in_set : memory Phase ≢ evacuation_phase → (address refs nums : ℕ) (name : Name) → represents.block address ≡ Some (thing name refs nums) → IsCollected config (memory Cset) address → ⊥
  none_in_set not_evacuating address refs nums name thing_there member = ⊎_elim
      (λ (phase_three : memory Phase ≡ updating_phase). (represents.shared.updated phase_three).outside address refs nums name thing_there member)
      (λ (differs : memory Phase ≢ updating_phase).
      let phase_most = represents.shared.phased.phase_is in
      none_in_0 config address (subst (λ set. IsCollected config set address) (represents.shared.phased.cset_is (omega (arith, not_evacuating, differs, phase_most))) member))
      (cases_eq (memory Phase) 3)

  nothing_copied : memory Phase ≢ evacuation_phase → StandsByCopies config memory memory true graph asking
  nothing_copied not_evacuating = record {
    stands = by_copies config memory graph asking represents;
    none_left = λ all_room address refs nums name thing_there member. absurd (none_in_set not_evacuating address refs nums name thing_there member);
    same = λ word fixed. refl;
  }

  copied_in_phase : StandsByCopies config memory (all_copied config memory) (is_room_for_all config memory) graph asking
  copied_in_phase = ⊎_elim
      (λ (evacuating : memory Phase ≡ evacuation_phase).
      let phase_tested = eq-eqb (memory Phase) 2 evacuating in
      let words : all_copied config memory ≡ now evacuating = fun_ext (λ word. cond-true (memory Phase == evacuation_phase) (now evacuating word) (memory word) phase_tested) in
      subst (λ copied_memory. StandsByCopies config memory copied_memory (is_room_for_all config memory) graph asking) (sym words)
      (subst (λ room. StandsByCopies config memory (now evacuating) room graph asking) (sym (cond-true (memory Phase == evacuation_phase) (room evacuating) true phase_tested)) (copied_then evacuating)))
      (λ (not_evacuating : memory Phase ≢ evacuation_phase).
      let phase_tested = ne_eqb (memory Phase) 2 not_evacuating in
      let words : all_copied config memory ≡ memory = fun_ext (λ word. cond-false (memory Phase == evacuation_phase) (copied_from config memory config.region_words (config.regions * config.region_words) word) (memory word) phase_tested) in
      subst (λ copied_memory. StandsByCopies config memory copied_memory (is_room_for_all config memory) graph asking) (sym words)
      (subst (λ room. StandsByCopies config memory memory room graph asking) (sym (cond-false (memory Phase == evacuation_phase) (is_room_from config memory config.region_words (config.regions * config.region_words)) true phase_tested)) (nothing_copied not_evacuating)))
      (cases_eq (memory Phase) 2)

pub copying_keeps : CopyingKeeps
copying_keeps config memory graph asking represents = let copied = copied_in_phase config memory graph asking represents in record { stands = copied.stands; none_left = copied.none_left; same = copied.same }

pub left_can_be_copied : LeftCanBeCopied
left_can_be_copied = can_be_copied

-- Where all found room, what is left in the set lies in pinned regions.
pub left_pinned : (config : Config) (memory : Word → ℕ) (graph : Graph) (asking : ℕ → Asking) (copied_all : IsCopiedAll config memory graph asking) → is_room_for_all config memory ≡ true
    → (address refs nums : ℕ) (name : Name) → copied_all.stands.block address ≡ Some (thing name refs nums) → IsCollected config (all_copied config memory Cset) address → is_pinned config (all_copied config memory) (region_with config address) ≡ true
left_pinned config memory graph asking copied_all room address refs nums name thing_there inside =
    same_pinned config memory (all_copied config memory) (λ mutator slot. copied_all.same (Pin mutator slot) (λ never. never)) (region_with config address) ∙ copied_all.none_left room address refs nums name thing_there inside
