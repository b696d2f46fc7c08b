-- The words once a cycle is over: they stand for the graph while no cycle runs.
use Rattle.heap_words.specs.Phases.{evacuation_phase, idle_phase}
use Rattle.std.proofs.Common.{◌≡◌, ◌≢◌, ℕ, ◌+◌, ◌*◌, ◌<◌, ◌≤◌, ◌==◌, ◌&&◌, Bool, true, false, not, Option, zero, suc, cond, ⊎_elim, refl, sym, ap, ◌∙◌, subst, arith}
use Rattle.std.specs.Int.{bit_at}
use Rattle.std.specs.Int.Bits.{or_zero_r}
use Rattle.std.proofs.Math.Path.{fun_ext}
use Rattle.std.proofs.lemmas.Bool.{cond-false, cases_lt, ne_eqb, and_left}
use Rattle.std.specs.Prelude.{bit_or}
use Rattle.heap_words.specs.declared.config.Config.{Config}
use Rattle.heap_words.specs.Words.{Word, Pause, Left, End, State, Phase, Cset, Free, Evac, Claim, Ask, Top, Tams, Limit, Current, Root, Pin, Count, Buffer, Wait, Answer, Grey, Black, Heap, Share}
use Rattle.heap_words.specs.Encoding.{filler_header, object_words}
use Rattle.regions.specs.Place.{region_with}
use Rattle.shen_graph.specs.Graph.{Graph}
use Rattle.heap_world.specs.World.{Plot, no_ghost, with_owner, HasNoRoom, AreOwned, IsCollected, IsEvacuating, IsUsable}
use Rattle.heap_world.specs.Asking.{Asking, asks}
use Rattle.heap_world.specs.Roots.{HasNoMoreRoots, HasNoMorePins}
use Rattle.heap_world.specs.Represents.{Represents}
use Rattle.heap_world.proofs.Copies.{none_in_0, none_is_in, none_evacuated}
use Rattle.heap_world.proofs.Keeping.{usable_now}
use Rattle.heap_world.proofs.Unmarked.{none_marked_in}
use Rattle.image_graph.specs.LetGo.{HasNoBuffers}
use Rattle.image_graph.proofs.LooseKept.{none_have_room}
use Rattle.cycle_words.specs.Marking.Marks.{bits_of}
use Rattle.cycle_pauses.proofs.Evacuation.Asked.{asked_stays}
use Rattle.image_graph.specs.Pinned.{is_pinned, begins}
use Rattle.cycle_pauses.proofs.Evacuation.PinsKept.{pin_same}
use Rattle.cycle_words.specs.Updating.Changes.{is_chosen}
use Rattle.cycle_words.specs.Finishing.Updated.{updated_word, is_kept_field, all_updated}
use Rattle.cycle_words.specs.Finishing.Copies.{copied_from, all_copied, is_room_for_all}
use Rattle.cycle_words.specs.Finishing.Finish.{is_to_free, is_to_stay, has_moved, set_freed, cycle_finished}
use Rattle.cycle_words.proofs.Finishing.Fields.{collected_none, word_spared}
use Rattle.cycle_pauses.specs.Finishing.Copying.{IsCopiedAll}
use Rattle.cycle_pauses.proofs.Finishing.CopyingKeeps.{copying_begins, copying_keeps, left_pinned}
use Rattle.cycle_pauses.proofs.Finishing.Leaving as leaving
use Rattle.cycle_pauses.proofs.Finishing.Serving.{IsIdle}

-- Such words represent the graph.
pub idle_represents : (config : Config) (memory : Word → ℕ) (block : Plot) (owner : ℕ → Option ℕ) (graph : Graph) (asking : ℕ → Asking) → IsIdle config memory block owner graph asking
    → memory Phase ≡ idle_phase → memory Cset ≡ 0 → memory Evac ≡ 0 → ((mutator refs nums : ℕ) → mutator < config.mutators → asking mutator ≡ asks refs nums → bit_at (memory Ask) 1 ≡ 1) → HasNoMoreRoots config.mutators graph → HasNoMorePins config.mutators graph → Represents config memory graph asking
idle_represents config memory block owner graph asking idle no_phase no_cset no_evac heard no_more no_more_pins = record {
  block = block;
  ghost = with_owner no_ghost owner;
  shared = record {
    parsable = idle.parsable;
    contents = idle.contents;
    owned = idle.owned;
    phased = record { phase_is = omega (arith, no_phase); cset_is = λ low. no_cset; evac_is = λ not_moving. no_evac };
    unwritten = idle.unwritten;
    marked = none_marked_in config (memory Phase) (λ number. memory (Grey number)) (λ number. memory (Black number)) (λ mutator. memory (Count mutator)) (λ mutator entry. memory (Buffer mutator entry)) (λ region. memory (Top region)) (λ region. memory (Tams region)) (λ address. memory (Heap address)) block
        no_ghost.recording no_ghost.scanning (λ in_phase. omega (arith, in_phase, no_phase));
    evacuated =
        subst (λ any_set. IsEvacuating config (memory Phase) any_set (memory Evac) (memory Claim) (memory Free) (λ region. memory (Top region)) (λ region. memory (Tams region)) (λ address. memory (Heap address)) (λ number. memory (Black number)) block owner no_ghost.copying no_ghost.working) (sym no_cset)
        (subst (λ evac. IsEvacuating config (memory Phase) 0 evac (memory Claim) (memory Free) (λ region. memory (Top region)) (λ region. memory (Tams region)) (λ address. memory (Heap address)) (λ number. memory (Black number)) block owner no_ghost.copying no_ghost.working) (sym no_evac)
        (none_evacuated config (memory Phase) (memory Claim) (memory Free) (λ region. memory (Top region)) (λ region. memory (Tams region)) (λ address. memory (Heap address)) (λ number. memory (Black number)) block owner no_ghost.copying no_ghost.working
        (λ in_phase. omega (arith, in_phase, no_phase)) idle.unmoved.no_moved idle.unmoved.no_spent (λ seat seated. refl)));
    updated = λ is_updating. absurd (omega (arith, is_updating, no_phase));
    pinned = idle.pinned;
  };
  roots = idle.roots;
  usable = λ mutator index inside few.
      subst (λ any_set. IsUsable config any_set (memory Evac) block (memory (Root mutator index))) (sym no_cset) (usable_now config (memory Evac) block idle.unmoved.no_moved (memory (Root mutator index)) (graph.root (mutator + 1) index) (idle.roots mutator index inside few));
  none = idle.unmoved.no_hand;
  uncarved = idle.unmoved.no_carved;
  asked = idle.asked;
  heard = heard;
  promised_to = idle.promised_to;
  unmarking = record { records_none = λ seat seated. refl; scans_none = λ seat seated. refl };
  uncopying = record { copies_none = λ seat seated. refl; works_none = λ seat seated. refl };
  no_more = no_more;
  no_more_pins = no_more_pins;
}

-- one of two that are the same
either_way : (holds : Bool) (x y z : ℕ) → x ≡ z → y ≡ z → cond holds x y ≡ z
either_way true x y z first_same second_same = first_same
either_way false x y z first_same second_same = second_same

-- Where there is no collection set nothing is updated, and nothing freed.
module _ (config : Config) (memory : Word → ℕ) (no_set : memory Cset ≡ 0) where
  -- what is left of the cycle is taken away
  abbrev pub settled : Word → ℕ
  settled Phase = 0
  settled Cset = 0
  settled Claim = 0
  settled Evac = 0
  settled Ask = 0
  settled word = memory word

  word_still : (address : ℕ) → updated_word config memory address ≡ address
  word_still address = word_spared config memory address (collected_none config memory address (λ inside. none_in_0 config address (subst (λ any_set. IsCollected config any_set address) no_set inside)))

  -- the words once references were updated
  abbrev now : Word → ℕ
  now = all_updated config memory

  unchosen : (region : ℕ) → is_chosen memory region ≡ false
  unchosen region = ne_eqb (bit_at (memory Cset) region) 1 (λ bit_set. none_is_in region (subst (λ any_set. bit_at any_set region ≡ 1) no_set bit_set))

  not_freed : (region : ℕ) → is_to_free config now region ≡ false
  not_freed region = and_left (is_chosen memory region) (not (is_pinned config memory region)) (unchosen region)

  not_staying : (region : ℕ) → is_to_stay config now region ≡ false
  not_staying region = and_left (is_chosen memory region) (is_pinned config memory region) (unchosen region)

  no_bits : (first count : ℕ) → bits_of (is_to_free config now) first count ≡ 0
  unfolding bits_of
  no_bits first zero = refl
  no_bits first (suc count) =
      let rest = no_bits first count in
      rw (not_freed (first + count), rest) (omega arith)

  free_still : bit_or (memory Free) (bits_of (is_to_free config now) 0 config.regions) ≡ memory Free
  free_still = ap (bit_or (memory Free)) (no_bits 0 config.regions) ∙ or_zero_r (memory Free)

  kept_word : (region bits : ℕ) → cond (is_to_free config now region) 0 bits ≡ bits
  kept_word region bits = cond-false (is_to_free config now region) 0 bits (not_freed region)

  heap_word : (address : ℕ) → now (Heap address) ≡ memory (Heap address)
  heap_word address = either_way (is_kept_field config memory address) (updated_word config memory (memory (Heap address))) (memory (Heap address)) (memory (Heap address)) (word_still (memory (Heap address))) refl

  pub settled_is : (word : Word) → set_freed config (all_updated config memory) word ≡ settled word
  settled_is Phase = refl
  settled_is Cset = refl
  settled_is Claim = refl
  settled_is Evac = refl
  settled_is Ask = refl
  settled_is Free = free_still
  settled_is (Top region) = kept_word region (memory (Top region))
  settled_is (Tams region) = kept_word region (memory (Tams region))
  settled_is (Limit region) = kept_word region (memory (Limit region))
  settled_is (Heap address) =
      cond-false (is_to_stay config now (region_with config address) && begins config now address && has_moved now address) (filler_header (object_words (now (Heap (address + 1))))) (now (Heap address))
      (and_left (is_to_stay config now (region_with config address) && begins config now address) (has_moved now address) (and_left (is_to_stay config now (region_with config address)) (begins config now address) (not_staying (region_with config address))))
      ∙ heap_word address
  settled_is (Root mutator index) = word_still (memory (Root mutator index))
  settled_is (Pin mutator slot) = refl
  settled_is (Answer mutator) = word_still (memory (Answer mutator))
  settled_is Pause = refl
  settled_is Left = refl
  settled_is End = refl
  settled_is (State seat) = refl
  settled_is (Current seat) = refl
  settled_is (Count mutator) = refl
  settled_is (Buffer mutator entry) = refl
  settled_is (Wait mutator) = refl
  settled_is (Grey number) = refl
  settled_is (Black number) = refl
  settled_is Share = refl

  pub settled_idle : (graph : Graph) (asking : ℕ → Asking) (represents : Represents config memory graph asking) → memory Phase ≢ evacuation_phase → IsIdle config (set_freed config (all_updated config memory)) represents.block represents.ghost.owner graph asking
  settled_idle graph asking represents not_moving = subst (λ memory. IsIdle config memory represents.block represents.ghost.owner graph asking) (sym (fun_ext settled_is)) (record {
    parsable = represents.shared.parsable;
    contents = represents.shared.contents;
    owned = subst (λ any_set. AreOwned config (λ region. memory (Top region)) (memory Share) (memory Free) any_set (λ seat. memory (Current seat)) represents.block represents.ghost.owner) no_set represents.shared.owned;
    unwritten = represents.shared.unwritten;
    unmoved = record {
      no_moved = λ address refs nums target name piece_there. none_in_0 config address (subst (λ any_set. IsCollected config any_set address) no_set (represents.shared.evacuated.moved.moveds address refs nums target name piece_there).inside);
      no_spent = λ address words target piece_there. none_in_0 config address (subst (λ any_set. IsCollected config any_set address) no_set (represents.shared.evacuated.moved.spents address words target piece_there).inside);
      no_hand = represents.none;
      no_carved = represents.uncarved;
    };
    roots = represents.roots;
    pinned = λ mutator slot inside few.
        pin_same config (memory Cset) (memory Evac) 0 0 represents.block (memory (Pin mutator slot)) (memory (Pin mutator slot)) (graph.pin (mutator + 1) slot) no_set (represents.shared.phased.evac_is not_moving) refl (represents.shared.pinned mutator slot inside few);
    asked = λ mutator inside. asked_stays memory settled represents.block represents.block graph.count mutator refl refl (λ place words index piece_there index_below. refl) (λ place words piece_there. piece_there) (λ place words piece_there. piece_there) (asking mutator) (represents.asked mutator inside);
    promised_to = represents.promised_to;
  })

-- Where nobody has a buffer and all that was left found room, the words stand for the graph while no cycle runs.
module _ (config : Config) (memory : Word → ℕ) (graph : Graph) (asking : ℕ → Asking) (represents : Represents config memory graph asking) (bare : HasNoBuffers config memory) where
  copied_all : IsCopiedAll config memory graph asking
  copied_all = copying_keeps config memory graph asking represents

  abbrev Idle : Type 0
  Idle = (plot : Plot) × (owner : ℕ → Option ℕ) × IsIdle config (cycle_finished config memory) plot owner graph asking

  -- so no piece is room
  no_room : HasNoRoom copied_all.stands.block
  no_room = none_have_room config (all_copied config memory) graph asking copied_all.stands (λ seat seat_below. copied_all.same (Current seat) (λ never. never) ∙ bare seat seat_below)

  -- while objects are evacuated or references updated
  in_cycle : 2 ≤ memory Phase → is_room_for_all config memory ≡ true → Idle
  in_cycle at_most room =
      let phase = copied_all.same Phase (λ never. never) in
      let stands = copied_all.stands in
      let copies = copying_begins config (all_copied config memory) graph asking stands (omega (arith, at_most, phase)) in
      let pinned = left_pinned config memory graph asking copied_all room in (
        leaving.plot config (all_copied config memory) stands.block stands.ghost.owner graph asking config.region_words copies pinned no_room,
        stands.ghost.owner,
        leaving.left_idle config (all_copied config memory) stands.block stands.ghost.owner graph asking config.region_words copies pinned no_room,
      )

  -- where there is no collection set
  copied_else : memory Phase ≢ evacuation_phase → all_copied config memory ≡ memory
  copied_else not_moving = fun_ext (λ word. cond-false (memory Phase == evacuation_phase) (copied_from config memory config.region_words (config.regions * config.region_words) word) (memory word) (ne_eqb (memory Phase) 2 not_moving))

  out_of_cycle : memory Phase < 2 → Idle
  out_of_cycle low =
      let empty_set = represents.shared.phased.cset_is low in (
        represents.block,
        represents.ghost.owner,
        subst (λ copied_memory. IsIdle config (set_freed config (all_updated config copied_memory)) represents.block represents.ghost.owner graph asking) (sym (copied_else (λ is_moving. omega (arith, is_moving, low)))) (settled_idle config memory empty_set graph asking represents (λ is_moving. omega (arith, is_moving, low))),
      )

  pub finished_idle : is_room_for_all config memory ≡ true → (plot : Plot) × (owner : ℕ → Option ℕ) × IsIdle config (cycle_finished config memory) plot owner graph asking
  finished_idle room = ⊎_elim
      (λ (low : memory Phase < 2). out_of_cycle low)
      (λ (under_way : 2 ≤ memory Phase). in_cycle under_way room)
      (cases_lt (memory Phase) 2)
