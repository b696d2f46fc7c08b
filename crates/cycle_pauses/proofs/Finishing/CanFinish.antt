-- Words that represent a graph are such that a cycle can be finished.
use Rattle.std.proofs.Common.{◌≡◌, ◌≢◌, ℕ, ◌+◌, ◌*◌, ◌/◌, ◌%◌, ◌^◌, ◌<◌, ◌≤◌, true, Some, ⊎_elim, sym, ap, ◌∙◌, subst, arith}
use Rattle.std.specs.Int.{bit_at}
use Rattle.std.proofs.lemmas.Bool.{cases_eq, cases_lt, and_parts}
use Rattle.std.proofs.lemmas.Nat.{div-add-mod', mod_below, pow_pos}
use Rattle.std.proofs.lemmas.Nat.Bits.{bit_at-lt, bit_at_above, bit_at_cat_low, same_from_bits}
use Rattle.heap_words.specs.declared.config.Config.{Config}
use Rattle.heap_words.specs.Words.{Word, Phase, Cset, Top, Current}
use Rattle.regions.specs.Place.{region_with}
use Rattle.regions.specs.Sets.{IsIn}
use Rattle.shen_graph.specs.declared.name.Name.{Name}
use Rattle.shen_graph.specs.Graph.{Graph}
use Rattle.heap_world.specs.World.{Block, thing, words_of, IsCollected}
use Rattle.heap_world.proofs.Copies.{none_is_in}
use Rattle.heap_world.specs.Asking.{Asking}
use Rattle.heap_world.specs.Represents.{RepresentsByCopies}
use Rattle.heap_world.proofs.Pieces.{some_words}
use Rattle.image_graph.specs.LetGo.{let_go, HasNoBuffers}
use Rattle.image_graph.proofs.LettingGo.{letting_go_leaves}
use Rattle.image_graph.proofs.LooseKept.{letting_go_keeps, none_have_room}
use Rattle.image_graph.proofs.Inside.{buffers_inside}
use Rattle.image_graph.specs.Holds.{AreSized}
use Rattle.image_graph.specs.Pinned.{is_pinned, CanFill}
use Rattle.cycle_words.specs.Updating.Changes.{is_chosen}
use Rattle.cycle_words.specs.Finishing.Updated.{all_updated, CanUpdateAll}
use Rattle.cycle_words.specs.Finishing.Copies.{all_copied}
use Rattle.cycle_words.specs.Finishing.Finish.{CanFree}
use Rattle.cycle_pauses.proofs.Updating.Freeing.{in_set}
use Rattle.cycle_pauses.proofs.Finishing.Updating.{sized_again}
use Rattle.cycle_words.proofs.Finishing.CanUpdate as updates
use Rattle.cycle_pauses.specs.Finishing.Laws.{RepresentingCanFinish}
use Rattle.cycle_words.proofs.Finishing.Strides.{strides}
use Rattle.cycle_pauses.proofs.Full.Sizes.{pieces_sized}
use Rattle.cycle_pauses.proofs.Finishing.CopyingKeeps.{copying_begins, copying_keeps, left_can_be_copied, left_pinned}

-- a number whose bits are all below another one is small
few_bits : (x n : ℕ) → ((bit_index : ℕ) → bit_at x bit_index ≡ 1 → bit_index < n) → x < 2 ^ n
few_bits x n bits_below =
    let low : x % 2 ^ n < 2 ^ n = mod_below x (2 ^ n) (pow_pos n) in
    let split : x / 2 ^ n * 2 ^ n + x % 2 ^ n ≡ x = div-add-mod' x (2 ^ n) in
    let same_number : x ≡ x % 2 ^ n = same_from_bits x (x % 2 ^ n) (λ bit_index. ⊎_elim
    (λ (inside : bit_index < n). ap (λ bits. bit_at bits bit_index) (sym split) ∙ bit_at_cat_low (x / 2 ^ n) n (x % 2 ^ n) bit_index inside)
    (λ (bit_past : n ≤ bit_index). ⊎_elim
    (λ (bit_set : bit_at x bit_index ≡ 1). absurd (let bit_below = bits_below bit_index bit_set in omega (arith, bit_below, bit_past)))
    (λ (bit_clear : bit_at x bit_index ≢ 1).
    let few = bit_at-lt x bit_index in
    let bit_zero : bit_at x bit_index ≡ 0 = omega (arith, few, bit_clear) in
    bit_zero ∙ sym (bit_at_above (x % 2 ^ n) n bit_index low bit_past))
    (cases_eq (bit_at x bit_index) 1))
    (cases_lt bit_index n)) in
    omega (arith, same_number, low)

module _ (config : Config) (memory : Word → ℕ) (graph : Graph) (asking : ℕ → Asking) (represents_by_copies : RepresentsByCopies config memory graph asking) (bare : HasNoBuffers config memory) where
  some : (address : ℕ) (piece : Block) → represents_by_copies.block address ≡ Some piece → 1 ≤ words_of piece
  some = some_words config (λ region. memory (Top region)) represents_by_copies.block represents_by_copies.shared.parsable represents_by_copies.shared.owned.rooms

  -- a piece has as many words as its header or its shape word says
  sized : AreSized memory represents_by_copies.block
  sized = pieces_sized config memory represents_by_copies.block graph.object represents_by_copies.shared.contents.objects represents_by_copies.shared.unwritten represents_by_copies.shared.evacuated.moved

  small : memory Cset < 2 ^ config.regions
  small = few_bits (memory Cset) config.regions represents_by_copies.shared.evacuated.aside.in_heap

  can_update : CanUpdateAll config memory
  can_update = updates.can_update config memory represents_by_copies.block represents_by_copies.shared.parsable.plotted represents_by_copies.shared.parsable.filled some (λ address piece piece_there stay. strides memory represents_by_copies.block sized (none_have_room config memory graph asking represents_by_copies bare) address piece piece_there) small

  -- then what has moved can be filled over, where objects of the set lie in pinned regions
  module _ (pinned : (thing_address refs nums : ℕ) (name : Name) → represents_by_copies.block thing_address ≡ Some (thing name refs nums) → IsCollected config (memory Cset) thing_address → is_pinned config memory (region_with config thing_address) ≡ true) where
    abbrev now : Word → ℕ
    now = all_updated config memory

    filled_there : (region : ℕ) → region < config.regions → 2 ≤ memory Phase → CanFill config now region
    filled_there region inside phase_high =
        let no_room = none_have_room config memory graph asking represents_by_copies bare in
        let sized_still = sized_again config memory memory represents_by_copies.block represents_by_copies.ghost.owner graph asking config.region_words (copying_begins config memory graph asking represents_by_copies phase_high) pinned no_room in
        record {
          within = represents_by_copies.shared.parsable.plotted.tops region inside;
          ends = updates.end_inside config (all_updated config memory) represents_by_copies.block represents_by_copies.shared.parsable.plotted represents_by_copies.shared.parsable.filled some (λ k. Unit {0}) (λ address piece piece_there any. strides (all_updated config memory) represents_by_copies.block sized_still no_room address piece piece_there) region inside tt;
        }

    can_free : CanFree config now
    can_free = record {
      set = small;
      fills = λ region inside stay.
          let member : IsIn (memory Cset) region = in_set memory region (and_parts (is_chosen memory region) (is_pinned config memory region) stay).0 in
          ⊎_elim
          (λ (low : memory Phase < 2). absurd (none_is_in region (subst (λ set. IsIn set region) (represents_by_copies.shared.phased.cset_is low) member)))
          (λ (phase_high : 2 ≤ memory Phase). filled_there region inside phase_high)
          (cases_lt (memory Phase) 2);
    }

pub representing_can_finish : RepresentingCanFinish
representing_can_finish config memory graph asking represents seats =
    let buffers_gone = (letting_go_keeps config memory graph asking seats).represents represents in
    let copied = copying_keeps config (let_go config memory) graph asking buffers_gone in
    record {
      buffers = buffers_inside config memory represents.block represents.shared.parsable.plotted represents.shared.owned.buffers;
      copies = left_can_be_copied config (let_go config memory) graph asking buffers_gone;
      updates = λ room. can_update config (all_copied config (let_go config memory)) graph asking copied.stands
          (λ seat seat_below. copied.same (Current seat) (λ never. never) ∙ letting_go_leaves config memory seat seat_below);
      frees = λ room. can_free config (all_copied config (let_go config memory)) graph asking copied.stands
          (λ seat seat_below. copied.same (Current seat) (λ never. never) ∙ letting_go_leaves config memory seat seat_below)
          (left_pinned config (let_go config memory) graph asking copied room);
    }
