-- A cycle can be finished where the words hold a graph, and what is marked in the collection set are pieces that say how long they are.
use Rattle.std.proofs.Common.{◌≡◌, ℕ, ◌+◌, ◌*◌, ◌<◌, ◌^◌, true, zero, suc, Option, refl, sym, ◌∙◌, subst}
use Rattle.heap_words.specs.declared.config.Config.{Config}
use Rattle.heap_words.specs.Words.{Word, Cset, Current}
use Rattle.shen_graph.specs.Graph.{Graph}
use Rattle.heap_world.specs.World.{Plot, HasNoRoom}
use Rattle.image_graph.specs.LetGo.{let_go}
use Rattle.image_graph.specs.Promised.{Promises}
use Rattle.image_graph.proofs.Inside.{buffers_inside}
use Rattle.image_graph.proofs.Loosening.Loosened.{loosened_sized}
use Rattle.image_graph.proofs.Loosening.DividedPieces.{none_have_room}
use Rattle.image_graph.proofs.Loosening.AllLetGo.{has_let_go, let_go_seats}
use Rattle.cycle_words.proofs.Finishing.Collecting.{let_go_collecting}
use Rattle.cycle_words.specs.Evacuation.Copied.{CanCopyOut, copied_out}
use Rattle.cycle_words.specs.Finishing.Copies.{is_left, CanCopyFrom, all_copied}
use Rattle.cycle_words.specs.Finishing.Laws.{CollectingCanFinish}
use Rattle.cycle_words.proofs.Evacuation.CanCopy.{object_can_be_copied}
use Rattle.cycle_words.proofs.Finishing.CanUpdate.{set_can_be_left, references_can_be_updated}
use Rattle.cycle_words.specs.Finishing.Updated.{all_updated}
use Rattle.cycle_words.proofs.Finishing.UpdatedHolds.{updated_holds, updated_sized}
use Rattle.cycle_words.proofs.Finishing.Copies.{all_copied_other, all_copied_set}
use Rattle.cycle_words.proofs.Finishing.CopiesHold as copies
use Rattle.cycle_words.proofs.Finishing.CopiesHold.{IsCopiedSoFar, all_copied_hold}

module _ (config : Config) (owner : ℕ → Option ℕ) (promises : Promises) (graph : Graph) where
  one_can : (memory : Word → ℕ) (block : Plot) (so_far : IsCopiedSoFar config memory block owner promises graph) (address : ℕ) → is_left config memory address ≡ true → CanCopyOut config memory address
  one_can memory block so_far address left_over =
      let piece = copies.piece config owner promises graph memory block so_far address left_over in
      object_can_be_copied config memory block owner promises graph so_far.holds so_far.sized address piece (copies.inside config owner promises graph memory block so_far address left_over)

  -- address by address
  all_can : (addresses : ℕ) (memory : Word → ℕ) (block : Plot) (address : ℕ) → IsCopiedSoFar config memory block owner promises graph → CanCopyFrom config memory address addresses
  unfolding CanCopyFrom
  all_can zero memory block address so_far = tt
  all_can (suc addresses) memory block address so_far = (
    λ left_over. (
      one_can memory block so_far address left_over,
      λ room. all_can addresses (copied_out config memory address) (copies.more config owner promises graph memory block so_far address left_over room) (address + 1) (copies.one_copied config owner promises graph memory block so_far address left_over room),
    ),
    λ not_left. all_can addresses memory block (address + 1) so_far,
  )

pub collecting_can_finish : CollectingCanFinish
collecting_can_finish given_config given_memory block owner given_promises given_graph holds sized seats collecting small =
    let after = has_let_go given_config given_memory block owner given_promises given_graph holds seats in
    let copied_first : IsCopiedSoFar given_config (let_go given_config given_memory) after.plot owner given_promises given_graph = record {
      holds = after.left.holds;
      sized = loosened_sized given_config given_memory (let_go given_config given_memory) block after.plot owner given_promises given_graph holds after.left.loosened sized;
      marked = (let_go_collecting given_config given_memory block owner given_promises given_graph holds collecting seats).marked;
    } in
    let copied_all = all_copied_hold given_config owner given_promises given_graph (let_go given_config given_memory) after.plot copied_first in
    let no_room_left : HasNoRoom copied_all.0 = none_have_room given_config (all_copied given_config (let_go given_config given_memory)) copied_all.0 owner given_promises given_graph copied_all.2.holds
    (λ seat. all_copied_other given_config (let_go given_config given_memory) (Current seat) (λ never. never) ∙ let_go_seats given_config given_memory block owner given_promises given_graph holds seats seat) in
    let few : all_copied given_config (let_go given_config given_memory) Cset < 2 ^ given_config.regions =
    subst (λ set. set < 2 ^ given_config.regions) (sym (all_copied_set given_config (let_go given_config given_memory) ∙ after.left.loosened.others Cset refl)) small in
    record {
      buffers = buffers_inside given_config given_memory block holds.objects.plotted holds.buffers;
      copies = λ start_address. all_can given_config owner given_promises given_graph (given_config.regions * given_config.region_words) (let_go given_config given_memory) after.plot given_config.region_words copied_first;
      updates = λ room. references_can_be_updated given_config (all_copied given_config (let_go given_config given_memory)) copied_all.0 owner given_promises given_graph copied_all.2.holds copied_all.2.sized no_room_left few;
      frees = λ room. set_can_be_left given_config (all_updated given_config (all_copied given_config (let_go given_config given_memory))) copied_all.0 owner given_promises given_graph
          (updated_holds given_config (all_copied given_config (let_go given_config given_memory)) copied_all.0 owner given_promises given_graph copied_all.2.holds copied_all.2.sized no_room_left)
          (updated_sized given_config (all_copied given_config (let_go given_config given_memory)) copied_all.0 owner given_promises given_graph copied_all.2.holds copied_all.2.sized no_room_left) no_room_left few;
    }
