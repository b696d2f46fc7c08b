-- An object of the collection set can be copied out, and keeps the graph; and what lives in a region is what is marked there.
use Rattle.std.proofs.Common.{◌≡◌, ℕ, ◌+◌, ◌≤◌, true, false, Option, Some, None, refl, sym, ap, ◌∙◌, subst, ⊎_elim, arith}
use Rattle.std.proofs.lemmas.Bool.{cases_Bool, cond-true, cond-false}
use Rattle.heap_words.specs.declared.config.Config.{Config}
use Rattle.heap_words.specs.Words.{Word, Cset, Top, Heap}
use Rattle.heap_words.specs.Encoding.{is_forwarded}
use Rattle.regions.proofs.Sums.{sum_same}
use Rattle.regions.specs.Place.{base_of, region_with}
use Rattle.regions.specs.Sets.{IsIn}
use Rattle.shen_graph.specs.Graph.{Graph}
use Rattle.heap_world.specs.World.{Block, thing, words_of, is_loose, Plot}
use Rattle.heap_world.proofs.Pointing.{piece_inside}
use Rattle.image_graph.specs.Promised.{Promises, with_promised}
use Rattle.image_graph.specs.Holds.{HoldsBy, AreSized}
use Rattle.image_graph.specs.Held.{IsAmong}
use Rattle.image_graph.specs.Full.{now_in, held_words}
use Rattle.image_graph.proofs.Reached.{held_is_reached}
use Rattle.cycle_words.specs.Marking.Marks.{is_black, IsNew}
use Rattle.cycle_words.proofs.Marking.Plain.{below_top}
use Rattle.cycle_words.specs.Evacuation.Live.{words_at, marked_words, live_words, is_candidate}
use Rattle.cycle_words.specs.Evacuation.Choice.{copy_limit}
use Rattle.cycle_words.proofs.Evacuation.Candidate.{candidate_is_candidate}
use Rattle.cycle_words.proofs.Evacuation.Front.{member_is}
use Rattle.cycle_words.specs.Evacuation.Copied.{CanCopyOut, copy_room, copied_in, copied_out, IsCopiedOut}
use Rattle.cycle_words.specs.Evacuation.Laws.{ObjectCanBeCopied, piece_words, marked_in, LiveIsMarked, ChosenAreLive}
use Rattle.cycle_words.specs.StillHolds.{HoldsCopied, IsUnpinned, CopyingHolds}
use Rattle.cycle_words.proofs.Evacuation.RegionAddresses.{some_words, from_base}
use Rattle.cycle_words.proofs.Evacuation.CopiedOut.{copies_out}
use Rattle.cycle_words.proofs.Evacuation.CopyHolds as copy

pub object_can_be_copied : ObjectCanBeCopied
object_can_be_copied config memory block owner promises graph graph_held sized address object region_inside =
    let piece = object.0 in
    let piece_there = object.1 in
    let size = sized.objects address piece piece_there object.2 in
    let top_above = below_top config (λ region. memory (Top region)) block graph_held.objects.plotted address piece piece_there (graph_held.pieces.some address piece piece_there) in
    let top_bound = graph_held.objects.plotted.tops (region_with config address) top_above.0 in
    let piece_within = piece_inside config (λ region. memory (Top region)) block graph_held.objects.plotted address piece piece_there in
    let address_split = from_base config.region_words address (some_words config) piece_within.0 in
    record {
      above = piece_within.0;
      of_region = top_above.0;
      in_set = region_inside;
      lies = (let end_inside = top_above.2 in omega (arith, end_inside, top_bound, address_split, size));
      tops = graph_held.objects.plotted.tops;
    }

-- where a region has room, and where none has
module _ (config : Config) (memory : Word → ℕ) (address : ℕ) (address_above : config.region_words ≤ address) (region_inside : IsIn (memory Cset) (region_with config address)) (block : Plot) (owner : ℕ → Option ℕ) (promises : Promises) (graph : Graph)
    (graph_held : HoldsBy config memory block owner promises graph) (sized : AreSized memory block) (piece : Block) (piece_stands : block address ≡ Some piece) (fixed : is_loose piece ≡ false) (plain_header : is_forwarded (memory (Heap address)) ≡ false)
    (unpinned : IsUnpinned config memory address) where
  size : words_at memory address ≡ words_of piece
  size = sized.objects address piece piece_stands fixed

  with_room : IsCopiedOut config memory (copied_out config memory address) address → HoldsCopied config memory (copied_out config memory address) block owner promises graph
  with_room object_copied = record {
    still = record {
      pieces = copy.plot config memory block owner promises graph graph_held address piece piece_stands fixed region_inside plain_header unpinned size object_copied;
      stay = copy.stays config memory block owner promises graph graph_held address piece piece_stands fixed region_inside plain_header unpinned size object_copied;
      holds = copy.copied_holds config memory block owner promises graph graph_held address piece piece_stands fixed region_inside plain_header unpinned size object_copied;
      sized = copy.copied_sized config memory block owner promises graph graph_held address piece piece_stands fixed region_inside plain_header unpinned size object_copied;
    };
    set = copy.set_same config memory block owner promises graph graph_held address piece piece_stands fixed region_inside plain_header unpinned size object_copied;
    collecting = copy.collecting_still config memory block owner promises graph graph_held address piece piece_stands fixed region_inside plain_header unpinned size object_copied;
  }

  by_room : (found : Option ℕ) → copy_room config memory address ≡ found → HoldsCopied config memory (copied_out config memory address) block owner promises graph
  by_room None no_room =
      let same_memory : memory ≡ copied_out config memory address = sym (ap (copied_in config memory address) no_room) in
      subst (λ memory_then. HoldsCopied config memory memory_then block owner promises graph) same_memory
      (record { still = record { pieces = block; stay = λ place z piece_there. piece_there; holds = graph_held; sized = λ all_sized. all_sized }; set = refl; collecting = λ still_collecting. still_collecting })
  by_room (Some room_region) found = with_room (copies_out config memory address address_above region_inside (λ no_room. absurd (differ room_region (sym no_room ∙ found))))
    where
      differ : (number : ℕ) → ◌≡◌ {A = Option ℕ} None (Some number) → ⊥
      differ number none_is_some = cc

  pub still_holds : HoldsCopied config memory (copied_out config memory address) block owner promises graph
  still_holds = by_room (copy_room config memory address) refl

pub copying_holds : (config : Config) (memory : Word → ℕ) (address : ℕ) → CanCopyOut config memory address → CopyingHolds config memory (copied_out config memory address) address
copying_holds config memory address can_copy block owner promises graph holds sized object plain unpinned = still_holds config memory address can_copy.above can_copy.in_set block owner promises graph holds sized object.0 object.1 object.2 plain unpinned

pub live_is_marked : LiveIsMarked
live_is_marked config memory region block sized marked = sum_same (λ offset. marked_words config memory (base_of config region + offset)) (λ offset. marked_in config memory block (base_of config region + offset)) config.region_words (λ offset offset_below. each (base_of config region + offset))
  where
    each : (address : ℕ) → marked_words config memory address ≡ marked_in config memory block address
    each address = ⊎_elim
        (λ (black_address : is_black config memory address ≡ true).
        let piece = marked address black_address in
        cond-true (is_black config memory address) (words_at memory address) 0 black_address ∙ sized.objects address piece.0 piece.1 piece.2 ∙ sym (ap piece_words piece.1) ∙ sym (cond-true (is_black config memory address) (piece_words (block address)) 0 black_address))
        (λ (not_black : is_black config memory address ≡ false). cond-false (is_black config memory address) (words_at memory address) 0 not_black ∙ sym (cond-false (is_black config memory address) (piece_words (block address)) 0 not_black))
        (cases_Bool (is_black config memory address))

pub chosen_are_live : ChosenAreLive
chosen_are_live config memory block owner promises graph holds through object_address reached inside = ⊎_elim
    (λ (black_address : is_black config memory object_address ≡ true). black_address)
    (λ (fresh : IsNew config memory object_address).
    let reached_object = held_is_reached config (λ region. memory (Top region)) (λ address. memory (Heap address)) block (now_in memory) (IsAmong (held_words config memory)) (with_promised graph promises) holds.objects object_address reached in
    let top_above = below_top config (λ region. memory (Top region)) block holds.objects.plotted object_address (thing reached_object.0 reached_object.1 reached_object.2) reached_object.3 (omega arith) in
    let front = member_is config.regions (copy_limit config memory) (live_words config memory) (is_candidate config memory) (region_with config object_address) inside in
    let no_new = ((candidate_is_candidate config memory (region_with config object_address)).0 front.1).no_new in
    let from = top_above.1 in
    let end_inside = top_above.2 in
    absurd (omega (arith, fresh, no_new, from, end_inside)))
    (through.reachable object_address reached)
