-- Where updating begins buffers are settled, and nothing else changes on which a graph stands.
use Rattle.std.proofs.Common.{ℕ, Option, refl, ◌∙◌, subst, arith}
use Rattle.heap_words.specs.declared.config.Config.{Config}
use Rattle.heap_words.specs.Words.{Word, Cset, Pin, Heap}
use Rattle.regions.specs.Place.{region_with}
use Rattle.shen_graph.specs.Graph.{Graph}
use Rattle.heap_world.specs.World.{Plot, IsCollected}
use Rattle.image_graph.specs.Settled.{buffers_settled}
use Rattle.image_graph.proofs.Settling.{settling_leaves}
use Rattle.image_graph.specs.Held.{IsLedTo, IsAmong}
use Rattle.image_graph.specs.Full.{now_in}
use Rattle.image_graph.specs.Promised.{Promises}
use Rattle.image_graph.specs.Holds.{HoldsBy}
use Rattle.image_graph.specs.Buffers.{HasNoMoreSeats, settled_block}
use Rattle.cycle_words.specs.Marking.WhileMarking.{CanBeReached}
use Rattle.cycle_words.specs.Updating.Changes.{updating_begun, init_updated}
use Rattle.cycle_words.specs.StillHolds.{WhileCollecting, NothingInside, HoldsLimited, LimitsHold}
use Rattle.image_graph.proofs.Loosening.Loosened.{loosened_sized, loosened_reached}
use Rattle.image_graph.proofs.Loosening.OneBuffer.{HoldsLoosened}
use Rattle.image_graph.proofs.Loosening.AllSettled.{settled_holds}
use Rattle.cycle_words.proofs.Pinned.{same_pinned}
use Rattle.cycle_words.proofs.Finishing.Collecting.{loosened_collecting}
use Rattle.cycle_words.proofs.Marking.Alike.{sized_alike, same_held_words, holds_alike}

reached_before : (config : Config) (memory : Word → ℕ) (reached_address : ℕ) → CanBeReached config (updating_begun config memory) reached_address → CanBeReached config memory reached_address
reached_before config memory reached_address = subst (λ xs. IsLedTo (now_in memory) (λ address. memory (Heap address)) (IsAmong xs) reached_address) (same_held_words memory (updating_begun config memory) (λ t i. refl) (λ t. refl) (λ t i. refl) config)

collecting_then : (config : Config) (memory : Word → ℕ) (block : Plot) → WhileCollecting config memory block → NothingInside config memory → WhileCollecting config (updating_begun config memory) block
collecting_then config memory block still_collecting nothing = record {
  marked = still_collecting.marked;
  reachable = λ some_set address reached. still_collecting.reachable some_set address (reached_before config memory address reached);
  no_new = still_collecting.no_new;
  floors = still_collecting.floors;
  unseated = still_collecting.unseated;
  young = still_collecting.young;
  outside = λ set_empty address reached. nothing address (reached_before config memory address reached);
}

module _ (config : Config) (memory : Word → ℕ) (block : Plot) (owner : ℕ → Option ℕ) (promises : Promises) (graph : Graph) (graph_held : HoldsBy config memory block owner promises graph) (seats : HasNoMoreSeats config memory) where
  abbrev s : Word → ℕ
  s = buffers_settled config memory

  abbrev settled : Plot
  settled = settled_block config memory block

  after : HoldsLoosened config memory s block settled owner promises graph
  after = settled_holds config memory block owner promises graph graph_held seats

  -- nothing inside that can be reached, but in pinned regions, and no top changed
  nothing_inside : NothingInside config memory → NothingInside config s
  nothing_inside nothing address reached inside =
      same_pinned config memory s (λ mutator slot. after.loosened.others (Pin mutator slot) refl) (region_with config address)
      ∙ nothing address (loosened_reached config memory s block settled owner promises graph graph_held after.loosened after.holds.objects.plotted address reached) (subst (λ cset. IsCollected config cset address) (after.loosened.others Cset refl) inside)

  collecting_settled : WhileCollecting config memory block → WhileCollecting config s settled
  collecting_settled still_collecting = loosened_collecting config memory s block settled owner promises graph graph_held after.loosened after.holds.objects.plotted still_collecting
      (λ region member. (settling_leaves config memory).tops region)
      (λ some_set region region_below. (let floor = still_collecting.floors some_set region region_below in let same_top = (settling_leaves config memory).tops region in omega (arith, floor, same_top)))

  pub holds_limited : HoldsLimited config memory (init_updated config memory) block owner promises graph
  holds_limited = record {
    holds = holds_alike s (init_updated config memory)
        (record { heap = λ a. refl; top = λ r. refl; root = λ t i. refl; answer = λ t. refl; wait = λ t. refl; current = λ s. refl; free = refl; cset = refl; share = refl; pin = λ t i. refl }) config settled owner promises graph after.holds;
    sized = λ sized. sized_alike s (init_updated config memory) settled (λ a. refl) (loosened_sized config memory s block settled owner promises graph graph_held after.loosened sized);
    collecting = λ still_collecting nothing. collecting_then config s settled (collecting_settled still_collecting) (nothing_inside nothing);
  }

pub limits_hold : (config : Config) (memory : Word → ℕ) → HasNoMoreSeats config memory → LimitsHold config memory (init_updated config memory)
limits_hold config memory seats block owner promises graph holds = holds_limited config memory block owner promises graph holds seats
