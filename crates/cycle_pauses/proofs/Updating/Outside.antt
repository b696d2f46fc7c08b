-- Where a memory reads 0 at all that is no word of the table, so does what the beginning and the end of updating make of it.
use Rattle.std.proofs.Common.{ℕ, refl}
use Rattle.std.proofs.lemmas.Bool.{true≢false}
use Rattle.heap_words.specs.declared.config.Config.{Config}
use Rattle.heap_words.specs.Words.{Word, Phase, Cset, Evac, Claim, Top, Limit}
use Rattle.image_graph.specs.SeatBuffers.{AreInside}
use Rattle.image_graph.specs.Settled.{buffers_settled}
use Rattle.image_graph.specs.Edge.{edge}
use Rattle.cycle_pauses.proofs.Full.Outside.{IsZeroOutside}
use Rattle.cycle_pauses.proofs.Full.LettingGoFirst.{settled_outside}
use Rattle.cycle_words.specs.Marking.Final.{freed}
use Rattle.cycle_pauses.proofs.Marking.Outside.{if_zero, edge_zero, freed_outside}
use Rattle.cycle_words.specs.Updating.Changes.{is_chosen, updating_begun, init_updated, cycle_ended, final_updated}

begun_outside : (config : Config) (memory : Word → ℕ) → IsZeroOutside config memory → IsZeroOutside config (updating_begun config memory)
begun_outside config memory nothing (Limit region) outside_table = if_zero (is_chosen memory region) (edge config memory region) (edge_zero config memory region (nothing (Top region) outside_table))
begun_outside config memory nothing Phase outside_table = absurd (true≢false outside_table)
begun_outside config memory nothing Evac outside_table = refl
begun_outside config memory nothing Claim outside_table = refl
begun_outside config memory nothing word outside_table = nothing word outside_table

pub init_outside : (config : Config) (memory : Word → ℕ) → AreInside config memory → IsZeroOutside config memory → IsZeroOutside config (init_updated config memory)
init_outside config memory words_inside nothing = begun_outside config (buffers_settled config memory) (settled_outside config memory nothing words_inside)

pub cycle_outside : (config : Config) (memory : Word → ℕ) → IsZeroOutside config memory → IsZeroOutside config (cycle_ended memory)
cycle_outside config memory nothing Phase outside_table = refl
cycle_outside config memory nothing Cset outside_table = refl
cycle_outside config memory nothing Claim outside_table = refl
cycle_outside config memory nothing word outside_table = nothing word outside_table

pub final_outside : (config : Config) (memory : Word → ℕ) → IsZeroOutside config memory → IsZeroOutside config (final_updated config memory)
final_outside config memory nothing = cycle_outside config (freed config (is_chosen memory) memory) (freed_outside config (is_chosen memory) memory nothing)
