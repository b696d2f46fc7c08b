-- Each buffer lies in one region of the heap, that in which it ends.
use Rattle.std.proofs.Common.{◌≡◌, ℕ, ◌+◌, ◌-◌, ◌<◌, ◌≤◌, sym, subst, arith}
use Rattle.heap_words.specs.declared.config.Config.{Config}
use Rattle.heap_words.specs.Encoding.{next_in, end_in}
use Rattle.heap_words.specs.Words.{Word, Top, Current}
use Rattle.regions.specs.Place.{base_of, region_with, IsOf}
use Rattle.regions.proofs.PlaceLemmas.{regions_tile}
use Rattle.heap_world.specs.World.{Plot, IsPlotted, IsBuffer, AreBuffers}
use Rattle.image_graph.specs.SeatBuffers.{IsInside, AreInside}

-- a buffer's last word is of its region
pub buffer_ends : (config : Config) (top : ℕ → ℕ) (block : Plot) (seat word : ℕ) (buffer : IsBuffer config top block seat word) → top buffer.region ≤ config.region_words → IsOf config buffer.region (end_in word - 1)
buffer_ends config top block seat word buffer top_within = let low = buffer.some in let high = buffer.to_top in record { from = omega (arith, low); before = omega (arith, low, high, top_within) }

pub buffer_region_is : (config : Config) (top : ℕ → ℕ) (block : Plot) (seat word : ℕ) (buffer : IsBuffer config top block seat word) → top buffer.region ≤ config.region_words → region_with config (end_in word - 1) ≡ buffer.region
buffer_region_is config top block seat word buffer top_within = regions_tile.of_no_other config buffer.region (end_in word - 1) (buffer_ends config top block seat word buffer top_within)

-- so it lies in one region of the heap
pub buffer_inside : (config : Config) (top : ℕ → ℕ) (block : Plot) (seat word : ℕ) (buffer : IsBuffer config top block seat word) → top buffer.region ≤ config.region_words → IsInside config word
buffer_inside config top block seat word buffer top_within =
    let same_region = buffer_region_is config top block seat word buffer top_within in
    let high = buffer.to_top in
    record {
      region = subst (λ region. region < config.regions) (sym same_region) buffer.within;
      from_base = subst (λ region. base_of config region ≤ next_in word) (sym same_region) buffer.from_base;
      ordered = buffer.ordered;
      to_end = subst (λ region. end_in word ≤ base_of config region + config.region_words) (sym same_region) (omega (arith, high, top_within));
    }

pub buffers_inside : (config : Config) (memory : Word → ℕ) (block : Plot) → IsPlotted config (λ region. memory (Top region)) block → AreBuffers config (λ region. memory (Top region)) (λ seat. memory (Current seat)) block → AreInside config memory
buffers_inside config memory block plotted buffers seat seat_below has_buffer =
    let buffer = buffers.each seat has_buffer in
    buffer_inside config (λ region. memory (Top region)) block seat (memory (Current seat)) buffer (plotted.tops buffer.region buffer.within)
