use Rattle.std.proofs.Common.{◌≡◌, ◌+◌, ◌-◌, ◌*◌, ◌<◌, ◌≤◌, true}
use Rattle.regions.specs.Tops.{sum_below}
use Rattle.regions.specs.Place.{base_of}
use Rattle.image_graph.specs.State.{config_of, memory_of}
use Rattle.cycle_words.specs.Marking.Marks.{is_black}
use Rattle.cycle_words.specs.Evacuation.Live.{marked_words}
use Rattle.cset_choice.proofs.live.live_words.Given as goal

abbrev pub invariant-loop-address : goal.invariant-loop-address
invariant-loop-address loop = record {
  first : base_of (config_of loop.image) loop.region ≤ loop.address;
  last : loop.address ≤ loop.end;
  black : loop.address < loop.end → is_black (config_of loop.image) (memory_of loop.image) loop.address ≡ true;
  value : loop.words ≡ sum_below (λ offset. marked_words (config_of loop.image) (memory_of loop.image) (base_of (config_of loop.image) loop.region + offset)) (loop.address - base_of (config_of loop.image) loop.region);
  bound : loop.words ≤ 513 * (loop.address - base_of (config_of loop.image) loop.region);
}

abbrev pub decreases-loop-address : goal.decreases-loop-address
decreases-loop-address loop = loop.end - loop.address
