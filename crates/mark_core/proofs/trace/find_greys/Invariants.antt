use Rattle.std.proofs.Common.{◌≡◌, ◌-◌, ◌<◌, ◌≤◌, true}
use Rattle.cycle_words.specs.Marking.Marks.{is_grey}
use Rattle.cycle_words.specs.Marking.Close.{greys_below}
use Rattle.heap_world.specs.Walk.{with_addresses}
use Rattle.image_graph.specs.State.{config_of, memory_of, found_of, AreFound, IsUnchanged}
use Rattle.mark_core.proofs.trace.find_greys.Given as goal

abbrev pub invariant-loop-address : goal.invariant-loop-address
invariant-loop-address locals = record {
  unchanged : IsUnchanged locals.fn.image locals.image;
  found : AreFound locals.image;
  first : (config_of locals.fn.image).region_words ≤ locals.address;
  last : locals.address ≤ locals.end;
  grey : locals.address < locals.end → is_grey (config_of locals.fn.image) (memory_of locals.fn.image) locals.address ≡ true;
  noted : found_of locals.image ≡ with_addresses (found_of locals.fn.image) (greys_below (config_of locals.fn.image) (memory_of locals.fn.image) (locals.address - (config_of locals.fn.image).region_words));
}

abbrev pub decreases-loop-address : goal.decreases-loop-address
decreases-loop-address locals = locals.end - locals.address
