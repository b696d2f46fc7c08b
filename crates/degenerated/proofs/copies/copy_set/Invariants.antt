use Rattle.std.proofs.Common.{◌≡◌, ◌+◌, ◌-◌, ◌*◌}
use Rattle.image_graph.specs.State.{config_of, memory_of}
use Rattle.cycle_words.specs.Finishing.Copies.{CanCopyFrom, copied_from, is_room_from}
use Rattle.degenerated.proofs.copies.copy_set.Given as goal

abbrev pub invariant-loop-index : goal.invariant-loop-index
invariant-loop-index loop = record {
  config : config_of loop.image ≡ config_of loop.fn.image;
  words : copied_from (config_of loop.fn.image) (memory_of loop.fn.image) (config_of loop.fn.image).region_words ((config_of loop.fn.image).regions * (config_of loop.fn.image).region_words)
      ≡ copied_from (config_of loop.fn.image) (memory_of loop.image) ((config_of loop.fn.image).region_words + loop.index) ((config_of loop.fn.image).regions * (config_of loop.fn.image).region_words - loop.index);
  room : is_room_from (config_of loop.fn.image) (memory_of loop.fn.image) (config_of loop.fn.image).region_words ((config_of loop.fn.image).regions * (config_of loop.fn.image).region_words)
      ≡ is_room_from (config_of loop.fn.image) (memory_of loop.image) ((config_of loop.fn.image).region_words + loop.index) ((config_of loop.fn.image).regions * (config_of loop.fn.image).region_words - loop.index);
  can : CanCopyFrom (config_of loop.fn.image) (memory_of loop.image) ((config_of loop.fn.image).region_words + loop.index) ((config_of loop.fn.image).regions * (config_of loop.fn.image).region_words - loop.index);
}
