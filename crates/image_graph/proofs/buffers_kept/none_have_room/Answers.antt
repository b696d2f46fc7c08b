use Rattle.image_graph.proofs.LooseKept.{none_have_room}
use Rattle.image_graph.proofs.buffers_kept.none_have_room.Goals as goal

pub returns : goal.returns
returns c = none_have_room
