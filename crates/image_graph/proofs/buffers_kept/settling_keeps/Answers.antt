use Rattle.image_graph.proofs.LooseKept.{settling_keeps}
use Rattle.image_graph.proofs.buffers_kept.settling_keeps.Goals as goal

pub returns : goal.returns
returns c = settling_keeps
