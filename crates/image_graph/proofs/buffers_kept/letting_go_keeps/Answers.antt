use Rattle.image_graph.proofs.LooseKept.{letting_go_keeps}
use Rattle.image_graph.proofs.buffers_kept.letting_go_keeps.Goals as goal

pub returns : goal.returns
returns c = letting_go_keeps
