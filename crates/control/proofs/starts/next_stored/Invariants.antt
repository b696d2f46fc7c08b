use Rattle.image_graph.specs.State.{config_of}
use Rattle.control.specs.Image.{image_in}
use Rattle.control.proofs.Storing.{IsLeast}
use Rattle.control.proofs.starts.next_stored.Given as goal

abbrev pub invariant-loop-number : goal.invariant-loop-number
invariant-loop-number loop = IsLeast (config_of loop.image) loop.fn.extent loop.starts (image_in loop.image) loop.index loop.number loop.next
