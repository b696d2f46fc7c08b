use Rattle.alloc_buffers.proofs.Causes.{its_cause}
use Rattle.alloc_buffers.proofs.no_room_has_its_cause.Goals as goal

pub returns : goal.returns
returns c = its_cause
