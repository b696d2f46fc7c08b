use Rattle.load_barrier.proofs.Waiting.{never_says, room_part, take_part}
use Rattle.alloc_buffers.specs.declared.spot.Kind.TheVariants.{Evacuated}
use Rattle.load_barrier.proofs.spot.ResolveSpot.after.Goals as goal

pub returns-in-Entering-clause-again : goal.returns-in-Entering-clause-again
returns-in-Entering-clause-again c = rw (c.in-Entering.is, c.led_by.ensures.says) (room_part c.says.result c.after_enter.result c.in-Entering.at c.args.got c.says.ensures)

pub returns-in-Taking-clause-again : goal.returns-in-Taking-clause-again
returns-in-Taking-clause-again c = rw (c.in-Taking.is, c.led_by-in-Taking.ensures.says) (take_part c.args.config c.in-Taking.words Evacuated c.says-in-Taking.result c.after_take.result c.in-Taking.at c.after-next.result c.args.got c.says-in-Taking.ensures c.after-next.ensures.row)

pub returns-in-Stopping-clause-again : goal.returns-in-Stopping-clause-again
returns-in-Stopping-clause-again c = rw (c.in-Stopping.is, c.led_by-in-Stopping.ensures.says) (room_part c.says-in-Stopping.result c.after_stop.result c.in-Stopping.at c.args.got c.says-in-Stopping.ensures)

pub returns-in-LoadHeader-clause-again : goal.returns-in-LoadHeader-clause-again
returns-in-LoadHeader-clause-again c = rw (c.in-LoadHeader.is, c.led.ensures.says) (never_says c.after_header.result)

pub returns-in-Copying-clause-again : goal.returns-in-Copying-clause-again
returns-in-Copying-clause-again c = rw (c.in-Copying.is, c.led-in-Copying.ensures.says) (never_says c.after-in-Copying.result)
