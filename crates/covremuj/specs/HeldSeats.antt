-- What a handle owns: nothing where it is empty, and the box of its seat where it is open.
use Rattle.std.specs.Prelude.{Option, Some, None}
use base.Fml.{Fml, ftrue}
use denote.RawPtr.{Ptr}
use Rattle.std.specs.Box.Ownership.{box_owns}
use Rattle.std.specs.declared.alloc.Global.{Global}
use Rattle.std.specs.contracts.impls.GlobalAllocator.TheImpl.{ghosts}
use Rattle.heap_seats.specs.contracts.seat.Seat.{the_row}

abbrev pub held_owns : Ptr → Global → Option the_row.Denot → Fml
held_owns pointer alloc None = ftrue
held_owns pointer alloc (Some seat) = box_owns (ghosts.dealloc_token alloc) the_row pointer seat
