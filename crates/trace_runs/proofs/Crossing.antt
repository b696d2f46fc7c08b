-- What goes from thread to thread in a run, and what threads share. Of each type it is shown by its parts. A `Snapshot`, which each bundle and the key of a heap have in them, is named here.
use denote.Builtin as builtin
use denote.RattleType.{RattleType}
use denote.Param.Send.{IsSend, IsSync, struct_send, struct_sync, recorded_send, recorded_sync, sendable}
use denote.Struct.Declared.{shape}
use Rattle.std.proofs.option.Option.TheSendSync as option
use Rattle.std.specs.contracts.option.Option as options
use Rattle.std.specs.contracts.snapshot.Snapshot as snapshot
use Rattle.std.specs.contracts.alloc.Global as global
use Rattle.std.specs.contracts.impls.GlobalAllocator.TheImpl.{ghosts}
use Rattle.std.specs.contracts.vec.Vec as vec
use Rattle.std.proofs.Crossing as memory
use Rattle.std.proofs.Crossing.{Vec-send, crosses}
use Rattle.atomic_table.proofs.shared.Seat.TheSendSync as seat
use Rattle.atomic_table.proofs.owned.Table.TheSendSync as table
use Rattle.heap_words.proofs.config.Config.TheSendSync as config
use Rattle.heap_machines.proofs.machine.Machine.TheSendSync as machine
use Rattle.heap_machines.specs.contracts.machine.Machine as machines
use Rattle.table_heap.proofs.hints.Hints.TheSendSync as hints
use Rattle.table_heap.proofs.hints.Thief.TheSendSync as thief
use Rattle.table_heap.specs.contracts.hints.Thief as thieves
use Rattle.table_heap.specs.contracts.left.Left as left
use Rattle.table_heap.specs.contracts.key.HeapKey as key
use Rattle.table_heap.specs.contracts.heap.Heap as heap
use Rattle.table_heap.specs.contracts.bundle.Bundle as bundle
use Rattle.trace_runs.proofs.load.Load.TheSendSync as load
use Rattle.trace_runs.specs.contracts.parts.Part as part
use Rattle.trace_runs.specs.contracts.parts.Returned as returned

snapshot_send : (Y : RattleType) → IsSend (snapshot.the_row Y)
snapshot_send Y = search crosses

snapshot_sync : (Y : RattleType) → IsSync (snapshot.the_row Y)
snapshot_sync Y = search crosses

-- ---- what threads share: the heap
left_sync : IsSync left.the_row
left_sync = recorded_sync left.the_field.row _ _ left.the_type.to_one (struct_sync (shape left.the_type) (snapshot_sync (vec.the_row builtin.u64 global.the_row ghosts), (snapshot_sync (vec.the_row builtin.u32 global.the_row ghosts), tt)))

key_sync : IsSync key.the_field.row
key_sync = struct_sync (shape key.the_type) (config.the_field_sync, (option.the_field_sync left.the_row left_sync, tt))

heap_field_sync : IsSync heap.the_field.row
heap_field_sync = struct_sync (shape heap.the_type) (config.the_field_sync, (key_sync, (search (table.the_field_sync, memory.send, memory.sync, memory.frees, sendable) depth 6, tt)))

pub heap_sync : IsSync heap.the_row
heap_sync = recorded_sync heap.the_field.row _ _ heap.the_type.to_one heap_field_sync

-- ---- what goes to a thread and comes back
machine_send : IsSend (options.the_row machines.the_row)
machine_send = option.the_send machines.the_row machine.the_send

address_send : IsSend (options.the_row builtin.u64)
address_send = option.the_send builtin.u64 (search sendable)

bundle_send : IsSend bundle.the_field.row
bundle_send =
    struct_send (shape bundle.the_type) (
      config.the_field_send,
      (
        snapshot_send key.the_row,
        (
          seat.the_send _ _ (search sendable),
          (Vec-send (options.the_row machines.the_row) machine_send, (Vec-send (options.the_row builtin.u64) address_send, (hints.the_field_send, (Vec-send thieves.the_row thief.the_send, tt)))),
        ),
      ),
    )

part_field_send : IsSend part.the_field.row
part_field_send = struct_send (shape part.the_type) (bundle_send, (load.the_field_send, tt))

pub part_send : IsSend part.the_row
part_send = recorded_send part.the_field.row _ _ part.the_type.to_one part_field_send

pub returned_send : IsSend returned.the_row
returned_send = recorded_send returned.the_field.row _ _ returned.the_type.to_one (struct_send (shape returned.the_type) (part_field_send, (search sendable, tt)))
