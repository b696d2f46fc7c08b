use Rattle.std.proofs.Common.{◌+◌, [], refl, arith}
use Rattle.trace_reading.specs.declared.why.Why.TheVariants.{DumpWanted}
use Rattle.heap_dump.specs.DumpLines.{Listed}
use Rattle.heap_dump.specs.Listing.{listed}
use Rattle.heap_dump.proofs.Rowed.{object_room, rows_more, rows_refused}
use Rattle.heap_dump.proofs.Steps.{stops_here, stops_behind, refused_here}
use Rattle.heap_dump.proofs.read.take_objects.Goals as goal

pub take_object-requires-clause-room : goal.take_object-requires-clause-room
take_object-requires-clause-room c =
    let line = c.in-Some.ensures.line in
    omega (arith, object_room c.objects.rest.now line.0 c.in-Some.behind.now c.in-Some.words.now c.objects.graph.spare line.1 line.2 c.objects.invariant.room)

pub returns-then-not-take_object-clause-err : goal.returns-then-not-take_object-clause-err
returns-then-not-take_object-clause-err c = λ config.
    let counts = c.args.counts.now in
    let bytes = c.args.bytes.now in
    let rest = c.objects.rest.now in
    let lines = c.objects.lines in
    let objects_taken = c.objects.invariant in
    let line = c.in-Some.ensures.line in
    let reader = Listed (listed config counts objects_taken.rows []) in (
      5 + lines,
      DumpWanted,
      c.dump_wanted.ensures,
      stops_behind (Listed (listed config counts [] [])) reader 5 (5 + lines) bytes rest lines (5 + lines) DumpWanted (objects_taken.led config) refl
          (stops_here reader (5 + lines) rest DumpWanted (refused_here reader rest line.0 c.in-Some.behind.now tt line.1
          (rows_refused counts bytes rest c.in-Some.behind.now lines c.args.graph.now c.objects.graph line.0 c.in-Some.words.now config objects_taken line.2 c.requires.counts (λ index. omega (arith, c.type_inv.counts index)) c.if-not-take_object.ensures))),
    )

pub objects-preserved : goal.objects-preserved
objects-preserved c =
    let line = c.in-Some.ensures.line in
    let took = c.if-not-take_object.ensures in
    rows_more c.args.counts.now c.args.bytes.now c.objects.rest.now c.in-Some.behind.now c.objects.lines c.args.graph.now c.objects.graph c.take_object.new.graph line.0 c.in-Some.words.now took.0 c.objects.invariant
    line.1 line.2 c.in-Some.ensures.shorter took.1 took.2 took.3
