use Rattle.std.proofs.Common.{◌≡◌, ◌+◌, ◌<◌, [], ◌∷◌, ◌++◌, length, refl, arith}
use Rattle.std.proofs.lemmas.Result.{err_from_is_err_and}
use Rattle.trace_reading.specs.declared.fault.TraceFault.TheVariants.{BadLine}
use Rattle.trace_reading.specs.declared.why.Why.TheVariants.{DumpWanted}
use Rattle.heap_dump.specs.DumpLines.{Listed, ends_by}
use Rattle.heap_dump.proofs.Steps.{stops_here, stops_behind, ends_here, refused_here}
use Rattle.heap_dump.proofs.Rooted.{next_sixteen, roots_line_more, roots_line_refused}
use Rattle.heap_dump.proofs.read.take_all_roots.Goals as goal

pub returns-in_err-text-clause-err : goal.returns-in_err-text-clause-err
returns-in_err-text-clause-err c =
    let result_fault = err_from_is_err_and c.from_residual.result c.from_residual.ensures.1 in
    let text_fault = c.in_err-text.ensures.err in
    let lines = c.loop-mutator.mutator in
    let first_line = c.args.first in
    let same_fault : result_fault.0 ≡ BadLine (first_line + lines) (ends_by text_fault.0) = let result_told = result_fault.2 in let text_told = text_fault.2 in cc in
    let rest = c.loop-mutator.rest.now in
    let all_roots = c.loop-mutator.invariant.0 in
    rw result_fault.1
    (λ dump no_roots same_dump.
    let reader = Listed (record dump { roots = all_roots }) in (
      first_line + lines,
      ends_by text_fault.0,
      same_fault,
      stops_behind (Listed dump) reader first_line (first_line + lines) c.args.bytes.now rest lines (first_line + lines) (ends_by text_fault.0) (c.loop-mutator.invariant.1.led dump no_roots same_dump) refl
          (stops_here reader (first_line + lines) rest (ends_by text_fault.0) (ends_here reader rest text_fault.0 tt text_fault.1)),
    ))

pub take_roots-requires-clause-sixteen : goal.take_roots-requires-clause-sixteen
take_roots-requires-clause-sixteen c =
    next_sixteen c.args.bytes.now c.loop-mutator.rest.now c.loop-mutator.mutator c.args.graph.now c.loop-mutator.graph c.loop-mutator.invariant.0 c.loop-mutator.invariant.1
    (omega (arith, c.loop-mutator-test.true, c.mutators-mutator-end.ensures.threads)) c.mutators-mutator-end.ensures.sixteen

pub returns-then-not-take_roots-clause-err : goal.returns-then-not-take_roots-clause-err
returns-then-not-take_roots-clause-err c = λ dump no_roots same_dump.
    let lines = c.loop-mutator.mutator in
    let first_line = c.args.first in
    let rest = c.loop-mutator.rest.now in
    let text = c.in_ok-text.text.now in
    let bytes_behind = c.in_ok-text.behind.now in
    let all_roots = c.loop-mutator.invariant.0 in
    let roots_taken = c.loop-mutator.invariant.1 in
    let reader = Listed (record dump { roots = all_roots }) in
    let lines_below : lines < length c.args.graph.now.roots = omega (arith, c.loop-mutator-test.true, c.mutators-mutator-end.ensures.threads) in (
      first_line + lines,
      DumpWanted,
      c.dump_wanted.ensures,
      stops_behind (Listed dump) reader first_line (first_line + lines) c.args.bytes.now rest lines (first_line + lines) DumpWanted (roots_taken.led dump no_roots same_dump) refl
          (stops_here reader (first_line + lines) rest DumpWanted (refused_here reader rest text bytes_behind tt c.in_ok-text.ensures.ok
          (roots_line_refused c.args.bytes.now rest bytes_behind text lines c.args.graph.now c.loop-mutator.graph all_roots dump roots_taken c.in_ok-text.ensures.ok c.requires.object no_roots same_dump lines_below c.requires.threads.1 c.if-not-take_roots.ensures))),
    )

pub loop-mutator-preserved : goal.loop-mutator-preserved
loop-mutator-preserved c =
    let took = c.if-not-take_roots.ensures in
    let all_roots = c.loop-mutator.invariant.0 in
    let mutator_below : c.loop-mutator.mutator < length c.args.graph.now.roots = omega (arith, c.loop-mutator-test.true, c.mutators-mutator-end.ensures.threads) in (
      all_roots ++ took.0 ∷ [],
      roots_line_more c.args.bytes.now c.loop-mutator.rest.now c.in_ok-text.behind.now c.in_ok-text.text.now c.loop-mutator.mutator c.args.graph.now c.loop-mutator.graph c.take_roots.new.graph all_roots took.0 c.loop-mutator.invariant.1
          c.in_ok-text.ensures.ok took.1 mutator_below took.2,
    )
