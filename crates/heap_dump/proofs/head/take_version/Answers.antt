use Rattle.std.proofs.Common.{ℕ, ◌≡◌, List, [], ◌∷◌, ◌++◌, ap, sym, refl, codes, ◌∙◌}
use Rattle.std.proofs.lemmas.Result.{err_from_is_err_and}
use Rattle.shen_graph.proofs.Lists.{same_before_end}
use Rattle.trace_reading.specs.declared.fault.TraceFault.TheVariants.{BadLine}
use Rattle.trace_reading.specs.Spelling.{newline}
use Rattle.trace_reading.specs.declared.why.Why.TheVariants.{DumpWanted}
use Rattle.heap_dump.specs.DumpLines.{Version, Heap, ends_by}
use Rattle.heap_dump.proofs.References.{not_same}
use Rattle.heap_dump.proofs.TakenRoots.{same_bytes}
use Rattle.heap_dump.proofs.HeadLines.{version_line}
use Rattle.heap_dump.proofs.Steps.{leads_one, stops_here, ends_here, refused_here}
use Rattle.heap_dump.proofs.head.take_version.Goals as goal

pub returns-in_err-text-clause-err : goal.returns-in_err-text-clause-err
returns-in_err-text-clause-err c =
    let result_fault = err_from_is_err_and c.from_residual.result c.from_residual.ensures.1 in
    let text_fault = c.in_err-text.ensures.err in
    let same_fault : result_fault.0 ≡ BadLine 1 (ends_by text_fault.0) = let result_told = result_fault.2 in let text_told = text_fault.2 in cc in
    rw result_fault.1 (1, ends_by text_fault.0, same_fault, stops_here Version 1 c.args.bytes.now (ends_by text_fault.0) (ends_here Version c.args.bytes.now text_fault.0 tt text_fault.1))

pub returns-then-eq-clause-ok : goal.returns-then-eq-clause-ok
returns-then-eq-clause-ok c =
    let same_text = same_bytes c.in_ok-text.text.now (codes "dump 1") (rw (← c.as_slice.ensures) c.if-eq.ensures) in
    leads_one Version Heap c.args.bytes.now c.in_ok-text.text.now c.in_ok-text.rest.now c.in_ok-text.ensures.ok (ap (λ (some_text : List ℕ). some_text ++ newline ∷ []) same_text ∙ sym version_line, refl)

pub returns-else-eq-clause-err : goal.returns-else-eq-clause-err
returns-else-eq-clause-err c = (
  1,
  DumpWanted,
  c.dump_wanted.ensures,
  stops_here Version 1 c.args.bytes.now DumpWanted
      (refused_here Version c.args.bytes.now c.in_ok-text.text.now c.in_ok-text.rest.now tt c.in_ok-text.ensures.ok
      (λ next follows. not_same c.in_ok-text.text.now (codes "dump 1") (rw (← c.as_slice.ensures) c.if-eq.ensures) (same_before_end c.in_ok-text.text.now (codes "dump 1") newline (follows.0 ∙ version_line)))),
)
