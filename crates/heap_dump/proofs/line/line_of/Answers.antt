use Rattle.std.proofs.Common.{ℕ, List, ◌∷◌, ap, ◌∙◌}
use Rattle.trace_reading.specs.Causes.{parts, parts_behind}
use Rattle.heap_dump.proofs.References.{not_same}
use Rattle.heap_dump.proofs.TakenRoots.{same_bytes}
use Rattle.heap_dump.proofs.Steps.{no_line, line_behind, same_line, other_word}
use Rattle.heap_dump.proofs.line.line_of.Goals as goal

pub returns-in_err-behind-clause-line : goal.returns-in_err-behind-clause-line
returns-in_err-behind-clause-line c =
    rw c.from_residual.ensures (λ text rest words cut first_words. no_line c.args.bytes.now c.cut.result.0.now c.cut.result.1.now c.cut.ensures.parts c.in_err-behind.ensures.cases text rest cut)

pub returns-then-eq-clause-line : goal.returns-then-eq-clause-line
returns-then-eq-clause-line c = (
  c.cut.result.0.now,
  line_behind c.args.bytes.now c.cut.result.0.now c.cut.result.1.now c.in_ok-behind.behind.now c.in_ok-behind.field-0-0.now c.cut.ensures.parts c.in_ok-behind.ensures.cases.0,
  c.cut-2.ensures.parts ∙ ap (λ (word : List ℕ). word ∷ parts_behind 32 c.cut-2.result.1.now) (same_bytes c.cut-2.result.0.now c.args.title.now c.if-eq.ensures),
)

pub returns-else-eq-clause-line : goal.returns-else-eq-clause-line
returns-else-eq-clause-line c = λ text rest words cut first_words.
    let line_found = line_behind c.args.bytes.now c.cut.result.0.now c.cut.result.1.now c.in_ok-behind.behind.now c.in_ok-behind.field-0-0.now c.cut.ensures.parts c.in_ok-behind.ensures.cases.0 in
    let same_parts = same_line c.args.bytes.now c.cut.result.0.now text c.in_ok-behind.behind.now rest line_found cut in
    not_same c.cut-2.result.0.now c.args.title.now c.if-eq.ensures
    (other_word c.cut.result.0.now c.cut-2.result.0.now c.args.title.now (parts_behind 32 c.cut-2.result.1.now) words c.cut-2.ensures.parts (ap (parts 32) same_parts.0 ∙ first_words))
