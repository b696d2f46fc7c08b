use Rattle.std.proofs.Common.{◌≡◌, sym, subst, refl, ◌∙◌, arith}
use Rattle.std.proofs.lemmas.Bool.{false≢true}
use Rattle.heap_dump.specs.Dumped.{IsNamed}
use Rattle.heap_dump.proofs.References.{no_named, taken_name, other_name}
use Rattle.heap_dump.proofs.words.name_in.Goals as goal

pub returns-in_err-reference_in : goal.returns-in_err-reference_in
returns-in_err-reference_in c =
    rw c.from_residual.ensures (no_named c.args.counts.now c.args.word.now c.requires (λ thread. omega (arith, c.type_inv.counts thread)) c.in_err-reference_in.ensures)

pub returns-then-is_named : goal.returns-then-is_named
returns-then-is_named c =
    let reference_told = c.in_ok-reference_in.ensures in
    let named = c.if-is_named.ensures.0 refl in
    (named, taken_name c.args.counts.now c.args.word.now reference_told.0 c.in_ok-name.name c.requires (λ thread. omega (arith, c.type_inv.counts thread)) reference_told.1 (sym c.in_ok-name.was ∙ reference_told.2) named)

pub returns-else-is_named : goal.returns-else-is_named
returns-else-is_named c =
    let reference_told = c.in_ok-reference_in.ensures in
    other_name c.args.counts.now c.args.word.now reference_told.0 c.in_ok-reference_in.field-0 c.requires (λ thread. omega (arith, c.type_inv.counts thread)) reference_told.1 reference_told.2
    (λ name name_told named. let names_same : name ≡ c.in_ok-name.name = let name_before = c.in_ok-name.was in cc in false≢true (c.if-is_named.ensures.1 (subst (IsNamed c.args.counts.now) names_same named)))
