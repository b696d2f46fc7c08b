use Rattle.std.proofs.Common.{◌∙◌, Some, ap, sym, below_more, arith}
use Rattle.std.proofs.lemmas.Slice.Eq.{bytes_eq-Decides}
use Rattle.std.proofs.lemmas.Bool.{false≢true}
use Rattle.heap_words.proofs.Codes.{row_found, row_only, row_none}
use Rattle.heap_words.proofs.place.Place.of.Goals as goal

pub returns-then-eq-clause-found : goal.returns-then-eq-clause-found
returns-then-eq-clause-found c =
    row_found c.args.code c.loop-place.place-index c.loop-place-test.true ((bytes_eq-Decides _ _).0 (sym c.eq.ensures ∙ c.if-eq.true))

pub returns-then-eq-clause-undone : goal.returns-then-eq-clause-undone
returns-then-eq-clause-undone c place spelled =
    ap Some (row_only c.args.code c.loop-place.place-index c.loop-place-test.true ((bytes_eq-Decides _ _).0 (sym c.eq.ensures ∙ c.if-eq.true)) place spelled)

pub loop-place-preserved : goal.loop-place-preserved
loop-place-preserved c =
    below_more _ _ c.loop-place.invariant (λ same_bytes. false≢true (sym c.if-eq.false ∙ c.eq.ensures ∙ (bytes_eq-Decides _ _).1 same_bytes))

pub returns-clause-unknown : goal.returns-clause-unknown
returns-clause-unknown c = row_none c.args.code (λ row row_below. c.loop-place.invariant row (omega arith))

pub returns-clause-undone : goal.returns-clause-undone
returns-clause-undone c place spelled = absurd (row_none c.args.code (λ row row_below. c.loop-place.invariant row (omega arith)) place spelled)
