use Rattle.std.proofs.Common.{◌≡◌, ◌<◌, false, Option, Some, None, refl, sym, ap, ◌∙◌, subst, arith}
use Rattle.std.specs.Prelude.{is_some}
use Rattle.std.proofs.lemmas.Bool.{false≢true}
use borrow.Author.Count.{below_more}
use Rattle.step_core.specs.Schedule.{turn}
use Rattle.shen_core.proofs.plain.Plain.any_next.Goals as goal

none_there : {A : Type 0} → (found : Option A) → is_some found ≡ false → found ≡ None
none_there None found_none = refl
none_there (Some value) found_none = absurd cc

pub loop-number-init : goal.loop-number-init
loop-number-init c = λ scripts stage shows number number_below. absurd (omega arith)

pub has_next-requires-clause-number : goal.has_next-requires-clause-number
has_next-requires-clause-number c = subst (λ seat_total. c.loop-number.number < seat_total) c.seats-number-end.ensures c.loop-number-test.true

pub returns-then-has_next-clause-busy : goal.returns-then-has_next-clause-busy
returns-then-has_next-clause-busy c = λ _ jobs scripts stage shows tells idle. false≢true (sym (ap is_some (idle c.loop-number.number (subst (λ seat_total. c.loop-number.number < seat_total) c.seats-number-end.ensures c.loop-number-test.true))) ∙ c.has_next.ensures scripts stage shows ∙ c.if-has_next.true)

pub loop-number-preserved : goal.loop-number-preserved
loop-number-preserved c =
    λ scripts stage shows.
    below_more (λ number. turn scripts stage number ≡ None) c.loop-number.number (c.loop-number.invariant scripts stage shows) (none_there _ (c.has_next.ensures scripts stage shows ∙ c.if-has_next.false))

pub returns-clause-idle : goal.returns-clause-idle
returns-clause-idle c = λ _ jobs scripts stage shows tells number number_below. c.loop-number.invariant scripts stage shows number (omega (arith, c.seats-number-end.ensures))

pub has_next-requires-clause-orders : goal.has_next-requires-clause-orders
has_next-requires-clause-orders c = c.requires

pub returns-then-has_next-clause-idle : goal.returns-then-has_next-clause-idle
returns-then-has_next-clause-idle c = λ answer_false. absurd (false≢true (sym answer_false))

pub returns-clause-busy : goal.returns-clause-busy
returns-clause-busy c = λ answer_true. absurd (false≢true answer_true)
