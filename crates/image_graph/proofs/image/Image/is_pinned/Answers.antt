use Rattle.std.proofs.Common.{◌≡◌, sym, ap, ◌∙◌, ⊎_elim, arith}
use Rattle.std.proofs.lemmas.Bool.{cases_eq}
use Rattle.shen_graph.proofs.Lists.{any_from_zero, none_from_zero}
use Rattle.image_graph.specs.Pinned.{has_pin}
use Rattle.image_graph.specs.State.{config_of, memory_of}
use Rattle.image_graph.proofs.image.Image.is_pinned.Goals as goal

pub loop-mutator-preserved : goal.loop-mutator-preserved
loop-mutator-preserved c = λ mutator mutator_below. ⊎_elim
    (λ (last_mutator : mutator ≡ c.loop-mutator.mutator). ap (has_pin (config_of c.args.self.now) (memory_of c.args.self.now) c.args.region) last_mutator ∙ sym c.has_pin.ensures ∙ c.if-has_pin.false)
    (λ earlier_mutator. c.loop-mutator.invariant mutator (omega (arith, mutator_below, earlier_mutator)))
    (cases_eq mutator c.loop-mutator.mutator)

pub returns-then-has_pin : goal.returns-then-has_pin
returns-then-has_pin c =
    let config = config_of c.args.self.now in
    sym (any_from_zero (has_pin config (memory_of c.args.self.now) c.args.region) config.mutators c.loop-mutator.mutator (omega (arith, c.loop-mutator-test.true, c.mutators-mutator-end.ensures)) (sym c.has_pin.ensures ∙ c.if-has_pin.true))

pub returns : goal.returns
returns c =
    let config = config_of c.args.self.now in
    sym (none_from_zero (has_pin config (memory_of c.args.self.now) c.args.region) config.mutators (λ mutator mutator_below. c.loop-mutator.invariant mutator (omega (arith, mutator_below, c.loop-mutator-test.false, c.mutators-mutator-end.ensures))))
