use Rattle.std.proofs.Common.{◌≡◌, ap, ◌∙◌, arith}
use Rattle.heap_words.specs.declared.config.Config.{Config}
use Rattle.image_graph.specs.State.{config_of, words_of, memory_of}
use Rattle.full_cycle.specs.Steps.{refused_below}
use Rattle.full_cycle.proofs.Refused.{refused_more, refused_all}
use Rattle.full_cycle.proofs.RangeWords.{nobody_waits}
use Rattle.full_cycle.proofs.refuse.refuse.Goals as goal

pub loop-mutator-preserved : goal.loop-mutator-preserved
loop-mutator-preserved c = record {
  config = c.refuse_one.ensures.config ∙ c.loop-mutator.invariant.config;
  words = refused_more (memory_of c.args.image.now) (memory_of c.loop-mutator.image) (memory_of c.refuse_one.new.image) c.loop-mutator.mutator
      c.loop-mutator.invariant.words c.refuse_one.ensures.idle c.refuse_one.ensures.waits;
}

pub returns-clause-words : goal.returns-clause-words
returns-clause-words c =
    let old = c.args.image.now in
    let all_mutators : c.loop-mutator.mutator ≡ (config_of old).mutators =
    omega (arith, c.loop-mutator-test.false, c.loop-mutator.auto.mutator-end, c.mutators-mutator-end.ensures, ap (λ (config : Config). config.mutators) c.config.ensures) in
    c.loop-mutator.invariant.words ∙ ap (λ limit. refused_below limit (memory_of old)) all_mutators
    ∙ refused_all (memory_of old) (config_of old).mutators (nobody_waits (config_of old) (words_of old))
