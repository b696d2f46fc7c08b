use Rattle.std.proofs.Common.{◌≡◌, ℕ, ap, ◌∙◌, arith}
use Rattle.heap_words.specs.declared.config.Config.{Config}
use Rattle.image_graph.specs.State.{config_of, memory_of}
use Rattle.graph_placing.specs.Writing.{roots_stored, all_roots_stored}
use Rattle.graph_placing.proofs.Written.{all_none, all_more}
use Rattle.std.proofs.Common.{refl}
use Rattle.graph_placing.proofs.roots.store_roots.Goals as goal

pub loop-mutator-init : goal.loop-mutator-init
loop-mutator-init c = record { config = refl; words = all_none (config_of c.args.image.now) c.args.text.now (memory_of c.args.image.now) }

pub loop-mutator-preserved : goal.loop-mutator-preserved
loop-mutator-preserved c =
    let config = config_of c.args.image.now in
    let text = c.args.text.now in
    let mutator = c.loop-mutator.mutator in
    let image_before = c.loop-mutator.image in
    let so_far = c.loop-mutator.invariant in
    record {
      config = c.store_roots_of.ensures.config ∙ so_far.config;
      words = c.store_roots_of.ensures.words ∙ ap (λ (config : Config). roots_stored config text mutator 16 (memory_of image_before)) so_far.config ∙ ap (roots_stored config text mutator 16) so_far.words ∙ all_more config text mutator (memory_of c.args.image.now);
    }

pub returns-clause-words : goal.returns-clause-words
returns-clause-words c =
    let config = config_of c.args.image.now in
    let all_mutators : c.loop-mutator.mutator ≡ config.mutators = omega (arith, c.loop-mutator-test.false, c.loop-mutator.auto.mutator-end, c.mutators-mutator-end.ensures, ap (λ (config : Config). config.mutators) c.config.ensures) in
    c.loop-mutator.invariant.words ∙ ap (λ (mutators : ℕ). all_roots_stored config c.args.text.now mutators (memory_of c.args.image.now)) all_mutators
