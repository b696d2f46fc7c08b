use Rattle.std.proofs.Common.{◌^◌, ◌<◌, ◌≡◌, ℕ, refl, sym, ap, ◌∙◌, subst, arith}
use Rattle.heap_words.specs.declared.config.Config.{Config}
use Rattle.heap_words.specs.Words.{Word, Cset}
use Rattle.image_graph.specs.State.{config_of, memory_of}
use Rattle.degenerated.specs.Steps.{kept_now, row_updated, roots_updated}
use Rattle.degenerated.proofs.Naming.{no_roots, roots_next}
use Rattle.degenerated.proofs.KeptHeap.{kept_same}
use Rattle.degenerated.proofs.update.update_all_roots.Goals as goal

pub loop-mutator-init : goal.loop-mutator-init
loop-mutator-init c = record { config = refl; places = refl; words = no_roots (config_of c.args.image.now) (kept_now c.args.image.now) (memory_of c.args.image.now) }

pub update_roots-requires-clause-set : goal.update_roots-requires-clause-set
update_roots-requires-clause-set c =
    let invariant = c.loop-mutator.invariant in
    subst (λ (config : Config). memory_of c.loop-mutator.image Cset < 2 ^ config.regions) (sym invariant.config)
    (subst (λ (memory : Word → ℕ). memory Cset < 2 ^ (config_of c.args.image.now).regions) (sym invariant.words) c.requires)

pub loop-mutator-preserved : goal.loop-mutator-preserved
loop-mutator-preserved c =
    let config = config_of c.args.image.now in
    let memory : Word → ℕ = memory_of c.args.image.now in
    let mutator = c.loop-mutator.mutator in
    let now = c.loop-mutator.image in
    let lead : ℕ → ℕ = kept_now c.args.image.now in
    let invariant = c.loop-mutator.invariant in
    record {
      config = c.update_roots.ensures.config ∙ invariant.config;
      places = c.update_roots.ensures.places ∙ invariant.places;
      words = c.update_roots.ensures.words
          ∙ ap (λ (f : ℕ → ℕ). row_updated (config_of now) f mutator 16 (memory_of now)) (kept_same c.args.image.now now invariant.config invariant.places)
          ∙ ap (λ (config : Config). row_updated config lead mutator 16 (memory_of now)) invariant.config
          ∙ ap (row_updated config lead mutator 16) invariant.words
          ∙ roots_next config lead memory mutator;
    }

pub returns-clause-words : goal.returns-clause-words
returns-clause-words c =
    let config = config_of c.args.image.now in
    let all_done : c.loop-mutator.mutator ≡ config.mutators =
    omega (arith, c.loop-mutator-test.false, c.loop-mutator.auto.mutator-end, c.mutators-mutator-end.ensures, ap (λ (config : Config). config.mutators) c.config-config.ensures) in
    c.loop-mutator.invariant.words ∙ ap (λ mutators. roots_updated config (kept_now c.args.image.now) mutators (memory_of c.args.image.now)) all_done
