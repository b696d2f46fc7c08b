use Rattle.std.proofs.Common.{◌<◌, ℕ, map, refl, sym, ap, ◌∙◌, subst, arith}
use Rattle.std.specs.List.{range_with_len}
use Rattle.heap_words.specs.declared.config.Config.{Config}
use Rattle.heap_words.specs.Words.{Word, Root}
use Rattle.image_graph.specs.State.{config_of, memory_of}
use Rattle.cycle_words.specs.Evacuation.Begun.{CanClearInTurn, cleared_in_turn}
use Rattle.cset_choice.proofs.ClearedInTurn.{rows_none, rows_next, rows_can}
use Rattle.cset_choice.proofs.begin.clear_all_roots.Goals as goal

pub loop-mutator-init : goal.loop-mutator-init
loop-mutator-init c = record { config = refl; words = rows_none (config_of c.args.image.now) (memory_of c.args.image.now) }

pub clear_roots-requires-clause-can : goal.clear_roots-requires-clause-can
clear_roots-requires-clause-can c =
    let config = config_of c.args.image.now in
    let memory : Word → ℕ = memory_of c.args.image.now in
    let mutator = c.loop-mutator.mutator in
    let cleared_so_far = c.loop-mutator.invariant in
    let mutator_below : mutator < config.mutators = omega (arith, c.loop-mutator-test.true, c.mutators-mutator-end.ensures, ap (λ (config : Config). config.mutators) c.config-config.ensures) in
    subst (λ (config : Config). CanClearInTurn config (memory_of c.loop-mutator.image) (map (Root mutator) (range_with_len 0 16))) (sym cleared_so_far.config)
    (subst (λ (memory : Word → ℕ). CanClearInTurn config memory (map (Root mutator) (range_with_len 0 16))) (sym cleared_so_far.words) (rows_can config memory config.mutators mutator mutator_below c.requires))

pub loop-mutator-preserved : goal.loop-mutator-preserved
loop-mutator-preserved c =
    let config = config_of c.args.image.now in
    let memory : Word → ℕ = memory_of c.args.image.now in
    let mutator = c.loop-mutator.mutator in
    let cleared_so_far = c.loop-mutator.invariant in
    let places = map (Root mutator) (range_with_len 0 16) in
    record {
      config = c.clear_roots.ensures.config ∙ cleared_so_far.config;
      words = c.clear_roots.ensures.words
          ∙ ap (λ (config : Config). cleared_in_turn config (memory_of c.loop-mutator.image) places) cleared_so_far.config
          ∙ ap (λ (memory : Word → ℕ). cleared_in_turn config memory places) cleared_so_far.words
          ∙ rows_next config memory mutator;
    }
