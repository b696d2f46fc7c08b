use Rattle.std.proofs.Common.{◌≡◌, ◌^◌, ◌<◌, ℕ, refl, sym, ap, ◌∙◌, subst, arith}
use Rattle.heap_words.specs.declared.config.Config.{Config}
use Rattle.heap_words.specs.Words.{Word, Cset, Root, IsWord, word_at, write}
use Rattle.image_graph.specs.State.{config_of, memory_of}
use Rattle.degenerated.specs.Steps.{kept_now, updated_by, row_updated}
use Rattle.degenerated.proofs.Naming.{none_of_row, row_next, row_still}
use Rattle.degenerated.proofs.KeptHeap.{kept_same}
use Rattle.degenerated.proofs.update.update_roots.Goals as goal

pub loop-index-init : goal.loop-index-init
loop-index-init c = record { config = refl; places = refl; words = none_of_row (config_of c.args.image.now) (kept_now c.args.image.now) (memory_of c.args.image.now) c.args.mutator }

pub update_place-requires-clause-set : goal.update_place-requires-clause-set
update_place-requires-clause-set c =
    let invariant = c.loop-index.invariant in
    subst (λ (config : Config). memory_of c.loop-index.image Cset < 2 ^ config.regions) (sym invariant.config)
    (subst (λ (memory : Word → ℕ). memory Cset < 2 ^ (config_of c.args.image.now).regions) (sym invariant.words) c.requires.set)

pub loop-index-preserved : goal.loop-index-preserved
loop-index-preserved c =
    let config = config_of c.args.image.now in
    let memory : Word → ℕ = memory_of c.args.image.now in
    let mutator = c.args.mutator in
    let index = c.loop-index.index in
    let lead : ℕ → ℕ = kept_now c.args.image.now in
    let now = c.loop-index.image in
    let invariant = c.loop-index.invariant in
    let word : IsWord (config_of now) (Root mutator index) = subst (λ (config : Config). IsWord config (Root mutator index)) (sym invariant.config) (c.requires.mutator, c.loop-index-test.true) in
    let root_word : c.root_at.result ≡ word_at (config_of now) (Root mutator index) = c.root_at.ensures ∙ ap (λ (config : Config). word_at config (Root mutator index)) (c.config-config.ensures ∙ sym invariant.config) in
    record {
      config = c.update_place.ensures.config ∙ invariant.config;
      places = c.update_place.ensures.places ∙ invariant.places;
      words = c.update_place.ensures.words (Root mutator index) word (sym root_word)
          ∙ ap (λ (f : ℕ → ℕ). write (memory_of now) (Root mutator index) (updated_by (config_of now) f (memory_of now) (memory_of now (Root mutator index)))) (kept_same c.args.image.now now invariant.config invariant.places)
          ∙ ap (λ (config : Config). write (memory_of now) (Root mutator index) (updated_by config lead (memory_of now) (memory_of now (Root mutator index)))) invariant.config
          ∙ ap (λ (memory : Word → ℕ). write memory (Root mutator index) (updated_by config lead memory (memory (Root mutator index)))) invariant.words
          ∙ ap (λ root. write (row_updated config lead mutator index memory) (Root mutator index) (updated_by config lead memory root)) (row_still config lead memory mutator index)
          ∙ row_next config lead memory mutator index;
    }

pub returns-clause-words : goal.returns-clause-words
returns-clause-words c =
    let all_done : c.loop-index.index ≡ 16 = omega (arith, c.loop-index-test.false, c.loop-index.auto.index-end) in
    c.loop-index.invariant.words ∙ ap (λ roots. row_updated (config_of c.args.image.now) (kept_now c.args.image.now) c.args.mutator roots (memory_of c.args.image.now)) all_done
