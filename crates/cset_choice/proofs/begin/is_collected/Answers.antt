use Rattle.std.proofs.Common.{sym, ◌∙◌, subst}
use Rattle.std.proofs.lemmas.Bool.{true≢false}
use Rattle.heap_words.specs.declared.config.Config.{Config}
use Rattle.heap_words.specs.Words.{Heap, IsWord}
use Rattle.image_graph.specs.State.{config_of, memory_of}
use Rattle.cset_choice.proofs.Objects.{not_of_heap}
use Rattle.cset_choice.proofs.begin.is_collected.Goals as goal

pub returns-then-not-is_address : goal.returns-then-not-is_address
returns-then-not-is_address c =
    sym (not_of_heap (config_of c.args.image.now) (memory_of c.args.image.now) c.args.word c.requires
    (λ address_inside. true≢false (sym (c.is_address.ensures.1 (subst (λ (config : Config). IsWord config (Heap c.args.word)) (sym c.config-config.ensures) address_inside)) ∙ c.if-not-is_address.true)))
