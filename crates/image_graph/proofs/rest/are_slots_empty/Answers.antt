use Rattle.std.proofs.Common.{◌≡◌, ℕ, ◌<◌, sym, ◌∙◌, subst, arith}
use borrow.Author.Count.{below_more}
use Rattle.heap_words.specs.declared.config.Config.{Config}
use Rattle.heap_words.specs.Words.{Word, Pin}
use Rattle.image_graph.specs.State.{config_of, memory_of}
use Rattle.image_graph.proofs.ObjectAddresses.{read, placed}
use Rattle.image_graph.proofs.rest.are_slots_empty.Goals as goal

pub pin_at-requires : goal.pin_at-requires
pin_at-requires c = (subst (λ (config : Config). c.args.mutator < config.mutators) (sym c.config-config.ensures) c.requires, c.loop-slot-test.true)

pub word-requires : goal.word-requires
word-requires c = placed _ _ (Pin c.args.mutator c.loop-slot.slot) _ c.config-config.ensures (c.requires, c.loop-slot-test.true) c.pin_at.ensures

pub loop-slot-preserved : goal.loop-slot-preserved
loop-slot-preserved c =
    let memory : Word → ℕ = memory_of c.args.image.now in
    let slot = c.loop-slot.slot in
    let word : c.word.result ≡ memory (Pin c.args.mutator slot) =
    read (config_of c.args.image.now) _ memory (Pin c.args.mutator slot) _ _ c.config-config.ensures (c.requires, c.loop-slot-test.true) c.pin_at.ensures c.word.ensures.named in
    below_more (λ (slot : ℕ). memory (Pin c.args.mutator slot) ≡ 0) slot c.loop-slot.invariant (sym word ∙ c.if-word-ne0.false)

pub returns : goal.returns
returns c = λ _ slot slot_below. c.loop-slot.invariant slot (omega (arith, slot_below, c.loop-slot-test.false))
