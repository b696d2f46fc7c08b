use Rattle.std.proofs.Common.{◌≡◌, ℕ, sym, ap, ◌∙◌, ⊎_elim, arith}
use Rattle.std.proofs.lemmas.Bool.{cases_eq}
use Rattle.shen_graph.proofs.Lists.{any_from_zero, none_from_zero}
use Rattle.heap_words.specs.Words.{Word, Pin}
use Rattle.image_graph.specs.Pinned.{lies_in}
use Rattle.image_graph.specs.State.{config_of, memory_of}
use Rattle.image_graph.proofs.image.Image.has_pin.Goals as goal

pub loop-slot-preserved : goal.loop-slot-preserved
loop-slot-preserved c =
    let config = config_of c.args.self.now in
    let memory : Word → ℕ = memory_of c.args.self.now in
    let mutator = c.args.mutator in
    let word : c.word-word.result ≡ memory (Pin mutator c.loop-slot.slot) = c.word-word.ensures.named (Pin mutator c.loop-slot.slot) (c.requires.mutator, c.loop-slot-test.true) (sym c.pin_at.ensures) in
    λ any_slot slot_below. ⊎_elim
    (λ (last_slot : any_slot ≡ c.loop-slot.slot). ap (λ slot. lies_in config c.args.region (memory (Pin mutator slot))) last_slot ∙ ap (lies_in config c.args.region) (sym word) ∙ sym c.lies_in.ensures ∙ c.if-lies_in.false)
    (λ earlier_slot. c.loop-slot.invariant any_slot (omega (arith, slot_below, earlier_slot)))
    (cases_eq any_slot c.loop-slot.slot)

pub returns-then-lies_in : goal.returns-then-lies_in
returns-then-lies_in c =
    let config = config_of c.args.self.now in
    let memory : Word → ℕ = memory_of c.args.self.now in
    let mutator = c.args.mutator in
    let word : c.word-word.result ≡ memory (Pin mutator c.loop-slot.slot) = c.word-word.ensures.named (Pin mutator c.loop-slot.slot) (c.requires.mutator, c.loop-slot-test.true) (sym c.pin_at.ensures) in
    sym (any_from_zero (λ slot. lies_in config c.args.region (memory (Pin mutator slot))) 4 c.loop-slot.slot c.loop-slot-test.true (ap (lies_in config c.args.region) (sym word) ∙ sym c.lies_in.ensures ∙ c.if-lies_in.true))

pub returns : goal.returns
returns c = sym (none_from_zero (λ slot. lies_in (config_of c.args.self.now) c.args.region (memory_of c.args.self.now (Pin c.args.mutator slot))) 4 (λ any_slot few. c.loop-slot.invariant any_slot (omega (arith, few, c.loop-slot-test.false))))
