use Rattle.std.proofs.Common.{◌≡◌, sym, ap, ◌∙◌}
use Rattle.heap_words.specs.Words.{Phase, Cset, Claim, write}
use Rattle.image_graph.specs.State.{config_of, memory_of}
use Rattle.image_graph.proofs.NamedStores.{stored}
use Rattle.cset_choice.proofs.EvacuationBegun.{spared}
use Rattle.cset_choice.proofs.begin.spare.Goals as goal

pub returns-clause-words : goal.returns-clause-words
returns-clause-words c =
    let config = c.config-config.result in
    let config_before : config_of c.args.image.now ≡ config = sym c.config-config.ensures in
    let config_cset : config_of c.set_word.new.self ≡ config = c.set_word.ensures.config ∙ config_before in
    let config_claim : config_of c.set_word-2.new.self ≡ config = c.set_word-2.ensures.config ∙ config_cset in
    let stored_cset = stored (config_of c.args.image.now) config _ _ Cset c.cset_at.result 0 config_before tt c.cset_at.ensures c.set_word.ensures.named in
    let stored_claim = stored (config_of c.set_word.new.self) config _ _ Claim c.claim_at.result 0 config_cset tt c.claim_at.ensures c.set_word-2.ensures.named in
    let stored_phase = stored (config_of c.set_word-2.new.self) config _ _ Phase c.phase_at.result 0 config_claim tt c.phase_at.ensures c.set_word-3.ensures.named in
    stored_phase ∙ ap (λ written. write written Phase 0) (stored_claim ∙ ap (λ written. write written Claim 0) stored_cset) ∙ spared (memory_of c.args.image.now)
