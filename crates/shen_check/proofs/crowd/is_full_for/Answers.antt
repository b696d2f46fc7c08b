use Rattle.std.proofs.Common.{ap, sym, subst, ◌∙◌, length}
use Rattle.shen_graph.specs.Crowd.{Held, PinnedRegions}
use Rattle.shen_graph.specs.PlainGraph.{graph_of}
use Rattle.shen_check.specs.JudgeState.{words_waiting, pins_held, names_held, words_held, regions_held}
use Rattle.shen_check.proofs.Full.{full_for}
use Rattle.shen_check.proofs.HeldFound.{words_are_held, regions_are_held}
use Rattle.shen_check.proofs.crowd.is_full_for.Goals as goal

pub returns : goal.returns
returns c =
    let config = c.args.config.now in
    let g = graph_of c.args.graph.now in
    let found_pins = c.in_ok-held.ensures ∙ ap (pins_held g) c.mutators.ensures in
    let holds : Held g c.in_ok-held_words.held_words =
    subst (Held g) (sym (c.in_ok-held_words.ensures ∙ ap (λ ps. words_held g (names_held ps)) (c.deref.ensures.value ∙ found_pins))) (words_are_held g config.mutators c.requires.pins) in
    let pins : PinnedRegions config.region_words g c.in_ok-pinned.pinned =
    subst (PinnedRegions config.region_words g) (sym (c.in_ok-pinned.ensures ∙ ap (λ number. length (regions_held number c.deref-2.result.now)) c.region_words.ensures
    ∙ ap (λ ps. length (regions_held config.region_words ps)) (c.deref-2.ensures.value ∙ found_pins))) (regions_are_held config.region_words g config.mutators c.requires.pins) in
    full_for config g c.args.work.now c.args.thread c.args.command c.in_ok-live.live c.in_ok-held_words.held_words c.in_ok-pinned.pinned c.words_waiting-waiting.result
    c.words_asked-asked.result c.saturating_sub-short.result c.saturating_sub-open.result c.saturating_sub.result c.saturating_add.result c.regions.result c.region_words-2.result
    c.in_ok-live.ensures holds pins (c.words_waiting-waiting.ensures.words ∙ ap (λ number. words_waiting c.args.work.now number c.args.thread) c.mutators-2.ensures)
    c.words_asked-asked.ensures.words c.region_words-2.ensures c.regions.ensures c.saturating_sub-short.ensures c.saturating_sub-open.ensures c.saturating_sub.ensures c.saturating_add.ensures
