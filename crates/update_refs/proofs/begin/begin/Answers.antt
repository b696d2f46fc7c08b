use Rattle.std.proofs.Common.{ap, ◌∙◌}
use Rattle.image_graph.specs.State.{config_of, words_of}
use Rattle.update_refs.specs.Steps.{update_started}
use Rattle.update_refs.proofs.UpdatingBegun.{begun}
use Rattle.update_refs.proofs.begin.begin.Goals as goal

pub returns-clause-words : goal.returns-clause-words
returns-clause-words c =
    let old = c.args.image.now in
    c.start.ensures.words ∙ ap update_started c.note_limits.ensures.words ∙ begun (config_of old) (words_of old)
