use Rattle.std.proofs.Common.{◌≡◌, ◌∙◌, ap, arith}
use Rattle.heap_world.specs.Change.{image_words}
use Rattle.image_graph.specs.State.{config_of}
use Rattle.control.proofs.Images.{image-loaded}
use Rattle.control.proofs.pause.load.Goals as goal

pub returns-clause-image : goal.returns-clause-image
returns-clause-image c =
    let config = config_of c.args.image.now in
    let count : c.image_words-index-end.result ≡ image_words config = c.image_words-index-end.ensures ∙ ap image_words c.config-config.ensures in
    image-loaded config c.loop-index.image c.args.words.now c.loop-index.invariant.config c.requires.words
    (λ index index_below. c.loop-index.invariant.loaded index (omega (arith, index_below, count, c.loop-index-test.false)))
