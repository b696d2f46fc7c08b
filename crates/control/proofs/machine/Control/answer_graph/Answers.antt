use Rattle.std.proofs.Common.{ℕ, List, ◌≡◌, drop, sym, ap, ◌∙◌, subst}
use Rattle.heap_words.specs.declared.config.Config.{Config}
use Rattle.heap_words.specs.Words.{image_start}
use Rattle.image_graph.specs.declared.image.Image.{Image}
use Rattle.image_graph.specs.Left.{StandsForSome, ShowsTheGraph}
use Rattle.image_graph.specs.State.{config_of, words_of}
use Rattle.image_graph.proofs.SameWords.{stands_same, shows_same}
use Rattle.control.specs.Seen.{config_in}
use Rattle.collector_rows.specs.ControlRows.{Controlling}
use Rattle.control.specs.Image.{image_in, image_from, words_seen}
use Rattle.control.proofs.Going.{loaded_same}
use Rattle.control.proofs.machine.Control.answer_graph.Goals as goal

-- from the image on, its words are those of the table
loaded : (config : Config) (image : Image) (table : List ℕ) → config_of image ≡ config → image_in image ≡ image_from config table → drop (image_start config) (words_of image) ≡ drop (image_start config) table
loaded given_config given_image table config image = ap (λ asked_config. drop (image_start asked_config) (words_of given_image)) (sym config) ∙ image

pub answer_graph-requires-clause-stand : goal.answer_graph-requires-clause-stand
answer_graph-requires-clause-stand c =
    let image = c.load.new.image in
    let config = config_in c.args.self.now in
    subst (λ (config : Config). StandsForSome config (words_of image)) (sym c.load.ensures.config)
    (stands_same config (words_of image) c.args.words.now (loaded config image c.args.words.now c.load.ensures.config c.load.ensures.image) c.requires.stand)

pub returns-clause-shows : goal.returns-clause-shows
returns-clause-shows c =
    let image = c.load.new.image in
    let config = config_in c.args.self.now in
    shows_same config (words_of image) c.args.words.now (loaded config image c.args.words.now c.load.ensures.config c.load.ensures.image) c.answer_graph.new.text
    (subst (λ (config : Config). ShowsTheGraph config (words_of image) c.answer_graph.new.text) c.load.ensures.config c.answer_graph.ensures.shows)

pub returns-clause-same : goal.returns-clause-same
returns-clause-same c =
    let control = c.args.self.now in
    let config = config_in control in
    let table = c.args.words.now in
    let i = c.answer_graph.new.self in
    let same_config : config_of i ≡ config = c.answer_graph.ensures.unchanged.config ∙ c.load.ensures.config in
    let image : image_in i ≡ image_from config table =
    ap (λ asked_config. drop (image_start asked_config) (words_of i)) same_config ∙ ap (drop (image_start config)) c.answer_graph.ensures.unchanged.words ∙ loaded config c.load.new.image table c.load.ensures.config c.load.ensures.image in
    let Seen : List ℕ → Controlling = λ xs. record { spot = control.spot; seen = control.last.seen; phase = control.last.phase; cset = control.last.cset; image = xs; hints = control.hints } in
    ap (λ asked_config. Seen (words_seen asked_config control.spot control.starts (image_in i))) same_config ∙ ap (λ xs. Seen (words_seen config control.spot control.starts xs)) image
    ∙ ap Seen (loaded_same config control.starts (image_from config table) (image_in control.image) control.spot c.requires.loaded)
