use Rattle.std.proofs.Common.{◌≡◌, ℕ, List, true, refl, sym, ap, ◌∙◌, subst}
use Rattle.std.proofs.lemmas.Bool.{ltb-true}
use Rattle.heap_world.specs.Change.{image_words}
use Rattle.image_graph.specs.State.{config_of}
use Rattle.collector_rows.specs.declared.control_spot.ControlSpot.{ControlSpot}
use Rattle.collector_rows.specs.declared.control_spot.ControlSpot.TheVariants.{LoadWord}
use Rattle.collector_rows.specs.Extent.{extent_after}
use Rattle.collector_rows.specs.ControlReady.{is_ready}
use Rattle.collector_rows.specs.ControlRows.{stored_next, next_spot, next_image}
use Rattle.cycle_pauses.specs.Collect.{collect_image}
use Rattle.control.specs.Fit.{fits_with}
use Rattle.control.specs.Image.{image_in, words_seen, SeesOwn}
use Rattle.control.proofs.Going.{load_own, next_own, others_seen}
use Rattle.control.proofs.pause.take_found.Goals as goal

pub take_word-requires-clause-own : goal.take_word-requires-clause-own
take_word-requires-clause-own c = subst (λ spot. SeesOwn (config_of c.args.image.now) spot c.args.starts.now) c.in-LoadWord.is c.requires.own

pub take_word-requires-clause-fit : goal.take_word-requires-clause-fit
take_word-requires-clause-fit c =
    let config = config_of c.args.image.now in
    let Fits : ControlSpot → Type 0 = λ spot. fits_with config spot c.args.last.phase (words_seen config spot c.args.starts.now (image_in c.args.image.now)) c.args.got in
    subst Fits c.in-LoadWord.is c.requires.fit

pub returns-in-LoadWord-clause-image : goal.returns-in-LoadWord-clause-image
returns-in-LoadWord-clause-image c =
    let config = config_of c.args.image.now in
    let seen_words : ControlSpot → List ℕ = λ spot. words_seen config spot c.args.starts.now (image_in c.args.image.now) in
    let Made : ControlSpot → Type 0 = λ spot. words_seen config (next_spot config c.args.last.phase c.args.last.cset c.args.last.seen (stored_next config spot (seen_words spot)) spot c.args.got) c.take_word.new.starts (image_in c.take_word.new.image) ≡ next_image collect_image config spot (seen_words spot) c.args.last.phase c.args.got in
    subst Made (sym c.in-LoadWord.is) c.take_word.ensures.image

pub returns-in-LoadWord-clause-own : goal.returns-in-LoadWord-clause-own
returns-in-LoadWord-clause-own c =
    let config = config_of c.args.image.now in
    let index = c.in-LoadWord.index in
    let extent = c.in-LoadWord.extent in
    let ready : is_ready config (LoadWord index extent) ≡ true = ap (is_ready config) (sym c.in-LoadWord.is) ∙ c.requires.ready in
    let Own : ControlSpot → Type 0 = λ spot. SeesOwn config (next_spot config c.args.last.phase c.args.last.cset c.args.last.seen (stored_next config spot (words_seen config spot c.args.starts.now (image_in c.args.image.now))) spot c.args.got) c.take_word.new.starts in
    subst Own (sym c.in-LoadWord.is) (load_own config c.take_word.new.starts (extent_after c.args.last.phase index extent c.args.got) index (ltb-true index (image_words config) ready))

pub returns-in_default-clause-image : goal.returns-in_default-clause-image
returns-in_default-clause-image c =
    let config = config_of c.args.image.now in
    let words = words_seen config c.args.spot c.args.starts.now (image_in c.args.image.now) in
    others_seen config c.args.starts.now collect_image c.args.last.phase c.args.last.cset c.args.last.seen (stored_next config c.args.spot words) c.args.spot c.args.got (image_in c.args.image.now) c.in_default.not-LoadWord refl

pub returns-in_default-clause-own : goal.returns-in_default-clause-own
returns-in_default-clause-own c =
    let config = config_of c.args.image.now in
    let words = words_seen config c.args.spot c.args.starts.now (image_in c.args.image.now) in
    next_own config c.args.starts.now c.args.last.phase c.args.last.cset c.args.last.seen (stored_next config c.args.spot words) c.args.spot c.args.got (image_in c.args.image.now) c.requires.ready refl
