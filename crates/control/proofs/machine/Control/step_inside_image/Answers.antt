use Rattle.std.proofs.Common.{◌≡◌, ◌+◌, ◌<◌, length, set, ap, sym, ◌∙◌, arith}
use Rattle.std.specs.Prelude.{slice_index}
use Rattle.std.proofs.lemmas.Bool.{ltb-true}
use Rattle.std.proofs.lemmas.List.{get_or-drop, get_or_read}
use Rattle.heap_words.specs.Access.{table_index}
use Rattle.heap_words.specs.Words.{image_start}
use Rattle.heap_world.specs.Change.{image_words}
use Rattle.image_graph.specs.State.{config_of, words_of}
use Rattle.collector_rows.specs.ControlRows.{control_access, control_next}
use Rattle.collector_rows.specs.declared.extent.Extent.{Extent}
use Rattle.collector_rows.specs.declared.extent.Extent.TheVariants.{Whole}
use Rattle.collector_rows.specs.declared.control_spot.ControlSpot.TheVariants.{LoadWord, StoreWord}
use Rattle.cycle_pauses.specs.Collect.{collect_image}
use Rattle.control.specs.Image.{image_in, words_seen, is_inside_image}
use Rattle.control.specs.Seen.{config_in, seen_control}
use Rattle.control.proofs.Images.{length-image_in}
use Rattle.control.proofs.Going.{loads_on, stores_on, load_finds, load_leaves, store_puts}
use Rattle.control.proofs.machine.Control.step_inside_image.Goals as goal

pub returns-in-LoadWord-default-Whole-clause-words : goal.returns-in-LoadWord-default-Whole-clause-words
returns-in-LoadWord-default-Whole-clause-words c =
    let control = c.args.self.now in
    let config = config_in control in
    let index = c.in-LoadWord-default-Whole.index in
    let extent : c.in-LoadWord-default-Whole.extent ≡ Whole = c.in-LoadWord-default-Whole.extent-is in
    let spot : control.spot ≡ LoadWord index Whole = c.in-LoadWord-default-Whole.is ∙ ap (LoadWord index) extent in
    load_leaves config index Whole (seen_control control) c.args.words.now.items spot

pub returns-in-LoadWord-default-Whole-clause-row : goal.returns-in-LoadWord-default-Whole-clause-row
returns-in-LoadWord-default-Whole-clause-row c =
    let control = c.args.self.now in
    let config = config_in control in
    let index = c.in-LoadWord-default-Whole.index in
    let table = c.args.words.now.items in
    let extent : c.in-LoadWord-default-Whole.extent ≡ Whole = c.in-LoadWord-default-Whole.extent-is in
    let spot : control.spot ≡ LoadWord index Whole = c.in-LoadWord-default-Whole.is ∙ ap (LoadWord index) extent in
    let more_words : index + 1 < image_words config = ltb-true (index + 1) (image_words config) (ap (is_inside_image config) (sym spot) ∙ c.requires.inside) in
    let start = c.image_start.ensures.value ∙ ap image_start c.config.ensures in
    let inside : c.image_start.result + index < length table = omega (arith, start, more_words, c.requires.words) in
    let found = get_or_read table (c.image_start.result + index) c.index.result.now inside c.index.ensures 0 ∙ ap (λ first_index. slice_index table (first_index + index)) start ∙ load_finds config index Whole (seen_control control) table spot in
    let new_image = image_in c.put_word.new.image in
    ap (λ (extent : Extent). record { spot = LoadWord (index + 1) extent; seen = control.last.seen; phase = control.last.phase; cset = control.last.cset; image = words_seen (config_of c.put_word.new.image) (LoadWord (index + 1) extent) control.starts new_image; hints = control.hints }) extent
    ∙ loads_on collect_image config control.last.seen control.last.phase control.last.cset control.hints (image_in control.image) (length-image_in control.image) index c.index.result.now more_words control.starts control.spot new_image spot c.put_word.ensures.image ∙ ap (control_next collect_image config (seen_control control)) found

pub returns-in-StoreWord-default-Whole-clause-words : goal.returns-in-StoreWord-default-Whole-clause-words
returns-in-StoreWord-default-Whole-clause-words c =
    let control = c.args.self.now in
    let config = config_in control in
    let index = c.in-StoreWord-default-Whole.index in
    let table = c.args.words.now.items in
    let extent : c.in-StoreWord-default-Whole.extent ≡ Whole = c.in-StoreWord-default-Whole.extent-is in
    let spot : control.spot ≡ StoreWord index Whole = c.in-StoreWord-default-Whole.is ∙ ap (StoreWord index) extent in
    let start = c.image_start-in-StoreWord-default-Whole.ensures.value ∙ ap image_start c.config-in-StoreWord-default-Whole.ensures in
    let read = c.word.ensures.value ∙ ap (λ first_index. slice_index (words_of control.image) (first_index + index)) start ∙ sym (get_or-drop (image_start config) (words_of control.image) index 0) in
    ap (λ first_index. set table (first_index + index) c.word.result) start
    ∙ store_puts config index Whole (seen_control control) table c.word.result spot (read ∙ ap (λ asked_spot. slice_index (words_seen config asked_spot control.starts (image_in control.image)) index) (sym spot))

pub returns-in-StoreWord-default-Whole-clause-row : goal.returns-in-StoreWord-default-Whole-clause-row
returns-in-StoreWord-default-Whole-clause-row c =
    let control = c.args.self.now in
    let config = config_in control in
    let index = c.in-StoreWord-default-Whole.index in
    let table = c.args.words.now.items in
    let extent : c.in-StoreWord-default-Whole.extent ≡ Whole = c.in-StoreWord-default-Whole.extent-is in
    let spot : control.spot ≡ StoreWord index Whole = c.in-StoreWord-default-Whole.is ∙ ap (StoreWord index) extent in
    let more_words : index + 1 < image_words config = ltb-true (index + 1) (image_words config) (ap (is_inside_image config) (sym spot) ∙ c.requires.inside) in
    ap (λ (extent : Extent). record { spot = StoreWord (index + 1) extent; seen = control.last.seen; phase = control.last.phase; cset = control.last.cset; image = words_seen config (StoreWord (index + 1) extent) control.starts (image_in control.image); hints = control.hints }) extent
    ∙ stores_on collect_image config control.last.seen control.last.phase control.last.cset control.hints (image_in control.image) (length-image_in control.image) index (slice_index table (table_index (control_access config (seen_control control)))) more_words control.starts control.spot spot
