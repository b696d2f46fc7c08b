use Rattle.std.proofs.Common.{◌+◌, ap, sym, ◌∙◌, subst}
use Rattle.std.specs.Prelude.{slice_index}
use Rattle.std.proofs.lemmas.List.{get_or-drop}
use Rattle.heap_words.specs.declared.access.Access.TheVariants.{Store}
use Rattle.heap_words.specs.Words.{image_start}
use Rattle.image_graph.specs.State.{words_of}
use Rattle.control.specs.Image.{image_in, words_seen, SeesOwn}
use Rattle.control.specs.Seen.{config_in, seen_control, hint_of}
use Rattle.control.proofs.Going.{unhinted, stored_row}
use Rattle.control.proofs.PartShown.{seen_reads}
use Rattle.control.proofs.machine.Control.plan_apart.Goals as goal

pub returns-in-StoreWord-clause-row : goal.returns-in-StoreWord-clause-row
returns-in-StoreWord-clause-row c =
    let control = c.args.self.now in
    let config = config_in control in
    let index = c.in-StoreWord.index in
    let extent = c.in-StoreWord.extent in
    let hinted = sym c.goes_on_at.ensures.row ∙ c.in-StoreWord.is in
    let spot = unhinted config index extent (hint_of control) control.spot hinted in
    let start = c.image_start-in-StoreWord.ensures.value ∙ ap image_start c.config-config.ensures in
    let sees_own = subst (λ asked_spot. SeesOwn config asked_spot control.starts) c.in-StoreWord.is c.goes_on_at.ensures.own in
    let read = c.word.ensures.value ∙ ap (λ first_index. slice_index (words_of control.image) (first_index + index)) start ∙ sym (get_or-drop (image_start config) (words_of control.image) index 0)
    ∙ sym (seen_reads config extent control.starts (image_in control.image) index sees_own)
    ∙ ap (λ asked_spot. slice_index (words_seen config asked_spot control.starts (image_in control.image)) index) (sym spot) in
    c.store.ensures ∙ ap (λ first_index. Store (first_index + index) c.word.result) start ∙ stored_row config index extent (hint_of control) (seen_control control) c.word.result hinted read
