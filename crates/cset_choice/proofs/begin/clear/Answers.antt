use Rattle.std.proofs.Common.{◌≡◌, ℕ, true, sym, ap, ◌∙◌}
use Rattle.heap_words.specs.Words.{Word, write}
use Rattle.image_graph.specs.Full.{now_in}
use Rattle.image_graph.specs.State.{config_of, memory_of}
use Rattle.image_graph.proofs.NamedStores.{stored}
use Rattle.cycle_words.specs.Evacuation.Begun.{is_collected, moved_out}
use Rattle.cset_choice.proofs.EvacuationBegun.{not_cleared, cleared}
use Rattle.cset_choice.proofs.begin.clear.Goals as goal

pub returns-then-not-is_collected-clause-words : goal.returns-then-not-is_collected-clause-words
returns-then-not-is_collected-clause-words c = λ place place_inside same_place.
    let config = config_of c.args.image.now in
    let memory : Word → ℕ = memory_of c.args.image.now in
    let value : c.word-address.result ≡ memory place = c.word-address.ensures.named place place_inside same_place in
    not_cleared config memory place (ap (is_collected config memory) (sym value) ∙ sym c.is_collected.ensures ∙ c.if-not-is_collected.true)

pub returns-clause-words : goal.returns-clause-words
returns-clause-words c = λ place place_inside same_place.
    let config = config_of c.args.image.now in
    let memory : Word → ℕ = memory_of c.args.image.now in
    let value : c.word-address.result ≡ memory place = c.word-address.ensures.named place place_inside same_place in
    let object_collected : is_collected config memory (memory place) ≡ true = ap (is_collected config memory) (sym value) ∙ sym c.is_collected.ensures ∙ c.if-not-is_collected.false in
    let image_next = c.move_out-copy.new.image in
    let object_moved : memory_of image_next ≡ moved_out config memory (memory place) = c.move_out-copy.ensures.words ∙ ap (moved_out config memory) value in
    let copy : c.move_out-copy.result ≡ now_in (moved_out config memory (memory place)) (memory place) =
    c.move_out-copy.ensures.copy ∙ ap (λ (memory : Word → ℕ). now_in memory c.word-address.result) object_moved ∙ ap (now_in (moved_out config memory (memory place))) value in
    let stored_copy = stored (config_of image_next) config (memory_of image_next) (memory_of c.set_word.new.self) place c.args.at c.move_out-copy.result c.move_out-copy.ensures.config place_inside (sym same_place) c.set_word.ensures.named in
    stored_copy ∙ ap (λ written. write written place c.move_out-copy.result) object_moved ∙ ap (write (moved_out config memory (memory place)) place) copy ∙ cleared config memory place object_collected
