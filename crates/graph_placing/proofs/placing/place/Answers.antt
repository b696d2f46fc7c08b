use Rattle.std.proofs.Common.{◌≡◌, ℕ, length, sym, ap, ◌∙◌, subst}
use Rattle.heap_words.specs.declared.config.Config.{Config}
use Rattle.heap_words.specs.Words.{Word, Left, Free, Top, write}
use Rattle.image_graph.specs.Full.{empty_regions}
use Rattle.image_graph.specs.State.{config_of, memory_of}
use Rattle.image_graph.proofs.NamedStores.{stored}
use Rattle.graph_placing.specs.PlacedHeap.{IsPlaced}
use Rattle.graph_placing.specs.Writing.{rows_placed, all_roots_stored}
use Rattle.graph_placing.proofs.Written.{written_is, is_placed}
use Rattle.graph_placing.proofs.GraphStands.{stands}
use Rattle.graph_placing.proofs.placing.place.Goals as goal

pub returns-clause-placed : goal.returns-clause-placed
returns-clause-placed c =
    let config = c.args.config in
    let text = c.args.text.now in
    let rooted : Word → ℕ = all_roots_stored config text config.mutators (rows_placed config text (length text.rows)) in
    let config_first : config_of c.in_ok-image.image ≡ config = c.in_ok-image.ensures.config in
    let config_objects : config_of c.write_objects.new.image ≡ config = c.write_objects.ensures.config ∙ config_first in
    let config_roots : config_of c.store_roots.new.image ≡ config = c.store_roots.ensures.config ∙ config_objects in
    let config_free : config_of c.free_empty.new.image ≡ config = c.free_empty.ensures.config ∙ config_roots in
    let objects : memory_of c.write_objects.new.image ≡ rows_placed config text (length text.rows) = c.write_objects.ensures.words ∙ ap (λ (config : Config). rows_placed config text (length text.rows)) config_first in
    let roots : memory_of c.store_roots.new.image ≡ rooted =
    c.store_roots.ensures.words ∙ ap (λ (config : Config). all_roots_stored config text config.mutators (memory_of c.write_objects.new.image)) config_objects ∙ ap (all_roots_stored config text config.mutators) objects in
    let free_written : memory_of c.free_empty.new.image ≡ write rooted Free (empty_regions (λ region. rooted (Top region)) config.regions) =
    c.free_empty.ensures.words
    ∙ ap (λ (config : Config). write (memory_of c.store_roots.new.image) Free (empty_regions (λ region. memory_of c.store_roots.new.image (Top region)) config.regions)) config_roots
    ∙ ap (λ (memory : Word → ℕ). write memory Free (empty_regions (λ region. memory (Top region)) config.regions)) roots in
    let left_written = stored (config_of c.free_empty.new.image) config (memory_of c.free_empty.new.image) (memory_of c.set_word.new.self) Left c.left_at.result c.mutators.result config_free tt c.left_at.ensures c.set_word.ensures.named in
    let all_written = left_written ∙ ap (write (memory_of c.free_empty.new.image) Left) c.mutators.ensures ∙ ap (λ (memory : Word → ℕ). write memory Left config.mutators) free_written ∙ written_is config text in
    subst (IsPlaced config text) (sym all_written) (is_placed config text c.requires)

pub returns-clause-stands : goal.returns-clause-stands
returns-clause-stands c = λ counts graph graph_is.
    stands c.args.config c.args.text.now c.requires (c.fits.ensures.0 c.if-not-fits.false) (memory_of c.set_word.new.self) (returns-clause-placed c) counts graph graph_is
