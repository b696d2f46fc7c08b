use Rattle.std.proofs.Common.{List, Bool, ℕ, sym, ap, ◌∙◌, subst}
use Rattle.heap_words.specs.declared.config.Config.{Config}
use Rattle.heap_words.specs.Words.{view, table_words}
use Rattle.heap_world.specs.Walk.{IsMarked}
use Rattle.image_graph.specs.Pinned.{is_row_pinned}
use Rattle.image_graph.specs.State.{config_of, words_of, memory_of, marks_of, found_of, places_of}
use Rattle.full_cycle.proofs.Slices.{can_compact, moved, renews}
use Rattle.full_cycle.proofs.pack.pack_held.Goals as goal

pub pack_found-requires : goal.pack_found-requires
pack_found-requires c =
    let image = c.args.image.now in
    can_compact (config_of image) (is_row_pinned (config_of image) (memory_of image)) (words_of image) (marks_of image) (found_of image) image.all_words image.all_marks c.requires.found c.requires.held c.requires.can

pub returns-clause-still : goal.returns-clause-still
returns-clause-still c =
    let image = c.args.image.now in
    let packed = c.pack_found.new.self in
    subst (λ (config : Config). IsMarked config.region_words (marks_of packed) (found_of packed)) (sym c.pack_found.ensures.config)
    (subst (λ (marks : List Bool). IsMarked (config_of image).region_words marks (found_of packed)) (sym c.pack_found.ensures.marks)
    (subst (λ (found : List ℕ). IsMarked (config_of image).region_words (marks_of image) found) (sym c.pack_found.ensures.found) c.requires.found))

pub returns-clause-words : goal.returns-clause-words
returns-clause-words c =
    let image = c.args.image.now in
    let packed = c.pack_found.new.self in
    ap (λ (config : Config). view config (words_of packed)) c.pack_found.ensures.config
    ∙ moved (config_of image) (is_row_pinned (config_of image) (memory_of image)) (words_of image) (marks_of image) (found_of image) image.all_words image.all_marks c.requires.found c.requires.held c.requires.can
    (words_of packed) (places_of packed) (packed.all_words ∙ ap table_words c.pack_found.ensures.config) c.pack_found.ensures.packed

pub returns-clause-renews : goal.returns-clause-renews
returns-clause-renews c =
    let image = c.args.image.now in
    let packed = c.pack_found.new.self in
    renews (config_of image) (is_row_pinned (config_of image) (memory_of image)) (words_of image) (marks_of image) (found_of image) image.all_words image.all_marks c.requires.found c.requires.held c.requires.can
    (words_of packed) (places_of packed) (packed.all_words ∙ ap table_words c.pack_found.ensures.config) c.pack_found.ensures.packed
