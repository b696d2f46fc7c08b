use Rattle.std.proofs.Common.{◌≡◌, List, ℕ, ap, ◌∙◌}
use Rattle.heap_words.specs.declared.config.Config.{Config}
use Rattle.heap_words.specs.Words.{view}
use Rattle.image_graph.specs.State as images
use Rattle.heap_machines.specs.Reopened.{words_reopened}
use Rattle.table_heap.specs.Closed as ends
use Rattle.heap_seats.proofs.Followed.{if_ok, reopened_can, seats_kept}
use Rattle.heap_seats.proofs.renewing.reopened_seats.Goals as goal

pub open_seats_from-requires-clause-begins : goal.open_seats_from-requires-clause-begins
open_seats_from-requires-clause-begins c =
    let config = ends.config_of c.args.closed in
    let old = c.into_image-image in
    let same_config : images.config_of old.result ≡ config = old.ensures.config in
    let words = c.reopen_words.ensures.words ∙ ap (λ (config : Config). words_reopened config (view config (images.words_of old.result))) same_config ∙ ap (λ (counts : List ℕ). words_reopened config (view config counts)) old.ensures.words in
    reopened_can config c.reopen_words.new.image (c.reopen_words.ensures.config ∙ same_config) c.args.counts.items (ends.stage_of c.args.closed) c.requires.rest c.requires.counts words c.requires.begins

pub returns : goal.returns
returns c =
    let config = ends.config_of c.args.closed in
    let old = c.into_image-image in
    let same_config : images.config_of old.result ≡ config = old.ensures.config in
    let words = c.reopen_words.ensures.words ∙ ap (λ (config : Config). words_reopened config (view config (images.words_of old.result))) same_config ∙ ap (λ (counts : List ℕ). words_reopened config (view config counts)) old.ensures.words in
    if_ok c.open_seats_from.result _ _
    (λ seats fresh. seats_kept config c.reopen_words.new.image (c.reopen_words.ensures.config ∙ same_config) c.args.counts.items (ends.stage_of c.args.closed) c.requires.rest c.requires.counts words seats.items fresh)
    c.open_seats_from.ensures
