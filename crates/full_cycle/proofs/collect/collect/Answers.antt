use Rattle.std.proofs.Common.{◌≡◌, ℕ, sym, ap, ◌∙◌}
use Rattle.heap_words.specs.declared.config.Config.{Config}
use Rattle.heap_words.specs.Words.{Word}
use Rattle.image_graph.specs.Full.{held_in, served, refused}
use Rattle.image_graph.specs.State.{config_of, memory_of}
use Rattle.full_cycle.specs.Collect.{CanCollect}
use Rattle.image_graph.proofs.Same.{memory_same, carried}
use Rattle.full_cycle.proofs.Holding.{can_collect_some, kept_begin_some}
use Rattle.full_cycle.proofs.Whole.{can_fill_still, roots_in_table, answers_in_table, six_config, six_words, six_within}
use Rattle.full_cycle.proofs.collect.collect.Goals as goal

pub find_held-requires : goal.find_held-requires
find_held-requires c = can_collect_some (config_of c.args.image.now) (memory_of c.args.image.now) c.requires

pub pack_held-requires-clause-can : goal.pack_held-requires-clause-can
pack_held-requires-clause-can c =
    let old = c.args.image.now in
    carried (λ config memory. CanCollect config memory) old c.find_held.new.image c.find_held.ensures.unchanged (can_collect_some (config_of old) (memory_of old) c.requires)

pub pack_held-requires-clause-held : goal.pack_held-requires-clause-held
pack_held-requires-clause-held c =
    let old = c.args.image.now in
    let found_image = c.find_held.new.image in
    let unchanged = c.find_held.ensures.unchanged in
    c.find_held.ensures.held ∙ sym (ap (λ (config : Config). held_in config (memory_of found_image)) unchanged.config ∙ ap (λ (memory : Word → ℕ). held_in (config_of old) memory) (memory_same old found_image unchanged))

pub fill_unkept-requires-clause-can : goal.fill_unkept-requires-clause-can
fill_unkept-requires-clause-can c =
    let old = c.args.image.now in
    can_fill_still old c.find_held.new.image c.pack_held.new.image (can_collect_some (config_of old) (memory_of old) c.requires)
    c.find_held.ensures.unchanged c.pack_held.ensures.config c.pack_held.ensures.words c.pack_held.ensures.renews
    (kept_begin_some (config_of old) (memory_of old) c.requires)

pub renew_roots-requires-clause-roots : goal.renew_roots-requires-clause-roots
renew_roots-requires-clause-roots c =
    let old = c.args.image.now in
    roots_in_table old c.find_held.new.image c.pack_held.new.image (can_collect_some (config_of old) (memory_of old) c.requires)
    c.find_held.ensures.unchanged c.pack_held.ensures.config c.pack_held.ensures.words c.pack_held.ensures.renews
    c.fill_unkept.new.image (c.pack_held.ensures.found ∙ c.find_held.ensures.held) c.fill_unkept.ensures.config c.fill_unkept.ensures.places c.fill_unkept.ensures.words

pub renew_roots-requires-clause-answers : goal.renew_roots-requires-clause-answers
renew_roots-requires-clause-answers c =
    let old = c.args.image.now in
    answers_in_table old c.find_held.new.image c.pack_held.new.image (can_collect_some (config_of old) (memory_of old) c.requires)
    c.find_held.ensures.unchanged c.pack_held.ensures.config c.pack_held.ensures.words c.pack_held.ensures.renews
    c.fill_unkept.new.image (c.pack_held.ensures.found ∙ c.find_held.ensures.held) c.fill_unkept.ensures.config c.fill_unkept.ensures.places c.fill_unkept.ensures.words

pub give_turns-requires : goal.give_turns-requires
give_turns-requires c =
    let old = c.args.image.now in
    six_within old c.find_held.new.image c.pack_held.new.image (can_collect_some (config_of old) (memory_of old) c.requires)
    c.find_held.ensures.unchanged c.pack_held.ensures.config c.pack_held.ensures.words c.pack_held.ensures.renews
    c.fill_unkept.new.image (c.pack_held.ensures.found ∙ c.find_held.ensures.held) c.fill_unkept.ensures.config c.fill_unkept.ensures.places c.fill_unkept.ensures.words
    (kept_begin_some (config_of old) (memory_of old) c.requires)
    c.renew_roots.new.image c.clear_collection.new.image c.free_empty.new.image
    c.renew_roots.ensures.config c.clear_collection.ensures.config c.free_empty.ensures.config
    c.renew_roots.ensures.words c.clear_collection.ensures.words c.free_empty.ensures.words

pub returns-clause-words : goal.returns-clause-words
returns-clause-words c =
    let old = c.args.image.now in
    let six = c.free_empty.new.image in
    let can_collect = can_collect_some (config_of old) (memory_of old) c.requires in
    let begin = kept_begin_some (config_of old) (memory_of old) c.requires in
    let config : config_of six ≡ config_of old =
    six_config old c.find_held.new.image c.pack_held.new.image can_collect
    c.find_held.ensures.unchanged c.pack_held.ensures.config c.pack_held.ensures.words c.pack_held.ensures.renews
    c.fill_unkept.new.image (c.pack_held.ensures.found ∙ c.find_held.ensures.held) c.fill_unkept.ensures.config c.fill_unkept.ensures.places c.fill_unkept.ensures.words begin
    c.renew_roots.new.image c.clear_collection.new.image six
    c.renew_roots.ensures.config c.clear_collection.ensures.config c.free_empty.ensures.config
    c.renew_roots.ensures.words c.clear_collection.ensures.words c.free_empty.ensures.words in
    let words =
    six_words old c.find_held.new.image c.pack_held.new.image can_collect
    c.find_held.ensures.unchanged c.pack_held.ensures.config c.pack_held.ensures.words c.pack_held.ensures.renews
    c.fill_unkept.new.image (c.pack_held.ensures.found ∙ c.find_held.ensures.held) c.fill_unkept.ensures.config c.fill_unkept.ensures.places c.fill_unkept.ensures.words begin
    c.renew_roots.new.image c.clear_collection.new.image six
    c.renew_roots.ensures.config c.clear_collection.ensures.config c.free_empty.ensures.config
    c.renew_roots.ensures.words c.clear_collection.ensures.words c.free_empty.ensures.words in
    c.refuse.ensures.words
    ∙ ap refused (c.give_turns.ensures.words
    ∙ ap (λ (config : Config). served config (memory_of six) config.mutators) config
    ∙ ap (λ (memory : Word → ℕ). served (config_of old) memory (config_of old).mutators) words)
