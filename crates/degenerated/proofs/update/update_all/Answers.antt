use Rattle.std.proofs.Common.{◌≡◌, ◌^◌, ◌<◌, ℕ, sym, ap, ◌∙◌, subst}
use Rattle.heap_words.specs.declared.config.Config.{Config}
use Rattle.heap_words.specs.Words.{Word, Cset, heap_in}
use Rattle.regions.specs.Table.{now_of}
use Rattle.image_graph.specs.State.{config_of, words_of, memory_of}
use Rattle.image_graph.proofs.Same.{memory_same, carried}
use Rattle.cycle_words.specs.Finishing.Updated.{CanUpdateAll}
use Rattle.cycle_words.specs.StillHolds.{HoldsUpdated}
use Rattle.cycle_words.proofs.Finishing.UpdatedHolds.{updated_holds, updated_sized}
use Rattle.degenerated.specs.Steps.{kept_now, fields_updated, is_of_first, roots_updated, answers_updated}
use Rattle.degenerated.proofs.KeptHeap.{kept_same, kept_from}
use Rattle.degenerated.proofs.Naming.{all}
use Rattle.degenerated.proofs.update.update_all.Goals as goal

pub update_fields-requires : goal.update_fields-requires
update_fields-requires c = carried CanUpdateAll c.args.image.now c.keep_heap.new.self c.keep_heap.ensures.unchanged c.requires

pub update_all_roots-requires : goal.update_all_roots-requires
update_all_roots-requires c =
    let config = config_of c.args.image.now in
    let begun = c.keep_heap.new.self in
    let fields_image = c.update_fields.new.image in
    let same_cset : memory_of fields_image Cset ≡ memory_of c.args.image.now Cset =
    ap (λ (memory : Word → ℕ). memory Cset) c.update_fields.ensures.words ∙ ap (λ (memory : Word → ℕ). memory Cset) (memory_same c.args.image.now begun c.keep_heap.ensures.unchanged) in
    subst (λ (config : Config). memory_of fields_image Cset < 2 ^ config.regions) (sym (c.update_fields.ensures.config ∙ c.keep_heap.ensures.unchanged.config))
    (subst (λ x. x < 2 ^ config.regions) (sym same_cset) c.requires.set)

pub update_answers-requires : goal.update_answers-requires
update_answers-requires c =
    let config = config_of c.args.image.now in
    let begun = c.keep_heap.new.self in
    let fields_image = c.update_fields.new.image in
    let roots_image = c.update_all_roots.new.image in
    let same_cset : memory_of roots_image Cset ≡ memory_of fields_image Cset = ap (λ (memory : Word → ℕ). memory Cset) c.update_all_roots.ensures.words in
    let cset_before : memory_of fields_image Cset ≡ memory_of c.args.image.now Cset =
    ap (λ (memory : Word → ℕ). memory Cset) c.update_fields.ensures.words ∙ ap (λ (memory : Word → ℕ). memory Cset) (memory_same c.args.image.now begun c.keep_heap.ensures.unchanged) in
    subst (λ (config : Config). memory_of roots_image Cset < 2 ^ config.regions) (sym (c.update_all_roots.ensures.config ∙ c.update_fields.ensures.config ∙ c.keep_heap.ensures.unchanged.config))
    (subst (λ x. x < 2 ^ config.regions) (sym (same_cset ∙ cset_before)) c.requires.set)

pub returns-clause-words : goal.returns-clause-words
returns-clause-words c =
    let old = c.args.image.now in
    let config = config_of old in
    let memory : Word → ℕ = memory_of old in
    let begun = c.keep_heap.new.self in
    let fields_image = c.update_fields.new.image in
    let roots_image = c.update_all_roots.new.image in
    let lead : ℕ → ℕ = now_of config.region_words (heap_in config (words_of old)) in
    let same_kept : kept_now begun ≡ lead = kept_from old begun c.keep_heap.ensures.unchanged c.keep_heap.ensures.kept in
    let config_one = c.update_fields.ensures.config ∙ c.keep_heap.ensures.unchanged.config in
    let config_two = c.update_all_roots.ensures.config ∙ config_one in
    let kept_one : kept_now fields_image ≡ lead = kept_same begun fields_image c.update_fields.ensures.config c.update_fields.ensures.places ∙ same_kept in
    let kept_two : kept_now roots_image ≡ lead = kept_same fields_image roots_image c.update_all_roots.ensures.config c.update_all_roots.ensures.places ∙ kept_one in
    let to_one : memory_of fields_image ≡ fields_updated config lead (is_of_first config config.regions) memory =
    c.update_fields.ensures.words
    ∙ ap (λ (f : ℕ → ℕ). fields_updated (config_of begun) f (is_of_first (config_of begun) (config_of begun).regions) (memory_of begun)) same_kept
    ∙ ap (λ (config : Config). fields_updated config lead (is_of_first config config.regions) (memory_of begun)) c.keep_heap.ensures.unchanged.config
    ∙ ap (fields_updated config lead (is_of_first config config.regions)) (memory_same old begun c.keep_heap.ensures.unchanged) in
    let to_two : memory_of roots_image ≡ roots_updated config lead config.mutators (fields_updated config lead (is_of_first config config.regions) memory) =
    c.update_all_roots.ensures.words
    ∙ ap (λ (f : ℕ → ℕ). roots_updated (config_of fields_image) f (config_of fields_image).mutators (memory_of fields_image)) kept_one
    ∙ ap (λ (config : Config). roots_updated config lead config.mutators (memory_of fields_image)) config_one
    ∙ ap (roots_updated config lead config.mutators) to_one in
    c.update_answers.ensures.words
    ∙ ap (λ (f : ℕ → ℕ). answers_updated (config_of roots_image) f (config_of roots_image).mutators (memory_of roots_image)) kept_two
    ∙ ap (λ (config : Config). answers_updated config lead config.mutators (memory_of roots_image)) config_two
    ∙ ap (answers_updated config lead config.mutators) to_two
    ∙ all config (words_of old) old.all_words

pub returns-clause-holds : goal.returns-clause-holds
returns-clause-holds c = λ block owner promises graph holds sized no_room.
    let config = config_of c.args.image.now in
    let memory : Word → ℕ = memory_of c.args.image.now in
    subst (λ (memory : Word → ℕ). HoldsUpdated config memory block owner promises graph) (sym (returns-clause-words c))
    (record { holds = updated_holds config memory block owner promises graph holds sized no_room; sized = updated_sized config memory block owner promises graph holds sized no_room })
