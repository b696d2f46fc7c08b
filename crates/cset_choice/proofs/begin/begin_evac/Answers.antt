use Rattle.std.proofs.Common.{◌≡◌, ◌++◌, ℕ, map, List, sym, ap, ◌∙◌, subst}
use Rattle.std.specs.List.{range_with_len}
use Rattle.heap_words.specs.declared.config.Config.{Config}
use Rattle.heap_words.specs.Words.{Word, Cset, Answer}
use Rattle.image_graph.specs.State.{config_of, memory_of}
use Rattle.image_graph.proofs.NamedStores.{stored}
use Rattle.cycle_words.specs.Evacuation.Choice.{chosen}
use Rattle.cycle_words.specs.Evacuation.Begun.{CanClearInTurn, with_set, cleared_in_turn, root_places, evac_started, evac_begun}
use Rattle.cycle_words.proofs.Evacuation.Clearing.{can_clear_in_turn}
use Rattle.cycle_words.specs.StillHolds.{HoldsStill}
use Rattle.cycle_words.proofs.Evacuation.ClearedHolds.{begun_holds}
use Rattle.cset_choice.proofs.ClearedInTurn.{can_front, can_back, turn_both}
use Rattle.cset_choice.proofs.EvacuationBegun.{set_stored, begun, not_begun}
use Rattle.cset_choice.proofs.begin.begin_evac.Goals as goal

abbrev answers : Config → List Word
answers config = map Answer (range_with_len 0 config.mutators)

pub returns-then-set-eq0-clause-words : goal.returns-then-set-eq0-clause-words
returns-then-set-eq0-clause-words c =
    c.spare.ensures.words ∙ not_begun (config_of c.args.image.now) (memory_of c.args.image.now) c.args.set c.if-set-eq0.true

pub clear_all_roots-requires : goal.clear_all_roots-requires
clear_all_roots-requires c =
    let config = config_of c.args.image.now in
    let memory : Word → ℕ = memory_of c.args.image.now in
    let set_image = c.set_word.new.self in
    let stored_is : memory_of set_image ≡ with_set memory (chosen config memory) =
    stored config c.config.result memory (memory_of set_image) Cset c.cset_at.result c.args.set (sym c.config.ensures) tt c.cset_at.ensures c.set_word.ensures.named
    ∙ set_stored memory c.args.set ∙ ap (with_set memory) c.requires.set in
    subst (λ (config : Config). CanClearInTurn config (memory_of set_image) (root_places config.mutators)) (sym c.set_word.ensures.config)
    (subst (λ (memory : Word → ℕ). CanClearInTurn config memory (root_places config.mutators)) (sym stored_is)
    (can_front config (root_places config.mutators) (answers config) (with_set memory (chosen config memory)) (can_clear_in_turn config memory c.requires.can)))

pub clear_answers-requires : goal.clear_answers-requires
clear_answers-requires c =
    let config = config_of c.args.image.now in
    let memory : Word → ℕ = memory_of c.args.image.now in
    let set_image = c.set_word.new.self in
    let roots_image = c.clear_all_roots.new.image in
    let stored_is : memory_of set_image ≡ with_set memory (chosen config memory) =
    stored config c.config.result memory (memory_of set_image) Cset c.cset_at.result c.args.set (sym c.config.ensures) tt c.cset_at.ensures c.set_word.ensures.named
    ∙ set_stored memory c.args.set ∙ ap (with_set memory) c.requires.set in
    let cleared_is : memory_of roots_image ≡ cleared_in_turn config (with_set memory (chosen config memory)) (root_places config.mutators) =
    c.clear_all_roots.ensures.words
    ∙ ap (λ (config : Config). cleared_in_turn config (memory_of set_image) (root_places config.mutators)) c.set_word.ensures.config
    ∙ ap (λ (memory : Word → ℕ). cleared_in_turn config memory (root_places config.mutators)) stored_is in
    subst (λ (config : Config). CanClearInTurn config (memory_of roots_image) (answers config)) (sym (c.clear_all_roots.ensures.config ∙ c.set_word.ensures.config))
    (subst (λ (memory : Word → ℕ). CanClearInTurn config memory (answers config)) (sym cleared_is)
    (can_back config (root_places config.mutators) (answers config) (with_set memory (chosen config memory)) (can_clear_in_turn config memory c.requires.can)))

pub returns-clause-words : goal.returns-clause-words
returns-clause-words c =
    let config = config_of c.args.image.now in
    let memory : Word → ℕ = memory_of c.args.image.now in
    let set_image = c.set_word.new.self in
    let roots_image = c.clear_all_roots.new.image in
    let answers_image = c.clear_answers.new.image in
    let chosen_set = c.args.set in
    let stored_is : memory_of set_image ≡ with_set memory chosen_set =
    stored config c.config.result memory (memory_of set_image) Cset c.cset_at.result chosen_set (sym c.config.ensures) tt c.cset_at.ensures c.set_word.ensures.named ∙ set_stored memory chosen_set in
    let roots : memory_of roots_image ≡ cleared_in_turn config (with_set memory chosen_set) (root_places config.mutators) =
    c.clear_all_roots.ensures.words
    ∙ ap (λ (config : Config). cleared_in_turn config (memory_of set_image) (root_places config.mutators)) c.set_word.ensures.config
    ∙ ap (λ (memory : Word → ℕ). cleared_in_turn config memory (root_places config.mutators)) stored_is in
    let all_cleared : memory_of answers_image ≡ cleared_in_turn config (with_set memory chosen_set) (root_places config.mutators ++ answers config) =
    c.clear_answers.ensures.words
    ∙ ap (λ (config : Config). cleared_in_turn config (memory_of roots_image) (answers config)) (c.clear_all_roots.ensures.config ∙ c.set_word.ensures.config)
    ∙ ap (λ (memory : Word → ℕ). cleared_in_turn config memory (answers config)) roots
    ∙ sym (turn_both config (root_places config.mutators) (answers config) (with_set memory chosen_set)) in
    c.start.ensures.words ∙ ap evac_started all_cleared ∙ begun config memory chosen_set c.if-set-eq0.false

pub returns-then-set-eq0-clause-holds : goal.returns-then-set-eq0-clause-holds
returns-then-set-eq0-clause-holds c = λ block owner promises graph holds calm.
    let config = config_of c.args.image.now in
    let memory : Word → ℕ = memory_of c.args.image.now in
    subst (λ (other_memory : Word → ℕ). HoldsStill config memory other_memory block owner promises graph) (sym (returns-then-set-eq0-clause-words c ∙ ap (evac_begun config memory) c.requires.set))
    (begun_holds config memory block owner promises graph holds calm c.requires.can)

pub returns-clause-holds : goal.returns-clause-holds
returns-clause-holds c = λ block owner promises graph holds calm.
    let config = config_of c.args.image.now in
    let memory : Word → ℕ = memory_of c.args.image.now in
    subst (λ (other_memory : Word → ℕ). HoldsStill config memory other_memory block owner promises graph) (sym (returns-clause-words c ∙ ap (evac_begun config memory) c.requires.set))
    (begun_holds config memory block owner promises graph holds calm c.requires.can)
