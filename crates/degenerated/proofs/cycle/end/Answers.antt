use Rattle.std.proofs.Common.{◌≡◌, ℕ, ◌&&◌, true, false, refl, sym, ap, ◌∙◌, subst}
use Rattle.std.proofs.lemmas.Bool.{true≢false}
use Rattle.heap_words.specs.declared.config.Config.{Config}
use Rattle.heap_words.specs.Words.{Word}
use Rattle.image_graph.specs.Full.{served}
use Rattle.image_graph.specs.State.{config_of, memory_of}
use Rattle.image_graph.specs.Left.{IsLeft}
use Rattle.image_graph.specs.Make.{AreWithin}
use Rattle.cycle_words.specs.Finishing.Updated.{all_updated}
use Rattle.cycle_words.specs.Finishing.Copies.{is_room_for_all, all_copied}
use Rattle.cycle_words.specs.Finishing.Finish.{CanFree, set_freed, cycle_finished, finished_from, nobody_waits}
use Rattle.degenerated.proofs.Finishing.{stops_short, goes_through, all_served, not_all_served, whole_is, within_still}
use Rattle.degenerated.proofs.cycle.end.Goals as goal

-- the words when who waits is served
to_end : (g second_config third_config : Config) (memory first_memory second_memory third_memory : Word → ℕ) → second_config ≡ g → third_config ≡ second_config → first_memory ≡ all_copied g memory → second_memory ≡ all_updated second_config first_memory → third_memory ≡ set_freed third_config second_memory → third_memory ≡ cycle_finished g memory
to_end first_config second_config third_config memory first_memory second_memory third_memory same_d same_e to_one to_two to_three =
    to_three
    ∙ ap (λ (config : Config). set_freed config second_memory) (same_e ∙ same_d)
    ∙ ap (set_freed first_config) (to_two ∙ ap (λ (config : Config). all_updated config first_memory) same_d ∙ ap (all_updated first_config) to_one)

pub returns-then-not-copy_rest-clause-words : goal.returns-then-not-copy_rest-clause-words
returns-then-not-copy_rest-clause-words c =
    let config = config_of c.args.image.now in
    let memory : Word → ℕ = memory_of c.args.image.now in
    c.copy_rest.ensures.words ∙ stops_short config memory (sym c.copy_rest.ensures.room ∙ c.if-not-copy_rest.true)

pub end_cycle-requires : goal.end_cycle-requires
end_cycle-requires c =
    let config = config_of c.args.image.now in
    let memory : Word → ℕ = memory_of c.args.image.now in
    let copied_image = c.copy_rest.new.image in
    let updated_image = c.update_all.new.image in
    let room : is_room_for_all config memory ≡ true = sym c.copy_rest.ensures.room ∙ c.if-not-copy_rest.false in
    let same_config : config_of updated_image ≡ config = c.update_all.ensures.config ∙ c.copy_rest.ensures.config in
    let words : memory_of updated_image ≡ all_updated config (all_copied config memory) =
    c.update_all.ensures.words ∙ ap (λ (config : Config). all_updated config (memory_of copied_image)) c.copy_rest.ensures.config ∙ ap (all_updated config) c.copy_rest.ensures.words in
    subst (λ (config : Config). CanFree config (memory_of updated_image)) (sym same_config) (subst (CanFree config) (sym words) (c.requires.frees room))

pub give_turns-requires : goal.give_turns-requires
give_turns-requires c =
    let config = config_of c.args.image.now in
    let memory : Word → ℕ = memory_of c.args.image.now in
    let copied_image = c.copy_rest.new.image in
    let updated_image = c.update_all.new.image in
    let ended_image = c.end_cycle.new.image in
    let words = to_end config (config_of copied_image) (config_of updated_image) memory (memory_of copied_image) (memory_of updated_image) (memory_of ended_image) c.copy_rest.ensures.config c.update_all.ensures.config
    c.copy_rest.ensures.words c.update_all.ensures.words c.end_cycle.ensures.words in
    let same_config : config_of ended_image ≡ config = c.end_cycle.ensures.config ∙ c.update_all.ensures.config ∙ c.copy_rest.ensures.config in
    let room : is_room_for_all config memory ≡ true = sym c.copy_rest.ensures.room ∙ c.if-not-copy_rest.false in
    subst (λ (config : Config). AreWithin config (memory_of ended_image)) (sym same_config)
    (subst (AreWithin config) (sym words) (within_still config (all_copied config memory) (c.requires.updates room).within))

pub returns-then-give_turns-clause-words : goal.returns-then-give_turns-clause-words
returns-then-give_turns-clause-words c =
    let config = config_of c.args.image.now in
    let memory : Word → ℕ = memory_of c.args.image.now in
    let copied_image = c.copy_rest.new.image in
    let updated_image = c.update_all.new.image in
    let ended_image = c.end_cycle.new.image in
    let words = to_end config (config_of copied_image) (config_of updated_image) memory (memory_of copied_image) (memory_of updated_image) (memory_of ended_image) c.copy_rest.ensures.config c.update_all.ensures.config
    c.copy_rest.ensures.words c.update_all.ensures.words c.end_cycle.ensures.words in
    let same_config : config_of ended_image ≡ config = c.end_cycle.ensures.config ∙ c.update_all.ensures.config ∙ c.copy_rest.ensures.config in
    let room : is_room_for_all config memory ≡ true = sym c.copy_rest.ensures.room ∙ c.if-not-copy_rest.false in
    c.give_turns.ensures.words ∙ ap (λ (config : Config). served config (memory_of ended_image) config.mutators) same_config ∙ ap (λ (memory : Word → ℕ). served config memory config.mutators) words ∙ goes_through config memory room

pub returns-then-give_turns-clause-whole : goal.returns-then-give_turns-clause-whole
returns-then-give_turns-clause-whole c =
    let config = config_of c.args.image.now in
    let memory : Word → ℕ = memory_of c.args.image.now in
    let copied_image = c.copy_rest.new.image in
    let updated_image = c.update_all.new.image in
    let ended_image = c.end_cycle.new.image in
    let words = to_end config (config_of copied_image) (config_of updated_image) memory (memory_of copied_image) (memory_of updated_image) (memory_of ended_image) c.copy_rest.ensures.config c.update_all.ensures.config
    c.copy_rest.ensures.words c.update_all.ensures.words c.end_cycle.ensures.words in
    let same_config : config_of ended_image ≡ config = c.end_cycle.ensures.config ∙ c.update_all.ensures.config ∙ c.copy_rest.ensures.config in
    let room : is_room_for_all config memory ≡ true = sym c.copy_rest.ensures.room ∙ c.if-not-copy_rest.false in
    let none_left : (mutator : ℕ) → IsLeft config (cycle_finished config memory) mutator → ⊥ = λ mutator is_left.
    c.give_turns.ensures.served c.if-give_turns.true mutator
    (subst (λ (config : Config). IsLeft config (memory_of ended_image) mutator) (sym same_config) (subst (λ (memory : Word → ℕ). IsLeft config memory mutator) (sym words) is_left)) in
    let whole : (is_room_for_all config memory && nobody_waits config (finished_from config memory)) ≡ true = whole_is config memory room ∙ all_served config (cycle_finished config memory) none_left in
    (λ same_answer. whole, λ told. refl)

pub returns-else-give_turns-clause-words : goal.returns-else-give_turns-clause-words
returns-else-give_turns-clause-words c =
    let config = config_of c.args.image.now in
    let memory : Word → ℕ = memory_of c.args.image.now in
    let copied_image = c.copy_rest.new.image in
    let updated_image = c.update_all.new.image in
    let ended_image = c.end_cycle.new.image in
    let words = to_end config (config_of copied_image) (config_of updated_image) memory (memory_of copied_image) (memory_of updated_image) (memory_of ended_image) c.copy_rest.ensures.config c.update_all.ensures.config
    c.copy_rest.ensures.words c.update_all.ensures.words c.end_cycle.ensures.words in
    let same_config : config_of ended_image ≡ config = c.end_cycle.ensures.config ∙ c.update_all.ensures.config ∙ c.copy_rest.ensures.config in
    let room : is_room_for_all config memory ≡ true = sym c.copy_rest.ensures.room ∙ c.if-not-copy_rest.false in
    c.give_turns.ensures.words ∙ ap (λ (config : Config). served config (memory_of ended_image) config.mutators) same_config ∙ ap (λ (memory : Word → ℕ). served config memory config.mutators) words ∙ goes_through config memory room

pub returns-else-give_turns-clause-whole : goal.returns-else-give_turns-clause-whole
returns-else-give_turns-clause-whole c =
    let config = config_of c.args.image.now in
    let memory : Word → ℕ = memory_of c.args.image.now in
    let copied_image = c.copy_rest.new.image in
    let updated_image = c.update_all.new.image in
    let ended_image = c.end_cycle.new.image in
    let words = to_end config (config_of copied_image) (config_of updated_image) memory (memory_of copied_image) (memory_of updated_image) (memory_of ended_image) c.copy_rest.ensures.config c.update_all.ensures.config
    c.copy_rest.ensures.words c.update_all.ensures.words c.end_cycle.ensures.words in
    let same_config : config_of ended_image ≡ config = c.end_cycle.ensures.config ∙ c.update_all.ensures.config ∙ c.copy_rest.ensures.config in
    let room : is_room_for_all config memory ≡ true = sym c.copy_rest.ensures.room ∙ c.if-not-copy_rest.false in
    let left_told = c.give_turns.ensures.left c.if-give_turns.false in
    let one_left : IsLeft config (cycle_finished config memory) left_told.0 =
    subst (λ (memory : Word → ℕ). IsLeft config memory left_told.0) words (subst (λ (config : Config). IsLeft config (memory_of ended_image) left_told.0) same_config left_told.1) in
    let short : (is_room_for_all config memory && nobody_waits config (finished_from config memory)) ≡ false = whole_is config memory room ∙ not_all_served config (cycle_finished config memory) left_told.0 one_left in
    (λ same_answer. search, λ whole. absurd (true≢false (sym whole ∙ short)))
