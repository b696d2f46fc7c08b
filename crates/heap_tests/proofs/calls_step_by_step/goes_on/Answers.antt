use Rattle.std.proofs.Common.{◌≡◌, ℕ, ◌<◌, ◌+◌, List, [], ◌∷◌, map, refl, sym, ap, ◌∙◌, subst, arith}
use Rattle.std.specs.Prelude.{slice_index, slice_index_or, nat_lt, if◌then◌else◌}
use Rattle.std.specs.List.{range_with_len}
use Rattle.std.proofs.Math.Logic.{∥∥₁_map}
use Rattle.std.proofs.lemmas.Bool.{lt-ltb}
use Rattle.std.proofs.lemmas.List.FromFn.{get_or-map-range_with_len}
use Rattle.std.proofs.lemmas.Simd.{map-map}
use Rattle.heap_words.specs.declared.config.Config.{Config}
use Rattle.heap_words.specs.Ranges.{seat_count}
use Rattle.heap_words.specs.Words.{Word, Pause, State, Left, view, write}
use Rattle.mutator.specs.Rows.{mutator_after}
use Rattle.heap_machines.specs.Shown.{no_machine}
use Rattle.image_graph.specs.State as images
use Rattle.image_graph.proofs.NamedStores.{stored}
use Rattle.step_core.specs.Actor as actors
use Rattle.step_core.specs.Machines.{may_begin, made_of_machine}
use Rattle.heap_machines.specs.FromImage.{CanBeginFrom, control_from, machine_from, actor_from, stage_from}
use Rattle.shen_core.specs.State.{machines_of}
use Rattle.heap_tests.proofs.LeftAtRest.{LeftGraph, opened, left_can_begin}
use Rattle.heap_tests.proofs.calls_step_by_step.goes_on.Goals as goal

-- the first machine is a mutator, whose thread has made so many objects
first_from : (config : Config) (words counts : List ℕ) (machines : List actors.Machine) → map (λ actor. actor.machine) (stage_from config words counts).machines ≡ machines → 0 < config.mutators
    → slice_index_or machines 0 no_machine ≡ actors.mutating (mutator_after 0 (slice_index counts 0))
unfolding stage_from
first_from config words counts machines machines_told positive =
    let made = machine_from config counts (view config words) in
    ap (λ some_machines. slice_index_or some_machines 0 no_machine) (sym machines_told ∙ map-map (λ actor. actor.machine) (actor_from config counts (view config words)) (range_with_len 0 (seat_count config.mutators config.helpers)))
    ∙ get_or-map-range_with_len made 0 (seat_count config.mutators config.helpers) 0 0 no_machine (omega arith) refl
    ∙ ap (λ is_mutator. if is_mutator then actors.mutating (mutator_after 0 (slice_index counts 0)) else (if nat_lt 0 (config.mutators + config.helpers) then actors.fresh_helper 0 else control_from (view config words))) (lt-ltb 0 config.mutators positive)

pub open_from-requires-clause-begins : goal.open_from-requires-clause-begins
open_from-requires-clause-begins c =
    let g = c.config-config.result in
    let config_before : images.config_of c.args.image ≡ g = sym c.config-config.ensures in
    let config_pause : images.config_of c.set_word.new.self ≡ g = c.set_word.ensures.config ∙ config_before in
    let config_state : images.config_of c.set_word-2.new.self ≡ g = c.set_word-2.ensures.config ∙ config_pause in
    let seat : 0 < g.mutators + g.helpers = (let one_mutator = ap (λ (config : Config). config.mutators) (sym config_before) ∙ c.requires.seats.0 in omega (arith, one_mutator)) in
    let stored_pause = stored (images.config_of c.args.image) g _ _ Pause c.pause_at.result 0 config_before tt c.pause_at.ensures c.set_word.ensures.named in
    let stored_state = stored (images.config_of c.set_word.new.self) g _ _ (State 0) c.state_at.result 0 config_pause seat c.state_at.ensures c.set_word-2.ensures.named in
    let stored_left = stored (images.config_of c.set_word-2.new.self) g _ _ Left c.left_at.result 1 config_state tt c.left_at.ensures c.set_word-3.ensures.named in
    let words : images.memory_of c.set_word-3.new.self ≡ opened (images.memory_of c.args.image) = stored_left ∙ ap (λ written. write written Left 1) (stored_state ∙ ap (λ written. write written (State 0) 0) stored_pause) in
    let config : images.config_of c.set_word-3.new.self ≡ images.config_of c.args.image = c.set_word-3.ensures.config ∙ config_state ∙ sym config_before in
    ∥∥₁_map c.requires.stands (λ (left_graph : LeftGraph (images.config_of c.args.image) (images.memory_of c.args.image) c.args.made). (
      left_graph.0,
      subst (λ (config : Config). CanBeginFrom config (images.memory_of c.set_word-3.new.self) (c.args.made ∷ []) left_graph.0) (sym config)
          (subst (λ (memory : Word → ℕ). CanBeginFrom (images.config_of c.args.image) memory (c.args.made ∷ []) left_graph.0) (sym words)
          (left_can_begin (images.config_of c.args.image) (images.memory_of c.args.image) c.args.made c.requires.seats.0 c.requires.seats.1 left_graph)),
    ))

pub returns-clause-rest : goal.returns-clause-rest
returns-clause-rest c =
    let config = c.set_word-3.ensures.config ∙ c.set_word-2.ensures.config ∙ c.set_word.ensures.config in
    ap may_begin (first_from (images.config_of c.set_word-3.new.self) (images.words_of c.set_word-3.new.self) (c.args.made ∷ []) (machines_of c.in_ok-plain.plain) c.in_ok-plain.ensures.stage.machines_are
    (let one_mutator = ap (λ (config : Config). config.mutators) config ∙ c.requires.seats.0 in omega (arith, one_mutator)))

pub returns-clause-made : goal.returns-clause-made
returns-clause-made c =
    let config = c.set_word-3.ensures.config ∙ c.set_word-2.ensures.config ∙ c.set_word.ensures.config in
    ap made_of_machine (first_from (images.config_of c.set_word-3.new.self) (images.words_of c.set_word-3.new.self) (c.args.made ∷ []) (machines_of c.in_ok-plain.plain) c.in_ok-plain.ensures.stage.machines_are
    (let one_mutator = ap (λ (config : Config). config.mutators) config ∙ c.requires.seats.0 in omega (arith, one_mutator)))
