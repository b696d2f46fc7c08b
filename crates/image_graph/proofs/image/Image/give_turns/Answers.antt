use Rattle.std.proofs.Common.{◌≡◌, ◌≢◌, ◌<◌, ◌+◌, ℕ, true, false, refl, sym, ap, ◌∙◌, subst, arith}
use Rattle.std.proofs.lemmas.Bool.{true≢false}
use Rattle.heap_words.specs.declared.config.Config.{Config}
use Rattle.heap_words.specs.Words.{Word, Top, Wait}
use Rattle.heap_words.specs.Encoding.{object_words, request_shape_in}
use Rattle.regions.specs.ServedRooms.{NoneHasRoom}
use Rattle.image_graph.specs.Full.{served, served_in, room_for}
use Rattle.image_graph.specs.State.{config_of, memory_of}
use Rattle.image_graph.proofs.Turns.{served_none, turned, left_at, left_from, IsTold, told_left, told_served}
use Rattle.image_graph.proofs.image.Image.give_turns.Goals as goal
use Rattle.image_graph.proofs.image.Image.give_turns.Goals.{then-not-serve_one, else-not-serve_one}

pub loop-mutator-init : goal.loop-mutator-init
loop-mutator-init c = record {
  config = refl;
  words = served_none (config_of c.args.self.now) (memory_of c.args.self.now);
  within = c.requires;
  told = record { left = λ never. absurd (true≢false never); served = λ _ turn turn_below request_left. absurd (omega (arith, turn_below)) };
}

pub serve_one-requires-clause-mutator : goal.serve_one-requires-clause-mutator
serve_one-requires-clause-mutator c =
    omega (arith, c.loop-mutator-test.true, c.mutators-mutator-end.ensures, ap (λ (config : Config). config.mutators) (c.config.ensures ∙ sym c.loop-mutator.invariant.config))

pub loop-mutator-preserved : goal.loop-mutator-preserved
loop-mutator-preserved c =
    let config = config_of c.args.self.now in
    let memory : Word → ℕ = memory_of c.args.self.now in
    let mutator = c.loop-mutator.mutator in
    let before : Word → ℕ = memory_of c.loop-mutator.self in
    let same_config : config_of c.loop-mutator.self ≡ config = c.loop-mutator.invariant.config in
    let so_far : before ≡ served config memory mutator = c.loop-mutator.invariant.words in
    let mutator_below : mutator < config.mutators = omega (arith, c.loop-mutator-test.true, c.mutators-mutator-end.ensures, ap (λ (config : Config). config.mutators) c.config.ensures) in
    let words_after : memory_of c.serve_one.new.self ≡ served config memory (mutator + 1) =
    turned config memory (memory_of c.serve_one.new.self) mutator
    (λ no_wait. c.serve_one.ensures.idle (ap (λ memory_then. memory_then (Wait mutator)) so_far ∙ no_wait) ∙ so_far)
    (λ waits. c.serve_one.ensures.waits (λ not_waiting. waits (ap (λ memory_then. memory_then (Wait mutator)) (sym so_far) ∙ not_waiting))
    ∙ ap (λ (config : Config). served_in config before mutator (room_for config before mutator)) same_config
    ∙ ap (λ memory_then. served_in config memory_then mutator (room_for config memory_then mutator)) so_far) in
    -- what a turn without room says, over the words by the definition
    let no_room : (before (Wait mutator) ≢ 0) × NoneHasRoom (config_of c.loop-mutator.self).region_words (λ region. before (Top region)) (object_words (request_shape_in (before (Wait mutator)))) (config_of c.loop-mutator.self).regions
    → (served config memory mutator (Wait mutator) ≢ 0) × NoneHasRoom config.region_words (λ region. served config memory mutator (Top region)) (object_words (request_shape_in (served config memory mutator (Wait mutator)))) config.regions =
    λ left_before. subst (λ (memory : Word → ℕ). (memory (Wait mutator) ≢ 0) × NoneHasRoom config.region_words (λ region. memory (Top region)) (object_words (request_shape_in (memory (Wait mutator)))) config.regions) so_far
    (subst (λ (config : Config). (before (Wait mutator) ≢ 0) × NoneHasRoom config.region_words (λ region. before (Top region)) (object_words (request_shape_in (before (Wait mutator)))) config.regions) same_config left_before) in
    let and_back : (served config memory mutator (Wait mutator) ≢ 0) × NoneHasRoom config.region_words (λ region. served config memory mutator (Top region)) (object_words (request_shape_in (served config memory mutator (Wait mutator)))) config.regions
    → (before (Wait mutator) ≢ 0) × NoneHasRoom (config_of c.loop-mutator.self).region_words (λ region. before (Top region)) (object_words (request_shape_in (before (Wait mutator)))) (config_of c.loop-mutator.self).regions =
    λ left_before. subst (λ (config : Config). (before (Wait mutator) ≢ 0) × NoneHasRoom config.region_words (λ region. before (Top region)) (object_words (request_shape_in (before (Wait mutator)))) config.regions) (sym same_config)
    (subst (λ (memory : Word → ℕ). (memory (Wait mutator) ≢ 0) × NoneHasRoom config.region_words (λ region. memory (Top region)) (object_words (request_shape_in (memory (Wait mutator)))) config.regions) (sym so_far) left_before) in
    record {
      config = c.serve_one.ensures.config ∙ same_config;
      words = words_after;
      within = c.serve_one.ensures.within;
      told = elim c.if-not-serve_one.branch [
        | then-not-serve_one w ↦
            let not_served : c.serve_one.result ≡ false = cc in
            let request_left = no_room (c.serve_one.ensures.left.0 not_served) in
            subst (IsTold config memory (mutator + 1)) (sym w.all-is) (told_left config memory mutator (left_at config memory mutator mutator_below request_left.0 request_left.1))
        | else-not-serve_one w ↦
            let was_served : c.serve_one.result ≡ true = cc in
            subst (IsTold config memory (mutator + 1)) (sym w.all-is)
            (told_served config memory mutator c.loop-mutator.all
            (λ request_left. true≢false (sym was_served ∙ c.serve_one.ensures.left.1 (and_back (left_from config memory mutator request_left)))) c.loop-mutator.invariant.told)
      ];
    }
