use Rattle.std.proofs.Common.{◌≡◌, ◌+◌, ◌-◌, ◌*◌, ◌<◌, ℕ, Bool, true, false, suc, refl, sym, ap, ◌∙◌, subst, arith}
use Rattle.heap_words.specs.declared.config.Config.{Config}
use Rattle.heap_words.specs.Words.{Word}
use Rattle.image_graph.specs.State.{config_of, memory_of}
use Rattle.cycle_words.specs.Evacuation.Copied.{CanCopyOut}
use Rattle.cycle_words.specs.Finishing.Copies.{is_left, CanCopyFrom, copied_from, is_room_from}
use Rattle.cycle_words.proofs.Finishing.Copies.{copied_none}
use Rattle.degenerated.specs.Steps.{turn_taken, has_turn_room}
use Rattle.degenerated.proofs.CopyingOut.{can_here, goes_on, room_goes_on, can_go_on, ends_here, no_room_here, room_for_none}
use Rattle.degenerated.proofs.copies.copy_set.Goals as goal

pub loop-index-init : goal.loop-index-init
loop-index-init c =
    let config = config_of c.args.image.now in
    let memory : Word → ℕ = memory_of c.args.image.now in
    let region_words = config.region_words in
    let size = config.regions * region_words in
    let same_address : region_words ≡ region_words + 0 = omega arith in
    let same_left : size ≡ size - 0 = omega arith in
    record {
      config = refl;
      words = ap (λ address. copied_from config memory address size) same_address ∙ ap (copied_from config memory (region_words + 0)) same_left;
      room = ap (λ address. is_room_from config memory address size) same_address ∙ ap (is_room_from config memory (region_words + 0)) same_left;
      can = subst (CanCopyFrom config memory (region_words + 0)) same_left (subst (λ address. CanCopyFrom config memory address size) same_address c.requires);
    }

-- what comes after so many addresses, of the words at that time
module _ (config other_config : Config) (memory now : Word → ℕ) (index : ℕ) (same_config : other_config ≡ config) (index_below : index < config.regions * config.region_words) (first : ℕ) (base : first ≡ config.region_words)
    (words : copied_from config memory config.region_words (config.regions * config.region_words) ≡ copied_from config now (config.region_words + index) (config.regions * config.region_words - index))
    (room : is_room_from config memory config.region_words (config.regions * config.region_words) ≡ is_room_from config now (config.region_words + index) (config.regions * config.region_words - index))
    (can_copy : CanCopyFrom config now (config.region_words + index) (config.regions * config.region_words - index)) where
  abbrev a : ℕ
  a = config.region_words + index

  abbrev rest : ℕ
  rest = config.regions * config.region_words - (index + 1)

  more : config.regions * config.region_words - index ≡ suc rest
  more = omega (arith, index_below)

  can_more : CanCopyFrom config now a (suc rest)
  can_more = subst (CanCopyFrom config now a) more can_copy

  next : a + 1 ≡ config.region_words + (index + 1)
  next = omega arith

  pub can_now : is_left other_config now (first + index) ≡ true → CanCopyOut other_config now (first + index)
  can_now =
      subst (λ (config : Config). is_left config now (first + index) ≡ true → CanCopyOut config now (first + index)) (sym same_config)
      (subst (λ start. is_left config now (start + index) ≡ true → CanCopyOut config now (start + index)) (sym base) (can_here config now a rest can_more))

  module _ (after : Word → ℕ) (answered : Bool) (taken : after ≡ turn_taken other_config now (first + index)) (found : answered ≡ has_turn_room other_config now (first + index)) where
    taken_here : after ≡ turn_taken config now a
    taken_here = taken ∙ ap (λ (config : Config). turn_taken config now (first + index)) same_config ∙ ap (λ start. turn_taken config now (start + index)) base

    found_here : answered ≡ has_turn_room config now a
    found_here = found ∙ ap (λ (config : Config). has_turn_room config now (first + index)) same_config ∙ ap (λ start. has_turn_room config now (start + index)) base

    module _ (told_true : answered ≡ true) where
      pub words_next : copied_from config memory config.region_words (config.regions * config.region_words) ≡ copied_from config after (config.region_words + (index + 1)) rest
      words_next =
          words ∙ ap (copied_from config now a) more ∙ goes_on config now a rest (sym found_here ∙ told_true)
          ∙ ap (λ memory_then. copied_from config memory_then (a + 1) rest) (sym taken_here) ∙ ap (λ address. copied_from config after address rest) next

      pub room_next : is_room_from config memory config.region_words (config.regions * config.region_words) ≡ is_room_from config after (config.region_words + (index + 1)) rest
      room_next =
          room ∙ ap (is_room_from config now a) more ∙ room_goes_on config now a rest (sym found_here ∙ told_true)
          ∙ ap (λ memory_then. is_room_from config memory_then (a + 1) rest) (sym taken_here) ∙ ap (λ address. is_room_from config after address rest) next

      pub can_next : CanCopyFrom config after (config.region_words + (index + 1)) rest
      can_next =
          subst (λ address. CanCopyFrom config after address rest) next
          (subst (λ memory_then. CanCopyFrom config memory_then (a + 1) rest) (sym taken_here) (can_go_on config now a rest (sym found_here ∙ told_true) can_more))

    module _ (told_false : answered ≡ false) where
      pub words_end : after ≡ copied_from config memory config.region_words (config.regions * config.region_words)
      words_end = taken_here ∙ sym (ends_here config now a rest (sym found_here ∙ told_false)) ∙ sym (ap (copied_from config now a) more) ∙ sym words

      pub room_end : false ≡ is_room_from config memory config.region_words (config.regions * config.region_words)
      room_end = sym (room ∙ ap (is_room_from config now a) more ∙ no_room_here config now a rest (sym found_here ∙ told_false))

pub copy_if_left-requires-clause-can : goal.copy_if_left-requires-clause-can
copy_if_left-requires-clause-can c =
    let config = config_of c.args.image.now in
    let invariant = c.loop-index.invariant in
    let same_config : c.config-config.result ≡ config = c.config-config.ensures in
    let index_below : c.loop-index.index < config.regions * config.region_words =
    omega (arith, c.loop-index-test.true, c.heap_size-index-end.ensures.value, ap (λ (config : Config). config.regions * config.region_words) same_config) in
    can_now config (config_of c.loop-index.image) (memory_of c.args.image.now) (memory_of c.loop-index.image) c.loop-index.index invariant.config index_below c.region_words-first.result
    (c.region_words-first.ensures ∙ ap (λ (config : Config). config.region_words) same_config) invariant.words invariant.room invariant.can

pub returns-then-not-copy_if_left-clause-words : goal.returns-then-not-copy_if_left-clause-words
returns-then-not-copy_if_left-clause-words c =
    let config = config_of c.args.image.now in
    let invariant = c.loop-index.invariant in
    let same_config : c.config-config.result ≡ config = c.config-config.ensures in
    let index_below : c.loop-index.index < config.regions * config.region_words =
    omega (arith, c.loop-index-test.true, c.heap_size-index-end.ensures.value, ap (λ (config : Config). config.regions * config.region_words) same_config) in
    words_end config (config_of c.loop-index.image) (memory_of c.args.image.now) (memory_of c.loop-index.image) c.loop-index.index invariant.config index_below c.region_words-first.result
    (c.region_words-first.ensures ∙ ap (λ (config : Config). config.region_words) same_config) invariant.words invariant.room invariant.can
    (memory_of c.copy_if_left.new.image) c.copy_if_left.result c.copy_if_left.ensures.words c.copy_if_left.ensures.room c.if-not-copy_if_left.true

pub returns-then-not-copy_if_left-clause-room : goal.returns-then-not-copy_if_left-clause-room
returns-then-not-copy_if_left-clause-room c =
    let config = config_of c.args.image.now in
    let invariant = c.loop-index.invariant in
    let same_config : c.config-config.result ≡ config = c.config-config.ensures in
    let index_below : c.loop-index.index < config.regions * config.region_words =
    omega (arith, c.loop-index-test.true, c.heap_size-index-end.ensures.value, ap (λ (config : Config). config.regions * config.region_words) same_config) in
    room_end config (config_of c.loop-index.image) (memory_of c.args.image.now) (memory_of c.loop-index.image) c.loop-index.index invariant.config index_below c.region_words-first.result
    (c.region_words-first.ensures ∙ ap (λ (config : Config). config.region_words) same_config) invariant.words invariant.room invariant.can
    (memory_of c.copy_if_left.new.image) c.copy_if_left.result c.copy_if_left.ensures.words c.copy_if_left.ensures.room c.if-not-copy_if_left.true

pub loop-index-preserved : goal.loop-index-preserved
loop-index-preserved c =
    let g = config_of c.args.image.now in
    let memory : Word → ℕ = memory_of c.args.image.now in
    let config_now = config_of c.loop-index.image in
    let now : Word → ℕ = memory_of c.loop-index.image in
    let index = c.loop-index.index in
    let invariant = c.loop-index.invariant in
    let same_config : c.config-config.result ≡ g = c.config-config.ensures in
    let index_below : index < g.regions * g.region_words =
    omega (arith, c.loop-index-test.true, c.heap_size-index-end.ensures.value, ap (λ (config : Config). config.regions * config.region_words) same_config) in
    let first = c.region_words-first.result in
    let base : first ≡ g.region_words = c.region_words-first.ensures ∙ ap (λ (config : Config). config.region_words) same_config in
    let after : Word → ℕ = memory_of c.copy_if_left.new.image in
    let answered = c.copy_if_left.result in
    let turn = c.copy_if_left.ensures in
    let copied = c.if-not-copy_if_left.false in
    record {
      config = turn.config ∙ invariant.config;
      words = words_next g config_now memory now index invariant.config index_below first base invariant.words invariant.room invariant.can after answered turn.words turn.room copied;
      room = room_next g config_now memory now index invariant.config index_below first base invariant.words invariant.room invariant.can after answered turn.words turn.room copied;
      can = can_next g config_now memory now index invariant.config index_below first base invariant.words invariant.room invariant.can after answered turn.words turn.room copied;
    }

pub returns-clause-words : goal.returns-clause-words
returns-clause-words c =
    let config = config_of c.args.image.now in
    let now : Word → ℕ = memory_of c.loop-index.image in
    let none_left : config.regions * config.region_words - c.loop-index.index ≡ 0 =
    omega (arith, c.loop-index-test.false, c.heap_size-index-end.ensures.value, ap (λ (config : Config). config.regions * config.region_words) c.config-config.ensures) in
    sym (c.loop-index.invariant.words ∙ ap (copied_from config now (config.region_words + c.loop-index.index)) none_left ∙ copied_none config now (config.region_words + c.loop-index.index) 0)

pub returns-clause-room : goal.returns-clause-room
returns-clause-room c =
    let config = config_of c.args.image.now in
    let now : Word → ℕ = memory_of c.loop-index.image in
    let none_left : config.regions * config.region_words - c.loop-index.index ≡ 0 =
    omega (arith, c.loop-index-test.false, c.heap_size-index-end.ensures.value, ap (λ (config : Config). config.regions * config.region_words) c.config-config.ensures) in
    sym (c.loop-index.invariant.room ∙ ap (is_room_from config now (config.region_words + c.loop-index.index)) none_left ∙ room_for_none config now (config.region_words + c.loop-index.index))
