-- An event of a mutator leads from a stage that follows its history to one that does.
use Rattle.std.proofs.Common.{◌≡◌, ◌≢◌, ℕ, ◌+◌, ◌<◌, ⊎_elim, true, false, List, [], ◌++◌, Option, Some, None, refl, sym, ap, ◌∙◌, subst, arith}
use Rattle.std.specs.Prelude.{◌==◌, slice_get, slice_set, slice_index, if◌then◌else◌}
use Rattle.std.proofs.lemmas.List.{length-set}
use Rattle.std.proofs.lemmas.Bool.{lt-ltb, false≢true}
use Rattle.heap_words.specs.declared.config.Config.{Config}
use Rattle.shen_graph.specs.declared.command.Reply.TheVariants.{Full}
use Rattle.heap_words.specs.Access.{table_index}
use Rattle.heap_words.specs.Words.{Answer, is_word, is_image, image_start, view}
use Rattle.heap_words.specs.Touch.{touch, loads, placed, touched}
use Rattle.heap_words.specs.Steps.{Stage, moved}
use Rattle.shen_graph.specs.declared.command.Command.{Command}
use Rattle.shen_graph.specs.declared.order.Order.{Order}
use Rattle.shen_graph.specs.declared.order.Order.TheVariants.{Nothing}
use Rattle.shen_graph.specs.Graph.{Graph}
use Rattle.shen_graph.specs.History.{Entry, after, of_thread}
use Rattle.handshake.specs.declared.enter_spot.EnterSpot.TheVariants.{Raise}
use Rattle.handshake.specs.Standing.{is_within}
use Rattle.mutator.specs.declared.spot.Kept.{Kept}
use Rattle.mutator.specs.declared.spot.Spot.{Spot}
use Rattle.mutator.specs.declared.spot.Spot.TheVariants.{Entering, Waiting}
use Rattle.mutator.specs.declared.spot.Entered.TheVariants.{Waited}
use Rattle.mutator.specs.declared.waits.WaitSpot.TheVariants as wait
use Rattle.mutator.specs.Orders.{takes_at}
use Rattle.mutator.specs.Rows.{Mutating, touch_at, touch_of}
use Rattle.mutator.specs.Told.{told_of as settled_by_step}
use Rattle.mutator.proofs.Orders.{in_call}
use Rattle.heap_world.specs.World.{World, Shared}
use Rattle.heap_world.specs.Change.{Change}
use Rattle.collector_rows.specs.Extent.{Counting}
use Rattle.collector_rows.specs.ControlRows.{Controlling}
use Rattle.step_core.specs.Actor.{mutating, controlling, Actor, entries_of, command_by}
use Rattle.step_core.specs.Machines.{took_of, kind}
use Rattle.step_core.specs.Settled.{mixed, settled, settled_by, control_number}
use Rattle.step_core.specs.Sound.{world_of}
use Rattle.step_core.specs.Standing.{standing_at}
use Rattle.step_core.proofs.Mutators.Adapter.{owes_stepped}
use Rattle.step_core.proofs.Control.Aims.{aims_stay}
use Rattle.step_core.proofs.Machines.Owed.{IsThread, IsAim, Follows, Owes}
use Rattle.step_core.proofs.Control.Images.{words_after, words_loaded, found-placed, settled_touched, settled_found, image_kept}
use Rattle.step_core.proofs.Mutators.Outside.{outside_touch}
use Rattle.step_core.proofs.History.Owing.{follows_owes}
use Rattle.step_core.proofs.Mutators.Places.{each_step}
use Rattle.step_core.proofs.Mutators.Polling.{polls_owes}
use Rattle.step_core.proofs.Mutators.Ordered.{order_word}
use Rattle.step_core.proofs.Mutators.Spots.{mutator_at}
use Rattle.step_core.proofs.Control.Held.{IsKept, held_image, outside_held, other_holds}

-- A step of a mutator.
module _ (change : Change) (config : Config) (graph : Graph) (stage : Stage Actor) (earlier_entries : List Entry) (number : ℕ) (order : Order) (mutator : Mutating) (command : Command) (calls : List Entry)
    (stage_follows : Follows config graph stage earlier_entries) (shaken : IsKept config stage) (machine_there : slice_get stage.machines number ≡ Some (record { machine = mutating mutator; command = command; calls = calls })) (takes : takes_at mutator.spot mutator.made order ≡ true) where
  abbrev before : Actor
  before = record { machine = mutating mutator; command = command; calls = calls }

  abbrev world_then : World
  world_then = world_of config stage stage_follows.block stage_follows.ghost (after graph earlier_entries)

  thread : IsThread config stage.words world_then (of_thread earlier_entries (number + 1)) number before mutator
  thread = stage_follows.machines number before machine_there

  below : number < config.mutators
  below = subst (λ seat. seat < config.mutators) thread.number_is thread.mine.seated.below

  not_control : number ≢ control_number config
  not_control = λ is_control. (let number_below = below in omega (arith, number_below, is_control))

  word : is_word config (touch_of config mutator order).word ≡ true
  word = order_word config mutator.seat mutator.made mutator.kept order mutator.spot thread.mine.seated.below thread.mine.ready takes

  -- while an image counts it is outside
  outside_now : (image : Counting) → held_image config stage ≡ Some image → is_within (standing_at mutator.spot) ≡ false
  outside_now image image_held = outside_held config stage shaken image image_held number before (let number_below = below in omega (arith, number_below)) machine_there

  -- what it tells where its access is of no word of the image, or none counts
  abbrev words_then : List ℕ
  words_then = words_after config stage.words (touch_of config mutator order)

  abbrev entries : List Entry
  entries = entries_of mutator.seat (command_by order command) (settled_by_step (settled config stage) mutator)

  -- whatever the control stands at in a pause, the words of the image stay in the table
  image_words_stay : is_within (standing_at mutator.spot) ≡ false → (offset : ℕ) → slice_index words_then (image_start config + offset) ≡ slice_index stage.words (image_start config + offset)
  image_words_stay spot_outside offset = ⊎_elim
      (λ (outside : is_image (touch_of config mutator order).word ≡ false). image_kept config stage.words (touch_of config mutator order) offset word outside)
      (λ (polls : mutator.spot ≡ Waiting wait.Poll).
      ap (λ spot. slice_index (words_after config stage.words (touch_at config mutator.seat mutator.made mutator.kept order spot)) (image_start config + offset)) polls
      ∙ ap (λ words. slice_index words (image_start config + offset)) (words_loaded config stage.words (Answer mutator.seat)))
      (outside_touch config mutator.seat mutator.made mutator.kept order mutator.spot spot_outside takes)

  -- so what the control knows of them stays
  aims_then : (actor_number : ℕ) (actor : Actor) → actor_number ≢ number → slice_get stage.machines actor_number ≡ Some actor → (control : Controlling) → actor.machine ≡ controlling control
      → IsAim config stage.words control.spot control.image → IsAim config words_then control.spot control.image
  aims_then actor_number actor numbers_differ actor_there = aims_stay config graph stage earlier_entries stage_follows shaken number before machine_there (let number_below = below in omega (arith, number_below)) words_then image_words_stay actor_number actor actor_there

  abbrev new_then : ℕ → Actor
  new_then got = took_of change config before order got (mutating mutator)

  -- where it polls, and no image counts or its word is none of it, what counts is in the history
  told_now : ((image : Counting) → held_image config stage ≡ Some image → is_image (touch_of config mutator order).word ≡ false) → mutator.spot ≡ Waiting wait.Poll → world_then.memory (Answer mutator.seat) ≡ 1 → thread.fixed ≡ Some Full
  told_now no_image polls answer_one = by_image (held_image config stage) refl
    where
      by_image : (found : Option Counting) → held_image config stage ≡ found → thread.fixed ≡ Some Full
      by_image (Some image) image_held = absurd (false≢true (sym (no_image image image_held) ∙ ap (λ spot. is_image (touch_at config mutator.seat mutator.made mutator.kept order spot).word) polls))
      by_image None none_held =
          let answer_now : world_then.memory (Answer number) ≡ 1 = subst (λ mutator. world_then.memory (Answer mutator) ≡ 1) thread.number_is answer_one in
          let stored_answer : view config stage.words (Answer number) ≡ 1 = ap (λ found. settled_by config stage.words found (Answer number)) (sym none_held) ∙ answer_now in
          ⊎_elim
          (λ (told_both : (view config stage.words (Answer number) ≡ 1) × (thread.fixed ≡ Some Full)). told_both.1)
          (λ (told_none : (view config stage.words (Answer number) ≡ 0) × (thread.fixed ≡ None)). let zero_raw = told_none.0 in absurd (omega (arith, stored_answer, zero_raw)))
          (thread.seen.full answer_now)

  -- a step of which no image word is touched while an image counts
  follows_plain : ((image : Counting) → held_image config stage ≡ Some image → is_image (touch_of config mutator order).word ≡ false) → Follows config graph (moved (kind change config) stage number before order) (earlier_entries ++ entries)
  unfolding kind
  follows_plain no_image =
      let word_index : ℕ = table_index (placed config (touch_of config mutator order)) in
      let step = each_step config world_then mutator command order thread.fixed (told_now no_image) stage_follows.no_more_pins stage_follows.shared thread.mine takes in
      let owes : Owes config stage.words words_then world_then earlier_entries number stage.machines (touched world_then.memory (touch_of config mutator order)) entries (new_then (world_then.memory (touch_of config mutator order).word)) =
      owes_stepped change config stage.words (held_image config stage) stage_follows.block stage_follows.ghost (after graph earlier_entries) earlier_entries number stage.machines order mutator command calls stage_follows.words word (λ image image_held. (outside_now image image_held, no_image image image_held))
      stage_follows.promised_to stage_follows.shared thread step takes aims_then in
      let word_found : slice_index stage.words word_index ≡ world_then.memory (touch_of config mutator order).word = settled_found config stage.words (touch_of config mutator order) (held_image config stage) word no_image in
      let memory_then : settled config (record { words = words_then; machines = slice_set stage.machines number (new_then (slice_index stage.words word_index)) }) ≡ touched world_then.memory (touch_of config mutator order) =
      ap (settled_by config words_then) (other_holds config stage number (new_then (slice_index stage.words word_index)) not_control) ∙ settled_touched config stage.words (touch_of config mutator order) (held_image config stage) word stage_follows.words no_image in
      follows_owes config graph stage earlier_entries number before (new_then (slice_index stage.words word_index)) words_then entries stage_follows
      (subst (λ memory. Owes config stage.words words_then world_then earlier_entries number stage.machines memory entries (new_then (slice_index stage.words word_index))) (sym memory_then)
      (subst (λ got. Owes config stage.words words_then world_then earlier_entries number stage.machines (touched world_then.memory (touch_of config mutator order)) entries (new_then got)) (sym word_found) owes))
      machine_there (length-set stage.words _ _ ∙ stage_follows.words)

-- A mutator that looks for its answer while an image counts.
module _ (change : Change) (config : Config) (graph : Graph) (stage : Stage Actor) (earlier_entries : List Entry) (seat made : ℕ) (kept : Kept) (command : Command) (calls : List Entry)
    (stage_follows : Follows config graph stage earlier_entries) (machine_there : slice_get stage.machines seat ≡ Some (record { machine = mutating (mutator_at seat made kept (Waiting wait.Poll)); command = command; calls = calls })) (image : Counting) (image_held : held_image config stage ≡ Some image)
    (not_control : seat ≢ control_number config) where
  abbrev polling : Actor
  polling = record { machine = mutating (mutator_at seat made kept (Waiting wait.Poll)); command = command; calls = calls }

  abbrev polled_then : ℕ → Actor
  polled_then got = record { machine = mutating (mutator_at seat made kept (if got == 0 then Waiting wait.Poll else Entering Raise Waited)); command = command; calls = calls ++ [] }

  follows_poll : Follows config graph (moved (kind change config) stage seat polling Nothing) (earlier_entries ++ [])
  unfolding kind
  follows_poll =
      let held_world : World = record { memory = mixed config stage.words image; block = stage_follows.block; ghost = stage_follows.ghost; graph = after graph earlier_entries } in
      let memory_is : settled config stage ≡ mixed config stage.words image = ap (settled_by config stage.words) image_held in
      let world_is : world_of config stage stage_follows.block stage_follows.ghost (after graph earlier_entries) ≡ held_world = ap (λ memory. record { memory = memory; block = stage_follows.block; ghost = stage_follows.ghost; graph = after graph earlier_entries }) memory_is in
      let word_index : ℕ = table_index (placed config (touch (Answer seat) loads)) in
      let words_then : List ℕ = words_after config stage.words (touch (Answer seat) loads) in
      let same_words : words_then ≡ stage.words = words_loaded config stage.words (Answer seat) in
      let thread = subst (λ world. IsThread config stage.words world (of_thread earlier_entries (seat + 1)) seat polling (mutator_at seat made kept (Waiting wait.Poll))) world_is (stage_follows.machines seat polling machine_there) in
      let seat_below : seat < config.mutators = thread.mine.seated.below in
      let word_found : slice_index stage.words word_index ≡ view config stage.words (Answer seat) = found-placed config stage.words (touch (Answer seat) loads) (lt-ltb _ _ seat_below) in
      let owes : Owes config stage.words stage.words held_world earlier_entries seat stage.machines (mixed config stage.words image) [] (polled_then (view config stage.words (Answer seat))) =
      polls_owes config stage.words image stage_follows.block stage_follows.ghost (after graph earlier_entries) earlier_entries seat made kept stage.machines command calls (subst (λ given_world. Shared config given_world) world_is stage_follows.shared) stage_follows.promised_to thread in
      let memory_then : settled config (record { words = words_then; machines = slice_set stage.machines seat (polled_then (slice_index stage.words word_index)) }) ≡ mixed config stage.words image =
      ap (settled_by config words_then) (other_holds config stage seat (polled_then (slice_index stage.words word_index)) not_control ∙ image_held) ∙ ap (λ given_words. mixed config given_words image) same_words in
      follows_owes config graph stage earlier_entries seat polling (polled_then (slice_index stage.words word_index)) words_then [] stage_follows
      (subst (λ memory. Owes config stage.words words_then (world_of config stage stage_follows.block stage_follows.ghost (after graph earlier_entries)) earlier_entries seat stage.machines memory [] (polled_then (slice_index stage.words word_index))) (sym memory_then)
      (subst (λ next_world. Owes config stage.words words_then next_world earlier_entries seat stage.machines (mixed config stage.words image) [] (polled_then (slice_index stage.words word_index))) (sym world_is)
      (subst (λ given_words. Owes config stage.words given_words held_world earlier_entries seat stage.machines (mixed config stage.words image) [] (polled_then (slice_index stage.words word_index))) (sym same_words)
      (subst (λ got. Owes config stage.words stage.words held_world earlier_entries seat stage.machines (mixed config stage.words image) [] (polled_then got)) (sym word_found) owes))))
      machine_there (length-set stage.words _ _ ∙ stage_follows.words)

-- A step of a mutator, by whether an image counts.
module _ (change : Change) (config : Config) (graph : Graph) (stage : Stage Actor) (earlier_entries : List Entry) (number : ℕ) (order : Order) (mutator : Mutating) (command : Command) (calls : List Entry)
    (stage_follows : Follows config graph stage earlier_entries) (shaken : IsKept config stage) (machine_there : slice_get stage.machines number ≡ Some (record { machine = mutating mutator; command = command; calls = calls })) (takes : takes_at mutator.spot mutator.made order ≡ true) where
  abbrev Goal : Type 0
  Goal = Follows config graph (moved (kind change config) stage number (record { machine = mutating mutator; command = command; calls = calls }) order) (earlier_entries ++ entries_of mutator.seat (command_by order command) (settled_by_step (settled config stage) mutator))

  -- the same at a spot, a number and under an order
  abbrev At : ℕ → Order → Spot → Type 0
  At asked_number order spot = Follows config graph (moved (kind change config) stage asked_number (record { machine = mutating (mutator_at mutator.seat mutator.made mutator.kept spot); command = command; calls = calls }) order)
      (earlier_entries ++ entries_of mutator.seat (command_by order command) (settled_by_step (settled config stage) (mutator_at mutator.seat mutator.made mutator.kept spot)))

  -- it looks for its answer
  by_poll : mutator.spot ≡ Waiting wait.Poll → (image : Counting) → held_image config stage ≡ Some image → Goal
  by_poll polls image image_held =
      let thread = stage_follows.machines number (record { machine = mutating mutator; command = command; calls = calls }) machine_there in
      let seat_below : mutator.seat < config.mutators = thread.mine.seated.below in
      let nothing : order ≡ Nothing = in_call (Waiting wait.Poll) mutator.made order refl (subst (λ spot. takes_at spot mutator.made order ≡ true) polls takes) in
      let machine_at_seat : slice_get stage.machines mutator.seat ≡ Some (record { machine = mutating (mutator_at mutator.seat mutator.made mutator.kept (Waiting wait.Poll)); command = command; calls = calls }) =
      ap (slice_get stage.machines) thread.number_is ∙ machine_there ∙ ap (λ spot. Some (record { machine = mutating (mutator_at mutator.seat mutator.made mutator.kept spot); command = command; calls = calls })) polls in
      subst (λ spot. At number order spot) (sym polls)
      (subst (λ told_order. At number told_order (Waiting wait.Poll)) (sym nothing)
      (subst (λ seat. At seat Nothing (Waiting wait.Poll)) thread.number_is
      (follows_poll change config graph stage earlier_entries mutator.seat mutator.made mutator.kept command calls stage_follows machine_at_seat image image_held (λ is_control. omega (arith, seat_below, is_control)))))

  pub follows_mutator : Goal
  follows_mutator = by_image (held_image config stage) refl
    where
      by_image : (found : Option Counting) → held_image config stage ≡ found → Goal
      by_image None none_held = follows_plain change config graph stage earlier_entries number order mutator command calls stage_follows shaken machine_there takes (λ image image_held. absurd (let clash = sym none_held ∙ image_held in cc))
      by_image (Some image) image_held = ⊎_elim
          (λ (outside : is_image (touch_of config mutator order).word ≡ false). follows_plain change config graph stage earlier_entries number order mutator command calls stage_follows shaken machine_there takes (λ other_image other_image_held. outside))
          (λ (polls : mutator.spot ≡ Waiting wait.Poll). by_poll polls image image_held)
          (outside_touch config mutator.seat mutator.made mutator.kept order mutator.spot (outside_now change config graph stage earlier_entries number order mutator command calls stage_follows shaken machine_there takes image image_held) takes)
