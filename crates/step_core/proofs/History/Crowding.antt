-- Who is refused an object was crowded out: live objects, and objects that were made for other threads whose calls are not
-- answered yet, leave no room for it.
use Rattle.std.proofs.Common.{◌≡◌, ◌≢◌, ℕ, ◌+◌, ◌<◌, ◌≤◌, ◌⊎◌, inl, inr, ⊎_elim, Bool, true, false, List, [], ◌∷◌, ◌++◌, length, Option, Some, None, refl, sym, ap, ◌∙◌, subst, append_assoc, arith}
use Rattle.std.specs.Prelude.{◌==◌, ◌&&◌, slice_get, slice_index, sum_by, if◌then◌else◌}
use Rattle.std.proofs.lemmas.Bool.{cases_eq, and_parts, eqb-true, eq-eqb, ne_eqb}
use Rattle.std.proofs.lemmas.List.{append-nil, length-map}
use Rattle.std.proofs.lemmas.List.Elements.{All-nil}
use Rattle.shen_graph.proofs.Lists.{append_right}
use Rattle.heap_words.specs.declared.config.Config.{Config}
use Rattle.heap_words.specs.Rows.{name_of}
use Rattle.heap_words.specs.Words.{Word, Answer, IsWord, view, image_start}
use Rattle.regions.specs.Tops.{sum_below}
use Rattle.heap_words.specs.Steps.{Stage, Event, act, go}
use Rattle.shen_graph.specs.declared.command.Command.{Command}
use Rattle.shen_graph.specs.declared.command.Reply.{Reply}
use Rattle.shen_graph.specs.declared.command.Reply.TheVariants.{Full}
use Rattle.shen_graph.specs.declared.order.Order.{Order}
use Rattle.shen_graph.specs.Crowd.{words_asked, next_command, IsCrowded, AreCrowded}
use Rattle.shen_graph.specs.Graph.{Graph, named}
use Rattle.shen_graph.specs.Reach.{size}
use Rattle.shen_graph.specs.History.{Entry, after, of_thread, commands_of, IsWithoutFull}
use Rattle.handshake.specs.Standing.{is_within}
use Rattle.mutator.specs.declared.spot.Kept.{Kept}
use Rattle.mutator.specs.declared.spot.Spot.{Spot}
use Rattle.mutator.specs.declared.spot.Spot.TheVariants.{Rest, Ended, Entering, Waiting, Gone}
use Rattle.mutator.specs.declared.spot.Entered.TheVariants.{Call, Waited}
use Rattle.mutator.specs.declared.waits.WaitSpot.TheVariants as wait
use Rattle.mutator.specs.Commands.{refs_of, nums_of}
use Rattle.mutator.specs.Orders.{is_between_calls}
use Rattle.mutator.specs.Rows.{Mutating}
use Rattle.heap_world.specs.World.{World}
use Rattle.heap_world.specs.Asking.{nothing, asks, refused, given, IsAsked}
use Rattle.heap_world.specs.Change.{Change}
use Rattle.collector_rows.specs.ByParts.{PausesByParts}
use Rattle.collector_rows.specs.declared.control_spot.ControlSpot.{ControlSpot}
use Rattle.collector_rows.specs.declared.extent.Extent.{Extent}
use Rattle.collector_rows.specs.declared.control_spot.ControlSpot.TheVariants.{StoreWord}
use Rattle.step_core.specs.Actor.{Machine, mutating, controlling, Actor, entry_of, entries_of, command_by}
use Rattle.step_core.specs.Begins.{Begins}
use Rattle.step_core.specs.Begun.{begun_by, scripts_begun}
use Rattle.step_core.specs.History.{told_of_machine, told, history, told_by}
use Rattle.step_core.specs.Machines.{command_at, told_word, told_storing, takes_of, is_resting, kind, standing_of}
use Rattle.step_core.specs.Settled.{mixed, settled, settled_by, image_of, control_number}
use Rattle.step_core.specs.Sound.{world_of}
use Rattle.step_core.specs.Standing.{standing_at}
use Rattle.step_core.proofs.Machines.Stepped.{IsPolling, IsAnswered, IsAsking, Mine}
use Rattle.step_core.proofs.Control.Asked.{promised_given}
use Rattle.step_core.proofs.Theorem.Beginning.{goes_begins}
use Rattle.step_core.proofs.History.CrowdsGrow.{sum_below_le, open_of, open_below, next_is, crowded_longer, crowded_none, crowded_one}
use Rattle.step_core.proofs.Machines.Owed.{IsThread, IsControl, words_promised, Follows}
use Rattle.step_core.proofs.History.Growing.{begun_many, begun_is, begun_grows}
use Rattle.step_core.proofs.Control.Held.{held_image, outside_held}
use Rattle.step_core.proofs.Theorem.Induction.{Goes, goes_event}
use Rattle.step_core.proofs.History.NoFull.{mutator_not_full}
use Rattle.step_core.proofs.Machines.Roles.{mutator_there}
use Rattle.step_core.proofs.Mutators.Spots.{mutator_at}
use Rattle.step_core.proofs.Control.Storing as storing

-- An object that is promised to a mutator is the one that its call asks for, and nothing is settled of the call.
pub record IsForCall (words : ℕ) (command : Command) (fixed : Option Reply) (spot : Spot) : Type 0 where
  pub unsettled : fixed ≡ None
  pub words_are : words ≡ words_asked (Some command)
  pub in_call : is_between_calls spot ≡ false

-- what was made for it is what its command asks for
given_asked : (world : World) (seat made : ℕ) (other_command command : Command) (fixed : Option Reply) (spot : Spot) → is_between_calls spot ≡ false → IsAsking world seat made other_command command fixed (given (refs_of other_command) (nums_of other_command))
    → IsForCall (words_promised world.memory seat) command fixed spot
given_asked world seat made other_command command fixed spot in_call asks_given = record {
  unsettled = asks_given.0.unsettled;
  words_are = promised_given world.memory world.block world.graph.count seat (given (refs_of other_command) (nums_of other_command)) asks_given.1 ∙ ap (λ x. words_asked (Some x)) (sym asks_given.0.is);
  in_call = in_call;
}

module _ (config : Config) (world : World) (seat made : ℕ) (kept : Kept) (command : Command) (fixed : Option Reply) where
  abbrev Promised : Spot → Type 0
  Promised spot = (words_promised world.memory seat ≡ 0) ⊎ IsForCall (words_promised world.memory seat) command fixed spot

  -- where its answer is none
  no_answer : (spot : Spot) → IsAsked world.memory world.block world.graph.count seat nothing → Promised spot
  no_answer spot nothing_asked = inl (promised_given world.memory world.block world.graph.count seat nothing nothing_asked)

  -- where it polls
  polls_promised : (spot : Spot) → is_between_calls spot ≡ false → IsPolling world seat made kept.command command fixed → Promised spot
  polls_promised spot in_call (inl waits) = inl (promised_given world.memory world.block world.graph.count seat (asks (refs_of kept.command) (nums_of kept.command)) waits.0.1)
  polls_promised spot in_call (inr (inl has)) = inr (given_asked world seat made kept.command command fixed spot in_call has)
  polls_promised spot in_call (inr (inr was_refused)) = inl (promised_given world.memory world.block world.graph.count seat refused was_refused.1)

  -- where it has its answer
  answered_promised : (spot : Spot) → is_between_calls spot ≡ false → IsAnswered world seat made kept.command command fixed → Promised spot
  answered_promised spot in_call (inl has) = inr (given_asked world seat made kept.command command fixed spot in_call has)
  answered_promised spot in_call (inr was_refused) = inl (promised_given world.memory world.block world.graph.count seat refused was_refused.1)

  -- outside the heap
  outside_promised : (spot : Spot) → is_within (standing_at spot) ≡ false → Mine config world (mutator_at seat made kept spot) command fixed → Promised spot
  outside_promised Rest stands_outside own_facts = no_answer Rest (own_facts.seated.unasked refl)
  outside_promised (Ended reply) stands_outside own_facts = no_answer (Ended reply) (own_facts.seated.unasked refl)
  outside_promised Gone stands_outside own_facts = no_answer Gone (own_facts.seated.unasked refl)
  outside_promised (Entering spot Call) stands_outside own_facts = no_answer (Entering spot Call) (own_facts.seated.unasked refl)
  outside_promised (Entering spot Waited) stands_outside own_facts = answered_promised (Entering spot Waited) refl own_facts.facts
  outside_promised (Waiting wait.Poll) stands_outside own_facts = polls_promised (Waiting wait.Poll) refl own_facts.facts
  outside_promised (Waiting wait.StoreRequest) stands_outside own_facts = cc
  outside_promised (Waiting wait.AskRoom) stands_outside own_facts = cc
  outside_promised (Waiting wait.StepOut) stands_outside own_facts = cc
  outside_promised (Waiting wait.LoadAnswer) stands_outside own_facts = cc
  outside_promised (Waiting (wait.StoreRoot address)) stands_outside own_facts = cc
  outside_promised (Waiting (wait.ClearAnswer reply)) stands_outside own_facts = cc
  outside_promised _ stands_outside own_facts = cc

-- the next command of calls that have ended, and one that is in progress
next_of_calls : (calls : List Entry) (command : Command) → slice_get (commands_of calls ++ command ∷ []) (length calls) ≡ Some command
next_of_calls calls command = append_right (commands_of calls) (command ∷ []) (length calls) 0 (let same_length = length-map calls (λ x. x.command) in omega (arith, same_length))

-- A stage in which an image counts, and all but the control are outside.
module _ (config : Config) (graph : Graph) (stage : Stage Actor) (past_entries : List Entry) (past_follows : Follows config graph stage past_entries)
    (outside : (k : ℕ) (b : Actor) → k < control_number config → slice_get stage.machines k ≡ Some b → is_within (standing_of b.machine) ≡ false) where
  abbrev world_then : World
  world_then = world_of config stage past_follows.block past_follows.ghost (after graph past_entries)

  -- what a thread asks for, in a call of which nothing is settled
  promised_open : (mutator : ℕ) → mutator < config.mutators → words_promised world_then.memory mutator ≤ words_asked (next_command (scripts_begun config stage) past_entries (mutator + 1))
  promised_open mutator mutator_below =
      let found_mutator = mutator_there config stage.words world_then past_entries stage.machines past_follows.seats past_follows.machines mutator mutator_below in
      let actor = found_mutator.0 in
      let asking_mutating = found_mutator.1 in
      let thread = found_mutator.4 in
      let stands_outside : is_within (standing_at asking_mutating.spot) ≡ false = ap (λ machine. is_within (standing_of machine)) (sym found_mutator.3) ∙ outside mutator actor (omega (arith, mutator_below)) found_mutator.2 in
      let promised = subst (λ number. (words_promised world_then.memory number ≡ 0) ⊎ IsForCall (words_promised world_then.memory number) actor.command thread.fixed asking_mutating.spot) thread.number_is
      (outside_promised config world_then asking_mutating.seat asking_mutating.made asking_mutating.kept actor.command thread.fixed asking_mutating.spot stands_outside thread.mine) in
      ⊎_elim
      (λ (no_words : words_promised world_then.memory mutator ≡ 0). omega (arith, no_words))
      (λ (for_call : IsForCall (words_promised world_then.memory mutator) actor.command thread.fixed asking_mutating.spot).
      let entries : of_thread past_entries (mutator + 1) ≡ actor.calls = thread.entries_are ∙ ap (λ f. actor.calls ++ entries_of mutator actor.command f) for_call.unsettled ∙ append-nil actor.calls in
      let begun_then : begun_by actor ≡ commands_of actor.calls ++ actor.command ∷ [] =
      ap (λ machine. commands_of actor.calls ++ (if is_resting machine then [] else actor.command ∷ [])) found_mutator.3 ∙ ap (λ was_called. commands_of actor.calls ++ (if was_called then [] else actor.command ∷ [])) for_call.in_call in
      let next_there : next_command (scripts_begun config stage) past_entries (mutator + 1) ≡ Some actor.command =
      next_is (scripts_begun config stage) past_entries mutator
      ∙ ap (λ script_now. slice_get script_now (length (of_thread past_entries (mutator + 1)))) (begun_is config stage past_follows.seats mutator actor mutator_below found_mutator.2 ∙ begun_then)
      ∙ ap (λ entry_list. slice_get (commands_of actor.calls ++ actor.command ∷ []) (length entry_list)) entries
      ∙ next_of_calls actor.calls actor.command in
      let same_words : words_promised world_then.memory mutator ≡ words_asked (next_command (scripts_begun config stage) past_entries (mutator + 1)) = for_call.words_are ∙ ap words_asked (sym next_there) in
      omega (arith, same_words))
      promised

  either_less : (holds other_holds : Bool) (x y : ℕ) → holds ≡ other_holds → x ≤ y → (if holds then 0 else x) ≤ (if other_holds then 0 else y)
  either_less true true x y tests_same is_less = omega arith
  either_less false false x y tests_same is_less = is_less
  either_less true false x y tests_same is_less = absurd (cc (tests_same))
  either_less false true x y tests_same is_less = absurd (cc (tests_same))

  same_test : (t k : ℕ) → (k == t) ≡ ((k + 1) == (t + 1))
  same_test t k = ⊎_elim
      (λ (same_number : k ≡ t). eq-eqb k t same_number ∙ sym (eq-eqb (k + 1) (t + 1) (omega (arith, same_number))))
      (λ (numbers_differ : k ≡ t → ⊥). ne_eqb k t numbers_differ ∙ sym (ne_eqb (k + 1) (t + 1) (λ same_thread. numbers_differ (omega (arith, same_thread)))))
      (cases_eq k t)

  -- who is refused then is crowded out
  refused_crowded : (refused_mutator : ℕ) (actor : Actor) (mutator : Mutating) → IsThread config stage.words world_then (of_thread past_entries (refused_mutator + 1)) refused_mutator actor mutator → world_then.memory (Answer refused_mutator) ≡ 1 → view config stage.words (Answer refused_mutator) ≡ 0
      → IsCrowded config.regions config.region_words graph (scripts_begun config stage) past_entries (entry_of refused_mutator actor.command Full)
  refused_crowded refused_mutator actor mutator is_thread answered_full no_answer =
      let unsettled : is_thread.fixed ≡ None = ⊎_elim
      (λ (full_settled : (view config stage.words (Answer refused_mutator) ≡ 1) × (is_thread.fixed ≡ Some Full)). absurd (let answer_one = full_settled.0 in omega (arith, answer_one, no_answer)))
      (λ (not_yet : (view config stage.words (Answer refused_mutator) ≡ 0) × (is_thread.fixed ≡ None)). not_yet.1)
      (is_thread.seen.full answered_full) in
      let room_short = is_thread.short answered_full unsettled in
      let live : ℕ = sum_by (λ name. size (named (after graph past_entries) (Some name))) room_short.names in
      let sums : sum_below (λ any_mutator. if any_mutator == refused_mutator then 0 else words_promised world_then.memory any_mutator) config.mutators ≤ sum_below (λ any_mutator. open_of (scripts_begun config stage) past_entries (refused_mutator + 1) (any_mutator + 1)) config.mutators =
      sum_below_le _ _ config.mutators (λ mutator mutator_below. either_less (mutator == refused_mutator) ((mutator + 1) == (refused_mutator + 1)) _ _ (same_test refused_mutator mutator) (promised_open mutator mutator_below)) in
      let many : sum_below (λ any_mutator. open_of (scripts_begun config stage) past_entries (refused_mutator + 1) (any_mutator + 1)) (length (scripts_begun config stage)) ≡ sum_below (λ any_mutator. open_of (scripts_begun config stage) past_entries (refused_mutator + 1) (any_mutator + 1)) config.mutators =
      ap (sum_below (λ any_mutator. open_of (scripts_begun config stage) past_entries (refused_mutator + 1) (any_mutator + 1))) (begun_many config stage past_follows.seats) in
      let open_is = open_below (scripts_begun config stage) past_entries (refused_mutator + 1) in
      let crowd = room_short.crowd in
      (live, room_short.held, room_short.pinned, (room_short.names, room_short.reach, refl), room_short.held_is, room_short.pinned_is, omega (arith, crowd, sums, many, open_is))

-- What an event settles leaves a history of which each refused entry was crowded out.
module _ (change : Change) (config : Config) (graph : Graph) (stage : Stage Actor) (past_entries : List Entry) (goes_so_far : Goes config graph stage past_entries) (crowded : AreCrowded config.regions config.region_words graph (scripts_begun config stage) past_entries) where
  abbrev Crowded : List Entry → Type 0
  Crowded settles = AreCrowded config.regions config.region_words graph (scripts_begun config stage) (past_entries ++ settles)

  abbrev now : World
  now = world_of config stage goes_so_far.follows.block goes_so_far.follows.ghost (after graph past_entries)

  -- entries without Full
  quiet : (settles : List Entry) → IsWithoutFull settles → Crowded settles
  quiet settles without_full = crowded_none config.regions config.region_words graph (scripts_begun config stage) past_entries crowded settles without_full

  none : Crowded []
  none = quiet [] (All-nil (λ entry. entry.reply ≢ Full))

  -- a word of the new image that the control stores
  module _ (number index seen phase cset hints : ℕ) (extent : Extent) (image : List ℕ) (command : Command) (calls : List Entry)
      (control_there : slice_get stage.machines number ≡ Some (record { machine = controlling (record { spot = StoreWord index extent; seen = seen; phase = phase; cset = cset; hints = hints; image = image }); command = command; calls = calls })) where
    control_facts : IsControl config stage.words now number (record { spot = StoreWord index extent; seen = seen; phase = phase; cset = cset; hints = hints; image = image })
    control_facts = goes_so_far.follows.machines number (record { machine = controlling (record { spot = StoreWord index extent; seen = seen; phase = phase; cset = cset; hints = hints; image = image }); command = command; calls = calls }) control_there

    held : held_image config stage ≡ Some (record { extent = extent; image = image })
    held = ap (λ number. image_of (slice_get stage.machines number)) (sym control_facts.number_is) ∙ ap image_of control_there

    abbrev at : ℕ
    at = image_start config + index

    -- into an answer
    at_answer : (mutator : ℕ) → name_of config at ≡ Answer mutator → Crowded (told_word stage.machines (Answer mutator) (slice_index stage.words at) (slice_index image index))
    at_answer other_mutator names_answer =
        let block = goes_so_far.follows.block in
        let ghost = goes_so_far.follows.ghost in
        let mutator_below : other_mutator < config.mutators = subst (λ word. IsWord config word) names_answer
        (storing.name_is_word change config stage.words block ghost (after graph past_entries) past_entries stage.machines extent image index seen phase cset hints command calls control_facts.ready goes_so_far.follows.words control_facts.aims.0 control_facts.aims.1 control_facts.aims.2 goes_so_far.follows.seats) in
        let raw : view config stage.words (Answer other_mutator) ≡ slice_index stage.words at = ap (view config stage.words) (sym names_answer)
        ∙ storing.view_raw change config stage.words block ghost (after graph past_entries) past_entries stage.machines extent image index seen phase cset hints command calls control_facts.ready goes_so_far.follows.words control_facts.aims.0 control_facts.aims.1 control_facts.aims.2 goes_so_far.follows.seats in
        let value : settled config stage (Answer other_mutator) ≡ slice_index image index = ap (λ found_image. settled_by config stage.words found_image (Answer other_mutator)) held ∙ ap (mixed config stage.words (record { extent = extent; image = image })) (sym names_answer)
        ∙ storing.now_is change config stage.words block ghost (after graph past_entries) past_entries stage.machines extent image index seen phase cset hints command calls control_facts.ready goes_so_far.follows.words control_facts.aims.0 control_facts.aims.1 control_facts.aims.2 goes_so_far.follows.seats in
        let found_mutator = mutator_there config stage.words now past_entries stage.machines goes_so_far.follows.seats goes_so_far.follows.machines other_mutator mutator_below in
        subst (λ any_command. Crowded (entries_of other_mutator any_command (if (slice_index stage.words at == 0) && (slice_index image index == 1) then Some Full else None))) (ap command_at (sym found_mutator.2))
        (by_test found_mutator.0 found_mutator.1 other_mutator found_mutator.4 raw value ((slice_index stage.words at == 0) && (slice_index image index == 1)) refl)
      where
        by_test : (actor : Actor) (mutator : Mutating) (other_mutator : ℕ) → IsThread config stage.words now (of_thread past_entries (other_mutator + 1)) other_mutator actor mutator → view config stage.words (Answer other_mutator) ≡ slice_index stage.words at → settled config stage (Answer other_mutator) ≡ slice_index image index
            → (holds : Bool) → ((slice_index stage.words at == 0) && (slice_index image index == 1)) ≡ holds → Crowded (entries_of other_mutator actor.command (if holds then Some Full else None))
        by_test actor mutator other_mutator is_thread raw_answer value false test = none
        by_test actor mutator other_mutator is_thread raw_answer value true test =
            let both_tests = and_parts (slice_index stage.words at == 0) (slice_index image index == 1) test in
            crowded_one config.regions config.region_words graph (scripts_begun config stage) past_entries crowded (entry_of other_mutator actor.command Full)
            (refused_crowded config graph stage past_entries goes_so_far.follows (outside_held config stage goes_so_far.shaken (record { extent = extent; image = image }) held) other_mutator actor mutator is_thread (value ∙ eqb-true _ _ both_tests.1) (raw_answer ∙ eqb-true _ _ both_tests.0))

    -- into any word
    by_word : (word : Word) → name_of config at ≡ word → Crowded (told_word stage.machines word (slice_index stage.words at) (slice_index image index))
    by_word (Answer mutator) names_word = at_answer mutator names_word
    by_word _ names_word = none

  -- a step of the control
  by_spot : (number seen phase cset hints : ℕ) (image : List ℕ) (command : Command) (calls : List Entry) (spot : ControlSpot)
      → slice_get stage.machines number ≡ Some (record { machine = controlling (record { spot = spot; seen = seen; phase = phase; cset = cset; hints = hints; image = image }); command = command; calls = calls }) → Crowded (told_storing config stage spot image)
  by_spot number seen phase cset hints image command calls (StoreWord index extent) control_there = by_word number index seen phase cset hints extent image command calls control_there (name_of config (image_start config + index)) refl
  by_spot number seen phase cset hints image command calls _ control_there = none

  -- a step of any machine
  by_role : (number : ℕ) (order : Order) (command : Command) (calls : List Entry) (machine : Machine) → slice_get stage.machines number ≡ Some (record { machine = machine; command = command; calls = calls })
      → Crowded (told_by config stage (record { machine = machine; command = command; calls = calls }) order machine)
  by_role number order command calls (mutating mutator) actor_there = quiet _ (mutator_not_full (settled config stage) mutator (command_by order command))
  by_role number order command calls (controlling control) actor_there = by_spot number control.seen control.phase control.cset control.hints control.image command calls control.spot actor_there
  by_role number order command calls _ actor_there = none

  told_crowded : (event : Event Order) → Crowded (told config stage event)
  unfolding told
  told_crowded event = by_machine (slice_get stage.machines event.number) refl
    where
      by_order : (actor : Actor) (holds : Bool) → slice_get stage.machines event.number ≡ Some actor → Crowded (if holds then told_by config stage actor event.order actor.machine else [])
      by_order actor true actor_there = by_role event.number event.order actor.command actor.calls actor.machine actor_there
      by_order actor false actor_there = none

      by_machine : (found : Option Actor) → slice_get stage.machines event.number ≡ found → Crowded (told_of_machine config stage event found)
      by_machine None found_there = none
      by_machine (Some actor) found_there = by_order actor (takes_of actor.machine event.order) found_there

-- a run from a stage that follows a history of such entries
goes_crowded : (change : Change) → PausesByParts change → (config : Config) (graph : Graph) (stage : Stage Actor) (past_entries : List Entry) (events : List (Event Order)) → Goes config graph stage past_entries → AreCrowded config.regions config.region_words graph (scripts_begun config stage) past_entries
    → AreCrowded config.regions config.region_words graph (scripts_begun config (go (kind change config) stage events)) (past_entries ++ history change config stage events)
unfolding go history
goes_crowded change law config graph stage past_entries [] goes_so_far crowded = subst (λ entries. AreCrowded config.regions config.region_words graph (scripts_begun config stage) entries) (sym (append-nil past_entries)) crowded
goes_crowded change law config graph stage past_entries (event ∷ events) goes_so_far crowded =
    subst (λ entries. AreCrowded config.regions config.region_words graph (scripts_begun config (go (kind change config) (act (kind change config) stage event) events)) entries) (append_assoc past_entries (told config stage event) (history change config (act (kind change config) stage event) events))
    (goes_crowded change law config graph (act (kind change config) stage event) (past_entries ++ told config stage event) events (goes_event change law config graph stage past_entries event goes_so_far)
    (crowded_longer config.regions config.region_words graph (scripts_begun config stage) (scripts_begun config (act (kind change config) stage event)) (past_entries ++ told config stage event) (begun_grows change config stage event goes_so_far.follows.seats) (told_crowded change config graph stage past_entries goes_so_far crowded event)))

-- Who is refused in a run from a stage that begins a graph was crowded out.
pub run_crowded : (change : Change) → PausesByParts change → (config : Config) (stage : Stage Actor) (graph : Graph) → Begins config stage graph → (events : List (Event Order))
    → AreCrowded config.regions config.region_words graph (scripts_begun config (go (kind change config) stage events)) (history change config stage events)
run_crowded change law config stage graph begins events = goes_crowded change law config graph stage [] events (goes_begins config stage graph begins) (λ index entry entry_there answered_full. absurd (cc (entry_there)))
