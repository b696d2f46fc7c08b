-- What the step of a mutator owes as an event: what its place owes is turned into that, while a pause writes its image back and
-- while none does.
use Rattle.std.proofs.Common.{◌≡◌, ◌≢◌, ℕ, ◌+◌, ◌<◌, ◌⊎◌, inl, inr, ⊎_elim, true, false, List, ◌++◌, length, Option, Some, None, refl, sym, ap, ◌∙◌, subst, arith}
use Rattle.std.specs.Prelude.{slice_get}
use Rattle.std.proofs.lemmas.List.{append-nil}
use Rattle.std.proofs.lemmas.Bool.{cases_eq}
use Rattle.heap_words.specs.declared.config.Config.{Config}
use Rattle.heap_words.specs.Words.{Answer, is_word, is_image, view, table_words}
use Rattle.heap_words.specs.Touch.{Touch, touched}
use Rattle.shen_graph.specs.declared.command.Command.{Command}
use Rattle.shen_graph.specs.declared.command.Reply.{Reply}
use Rattle.shen_graph.specs.declared.command.Reply.TheVariants.{Full}
use Rattle.shen_graph.specs.declared.order.Order.{Order}
use Rattle.shen_graph.specs.declared.order.Order.TheVariants.{Nothing, Begin, End, Hint}
use Rattle.shen_graph.specs.Crowd.{words_asked}
use Rattle.shen_graph.specs.Graph.{Graph}
use Rattle.shen_graph.specs.History.{Entry, after, of_thread}
use Rattle.handshake.specs.Standing.{is_within}
use Rattle.mutator.specs.declared.spot.Kept.{Kept}
use Rattle.mutator.specs.declared.spot.Spot.{Spot}
use Rattle.mutator.specs.declared.spot.Spot.TheVariants.{Rest, Ended, Leave, Gone}
use Rattle.mutator.specs.Orders.{takes_at, is_waiting}
use Rattle.mutator.specs.Rows.{Mutating, touch_of, next_at, given_at}
use Rattle.mutator.proofs.Orders.{in_call}
use Rattle.mutator.specs.Told.{told_of as settled_by_step}
use Rattle.heap_world.specs.World.{Ghost, World, Plot, Shared}
use Rattle.heap_world.specs.Change.{Change}
use Rattle.collector_rows.specs.Extent.{Counting}
use Rattle.collector_rows.specs.ControlRows.{Controlling}
use Rattle.step_core.specs.Actor.{mutating, controlling, Actor, entries_of, command_by}
use Rattle.step_core.specs.Machines.{took_of}
use Rattle.step_core.specs.Settled.{settled_by}
use Rattle.step_core.specs.Standing.{standing_at}
use Rattle.step_core.proofs.Machines.Stepped.{SpotFacts, Stepped, fixed_by, graph_by}
use Rattle.step_core.proofs.History.Entries.{graph_settled, legal_settled, entries_settled, command_valid, own_more, other_more}
use Rattle.step_core.proofs.Machines.Owed.{IsSeen, IsShort, IsThread, IsAim, IsMachine, PromisedToMutators, Owes}
use Rattle.step_core.proofs.Control.Images.{words_after}
use Rattle.step_core.proofs.Mutators.Outside.{outside_told, outside_given, refused_quiet, answer_before}
use Rattle.step_core.proofs.Machines.Answered.{whole_before, whole_then, raw_stays, now_stays, counts_same, other_raw, other_counts}
use Rattle.step_core.proofs.Machines.Roles.{machine_stays, short_stays, seen_stays}

-- under an order no reply is settled, and it does not wait
orders_unsettled : (config : Config) (world : World) (seat : ℕ) (kept : Kept) (command : Command) (fixed : Option Reply) (spot : Spot) (made : ℕ) (order : Order) → (order ≡ Nothing → ⊥) → takes_at spot made order ≡ true
    → SpotFacts config world seat made kept command fixed spot → (fixed ≡ None) × (is_waiting spot ≡ false)
orders_unsettled config world seat kept command fixed Rest made order has_order takes facts = (facts, refl)
orders_unsettled config world seat kept command fixed (Ended reply) made order has_order takes facts = (facts, refl)
orders_unsettled config world seat kept command fixed Gone made order has_order takes facts = absurd (cc (takes))
orders_unsettled config world seat kept command fixed spot made order has_order takes facts = absurd (has_order (in_call spot made order refl takes))

-- a reply that is given is the settled one, of a call that goes on
pub gives_settled : (config : Config) (world : World) (seat : ℕ) (kept : Kept) (command : Command) (fixed : Option Reply) (spot : Spot) (made : ℕ) (reply : Reply) → SpotFacts config world seat made kept command fixed spot → given_at spot ≡ Some reply → fixed ≡ Some reply
gives_settled config world seat kept command fixed (Leave left_reply) made reply facts gives_reply = facts ∙ gives_reply
gives_settled config world seat kept command fixed _ made reply facts gives_reply = cc

-- the command stays, or no reply is settled
command_stays : (config : Config) (world : World) (seat : ℕ) (kept : Kept) (command : Command) (fixed : Option Reply) (spot : Spot) (made : ℕ) (order : Order) → takes_at spot made order ≡ true → SpotFacts config world seat made kept command fixed spot
    → ((fixed ≡ None) × (is_waiting spot ≡ false)) ⊎ (command_by order command ≡ command)
command_stays config world seat kept command fixed spot made Nothing takes facts = inr refl
command_stays config world seat kept command fixed spot made (Begin begun_command) takes facts = inl (orders_unsettled config world seat kept command fixed spot made (Begin begun_command) (λ e. cc) takes facts)
command_stays config world seat kept command fixed spot made End takes facts = inr refl
command_stays config world seat kept command fixed spot made (Hint address) takes facts = inr refl

-- the entries of a mutator after a step that settles a reply, gives one, or does neither
entries_step : (calls : List Entry) (seat : ℕ) (command after : Command) (fixed told_reply given_reply : Option Reply)
    → ((reply : Reply) → given_reply ≡ Some reply → fixed ≡ Some reply)
    → ((reply : Reply) → told_reply ≡ Some reply → (fixed ≡ None) × (given_reply ≡ None))
    → (fixed ≡ None) ⊎ (after ≡ command)
    → (calls ++ entries_of seat command fixed) ++ entries_of seat after told_reply
    ≡ (calls ++ entries_of seat command given_reply) ++ entries_of seat after (fixed_by fixed told_reply given_reply)
entries_step calls seat command after fixed (Some reply) given_reply gives settles command_stays = rw ((settles reply refl).0, (settles reply refl).1) refl
entries_step calls seat command after fixed None (Some reply) gives settles command_stays = rw (gives reply refl) refl
entries_step calls seat command after fixed None None gives settles command_stays =
    append-nil _ ∙ ⊎_elim
    (λ (not_fixed : fixed ≡ None). rw not_fixed (sym (append-nil _)))
    (λ (same_command : after ≡ command). rw (same_command, append-nil calls) refl)
    command_stays

-- a mutator keeps its seat
next_seat : (config : Config) (mutator : Mutating) (order : Order) (got : ℕ) (spot : Spot) → (next_at config mutator order got spot).seat ≡ mutator.seat
next_seat config mutator Nothing got Rest = refl
next_seat config mutator (Begin command) got Rest = refl
next_seat config mutator End got Rest = refl
next_seat config mutator (Hint address) got Rest = refl
next_seat config mutator Nothing got (Ended reply) = refl
next_seat config mutator (Begin command) got (Ended reply) = refl
next_seat config mutator End got (Ended reply) = refl
next_seat config mutator (Hint address) got (Ended reply) = refl
next_seat config mutator order got _ = refl

-- The adapter. While an image counts, the mutator is outside, and its access is of no word of the image.
module _ (change : Change) (config : Config) (words : List ℕ) (found : Option Counting) (block : Plot) (ghost : Ghost) (graph : Graph) (past_entries : List Entry) (number : ℕ) (machines : List Actor) (order : Order) (mutator : Mutating)
    (command : Command) (calls : List Entry) (table_length : length words ≡ table_words config) (within_table : is_word config (touch_of config mutator order).word ≡ true)
    (image_held : (image : Counting) → found ≡ Some image → (is_within (standing_at mutator.spot) ≡ false) × (is_image (touch_of config mutator order).word ≡ false)) where
  abbrev touch : Touch
  touch = touch_of config mutator order

  abbrev words_then : List ℕ
  words_then = words_after config words touch

  -- the world before the event
  abbrev world_then : World
  world_then = record { memory = settled_by config words found; block = block; ghost = ghost; graph = graph }

  -- the actor before the event
  abbrev the_actor : Actor
  the_actor = record { machine = mutating mutator; command = command; calls = calls }

  -- the reply that the step settles
  abbrev the_told : Option Reply
  the_told = settled_by_step world_then.memory mutator

  -- the entries
  abbrev the_entries : List Entry
  the_entries = entries_of mutator.seat (command_by order command) the_told

  -- the actor after it
  abbrev the_new : Actor
  the_new = took_of change config the_actor order (world_then.memory touch.word) (mutating mutator)

  module _ (promised_to : PromisedToMutators config block) (shared : Shared config world_then) (thread_facts : IsThread config words world_then (of_thread past_entries (number + 1)) number the_actor mutator) (step : Stepped config world_then mutator command order thread_facts.fixed)
      (takes : takes_at mutator.spot mutator.made order ≡ true) where
    abbrev fixed_then : Option Reply
    fixed_then = fixed_by thread_facts.fixed the_told (given_at mutator.spot)

    -- while an image counts, nothing changes by which crowding is measured
    same_graph : (image : Counting) → found ≡ Some image → step.world.graph ≡ graph
    same_graph image is_held = step.graph ∙ ap (λ reply. graph_by graph mutator.seat (command_by order command) reply) (outside_told world_then.memory mutator.seat mutator.made mutator.kept mutator.spot (image_held image is_held).0)

    left_image : (image : Counting) → found ≡ Some image → is_image touch.word ≡ false
    left_image image is_held = (image_held image is_held).1

    -- and its own reply stays as it is
    fixed_stays : (image : Counting) → found ≡ Some image → fixed_then ≡ thread_facts.fixed
    fixed_stays image is_held =
        ap (λ reply. fixed_by thread_facts.fixed reply (given_at mutator.spot)) (outside_told world_then.memory mutator.seat mutator.made mutator.kept mutator.spot (image_held image is_held).0)
        ∙ ap (λ reply. fixed_by thread_facts.fixed None reply) (outside_given mutator.spot (image_held image is_held).0)

    -- where the table counts, an answer that the heap is full is settled
    full_open : found ≡ None → step.world.memory (Answer number) ≡ 1 → fixed_then ≡ Some Full
    full_open none_counts now_full =
        let now_own : touched world_then.memory touch (Answer mutator.seat) ≡ 1 = ap (λ memory. memory (Answer mutator.seat)) (sym step.memory) ∙ ap (λ mutator. step.world.memory (Answer mutator)) thread_facts.number_is ∙ now_full in
        let answer_one : world_then.memory (Answer mutator.seat) ≡ 1 = answer_before config world_then.memory mutator.seat mutator.made mutator.kept order mutator.spot now_own in
        let before_here : world_then.memory (Answer number) ≡ 1 = ap (λ mutator. world_then.memory (Answer mutator)) (sym thread_facts.number_is) ∙ answer_one in
        let quiet = refused_quiet config world_then mutator.seat mutator.made mutator.kept command thread_facts.fixed mutator.spot answer_one thread_facts.mine in
        let settled_full : thread_facts.fixed ≡ Some Full = ⊎_elim
        (λ (both_full : (view config words (Answer number) ≡ 1) × (thread_facts.fixed ≡ Some Full)). both_full.1)
        (λ (none_yet : (view config words (Answer number) ≡ 0) × (thread_facts.fixed ≡ None)). absurd (let same_before = whole_before config words found touch world_then step.world refl step.memory table_length within_table none_counts number in let seen_answer = none_yet.0 in omega (arith, same_before, seen_answer, before_here)))
        (thread_facts.seen.full before_here) in
        ap (λ reply. fixed_by thread_facts.fixed reply (given_at mutator.spot)) quiet.0 ∙ ap (λ reply. fixed_by thread_facts.fixed None reply) quiet.1 ∙ settled_full

    -- its answer
    own_seen : (counting : Option Counting) → found ≡ counting → IsSeen (view config words_then (Answer number)) (step.world.memory (Answer number)) fixed_then
    own_seen None found_is = record {
      null = λ answer_now. whole_then config words found touch world_then step.world refl step.memory table_length within_table found_is number ∙ answer_now;
      full = λ answer_now. inl (whole_then config words found touch world_then step.world refl step.memory table_length within_table found_is number ∙ answer_now, full_open found_is answer_now);
      given = λ is_address is_1. (let same_answer = whole_then config words found touch world_then step.world refl step.memory table_length within_table found_is number in omega (arith, same_answer, is_address, is_1));
    }
    own_seen (Some image) is_held =
        subst (λ fixed. IsSeen (view config words_then (Answer number)) (step.world.memory (Answer number)) fixed) (sym (fixed_stays image is_held))
        (seen_stays _ _ _ _ thread_facts.fixed (raw_stays config words found touch world_then step.world refl step.memory table_length within_table (left_image image is_held) number) (now_stays config words found touch world_then step.world refl step.memory table_length within_table (left_image image is_held) number) thread_facts.seen)

    -- crowding
    own_short : (counting : Option Counting) → found ≡ counting → step.world.memory (Answer number) ≡ 1 → fixed_then ≡ None → IsShort config step.world.memory step.world.graph number (words_asked (Some the_new.command))
    own_short None found_is now_full unsettled = absurd (let full_settled = sym unsettled ∙ full_open found_is now_full in cc)
    own_short (Some image) is_held now_full unsettled =
        let answer_one : world_then.memory (Answer number) ≡ 1 = sym (now_stays config words found touch world_then step.world refl step.memory table_length within_table (left_image image is_held) number) ∙ now_full in
        let same_command : command_by order command ≡ command = ⊎_elim
        (λ (rests : (thread_facts.fixed ≡ None) × (is_waiting mutator.spot ≡ false)).
        absurd (let answer = (thread_facts.mine.seated.unasked rests.1).1 in let same_number = ap (λ mutator. world_then.memory (Answer mutator)) thread_facts.number_is in omega (arith, answer, same_number, answer_one)))
        (λ (command_stands : command_by order command ≡ command). command_stands)
        (command_stays config world_then mutator.seat mutator.kept command thread_facts.fixed mutator.spot mutator.made order takes thread_facts.mine.facts) in
        subst (λ given_command. IsShort config step.world.memory step.world.graph number (words_asked (Some given_command))) (sym same_command)
        (short_stays config world_then step.world number (words_asked (Some command)) (counts_same config words found touch world_then step.world refl step.memory table_length within_table (same_graph image is_held) (left_image image is_held)) (thread_facts.short answer_one (sym (fixed_stays image is_held) ∙ unsettled)))

    -- its own machine
    own_machine : IsMachine config words_then step.world (of_thread (past_entries ++ the_entries) (number + 1)) number the_new the_new.machine
    own_machine = record {
      fixed = fixed_then;
      number_is = next_seat config mutator order _ mutator.spot ∙ thread_facts.number_is;
      valid = command_valid mutator.spot mutator.made order command takes thread_facts.valid;
      mine = step.mine;
      seen = own_seen found refl;
      short = own_short found refl;
      entries_are =
          subst (λ seat. of_thread (past_entries ++ the_entries) (seat + 1) ≡ (calls ++ entries_of mutator.seat command (given_at mutator.spot)) ++ entries_of seat (command_by order command) fixed_then) thread_facts.number_is
          (own_more past_entries mutator.seat (command_by order command) the_told
          ∙ ap (λ listed. listed ++ the_entries)
          (subst (λ seat. of_thread past_entries (seat + 1) ≡ calls ++ entries_of seat command thread_facts.fixed) (sym thread_facts.number_is) thread_facts.entries_are)
          ∙ entries_step calls mutator.seat command (command_by order command) thread_facts.fixed the_told (given_at mutator.spot)
          (λ reply given_now. gives_settled config world_then mutator.seat mutator.kept command thread_facts.fixed mutator.spot mutator.made reply thread_facts.mine.facts given_now)
          step.settles
          (⊎_elim (λ rests. inl rests.0) (λ same_command. inr same_command) (command_stays config world_then mutator.seat mutator.kept command thread_facts.fixed mutator.spot mutator.made order takes thread_facts.mine.facts)));
    }

    -- what the control has read or written of the image stays while one counts; while none does, it is in no pause
    module _ (aims : (other_number : ℕ) (actor : Actor) → other_number ≢ number → slice_get machines other_number ≡ Some actor → (control : Controlling) → actor.machine ≡ controlling control → IsAim config words control.spot control.image → IsAim config words_then control.spot control.image) where
      -- what its place owes, as an event
      pub owes_stepped : Owes config words words_then world_then past_entries number machines (touched world_then.memory touch) the_entries the_new
      owes_stepped = record {
        world = step.world;
        memory_is = step.memory;
        graph_is = step.graph ∙ graph_settled graph mutator.seat (command_by order command) the_told;
        legal = legal_settled config graph mutator.seat (command_by order command) the_told step.legal;
        entries = entries_settled config.mutators mutator.seat (command_by order command) the_told thread_facts.mine.seated.below (command_valid mutator.spot mutator.made order command takes thread_facts.valid);
        shared = step.shared;
        promised_to = λ address seat promised_words has_promise. ⊎_elim
            (λ (same_seat : seat ≡ mutator.seat). subst (λ given_number. given_number < config.mutators) (sym same_seat) thread_facts.mine.seated.below)
            (λ (seat_differs : seat ≢ mutator.seat). promised_to address seat promised_words ((step.others seat seat_differs).no_promises address promised_words has_promise))
            (cases_eq seat mutator.seat);
        own = own_machine;
        others = λ other_number actor seat_differs has_promise actor_known.
            let seats_differ : other_number ≢ mutator.seat = λ numbers_equal. seat_differs (numbers_equal ∙ thread_facts.number_is) in
            machine_stays config words words_then world_then step.world (of_thread past_entries (other_number + 1)) (of_thread (past_entries ++ the_entries) (other_number + 1)) other_number actor actor.machine shared
            (record {
              rely = step.others other_number seats_differ;
              answer = other_raw config words found touch world_then step.world refl step.memory table_length within_table left_image found refl other_number (step.others other_number seats_differ);
              counts = other_counts config words found touch world_then step.world refl step.memory table_length within_table left_image same_graph found refl other_number;
              aims = λ control same_seat. aims other_number actor seat_differs has_promise control same_seat;
            })
            (other_more past_entries mutator.seat (command_by order command) the_told other_number seats_differ) actor_known;
      }
