-- The step by which the control has read the last word of an image: the new image counts from here on, all at once, and each machine
-- is where it should be in it.
use Rattle.std.proofs.Common.{◌≡◌, ◌≢◌, ℕ, ◌+◌, ◌<◌, ◌≤◌, inl, inr, ⊎_elim, true, false, List, [], ◌++◌, length, Option, Some, None, refl, sym, ap, ◌∙◌, subst, arith}
use Rattle.std.specs.Prelude.{◌*◌, ◌-◌, ◌==◌, ◌||◌, not, sum_by, slice_get, slice_index, if◌then◌else◌}
use Rattle.std.proofs.lemmas.Bool.{cond-true, false≢true, true≢false, lt-ltb}
use Rattle.std.proofs.lemmas.List.{append-nil}
use Rattle.std.proofs.lemmas.List.Elements.{All-nil}
use Rattle.heap_words.specs.declared.config.Config.{Config}
use Rattle.heap_words.specs.Ranges.{seat_count}
use Rattle.std.specs.Int.{bit_at}
use Rattle.heap_words.specs.Words.{Word, Phase, Cset, Evac, Ask, Root, Answer, image_start, view}
use Rattle.regions.specs.Tops.{sum_below}
use Rattle.regions.proofs.Sums.{sum_same}
use Rattle.shen_graph.specs.declared.command.Command.{Command}
use Rattle.shen_graph.specs.declared.command.Reply.{Reply}
use Rattle.shen_graph.specs.Crowd.{words_asked}
use Rattle.shen_graph.specs.Graph.{Graph, named}
use Rattle.shen_graph.specs.Reach.{size}
use Rattle.shen_graph.specs.History.{Entry, of_thread}
use Rattle.handshake.specs.declared.enter_spot.EnterSpot.{EnterSpot}
use Rattle.handshake.specs.Standing.{is_within}
use Rattle.mutator.specs.declared.spot.Kept.{Kept}
use Rattle.mutator.specs.declared.spot.Spot.{Spot}
use Rattle.mutator.specs.declared.spot.Spot.TheVariants.{Rest, Ended, Entering, Waiting, Gone}
use Rattle.mutator.specs.declared.spot.Entered.TheVariants.{Call, Waited}
use Rattle.mutator.specs.declared.waits.WaitSpot.TheVariants as wait
use Rattle.mutator.specs.Commands.{dst_of, refs_of, nums_of}
use Rattle.mutator.specs.Orders.{is_waiting}
use Rattle.mutator.specs.Rows.{Mutating}
use Rattle.alloc_buffers.specs.Facts.{IsSpare, OnlySpares}
use Rattle.heap_world.specs.World.{Ghost, World, Block, Plot, hand, carved, room_of, Points, IsUsable, UsableIn, Shared}
use Rattle.heap_world.specs.Asking.{Asking, nothing, asks, refused, given, IsAsked}
use Rattle.heap_world.specs.Change.{Change, Answers, IsDue, IsPaused, image_view, image_words, words_given}
use Rattle.collector_rows.specs.ByParts.{PausesByParts}
use Rattle.heap_world.specs.Represents.{NobodyMarks, NobodyCopies, Represents}
use Rattle.heap_world.specs.Roots.{HasNoMoreRoots, HasNoMorePins}
use Rattle.collector_rows.specs.declared.extent.Extent.{Extent}
use Rattle.collector_rows.specs.Extent.{extent_by, counts, Counting}
use Rattle.collector_rows.specs.ByParts.{IsImagePart, IsMadeOf}
use Rattle.collector_rows.proofs.Extents.{early}
use Rattle.collector_rows.specs.declared.control_spot.ControlSpot.TheVariants.{StoreWord}
use Rattle.step_core.specs.Actor.{Machine, mutating, controlling, Actor}
use Rattle.step_core.specs.Settled.{is_counting, mixed, settled_by, control_number}
use Rattle.step_core.specs.Own.{root_now}
use Rattle.step_core.specs.Standing.{standing_at}
use Rattle.step_core.specs.Machines.{standing_of}
use Rattle.step_core.proofs.Machines.Stepped.{recording_of, has_phase, has_set, copies_at, HasMarkingBy, HasCopyingBy, IsMaking, IsPolling, IsAnswered, SpotFacts, Mine}
use Rattle.step_core.specs.Threads.{IsSettled}
use Rattle.step_core.proofs.Machines.Owed.{IsSeen, IsShort, IsThread, IsResting, IsMachine, PromisedToMutators, Owes, words_promised}
use Rattle.step_core.proofs.Control.Asked.{asking_by, asking_asks, asking_refused, asking_given, asking_at, asking_in, asking_of, asked_same, polling_asked, answered_asked, nothing_then, refused_then, given_then, asks_then, promised_given}
use Rattle.step_core.proofs.Control.Images.{mixed_whole, image_in, image_in_reads, all_of, parts_same}
use Rattle.step_core.proofs.Control.OutsideImage.{open_world}
use Rattle.step_core.proofs.History.Replies.{answered_polls}
use Rattle.step_core.proofs.Machines.Roles.{full_settled, machine_there, mutator_there, unmarking_by, uncopying_by, rests_by, rests_there, outside_goes_on}
use Rattle.heap_world.proofs.Roomless.{only_spares}
use Rattle.step_core.proofs.Mutators.Within.{records_outside, copies_outside, outside_spares}
use Rattle.step_core.proofs.Mutators.Spots.{mutator_at}

-- an image has words
some_words : (config : Config) → 0 < image_words config
some_words config = omega arith

-- a mutator that is not in the heap has no root's new value in hand
root_outside : (world : World) (seat : ℕ) (kept : Kept) (spot : Spot) (index : ℕ) → is_within (standing_at spot) ≡ false → root_now world seat kept spot index ≡ world.memory (Root seat index)
root_outside world seat kept Rest index is_outside = refl
root_outside world seat kept (Ended reply) index is_outside = refl
root_outside world seat kept (Entering spot then_on) index is_outside = refl
root_outside world seat kept (Waiting spot) index is_outside = refl
root_outside world seat kept Gone index is_outside = refl
root_outside world seat kept _ index is_outside = cc

-- its call has not loaded the phase, or knows it no more
phase_outside : (spot : Spot) → is_within (standing_at spot) ≡ false → has_phase spot ≡ false
phase_outside Rest is_outside = refl
phase_outside (Ended reply) is_outside = refl
phase_outside (Entering spot then_on) is_outside = refl
phase_outside (Waiting spot) is_outside = refl
phase_outside Gone is_outside = refl
phase_outside _ is_outside = absurd (cc (is_outside))

-- so where nobody marks, what it counts on of marking holds
marking_outside : (config : Config) (world : World) (seat loaded : ℕ) (spot : Spot) → is_within (standing_at spot) ≡ false → NobodyMarks config world.ghost → seat < config.mutators → HasMarkingBy world seat (recording_of spot) loaded (has_phase spot)
marking_outside config world seat loaded spot is_outside unmarking seat_below =
    subst (λ in_hand. HasMarkingBy world seat in_hand loaded (has_phase spot)) (sym (records_outside spot is_outside))
    (subst (λ knows. HasMarkingBy world seat None loaded knows) (sym (phase_outside spot is_outside)) (unmarking_by config world seat loaded unmarking seat_below))

-- nor the collection set
set_outside : (spot : Spot) → is_within (standing_at spot) ≡ false → has_set spot ≡ false
set_outside Rest is_outside = refl
set_outside (Ended reply) is_outside = refl
set_outside (Entering spot then_on) is_outside = refl
set_outside (Waiting spot) is_outside = refl
set_outside Gone is_outside = refl
set_outside _ is_outside = absurd (cc (is_outside))

-- so where nobody copies, what it counts on of evacuation holds
copying_outside : (config : Config) (world : World) (seat loaded : ℕ) (spot : Spot) → is_within (standing_at spot) ≡ false → NobodyCopies config world.ghost → seat < config.mutators → HasCopyingBy world seat (copies_at spot) loaded (has_set spot)
copying_outside config world seat loaded spot is_outside uncopying seat_below =
    subst (λ copies. HasCopyingBy world seat copies loaded (has_set spot)) (sym (copies_outside spot is_outside))
    (subst (λ knows. HasCopyingBy world seat false loaded knows) (sym (set_outside spot is_outside)) (uncopying_by config world seat loaded uncopying seat_below))

-- what it has asked for stands in the words
pub asked_outside : (config : Config) (world : World) (seat made : ℕ) (kept : Kept) (spot : Spot) (command : Command) (fixed : Option Reply) → is_within (standing_at spot) ≡ false
    → Mine config world (mutator_at seat made kept spot) command fixed → IsAsked world.memory world.block world.graph.count seat (asking_at spot (world.memory (Answer seat)) kept.command)
asked_outside config world seat made kept Rest command fixed is_outside own_facts = own_facts.seated.unasked refl
asked_outside config world seat made kept (Ended reply) command fixed is_outside own_facts = own_facts.seated.unasked refl
asked_outside config world seat made kept Gone command fixed is_outside own_facts = own_facts.seated.unasked refl
asked_outside config world seat made kept (Entering spot Call) command fixed is_outside own_facts = own_facts.seated.unasked refl
asked_outside config world seat made kept (Entering spot Waited) command fixed is_outside own_facts = answered_asked world seat made kept.command command fixed own_facts.facts
asked_outside config world seat made kept (Waiting wait.Poll) command fixed is_outside own_facts = polling_asked world seat made kept.command command fixed own_facts.facts
asked_outside config world seat made kept (Waiting wait.StoreRequest) command fixed is_outside own_facts = cc
asked_outside config world seat made kept (Waiting wait.AskRoom) command fixed is_outside own_facts = cc
asked_outside config world seat made kept (Waiting wait.StepOut) command fixed is_outside own_facts = cc
asked_outside config world seat made kept (Waiting wait.LoadAnswer) command fixed is_outside own_facts = cc
asked_outside config world seat made kept (Waiting (wait.StoreRoot address)) command fixed is_outside own_facts = cc
asked_outside config world seat made kept (Waiting (wait.ClearAnswer reply)) command fixed is_outside own_facts = cc
asked_outside config world seat made kept _ command fixed is_outside own_facts = cc

-- who asks has said so: the word of what is asked has its bit
heard_polling : (world : World) (seat made refs nums : ℕ) (kept_command command : Command) (fixed : Option Reply) → IsPolling world seat made kept_command command fixed → asking_by (world.memory (Answer seat)) kept_command ≡ asks refs nums → bit_at (world.memory Ask) 1 ≡ 1
heard_polling world seat made refs nums kept_command command fixed (inl waits) it_asks = waits.1
heard_polling world seat made refs nums kept_command command fixed (inr (inl is_answered)) it_asks = absurd (let not_asking = sym (asking_given _ kept_command is_answered.1.1) ∙ it_asks in cc (not_asking))
heard_polling world seat made refs nums kept_command command fixed (inr (inr refused_so)) it_asks = absurd (let not_asking = sym (asking_refused _ kept_command refused_so.1.1) ∙ it_asks in cc (not_asking))

heard_outside : (config : Config) (world : World) (seat made refs nums : ℕ) (kept : Kept) (spot : Spot) (command : Command) (fixed : Option Reply) → is_within (standing_at spot) ≡ false
    → Mine config world (mutator_at seat made kept spot) command fixed → asking_at spot (world.memory (Answer seat)) kept.command ≡ asks refs nums → bit_at (world.memory Ask) 1 ≡ 1
heard_outside config world seat made refs nums kept (Entering spot Waited) command fixed is_outside own_facts it_asks =
    heard_polling world seat made refs nums kept.command command fixed (answered_polls world seat made kept.command command fixed own_facts.facts) it_asks
heard_outside config world seat made refs nums kept (Waiting wait.Poll) command fixed is_outside own_facts it_asks = heard_polling world seat made refs nums kept.command command fixed own_facts.facts it_asks
heard_outside config world seat made refs nums kept (Waiting spot) command fixed is_outside own_facts it_asks = absurd (cc (is_outside))
heard_outside config world seat made refs nums kept _ command fixed is_outside own_facts it_asks = absurd (cc (it_asks))

-- an answer is one of three: none, full, or an address
none_is_not_full : (answer : ℕ) → answer ≡ 0 → answer ≡ 1 → ⊥
none_is_not_full answer is_null is_one = omega arith

none_is_not_given : (answer : ℕ) → answer ≡ 0 → 1 < answer → ⊥
none_is_not_given answer is_null is_address = omega arith

full_is_not_given : (answer : ℕ) → answer ≡ 1 → 1 < answer → ⊥
full_is_not_given answer is_one is_address = omega arith

-- a mutator is not the control
mutator_is_not_control : (config : Config) (mutator : ℕ) → mutator < config.mutators → mutator ≢ control_number config
mutator_is_not_control config mutator mutator_below same_number = omega arith

-- The mutators in a new image: it stands for the same graph, nobody marks or copies in it, and it answers who asks.
module _ (config : Config) (words : List ℕ) (next_world image_world : World) (mutator made : ℕ) (kept : Kept) (actor : Actor) (asking : Asking)
    (mutator_asked : IsAsked image_world.memory image_world.block image_world.graph.count mutator asking) (same_graph : image_world.graph ≡ next_world.graph)
    (roots : (place : ℕ) → place < 16 → Points image_world.block (image_world.memory (Root mutator place)) (image_world.graph.root (mutator + 1) place)) (spares_only : OnlySpares image_world mutator) (unmarking : NobodyMarks config image_world.ghost)
    (uncopying : NobodyCopies config image_world.ghost) (usable : (place : ℕ) → place < 16 → UsableIn config image_world (image_world.memory (Root mutator place))) where
  -- what it counts on then, where it is outside
  mine_outside : (spot : Spot) (fixed : Option Reply) → is_within (standing_at spot) ≡ false → Mine config next_world (mutator_at mutator made kept spot) actor.command fixed
      → (is_waiting spot ≡ false → IsAsked image_world.memory image_world.block image_world.graph.count mutator nothing) → SpotFacts config image_world mutator made kept actor.command fixed spot → Mine config image_world (mutator_at mutator made kept spot) actor.command fixed
  mine_outside spot fixed is_outside own_facts unasked facts = record {
    seated = record {
      below = own_facts.seated.below;
      counted = ap (λ graph_then. graph_then.count (mutator + 1)) same_graph ∙ own_facts.seated.counted;
      usable = usable;
      unasked = unasked;
    };
    ready = own_facts.ready;
    marking = marking_outside config image_world mutator kept.phase spot is_outside unmarking own_facts.seated.below;
    copying = copying_outside config image_world mutator kept.cset spot is_outside uncopying own_facts.seated.below;
    roots = λ index small. subst (λ word. Points image_world.block word (image_world.graph.root (mutator + 1) index)) (sym (root_outside image_world mutator kept spot index is_outside)) (roots index small);
    rooms = λ place asking room_there room. outside_spares mutator kept spot place asking is_outside (spares_only place asking room_there room);
    facts = facts;
  }

  -- What holds of it then. The answer that it had was that of the table, and if it is refused now, the heap is crowded.
  module _ (entries : List Entry) (answer_read : view config words (Answer mutator) ≡ next_world.memory (Answer mutator)) where
    abbrev IsCrowdedOut : Asking → Type 0
    IsCrowdedOut before = (refs nums : ℕ) → before ≡ asks refs nums → asking ≡ refused → IsShort config image_world.memory image_world.graph mutator (3 + refs + nums)

    abbrev Thread : World → Spot → Type 0
    Thread world spot = IsThread config words world entries mutator actor (mutator_at mutator made kept spot)

    -- where it does not wait
    quiet_then : (spot : Spot) → is_within (standing_at spot) ≡ false → is_waiting spot ≡ false → Answers nothing asking → (old : Thread next_world spot) → SpotFacts config image_world mutator made kept actor.command old.fixed spot → Thread image_world spot
    quiet_then spot is_outside quiet answers old facts =
        let asked_now : IsAsked image_world.memory image_world.block image_world.graph.count mutator nothing = nothing_then image_world.memory image_world.block image_world.graph.count mutator asking answers mutator_asked in
        let answer : image_world.memory (Answer mutator) ≡ 0 = asked_now.1 in
        record {
          fixed = old.fixed;
          number_is = refl;
          valid = old.valid;
          mine = mine_outside spot old.fixed is_outside old.mine (λ e. asked_now) facts;
          seen = record {
            null = λ e. answer_read ∙ (old.mine.seated.unasked quiet).1;
            full = λ e. absurd (none_is_not_full _ answer e);
            given = λ e. absurd (none_is_not_given _ answer e);
          };
          short = λ e unsettled. absurd (none_is_not_full _ answer e);
          entries_are = old.entries_are;
        }

    -- where it waits, and its answer is an address then
    given_now : (spot : Spot) → is_within (standing_at spot) ≡ false → is_waiting spot ≡ true → view config words (Answer mutator) ≢ 1 → 1 < image_world.memory (Answer mutator) → (old : Thread next_world spot) → SpotFacts config image_world mutator made kept actor.command old.fixed spot
        → Thread image_world spot
    given_now spot is_outside waits not_refused is_address old facts = record {
      fixed = old.fixed;
      number_is = refl;
      valid = old.valid;
      mine = mine_outside spot old.fixed is_outside old.mine (λ e. absurd (false≢true (sym e ∙ waits))) facts;
      seen = record { null = λ e. absurd (none_is_not_given _ e is_address); full = λ e. absurd (full_is_not_given _ e is_address); given = λ e. not_refused };
      short = λ e unsettled. absurd (full_is_not_given _ e is_address);
      entries_are = old.entries_are;
    }

    -- where it waits, and was refused before
    refused_now : (spot : Spot) → is_within (standing_at spot) ≡ false → is_waiting spot ≡ true → next_world.memory (Answer mutator) ≡ 1 → image_world.memory (Answer mutator) ≡ 1 → (old : Thread next_world spot) → SpotFacts config image_world mutator made kept actor.command old.fixed spot
        → Thread image_world spot
    refused_now spot is_outside waits full_before is_refused old facts = record {
      fixed = old.fixed;
      number_is = refl;
      valid = old.valid;
      mine = mine_outside spot old.fixed is_outside old.mine (λ e. absurd (false≢true (sym e ∙ waits))) facts;
      seen = subst (λ answer. IsSeen (view config words (Answer mutator)) answer old.fixed) (full_before ∙ sym is_refused) old.seen;
      short = λ e unsettled. absurd (full_settled _ _ old.fixed old.seen answer_read full_before unsettled);
      entries_are = old.entries_are;
    }

    -- where it waits, and is refused now
    refused_first : IsCrowdedOut (asking_by (next_world.memory (Answer mutator)) kept.command) → next_world.memory (Answer mutator) ≡ 0 → IsAsked image_world.memory image_world.block image_world.graph.count mutator refused → asking ≡ refused → (old : Thread next_world (Waiting wait.Poll))
        → IsMaking made actor.command old.fixed (dst_of kept.command) (refs_of kept.command) (nums_of kept.command) → Thread image_world (Waiting wait.Poll)
    refused_first crowded_out no_answer asked_now was_refused old making = record {
      fixed = old.fixed;
      number_is = refl;
      valid = old.valid;
      mine = mine_outside (Waiting wait.Poll) old.fixed refl old.mine (λ e. absurd (false≢true (sym e))) (inr (inr (record { dst = dst_of kept.command; refs = refs_of kept.command; nums = nums_of kept.command; is = making.is; settled = inl making.unsettled }, asked_now)));
      seen = record {
        null = λ e. absurd (none_is_not_full _ e asked_now.1);
        full = λ e. inr (answer_read ∙ no_answer, making.unsettled);
        given = λ e. absurd (full_is_not_given _ asked_now.1 e);
      };
      short = λ e unsettled.
          subst (λ command. IsShort config image_world.memory image_world.graph mutator (words_asked (Some command))) (sym making.is)
          (crowded_out (refs_of kept.command) (nums_of kept.command) (asking_asks _ kept.command no_answer) was_refused);
      entries_are = old.entries_are;
    }

    -- where it polls
    poll_then : IsCrowdedOut (asking_by (next_world.memory (Answer mutator)) kept.command) → Answers (asking_by (next_world.memory (Answer mutator)) kept.command) asking → (old : Thread next_world (Waiting wait.Poll)) → IsPolling next_world mutator made kept.command actor.command old.fixed → Thread image_world (Waiting wait.Poll)
    poll_then crowded_out answers old (inl waits) = ⊎_elim
        (λ (none_left : IsAsked image_world.memory image_world.block image_world.graph.count mutator refused × (asking ≡ refused)). refused_first crowded_out waits.0.1.1 none_left.0 none_left.1 old waits.0.0)
        (λ (is_answered : IsAsked image_world.memory image_world.block image_world.graph.count mutator (given (refs_of kept.command) (nums_of kept.command))).
        given_now (Waiting wait.Poll) refl refl (λ answer_full. none_is_not_full _ waits.0.1.1 (sym answer_read ∙ answer_full)) is_answered.1 old (inr (inl (waits.0.0, is_answered))))
        (asks_then image_world.memory image_world.block image_world.graph.count mutator (refs_of kept.command) (nums_of kept.command) asking (subst (λ y. Answers y asking) (asking_asks _ kept.command waits.0.1.1) answers) mutator_asked)
    poll_then crowded_out answers old (inr (inl is_answered)) =
        let answer_then = given_then image_world.memory image_world.block image_world.graph.count mutator (refs_of kept.command) (nums_of kept.command) asking (subst (λ y. Answers y asking) (asking_given _ kept.command is_answered.1.1) answers) mutator_asked in
        given_now (Waiting wait.Poll) refl refl (λ answer_full. full_is_not_given _ (sym answer_read ∙ answer_full) is_answered.1.1) answer_then.1 old (inr (inl (is_answered.0, answer_then)))
    poll_then crowded_out answers old (inr (inr is_refused)) =
        let answer_then = refused_then image_world.memory image_world.block image_world.graph.count mutator asking (subst (λ y. Answers y asking) (asking_refused _ kept.command is_refused.1.1) answers) mutator_asked in
        refused_now (Waiting wait.Poll) refl refl is_refused.1.1 answer_then.1 old (inr (inr (is_refused.0, answer_then)))

    -- where it enters again with its answer
    enter_then : (spot : EnterSpot) → is_within (standing_at (Entering spot Waited)) ≡ false → Answers (asking_by (next_world.memory (Answer mutator)) kept.command) asking → (old : Thread next_world (Entering spot Waited))
        → IsAnswered next_world mutator made kept.command actor.command old.fixed → Thread image_world (Entering spot Waited)
    enter_then spot is_outside answers old (inl is_answered) =
        let answer_then = given_then image_world.memory image_world.block image_world.graph.count mutator (refs_of kept.command) (nums_of kept.command) asking (subst (λ y. Answers y asking) (asking_given _ kept.command is_answered.1.1) answers) mutator_asked in
        given_now (Entering spot Waited) is_outside refl (λ answer_full. full_is_not_given _ (sym answer_read ∙ answer_full) is_answered.1.1) answer_then.1 old (inl (is_answered.0, answer_then))
    enter_then spot is_outside answers old (inr is_refused) =
        let answer_then = refused_then image_world.memory image_world.block image_world.graph.count mutator asking (subst (λ y. Answers y asking) (asking_refused _ kept.command is_refused.1.1) answers) mutator_asked in
        refused_now (Entering spot Waited) is_outside refl is_refused.1.1 answer_then.1 old (inr (is_refused.0, answer_then))

    -- wherever it is outside
    pub thread_then : (spot : Spot) → is_within (standing_at spot) ≡ false → IsCrowdedOut (asking_at spot (next_world.memory (Answer mutator)) kept.command) → Answers (asking_at spot (next_world.memory (Answer mutator)) kept.command) asking → Thread next_world spot → Thread image_world spot
    thread_then Rest is_outside crowded_out answers old = quiet_then Rest is_outside refl answers old old.mine.facts
    thread_then (Ended reply) is_outside crowded_out answers old = quiet_then (Ended reply) is_outside refl answers old old.mine.facts
    thread_then Gone is_outside crowded_out answers old = quiet_then Gone is_outside refl answers old old.mine.facts
    thread_then (Entering spot Call) is_outside crowded_out answers old = quiet_then (Entering spot Call) is_outside refl answers old old.mine.facts
    thread_then (Entering spot Waited) is_outside crowded_out answers old = enter_then spot is_outside answers old old.mine.facts
    thread_then (Waiting wait.Poll) is_outside crowded_out answers old = poll_then crowded_out answers old old.mine.facts
    thread_then (Waiting wait.StoreRequest) is_outside crowded_out answers old = absurd (true≢false is_outside)
    thread_then (Waiting wait.AskRoom) is_outside crowded_out answers old = absurd (true≢false is_outside)
    thread_then (Waiting wait.StepOut) is_outside crowded_out answers old = absurd (true≢false is_outside)
    thread_then (Waiting wait.LoadAnswer) is_outside crowded_out answers old = absurd (true≢false is_outside)
    thread_then (Waiting (wait.StoreRoot address)) is_outside crowded_out answers old = absurd (true≢false is_outside)
    thread_then (Waiting (wait.ClearAnswer reply)) is_outside crowded_out answers old = absurd (true≢false is_outside)
    thread_then _ is_outside crowded_out answers old = absurd (true≢false is_outside)

-- A stage in which the control rests, and every machine but it is outside.
module _ (config : Config) (words : List ℕ) (block : Plot) (ghost : Ghost) (graph : Graph) (past : List Entry) (machines : List Actor) (seats : length machines ≡ seat_count config.mutators config.helpers)
    (control_rests : IsResting (open_world config words block ghost graph) (control_number config)) where
  abbrev before : World
  before = open_world config words block ghost graph

  -- what each machine has asked for
  abbrev pub asking : ℕ → Asking
  asking mutator = asking_of (slice_get machines mutator) (view config words (Answer mutator))

  -- what holds of the machines
  abbrev pub AllKnown : Type 0
  AllKnown = (index : ℕ) (actor : Actor) → slice_get machines index ≡ Some actor → IsMachine config words before (of_thread past (index + 1)) index actor actor.machine

  -- no machine but the control is in the heap
  abbrev pub AllOutside : Type 0
  AllOutside = (index : ℕ) (actor : Actor) → slice_get machines index ≡ Some actor → index ≢ control_number config → is_within (standing_of actor.machine) ≡ false

  -- a mutator is not
  mutator_out : AllOutside → (seat : ℕ) (actor : Actor) (mutator : Mutating) → seat < config.mutators → slice_get machines seat ≡ Some actor → actor.machine ≡ mutating mutator → is_within (standing_at mutator.spot) ≡ false
  mutator_out outside seat actor mutator seat_below actor_there is_mutating = ap (λ machine. is_within (standing_of machine)) (sym is_mutating) ∙ outside seat actor actor_there (mutator_is_not_control config seat seat_below)

  -- and has asked for what its spot says
  pub mutator_asks : (seat : ℕ) (actor : Actor) (mutator : Mutating) → slice_get machines seat ≡ Some actor → actor.machine ≡ mutating mutator → asking seat ≡ asking_at mutator.spot (view config words (Answer seat)) mutator.kept.command
  mutator_asks seat actor mutator actor_there is_mutating = ap (λ found_actor. asking_of found_actor (view config words (Answer seat))) actor_there ∙ ap (λ machine. asking_in machine (view config words (Answer seat))) is_mutating

  -- every machine rests
  all_rest : AllKnown → AllOutside → (seat : ℕ) → seat < seat_count config.mutators config.helpers → IsResting before seat
  all_rest all_known outside seat seat_below =
      let machine_found = machine_there config words before past machines seats seat seat_below in
      rests_there config words before (of_thread past (seat + 1)) seat machine_found.0 machine_found.0.machine (outside seat machine_found.0 machine_found.1) (λ same_machine. subst (IsResting before) (sym same_machine) control_rests) (all_known seat machine_found.0 machine_found.1)

  -- all room is free words of buffers
  spares_there : Shared config before → AllKnown → AllOutside → (address seat : ℕ) (piece : Block) → block address ≡ Some piece → room_of piece ≡ Some seat → IsSpare seat piece
  spares_there shared all_known outside address seat piece piece_there piece_is_room = (all_rest all_known outside seat (shared.owned.rooms.seated address seat piece piece_there piece_is_room)).rooms address piece piece_there piece_is_room

  -- what it has asked for stands in the words
  asked_there : AllKnown → AllOutside → (mutator : ℕ) → mutator < config.mutators → IsAsked (view config words) block graph.count mutator (asking mutator)
  asked_there all_known outside mutator mutator_below =
      let mutator_found = mutator_there config words before past machines seats all_known mutator mutator_below in
      let its_state = mutator_found.1 in
      let thread = mutator_found.4 in
      let is_outside = mutator_out outside mutator mutator_found.0 its_state mutator_below mutator_found.2 mutator_found.3 in
      subst (λ request. IsAsked (view config words) block graph.count mutator request) (sym (mutator_asks mutator mutator_found.0 its_state mutator_found.2 mutator_found.3))
      (subst (λ mutator. IsAsked (view config words) block graph.count mutator (asking_at its_state.spot (view config words (Answer mutator)) its_state.kept.command)) thread.number_is
      (asked_outside config before its_state.seat its_state.made its_state.kept its_state.spot mutator_found.0.command thread.fixed is_outside thread.mine))

  -- and who asks has said so
  heard_there : AllKnown → AllOutside → (mutator refs nums : ℕ) → mutator < config.mutators → asking mutator ≡ asks refs nums → bit_at (view config words Ask) 1 ≡ 1
  heard_there all_known outside mutator refs nums mutator_below it_asks =
      let mutator_found = mutator_there config words before past machines seats all_known mutator mutator_below in
      let its_state = mutator_found.1 in
      let thread = mutator_found.4 in
      let is_outside = mutator_out outside mutator mutator_found.0 its_state mutator_below mutator_found.2 mutator_found.3 in
      let asks_so : asking_at its_state.spot (view config words (Answer its_state.seat)) its_state.kept.command ≡ asks refs nums =
      ap (λ mutator. asking_at its_state.spot (view config words (Answer mutator)) its_state.kept.command) thread.number_is ∙ sym (mutator_asks mutator mutator_found.0 its_state mutator_found.2 mutator_found.3) ∙ it_asks in
      heard_outside config before its_state.seat its_state.made refs nums its_state.kept its_state.spot mutator_found.0.command thread.fixed is_outside thread.mine asks_so

  nobody_marks : AllKnown → AllOutside → NobodyMarks config ghost
  nobody_marks all_known outside = record {
    records_none = λ seat seat_below. (all_rest all_known outside seat seat_below).records_none;
    scans_none = λ seat seat_below. (all_rest all_known outside seat seat_below).scans_none;
  }

  nobody_copies : AllKnown → AllOutside → NobodyCopies config ghost
  nobody_copies all_known outside = record {
    copies_none = λ seat seat_below. (all_rest all_known outside seat seat_below).copies_none;
    works_none = λ seat seat_below. (all_rest all_known outside seat seat_below).works_none;
  }

  -- The words of the table stand for the graph.
  pub words_stand : Shared config before → PromisedToMutators config block → HasNoMoreRoots config.mutators graph → HasNoMorePins config.mutators graph → AllKnown → AllOutside → Represents config (view config words) graph asking
  words_stand shared promised_to no_more no_more_pins all_known outside = record {
    block = block;
    ghost = ghost;
    shared = shared;
    roots = λ asked_mutator index mutator_below small.
        let mutator_found = mutator_there config words before past machines seats all_known asked_mutator mutator_below in
        let its_state = mutator_found.1 in
        let thread = mutator_found.4 in
        let is_outside = mutator_out outside asked_mutator mutator_found.0 its_state mutator_below mutator_found.2 mutator_found.3 in
        subst (λ mutator. Points block (view config words (Root mutator index)) (graph.root (mutator + 1) index)) thread.number_is
        (subst (λ word. Points block word (graph.root (its_state.seat + 1) index)) (root_outside before its_state.seat its_state.kept its_state.spot index is_outside) (thread.mine.roots index small));
    usable = λ asked_mutator index mutator_below small.
        let mutator_found = mutator_there config words before past machines seats all_known asked_mutator mutator_below in
        let thread = mutator_found.4 in
        subst (λ mutator. IsUsable config (view config words Cset) (view config words Evac) block (view config words (Root mutator index))) thread.number_is (thread.mine.seated.usable index small);
    none = λ place seat words piece_there. let not_room = (spares_there shared all_known outside place seat (hand seat words) piece_there refl).1 in cc;
    uncarved = λ address seat words piece_there. let not_room = (spares_there shared all_known outside address seat (carved seat words) piece_there refl).1 in cc;
    asked = asked_there all_known outside;
    heard = heard_there all_known outside;
    promised_to = promised_to;
    unmarking = nobody_marks all_known outside;
    uncopying = nobody_copies all_known outside;
    no_more = no_more;
    no_more_pins = no_more_pins;
  }

  -- All of the image stands for the graph.
  abbrev pub whole : List ℕ
  whole = image_in config words

  all_read : view config words ≡ mixed config words (all_of whole)
  all_read = sym (mixed_whole config words (all_of whole) (λ index index_below counted. image_in_reads config words index))

  pub image_stands : Shared config before → PromisedToMutators config block → HasNoMoreRoots config.mutators graph → HasNoMorePins config.mutators graph → AllKnown → AllOutside → Represents config (image_view config whole) graph asking
  image_stands shared promised_to no_more no_more_pins all_known outside =
      let whole_stands = words_stand shared promised_to no_more no_more_pins all_known outside in
      record {
        block = whole_stands.block;
        ghost = whole_stands.ghost;
        shared = subst (λ memory. Shared config (record { memory = memory; block = whole_stands.block; ghost = whole_stands.ghost; graph = graph })) all_read whole_stands.shared;
        roots = λ mutator index mutator_below index_below. subst (λ memory. Points whole_stands.block (memory (Root mutator index)) (graph.root (mutator + 1) index)) all_read (whole_stands.roots mutator index mutator_below index_below);
        usable = λ mutator index mutator_below index_below. subst (λ memory. IsUsable config (memory Cset) (memory Evac) whole_stands.block (memory (Root mutator index))) all_read (whole_stands.usable mutator index mutator_below index_below);
        none = whole_stands.none;
        uncarved = whole_stands.uncarved;
        asked = λ mutator mutator_below. asked_same (mixed config words (all_of whole)) (image_view config whole) whole_stands.block graph.count mutator (asking mutator) refl refl (λ a. refl) (subst (λ memory. IsAsked memory whole_stands.block graph.count mutator (asking mutator)) all_read (whole_stands.asked mutator mutator_below));
        heard = λ asked_mutator refs nums mutator_below it_asks. subst (λ memory. bit_at (memory Ask) 1 ≡ 1) all_read (whole_stands.heard asked_mutator refs nums mutator_below it_asks);
        promised_to = whole_stands.promised_to;
        unmarking = whole_stands.unmarking;
        uncopying = whole_stands.uncopying;
        no_more = no_more;
        no_more_pins = no_more_pins;
      }

  -- A part of it was read.
  module _ (extent : Extent) (part : List ℕ) (part_of : IsImagePart config extent whole part) (extent_is : extent ≡ extent_by config (slice_index part 0) part) (whole_long : length whole ≡ image_words config) (part_long : length part ≡ image_words config) where
    -- The new image counts: what the step owes.
    module _ (change : Change) (law : PausesByParts change) (due : IsDue config (view config words)) (shared : Shared config before) (promised_to : PromisedToMutators config block) (no_more : HasNoMoreRoots config.mutators graph) (no_more_pins : HasNoMorePins config.mutators graph)
        (all_known : AllKnown) (outside : AllOutside) where
      -- the pause is due by the image
      image_due : IsDue config (image_view config whole)
      image_due = subst (λ memory. IsDue config memory) all_read due

      paused : IsPaused config (image_view config whole) (image_view config (change config whole)) graph asking
      paused = law.whole.pauses config whole graph asking whole_long (image_stands shared promised_to no_more no_more_pins all_known outside) image_due

      -- what counts then is what the pause makes of all of the image
      abbrev counting : Counting
      counting = record { extent = extent; image = change config part }

      counts_all : mixed config words counting ≡ mixed config words (all_of (change config whole))
      counts_all = parts_same config words extent (change config whole) (change config part)
          (subst (λ any_extent. IsMadeOf config any_extent whole (change config whole) (change config part)) (sym extent_is)
          (law.parts.made config whole part whole_long part_long (subst (λ any_extent. IsImagePart config any_extent whole part) extent_is part_of)))

      -- the first words count
      early_counts : (index : ℕ) → index < 7 → counts config extent (change config part) index ≡ true
      early_counts index index_below = ap (λ counted_early. counted_early || not (slice_index (change config part) index == 0)) (early config extent index index_below)

      phase_counts : image_view config (change config part) Phase ≡ image_view config (change config whole) Phase
      phase_counts = sym (cond-true (is_counting config counting Phase) _ _ (early_counts (image_start config - image_start config) (omega arith))) ∙ ap (λ (memory : Word → ℕ). memory Phase) counts_all

      set_counts : image_view config (change config part) Cset ≡ image_view config (change config whole) Cset
      set_counts = sym (cond-true (is_counting config counting Cset) _ _ (early_counts (image_start config + 1 - image_start config) (omega arith))) ∙ ap (λ (memory : Word → ℕ). memory Cset) counts_all

      -- the world then
      abbrev then_world : World
      then_world = record { memory = mixed config words (all_of (change config whole)); block = paused.stands.block; ghost = paused.stands.ghost; graph = graph }

      -- what each mutator has asked for stands in its words
      asked_in_it : (mutator : ℕ) → mutator < config.mutators → IsAsked then_world.memory paused.stands.block graph.count mutator (paused.asked_then mutator)
      asked_in_it mutator mutator_below =
          asked_same (image_view config (change config whole)) then_world.memory paused.stands.block graph.count mutator (paused.asked_then mutator) refl refl (λ a. refl) (paused.stands.asked mutator mutator_below)

      -- the words that are promised then
      promised_sum : (thread : ℕ) → sum_below (λ mutator. if mutator == thread then 0 else words_given (paused.asked_then mutator)) config.mutators ≡ sum_below (λ mutator. if mutator == thread then 0 else words_promised then_world.memory mutator) config.mutators
      promised_sum thread = sum_same _ _ config.mutators (λ mutator mutator_below.
          ap (λ amount. if mutator == thread then 0 else amount) (sym (promised_given then_world.memory paused.stands.block graph.count mutator (paused.asked_then mutator) (asked_in_it mutator mutator_below))))

      -- who is refused is crowded out
      crowded_then : (mutator : ℕ) → mutator < config.mutators → (refs nums : ℕ) → asking mutator ≡ asks refs nums → paused.asked_then mutator ≡ refused → IsShort config then_world.memory graph mutator (3 + refs + nums)
      crowded_then mutator mutator_below refs nums asks_so was_refused =
          let crowd = paused.crowded mutator refs nums mutator_below asks_so was_refused in
          record {
            names = crowd.0;
            held = crowd.1;
            pinned = crowd.2;
            reach = crowd.3;
            held_is = crowd.4;
            pinned_is = crowd.5;
            crowd = subst (λ n. (config.regions - crowd.2) * (config.region_words - (3 + refs + nums) + 1) ≤ sum_by (λ n. size (named graph (Some n))) crowd.0 - crowd.1 + n) (promised_sum mutator) crowd.6;
          }

      -- a mutator
      mutator_then : (index : ℕ) (actor : Actor) (mutator : Mutating) → slice_get machines index ≡ Some actor → actor.machine ≡ mutating mutator → is_within (standing_at mutator.spot) ≡ false
          → IsThread config words before (of_thread past (index + 1)) index actor mutator → IsThread config words then_world (of_thread past (index + 1)) index actor mutator
      mutator_then index actor mutator actor_there is_mutating is_outside thread_before =
          let index_below : index < config.mutators = subst (λ number. number < config.mutators) thread_before.number_is thread_before.mine.seated.below in
          let asks_so = mutator_asks index actor mutator actor_there is_mutating in
          subst (λ number. IsThread config words then_world (of_thread past (index + 1)) index actor (mutator_at number mutator.made mutator.kept mutator.spot)) (sym thread_before.number_is)
          (thread_then config words before then_world index mutator.made mutator.kept actor (paused.asked_then index) (asked_in_it index index_below) refl (λ root_index small. paused.stands.roots index root_index index_below small) (λ address. only_spares paused.stands.block paused.stands.none paused.stands.uncarved address index) paused.stands.unmarking
          paused.stands.uncopying (λ root_index small. paused.stands.usable index root_index index_below small) (of_thread past (index + 1)) refl mutator.spot is_outside (λ refs nums asks_by. crowded_then index index_below refs nums (asks_so ∙ asks_by))
          (subst (λ request. Answers request (paused.asked_then index)) asks_so (paused.answers index index_below))
          (subst (λ number. IsThread config words before (of_thread past (index + 1)) index actor (mutator_at number mutator.made mutator.kept mutator.spot)) thread_before.number_is thread_before))

      -- any machine but the control
      machine_then : (index : ℕ) (actor : Actor) (machine : Machine) → slice_get machines index ≡ Some actor → actor.machine ≡ machine → index ≢ control_number config → is_within (standing_of machine) ≡ false
          → IsMachine config words before (of_thread past (index + 1)) index actor machine → IsMachine config words then_world (of_thread past (index + 1)) index actor machine
      machine_then index actor machine actor_there machine_is not_control is_outside facts =
          outside_goes_on config words before then_world (of_thread past (index + 1)) index actor machine not_control is_outside
          (λ seated. rests_by config then_world index paused.stands.unmarking paused.stands.uncopying (λ address. only_spares paused.stands.block paused.stands.none paused.stands.uncarved address index) seated)
          (λ mutator role. mutator_then index actor mutator actor_there (machine_is ∙ role) (ap (λ x. is_within (standing_of x)) (sym role) ∙ is_outside)) facts

      -- what the control owes
      pub paused_owes : (seen hints : ℕ) (command : Command) (calls : List Entry) → Owes config words words before past (control_number config) machines (settled_by config words (Some counting)) []
          (record { machine = controlling (record { spot = StoreWord 0 extent; seen = seen; phase = image_view config (change config part) Phase; cset = image_view config (change config part) Cset; hints = hints; image = change config part }); command = command; calls = calls ++ [] })
      paused_owes seen hints command calls = record {
        world = then_world;
        memory_is = sym counts_all;
        graph_is = refl;
        legal = tt;
        entries = All-nil (IsSettled config.mutators);
        shared = paused.stands.shared;
        promised_to = paused.stands.promised_to;
        own = record {
          number_is = refl;
          ready = lt-ltb _ _ (some_words config);
          phase_is = phase_counts;
          set_is = set_counts;
          facts = rests_by config then_world (control_number config) paused.stands.unmarking paused.stands.uncopying (λ address. only_spares paused.stands.block paused.stands.none paused.stands.uncarved address (control_number config)) (omega arith);
          aims = (law.whole.long config part part_long, λ place index_below. absurd (omega (arith, index_below)), early_counts 0 (omega arith));
          extent_is = tt;
        };
        others = λ other_number other_actor not_control actor_there machine_is.
            subst (λ entries. IsMachine config words then_world entries other_number other_actor other_actor.machine) (ap (λ entries. of_thread entries (other_number + 1)) (sym (append-nil past)))
            (machine_then other_number other_actor other_actor.machine actor_there refl not_control (outside other_number other_actor actor_there not_control) machine_is);
      }
