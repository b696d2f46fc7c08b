-- The steps of a call that waits for an object which a pause makes.
use Rattle.std.proofs.Common.{◌≡◌, ℕ, ◌+◌, ◌⊎◌, inl, inr, ⊎_elim, Bool, true, false, Option, Some, refl, sym, ap, ◌∙◌, subst, arith}
use Rattle.std.specs.Prelude.{◌==◌, bit_or, if◌then◌else◌}
use Rattle.std.specs.Int.{bit_at}
use Rattle.std.proofs.lemmas.Bool.{cond-true, eq-eqb, eqb-true, eqb-false, lt-ltb}
use Rattle.std.proofs.lemmas.Option.{none-some}
use Rattle.std.proofs.lemmas.Bool.Decides.{nat_tests}
use Rattle.heap_words.specs.declared.config.Config.{Config}
use Rattle.heap_words.specs.Encoding.{shape_word, fresh_word, request_code}
use Rattle.heap_words.specs.Words.{Top, Answer, Ask}
use Rattle.shen_graph.specs.declared.command.Command.{Command}
use Rattle.shen_graph.specs.declared.command.Reply.{Reply}
use Rattle.shen_graph.specs.declared.command.Reply.TheVariants as reply
use Rattle.handshake.specs.declared.enter_spot.EnterSpot.TheVariants.{Raise}
use Rattle.mutator.specs.declared.spot.Kept.{Kept}
use Rattle.mutator.specs.declared.spot.Entered.TheVariants.{Waited}
use Rattle.mutator.specs.declared.spot.Spot.TheVariants.{Entering, Waiting}
use Rattle.mutator.specs.declared.waits.WaitSpot.{WaitSpot}
use Rattle.mutator.specs.declared.waits.WaitSpot.TheVariants as wait
use Rattle.mutator.specs.Commands.{dst_of, refs_of, nums_of}
use Rattle.mutator.specs.Rows.{Mutating}
use Rattle.mutator.specs.WaitRows.{next_name}
use Rattle.heap_world.specs.World.{World, Shared, promised, TargetIn, IsMarkable}
use Rattle.heap_world.specs.Asking as asking
use Rattle.heap_world.specs.Asking.{IsPromise}
use Rattle.heap_world.specs.Rely.{Keeps, KeepsFields, RelyCopies, RelyMarks}
use Rattle.step_core.proofs.Machines.Stepped.{IsAnswered, Mine, Row}
use Rattle.step_core.proofs.Mutators.Spots.{mutator_at, accessed}
use Rattle.step_core.proofs.Mutators.WhileMarking.{marks_in, now_waits, copies_in, fields_in}
use Rattle.step_core.proofs.Machines.Stable.{asking_stays, heard_stays}
use Rattle.step_core.proofs.Mutators.Loading.{looks}
use Rattle.step_core.proofs.Mutators.Entering.{state_keeps}
use Rattle.step_core.proofs.Machines.Ready.{ready_of, state_word, leaving, given_ready}
use Rattle.step_core.proofs.Mutators.FreshRoot.{taken_made, usable_made, HasNew, made_world, made_reply, room_before, promise_before, roots_made, count_made, legal_made, graph_made, shared_made, others_made}

module _ (config : Config) (world : World) (seat made : ℕ) (kept : Kept) (command : Command) (fixed : Option Reply) where
  abbrev at_spot : WaitSpot → Mutating
  at_spot spot = mutator_at seat made kept (Waiting spot)

  -- how many references the command's object has
  abbrev refs : ℕ
  refs = refs_of kept.command

  -- and how many numbers
  abbrev nums : ℕ
  nums = nums_of kept.command

  -- the step that stores the request
  pub at_store_request : Row config world (at_spot wait.StoreRequest) command fixed
  at_store_request shared own_facts = record {
    world = accessed config world (at_spot wait.StoreRequest);
    memory = refl;
    graph = refl;
    legal = tt;
    settles = λ r reply_settled. cc;
    shared = shared;
    mine = record {
      seated = record { below = own_facts.seated.below; counted = own_facts.seated.counted; usable = own_facts.seated.usable; unasked = λ never. absurd (cc (never)) };
      ready = refl;
      marking = own_facts.marking;
      copying = own_facts.copying;
      roots = own_facts.roots;
      rooms = own_facts.rooms;
      facts = (
        own_facts.facts.0,
        (
          record {
            wait_is = cond-true (seat == seat) _ _ (eq-eqb seat seat refl) ∙ ap (λ number. request_code (number + 1) (shape_word refs nums)) (sym own_facts.seated.counted);
            few_refs = own_facts.facts.0.few_refs;
            few_nums = own_facts.facts.0.few_nums;
            few = rw own_facts.seated.counted own_facts.facts.0.few;
          },
          own_facts.facts.1.1,
          own_facts.facts.1.2,
        ),
      );
    };
    others = λ seat differs. let marks = marks_in config world (accessed config world (at_spot wait.StoreRequest)).memory world.graph seat refl (λ number. refl) (λ t. refl) (λ t k. refl) (λ a. refl) in let copies = copies_in config world (accessed config world (at_spot wait.StoreRequest)).memory world.graph seat refl refl (λ r. refl) (λ a. refl) in let kept_fields = fields_in config world (accessed config world (at_spot wait.StoreRequest)).memory world.graph (λ r. refl) (λ r. refl) refl (λ a. refl) in search (arith, nat_tests, marks, copies, kept_fields);
  }

  -- the word by which it asks for a pause is no word that its facts speak of
  ask_marks : (machine : ℕ) → RelyMarks config machine world (accessed config world (at_spot wait.AskRoom))
  ask_marks machine = marks_in config world (accessed config world (at_spot wait.AskRoom)).memory world.graph machine refl (λ n. refl) (λ t. refl) (λ t k. refl) (λ a. refl)

  ask_copies : (machine : ℕ) → RelyCopies config machine world (accessed config world (at_spot wait.AskRoom))
  ask_copies machine = copies_in config world (accessed config world (at_spot wait.AskRoom)).memory world.graph machine refl refl (λ r. refl) (λ a. refl)

  ask_fields : KeepsFields config world (accessed config world (at_spot wait.AskRoom))
  ask_fields = fields_in config world (accessed config world (at_spot wait.AskRoom)).memory world.graph (λ r. refl) (λ r. refl) refl (λ a. refl)

  ask_keeps : Keeps config seat world (accessed config world (at_spot wait.AskRoom))
  ask_keeps = let marks = ask_marks seat in let kept_marks = marks.keeps in let copies = ask_copies seat in let kept_copies = copies.keeps in search (arith, nat_tests, kept_marks, kept_copies)

  -- the step that asks for a pause
  pub at_ask_room : Row config world (at_spot wait.AskRoom) command fixed
  at_ask_room shared own_facts = record {
    world = accessed config world (at_spot wait.AskRoom);
    memory = refl;
    graph = refl;
    legal = tt;
    settles = λ settled_reply reply_settled. cc;
    shared = shared;
    mine = record {
      seated = own_facts.seated;
      ready = ready_of _ true (state_word config seat own_facts.seated.below) refl;
      marking = own_facts.marking;
      copying = own_facts.copying;
      roots = own_facts.roots;
      rooms = own_facts.rooms;
      facts = (asking_stays config world (accessed config world (at_spot wait.AskRoom)) seat ask_keeps made kept.command command fixed (asking.asks refs nums) own_facts.facts, now_waits (world.memory Ask));
    };
    others = λ other_seat differs. let marks = ask_marks other_seat in let copies = ask_copies other_seat in let kept_fields = ask_fields in let waits : bit_at (world.memory Ask) 1 ≡ 1 → bit_at (bit_or (world.memory Ask) 2) 1 ≡ 1 = λ already_waits. now_waits (world.memory Ask) in search (arith, nat_tests, marks, copies, kept_fields, waits);
  }

  -- the step by which it leaves the heap, to wait
  pub at_step_out : Row config world (at_spot wait.StepOut) command fixed
  at_step_out shared own_facts = record {
    world = accessed config world (at_spot wait.StepOut);
    memory = refl;
    graph = refl;
    legal = tt;
    settles = λ r reply_settled. cc;
    shared = shared;
    mine = record {
      seated = own_facts.seated;
      ready = ready_of _ true (lt-ltb _ _ own_facts.seated.below) refl;
      marking = own_facts.marking;
      copying = own_facts.copying;
      roots = own_facts.roots;
      rooms = own_facts.rooms;
      facts = inl (heard_stays config world (accessed config world (at_spot wait.StepOut)) seat (state_keeps config world seat seat 0) (λ is. is) made kept.command command fixed own_facts.facts);
    };
    others = λ seat differs. let marks = marks_in config world (accessed config world (at_spot wait.StepOut)).memory world.graph seat refl (λ n. refl) (λ t. refl) (λ t k. refl) (λ a. refl) in let copies = copies_in config world (accessed config world (at_spot wait.StepOut)).memory world.graph seat refl refl (λ r. refl) (λ a. refl) in let kept_fields = fields_in config world (accessed config world (at_spot wait.StepOut)).memory world.graph (λ r. refl) (λ r. refl) refl (λ a. refl) in search (arith, nat_tests, marks, copies, kept_fields);
  }

  -- What it finds where it polls: its word as it counts, or 0, where the control has not stored the word yet. It goes on with an
  -- answer that the history has.
  pub poll_mine : (got : ℕ) → (got ≡ 0) ⊎ (got ≡ world.memory (Answer seat)) → (got ≡ 1 → fixed ≡ Some reply.Full) → Mine config world (at_spot wait.Poll) command fixed
      → Mine config world (mutator_at seat made kept (if got == 0 then Waiting wait.Poll else Entering Raise Waited)) command fixed
  poll_mine got answer_found full_told own_facts = by_answer (got == 0) refl
    where
      answered : (got == 0) ≡ false → IsAnswered world seat made kept.command command fixed
      answered not_null =
          let answer_is : got ≡ world.memory (Answer seat) = ⊎_elim (λ (is_null : got ≡ 0). absurd (eqb-false _ _ not_null is_null)) (λ answer_is. answer_is) answer_found in
          ⊎_elim
          (λ waits. absurd (eqb-false _ _ not_null (answer_is ∙ waits.0.1.1)))
          (λ rest. ⊎_elim
          (λ was_given. inl was_given)
          (λ was_refused. inr (record { dst = was_refused.0.dst; refs = was_refused.0.refs; nums = was_refused.0.nums; is = was_refused.0.is; settled = full_told (answer_is ∙ was_refused.1.1) }, was_refused.1))
          rest)
          own_facts.facts

      by_answer : (holds : Bool) → (got == 0) ≡ holds → Mine config world (mutator_at seat made kept (if holds then Waiting wait.Poll else Entering Raise Waited)) command fixed
      by_answer true is_null = own_facts
      by_answer false not_null = record {
        seated = own_facts.seated;
        ready = ready_of _ true (state_word config seat own_facts.seated.below) refl;
        marking = own_facts.marking;
        copying = own_facts.copying;
        roots = own_facts.roots;
        rooms = own_facts.rooms;
        facts = answered not_null;
      }

  -- the look for an answer, where what counts is in the history
  pub at_poll : (world.memory (Answer seat) ≡ 1 → fixed ≡ Some reply.Full) → Row config world (at_spot wait.Poll) command fixed
  at_poll full_told shared mine = looks config world (at_spot wait.Poll) (Answer seat) command fixed refl refl refl shared (poll_mine (world.memory (Answer seat)) (inr refl) full_told mine)

  -- the load of the answer
  pub at_load_answer : Row config world (at_spot wait.LoadAnswer) command fixed
  at_load_answer shared own_facts = looks config world (at_spot wait.LoadAnswer) (Answer seat) command fixed refl refl refl shared (by_full (world.memory (Answer seat) == 1) refl)
    where
      by_full : (holds : Bool) → (world.memory (Answer seat) == 1) ≡ holds → Mine config world (at_spot (if holds then wait.ClearAnswer reply.Full else wait.StoreRoot (world.memory (Answer seat)))) command fixed
      by_full true is_one = record {
        seated = own_facts.seated;
        ready = ready_of _ true (lt-ltb _ _ own_facts.seated.below) refl;
        marking = own_facts.marking;
        copying = own_facts.copying;
        roots = own_facts.roots;
        rooms = own_facts.rooms;
        facts = ⊎_elim
            (λ was_given. let is_address = was_given.1.1 in let answer_one = eqb-true _ _ is_one in absurd (omega (arith, is_address, answer_one)))
            (λ was_refused. (was_refused.0.settled, was_refused.1.0, was_refused.1.2, was_refused.1.1, record { dst = was_refused.0.dst; refs = was_refused.0.refs; nums = was_refused.0.nums; is = was_refused.0.is }))
            own_facts.facts;
      }
      by_full false not_one = ⊎_elim
          (λ was_given. record {
            seated = own_facts.seated;
            ready = given_ready config seat made kept command fixed was_given.0 (λ region. world.memory (Top region)) world.block (world.memory (Answer seat)) shared.parsable.plotted was_given.1.2.here own_facts.seated.below;
            marking = own_facts.marking;
            copying = own_facts.copying;
            roots = own_facts.roots;
            rooms = own_facts.rooms;
            facts = (was_given, refl);
          })
          (λ was_refused. absurd (eqb-false _ _ not_one was_refused.1.1))
          own_facts.facts

  module _ (address : ℕ) (shared : Shared config world) (own_facts : Mine config world (at_spot (wait.StoreRoot address)) command fixed) where
    -- the object that was promised stands at the address
    promise : IsPromise world.memory world.block world.graph.count seat refs nums address
    promise = subst (λ address. IsPromise world.memory world.block world.graph.count seat refs nums address) own_facts.facts.1 own_facts.facts.0.1.2

    -- it has all its words
    has : HasNew config world seat made command kept.command fixed address
    has = record {
      making = own_facts.facts.0.0;
      within = own_facts.seated.below;
      counted = own_facts.seated.counted;
      piece = promised seat (3 + refs + nums);
      here = promise.here;
      unnamed = refl;
      long = refl;
      own = record { no_room = λ any_seat seats_differ room. none-some any_seat room; no_promise = λ any_seat words seats_differ pieces_same. (let seats : any_seat ≡ seat = cc in seats_differ seats); no_dead = λ words pieces_same. cc; no_filler = λ words pieces_same. cc; no_spare = λ any_seat words pieces_same. cc; no_carved = λ any_seat words pieces_same. cc };
      known = λ in_phase. inl ((shared.marked.marking in_phase).promises address seat (3 + refs + nums) promise.here);
      outside = λ inside. shared.evacuated.aside.no_promises address seat (3 + refs + nums) promise.here inside;
      kept = λ in_phase. (shared.evacuated.kept in_phase).objects address (IsMarkable.to_come seat (3 + refs + nums) promise.here);
      stored = λ index index_below. promise.words index index_below ∙ ap (λ made_count. fresh_word seat made_count refs nums index) own_facts.seated.counted;
      shared = shared;
    }

    -- the mutator has to take its answer away
    mine_made : Mine config (made_world has) (mutator_at seat (made + 1) kept (Waiting (wait.ClearAnswer (made_reply has)))) command (Some (made_reply has))
    mine_made = record {
      seated = record { below = own_facts.seated.below; counted = count_made has; usable = usable_made has own_facts.seated.usable; unasked = λ never. absurd (cc (never)) };
      ready = ready_of _ true (lt-ltb _ _ own_facts.seated.below) refl;
      marking = own_facts.marking;
      copying = own_facts.copying;
      roots = roots_made has own_facts.roots;
      rooms = λ piece_address piece piece_there room. own_facts.rooms piece_address piece (room_before has piece_address seat piece piece_there room).1 room;
      facts = (
        refl,
        own_facts.facts.0.1.0,
        λ piece_address words piece_there. let old = promise_before has piece_address seat words piece_there in old.0 (promise.only piece_address words old.1),
        (refs, nums, subst (λ address. TargetIn config (made_world has) address refs nums (next_name seat made)) (sym own_facts.facts.1) (taken_made has)),
        record { dst = dst_of kept.command; refs = refs; nums = nums; is = own_facts.facts.0.0.is },
      );
    }

  -- the step that stores the object into the root settles its name
  pub at_store_given : (address : ℕ) → Row config world (at_spot (wait.StoreRoot address)) command fixed
  at_store_given address shared mine = let new = has address shared mine in record {
    world = made_world new;
    memory = refl;
    graph = graph_made new;
    legal = legal_made new;
    settles = λ settled_reply reply_settled. (mine.facts.0.0.unsettled, refl);
    shared = shared_made new;
    mine = mine_made address shared mine;
    others = others_made new;
  }

  -- the step that takes the answer away
  pub at_clear_answer : (answer : Reply) → Row config world (at_spot (wait.ClearAnswer answer)) command fixed
  at_clear_answer its_answer shared mine = record {
    world = accessed config world (at_spot (wait.ClearAnswer its_answer));
    memory = refl;
    graph = refl;
    legal = tt;
    settles = λ settled_reply reply_settled. cc;
    shared = shared;
    mine = rw mine.facts.0
        (leaving config (accessed config world (at_spot (wait.ClearAnswer its_answer))) seat made kept command its_answer
        (record { below = mine.seated.below; counted = mine.seated.counted; usable = mine.seated.usable; unasked = λ calm. (mine.facts.1, cond-true (seat == seat) _ _ (eq-eqb seat seat refl), mine.facts.2) })
        (mine.marking.records, mine.marking.scans, mine.copying.copies_is, mine.copying.works_none) mine.roots mine.rooms);
    others = λ seat differs. let marks = marks_in config world (accessed config world (at_spot (wait.ClearAnswer its_answer))).memory world.graph seat refl (λ n. refl) (λ t. refl) (λ t k. refl) (λ a. refl) in let copies = copies_in config world (accessed config world (at_spot (wait.ClearAnswer its_answer))).memory world.graph seat refl refl (λ its_answer. refl) (λ a. refl) in let kept_fields = fields_in config world (accessed config world (at_spot (wait.ClearAnswer its_answer))).memory world.graph (λ its_answer. refl) (λ its_answer. refl) refl (λ a. refl) in search (arith, nat_tests, marks, copies, kept_fields);
  }

  -- by the spot, but for the polling
  pub each_wait : (spot : WaitSpot) → (spot ≡ wait.Poll → world.memory (Answer seat) ≡ 1 → fixed ≡ Some reply.Full) → Row config world (at_spot spot) command fixed
  each_wait wait.StoreRequest full_told = at_store_request
  each_wait wait.AskRoom full_told = at_ask_room
  each_wait wait.StepOut full_told = at_step_out
  each_wait wait.Poll full_told = at_poll (full_told refl)
  each_wait wait.LoadAnswer full_told = at_load_answer
  each_wait (wait.StoreRoot address) full_told = at_store_given address
  each_wait (wait.ClearAnswer its_answer) full_told = at_clear_answer its_answer
