-- The steps of a machine that has its answer and leaves, or has found no room; and all steps of a resolving.
use Rattle.std.proofs.Common.{◌≡◌, ℕ, Bool, true, false, Option, ⊎_elim, refl, sym, ap, ◌∙◌, subst, arith}
use Rattle.std.specs.Prelude.{◌==◌, if◌then◌else◌}
use Rattle.std.proofs.lemmas.Bool.{cond-true, cond-false}
use Rattle.std.proofs.lemmas.Bool.Decides.{nat_tests}
use Rattle.heap_words.specs.declared.config.Config.{Config}
use Rattle.heap_words.specs.Encoding.{header_word, is_forwarded, forwardee_in}
use Rattle.heap_words.specs.Words.{Evac, Heap}
use Rattle.heap_words.specs.Counter.{count_of, IsQuiet}
use Rattle.evac_room.specs.declared.spot.RoomSpot.{RoomSpot}
use Rattle.evac_room.specs.declared.spot.RoomSpot.TheVariants.{Outside, Look, Raise, Inside, Lower, Ask, Mark, Wait, Stopped}
use Rattle.evac_room.specs.Spot.{is_counted}
use Rattle.evac_room.specs.Rows as rooms
use Rattle.evac_room.proofs.OneStep.{Mine, after}
use Rattle.heap_world.specs.World.{World, Shared}
use Rattle.heap_world.proofs.Keeping.{load_keeps}
use Rattle.heap_world.proofs.Pointing.{copy_cases}
use Rattle.load_barrier.specs.declared.spot.ResolveSpot.{ResolveSpot}
use Rattle.load_barrier.specs.declared.spot.ResolveSpot.TheVariants.{LoadHeader, Entering, LoadShape, Taking, Copying, Leaving, Stopping, LoadAgain, Resolved}
use Rattle.load_barrier.specs.Rows.{is_ended, current_copy, after_stop}
use Rattle.load_barrier.proofs.Knows.{header_forwarded, header_names}
use Rattle.cycle_steps.proofs.Resolving.Bodies.{piece_begins, copy_piece}
use Rattle.cycle_steps.proofs.Resolving.Counts.{counter_kept}
use Rattle.cycle_steps.proofs.Resolving.Common as steps
use Rattle.cycle_steps.proofs.Resolving.Common.{CanResolveFor, ResolveStep, moved_answer, still_answer}
use Rattle.cycle_steps.proofs.Resolving.Entering.{at_load_header, at_look, at_raise, at_load_shape}
use Rattle.cycle_steps.proofs.Resolving.Copying.{at_taking, at_copying}

module _ (config : Config) (world : World) (seat address : ℕ) (unit : Option ℕ) (shared : Shared config world) where
  -- the subtraction from the counter on the way out
  at_leaving : (answer : ℕ) → CanResolveFor config world seat address unit (Leaving answer) → ResolveStep config world seat address unit (Leaving answer)
  at_leaving answer can_resolve =
      let right = moved_answer config world address answer can_resolve.resolves.facts.0 shared can_resolve.resolves.facts.2 in
      let counter_stays = counter_kept config world seat Lower shared can_resolve.resolves.phase can_resolve.resolves.seated refl can_resolve.resolves.copying tt in
      steps.counter_moves config world seat address unit shared (Leaving answer) Lower can_resolve refl refl tt refl (Resolved answer) refl (λ place x room. room) can_resolve.resolves.ready (record {
        named = λ body body_there. let target = right.named body body_there in record { piece = target.piece; safe = λ answer_collected. subst IsQuiet (sym (counter_stays.quiet_stays (target.safe answer_collected))) (target.safe answer_collected) };
        passed = right.passed;
        stopped = λ answer_collected. counter_stays.bit_stays (right.stopped answer_collected);
      })

  -- the load of the counter where there was no room
  at_ask : CanResolveFor config world seat address unit (Stopping Ask) → ResolveStep config world seat address unit (Stopping Ask)
  at_ask can_resolve =
      steps.looked config world seat address unit shared (Stopping Ask) (Stopping (Mark (world.memory Evac))) (load_keeps world.memory Evac)
      (steps.can_at config world seat address unit shared (Stopping Ask) (Stopping (Mark (world.memory Evac))) can_resolve refl (λ place x room. room) refl (can_resolve.resolves.facts.0, can_resolve.resolves.facts.1, tt))

  -- the exchange that marks it
  at_mark : (found : ℕ) → CanResolveFor config world seat address unit (Stopping (Mark found)) → ResolveStep config world seat address unit (Stopping (Mark found))
  at_mark found can_resolve = by_found (world.memory Evac == found) refl
    where
      by_found : (holds : Bool) → (world.memory Evac == found) ≡ holds → steps.StepTo config world seat address unit shared (Stopping (Mark found)) (after_stop (if holds then Wait else Ask))
      by_found true evac_test =
          let counter_stays = counter_kept config world seat (Mark found) shared can_resolve.resolves.phase can_resolve.resolves.seated refl can_resolve.resolves.copying tt in
          let leads : rooms.next_at (Mark found) (world.memory Evac) ≡ Wait = cond-true (world.memory Evac == found) Wait Ask evac_test in
          steps.counter_moves config world seat address unit shared (Stopping (Mark found)) (Mark found) can_resolve refl refl tt refl (Stopping Wait) (sym (ap is_counted leads)) (λ place x room. room) refl
          (can_resolve.resolves.facts.0, can_resolve.resolves.facts.1, subst (λ spot. Mine (after (world.memory Evac) (Mark found)) spot) leads counter_stays.mine)
      by_found false evac_test =
          steps.counter_moves config world seat address unit shared (Stopping (Mark found)) (Mark found) can_resolve refl refl tt refl (Stopping Ask) (sym (ap is_counted (cond-false (world.memory Evac == found) Wait Ask evac_test))) (λ place x room. room) refl
          (can_resolve.resolves.facts.0, can_resolve.resolves.facts.1, tt)

  -- the load of the counter while it waits
  at_wait : CanResolveFor config world seat address unit (Stopping Wait) → ResolveStep config world seat address unit (Stopping Wait)
  at_wait can_resolve = by_count (count_of (world.memory Evac) == 0) refl
    where
      by_count : (holds : Bool) → (count_of (world.memory Evac) == 0) ≡ holds → steps.StepTo config world seat address unit shared (Stopping Wait) (after_stop (if holds then Stopped else Wait))
      by_count true none_counted =
          steps.looked config world seat address unit shared (Stopping Wait) LoadAgain (load_keeps world.memory Evac)
          (steps.can_at config world seat address unit shared (Stopping Wait) LoadAgain can_resolve refl (λ place x room. room) refl (can_resolve.resolves.facts.0, can_resolve.resolves.facts.1, record { out_of_room = can_resolve.resolves.facts.2; nobody = grind (arith, nat_tests) }))
      by_count false none_counted =
          steps.looked config world seat address unit shared (Stopping Wait) (Stopping Wait) (load_keeps world.memory Evac)
          (steps.can_at config world seat address unit shared (Stopping Wait) (Stopping Wait) can_resolve refl (λ place x room. room) refl can_resolve.resolves.facts)

  -- the last load of the header
  at_load_again : CanResolveFor config world seat address unit LoadAgain → ResolveStep config world seat address unit LoadAgain
  at_load_again can_resolve =
      let facts = can_resolve.resolves.facts.0 in
      let quiet = can_resolve.resolves.facts.2 in
      ⊎_elim
      (λ current.
      steps.leads_to config world seat address unit shared LoadAgain (Resolved address) (ap (λ header. Resolved (current_copy address header)) (steps.header_plain config world seat address unit shared facts current))
      (steps.looked config world seat address unit shared LoadAgain (Resolved address) (load_keeps world.memory (Heap address))
      (steps.can_at config world seat address unit shared LoadAgain (Resolved address) can_resolve refl (λ place x room. room) (let piece = copy_piece config world shared address can_resolve.resolves.there in piece_begins config world shared address piece.0 piece.1 (let piece_long = piece.2 in omega (arith, piece_long)))
      (still_answer config world address facts can_resolve.resolves.inside quiet current))))
      (λ old.
      steps.leads_to config world seat address unit shared LoadAgain (Resolved old.0)
      (ap (λ header. Resolved (current_copy address header)) (steps.header_leads config world seat address unit shared facts old.0 old.1)
      ∙ ap (λ answer. Resolved answer) (cond-true (is_forwarded (header_word old.0)) (forwardee_in (header_word old.0)) address (header_forwarded old.0) ∙ header_names old.0))
      (steps.looked config world seat address unit shared LoadAgain (Resolved old.0) (load_keeps world.memory (Heap address))
      (steps.can_at config world seat address unit shared LoadAgain (Resolved old.0) can_resolve refl (λ place x room. room) (steps.answer_word config world seat address unit shared facts old.0 old.1) (moved_answer config world address old.0 facts shared old.1))))
      (copy_cases (world.block address) facts can_resolve.resolves.facts.1)

  at_entering : (spot : RoomSpot) → CanResolveFor config world seat address unit (Entering spot) → ResolveStep config world seat address unit (Entering spot)
  at_entering Look can_resolve = at_look config world seat address unit shared can_resolve
  at_entering (Raise found) can_resolve = at_raise config world seat address unit shared found can_resolve
  at_entering Outside can_resolve = absurd (let spot_ready = can_resolve.resolves.ready in cc)
  at_entering Inside can_resolve = absurd (let spot_ready = can_resolve.resolves.ready in cc)
  at_entering Lower can_resolve = absurd (let spot_ready = can_resolve.resolves.ready in cc)
  at_entering Ask can_resolve = absurd (let spot_ready = can_resolve.resolves.ready in cc)
  at_entering (Mark found) can_resolve = absurd (let spot_ready = can_resolve.resolves.ready in cc)
  at_entering Wait can_resolve = absurd (let spot_ready = can_resolve.resolves.ready in cc)
  at_entering Stopped can_resolve = absurd (let spot_ready = can_resolve.resolves.ready in cc)

  at_stopping : (spot : RoomSpot) → CanResolveFor config world seat address unit (Stopping spot) → ResolveStep config world seat address unit (Stopping spot)
  at_stopping Ask can_resolve = at_ask can_resolve
  at_stopping (Mark found) can_resolve = at_mark found can_resolve
  at_stopping Wait can_resolve = at_wait can_resolve
  at_stopping Look can_resolve = absurd (let spot_ready = can_resolve.resolves.ready in cc)
  at_stopping (Raise found) can_resolve = absurd (let spot_ready = can_resolve.resolves.ready in cc)
  at_stopping Outside can_resolve = absurd (let spot_ready = can_resolve.resolves.ready in cc)
  at_stopping Inside can_resolve = absurd (let spot_ready = can_resolve.resolves.ready in cc)
  at_stopping Lower can_resolve = absurd (let spot_ready = can_resolve.resolves.ready in cc)
  at_stopping Stopped can_resolve = absurd (let spot_ready = can_resolve.resolves.ready in cc)

  -- each step of a resolving
  pub each_resolve : (spot : ResolveSpot) → is_ended spot ≡ false → CanResolveFor config world seat address unit spot → ResolveStep config world seat address unit spot
  each_resolve LoadHeader spot_going can_resolve = at_load_header config world seat address unit shared can_resolve
  each_resolve (Entering spot) spot_going can_resolve = at_entering spot can_resolve
  each_resolve LoadShape spot_going can_resolve = at_load_shape config world seat address unit shared can_resolve
  each_resolve (Taking words spot) spot_going can_resolve = at_taking config world seat address unit shared words spot can_resolve
  each_resolve (Copying copy end spot) spot_going can_resolve = at_copying config world seat address unit shared copy end spot can_resolve
  each_resolve (Leaving answer) spot_going can_resolve = at_leaving answer can_resolve
  each_resolve (Stopping spot) spot_going can_resolve = at_stopping spot can_resolve
  each_resolve LoadAgain spot_going can_resolve = at_load_again can_resolve
  each_resolve (Resolved answer) spot_going can_resolve = absurd (cc (spot_going))
