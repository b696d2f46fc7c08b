-- While references are updated, an address of the collection set is resolved by one load of the header.
use Rattle.std.proofs.Common.{◌≡◌, ℕ, true, false, Some, ⊎_elim, refl, sym, ap, ◌∙◌, subst, arith}
use Rattle.std.specs.Prelude.{◌==◌, if◌then◌else◌}
use Rattle.std.proofs.lemmas.Bool.{cond-true}
use Rattle.heap_words.specs.declared.config.Config.{Config}
use Rattle.heap_words.specs.Encoding.{header_word, is_forwarded, forwardee_in}
use Rattle.heap_words.specs.Words.{Phase, Cset, Heap, IsWord}
use Rattle.heap_words.specs.Touch.{loads}
use Rattle.evac_room.specs.declared.spot.RoomSpot.TheVariants.{Look}
use Rattle.heap_world.specs.World.{World, thing, Body, body_at, IsCollected, HasCopy, Shared}
use Rattle.heap_world.specs.Rely.{Rely}
use Rattle.heap_world.specs.Part.{PartStep}
use Rattle.heap_world.proofs.Keeping.{load_keeps, rely_same, keeps_of}
use Rattle.heap_world.proofs.Pointing.{copy_cases}
use Rattle.load_barrier.specs.declared.spot.ResolveSpot.{ResolveSpot}
use Rattle.load_barrier.specs.declared.spot.ResolveSpot.TheVariants.{LoadHeader, Entering, LoadShape, Taking, Copying, Leaving, Stopping, LoadAgain, Resolved}
use Rattle.load_barrier.specs.Rows.{touch_at, next_at, after_header, is_ended}
use Rattle.load_barrier.specs.Fit as resolve
use Rattle.load_barrier.specs.Alone.{is_copier}
use Rattle.load_barrier.proofs.Knows.{header_forwarded, header_names}
use Rattle.load_barrier.proofs.Inside.{resolve_inside}
use Rattle.cycle_steps.specs.Resolving.Facts.{HasMovedTo}
use Rattle.cycle_steps.proofs.Resolving.Bodies.{copy_piece, piece_begins}
use Rattle.cycle_steps.proofs.Resolving.Stays.{answer_stays}
use Rattle.cycle_steps.proofs.Resolving.Common.{moved_answer}
use Rattle.cycle_steps.specs.Updating.Following.{FollowFacts, CanFollow}
use Rattle.heap_words.specs.Phases.{updating_phase}
use Rattle.cycle_steps.specs.Updating.Laws.{FollowingSteps}

-- what a step of a machine that resolves an address owes then
abbrev FollowStep : Config → World → (seat address : ℕ) → ResolveSpot → Type 0
FollowStep config world seat address spot = PartStep config world seat (touch_at config seat address spot) (λ other_world. CanFollow config other_world seat address (next_at config address updating_phase spot (world.memory (touch_at config seat address spot).word)))

module _ (config : Config) (world : World) (seat address : ℕ) (shared : Shared config world) where
  -- a copy in the set is an old one
  old_copy : (body : Body) → world.memory Phase ≡ updating_phase → IsCollected config (world.memory Cset) address → body_at (world.block address) ≡ Some body → (target : ℕ) × HasMovedTo world address body target
  old_copy body is_updating address_inside body_there = ⊎_elim
      (λ (object_there : world.block address ≡ Some (thing body.name body.refs body.nums)). absurd ((shared.updated is_updating).outside address body.refs body.nums body.name object_there address_inside))
      (λ (moved_there : (target : ℕ) × HasMovedTo world address body target). moved_there)
      (copy_cases (world.block address) body body_there)

  -- where its header leads
  leads_there : (body : Body) (target : ℕ) → HasMovedTo world address body target → after_header address updating_phase (world.memory (Heap address)) ≡ Resolved target
  leads_there body target moved_there =
      ap (after_header address updating_phase) (shared.evacuated.moved.moveds address body.refs body.nums target body.name moved_there).header
      ∙ cond-true (is_forwarded (header_word target)) (Resolved (forwardee_in (header_word target))) (if updating_phase == 3 then Resolved address else Entering Look) (header_forwarded target)
      ∙ ap (λ answer. Resolved answer) (header_names target)

  -- the load of the header
  at_load_header : CanFollow config world seat address LoadHeader → FollowStep config world seat address LoadHeader
  at_load_header can_follow =
      let old = old_copy can_follow.body can_follow.phase can_follow.inside can_follow.there in
      subst (λ next. PartStep config world seat (touch_at config seat address LoadHeader) (λ world. CanFollow config world seat address next)) (sym (leads_there can_follow.body old.0 old.1)) (record {
        world = world;
        memory = load_keeps world.memory (Heap address);
        graph = refl;
        shared = shared;
        own = record {
          seated = can_follow.seated;
          phase = can_follow.phase;
          inside = can_follow.inside;
          body = can_follow.body;
          there = can_follow.there;
          working = can_follow.working;
          nothing = can_follow.nothing;
          facts = moved_answer config world address old.0 can_follow.body shared old.1;
        };
        keeps = keeps_of config seat world world (rely_same config seat world);
        others = λ seat differs. rely_same config seat world;
      })

  -- each step
  pub each_follow : (spot : ResolveSpot) → is_ended spot ≡ false → CanFollow config world seat address spot → FollowStep config world seat address spot
  each_follow LoadHeader spot_going can_follow = at_load_header can_follow
  each_follow (Resolved answer) spot_going can_follow = absurd (cc (spot_going))
  each_follow (Entering spot) spot_going can_follow = absurd can_follow.facts
  each_follow LoadShape spot_going can_follow = absurd can_follow.facts
  each_follow (Taking words spot) spot_going can_follow = absurd can_follow.facts
  each_follow (Copying copy end spot) spot_going can_follow = absurd can_follow.facts
  each_follow (Leaving answer) spot_going can_follow = absurd can_follow.facts
  each_follow (Stopping spot) spot_going can_follow = absurd can_follow.facts
  each_follow LoadAgain spot_going can_follow = absurd can_follow.facts

  -- the numbers of the spot are in range
  pub follow_ready : (spot : ResolveSpot) → CanFollow config world seat address spot → resolve.is_ready config seat address spot ≡ true
  follow_ready LoadHeader can_follow = refl
  follow_ready (Resolved answer) can_follow =
      let target = can_follow.facts.named can_follow.body can_follow.there in
      piece_begins config world shared answer (thing can_follow.body.name can_follow.body.refs can_follow.body.nums) target.piece (omega arith)
  follow_ready (Entering spot) can_follow = absurd can_follow.facts
  follow_ready LoadShape can_follow = absurd can_follow.facts
  follow_ready (Taking words spot) can_follow = absurd can_follow.facts
  follow_ready (Copying copy end spot) can_follow = absurd can_follow.facts
  follow_ready (Leaving answer) can_follow = absurd can_follow.facts
  follow_ready (Stopping spot) can_follow = absurd can_follow.facts
  follow_ready LoadAgain can_follow = absurd can_follow.facts

  -- nobody leaves who is not counted
  leaves_fit : (spot : ResolveSpot) (got : ℕ) → CanFollow config world seat address spot → resolve.LeavesFit spot got
  leaves_fit (Leaving answer) got can_follow = absurd can_follow.facts
  leaves_fit LoadHeader got can_follow = tt
  leaves_fit (Resolved answer) got can_follow = tt
  leaves_fit (Entering spot) got can_follow = tt
  leaves_fit LoadShape got can_follow = tt
  leaves_fit (Taking words spot) got can_follow = tt
  leaves_fit (Copying copy end spot) got can_follow = tt
  leaves_fit (Stopping spot) got can_follow = tt
  leaves_fit LoadAgain got can_follow = tt

  -- the next access is of the table
  follow_inside : (spot : ResolveSpot) → CanFollow config world seat address spot → IsWord config (touch_at config seat address spot).word
  follow_inside spot can_follow =
      let piece = copy_piece config world shared address (HasCopy.copy can_follow.body can_follow.there) in
      resolve_inside config seat address spot can_follow.seated (piece_begins config world shared address piece.0 piece.1 (let has_words = piece.2 in omega (arith, has_words))) (follow_ready spot can_follow)

-- While others step, what a machine counts on stays.
module _ (config : Config) (world other_world : World) (seat address : ℕ) (shared : Shared config world) (rely : Rely config seat world other_world) where
  facts_stay : (spot : ResolveSpot) → CanFollow config world seat address spot → FollowFacts config other_world address spot
  facts_stay LoadHeader can_follow = tt
  facts_stay (Resolved answer) can_follow = answer_stays config world other_world seat address shared rely answer (HasCopy.copy can_follow.body can_follow.there) can_follow.inside can_follow.facts
  facts_stay (Entering spot) can_follow = absurd can_follow.facts
  facts_stay LoadShape can_follow = absurd can_follow.facts
  facts_stay (Taking words spot) can_follow = absurd can_follow.facts
  facts_stay (Copying copy end spot) can_follow = absurd can_follow.facts
  facts_stay (Leaving answer) can_follow = absurd can_follow.facts
  facts_stay (Stopping spot) can_follow = absurd can_follow.facts
  facts_stay LoadAgain can_follow = absurd can_follow.facts

  can_follow_stays : (spot : ResolveSpot) → CanFollow config world seat address spot → CanFollow config other_world seat address spot
  can_follow_stays spot can_follow = record {
    seated = can_follow.seated;
    phase = rely.marks.keeps.phase ∙ can_follow.phase;
    inside = subst (λ any_set. IsCollected config any_set address) (sym rely.copies.keeps.cset) can_follow.inside;
    body = can_follow.body;
    there = rely.copies.keeps.bodies address can_follow.body can_follow.there;
    working = rely.copies.working ∙ can_follow.working;
    nothing = record {
      copying = rely.copies.copying ∙ can_follow.nothing.copying;
      records_none = rely.marks.recording ∙ can_follow.nothing.records_none;
      scans_none = rely.marks.scanning ∙ can_follow.nothing.scans_none;
      rooms = λ place piece piece_there room. can_follow.nothing.rooms place piece (rely.no_rooms place piece piece_there room) room;
    };
    facts = facts_stay spot can_follow;
  }

-- who resolves so does not copy
follows_uncounted : (config : Config) (world : World) (seat address : ℕ) (spot : ResolveSpot) → CanFollow config world seat address spot → is_copier spot ≡ false
follows_uncounted config world seat address LoadHeader can_follow = refl
follows_uncounted config world seat address (Resolved answer) can_follow = refl
follows_uncounted config world seat address (Entering spot) can_follow = absurd can_follow.facts
follows_uncounted config world seat address LoadShape can_follow = absurd can_follow.facts
follows_uncounted config world seat address (Taking words spot) can_follow = absurd can_follow.facts
follows_uncounted config world seat address (Copying copy end spot) can_follow = absurd can_follow.facts
follows_uncounted config world seat address (Leaving answer) can_follow = absurd can_follow.facts
follows_uncounted config world seat address (Stopping spot) can_follow = absurd can_follow.facts
follows_uncounted config world seat address LoadAgain can_follow = absurd can_follow.facts

-- and makes loads alone
follows_loads : (config : Config) (world : World) (seat address : ℕ) (spot : ResolveSpot) → CanFollow config world seat address spot → (touch_at config seat address spot).form ≡ loads
follows_loads config world seat address LoadHeader can_follow = refl
follows_loads config world seat address (Resolved answer) can_follow = refl
follows_loads config world seat address (Entering spot) can_follow = absurd can_follow.facts
follows_loads config world seat address LoadShape can_follow = absurd can_follow.facts
follows_loads config world seat address (Taking words spot) can_follow = absurd can_follow.facts
follows_loads config world seat address (Copying copy end spot) can_follow = absurd can_follow.facts
follows_loads config world seat address (Leaving answer) can_follow = absurd can_follow.facts
follows_loads config world seat address (Stopping spot) can_follow = absurd can_follow.facts
follows_loads config world seat address LoadAgain can_follow = absurd can_follow.facts

-- what the steps of such a resolving owe
pub following_steps : FollowingSteps
following_steps = record {
  begins = λ some_config some_world seat asked_address body seated is_updating inside body_there idle nothing. record { seated = seated; phase = is_updating; inside = inside; body = body; there = body_there; working = idle; nothing = nothing; facts = tt };
  steps = λ some_config seat asked_address. record {
    stands = λ some_world spot shared can_follow. record {
      stays = λ later_world rely. can_follow_stays some_config some_world later_world seat asked_address shared rely spot can_follow;
      inside = follow_inside some_config some_world seat asked_address shared spot can_follow;
    };
    goes = λ some_world spot going shared can_follow.
        let step = each_follow some_config some_world seat asked_address shared spot going can_follow in
        record {
          step = step;
          fits = (follow_ready some_config step.world seat asked_address step.shared (next_at some_config asked_address updating_phase spot (some_world.memory (touch_at some_config seat asked_address spot).word)) step.own, leaves_fit some_config some_world seat asked_address shared spot (some_world.memory (touch_at some_config seat asked_address spot).word) can_follow);
        };
  };
  ready = λ some_config some_world seat asked_address spot shared can_follow. follow_ready some_config some_world seat asked_address shared spot can_follow;
  copies_none = λ config world seat address spot can_follow. follows_uncounted config world seat address spot can_follow;
  only_loads = λ config world seat address spot can_follow. follows_loads config world seat address spot can_follow;
  answers = λ some_config some_world seat asked_address answer can_follow. can_follow.facts;
}
