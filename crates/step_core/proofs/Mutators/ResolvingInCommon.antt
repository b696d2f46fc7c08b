-- Resolving an address while objects are evacuated, or while references are updated: what both have in common.
use Rattle.heap_words.specs.Phases.{evacuation_phase, updating_phase}
use Rattle.std.proofs.Common.{◌≡◌, ℕ, ◌<◌, ◌⊎◌, inl, inr, true, false, Some, None, sym, ◌∙◌, subst}
use Rattle.heap_words.specs.declared.config.Config.{Config}
use Rattle.heap_words.specs.Ranges.{seat_count}
use Rattle.heap_words.specs.Words.{Phase, Cset, IsWord}
use Rattle.load_barrier.specs.declared.spot.ResolveSpot.{ResolveSpot}
use Rattle.load_barrier.specs.declared.spot.ResolveSpot.TheVariants.{LoadHeader, Taking, Copying, Resolved}
use Rattle.load_barrier.specs.Alone.{is_copier}
use Rattle.load_barrier.specs.Rows as resolves
use Rattle.load_barrier.specs.Fit as load
use Rattle.cycle_steps.specs.Resolving.Facts.{IsAnswer, IsResolvingRoom}
use Rattle.cycle_steps.proofs.Resolving.Parts.{resolving_steps}
use Rattle.cycle_steps.proofs.Updating.Following.{following_steps}
use Rattle.alloc_buffers.specs.Facts.{IsSpare, OnlySpares}
use Rattle.cycle_steps.specs.Updating.Following.{FollowFacts}
use Rattle.heap_world.specs.World.{World, Block, Body, room_of, HasCopy, body_at, IsCollected, Shared}
use Rattle.heap_world.specs.Rely.{Rely}
use Rattle.heap_world.specs.Part.{PartStep}
use Rattle.step_core.proofs.Machines.Stepped.{IsResolving}

-- The address lies in the collection set and is that of a copy. The counter counts the machine where it copies; all its room is what the spot
-- says, and it neither records nor scans; and it can make its next access.
pub record Resolves (config : Config) (world : World) (seat address : ℕ) (spot : ResolveSpot) : Type 0 where
  pub inside : IsCollected config (world.memory Cset) address
  pub there : HasCopy world.block address
  pub copying : world.ghost.copying seat ≡ is_copier spot
  pub records_none : world.ghost.recording seat ≡ None
  pub scans_none : world.ghost.scanning seat ≡ None
  pub rooms : (other_address : ℕ) (piece : Block) → world.block other_address ≡ Some piece → room_of piece ≡ Some seat → IsResolvingRoom seat spot other_address piece
  pub ready : load.is_ready config seat address spot ≡ true

-- who follows a header has free words of its buffer alone
follows_room : (config : Config) (world : World) (seat address : ℕ) (spot : ResolveSpot) (room_address : ℕ) (piece : Block) → FollowFacts config world address spot → IsSpare seat piece → IsResolvingRoom seat spot room_address piece
follows_room config world seat address (Taking words take_spot) room_address piece facts spares = absurd facts
follows_room config world seat address (Copying copy end spot) room_address piece facts spares = absurd facts
follows_room config world seat address _ room_address piece facts spares = spares

pub resolves_by : (config : Config) (world : World) (seat address : ℕ) (spot : ResolveSpot) → Shared config world → IsResolving config world seat address spot → Resolves config world seat address spot
resolves_by config world seat address spot shared (inl resolvable) = record {
  inside = resolvable.inside;
  there = resolvable.there;
  copying = resolvable.copying;
  records_none = resolvable.records_none;
  scans_none = resolvable.scans_none;
  rooms = resolvable.rooms;
  ready = resolvable.ready;
}
resolves_by config world seat address spot shared (inr resolvable) = record {
  inside = resolvable.inside;
  there = HasCopy.copy resolvable.body resolvable.there;
  copying = resolvable.nothing.copying ∙ sym (following_steps.copies_none config world seat address spot resolvable);
  records_none = resolvable.nothing.records_none;
  scans_none = resolvable.nothing.scans_none;
  rooms = λ room_address piece piece_there room. follows_room config world seat address spot room_address piece resolvable.facts (resolvable.nothing.rooms room_address piece piece_there room);
  ready = following_steps.ready config world seat address spot shared resolvable;
}

-- a machine that works on no unit begins to resolve the address of a copy of an object of the graph, in phase 2 or 3
pub resolving_begins : (config : Config) (world : World) (seat address : ℕ) (body : Body) → seat < seat_count config.mutators config.helpers → (world.memory Phase ≡ evacuation_phase) ⊎ (world.memory Phase ≡ updating_phase) → IsCollected config (world.memory Cset) address
    → body_at (world.block address) ≡ Some body → world.ghost.copying seat ≡ false → world.ghost.working seat ≡ None → world.ghost.recording seat ≡ None → world.ghost.scanning seat ≡ None
    → OnlySpares world seat → IsResolving config world seat address LoadHeader
resolving_begins config world seat address body seated (inl in_phase) address_collected body_there copying working records scans only_spares =
    inl (resolving_steps.begins config world seat address seated in_phase address_collected (HasCopy.copy body body_there) copying records scans only_spares)
resolving_begins config world seat address body seated (inr in_phase) address_collected body_there copying working records scans only_spares =
    inr (following_steps.begins config world seat address body seated in_phase address_collected body_there working (record { copying = copying; records_none = records; scans_none = scans; rooms = only_spares }))

-- it resolves, and works on no unit
pub record ResolvesAlone (config : Config) (world : World) (seat a : ℕ) (spot : ResolveSpot) : Type 0 where
  pub can : IsResolving config world seat a spot
  pub working : world.ghost.working seat ≡ None

-- what a step of it owes, in the phase that there is
pub resolving_step : (config : Config) (world : World) (seat address phase : ℕ) (spot : ResolveSpot) → resolves.is_ended spot ≡ false → Shared config world → phase ≡ world.memory Phase → ResolvesAlone config world seat address spot
    → PartStep config world seat (resolves.touch_at config seat address spot) (λ other_world. ResolvesAlone config other_world seat address (resolves.next_at config address phase spot (world.memory (resolves.touch_at config seat address spot).word)))
resolving_step config world seat address phase spot spot_going shared same_phase alone = by_way alone.can
  where
    got : ℕ
    got = world.memory (resolves.touch_at config seat address spot).word

    by_way : IsResolving config world seat address spot → PartStep config world seat (resolves.touch_at config seat address spot) (λ other_world. ResolvesAlone config other_world seat address (resolves.next_at config address phase spot (world.memory (resolves.touch_at config seat address spot).word)))
    by_way (inl resolvable) =
        let step = ((resolving_steps.steps config seat address).goes world spot spot_going shared resolvable).step in
        record {
          world = step.world;
          memory = step.memory;
          graph = step.graph;
          shared = step.shared;
          own = record { can = subst (λ any_phase. IsResolving config step.world seat address (resolves.next_at config address any_phase spot got)) (sym (same_phase ∙ resolvable.phase)) (inl step.own.0); working = step.own.1 ∙ alone.working };
          keeps = step.keeps;
          others = step.others;
        }
    by_way (inr resolvable) =
        let step = ((following_steps.steps config seat address).goes world spot spot_going shared resolvable).step in
        record {
          world = step.world;
          memory = step.memory;
          graph = step.graph;
          shared = step.shared;
          own = record { can = subst (λ any_phase. IsResolving config step.world seat address (resolves.next_at config address any_phase spot got)) (sym (same_phase ∙ resolvable.phase)) (inr step.own); working = step.own.working };
          keeps = step.keeps;
          others = step.others;
        }

-- it goes on resolving while others step
pub resolving_stays : (config : Config) (world next_world : World) (seat address : ℕ) (spot : ResolveSpot) → Shared config world → Rely config seat world next_world → IsResolving config world seat address spot → IsResolving config next_world seat address spot
resolving_stays config world next_world seat address spot shared rely (inl resolvable) = inl (((resolving_steps.steps config seat address).stands world spot shared resolvable).stays next_world rely)
resolving_stays config world next_world seat address spot shared rely (inr resolvable) = inr (((following_steps.steps config seat address).stands world spot shared resolvable).stays next_world rely)

-- the word that it finds is fit
pub resolving_fits : (config : Config) (world : World) (seat address phase : ℕ) (spot : ResolveSpot) → resolves.is_ended spot ≡ false → Shared config world → phase ≡ world.memory Phase → IsResolving config world seat address spot
    → load.IsFit config seat address phase spot (world.memory (resolves.touch_at config seat address spot).word)
resolving_fits config world seat address phase spot spot_going shared same_phase (inl resolvable) =
    subst (λ any_phase. load.IsFit config seat address any_phase spot (world.memory (resolves.touch_at config seat address spot).word)) (sym (same_phase ∙ resolvable.phase)) ((resolving_steps.steps config seat address).goes world spot spot_going shared resolvable).fits
resolving_fits config world seat address phase spot spot_going shared same_phase (inr resolvable) =
    subst (λ any_phase. load.IsFit config seat address any_phase spot (world.memory (resolves.touch_at config seat address spot).word)) (sym (same_phase ∙ resolvable.phase)) ((following_steps.steps config seat address).goes world spot spot_going shared resolvable).fits

-- its access is of a word of the table
pub resolving_inside : (config : Config) (world : World) (seat address : ℕ) (spot : ResolveSpot) → Shared config world → IsResolving config world seat address spot → IsWord config (resolves.touch_at config seat address spot).word
resolving_inside config world seat address spot shared (inl resolvable) = ((resolving_steps.steps config seat address).stands world spot shared resolvable).inside
resolving_inside config world seat address spot shared (inr resolvable) = ((following_steps.steps config seat address).stands world spot shared resolvable).inside

-- and in the end it has the answer
pub resolving_answers : (config : Config) (world : World) (seat address answer : ℕ) → IsResolving config world seat address (Resolved answer) → IsAnswer config world address answer
resolving_answers config world seat address answer (inl resolvable) = resolving_steps.answers config world seat address answer resolvable
resolving_answers config world seat address answer (inr resolvable) = following_steps.answers config world seat address answer resolvable
