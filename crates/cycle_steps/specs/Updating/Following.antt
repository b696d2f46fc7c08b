-- What a machine counts on while it resolves an address of the collection set where references are updated: all objects there have been
-- copied, so that the header leads to the current copy.
use Rattle.std.specs.Prelude.{ℕ, ◌≡◌, ◌<◌, Some, None, ⊤}
use Rattle.heap_words.specs.declared.config.Config.{Config}
use Rattle.heap_words.specs.Ranges.{seat_count}
use Rattle.heap_words.specs.Words.{Phase, Cset}
use Rattle.heap_words.specs.Phases.{updating_phase}
use Rattle.heap_world.specs.World.{World, Body, body_at, IsCollected}
use Rattle.load_barrier.specs.declared.spot.ResolveSpot.{ResolveSpot}
use Rattle.load_barrier.specs.declared.spot.ResolveSpot.TheVariants.{LoadHeader, Resolved}
use Rattle.cycle_steps.specs.Resolving.Facts.{IsAnswer}
use Rattle.cycle_steps.specs.Evacuation.Facts.{HasNothing}

-- it is about to load the header, or has the answer
abbrev pub FollowFacts : Config → World → ℕ → ResolveSpot → Type 0
FollowFacts config world a LoadHeader = ⊤
FollowFacts config world address (Resolved answer) = IsAnswer config world address answer
FollowFacts config world a _ = ⊥

-- References are updated, and the address lies in the collection set and is that of a copy of an object of the graph. The machine works on
-- no unit, neither copies nor records nor scans, and has no room in hand.
pub record CanFollow (config : Config) (world : World) (seat address : ℕ) (spot : ResolveSpot) : Type 0 where
  pub seated : seat < seat_count config.mutators config.helpers
  pub phase : world.memory Phase ≡ updating_phase
  pub inside : IsCollected config (world.memory Cset) address
  pub body : Body
  pub there : body_at (world.block address) ≡ Some body
  pub working : world.ghost.working seat ≡ None
  pub nothing : HasNothing world seat
  pub facts : FollowFacts config world address spot
