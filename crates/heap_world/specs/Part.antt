-- What a step of a part, a sub-machine that a machine of a seat has inside, owes to the machine that has it.
use Rattle.std.specs.Prelude.{ℕ, ◌≡◌, ◌≢◌, Bool, false}
use Rattle.heap_words.specs.declared.config.Config.{Config}
use Rattle.heap_words.specs.Touch.{Touch, touched}
use Rattle.heap_words.specs.Words.{IsWord}
use Rattle.heap_world.specs.World.{World, Shared}
use Rattle.heap_world.specs.Rely.{Keeps, Rely}

-- a step leaves as it is whether a seat copies, and on which unit it works
pub record SameWork (world after : World) (seat : ℕ) : Type 0 where
  pub copying : after.ghost.copying seat ≡ world.ghost.copying seat
  pub working : after.ghost.working seat ≡ world.ghost.working seat

-- What a step of a part owes, which settles nothing, to the machine that has it inside: the world after it, by its memory and
-- its graph; what all machines share; what the part counts on from here; what the machine's own facts stand on; and what the
-- others rely on.
pub record PartStep (config : Config) (before : World) (seat : ℕ) (touch : Touch) (facts : World → Type 0) : Type 0 where
  pub world : World
  pub memory : world.memory ≡ touched before.memory touch
  pub graph : world.graph ≡ before.graph
  pub shared : Shared config world
  pub own : facts world
  pub keeps : Keeps config seat before world
  pub others : (k : ℕ) → k ≢ seat → Rely config k before world

-- A part, as the machine that has it inside sees it: its spots, and by spot whether it has ended, its access, the spot that follows by the
-- word that was found, which words are fit, and what it counts on; and what a step from one world to another brings about, by the spot to
-- which it leads.
pub record Part : Type 1 where
  pub Spot : Type 0
  pub is_ended : Spot → Bool
  pub touch : Spot → Touch
  pub next : Spot → ℕ → Spot
  pub IsFit : Spot → ℕ → Type 0
  pub Can : World → Spot → Type 0
  pub Then : (world after : World) → Spot → Type 0

-- Where a part stands in a world: what it counts on stays while others step, and its next access is one of the table.
pub record StandsFirm (config : Config) (world : World) (seat : ℕ) (part : Part) (at : part.Spot) : Type 0 where
  pub stays : (after : World) → Rely config seat world after → part.Can after at
  pub inside : IsWord config (part.touch at).word

-- And where it has not ended: its step owes what such a step does, and the word that it finds is fit.
pub record GoesWell (config : Config) (world : World) (seat : ℕ) (part : Part) (at : part.Spot) : Type 0 where
  pub step : PartStep config world seat (part.touch at) (λ w. part.Then world w (part.next at (world.memory (part.touch at).word)))
  pub fits : part.IsFit at (world.memory (part.touch at).word)

-- What the steps of a part owe to the machine of a seat that has it inside, wherever it may stand. That what it counts on stays may need
-- something that is given of the world.
pub record PartSteps (config : Config) (seat : ℕ) (part : Part) (Given : World → Type 0) : Type 0 where
  pub stands : (world : World) (at : part.Spot) → Given world → part.Can world at → StandsFirm config world seat part at
  pub goes : (world : World) (at : part.Spot) → part.is_ended at ≡ false → Shared config world → part.Can world at → GoesWell config world seat part at
