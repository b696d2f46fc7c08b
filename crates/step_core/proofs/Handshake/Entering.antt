-- The steps by which the machine of a seat enters the heap, whichever machine it is: they write nothing but its state word.
use Rattle.std.proofs.Common.{◌≡◌, ◌≢◌, ℕ, refl, sym}
use Rattle.std.specs.Prelude.{◌==◌}
use Rattle.std.proofs.lemmas.Bool.{cond-false, ne_eqb}
use Rattle.heap_words.specs.declared.config.Config.{Config}
use Rattle.heap_words.specs.Words.{Pause, State, write}
use Rattle.handshake.specs.declared.enter_spot.EnterSpot.{EnterSpot}
use Rattle.handshake.specs.declared.enter_spot.EnterSpot.TheVariants.{Raise, Look, Lower, Await, Inside}
use Rattle.handshake.specs.EnterRows.{touch_at as enter_touch}
use Rattle.heap_world.specs.World.{World, Shared}
use Rattle.heap_world.specs.Part.{PartStep}
use Rattle.step_core.proofs.Machines.Alike.{load_step, store_step}
use Rattle.step_core.proofs.Mutators.WhileMarking.{world_with}

-- a store into the state word of a seat leaves those of the others
pub states_stay : (world : World) (seat value other_seat : ℕ) → other_seat ≢ seat → write world.memory (State seat) value (State other_seat) ≡ world.memory (State other_seat)
states_stay world seat value other_seat seats_differ = cond-false (seat == other_seat) _ _ (ne_eqb seat other_seat (λ same_seat. seats_differ (sym same_seat)))

-- the world after the access
abbrev pub entered_world : World → ℕ → EnterSpot → World
entered_world world seat Raise = world_with world (write world.memory (State seat) 1) world.graph
entered_world world seat Lower = world_with world (write world.memory (State seat) 0) world.graph
entered_world world seat _ = world

-- what each of these steps owes, whatever its machine counts on
pub enters : (config : Config) (world : World) (seat : ℕ) (spot : EnterSpot) (facts : World → Type 0) → Shared config world → facts (entered_world world seat spot) → PartStep config world seat (enter_touch seat spot) facts
enters config world seat Raise facts shared own_facts = store_step config world seat (State seat) 1 facts refl (states_stay world seat 1) shared own_facts
enters config world seat Look facts shared own_facts = load_step config world seat Pause facts shared own_facts
enters config world seat Lower facts shared own_facts = store_step config world seat (State seat) 0 facts refl (states_stay world seat 0) shared own_facts
enters config world seat Await facts shared own_facts = load_step config world seat Pause facts shared own_facts
enters config world seat Inside facts shared own_facts = load_step config world seat Pause facts shared own_facts
