-- What the handshake says of a pause.
use Rattle.std.proofs.Common.{◌≡◌, ℕ, ◌<◌, Bool, true, false, Some, refl, sym, ap, subst, arith, inl, inr}
use Rattle.std.specs.Prelude.{slice_get, ◌⊎◌}
use Rattle.heap_words.specs.declared.config.Config.{Config}
use Rattle.heap_words.specs.declared.access.Access.{Access}
use Rattle.heap_words.specs.Access.{table_index}
use Rattle.heap_words.specs.Words.{State, image_start}
use Rattle.heap_words.specs.Touch.{touch, stores, placed}
use Rattle.heap_words.specs.Steps.{MachineKind, Stage}
use Rattle.handshake.specs.Standing.{Standing, outside, looks, backs, inside, leaves, idle, stops, checks, works, goes, is_within, is_pausing, HasSeat, control_seat}
use Rattle.handshake.specs.Obeys.{is_load, IsHarmless, Obeys}
use Rattle.handshake.specs.Shaken.{IsShaken, IsPausing, IsStill}
use Rattle.handshake.proofs.Shaking.{pausing_checked}

-- an access to a word of the image, if it is one, only reads
abbrev pub OnlyReads : Config → Access → Type 0
OnlyReads config access = (is_load access ≡ true) ⊎ (table_index access < image_start config)

-- a store into the state word of a mutator or helper is of no word of the image
state_below : (config : Config) (access : Access) (seat value : ℕ) → seat < control_seat config → access ≡ placed config (touch (State seat) (stores value)) → OnlyReads config access
state_below config access seat value seat_below stores_state = inr (subst (λ any_access. table_index any_access < image_start config) (sym stores_state) (omega (arith, seat_below)))

-- a machine that is not in the heap, of a mutator or helper, only reads the image
pub without_reads : (config : Config) (seat : ℕ) (standing : Standing) (access : Access) (standing_next : ℕ → Standing) → seat < control_seat config → HasSeat config seat standing → is_within standing ≡ false → Obeys config seat standing access standing_next
    → OnlyReads config access
without_reads config seat outside access standing_next seat_below seated stands_outside (inl enters) = state_below config access seat 1 seat_below enters.access_is
without_reads config seat outside access standing_next seat_below seated stands_outside (inr stays) = by_harm stays.harmless
  where
    by_harm : IsHarmless config access → OnlyReads config access
    by_harm (inl reads) = inl reads
    by_harm (inr other_word) = inr other_word.1
without_reads config seat looks access standing_next seat_below seated stands_outside obeys = inl (ap is_load obeys.access_is)
without_reads config seat backs access standing_next seat_below seated stands_outside obeys = state_below config access seat 0 seat_below obeys.access_is
without_reads config seat inside access standing_next seat_below seated stands_outside obeys = absurd (cc (stands_outside))
without_reads config seat leaves access standing_next seat_below seated stands_outside obeys = absurd (cc (stands_outside))
without_reads config seat idle access standing_next seat_below seated stands_outside obeys = absurd (omega (arith, seat_below, seated))
without_reads config seat stops access standing_next seat_below seated stands_outside obeys = absurd (omega (arith, seat_below, seated))
without_reads config seat (checks checked_seat) access standing_next seat_below seated stands_outside obeys = absurd (omega (arith, seat_below, seated.0))
without_reads config seat works access standing_next seat_below seated stands_outside obeys = absurd (omega (arith, seat_below, seated))
without_reads config seat goes access standing_next seat_below seated stands_outside obeys = absurd (omega (arith, seat_below, seated))

module _ {R : Type 0} (config : Config) (standing : R → Standing) (stage : Stage R) (shaken : IsShaken config standing stage) where
  -- in a pause no mutator or helper is in the heap
  pub pause_empty : is_pausing (standing shaken.control) ≡ true → (seat : ℕ) (machine : R) → seat < control_seat config → slice_get stage.machines seat ≡ Some machine → is_within (standing machine) ≡ false
  pause_empty pausing seat machine seat_below machine_there = shaken.checked seat machine seat_below machine_there (pausing_checked (standing shaken.control) seat pausing)

  -- so while one is in the heap there is none
  pub within_free : (seat : ℕ) (machine : R) → seat < control_seat config → slice_get stage.machines seat ≡ Some machine → is_within (standing machine) ≡ true → is_pausing (standing shaken.control) ≡ false
  within_free seat machine seat_below machine_there standing_within = by_test (is_pausing (standing shaken.control)) refl
    where
      by_test : (holds : Bool) → is_pausing (standing shaken.control) ≡ holds → holds ≡ false
      by_test true pausing = absurd (cc (standing_within, pause_empty pausing seat machine seat_below machine_there))
      by_test false pause_test = refl

module _ {R O : Type 0} (config : Config) (kind : MachineKind R O) (standing : R → Standing) where
  pub pause_still : (stage : Stage R) → IsShaken config standing stage → IsPausing config standing stage → IsStill config kind standing stage
  pause_still stage shaken pausing = record {
    nobody = empty;
    only_reads = λ event found_machine seat_below machine_there obeys.
        without_reads config event.number (standing found_machine) (kind.plan found_machine event.order) (λ got. standing (kind.took found_machine event.order got)) seat_below
        (shaken.seated event.number found_machine machine_there.here) (empty event.number found_machine seat_below machine_there.here) (obeys found_machine machine_there);
  }
    where
      empty : (seat : ℕ) (machine : R) → seat < control_seat config → slice_get stage.machines seat ≡ Some machine → is_within (standing machine) ≡ false
      empty = pause_empty config standing stage shaken (pausing shaken.control shaken.there)
