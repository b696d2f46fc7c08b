-- What holds of helpers and of the control by where they stand: it stays while others step, and outside the heap they rest.
use Rattle.std.proofs.Common.{◌≡◌, ℕ, ◌+◌, ◌<◌, true, false, refl, sym, ◌∙◌, subst, arith}
use Rattle.heap_words.specs.declared.config.Config.{Config}
use Rattle.heap_words.specs.Words.{IsWord, is_image}
use Rattle.handshake.specs.declared.enter_spot.EnterSpot.TheVariants as enter
use Rattle.handshake.specs.Standing.{is_within}
use Rattle.collector_rows.specs.declared.help_spot.HelpSpot.{HelpSpot}
use Rattle.collector_rows.specs.declared.help_spot.HelpSpot.TheVariants.{LoadEnd, Entering, LoadPhase, LoadSet, Working, Leave, Gone}
use Rattle.collector_rows.specs.HelperRows.{Helping, touch_at}
use Rattle.collector_rows.specs.HelperReady.{spot_fits, UnitGoesOn}
use Rattle.unit_part.proofs.Inside.{unit_inside}
use Rattle.std.proofs.lemmas.Bool.{and_parts}
use Rattle.collector_rows.specs.declared.control_spot.ControlSpot.{ControlSpot}
use Rattle.collector_rows.specs.declared.control_spot.ControlSpot.TheVariants as control
use Rattle.heap_world.specs.World.{World, Shared}
use Rattle.heap_world.specs.Rely.{Rely}
use Rattle.step_core.specs.Standing.{help_standing}
use Rattle.step_core.proofs.Control.Due.{due_stays}
use Rattle.step_core.proofs.Machines.Owed.{IsResting, HelpFacts, ControlFacts, IsHelper}
use Rattle.step_core.proofs.Helpers.Units.{rests_on, work_stays, work_fits}

-- what a helper counts on stays
pub help_stays : (config : Config) (world next_world : World) (seat : ℕ) (spot : HelpSpot) → Shared config world → Rely config seat world next_world → HelpFacts config world seat spot → HelpFacts config next_world seat spot
help_stays config world next_world seat (Working spot) shared rely facts = work_stays config world next_world seat spot shared rely facts
help_stays config world next_world seat (LoadSet phase) shared rely facts = (rests_on config world next_world seat rely facts.0, facts.1, facts.2 ∙ sym rely.marks.keeps.phase)
help_stays config world next_world seat _ shared rely facts = rests_on config world next_world seat rely facts

-- and so does what the control counts on
pub control_stays : (config : Config) (world next_world : World) (seat : ℕ) (spot : ControlSpot) → Shared config world → Rely config seat world next_world → ControlFacts config world seat spot → ControlFacts config next_world seat spot
control_stays config world next_world seat (control.Working spot) shared rely facts = work_stays config world next_world seat spot shared rely facts
control_stays config world next_world seat control.LookFree shared rely facts = (rests_on config world next_world seat rely facts.0, rely.marks.keeps.phase ∙ facts.1)
control_stays config world next_world seat (control.Stopping spot) shared rely facts = (rests_on config world next_world seat rely facts.0, due_stays config world next_world seat rely facts.1)
control_stays config world next_world seat (control.LoadWord index extent) shared rely facts = (rests_on config world next_world seat rely facts.0, due_stays config world next_world seat rely facts.1)
control_stays config world next_world seat _ shared rely facts = rests_on config world next_world seat rely facts

-- a helper that is not in the heap rests
pub rests_outside : (config : Config) (world : World) (seat : ℕ) (spot : HelpSpot) → is_within (help_standing spot) ≡ false → HelpFacts config world seat spot → IsResting world seat
rests_outside config world seat LoadEnd helper_outside facts = facts
rests_outside config world seat (Entering spot) helper_outside facts = facts
rests_outside config world seat Gone helper_outside facts = facts
rests_outside config world seat _ helper_outside facts = absurd (cc (helper_outside))

-- and that is all that it counts on
pub help_outside : (config : Config) (world : World) (seat : ℕ) (spot : HelpSpot) → is_within (help_standing spot) ≡ false → IsResting world seat → HelpFacts config world seat spot
help_outside config world seat LoadEnd helper_outside rests = rests
help_outside config world seat (Entering spot) helper_outside rests = rests
help_outside config world seat Gone helper_outside rests = rests
help_outside config world seat _ helper_outside rests = absurd (cc (helper_outside))

-- its access is then of no word of the image
pub help_leaves_image : (config : Config) (seat : ℕ) (spot : HelpSpot) → is_within (help_standing spot) ≡ false → is_image (touch_at config seat spot).word ≡ false
help_leaves_image config seat LoadEnd helper_outside = refl
help_leaves_image config seat (Entering enter.Raise) helper_outside = refl
help_leaves_image config seat (Entering enter.Look) helper_outside = refl
help_leaves_image config seat (Entering enter.Lower) helper_outside = refl
help_leaves_image config seat (Entering enter.Await) helper_outside = refl
help_leaves_image config seat (Entering enter.Inside) helper_outside = refl
help_leaves_image config seat Gone helper_outside = refl
help_leaves_image config seat _ helper_outside = absurd (cc (helper_outside))

-- a helper's access is of a word of the table
spot_word : (config : Config) (seat : ℕ) (spot : HelpSpot) → seat < config.mutators + config.helpers → spot_fits config seat spot ≡ true → IsWord config (touch_at config seat spot).word
spot_word config seat LoadEnd seat_below spot_is_fit = tt
spot_word config seat (Entering enter.Raise) seat_below spot_is_fit = seat_below
spot_word config seat (Entering enter.Look) seat_below spot_is_fit = tt
spot_word config seat (Entering enter.Lower) seat_below spot_is_fit = seat_below
spot_word config seat (Entering enter.Await) seat_below spot_is_fit = tt
spot_word config seat (Entering enter.Inside) seat_below spot_is_fit = tt
spot_word config seat LoadPhase seat_below spot_is_fit = tt
spot_word config seat (LoadSet phase) seat_below spot_is_fit = tt
spot_word config seat (Working spot) seat_below spot_is_fit = unit_inside config seat spot (omega (arith, seat_below)) (and_parts _ _ spot_is_fit).0
spot_word config seat Leave seat_below spot_is_fit = seat_below
spot_word config seat Gone seat_below spot_is_fit = tt

pub help_word : (config : Config) (world : World) (number : ℕ) (helper : Helping) → Shared config world → IsHelper config world number helper → IsWord config (touch_at config helper.seat helper.spot).word
help_word config world number helper shared helper_known = spot_word config helper.seat helper.spot (subst (λ any_seat. any_seat < config.mutators + config.helpers) (sym helper_known.number_is) helper_known.below) (and_parts _ _ helper_known.ready).1

-- a word that it finds is fit
spot_found : (config : Config) (world : World) (seat : ℕ) (spot : HelpSpot) → Shared config world → spot_fits config seat spot ≡ true → HelpFacts config world seat spot → UnitGoesOn config seat spot (world.memory (touch_at config seat spot).word)
spot_found config world seat (Working spot) shared spot_is_fit facts = work_fits config world seat shared spot (and_parts _ _ spot_is_fit).0 facts
spot_found config world seat _ shared spot_is_fit facts = tt

pub help_fits : (config : Config) (world : World) (number : ℕ) (helper : Helping) → Shared config world → IsHelper config world number helper → UnitGoesOn config helper.seat helper.spot (world.memory (touch_at config helper.seat helper.spot).word)
help_fits config world number helper shared helper_known = spot_found config world helper.seat helper.spot shared (and_parts _ _ helper_known.ready).1 (subst (λ any_seat. HelpFacts config world any_seat helper.spot) (sym helper_known.number_is) helper_known.facts)

-- and outside the heap each word is
pub help_fits_outside : (config : Config) (seat : ℕ) (spot : HelpSpot) (got : ℕ) → is_within (help_standing spot) ≡ false → UnitGoesOn config seat spot got
help_fits_outside config seat (Working spot) got helper_outside = absurd (cc (helper_outside))
help_fits_outside config seat _ got helper_outside = tt
