-- Words from which the control can go on.
use Rattle.std.proofs.Common.{ℕ, List}
use Rattle.std.proofs.Math.Logic.{∥∥₁_elim}
use Rattle.heap_words.specs.declared.config.Config.{Config}
use Rattle.heap_world.specs.Change.{image_view}
use Rattle.collector_rows.specs.Extent.{extent_after}
use Rattle.collector_rows.specs.declared.control_spot.ControlSpot.{ControlSpot}
use Rattle.collector_rows.specs.declared.control_spot.ControlSpot.TheVariants.{LoadWord}
use Rattle.collector_rows.specs.ControlReady.{UnitGoesOn}
use Rattle.collector_rows.specs.ControlRows.{loaded_all}
use Rattle.control.specs.Fit.{fits_with}
use Rattle.control.proofs.Fitting.{part_of_some_can, can_collect_prop}
use Rattle.step_core.specs.Fit.{IsWholeImage}

-- a word that is fit for the control as a machine is fit for the control
pub fit_for_control : (config : Config) (phase : ℕ) (spot : ControlSpot) (image : List ℕ) (got : ℕ) → IsWholeImage config phase spot image got → UnitGoesOn config spot got → fits_with config spot phase image got
fit_for_control config phase (LoadWord index extent) image got whole_image unit_goes = λ is_last.
    ∥∥₁_elim (whole_image is_last) (can_collect_prop config (extent_after phase index extent got) (image_view config (loaded_all config image got)))
    (λ whole_found. part_of_some_can config (extent_after phase index extent got) whole_found.0 (loaded_all config image got) whole_found.1 whole_found.2 whole_found.4 whole_found.5 whole_found.6)
fit_for_control config phase _ image got whole_image unit_goes = unit_goes
