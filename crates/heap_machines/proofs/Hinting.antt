-- The order of a helper, and of the control, is the hint that it was given, if it was given one.
use Rattle.std.proofs.Common.{◌≡◌, ℕ, Bool, true, false, Option, Some, None, refl, ap}
use Rattle.std.specs.Prelude.{◌&&◌, if◌then◌else◌}
use Rattle.heap_words.specs.declared.config.Config.{Config}
use Rattle.shen_graph.specs.Order.{hint_in, hinting}
use Rattle.collector_rows.specs.HelperRows.{Helping, help_hinted}
use Rattle.collector_rows.specs.ControlRows.{Controlling, control_hinted}
use Rattle.collector_rows.proofs.ControlHinted.{by_unit}
use Rattle.step_core.specs.Fit.{IsWholeImage}
use Rattle.step_core.specs.Machines.{helping_by, controlling_by}

hint_back : (hint : Option ℕ) → hint_in (hinting hint) ≡ hint
hint_back None = refl
hint_back (Some address) = refl

-- so a machine goes on with just that
pub helped : (config : Config) (hint : Option ℕ) (helper : Helping) → helping_by config (hinting hint) helper ≡ help_hinted config hint helper
helped config hint helper = ap (λ known_hint. help_hinted config known_hint helper) (hint_back hint)

pub controlled : (config : Config) (hint : Option ℕ) (control : Controlling) → controlling_by config (hinting hint) control ≡ control_hinted config hint control
controlled config hint control = ap (λ known_hint. control_hinted config known_hint control) (hint_back hint)

-- where it has a turn under a hint it has not ended
pub goes_with_hint : (working has_gone : Bool) → (working && (if has_gone then false else true)) ≡ true → has_gone ≡ false
goes_with_hint working false has_turn = refl
goes_with_hint true true has_turn = absurd (cc (has_turn))
goes_with_hint false true has_turn = absurd (cc (has_turn))

-- who takes a hint has loaded no image
pub whole_with_hint : (config : Config) (hint : Option ℕ) (control : Controlling) (got : ℕ) → IsWholeImage config control.phase control.spot control.image got
    → IsWholeImage config (control_hinted config hint control).phase (control_hinted config hint control).spot (control_hinted config hint control).image got
whole_with_hint config None control got whole_image = whole_image
whole_with_hint config (Some address) control got whole_image =
    by_unit config (λ spot next. IsWholeImage config control.phase spot control.image got → IsWholeImage config control.phase next control.image got) (Some address) (λ spot same_image. same_image) (λ unit_spot same_image. tt) control.spot whole_image
