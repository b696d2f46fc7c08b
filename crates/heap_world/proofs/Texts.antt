-- A text of which the pins alone have changed.
use Rattle.std.proofs.Common.{◌≡◌, List, ap, sym, ◌∙◌}
use Rattle.shen_graph.specs.Graph.{Reference}
use Rattle.shen_graph.specs.GraphText.{Text}

-- where the pins alone have changed, and then change again, they alone have changed
pub pins_alone : (first before after : Text) (pins : List (List Reference)) → before ≡ record first { pins = before.pins } → after ≡ record before { pins = pins }
    → after ≡ record first { pins = after.pins }
pins_alone first before after pins before_alike after_alike =
    after_alike ∙ ap (λ (some_pins : List (List Reference)). record before { pins = some_pins }) (sym (ap (λ (text : Text). text.pins) after_alike))
    ∙ ap (λ (text : Text). record text { pins = after.pins }) before_alike
