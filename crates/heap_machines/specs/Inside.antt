-- Where the control goes from a word of the image to the next one.
use Rattle.std.specs.Prelude.{ℕ, Bool, false}
use Rattle.heap_words.specs.declared.config.Config.{Config}
use Rattle.control.specs.Image as controls
use Rattle.step_core.specs.Actor.{Machine, controlling}

-- whether the machine is the control, and its next step goes from a word of the image to the next one
abbrev pub is_inside_image : Config → Machine → Bool
is_inside_image config (controlling control) = controls.is_inside_image config control.spot
is_inside_image config _ = false

-- how many words of the image it loads, or stores, before the last one in a pause of all of the image: the control alone does any
abbrev pub loads_left : Config → Machine → ℕ
loads_left config (controlling control) = controls.loads_left config control.spot
loads_left config _ = 0

abbrev pub stores_left : Config → Machine → ℕ
stores_left config (controlling control) = controls.stores_left config control.spot
stores_left config _ = 0
