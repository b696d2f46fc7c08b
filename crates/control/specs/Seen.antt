-- What the events see of the control.
use Rattle.std.specs.Prelude.{ℕ, List, Option, slice_index}
use Rattle.heap_words.specs.declared.access.Access.{Access}
use Rattle.heap_words.specs.Access.{table_index}
use Rattle.heap_words.specs.declared.config.Config.{Config}
use Rattle.image_graph.specs.State.{config_of}
use Rattle.collector_rows.specs.ControlRows.{Controlling, control_hinted, control_access}
use Rattle.control.specs.Image.{image_in, words_seen}
use Rattle.control.specs.declared.machine.Control.{Control}

-- whose control it is
abbrev pub config_in : Control → Config
config_in control = config_of control.image

-- what it is
abbrev pub seen_control : Control → Controlling
seen_control control = record { spot = control.spot; seen = control.last.seen; phase = control.last.phase; cset = control.last.cset; image = words_seen (config_of control.image) control.spot control.starts (image_in control.image); hints = control.hints }

-- the hint that it was given, if it was given one
abbrev pub hint_of : Control → Option ℕ
hint_of control = control.hint

-- it, as it goes on with that hint
abbrev pub past_hint : Control → Controlling
past_hint control = control_hinted (config_in control) (hint_of control) (seen_control control)

-- its next access
abbrev pub access_of : Control → Access
access_of control = control_access (config_in control) (past_hint control)

-- the word that this finds in a table
abbrev pub word_found : Control → List ℕ → ℕ
word_found control words = slice_index words (table_index (access_of control))
