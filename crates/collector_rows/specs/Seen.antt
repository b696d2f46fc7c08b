-- What the events see of a helper.
use Rattle.std.specs.Prelude.{ℕ, Option}
use Rattle.heap_words.specs.declared.config.Config.{Config}
use Rattle.collector_rows.specs.declared.helper.Helper.{Helper}
use Rattle.collector_rows.specs.HelperRows.{Helping}

-- all but its configuration
abbrev pub seen_helper : Helper → Helping
seen_helper helper = record { seat = helper.seat; spot = helper.spot; hints = helper.hints }

-- the hint that it was given, if it was given one
abbrev pub hint_of : Helper → Option ℕ
hint_of helper = helper.hint

-- the heap that it works on
abbrev pub config_of : Helper → Config
config_of helper = helper.config
