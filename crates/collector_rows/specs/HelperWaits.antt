-- Where a step of a helper says that it waits, or that another machine was faster, by the word that it finds.
use Rattle.std.specs.Prelude.{ℕ, ◌≡◌, ◌≢◌, ◌⊎◌}
use Rattle.heap_words.specs.declared.config.Config.{Config}
use Rattle.heap_words.specs.Phases.{idle_phase}
use Rattle.handshake.specs.declared.enter_spot.EnterSpot.TheVariants.{Await}
use Rattle.unit_part.specs.Ends as units
use Rattle.collector_rows.specs.declared.help_spot.HelpSpot.{HelpSpot}
use Rattle.collector_rows.specs.declared.help_spot.HelpSpot.TheVariants.{Entering, LoadPhase, Working}
use Rattle.collector_rows.specs.HelperRows.{Helping}

-- At E4 a pause is wanted; at PH the phase is 0; and in a unit none is left, or it waits as the work on the unit does. At each other place
-- it never waits.
abbrev pub waits_at : Config → HelpSpot → ℕ → Type 0
waits_at config (Entering Await) got = got ≢ 0
waits_at config LoadPhase got = got ≡ idle_phase
waits_at config (Working spot) got = units.HasNoneLeft config spot got ⊎ units.WaitsAt spot got
waits_at config _ got = ⊥

abbrev pub WaitsAt : Config → Helping → ℕ → Type 0
WaitsAt config helper got = waits_at config helper.spot got
