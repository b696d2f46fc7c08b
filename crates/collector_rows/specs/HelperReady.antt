-- Whether a helper can make its next access.
use Rattle.std.specs.Prelude.{ℕ, ◌≡◌, ◌+◌, ◌<◌, Bool, true, false, ◌&&◌, nat_lt, if◌then◌else◌, Option}
use Rattle.std.specs.Option.{ForSome}
use Rattle.heap_words.specs.declared.config.Config.{Config}
use Rattle.heap_words.specs.Access.{table_index}
use Rattle.heap_words.specs.Words.{Heap, IsWord, table_words}
use Rattle.heap_words.specs.Touch.{placed}
use Rattle.handshake.specs.EnterRows.{is_ended as is_entered}
use Rattle.unit_part.specs.Rows as units
use Rattle.unit_part.specs.Ready as unit
use Rattle.collector_rows.specs.declared.help_spot.HelpSpot.{HelpSpot}
use Rattle.collector_rows.specs.declared.help_spot.HelpSpot.TheVariants.{Entering, Working}
use Rattle.collector_rows.specs.HelperRows.{Helping, help_touch, help_next, takes_hint}

-- whether the numbers of a spot are in range, for the helper of a seat: an entering or a unit has not ended, and its next access can
-- be made
abbrev pub spot_fits : Config → ℕ → HelpSpot → Bool
spot_fits config seat (Entering spot) = if is_entered spot then false else true
spot_fits config seat (Working spot) = unit.is_ready config seat spot && (if units.is_ended spot then false else true)
spot_fits config seat _ = true

-- whether a helper's next access can be made: its seat is that of a mutator or a helper, and the numbers of its spot are in range
abbrev pub help_ready : Config → Helping → Bool
help_ready config helper = nat_lt helper.seat (config.mutators + config.helpers) && spot_fits config helper.seat helper.spot

-- a hint may stand: it is the hint of an address of the heap, and the helper takes hints; or there is none
abbrev pub IsHintFor : Config → HelpSpot → Option ℕ → Type 0
IsHintFor config spot hint = ForSome hint (λ address. IsWord config (Heap address) × (takes_hint spot ≡ true))

-- a unit can go on from a word
abbrev pub UnitGoesOn : Config → ℕ → HelpSpot → ℕ → Type 0
UnitGoesOn config seat (Working spot) got = unit.IsFit config seat spot got
UnitGoesOn config seat _ got = Unit {0}

-- the word is fit: in a unit it is one from which the unit can go on, and anywhere else each word is
abbrev pub IsFit : Config → Helping → ℕ → Type 0
IsFit config helper got = UnitGoesOn config helper.seat helper.spot got

-- a helper that can make its access makes it to a word of the table
abbrev pub AccessesAreInside : Type 0
AccessesAreInside = (config : Config) (helper : Helping) → help_ready config helper ≡ true → table_index (placed config (help_touch config helper)) < table_words config

-- and where it goes on with a word that is fit it can make the next one
abbrev pub StaysReady : Type 0
StaysReady = (config : Config) (helper : Helping) (got : ℕ) → help_ready config helper ≡ true → IsFit config helper got → help_ready config (help_next config helper got) ≡ true
