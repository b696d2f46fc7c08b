-- When a step of a machine that updates says that another was faster, and by which words it ends.
use Rattle.std.specs.Prelude.{ℕ, ◌≡◌, ◌≢◌, ◌≤◌, ◌+◌, Some, true, false}
use Rattle.std.specs.Int.{bit_at}
use Rattle.heap_words.specs.declared.config.Config.{Config}
use Rattle.heap_words.specs.Encoding.{filler_words_in, refs_in, is_forwarded}
use Rattle.regions.specs.Marks.{mark_bit}
use Rattle.regions.specs.Sets.{IsIn}
use Rattle.unit_part.specs.declared.update_spot.Visit.{Visit}
use Rattle.unit_part.specs.declared.update_spot.UpdateSpot.{UpdateSpot}
use Rattle.unit_part.specs.declared.update_spot.UpdateSpot.TheVariants.{LoadClaim, ClaimUnit, LoadLimit, LoadFirst, LoadShape, LoadBlack, LoadField, LoadHeader, ExchangeField}
use Rattle.unit_part.specs.UpdateRows.{names_set, limit_of, visit_end}

-- At KX another machine was faster: the claim word is not the one that was loaded.
abbrev pub WaitsAt : UpdateSpot → ℕ → Type 0
WaitsAt (ClaimUnit unit) got = got ≢ unit
WaitsAt _ got = ⊥

-- At UC no unit is left: the claim word is at or past the number of regions.
abbrev pub HasNoneLeft : Config → UpdateSpot → ℕ → Type 0
HasNoneLeft config LoadClaim got = config.regions ≤ got
HasNoneLeft config _ got = ⊥

-- an object is the last one below its region's limit
abbrev pub IsLast : Config → Visit → Type 0
IsLast config visit = limit_of config visit.walk ≤ visit_end visit

-- a reference is the last one of the last object
abbrev pub IsLastField : Config → Visit → ℕ → Type 0
IsLastField config visit field = (refs_in visit.shape ≤ field + 1) × IsLast config visit

-- The unit is done: at KX its region is in the collection set, at UL its limit is 0, and at UG words that only fill are
-- the last ones below the limit. Elsewhere the object is the last one: at US it
-- has no reference, at UB it is not marked, at UF the last reference does not name the set, at UH what it names is not
-- forwarded, and at UX it is the last reference.
abbrev pub IsDoneAt : Config → ℕ → UpdateSpot → ℕ → Type 0
IsDoneAt config cset (ClaimUnit unit) got = (got ≡ unit) × IsIn cset unit
IsDoneAt config cset (LoadLimit region) got = got ≡ 0
IsDoneAt config cset (LoadFirst walk address) got = (words : ℕ) × (filler_words_in got ≡ Some words) × (limit_of config walk ≤ address + words)
IsDoneAt config cset (LoadShape walk address) got = (refs_in got ≡ 0) × IsLast config (record { walk = walk; address = address; shape = got })
IsDoneAt config cset (LoadBlack visit) got = (bit_at got (mark_bit config visit.address) ≢ 1) × IsLast config visit
IsDoneAt config cset (LoadField visit field) got = (names_set config cset got ≡ false) × IsLastField config visit field
IsDoneAt config cset (LoadHeader visit field found) got = (is_forwarded got ≡ false) × IsLastField config visit field
IsDoneAt config cset (ExchangeField visit field found copy) got = IsLastField config visit field
IsDoneAt config cset _ got = ⊥
