-- The accesses of a machine that works on a unit are of words of the table, and of the image, and it goes on to such accesses.
use Rattle.std.proofs.Common.{◌≡◌, ℕ, ◌<◌, true, refl, sym, subst}
use Rattle.std.proofs.lemmas.Bool.{and_parts, and_from}
use Rattle.heap_words.specs.declared.config.Config.{Config}
use Rattle.heap_words.specs.Ranges.{seat_count}
use Rattle.heap_words.specs.Words.{IsWord, is_image, word_at, table_words}
use Rattle.heap_words.proofs.Rows.{word_inside}
use Rattle.heap_words.proofs.Touches.{table_index-access_at}
use Rattle.unit_part.specs.declared.scan_spot.ScanSpot.{ScanSpot}
use Rattle.unit_part.specs.declared.scan_spot.ScanSpot.TheVariants as scan
use Rattle.unit_part.specs.ScanRows as scans
use Rattle.unit_part.proofs.ScanInside.{scan_inside, scan_image}
use Rattle.load_barrier.specs.declared.evac_spot.EvacSpot.{EvacSpot}
use Rattle.load_barrier.specs.declared.evac_spot.EvacSpot.TheVariants as evac
use Rattle.load_barrier.specs.UnitRows as evacs
use Rattle.load_barrier.specs.UnitFit as evac_fit
use Rattle.load_barrier.proofs.Inside.{evacuation_inside, evacuation_image}
use Rattle.unit_part.specs.declared.update_spot.UpdateSpot.{UpdateSpot}
use Rattle.unit_part.specs.declared.update_spot.UpdateSpot.TheVariants as update
use Rattle.unit_part.specs.UpdateRows as updates
use Rattle.unit_part.proofs.UpdateInside.{updating_inside, updating_image}
use Rattle.unit_part.specs.declared.spot.UnitSpot.{UnitSpot}
use Rattle.unit_part.specs.declared.spot.UnitSpot.TheVariants.{Scanning, Evacuating, Updating, Ended}
use Rattle.unit_part.specs.Rows.{touch_at, scanned, evacuated, updated}
use Rattle.unit_part.specs.Ready.{is_ready, AccessesAreInside, StaysReady}

-- each access of a unit is of a word of the table
pub unit_inside : (config : Config) (seat : ℕ) (spot : UnitSpot) → seat < seat_count config.mutators config.helpers → is_ready config seat spot ≡ true → IsWord config (touch_at config seat spot).word
unit_inside config seat (Scanning spot) seated ready = scan_inside config spot (and_parts _ _ ready).0
unit_inside config seat (Evacuating cset spot) seated ready = evacuation_inside config seat spot seated (and_parts _ _ ready).0
unit_inside config seat (Updating cset spot) seated ready = updating_inside config spot (and_parts _ _ ready).0
unit_inside config seat (Ended unit) seated ready = tt

pub accesses_inside : AccessesAreInside
accesses_inside config seat value seated ready = let touch = touch_at config seat value in
    subst (λ place. place < table_words config) (sym (table_index-access_at (word_at config touch.word) touch.form)) (word_inside config touch.word (unit_inside config seat value seated ready))

-- and of words of the image alone
pub unit_image : (config : Config) (seat : ℕ) (spot : UnitSpot) → is_image (touch_at config seat spot).word ≡ true
unit_image config seat (Scanning spot) = scan_image config spot
unit_image config seat (Evacuating cset spot) = evacuation_image config seat spot
unit_image config seat (Updating cset spot) = updating_image config spot
unit_image config seat (Ended unit) = refl

-- where the parts go on
scans_on : (config : Config) (seat : ℕ) (spot : ScanSpot) → scans.is_ready config spot ≡ true → is_ready config seat (scanned spot) ≡ true
scans_on config seat (scan.Ended unit) ready = refl
scans_on config seat _ ready = and_from _ _ ready refl

evacuates_on : (config : Config) (seat cset : ℕ) (spot : EvacSpot) → evac_fit.is_ready config seat spot ≡ true → is_ready config seat (evacuated cset spot) ≡ true
evacuates_on config seat cset (evac.Ended unit) ready = refl
evacuates_on config seat cset _ ready = and_from _ _ ready refl

updates_on : (config : Config) (seat cset : ℕ) (spot : UpdateSpot) → updates.is_ready config spot ≡ true → is_ready config seat (updated cset spot) ≡ true
updates_on config seat cset (update.Ended unit) ready = refl
updates_on config seat cset _ ready = and_from _ _ ready refl

pub stays_ready : StaysReady
stays_ready config seat (Scanning spot) got ready fit = scans_on config seat (scans.next_at config spot got) fit
stays_ready config seat (Evacuating cset spot) got ready fit = evacuates_on config seat cset (evacs.next_at config cset spot got) fit.0
stays_ready config seat (Updating cset spot) got ready fit = updates_on config seat cset (updates.next_at config cset spot got) fit
stays_ready config seat (Ended unit) got ready fit = refl
