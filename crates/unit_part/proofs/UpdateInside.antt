-- The accesses of a machine that updates a unit are of words of the table, and of the image.
use Rattle.std.proofs.Common.{◌≡◌, ℕ, ◌+◌, ◌<◌, ◌≤◌, true, refl, arith}
use Rattle.std.proofs.lemmas.Bool.{and_parts, ltb-true}
use Rattle.heap_words.specs.declared.config.Config.{Config}
use Rattle.heap_words.specs.Encoding.{refs_in}
use Rattle.heap_words.specs.Words.{Heap, IsWord, is_word, is_image}
use Rattle.heap_words.proofs.Stores.{is_word_true}
use Rattle.regions.proofs.MarksApart.{word_inside}
use Rattle.unit_part.specs.declared.update_spot.Visit.{Visit}
use Rattle.unit_part.specs.declared.update_spot.UpdateSpot.{UpdateSpot}
use Rattle.unit_part.specs.declared.update_spot.UpdateSpot.TheVariants.{LoadClaim, ClaimUnit, LoadLimit, LoadTams, LoadFirst, LoadShape, LoadBlack, LoadField, LoadHeader, ExchangeField, Ended}
use Rattle.unit_part.specs.UpdateRows.{touch_at, walk_fits, visit_fits, has_field, is_ready}

heap_there : (config : Config) (address : ℕ) → is_word config (Heap address) ≡ true → IsWord config (Heap address)
heap_there config address word_there = is_word_true config (Heap address) word_there

-- an object's address is one of the heap, and so is that of each of its references
object_inside : (config : Config) (visit : Visit) → visit_fits config visit ≡ true → IsWord config (Heap visit.address)
object_inside config visit fits = heap_there config visit.address (and_parts _ _ (and_parts (walk_fits config visit.walk) _ fits).1).0

field_inside : (config : Config) (visit : Visit) (field : ℕ) → has_field config visit field ≡ true → IsWord config (Heap (visit.address + 3 + field))
field_inside config visit field field_there =
    let test_parts = and_parts (visit_fits config visit) _ field_there in
    let low = object_inside config visit test_parts.0 in
    let high = heap_there config (visit.address + 2 + refs_in visit.shape) (and_parts _ _ (and_parts (walk_fits config visit.walk) _ test_parts.0).1).1 in
    let field_below : field < refs_in visit.shape = ltb-true _ _ test_parts.1 in (omega (arith, low.0), omega (arith, high.1, field_below))

-- each access of updating is of a word of the table
pub updating_inside : (config : Config) (spot : UpdateSpot) → is_ready config spot ≡ true → IsWord config (touch_at config spot).word
updating_inside config LoadClaim ready = tt
updating_inside config (ClaimUnit unit) ready = tt
updating_inside config (LoadLimit region) ready = ltb-true _ _ ready
updating_inside config (LoadTams region limit) ready = ltb-true _ _ (and_parts _ _ ready).0
updating_inside config (LoadFirst walk address) ready = heap_there config address (and_parts (walk_fits config walk) _ ready).1
updating_inside config (LoadShape walk address) ready = heap_there config (address + 1) (and_parts _ _ (and_parts (walk_fits config walk) _ ready).1).1
updating_inside config (LoadBlack visit) ready = word_inside config visit.address (object_inside config visit ready)
updating_inside config (LoadField visit field) ready = field_inside config visit field ready
updating_inside config (LoadHeader visit field found) ready = heap_there config found (and_parts (has_field config visit field) _ ready).1
updating_inside config (ExchangeField visit field found copy) ready = field_inside config visit field ready
updating_inside config (Ended unit) ready = tt

-- and of words of the image alone
pub updating_image : (config : Config) (spot : UpdateSpot) → is_image (touch_at config spot).word ≡ true
updating_image config LoadClaim = refl
updating_image config (ClaimUnit unit) = refl
updating_image config (LoadLimit region) = refl
updating_image config (LoadTams region limit) = refl
updating_image config (LoadFirst walk address) = refl
updating_image config (LoadShape walk address) = refl
updating_image config (LoadBlack visit) = refl
updating_image config (LoadField visit field) = refl
updating_image config (LoadHeader visit field found) = refl
updating_image config (ExchangeField visit field found copy) = refl
updating_image config (Ended unit) = refl
