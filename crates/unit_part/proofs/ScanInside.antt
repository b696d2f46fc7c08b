-- The accesses of a machine that scans a unit are of words of the table, and of the image.
use Rattle.std.proofs.Common.{◌≡◌, ◌+◌, true, refl, arith}
use Rattle.std.proofs.lemmas.Bool.{and_parts, ltb-true}
use Rattle.std.proofs.lemmas.Bool.Decides.{nat_tests}
use Rattle.heap_words.specs.declared.config.Config.{Config}
use Rattle.heap_words.specs.Words.{Heap, IsWord, is_word, is_image}
use Rattle.regions.proofs.MarksApart.{word_inside}
use Rattle.unit_part.specs.declared.scan_spot.ScanSpot.{ScanSpot}
use Rattle.unit_part.specs.declared.scan_spot.ScanSpot.TheVariants.{LoadClaim, ClaimUnit, LoadGrey, LoadBlack, SetBlack, LoadShape, LoadField, SetGrey, Ended}
use Rattle.unit_part.specs.ScanRows.{touch_at, is_ready}

-- each access of a scan is of a word of the table
pub scan_inside : (config : Config) (spot : ScanSpot) → is_ready config spot ≡ true → IsWord config (touch_at config spot).word
scan_inside config LoadClaim ready = tt
scan_inside config (ClaimUnit unit) ready = tt
scan_inside config (LoadGrey word) ready = ltb-true _ _ ready
scan_inside config (LoadBlack word grey) ready = ltb-true _ _ ready
scan_inside config (SetBlack address) ready = let heap : IsWord config (Heap address) = grind (arith, nat_tests, ready) in word_inside config address heap
scan_inside config (LoadShape address) ready = let address_there = (and_parts (is_word config (Heap address)) (is_word config (Heap (address + 1))) ready).1 in grind (arith, nat_tests, address_there)
scan_inside config (LoadField address field refs) ready = grind (arith, nat_tests, ready)
scan_inside config (SetGrey address field refs found) ready = let heap : IsWord config (Heap found) = grind (arith, nat_tests, ready) in word_inside config found heap
scan_inside config (Ended unit) ready = tt

-- and of words of the image alone
pub scan_image : (config : Config) (spot : ScanSpot) → is_image (touch_at config spot).word ≡ true
scan_image config LoadClaim = refl
scan_image config (ClaimUnit unit) = refl
scan_image config (LoadGrey word) = refl
scan_image config (LoadBlack word grey) = refl
scan_image config (SetBlack address) = refl
scan_image config (LoadShape address) = refl
scan_image config (LoadField address field refs) = refl
scan_image config (SetGrey address field refs found) = refl
scan_image config (Ended unit) = refl
