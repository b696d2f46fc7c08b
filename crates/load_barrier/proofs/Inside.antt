-- The accesses of a machine that resolves an address, and of one that evacuates a region, are of words of the table, and of the
-- image.
use Rattle.std.proofs.Common.{◌≡◌, ℕ, ◌+◌, ◌*◌, ◌<◌, ◌≤◌, true, refl, arith}
use Rattle.std.specs.Prelude.{nat_le}
use Rattle.std.proofs.lemmas.Bool.{and_parts, ltb-true, leb-true}
use Rattle.heap_words.specs.declared.config.Config.{Config}
use Rattle.heap_words.specs.Ranges.{seat_count}
use Rattle.heap_words.specs.Words.{Heap, IsWord, is_word, is_image}
use Rattle.heap_words.proofs.Stores.{is_word_true}
use Rattle.regions.specs.Place.{region_with}
use Rattle.regions.proofs.PlaceLemmas.{regions_tile}
use Rattle.regions.proofs.MarksApart.{word_inside}
use Rattle.alloc_buffers.specs.Rows as takes
use Rattle.alloc_buffers.proofs.Accesses.{in_image}
use Rattle.load_barrier.specs.declared.copying.CopySpot.{CopySpot}
use Rattle.load_barrier.specs.declared.copying.CopySpot.TheVariants.{LoadWord, StoreWord, StoreHeader, Publish, GiveBack}
use Rattle.load_barrier.specs.declared.spot.ResolveSpot.{ResolveSpot}
use Rattle.load_barrier.specs.declared.spot.ResolveSpot.TheVariants.{LoadHeader, Entering, LoadShape, Taking, Copying, Leaving, Stopping, LoadAgain, Resolved}
use Rattle.load_barrier.specs.Rows as resolves
use Rattle.load_barrier.specs.Fit.{has_words, is_word_count, is_object, copy_ready, is_busy}
use Rattle.load_barrier.specs.Fit as resolve
use Rattle.load_barrier.specs.declared.evac_spot.EvacSpot.{EvacSpot}
use Rattle.load_barrier.specs.declared.evac_spot.EvacSpot.TheVariants as evac
use Rattle.load_barrier.specs.UnitRows as evacs
use Rattle.load_barrier.specs.UnitFit.{is_ready}

-- of words from an address on that lie in the heap each does
words_inside : (config : Config) (address words index : ℕ) → has_words config address words ≡ true → index < words → IsWord config (Heap (address + index))
words_inside config address words index words_fit index_below =
    let bounds = and_parts (nat_le config.region_words address) (nat_le (address + words) ((config.regions + 1) * config.region_words)) words_fit in
    let heap_address : config.region_words ≤ address = leb-true _ _ bounds.0 in
    let words_below : address + words ≤ (config.regions + 1) * config.region_words = leb-true _ _ bounds.1 in (omega (arith, heap_address), omega (arith, words_below, index_below))

heap_there : (config : Config) (address : ℕ) → is_word config (Heap address) ≡ true → IsWord config (Heap address)
heap_there config address passes = is_word_true config (Heap address) passes

copy_inside : (config : Config) (seat address copy end : ℕ) (spot : CopySpot) → seat < seat_count config.mutators config.helpers → is_word config (Heap address) ≡ true → copy_ready config address copy spot ≡ true → IsWord config (resolves.copy_touch seat address copy end spot).word
copy_inside config seat address copy end (LoadWord words index) seated address_there copy_is_ready =
    let object = and_parts _ _ copy_is_ready in
    words_inside config address words index (and_parts _ _ object.0).1 (ltb-true _ _ (and_parts _ _ object.1).1)
copy_inside config seat address copy end (StoreWord words index found) seated address_there copy_is_ready =
    let room = and_parts _ _ (and_parts _ _ copy_is_ready).1 in
    words_inside config copy words index room.0 (ltb-true _ _ room.1)
copy_inside config seat address copy end StoreHeader seated address_there copy_is_ready = heap_there config copy copy_is_ready
copy_inside config seat address copy end Publish seated address_there copy_is_ready = heap_there config address address_there
copy_inside config seat address copy end (GiveBack answer) seated address_there copy_is_ready = seated

-- where the address is one of the heap, each access of its resolving is of a word of the table
pub resolve_inside : (config : Config) (seat address : ℕ) (spot : ResolveSpot) → seat < seat_count config.mutators config.helpers → is_word config (Heap address) ≡ true → resolve.is_ready config seat address spot ≡ true → IsWord config (resolves.touch_at config seat address spot).word
resolve_inside config seat address LoadHeader seated address_there spot_ready = heap_there config address address_there
resolve_inside config seat address (Entering spot) seated address_there spot_ready = tt
resolve_inside config seat address LoadShape seated address_there spot_ready = heap_there config (address + 1) spot_ready
resolve_inside config seat address (Taking words spot) seated address_there spot_ready =
    is_word_true config (takes.touch_at seat words spot).word (and_parts _ _ (and_parts _ _ (and_parts _ _ (and_parts _ _ spot_ready).1).1).0).0
resolve_inside config seat address (Copying copy end spot) seated address_there spot_ready = copy_inside config seat address copy end spot seated address_there (and_parts _ _ spot_ready).0
resolve_inside config seat address (Leaving answer) seated address_there spot_ready = tt
resolve_inside config seat address (Stopping spot) seated address_there spot_ready = tt
resolve_inside config seat address LoadAgain seated address_there spot_ready = heap_there config address address_there
resolve_inside config seat address (Resolved answer) seated address_there spot_ready = heap_there config address address_there

-- and so is each access of an evacuation
pub evacuation_inside : (config : Config) (seat : ℕ) (spot : EvacSpot) → seat < seat_count config.mutators config.helpers → is_ready config seat spot ≡ true → IsWord config (evacs.touch_at config seat spot).word
evacuation_inside config seat evac.LoadClaim seated spot_ready = tt
evacuation_inside config seat (evac.ClaimUnit unit) seated spot_ready = tt
evacuation_inside config seat (evac.LoadTop region) seated spot_ready = ltb-true _ _ spot_ready
evacuation_inside config seat (evac.LoadFirst address end) seated spot_ready = heap_there config address spot_ready
evacuation_inside config seat (evac.LoadShape address end) seated spot_ready = heap_there config (address + 1) (and_parts _ _ spot_ready).1
evacuation_inside config seat (evac.LoadMark address end next) seated spot_ready = word_inside config address (heap_there config address (and_parts _ _ (and_parts _ _ spot_ready).0).0)
evacuation_inside config seat (evac.Resolving address end next spot) seated spot_ready =
    let ready_parts = and_parts _ _ spot_ready in
    resolve_inside config seat address spot seated (and_parts _ _ ready_parts.0).0 (and_parts _ _ (and_parts _ _ ready_parts.1).1).0
evacuation_inside config seat (evac.Ended unit) seated spot_ready = tt

copy_image : (seat address copy end : ℕ) (spot : CopySpot) → is_image (resolves.copy_touch seat address copy end spot).word ≡ true
copy_image seat address copy end (LoadWord words index) = refl
copy_image seat address copy end (StoreWord words index found) = refl
copy_image seat address copy end StoreHeader = refl
copy_image seat address copy end Publish = refl
copy_image seat address copy end (GiveBack answer) = refl

-- a resolving accesses words of the image alone
pub resolve_image : (config : Config) (seat address : ℕ) (spot : ResolveSpot) → is_image (resolves.touch_at config seat address spot).word ≡ true
resolve_image config seat address LoadHeader = refl
resolve_image config seat address (Entering spot) = refl
resolve_image config seat address LoadShape = refl
resolve_image config seat address (Taking words spot) = in_image seat words spot
resolve_image config seat address (Copying copy end spot) = copy_image seat address copy end spot
resolve_image config seat address (Leaving answer) = refl
resolve_image config seat address (Stopping spot) = refl
resolve_image config seat address LoadAgain = refl
resolve_image config seat address (Resolved answer) = refl

-- and so does an evacuation
pub evacuation_image : (config : Config) (seat : ℕ) (spot : EvacSpot) → is_image (evacs.touch_at config seat spot).word ≡ true
evacuation_image config seat evac.LoadClaim = refl
evacuation_image config seat (evac.ClaimUnit unit) = refl
evacuation_image config seat (evac.LoadTop region) = refl
evacuation_image config seat (evac.LoadFirst address end) = refl
evacuation_image config seat (evac.LoadShape address end) = refl
evacuation_image config seat (evac.LoadMark address end next) = refl
evacuation_image config seat (evac.Resolving address end next spot) = resolve_image config seat address spot
evacuation_image config seat (evac.Ended unit) = refl
