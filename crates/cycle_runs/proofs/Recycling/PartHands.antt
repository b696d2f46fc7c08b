-- What machines have in hand that resolve, record, scan, evacuate or update lies in no region that is free.
use Rattle.std.proofs.Common.{◌≡◌, ℕ, ◌<◌, ◌⊎◌, ⊎_elim, Some, sym, ap, ◌∙◌, subst, arith}
use Rattle.heap_words.specs.declared.config.Config.{Config}
use Rattle.heap_words.specs.Words.{Free}
use Rattle.regions.specs.Place.{region_with}
use Rattle.regions.specs.Sets.{IsIn}
use Rattle.regions.specs.Marks.{address_at}
use Rattle.satb_barrier.specs.declared.spot.RememberSpot.{RememberSpot}
use Rattle.satb_barrier.specs.declared.spot.RememberSpot.TheVariants as remember
use Rattle.unit_part.specs.declared.scan_spot.ScanSpot.{ScanSpot}
use Rattle.unit_part.specs.declared.scan_spot.ScanSpot.TheVariants as scan
use Rattle.load_barrier.specs.declared.copying.CopySpot.{CopySpot}
use Rattle.load_barrier.specs.declared.copying.CopySpot.TheVariants.{LoadWord, StoreWord, StoreHeader, Publish, GiveBack}
use Rattle.load_barrier.specs.declared.spot.ResolveSpot.{ResolveSpot}
use Rattle.load_barrier.specs.declared.spot.ResolveSpot.TheVariants.{LoadHeader, Entering, LoadShape, Taking, Copying, Leaving, Stopping, LoadAgain, Resolved}
use Rattle.load_barrier.specs.declared.evac_spot.EvacSpot.{EvacSpot}
use Rattle.load_barrier.specs.declared.evac_spot.EvacSpot.TheVariants as evac
use Rattle.unit_part.specs.declared.update_spot.UpdateSpot.{UpdateSpot}
use Rattle.unit_part.specs.declared.update_spot.UpdateSpot.TheVariants as update
use Rattle.heap_words.specs.Encoding.{next_in}
use Rattle.alloc_buffers.specs.declared.spot.TakeSpot.{TakeSpot}
use Rattle.alloc_buffers.specs.declared.spot.TakeSpot.TheVariants as take
use Rattle.alloc_buffers.specs.Rows.{free_words}
use Rattle.alloc_buffers.specs.Facts.{TakeFacts}
use Rattle.heap_world.specs.World.{World, thing, moved, hand, dead, filler, spare, carved, Body, body_words, IsMarkable, Shared}
use Rattle.cycle_steps.specs.Resolving.Facts.{HasMovedTo, CopyFacts, CanResolve}
use Rattle.cycle_steps.specs.Evacuation.Facts.{IsMeasured, CanEvacuate}
use Rattle.cycle_steps.proofs.Evacuation.Walks.{placed}
use Rattle.cycle_steps.specs.Recording.{CanRecord}
use Rattle.cycle_steps.specs.Scanning.{CanScan}
use Rattle.cycle_steps.specs.Updating.Following.{CanFollow}
use Rattle.cycle_steps.specs.Updating.Facts.{IsPiece, HasShape, CanUpdate}
use Rattle.cycle_runs.specs.Recycling.InHand.{IsTakeHand, IsCopyHand, IsResolveHand, IsRememberHand, IsScanHand, IsEvacHand, IsUpdateHand}
use Rattle.cycle_runs.proofs.Recycling.Free.{IsElsewhere, piece_elsewhere, body_elsewhere, copy_elsewhere, markable_elsewhere}

module _ (config : Config) (world : World) (shared : Shared config world) (region : ℕ) (region_below : region < config.regions) (region_free : IsIn (world.memory Free) region) where
  -- an address does not lie there
  abbrev IsApart : ℕ → Type 0
  IsApart address = IsElsewhere config world shared region region_below region_free address

  -- what is the same as such an address
  pub same_apart : (address second_address : ℕ) → IsApart second_address → address ≡ second_address → IsApart address
  same_apart address second_address second_apart same_address = subst IsApart (sym same_address) second_apart

  -- one of two such
  pub either_apart : (address first_address second_address : ℕ) → IsApart first_address → IsApart second_address → (address ≡ first_address) ⊎ (address ≡ second_address) → IsApart address
  either_apart address first_address second_address first_apart second_apart which_address = ⊎_elim (λ (same_address : address ≡ first_address). same_apart address first_address first_apart same_address) (λ (same_address : address ≡ second_address). same_apart address second_address second_apart same_address) which_address

  -- room in hand, and the current copy of an object that has moved
  room_apart : (address seat words : ℕ) → world.block address ≡ Some (hand seat words) → IsApart address
  room_apart address seat words room_there = piece_elsewhere config world shared region region_below region_free address (hand seat words) room_there

  moved_apart : (address copy_address : ℕ) (body : Body) → HasMovedTo world address body copy_address → IsApart copy_address
  moved_apart address copy_address body moved_there = piece_elsewhere config world shared region region_below region_free copy_address (thing body.name body.refs body.nums) (shared.evacuated.moved.moveds address body.refs body.nums copy_address body.name moved_there).copy

  -- of who takes room
  pub take_hand : (seat words : ℕ) (spot : TakeSpot) → TakeFacts config world seat words spot → (asked_address : ℕ) → IsTakeHand spot asked_address → IsApart asked_address
  take_hand seat words (take.Fill buffer address room) facts asked_address in_hand =
      either_apart asked_address address (next_in buffer) (piece_elsewhere config world shared region region_below region_free address (carved seat room) facts.here)
      (piece_elsewhere config world shared region region_below region_free (next_in buffer) (spare seat (free_words buffer)) facts.left) in_hand
  take_hand seat words (take.StoreBuffer address room) facts asked_address in_hand = same_apart asked_address address (⊎_elim
      (λ spares. piece_elsewhere config world shared region region_below region_free address (spare seat room) spares)
      (λ cuts. piece_elsewhere config world shared region region_below region_free address (carved seat room) cuts)
      facts.here) in_hand
  take_hand seat words _ facts asked_address in_hand = absurd in_hand

  -- of who copies
  copy_hand : (seat address copy end : ℕ) (body : Body) (spot : CopySpot) → CopyFacts config world seat address copy end body spot → (asked_address : ℕ) → IsCopyHand copy spot asked_address → IsApart asked_address
  copy_hand seat address copy end body (LoadWord words index) facts asked_address in_hand = same_apart asked_address copy (room_apart copy seat (body_words body) facts.3.taken.here) in_hand
  copy_hand seat address copy end body (StoreWord words index found) facts asked_address in_hand = same_apart asked_address copy (room_apart copy seat (body_words body) facts.3.taken.here) in_hand
  copy_hand seat address copy end body StoreHeader facts asked_address in_hand = same_apart asked_address copy (room_apart copy seat (body_words body) facts.taken.here) in_hand
  copy_hand seat address copy end body Publish facts asked_address in_hand = same_apart asked_address copy (room_apart copy seat (body_words body) facts.0.taken.here) in_hand
  copy_hand seat address copy end body (GiveBack answer) facts asked_address in_hand = either_apart asked_address copy answer (room_apart copy seat (body_words body) facts.0.here) (moved_apart address answer body facts.1) in_hand

  -- of who resolves an address while objects are evacuated
  pub resolve_hand : (seat address : ℕ) (spot : ResolveSpot) → CanResolve config world seat address spot → (asked_address : ℕ) → IsResolveHand address spot asked_address → IsApart asked_address
  resolve_hand seat address (Copying copy end spot) can_resolve asked_address in_hand = ⊎_elim
      (λ (same_address : asked_address ≡ address). same_apart asked_address address (copy_elsewhere config world shared region region_below region_free address can_resolve.there) same_address)
      (λ (hand_is : IsCopyHand copy spot asked_address). copy_hand seat address copy end can_resolve.facts.0 spot can_resolve.facts.2 asked_address hand_is)
      in_hand
  resolve_hand seat address (Leaving answer) can_resolve asked_address in_hand =
      either_apart asked_address address answer (copy_elsewhere config world shared region region_below region_free address can_resolve.there) (moved_apart address answer can_resolve.facts.0 can_resolve.facts.2) in_hand
  resolve_hand seat address LoadHeader can_resolve asked_address in_hand = same_apart asked_address address (copy_elsewhere config world shared region region_below region_free address can_resolve.there) in_hand
  resolve_hand seat address (Entering spot) can_resolve asked_address in_hand = same_apart asked_address address (copy_elsewhere config world shared region region_below region_free address can_resolve.there) in_hand
  resolve_hand seat address LoadShape can_resolve asked_address in_hand = same_apart asked_address address (copy_elsewhere config world shared region region_below region_free address can_resolve.there) in_hand
  resolve_hand seat address (Taking words spot) can_resolve asked_address in_hand = ⊎_elim
      (λ (same_address : asked_address ≡ address). same_apart asked_address address (copy_elsewhere config world shared region region_below region_free address can_resolve.there) same_address)
      (λ (hand_is : IsTakeHand spot asked_address). take_hand seat words spot can_resolve.facts.2.1.facts asked_address hand_is)
      in_hand
  resolve_hand seat address (Stopping spot) can_resolve asked_address in_hand = same_apart asked_address address (copy_elsewhere config world shared region region_below region_free address can_resolve.there) in_hand
  resolve_hand seat address LoadAgain can_resolve asked_address in_hand = same_apart asked_address address (copy_elsewhere config world shared region region_below region_free address can_resolve.there) in_hand
  resolve_hand seat address (Resolved answer) can_resolve asked_address in_hand = same_apart asked_address address (copy_elsewhere config world shared region region_below region_free address can_resolve.there) in_hand

  -- and while references are updated
  pub follow_hand : (seat address : ℕ) (spot : ResolveSpot) → CanFollow config world seat address spot → (asked_address : ℕ) → IsResolveHand address spot asked_address → IsApart asked_address
  follow_hand seat address LoadHeader can_follow asked_address in_hand = same_apart asked_address address (body_elsewhere config world shared region region_below region_free address can_follow.body can_follow.there) in_hand
  follow_hand seat address (Resolved answer) can_follow asked_address in_hand = same_apart asked_address address (body_elsewhere config world shared region region_below region_free address can_follow.body can_follow.there) in_hand
  follow_hand seat address (Entering spot) can_follow asked_address in_hand = absurd can_follow.facts
  follow_hand seat address LoadShape can_follow asked_address in_hand = absurd can_follow.facts
  follow_hand seat address (Taking words spot) can_follow asked_address in_hand = absurd can_follow.facts
  follow_hand seat address (Copying copy end spot) can_follow asked_address in_hand = absurd can_follow.facts
  follow_hand seat address (Leaving answer) can_follow asked_address in_hand = absurd can_follow.facts
  follow_hand seat address (Stopping spot) can_follow asked_address in_hand = absurd can_follow.facts
  follow_hand seat address LoadAgain can_follow asked_address in_hand = absurd can_follow.facts

  -- of who records an address
  pub remember_hand : (mutator address : ℕ) (spot : RememberSpot) → CanRecord config world mutator address spot → (asked_address : ℕ) → IsRememberHand address spot asked_address → IsApart asked_address
  remember_hand mutator address (remember.MarkEntry entry found) can_record asked_address in_hand =
      let buffer_full = can_record.words.facts.0 in
      let entry_below = can_record.words.facts.1 in
      let object : IsMarkable world.block found = subst (λ address. IsMarkable world.block address) can_record.words.facts.3 ((shared.marked.marking can_record.phase).entries.of_objects mutator entry can_record.seated (omega (arith, buffer_full, entry_below))) in
      either_apart asked_address address found (markable_elsewhere config world shared region region_below region_free address can_record.markable) (markable_elsewhere config world shared region region_below region_free found object) in_hand
  remember_hand mutator address remember.LoadCount can_record asked_address in_hand = same_apart asked_address address (markable_elsewhere config world shared region region_below region_free address can_record.markable) in_hand
  remember_hand mutator address (remember.LoadEntry entry) can_record asked_address in_hand = same_apart asked_address address (markable_elsewhere config world shared region region_below region_free address can_record.markable) in_hand
  remember_hand mutator address remember.ClearCount can_record asked_address in_hand = same_apart asked_address address (markable_elsewhere config world shared region region_below region_free address can_record.markable) in_hand
  remember_hand mutator address (remember.StoreEntry entry) can_record asked_address in_hand = same_apart asked_address address (markable_elsewhere config world shared region region_below region_free address can_record.markable) in_hand
  remember_hand mutator address (remember.StoreCount entry) can_record asked_address in_hand = same_apart asked_address address (markable_elsewhere config world shared region region_below region_free address can_record.markable) in_hand
  remember_hand mutator address remember.Recorded can_record asked_address in_hand = same_apart asked_address address (markable_elsewhere config world shared region region_below region_free address can_record.markable) in_hand

  -- of who scans
  pub scan_hand : (seat : ℕ) (spot : ScanSpot) → CanScan config world seat spot → (asked_address : ℕ) → IsScanHand config spot asked_address → IsApart asked_address
  scan_hand seat (scan.LoadBlack word grey) can_scan asked_address in_hand = same_apart asked_address (address_at config word in_hand.0) (markable_elsewhere config world shared region region_below region_free (address_at config word in_hand.0) (can_scan.facts.of_objects in_hand.0 in_hand.1 in_hand.2)) in_hand.3
  scan_hand seat (scan.SetBlack address) can_scan asked_address in_hand = same_apart asked_address address (markable_elsewhere config world shared region region_below region_free address can_scan.facts) in_hand
  scan_hand seat (scan.LoadShape address) can_scan asked_address in_hand = same_apart asked_address address (markable_elsewhere config world shared region region_below region_free address can_scan.facts) in_hand
  scan_hand seat (scan.LoadField address field refs) can_scan asked_address in_hand = same_apart asked_address address (markable_elsewhere config world shared region region_below region_free address can_scan.facts.object) in_hand
  scan_hand seat (scan.SetGrey address field refs found) can_scan asked_address in_hand =
      either_apart asked_address address found (markable_elsewhere config world shared region region_below region_free address can_scan.facts.0.object) (markable_elsewhere config world shared region region_below region_free found can_scan.facts.1) in_hand
  scan_hand seat _ can_scan asked_address in_hand = absurd in_hand

  -- the piece behind one of a walk
  next_apart : (address end next_address asked_address : ℕ) → IsMeasured config world address end next_address → (next_address < end) × (asked_address ≡ next_address) → IsApart asked_address
  next_apart address end next_address asked_address measured is_behind =
      let walked_to = measured.at in
      let next_is = measured.next_is in
      let end_is = walked_to.end_is in
      let before_end = is_behind.0 in
      let piece_within = (placed config world shared address walked_to.piece walked_to.there).within in
      let piece = shared.parsable.filled.next (region_with config address) address walked_to.piece piece_within walked_to.from_base walked_to.there (omega (arith, before_end, next_is, end_is)) in
      same_apart asked_address next_address (piece_elsewhere config world shared region region_below region_free next_address piece.0 (ap world.block next_is ∙ piece.1)) is_behind.1

  -- of who evacuates
  pub evac_hand : (seat cset : ℕ) (spot : EvacSpot) → CanEvacuate config world seat cset spot → (asked_address : ℕ) → IsEvacHand spot asked_address → IsApart asked_address
  evac_hand seat cset (evac.LoadFirst address end) can_evacuate asked_address in_hand = same_apart asked_address address (piece_elsewhere config world shared region region_below region_free address can_evacuate.facts.1.piece can_evacuate.facts.1.there) in_hand
  evac_hand seat cset (evac.LoadShape address end) can_evacuate asked_address in_hand = same_apart asked_address address (piece_elsewhere config world shared region region_below region_free address can_evacuate.facts.1.at.piece can_evacuate.facts.1.at.there) in_hand
  evac_hand seat cset (evac.LoadMark address end next_address) can_evacuate asked_address in_hand = ⊎_elim
      (λ (same_address : asked_address ≡ address). same_apart asked_address address (piece_elsewhere config world shared region region_below region_free address can_evacuate.facts.1.at.piece can_evacuate.facts.1.at.there) same_address)
      (λ (is_behind : (next_address < end) × (asked_address ≡ next_address)). next_apart address end next_address asked_address can_evacuate.facts.1 is_behind)
      in_hand
  evac_hand seat cset (evac.Resolving address end next_address spot) can_evacuate asked_address in_hand = ⊎_elim
      (λ (resolves : IsResolveHand address spot asked_address). resolve_hand seat address spot can_evacuate.facts.1 asked_address resolves)
      (λ (is_behind : (next_address < end) × (asked_address ≡ next_address)). next_apart address end next_address asked_address can_evacuate.facts.2 is_behind)
      in_hand
  evac_hand seat cset _ can_evacuate asked_address in_hand = absurd in_hand

  -- the piece to which a walk of updating has come
  walked_apart : (address : ℕ) → IsPiece world address → IsApart address
  walked_apart address piece_there = ⊎_elim
      (λ (object : IsMarkable world.block address). markable_elsewhere config world shared region region_below region_free address object)
      (λ (fills : (words : ℕ) × (world.block address ≡ Some (dead words))). piece_elsewhere config world shared region region_below region_free address (dead fills.0) fills.1)
      piece_there

  shaped_apart : (address shape : ℕ) → HasShape world address shape → IsApart address
  shaped_apart address shape shape_there = ⊎_elim
      (λ object. markable_elsewhere config world shared region region_below region_free address object.0)
      (λ fills. piece_elsewhere config world shared region region_below region_free address (dead fills.0) fills.1)
      shape_there

  -- of who updates references
  pub update_hand : (seat cset : ℕ) (spot : UpdateSpot) → CanUpdate config world seat cset spot → (asked_address : ℕ) → IsUpdateHand spot asked_address → IsApart asked_address
  update_hand seat cset (update.LoadFirst walk address) can_update asked_address in_hand = same_apart asked_address address (⊎_elim
      (λ (is_piece : IsPiece world address). walked_apart address is_piece)
      (λ fills. piece_elsewhere config world shared region region_below region_free address (filler fills.0) fills.1)
      can_update.facts.1) in_hand
  update_hand seat cset (update.LoadShape walk address) can_update asked_address in_hand = same_apart asked_address address (walked_apart address can_update.facts.1) in_hand
  update_hand seat cset (update.LoadBlack place) can_update asked_address in_hand = same_apart asked_address place.address (shaped_apart place.address place.shape can_update.facts.1) in_hand
  update_hand seat cset (update.LoadField place field) can_update asked_address in_hand = same_apart asked_address place.address (markable_elsewhere config world shared region region_below region_free place.address can_update.facts.alive) in_hand
  update_hand seat cset (update.LoadHeader place field found) can_update asked_address in_hand =
      let old = can_update.facts.1.1 in
      either_apart asked_address place.address found (markable_elsewhere config world shared region region_below region_free place.address can_update.facts.0.alive)
      (piece_elsewhere config world shared region region_below region_free found (moved old.name old.refs old.nums can_update.facts.1.0) old.old) in_hand
  update_hand seat cset (update.ExchangeField place field found copy) can_update asked_address in_hand =
      let old = can_update.facts.1 in
      ⊎_elim
      (λ (same_address : asked_address ≡ place.address). same_apart asked_address place.address (markable_elsewhere config world shared region region_below region_free place.address can_update.facts.0.alive) same_address)
      (λ (found_or_copy : (asked_address ≡ found) ⊎ (asked_address ≡ copy)). either_apart asked_address found copy (piece_elsewhere config world shared region region_below region_free found (moved old.name old.refs old.nums copy) old.old)
      (piece_elsewhere config world shared region region_below region_free copy (thing old.name old.refs old.nums) (shared.evacuated.moved.moveds found old.refs old.nums copy old.name old.old).copy) found_or_copy)
      in_hand
  update_hand seat cset _ can_update asked_address in_hand = absurd in_hand
