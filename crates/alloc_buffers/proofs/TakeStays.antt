-- What a machine counts on while it takes room stays true while another machine makes a step.
use Rattle.std.proofs.Common.{ℕ, ◌+◌, ◌<◌, inl, inr, ⊎_elim, sym, ap, ◌∙◌, refl, subst}
use Rattle.heap_words.specs.declared.config.Config.{Config}
use Rattle.heap_words.specs.Encoding.{next_in, end_in}
use Rattle.heap_world.specs.World.{World, hand, spare, carved}
use Rattle.heap_world.specs.Rely.{Rely}
use Rattle.alloc_buffers.specs.declared.spot.Taken.TheVariants.{At, NoRoom}
use Rattle.alloc_buffers.specs.declared.spot.TakeSpot.{TakeSpot}
use Rattle.alloc_buffers.specs.declared.spot.TakeSpot.TheVariants.{LoadBuffer, LoadShared, LoadTop, Carve, LoadFree, TakeRegion, ShareRegion, GiveBack, Fill, StoreBuffer, Ended}
use Rattle.alloc_buffers.specs.Rows.{free_words}
use Rattle.alloc_buffers.specs.Facts.{IsSmall, IsTaken, TakeFacts, CanTake}

module _ (config : Config) (world next_world : World) (seat : ℕ) (rely : Rely config seat world next_world) where
  -- a small buffer stays
  small_stays : (words buffer : ℕ) → IsSmall world seat words buffer → IsSmall next_world seat words buffer
  small_stays words buffer small_buffer = record { is = rely.current ∙ small_buffer.is; less = small_buffer.less }

  -- so does a region that the seat has taken
  taken_stays : (region : ℕ) → IsTaken config world seat region → IsTaken config next_world seat region
  taken_stays region region_taken = record { within = region_taken.within; own = rely.owners region region_taken.own; empty = rely.tops region region_taken.own ∙ region_taken.empty }

  -- what holds of the words stays
  pub take_stays : (words : ℕ) (spot : TakeSpot) → TakeFacts config world seat words spot → TakeFacts config next_world seat words spot
  take_stays words LoadBuffer facts = tt
  take_stays words (LoadShared buffer) facts = small_stays words buffer facts
  take_stays words (LoadTop buffer region) facts = (small_stays words buffer facts.0, rely.opens region facts.1)
  take_stays words (Carve buffer region top room) facts = (small_stays words buffer facts.0, rely.opens region facts.1)
  take_stays words (LoadFree buffer shared) facts = small_stays words buffer facts
  take_stays words (TakeRegion buffer shared region) facts = small_stays words buffer facts
  take_stays words (ShareRegion buffer shared region) facts = (small_stays words buffer facts.0, taken_stays region facts.1)
  take_stays words (GiveBack buffer region) facts = (small_stays words buffer facts.0, taken_stays region facts.1)
  take_stays words (Fill buffer address room) facts = record {
    is = rely.current ∙ facts.is;
    some = facts.some;
    left = rely.rooms (next_in buffer) (spare seat (free_words buffer)) facts.left refl;
    here = rely.rooms address (carved seat room) facts.here refl;
    long = facts.long;
  }
  take_stays words (StoreBuffer address room) facts = record {
    here = ⊎_elim (λ has_piece. inl (rely.rooms address (spare seat room) has_piece refl)) (λ has_piece. inr (rely.rooms address (carved seat room) has_piece refl)) facts.here;
    long = facts.long;
  }
  take_stays words (Ended (At address) end) facts = record {
    here = rely.rooms address (hand seat words) facts.here refl;
    next = ap next_in rely.current ∙ facts.next;
    end_is = ap end_in rely.current ∙ facts.end_is;
    ordered = facts.ordered;
    within = facts.within;
  }
  take_stays words (Ended NoRoom end) facts = subst (λ buffer. end_in buffer < next_in buffer + words) (sym rely.current) facts

-- all that it counts on stays
pub can_take_stays : (config : Config) (world next_world : World) (seat words : ℕ) (spot : TakeSpot) → Rely config seat world next_world → CanTake config world seat words spot → CanTake config next_world seat words spot
can_take_stays config world next_world seat words spot rely can_take = record {
  seated = can_take.seated;
  least = can_take.least;
  most = can_take.most;
  ready = can_take.ready;
  facts = take_stays config world next_world seat rely words spot can_take.facts;
  rooms = λ address piece has_piece room. can_take.rooms address piece (rely.no_rooms address piece has_piece room) room;
  records_none = rely.marks.recording ∙ can_take.records_none;
  scans_none = rely.marks.scanning ∙ can_take.scans_none;
}
