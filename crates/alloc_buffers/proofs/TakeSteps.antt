-- What the steps that take room have in common.
use Rattle.std.proofs.Common.{◌≡◌, ◌≢◌, ℕ, ◌+◌, ◌*◌, ◌^◌, ◌<◌, ◌≤◌, true, false, Some, ⊎_elim, refl, sym, ap, ◌∙◌, subst, arith}
use Rattle.std.specs.Prelude.{◌==◌}
use Rattle.std.proofs.lemmas.Option.{same_Some}
use Rattle.std.proofs.lemmas.Bool.{cases_eq, and_from, cond-false, lt-ltb, le-leb}
use Rattle.std.proofs.Math.Nat.{mul-le-mul_right}
use Rattle.heap_words.specs.declared.config.Config.{Config}
use Rattle.heap_words.specs.Ranges.{seat_count}
use Rattle.heap_words.specs.Encoding.{next_in, end_in, buffer_word}
use Rattle.heap_words.specs.Words.{Word, Top, Current, write}
use Rattle.heap_words.specs.Touch.{touch, exchanges, touched}
use Rattle.regions.specs.Place.{base_of}
use Rattle.heap_world.specs.World.{World, Block, spare, carved, room_of, words_of, Plot, IsPlotted, Shared}
use Rattle.heap_world.specs.Part.{PartStep, SameWork}
use Rattle.heap_world.proofs.Keeping.{load_keeps, rely_same, keeps_of}
use Rattle.heap_world.proofs.Retiled.{IsStretch}
use Rattle.alloc_buffers.specs.declared.spot.Kind.{Kind}
use Rattle.alloc_buffers.specs.declared.spot.TakeSpot.{TakeSpot}
use Rattle.alloc_buffers.specs.declared.spot.TakeSpot.TheVariants.{StoreBuffer}
use Rattle.alloc_buffers.specs.Rows.{touch_at, next_at, free_words, is_ready}
use Rattle.alloc_buffers.specs.Facts.{TakeFacts, IsSpare, IsRoomAt, CanTake}

-- what a step of a taking of room owes: whether the seat copies, and on what it works, stays as it is
abbrev pub TakeStep : Config → World → ℕ → ℕ → Kind → TakeSpot → Type 0
TakeStep config world seat words kind spot =
    PartStep config world seat (touch_at seat words spot) (λ next_world. CanTake config next_world seat words (next_at config words kind spot (world.memory (touch_at seat words spot).word)) × SameWork world next_world seat)

-- an exchange from another word than the one that stands there changes nothing
pub exchange_lost : (memory : Word → ℕ) (word : Word) (expect value : ℕ) → (memory word == expect) ≡ false → touched memory (touch word (exchanges expect value)) ≡ memory
exchange_lost memory word expect value lost = ap (write memory word) (cond-false (memory word == expect) value (memory word) lost) ∙ sym (load_keeps memory word)

-- free words of a buffer are none that were carved
pub spare_uncarved : (seat piece_words : ℕ) → IsSpare seat (carved seat piece_words) → ⊥
spare_uncarved seat piece_words is_spare = let same_piece = is_spare.1 in cc

-- the end of a region is small
pub region_end_small : (config : Config) (top : ℕ → ℕ) (region end : ℕ) → region < config.regions → top region ≤ config.region_words → end ≤ base_of config region + top region → end < 2 ^ 32
region_end_small config top region end region_below top_most end_below =
    let few_regions = config.in_range.most_regions in
    let region_limit = config.in_range.most_words in
    let rows : (region + 1) * config.region_words ≤ 64 * config.region_words = mul-le-mul_right config.region_words (omega (arith, few_regions, region_below)) in
    omega (arith, rows, region_limit, top_most, end_below)

-- words at an address that lie in the heap can be stored as a buffer
pub store_ready : (config : Config) (seat words address room : ℕ) → seat < seat_count config.mutators config.helpers → words ≤ room → address + room < 2 ^ 32 → is_ready config seat words (StoreBuffer address room) ≡ true
store_ready config seat words address room seated words_fit end_low =
    and_from _ _
    (and_from _ _ (lt-ltb seat (seat_count config.mutators config.helpers) seated) (lt-ltb (buffer_word (address + words) (address + room)) (2 ^ 64) (omega (arith, words_fit, end_low))))
    (and_from _ _ (le-leb words room words_fit) (lt-ltb (address + room) (2 ^ 32) (omega (arith, end_low))))

module _ (config : Config) (top : ℕ → ℕ) (block : Plot) (plotted : IsPlotted config top block) (piece_address : ℕ) (piece : Block) (has_piece : block piece_address ≡ Some piece) (some_words : 1 ≤ words_of piece) where
  -- the words of a piece are a stretch
  pub piece_stretch : IsStretch config top block piece_address (words_of piece)
  piece_stretch =
      let used = plotted.in_use piece_address piece has_piece in
      record {
        region = used.region;
        within = used.within;
        from_base = used.from_base;
        to_top = used.to_top;
        some = some_words;
        first = piece;
        begins = has_piece;
        last_at = piece_address;
        last_from = omega arith;
        last = piece;
        ends = has_piece;
        ends_there = refl;
      }

  -- and no other piece begins there
  pub piece_alone : (address : ℕ) (other_piece : Block) → piece_address ≤ address → address < piece_address + words_of piece → block address ≡ Some other_piece → (address ≡ piece_address) × (piece ≡ other_piece)
  piece_alone address other_piece at_most below_end other_there = ⊎_elim
      (λ (same_address : address ≡ piece_address). (same_address, same_Some piece other_piece (sym has_piece ∙ ap block (sym same_address) ∙ other_there)))
      (λ (different_address : address ≢ piece_address). let pieces_apart = plotted.apart piece_address address piece other_piece has_piece other_there (omega (arith, at_most, different_address)) in absurd (omega (arith, pieces_apart, below_end)))
      (cases_eq address piece_address)

module _ (config : Config) (world : World) (seat words : ℕ) (kind : Kind) where
  -- the tops, and the buffers
  abbrev pub tops : ℕ → ℕ
  tops region = world.memory (Top region)

  abbrev pub buffers : ℕ → ℕ
  buffers seat = world.memory (Current seat)

  -- what it counts on at another spot, in a world with the same seats that record and scan
  pub can_at : (spot next_spot : TakeSpot) (next_world : World) → CanTake config world seat words spot → next_world.ghost.recording ≡ world.ghost.recording → next_world.ghost.scanning ≡ world.ghost.scanning → is_ready config seat words next_spot ≡ true → TakeFacts config next_world seat words next_spot
      → ((address : ℕ) (piece : Block) → next_world.block address ≡ Some piece → room_of piece ≡ Some seat → IsRoomAt seat words next_spot address piece) → CanTake config next_world seat words next_spot
  can_at spot next_spot next_world can_take recording scanning spot_ready facts own_rooms = record {
    seated = can_take.seated;
    least = can_take.least;
    most = can_take.most;
    ready = spot_ready;
    facts = facts;
    rooms = own_rooms;
    records_none = ap (λ f. f seat) recording ∙ can_take.records_none;
    scans_none = ap (λ f. f seat) scanning ∙ can_take.scans_none;
  }

  -- a step that changes no word leads to another spot
  pub looked : (spot next_spot : TakeSpot) → Shared config world → CanTake config world seat words spot → touched world.memory (touch_at seat words spot) ≡ world.memory → next_at config words kind spot (world.memory (touch_at seat words spot).word) ≡ next_spot
      → is_ready config seat words next_spot ≡ true → TakeFacts config world seat words next_spot → ((address : ℕ) (piece : Block) → world.block address ≡ Some piece → room_of piece ≡ Some seat → IsRoomAt seat words next_spot address piece) → TakeStep config world seat words kind spot
  looked spot next_spot shared can_take same_memory leads spot_ready facts own_rooms = record {
    world = world;
    memory = sym same_memory;
    graph = refl;
    shared = shared;
    own = (subst (CanTake config world seat words) (sym leads) (can_at spot next_spot world can_take refl refl spot_ready facts own_rooms), record { copying = refl; working = refl });
    keeps = keeps_of config seat world world (rely_same config seat world);
    others = λ seat differs. rely_same config seat world;
  }

  -- the free words of the seat's buffer, where it has nothing carved
  pub left_of : Shared config world → ((address : ℕ) (piece : Block) → world.block address ≡ Some piece → room_of piece ≡ Some seat → IsSpare seat piece) → next_in (world.memory (Current seat)) < end_in (world.memory (Current seat))
      → world.block (next_in (world.memory (Current seat))) ≡ Some (spare seat (free_words (world.memory (Current seat))))
  left_of shared spare_rooms words_left = ⊎_elim
      (λ spare_there. spare_there)
      (λ has_carved. absurd (spare_uncarved seat has_carved.1 (spare_rooms has_carved.0 (carved seat has_carved.1) has_carved.2 refl)))
      ((shared.owned.buffers.each seat (λ no_buffer. (let next_zero : next_in (world.memory (Current seat)) ≡ 0 = ap next_in no_buffer in let no_end : end_in (world.memory (Current seat)) ≡ 0 = ap end_in no_buffer in omega (arith, next_zero, no_end, words_left)))).free words_left)

  -- a buffer ends low
  pub buffer_small : Shared config world → world.memory (Current seat) ≢ 0 → end_in (world.memory (Current seat)) < 2 ^ 32
  buffer_small shared some_buffer =
      let seat_buffer = shared.owned.buffers.each seat some_buffer in
      region_end_small config tops seat_buffer.region (end_in (world.memory (Current seat))) seat_buffer.within (shared.parsable.plotted.tops seat_buffer.region seat_buffer.within) seat_buffer.to_top

  -- the seat's free words begin where its buffer's word tells
  pub spare_is_next : Shared config world → (address : ℕ) (piece : Block) → world.block address ≡ Some piece → IsSpare seat piece → next_in (world.memory (Current seat)) ≡ address
  spare_is_next shared address piece has_piece is_spare = (shared.owned.buffers.spares address seat is_spare.0 (has_piece ∙ ap (λ any_piece. Some any_piece) is_spare.1)).0
