-- The loads of a taking of room: of the buffer, of the shared region and its top, and of the free word.
use Rattle.std.proofs.Common.{◌≡◌, ◌≢◌, ℕ, ◌+◌, ◌-◌, ◌<◌, ◌≤◌, true, false, inl, ⊎_elim, refl, sym, ap, subst, arith, ◌^◌}
use Rattle.std.specs.Prelude.{◌==◌, nat_le}
use Rattle.std.proofs.lemmas.Bool.{cases_eq, cases_Bool, cond-true, cond-false, eq-eqb, ne_eqb, and_from, and_parts, lt-ltb, le-leb, leb-true, leb-false}
use Rattle.heap_words.specs.declared.config.Config.{Config}
use Rattle.heap_words.specs.Encoding.{next_in, end_in}
use Rattle.heap_words.specs.Words.{Free, Top, Current, Share}
use Rattle.regions.specs.Sets.{lowest_in}
use Rattle.heap_world.specs.World.{World, Shared}
use Rattle.heap_world.proofs.Keeping.{load_keeps}
use Rattle.heap_world.proofs.FreeRegions.{lowest_within}
use Rattle.alloc_buffers.specs.declared.spot.Kind.{Kind}
use Rattle.alloc_buffers.specs.declared.spot.Taken.TheVariants.{NoRoom}
use Rattle.alloc_buffers.specs.declared.spot.TakeSpot.TheVariants.{LoadBuffer, LoadShared, LoadTop, Carve, LoadFree, TakeRegion, StoreBuffer, Ended}
use Rattle.heap_words.specs.Fits.{touch_fits}
use Rattle.alloc_buffers.specs.Rows.{touch_at, has_free, has_room, has_none, carved_words, kept_back, free_words}
use Rattle.alloc_buffers.specs.Facts.{CanTake}
use Rattle.alloc_buffers.proofs.TakeSteps.{TakeStep, looked, left_of, buffer_small, spare_is_next, store_ready}

-- what is carved above a top has the words that are wanted, and lies in the region
pub carved_long : (config : Config) (words top : ℕ) → words ≤ 35 → top + words ≤ config.region_words → (words ≤ carved_words config top) × (top + carved_words config top ≤ config.region_words) × (carved_words config top ≤ 64)
carved_long config words top at_most words_fit = ⊎_elim
    (λ (enough_room : has_room config 64 top ≡ true).
    let carved_count : carved_words config top ≡ 64 = cond-true (has_room config 64 top) 64 (config.region_words - top) enough_room in
    let top_compared : top + 64 ≤ config.region_words = leb-true (top + 64) config.region_words enough_room in
    (omega (arith, carved_count, at_most), omega (arith, carved_count, top_compared), omega (arith, carved_count)))
    (λ (too_small : has_room config 64 top ≡ false).
    let carved_count : carved_words config top ≡ config.region_words - top = cond-false (has_room config 64 top) 64 (config.region_words - top) too_small in
    let top_compared : config.region_words < top + 64 = leb-false (top + 64) config.region_words too_small in
    (omega (arith, carved_count, words_fit), omega (arith, carved_count, words_fit), omega (arith, carved_count, top_compared, words_fit)))
    (cases_Bool (has_room config 64 top))

module _ (config : Config) (world : World) (seat words : ℕ) (kind : Kind) where
  -- the load of the buffer: it has room, or is small
  pub at_load_buffer : Shared config world → CanTake config world seat words LoadBuffer → TakeStep config world seat words kind LoadBuffer
  at_load_buffer shared can_take =
      let got : ℕ = world.memory (Current seat) in
      let least_words = can_take.least in
      ⊎_elim
      (λ (room_found : has_free words (world.memory (Current seat)) ≡ true).
      let words_fit : next_in (world.memory (Current seat)) + words ≤ end_in (world.memory (Current seat)) = leb-true _ _ room_found in
      let some_buffer : world.memory (Current seat) ≢ 0 = λ no_buffer. (let no_end : end_in (world.memory (Current seat)) ≡ 0 = ap end_in no_buffer in omega (arith, no_end, words_fit, least_words)) in
      let left_there = left_of config world seat words kind shared can_take.rooms (omega (arith, words_fit, least_words)) in
      let small_buffer = buffer_small config world seat words kind shared some_buffer in
      looked config world seat words kind LoadBuffer (StoreBuffer (next_in got) (free_words got)) shared can_take (sym (load_keeps world.memory (Current seat)))
      (cond-true (has_free words got) (StoreBuffer (next_in got) (free_words got)) (LoadShared got) room_found)
      (store_ready config seat words (next_in got) (free_words got) can_take.seated (omega (arith, words_fit)) (omega (arith, words_fit, small_buffer)))
      (record { here = inl left_there; long = omega (arith, words_fit) })
      (λ place piece has_piece room_here. sym (spare_is_next config world seat words kind shared place piece has_piece (can_take.rooms place piece has_piece room_here))))
      (λ (too_few : has_free words (world.memory (Current seat)) ≡ false).
      looked config world seat words kind LoadBuffer (LoadShared got) shared can_take (sym (load_keeps world.memory (Current seat)))
      (cond-false (has_free words got) (StoreBuffer (next_in got) (free_words got)) (LoadShared got) too_few) refl
      (record { is = refl; less = leb-false _ _ too_few })
      can_take.rooms)
      (cases_Bool (has_free words (world.memory (Current seat))))

  -- the load of the shared region: there is one, which may be carved, or none
  pub at_load_shared : (buffer : ℕ) → Shared config world → CanTake config world seat words (LoadShared buffer) → TakeStep config world seat words kind (LoadShared buffer)
  at_load_shared buffer shared can_take =
      let got : ℕ = world.memory Share in
      ⊎_elim
      (λ (none_shared : world.memory Share ≡ 0).
      looked config world seat words kind (LoadShared buffer) (LoadFree buffer 0) shared can_take (sym (load_keeps world.memory Share))
      (cond-true (got == 0) (LoadFree buffer 0) (LoadTop buffer (got - 1)) (eq-eqb got 0 none_shared))
      (and_from _ _ refl (le-leb 0 config.regions (omega arith)))
      can_take.facts can_take.rooms)
      (λ (some_shared : world.memory Share ≢ 0).
      let share_number : world.memory Share ≡ (world.memory Share - 1) + 1 = omega (arith, some_shared) in
      let may_carve = shared.owned.shared_one (world.memory Share - 1) share_number in
      looked config world seat words kind (LoadShared buffer) (LoadTop buffer (got - 1)) shared can_take (sym (load_keeps world.memory Share))
      (cond-false (got == 0) (LoadFree buffer 0) (LoadTop buffer (got - 1)) (ne_eqb got 0 some_shared))
      (and_from _ _ (and_from _ _ (lt-ltb _ _ may_carve.within) refl) refl)
      (can_take.facts, may_carve) can_take.rooms)
      (cases_eq (world.memory Share) 0)

  -- the load of its top: there is room to carve, or it looks for a free region
  pub at_load_top : (buffer region : ℕ) → Shared config world → CanTake config world seat words (LoadTop buffer region) → TakeStep config world seat words kind (LoadTop buffer region)
  at_load_top buffer region shared can_take =
      let got : ℕ = world.memory (Top region) in
      let region_below = can_take.facts.1.within in
      ⊎_elim
      (λ (room_found : has_room config words (world.memory (Top region)) ≡ true).
      let words_fit : world.memory (Top region) + words ≤ config.region_words = leb-true _ _ room_found in
      let region_limit = config.in_range.most_words in
      let carves = carved_long config words (world.memory (Top region)) can_take.most words_fit in
      looked config world seat words kind (LoadTop buffer region) (Carve buffer region got (carved_words config got)) shared can_take (sym (load_keeps world.memory (Top region)))
      (cond-true (has_room config words got) (Carve buffer region got (carved_words config got)) (LoadFree buffer (region + 1)) room_found)
      (and_from _ _
      (and_from _ _ (lt-ltb _ _ region_below) (and_from _ _ (lt-ltb got (2 ^ 64) (omega (arith, words_fit, region_limit))) (lt-ltb (got + carved_words config got) (2 ^ 64) (omega (arith, carves.1, region_limit)))))
      (and_from _ _ (le-leb _ _ carves.1) (le-leb _ _ carves.0)))
      can_take.facts can_take.rooms)
      (λ (no_room : has_room config words (world.memory (Top region)) ≡ false).
      looked config world seat words kind (LoadTop buffer region) (LoadFree buffer (region + 1)) shared can_take (sym (load_keeps world.memory (Top region)))
      (cond-false (has_room config words got) (Carve buffer region got (carved_words config got)) (LoadFree buffer (region + 1)) no_room)
      (and_from _ _ refl (le-leb (region + 1) config.regions (omega (arith, region_below))))
      can_take.facts.0 can_take.rooms)
      (cases_Bool (has_room config words (world.memory (Top region))))

  -- the load of the free word: there is a free region, or there is no room
  pub at_load_free : (buffer shared_word : ℕ) → Shared config world → CanTake config world seat words (LoadFree buffer shared_word) → TakeStep config world seat words kind (LoadFree buffer shared_word)
  at_load_free buffer shared_word shared can_take =
      let got : ℕ = world.memory Free in
      let small_buffer = can_take.facts in
      let shared_known : shared_word ≤ config.regions = leb-true shared_word config.regions (and_parts (touch_fits config (touch_at seat words (LoadFree buffer shared_word))) (nat_le shared_word config.regions) can_take.ready).1 in
      ⊎_elim
      (λ (none_free : has_none config kind (world.memory Free) ≡ true).
      looked config world seat words kind (LoadFree buffer shared_word) (Ended NoRoom 0) shared can_take (sym (load_keeps world.memory Free))
      (cond-true (has_none config kind got) (Ended NoRoom 0) (TakeRegion buffer shared_word (lowest_in got)) none_free) refl
      (subst (λ some_buffer. end_in some_buffer < next_in some_buffer + words) (sym small_buffer.is) small_buffer.less)
      can_take.rooms)
      (λ (some_free : has_none config kind (world.memory Free) ≡ false).
      let lowest_below : lowest_in (world.memory Free) < config.regions = lowest_within config (world.memory Free) (kept_back config kind) shared.owned.free_word.no_more (leb-false _ _ some_free) in
      looked config world seat words kind (LoadFree buffer shared_word) (TakeRegion buffer shared_word (lowest_in got)) shared can_take (sym (load_keeps world.memory Free))
      (cond-false (has_none config kind got) (Ended NoRoom 0) (TakeRegion buffer shared_word (lowest_in got)) some_free)
      (and_from _ _ (lt-ltb _ _ (omega arith)) (and_from _ _ (lt-ltb _ _ lowest_below) (le-leb _ _ shared_known)))
      small_buffer can_take.rooms)
      (cases_Bool (has_none config kind (world.memory Free)))
