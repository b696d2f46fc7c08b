-- What a machine that takes room inside another one knows of its steps, wherever the taking stands.
use Rattle.std.proofs.Common.{◌≡◌, ◌≢◌, ◌↔◌, ℕ, ◌+◌, ◌≤◌, Bool, true, false, Some, refl, sym, ap, ◌∙◌, ⊎_elim, subst, arith}
use Rattle.std.specs.Prelude.{◌==◌, nat_lt, if◌then◌else◌}
use Rattle.std.proofs.lemmas.Bool.{cases_Bool, cases_eq, cond-false, eq-eqb, ne_eqb, false≢true, true≢false}
use Rattle.std.proofs.lemmas.Bool.Decides.{nat_tests}
use Rattle.heap_words.specs.declared.config.Config.{Config}
use Rattle.heap_words.specs.declared.place.Place.{Place}
use Rattle.heap_words.specs.declared.place.Place.TheVariants as place
use Rattle.heap_words.specs.declared.access.Took.TheVariants.{Again}
use Rattle.heap_words.specs.Encoding.{next_in, end_in}
use Rattle.heap_words.specs.Words.{Word, Free, Top, Current, Heap, Share, same_word, is_image}
use Rattle.heap_words.proofs.Stores.{same_word_true}
use Rattle.heap_words.specs.Touch.{touched}
use Rattle.alloc_buffers.specs.declared.spot.Kind.{Kind}
use Rattle.alloc_buffers.specs.declared.spot.TakeSpot.{TakeSpot}
use Rattle.alloc_buffers.specs.declared.spot.TakeSpot.TheVariants.{LoadBuffer, LoadShared, LoadTop, Carve, LoadFree, TakeRegion, ShareRegion, GiveBack, Fill, StoreBuffer, Ended}
use Rattle.regions.specs.Place.{base_of}
use Rattle.heap_world.specs.World.{World, spare}
use Rattle.alloc_buffers.specs.Rows.{place_at, touch_at, next_at, says_at, free_words, carved_at}
use Rattle.alloc_buffers.specs.Facts.{CanTake}
use Rattle.alloc_buffers.specs.Waits.{WaitsAt}

-- the places of a taking
abbrev pub is_taking_place : Place → Bool
is_taking_place place.TC = true
is_taking_place place.TR = true
is_taking_place place.TT = true
is_taking_place place.TX = true
is_taking_place place.TF = true
is_taking_place place.TG = true
is_taking_place place.TV = true
is_taking_place place.TQ = true
is_taking_place place.TZ = true
is_taking_place place.TS = true
is_taking_place _ = false

-- it stands at one of them
its_place : (taking : TakeSpot) → is_taking_place (place_at taking) ≡ true
its_place LoadBuffer = refl
its_place (LoadShared buffer) = refl
its_place (LoadTop buffer region) = refl
its_place (Carve buffer region top room) = refl
its_place (LoadFree buffer shared) = refl
its_place (TakeRegion buffer shared region) = refl
its_place (ShareRegion buffer shared region) = refl
its_place (GiveBack buffer region) = refl
its_place (Fill buffer address room) = refl
its_place (StoreBuffer address room) = refl
its_place (Ended taken end) = refl

-- and at no other place
pub stands_elsewhere : (taking : TakeSpot) (asked_place : Place) → is_taking_place asked_place ≡ false → place_at taking ≡ asked_place → ⊥
stands_elsewhere taking asked_place not_its same_place = false≢true (sym not_its ∙ ap is_taking_place (sym same_place) ∙ its_place taking)

-- the words of which a taking makes accesses: the free word, the shared region, tops, buffers, and words of the heap
abbrev pub is_room_word : Word → Bool
is_room_word Free = true
is_room_word Share = true
is_room_word (Top region) = true
is_room_word (Current seat) = true
is_room_word (Heap address) = true
is_room_word _ = false

-- they are of the image
room_in_image : (word : Word) → is_room_word word ≡ true → is_image word ≡ true
room_in_image Free room_word = refl
room_in_image Share room_word = refl
room_in_image (Top region) room_word = refl
room_in_image (Current seat) room_word = refl
room_in_image (Heap address) room_word = refl
room_in_image _ room_word = absurd (cc (room_word))

-- a word of the heap of which it makes an access is the first one of the free words of the seat's buffer
pub writes_spare : (config : Config) (world : World) (seat words : ℕ) (taking : TakeSpot) → CanTake config world seat words taking → (address : ℕ) → (touch_at seat words taking).word ≡ Heap address
    → (free_space : ℕ) × (world.block address ≡ Some (spare seat free_space)) × (1 ≤ free_space)
writes_spare config world seat words (Fill buffer address room) can_take asked_address touches_address =
    let next_address : next_in buffer ≡ asked_address = cc in
    (free_words buffer, ap world.block (sym next_address) ∙ can_take.facts.left, (let some_left = can_take.facts.some in omega (arith, some_left)))
writes_spare config world seat words LoadBuffer can_take address touches_address = cc
writes_spare config world seat words (LoadShared buffer) can_take address touches_address = cc
writes_spare config world seat words (LoadTop buffer region) can_take address touches_address = cc
writes_spare config world seat words (Carve buffer region top room) can_take address touches_address = cc
writes_spare config world seat words (LoadFree buffer shared) can_take address touches_address = cc
writes_spare config world seat words (TakeRegion buffer shared region) can_take address touches_address = cc
writes_spare config world seat words (ShareRegion buffer shared region) can_take address touches_address = cc
writes_spare config world seat words (GiveBack buffer region) can_take address touches_address = cc
writes_spare config world seat words (StoreBuffer address room) can_take asked_address touches_address = cc
writes_spare config world seat words (Ended taken end) can_take address touches_address = cc

module _ (seat words : ℕ) where
  -- its next access is of one of them
  its_word : (taking : TakeSpot) → is_room_word (touch_at seat words taking).word ≡ true
  its_word LoadBuffer = refl
  its_word (LoadShared buffer) = refl
  its_word (LoadTop buffer region) = refl
  its_word (Carve buffer region top room) = refl
  its_word (LoadFree buffer shared) = refl
  its_word (TakeRegion buffer shared region) = refl
  its_word (ShareRegion buffer shared region) = refl
  its_word (GiveBack buffer region) = refl
  its_word (Fill buffer address room) = refl
  its_word (StoreBuffer address room) = refl
  its_word (Ended taken end) = refl

  -- so it is of a word of the image
  pub in_image : (taking : TakeSpot) → is_image (touch_at seat words taking).word ≡ true
  in_image taking = room_in_image (touch_at seat words taking).word (its_word taking)

  -- of no other word
  pub accesses_elsewhere : (taking : TakeSpot) (word : Word) → is_room_word word ≡ false → (touch_at seat words taking).word ≡ word → ⊥
  accesses_elsewhere taking word not_its touches_word = false≢true (sym not_its ∙ ap is_room_word (sym touches_word) ∙ its_word taking)

  -- and each other word stays as it is
  pub others_stay : (memory : Word → ℕ) (taking : TakeSpot) (word : Word) → is_room_word word ≡ false → touched memory (touch_at seat words taking) word ≡ memory word
  others_stay memory taking word not_its = cond-false (same_word (touch_at seat words taking).word word) _ _ (⊎_elim
      (λ (touches_word : same_word (touch_at seat words taking).word word ≡ true). absurd (accesses_elsewhere taking word not_its (same_word_true _ _ touches_word)))
      (λ (words_differ : same_word (touch_at seat words taking).word word ≡ false). words_differ)
      (cases_Bool (same_word (touch_at seat words taking).word word)))

-- whether another machine may be faster
abbrev may_wait : TakeSpot → Bool
may_wait (Carve buffer region top room) = true
may_wait (TakeRegion buffer shared region) = true
may_wait (ShareRegion buffer shared region) = true
may_wait _ = false

-- a step that cannot come too late never says that another machine was faster
never : (taking next_spot : TakeSpot) → may_wait taking ≡ false → says_at taking next_spot ≡ Again → ⊥
never (Carve buffer region top room) next_spot waits says_again = absurd (true≢false waits)
never (TakeRegion buffer shared region) next_spot waits says_again = absurd (true≢false waits)
never (ShareRegion buffer shared region) next_spot waits says_again = absurd (true≢false waits)
never LoadBuffer (Ended answer next_end) waits says_again = cc
never LoadBuffer _ waits says_again = cc
never (LoadShared buffer) (Ended answer next_end) waits says_again = cc
never (LoadShared buffer) _ waits says_again = cc
never (LoadTop buffer region) (Ended answer next_end) waits says_again = cc
never (LoadTop buffer region) _ waits says_again = cc
never (LoadFree buffer shared) (Ended answer next_end) waits says_again = cc
never (LoadFree buffer shared) _ waits says_again = cc
never (GiveBack buffer region) (Ended answer next_end) waits says_again = cc
never (GiveBack buffer region) _ waits says_again = cc
never (Fill buffer address room) (Ended answer next_end) waits says_again = cc
never (Fill buffer address room) _ waits says_again = cc
never (StoreBuffer address room) (Ended answer next_end) waits says_again = cc
never (StoreBuffer address room) _ waits says_again = cc
never (Ended taken end) (Ended answer next_end) waits says_again = cc
never (Ended taken end) _ waits says_again = cc

-- where it has carved it goes on
carved_never : (buffer region top room address : ℕ) → says_at (Carve buffer region top room) (carved_at buffer address room) ≡ Again → ⊥
carved_never buffer region top room address = by_test (nat_lt (next_in buffer) (end_in buffer))
  where
    by_test : (holds : Bool) → says_at (Carve buffer region top room) (if holds then Fill buffer address room else StoreBuffer address room) ≡ Again → ⊥
    by_test true says_again = cc
    by_test false says_again = cc

-- a step says so exactly where the taking waits
pub says_where_it_waits : (config : Config) (words : ℕ) (kind : Kind) (taking : TakeSpot) (got : ℕ) → (says_at taking (next_at config words kind taking got) ≡ Again) ↔ WaitsAt taking got
says_where_it_waits config words kind (Carve buffer region top room) got = ⊎_elim
    (λ (same_top : got ≡ top). (
      λ says_again. absurd (carved_never buffer region top room (base_of config region + top)
          (subst (λ carved_test. says_at (Carve buffer region top room) (if carved_test then carved_at buffer (base_of config region + top) room else LoadShared buffer) ≡ Again) (eq-eqb got top same_top) says_again)),
      λ waits. absurd (waits same_top),
    ))
    (λ (tops_differ : got ≢ top). (
      λ says_again. tops_differ,
      λ waits. ap (says_at (Carve buffer region top room)) (cond-false (got == top) (carved_at buffer (base_of config region + top) room) (LoadShared buffer) (ne_eqb got top tops_differ)),
    ))
    (cases_eq got top)
says_where_it_waits config words kind (TakeRegion buffer shared region) got = grind (arith, nat_tests)
says_where_it_waits config words kind (ShareRegion buffer shared region) got = grind (arith, nat_tests)
says_where_it_waits config words kind LoadBuffer got = (λ says_again. absurd (never LoadBuffer (next_at config words kind LoadBuffer got) refl says_again), λ waits. absurd waits)
says_where_it_waits config words kind (LoadShared buffer) got = (λ says_again. absurd (never (LoadShared buffer) (next_at config words kind (LoadShared buffer) got) refl says_again), λ waits. absurd waits)
says_where_it_waits config words kind (LoadTop buffer region) got = (λ says_again. absurd (never (LoadTop buffer region) (next_at config words kind (LoadTop buffer region) got) refl says_again), λ waits. absurd waits)
says_where_it_waits config words kind (LoadFree buffer shared) got = (λ says_again. absurd (never (LoadFree buffer shared) (next_at config words kind (LoadFree buffer shared) got) refl says_again), λ waits. absurd waits)
says_where_it_waits config words kind (GiveBack buffer region) got = (λ says_again. absurd (never (GiveBack buffer region) (next_at config words kind (GiveBack buffer region) got) refl says_again), λ waits. absurd waits)
says_where_it_waits config words kind (Fill buffer address room) got = (λ says_again. absurd (never (Fill buffer address room) (next_at config words kind (Fill buffer address room) got) refl says_again), λ waits. absurd waits)
says_where_it_waits config words kind (StoreBuffer address room) got = (λ says_again. absurd (never (StoreBuffer address room) (next_at config words kind (StoreBuffer address room) got) refl says_again), λ waits. absurd waits)
says_where_it_waits config words kind (Ended taken end) got = (λ says_again. absurd (never (Ended taken end) (next_at config words kind (Ended taken end) got) refl says_again), λ waits. absurd waits)
