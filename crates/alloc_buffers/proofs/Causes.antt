-- Why a machine that takes room ends without it.
use Rattle.std.proofs.Common.{◌≡◌, ℕ, ◌+◌, ◌-◌, ◌<◌, ◌⊎◌, Bool, true, false, List, [], ◌∷◌, ◌++◌, inl, inr, ⊎_elim, refl, sym, ap, ◌∙◌, subst}
use Rattle.std.specs.Prelude.{◌==◌, nat_lt, if◌then◌else◌}
use Rattle.std.proofs.lemmas.Bool.{leb-true, leb-false, eqb-true, true≢false}
use Rattle.std.specs.Int.{bit_at}
use Rattle.heap_words.specs.declared.config.Config.{Config}
use Rattle.heap_words.specs.Encoding.{next_in, end_in}
use Rattle.regions.specs.Place.{base_of}
use Rattle.regions.specs.Sets.{lowest_in, members_below}
use Rattle.alloc_buffers.specs.declared.spot.Kind.{Kind}
use Rattle.alloc_buffers.specs.declared.spot.Kind.TheVariants.{Fresh, Evacuated}
use Rattle.alloc_buffers.specs.declared.spot.Taken.{Taken}
use Rattle.alloc_buffers.specs.declared.spot.Taken.TheVariants.{At, NoRoom}
use Rattle.alloc_buffers.specs.declared.spot.TakeSpot.{TakeSpot}
use Rattle.alloc_buffers.specs.declared.spot.TakeSpot.TheVariants.{LoadBuffer, LoadShared, LoadTop, Carve, LoadFree, TakeRegion, ShareRegion, GiveBack, Fill, StoreBuffer, Ended}
use Rattle.alloc_buffers.specs.Rows.{has_free, has_room, has_none, free_words, carved_words, next_at, is_ended}
use Rattle.alloc_buffers.specs.Room.{after_found, FindsNoRoom, IsBufferShort, IsFullAt, is_searching, HasFull, MayTakeNone, IsLackOfRoom}

-- the test of the row, in numbers
may_take_none : (config : Config) (kind : Kind) (free_word : ℕ) → has_none config kind free_word ≡ true → MayTakeNone config kind free_word
may_take_none config Fresh free_word tested_none = leb-true (members_below free_word 64) config.reserve tested_none
may_take_none config Evacuated free_word tested_none = leb-true (members_below free_word 64) 0 tested_none

-- a list in two parts begins as the first part does, if that has anything
first_of_two : (got : ℕ) (later_words before after : List ℕ) → (got ∷ later_words) ≡ before ++ after → (before ≡ []) ⊎ ((rest : List ℕ) × (before ≡ got ∷ rest) × (later_words ≡ rest ++ after))
first_of_two got later_words [] after same_list = inl refl
first_of_two got later_words (x ∷ rest) after same_list = let same_first : got ≡ x = cc in let same_rest : later_words ≡ rest ++ after = cc in inr (rest, ap (λ y. y ∷ rest) (sym same_first), same_rest)

-- nothing is in no part of an empty list
none_of_two : (before after : List ℕ) → [] ≡ before ++ after → before ≡ []
none_of_two [] after same_list = refl
none_of_two (x ∷ rest) after same_list = cc

-- what follows an exchange of a top, by the tests of its row
abbrev carve_next : (buffer address room : ℕ) → Bool → Bool → TakeSpot
carve_next buffer address room exchanged words_left = if exchanged then (if words_left then Fill buffer address room else StoreBuffer address room) else LoadShared buffer

module _ (config : Config) (words : ℕ) (kind : Kind) where
  -- it has found these words since, and ends without room at the next
  record Ends (spot : TakeSpot) (found : List ℕ) (free : ℕ) : Type 0 where
    going : is_ended (after_found config words kind spot found) ≡ false
    ends : next_at config words kind (after_found config words kind spot found) free ≡ Ended NoRoom 0

  -- to the end it looks for a free region
  abbrev Searches : TakeSpot → List ℕ → Type 0
  Searches spot found = (before after : List ℕ) → found ≡ before ++ after → is_searching (after_found config words kind spot before) ≡ true

  -- what there is to show at a spot
  abbrev Cause : Bool → TakeSpot → List ℕ → Type 0
  Cause true spot found = Searches spot found ⊎ HasFull config words kind spot found
  Cause false spot found = HasFull config words kind spot found

  -- once a taking has ended it goes on no more
  ended_stays : (taken : Taken) (end : ℕ) (later_words : List ℕ) → is_ended (after_found config words kind (Ended taken end) later_words) ≡ false → ⊥
  ended_stays taken end [] not_ended = cc
  ended_stays taken end (got ∷ later_words) not_ended = ended_stays taken end later_words not_ended

  -- with a buffer that has room it does not end without
  stored_never : (address room : ℕ) (found : List ℕ) (last_word : ℕ) → Ends (StoreBuffer address room) found last_word → ⊥
  stored_never address room [] last_word no_room = let ends = no_room.ends in cc
  stored_never address room (got ∷ later_words) last_word ends = ended_stays (At address) (address + room) later_words ends.going

  -- a spot at which it looks for a free region, and a word there
  searches_on : (spot next_spot : TakeSpot) (got : ℕ) (later_words : List ℕ) → is_searching spot ≡ true → next_at config words kind spot got ≡ next_spot → Searches next_spot later_words → Searches spot (got ∷ later_words)
  searches_on spot next_spot got later_words searches_here leads searches_later before after same_list = ⊎_elim
      (λ (empty : before ≡ []). ap (λ passed. is_searching (after_found config words kind spot passed)) empty ∙ searches_here)
      (λ (got_first : (rest : List ℕ) × (before ≡ got ∷ rest) × (later_words ≡ rest ++ after)).
      ap (λ passed. is_searching (after_found config words kind spot passed)) got_first.1 ∙ ap (λ place. is_searching (after_found config words kind place got_first.0)) leads ∙ searches_later got_first.0 after got_first.2)
      (first_of_two got later_words before after same_list)

  -- a later cause is one
  goes_later : (spot next_spot : TakeSpot) (got : ℕ) (later_words : List ℕ) → next_at config words kind spot got ≡ next_spot → HasFull config words kind next_spot later_words → HasFull config words kind spot (got ∷ later_words)
  goes_later spot next_spot got later_words leads later_full = HasFull.later spot got later_words (subst (λ place. HasFull config words kind place later_words) (sym leads) later_full)

  -- a word that says that there is too little room, and no other shared region behind it
  stands_here : (spot next_spot : TakeSpot) (got : ℕ) (later_words : List ℕ) → next_at config words kind spot got ≡ next_spot → IsFullAt config words spot got → Searches next_spot later_words → HasFull config words kind spot (got ∷ later_words)
  stands_here spot next_spot got later_words leads full_here searches_later = HasFull.here spot got later_words full_here (λ words_before words_after same_list. ap (λ place. is_searching (after_found config words kind place words_before)) leads ∙ searches_later words_before words_after same_list)

  -- from each spot on
  cause : (found : List ℕ) (spot : TakeSpot) (last_word : ℕ) → Ends spot found last_word → Cause (is_searching spot) spot found
  cause [] LoadBuffer last_word ends = absurd (by_test (has_free words last_word) ends.ends)
    where
      by_test : (holds : Bool) → (if holds then StoreBuffer (next_in last_word) (free_words last_word) else LoadShared last_word) ≡ Ended NoRoom 0 → ⊥
      by_test true has_ended = cc
      by_test false has_ended = cc
  cause [] (LoadShared buffer) last_word ends = absurd (by_test (last_word == 0) ends.ends)
    where
      by_test : (holds : Bool) → (if holds then LoadFree buffer 0 else LoadTop buffer (last_word - 1)) ≡ Ended NoRoom 0 → ⊥
      by_test true has_ended = cc
      by_test false has_ended = cc
  cause [] (LoadTop buffer region) last_word ends = absurd (by_test (has_room config words last_word) ends.ends)
    where
      by_test : (holds : Bool) → (if holds then Carve buffer region last_word (carved_words config last_word) else LoadFree buffer (region + 1)) ≡ Ended NoRoom 0 → ⊥
      by_test true has_ended = cc
      by_test false has_ended = cc
  cause [] (Carve buffer region top room) last_word ends = absurd (by_tests (last_word == top) (nat_lt (next_in buffer) (end_in buffer)) ends.ends)
    where
      by_tests : (holds left_holds : Bool) → (if holds then (if left_holds then Fill buffer (base_of config region + top) room else StoreBuffer (base_of config region + top) room) else LoadShared buffer) ≡ Ended NoRoom 0 → ⊥
      by_tests true true has_ended = cc
      by_tests true false has_ended = cc
      by_tests false left_holds has_ended = cc
  cause [] (LoadFree buffer shared) last_word ends = inl (λ before after same_list. ap (λ holds. is_searching (after_found config words kind (LoadFree buffer shared) holds)) (none_of_two before after same_list))
  cause [] (TakeRegion buffer shared region) last_word ends = absurd (by_test (bit_at last_word region == 1) ends.ends)
    where
      by_test : (holds : Bool) → (if holds then ShareRegion buffer shared region else LoadFree buffer shared) ≡ Ended NoRoom 0 → ⊥
      by_test true has_ended = cc
      by_test false has_ended = cc
  cause [] (ShareRegion buffer shared region) last_word ends = absurd (by_test (last_word == shared) ends.ends)
    where
      by_test : (holds : Bool) → (if holds then LoadTop buffer region else GiveBack buffer region) ≡ Ended NoRoom 0 → ⊥
      by_test true has_ended = cc
      by_test false has_ended = cc
  cause [] (GiveBack buffer region) last_word no_room = let ends = no_room.ends in absurd cc
  cause [] (Fill buffer address room) last_word no_room = let ends = no_room.ends in absurd cc
  cause [] (StoreBuffer address room) last_word ends = absurd (stored_never address room [] last_word ends)
  cause [] (Ended taken end) last_word ends = absurd (ended_stays taken end [] ends.going)
  cause (got ∷ later_words) LoadBuffer last_word ends = by_test (λ spot. cause later_words spot last_word) (has_free words got) refl
    where
      by_test : ((spot : TakeSpot) → Ends spot later_words last_word → Cause (is_searching spot) spot later_words) → (outcome : Bool) → has_free words got ≡ outcome → HasFull config words kind LoadBuffer (got ∷ later_words)
      by_test rest true tested =
          let leads : next_at config words kind LoadBuffer got ≡ StoreBuffer (next_in got) (free_words got) = ap (λ outcome. if outcome then StoreBuffer (next_in got) (free_words got) else LoadShared got) tested in
          absurd (stored_never (next_in got) (free_words got) later_words last_word (subst (λ next_spot. Ends next_spot later_words last_word) leads (record { going = ends.going; ends = ends.ends })))
      by_test rest false tested =
          let leads : next_at config words kind LoadBuffer got ≡ LoadShared got = ap (λ outcome. if outcome then StoreBuffer (next_in got) (free_words got) else LoadShared got) tested in
          goes_later LoadBuffer (LoadShared got) got later_words leads (rest (LoadShared got) (subst (λ next_spot. Ends next_spot later_words last_word) leads (record { going = ends.going; ends = ends.ends })))
  cause (got ∷ later_words) (LoadShared buffer) last_word ends = by_test (λ spot. cause later_words spot last_word) (got == 0) refl
    where
      by_test : ((spot : TakeSpot) → Ends spot later_words last_word → Cause (is_searching spot) spot later_words) → (outcome : Bool) → (got == 0) ≡ outcome → HasFull config words kind (LoadShared buffer) (got ∷ later_words)
      by_test rest true tested =
          let leads : next_at config words kind (LoadShared buffer) got ≡ LoadFree buffer 0 = ap (λ outcome. if outcome then LoadFree buffer 0 else LoadTop buffer (got - 1)) tested in
          ⊎_elim
          (λ searches_later. stands_here (LoadShared buffer) (LoadFree buffer 0) got later_words leads (eqb-true got 0 tested) searches_later)
          (λ full_later. goes_later (LoadShared buffer) (LoadFree buffer 0) got later_words leads full_later)
          (rest (LoadFree buffer 0) (subst (λ next_spot. Ends next_spot later_words last_word) leads (record { going = ends.going; ends = ends.ends })))
      by_test rest false tested =
          let leads : next_at config words kind (LoadShared buffer) got ≡ LoadTop buffer (got - 1) = ap (λ outcome. if outcome then LoadFree buffer 0 else LoadTop buffer (got - 1)) tested in
          goes_later (LoadShared buffer) (LoadTop buffer (got - 1)) got later_words leads (rest (LoadTop buffer (got - 1)) (subst (λ next_spot. Ends next_spot later_words last_word) leads (record { going = ends.going; ends = ends.ends })))
  cause (got ∷ later_words) (LoadTop buffer region) last_word ends = by_test (λ spot. cause later_words spot last_word) (has_room config words got) refl
    where
      by_test : ((spot : TakeSpot) → Ends spot later_words last_word → Cause (is_searching spot) spot later_words) → (outcome : Bool) → has_room config words got ≡ outcome → HasFull config words kind (LoadTop buffer region) (got ∷ later_words)
      by_test rest true tested =
          let leads : next_at config words kind (LoadTop buffer region) got ≡ Carve buffer region got (carved_words config got) = ap (λ outcome. if outcome then Carve buffer region got (carved_words config got) else LoadFree buffer (region + 1)) tested in
          goes_later (LoadTop buffer region) (Carve buffer region got (carved_words config got)) got later_words leads (rest (Carve buffer region got (carved_words config got)) (subst (λ next_spot. Ends next_spot later_words last_word) leads (record { going = ends.going; ends = ends.ends })))
      by_test rest false tested =
          let leads : next_at config words kind (LoadTop buffer region) got ≡ LoadFree buffer (region + 1) = ap (λ outcome. if outcome then Carve buffer region got (carved_words config got) else LoadFree buffer (region + 1)) tested in
          ⊎_elim
          (λ searches_later. stands_here (LoadTop buffer region) (LoadFree buffer (region + 1)) got later_words leads (leb-false (got + words) config.region_words tested) searches_later)
          (λ full_later. goes_later (LoadTop buffer region) (LoadFree buffer (region + 1)) got later_words leads full_later)
          (rest (LoadFree buffer (region + 1)) (subst (λ next_spot. Ends next_spot later_words last_word) leads (record { going = ends.going; ends = ends.ends })))
  cause (got ∷ later_words) (Carve buffer region top room) last_word ends = by_tests (λ spot. cause later_words spot last_word) (got == top) refl (nat_lt (next_in buffer) (end_in buffer)) refl
    where
      by_tests : ((spot : TakeSpot) → Ends spot later_words last_word → Cause (is_searching spot) spot later_words) → (outcome : Bool) → (got == top) ≡ outcome → (left_holds : Bool) → nat_lt (next_in buffer) (end_in buffer) ≡ left_holds → HasFull config words kind (Carve buffer region top room) (got ∷ later_words)
      by_tests rest true tested true left_tested =
          let leads : next_at config words kind (Carve buffer region top room) got ≡ Fill buffer (base_of config region + top) room = ap (λ outcome. carve_next buffer (base_of config region + top) room outcome (nat_lt (next_in buffer) (end_in buffer))) tested ∙ ap (carve_next buffer (base_of config region + top) room true) left_tested in
          goes_later (Carve buffer region top room) (Fill buffer (base_of config region + top) room) got later_words leads (rest (Fill buffer (base_of config region + top) room) (subst (λ next_spot. Ends next_spot later_words last_word) leads (record { going = ends.going; ends = ends.ends })))
      by_tests rest true tested false left_tested =
          let leads : next_at config words kind (Carve buffer region top room) got ≡ StoreBuffer (base_of config region + top) room = ap (λ outcome. carve_next buffer (base_of config region + top) room outcome (nat_lt (next_in buffer) (end_in buffer))) tested ∙ ap (carve_next buffer (base_of config region + top) room true) left_tested in
          absurd (stored_never (base_of config region + top) room later_words last_word (subst (λ next_spot. Ends next_spot later_words last_word) leads (record { going = ends.going; ends = ends.ends })))
      by_tests rest false tested left_holds left_tested =
          let leads : next_at config words kind (Carve buffer region top room) got ≡ LoadShared buffer = ap (λ outcome. carve_next buffer (base_of config region + top) room outcome (nat_lt (next_in buffer) (end_in buffer))) tested in
          goes_later (Carve buffer region top room) (LoadShared buffer) got later_words leads (rest (LoadShared buffer) (subst (λ next_spot. Ends next_spot later_words last_word) leads (record { going = ends.going; ends = ends.ends })))
  cause (got ∷ later_words) (LoadFree buffer shared) last_word ends = by_test (λ spot. cause later_words spot last_word) (has_none config kind got) refl
    where
      by_test : ((spot : TakeSpot) → Ends spot later_words last_word → Cause (is_searching spot) spot later_words) → (outcome : Bool) → has_none config kind got ≡ outcome → Searches (LoadFree buffer shared) (got ∷ later_words) ⊎ HasFull config words kind (LoadFree buffer shared) (got ∷ later_words)
      by_test rest true tested =
          let leads : next_at config words kind (LoadFree buffer shared) got ≡ Ended NoRoom 0 = ap (λ outcome. if outcome then Ended NoRoom 0 else TakeRegion buffer shared (lowest_in got)) tested in
          let goes_on : Ends (Ended NoRoom 0) later_words last_word = subst (λ next_spot. Ends next_spot later_words last_word) leads (record { going = ends.going; ends = ends.ends }) in
          absurd (ended_stays NoRoom 0 later_words goes_on.going)
      by_test rest false tested =
          let leads : next_at config words kind (LoadFree buffer shared) got ≡ TakeRegion buffer shared (lowest_in got) = ap (λ outcome. if outcome then Ended NoRoom 0 else TakeRegion buffer shared (lowest_in got)) tested in
          ⊎_elim
          (λ goes_on. inl (searches_on (LoadFree buffer shared) (TakeRegion buffer shared (lowest_in got)) got later_words refl leads goes_on))
          (λ full_later. inr (goes_later (LoadFree buffer shared) (TakeRegion buffer shared (lowest_in got)) got later_words leads full_later))
          (rest (TakeRegion buffer shared (lowest_in got)) (subst (λ next_spot. Ends next_spot later_words last_word) leads (record { going = ends.going; ends = ends.ends })))
  cause (got ∷ later_words) (TakeRegion buffer shared region) last_word ends = by_test (λ spot. cause later_words spot last_word) (bit_at got region == 1) refl
    where
      by_test : ((spot : TakeSpot) → Ends spot later_words last_word → Cause (is_searching spot) spot later_words) → (outcome : Bool) → (bit_at got region == 1) ≡ outcome → Searches (TakeRegion buffer shared region) (got ∷ later_words) ⊎ HasFull config words kind (TakeRegion buffer shared region) (got ∷ later_words)
      by_test rest true tested =
          let leads : next_at config words kind (TakeRegion buffer shared region) got ≡ ShareRegion buffer shared region = ap (λ outcome. if outcome then ShareRegion buffer shared region else LoadFree buffer shared) tested in
          inr (goes_later (TakeRegion buffer shared region) (ShareRegion buffer shared region) got later_words leads (rest (ShareRegion buffer shared region) (subst (λ next_spot. Ends next_spot later_words last_word) leads (record { going = ends.going; ends = ends.ends }))))
      by_test rest false tested =
          let leads : next_at config words kind (TakeRegion buffer shared region) got ≡ LoadFree buffer shared = ap (λ outcome. if outcome then ShareRegion buffer shared region else LoadFree buffer shared) tested in
          ⊎_elim
          (λ searches_later. inl (searches_on (TakeRegion buffer shared region) (LoadFree buffer shared) got later_words refl leads searches_later))
          (λ full_later. inr (goes_later (TakeRegion buffer shared region) (LoadFree buffer shared) got later_words leads full_later))
          (rest (LoadFree buffer shared) (subst (λ next_spot. Ends next_spot later_words last_word) leads (record { going = ends.going; ends = ends.ends })))
  cause (got ∷ later_words) (ShareRegion buffer shared region) last_word ends = by_test (λ spot. cause later_words spot last_word) (got == shared) refl
    where
      by_test : ((spot : TakeSpot) → Ends spot later_words last_word → Cause (is_searching spot) spot later_words) → (outcome : Bool) → (got == shared) ≡ outcome → HasFull config words kind (ShareRegion buffer shared region) (got ∷ later_words)
      by_test rest true tested =
          let leads : next_at config words kind (ShareRegion buffer shared region) got ≡ LoadTop buffer region = ap (λ outcome. if outcome then LoadTop buffer region else GiveBack buffer region) tested in
          goes_later (ShareRegion buffer shared region) (LoadTop buffer region) got later_words leads (rest (LoadTop buffer region) (subst (λ next_spot. Ends next_spot later_words last_word) leads (record { going = ends.going; ends = ends.ends })))
      by_test rest false tested =
          let leads : next_at config words kind (ShareRegion buffer shared region) got ≡ GiveBack buffer region = ap (λ outcome. if outcome then LoadTop buffer region else GiveBack buffer region) tested in
          goes_later (ShareRegion buffer shared region) (GiveBack buffer region) got later_words leads (rest (GiveBack buffer region) (subst (λ next_spot. Ends next_spot later_words last_word) leads (record { going = ends.going; ends = ends.ends })))
  cause (got ∷ later_words) (GiveBack buffer region) last_word ends = goes_later (GiveBack buffer region) (LoadShared buffer) got later_words refl (cause later_words (LoadShared buffer) last_word (record { going = ends.going; ends = ends.ends }))
  cause (got ∷ later_words) (Fill buffer address room) last_word ends = absurd (stored_never address room later_words last_word (record { going = ends.going; ends = ends.ends }))
  cause (got ∷ later_words) (StoreBuffer address room) last_word ends = absurd (stored_never address room (got ∷ later_words) last_word ends)
  cause (got ∷ later_words) (Ended taken end) last_word ends = absurd (ended_stays taken end (got ∷ later_words) ends.going)

  -- the buffer's word is found first, and it tells too few free words
  short : (found : List ℕ) (last_word : ℕ) → Ends LoadBuffer found last_word → IsBufferShort words found
  short [] last_word ends = absurd (by_test (has_free words last_word) ends.ends)
    where
      by_test : (holds : Bool) → (if holds then StoreBuffer (next_in last_word) (free_words last_word) else LoadShared last_word) ≡ Ended NoRoom 0 → ⊥
      by_test true has_ended = cc
      by_test false has_ended = cc
  short (buffer ∷ later_words) last_word ends = by_test (has_free words buffer) refl
    where
      by_test : (holds : Bool) → has_free words buffer ≡ holds → end_in buffer < next_in buffer + words
      by_test true tested =
          let leads : next_at config words kind LoadBuffer buffer ≡ StoreBuffer (next_in buffer) (free_words buffer) = ap (λ holds. if holds then StoreBuffer (next_in buffer) (free_words buffer) else LoadShared buffer) tested in
          absurd (stored_never (next_in buffer) (free_words buffer) later_words last_word (subst (λ spot. Ends spot later_words last_word) leads (record { going = ends.going; ends = ends.ends })))
      by_test false tested = leb-false (next_in buffer + words) (end_in buffer) tested

  -- no words at all are no cause
  none_of_none : (spot : TakeSpot) → HasFull config words kind spot [] → ⊥
  none_of_none spot has_full = elim has_full [ ]

  -- where it does not look for a free region it does not end without room
  lone : (spot : TakeSpot) (got : ℕ) → is_ended spot ≡ false → next_at config words kind spot got ≡ Ended NoRoom 0 → is_searching spot ≡ false → ⊥
  lone spot got spot_going ends not_searching =
      none_of_none spot (subst (λ before. Cause before spot []) not_searching (cause [] spot got (record { going = spot_going; ends = ends })))

  -- a machine ends without room only at the load of the free word
  none_left : (spot : TakeSpot) (got : ℕ) → is_ended spot ≡ false → next_at config words kind spot got ≡ Ended NoRoom 0 → has_none config kind got ≡ true
  none_left (LoadFree buffer shared) got spot_going ends = by_test (has_none config kind got) ends
    where
      by_test : (holds : Bool) → (if holds then Ended NoRoom 0 else TakeRegion buffer shared (lowest_in got)) ≡ Ended NoRoom 0 → holds ≡ true
      by_test true has_ended = refl
      by_test false has_ended = absurd cc
  none_left (Ended taken end) got spot_going ends = absurd (true≢false spot_going)
  none_left LoadBuffer got spot_going ends = absurd (lone LoadBuffer got spot_going ends refl)
  none_left (LoadShared buffer) got spot_going ends = absurd (lone (LoadShared buffer) got spot_going ends refl)
  none_left (LoadTop buffer region) got spot_going ends = absurd (lone (LoadTop buffer region) got spot_going ends refl)
  none_left (Carve buffer region top room) got spot_going ends = absurd (lone (Carve buffer region top room) got spot_going ends refl)
  none_left (TakeRegion buffer shared region) got spot_going ends = absurd (by_test (bit_at got region == 1) ends)
    where
      by_test : (holds : Bool) → (if holds then ShareRegion buffer shared region else LoadFree buffer shared) ≡ Ended NoRoom 0 → ⊥
      by_test true has_ended = cc
      by_test false has_ended = cc
  none_left (ShareRegion buffer shared region) got spot_going ends = absurd (lone (ShareRegion buffer shared region) got spot_going ends refl)
  none_left (GiveBack buffer region) got spot_going ends = absurd (lone (GiveBack buffer region) got spot_going ends refl)
  none_left (Fill buffer address room) got spot_going ends = absurd (lone (Fill buffer address room) got spot_going ends refl)
  none_left (StoreBuffer address room) got spot_going ends = absurd (lone (StoreBuffer address room) got spot_going ends refl)

  pub its_cause : (found : List ℕ) (last_word : ℕ) → FindsNoRoom config words kind found last_word → IsLackOfRoom config words kind found last_word
  its_cause found last_word finds_none = record {
    short = short found last_word (record { going = finds_none.going; ends = finds_none.ends });
    full = cause found LoadBuffer last_word (record { going = finds_none.going; ends = finds_none.ends });
    none = may_take_none config kind last_word (none_left (after_found config words kind LoadBuffer found) last_word finds_none.going finds_none.ends);
  }
