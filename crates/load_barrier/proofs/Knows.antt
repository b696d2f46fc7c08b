-- What a machine that resolves an address counts on at each spot, by the words alone, and that others leave it.
use Rattle.heap_words.specs.Phases.{updating_phase}
use Rattle.std.proofs.Common.{◌≡◌, ◌≤◌, ◌<◌, ℕ, ◌+◌, inl, inr, true, false, refl, sym, ap, ◌∙◌, subst, arith}
use Rattle.std.specs.Prelude.{◌==◌, ⊤, ◌⊎◌}
use Rattle.std.proofs.lemmas.Bool.{cond-true}
use Rattle.std.proofs.lemmas.Bool.Decides.{nat_tests}
use Rattle.heap_words.specs.Encoding.{plain_header, header_word, is_forwarded, forwardee_in, object_words}
use Rattle.heap_words.specs.Words.{Word, Evac, Heap}
use Rattle.alloc_buffers.specs.Rows as takes
use Rattle.heap_words.specs.Counter.{count_of, IsQuiet}
use Rattle.evac_room.specs.declared.spot.RoomSpot.{RoomSpot}
use Rattle.evac_room.specs.declared.spot.RoomSpot.TheVariants.{Look, Raise, Ask, Mark, Wait}
use Rattle.evac_room.proofs.OneStep.{Mine, mine_stays}
use Rattle.load_barrier.specs.declared.copying.CopySpot.{CopySpot}
use Rattle.load_barrier.specs.declared.copying.CopySpot.TheVariants.{LoadWord, StoreWord, StoreHeader, Publish, GiveBack}
use Rattle.load_barrier.specs.declared.spot.ResolveSpot.{ResolveSpot}
use Rattle.load_barrier.specs.declared.spot.ResolveSpot.TheVariants.{LoadHeader, Entering, LoadShape, Taking, Copying, Leaving, Stopping, LoadAgain, Resolved}
use Rattle.load_barrier.specs.Rows.{current_copy}
use Rattle.load_barrier.specs.Alone.{is_copier, IsHeader, words_by_shape, AreCopied, IsWholeCopy, LeaveObject}

-- it asks to copy
abbrev pub IsAsking : RoomSpot → Type 0
IsAsking Look = ⊤
IsAsking (Raise found) = ⊤
IsAsking _ = ⊥

-- it has found no room, and stops all copying
abbrev pub IsGoing : RoomSpot → Type 0
IsGoing Ask = ⊤
IsGoing (Mark found) = ⊤
IsGoing Wait = ⊤
IsGoing _ = ⊥

module _ (phase address : ℕ) where
  -- what holds while it copies
  abbrev pub CopyKnows : (ℕ → ℕ) → ℕ → CopySpot → Type 0
  CopyKnows heap copy (LoadWord words index) = (words ≡ words_by_shape heap address) × (1 ≤ index) × (index < words) × AreCopied heap address copy index
  CopyKnows heap copy (StoreWord words index found) =
      (words ≡ words_by_shape heap address) × (1 ≤ index) × (index < words) × AreCopied heap address copy index × (found ≡ heap (address + index))
  CopyKnows heap copy StoreHeader = AreCopied heap address copy (words_by_shape heap address)
  CopyKnows heap copy Publish = IsWholeCopy heap address copy
  CopyKnows heap copy (GiveBack answer) = heap address ≡ header_word answer

  -- the header does not change any more
  abbrev pub IsSettled : (ℕ → ℕ) → ℕ → Type 0
  IsSettled heap evac = (is_forwarded (heap address) ≡ true) ⊎ (IsQuiet evac ⊎ (phase ≡ updating_phase))

  -- what holds at each spot
  abbrev pub Knows : (ℕ → ℕ) → ℕ → ResolveSpot → Type 0
  Knows heap evac LoadHeader = ⊤
  Knows heap evac (Entering spot) = IsAsking spot × Mine evac spot
  Knows heap evac LoadShape = ⊤
  Knows heap evac (Taking words spot) = (words ≡ words_by_shape heap address) × (takes.is_ended spot ≡ false)
  Knows heap evac (Copying copy end spot) = CopyKnows heap copy spot
  Knows heap evac (Leaving answer) = heap address ≡ header_word answer
  Knows heap evac (Stopping spot) = IsGoing spot × Mine evac spot
  Knows heap evac LoadAgain = IsQuiet evac
  Knows heap evac (Resolved answer) = (answer ≡ current_copy address (heap address)) × IsSettled heap evac

  pub record CanResolve (heap : ℕ → ℕ) (evac : ℕ) (spot : ResolveSpot) : Type 0 where
    pub header : IsHeader (heap address)
    pub counted : is_copier spot ≡ true → 1 ≤ count_of evac
    pub knows : Knows heap evac spot

  abbrev pub Can : (Word → ℕ) → ResolveSpot → Type 0
  Can memory spot = CanResolve (λ address. memory (Heap address)) (memory Evac) spot

-- a header that names a copy reads so
pub header_forwarded : (copy : ℕ) → is_forwarded (header_word copy) ≡ true
header_forwarded copy = grind (arith, nat_tests)

pub header_names : (copy : ℕ) → forwardee_in (header_word copy) ≡ copy
header_names copy = omega arith

-- an object's header that is not plain names a copy
pub names_copy : (header : ℕ) → IsHeader header → (header == plain_header) ≡ false → header ≡ header_word (forwardee_in header)
names_copy header (inl header_plain) not_plain = absurd (grind (arith, nat_tests))
names_copy header (inr named) not_plain = grind (arith, nat_tests)

-- the current copy by a header that names it
pub current_named : (address header copy : ℕ) → header ≡ header_word copy → copy ≡ current_copy address header
current_named address header copy named = subst (λ name_word. copy ≡ current_copy address name_word) (sym named)
    (sym (cond-true (is_forwarded (header_word copy)) (forwardee_in (header_word copy)) address (header_forwarded copy) ∙ header_names copy))

-- Others leave the object.
module _ (phase address : ℕ) (spot : ResolveSpot) (before after : Word → ℕ) (others_leave : LeaveObject phase address spot before after) where
  abbrev pub old : ℕ → ℕ
  old address = before (Heap address)

  abbrev pub new : ℕ → ℕ
  new address = after (Heap address)

  words_stay : is_copier spot ≡ true → words_by_shape new address ≡ words_by_shape old address
  words_stay copies = ap object_words (others_leave.words copies 1 (omega arith) (omega arith))

  copied_stay : (copy index : ℕ) → is_copier spot ≡ true → index ≤ words_by_shape old address
      → ((place : ℕ) → place < words_by_shape old address → new (copy + place) ≡ old (copy + place)) → AreCopied old address copy index → AreCopied new address copy index
  copied_stay copy index copies index_within room_stays words_copied place some_place place_below =
      let place_inside : place < words_by_shape old address = omega (arith, place_below, index_within) in
      room_stays place place_inside ∙ words_copied place some_place place_below ∙ sym (others_leave.words copies place some_place place_inside)

  header_stays : (copy : ℕ) → old address ≡ header_word copy → new address ≡ header_word copy
  header_stays copy named = others_leave.forwarded (ap is_forwarded named ∙ header_forwarded copy) ∙ named

  settled_header : IsSettled phase address old (before Evac) → new address ≡ old address
  settled_header (inl named) = others_leave.forwarded named
  settled_header (inr (inl quiet)) = others_leave.quiet quiet
  settled_header (inr (inr updating)) = others_leave.updating updating

  settled_stays : IsSettled phase address old (before Evac) → IsSettled phase address new (after Evac)
  settled_stays (inl named) = inl (ap is_forwarded (others_leave.forwarded named) ∙ named)
  settled_stays (inr (inl quiet)) = inr (inl (others_leave.stopped quiet))
  settled_stays (inr (inr updating)) = inr (inr updating)

-- what holds of a copying stays
copy_stays : (phase address copy end : ℕ) (spot : CopySpot) (before after : Word → ℕ) → LeaveObject phase address (Copying copy end spot) before after
    → CopyKnows phase address (λ address. before (Heap address)) copy spot → CopyKnows phase address (λ address. after (Heap address)) copy spot
copy_stays phase address copy end (LoadWord words index) before after others_leave knows =
    let words_same = words_stay phase address (Copying copy end (LoadWord words index)) before after others_leave refl in (
      knows.0 ∙ sym words_same,
      knows.1,
      knows.2,
      copied_stay phase address (Copying copy end (LoadWord words index)) before after others_leave copy index refl (omega (arith, knows.0, knows.2)) others_leave.room knows.3,
    )
copy_stays phase address copy end (StoreWord words index found) before after others_leave knows =
    let words_same = words_stay phase address (Copying copy end (StoreWord words index found)) before after others_leave refl in (
      knows.0 ∙ sym words_same,
      knows.1,
      knows.2,
      copied_stay phase address (Copying copy end (StoreWord words index found)) before after others_leave copy index refl (omega (arith, knows.0, knows.2)) others_leave.room knows.3,
      knows.4 ∙ sym (others_leave.words refl index knows.1 (omega (arith, knows.0, knows.2))),
    )
copy_stays phase address copy end StoreHeader before after others_leave knows =
    let words_same = words_stay phase address (Copying copy end StoreHeader) before after others_leave refl in
    subst (λ size. AreCopied (λ address. after (Heap address)) address copy size) (sym words_same)
    (copied_stay phase address (Copying copy end StoreHeader) before after others_leave copy (words_by_shape (λ address. before (Heap address)) address) refl (omega arith) others_leave.room knows)
copy_stays phase address copy end Publish before after others_leave knows =
    let words_same = words_stay phase address (Copying copy end Publish) before after others_leave refl in
    record {
      header = first (others_leave.room 0 (omega arith)) ∙ knows.header;
      words = subst (λ size. AreCopied (λ address. after (Heap address)) address copy size) (sym words_same)
          (copied_stay phase address (Copying copy end Publish) before after others_leave copy (words_by_shape (λ address. before (Heap address)) address) refl (omega arith) others_leave.room knows.words);
    }
  where
    first : after (Heap (copy + 0)) ≡ before (Heap (copy + 0)) → after (Heap copy) ≡ before (Heap copy)
    first same_first = subst (λ address. after (Heap address) ≡ before (Heap address)) (omega arith) same_first
copy_stays phase address copy end (GiveBack answer) before after others_leave knows = header_stays phase address (Copying copy end (GiveBack answer)) before after others_leave answer knows

knows_stay : (phase address : ℕ) (spot : ResolveSpot) (before after : Word → ℕ) → LeaveObject phase address spot before after
    → Knows phase address (λ address. before (Heap address)) (before Evac) spot → Knows phase address (λ address. after (Heap address)) (after Evac) spot
knows_stay phase address LoadHeader before after others_leave knows = tt
knows_stay phase address (Entering spot) before after others_leave knows = (knows.0, mine_stays (before Evac) (after Evac) spot others_leave.out knows.1)
knows_stay phase address LoadShape before after others_leave knows = tt
knows_stay phase address (Taking words spot) before after others_leave knows = (knows.0 ∙ sym (words_stay phase address (Taking words spot) before after others_leave refl), knows.1)
knows_stay phase address (Copying copy end spot) before after others_leave knows = copy_stays phase address copy end spot before after others_leave knows
knows_stay phase address (Leaving answer) before after others_leave knows = header_stays phase address (Leaving answer) before after others_leave answer knows
knows_stay phase address (Stopping spot) before after others_leave knows = (knows.0, mine_stays (before Evac) (after Evac) spot others_leave.out knows.1)
knows_stay phase address LoadAgain before after others_leave knows = others_leave.stopped knows
knows_stay phase address (Resolved answer) before after others_leave knows = (
  knows.0 ∙ sym (ap (current_copy address) (settled_header phase address (Resolved answer) before after others_leave knows.1)),
  settled_stays phase address (Resolved answer) before after others_leave knows.1,
)

pub can_stays : (phase address : ℕ) (spot : ResolveSpot) (before after : Word → ℕ) → LeaveObject phase address spot before after
    → Can phase address before spot → Can phase address after spot
can_stays phase address spot before after others_leave can_before = record {
  header = others_leave.header;
  counted = others_leave.counted;
  knows = knows_stay phase address spot before after others_leave can_before.knows;
}
