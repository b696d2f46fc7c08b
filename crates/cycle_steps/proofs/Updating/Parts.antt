-- Working on a unit of updating as a part: any machine that has a seat can have it inside.
use Rattle.heap_words.specs.Phases.{updating_phase}
use Rattle.std.proofs.Common.{◌≡◌, ℕ, ◌+◌, ◌<◌, ◌≤◌, true, Some, inl, inr, refl, sym, subst, arith}
use Rattle.std.proofs.lemmas.Bool.{and_from, le-leb, lt-ltb}
use Rattle.heap_words.specs.declared.config.Config.{Config}
use Rattle.heap_words.specs.Encoding.{refs_in}
use Rattle.heap_words.specs.Words.{Phase, Cset, Top, Heap, IsWord, is_word}
use Rattle.heap_words.specs.Touch.{loads}
use Rattle.regions.proofs.MarksApart.{word_inside}
use Rattle.shen_graph.specs.declared.name.Name.{Name}
use Rattle.heap_world.specs.World.{World, Block, moved, filler, words_of, Body, body_at, body_words, IsCollected, Shared}
use Rattle.heap_world.proofs.Apart.{one_piece}
use Rattle.heap_world.proofs.Keeping.{keeps_of}
use Rattle.heap_world.proofs.Pointing.{body_piece, piece_inside}
use Rattle.unit_part.specs.declared.update_spot.Walk.{Walk}
use Rattle.unit_part.specs.declared.update_spot.Visit.{Visit}
use Rattle.unit_part.specs.declared.update_spot.UpdateSpot.{UpdateSpot}
use Rattle.unit_part.specs.declared.update_spot.UpdateSpot.TheVariants.{LoadClaim, ClaimUnit, LoadLimit, LoadTams, LoadFirst, LoadShape, LoadBlack, LoadField, LoadHeader, ExchangeField, Ended}
use Rattle.unit_part.specs.UpdateRows.{touch_at, walk_fits, visit_fits, has_field, is_ready}
use Rattle.cycle_steps.specs.Updating.Facts.{HasComeTo, HasPiece, HasShape, HasField, UpdateFacts}
use Rattle.cycle_steps.specs.Updating.Laws.{UpdatingSteps}
use Rattle.cycle_steps.proofs.Updating.Facts.{can_update_stays}
use Rattle.cycle_steps.proofs.Updating.Pieces.{limit_short, tams_short, piece_shape, shape_words}
use Rattle.cycle_steps.proofs.Updating.UnitSteps.{spot_then, each_updates}

-- a word of the heap is one by test
word_there : (config : Config) (address : ℕ) → IsWord config (Heap address) → is_word config (Heap address) ≡ true
word_there config address word_is = and_from _ _ (le-leb _ _ word_is.0) (lt-ltb _ _ word_is.1)

module _ (config : Config) (world : World) (shared : Shared config world) (is_updating : world.memory Phase ≡ updating_phase) where
  -- a word of a piece is one of the heap
  piece_heap : (address other_address : ℕ) (piece : Block) → world.block address ≡ Some piece → address ≤ other_address → other_address < address + words_of piece → IsWord config (Heap other_address)
  piece_heap address word_address piece piece_there at_most word_below =
      let ends_inside = piece_inside config (λ region. world.memory (Top region)) world.block shared.parsable.plotted address piece piece_there in
      (omega (arith, ends_inside.0, at_most), omega (arith, ends_inside.1, word_below))

  -- so is one of a piece with a shape word, up to its last reference
  shape_heap : (address shape offset : ℕ) → HasShape world address shape → offset < 3 + refs_in shape → IsWord config (Heap (address + offset))
  shape_heap address shape offset shape_there offset_below =
      let piece = shape_words config world shared is_updating address shape shape_there in
      piece_heap address (address + offset) piece.0 piece.1 (omega arith) (let has_words = piece.2 in omega (arith, offset_below, has_words))

  -- the first word of what a walk comes to
  any_heap : (address : ℕ) → HasPiece world address → IsWord config (Heap address)
  any_heap address (inl piece) = subst (λ address. IsWord config (Heap address)) (omega arith) (shape_heap address (world.memory (Heap (address + 1))) 0 (piece_shape config world shared is_updating address piece) (omega arith))
  any_heap address (inr fills) = piece_heap address address (filler fills.0) fills.1 (omega arith) (let some_words = shared.parsable.fillers address fills.0 fills.1 in omega (arith, some_words))

  -- the numbers of a walk are in range
  walk_there : (walk : Walk) (address : ℕ) → HasComeTo config world walk address → walk_fits config walk ≡ true
  walk_there walk address walked =
      let region_within = walked.unit.0 in
      let limit_is = walked.limit_is in
      let tams_is = walked.tams_is in
      let short_limit = limit_short config world shared is_updating walk.region region_within in
      let low_tams = tams_short config world shared is_updating walk.region region_within in
      and_from _ _ (lt-ltb _ _ region_within) (and_from _ _ (le-leb walk.limit config.region_words (omega (arith, limit_is, short_limit))) (le-leb walk.tams config.region_words (omega (arith, tams_is, low_tams))))

  -- so are those of an object
  visit_there : (visit : Visit) → HasComeTo config world visit.walk visit.address → HasShape world visit.address visit.shape → visit_fits config visit ≡ true
  visit_there visit walked shape_there =
      let first_heap : IsWord config (Heap visit.address) = subst (λ any_address. IsWord config (Heap any_address)) (omega arith) (shape_heap visit.address visit.shape 0 shape_there (omega arith)) in
      let last_heap : IsWord config (Heap (visit.address + 2 + refs_in visit.shape)) = subst (λ any_address. IsWord config (Heap any_address)) (omega arith) (shape_heap visit.address visit.shape (2 + refs_in visit.shape) shape_there (omega arith)) in
      and_from _ _ (walk_there visit.walk visit.address walked) (and_from _ _ (word_there config visit.address first_heap) (word_there config (visit.address + 2 + refs_in visit.shape) last_heap))

  -- and those of one with a reference
  field_there : (visit : Visit) (field : ℕ) → HasField config world visit field → has_field config visit field ≡ true
  field_there visit field holds_field = and_from _ _ (visit_there visit holds_field.walked (inl (holds_field.alive, holds_field.shape_is))) (lt-ltb _ _ holds_field.below)

  -- the word of a reference
  field_heap : (visit : Visit) (field : ℕ) → HasField config world visit field → IsWord config (Heap (visit.address + 3 + field))
  field_heap visit field holds_field =
      let field_below = holds_field.below in
      subst (λ any_address. IsWord config (Heap any_address)) (omega arith) (shape_heap visit.address visit.shape (3 + field) (inl (holds_field.alive, holds_field.shape_is)) (omega (arith, field_below)))

  -- the header of an old copy
  found_heap : (found refs nums target : ℕ) (name : Name) → world.block found ≡ Some (moved name refs nums target) → IsWord config (Heap found)
  found_heap found refs nums target name moved_there = piece_heap found found (moved name refs nums target) moved_there (omega arith) (omega arith)

  -- the numbers of the spot are in range
  pub ready_there : (spot : UpdateSpot) → UpdateFacts config world spot → is_ready config spot ≡ true
  ready_there LoadClaim facts = refl
  ready_there (ClaimUnit unit) facts = lt-ltb _ _ facts
  ready_there (LoadLimit region) facts = lt-ltb _ _ facts.0
  ready_there (LoadTams region limit) facts =
      let limit_is = facts.1 in
      let short_limit = limit_short config world shared is_updating region facts.0.0 in
      and_from _ _ (lt-ltb _ _ facts.0.0) (le-leb limit config.region_words (omega (arith, limit_is, short_limit)))
  ready_there (LoadFirst walk address) facts = and_from _ _ (walk_there walk address facts.0) (word_there config address (any_heap address facts.1))
  ready_there (LoadShape walk address) facts =
      let shape_there = piece_shape config world shared is_updating address facts.1 in
      let first_heap : IsWord config (Heap address) = subst (λ address. IsWord config (Heap address)) (omega arith) (shape_heap address (world.memory (Heap (address + 1))) 0 shape_there (omega arith)) in
      and_from _ _ (walk_there walk address facts.0) (and_from _ _ (word_there config address first_heap) (word_there config (address + 1) (shape_heap address (world.memory (Heap (address + 1))) 1 shape_there (omega arith))))
  ready_there (LoadBlack visit) facts = visit_there visit facts.0 facts.1
  ready_there (LoadField visit field) facts = field_there visit field facts
  ready_there (LoadHeader visit field found) facts = and_from _ _ (field_there visit field facts.0) (word_there config found (found_heap found facts.1.1.refs facts.1.1.nums facts.1.0 facts.1.1.name facts.1.1.old))
  ready_there (ExchangeField visit field found copy) facts = field_there visit field facts.0
  ready_there (Ended unit) facts = refl

  -- the next access is of the table
  pub update_inside : (spot : UpdateSpot) → UpdateFacts config world spot → IsWord config (touch_at config spot).word
  update_inside LoadClaim facts = tt
  update_inside (ClaimUnit unit) facts = tt
  update_inside (LoadLimit region) facts = facts.0
  update_inside (LoadTams region limit) facts = facts.0.0
  update_inside (LoadFirst walk address) facts = any_heap address facts.1
  update_inside (LoadShape walk address) facts = shape_heap address (world.memory (Heap (address + 1))) 1 (piece_shape config world shared is_updating address facts.1) (omega arith)
  update_inside (LoadBlack visit) facts = word_inside config visit.address (subst (λ address. IsWord config (Heap address)) (omega arith) (shape_heap visit.address visit.shape 0 facts.1 (omega arith)))
  update_inside (LoadField visit field) facts = field_heap visit field facts
  update_inside (LoadHeader visit field found) facts = found_heap found facts.1.1.refs facts.1.1.nums facts.1.0 facts.1.1.name facts.1.1.old
  update_inside (ExchangeField visit field found copy) facts = field_heap visit field facts.0
  update_inside (Ended unit) facts = tt

  -- of the words of copies in the collection set none is accessed by more than loads, for the objects of a unit lie outside
  pub update_spares : (spot : UpdateSpot) (address offset : ℕ) (body : Body) → UpdateFacts config world spot → body_at (world.block address) ≡ Some body → IsCollected config (world.memory Cset) address → offset < body_words body → (touch_at config spot).word ≡ Heap (address + offset)
      → (touch_at config spot).form ≡ loads
  update_spares (ClaimUnit unit) address offset body facts body_there address_inside offset_below word = absurd (cc (word))
  update_spares (ExchangeField visit field found copy) address offset body facts body_there address_inside offset_below word =
      let same_place : visit.address + 3 + field ≡ address + offset = cc in
      let holds_field = facts.0 in
      let holder = facts.1.holder in
      let piece = shape_words config world shared is_updating visit.address visit.shape (inl (holds_field.alive, holds_field.shape_is)) in
      let copied_piece = body_piece (world.block address) body body_there in
      let field_below = holds_field.below in
      let same_object : visit.address ≡ address = one_piece config (λ any_region. world.memory (Top any_region)) world.block shared.parsable.plotted visit.address address (visit.address + 3 + field) piece.0 copied_piece.0 piece.1 copied_piece.1
      (omega arith) (let has_words = piece.2 in omega (arith, has_words, field_below)) (omega (arith, same_place)) (let has_words = copied_piece.2 in omega (arith, same_place, has_words, offset_below)) in
      absurd ((shared.updated is_updating).outside visit.address holder.1 holder.2 holder.0 holder.3 (subst (λ any_place. IsCollected config (world.memory Cset) any_place) (sym same_object) address_inside))
  update_spares _ address offset body facts body_there address_inside offset_below word = refl

-- what the steps owe
pub updating_steps : UpdatingSteps
updating_steps = record {
  begins = λ some_config old_world seat seated is_updating idle nothing. record {
    seated = seated;
    phase = is_updating;
    set_is = refl;
    copying = nothing.copying;
    working = idle;
    records_none = nothing.records_none;
    scanning = nothing.scans_none;
    rooms = nothing.rooms;
    facts = tt;
  };
  steps = λ config seat cset. record {
    stands = λ world spot shared can_update. record {
      stays = λ later_world rely. can_update_stays config world later_world seat cset spot shared (keeps_of config seat world later_world rely) rely can_update;
      inside = update_inside config world shared can_update.phase spot can_update.facts;
    };
    goes = λ old_world spot going shared can_update.
        let step = each_updates config old_world seat cset spot going shared can_update in
        record { step = step; fits = ready_there config step.world step.shared step.own.phase (spot_then config old_world cset spot) step.own.facts };
  };
  ready = λ some_config old_world seat cset spot shared can_update. ready_there some_config old_world shared can_update.phase spot can_update.facts;
  spares = λ some_config old_world seat cset spot copy_address offset body shared can_update piece_there inside offset_below word. update_spares some_config old_world shared can_update.phase spot copy_address offset body can_update.facts piece_there inside offset_below word;
}
