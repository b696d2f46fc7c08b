-- The pieces of a unit of updating, how long they are, and what their references name.
use Rattle.heap_words.specs.Phases.{updating_phase}
use Rattle.std.proofs.Common.{◌≡◌, ℕ, ◌+◌, ◌<◌, ◌≤◌, ◌⊎◌, true, false, Some, None, length, ⊎_elim, inl, inr, refl, sym, ap, ◌∙◌, subst, arith}
use Rattle.std.specs.Prelude.{◌==◌}
use Rattle.std.specs.Int.{bit_at}
use Rattle.std.proofs.lemmas.Bool.{cases_Bool, eq-eqb, eqb-true, and_from, and_left, and_right}
use Rattle.std.proofs.lemmas.Bool.Decides.{nat_tests}
use Rattle.std.proofs.lemmas.Option.{slice_get-get_or}
use Rattle.heap_words.specs.declared.config.Config.{Config}
use Rattle.heap_words.specs.Encoding.{filler_words_in, refs_in, object_words, shape_word}
use Rattle.heap_words.proofs.Shapes.{refs_in-shape_word}
use Rattle.heap_words.specs.Words.{Phase, Cset, Top, Tams, Limit, Heap, is_word}
use Rattle.regions.specs.Place.{base_of, region_with}
use Rattle.regions.specs.Sets.{IsIn}
use Rattle.shen_graph.specs.declared.name.Name.{Name}
use Rattle.shen_graph.specs.Graph.{Reference}
use Rattle.heap_world.specs.World.{World, Block, thing, moved, spent, hand, promised, dead, filler, spare, carved, words_of, room_of, Points, body_of, IsMarkable, IsCurrent, Shared}
use Rattle.heap_world.proofs.Pointing.{named_body, copy_cases, piece_word}
use Rattle.unit_part.specs.declared.update_spot.Walk.{Walk}
use Rattle.unit_part.specs.declared.update_spot.Visit.{Visit}
use Rattle.unit_part.specs.UpdateRows.{limit_of, names_set}
use Rattle.cycle_steps.proofs.Evacuation.Walks.{region_is, filler_fills}
use Rattle.cycle_steps.specs.Updating.Facts.{IsUnit, HasComeTo, IsPiece, HasPiece, HasShape, HasField, HasFound}

-- the words of an object with so many references and numbers
shaped : (refs nums : ℕ) → refs ≤ 16 → nums ≤ 16 → object_words (shape_word refs nums) ≡ 3 + refs + nums
shaped refs nums few_refs few_nums = omega arith

module _ (config : Config) (world : World) (shared : Shared config world) (phase_three : world.memory Phase ≡ updating_phase) where
  -- a limit is no more than the top, and so not past the region
  pub limit_short : (region : ℕ) → region < config.regions → world.memory (Limit region) ≤ config.region_words
  limit_short region region_within =
      let low_limit = (shared.updated phase_three).limits region region_within in
      let top_within = shared.parsable.plotted.tops region region_within in
      omega (arith, low_limit, top_within)

  -- nor is the top at mark start
  pub tams_short : (region : ℕ) → region < config.regions → world.memory (Tams region) ≤ config.region_words
  tams_short region region_within =
      let low_tams = (shared.evacuated.kept (omega (arith, phase_three))).floors region region_within in
      let top_within = shared.parsable.plotted.tops region region_within in
      omega (arith, low_tams, top_within)

  -- a walk stays in its region
  pub walked_region : (walk : Walk) (address : ℕ) → HasComeTo config world walk address → region_with config address ≡ walk.region
  walked_region walk address walked =
      let walk_below = walked.before in
      let limit_is = walked.limit_is in
      let short_limit = limit_short walk.region walked.unit.0 in
      region_is config walk.region address walked.from_base (omega (arith, walk_below, limit_is, short_limit))

  -- no piece of a unit below its limit is room
  no_room_below : (region address seat : ℕ) (piece : Block) → region_with config address ≡ region → address < base_of config region + world.memory (Limit region) → world.block address ≡ Some piece → room_of piece ≡ Some seat → ⊥
  no_room_below region address seat piece same_region below_limit piece_there room_piece =
      let young : base_of config region + world.memory (Limit region) ≤ address = subst (λ region. base_of config region + world.memory (Limit region) ≤ address) same_region ((shared.updated phase_three).young address seat piece piece_there room_piece) in
      omega (arith, below_limit, young)

  -- it is an object, a promised one, or a dead one, or only fills
  pub piece_of_unit : (region address : ℕ) (piece : Block) → IsUnit config world region → region_with config address ≡ region → address < base_of config region + world.memory (Limit region) → world.block address ≡ Some piece → HasPiece world address
  piece_of_unit region address (thing name refs nums) unit same_region below_limit piece_there = inl (inl (IsMarkable.object name refs nums piece_there))
  piece_of_unit region address (moved name refs nums new_address) unit same_region below_limit piece_there =
      absurd (unit.1 (subst (λ some_region. IsIn (world.memory Cset) some_region) same_region (shared.evacuated.moved.moveds address refs nums new_address name piece_there).inside))
  piece_of_unit region address (spent words new_address) unit same_region below_limit piece_there =
      absurd (unit.1 (subst (λ some_region. IsIn (world.memory Cset) some_region) same_region (shared.evacuated.moved.spents address words new_address piece_there).inside))
  piece_of_unit region address (hand seat words) unit same_region below_limit piece_there = absurd (no_room_below region address seat (hand seat words) same_region below_limit piece_there refl)
  piece_of_unit region address (promised seat words) unit same_region below_limit piece_there = inl (inl (IsMarkable.to_come seat words piece_there))
  piece_of_unit region address (dead words) unit same_region below_limit piece_there = inl (inr (words, piece_there))
  piece_of_unit region address (filler words) unit same_region below_limit piece_there = inr (words, piece_there)
  piece_of_unit region address (spare seat words) unit same_region below_limit piece_there = absurd (no_room_below region address seat (spare seat words) same_region below_limit piece_there refl)
  piece_of_unit region address (carved seat words) unit same_region below_limit piece_there = absurd (no_room_below region address seat (carved seat words) same_region below_limit piece_there refl)

  -- a walk comes to a piece below the limit
  pub walks_to : (walk : Walk) (address : ℕ) (piece : Block) → IsUnit config world walk.region → walk.limit ≡ world.memory (Limit walk.region) → walk.tams ≡ world.memory (Tams walk.region)
      → base_of config walk.region ≤ address → address < limit_of config walk → world.block address ≡ Some piece → HasComeTo config world walk address × HasPiece world address
  walks_to walk address piece unit limit_is tams_is from_base address_before piece_there =
      let walked : HasComeTo config world walk address = record { unit = unit; limit_is = limit_is; tams_is = tams_is; from_base = from_base; before = address_before } in
      (walked, piece_of_unit walk.region address piece unit (walked_region walk address walked) (omega (arith, address_before, limit_is)) piece_there)

  -- behind a piece of a walk there is another one, if the limit is not reached
  pub walks_on : (walk : Walk) (address : ℕ) (piece : Block) → HasComeTo config world walk address → world.block address ≡ Some piece → address + words_of piece < limit_of config walk
      → HasComeTo config world walk (address + words_of piece) × HasPiece world (address + words_of piece)
  walks_on walk address piece walked piece_there before_limit =
      let limit_is = walked.limit_is in
      let low_limit = (shared.updated phase_three).limits walk.region walked.unit.0 in
      let next_piece = shared.parsable.filled.next walk.region address piece walked.unit.0 walked.from_base piece_there (omega (arith, before_limit, limit_is, low_limit)) in
      walks_to walk (address + words_of piece) next_piece.0 walked.unit walked.limit_is walked.tams_is (let from = walked.from_base in omega (arith, from)) before_limit next_piece.1

  -- the header of a piece is none of words that only fill
  pub piece_header : (address : ℕ) → IsPiece world address → filler_words_in (world.memory (Heap address)) ≡ None
  piece_header address (inl (IsMarkable.object name refs nums piece_there)) = ap filler_words_in (shared.contents.objects.each address refs nums name piece_there).2.header
  piece_header address (inl (IsMarkable.to_come seat words piece_there)) = ap filler_words_in (shared.unwritten.blanks address seat words piece_there).header
  piece_header address (inr fills) = ap filler_words_in (shared.unwritten.headers address fills.0 fills.1)

  -- and that of such words tells how many they are
  pub filler_tells : (address words : ℕ) → world.block address ≡ Some (filler words) → filler_words_in (world.memory (Heap address)) ≡ Some words
  filler_tells address words filler_there = filler_fills (world.memory (Heap address)) words (shared.unwritten.fillers address words filler_there)

  -- the shape word of a piece
  pub piece_shape : (address : ℕ) → IsPiece world address → HasShape world address (world.memory (Heap (address + 1)))
  piece_shape address (inl alive) = inl (alive, refl)
  piece_shape address (inr fills) = inr (fills.0, fills.1, shared.unwritten.lengths address fills.0 fills.1)

  -- says how many words it has
  pub shape_words : (address shape : ℕ) → HasShape world address shape → (piece : Block) × (world.block address ≡ Some piece) × (object_words shape ≡ words_of piece)
  shape_words address shape (inl (IsMarkable.object name refs nums piece_there, same_shape)) =
      let object_told = (shared.contents.objects.each address refs nums name piece_there).2 in
      (thing name refs nums, piece_there, ap object_words (same_shape ∙ object_told.shape) ∙ shaped refs nums object_told.few_refs object_told.few_nums)
  shape_words address shape (inl (IsMarkable.to_come seat words piece_there, same_shape)) =
      let blank = shared.unwritten.blanks address seat words piece_there in
      (promised seat words, piece_there, ap object_words (same_shape ∙ blank.shape) ∙ shaped blank.refs blank.nums blank.few_refs blank.few_nums ∙ sym blank.long)
  shape_words address shape (inr fills) = (dead fills.0, fills.1, fills.2)

  -- and that of an object how many references
  pub shape_refs : (address shape refs nums : ℕ) (name : Name) → world.block address ≡ Some (thing name refs nums) → HasShape world address shape → refs_in shape ≡ refs
  shape_refs address shape refs nums name object_there (inl object) =
      let object_told = (shared.contents.objects.each address refs nums name object_there).2 in
      ap refs_in (object.1 ∙ object_told.shape) ∙ refs_in-shape_word refs nums object_told.few_refs object_told.few_nums
  shape_refs address shape refs nums name object_there (inr fills) = (let same_piece : Some (dead fills.0) ≡ Some (thing name refs nums) = sym fills.1 ∙ object_there in absurd (cc (same_piece)))

  -- a word that stands for a reference, of an object of the graph, is current, or an old copy's address
  reference_word : (visit : Visit) (field : ℕ) (name : Name) (refs nums : ℕ) → world.block visit.address ≡ Some (thing name refs nums) → (reference : Reference) → Points world.block (world.memory (Heap (visit.address + 3 + field))) reference
      → IsCurrent world.block (world.memory (Heap (visit.address + 3 + field))) ⊎ ((new_address : ℕ) × HasFound world visit field (world.memory (Heap (visit.address + 3 + field))) new_address)
  reference_word visit field name refs nums object_there None points = inl (IsCurrent.null points)
  reference_word visit field name refs nums object_there (Some named) points =
      let word : ℕ = world.memory (Heap (visit.address + 3 + field)) in
      let body = named_body (world.block word) named points in
      ⊎_elim
      (λ (copy_there : world.block word ≡ Some (thing named body.0 body.1)). inl (IsCurrent.names body.0 body.1 named copy_there))
      (λ (old_there : (new_address : ℕ) × (world.block word ≡ Some (moved named body.0 body.1 new_address))).
      inr (old_there.0, record { holder = (name, refs, nums, object_there); refs = body.0; nums = body.1; name = named; old = old_there.1; still = inl refl }))
      (copy_cases (world.block word) (body_of named body.0 body.1) body.2)

  -- so is each reference to which a walk comes
  pub field_word : (visit : Visit) (field : ℕ) → HasField config world visit field
      → IsCurrent world.block (world.memory (Heap (visit.address + 3 + field))) ⊎ ((new_address : ℕ) × HasFound world visit field (world.memory (Heap (visit.address + 3 + field))) new_address)
  field_word visit field has_field = by_object has_field.alive
    where
      by_object : IsMarkable world.block visit.address → IsCurrent world.block (world.memory (Heap (visit.address + 3 + field))) ⊎ ((new_address : ℕ) × HasFound world visit field (world.memory (Heap (visit.address + 3 + field))) new_address)
      by_object (IsMarkable.object name refs nums object_there) =
          let of_graph = shared.contents.objects.each visit.address refs nums name object_there in
          let object_told = of_graph.2 in
          let all_refs : refs_in visit.shape ≡ refs = shape_refs visit.address visit.shape refs nums name object_there (inl (has_field.alive, has_field.shape_is)) in
          let field_within : field < length of_graph.0.refs = (let refs_are = object_told.refs_are in let field_below = has_field.below in omega (arith, field_below, all_refs, refs_are)) in
          reference_word visit field name refs nums object_there _ (object_told.references field _ (slice_get-get_or of_graph.0.refs field None field_within))
      by_object (IsMarkable.to_come seat words object_there) =
          let blank = shared.unwritten.blanks visit.address seat words object_there in
          let all_refs : refs_in visit.shape ≡ blank.refs = ap refs_in (has_field.shape_is ∙ blank.shape) ∙ refs_in-shape_word blank.refs blank.nums blank.few_refs blank.few_nums in
          inl (IsCurrent.null (blank.nulls field (let field_below = has_field.below in omega (arith, field_below, all_refs))))

  -- a word that is current does not name the set
  pub current_names_none : (address : ℕ) → IsCurrent world.block address → names_set config (world.memory Cset) address ≡ false
  current_names_none address (IsCurrent.null object_there) =
      let some_words = config.in_range.least_words in
      and_left (is_word config (Heap address)) _ (grind (arith, nat_tests, object_there, some_words))
  current_names_none address (IsCurrent.names refs nums name object_there) = and_right (is_word config (Heap address)) _ (⊎_elim
      (λ (address_inside : (bit_at (world.memory Cset) (region_with config address) == 1) ≡ true). absurd ((shared.updated phase_three).outside address refs nums name object_there (eqb-true _ _ address_inside)))
      (λ (outside : (bit_at (world.memory Cset) (region_with config address) == 1) ≡ false). outside)
      (cases_Bool (bit_at (world.memory Cset) (region_with config address) == 1)))

  -- and an address of an old copy does
  pub old_names_set : (address refs nums new_address : ℕ) (name : Name) → world.block address ≡ Some (moved name refs nums new_address) → names_set config (world.memory Cset) address ≡ true
  old_names_set address refs nums new_address name old_there = and_from (is_word config (Heap address)) (bit_at (world.memory Cset) (region_with config address) == 1)
      (ap (λ address. is_word config (Heap address)) (omega arith) ∙ piece_word config (λ region. world.memory (Top region)) world.block shared.parsable.plotted address 0 (moved name refs nums new_address) old_there (omega arith))
      (eq-eqb _ _ (shared.evacuated.moved.moveds address refs nums new_address name old_there).inside)
