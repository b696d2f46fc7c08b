-- Where copies and room in hand lie, and what the words of copies say.
use Rattle.std.proofs.Common.{◌≡◌, ℕ, ◌+◌, ◌*◌, ◌<◌, ◌≤◌, ⊎_elim, true, Some, refl, sym, ap, ◌∙◌, subst, arith}
use Rattle.std.proofs.lemmas.Bool.{and_from, le-leb}
use Rattle.std.proofs.lemmas.Bool.Decides.{nat_tests}
use Rattle.heap_words.specs.declared.config.Config.{Config}
use Rattle.heap_words.specs.Words.{Top, Heap, Cset, is_word}
use Rattle.heap_words.specs.Encoding.{shape_word, object_words}
use Rattle.heap_words.proofs.Shapes.{refs_in-shape_word, nums_in-shape_word}
use Rattle.heap_world.specs.World.{World, Block, thing, spent, hand, promised, words_of, Body, body_at, body_words, IsCollected, HasCopy, IsMarkable, Shared}
use Rattle.heap_world.proofs.Pointing.{copy_cases, body_piece, piece_inside}
use Rattle.load_barrier.specs.Fit.{has_words, is_object}

module _ (config : Config) (world : World) (shared : Shared config world) where
  -- a copy's shape word
  pub body_shape : (address : ℕ) (body : Body) → body_at (world.block address) ≡ Some body → (world.memory (Heap (address + 1)) ≡ shape_word body.refs body.nums) × (body.refs ≤ 16) × (body.nums ≤ 16)
  body_shape address body has_body = ⊎_elim
      (λ is_current. let object = (shared.contents.objects.each address body.refs body.nums body.name is_current).2 in (object.shape, object.few_refs, object.few_nums))
      (λ is_old. let old = shared.evacuated.moved.moveds address body.refs body.nums is_old.0 body.name is_old.1 in (old.shape, old.few_refs, old.few_nums))
      (copy_cases (world.block address) body has_body)

  -- says how many words the object has
  pub body_long : (address : ℕ) (body : Body) → body_at (world.block address) ≡ Some body → object_words (world.memory (Heap (address + 1))) ≡ body_words body
  body_long address body has_body =
      let shape = body_shape address body has_body in
      ap object_words shape.0 ∙ (let refs = refs_in-shape_word body.refs body.nums shape.1 shape.2 in let nums = nums_in-shape_word body.refs body.nums shape.1 shape.2 in omega (arith, refs, nums))

  -- and it has 3 to 35
  pub body_small : (address : ℕ) (body : Body) → body_at (world.block address) ≡ Some body → body_words body ≤ 35
  body_small address body has_body = let shape = body_shape address body has_body in let refs = shape.1 in let nums = shape.2 in omega (arith, refs, nums)

  -- a piece lies in the heap
  pub piece_lies : (address : ℕ) (piece : Block) → world.block address ≡ Some piece → has_words config address (words_of piece) ≡ true
  piece_lies address piece has_piece =
      let piece_within = piece_inside config (λ region. world.memory (Top region)) world.block shared.parsable.plotted address piece has_piece in
      and_from _ _ (le-leb _ _ piece_within.0) (le-leb _ _ piece_within.1)

  -- so does an object
  pub body_lies : (address : ℕ) (body : Body) → body_at (world.block address) ≡ Some body → is_object config address (body_words body) ≡ true
  body_lies address body has_body =
      let piece = body_piece (world.block address) body has_body in
      and_from _ _
      (and_from _ _ (le-leb 3 (body_words body) (omega arith)) (le-leb _ _ (body_small address body has_body)))
      (subst (λ words. has_words config address words ≡ true) piece.2 (piece_lies address piece.0 piece.1))

  -- a word of a piece is one of the heap
  pub piece_word_is : (address offset : ℕ) (piece : Block) → world.block address ≡ Some piece → offset < words_of piece → is_word config (Heap (address + offset)) ≡ true
  piece_word_is address offset piece has_piece offset_below =
      let piece_within = piece_inside config (λ region. world.memory (Top region)) world.block shared.parsable.plotted address piece has_piece in
      let heap_word : config.region_words ≤ address + offset = omega (arith, piece_within.0) in
      let word_below : address + offset < (config.regions + 1) * config.region_words = omega (arith, piece_within.1, offset_below) in
      grind (arith, nat_tests)

  -- and so is its first
  pub piece_begins : (address : ℕ) (piece : Block) → world.block address ≡ Some piece → 1 ≤ words_of piece → is_word config (Heap address) ≡ true
  piece_begins address piece has_piece words_positive =
      let piece_within = piece_inside config (λ region. world.memory (Top region)) world.block shared.parsable.plotted address piece has_piece in
      let heap_address : config.region_words ≤ address = piece_within.0 in
      let address_below : address < (config.regions + 1) * config.region_words = omega (arith, piece_within.1, words_positive) in
      grind (arith, nat_tests)

  -- a copy is a piece
  pub copy_piece : (address : ℕ) → HasCopy world.block address → (piece : Block) × (world.block address ≡ Some piece) × (3 ≤ words_of piece)
  copy_piece address (HasCopy.copy body copy_there) = let piece = body_piece (world.block address) body copy_there in (piece.0, piece.1, (let long_enough = piece.2 in omega (arith, long_enough)))
  copy_piece address (HasCopy.spent_copy words moved_to copy_there) = (spent words moved_to, copy_there, shared.parsable.spents address words moved_to copy_there)

  -- what can be marked is a piece
  pub markable_piece : (address : ℕ) → IsMarkable world.block address → (piece : Block) × (world.block address ≡ Some piece) × (3 ≤ words_of piece)
  markable_piece address (IsMarkable.object name refs nums markable) = (thing name refs nums, markable, omega arith)
  markable_piece address (IsMarkable.to_come seat words markable) = (promised seat words, markable, shared.parsable.promises address seat words markable)

  module _ (copy seat words : ℕ) (room_there : world.block copy ≡ Some (hand seat words)) where
    -- room in hand lies outside the collection set
    pub room_outside : IsCollected config (world.memory Cset) copy → ⊥
    room_outside copy_collected = shared.evacuated.aside.no_rooms copy seat (hand seat words) room_there refl copy_collected

    -- and it is no copy
    pub room_no_copy : (body : Body) → body_at (world.block copy) ≡ Some body → ⊥
    room_no_copy body has_body = (let same_body = sym has_body ∙ ap body_at room_there in cc)
