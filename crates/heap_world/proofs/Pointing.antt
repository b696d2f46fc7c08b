-- Words that stand for references: null is 0 and nothing else, and one object has one address.
use Rattle.std.proofs.Common.{◌≡◌, ◌≢◌, ℕ, ◌+◌, ◌*◌, ◌^◌, ◌<◌, ◌≤◌, ◌⊎◌, true, Option, Some, None, inl, inr, ⊎_elim, refl, sym, ap, ◌∙◌, arith}
use Rattle.std.proofs.lemmas.Bool.Decides.{nat_tests}
use Rattle.std.proofs.lemmas.Option.{same_Some}
use Rattle.std.proofs.Math.Nat.{mul-le-mul_right}
use Rattle.heap_words.specs.declared.config.Config.{Config}
use Rattle.heap_words.specs.Words.{Heap, is_word}
use Rattle.heap_words.proofs.Bounds.{end_small}
use Rattle.shen_graph.specs.declared.name.Name.{Name}
use Rattle.shen_graph.specs.Graph.{Reference}
use Rattle.heap_world.specs.World.{Block, thing, moved, spent, hand, promised, dead, filler, spare, carved, words_of, room_of, Plot, name_at, Body, body_of, body_at, body_words, Points, IsPlotted}

-- what stands for an object at an address is a copy of it
pub named_body : (found : Option Block) (name : Name) → name_at found ≡ Some name → (refs : ℕ) × (nums : ℕ) × (body_at found ≡ Some (body_of name refs nums))
named_body (Some (thing name refs nums)) asked_name has_name = (refs, nums, ap (λ any_name. Some (body_of any_name refs nums)) (same_Some name asked_name has_name))
named_body (Some (moved name refs nums moved_to)) asked_name has_name = (refs, nums, ap (λ any_name. Some (body_of any_name refs nums)) (same_Some name asked_name has_name))
named_body (Some (spent words moved_to)) name has_name = cc
named_body (Some (hand seat words)) name has_name = cc
named_body (Some (promised seat words)) name has_name = cc
named_body (Some (dead words)) name has_name = cc
named_body (Some (filler words)) name has_name = cc
named_body (Some (spare seat words)) name has_name = cc
named_body (Some (carved seat words)) name has_name = cc
named_body None name has_name = cc

-- a copy stands for the object
pub body_named : (found : Option Block) (body : Body) → body_at found ≡ Some body → name_at found ≡ Some body.name
body_named (Some (thing name refs nums)) body has_body = ap (λ x. Some x.name) (same_Some (body_of name refs nums) body has_body)
body_named (Some (moved name refs nums moved_to)) body has_body = ap (λ x. Some x.name) (same_Some (body_of name refs nums) body has_body)
body_named (Some (spent words moved_to)) body has_body = cc
body_named (Some (hand seat words)) body has_body = cc
body_named (Some (promised seat words)) body has_body = cc
body_named (Some (dead words)) body has_body = cc
body_named (Some (filler words)) body has_body = cc
body_named (Some (spare seat words)) body has_body = cc
body_named (Some (carved seat words)) body has_body = cc
body_named None body has_body = cc

-- a copy is the current one or an old one
pub copy_cases : (found : Option Block) (body : Body) → body_at found ≡ Some body → (found ≡ Some (thing body.name body.refs body.nums)) ⊎ ((moved_to : ℕ) × (found ≡ Some (moved body.name body.refs body.nums moved_to)))
copy_cases (Some (thing name refs nums)) body has_body = inl (ap (λ any_body. Some (thing any_body.name any_body.refs any_body.nums)) (same_Some (body_of name refs nums) body has_body))
copy_cases (Some (moved name refs nums moved_to)) body has_body = inr (moved_to, ap (λ any_body. Some (moved any_body.name any_body.refs any_body.nums moved_to)) (same_Some (body_of name refs nums) body has_body))
copy_cases (Some (spent words moved_to)) body has_body = cc
copy_cases (Some (hand seat words)) body has_body = cc
copy_cases (Some (promised seat words)) body has_body = cc
copy_cases (Some (dead words)) body has_body = cc
copy_cases (Some (filler words)) body has_body = cc
copy_cases (Some (spare seat words)) body has_body = cc
copy_cases (Some (carved seat words)) body has_body = cc
copy_cases None body has_body = cc

-- it is a piece of so many words
pub body_piece : (found : Option Block) (body : Body) → body_at found ≡ Some body → (piece : Block) × (found ≡ Some piece) × (words_of piece ≡ body_words body)
body_piece found body has_body = ⊎_elim (λ is_current. (thing body.name body.refs body.nums, is_current, refl)) (λ is_old. (moved body.name body.refs body.nums is_old.0, is_old.1, refl)) (copy_cases found body has_body)

-- what stands for an object and has not moved is its current copy
pub named_thing : (found : Option Block) (name : Name) → ((refs nums moved_to : ℕ) → found ≡ Some (moved name refs nums moved_to) → ⊥) → name_at found ≡ Some name → (refs : ℕ) × (nums : ℕ) × (found ≡ Some (thing name refs nums))
named_thing found name unmoved has_name =
    let body = named_body found name has_name in
    (body.0, body.1, ⊎_elim (λ is_current. is_current) (λ is_old. absurd (unmoved body.0 body.1 is_old.0 is_old.1)) (copy_cases found (body_of name body.0 body.1) body.2))

-- room stands for no object
pub room_unnamed : (piece : Block) (seat : ℕ) → room_of piece ≡ Some seat → name_at (Some piece) ≡ None
room_unnamed (thing name refs nums) seat has_room = cc
room_unnamed (moved name refs nums moved_to) seat has_room = cc
room_unnamed (spent words moved_to) seat has_room = cc
room_unnamed (hand room_seat words) seat has_room = refl
room_unnamed (promised room_seat words) seat has_room = cc
room_unnamed (dead words) seat has_room = cc
room_unnamed (filler words) seat has_room = cc
room_unnamed (spare room_seat words) seat has_room = refl
room_unnamed (carved room_seat words) seat has_room = refl

-- a piece stands where a name does
pub named_piece : (found : Option Block) (name : Name) → name_at found ≡ Some name → (piece : Block) × (found ≡ Some piece) × (name_at (Some piece) ≡ Some name)
named_piece (Some piece) name has_name = (piece, refl, has_name)
named_piece None name has_name = cc

module _ (config : Config) (top : ℕ → ℕ) (block : Plot) (plotted : IsPlotted config top block) where
  -- the words of a piece are words of the heap
  pub piece_inside : (address : ℕ) (piece : Block) → block address ≡ Some piece → (config.region_words ≤ address) × (address + words_of piece ≤ (config.regions + 1) * config.region_words)
  piece_inside address piece has_piece =
      let used = plotted.in_use address piece has_piece in
      let top_within : top used.region ≤ config.region_words = plotted.tops used.region used.within in
      let base_in_heap : 1 * config.region_words ≤ (used.region + 1) * config.region_words = mul-le-mul_right config.region_words (omega arith) in
      let region_in_heap : (used.region + 1 + 1) * config.region_words ≤ (config.regions + 1) * config.region_words = mul-le-mul_right config.region_words (omega (arith, used.within)) in
      (omega (arith, base_in_heap, used.from_base), omega (arith, region_in_heap, top_within, used.to_top))

  -- each word of a piece is a word of the heap
  pub piece_word : (address offset : ℕ) (piece : Block) → block address ≡ Some piece → offset < words_of piece → is_word config (Heap (address + offset)) ≡ true
  piece_word address offset piece has_piece offset_below =
      let whole_inside = piece_inside address piece has_piece in
      let address_past_start : config.region_words ≤ address + offset = omega (arith, whole_inside.0) in
      let address_below_end : address + offset < (config.regions + 1) * config.region_words = omega (arith, whole_inside.1, offset_below) in
      grind (arith, nat_tests)

  -- no piece is at 0
  none_at_0 : (piece : Block) → block 0 ≡ Some piece → ⊥
  none_at_0 piece has_piece = let whole_inside = piece_inside 0 piece has_piece in let enough_words = config.in_range.least_words in omega (arith, whole_inside.0, enough_words)

  -- a word that stands for null is 0, and 0 stands for nothing else
  pub null_if_0 : (word : ℕ) (reference : Reference) → Points block word reference → word ≡ 0 → reference ≡ None
  null_if_0 word None points null_word = refl
  null_if_0 word (Some name) points null_word =
      let piece = named_piece (block 0) name (ap (λ address. name_at (block address)) (sym null_word) ∙ points) in
      absurd (none_at_0 piece.0 piece.1)

  -- a word that is not 0 stands for a name
  pub named_if_not_0 : (word : ℕ) (reference : Reference) → Points block word reference → word ≢ 0 → (name : Name) × (reference ≡ Some name) × (name_at (block word) ≡ Some name)
  named_if_not_0 word None points not_null = absurd (not_null points)
  named_if_not_0 word (Some name) points not_null = (name, refl, points)

  -- the address of a piece is small
  pub piece_small : (address : ℕ) (piece : Block) → block address ≡ Some piece → address < 2 ^ 32
  piece_small address piece has_piece =
      let whole_inside = piece_inside address piece has_piece in
      let small_end = end_small config in
      omega (arith, whole_inside.1, small_end)

  -- and so is a word that stands for a reference
  pub points_small : (word : ℕ) (reference : Reference) → Points block word reference → word < 2 ^ 32
  points_small word None points = omega (arith, points)
  points_small word (Some name) points = let piece = named_piece (block word) name points in piece_small word piece.0 piece.1
