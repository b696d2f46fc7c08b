-- In a region that is free no piece begins, so that nothing that names a piece names the region.
use Rattle.std.proofs.Common.{◌≡◌, ℕ, ◌+◌, ◌*◌, ◌<◌, ◌≤◌, Some, None, inl, inr, subst, arith}
use Rattle.std.proofs.Math.Nat.{mul-le-mul_right}
use Rattle.heap_words.specs.declared.config.Config.{Config}
use Rattle.heap_words.specs.Words.{Free, Top}
use Rattle.regions.specs.Place.{base_of, region_with, IsOf}
use Rattle.regions.specs.Sets.{IsIn}
use Rattle.regions.proofs.PlaceLemmas.{regions_tile}
use Rattle.shen_graph.specs.declared.name.Name.{Name}
use Rattle.shen_graph.specs.Graph.{Reference}
use Rattle.heap_world.specs.World.{World, Block, thing, spent, promised, words_of, name_at, Body, body_at, Points, TargetIn, UsableIn, HasCopy, IsMarkable, Shared}
use Rattle.heap_world.proofs.Pointing.{named_piece, body_piece}
use Rattle.heap_world.proofs.Pieces.{some_words}
use Rattle.cycle_steps.proofs.Evacuation.Walks.{placed}

module _ (config : Config) (world : World) (shared : Shared config world) (region : ℕ) (region_below : region < config.regions) (region_free : IsIn (world.memory Free) region) where
  -- an address does not lie there
  abbrev pub IsElsewhere : ℕ → Type 0
  IsElsewhere address = IsOf config region address → ⊥

  -- that of a piece
  pub piece_elsewhere : (address : ℕ) (piece : Block) → world.block address ≡ Some piece → IsElsewhere address
  piece_elsewhere address piece piece_there of_region =
      let piece_placed = placed config world shared address piece piece_there in
      let same_region : region_with config address ≡ region = regions_tile.of_no_other config region address of_region in
      let no_top : world.memory (Top region) ≡ 0 = shared.owned.free_word.empty region region_below region_free in
      let words_positive = some_words config (λ region. world.memory (Top region)) world.block shared.parsable shared.owned.rooms address piece piece_there in
      let to_top : address + words_of piece ≤ base_of config region + world.memory (Top region) = subst (λ region. address + words_of piece ≤ base_of config region + world.memory (Top region)) same_region piece_placed.to_top in
      let from = of_region.from in
      omega (arith, to_top, no_top, words_positive, from)

  -- null
  pub null_elsewhere : (null_word : ℕ) → null_word ≡ 0 → IsElsewhere null_word
  null_elsewhere null_word null of_region =
      let from = of_region.from in
      let rows_ordered : 1 * config.region_words ≤ (region + 1) * config.region_words = mul-le-mul_right config.region_words (omega arith) in
      let has_words = config.in_range.least_words in
      omega (arith, null, from, rows_ordered, has_words)

  -- what stands for an object
  pub named_elsewhere : (address : ℕ) (name : Name) → name_at (world.block address) ≡ Some name → IsElsewhere address
  named_elsewhere address name named_there = let piece = named_piece (world.block address) name named_there in piece_elsewhere address piece.0 piece.1

  -- and for a reference
  pub points_elsewhere : (address : ℕ) (reference : Reference) → Points world.block address reference → IsElsewhere address
  points_elsewhere address None null = null_elsewhere address null
  points_elsewhere address (Some name) points_there = named_elsewhere address name points_there

  -- a copy of an object
  pub body_elsewhere : (address : ℕ) (body : Body) → body_at (world.block address) ≡ Some body → IsElsewhere address
  body_elsewhere address body body_there = let piece = body_piece (world.block address) body body_there in piece_elsewhere address piece.0 piece.1

  pub copy_elsewhere : (address : ℕ) → HasCopy world.block address → IsElsewhere address
  copy_elsewhere address (HasCopy.copy body copy_there) = body_elsewhere address body copy_there
  copy_elsewhere address (HasCopy.spent_copy words copy_address copy_there) = piece_elsewhere address (spent words copy_address) copy_there

  -- what may be used
  pub target_elsewhere : (address refs nums : ℕ) (name : Name) → TargetIn config world address refs nums name → IsElsewhere address
  target_elsewhere address refs nums name target_there = piece_elsewhere address (thing name refs nums) target_there.piece

  pub usable_elsewhere : (address : ℕ) → UsableIn config world address → IsElsewhere address
  usable_elsewhere address (inl null) = null_elsewhere address null
  usable_elsewhere address (inr target_there) = target_elsewhere address target_there.1 target_there.2 target_there.0 target_there.3

  -- and what can be marked
  pub markable_elsewhere : (address : ℕ) → IsMarkable world.block address → IsElsewhere address
  markable_elsewhere address (IsMarkable.object name refs nums piece_there) = piece_elsewhere address (thing name refs nums) piece_there
  markable_elsewhere address (IsMarkable.to_come seat words piece_there) = piece_elsewhere address (promised seat words) piece_there
