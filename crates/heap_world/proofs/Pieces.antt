-- Where pieces lie, and the plot with one piece more or another.
use Rattle.std.proofs.Common.{◌≡◌, ◌≢◌, ℕ, ◌+◌, ◌*◌, ◌<◌, ◌≤◌, ◌⊎◌, length, Some, inl, inr, ⊎_elim, sym, ap, ◌∙◌, subst, arith}
use Rattle.std.proofs.lemmas.Bool.{cases_eq, cases_lt}
use Rattle.std.proofs.lemmas.Option.{same_Some, slice_get_within}
use Rattle.std.proofs.Math.Nat.{mul-le-mul_right}
use Rattle.heap_words.specs.declared.config.Config.{Config}
use Rattle.regions.specs.Place.{base_of}
use Rattle.shen_graph.specs.declared.name.Name.{Name}
use Rattle.shen_graph.specs.Graph.{Object}
use Rattle.heap_world.specs.World.{Block, thing, moved, spent, hand, promised, dead, filler, spare, carved, words_of, Plot, name_at, Points, IsPlotted, IsThing, AreRooms, IsParsable}
use Rattle.heap_world.proofs.FunctionUpdates.{updated, updated_same, updated_else}
use Rattle.heap_world.proofs.Keeping.{points_stay}

-- one region lies behind another
pub behind : (config : Config) (region later_region : ℕ) → region < later_region → base_of config region + config.region_words ≤ base_of config later_region
behind config region later_region region_before =
    let more_words : (region + 1 + 1) * config.region_words ≤ (later_region + 1) * config.region_words = mul-le-mul_right config.region_words (omega (arith, region_before)) in
    omega (arith, more_words)

-- a piece has a word at least
pub some_words : (config : Config) (top : ℕ → ℕ) (block : Plot) → IsParsable config top block → AreRooms config block → (address : ℕ) (piece : Block) → block address ≡ Some piece → 1 ≤ words_of piece
some_words config top block parsable rooms_right address (thing name refs nums) has_piece = omega arith
some_words config top block parsable rooms_right address (moved name refs nums moved_to) has_piece = omega arith
some_words config top block parsable rooms_right address (spent words moved_to) has_piece = let long_enough = parsable.spents address words moved_to has_piece in omega (arith, long_enough)
some_words config top block parsable rooms_right address (hand seat words) has_piece = let room_words = rooms_right.hands address seat words has_piece in omega (arith, room_words)
some_words config top block parsable rooms_right address (promised seat words) has_piece = let long_enough = parsable.promises address seat words has_piece in omega (arith, long_enough)
some_words config top block parsable rooms_right address (dead words) has_piece = let long_enough = parsable.deads address words has_piece in omega (arith, long_enough)
some_words config top block parsable rooms_right address (filler words) has_piece = parsable.fillers address words has_piece
some_words config top block parsable rooms_right address (spare seat words) has_piece = rooms_right.spares address seat words has_piece
some_words config top block parsable rooms_right address (carved seat words) has_piece = let room_words = rooms_right.carveds address seat words has_piece in omega (arith, room_words)

-- A piece ends before a region, or lies in its part in use, or begins behind it.
abbrev Beside : Config → (ℕ → ℕ) → ℕ → ℕ → Block → Type 0
Beside config top region address piece =
    (address + words_of piece ≤ base_of config region) ⊎ (((base_of config region ≤ address) × (address + words_of piece ≤ base_of config region + top region)) ⊎ (base_of config region + config.region_words ≤ address))

-- a piece lies beside a region so, or in it
pub beside : (config : Config) (top : ℕ → ℕ) (block : Plot) → IsPlotted config top block → (region address : ℕ) (piece : Block) → block address ≡ Some piece → Beside config top region address piece
beside config top block plotted region address piece has_piece =
    let used = plotted.in_use address piece has_piece in
    let top_within : top used.region ≤ config.region_words = plotted.tops used.region used.within in
    ⊎_elim
    (λ (region_before : used.region < region). let region_behind = behind config used.region region region_before in inl (omega (arith, used.to_top, top_within, region_behind)))
    (λ (not_before : region ≤ used.region). ⊎_elim
    (λ (same_region : region ≡ used.region). inr (inl (subst (λ any_region. (base_of config any_region ≤ address) × (address + words_of piece ≤ base_of config any_region + top any_region)) (sym same_region) (used.from_base, used.to_top))))
    (λ (regions_differ : region ≢ used.region). let region_behind = behind config region used.region (omega (arith, not_before, regions_differ)) in inr (inr (omega (arith, used.from_base, region_behind))))
    (cases_eq region used.region))
    (cases_lt used.region region)

-- with a new piece at an address, a piece is the new one or an old one
pub piece_cases : (block : Plot) (new_address : ℕ) (new : Block) (address : ℕ) (piece : Block) → updated block new_address (Some new) address ≡ Some piece → ((address ≡ new_address) × (new ≡ piece)) ⊎ ((address ≢ new_address) × (block address ≡ Some piece))
piece_cases block given_address new address piece has_piece = ⊎_elim
    (λ (same_address : address ≡ given_address). inl (same_address, same_Some new piece (sym (updated_same block given_address (Some new) address (sym same_address)) ∙ has_piece)))
    (λ (addresses_differ : address ≢ given_address). inr (addresses_differ, sym (updated_else block given_address (Some new) address (λ addresses_equal. addresses_differ (sym addresses_equal))) ∙ has_piece))
    (cases_eq address given_address)

-- an object reads as before where its words are as before and objects stand where they stood
pub object_reads : (heap after : ℕ → ℕ) (block new_plot : Plot) (address refs nums : ℕ) (name : Name) (object : Object)
    → ((offset : ℕ) → offset < 3 + refs + nums → after (address + offset) ≡ heap (address + offset))
    → ((target_address : ℕ) (asked_name : Name) → name_at (block target_address) ≡ Some asked_name → name_at (new_plot target_address) ≡ Some asked_name)
    → IsThing heap block address refs nums name object → IsThing after new_plot address refs nums name object
object_reads heap after block new_plot address refs nums name object words_kept names_kept object_stands = record {
  header = ap after (omega arith) ∙ words_kept 0 (omega arith) ∙ ap heap (omega arith) ∙ object_stands.header;
  shape = words_kept 1 (omega arith) ∙ object_stands.shape;
  name_word = words_kept 2 (omega arith) ∙ object_stands.name_word;
  few_refs = object_stands.few_refs;
  few_nums = object_stands.few_nums;
  refs_are = object_stands.refs_are;
  nums_are = object_stands.nums_are;
  references = λ index reference element_there.
      let index_below : index < length object.refs = slice_get_within object.refs index reference element_there in
      let same_length : length object.refs ≡ refs = object_stands.refs_are in
      let word : after (address + 3 + index) ≡ heap (address + 3 + index) = ap after (omega arith) ∙ words_kept (3 + index) (omega arith) ∙ ap heap (omega arith) in
      subst (λ field_word. Points new_plot field_word reference) (sym word) (points_stay block new_plot names_kept (heap (address + 3 + index)) reference (object_stands.references index reference element_there));
  numbers = λ index asked_name element_there.
      let index_below : index < length object.nums = slice_get_within object.nums index asked_name element_there in
      let same_length : length object.nums ≡ nums = object_stands.nums_are in
      ap after (omega arith) ∙ words_kept (3 + refs + index) (omega arith) ∙ ap heap (omega arith) ∙ object_stands.numbers index asked_name element_there;
}
