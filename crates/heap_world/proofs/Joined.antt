-- A piece joins at the top of a region: the words between the old top and the new one.
use Rattle.std.proofs.Common.{◌≡◌, ◌≢◌, ℕ, ◌+◌, ◌<◌, ◌≤◌, Some, ⊎_elim, sym, ap, ◌∙◌, subst, arith}
use Rattle.std.proofs.lemmas.Bool.{cases_eq, cases_lt}
use Rattle.heap_words.specs.declared.config.Config.{Config}
use Rattle.regions.specs.Place.{base_of}
use Rattle.shen_graph.specs.declared.name.Name.{Name}
use Rattle.heap_world.specs.World.{Block, words_of, Plot, name_at, IsInUse, IsPlotted, IsFilled}
use Rattle.heap_world.proofs.FunctionUpdates.{updated, updated_same, updated_there, updated_else}
use Rattle.heap_world.proofs.Pointing.{named_piece}
use Rattle.heap_world.proofs.Pieces.{behind, beside, piece_cases}

-- A region has room for a piece above its top, and pieces have a word at least.
pub record CanJoin (config : Config) (top : ℕ → ℕ) (block : Plot) (region at : ℕ) (piece : Block) : Type 0 where
  pub plotted : IsPlotted config top block
  pub long : (address : ℕ) (other_piece : Block) → block address ≡ Some other_piece → 1 ≤ words_of other_piece
  pub within : region < config.regions
  pub top_is : top region ≡ at
  pub room : at + words_of piece ≤ config.region_words
  pub some : 1 ≤ words_of piece

module _ (config : Config) (top : ℕ → ℕ) (block : Plot) (region old_top : ℕ) (piece : Block) (joins : CanJoin config top block region old_top piece) where
  -- its words
  abbrev words : ℕ
  words = words_of piece

  -- where the new piece lies
  abbrev address : ℕ
  address = base_of config region + old_top

  -- the tops with it
  abbrev new_top : ℕ → ℕ
  new_top = updated top region (old_top + words)

  -- the plot with it
  abbrev new_block : Plot
  new_block = updated block address (Some piece)

  -- nothing stood there
  none_there : (piece : Block) → block address ≡ Some piece → ⊥
  none_there piece piece_there =
      let long_piece = joins.long address piece piece_there in
      let where_is = beside config top block joins.plotted region address piece piece_there in
      omega (arith, long_piece, where_is, joins.top_is)

  -- what stood somewhere stands there
  pub stays : (address : ℕ) (old_piece : Block) → block address ≡ Some old_piece → new_block address ≡ Some old_piece
  stays old_address old_piece piece_there = updated_else block address (Some piece) old_address (λ same_address. none_there old_piece (ap block same_address ∙ piece_there)) ∙ piece_there

  -- what a word stands for it still stands for
  pub names_stay : (address : ℕ) (name : Name) → name_at (block address) ≡ Some name → name_at (new_block address) ≡ Some name
  names_stay address name name_there = let old = named_piece (block address) name name_there in ap name_at (stays address old.0 old.1) ∙ old.2

  -- no top falls
  tops_grow : (other_region : ℕ) → top other_region ≤ new_top other_region
  tops_grow other_region = ⊎_elim
      (λ (same_region : region ≡ other_region). let top_now : new_top other_region ≡ old_top + words = updated_same top region (old_top + words) other_region same_region in let top_before : top other_region ≡ old_top = ap top (sym same_region) ∙ joins.top_is in omega arith)
      (λ (regions_differ : region ≢ other_region). let top_now = updated_else top region (old_top + words) other_region regions_differ in omega (arith, top_now))
      (cases_eq region other_region)

  -- old pieces lie in the part in use
  in_use_again : (address : ℕ) (piece : Block) → block address ≡ Some piece → IsInUse config new_top address (words_of piece)
  in_use_again address piece piece_there =
      let used = joins.plotted.in_use address piece piece_there in
      let grown = tops_grow used.region in
      record { region = used.region; within = used.within; from_base = used.from_base; to_top = omega (arith, used.to_top, grown) }

  -- so does the new one
  new_in_use : IsInUse config new_top address words
  new_in_use = let top_now = updated_there top region (old_top + words) in record { region = region; within = joins.within; from_base = omega arith; to_top = omega (arith, top_now) }

  -- an old piece before it ends before it
  old_before : (old_address : ℕ) (piece : Block) → block old_address ≡ Some piece → old_address < address → old_address + words_of piece ≤ address
  old_before address piece piece_there before = let where_is = beside config top block joins.plotted region address piece piece_there in omega (arith, where_is, joins.top_is)

  -- it ends before an old piece behind it
  new_before : (old_address : ℕ) (piece : Block) → block old_address ≡ Some piece → address < old_address → address + words ≤ old_address
  new_before address piece piece_there after =
      let where_is = beside config top block joins.plotted region address piece piece_there in
      let long_piece = joins.long address piece piece_there in
      omega (arith, where_is, joins.top_is, long_piece)

  -- pieces lie where they should
  pub plotted_more : IsPlotted config new_top new_block
  plotted_more = record {
    tops = λ any_region inside. ⊎_elim
        (λ (same_region : region ≡ any_region). let top_now : new_top any_region ≡ old_top + words = updated_same top region (old_top + words) any_region same_region in omega (arith, top_now))
        (λ (regions_differ : region ≢ any_region). let top_now = updated_else top region (old_top + words) any_region regions_differ in let top_before = joins.plotted.tops any_region inside in omega (arith, top_now, top_before))
        (cases_eq region any_region);
    in_use = λ other_address other_piece piece_there. ⊎_elim
        (λ (new : (other_address ≡ address) × (piece ≡ other_piece)).
        subst (λ used_piece. IsInUse config new_top other_address (words_of used_piece)) new.1 (subst (λ address. IsInUse config new_top address words) (sym new.0) new_in_use))
        (λ (old : (other_address ≢ address) × (block other_address ≡ Some other_piece)). in_use_again other_address other_piece old.1)
        (piece_cases block address piece other_address other_piece piece_there);
    apart = λ other_address later_address other_piece later_piece first_there second_there before. ⊎_elim
        (λ (new_a : (other_address ≡ address) × (piece ≡ other_piece)).
        let same_size : words ≡ words_of other_piece = ap words_of new_a.1 in
        ⊎_elim
        (λ (new_b : (later_address ≡ address) × (piece ≡ later_piece)). let first_piece = new_a.0 in let second_piece = new_b.0 in omega (arith, before, first_piece, second_piece))
        (λ (old_b : (later_address ≢ address) × (block later_address ≡ Some later_piece)). let first_piece = new_a.0 in let far_apart = new_before later_address later_piece old_b.1 (omega (arith, first_piece, before)) in omega (arith, far_apart, same_size, first_piece))
        (piece_cases block address piece later_address later_piece second_there))
        (λ (old_a : (other_address ≢ address) × (block other_address ≡ Some other_piece)). ⊎_elim
        (λ (new_b : (later_address ≡ address) × (piece ≡ later_piece)). let second_piece = new_b.0 in let far_apart = old_before other_address other_piece old_a.1 (omega (arith, second_piece, before)) in omega (arith, far_apart, second_piece))
        (λ (old_b : (later_address ≢ address) × (block later_address ≡ Some later_piece)). joins.plotted.apart other_address later_address other_piece later_piece old_a.1 old_b.1 before)
        (piece_cases block address piece later_address later_piece second_there))
        (piece_cases block address piece other_address other_piece first_there);
  }

  -- where a piece stood, one stands
  some_piece : (address : ℕ) → (piece : Block) × (block address ≡ Some piece) → (piece : Block) × (new_block address ≡ Some piece)
  some_piece address old = (old.0, stays address old.0 old.1)

  -- after an old piece of the region
  next_here : (old_address : ℕ) (old_piece : Block) → IsFilled config top block → base_of config region ≤ old_address → block old_address ≡ Some old_piece → old_address + words_of old_piece < address + words → (next_piece : Block) × (new_block (old_address + words_of old_piece) ≡ Some next_piece)
  next_here old_address old_piece filled at_most piece_there end_below =
      let where_is = beside config top block joins.plotted region old_address old_piece piece_there in
      let long_piece = joins.long old_address old_piece piece_there in
      ⊎_elim
      (λ (before : old_address + words_of old_piece < address). some_piece (old_address + words_of old_piece) (filled.next region old_address old_piece joins.within at_most piece_there (omega (arith, before, joins.top_is))))
      (λ (at_least : address ≤ old_address + words_of old_piece).
      (piece, ap new_block {x = old_address + words_of old_piece} {y = address} (omega (arith, where_is, long_piece, at_least, end_below, joins.top_is, joins.room, at_most)) ∙ updated_there block address (Some piece)))
      (cases_lt (old_address + words_of old_piece) address)

  -- they fill the part in use
  pub filled_more : IsFilled config top block → IsFilled config new_top new_block
  filled_more filled = record {
    first = λ any_region inside used. ⊎_elim
        (λ (same_region : region ≡ any_region).
        subst (λ some_region. (found_piece : Block) × (new_block (base_of config some_region) ≡ Some found_piece)) same_region
        (⊎_elim
        (λ (empty : old_top ≡ 0). (piece, ap new_block {x = base_of config region} {y = address} (omega (arith, empty)) ∙ updated_there block address (Some piece)))
        (λ (top_positive : old_top ≢ 0). some_piece (base_of config region) (filled.first region joins.within (omega (arith, top_positive, joins.top_is))))
        (cases_eq old_top 0)))
        (λ (regions_differ : region ≢ any_region). let top_now = updated_else top region (old_top + words) any_region regions_differ in some_piece (base_of config any_region) (filled.first any_region inside (omega (arith, top_now, used))))
        (cases_eq region any_region);
    next = λ other_region other_address other_piece inside from piece_there end_below. ⊎_elim
        (λ (same_region : region ≡ other_region).
        let top_now : new_top other_region ≡ old_top + words = updated_same top region (old_top + words) other_region same_region in
        let base : base_of config region ≡ base_of config other_region = ap (base_of config) same_region in
        ⊎_elim
        (λ (new : (other_address ≡ address) × (piece ≡ other_piece)). let new_piece = new.0 in let same_size : words ≡ words_of other_piece = ap words_of new.1 in absurd (omega (arith, end_below, top_now, base, new_piece, same_size)))
        (λ (old : (other_address ≢ address) × (block other_address ≡ Some other_piece)). next_here other_address other_piece filled (omega (arith, from, base)) old.1 (omega (arith, end_below, top_now, base)))
        (piece_cases block address piece other_address other_piece piece_there))
        (λ (regions_differ : region ≢ other_region).
        let top_now = updated_else top region (old_top + words) other_region regions_differ in
        ⊎_elim
        (λ (new : (other_address ≡ address) × (piece ≡ other_piece)).
        let new_piece = new.0 in
        let top_bound = joins.plotted.tops other_region inside in
        absurd (⊎_elim
        (λ (before : other_region < region). let far_apart = behind config other_region region before in omega (arith, end_below, top_now, new_piece, top_bound, far_apart))
        (λ (region_least : region ≤ other_region). let far_apart = behind config region other_region (omega (arith, region_least, regions_differ)) in omega (arith, from, new_piece, far_apart, joins.room, joins.some))
        (cases_lt other_region region)))
        (λ (old : (other_address ≢ address) × (block other_address ≡ Some other_piece)). some_piece (other_address + words_of other_piece) (filled.next other_region other_address other_piece inside from old.1 (omega (arith, end_below, top_now))))
        (piece_cases block address piece other_address other_piece piece_there))
        (cases_eq region other_region);
  }
