-- The last piece of a region is cut off: it is gone, and the top falls to where it began.
use Rattle.std.proofs.Common.{◌≡◌, ◌≢◌, ℕ, ◌+◌, ◌-◌, ◌<◌, ◌≤◌, Some, None, ⊎_elim, sym, ap, ◌∙◌, subst, arith}
use Rattle.std.proofs.lemmas.Bool.{cases_eq, cases_lt, cases_order}
use Rattle.std.proofs.lemmas.Option.{none-some}
use Rattle.heap_words.specs.declared.config.Config.{Config}
use Rattle.regions.specs.Place.{base_of}
use Rattle.heap_world.specs.World.{Block, Plot, words_of, IsPlotted, IsFilled}
use Rattle.heap_world.proofs.FunctionUpdates.{updated, updated_same, updated_there, updated_else}
use Rattle.heap_world.proofs.Pieces.{behind}

-- A piece ends at the top of a region, and pieces have a word at least.
pub record CanCutOff (config : Config) (top : ℕ → ℕ) (block : Plot) (region other_address : ℕ) (piece : Block) : Type 0 where
  pub plotted : IsPlotted config top block
  pub filled : IsFilled config top block
  pub long : (address : ℕ) (other_piece : Block) → block address ≡ Some other_piece → 1 ≤ words_of other_piece
  pub within : region < config.regions
  pub from_base : base_of config region ≤ other_address
  pub here : block other_address ≡ Some piece
  pub at_top : other_address + words_of piece ≡ base_of config region + top region

module _ (config : Config) (top : ℕ → ℕ) (block : Plot) (region cut_address : ℕ) (piece : Block) (cuttable : CanCutOff config top block region cut_address piece) where
  -- the tops then
  abbrev pub lower_top : ℕ → ℕ
  lower_top = updated top region (cut_address - base_of config region)

  -- the plot then
  abbrev pub block_without : Plot
  block_without = updated block cut_address None

  -- the top of its region, and of others
  top_now : lower_top region ≡ cut_address - base_of config region
  top_now = updated_there top region (cut_address - base_of config region)

  pub top_else : (given_region : ℕ) → given_region ≢ region → lower_top given_region ≡ top given_region
  top_else given_region region_differs = updated_else top region (cut_address - base_of config region) given_region (λ same_region. region_differs (sym same_region))

  -- the part in use ends where the piece began
  pub ends : base_of config region + lower_top region ≡ cut_address
  ends = (let new_top = top_now in let from = cuttable.from_base in omega (arith, new_top, from))

  -- no top rises
  pub falls : (given_region : ℕ) → lower_top given_region ≤ top given_region
  falls given_region = ⊎_elim
      (λ (same_region : given_region ≡ region). let new_top : lower_top given_region ≡ cut_address - base_of config region = ap lower_top same_region ∙ top_now in let old_top : top given_region ≡ top region = ap top same_region in let end = cuttable.at_top in let from = cuttable.from_base in omega (arith, new_top, old_top, end, from))
      (λ (region_differs : given_region ≢ region). let new_top = top_else given_region region_differs in omega (arith, new_top))
      (cases_eq given_region region)

  -- pieces elsewhere stay, and no other comes
  pub stays : (address : ℕ) → address ≢ cut_address → block_without address ≡ block address
  stays address address_differs = updated_else block cut_address None address (λ same_address. address_differs (sym same_address))

  pub came : (address : ℕ) (piece : Block) → block_without address ≡ Some piece → (address ≢ cut_address) × (block address ≡ Some piece)
  came address piece piece_there = ⊎_elim
      (λ (same_address : cut_address ≡ address). absurd (none-some piece (sym (updated_same block cut_address None address same_address) ∙ piece_there)))
      (λ (address_differs : cut_address ≢ address). ((λ same_address. address_differs (sym same_address)), sym (updated_else block cut_address None address address_differs) ∙ piece_there))
      (cases_eq cut_address address)

  some_piece : (address : ℕ) → address ≢ cut_address → (piece : Block) × (block address ≡ Some piece) → (piece : Block) × (block_without address ≡ Some piece)
  some_piece address address_differs old = (old.0, stays address address_differs ∙ old.1)

  -- another piece that ends below the top ends before it
  pub before_it : (address : ℕ) (other_piece : Block) → address ≢ cut_address → block address ≡ Some other_piece → address + words_of other_piece ≤ base_of config region + top region → address + words_of other_piece ≤ cut_address
  before_it address other_piece address_differs piece_there to_top = ⊎_elim
      (λ same_address. absurd (address_differs same_address))
      (λ order. ⊎_elim
      (λ is_below. cuttable.plotted.apart address cut_address other_piece piece piece_there cuttable.here is_below)
      (λ is_above.
      let after = cuttable.plotted.apart cut_address address piece other_piece cuttable.here piece_there is_above in
      let has_words = cuttable.long address other_piece piece_there in
      let end = cuttable.at_top in
      absurd (omega (arith, after, has_words, end, to_top)))
      order)
      (cases_order address cut_address)

  -- pieces lie where they should
  pub plotted_without : IsPlotted config lower_top block_without
  plotted_without = record {
    tops = λ any_region inside. (let top_low = cuttable.plotted.tops any_region inside in let top_falls = falls any_region in omega (arith, top_low, top_falls));
    in_use = λ own_address own_piece piece_there.
        let old_piece = came own_address own_piece piece_there in
        let used = cuttable.plotted.in_use own_address own_piece old_piece.1 in
        ⊎_elim
        (λ (same_region : used.region ≡ region).
        let to_top : own_address + words_of own_piece ≤ base_of config region + top region = subst (λ any_region. own_address + words_of own_piece ≤ base_of config any_region + top any_region) same_region used.to_top in
        let from : base_of config region ≤ own_address = subst (λ any_region. base_of config any_region ≤ own_address) same_region used.from_base in
        let before = before_it own_address own_piece old_piece.0 old_piece.1 to_top in
        let end = ends in
        record { region = region; within = cuttable.within; from_base = from; to_top = omega (arith, before, end) })
        (λ (region_differs : used.region ≢ region).
        let same_region = top_else used.region region_differs in
        let to_top = used.to_top in
        record { region = used.region; within = used.within; from_base = used.from_base; to_top = omega (arith, same_region, to_top) })
        (cases_eq used.region region);
    apart = λ own_address other_address own_piece other_piece first_there second_there before. cuttable.plotted.apart own_address other_address own_piece other_piece (came own_address own_piece first_there).1 (came other_address other_piece second_there).1 before;
  }

  -- the piece is in no other region
  other_region : (given_region address : ℕ) → given_region ≢ region → base_of config given_region ≤ address → address < base_of config given_region + config.region_words → address ≢ cut_address
  other_region given_region address region_differs at_most before same_address =
      let at_from = cuttable.from_base in
      let end = cuttable.at_top in
      let top_low = cuttable.plotted.tops region cuttable.within in
      let has_words = cuttable.long cut_address piece cuttable.here in
      ⊎_elim
      (λ (region_below : given_region < region). let region_far = behind config given_region region region_below in omega (arith, region_far, before, same_address, at_from))
      (λ (region_above : region ≤ given_region). let region_far = behind config region given_region (omega (arith, region_above, region_differs)) in omega (arith, region_far, at_most, same_address, end, top_low, has_words))
      (cases_lt given_region region)

  -- they fill the parts in use
  pub filled_without : IsFilled config lower_top block_without
  filled_without = record {
    first = λ any_region inside used. ⊎_elim
        (λ (same_region : any_region ≡ region).
        let new_end : base_of config any_region + lower_top any_region ≡ cut_address = ap (λ some_region. base_of config some_region + lower_top some_region) same_region ∙ ends in
        let top_falls = falls any_region in
        some_piece (base_of config any_region) (λ same_address. omega (arith, same_address, new_end, used)) (cuttable.filled.first any_region inside (omega (arith, top_falls, used))))
        (λ (region_differs : any_region ≢ region).
        let new_end = top_else any_region region_differs in
        some_piece (base_of config any_region) (λ same_address. other_region any_region (base_of config any_region) region_differs (omega arith) (let enough_words = config.in_range.least_words in omega (arith, enough_words)) same_address) (cuttable.filled.first any_region inside (omega (arith, new_end, used))))
        (cases_eq any_region region);
    next = λ any_region own_address own_piece inside from piece_there end_below.
        let old_piece = came own_address own_piece piece_there in
        ⊎_elim
        (λ (same_region : any_region ≡ region).
        let new_end : base_of config any_region + lower_top any_region ≡ cut_address = ap (λ some_region. base_of config some_region + lower_top some_region) same_region ∙ ends in
        let top_falls = falls any_region in
        some_piece (own_address + words_of own_piece) (λ same_address. omega (arith, same_address, new_end, end_below)) (cuttable.filled.next any_region own_address own_piece inside from old_piece.1 (omega (arith, end_below, top_falls))))
        (λ (region_differs : any_region ≢ region).
        let new_end = top_else any_region region_differs in
        let top_low = cuttable.plotted.tops any_region inside in
        some_piece (own_address + words_of own_piece) (λ same_address. other_region any_region (own_address + words_of own_piece) region_differs (omega (arith, from)) (omega (arith, end_below, new_end, top_low)) same_address) (cuttable.filled.next any_region own_address own_piece inside from old_piece.1 (omega (arith, end_below, new_end))))
        (cases_eq any_region region);
  }
