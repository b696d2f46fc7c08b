-- References can be updated where pieces fill the regions, and where objects stay say how many words they have.
use Rattle.std.proofs.Common.{◌≡◌, ℕ, ◌+◌, ◌^◌, ◌<◌, ◌≤◌, true, Some, Option, ⊎_elim, sym, ap, ◌∙◌, subst, arith}
use Rattle.shen_graph.specs.Graph.{Graph}
use Rattle.heap_words.specs.declared.config.Config.{Config}
use Rattle.heap_words.specs.Words.{Word, Cset, Top, Heap}
use Rattle.regions.specs.Place.{base_of, region_with}
use Rattle.regions.specs.Walk.{stride_at, start_of}
use Rattle.regions.proofs.PlaceLemmas.{regions_tile}
use Rattle.heap_world.specs.World.{Block, words_of, Plot, HasNoRoom, IsPlotted, IsFilled}
use Rattle.heap_world.proofs.Pieces.{beside}
use Rattle.image_graph.specs.Pinned.{EndInRegion}
use Rattle.image_graph.specs.Promised.{Promises}
use Rattle.image_graph.specs.Holds.{HoldsBy, AreSized}
use Rattle.cycle_words.specs.Finishing.Updated.{stays, CanUpdateAll}
use Rattle.cycle_words.specs.Finishing.Finish.{CanFree}
use Rattle.cycle_words.specs.Finishing.Laws.{ReferencesCanBeUpdated}
use Rattle.cycle_words.proofs.Finishing.Walking.{covered}
use Rattle.cycle_words.proofs.Finishing.Strides.{strides}

module _ (config : Config) (memory : Word → ℕ) (block : Plot) (plotted : IsPlotted config (λ any_region. memory (Top any_region)) block) (filled : IsFilled config (λ any_region. memory (Top any_region)) block)
    (some_words : (any_address : ℕ) (any_piece : Block) → block any_address ≡ Some any_piece → 1 ≤ words_of any_piece)
    (Walked : ℕ → Type 0) (sizes : (any_address : ℕ) (any_piece : Block) → block any_address ≡ Some any_piece → Walked (region_with config any_address) → stride_at (λ y. memory (Heap y)) any_address ≡ words_of any_piece) where
  own_size : (region distance : ℕ) (piece : Block) → region < config.regions → Walked region → distance < memory (Top region) → block (base_of config region + distance) ≡ Some piece → stride_at (λ address. memory (Heap address)) (base_of config region + distance) ≡ words_of piece
  own_size region distance piece inside walked distance_below has_piece =
      let top_most = plotted.tops region inside in
      let same_region : region_with config (base_of config region + distance) ≡ region = regions_tile.of_no_other config region (base_of config region + distance) (record { from = omega arith; before = omega (arith, distance_below, top_most) }) in
      sizes (base_of config region + distance) piece has_piece (subst Walked (sym same_region) walked)

  -- each piece of a region that can be walked ends at its top, or before
  pub end_inside : (region : ℕ) → region < config.regions → Walked region → EndInRegion config memory region
  end_inside region inside walked distance distance_below begins =
      let piece = covered config memory block plotted filled some_words Walked sizes region distance inside walked distance_below in
      let place : base_of config region + start_of (λ address. memory (Heap address)) (base_of config region) distance ≡ base_of config region + distance = ap (λ offset. base_of config region + offset) begins in
      let has_piece : block (base_of config region + distance) ≡ Some piece.0 = sym (ap block place) ∙ piece.1 in
      let top_most = plotted.tops region inside in
      let piece_long = some_words (base_of config region + distance) piece.0 has_piece in
      ⊎_elim
      (λ (before : base_of config region + distance + words_of piece.0 ≤ base_of config region). absurd (omega (arith, before, piece_long)))
      (λ rest. ⊎_elim
      (λ (within : (base_of config region ≤ base_of config region + distance) × (base_of config region + distance + words_of piece.0 ≤ base_of config region + memory (Top region))).
      let size = own_size region distance piece.0 inside walked distance_below has_piece in
      omega (arith, within.1, size))
      (λ (region_past : base_of config region + config.region_words ≤ base_of config region + distance). absurd (omega (arith, region_past, distance_below, top_most)))
      rest)
      (beside config (λ region. memory (Top region)) block plotted region (base_of config region + distance) piece.0 has_piece)

-- So references can be updated where those say so in whose regions objects stay.
pub can_update : (config : Config) (memory : Word → ℕ) (block : Plot) (plotted : IsPlotted config (λ region. memory (Top region)) block) → IsFilled config (λ region. memory (Top region)) block
    → ((address : ℕ) (piece : Block) → block address ≡ Some piece → 1 ≤ words_of piece)
    → ((address : ℕ) (piece : Block) → block address ≡ Some piece → stays config memory (region_with config address) ≡ true → stride_at (λ address. memory (Heap address)) address ≡ words_of piece) → memory Cset < 2 ^ config.regions → CanUpdateAll config memory
can_update config memory block plotted filled some_words sizes small =
    record { set = small; within = plotted.tops; objects = end_inside config memory block plotted filled some_words (λ any_region. stays config memory any_region ≡ true) sizes }

-- where no piece is room, all say so
module _ (config : Config) (memory : Word → ℕ) (block : Plot) (owner : ℕ → Option ℕ) (promises : Promises) (graph : Graph) (holds : HoldsBy config memory block owner promises graph) (sized : AreSized memory block) (no_room : HasNoRoom block) where
  pub all_end_inside : (region : ℕ) → region < config.regions → EndInRegion config memory region
  all_end_inside region inside =
      end_inside config memory block holds.objects.plotted holds.filled holds.pieces.some (λ any_region. Unit {0}) (λ address piece has_piece any. strides memory block sized no_room address piece has_piece) region inside tt

  -- and the set can be left
  pub set_can_be_left : memory Cset < 2 ^ config.regions → CanFree config memory
  set_can_be_left small = record { set = small; fills = λ region inside pinned. record { within = holds.objects.plotted.tops region inside; ends = all_end_inside region inside } }

pub references_can_be_updated : ReferencesCanBeUpdated
references_can_be_updated given_config given_memory block owner given_promises given_graph holds sized no_room small =
    can_update given_config given_memory block holds.objects.plotted holds.filled holds.pieces.some (λ address piece has_piece stay. strides given_memory block sized no_room address piece has_piece) small
