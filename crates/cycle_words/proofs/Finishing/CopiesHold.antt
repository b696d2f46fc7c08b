-- All that is left of the collection set is copied out, or what finds room: words that held a graph hold it.
use Rattle.heap_words.specs.Phases.{evacuation_phase}
use Rattle.std.proofs.Common.{◌≡◌, ◌≢◌, ℕ, ◌+◌, ◌*◌, ◌≤◌, ◌==◌, ◌&&◌, nat_le, true, false, not, zero, suc, Option, sym, subst, ⊎_elim}
use Rattle.std.specs.Int.{bit_at}
use Rattle.std.proofs.Math.Path.{fun_ext}
use Rattle.std.proofs.lemmas.Bool.{cases_Bool, cases_eq, cond-true, cond-false, and_parts, and_from, leb-true, eqb-true, eq-eqb, ne_eqb, not-true, not_from_false}
use Rattle.heap_words.specs.declared.config.Config.{Config}
use Rattle.heap_words.specs.Words.{Word, Phase, Cset, Heap}
use Rattle.heap_words.specs.Encoding.{is_forwarded}
use Rattle.regions.specs.Place.{region_with}
use Rattle.shen_graph.specs.Graph.{Graph}
use Rattle.heap_world.specs.World.{words_of, Plot, IsCollected}
use Rattle.image_graph.specs.Promised.{Promises}
use Rattle.image_graph.specs.Holds.{HoldsBy, AreSized, HasObject}
use Rattle.cycle_words.specs.Marking.Marks.{is_black}
use Rattle.cycle_words.specs.Evacuation.Live.{words_at}
use Rattle.cycle_words.specs.Evacuation.Begun.{is_collected}
use Rattle.cycle_words.specs.Evacuation.Copied.{copied_out, IsCopiedOut}
use Rattle.cycle_words.specs.Finishing.Copies.{is_left, has_copy_room, copied_from, all_copied}
use Rattle.cycle_words.specs.StillHolds.{PiecesStay, HoldsStill, AreMarkedObjects, IsUnpinned}
use Rattle.image_graph.specs.Pinned.{is_pinned}
use Rattle.cycle_words.proofs.Pinned.{unpinned_there}
use Rattle.cycle_words.proofs.Evacuation.CopiedOut.{copies_out}
use Rattle.cycle_words.proofs.Evacuation.CopyHolds as copy
use Rattle.cycle_words.proofs.Finishing.Copies.{room_found, copied_none, copied_next, copied_stuck, copied_skips}

-- what is kept between two objects
pub record IsCopiedSoFar (config : Config) (memory : Word → ℕ) (plot : Plot) (owner : ℕ → Option ℕ) (promises : Promises) (graph : Graph) : Type 0 where
  pub holds : HoldsBy config memory plot owner promises graph
  pub sized : AreSized memory plot
  pub marked : AreMarkedObjects config memory plot

-- what is left is marked in a region that is not pinned, and has not moved
pub left_parts : (config : Config) (memory : Word → ℕ) (address : ℕ) → is_left config memory address ≡ true
    → (is_collected config memory address ≡ true) × (is_pinned config memory (region_with config address) ≡ false) × (is_black config memory address ≡ true) × (is_forwarded (memory (Heap address)) ≡ false)
left_parts config memory address object_left =
    let outer_parts = and_parts (is_collected config memory address && not (is_pinned config memory (region_with config address)) && is_black config memory address) (not (is_forwarded (memory (Heap address)))) object_left in
    let middle_parts = and_parts (is_collected config memory address && not (is_pinned config memory (region_with config address))) (is_black config memory address) outer_parts.0 in
    let inner_parts = and_parts (is_collected config memory address) (not (is_pinned config memory (region_with config address))) middle_parts.0 in
    (inner_parts.0, not-true (is_pinned config memory (region_with config address)) inner_parts.1, middle_parts.1, not-true (is_forwarded (memory (Heap address))) outer_parts.1)

-- and each such object is left
pub is_left_if : (config : Config) (memory : Word → ℕ) (address : ℕ) → is_collected config memory address ≡ true → is_pinned config memory (region_with config address) ≡ false → is_black config memory address ≡ true → is_forwarded (memory (Heap address)) ≡ false
    → is_left config memory address ≡ true
is_left_if config memory address collected unpinned black plain =
    and_from (is_collected config memory address && not (is_pinned config memory (region_with config address)) && is_black config memory address) (not (is_forwarded (memory (Heap address))))
    (and_from (is_collected config memory address && not (is_pinned config memory (region_with config address))) (is_black config memory address)
    (and_from (is_collected config memory address) (not (is_pinned config memory (region_with config address))) collected (not_from_false (is_pinned config memory (region_with config address)) unpinned)) black)
    (not_from_false (is_forwarded (memory (Heap address))) plain)

module _ (config : Config) (owner : ℕ → Option ℕ) (promises : Promises) (graph : Graph) where
  -- An object is left, ..
  module _ (memory : Word → ℕ) (block : Plot) (so_far : IsCopiedSoFar config memory block owner promises graph) (address : ℕ) (object_left : is_left config memory address ≡ true) where
    pub parts : (is_collected config memory address ≡ true) × (is_black config memory address ≡ true) × (is_forwarded (memory (Heap address)) ≡ false)
    parts = let left_facts = left_parts config memory address object_left in (left_facts.0, left_facts.2, left_facts.3)

    pub above : config.region_words ≤ address
    above = leb-true config.region_words address (and_parts (nat_le config.region_words address) (bit_at (memory Cset) (region_with config address) == 1) parts.0).0

    pub inside : IsCollected config (memory Cset) address
    inside = eqb-true (bit_at (memory Cset) (region_with config address)) 1 (and_parts (nat_le config.region_words address) (bit_at (memory Cset) (region_with config address) == 1) parts.0).1

    -- no pin slot holds it
    pub unpinned : IsUnpinned config memory address
    unpinned = unpinned_there config memory address above (left_parts config memory address object_left).1

    pub piece : HasObject block address
    piece = so_far.marked address parts.0 parts.1

    pub words : words_at memory address ≡ words_of piece.0
    words = so_far.sized.objects address piece.0 piece.1 piece.2

    -- .. and there is room.
    module _ (room : has_copy_room config memory address ≡ true) where
      pub out : IsCopiedOut config memory (copied_out config memory address) address
      out = copies_out config memory address above inside (room_found config memory address room)

      abbrev now : Word → ℕ
      now = copied_out config memory address

      -- the pieces with the copy
      abbrev pub more : Plot
      more = copy.plot config memory block owner promises graph so_far.holds address piece.0 piece.1 piece.2 inside parts.2 unpinned words out

      pub more_stay : PiecesStay block more
      more_stay = copy.stays config memory block owner promises graph so_far.holds address piece.0 piece.1 piece.2 inside parts.2 unpinned words out

      pub one_copied : IsCopiedSoFar config now more owner promises graph
      one_copied = record {
        holds = copy.copied_holds config memory block owner promises graph so_far.holds address piece.0 piece.1 piece.2 inside parts.2 unpinned words out;
        sized = copy.copied_sized config memory block owner promises graph so_far.holds address piece.0 piece.1 piece.2 inside parts.2 unpinned words out so_far.sized;
        marked = copy.marked_still config memory block owner promises graph so_far.holds address piece.0 piece.1 piece.2 inside parts.2 unpinned words out so_far.marked;
      }

  -- address by address
  pub copies_hold : (addresses : ℕ) (memory : Word → ℕ) (block : Plot) (address : ℕ) → IsCopiedSoFar config memory block owner promises graph → (plot : Plot) × PiecesStay block plot × IsCopiedSoFar config (copied_from config memory address addresses) plot owner promises graph
  copies_hold zero memory block address so_far = (block, λ any_address piece piece_there. piece_there, subst (λ memory. IsCopiedSoFar config memory block owner promises graph) (sym (copied_none config memory address 0)) so_far)
  copies_hold (suc addresses) memory block address so_far = ⊎_elim
      (λ (object_left : is_left config memory address ≡ true). ⊎_elim
      (λ (room : has_copy_room config memory address ≡ true).
      let rest = copies_hold addresses (copied_out config memory address) (more memory block so_far address object_left room) (address + 1) (one_copied memory block so_far address object_left room) in
      (rest.0, λ any_address piece piece_there. rest.1 any_address piece (more_stay memory block so_far address object_left room any_address piece piece_there), subst (λ memory. IsCopiedSoFar config memory rest.0 owner promises graph) (sym (copied_next config memory address addresses object_left room)) rest.2))
      (λ (no_room : has_copy_room config memory address ≡ false). (block, λ any_address piece piece_there. piece_there, subst (λ memory. IsCopiedSoFar config memory block owner promises graph) (sym (copied_stuck config memory address addresses object_left no_room)) so_far))
      (cases_Bool (has_copy_room config memory address)))
      (λ (not_left : is_left config memory address ≡ false).
      let rest = copies_hold addresses memory block (address + 1) so_far in
      (rest.0, rest.1, subst (λ memory. IsCopiedSoFar config memory rest.0 owner promises graph) (sym (copied_skips config memory address addresses not_left)) rest.2))
      (cases_Bool (is_left config memory address))

  -- only while objects are evacuated
  pub all_copied_hold : (memory : Word → ℕ) (block : Plot) → IsCopiedSoFar config memory block owner promises graph → (plot : Plot) × PiecesStay block plot × IsCopiedSoFar config (all_copied config memory) plot owner promises graph
  all_copied_hold memory block so_far = ⊎_elim
      (λ (evacuating : memory Phase ≡ evacuation_phase).
      let all_copies = copies_hold (config.regions * config.region_words) memory block config.region_words so_far in
      let same_memory : copied_from config memory config.region_words (config.regions * config.region_words) ≡ all_copied config memory =
      fun_ext (λ word. sym (cond-true (memory Phase == evacuation_phase) (copied_from config memory config.region_words (config.regions * config.region_words) word) (memory word) (eq-eqb (memory Phase) 2 evacuating))) in
      (all_copies.0, all_copies.1, subst (λ memory. IsCopiedSoFar config memory all_copies.0 owner promises graph) same_memory all_copies.2))
      (λ (not_evacuating : memory Phase ≢ evacuation_phase).
      let same_memory : memory ≡ all_copied config memory =
      fun_ext (λ word. sym (cond-false (memory Phase == evacuation_phase) (copied_from config memory config.region_words (config.regions * config.region_words) word) (memory word) (ne_eqb (memory Phase) 2 not_evacuating))) in
      (block, λ address piece piece_there. piece_there, subst (λ memory. IsCopiedSoFar config memory block owner promises graph) same_memory so_far))
      (cases_eq (memory Phase) 2)

pub copies_all_hold : (config : Config) (memory : Word → ℕ) (block : Plot) (owner : ℕ → Option ℕ) (promises : Promises) (graph : Graph) → HoldsBy config memory block owner promises graph → AreSized memory block → AreMarkedObjects config memory block
    → HoldsStill config memory (all_copied config memory) block owner promises graph
copies_all_hold config memory block owner promises graph holds sized marked =
    let all_copies = all_copied_hold config owner promises graph memory block (record { holds = holds; sized = sized; marked = marked }) in
    record { pieces = all_copies.0; stay = all_copies.1; holds = all_copies.2.holds; sized = λ k. all_copies.2.sized }
