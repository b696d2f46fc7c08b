-- Where each piece is an object, or only fills, whatever stands for a name is an object.
use Rattle.std.proofs.Common.{◌≡◌, ℕ, ◌≤◌, Some, ⊎_elim, refl, sym, ap, ◌∙◌, arith}
use Rattle.std.proofs.lemmas.Option.{none-some, same_Some}
use Rattle.shen_graph.specs.declared.name.Name.{Name}
use Rattle.heap_world.specs.World.{Block, thing, moved, spent, hand, promised, dead, filler, carved, words_of, room_of, Plot, name_at, HasNoRoom}
use Rattle.heap_world.proofs.Pointing.{named_piece}
use Rattle.image_graph.specs.Plot.{AreThings, NamedAreThings}

module _ (block : Plot) (all_things : AreThings block) where
  -- an object, or words that only fill
  abbrev IsObject : Block → Type 0
  IsObject piece = (name : Name) × (refs : ℕ) × (nums : ℕ) × (piece ≡ thing name refs nums)

  abbrev IsFiller : Block → Type 0
  IsFiller piece = (words : ℕ) × (1 ≤ words) × (piece ≡ filler words)

  -- what stands for a name is the object of that name
  pub thing_at : (word : ℕ) (name : Name) → name_at (block word) ≡ Some name → (refs : ℕ) × (nums : ℕ) × (block word ≡ Some (thing name refs nums))
  thing_at word name name_there =
      let piece = named_piece (block word) name name_there in
      ⊎_elim
      (λ (found : IsObject piece.0).
      let same_names : found.0 ≡ name = same_Some found.0 name (ap (λ x. name_at (Some x)) (sym found.3) ∙ piece.2) in
      (found.1, found.2, piece.1 ∙ ap Some found.3 ∙ ap (λ name. Some (thing name found.1 found.2)) same_names))
      (λ (fills : IsFiller piece.0). absurd (none-some name (ap (λ x. name_at (Some x)) (sym fills.2) ∙ piece.2)))
      (all_things word piece.0 piece.1)

  -- other kinds of pieces there are none
  pub no_moved : (address refs nums copy_address : ℕ) (name : Name) → block address ≡ Some (moved name refs nums copy_address) → ⊥
  no_moved address refs nums copy_address name moved_there = ⊎_elim
      (λ (found : IsObject (moved name refs nums copy_address)). (let other_kind = found.3 in cc))
      (λ (fills : IsFiller (moved name refs nums copy_address)). (let other_kind = fills.2 in cc))
      (all_things address (moved name refs nums copy_address) moved_there)

  pub no_spent : (address words copy_address : ℕ) → block address ≡ Some (spent words copy_address) → ⊥
  no_spent address words copy_address spent_there = ⊎_elim
      (λ (found : IsObject (spent words copy_address)). (let other_kind = found.3 in cc))
      (λ (fills : IsFiller (spent words copy_address)). (let other_kind = fills.2 in cc))
      (all_things address (spent words copy_address) spent_there)

  pub no_room : HasNoRoom block
  no_room place seat room_piece room_there room = ⊎_elim
      (λ (found : IsObject room_piece). none-some seat (ap room_of (sym found.3) ∙ room))
      (λ (fills : IsFiller room_piece). none-some seat (ap room_of (sym fills.2) ∙ room))
      (all_things place room_piece room_there)

  pub no_promised : (address seat words : ℕ) → block address ≡ Some (promised seat words) → ⊥
  no_promised address seat words promise_there = ⊎_elim
      (λ (found : IsObject (promised seat words)). (let other_kind = found.3 in cc))
      (λ (fills : IsFiller (promised seat words)). (let other_kind = fills.2 in cc))
      (all_things address (promised seat words) promise_there)

  pub no_dead : (address words : ℕ) → block address ≡ Some (dead words) → ⊥
  no_dead address words dead_there = ⊎_elim
      (λ (found : IsObject (dead words)). (let other_kind = found.3 in cc))
      (λ (fills : IsFiller (dead words)). (let other_kind = fills.2 in cc))
      (all_things address (dead words) dead_there)

  -- so what stands for a name is an object
  pub some_words : (address : ℕ) (piece : Block) → block address ≡ Some piece → 1 ≤ words_of piece
  some_words address piece piece_there = ⊎_elim
      (λ (found : IsObject piece). (let size = ap words_of found.3 in omega (arith, size)))
      (λ (fills : IsFiller piece). (let size = ap words_of fills.2 in omega (arith, size, fills.1)))
      (all_things address piece piece_there)

  pub named_things : NamedAreThings block
  named_things = record {
    named = thing_at;
    unpromised = no_promised;
    unheld = λ address seat words piece_there. no_room address seat (hand seat words) piece_there refl;
    uncarved = λ address seat words piece_there. no_room address seat (carved seat words) piece_there refl;
    some = some_words;
  }
