-- The plot in which objects that are not of a set are dead.
use Rattle.std.proofs.Common.{◌≡◌, ℕ, ◌+◌, Bool, true, false, Option, Some, None, refl, sym, ap, ◌∙◌, subst}
use Rattle.std.specs.Option.{option_map}
use Rattle.std.proofs.lemmas.Bool.{cond-true}
use Rattle.std.proofs.lemmas.Option.{none-some, same_Some}
use Rattle.heap_words.specs.declared.config.Config.{Config}
use Rattle.heap_words.specs.Words.{Word}
use Rattle.shen_graph.specs.declared.name.Name.{Name}
use Rattle.heap_world.specs.World.{Block, thing, moved, spent, promised, dead, filler, words_of, room_of, is_loose, Plot, IsPlotted, IsFilled}
use Rattle.image_graph.proofs.Loosening.Resized.{IsResized, resized_plotted, resized_filled}
use Rattle.image_graph.proofs.BuffersStay.{SameRoom}
use Rattle.image_graph.specs.Holds.{AreSized}
use Rattle.cycle_words.specs.Marking.Init.{pruned_piece, pruned}

-- the piece that there was
pub from_option : (f : Block → Block) (found : Option Block) (piece : Block) → option_map f found ≡ Some piece → (old_piece : Block) × (found ≡ Some old_piece) × (f old_piece ≡ piece)
from_option f None piece changed_there = absurd (none-some piece changed_there)
from_option f (Some old_piece) piece changed_there = (old_piece, refl, same_Some (f old_piece) piece changed_there)

-- a piece was the same one, of the set if it is an object; or it is dead, and was an object
pub data WasPiece (live : Bool) (piece other_piece : Block) : Type 0 where
  was_left : piece ≡ other_piece → ((name : Name) (refs nums : ℕ) → other_piece ≡ thing name refs nums → live ≡ true) → WasPiece live piece other_piece
  was_object : (name : Name) (refs nums : ℕ) → piece ≡ thing name refs nums → other_piece ≡ dead (3 + refs + nums) → WasPiece live piece other_piece

was_piece : (live : Bool) (piece : Block) → WasPiece live piece (pruned_piece live piece)
was_piece true (thing name refs nums) = WasPiece.was_left refl (λ given_name given_refs given_nums same_piece. refl)
was_piece false (thing name refs nums) = WasPiece.was_object name refs nums refl refl
was_piece live _ = WasPiece.was_left refl (λ given_name given_refs given_nums same_piece. cc)

-- room stays
room_left : (live : Bool) (piece : Block) (seat : ℕ) → room_of piece ≡ Some seat → pruned_piece live piece ≡ piece
room_left live (thing name refs nums) seat room_is = cc
room_left live _ seat room_is = refl

module _ (live : ℕ → Bool) (block : Plot) where
  pub piece_was : (address : ℕ) (piece : Block) → pruned live block address ≡ Some piece → (old_piece : Block) × (block address ≡ Some old_piece) × WasPiece (live address) old_piece piece
  piece_was address piece piece_there =
      let was_there = from_option (pruned_piece (live address)) (block address) piece piece_there in
      (was_there.0, was_there.1, subst (WasPiece (live address) was_there.0) was_there.2 (was_piece (live address) was_there.0))

  words_were : (piece new_piece : Block) (holds : Bool) → WasPiece holds piece new_piece → words_of piece ≡ words_of new_piece
  words_were piece new_piece holds (WasPiece.was_left same_piece is_live) = ap words_of same_piece
  words_were piece new_piece holds (WasPiece.was_object name refs nums object_there dies) = ap words_of object_there ∙ sym (ap words_of dies)

  pub pruned_from : (address : ℕ) (piece : Block) → pruned live block address ≡ Some piece → (old_piece : Block) × (block address ≡ Some old_piece) × (words_of old_piece ≡ words_of piece)
  pruned_from address piece piece_there = let was_there = piece_was address piece piece_there in (was_there.0, was_there.1, words_were was_there.0 piece (live address) was_there.2)

  pub pruned_at : (address : ℕ) (piece : Block) → block address ≡ Some piece → pruned live block address ≡ Some (pruned_piece (live address) piece)
  pruned_at address piece piece_there = ap (option_map (pruned_piece (live address))) piece_there

  pub room_stays : (address seat : ℕ) (piece : Block) → room_of piece ≡ Some seat → block address ≡ Some piece → pruned live block address ≡ Some piece
  room_stays address seat piece room_is piece_there = pruned_at address piece piece_there ∙ ap Some (room_left (live address) piece seat room_is)

  pub thing_stays : (address refs nums : ℕ) (name : Name) → live address ≡ true → block address ≡ Some (thing name refs nums) → pruned live block address ≡ Some (thing name refs nums)
  thing_stays address refs nums name lives object_there = pruned_at address (thing name refs nums) object_there ∙ ap Some (cond-true (live address) (thing name refs nums) (dead (3 + refs + nums)) lives)

  pub promised_stays : (address seat words : ℕ) → block address ≡ Some (promised seat words) → pruned live block address ≡ Some (promised seat words)
  promised_stays address seat words promise_there = pruned_at address (promised seat words) promise_there

  -- an object of it was one, and is of the set
  thing_of : (address refs nums : ℕ) (name : Name) (piece : Block) → block address ≡ Some piece → WasPiece (live address) piece (thing name refs nums) → (block address ≡ Some (thing name refs nums)) × (live address ≡ true)
  thing_of address refs nums name piece piece_there (WasPiece.was_left same_piece is_live) = (piece_there ∙ ap Some same_piece, is_live name refs nums refl)
  thing_of address refs nums name piece piece_there (WasPiece.was_object old_name old_refs old_nums object_there wrong) = (let differ = wrong in cc)

  pub thing_was : (address refs nums : ℕ) (name : Name) → pruned live block address ≡ Some (thing name refs nums) → (block address ≡ Some (thing name refs nums)) × (live address ≡ true)
  thing_was address refs nums name object_there = let was_there = piece_was address (thing name refs nums) object_there in thing_of address refs nums name was_there.0 was_there.1 was_there.2

  -- a piece that is not dead was there
  other_of : (address : ℕ) (piece new_piece : Block) → ((words : ℕ) → new_piece ≡ dead words → ⊥) → block address ≡ Some piece → WasPiece (live address) piece new_piece → block address ≡ Some new_piece
  other_of address piece new_piece unlike piece_there (WasPiece.was_left same_piece is_live) = piece_there ∙ ap Some same_piece
  other_of address piece new_piece unlike piece_there (WasPiece.was_object name refs nums object_there dies) = absurd (unlike (3 + refs + nums) dies)

  other_was : (address : ℕ) (piece : Block) → ((words : ℕ) → piece ≡ dead words → ⊥) → pruned live block address ≡ Some piece → block address ≡ Some piece
  other_was address piece unlike piece_there = let was_there = piece_was address piece piece_there in other_of address was_there.0 piece unlike was_there.1 was_there.2

  pub room_was : (address seat : ℕ) (piece : Block) → room_of piece ≡ Some seat → pruned live block address ≡ Some piece → block address ≡ Some piece
  room_was address seat piece room_is = other_was address piece (λ more dies. none-some seat (ap room_of (sym dies) ∙ room_is))

  pub filler_was : (address words : ℕ) → pruned live block address ≡ Some (filler words) → block address ≡ Some (filler words)
  filler_was address words = other_was address (filler words) (λ more wrong. (let differ = wrong in cc))

  pub promised_was : (address seat words : ℕ) → pruned live block address ≡ Some (promised seat words) → block address ≡ Some (promised seat words)
  promised_was address seat words = other_was address (promised seat words) (λ more wrong. (let differ = wrong in cc))

  pub moved_was : (address refs nums target : ℕ) (name : Name) → pruned live block address ≡ Some (moved name refs nums target) → block address ≡ Some (moved name refs nums target)
  moved_was address refs nums target name = other_was address (moved name refs nums target) (λ more wrong. (let differ = wrong in cc))

  pub spent_was : (address words target : ℕ) → pruned live block address ≡ Some (spent words target) → block address ≡ Some (spent words target)
  spent_was address words target = other_was address (spent words target) (λ more wrong. (let differ = wrong in cc))

  -- all room is the same
  pub pruned_rooms : SameRoom block (pruned live block)
  pruned_rooms = record { stays = room_stays; came = λ address seat piece room piece_there. room_was address seat piece room piece_there }

  -- an object was one
  fixed_from : (address : ℕ) (piece : Block) → pruned live block address ≡ Some piece → is_loose piece ≡ false → (other_piece : Block) × (block address ≡ Some other_piece) × (is_loose other_piece ≡ false) × (words_of other_piece ≡ words_of piece)
  fixed_from address piece piece_there fixed = let was_there = piece_was address piece piece_there in (was_there.0, was_there.1, fixed_was was_there.0 piece (live address) was_there.2 fixed, words_were was_there.0 piece (live address) was_there.2)
    where
      fixed_was : (old_piece new_piece : Block) (holds : Bool) → WasPiece holds old_piece new_piece → is_loose new_piece ≡ false → is_loose old_piece ≡ false
      fixed_was old_piece new_piece holds (WasPiece.was_left same_piece is_live) piece_fixed = ap is_loose same_piece ∙ piece_fixed
      fixed_was old_piece new_piece holds (WasPiece.was_object name refs nums object_there dies) piece_fixed = ap is_loose object_there

  -- and says how many words it has
  pub pruned_sized : (memory : Word → ℕ) → AreSized memory block → AreSized memory (pruned live block)
  pruned_sized memory sized = record {
    objects = λ address piece piece_there fixed. let was_fixed = fixed_from address piece piece_there fixed in sized.objects address was_fixed.0 was_fixed.1 was_fixed.2 ∙ was_fixed.3;
    headers = λ address piece piece_there fixed. let was_fixed = fixed_from address piece piece_there fixed in sized.headers address was_fixed.0 was_fixed.1 was_fixed.2;
    fillers = λ address words piece_there. sized.fillers address words (filler_was address words piece_there);
  }

  resized : IsResized block (pruned live block)
  resized = record { from = pruned_from; to = λ address piece piece_there. (pruned_piece (live address) piece, pruned_at address piece piece_there) }

  -- pieces lie where they lay, and fill the regions
  pub pruned_plotted : (config : Config) (top : ℕ → ℕ) → IsPlotted config top block → IsPlotted config top (pruned live block)
  pruned_plotted config top = resized_plotted config top block (pruned live block) resized

  pub pruned_filled : (config : Config) (top : ℕ → ℕ) → IsFilled config top block → IsFilled config top (pruned live block)
  pruned_filled config top = resized_filled config top block (pruned live block) resized
