-- Updating of references goes on while words of objects change, and a piece becomes an object.
use Rattle.std.proofs.Common.{◌≡◌, ◌≢◌, ℕ, ◌+◌, ◌<◌, ◌⊎◌, Option, Some, inl, inr, ⊎_elim, sym, ap, ◌∙◌, subst, arith}
use Rattle.std.proofs.lemmas.Bool.{cases_eq}
use Rattle.std.proofs.lemmas.Option.{none-some, same_Some}
use Rattle.heap_words.specs.declared.config.Config.{Config}
use Rattle.shen_graph.specs.declared.name.Name.{Name}
use Rattle.heap_world.specs.World.{Block, thing, room_of, Plot, Scan, IsCollected, IsUsable, IsCurrent, IsToUpdate, IsUpdating}

-- a word that may be used as a reference is current
pub usable_current : (config : Config) (cset evac : ℕ) (block : Plot) (word : ℕ) → IsUsable config cset evac block word → IsCurrent block word
usable_current config cset evac block word (inl null) = IsCurrent.null null
usable_current config cset evac block word (inr target) = IsCurrent.names target.1 target.2 target.0 target.3.piece

-- a current word stays so where objects stay where they are
pub current_stays : (plot next_plot : Plot) → ((address refs nums : ℕ) (name : Name) → plot address ≡ Some (thing name refs nums) → next_plot address ≡ Some (thing name refs nums)) → (word : ℕ) → IsCurrent plot word → IsCurrent next_plot word
current_stays plot next_plot objects_stay word (IsCurrent.null null) = IsCurrent.null null
current_stays plot next_plot objects_stay word (IsCurrent.names refs nums name object_there) = IsCurrent.names refs nums name (objects_stay word refs nums name object_there)

module _ (config : Config) (cset claim : ℕ) (top limit heap : ℕ → ℕ) (block : Plot) (scanning : ℕ → Option Scan) (updating : IsUpdating config cset claim top limit heap block scanning) where
  -- Words change, but each field of an object stays, or is current then.
  pub updated_stored : (after : ℕ → ℕ)
      → ((address refs nums field : ℕ) (name : Name) → block address ≡ Some (thing name refs nums) → field < refs → (after (address + 3 + field) ≡ heap (address + 3 + field)) ⊎ IsCurrent block (after (address + 3 + field)))
      → IsUpdating config cset claim top limit after block scanning
  updated_stored after fields = record {
    outside = updating.outside;
    renewed = λ address refs nums field name object_there field_below. ⊎_elim
        (λ same_word. subst (λ word. IsCurrent block word ⊎ IsToUpdate config claim limit scanning address field) (sym same_word) (updating.renewed address refs nums field name object_there field_below))
        (λ current. inl current)
        (fields address refs nums field name object_there field_below);
    young = updating.young;
    limits = updating.limits;
  }

  -- so it is where no word of an object changes
  pub updated_elsewhere : (after : ℕ → ℕ) → ((address refs nums field : ℕ) (name : Name) → block address ≡ Some (thing name refs nums) → field < refs → after (address + 3 + field) ≡ heap (address + 3 + field))
      → IsUpdating config cset claim top limit after block scanning
  updated_elsewhere after fields_stay = updated_stored after (λ address refs nums field name object_there field_below. inl (fields_stay address refs nums field name object_there field_below))

  -- A piece that stands for no object becomes one, outside of the collection set, whose references are current.
  pub updated_made : (new_block : Plot) (address refs nums : ℕ) (name : Name) → new_block address ≡ Some (thing name refs nums)
      → (IsCollected config cset address → ⊥) → ((field : ℕ) → field < refs → IsCurrent new_block (heap (address + 3 + field)))
      → ((other_address other_refs other_nums : ℕ) (other_name : Name) → block other_address ≡ Some (thing other_name other_refs other_nums) → new_block other_address ≡ Some (thing other_name other_refs other_nums))
      → ((other_address : ℕ) (piece : Block) → new_block other_address ≡ Some piece → other_address ≢ address → block other_address ≡ Some piece)
      → IsUpdating config cset claim top limit heap new_block scanning
  updated_made new_block address refs nums name object_here outside fields objects_stay only_object = record {
    outside = λ other_address other_refs other_nums other_name object_there inside. ⊎_elim
        (λ (same_address : other_address ≡ address). outside (subst (IsCollected config cset) same_address inside))
        (λ (other_place : other_address ≢ address). updating.outside other_address other_refs other_nums other_name (only_object other_address (thing other_name other_refs other_nums) object_there other_place) inside)
        (cases_eq other_address address);
    renewed = λ other_address other_refs other_nums field other_name object_there field_below. ⊎_elim
        (λ (same_address : other_address ≡ address).
        let same_piece : Some (thing name refs nums) ≡ Some (thing other_name other_refs other_nums) = sym object_here ∙ ap new_block (sym same_address) ∙ object_there in
        let refs_are : other_refs ≡ refs = cc in
        inl (subst (λ x. IsCurrent new_block (heap (x + 3 + field))) (sym same_address) (fields field (omega (arith, field_below, refs_are)))))
        (λ (other_place : other_address ≢ address). ⊎_elim
        (λ current. inl (current_stays block new_block objects_stay (heap (other_address + 3 + field)) current))
        (λ due. inr due)
        (updating.renewed other_address other_refs other_nums field other_name (only_object other_address (thing other_name other_refs other_nums) object_there other_place) field_below))
        (cases_eq other_address address);
    young = λ other_address seat x object_there room. updating.young other_address seat x
        (only_object other_address x object_there (λ same_address. none-some seat (ap room_of (same_Some (thing name refs nums) x (sym object_here ∙ ap new_block (sym same_address) ∙ object_there)) ∙ room)))
        room;
    limits = updating.limits;
  }
