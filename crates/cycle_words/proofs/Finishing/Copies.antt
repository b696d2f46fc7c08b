-- Copying all that is left, address by address.
use Rattle.heap_words.specs.Phases.{evacuation_phase}
use Rattle.std.proofs.Common.{◌≡◌, ◌≢◌, ℕ, ◌+◌, ◌*◌, ◌==◌, ◌&&◌, Bool, true, false, Option, Some, None, zero, suc, refl, sym, ap, ◌∙◌, ⊎_elim}
use Rattle.std.specs.Prelude.{if◌then◌else◌}
use Rattle.std.proofs.Math.Path.{fun_ext}
use Rattle.std.proofs.lemmas.Bool.{cases_Bool, cases_eq, cond-true, cond-false, and_parts, eq-eqb, ne_eqb, true≢false}
use Rattle.heap_words.specs.declared.config.Config.{Config}
use Rattle.heap_words.specs.Words.{Word, Phase, Cset}
use Rattle.cycle_words.specs.Evacuation.Copied.{copy_room, MayChange, copied_in, copied_out}
use Rattle.cycle_words.proofs.Evacuation.CopiedOut.{others_stay}
use Rattle.cycle_words.specs.Finishing.Copies.{is_left, is_found, has_copy_room, copied_from, is_room_from, all_copied}

-- where there is room, a region has it
pub room_found : (config : Config) (memory : Word → ℕ) (address : ℕ) → has_copy_room config memory address ≡ true → copy_room config memory address ≢ None
room_found config memory address room no_room = true≢false (sym room ∙ ap is_found no_room)

module _ (config : Config) (memory : Word → ℕ) (address addresses : ℕ) where
  abbrev next : Word → ℕ
  next = copied_from config (copied_out config memory address) (address + 1) addresses

  abbrev tried : Word → ℕ
  tried word = if has_copy_room config memory address then next word else memory word

  pub copied_none : copied_from config memory address zero ≡ memory
  unfolding copied_from
  copied_none = refl

  pub copied_next : is_left config memory address ≡ true → has_copy_room config memory address ≡ true → copied_from config memory address (suc addresses) ≡ copied_from config (copied_out config memory address) (address + 1) addresses
  unfolding copied_from
  copied_next object_left room = fun_ext (λ word.
      cond-true (is_left config memory address) (tried word) (copied_from config memory (address + 1) addresses word) object_left
      ∙ cond-true (has_copy_room config memory address) (next word) (memory word) room)

  pub copied_stuck : is_left config memory address ≡ true → has_copy_room config memory address ≡ false → copied_from config memory address (suc addresses) ≡ memory
  unfolding copied_from
  copied_stuck object_left no_room = fun_ext (λ word.
      cond-true (is_left config memory address) (tried word) (copied_from config memory (address + 1) addresses word) object_left
      ∙ cond-false (has_copy_room config memory address) (next word) (memory word) no_room)

  pub copied_skips : is_left config memory address ≡ false → copied_from config memory address (suc addresses) ≡ copied_from config memory (address + 1) addresses
  unfolding copied_from
  copied_skips not_left = fun_ext (λ word. cond-false (is_left config memory address) (tried word) (copied_from config memory (address + 1) addresses word) not_left)

  abbrev room_next : Bool
  room_next = has_copy_room config memory address && is_room_from config (copied_out config memory address) (address + 1) addresses

  pub room_if : is_left config memory address ≡ true → is_room_from config memory address (suc addresses) ≡ true → (has_copy_room config memory address ≡ true) × (is_room_from config (copied_out config memory address) (address + 1) addresses ≡ true)
  unfolding is_room_from
  room_if object_left room =
      and_parts (has_copy_room config memory address) (is_room_from config (copied_out config memory address) (address + 1) addresses)
      (sym (cond-true (is_left config memory address) room_next (is_room_from config memory (address + 1) addresses) object_left) ∙ room)

  pub room_skips : is_left config memory address ≡ false → is_room_from config memory address (suc addresses) ≡ true → is_room_from config memory (address + 1) addresses ≡ true
  unfolding is_room_from
  room_skips not_left room = sym (cond-false (is_left config memory address) room_next (is_room_from config memory (address + 1) addresses) not_left) ∙ room

-- Words that copying does not change stay.
copied_other : (config : Config) (memory : Word → ℕ) (address : ℕ) (found : Option ℕ) (word : Word) → (MayChange word → ⊥) → copied_in config memory address found word ≡ memory word
copied_other config memory address None word stays = refl
copied_other config memory address (Some region) word stays = others_stay config memory address region word stays

other_from : (config : Config) (addresses : ℕ) (memory : Word → ℕ) (address : ℕ) (word : Word) → (MayChange word → ⊥) → copied_from config memory address addresses word ≡ memory word
other_from config zero memory address word stays = ap (λ (memory : Word → ℕ). memory word) (copied_none config memory address 0)
other_from config (suc addresses) memory address word stays = ⊎_elim
    (λ (object_left : is_left config memory address ≡ true). ⊎_elim
    (λ (room : has_copy_room config memory address ≡ true).
    ap (λ (memory : Word → ℕ). memory word) (copied_next config memory address addresses object_left room) ∙ other_from config addresses (copied_out config memory address) (address + 1) word stays ∙ copied_other config memory address (copy_room config memory address) word stays)
    (λ (no_room : has_copy_room config memory address ≡ false). ap (λ (memory : Word → ℕ). memory word) (copied_stuck config memory address addresses object_left no_room))
    (cases_Bool (has_copy_room config memory address)))
    (λ (not_left : is_left config memory address ≡ false). ap (λ (memory : Word → ℕ). memory word) (copied_skips config memory address addresses not_left) ∙ other_from config addresses memory (address + 1) word stays)
    (cases_Bool (is_left config memory address))

pub all_copied_other : (config : Config) (memory : Word → ℕ) (word : Word) → (MayChange word → ⊥) → all_copied config memory word ≡ memory word
all_copied_other config memory word stays = ⊎_elim
    (λ (evacuating : memory Phase ≡ evacuation_phase).
    cond-true (memory Phase == evacuation_phase) (copied_from config memory config.region_words (config.regions * config.region_words) word) (memory word) (eq-eqb (memory Phase) 2 evacuating)
    ∙ other_from config (config.regions * config.region_words) memory config.region_words word stays)
    (λ (not_evacuating : memory Phase ≢ evacuation_phase). cond-false (memory Phase == evacuation_phase) (copied_from config memory config.region_words (config.regions * config.region_words) word) (memory word) (ne_eqb (memory Phase) 2 not_evacuating))
    (cases_eq (memory Phase) 2)

-- so does the collection set
pub all_copied_set : (config : Config) (memory : Word → ℕ) → all_copied config memory Cset ≡ memory Cset
all_copied_set config memory = all_copied_other config memory Cset (λ never. never)
