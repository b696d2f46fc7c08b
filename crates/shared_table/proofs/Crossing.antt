-- What a seat owns of its table another seat of that table can own.
use Rattle.std.proofs.Common.{◌≡◌, ◌≢◌, ◌⊎◌, ℕ, [], ◌∷◌, subst, refl, inl, inr}
use seplogic.Ra.Ura.{Ura}
use base.Logic.{SProp, ent, sep, id⊢}
use base.Stored.{Gv}
use types.Logic.{Logic, sem}
use types.Kit.{‵, ◌$◌, ◌∵◌, !, qed, move, join, done}
use denote.RattleType.{RattleType}
use Rattle.atomic_table.specs.Table.{Me}
use Rattle.atomic_table.specs.Seated.{TableId, mine}

-- the first where it is so, and else the second
abbrev pub which : {A B X : Type 0} → A ⊎ B → X → X → X
which (inl a) x y = x
which (inr b) x y = y

module _ {M : Type 1} {𝓤 : Ura M} (𝓛 : Logic 𝓤) (R : RattleType) {V : Type 0} (c : V → Gv) (table : TableId) (first_holder second_holder : ℕ × Me R.Denot V) where
  abbrev Owned : TableId → ℕ × Me R.Denot V → SProp 𝓤
  Owned given_table held = sem 𝓛 (mine R c given_table held.0 held.1)

  exchanged : ent 𝓤 (sep 𝓤 (Owned table first_holder) (Owned table second_holder)) (sep 𝓤 (Owned table second_holder) (Owned table first_holder))
  exchanged = qed 𝓛 (‵ (mine R c table first_holder.0 first_holder.1) ∷ ‵ (mine R c table second_holder.0 second_holder.1) ∷ []) ∵ move ! (1 ∷ 0 ∷ []) $ join ! $ done !

  pub crossed : (other_table : TableId) (same_or_apart : (table ≡ other_table) ⊎ (table ≢ other_table)) → ent 𝓤 (sep 𝓤 (Owned table first_holder) (Owned other_table second_holder)) (sep 𝓤 (Owned table (which same_or_apart second_holder first_holder)) (Owned other_table (which same_or_apart first_holder second_holder)))
  crossed other_table (inl same_table) = subst (λ given_table. ent 𝓤 (sep 𝓤 (Owned table first_holder) (Owned given_table second_holder)) (sep 𝓤 (Owned table second_holder) (Owned given_table first_holder))) same_table exchanged
  crossed other_table (inr tables_apart) = id⊢ 𝓤 (sep 𝓤 (Owned table first_holder) (Owned other_table second_holder))

pub which_same : {A X : Type 0} (decided : A ⊎ (A → ⊥)) (x y : X) → A → which decided x y ≡ x
which_same (inl yes_case) x y holds = refl
which_same (inr no_case) x y holds = absurd (no_case holds)

pub which_one : {A B X : Type 0} (d : A ⊎ B) (x y : X) → (which d x y ≡ x) ⊎ (which d x y ≡ y)
which_one (inl a) x y = inl refl
which_one (inr b) x y = inr refl
