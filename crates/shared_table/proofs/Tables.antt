-- Whether two tables are one can be decided, of what they are to the proofs.
use Rattle.std.proofs.Common.{◌≡◌, ◌≢◌, ◌⊎◌, ℕ, List, [], ◌∷◌, length, refl, ap, inl, inr, arith}
use native.Mathlib.Decide.{ℕ_discrete}
use mathlib.Core.Logic.{dite}
use Rattle.atomic_table.specs.Seated.{TableId}

abbrev Decided : {X : Type 0} → (x y : X) → Type 0
Decided x y = (x ≡ y) ⊎ (x ≢ y)

number_decided : (number other_number : ℕ) → Decided number other_number
number_decided number other_number = dite (ℕ_discrete number other_number) (λ equal. inl equal) (λ unequal. inr unequal)

-- two are decided where each is
both_decided : {X Y Z : Type 0} {x other_x : X} {y other_y : Y} {z other_z : Z} → (z ≡ other_z → x ≡ other_x) → (z ≡ other_z → y ≡ other_y) → (x ≡ other_x → y ≡ other_y → z ≡ other_z) → Decided x other_x → Decided y other_y → Decided z other_z
both_decided left_follows right both_follow (inl left_same) (inl right_same) = inl (both_follow left_same right_same)
both_decided left_follows right both_follow (inl left_same) (inr unequal) = inr (λ same_whole. unequal (right same_whole))
both_decided left_follows right both_follow (inr unequal) decided = inr (λ same_whole. unequal (left_follows same_whole))

head_or : List ℕ → ℕ
head_or [] = 0
head_or (head ∷ tail) = head

tail_of : List ℕ → List ℕ
tail_of [] = []
tail_of (head ∷ tail) = tail

numbers_decided : (xs ys : List ℕ) → Decided xs ys
unfolding head_or tail_of
numbers_decided [] [] = inl refl
numbers_decided [] (y ∷ ys) = inr (λ equal. let same_length : 0 ≡ length (y ∷ ys) = ap length equal in absurd (omega arith))
numbers_decided (x ∷ xs) [] = inr (λ equal. let same_length : length (x ∷ xs) ≡ 0 = ap length equal in absurd (omega arith))
numbers_decided (x ∷ xs) (y ∷ ys) = both_decided {z = x ∷ xs} {other_z = y ∷ ys} (λ same_list. ap head_or same_list) (λ same_list. ap tail_of same_list) (λ equal equal_tails i. equal i ∷ equal_tails i) (number_decided x y) (numbers_decided xs ys)

-- what tells tables apart, as pairs
abbrev told : TableId → ℕ × (ℕ × (ℕ × (ℕ × (ℕ × (ℕ × List ℕ)))))
told table = (table.words, (table.slots, (table.views_name, (table.atom, (table.block, (table.offset, table.slot_names))))))

pair_decided : {X Y : Type 0} (left_pair right_pair : X × Y) → Decided left_pair.0 right_pair.0 → Decided left_pair.1 right_pair.1 → Decided left_pair right_pair
pair_decided left_pair right_pair decided second_decided = both_decided {z = left_pair} {other_z = right_pair} (λ same_pair. ap (λ pair. pair.0) same_pair) (λ same_pair. ap (λ pair. pair.1) same_pair) (λ same_left same_right i. (same_left i, same_right i)) decided second_decided

told_decided : (table second_table : TableId) → Decided (told table) (told second_table)
told_decided table second_table =
    pair_decided (told table) (told second_table) (number_decided table.words second_table.words)
    (pair_decided (told table).1 (told second_table).1 (number_decided table.slots second_table.slots)
    (pair_decided (told table).1.1 (told second_table).1.1 (number_decided table.views_name second_table.views_name)
    (pair_decided (told table).1.1.1 (told second_table).1.1.1 (number_decided table.atom second_table.atom)
    (pair_decided (told table).1.1.1.1 (told second_table).1.1.1.1 (number_decided table.block second_table.block)
    (pair_decided (told table).1.1.1.1.1 (told second_table).1.1.1.1.1 (number_decided table.offset second_table.offset)
    (numbers_decided table.slot_names second_table.slot_names))))))

pub table_decided : (table second_table : TableId) → Decided table second_table
table_decided table second_table = both_decided {Y = ℕ} {x = told table} {other_x = told second_table} {y = 0} {other_y = 0} {z = table} {other_z = second_table} (λ same_table. ap told same_table) (λ same_table. refl)
    (λ same_told same_zero i. record { words = (same_told i).0; slots = (same_told i).1.0; views_name = (same_told i).1.1.0; atom = (same_told i).1.1.1.0; block = (same_told i).1.1.1.1.0; offset = (same_told i).1.1.1.1.1.0; slot_names = (same_told i).1.1.1.1.1.1 })
    (told_decided table second_table) (inl refl)
