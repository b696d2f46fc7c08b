-- Pieces taken one after the other from the front of bytes, until a tail stands there.
use Rattle.shen_graph.proofs.Lists.{all_append}
use Rattle.std.proofs.Common.{◌≡◌, ℕ, List, [], ◌∷◌, ◌++◌, sym, ap, subst, ◌∙◌, append_assoc}
use Rattle.std.specs.List.{flat_map, AllByRecursion}
use Rattle.std.proofs.lemmas.List.{append-nil}
use Rattle.std.proofs.lemmas.List.Concat.{flat_map-cons}
use Rattle.std.proofs.lemmas.Grind.{flat_map-append}
use Rattle.trace_reading.specs.Front.{NoDigit, BeginsWith, BeginsWithNone}

-- These pieces were taken, and every way to spell the bytes by pieces and a tail begins with them.
pub record HasBegun {A : Type 0} (spelling : A → List ℕ) (IsGood : A → Type 0) (IsTail : List ℕ → Type 0) (bytes rest : List ℕ) (pieces : List A) : Type 0 where
  pub good : AllByRecursion IsGood pieces
  pub spelled : bytes ≡ flat_map spelling pieces ++ rest
  pub only : (ys : List A) (tail : List ℕ) → AllByRecursion IsGood ys → IsTail tail → bytes ≡ flat_map spelling ys ++ tail → (more : List A) × (ys ≡ pieces ++ more) × AllByRecursion IsGood more × (rest ≡ flat_map spelling more ++ tail)

-- what is spelled by pieces and a tail begins with no digit, and a tail is no piece
pub record ArePieces {A : Type 0} (spelling : A → List ℕ) (IsTail : List ℕ → Type 0) : Type 0 where
  pub ends : (ys : List A) (tail : List ℕ) → IsTail tail → NoDigit (flat_map spelling ys ++ tail)
  pub no_tail : (y : A) (after : List ℕ) → IsTail (spelling y ++ after) → ⊥

pub first_piece : {A : Type 0} (spelling : A → List ℕ) (y : A) (ys : List A) (tail : List ℕ) → flat_map spelling (y ∷ ys) ++ tail ≡ spelling y ++ (flat_map spelling ys ++ tail)
first_piece spelling y ys tail = ap (λ (bytes : List ℕ). bytes ++ tail) (flat_map-cons spelling y ys) ∙ append_assoc (spelling y) (flat_map spelling ys) tail

pub one_taken : {A : Type 0} (spelling : A → List ℕ) (IsGood : A → Type 0) (IsTail : List ℕ → Type 0) (bytes rest after : List ℕ) (pieces : List A) (x : A) → ArePieces spelling IsTail
    → HasBegun spelling IsGood IsTail bytes rest pieces → (IsTail rest → ⊥) → BeginsWith spelling IsGood rest x after → HasBegun spelling IsGood IsTail bytes after (pieces ++ x ∷ [])
one_taken {A} spelling IsGood IsTail bytes rest after pieces x laws begun left_begins front = record {
  good = (all_append IsGood pieces (x ∷ []) begun.good (front.good, tt));
  spelled = begun.spelled ∙ ap (λ (given_bytes : List ℕ). flat_map spelling pieces ++ given_bytes) front.spelled ∙ sym (append_assoc (flat_map spelling pieces) (spelling x) after) ∙ ap (λ (given_bytes : List ℕ). given_bytes ++ after) (sym (flat_map-append spelling pieces (x ∷ []) ∙ ap (λ (given_bytes : List ℕ). flat_map spelling pieces ++ given_bytes) (flat_map-cons spelling x [] ∙ append-nil (spelling x))));
  only = λ ys tail all_ys_good is_tail same_text. let behind_begun = begun.only ys tail all_ys_good is_tail same_text in by_more ys tail is_tail behind_begun.0 behind_begun.1 behind_begun.2 behind_begun.3;
}
  where
    by_more : (ys : List A) (tail : List ℕ) → IsTail tail → (left_pieces : List A) → ys ≡ pieces ++ left_pieces → AllByRecursion IsGood left_pieces → rest ≡ flat_map spelling left_pieces ++ tail
        → (later : List A) × (ys ≡ (pieces ++ x ∷ []) ++ later) × AllByRecursion IsGood later × (after ≡ flat_map spelling later ++ tail)
    by_more ys tail is_tail [] same_pieces all_good same_bytes = absurd (left_begins (subst IsTail (sym same_bytes) is_tail))
    by_more ys tail is_tail (y ∷ later) same_pieces all_good same_bytes =
        let first_once = front.only y (flat_map spelling later ++ tail) all_good.0 (laws.ends later tail is_tail) (same_bytes ∙ first_piece spelling y later tail) in
        (later, same_pieces ∙ ap (λ (z : A). pieces ++ z ∷ later) (sym first_once.0) ∙ sym (append_assoc pieces (x ∷ []) later), all_good.1, first_once.1)

pub none_follows : {A : Type 0} (spelling : A → List ℕ) (IsGood : A → Type 0) (IsTail : List ℕ → Type 0) (bytes rest : List ℕ) (pieces : List A) → ArePieces spelling IsTail
    → HasBegun spelling IsGood IsTail bytes rest pieces → (IsTail rest → ⊥) → BeginsWithNone spelling IsGood rest
    → (ys : List A) (tail : List ℕ) → AllByRecursion IsGood ys → IsTail tail → bytes ≡ flat_map spelling ys ++ tail → ⊥
none_follows {A} spelling IsGood IsTail bytes rest pieces laws begun none_begins nothing_begins ys tail all_good is_tail same_spelling = let behind_begun = begun.only ys tail all_good is_tail same_spelling in by_more behind_begun.0 behind_begun.2 behind_begun.3
  where
    by_more : (left_pieces : List A) → AllByRecursion IsGood left_pieces → rest ≡ flat_map spelling left_pieces ++ tail → ⊥
    by_more [] all_more same_bytes = none_begins (subst IsTail (sym same_bytes) is_tail)
    by_more (y ∷ later) all_more same_bytes = nothing_begins y (flat_map spelling later ++ tail) all_more.0 (laws.ends later tail is_tail) (same_bytes ∙ first_piece spelling y later tail)

pub all_taken : {A : Type 0} (spelling : A → List ℕ) (IsGood : A → Type 0) (IsTail : List ℕ → Type 0) (bytes rest : List ℕ) (pieces : List A) → ArePieces spelling IsTail
    → HasBegun spelling IsGood IsTail bytes rest pieces → IsTail rest
    → (ys : List A) (tail : List ℕ) → AllByRecursion IsGood ys → IsTail tail → bytes ≡ flat_map spelling ys ++ tail → (pieces ≡ ys) × (rest ≡ tail)
all_taken {A} spelling IsGood IsTail bytes rest pieces laws begun at_tail ys tail all_good is_tail same_bytes = let behind_begun = begun.only ys tail all_good is_tail same_bytes in by_more behind_begun.0 behind_begun.1 behind_begun.3
  where
    by_more : (left_pieces : List A) → ys ≡ pieces ++ left_pieces → rest ≡ flat_map spelling left_pieces ++ tail → (pieces ≡ ys) × (rest ≡ tail)
    by_more [] same_pieces rest_is = (sym (same_pieces ∙ append-nil pieces), rest_is)
    by_more (y ∷ later) same_pieces rest_is = absurd (laws.no_tail y (flat_map spelling later ++ tail) (subst IsTail (rest_is ∙ first_piece spelling y later tail) at_tail))
