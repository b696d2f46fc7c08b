-- Lemmas on options.
use Rattle.std.proofs.Common.{◌≡◌, true, false, Option, Some, None, refl, Bool, cond}
use Rattle.std.specs.Option.{is_some, option_map}

-- what is not some is none
pub none_if_not_some : {A : Type 0} (found : Option A) → is_some found ≡ false → found ≡ None
none_if_not_some None not_some = refl
none_if_not_some (Some x) not_some = cc

-- what is some is some value
pub some_if_is_some : {A : Type 0} (found : Option A) → is_some found ≡ true → (value : A) × (found ≡ Some value)
some_if_is_some None some_value = absurd cc
some_if_is_some (Some value) some_value = (value, refl)

-- what is never some value is none
pub none_if_never : {A : Type 0} (found : Option A) → ((x : A) → found ≡ Some x → ⊥) → found ≡ None
none_if_never None never = refl
none_if_never (Some x) never = absurd (never x refl)

-- what is mapped to none is none
pub none_before_map : {A B : Type 0} (f : A → B) (found : Option A) → option_map f found ≡ None → found ≡ None
none_before_map f None none_mapped = refl
none_before_map f (Some x) none_mapped = absurd cc

-- what is some value was not stopped
pub not_stopped : {A : Type 0} (holds : Bool) (found : Option A) (y : A) → cond holds None found ≡ Some y → (holds ≡ false) × (found ≡ Some y)
not_stopped true found y some_result = absurd cc
not_stopped false found y some_result = (refl, some_result)
