-- What stands at the front of bytes.
use Rattle.std.specs.Prelude.{ℕ, ◌≡◌, false, List, [], ◌∷◌, ◌++◌}
use Rattle.std.specs.Char.{is_ascii_digit}
use Rattle.heap_words.specs.declared.config.Config.{Config}
use Rattle.heap_words.specs.declared.schedule.Item.{Item}
use Rattle.trace_reading.specs.Spelling.{newline, number_of, IsItem}

-- no digit stands at the front
abbrev pub NoDigit : List ℕ → Type 0
NoDigit [] = Unit {0}
NoDigit (byte ∷ bytes) = is_ascii_digit byte ≡ false

-- the line ends here
abbrev pub IsLineEnd : List ℕ → Type 0
IsLineEnd [] = ⊥
IsLineEnd (byte ∷ bytes) = byte ≡ newline

-- no line of a command begins here: the bytes end, or a line of the schedule follows
abbrev pub IsBehindCommands : List ℕ → Type 0
IsBehindCommands [] = Unit {0}
IsBehindCommands (byte ∷ bytes) = byte ≡ 33

-- The bytes begin with this, as it is spelled, and go on with the rest. They begin with nothing else of the kind that ends
-- before a byte that is no digit.
pub record BeginsWith {A : Type 0} (spelling : A → List ℕ) (IsGood : A → Type 0) (bytes : List ℕ) (x : A) (rest : List ℕ) : Type 0 where
  pub good : IsGood x
  pub spelled : bytes ≡ spelling x ++ rest
  pub only : (y : A) (after : List ℕ) → IsGood y → NoDigit after → bytes ≡ spelling y ++ after → (x ≡ y) × (rest ≡ after)

-- the bytes begin with nothing of the kind
abbrev pub BeginsWithNone : {A : Type 0} → (A → List ℕ) → (A → Type 0) → List ℕ → Type 0
BeginsWithNone {A} spelling IsGood bytes = (y : A) (after : List ℕ) → IsGood y → NoDigit after → bytes ≡ spelling y ++ after → ⊥

-- anything will do
abbrev pub IsAny : {A : Type 0} → A → Type 0
IsAny x = Unit {0}

-- an item of this machine
abbrev pub IsItemOf : Config → ℕ → Item → Type 0
IsItemOf config number item = IsItem config item × (number_of item ≡ number)
