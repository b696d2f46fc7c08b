-- What a bundle of machines is to the others: a list with a machine under each number that is its own, and none under
-- the numbers of machines of other bundles.
use Rattle.std.specs.Prelude.{ℕ, zero, suc, ◌≡◌, ◌%◌, ◌==◌, Bool, not, nat_lt, List, [], ◌∷◌, map, length, Option, Some, None, if◌then◌else◌}
use Rattle.std.specs.Option.{is_some}

abbrev pub View : Type 0 → Type 0
View R = List (Option R)

-- the machine that the view has under the number
abbrev pub machine_of : {R : Type 0} → View R → ℕ → Option R
machine_of [] number = None
machine_of (x ∷ xs) zero = x
machine_of (x ∷ xs) (suc number) = machine_of xs number

-- the machine that a seat's view has under the number
abbrev pub seen_under : {R : Type 0} → List (View R) → ℕ → ℕ → Option R
seen_under [] seat number = None
seen_under (view ∷ rest) zero number = machine_of view number
seen_under (view ∷ rest) (suc seat) number = seen_under rest seat number

-- all machines in one view
abbrev pub whole : {R : Type 0} → List R → View R
whole machines = map Some machines

-- the machines of a view, in the order of their numbers
abbrev pub machines_of : {R : Type 0} → View R → List R
machines_of [] = []
machines_of (None ∷ xs) = machines_of xs
machines_of (Some machine ∷ xs) = machine ∷ machines_of xs

-- the view has all machines, of so many
pub record HasAllMachines {R : Type 0} (count : ℕ) (view : View R) : Type 0 where
  pub all : view ≡ whole (machines_of view)
  pub counts : length view ≡ count

-- the machines whose numbers pass the test
abbrev pub machines_picked : {R : Type 0} → (ℕ → Bool) → View R → View R
machines_picked test [] = []
machines_picked test (x ∷ xs) = (if test 0 then x else None) ∷ machines_picked (λ number. test (suc number)) xs

-- the machines whose numbers do not
abbrev pub machines_left : {R : Type 0} → (ℕ → Bool) → View R → View R
machines_left test view = machines_picked (λ number. not (test number)) view

-- the one that is there
abbrev pub whichever_is_there : {R : Type 0} → Option R → Option R → Option R
whichever_is_there None other = other
whichever_is_there (Some machine) other = Some machine

-- the machines of two bundles
abbrev pub merged : {R : Type 0} → View R → View R → View R
merged [] ys = ys
merged (x ∷ xs) [] = x ∷ xs
merged (x ∷ xs) (y ∷ ys) = whichever_is_there x y ∷ merged xs ys

-- whether a machine is dealt to this bundle, of so many: they are dealt in turn, as cards are
abbrev pub is_dealt_to : ℕ → ℕ → ℕ → Bool
is_dealt_to bundles bundle number = number % bundles == bundle

-- whether it is dealt to one of the bundles below
abbrev pub is_dealt_below : ℕ → ℕ → ℕ → Bool
is_dealt_below bundles bundle number = nat_lt (number % bundles) bundle

-- the bundle's machines
abbrev pub dealt_to : {R : Type 0} → ℕ → ℕ → View R → View R
dealt_to bundles bundle view = machines_picked (is_dealt_to bundles bundle) view

-- the machines of the bundles below
abbrev pub dealt_below : {R : Type 0} → ℕ → ℕ → View R → View R
dealt_below bundles bundle view = machines_picked (is_dealt_below bundles bundle) view

-- what is kept in memory of a machine, where there is one
abbrev pub kept_one : {R T : Type 0} → (R → T) → Option R → Option T
kept_one kept None = None
kept_one kept (Some machine) = Some (kept machine)

-- what is kept in memory of the machines of a view
abbrev pub kept_in_view : {R T : Type 0} → (R → T) → View R → View T
kept_in_view kept [] = []
kept_in_view kept (x ∷ xs) = kept_one kept x ∷ kept_in_view kept xs

-- two views have machines under the same numbers
pub record SameNumbers {R : Type 0} (view other_view : View R) : Type 0 where
  pub long : length other_view ≡ length view
  pub here : (number : ℕ) → is_some (machine_of other_view number) ≡ is_some (machine_of view number)
