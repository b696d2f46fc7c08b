-- Seats of a heap that handles hold, and why it is not given up.
use Rattle.std.specs.Prelude.{ℕ, suc, ◌≡◌, ◌==◌, Bool, true, false, ◌&&◌, ◌||◌, ◌⊎◌, List, [], ◌∷◌, ◌++◌, length, Option, Some, None, MatchOption, if◌then◌else◌}
use Rattle.heap_words.specs.Ranges.{seat_count}
use Rattle.heap_seats.specs.declared.seat.Seat.{Seat}
use Rattle.heap_seats.specs.Seats.{config_of, number_of, state_in}
use Rattle.covremuj.specs.declared.asked.Asked.{Asked}
use Rattle.covremuj.specs.declared.asked.Asked.TheVariants.{Open, Numbered, Over, Ended}
use Rattle.covremuj.specs.Answers.{kind_of, state_number}

-- the seat that a handle holds, if it is open
abbrev pub seat_in : Option Seat → List Seat
seat_in None = []
seat_in (Some seat) = seat ∷ []

-- the seats that handles hold, in their order
abbrev pub seats_in : List (Option Seat) → List Seat
seats_in [] = []
seats_in (handle ∷ others) = seat_in handle ++ seats_in others

-- Whether a seat is one of a heap of so many whose number is its place; whether it has ended, or is a helper's; whether it has ended.
abbrev pub seat_shows : Asked → (count place : ℕ) → Seat → Bool
seat_shows Open count place seat = true
seat_shows Numbered count place seat = (number_of seat == place) && (seat_count (config_of seat).mutators (config_of seat).helpers == count)
seat_shows Over count place seat = (kind_of seat == 2) || (state_number (state_in seat) == 2)
seat_shows Ended count place seat = state_number (state_in seat) == 2

abbrev pub shows : Asked → (count place : ℕ) → Option Seat → Bool
shows asked count place None = false
shows asked count place (Some seat) = seat_shows asked count place seat

-- so does each, from this place on
abbrev pub all_show : Asked → (count place : ℕ) → List (Option Seat) → Bool
all_show asked count place [] = true
all_show asked count place (handle ∷ others) = shows asked count place handle && all_show asked count (suc place) others

abbrev pub each_shows : Asked → List (Option Seat) → Bool
each_shows asked held = all_show asked (length held) 0 held

-- an empty handle is the first cause, and the second that they are not as many seats as a heap has, each at the place of its number
abbrev pub cause_by : (filled numbered : Bool) → Option ℕ
cause_by filled numbered = if filled then (if numbered then None else Some 56) else Some 32

-- Such a cause is answered; or that the shares do not show one heap; or else whether all mutators and the control have ended.
abbrev pub AnswersBy : (filled numbered over : Bool) → ℕ → Type 0
AnswersBy filled numbered over answer = MatchOption (cause_by filled numbered) ((answer ≡ 56) ⊎ (answer ≡ (if over then 0 else 34))) (λ why. answer ≡ why)

-- so it is where this is asked last
abbrev pub AnswersAsked : Asked → List (Option Seat) → ℕ → Type 0
AnswersAsked asked [] answer = answer ≡ 56
AnswersAsked asked (handle ∷ others) answer = AnswersBy (each_shows Open (handle ∷ others)) (each_shows Numbered (handle ∷ others)) (each_shows asked (handle ∷ others)) answer

abbrev pub AnswersClosing : List (Option Seat) → ℕ → Type 0
AnswersClosing held answer = AnswersAsked Over held answer
