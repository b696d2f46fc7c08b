-- What is answered where a heap is to be renewed, and what handles hold then.
use Rattle.std.specs.Prelude.{ℕ, ◌≡◌, ◌⊎◌, Bool, true, false, List, [], ◌∷◌, map, Option, Some, None, MatchOption, slice_get, ⊤}
use Rattle.heap_words.specs.declared.config.Config.{Config}
use Rattle.heap_words.specs.Steps.{Stage}
use Rattle.step_core.specs.Actor.{Actor}
use Rattle.heap_seats.specs.declared.renewing.Renewal.{Renewal}
use Rattle.heap_seats.specs.declared.renewing.Following.{Following}
use Rattle.heap_seats.specs.declared.closing.Closing.{Closing}
use Rattle.heap_seats.specs.declared.seat.Seat.{Seat}
use Rattle.heap_seats.specs.GivenUp.{heap_closing, AreGivenUp, HaveNot}
use Rattle.heap_seats.specs.Renewed.{AreFollowed}
use Rattle.heap_seats.specs.Seats.{config_of, number_of, heap_shared, start_of_seat}
use Rattle.covremuj.specs.declared.asked.Asked.TheVariants.{Open, Numbered, Ended}
use Rattle.covremuj.specs.ClosedHandles.{each_shows, cause_by}
use Rattle.covremuj.specs.StatusNumbers.{number_of_renewal}

-- The answer is why nothing has changed; or that nothing is left of the heap; or what came of the renewal.
abbrev pub AnswersGoing : ℕ → Type 0
AnswersGoing answer = (answer ≡ 55) ⊎ ((answer ≡ 27) ⊎ ((renewal : Renewal) × (answer ≡ number_of_renewal renewal)))

-- Where each seat has ended, one of these is answered, and else that one is busy.
abbrev pub AnswersEnded : Bool → ℕ → Type 0
AnswersEnded true answer = AnswersGoing answer
AnswersEnded false answer = answer ≡ 34

-- An empty handle, or that they are not the seats of a heap, each at the place of its number, is answered first; or that the shares do not show one heap.
abbrev pub AnswersBySeats : (filled numbered ended : Bool) → ℕ → Type 0
AnswersBySeats filled numbered ended answer = MatchOption (cause_by filled numbered) ((answer ≡ 56) ⊎ AnswersEnded ended answer) (λ why. answer ≡ why)

abbrev pub AnswersRenewing : List (Option Seat) → ℕ → Type 0
AnswersRenewing [] answer = answer ≡ 56
AnswersRenewing (handle ∷ others) answer = AnswersBySeats (each_shows Open (handle ∷ others)) (each_shows Numbered (handle ∷ others)) (each_shows Ended (handle ∷ others)) answer

-- A heap goes on in place of that of these seats, whose history is one.
pub record AreFollowedHere (olds : List Seat) (following : Following) : Type 0 where
  pub sizes : Config
  pub start : Stage Actor
  pub config : (index : ℕ) (seat : Seat) → slice_get olds index ≡ Some seat → config_of seat ≡ sizes
  pub begun : (index : ℕ) (seat : Seat) → slice_get olds index ≡ Some seat → start_of_seat seat ≡ start
  pub followed : AreFollowed sizes start olds following.renewal following.seats.items

-- Handles hold the seats of such a heap, and the answer is what came of the renewal.
pub record AreFollowedBy (olds : List Seat) (answer : ℕ) (held : List (Option Seat)) : Type 0 where
  pub following : Following
  pub here : AreFollowedHere olds following
  pub answers : answer ≡ number_of_renewal following.renewal
  pub holds : held ≡ map Some following.seats.items

-- ---- seats that are given up together

-- these are the seats that are given up, and the heap is that of the first
pub record AreGivenAs (seats : List Seat) (closing : Closing) : Type 0 where
  pub given : AreGivenUp seats closing
  pub first : Seat
  pub there : slice_get seats 0 ≡ Some first
  pub heap : heap_shared first ≡ heap_closing closing

abbrev pub AreGivenIn : List Seat → Option Closing → Type 0
AreGivenIn seats None = seats ≡ []
AreGivenIn seats (Some closing) = AreGivenAs seats closing

-- a seat, if there is one, is of the heap that is given up, if one is
abbrev pub IsOfThatHeap : Option Closing → Option Seat → Type 0
IsOfThatHeap None seat = ⊤
IsOfThatHeap (Some closing) None = ⊤
IsOfThatHeap (Some closing) (Some seat) = heap_shared seat ≡ heap_closing closing

-- none of these has its number
abbrev pub AreAbsent : List Seat → Option Seat → Type 0
AreAbsent seats None = ⊤
AreAbsent seats (Some seat) = HaveNot seats (number_of seat)
