-- Seats that are given up together for a renewal, and what is answered then.
use Rattle.std.proofs.Common.{◌≡◌, ◌≢◌, inl, inr, ℕ, Bool, true, false, List, [], ◌∷◌, ◌++◌, length, Option, Some, None, refl, sym, ap, ◌∙◌, arith}
use Rattle.std.specs.Prelude.{slice_get, IfSome, ◌==◌}
use Rattle.std.proofs.lemmas.Bool.Decides.{nat_tests}
use Rattle.std.proofs.lemmas.Option.{slice_get_within}
use Rattle.shen_graph.proofs.Lists.{element_before}
use Rattle.heap_seats.specs.declared.closing.Closing.{Closing}
use Rattle.heap_seats.specs.declared.renewing.Renewal.{Renewal}
use Rattle.heap_seats.specs.declared.seat.Seat.{Seat}
use Rattle.heap_seats.specs.Gathered.{AreOfOneHeap, AreNumbered, MakeUpHeap}
use Rattle.heap_seats.specs.GivenUp.{heap_closing, AreGivenUp, HaveNot}
use Rattle.heap_seats.specs.Renewed.{AllEnded, AreToBeRenewed}
use Rattle.heap_seats.specs.Seats.{number_of, heap_shared}
use Rattle.heap_seats.proofs.Together.{all_seats}
use Rattle.covremuj.specs.declared.asked.Asked.TheVariants.{Open, Numbered, Ended}
use Rattle.covremuj.specs.ClosedHandles.{seat_in, each_shows, AnswersBy, AnswersAsked}
use Rattle.covremuj.specs.RenewedHandles.{AnswersGoing, AnswersBySeats, AnswersRenewing, AreGivenAs, AreGivenIn, IsOfThatHeap, AreAbsent}
use Rattle.covremuj.specs.StatusNumbers.{number_of_renewal}

-- ---- one seat more

pub given_first : (seat : Seat) (closing : Closing) → AreGivenUp (seat ∷ []) closing → heap_closing closing ≡ heap_shared seat → AreGivenAs (seat ∷ []) closing
given_first seat closing given_up heap = record { given = given_up; first = seat; there = refl; heap = sym heap }

pub given_more : (before : List Seat) (seat : Seat) (old new : Closing) → AreGivenAs before old → AreGivenUp (before ++ seat ∷ []) new → heap_closing new ≡ heap_closing old → AreGivenAs (before ++ seat ∷ []) new
given_more before seat old new given_before given_up heap = record { given = given_up; first = given_before.first; there = element_before before (seat ∷ []) 0 given_before.first given_before.there; heap = given_before.heap ∙ sym heap }

next_there : (before rest : List Seat) (seat : Seat) → slice_get (before ++ seat ∷ rest) (length before) ≡ Some seat
next_there [] rest seat = refl
next_there (first_seat ∷ later_seats) rest seat = next_there later_seats rest seat

-- a seat behind others, in a list of all
module _ (before rest whole_list : List Seat) (seat : Seat) (seats_are : before ++ seat ∷ rest ≡ whole_list) where
  it_there : slice_get whole_list (length before) ≡ Some seat
  it_there = ap (λ (seats : List Seat). slice_get seats (length before)) (sym seats_are) ∙ next_there before rest seat

  others_there : (index : ℕ) (earlier_seat : Seat) → slice_get before index ≡ Some earlier_seat → slice_get whole_list index ≡ Some earlier_seat
  others_there index earlier_seat seat_there = ap (λ (seats : List Seat). slice_get seats index) (sym seats_are) ∙ element_before before (seat ∷ rest) index earlier_seat seat_there

  it_is_absent : AreNumbered whole_list → HaveNot before (number_of seat)
  it_is_absent numbered earlier_index earlier_seat seat_there same_number =
      let own_number : number_of seat ≡ length before = numbered (length before) seat it_there in
      let earlier_number : number_of earlier_seat ≡ earlier_index = numbered earlier_index earlier_seat (others_there earlier_index earlier_seat seat_there) in
      let index_below = slice_get_within before earlier_index earlier_seat seat_there in
      absurd (omega (arith, own_number, earlier_number, index_below, same_number))

  it_is_of : AreOfOneHeap whole_list → (closing : Closing) → AreGivenAs before closing → heap_shared seat ≡ heap_closing closing
  it_is_of of_one_heap closing given_before = of_one_heap (length before) 0 seat given_before.first it_there (others_there 0 given_before.first given_before.there) ∙ given_before.heap

pub fits_next : (closing : Option Closing) (before rest whole_list : List Seat) (found : Option Seat) → before ++ (seat_in found ++ rest) ≡ whole_list → AreOfOneHeap whole_list → AreGivenIn before closing → IsOfThatHeap closing found
fits_next None before rest whole_list found seats_are of_one_heap given_before = tt
fits_next (Some closing) before rest whole_list None seats_are of_one_heap given_before = tt
fits_next (Some closing) before rest whole_list (Some seat) seats_are of_one_heap given_before = it_is_of before rest whole_list seat seats_are of_one_heap closing given_before

pub absent_next : (before rest whole_list : List Seat) (found : Option Seat) → before ++ (seat_in found ++ rest) ≡ whole_list → AreNumbered whole_list → AreAbsent before found
absent_next before rest whole_list None seats_are numbered = tt
absent_next before rest whole_list (Some seat) seats_are numbered = it_is_absent before rest whole_list seat seats_are numbered

-- ---- all of them

pub all_to_be_renewed : (closing : Option Closing) (seats : List Seat) → MakeUpHeap seats → AllEnded seats → AreGivenIn seats closing → IfSome closing (AreToBeRenewed seats)
all_to_be_renewed None seats make_up all_ended given_all = tt
all_to_be_renewed (Some closing) seats make_up all_ended given_as = record { given = given_as.given; all = all_seats (heap_closing closing) seats given_as.first given_as.there given_as.heap make_up; over = all_ended }

-- ---- what is answered

going_by : (filled numbered ended : Bool) (answer : ℕ) → AnswersBy filled numbered ended 0 → AnswersGoing answer → AnswersBySeats filled numbered ended answer
going_by true true true answer answered_by going = inr going
going_by true true false answer (inl answered_by) going = absurd cc
going_by true true false answer (inr answered_by) going = absurd cc
going_by true false ended answer answered_by going = absurd cc
going_by false numbered ended answer answered_by going = absurd cc

pub going_answer : (held_seats : List (Option Seat)) (answer : ℕ) → AnswersAsked Ended held_seats 0 → AnswersGoing answer → AnswersRenewing held_seats answer
going_answer [] answer asked_answer going = absurd cc
going_answer (found ∷ others) answer asked_answer going = going_by (each_shows Open (found ∷ others)) (each_shows Numbered (found ∷ others)) (each_shows Ended (found ∷ others)) answer asked_answer going

pub going_of : (answer : ℕ) (renewal : Renewal) → (answer ≢ 27 → answer ≡ number_of_renewal renewal) → AnswersGoing answer
going_of answer renewal answer_unless_lost = by_test (answer == 27) refl
  where
    by_test : (holds : Bool) → (answer == 27) ≡ holds → AnswersGoing answer
    by_test true is_lost = let lost : answer ≡ 27 = grind (arith, nat_tests) in inr (inl lost)
    by_test false is_not_lost = let not_lost : answer ≢ 27 = grind (arith, nat_tests) in inr (inr (renewal, answer_unless_lost not_lost))
