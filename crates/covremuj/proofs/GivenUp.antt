-- Seats that are taken out of their handles, and what is known of them once all is asked.
use Rattle.std.proofs.lemmas.Bool.{and_parts}
use Rattle.std.proofs.lemmas.Option.{same_Some}
use Rattle.std.proofs.Common.{◌≡◌, ◌<◌, ◌⊎◌, inl, inr, ℕ, zero, suc, ◌+◌, Bool, true, false, ◌||◌, List, [], ◌∷◌, ◌++◌, length, take, get_or, Option, Some, None, MatchOption, refl, sym, ap, ◌∙◌, subst, arith}
use Rattle.std.specs.Prelude.{slice_get, slice_set, nat_lt, ◌==◌, if◌then◌else◌}
use Rattle.std.specs.Global.{Box}
use Rattle.std.specs.Option.{option_map, is_some}
use Rattle.std.proofs.lemmas.Bool.Decides.{nat_tests}
use Rattle.heap_words.proofs.Lists.{element_at}
use Rattle.heap_words.specs.Ranges.{seat_count}
use Rattle.step_core.specs.Settled.{control_number}
use Rattle.heap_seats.specs.declared.progress.State.{State}
use Rattle.heap_seats.specs.declared.progress.State.TheVariants.{Free, AtWork, Ended}
use Rattle.heap_seats.specs.declared.seat.Seat.{Seat}
use Rattle.heap_seats.specs.Seats.{config_of, number_of, is_mutator, state_in}
use Rattle.heap_seats.specs.Gathered.{AreOfOneHeap, MakeUpHeap}
use Rattle.heap_seats.specs.Renewed.{AllEnded}
use Rattle.covremuj.specs.declared.asked.Asked.{Asked}
use Rattle.covremuj.specs.declared.asked.Asked.TheVariants.{Open, Numbered, Over}
use Rattle.covremuj.specs.declared.asked.Asked.TheVariants as asks
use Rattle.covremuj.specs.declared.handle.Handle.{Handle}
use Rattle.covremuj.specs.Answers.{kind_of, state_number}
use Rattle.covremuj.specs.OpenedHandles.{seats_held, any_held}
use Rattle.covremuj.specs.ClosedHandles.{seat_in, seats_in, seat_shows, all_show, each_shows, AnswersBy, AnswersAsked, AnswersClosing}
use Rattle.covremuj.proofs.HeldLists.{none_held}

-- ---- taken out

hollow_has : (found : Option Seat) → is_some found ≡ false → seat_in found ≡ []
hollow_has None found_none = refl
hollow_has (Some seat) found_none = absurd cc

-- where those before it are empty, the first seat is that of this handle
pub taken_next : (handles : List Handle) (index : ℕ) (handle new : Handle) → index < length handles → new.held ≡ None → any_held (take index (seats_held handles)) ≡ false
    → seats_in (seats_held handles) ≡ seat_in (get_or handles index handle).held ++ seats_in (seats_held (slice_set handles index new))
taken_next [] index handle new index_below empty none_before = absurd (omega (arith, index_below))
taken_next (first_handle ∷ rest) zero handle new index_below empty none_before = ap (λ (found : Option Seat). seat_in first_handle.held ++ (seat_in found ++ seats_in (seats_held rest))) (sym empty)
taken_next (first_handle ∷ rest) (suc later_index) handle new index_below empty none_before =
    let none_in_parts = none_held first_handle.held (take later_index (seats_held rest)) none_before in
    let hollow : seat_in first_handle.held ≡ [] = hollow_has first_handle.held none_in_parts.0 in
    ap (λ (seats : List Seat). seats ++ seats_in (seats_held rest)) hollow ∙ taken_next rest later_index handle new (omega (arith, index_below)) empty none_in_parts.1
    ∙ ap (λ (seats : List Seat). seat_in (get_or rest later_index handle).held ++ (seats ++ seats_in (seats_held (slice_set rest later_index new)))) (sym hollow)

pub none_left : (held_seats : List (Option Seat)) → any_held held_seats ≡ false → seats_in held_seats ≡ []
none_left [] none_holds = refl
none_left (None ∷ held_seats) none_holds = none_left held_seats none_holds
none_left (Some seat ∷ held_seats) none_holds = absurd cc

-- what a handle gave is what it held
pub given_is_held : (found : Option (Box Seat)) (held : Option Seat) → MatchOption found (held ≡ None) (λ (box : Box Seat). held ≡ Some box.value) → option_map (λ (box : Box Seat). box.value) found ≡ held
given_is_held None held given_is = sym given_is
given_is_held (Some seat_box) held given_is = sym given_is

-- ---- asked

-- each seat shows it, at its place
pub shown_each : (asked : Asked) (count place : ℕ) (held_seats : List (Option Seat)) → all_show asked count place held_seats ≡ true → (index : ℕ) (seat : Seat) → slice_get (seats_in held_seats) index ≡ Some seat → seat_shows asked count (place + index) seat ≡ true
shown_each asked count place [] all_shown index seat seat_there = absurd cc
shown_each asked count place (None ∷ held_seats) all_shown index seat seat_there = absurd cc
shown_each asked count place (Some first_seat ∷ held_seats) all_shown zero seat seat_there =
    let same_place : place ≡ place + 0 = omega arith in
    subst (λ place. seat_shows asked count place seat ≡ true) same_place
    (subst (λ held_seat. seat_shows asked count place held_seat ≡ true) (same_Some first_seat seat seat_there) (and_parts (seat_shows asked count place first_seat) (all_show asked count (suc place) held_seats) all_shown).0)
shown_each asked count place (Some first_seat ∷ held_seats) all_shown (suc index) seat seat_there =
    let next_place : suc place + index ≡ place + suc index = omega arith in
    subst (λ place. seat_shows asked count place seat ≡ true) next_place (shown_each asked count (suc place) held_seats (and_parts (seat_shows asked count place first_seat) (all_show asked count (suc place) held_seats) all_shown).1 index seat seat_there)

-- and there are as many as handles
pub shown_count : (asked : Asked) (count place : ℕ) (held_seats : List (Option Seat)) → all_show asked count place held_seats ≡ true → length (seats_in held_seats) ≡ length held_seats
shown_count asked count place [] all_shown = refl
shown_count asked count place (None ∷ held_seats) all_shown = absurd cc
shown_count asked count place (Some first_seat ∷ held_seats) all_shown = ap suc (shown_count asked count (suc place) held_seats (and_parts (seat_shows asked count place first_seat) (all_show asked count (suc place) held_seats) all_shown).1)

-- 0 answers that all was shown
done_by : (filled numbered shown_over : Bool) → AnswersBy filled numbered shown_over 0 → (numbered ≡ true) × (shown_over ≡ true)
done_by true true true answered = (refl, refl)
done_by true true false (inl refused_so) = absurd cc
done_by true true false (inr refused_so) = absurd cc
done_by true false shown_over answered = absurd cc
done_by false numbered shown_over answered = absurd cc

done_shows : (asked : Asked) (held_seats : List (Option Seat)) → AnswersAsked asked held_seats 0 → (0 < length held_seats) × (each_shows Numbered held_seats ≡ true) × (each_shows asked held_seats ≡ true)
done_shows asked [] answer = absurd cc
done_shows asked (found ∷ rest) answer = let both_shown = done_by (each_shows Open (found ∷ rest)) (each_shows Numbered (found ∷ rest)) (each_shows asked (found ∷ rest)) answer in (omega arith, both_shown.0, both_shown.1)

ended_is : (state : State) → (state_number state == 2) ≡ true → state ≡ Ended
ended_is Free state_is = absurd cc
ended_is AtWork state_is = absurd cc
ended_is Ended state_is = refl

either_second : (holds second_holds : Bool) → holds ≡ false → (holds || second_holds) ≡ true → second_holds ≡ true
either_second true holds no_first either_holds = absurd cc
either_second false holds no_first either_holds = either_holds

kind_not : (mutator helper : Bool) → (mutator ≡ true) ⊎ (helper ≡ false) → ((if mutator then 1 else (if helper then 2 else 3)) == 2) ≡ false
kind_not true helper role_is = refl
kind_not false false role_is = refl
kind_not false true (inl role_is) = absurd cc
kind_not false true (inr role_is) = absurd cc

-- a mutator or the control that shows it is over has ended
over_ended : (number : ℕ) (seat : Seat) → number_of seat ≡ number → (number < (config_of seat).mutators) ⊎ (number ≡ control_number (config_of seat)) → seat_shows Over 0 0 seat ≡ true → state_in seat ≡ Ended
over_ended number seat numbered role shown =
    ended_is (state_in seat) (either_second (kind_of seat == 2) (state_number (state_in seat) == 2) (kind_not (is_mutator seat) (nat_lt (number_of seat) ((config_of seat).mutators + (config_of seat).helpers)) (by_role role)) shown)
  where
    by_role : (number < (config_of seat).mutators) ⊎ (number ≡ control_number (config_of seat)) → (is_mutator seat ≡ true) ⊎ (nat_lt (number_of seat) ((config_of seat).mutators + (config_of seat).helpers) ≡ false)
    by_role (inl number_below) = inl (grind (arith, nat_tests, number_below, numbered))
    by_role (inr control) = inr (grind (arith, nat_tests, control, numbered))

from_first : (k : ℕ) → 0 + k ≡ k
from_first k = omega arith

-- seats that are there, each at the place of its number
module _ (held_seats : List (Option Seat)) (numbered_all : each_shows Numbered held_seats ≡ true) where
  pub many : length (seats_in held_seats) ≡ length held_seats
  many = shown_count Numbered (length held_seats) 0 held_seats numbered_all

  numbered : (index : ℕ) (seat : Seat) → slice_get (seats_in held_seats) index ≡ Some seat → ((number_of seat == index) ≡ true) × ((seat_count (config_of seat).mutators (config_of seat).helpers == length held_seats) ≡ true)
  numbered index seat seat_there =
      and_parts (number_of seat == index) (seat_count (config_of seat).mutators (config_of seat).helpers == length held_seats)
      (subst (λ place. seat_shows Numbered (length held_seats) place seat ≡ true) (from_first index) (shown_each Numbered (length held_seats) 0 held_seats numbered_all index seat seat_there))

  number : (index : ℕ) (seat : Seat) → slice_get (seats_in held_seats) index ≡ Some seat → number_of seat ≡ index
  number index seat seat_there = let number_shown = (numbered index seat seat_there).0 in grind (arith, nat_tests, number_shown)

  counted : (index : ℕ) (seat : Seat) → slice_get (seats_in held_seats) index ≡ Some seat → seat_count (config_of seat).mutators (config_of seat).helpers ≡ length (seats_in held_seats)
  counted index seat seat_there = let count_shown = (numbered index seat seat_there).1 in let same_count : seat_count (config_of seat).mutators (config_of seat).helpers ≡ length held_seats = grind (arith, nat_tests, count_shown) in same_count ∙ sym many

-- where 0 is answered, seats of one heap make it up
pub make_up : (held_seats : List (Option Seat)) → AnswersClosing held_seats 0 → AreOfOneHeap (seats_in held_seats) → MakeUpHeap (seats_in held_seats)
make_up held_seats answer of_one_heap =
    let shown = done_shows Over held_seats answer in
    let some_handles = shown.0 in
    let same_length = many held_seats shown.1 in
    record {
      some = omega (arith, some_handles, same_length);
      heap = of_one_heap;
      number = number held_seats shown.1;
      count = counted held_seats shown.1;
      over = λ index seat seat_there role. over_ended index seat (number held_seats shown.1 index seat seat_there) role (shown_each Over (length held_seats) 0 held_seats shown.2 index seat seat_there);
    }

-- and where each was asked whether it has ended, each has
pub all_ended : (held_seats : List (Option Seat)) → AnswersAsked asks.Ended held_seats 0 → AllEnded (seats_in held_seats)
all_ended held_seats answer index seat seat_there = ended_is (state_in seat) (shown_each asks.Ended (length held_seats) 0 held_seats (done_shows asks.Ended held_seats answer).2 index seat seat_there)

pub make_up_ended : (held_seats : List (Option Seat)) → AnswersAsked asks.Ended held_seats 0 → AreOfOneHeap (seats_in held_seats) → MakeUpHeap (seats_in held_seats)
make_up_ended held_seats answer of_one_heap =
    let shown = done_shows asks.Ended held_seats answer in
    let some_handles = shown.0 in
    let same_length = many held_seats shown.1 in
    record {
      some = omega (arith, some_handles, same_length);
      heap = of_one_heap;
      number = number held_seats shown.1;
      count = counted held_seats shown.1;
      over = λ place seat seat_there role. all_ended held_seats answer place seat seat_there;
    }

-- the first of them says how many there are
pub first_counts : (held_seats : List (Option Seat)) → AnswersAsked asks.Ended held_seats 0 → (seat : Seat) × (slice_get (seats_in held_seats) 0 ≡ Some seat) × (seat_count (config_of seat).mutators (config_of seat).helpers ≡ length held_seats)
first_counts held_seats answer =
    let shown = done_shows asks.Ended held_seats answer in
    let some_handles = shown.0 in
    let same_length = many held_seats shown.1 in
    let first_seat = element_at (seats_in held_seats) 0 (omega (arith, some_handles, same_length)) in
    (first_seat.0, first_seat.1, counted held_seats shown.1 0 first_seat.0 first_seat.1 ∙ same_length)
