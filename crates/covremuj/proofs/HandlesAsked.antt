-- What each of some handles shows.
use Rattle.std.proofs.lemmas.Bool.{and_from, and_parts}
use Rattle.std.proofs.Common.{◌≡◌, ◌<◌, ℕ, zero, suc, ◌+◌, Bool, true, false, ◌&&◌, List, [], ◌∷◌, length, take, get_or, refl, sym, ap, ◌∙◌, subst, arith}
use Rattle.std.specs.Prelude.{◌==◌}
use Rattle.covremuj.specs.declared.asked.Asked.{Asked}
use Rattle.covremuj.specs.declared.asked.Asked.TheVariants.{Open, Numbered}
use Rattle.covremuj.specs.declared.handle.Handle.{Handle}
use Rattle.covremuj.specs.OpenedHandles.{seats_held}
use Rattle.covremuj.specs.ClosedHandles.{shows, all_show, each_shows, AnswersBy, AnswersAsked}

-- ---- tests of two true_parts

second_not : (holds second_holds : Bool) → second_holds ≡ false → (holds && second_holds) ≡ false
second_not true holds second_false = second_false
second_not false holds second_false = refl

-- ---- what each handle shows

module _ (asked : Asked) (count : ℕ) where
  show_there : (place : ℕ) (handles : List Handle) (index : ℕ) (handle : Handle) → index < length handles → shows asked count (place + index) (get_or handles index handle).held ≡ true → all_show asked count place (take index (seats_held handles)) ≡ true → all_show asked count place (take (suc index) (seats_held handles)) ≡ true
  show_there place [] index handle index_below handle_shows so_far = absurd (omega (arith, index_below))
  show_there place (first_handle ∷ rest) zero handle index_below handle_shows so_far =
      let place_back : place + 0 ≡ place = omega arith in
      and_from (shows asked count place first_handle.held) true (subst (λ place. shows asked count place first_handle.held ≡ true) place_back handle_shows) refl
  show_there place (first_handle ∷ rest) (suc earlier) handle index_below handle_shows so_far =
      let next_place : place + suc earlier ≡ suc place + earlier = omega arith in
      let both_show = and_parts (shows asked count place first_handle.held) (all_show asked count (suc place) (take earlier (seats_held rest))) so_far in
      and_from (shows asked count place first_handle.held) (all_show asked count (suc place) (take (suc earlier) (seats_held rest))) both_show.0
      (show_there (suc place) rest earlier handle (omega (arith, index_below)) (subst (λ place. shows asked count place (get_or rest earlier handle).held ≡ true) next_place handle_shows) both_show.1)

  -- one handle more shows it
  pub show_more : (handles : List Handle) (place : ℕ) (handle : Handle) → place < length handles → shows asked count place (get_or handles place handle).held ≡ true → all_show asked count 0 (take place (seats_held handles)) ≡ true → all_show asked count 0 (take (place + 1) (seats_held handles)) ≡ true
  show_more handles asked_place handle place_below handle_shows so_far =
      let next_place : asked_place + 1 ≡ suc asked_place = omega arith in
      let place : asked_place ≡ 0 + asked_place = omega arith in
      ap (λ taken. all_show asked count 0 (take taken (seats_held handles))) next_place ∙ show_there 0 handles asked_place handle place_below (subst (λ place. shows asked count place (get_or handles asked_place handle).held ≡ true) place handle_shows) so_far

  not_there : (place : ℕ) (handles : List Handle) (index : ℕ) (handle : Handle) → index < length handles → shows asked count (place + index) (get_or handles index handle).held ≡ false → all_show asked count place (seats_held handles) ≡ false
  not_there place [] index handle index_below handle_shows_not = absurd (omega (arith, index_below))
  not_there place (first_handle ∷ rest) zero handle index_below handle_shows_not =
      let place_back : place + 0 ≡ place = omega arith in
      ap (λ seat_shown. seat_shown && all_show asked count (suc place) (seats_held rest)) (subst (λ place. shows asked count place first_handle.held ≡ false) place_back handle_shows_not)
  not_there place (first_handle ∷ rest) (suc earlier) handle index_below handle_shows_not =
      let next_place : place + suc earlier ≡ suc place + earlier = omega arith in
      second_not (shows asked count place first_handle.held) (all_show asked count (suc place) (seats_held rest)) (not_there (suc place) rest earlier handle (omega (arith, index_below)) (subst (λ place. shows asked count place (get_or rest earlier handle).held ≡ false) next_place handle_shows_not))

  -- one does not
  pub show_not : (handles : List Handle) (place : ℕ) (handle : Handle) → place < length handles → shows asked count place (get_or handles place handle).held ≡ false → all_show asked count 0 (seats_held handles) ≡ false
  show_not handles asked_place handle place_below handle_shows_not = let place : asked_place ≡ 0 + asked_place = omega arith in not_there 0 handles asked_place handle place_below (subst (λ place. shows asked count place (get_or handles asked_place handle).held ≡ false) place handle_shows_not)

-- ---- what is answered

pub some_there : (count : ℕ) (is_zero : Bool) → is_zero ≡ (count == 0) → is_zero ≡ false → 0 < count
some_there zero is_zero zero_test not_so = absurd (let wrong : true ≡ false = sym zero_test ∙ not_so in cc)
some_there (suc count) is_zero zero_test not_so = omega arith

pub some_answered : (asked : Asked) (handles : List Handle) (answer : ℕ) → 0 < length handles → AnswersBy (each_shows Open (seats_held handles)) (each_shows Numbered (seats_held handles)) (each_shows asked (seats_held handles)) answer → AnswersAsked asked (seats_held handles) answer
some_answered asked [] answer positive answered_by = absurd (omega (arith, positive))
some_answered asked (handle ∷ rest) answer positive answered_by = answered_by
