-- Lists of handles, by what they hold, and of seats in boxes.
use Rattle.std.proofs.Common.{◌≡◌, ◌<◌, ℕ, zero, suc, ◌+◌, true, false, List, [], ◌∷◌, ◌++◌, length, map, take, get_or, Option, Some, None, refl, sym, ap, ◌∙◌, subst, arith}
use mathlib.Core.List.{reverse}
use Rattle.std.specs.Prelude.{slice_set}
use Rattle.std.specs.Global.{Box}
use Rattle.std.specs.Option.{is_some}
use Rattle.std.proofs.lemmas.List.{append_assoc, map-append, reverse-append}
use Rattle.heap_seats.specs.declared.seat.Seat.{Seat}
use Rattle.covremuj.specs.declared.handle.Handle.{Handle}
use Rattle.covremuj.specs.OpenedHandles.{seats_held, any_held}

-- ---- handles

pub set_same : (handles : List Handle) (index : ℕ) (handle new : Handle) → new.held ≡ (get_or handles index handle).held → seats_held (slice_set handles index new) ≡ seats_held handles
set_same [] index handle new same_held = refl
set_same (first_handle ∷ rest) zero handle new same_held = ap (λ (found : Option Seat). found ∷ seats_held rest) same_held
set_same (first_handle ∷ rest) (suc earlier) handle new same_held = ap (λ (held_seats : List (Option Seat)). first_handle.held ∷ held_seats) (set_same rest earlier handle new same_held)

some_held : (found : Option Seat) (others : List (Option Seat)) → is_some found ≡ true → any_held (found ∷ others) ≡ true
some_held None others first_held = absurd cc
some_held (Some seat) others first_held = refl

more_held : (found : Option Seat) (others : List (Option Seat)) → any_held others ≡ true → any_held (found ∷ others) ≡ true
more_held None others later_held = later_held
more_held (Some seat) others later_held = refl

pub open_there : (handles : List Handle) (index : ℕ) (handle : Handle) → index < length handles → is_some (get_or handles index handle).held ≡ true → any_held (seats_held handles) ≡ true
open_there [] index handle index_below handle_holds = absurd (omega (arith, index_below))
open_there (first_handle ∷ rest) zero handle index_below handle_holds = some_held first_handle.held (seats_held rest) handle_holds
open_there (first_handle ∷ rest) (suc earlier) handle index_below handle_holds = more_held first_handle.held (seats_held rest) (open_there rest earlier handle (omega (arith, index_below)) handle_holds)

pub none_held : (found : Option Seat) (others : List (Option Seat)) → any_held (found ∷ others) ≡ false → (is_some found ≡ false) × (any_held others ≡ false)
none_held None others nothing_held = (refl, nothing_held)
none_held (Some seat) others nothing_held = absurd cc

put_first : (found : Option Seat) (others : List (Option Seat)) → is_some found ≡ false → any_held others ≡ false → any_held (found ∷ others) ≡ false
put_first None others empty others_empty = others_empty
put_first (Some seat) others empty others_empty = absurd cc

-- one more handle is looked at
closed_there : (handles : List Handle) (index : ℕ) (handle : Handle) → index < length handles → is_some (get_or handles index handle).held ≡ false → any_held (take index (seats_held handles)) ≡ false → any_held (take (suc index) (seats_held handles)) ≡ false
closed_there [] index handle index_below handle_empty earlier_empty = absurd (omega (arith, index_below))
closed_there (first_handle ∷ rest) zero handle index_below handle_empty earlier_empty = put_first first_handle.held [] handle_empty refl
closed_there (first_handle ∷ rest) (suc earlier) handle index_below handle_empty earlier_empty =
    let empty_parts = none_held first_handle.held (take earlier (seats_held rest)) earlier_empty in
    put_first first_handle.held (take (suc earlier) (seats_held rest)) empty_parts.0 (closed_there rest earlier handle (omega (arith, index_below)) handle_empty empty_parts.1)

pub closed_more : (handles : List Handle) (index : ℕ) (handle : Handle) → index < length handles → is_some (get_or handles index handle).held ≡ false → any_held (take index (seats_held handles)) ≡ false → any_held (take (index + 1) (seats_held handles)) ≡ false
closed_more handles index handle index_below handle_empty earlier_empty = let next_index : index + 1 ≡ suc index = omega arith in ap (λ taken. any_held (take taken (seats_held handles))) next_index ∙ closed_there handles index handle index_below handle_empty earlier_empty

filled_there : (handles : List Handle) (index : ℕ) (new : Handle) → index < length handles → take (suc index) (seats_held (slice_set handles index new)) ≡ take index (seats_held handles) ++ new.held ∷ []
filled_there [] index new index_below = absurd (omega (arith, index_below))
filled_there (handle ∷ rest) zero new index_below = refl
filled_there (handle ∷ rest) (suc earlier) new index_below = ap (λ (held_seats : List (Option Seat)). handle.held ∷ held_seats) (filled_there rest earlier new (omega (arith, index_below)))

-- ---- seats in boxes

abbrev pub seats_of : List (Box Seat) → List Seat
seats_of boxes = map (λ box. box.value) boxes

last_first : (boxes : List (Box Seat)) (box : Box Seat) → reverse (seats_of (boxes ++ box ∷ [])) ≡ box.value ∷ reverse (seats_of boxes)
last_first boxes box = ap reverse (map-append (λ (box : Box Seat). box.value) boxes (box ∷ [])) ∙ reverse-append (seats_of boxes) (box.value ∷ [])

-- one seat more is in its handle
pub filled_more : (handles : List Handle) (index : ℕ) (new : Handle) (before after : List (Box Seat)) (box : Box Seat) (all_seats : List (Option Seat)) → index < length handles → before ≡ after ++ box ∷ [] → new.held ≡ Some box.value
    → take index (seats_held handles) ++ map Some (reverse (seats_of before)) ≡ all_seats → take (index + 1) (seats_held (slice_set handles index new)) ++ map Some (reverse (seats_of after)) ≡ all_seats
filled_more handles index new before after box all_seats index_below split holds so_far =
    let next_index : index + 1 ≡ suc index = omega arith in
    ap (λ taken. take taken (seats_held (slice_set handles index new)) ++ map Some (reverse (seats_of after))) next_index
    ∙ ap (λ (held_seats : List (Option Seat)). held_seats ++ map Some (reverse (seats_of after))) (filled_there handles index new index_below ∙ ap (λ (found : Option Seat). take index (seats_held handles) ++ found ∷ []) holds)
    ∙ append_assoc (take index (seats_held handles)) (Some box.value ∷ []) (map Some (reverse (seats_of after)))
    ∙ ap (λ (seats : List Seat). take index (seats_held handles) ++ map Some seats) (sym (ap (λ (some_boxes : List (Box Seat)). reverse (seats_of some_boxes)) split ∙ last_first after box))
    ∙ so_far

-- one seat more is in its box
pub boxed_more : (before after : List Seat) (seat : Seat) (boxes : List (Box Seat)) (box : Box Seat) (all_seats : List Seat) → before ≡ after ++ seat ∷ [] → box.value ≡ seat → before ++ reverse (seats_of boxes) ≡ all_seats → after ++ reverse (seats_of (boxes ++ box ∷ [])) ≡ all_seats
boxed_more before after seat boxes box all_seats split boxed_seat so_far =
    ap (λ (seats : List Seat). after ++ seats) (last_first boxes box) ∙ ap (λ (seat : Seat). after ++ seat ∷ reverse (seats_of boxes)) boxed_seat
    ∙ sym (ap (λ (seats : List Seat). seats ++ reverse (seats_of boxes)) split ∙ append_assoc after (seat ∷ []) (reverse (seats_of boxes))) ∙ so_far

-- one handle more is emptied
none_behind : (held_seats : List (Option Seat)) → any_held held_seats ≡ false → any_held (held_seats ++ None ∷ []) ≡ false
none_behind [] nothing_held = refl
none_behind (None ∷ held_seats) nothing_held = none_behind held_seats nothing_held
none_behind (Some seat ∷ held_seats) nothing_held = absurd cc

pub emptied_more : (handles : List Handle) (index : ℕ) (new : Handle) → index < length handles → new.held ≡ None → any_held (take index (seats_held handles)) ≡ false → any_held (take (index + 1) (seats_held (slice_set handles index new))) ≡ false
emptied_more handles index new index_below holds earlier_empty =
    let next_index : index + 1 ≡ suc index = omega arith in
    ap (λ taken. any_held (take taken (seats_held (slice_set handles index new)))) next_index
    ∙ ap any_held (filled_there handles index new index_below ∙ ap (λ (found : Option Seat). take index (seats_held handles) ++ found ∷ []) holds)
    ∙ none_behind (take index (seats_held handles)) earlier_empty
