-- That each machine is in one view stays so: where a machine steps, where a view is cut in two, and where two are joined.
use Rattle.std.proofs.Common.{◌≡◌, ◌≢◌, ℕ, zero, suc, Bool, true, false, List, [], ◌∷◌, ◌++◌, length, Option, Some, None, sym, ◌∙◌, not, arith}
use Rattle.std.specs.Prelude.{slice_get, slice_set, ◌==◌, if◌then◌else◌}
use Rattle.std.proofs.lemmas.List.{length-set}
use Rattle.std.proofs.lemmas.Bool.Decides.{nat_tests}
use mathlib.Core.Option.{some}
use lib.ListN.{get_elem?}
use Rattle.atomic_table.proofs.Lists.{set_else}
use Rattle.shared_table.specs.Views.{View, machine_of, seen_under, whole, machines_picked, machines_left, whichever_is_there, merged}
use Rattle.shared_table.specs.Rule.{IsDealt}
use Rattle.shared_table.proofs.ViewsShow.{shown-at, seat_below, shown-past, shown-set, shown-last, machine_of-whole, machine_of-picked, machine_of-merged, machine_of-set, slice_get-set}

module _ {R : Type 0} (machines : List R) where
  -- one view has all
  pub dealt_first : IsDealt machines (whole machines ∷ [])
  dealt_first = record { owner = λ _. 0; shows = shows }
    where
      shows : (seat number : ℕ) → seen_under (whole machines ∷ []) seat number ≡ (if seat == 0 then slice_get machines number else None)
      shows zero number = grind (arith, nat_tests, machine_of-whole machines number)
      shows (suc seat) number = grind (arith, nat_tests)

  module _ (views : List (View R)) (dealt : IsDealt machines views) (id : ℕ) (view : View R) (view_at : get_elem? views id ≡ some view) where
    -- what the seat's view has
    has : (number : ℕ) → machine_of view number ≡ (if id == dealt.owner number then slice_get machines number else None)
    has number = sym (shown-at views id number view view_at) ∙ dealt.shows id number

    module _ (number : ℕ) (machine : R) (has_machine : machine_of view number ≡ Some machine) where
      pub owner-is : dealt.owner number ≡ id
      owner-is = let view_has = has number in grind (arith, nat_tests)

      pub machine-is : slice_get machines number ≡ Some machine
      machine-is = let view_has = has number in grind (arith, nat_tests)

      -- a machine goes on
      pub dealt_step : (next_machine : R) → IsDealt (slice_set machines number next_machine) (slice_set views id (slice_set view number (Some next_machine)))
      dealt_step next_machine = record { owner = dealt.owner; shows = shows }
        where
          shows : (seat thread : ℕ) → seen_under (slice_set views id (slice_set view number (Some next_machine))) seat thread ≡ (if seat == dealt.owner thread then slice_get (slice_set machines number next_machine) thread else None)
          shows seat thread =
              let shown_view = shown-set views id view (slice_set view number (Some next_machine)) view_at seat thread in
              let view_machine = machine_of-set view number machine (Some next_machine) has_machine thread in
              let dealt_machine = slice_get-set machines number machine next_machine machine-is thread in
              let view_has = has thread in
              let seat_shows = dealt.shows seat thread in
              let owned = owner-is in
              grind (arith, nat_tests)

    -- the machines whose numbers pass a test go to a seat of their own
    pub dealt_split : (test : ℕ → Bool) → IsDealt machines (slice_set views id (machines_left test view) ++ machines_picked test view ∷ [])
    dealt_split test = record { owner = λ region. if test region then (if dealt.owner region == id then length views else dealt.owner region) else dealt.owner region; shows = shows }
      where
        by_test : (seat thread : ℕ) (has_one : Bool)
            → (if seat == length views then (if has_one then machine_of view thread else None) else (if seat == id then (if not has_one then machine_of view thread else None) else seen_under views seat thread))
            ≡ (if seat == (if has_one then (if dealt.owner thread == id then length views else dealt.owner thread) else dealt.owner thread) then slice_get machines thread else None)
        by_test seat thread true =
            let seat_shows = dealt.shows seat thread in
            let has_one = has thread in
            let last_shows = dealt.shows (length views) thread in
            let none_past = shown-past views (length views) thread (omega arith) in
            let id_below = seat_below views id view view_at in
            grind (arith, nat_tests)
        by_test seat thread false =
            let seat_shows = dealt.shows seat thread in
            let has_one = has thread in
            let last_shows = dealt.shows (length views) thread in
            let none_past = shown-past views (length views) thread (omega arith) in
            let id_below = seat_below views id view view_at in
            grind (arith, nat_tests)

        shows : (seat thread : ℕ) → seen_under (slice_set views id (machines_left test view) ++ machines_picked test view ∷ []) seat thread
            ≡ (if seat == (if test thread then (if dealt.owner thread == id then length views else dealt.owner thread) else dealt.owner thread) then slice_get machines thread else None)
        shows seat thread =
            let last_shown = shown-last (slice_set views id (machines_left test view)) (machines_picked test view) seat thread in
            let set_shown = shown-set views id view (machines_left test view) view_at seat thread in
            let picked = machine_of-picked test view thread in
            let left_over = machine_of-picked (λ any_thread. not (test any_thread)) view thread in
            let same_length = length-set views id (machines_left test view) in
            rw (last_shown, same_length, set_shown, picked, left_over) (by_test seat thread (test thread))

    -- a view takes in another
    pub dealt_join : (other_id : ℕ) (other_view : View R) → other_id ≢ id → get_elem? (slice_set views id (merged view other_view)) other_id ≡ some other_view → IsDealt machines (slice_set (slice_set views id (merged view other_view)) other_id [])
    dealt_join other_id other_view ids_apart other_there = record { owner = λ region. if dealt.owner region == other_id then id else dealt.owner region; shows = shows }
      where
        by_owner : (holder seat : ℕ) (found : Option R)
            → (if seat == other_id then None else (if seat == id then whichever_is_there (if id == holder then found else None) (if other_id == holder then found else None) else (if seat == holder then found else None)))
            ≡ (if seat == (if holder == other_id then id else holder) then found else None)
        by_owner holder seat None = grind (arith, nat_tests)
        by_owner holder seat (Some machine) = grind (arith, nat_tests)

        was : get_elem? views other_id ≡ some other_view
        was = sym (set_else views id other_id (merged view other_view) ids_apart) ∙ other_there

        shows : (seat thread : ℕ) → seen_under (slice_set (slice_set views id (merged view other_view)) other_id []) seat thread ≡ (if seat == (if dealt.owner thread == other_id then id else dealt.owner thread) then slice_get machines thread else None)
        shows seat thread =
            let emptied_shown = shown-set (slice_set views id (merged view other_view)) other_id other_view [] other_there seat thread in
            let merged_shown = shown-set views id view (merged view other_view) view_at seat thread in
            let merged_machine = machine_of-merged view other_view thread in
            let view_has = has thread in
            let other_has : machine_of other_view thread ≡ (if other_id == dealt.owner thread then slice_get machines thread else None) = sym (shown-at views other_id thread other_view was) ∙ dealt.shows other_id thread in
            rw (emptied_shown, merged_shown, merged_machine, view_has, other_has, dealt.shows seat thread) (by_owner (dealt.owner thread) seat (slice_get machines thread))
