-- Why a seat takes no order, by its state.
use Rattle.std.proofs.Common.{◌≡◌, ◌≢◌, ℕ, Bool, true, false, Some, None, refl, sym, ap, ◌∙◌, arith}
use Rattle.std.specs.Prelude.{◌==◌, if◌then◌else◌}
use Rattle.std.proofs.lemmas.Bool.Decides.{nat_tests}
use Rattle.shen_graph.specs.Valid.{most_objects}
use Rattle.heap_seats.specs.declared.progress.State.{State}
use Rattle.heap_seats.specs.declared.progress.State.TheVariants.{Free, AtWork, Ended}
use Rattle.heap_seats.specs.declared.progress.Refused.{Refused}
use Rattle.heap_seats.specs.declared.progress.Refused.TheVariants as refused
use Rattle.heap_seats.specs.Ordering.{refused_in, refused_command}

pub refused_first : (valid : Bool) (made : ℕ) (state : State) (reason : Refused) → Some reason ≡ refused_in state → Some reason ≡ refused_command valid made state
refused_first valid made Free reason reason_is = absurd cc
refused_first valid made AtWork reason reason_is = reason_is
refused_first valid made Ended reason reason_is = reason_is

pub free_is : (state : State) → None ≡ refused_in state → state ≡ Free
free_is Free none_refused = refl
free_is AtWork none_refused = absurd cc
free_is Ended none_refused = absurd cc

pub refused_range : (valid : Bool) (made : ℕ) (state : State) → state ≡ Free → valid ≡ false → Some refused.OutOfRange ≡ refused_command valid made state
refused_range valid made state is_free not_valid = sym (ap (refused_command valid made) is_free ∙ ap (λ (holds : Bool). refused_command holds made Free) not_valid)

pub refused_none : (valid : Bool) (made : ℕ) (state : State) → state ≡ Free → valid ≡ true → made ≢ most_objects → None ≡ refused_command valid made state
refused_none valid made state is_free is_valid counts_differ =
    let test : (made == most_objects) ≡ false = grind (arith, nat_tests, counts_differ) in
    sym (ap (refused_command valid made) is_free ∙ ap (λ (holds : Bool). refused_command holds made Free) is_valid ∙ ap (λ (holds : Bool). if holds then Some refused.Spent else None) test)
