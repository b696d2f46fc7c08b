-- The machine under a number, in memory and in the view.
use Rattle.std.proofs.Common.{◌≡◌, ◌<◌, ℕ, zero, suc, true, false, [], ◌∷◌, length, get_or, Option, Some, None, refl, sym, ap, ◌∙◌, arith}
use Rattle.std.specs.Option.{is_some}
use Rattle.shared_table.specs.Views.{View, machine_of, kept_in_view, kept_one}
use Rattle.shared_table.proofs.ChangeHands.{machine_of-index, machine_of-past, here_within}
use Rattle.shared_table.proofs.Kept.{machine_of-kept, kept_some}
use Rattle.std.specs.Prelude.{unwrap_or, slice_set}

module _ {T S : Type 0} (f : T → S) where
  -- a machine that shows is there
  pub within : (items : View T) (number : ℕ) → is_some (machine_of (kept_in_view f items) number) ≡ true → number < length items
  within items number shows = here_within items number (sym (kept_some f items number) ∙ shows)

  -- what was read there
  pub read_here : (items : View T) (number : ℕ) (found : Option T) (machine : T) → number < length items → found ≡ get_or items number found → found ≡ Some machine → machine_of items number ≡ Some machine
  read_here items number found machine number_below value read_is = machine_of-index items number found number_below ∙ sym value ∙ read_is

  -- something is there
  pub never_none : (items : View T) (number : ℕ) (found : Option T) → is_some (machine_of (kept_in_view f items) number) ≡ true → found ≡ get_or items number found → found ≡ None → ⊥
  never_none items number found shows value nothing_found =
      let no_machine : machine_of items number ≡ None = machine_of-index items number found (within items number shows) ∙ sym value ∙ nothing_found in
      let is_there : is_some (machine_of items number) ≡ true = sym (kept_some f items number) ∙ shows in
      let not_there : is_some (machine_of items number) ≡ false = ap is_some no_machine in
      cc

  -- it shows
  pub shows_here : (items : View T) (number : ℕ) (machine : T) → machine_of items number ≡ Some machine → machine_of (kept_in_view f items) number ≡ Some (f machine)
  shows_here items number machine machine_there = machine_of-kept f items number ∙ ap (kept_one f) machine_there

  pub shows_as : (items : View T) (number : ℕ) (machine : T) (default : S) → machine_of items number ≡ Some machine → unwrap_or (machine_of (kept_in_view f items) number) default ≡ f machine
  shows_as items number machine default machine_there = ap (λ machine_found. unwrap_or machine_found default) (shows_here items number machine machine_there)

  -- what shows where another is put that shows the same
  pub put_same : (items : View T) (number : ℕ) (old_machine new_machine : T) → machine_of items number ≡ Some old_machine → f new_machine ≡ f old_machine → kept_in_view f (slice_set items number (Some new_machine)) ≡ kept_in_view f items
  put_same [] number old_machine new_machine machine_there shows_same = refl
  put_same (x ∷ xs) zero old_machine new_machine machine_there shows_same = ap (λ (found : Option S). found ∷ kept_in_view f xs) (ap (λ (z : S). Some z) shows_same ∙ sym (ap (kept_one f) machine_there))
  put_same (x ∷ xs) (suc number) old_machine new_machine machine_there shows_same = ap (λ (ys : View S). kept_one f x ∷ ys) (put_same xs number old_machine new_machine machine_there shows_same)

  -- what is under the number then
  pub put_there : (items : View T) (number : ℕ) (old_machine new_machine : T) → machine_of items number ≡ Some old_machine → machine_of (slice_set items number (Some new_machine)) number ≡ Some new_machine
  put_there [] number old_machine new_machine machine_there = absurd cc
  put_there (x ∷ xs) zero old_machine new_machine machine_there = refl
  put_there (x ∷ xs) (suc number) old_machine new_machine machine_there = put_there xs number old_machine new_machine machine_there

  -- whether something is there, by what was read
  pub some_read : (items : View T) (number : ℕ) (found : Option T) → number < length items → found ≡ get_or items number found → is_some found ≡ is_some (machine_of (kept_in_view f items) number)
  some_read items number found number_below value = ap is_some (value ∙ sym (machine_of-index items number found number_below)) ∙ sym (kept_some f items number)

  pub some_past : (items : View T) (number : ℕ) → (number < length items → ⊥) → is_some (machine_of (kept_in_view f items) number) ≡ false
  some_past items number number_past = kept_some f items number ∙ ap is_some (machine_of-past items number (omega (arith, number_past)))
