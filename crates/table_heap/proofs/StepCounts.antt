-- What a step promises is one event, since the steps of the machines of a bundle are counted.
use Rattle.std.proofs.Common.{◌≡◌, ℕ, zero, suc, ◌+◌, [], ◌∷◌, Some, None, ap, ◌∙◌, arith}
use Rattle.std.specs.Prelude.{slice_set, unwrap_or}
use Rattle.shared_table.specs.Views.{View, machine_of, kept_one}
use Rattle.shared_table.specs.Counted.{uncounted_machine, steps_made}
use Rattle.shared_table.proofs.Kept.{machine_of-kept, kept_here}
use Rattle.heap_machines.specs.declared.stepped.Stepped.{Stepped}
use Rattle.table_heap.specs.declared.bundle.Bundle.{Bundle}
use Rattle.table_heap.specs.State.{steps_of, IsBundleStep, StepsAreEvents}

-- how many steps the machines of a view have made
abbrev total : View ℕ → ℕ
total [] = 0
total (None ∷ xs) = total xs
total (Some count ∷ xs) = count + total xs

total-set : (counts : View ℕ) (number count : ℕ) → machine_of counts number ≡ Some count → total (slice_set counts number (Some (count + 1))) ≡ total counts + 1
total-set [] number count count_there = absurd cc
total-set (None ∷ xs) zero count count_there = absurd cc
total-set (Some other_count ∷ xs) zero count count_there = let same_count : other_count ≡ count = cc in omega (arith, same_count)
total-set (None ∷ xs) (suc number) count count_there = total-set xs number count count_there
total-set (Some other_count ∷ xs) (suc number) count count_there = let rest_total = total-set xs number count count_there in omega (arith, rest_total)

one_more : (old new : Bundle) (number : ℕ) (said : Stepped) → IsBundleStep old new number said → total (steps_of new) ≡ total (steps_of old) + 1
one_more old new number said step =
    let machine_found = kept_here uncounted_machine old.seat.me.0 number step.took.machine step.took.here in
    let steps_there : machine_of (steps_of old) number ≡ Some (steps_made machine_found.0) = machine_of-kept steps_made old.seat.me.0 number ∙ ap (kept_one steps_made) machine_found.1 in
    ap total step.steps ∙ ap (λ count_found. total (slice_set (steps_of old) number (Some (unwrap_or count_found 0 + 1)))) steps_there ∙ total-set (steps_of old) number (steps_made machine_found.0) steps_there

pub steps_are_events : StepsAreEvents
steps_are_events = record {
  not_none = λ bundle number said step. absurd (let step_more = one_more bundle bundle number said step in omega (arith, step_more));
  not_two = λ old mid new first second number first_outcome second_outcome joint_outcome step next whole.
      absurd
      (let first_more = one_more old mid first first_outcome step in
      let second_more = one_more mid new second second_outcome next in
      let both_more = one_more old new number joint_outcome whole in
      omega (arith, first_more, second_more, both_more));
}
