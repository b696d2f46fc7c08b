-- What is left where a run that goes on from a dump came to an end: its objects fit.
use Rattle.std.proofs.Common.{◌≡◌, ◌⊎◌, inl, inr, ℕ, ◌<◌, ◌≤◌, arith}
use Rattle.std.specs.Prelude.{Result, Ok, Err, IfOk}
use Rattle.std.proofs.lemmas.Bool.{cases_lt}
use Rattle.heap_words.specs.declared.schedule.NoMemory.{NoMemory}
use Rattle.heap_dump.specs.declared.goes_on.Continued.{Continued}
use Rattle.heap_dump.specs.declared.goes_on.Continued.TheVariants.{Answered, Unfinished, TooSmall}
use Rattle.heap_dump.specs.RunFromStage.{IfAnswered}

by_order : (a b : ℕ) → ((a ≤ b → ⊥) → ⊥) → a ≤ b
by_order a b never = by_case (cases_lt b a)
  where
    by_case : (b < a) ⊎ (a ≤ b) → a ≤ b
    by_case (inl less) = absurd (never (λ not_below. absurd (omega (arith, less, not_below))))
    by_case (inr a_fits) = a_fits

pub answered_fits : (result : Result Continued NoMemory) (a b : ℕ) → ((a ≤ b → ⊥) → result ≡ Ok TooSmall) → IfOk result (λ resumed. IfAnswered resumed (λ answer. a ≤ b))
answered_fits (Err refused) a b small_result = tt
answered_fits (Ok (Answered answer)) a b small_result = by_order a b (λ in_order. let refused = small_result in_order in absurd cc)
answered_fits (Ok Unfinished) a b small_result = tt
answered_fits (Ok TooSmall) a b small_result = tt

pub unfinished_fits : (result : Result Continued NoMemory) (a b : ℕ) → ((a ≤ b → ⊥) → result ≡ Ok TooSmall) → result ≡ Ok Unfinished → a ≤ b
unfinished_fits result a b small_result is_unfinished = by_order a b (λ in_order. let refused = small_result in_order in absurd cc)
