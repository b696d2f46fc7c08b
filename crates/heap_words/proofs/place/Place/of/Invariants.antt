use Rattle.std.proofs.Common.{◌≡◌, ℕ, ◌<◌, [], get_or}
use Rattle.heap_words.specs.declared.place.Place.TheVariants.{E1}
use Rattle.heap_words.specs.declared.place.TheConstants.{CODES}
use Rattle.heap_words.proofs.place.Place.of.Given as goal

-- no row so far has the code
abbrev pub invariant-loop-place : goal.invariant-loop-place
invariant-loop-place loop = (index : ℕ) → index < loop.place-index → (get_or CODES index (E1, [])).1 ≡ loop.code → ⊥
