-- When a pause is due: where no unit is left to claim, and then it stays so.
use Rattle.std.proofs.Common.{◌≡◌, ℕ, ◌<◌, ◌≤◌, arith}
use Rattle.std.specs.Int.{bit_at}
use Rattle.std.proofs.lemmas.Nat.Bits.{bit_at-lt}
use Rattle.heap_words.specs.declared.config.Config.{Config}
use Rattle.heap_words.specs.Words.{Word, Phase, Claim, Ask}
use Rattle.heap_world.specs.World.{World}
use Rattle.heap_world.specs.Rely.{Rely}
use Rattle.heap_world.specs.Change.{IsDue}

-- what is due stays so
pub due_stays : (config : Config) (world next_world : World) (seat : ℕ) → Rely config seat world next_world → IsDue config world.memory → IsDue config next_world.memory
due_stays config world next_world seat rely due late quiet =
    let same_phase = rely.marks.keeps.phase in
    let asks = rely.asked in
    rely.fields.claims (due (omega (arith, late, same_phase)) (still (bit_at (world.memory Ask) 1) (bit_at-lt (world.memory Ask) 1) (λ bit_set. (let two = asks bit_set in omega (arith, two, quiet)))))
  where
    still : (n : ℕ) → n < 2 → (n ≡ 1 → ⊥) → n ≡ 0
    still n small not_one = grind (arith, small, not_one)

-- A pause is due wherever all regions are claimed,
pub claimed_due : (config : Config) (memory : Word → ℕ) → config.regions ≤ memory Claim → IsDue config memory
claimed_due config memory claimed late quiet = claimed

-- and in phases 0 and 1
pub early_due : (config : Config) (memory : Word → ℕ) → memory Phase ≤ 1 → IsDue config memory
early_due config memory early late quiet = absurd (omega (arith, early, late))
