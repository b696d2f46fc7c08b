-- One statement after the other.
use Rattle.std.proofs.Common.{◌≡◌, ℕ, zero, suc, ◌-◌, ◌<◌, List, Option, sym, subst, arith}
use Rattle.shen_graph.specs.declared.command.Reply.{Reply}
use Rattle.find_play.specs.declared.statement.Statement.{Statement}
use Rattle.find_play.specs.declared.thread.Move.TheVariants.{Back}
use Rattle.find_play.specs.declared.thread.Next.{Next}
use Rattle.find_play.specs.declared.thread.Next.TheVariants.{TooLong}
use Rattle.find_play.specs.declared.thread.Thread.{Thread}
use Rattle.find_play.specs.Meaning.{move_at, Runs, Returned, Stopped}

pub stopped : (program : List Statement) (reply : Option Reply) (index turns_left first : ℕ) → move_at program reply index ≡ Back first → turns_left ≡ 0 → Runs program reply (record { at = index; left = turns_left }) TooLong (record { at = index; left = turns_left })
stopped program reply index turns_left first moves_back none_left = subst (λ (n : ℕ). Runs program reply (record { at = index; left = n }) TooLong (record { at = index; left = n })) (sym none_left) (Stopped index first moves_back)

pub returned : (program : List Statement) (reply : Option Reply) (index turns_left first : ℕ) → move_at program reply index ≡ Back first → 0 < turns_left → (next : Next) (end : Thread)
    → Runs program reply (record { at = first; left = turns_left - 1 }) next end → Runs program reply (record { at = index; left = turns_left }) next end
returned program reply index zero first same_step positive next end runs = absurd (omega (arith, positive))
returned program reply index (suc n) first moves_back positive next end runs =
    let same_step : suc n - 1 ≡ n = omega arith in
    Returned index n first next end moves_back (subst (λ (turns : ℕ). Runs program reply (record { at = first; left = turns }) next end) same_step runs)
