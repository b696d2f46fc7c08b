use Rattle.std.proofs.Common.{◌≤◌, ◌^◌, arith}
use Rattle.std.proofs.Math.Pow.{pow_mono}
use Rattle.step_core.proofs.opening.first_free.Goals as goal

pub overflow_sub-result : goal.overflow_sub-result
overflow_sub-result c =
    let power_above : 16 ≤ 2 ^ c.args.regions = pow_mono {i = 4} c.requires.least in
    let power_below : 2 ^ c.args.regions ≤ 2 ^ 64 = pow_mono c.requires.most in
    omega (arith, power_above, power_below)
