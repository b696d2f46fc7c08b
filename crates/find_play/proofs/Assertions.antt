-- Going over the claims of a test.
use Rattle.std.proofs.Common.{ℕ, Bool, ◌&&◌, ◌||◌, List, Option, Some}
use Rattle.std.specs.Prelude.{if◌then◌else◌}
use Rattle.find_play.specs.declared.claim.Claim.{Claim}
use Rattle.find_play.specs.Claims.{Left, all_hold, another_holds, broken_behind}

-- what is said where the assertion holds or not
abbrev pub said : Left → ℕ → List Claim → Bool → Option ℕ
said left begun claims holds = if holds then broken_behind left begun claims else Some begun

-- what is said of the claims that are left, where so many assertions have begun, an alternative of the last one has held or not,
-- and the one at work holds so far or not
abbrev pub broken_then : Left → ℕ → Bool → Bool → List Claim → Option ℕ
broken_then left begun held so_far claims = said left begun claims (held || ((so_far && all_hold left claims) || another_holds left claims))
