-- When an allocation was crowded out, by what is in memory.
use Rattle.std.proofs.Common.{ℕ, ◌≡◌, ◌+◌, ◌-◌, ◌*◌, ◌^◌, ◌<◌, ◌≤◌, Some, sum_by, min, inl, inr, ap, sym, subst, arith, ◌∙◌}
use Rattle.std.specs.Prelude.{MatchBool, Option}
use Rattle.std.proofs.Math.Dec.{leb}
use Rattle.std.proofs.Math.Nat.{mul-le-mul}
use Rattle.std.proofs.lemmas.Bool.Decides.{leb_tells}
use Rattle.std.proofs.Common.{List}
use Rattle.heap_words.specs.declared.config.Config.{Config}
use Rattle.shen_graph.specs.declared.command.Command.{Command}
use Rattle.shen_graph.specs.declared.name.Name.{Name}
use Rattle.shen_graph.specs.Crowd.{words_asked, Held, PinnedRegions}
use Rattle.shen_graph.specs.Graph.{Graph, named}
use Rattle.shen_graph.specs.Reach.{Live, size}
use Rattle.shen_graph.specs.Work.{Progress}
use Rattle.churn.proofs.OneReach.{one_reach}
use Rattle.shen_check.specs.JudgeState.{words_waiting, IsFullFor}
use Rattle.shen_check.proofs.HeldOnce.{held_once, regions_once}

-- a graph has so many live words, and no other number
pub live_once : (graph : Graph) (words other_words : ℕ) → Live graph words → Live graph other_words → words ≡ other_words
live_once graph words other_words live other_live = live.2 ∙ ap (sum_by (λ (name : Name). size (named graph (Some name)))) (one_reach graph live.0 other_live.0 live.1 other_live.1) ∙ sym other_live.2

-- a bound that a u64 holds is reached by a sum exactly where it is reached by the sum that stands still
reaches : (bound sum sat : ℕ) → bound < 2 ^ 32 → sat ≡ min sum (2 ^ 64 - 1) → bound ≤ sat → bound ≤ sum
reaches bound sum sat small saturated bound_reached = omega (arith, small, saturated, bound_reached)

falls_short : (bound sum sat : ℕ) → bound < 2 ^ 32 → sat ≡ min sum (2 ^ 64 - 1) → sat < bound → sum < bound
falls_short bound sum sat small saturated below_bound = omega (arith, small, saturated, below_bound)

small : (regions short : ℕ) → regions ≤ 64 → short ≤ 33554432 → regions * (short + 1) < 2 ^ 32
small regions short at_most short_small =
    let next_small : short + 1 ≤ 33554433 = omega (arith, short_small) in
    let product_small : regions * (short + 1) ≤ 64 * 33554433 = mul-le-mul at_most next_small in
    omega (arith, product_small)

clash : (a b x y : ℕ) → a < b → a ≡ y → b ≡ x → x ≤ y → ⊥
clash a b x y less same_a same_b at_most = omega (arith, less, same_a, same_b, at_most)

-- so many words are free in as many regions
abbrev needed : Config → ℕ → Command → ℕ
needed config pinned command = (config.regions - pinned) * (config.region_words - words_asked (Some command) + 1)

-- what a thread that asks is told, with one number for what lives, one for what is held, and one for the regions
told_full : (config : Config) (graph : Graph) (work : List (Option Progress)) (thread : ℕ) (command : Command) (live held pinned : ℕ) → Live graph live → Held graph held → PinnedRegions config.region_words graph pinned
    → IsFullFor config graph work thread command → needed config pinned command ≤ live - held + words_waiting work config.mutators thread
told_full config graph work thread command live held pinned lives holds pins is_full =
    let waits = words_waiting work config.mutators thread in
    subst (λ (number : ℕ). needed config pinned command ≤ number - held + waits) (live_once graph is_full.0 live is_full.3 lives)
    (subst (λ (number : ℕ). needed config pinned command ≤ is_full.0 - number + waits) (held_once graph is_full.1 held is_full.4 holds)
    (subst (λ (number : ℕ). needed config number command ≤ is_full.0 - is_full.1 + waits) (regions_once config.region_words graph is_full.2 pinned is_full.5 pins) is_full.6))

pub full_for : (config : Config) (graph : Graph) (work : List (Option Progress)) (thread : ℕ) (command : Command) (live held pinned waiting asked short free rest sat regions words : ℕ)
    → Live graph live → Held graph held → PinnedRegions config.region_words graph pinned → waiting ≡ words_waiting work config.mutators thread → asked ≡ words_asked (Some command) → words ≡ config.region_words → regions ≡ config.regions
    → short ≡ words - asked → free ≡ regions - pinned → rest ≡ live - held → sat ≡ min (rest + waiting) (2 ^ 64 - 1)
    → MatchBool (leb (free * (short + 1)) sat) (IsFullFor config graph work thread command) (IsFullFor config graph work thread command → ⊥)
full_for config graph work thread command live held pinned waiting asked short free rest sat regions words lives holds pins waits asks same_words count same_short opens rests sum =
    let few : free * (short + 1) < 2 ^ 32 = small free short (omega (arith, opens, count, config.in_range.most_regions)) (omega (arith, same_short, same_words, config.in_range.most_words)) in
    let bound : free * (short + 1) ≡ needed config pinned command =
    ap (λ (number : ℕ). number * (short + 1)) (opens ∙ ap (λ (number : ℕ). number - pinned) count)
    ∙ ap (λ (number : ℕ). (config.regions - pinned) * (number + 1)) (same_short ∙ ap (λ (number : ℕ). number - asked) same_words ∙ ap (λ (number : ℕ). config.region_words - number) asks) in
    let total : rest + waiting ≡ live - held + words_waiting work config.mutators thread = ap (λ (number : ℕ). number + waiting) rests ∙ ap (λ (number : ℕ). live - held + number) waits in
    elim (leb_tells (free * (short + 1)) sat) [
      | inl bound_test ↦ rw bound_test.0 (
        live,
        held,
        pinned,
        lives,
        holds,
        pins,
        subst (λ (number : ℕ). number ≤ live - held + words_waiting work config.mutators thread) bound
            (subst (λ (number : ℕ). free * (short + 1) ≤ number) total (reaches (free * (short + 1)) (rest + waiting) sat few sum bound_test.1)),
      )
      | inr bound_test ↦ rw bound_test.0 (λ is_full.
          clash (rest + waiting) (free * (short + 1)) (needed config pinned command) (live - held + words_waiting work config.mutators thread) (falls_short (free * (short + 1)) (rest + waiting) sat few sum bound_test.1) total bound
          (told_full config graph work thread command live held pinned lives holds pins is_full))
    ]
