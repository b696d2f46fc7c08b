-- While nobody marks, all that marking counts on holds.
use Rattle.heap_words.specs.Phases.{marking_phase, idle_phase}
use Rattle.std.proofs.Common.{◌≡◌, ◌≢◌, ℕ, Option, refl, arith}
use Rattle.std.proofs.lemmas.Bool.{false≢true}
use Rattle.std.proofs.lemmas.Option.{none-some}
use Rattle.heap_words.specs.declared.config.Config.{Config}
use Rattle.heap_world.specs.World.{Plot, Scan, no_snapshot, KeepsSnapshot}

pub none_marked_in : (config : Config) (phase : ℕ) (grey black count : ℕ → ℕ) (buffer : ℕ → ℕ → ℕ) (top tams heap : ℕ → ℕ) (block : Plot) (recording : ℕ → Option ℕ) (scanning : ℕ → Option Scan)
    → phase ≢ marking_phase → KeepsSnapshot config phase grey black count buffer top tams heap block no_snapshot recording scanning
none_marked_in config phase grey black count buffer top tams heap block recording scanning other_phase = record {
  empty = λ not_marking. refl;
  traced = record {
    edges = λ address refs nums field name in_snapshot. absurd (none-some _ in_snapshot);
    starts = λ object_address in_snapshot. absurd (false≢true in_snapshot);
  };
  led = λ object_address refs nums name in_snapshot. absurd (none-some _ in_snapshot);
  old = λ object_address refs nums name in_snapshot. absurd (none-some _ in_snapshot);
  kept = λ object_address refs nums name in_snapshot. absurd (none-some _ in_snapshot);
  floors = λ region inside. omega arith;
  marking = λ phase_one. absurd (other_phase phase_one);
}

-- so it is in phase 0
pub none_marked : (config : Config) (phase : ℕ) (grey black count : ℕ → ℕ) (buffer : ℕ → ℕ → ℕ) (top tams heap : ℕ → ℕ) (block : Plot) (recording : ℕ → Option ℕ) (scanning : ℕ → Option Scan)
    → phase ≡ idle_phase → KeepsSnapshot config phase grey black count buffer top tams heap block no_snapshot recording scanning
none_marked config phase grey black count buffer top tams heap block recording scanning phase_zero =
    none_marked_in config phase grey black count buffer top tams heap block recording scanning (λ phase_one. omega (arith, phase_zero, phase_one))
