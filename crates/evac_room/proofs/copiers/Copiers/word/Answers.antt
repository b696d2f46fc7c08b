use Rattle.std.proofs.Math.Nat.{ℕ_set}
use Rattle.evac_room.proofs.Memory.{from_memory}
use Rattle.evac_room.proofs.copiers.Copiers.word.Goals as goal

pub returns-clause-counts : goal.returns-clause-counts
returns-clause-counts c = from_memory (hlevel (ℕ_set)) _ _ c.args.self.now.few c.args.self.now.reached (λ sound. sound.holds.counts)
