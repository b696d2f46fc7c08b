-- Settling buffers and letting them go keep the graph that words hold.
use Rattle.std.proofs.Common.{◌≡◌, ℕ, ◌≤◌}
use Rattle.heap_words.specs.declared.config.Config.{Config}
use Rattle.heap_words.specs.Ranges.{seat_count}
use Rattle.heap_words.specs.Words.{Word, Current}
use Rattle.image_graph.specs.Settled.{buffers_settled}
use Rattle.image_graph.specs.LetGo.{let_go}
use Rattle.image_graph.specs.Buffers.{settled_block, SettlingHolds, LettingGoHolds}
use Rattle.image_graph.proofs.Loosening.Loosened.{loosened_sized}
use Rattle.image_graph.proofs.Loosening.AllSettled.{settled_holds}
use Rattle.image_graph.proofs.Loosening.AllLetGo.{has_let_go, let_go_none}

module _ (config : Config) (memory : Word → ℕ) (seats : (seat : ℕ) → seat_count config.mutators config.helpers ≤ seat → memory (Current seat) ≡ 0) where
  pub settling_holds : SettlingHolds config memory (buffers_settled config memory)
  settling_holds block owner given_promises given_graph holds =
      let after = settled_holds config memory block owner given_promises given_graph holds seats in
      record { holds = after.holds; sized = loosened_sized config memory (buffers_settled config memory) block (settled_block config memory block) owner given_promises given_graph holds after.loosened }

  pub letting_go_holds : LettingGoHolds config memory (let_go config memory)
  letting_go_holds block owner given_promises given_graph holds =
      let after = has_let_go config memory block owner given_promises given_graph holds seats in
      record {
        pieces = after.plot;
        holds = after.left.holds;
        none = let_go_none config memory block owner given_promises given_graph holds seats;
        stays = after.left.loosened.same.stays;
        came = after.left.loosened.same.came;
        sized = loosened_sized config memory (let_go config memory) block after.plot owner given_promises given_graph holds after.left.loosened;
      }
