use Rattle.std.proofs.Common.{ℕ, sym, subst, arith}
use Rattle.heap_words.specs.Words.{Word}
use Rattle.image_graph.specs.Image.{ImageStands}
use Rattle.image_graph.specs.Serving.{served_block, served_promises}
use Rattle.image_graph.proofs.ServingKeeps.{served_stands}
use Rattle.image_graph.specs.State.{config_of, memory_of}
use Rattle.image_graph.specs.Left.{HoldsServed}
use Rattle.image_graph.proofs.ServedHolds.{serving_holds}
use Rattle.image_graph.proofs.Turns.{holds_within}
use Rattle.image_graph.proofs.image.Image.serve.Goals as goal

pub give_turns-requires : goal.give_turns-requires
give_turns-requires c = holds_within (config_of c.args.self.now) (memory_of c.args.self.now) c.requires.holds

pub returns-clause-graph : goal.returns-clause-graph
returns-clause-graph c = λ block graph promises stands asking.
    let config = config_of c.args.self.now in
    let memory : Word → ℕ = memory_of c.args.self.now in
    subst (λ (some_memory : Word → ℕ). ImageStands config some_memory (served_block config memory block config.mutators) graph (served_promises config memory promises config.mutators)) (sym c.give_turns.ensures.words)
    (served_stands config graph memory block promises stands asking config.mutators (omega arith))

pub returns-clause-holds : goal.returns-clause-holds
returns-clause-holds c = λ block owner promises graph holds.
    let config = config_of c.args.self.now in
    let memory : Word → ℕ = memory_of c.args.self.now in
    subst (λ (some_memory : Word → ℕ). HoldsServed config memory some_memory block owner promises graph) (sym c.give_turns.ensures.words) (serving_holds config memory block owner promises graph holds)
