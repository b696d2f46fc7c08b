use Rattle.std.proofs.Common.{length, sym, ap, ◌∙◌}
use Rattle.heap_machines.proofs.Openings.{first_machines}
use Rattle.step_core.proofs.Theorem.OpeningStands.{length-opening}
use Rattle.step_core.proofs.Theorem.FirstFacts.{opening_begins}
use Rattle.step_core.specs.Begins.{first_graph}
use Rattle.table_heap.proofs.Core.{first_words}
use Rattle.table_heap.proofs.heap.Heap.open.Goals as goal

pub invariant_of-key : goal.invariant_of-key
invariant_of-key c = record { begins = ∣ (first_graph c.args.config, opening_begins c.args.config) ∣₁ }

pub open_whole-requires-clause-words : goal.open_whole-requires-clause-words
open_whole-requires-clause-words c = c.in_ok-words.ensures ∙ sym (first_words c.args.config)

pub open_whole-requires-clause-count : goal.open_whole-requires-clause-count
open_whole-requires-clause-count c = ap length c.in_ok-words.ensures ∙ length-opening c.args.config

pub open_whole-requires-clause-machines : goal.open_whole-requires-clause-machines
open_whole-requires-clause-machines c = record {
  machines = c.in_ok-machines.ensures.machines ∙ sym (first_machines c.args.config);
  heap = c.in_ok-machines.ensures.heap;
  orders = c.in_ok-machines.ensures.orders;
}
