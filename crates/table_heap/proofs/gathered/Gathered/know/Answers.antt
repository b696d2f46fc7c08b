-- Machines that count their steps stand as those that do not.
use Rattle.std.proofs.Common.{length, sym, ap, ◌∙◌, subst, arith}
use Rattle.std.proofs.lemmas.List.{length-map}
use Rattle.heap_words.specs.declared.config.Config.{Config}
use Rattle.heap_words.specs.Ranges.{seat_count}
use Rattle.heap_words.specs.Steps.{IsReached}
use Rattle.shared_table.specs.Views.{machines_of, HasAllMachines}
use Rattle.shared_table.specs.Counted.{at_start}
use Rattle.shared_table.proofs.Counted.{all_counted, view_reached}
use Rattle.shared_table.proofs.Numbers.{all_here}
use Rattle.table_heap.specs.declared.key.HeapKey.{HeapKey}
use Rattle.table_heap.specs.Core.{heap_kind, start_of_key, table_start}
use Rattle.table_heap.proofs.Core.{start_count}
use Rattle.table_heap.specs.Gathered.{view_of}
use Rattle.table_heap.proofs.gathered.Gathered.know.Goals as goal

pub returns-clause-run : goal.returns-clause-run
returns-clause-run c all_machines =
    let heap = c.args.heap.now in
    let gathered = c.args.self.now in
    let key = heap.table.shared.key in
    let whole_view : HasAllMachines (length (start_of_key heap.key).machines) (view_of gathered) = record {
      all = all_here (view_of gathered) (λ index index_below. all_machines.each index (let machine_count = all_machines.long in omega (arith, index_below, machine_count)));
      counts = all_machines.long ∙ ap (λ (config : Config). seat_count config.mutators config.helpers) (sym heap.same_sizes) ∙ sym (start_count heap.key);
    } in
    let counted : HasAllMachines (length (table_start key).machines) gathered.seat.me.0 =
    subst (λ (key : HeapKey). HasAllMachines (length (table_start key).machines) gathered.seat.me.0) (sym heap.table_key)
    (subst (λ count. HasAllMachines count gathered.seat.me.0) (sym (length-map (start_of_key heap.key).machines at_start)) (all_counted (length (start_of_key heap.key).machines) gathered.seat.me.0 whole_view)) in
    let run = c.read_run.ensures.run counted in
    record {
      words = run.words;
      reached =
          subst (λ (config : Config). IsReached (heap_kind config) (start_of_key heap.key) (record { words = run.words; machines = machines_of (view_of gathered) })) heap.same_sizes
          (subst (λ (key : HeapKey). IsReached (heap_kind key.config) (start_of_key key) (record { words = run.words; machines = machines_of (view_of gathered) })) heap.table_key
          (view_reached (heap_kind key.config) (start_of_key key) run.words gathered.seat.me.0 run.reached));
    }
