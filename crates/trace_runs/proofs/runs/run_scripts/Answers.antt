use Rattle.std.proofs.Common.{rules, ◌<◌, ◌≤◌, length, sym, subst, arith}
use Rattle.heap_words.specs.declared.config.Config.{Config}
use Rattle.table_heap.specs.Closed.{stage_of}
use Rattle.table_heap.specs.State.{config_of, view_of}
use Rattle.table_heap.proofs.Opened.{reached_from_opening}
use Rattle.table_heap.specs.Running.{Jobs}
use Rattle.trace_runs.specs.declared.parts.Part.{Part}
use Rattle.trace_runs.specs.DealtParts.{Assigned, AreReady, LoadIsDone, IsDone}
use Rattle.trace_runs.specs.DealtParts.Assigned.{scripts as by_scripts}
use Rattle.trace_runs.specs.declared.load.Load.TheVariants.{Scripted}
use Rattle.trace_runs.specs.Running.{HasCome}
use Rattle.trace_runs.proofs.Dealing.{can_be_dealt}
use Rattle.trace_runs.proofs.Coming.{has_all, control_idle, come}
use Rattle.trace_runs.proofs.runs.run_scripts.Goals as goal

pub of-requires : goal.of-requires
of-requires g c = omega (arith, c.requires.count)

pub run_parts-requires-clause-ready : goal.run_parts-requires-clause-ready
run_parts-requires-clause-ready g c κs within =
    let scripts = c.args.scripts.items in
    let heap = c.in_ok-heap.heap in
    let bundles = c.in_ok-heap.bundles.items in
    let parts = c.in_ok-parts.parts.items in
    let can_deal = can_be_dealt heap c.args.config scripts c.in-Ok.work bundles c.min-bundles.result c.in_ok-heap.ensures.config c.in_ok-heap.ensures.count c.in_ok-heap.ensures.bundles c.in-Ok.ensures c.requires.count c.requires.runnable in
    let ready : AreReady heap (by_scripts scripts) (length parts) parts = subst (λ part_count. AreReady heap (by_scripts scripts) part_count parts) (sym c.in_ok-parts.ensures.count) (c.in_ok-parts.ensures.ready scripts can_deal) in
    let some_assigned : (assigned : Assigned) × AreReady heap assigned (length parts) parts = (by_scripts scripts, ready) in
    some_assigned

pub close-closed-requires-clause-heap : goal.close-closed-requires-clause-heap
close-closed-requires-clause-heap g c =
    let scripts = c.args.scripts.items in
    let heap = c.in_ok-heap.heap in
    let bundles = c.in_ok-heap.bundles.items in
    let parts = c.in_ok-parts.parts.items in
    let can_deal = can_be_dealt heap c.args.config scripts c.in-Ok.work bundles c.min-bundles.result c.in_ok-heap.ensures.config c.in_ok-heap.ensures.count c.in_ok-heap.ensures.bundles c.in-Ok.ensures c.requires.count c.requires.runnable in
    let ready : AreReady heap (by_scripts scripts) (length parts) parts = subst (λ part_count. AreReady heap (by_scripts scripts) part_count parts) (sym c.in_ok-parts.ensures.count) (c.in_ok-parts.ensures.ready scripts can_deal) in
    let whole_part : Part = c.in_ok-bundle.field-0 in
    let is_done : IsDone heap (by_scripts scripts) (length parts) 0 (length parts) whole_part = c.in_ok-bundle.ensures (by_scripts scripts) ready in
    let some_bundle : 1 ≤ c.min-bundles.result = search rules in
    let some_parts : 0 < length parts = omega (arith, c.in_ok-parts.ensures.count, c.in_ok-heap.ensures.count, some_bundle) in
    is_done.has.of

pub close-closed-requires-clause-all : goal.close-closed-requires-clause-all
close-closed-requires-clause-all g c =
    let scripts = c.args.scripts.items in
    let heap = c.in_ok-heap.heap in
    let bundles = c.in_ok-heap.bundles.items in
    let parts = c.in_ok-parts.parts.items in
    let can_deal = can_be_dealt heap c.args.config scripts c.in-Ok.work bundles c.min-bundles.result c.in_ok-heap.ensures.config c.in_ok-heap.ensures.count c.in_ok-heap.ensures.bundles c.in-Ok.ensures c.requires.count c.requires.runnable in
    let ready : AreReady heap (by_scripts scripts) (length parts) parts = subst (λ part_count. AreReady heap (by_scripts scripts) part_count parts) (sym c.in_ok-parts.ensures.count) (c.in_ok-parts.ensures.ready scripts can_deal) in
    let whole_part : Part = c.in_ok-bundle.field-0 in
    let is_done : IsDone heap (by_scripts scripts) (length parts) 0 (length parts) whole_part = c.in_ok-bundle.ensures (by_scripts scripts) ready in
    let some_bundle : 1 ≤ c.min-bundles.result = search rules in
    let some_parts : 0 < length parts = omega (arith, c.in_ok-parts.ensures.count, c.in_ok-heap.ensures.count, some_bundle) in
    has_all heap (by_scripts scripts) (length parts) whole_part some_parts is_done

pub close-closed-requires-clause-control : goal.close-closed-requires-clause-control
close-closed-requires-clause-control g c =
    let scripts = c.args.scripts.items in
    let heap = c.in_ok-heap.heap in
    let bundles = c.in_ok-heap.bundles.items in
    let parts = c.in_ok-parts.parts.items in
    let can_deal = can_be_dealt heap c.args.config scripts c.in-Ok.work bundles c.min-bundles.result c.in_ok-heap.ensures.config c.in_ok-heap.ensures.count c.in_ok-heap.ensures.bundles c.in-Ok.ensures c.requires.count c.requires.runnable in
    let ready : AreReady heap (by_scripts scripts) (length parts) parts = subst (λ part_count. AreReady heap (by_scripts scripts) part_count parts) (sym c.in_ok-parts.ensures.count) (c.in_ok-parts.ensures.ready scripts can_deal) in
    let whole_part : Part = c.in_ok-bundle.field-0 in
    let is_done : IsDone heap (by_scripts scripts) (length parts) 0 (length parts) whole_part = c.in_ok-bundle.ensures (by_scripts scripts) ready in
    let some_bundle : 1 ≤ c.min-bundles.result = search rules in
    let some_parts : 0 < length parts = omega (arith, c.in_ok-parts.ensures.count, c.in_ok-heap.ensures.count, some_bundle) in
    control_idle heap (by_scripts scripts) (length parts) whole_part some_parts is_done

pub unreachable-requires : goal.unreachable-requires
unreachable-requires g c =
    let scripts = c.args.scripts.items in
    let heap = c.in_ok-heap.heap in
    let bundles = c.in_ok-heap.bundles.items in
    let parts = c.in_ok-parts.parts.items in
    let can_deal = can_be_dealt heap c.args.config scripts c.in-Ok.work bundles c.min-bundles.result c.in_ok-heap.ensures.config c.in_ok-heap.ensures.count c.in_ok-heap.ensures.bundles c.in-Ok.ensures c.requires.count c.requires.runnable in
    let ready : AreReady heap (by_scripts scripts) (length parts) parts = subst (λ part_count. AreReady heap (by_scripts scripts) part_count parts) (sym c.in_ok-parts.ensures.count) (c.in_ok-parts.ensures.ready scripts can_deal) in
    let whole_part : Part = c.in_ok-bundle.field-0 in
    let is_done : IsDone heap (by_scripts scripts) (length parts) 0 (length parts) whole_part = c.in_ok-bundle.ensures (by_scripts scripts) ready in
    let some_bundle : 1 ≤ c.min-bundles.result = search rules in
    let some_parts : 0 < length parts = omega (arith, c.in_ok-parts.ensures.count, c.in_ok-heap.ensures.count, some_bundle) in
    subst (λ load. LoadIsDone (config_of heap) (by_scripts scripts) (length parts) 0 (length parts) (view_of whole_part.bundle) load) c.in-Driven.is is_done.load

pub returns : goal.returns
returns g c =
    let scripts = c.args.scripts.items in
    let heap = c.in_ok-heap.heap in
    let bundles = c.in_ok-heap.bundles.items in
    let parts = c.in_ok-parts.parts.items in
    let can_deal = can_be_dealt heap c.args.config scripts c.in-Ok.work bundles c.min-bundles.result c.in_ok-heap.ensures.config c.in_ok-heap.ensures.count c.in_ok-heap.ensures.bundles c.in-Ok.ensures c.requires.count c.requires.runnable in
    let ready : AreReady heap (by_scripts scripts) (length parts) parts = subst (λ part_count. AreReady heap (by_scripts scripts) part_count parts) (sym c.in_ok-parts.ensures.count) (c.in_ok-parts.ensures.ready scripts can_deal) in
    let whole_part : Part = c.in_ok-bundle.field-0 in
    let is_done : IsDone heap (by_scripts scripts) (length parts) 0 (length parts) whole_part = c.in_ok-bundle.ensures (by_scripts scripts) ready in
    let some_bundle : 1 ≤ c.min-bundles.result = search rules in
    let some_parts : 0 < length parts = omega (arith, c.in_ok-parts.ensures.count, c.in_ok-heap.ensures.count, some_bundle) in
    let work : Jobs = c.in-Scripted.work in
    let did : LoadIsDone (config_of heap) (by_scripts scripts) (length parts) 0 (length parts) (view_of whole_part.bundle) (Scripted work) =
    subst (λ load. LoadIsDone (config_of heap) (by_scripts scripts) (length parts) 0 (length parts) (view_of whole_part.bundle) load) c.in-Scripted.is is_done.load in
    subst (λ (config : Config). HasCome config scripts work c.close-closed.result) c.in_ok-heap.ensures.config
    (come heap (by_scripts scripts) (length parts) whole_part some_parts is_done c.close-closed.result c.close-closed.ensures.machines scripts work did c.close-closed.ensures.config
    (reached_from_opening heap c.args.config (stage_of c.close-closed.result) c.in_ok-heap.ensures.config c.in_ok-heap.ensures.opening c.close-closed.ensures.reached))
