use Rattle.std.proofs.Common.{◌≡◌, ◌≤◌, List, length, ap, sym, ◌∙◌, subst, arith}
use Rattle.std.specs.Prelude.{sum_by}
use Rattle.shen_graph.specs.declared.command.Command.{Command}
use Rattle.trace_runs.proofs.Scripts.{few_in_all, one_script_more}
use Rattle.trace_runs.proofs.replays.commands_of.Goals as goal

pub overflow_add-commands : goal.overflow_add-commands
overflow_add-commands c =
    let scripts : List (List Command) = c.list-script-items.result.now in
    let same_scripts : scripts ≡ c.args.trace.now.scripts = c.list-script-items.ensures in
    let commands_low : sum_by length scripts ≤ 34359738360 = subst (λ (ss : List (List Command)). sum_by length ss ≤ 34359738360) (sym same_scripts) (few_in_all c.requires.0 c.args.trace.now.version c.args.trace.now.config c.args.trace.now.scripts c.args.trace.now.schedule c.requires.1) in
    let next_low = one_script_more scripts c.loop-script.script-index c.loop-script.commands c.script-item.result c.loop-script-test.true c.loop-script.invariant in
    let item = ap (λ (script : List Command). length script) (c.list.ensures ∙ c.script-item.is) in
    omega (arith, commands_low, next_low, item)
