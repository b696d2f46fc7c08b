use Rattle.std.proofs.Common.{◌≡◌, ℕ, ◌++◌, ◌∷◌, [], List, ap, ◌∙◌, arith}
use Rattle.std.specs.Prelude.{replicate}
use Rattle.std.proofs.lemmas.List.{replicate_more}
use Rattle.shen_graph.specs.declared.command.Command.{Command}
use Rattle.trace_reading.proofs.Traces.{scripts_of_none}
use Rattle.trace_text.proofs.lines.empty_scripts.Goals as goal

pub loop-preserved : goal.loop-preserved
loop-preserved c =
    let no_commands : List Command = [] in
    let pushed : c.push.new.self.items ≡ c.loop.scripts.items ++ c.in-Ok.script ∷ [] = rw c.if-is_err.ensures.negation at c.push.ensures.items in
    pushed ∙ ap (λ (script : List Command). c.loop.scripts.items ++ script ∷ []) c.in-Ok.ensures ∙ ap (λ (scripts : List (List Command)). scripts ++ no_commands ∷ []) c.loop.invariant ∙ replicate_more c.loop.counter no_commands

pub returns : goal.returns
returns c =
    let no_commands : List Command = [] in
    let all_counted : c.loop.counter ≡ c.args.threads = omega arith in
    c.loop.invariant ∙ ap (λ (count : ℕ). replicate count no_commands) all_counted ∙ scripts_of_none c.args.threads
