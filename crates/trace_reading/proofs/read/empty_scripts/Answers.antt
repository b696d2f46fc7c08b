use Rattle.std.proofs.Common.{◌≡◌, ℕ, ◌++◌, ◌∷◌, [], List, ap, ◌∙◌, arith}
use Rattle.std.specs.Prelude.{replicate}
use Rattle.std.proofs.lemmas.List.{replicate_more}
use Rattle.shen_graph.specs.declared.command.Command.{Command}
use Rattle.trace_reading.proofs.Traces.{scripts_of_none}
use Rattle.trace_reading.proofs.read.empty_scripts.Goals as goal

pub loop-preserved : goal.loop-preserved
loop-preserved c =
    let empty_script : List Command = [] in
    let pushed : c.push.new.self.items ≡ c.loop.scripts.items ++ c.in-Ok.script ∷ [] = rw c.if-is_err.ensures.negation at c.push.ensures.items in
    pushed ∙ ap (λ (script : List Command). c.loop.scripts.items ++ script ∷ []) c.in-Ok.ensures ∙ ap (λ (scripts : List (List Command)). scripts ++ empty_script ∷ []) c.loop.invariant ∙ replicate_more c.loop.counter empty_script

pub returns-clause-ok : goal.returns-clause-ok
returns-clause-ok c =
    let empty_script : List Command = [] in
    let all_counted : c.loop.counter ≡ c.args.threads = omega arith in
    c.loop.invariant ∙ ap (λ (count : ℕ). replicate count empty_script) all_counted ∙ scripts_of_none c.args.threads
