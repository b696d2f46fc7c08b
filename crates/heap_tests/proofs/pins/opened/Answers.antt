use Rattle.std.proofs.Common.{◌≡◌, [], ◌∷◌, ◌++◌, length, ap, ◌∙◌, arith}
use Rattle.shen_graph.specs.declared.command.Command.{Command}
use Rattle.shen_graph.specs.Work.{opened}
use Rattle.shen_core.specs.State.{config_of}
use Rattle.heap_tests.proofs.TwoThreads.{can_run_two, commands_of_two}
use Rattle.heap_tests.proofs.pins.opened.Goals as goal

pub returns-clause-run : goal.returns-clause-run
returns-clause-run c =
    let first_script = c.in_ok-first.first in
    let second_script = c.in_ok-second.second in
    let jobs : c.in_ok-work.work ≡ opened (first_script ∷ second_script ∷ []) =
    c.in_ok-work.ensures ∙ ap opened (c.in_ok-push-2.ensures.items ∙ ap (λ xs. xs ++ second_script ∷ []) (c.in_ok-push.ensures.items ∙ ap (λ xs. xs ++ first_script ∷ []) c.new-scripts.ensures.items)) in
    can_run_two c.in_ok-plain.plain c.in_ok-config.config first_script second_script c.in_ok-work.work c.in_ok-plain.ensures.config c.in_ok-plain.ensures.opening c.in_ok-plain.ensures.orders c.in_ok-config.ensures.mutators
    (c.in_ok-first.ensures.valid, c.in_ok-first.ensures.few) (c.in_ok-second.ensures.valid, c.in_ok-second.ensures.few) jobs

pub returns-clause-spare : goal.returns-clause-spare
returns-clause-spare c =
    let first_script = c.in_ok-first.first in
    let second_script = c.in_ok-second.second in
    let jobs : c.in_ok-work.work ≡ opened (first_script ∷ second_script ∷ []) =
    c.in_ok-work.ensures ∙ ap opened (c.in_ok-push-2.ensures.items ∙ ap (λ xs. xs ++ second_script ∷ []) (c.in_ok-push.ensures.items ∙ ap (λ xs. xs ++ first_script ∷ []) c.new-scripts.ensures.items)) in
    let total = commands_of_two (config_of c.in_ok-plain.plain) c.in_ok-config.config first_script second_script c.in_ok-work.work c.in_ok-plain.ensures.config c.in_ok-config.ensures.mutators jobs in
    let first_length = ap (length {A = Command}) c.list.ensures in
    let second = ap (length {A = Command}) c.list-2.ensures in
    omega (arith, total, first_length, second, c.in_ok-reserve.ensures.spare)
