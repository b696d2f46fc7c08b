use Rattle.std.proofs.Common.{◌++◌, ◌∷◌, ◌∙◌, ap, sym, append_assoc}
use Rattle.std.specs.List.{flat_map, range_with_len}
use Rattle.shen_graph.specs.declared.command.Command.TheVariants.{New, Set}
use Rattle.churn.specs.Script.{making, loading, round, shared_hub, own_box}
use Rattle.churn.proofs.ScriptLemmas.{rounds_more}
use Rattle.churn.proofs.script.churn_script.Goals as goal

pub loop-i-preserved : goal.loop-i-preserved
loop-i-preserved c =
    let seed = c.args.seed in
    let round_number = c.loop-i.i in
    c.in_ok-add_loading.ensures ∙ ap (λ commands. commands ++ loading round_number) (c.in_ok-add_making.ensures ∙ ap (λ commands. commands ++ making seed round_number) c.loop-i.invariant)
    ∙ append_assoc (New own_box 16 0 ∷ Set shared_hub c.args.thread own_box ∷ flat_map (round seed) (range_with_len 0 round_number)) (making seed round_number) (loading round_number)
    ∙ ap (λ commands. New own_box 16 0 ∷ Set shared_hub c.args.thread own_box ∷ commands) (sym (rounds_more (round seed) round_number))
