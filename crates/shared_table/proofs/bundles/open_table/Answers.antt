-- The opening follows no event.
use Rattle.std.proofs.Common.{sym, subst, List, ℕ, []}
use Rattle.atomic_table.specs.Table.{opening}
use Rattle.shared_table.specs.Views.{whole}
use Rattle.shared_table.specs.Rule.{Rule}
use Rattle.shared_table.proofs.Rules.{opens}
use Rattle.shared_table.proofs.bundles.open_table.Goals as goal

pub of_words-requires : goal.of_words-requires
of_words-requires g c =
    subst (λ (words : List ℕ). Rule (g.M.Machines.kind c.args.key.now) (g.M.Machines.opening c.args.key.now) (opening {S = Unit {0}} words [] (whole (g.M.Machines.opening c.args.key.now).machines))) (sym c.requires)
    (opens (g.M.Machines.kind c.args.key.now) (g.M.Machines.opening c.args.key.now) {S = Unit {0}} [])
