use Rattle.std.proofs.Common.{◌≡◌, ap, sym, ◌∙◌, map, All, subst}
use Rattle.std.proofs.lemmas.List.Elements.{All-push}
use Rattle.shen_graph.specs.declared.order.Order.TheVariants.{Nothing}
use Rattle.heap_machines.specs.Shown.{shown, order_of, config_of}
use Rattle.heap_machines.proofs.Openings.{machines_more}
use Rattle.heap_machines.proofs.opening.open_machines.Goals as goal

pub loop-number-preserved : goal.loop-number-preserved
loop-number-preserved c =
    let grown = c.in-Ok.ensures.items in
    record {
      machines = ap (map shown) grown ∙ machines_more c.args.config c.loop-number.machines.items c.in_ok-machine.machine c.loop-number.number c.loop-number.invariant.machines c.in_ok-machine.ensures.shown;
      heap = subst (λ xs. All (λ machine. config_of machine ≡ c.args.config) xs) (sym grown)
          (All-push (λ machine. config_of machine ≡ c.args.config) c.loop-number.machines.items c.in_ok-machine.machine c.loop-number.invariant.heap c.in_ok-machine.ensures.heap);
      orders = subst (λ xs. All (λ machine. order_of machine ≡ Nothing) xs) (sym grown)
          (All-push (λ machine. order_of machine ≡ Nothing) c.loop-number.machines.items c.in_ok-machine.machine c.loop-number.invariant.orders c.in_ok-machine.ensures.order);
    }
