use Rattle.std.proofs.Common.{◌≡◌, ap, ◌∙◌, length, map}
use Rattle.step_core.specs.Opening.{opening}
use Rattle.shen_core.proofs.FromImage.{opened_shows, opened_orders}
use Rattle.shen_graph.specs.declared.order.Order.TheVariants.{Nothing}
use Rattle.step_core.proofs.Theorem.OpeningStands.{length-opening}
use Rattle.heap_machines.specs.Shown.{shown, order_of}
use Rattle.std.proofs.lemmas.List.Elements.{All-map}
use Rattle.shen_core.proofs.Memory.{shows_opening, shown_by_none, machines_count}
use Rattle.shen_core.proofs.plain.Plain.open.Goals as goal

pub of-requires-clause-words : goal.of-requires-clause-words
of-requires-clause-words c = ap length c.in_ok-words.ensures ∙ length-opening c.args.config

pub of-requires-clause-machines : goal.of-requires-clause-machines
of-requires-clause-machines c = machines_count c.args.config c.in_ok-machines.machines.items c.in_ok-machines.ensures.machines

pub of-requires-clause-reached : goal.of-requires-clause-reached
of-requires-clause-reached c =
    ∣ shown_by_none c.args.config _ _ (shows_opening c.args.config c.in_ok-words.words.items c.in_ok-machines.machines.items c.in_ok-words.ensures c.in_ok-machines.ensures.machines) ∣₁

pub returns-clause-opening : goal.returns-clause-opening
returns-clause-opening c =
    opened_shows c.of.result c.in_ok-words.words.items (map shown c.in_ok-machines.machines.items) (opening c.args.config) c.of.ensures.words c.of.ensures.machines
    (shows_opening c.args.config c.in_ok-words.words.items c.in_ok-machines.machines.items c.in_ok-words.ensures c.in_ok-machines.ensures.machines)

pub returns-clause-orders : goal.returns-clause-orders
returns-clause-orders c = opened_orders c.of.result (map order_of c.in_ok-machines.machines.items) c.of.ensures.orders (All-map (λ order. order ≡ Nothing) order_of c.in_ok-machines.machines.items c.in_ok-machines.ensures.orders)
