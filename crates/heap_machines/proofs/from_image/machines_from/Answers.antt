use Rattle.std.proofs.Common.{◌≡◌, ◌+◌, ap, sym, ◌∙◌, map, All, subst, arith}
use Rattle.std.specs.List.{range_with_len}
use Rattle.std.proofs.lemmas.List.Elements.{All-push}
use Rattle.shen_graph.specs.declared.order.Order.TheVariants.{Nothing}
use Rattle.shen_graph.specs.Order.{hinting}
use Rattle.image_graph.specs.State.{config_of, memory_of}
use Rattle.step_core.specs.Actor.{controlling}
use Rattle.heap_machines.specs.Shown.{shown, order_of, config_of as machine_config}
use Rattle.heap_machines.specs.FromImage.{machine_from}
use Rattle.heap_machines.proofs.FromImages.{machines_more, control_is}
use Rattle.heap_machines.proofs.from_image.machines_from.Goals as goal

pub loop-number-preserved : goal.loop-number-preserved
loop-number-preserved c =
    let heap = config_of c.args.image in
    let memory = memory_of c.args.image in
    let grown = c.in-Ok.ensures.items in
    record {
      machines = ap (map shown) grown
          ∙ machines_more heap c.args.counts.now memory c.loop-number.machines.items c.machine_at-machine.result c.loop-number.number c.loop-number.invariant.machines
          (subst (λ asked_config. shown c.machine_at-machine.result ≡ machine_from asked_config c.args.counts.now memory c.loop-number.number) c.config-config.ensures (c.machine_at-machine.ensures.shown memory));
      heap = subst (λ xs. All (λ machine. machine_config machine ≡ heap) xs) (sym grown)
          (All-push (λ machine. machine_config machine ≡ heap) c.loop-number.machines.items c.machine_at-machine.result c.loop-number.invariant.heap (c.machine_at-machine.ensures.heap ∙ c.config-config.ensures));
      orders = subst (λ xs. All (λ machine. order_of machine ≡ Nothing) xs) (sym grown)
          (All-push (λ machine. order_of machine ≡ Nothing) c.loop-number.machines.items c.machine_at-machine.result c.loop-number.invariant.orders c.machine_at-machine.ensures.order);
    }

pub returns-clause-machines : goal.returns-clause-machines
returns-clause-machines c =
    let heap = config_of c.args.image in
    let memory = memory_of c.args.image in
    let same_mutators : c.config-config.result.mutators ≡ heap.mutators = ap (λ asked_config. asked_config.mutators) c.config-config.ensures in
    let then_on : c.config-config.result.helpers ≡ heap.helpers = ap (λ asked_config. asked_config.helpers) c.config-config.ensures in
    let at_end : c.loop-number.number ≡ heap.mutators + heap.helpers = omega (arith, c.mutators.ensures, c.helpers.ensures, c.loop-number-test.false, same_mutators, then_on) in
    ap (map shown) c.in-Ok-push.ensures.items
    ∙ machines_more heap c.args.counts.now memory c.loop-number.machines.items _ c.loop-number.number c.loop-number.invariant.machines (ap controlling c.new.ensures.seen ∙ control_is heap c.args.counts.now memory c.loop-number.number at_end)
    ∙ ap (λ count. map (machine_from heap c.args.counts.now memory) (range_with_len 0 count)) (omega (arith, at_end))

pub returns-clause-heap : goal.returns-clause-heap
returns-clause-heap c =
    subst (λ xs. All (λ machine. machine_config machine ≡ config_of c.args.image) xs) (sym c.in-Ok-push.ensures.items)
    (All-push (λ machine. machine_config machine ≡ config_of c.args.image) c.loop-number.machines.items _ c.loop-number.invariant.heap c.new.ensures.config)

pub returns-clause-orders : goal.returns-clause-orders
returns-clause-orders c =
    subst (λ xs. All (λ machine. order_of machine ≡ Nothing) xs) (sym c.in-Ok-push.ensures.items)
    (All-push (λ machine. order_of machine ≡ Nothing) c.loop-number.machines.items _ c.loop-number.invariant.orders (ap hinting c.new.ensures.hint))
