use Rattle.std.proofs.Common.{◌≡◌, false, sym, ap, ◌∙◌, subst}
use Rattle.heap_words.specs.Place.{same_place}
use Rattle.shen_graph.specs.declared.order.Order.TheVariants.{Nothing}
use Rattle.mutator.specs.Seen.{seen, order_of}
use Rattle.mutator.specs.Orders.{is_between_calls}
use Rattle.mutator.specs.Rows.{place_at}
use Rattle.step_core.specs.Machines.{is_machine_at}
use Rattle.heap_machines.specs.declared.machine.Machine.{Machine}
use Rattle.heap_machines.specs.Shown as machines
use Rattle.heap_machines.specs.Turn.{order_for}
use Rattle.heap_machines.proofs.Turns.{stands_in_call, busy_without_order}
use Rattle.heap_machines.proofs.machine.Machine.is_at_place.Goals as goal

pub returns-then-not-is_idle : goal.returns-then-not-is_idle
returns-then-not-is_idle c =
    let mutator = c.in-Mutator-2.mutator in
    let place = c.args.place in
    let no_order : order_of mutator ≡ Nothing = subst (λ (machine : Machine). machines.order_of machine ≡ Nothing) c.in-Mutator-2.is c.requires in
    let spot_busy : is_between_calls mutator.spot ≡ false = busy_without_order (is_between_calls mutator.spot) (order_of mutator) no_order (sym c.is_idle.ensures.idle ∙ c.if-not-is_idle.true) in
    subst (λ (machine : Machine). c.is-then-not-is_idle.result ≡ is_machine_at place (machines.shown machine) (order_for c.args.next (machines.shown machine))) (sym c.in-Mutator-2.is)
    (c.is-then-not-is_idle.ensures.test ∙ ap (λ asked_place. same_place asked_place place) (c.place.ensures ∙ ap (λ order. place_at order mutator.spot) no_order) ∙ sym (stands_in_call (seen mutator) c.args.next place spot_busy))
