use Rattle.std.proofs.Common.{◌≡◌, ℕ, true, List, map, Option, Some, sym, ap, ◌∙◌, arith}
use Rattle.std.specs.Prelude.{slice_get}
use Rattle.std.proofs.lemmas.Bool.{ltb-true}
use Rattle.heap_words.specs.Words.{view}
use Rattle.shen_graph.specs.declared.command.Reply.{Reply}
use Rattle.heap_machines.specs.declared.machine.Machine.{Machine}
use Rattle.heap_machines.specs.Shown.{shown, config_of}
use Rattle.heap_machines.specs.Settles.{reply_settled, refused_by}
use Rattle.step_core.specs.Machines.{takes_of, is_mutating, is_resting}
use Rattle.shen_core.specs.declared.plain.Plain.{Plain}
use Rattle.shen_core.specs.State.{has_turn, order_at}
use Rattle.shen_core.specs.Noting.{entries_in}
use Rattle.shen_core.proofs.Memory.{from_read, shown_here, heap_here, machine_here}
use Rattle.shen_core.proofs.Settles.{sees_reply, sees_nothing, sees_refusal, waiting, IsWaiting}
use Rattle.shen_core.proofs.plain.Plain.settles.Goals as goal

-- the machine takes its order
takes_now : (plain : Plain) (number : ℕ) (machine : Machine) → slice_get plain.machines.items number ≡ Some machine → has_turn plain number ≡ true → takes_of (shown machine) (order_at plain number) ≡ true
takes_now plain number machine machine_there turn = ap (λ asked_machine. takes_of asked_machine (order_at plain number)) (sym (machine_here plain.machines.items number machine machine_there)) ∙ turn

-- what it settles, by the words of the heap
settled_now : (plain : Plain) (number : ℕ) (machine : Machine) (words : List ℕ) (found : Option Reply) → slice_get plain.machines.items number ≡ Some machine → words ≡ plain.words.items → found ≡ reply_settled (view (config_of machine) words) (shown machine) → reply_settled (view plain.config plain.words.items) (shown machine) ≡ found
settled_now plain number machine words found machine_there read same_reply =
    sym (same_reply ∙ ap (λ table. reply_settled (view (config_of machine) table) (shown machine)) read ∙ ap (λ asked_config. reply_settled (view asked_config plain.words.items) (shown machine)) (heap_here plain.config plain.machines.items number machine plain.one_heap machine_there))

-- the mutator that it refuses
refused_now : (plain : Plain) (number mutator : ℕ) (machine : Machine) (words : List ℕ) → slice_get plain.machines.items number ≡ Some machine → has_turn plain number ≡ true → words ≡ plain.words.items → Some mutator ≡ refused_by plain.config words (shown machine)
    → IsWaiting plain.config plain.words.items (map shown plain.machines.items) number (order_at plain number) mutator
refused_now plain number mutator machine words machine_there turn read same_refused =
    waiting plain.config plain.words.items (map shown plain.machines.items) number (order_at plain number) (shown machine) mutator (shown_here plain.machines.items number machine machine_there) (takes_now plain number machine machine_there turn)
    (sym (same_refused ∙ ap (λ table. refused_by plain.config table (shown machine)) read)) plain.reached

pub returns-in-Some : goal.returns-in-Some
returns-in-Some c =
    let plain = c.args.self.now in
    let machine = c.index-machine.result.now in
    let machine_there = from_read plain.machines.items c.args.number machine (omega (arith, plain.all_machines, c.requires.number)) c.index-machine.ensures in
    sees_reply plain.config plain.words.items (map shown plain.machines.items) c.args.number (order_at plain c.args.number) (shown machine) c.command.result c.in-Some.reply
    (shown_here plain.machines.items c.args.number machine machine_there) (takes_now plain c.args.number machine machine_there c.requires.turn)
    (settled_now plain c.args.number machine c.deref.result.now c.settles.result machine_there c.deref.ensures.value c.settles.ensures ∙ c.in-Some.is) c.command.ensures

pub returns-in_err-mutator : goal.returns-in_err-mutator
returns-in_err-mutator c s shows ends =
    let plain = c.args.self.now in
    let machine = c.index-machine.result.now in
    let machine_there = from_read plain.machines.items c.args.number machine (omega (arith, plain.all_machines, c.requires.number)) c.index-machine.ensures in
    sees_nothing plain.config plain.words.items (map shown plain.machines.items) c.args.number (order_at plain c.args.number) (shown machine)
    (shown_here plain.machines.items c.args.number machine machine_there) (takes_now plain c.args.number machine machine_there c.requires.turn)
    (settled_now plain c.args.number machine c.deref.result.now c.settles.result machine_there c.deref.ensures.value c.settles.ensures ∙ c.in_default.is)
    (sym (c.refuses.ensures ∙ ap (λ words. refused_by plain.config words (shown machine)) c.deref-2.ensures.value) ∙ c.in_err-mutator.was)
    s shows ends
    ∙ ap entries_in (sym c.from_residual.ensures)

pub index-requires : goal.index-requires
index-requires c =
    let plain = c.args.self.now in
    let machine = c.index-machine.result.now in
    let machine_there = from_read plain.machines.items c.args.number machine (omega (arith, plain.all_machines, c.requires.number)) c.index-machine.ensures in
    let mutator_below = ltb-true c.in_ok-mutator.mutator plain.config.mutators (refused_now plain c.args.number c.in_ok-mutator.mutator machine c.deref-2.result.now machine_there c.requires.turn c.deref-2.ensures.value (sym c.in_ok-mutator.was ∙ c.refuses.ensures)).is_mutator in
    omega (arith, plain.all_machines, mutator_below)

pub overflow_cast-result-2 : goal.overflow_cast-result-2
overflow_cast-result-2 c =
    let plain = c.args.self.now in
    let machine = c.index-machine.result.now in
    let machine_there = from_read plain.machines.items c.args.number machine (omega (arith, plain.all_machines, c.requires.number)) c.index-machine.ensures in
    let mutator_below = ltb-true c.in_ok-mutator.mutator plain.config.mutators (refused_now plain c.args.number c.in_ok-mutator.mutator machine c.deref-2.result.now machine_there c.requires.turn c.deref-2.ensures.value (sym c.in_ok-mutator.was ∙ c.refuses.ensures)).is_mutator in
    omega (arith, mutator_below)

pub overflow_add-result-2 : goal.overflow_add-result-2
overflow_add-result-2 c =
    let plain = c.args.self.now in
    let machine = c.index-machine.result.now in
    let machine_there = from_read plain.machines.items c.args.number machine (omega (arith, plain.all_machines, c.requires.number)) c.index-machine.ensures in
    let mutator_below = ltb-true c.in_ok-mutator.mutator plain.config.mutators (refused_now plain c.args.number c.in_ok-mutator.mutator machine c.deref-2.result.now machine_there c.requires.turn c.deref-2.ensures.value (sym c.in_ok-mutator.was ∙ c.refuses.ensures)).is_mutator in
    omega (arith, mutator_below)

pub command-requires-2-clause-mutator : goal.command-requires-2-clause-mutator
command-requires-2-clause-mutator c =
    let plain = c.args.self.now in
    let machine = c.index-machine.result.now in
    let mutator = c.in_ok-mutator.mutator in
    let machine_there = from_read plain.machines.items c.args.number machine (omega (arith, plain.all_machines, c.requires.number)) c.index-machine.ensures in
    let waits = refused_now plain c.args.number mutator machine c.deref-2.result.now machine_there c.requires.turn c.deref-2.ensures.value (sym c.in_ok-mutator.was ∙ c.refuses.ensures) in
    let mutator_below = ltb-true mutator plain.config.mutators waits.is_mutator in
    let mutator_there = from_read plain.machines.items mutator c.index.result.now (omega (arith, plain.all_machines, mutator_below)) c.index.ensures in
    ap is_mutating (sym (machine_here plain.machines.items mutator c.index.result.now mutator_there)) ∙ waits.role

pub command-requires-2-clause-busy : goal.command-requires-2-clause-busy
command-requires-2-clause-busy c =
    let plain = c.args.self.now in
    let machine = c.index-machine.result.now in
    let mutator = c.in_ok-mutator.mutator in
    let machine_there = from_read plain.machines.items c.args.number machine (omega (arith, plain.all_machines, c.requires.number)) c.index-machine.ensures in
    let waits = refused_now plain c.args.number mutator machine c.deref-2.result.now machine_there c.requires.turn c.deref-2.ensures.value (sym c.in_ok-mutator.was ∙ c.refuses.ensures) in
    let mutator_below = ltb-true mutator plain.config.mutators waits.is_mutator in
    let mutator_there = from_read plain.machines.items mutator c.index.result.now (omega (arith, plain.all_machines, mutator_below)) c.index.ensures in
    ap is_resting (sym (machine_here plain.machines.items mutator c.index.result.now mutator_there)) ∙ waits.busy

pub returns : goal.returns
returns c =
    let plain = c.args.self.now in
    let machine = c.index-machine.result.now in
    let mutator = c.in_ok-mutator.mutator in
    let machine_there = from_read plain.machines.items c.args.number machine (omega (arith, plain.all_machines, c.requires.number)) c.index-machine.ensures in
    let waits = refused_now plain c.args.number mutator machine c.deref-2.result.now machine_there c.requires.turn c.deref-2.ensures.value (sym c.in_ok-mutator.was ∙ c.refuses.ensures) in
    let mutator_below = ltb-true mutator plain.config.mutators waits.is_mutator in
    let mutator_there = from_read plain.machines.items mutator c.index.result.now (omega (arith, plain.all_machines, mutator_below)) c.index.ensures in
    sees_refusal plain.config plain.words.items (map shown plain.machines.items) c.args.number (order_at plain c.args.number) (shown machine) (shown c.index.result.now) mutator c.command-2.result
    (shown_here plain.machines.items c.args.number machine machine_there) (takes_now plain c.args.number machine machine_there c.requires.turn)
    (sym (c.refuses.ensures ∙ ap (λ words. refused_by plain.config words (shown machine)) c.deref-2.ensures.value) ∙ c.in_ok-mutator.was)
    (shown_here plain.machines.items mutator c.index.result.now mutator_there) c.command-2.ensures
