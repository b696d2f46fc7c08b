use Rattle.std.proofs.Common.{◌≡◌, not, length, map, All, refl, sym, ap, ◌∙◌, subst, arith}
use Rattle.std.specs.Prelude.{slice_index}
use Rattle.std.proofs.lemmas.Bool.{false≢true}
use Rattle.std.proofs.lemmas.List.{length-set}
use Rattle.std.proofs.Math.Logic.{∥∥₁_map}
use Rattle.heap_words.specs.Access.{table_index}
use Rattle.heap_words.specs.Words.{table_words}
use Rattle.heap_machines.specs.Shown.{shown, order_of, config_of}
use Rattle.step_core.specs.Machines.{plan_of, reply_in, IsFitFor}
use Rattle.shen_core.specs.Runs.{IsShownBySomeRun}
use Rattle.shen_core.proofs.Memory.{from_read, put_back, shown_here, heap_here, machine_now, made_from, made_step, made_shown, made_heap, made_orders, made_machines, turn_here, never_idle, done_only, says_here, done_here, again_here}
use Rattle.shen_core.proofs.Turns.{fit_shown}
use Rattle.shen_core.proofs.plain.Plain.step.Goals as goal

pub step-requires-clause-fit : goal.step-requires-clause-fit
step-requires-clause-fit c =
    let plain = c.args.self.now in
    let machine = c.index_mut-machine.result.now in
    let machine_there = from_read plain.machines.items c.args.number machine (omega (arith, plain.all_machines, c.requires)) c.index_mut-machine.ensures.value in
    let heap = heap_here plain.config plain.machines.items c.args.number machine plain.one_heap machine_there in
    subst (λ config. IsFitFor config (order_of machine) (slice_index plain.words.items (table_index (plan_of config (order_of machine) (shown machine)))) (shown machine)) (sym heap)
    (fit_shown plain.config plain.words.items _ c.args.number (shown machine) (order_of machine) plain.reached (shown_here plain.machines.items c.args.number machine machine_there) (c.is_idle.ensures ∙ ap not c.if-is_idle.false))

pub step-requires-clause-words : goal.step-requires-clause-words
step-requires-clause-words c =
    let plain = c.args.self.now in
    let machine = c.index_mut-machine.result.now in
    let machine_there = from_read plain.machines.items c.args.number machine (omega (arith, plain.all_machines, c.requires)) c.index_mut-machine.ensures.value in
    plain.words.ok.0 ∙ plain.all_words ∙ ap table_words (sym (heap_here plain.config plain.machines.items c.args.number machine plain.one_heap machine_there))

pub invariant_of-self-2 : goal.invariant_of-self-2
invariant_of-self-2 c =
    let plain = c.args.self.now in
    let machine = c.index_mut-machine.result.now in
    let next_machine = c.step.new.self in
    let made = made_from plain.config plain.words.items c.step.new.words.items plain.machines.items c.args.number machine next_machine _ _
    (omega (arith, plain.all_machines, c.requires)) c.index_mut-machine.ensures.value plain.one_heap (c.is_idle.ensures ∙ ap not c.if-is_idle.false) refl
    c.step.ensures.words refl c.step.ensures.shown in
    record {
      all_words = ap length c.step.ensures.words ∙ length-set plain.words.items _ _ ∙ plain.all_words;
      all_machines = length-set plain.machines.items _ _ ∙ plain.all_machines;
      one_heap = made_heap _ _ _ _ _ _ _ made c.step.ensures.heap plain.one_heap;
      reached = ∥∥₁_map plain.reached (made_shown _ _ _ _ _ _ _ made);
    }

pub returns-clause-event : goal.returns-clause-event
returns-clause-event c = λ turn.
    let plain = c.args.self.now in
    let machine = c.index_mut-machine.result.now in
    let next_machine = c.step.new.self in
    made_step _ _ _ _ _ _ _
    (made_from plain.config plain.words.items c.step.new.words.items plain.machines.items c.args.number machine next_machine _ _
    (omega (arith, plain.all_machines, c.requires)) c.index_mut-machine.ensures.value plain.one_heap (c.is_idle.ensures ∙ ap not c.if-is_idle.false) refl
    c.step.ensures.words refl c.step.ensures.shown)

pub returns-clause-orders : goal.returns-clause-orders
returns-clause-orders c = λ turn.
    let plain = c.args.self.now in
    let machine = c.index_mut-machine.result.now in
    let next_machine = c.step.new.self in
    made_orders _ _ _ _ _ _ _
    (made_from plain.config plain.words.items c.step.new.words.items plain.machines.items c.args.number machine next_machine _ _
    (omega (arith, plain.all_machines, c.requires)) c.index_mut-machine.ensures.value plain.one_heap (c.is_idle.ensures ∙ ap not c.if-is_idle.false) refl
    c.step.ensures.words refl c.step.ensures.shown)
    c.step.ensures.order

pub returns-clause-machines : goal.returns-clause-machines
returns-clause-machines c = λ turn.
    let plain = c.args.self.now in
    let machine = c.index_mut-machine.result.now in
    let next_machine = c.step.new.self in
    made_machines _ _ _ _ _ _ _
    (made_from plain.config plain.words.items c.step.new.words.items plain.machines.items c.args.number machine next_machine _ _
    (omega (arith, plain.all_machines, c.requires)) c.index_mut-machine.ensures.value plain.one_heap (c.is_idle.ensures ∙ ap not c.if-is_idle.false) refl
    c.step.ensures.words refl c.step.ensures.shown)

pub returns-clause-replied : goal.returns-clause-replied
returns-clause-replied c = λ is_done no_turn.
    let plain = c.args.self.now in
    let machine = c.index_mut-machine.result.now in
    let machine_there = from_read plain.machines.items c.args.number machine (omega (arith, plain.all_machines, c.requires)) c.index_mut-machine.ensures.value in
    c.step.ensures.replied (done_only c.step.result (sym c.of.ensures ∙ is_done)) (sym (ap reply_in (machine_now plain.machines.items c.args.number machine c.step.new.self machine_there)) ∙ no_turn)

pub index_mut-machine-requires : goal.index_mut-machine-requires
index_mut-machine-requires c =
    let plain = c.args.self.now in
    omega (arith, plain.all_machines, c.requires)

pub invariant_of-self : goal.invariant_of-self
invariant_of-self c =
    let plain = c.args.self.now in
    let machine = c.index_mut-machine.result.now in
    let same_machines = put_back plain.machines.items c.args.number machine c.index_mut-machine.ensures.value in
    record {
      all_words = plain.all_words;
      all_machines = length-set plain.machines.items _ _ ∙ plain.all_machines;
      one_heap = subst (λ given_machines. All (λ x. config_of x ≡ plain.config) given_machines) (sym same_machines) plain.one_heap;
      reached = subst (λ given_machines. ∥ IsShownBySomeRun plain.config plain.words.items (map shown given_machines) ∥₁) (sym same_machines) plain.reached;
    }

pub returns-then-is_idle-clause-idle : goal.returns-then-is_idle-clause-idle
returns-then-is_idle-clause-idle c =
    let plain = c.args.self.now in
    let machine = c.index_mut-machine.result.now in
    let machine_there = from_read plain.machines.items c.args.number machine (omega (arith, plain.all_machines, c.requires)) c.index_mut-machine.ensures.value in
    let no_turn = turn_here plain.machines.items c.args.number machine machine_there ∙ c.is_idle.ensures ∙ ap not c.if-is_idle.true in
    (λ _. no_turn, λ _. refl)

pub returns-then-is_idle-clause-unchanged : goal.returns-then-is_idle-clause-unchanged
returns-then-is_idle-clause-unchanged c = λ no_turn.
    let same_machines = put_back c.args.self.now.machines.items c.args.number c.index_mut-machine.result.now c.index_mut-machine.ensures.value in
    record { config = refl; words = refl; machines = ap (map shown) same_machines; orders = ap (map order_of) same_machines; notes = refl }

pub returns-then-is_idle-clause-event : goal.returns-then-is_idle-clause-event
returns-then-is_idle-clause-event c =
    λ turn.
    let plain = c.args.self.now in
    let machine = c.index_mut-machine.result.now in
    let machine_there = from_read plain.machines.items c.args.number machine (omega (arith, plain.all_machines, c.requires)) c.index_mut-machine.ensures.value in
    let no_turn = turn_here plain.machines.items c.args.number machine machine_there ∙ c.is_idle.ensures ∙ ap not c.if-is_idle.true in
    absurd (false≢true (sym no_turn ∙ turn))

pub returns-then-is_idle-clause-says : goal.returns-then-is_idle-clause-says
returns-then-is_idle-clause-says c =
    λ turn.
    let plain = c.args.self.now in
    let machine = c.index_mut-machine.result.now in
    let machine_there = from_read plain.machines.items c.args.number machine (omega (arith, plain.all_machines, c.requires)) c.index_mut-machine.ensures.value in
    let no_turn = turn_here plain.machines.items c.args.number machine machine_there ∙ c.is_idle.ensures ∙ ap not c.if-is_idle.true in
    absurd (false≢true (sym no_turn ∙ turn))

pub returns-then-is_idle-clause-machines : goal.returns-then-is_idle-clause-machines
returns-then-is_idle-clause-machines c =
    λ turn.
    let plain = c.args.self.now in
    let machine = c.index_mut-machine.result.now in
    let machine_there = from_read plain.machines.items c.args.number machine (omega (arith, plain.all_machines, c.requires)) c.index_mut-machine.ensures.value in
    let no_turn = turn_here plain.machines.items c.args.number machine machine_there ∙ c.is_idle.ensures ∙ ap not c.if-is_idle.true in
    absurd (false≢true (sym no_turn ∙ turn))

pub returns-then-is_idle-clause-orders : goal.returns-then-is_idle-clause-orders
returns-then-is_idle-clause-orders c =
    λ turn.
    let plain = c.args.self.now in
    let machine = c.index_mut-machine.result.now in
    let machine_there = from_read plain.machines.items c.args.number machine (omega (arith, plain.all_machines, c.requires)) c.index_mut-machine.ensures.value in
    let no_turn = turn_here plain.machines.items c.args.number machine machine_there ∙ c.is_idle.ensures ∙ ap not c.if-is_idle.true in
    absurd (false≢true (sym no_turn ∙ turn))

pub returns-then-is_idle-clause-config : goal.returns-then-is_idle-clause-config
returns-then-is_idle-clause-config c =
    refl

pub returns-then-is_idle-clause-done : goal.returns-then-is_idle-clause-done
returns-then-is_idle-clause-done c =
    let plain = c.args.self.now in
    let machine = c.index_mut-machine.result.now in
    let machine_there = from_read plain.machines.items c.args.number machine (omega (arith, plain.all_machines, c.requires)) c.index_mut-machine.ensures.value in
    let no_turn = turn_here plain.machines.items c.args.number machine machine_there ∙ c.is_idle.ensures ∙ ap not c.if-is_idle.true in
    (λ impossible. absurd cc, λ all. absurd (false≢true (sym no_turn ∙ all.0)))

pub returns-then-is_idle-clause-replied : goal.returns-then-is_idle-clause-replied
returns-then-is_idle-clause-replied c =
    λ impossible. absurd cc

pub returns-then-is_idle-clause-again : goal.returns-then-is_idle-clause-again
returns-then-is_idle-clause-again c =
    let plain = c.args.self.now in
    let machine = c.index_mut-machine.result.now in
    let machine_there = from_read plain.machines.items c.args.number machine (omega (arith, plain.all_machines, c.requires)) c.index_mut-machine.ensures.value in
    let no_turn = turn_here plain.machines.items c.args.number machine machine_there ∙ c.is_idle.ensures ∙ ap not c.if-is_idle.true in
    (λ impossible. absurd cc, λ all. absurd (false≢true (sym no_turn ∙ all.0)))

pub step-requires-clause-busy : goal.step-requires-clause-busy
step-requires-clause-busy c =
    c.is_idle.ensures ∙ ap not c.if-is_idle.false

pub returns-clause-idle : goal.returns-clause-idle
returns-clause-idle c =
    let plain = c.args.self.now in
    let machine = c.index_mut-machine.result.now in
    let machine_there = from_read plain.machines.items c.args.number machine (omega (arith, plain.all_machines, c.requires)) c.index_mut-machine.ensures.value in
    let turn = turn_here plain.machines.items c.args.number machine machine_there ∙ c.is_idle.ensures ∙ ap not c.if-is_idle.false in
    (λ idle_said. absurd (never_idle c.step.result (sym c.of.ensures ∙ idle_said)), λ no_turn. absurd (false≢true (sym no_turn ∙ turn)))

pub returns-clause-unchanged : goal.returns-clause-unchanged
returns-clause-unchanged c =
    λ no_turn.
    let plain = c.args.self.now in
    let machine = c.index_mut-machine.result.now in
    let machine_there = from_read plain.machines.items c.args.number machine (omega (arith, plain.all_machines, c.requires)) c.index_mut-machine.ensures.value in
    let turn = turn_here plain.machines.items c.args.number machine machine_there ∙ c.is_idle.ensures ∙ ap not c.if-is_idle.false in
    absurd (false≢true (sym no_turn ∙ turn))

pub returns-clause-says : goal.returns-clause-says
returns-clause-says c =
    λ turn.
    let plain = c.args.self.now in
    let machine = c.index_mut-machine.result.now in
    let machine_there = from_read plain.machines.items c.args.number machine (omega (arith, plain.all_machines, c.requires)) c.index_mut-machine.ensures.value in
    let heap = heap_here plain.config plain.machines.items c.args.number machine plain.one_heap machine_there in
    says_here plain.config plain.words.items plain.machines.items c.args.number machine _ _ c.step.result c.of.result machine_there heap (c.is_idle.ensures ∙ ap not c.if-is_idle.false) refl
    refl c.of.ensures c.step.ensures.answer

pub returns-clause-config : goal.returns-clause-config
returns-clause-config c =
    refl

pub returns-clause-done : goal.returns-clause-done
returns-clause-done c =
    let plain = c.args.self.now in
    let machine = c.index_mut-machine.result.now in
    let machine_there = from_read plain.machines.items c.args.number machine (omega (arith, plain.all_machines, c.requires)) c.index_mut-machine.ensures.value in
    let heap = heap_here plain.config plain.machines.items c.args.number machine plain.one_heap machine_there in
    done_here plain.config plain.words.items plain.machines.items c.args.number machine _ _ c.step.result c.of.result machine_there heap (c.is_idle.ensures ∙ ap not c.if-is_idle.false) refl
    refl c.of.ensures c.step.ensures.done

pub returns-clause-again : goal.returns-clause-again
returns-clause-again c =
    let plain = c.args.self.now in
    let machine = c.index_mut-machine.result.now in
    let machine_there = from_read plain.machines.items c.args.number machine (omega (arith, plain.all_machines, c.requires)) c.index_mut-machine.ensures.value in
    let heap = heap_here plain.config plain.machines.items c.args.number machine plain.one_heap machine_there in
    again_here plain.config plain.words.items plain.machines.items c.args.number machine _ _ c.step.result c.of.result machine_there heap (c.is_idle.ensures ∙ ap not c.if-is_idle.false) refl
    refl c.of.ensures c.step.ensures.again
