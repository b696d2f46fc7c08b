use Rattle.shen_graph.specs.declared.order.Order.TheVariants.{Begin}
use Rattle.shen_graph.specs.Valid.{most_objects}
use Rattle.std.proofs.Common.{sym, ap, ◌∙◌, subst, arith, ◌<◌, refl}
use Rattle.std.proofs.lemmas.List.{length-set}
use Rattle.std.proofs.Math.Logic.{∥∥₁_map}
use Rattle.step_core.specs.Machines.{may_begin, made_of_machine, takes_of}
use Rattle.shen_core.specs.Runs.{IsShownBySomeRun}
use Rattle.shen_core.proofs.Memory.{from_read, machine_here, ordered_machines, ordered_orders, ordered_heap}
use Rattle.shen_core.proofs.plain.Plain.begin.Goals as goal

pub begin-requires-clause-rest : goal.begin-requires-clause-rest
begin-requires-clause-rest c =
    let machine_there = from_read c.args.self.now.machines.items c.args.number c.index_mut.result.now (omega (arith, c.args.self.now.all_machines, c.requires.number)) c.index_mut.ensures.value in
    ap may_begin (sym (machine_here c.args.self.now.machines.items c.args.number c.index_mut.result.now machine_there)) ∙ c.requires.rest

pub invariant_of-self : goal.invariant_of-self
invariant_of-self c =
    let plain = c.args.self.now in
    let machine_there = from_read plain.machines.items c.args.number c.index_mut.result.now (omega (arith, plain.all_machines, c.requires.number)) c.index_mut.ensures.value in
    record {
      all_words = plain.all_words;
      all_machines = length-set plain.machines.items _ _ ∙ plain.all_machines;
      one_heap = ordered_heap plain.config plain.machines.items c.args.number c.index_mut.result.now c.begin.new.self machine_there c.begin.ensures.heap plain.one_heap;
      reached = ∥∥₁_map plain.reached (subst (λ machines. IsShownBySomeRun plain.config plain.words.items machines)
          (sym (ordered_machines plain.machines.items c.args.number c.index_mut.result.now c.begin.new.self machine_there c.begin.ensures.shown)));
    }

pub returns-clause-order : goal.returns-clause-order
returns-clause-order c = ordered_orders c.args.self.now.machines.items c.args.number c.begin.new.self _ c.begin.ensures.order

pub returns-clause-machines : goal.returns-clause-machines
returns-clause-machines c =
    let machine_there = from_read c.args.self.now.machines.items c.args.number c.index_mut.result.now (omega (arith, c.args.self.now.all_machines, c.requires.number)) c.index_mut.ensures.value in
    ordered_machines c.args.self.now.machines.items c.args.number c.index_mut.result.now c.begin.new.self machine_there c.begin.ensures.shown

pub index_mut-requires : goal.index_mut-requires
index_mut-requires c =
    let plain = c.args.self.now in
    omega (arith, plain.all_machines, c.requires.number)

pub begin-requires-clause-valid : goal.begin-requires-clause-valid
begin-requires-clause-valid c = c.requires.valid

pub begin-requires-clause-made : goal.begin-requires-clause-made
begin-requires-clause-made c =
    let machine_there = from_read c.args.self.now.machines.items c.args.number c.index_mut.result.now (omega (arith, c.args.self.now.all_machines, c.requires.number)) c.index_mut.ensures.value in
    subst (λ made_count. made_count < most_objects) (ap made_of_machine (machine_here c.args.self.now.machines.items c.args.number c.index_mut.result.now machine_there)) c.requires.made

pub returns-clause-takes : goal.returns-clause-takes
returns-clause-takes c =
    let machine_there = from_read c.args.self.now.machines.items c.args.number c.index_mut.result.now (omega (arith, c.args.self.now.all_machines, c.requires.number)) c.index_mut.ensures.value in
    ap (λ machine. takes_of machine (Begin c.args.command)) (machine_here c.args.self.now.machines.items c.args.number c.index_mut.result.now machine_there) ∙ c.begin.ensures.takes

pub returns-clause-words : goal.returns-clause-words
returns-clause-words c = refl

pub returns-clause-config : goal.returns-clause-config
returns-clause-config c = refl
