-- Each form of access is one case of one lemma.
use Rattle.std.proofs.Common.{inl, inr}
use Rattle.heap_words.specs.declared.access.Access.TheVariants.{Load, Store, Swap, Add, Sub, And, Or, Exchange}
use Rattle.shared_table.proofs.Rules.{can_step, step_told}
use Rattle.shared_table.proofs.steps.make_step.Goals as goal

pub load-requires : goal.load-requires
load-requires g c =
    let step = can_step g.M.Machines.kind g.M.Machines.opening c.args.table.now.key c.args.seat.now.id c.args.number c.args.seat.now.me c.args.order.now c.args.table.now.table_id.slots c.args.table.now.table_id.words
    g.G.Turn.key g.G.Turn.number g.G.Turn.order c.args.access (Load c.in-Load.at) c.requires.turn c.requires.machine c.requires.inside c.in-Load.is in
    (c.requires.table, step.0, step.1)

pub swap-requires : goal.swap-requires
swap-requires g c =
    elim c.in-Store.is [
      | inl is_store ↦
          let step = can_step g.M.Machines.kind g.M.Machines.opening c.args.table.now.key c.args.seat.now.id c.args.number c.args.seat.now.me c.args.order.now c.args.table.now.table_id.slots c.args.table.now.table_id.words
          g.G.Turn.key g.G.Turn.number g.G.Turn.order c.args.access (Store c.in-Store.at c.in-Store.value) c.requires.turn c.requires.machine c.requires.inside is_store in
          (c.requires.table, step.0, step.1)
      | inr is_store ↦
          let step = can_step g.M.Machines.kind g.M.Machines.opening c.args.table.now.key c.args.seat.now.id c.args.number c.args.seat.now.me c.args.order.now c.args.table.now.table_id.slots c.args.table.now.table_id.words
          g.G.Turn.key g.G.Turn.number g.G.Turn.order c.args.access (Swap c.in-Store.at c.in-Store.value) c.requires.turn c.requires.machine c.requires.inside is_store in
          (c.requires.table, step.0, step.1)
    ]

pub fetch_add-requires : goal.fetch_add-requires
fetch_add-requires g c =
    let step = can_step g.M.Machines.kind g.M.Machines.opening c.args.table.now.key c.args.seat.now.id c.args.number c.args.seat.now.me c.args.order.now c.args.table.now.table_id.slots c.args.table.now.table_id.words
    g.G.Turn.key g.G.Turn.number g.G.Turn.order c.args.access (Add c.in-Add.at c.in-Add.value) c.requires.turn c.requires.machine c.requires.inside c.in-Add.is in
    (c.requires.table, step.0, step.1)

pub fetch_sub-requires : goal.fetch_sub-requires
fetch_sub-requires g c =
    let step = can_step g.M.Machines.kind g.M.Machines.opening c.args.table.now.key c.args.seat.now.id c.args.number c.args.seat.now.me c.args.order.now c.args.table.now.table_id.slots c.args.table.now.table_id.words
    g.G.Turn.key g.G.Turn.number g.G.Turn.order c.args.access (Sub c.in-Sub.at c.in-Sub.value) c.requires.turn c.requires.machine c.requires.inside c.in-Sub.is in
    (c.requires.table, step.0, step.1)

pub fetch_and-requires : goal.fetch_and-requires
fetch_and-requires g c =
    let step = can_step g.M.Machines.kind g.M.Machines.opening c.args.table.now.key c.args.seat.now.id c.args.number c.args.seat.now.me c.args.order.now c.args.table.now.table_id.slots c.args.table.now.table_id.words
    g.G.Turn.key g.G.Turn.number g.G.Turn.order c.args.access (And c.in-And.at c.in-And.value) c.requires.turn c.requires.machine c.requires.inside c.in-And.is in
    (c.requires.table, step.0, step.1)

pub fetch_or-requires : goal.fetch_or-requires
fetch_or-requires g c =
    let step = can_step g.M.Machines.kind g.M.Machines.opening c.args.table.now.key c.args.seat.now.id c.args.number c.args.seat.now.me c.args.order.now c.args.table.now.table_id.slots c.args.table.now.table_id.words
    g.G.Turn.key g.G.Turn.number g.G.Turn.order c.args.access (Or c.in-Or.at c.in-Or.value) c.requires.turn c.requires.machine c.requires.inside c.in-Or.is in
    (c.requires.table, step.0, step.1)

pub compare_exchange-requires : goal.compare_exchange-requires
compare_exchange-requires g c =
    let step = can_step g.M.Machines.kind g.M.Machines.opening c.args.table.now.key c.args.seat.now.id c.args.number c.args.seat.now.me c.args.order.now c.args.table.now.table_id.slots c.args.table.now.table_id.words
    g.G.Turn.key g.G.Turn.number g.G.Turn.order c.args.access (Exchange c.in-Exchange.at c.in-Exchange.expect c.in-Exchange.value) c.requires.turn c.requires.machine c.requires.inside c.in-Exchange.is in
    (c.requires.table, step.0, step.1)

pub returns-in-Load-clause-took : goal.returns-in-Load-clause-took
returns-in-Load-clause-took g c =
    step_told g.M.Machines.kind g.M.Machines.opening c.args.table.now.key c.args.number c.args.seat.now.me c.args.order.now g.G.Turn.key g.G.Turn.number g.G.Turn.order
    c.load.result c.load.new.seat.me c.requires.turn c.load.ensures.2

pub returns-in-Store-clause-took : goal.returns-in-Store-clause-took
returns-in-Store-clause-took g c =
    step_told g.M.Machines.kind g.M.Machines.opening c.args.table.now.key c.args.number c.args.seat.now.me c.args.order.now g.G.Turn.key g.G.Turn.number g.G.Turn.order
    c.swap.result c.swap.new.seat.me c.requires.turn c.swap.ensures.2

pub returns-in-Add-clause-took : goal.returns-in-Add-clause-took
returns-in-Add-clause-took g c =
    step_told g.M.Machines.kind g.M.Machines.opening c.args.table.now.key c.args.number c.args.seat.now.me c.args.order.now g.G.Turn.key g.G.Turn.number g.G.Turn.order
    c.fetch_add.result c.fetch_add.new.seat.me c.requires.turn c.fetch_add.ensures.2

pub returns-in-Sub-clause-took : goal.returns-in-Sub-clause-took
returns-in-Sub-clause-took g c =
    step_told g.M.Machines.kind g.M.Machines.opening c.args.table.now.key c.args.number c.args.seat.now.me c.args.order.now g.G.Turn.key g.G.Turn.number g.G.Turn.order
    c.fetch_sub.result c.fetch_sub.new.seat.me c.requires.turn c.fetch_sub.ensures.2

pub returns-in-And-clause-took : goal.returns-in-And-clause-took
returns-in-And-clause-took g c =
    step_told g.M.Machines.kind g.M.Machines.opening c.args.table.now.key c.args.number c.args.seat.now.me c.args.order.now g.G.Turn.key g.G.Turn.number g.G.Turn.order
    c.fetch_and.result c.fetch_and.new.seat.me c.requires.turn c.fetch_and.ensures.2

pub returns-in-Or-clause-took : goal.returns-in-Or-clause-took
returns-in-Or-clause-took g c =
    step_told g.M.Machines.kind g.M.Machines.opening c.args.table.now.key c.args.number c.args.seat.now.me c.args.order.now g.G.Turn.key g.G.Turn.number g.G.Turn.order
    c.fetch_or.result c.fetch_or.new.seat.me c.requires.turn c.fetch_or.ensures.2

pub returns-in-Exchange-clause-took : goal.returns-in-Exchange-clause-took
returns-in-Exchange-clause-took g c =
    step_told g.M.Machines.kind g.M.Machines.opening c.args.table.now.key c.args.number c.args.seat.now.me c.args.order.now g.G.Turn.key g.G.Turn.number g.G.Turn.order
    c.compare_exchange.result c.compare_exchange.new.seat.me c.requires.turn c.compare_exchange.ensures.2
