use Rattle.std.proofs.Common.{arith, ◌<◌, ◌∙◌, length, sym, subst, ap, not, Option, ◌+◌}
use Rattle.std.specs.Prelude.{slice_set}
use Rattle.shared_table.specs.Views.{View}
use Rattle.shared_table.proofs.ChangeHands.{Joining, machine_of-index, joining_swap, joining_skip, joining_ends, some_there, none_there}
use Rattle.shared_table.proofs.hands.join_machines.Goals as goal
use Rattle.shared_table.proofs.hands.join_machines.Goals.{then-is_none, else-is_none}

pub loop-number-preserved : goal.loop-number-preserved
loop-number-preserved g c =
    let loop = c.loop-number in
    let within : loop.number < length loop.machines.items = omega (arith, c.len-number-end.ensures) in
    let inside_joined : loop.number < length loop.others.items = omega (arith, c.len-number-end.ensures, c.requires) in
    elim c.if-is_none.branch [
      | then-is_none w ↦
          joining_swap c.args.machines.now.items c.args.others.items loop.number loop.machines.items loop.others.items c.if-is_none.machines.items c.if-is_none.others.items w.index_mut.result.now w.index_mut-then-is_none.result.now
          loop.invariant within inside_joined w.index_mut.ensures.value w.index_mut-then-is_none.ensures.value
          (w.index_mut.ensures.value ∙ sym (machine_of-index loop.machines.items loop.number w.index_mut.result.now within) ∙ machine_of-index loop.machines.items loop.number c.index.result.now within
          ∙ sym c.index.ensures ∙ none_there c.index.result.now w.if-is_none.ensures)
          (ap (λ view. view.items) w.machines-is ∙ ap (λ (machine : Option g.row.T.Denot). slice_set loop.machines.items loop.number machine) w.swap.ensures.x_after)
          (ap (λ view. view.items) w.others-is ∙ ap (λ (machine : Option g.row.T.Denot). slice_set loop.others.items loop.number machine) w.swap.ensures.y_after)
      | else-is_none w ↦
          let machine_there = some_there c.index.result.now (c.is_none.ensures ∙ ap not w.if-is_none.false) in
          subst (λ (view : View g.row.T.Denot). Joining c.args.machines.now.items c.args.others.items (loop.number + 1) view c.if-is_none.others.items) (ap (λ view. view.items) (sym w.machines-is))
          (subst (λ (view : View g.row.T.Denot). Joining c.args.machines.now.items c.args.others.items (loop.number + 1) loop.machines.items view) (ap (λ view. view.items) (sym w.others-is))
          (joining_skip c.args.machines.now.items c.args.others.items loop.number loop.machines.items loop.others.items machine_there.0 loop.invariant
          (machine_of-index loop.machines.items loop.number c.index.result.now within ∙ sym c.index.ensures ∙ machine_there.1)))
    ]

pub returns : goal.returns
returns g c = joining_ends c.args.machines.now.items c.args.others.items c.loop-number.machines.items c.loop-number.others.items c.loop-number.number c.requires c.loop-number.invariant (omega (arith, c.len-number-end.ensures))
