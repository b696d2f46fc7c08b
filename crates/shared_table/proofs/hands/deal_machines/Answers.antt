use Rattle.std.proofs.Common.{arith, ◌≡◌, ◌<◌, ◌∙◌, length, replicate, None, true, false, sym, subst, ap, ℕ, Option, ◌+◌}
use Rattle.std.specs.Prelude.{slice_set}
use Rattle.std.proofs.lemmas.Bool.Decides.{nat_tests}
use Rattle.shared_table.specs.Views.{View, is_dealt_to}
use Rattle.shared_table.proofs.ChangeHands.{TakingOut, taking_begins, taking_swap, taking_none, taking_ends}
use Rattle.shared_table.proofs.hands.deal_machines.Goals as goal
use Rattle.shared_table.proofs.hands.deal_machines.Goals.{then-number-bundles, else-number-bundles}

pub loop-number-init : goal.loop-number-init
loop-number-init g c =
    taking_begins (is_dealt_to c.args.bundles c.args.bundle) c.args.machines.now.items c.in_ok-dealt.dealt.items
    (c.in_ok-dealt.ensures ∙ ap (λ (count : ℕ). replicate {A = Option g.row.T.Denot} count None) (let same_length : c.len.result ≡ length c.args.machines.now.items = omega (arith, c.len.ensures) in same_length))

pub loop-number-preserved : goal.loop-number-preserved
loop-number-preserved g c =
    let loop = c.loop-number in
    let within : loop.number < length loop.machines.items = omega (arith, c.len-number-end.ensures) in
    let out_within : loop.number < length loop.dealt.items = omega (arith, c.len-number-end.ensures) in
    elim c.if-number-bundles.branch [
      | then-number-bundles w ↦
          (let is_its_turn = w.if-number-bundles.true in
          let passes : is_dealt_to c.args.bundles c.args.bundle loop.number ≡ true = grind (arith, nat_tests, is_its_turn) in
          taking_swap (is_dealt_to c.args.bundles c.args.bundle) c.args.machines.now.items loop.number loop.machines.items loop.dealt.items c.if-number-bundles.machines.items c.if-number-bundles.dealt.items
          w.index_mut-then-number-bundles.result.now w.index_mut.result.now loop.invariant within out_within w.index_mut-then-number-bundles.ensures.value w.index_mut.ensures.value passes
          (ap (λ view. view.items) w.machines-is ∙ ap (λ (machine : Option g.row.T.Denot). slice_set loop.machines.items loop.number machine) w.swap.ensures.y_after)
          (ap (λ view. view.items) w.dealt-is ∙ ap (λ (machine : Option g.row.T.Denot). slice_set loop.dealt.items loop.number machine) w.swap.ensures.x_after))
      | else-number-bundles w ↦
          (let is_not_its_turn = w.if-number-bundles.false in
          let fails : is_dealt_to c.args.bundles c.args.bundle loop.number ≡ false = grind (arith, nat_tests, is_not_its_turn) in
          subst (λ (view : View g.row.T.Denot). TakingOut (is_dealt_to c.args.bundles c.args.bundle) c.args.machines.now.items (loop.number + 1) view c.if-number-bundles.dealt.items) (ap (λ view. view.items) (sym w.machines-is))
          (subst (λ (view : View g.row.T.Denot). TakingOut (is_dealt_to c.args.bundles c.args.bundle) c.args.machines.now.items (loop.number + 1) loop.machines.items view) (ap (λ view. view.items) (sym w.dealt-is))
          (taking_none (is_dealt_to c.args.bundles c.args.bundle) c.args.machines.now.items loop.number loop.machines.items loop.dealt.items loop.invariant fails)))
    ]

pub returns-clause-dealt : goal.returns-clause-dealt
returns-clause-dealt g c =
    (taking_ends (is_dealt_to c.args.bundles c.args.bundle) c.args.machines.now.items c.loop-number.number c.loop-number.machines.items c.loop-number.dealt.items c.loop-number.invariant (omega (arith, c.len-number-end.ensures))).1

pub returns-clause-left : goal.returns-clause-left
returns-clause-left g c =
    (taking_ends (is_dealt_to c.args.bundles c.args.bundle) c.args.machines.now.items c.loop-number.number c.loop-number.machines.items c.loop-number.dealt.items c.loop-number.invariant (omega (arith, c.len-number-end.ensures))).0
