use Rattle.std.proofs.Common.{◌≡◌, ◌≤◌, List, [], ◌∷◌, ◌++◌, length, Some, sym, ap, ◌∙◌, arith}
use mathlib.Core.List.{reverse}
use Rattle.std.proofs.lemmas.Grind.{common_steps}
use Rattle.std.proofs.lemmas.List.{append-nil, append_assoc, reverse-append, reverse-reverse}
use Rattle.shared_table.specs.Views.{View, whole}
use Rattle.heap_machines.specs.declared.machine.Machine.{Machine}
use Rattle.table_heap.proofs.heap.placed.Goals as goal

-- the last one of those that are left is placed next
one_more : (all_machines machines_left new : List Machine) (machine : Machine) (places : View Machine) → machines_left ≡ new ++ machine ∷ [] → places ++ whole (reverse machines_left) ≡ whole all_machines → (places ++ Some machine ∷ []) ++ whole (reverse new) ≡ whole all_machines
one_more all_machines machines_left new machine places split so_far =
    append_assoc places (Some machine ∷ []) (whole (reverse new))
    ∙ ap (λ list_part. places ++ whole list_part) (sym (ap reverse split ∙ reverse-append new (machine ∷ [])))
    ∙ so_far

-- once none is left all are placed
none_left : (all_machines machines_left : List Machine) (places : View Machine) → length machines_left ≤ 0 → places ++ whole (reverse machines_left) ≡ whole all_machines → places ≡ whole all_machines
none_left all_machines [] places nothing_left placed_so_far = sym (append-nil places) ∙ placed_so_far
none_left all_machines (machine ∷ machines) places nothing_left placed_so_far = absurd (omega (arith, nothing_left))

pub loop-machine-init : goal.loop-machine-init
loop-machine-init c =
    ap (λ list_part. list_part ++ whole (reverse c.reverse.new.self.items)) c.in-Ok.ensures.items
    ∙ ap (λ list_part. whole (reverse list_part)) c.reverse.ensures.items
    ∙ ap whole (reverse-reverse c.args.machines.items)

pub loop-machine-preserved : goal.loop-machine-preserved
loop-machine-preserved c =
    ap (λ list_part. list_part ++ whole (reverse c.pop.new.self.items)) c.in-Ok-push.ensures.items
    ∙ one_more c.args.machines.items c.loop-machine.machines.items c.pop.new.self.items c.in-Some.machine c.loop-machine.places.items c.in-Some.ensures.items c.loop-machine.invariant

pub returns : goal.returns
returns c =
    let nothing_left : length c.loop-machine.machines.items ≤ 0 = grind (arith, common_steps) in
    none_left c.args.machines.items c.loop-machine.machines.items c.loop-machine.places.items nothing_left c.loop-machine.invariant
