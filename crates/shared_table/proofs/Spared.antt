-- A seat that a spare one was made of keeps its machines.
use Rattle.std.proofs.Common.{◌≡◌, [], ◌∷◌, false, refl}
use Rattle.shared_table.specs.Views.{View, machines_left}

pub left_all : {R : Type 0} (view : View R) → machines_left (λ _. false) view ≡ view
left_all [] = refl
left_all (machine ∷ later_machines) = λ i. machine ∷ left_all later_machines i
