-- What every owner of machines knows of them: each stands as it does in some run of the heap from where it began.
use Rattle.std.specs.Prelude.{ℕ, ◌≡◌}
use Rattle.shared_table.specs.Rule.{AreReached}
use Rattle.table_heap.specs.declared.bundle.Bundle.{Bundle}
use Rattle.table_heap.specs.Core.{heap_kind}
use Rattle.table_heap.specs.State.{config_in, start_in, view_of, HasMachine}

abbrev pub HaveRun : Bundle → Type 0
HaveRun bundle = AreReached (heap_kind (config_in bundle)) (start_in bundle) (view_of bundle)

-- it has no machine but the one of this number
abbrev pub HasOnly : Bundle → ℕ → Type 0
HasOnly bundle number = (other_number : ℕ) → HasMachine bundle other_number → other_number ≡ number
