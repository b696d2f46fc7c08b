-- The spare seat is of this table, whatever it has become.
use Rattle.std.proofs.Common.{◌≡◌, ◌⊎◌, [], false, sym, ap, ap₂, ◌∙◌, inl, inr}
use Rattle.atomic_table.specs.Table.{Me}
use Rattle.shared_table.specs.Views.{merged}
use Rattle.shared_table.proofs.Rules.{splits, joins}
use Rattle.shared_table.proofs.Spared.{left_all}
use Rattle.shared_table.proofs.gather.gather_seat.Goals as goal

pub split_seat-spare-requires : goal.split_seat-spare-requires
split_seat-spare-requires g c = (
  c.requires.table.0,
  c.requires.table.1,
  splits (g.M.Machines.kind c.args.table.now.key) (g.M.Machines.opening c.args.table.now.key) c.args.seat.now.id c.args.seat.now.me.0 (λ _. false),
)

-- a spare seat holds no slot, whichever of two that hold none it is
no_slot : {V S : Type 0} (me first_seat second_seat : Me S V) → first_seat.1 ≡ [] → second_seat.1 ≡ [] → (me ≡ first_seat) ⊎ (me ≡ second_seat) → me.1 ≡ []
no_slot me first_seat second_seat first_empty second (inl same_seat) = ap (λ (some_seat : Me _ _). some_seat.1) same_seat ∙ first_empty
no_slot me first_seat second_seat first_empty second (inr same_seat) = ap (λ (some_seat : Me _ _). some_seat.1) same_seat ∙ second

pub join_seat-requires : goal.join_seat-requires
join_seat-requires g c =
    let split = c.split_seat-spare.ensures in
    let exchanged = c.exchange_in_one_table.ensures in
    let spare = c.exchange_in_one_table.new.other in (
      split.0 ∙ c.requires.table.0,
      exchanged.1 ∙ split.3 ∙ c.requires.table.0,
      no_slot spare.me c.args.other.me c.split_seat-spare.result.me c.requires.slots (ap (λ (some_seat : Me _ _). some_seat.1) split.4) exchanged.3,
      c.requires.table.1,
      joins (g.M.Machines.kind c.args.table.now.key) (g.M.Machines.opening c.args.table.now.key) c.split_seat-spare.new.seat.id spare.id c.split_seat-spare.new.seat.me.0 spare.me.0,
    )

pub returns-clause-gathered : goal.returns-clause-gathered
returns-clause-gathered g c same_table =
    let split = c.split_seat-spare.ensures in
    let became = (c.exchange_in_one_table.ensures.2 (same_table ∙ sym split.3)).1 in
    ap (λ some_seat. some_seat.0) c.join_seat.ensures.2 ∙ ap₂ merged (ap (λ some_seat. some_seat.0) split.2 ∙ left_all c.args.seat.now.me.0) (ap (λ some_seat. some_seat.0) became)
