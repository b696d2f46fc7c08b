use Rattle.std.proofs.Common.{◌≡◌, Bool, true, false, ◌∙◌, refl, ap}
use Rattle.std.specs.Prelude.{unwrap_or}
use Rattle.std.specs.Arc.{arc_value}
use Rattle.shen_graph.specs.declared.order.Order.TheVariants.{Begin}
use Rattle.shared_table.specs.Views.{machine_of}
use Rattle.step_core.specs.Machines.{may_begin}
use Rattle.table_heap.specs.Core.{nobody}
use Rattle.table_heap.specs.State.{machine_at, has_turn}
use Rattle.heap_seats.specs.declared.progress.State.TheVariants.{Free}
use Rattle.heap_seats.specs.Seats.{state_by}
use Rattle.heap_seats.proofs.Known.{stays_of, stays_here, stays_only, stays_renewable, unmoved_run, given_order, takes_turn}
use Rattle.heap_seats.proofs.seat.Seat.order_begin.Goals as goal

free_may_begin : (turn can_begin : Bool) → state_by turn can_begin ≡ Free → can_begin ≡ true
free_may_begin turn true is_free = refl
free_may_begin true false is_free = absurd cc
free_may_begin false false is_free = absurd cc

pub begin-requires-clause-rest : goal.begin-requires-clause-rest
begin-requires-clause-rest c = let seat = c.args.self.now in free_may_begin (has_turn seat.bundle seat.number) (may_begin (machine_at seat.bundle seat.number)) c.requires.free

pub invariant_of-self : goal.invariant_of-self
invariant_of-self c =
    let seat = c.args.self.now in
    let bundle = c.begin.new.self in
    let seat_unmoved = c.begin.ensures.unmoved in
    record {
      fits = stays_of (arc_value seat.heap) seat.bundle bundle seat_unmoved.same seat.fits;
      here = stays_here seat.bundle bundle seat.number seat_unmoved.same seat.here;
      only = stays_only seat.bundle bundle seat.number seat_unmoved.same seat.only;
      same_config = seat_unmoved.same.config ∙ seat.same_config;
      reached = unmoved_run seat.bundle bundle seat_unmoved seat.reached;
      renewable = stays_renewable seat.config seat.bundle bundle seat_unmoved.same seat.renewable;
    }

pub returns : goal.returns
returns c =
    let seat = c.args.self.now in
    let bundle = c.begin.new.self in
    let order_made = c.begin.ensures in
    record {
      same = record { config = refl; number = refl; heap = refl };
      given = given_order seat.bundle bundle seat.number (Begin c.args.command) order_made.unmoved order_made.order seat.here;
      actor = ap (λ view. unwrap_or (machine_of view seat.number) nobody) order_made.unmoved.view;
      steps = ap (λ view. unwrap_or (machine_of view seat.number) 0) order_made.unmoved.steps;
      state = ap (λ turn. state_by turn (may_begin (machine_at bundle seat.number))) (takes_turn seat.bundle bundle seat.number (Begin c.args.command) order_made.unmoved order_made.order seat.here order_made.takes);
    }
