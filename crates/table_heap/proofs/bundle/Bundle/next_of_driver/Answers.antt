use Rattle.std.proofs.Common.{◌≡◌, ◌<◌, length, Some, None, refl, sym, ap, ◌∙◌, subst, arith}
use Rattle.std.specs.Prelude.{slice_get, if◌then◌else◌}
use Rattle.std.proofs.lemmas.Option.{slice_get_read}
use Rattle.table_heap.specs.Driving.{mutators_below, driver_of, given_by}
use Rattle.std.proofs.lemmas.Bool.{lt-ltb}
use Rattle.table_heap.proofs.Driving.{has_driver}
use Rattle.table_heap.proofs.bundle.Bundle.next_of_driver.Goals as goal

pub bounds-drivers-place : goal.bounds-drivers-place
bounds-drivers-place g c =
    let bundle = c.args.self.now in
    let number_below : c.args.number < bundle.config.mutators = subst (λ mutator_count. c.args.number < mutator_count) c.mutators.ensures c.if-number-mutators.true in
    let place_below = has_driver g.D.Driver.next_of g.D.Driver.replied g.D.Driver.to_come bundle c.requires.driving.0 c.args.drivers.now c.requires.driving.1 c.args.number c.requires.here (lt-ltb c.args.number bundle.config.mutators number_below) in
    let place_known = c.requires.place in
    omega (arith, place_below, place_known)

pub offset_bounds-drivers-place : goal.offset_bounds-drivers-place
offset_bounds-drivers-place g c =
    let bundle = c.args.self.now in
    let number_below : c.args.number < bundle.config.mutators = subst (λ mutator_count. c.args.number < mutator_count) c.mutators.ensures c.if-number-mutators.true in
    let place_below = has_driver g.D.Driver.next_of g.D.Driver.replied g.D.Driver.to_come bundle c.requires.driving.0 c.args.drivers.now c.requires.driving.1 c.args.number c.requires.here (lt-ltb c.args.number bundle.config.mutators number_below) in
    let place_known = c.requires.place in
    omega (arith, place_below, place_known)

pub returns-then-number-mutators-clause-next : goal.returns-then-number-mutators-clause-next
returns-then-number-mutators-clause-next g c =
    let bundle = c.args.self.now in
    let drivers = c.args.drivers.now in
    let number_below : c.args.number < bundle.config.mutators = subst (λ mutator_count. c.args.number < mutator_count) c.mutators.ensures c.if-number-mutators.true in
    let test = lt-ltb c.args.number bundle.config.mutators number_below in
    let place_below = has_driver g.D.Driver.next_of g.D.Driver.replied g.D.Driver.to_come bundle c.requires.driving.0 drivers c.requires.driving.1 c.args.number c.requires.here test in
    let driver = c.index-drivers-place.result in
    let place_known = c.requires.place in
    let driver_there : slice_get drivers (mutators_below bundle c.args.number) ≡ Some driver =
    ap (slice_get drivers) (sym place_known) ∙ slice_get_read drivers (length drivers) c.args.place driver refl (omega (arith, place_below, place_known)) c.index-drivers-place.is in
    c.next.ensures.next ∙ sym (ap (λ holds. if holds then given_by g.D.Driver.next_of (driver_of bundle drivers c.args.number) else None) test ∙ ap (given_by g.D.Driver.next_of) driver_there)
