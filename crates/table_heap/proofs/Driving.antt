-- The mutators of a bundle and their drivers: what stays from turn to turn.
use Rattle.std.proofs.Common.{◌≡◌, ◌<◌, ◌≤◌, ℕ, true, ◌&&◌, List, length, Option, Some, None, sym, ap, ◌∙◌, subst, arith}
use Rattle.std.specs.Prelude.{slice_get, slice_set, nat_lt, is_some, IfSome, if◌then◌else◌}
use Rattle.std.proofs.lemmas.Bool.{ltb-true, and_from}
use Rattle.std.proofs.lemmas.List.{length-set}
use Rattle.std.proofs.lemmas.Option.{slice_get_within, same_Some}
use Rattle.shen_graph.proofs.Lists.{element_of_all}
use Rattle.heap_words.proofs.Lists.{element_at, slice_get-set_other, slice_get-set_same}
use Rattle.shared_table.specs.Views.{machine_of}
use Rattle.shen_graph.specs.declared.command.Command.{Command}
use Rattle.shen_graph.specs.declared.command.Reply.{Reply}
use Rattle.shen_graph.specs.Step.{IsNew}
use Rattle.shen_graph.specs.Valid.{IsValid, most_objects}
use Rattle.step_core.specs.Actor.{Actor}
use Rattle.step_core.specs.Machines.{reply_in, may_begin, made_of_machine}
use Rattle.heap_machines.specs.declared.stepped.Stepped.{Stepped}
use Rattle.heap_machines.specs.declared.stepped.Stepped.TheVariants as stepped
use Rattle.heap_machines.specs.Roles.{is_mutating}
use Rattle.heap_machines.specs.Turn.{order_for}
use Rattle.table_heap.proofs.NamesLeft.{name_left}
use Rattle.heap_machines.proofs.Turns.{rest_is_mutating, begins_at_rest}
use Rattle.table_heap.specs.declared.bundle.Bundle.{Bundle}
use Rattle.table_heap.specs.State.{view_of, HasMachine, machine_at, IsSameBundle, IsUnchanged}
use Rattle.table_heap.specs.Turning.{IsTurn}
use Rattle.table_heap.specs.Running.{AreIdleForGood}
use Rattle.table_heap.specs.Driving.{has_mutator, mutators_below, driver_of, CanDrive, given_by, next_driven, IsDriving, OfDrivers, AreDriving, HaveDriven}
use Rattle.table_heap.proofs.AtDriver.{drives_first, driven_done, drives_on, drives_noted}
use Rattle.table_heap.proofs.Counting.{same_count, counts_above, counts_differ}
use Rattle.table_heap.proofs.Running.{at_number, role_at, in_view}
use Rattle.table_heap.proofs.Turning.{mid, was, order, got, here, view_is, then_is, no_order, turn_was, role_then, none_given, some_given, role_given, reply_given, each_after}

-- a machine of the view that is a mutator
pub is_mutator : (bundle : Bundle) (number : ℕ) (actor : Actor) → machine_of (view_of bundle) number ≡ Some actor → is_mutating actor.machine ≡ true → has_mutator bundle number ≡ true
is_mutator bundle number actor here role = and_from _ _ (ap is_some here) (sym (role_at bundle number actor here) ∙ role)

-- the driver of a mutator stands within the list
pub within_drivers : (bundle : Bundle) (number : ℕ) → has_mutator bundle number ≡ true → nat_lt number bundle.config.mutators ≡ true → mutators_below bundle number < mutators_below bundle bundle.config.mutators
within_drivers bundle number mutator_there number_below = counts_above (has_mutator bundle) number bundle.config.mutators (ltb-true number bundle.config.mutators number_below) mutator_there

-- the drivers stay with their mutators in the same bundle
pub same_places : (old new : Bundle) (n : ℕ) → IsSameBundle old new → mutators_below new n ≡ mutators_below old n
same_places old new n same_bundle =
    same_count (has_mutator new) (has_mutator old)
    (λ number. ap (λ is_there. is_there && nat_lt number new.config.mutators) (same_bundle.numbers.here number) ∙ ap (λ some_config. is_some (machine_of (view_of old) number) && nat_lt number some_config.mutators) same_bundle.config) n

module _ {D : Type 0} (next_of : D → Option Command) (replied : D → Reply → D) (to_come : D → ℕ) where
  -- before they begin
  pub first_drivers : (bundle : Bundle) (drivers : List D) → CanDrive to_come bundle drivers → AreDriving next_of replied to_come bundle drivers drivers
  first_drivers bundle drivers can_drive = record {
    orders = can_drive.orders;
    count = can_drive.count;
    mutators = λ number actor here role.
        let mutator_low = within_drivers bundle number (is_mutator bundle number actor here role) (sym (role_at bundle number actor here) ∙ role) in
        let count : length drivers ≡ mutators_below bundle bundle.config.mutators = can_drive.count in
        let driver_place = element_at drivers (mutators_below bundle number) (omega (arith, mutator_low, count)) in (
          driver_place.0,
          driver_place.0,
          driver_place.1,
          driver_place.1,
          drives_first next_of replied to_come driver_place.0 actor (element_of_all (λ driver. to_come driver < most_objects) drivers (mutators_below bundle number) driver_place.0 can_drive.few driver_place.1) (can_drive.mutators number actor here role),
        );
  }

  module _ (bundle : Bundle) (firsts drivers : List D) (driven_before : AreDriving next_of replied to_come bundle firsts drivers) where
    -- what a mutator's driver gives
    pub given_next : (number : ℕ) (actor : Actor) (driver : D) → machine_of (view_of bundle) number ≡ Some actor → is_mutating actor.machine ≡ true → driver_of bundle drivers number ≡ Some driver → next_driven next_of bundle drivers number ≡ next_of driver
    given_next number actor driver here role driver_is =
        ap (λ is_driven. if is_driven then given_by next_of (driver_of bundle drivers number) else None) (sym (role_at bundle number actor here) ∙ role) ∙ ap (given_by next_of) driver_is

    -- there is a name for what the next command makes
    pub name_there : (number : ℕ) → HasMachine bundle number → may_begin (machine_at bundle number) ≡ true → made_of_machine (machine_at bundle number) < most_objects
    name_there number here free_to_begin =
        let seen_actor = in_view bundle number here in
        let number_is = at_number bundle number seen_actor.0 seen_actor.1 in
        let actor_free : may_begin seen_actor.0.machine ≡ true = ap may_begin (sym number_is) ∙ free_to_begin in
        let role = rest_is_mutating seen_actor.0.machine (begins_at_rest seen_actor.0.machine actor_free) in
        let job = driven_before.mutators number seen_actor.0 seen_actor.1 role in
        subst (λ any_machine. made_of_machine any_machine < most_objects) (sym number_is) (name_left seen_actor.0.machine (to_come job.1) job.4.names actor_free)

    -- a mutator of the bundle has a driver
    pub has_driver : (number : ℕ) → HasMachine bundle number → nat_lt number bundle.config.mutators ≡ true → mutators_below bundle number < length drivers
    has_driver number here number_below =
        let seen_actor = in_view bundle number here in
        let role : is_mutating seen_actor.0.machine ≡ true = role_at bundle number seen_actor.0 seen_actor.1 ∙ number_below in
        let mutator_low = within_drivers bundle number (is_mutator bundle number seen_actor.0 seen_actor.1 role) number_below in
        let count : length drivers ≡ mutators_below bundle bundle.config.mutators = driven_before.count in
        omega (arith, mutator_low, count)

  -- the drivers of a bundle that is as it was
  pub driven_unchanged : (old new : Bundle) (firsts drivers : List D) → IsUnchanged old new → AreDriving next_of replied to_come old firsts drivers → AreDriving next_of replied to_come new firsts drivers
  driven_unchanged old new firsts drivers unchanged work =
      let same_bundle = unchanged.unmoved.same in
      record {
        orders = λ number order order_there. work.orders number order (ap (λ some_view. machine_of some_view number) (sym unchanged.orders) ∙ order_there);
        count = work.count ∙ ap (mutators_below old) (sym (ap (λ some_config. some_config.mutators) same_bundle.config)) ∙ sym (same_places old new new.config.mutators same_bundle);
        mutators = λ number actor here role.
            let job = work.mutators number actor (ap (λ some_view. machine_of some_view number) (sym unchanged.unmoved.view) ∙ here) role in
            let same_place = same_places old new number same_bundle in
            (job.0, job.1, ap (slice_get firsts) same_place ∙ job.2, ap (slice_get drivers) same_place ∙ job.3, job.4);
      }

  -- the drivers of machines that are idle for good
  pub have_driven : (new : Bundle) (firsts drivers : List D) → AreDriving next_of replied to_come new firsts drivers → AreIdleForGood new → HaveDriven next_of replied new firsts drivers
  have_driven new firsts drivers work idle number actor here role =
      let job = work.mutators number actor here role in
      (job.0, job.1, job.2, job.3, driven_done next_of replied to_come job.0 job.1 actor job.4 role (idle number actor here))

  module _ (old new : Bundle) (next_command : Option Command) (number : ℕ) (step_outcome : Stepped) (turn_made : IsTurn old new next_command number step_outcome) (same_bundle : IsSameBundle old new)
      (firsts drivers : List D) (next_is : next_command ≡ next_driven next_of old drivers number) (driven_before : AreDriving next_of replied to_come old firsts drivers) where
    abbrev a : Actor
    a = was old new next_command number step_outcome turn_made

    at_old : machine_of (view_of old) number ≡ Some a
    at_old = here old new next_command number step_outcome turn_made

    count_new : length drivers ≡ mutators_below new new.config.mutators
    count_new = driven_before.count ∙ ap (mutators_below old) (sym (ap (λ some_config. some_config.mutators) same_bundle.config)) ∙ sym (same_places old new new.config.mutators same_bundle)

    module _ (role : is_mutating a.machine ≡ true) where
      abbrev job : OfDrivers old firsts drivers (IsDriving next_of replied to_come) number a
      job = driven_before.mutators number a at_old role

      turn_is : order_for (next_of job.1) a.machine ≡ Some (order old new next_command number step_outcome turn_made)
      turn_is =
          ap (λ command. order_for command a.machine) (sym (next_is ∙ given_next old firsts drivers driven_before number a job.1 at_old role job.3)) ∙ turn_was old new next_command number step_outcome turn_made role

    -- the drivers are as they were
    pub driven_on : (step_outcome ≡ stepped.Done → ⊥) → AreDriving next_of replied to_come new firsts drivers
    driven_on not_done = record {
      orders = no_order old new next_command number step_outcome turn_made driven_before.orders;
      count = count_new;
      mutators = each_after (view_of old) (view_of new) number a (then_is old new next_command number step_outcome turn_made) (OfDrivers old firsts drivers (IsDriving next_of replied to_come))
          (OfDrivers new firsts drivers (IsDriving next_of replied to_come)) at_old (view_is old new next_command number step_outcome turn_made) driven_before.mutators
          (λ mutates.
          let role = sym (role_then old new next_command number step_outcome turn_made) ∙ mutates in
          let driver_at = job role in
          let same_place = same_places old new number same_bundle in (
            driver_at.0,
            driver_at.1,
            ap (slice_get firsts) same_place ∙ driver_at.2,
            ap (slice_get drivers) same_place ∙ driver_at.3,
            drives_on next_of replied to_come driver_at.0 driver_at.1 a driver_at.4 (mid old new next_command number step_outcome turn_made).config (order old new next_command number step_outcome turn_made) (got old new next_command number step_outcome turn_made) role (turn_is role)
                (none_given old new next_command number step_outcome turn_made not_done),
          ))
          (λ other_number other_actor different machine_there role driver_at.
          let same_place = same_places old new other_number same_bundle in
          (driver_at.0, driver_at.1, ap (slice_get firsts) same_place ∙ driver_at.2, ap (slice_get drivers) same_place ∙ driver_at.3, driver_at.4));
    }

    -- the machine is a mutator, and its driver can take the reply
    pub can_take : step_outcome ≡ stepped.Done → mutators_below old number < length drivers
    can_take is_done =
        let command_given = some_given old new next_command number step_outcome turn_made is_done in
        let role = role_given old new next_command number step_outcome turn_made command_given.0 command_given.1 in
        slice_get_within drivers (mutators_below old number) (job role).1 (job role).3

    -- its driver has taken the reply
    pub driven_noted : (reply : Reply) (driver taken : D) → step_outcome ≡ stepped.Done → reply_in (machine_at new number) ≡ Some reply → slice_get drivers (mutators_below old number) ≡ Some driver
        → taken ≡ replied driver reply → to_come taken ≤ to_come driver → ((command : Command) → next_of driver ≡ Some command → IsNew command → to_come taken < to_come driver)
        → AreDriving next_of replied to_come new firsts (slice_set drivers (mutators_below old number) taken)
    driven_noted reply driver taken is_done at_hand place_is taken_is falls pays =
        let gives = reply_given old new next_command number step_outcome turn_made reply is_done at_hand in
        let role = role_given old new next_command number step_outcome turn_made reply gives in
        let driver_at = job role in
        let alike : driver_at.1 ≡ driver = same_Some driver_at.1 driver (sym driver_at.3 ∙ place_is) in
        let driver_place = mutators_below old number in
        record {
          orders = no_order old new next_command number step_outcome turn_made driven_before.orders;
          count = length-set drivers driver_place taken ∙ count_new;
          mutators = each_after (view_of old) (view_of new) number a (then_is old new next_command number step_outcome turn_made) (OfDrivers old firsts drivers (IsDriving next_of replied to_come))
              (OfDrivers new firsts (slice_set drivers driver_place taken) (IsDriving next_of replied to_come)) at_old (view_is old new next_command number step_outcome turn_made) driven_before.mutators
              (λ mutates.
              let same_place = same_places old new number same_bundle in (
                driver_at.0,
                taken,
                ap (slice_get firsts) same_place ∙ driver_at.2,
                ap (slice_get (slice_set drivers driver_place taken)) same_place ∙ slice_get-set_same drivers driver_place driver_at.1 taken driver_at.3,
                subst (λ some_driver. IsDriving next_of replied to_come driver_at.0 some_driver (then_is old new next_command number step_outcome turn_made)) (ap (λ x. replied x reply) alike ∙ sym taken_is)
                    (drives_noted next_of replied to_come driver_at.0 driver_at.1 a driver_at.4 (mid old new next_command number step_outcome turn_made).config (order old new next_command number step_outcome turn_made) (got old new next_command number step_outcome turn_made) role (turn_is role) reply gives
                    (subst (λ x. to_come (replied x reply) ≤ to_come x) (sym alike) (subst (λ some_driver. to_come some_driver ≤ to_come driver) taken_is falls))
                    (subst (λ x. (command : Command) → next_of x ≡ Some command → IsNew command → to_come (replied x reply) < to_come x) (sym alike)
                    (subst (λ some_driver. (command : Command) → next_of driver ≡ Some command → IsNew command → to_come some_driver < to_come driver) taken_is pays))),
              ))
              (λ other_number x different actor_there mutates driver_at.
              let same_place = same_places old new other_number same_bundle in
              let counts_apart = counts_differ (has_mutator old) other_number number different (is_mutator old other_number x actor_there mutates) (is_mutator old number a at_old role) in (
                driver_at.0,
                driver_at.1,
                ap (slice_get firsts) same_place ∙ driver_at.2,
                ap (slice_get (slice_set drivers driver_place taken)) same_place ∙ slice_get-set_other drivers driver_place (mutators_below old other_number) taken counts_apart ∙ driver_at.3,
                driver_at.4,
              ));
        }

-- a command that is in range, and may be given
pub given_fits : (found : Option Command) (P : Type 0) → IfSome found (λ command. IsValid command) → P → IfSome found (λ command. IsValid command × P)
given_fits None P found_valid may_give = tt
given_fits (Some command) P found_valid may_give = (found_valid, may_give)
