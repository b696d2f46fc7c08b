use Rattle.std.proofs.Common.{◌≡◌, ◌<◌, ◌≤◌, Some, refl, ap, ◌∙◌, subst}
use Rattle.std.proofs.lemmas.Option.{get_or_from_slice_get}
use Rattle.shen_graph.specs.declared.command.Command.{Command}
use Rattle.shen_graph.specs.Step.{IsNew}
use Rattle.table_heap.proofs.drive.hand_reply.Goals as goal

pub returns : goal.returns
returns g c = λ driver driver_there.
    let driver_read = get_or_from_slice_get c.args.drivers.now c.args.place driver c.index-drivers-place.result driver_there in
    record {
      taken = c.took.new.self;
      list = refl;
      replied_is = c.took.ensures.replied ∙ ap (λ any_driver. g.D.Driver.replied any_driver c.args.reply.now) driver_read;
      falls = subst (λ any_driver. g.D.Driver.to_come c.took.new.self ≤ g.D.Driver.to_come any_driver) driver_read c.took.ensures.falls;
      pays = subst (λ any_driver. (command : Command) → g.D.Driver.next_of any_driver ≡ Some command → IsNew command → g.D.Driver.to_come c.took.new.self < g.D.Driver.to_come any_driver) driver_read c.took.ensures.pays;
    }
