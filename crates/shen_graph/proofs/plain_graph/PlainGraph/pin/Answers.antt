use Rattle.std.proofs.Common.{[], None, length, ◌<◌, get_or, arith, ap}
use Rattle.std.proofs.lemmas.Grind.{common_steps}
use Rattle.std.proofs.lemmas.List.{get_or_read}
use Rattle.shen_graph.specs.PlainGraph.{graph_of}
use Rattle.shen_graph.proofs.plain_graph.PlainGraph.pin.Goals as goal

pub returns-clause-pin : goal.returns-clause-pin
unfolding graph_of
returns-clause-pin c =
    let within : c.args.thread < length c.self.inside.pins.items = grind (arith, common_steps) in
    rw (← c.self.view_is) (ap (λ row. get_or row c.args.slot None) (get_or_read c.self.inside.pins.items c.args.thread c.index-row.result.now within c.index-row.ensures []))

pub returns-clause-read : goal.returns-clause-read
returns-clause-read c =
    let within : c.args.thread < length c.self.inside.pins.items = grind (arith, common_steps) in
    rw (← c.self.view_is) (ap (λ row. get_or row c.args.slot None) (get_or_read c.self.inside.pins.items c.args.thread c.index-row.result.now within c.index-row.ensures []))
