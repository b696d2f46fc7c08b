use Rattle.std.proofs.Common.{sym, subst}
use Rattle.image_graph.specs.Left.{StandsForSome, ShowsTheGraph}
use Rattle.heap_machines.specs.declared.machine.Machine.{Machine}
use Rattle.heap_machines.specs.Shown.{config_of}
use Rattle.heap_machines.proofs.machine.Machine.answer_graph.Goals as goal

pub answer_graph-requires-clause-stand : goal.answer_graph-requires-clause-stand
answer_graph-requires-clause-stand c = subst (λ (machine : Machine). StandsForSome (config_of machine) c.args.words.now) c.in-Control.is c.requires.stand

pub returns-clause-shows : goal.returns-clause-shows
returns-clause-shows c = subst (λ (machine : Machine). ShowsTheGraph (config_of machine) c.args.words.now c.answer_graph.new.text) (sym c.in-Control.is) c.answer_graph.ensures.shows
