use Rattle.std.proofs.Common.{sym, subst}
use Rattle.image_graph.specs.State.{config_of}
use Rattle.cycle_pauses.specs.Collect.{CanPauseSome}
use Rattle.control.proofs.Images.{memory-image_in, image-collected, clear-collected}
use Rattle.control.proofs.pause.collect_image.Goals as goal

pub collect-requires : goal.collect-requires
collect-requires c = subst (CanPauseSome (config_of c.args.image.now)) (sym (memory-image_in c.args.image.now c.requires.clear)) c.requires.can

pub returns-clause-image : goal.returns-clause-image
returns-clause-image c = image-collected c.args.image.now c.collect.new.image c.requires.clear c.collect.ensures.config c.collect.ensures.words

pub returns-clause-clear : goal.returns-clause-clear
returns-clause-clear c = clear-collected c.args.image.now c.collect.new.image c.requires.clear c.collect.ensures.config c.collect.ensures.words
