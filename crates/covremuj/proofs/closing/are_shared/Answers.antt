use Rattle.std.proofs.Common.{◌∙◌}
use Rattle.covremuj.proofs.HeldLists.{set_same}
use Rattle.covremuj.proofs.closing.are_shared.Goals as goal

pub returns : goal.returns
returns c = c.all_of.ensures ∙ set_same c.args.handles.now 0 c.index-handles-0.result c.share_of.new.handle c.share_of.ensures
