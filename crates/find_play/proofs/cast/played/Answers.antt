use Rattle.std.proofs.Common.{length, subst}
use Rattle.shen_graph.specs.Noting.{seen}
use Rattle.find_play.specs.Plays.{Programs, Nothing}
use Rattle.find_play.specs.Scenes.{scene, IsNextEntry}
use Rattle.find_play.proofs.Playing.{played_on}
use Rattle.find_play.proofs.cast.played.Goals as goal

pub loop-at-init : goal.loop-at-init
loop-at-init c = record { begun = scene c.in_ok-cast.cast; begins = c.in_ok-cast.ensures; plays = Nothing }

pub loop-at-preserved : goal.loop-at-preserved
loop-at-preserved c =
    let test = c.args.test.now in
    played_on test.programs.items test.bounds.returns (length test.notes) c.args.history.now.list c.loop-at.at (seen c.entry.result) (scene c.loop-at.cast) (scene c.answer.new.self) c.entry.ensures c.loop-at.invariant
    (subst (λ (programs : Programs). IsNextEntry programs (seen c.entry.result) (scene c.loop-at.cast) (scene c.answer.new.self)) c.deref.ensures.value (c.answer.ensures.answers c.if-not-answer.false))
