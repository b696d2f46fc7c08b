use Rattle.std.proofs.Common.{◌≡◌, None, length, ap, sym, subst, ◌∙◌}
use Rattle.find_play.specs.Plays.{Programs, Begun, Nobody, Another, StepsOn, opening}
use Rattle.find_play.specs.Scenes.{scene}
use Rattle.find_play.proofs.cast.Cast.open.Goals as goal

pub loop-number-init : goal.loop-number-init
loop-number-init c =
    let test = c.args.test.now in
    let same_scene : scene c.in_ok-cast.cast ≡ opening test.bounds.returns (length test.notes) = c.in_ok-cast.ensures ∙ ap (opening test.bounds.returns) c.len.ensures in
    subst (Begun test.programs.items (opening test.bounds.returns (length test.notes)) 0) (sym same_scene) Nobody

pub loop-number-preserved : goal.loop-number-preserved
loop-number-preserved c =
    Another c.loop-number.number (scene c.loop-number.cast) (scene c.step.new.self) c.loop-number.invariant
    (subst (λ (programs : Programs). StepsOn programs c.loop-number.number None (scene c.loop-number.cast) (scene c.step.new.self)) c.deref.ensures.value c.step.ensures)
