use Rattle.std.proofs.Common.{◌≡◌, vec_len, ap, ◌∙◌}
use Rattle.std.proofs.lemmas.Result.{IfOk-weaker}
use Rattle.find_play.specs.declared.test.Test.{Test}
use Rattle.find_play.specs.Told.{Told, told_in}
use Rattle.find_play.proofs.Following.{threads_stay, version_stays}
use Rattle.find_play.proofs.read.body_of.Goals as goal

pub returns-clause-version : goal.returns-clause-version
returns-clause-version c =
    let taken = c.in_ok-line.ensures.ok in
    let stay = version_stays (told_in c.in-Ok.draft) (told_in c.take_lines.new.draft) taken.lines taken.lead in
    let same_version = ap (λ (told : Told). told.version) c.in-Ok.ensures in
    IfOk-weaker c.finish.result (λ (test : Test). test.version ≡ c.take_lines.new.draft.version) (λ (test : Test). test.version ≡ c.args.version)
    (λ test version. version ∙ stay ∙ same_version) c.finish.ensures.version

pub returns-clause-threads : goal.returns-clause-threads
returns-clause-threads c =
    let taken = c.in_ok-line.ensures.ok in
    let stay = threads_stay (told_in c.in-Ok.draft) (told_in c.take_lines.new.draft) taken.lines taken.lead in
    let same_threads = ap (λ (told : Told). told.threads) c.in-Ok.ensures in
    IfOk-weaker c.finish.result (λ (test : Test). vec_len test.programs ≡ c.take_lines.new.draft.threads) (λ (test : Test). vec_len test.programs ≡ c.args.config.mutators)
    (λ test threads. threads ∙ stay ∙ same_threads ∙ c.mutators.ensures) c.finish.ensures.threads
