use Rattle.std.proofs.Common.{length, ap, ◌∙◌, subst}
use Rattle.covremuj.specs.OpenedHandles.{seats_held}
use Rattle.covremuj.specs.declared.asked.Asked.TheVariants.{Numbered}
use Rattle.covremuj.specs.ClosedHandles.{each_shows, AnswersBy}
use Rattle.covremuj.proofs.HandlesAsked.{some_there, some_answered}
use Rattle.covremuj.proofs.closing.refuses.Goals as goal

pub returns-clause-answer : goal.returns-clause-answer
returns-clause-answer c =
    let handles = c.args.handles.now in
    let filled_held = c.all_show-filled.ensures.held in
    let second = c.all_show-numbered.ensures.held ∙ filled_held in
    let filled = c.all_show-filled.ensures.shown in
    let numbered = c.all_show-numbered.ensures.shown ∙ ap (each_shows Numbered) filled_held in
    let over_shown = c.all_show-over.ensures.shown ∙ ap (each_shows c.args.last) second in
    some_answered c.args.last handles c.answer_by.result (some_there (length handles) c.is_empty.result c.is_empty.ensures c.if-is_empty.false)
    (subst (λ filled. AnswersBy filled (each_shows Numbered (seats_held handles)) (each_shows c.args.last (seats_held handles)) c.answer_by.result) filled
    (subst (λ numbered. AnswersBy c.all_show-filled.result numbered (each_shows c.args.last (seats_held handles)) c.answer_by.result) numbered
    (subst (λ over_shown. AnswersBy c.all_show-filled.result c.all_show-numbered.result over_shown c.answer_by.result) over_shown c.answer_by.ensures)))
