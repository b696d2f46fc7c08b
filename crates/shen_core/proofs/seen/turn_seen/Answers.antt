use Rattle.std.proofs.Common.{◌≡◌, true, false, refl, sym, ap, ◌∙◌, subst}
use Rattle.std.specs.Prelude.{slice_index}
use Rattle.shen_core.specs.Progress.{CanRun, HasTurned}
use Rattle.shen_core.proofs.Noted.{can_run_on, can_run_noted, turned_on, turned_noted, none_given, reply_given, can_tell}
use Rattle.shen_core.proofs.Stepping.{stepped, sees_turn, settles_turn}
use Rattle.shen_core.proofs.seen.turn_seen.Goals as goal

pub told-requires-clause-script : goal.told-requires-clause-script
told-requires-clause-script c =
    let facts = (stepped c.args.plain.now c.order_next.new.self c.step-said.new.self c.args.work.now c.args.number _ c.step-said.result c.requires.number c.order_next.ensures.words c.order_next.ensures.machines c.order_next.ensures.config c.order_next.ensures.orders c.order_next.ensures.turn c.order_next.ensures.next c.order_next.ensures.has c.if-not-order_next.false c.step-said.ensures.event c.step-said.ensures.says c.step-said.ensures.machines c.step-said.ensures.orders c.step-said.ensures.config) in
    (can_tell _ _ _ _ _ _ facts c.requires.run c.in-Done.is).0

pub told-requires-clause-more : goal.told-requires-clause-more
told-requires-clause-more c =
    let facts = (stepped c.args.plain.now c.order_next.new.self c.step-said.new.self c.args.work.now c.args.number _ c.step-said.result c.requires.number c.order_next.ensures.words c.order_next.ensures.machines c.order_next.ensures.config c.order_next.ensures.orders c.order_next.ensures.turn c.order_next.ensures.next c.order_next.ensures.has c.if-not-order_next.false c.step-said.ensures.event c.step-said.ensures.says c.step-said.ensures.machines c.step-said.ensures.orders c.step-said.ensures.config) in
    (can_tell _ _ _ _ _ _ facts c.requires.run c.in-Done.is).1

pub returns-in-Done-clause-run : goal.returns-in-Done-clause-run
returns-in-Done-clause-run c =
    let facts = (stepped c.args.plain.now c.order_next.new.self c.step-said.new.self c.args.work.now c.args.number _ c.step-said.result c.requires.number c.order_next.ensures.words c.order_next.ensures.machines c.order_next.ensures.config c.order_next.ensures.orders c.order_next.ensures.turn c.order_next.ensures.next c.order_next.ensures.has c.if-not-order_next.false c.step-said.ensures.event c.step-said.ensures.says c.step-said.ensures.machines c.step-said.ensures.orders c.step-said.ensures.config) in
    subst (λ jobs. CanRun c.step-said.new.self jobs) (sym c.told.ensures)
    (can_run_noted _ _ _ _ _ _ facts c.reply.result (reply_given _ _ _ _ _ _ facts c.reply.result c.in-Done.is c.reply.ensures) c.requires.run)

pub returns-in-Done-clause-turned : goal.returns-in-Done-clause-turned
returns-in-Done-clause-turned c =
    let facts = (stepped c.args.plain.now c.order_next.new.self c.step-said.new.self c.args.work.now c.args.number _ c.step-said.result c.requires.number c.order_next.ensures.words c.order_next.ensures.machines c.order_next.ensures.config c.order_next.ensures.orders c.order_next.ensures.turn c.order_next.ensures.next c.order_next.ensures.has c.if-not-order_next.false c.step-said.ensures.event c.step-said.ensures.says c.step-said.ensures.machines c.step-said.ensures.orders c.step-said.ensures.config) in
    subst (λ jobs. HasTurned c.args.plain.now c.args.work.now c.args.number c.step-said.new.self jobs c.step-said.result) (sym c.told.ensures)
    (turned_noted _ _ _ _ _ _ facts c.reply.result (reply_given _ _ _ _ _ _ facts c.reply.result c.in-Done.is c.reply.ensures) (can_tell _ _ _ _ _ _ facts c.requires.run c.in-Done.is).0)

pub returns-in-Done-clause-seen : goal.returns-in-Done-clause-seen
returns-in-Done-clause-seen c =
    let facts = (stepped c.args.plain.now c.order_next.new.self c.step-said.new.self c.args.work.now c.args.number _ c.step-said.result c.requires.number c.order_next.ensures.words c.order_next.ensures.machines c.order_next.ensures.config c.order_next.ensures.orders c.order_next.ensures.turn c.order_next.ensures.next c.order_next.ensures.has c.if-not-order_next.false c.step-said.ensures.event c.step-said.ensures.says c.step-said.ensures.machines c.step-said.ensures.orders c.step-said.ensures.config) in
    sees_turn _ _ _ _ _ _ _ facts refl c.in_ok-place.ensures.place c.plan-access.ensures.row (c.word-found.ensures ∙ ap (slice_index _) c.at.ensures)

pub returns-in-Done-clause-settles : goal.returns-in-Done-clause-settles
returns-in-Done-clause-settles c =
    let facts = (stepped c.args.plain.now c.order_next.new.self c.step-said.new.self c.args.work.now c.args.number _ c.step-said.result c.requires.number c.order_next.ensures.words c.order_next.ensures.machines c.order_next.ensures.config c.order_next.ensures.orders c.order_next.ensures.turn c.order_next.ensures.next c.order_next.ensures.has c.if-not-order_next.false c.step-said.ensures.event c.step-said.ensures.says c.step-said.ensures.machines c.step-said.ensures.orders c.step-said.ensures.config) in
    settles_turn _ _ _ _ _ _ _ facts c.settles-settles.ensures

pub returns-in_default : goal.returns-in_default
returns-in_default c =
    let facts = (stepped c.args.plain.now c.order_next.new.self c.step-said.new.self c.args.work.now c.args.number _ c.step-said.result c.requires.number c.order_next.ensures.words c.order_next.ensures.machines c.order_next.ensures.config c.order_next.ensures.orders c.order_next.ensures.turn c.order_next.ensures.next c.order_next.ensures.has c.if-not-order_next.false c.step-said.ensures.event c.step-said.ensures.says c.step-said.ensures.machines c.step-said.ensures.orders c.step-said.ensures.config) in
    record {
      run = can_run_on _ _ _ _ _ _ facts (none_given _ _ _ _ _ _ facts (λ is_done. c.in_default.not-Done is_done)) c.requires.run;
      config = c.step-said.ensures.config ∙ c.order_next.ensures.config;
      turned = turned_on _ _ _ _ _ _ facts (none_given _ _ _ _ _ _ facts (λ is_done. c.in_default.not-Done is_done));
      moved = λ idle. absurd (let none = c.step-said.ensures.idle.0 idle in let has_order = c.order_next.ensures.has ∙ c.if-not-order_next.false in let impossible : true ≡ false = sym has_order ∙ none in cc);
      idle = λ none. cc;
      idle_work = λ none. cc;
      seen = sees_turn _ _ _ _ _ _ _ facts refl c.in_ok-place.ensures.place c.plan-access.ensures.row (c.word-found.ensures ∙ ap (slice_index _) c.at.ensures);
      settles = settles_turn _ _ _ _ _ _ _ facts c.settles-settles.ensures;
    }
