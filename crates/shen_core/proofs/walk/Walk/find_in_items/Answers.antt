use Rattle.std.proofs.Common.{◌<◌, true, false, refl, sym, ap, ◌∙◌, subst}
use Rattle.std.specs.Prelude.{IfSome}
use Rattle.step_core.specs.Schedule.{next}
use Rattle.shen_core.specs.State.{config_of, seats_of}
use Rattle.shen_core.specs.Progress.{HasNext, IsInSeats}
use Rattle.shen_core.specs.Nexts.{IsDueNext}
use Rattle.shen_core.proofs.Finding.{item_within, left_walk, left_less, item_due, item_passed, item_idle}
use Rattle.shen_core.proofs.walk.Walk.find_in_items.Goals as goal
use Rattle.shen_core.proofs.walk.Walk.find_in_items.Goals.{else-not-is_over-via-then-not-is_over+else-has_next, else-not-is_over-via-else-not-is_over}

pub loop-item-init : goal.loop-item-init
loop-item-init c = record { walk = c.requires.walk; control = c.requires.control; same = λ scripts stage shows tells. refl }

pub is_over-requires-clause-item : goal.is_over-requires-clause-item
is_over-requires-clause-item c =
    subst (λ item_found. IfSome item_found (IsInSeats (config_of c.args.plain.now))) (c.item.ensures.present ∙ c.in-Some.is) (c.item.ensures.fits _ c.loop-item.invariant.walk).present

pub is_over-requires-clause-run : goal.is_over-requires-clause-run
is_over-requires-clause-run c = c.requires.run

pub has_next-requires-clause-number : goal.has_next-requires-clause-number
has_next-requires-clause-number c =
    subst (λ number. number < seats_of c.args.plain.now) (sym c.machine_of-number.ensures)
    (item_within (config_of c.args.plain.now) c.in-Some.item (subst (λ item_found. IfSome item_found (IsInSeats (config_of c.args.plain.now))) (c.item.ensures.present ∙ c.in-Some.is) (c.item.ensures.fits _ c.loop-item.invariant.walk).present))

pub has_next-requires-clause-orders : goal.has_next-requires-clause-orders
has_next-requires-clause-orders c = c.requires.run.orders

pub returns-then-has_next-clause-walk : goal.returns-then-has_next-clause-walk
returns-then-has_next-clause-walk c = c.item.ensures.fits _ c.loop-item.invariant.walk

pub returns-then-has_next-clause-same : goal.returns-then-has_next-clause-same
returns-then-has_next-clause-same c = λ scripts stage shows tells.
    c.loop-item.invariant.same scripts stage shows tells ∙ ap (next (config_of c.args.plain.now) scripts stage) (sym c.item.ensures.agenda)

pub returns-then-has_next-clause-due : goal.returns-then-has_next-clause-due
returns-then-has_next-clause-due c =
    subst (λ number. IsDueNext c.args.plain.now c.args.work.now c.item.new.self number) (sym c.machine_of-number.ensures)
    (item_due c.args.plain.now c.args.work.now c.item.new.self c.in-Some.item (c.item.ensures.control ∙ c.loop-item.invariant.control) (c.item.ensures.present ∙ c.in-Some.is) (c.is_over.ensures.more c.if-not-is_over.true) (subst (λ item_found. IfSome item_found (IsInSeats (config_of c.args.plain.now))) (c.item.ensures.present ∙ c.in-Some.is) (c.item.ensures.fits _ c.loop-item.invariant.walk).present) (subst (λ machine_number. HasNext c.args.plain.now machine_number true) c.machine_of-number.ensures c.if-has_next.ensures))

pub returns-then-has_next-clause-none : goal.returns-then-has_next-clause-none
returns-then-has_next-clause-none c = λ impossible. absurd cc

pub loop-item-smaller : goal.loop-item-smaller
loop-item-smaller c = left_less c.item.new.self c.in-Some.item _ (c.item.ensures.present ∙ c.in-Some.is) c.item.ensures.less

pub loop-item-preserved : goal.loop-item-preserved
loop-item-preserved c = record {
  walk = left_walk _ c.item.new.self (c.item.ensures.fits _ c.loop-item.invariant.walk);
  control = c.item.ensures.control ∙ c.loop-item.invariant.control;
  same = λ scripts stage shows tells.
      c.loop-item.invariant.same scripts stage shows tells ∙ ap (next (config_of c.args.plain.now) scripts stage) (sym c.item.ensures.agenda)
      ∙ elim c.else-not-is_over.branch [
        | else-not-is_over-via-then-not-is_over+else-has_next w ↦ item_idle c.args.plain.now c.args.work.now c.item.new.self c.in-Some.item (c.item.ensures.control ∙ c.loop-item.invariant.control) (c.item.ensures.present ∙ c.in-Some.is) (c.is_over.ensures.more w.if-not-is_over.true) (subst (λ number. HasNext c.args.plain.now number false) c.machine_of-number.ensures w.if-has_next.ensures) scripts stage shows tells
        | else-not-is_over-via-else-not-is_over w ↦ item_passed c.args.plain.now c.args.work.now c.item.new.self c.in-Some.item (c.item.ensures.control ∙ c.loop-item.invariant.control) (c.item.ensures.present ∙ c.in-Some.is) (c.is_over.ensures.over w.if-not-is_over.false) scripts stage shows tells
      ];
}

pub returns-clause-walk : goal.returns-clause-walk
returns-clause-walk c = c.item.ensures.fits _ c.loop-item.invariant.walk

pub returns-clause-same : goal.returns-clause-same
returns-clause-same c = λ scripts stage shows tells.
    c.loop-item.invariant.same scripts stage shows tells ∙ ap (next (config_of c.args.plain.now) scripts stage) (sym c.item.ensures.agenda)

pub returns-clause-none : goal.returns-clause-none
returns-clause-none c = λ _. record { control = c.item.ensures.control ∙ c.loop-item.invariant.control; present = c.item.ensures.present ∙ c.in_default.is; later = c.item.ensures.none c.in_default.is }
