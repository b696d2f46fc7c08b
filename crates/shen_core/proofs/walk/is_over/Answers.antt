use Rattle.std.proofs.Common.{◌≡◌, true, false, sym, ◌∙◌, subst, length}
use Rattle.std.specs.Prelude.{nat_le}
use Rattle.shen_core.specs.State.{config_of}
use Rattle.shen_core.specs.Progress.{IsInSeats}
use Rattle.shen_core.specs.Nexts.{IsOver, WalksOn}
use Rattle.shen_core.proofs.Items.{until_over, until_goes_on, replies_over, replies_go_on}
use Rattle.shen_core.proofs.walk.is_over.Goals as goal

pub returns-in-Until-clause-over : goal.returns-in-Until-clause-over
returns-in-Until-clause-over c = λ item_over.
    subst (λ item. IsOver c.args.plain.now c.args.work.now item) (sym c.in-Until.is)
    (until_over c.args.plain.now c.args.work.now c.in-Until.number c.in-Until.place (subst (λ item. IsInSeats (config_of c.args.plain.now) item) c.in-Until.is c.requires.item) (sym c.is_at_place.ensures ∙ item_over))

pub returns-in-Until-clause-more : goal.returns-in-Until-clause-more
returns-in-Until-clause-more c = λ walks_on.
    subst (λ item. WalksOn c.args.plain.now c.args.work.now item) (sym c.in-Until.is)
    (until_goes_on c.args.plain.now c.args.work.now c.in-Until.number c.in-Until.place (subst (λ item. IsInSeats (config_of c.args.plain.now) item) c.in-Until.is c.requires.item) (sym c.is_at_place.ensures ∙ walks_on))

pub returns-in-Replies-clause-over : goal.returns-in-Replies-clause-over
returns-in-Replies-clause-over c = λ item_over.
    subst (λ item. IsOver c.args.plain.now c.args.work.now item) (sym c.in-Replies.is)
    (replies_over c.args.plain.now c.args.work.now c.in-Replies.number c.in-Replies.count (subst (λ item. IsInSeats (config_of c.args.plain.now) item) c.in-Replies.is c.requires.item)
    (subst (λ list. nat_le c.in-Replies.count (length list) ≡ true) (c.list.ensures ∙ c.replies.ensures.replies) item_over))

pub returns-in-Replies-clause-more : goal.returns-in-Replies-clause-more
returns-in-Replies-clause-more c = λ walks_on.
    subst (λ item. WalksOn c.args.plain.now c.args.work.now item) (sym c.in-Replies.is)
    (replies_go_on c.args.plain.now c.args.work.now c.in-Replies.number c.in-Replies.count (subst (λ item. IsInSeats (config_of c.args.plain.now) item) c.in-Replies.is c.requires.item)
    (subst (λ list. nat_le c.in-Replies.count (length list) ≡ false) (c.list.ensures ∙ c.replies.ensures.replies) walks_on))
