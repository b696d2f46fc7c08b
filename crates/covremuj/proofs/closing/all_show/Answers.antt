use Rattle.std.proofs.Common.{◌≡◌, ◌+◌, false, take, get_or, length, sym, ap, ◌∙◌, subst, arith}
use Rattle.covremuj.specs.OpenedHandles.{seats_held}
use Rattle.covremuj.specs.ClosedHandles.{shows, all_show, each_shows}
use Rattle.covremuj.proofs.HeldLists.{set_same}
use Rattle.covremuj.proofs.HandlesAsked.{show_more, show_not}
use Rattle.covremuj.proofs.closing.all_show.Goals as goal

pub returns-then-not-shows-clause-held : goal.returns-then-not-shows-clause-held
returns-then-not-shows-clause-held c =
    let loop = c.loop-at in
    set_same loop.handles loop.at c.index-handles-at.result c.shows.new.handle c.shows.ensures.held ∙ loop.invariant.0

pub returns-then-not-shows-clause-shown : goal.returns-then-not-shows-clause-shown
returns-then-not-shows-clause-shown c =
    let loop = c.loop-at in
    let default_handle = c.index-handles-at.result in
    let asked = c.args.asked in
    let shows_not = subst (λ count. shows asked count loop.at (get_or loop.handles loop.at default_handle).held ≡ false) loop.invariant.2 (sym c.shows.ensures.shown ∙ c.if-not-shows.true) in
    sym (ap (each_shows asked) (sym loop.invariant.0) ∙ show_not asked (length (seats_held loop.handles)) loop.handles loop.at default_handle (omega (arith, c.loop-at-test.true, loop.auto.handles)) shows_not)

pub loop-at-preserved : goal.loop-at-preserved
loop-at-preserved c =
    let loop = c.loop-at in
    let default_handle = c.index-handles-at.result in
    let same_seats = set_same loop.handles loop.at default_handle c.shows.new.handle c.shows.ensures.held in (
      same_seats ∙ loop.invariant.0,
      ap (λ held_seats. all_show c.args.asked (length c.args.handles.now) 0 (take (loop.at + 1) held_seats)) same_seats
          ∙ show_more c.args.asked (length c.args.handles.now) loop.handles loop.at default_handle (omega (arith, c.loop-at-test.true, loop.auto.handles)) (sym c.shows.ensures.shown ∙ c.if-not-shows.false) loop.invariant.1,
      loop.invariant.2 ∙ sym (ap length same_seats),
    )
