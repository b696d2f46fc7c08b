use Rattle.std.proofs.Common.{◌≡◌, ◌↔◌, true, sym, ap, ◌∙◌, subst}
use Rattle.heap_words.specs.declared.place.Place.TheVariants.{LV}
use Rattle.heap_words.specs.declared.access.Took.{Took}
use Rattle.heap_words.specs.declared.access.Took.TheVariants.{Done}
use Rattle.shen_graph.specs.declared.order.Order.{Order}
use Rattle.shen_graph.specs.declared.order.Order.TheVariants.{Nothing}
use Rattle.mutator.specs.Orders.{takes_at, takes_commands}
use Rattle.mutator.specs.Rows.{next_of, place_at, reply_at}
use Rattle.mutator.specs.Fit.{IsFit}
use Rattle.mutator.specs.Seen.{seen}
use Rattle.mutator.proofs.Orders.{in_progress, takes_where_busy}
use Rattle.mutator.proofs.Beginning.{begins, says_more, waits_nowhere}
use Rattle.mutator.proofs.Leaving.{ends, replies}
use Rattle.mutator.proofs.thread.Mutator.took_from.Goals as goal

pub go_on-requires-clause-none : goal.go_on-requires-clause-none
go_on-requires-clause-none c =
    let mutator = c.args.self.now in
    in_progress mutator.spot mutator.made mutator.order (ap takes_commands c.requires.at ∙ sym c.takes_commands.ensures ∙ c.if-takes_commands.false) (takes_where_busy _ _ _ c.requires.busy mutator.allowed)

pub go_on-requires-clause-takes : goal.go_on-requires-clause-takes
go_on-requires-clause-takes c =
    let mutator = c.args.self.now in
    let takes = takes_where_busy _ _ _ c.requires.busy mutator.allowed in
    subst (λ (order : Order). takes_at mutator.spot mutator.made order ≡ true) (in_progress mutator.spot mutator.made mutator.order (ap takes_commands c.requires.at ∙ sym c.takes_commands.ensures ∙ c.if-takes_commands.false) takes) takes

pub go_on-requires-clause-fit : goal.go_on-requires-clause-fit
go_on-requires-clause-fit c =
    let mutator = c.args.self.now in
    let no_order = in_progress mutator.spot mutator.made mutator.order (ap takes_commands c.requires.at ∙ sym c.takes_commands.ensures ∙ c.if-takes_commands.false) (takes_where_busy _ _ _ c.requires.busy mutator.allowed) in
    subst (λ (order : Order). IsFit mutator.config (seen mutator) order c.args.got) no_order c.requires.fit

pub returns-clause-seen : goal.returns-clause-seen
returns-clause-seen c =
    let mutator = c.args.self.now in
    let no_order = in_progress mutator.spot mutator.made mutator.order (ap takes_commands c.requires.at ∙ sym c.takes_commands.ensures ∙ c.if-takes_commands.false) (takes_where_busy _ _ _ c.requires.busy mutator.allowed) in
    c.go_on.ensures.seen ∙ ap (λ (order : Order). next_of mutator.config (seen mutator) order c.args.got) (sym no_order)

pub returns-clause-done : goal.returns-clause-done
returns-clause-done c = let mutator = c.args.self.now in rw c.go_on.ensures.answer (ends mutator.config mutator.kept mutator.order mutator.spot c.args.got)

pub returns-clause-replied : goal.returns-clause-replied
returns-clause-replied c =
    let mutator = c.args.self.now in
    λ said_done no_reply. replies mutator.config (seen mutator) Nothing c.args.got mutator.spot (sym c.go_on.ensures.answer ∙ said_done) (sym (ap (λ next_state. reply_at next_state.spot) c.go_on.ensures.seen) ∙ no_reply)

pub returns-then-takes_commands-clause-seen : goal.returns-then-takes_commands-clause-seen
returns-then-takes_commands-clause-seen c =
    let mutator = c.args.self.now in
    c.obey.ensures.seen ∙ sym (begins mutator.config (seen mutator) mutator.order c.args.got mutator.spot (ap takes_commands c.requires.at ∙ sym c.takes_commands.ensures ∙ c.if-takes_commands.true))

pub returns-then-takes_commands-clause-answer : goal.returns-then-takes_commands-clause-answer
returns-then-takes_commands-clause-answer c =
    let mutator = c.args.self.now in
    sym (says_more mutator.config mutator.kept mutator.spot c.args.got (ap takes_commands c.requires.at ∙ sym c.takes_commands.ensures ∙ c.if-takes_commands.true))

pub returns-then-takes_commands-clause-done : goal.returns-then-takes_commands-clause-done
returns-then-takes_commands-clause-done c =
    let mutator = c.args.self.now in
    subst (λ (said : Took). (said ≡ Done) ↔ (place_at mutator.order mutator.spot ≡ LV)) (says_more mutator.config mutator.kept mutator.spot c.args.got (ap takes_commands c.requires.at ∙ sym c.takes_commands.ensures ∙ c.if-takes_commands.true)) (ends mutator.config mutator.kept mutator.order mutator.spot c.args.got)

pub returns-then-takes_commands-clause-replied : goal.returns-then-takes_commands-clause-replied
returns-then-takes_commands-clause-replied c = λ said_done. absurd (cc (said_done))

pub returns-then-takes_commands-clause-again : goal.returns-then-takes_commands-clause-again
returns-then-takes_commands-clause-again c =
    let mutator = c.args.self.now in
    (λ said_again. absurd (cc (said_again)), λ waits. absurd (waits_nowhere mutator.spot c.args.got (ap takes_commands c.requires.at ∙ sym c.takes_commands.ensures ∙ c.if-takes_commands.true) waits))
