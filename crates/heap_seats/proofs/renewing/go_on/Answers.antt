use Rattle.std.proofs.Common.{sym, subst}
use Rattle.heap_words.specs.declared.config.Config.{Config}
use Rattle.shen_graph.specs.GraphText.{names_of}
use Rattle.heap_world.specs.Shows.{ShowsGraph}
use Rattle.heap_words.specs.Steps.{Stage}
use Rattle.step_core.specs.Actor.{Actor}
use Rattle.graph_placing.specs.PlaceableText.{IsPlaceable}
use Rattle.graph_placing.specs.Renaming.{AreOfThreads}
use Rattle.table_heap.specs.Closed as ends
use Rattle.heap_seats.specs.declared.renewing.Renewal.TheVariants as renewals
use Rattle.heap_seats.specs.Renewed.{KeepsNames, BeginSeats, IsGraphLeft}
use Rattle.heap_seats.specs.RenewalStage.{IsLeftKept}
use Rattle.heap_seats.proofs.Followed.{begin_others, left_shown}
use Rattle.heap_seats.proofs.LeftGraphs.{left_placeable, left_threads}
use Rattle.heap_seats.proofs.renewing.go_on.Goals as goal

pub renewed_seats-renewed-requires-clause-whole : goal.renewed_seats-renewed-requires-clause-whole
renewed_seats-renewed-requires-clause-whole c =
    let closed = c.args.closed in
    subst (λ (config : Config). IsPlaceable config c.graph.new.text) (sym c.requires.sizes) (left_placeable (ends.config_of closed) (ends.stage_of closed) c.requires.begins c.graph.new.text c.graph.ensures.shows)

pub renewed_seats-renewed-requires-clause-names : goal.renewed_seats-renewed-requires-clause-names
renewed_seats-renewed-requires-clause-names c =
    let closed = c.args.closed in
    subst (λ (config : Config). AreOfThreads config.mutators (names_of c.graph.new.text)) (sym c.requires.sizes) (left_threads (ends.config_of closed) (ends.stage_of closed) c.requires.begins c.graph.new.text c.graph.ensures.shows)

pub returns-in-Ok : goal.returns-in-Ok
returns-in-Ok c =
    let config = ends.config_of c.args.closed in
    let stage_left = ends.stage_of c.args.closed in
    let text = c.graph.new.text in
    let seats = c.in-Ok.seats.items in
    begin_others config (ShowsGraph text config.mutators) (IsGraphLeft config stage_left) renewals.Renewed seats (left_shown config stage_left text c.graph.ensures.shows)
    (subst (λ (config : Config). BeginSeats config (ShowsGraph text config.mutators) renewals.Renewed seats) c.requires.sizes c.in-Ok.ensures.renewed)

pub returns-in-Ok-reopened_seats : goal.returns-in-Ok-reopened_seats
returns-in-Ok-reopened_seats c =
    let config = ends.config_of c.args.closed in
    let stage_left = ends.stage_of c.args.closed in
    let new = c.graph.new.self in
    let text = c.graph.new.text in
    let cause = c.in-Err.renewal in
    let seats = c.in-Ok-reopened_seats.seats.items in
    begin_others config (IsLeftKept config stage_left cause) (IsGraphLeft config stage_left) cause seats
    (λ graph is_left. record {
      is_left = is_left;
      keeps = subst (λ (config : Config). KeepsNames cause config graph) c.requires.sizes (c.in-Err.ensures.kept graph (subst (λ (config : Config). ShowsGraph text config.mutators graph) (sym c.requires.sizes) (left_shown config stage_left text c.graph.ensures.shows graph is_left)));
    })
    (subst (λ (stage : Stage Actor). BeginSeats config (IsLeftKept config stage cause) cause seats) c.graph.ensures.unchanged.stage
    (subst (λ (config : Config). BeginSeats config (IsLeftKept config (ends.stage_of new) cause) cause seats) c.graph.ensures.unchanged.config (c.in-Ok-reopened_seats.ensures cause)))
