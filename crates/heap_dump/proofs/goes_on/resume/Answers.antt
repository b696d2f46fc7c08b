use Rattle.std.proofs.Common.{◌≡◌, List, subst, arith, ap, ◌∙◌}
use Rattle.heap_words.specs.declared.config.Config.{Config}
use Rattle.heap_words.specs.Words.{view, table_words}
use Rattle.heap_words.specs.Steps.{Stage, Event}
use Rattle.shen_graph.specs.Graph.{Graph}
use Rattle.shen_graph.specs.declared.order.Order.{Order}
use Rattle.image_graph.specs.declared.image.Image.{Image}
use Rattle.image_graph.specs.State as images
use Rattle.heap_machines.specs.Pause.{pause_image}
use Rattle.step_core.specs.Actor.{Actor}
use Rattle.step_core.specs.Begins.{Begins}
use Rattle.step_core.specs.Schedule.{schedule_events}
use Rattle.heap_machines.specs.FromImage.{stage_from}
use Rattle.graph_placing.specs.PlacedHeap.{IsPlaced}
use Rattle.heap_dump.specs.Dumped.{dumped, graph_in}
use Rattle.heap_dump.specs.RunFromStage.{HasEndedFrom}
use Rattle.heap_dump.proofs.WholeFrom.{run_of, whole_from, all_rest_from, answer_from}
use Rattle.heap_dump.proofs.goes_on.resume.Goals as goal

pub graph_of-requires-clause-rest : goal.graph_of-requires-clause-rest
graph_of-requires-clause-rest c =
    let dump = c.args.dump.now in
    let start : Stage Actor = stage_from dump.config (images.words_of c.in-Heap.image) dump.counts in
    let has_ended : HasEndedFrom dump.config start c.args.scripts.items c.args.schedule.now c.args.steps c.in-Some.replies c.in-Some.plain = rw c.in-Some.is at c.in_ok-replies.ensures.ended in
    all_rest_from dump.config start (graph_in (dumped dump.config dump.counts dump.graph)) c.in_ok-replies.ensures.begins c.args.scripts.items c.requires.count c.args.schedule.now c.args.steps c.in-Some.replies c.in-Some.plain has_ended

pub returns-clause-answered : goal.returns-clause-answered
returns-clause-answered c =
    let dump = c.args.dump.now in
    let image : Image = c.in-Heap.image in
    let graph : Graph = graph_in (dumped dump.config dump.counts dump.graph) in
    let start : Stage Actor = stage_from dump.config (images.words_of c.in-Heap.image) dump.counts in
    let events : List (Event Order) = schedule_events pause_image dump.config c.args.scripts.items c.args.schedule.now c.args.steps start in
    let has_ended : HasEndedFrom dump.config start c.args.scripts.items c.args.schedule.now c.args.steps c.in-Some.replies c.in-Some.plain = rw c.in-Some.is at c.in_ok-replies.ensures.ended in
    let same_config : images.config_of image ≡ dump.config = rw c.in-Heap.is at c.in_ok-image.ensures.config in
    let placed : IsPlaced dump.config dump.graph (images.memory_of image) = rw c.in-Heap.is at c.in_ok-image.ensures.placed in
    let begins : Begins dump.config start graph = c.in_ok-replies.ensures.begins in
    record {
      words = images.words_of image;
      size = image.all_words ∙ ap table_words same_config;
      placed = subst (λ (config : Config). IsPlaced dump.config dump.graph (view config (images.words_of image))) same_config placed;
      whole = whole_from dump.config start graph begins c.args.scripts.items c.requires.count events has_ended.called has_ended.idle;
      text = answer_from dump.config start graph begins c.args.scripts.items c.requires.count c.args.schedule.now c.args.steps c.in-Some.replies c.in-Some.plain has_ended c.in_ok-graph.graph c.in_ok-graph.ensures.threads
          (c.in_ok-graph.ensures.shows (run_of dump.config start graph begins events) has_ended.shows);
    }

pub returns-clause-scripts : goal.returns-clause-scripts
returns-clause-scripts c = λ mutator mutator_below.
    let dump = c.args.dump.now in
    let start : Stage Actor = stage_from dump.config (images.words_of c.in-Heap.image) dump.counts in
    let has_ended : HasEndedFrom dump.config start c.args.scripts.items c.args.schedule.now c.args.steps c.in-Some.replies c.in-Some.plain = rw c.in-Some.is at c.in_ok-replies.ensures.ended in
    has_ended.jobs_are mutator (omega (arith, mutator_below, c.in_ok-graph.ensures.threads))
