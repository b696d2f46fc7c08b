use Rattle.std.proofs.Common.{◌≡◌, ℕ, List, All, sym, ◌∙◌, subst}
use Rattle.heap_words.specs.declared.config.Config.{Config}
use Rattle.shen_graph.specs.Graph.{Graph}
use Rattle.image_graph.specs.declared.image.Image.{Image}
use Rattle.image_graph.specs.State as images
use Rattle.step_core.specs.Begins.{Begins}
use Rattle.shen_core.specs.declared.plain.Plain.{Plain}
use Rattle.shen_core.specs.State.{Shows}
use Rattle.heap_machines.specs.FromImage.{CanBeginFrom, stage_from}
use Rattle.shen_core.specs.Progress.{CanRun, IsInSeats}
use Rattle.heap_dump.specs.Dumped.{dumped, graph_in}
use Rattle.heap_dump.proofs.StageFrom.{can_run_from, ended, cut}
use Rattle.heap_dump.proofs.goes_on.run.Goals as goal

-- the heap that was opened shows the stage by other names for its sizes and counts
shows_from : (plain : Plain) (image : Image) (config : Config) (held_counts counts : List ℕ) → images.config_of image ≡ config → held_counts ≡ counts → Shows plain (stage_from (images.config_of image) (images.words_of image) held_counts) → Shows plain (stage_from config (images.words_of image) counts)
shows_from plain image config held_counts counts same_config same_counts shows =
    subst (λ (config : Config). Shows plain (stage_from config (images.words_of image) counts)) same_config (subst (λ (some_counts : List ℕ). Shows plain (stage_from (images.config_of image) (images.words_of image) some_counts)) same_counts shows)

begins_by : (image : Image) (config : Config) (held_counts counts : List ℕ) (graph : Graph) → images.config_of image ≡ config → held_counts ≡ counts → CanBeginFrom config (images.memory_of image) counts graph
    → ((other_graph : Graph) → CanBeginFrom (images.config_of image) (images.memory_of image) held_counts other_graph → Begins (images.config_of image) (stage_from (images.config_of image) (images.words_of image) held_counts) other_graph)
    → Begins config (stage_from config (images.words_of image) counts) graph
begins_by image config held_counts counts graph same_config same_counts can_begin law =
    let can_too : CanBeginFrom (images.config_of image) (images.memory_of image) held_counts graph =
    subst (λ (config : Config). CanBeginFrom config (images.memory_of image) held_counts graph) (sym same_config) (subst (λ (some_counts : List ℕ). CanBeginFrom config (images.memory_of image) some_counts graph) (sym same_counts) can_begin) in
    subst (λ (config : Config). Begins config (stage_from config (images.words_of image) counts) graph) same_config
    (subst (λ (some_counts : List ℕ). Begins (images.config_of image) (stage_from (images.config_of image) (images.words_of image) some_counts) graph) same_counts (law graph can_too))

pub run-requires-clause-run : goal.run-requires-clause-run
run-requires-clause-run c =
    let dump = c.args.dump.now in
    let image = c.args.image in
    let plain_work = c.in_ok-plain.plain in
    let shows = shows_from plain_work image dump.config c.list.result.now dump.counts c.requires.heap c.list.ensures c.in_ok-plain.ensures.stage in
    subst (CanRun plain_work) (sym c.in-Ok.ensures)
    (can_run_from dump.config (images.words_of image) dump.counts plain_work c.args.scripts.items (c.in_ok-plain.ensures.config ∙ c.requires.heap) shows c.in_ok-plain.ensures.orders c.requires.count c.requires.dump.form.counts c.requires.runnable)

pub run-requires-clause-items : goal.run-requires-clause-items
run-requires-clause-items c = subst (λ (config : Config). All (IsInSeats config) c.args.schedule.now) (sym (c.in_ok-plain.ensures.config ∙ c.requires.heap)) c.requires.items

pub returns-in-Finished-clause-begins : goal.returns-in-Finished-clause-begins
returns-in-Finished-clause-begins c =
    let dump = c.args.dump.now in
    begins_by c.args.image dump.config c.list.result.now dump.counts (graph_in (dumped dump.config dump.counts dump.graph)) c.requires.heap c.list.ensures c.requires.begins c.in_ok-plain.ensures.begins

pub returns-in-Unfinished-clause-begins : goal.returns-in-Unfinished-clause-begins
returns-in-Unfinished-clause-begins c =
    let dump = c.args.dump.now in
    begins_by c.args.image dump.config c.list.result.now dump.counts (graph_in (dumped dump.config dump.counts dump.graph)) c.requires.heap c.list.ensures c.requires.begins c.in_ok-plain.ensures.begins

pub returns-in-Finished-clause-ended : goal.returns-in-Finished-clause-ended
returns-in-Finished-clause-ended c =
    let dump = c.args.dump.now in
    let image = c.args.image in
    let plain_work = c.in_ok-plain.plain in
    ended dump.config (images.words_of image) dump.counts plain_work c.run.new.self c.args.scripts.items c.args.schedule.now c.args.steps c.in-Ok.work c.run.new.work (c.in_ok-plain.ensures.config ∙ c.requires.heap)
    (shows_from plain_work image dump.config c.list.result.now dump.counts c.requires.heap c.list.ensures c.in_ok-plain.ensures.stage) c.requires.count c.in-Ok.ensures c.in-Finished.ensures.events c.in-Finished.ensures.config
    c.in-Finished.ensures.run

pub returns-in-Unfinished-clause-cut : goal.returns-in-Unfinished-clause-cut
returns-in-Unfinished-clause-cut c = λ is_unfinished.
    let dump = c.args.dump.now in
    let image = c.args.image in
    let plain_work = c.in_ok-plain.plain in
    cut dump.config (images.words_of image) dump.counts plain_work c.run.new.self c.args.scripts.items c.args.schedule.now c.args.steps c.in-Ok.work c.run.new.work (c.in_ok-plain.ensures.config ∙ c.requires.heap)
    (shows_from plain_work image dump.config c.list.result.now dump.counts c.requires.heap c.list.ensures c.in_ok-plain.ensures.stage) c.requires.count c.in-Ok.ensures c.in-Unfinished.ensures.events
