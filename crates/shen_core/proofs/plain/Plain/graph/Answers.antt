use Rattle.std.proofs.Common.{Some, ◌≡◌, ◌∙◌, map, refl, sym, ap, subst, arith}
use Rattle.std.specs.Prelude.{slice_get, ◌-◌}
use Rattle.std.proofs.lemmas.List.{length-set}
use Rattle.std.proofs.Math.Logic.{∥∥₁_map}
use Rattle.heap_words.specs.declared.config.Config.{Config}
use Rattle.image_graph.specs.Left.{StandsForSome, ShowsTheGraph}
use Rattle.heap_machines.specs.Image.{image_from}
use Rattle.heap_machines.specs.Pause.{pause_image}
use Rattle.step_core.specs.Begins.{graph_after}
use Rattle.heap_machines.specs.Shown.{shown}
use Rattle.shen_core.specs.Runs.{IsShownBySomeRun}
use Rattle.shen_core.proofs.Memory.{from_read, heap_here, shown_here, ordered_machines, ordered_none, ordered_heap}
use Rattle.shen_core.proofs.Graphs.{names, stand, some_can_show, some_stand}
use Rattle.step_core.specs.Settled.{control_number}
use Rattle.heap_machines.specs.Roles.{CanShow}
use Rattle.shen_core.proofs.plain.Plain.graph.Goals as goal

pub answer_graph-requires-clause-control : goal.answer_graph-requires-clause-control
answer_graph-requires-clause-control c =
    let plain = c.args.self.now in
    let machine = c.index_mut.result.now in
    let number : c.seats-control.result - 1 ≡ control_number plain.config = omega (arith, c.seats-control.ensures) in
    let machine_there = from_read plain.machines.items (c.seats-control.result - 1) machine (omega (arith, plain.all_machines, c.seats-control.ensures)) c.index_mut.ensures.value in
    let shown_there : slice_get (map shown plain.machines.items) (control_number plain.config) ≡ Some (shown machine) =
    ap (slice_get (map shown plain.machines.items)) (sym number) ∙ shown_here plain.machines.items (c.seats-control.result - 1) machine machine_there in
    subst (λ (config : Config). CanShow config (image_from config c.deref.result.now) (shown machine)) (sym (heap_here plain.config plain.machines.items (c.seats-control.result - 1) machine plain.one_heap machine_there))
    (subst (λ words. CanShow plain.config (image_from plain.config words) (shown machine)) (sym c.deref.ensures.value)
    (some_can_show plain.config plain.words.items (map shown plain.machines.items) c.requires.rest.mutators c.requires.rest.control plain.reached (shown machine) shown_there))

pub answer_graph-requires-clause-stand : goal.answer_graph-requires-clause-stand
answer_graph-requires-clause-stand c =
    let plain = c.args.self.now in
    let machine = c.index_mut.result.now in
    let machine_there = from_read plain.machines.items (c.seats-control.result - 1) machine (omega (arith, plain.all_machines, c.seats-control.ensures)) c.index_mut.ensures.value in
    subst (λ (config : Config). StandsForSome config c.deref.result.now) (sym (heap_here plain.config plain.machines.items (c.seats-control.result - 1) machine plain.one_heap machine_there))
    (subst (λ words. StandsForSome plain.config words) (sym c.deref.ensures.value)
    (some_stand plain.config plain.words.items (map shown plain.machines.items) c.requires.rest.mutators c.requires.rest.control plain.reached))

pub invariant_of-self : goal.invariant_of-self
invariant_of-self c =
    let plain = c.args.self.now in
    let machine = c.index_mut.result.now in
    let machine_there = from_read plain.machines.items (c.seats-control.result - 1) machine (omega (arith, plain.all_machines, c.seats-control.ensures)) c.index_mut.ensures.value in
    record {
      all_words = plain.all_words;
      all_machines = length-set plain.machines.items _ _ ∙ plain.all_machines;
      one_heap = ordered_heap plain.config plain.machines.items (c.seats-control.result - 1) machine c.answer_graph.new.self machine_there c.answer_graph.ensures.heap plain.one_heap;
      reached = ∥∥₁_map plain.reached (subst (λ machines. IsShownBySomeRun plain.config plain.words.items machines)
          (sym (ordered_machines plain.machines.items (c.seats-control.result - 1) machine c.answer_graph.new.self machine_there c.answer_graph.ensures.shown)));
    }

pub returns-clause-unchanged : goal.returns-clause-unchanged
returns-clause-unchanged c =
    let plain = c.args.self.now in
    let machine = c.index_mut.result.now in
    let machine_there = from_read plain.machines.items (c.seats-control.result - 1) machine (omega (arith, plain.all_machines, c.seats-control.ensures)) c.index_mut.ensures.value in
    record {
      config = refl;
      words = refl;
      machines = ordered_machines plain.machines.items (c.seats-control.result - 1) machine c.answer_graph.new.self machine_there c.answer_graph.ensures.shown;
      orders = ordered_none plain.machines.items (c.seats-control.result - 1) machine c.answer_graph.new.self machine_there c.answer_graph.ensures.order;
      notes = refl;
    }

pub returns-clause-shows : goal.returns-clause-shows
returns-clause-shows c run shown_by =
    let plain = c.args.self.now in
    let machine = c.index_mut.result.now in
    let machine_there = from_read plain.machines.items (c.seats-control.result - 1) machine (omega (arith, plain.all_machines, c.seats-control.ensures)) c.index_mut.ensures.value in
    let shows = subst (λ words. ShowsTheGraph plain.config words c.answer_graph.new.text) c.deref.ensures.value
    (subst (λ (config : Config). ShowsTheGraph config c.deref.result.now c.answer_graph.new.text) (heap_here plain.config plain.machines.items (c.seats-control.result - 1) machine plain.one_heap machine_there)
    c.answer_graph.ensures.shows) in
    shows (names plain.config plain.words.items (map shown plain.machines.items) c.requires.rest.mutators c.requires.rest.control run shown_by) (graph_after pause_image plain.config run)
    (stand plain.config plain.words.items (map shown plain.machines.items) c.requires.rest.mutators c.requires.rest.control run shown_by)
