use Rattle.std.specs.Prelude.{Ok}
use Rattle.std.proofs.Common.{◌≡◌, List, ℕ, sym, ap, ◌∙◌, subst}
use Rattle.heap_words.specs.declared.config.Config.{Config}
use Rattle.shen_graph.specs.Graph.{Graph}
use Rattle.shen_graph.specs.GraphText.{names_of}
use Rattle.heap_world.specs.Asking.{nothing}
use Rattle.heap_world.specs.Represents.{Represents}
use Rattle.image_graph.specs.State as images
use Rattle.heap_machines.specs.Pause.{pause_image}
use Rattle.step_core.specs.Begins.{Begins, graph_after}
use Rattle.heap_machines.specs.FromImage.{CanBeginFrom, stage_from}
use Rattle.shen_core.specs.State.{config_of, Shows}
use Rattle.graph_placing.specs.ByName.{Fits}
use Rattle.graph_placing.specs.PlaceableText.{IsPlaceable}
use Rattle.graph_placing.specs.PlacedHeap.{IsPlaced}
use Rattle.graph_placing.specs.TextGraph.{text_graph}
use Rattle.graph_placing.specs.declared.renewing.Renewed.{Renewed}
use Rattle.graph_placing.specs.NamesAnew.{text_anew}
use Rattle.graph_placing.specs.Renaming.{AreOfThreads, AreCountsOf}
use Rattle.graph_placing.proofs.PinsShown.{nothing_pinned, nothing_held, not_pinned}
use Rattle.graph_placing.proofs.ShownRenewable.{placeable, of_threads}
use Rattle.heap_machines.proofs.Placed.{placed_can_begin}
use Rattle.shen_core.proofs.Anew.{begins_anew}
use Rattle.shen_core.proofs.renewing.renew_heap.Goals as goal

pub renew-requires-clause-whole : goal.renew-requires-clause-whole
renew-requires-clause-whole c =
    let plain = c.args.plain.now in
    let config = config_of plain in
    let text = c.in_ok-text.text in
    let same_config : c.config-config.result ≡ config = c.config-config.ensures in
    let run = c.requires.renewable.run in
    let shows = c.in_ok-text.ensures.shows run c.requires.renewable.leads in
    subst (λ (config : Config). IsPlaceable config text) (sym same_config) (placeable config text (graph_after pause_image config run) c.requires.renewable.renewable shows)

pub renew-requires-clause-names : goal.renew-requires-clause-names
renew-requires-clause-names c =
    let plain = c.args.plain.now in
    let config = config_of plain in
    let text = c.in_ok-text.text in
    let same_config : c.config-config.result ≡ config = c.config-config.ensures in
    let run = c.requires.renewable.run in
    let shows = c.in_ok-text.ensures.shows run c.requires.renewable.leads in
    subst (λ (config : Config). AreOfThreads config.mutators (names_of text)) (sym same_config) (of_threads config text (graph_after pause_image config run) c.requires.renewable.renewable shows)

pub open_from-requires-clause-begins : goal.open_from-requires-clause-begins
open_from-requires-clause-begins c =
    let text = c.in_ok-text.text in
    let image = c.in-Heap.image in
    let counts = c.in-Heap.counts.items in
    let sizes : images.config_of image ≡ c.config-config.result = rw c.in-Heap.is at c.in_ok-image.ensures.config in
    let placed : IsPlaced c.config-config.result (text_anew text) (images.memory_of image) = rw c.in-Heap.is at c.in_ok-image.ensures.placed in
    let stands : Represents c.config-config.result (images.memory_of image) (text_graph (text_anew text) counts) (λ m. nothing) = rw c.in-Heap.is at c.in_ok-image.ensures.stands in
    let can_begin = placed_can_begin c.config-config.result text counts (images.memory_of image) placed stands in
    ∣ (
      text_graph (text_anew text) counts,
      subst (λ (xs : List ℕ). CanBeginFrom (images.config_of image) (images.memory_of image) xs (text_graph (text_anew text) counts)) (sym c.deref.ensures.value)
          (subst (λ (config : Config). CanBeginFrom config (images.memory_of image) counts (text_graph (text_anew text) counts)) (sym sizes) can_begin),
    ) ∣₁

pub returns-in-Heap-clause-renewed : goal.returns-in-Heap-clause-renewed
returns-in-Heap-clause-renewed c = λ now leads.
    let plain = c.args.plain.now in
    let config = config_of plain in
    let text = c.in_ok-text.text in
    let same_config : c.config-config.result ≡ config = c.config-config.ensures in
    let run = c.requires.renewable.run in
    let shows = c.in_ok-text.ensures.shows run c.requires.renewable.leads in
    let image = c.in-Heap.image in
    let counts = c.in-Heap.counts.items in
    let sizes : images.config_of image ≡ c.config-config.result = rw c.in-Heap.is at c.in_ok-image.ensures.config in
    let placed : IsPlaced c.config-config.result (text_anew text) (images.memory_of image) = rw c.in-Heap.is at c.in_ok-image.ensures.placed in
    let stands : Represents c.config-config.result (images.memory_of image) (text_graph (text_anew text) counts) (λ m. nothing) = rw c.in-Heap.is at c.in_ok-image.ensures.stands in
    let can_begin = placed_can_begin c.config-config.result text counts (images.memory_of image) placed stands in
    let text_placeable = placeable config text (graph_after pause_image config run) c.requires.renewable.renewable shows in
    let threads = of_threads config text (graph_after pause_image config run) c.requires.renewable.renewable shows in
    let made_counts : AreCountsOf (names_of text) c.config-config.result.mutators counts = rw c.in-Heap.is at c.in_ok-image.ensures.counts in
    let new = c.in_ok-plain-in-Heap.plain in
    begins_anew config text text_placeable threads (graph_after pause_image config now) (c.in_ok-text.ensures.shows now leads) counts (subst (λ (config : Config). AreCountsOf (names_of text) config.mutators counts) same_config made_counts) new image
    (c.in_ok-plain-in-Heap.ensures.config ∙ sizes ∙ same_config) (sizes ∙ same_config)
    (subst (λ (xs : List ℕ). Shows new (stage_from (images.config_of image) (images.words_of image) xs)) c.deref.ensures.value c.in_ok-plain-in-Heap.ensures.stage)
    (subst (λ (xs : List ℕ). (graph : Graph) → CanBeginFrom (images.config_of image) (images.memory_of image) xs graph → Begins (images.config_of image) (stage_from (images.config_of image) (images.words_of image) xs) graph) c.deref.ensures.value
    c.in_ok-plain-in-Heap.ensures.begins)
    (subst (λ (config : Config). CanBeginFrom config (images.memory_of image) counts (text_graph (text_anew text) counts)) same_config can_begin)
    (nothing_pinned text config.mutators (graph_after pause_image config now) (c.in_ok-text.ensures.shows now leads) c.in_ok-text.ensures.threads
    (not_pinned text (λ pinned. let is = c.in_ok-image.ensures.pinned.1 pinned in let heap = c.in-Heap.is in absurd (cc))))

pub returns-in-Pinned-clause-pinned : goal.returns-in-Pinned-clause-pinned
returns-in-Pinned-clause-pinned c = λ told now leads none.
    let config = config_of c.args.plain.now in
    let text = c.in_ok-text.text in
    c.in_ok-image.ensures.pinned.0 (ap (λ (renewed : Renewed). Ok renewed) c.in-Pinned.is) (nothing_held text config.mutators (graph_after pause_image config now) (c.in_ok-text.ensures.shows now leads) c.in_ok-text.ensures.threads none)

pub returns-clause-too_small : goal.returns-clause-too_small
returns-clause-too_small c = λ told now leads.
    let config = config_of c.args.plain.now in
    let text = c.in_ok-text.text in
    (text, c.in_ok-text.ensures.shows now leads, subst (λ (config : Config). Fits config text → ⊥) c.config-config.ensures (c.in_ok-image.ensures.too_small.0 (ap (λ (renewed : Renewed). Ok renewed) c.in-TooSmall.is)).1)
