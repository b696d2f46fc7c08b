use Rattle.std.proofs.Common.{◌≡◌, ℕ, ◌<◌, List, ◌++◌, length, replicate, take, drop, ⊎_elim, sym, ap, ◌∙◌, subst, arith}
use Rattle.std.proofs.lemmas.Bool.{cases_lt}
use Rattle.std.proofs.lemmas.List.{take_at}
use Rattle.heap_words.specs.declared.config.Config.{Config}
use Rattle.image_graph.specs.State.{config_of, memory_of}
use Rattle.shen_graph.specs.GraphText.{names_of}
use Rattle.graph_placing.specs.ByName.{end_behind, Fits}
use Rattle.image_graph.specs.Plot.{heap_end}
use Rattle.graph_placing.specs.PlacedHeap.{IsPlaced}
use Rattle.graph_placing.specs.PlaceableText.{IsPlaceable}
use Rattle.graph_placing.specs.TextGraph.{text_graph}
use Rattle.graph_placing.proofs.GraphStands.{stands}
use Rattle.graph_placing.specs.NamesAnew.{name_anew, text_anew}
use Rattle.graph_placing.specs.Renaming.{AreOfThreads, AreCountsOf}
use Rattle.graph_placing.specs.NamesRewritten.{names_written}
use Rattle.graph_placing.proofs.WrittenAnew.{placed_anew}
use Rattle.graph_placing.proofs.TextsAnew as anew
use Rattle.graph_placing.proofs.SameGraphs.{graph_anew}
use Rattle.graph_placing.proofs.renewing.renew.Goals as goal

pub write_names-requires-clause-whole : goal.write_names-requires-clause-whole
write_names-requires-clause-whole c =
    let same_config : config_of c.in-Heap.image ≡ c.args.config = rw c.in-Heap.is at c.in_ok-image.ensures.config in
    subst (λ (config : Config). IsPlaceable config c.args.text.now) (sym same_config) c.requires.whole

pub write_names-requires-clause-fits : goal.write_names-requires-clause-fits
write_names-requires-clause-fits c =
    let config = c.args.config in
    let text = c.args.text.now in
    let same_config : config_of c.in-Heap.image ≡ config = rw c.in-Heap.is at c.in_ok-image.ensures.config in
    let fits : Fits config text = ⊎_elim
    (λ (too_large : heap_end config < end_behind config text (length text.rows)).
    absurd (let text_fits = c.in_ok-image.ensures.too_small.1 (λ all_fit. omega (arith, all_fit, too_large)) in let heap = c.in-Heap.is in cc))
    (λ (all_fit : Fits config text). all_fit)
    (cases_lt (heap_end config) (end_behind config text (length text.rows))) in
    subst (λ (config : Config). Fits config text) (sym same_config) fits

pub write_names-requires-clause-names : goal.write_names-requires-clause-names
write_names-requires-clause-names c =
    let same_config : config_of c.in-Heap.image ≡ c.args.config = rw c.in-Heap.is at c.in_ok-image.ensures.config in
    subst (λ (config : Config). AreOfThreads config.mutators (names_of c.args.text.now)) (sym same_config) c.requires.names

pub write_names-requires-clause-none : goal.write_names-requires-clause-none
write_names-requires-clause-none c =
    let same_config : config_of c.in-Heap.image ≡ c.args.config = rw c.in-Heap.is at c.in_ok-image.ensures.config in
    c.deref_mut.ensures.value ∙ c.in_ok-counts.ensures ∙ ap (λ (config : Config). replicate config.mutators 0) (sym same_config)

pub returns-clause-placed : goal.returns-clause-placed
returns-clause-placed c =
    let config = c.args.config in
    let text = c.args.text.now in
    let same_config : config_of c.in-Heap.image ≡ config = rw c.in-Heap.is at c.in_ok-image.ensures.config in
    let placed : IsPlaced config text (memory_of c.in-Heap.image) = rw c.in-Heap.is at c.in_ok-image.ensures.placed in
    let names_stored : memory_of c.write_names.new.image ≡ names_written config text (length text.rows) (memory_of c.in-Heap.image) =
    c.write_names.ensures.words ∙ ap (λ (config : Config). names_written config text (length text.rows) (memory_of c.in-Heap.image)) same_config in
    subst (IsPlaced config (text_anew text)) (sym names_stored) (placed_anew config text c.requires.whole (memory_of c.in-Heap.image) placed)

pub returns-clause-counts : goal.returns-clause-counts
returns-clause-counts c =
    let same_config : config_of c.in-Heap.image ≡ c.args.config = rw c.in-Heap.is at c.in_ok-image.ensures.config in
    let new = c.write_names.new.counts in
    let counts_back : take c.in_ok-counts.counts.len (new ++ drop (length new) c.in_ok-counts.counts.items) ≡ new =
    take_at new (drop (length new) c.in_ok-counts.counts.items) c.in_ok-counts.counts.len (c.write_names.auto.counts ∙ c.deref_mut.ensures.len) in
    subst (AreCountsOf (names_of c.args.text.now) c.args.config.mutators) (sym counts_back)
    (subst (λ (config : Config). AreCountsOf (names_of c.args.text.now) config.mutators new) same_config c.write_names.ensures.counts)

pub returns-clause-stands : goal.returns-clause-stands
returns-clause-stands c =
    let config = c.args.config in
    let text = c.args.text.now in
    let new = c.write_names.new.counts in
    let counts : List ℕ = take c.in_ok-counts.counts.len (new ++ drop (length new) c.in_ok-counts.counts.items) in
    let fits : Fits config text = ⊎_elim
    (λ (too_large : heap_end config < end_behind config text (length text.rows)).
    absurd (let text_fits = c.in_ok-image.ensures.too_small.1 (λ all_fit. omega (arith, all_fit, too_large)) in let heap = c.in-Heap.is in cc))
    (λ (all_fit : Fits config text). all_fit)
    (cases_lt (heap_end config) (end_behind config text (length text.rows))) in
    stands config (text_anew text) (anew.placeable_anew config text c.requires.whole) (anew.fits_anew config (name_anew (names_of text)) text fits) (memory_of c.write_names.new.image) (returns-clause-placed c)
    counts (text_graph (text_anew text) counts) (graph_anew config text c.requires.whole c.requires.names counts (returns-clause-counts c) fits)
