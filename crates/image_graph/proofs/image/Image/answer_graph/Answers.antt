use Rattle.std.proofs.Common.{length, ap, ◌∙◌, arith}
use Rattle.heap_words.proofs.Bounds.{end_small}
use Rattle.image_graph.proofs.HeapParts.{heap_length, roots_length, pins_length}
use Rattle.std.proofs.Common.{subst}
use Rattle.heap_world.specs.Shows as texts
use Rattle.image_graph.proofs.image.Image.answer_graph.Goals as goal

pub write_graph-requires-clause-stand : goal.write_graph-requires-clause-stand
write_graph-requires-clause-stand c = rw (c.region_words.ensures, c.heap_in.ensures, c.deref.ensures.value, c.roots_in.ensures, c.deref-2.ensures.value, c.pins_in.ensures, c.deref-3.ensures.value) c.requires.stand

pub returns-clause-shows : goal.returns-clause-shows
returns-clause-shows c = λ naming graph stands.
    subst (λ threads. texts.ShowsGraph c.write_graph.new.text threads graph) c.requires.threads
    (c.write_graph.ensures.shows naming graph (rw (c.region_words.ensures, c.heap_in.ensures, c.deref.ensures.value, c.roots_in.ensures, c.deref-2.ensures.value, c.pins_in.ensures, c.deref-3.ensures.value) stands))

pub heap_in-requires : goal.heap_in-requires
heap_in-requires c = ap length c.deref.ensures.value ∙ c.args.self.now.all_words

pub roots_in-requires : goal.roots_in-requires
roots_in-requires c = ap length c.deref-2.ensures.value ∙ c.args.self.now.all_words

pub pins_in-requires : goal.pins_in-requires
pins_in-requires c = ap length c.deref-3.ensures.value ∙ c.args.self.now.all_words

pub write_graph-requires-clause-first : goal.write_graph-requires-clause-first
write_graph-requires-clause-first c = omega (arith, c.region_words.ensures, c.args.self.now.config.in_range.least_words)

pub write_graph-requires-clause-marks : goal.write_graph-requires-clause-marks
write_graph-requires-clause-marks c =
    let heap = ap length c.heap_in.ensures ∙ heap_length c.args.self.now.config c.deref.result.now (ap length c.deref.ensures.value ∙ c.args.self.now.all_words) in
    omega (arith, heap, ap length c.deref_mut.ensures.value, c.args.self.now.all_marks)

pub write_graph-requires-clause-order : goal.write_graph-requires-clause-order
write_graph-requires-clause-order c =
    let heap = ap length c.heap_in.ensures ∙ heap_length c.args.self.now.config c.deref.result.now (ap length c.deref.ensures.value ∙ c.args.self.now.all_words) in
    omega (arith, heap, c.args.self.now.enough_addresses)

pub write_graph-requires-clause-words : goal.write_graph-requires-clause-words
write_graph-requires-clause-words c =
    let heap = ap length c.heap_in.ensures ∙ heap_length c.args.self.now.config c.deref.result.now (ap length c.deref.ensures.value ∙ c.args.self.now.all_words) in
    omega (arith, heap, c.requires.room)

pub write_graph-requires-clause-threads : goal.write_graph-requires-clause-threads
write_graph-requires-clause-threads c =
    let roots = ap length c.roots_in.ensures ∙ roots_length c.args.self.now.config c.deref-2.result.now (ap length c.deref-2.ensures.value ∙ c.args.self.now.all_words) in
    omega (arith, roots, c.requires.threads)

pub write_graph-requires-clause-few : goal.write_graph-requires-clause-few
write_graph-requires-clause-few c = omega (arith, c.requires.threads, c.args.self.now.config.in_range.most_mutators)

pub write_graph-requires-clause-slots : goal.write_graph-requires-clause-slots
write_graph-requires-clause-slots c =
    let pins = ap length c.pins_in.ensures ∙ pins_length c.args.self.now.config c.deref-3.result.now (ap length c.deref-3.ensures.value ∙ c.args.self.now.all_words) in
    omega (arith, pins, c.requires.threads)

pub write_graph-requires-clause-small : goal.write_graph-requires-clause-small
write_graph-requires-clause-small c =
    let heap = ap length c.heap_in.ensures ∙ heap_length c.args.self.now.config c.deref.result.now (ap length c.deref.ensures.value ∙ c.args.self.now.all_words) in
    omega (arith, c.region_words.ensures, heap, end_small c.args.self.now.config)
