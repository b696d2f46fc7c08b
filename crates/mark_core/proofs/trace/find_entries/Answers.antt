use Rattle.std.proofs.Common.{◌≡◌, ◌<◌, ℕ, map, sym, ap, ◌∙◌, subst, arith}
use Rattle.std.specs.List.{range_with_len}
use Rattle.heap_words.specs.declared.config.Config.{Config}
use Rattle.heap_words.specs.Words.{Word, Count, Buffer, word_at}
use Rattle.heap_world.specs.Walk.{with_addresses}
use Rattle.image_graph.specs.State.{config_of, memory_of, found_of}
use Rattle.mark_core.specs.Trace.{IsNullOrInside}
use Rattle.image_graph.proofs.Same.{memory_same, carried, both}
use Rattle.mark_core.proofs.Listed.{noted_step}
use Rattle.mark_core.proofs.Tracing.{entry_inside}
use Rattle.mark_core.proofs.trace.find_entries.Goals as goal

pub find-requires-clause-inside : goal.find-requires-clause-inside
find-requires-clause-inside c =
    let mutator = c.args.mutator in
    let entry = c.loop-entry.entry in
    let old = c.args.image.now in
    let config = config_of old in
    let memory : Word → ℕ = memory_of old in
    let current_image = c.loop-entry.image in
    let unchanged_image = c.loop-entry.invariant.unchanged in
    let count : c.word-count.result ≡ memory (Count mutator) =
    c.word-count.ensures.named (Count mutator) c.requires.mutator (ap (λ (config : Config). word_at config (Count mutator)) (sym c.config-config.ensures) ∙ sym c.count_at.ensures) in
    let entry_below : entry < memory (Count mutator) = omega (arith, count, c.loop-entry-test.true) in
    let few_entries : entry < 8 = omega (arith, entry_below, c.requires.can.counts mutator c.requires.mutator) in
    let value : c.word-word.result ≡ memory_of current_image (Buffer mutator entry) =
    c.word-word.ensures.named (Buffer mutator entry) (omega (arith, c.requires.mutator, ap (λ (config : Config). config.mutators) unchanged_image.config), few_entries)
    (ap (λ (config : Config). word_at config (Buffer mutator entry)) (unchanged_image.config ∙ sym c.config-config.ensures) ∙ sym c.buffer_at.ensures) in
    subst (IsNullOrInside (config_of current_image)) (sym value)
    (carried (λ given_config memory_then. IsNullOrInside given_config (memory_then (Buffer mutator entry))) old current_image unchanged_image (entry_inside config memory c.requires.can mutator entry c.requires.mutator entry_below))

pub loop-entry-preserved : goal.loop-entry-preserved
loop-entry-preserved c =
    let mutator = c.args.mutator in
    let entry = c.loop-entry.entry in
    let old = c.args.image.now in
    let memory : Word → ℕ = memory_of old in
    let current_image = c.loop-entry.image in
    let unchanged_image = c.loop-entry.invariant.unchanged in
    let count : c.word-count.result ≡ memory (Count mutator) =
    c.word-count.ensures.named (Count mutator) c.requires.mutator (ap (λ (config : Config). word_at config (Count mutator)) (sym c.config-config.ensures) ∙ sym c.count_at.ensures) in
    let entry_below : entry < 8 = omega (arith, count, c.loop-entry-test.true, c.requires.can.counts mutator c.requires.mutator) in
    let value : c.word-word.result ≡ memory_of current_image (Buffer mutator entry) =
    c.word-word.ensures.named (Buffer mutator entry) (omega (arith, c.requires.mutator, ap (λ (config : Config). config.mutators) unchanged_image.config), entry_below)
    (ap (λ (config : Config). word_at config (Buffer mutator entry)) (unchanged_image.config ∙ sym c.config-config.ensures) ∙ sym c.buffer_at.ensures) in
    record {
      unchanged = both old current_image c.find.new.self unchanged_image c.find.ensures.unchanged;
      found = c.find.ensures.found;
      noted = noted_step (found_of old) (found_of current_image) (found_of c.find.new.self) (λ entry. memory (Buffer mutator entry)) entry c.word-word.result c.loop-entry.invariant.noted
          (value ∙ ap (λ memory_then. memory_then (Buffer mutator entry)) (memory_same old current_image unchanged_image)) c.find.ensures.noted;
    }

pub returns-clause-noted : goal.returns-clause-noted
returns-clause-noted c =
    let mutator = c.args.mutator in
    let old = c.args.image.now in
    let memory : Word → ℕ = memory_of old in
    let count : c.word-count.result ≡ memory (Count mutator) =
    c.word-count.ensures.named (Count mutator) c.requires.mutator (ap (λ (config : Config). word_at config (Count mutator)) (sym c.config-config.ensures) ∙ sym c.count_at.ensures) in
    let all_entries : c.loop-entry.entry ≡ memory (Count mutator) = omega (arith, count, c.loop-entry-test.false, c.loop-entry.auto.entry-end) in
    c.loop-entry.invariant.noted ∙ ap (λ entries. with_addresses (found_of old) (map (λ entry. memory (Buffer mutator entry)) (range_with_len 0 entries))) all_entries
