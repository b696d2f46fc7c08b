use Rattle.std.proofs.Common.{◌≡◌, ◌<◌, ◌+◌, ◌*◌, ℕ, [], refl, sym, ap, ◌∙◌, arith}
use Rattle.heap_words.specs.declared.config.Config.{Config}
use Rattle.heap_words.specs.Words.{Word, Grey, Black, word_at, write, bit_words}
use Rattle.heap_world.specs.Walk.{has}
use Rattle.image_graph.specs.State.{config_of, memory_of}
use Rattle.image_graph.proofs.NamedStores.{stored}
use Rattle.cycle_words.specs.Marking.Marks.{mark_bits}
use Rattle.mark_core.specs.Steps.{greyed}
use Rattle.mark_core.proofs.Colours.{bits_none}
use Rattle.mark_core.proofs.FoundStays.{still_found}
use Rattle.mark_core.proofs.LoopTurns.{greyed_none, greyed_next}
use Rattle.mark_core.proofs.colour.clear_marks.Goals as goal

pub loop-word-init : goal.loop-word-init
loop-word-init c = record {
  config = refl;
  same = refl;
  found = c.requires;
  words = greyed_none (config_of c.args.image.now) (has []) (memory_of c.args.image.now);
}

pub loop-word-preserved : goal.loop-word-preserved
loop-word-preserved c =
    let old = c.args.image.now in
    let config = config_of old in
    let memory : Word → ℕ = memory_of old in
    let empty_set = has [] in
    let word = c.loop-word.word in
    let image_now = c.loop-word.image in
    let first_cleared = c.set_word.new.self in
    let second_cleared = c.set_word-in-loop-word.new.self in
    let cleared_so_far = c.loop-word.invariant in
    let same_config : c.config-config.result ≡ config = c.config-config.ensures in
    let word_below : word < bit_words config = omega (arith, c.loop-word-test.true, c.mark_words-word-end.ensures.value, ap bit_words same_config) in
    let bits : 0 ≡ mark_bits config empty_set word = sym (bits_none empty_set (config.region_words + 64 * word) 64 (λ k few. refl)) in
    let to_one = stored (config_of image_now) config (memory_of image_now) (memory_of first_cleared) (Grey word) c.grey_at.result 0
    cleared_so_far.config word_below (c.grey_at.ensures ∙ ap (λ (config : Config). word_at config (Grey word)) same_config) c.set_word.ensures.named in
    let to_two = stored (config_of first_cleared) config (memory_of first_cleared) (memory_of second_cleared) (Black word) c.black_at.result 0
    (c.set_word.ensures.config ∙ cleared_so_far.config) word_below (c.black_at.ensures ∙ ap (λ (config : Config). word_at config (Black word)) same_config) c.set_word-in-loop-word.ensures.named in
    record {
      config = c.set_word-in-loop-word.ensures.config ∙ c.set_word.ensures.config ∙ cleared_so_far.config;
      same = c.set_word-in-loop-word.ensures.found ∙ c.set_word.ensures.found ∙ cleared_so_far.same;
      found = still_found first_cleared second_cleared c.set_word-in-loop-word.ensures.config c.set_word-in-loop-word.ensures.marks c.set_word-in-loop-word.ensures.found
          (still_found image_now first_cleared c.set_word.ensures.config c.set_word.ensures.marks c.set_word.ensures.found cleared_so_far.found);
      words = to_two
          ∙ ap (λ k. write k (Black word) 0) (to_one ∙ ap (λ k. write k (Grey word) 0) cleared_so_far.words ∙ ap (write (greyed config empty_set word memory) (Grey word)) bits)
          ∙ greyed_next config empty_set word memory;
    }

pub returns-clause-words : goal.returns-clause-words
returns-clause-words c =
    let old = c.args.image.now in
    let config = config_of old in
    let all_words : c.loop-word.word ≡ bit_words config =
    omega (arith, c.loop-word-test.false, c.loop-word.auto.word-end, c.mark_words-word-end.ensures.value, ap bit_words c.config-config.ensures) in
    c.loop-word.invariant.words ∙ ap (λ count. greyed config (has []) count (memory_of old)) all_words
