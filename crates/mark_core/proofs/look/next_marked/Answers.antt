use Rattle.std.proofs.Common.{◌≡◌, ℕ, ◌+◌, ◌-◌, ◌%◌, ◌<◌, ◌≤◌, slice_index, ⊎_elim, ap, ◌∙◌, arith}
use Rattle.std.proofs.lemmas.Bool.{cases_lt}
use Rattle.heap_words.specs.declared.config.Config.{Config}
use Rattle.image_graph.specs.State.{config_of, words_of}
use Rattle.regions.specs.Marks.{mark_word, mark_bit}
use Rattle.mark_core.proofs.NextMarked.{none_left, first_found}
use Rattle.mark_core.proofs.look.next_marked.Goals as goal

pub returns-then-bits-ne0-clause-none : goal.returns-then-bits-ne0-clause-none
returns-then-bits-ne0-clause-none c = λ address from address_below.
    let config = config_of c.args.image.now in
    let word_start : ℕ = c.loop-at.at in
    let marks : ℕ → ℕ = λ word_number. slice_index (words_of c.args.image.now) (c.args.row + word_number) in
    let same_config : c.config-config.result ≡ config = c.config-config.ensures in
    let same_words : c.region_words-first.result ≡ config.region_words = c.region_words-first.ensures ∙ ap (λ (config : Config). config.region_words) same_config in
    let start_above : config.region_words ≤ word_start = omega (arith, c.requires.above, c.loop-at.invariant.from) in
    let word : c.word.result ≡ marks (mark_word config word_start) = c.word.ensures.value ∙ ap marks (c.mark_word.ensures.value ∙ ap (λ (config : Config). mark_word config word_start) same_config) in
    let same_bit : (word_start - c.region_words-first.result) % 64 ≡ mark_bit config word_start = ap (λ x. (word_start - x) % 64) same_words in
    let marked_found = first_found config marks word_start start_above c.word.result ((word_start - c.region_words-first.result) % 64) c.args.end c.min.result word same_bit c.word.type_inv c.if-bits-ne0.true c.min.ensures in
    ⊎_elim (λ (address_before : address < word_start). c.loop-at.invariant.none address from address_before) (λ (in_word : word_start ≤ address). marked_found.0 address in_word address_below) (cases_lt address word_start)

pub returns-then-bits-ne0-clause-marked : goal.returns-then-bits-ne0-clause-marked
returns-then-bits-ne0-clause-marked c = λ found_below.
    let config = config_of c.args.image.now in
    let word_start : ℕ = c.loop-at.at in
    let marks : ℕ → ℕ = λ word_number. slice_index (words_of c.args.image.now) (c.args.row + word_number) in
    let same_config : c.config-config.result ≡ config = c.config-config.ensures in
    let same_words : c.region_words-first.result ≡ config.region_words = c.region_words-first.ensures ∙ ap (λ (config : Config). config.region_words) same_config in
    let start_above : config.region_words ≤ word_start = omega (arith, c.requires.above, c.loop-at.invariant.from) in
    let word : c.word.result ≡ marks (mark_word config word_start) = c.word.ensures.value ∙ ap marks (c.mark_word.ensures.value ∙ ap (λ (config : Config). mark_word config word_start) same_config) in
    let same_bit : (word_start - c.region_words-first.result) % 64 ≡ mark_bit config word_start = ap (λ x. (word_start - x) % 64) same_words in
    let marked_found = first_found config marks word_start start_above c.word.result ((word_start - c.region_words-first.result) % 64) c.args.end c.min.result word same_bit c.word.type_inv c.if-bits-ne0.true c.min.ensures in
    marked_found.1 found_below

pub loop-at-preserved : goal.loop-at-preserved
loop-at-preserved c =
    let config = config_of c.args.image.now in
    let word_start : ℕ = c.loop-at.at in
    let marks : ℕ → ℕ = λ word_number. slice_index (words_of c.args.image.now) (c.args.row + word_number) in
    let same_config : c.config-config.result ≡ config = c.config-config.ensures in
    let same_words : c.region_words-first.result ≡ config.region_words = c.region_words-first.ensures ∙ ap (λ (config : Config). config.region_words) same_config in
    let start_above : config.region_words ≤ word_start = omega (arith, c.requires.above, c.loop-at.invariant.from) in
    let word : c.word.result ≡ marks (mark_word config word_start) = c.word.ensures.value ∙ ap marks (c.mark_word.ensures.value ∙ ap (λ (config : Config). mark_word config word_start) same_config) in
    let same_bit : (word_start - c.region_words-first.result) % 64 ≡ mark_bit config word_start = ap (λ x. (word_start - x) % 64) same_words in
    record {
      from = omega (arith, c.loop-at.invariant.from);
      none = λ address from address_below. ⊎_elim
          (λ (address_before : address < word_start). c.loop-at.invariant.none address from address_before)
          (λ (in_word : word_start ≤ address). none_left config marks word_start start_above c.word.result ((word_start - c.region_words-first.result) % 64) word same_bit c.if-bits-ne0.false address in_word address_below)
          (cases_lt address word_start);
    }
