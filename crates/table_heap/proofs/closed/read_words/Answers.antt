use Rattle.std.proofs.Common.{ℕ, ◌≡◌, ◌+◌, ◌<◌, List, length, get_or, refl, sym, ap, ◌∙◌, subst, arith}
use Rattle.std.specs.Slots.{slots_items, slots_counts}
use Rattle.std.proofs.lemmas.List.{length-set, ext_get_or}
use Rattle.heap_words.specs.declared.config.Config.{Config}
use Rattle.heap_words.specs.Words.{table_words}
use Rattle.image_graph.specs.State.{config_of, words_of}
use Rattle.table_heap.proofs.Closing.{read_next}
use Rattle.table_heap.proofs.closed.read_words.Goals as goal

pub loop-at-init : goal.loop-at-init
loop-at-init c = record { config = refl; long = c.args.image.now.all_words ∙ c.requires.room; read = λ index index_below. absurd (omega (arith, index_below)) }

pub set_word-requires : goal.set_word-requires
set_word-requires c =
    let whole_table : c.table_words-at-end.result ≡ table_words (config_of c.args.image.now) = c.table_words-at-end.ensures ∙ ap table_words c.config.ensures in
    subst (λ (config : Config). c.loop-at.at < table_words config) (sym c.loop-at.invariant.config) (omega (arith, c.loop-at-test.true, whole_table))

pub loop-at-preserved : goal.loop-at-preserved
loop-at-preserved c =
    let loop_turn = c.loop-at in
    let whole_table : c.table_words-at-end.result ≡ table_words (config_of c.args.image.now) = c.table_words-at-end.ensures ∙ ap table_words c.config.ensures in
    let within : loop_turn.at < length (words_of loop_turn.image) = omega (arith, c.loop-at-test.true, whole_table, c.requires.room, loop_turn.invariant.long) in
    record {
      config = c.set_word.ensures.config ∙ loop_turn.invariant.config;
      long = ap length c.set_word.ensures.words ∙ length-set (words_of loop_turn.image) loop_turn.at c.word.result ∙ loop_turn.invariant.long;
      read = subst (λ (word_list : List ℕ). (index : ℕ) → index < loop_turn.at + 1 → get_or word_list index 0 ≡ get_or (slots_items c.args.rows.now.words) index 0) (sym c.set_word.ensures.words)
          (read_next (slots_items c.args.rows.now.words) (words_of loop_turn.image) loop_turn.at c.word.result within c.word.ensures loop_turn.invariant.read);
    }

pub returns-clause-words : goal.returns-clause-words
returns-clause-words c =
    let loop_turn = c.loop-at in
    let whole_table : c.table_words-at-end.result ≡ table_words (config_of c.args.image.now) = c.table_words-at-end.ensures ∙ ap table_words c.config.ensures in
    ext_get_or 0 (words_of loop_turn.image) (slots_items c.args.rows.now.words) (loop_turn.invariant.long ∙ (slots_counts c.args.rows.now.words).0)
    (λ index index_below. loop_turn.invariant.read index (omega (arith, index_below, c.loop-at-test.false, whole_table, c.requires.room, loop_turn.invariant.long)))
