use Rattle.std.proofs.Common.{◌≡◌, ◌+◌, suc, refl, ap, ◌∙◌, arith}
use Rattle.heap_words.specs.declared.config.Config.{Config}
use Rattle.shen_graph.specs.GraphText.{row_of}
use Rattle.image_graph.specs.State.{config_of, memory_of}
use Rattle.graph_placing.specs.ByName.{words_of_row, address_of}
use Rattle.graph_placing.specs.PlacedHeap.{word_for, words_of_object}
use Rattle.graph_placing.specs.Writing.{copied, with_top, rows_placed}
use Rattle.graph_placing.proofs.Written.{rows_none, rows_more}
use Rattle.graph_placing.proofs.objects.write_objects.Goals as goal

pub loop-row-init : goal.loop-row-init
loop-row-init c = record { config = refl; words = rows_none (config_of c.args.image.now) c.args.text.now (memory_of c.args.image.now) c.requires.empty }

pub loop-row-preserved : goal.loop-row-preserved
loop-row-preserved c =
    let config = config_of c.args.image.now in
    let text = c.args.text.now in
    let row = c.loop-row.row in
    let image_before = c.loop-row.image in
    let image_then = c.write_object.new.image in
    let so_far = c.loop-row.invariant in
    let written : memory_of image_then ≡ copied (address_of config text row) (words_of_row text row) (words_of_object (word_for config text) (row_of text row)) (rows_placed config text row) =
    c.write_object.ensures.words
    ∙ ap (λ (config : Config). copied (address_of config text row) (words_of_row text row) (words_of_object (word_for config text) (row_of text row)) (memory_of image_before)) so_far.config
    ∙ ap (copied (address_of config text row) (words_of_row text row) (words_of_object (word_for config text) (row_of text row))) so_far.words in
    let next_row : suc row ≡ row + 1 = omega arith in
    record {
      config = c.raise_top.ensures.config ∙ c.write_object.ensures.config ∙ so_far.config;
      words = c.raise_top.ensures.words ∙ ap (λ (config : Config). with_top config text row (memory_of image_then)) (c.write_object.ensures.config ∙ so_far.config) ∙ ap (with_top config text row) written ∙ rows_more config text row
          ∙ ap (rows_placed config text) next_row;
    }
