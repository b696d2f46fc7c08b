-- Images of which only the words of the image matter.
use Rattle.std.proofs.Common.{◌≡◌, ℕ, ◌+◌, ◌<◌, List, ◌++◌, length, get_or, drop, replicate, sym, ap, ◌∙◌, subst, arith, length-drop}
use Rattle.std.proofs.lemmas.Grind.{same_number_lists}
use Rattle.std.proofs.lemmas.List.{get_or-replicate, get_or-drop, length-replicate}
use Rattle.std.proofs.Math.ListN.{get_or-append}
use Rattle.std.proofs.Math.Seq.{drop-append_seam}
use Rattle.heap_words.specs.declared.config.Config.{Config}
use Rattle.heap_words.specs.Words.{Word, image_start, table_words, view}
use Rattle.heap_world.specs.Change.{image_view, image_words}
use Rattle.image_graph.specs.declared.image.Image.{Image}
use Rattle.image_graph.specs.State.{config_of, words_of, memory_of}
use Rattle.cycle_pauses.specs.Collect.{collected, collect_image}
use Rattle.cycle_pauses.proofs.Images.{collected_table}
use Rattle.control.specs.Clear.{IsClear}
use Rattle.control.specs.Image.{image_in, image_from}
use Rattle.control.proofs.ToldByImage.{view-clear}

-- all its words are those of the image, and 0 before them
pub memory-image_in : (image : Image) → IsClear image → memory_of image ≡ image_view (config_of image) (image_in image)
memory-image_in image clear = view-clear (config_of image) (words_of image) image.all_words clear

-- the image has as many words as it should
pub length-image_in : (image : Image) → length (image_in image) ≡ image_words (config_of image)
length-image_in image = omega (arith, length-drop (image_start (config_of image)) (words_of image), image.all_words)

-- a list behind so many numbers that are 0
pub drop-zeros : (count : ℕ) (xs : List ℕ) → drop count (replicate count 0 ++ xs) ≡ xs
drop-zeros count xs = ap (λ dropped_count. drop dropped_count (replicate count 0 ++ xs)) (sym (length-replicate count 0)) ∙ drop-append_seam (replicate count 0) xs

pub get_or-zeros : (count : ℕ) (xs : List ℕ) (index : ℕ) → index < count → get_or (replicate count 0 ++ xs) index 0 ≡ 0
get_or-zeros count xs index index_below =
    get_or-append (replicate count 0) xs 0 index (omega (arith, index_below, length-replicate {A = ℕ} count 0)) ∙ get_or-replicate count index 0 0 index_below

-- What a pause makes of the words it makes of the image, and the words before that stay 0.
module _ (old new : Image) (clear : IsClear old) (config : config_of new ≡ config_of old) (words : memory_of new ≡ collected (config_of old) (memory_of old)) where
  abbrev c : Config
  c = config_of old

  -- all words after a pause
  words-collected : words_of new ≡ replicate (image_start c) 0 ++ collect_image c (image_in old)
  words-collected = collected_table c (image_in old) (words_of new) (new.all_words ∙ ap table_words config)
      (λ word given_word. ap (λ (memory : Word → ℕ). memory word) (ap (λ asked_config. view asked_config (words_of new)) (sym config) ∙ words ∙ ap (collected c) (memory-image_in old clear)))

  -- the image is the collected one
  pub image-collected : image_in new ≡ collect_image c (image_in old)
  image-collected =
      ap (λ asked_config. drop (image_start asked_config) (words_of new)) config ∙ ap (drop (image_start c)) words-collected ∙ drop-zeros (image_start c) (collect_image c (image_in old))

  -- with 0 before it again
  pub clear-collected : IsClear new
  clear-collected index index_below =
      ap (λ word_list. get_or word_list index 0) words-collected ∙ get_or-zeros (image_start c) (collect_image c (image_in old)) index (subst (λ asked_config. index < image_start asked_config) config index_below)

-- an image into which all words of a table were put
pub image-loaded : (config : Config) (image : Image) (table : List ℕ) → config_of image ≡ config → length table ≡ table_words config
    → ((index : ℕ) → index < image_words config → get_or (image_in image) index 0 ≡ get_or table (image_start config + index) 0) → image_in image ≡ image_from config table
image-loaded given_config image table config table_long same_words =
    let image_length : length (image_in image) ≡ image_words given_config = length-image_in image ∙ ap image_words config in
    let rest : length (image_from given_config table) ≡ image_words given_config = omega (arith, length-drop (image_start given_config) table, table_long) in
    same_number_lists (image_in image) (image_from given_config table) (image_length ∙ sym rest) (λ index index_below.
    let inside : index < image_words given_config = omega (arith, index_below, image_length) in
    same_words index inside ∙ sym (get_or-drop (image_start given_config) table index 0))
