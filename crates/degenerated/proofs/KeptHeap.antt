-- The words of the heap that an image has kept: to what an address leads by them.
use Rattle.std.proofs.Common.{◌≡◌, ℕ, ◌+◌, ◌-◌, ◌<◌, ◌≤◌, cond, List, length, drop, get_or, ⊎_elim, sym, ap, ◌∙◌, arith}
use Rattle.std.proofs.lemmas.Bool.{cases_lt}
use Rattle.std.proofs.lemmas.Bool.Decides.{nat_tests}
use Rattle.std.proofs.lemmas.List.{get_or-take, get_or-drop, get_or_past}
use Rattle.heap_words.specs.declared.config.Config.{Config}
use Rattle.heap_words.specs.Words.{Heap, word_at, table_words, heap_size, heap_start, heap_in, view}
use Rattle.heap_words.specs.Encoding.{is_forwarded, forwardee_in}
use Rattle.heap_words.proofs.Stores.{view_word, view_none}
use Rattle.regions.specs.Table.{word_of, now_of}
use Rattle.image_graph.specs.Plot.{heap_end}
use Rattle.image_graph.specs.Full.{now_in}
use Rattle.image_graph.specs.declared.image.Image.{Image}
use Rattle.image_graph.specs.State.{config_of, words_of, places_of, IsUnchanged}
use Rattle.image_graph.proofs.Packed.{heap_part}
use Rattle.image_graph.proofs.HeapParts.{heap_length}
use Rattle.degenerated.specs.Steps.{kept_now}

-- images that have kept the same words
pub kept_same : (image other_image : Image) → config_of other_image ≡ config_of image → places_of other_image ≡ places_of image → kept_now other_image ≡ kept_now image
kept_same image other_image config places = ap (λ (config : Config). now_of config.region_words (places_of other_image)) config ∙ ap (now_of (config_of image).region_words) places

-- what was kept are the words of the heap at that time
pub kept_from : (image other_image : Image) → IsUnchanged image other_image → places_of other_image ≡ heap_in (config_of image) (words_of image) → kept_now other_image ≡ now_of (config_of image).region_words (heap_in (config_of image) (words_of image))
kept_from image other_image unchanged same_places = ap (λ (config : Config). now_of config.region_words (places_of other_image)) unchanged.config ∙ ap (now_of (config_of image).region_words) same_places

-- a word of the heap, in the slice
heap_word : (config : Config) (words : List ℕ) → length words ≡ table_words config → (address : ℕ) → config.region_words ≤ address → word_of config.region_words (heap_in config words) address ≡ view config words (Heap address)
heap_word config words table_length address above_first =
    let same_place : heap_start config + (address - config.region_words) ≡ word_at config (Heap address) = omega (arith, above_first) in
    ⊎_elim
    (λ (below_end : address < heap_end config).
    ap (λ xs. get_or xs (address - config.region_words) 0) (heap_part config words)
    ∙ get_or-take (heap_size config) (drop (heap_start config) words) (address - config.region_words) 0 (omega (arith, below_end, above_first))
    ∙ get_or-drop (heap_start config) words (address - config.region_words) 0
    ∙ ap (λ index. get_or words index 0) same_place ∙ sym (view_word config words (Heap address) (above_first, below_end)))
    (λ (past_end : heap_end config ≤ address).
    get_or_past (heap_in config words) (address - config.region_words) 0 (omega (arith, heap_length config words table_length, past_end, above_first)) ∙ sym (view_none config words (Heap address) (grind (arith, nat_tests))))
    (cases_lt address (heap_end config))

-- so an address leads where its header says
pub kept_is : (config : Config) (words : List ℕ) → length words ≡ table_words config → (address : ℕ) → config.region_words ≤ address → now_of config.region_words (heap_in config words) address ≡ now_in (view config words) address
kept_is config words table_length address above_first = ap (λ header. cond (is_forwarded header) (forwardee_in header) address) (heap_word config words table_length address above_first)
