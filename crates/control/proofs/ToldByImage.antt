-- A table whose words before the image are 0 is told by its image.
use Rattle.std.proofs.Common.{◌≡◌, ℕ, ◌<◌, ◌≤◌, List, ◌++◌, length, get_or, take, drop, replicate, sym, ap, ◌∙◌, arith, length-take}
use Rattle.std.proofs.lemmas.Grind.{same_number_lists}
use Rattle.std.proofs.lemmas.List.{get_or-take, get_or-replicate, take-append-drop, length-replicate}
use Rattle.heap_words.specs.declared.config.Config.{Config}
use Rattle.heap_words.specs.Words.{image_start, table_words, view}
use Rattle.heap_world.specs.Change.{image_view}

-- the first numbers of a list, all 0
pub take-clear : (xs : List ℕ) (n : ℕ) → n ≤ length xs → ((index : ℕ) → index < n → get_or xs index 0 ≡ 0) → take n xs ≡ replicate n 0
take-clear xs n within clear =
    let taken : length (take n xs) ≡ n = omega (arith, length-take n xs) in
    same_number_lists (take n xs) (replicate n 0) (taken ∙ sym (length-replicate n 0))
    (λ index index_below.
    let index_low : index < n = omega arith in
    get_or-take n xs index 0 index_low ∙ clear index index_low ∙ sym (get_or-replicate n index 0 0 index_low))

-- so the table is its image with 0 before it
pub view-clear : (config : Config) (words : List ℕ) → length words ≡ table_words config → ((index : ℕ) → index < image_start config → get_or words index 0 ≡ 0)
    → view config words ≡ image_view config (drop (image_start config) words)
view-clear config words table_length clear =
    ap (view config)
    (sym (take-append-drop (image_start config) words)
    ∙ ap (λ start. start ++ drop (image_start config) words) (take-clear words (image_start config) (omega arith) clear))
