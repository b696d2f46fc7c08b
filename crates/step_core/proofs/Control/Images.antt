-- The words that count, while a pause writes its image back and while it does not.
use Rattle.std.proofs.Common.{◌≡◌, ℕ, ◌+◌, ◌<◌, ◌≤◌, ⊎_elim, true, false, List, [], ◌∷◌, ◌++◌, length, Option, Some, None, refl, sym, ap, ◌∙◌, arith}
use Rattle.std.specs.Prelude.{◌-◌, ◌&&◌, drop, slice_index, slice_set, replicate, if◌then◌else◌}
use Rattle.std.proofs.Math.Path.{fun_ext}
use Rattle.std.proofs.lemmas.List.{get_or-set_other, get_or-append_right, get_or_append_left, get_or_past, get_or-drop, length-drop, length-replicate, set-get_or}
use Rattle.std.proofs.Math.Seq.{get_or-append_seam}
use Rattle.std.proofs.lemmas.Bool.{cases_Bool, cases_eq, cases_lt, and_parts, and_from, cond-true, cond-false, false≢true, true≢false, leb-true, leb-false, le-leb}
use Rattle.heap_words.specs.declared.config.Config.{Config}
use Rattle.heap_words.specs.Access.{table_index, made_of}
use Rattle.heap_words.specs.Words.{Word, is_word, is_image, same_word, word_at, view, image_start, table_words}
use Rattle.heap_words.proofs.Rows.{word_inside, is_image-word_at}
use Rattle.heap_words.proofs.Stores.{same_word_true, is_word_true, view_word, view_set_all}
use Rattle.heap_world.specs.Change.{image_view, image_words}
use Rattle.heap_words.specs.Touch.{Touch, touch, loads, formed, placed, touched}
use Rattle.heap_words.proofs.Touches.{table_index-access_at, made_of-access_at}
use Rattle.collector_rows.specs.declared.extent.Extent.{Extent}
use Rattle.collector_rows.specs.declared.extent.Extent.TheVariants.{Whole}
use Rattle.collector_rows.specs.ByParts.{IsMadeOf}
use Rattle.collector_rows.specs.Extent.{is_of_extent, padded, counts, Counting}
use Rattle.collector_rows.proofs.Extents.{early, padded_reads}
use Rattle.step_core.specs.Settled.{is_counting, mixed, settled_by}
use Rattle.step_core.proofs.Machines.Owed.{AreRead, AreLoaded}

-- the table after an access
abbrev pub words_after : Config → List ℕ → Touch → List ℕ
words_after config words access = slice_set words (table_index (placed config access)) (made_of (placed config access) (slice_index words (table_index (placed config access))))

-- the word that an access finds, by its name
pub found-placed : (config : Config) (words : List ℕ) (access : Touch) → is_word config access.word ≡ true → slice_index words (table_index (placed config access)) ≡ view config words access.word
found-placed config words access real_word = ap (λ index. slice_index words index) (table_index-access_at (word_at config access.word) access.form) ∙ sym (view_word config words access.word (is_word_true config access.word real_word))

-- the table after it, by the names of its words
pub view-placed : (config : Config) (words : List ℕ) (access : Touch) → is_word config access.word ≡ true → length words ≡ table_words config → view config (words_after config words access) ≡ touched (view config words) access
view-placed config words access real_word table_length =
    rw (made_of-access_at (word_at config access.word) access.form, found-placed config words access real_word, table_index-access_at (word_at config access.word) access.form)
    (view_set_all config words access.word (formed access.form (view config words access.word)) table_length (is_word_true config access.word real_word))

-- a load leaves the table as it is
pub words_loaded : (config : Config) (words : List ℕ) (word : Word) → words_after config words (touch word loads) ≡ words
words_loaded config words word = set-get_or words (word_at config word) 0

-- a word of the image stands where the image begins or behind it, and another one in front
pub image_at : (config : Config) (word : Word) → is_word config word ≡ true → is_image word ≡ true → image_start config ≤ word_at config word
image_at config word real_word image = leb-true _ _ (sym (is_image-word_at config word (is_word_true config word real_word)) ∙ image)

pub outside_at : (config : Config) (word : Word) → is_word config word ≡ true → is_image word ≡ false → word_at config word < image_start config
outside_at config word real_word image = leb-false _ _ (sym (is_image-word_at config word (is_word_true config word real_word)) ∙ image)

-- what a word of an image reads
pub image_reads : (config : Config) (image : List ℕ) (word : Word) → is_word config word ≡ true → is_image word ≡ true → image_view config image word ≡ slice_index image (word_at config word - image_start config)
image_reads config image word real_word in_image =
    cond-true (is_word config word) _ _ real_word
    ∙ get_or-append_right (replicate (image_start config) 0) image (image_start config) (word_at config word) 0 (length-replicate (image_start config) 0) (image_at config word real_word in_image)

-- a word outside the image does not count there
pub uncounted : (config : Config) (counting : Counting) (word : Word) → is_image word ≡ false → is_counting config counting word ≡ false
uncounted config counting word outside = ap (λ in_image. in_image && counts config counting.extent counting.image (word_at config word - image_start config)) outside

-- two memories of names read the same, if they do so at each word
pub mixed_reads : (config : Config) (words : List ℕ) (counting : Counting) (other_memory : Word → ℕ)
    → ((word : Word) → is_counting config counting word ≡ true → image_view config counting.image word ≡ other_memory word) → ((word : Word) → is_counting config counting word ≡ false → view config words word ≡ other_memory word) → mixed config words counting ≡ other_memory
mixed_reads config words counting other_memory counted uncounted = fun_ext (λ word. ⊎_elim
    (λ (counts_word : is_counting config counting word ≡ true). cond-true (is_counting config counting word) _ _ counts_word ∙ counted word counts_word)
    (λ (not_counting : is_counting config counting word ≡ false). cond-false (is_counting config counting word) _ _ not_counting ∙ uncounted word not_counting)
    (cases_Bool (is_counting config counting word)))

-- a word of the image that counts there is read there
counted_reads : (config : Config) (counting : Counting) (word : Word) → is_counting config counting word ≡ true → is_word config word ≡ true → image_view config counting.image word ≡ slice_index counting.image (word_at config word - image_start config)
counted_reads config counting word counted real_word = image_reads config counting.image word real_word (and_parts (is_image word) _ counted).0

-- once all words of an image that count are those of the table, the table counts
pub mixed_whole : (config : Config) (words : List ℕ) (counting : Counting) → AreRead config words counting (image_words config) → mixed config words counting ≡ view config words
mixed_whole config words counting read = mixed_reads config words counting (view config words)
    (λ word counted. ⊎_elim
    (λ (real_word : is_word config word ≡ true).
    let both_parts = and_parts (is_image word) (counts config counting.extent counting.image (word_at config word - image_start config)) counted in
    let from : image_start config ≤ word_at config word = image_at config word real_word both_parts.0 in
    let word_below : word_at config word < table_words config = word_inside config word (is_word_true config word real_word) in
    let same_index : image_start config + (word_at config word - image_start config) ≡ word_at config word = omega (arith, from) in
    counted_reads config counting word counted real_word ∙ read (word_at config word - image_start config) (omega (arith, from, word_below)) both_parts.1 ∙ ap (λ index. slice_index words index) same_index ∙ sym (view_word config words word (is_word_true config word real_word)))
    (λ (not_real : is_word config word ≡ false). cond-false (is_word config word) _ _ not_real ∙ sym (cond-false (is_word config word) _ _ not_real))
    (cases_Bool (is_word config word)))
    (λ w uncounted. refl)

-- a store into the table of a word of the image that counts changes nothing that counts
pub mixed_stored : (config : Config) (words : List ℕ) (counting : Counting) (table_place value : ℕ) → image_start config ≤ table_place → counts config counting.extent counting.image (table_place - image_start config) ≡ true
    → mixed config (slice_set words table_place value) counting ≡ mixed config words counting
mixed_stored config words counting table_place value at_most counts_here = mixed_reads config (slice_set words table_place value) counting (mixed config words counting)
    (λ counted_word counted. sym (cond-true (is_counting config counting counted_word) _ _ counted))
    (λ word not_counting. ⊎_elim
    (λ (real_word : is_word config word ≡ true).
    let places_differ : word_at config word ≡ table_place → ⊥ =
    (λ same_place. true≢false (sym (and_from (is_image word) _ (is_image-word_at config word (is_word_true config word real_word) ∙ le-leb _ _ (omega (arith, same_place, at_most))) (ap (λ place. counts config counting.extent counting.image (place - image_start config)) same_place ∙ counts_here)) ∙ not_counting)) in
    view_word config (slice_set words table_place value) word (is_word_true config word real_word)
    ∙ get_or-set_other words table_place (word_at config word) value 0 places_differ
    ∙ sym (view_word config words word (is_word_true config word real_word))
    ∙ sym (cond-false (is_counting config counting word) _ _ not_counting))
    (λ (not_real : is_word config word ≡ false). cond-false (is_word config word) _ _ not_real ∙ sym (cond-false (is_word config word) _ _ not_real) ∙ sym (cond-false (is_counting config counting word) _ _ not_counting))
    (cases_Bool (is_word config word)))

-- an access of a word outside the image changes that word alone, of those that count too
mixed_touched : (config : Config) (words : List ℕ) (counting : Counting) (access : Touch) → is_word config access.word ≡ true → is_image access.word ≡ false → length words ≡ table_words config
    → mixed config (words_after config words access) counting ≡ touched (mixed config words counting) access
mixed_touched config words counting access real_word outside table_length = mixed_reads config (words_after config words access) counting (touched (mixed config words counting) access)
    (λ asked_word counted.
    let in_image : is_image asked_word ≡ true = (and_parts (is_image asked_word) _ counted).0 in
    let words_differ : same_word access.word asked_word ≡ false = ⊎_elim
    (λ (word_same : same_word access.word asked_word ≡ true). absurd (false≢true (sym outside ∙ ap is_image (same_word_true access.word asked_word word_same) ∙ in_image)))
    (λ (no : same_word access.word asked_word ≡ false). no)
    (cases_Bool (same_word access.word asked_word)) in
    sym (cond-false (same_word access.word asked_word) _ _ words_differ ∙ cond-true (is_counting config counting asked_word) _ _ counted))
    (λ asked_word no.
    let access_reads : mixed config words counting access.word ≡ view config words access.word = cond-false (is_counting config counting access.word) _ _ (uncounted config counting access.word outside) in
    let other_reads : mixed config words counting asked_word ≡ view config words asked_word = cond-false (is_counting config counting asked_word) _ _ no in
    ap (λ viewed. viewed asked_word) (view-placed config words access real_word table_length)
    ∙ ap (λ raw_value. if same_word access.word asked_word then formed access.form raw_value else view config words asked_word) (sym access_reads)
    ∙ ap (λ raw_value. if same_word access.word asked_word then formed access.form (mixed config words counting access.word) else raw_value) (sym other_reads))

-- the words that count after an access that is not of the image while an image counts
pub settled_touched : (config : Config) (words : List ℕ) (access : Touch) (found : Option Counting) → is_word config access.word ≡ true → length words ≡ table_words config
    → ((image : Counting) → found ≡ Some image → is_image access.word ≡ false) → settled_by config (words_after config words access) found ≡ touched (settled_by config words found) access
settled_touched config words access None real_word table_length outside = view-placed config words access real_word table_length
settled_touched config words access (Some counting) real_word table_length outside = mixed_touched config words counting access real_word (outside counting refl) table_length

-- and the word that it finds
pub settled_found : (config : Config) (words : List ℕ) (access : Touch) (found : Option Counting) → is_word config access.word ≡ true
    → ((image : Counting) → found ≡ Some image → is_image access.word ≡ false) → slice_index words (table_index (placed config access)) ≡ settled_by config words found access.word
settled_found config words access None real_word outside = found-placed config words access real_word
settled_found config words access (Some counting) real_word outside = found-placed config words access real_word ∙ sym (cond-false (is_counting config counting access.word) _ _ (uncounted config counting access.word (outside counting refl)))

-- it leaves the words of the image in the table as they were
pub image_kept : (config : Config) (words : List ℕ) (access : Touch) (index : ℕ) → is_word config access.word ≡ true → is_image access.word ≡ false
    → slice_index (words_after config words access) (image_start config + index) ≡ slice_index words (image_start config + index)
image_kept config words access index real_word outside =
    let outside_image : word_at config access.word < image_start config = outside_at config access.word real_word outside in
    let place_is : table_index (placed config access) ≡ word_at config access.word = table_index-access_at (word_at config access.word) access.form in
    get_or-set_other words (table_index (placed config access)) (image_start config + index) _ 0 (λ same_place. omega (arith, outside_image, place_is, same_place))

-- one word more is loaded, which is of the extent
pub image_grows : (config : Config) (words : List ℕ) (extent : Extent) (image : List ℕ) (index : ℕ) → length image ≡ index → AreLoaded config words extent image index → is_of_extent config extent index ≡ true
    → AreLoaded config words extent (image ++ slice_index words (image_start config + index) ∷ []) (index + 1)
image_grows config words extent image index image_length loaded in_extent read_index below_next = ⊎_elim
    (λ (same_index : read_index ≡ index).
    let at_end : read_index ≡ length image = same_index ∙ sym image_length in
    ap (λ any_index. slice_index (image ++ slice_index words (image_start config + index) ∷ []) any_index) at_end
    ∙ get_or-append_seam image (slice_index words (image_start config + index)) [] 0 ∙ ap (λ any_index. slice_index words (image_start config + any_index)) (sym same_index)
    ∙ sym (cond-true (is_of_extent config extent read_index) _ _ (ap (is_of_extent config extent) same_index ∙ in_extent)))
    (λ (index_differs : read_index ≡ index → ⊥).
    get_or_append_left image (slice_index words (image_start config + index) ∷ []) 0 read_index (omega (arith, below_next, index_differs, image_length)) ∙ loaded read_index (omega (arith, below_next, index_differs)))
    (cases_eq read_index index)

-- as far as the first words go, so it is of each extent
pub loaded_early : (config : Config) (words : List ℕ) (extent other_extent : Extent) (image : List ℕ) (bound : ℕ) → bound ≤ 7 → AreLoaded config words extent image bound → AreLoaded config words other_extent image bound
loaded_early config words extent other_extent image bound at_most loaded index index_below =
    loaded index index_below ∙ cond-true (is_of_extent config extent index) _ _ (early config extent index (omega (arith, index_below, at_most))) ∙ sym (cond-true (is_of_extent config other_extent index) _ _ (early config other_extent index (omega (arith, index_below, at_most))))

-- and words are left out that are not of the extent
pub loaded_padded : (config : Config) (words : List ℕ) (extent : Extent) (image : List ℕ) (from padded_length : ℕ) → length image ≡ from → AreLoaded config words extent image from
    → ((index : ℕ) → from ≤ index → index < padded_length → is_of_extent config extent index ≡ false) → AreLoaded config words extent (padded padded_length image) padded_length
loaded_padded config words extent image from padded_length image_length loaded left_out index index_below = padded_reads padded_length image index ∙ ⊎_elim
    (λ (index_before : index < from). loaded index index_before)
    (λ (index_behind : from ≤ index). get_or_past image index 0 (omega (arith, index_behind, image_length)) ∙ sym (cond-false (is_of_extent config extent index) _ _ (left_out index index_behind index_below)))
    (cases_lt index from)

-- The image as the table has it.
abbrev pub image_in : Config → List ℕ → List ℕ
image_in config words = drop (image_start config) words

pub image_in_reads : (config : Config) (words : List ℕ) (index : ℕ) → slice_index (image_in config words) index ≡ slice_index words (image_start config + index)
image_in_reads config words index = get_or-drop (image_start config) words index 0

pub image_in_long : (config : Config) (words : List ℕ) → length words ≡ table_words config → length (image_in config words) ≡ image_words config
image_in_long config words table_length = omega (arith, length-drop (image_start config) words, table_length)

-- an image of which all counts
abbrev pub all_of : List ℕ → Counting
all_of image = record { extent = Whole; image = image }

-- What a part of the image becomes, in a table, is what all of the image does.
module _ (config : Config) (words : List ℕ) (extent : Extent) (made part_made : List ℕ) (is_made : IsMadeOf config extent (image_in config words) made part_made) where
  abbrev n : Counting
  n = record { extent = extent; image = part_made }

  inside : (word : Word) → is_word config word ≡ true → is_image word ≡ true → word_at config word - image_start config < image_words config
  inside word real_word image =
      let from : image_start config ≤ word_at config word = image_at config word real_word image in
      let word_below : word_at config word < table_words config = word_inside config word (is_word_true config word real_word) in
      omega (arith, from, word_below)

  -- what all of it reads
  all_reads : (word : Word) → is_word config word ≡ true → is_image word ≡ true → mixed config words (all_of made) word ≡ slice_index made (word_at config word - image_start config)
  all_reads word real_word image = cond-true (is_counting config (all_of made) word) _ _ (and_from (is_image word) _ image refl) ∙ image_reads config made word real_word image

  in_part : (word : Word) → is_counting config n word ≡ true → image_view config part_made word ≡ mixed config words (all_of made) word
  in_part word counted = ⊎_elim
      (λ (real_word : is_word config word ≡ true).
      let both_parts = and_parts (is_image word) (counts config extent part_made (word_at config word - image_start config)) counted in
      image_reads config part_made word real_word both_parts.0
      ∙ sym (is_made (word_at config word - image_start config) (inside word real_word both_parts.0) ∙ cond-true (counts config extent part_made (word_at config word - image_start config)) _ _ both_parts.1)
      ∙ sym (all_reads word real_word both_parts.0))
      (λ (not_real : is_word config word ≡ false).
      cond-false (is_word config word) _ _ not_real
      ∙ sym (cond-true (is_counting config (all_of made) word) _ _ (and_from (is_image word) _ (and_parts (is_image word) _ counted).0 refl) ∙ cond-false (is_word config word) _ _ not_real))
      (cases_Bool (is_word config word))

  in_table : (word : Word) → is_counting config n word ≡ false → view config words word ≡ mixed config words (all_of made) word
  in_table word not_counting = ⊎_elim
      (λ (image : is_image word ≡ true). ⊎_elim
      (λ (real_word : is_word config word ≡ true).
      let word_stays : counts config extent part_made (word_at config word - image_start config) ≡ false = ap (λ in_image. in_image && counts config extent part_made (word_at config word - image_start config)) (sym image) ∙ not_counting in
      let from : image_start config ≤ word_at config word = image_at config word real_word image in
      view_word config words word (is_word_true config word real_word)
      ∙ ap (λ index. slice_index words index) (omega (arith, from))
      ∙ sym (image_in_reads config words (word_at config word - image_start config))
      ∙ sym (is_made (word_at config word - image_start config) (inside word real_word image) ∙ cond-false (counts config extent part_made (word_at config word - image_start config)) _ _ word_stays)
      ∙ sym (all_reads word real_word image))
      (λ (not_real : is_word config word ≡ false).
      cond-false (is_word config word) _ _ not_real ∙ sym (cond-true (is_counting config (all_of made) word) _ _ (and_from (is_image word) _ image refl) ∙ cond-false (is_word config word) _ _ not_real))
      (cases_Bool (is_word config word)))
      (λ (outside : is_image word ≡ false). sym (cond-false (is_counting config (all_of made) word) _ _ (uncounted config (all_of made) word outside)))
      (cases_Bool (is_image word))

  pub parts_same : mixed config words n ≡ mixed config words (all_of made)
  parts_same = mixed_reads config words n (mixed config words (all_of made)) in_part in_table
