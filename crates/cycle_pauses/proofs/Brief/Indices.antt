-- Where the words of the image stand that a pause of an extent loads and stores.
use Rattle.std.proofs.Common.{◌≡◌, ℕ, ◌+◌, ◌-◌, ◌<◌, ◌++◌, true, false, List, replicate, sym, ap, ◌∙◌, arith}
use Rattle.std.specs.Prelude.{slice_index}
use Rattle.std.proofs.lemmas.Bool.{lt-ltb, le-ltb, le-leb, leb-true, false≢true}
use Rattle.heap_words.specs.declared.config.Config.{Config}
use Rattle.heap_words.specs.Words.{Word, Pause, Left, End, State, Phase, Cset, Free, Evac, Claim, Ask, Top, Tams, Limit, Current, Heap, Share, Pin, IsWord, is_image, word_at, image_start, heap_size, table_words}
use Rattle.heap_words.specs.Rows.{name_of}
use Rattle.heap_words.proofs.Named.{are_named}
use Rattle.heap_words.proofs.Rows.{is_image-word_at}
use Rattle.heap_words.proofs.Stores.{view_word}
use Rattle.heap_world.specs.Change.{image_words, image_view}
use Rattle.collector_rows.specs.declared.extent.Extent.TheVariants.{OffHeap, Ahead}
use Rattle.collector_rows.specs.Extent.{is_of_extent, heap_index}
use Rattle.collector_rows.proofs.Extents.{off_before, off_behind, off_within}
use Rattle.cycle_pauses.specs.Brief.{is_off_heap, is_ahead}
use Rattle.cycle_pauses.proofs.Full.Images.{inside_word}

pub off_heap_at : (config : Config) (word : Word) → IsWord config word → is_image word ≡ true → is_of_extent config OffHeap (word_at config word - image_start config) ≡ is_off_heap word
off_heap_at config (Heap address) word image = off_within (heap_index config) (heap_size config) (word_at config (Heap address) - image_start config) (omega arith) (omega arith)
off_heap_at config Share word image = off_behind (heap_index config) (heap_size config) (word_at config Share - image_start config) (omega arith)
off_heap_at config (Pin mutator slot) word image = off_behind (heap_index config) (heap_size config) (word_at config (Pin mutator slot) - image_start config) (omega arith)
off_heap_at config Pause word image = absurd (false≢true image)
off_heap_at config Left word image = absurd (false≢true image)
off_heap_at config End word image = absurd (false≢true image)
off_heap_at config (State seat) word image = absurd (false≢true image)
off_heap_at config word word_is image = off_before (heap_index config) (heap_size config) (word_at config word - image_start config) (omega arith)

pub ahead_at : (config : Config) (word : Word) → IsWord config word → is_image word ≡ true → is_of_extent config Ahead (word_at config word - image_start config) ≡ is_ahead word
ahead_at config Pause word image = absurd (false≢true image)
ahead_at config Left word image = absurd (false≢true image)
ahead_at config End word image = absurd (false≢true image)
ahead_at config (State seat) word image = absurd (false≢true image)
ahead_at config Phase word image = lt-ltb _ _ (omega arith)
ahead_at config Cset word image = lt-ltb _ _ (omega arith)
ahead_at config Free word image = lt-ltb _ _ (omega arith)
ahead_at config Evac word image = lt-ltb _ _ (omega arith)
ahead_at config Claim word image = lt-ltb _ _ (omega arith)
ahead_at config Ask word image = lt-ltb _ _ (omega arith)
ahead_at config (Top region) word image = lt-ltb _ _ (omega arith)
ahead_at config (Tams region) word image = lt-ltb _ _ (omega arith)
ahead_at config (Limit region) word image = lt-ltb _ _ (omega arith)
ahead_at config (Current seat) word image = lt-ltb _ _ (omega arith)
ahead_at config word word_is image = le-ltb _ _ (omega arith)

-- what a word of an image reads
pub image_reads : (config : Config) (image : List ℕ) (word : Word) → IsWord config word → is_image word ≡ true → image_view config image word ≡ slice_index image (word_at config word - image_start config)
image_reads config image word inside_table in_image =
    view_word config (replicate (image_start config) 0 ++ image) word inside_table
    ∙ inside_word config image (word_at config word) (leb-true (image_start config) (word_at config word) (sym (is_image-word_at config word inside_table) ∙ in_image))

-- the word at an index of the image
module _ (config : Config) (index : ℕ) (index_below : index < image_words config) where
  abbrev pub word_here : Word
  word_here = name_of config (image_start config + index)

  in_table : image_start config + index < table_words config
  in_table = omega (arith, index_below)

  pub here_is : IsWord config word_here
  here_is = are_named.is_word config (image_start config + index) in_table

  pub here_at : word_at config word_here - image_start config ≡ index
  here_at = (let named_there = are_named.there config (image_start config + index) in_table in omega (arith, named_there))

  pub here_image : is_image word_here ≡ true
  here_image = is_image-word_at config word_here here_is ∙ le-leb (image_start config) (word_at config word_here) (let named_there = are_named.there config (image_start config + index) in_table in omega (arith, named_there))

  pub here_reads : (image : List ℕ) → image_view config image word_here ≡ slice_index image index
  here_reads image = image_reads config image word_here here_is here_image ∙ ap (λ index. slice_index image index) here_at
