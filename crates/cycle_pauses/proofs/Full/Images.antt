-- The words of an image after a full collection, by their names.
use Rattle.std.proofs.Common.{◌≡◌, ℕ, ◌+◌, ◌-◌, ◌<◌, ◌≤◌, ◌++◌, true, false, List, length, get_or, replicate, ⊎_elim, refl, sym, ap, ◌∙◌, arith, length-append}
use Rattle.std.proofs.lemmas.Bool.{cases_Bool, cases_lt, lt-leb, le-ltb, true≢false}
use Rattle.std.proofs.lemmas.List.{get_or_append_left, get_or-append_right, get_or-replicate, length-replicate}
use Rattle.std.proofs.lemmas.List.FromFn.{get_or-map-range_with_len, length-map-range_with_len}
use Rattle.std.proofs.Math.Logic.{∥∥₁_elim}
use Rattle.std.proofs.Math.Nat.{ℕ_set}
use Rattle.std.proofs.Math.Path.{fun_ext}
use Rattle.heap_words.specs.declared.config.Config.{Config}
use Rattle.heap_words.specs.Words.{Word, Pause, Left, End, State, Top, Current, Heap, IsWord, is_word, is_image, word_at, image_start, table_words, view}
use Rattle.heap_words.specs.Ranges.{seat_count}
use Rattle.heap_words.specs.Rows.{name_of}
use Rattle.heap_words.proofs.Named.{name_of-word_at, are_read_whole}
use Rattle.heap_words.proofs.Rows.{word_inside, is_image-word_at}
use Rattle.heap_words.proofs.Stores.{is_word_true, view_word, view_none}
use Rattle.heap_world.specs.Change.{image_words, image_view}
use Rattle.shen_graph.specs.Graph.{Graph}
use Rattle.image_graph.specs.Held.{IsAmong}
use Rattle.image_graph.specs.Full.{now_in, held_words, kept_in, packed, made_in, refused, full_from, full}
use Rattle.image_graph.specs.Promised.{with_promised}
use Rattle.image_graph.proofs.Reached.{can_pack}
use Rattle.image_graph.proofs.Origin.{kept_inside, lie_apart}
use Rattle.image_graph.proofs.Walked.{walk_keeps}
use Rattle.image_graph.specs.Holds.{Holds, HoldsSome}
use Rattle.cycle_pauses.specs.Full.Image.{words_of_image, full_image}
use Rattle.image_graph.proofs.Still.{full_still}
use Rattle.image_graph.proofs.Inside.{buffers_inside}
use Rattle.image_graph.specs.LetGo.{let_go}
use Rattle.image_graph.proofs.Elsewhere.{IsOfBuffers, let_go_same}
use Rattle.image_graph.proofs.Loosening.Laws.{letting_go_holds}
use Rattle.image_graph.specs.Buffers.{HasNoMoreSeats}
use Rattle.cycle_pauses.proofs.Full.Outside.{IsZeroOutside, full_outside}
use Rattle.cycle_pauses.proofs.Full.LettingGoFirst.{let_go_outside}

-- a memory has as many words of the image as it should
pub image_of_length : (config : Config) (memory : Word → ℕ) → length (words_of_image config memory) ≡ image_words config
image_of_length config memory = length-map-range_with_len (λ index. memory (name_of config (image_start config + index))) 0 (image_words config)

pub image_length : (config : Config) (image : List ℕ) → length (full_image config image) ≡ image_words config
image_length config image = image_of_length config (full config (image_view config image))

-- a word of an image, and one before it
pub inside_word : (config : Config) (image : List ℕ) (place : ℕ) → image_start config ≤ place → get_or (replicate (image_start config) 0 ++ image) place 0 ≡ get_or image (place - image_start config) 0
inside_word config image place at_most = let nothing : ℕ = 0 in get_or-append_right (replicate (image_start config) nothing) image (image_start config) place 0 (length-replicate (image_start config) nothing) at_most

pub before_word : (config : Config) (image : List ℕ) (place : ℕ) → place < image_start config → get_or (replicate (image_start config) 0 ++ image) place 0 ≡ 0
before_word config image place before_image =
    let nothing : ℕ = 0 in
    get_or_append_left (replicate (image_start config) nothing) image 0 place (omega (arith, before_image, length-replicate (image_start config) nothing)) ∙ get_or-replicate (image_start config) place nothing 0 before_image

-- what settling and letting go may write is of the image
pub of_image : (word : Word) → is_image word ≡ false → IsOfBuffers word → ⊥
of_image (Heap address) no_image_word of_buffers = true≢false no_image_word
of_image (Top region) no_image_word of_buffers = true≢false no_image_word
of_image (Current seat) no_image_word of_buffers = true≢false no_image_word
of_image _ no_image_word of_buffers = of_buffers

-- a full collection leaves the words before the image
full_from_before : (config : Config) (memory : Word → ℕ) (word : Word) → is_image word ≡ false → full_from config memory word ≡ memory word
unfolding packed made_in refused
full_from_before config memory Pause no_image_word = full_still config Pause (λ w t r. refl) memory (λ w. refl)
full_from_before config memory Left no_image_word = full_still config Left (λ w t r. refl) memory (λ w. refl)
full_from_before config memory End no_image_word = full_still config End (λ w t r. refl) memory (λ w. refl)
full_from_before config memory (State seat) no_image_word = full_still config (State seat) (λ w t r. refl) memory (λ w. refl)
full_from_before config memory _ no_image_word = absurd (true≢false no_image_word)

pub full_before : (config : Config) (memory : Word → ℕ) (word : Word) → is_image word ≡ false → full config memory word ≡ memory word
full_before config memory word no_image_word = full_from_before config (let_go config memory) word no_image_word ∙ let_go_same word (of_image word no_image_word) config memory (seat_count config.mutators config.helpers)

-- Words that differ from those of an image in the image alone are read there by their names.
module _ (config : Config) (image : List ℕ) (after : Word → ℕ) (before : (word : Word) → is_image word ≡ false → after word ≡ image_view config image word) where
  pub word_by_name : (word : Word) → IsWord config word → image_view config (words_of_image config after) word ≡ after word
  word_by_name word inside_table =
      let inside = word_inside config word inside_table in
      view_word config (replicate (image_start config) 0 ++ words_of_image config after) word inside_table
      ∙ ⊎_elim
      (λ (before_image : word_at config word < image_start config).
      let no_image_word : is_image word ≡ false = is_image-word_at config word inside_table ∙ lt-leb (image_start config) (word_at config word) before_image in
      before_word config (words_of_image config after) (word_at config word) before_image
      ∙ sym (before_word config image (word_at config word) before_image) ∙ sym (view_word config (replicate (image_start config) 0 ++ image) word inside_table) ∙ sym (before word no_image_word))
      (λ (from : image_start config ≤ word_at config word).
      let place : image_start config + (word_at config word - image_start config) ≡ word_at config word = omega (arith, from) in
      inside_word config (words_of_image config after) (word_at config word) from
      ∙ get_or-map-range_with_len (λ index. after (name_of config (image_start config + index))) 0 (image_words config) (word_at config word - image_start config) (word_at config word - image_start config) 0
      (omega (arith, from, inside)) (omega arith)
      ∙ ap (λ index. after (name_of config index)) place ∙ ap after (name_of-word_at config word inside_table))
      (cases_lt (word_at config word) (image_start config))

  -- and a table that reads so is the image, behind zeros
  pub table_by_name : (table : List ℕ) → length table ≡ table_words config → ((word : Word) → IsWord config word → view config table word ≡ after word)
      → table ≡ replicate (image_start config) 0 ++ words_of_image config after
  table_by_name table whole_table reads =
      let nothing : ℕ = 0 in
      are_read_whole config table (replicate (image_start config) nothing ++ words_of_image config after) whole_table
      (omega (arith, length-append (replicate (image_start config) nothing) (words_of_image config after), length-replicate (image_start config) nothing, image_of_length config after))
      (λ word inside_table. reads word inside_table ∙ sym (word_by_name word inside_table))

module _ (config : Config) (image : List ℕ) (zero_outside : IsZeroOutside config (full config (image_view config image))) where
  pub view_full : image_view config (full_image config image) ≡ full config (image_view config image)
  view_full = fun_ext (λ word. ⊎_elim
      (λ (real_word : is_word config word ≡ true). word_by_name config image (full config (image_view config image)) (full_before config (image_view config image)) word (is_word_true config word real_word))
      (λ (no_word : is_word config word ≡ false). view_none config (replicate (image_start config) 0 ++ full_image config image) word no_word ∙ sym (zero_outside word no_word))
      (cases_Bool (is_word config word)))

-- Where words hold a graph, those out of the table stay 0, ..
full_from_zero : (config : Config) (memory : Word → ℕ) (graph : Graph) → Holds config memory graph → IsZeroOutside config memory → IsZeroOutside config (full_from config memory)
full_from_zero config memory graph holds nothing =
    let block = holds.0 in
    let promises = holds.2 in
    let objects = holds.3.objects in
    let packable = can_pack config (λ region. memory (Top region)) (λ address. memory (Heap address)) block (now_in memory) (IsAmong (held_words config memory)) (with_promised graph promises) objects (kept_in config memory) (walk_keeps config memory block (with_promised graph promises) objects) in
    full_outside config memory (lie_apart config (λ region. memory (Top region)) (λ address. memory (Heap address)) block (with_promised graph promises).object (now_in memory) (kept_in config memory) packable)
    (λ object some_words. (kept_inside config (λ region. memory (Top region)) (λ address. memory (Heap address)) block (with_promised graph promises).object (now_in memory) (kept_in config memory) packable object some_words).1) nothing

-- .. also once buffers were let go.
pub no_seats : (config : Config) (memory : Word → ℕ) → IsZeroOutside config memory → HasNoMoreSeats config memory
no_seats config memory nothing seat no_seat = nothing (Current seat) (le-ltb seat (seat_count config.mutators config.helpers) no_seat)

pub full_zero : (config : Config) (memory : Word → ℕ) (graph : Graph) → Holds config memory graph → IsZeroOutside config memory → IsZeroOutside config (full config memory)
full_zero config memory graph holds nothing =
    let after = letting_go_holds config memory (no_seats config memory nothing) holds.0 holds.1 holds.2 graph holds.3 in
    full_from_zero config (let_go config memory) graph (after.pieces, holds.1, holds.2, after.holds) (let_go_outside config memory nothing (buffers_inside config memory holds.0 holds.3.objects.plotted holds.3.buffers))

-- So it is in an image.
pub holds_outside : (config : Config) (words : List ℕ) (graph : Graph) → Holds config (view config words) graph → IsZeroOutside config (full config (view config words))
holds_outside config words graph holds = full_zero config (view config words) graph holds (λ word no_word. view_none config words word no_word)

pub image_is_full : (config : Config) (image : List ℕ) → HoldsSome config (image_view config image) → image_view config (full_image config image) ≡ full config (image_view config image)
image_is_full config image holds =
    view_full config image (λ word no_word. ∥∥₁_elim holds (hlevel ℕ_set) (λ what_holds. holds_outside config (replicate (image_start config) 0 ++ image) what_holds.0 what_holds.1 word no_word))

-- a table that reads so is the image, behind zeros
pub table_is_full : (config : Config) (image table : List ℕ) → length table ≡ table_words config → HoldsSome config (image_view config image) → view config table ≡ full config (image_view config image)
    → table ≡ replicate (image_start config) 0 ++ full_image config image
table_is_full config image table whole_table holds same_view =
    table_by_name config image (full config (image_view config image)) (full_before config (image_view config image)) table whole_table (λ word inside. ap (λ (memory : Word → ℕ). memory word) same_view)
