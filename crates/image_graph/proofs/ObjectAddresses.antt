-- Words that are read at their places, and addresses of objects.
use Rattle.std.proofs.Common.{◌≡◌, ◌≢◌, ℕ, ◌+◌, ◌-◌, ◌*◌, ◌^◌, ◌<◌, ◌≤◌, true, List, sym, ap, ◌∙◌, refl, subst, ⊎_elim, arith}
use Rattle.std.proofs.lemmas.Bool.{cases_eq}
use Rattle.std.proofs.Math.Nat.{mul-le-mul}
use Rattle.heap_words.specs.declared.config.Config.{Config}
use Rattle.heap_words.specs.Words.{Word, Top, Heap, IsWord, word_at, table_words, heap_size}
use Rattle.heap_words.specs.Encoding.{refs_in}
use Rattle.heap_words.proofs.Bounds.{heap_size_le}
use Rattle.heap_words.proofs.Rows.{word_inside}
use Rattle.regions.specs.Place.{base_of, region_with}
use Rattle.regions.proofs.PlaceLemmas.{regions_tile}
use Rattle.heap_world.specs.Walk.{has}
use Rattle.image_graph.specs.Laid.{laid_words, used_end, LiesRight}

-- what was read at the place of a word is the word
pub read : (config code_config : Config) (memory : Word → ℕ) (word : Word) (word_place value : ℕ) → code_config ≡ config → IsWord config word → word_place ≡ word_at code_config word
    → ((read_word : Word) → IsWord config read_word → word_at config read_word ≡ word_place → value ≡ memory read_word) → value ≡ memory word
read config code_config memory word word_place value same_config inside_table place named = named word inside_table (ap (λ (config : Config). word_at config word) (sym same_config) ∙ sym place)

-- and its place is of the table
pub placed : (config code_config : Config) (word : Word) (word_place : ℕ) → code_config ≡ config → IsWord config word → word_place ≡ word_at code_config word → word_place < table_words config
placed config code_config word word_place same_config inside_table place = subst (λ number. number < table_words config) (sym (place ∙ ap (λ (config : Config). word_at config word) same_config)) (word_inside config word inside_table)

-- the first three words of an object are words of the heap
pub head : (config code_config : Config) (memory : Word → ℕ) (objects : List ℕ) (address offset : ℕ) → code_config ≡ config → LiesRight config memory objects address → offset < 3 → IsWord code_config (Heap (address + offset))
head config code_config memory objects address offset same_config lies_right offset_below = subst (λ (config : Config). IsWord config (Heap (address + offset))) (sym same_config) (omega (arith, lies_right.above, offset_below), omega (arith, lies_right.below, offset_below))

-- no address is large, nor those of the fields of an object
pub low : (config : Config) (memory : Word → ℕ) (objects : List ℕ) (address : ℕ) → LiesRight config memory objects address → address + 3 + 255 < 2 ^ 32
low config memory objects address lies_right = omega (arith, lies_right.below, heap_size_le config, config.in_range.most_words)

-- a fact of neighbours that holds below an index, and at it
pub more : (P : ℕ → ℕ → Type 0) (bound : ℕ) → 1 ≤ bound → ((index : ℕ) → index + 1 < bound → P index (index + 1)) → P (bound - 1) bound → (index : ℕ) → index + 1 < bound + 1 → P index (index + 1)
more P bound positive before last_holds index index_below = ⊎_elim
    (λ (last_index : index + 1 ≡ bound). subst (P index) (sym last_index) (subst (λ (some_index : ℕ). P some_index bound) (omega (arith, last_index)) last_holds))
    (λ (earlier_index : index + 1 ≢ bound). before index (omega (arith, index_below, earlier_index)))
    (cases_eq (index + 1) bound)

-- the first word of an object
pub first : (config code_config : Config) (memory : Word → ℕ) (objects : List ℕ) (address : ℕ) → code_config ≡ config → LiesRight config memory objects address → IsWord code_config (Heap address)
first config code_config memory objects address same_config lies_right = subst (λ (config : Config). IsWord config (Heap address)) (sym same_config) (lies_right.above, omega (arith, lies_right.below))

-- a reference of an object that ends in the heap
pub field : (config : Config) (memory : Word → ℕ) (objects : List ℕ) (address index : ℕ) → LiesRight config memory objects address → address + laid_words memory address ≤ (config.regions + 1) * config.region_words
    → index < refs_in (memory (Heap (address + 1))) → IsWord config (Heap (address + 3 + index))
field config memory objects address index lies_right inside index_below = (omega (arith, lies_right.above), omega (arith, inside, index_below))

-- an object ends in the heap where no region uses more words than it has
pub inside : (config : Config) (memory : Word → ℕ) (objects : List ℕ) (address : ℕ) → ((region : ℕ) → region < config.regions → memory (Top region) ≤ config.region_words) → LiesRight config memory objects address
    → address + laid_words memory address ≤ (config.regions + 1) * config.region_words
inside config memory objects address tops lies_right =
    let region_below = regions_tile.in_range config address (first config config memory objects address refl lies_right) in
    let region_end_inside : (region_with config address + 2) * config.region_words ≤ (config.regions + 1) * config.region_words = mul-le-mul (omega (arith, region_below)) (omega arith) in
    omega (arith, region_end_inside, lies_right.to_top, tops (region_with config address) region_below)

-- the first three words of what has three words left are words of the heap
pub between : (config : Config) (first_address size address memory : ℕ) → first_address ≡ config.region_words → size ≡ heap_size config → first_address ≤ address → 3 ≤ first_address + size - address → memory < 3 → IsWord config (Heap (address + memory))
between config first_address size address memory first_is size_is at_most room_left offset_below = (omega (arith, first_is, at_most), omega (arith, first_is, size_is, at_most, room_left, offset_below))

pub between_first : (config : Config) (first_address size address : ℕ) → first_address ≡ config.region_words → size ≡ heap_size config → first_address ≤ address → 3 ≤ first_address + size - address → IsWord config (Heap address)
between_first config first_address size address first_is size_is at_most room_left = (omega (arith, first_is, at_most), omega (arith, first_is, size_is, at_most, room_left))

-- an object lies right by what was computed of it
pub lies_by : (config code_config : Config) (memory : Word → ℕ) (objects : List ℕ) (address first_address size words region base top : ℕ) → code_config ≡ config
    → first_address ≡ code_config.region_words → size ≡ heap_size code_config → first_address ≤ address → 3 ≤ first_address + size - address
    → words ≡ laid_words memory address → region ≡ region_with code_config address → base ≡ base_of code_config region → top ≡ memory (Top region)
    → address + words ≤ base + top → (address + words ≢ base + top → has objects (address + words) ≡ true) → LiesRight config memory objects address
lies_by config code_config memory objects address first_address size words region base top same_config first_is size_is at_most room_left same_words same_region placed used within next_marked =
    let region_is : region ≡ region_with config address = same_region ∙ ap (λ (config : Config). region_with config address) same_config in
    let base_is : base ≡ base_of config (region_with config address) = placed ∙ ap (λ (config : Config). base_of config region) same_config ∙ ap (base_of config) region_is in
    let top_is : top ≡ memory (Top (region_with config address)) = used ∙ ap (λ (region : ℕ). memory (Top region)) region_is in
    let heap_start_is : first_address ≡ config.region_words = first_is ∙ ap (λ (config : Config). config.region_words) same_config in
    let heap_size_is : size ≡ heap_size config = size_is ∙ ap heap_size same_config in
    record {
      above = omega (arith, heap_start_is, at_most);
      below = omega (arith, heap_start_is, heap_size_is, at_most, room_left);
      to_top = omega (arith, within, same_words, base_is, top_is);
      next = λ (not_last : address + laid_words memory address ≢ used_end config memory address).
          subst (λ (some_words : ℕ). has objects (address + some_words) ≡ true) same_words
          (next_marked (λ (end : address + words ≡ base + top). not_last (omega (arith, end, same_words, base_is, top_is))));
    }
