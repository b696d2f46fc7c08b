-- What the steps of the pauses of marking make of the words of an image.
use Rattle.std.specs.Prelude.{ℕ, ◌*◌, ◌%◌, ◌^◌, ◌==◌, ◌&&◌, if◌then◌else◌, Bool, nat_lt}
use Rattle.std.specs.Int.RustNames.{bit_or}
use Rattle.heap_words.specs.declared.config.Config.{Config}
use Rattle.heap_words.specs.Words.{Word, Free, Top, Tams, Limit, Count, Grey, Black}
use Rattle.image_graph.specs.Edge.{edge}
use Rattle.cycle_words.specs.Marking.Marks.{bits_of, mark_bits}

-- in so many words of marks exactly a set is grey, and nothing is black
abbrev pub greyed : Config → (ℕ → Bool) → ℕ → (Word → ℕ) → Word → ℕ
greyed config set words memory (Grey number) = if nat_lt number words then mark_bits config set number else memory (Grey number)
greyed config set words memory (Black number) = if nat_lt number words then 0 else memory (Black number)
greyed config set words memory word = memory word

-- in so many words of marks a set has become grey and black
abbrev pub marked : Config → (ℕ → Bool) → ℕ → (Word → ℕ) → Word → ℕ
marked config set words memory (Grey number) = if nat_lt number words then bit_or (memory (Grey number)) (mark_bits config set number) else memory (Grey number)
marked config set words memory (Black number) = if nat_lt number words then bit_or (memory (Black number)) (mark_bits config set number) else memory (Black number)
marked config set words memory word = memory word

-- the edges of so many regions are noted
abbrev pub noted : Config → ℕ → (Word → ℕ) → Word → ℕ
noted config regions memory (Tams region) = if nat_lt region regions then edge config memory region else memory (Tams region)
noted config regions memory word = memory word

-- the buffers of so many mutators are empty
abbrev pub emptied : ℕ → (Word → ℕ) → Word → ℕ
emptied mutators memory (Count mutator) = if nat_lt mutator mutators then 0 else memory (Count mutator)
emptied mutators memory word = memory word

-- of so many regions those that a test tells are freed
abbrev pub freed_below : (ℕ → Bool) → ℕ → (Word → ℕ) → Word → ℕ
freed_below out regions memory Free = bit_or (memory Free) (bits_of out 0 regions)
freed_below out regions memory (Top region) = if nat_lt region regions && out region then 0 else memory (Top region)
freed_below out regions memory (Tams region) = if nat_lt region regions && out region then 0 else memory (Tams region)
freed_below out regions memory (Limit region) = if nat_lt region regions && out region then 0 else memory (Limit region)
freed_below out regions memory word = memory word

-- one region is freed
abbrev pub freed_one : ℕ → (Word → ℕ) → Word → ℕ
freed_one region memory Free = bit_or (memory Free) (1 * 2 ^ region % 2 ^ 64)
freed_one region memory (Top asked_region) = if region == asked_region then 0 else memory (Top asked_region)
freed_one region memory (Tams asked_region) = if region == asked_region then 0 else memory (Tams asked_region)
freed_one region memory (Limit asked_region) = if region == asked_region then 0 else memory (Limit asked_region)
freed_one region memory word = memory word
