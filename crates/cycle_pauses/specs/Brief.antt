-- Pauses of a part of the image: what a pause makes of that part, and of the words that it neither loads nor stores.
use Rattle.std.specs.Prelude.{ℕ, ◌≡◌, ◌≢◌, ◌==◌, if◌then◌else◌, Bool, true, false}
use Rattle.heap_words.specs.declared.config.Config.{Config}
use Rattle.heap_words.specs.Words.{Word, Phase, Root, Count, Buffer, Wait, Answer, Grey, Black, Heap, Share, Pin}
use Rattle.heap_words.specs.Phases.{idle_phase, marking_phase}
use Rattle.cycle_pauses.specs.Collect.{is_room_needed, collected}

-- whether a word is none of the heap's
abbrev pub is_off_heap : Word → Bool
is_off_heap (Heap address) = false
is_off_heap word = true

-- whether a word stands before those of the mutators
abbrev pub is_ahead : Word → Bool
is_ahead (Root mutator index) = false
is_ahead (Count mutator) = false
is_ahead (Buffer mutator entry) = false
is_ahead (Wait mutator) = false
is_ahead (Answer mutator) = false
is_ahead (Grey number) = false
is_ahead (Black number) = false
is_ahead (Heap address) = false
is_ahead Share = false
is_ahead (Pin mutator slot) = false
is_ahead word = true

-- one memory has of another the words that pass a test, and 0 at each other word
pub record IsPartOf (inside : Word → Bool) (whole part : Word → ℕ) : Type 0 where
  pub same : (word : Word) → inside word ≡ true → whole word ≡ part word
  pub nothing : (word : Word) → inside word ≡ false → part word ≡ 0

-- Where words change, those that pass a test become what they become of the part that has these alone; and each other word becomes what it
-- becomes of that part, if that is not 0, and else stays.
pub record IsMadeOfPart (inside : Word → Bool) (whole : Word → ℕ) (made part_made : Word → ℕ) : Type 0 where
  pub within : (word : Word) → inside word ≡ true → made word ≡ part_made word
  pub outside : (word : Word) → inside word ≡ false → made word ≡ (if part_made word == 0 then whole word else part_made word)

-- Where no room is needed a pause of phase 0 is made of the words off the heap, and one of phase 2 or 3 of those before the words of the mutators.
-- Of the others it writes only such as become other than 0.
pub record CollectsByPart : Type 0 where
  pub begins : (config : Config) (whole part : Word → ℕ) → IsPartOf is_off_heap whole part → is_room_needed part ≡ false → part Phase ≡ idle_phase
      → IsMadeOfPart is_off_heap whole (collected config whole) (collected config part)
  pub updates : (config : Config) (whole part : Word → ℕ) → IsPartOf is_ahead whole part → is_room_needed part ≡ false → part Phase ≢ idle_phase → part Phase ≢ marking_phase
      → IsMadeOfPart is_ahead whole (collected config whole) (collected config part)
