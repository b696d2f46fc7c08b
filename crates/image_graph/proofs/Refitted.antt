-- A memory with other tops, words of the heap, and buffers.
use Rattle.std.proofs.Common.{◌≡◌, ℕ, refl}
use Rattle.std.proofs.Math.Path.{fun_ext}
use Rattle.heap_words.specs.Words.{Word, Pause, Left, End, State, Phase, Cset, Free, Evac, Claim, Ask, Top, Tams, Limit, Current, Root, Count, Buffer, Wait, Answer, Grey, Black, Heap, Share, Pin, write}
use Rattle.heap_world.proofs.FunctionUpdates.{updated}

-- the memory
abbrev pub refitted : (Word → ℕ) → (top heap current : ℕ → ℕ) → Word → ℕ
refitted memory top heap current (Top region) = top region
refitted memory top heap current (Heap address) = heap address
refitted memory top heap current (Current seat) = current seat
refitted memory top heap current word = memory word

module _ (memory : Word → ℕ) where
  -- its own tops, words of the heap, and buffers
  abbrev pub tops_of : ℕ → ℕ
  tops_of region = memory (Top region)

  abbrev pub heap_of : ℕ → ℕ
  heap_of address = memory (Heap address)

  abbrev pub currents_of : ℕ → ℕ
  currents_of seat = memory (Current seat)

  -- with these it is the same
  pub refit_same : memory ≡ refitted memory (λ region. memory (Top region)) (λ address. memory (Heap address)) (λ seat. memory (Current seat))
  refit_same = fun_ext by_word
    where
      by_word : (word : Word) → memory word ≡ refitted memory (λ region. memory (Top region)) (λ address. memory (Heap address)) (λ seat. memory (Current seat)) word
      by_word Pause = refl
      by_word Left = refl
      by_word End = refl
      by_word (State seat) = refl
      by_word Phase = refl
      by_word Cset = refl
      by_word Free = refl
      by_word Evac = refl
      by_word Claim = refl
      by_word Ask = refl
      by_word (Top word_region) = refl
      by_word (Tams word_region) = refl
      by_word (Limit word_region) = refl
      by_word (Current seat) = refl
      by_word (Root thread index) = refl
      by_word (Count thread) = refl
      by_word (Buffer thread index) = refl
      by_word (Wait thread) = refl
      by_word (Answer thread) = refl
      by_word (Grey number) = refl
      by_word (Black number) = refl
      by_word (Heap word_address) = refl
      by_word Share = refl
      by_word (Pin thread index) = refl

  module _ (top heap current : ℕ → ℕ) where
    -- others once more
    pub refit_twice : (tops heaps currents : ℕ → ℕ) → refitted (refitted memory top heap current) tops heaps currents ≡ refitted memory tops heaps currents
    refit_twice tops heaps currents = fun_ext by_word
      where
        by_word : (word : Word) → refitted (refitted memory top heap current) tops heaps currents word ≡ refitted memory tops heaps currents word
        by_word Pause = refl
        by_word Left = refl
        by_word End = refl
        by_word (State seat) = refl
        by_word Phase = refl
        by_word Cset = refl
        by_word Free = refl
        by_word Evac = refl
        by_word Claim = refl
        by_word Ask = refl
        by_word (Top region) = refl
        by_word (Tams region) = refl
        by_word (Limit region) = refl
        by_word (Current seat) = refl
        by_word (Root thread index) = refl
        by_word (Count thread) = refl
        by_word (Buffer thread index) = refl
        by_word (Wait thread) = refl
        by_word (Answer thread) = refl
        by_word (Grey number) = refl
        by_word (Black number) = refl
        by_word (Heap address) = refl
        by_word Share = refl
        by_word (Pin thread index) = refl

    -- a word of it is written
    pub refit_heap : (address value : ℕ) → write (refitted memory top heap current) (Heap address) value ≡ refitted memory top (updated heap address value) current
    refit_heap address value = fun_ext by_word
      where
        by_word : (word : Word) → write (refitted memory top heap current) (Heap address) value word ≡ refitted memory top (updated heap address value) current word
        by_word Pause = refl
        by_word Left = refl
        by_word End = refl
        by_word (State seat) = refl
        by_word Phase = refl
        by_word Cset = refl
        by_word Free = refl
        by_word Evac = refl
        by_word Claim = refl
        by_word Ask = refl
        by_word (Top region) = refl
        by_word (Tams region) = refl
        by_word (Limit region) = refl
        by_word (Current seat) = refl
        by_word (Root thread index) = refl
        by_word (Count thread) = refl
        by_word (Buffer thread index) = refl
        by_word (Wait thread) = refl
        by_word (Answer thread) = refl
        by_word (Grey number) = refl
        by_word (Black number) = refl
        by_word (Heap word_address) = refl
        by_word Share = refl
        by_word (Pin thread index) = refl

    pub refit_top : (region value : ℕ) → write (refitted memory top heap current) (Top region) value ≡ refitted memory (updated top region value) heap current
    refit_top region value = fun_ext by_word
      where
        by_word : (word : Word) → write (refitted memory top heap current) (Top region) value word ≡ refitted memory (updated top region value) heap current word
        by_word Pause = refl
        by_word Left = refl
        by_word End = refl
        by_word (State seat) = refl
        by_word Phase = refl
        by_word Cset = refl
        by_word Free = refl
        by_word Evac = refl
        by_word Claim = refl
        by_word Ask = refl
        by_word (Top word_region) = refl
        by_word (Tams word_region) = refl
        by_word (Limit word_region) = refl
        by_word (Current seat) = refl
        by_word (Root thread index) = refl
        by_word (Count thread) = refl
        by_word (Buffer thread index) = refl
        by_word (Wait thread) = refl
        by_word (Answer thread) = refl
        by_word (Grey number) = refl
        by_word (Black number) = refl
        by_word (Heap address) = refl
        by_word Share = refl
        by_word (Pin thread index) = refl

    pub refit_current : (seat value : ℕ) → write (refitted memory top heap current) (Current seat) value ≡ refitted memory top heap (updated current seat value)
    refit_current own_seat value = fun_ext by_word
      where
        by_word : (word : Word) → write (refitted memory top heap current) (Current own_seat) value word ≡ refitted memory top heap (updated current own_seat value) word
        by_word Pause = refl
        by_word Left = refl
        by_word End = refl
        by_word (State seat) = refl
        by_word Phase = refl
        by_word Cset = refl
        by_word Free = refl
        by_word Evac = refl
        by_word Claim = refl
        by_word Ask = refl
        by_word (Top region) = refl
        by_word (Tams region) = refl
        by_word (Limit region) = refl
        by_word (Current seat) = refl
        by_word (Root thread index) = refl
        by_word (Count thread) = refl
        by_word (Buffer thread index) = refl
        by_word (Wait thread) = refl
        by_word (Answer thread) = refl
        by_word (Grey number) = refl
        by_word (Black number) = refl
        by_word (Heap address) = refl
        by_word Share = refl
        by_word (Pin thread index) = refl
