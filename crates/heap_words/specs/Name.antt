-- The names of words as the code has them.
use Rattle.std.specs.Prelude.{ℕ, Bool, ◌==◌, List, [], ◌∷◌}
use Rattle.std.specs.Cmp.Lexicographic.{pointwise}
use Rattle.std.specs.Ordering.{on}
use Rattle.heap_words.specs.Words.{Word, Pause, Left, End, State, Phase, Cset, Free, Evac, Claim, Ask, Top, Tams, Limit, Current, Root, Count, Buffer, Wait, Answer, Grey, Black, Heap, Share, Pin}
use Rattle.heap_words.specs.declared.name.WordName.{WordName}
use Rattle.heap_words.specs.declared.name.WordName.TheVariants as code

-- the word of a name
abbrev pub word_of : WordName → Word
word_of code.Pause = Pause
word_of code.Left = Left
word_of code.End = End
word_of (code.State seat) = State seat
word_of code.Phase = Phase
word_of code.Cset = Cset
word_of code.Free = Free
word_of code.Evac = Evac
word_of code.Claim = Claim
word_of code.Ask = Ask
word_of (code.Top region) = Top region
word_of (code.Tams region) = Tams region
word_of (code.Limit region) = Limit region
word_of (code.Current seat) = Current seat
word_of (code.Root mutator index) = Root mutator index
word_of (code.Count mutator) = Count mutator
word_of (code.Buffer mutator entry) = Buffer mutator entry
word_of (code.Wait mutator) = Wait mutator
word_of (code.Answer mutator) = Answer mutator
word_of (code.Grey word) = Grey word
word_of (code.Black word) = Black word
word_of (code.Heap address) = Heap address
word_of code.Share = Share
word_of (code.Pin mutator slot) = Pin mutator slot

-- a name as its kind and its numbers
abbrev pub name_numbers : WordName → List ℕ
name_numbers code.Pause = 0 ∷ 0 ∷ 0 ∷ []
name_numbers code.Left = 1 ∷ 0 ∷ 0 ∷ []
name_numbers code.End = 2 ∷ 0 ∷ 0 ∷ []
name_numbers (code.State seat) = 3 ∷ seat ∷ 0 ∷ []
name_numbers code.Phase = 4 ∷ 0 ∷ 0 ∷ []
name_numbers code.Cset = 5 ∷ 0 ∷ 0 ∷ []
name_numbers code.Free = 6 ∷ 0 ∷ 0 ∷ []
name_numbers code.Evac = 7 ∷ 0 ∷ 0 ∷ []
name_numbers code.Claim = 8 ∷ 0 ∷ 0 ∷ []
name_numbers code.Ask = 9 ∷ 0 ∷ 0 ∷ []
name_numbers (code.Top region) = 10 ∷ region ∷ 0 ∷ []
name_numbers (code.Tams region) = 11 ∷ region ∷ 0 ∷ []
name_numbers (code.Limit region) = 12 ∷ region ∷ 0 ∷ []
name_numbers (code.Current seat) = 13 ∷ seat ∷ 0 ∷ []
name_numbers (code.Root mutator index) = 14 ∷ mutator ∷ index ∷ []
name_numbers (code.Count mutator) = 15 ∷ mutator ∷ 0 ∷ []
name_numbers (code.Buffer mutator entry) = 16 ∷ mutator ∷ entry ∷ []
name_numbers (code.Wait mutator) = 17 ∷ mutator ∷ 0 ∷ []
name_numbers (code.Answer mutator) = 18 ∷ mutator ∷ 0 ∷ []
name_numbers (code.Grey word) = 19 ∷ word ∷ 0 ∷ []
name_numbers (code.Black word) = 20 ∷ word ∷ 0 ∷ []
name_numbers (code.Heap address) = 21 ∷ address ∷ 0 ∷ []
name_numbers code.Share = 22 ∷ 0 ∷ 0 ∷ []
name_numbers (code.Pin mutator slot) = 23 ∷ mutator ∷ slot ∷ []

-- whether two names are one
abbrev pub same_name : WordName → WordName → Bool
same_name = on name_numbers (pointwise ◌==◌)
