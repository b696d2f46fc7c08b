-- What the words of a line say, behind the lines so far.
use Rattle.std.specs.Prelude.{ℕ, ◌&&◌, List, [], ◌∷◌, Option, Some, None, nat_lt, is_none, if◌then◌else◌, Result, Ok, Err}
use Rattle.find_play.specs.NameNumbers.{number_of}
use Rattle.find_play.specs.declared.fault.TestWhy.{TestWhy}
use Rattle.find_play.specs.declared.fault.TestWhy.TheVariants as why
use Rattle.find_play.specs.declared.slot.Slot.{Slot}
use Rattle.find_play.specs.declared.slot.Slot.TheVariants as slot
use Rattle.find_play.specs.declared.slot.Value.{Value}
use Rattle.find_play.specs.declared.slot.Value.TheVariants as value
use Rattle.find_play.specs.declared.kind.LineKind.{LineKind}
use Rattle.find_play.specs.declared.kind.LineKind.TheVariants as line
use Rattle.find_play.specs.Told.{Told}
use Rattle.find_play.specs.WordsSaid.{number_between, wanted_in}
use Rattle.find_play.specs.Names.{is_name}
use Rattle.find_play.specs.Kinds.{line_slots, line_kinds, kind_of_word}
use Rattle.find_play.specs.Drafts.{allows}

abbrev pub as_small : Result ℕ TestWhy → Result Value TestWhy
as_small (Ok number) = Ok (value.Small number)
as_small (Err refusal) = Err refusal

abbrev pub as_large : Result ℕ TestWhy → Result Value TestWhy
as_large (Ok number) = Ok (value.Large number)
as_large (Err refusal) = Err refusal

abbrev pub as_root : Option ℕ → Result Value TestWhy
as_root None = Err why.Name
as_root (Some number) = if nat_lt number 16 then Ok (value.Small number) else Err why.Name

abbrev pub as_number : Option ℕ → Result ℕ TestWhy
as_number None = Err why.Name
as_number (Some number) = Ok number

abbrev pub as_index : Result ℕ TestWhy → Result Value TestWhy
as_index (Ok index) = Ok (value.Index index)
as_index (Err refusal) = Err refusal

-- a name that these names may get: none of them is it
abbrev pub fresh_in : List (List ℕ) → List ℕ → Result Value TestWhy
fresh_in names word = if is_name word && is_none (number_of names word) then Ok value.Nothing else Err why.Fresh

-- the names of which a line of this kind gives another
abbrev pub names_beside : Told → LineKind → List (List ℕ)
names_beside told line.Note = told.notes
names_beside told line.Place = told.place_names
names_beside told _ = told.roots

-- a word where this is to stand
unfoldable pub value_in : Told → LineKind → Slot → List ℕ → Result Value TestWhy
value_in told kind slot.Nothing word = Err why.Line
value_in told kind (slot.Small most) word = as_small (number_between 0 most word)
value_in told kind (slot.Large least most) word = as_large (number_between least most word)
value_in told kind slot.Root word = as_root (number_of told.roots word)
value_in told kind slot.Note word = as_index (as_number (number_of told.notes word))
value_in told kind slot.Place word = as_index (as_number (number_of told.place_names word))
value_in told kind slot.Wanted word = wanted_in told.version word
value_in told kind slot.Fresh word = fresh_in (names_beside told kind) word

abbrev pub with_rest : Result Value TestWhy → List (List ℕ) → Result (Value × List (List ℕ)) TestWhy
with_rest (Ok said_value) rest = Ok (said_value, rest)
with_rest (Err refusal) rest = Err refusal

-- no word is left where none is to stand
abbrev pub without_word : Slot → Result Value TestWhy
without_word slot.Nothing = Ok value.Nothing
without_word _ = Err why.Line

-- the next of these words, and those behind it
unfoldable pub take_value : Told → LineKind → Slot → List (List ℕ) → Result (Value × List (List ℕ)) TestWhy
take_value told kind asked_slot [] = with_rest (without_word asked_slot) []
take_value told kind asked_slot (word ∷ later_words) = with_rest (value_in told kind asked_slot word) later_words

abbrev pub with_first : Value → Result (List Value) TestWhy → Result (List Value) TestWhy
with_first first_value (Ok later_values) = Ok (first_value ∷ later_values)
with_first first_value (Err refusal) = Err refusal

abbrev pub then_values : Result (Value × List (List ℕ)) TestWhy → (List (List ℕ) → Result (List Value) TestWhy) → Result (List Value) TestWhy
then_values (Err refusal) further = Err refusal
then_values (Ok taken) further = with_first taken.0 (further taken.1)

-- these words, from left to right, where these are to stand, and no more
unfoldable pub values_in : Told → LineKind → List Slot → List (List ℕ) → Result (List Value) TestWhy
values_in told kind [] [] = Ok []
values_in told kind [] (word ∷ words) = Err why.Line
values_in told kind (first_slot ∷ later_slots) words = then_values (take_value told kind first_slot words) (λ rest. values_in told kind later_slots rest)

abbrev pub of_kind : LineKind → Result (List Value) TestWhy → Result (LineKind × List Value) TestWhy
of_kind kind (Ok values) = Ok (kind, values)
of_kind kind (Err refusal) = Err refusal

-- the words behind the first, in a line of this kind
abbrev pub words_behind : Told → LineKind → List (List ℕ) → Result (LineKind × List Value) TestWhy
words_behind told kind words = if allows told kind then of_kind kind (values_in told kind (line_slots kind) words) else Err why.Place

abbrev pub words_of : Told → Option LineKind → List (List ℕ) → Result (LineKind × List Value) TestWhy
words_of told None words = Err why.Line
words_of told (Some kind) words = words_behind told kind words

-- A line of these words: its kind and what they say, or the first cause for which it is refused. First its kind is looked at,
-- then whether such a line may stand there, and then the words from left to right.
abbrev pub line_in : Told → List (List ℕ) → Result (LineKind × List Value) TestWhy
line_in told [] = Err why.Line
line_in told (first_word ∷ later_words) = words_of told (kind_of_word (line_kinds told.version) first_word) later_words
