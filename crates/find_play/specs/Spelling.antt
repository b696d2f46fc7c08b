-- How the words of a line are spelled.
use Rattle.std.specs.Prelude.{ℕ, ◌≡◌, ◌^◌, ◌<◌, ◌≤◌, true, List, [], ◌∷◌, codes, Some, None, Contains}
use Rattle.std.specs.Fmt.{decimal}
use Rattle.find_play.specs.declared.wanted.Wanted.{Wanted}
use Rattle.find_play.specs.declared.wanted.Wanted.TheVariants as wanted
use Rattle.find_play.specs.NameNumbers.{number_of}
use Rattle.find_play.specs.declared.slot.Slot.{Slot}
use Rattle.find_play.specs.declared.slot.Slot.TheVariants as slot
use Rattle.find_play.specs.declared.slot.Value.{Value}
use Rattle.find_play.specs.declared.slot.Value.TheVariants as value
use Rattle.find_play.specs.Told.{Told}
use Rattle.find_play.specs.declared.kind.LineKind.{LineKind}
use Rattle.find_play.specs.Names.{is_name}
use Rattle.find_play.specs.Kinds.{line_word, line_kinds, line_slots}
use Rattle.find_play.specs.Lines.{names_beside}
use Rattle.find_play.specs.Drafts.{allows}

-- the word of what a reply is asked to be
abbrev pub wanted_word : Wanted → List ℕ
wanted_word wanted.Yes = codes "yes"
wanted_word wanted.No = codes "no"
wanted_word wanted.Null = codes "null"
wanted_word wanted.Object = codes "object"
wanted_word wanted.Ok = codes "ok"
wanted_word wanted.Full = codes "full"
wanted_word wanted.Bad = codes "bad"
wanted_word wanted.Pinned = codes "pinned"
wanted_word (wanted.Number number) = decimal number

-- A number that a reply is to be fits 64 bits, and a place is one from version 2 on.
abbrev pub FitsWhenWanted : (version : ℕ) → Wanted → Type 0
FitsWhenWanted version (wanted.Number number) = number < 2 ^ 64
FitsWhenWanted version wanted.Pinned = 1 < version
FitsWhenWanted version _ = Unit {0}

-- Where this is to stand, that is said by the word: a number in its range, the number of the first name that the word is,
-- what a reply is asked to be; or the word is a name that none of the names has, beside which a line of this kind puts it.
abbrev pub Says : Told → LineKind → Slot → Value → List ℕ → Type 0
Says told kind (slot.Small most) (value.Small number) word = (word ≡ decimal number) × (number ≤ most)
Says told kind (slot.Large least most) (value.Large number) word = (word ≡ decimal number) × (least ≤ number) × (number ≤ most)
Says told kind slot.Root (value.Small number) word = (number_of told.roots word ≡ Some number) × (number ≤ 15)
Says told kind slot.Note (value.Index number) word = number_of told.notes word ≡ Some number
Says told kind slot.Place (value.Index number) word = number_of told.place_names word ≡ Some number
Says told kind slot.Wanted (value.Wanted wanted_reply) word = (word ≡ wanted_word wanted_reply) × FitsWhenWanted told.version wanted_reply
Says told kind slot.Fresh value.Nothing word = (is_name word ≡ true) × (number_of (names_beside told kind) word ≡ None)
Says told kind _ _ word = ⊥

-- that is said by these words, one for each value, and none where nothing is to stand
abbrev pub AreSaid : Told → LineKind → List Slot → List Value → List (List ℕ) → Type 0
AreSaid told kind [] [] [] = Unit {0}
AreSaid told kind (first_slot ∷ later_slots) (first_value ∷ later_values) [] = (first_slot ≡ slot.Nothing) × (first_value ≡ value.Nothing) × AreSaid told kind later_slots later_values []
AreSaid told kind (first_slot ∷ later_slots) (first_value ∷ later_values) (first_word ∷ later_words) = Says told kind first_slot first_value first_word × AreSaid told kind later_slots later_values later_words
AreSaid told kind _ _ _ = ⊥

-- a line of these words: the word of its kind, which the version has, and then words that say its values; and such a line may stand there
abbrev pub IsLineSaid : Told → List (List ℕ) → LineKind → List Value → Type 0
IsLineSaid told [] kind values = ⊥
IsLineSaid told (first_word ∷ later_words) kind values = (first_word ≡ line_word kind) × Contains (line_kinds told.version) kind × (allows told kind ≡ true) × AreSaid told kind (line_slots kind) values later_words
