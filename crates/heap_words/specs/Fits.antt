-- Whether an access can be made: of a word of the table, with numbers that words hold.
use Rattle.std.specs.Prelude.{ℕ, ◌^◌, Bool, true, ◌&&◌, nat_lt}
use Rattle.heap_words.specs.declared.config.Config.{Config}
use Rattle.heap_words.specs.Words.{is_word}
use Rattle.heap_words.specs.Touch.{Touch, Form, loads, stores, swaps, adds, subtracts, keeps_bits, sets_bits, exchanges}

-- whether a word holds the number
abbrev pub is_number : ℕ → Bool
is_number number = nat_lt number (2 ^ 64)

-- whether the numbers of the access are words
abbrev pub form_fits : Form → Bool
form_fits loads = true
form_fits (stores value) = is_number value
form_fits (swaps value) = is_number value
form_fits (adds value) = is_number value
form_fits (subtracts value) = is_number value
form_fits (keeps_bits value) = is_number value
form_fits (sets_bits value) = is_number value
form_fits (exchanges expect value) = is_number expect && is_number value

-- whether the access can be made: it is of a word of the table, and its numbers are words
abbrev pub touch_fits : Config → Touch → Bool
touch_fits config touch = is_word config touch.word && form_fits touch.form
