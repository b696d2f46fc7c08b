-- What a word says by itself.
use Rattle.std.specs.Prelude.{ℕ, List, codes, ◌&&◌, nat_lt, if◌then◌else◌, Result, Ok, Err}
use Rattle.std.specs.Str.Parse.{digits_value}
use Rattle.find_play.specs.declared.wanted.Wanted.TheVariants as wanted
use Rattle.trace_reading.specs.declared.why.Why.TheVariants as cause
use Rattle.trace_reading.specs.Causes.{is_same, is_plain_number}
use Rattle.find_play.specs.declared.fault.TestWhy.{TestWhy}
use Rattle.find_play.specs.declared.fault.TestWhy.TheVariants as why
use Rattle.find_play.specs.declared.slot.Value.{Value}
use Rattle.find_play.specs.declared.slot.Value.TheVariants as value

-- a number of a range
unfoldable pub ranged : ℕ → ℕ → ℕ → Result ℕ TestWhy
ranged least most number = if nat_lt number least then Err (why.Trace cause.Range) else (if nat_lt most number then Err (why.Trace cause.Range) else Ok number)

-- a word where a number of a range is to stand
unfoldable pub number_between : ℕ → ℕ → List ℕ → Result ℕ TestWhy
number_between least most word = if is_plain_number word then ranged least most (digits_value 10 word) else Err (why.Trace cause.Number)

abbrev pub as_wanted : Result ℕ TestWhy → Result Value TestWhy
as_wanted (Ok number) = Ok (value.Wanted (wanted.Number number))
as_wanted (Err refusal) = Err refusal

-- a word where the number that a reply is to be stands
abbrev pub number_wanted : List ℕ → Result Value TestWhy
number_wanted word = if is_plain_number word then as_wanted (number_between 0 18446744073709551615 word) else Err why.Reply

-- a word where a reply is to stand: what is pinned has a place from version 2 on
unfoldable pub wanted_in : (version : ℕ) → List ℕ → Result Value TestWhy
wanted_in version word =
    if is_same word (codes "yes") then Ok (value.Wanted wanted.Yes) else
    (if is_same word (codes "no") then Ok (value.Wanted wanted.No) else
    (if is_same word (codes "null") then Ok (value.Wanted wanted.Null) else
    (if is_same word (codes "object") then Ok (value.Wanted wanted.Object) else
    (if is_same word (codes "ok") then Ok (value.Wanted wanted.Ok) else
    (if is_same word (codes "full") then Ok (value.Wanted wanted.Full) else
    (if is_same word (codes "bad") then Ok (value.Wanted wanted.Bad) else
    (if nat_lt 1 version && is_same word (codes "pinned") then Ok (value.Wanted wanted.Pinned) else
    number_wanted word)))))))
