-- Which bytes are the text of a test, and of which; and which are refused, at which line, and why.
use Rattle.std.specs.Prelude.{ℕ, ◌≡◌, ◌⊎◌, ◌+◌, ◌≤◌, true, List, [], ◌∷◌, ◌++◌, length, slice_index_or, if◌then◌else◌, Option, Some, None, Err}
use Rattle.heap_words.specs.declared.config.Config.{Config}
use Rattle.heap_words.specs.Narrow.{IsNarrow}
use Rattle.trace_reading.specs.Spelling.{space, newline, IsVersion, header}
use Rattle.trace_reading.specs.Grammar.{most_bytes, HasNoHead}
use Rattle.trace_reading.specs.declared.why.Why.{Why}
use Rattle.trace_reading.specs.declared.why.Why.TheVariants.{EndOfLine}
use Rattle.trace_reading.specs.Causes.{parts}
use Rattle.trace_reading.specs.Refused.{StopsAt}
use Rattle.find_play.specs.declared.claim.Claim.{Claim}
use Rattle.find_play.specs.declared.statement.Statement.{Statement}
use Rattle.find_play.specs.declared.test.Bounds.{Bounds}
use Rattle.find_play.specs.declared.test.Place.{Place}
use Rattle.find_play.specs.declared.test.Test.{Test}
use Rattle.find_play.specs.declared.fault.TestWhy.{TestWhy}
use Rattle.find_play.specs.declared.fault.TestWhy.TheVariants as whys
use Rattle.find_play.specs.declared.kind.LineKind.{LineKind}
use Rattle.find_play.specs.declared.slot.Value.{Value}
use Rattle.find_play.specs.Told.{Told, untold}
use Rattle.find_play.specs.Drafts.{has_all_threads}
use Rattle.find_play.specs.Lines.{line_in}
use Rattle.find_play.specs.Spelling.{IsLineSaid}
use Rattle.find_play.specs.Added.{added}

-- ---- lines

-- the word behind the first, which is the new name in a line that gives one
abbrev pub name_among : List (List ℕ) → List ℕ
name_among words = slice_index_or words 1 []

-- this text, with the end of its line, may stand behind what was said; and what is said with it
abbrev pub TestLineFollows : Told → List ℕ → Told → Type 0
TestLineFollows told text next = (kind : LineKind) × (values : List Value) × IsLineSaid told (parts space text) kind values × (next ≡ added told kind values (name_among (parts space text)))

-- these lines follow one on the other
abbrev pub TestLinesFollow : Told → List (List ℕ) → Told → Type 0
TestLinesFollow told [] end = told ≡ end
TestLinesFollow told (text ∷ texts) end = (next : Told) × TestLineFollows told text next × TestLinesFollow next texts end

-- ---- tests

-- What a test is. Of the names of places the first is `hub`, and places are those behind it.
pub record TestSaid : Type 0 where
  pub version : ℕ
  pub config : Config
  pub bounds : Bounds
  pub programs : List (List Statement)
  pub notes : List (List ℕ)
  pub place_names : List (List ℕ)
  pub places : List Place
  pub claims : List Claim

-- what a test in memory is
abbrev pub test_said : Test → TestSaid
test_said test = record { version = test.version; config = test.config; bounds = test.bounds; programs = test.programs.items; notes = test.notes; place_names = test.place_names; places = test.places.items; claims = test.claims.items }

-- what lines that are behind the head of this configuration, and give these bounds, say in all
abbrev pub said_in_all : Config → Bounds → Told → TestSaid
said_in_all config bounds told = record { version = told.version; config = config; bounds = bounds; programs = told.programs; notes = told.notes; place_names = told.place_names; places = told.places; claims = told.claims }

-- what was said is a whole test, which is this one
pub record IsWholeTest (config : Config) (told : Told) (test : TestSaid) : Type 0 where
  pub whole : has_all_threads told ≡ true
  pub bounds : told.bounds ≡ Some test.bounds
  pub test_is : test ≡ said_in_all config test.bounds told

-- Behind the head of this version and configuration the bytes are lines that follow one on the other, each with its end, and say this
-- test.
pub record IsTestBody (version : ℕ) (config : Config) (bytes : List ℕ) (test : TestSaid) : Type 0 where
  pub lines : List (List ℕ)
  pub cut : parts newline bytes ≡ lines ++ [] ∷ []
  pub said : Told
  pub lead : TestLinesFollow (untold version config.mutators) lines said
  pub whole : IsWholeTest config said test

-- the bytes are the head of a trace and such lines, and not too many
pub record IsTest (bytes : List ℕ) (test : TestSaid) : Type 0 where
  pub known : IsVersion test.version
  pub narrow : IsNarrow test.config
  pub behind : List ℕ
  pub head : bytes ≡ header test.version test.config ++ behind
  pub body : IsTestBody test.version test.config behind test
  pub short : length bytes ≤ most_bytes

-- ---- the first line that is at fault

-- the bytes end here, with this text behind the last end of a line
abbrev pub test_end_cause : Told → List ℕ → Option TestWhy
test_end_cause told [] = if has_all_threads told then None else Some whys.More
test_end_cause told (byte ∷ text) = Some (whys.Trace EndOfLine)

-- the first cause for which the first of these lines, the last of which has no end, may not stand there
abbrev pub LineStops : Told → List (List ℕ) → TestWhy → Type 0
LineStops told [] why = ⊥
LineStops told (text ∷ []) why = test_end_cause told text ≡ Some why
LineStops told (text ∷ next_text ∷ rest) why = line_in told (parts space text) ≡ Err why

-- where the first line of the bytes has this number, line n is the first at fault, and why
pub record StopsBehind (told : Told) (first : ℕ) (bytes : List ℕ) (n : ℕ) (why : TestWhy) : Type 0 where
  pub before : List (List ℕ)
  pub from_it : List (List ℕ)
  pub cut : parts newline bytes ≡ before ++ from_it
  pub number : n ≡ first + length before
  pub said : Told
  pub lead : TestLinesFollow told before said
  pub cause : LineStops said from_it why

-- bytes that do not begin with the head of a trace are refused as a trace is
pub record StopsInHead (bytes : List ℕ) (n : ℕ) (why : TestWhy) : Type 0 where
  pub no_head : HasNoHead bytes
  pub cause : Why
  pub why_is : why ≡ whys.Trace cause
  pub stops : StopsAt bytes n cause

-- behind the head, whose three lines are before line 4
pub record StopsInBody (bytes : List ℕ) (n : ℕ) (why : TestWhy) : Type 0 where
  pub version : ℕ
  pub config : Config
  pub known : IsVersion version
  pub narrow : IsNarrow config
  pub behind : List ℕ
  pub head : bytes ≡ header version config ++ behind
  pub stops : StopsBehind (untold version config.mutators) 4 behind n why

-- the bytes are not too many, and line n of them, counted from 1, is the first at fault, and why
pub record RefusesTest (bytes : List ℕ) (n : ℕ) (why : TestWhy) : Type 0 where
  pub stops : StopsInHead bytes n why ⊎ StopsInBody bytes n why
  pub short : length bytes ≤ most_bytes

-- ---- how far a reading has come

-- Lines that follow were taken from the front of the bytes, the first of which has this number; the next, of what is left, would be
-- line n.
pub record HasToldLines (told : Told) (first : ℕ) (bytes rest : List ℕ) (n : ℕ) (now : Told) : Type 0 where
  pub lines : List (List ℕ)
  pub cut : parts newline bytes ≡ lines ++ parts newline rest
  pub lead : TestLinesFollow told lines now
  pub number : n ≡ first + length lines

-- the first line of the bytes may stand there, and the rest is behind it
pub record HasToldLine (told : Told) (bytes rest : List ℕ) (now : Told) : Type 0 where
  pub text : List ℕ
  pub cut : parts newline bytes ≡ text ∷ parts newline rest
  pub follows : TestLineFollows told text now
