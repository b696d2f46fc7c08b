-- How traces are spelled. Each trace has spellings that differ only in how the threads' lines are mixed, and in how many
-- items of the schedule stand on a line.
use Rattle.std.specs.Prelude.{ℕ, ◌^◌, ◌+◌, ◌<◌, ◌≤◌, List, [], ◌∷◌, ◌++◌, length, codes}
use Rattle.std.specs.List.{flat_map, AllByRecursion}
use Rattle.std.specs.Fmt.{decimal}
use Rattle.shen_graph.specs.declared.command.Command.{Command}
use Rattle.shen_graph.specs.declared.command.Command.TheVariants.{New, Get, Set, Cas, Xchg, Rd, Wr, Copy, Drop, Same, Gc, Pin, Unpin}
use Rattle.shen_graph.specs.Valid.{IsValid}
use Rattle.heap_words.specs.declared.config.Config.{Config}
use Rattle.heap_words.specs.declared.schedule.Item.{Item}
use Rattle.heap_words.specs.declared.schedule.Item.TheVariants.{Steps, Until, Replies}
use Rattle.heap_words.specs.Place.{code_of}
use Rattle.heap_words.specs.Ranges.{seat_count}

-- the byte between two words, and the one at the end of a line
abbrev pub space : ℕ
space = 32

abbrev pub newline : ℕ
newline = 10

-- each number, after one space
abbrev pub numbers : List ℕ → List ℕ
numbers given_numbers = flat_map (λ number. space ∷ decimal number) given_numbers

-- the word of a command
abbrev pub command_word : Command → List ℕ
command_word (New dst refs nums) = codes "new"
command_word (Get dst src field) = codes "get"
command_word (Set obj field val) = codes "set"
command_word (Cas obj field expect val) = codes "cas"
command_word (Xchg dst obj field val) = codes "xchg"
command_word (Rd obj index) = codes "rd"
command_word (Wr obj index value) = codes "wr"
command_word (Copy dst src) = codes "copy"
command_word (Drop dst) = codes "drop"
command_word (Same root other_root) = codes "same"
command_word Gc = codes "gc"
command_word (Pin slot obj) = codes "pin"
command_word (Unpin slot) = codes "unpin"

-- the numbers behind it
abbrev pub numbers_of : Command → List ℕ
numbers_of (New dst refs nums) = dst ∷ refs ∷ nums ∷ []
numbers_of (Get dst src field) = dst ∷ src ∷ field ∷ []
numbers_of (Set obj field val) = obj ∷ field ∷ val ∷ []
numbers_of (Cas obj field expect val) = obj ∷ field ∷ expect ∷ val ∷ []
numbers_of (Xchg dst obj field val) = dst ∷ obj ∷ field ∷ val ∷ []
numbers_of (Rd obj index) = obj ∷ index ∷ []
numbers_of (Wr obj index value) = obj ∷ index ∷ value ∷ []
numbers_of (Copy dst src) = dst ∷ src ∷ []
numbers_of (Drop dst) = dst ∷ []
numbers_of (Same root other_root) = root ∷ other_root ∷ []
numbers_of Gc = []
numbers_of (Pin slot obj) = slot ∷ obj ∷ []
numbers_of (Unpin slot) = slot ∷ []

-- a line of a command: the thread, the command's word and its numbers
pub record TraceLine : Type 0 where
  pub thread : ℕ
  pub command : Command

abbrev pub line : TraceLine → List ℕ
line trace_line = decimal trace_line.thread ++ space ∷ (command_word trace_line.command ++ (numbers (numbers_of trace_line.command) ++ newline ∷ []))

-- a number that is written fits 64 bits
abbrev pub FitsWhenWritten : Command → Type 0
FitsWhenWritten (Wr obj index value) = value < 2 ^ 64
FitsWhenWritten _ = Unit {0}

-- the versions of traces are 1 and 2
abbrev pub IsVersion : ℕ → Type 0
IsVersion version = (1 ≤ version) × (version ≤ 2)

-- a version has the command: those on pins joined in version 2
abbrev pub IsKnown : (version : ℕ) → Command → Type 0
IsKnown version (Pin slot obj) = 2 ≤ version
IsKnown version (Unpin slot) = 2 ≤ version
IsKnown version _ = Unit {0}

-- what may stand on a line of a version where there are so many threads, counted from 1
pub record IsLine (version threads : ℕ) (line : TraceLine) : Type 0 where
  pub from_one : 1 ≤ line.thread
  pub to_last : line.thread ≤ threads
  pub known : IsKnown version line.command
  pub valid : IsValid line.command
  pub fits : FitsWhenWritten line.command

-- a title and numbers, on a line of their own
abbrev pub titled : List ℕ → List ℕ → List ℕ
titled title given_numbers = title ++ (numbers given_numbers ++ newline ∷ [])

-- the three lines at the head of a trace of a version
abbrev pub header : ℕ → Config → List ℕ
header version config = titled (codes "shen") (version ∷ []) ++ (titled (codes "heap") (config.regions ∷ config.region_words ∷ config.reserve ∷ []) ++ titled (codes "threads") (config.mutators ∷ config.helpers ∷ []))

-- ---- schedules

-- the machine of an item, counted from 0
abbrev pub number_of : Item → ℕ
number_of (Steps number count) = number
number_of (Until number place) = number
number_of (Replies number count) = number

-- how far the machine goes: after a colon its steps, after an at sign the code of a place, after an equals sign its replies
abbrev pub aim : Item → List ℕ
aim (Steps number count) = 58 ∷ decimal count
aim (Until number place) = 64 ∷ code_of place
aim (Replies number count) = 61 ∷ decimal count

-- an item: the machine, counted from 1, and how far it goes
abbrev pub item : Item → List ℕ
item schedule_item = decimal (number_of schedule_item + 1) ++ aim schedule_item

-- each item, after one space
abbrev pub spaced_item : Item → List ℕ
spaced_item schedule_item = space ∷ item schedule_item

-- the items of a line, and its end
abbrev pub items_and_end : List Item → List ℕ
items_and_end items = flat_map spaced_item items ++ newline ∷ []

-- a line of the schedule: an exclamation mark and items
abbrev pub schedule_line : List Item → List ℕ
schedule_line items = 33 ∷ items_and_end items

-- a number from 1 on, at most so large
abbrev pub IsUpTo : ℕ → ℕ → Type 0
IsUpTo most number = (1 ≤ number) × (number ≤ most)

-- a count of steps or of replies
abbrev pub IsCount : ℕ → Type 0
IsCount count = IsUpTo 4000000000 count

-- What may stand in a schedule for these machines. Replies are those of a mutator.
abbrev pub IsItem : Config → Item → Type 0
IsItem config (Steps number count) = (number < seat_count config.mutators config.helpers) × IsCount count
IsItem config (Until number place) = number < seat_count config.mutators config.helpers
IsItem config (Replies number count) = (number < config.mutators) × IsCount count

-- what may stand on a line of the schedule: one item or more
pub record IsScheduleLine (config : Config) (items : List Item) : Type 0 where
  pub some : 1 ≤ length items
  pub in_range : AllByRecursion (IsItem config) items
