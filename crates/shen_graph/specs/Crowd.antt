-- When an allocation may answer that the heap is full, and which histories a heap may have.
use Rattle.std.specs.Prelude.{ℕ, ◌≡◌, ◌+◌, ◌-◌, ◌*◌, ◌/◌, ◌≤◌, ◌==◌, List, [], length, Contains, Option, Some, slice_get, slice_index_or, take, sum_by, if◌then◌else◌}
use Rattle.std.specs.List.{range_with_len, IsDistinct}
use Rattle.shen_graph.specs.declared.command.Command.{Command}
use Rattle.shen_graph.specs.declared.command.Command.TheVariants.{New}
use Rattle.shen_graph.specs.declared.command.Reply.TheVariants as reply
use Rattle.shen_graph.specs.declared.name.Name.{Name}
use Rattle.shen_graph.specs.declared.pin.Pinned.{Pinned}
use Rattle.shen_graph.specs.Graph.{Graph, named, opening, same_name}
use Rattle.shen_graph.specs.History.{Entry, after, of_thread, EachIsLegal}
use Rattle.shen_graph.specs.Reach.{Live, size}

-- the words that a command asks for
abbrev pub words_asked : Option Command → ℕ
words_asked (Some (New dst refs nums)) = 3 + refs + nums
words_asked _ = 0

-- the command of the thread that its entries so far have not answered, if it has one left
abbrev pub next_command : List (List Command) → List Entry → ℕ → Option Command
next_command scripts history thread = slice_get (slice_index_or scripts (thread - 1) []) (length (of_thread history thread))

-- the words that the other threads' next commands ask for
abbrev pub words_open : List (List Command) → List Entry → ℕ → ℕ
words_open scripts history thread =
    sum_by (λ t. if t == thread then 0 else words_asked (next_command scripts history t)) (range_with_len 1 (length scripts))

-- some pin slot holds the object
abbrev pub IsPinnedIn : Graph → Name → Type 0
IsPinnedIn graph name = (thread : ℕ) × (slot : ℕ) × (held : Pinned) × (graph.pin thread slot ≡ Some held) × (held.name ≡ name)

-- some object is pinned in that region
abbrev pub HasPinned : (region_words : ℕ) → Graph → ℕ → Type 0
HasPinned region_words graph region = (thread : ℕ) × (slot : ℕ) × (held : Pinned) × (graph.pin thread slot ≡ Some held) × (held.place / region_words ≡ region)

-- the objects that pin slots hold, each once
pub record ArePinned (graph : Graph) (names : List Name) : Type 0 where
  pub differ : IsDistinct same_name names
  pub all : (thread slot : ℕ) (held : Pinned) → graph.pin thread slot ≡ Some held → Contains names held.name
  pub only : (name : Name) → Contains names name → IsPinnedIn graph name

-- the sum of the sizes of the objects that pin slots hold
abbrev pub Held : Graph → ℕ → Type 0
Held graph words = (names : List Name) × ArePinned graph names × (words ≡ sum_by (λ n. size (named graph (Some n))) names)

-- the regions of so many words where these objects stay, by the base of each divided by the words, each once
pub record ArePinnedRegions (region_words : ℕ) (graph : Graph) (regions : List ℕ) : Type 0 where
  pub differ : IsDistinct (λ r s. r == s) regions
  pub all : (thread slot : ℕ) (held : Pinned) → graph.pin thread slot ≡ Some held → Contains regions (held.place / region_words)
  pub only : (r : ℕ) → Contains regions r → HasPinned region_words graph r

-- how many these are
abbrev pub PinnedRegions : (region_words : ℕ) → Graph → ℕ → Type 0
PinnedRegions region_words graph count = (regions : List ℕ) × ArePinnedRegions region_words graph regions × (count ≡ length regions)

-- Live objects that are not pinned and other unanswered allocations crowd the regions without a pinned object: were each of
-- these short of the words that are asked for, so many words would be in use there.
abbrev pub IsCrowded : (regions region_words : ℕ) → Graph → List (List Command) → List Entry → Entry → Type 0
IsCrowded regions region_words graph scripts before entry =
    (live : ℕ) × (held : ℕ) × (pinned : ℕ) × Live (after graph before) live × Held (after graph before) held × PinnedRegions region_words (after graph before) pinned
    × ((regions - pinned) * (region_words - words_asked (Some entry.command) + 1) ≤ live - held + words_open scripts before entry.thread)

-- each allocation that was refused in a history that began with a graph was crowded out
abbrev pub AreCrowded : (regions region_words : ℕ) → Graph → List (List Command) → List Entry → Type 0
AreCrowded regions region_words graph scripts history =
    (index : ℕ) (entry : Entry) → slice_get history index ≡ Some entry → entry.reply ≡ reply.Full → IsCrowded regions region_words graph scripts (take index history) entry

-- A history that a heap of so many regions of so many words may have, whose threads have these scripts.
pub record IsLegalHistory (regions region_words : ℕ) (scripts : List (List Command)) (history : List Entry) : Type 0 where
  pub each : EachIsLegal regions region_words (opening (length scripts)) history
  pub crowded : AreCrowded regions region_words (opening (length scripts)) scripts history
