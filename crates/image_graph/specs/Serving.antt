-- What serving makes of the regions and of what threads are promised: each request that finds room becomes an object.
use Rattle.std.specs.Prelude.{ℕ, ◌≡◌, ◌≢◌, ◌+◌, ◌-◌, ◌*◌, ◌<◌, ◌≤◌, ◌==◌, if◌then◌else◌, List, sum_by, Option, Some, None, zero, suc}
use Rattle.heap_words.specs.declared.config.Config.{Config}
use Rattle.heap_words.specs.Words.{Word, Top, Wait, Answer, Heap}
use Rattle.heap_words.specs.Encoding.{refs_in, nums_in, shape_word, request_shape_in, request_count_in}
use Rattle.regions.specs.Place.{base_of}
use Rattle.shen_graph.specs.declared.name.Name.{Name}
use Rattle.regions.specs.Tops.{sum_below}
use Rattle.shen_graph.specs.Graph.{Graph, named}
use Rattle.shen_graph.specs.Reach.{IsReach, size}
use Rattle.heap_world.specs.World.{Block, thing, Plot}
use Rattle.shen_graph.specs.Crowd.{Held, PinnedRegions}
use Rattle.image_graph.specs.Pinned.{is_row_pinned}
use Rattle.image_graph.specs.Plot.{AreParsed, packed_block}
use Rattle.image_graph.specs.Full.{asked_in, room_for, served, packed, full_from, now_in, held_words, kept_in}
use Rattle.image_graph.specs.Promised.{Promises, with_promised, AreFresh, promised_words}
use Rattle.image_graph.specs.RequestsServed.{given_in}
use Rattle.image_graph.specs.Held.{IsAmong, HoldsGraph}
use Rattle.image_graph.specs.Image.{RootsStand, ImageStands}

-- the shape word that a thread asks for, and the name of the object to come
abbrev pub asked_shape : (Word → ℕ) → ℕ → ℕ
asked_shape memory mutator = request_shape_in (memory (Wait mutator))

abbrev pub asked_name : (Word → ℕ) → ℕ → Name
asked_name memory mutator = record { thread = mutator + 1; count = request_count_in (memory (Wait mutator)) }

-- the object that is made for it
abbrev pub asked_piece : (Word → ℕ) → ℕ → Block
asked_piece memory mutator = thing (asked_name memory mutator) (refs_in (asked_shape memory mutator)) (nums_in (asked_shape memory mutator))

-- the regions with it at the top of a region, if one was found
abbrev pub made_block : Config → (Word → ℕ) → Plot → (mutator : ℕ) → Option ℕ → Plot
made_block config memory block mutator None = block
made_block config memory block mutator (Some region) = λ address. if base_of config region + memory (Top region) == address then Some (asked_piece memory mutator) else block address

-- what threads are promised with it
abbrev pub made_promise : (Word → ℕ) → Promises → (mutator : ℕ) → Option ℕ → Promises
made_promise memory promises mutator None = promises
made_promise memory promises mutator (Some region) = record {
  ref = λ thread. if mutator + 1 == thread then Some (asked_name memory mutator) else promises.ref thread;
  refs = λ thread. if mutator + 1 == thread then refs_in (asked_shape memory mutator) else promises.refs thread;
  nums = λ thread. if mutator + 1 == thread then nums_in (asked_shape memory mutator) else promises.nums thread;
}

-- the region that a thread's object is made in at its turn; none where the thread does not wait, or finds no room
abbrev pub turn_room : Config → (Word → ℕ) → ℕ → Option ℕ
turn_room config memory mutator = if memory (Wait mutator) == 0 then None else room_for config memory mutator

-- the regions, and what threads are promised, after each of so many threads had its turn
unfoldable pub served_block : Config → (Word → ℕ) → Plot → ℕ → Plot
served_block config memory block zero = block
served_block config memory block (suc mutator) = made_block config (served config memory mutator) (served_block config memory block mutator) mutator (turn_room config (served config memory mutator) mutator)

unfoldable pub served_promises : Config → (Word → ℕ) → Promises → ℕ → Promises
served_promises config memory promises zero = promises
served_promises config memory promises (suc mutator) = made_promise (served config memory mutator) (served_promises config memory promises mutator) mutator (turn_room config (served config memory mutator) mutator)

-- A thread that waits asks for an object that can be: few fields, a count that a name can have, and a name that no object
-- has. It has no answer yet.
pub record IsAsking (memory : Word → ℕ) (graph : Graph) (promises : Promises) (mutator : ℕ) : Type 0 where
  pub shape : asked_shape memory mutator ≡ shape_word (refs_in (asked_shape memory mutator)) (nums_in (asked_shape memory mutator))
  pub few_refs : refs_in (asked_shape memory mutator) ≤ 16
  pub few_nums : nums_in (asked_shape memory mutator) ≤ 16
  pub unanswered : memory (Answer mutator) ≡ 0
  pub new : (with_promised graph promises).object (asked_name memory mutator) ≡ None

abbrev pub AreAsking : Config → (Word → ℕ) → Graph → Promises → ℕ → Type 0
AreAsking config memory graph promises from = (mutator : ℕ) → from ≤ mutator → mutator < config.mutators → memory (Wait mutator) ≢ 0 → IsAsking memory graph promises mutator

-- Serving keeps the graph: the words stand for it, with the objects that were made as further promises.
abbrev pub ServingStands : Type 0
ServingStands = (config : Config) (memory : Word → ℕ) (block : Plot) (graph : Graph) (promises : Promises) → ImageStands config memory block graph promises → AreAsking config memory graph promises 0
    → (count : ℕ) → count ≤ config.mutators → ImageStands config (served config memory count) (served_block config memory block count) graph (served_promises config memory promises count)

-- A full collection keeps the graph: where the words of an image hold it, by current copies, with objects that threads
-- were promised, and who waits asks for an object that can be, they stand for it afterwards, with the objects that were
-- made for waiting threads as further promises.
abbrev pub FullStands : Type 0
FullStands = (config : Config) (memory : Word → ℕ) (block : Plot) (graph : Graph) (promises : Promises)
    → HoldsGraph config (λ region. memory (Top region)) (λ address. memory (Heap address)) block (now_in memory) (IsAmong (held_words config memory)) (with_promised graph promises)
    → RootsStand config memory block graph promises → AreParsed config (is_row_pinned config memory) (λ region. memory (Top region)) (λ address. memory (Heap address)) block → AreAsking config memory graph promises 0
    → ImageStands config (full_from config memory) (served_block config (packed config (is_row_pinned config memory) (now_in memory) (kept_in config memory) memory) (packed_block config (is_row_pinned config memory) (kept_in config memory) block) config.mutators) graph
    (served_promises config (packed config (is_row_pinned config memory) (now_in memory) (kept_in config memory) memory) promises config.mutators)

-- A request of n words is refused only where live objects that are not pinned, objects that threads have not taken yet, and what was given
-- before it in this pause crowd the regions without a pinned object: with n words less in each they could not be full.
abbrev pub FullIsCrowded : Type 0
FullIsCrowded = (config : Config) (memory : Word → ℕ) (block : Plot) (graph : Graph) (promises : Promises) (names : List Name) (held pinned : ℕ)
    → HoldsGraph config (λ region. memory (Top region)) (λ address. memory (Heap address)) block (now_in memory) (IsAmong (held_words config memory)) (with_promised graph promises)
    → RootsStand config memory block graph promises → AreFresh config.mutators graph promises → IsReach graph names → Held graph held → PinnedRegions config.region_words graph pinned
    → (mutator : ℕ) → mutator < config.mutators → memory (Wait mutator) ≢ 0 → asked_in memory mutator ≤ config.region_words → full_from config memory (Answer mutator) ≡ 1
    → (config.regions - pinned) * (config.region_words - asked_in memory mutator + 1)
    ≤ sum_by (λ name. size (named graph (Some name))) names - held + sum_below (promised_words promises) (config.mutators + 1)
    + sum_below (given_in config (packed config (is_row_pinned config memory) (now_in memory) (kept_in config memory) memory)) mutator
