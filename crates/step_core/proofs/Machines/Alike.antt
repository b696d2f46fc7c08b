-- Steps by which nothing changes that facts of other machines speak of: loads, and stores into words of the handshake.
use Rattle.std.proofs.Common.{◌≡◌, ◌≢◌, ℕ, ◌+◌, Bool, true, false, refl, sym, subst}
use Rattle.std.specs.Int.{bit_at}
use Rattle.heap_words.specs.declared.config.Config.{Config}
use Rattle.heap_words.specs.Words.{Word, Pause, Left, End, Phase, Cset, Evac, Claim, Ask, Free, State, Top, Tams, Limit, Current, Root, Pin, Count, Buffer, Wait, Answer, Grey, Heap, write}
use Rattle.heap_words.specs.Touch.{touch, loads, stores}
use Rattle.regions.specs.Sets.{IsIn}
use Rattle.heap_world.specs.World.{World, IsCollected, TargetIn, Shared}
use Rattle.heap_words.specs.Counter.{IsQuiet}
use Rattle.shen_graph.specs.declared.name.Name.{Name}
use Rattle.heap_world.specs.Rely.{Keeps, Rely}
use Rattle.heap_world.specs.Part.{PartStep}
use Rattle.heap_world.proofs.Keeping.{load_keeps, rely_same, keeps_of}
use Rattle.step_core.proofs.Mutators.WhileMarking.{world_with, marks_in, copies_in, fields_in}

-- two memories are alike in the words that facts of all machines speak of
pub record AreAlike (memory other_memory : Word → ℕ) : Type 0 where
  pub phase : other_memory Phase ≡ memory Phase
  pub cset : other_memory Cset ≡ memory Cset
  pub evac : other_memory Evac ≡ memory Evac
  pub claim : other_memory Claim ≡ memory Claim
  pub ask : other_memory Ask ≡ memory Ask
  pub free : other_memory Free ≡ memory Free
  pub tops : (region : ℕ) → other_memory (Top region) ≡ memory (Top region)
  pub tams : (region : ℕ) → other_memory (Tams region) ≡ memory (Tams region)
  pub limits : (region : ℕ) → other_memory (Limit region) ≡ memory (Limit region)
  pub currents : (seat : ℕ) → other_memory (Current seat) ≡ memory (Current seat)
  pub roots : (mutator index : ℕ) → other_memory (Root mutator index) ≡ memory (Root mutator index)
  pub pins : (mutator index : ℕ) → other_memory (Pin mutator index) ≡ memory (Pin mutator index)
  pub waits : (mutator : ℕ) → other_memory (Wait mutator) ≡ memory (Wait mutator)
  pub answers : (mutator : ℕ) → other_memory (Answer mutator) ≡ memory (Answer mutator)
  pub counts : (mutator : ℕ) → other_memory (Count mutator) ≡ memory (Count mutator)
  pub buffers : (mutator index : ℕ) → other_memory (Buffer mutator index) ≡ memory (Buffer mutator index)
  pub greys : (number : ℕ) → other_memory (Grey number) ≡ memory (Grey number)
  pub heap : (address : ℕ) → other_memory (Heap address) ≡ memory (Heap address)

-- whether a word is one of the handshake
abbrev pub is_of_handshake : Word → Bool
is_of_handshake Pause = true
is_of_handshake Left = true
is_of_handshake End = true
is_of_handshake (State seat) = true
is_of_handshake _ = false

-- a store into such a word leaves the others
alike_written : (memory : Word → ℕ) (word : Word) (value : ℕ) → is_of_handshake word ≡ true → AreAlike memory (write memory word value)
alike_written memory Pause value handshake_word = record {
  phase = refl;
  cset = refl;
  evac = refl;
  claim = refl;
  ask = refl;
  free = refl;
  tops = λ r. refl;
  tams = λ r. refl;
  limits = λ region. refl;
  currents = λ seat. refl;
  roots = λ t i. refl;
  pins = λ t i. refl;
  waits = λ t. refl;
  answers = λ t. refl;
  counts = λ t. refl;
  buffers = λ t k. refl;
  greys = λ n. refl;
  heap = λ a. refl;
}
alike_written memory Left value handshake_word = record {
  phase = refl;
  cset = refl;
  evac = refl;
  claim = refl;
  ask = refl;
  free = refl;
  tops = λ r. refl;
  tams = λ r. refl;
  limits = λ region. refl;
  currents = λ seat. refl;
  roots = λ t i. refl;
  pins = λ t i. refl;
  waits = λ t. refl;
  answers = λ t. refl;
  counts = λ t. refl;
  buffers = λ t k. refl;
  greys = λ n. refl;
  heap = λ a. refl;
}
alike_written memory End value handshake_word = record {
  phase = refl;
  cset = refl;
  evac = refl;
  claim = refl;
  ask = refl;
  free = refl;
  tops = λ r. refl;
  tams = λ r. refl;
  limits = λ region. refl;
  currents = λ seat. refl;
  roots = λ t i. refl;
  pins = λ t i. refl;
  waits = λ t. refl;
  answers = λ t. refl;
  counts = λ t. refl;
  buffers = λ t k. refl;
  greys = λ n. refl;
  heap = λ a. refl;
}
alike_written memory (State other_seat) value handshake_word = record {
  phase = refl;
  cset = refl;
  evac = refl;
  claim = refl;
  ask = refl;
  free = refl;
  tops = λ r. refl;
  tams = λ r. refl;
  limits = λ region. refl;
  currents = λ seat. refl;
  roots = λ t i. refl;
  pins = λ t i. refl;
  waits = λ t. refl;
  answers = λ t. refl;
  counts = λ t. refl;
  buffers = λ t k. refl;
  greys = λ n. refl;
  heap = λ a. refl;
}
alike_written memory _ value handshake_word = absurd (cc (handshake_word))

module _ (config : Config) (world : World) (memory : Word → ℕ) (seat : ℕ) (alike : AreAlike world.memory memory) where
  -- so current copies stay
  targets_alike : (address refs nums : ℕ) (name : Name) → TargetIn config world address refs nums name → TargetIn config (world_with world memory world.graph) address refs nums name
  targets_alike address refs nums name target_in = record {
    piece = target_in.piece;
    safe = λ region_collected. subst IsQuiet (sym alike.evac) (target_in.safe (subst (λ some_set. IsCollected config some_set address) alike.cset region_collected));
  }

  -- and what the facts of a seat stand on
  keeps_alike : Keeps config seat world (world_with world memory world.graph)
  keeps_alike = record {
    names = λ place name stood_there. stood_there;
    targets = λ address refs nums name stood_there. targets_alike address refs nums name stood_there;
    promises = λ place words stood_there. stood_there;
    no_promises = λ address words stood_there. stood_there;
    promise_words = λ address words offset stood_there word_below. alike.heap (address + offset);
    root_words = λ slot. alike.roots seat slot;
    roots = λ slot. refl;
    pin_words = λ index. alike.pins seat index;
    pins = λ slot. refl;
    count = refl;
    wait = alike.waits seat;
    answer = alike.answers seat;
    marks = (marks_in config world memory world.graph seat alike.phase alike.greys alike.counts alike.buffers alike.heap).keeps;
    copies = (copies_in config world memory world.graph seat alike.cset alike.evac alike.tops alike.heap).keeps;
  }

  -- and all that it relies on, where its state word does
  rely_alike : memory (State seat) ≡ world.memory (State seat) → Rely config seat world (world_with world memory world.graph)
  rely_alike state = record {
    names = λ place name stood_there. stood_there;
    targets = λ address refs nums name stood_there. targets_alike address refs nums name stood_there;
    rooms = λ place piece stood_there room. stood_there;
    no_rooms = λ place piece stood_there room. stood_there;
    room_words = λ place offset piece stood_there room word_below. alike.heap (place + offset);
    promises = λ place words stood_there. stood_there;
    no_promises = λ address words stood_there. stood_there;
    promise_words = λ address words offset stood_there word_below. alike.heap (address + offset);
    current = alike.currents seat;
    opens = λ given_region stood_there. record {
      within = stood_there.within;
      in_use = λ bit. stood_there.in_use (subst (λ some_free. IsIn some_free given_region) alike.free bit);
      nobodys = stood_there.nobodys;
      outside = λ region_in_set. stood_there.outside (subst (λ some_set. IsIn some_set given_region) alike.cset region_in_set);
    };
    owners = λ region stood_there. stood_there;
    tops = λ given_region stood_there. alike.tops given_region;
    root_words = λ slot. alike.roots seat slot;
    roots = λ slot. refl;
    pin_words = λ index. alike.pins seat index;
    pins = λ slot. refl;
    count = refl;
    wait = alike.waits seat;
    answer = alike.answers seat;
    state = state;
    asked = λ stood_there. subst (λ ask_word. bit_at ask_word 1 ≡ 1) (sym alike.ask) stood_there;
    marks = marks_in config world memory world.graph seat alike.phase alike.greys alike.counts alike.buffers alike.heap;
    copies = copies_in config world memory world.graph seat alike.cset alike.evac alike.tops alike.heap;
    fields = fields_in config world memory world.graph alike.tams alike.limits alike.claim alike.heap;
  }

-- the step of a load
pub load_step : (config : Config) (world : World) (seat : ℕ) (word : Word) (facts : World → Type 0) → Shared config world → facts world → PartStep config world seat (touch word loads) facts
load_step config world seat word facts shared own_facts = record {
  world = world;
  memory = load_keeps world.memory word;
  graph = refl;
  shared = shared;
  own = own_facts;
  keeps = keeps_of config seat world world (rely_same config seat world);
  others = λ seat differs. rely_same config seat world;
}

-- and of a store into a word of the handshake, which is no state word of another machine
pub store_step : (config : Config) (world : World) (seat : ℕ) (word : Word) (value : ℕ) (facts : World → Type 0) → is_of_handshake word ≡ true → ((other_seat : ℕ) → other_seat ≢ seat → write world.memory word value (State other_seat) ≡ world.memory (State other_seat))
    → Shared config (world_with world (write world.memory word value) world.graph) → facts (world_with world (write world.memory word value) world.graph) → PartStep config world seat (touch word (stores value)) facts
store_step config world seat word value facts handshake_word states shared own_facts = record {
  world = world_with world (write world.memory word value) world.graph;
  memory = refl;
  graph = refl;
  shared = shared;
  own = own_facts;
  keeps = keeps_alike config world (write world.memory word value) seat (alike_written world.memory word value handshake_word);
  others = λ other_seat differs. rely_alike config world (write world.memory word value) other_seat (alike_written world.memory word value handshake_word) (states other_seat differs);
}
