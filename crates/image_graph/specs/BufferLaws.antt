-- What settling and letting go leave, whatever the words are.
use Rattle.std.specs.Prelude.{ℕ, ◌≡◌, ◌≤◌, ◌<◌, ◌-◌, true}
use Rattle.heap_words.specs.declared.config.Config.{Config}
use Rattle.heap_words.specs.Ranges.{seat_count}
use Rattle.heap_words.specs.Words.{Word, Top, Current}
use Rattle.heap_words.specs.Encoding.{next_in}
use Rattle.regions.specs.Place.{base_of}
use Rattle.image_graph.specs.Settled.{buffers_settled, AreLast}
use Rattle.image_graph.specs.LetGo.{let_go, HasNoBuffers}
use Rattle.image_graph.specs.Edge.{is_last_in, edge}

-- After settling each buffer is the last of its region, and no top is another.
pub record SettlingLeaves (config : Config) (memory : Word → ℕ) : Type 0 where
  pub last : AreLast config (buffers_settled config memory)
  pub tops : (region : ℕ) → buffers_settled config memory (Top region) ≡ memory (Top region)

-- After letting go nobody has a buffer.
abbrev pub LettingGoLeaves : Config → (Word → ℕ) → Type 0
LettingGoLeaves config memory = HasNoBuffers config (let_go config memory)

-- No edge lies above the top, nor above the free words of a buffer that ends there.
pub record EdgesLie (config : Config) (memory : Word → ℕ) (region : ℕ) : Type 0 where
  pub below_top : edge config memory region ≤ memory (Top region)
  pub below_free : (seat : ℕ) → seat < seat_count config.mutators config.helpers → is_last_in config memory region seat ≡ true → edge config memory region ≤ next_in (memory (Current seat)) - base_of config region
