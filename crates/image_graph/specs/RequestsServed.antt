-- That waiting requests are served where there is room, and refused exactly where there is none.
use Rattle.std.specs.Prelude.{ℕ, ◌≡◌, ◌≢◌, ◌+◌, ◌-◌, ◌*◌, ◌<◌, ◌≤◌, ◌⊎◌, Bool}
use Rattle.heap_words.specs.declared.config.Config.{Config}
use Rattle.heap_words.specs.Words.{Word, Top, Wait, Answer}
use Rattle.regions.specs.Place.{base_of}
use Rattle.regions.specs.Tops.{sum_below}
use Rattle.regions.specs.SlideLaws.{count_where, tops_where}
use Rattle.regions.specs.ServedRooms.{NoneHasRoom, IsLowestRoom, granted}
use Rattle.image_graph.specs.Full.{asked_in, served, refused}

-- the tops when the turn of a thread comes
abbrev pub tops_at_turn : Config → (Word → ℕ) → ℕ → ℕ → ℕ
tops_at_turn config memory mutator region = served config memory mutator (Top region)

-- the words that are given to the threads, by their turns
abbrev pub given_in : Config → (Word → ℕ) → ℕ → ℕ
given_in config memory = granted config.region_words config.regions (asked_in memory) (λ region. memory (Top region))

-- Who waits is answered. Where the lowest region with room has it at its top, the answer is the address of that top;
-- where no region has room, the answer is 1, and then what the regions of a set held and what was given before it crowd these, whichever set it is.
pub record IsAnswered (config : Config) (memory : Word → ℕ) (mutator : ℕ) : Type 0 where
  pub given : (region : ℕ) → IsLowestRoom config.region_words (tops_at_turn config memory mutator) (asked_in memory mutator) config.regions region
      → refused (served config memory config.mutators) (Answer mutator) ≡ base_of config region + tops_at_turn config memory mutator region
  pub full : NoneHasRoom config.region_words (tops_at_turn config memory mutator) (asked_in memory mutator) config.regions → refused (served config memory config.mutators) (Answer mutator) ≡ 1
  pub either : ((region : ℕ) × IsLowestRoom config.region_words (tops_at_turn config memory mutator) (asked_in memory mutator) config.regions region)
      ⊎ NoneHasRoom config.region_words (tops_at_turn config memory mutator) (asked_in memory mutator) config.regions
  pub crowded : (test : ℕ → Bool) → NoneHasRoom config.region_words (tops_at_turn config memory mutator) (asked_in memory mutator) config.regions → asked_in memory mutator ≤ config.region_words
      → count_where test config.regions * (config.region_words - asked_in memory mutator + 1) ≤ tops_where test (λ region. memory (Top region)) config.regions + sum_below (given_in config memory) mutator

-- Each waiting thread is answered, who did not wait keeps the answer, and nobody waits any more. The tops grow together by
-- the words that are given.
pub record RequestsAreAnswered (config : Config) (memory : Word → ℕ) : Type 0 where
  pub answered : (mutator : ℕ) → mutator < config.mutators → memory (Wait mutator) ≢ 0 → IsAnswered config memory mutator
  pub others : (mutator : ℕ) → mutator < config.mutators → memory (Wait mutator) ≡ 0 → refused (served config memory config.mutators) (Answer mutator) ≡ memory (Answer mutator)
  pub none_waits : (mutator : ℕ) → refused (served config memory config.mutators) (Wait mutator) ≡ 0
  pub sum : (mutator : ℕ) → sum_below (tops_at_turn config memory mutator) config.regions ≡ sum_below (λ region. memory (Top region)) config.regions + sum_below (given_in config memory) mutator

abbrev pub ServingAnswers : Type 0
ServingAnswers = (config : Config) (memory : Word → ℕ) → RequestsAreAnswered config memory
