-- Words of a heap in which nobody does anything any more, made those of a heap in which nothing has happened yet.
use Rattle.std.specs.Prelude.{ℕ, ◌≡◌, ◌<◌, List, Some, length, nat_lt, slice_get, slice_index, if◌then◌else◌}
use Rattle.heap_words.specs.declared.config.Config.{Config}
use Rattle.heap_words.specs.Words.{Word, Pause, Left, End, State}
use Rattle.heap_words.specs.Steps.{Stage}
use Rattle.step_core.specs.Actor.{Actor}
use Rattle.step_core.specs.Machines.{made_of_machine}

-- No pause is wanted, no mutator has ended, nor has the control, and nobody is inside. All other words stay.
abbrev pub words_reopened : Config → (Word → ℕ) → Word → ℕ
words_reopened config memory Pause = 0
words_reopened config memory Left = config.mutators
words_reopened config memory End = 0
words_reopened config memory (State seat) = 0
words_reopened config memory word = memory word

-- the same, while the state words of the first so many seats were stored
abbrev pub words_left_out : ℕ → (Word → ℕ) → Word → ℕ
words_left_out seats memory (State seat) = if nat_lt seat seats then 0 else memory (State seat)
words_left_out seats memory word = memory word

-- for each of so many mutators, that of thread 1 first, how many objects its thread has made
pub record AreMadeBy (threads : ℕ) (stage : Stage Actor) (counts : List ℕ) : Type 0 where
  pub long : length counts ≡ threads
  pub each : (index : ℕ) (actor : Actor) → index < threads → slice_get stage.machines index ≡ Some actor → slice_index counts index ≡ made_of_machine actor.machine
