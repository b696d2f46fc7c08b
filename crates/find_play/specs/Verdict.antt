-- How a run of a test ended.
use Rattle.std.specs.Prelude.{ℕ, ◌≡◌, ◌⊎◌, ◌+◌, Bool, true, false, List, position, All, Option, Some, None, slice_index_or}
use Rattle.shen_graph.specs.GraphText.{Row}
use Rattle.shen_graph.specs.History.{Entry}
use Rattle.find_play.specs.declared.claim.Claim.{Claim}
use Rattle.find_play.specs.declared.test.Place.{Place}
use Rattle.find_play.specs.declared.thread.Next.{Next}
use Rattle.find_play.specs.declared.thread.Next.TheVariants.{Command, Done, TooLong}
use Rattle.find_play.specs.declared.verdict.Verdict.{Verdict}
use Rattle.find_play.specs.declared.verdict.Verdict.TheVariants.{Holds, Fails, Stuck}
use Rattle.find_play.specs.Claims.{Left, places_in, first_broken}
use Rattle.find_play.specs.Plays.{Programs, Scene, IsPlay, IsNoPlay}

abbrev pub is_command : Next → Bool
is_command (Command command) = true
is_command _ = false

abbrev pub is_stuck : Next → Bool
is_stuck TooLong = true
is_stuck _ = false

-- by the first thread that is stuck, counted from 0, and by the first assertion that does not hold
abbrev pub verdict_by : Option ℕ → Option ℕ → Verdict
verdict_by (Some number) broken = Stuck (number + 1)
verdict_by None (Some assertion) = Fails assertion
verdict_by None None = Holds

-- what a play has left
abbrev pub left_by : Scene → List Place → List Entry → List Row → Left
left_by end places history rows = record { notes = end.notes; history = history; rows = rows; places = places_in rows places }

-- The history is one of the test's threads, none of which is at a command behind it; and this is the verdict on what it has left.
pub record IsVerdictOn (programs : Programs) (returns notes : ℕ) (places : List Place) (claims : List Claim) (history : List Entry) (rows : List Row) (verdict : Verdict) : Type 0 where
  pub end : Scene
  pub play : IsPlay programs returns notes history end
  pub over : All (λ a. is_command a ≡ false) end.acts
  pub verdict_is : verdict ≡ verdict_by (position is_stuck end.acts) (first_broken (left_by end places history rows) claims)

-- a thread is at a command
abbrev pub HasCommand : List Next → Type 0
HasCommand acts = (number : ℕ) × (is_command (slice_index_or acts number Done) ≡ true)

-- the history is one of the test's threads, and behind it one of them is at a command
pub record StopsAtCommand (programs : Programs) (returns notes : ℕ) (history : List Entry) : Type 0 where
  pub end : Scene
  pub play : IsPlay programs returns notes history end
  pub goes_on : HasCommand end.acts

-- the history has no verdict
abbrev pub HasNoVerdict : (programs : Programs) (returns notes : ℕ) (history : List Entry) → Type 0
HasNoVerdict programs returns notes history = IsNoPlay programs returns notes history ⊎ StopsAtCommand programs returns notes history
