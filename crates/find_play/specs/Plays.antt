-- What the threads of a test do along a history.
use Rattle.std.specs.Prelude.{ℕ, ◌≡◌, ◌≢◌, ◌+◌, Bool, true, false, List, [], ◌∷◌, ◌++◌, replicate, take, Option, Some, None, slice_get, slice_index_or, slice_set}
use Rattle.shen_graph.specs.declared.command.Reply.{Reply}
use Rattle.shen_graph.specs.History.{Entry}
use Rattle.find_play.specs.declared.statement.Statement.{Statement}
use Rattle.find_play.specs.declared.thread.Next.{Next}
use Rattle.find_play.specs.declared.thread.Next.TheVariants.{Command, Keep, Done}
use Rattle.find_play.specs.declared.thread.Thread.{Thread}
use Rattle.find_play.specs.Meaning.{Runs}

abbrev pub Notes : Type 0
Notes = List (Option Reply)

abbrev pub Programs : Type 0
Programs = List (List Statement)

abbrev pub is_keep : Next → Bool
is_keep (Keep note) = true
is_keep _ = false

-- A thread, with its last reply, keeps it under some notes, and then does something else.
pub data KeepsOn (program : List Statement) (reply : Option Reply) : Thread → Notes → Next → Thread → Notes → Type 0 where
  Acts : (from to : Thread) (notes : Notes) (next : Next) → is_keep next ≡ false → Runs program reply from next to → KeepsOn program reply from notes next to notes
  Keeps : (t u v : Thread) (note : ℕ) (notes after : Notes) (next : Next) → Runs program reply t (Keep note) u → KeepsOn program reply u (slice_set notes note reply) next v after → KeepsOn program reply t notes next v after

-- where each thread stands, what it does there (a command of it is not answered yet), and what the notes hold
pub record Scene : Type 0 where
  pub threads : List Thread
  pub acts : List Next
  pub notes : Notes

-- at the beginning of a program
abbrev pub start : ℕ → Thread
start returns = record { at = 0; left = returns }

-- before anything was done
abbrev pub opening : (returns notes : ℕ) → Scene
opening returns notes = record { threads = replicate 8 (start returns); acts = replicate 8 Done; notes = replicate notes None }

-- the thread of this number, counted from 0, goes on with its last reply, and no other does anything
pub record StepsOn (programs : Programs) (number : ℕ) (reply : Option Reply) (before after : Scene) : Type 0 where
  pub from : Thread
  pub to : Thread
  pub next : Next
  pub here : slice_get before.threads number ≡ Some from
  pub goes : KeepsOn (slice_index_or programs number []) reply from before.notes next to after.notes
  pub threads : after.threads ≡ slice_set before.threads number to
  pub acts : after.acts ≡ slice_set before.acts number next

-- the first so many threads have begun, in their order
pub data Begun (programs : Programs) (first : Scene) : ℕ → Scene → Type 0 where
  Nobody : Begun programs first 0 first
  Another : (number : ℕ) (scene other_scene : Scene) → Begun programs first number scene → StepsOn programs number None scene other_scene → Begun programs first (number + 1) other_scene

-- Each entry of a history is the command that its thread was to give, and with the reply the thread goes on.
pub data Plays (programs : Programs) (first : Scene) : List Entry → Scene → Type 0 where
  Nothing : Plays programs first [] first
  Then : (entries : List Entry) (entry : Entry) (number : ℕ) (scene other_scene : Scene) → Plays programs first entries scene → entry.thread ≡ number + 1 → slice_index_or scene.acts number Done ≡ Command entry.command
      → StepsOn programs number (Some entry.reply) scene other_scene → Plays programs first (entries ++ entry ∷ []) other_scene

-- The history is one of these programs, each of whose threads may go back so often, and has so many notes.
pub record IsPlay (programs : Programs) (returns notes : ℕ) (history : List Entry) (end : Scene) : Type 0 where
  pub begun : Scene
  pub begins : Begun programs (opening returns notes) 8 begun
  pub plays : Plays programs begun history end

-- the entry is not the command that its thread is to give
abbrev pub IsNotItsCommand : Scene → Entry → Type 0
IsNotItsCommand scene entry = (number : ℕ) → entry.thread ≡ number + 1 → slice_index_or scene.acts number Done ≢ Command entry.command

-- Up to one entry the history is one of these programs, and that entry is refused.
pub record IsNoPlay (programs : Programs) (returns notes : ℕ) (history : List Entry) : Type 0 where
  pub at : ℕ
  pub entry : Entry
  pub here : slice_get history at ≡ Some entry
  pub scene : Scene
  pub before : IsPlay programs returns notes (take at history) scene
  pub refused : IsNotItsCommand scene entry
