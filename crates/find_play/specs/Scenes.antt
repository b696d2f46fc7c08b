-- What a cast shows.
use Rattle.std.specs.Prelude.{ℕ, ◌≡◌, ◌+◌, Some, slice_index_or}
use Rattle.shen_graph.specs.History.{Entry}
use Rattle.find_play.specs.declared.thread.Next.TheVariants.{Command, Done}
use Rattle.find_play.specs.declared.cast.Cast.{Cast}
use Rattle.find_play.specs.Plays.{Programs, Scene, StepsOn}

abbrev pub scene : Cast → Scene
scene cast = record { threads = cast.threads; acts = cast.acts; notes = cast.notes.items }

-- the entry is the command that its thread was to give, and with the reply it went on
pub record IsNextEntry (programs : Programs) (entry : Entry) (before after : Scene) : Type 0 where
  pub number : ℕ
  pub thread : entry.thread ≡ number + 1
  pub was : slice_index_or before.acts number Done ≡ Command entry.command
  pub steps : StepsOn programs number (Some entry.reply) before after
