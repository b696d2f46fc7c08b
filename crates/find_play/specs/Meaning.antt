-- What a program means: which command a thread gives next, by the reply to its last one.
use Rattle.std.specs.Prelude.{ℕ, zero, suc, ◌≡◌, ◌+◌, Bool, true, false, List, [], ◌∷◌, length, drop, Option, Some, None, slice_get, if◌then◌else◌}
use Rattle.shen_graph.specs.declared.command.Reply.{Reply}
use Rattle.find_play.specs.declared.wanted.Wanted.{Wanted}
use Rattle.find_play.specs.declared.statement.Statement.{Statement}
use Rattle.find_play.specs.declared.statement.Statement.TheVariants as statement
use Rattle.find_play.specs.declared.thread.Part.{Part}
use Rattle.find_play.specs.declared.thread.Part.TheVariants as part
use Rattle.find_play.specs.declared.thread.Move.{Move}
use Rattle.find_play.specs.declared.thread.Move.TheVariants.{Goes, Back, Gives}
use Rattle.find_play.specs.declared.thread.Next.{Next}
use Rattle.find_play.specs.declared.thread.Next.TheVariants.{Command, Keep, Done, TooLong}
use Rattle.find_play.specs.declared.thread.Thread.{Thread}
use Rattle.find_play.specs.Wanted.{fits}

-- there is a last reply, and it is such
abbrev pub fits_last : Wanted → Option Reply → Bool
fits_last wanted None = false
fits_last wanted (Some reply) = fits wanted reply

abbrev pub one_less : ℕ → Option ℕ
one_less zero = None
one_less (suc n) = Some n

-- how many loops, or how many branchings, are open behind a statement inside the part that is left; none where the part ends
abbrev pub depth_after : Part → ℕ → Statement → Option ℕ
depth_after part.Loop depth statement.Loop = Some (depth + 1)
depth_after part.Loop depth (statement.Again first) = one_less depth
depth_after part.If depth (statement.If wanted) = Some (depth + 1)
depth_after part.If depth statement.End = one_less depth
depth_after part.If zero statement.Else = None
depth_after _ depth _ = Some depth

-- what further says of the part while it is open; 0 where it has ended
abbrev pub if_open : Option ℕ → (ℕ → ℕ) → ℕ
if_open None further = 0
if_open (Some depth) further = further depth

-- how many statements stand up to the end of the part that is left, that end included, or to the last one where it does not end
unfoldable pub after : Part → ℕ → List Statement → ℕ
after this_part depth [] = 0
after this_part depth (next_statement ∷ later_statements) = suc (if_open (depth_after this_part depth next_statement) (λ new_depth. after this_part new_depth later_statements))

-- the number of the statement behind a part
abbrev pub behind : Part → List Statement → ℕ → ℕ
behind this_part program number = number + 1 + after this_part 0 (drop (number + 1) program)

-- what one statement makes a thread do
abbrev pub move_by : List Statement → Option Reply → ℕ → Option Statement → Move
move_by program reply number None = Gives Done number
move_by program reply number (Some (statement.Run command)) = Gives (Command command) (number + 1)
move_by program reply number (Some (statement.Keep note)) = Gives (Keep note) (number + 1)
move_by program reply number (Some statement.Loop) = Goes (number + 1)
move_by program reply number (Some (statement.Until wanted)) = if fits_last wanted reply then Goes (behind part.Loop program number) else Goes (number + 1)
move_by program reply number (Some (statement.If wanted)) = if fits_last wanted reply then Goes (number + 1) else Goes (behind part.If program number)
move_by program reply number (Some statement.Else) = Goes (behind part.If program number)
move_by program reply number (Some statement.End) = Goes (number + 1)
move_by program reply number (Some (statement.Again first)) = Back first

-- what the statement of this number makes a thread do; behind the last one it is done
abbrev pub move_at : List Statement → Option Reply → ℕ → Move
move_at program reply number = move_by program reply number (slice_get program number)

-- From one place in a program a thread does that next, and then stands at another. It goes back to the beginning of a loop
-- only as long as it may.
pub data Runs (program : List Statement) (reply : Option Reply) : Thread → Next → Thread → Type 0 where
  Gave : (at left to : ℕ) (next : Next) → move_at program reply at ≡ Gives next to → Runs program reply (record { at = at; left = left }) next (record { at = to; left = left })
  Went : (at left to : ℕ) (next : Next) (end : Thread) → move_at program reply at ≡ Goes to → Runs program reply (record { at = to; left = left }) next end → Runs program reply (record { at = at; left = left }) next end
  Returned : (at left first : ℕ) (next : Next) (end : Thread) → move_at program reply at ≡ Back first → Runs program reply (record { at = first; left = left }) next end → Runs program reply (record { at = at; left = suc left }) next end
  Stopped : (at first : ℕ) → move_at program reply at ≡ Back first → Runs program reply (record { at = at; left = 0 }) TooLong (record { at = at; left = 0 })
