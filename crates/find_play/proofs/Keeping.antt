-- A thread that keeps a note has come further.
use Rattle.std.proofs.Common.{◌≡◌, ℕ, suc, ◌+◌, ◌-◌, ◌*◌, ◌<◌, Bool, true, false, List, length, Option, Some, None, refl, subst, arith}
use Rattle.std.proofs.lemmas.Option.{slice_get_within}
use Rattle.std.specs.Prelude.{slice_get, if◌then◌else◌}
use Rattle.shen_graph.specs.declared.command.Reply.{Reply}
use Rattle.find_play.specs.declared.statement.Statement.{Statement}
use Rattle.find_play.specs.declared.statement.Statement.TheVariants as statement
use Rattle.find_play.specs.declared.thread.Part.TheVariants as part
use Rattle.find_play.specs.declared.thread.Move.{Move}
use Rattle.find_play.specs.declared.thread.Move.TheVariants.{Goes, Back, Gives}
use Rattle.find_play.specs.declared.thread.Next.{Next}
use Rattle.find_play.specs.declared.thread.Next.TheVariants.{Keep}
use Rattle.find_play.specs.declared.thread.Thread.{Thread}
use Rattle.find_play.specs.Meaning.{fits_last, behind, move_by, move_at, Runs, Gave, Went, Returned, Stopped}

-- what is left of a program and of its returns
abbrev pub room : List Statement → Thread → ℕ
room program thread = thread.left * (length program + 1) + (length program - thread.at)

-- where a move leads: further, or it gives something and stands behind it
abbrev IsFurther : List Statement → ℕ → Move → Type 0
IsFurther program index (Goes target) = (index < length program) × (index < target)
IsFurther program index (Back first) = Unit {0}
IsFurther program index (Gives (Keep note) target) = (index < length program) × (target ≡ index + 1)
IsFurther program index (Gives next target) = Unit {0}

further_if : (program : List Statement) (index then_index else_index : ℕ) (test : Bool) → index < length program → index < then_index → index < else_index → IsFurther program index (if test then Goes then_index else Goes else_index)
further_if program index then_index else_index true index_below then_further else_further = (index_below, then_further)
further_if program index then_index else_index false index_below then_further else_further = (index_below, else_further)

further : (program : List Statement) (reply : Option Reply) (index : ℕ) (found : Option Statement) → slice_get program index ≡ found → IsFurther program index (move_by program reply index found)
further program reply index None statement_there = tt
further program reply index (Some (statement.Run command)) statement_there = tt
further program reply index (Some (statement.Keep note)) statement_there = (slice_get_within program index (statement.Keep note) statement_there, refl)
further program reply index (Some statement.Loop) statement_there = (slice_get_within program index statement.Loop statement_there, omega arith)
further program reply index (Some (statement.Until wanted)) statement_there = further_if program index (behind part.Loop program index) (index + 1) (fits_last wanted reply) (slice_get_within program index (statement.Until wanted) statement_there) (omega arith) (omega arith)
further program reply index (Some (statement.If wanted)) statement_there = further_if program index (index + 1) (behind part.If program index) (fits_last wanted reply) (slice_get_within program index (statement.If wanted) statement_there) (omega arith) (omega arith)
further program reply index (Some statement.Else) statement_there = (slice_get_within program index statement.Else statement_there, omega arith)
further program reply index (Some statement.End) statement_there = (slice_get_within program index statement.End statement_there, omega arith)
further program reply index (Some (statement.Again first)) statement_there = tt

-- where a statement leads
leads : (program : List Statement) (reply : Option Reply) (position : ℕ) (move : Move) → move_at program reply position ≡ move → IsFurther program position move
leads program reply index move move_there = subst (IsFurther program index) move_there (further program reply index (slice_get program index) refl)

less_on : (size index target turns_left : ℕ) → index < size → index < target → turns_left * (size + 1) + (size - target) < turns_left * (size + 1) + (size - index)
less_on size index target turns_left index_below target_above = omega arith

less_back : (size index first turns_left : ℕ) → turns_left * (size + 1) + (size - first) < suc turns_left * (size + 1) + (size - index)
less_back size index first turns_left = omega arith

-- a thread that keeps a note has less room then
pub keeps_less : (program : List Statement) (reply : Option Reply) (note : ℕ) (thread thread_after : Thread) (next : Next) → Runs program reply thread next thread_after → next ≡ Keep note → room program thread_after < room program thread
keeps_less program reply note thread thread_after next (Gave index turns_left target _ move_there) keeps_note =
    let at_end : IsFurther program index (Gives (Keep note) target) = subst (λ kept_note. IsFurther program index (Gives kept_note target)) keeps_note (leads program reply index (Gives next target) move_there) in
    less_on (length program) index target turns_left at_end.0 (omega (arith, at_end.1))
keeps_less program reply note thread thread_after next (Went index turns_left target _ _ move_there runs) keeps_note =
    let led_further = leads program reply index (Goes target) move_there in
    let less_later = keeps_less program reply note (record { at = target; left = turns_left }) thread_after next runs keeps_note in
    let less_room = less_on (length program) index target turns_left led_further.0 led_further.1 in
    omega (arith, less_later, less_room)
keeps_less program reply note thread thread_after next (Returned index turns_left first _ _ move_there runs) keeps_note =
    let less_later = keeps_less program reply note (record { at = first; left = turns_left }) thread_after next runs keeps_note in
    let less_room = less_back (length program) index first turns_left in
    omega (arith, less_later, less_room)
keeps_less program reply note thread thread_after next (Stopped index first move_there) keeps_note = absurd cc
