-- Scripts, and how far they were answered.
use Rattle.std.specs.Prelude.{ℕ, ◌%◌, ◌==◌, Bool, not, nat_lt, List, [], ◌∷◌, ◌++◌, map, length, Option, Some, None, IsSome, slice_get, slice_index_or, slice_set, option_map, unwrap_or, if◌then◌else◌}
use Rattle.std.specs.List.{range_with_len}
use Rattle.shen_graph.specs.declared.command.Command.{Command}
use Rattle.shen_graph.specs.declared.command.Reply.{Reply}

-- replies in their order, and how many more there is room for
pub record Given : Type 0 where
  pub list : List Reply
  pub room : ℕ

-- a mutator's script, and the replies to its first commands
pub record Progress : Type 0 where
  pub script : List Command
  pub replies : List Reply

-- a script of which no command was answered
abbrev pub begun : List Command → Progress
begun script = record { script = script; replies = [] }

-- the next command was answered
abbrev pub answered : Progress → Reply → Progress
answered progress reply = record progress { replies = progress.replies ++ reply ∷ [] }

-- eight places, each with the script of its number where there is one
abbrev pub opened : List (List Command) → List (Option Progress)
opened scripts = map (λ mutator. option_map begun (slice_get scripts mutator)) (range_with_len 0 8)

-- the place of a mutator, counted from 0
abbrev pub progress_of : List (Option Progress) → ℕ → Option Progress
progress_of work mutator = slice_index_or work mutator None

-- this work has the mutator's script
abbrev pub HasScript : List (Option Progress) → ℕ → Type 0
HasScript work mutator = IsSome (progress_of work mutator)

abbrev pub script_in : List (Option Progress) → ℕ → List Command
script_in work mutator = (unwrap_or (progress_of work mutator) (begun [])).script

abbrev pub replies_of : List (Option Progress) → ℕ → List Reply
replies_of work mutator = (unwrap_or (progress_of work mutator) (begun [])).replies

-- the mutator's next command: none at the end of its script
abbrev pub next_of : List (Option Progress) → ℕ → Option Command
next_of work mutator = slice_get (script_in work mutator) (length (replies_of work mutator))

-- the mutator's next command was answered, and all else is as before
abbrev pub with_reply : List (Option Progress) → ℕ → Reply → List (Option Progress)
with_reply work mutator reply = slice_set work mutator (Some (answered (unwrap_or (progress_of work mutator) (begun [])) reply))

-- whether a mutator is one of this part, of the parts of so many workers: mutators are dealt in turn, as cards are
abbrev pub is_in_part : ℕ → ℕ → ℕ → Bool
is_in_part workers part mutator = mutator % workers == part

-- the scripts of the mutators that pass the test
abbrev pub picked : (ℕ → Bool) → List (Option Progress) → List (Option Progress)
picked test work = map (λ mutator. if test mutator then progress_of work mutator else None) (range_with_len 0 8)

-- the scripts of this part
abbrev pub parted : ℕ → ℕ → List (Option Progress) → List (Option Progress)
parted workers part work = picked (is_in_part workers part) work

-- the scripts of the other parts
abbrev pub left_over : ℕ → ℕ → List (Option Progress) → List (Option Progress)
left_over workers part work = picked (λ mutator. not (is_in_part workers part mutator)) work

-- the scripts of the parts below
abbrev pub parted_below : ℕ → ℕ → List (Option Progress) → List (Option Progress)
parted_below workers part work = picked (λ mutator. nat_lt (mutator % workers) part) work

-- the one that is there
abbrev pub one_of : Option Progress → Option Progress → Option Progress
one_of None other = other
one_of (Some progress) other = Some progress

-- the scripts of both
abbrev pub joined : List (Option Progress) → List (Option Progress) → List (Option Progress)
joined work other_work = map (λ mutator. one_of (progress_of work mutator) (progress_of other_work mutator)) (range_with_len 0 8)
