-- What the events see of a machine that takes room.
use Rattle.std.specs.Prelude.{ℕ, ◌≡◌, Bool, true, false, Option, Some, None}
use Rattle.heap_words.specs.declared.config.Config.{Config}
use Rattle.alloc_buffers.specs.declared.spot.Kind.{Kind}
use Rattle.alloc_buffers.specs.declared.spot.Taken.{Taken}
use Rattle.alloc_buffers.specs.declared.spot.TakeSpot.{TakeSpot}
use Rattle.alloc_buffers.specs.declared.spot.TakeSpot.TheVariants.{LoadFree, Ended}
use Rattle.alloc_buffers.specs.declared.take.Take.{Take}
use Rattle.alloc_buffers.specs.Rows.{next_at, is_ready}

-- for whom it takes room, and how much
pub record Wanted : Type 0 where
  pub config : Config
  pub seat : ℕ
  pub words : ℕ
  pub kind : Kind

abbrev pub wanted : Take → Wanted
wanted taking = record { config = taking.config; seat = taking.seat; words = taking.words; kind = taking.kind }

-- where it stands
abbrev pub spot_of : Take → TakeSpot
spot_of taking = taking.spot

-- what a taking has come to, once it has its answer
abbrev pub taken_in : TakeSpot → Option Taken
taken_in (Ended taken end) = Some taken
taken_in _ = None

-- and where the buffer ends, out of which the room is taken
abbrev pub end_of_taken : TakeSpot → Option ℕ
end_of_taken (Ended taken end) = Some end
end_of_taken _ = None

-- whether it loads the free word
abbrev pub looks_at_free : TakeSpot → Bool
looks_at_free (LoadFree buffer shared) = true
looks_at_free _ = false

-- the word is fit: the access that follows can be made
abbrev pub IsFit : Config → ℕ → ℕ → Kind → TakeSpot → ℕ → Type 0
IsFit config seat words kind spot got = is_ready config seat words (next_at config words kind spot got) ≡ true
