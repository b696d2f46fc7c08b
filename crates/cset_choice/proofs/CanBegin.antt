-- Once marking has ended evacuation can begin.
use Rattle.std.proofs.Common.{◌≡◌, List, ℕ, sym, subst}
use Rattle.std.proofs.Math.Logic.{∥∥₁_elim}
use Rattle.std.proofs.Math.Bridge.{le_prop}
use Rattle.std.proofs.Math.Nat.{ℕ_set}
use Rattle.std.proofs.Math.Bool.{Bool-set}
use Rattle.heap_words.specs.declared.config.Config.{Config}
use Rattle.heap_words.specs.Words.{Word, view}
use Rattle.image_graph.specs.declared.image.Image.{Image}
use Rattle.image_graph.specs.State.{config_of, words_of, memory_of}
use Rattle.cycle_words.specs.Marking.Final.{final_marked}
use Rattle.mark_core.specs.Result.{MarksSome}
use Rattle.image_graph.proofs.BufferTurns.{no_more_seats}
use Rattle.cycle_words.specs.Evacuation.Begun.{CanBegin}
use Rattle.cycle_words.proofs.Evacuation.CanBegin.{evacuation_can_begin}

begin_prop : (config : Config) (memory : Word → ℕ) → IsProp (CanBegin config memory)
begin_prop config memory = hlevel (le_prop, ℕ_set, Bool-set)

pub can_begin_some : (config : Config) (words : List ℕ) → MarksSome config (view config words) → CanBegin config (final_marked config (view config words))
can_begin_some config words marks = ∥∥₁_elim marks (begin_prop config (final_marked config (view config words)))
    (λ known_marks. evacuation_can_begin config (view config words) known_marks.1 known_marks.2 known_marks.3 known_marks.0 known_marks.4 known_marks.5 (no_more_seats config words))

-- by the images before marking was ended and after
pub begins_after : (first_image last_image : Image) → MarksSome (config_of first_image) (memory_of first_image) → config_of last_image ≡ config_of first_image → memory_of last_image ≡ final_marked (config_of first_image) (memory_of first_image)
    → CanBegin (config_of last_image) (memory_of last_image)
begins_after first_image last_image marks config words =
    subst (λ (config : Config). CanBegin config (memory_of last_image)) (sym config)
    (subst (CanBegin (config_of first_image)) (sym words) (can_begin_some (config_of first_image) (words_of first_image) marks))
