-- The copiers in memory: a step of the code is one step of the protocol, and what memory has is sound.
use Rattle.std.proofs.Common.{◌≡◌, ◌<◌, ℕ, ◌+◌, true, List, [], ◌∷◌, ◌++◌, Some, length, get_or, map, replicate, refl, sym, ap, ◌∙◌, subst, arith}
use Rattle.std.specs.Prelude.{slice_get, slice_set}
use Rattle.std.specs.Option.{option_map}
use Rattle.std.proofs.Math.Logic.{∥∥₁_elim}
use Rattle.std.proofs.Math.Bool.{Bool-set}
use Rattle.std.proofs.Math.Nat.{ℕ_set}
use Rattle.std.proofs.Math.Bridge.{le_prop}
use Rattle.std.proofs.lemmas.List.{map-set, map-append, length-map, length-set, replicate_more}
use Rattle.std.proofs.lemmas.Option.{slice_get-map, slice_get_read, get_or_from_slice_get}
use Rattle.heap_words.specs.Steps.{Stage, act, IsReached}
use Rattle.heap_words.proofs.Laws.{act-event}
use Rattle.heap_words.proofs.Runs.{reached_none, reached_more, reached_has}
use Rattle.evac_room.specs.declared.copier.Copier.{Copier}
use Rattle.evac_room.specs.declared.wish.Wish.{Wish}
use Rattle.evac_room.specs.declared.wish.Copying.{Copying}
use Rattle.heap_words.specs.Counter.{IsQuiet}
use Rattle.evac_room.specs.declared.spot.RoomSpot.{RoomSpot}
use Rattle.evac_room.specs.declared.spot.RoomSpot.TheVariants.{Outside, Lower}
use Rattle.evac_room.specs.Rows.{next_at, IsFit}
use Rattle.evac_room.specs.Core.{takes_at, wish_begun, copier_kind, opening, IsFew, copying_at, answer_to}
use Rattle.evac_room.specs.Copier.{spot_of}
use Rattle.evac_room.proofs.OneStep.{after, IsKept, Says, each_keeps, each_says, each_fits}
use Rattle.evac_room.proofs.Every.{at_word, moved_one, IsCounting, reached_sound, can_step}

-- what follows from a sound stage, and has one proof at most, follows of each stage that memory may have
pub from_memory : {P : Type 0} → IsProp P → (copiers : ℕ) (end : Stage RoomSpot) → IsFew copiers → ∥ IsReached copier_kind (opening copiers) end ∥₁ → (IsCounting end → P) → P
from_memory prop copiers end is_few reached follows =
    ∥∥₁_elim reached prop (λ reached_by. follows (reached_has copier_kind IsCounting (opening copiers) end (λ steps. reached_sound copiers steps is_few) reached_by))

pub IsFit-prop : (spot : RoomSpot) (word : ℕ) → IsProp (IsFit spot word)
IsFit-prop Lower word = hlevel (le_prop)
IsFit-prop _ word = hlevel

pub IsQuiet-prop : (word : ℕ) → IsProp (IsQuiet word)
IsQuiet-prop word = hlevel (Bool-set, ℕ_set)

-- the copier of a number, as the code reads it
pub spot_here : (copiers : List Copier) (number : ℕ) (copier : Copier) → number < length (map spot_of copiers) → copier ≡ get_or copiers number copier → slice_get (map spot_of copiers) number ≡ Some (spot_of copier)
spot_here copiers number copier number_below value =
    let within : number < length copiers = omega (arith, length-map copiers spot_of) in
    slice_get-map spot_of copiers number ∙ ap (λ found_machine. option_map spot_of found_machine) (slice_get_read copiers (length copiers) number copier refl within value)

-- a copier has taken a wish and made its access
pub record IsMade (word made : ℕ) (copiers : List Copier) (number : ℕ) (copier other_copier : Copier) (wish : Wish) : Type 0 where
  pub here : slice_get (map spot_of copiers) number ≡ Some (spot_of copier)
  pub takes : takes_at (spot_of copier) wish ≡ true
  pub spot_is : spot_of other_copier ≡ next_at (wish_begun (spot_of copier) wish) word
  pub word_is : made ≡ after word (wish_begun (spot_of copier) wish)

-- the wish is taken by the copier that the code reads
pub takes_here : (copiers : List Copier) (number : ℕ) (copier : Copier) (wish : Wish) → slice_get (map spot_of copiers) number ≡ Some (spot_of copier)
    → takes_at (get_or (map spot_of copiers) number Outside) wish ≡ true → takes_at (spot_of copier) wish ≡ true
takes_here copiers number copier wish has_spot takes =
    subst (λ spot. takes_at spot wish ≡ true) (get_or_from_slice_get (map spot_of copiers) number (spot_of copier) Outside has_spot) takes

pub made_from : (word made : ℕ) (copiers : List Copier) (number : ℕ) (copier next_copier : Copier) (wish : Wish) → number < length (map spot_of copiers) → copier ≡ get_or copiers number copier
    → takes_at (get_or (map spot_of copiers) number Outside) wish ≡ true → spot_of next_copier ≡ next_at (wish_begun (spot_of copier) wish) word → made ≡ after word (wish_begun (spot_of copier) wish)
    → IsMade word made copiers number copier next_copier wish
made_from word made copiers number copier next_copier wish number_below value takes spot_is word_is =
    let has_spot : slice_get (map spot_of copiers) number ≡ Some (spot_of copier) = spot_here copiers number copier number_below value in
    record { here = has_spot; takes = takes_here copiers number copier wish has_spot takes; spot_is = spot_is; word_is = word_is }

module _ (word made : ℕ) (copiers : List Copier) (number : ℕ) (copier next_copier : Copier) (wish : Wish) (step : IsMade word made copiers number copier next_copier wish) where
  -- it is one step of the protocol
  pub made_event : at_word made (map spot_of (slice_set copiers number next_copier)) ≡ act copier_kind (at_word word (map spot_of copiers)) (record { number = number; order = wish })
  made_event =
      ap (λ room_word. at_word room_word (map spot_of (slice_set copiers number next_copier))) step.word_is
      ∙ ap (λ spots. at_word (after word (wish_begun (spot_of copier) wish)) spots) (map-set spot_of copiers number next_copier ∙ ap (λ spot. slice_set (map spot_of copiers) number spot) step.spot_is)
      ∙ sym (moved_one word (map spot_of copiers) number (spot_of copier) wish)
      ∙ sym (act-event copier_kind (at_word word (map spot_of copiers)) (record { number = number; order = wish }) (spot_of copier) (record { here = step.here; takes = step.takes }))

  pub made_reached : IsReached copier_kind (opening (length copiers)) (at_word word (map spot_of copiers)) → IsReached copier_kind (opening (length (slice_set copiers number next_copier))) (at_word made (map spot_of (slice_set copiers number next_copier)))
  made_reached reached =
      subst (λ count. IsReached copier_kind (opening count) (at_word made (map spot_of (slice_set copiers number next_copier)))) (sym (length-set copiers number next_copier))
      (subst (λ end. IsReached copier_kind (opening (length copiers)) end) (sym made_event) (reached_more copier_kind (opening (length copiers)) (at_word word (map spot_of copiers)) (record { number = number; order = wish }) reached))

  pub made_few : IsFew (length copiers) → IsFew (length (slice_set copiers number next_copier))
  made_few is_few = subst IsFew (sym (length-set copiers number next_copier)) is_few

  pub made_answer : (answer : Copying) → answer ≡ copying_at (wish_begun (spot_of copier) wish) word → answer_to (at_word word (map spot_of copiers)) (record { number = number; order = wish }) ≡ Some answer
  made_answer answer copying_answer = rw (step.here, step.takes) (ap (λ given_answer. Some given_answer) (sym copying_answer))

  -- what the step keeps, and what its answer says
  pub made_keeps : IsCounting (at_word word (map spot_of copiers)) → IsKept word (wish_begun (spot_of copier) wish) made (spot_of next_copier)
  made_keeps sound =
      subst (λ spot. IsKept word (wish_begun (spot_of copier) wish) made spot) (sym step.spot_is)
      (subst (λ made. IsKept word (wish_begun (spot_of copier) wish) made (next_at (wish_begun (spot_of copier) wish) word)) (sym step.word_is)
      (each_keeps word (wish_begun (spot_of copier) wish) (can_step word (map spot_of copiers) number (spot_of copier) wish sound.holds step.here step.takes)))

  pub made_says : (answer : Copying) → answer ≡ copying_at (wish_begun (spot_of copier) wish) word → IsCounting (at_word word (map spot_of copiers)) → Says word answer
  made_says answer copying_answer sound =
      subst (λ answer. Says word answer) (sym copying_answer)
      (each_says word (wish_begun (spot_of copier) wish) (can_step word (map spot_of copiers) number (spot_of copier) wish sound.holds step.here step.takes))

-- the word that a copier finds is fit
pub found_fits : (word : ℕ) (copiers : List Copier) (number : ℕ) (copier : Copier) (wish : Wish) → slice_get (map spot_of copiers) number ≡ Some (spot_of copier) → takes_at (spot_of copier) wish ≡ true
    → IsCounting (at_word word (map spot_of copiers)) → IsFit (wish_begun (spot_of copier) wish) word
found_fits word copiers number copier wish has_spot takes sound =
    each_fits word (wish_begun (spot_of copier) wish) (can_step word (map spot_of copiers) number (spot_of copier) wish sound.holds has_spot takes)

-- one copier more, as the opening makes them
pub outside_more : (copiers : List Copier) (new : Copier) (count : ℕ) → map spot_of copiers ≡ replicate count Outside → spot_of new ≡ Outside → map spot_of (copiers ++ new ∷ []) ≡ replicate (count + 1) Outside
outside_more copiers new count so_far new_outside =
    map-append spot_of copiers (new ∷ []) ∙ ap (λ spots. spots ++ spot_of new ∷ []) so_far ∙ ap (λ spot. replicate count Outside ++ spot ∷ []) new_outside ∙ replicate_more count Outside

pub opened_reached : (copiers : List Copier) (count : ℕ) → length copiers ≡ count → map spot_of copiers ≡ replicate count Outside → IsReached copier_kind (opening (length copiers)) (at_word 0 (map spot_of copiers))
opened_reached copiers count copier_count all_outside =
    subst (λ machine_count. IsReached copier_kind (opening machine_count) (at_word 0 (map spot_of copiers))) (sym copier_count)
    (subst (λ spots. IsReached copier_kind (opening count) (at_word 0 spots)) (sym all_outside) (reached_none copier_kind (opening count)))
