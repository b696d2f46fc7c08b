-- The invariant of the protocol, and the laws over every list of steps.
use Rattle.std.proofs.Common.{◌≡◌, ◌≢◌, ℕ, ◌≤◌, ◌<◌, ◌^◌, Bool, true, false, List, [], ◌∷◌, ◌++◌, Option, Some, None, length, refl, sym, ap, ◌∙◌, subst, arith}
use Rattle.std.specs.Prelude.{slice_get, slice_set, slice_index, nat_eq, if◌then◌else◌}
use Rattle.std.proofs.lemmas.Bool.Decides.{nat_tests}
use Rattle.std.proofs.lemmas.List.{length-set, length-replicate}
use Rattle.std.proofs.lemmas.List.Elements.{All-head, All-tail}
use Rattle.std.proofs.lemmas.List.Sums.{count_by-le-length}
use Rattle.heap_words.proofs.Lists.{slice_get-set_other, slice_get-set_same}
use Rattle.heap_words.specs.Access.{table_index}
use Rattle.heap_words.specs.Touch.{access_at}
use Rattle.heap_words.specs.Steps.{Stage, Event, act, go, moved}
use Rattle.heap_words.proofs.Runs.{go-none, go-first, go-append, go-keeps}
use Rattle.heap_words.proofs.Laws.{act_cases, act-event, machines_other}
use Rattle.heap_words.specs.declared.access.Took.{Took}
use Rattle.heap_words.specs.declared.access.Took.TheVariants.{Done}
use Rattle.evac_room.specs.declared.wish.Wish.{Wish}
use Rattle.evac_room.specs.declared.wish.Copying.{Copying}
use Rattle.evac_room.specs.declared.wish.Copying.TheVariants as copying
use Rattle.heap_words.specs.Counter.{count_of, is_out_of_room, IsQuiet}
use Rattle.evac_room.specs.declared.spot.RoomSpot.{RoomSpot}
use Rattle.evac_room.specs.declared.spot.RoomSpot.TheVariants.{Outside, Inside}
use Rattle.evac_room.specs.Spot.{is_counted}
use Rattle.evac_room.specs.Rows.{form_at, next_at, says_at, IsFit}
use Rattle.evac_room.specs.Core.{takes_at, wish_begun, copier_kind, opening, IsFew, AreOfOthers, copiers_reached, counter, counted, said, copying_at, answer_by, answer_to}
use Rattle.evac_room.proofs.OneStep.{Mine, mine_stays, after, IsKept, Says, CanStep, each_keeps, each_says, each_fits}
use Rattle.evac_room.proofs.Spots.{begun_goes, begun_weight, weight_one, begun_mine, counted_set, weight_counted, counted_outside, outside_here, accessed_one, found_one}

-- What holds of the word and the copiers after every list of steps: the word counts those that are counted, and each one
-- is sure of what its place needs.
pub record Holds (word : ℕ) (copiers : List RoomSpot) : Type 0 where
  pub is_word : word < 2 ^ 64
  pub few : length copiers ≤ 12
  pub counts : count_of word ≡ counted copiers
  pub mine : (number : ℕ) (spot : RoomSpot) → slice_get copiers number ≡ Some spot → Mine word spot

-- the table has the one word, and the invariant holds
pub record IsCounting (s : Stage RoomSpot) : Type 0 where
  pub one : s.words ≡ counter s ∷ []
  pub holds : Holds (counter s) s.machines

-- a copier that takes the wish can step
pub can_step : (word : ℕ) (copiers : List RoomSpot) (number : ℕ) (spot : RoomSpot) (wish : Wish) → Holds word copiers → slice_get copiers number ≡ Some spot → takes_at spot wish ≡ true
    → CanStep word (wish_begun spot wish)
can_step word copiers number spot wish holds has_spot takes = record {
  going = begun_goes spot wish takes;
  is_word = holds.is_word;
  few = omega (arith, holds.counts, holds.few, count_by-le-length is_counted copiers);
  is_in = λ in_count. omega (arith, holds.counts, weight_counted copiers number spot has_spot, begun_weight spot wish, weight_one (wish_begun spot wish) in_count);
  mine = begun_mine word spot wish (holds.mine number spot has_spot);
}

-- the invariant after a copier's step
pub holds_next : (word : ℕ) (copiers : List RoomSpot) (number : ℕ) (spot : RoomSpot) (wish : Wish) (made : ℕ) (next_spot : RoomSpot) → Holds word copiers → slice_get copiers number ≡ Some spot
    → IsKept word (wish_begun spot wish) made next_spot → Holds made (slice_set copiers number next_spot)
holds_next word copiers number spot wish made next_spot holds has_spot kept_step = record {
  is_word = kept_step.is_word;
  few = omega (arith, holds.few, length-set copiers number next_spot);
  counts = omega (arith, holds.counts, kept_step.counts, counted_set copiers number spot next_spot has_spot, begun_weight spot wish);
  mine = λ index found_spot at_k. by_number index found_spot at_k (nat_eq index number) refl;
}
  where
    by_number : (index : ℕ) (found_spot : RoomSpot) → slice_get (slice_set copiers number next_spot) index ≡ Some found_spot → (outcome : Bool) → nat_eq index number ≡ outcome → Mine made found_spot
    by_number index found_spot at_k true tested_number =
        let same_number : index ≡ number = grind (arith, nat_tests) in
        let is_next : next_spot ≡ found_spot = cc (at_k, same_number, slice_get-set_same copiers number spot next_spot has_spot) in
        subst (λ x. Mine made x) is_next kept_step.mine
    by_number index found_spot at_k false tested_number =
        let numbers_differ : index ≢ number = grind (arith, nat_tests) in
        mine_stays word made found_spot kept_step.bit_stays (holds.mine index found_spot (sym (slice_get-set_other copiers number index next_spot numbers_differ) ∙ at_k))

-- a stage with one word
abbrev pub at_word : ℕ → List RoomSpot → Stage RoomSpot
at_word word copiers = record { words = word ∷ []; machines = copiers }

pub is_at_word : (stage : Stage RoomSpot) → stage.words ≡ counter stage ∷ [] → stage ≡ at_word (counter stage) stage.machines
is_at_word stage one_word = ap (λ table_words. let made_stage : Stage RoomSpot = record { words = table_words; machines = stage.machines } in made_stage) one_word

-- an event of a table of one word
pub moved_one : (word : ℕ) (copiers : List RoomSpot) (number : ℕ) (spot : RoomSpot) (wish : Wish)
    → moved copier_kind (at_word word copiers) number spot wish ≡ at_word (after word (wish_begun spot wish)) (slice_set copiers number (next_at (wish_begun spot wish) word))
moved_one word copiers number spot wish =
    ap (λ table_words. let made_stage : Stage RoomSpot = record { words = table_words; machines = slice_set copiers number (next_at (wish_begun spot wish) (slice_index (word ∷ []) (table_index (access_at 0 (form_at (wish_begun spot wish)))))) } in made_stage) (accessed_one (form_at (wish_begun spot wish)) word)
    ∙ ap (λ got. at_word (after word (wish_begun spot wish)) (slice_set copiers number (next_at (wish_begun spot wish) got))) (found_one (form_at (wish_begun spot wish)) word)

pub moved_is : (stage : Stage RoomSpot) (number : ℕ) (spot : RoomSpot) (wish : Wish) → stage.words ≡ counter stage ∷ []
    → moved copier_kind stage number spot wish ≡ at_word (after (counter stage) (wish_begun spot wish)) (slice_set stage.machines number (next_at (wish_begun spot wish) (counter stage)))
moved_is stage number spot wish one_word = ap (λ any_stage. moved copier_kind any_stage number spot wish) (is_at_word stage one_word) ∙ moved_one (counter stage) stage.machines number spot wish

-- what a step may do to the word
pub record IsStep (old new : Stage RoomSpot) : Type 0 where
  pub sound : IsCounting new
  pub bit_stays : is_out_of_room (counter old) ≡ true → is_out_of_room (counter new) ≡ true
  pub quiet_stays : IsQuiet (counter old) → counter new ≡ counter old

pub each_step : (stage : Stage RoomSpot) (step : Event Wish) → IsCounting stage → IsStep stage (act copier_kind stage step)
each_step stage step sound = act_cases copier_kind (λ x. IsStep stage x) stage step
    (record { sound = sound; bit_stays = λ bit_set. bit_set; quiet_stays = λ was_quiet. refl })
    (λ spot has_spot takes.
    let kept_step : IsKept (counter stage) (wish_begun spot step.order) (after (counter stage) (wish_begun spot step.order)) (next_at (wish_begun spot step.order) (counter stage)) =
    each_keeps (counter stage) (wish_begun spot step.order) (can_step (counter stage) stage.machines step.number spot step.order sound.holds has_spot takes) in
    subst (λ x. IsStep stage x) (sym (moved_is stage step.number spot step.order sound.one)) (record {
      sound = record {
        one = refl;
        holds = holds_next (counter stage) stage.machines step.number spot step.order _ _ sound.holds has_spot kept_step;
      };
      bit_stays = kept_step.bit_stays;
      quiet_stays = kept_step.quiet_stays;
    }))

pub opening_sound : (copiers : ℕ) → IsFew copiers → IsCounting (opening copiers)
opening_sound copiers is_few = record {
  one = refl;
  holds = record {
    is_word = omega arith;
    few = omega (arith, is_few.most, length-replicate copiers Outside);
    counts = sym (counted_outside copiers);
    mine = λ number spot has_spot. subst (λ x. Mine 0 x) (sym (outside_here copiers number spot has_spot)) tt;
  };
}

-- each list of steps keeps the invariant
pub run_sound : (stage : Stage RoomSpot) (steps : List (Event Wish)) → IsCounting stage → IsCounting (go copier_kind stage steps)
run_sound stage steps sound = go-keeps copier_kind IsCounting (λ any_stage step before. (each_step any_stage step before).sound) stage steps sound

pub reached_sound : (copiers : ℕ) (steps : List (Event Wish)) → IsFew copiers → IsCounting (copiers_reached copiers steps)
reached_sound copiers steps is_few = run_sound (opening copiers) steps (opening_sound copiers is_few)

-- what stays from one stage to all that follow
pub record IsLater (old : ℕ) (s : Stage RoomSpot) : Type 0 where
  pub sound : IsCounting s
  pub bit_stays : is_out_of_room old ≡ true → is_out_of_room (counter s) ≡ true
  pub quiet_stays : IsQuiet old → counter s ≡ old

pub later_more : (stage : Stage RoomSpot) (later_steps : List (Event Wish)) → IsCounting stage → IsLater (counter stage) (go copier_kind stage later_steps)
later_more stage later_steps sound = go-keeps copier_kind (λ any_stage. IsLater (counter stage) any_stage)
    (λ any_stage step before. let next_step = each_step any_stage step before.sound in record {
      sound = next_step.sound;
      bit_stays = λ bit_set. next_step.bit_stays (before.bit_stays bit_set);
      quiet_stays = λ was_quiet. next_step.quiet_stays (subst IsQuiet (sym (before.quiet_stays was_quiet)) was_quiet) ∙ before.quiet_stays was_quiet;
    })
    stage later_steps (record { sound = sound; bit_stays = λ bit_set. bit_set; quiet_stays = λ was_quiet. refl })

pub later_reached : (copiers : ℕ) (steps later_steps : List (Event Wish)) → IsFew copiers → IsLater (counter (copiers_reached copiers steps)) (copiers_reached copiers (steps ++ later_steps))
later_reached copiers steps later_steps is_few =
    subst (λ any_stage. IsLater (counter (copiers_reached copiers steps)) any_stage) (sym (go-append copier_kind (opening copiers) steps later_steps))
    (later_more (copiers_reached copiers steps) later_steps (reached_sound copiers steps is_few))

-- what an answer says, of a sound stage
pub answer_says : (stage : Stage RoomSpot) (step : Event Wish) (answer : Copying) → IsCounting stage → answer_to stage step ≡ Some answer → Says (counter stage) answer
answer_says stage step answer sound = by_machine (slice_get stage.machines step.number) refl
  where
    by_takes : (spot : RoomSpot) (holds : Bool) → slice_get stage.machines step.number ≡ Some spot → takes_at spot step.order ≡ holds
        → (if holds then Some (copying_at (wish_begun spot step.order) (counter stage)) else None) ≡ Some answer → Says (counter stage) answer
    by_takes spot true has_spot takes answer_given =
        let same_answer : copying_at (wish_begun spot step.order) (counter stage) ≡ answer = cc (answer_given) in
        subst (λ answer. Says (counter stage) answer) same_answer
        (each_says (counter stage) (wish_begun spot step.order) (can_step (counter stage) stage.machines step.number spot step.order sound.holds has_spot takes))
    by_takes spot false has_spot takes answer_given = absurd (cc (answer_given))

    by_machine : (found : Option RoomSpot) → slice_get stage.machines step.number ≡ found → answer_by (counter stage) step.order found ≡ Some answer → Says (counter stage) answer
    by_machine None found_there answer_given = absurd (cc (answer_given))
    by_machine (Some spot) found_there answer_given = by_takes spot (takes_at spot step.order) found_there refl answer_given

-- a copier that may copy is inside
pub inside_by_answer : (answer : Took) (next_spot : RoomSpot) → said answer next_spot ≡ copying.Inside → next_spot ≡ Inside
inside_by_answer Done Inside said_inside = refl
inside_by_answer Done _ said_inside = absurd (cc (said_inside))
inside_by_answer _ next_spot said_inside = absurd (cc (said_inside))

pub act_inside : (stage : Stage RoomSpot) (step : Event Wish) → IsCounting stage → answer_to stage step ≡ Some copying.Inside → slice_get (act copier_kind stage step).machines step.number ≡ Some Inside
act_inside stage step sound = by_machine (slice_get stage.machines step.number) refl
  where
    by_takes : (spot : RoomSpot) (holds : Bool) → slice_get stage.machines step.number ≡ Some spot → takes_at spot step.order ≡ holds
        → (if holds then Some (copying_at (wish_begun spot step.order) (counter stage)) else None) ≡ Some copying.Inside → slice_get (act copier_kind stage step).machines step.number ≡ Some Inside
    by_takes spot true has_spot takes told_inside =
        let next_is : next_at (wish_begun spot step.order) (counter stage) ≡ Inside = inside_by_answer (says_at (wish_begun spot step.order) (counter stage)) _ (cc (told_inside)) in
        ap (λ value. slice_get value.machines step.number) (act-event copier_kind stage step spot (record { here = has_spot; takes = takes }) ∙ moved_is stage step.number spot step.order sound.one)
        ∙ slice_get-set_same stage.machines step.number spot _ has_spot ∙ ap (λ value. Some value) next_is
    by_takes spot false has_spot takes told_inside = absurd (cc (told_inside))

    by_machine : (found : Option RoomSpot) → slice_get stage.machines step.number ≡ found → answer_by (counter stage) step.order found ≡ Some copying.Inside → slice_get (act copier_kind stage step).machines step.number ≡ Some Inside
    by_machine None found_there told_inside = absurd (cc (told_inside))
    by_machine (Some spot) found_there told_inside = by_takes spot (takes_at spot step.order) found_there refl told_inside

-- steps of others leave a copier where it stands
pub others_leave : (stage : Stage RoomSpot) (number : ℕ) (steps : List (Event Wish)) → AreOfOthers number steps → slice_get (go copier_kind stage steps).machines number ≡ slice_get stage.machines number
others_leave stage number [] others = ap (λ x. slice_get x.machines number) (go-none copier_kind stage)
others_leave stage number (step ∷ steps) others =
    let numbers_differ : step.number ≢ number = All-head (λ event. event.number ≢ number) step steps others in
    ap (λ x. slice_get x.machines number) (go-first copier_kind stage step steps)
    ∙ others_leave (act copier_kind stage step) number steps (All-tail (λ event. event.number ≢ number) step steps others)
    ∙ machines_other copier_kind stage step number (λ same_number. numbers_differ (sym same_number))

-- the laws over every list of steps
pub word_counts : (copiers : ℕ) (steps : List (Event Wish)) → IsFew copiers → count_of (counter (copiers_reached copiers steps)) ≡ counted (copiers_reached copiers steps).machines
word_counts copiers steps is_few = (reached_sound copiers steps is_few).holds.counts

pub word_is_word : (copiers : ℕ) (steps : List (Event Wish)) → IsFew copiers → counter (copiers_reached copiers steps) < 2 ^ 64
word_is_word copiers steps is_few = (reached_sound copiers steps is_few).holds.is_word

pub words_fit : (copiers : ℕ) (steps : List (Event Wish)) (number : ℕ) (spot : RoomSpot) (wish : Wish) → IsFew copiers → slice_get (copiers_reached copiers steps).machines number ≡ Some spot → takes_at spot wish ≡ true
    → IsFit (wish_begun spot wish) (counter (copiers_reached copiers steps))
words_fit copiers steps number spot wish is_few has_spot takes =
    each_fits _ _ (can_step _ _ number spot wish (reached_sound copiers steps is_few).holds has_spot takes)

pub bit_stays : (copiers : ℕ) (steps later_steps : List (Event Wish)) → IsFew copiers → is_out_of_room (counter (copiers_reached copiers steps)) ≡ true → is_out_of_room (counter (copiers_reached copiers (steps ++ later_steps))) ≡ true
bit_stays copiers steps later_steps is_few = (later_reached copiers steps later_steps is_few).bit_stays

-- a copier that was told that it may copy stands inside, and the others leave it there
pub inside_still : (copiers : ℕ) (steps later_steps : List (Event Wish)) (step : Event Wish) → IsFew copiers → answer_to (copiers_reached copiers steps) step ≡ Some copying.Inside → AreOfOthers step.number later_steps
    → slice_get (copiers_reached copiers (steps ++ step ∷ later_steps)).machines step.number ≡ Some Inside
inside_still copiers steps later_steps step is_few answer others =
    ap (λ any_stage. slice_get any_stage.machines step.number) (go-append copier_kind (opening copiers) steps (step ∷ later_steps) ∙ go-first copier_kind (copiers_reached copiers steps) step later_steps)
    ∙ others_leave (act copier_kind (copiers_reached copiers steps) step) step.number later_steps others
    ∙ act_inside (copiers_reached copiers steps) step (reached_sound copiers steps is_few) answer

-- and the word counts it
pub inside_until_its_step : (copiers : ℕ) (steps later_steps : List (Event Wish)) (step : Event Wish) → IsFew copiers → answer_to (copiers_reached copiers steps) step ≡ Some copying.Inside → AreOfOthers step.number later_steps
    → (slice_get (copiers_reached copiers (steps ++ step ∷ later_steps)).machines step.number ≡ Some Inside) × (1 ≤ count_of (counter (copiers_reached copiers (steps ++ step ∷ later_steps))))
inside_until_its_step copiers steps later_steps step is_few answer others =
    let stands_inside = inside_still copiers steps later_steps step is_few answer others in
    (stands_inside, omega (arith, word_counts copiers (steps ++ step ∷ later_steps) is_few, weight_counted (copiers_reached copiers (steps ++ step ∷ later_steps)).machines step.number Inside stands_inside))

pub stopped_is_quiet : (copiers : ℕ) (steps : List (Event Wish)) (step : Event Wish) → IsFew copiers → answer_to (copiers_reached copiers steps) step ≡ Some copying.Stopped → IsQuiet (counter (copiers_reached copiers steps))
stopped_is_quiet copiers steps step is_few answer = (answer_says (copiers_reached copiers steps) step copying.Stopped (reached_sound copiers steps is_few) answer).stopped_is_quiet refl

pub quiet_stays : (copiers : ℕ) (steps later_steps : List (Event Wish)) → IsFew copiers → IsQuiet (counter (copiers_reached copiers steps)) → IsQuiet (counter (copiers_reached copiers (steps ++ later_steps)))
quiet_stays copiers steps later_steps is_few quiet = subst IsQuiet (sym ((later_reached copiers steps later_steps is_few).quiet_stays quiet)) quiet

pub none_enters : (copiers : ℕ) (steps later_steps : List (Event Wish)) (step : Event Wish) → IsFew copiers → IsQuiet (counter (copiers_reached copiers steps)) → answer_to (copiers_reached copiers (steps ++ later_steps)) step ≢ Some copying.Inside
none_enters copiers steps later_steps step is_few quiet answer =
    (answer_says (copiers_reached copiers (steps ++ later_steps)) step copying.Inside (reached_sound copiers (steps ++ later_steps) is_few) answer).none_enters (quiet_stays copiers steps later_steps is_few quiet) refl
