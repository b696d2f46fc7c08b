-- Crowds in histories that grow, and in longer scripts.
use Rattle.std.proofs.Common.{◌≡◌, ◌≢◌, ℕ, ◌+◌, ◌<◌, ◌≤◌, zero, suc, ⊎_elim, Bool, true, false, List, [], ◌∷◌, ◌++◌, length, Option, Some, None, get_or, refl, sym, ap, ◌∙◌, subst, arith}
use Rattle.std.specs.Prelude.{◌==◌, ◌-◌, take, slice_get, slice_index_or, sum_by, if◌then◌else◌}
use Rattle.std.specs.List.{range_with_len}
use Rattle.std.proofs.lemmas.List.{take-append-le, take_at}
use Rattle.std.proofs.lemmas.List.Elements.{All-head, All-tail}
use Rattle.std.proofs.lemmas.Option.{same_Some, slice_get_cases}
use Rattle.std.proofs.lemmas.List.Sums.{sum_by-cons}
use Rattle.shen_graph.proofs.Lists.{append_left, append_right}
use Rattle.regions.specs.Tops.{sum_below}
use Rattle.regions.proofs.Sums.{sum_next, sum_none, sum_same, sum_front}
use Rattle.shen_graph.specs.declared.command.Command.{Command}
use Rattle.shen_graph.specs.declared.command.Reply.TheVariants.{Full}
use Rattle.shen_graph.specs.Crowd.{words_asked, next_command, words_open, IsCrowded, AreCrowded}
use Rattle.shen_graph.specs.Graph.{Graph}
use Rattle.shen_graph.specs.History.{Entry, of_thread, IsWithoutFull}

-- a sum of terms that are no more
pub sum_below_le : (f g : ℕ → ℕ) (count : ℕ) → ((index : ℕ) → index < count → f index ≤ g index) → sum_below f count ≤ sum_below g count
sum_below_le f g zero each_less = omega (arith, sum_none f)
sum_below_le f g (suc count) each_less =
    omega (arith, sum_below_le f g count (λ index index_below. each_less index (omega (arith, index_below))), each_less count (omega arith), sum_next f count, sum_next g count)

-- a sum over a range
pub sum_by_range : (f : ℕ → ℕ) (from count : ℕ) → sum_by f (range_with_len from count) ≡ sum_below (λ index. f (index + from)) count
sum_by_range f from zero = sym (sum_none (λ index. f (index + from)))
sum_by_range f from (suc count) =
    let next_sum : sum_below (λ index. f (index + (from + 1))) count ≡ sum_below (λ index. f (suc index + from)) count = sum_same _ _ count (λ index index_below. ap f (omega arith)) in
    let first_term : f from ≡ f (0 + from) = ap f (omega arith) in
    let cons = sum_by-cons f from (range_with_len (from + 1) count) in
    let same_rest = sum_by_range f (from + 1) count in
    let front = sum_front (λ index. f (index + from)) count in
    omega (arith, next_sum, first_term, cons, same_rest, front)

-- one list has what the other has
abbrev pub Extends : List Command → List Command → Type 0
Extends script other_script = (index : ℕ) (command : Command) → slice_get script index ≡ Some command → slice_get other_script index ≡ Some command

-- as many scripts, each with no less than before
pub record AreLonger (old new : List (List Command)) : Type 0 where
  pub same : length new ≡ length old
  pub longer : (index : ℕ) → index < length old → Extends (slice_index_or old index []) (slice_index_or new index [])

-- what is asked for stays
asked_more : (before then_on : Option Command) → ((command : Command) → before ≡ Some command → then_on ≡ Some command) → words_asked before ≤ words_asked then_on
asked_more None then_on command_stays = omega arith
asked_more (Some command) then_on command_stays = subst (λ found_command. words_asked (Some command) ≤ words_asked found_command) (sym (command_stays command refl)) (omega arith)

-- what a thread's next command asks for, where it is not this thread
abbrev pub open_of : List (List Command) → List Entry → ℕ → ℕ → ℕ
open_of scripts history thread counted_thread = if counted_thread == thread then 0 else words_asked (next_command scripts history counted_thread)

-- what is open, as a sum over threads counted from 0
pub open_below : (scripts : List (List Command)) (history : List Entry) (thread : ℕ) → words_open scripts history thread ≡ sum_below (λ other_thread. open_of scripts history thread (other_thread + 1)) (length scripts)
open_below scripts history thread = sum_by_range (open_of scripts history thread) 1 (length scripts)

-- the next command of a thread counted from 0
pub next_is : (scripts : List (List Command)) (history : List Entry) (number : ℕ) → next_command scripts history (number + 1) ≡ slice_get (slice_index_or scripts number []) (length (of_thread history (number + 1)))
next_is scripts history number = ap (λ place. slice_get (slice_index_or scripts place []) (length (of_thread history (number + 1)))) (omega arith)

either_less : (holds : Bool) (x y : ℕ) → x ≤ y → (if holds then 0 else x) ≤ (if holds then 0 else y)
either_less true x y is_less = omega arith
either_less false x y is_less = is_less

-- with longer scripts no less is open
pub open_grows : (old new : List (List Command)) (history : List Entry) (thread : ℕ) → AreLonger old new → words_open old history thread ≤ words_open new history thread
open_grows old new history thread grows =
    let sum_less : sum_below (λ other_thread. open_of old history thread (other_thread + 1)) (length old) ≤ sum_below (λ other_thread. open_of new history thread (other_thread + 1)) (length old) = sum_below_le _ _ (length old) (λ other_thread thread_below.
    either_less ((other_thread + 1) == thread) _ _ (asked_more _ _ (λ command command_there. next_is new history other_thread ∙ grows.longer other_thread thread_below _ command (sym (next_is old history other_thread) ∙ command_there)))) in
    let same_sum : sum_below (λ other_thread. open_of new history thread (other_thread + 1)) (length old) ≡ sum_below (λ other_thread. open_of new history thread (other_thread + 1)) (length new) = ap (sum_below (λ other_thread. open_of new history thread (other_thread + 1))) (sym grows.same) in
    omega (arith, sum_less, same_sum, open_below old history thread, open_below new history thread)

-- who was crowded out still was
pub crowded_longer : (regions region_words : ℕ) (graph : Graph) (old new : List (List Command)) (history : List Entry) → AreLonger old new → AreCrowded regions region_words graph old history → AreCrowded regions region_words graph new history
crowded_longer regions region_words graph old new history grows crowded place entry entry_there answered_full =
    let crowd = crowded place entry entry_there answered_full in
    (crowd.0, crowd.1, crowd.2, crowd.3, crowd.4, crowd.5, (let open_less = open_grows old new (take place history) entry.thread grows in let crowded_before = crowd.6 in omega (arith, open_less, crowded_before)))

-- an entry of a history without Full
not_full_at : (entries : List Entry) (index : ℕ) (entry : Entry) → IsWithoutFull entries → slice_get entries index ≡ Some entry → entry.reply ≢ Full
not_full_at [] index entry without_full entry_there = absurd (cc (entry_there))
not_full_at (first_entry ∷ entries) zero entry without_full entry_there = λ answered_full. All-head (λ y. y.reply ≢ Full) first_entry entries without_full (ap (λ y. y.reply) (same_Some first_entry entry entry_there) ∙ answered_full)
not_full_at (first_entry ∷ entries) (suc index) entry without_full entry_there = not_full_at entries index entry (All-tail (λ y. y.reply ≢ Full) first_entry entries without_full) entry_there

-- a history of crowded ones, and one more list of such
module _ (regions region_words : ℕ) (graph : Graph) (scripts : List (List Command)) (history : List Entry) (crowded : AreCrowded regions region_words graph scripts history) where
  crowded_append : (later_entries : List Entry)
      → ((other_index index : ℕ) (entry : Entry) → other_index ≡ length history + index → slice_get later_entries index ≡ Some entry → entry.reply ≡ Full → IsCrowded regions region_words graph scripts (take other_index (history ++ later_entries)) entry)
      → AreCrowded regions region_words graph scripts (history ++ later_entries)
  crowded_append later_entries later index entry entry_there answered_full = ⊎_elim
      (λ (entry_inside : (later_entry : Entry) × (index < length history) × (slice_get history index ≡ Some later_entry) × (get_or history index later_entry ≡ later_entry)).
      subst (λ earlier_entries. IsCrowded regions region_words graph scripts earlier_entries entry) (sym (take-append-le index history later_entries (let index_below = entry_inside.1 in omega (arith, index_below))))
      (crowded index entry (sym (append_left history later_entries index entry_inside.1) ∙ entry_there) answered_full))
      (λ (is_past : (length history ≤ index) × (slice_get history index ≡ None)).
      let split_index : index ≡ length history + (index - length history) = (let past_end = is_past.0 in omega (arith, past_end)) in
      later index (index - length history) entry split_index (sym (append_right history later_entries index (index - length history) split_index) ∙ entry_there) answered_full)
      (slice_get_cases history index).1

  -- entries without Full
  pub crowded_none : (later_entries : List Entry) → IsWithoutFull later_entries → AreCrowded regions region_words graph scripts (history ++ later_entries)
  crowded_none later_entries without_full = crowded_append later_entries (λ place index entry same_place entry_there answered_full. absurd (not_full_at later_entries index entry without_full entry_there answered_full))

  -- one that was crowded out
  pub crowded_one : (entry : Entry) → IsCrowded regions region_words graph scripts history entry → AreCrowded regions region_words graph scripts (history ++ entry ∷ [])
  crowded_one entry crowd = crowded_append (entry ∷ []) (λ position index asked_entry same_place entry_there answered_full. by_place position index asked_entry same_place entry_there)
    where
      by_place : (place index : ℕ) (asked_entry : Entry) → place ≡ length history + index → slice_get (entry ∷ []) index ≡ Some asked_entry → IsCrowded regions region_words graph scripts (take place (history ++ entry ∷ [])) asked_entry
      by_place place zero asked_entry same_place entry_there =
          subst (λ earlier_entries. IsCrowded regions region_words graph scripts earlier_entries asked_entry) (sym (take_at history (entry ∷ []) place (omega (arith, same_place)))) (subst (λ any_entry. IsCrowded regions region_words graph scripts history any_entry) (same_Some entry asked_entry entry_there) crowd)
      by_place place (suc index) asked_entry same_place entry_there = absurd (cc (entry_there))
