-- The count of the mutators that have not ended: each run of events that count keeps it.
use Rattle.std.proofs.Common.{◌≡◌, ◌≢◌, ℕ, ◌+◌, ◌≤◌, Bool, List, [], ◌∷◌, true, false, cond, Some, zero, suc, refl, sym, ap, ◌∙◌, subst, arith, inl, inr, get_or-set_other}
use Rattle.std.specs.Prelude.{slice_get, slice_set, slice_index, count_by, ◌⊎◌}
use Rattle.std.proofs.lemmas.List.{length-set}
use Rattle.std.proofs.lemmas.List.Sums.{count_by-le-length, sum_by-cons}
use Rattle.heap_words.specs.declared.config.Config.{Config}
use Rattle.heap_words.specs.declared.access.Access.{Access}
use Rattle.heap_words.specs.Access.{table_index}
use Rattle.heap_words.specs.Words.{Left, word_at, view}
use Rattle.heap_words.proofs.Stores.{view_set}
use Rattle.heap_words.specs.Touch.{touch, subtracts, placed}
use Rattle.heap_words.specs.Steps.{MachineKind, Stage, Event, act, go, accessed}
use Rattle.heap_words.proofs.Runs.{go-none, go-first}
use Rattle.heap_words.proofs.Laws.{act_cases}
use Rattle.handshake.specs.Obeys.{is_load}
use Rattle.handshake.specs.Left.{Counts, EventCounts, EachCounts, AreLeftCounted}
use Rattle.handshake.proofs.PauseWords.{accessed-load}

-- what a machine adds to the count
abbrev pub weight : Bool → ℕ
weight holds = cond holds 1 0

pub count_by-cons : {R : Type 0} (p : R → Bool) (machine : R) (machines : List R) → count_by p (machine ∷ machines) ≡ weight (p machine) + count_by p machines
count_by-cons p machine machines = sum_by-cons (λ any_machine. weight (p any_machine)) machine machines

-- the count after a change of one machine
count_by-set : {R : Type 0} (p : R → Bool) (machines : List R) (index : ℕ) (old_machine new_machine : R) → slice_get machines index ≡ Some old_machine → count_by p (slice_set machines index new_machine) + weight (p old_machine) ≡ count_by p machines + weight (p new_machine)
count_by-set p [] index old_machine new_machine has_machine = absurd (cc (has_machine))
count_by-set p (first_machine ∷ machines) zero old_machine new_machine has_machine = let same_machine : first_machine ≡ old_machine = cc (has_machine) in omega (arith, ap (λ any_machine. weight (p any_machine)) same_machine, count_by-cons p first_machine machines, count_by-cons p new_machine machines)
count_by-set p (first_machine ∷ machines) (suc index) old_machine new_machine has_machine = omega (arith, count_by-set p machines index old_machine new_machine has_machine, count_by-cons p first_machine machines, count_by-cons p first_machine (slice_set machines index new_machine))

-- where a machine is counted, the count is not 0
count_some : {R : Type 0} (p : R → Bool) (machines : List R) (index : ℕ) (machine : R) → slice_get machines index ≡ Some machine → p machine ≡ true → 1 ≤ count_by p machines
count_some p [] index machine has_machine machine_counted = absurd (cc (has_machine))
count_some p (first_machine ∷ machines) zero machine has_machine machine_counted = let same_machine : first_machine ≡ machine = cc (has_machine) in omega (arith, ap (λ any_machine. weight (p any_machine)) same_machine, ap weight machine_counted, count_by-cons p first_machine machines)
count_some p (first_machine ∷ machines) (suc index) machine has_machine machine_counted = omega (arith, count_some p machines index machine has_machine machine_counted, count_by-cons p first_machine machines)

module _ {R : Type 0} (config : Config) (is_left : R → Bool) (stage : Stage R) (counted : AreLeftCounted config is_left stage) (number : ℕ) (old new : R) (has_old : slice_get stage.machines number ≡ Some old) where
  -- the stage after an access
  abbrev after : Access → Stage R
  after access = record { words = accessed access stage.words; machines = slice_set stage.machines number new }

  -- what a step may do to the count: a count of 0 stays
  pub record IsStep (access : Access) : Type 0 where
    pub holds : AreLeftCounted config is_left (after access)
    pub none_stays : view config stage.words Left ≡ 0 → view config (accessed access stage.words) Left ≡ 0

  -- a word that is as it was, and a machine that counts as before
  same_count : (access : Access) → view config (accessed access stage.words) Left ≡ view config stage.words Left → is_left new ≡ is_left old → IsStep access
  same_count access word same_left = record {
    holds = record {
      words = length-set stage.words _ _ ∙ counted.words;
      few = subst (λ size. size ≤ 12) (sym (length-set stage.machines number new)) counted.few;
      counts = word ∙ counted.counts ∙ omega (arith, count_by-set is_left stage.machines number old new has_old, ap weight same_left);
    };
    none_stays = λ none_left. word ∙ none_left;
  }

  -- a mutator ends
  one_less : (access : Access) → access ≡ placed config (touch Left (subtracts 1)) → is_left old ≡ true → is_left new ≡ false → IsStep access
  one_less access subtracts_one old_left new_not_left = subst IsStep (sym subtracts_one) (record {
    holds = record {
      words = length-set stage.words _ _ ∙ counted.words;
      few = subst (λ size. size ≤ 12) (sym (length-set stage.machines number new)) counted.few;
      counts =
          view_set config stage.words Left _ Left counted.words tt
          ∙ omega (arith, counted.counts, counted.few, count_by-le-length is_left stage.machines, count_by-set is_left stage.machines number old new has_old, ap weight old_left, ap weight new_not_left);
    };
    none_stays = λ none_left. absurd (omega (arith, none_left, counted.counts, count_some is_left stage.machines number old has_old old_left));
  })

  -- a step that counts keeps the count
  pub counts_step : (access : Access) (next_left : ℕ → Bool) (got : ℕ) → Counts config (is_left old) access next_left → is_left new ≡ next_left got → IsStep access
  counts_step access next_left got (inl ends) new_left = one_less access ends.access_is ends.was_left (new_left ∙ ends.has_ended got)
  counts_step access next_left got (inr leaves) new_left = same_count access (unwritten leaves.not_written) (new_left ∙ leaves.same got)
    where
      unwritten : (is_load access ≡ true) ⊎ (table_index access ≢ word_at config Left) → view config (accessed access stage.words) Left ≡ view config stage.words Left
      unwritten (inl reads) = ap (λ table. view config table Left) (accessed-load stage.words access reads)
      unwritten (inr word_elsewhere) = get_or-set_other stage.words (table_index access) (word_at config Left) _ 0 (λ same_index. word_elsewhere (sym same_index))

module _ {R O : Type 0} (config : Config) (kind : MachineKind R O) (is_left : R → Bool) where
  -- an event that counts keeps the count
  pub counted_step : (stage : Stage R) (event : Event O) → AreLeftCounted config is_left stage → EventCounts config kind is_left stage event → AreLeftCounted config is_left (act kind stage event)
  counted_step stage event counted counts = act_cases kind (λ stage. AreLeftCounted config is_left stage) stage event counted
      (λ machine has_machine takes. (counts_step config is_left stage counted event.number machine (kind.took machine event.order (slice_index stage.words (table_index (kind.plan machine event.order)))) has_machine (kind.plan machine event.order)
      (λ got. is_left (kind.took machine event.order got)) _
      (counts machine (record { here = has_machine; takes = takes })) refl).holds)

  -- once all have ended it goes on so
  pub none_step : (stage : Stage R) (event : Event O) → AreLeftCounted config is_left stage → EventCounts config kind is_left stage event → view config stage.words Left ≡ 0 → view config (act kind stage event).words Left ≡ 0
  none_step stage event counted counts none_left = act_cases kind (λ x. view config x.words Left ≡ 0) stage event none_left
      (λ machine has_machine takes. (counts_step config is_left stage counted event.number machine (kind.took machine event.order (slice_index stage.words (table_index (kind.plan machine event.order)))) has_machine (kind.plan machine event.order)
      (λ got. is_left (kind.took machine event.order got)) _
      (counts machine (record { here = has_machine; takes = takes })) refl).none_stays none_left)

  -- so does a run of events that count
  pub counted_run : (stage : Stage R) (events : List (Event O)) → AreLeftCounted config is_left stage → EachCounts config kind is_left stage events → AreLeftCounted config is_left (go kind stage events)
  counted_run stage [] counted counts = subst (λ stage. AreLeftCounted config is_left stage) (sym (go-none kind stage)) counted
  counted_run stage (event ∷ rest) counted counts = subst (λ stage. AreLeftCounted config is_left stage) (sym (go-first kind stage event rest))
      (counted_run (act kind stage event) rest (counted_step stage event counted counts.0) counts.1)

  pub none_run : (stage : Stage R) (events : List (Event O)) → AreLeftCounted config is_left stage → EachCounts config kind is_left stage events → view config stage.words Left ≡ 0 → view config (go kind stage events).words Left ≡ 0
  none_run stage [] counted counts none_left = subst (λ x. view config x.words Left ≡ 0) (sym (go-none kind stage)) none_left
  none_run stage (event ∷ rest) counted counts none_left = subst (λ x. view config x.words Left ≡ 0) (sym (go-first kind stage event rest))
      (none_run (act kind stage event) rest (counted_step stage event counted counts.0) counts.1 (none_step stage event counted counts.0 none_left))

-- a mutator that has not ended finds a count that is not 0
pub left_some : {R : Type 0} (config : Config) (is_left : R → Bool) (stage : Stage R) (number : ℕ) (machine : R) → AreLeftCounted config is_left stage → slice_get stage.machines number ≡ Some machine → is_left machine ≡ true → view config stage.words Left ≢ 0
left_some config is_left stage number machine counted has_machine machine_left none_left = omega (arith, none_left, counted.counts, count_some is_left stage.machines number machine has_machine machine_left)
