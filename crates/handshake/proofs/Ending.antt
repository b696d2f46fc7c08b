-- The word that says that the control has ended: each run of events that keep it so goes on to say so.
use Rattle.std.proofs.Common.{◌≡◌, ◌≢◌, ℕ, Bool, List, [], ◌∷◌, true, Some, ⊎_elim, refl, sym, ap, ◌∙◌, subst, inl, inr, get_or-set_other}
use Rattle.std.specs.Prelude.{slice_get, slice_set, slice_index, ◌⊎◌}
use Rattle.std.proofs.lemmas.Bool.{cases_eq, true≢false}
use Rattle.std.proofs.lemmas.List.{length-set}
use Rattle.std.proofs.lemmas.Option.{same_Some}
use Rattle.heap_words.proofs.Lists.{slice_get-set_other, slice_get-set_same}
use Rattle.heap_words.specs.declared.config.Config.{Config}
use Rattle.heap_words.specs.declared.access.Access.{Access}
use Rattle.heap_words.specs.Access.{table_index}
use Rattle.heap_words.specs.Words.{End, word_at, view}
use Rattle.heap_words.proofs.Stores.{view_set}
use Rattle.heap_words.specs.Touch.{touch, stores, placed}
use Rattle.heap_words.specs.Steps.{MachineKind, Stage, Event, act, go, accessed}
use Rattle.heap_words.proofs.Runs.{go-none, go-first}
use Rattle.heap_words.proofs.Laws.{act_cases}
use Rattle.handshake.specs.Obeys.{is_load}
use Rattle.handshake.specs.Ending.{KeepsEnd, EventKeepsEnd, EachKeepsEnd, IsEndWord}
use Rattle.handshake.proofs.PauseWords.{accessed-load}

module _ {R : Type 0} (config : Config) (ended : R → Bool) (stage : Stage R) (end_word : IsEndWord config ended stage) (number : ℕ) (old new : R) (has_old : slice_get stage.machines number ≡ Some old) where
  -- the stage after an access
  abbrev after : Access → Stage R
  after access = record { words = accessed access stage.words; machines = slice_set stage.machines number new }

  -- the machine is the new one then
  new_here : slice_get (slice_set stage.machines number new) number ≡ Some new
  new_here = slice_get-set_same stage.machines number old new has_old

  -- a word that is as it was, and a machine that has ended as before
  same_end : (access : Access) → view config (accessed access stage.words) End ≡ view config stage.words End → ended new ≡ ended old → IsEndWord config ended (after access)
  same_end access word same_ended = record {
    words = length-set stage.words _ _ ∙ end_word.words;
    one = λ index machine has_machine machine_ended. word ∙ ⊎_elim
        (λ (same_index : index ≡ number).
        let same_machine : new ≡ machine = same_Some new machine (sym new_here ∙ ap (slice_get (slice_set stage.machines number new)) (sym same_index) ∙ has_machine) in
        end_word.one number old has_old (sym same_ended ∙ ap ended same_machine ∙ machine_ended))
        (λ (other_index : index ≢ number). end_word.one index machine (sym (slice_get-set_other stage.machines number index new other_index) ∙ has_machine) machine_ended)
        (cases_eq index number);
    none = λ none_ended. word ∙ end_word.none (λ index machine has_machine. ⊎_elim
        (λ (same_index : index ≡ number).
        let same_machine : old ≡ machine = same_Some old machine (sym has_old ∙ ap (slice_get stage.machines) (sym same_index) ∙ has_machine) in
        ap ended (sym same_machine) ∙ sym same_ended ∙ none_ended number new new_here)
        (λ (other_index : index ≢ number). none_ended index machine (slice_get-set_other stage.machines number index new other_index ∙ has_machine))
        (cases_eq index number));
  }

  -- a machine ends, and says so
  says_end : (access : Access) → access ≡ placed config (touch End (stores 1)) → ended new ≡ true → IsEndWord config ended (after access)
  says_end access stores_one new_ended = subst (λ any_access. IsEndWord config ended (after any_access)) (sym stores_one) (record {
    words = length-set stage.words _ _ ∙ end_word.words;
    one = λ index machine has_machine machine_ended. view_set config stage.words End 1 End end_word.words tt;
    none = λ none_ended. absurd (true≢false (sym new_ended ∙ none_ended number new new_here));
  })

  -- a step that obeys keeps what the word says
  pub keeps_step : (access : Access) (next_ended : ℕ → Bool) (got : ℕ) → KeepsEnd config (ended old) access next_ended → ended new ≡ next_ended got → IsEndWord config ended (after access)
  keeps_step access next_ended got (inl says) new_ended = says_end access says.access_is (new_ended ∙ says.has_ended got)
  keeps_step access next_ended got (inr leaves) new_ended = same_end access (unwritten leaves.not_written) (new_ended ∙ leaves.same got)
    where
      unwritten : (is_load access ≡ true) ⊎ (table_index access ≢ word_at config End) → view config (accessed access stage.words) End ≡ view config stage.words End
      unwritten (inl reads) = ap (λ table. view config table End) (accessed-load stage.words access reads)
      unwritten (inr word_elsewhere) = get_or-set_other stage.words (table_index access) (word_at config End) _ 0 (λ same_index. word_elsewhere (sym same_index))

module _ {R O : Type 0} (config : Config) (kind : MachineKind R O) (ended : R → Bool) where
  -- so does an event
  pub known_step : (stage : Stage R) (event : Event O) → IsEndWord config ended stage → EventKeepsEnd config kind ended stage event → IsEndWord config ended (act kind stage event)
  known_step stage event end_word keeps = act_cases kind (λ stage. IsEndWord config ended stage) stage event end_word
      (λ machine has_machine takes. keeps_step config ended stage end_word event.number machine (kind.took machine event.order (slice_index stage.words (table_index (kind.plan machine event.order)))) has_machine (kind.plan machine event.order)
      (λ got. ended (kind.took machine event.order got)) _
      (keeps machine (record { here = has_machine; takes = takes })) refl)

  -- and a run of events
  pub known_run : (stage : Stage R) (events : List (Event O)) → IsEndWord config ended stage → EachKeepsEnd config kind ended stage events → IsEndWord config ended (go kind stage events)
  known_run stage [] end_word keeps = subst (λ stage. IsEndWord config ended stage) (sym (go-none kind stage)) end_word
  known_run stage (event ∷ rest) end_word keeps = subst (λ stage. IsEndWord config ended stage) (sym (go-first kind stage event rest)) (known_run (act kind stage event) rest (known_step stage event end_word keeps.0) keeps.1)
