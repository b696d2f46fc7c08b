-- The step by which the control stores a word of the new image. Nothing that counts changes by it, and where the word says to a
-- mutator that the heap is full, the reply of its call is settled.
use Rattle.std.proofs.Common.{◌≡◌, ◌≢◌, ℕ, ◌+◌, ◌<◌, ◌≤◌, ◌⊎◌, inl, inr, ⊎_elim, Bool, true, false, List, [], ◌++◌, length, Some, None, refl, sym, ap, ◌∙◌, subst, arith}
use Rattle.std.specs.Prelude.{◌==◌, ◌-◌, ◌&&◌, nat_lt, slice_get, slice_index, slice_set, if◌then◌else◌}
use Rattle.std.proofs.lemmas.Bool.{cases_eq, cases_lt, and_parts, eqb-true, ne_eqb, eq-eqb, and_from, cond-true, cond-false, false≢true, true≢false, ltb-true, ltb-false, le-leb}
use Rattle.std.proofs.lemmas.Option.{same_Some}
use Rattle.std.proofs.lemmas.List.{append-nil, get_or-set_same, get_or-set_other}
use Rattle.std.proofs.lemmas.List.Elements.{All-nil}
use Rattle.heap_words.specs.declared.config.Config.{Config}
use Rattle.heap_words.specs.Ranges.{seat_count}
use Rattle.heap_words.specs.Rows.{name_of}
use Rattle.heap_words.specs.Words.{Word, Answer, IsWord, is_image, word_at, view, write, image_start, table_words}
use Rattle.heap_words.proofs.Named.{are_named}
use Rattle.heap_words.proofs.Rows.{is_image-word_at}
use Rattle.heap_words.proofs.Stores.{view_word, view_set_all, is_word_from}
use Rattle.shen_graph.specs.declared.command.Command.{Command}
use Rattle.shen_graph.specs.declared.command.Reply.TheVariants.{Full}
use Rattle.shen_graph.specs.Graph.{Graph}
use Rattle.shen_graph.specs.History.{Entry, of_thread}
use Rattle.mutator.specs.Rows.{Mutating}
use Rattle.heap_world.specs.World.{Ghost, World, Plot, Shared}
use Rattle.heap_world.specs.Change.{Change, image_words}
use Rattle.heap_world.proofs.Keeping.{rely_same}
use Rattle.collector_rows.specs.declared.extent.Extent.{Extent}
use Rattle.collector_rows.specs.Extent.{counts, next_stored, Counting}
use Rattle.collector_rows.specs.declared.control_spot.ControlSpot.{ControlSpot}
use Rattle.collector_rows.specs.declared.control_spot.ControlSpot.TheVariants.{StoreWord, Go}
use Rattle.collector_rows.specs.ControlRows.{Controlling, control_next}
use Rattle.collector_rows.specs.ControlReady.{is_ready}
use Rattle.collector_rows.proofs.ControlStays.{stays_ready}
use Rattle.collector_rows.proofs.Extents.{IsStoredNext, stored_next_is}
use Rattle.step_core.specs.Actor.{mutating, controlling, Actor, entries_of}
use Rattle.step_core.specs.Machines.{command_at, told_word}
use Rattle.step_core.specs.Settled.{is_counting, mixed, stored_image, settled_by, control_number}
use Rattle.step_core.proofs.Machines.Stepped.{Mine}
use Rattle.step_core.specs.Threads.{IsSettled}
use Rattle.step_core.proofs.History.Entries.{entries_settled, own_more, other_more}
use Rattle.step_core.proofs.Machines.Owed.{IsThread, IsAim, IsOfExtent, ControlFacts, IsControl, IsMachine, AreRead, PromisedToMutators, Owes}
use Rattle.step_core.proofs.Control.Images.{image_reads, mixed_whole, mixed_stored}
use Rattle.step_core.proofs.Control.OutsideImage.{no_other_control}
use Rattle.step_core.proofs.Mutators.Refusing.{refused_new, refused_mine}
use Rattle.step_core.proofs.Machines.Roles.{machine_stays, mutator_there}

module _ (change : Change) (config : Config) (words : List ℕ) (block : Plot) (ghost : Ghost) (graph : Graph) (past : List Entry) (machines : List Actor) (extent : Extent) (image : List ℕ) (index seen phase cset hints : ℕ) (command : Command) (calls : List Entry)
    (store_ready : is_ready config (StoreWord index extent) ≡ true) (whole_table : length words ≡ table_words config) (image_long : length image ≡ image_words config)
    (read : AreRead config words (record { extent = extent; image = image }) index) (counts_here : counts config extent image index ≡ true)
    (seats : length machines ≡ seat_count config.mutators config.helpers) where
  -- where the word stands, what was there, and what is stored
  abbrev at : ℕ
  at = image_start config + index

  abbrev raw : ℕ
  raw = slice_index words at

  abbrev value : ℕ
  value = slice_index image index

  -- the table then
  abbrev words_then : List ℕ
  words_then = slice_set words at value

  -- the image as it counts
  abbrev now : Counting
  now = record { extent = extent; image = image }

  -- the world, in which the image counts
  abbrev world_then : World
  world_then = record { memory = mixed config words now; block = block; ghost = ghost; graph = graph }

  -- the control, and the control then
  abbrev pub storing : Controlling
  storing = record { spot = StoreWord index extent; seen = seen; phase = phase; cset = cset; hints = hints; image = image }

  abbrev control_then : Controlling
  control_then = control_next change config storing raw

  abbrev new : Actor
  new = record { machine = controlling control_then; command = command; calls = calls ++ [] }

  below : index < image_words config
  below = ltb-true _ _ store_ready

  inside : at < table_words config
  inside = (let index_below = below in omega (arith, index_below))

  -- the word that is stored next
  abbrev next : ℕ
  next = next_stored config extent image index

  next_is : IsStoredNext config extent image index next
  next_is = stored_next_is config extent image index below

  -- of the words of the image that count those up to the next one are the table's
  read_more : AreRead config words_then now next
  read_more place place_below counted = ⊎_elim
      (λ (same_index : place ≡ index).
      ap (λ index. slice_index image index) same_index
      ∙ sym (get_or-set_same words at value 0 (let index_within = inside in omega (arith, index_within, whole_table)))
      ∙ ap (λ any_index. slice_index words_then (image_start config + any_index)) (sym same_index))
      (λ (other_index : place ≡ index → ⊥).
      let before : place < index = by_order place other_index place_below counted (cases_lt place index) in
      read place before counted ∙ sym (get_or-set_other words at (image_start config + place) value 0 (λ same_place. other_index (omega (arith, same_place)))))
      (cases_eq place index)
    where
      by_order : (place : ℕ) → (place ≡ index → ⊥) → place < next → counts config extent image place ≡ true → (place < index) ⊎ (index ≤ place) → place < index
      by_order place other_index place_below counted (inl place_before) = place_before
      by_order place other_index place_below counted (inr not_before) = absurd (true≢false (sym counted ∙ next_is.between place (omega (arith, other_index, not_before)) place_below))

  -- what counts then is what counted
  abbrev spot_then : Bool → ControlSpot
  spot_then holds = if holds then StoreWord next extent else Go

  same_counts : mixed config words_then now ≡ mixed config words now
  same_counts = mixed_stored config words now at value (omega arith) (ap (counts config extent image) (omega arith) ∙ counts_here)

  pub counts_then : (holds : Bool) → nat_lt next (image_words config) ≡ holds → mixed config words now ≡ settled_by config words_then (stored_image (spot_then holds) (if holds then image else []))
  counts_then true more_words = sym same_counts
  counts_then false all_stored = sym same_counts ∙ mixed_whole config words_then now (λ place place_below counted. read_more place (let past_end = ltb-false _ _ all_stored in omega (arith, place_below, past_end)) counted)

  -- the control knows how far it is
  aims_then : (holds : Bool) → nat_lt next (image_words config) ≡ holds → IsAim config words_then (spot_then holds) (if holds then image else [])
  aims_then true more_words = (image_long, read_more, next_is.here (ltb-true _ _ more_words))
  aims_then false all_stored = tt

  extent_then : (holds : Bool) → IsOfExtent config phase (spot_then holds) (if holds then image else [])
  extent_then true = tt
  extent_then false = tt

  -- the name of the word
  abbrev name : Word
  name = name_of config at

  pub name_is_word : IsWord config name
  name_is_word = are_named.is_word config at inside

  name_at : word_at config name ≡ at
  name_at = are_named.there config at inside

  -- the table then, by the names of its words
  view_then : view config words_then ≡ write (view config words) name value
  view_then = subst (λ place. view config (slice_set words place value) ≡ write (view config words) name value) name_at (view_set_all config words name value whole_table name_is_word)

  -- what was there
  pub view_raw : view config words name ≡ raw
  view_raw = view_word config words name name_is_word ∙ ap (λ index. slice_index words index) name_at

  -- what counts of the word is what is stored
  pub now_is : mixed config words now name ≡ value
  now_is =
      let in_image : is_image name ≡ true = is_image-word_at config name name_is_word ∙ (let same_place = name_at in le-leb _ _ (omega (arith, same_place))) in
      let same_place : word_at config name - image_start config ≡ index = (let stored_at = name_at in omega (arith, stored_at)) in
      cond-true (is_counting config now name) _ _ (and_from (is_image name) _ in_image (ap (counts config extent image) same_place ∙ counts_here))
      ∙ image_reads config image name (is_word_from config name name_is_word) in_image
      ∙ ap (λ index. slice_index image index) same_place

  -- what holds of the machines
  abbrev pub AllKnown : Type 0
  AllKnown = (index : ℕ) (actor : Actor) → slice_get machines index ≡ Some actor → IsMachine config words world_then (of_thread past (index + 1)) index actor actor.machine

  -- another machine, whose answer is not this word
  other_then : (settles : List Entry) (number : ℕ) (actor : Actor) → number ≢ control_number config → of_thread (past ++ settles) (number + 1) ≡ of_thread past (number + 1) → view config words_then (Answer number) ≡ view config words (Answer number)
      → Shared config world_then → IsMachine config words world_then (of_thread past (number + 1)) number actor actor.machine → IsMachine config words_then world_then (of_thread (past ++ settles) (number + 1)) number actor actor.machine
  other_then settles number actor not_control entries answer shared machine_stands =
      machine_stays config words words_then world_then world_then (of_thread past (number + 1)) (of_thread (past ++ settles) (number + 1)) number actor actor.machine shared
      (record {
        rely = rely_same config number world_then;
        answer = answer;
        counts = inr (record { graph = refl; promised = λ mutator. refl });
        aims = λ control is_control. absurd (no_other_control config words world_then (of_thread past (number + 1)) number actor actor.machine not_control machine_stands control is_control);
      })
      entries machine_stands

  -- what all stores owe
  module _ (shared : Shared config world_then) (promised_to : PromisedToMutators config block) (control_stands : IsControl config words world_then (control_number config) storing) where
    abbrev Stored : List Entry → Type 0
    Stored settles = Owes config words words_then world_then past (control_number config) machines (settled_by config words_then (stored_image control_then.spot control_then.image)) settles new

    -- the control stores the next word, or has stored all
    facts_then : (holds : Bool) → ControlFacts config world_then (control_number config) (spot_then holds)
    facts_then true = control_stands.facts
    facts_then false = control_stands.facts

    own_then : IsControl config words_then world_then (control_number config) control_then
    own_then = record {
      number_is = refl;
      ready = stays_ready config phase cset seen next (StoreWord index extent) raw store_ready tt;
      phase_is = control_stands.phase_is;
      set_is = control_stands.set_is;
      facts = facts_then (nat_lt next (image_words config));
      aims = aims_then (nat_lt next (image_words config)) refl;
      extent_is = extent_then (nat_lt next (image_words config));
    }

    -- a store that settles nothing
    quiet_store : ((index : ℕ) (actor : Actor) → index ≢ control_number config → slice_get machines index ≡ Some actor → IsMachine config words world_then (of_thread past (index + 1)) index actor actor.machine
        → IsMachine config words_then world_then (of_thread (past ++ []) (index + 1)) index actor actor.machine) → Stored []
    quiet_store others_stand = record {
      world = world_then;
      memory_is = counts_then (nat_lt next (image_words config)) refl;
      graph_is = refl;
      legal = tt;
      entries = All-nil (IsSettled config.mutators);
      shared = shared;
      promised_to = promised_to;
      own = own_then;
      others = others_stand;
    }

    same_entries : (number : ℕ) → of_thread (past ++ []) (number + 1) ≡ of_thread past (number + 1)
    same_entries number = ap (λ entries. of_thread entries (number + 1)) (append-nil past)

    -- a store into an answer
    module _ (all_known : AllKnown) (mutator : ℕ) (is_answer : name ≡ Answer mutator) where
      within : mutator < config.mutators
      within = subst (λ word. IsWord config word) is_answer name_is_word

      answers_then : (number : ℕ) → view config words_then (Answer number) ≡ write (view config words) (Answer mutator) value (Answer number)
      answers_then number = ap (λ memory. memory (Answer number)) view_then ∙ ap (λ word. write (view config words) word value (Answer number)) is_answer

      other_answer : (number : ℕ) → number ≢ mutator → view config words_then (Answer number) ≡ view config words (Answer number)
      other_answer number numbers_differ = answers_then number ∙ cond-false (mutator == number) _ _ (ne_eqb mutator number (λ same_mutator. numbers_differ (sym same_mutator)))

      own_answer : view config words_then (Answer mutator) ≡ value
      own_answer = answers_then mutator ∙ cond-true (mutator == mutator) _ _ (eq-eqb mutator mutator refl)

      raw_answer : view config words (Answer mutator) ≡ raw
      raw_answer = ap (view config words) (sym is_answer) ∙ view_raw

      now_answer : mixed config words now (Answer mutator) ≡ value
      now_answer = ap (mixed config words now) (sym is_answer) ∙ now_is

      -- the mutator of the answer, once its answer stands in the table
      thread_then : (actor : Actor) (its_state : Mutating) → ((raw ≡ 0) × (value ≡ 1) → ⊥) → IsThread config words world_then (of_thread past (mutator + 1)) mutator actor its_state → IsThread config words_then world_then (of_thread (past ++ []) (mutator + 1)) mutator actor its_state
      thread_then actor its_state not_settled thread_before = record {
        fixed = thread_before.fixed;
        number_is = thread_before.number_is;
        valid = thread_before.valid;
        mine = thread_before.mine;
        seen = record {
          null = λ zero_now. own_answer ∙ sym now_answer ∙ zero_now;
          full = λ one_now. ⊎_elim
              (λ (full_settled : (view config words (Answer mutator) ≡ 1) × (thread_before.fixed ≡ Some Full)). inl (own_answer ∙ sym now_answer ∙ one_now, full_settled.1))
              (λ (none_settled : (view config words (Answer mutator) ≡ 0) × (thread_before.fixed ≡ None)). absurd (not_settled (sym raw_answer ∙ none_settled.0, sym now_answer ∙ one_now)))
              (thread_before.seen.full one_now);
          given = λ is_address answer_is. (let same_answer = own_answer ∙ sym now_answer in omega (arith, is_address, answer_is, same_answer));
        };
        short = thread_before.short;
        entries_are = same_entries mutator ∙ thread_before.entries_are;
      }

      -- once it is settled that the heap is full for it
      refused_then : (actor : Actor) (its_state : Mutating) → raw ≡ 0 → value ≡ 1 → (thread_before : IsThread config words world_then (of_thread past (mutator + 1)) mutator actor its_state) → thread_before.fixed ≡ None
          → IsThread config words_then world_then (of_thread (past ++ entries_of mutator actor.command (Some Full)) (mutator + 1)) mutator actor its_state
      refused_then actor its_state raw_null full_stored thread_before unsettled =
          let at_1 : mixed config words now (Answer mutator) ≡ 1 = now_answer ∙ full_stored in
          record {
            fixed = Some Full;
            number_is = thread_before.number_is;
            valid = thread_before.valid;
            mine = refused_mine config world_then its_state.seat its_state.made its_state.kept actor.command (subst (λ mutator. mixed config words now (Answer mutator) ≡ 1) (sym thread_before.number_is) at_1) its_state.spot (subst (λ fixed. Mine config world_then its_state actor.command fixed) unsettled thread_before.mine);
            seen = record {
              null = λ zero_now. absurd (omega (arith, at_1, zero_now));
              full = λ e. inl (own_answer ∙ full_stored, refl);
              given = λ is_address. absurd (omega (arith, at_1, is_address));
            };
            short = λ e settled. absurd (cc (settled));
            entries_are = own_more past mutator actor.command (Some Full) ∙ ap (λ entries. entries ++ entries_of mutator actor.command (Some Full)) (thread_before.entries_are ∙ ap (λ f. actor.calls ++ entries_of mutator actor.command f) unsettled ∙ append-nil actor.calls);
          }

      -- the two cases
      by_test : (actor : Actor) (its_state : Mutating) → slice_get machines mutator ≡ Some actor → actor.machine ≡ mutating its_state → IsThread config words world_then (of_thread past (mutator + 1)) mutator actor its_state
          → (holds : Bool) → ((raw == 0) && (value == 1)) ≡ holds → Stored (entries_of mutator actor.command (if holds then Some Full else None))
      by_test actor its_state actor_there is_mutating thread_before false not_both = quiet_store (λ asked_number asked_actor not_control there_k known_k. ⊎_elim
          (λ (same_mutator : asked_number ≡ mutator).
          let one : asked_actor ≡ actor = same_Some asked_actor actor (sym there_k ∙ ap (slice_get machines) same_mutator ∙ actor_there) in
          subst (λ any_number. IsMachine config words_then world_then (of_thread (past ++ []) (any_number + 1)) any_number asked_actor asked_actor.machine) (sym same_mutator)
          (subst (λ any_actor. IsMachine config words_then world_then (of_thread (past ++ []) (mutator + 1)) mutator any_actor any_actor.machine) (sym one)
          (subst (λ machine. IsMachine config words_then world_then (of_thread (past ++ []) (mutator + 1)) mutator actor machine) (sym is_mutating)
          (thread_then actor its_state (λ both_tests. false≢true (sym not_both ∙ and_from _ _ (eq-eqb raw 0 both_tests.0) (eq-eqb value 1 both_tests.1))) thread_before))))
          (λ (numbers_differ : asked_number ≡ mutator → ⊥). other_then [] asked_number asked_actor not_control (same_entries asked_number) (other_answer asked_number numbers_differ) shared known_k)
          (cases_eq asked_number mutator))
      by_test actor its_state actor_there is_mutating thread_before true yes_so =
          let both_tests = and_parts (raw == 0) (value == 1) yes_so in
          let raw_null : raw ≡ 0 = eqb-true _ _ both_tests.0 in
          let one : value ≡ 1 = eqb-true _ _ both_tests.1 in
          let unsettled : thread_before.fixed ≡ None = ⊎_elim
          (λ (full_settled : (view config words (Answer mutator) ≡ 1) × (thread_before.fixed ≡ Some Full)). absurd (let at_raw = raw_answer in let full_raw = full_settled.0 in omega (arith, at_raw, full_raw, raw_null)))
          (λ (not_yet : (view config words (Answer mutator) ≡ 0) × (thread_before.fixed ≡ None)). not_yet.1)
          (thread_before.seen.full (now_answer ∙ one)) in
          let own_facts : Mine config world_then its_state actor.command None = subst (λ fixed. Mine config world_then its_state actor.command fixed) unsettled thread_before.mine in
          let at_1 : mixed config words now (Answer its_state.seat) ≡ 1 = ap (λ mutator. mixed config words now (Answer mutator)) thread_before.number_is ∙ now_answer ∙ one in
          record {
            world = world_then;
            memory_is = counts_then (nat_lt next (image_words config)) refl;
            graph_is = refl;
            legal = (inr (inl (refused_new config world_then its_state.seat its_state.made its_state.kept actor.command at_1 its_state.spot own_facts, refl, refl)), tt);
            entries = entries_settled config.mutators mutator actor.command (Some Full) within thread_before.valid;
            shared = shared;
            promised_to = promised_to;
            own = own_then;
            others = λ number other_actor not_control there_k known_k. ⊎_elim
                (λ (same_mutator : number ≡ mutator).
                let one_actor : other_actor ≡ actor = same_Some other_actor actor (sym there_k ∙ ap (slice_get machines) same_mutator ∙ actor_there) in
                subst (λ any_number. IsMachine config words_then world_then (of_thread (past ++ entries_of mutator actor.command (Some Full)) (any_number + 1)) any_number other_actor other_actor.machine) (sym same_mutator)
                (subst (λ any_actor. IsMachine config words_then world_then (of_thread (past ++ entries_of mutator actor.command (Some Full)) (mutator + 1)) mutator any_actor any_actor.machine) (sym one_actor)
                (subst (λ machine. IsMachine config words_then world_then (of_thread (past ++ entries_of mutator actor.command (Some Full)) (mutator + 1)) mutator actor machine) (sym is_mutating)
                (refused_then actor its_state raw_null one thread_before unsettled))))
                (λ (numbers_differ : number ≡ mutator → ⊥). other_then (entries_of mutator actor.command (Some Full)) number other_actor not_control (other_more past mutator actor.command (Some Full) number numbers_differ) (other_answer number numbers_differ) shared known_k)
                (cases_eq number mutator);
          }

      -- so whatever was there
      answer_owes : Stored (told_word machines (Answer mutator) raw value)
      answer_owes =
          let mutator_found = mutator_there config words world_then past machines seats all_known mutator within in
          subst (λ command. Stored (entries_of mutator command (if (raw == 0) && (value == 1) then Some Full else None))) (ap command_at (sym mutator_found.2))
          (by_test mutator_found.0 mutator_found.1 mutator_found.2 mutator_found.3 mutator_found.4 ((raw == 0) && (value == 1)) refl)

    -- whatever word it is
    by_word : AllKnown → (word : Word) → name ≡ word → Stored (told_word machines word raw value)
    by_word all_known (Answer mutator) name_is = answer_owes all_known mutator name_is
    by_word all_known word name_is = quiet_store (λ asked_number asked_actor not_control there_k known_k.
        other_then [] asked_number asked_actor not_control (same_entries asked_number) (ap (λ memory_then. memory_then (Answer asked_number)) view_then ∙ ap (λ any_word. write (view config words) any_word value (Answer asked_number)) name_is) shared known_k)

    pub stored_owes : AllKnown → Stored (told_word machines name raw value)
    stored_owes all_known = by_word all_known name refl
