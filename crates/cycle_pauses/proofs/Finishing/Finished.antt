-- A cycle that was finished in its pause: who asks was given what it asks for, or a full collection follows.
use Rattle.std.proofs.Common.{◌≡◌, ◌≢◌, ℕ, ◌<◌, ◌⊎◌, true, false, Option, inl, inr, ⊎_elim, refl, sym, ap, ◌∙◌, subst, arith}
use Rattle.std.proofs.Math.Path.{fun_ext}
use Rattle.std.specs.Prelude.{not}
use Rattle.std.proofs.lemmas.Bool.{cond-true, cond-false, cases_Bool, and_parts, and_from, not_from_false}
use Rattle.heap_words.specs.declared.config.Config.{Config}
use Rattle.heap_words.specs.Words.{Word, Pause, Left, End, State, Phase, Cset, Free, Evac, Claim, Ask, Top, Tams, Limit, Current, Root, Pin, Count, Buffer, Wait, Answer, Grey, Black, Heap, Share}
use Rattle.heap_words.specs.Ranges.{seat_count}
use Rattle.regions.specs.Sets.{IsIn}
use Rattle.shen_graph.specs.Graph.{Graph}
use Rattle.heap_world.specs.World.{Plot}
use Rattle.heap_world.specs.Asking.{Asking, nothing, asks, refused, given, IsAsked}
use Rattle.heap_world.specs.Represents.{Represents}
use Rattle.heap_world.specs.Change.{Answers, IsPaused}
use Rattle.image_graph.specs.LetGo.{let_go, HasNoBuffers}
use Rattle.image_graph.proofs.LettingGo.{none_to_let_go, letting_go_leaves}
use Rattle.image_graph.proofs.Elsewhere.{IsOfBuffers, let_go_same}
use Rattle.cycle_words.specs.Evacuation.Copied.{MayChange}
use Rattle.cycle_pauses.specs.Updating.Freed.{IsFreed}
use Rattle.image_graph.proofs.LooseKept.{letting_go_keeps}
use Rattle.image_graph.specs.Full.{packed, packed_in, made_in, served_in, room_for, served, full_from, full}
use Rattle.image_graph.specs.Full as image
use Rattle.image_graph.proofs.Still.{served_still}
use Rattle.image_graph.specs.Pinned.{is_pinned, filled_in}
use Rattle.image_graph.specs.Promised.{Promises}
use Rattle.image_graph.specs.Holds.{HoldsBy, AreSized}
use Rattle.cycle_pauses.proofs.Full.ByCopies.{by_copies}
use Rattle.cycle_pauses.proofs.Full.Promises.{promises_of}
use Rattle.cycle_pauses.proofs.Full.Before.{live}
use Rattle.cycle_pauses.proofs.Full.Holding.{waits_for, holds_by, are_sized}
use Rattle.cycle_pauses.proofs.Full.Pauses.{paused_from, paused}
use Rattle.cycle_pauses.proofs.LeftByFinishing.{all_copied_same}
use Rattle.image_graph.specs.Buffers.{HasNoMoreSeats}
use Rattle.cycle_words.proofs.Marking.Alike.{holds_alike, sized_alike}
use Rattle.cycle_words.proofs.Marking.Vanished.{free_is, top_out, tams_out, limit_out}
use Rattle.cycle_words.proofs.Pinned.{same_pinned}
use Rattle.cycle_pauses.proofs.Evacuation.Asked.{asked_stays}
use Rattle.cycle_pauses.proofs.Updating.Freeing.{chosen_if}
use Rattle.cycle_words.specs.Updating.Changes.{is_chosen}
use Rattle.cycle_words.specs.Finishing.Updated.{all_updated}
use Rattle.cycle_words.specs.Finishing.Copies.{all_copied, is_room_for_all}
use Rattle.cycle_words.specs.Finishing.Finish.{is_to_free, is_to_stay, has_moved, set_freed, cycle_finished, finished_from, finished, nobody_waits, is_whole}
use Rattle.cycle_words.proofs.Finishing.Whole.{nobody_is}
use Rattle.cycle_pauses.specs.Finishing.Laws.{IsWholePause, ShortHolds, WholeIsPause, ShortIsPause, SetIsFree}
use Rattle.cycle_pauses.proofs.Finishing.CopyingKeeps.{copying_keeps}
use Rattle.cycle_pauses.proofs.Finishing.Serving.{IsIdle, IsServedSo, turns_idle}
use Rattle.cycle_pauses.proofs.Finishing.Idle.{idle_represents, finished_idle}

-- Words that serving leaves.
phase_still : (config : Config) (memory : Word → ℕ) (turns : ℕ) → served config memory turns Phase ≡ memory Phase
unfolding made_in
phase_still config = served_still config Phase (λ w t r. refl)

cset_still : (config : Config) (memory : Word → ℕ) (turns : ℕ) → served config memory turns Cset ≡ memory Cset
unfolding made_in
cset_still config = served_still config Cset (λ w t r. refl)

evac_still : (config : Config) (memory : Word → ℕ) (turns : ℕ) → served config memory turns Evac ≡ memory Evac
unfolding made_in
evac_still config = served_still config Evac (λ w t r. refl)

-- words hold a graph by pieces each of which says how many words it has
abbrev pub HoldsInSizes : Config → (Word → ℕ) → Graph → Type 0
HoldsInSizes config memory graph = (block : Plot) × (owner : ℕ → Option ℕ) × (promises : Promises) × HoldsBy config memory block owner promises graph × AreSized memory block

-- What is left to a full collection: the words hold the graph, and what it makes of them is what the pause owes.
pub record FallsShort (config : Config) (before after : Word → ℕ) (graph : Graph) (asking : ℕ → Asking) : Type 0 where
  pub holds : HoldsInSizes config after graph
  pub paused : IsPaused config before (full config after) graph asking

-- What mutators have been given.

-- who asked asks still, or was given what it asked for
served_so : (asking later_asking : Asking) → IsServedSo asking later_asking → (refs nums : ℕ) → asking ≡ asks refs nums → (later_asking ≡ asks refs nums) ⊎ (later_asking ≡ given refs nums)
served_so asking later_asking (IsServedSo.as_before asks_same) refs nums it_asks = inl it_asks
served_so asking later_asking (IsServedSo.with_object its_refs its_nums) refs nums it_asks = inr cc

-- an asking is answered as it should be, where it asks no more
answered_so : (asking later_asking : Asking) → IsServedSo asking later_asking → ((refs nums : ℕ) → later_asking ≡ asks refs nums → ⊥) → Answers asking later_asking
answered_so asking later_asking (IsServedSo.as_before asks_same) no_more = same asks_same no_more
  where
    same : (any_asking : Asking) → ((refs nums : ℕ) → any_asking ≡ asks refs nums → ⊥) → Answers any_asking any_asking
    same nothing no_more = tt
    same (asks refs nums) no_more = absurd (no_more refs nums refl)
    same refused no_more = tt
    same (given refs nums) no_more = (refl, refl)
answered_so asking later_asking (IsServedSo.with_object refs nums) no_more = (refl, refl)

-- and where it is answered later
answered_later : (first_asking middle_asking last_asking : Asking) → IsServedSo first_asking middle_asking → Answers middle_asking last_asking → Answers first_asking last_asking
answered_later asking later_asking last_asking (IsServedSo.as_before asks_same) later = later
answered_later asking later_asking last_asking (IsServedSo.with_object refs nums) later = by_later last_asking later
  where
    by_later : (any_asking : Asking) → Answers (given refs nums) any_asking → Answers (asks refs nums) any_asking
    by_later nothing answered = absurd answered
    by_later (asks its_refs its_nums) answered = absurd answered
    by_later refused answered = tt
    by_later (given its_refs its_nums) answered = answered

not_refused : (refs nums : ℕ) (asking later_asking : Asking) → asking ≡ given refs nums → later_asking ≡ refused → Answers asking later_asking → ⊥
not_refused refs nums asking later_asking was_given now_refused answered = subst (λ request. Answers (given refs nums) request) now_refused (subst (λ request. Answers request later_asking) was_given answered)

-- who asks waits
asking_waits : (memory : Word → ℕ) (block : Plot) (count : ℕ → ℕ) (mutator refs nums : ℕ) (asking : Asking) → IsAsked memory block count mutator asking → asking ≡ asks refs nums → memory (Wait mutator) ≢ 0
asking_waits memory block count mutator refs nums asking asked it_asks = waits_for memory count mutator refs nums (subst (IsAsked memory block count mutator) it_asks asked).0

-- Where nobody has a buffer, and all that was left found room.
module _ (config : Config) (memory : Word → ℕ) (graph : Graph) (asking : ℕ → Asking) (represents : Represents config memory graph asking) (bare : HasNoBuffers config memory) (room : is_room_for_all config memory ≡ true) where
  abbrev w : Word → ℕ
  w = served config (cycle_finished config memory) config.mutators

  finished_is : finished_from config memory ≡ served config (cycle_finished config memory) config.mutators
  finished_is = fun_ext (λ word. cond-true (is_room_for_all config memory) (served config (cycle_finished config memory) config.mutators word) (all_copied config memory word) room)

  turns : (plot : Plot) × (owner : ℕ → Option ℕ) × (later_asking : ℕ → Asking) × IsIdle config w plot owner graph later_asking × ((thread : ℕ) → IsServedSo (asking thread) (later_asking thread))
  turns =
      let idle = finished_idle config memory graph asking represents bare room in
      let served_all = turns_idle config (cycle_finished config memory) idle.0 idle.1 graph asking idle.2 config.mutators (omega arith) in
      (served_all.0, idle.1, served_all.1, served_all.2, served_all.3)

  abbrev then : ℕ → Asking
  then = turns.2

  -- each request was served
  module _ (nobody : nobody_waits config (finished_from config memory) ≡ true) where
    nobody_asks : (mutator refs nums : ℕ) → mutator < config.mutators → then mutator ≡ asks refs nums → ⊥
    nobody_asks mutator refs nums inside still_asks =
        asking_waits w turns.0 graph.count mutator refs nums (then mutator) (turns.3.asked mutator inside) still_asks (sym (ap (λ (memory : Word → ℕ). memory (Wait mutator)) finished_is) ∙ nobody_is config (finished_from config memory) nobody mutator inside)

    whole_stands : Represents config w graph then
    whole_stands =
        idle_represents config w turns.0 turns.1 graph then turns.3 (phase_still config (cycle_finished config memory) config.mutators) (cset_still config (cycle_finished config memory) config.mutators) (evac_still config (cycle_finished config memory) config.mutators)
        (λ mutator refs nums inside still_asks. absurd (nobody_asks mutator refs nums inside still_asks)) represents.no_more represents.no_more_pins

    whole_paused : IsWholePause config memory w graph asking
    whole_paused = record {
      paused = record {
        asked_then = then;
        stands = whole_stands;
        answers = λ mutator inside. answered_so (asking mutator) (then mutator) (turns.4 mutator) (λ refs nums still_asks. nobody_asks mutator refs nums inside still_asks);
        crowded = λ mutator refs nums inside still_asks was_refused. ⊎_elim
            (λ (asks_still : then mutator ≡ asks refs nums). absurd (nobody_asks mutator refs nums inside asks_still))
            (λ (gave : then mutator ≡ given refs nums). let differ : given refs nums ≡ refused = sym gave ∙ was_refused in cc)
            (served_so (asking mutator) (then mutator) (turns.4 mutator) refs nums still_asks);
      };
      given_all = λ mutator refs nums inside still_asks. ⊎_elim
          (λ (asks_still : then mutator ≡ asks refs nums). absurd (nobody_asks mutator refs nums inside asks_still))
          (λ (gave : then mutator ≡ given refs nums). gave)
          (served_so (asking mutator) (then mutator) (turns.4 mutator) refs nums still_asks);
    }

    pub whole_pause : IsWholePause config memory (finished_from config memory) graph asking
    whole_pause = subst (λ final_memory. IsWholePause config memory final_memory graph asking) (sym finished_is) whole_paused

  -- Else some wait, as the word would say of what is asked that is cleared with the cycle.
  abbrev asked_word : Word → ℕ
  asked_word Ask = 2
  asked_word word = w word

  asked_idle : IsIdle config asked_word turns.0 turns.1 graph then
  asked_idle = record {
    parsable = turns.3.parsable;
    contents = turns.3.contents;
    owned = turns.3.owned;
    unwritten = turns.3.unwritten;
    unmoved = turns.3.unmoved;
    roots = turns.3.roots;
    pinned = turns.3.pinned;
    asked = λ mutator inside. asked_stays w asked_word turns.0 turns.0 graph.count mutator refl refl (λ address words index piece_there index_below. refl) (λ address words piece_there. piece_there) (λ address words piece_there. piece_there) (then mutator) (turns.3.asked mutator inside);
    promised_to = turns.3.promised_to;
  }

  asked_stands : Represents config asked_word graph then
  asked_stands =
      idle_represents config asked_word turns.0 turns.1 graph then asked_idle (phase_still config (cycle_finished config memory) config.mutators) (cset_still config (cycle_finished config memory) config.mutators) (evac_still config (cycle_finished config memory) config.mutators)
      (λ t refs nums inside it_asks. refl) represents.no_more represents.no_more_pins

  -- a full collection does not read that word
  packed_same : (word : Word) → packed_in config asked_word word ≡ packed_in config w word
  unfolding packed image.moved_heap
  packed_same Ask = refl
  packed_same Phase = refl
  packed_same Cset = refl
  packed_same Claim = refl
  packed_same Evac = refl
  packed_same Free = refl
  packed_same (Top region) = refl
  packed_same (Tams region) = refl
  packed_same (Limit region) = refl
  packed_same (Heap address) = refl
  packed_same (Root mutator index) = refl
  packed_same (Pin mutator slot) = refl
  packed_same (Answer mutator) = refl
  packed_same Pause = refl
  packed_same Left = refl
  packed_same End = refl
  packed_same (State seat) = refl
  packed_same (Current seat) = refl
  packed_same (Count mutator) = refl
  packed_same (Buffer mutator entry) = refl
  packed_same (Wait mutator) = refl
  packed_same (Grey number) = refl
  packed_same (Black number) = refl
  packed_same Share = refl

  -- nor is there a buffer to let go
  still_bare : (seat : ℕ) → seat < seat_count config.mutators config.helpers → w (Current seat) ≡ 0
  unfolding made_in
  still_bare seat seat_below =
      served_still config (Current seat) (λ v t q. refl) (cycle_finished config memory) config.mutators
      ∙ (copying_keeps config memory graph asking represents).same (Current seat) (λ never. never) ∙ bare seat seat_below

  full_same : full config asked_word ≡ full config w
  full_same =
      ap (full_from config) (none_to_let_go config asked_word (seat_count config.mutators config.helpers) still_bare)
      ∙ ap (λ (memory : Word → ℕ). image.refused (served config memory config.mutators)) (fun_ext packed_same)
      ∙ sym (ap (full_from config) (none_to_let_go config w (seat_count config.mutators config.helpers) still_bare))

  asked_paused : IsPaused config asked_word (full config asked_word) graph then
  asked_paused = paused config asked_word graph then (by_copies config asked_word graph then asked_stands)

  full_paused : IsPaused config memory (full config asked_word) graph asking
  full_paused = record {
    asked_then = asked_paused.asked_then;
    stands = asked_paused.stands;
    answers = λ mutator inside. answered_later (asking mutator) (then mutator) (asked_paused.asked_then mutator) (turns.4 mutator) (asked_paused.answers mutator inside);
    crowded = λ mutator refs nums inside it_asked was_refused. ⊎_elim
        (λ (asks_still : then mutator ≡ asks refs nums). asked_paused.crowded mutator refs nums inside asks_still was_refused)
        (λ (gave : then mutator ≡ given refs nums). absurd (not_refused refs nums (then mutator) (asked_paused.asked_then mutator) gave was_refused (asked_paused.answers mutator inside)))
        (served_so (asking mutator) (then mutator) (turns.4 mutator) refs nums it_asked);
  }

  served_holds : HoldsInSizes config w graph
  served_holds =
      let stands = by_copies config asked_word graph then asked_stands in
      let holds = holds_by config asked_word graph then stands in (
        live config asked_word graph then stands,
        stands.ghost.owner,
        promises_of config graph then,
        holds_alike asked_word w (record { heap = λ a. refl; top = λ q. refl; root = λ t i. refl; answer = λ t. refl; wait = λ t. refl; current = λ s. refl; free = refl; cset = refl; share = refl; pin = λ t i. refl })
            config (live config asked_word graph then stands) stands.ghost.owner (promises_of config graph then) graph holds,
        sized_alike asked_word w (live config asked_word graph then stands) (λ a. refl) (are_sized config asked_word graph then stands),
      )

  pub served_short : FallsShort config memory (finished_from config memory) graph asking
  served_short = record {
    holds = subst (λ final_memory. HoldsInSizes config final_memory graph) (sym finished_is) served_holds;
    paused = subst (λ final_memory. IsPaused config memory (full config final_memory) graph asking) (sym finished_is) (subst (λ final_memory. IsPaused config memory final_memory graph asking) full_same full_paused);
  }

-- Where something found no room.
module _ (config : Config) (memory : Word → ℕ) (graph : Graph) (asking : ℕ → Asking) (represents : Represents config memory graph asking) (no_room : is_room_for_all config memory ≡ false) where
  finished_early : finished_from config memory ≡ all_copied config memory
  finished_early = fun_ext (λ word. cond-false (is_room_for_all config memory) (served config (cycle_finished config memory) config.mutators word) (all_copied config memory word) no_room)

  pub copied_short : FallsShort config memory (finished_from config memory) graph asking
  copied_short =
      let stands = (copying_keeps config memory graph asking represents).stands in
      let paused_then = paused config (all_copied config memory) graph asking stands in
      record {
        holds = subst (λ final_memory. HoldsInSizes config final_memory graph) (sym finished_early)
            (live config (all_copied config memory) graph asking stands, stands.ghost.owner, promises_of config graph asking, holds_by config (all_copied config memory) graph asking stands, are_sized config (all_copied config memory) graph asking stands);
        paused = subst (λ final_memory. IsPaused config memory (full config final_memory) graph asking) (sym finished_early)
            (record { asked_then = paused_then.asked_then; stands = paused_then.stands; answers = paused_then.answers; crowded = paused_then.crowded });
      }

-- So it is once buffers were let go.
module _ (config : Config) (memory : Word → ℕ) (graph : Graph) (asking : ℕ → Asking) (represents : Represents config memory graph asking) (seats : HasNoMoreSeats config memory) where
  gone : Represents config (let_go config memory) graph asking
  gone = (letting_go_keeps config memory graph asking seats).represents represents

  whole : is_whole config memory ≡ true → IsWholePause config memory (finished config memory) graph asking
  whole whole_test =
      let both_tests = and_parts (is_room_for_all config (let_go config memory)) (nobody_waits config (finished config memory)) whole_test in
      let pause_there = whole_pause config (let_go config memory) graph asking gone (letting_go_leaves config memory) both_tests.0 both_tests.1 in
      record {
        paused = record { asked_then = pause_there.paused.asked_then; stands = pause_there.paused.stands; answers = pause_there.paused.answers; crowded = pause_there.paused.crowded };
        given_all = pause_there.given_all;
      }

  short_so : FallsShort config (let_go config memory) (finished config memory) graph asking
  short_so = ⊎_elim
      (λ (room : is_room_for_all config (let_go config memory) ≡ true). served_short config (let_go config memory) graph asking gone (letting_go_leaves config memory) room)
      (λ (no_room : is_room_for_all config (let_go config memory) ≡ false). copied_short config (let_go config memory) graph asking gone no_room)
      (cases_Bool (is_room_for_all config (let_go config memory)))

  short : ShortHolds config memory graph asking
  short = record { holds = short_so.holds; paused = paused_from config (let_go config memory) memory (full config (finished config memory)) graph asking short_so.paused }

pub whole_is_pause : WholeIsPause
whole_is_pause config memory graph asking represents seats whole_test = whole config memory graph asking represents seats whole_test

pub short_is_pause : ShortIsPause
short_is_pause config memory graph asking represents seats not_whole = short config memory graph asking represents seats

-- a region that is freed is free
freed_there : (config : Config) (memory : Word → ℕ) (region : ℕ) → region < config.regions → is_to_free config memory region ≡ true → IsFreed (set_freed config memory) region
freed_there config memory region inside to_free =
    record {
      is_free = free_is config (is_to_free config memory) (filled_in config (is_to_stay config memory) (has_moved memory) memory) region inside (inr to_free);
      top = top_out config (is_to_free config memory) (filled_in config (is_to_stay config memory) (has_moved memory) memory) region to_free;
      tams = tams_out config (is_to_free config memory) (filled_in config (is_to_stay config memory) (has_moved memory) memory) region to_free;
      limit = limit_out config (is_to_free config memory) (filled_in config (is_to_stay config memory) (has_moved memory) memory) region to_free;
    }

pub set_is_free : SetIsFree
set_is_free config memory graph asking represents room region inside member unpinned =
    let same_word : (word : Word) → (MayChange word → ⊥) → (IsOfBuffers word → ⊥) → all_copied config (let_go config memory) word ≡ memory word =
    λ word fixed not_buffers. all_copied_same config (let_go config memory) word fixed ∙ let_go_same word not_buffers config memory (seat_count config.mutators config.helpers) in
    let chosen : is_chosen (all_copied config (let_go config memory)) region ≡ true =
    chosen_if (all_copied config (let_go config memory)) region (subst (λ any_set. IsIn any_set region) (sym (same_word Cset (λ never. never) (λ never. never))) member) in
    let loose : is_pinned config (all_copied config (let_go config memory)) region ≡ false = same_pinned config memory (all_copied config (let_go config memory)) (λ mutator slot. same_word (Pin mutator slot) (λ never. never) (λ never. never)) region ∙ unpinned in
    let to_free : is_to_free config (all_updated config (all_copied config (let_go config memory))) region ≡ true =
    and_from (is_chosen (all_copied config (let_go config memory)) region) (not (is_pinned config (all_copied config (let_go config memory)) region)) chosen (not_from_false (is_pinned config (all_copied config (let_go config memory)) region) loose) in
    freed_there config (all_updated config (all_copied config (let_go config memory))) region inside to_free
