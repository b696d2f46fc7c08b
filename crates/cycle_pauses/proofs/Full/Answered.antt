-- What each mutator has been answered after a full collection.
use Rattle.std.proofs.Common.{◌≡◌, ◌≢◌, ℕ, ◌+◌, ◌<◌, ◌≤◌, ◌==◌, None, ⊎_elim, refl, sym, ap, ◌∙◌, subst, arith}
use Rattle.std.proofs.lemmas.Bool.{cond-true, cond-false, cases_eq, eq-eqb, ne_eqb}
use Rattle.std.proofs.lemmas.Option.{none-some}
use Rattle.heap_words.specs.declared.config.Config.{Config}
use Rattle.heap_words.specs.Words.{Word, Phase, Cset, Evac, Claim, Tams, Limit, Current, Count, Buffer, Wait, Answer, Grey, Black, Share}
use Rattle.heap_words.specs.Encoding.{request_shape_in, refs_in, nums_in}
use Rattle.shen_graph.specs.Graph.{Graph, fresh}
use Rattle.heap_world.specs.World.{no_ghost, hand, carved}
use Rattle.heap_world.specs.Asking.{Asking, nothing, asks, refused, given, IsAsked}
use Rattle.heap_world.specs.Represents.{Represents, RepresentsByCopies}
use Rattle.heap_world.specs.Change.{Answers}
use Rattle.image_graph.specs.LetGo.{HasNoBuffers}
use Rattle.image_graph.specs.Full.{packed_in, full_from}
use Rattle.image_graph.specs.Promised.{Promises}
use Rattle.image_graph.specs.Serving.{served_promises}
use Rattle.cycle_pauses.proofs.Full.Promises.{promised_ref, promised_refs, promised_nums, promises_of, ref_of, refs_of, nums_of}
use Rattle.cycle_pauses.proofs.Full.Holding.{request_reads, waits_for}
use Rattle.image_graph.proofs.PromisesAfterTurns.{SamePromise, IsPromisedAsAsked, promise_after}
use Rattle.cycle_pauses.proofs.Full.After.{gone, no_room, shared_facts, roots_left, roots_usable}
use Rattle.cycle_pauses.proofs.Full.Made.{promised_if_some, some_if_promised, no_promise, promise}
use Rattle.image_graph.proofs.Still.{full_phase, full_cset, full_evac, full_current, full_share, full_wait, packed_wait}
use Rattle.cycle_pauses.proofs.Full.SameGraph.{then_of, packed_answer, asked_then, plot, is_after, plot_then, answer_left, answer_found}

-- an asking is answered as it should be
pub is_answer : (asking : Asking) (answer : ℕ) → Answers asking (then_of asking answer)
is_answer nothing answer = tt
is_answer (asks refs nums) answer = ⊎_elim
    (λ (answer_one : answer ≡ 1). subst (Answers (asks refs nums)) (sym (cond-true (answer == 1) refused (given refs nums) (eq-eqb answer 1 answer_one))) tt)
    (λ (other_answer : answer ≢ 1). subst (Answers (asks refs nums)) (sym (cond-false (answer == 1) refused (given refs nums) (ne_eqb answer 1 other_answer))) (refl, refl))
    (cases_eq answer 1)
is_answer refused answer = tt
is_answer (given refs nums) answer = (refl, refl)

-- and asks no more
nobody_asks : (asking : Asking) (answer refs nums : ℕ) → then_of asking answer ≡ asks refs nums → ⊥
nobody_asks nothing answer refs nums asks_then = cc
nobody_asks (asks asked_refs asked_nums) answer refs nums asks_then = ⊎_elim
    (λ (answer_one : answer ≡ 1). let answered : refused ≡ asks refs nums = sym (cond-true (answer == 1) refused (given asked_refs asked_nums) (eq-eqb answer 1 answer_one)) ∙ asks_then in cc)
    (λ (other_answer : answer ≢ 1). let answered : given asked_refs asked_nums ≡ asks refs nums = sym (cond-false (answer == 1) refused (given asked_refs asked_nums) (ne_eqb answer 1 other_answer)) ∙ asks_then in cc)
    (cases_eq answer 1)
nobody_asks refused answer refs nums asks_then = cc
nobody_asks (given asked_refs asked_nums) answer refs nums asks_then = cc

module _ (config : Config) (memory : Word → ℕ) (graph : Graph) (asking : ℕ → Asking) (represents_by_copies : RepresentsByCopies config memory graph asking) (bare : HasNoBuffers config memory) where
  abbrev promises : Promises
  promises = promises_of config graph asking

  abbrev promises_then : Promises
  promises_then = served_promises config (packed_in config memory) promises config.mutators

  -- who keeps an answer that is no address
  keeps_answer : (mutator : ℕ) → mutator < config.mutators → memory (Wait mutator) ≡ 0 → memory (Answer mutator) ≤ 1 → full_from config memory (Answer mutator) ≡ memory (Answer mutator)
  keeps_answer mutator inside idle no_answer = answer_left config memory graph asking represents_by_copies mutator inside idle ∙ packed_answer config memory mutator no_answer

  -- what is promised to who did not wait is what was
  same_promise : (mutator : ℕ) → memory (Wait mutator) ≡ 0 → SamePromise promises promises_then (mutator + 1)
  same_promise mutator idle = ⊎_elim
      (λ (kept_promise : SamePromise promises promises_then (mutator + 1)). kept_promise)
      (λ (new : IsPromisedAsAsked (packed_in config memory) promises_then mutator). absurd (new.waits (packed_wait config memory mutator ∙ idle)))
      (promise_after config (packed_in config memory) promises mutator config.mutators)

  -- and to who was given an object, what it asked for
  new_promise : (mutator refs nums : ℕ) → mutator < config.mutators → asking mutator ≡ asks refs nums → 1 < full_from config memory (Answer mutator) → IsPromisedAsAsked (packed_in config memory) promises_then mutator
  new_promise mutator refs nums inside asked_before some_answer = ⊎_elim
      (λ (kept_promise : SamePromise promises promises_then (mutator + 1)).
      let nothing_promised : promises_then.ref (mutator + 1) ≡ None = kept_promise.ref ∙ ref_of config graph asking mutator inside ∙ ap (promised_ref graph (mutator + 1)) asked_before in
      let promised_one = promised_if_some config (full_from config memory) (plot config memory graph asking represents_by_copies) graph promises_then (is_after config memory graph asking represents_by_copies bare) mutator inside some_answer in
      absurd (none-some promised_one.0 (sym nothing_promised ∙ promised_one.1)))
      (λ (new : IsPromisedAsAsked (packed_in config memory) promises_then mutator). new)
      (promise_after config (packed_in config memory) promises mutator config.mutators)

  -- an object that was promised is promised still
  still_given : (mutator refs nums : ℕ) → mutator < config.mutators → asking mutator ≡ given refs nums → memory (Wait mutator) ≡ 0 → 1 < full_from config memory (Answer mutator)
  still_given mutator refs nums inside given_before idle =
      some_if_promised config (full_from config memory) (plot config memory graph asking represents_by_copies) graph promises_then (is_after config memory graph asking represents_by_copies bare) mutator (fresh graph (mutator + 1)) inside
      ((same_promise mutator idle).ref ∙ ref_of config graph asking mutator inside ∙ ap (promised_ref graph (mutator + 1)) given_before)

  -- what words, pieces and counts say of a mutator then
  asked_by : (mutator : ℕ) (known_asking : Asking) → mutator < config.mutators → asking mutator ≡ known_asking → IsAsked memory represents_by_copies.block graph.count mutator known_asking
      → IsAsked (full_from config memory) (plot_then config memory graph asking represents_by_copies bare) graph.count mutator (then_of known_asking (full_from config memory (Answer mutator)))
  asked_by mutator nothing inside same_asking asked =
      let answer = keeps_answer mutator inside asked.0 (omega (arith, asked.1)) ∙ asked.1 in
      (full_wait config memory mutator, answer, no_promise config (full_from config memory) (plot config memory graph asking represents_by_copies) graph promises_then (is_after config memory graph asking represents_by_copies bare) mutator inside (omega (arith, answer)))
  asked_by mutator refused inside same_asking asked =
      let answer = keeps_answer mutator inside asked.0 (omega (arith, asked.1)) ∙ asked.1 in
      (full_wait config memory mutator, answer, no_promise config (full_from config memory) (plot config memory graph asking represents_by_copies) graph promises_then (is_after config memory graph asking represents_by_copies bare) mutator inside (omega (arith, answer)))
  asked_by mutator (given refs nums) inside same_asking asked =
      let some_answer = still_given mutator refs nums inside same_asking asked.0 in
      let kept_promise = same_promise mutator asked.0 in (
        full_wait config memory mutator,
        some_answer,
        promise config (full_from config memory) (plot config memory graph asking represents_by_copies) graph promises_then (is_after config memory graph asking represents_by_copies bare) mutator refs nums inside some_answer
            (kept_promise.refs ∙ refs_of config graph asking mutator ∙ ap promised_refs same_asking) (kept_promise.nums ∙ nums_of config graph asking mutator ∙ ap promised_nums same_asking)
            asked.2.few_refs asked.2.few_nums asked.2.few,
      )
  asked_by mutator (asks refs nums) inside same_asking asked =
      let request = asked.0 in
      let reads = request_reads memory graph.count mutator refs nums request in
      ⊎_elim
      (λ (some_answer : 1 < full_from config memory (Answer mutator)).
      let new = new_promise mutator refs nums inside same_asking some_answer in
      let word = packed_wait config memory mutator in
      let refs_same : promises_then.refs (mutator + 1) ≡ refs = new.refs ∙ ap (λ wait. refs_in (request_shape_in wait)) word ∙ reads.refs_are in
      let nums_same : promises_then.nums (mutator + 1) ≡ nums = new.nums ∙ ap (λ wait. nums_in (request_shape_in wait)) word ∙ reads.nums_are in
      let object_there = promise config (full_from config memory) (plot config memory graph asking represents_by_copies) graph promises_then (is_after config memory graph asking represents_by_copies bare) mutator refs nums inside some_answer refs_same nums_same request.few_refs request.few_nums request.few in
      subst (IsAsked (full_from config memory) (plot_then config memory graph asking represents_by_copies bare) graph.count mutator)
      (sym (cond-false (full_from config memory (Answer mutator) == 1) refused (given refs nums) (ne_eqb (full_from config memory (Answer mutator)) 1 (λ e. omega (arith, e, some_answer)))))
      (full_wait config memory mutator, some_answer, object_there))
      (λ (answer_one : full_from config memory (Answer mutator) ≡ 1).
      subst (IsAsked (full_from config memory) (plot_then config memory graph asking represents_by_copies bare) graph.count mutator)
      (sym (cond-true (full_from config memory (Answer mutator) == 1) refused (given refs nums) (eq-eqb (full_from config memory (Answer mutator)) 1 answer_one)))
      (full_wait config memory mutator, answer_one, no_promise config (full_from config memory) (plot config memory graph asking represents_by_copies) graph promises_then (is_after config memory graph asking represents_by_copies bare) mutator inside (omega (arith, answer_one))))
      (answer_found config memory graph asking represents_by_copies mutator inside (waits_for memory graph.count mutator refs nums request))

  -- the words represent the graph again
  pub represents_again : Represents config (full_from config memory) graph (asked_then config memory graph asking represents_by_copies)
  represents_again =
      let facts = is_after config memory graph asking represents_by_copies bare in
      record {
        block = plot_then config memory graph asking represents_by_copies bare;
        ghost = no_ghost;
        shared = shared_facts config (full_from config memory) (plot config memory graph asking represents_by_copies) graph promises_then facts (full_from config memory Phase) (full_from config memory Cset) (full_from config memory Evac) (full_from config memory Claim) (λ seat. full_from config memory (Current seat))
            (λ number. full_from config memory (Grey number)) (λ number. full_from config memory (Black number)) (λ mutator. full_from config memory (Count mutator)) (λ mutator entry. full_from config memory (Buffer mutator entry)) (λ region. full_from config memory (Tams region)) (λ region. full_from config memory (Limit region)) (full_from config memory Share)
            (full_phase config memory) (full_cset config memory) (full_evac config memory) (full_current config memory) (full_share config memory);
        roots = roots_left config (full_from config memory) (plot config memory graph asking represents_by_copies) graph promises_then facts;
        usable = roots_usable config (full_from config memory) (plot config memory graph asking represents_by_copies) graph promises_then facts (full_from config memory Cset) (full_from config memory Evac) (full_cset config memory);
        none = λ place seat words piece_there. no_room config (full_from config memory) (plot config memory graph asking represents_by_copies) graph promises_then facts place seat (hand seat words) piece_there refl;
        uncarved = λ address seat words piece_there. no_room config (full_from config memory) (plot config memory graph asking represents_by_copies) graph promises_then facts address seat (carved seat words) piece_there refl;
        asked = λ mutator inside. asked_by mutator (asking mutator) inside refl (represents_by_copies.asked mutator inside);
        promised_to = λ place seat words piece_there.
            let promised_thing = gone config (full_from config memory) (plot config memory graph asking represents_by_copies) graph promises_then facts place seat words piece_there in
            let promised_name = facts.stands.rooted.no_more_promised promised_thing.name.thread promised_thing.name promised_thing.named in
            omega (arith, promised_thing.seat_is, promised_name.1, promised_name.2);
        heard = λ mutator refs nums inside piece_there. absurd (nobody_asks (asking mutator) (full_from config memory (Answer mutator)) refs nums piece_there);
        unmarking = record { records_none = λ thread inside. refl; scans_none = λ seat inside. refl };
        uncopying = record { copies_none = λ seat inside. refl; works_none = λ seat inside. refl };
        no_more = represents_by_copies.no_more;
        no_more_pins = represents_by_copies.no_more_pins;
      }
