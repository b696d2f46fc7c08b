-- Lists of parts and of threads, from the last on.
use Rattle.std.proofs.Common.{◌≡◌, ℕ, zero, suc, ◌+◌, ◌-◌, ◌<◌, ◌≤◌, Bool, true, false, List, [], ◌∷◌, ◌++◌, length, Some, sym, ap, ◌∙◌, subst, arith}
use Rattle.std.specs.Prelude.{slice_get, MatchBool}
use Rattle.std.proofs.lemmas.Option.{slice_get_past}
use Rattle.shen_graph.proofs.Lists.{element_before, last_element, length_with}
use Rattle.table_heap.specs.declared.heap.Heap.{Heap}
use Rattle.trace_runs.specs.declared.parts.Part.{Part}
use Rattle.trace_runs.specs.declared.parts.Returned.{Returned}
use Rattle.trace_runs.specs.declared.threads.Thread.{Thread}
use Rattle.trace_runs.specs.DealtParts.{Assigned, PartHasEnded, IsGivenBack, PartIsReady, IsDone, AreReady}
use Rattle.trace_runs.specs.Started.{IsThread, AreThreads, AreSplit}
use Rattle.trace_runs.proofs.PartLaws.{ended_done}

-- an element of a list with one more
or_last : {A : Type 0} (P : ℕ → A → Type 0) (xs : List A) (y : A) → ((index : ℕ) (x : A) → slice_get xs index ≡ Some x → P index x) → P (length xs) y → (index : ℕ) (x : A) → slice_get (xs ++ y ∷ []) index ≡ Some x → P index x
or_last P [] y each_holds last_holds zero x element_there = subst (P 0) (let same_element : y ≡ x = cc in same_element) last_holds
or_last P [] y each_holds last_holds (suc index) x element_there = absurd (let same_element = sym (slice_get_past (y ∷ []) (suc index) (omega arith)) ∙ element_there in cc)
or_last P (z ∷ xs) y each_holds last_holds zero x element_there = each_holds 0 x element_there
or_last P (z ∷ xs) y each_holds last_holds (suc index) x element_there = or_last (λ place. P (suc place)) xs y (λ place element rest_there. each_holds (suc place) element rest_there) last_holds index x element_there

-- ---- parts

module _ (heap : Heap) (assigned : Assigned) (workers : ℕ) where
  -- the last part leaves
  pub others_ready : (old new : List Part) (part : Part) → old ≡ new ++ part ∷ [] → AreReady heap assigned workers old → AreReady heap assigned workers new
  others_ready old new part same_parts parts_ready index asked_part part_there = parts_ready index asked_part (ap (λ listed. slice_get listed index) same_parts ∙ element_before new (part ∷ []) index asked_part part_there)

  pub last_ready : (old new : List Part) (part : Part) → old ≡ new ++ part ∷ [] → AreReady heap assigned workers old → PartIsReady heap assigned workers (length new) (length new + 1) part
  last_ready old new part same_parts parts_ready = parts_ready (length new) part (ap (λ listed. slice_get listed (length new)) same_parts ∙ last_element new part)

  -- and comes
  pub more_ready : (old new : List Part) (part : Part) → new ≡ old ++ part ∷ [] → AreReady heap assigned workers old → PartIsReady heap assigned workers (length old) (length old + 1) part → AreReady heap assigned workers new
  more_ready old new part same_parts parts_ready last_part_ready index asked_part part_there = or_last (λ part_index part. PartIsReady heap assigned workers part_index (part_index + 1) part) old part parts_ready last_part_ready index asked_part (ap (λ listed. slice_get listed index) (sym same_parts) ∙ part_there)

  pub to_length : (old new : List Part) (part : Part) → old ≡ new ++ part ∷ [] → PartIsReady heap assigned workers (length new) (length new + 1) part → PartIsReady heap assigned workers (length new) (length old) part
  to_length old new part same_parts ready = subst (λ beyond. PartIsReady heap assigned workers (length new) beyond part) (sym (ap length same_parts ∙ length_with new part)) ready

  -- ---- threads

  pub others_run : (old new : List Thread) (thread : Thread) → old ≡ new ++ thread ∷ [] → AreThreads heap assigned workers old → AreThreads heap assigned workers new
  others_run old new thread same_threads run index asked_thread thread_there = run index asked_thread (ap (λ listed. slice_get listed index) same_threads ∙ element_before new (thread ∷ []) index asked_thread thread_there)

  pub last_runs : (old new : List Thread) (thread : Thread) → old ≡ new ++ thread ∷ [] → AreThreads heap assigned workers old → IsThread heap assigned workers (workers - length old) thread
  last_runs old new thread same_threads run = subst (λ worker. IsThread heap assigned workers (workers - worker) thread) (sym (ap length same_threads ∙ length_with new thread)) (run (length new) thread (ap (λ listed. slice_get listed (length new)) same_threads ∙ last_element new thread))

  -- one more thread, for the last part that was here
  pub more_run : (old new : List Thread) (thread : Thread) (worker : ℕ) → new ≡ old ++ thread ∷ [] → worker + length old + 1 ≡ workers → AreThreads heap assigned workers old → IsThread heap assigned workers worker thread → AreThreads heap assigned workers new
  more_run old new thread worker same_threads count run last_thread index asked_thread thread_there =
      or_last (λ worker_index found_thread. IsThread heap assigned workers (workers - (worker_index + 1)) found_thread) old thread run (subst (λ worker_index. IsThread heap assigned workers worker_index thread) (let same_worker : worker ≡ workers - (length old + 1) = omega arith in same_worker) last_thread) index asked_thread (ap (λ listed. slice_get listed index) (sym same_threads) ∙ thread_there)

-- ---- what comes back

pub ran_already : (heap : Heap) (assigned : Assigned) (workers start beyond : ℕ) (given_part : Part) (returned : Returned) → start ≤ beyond → PartIsReady heap assigned workers start beyond given_part → IsGivenBack given_part returned → returned.ran ≡ true → IsDone heap assigned workers start beyond returned.part
ran_already heap assigned workers start beyond given_part returned start_before ready part_kept ran = ended_done heap assigned workers start beyond given_part returned.part start_before ready (by_ran returned.ran ran part_kept)
  where
    by_ran : (holds : Bool) → holds ≡ true → MatchBool holds (PartHasEnded given_part returned.part) (returned.part ≡ given_part) → PartHasEnded given_part returned.part
    by_ran true tested given_back = given_back
    by_ran false tested given_back = absurd cc

pub as_given : (given_part : Part) (returned : Returned) → IsGivenBack given_part returned → returned.ran ≡ false → returned.part ≡ given_part
as_given given_part returned part_kept ran = by_ran returned.ran ran part_kept
  where
    by_ran : (holds : Bool) → holds ≡ false → MatchBool holds (PartHasEnded given_part returned.part) (returned.part ≡ given_part) → returned.part ≡ given_part
    by_ran true tested given_back = absurd cc
    by_ran false tested given_back = given_back

-- ---- parts here, and threads for the others

module _ (heap : Heap) (assigned : Assigned) where
  pub first_split : (parts : List Part) (threads : List Thread) → 0 < length parts → threads ≡ [] → AreReady heap assigned (length parts) parts → AreSplit heap assigned (length parts) parts threads
  first_split parts threads some_part no_threads parts_ready = record {
    some = some_part;
    count = omega (arith, ap length no_threads);
    here = parts_ready;
    there = λ index thread thread_there. absurd (let same_option = sym (slice_get_past [] index (omega arith)) ∙ (ap (λ listed. slice_get listed index) (sym no_threads) ∙ thread_there) in cc);
  }

  pub next_split : (workers : ℕ) (old new : List Part) (part : Part) (threads more_threads : List Thread) (thread : Thread) → 1 < length old → old ≡ new ++ part ∷ [] → more_threads ≡ threads ++ thread ∷ []
      → IsThread heap assigned workers (length new) thread → AreSplit heap assigned workers old threads → AreSplit heap assigned workers new more_threads
  next_split workers old new part threads more_threads thread two_parts same_parts grown run split = record {
    some = omega (arith, two_parts, ap length same_parts, length_with new part);
    count = omega (arith, split.count, ap length same_parts, length_with new part, ap length grown, length_with threads thread);
    here = others_ready heap assigned workers old new part same_parts split.here;
    there = more_run heap assigned workers threads more_threads thread (length new) grown (omega (arith, split.count, ap length same_parts, length_with new part)) split.there run;
  }

  -- the part that came back
  pub same_split : (workers : ℕ) (old new returned_parts : List Part) (part came_part : Part) (threads : List Thread) → old ≡ new ++ part ∷ [] → returned_parts ≡ new ++ came_part ∷ [] → came_part ≡ part → AreSplit heap assigned workers old threads → AreSplit heap assigned workers returned_parts threads
  same_split workers old new returned_parts part came_part threads same_parts grown same_part split = subst (λ listed. AreSplit heap assigned workers listed threads) (same_parts ∙ ap (λ (part : Part). new ++ part ∷ []) (sym same_part) ∙ sym grown) split
