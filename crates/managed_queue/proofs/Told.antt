-- What the takers of the workload got: the numbers that were put, so as many, and of the same sum.
use Rattle.std.proofs.Common.{ℕ, zero, suc, ◌≡◌, ◌+◌, ◌*◌, ◌<◌, ◌≤◌, Bool, true, false, List, [], ◌∷◌, ◌++◌, length, sum, Some, None, refl, sym, ap, ◌∙◌, arith, append-nil, length-append, sum_by}
use Rattle.std.specs.Prelude.{◌≢◌, ◌==◌, ◌&&◌, ◌||◌, if◌then◌else◌}
use Rattle.std.specs.List.{range_with_len}
use Rattle.std.proofs.Math.Nat.{add-mul, mul-add}
use Rattle.std.proofs.lemmas.List.Elements.{All-filter, All-head, All-tail}
use Rattle.std.proofs.lemmas.List.FromFn.{length-range_with_len}
use Rattle.std.proofs.lemmas.List.Sums.{sum_by-cons, sum_by-append}
use Rattle.shen_graph.specs.declared.command.Reply.TheVariants as reply
use Rattle.shen_graph.specs.History.{Entry, of_thread, IsWithoutFull}
use Rattle.managed_queue.specs.declared.spot.Spot.{Spot}
use Rattle.managed_queue.specs.declared.spot.Spot.TheVariants.{MakesAnchor, Joins, Rests}
use Rattle.managed_queue.specs.Spots.{Operation, open_at}
use Rattle.managed_queue.specs.Spots.Operation.{put, got, empty, full}
use Rattle.managed_queue.specs.Queue.{puts_of, gots_of, fixed, fixed_in, ended_in, spot_after, entry_spot, IsOfQueue}
use Rattle.managed_queue.specs.Users.{Use, next_of, used, is_rest, left_in_plan, command_of, IsDriven, use_after, TookInAll, DidPut}
use Rattle.managed_queue.specs.Workload.{queue_user, IsQueueRun, got_in, TellsQueue, QueueRunsTell}
use Rattle.managed_queue.proofs.Driven.{going, used_is, users_play, takers_take, putters_put, not_refused}
use Rattle.managed_queue.proofs.Playing.{every_history}
use Rattle.managed_queue.proofs.Refusals.{threads_are, none_is_refused, all_played}
use Rattle.managed_queue.proofs.Shares.{fixed_are_shared}

-- ---- sums of numbers in a row

sum_cons : (x : ℕ) (xs : List ℕ) → sum (x ∷ xs) ≡ x + sum xs
sum_cons x xs = sum_by-cons (λ y. y) x xs

one_more : (start n : ℕ) → sum (range_with_len start (suc n)) ≡ sum (range_with_len start n) + (start + n)
one_more start zero = let first_sum : sum (range_with_len start 1) ≡ start + 0 = sum_cons start [] in let empty_sum : sum (range_with_len start 0) ≡ 0 = refl in omega (arith, first_sum, empty_sum)
one_more start (suc n) =
    let later : sum (range_with_len (start + 1) (suc n)) ≡ sum (range_with_len (start + 1) n) + (start + 1 + n) = one_more (start + 1) n in
    let first_sum : sum (range_with_len start (suc (suc n))) ≡ start + sum (range_with_len (start + 1) (suc n)) = sum_cons start (range_with_len (start + 1) (suc n)) in
    let shorter : sum (range_with_len start (suc n)) ≡ start + sum (range_with_len (start + 1) n) = sum_cons start (range_with_len (start + 1) n) in
    omega (arith, later, first_sum, shorter)

-- n (n + 1) grows by twice the next number
grows : (n : ℕ) → (n + 1) * (n + 1 + 1) ≡ n * (n + 1) + 2 * (n + 1)
grows n =
    let outer = add-mul n 1 (n + 1 + 1) in
    let inner = mul-add n (n + 1) 1 in
    omega (arith, outer, inner)

both_rows : (n : ℕ) → sum (range_with_len 1000001 n) + sum (range_with_len 2000001 n) ≡ 3000000 * n + n * (n + 1)
both_rows zero = refl
both_rows (suc n) =
    let next_number : suc n ≡ n + 1 = omega arith in
    let first_row = one_more 1000001 n in
    let second_sum = one_more 2000001 n in
    let square : suc n * (suc n + 1) ≡ n * (n + 1) + 2 * (n + 1) = ap (λ k. k * (k + 1)) next_number ∙ grows n in
    let fewer_rows = both_rows n in
    omega (arith, first_row, second_sum, square, fewer_rows)

-- ---- operations by their numbers

-- what the number of a put or of a take weighs, and 0 of another operation
abbrev put_weight : (ℕ → ℕ) → Operation → ℕ
put_weight weight (put value) = weight value
put_weight weight _ = 0

abbrev got_weight : (ℕ → ℕ) → Operation → ℕ
got_weight weight (got value) = weight value
got_weight weight _ = 0

module _ (weight : ℕ → ℕ) where
  puts_weigh : (operations : List Operation) → sum_by (put_weight weight) operations ≡ sum_by weight (puts_of operations)
  puts_weigh [] = refl
  puts_weigh (put value ∷ operations) =
      let first_weight : sum_by (put_weight weight) (put value ∷ operations) ≡ weight value + sum_by (put_weight weight) operations = sum_by-cons (put_weight weight) (put value) operations in
      let total_weight : sum_by weight (puts_of (put value ∷ operations)) ≡ weight value + sum_by weight (puts_of operations) = sum_by-cons weight value (puts_of operations) in
      let later = puts_weigh operations in
      omega (arith, first_weight, total_weight, later)
  puts_weigh (got value ∷ operations) =
      let first_weight : sum_by (put_weight weight) (got value ∷ operations) ≡ 0 + sum_by (put_weight weight) operations = sum_by-cons (put_weight weight) (got value) operations in
      let total_weight : sum_by weight (puts_of (got value ∷ operations)) ≡ sum_by weight (puts_of operations) = refl in
      let later = puts_weigh operations in
      omega (arith, first_weight, total_weight, later)
  puts_weigh (empty ∷ operations) =
      let first_weight : sum_by (put_weight weight) (empty ∷ operations) ≡ 0 + sum_by (put_weight weight) operations = sum_by-cons (put_weight weight) (empty) operations in
      let total_weight : sum_by weight (puts_of (empty ∷ operations)) ≡ sum_by weight (puts_of operations) = refl in
      let later = puts_weigh operations in
      omega (arith, first_weight, total_weight, later)
  puts_weigh (full ∷ operations) =
      let first_weight : sum_by (put_weight weight) (full ∷ operations) ≡ 0 + sum_by (put_weight weight) operations = sum_by-cons (put_weight weight) (full) operations in
      let total_weight : sum_by weight (puts_of (full ∷ operations)) ≡ sum_by weight (puts_of operations) = refl in
      let later = puts_weigh operations in
      omega (arith, first_weight, total_weight, later)

  gots_weigh : (operations : List Operation) → sum_by (got_weight weight) operations ≡ sum_by weight (gots_of operations)
  gots_weigh [] = refl
  gots_weigh (put value ∷ operations) =
      let first_weight : sum_by (got_weight weight) (put value ∷ operations) ≡ 0 + sum_by (got_weight weight) operations = sum_by-cons (got_weight weight) (put value) operations in
      let total_weight : sum_by weight (gots_of (put value ∷ operations)) ≡ sum_by weight (gots_of operations) = refl in
      let later = gots_weigh operations in
      omega (arith, first_weight, total_weight, later)
  gots_weigh (got value ∷ operations) =
      let first_weight : sum_by (got_weight weight) (got value ∷ operations) ≡ weight value + sum_by (got_weight weight) operations = sum_by-cons (got_weight weight) (got value) operations in
      let total_weight : sum_by weight (gots_of (got value ∷ operations)) ≡ weight value + sum_by weight (gots_of operations) = sum_by-cons weight value (gots_of operations) in
      let later = gots_weigh operations in
      omega (arith, first_weight, total_weight, later)
  gots_weigh (empty ∷ operations) =
      let first_weight : sum_by (got_weight weight) (empty ∷ operations) ≡ 0 + sum_by (got_weight weight) operations = sum_by-cons (got_weight weight) (empty) operations in
      let total_weight : sum_by weight (gots_of (empty ∷ operations)) ≡ sum_by weight (gots_of operations) = refl in
      let later = gots_weigh operations in
      omega (arith, first_weight, total_weight, later)
  gots_weigh (full ∷ operations) =
      let first_weight : sum_by (got_weight weight) (full ∷ operations) ≡ 0 + sum_by (got_weight weight) operations = sum_by-cons (got_weight weight) (full) operations in
      let total_weight : sum_by weight (gots_of (full ∷ operations)) ≡ sum_by weight (gots_of operations) = refl in
      let later = gots_weigh operations in
      omega (arith, first_weight, total_weight, later)

-- how many numbers there are
ones_long : (xs : List ℕ) → sum_by (λ x. 1) xs ≡ length xs
ones_long [] = refl
ones_long (x ∷ xs) =
    let first_sum : sum_by (λ (y : ℕ). 1) (x ∷ xs) ≡ 1 + sum_by (λ y. 1) xs = sum_by-cons (λ y. 1) x xs in
    let whole_length : length (x ∷ xs) ≡ suc (length xs) = refl in
    let later = ones_long xs in
    omega (arith, first_sum, whole_length, later)

puts_count : (operations : List Operation) → sum_by (put_weight (λ x. 1)) operations ≡ length (puts_of operations)
puts_count operations = puts_weigh (λ x. 1) operations ∙ ones_long (puts_of operations)

gots_count : (operations : List Operation) → sum_by (got_weight (λ x. 1)) operations ≡ length (gots_of operations)
gots_count operations = gots_weigh (λ x. 1) operations ∙ ones_long (gots_of operations)

-- the operations of all are those of the four
four_terms : (f : ℕ → ℕ) → sum_by f (range_with_len 1 4) ≡ f 1 + (f 2 + (f 3 + f 4))
four_terms f = omega (arith, sum_by-cons f 1 (2 ∷ 3 ∷ 4 ∷ []), sum_by-cons f 2 (3 ∷ 4 ∷ []), sum_by-cons f 3 (4 ∷ []), sum_by-cons f 4 [])

-- ---- a user that has come to its end

never_refused : (user : Use) (entries : List Entry) → user.refused ≡ false → IsWithoutFull entries → IsDriven user entries → (use_after user entries).refused ≡ false
never_refused user [] fine without_full driven = fine
never_refused user (first_entry ∷ entries) fine without_full driven =
    let user_goes = going user first_entry.command driven.0 in
    let first_not_full = All-head (λ (entry : Entry). entry.reply ≢ reply.Full) first_entry entries without_full in
    let still_not_refused : (used user first_entry.reply).refused ≡ false = ap (λ x. x.refused) (used_is user first_entry.reply user_goes.on) ∙ not_refused (command_of user) first_entry.reply first_not_full in
    never_refused (used user first_entry.reply) entries still_not_refused (All-tail (λ (entry : Entry). entry.reply ≢ reply.Full) first_entry entries without_full) driven.1

rests_at : (spot : Spot) → is_rest spot ≡ true → open_at spot ≡ []
rests_at Rests spot_rests = refl
rests_at _ spot_rests = absurd cc

at_end : (user : Use) → user.refused ≡ false → next_of user ≡ None → is_rest user.spot ≡ true
at_end user fine user_ended = by_tests (is_rest user.spot) (left_in_plan user.plan == 0) (ap (λ failed. if failed || (is_rest user.spot && (left_in_plan user.plan == 0)) then None else Some (command_of user)) (sym fine) ∙ user_ended)
  where
    by_tests : (holds other_holds : Bool) → (if false || (holds && other_holds) then None else Some (command_of user)) ≡ None → holds ≡ true
    by_tests true other_holds none_next = refl
    by_tests false other_holds none_next = let never : Some (command_of user) ≡ None = none_next in absurd cc

module _ (count : ℕ) (history : List Entry) (small_count : count ≤ 390) (run : IsQueueRun count history) where
  abbrev entries : ℕ → List Entry
  entries index = of_thread history (index + 1)

  given : (index : ℕ) → IsWithoutFull (entries index)
  given index = All-filter (λ any_event. any_event.thread == (index + 1)) (λ any_event. any_event.reply ≢ reply.Full) history (none_is_refused count history small_count run)

  of_queue : IsOfQueue history
  of_queue =
      let legal_events = run.legal.each in
      every_history 16 256 (length run.scripts) history (let thread_count = run.threads in omega (arith, thread_count)) legal_events (all_played count history small_count run)

  -- what a user has ended is what took effect
  all_ended : (index : ℕ) → index < 4 → (queue_user count index).refused ≡ false → (queue_user count index).spot ≡ entry_spot (index + 1) → fixed_in (entry_spot (index + 1)) (entries index) ≡ ended_in (entry_spot (index + 1)) (entries index)
  all_ended index index_below fine spot =
      let user = queue_user count index in
      let plays = users_play user (entries index) fine (given index) (run.driven index index_below) in
      let spot_after_entries : spot_after (entry_spot (index + 1)) (entries index) ≡ (use_after user (entries index)).spot = ap (λ any_spot. spot_after any_spot (entries index)) (sym spot) ∙ plays.1 in
      let rests = at_end (use_after user (entries index)) (never_refused user (entries index) fine (given index) (run.driven index index_below)) (run.ended index index_below) in
      of_queue.replies (index + 1) ∙ ap (λ any_spot. ended_in (entry_spot (index + 1)) (entries index) ++ open_at any_spot) spot_after_entries
      ∙ ap (λ operations. ended_in (entry_spot (index + 1)) (entries index) ++ operations) (rests_at (use_after user (entries index)).spot rests) ∙ append-nil (ended_in (entry_spot (index + 1)) (entries index))

  shared : (weight : Operation → ℕ) → sum_by weight (fixed entry_spot history)
      ≡ sum_by weight (ended_in MakesAnchor (entries 0)) + (sum_by weight (ended_in Joins (entries 1)) + (sum_by weight (ended_in Joins (entries 2)) + sum_by weight (ended_in Joins (entries 3))))
  shared weight =
      let sum_shared : sum_by weight (fixed entry_spot history) ≡ sum_by (λ thread. sum_by weight (fixed_in (entry_spot thread) (of_thread history thread))) (range_with_len 1 4) =
      fixed_are_shared weight 4 history (threads_are count history small_count run) in
      let four : sum_by (λ thread. sum_by weight (fixed_in (entry_spot thread) (of_thread history thread))) (range_with_len 1 4)
      ≡ sum_by weight (fixed_in MakesAnchor (entries 0)) + (sum_by weight (fixed_in Joins (entries 1)) + (sum_by weight (fixed_in Joins (entries 2)) + sum_by weight (fixed_in Joins (entries 3)))) =
      four_terms (λ thread. sum_by weight (fixed_in (entry_spot thread) (of_thread history thread))) in
      let first_sum : sum_by weight (fixed_in MakesAnchor (entries 0)) ≡ sum_by weight (ended_in MakesAnchor (entries 0)) = ap (sum_by weight) (all_ended 0 (omega arith) refl refl) in
      let second_sum : sum_by weight (fixed_in Joins (entries 1)) ≡ sum_by weight (ended_in Joins (entries 1)) = ap (sum_by weight) (all_ended 1 (omega arith) refl refl) in
      let third_sum : sum_by weight (fixed_in Joins (entries 2)) ≡ sum_by weight (ended_in Joins (entries 2)) = ap (sum_by weight) (all_ended 2 (omega arith) refl refl) in
      let fourth_sum : sum_by weight (fixed_in Joins (entries 3)) ≡ sum_by weight (ended_in Joins (entries 3)) = ap (sum_by weight) (all_ended 3 (omega arith) refl refl) in
      omega (arith, sum_shared, four, first_sum, second_sum, third_sum, fourth_sum)

  first_put : DidPut true 1000001 count (entries 0)
  first_put = putters_put true 1000001 count (entries 0) (given 0) (run.driven 0 (omega arith))

  second_put : DidPut false 2000001 count (entries 1)
  second_put = putters_put false 2000001 count (entries 1) (given 1) (run.driven 1 (omega arith))

  third_took : TookInAll count (entries 2)
  third_took = takers_take count (entries 2) (given 2) (run.driven 2 (omega arith))

  fourth_took : TookInAll count (entries 3)
  fourth_took = takers_take count (entries 3) (given 3) (run.driven 3 (omega arith))

  puts_first : puts_of (ended_in MakesAnchor (entries 0)) ≡ range_with_len 1000001 count
  puts_first = sym (append-nil _) ∙ ap (λ rest. puts_of (ended_in MakesAnchor (entries 0)) ++ rest) (sym (first_put.all (run.ended 0 (omega arith)))) ∙ first_put.puts

  puts_second : puts_of (ended_in Joins (entries 1)) ≡ range_with_len 2000001 count
  puts_second = sym (append-nil _) ∙ ap (λ rest. puts_of (ended_in Joins (entries 1)) ++ rest) (sym (second_put.all (run.ended 1 (omega arith)))) ∙ second_put.puts

  third_all : length (gots_of (ended_in Joins (entries 2))) ≡ count
  third_all = third_took.all (run.ended 2 (omega arith))

  fourth_all : length (gots_of (ended_in Joins (entries 3))) ≡ count
  fourth_all = fourth_took.all (run.ended 3 (omega arith))

  none_long : (xs : List ℕ) → length xs ≡ 0 → xs ≡ []
  none_long [] no_length = refl
  none_long (x ∷ xs) no_length = absurd (omega (arith, no_length))

  -- all that was put was got, and nobody but the takers got any
  record AllGot : Type 0 where
    left : of_queue.left ≡ []
    first : gots_of (ended_in MakesAnchor (entries 0)) ≡ []
    second : gots_of (ended_in Joins (entries 1)) ≡ []

  all_got : AllGot
  all_got =
      let fixed_all = fixed entry_spot history in
      let order = ap (length {A = ℕ}) of_queue.order ∙ length-append (gots_of fixed_all) of_queue.left in
      let puts = puts_count fixed_all in
      let gots = gots_count fixed_all in
      let puts_are = shared (put_weight (λ x. 1)) in
      let gots_are = shared (got_weight (λ x. 1)) in
      let first_puts = puts_count (ended_in MakesAnchor (entries 0)) in
      let second_puts = puts_count (ended_in Joins (entries 1)) in
      let third_puts = puts_count (ended_in Joins (entries 2)) in
      let fourth_puts = puts_count (ended_in Joins (entries 3)) in
      let first_gots = gots_count (ended_in MakesAnchor (entries 0)) in
      let second_gots = gots_count (ended_in Joins (entries 1)) in
      let third_gots = gots_count (ended_in Joins (entries 2)) in
      let fourth_gots = gots_count (ended_in Joins (entries 3)) in
      let first_numbers = ap (length {A = ℕ}) puts_first ∙ length-range_with_len 1000001 count in
      let second_numbers = ap (length {A = ℕ}) puts_second ∙ length-range_with_len 2000001 count in
      let third_none : length (puts_of (ended_in Joins (entries 2))) ≡ 0 = ap (length {A = ℕ}) third_took.no_put in
      let fourth_none : length (puts_of (ended_in Joins (entries 3))) ≡ 0 = ap (length {A = ℕ}) fourth_took.no_put in
      let third_got = third_all in
      let fourth_got = fourth_all in
      record {
        left = none_long of_queue.left (omega (arith, order, puts, gots, puts_are, gots_are, first_puts, second_puts, third_puts, fourth_puts, first_gots, second_gots, third_gots, fourth_gots, first_numbers, second_numbers, third_none, fourth_none, third_got, fourth_got));
        first = none_long (gots_of (ended_in MakesAnchor (entries 0))) (omega (arith, order, puts, gots, puts_are, gots_are, first_puts, second_puts, third_puts, fourth_puts, first_gots, second_gots, third_gots, fourth_gots, first_numbers, second_numbers, third_none, fourth_none, third_got, fourth_got));
        second = none_long (gots_of (ended_in Joins (entries 1))) (omega (arith, order, puts, gots, puts_are, gots_are, first_puts, second_puts, third_puts, fourth_puts, first_gots, second_gots, third_gots, fourth_gots, first_numbers, second_numbers, third_none, fourth_none, third_got, fourth_got));
      }

  -- what the takers got weighs what was put, by any weight of numbers
  all_weigh : (weight : ℕ → ℕ) → sum_by weight (gots_of (ended_in Joins (entries 2))) + sum_by weight (gots_of (ended_in Joins (entries 3)))
      ≡ sum_by weight (range_with_len 1000001 count) + sum_by weight (range_with_len 2000001 count)
  all_weigh weight =
      let fixed_all = fixed entry_spot history in
      let weights_ordered : sum_by weight (puts_of fixed_all) ≡ sum_by weight (gots_of fixed_all) + sum_by weight of_queue.left = ap (sum_by weight) of_queue.order ∙ sum_by-append weight (gots_of fixed_all) of_queue.left in
      let left_weight : sum_by weight of_queue.left ≡ 0 = ap (sum_by weight) all_got.left in
      let puts = puts_weigh weight fixed_all in
      let gots = gots_weigh weight fixed_all in
      let puts_are = shared (put_weight weight) in
      let gots_are = shared (got_weight weight) in
      let first_puts = puts_weigh weight (ended_in MakesAnchor (entries 0)) in
      let second_puts = puts_weigh weight (ended_in Joins (entries 1)) in
      let third_puts = puts_weigh weight (ended_in Joins (entries 2)) in
      let fourth_puts = puts_weigh weight (ended_in Joins (entries 3)) in
      let first_gots = gots_weigh weight (ended_in MakesAnchor (entries 0)) in
      let second_gots = gots_weigh weight (ended_in Joins (entries 1)) in
      let third_gots = gots_weigh weight (ended_in Joins (entries 2)) in
      let fourth_gots = gots_weigh weight (ended_in Joins (entries 3)) in
      let first_numbers = ap (sum_by weight) puts_first in
      let second_numbers = ap (sum_by weight) puts_second in
      let third_none : sum_by weight (puts_of (ended_in Joins (entries 2))) ≡ 0 = ap (sum_by weight) third_took.no_put in
      let fourth_none : sum_by weight (puts_of (ended_in Joins (entries 3))) ≡ 0 = ap (sum_by weight) fourth_took.no_put in
      let first_got_none : sum_by weight (gots_of (ended_in MakesAnchor (entries 0))) ≡ 0 = ap (sum_by weight) all_got.first in
      let second_got_none : sum_by weight (gots_of (ended_in Joins (entries 1))) ≡ 0 = ap (sum_by weight) all_got.second in
      omega (arith, weights_ordered, left_weight, puts, gots, puts_are, gots_are, first_puts, second_puts, third_puts, fourth_puts, first_gots, second_gots, third_gots, fourth_gots, first_numbers, second_numbers, third_none, fourth_none, first_got_none, second_got_none)

  pub tells_queue : TellsQueue count history
  tells_queue = record {
    no_full = none_is_refused count history small_count run;
    order =
        let gots = gots_of (fixed entry_spot history) in
        sym (of_queue.order ∙ ap (λ rest. gots ++ rest) all_got.left ∙ append-nil gots);
    numbers = λ value.
        let weight : ℕ → ℕ = λ number. if number == value then 1 else 0 in
        sum_by-append weight (gots_of (ended_in Joins (entries 2))) (gots_of (ended_in Joins (entries 3))) ∙ all_weigh weight
        ∙ sym (sum_by-append weight (range_with_len 1000001 count) (range_with_len 2000001 count));
    items = let first_items : (got_in count history 2).items ≡ length (gots_of (ended_in Joins (entries 2))) = third_took.items in let second_items : (got_in count history 3).items ≡ length (gots_of (ended_in Joins (entries 3))) = fourth_took.items in let third_got = third_all in let fourth_got = fourth_all in omega (arith, first_items, second_items, third_got, fourth_got);
    sum =
        let third_sum : (got_in count history 2).sum ≡ sum (gots_of (ended_in Joins (entries 2))) = third_took.sum in
        let fourth_sum : (got_in count history 3).sum ≡ sum (gots_of (ended_in Joins (entries 3))) = fourth_took.sum in
        let sums_same : sum (gots_of (ended_in Joins (entries 2))) + sum (gots_of (ended_in Joins (entries 3))) ≡ sum (range_with_len 1000001 count) + sum (range_with_len 2000001 count) = all_weigh (λ x. x) in
        let rows = both_rows count in
        omega (arith, third_sum, fourth_sum, sums_same, rows);
  }

pub queue_runs_tell : QueueRunsTell
queue_runs_tell count history small_count run = tells_queue count history small_count run
