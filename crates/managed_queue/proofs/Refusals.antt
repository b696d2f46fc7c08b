-- No allocation of the workload is refused: too little is live.
use Rattle.std.proofs.Common.{ℕ, zero, suc, ◌≡◌, ◌⊎◌, ◌+◌, ◌-◌, ◌*◌, ◌<◌, ◌≤◌, ⊎_elim, Bool, true, false, List, [], ◌∷◌, ◌++◌, length, take, Some, refl, sym, ap, ◌∙◌, subst, inl, inr, arith, append_assoc, append-nil}
use Rattle.std.specs.Prelude.{◌≢◌, ◌==◌, slice_get, slice_index_or, sum_by, if◌then◌else◌}
use Rattle.std.specs.List.{range_with_len}
use Rattle.std.proofs.lemmas.Bool.{cases_eq, cases_lt}
use Rattle.std.proofs.lemmas.List.Elements.{All-push, All-filter, All-nil, filter-append}
use Rattle.std.proofs.lemmas.List.Sums.{sum_by-cons}
use Rattle.shen_graph.specs.declared.command.Command.{Command}
use Rattle.shen_graph.specs.declared.command.Command.TheVariants.{New, Get, Set, Cas, Xchg, Rd, Wr, Copy, Drop, Same, Gc, Pin, Unpin}
use Rattle.shen_graph.specs.declared.command.Reply.TheVariants as reply
use Rattle.shen_graph.specs.Graph.{opening}
use Rattle.shen_graph.specs.Crowd.{words_asked, next_command, words_open, IsCrowded}
use Rattle.shen_graph.specs.History.{Entry, of_thread, commands_of, script_of, is_full, IsWithoutFull}
use Rattle.shen_graph.specs.Step.{IsNew}
use Rattle.managed_queue.specs.declared.spot.Spot.{Spot}
use Rattle.managed_queue.specs.declared.spot.Spot.TheVariants.{MakesAnchor, MakesFirst, SetsHead, SetsTail, Shows, Joins, Rests, Fills, Looks, Follows, Links, Helps, Swings, Turns, TookHead, TookTail, Compares, Pushes, Reads, Unlinks}
use Rattle.managed_queue.specs.declared.operation.Choice.{Choice}
use Rattle.managed_queue.specs.declared.operation.Choice.TheVariants as choice
use Rattle.managed_queue.specs.Live.{made_by, makings}
use Rattle.managed_queue.specs.Machines.{command_coming}
use Rattle.managed_queue.specs.Queue.{IsPlayed, entry_spot, ArePlayed}
use Rattle.managed_queue.specs.Shares.{AreOf}
use Rattle.managed_queue.specs.Users.{Use, chosen, used, to_come, IsDriven, use_after}
use Rattle.managed_queue.specs.Workload.{queue_user, IsQueueRun}
use Rattle.managed_queue.proofs.Coming.{user_falls, user_pays}
use Rattle.managed_queue.proofs.Driven.{going, users_play}
use Rattle.managed_queue.proofs.Few.{few_are_live, none_pinned}
use Rattle.managed_queue.proofs.Playing.{of_here, of_there}

-- ---- lists

front_is : (entries later_entries : List Entry) → take (length entries) (entries ++ later_entries) ≡ entries
front_is [] entries = refl
front_is (entry ∷ later_entries) entries = ap (λ zs. entry ∷ zs) (front_is later_entries entries)

behind_is : (entries later_entries : List Entry) (entry : Entry) → slice_get (entries ++ entry ∷ later_entries) (length entries) ≡ Some entry
behind_is [] entries entry = refl
behind_is (first_entry ∷ later_entries) entries entry = behind_is later_entries entries entry

no_entries : (entries : List Entry) → commands_of entries ≡ [] → entries ≡ []
no_entries [] no_commands = refl
no_entries (entry ∷ entries) no_commands = absurd cc

-- ---- the entries of a user

driven_front : (user : Use) (entries later_entries : List Entry) → IsDriven user (entries ++ later_entries) → IsDriven user entries
driven_front user [] entries driven = tt
driven_front user (entry ∷ later_entries) entries driven = (driven.0, driven_front (used user entry.reply) later_entries entries driven.1)

-- a command of the table asks for 5 words at most
few_asked : (next_choice : Choice) (spot : Spot) → words_asked (Some (command_coming next_choice spot)) ≤ 5
few_asked (choice.Put value) Rests = omega arith
few_asked choice.Take Rests = omega arith
few_asked next_choice MakesAnchor = omega arith
few_asked next_choice MakesFirst = omega arith
few_asked next_choice SetsHead = omega arith
few_asked next_choice SetsTail = omega arith
few_asked next_choice Shows = omega arith
few_asked next_choice Joins = omega arith
few_asked next_choice Fills = omega arith
few_asked next_choice (Looks value) = omega arith
few_asked next_choice (Follows value) = omega arith
few_asked next_choice (Links value) = omega arith
few_asked next_choice (Helps value) = omega arith
few_asked next_choice (Swings value) = omega arith
few_asked next_choice Turns = omega arith
few_asked next_choice TookHead = omega arith
few_asked next_choice TookTail = omega arith
few_asked next_choice (Compares nothing) = omega arith
few_asked next_choice Pushes = omega arith
few_asked next_choice Reads = omega arith
few_asked next_choice (Unlinks value) = omega arith

-- so does each command of a user
each_asks : (user : Use) (entries : List Entry) → IsDriven user entries → (index : ℕ) → words_asked (slice_get (commands_of entries) index) ≤ 5
each_asks user [] driven index = omega arith
each_asks user (entry ∷ entries) driven zero =
    let user_going = going user entry.command driven.0 in
    subst (λ command. words_asked (Some command) ≤ 5) user_going.command (few_asked (chosen user.plan) user.spot)
each_asks user (entry ∷ entries) driven (suc index) = each_asks (used user entry.reply) entries driven.1 index

behind_asks : (user : Use) (entries later_entries : List Entry) (entry : Entry) → IsDriven user (entries ++ entry ∷ later_entries) → words_asked (Some entry.command) ≤ 5
behind_asks user [] entries entry driven = each_asks user (entry ∷ entries) driven 0
behind_asks user (first_entry ∷ later_entries) entries entry driven = behind_asks (used user first_entry.reply) later_entries entries entry driven.1

-- a user makes no more than is to come
one_made : (command : Command) → (made_by command ≡ 0) ⊎ ((made_by command ≡ 1) × IsNew command)
one_made (New dst refs nums) = inr (refl, tt)
one_made (Get dst src field) = inl refl
one_made (Set obj field val) = inl refl
one_made (Cas obj field expect val) = inl refl
one_made (Xchg dst obj field val) = inl refl
one_made (Rd obj index) = inl refl
one_made (Wr obj index value) = inl refl
one_made (Copy dst src) = inl refl
one_made (Drop dst) = inl refl
one_made (Same left_root right_root) = inl refl
one_made Gc = inl refl
one_made (Pin slot obj) = inl refl
one_made (Unpin slot) = inl refl

made_low : (entry : Entry) → (if is_full entry.reply then 0 else made_by entry.command) ≤ made_by entry.command
made_low entry = by_test (is_full entry.reply)
  where
    by_test : (holds : Bool) → (if holds then 0 else made_by entry.command) ≤ made_by entry.command
    by_test true = omega arith
    by_test false = omega arith

makes_few : (user : Use) (entries : List Entry) → IsDriven user entries → makings entries + to_come (use_after user entries) ≤ to_come user
makes_few user [] driven = omega arith
makes_few user (entry ∷ entries) driven =
    let later = makes_few (used user entry.reply) entries driven.1 in
    let entry_low = made_low entry in
    let falls = user_falls user entry.reply in
    elim (one_made entry.command) [
      | inl makes_none ↦ omega (arith, later, entry_low, falls, makes_none)
      | inr made_new ↦ let pays = user_pays user entry.command entry.reply driven.0 made_new.1 in let makes_one = made_new.0 in omega (arith, later, entry_low, pays, makes_one)
    ]

-- ---- the threads

not_zero : (entry : Entry) (entries : List Entry) → of_thread (entry ∷ entries) entry.thread ≡ [] → ⊥
not_zero entry entries no_entry = let some_entry : entry ∷ of_thread entries entry.thread ≡ [] = sym (of_here entry entries) ∙ no_entry in cc

none_later : (entry : Entry) (entries : List Entry) (thread : ℕ) → of_thread (entry ∷ entries) thread ≡ [] → of_thread entries thread ≡ []
none_later entry entries thread no_entry = ⊎_elim
    (λ (same_thread : thread ≡ entry.thread). absurd (not_zero entry entries (ap (of_thread (entry ∷ entries)) (sym same_thread) ∙ no_entry)))
    (λ (different_thread : thread ≡ entry.thread → ⊥). sym (of_there entry entries thread different_thread) ∙ no_entry)
    (cases_eq thread entry.thread)

are_four : (entries : List Entry) → ((thread : ℕ) → (thread ≡ 0) ⊎ (4 < thread) → of_thread entries thread ≡ []) → AreOf 4 entries
are_four [] none_outside = tt
are_four (entry ∷ entries) none_outside = (
  ⊎_elim (λ (zeroth : entry.thread ≡ 0). absurd (not_zero entry entries (none_outside entry.thread (inl zeroth)))) (λ (above_zero : entry.thread ≡ 0 → ⊥). omega (arith, above_zero)) (cases_eq entry.thread 0),
  ⊎_elim (λ (past_four : 4 < entry.thread). absurd (not_zero entry entries (none_outside entry.thread (inr past_four)))) (λ (thread_within : entry.thread ≤ 4). thread_within) (cases_lt 4 entry.thread),
  are_four entries (λ thread outside. none_later entry entries thread (none_outside thread outside)),
)

of_member : (before rest : List Entry) (entry : Entry) → AreOf 4 (before ++ entry ∷ rest) → (1 ≤ entry.thread) × (entry.thread ≤ 4)
of_member [] rest entry are_of = (are_of.0, are_of.1)
of_member (first_entry ∷ before) rest entry are_of = of_member before rest entry are_of.2

-- what is made is made by one of the four
made_here : (entry : Entry) (entries : List Entry) (thread : ℕ) → entry.thread ≡ thread → makings (of_thread (entry ∷ entries) thread) ≡ (if is_full entry.reply then 0 else made_by entry.command) + makings (of_thread entries thread)
made_here entry entries thread same_thread = ap (λ any_thread. makings (of_thread (entry ∷ entries) any_thread)) (sym same_thread) ∙ ap makings (of_here entry entries) ∙ ap (λ any_thread. (if is_full entry.reply then 0 else made_by entry.command) + makings (of_thread entries any_thread)) same_thread

made_there : (entry : Entry) (entries : List Entry) (thread : ℕ) → (thread ≡ entry.thread → ⊥) → makings (of_thread (entry ∷ entries) thread) ≡ makings (of_thread entries thread)
made_there entry entries thread different_thread = ap makings (of_there entry entries thread different_thread)

made_by_four : (entries : List Entry) → AreOf 4 entries → makings entries ≡ makings (of_thread entries 1) + (makings (of_thread entries 2) + (makings (of_thread entries 3) + makings (of_thread entries 4)))
made_by_four [] are_of = refl
made_by_four (entry ∷ entries) are_of =
    let later = made_by_four entries are_of.2 in
    let thread_least = are_of.0 in
    let thread_most = are_of.1 in
    elim (cases_eq entry.thread 1) [
      | inl entry_thread ↦
          let first_makings = made_here entry entries 1 entry_thread in let second_makings = made_there entry entries 2 (λ same_thread. omega (arith, same_thread, entry_thread)) in let third_makings = made_there entry entries 3 (λ same_thread. omega (arith, same_thread, entry_thread)) in let fourth_makings = made_there entry entries 4 (λ same_thread. omega (arith, same_thread, entry_thread)) in
          omega (arith, later, first_makings, second_makings, third_makings, fourth_makings)
      | inr not_first ↦ elim (cases_eq entry.thread 2) [
        | inl entry_thread ↦
            let first_makings = made_there entry entries 1 (λ same_thread. omega (arith, same_thread, entry_thread)) in let second_makings = made_here entry entries 2 entry_thread in let third_makings = made_there entry entries 3 (λ same_thread. omega (arith, same_thread, entry_thread)) in let fourth_makings = made_there entry entries 4 (λ same_thread. omega (arith, same_thread, entry_thread)) in
            omega (arith, later, first_makings, second_makings, third_makings, fourth_makings)
        | inr not_second ↦ elim (cases_eq entry.thread 3) [
          | inl entry_thread ↦
              let first_makings = made_there entry entries 1 (λ same_thread. omega (arith, same_thread, entry_thread)) in let second_makings = made_there entry entries 2 (λ same_thread. omega (arith, same_thread, entry_thread)) in let third_makings = made_here entry entries 3 entry_thread in let fourth_makings = made_there entry entries 4 (λ same_thread. omega (arith, same_thread, entry_thread)) in
              omega (arith, later, first_makings, second_makings, third_makings, fourth_makings)
          | inr not_third ↦
              let entry_thread : entry.thread ≡ 4 = omega (arith, thread_least, thread_most, not_first, not_second, not_third) in
              let first_makings = made_there entry entries 1 (λ same_thread. omega (arith, same_thread, entry_thread)) in let second_makings = made_there entry entries 2 (λ same_thread. omega (arith, same_thread, entry_thread)) in let third_makings = made_there entry entries 3 (λ same_thread. omega (arith, same_thread, entry_thread)) in let fourth_makings = made_here entry entries 4 entry_thread in
              omega (arith, later, first_makings, second_makings, third_makings, fourth_makings)
        ]
      ]
    ]

module _ (count : ℕ) (history : List Entry) (count_small : count ≤ 390) (run : IsQueueRun count history) where
  -- a thread that is none has no entry
  none_of : (thread : ℕ) → (thread ≡ 0) ⊎ (4 < thread) → of_thread history thread ≡ []
  none_of thread thread_out = no_entries (of_thread history thread) (run.follows thread ∙ no_script thread thread_out)
    where
      past_end : (scripts : List (List Command)) (index : ℕ) → length scripts ≤ index → slice_index_or scripts index [] ≡ []
      past_end [] index scripts_shorter = refl
      past_end (script ∷ scripts) zero scripts_shorter = absurd (omega (arith, scripts_shorter))
      past_end (script ∷ scripts) (suc index) scripts_shorter = past_end scripts index (omega (arith, scripts_shorter))

      no_script : (thread : ℕ) → (thread ≡ 0) ⊎ (4 < thread) → script_of run.scripts thread ≡ []
      no_script zero outside = refl
      no_script (suc index) (inl zeroth) = absurd (omega (arith, zeroth))
      no_script (suc index) (inr past_four) = past_end run.scripts index (let script_count = run.threads in omega (arith, past_four, script_count))

  pub threads_are : AreOf 4 history
  threads_are = are_four history none_of

  module _ (before rest : List Entry) (split : before ++ rest ≡ history) (without_full : IsWithoutFull before) where
    parts : (thread : ℕ) → of_thread history thread ≡ of_thread before thread ++ of_thread rest thread
    parts thread = ap (λ given_entries. of_thread given_entries thread) (sym split) ∙ filter-append (λ entry. entry.thread == thread) before rest

    driven : (user_number : ℕ) → user_number < 4 → IsDriven (queue_user count user_number) (of_thread before (user_number + 1))
    driven user_number user_below = driven_front (queue_user count user_number) (of_thread before (user_number + 1)) (of_thread rest (user_number + 1)) (subst (IsDriven (queue_user count user_number)) (parts (user_number + 1)) (run.driven user_number user_below))

    plays : (user_number : ℕ) → user_number < 4 → (queue_user count user_number).refused ≡ false → (queue_user count user_number).spot ≡ entry_spot (user_number + 1) → IsPlayed (entry_spot (user_number + 1)) (of_thread before (user_number + 1))
    plays user_number user_below never_refused spot = subst (λ some_spot. IsPlayed some_spot (of_thread before (user_number + 1))) spot
        (users_play (queue_user count user_number) (of_thread before (user_number + 1)) never_refused (All-filter (λ entry. entry.thread == (user_number + 1)) (λ entry. entry.reply ≢ reply.Full) before without_full) (driven user_number user_below)).0

    none_before : (thread : ℕ) → (thread ≡ 0) ⊎ (4 < thread) → of_thread before thread ≡ []
    none_before thread outside = front_empty (of_thread before thread) (of_thread rest thread) (sym (parts thread) ∙ none_of thread outside)
      where
        front_empty : (xs ys : List Entry) → xs ++ ys ≡ [] → xs ≡ []
        front_empty [] ys empty_whole = refl
        front_empty (x ∷ xs) ys empty_whole = absurd cc

    played : ArePlayed before
    played zero = subst (IsPlayed (entry_spot 0)) (sym (none_before 0 (inl refl))) tt
    played (suc zero) = plays 0 (omega arith) refl refl
    played (suc (suc zero)) = plays 1 (omega arith) refl refl
    played (suc (suc (suc zero))) = plays 2 (omega arith) refl refl
    played (suc (suc (suc (suc zero)))) = plays 3 (omega arith) refl refl
    played (suc (suc (suc (suc (suc beyond))))) = subst (IsPlayed (entry_spot (suc (suc (suc (suc (suc beyond))))))) (sym (none_before (suc (suc (suc (suc (suc beyond))))) (inr (omega arith)))) tt

    makings_low : makings before ≤ 782
    makings_low =
        let total_makings = made_by_four before (are_four before none_before) in
        let first_low = makes_few (queue_user count 0) (of_thread before 1) (driven 0 (omega arith)) in
        let second_low = makes_few (queue_user count 1) (of_thread before 2) (driven 1 (omega arith)) in
        let third_low = makes_few (queue_user count 2) (of_thread before 3) (driven 2 (omega arith)) in
        let four = makes_few (queue_user count 3) (of_thread before 4) (driven 3 (omega arith)) in
        omega (arith, total_makings, first_low, second_low, third_low, four, count_small)

    asks : (user : ℕ) → user < 4 → words_asked (next_command run.scripts before (user + 1)) ≤ 5
    asks user user_below =
        subst (λ script. words_asked (slice_get script (length (of_thread before (user + 1)))) ≤ 5) (script_is user)
        (each_asks (queue_user count user) (of_thread history (user + 1)) (run.driven user user_below) (length (of_thread before (user + 1))))
      where
        script_is : (user_number : ℕ) → commands_of (of_thread history (user_number + 1)) ≡ slice_index_or run.scripts (user_number + 1 - 1) []
        script_is user_number =
            let successor : user_number + 1 ≡ suc user_number = omega arith in
            let predecessor : user_number ≡ user_number + 1 - 1 = omega arith in
            ap (λ number. commands_of (of_thread history number)) successor ∙ run.follows (suc user_number) ∙ ap (λ number. slice_index_or run.scripts number []) predecessor

    open_low : (thread : ℕ) → words_open run.scripts before thread ≤ 20
    open_low thread =
        let f : ℕ → ℕ = λ other_thread. if other_thread == thread then 0 else words_asked (next_command run.scripts before other_thread) in
        let sum = ap (λ threads. sum_by f (range_with_len 1 threads)) run.threads in
        let open_words_low = four_low thread in
        omega (arith, sum, open_words_low)
      where
        one_low : (thread asking_thread : ℕ) → words_asked (next_command run.scripts before asking_thread) ≤ 5 → (if asking_thread == thread then 0 else words_asked (next_command run.scripts before asking_thread)) ≤ 5
        one_low thread asking_thread words_low = by_test (asking_thread == thread)
          where
            by_test : (same_thread : Bool) → (if same_thread then 0 else words_asked (next_command run.scripts before asking_thread)) ≤ 5
            by_test true = omega arith
            by_test false = words_low

        four_low : (thread : ℕ) → sum_by (λ any_thread. if any_thread == thread then 0 else words_asked (next_command run.scripts before any_thread)) (range_with_len 1 4) ≤ 20
        four_low thread =
            let asked_words : ℕ → ℕ = λ any_thread. if any_thread == thread then 0 else words_asked (next_command run.scripts before any_thread) in
            let first_low = one_low thread 1 (asks 0 (omega arith)) in
            let second_low = one_low thread 2 (asks 1 (omega arith)) in
            let third_low = one_low thread 3 (asks 2 (omega arith)) in
            let fourth_low = one_low thread 4 (asks 3 (omega arith)) in
            omega (arith, sum_by-cons asked_words 1 (2 ∷ 3 ∷ 4 ∷ []), sum_by-cons asked_words 2 (3 ∷ 4 ∷ []), sum_by-cons asked_words 3 (4 ∷ []), sum_by-cons asked_words 4 [], first_low, second_low, third_low, fourth_low)

  -- the entry that follows is not refused
  not_refused : (before rest : List Entry) (entry : Entry) → before ++ entry ∷ rest ≡ history → IsWithoutFull before → entry.reply ≢ reply.Full
  not_refused before rest entry split without_full full_reply =
      let entry_there : slice_get history (length before) ≡ Some entry = ap (λ entries. slice_get entries (length before)) (sym split) ∙ behind_is before rest entry in
      let front : take (length before) history ≡ before = ap (take (length before)) (sym split) ∙ front_is before (entry ∷ rest) in
      let crowd = subst (λ entries. IsCrowded 16 256 (opening (length run.scripts)) run.scripts entries entry) front (run.legal.crowded (length before) entry entry_there full_reply) in
      let live = few_are_live (length run.scripts) crowd.0 before (played before (entry ∷ rest) split without_full) crowd.3 in
      let makes = makings_low before (entry ∷ rest) split without_full in
      let waiting = open_low before (entry ∷ rest) split without_full entry.thread in
      let words_asked_low = asked_low before rest entry split in
      let no_pins : crowd.2 ≡ 0 = none_pinned (length run.scripts) 256 crowd.2 before (played before (entry ∷ rest) split without_full) crowd.5 in
      let full_regions : 16 * (256 - words_asked (Some entry.command) + 1) ≤ crowd.0 - crowd.1 + words_open run.scripts before entry.thread =
      subst (λ (pinned_regions : ℕ). (16 - pinned_regions) * (256 - words_asked (Some entry.command) + 1) ≤ crowd.0 - crowd.1 + words_open run.scripts before entry.thread) no_pins crowd.6 in
      absurd (omega (arith, live, makes, waiting, words_asked_low, full_regions))
    where
      asked_low : (before rest : List Entry) (entry : Entry) → before ++ entry ∷ rest ≡ history → words_asked (Some entry.command) ≤ 5
      asked_low before rest entry split =
          let thread_bounds = of_member before rest entry (subst (AreOf 4) (sym split) threads_are) in
          let thread_least = thread_bounds.0 in
          let thread_most = thread_bounds.1 in
          let user_number : ℕ = entry.thread - 1 in
          let thread_back : user_number + 1 ≡ entry.thread = omega (arith, thread_least) in
          let user_below : user_number < 4 = omega (arith, thread_least, thread_most) in
          let thread_parts : of_thread history entry.thread ≡ of_thread before entry.thread ++ (entry ∷ of_thread rest entry.thread) =
          ap (λ given_entries. of_thread given_entries entry.thread) (sym split) ∙ filter-append (λ x. x.thread == entry.thread) before (entry ∷ rest) ∙ ap (λ xs. of_thread before entry.thread ++ xs) (of_here entry rest) in
          behind_asks (queue_user count user_number) (of_thread before entry.thread) (of_thread rest entry.thread) entry
          (subst (IsDriven (queue_user count user_number)) thread_parts (subst (λ number. IsDriven (queue_user count user_number) (of_thread history number)) thread_back (run.driven user_number user_below)))

  given_on : (before rest : List Entry) → before ++ rest ≡ history → IsWithoutFull before → IsWithoutFull history
  given_on before [] split without_full = subst IsWithoutFull (sym (append-nil before) ∙ split) without_full
  given_on before (next_entry ∷ rest) split without_full =
      given_on (before ++ next_entry ∷ []) rest (append_assoc before (next_entry ∷ []) rest ∙ split) (All-push (λ (entry : Entry). entry.reply ≢ reply.Full) before next_entry without_full (not_refused before rest next_entry split without_full))

  pub none_is_refused : IsWithoutFull history
  none_is_refused = given_on [] history refl (All-nil (λ (entry : Entry). entry.reply ≢ reply.Full))

  pub all_played : ArePlayed history
  all_played = played history [] (append-nil history) none_is_refused
