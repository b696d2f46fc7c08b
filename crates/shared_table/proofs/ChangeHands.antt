-- Machines that change hands one by one.
use Rattle.std.proofs.Common.{◌≡◌, ℕ, zero, suc, Bool, true, false, not, nat_lt, [], ◌∷◌, length, get_or, replicate, Option, Some, None, refl, sym, ap, ◌∙◌, ◌<◌, ◌≤◌, ◌+◌, subst, arith}
use Rattle.std.specs.Option.{is_some}
use Rattle.std.specs.Prelude.{slice_set, ◌==◌, if◌then◌else◌}
use Rattle.std.proofs.lemmas.List.{length-set, length-replicate}
use Rattle.std.proofs.lemmas.Bool.Decides.{nat_tests}
use Rattle.shared_table.specs.Views.{View, machine_of, machines_picked, machines_left, merged, whichever_is_there}
use Rattle.shared_table.proofs.ViewsShow.{machine_of-picked, machine_of-merged}
use Rattle.shared_table.proofs.Dealing.{same_view, length-picked, length-merged}

module _ {T : Type 0} where
  pub machine_of-put : (view : View T) (number : ℕ) (found : Option T) → number < length view → (thread : ℕ) → machine_of (slice_set view number found) thread ≡ (if thread == number then found else machine_of view thread)
  machine_of-put [] number found within thread = absurd (omega arith)
  machine_of-put (first ∷ rest) zero found within zero = grind (arith, nat_tests)
  machine_of-put (first ∷ rest) zero found within (suc thread) = grind (arith, nat_tests)
  machine_of-put (first ∷ rest) (suc number) found within zero = grind (arith, nat_tests)
  machine_of-put (first ∷ rest) (suc number) found within (suc thread) = let within_rest : number < length rest = omega arith in grind (arith, nat_tests, machine_of-put rest number found within_rest thread)

  pub machine_of-index : (view : View T) (index : ℕ) (found : Option T) → index < length view → machine_of view index ≡ get_or view index found
  machine_of-index [] index found within = absurd (omega arith)
  machine_of-index (first ∷ rest) zero found within = refl
  machine_of-index (first ∷ rest) (suc index) found within = machine_of-index rest index found (omega arith)

  pub machine_of-none : (count thread : ℕ) → machine_of {R = T} (replicate count None) thread ≡ None
  machine_of-none zero thread = refl
  machine_of-none (suc count) zero = refl
  machine_of-none (suc count) (suc thread) = machine_of-none count thread

  pub machine_of-past : (view : View T) (thread : ℕ) → length view ≤ thread → machine_of view thread ≡ None
  machine_of-past [] thread thread_past = refl
  machine_of-past (first ∷ rest) zero thread_past = absurd (omega arith)
  machine_of-past (first ∷ rest) (suc thread) thread_past = machine_of-past rest thread (omega arith)

  none_either : (holds : Bool) → ◌≡◌ {A = Option T} (if holds then None else None) None
  none_either true = refl
  none_either false = refl

  -- the machines below a number have been taken in
  pub record Joining (machines others : View T) (number : ℕ) (view other_view : View T) : Type 0 where
    pub long : length view ≡ length machines
    pub other_long : length other_view ≡ length others
    pub here : (k : ℕ) → machine_of view k ≡ (if nat_lt k number then whichever_is_there (machine_of machines k) (machine_of others k) else machine_of machines k)
    pub there : (k : ℕ) → number ≤ k → machine_of other_view k ≡ machine_of others k

  pub joining_begins : (machines others : View T) → Joining machines others 0 machines others
  joining_begins machines others = record { long = refl; other_long = refl; here = λ thread. grind (arith, nat_tests); there = λ thread thread_above. refl }

  here_at : (machines others : View T) (number : ℕ) (view other_view : View T) → Joining machines others number view other_view → machine_of view number ≡ machine_of machines number
  here_at machines others number view other_view joining = let at_number = joining.here number in grind (arith, nat_tests)

  -- one number more
  taken : (thread number : ℕ) (now new found_before : Option T) (both old : ℕ → Option T) → now ≡ (if thread == number then new else found_before) → found_before ≡ (if nat_lt thread number then both thread else old thread) → both number ≡ new
      → now ≡ (if nat_lt thread (number + 1) then both thread else old thread)
  taken thread number now new found_before both old now_is was_is both_at_number = grind (arith, nat_tests)

  itself : (thread number : ℕ) (f : ℕ → Option T) → f thread ≡ (if thread == number then f number else f thread)
  itself thread number f = grind (arith, nat_tests)

  pub joining_take : (machines others : View T) (number : ℕ) (view other_view : View T) → Joining machines others number view other_view → number < length view → number < length other_view → machine_of view number ≡ None
      → Joining machines others (number + 1) (slice_set view number (machine_of other_view number)) (slice_set other_view number None)
  joining_take machines others number view other_view joining within other_within no_machine = record {
    long = length-set _ _ _ ∙ joining.long;
    other_long = length-set _ _ _ ∙ joining.other_long;
    here = λ thread.
        let after_put = machine_of-put view number (machine_of other_view number) within thread in
        let before_put = joining.here thread in
        let old : machine_of machines number ≡ None = sym (here_at machines others number view other_view joining) ∙ no_machine in
        let new : whichever_is_there (machine_of machines number) (machine_of others number) ≡ machine_of other_view number = rw old (sym (joining.there number (omega arith))) in
        taken thread number (machine_of (slice_set view number (machine_of other_view number)) thread) (machine_of other_view number) (machine_of view thread) (λ any_thread. whichever_is_there (machine_of machines any_thread) (machine_of others any_thread)) (λ any_thread. machine_of machines any_thread) after_put before_put new;
    there = λ thread thread_above. let after_put = machine_of-put other_view number None other_within thread in let before_put = joining.there thread (omega arith) in grind (arith, nat_tests);
  }

  pub joining_skip : (machines others : View T) (number : ℕ) (view other_view : View T) (machine : T) → Joining machines others number view other_view → machine_of view number ≡ Some machine → Joining machines others (number + 1) view other_view
  joining_skip machines others number view other_view machine joining found = record {
    long = joining.long;
    other_long = joining.other_long;
    here = λ asked_thread.
        let old : machine_of machines number ≡ Some machine = sym (here_at machines others number view other_view joining) ∙ found in
        let new : whichever_is_there (machine_of machines number) (machine_of others number) ≡ machine_of view number = rw old (sym found) in
        taken asked_thread number (machine_of view asked_thread) (machine_of view number) (machine_of view asked_thread) (λ any_thread. whichever_is_there (machine_of machines any_thread) (machine_of others any_thread)) (λ any_thread. machine_of machines any_thread) (same asked_thread) (joining.here asked_thread) new;
    there = λ asked_thread thread_above. joining.there asked_thread (omega arith);
  }
    where
      same : (thread : ℕ) → machine_of view thread ≡ (if thread == number then machine_of view number else machine_of view thread)
      same thread = itself thread number (λ any_thread. machine_of view any_thread)

  pub joining_ends : (machines others : View T) (view other_view : View T) (end : ℕ) → length machines ≡ length others → Joining machines others end view other_view → length machines ≤ end → view ≡ merged machines others
  joining_ends machines others view other_view end same_length joining all_passed = same_view view (merged machines others) (joining.long ∙ sym (length-merged machines others same_length))
      (λ asked_thread. at_end asked_thread (nat_lt asked_thread end) refl ∙ sym (machine_of-merged machines others asked_thread))
    where
      at_end : (thread : ℕ) (is_there : Bool) → nat_lt thread end ≡ is_there → machine_of view thread ≡ whichever_is_there (machine_of machines thread) (machine_of others thread)
      at_end thread true thread_test = joining.here thread ∙ rw thread_test refl
      at_end thread false thread_test =
          let thread_past : length machines ≤ thread = grind (arith, nat_tests) in
          let past_others : length others ≤ thread = omega arith in
          let no_machine : machine_of machines thread ≡ None = machine_of-past machines thread thread_past in
          let is_there : machine_of others thread ≡ None = machine_of-past others thread past_others in
          joining.here thread ∙ rw (thread_test, no_machine, is_there) refl

  -- the machines below a number that pass a test have been taken out
  pub record TakingOut (test : ℕ → Bool) (machines : View T) (number : ℕ) (view out : View T) : Type 0 where
    pub long : length view ≡ length machines
    pub out_long : length out ≡ length machines
    pub left : (k : ℕ) → machine_of view k ≡ (if nat_lt k number then (if test k then None else machine_of machines k) else machine_of machines k)
    pub taken_out : (k : ℕ) → machine_of out k ≡ (if nat_lt k number then (if test k then machine_of machines k else None) else None)

  pub taking_begins : (test : ℕ → Bool) (machines out : View T) → out ≡ replicate (length machines) None → TakingOut test machines 0 machines out
  taking_begins test machines out all_none = record {
    long = refl;
    out_long = ap length all_none ∙ length-replicate (length machines) None;
    left = λ asked_thread. grind (arith, nat_tests);
    taken_out = λ thread. let out_none : machine_of out thread ≡ None = ap (λ view. machine_of view thread) all_none ∙ machine_of-none (length machines) thread in grind (arith, nat_tests);
  }

  pub taking_one : (test : ℕ → Bool) (machines : View T) (number : ℕ) (view out : View T) → TakingOut test machines number view out → number < length view → number < length out → test number ≡ true
      → TakingOut test machines (number + 1) (slice_set view number (machine_of out number)) (slice_set out number (machine_of view number))
  taking_one test machines number view out taking_out within out_within passes = record {
    long = length-set _ _ _ ∙ taking_out.long;
    out_long = length-set _ _ _ ∙ taking_out.out_long;
    left = λ thread.
        let as_before : machine_of out number ≡ None = let at_number = taking_out.taken_out number in grind (arith, nat_tests) in
        taken thread number (machine_of (slice_set view number (machine_of out number)) thread) (machine_of out number) (machine_of view thread) (λ any_thread. if test any_thread then None else machine_of machines any_thread) (λ any_thread. machine_of machines any_thread)
        (machine_of-put view number (machine_of out number) within thread) (taking_out.left thread) (rw passes (sym as_before));
    taken_out = λ thread.
        let as_before : machine_of view number ≡ machine_of machines number = let at_number = taking_out.left number in grind (arith, nat_tests) in
        taken thread number (machine_of (slice_set out number (machine_of view number)) thread) (machine_of view number) (machine_of out thread) (λ any_thread. if test any_thread then machine_of machines any_thread else None) (λ any_thread. None)
        (machine_of-put out number (machine_of view number) out_within thread) (taking_out.taken_out thread) (rw passes (sym as_before));
  }

  pub taking_none : (test : ℕ → Bool) (machines : View T) (number : ℕ) (view out : View T) → TakingOut test machines number view out → test number ≡ false → TakingOut test machines (number + 1) view out
  taking_none test machines number view out taking_out fails = record {
    long = taking_out.long;
    out_long = taking_out.out_long;
    left = λ thread.
        let as_before : machine_of view number ≡ machine_of machines number = let at_number = taking_out.left number in grind (arith, nat_tests) in
        taken thread number (machine_of view thread) (machine_of view number) (machine_of view thread) (λ any_thread. if test any_thread then None else machine_of machines any_thread) (λ any_thread. machine_of machines any_thread)
        (itself thread number (λ any_thread. machine_of view any_thread)) (taking_out.left thread) (rw fails (sym as_before));
    taken_out = λ thread.
        let as_before : machine_of out number ≡ None = let at_number = taking_out.taken_out number in grind (arith, nat_tests) in
        taken thread number (machine_of out thread) (machine_of out number) (machine_of out thread) (λ any_thread. if test any_thread then machine_of machines any_thread else None) (λ any_thread. None)
        (itself thread number (λ any_thread. machine_of out any_thread)) (taking_out.taken_out thread) (rw fails (sym as_before));
  }

  pub taking_ends : (test : ℕ → Bool) (machines : View T) (end : ℕ) (view out : View T) → TakingOut test machines end view out → length machines ≤ end → (view ≡ machines_left test machines) × (out ≡ machines_picked test machines)
  taking_ends test machines end view out taking_out all_passed = (
    same_view view (machines_left test machines) (taking_out.long ∙ sym (length-picked (λ any_thread. not (test any_thread)) machines)) (λ asked_thread. rest asked_thread (nat_lt asked_thread end) (test asked_thread) refl refl ∙ sym (machine_of-picked (λ any_thread. not (test any_thread)) machines asked_thread)),
    same_view out (machines_picked test machines) (taking_out.out_long ∙ sym (length-picked test machines)) (λ asked_thread. gone asked_thread (nat_lt asked_thread end) refl ∙ sym (machine_of-picked test machines asked_thread)),
  )
    where
      rest : (thread : ℕ) (holds outcome : Bool) → nat_lt thread end ≡ holds → test thread ≡ outcome → machine_of view thread ≡ (if not (test thread) then machine_of machines thread else None)
      rest thread true true thread_test passes = taking_out.left thread ∙ rw (thread_test, passes) refl
      rest thread true false thread_test passes = taking_out.left thread ∙ rw (thread_test, passes) refl
      rest thread false outcome thread_test passes =
          let thread_past : length machines ≤ thread = grind (arith, nat_tests) in
          let no_machine : machine_of machines thread ≡ None = machine_of-past machines thread thread_past in
          taking_out.left thread ∙ rw (thread_test, no_machine) (sym (none_either (not (test thread))))

      gone : (thread : ℕ) (holds : Bool) → nat_lt thread end ≡ holds → machine_of out thread ≡ (if test thread then machine_of machines thread else None)
      gone thread true thread_test = taking_out.taken_out thread ∙ rw thread_test refl
      gone thread false thread_test =
          let thread_past : length machines ≤ thread = grind (arith, nat_tests) in
          let no_machine : machine_of machines thread ≡ None = machine_of-past machines thread thread_past in
          taking_out.taken_out thread ∙ rw (thread_test, no_machine) (sym (none_either (test thread)))

  -- the same as code finds the two machines and puts each in the other's place
  pub joining_swap : (machines others : View T) (number : ℕ) (view other_view new_m new_o : View T) (found other_found : Option T) → Joining machines others number view other_view → number < length view → number < length other_view
      → found ≡ get_or view number found → other_found ≡ get_or other_view number other_found → found ≡ None → new_m ≡ slice_set view number other_found → new_o ≡ slice_set other_view number found → Joining machines others (number + 1) new_m new_o
  joining_swap machines others number view other_view new_m new_o found other_found joining within other_within x-is y-is none_found new_m-is new_o-is =
      let no_machine : machine_of view number ≡ None = machine_of-index view number found within ∙ sym x-is ∙ none_found in
      let same_found : machine_of other_view number ≡ other_found = machine_of-index other_view number other_found other_within ∙ sym y-is in
      let view_after : slice_set view number (machine_of other_view number) ≡ new_m = ap (λ z. slice_set view number z) same_found ∙ sym new_m-is in
      let other_after : slice_set other_view number None ≡ new_o = ap (λ z. slice_set other_view number z) (sym none_found) ∙ sym new_o-is in
      subst (λ (view : View T). Joining machines others (number + 1) view new_o) view_after (subst (λ (later_view : View T). Joining machines others (number + 1) (slice_set view number (machine_of other_view number)) later_view) other_after (joining_take machines others number view other_view joining within other_within no_machine))

  pub taking_swap : (test : ℕ → Bool) (machines : View T) (number : ℕ) (view out new_m new_out : View T) (found other_found : Option T) → TakingOut test machines number view out → number < length view → number < length out
      → found ≡ get_or view number found → other_found ≡ get_or out number other_found → test number ≡ true → new_m ≡ slice_set view number other_found → new_out ≡ slice_set out number found → TakingOut test machines (number + 1) new_m new_out
  taking_swap test machines number view out new_m new_out found other_found taking_out within out_within x-is y-is passes new_m-is new_out-is =
      let view_found : machine_of view number ≡ found = machine_of-index view number found within ∙ sym x-is in
      let out_found : machine_of out number ≡ other_found = machine_of-index out number other_found out_within ∙ sym y-is in
      let view_after : slice_set view number (machine_of out number) ≡ new_m = ap (λ z. slice_set view number z) out_found ∙ sym new_m-is in
      let out_after : slice_set out number (machine_of view number) ≡ new_out = ap (λ z. slice_set out number z) view_found ∙ sym new_out-is in
      subst (λ (view : View T). TakingOut test machines (number + 1) view new_out) view_after
      (subst (λ (other_view : View T). TakingOut test machines (number + 1) (slice_set view number (machine_of out number)) other_view) out_after (taking_one test machines number view out taking_out within out_within passes))

  -- a machine that is there
  pub some_there : (found : Option T) → is_some found ≡ true → (machine : T) × (found ≡ Some machine)
  some_there None found_some = cc
  some_there (Some machine) found_some = (machine, refl)

  pub none_there : (found : Option T) → is_some found ≡ false → found ≡ None
  none_there None found_none = refl
  none_there (Some machine) found_none = cc

  pub here_within : (view : View T) (index : ℕ) → is_some (machine_of view index) ≡ true → index < length view
  here_within [] index machine_here = cc
  here_within (first ∷ rest) zero machine_here = omega arith
  here_within (first ∷ rest) (suc index) machine_here = let rest_within = here_within rest index machine_here in omega arith
