-- Whether a thread's next command is this one.
use Rattle.std.proofs.Common.{◌≡◌, ℕ, ◌≤◌, Bool, ◌&&◌, true, false, eqb, Option, Some, None, refl, sym, ap, subst, ◌∙◌}
use Rattle.std.specs.Prelude.{MatchBool}
use Rattle.std.specs.Option.{option_eq}
use Rattle.std.proofs.lemmas.Bool.Decides.{Decides-eqb}
use Rattle.shen_graph.specs.declared.command.Command.{Command}
use Rattle.shen_graph.specs.declared.command.Command.TheVariants.{New, Get, Set, Cas, Xchg, Rd, Wr, Copy, Drop, Same, Gc, Pin, Unpin}
use Rattle.shen_graph.specs.contracts.command.CommandPartialEq.TheImpl.{eq-value}

-- the last number of two commands
last : (number other_number : ℕ) (R : Type 0) → (number ≡ other_number → R) → (R → number ≡ other_number) → MatchBool (eqb number other_number) R (R → ⊥)
last number other_number R make same_numbers = by_test (eqb number other_number) refl
  where
    by_test : (holds : Bool) → eqb number other_number ≡ holds → MatchBool holds R (R → ⊥)
    by_test true tested = make ((Decides-eqb number other_number).0 tested)
    by_test false tested = λ (alike : R). let test_true = (Decides-eqb number other_number).1 (same_numbers alike) in absurd cc

-- a number, and those behind it
more : (number other_number : ℕ) (others : Bool) (R : Type 0) → (number ≡ other_number → MatchBool others R (R → ⊥)) → (R → number ≡ other_number) → MatchBool (eqb number other_number && others) R (R → ⊥)
more number other_number others R further same_numbers = by_test (eqb number other_number) refl
  where
    by_test : (holds : Bool) → eqb number other_number ≡ holds → MatchBool (holds && others) R (R → ⊥)
    by_test true tested = further ((Decides-eqb number other_number).0 tested)
    by_test false tested = λ (alike : R). let test_true = (Decides-eqb number other_number).1 (same_numbers alike) in absurd cc

pub same_command : (command other_command : Command) → MatchBool (eq-value.it command other_command) (command ≡ other_command) (command ≡ other_command → ⊥)
same_command (New dst refs nums) (New other_dst other_refs other_nums) = more dst other_dst (eqb refs other_refs && eqb nums other_nums) _ (λ first_same. more refs other_refs (eqb nums other_nums) _ (λ second_same. last nums other_nums _ (λ equal. cc) (λ both_same. cc)) (λ both_same. cc)) (λ both_same. cc)
same_command (New dst refs nums) _ = λ equal. absurd cc
same_command (Get dst src field) (Get other_dst other_src other_field) = more dst other_dst (eqb src other_src && eqb field other_field) _ (λ first_same. more src other_src (eqb field other_field) _ (λ second_same. last field other_field _ (λ equal. cc) (λ both_same. cc)) (λ both_same. cc)) (λ both_same. cc)
same_command (Get dst src field) _ = λ equal. absurd cc
same_command (Set obj field val) (Set other_obj other_field other_val) = more obj other_obj (eqb field other_field && eqb val other_val) _ (λ first_same. more field other_field (eqb val other_val) _ (λ second_same. last val other_val _ (λ equal. cc) (λ both_same. cc)) (λ both_same. cc)) (λ both_same. cc)
same_command (Set obj field val) _ = λ equal. absurd cc
same_command (Cas obj field expect val) (Cas other_obj other_field other_expect other_val) = more obj other_obj (eqb field other_field && (eqb expect other_expect && eqb val other_val)) _ (λ first_same. more field other_field (eqb expect other_expect && eqb val other_val) _ (λ second_same. more expect other_expect (eqb val other_val) _ (λ third_same. last val other_val _ (λ equal. cc) (λ both_same. cc)) (λ both_same. cc)) (λ both_same. cc)) (λ both_same. cc)
same_command (Cas obj field expect val) _ = λ equal. absurd cc
same_command (Xchg dst obj field val) (Xchg other_dst other_obj other_field other_val) = more dst other_dst (eqb obj other_obj && (eqb field other_field && eqb val other_val)) _ (λ first_same. more obj other_obj (eqb field other_field && eqb val other_val) _ (λ second_same. more field other_field (eqb val other_val) _ (λ third_same. last val other_val _ (λ equal. cc) (λ both_same. cc)) (λ both_same. cc)) (λ both_same. cc)) (λ both_same. cc)
same_command (Xchg dst obj field val) _ = λ equal. absurd cc
same_command (Rd obj index) (Rd other_obj other_index) = more obj other_obj (eqb index other_index) _ (λ first_same. last index other_index _ (λ equal. cc) (λ both_same. cc)) (λ both_same. cc)
same_command (Rd obj index) _ = λ equal. absurd cc
same_command (Wr obj index value) (Wr other_obj other_index other_value) = more obj other_obj (eqb index other_index && eqb value other_value) _ (λ first_same. more index other_index (eqb value other_value) _ (λ second_same. last value other_value _ (λ equal. cc) (λ both_same. cc)) (λ both_same. cc)) (λ both_same. cc)
same_command (Wr obj index value) _ = λ equal. absurd cc
same_command (Copy dst src) (Copy other_dst other_src) = more dst other_dst (eqb src other_src) _ (λ first_same. last src other_src _ (λ equal. cc) (λ both_same. cc)) (λ both_same. cc)
same_command (Copy dst src) _ = λ equal. absurd cc
same_command (Drop dst) (Drop other_dst) = last dst other_dst _ (λ equal. cc) (λ both_same. cc)
same_command (Drop dst) _ = λ equal. absurd cc
same_command (Same first_root second_root) (Same other_first other_second) = more first_root other_first (eqb second_root other_second) _ (λ first_same. last second_root other_second _ (λ equal. cc) (λ both_same. cc)) (λ both_same. cc)
same_command (Same first_root second_root) _ = λ equal. absurd cc
same_command Gc Gc = refl
same_command Gc _ = λ equal. absurd cc
same_command (Pin slot obj) (Pin other_slot other_obj) = more slot other_slot (eqb obj other_obj) _ (λ first_same. last obj other_obj _ (λ equal. cc) (λ both_same. cc)) (λ both_same. cc)
same_command (Pin slot obj) _ = λ equal. absurd cc
same_command (Unpin slot) (Unpin other_slot) = last slot other_slot _ (λ equal. cc) (λ both_same. cc)
same_command (Unpin slot) _ = λ equal. absurd cc

-- the next command is there and is this one
pub same_next : (next_command : Option Command) (command : Command) → MatchBool (option_eq eq-value.it next_command (Some command)) (next_command ≡ Some command) (next_command ≡ Some command → ⊥)
same_next None command = λ equal. absurd cc
same_next (Some found_command) command = by_test (eq-value.it found_command command) (same_command found_command command)
  where
    by_test : (holds : Bool) → MatchBool holds (found_command ≡ command) (found_command ≡ command → ⊥) → MatchBool holds (◌≡◌ {A = Option Command} (Some found_command) (Some command)) (◌≡◌ {A = Option Command} (Some found_command) (Some command) → ⊥)
    by_test true is_command = ap Some is_command
    by_test false not_command = λ (same_option : ◌≡◌ {A = Option Command} (Some found_command) (Some command)). not_command cc

-- and the thread is there
pub is_next_of : (result : Bool) (thread threads : ℕ) (next_command listed_command : Option Command) (command : Command) → 1 ≤ thread → thread ≤ threads → next_command ≡ listed_command → result ≡ option_eq eq-value.it next_command (Some command)
    → MatchBool result ((1 ≤ thread) × (thread ≤ threads) × (listed_command ≡ Some command)) ((1 ≤ thread) → (thread ≤ threads) → listed_command ≡ Some command → ⊥)
is_next_of result thread threads next_command listed_command command thread_above thread_within next_listed test_told = by_test result (subst (λ (holds : Bool). MatchBool holds (next_command ≡ Some command) (next_command ≡ Some command → ⊥)) (sym test_told) (same_next next_command command))
  where
    by_test : (holds : Bool) → MatchBool holds (next_command ≡ Some command) (next_command ≡ Some command → ⊥) → MatchBool holds ((1 ≤ thread) × (thread ≤ threads) × (listed_command ≡ Some command)) ((1 ≤ thread) → (thread ≤ threads) → listed_command ≡ Some command → ⊥)
    by_test true is_next = (thread_above, thread_within, sym next_listed ∙ is_next)
    by_test false not_next = λ low high listed_is. not_next (next_listed ∙ listed_is)
