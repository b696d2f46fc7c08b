-- Users go by the table, and count what they do.
use Rattle.std.proofs.Common.{ℕ, zero, suc, ◌≡◌, ◌+◌, ◌-◌, ◌≤◌, Bool, true, false, List, [], ◌∷◌, ◌++◌, length, sum, Some, None, refl, sym, ap, ◌∙◌, subst, inl, inr, arith, append_assoc, length-append, lt-ltb}
use Rattle.std.specs.Prelude.{◌≢◌, ◌==◌, ◌&&◌, if◌then◌else◌}
use Rattle.std.specs.List.{range_with_len}
use Rattle.std.proofs.lemmas.Bool.{false≢true}
use Rattle.std.proofs.lemmas.Bool.Decides.{eqb_tells}
use Rattle.std.proofs.lemmas.List.Elements.{All-head, All-tail}
use Rattle.std.proofs.lemmas.List.Sums.{sum_by-append}
use Rattle.shen_graph.specs.declared.command.Command.{Command}
use Rattle.shen_graph.specs.declared.command.Command.TheVariants.{New, Get, Set, Cas, Xchg, Rd, Wr, Copy, Drop, Same, Gc, Pin, Unpin}
use Rattle.shen_graph.specs.declared.command.Reply.{Reply}
use Rattle.shen_graph.specs.declared.command.Reply.TheVariants as reply
use Rattle.shen_graph.specs.History.{Entry, IsWithoutFull, is_full}
use Rattle.managed_queue.specs.declared.spot.Spot.{Spot}
use Rattle.managed_queue.specs.declared.spot.Spot.TheVariants.{MakesAnchor, MakesFirst, SetsHead, SetsTail, Shows, Joins, Rests, Fills, Looks, Follows, Links, Helps, Swings, Turns, TookHead, TookTail, Compares, Pushes, Reads, Unlinks}
use Rattle.managed_queue.specs.declared.operation.Choice.TheVariants as choice
use Rattle.managed_queue.specs.declared.user.Plan.TheVariants.{Puts, Takes}
use Rattle.managed_queue.specs.declared.user.Gotten.{Gotten}
use Rattle.managed_queue.specs.Spots.{Operation, MayCome, IsGranted, next_spot, operation_ended, on_full, after_join, after_rest, behind_tail, after_link}
use Rattle.managed_queue.specs.Spots.Operation.{put, got, empty, full}
use Rattle.managed_queue.specs.Queue.{IsPlayed, spot_after, ended_in, puts_of, gots_of}
use Rattle.managed_queue.specs.Machines.{command_coming, answer_told}
use Rattle.managed_queue.specs.Users.{Use, chosen, is_rest, has_ended, command_of, next_of, plan_after, got_after, is_refused, used, nothing_got, IsDriven, use_after, UsersPlay, TakersTake, PuttersPut}
use Rattle.managed_queue.proofs.Table.{command_is_next}

-- where a user that has not ended goes
abbrev pub onward : Use → Reply → Use
onward user answered = record {
  spot = next_spot user.spot (command_of user) answered;
  plan = plan_after user.plan (answer_told (operation_ended user.spot answered));
  got = got_after user.plan user.got (answer_told (operation_ended user.spot answered));
  refused = is_refused (command_of user) answered;
}

-- what its next command says
pub record Going (user : Use) (asked : Command) : Type 0 where
  pub on : has_ended user ≡ false
  pub command : command_of user ≡ asked

pub going : (user : Use) (command : Command) → next_of user ≡ Some command → Going user command
going user command next_command = at (has_ended user) refl next_command
  where
    at : (holds : Bool) → has_ended user ≡ holds → (if holds then None else Some (command_of user)) ≡ Some command → Going user command
    at true user_ended never = let no_command : None ≡ Some command = never in absurd cc
    at false end_test command_given = record { on = end_test; command = cc }

pub used_is : (user : Use) (answered : Reply) → has_ended user ≡ false → used user answered ≡ onward user answered
used_is user answered not_ended = ap (λ ended. if ended then user else onward user answered) not_ended

not_full : (answered : Reply) → answered ≢ reply.Full → is_full answered ≡ false
not_full (reply.Ref name) reply_not_full = refl
not_full reply.Null reply_not_full = refl
not_full reply.Ok reply_not_full = refl
not_full reply.Yes reply_not_full = refl
not_full reply.No reply_not_full = refl
not_full (reply.Number number) reply_not_full = refl
not_full reply.Bad reply_not_full = refl
not_full (reply.At place) reply_not_full = refl
not_full reply.Full reply_not_full = absurd (reply_not_full refl)

nothing_full : (answered : Reply) → answered ≢ reply.Full → on_full answered ≡ []
nothing_full (reply.Ref name) reply_not_full = refl
nothing_full reply.Null reply_not_full = refl
nothing_full reply.Ok reply_not_full = refl
nothing_full reply.Yes reply_not_full = refl
nothing_full reply.No reply_not_full = refl
nothing_full (reply.Number number) reply_not_full = refl
nothing_full reply.Bad reply_not_full = refl
nothing_full (reply.At place) reply_not_full = refl
nothing_full reply.Full reply_not_full = absurd (reply_not_full refl)

pub not_refused : (command : Command) (answered : Reply) → answered ≢ reply.Full → is_refused command answered ≡ false
not_refused (New dst refs nums) answered reply_not_full = not_full answered reply_not_full
not_refused (Get dst src field) answered reply_not_full = refl
not_refused (Set obj field val) answered reply_not_full = refl
not_refused (Cas obj field expect val) answered reply_not_full = refl
not_refused (Xchg dst obj field val) answered reply_not_full = refl
not_refused (Rd obj index) answered reply_not_full = refl
not_refused (Wr obj index value) answered reply_not_full = refl
not_refused (Copy dst src) answered reply_not_full = refl
not_refused (Drop dst) answered reply_not_full = refl
not_refused (Same first_reference second_reference) answered reply_not_full = refl
not_refused Gc answered reply_not_full = refl
not_refused (Pin slot obj) answered reply_not_full = refl
not_refused (Unpin slot) answered reply_not_full = refl

answered : (spot : Spot) (answer : Reply) → answer ≢ reply.Full → IsGranted spot answer
answered MakesAnchor answer reply_not_full = reply_not_full
answered MakesFirst answer reply_not_full = reply_not_full
answered _ answer reply_not_full = tt

given_first : (entry : Entry) (entries : List Entry) → IsWithoutFull (entry ∷ entries) → entry.reply ≢ reply.Full
given_first entry entries none_full = All-head (λ (entry : Entry). entry.reply ≢ reply.Full) entry entries none_full

given_later : (entry : Entry) (entries : List Entry) → IsWithoutFull (entry ∷ entries) → IsWithoutFull entries
given_later entry entries none_full = All-tail (λ (entry : Entry). entry.reply ≢ reply.Full) entry entries none_full

-- the spot after an entry, by its command
spot_on : (user : Use) (entry : Entry) → Going user entry.command → (used user entry.reply).spot ≡ next_spot user.spot entry.command entry.reply
spot_on user entry going_on = ap (λ x. x.spot) (used_is user entry.reply going_on.on) ∙ ap (λ command. next_spot user.spot command entry.reply) going_on.command

pub users_play : UsersPlay
users_play user [] unrefused none_full driven = (tt, refl)
users_play user (entry ∷ entries) unrefused none_full driven =
    let going_on = going user entry.command driven.0 in
    let entry_not_full = given_first entry entries none_full in
    let same_spot = spot_on user entry going_on in
    let still_unrefused : (used user entry.reply).refused ≡ false = ap (λ x. x.refused) (used_is user entry.reply going_on.on) ∙ not_refused (command_of user) entry.reply entry_not_full in
    let later = users_play (used user entry.reply) entries still_unrefused (given_later entry entries none_full) driven.1 in (
      (
        subst (λ (command : Command). MayCome user.spot command) going_on.command (command_is_next (chosen user.plan) user.spot),
        answered user.spot entry.reply entry_not_full,
        subst (λ (spot : Spot). IsPlayed spot entries) same_spot later.0,
      ),
      ap (λ starting_spot. spot_after starting_spot entries) (sym same_spot) ∙ later.1,
    )

-- puts and gots of two lists

puts-append : (operations later_operations : List Operation) → puts_of (operations ++ later_operations) ≡ puts_of operations ++ puts_of later_operations
puts-append [] later_operations = refl
puts-append (put value ∷ operations) later_operations = ap (λ values. value ∷ values) (puts-append operations later_operations)
puts-append (got value ∷ operations) later_operations = puts-append operations later_operations
puts-append (empty ∷ operations) later_operations = puts-append operations later_operations
puts-append (full ∷ operations) later_operations = puts-append operations later_operations

gots-append : (operations later_operations : List Operation) → gots_of (operations ++ later_operations) ≡ gots_of operations ++ gots_of later_operations
gots-append [] later_operations = refl
gots-append (put value ∷ operations) later_operations = gots-append operations later_operations
gots-append (got value ∷ operations) later_operations = ap (λ values. value ∷ values) (gots-append operations later_operations)
gots-append (empty ∷ operations) later_operations = gots-append operations later_operations
gots-append (full ∷ operations) later_operations = gots-append operations later_operations

-- takers

abbrev taking : Spot → ℕ → Gotten → Use
taking spot takes gotten = record { spot = spot; plan = Takes takes; got = gotten; refused = false }

-- a taker is at a spot of a take, and has one to do
abbrev InTake : Spot → ℕ → Type 0
InTake Joins takes = Unit {0}
InTake Rests takes = Unit {0}
InTake Turns takes = 1 ≤ takes
InTake TookHead takes = 1 ≤ takes
InTake TookTail takes = 1 ≤ takes
InTake (Compares nothing) takes = 1 ≤ takes
InTake Pushes takes = 1 ≤ takes
InTake Reads takes = 1 ≤ takes
InTake (Unlinks value) takes = 1 ≤ takes
InTake _ takes = ⊥

-- what one reply makes of it
record TakeStep (spot : Spot) (left : ℕ) (have : Gotten) (answered : Reply) : Type 0 where
  left_then : ℕ
  have_then : Gotten
  plan : plan_after (Takes left) (answer_told (operation_ended spot answered)) ≡ Takes left_then
  count : left ≡ left_then + length (gots_of (operation_ended spot answered))
  counted : got_after (Takes left) have (answer_told (operation_ended spot answered)) ≡ have_then
  items : have_then.items ≡ have.items + length (gots_of (operation_ended spot answered))
  total : have_then.sum ≡ have.sum + sum (gots_of (operation_ended spot answered))
  no_put : puts_of (operation_ended spot answered) ≡ []
  inside : InTake (next_spot spot (command_coming choice.Take spot) answered) left_then

-- the reply ends nothing that counts
idle : (spot : Spot) (takes : ℕ) (gotten : Gotten) (answered : Reply) → operation_ended spot answered ≡ [] → InTake (next_spot spot (command_coming choice.Take spot) answered) takes → TakeStep spot takes gotten answered
idle spot takes gotten answered nothing_ended inside = record {
  left_then = takes;
  have_then = gotten;
  plan = ap (λ ended_operations. plan_after (Takes takes) (answer_told ended_operations)) nothing_ended;
  count = let same_gots = ap (λ ended_operations. length (gots_of ended_operations)) nothing_ended in omega (arith, same_gots);
  counted = ap (λ ended_operations. got_after (Takes takes) gotten (answer_told ended_operations)) nothing_ended;
  items = let same_gots = ap (λ ended_operations. length (gots_of ended_operations)) nothing_ended in omega (arith, same_gots);
  total = let same_gots = ap (λ ended_operations. sum (gots_of ended_operations)) nothing_ended in omega (arith, same_gots);
  no_put = ap puts_of nothing_ended;
  inside = inside;
}

joins_on : (takes : ℕ) (answered : Reply) → InTake (after_join answered) takes
joins_on takes (reply.Ref name) = tt
joins_on takes reply.Null = tt
joins_on takes reply.Ok = tt
joins_on takes reply.Yes = tt
joins_on takes reply.No = tt
joins_on takes (reply.Number number) = tt
joins_on takes reply.Bad = tt
joins_on takes (reply.At place) = tt
joins_on takes reply.Full = tt

take_step : (spot : Spot) (takes : ℕ) (gotten : Gotten) (answered : Reply) → InTake spot takes → (is_rest spot ≡ true → 1 ≤ takes) → answered ≢ reply.Full → TakeStep spot takes gotten answered
take_step MakesAnchor takes gotten answered inside one_left reply_not_full = absurd inside
take_step MakesFirst takes gotten answered inside one_left reply_not_full = absurd inside
take_step SetsHead takes gotten answered inside one_left reply_not_full = absurd inside
take_step SetsTail takes gotten answered inside one_left reply_not_full = absurd inside
take_step Shows takes gotten answered inside one_left reply_not_full = absurd inside
take_step Fills takes gotten answered inside one_left reply_not_full = absurd inside
take_step (Looks value) takes gotten answered inside one_left reply_not_full = absurd inside
take_step (Follows value) takes gotten answered inside one_left reply_not_full = absurd inside
take_step (Links value) takes gotten answered inside one_left reply_not_full = absurd inside
take_step (Helps value) takes gotten answered inside one_left reply_not_full = absurd inside
take_step (Swings value) takes gotten answered inside one_left reply_not_full = absurd inside
take_step Joins takes gotten answered inside one_left reply_not_full = idle Joins takes gotten answered refl (joins_on takes answered)
take_step Rests takes gotten answered inside one_left reply_not_full = idle Rests takes gotten answered (nothing_full answered reply_not_full) (one_left refl)
take_step Turns takes gotten answered inside one_left reply_not_full = idle Turns takes gotten answered refl inside
take_step TookHead takes gotten answered inside one_left reply_not_full = idle TookHead takes gotten answered refl inside
take_step TookTail takes gotten answered inside one_left reply_not_full = idle TookTail takes gotten answered refl inside
take_step (Compares true) takes gotten reply.Yes inside one_left reply_not_full =
    record { left_then = takes; have_then = gotten; plan = refl; count = omega arith; counted = refl; items = omega arith; total = omega arith; no_put = refl; inside = tt }
take_step (Compares true) takes gotten (reply.Ref name) inside one_left reply_not_full = idle (Compares true) takes gotten (reply.Ref name) refl inside
take_step (Compares true) takes gotten reply.Null inside one_left reply_not_full = idle (Compares true) takes gotten reply.Null refl inside
take_step (Compares true) takes gotten reply.Ok inside one_left reply_not_full = idle (Compares true) takes gotten reply.Ok refl inside
take_step (Compares true) takes gotten reply.No inside one_left reply_not_full = idle (Compares true) takes gotten reply.No refl inside
take_step (Compares true) takes gotten (reply.Number number) inside one_left reply_not_full = idle (Compares true) takes gotten (reply.Number number) refl inside
take_step (Compares true) takes gotten reply.Bad inside one_left reply_not_full = idle (Compares true) takes gotten reply.Bad refl inside
take_step (Compares true) takes gotten (reply.At place) inside one_left reply_not_full = idle (Compares true) takes gotten (reply.At place) refl inside
take_step (Compares true) takes gotten reply.Full inside one_left reply_not_full = idle (Compares true) takes gotten reply.Full refl inside
take_step (Compares false) takes gotten reply.Yes inside one_left reply_not_full = idle (Compares false) takes gotten reply.Yes refl inside
take_step (Compares false) takes gotten (reply.Ref name) inside one_left reply_not_full = idle (Compares false) takes gotten (reply.Ref name) refl inside
take_step (Compares false) takes gotten reply.Null inside one_left reply_not_full = idle (Compares false) takes gotten reply.Null refl inside
take_step (Compares false) takes gotten reply.Ok inside one_left reply_not_full = idle (Compares false) takes gotten reply.Ok refl inside
take_step (Compares false) takes gotten reply.No inside one_left reply_not_full = idle (Compares false) takes gotten reply.No refl inside
take_step (Compares false) takes gotten (reply.Number number) inside one_left reply_not_full = idle (Compares false) takes gotten (reply.Number number) refl inside
take_step (Compares false) takes gotten reply.Bad inside one_left reply_not_full = idle (Compares false) takes gotten reply.Bad refl inside
take_step (Compares false) takes gotten (reply.At place) inside one_left reply_not_full = idle (Compares false) takes gotten (reply.At place) refl inside
take_step (Compares false) takes gotten reply.Full inside one_left reply_not_full = idle (Compares false) takes gotten reply.Full refl inside
take_step Pushes takes gotten answered inside one_left reply_not_full = idle Pushes takes gotten answered refl inside
take_step Reads takes gotten answered inside one_left reply_not_full = idle Reads takes gotten answered refl inside
take_step (Unlinks value) takes gotten reply.Yes inside one_left reply_not_full =
    let some_left = lt-ltb 0 takes inside in
    record {
      left_then = takes - 1;
      have_then = record { items = gotten.items + 1; sum = gotten.sum + value };
      plan = refl;
      count = omega (arith, inside);
      counted = ap (λ got_value. if got_value then record { items = gotten.items + 1; sum = gotten.sum + value } else gotten) some_left;
      items = refl;
      total = omega arith;
      no_put = refl;
      inside = tt;
    }
take_step (Unlinks value) takes gotten (reply.Ref name) inside one_left reply_not_full = idle (Unlinks value) takes gotten (reply.Ref name) refl inside
take_step (Unlinks value) takes gotten reply.Null inside one_left reply_not_full = idle (Unlinks value) takes gotten reply.Null refl inside
take_step (Unlinks value) takes gotten reply.Ok inside one_left reply_not_full = idle (Unlinks value) takes gotten reply.Ok refl inside
take_step (Unlinks value) takes gotten reply.No inside one_left reply_not_full = idle (Unlinks value) takes gotten reply.No refl inside
take_step (Unlinks value) takes gotten (reply.Number number) inside one_left reply_not_full = idle (Unlinks value) takes gotten (reply.Number number) refl inside
take_step (Unlinks value) takes gotten reply.Bad inside one_left reply_not_full = idle (Unlinks value) takes gotten reply.Bad refl inside
take_step (Unlinks value) takes gotten (reply.At place) inside one_left reply_not_full = idle (Unlinks value) takes gotten (reply.At place) refl inside
take_step (Unlinks value) takes gotten reply.Full inside one_left reply_not_full = idle (Unlinks value) takes gotten reply.Full refl inside

-- what all of a taker's entries make of it
record TakesOn (spot : Spot) (left : ℕ) (have : Gotten) (entries : List Entry) : Type 0 where
  items : (use_after (taking spot left have) entries).got.items ≡ have.items + length (gots_of (ended_in spot entries))
  total : (use_after (taking spot left have) entries).got.sum ≡ have.sum + sum (gots_of (ended_in spot entries))
  no_put : puts_of (ended_in spot entries) ≡ []
  all : next_of (use_after (taking spot left have) entries) ≡ None → length (gots_of (ended_in spot entries)) ≡ left

-- between two operations one is left, where it has not ended
pub more_left : (spot : Spot) (left : ℕ) → (is_rest spot && (left == 0)) ≡ false → is_rest spot ≡ true → 1 ≤ left
more_left spot left not_at_end spot_rests = at left (ap (λ at_rest. at_rest && (left == 0)) (sym spot_rests) ∙ not_at_end)
  where
    at : (takes : ℕ) → (true && (takes == 0)) ≡ false → 1 ≤ takes
    at zero never = absurd (false≢true (sym never))
    at (suc takes) not_zero = omega arith

-- one that has no next command has none left
none_left : (spot : Spot) (takes : ℕ) (gotten : Gotten) → next_of (taking spot takes gotten) ≡ None → takes ≡ 0
none_left spot takes gotten no_command = at (is_rest spot) (takes == 0) refl no_command
  where
    at : (holds zero_test : Bool) → (takes == 0) ≡ zero_test → (if holds && zero_test then None else Some (command_of (taking spot takes gotten))) ≡ None → takes ≡ 0
    at true true no_takes no_next = elim (eqb_tells takes 0) [ inl equal_case ↦ equal_case.1 | inr unequal_case ↦ absurd (false≢true (sym unequal_case.0 ∙ no_takes)) ]
    at true false no_takes no_next = let never : Some (command_of (taking spot takes gotten)) ≡ None = no_next in absurd cc
    at false zero_test no_takes no_next = let never : Some (command_of (taking spot takes gotten)) ≡ None = no_next in absurd cc

take_all : (entries : List Entry) (spot : Spot) (takes : ℕ) (gotten : Gotten) → InTake spot takes → IsWithoutFull entries → IsDriven (taking spot takes gotten) entries → TakesOn spot takes gotten entries
take_all [] spot takes gotten inside none_full driven = record { items = omega arith; total = omega arith; no_put = refl; all = λ ended. sym (none_left spot takes gotten ended) }
take_all (entry ∷ entries) spot takes gotten inside none_full driven =
    let going_on = going (taking spot takes gotten) entry.command driven.0 in
    let entry_not_full = given_first entry entries none_full in
    let step = take_step spot takes gotten entry.reply inside (more_left spot takes going_on.on) entry_not_full in
    let used_entry : used (taking spot takes gotten) entry.reply ≡ taking (next_spot spot entry.command entry.reply) step.left_then step.have_then =
    used_is (taking spot takes gotten) entry.reply going_on.on ∙ same step going_on.command (not_refused (command_coming choice.Take spot) entry.reply entry_not_full) in
    let later = take_all entries (next_spot spot entry.command entry.reply) step.left_then step.have_then
    (subst (λ (command : Command). InTake (next_spot spot command entry.reply) step.left_then) going_on.command step.inside) (given_later entry entries none_full) (subst (λ (user : Use). IsDriven user entries) used_entry driven.1) in
    let gots = gots-append (operation_ended spot entry.reply) (ended_in (next_spot spot entry.command entry.reply) entries) in
    let gots_length = ap (length {A = ℕ}) gots ∙ length-append (gots_of (operation_ended spot entry.reply)) (gots_of (ended_in (next_spot spot entry.command entry.reply) entries)) in
    let gots_sum = ap sum gots ∙ sum_by-append (λ x. x) (gots_of (operation_ended spot entry.reply)) (gots_of (ended_in (next_spot spot entry.command entry.reply) entries)) in
    record {
      items = ap (λ (user : Use). (use_after user entries).got.items) used_entry ∙ later.items ∙ omega (arith, step.items, gots_length);
      total = ap (λ (user : Use). (use_after user entries).got.sum) used_entry ∙ later.total ∙ omega (arith, step.total, gots_sum);
      no_put = puts-append (operation_ended spot entry.reply) (ended_in (next_spot spot entry.command entry.reply) entries) ∙ ap (λ values. values ++ puts_of (ended_in (next_spot spot entry.command entry.reply) entries)) step.no_put ∙ later.no_put;
      all = λ ended. let rest_taken = later.all (ap (λ (user : Use). next_of (use_after user entries)) (sym used_entry) ∙ ended) in omega (arith, rest_taken, gots_length, step.count);
    }
  where
    same : (step : TakeStep spot takes gotten entry.reply) → command_coming choice.Take spot ≡ entry.command → is_refused (command_coming choice.Take spot) entry.reply ≡ false
        → onward (taking spot takes gotten) entry.reply ≡ taking (next_spot spot entry.command entry.reply) step.left_then step.have_then
    same step command not_refused = λ i. record { spot = next_spot spot (command i) entry.reply; plan = step.plan i; got = step.counted i; refused = not_refused i }

pub takers_take : TakersTake
takers_take count entries none_full driven =
    let all_taken = take_all entries Joins count nothing_got tt none_full driven in
    record { items = all_taken.items ∙ omega arith; sum = all_taken.total ∙ omega arith; no_put = all_taken.no_put; all = all_taken.all }

-- putters

abbrev putting : Spot → ℕ → ℕ → Use
putting spot number puts = record { spot = spot; plan = Puts number puts; got = nothing_got; refused = false }

-- a putter is in the set-up, joins, rests, or is at a spot of a put of its next number, of which it has one to do
abbrev InPut : Spot → ℕ → ℕ → Type 0
InPut MakesAnchor number puts = Unit {0}
InPut MakesFirst number puts = Unit {0}
InPut SetsHead number puts = Unit {0}
InPut SetsTail number puts = Unit {0}
InPut Shows number puts = Unit {0}
InPut Joins number puts = Unit {0}
InPut Rests number puts = Unit {0}
InPut Fills number puts = 1 ≤ puts
InPut (Looks value) number puts = (value ≡ number) × (1 ≤ puts)
InPut (Follows value) number puts = (value ≡ number) × (1 ≤ puts)
InPut (Links value) number puts = (value ≡ number) × (1 ≤ puts)
InPut (Helps value) number puts = (value ≡ number) × (1 ≤ puts)
InPut (Swings value) number puts = (value ≡ number) × (1 ≤ puts)
InPut _ number puts = ⊥

-- what one reply makes of it
record PutStep (spot : Spot) (next left : ℕ) (answered : Reply) : Type 0 where
  next_then : ℕ
  left_then : ℕ
  plan : plan_after (Puts next left) (answer_told (operation_ended spot answered)) ≡ Puts next_then left_then
  puts : puts_of (operation_ended spot answered) ++ range_with_len next_then left_then ≡ range_with_len next left
  inside : InPut (next_spot spot (command_coming (choice.Put next) spot) answered) next_then left_then

waits : (spot : Spot) (number puts : ℕ) (answered : Reply) → operation_ended spot answered ≡ [] → InPut (next_spot spot (command_coming (choice.Put number) spot) answered) number puts → PutStep spot number puts answered
waits spot number puts answered nothing_ended inside = record {
  next_then = number;
  left_then = puts;
  plan = ap (λ ended_operations. plan_after (Puts number puts) (answer_told ended_operations)) nothing_ended;
  puts = ap (λ ended_operations. puts_of ended_operations ++ range_with_len number puts) nothing_ended;
  inside = inside;
}

joins_in : (number puts : ℕ) (answered : Reply) → InPut (after_join answered) number puts
joins_in number puts (reply.Ref name) = tt
joins_in number puts reply.Null = tt
joins_in number puts reply.Ok = tt
joins_in number puts reply.Yes = tt
joins_in number puts reply.No = tt
joins_in number puts (reply.Number replied_number) = tt
joins_in number puts reply.Bad = tt
joins_in number puts (reply.At place) = tt
joins_in number puts reply.Full = tt

begins_in : (number puts : ℕ) (answered : Reply) → answered ≢ reply.Full → 1 ≤ puts → InPut (after_rest (New 3 1 1) answered) number puts
begins_in number puts (reply.Ref name) reply_not_full some_puts = some_puts
begins_in number puts reply.Null reply_not_full some_puts = some_puts
begins_in number puts reply.Ok reply_not_full some_puts = some_puts
begins_in number puts reply.Yes reply_not_full some_puts = some_puts
begins_in number puts reply.No reply_not_full some_puts = some_puts
begins_in number puts (reply.Number replied_number) reply_not_full some_puts = some_puts
begins_in number puts reply.Bad reply_not_full some_puts = some_puts
begins_in number puts (reply.At place) reply_not_full some_puts = some_puts
begins_in number puts reply.Full reply_not_full some_puts = absurd (reply_not_full refl)

follows_in : (value number puts : ℕ) (answered : Reply) → (value ≡ number) × (1 ≤ puts) → InPut (behind_tail value answered) number puts
follows_in value number puts (reply.Ref name) next_value = next_value
follows_in value number puts reply.Null next_value = next_value
follows_in value number puts reply.Ok next_value = next_value
follows_in value number puts reply.Yes next_value = next_value
follows_in value number puts reply.No next_value = next_value
follows_in value number puts (reply.Number replied_number) next_value = next_value
follows_in value number puts reply.Bad next_value = next_value
follows_in value number puts (reply.At place) next_value = next_value
follows_in value number puts reply.Full next_value = next_value

links_in : (value number puts : ℕ) (answered : Reply) → (value ≡ number) × (1 ≤ puts) → InPut (after_link value answered) number puts
links_in value number puts (reply.Ref name) next_value = next_value
links_in value number puts reply.Null next_value = next_value
links_in value number puts reply.Ok next_value = next_value
links_in value number puts reply.Yes next_value = next_value
links_in value number puts reply.No next_value = next_value
links_in value number puts (reply.Number replied_number) next_value = next_value
links_in value number puts reply.Bad next_value = next_value
links_in value number puts (reply.At place) next_value = next_value
links_in value number puts reply.Full next_value = next_value

-- the last reply of a put
swings_in : (value number puts : ℕ) (answered : Reply) → value ≡ number → 1 ≤ puts → PutStep (Swings value) number puts answered
swings_in value number zero answered next_value some_puts = absurd (omega (arith, some_puts))
swings_in value number (suc puts_after) answered next_value some_puts =
    let one_fewer : suc puts_after - 1 ≡ puts_after = omega arith in
    record {
      next_then = number + 1;
      left_then = puts_after;
      plan = ap (λ more_puts. if more_puts then Puts (number + 1) (suc puts_after - 1) else Puts number (suc puts_after)) (lt-ltb 0 (suc puts_after) some_puts) ∙ ap (Puts (number + 1)) one_fewer;
      puts = ap (λ put_value. put_value ∷ range_with_len (number + 1) puts_after) next_value;
      inside = tt;
    }

put_step : (spot : Spot) (number puts : ℕ) (answered : Reply) → InPut spot number puts → (is_rest spot ≡ true → 1 ≤ puts) → answered ≢ reply.Full → PutStep spot number puts answered
put_step MakesAnchor number puts answered inside one_left reply_not_full = waits MakesAnchor number puts answered refl tt
put_step MakesFirst number puts answered inside one_left reply_not_full = waits MakesFirst number puts answered refl tt
put_step SetsHead number puts answered inside one_left reply_not_full = waits SetsHead number puts answered refl tt
put_step SetsTail number puts answered inside one_left reply_not_full = waits SetsTail number puts answered refl tt
put_step Shows number puts answered inside one_left reply_not_full = waits Shows number puts answered refl tt
put_step Joins number puts answered inside one_left reply_not_full = waits Joins number puts answered refl (joins_in number puts answered)
put_step Rests number puts answered inside one_left reply_not_full = waits Rests number puts answered (nothing_full answered reply_not_full) (begins_in number puts answered reply_not_full (one_left refl))
put_step Fills number puts answered inside one_left reply_not_full = waits Fills number puts answered refl (refl, inside)
put_step (Looks value) number puts answered inside one_left reply_not_full = waits (Looks value) number puts answered refl inside
put_step (Follows value) number puts answered inside one_left reply_not_full = waits (Follows value) number puts answered refl (follows_in value number puts answered inside)
put_step (Links value) number puts answered inside one_left reply_not_full = waits (Links value) number puts answered refl (links_in value number puts answered inside)
put_step (Helps value) number puts answered inside one_left reply_not_full = waits (Helps value) number puts answered refl inside
put_step (Swings value) number puts answered inside one_left reply_not_full = swings_in value number puts answered inside.0 inside.1
put_step Turns number puts answered inside one_left reply_not_full = absurd inside
put_step TookHead number puts answered inside one_left reply_not_full = absurd inside
put_step TookTail number puts answered inside one_left reply_not_full = absurd inside
put_step (Compares nothing) number puts answered inside one_left reply_not_full = absurd inside
put_step Pushes number puts answered inside one_left reply_not_full = absurd inside
put_step Reads number puts answered inside one_left reply_not_full = absurd inside
put_step (Unlinks value) number puts answered inside one_left reply_not_full = absurd inside

record PutsOn (spot : Spot) (next left : ℕ) (entries : List Entry) : Type 0 where
  rest : List ℕ
  puts : puts_of (ended_in spot entries) ++ rest ≡ range_with_len next left
  all : next_of (use_after (putting spot next left) entries) ≡ None → rest ≡ []

none_to_put : (spot : Spot) (number puts : ℕ) → next_of (putting spot number puts) ≡ None → puts ≡ 0
none_to_put spot number puts no_command = at (is_rest spot) (puts == 0) refl no_command
  where
    at : (holds zero_test : Bool) → (puts == 0) ≡ zero_test → (if holds && zero_test then None else Some (command_of (putting spot number puts))) ≡ None → puts ≡ 0
    at true true no_puts no_next = elim (eqb_tells puts 0) [ inl equal_case ↦ equal_case.1 | inr unequal_case ↦ absurd (false≢true (sym unequal_case.0 ∙ no_puts)) ]
    at true false no_puts no_next = let never : Some (command_of (putting spot number puts)) ≡ None = no_next in absurd cc
    at false zero_test no_puts no_next = let never : Some (command_of (putting spot number puts)) ≡ None = no_next in absurd cc

put_all : (entries : List Entry) (spot : Spot) (number puts : ℕ) → InPut spot number puts → IsWithoutFull entries → IsDriven (putting spot number puts) entries → PutsOn spot number puts entries
put_all [] spot number puts inside none_full driven = record { rest = range_with_len number puts; puts = refl; all = λ ended. ap (range_with_len number) (none_to_put spot number puts ended) }
put_all (entry ∷ entries) spot number puts inside none_full driven =
    let going_on = going (putting spot number puts) entry.command driven.0 in
    let entry_not_full = given_first entry entries none_full in
    let step = put_step spot number puts entry.reply inside (more_left spot puts going_on.on) entry_not_full in
    let used_entry : used (putting spot number puts) entry.reply ≡ putting (next_spot spot entry.command entry.reply) step.next_then step.left_then =
    used_is (putting spot number puts) entry.reply going_on.on ∙ same step going_on.command (not_refused (command_coming (choice.Put number) spot) entry.reply entry_not_full) in
    let later = put_all entries (next_spot spot entry.command entry.reply) step.next_then step.left_then
    (subst (λ (command : Command). InPut (next_spot spot command entry.reply) step.next_then step.left_then) going_on.command step.inside) (given_later entry entries none_full) (subst (λ (user : Use). IsDriven user entries) used_entry driven.1) in
    let ended_now = operation_ended spot entry.reply in
    let ended_later = ended_in (next_spot spot entry.command entry.reply) entries in
    record {
      rest = later.rest;
      puts = ap (λ values. values ++ later.rest) (puts-append ended_now ended_later) ∙ append_assoc (puts_of ended_now) (puts_of ended_later) later.rest ∙ ap (λ values. puts_of ended_now ++ values) later.puts ∙ step.puts;
      all = λ ended. later.all (ap (λ (user : Use). next_of (use_after user entries)) (sym used_entry) ∙ ended);
    }
  where
    same : (step : PutStep spot number puts entry.reply) → command_coming (choice.Put number) spot ≡ entry.command → is_refused (command_coming (choice.Put number) spot) entry.reply ≡ false
        → onward (putting spot number puts) entry.reply ≡ putting (next_spot spot entry.command entry.reply) step.next_then step.left_then
    same step command not_refused = λ i. record { spot = next_spot spot (command i) entry.reply; plan = step.plan i; got = nothing_got; refused = not_refused i }

pub putters_put : PuttersPut
putters_put true first_number count entries none_full driven =
    let all_put = put_all entries MakesAnchor first_number count tt none_full driven in
    record { rest = all_put.rest; puts = all_put.puts; all = all_put.all }
putters_put false first_number count entries none_full driven =
    let all_put = put_all entries Joins first_number count tt none_full driven in
    record { rest = all_put.rest; puts = all_put.puts; all = all_put.all }
