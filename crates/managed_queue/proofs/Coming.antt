-- What a user gives is in range, and allocations to come become fewer.
use Rattle.std.proofs.Common.{ℕ, zero, suc, ◌≡◌, ◌+◌, ◌-◌, ◌<◌, ◌≤◌, ◌⊎◌, Bool, true, false, Option, Some, None, refl, sym, ap, subst, inl, inr, arith, lt-ltb}
use Rattle.std.specs.Prelude.{◌==◌, ◌||◌, ◌&&◌, nat_lt, if◌then◌else◌}
use Rattle.std.proofs.lemmas.Bool.{false≢true}
use Rattle.shen_graph.specs.declared.command.Command.{Command}
use Rattle.shen_graph.specs.declared.command.Reply.{Reply}
use Rattle.shen_graph.specs.declared.command.Reply.TheVariants as reply
use Rattle.shen_graph.specs.Step.{IsNew}
use Rattle.shen_graph.specs.Valid.{IsValid}
use Rattle.managed_queue.specs.declared.spot.Spot.{Spot}
use Rattle.managed_queue.specs.declared.spot.Spot.TheVariants.{MakesAnchor, MakesFirst, SetsHead, SetsTail, Shows, Joins, Rests, Fills, Looks, Follows, Links, Helps, Swings, Turns, TookHead, TookTail, Compares, Pushes, Reads, Unlinks}
use Rattle.managed_queue.specs.declared.operation.Choice.{Choice}
use Rattle.managed_queue.specs.declared.operation.Choice.TheVariants as choice
use Rattle.managed_queue.specs.declared.operation.QueueReply.{QueueReply}
use Rattle.managed_queue.specs.declared.operation.QueueReply.TheVariants as queue_reply
use Rattle.managed_queue.specs.declared.user.Plan.{Plan}
use Rattle.managed_queue.specs.declared.user.Plan.TheVariants.{Puts, Takes}
use Rattle.managed_queue.specs.Spots.{next_spot, operation_ended, after_join, behind_tail, after_link, after_unlink, after_same, after_rest, on_full, on_yes}
use Rattle.managed_queue.specs.Spots.Operation.{got, empty}
use Rattle.managed_queue.specs.Machines.{command_coming, first_command, answer_told}
use Rattle.managed_queue.specs.Users.{Use, chosen, is_rest, left_in_plan, has_ended, next_of, plan_after, is_refused, used, makings_ahead, puts_left, to_come}
use Rattle.managed_queue.proofs.Driven.{going, onward, used_is, more_left}

pub command_valid : (next_choice : Choice) (spot : Spot) → IsValid (command_coming next_choice spot)
command_valid next_choice MakesAnchor = (omega arith, omega arith, omega arith)
command_valid next_choice MakesFirst = (omega arith, omega arith, omega arith)
command_valid next_choice SetsHead = (omega arith, omega arith, omega arith)
command_valid next_choice SetsTail = (omega arith, omega arith, omega arith)
command_valid next_choice Shows = (omega arith, omega arith, omega arith)
command_valid next_choice Joins = (omega arith, omega arith, omega arith)
command_valid (choice.Put value) Rests = (omega arith, omega arith, omega arith)
command_valid choice.Take Rests = (omega arith, omega arith, omega arith)
command_valid next_choice Fills = (omega arith, omega arith)
command_valid next_choice (Looks value) = (omega arith, omega arith, omega arith)
command_valid next_choice (Follows value) = (omega arith, omega arith, omega arith)
command_valid next_choice (Links value) = (omega arith, omega arith, omega arith, omega arith)
command_valid next_choice (Helps value) = (omega arith, omega arith, omega arith, omega arith)
command_valid next_choice (Swings value) = (omega arith, omega arith, omega arith, omega arith)
command_valid next_choice Turns = (omega arith, omega arith, omega arith)
command_valid next_choice TookHead = (omega arith, omega arith, omega arith)
command_valid next_choice TookTail = (omega arith, omega arith, omega arith)
command_valid next_choice (Compares nothing) = (omega arith, omega arith)
command_valid next_choice Pushes = (omega arith, omega arith, omega arith, omega arith)
command_valid next_choice Reads = (omega arith, omega arith)
command_valid next_choice (Unlinks value) = (omega arith, omega arith, omega arith, omega arith)

-- what is ahead after a reply, of the plan that is then left
abbrev ahead : Plan → Spot → Reply → ℕ
ahead plan spot answered = makings_ahead (next_spot spot (command_coming (chosen plan) spot) answered) (puts_left (plan_after plan (answer_told (operation_ended spot answered))))

-- a plan after a reply has not more to put
fewer_puts : (plan : Plan) (found : Option QueueReply) → puts_left (plan_after plan found) ≤ puts_left plan
fewer_puts (Puts number puts) None = omega arith
fewer_puts (Puts number puts) (Some queue_reply.Put) = at (nat_lt 0 puts)
  where
    at : (holds : Bool) → puts_left (if holds then Puts (number + 1) (puts - 1) else Puts number puts) ≤ puts
    at true = omega arith
    at false = omega arith
fewer_puts (Puts number puts) (Some (queue_reply.Got value)) = omega arith
fewer_puts (Puts number puts) (Some queue_reply.Empty) = omega arith
fewer_puts (Puts number puts) (Some queue_reply.Full) = omega arith
fewer_puts (Takes puts) None = omega arith
fewer_puts (Takes puts) (Some queue_reply.Put) = omega arith
fewer_puts (Takes puts) (Some (queue_reply.Got value)) = omega arith
fewer_puts (Takes puts) (Some queue_reply.Empty) = omega arith
fewer_puts (Takes puts) (Some queue_reply.Full) = omega arith

-- after a put one less
one_less : (plan : Plan) → puts_left (plan_after plan (Some queue_reply.Put)) ≤ puts_left plan - 1
one_less (Puts number zero) = omega arith
one_less (Puts number (suc puts_after)) =
    subst (λ (holds : Bool). puts_left (if holds then Puts (number + 1) (suc puts_after - 1) else Puts number (suc puts_after)) ≤ suc puts_after - 1) (sym (lt-ltb 0 (suc puts_after) (omega arith))) (omega arith)
one_less (Takes takes) = omega arith

-- what is ahead where a reply decides

join_ahead : (answered : Reply) (makings : ℕ) → makings_ahead (after_join answered) makings ≡ makings
join_ahead (reply.Ref name) makings = refl
join_ahead reply.Null makings = refl
join_ahead reply.Ok makings = refl
join_ahead reply.Yes makings = refl
join_ahead reply.No makings = refl
join_ahead (reply.Number number) makings = refl
join_ahead reply.Bad makings = refl
join_ahead (reply.At place) makings = refl
join_ahead reply.Full makings = refl

behind_ahead : (value : ℕ) (answered : Reply) (makings : ℕ) → makings_ahead (behind_tail value answered) makings ≡ makings - 1
behind_ahead value (reply.Ref name) makings = refl
behind_ahead value reply.Null makings = refl
behind_ahead value reply.Ok makings = refl
behind_ahead value reply.Yes makings = refl
behind_ahead value reply.No makings = refl
behind_ahead value (reply.Number number) makings = refl
behind_ahead value reply.Bad makings = refl
behind_ahead value (reply.At place) makings = refl
behind_ahead value reply.Full makings = refl

link_ahead : (value : ℕ) (answered : Reply) (makings : ℕ) → makings_ahead (after_link value answered) makings ≡ makings - 1
link_ahead value (reply.Ref name) makings = refl
link_ahead value reply.Null makings = refl
link_ahead value reply.Ok makings = refl
link_ahead value reply.Yes makings = refl
link_ahead value reply.No makings = refl
link_ahead value (reply.Number number) makings = refl
link_ahead value reply.Bad makings = refl
link_ahead value (reply.At place) makings = refl
link_ahead value reply.Full makings = refl

unlink_ahead : (answered : Reply) (makings : ℕ) → makings_ahead (after_unlink answered) makings ≡ makings
unlink_ahead (reply.Ref name) makings = refl
unlink_ahead reply.Null makings = refl
unlink_ahead reply.Ok makings = refl
unlink_ahead reply.Yes makings = refl
unlink_ahead reply.No makings = refl
unlink_ahead (reply.Number number) makings = refl
unlink_ahead reply.Bad makings = refl
unlink_ahead (reply.At place) makings = refl
unlink_ahead reply.Full makings = refl

same_ahead : (nothing : Bool) (answered : Reply) (makings : ℕ) → makings_ahead (after_same nothing answered) makings ≡ makings
same_ahead true (reply.Ref name) makings = refl
same_ahead true reply.Null makings = refl
same_ahead true reply.Ok makings = refl
same_ahead true reply.Yes makings = refl
same_ahead true reply.No makings = refl
same_ahead true (reply.Number number) makings = refl
same_ahead true reply.Bad makings = refl
same_ahead true (reply.At place) makings = refl
same_ahead true reply.Full makings = refl
same_ahead false (reply.Ref name) makings = refl
same_ahead false reply.Null makings = refl
same_ahead false reply.Ok makings = refl
same_ahead false reply.Yes makings = refl
same_ahead false reply.No makings = refl
same_ahead false (reply.Number number) makings = refl
same_ahead false reply.Bad makings = refl
same_ahead false (reply.At place) makings = refl
same_ahead false reply.Full makings = refl

rest_ahead : (next_choice : Choice) (answered : Reply) (makings : ℕ) → makings_ahead (after_rest (first_command next_choice) answered) makings ≤ makings
rest_ahead (choice.Put value) (reply.Ref name) makings = omega arith
rest_ahead (choice.Put value) reply.Null makings = omega arith
rest_ahead (choice.Put value) reply.Ok makings = omega arith
rest_ahead (choice.Put value) reply.Yes makings = omega arith
rest_ahead (choice.Put value) reply.No makings = omega arith
rest_ahead (choice.Put value) (reply.Number number) makings = omega arith
rest_ahead (choice.Put value) reply.Bad makings = omega arith
rest_ahead (choice.Put value) (reply.At place) makings = omega arith
rest_ahead (choice.Put value) reply.Full makings = omega arith
rest_ahead choice.Take answered makings = omega arith

-- no reply raises it
ahead_falls : (plan : Plan) (spot : Spot) (answered : Reply) → ahead plan spot answered ≤ makings_ahead spot (puts_left plan)
ahead_falls plan MakesAnchor answered = let puts_fewer = fewer_puts plan None in omega (arith, puts_fewer)
ahead_falls plan MakesFirst answered = let puts_fewer = fewer_puts plan None in omega (arith, puts_fewer)
ahead_falls plan SetsHead answered = fewer_puts plan None
ahead_falls plan SetsTail answered = fewer_puts plan None
ahead_falls plan Shows answered = fewer_puts plan None
ahead_falls plan Joins answered = let puts_fewer = fewer_puts plan None in let step_ahead = join_ahead answered (puts_left (plan_after plan None)) in omega (arith, puts_fewer, step_ahead)
ahead_falls plan Rests answered =
    let puts_fewer = fewer_puts plan (answer_told (on_full answered)) in
    let step_ahead = rest_ahead (chosen plan) answered (puts_left (plan_after plan (answer_told (on_full answered)))) in
    omega (arith, puts_fewer, step_ahead)
ahead_falls plan Fills answered = let puts_fewer = fewer_puts plan None in omega (arith, puts_fewer)
ahead_falls plan (Looks value) answered = let puts_fewer = fewer_puts plan None in omega (arith, puts_fewer)
ahead_falls plan (Follows value) answered = let puts_fewer = fewer_puts plan None in let step_ahead = behind_ahead value answered (puts_left (plan_after plan None)) in omega (arith, puts_fewer, step_ahead)
ahead_falls plan (Links value) answered = let puts_fewer = fewer_puts plan None in let step_ahead = link_ahead value answered (puts_left (plan_after plan None)) in omega (arith, puts_fewer, step_ahead)
ahead_falls plan (Helps value) answered = let puts_fewer = fewer_puts plan None in omega (arith, puts_fewer)
ahead_falls plan (Swings value) answered = one_less plan
ahead_falls plan Turns answered = fewer_puts plan None
ahead_falls plan TookHead answered = fewer_puts plan None
ahead_falls plan TookTail answered = fewer_puts plan None
ahead_falls plan (Compares true) answered =
    let puts_fewer = fewer_puts plan (answer_told (on_yes empty answered)) in
    let step_ahead = same_ahead true answered (puts_left (plan_after plan (answer_told (on_yes empty answered)))) in
    omega (arith, puts_fewer, step_ahead)
ahead_falls plan (Compares false) answered = let puts_fewer = fewer_puts plan None in let step_ahead = same_ahead false answered (puts_left (plan_after plan None)) in omega (arith, puts_fewer, step_ahead)
ahead_falls plan Pushes answered = fewer_puts plan None
ahead_falls plan Reads answered = fewer_puts plan None
ahead_falls plan (Unlinks value) answered =
    let puts_fewer = fewer_puts plan (answer_told (on_yes (got value) answered)) in
    let step_ahead = unlink_ahead answered (puts_left (plan_after plan (answer_told (on_yes (got value) answered)))) in
    omega (arith, puts_fewer, step_ahead)

-- an allocation that is refused ends the user, and another is one less to come
record Pays (plan : Plan) (spot : Spot) (answered : Reply) : Type 0 where
  some : 0 < makings_ahead spot (puts_left plan)
  less : (is_refused (command_coming (chosen plan) spot) answered ≡ true) ⊎ (ahead plan spot answered < makings_ahead spot (puts_left plan))

put_pays : (number puts : ℕ) (answered : Reply) → 1 ≤ puts → Pays (Puts number puts) Rests answered
put_pays number puts (reply.Ref name) some_puts = record { some = some_puts; less = inr (omega (arith, some_puts)) }
put_pays number puts reply.Null some_puts = record { some = some_puts; less = inr (omega (arith, some_puts)) }
put_pays number puts reply.Ok some_puts = record { some = some_puts; less = inr (omega (arith, some_puts)) }
put_pays number puts reply.Yes some_puts = record { some = some_puts; less = inr (omega (arith, some_puts)) }
put_pays number puts reply.No some_puts = record { some = some_puts; less = inr (omega (arith, some_puts)) }
put_pays number puts (reply.Number replied_number) some_puts = record { some = some_puts; less = inr (omega (arith, some_puts)) }
put_pays number puts reply.Bad some_puts = record { some = some_puts; less = inr (omega (arith, some_puts)) }
put_pays number puts (reply.At place) some_puts = record { some = some_puts; less = inr (omega (arith, some_puts)) }
put_pays number puts reply.Full some_puts = record { some = some_puts; less = inl refl }

pays_at : (plan : Plan) (spot : Spot) (answered : Reply) → IsNew (command_coming (chosen plan) spot) → (is_rest spot ≡ true → 1 ≤ left_in_plan plan) → Pays plan spot answered
pays_at plan MakesAnchor answered new one_left = let puts_fewer = fewer_puts plan None in record { some = omega arith; less = inr (omega (arith, puts_fewer)) }
pays_at plan MakesFirst answered new one_left = let puts_fewer = fewer_puts plan None in record { some = omega arith; less = inr (omega (arith, puts_fewer)) }
pays_at (Puts number count_left) Rests answered new one_left = put_pays number count_left answered (one_left refl)
pays_at (Takes count_left) Rests answered new one_left = absurd new
pays_at plan SetsHead answered new one_left = absurd new
pays_at plan SetsTail answered new one_left = absurd new
pays_at plan Shows answered new one_left = absurd new
pays_at plan Joins answered new one_left = absurd new
pays_at plan Fills answered new one_left = absurd new
pays_at plan (Looks value) answered new one_left = absurd new
pays_at plan (Follows value) answered new one_left = absurd new
pays_at plan (Links value) answered new one_left = absurd new
pays_at plan (Helps value) answered new one_left = absurd new
pays_at plan (Swings value) answered new one_left = absurd new
pays_at plan Turns answered new one_left = absurd new
pays_at plan TookHead answered new one_left = absurd new
pays_at plan TookTail answered new one_left = absurd new
pays_at plan (Compares nothing) answered new one_left = absurd new
pays_at plan Pushes answered new one_left = absurd new
pays_at plan Reads answered new one_left = absurd new
pays_at plan (Unlinks value) answered new one_left = absurd new

-- a user that has ended makes nothing

come_low : (user : Use) → to_come user ≤ makings_ahead user.spot (puts_left user.plan)
come_low user = at (has_ended user)
  where
    at : (holds : Bool) → (if holds then 0 else makings_ahead user.spot (puts_left user.plan)) ≤ makings_ahead user.spot (puts_left user.plan)
    at true = omega arith
    at false = omega arith

come_is : (user : Use) → has_ended user ≡ false → to_come user ≡ makings_ahead user.spot (puts_left user.plan)
come_is user not_ended = ap (λ ended. if ended then 0 else makings_ahead user.spot (puts_left user.plan)) not_ended

refused_none : (user : Use) → user.refused ≡ true → to_come user ≡ 0
refused_none user was_refused = ap (λ refused. if refused || (is_rest user.spot && (left_in_plan user.plan == 0)) then 0 else makings_ahead user.spot (puts_left user.plan)) was_refused

pub user_falls : (user : Use) (answered : Reply) → to_come (used user answered) ≤ to_come user
user_falls user answered = at (has_ended user) refl
  where
    at : (holds : Bool) → has_ended user ≡ holds → to_come (used user answered) ≤ to_come user
    at true user_ended = let same_to_come : to_come (used user answered) ≡ to_come user = ap (λ holds. to_come (if holds then user else onward user answered)) user_ended in omega (arith, same_to_come)
    at false end_test =
        let used_on = ap to_come (used_is user answered end_test) in
        let come_falls = come_low (onward user answered) in
        let falls = ahead_falls user.plan user.spot answered in
        let come_before = come_is user end_test in
        omega (arith, used_on, come_falls, falls, come_before)

pub user_pays : (user : Use) (command : Command) (answered : Reply) → next_of user ≡ Some command → IsNew command → to_come (used user answered) < to_come user
user_pays acting_user command answered next_command new =
    let going_on = going acting_user command next_command in
    let pays = pays_at acting_user.plan acting_user.spot answered (subst IsNew (sym going_on.command) new) (unfinished acting_user going_on.on) in
    let at_once = ap to_come (used_is acting_user answered going_on.on) in
    let come_before = come_is acting_user going_on.on in
    elim (pays.less) [
      | inl refused ↦ let none_to_come = refused_none (onward acting_user answered) refused in let payment = pays.some in omega (arith, at_once, come_before, none_to_come, payment)
      | inr fewer ↦ let come_falls = come_low (onward acting_user answered) in omega (arith, at_once, come_before, fewer, come_falls)
    ]
  where
    unfinished : (user : Use) → has_ended user ≡ false → is_rest user.spot ≡ true → 1 ≤ left_in_plan user.plan
    unfinished user not_ended = at user.refused not_ended
      where
        at : (holds : Bool) → (holds || (is_rest user.spot && (left_in_plan user.plan == 0))) ≡ false → is_rest user.spot ≡ true → 1 ≤ left_in_plan user.plan
        at true never spot_rests = absurd (false≢true (sym never))
        at false not_at_end spot_rests = more_left user.spot (left_in_plan user.plan) not_at_end spot_rests
