-- Each machine keeps how many hints it has taken.
use Rattle.std.proofs.Common.{◌≡◌, ◌≢◌, ℕ, ◌+◌, ◌-◌, ◌<◌, ◌^◌, Bool, true, false, List, [], ◌∷◌, Option, Some, None, ⊎_elim, refl, sym, ap, ◌∙◌, arith}
use Rattle.std.specs.Prelude.{◌&&◌, min, is_some, slice_get, slice_set, slice_index, if◌then◌else◌}
use Rattle.std.proofs.lemmas.Bool.{cases_eq, eq-eqb, ne_eqb}
use Rattle.std.proofs.lemmas.Option.{same_Some}
use Rattle.heap_words.proofs.Lists.{slice_get-set_other, slice_get-set_same}
use Rattle.heap_words.specs.declared.config.Config.{Config}
use Rattle.heap_words.specs.Access.{table_index, got_of}
use Rattle.heap_words.specs.Steps.{Stage, Event, act_of, act, go, moved}
use Rattle.shen_graph.specs.declared.order.Order.{Order}
use Rattle.shen_graph.specs.declared.order.Order.TheVariants.{Nothing, Begin, End, Hint}
use Rattle.shen_graph.specs.Order.{hint_in}
use Rattle.heap_world.specs.Change.{Change}
use Rattle.mutator.specs.declared.spot.Spot.{Spot}
use Rattle.mutator.specs.declared.spot.Spot.TheVariants.{Rest, Ended, Gone}
use Rattle.mutator.specs.Orders.{takes_at}
use Rattle.step_core.specs.Actor.{Machine, mutating, helping, controlling, Actor}
use Rattle.step_core.specs.Machines.{takes_of, plan_of, hints_of, machine_after, took_of, kind}
use Rattle.step_core.specs.Hints.{takes_as_hint, hint_taken, hints_taken, HintsAreCounted}

-- one where a test holds
abbrev weight : Bool → ℕ
weight holds = if holds then 1 else 0

-- a mutator takes no hint
mutator_takes : (spot : Spot) (made address : ℕ) → takes_at spot made (Hint address) ≡ false
mutator_takes Rest made address = refl
mutator_takes (Ended reply) made address = refl
mutator_takes Gone made address = refl
mutator_takes _ made address = refl

-- what a machine keeps after a step under an order that it takes
counts_step : (change : Change) (config : Config) (order : Order) (got : ℕ) (machine : Machine) → takes_of machine order ≡ true → hints_of machine < 2 ^ 64
    → hints_of (machine_after change config order got machine) ≡ min (hints_of machine + weight (is_some (hint_in order))) (2 ^ 64 - 1)
counts_step change config (Hint address) got (mutating mutator) takes hints_below = absurd (let no_hint = mutator_takes mutator.spot mutator.made address in cc (takes, no_hint))
counts_step change config Nothing got (mutating mutator) takes hints_below = refl
counts_step change config (Begin command) got (mutating mutator) takes hints_below = refl
counts_step change config End got (mutating mutator) takes hints_below = refl
counts_step change config (Hint address) got (helping helper) takes hints_below = refl
counts_step change config Nothing got (helping helper) takes hints_below = omega (arith, hints_below)
counts_step change config (Begin command) got (helping helper) takes hints_below = absurd (cc (takes))
counts_step change config End got (helping helper) takes hints_below = absurd (cc (takes))
counts_step change config (Hint address) got (controlling control) takes hints_below = refl
counts_step change config Nothing got (controlling control) takes hints_below = omega (arith, hints_below)
counts_step change config (Begin command) got (controlling control) takes hints_below = absurd (cc (takes))
counts_step change config End got (controlling control) takes hints_below = absurd (cc (takes))

module _ (change : Change) (config : Config) (stage : Stage Actor) (number : ℕ) (event : Event Order) (before : Actor) (actor_before : slice_get stage.machines number ≡ Some before) (few_hints : hints_of before.machine < 2 ^ 64) where
  -- an event of another machine
  not_its : event.number ≢ number → hint_taken stage number event ≡ 0
  not_its other_number = ap (λ is_own. weight (is_own && takes_as_hint event.order (slice_get stage.machines number))) (ne_eqb event.number number other_number)

  -- an event of its own
  its : event.number ≡ number → hint_taken stage number event ≡ weight (takes_of before.machine event.order && is_some (hint_in event.order))
  its same_number = ap (λ is_own. weight (is_own && takes_as_hint event.order (slice_get stage.machines number))) (eq-eqb event.number number same_number) ∙ ap (λ actor. weight (takes_as_hint event.order actor)) actor_before

  unchanged : (machines : List Actor) → slice_get machines number ≡ Some before → hint_taken stage number event ≡ 0
      → (actor : Actor) × (slice_get machines number ≡ Some actor) × (hints_of actor.machine ≡ min (hints_of before.machine + hint_taken stage number event) (2 ^ 64 - 1))
  unchanged machines still_there none_taken = (before, still_there, omega (arith, few_hints, none_taken))

  -- what a machine is after it
  abbrev then_of : Actor → Actor
  then_of actor = took_of change config actor event.order (got_of (plan_of config event.order actor.machine) (slice_index stage.words (table_index (plan_of config event.order actor.machine)))) actor.machine

  after_event : (actor : Actor) × (slice_get (act (kind change config) stage event).machines number ≡ Some actor) × (hints_of actor.machine ≡ min (hints_of before.machine + hint_taken stage number event) (2 ^ 64 - 1))
  unfolding act kind
  after_event = by_machine (slice_get stage.machines event.number) refl
    where
      After : Stage Actor → Type 0
      After given_stage = (actor : Actor) × (slice_get given_stage.machines number ≡ Some actor) × (hints_of actor.machine ≡ min (hints_of before.machine + hint_taken stage number event) (2 ^ 64 - 1))

      by_order : (other_actor : Actor) (holds : Bool) → slice_get stage.machines event.number ≡ Some other_actor → takes_of other_actor.machine event.order ≡ holds → After (if holds then moved (kind change config) stage event.number other_actor event.order else stage)
      by_order other_actor true actor_there takes = ⊎_elim
          (λ (same_number : event.number ≡ number).
          let same_actor : other_actor ≡ before = same_Some other_actor before (sym actor_there ∙ ap (slice_get stage.machines) same_number ∙ actor_before) in
          let order_taken : takes_of before.machine event.order ≡ true = ap (λ actor. takes_of actor.machine event.order) (sym same_actor) ∙ takes in (
            then_of other_actor,
            ap (slice_get (slice_set stage.machines event.number (then_of other_actor))) (sym same_number) ∙ slice_get-set_same stage.machines event.number other_actor (then_of other_actor) actor_there,
            ap (λ (actor : Actor). hints_of (then_of actor).machine) same_actor ∙ counts_step change config event.order (got_of (plan_of config event.order before.machine) (slice_index stage.words (table_index (plan_of config event.order before.machine)))) before.machine order_taken few_hints
                ∙ ap (λ taken_hints. min (hints_of before.machine + taken_hints) (2 ^ 64 - 1)) (sym (its same_number ∙ ap (λ holds. weight (holds && is_some (hint_in event.order))) order_taken)),
          ))
          (λ (other_number : event.number ≢ number). unchanged (slice_set stage.machines event.number (then_of other_actor)) (slice_get-set_other stage.machines event.number number (then_of other_actor) (λ same_number. other_number (sym same_number)) ∙ actor_before) (not_its other_number))
          (cases_eq event.number number)
      by_order other_actor false actor_there takes = unchanged stage.machines actor_before (⊎_elim
          (λ (same_number : event.number ≡ number).
          let same_actor : other_actor ≡ before = same_Some other_actor before (sym actor_there ∙ ap (slice_get stage.machines) same_number ∙ actor_before) in
          its same_number ∙ ap (λ holds. weight (holds && is_some (hint_in event.order))) (ap (λ actor. takes_of actor.machine event.order) (sym same_actor) ∙ takes))
          (λ (other_number : event.number ≢ number). not_its other_number)
          (cases_eq event.number number))

      by_machine : (found : Option Actor) → slice_get stage.machines event.number ≡ found → After (act_of (kind change config) stage event found)
      by_machine None found_there = unchanged stage.machines actor_before (⊎_elim
          (λ (same_number : event.number ≡ number). absurd (let none_is_some : None ≡ Some before = sym found_there ∙ ap (slice_get stage.machines) same_number ∙ actor_before in cc (none_is_some)))
          (λ (other_number : event.number ≢ number). not_its other_number)
          (cases_eq event.number number))
      by_machine (Some other_actor) found_there = by_order other_actor (takes_of other_actor.machine event.order) found_there refl

-- over a list of events
pub counted : HintsAreCounted
unfolding go hints_taken
counted change config stage [] number before after actor_before actor_after few_hints =
    let after_first : before ≡ after = same_Some before after (sym actor_before ∙ actor_after) in
    ap (λ (actor : Actor). hints_of actor.machine) (sym after_first) ∙ omega (arith, few_hints)
counted change config stage (event ∷ es) number before after actor_before actor_after few_hints =
    let mid = after_event change config stage number event before actor_before few_hints in
    let rest_counted = counted change config (act (kind change config) stage event) es number mid.0 after mid.1 actor_after (let after_first = mid.2 in omega (arith, after_first)) in
    let first_counted = mid.2 in
    rest_counted ∙ omega (arith, first_counted)
