-- The induction over events: each event leads from a stage that follows its history, and in which the handshake is kept, to one
-- of which both hold.
use Rattle.std.proofs.Common.{◌≡◌, ℕ, ◌+◌, Bool, true, false, List, [], ◌∷◌, ◌++◌, Option, Some, None, refl, sym, ◌∙◌, subst, append_assoc}
use Rattle.std.specs.Prelude.{slice_get, if◌then◌else◌}
use Rattle.std.proofs.lemmas.Bool.{and_parts}
use Rattle.std.proofs.lemmas.List.{append-nil}
use Rattle.shen_graph.proofs.Bools.{false_from_flip}
use Rattle.heap_words.specs.declared.config.Config.{Config}
use Rattle.heap_words.specs.Steps.{Stage, Event, moved, act_of, act, go}
use Rattle.shen_graph.specs.declared.command.Command.{Command}
use Rattle.shen_graph.specs.declared.order.Order.{Order}
use Rattle.shen_graph.specs.declared.order.Order.TheVariants.{Nothing, Begin, End, Hint}
use Rattle.shen_graph.specs.Graph.{Graph}
use Rattle.shen_graph.specs.History.{Entry, after, of_thread}
use Rattle.handshake.proofs.Shaking.{shaken_step}
use Rattle.handshake.proofs.Counting.{counted_step}
use Rattle.handshake.specs.Left.{AreLeftCounted}
use Rattle.heap_world.specs.Change.{Change}
use Rattle.collector_rows.specs.ByParts.{PausesByParts}
use Rattle.collector_rows.specs.HelperRows as help
use Rattle.collector_rows.specs.HelperRows.{Helping}
use Rattle.collector_rows.specs.declared.control_spot.ControlSpot.{ControlSpot}
use Rattle.collector_rows.specs.declared.control_spot.ControlSpot.TheVariants.{Working}
use Rattle.collector_rows.specs.ControlRows as controls
use Rattle.collector_rows.specs.ControlRows.{Controlling, is_gone}
use Rattle.step_core.specs.Actor.{Machine, mutating, helping, controlling, Actor}
use Rattle.step_core.specs.Machines.{takes_of, helping_by, controlling_by, told_storing, kind}
use Rattle.step_core.specs.History.{told_of_machine, told, history, told_by}
use Rattle.step_core.specs.Sound.{world_of}
use Rattle.step_core.proofs.Machines.Owed.{IsMachine, Follows}
use Rattle.step_core.proofs.Handshake.Machines.{standing, is_left, event_obeys, event_counts}
use Rattle.step_core.proofs.Control.Held.{IsKept}
use Rattle.step_core.proofs.Machines.Roles.{number_of, can_go}
use Rattle.step_core.proofs.Mutators.Events.{follows_mutator}
use Rattle.step_core.proofs.Helpers.Events.{follows_helper}
use Rattle.step_core.proofs.Control.Events.{by_spot}
use Rattle.step_core.proofs.Machines.Hinting.{help_hinted_gone, control_hinted_gone}
use Rattle.step_core.proofs.Theorem.Hinted.{TakesPlace, replaced, there, follows_replaced, kept_replaced, counted_replaced, moved_replaced, helper_takes_place, control_takes_place}

-- an event of a machine, by its role
follows_order : (change : Change) → PausesByParts change → (config : Config) (graph : Graph) (stage : Stage Actor) (past_entries : List Entry) (number : ℕ) (order : Order) (command : Command) (calls : List Entry) (machine : Machine)
    → slice_get stage.machines number ≡ Some (record { machine = machine; command = command; calls = calls })
    → takes_of machine order ≡ true → Follows config graph stage past_entries → IsKept config stage
    → Follows config graph (moved (kind change config) stage number (record { machine = machine; command = command; calls = calls }) order)
    (past_entries ++ told_by config stage (record { machine = machine; command = command; calls = calls }) order machine)
follows_order change law config graph stage past_entries number order command calls (mutating mutator) actor_there takes stage_follows shaken = follows_mutator change config graph stage past_entries number order mutator command calls stage_follows shaken actor_there takes
follows_order change law config graph stage past_entries number Nothing command calls (helping helper) actor_there takes stage_follows shaken =
    follows_helper change config graph stage past_entries number helper command calls stage_follows shaken actor_there (false_from_flip (help.is_gone helper.spot) takes)
follows_order change law config graph stage past_entries number (Begin begun) command calls (helping helper) actor_there takes stage_follows shaken = absurd (cc (takes))
follows_order change law config graph stage past_entries number End command calls (helping helper) actor_there takes stage_follows shaken = absurd (cc (takes))
follows_order change law config graph stage past_entries number Nothing command calls (controlling control) actor_there takes stage_follows shaken =
    by_spot change law config graph stage past_entries number control.seen control.phase control.cset control.hints control.image command calls stage_follows shaken control.spot (false_from_flip (is_gone control.spot) takes) actor_there
follows_order change law config graph old_stage past_entries number (Hint address) command calls (helping helper) actor_there takes stage_follows shaken =
    let next_machine : Helping = helping_by config (Hint address) helper in
    let hint_place = helper_takes_place config number (Hint address) helper command calls in
    let stage : Stage Actor = replaced config old_stage number (actor_of (helping helper)) (actor_of (helping next_machine)) actor_there hint_place in
    subst (λ stage. Follows config graph stage (past_entries ++ [])) (moved_replaced config old_stage number (actor_of (helping helper)) (actor_of (helping next_machine)) actor_there hint_place change (Hint address) refl (λ got. refl))
    (follows_helper change config graph stage past_entries number next_machine command calls
    (follows_replaced config old_stage number (actor_of (helping helper)) (actor_of (helping next_machine)) actor_there hint_place graph past_entries stage_follows) (kept_replaced config old_stage number (actor_of (helping helper)) (actor_of (helping next_machine)) actor_there hint_place shaken)
    (there config old_stage number (actor_of (helping helper)) (actor_of (helping next_machine)) actor_there hint_place)
    (help_hinted_gone config (Some address) helper ∙ false_from_flip (help.is_gone helper.spot) (and_parts _ _ takes).1))
  where
    actor_of : Machine → Actor
    actor_of machine = record { machine = machine; command = command; calls = calls }
follows_order change law config graph old_stage past_entries number (Hint address) command calls (controlling control) actor_there takes stage_follows shaken =
    let next_machine : Controlling = controlling_by config (Hint address) control in
    let hint_place = control_takes_place config number (Hint address) control command calls in
    let stage : Stage Actor = replaced config old_stage number (actor_of (controlling control)) (actor_of (controlling next_machine)) actor_there hint_place in
    subst (λ stage. Follows config graph stage (past_entries ++ told_storing config old_stage control.spot control.image)) (moved_replaced config old_stage number (actor_of (controlling control)) (actor_of (controlling next_machine)) actor_there hint_place change (Hint address) refl (λ got. refl))
    (subst (λ entry_list. Follows config graph (moved (kind change config) stage number (actor_of (controlling next_machine)) Nothing) (past_entries ++ entry_list)) (told_hinted stage control.spot (and_parts _ _ takes).0)
    (by_spot change law config graph stage past_entries number next_machine.seen next_machine.phase next_machine.cset next_machine.hints next_machine.image command calls
    (follows_replaced config old_stage number (actor_of (controlling control)) (actor_of (controlling next_machine)) actor_there hint_place graph past_entries stage_follows) (kept_replaced config old_stage number (actor_of (controlling control)) (actor_of (controlling next_machine)) actor_there hint_place shaken)
    next_machine.spot (control_hinted_gone config (Some address) control ∙ false_from_flip (is_gone control.spot) (and_parts _ _ takes).1)
    (there config old_stage number (actor_of (controlling control)) (actor_of (controlling next_machine)) actor_there hint_place)))
  where
    actor_of : Machine → Actor
    actor_of machine = record { machine = machine; command = command; calls = calls }

    -- it stores no word of an image, with the hint and without
    told_hinted : (other_stage : Stage Actor) (spot : ControlSpot) → controls.takes_hint spot ≡ true → told_storing config other_stage (controls.hinted_by config (Some address) spot) control.image ≡ told_storing config old_stage spot control.image
    told_hinted other_stage (Working unit_spot) takes_it = refl
    told_hinted other_stage _ takes_it = absurd (cc (takes_it))
follows_order change law config graph stage past_entries number (Begin begun) command calls (controlling control) actor_there takes stage_follows shaken = absurd (cc (takes))
follows_order change law config graph stage past_entries number End command calls (controlling control) actor_there takes stage_follows shaken = absurd (cc (takes))

-- Of a stage: it follows the history, the handshake is kept in it, and Left counts the mutators that have not ended.
pub record Goes (config : Config) (graph : Graph) (stage : Stage Actor) (past : List Entry) : Type 0 where
  pub follows : Follows config graph stage past
  pub shaken : IsKept config stage
  pub counted : AreLeftCounted config is_left stage

-- so it goes where a machine is replaced by one that takes its place
pub goes_replaced : (config : Config) (graph : Graph) (stage : Stage Actor) (past_entries : List Entry) (number : ℕ) (before next_actor : Actor) (before_there : slice_get stage.machines number ≡ Some before) (takes : TakesPlace config number before next_actor)
    → Goes config graph stage past_entries → Goes config graph (replaced config stage number before next_actor before_there takes) past_entries
goes_replaced config graph stage past_entries number before next_actor before_there takes goes_so_far = record {
  follows = follows_replaced config stage number before next_actor before_there takes graph past_entries goes_so_far.follows;
  shaken = kept_replaced config stage number before next_actor before_there takes goes_so_far.shaken;
  counted = counted_replaced config stage number before next_actor before_there takes goes_so_far.counted;
}

-- an event, of a machine that is there or not
pub goes_event : (change : Change) → PausesByParts change → (config : Config) (graph : Graph) (stage : Stage Actor) (past_entries : List Entry) (event : Event Order) → Goes config graph stage past_entries → Goes config graph (act (kind change config) stage event) (past_entries ++ told config stage event)
unfolding act told kind
goes_event change law config graph stage past_entries event goes_so_far = record {
  follows = by_machine (slice_get stage.machines event.number) refl;
  shaken = shaken_step config (kind change config) standing stage event goes_so_far.shaken (event_obeys change config stage event (λ actor has_actor. number_of config stage.words _ _ event.number actor actor.machine (known actor has_actor)) (λ actor has_actor. can_go config stage.words _ _ event.number actor actor.machine (known actor has_actor)));
  counted = counted_step config (kind change config) is_left stage event goes_so_far.counted (event_counts change config stage event (λ actor has_actor. can_go config stage.words _ _ event.number actor actor.machine (known actor has_actor)));
}
  where
    known : (actor : Actor) → slice_get stage.machines event.number ≡ Some actor
        → IsMachine config stage.words (world_of config stage goes_so_far.follows.block goes_so_far.follows.ghost (after graph past_entries)) (of_thread past_entries (event.number + 1)) event.number actor actor.machine
    known = goes_so_far.follows.machines event.number

    same : Follows config graph stage (past_entries ++ [])
    same = subst (λ entry_list. Follows config graph stage entry_list) (sym (append-nil past_entries)) goes_so_far.follows

    by_order : (actor : Actor) (holds : Bool) → slice_get stage.machines event.number ≡ Some actor → takes_of actor.machine event.order ≡ holds
        → Follows config graph (if holds then moved (kind change config) stage event.number actor event.order else stage) (past_entries ++ (if holds then told_by config stage actor event.order actor.machine else []))
    by_order actor true actor_there takes = follows_order change law config graph stage past_entries event.number event.order actor.command actor.calls actor.machine actor_there takes goes_so_far.follows goes_so_far.shaken
    by_order actor false actor_there takes = same

    by_machine : (found : Option Actor) → slice_get stage.machines event.number ≡ found → Follows config graph (act_of (kind change config) stage event found) (past_entries ++ told_of_machine config stage event found)
    by_machine None found_there = same
    by_machine (Some actor) found_there = by_order actor (takes_of actor.machine event.order) found_there refl

-- a run
pub goes_run : (change : Change) → PausesByParts change → (config : Config) (graph : Graph) (stage : Stage Actor) (past_entries : List Entry) (events : List (Event Order)) → Goes config graph stage past_entries → Goes config graph (go (kind change config) stage events) (past_entries ++ history change config stage events)
unfolding go history
goes_run change law config graph stage past_entries [] goes_so_far = subst (λ past_entries. Goes config graph stage past_entries) (sym (append-nil past_entries)) goes_so_far
goes_run change law config graph stage past_entries (event ∷ events) goes_so_far =
    subst (λ past_entries. Goes config graph (go (kind change config) (act (kind change config) stage event) events) past_entries) (append_assoc past_entries (told config stage event) (history change config (act (kind change config) stage event) events))
    (goes_run change law config graph (act (kind change config) stage event) (past_entries ++ told config stage event) events (goes_event change law config graph stage past_entries event goes_so_far))
