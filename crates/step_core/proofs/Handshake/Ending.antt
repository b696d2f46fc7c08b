-- The word of the end: only the control writes it, when it ends.
use Rattle.std.proofs.Common.{◌≡◌, ℕ, false, List, [], ◌∷◌, ◌++◌, Some, refl, sym, ap, ◌∙◌}
use Rattle.std.specs.Prelude.{slice_get}
use Rattle.std.proofs.lemmas.Bool.{true≢false}
use Rattle.heap_words.specs.declared.config.Config.{Config}
use Rattle.heap_words.specs.Words.{Phase, Cset, End, view}
use Rattle.heap_words.specs.Steps.{Stage, Event, act, go}
use Rattle.shen_graph.specs.Graph.{Graph}
use Rattle.shen_graph.specs.declared.order.Order.{Order}
use Rattle.shen_graph.specs.History.{Entry}
use Rattle.heap_world.specs.Change.{Change}
use Rattle.collector_rows.specs.ByParts.{PausesByParts}
use Rattle.handshake.specs.Ending.{EventKeepsEnd, EachKeepsEnd, IsEndWord}
use Rattle.handshake.proofs.Ending.{known_run}
use Rattle.collector_rows.specs.ControlRows.{is_gone}
use Rattle.step_core.specs.Actor.{Machine, controlling, Actor}
use Rattle.step_core.specs.Machines.{IsIdle, kind, has_ended_of}
use Rattle.step_core.specs.Begins.{Begins}
use Rattle.step_core.specs.History.{told}
use Rattle.step_core.specs.Ending.{has_ended}
use Rattle.step_core.proofs.Machines.Roles.{CanGo, can_go, machine_keeps_end}
use Rattle.step_core.proofs.Theorem.Induction.{Goes, goes_event}
use Rattle.step_core.proofs.Theorem.Beginning.{goes_begins}

event_keeps_end : (change : Change) (config : Config) (stage : Stage Actor) (event : Event Order) → ((actor : Actor) → slice_get stage.machines event.number ≡ Some actor → CanGo config actor.machine)
    → EventKeepsEnd config (kind change config) has_ended stage event
unfolding kind
event_keeps_end change config stage event may_go actor is = machine_keeps_end change config event.order actor.machine is.takes (may_go actor is.here)

-- and each event of a run
each_keeps_end : (change : Change) → PausesByParts change → (config : Config) (graph : Graph) (stage : Stage Actor) (past : List Entry) (events : List (Event Order)) → Goes config graph stage past
    → EachKeepsEnd config (kind change config) has_ended stage events
each_keeps_end change law config graph stage past [] stage_goes = tt
each_keeps_end change law config graph stage past (event ∷ events) stage_goes = (
  event_keeps_end change config stage event (λ actor actor_there. can_go config stage.words _ _ event.number actor actor.machine (stage_goes.follows.machines event.number actor actor_there)),
  each_keeps_end change law config graph (act (kind change config) stage event) (past ++ told config stage event) events (goes_event change law config graph stage past event stage_goes),
)

-- who is idle has not ended
idle_goes : (phase cset : ℕ) (graph : Graph) (number : ℕ) (machine : Machine) → IsIdle phase cset graph number machine → has_ended_of machine ≡ false
idle_goes phase cset graph number (controlling control) idle = ap is_gone idle.0
idle_goes phase cset graph number _ idle = refl

-- The word of the end is 1 where the control has ended and 0 where it has not, in each stage that events lead to from one in which it is 0.
pub run_ends : (change : Change) → PausesByParts change → (config : Config) (stage : Stage Actor) (graph : Graph) → Begins config stage graph → view config stage.words End ≡ 0 → (events : List (Event Order))
    → IsEndWord config has_ended (go (kind change config) stage events)
run_ends change law config stage graph begins zero events =
    known_run config (kind change config) has_ended stage events
    (record {
      words = begins.words;
      one = λ number actor actor_there actor_ended. absurd (true≢false (sym actor_ended ∙ idle_goes (view config stage.words Phase) (view config stage.words Cset) graph number actor.machine (begins.machines number actor actor_there).idle));
      none = λ none_ended. zero;
    })
    (each_keeps_end change law config graph stage [] events (goes_begins config stage graph begins))
