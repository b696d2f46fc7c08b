-- What comes of a heap that was to be renewed: the seats of another one, which goes on with its graph.
use Rattle.std.specs.Prelude.{ℕ, ◌≡◌, ⊤, List, None, Some, slice_get}
use Rattle.heap_words.specs.declared.config.Config.{Config}
use Rattle.heap_words.specs.Words.{End, view}
use Rattle.shen_graph.specs.declared.name.Name.{Name}
use Rattle.shen_graph.specs.declared.order.Order.{Order}
use Rattle.shen_graph.specs.Graph.{Graph}
use Rattle.heap_words.specs.Steps.{Stage, Event}
use Rattle.step_core.specs.Actor.{Actor}
use Rattle.heap_machines.specs.Pause.{pause_image}
use Rattle.step_core.specs.Begins.{Run, Begins, ending, graph_after}
use Rattle.graph_placing.specs.SameGraph.{IsSameAnew}
use Rattle.graph_placing.specs.Renewed.{HoldsNothing, DoesNotFit}
use Rattle.heap_seats.specs.declared.progress.State.TheVariants.{Ended}
use Rattle.heap_seats.specs.declared.renewing.Renewal.{Renewal}
use Rattle.heap_seats.specs.declared.renewing.Renewal.TheVariants.{Renewed, Pinned, TooSmall, NoMemory}
use Rattle.heap_seats.specs.declared.closing.Closing.{Closing}
use Rattle.heap_seats.specs.declared.seat.Seat.{Seat}
use Rattle.heap_seats.specs.FreshSeats.{AreFreshSeats}
use Rattle.heap_seats.specs.GivenUp.{heap_closing, sizes_closing, AreGivenUp, AreAllSeats, IsHistoryOf}
use Rattle.heap_seats.specs.Histories.{led, OfEachBegun}
use Rattle.heap_seats.specs.Seats.{state_in}

-- The graph of a renewed heap: the same up to new names, counted from 1 for each thread. Nothing was pinned, and nothing is.
pub record IsRenewedGraph (threads : ℕ) (before now : Graph) : Type 0 where
  pub unpinned : HoldsNothing threads before
  pub names : Name → Name
  pub same : IsSameAnew names threads before now
  pub no_pins : (thread slot : ℕ) → now.pin thread slot ≡ None

-- why a graph keeps its names: an object is pinned, the objects do not fit, or memory was refused
abbrev pub KeepsNames : Renewal → Config → Graph → Type 0
KeepsNames Renewed config before = ⊥
KeepsNames Pinned config before = HoldsNothing config.mutators before → ⊥
KeepsNames TooSmall config before = DoesNotFit config before
KeepsNames NoMemory config before = ⊤

-- what the graph has become, by what came of the renewal
abbrev pub Becomes : Renewal → Config → Graph → Graph → Type 0
Becomes Renewed config before now = IsRenewedGraph config.mutators before now
Becomes renewal config before now = (now ≡ before) × KeepsNames renewal config before

-- a start begins what has become of a graph
pub record BeginsAfter (config : Config) (start : Stage Actor) (said : Renewal) (before : Graph) : Type 0 where
  pub graph : Graph
  pub begins : Begins config start graph
  pub becomes : Becomes said config before graph

-- Seats before the first event of a heap of these sizes, which begins with what has become of each graph of which this is so. Its control has not
-- ended, so its helpers have work.
pub record BeginSeats (config : Config) (Of : Graph → Type 0) (said : Renewal) (seats : List Seat) : Type 0 where
  pub start : Stage Actor
  pub fresh : AreFreshSeats config start seats
  pub goes_on : view config start.words End ≡ 0
  pub graphs : (before : Graph) → Of before → BeginsAfter config start said before

-- some run leads to a stage, and the graph after it is this one
pub record IsGraphLeft (config : Config) (left : Stage Actor) (graph_then : Graph) : Type 0 where
  pub run : Run config
  pub ends : ending pause_image config run ≡ left
  pub graph : graph_after pause_image config run ≡ graph_then

-- Some events from where a heap began have the history of its seats, and these seats go on with the graph of the stage to which they lead.
pub record AreFollowed (config : Config) (old : Stage Actor) (seats : List Seat) (said : Renewal) (following : List Seat) : Type 0 where
  pub events : List (Event Order)
  pub history : OfEachBegun config old (IsHistoryOf config old seats events)
  pub goes_on : BeginSeats config (IsGraphLeft config (led config old events)) said following

-- each machine has ended
abbrev pub AllEnded : List Seat → Type 0
AllEnded seats = (index : ℕ) (seat : Seat) → slice_get seats index ≡ Some seat → state_in seat ≡ Ended

-- these seats are given up, which are all of a heap, by their numbers, and each has ended
pub record AreToBeRenewed (seats : List Seat) (closing : Closing) : Type 0 where
  pub given : AreGivenUp seats closing
  pub all : AreAllSeats (sizes_closing closing) (heap_closing closing) seats
  pub over : AllEnded seats

abbrev pub MayRenewHeap : Closing → Type 0
MayRenewHeap closing = (seats : List Seat) × AreToBeRenewed seats closing
