-- What is to be done of a schedule that is walked event by event.
use Rattle.std.specs.Prelude.{ℕ, ◌≡◌, ◌+◌, ◌-◌, ◌*◌, ◌≤◌, length, Bool, true, false, List, [], ◌∷◌, ◌++◌, map, drop, All, Option, Some, None, IfSome}
use Rattle.heap_words.specs.declared.config.Config.{Config}
use Rattle.heap_words.specs.Ranges.{seat_count}
use Rattle.heap_words.specs.declared.schedule.Item.{Item}
use Rattle.heap_words.specs.declared.schedule.Item.TheVariants.{Steps, Until, Replies}
use Rattle.step_core.specs.Schedule.{Task, steps, until, replies, task_of, control_after, Agenda}
use Rattle.shen_core.specs.Progress.{IsInSeats}
use Rattle.shen_core.specs.declared.walk.Walk.{Walk}

-- the machine of an item
abbrev pub agenda_number : Item → ℕ
agenda_number (Steps number count) = number
agenda_number (Until number place) = number
agenda_number (Replies number count) = number

-- what is left of an item after an event of it
abbrev pub left_of : Item → Item
left_of (Steps number count) = Steps number (count - 1)
left_of (Until number place) = Until number place
left_of (Replies number count) = Replies number count

-- whether the control makes a step after one of the item that waits
abbrev pub wakes : Item → Bool
wakes (Steps number count) = false
wakes (Until number place) = false
wakes (Replies number count) = true

-- what is to be done of an item after an event of it, by whether that waited
abbrev pub tasks_after : Bool → Item → List Task
tasks_after waiting (Steps number count) = steps number (count - 1) ∷ []
tasks_after waiting (Until number place) = until number place ∷ []
tasks_after waiting (Replies number count) = control_after waiting ++ replies number count ∷ []

abbrev pub tasks_of : Option Item → List Task
tasks_of None = []
tasks_of (Some item) = task_of item ∷ []

-- the items that have not begun
abbrev pub later_in : Walk → List Task
later_in walk = map task_of (drop walk.begun walk.schedule)

-- what is to be done: the control's step if it is due, what is left of the item at work, the items after it, and then rounds
abbrev pub agenda_in : Walk → Agenda
agenda_in walk = record { tasks = control_after walk.control_due ++ (tasks_of walk.present ++ later_in walk); from = walk.from }

-- what is to be done after the next event: of the control if its step is due, else of the item at work, else of the rounds
abbrev pub after_by : Bool → Option Item → List Task → ℕ → ℕ → Bool → Agenda
after_by true present later from number waiting = record { tasks = tasks_of present ++ later; from = from }
after_by false (Some item) later from number waiting = record { tasks = tasks_after waiting item ++ later; from = from }
after_by false None later from number waiting = record { tasks = []; from = number + 1 }

abbrev pub agenda_after : Walk → ℕ → Bool → Agenda
agenda_after walk number waiting = after_by walk.control_due walk.present (later_in walk) walk.from number waiting

-- what is left of the items: one for that at work, two for each that has not begun
abbrev pub weight_of : Option Item → ℕ
weight_of None = 0
weight_of (Some item) = 1

abbrev pub weight_in : Walk → ℕ
weight_in walk = 2 * (length walk.schedule - walk.begun) + weight_of walk.present

-- the machines of a walk are those of the heap
pub record IsWalkOf (config : Config) (walk : Walk) : Type 0 where
  pub items : All (IsInSeats config) walk.schedule
  pub present : IfSome walk.present (IsInSeats config)
  pub from : walk.from ≤ seat_count config.mutators config.helpers

-- only rounds are left
pub record HasNoItem (walk : Walk) : Type 0 where
  pub control : walk.control_due ≡ false
  pub present : walk.present ≡ None
  pub later : drop walk.begun walk.schedule ≡ []
