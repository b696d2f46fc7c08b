-- When an item is done.
use Rattle.std.proofs.Common.{◌≡◌, ◌<◌, ℕ, true, false, length, ap, ◌∙◌, arith}
use Rattle.std.specs.Prelude.{nat_le}
use Rattle.std.proofs.lemmas.List.{length-map}
use Rattle.heap_words.specs.declared.place.Place.{Place}
use Rattle.heap_words.specs.declared.schedule.Item.TheVariants.{Until, Replies}
use Rattle.heap_machines.specs.Shown.{shown}
use Rattle.heap_machines.specs.Turn.{order_for}
use Rattle.shen_graph.specs.Work as work
use Rattle.step_core.specs.Machines.{is_machine_at}
use Rattle.shen_core.specs.declared.plain.Plain.{Plain}
use Rattle.shen_core.specs.State.{config_of, seats_of, machine_at, machines_of}
use Rattle.shen_core.specs.Progress.{Jobs, next_for}
use Rattle.shen_core.proofs.Turns.{stands_shown}
use Rattle.shen_core.proofs.Going.{given_told, until_there, until_move, replies_given, replies_move}
use Rattle.shen_core.specs.Nexts.{IsOver, WalksOn}

-- the machine of a seat
pub seat_within : (plain : Plain) (number : ℕ) → number < seats_of plain → number < length (machines_of plain)
seat_within plain number seat_below = omega (arith, length-map plain.machines.items shown, plain.all_machines, seat_below)

module _ (plain : Plain) (jobs : Jobs) (number : ℕ) where
  -- where the machine stands at the place, the item is done
  pub until_over : (place : Place) → number < seats_of plain → is_machine_at place (machine_at plain number) (order_for (next_for (config_of plain) jobs number) (machine_at plain number)) ≡ true → IsOver plain jobs (Until number place)
  until_over place seat_below at_place scripts stage shows tells = until_there (config_of plain) scripts stage number place (stands_shown plain jobs number place (seat_within plain number seat_below) scripts stage shows tells ∙ at_place)

  -- before that it is not
  pub until_goes_on : (place : Place) → number < seats_of plain → is_machine_at place (machine_at plain number) (order_for (next_for (config_of plain) jobs number) (machine_at plain number)) ≡ false → WalksOn plain jobs (Until number place)
  until_goes_on place seat_below away scripts stage shows tells = until_move (config_of plain) scripts stage number place (stands_shown plain jobs number place (seat_within plain number seat_below) scripts stage shows tells ∙ away)

  -- where the replies are given, the item is done
  pub replies_over : (count : ℕ) → number < (config_of plain).mutators → nat_le count (length (work.replies_of jobs number)) ≡ true → IsOver plain jobs (Replies number count)
  replies_over count mutator_below enough scripts s shows tells = replies_given (config_of plain) scripts s number count (ap (nat_le count) (given_told plain jobs number scripts s (seat_within plain number (omega (arith, mutator_below))) mutator_below shows tells) ∙ enough)

  -- before that it is not
  pub replies_go_on : (count : ℕ) → number < (config_of plain).mutators → nat_le count (length (work.replies_of jobs number)) ≡ false → WalksOn plain jobs (Replies number count)
  replies_go_on count mutator_below few_replies scripts s shows tells = replies_move (config_of plain) scripts s number count (ap (nat_le count) (given_told plain jobs number scripts s (seat_within plain number (omega (arith, mutator_below))) mutator_below shows tells) ∙ few_replies)
