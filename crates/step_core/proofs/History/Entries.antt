-- Histories that grow, by the entry of a mutator or by more.
use Rattle.std.proofs.Common.{◌≡◌, ◌≢◌, ℕ, ◌+◌, true, false, List, [], ◌∷◌, ◌++◌, Option, Some, None, refl, ap, ◌∙◌, arith, ◌<◌}
use Rattle.std.specs.Prelude.{◌==◌, if◌then◌else◌, All}
use Rattle.std.proofs.lemmas.Bool.Decides.{nat_tests}
use Rattle.std.proofs.lemmas.List.Elements.{filter-append, All-nil, All-cons}
use Rattle.std.proofs.lemmas.List.{append-nil}
use Rattle.heap_words.specs.declared.config.Config.{Config}
use Rattle.shen_graph.specs.declared.command.Command.{Command}
use Rattle.shen_graph.specs.declared.command.Reply.{Reply}
use Rattle.shen_graph.specs.Graph.{Graph}
use Rattle.shen_graph.specs.History.{Entry, after_entry, after, EachIsLegal, of_thread}
use Rattle.std.proofs.lemmas.Bool.{and_parts}
use Rattle.shen_graph.specs.declared.order.Order.{Order}
use Rattle.shen_graph.specs.declared.order.Order.TheVariants.{Nothing, Begin, End, Hint}
use Rattle.mutator.specs.declared.spot.Spot.{Spot}
use Rattle.mutator.specs.declared.spot.Spot.TheVariants.{Rest, Ended}
use Rattle.mutator.specs.Orders.{is_valid, takes_at}
use Rattle.step_core.specs.Threads.{IsSettled}
use Rattle.step_core.specs.Actor.{entry_of, entries_of, command_by}
use Rattle.step_core.proofs.Machines.Stepped.{graph_by, LegalBy}

-- the graph after two histories
pub after-append : (graph : Graph) (past_entries later_entries : List Entry) → after graph (past_entries ++ later_entries) ≡ after (after graph past_entries) later_entries
after-append graph [] later_entries = refl
after-append graph (entry ∷ past_entries) later_entries = after-append (after_entry graph entry) past_entries later_entries

-- two legal histories are one
pub legal-append : (regions region_words : ℕ) (graph : Graph) (past_entries later_entries : List Entry)
    → EachIsLegal regions region_words graph past_entries → EachIsLegal regions region_words (after graph past_entries) later_entries → EachIsLegal regions region_words graph (past_entries ++ later_entries)
legal-append regions region_words graph [] later_entries legal rest = rest
legal-append regions region_words graph (entry ∷ past_entries) later_entries legal rest = (legal.0, legal-append regions region_words (after_entry graph entry) past_entries later_entries legal.1 rest)

-- the entry that a step of a mutator settles leads to the graph that it says
pub graph_settled : (graph : Graph) (seat : ℕ) (command : Command) (found : Option Reply) → graph_by graph seat command found ≡ after graph (entries_of seat command found)
graph_settled graph seat command None = refl
graph_settled graph seat command (Some found) = refl

-- and is legal where it says so
pub legal_settled : (config : Config) (graph : Graph) (seat : ℕ) (command : Command) (found : Option Reply) → LegalBy config graph seat command found → EachIsLegal config.regions config.region_words graph (entries_of seat command found)
legal_settled config graph seat command None legal = tt
legal_settled config graph seat command (Some found) legal = (legal, tt)

-- the mutator's own entries grow by the entry
pub own_more : (past_entries : List Entry) (seat : ℕ) (command : Command) (found : Option Reply) → of_thread (past_entries ++ entries_of seat command found) (seat + 1) ≡ of_thread past_entries (seat + 1) ++ entries_of seat command found
own_more past_entries seat command None = filter-append _ past_entries []
own_more past_entries seat command (Some found) = filter-append _ past_entries _ ∙ ap (λ own_thread. of_thread past_entries (seat + 1) ++ (if own_thread then entry_of seat command found ∷ [] else [])) same
  where
    same : ((seat + 1) == (seat + 1)) ≡ true
    same = grind (arith, nat_tests)

-- those of another do not
pub other_more : (past_entries : List Entry) (seat : ℕ) (command : Command) (found : Option Reply) (number : ℕ) → number ≢ seat → of_thread (past_entries ++ entries_of seat command found) (number + 1) ≡ of_thread past_entries (number + 1)
other_more past_entries seat command None number not_seat = ap (λ entry_list. of_thread entry_list (number + 1)) (append-nil past_entries)
other_more past_entries seat command (Some found) number not_seat = filter-append _ past_entries _ ∙ ap (λ own_thread. of_thread past_entries (number + 1) ++ (if own_thread then entry_of seat command found ∷ [] else [])) differs ∙ append-nil _
  where
    differs : ((seat + 1) == (number + 1)) ≡ false
    differs = grind (arith, nat_tests)

-- a command that is begun is in range
begun_valid : (spot : Spot) (made : ℕ) (command : Command) → takes_at spot made (Begin command) ≡ true → is_valid command ≡ true
begun_valid Rest made command takes = (and_parts _ _ takes).0
begun_valid (Ended reply) made command takes = (and_parts _ _ takes).0
begun_valid _ made command takes = cc

-- so is that of a call after any order that is taken
pub command_valid : (spot : Spot) (made : ℕ) (order : Order) (command : Command) → takes_at spot made order ≡ true → is_valid command ≡ true → is_valid (command_by order command) ≡ true
command_valid spot made Nothing command takes valid_command = valid_command
command_valid spot made (Begin begun_command) command takes valid_command = begun_valid spot made begun_command takes
command_valid spot made End command takes valid_command = valid_command
command_valid spot made (Hint address) command takes valid_command = valid_command

-- the entry of a mutator
pub entries_settled : (threads seat : ℕ) (command : Command) (found : Option Reply) → seat < threads → is_valid command ≡ true → All (IsSettled threads) (entries_of seat command found)
entries_settled threads seat command None seat_below valid_command = All-nil (IsSettled threads)
entries_settled threads seat command (Some reply) seat_below valid_command =
    All-cons (IsSettled threads) _ [] (record { least = omega arith; most = omega (arith, seat_below); valid = valid_command }) (All-nil (IsSettled threads))
