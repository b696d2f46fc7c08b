-- Schedules of steps: one more item, and how many bytes the items take.
use Rattle.shen_graph.proofs.Lists.{all_append}
use Rattle.std.proofs.Common.{◌≡◌, ℕ, suc, ◌+◌, ◌*◌, ◌<◌, ◌≤◌, List, [], ◌∷◌, ◌++◌, length, length-append, sym, ap, subst, ◌∙◌, append-nil, arith}
use Rattle.std.specs.List.{flat_map, AllByRecursion}
use Rattle.std.specs.Fmt.{decimal}
use Rattle.std.proofs.lemmas.Fmt.{length-decimal-le}
use Rattle.std.proofs.lemmas.List.Concat.{flat_map-cons}
use Rattle.heap_words.specs.declared.config.Config.{Config}
use Rattle.heap_words.specs.declared.schedule.Item.{Item}
use Rattle.heap_words.specs.declared.schedule.Item.TheVariants.{Steps, Until, Replies}
use Rattle.heap_words.specs.Ranges.{seat_count}
use Rattle.shen_graph.specs.declared.command.Command.{Command}
use Rattle.trace_reading.specs.Spelling.{newline, IsItem, spaced_item, schedule_line, header, line}
use Rattle.trace_reading.specs.Grammar.{most_bytes}
use Rattle.trace_text.specs.Canonical.{lines_from, turns_of, spelling_of, IsWritable}
use Rattle.program_calls.specs.Noted.{IsOfSteps, steps_named}

-- ---- one item more

pub items_one : (config : Config) (old new : List Item) (number count : ℕ) → new ≡ old ++ Steps number count ∷ [] → AllByRecursion (IsItem config) old → number < seat_count config.mutators config.helpers → 0 < count → count ≤ 4000000000
    → AllByRecursion (IsItem config) new
items_one config old new number count new_is all_items seat_there some_count at_most = subst (AllByRecursion (IsItem config)) (sym new_is) (all_append (IsItem config) old ((Steps number count) ∷ []) all_items ((seat_there, (omega (arith, some_count), at_most)), tt))

pub of_steps_one : (old new : List Item) (number count : ℕ) → new ≡ old ++ Steps number count ∷ [] → AllByRecursion IsOfSteps old → AllByRecursion IsOfSteps new
of_steps_one old new number count new_is all_steps = subst (AllByRecursion IsOfSteps) (sym new_is) (all_append IsOfSteps old ((Steps number count) ∷ []) all_steps (tt, tt))

more_one : (items : List Item) (number count : ℕ) → steps_named (items ++ Steps number count ∷ []) ≡ steps_named items + count
more_one [] number count = omega arith
more_one (Steps n steps_wanted ∷ items) number count = let later_items = more_one items number count in omega (arith, later_items)
more_one (Until n place ∷ items) number count = more_one items number count
more_one (Replies n steps_wanted ∷ items) number count = more_one items number count

pub steps_one : (old new : List Item) (number count : ℕ) → new ≡ old ++ Steps number count ∷ [] → steps_named new ≡ steps_named old + count
steps_one old new number count new_is = ap steps_named new_is ∙ more_one old number count

-- ---- the bytes of a text

-- an item of steps has 14 bytes at most, with its space
item_bytes : (config : Config) (item : Item) → IsItem config item → IsOfSteps item → length (spaced_item item) ≤ 14
item_bytes config (Steps number count) good_item steps =
    let small_seat : number + 1 < 100 = omega (arith, good_item.0, config.in_range.most_mutators, config.in_range.most_helpers) in
    let small_count : count < 10000000000 = omega (arith, good_item.1.1) in
    let machine_digits : length (decimal (number + 1)) ≤ 2 = length-decimal-le 2 (number + 1) (omega arith) small_seat (omega (arith, small_seat)) in
    let aimed : length (decimal count) ≤ 10 = length-decimal-le 10 count (omega arith) small_count (omega (arith, small_count)) in
    let length_sum : length (spaced_item (Steps number count)) ≡ suc (length (decimal (number + 1)) + suc (length (decimal count))) = ap suc (length-append (decimal (number + 1)) (58 ∷ decimal count)) in
    omega (arith, machine_digits, aimed, length_sum)
item_bytes config (Until number place) good_item steps = absurd steps
item_bytes config (Replies number count) good_item steps = absurd steps

items_bytes : (config : Config) (items : List Item) → AllByRecursion (IsItem config) items → AllByRecursion IsOfSteps items → length (flat_map spaced_item items) ≤ 14 * length items
items_bytes config [] good_items steps = omega arith
items_bytes config (item ∷ items) good_items steps =
    let length_sum : length (flat_map spaced_item (item ∷ items)) ≡ length (spaced_item item) + length (flat_map spaced_item items) =
    ap length (flat_map-cons spaced_item item items) ∙ length-append (spaced_item item) (flat_map spaced_item items) in
    omega (arith, length_sum, item_bytes config item good_items.0 steps.0, items_bytes config items good_items.1 steps.1)

-- with the mark and the end of their line these take 16 each at most
line_bytes : (items : List Item) → length (schedule_line items) ≡ length (flat_map spaced_item items) + 2
line_bytes items = omega (arith, length-append (flat_map spaced_item items) (newline ∷ []))

schedule_bytes : (config : Config) (items : List Item) → AllByRecursion (IsItem config) items → AllByRecursion IsOfSteps items → length (flat_map schedule_line (turns_of items)) ≤ 16 * length items
schedule_bytes config [] good_items steps = omega arith
schedule_bytes config (item ∷ items) good_items steps =
    omega (arith, items_bytes config (item ∷ items) good_items steps, line_bytes (item ∷ items), ap length (append-nil (schedule_line (item ∷ items))))

-- A trace that can be written can be with another schedule, too, if there is room behind its text.
writable : (version : ℕ) (config : Config) (scripts : List (List Command)) (old new : List Item) → IsWritable version config scripts old → AllByRecursion (IsItem config) new → AllByRecursion IsOfSteps new
    → length (spelling_of version config scripts old) + 16 * length new ≤ most_bytes → IsWritable version config scripts new
writable version config scripts old new can_write good_items steps room_there = record {
  known = can_write.known;
  narrow = can_write.narrow;
  threads = can_write.threads;
  lines_fit = can_write.lines_fit;
  items_fit = good_items;
  short = omega (arith, schedule_bytes config new good_items steps, size old, size new, room_there);
}
  where
    size : (items : List Item) → length (spelling_of version config scripts items) ≡ length (header version config) + (length (flat_map line (lines_from 1 scripts)) + length (flat_map schedule_line (turns_of items)))
    size items =
        length-append (header version config) (flat_map line (lines_from 1 scripts) ++ flat_map schedule_line (turns_of items))
        ∙ ap (λ (n : ℕ). length (header version config) + n) (length-append (flat_map line (lines_from 1 scripts)) (flat_map schedule_line (turns_of items)))

-- the same of the text that was written, and its size
pub fits_behind : (version : ℕ) (config : Config) (scripts : List (List Command)) (old new : List Item) (text : List ℕ) (size count : ℕ) → IsWritable version config scripts old → AllByRecursion (IsItem config) new → AllByRecursion IsOfSteps new
    → text ≡ spelling_of version config scripts old → size ≡ length text → count ≡ length new → size + 16 * count ≤ most_bytes → IsWritable version config scripts new
fits_behind version config scripts old new text size count can_write good_items steps text_is size_is item_count room_there =
    let bytes = size_is ∙ ap length text_is in writable version config scripts old new can_write good_items steps (omega (arith, bytes, item_count, room_there))
