-- How a heap begins: one object, the hub, in root 0 of each mutator.
use Rattle.std.specs.Prelude.{ℕ, zero, suc, ◌+◌, ◌-◌, ◌^◌, List, [], map, replicate, slice_set, nat_lt, if◌then◌else◌}
use Rattle.std.specs.List.{range_with_len}
use Rattle.heap_words.specs.declared.config.Config.{Config}
use Rattle.heap_words.specs.Ranges.{seat_count}
use Rattle.heap_words.specs.Words.{Word, Left, Free, Top, Root, Heap, word_at, table_words}
use Rattle.heap_words.specs.Encoding.{plain_header, shape_word, name_code}
use Rattle.heap_words.specs.Steps.{Stage}
use Rattle.shen_graph.specs.declared.command.Command.TheVariants.{Gc}
use Rattle.mutator.specs.Rows.{fresh_mutator}
use Rattle.step_core.specs.Actor.{Machine, mutating, fresh_helper, fresh_control, Actor}

-- the table after a number was stored at a word
abbrev pub stored : Config → Word → ℕ → List ℕ → List ℕ
stored config word value words = slice_set words (word_at config word) value

-- the table after the hub was stored into root 0 of so many mutators
abbrev pub rooted : Config → ℕ → List ℕ → List ℕ
rooted config zero words = words
rooted config (suc mutator) words = stored config (Root mutator 0) config.region_words (rooted config mutator words)

-- the free word in which only region 0 is in use
abbrev pub first_free : ℕ → ℕ
first_free regions = 2 ^ regions - 2

-- the words: the hub stands at the base of region 0, with header, shape, name and 16 null references
abbrev pub opening_words : Config → List ℕ
opening_words config =
    stored config (Heap (config.region_words + 2)) (name_code 0 1)
    (stored config (Heap (config.region_words + 1)) (shape_word 16 0)
    (stored config (Heap config.region_words) plain_header
    (stored config (Top 0) 19
    (stored config Free (first_free config.regions)
    (stored config Left config.mutators
    (rooted config config.mutators (replicate (table_words config) 0)))))))

-- the machine of a number: the mutators come first, then the helpers, then the control
abbrev pub opening_machine : Config → ℕ → Machine
opening_machine config number =
    if nat_lt number config.mutators then mutating (fresh_mutator number)
    else (if nat_lt number (config.mutators + config.helpers) then fresh_helper number else fresh_control (first_free config.regions))

abbrev pub opening_actor : Config → ℕ → Actor
opening_actor config number = record { machine = opening_machine config number; command = Gc; calls = [] }

-- the stage before the first event
unfoldable pub opening : Config → Stage Actor
opening config = record {
  words = opening_words config;
  machines = map (opening_actor config) (range_with_len 0 (seat_count config.mutators config.helpers));
}
