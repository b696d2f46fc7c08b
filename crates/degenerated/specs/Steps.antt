-- What the steps of finishing a cycle make of the words of an image.
use Rattle.std.specs.Prelude.{ℕ, ◌+◌, ◌==◌, ◌&&◌, nat_le, nat_lt, if◌then◌else◌, Bool, true}
use Rattle.heap_words.specs.declared.config.Config.{Config}
use Rattle.heap_words.specs.Words.{Word, Root, Answer, Heap}
use Rattle.regions.specs.Place.{base_of, region_with}
use Rattle.regions.specs.Table.{now_of}
use Rattle.image_graph.specs.declared.image.Image.{Image}
use Rattle.image_graph.specs.State.{config_of, places_of}
use Rattle.cycle_words.specs.Evacuation.Copied.{copied_out}
use Rattle.cycle_words.specs.Evacuation.Begun.{is_collected}
use Rattle.cycle_words.specs.Finishing.Updated.{is_kept_field}
use Rattle.cycle_words.specs.Finishing.Copies.{is_left, has_copy_room}

-- the words after the turn of an address: an object that is left there was copied out, if some region has room
abbrev pub turn_taken : Config → (Word → ℕ) → ℕ → Word → ℕ
turn_taken config memory address word = if is_left config memory address then copied_out config memory address word else memory word

-- nothing is left at an address, or it finds room
abbrev pub has_turn_room : Config → (Word → ℕ) → ℕ → Bool
has_turn_room config memory address = if is_left config memory address then has_copy_room config memory address else true

-- to what an address leads by the words that an image has kept
abbrev pub kept_now : Image → ℕ → ℕ
kept_now image = now_of (config_of image).region_words (places_of image)

-- What a word becomes, where a function says to what the address of an object of the collection set leads: by the headers as they were
-- before any word was updated.
abbrev pub updated_by : Config → (now : ℕ → ℕ) → (Word → ℕ) → ℕ → ℕ
updated_by config now memory word = if is_collected config memory word then now word else word

-- the words after the references at a set of addresses were updated
abbrev pub fields_updated : Config → (now : ℕ → ℕ) → (ℕ → Bool) → (Word → ℕ) → Word → ℕ
fields_updated config now set memory (Heap address) = if set address && is_kept_field config memory address then updated_by config now memory (memory (Heap address)) else memory (Heap address)
fields_updated config now set memory word = memory word

-- sets of addresses: one, those of a region below an offset, those of a region, and those of so many regions
abbrev pub is_at : ℕ → ℕ → Bool
is_at address asked_address = address == asked_address

abbrev pub is_below : Config → (region offset : ℕ) → ℕ → Bool
is_below config region offset address = nat_le (base_of config region) address && nat_lt address (base_of config region + offset)

abbrev pub is_of : Config → (region : ℕ) → ℕ → Bool
is_of config region address = region_with config address == region

abbrev pub is_of_first : Config → (regions : ℕ) → ℕ → Bool
is_of_first config regions address = nat_lt (region_with config address) regions

-- the words after so many roots of a mutator were updated
abbrev pub row_updated : Config → (now : ℕ → ℕ) → (mutator roots : ℕ) → (Word → ℕ) → Word → ℕ
row_updated config now mutator roots memory (Root asked_mutator index) = if (mutator == asked_mutator) && nat_lt index roots then updated_by config now memory (memory (Root asked_mutator index)) else memory (Root asked_mutator index)
row_updated config now mutator roots memory word = memory word

-- the words after the roots of so many mutators were updated
abbrev pub roots_updated : Config → (now : ℕ → ℕ) → (mutators : ℕ) → (Word → ℕ) → Word → ℕ
roots_updated config now mutators memory (Root mutator index) = if nat_lt mutator mutators && nat_lt index 16 then updated_by config now memory (memory (Root mutator index)) else memory (Root mutator index)
roots_updated config now mutators memory word = memory word

-- the words after the answers of so many mutators were updated
abbrev pub answers_updated : Config → (now : ℕ → ℕ) → (mutators : ℕ) → (Word → ℕ) → Word → ℕ
answers_updated config now mutators memory (Answer mutator) = if nat_lt mutator mutators then updated_by config now memory (memory (Answer mutator)) else memory (Answer mutator)
answers_updated config now mutators memory word = memory word
