-- A table has no word for a seat that is none.
use Rattle.std.proofs.Common.{◌≡◌, ℕ, ◌≤◌, List}
use Rattle.std.proofs.lemmas.Bool.{le-ltb}
use Rattle.heap_words.specs.declared.config.Config.{Config}
use Rattle.heap_words.specs.Ranges.{seat_count}
use Rattle.heap_words.specs.Words.{Current, view}
use Rattle.heap_words.proofs.Stores.{view_none}

pub no_seat : (config : Config) (words : List ℕ) (seat : ℕ) → seat_count config.mutators config.helpers ≤ seat → view config words (Current seat) ≡ 0
no_seat config words seat seat_past = view_none config words (Current seat) (le-ltb seat (seat_count config.mutators config.helpers) seat_past)
