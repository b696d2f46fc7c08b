-- Settling and letting go keep what words represent: so it is where one buffer goes.
use Rattle.std.proofs.Common.{◌≡◌, ◌≢◌, ℕ, ◌+◌, ◌-◌, ◌<◌, ◌≤◌, Some, ⊎_elim, sym, ◌∙◌, subst, arith}
use Rattle.std.proofs.lemmas.Bool.{eqb-true}
use Rattle.heap_words.specs.declared.config.Config.{Config}
use Rattle.heap_words.specs.Ranges.{seat_count}
use Rattle.heap_words.specs.Encoding.{next_in, end_in}
use Rattle.heap_words.specs.Words.{Word, Top, Current}
use Rattle.regions.specs.Place.{base_of}
use Rattle.shen_graph.specs.Graph.{Graph}
use Rattle.heap_world.specs.World.{spare, Plot, IsBuffer}
use Rattle.heap_world.specs.Asking.{Asking}
use Rattle.heap_world.specs.Represents.{RepresentsWith}
use Rattle.image_graph.specs.SeatBuffers.{buffer_region, IsInside}
use Rattle.image_graph.specs.Settled.{buffers_settled}
use Rattle.image_graph.specs.LetGo.{let_go}
use Rattle.image_graph.proofs.Refitted.{tops_of}
use Rattle.image_graph.proofs.Inside.{buffer_inside}
use Rattle.image_graph.proofs.StandsStill.{IsOfRoots}
use Rattle.image_graph.proofs.SeatTurns.{KeepsFilling, KeepsTurns, settled_by_turns, trimmed_by_turns, let_go_by_turns}
use Rattle.image_graph.proofs.Trimmed.{trim}
use Rattle.image_graph.proofs.Emptied.{rebuffered}
use Rattle.image_graph.proofs.BufferFilled.{filled_stands}
use Rattle.image_graph.proofs.GivenBack.{back_stands}

module _ (Asks : (Word → ℕ) → Plot → Type 0) (of_roots : IsOfRoots Asks) (config : Config) (graph : Graph) (asking : ℕ → Asking) where
  -- what words represent
  abbrev Stand : (Word → ℕ) → Type 0
  Stand memory = RepresentsWith (Asks memory) config memory graph asking

  module _ (memory : Word → ℕ) (stand : Stand memory) (seat word : ℕ) (current_word : memory (Current seat) ≡ word) (some_word : word ≢ 0) where
    its : IsBuffer config (tops_of memory) stand.block seat word
    its = subst (IsBuffer config (tops_of memory) stand.block seat) current_word (stand.shared.owned.buffers.each seat (λ no_word. some_word (sym current_word ∙ no_word)))

    lies : IsInside config word
    lies = buffer_inside config (tops_of memory) stand.block seat word its (stand.shared.parsable.plotted.tops its.region its.within)

    -- its free words are a piece
    free_piece : next_in word < end_in word → stand.block (next_in word) ≡ Some (spare seat (end_in word - next_in word))
    free_piece some_free = ⊎_elim (λ piece_there. piece_there) (λ is_carved. absurd (stand.uncarved is_carved.0 seat is_carved.1 is_carved.2)) (its.free some_free)

  keeps_filling : KeepsFilling config Stand
  keeps_filling = record {
    drops = λ memory represents. rebuffered Asks of_roots config memory graph asking represents;
    fills = λ memory represents seat word current_word some_word some_free not_last. filled_stands Asks of_roots config memory graph asking represents seat (next_in word) (end_in word - next_in word) (free_piece memory represents seat word current_word some_word some_free);
  }

  keeps_turns : KeepsTurns config Stand
  keeps_turns = record {
    filling = keeps_filling;
    lies = lies;
    gives = λ memory represents seat word current_word some_word some_free buffer_last full.
        let end : end_in word ≡ base_of config (buffer_region config word) + memory (Top (buffer_region config word)) = eqb-true (end_in word) (base_of config (buffer_region config word) + memory (Top (buffer_region config word))) buffer_last in
        back_stands Asks of_roots config memory graph asking represents seat (next_in word) (end_in word - next_in word) (buffer_region config word) (free_piece memory represents seat word current_word some_word some_free)
        (lies memory represents seat word current_word some_word).region (lies memory represents seat word current_word some_word).from_base (omega (arith, some_free, end)) full;
  }

  pub settled_stands : (memory : Word → ℕ) → Stand memory → Stand (buffers_settled config memory)
  settled_stands memory stand = settled_by_turns config Stand keeps_filling memory stand (seat_count config.mutators config.helpers)

  pub let_go_stands : (memory : Word → ℕ) → ((seat : ℕ) → seat_count config.mutators config.helpers ≤ seat → memory (Current seat) ≡ 0) → Stand memory → Stand (let_go config memory)
  let_go_stands memory none_beyond = let_go_by_turns config Stand keeps_turns memory none_beyond

  pub let_go_trims : (memory : Word → ℕ) → Stand memory → Stand (trim (let_go config memory))
  let_go_trims memory stand = trimmed_by_turns config Stand keeps_turns memory stand
