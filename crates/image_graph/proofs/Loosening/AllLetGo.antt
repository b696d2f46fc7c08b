-- Buffers are let go: words that hold a graph hold it, by pieces of which none is room.
use Rattle.std.proofs.Common.{◌≡◌, ◌≢◌, ℕ, ◌-◌, ◌<◌, true, Option, ⊎_elim, refl, sym, ap, ◌∙◌, subst}
use Rattle.std.proofs.lemmas.Bool.{cases_eq}
use Rattle.heap_words.specs.declared.config.Config.{Config}
use Rattle.heap_words.specs.Words.{Word, Top, Current}
use Rattle.heap_words.specs.Encoding.{next_in, end_in}
use Rattle.regions.specs.Place.{base_of}
use Rattle.shen_graph.specs.Graph.{Graph}
use Rattle.heap_world.specs.World.{filler, Plot, HasNoRoom}
use Rattle.heap_world.proofs.FunctionUpdates.{updated_same, updated_else}
use Rattle.image_graph.specs.Promised.{Promises}
use Rattle.image_graph.specs.Holds.{HoldsBy}
use Rattle.image_graph.specs.SeatBuffers.{buffer_region, is_last}
use Rattle.image_graph.specs.LetGo.{let_go}
use Rattle.image_graph.proofs.Refitted.{refitted, tops_of, heap_of, currents_of}
use Rattle.image_graph.proofs.SeatTurns.{IsDropped, AllHaveFree, KeepsTurns, let_go_by_turns, none_at_all}
use Rattle.image_graph.specs.Buffers.{HasNoMoreSeats}
use Rattle.image_graph.proofs.Loosening.DividedPieces.{none_have_room}
use Rattle.image_graph.proofs.Loosening.Loosened.{loosened_none, loosened_on}
use Rattle.image_graph.proofs.Loosening.OneBuffer as turn
use Rattle.image_graph.proofs.Loosening.OneBuffer.{HoldsLoosened}

-- A top is as it was, or fell to where the free words of a buffer begin, which ended there.
pub data IsLowered (config : Config) (memory next_memory : Word → ℕ) (region : ℕ) : Type 0 where
  as_it_was : next_memory (Top region) ≡ memory (Top region) → IsLowered config memory next_memory region
  given_back : (seat : ℕ) → memory (Current seat) ≢ 0 → next_in (memory (Current seat)) < end_in (memory (Current seat)) → buffer_region config (memory (Current seat)) ≡ region
      → next_memory (Top region) ≡ next_in (memory (Current seat)) - base_of config region → IsLowered config memory next_memory region

-- The words hold the graph by pieces of which all but loose ones are the same, and tops fell for buffers alone.
pub record HasLetGo (config : Config) (memory next_memory : Word → ℕ) (block : Plot) (owner : ℕ → Option ℕ) (promises : Promises) (graph : Graph) : Type 0 where
  pub plot : Plot
  pub left : HoldsLoosened config memory next_memory block plot owner promises graph
  pub tops : (region : ℕ) → IsLowered config memory next_memory region

-- a top that fell stays where it was let fall, where the next words have it
lowered_on : (config : Config) (first_memory second_memory third_memory : Word → ℕ) (region : ℕ) → third_memory (Top region) ≡ second_memory (Top region) → IsLowered config first_memory second_memory region → IsLowered config first_memory third_memory region
lowered_on config memory middle_memory third_memory region same_top (IsLowered.as_it_was as_before) = IsLowered.as_it_was (same_top ∙ as_before)
lowered_on config memory middle_memory third_memory region same_top (IsLowered.given_back seat has_buffer has_room of_region top) = IsLowered.given_back seat has_buffer has_room of_region (same_top ∙ top)

module _ (config : Config) (old_memory : Word → ℕ) (block : Plot) (owner : ℕ → Option ℕ) (promises : Promises) (graph : Graph) (holds : HoldsBy config old_memory block owner promises graph) where
  -- what stands from one turn to the next
  abbrev Stand : (Word → ℕ) → Type 0
  Stand turn_memory = HasLetGo config old_memory turn_memory block owner promises graph

  first : Stand old_memory
  first = record {
    plot = block;
    left = record { loosened = loosened_none old_memory block (λ address words piece_there. holds.pieces.some address (filler words) piece_there); holds = holds };
    tops = λ region. IsLowered.as_it_was refl;
  }

  module _ (turn_memory : Word → ℕ) (so_far : Stand turn_memory) where
    on : (memory : Word → ℕ) (later_plot : Plot) → HoldsLoosened config turn_memory memory so_far.plot later_plot owner promises graph → HoldsLoosened config old_memory memory block later_plot owner promises graph
    on memory later_plot next_holds = record { loosened = loosened_on old_memory turn_memory memory block so_far.plot later_plot so_far.left.loosened next_holds.loosened; holds = next_holds.holds }

    drops : (current : ℕ → ℕ) → ((seat : ℕ) → IsDropped (currents_of turn_memory) current seat) → Stand (refitted turn_memory (tops_of turn_memory) (heap_of turn_memory) current)
    drops current dropped = record {
      plot = so_far.plot;
      left = on (refitted turn_memory (tops_of turn_memory) (heap_of turn_memory) current) so_far.plot (turn.drops config turn_memory so_far.plot owner promises graph so_far.left.holds current dropped);
      tops = λ region. lowered_on config old_memory turn_memory (refitted turn_memory (tops_of turn_memory) (heap_of turn_memory) current) region refl (so_far.tops region);
    }

    module _ (seat word : ℕ) (seat_word : turn_memory (Current seat) ≡ word) (some_word : word ≢ 0) (has_room : next_in word < end_in word) where
      fills : Stand (turn.fills_words config turn_memory so_far.plot owner promises graph so_far.left.holds seat word seat_word some_word has_room)
      fills = record {
        plot = turn.fills_plot config turn_memory so_far.plot owner promises graph so_far.left.holds seat word seat_word some_word has_room;
        left = on (turn.fills_words config turn_memory so_far.plot owner promises graph so_far.left.holds seat word seat_word some_word has_room) (turn.fills_plot config turn_memory so_far.plot owner promises graph so_far.left.holds seat word seat_word some_word has_room)
            (turn.fills config turn_memory so_far.plot owner promises graph so_far.left.holds seat word seat_word some_word has_room);
        tops = λ region. lowered_on config old_memory turn_memory (turn.fills_words config turn_memory so_far.plot owner promises graph so_far.left.holds seat word seat_word some_word has_room) region refl (so_far.tops region);
      }

      module _ (last_buffer : is_last config turn_memory word ≡ true) (all_free : AllHaveFree turn_memory) where
        abbrev after : Word → ℕ
        after = turn.gives_words config turn_memory so_far.plot owner promises graph so_far.left.holds seat word seat_word some_word has_room last_buffer all_free

        -- the buffer was there from the beginning
        its : old_memory (Current seat) ≡ word
        its = sym (so_far.left.loosened.fewer seat (λ no_word. some_word (sym seat_word ∙ no_word))) ∙ seat_word

        tops : (region : ℕ) → IsLowered config old_memory after region
        tops region = ⊎_elim
            (λ (right_region : buffer_region config word ≡ region).
            IsLowered.given_back seat (λ no_word. some_word (sym its ∙ no_word)) (subst (λ buffer_word. next_in buffer_word < end_in buffer_word) (sym its) has_room) (ap (buffer_region config) its ∙ right_region)
            (updated_same (tops_of turn_memory) (buffer_region config word) (next_in word - base_of config (buffer_region config word)) region right_region ∙ ap (λ some_region. next_in word - base_of config some_region) right_region ∙ ap (λ buffer_word. next_in buffer_word - base_of config region) (sym its)))
            (λ (other_region : buffer_region config word ≢ region). lowered_on config old_memory turn_memory after region (updated_else (tops_of turn_memory) (buffer_region config word) (next_in word - base_of config (buffer_region config word)) region other_region) (so_far.tops region))
            (cases_eq (buffer_region config word) region)

        gives : Stand after
        gives = record {
          plot = turn.gives_plot config turn_memory so_far.plot owner promises graph so_far.left.holds seat word seat_word some_word has_room last_buffer all_free;
          left = on after (turn.gives_plot config turn_memory so_far.plot owner promises graph so_far.left.holds seat word seat_word some_word has_room last_buffer all_free) (turn.gives config turn_memory so_far.plot owner promises graph so_far.left.holds seat word seat_word some_word has_room last_buffer all_free);
          tops = tops;
        }

  keeps : KeepsTurns config Stand
  keeps = record {
    filling = record { drops = drops; fills = λ turns so_far seat word seat_word some_word has_room not_last. fills turns so_far seat word seat_word some_word has_room };
    lies = λ turns so_far. turn.lies config turns so_far.plot owner promises graph so_far.left.holds;
    gives = gives;
  }

  module _ (seats : HasNoMoreSeats config old_memory) where
    pub has_let_go : HasLetGo config old_memory (let_go config old_memory) block owner promises graph
    has_let_go = let_go_by_turns config Stand keeps old_memory seats first

    -- nobody has a buffer then, and no piece is room
    pub let_go_seats : (seat : ℕ) → let_go config old_memory (Current seat) ≡ 0
    let_go_seats = none_at_all config Stand keeps old_memory seats

    pub let_go_none : HasNoRoom has_let_go.plot
    let_go_none = none_have_room config (let_go config old_memory) has_let_go.plot owner promises graph has_let_go.left.holds let_go_seats
