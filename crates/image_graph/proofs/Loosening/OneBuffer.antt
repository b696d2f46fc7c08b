-- One buffer goes: words that hold a graph hold it by pieces of which all but loose ones are the same.
use Rattle.std.proofs.Common.{◌≡◌, ◌≢◌, ℕ, ◌+◌, ◌-◌, ◌<◌, ◌⊎◌, true, false, Option, Some, None, inl, inr, ⊎_elim, refl, sym, ap, ◌∙◌, subst, arith}
use Rattle.std.proofs.lemmas.Bool.{cases_eq, true≢false, eqb-true}
use Rattle.std.proofs.lemmas.Option.{none-some, same_Some}
use Rattle.heap_words.specs.declared.config.Config.{Config}
use Rattle.heap_words.specs.Words.{Word, Top, Current, Heap}
use Rattle.heap_words.specs.Encoding.{filler_header, next_in, end_in}
use Rattle.regions.specs.Place.{base_of}
use Rattle.shen_graph.specs.Graph.{Graph}
use Rattle.heap_world.specs.World.{Block, filler, spare, words_of, room_of, is_loose, Plot, IsBuffer, AreBuffers}
use Rattle.heap_world.proofs.FunctionUpdates.{updated, updated_same, updated_there, updated_else}
use Rattle.heap_world.proofs.Pieces.{piece_cases}
use Rattle.heap_world.proofs.Apart.{far}
use Rattle.image_graph.specs.Promised.{Promises}
use Rattle.image_graph.specs.Holds.{HoldsBy}
use Rattle.image_graph.specs.SeatBuffers.{buffer_region, is_last, IsInside}
use Rattle.image_graph.proofs.Refitted.{refitted, tops_of, heap_of, currents_of}
use Rattle.image_graph.proofs.SeatTurns.{IsDropped, AllHaveFree}
use Rattle.image_graph.proofs.Inside.{buffer_inside}
use Rattle.image_graph.proofs.Emptied.{buffers_dropped, dropped_fewer, without_fewer}
use Rattle.image_graph.proofs.Without.{buffers_without, buffers_cut}
use Rattle.image_graph.proofs.CutOff.{CanCutOff, falls, stays, came, plotted_without, filled_without}
use Rattle.image_graph.proofs.Loosening.Resized.{IsResized, resized_plotted, resized_filled}
use Rattle.image_graph.proofs.Loosening.Loosened.{is_of_buffers, IsLoosened, loosened_holds}

-- other words stay where only tops, words of the heap and buffers change
refitted_others : (memory : Word → ℕ) (top heap current : ℕ → ℕ) (word : Word) → is_of_buffers word ≡ false → refitted memory top heap current word ≡ memory word
refitted_others memory top heap current (Heap address) not_of_buffers = absurd (true≢false not_of_buffers)
refitted_others memory top heap current (Top region) not_of_buffers = absurd (true≢false not_of_buffers)
refitted_others memory top heap current (Current seat) not_of_buffers = absurd (true≢false not_of_buffers)
refitted_others memory top heap current _ not_of_buffers = refl

-- The words hold the graph by other pieces, of which all but loose ones are the same.
pub record HoldsLoosened (config : Config) (memory next_memory : Word → ℕ) (block plot : Plot) (owner : ℕ → Option ℕ) (promises : Promises) (graph : Graph) : Type 0 where
  pub loosened : IsLoosened memory next_memory block plot
  pub holds : HoldsBy config next_memory plot owner promises graph

module _ (config : Config) (memory : Word → ℕ) (block : Plot) (owner : ℕ → Option ℕ) (promises : Promises) (graph : Graph) (holds : HoldsBy config memory block owner promises graph) where
  -- buffers without free words are dropped
  module _ (current : ℕ → ℕ) (dropped : (seat : ℕ) → IsDropped (currents_of memory) current seat) where
    abbrev without_them : Word → ℕ
    without_them = refitted memory (tops_of memory) (heap_of memory) current

    pub drops : HoldsLoosened config memory without_them block block owner promises graph
    drops =
        let loosened : IsLoosened memory without_them block block = record {
          same = record { stays = λ place piece fixed piece_there. piece_there; came = λ place piece fixed piece_there. piece_there };
          rooms = λ place seat room_piece piece_there room. piece_there;
          some = λ place words piece_there. holds.pieces.some place (filler words) piece_there;
          words = λ place offset piece fixed piece_there word_below. refl;
          headers = λ address words piece_there. inr (piece_there, refl);
          others = refitted_others memory (tops_of memory) (heap_of memory) current;
          lower = λ region. omega arith;
          fewer = dropped_fewer (currents_of memory) current dropped;
        } in
        record {
          loosened = loosened;
          holds = loosened_holds config memory without_them block block owner promises graph holds loosened holds.objects.plotted holds.filled
              (buffers_dropped config (tops_of memory) (currents_of memory) current block dropped (λ place seat free_words piece_there. holds.pieces.some place (spare seat free_words) piece_there) holds.buffers);
        }

  module _ (seat word : ℕ) (current_is : memory (Current seat) ≡ word) (some_word : word ≢ 0) where
    its : IsBuffer config (tops_of memory) block seat word
    its = subst (IsBuffer config (tops_of memory) block seat) current_is (holds.buffers.each seat (λ no_buffer. some_word (sym current_is ∙ no_buffer)))

    pub lies : IsInside config word
    lies = buffer_inside config (tops_of memory) block seat word its (holds.objects.plotted.tops its.region its.within)

    module _ (more_words : next_in word < end_in word) where
      -- its free words are a piece
      abbrev pub free : Block
      free = spare seat (end_in word - next_in word)

      pub free_piece : block (next_in word) ≡ Some free
      free_piece = ⊎_elim (λ piece_there. piece_there) (λ held_back. absurd (holds.pieces.uncarved held_back.0 seat held_back.1 held_back.2)) (its.free more_words)

      -- the piece of another seat lies elsewhere
      elsewhere : (address other_seat words : ℕ) → other_seat ≢ seat → block address ≡ Some (spare other_seat words) → address ≢ next_in word
      elsewhere address other_seat words differs spare_there same_address = differs (let both_there = same_Some (spare other_seat words) free (sym spare_there ∙ ap block same_address ∙ free_piece) in cc)

      -- They become words that only fill.
      abbrev pub fills_words : Word → ℕ
      fills_words = refitted memory (tops_of memory) (updated (heap_of memory) (next_in word) (filler_header (end_in word - next_in word))) (updated (currents_of memory) seat 0)

      abbrev pub fills_plot : Plot
      fills_plot = updated block (next_in word) (Some (filler (end_in word - next_in word)))

      cases : (address : ℕ) (piece : Block) → fills_plot address ≡ Some piece → ((address ≡ next_in word) × (filler (end_in word - next_in word) ≡ piece)) ⊎ ((address ≢ next_in word) × (block address ≡ Some piece))
      cases = piece_cases block (next_in word) (filler (end_in word - next_in word))

      -- a piece of another kind than words that only fill was there
      was_there : (address : ℕ) (piece : Block) → (filler (end_in word - next_in word) ≡ piece → ⊥) → fills_plot address ≡ Some piece → (address ≢ next_in word) × (block address ≡ Some piece)
      was_there address piece differs piece_there = ⊎_elim (λ filled_now. absurd (differs filled_now.1)) (λ stood_before. stood_before) (cases address piece piece_there)

      resized : IsResized block fills_plot
      resized = record {
        from = λ address piece piece_there. ⊎_elim
            (λ (filled_now : (address ≡ next_in word) × (filler (end_in word - next_in word) ≡ piece)). (free, ap block filled_now.0 ∙ free_piece, ap words_of filled_now.1))
            (λ (stood_before : (address ≢ next_in word) × (block address ≡ Some piece)). (piece, stood_before.1, refl))
            (cases address piece piece_there);
        to = λ place old_piece piece_there. ⊎_elim
            (λ (same_address : next_in word ≡ place). (filler (end_in word - next_in word), updated_same block (next_in word) (Some (filler (end_in word - next_in word))) place same_address))
            (λ (elsewhere : next_in word ≢ place). (old_piece, updated_else block (next_in word) (Some (filler (end_in word - next_in word))) place elsewhere ∙ piece_there))
            (cases_eq (next_in word) place);
      }

      -- a piece that is not loose stays, and lies elsewhere
      fixed_elsewhere : (address : ℕ) (piece : Block) → is_loose piece ≡ false → block address ≡ Some piece → next_in word ≢ address
      fixed_elsewhere address piece fixed piece_there same_address = true≢false (ap is_loose (same_Some free piece (sym free_piece ∙ ap block same_address ∙ piece_there)) ∙ fixed)

      not_fixed : (piece : Block) → is_loose piece ≡ false → filler (end_in word - next_in word) ≡ piece → ⊥
      not_fixed piece fixed same_piece = true≢false (ap is_loose same_piece ∙ fixed)

      heap_else : (address : ℕ) → next_in word ≢ address → fills_words (Heap address) ≡ memory (Heap address)
      heap_else address other_address = updated_else (heap_of memory) (next_in word) (filler_header (end_in word - next_in word)) address other_address

      fills_loosened : IsLoosened memory fills_words block fills_plot
      fills_loosened = record {
        same = record {
          stays = λ address piece fixed piece_there. updated_else block (next_in word) (Some (filler (end_in word - next_in word))) address (fixed_elsewhere address piece fixed piece_there) ∙ piece_there;
          came = λ place some_piece fixed piece_there. (was_there place some_piece (not_fixed some_piece fixed) piece_there).1;
        };
        rooms = λ place other_seat some_piece piece_there room. (was_there place some_piece (λ same_piece. none-some other_seat (ap room_of same_piece ∙ room)) piece_there).1;
        some = λ address words piece_there. ⊎_elim
            (λ (filled_now : (address ≡ next_in word) × (filler (end_in word - next_in word) ≡ filler words)). let same_words : end_in word - next_in word ≡ words = ap words_of filled_now.1 in omega (arith, same_words, more_words))
            (λ (stood_before : (address ≢ next_in word) × (block address ≡ Some (filler words))). holds.pieces.some address (filler words) stood_before.1)
            (cases address (filler words) piece_there);
        words = λ place offset some_piece fixed piece_there word_below.
            let words_apart : place + offset ≢ next_in word + 0 = far config (tops_of memory) block holds.objects.plotted place (next_in word) offset 0 some_piece free piece_there free_piece (λ same_address. fixed_elsewhere place some_piece fixed piece_there (sym same_address)) word_below (omega (arith, more_words)) in
            heap_else (place + offset) (λ same_address. words_apart (omega (arith, same_address)));
        headers = λ address words piece_there. ⊎_elim
            (λ (filled_now : (address ≡ next_in word) × (filler (end_in word - next_in word) ≡ filler words)).
            let same_words : end_in word - next_in word ≡ words = ap words_of filled_now.1 in
            inl (ap (λ address. fills_words (Heap address)) filled_now.0 ∙ updated_there (heap_of memory) (next_in word) (filler_header (end_in word - next_in word)) ∙ ap filler_header same_words))
            (λ (stood_before : (address ≢ next_in word) × (block address ≡ Some (filler words))). inr (stood_before.1, heap_else address (λ same_address. stood_before.0 (sym same_address))))
            (cases address (filler words) piece_there);
        others = refitted_others memory (tops_of memory) (updated (heap_of memory) (next_in word) (filler_header (end_in word - next_in word))) (updated (currents_of memory) seat 0);
        lower = λ region. omega arith;
        fewer = without_fewer (currents_of memory) seat;
      }

      fills_buffers : AreBuffers config (tops_of memory) (updated (currents_of memory) seat 0) fills_plot
      fills_buffers = buffers_without config (tops_of memory) (tops_of memory) (currents_of memory) block fills_plot seat holds.buffers holds.pieces.uncarved
          (λ address other_seat words differs spare_there. updated_else block (next_in word) (Some (filler (end_in word - next_in word))) address (λ same_address. elsewhere address other_seat words differs spare_there (sym same_address)) ∙ spare_there)
          (λ place other_seat words spare_there.
          let stood_before = was_there place (spare other_seat words) (λ same_piece. cc) spare_there in
          let own_words = holds.buffers.spares place other_seat words stood_before.1 in
          ((λ same_address. stood_before.0 (sym own_words.0 ∙ ap (λ seat. next_in (memory (Current seat))) same_address ∙ ap next_in current_is)), stood_before.1))
          (λ other_seat differs is_some. (holds.buffers.each other_seat is_some).to_top)

      pub fills : HoldsLoosened config memory fills_words block fills_plot owner promises graph
      fills = record {
        loosened = fills_loosened;
        holds = loosened_holds config memory fills_words block fills_plot owner promises graph holds fills_loosened
            (resized_plotted config (tops_of memory) block fills_plot resized holds.objects.plotted) (resized_filled config (tops_of memory) block fills_plot resized holds.filled) fills_buffers;
      }

      -- They are given back, where they end at the top, while each buffer has free words.
      module _ (buffer_last : is_last config memory word ≡ true) (all_have_free : AllHaveFree memory) where
        abbrev region : ℕ
        region = buffer_region config word

        can : CanCutOff config (tops_of memory) block region (next_in word) free
        can =
            let end : end_in word ≡ base_of config region + memory (Top region) = eqb-true (end_in word) (base_of config region + memory (Top region)) buffer_last in
            record {
              plotted = holds.objects.plotted;
              filled = holds.filled;
              long = holds.pieces.some;
              within = lies.region;
              from_base = lies.from_base;
              here = free_piece;
              at_top = omega (arith, more_words, end);
            }

        abbrev pub gives_words : Word → ℕ
        gives_words = refitted memory (updated (tops_of memory) region (next_in word - base_of config region)) (heap_of memory) (updated (currents_of memory) seat 0)

        abbrev pub gives_plot : Plot
        gives_plot = updated block (next_in word) None

        was_left : (address : ℕ) (piece : Block) → gives_plot address ≡ Some piece → (address ≢ next_in word) × (block address ≡ Some piece)
        was_left = came config (tops_of memory) block region (next_in word) free can

        gives_loosened : IsLoosened memory gives_words block gives_plot
        gives_loosened = record {
          same = record {
            stays = λ address piece fixed piece_there. stays config (tops_of memory) block region (next_in word) free can address (λ same_address. fixed_elsewhere address piece fixed piece_there (sym same_address)) ∙ piece_there;
            came = λ place some_piece fixed piece_there. (was_left place some_piece piece_there).1;
          };
          rooms = λ place other_seat some_piece piece_there room. (was_left place some_piece piece_there).1;
          some = λ place words piece_there. holds.pieces.some place (filler words) (was_left place (filler words) piece_there).1;
          words = λ place offset some_piece fixed piece_there word_below. refl;
          headers = λ address words piece_there. inr ((was_left address (filler words) piece_there).1, refl);
          others = refitted_others memory (updated (tops_of memory) region (next_in word - base_of config region)) (heap_of memory) (updated (currents_of memory) seat 0);
          lower = falls config (tops_of memory) block region (next_in word) free can;
          fewer = without_fewer (currents_of memory) seat;
        }

        pub gives : HoldsLoosened config memory gives_words block gives_plot owner promises graph
        gives = record {
          loosened = gives_loosened;
          holds = loosened_holds config memory gives_words block gives_plot owner promises graph holds gives_loosened
              (plotted_without config (tops_of memory) block region (next_in word) free can) (filled_without config (tops_of memory) block region (next_in word) free can)
              (buffers_cut config (tops_of memory) (currents_of memory) block seat (next_in word) (end_in word - next_in word) region can holds.buffers holds.pieces.uncarved all_have_free);
        }
