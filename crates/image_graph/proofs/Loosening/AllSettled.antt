-- Buffers are settled: words that hold a graph hold it, where the free words of a buffer that does not end at the top of its region only fill.
use Rattle.std.proofs.Common.{◌≡◌, ◌≢◌, ℕ, ◌-◌, ◌<◌, ◌≤◌, ◌⊎◌, Bool, true, false, Option, Some, None, inl, inr, ⊎_elim, refl, sym, ap, ◌∙◌, subst, arith}
use Rattle.std.specs.Prelude.{◌==◌, if◌then◌else◌}
use Rattle.std.specs.Option.{option_map}
use Rattle.std.proofs.Math.Path.{fun_ext}
use Rattle.std.proofs.lemmas.Bool.{cases_eq, cases_lt, cond-true, cond-false, eq-eqb, ne_eqb}
use Rattle.std.proofs.lemmas.Option.{none-some, same_Some}
use Rattle.heap_words.specs.declared.config.Config.{Config}
use Rattle.heap_words.specs.Ranges.{seat_count}
use Rattle.heap_words.specs.Words.{Word, Top, Current}
use Rattle.heap_words.specs.Encoding.{next_in, end_in}
use Rattle.shen_graph.specs.Graph.{Graph}
use Rattle.heap_world.specs.World.{Block, filler, spare, Plot}
use Rattle.heap_world.proofs.FunctionUpdates.{updated_same, updated_there, updated_else}
use Rattle.image_graph.specs.Promised.{Promises}
use Rattle.image_graph.specs.Holds.{HoldsBy}
use Rattle.image_graph.specs.SeatBuffers.{is_last}
use Rattle.image_graph.specs.Settled.{buffers_settled}
use Rattle.image_graph.proofs.OneTurn.{last_same}
use Rattle.image_graph.proofs.Settling.{settling_leaves}
use Rattle.image_graph.proofs.Refitted.{refitted, tops_of, heap_of, currents_of}
use Rattle.image_graph.proofs.SeatTurns.{IsDropped, KeepsFilling, settled_by_turns}
use Rattle.image_graph.specs.Buffers.{settled_piece, settled_block}
use Rattle.image_graph.proofs.Loosening.Loosened.{loosened_none, loosened_on}
use Rattle.image_graph.proofs.Loosening.OneBuffer as turn
use Rattle.image_graph.proofs.Loosening.OneBuffer.{HoldsLoosened}
use Rattle.image_graph.proofs.Loosening.DividedPieces.{spare_seats}

-- The pieces as the words of buffers tell: the free words of a seat that has no buffer any more only fill.
abbrev left_piece : (Word → ℕ) → Block → Block
left_piece memory (spare seat words) = if memory (Current seat) == 0 then filler words else spare seat words
left_piece memory piece = piece

abbrev left_block : (Word → ℕ) → Plot → Plot
left_block memory block address = option_map (left_piece memory) (block address)

-- pieces are changed alike where free words are
module _ (block : Plot) (change other_change : Block → Block) (alike : (some_piece : Block) → ((seat words : ℕ) → some_piece ≡ spare seat words → ⊥) → change some_piece ≡ other_change some_piece) (address : ℕ)
    (spares : (seat words : ℕ) → block address ≡ Some (spare seat words) → change (spare seat words) ≡ other_change (spare seat words)) where
  by_piece : (piece : Block) → block address ≡ Some piece → change piece ≡ other_change piece
  by_piece (spare seat words) piece_there = spares seat words piece_there
  by_piece piece piece_there = alike piece (λ some_seat some_words wrong. cc)

  by_option : (found : Option Block) → block address ≡ found → option_map change found ≡ option_map other_change found
  by_option None found_is = refl
  by_option (Some piece) found_is = ap Some (by_piece piece found_is)

  same_pieces : option_map change (block address) ≡ option_map other_change (block address)
  same_pieces = by_option (block address) refl

-- all other pieces stay
left_else : (memory : Word → ℕ) (piece : Block) → ((seat words : ℕ) → piece ≡ spare seat words → ⊥) → left_piece memory piece ≡ piece
left_else memory (spare seat words) not_spare = absurd (not_spare seat words refl)
left_else memory _ not_spare = refl

settled_else : (config : Config) (memory : Word → ℕ) (piece : Block) → ((seat words : ℕ) → piece ≡ spare seat words → ⊥) → settled_piece config memory piece ≡ piece
settled_else config memory (spare seat words) not_spare = absurd (not_spare seat words refl)
settled_else config memory _ not_spare = refl

-- free words that are left are those of a seat that has a buffer
left_spare : (memory : Word → ℕ) (block : Plot) (address seat words : ℕ) → left_block memory block address ≡ Some (spare seat words) → block address ≡ Some (spare seat words)
left_spare memory block address seat words spare_there = by_option (block address) refl spare_there
  where
    by_test : (other_seat words_more : ℕ) (lost : Bool) → (if lost then filler words_more else spare other_seat words_more) ≡ spare seat words → spare other_seat words_more ≡ spare seat words
    by_test other_seat words_more true wrong = cc
    by_test other_seat words_more false same_piece = same_piece

    by_piece : (old_piece : Block) → block address ≡ Some old_piece → left_piece memory old_piece ≡ spare seat words → block address ≡ Some (spare seat words)
    by_piece (spare other_seat other_words) piece_there same_piece = piece_there ∙ ap Some (by_test other_seat other_words (memory (Current other_seat) == 0) same_piece)
    by_piece _ piece_there wrong = cc

    by_option : (found : Option Block) → block address ≡ found → option_map (left_piece memory) found ≡ Some (spare seat words) → block address ≡ Some (spare seat words)
    by_option None found_is wrong = absurd (none-some (spare seat words) wrong)
    by_option (Some old_piece) found_is same_piece = by_piece old_piece found_is (same_Some (left_piece memory old_piece) (spare seat words) same_piece)

module _ (config : Config) (other_memory : Word → ℕ) (block : Plot) (owner : ℕ → Option ℕ) (promises : Promises) (graph : Graph) (holds : HoldsBy config other_memory block owner promises graph) where
  -- free words that are a piece are a seat's
  own_words : (address seat words : ℕ) → block address ≡ Some (spare seat words) → (other_memory (Current seat) ≢ 0) × (next_in (other_memory (Current seat)) < end_in (other_memory (Current seat)))
  own_words address seat words spare_there =
      let own_buffer = holds.buffers.spares address seat words spare_there in
      let long_piece = holds.pieces.some address (spare seat words) spare_there in
      let buffer_is = own_buffer.0 in
      let words_are = own_buffer.1 in
      (spare_seats config other_memory block owner promises graph holds address seat words spare_there, omega (arith, buffer_is, words_are, long_piece))

  -- What holds from one turn to the next: tops are as they were, a buffer with free words stays or was not the last, and the words hold the
  -- graph by the pieces of which they tell.
  record SettledSoFar (n : Word → ℕ) : Type 0 where
    tops : (region : ℕ) → n (Top region) ≡ other_memory (Top region)
    currents : (seat : ℕ) → next_in (other_memory (Current seat)) < end_in (other_memory (Current seat)) → (n (Current seat) ≡ other_memory (Current seat)) ⊎ ((n (Current seat) ≡ 0) × (is_last config other_memory (other_memory (Current seat)) ≡ false))
    left : HoldsLoosened config other_memory n block (left_block n block) owner promises graph

  -- pieces are left alike where free words are
  left_same : (next_memory memory : Word → ℕ) (address : ℕ) → ((seat words : ℕ) → block address ≡ Some (spare seat words) → (next_memory (Current seat) == 0) ≡ (memory (Current seat) == 0)) → left_block next_memory block address ≡ left_block memory block address
  left_same next_memory memory address same_emptiness = same_pieces block (left_piece next_memory) (left_piece memory) (λ piece not_spare. left_else next_memory piece not_spare ∙ sym (left_else memory piece not_spare)) address
      (λ seat words spare_there. ap (λ emptied. if emptied then filler words else spare seat words) (same_emptiness seat words spare_there))

  left_first : block ≡ left_block other_memory block
  left_first = fun_ext (λ address. by_option address (block address) refl)
    where
      by_piece : (address : ℕ) (piece : Block) → block address ≡ Some piece → piece ≡ left_piece other_memory piece
      by_piece address (spare seat words) piece_there = sym (cond-false (other_memory (Current seat) == 0) (filler words) (spare seat words) (ne_eqb (other_memory (Current seat)) 0 (own_words address seat words piece_there).0))
      by_piece address _ piece_there = refl

      by_option : (address : ℕ) (found : Option Block) → block address ≡ found → block address ≡ option_map (left_piece other_memory) found
      by_option address None found_is = found_is
      by_option address (Some piece) found_is = found_is ∙ ap Some (by_piece address piece found_is)

  first : SettledSoFar other_memory
  first = record {
    tops = λ region. refl;
    currents = λ seat free_words. inl refl;
    left = subst (λ plot. HoldsLoosened config other_memory other_memory block plot owner promises graph) left_first (record { loosened = loosened_none other_memory block (λ address words filler_there. holds.pieces.some address (filler words) filler_there); holds = holds });
  }

  -- One turn more.
  module _ (turned_memory : Word → ℕ) (so_far : SettledSoFar turned_memory) where
    abbrev plot : Plot
    plot = left_block turned_memory block

    abbrev held : HoldsBy config turned_memory plot owner promises graph
    held = so_far.left.holds

    -- the words of a buffer in the pieces that are left
    left_there : (address seat words : ℕ) → block address ≡ Some (spare seat words) → turned_memory (Current seat) ≢ 0 → plot address ≡ Some (spare seat words)
    left_there address seat words spare_there some_buffer = ap (option_map (left_piece turned_memory)) spare_there ∙ ap Some (cond-false (turned_memory (Current seat) == 0) (filler words) (spare seat words) (ne_eqb (turned_memory (Current seat)) 0 some_buffer))

    next_turn : (memory : Word → ℕ) (other_plot : Plot) → other_plot ≡ left_block memory block → HoldsLoosened config turned_memory memory plot other_plot owner promises graph → HoldsLoosened config other_memory memory block (left_block memory block) owner promises graph
    next_turn memory other_plot same_plot next_holds = subst (λ plot. HoldsLoosened config other_memory memory block plot owner promises graph) same_plot
        (record { loosened = loosened_on other_memory turned_memory memory block plot other_plot so_far.left.loosened next_holds.loosened; holds = next_holds.holds })

    module _ (current : ℕ → ℕ) (dropped : (seat : ℕ) → IsDropped (currents_of turned_memory) current seat) where
      same_test : (address seat words : ℕ) → block address ≡ Some (spare seat words) → (turned_memory (Current seat) == 0) ≡ (current seat == 0)
      same_test address seat words spare_there = ⊎_elim
          (λ (same_current : current seat ≡ turned_memory (Current seat)). ap (λ word_now. word_now == 0) (sym same_current))
          (λ (buffer_gone : (current seat ≡ 0) × (end_in (turned_memory (Current seat)) ≤ next_in (turned_memory (Current seat)))). ⊎_elim
          (λ (no_buffer : turned_memory (Current seat) ≡ 0). ap (λ word_now. word_now == 0) (no_buffer ∙ sym buffer_gone.0))
          (λ (some_buffer : turned_memory (Current seat) ≢ 0).
          let still_there = left_there address seat words spare_there some_buffer in
          let own_buffer = held.buffers.spares address seat words still_there in
          let long_piece = held.pieces.some address (spare seat words) still_there in
          let buffer_is = own_buffer.0 in
          let words_are = own_buffer.1 in
          let empty = buffer_gone.1 in
          absurd (omega (arith, buffer_is, words_are, long_piece, empty)))
          (cases_eq (turned_memory (Current seat)) 0))
          (dropped seat)

      after_drops : SettledSoFar (refitted turned_memory (tops_of turned_memory) (heap_of turned_memory) current)
      after_drops = record {
        tops = so_far.tops;
        currents = λ seat free_words. ⊎_elim
            (λ (same_current : current seat ≡ turned_memory (Current seat)). subst (λ word_now. (word_now ≡ other_memory (Current seat)) ⊎ ((word_now ≡ 0) × (is_last config other_memory (other_memory (Current seat)) ≡ false))) (sym same_current) (so_far.currents seat free_words))
            (λ (buffer_gone : (current seat ≡ 0) × (end_in (turned_memory (Current seat)) ≤ next_in (turned_memory (Current seat)))). ⊎_elim
            (λ (as_before : turned_memory (Current seat) ≡ other_memory (Current seat)). let empty : end_in (other_memory (Current seat)) ≤ next_in (other_memory (Current seat)) = subst (λ word_now. end_in word_now ≤ next_in word_now) as_before buffer_gone.1 in absurd (omega (arith, empty, free_words)))
            (λ (not_last : (turned_memory (Current seat) ≡ 0) × (is_last config other_memory (other_memory (Current seat)) ≡ false)). inr (buffer_gone.0, not_last.1))
            (so_far.currents seat free_words))
            (dropped seat);
        left = next_turn (refitted turned_memory (tops_of turned_memory) (heap_of turned_memory) current) plot (fun_ext (λ address. left_same turned_memory (refitted turned_memory (tops_of turned_memory) (heap_of turned_memory) current) address (same_test address)))
            (turn.drops config turned_memory plot owner promises graph held current dropped);
      }

    module _ (seat word : ℕ) (current_is : turned_memory (Current seat) ≡ word) (some_word : word ≢ 0) (more_words : next_in word < end_in word) (not_last : is_last config turned_memory word ≡ false) where
      abbrev after : Word → ℕ
      after = turn.fills_words config turned_memory plot owner promises graph held seat word current_is some_word more_words

      own_gone : after (Current seat) ≡ 0
      own_gone = updated_there (currents_of turned_memory) seat 0

      others_stay : (other_seat : ℕ) → seat ≢ other_seat → after (Current other_seat) ≡ turned_memory (Current other_seat)
      others_stay other_seat differs = updated_else (currents_of turned_memory) seat 0 other_seat differs

      same_plot : (address : ℕ) → turn.fills_plot config turned_memory plot owner promises graph held seat word current_is some_word more_words address ≡ left_block after block address
      same_plot address = ⊎_elim
          (λ (same_address : next_in word ≡ address).
          let spare_there = left_spare turned_memory block (next_in word) seat (end_in word - next_in word) (turn.free_piece config turned_memory plot owner promises graph held seat word current_is some_word more_words) in
          updated_same plot (next_in word) (Some (filler (end_in word - next_in word))) address same_address
          ∙ sym (ap (λ value. left_block after block value) (sym same_address) ∙ ap (option_map (left_piece after)) spare_there
          ∙ ap Some (cond-true (after (Current seat) == 0) (filler (end_in word - next_in word)) (spare seat (end_in word - next_in word)) (eq-eqb (after (Current seat)) 0 own_gone))))
          (λ (away : next_in word ≢ address).
          updated_else plot (next_in word) (Some (filler (end_in word - next_in word))) address away
          ∙ left_same turned_memory after address (λ other_seat words spare_there. ⊎_elim
          (λ (same_seat : seat ≡ other_seat).
          let own_word : turned_memory (Current other_seat) ≡ word = ap (λ seat. turned_memory (Current seat)) (sym same_seat) ∙ current_is in
          let begins = (held.buffers.spares address other_seat words (left_there address other_seat words spare_there (λ no_buffer. some_word (sym own_word ∙ no_buffer)))).0 in
          absurd (away (sym (ap next_in own_word) ∙ begins)))
          (λ (differs : seat ≢ other_seat). ap (λ value. value == 0) (sym (others_stay other_seat differs)))
          (cases_eq seat other_seat)))
          (cases_eq (next_in word) address)

      after_fills : SettledSoFar after
      after_fills = record {
        tops = so_far.tops;
        currents = λ other_seat free_words. ⊎_elim
            (λ (same_seat : seat ≡ other_seat). ⊎_elim
            (λ (as_before : turned_memory (Current other_seat) ≡ other_memory (Current other_seat)).
            let own_word : word ≡ other_memory (Current other_seat) = sym current_is ∙ ap (λ seat. turned_memory (Current seat)) same_seat ∙ as_before in
            inr (ap (λ seat. after (Current seat)) (sym same_seat) ∙ own_gone, ap (is_last config other_memory) (sym own_word) ∙ sym (last_same config other_memory turned_memory word so_far.tops) ∙ not_last))
            (λ (buffer_gone : (turned_memory (Current other_seat) ≡ 0) × (is_last config other_memory (other_memory (Current other_seat)) ≡ false)). absurd (some_word (sym current_is ∙ ap (λ seat. turned_memory (Current seat)) same_seat ∙ buffer_gone.0)))
            (so_far.currents other_seat free_words))
            (λ (differs : seat ≢ other_seat). subst (λ word_now. (word_now ≡ other_memory (Current other_seat)) ⊎ ((word_now ≡ 0) × (is_last config other_memory (other_memory (Current other_seat)) ≡ false))) (sym (others_stay other_seat differs)) (so_far.currents other_seat free_words))
            (cases_eq seat other_seat);
        left = next_turn after (turn.fills_plot config turned_memory plot owner promises graph held seat word current_is some_word more_words) (fun_ext same_plot) (turn.fills config turned_memory plot owner promises graph held seat word current_is some_word more_words);
      }

  keeps : KeepsFilling config SettledSoFar
  keeps = record { drops = after_drops; fills = after_fills }

  -- After all turns the pieces are those of settled buffers.
  module _ (seats : (seat : ℕ) → seat_count config.mutators config.helpers ≤ seat → other_memory (Current seat) ≡ 0) where
    abbrev settled : Word → ℕ
    settled = buffers_settled config other_memory

    settled_so : SettledSoFar settled
    settled_so = settled_by_turns config SettledSoFar keeps other_memory first (seat_count config.mutators config.helpers)

    same_end : (address : ℕ) → left_block settled block address ≡ settled_block config other_memory block address
    same_end address = same_pieces block (left_piece settled) (settled_piece config other_memory) (λ piece not_spare. left_else settled piece not_spare ∙ sym (settled_else config other_memory piece not_spare)) address (λ seat words spare_there.
        let own_buffer = own_words address seat words spare_there in
        let seated : seat < seat_count config.mutators config.helpers = ⊎_elim (λ seat_below. seat_below) (λ seat_past. absurd (own_buffer.0 (seats seat seat_past))) (cases_lt seat (seat_count config.mutators config.helpers)) in
        ⊎_elim
        (λ (same_current : settled (Current seat) ≡ other_memory (Current seat)).
        let buffer_last : is_last config other_memory (other_memory (Current seat)) ≡ true = ⊎_elim
        (λ no_buffer. absurd (own_buffer.0 (sym same_current ∙ no_buffer)))
        (λ is_last_one. sym (last_same config other_memory settled (other_memory (Current seat)) settled_so.tops) ∙ ap (is_last config settled) (sym same_current) ∙ is_last_one)
        ((settling_leaves config other_memory).last seat seated) in
        cond-false (settled (Current seat) == 0) (filler words) (spare seat words) (ne_eqb (settled (Current seat)) 0 (λ no_buffer. own_buffer.0 (sym same_current ∙ no_buffer)))
        ∙ sym (cond-true (is_last config other_memory (other_memory (Current seat))) (spare seat words) (filler words) buffer_last))
        (λ (buffer_gone : (settled (Current seat) ≡ 0) × (is_last config other_memory (other_memory (Current seat)) ≡ false)).
        cond-true (settled (Current seat) == 0) (filler words) (spare seat words) (eq-eqb (settled (Current seat)) 0 buffer_gone.0)
        ∙ sym (cond-false (is_last config other_memory (other_memory (Current seat))) (spare seat words) (filler words) buffer_gone.1))
        (settled_so.currents seat own_buffer.1))

    pub settled_holds : HoldsLoosened config other_memory settled block (settled_block config other_memory block) owner promises graph
    settled_holds = subst (λ plot. HoldsLoosened config other_memory settled block plot owner promises graph) (fun_ext same_end) settled_so.left
