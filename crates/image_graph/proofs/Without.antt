-- A seat's buffer goes: the buffers of others are as their words tell still.
use Rattle.std.proofs.Common.{◌≡◌, ◌≢◌, ℕ, ◌+◌, ◌-◌, ◌<◌, ◌≤◌, Some, inl, ⊎_elim, sym, ap, ◌∙◌, subst, arith}
use Rattle.std.proofs.lemmas.Bool.{cases_eq}
use Rattle.std.proofs.lemmas.Option.{same_Some}
use Rattle.heap_words.specs.declared.config.Config.{Config}
use Rattle.heap_words.specs.Encoding.{next_in, end_in}
use Rattle.regions.specs.Place.{base_of}
use Rattle.heap_world.specs.World.{spare, carved, Plot, IsBuffer, AreBuffers}
use Rattle.heap_world.proofs.FunctionUpdates.{updated, updated_same, updated_else}
use Rattle.image_graph.proofs.CutOff.{CanCutOff, lower_top, block_without, top_else, ends, before_it, stays, came}

module _ (config : Config) (top new_top current : ℕ → ℕ) (block plot : Plot) (seat : ℕ) (buffers : AreBuffers config top current block) (uncarved : (any_address any_seat words : ℕ) → block any_address ≡ Some (carved any_seat words) → ⊥) where
  -- Free words of others stay, no others come, and those of the seat are gone; and the others' buffers end below tops.
  pub buffers_without : ((address any_seat words : ℕ) → any_seat ≢ seat → block address ≡ Some (spare any_seat words) → plot address ≡ Some (spare any_seat words))
      → ((address any_seat words : ℕ) → plot address ≡ Some (spare any_seat words) → (any_seat ≢ seat) × (block address ≡ Some (spare any_seat words)))
      → ((any_seat : ℕ) → any_seat ≢ seat → (some_buffer : current any_seat ≢ 0) → end_in (current any_seat) ≤ base_of config (buffers.each any_seat some_buffer).region + new_top (buffers.each any_seat some_buffer).region)
      → AreBuffers config new_top (updated current seat 0) plot
  buffers_without stay came end_low = record {
    each = λ other_seat is_some. ⊎_elim
        (λ (same_seat : seat ≡ other_seat). absurd (is_some (updated_same current seat 0 other_seat same_seat)))
        (λ (seats_differ : seat ≢ other_seat).
        let same_buffer : updated current seat 0 other_seat ≡ current other_seat = updated_else current seat 0 other_seat seats_differ in
        subst (IsBuffer config new_top plot other_seat) (sym same_buffer) (still other_seat (λ same_seat. seats_differ (sym same_seat)) (λ no_buffer. is_some (same_buffer ∙ no_buffer))))
        (cases_eq seat other_seat);
    spares = λ address any_seat words same_buffer.
        let spare_was = came address any_seat words same_buffer in
        subst (λ word. (next_in word ≡ address) × (end_in word ≡ address + words)) (sym (updated_else current seat 0 any_seat (λ same_seat. spare_was.0 (sym same_seat)))) (buffers.spares address any_seat words spare_was.1);
  }
    where
      still : (any_seat : ℕ) → any_seat ≢ seat → current any_seat ≢ 0 → IsBuffer config new_top plot any_seat (current any_seat)
      still any_seat seats_differ some_buffer =
          let buffer_was = buffers.each any_seat some_buffer in
          record {
            region = buffer_was.region;
            within = buffer_was.within;
            from_base = buffer_was.from_base;
            some = buffer_was.some;
            ordered = buffer_was.ordered;
            to_top = end_low any_seat seats_differ some_buffer;
            free = λ words_left. ⊎_elim
                (λ spare_there. inl (stay (next_in (current any_seat)) any_seat (end_in (current any_seat) - next_in (current any_seat)) seats_differ spare_there))
                (λ carved_there. absurd (uncarved carved_there.0 any_seat carved_there.1 carved_there.2))
                (buffer_was.free words_left);
          }

-- The free words of a seat's buffer, which end at the top of a region, are cut off, while each buffer has some.
module _ (config : Config) (top current : ℕ → ℕ) (block : Plot) (seat cut_address words region : ℕ) (can_cut : CanCutOff config top block region cut_address (spare seat words)) (buffers : AreBuffers config top current block)
    (uncarved : (any_address any_seat its_words : ℕ) → block any_address ≡ Some (carved any_seat its_words) → ⊥) (have_words : (any_seat : ℕ) → current any_seat ≢ 0 → next_in (current any_seat) < end_in (current any_seat)) where
  abbrev tops_then : ℕ → ℕ
  tops_then = lower_top config top block region cut_address (spare seat words) can_cut

  abbrev after : Plot
  after = block_without config top block region cut_address (spare seat words) can_cut

  -- another seat's free words are others
  elsewhere : (address any_seat its_words : ℕ) → any_seat ≢ seat → block address ≡ Some (spare any_seat its_words) → address ≢ cut_address
  elsewhere address any_seat its_words seats_differ spare_there same_address = seats_differ (let same_piece = same_Some (spare any_seat its_words) (spare seat words) (sym spare_there ∙ ap block same_address ∙ can_cut.here) in cc)

  ends_below : (any_seat : ℕ) → any_seat ≢ seat → (some_buffer : current any_seat ≢ 0) → end_in (current any_seat) ≤ base_of config (buffers.each any_seat some_buffer).region + tops_then (buffers.each any_seat some_buffer).region
  ends_below any_seat seats_differ some_buffer =
      let buffer_was = buffers.each any_seat some_buffer in
      let words_left = have_words any_seat some_buffer in
      let piece_there : block (next_in (current any_seat)) ≡ Some (spare any_seat (end_in (current any_seat) - next_in (current any_seat))) = ⊎_elim (λ spare_there. spare_there) (λ carved_there. absurd (uncarved carved_there.0 any_seat carved_there.1 carved_there.2)) (buffer_was.free words_left) in
      ⊎_elim
      (λ (same_region : buffer_was.region ≡ region).
      let end_below_top : end_in (current any_seat) ≤ base_of config region + top region = subst (λ asked_region. end_in (current any_seat) ≤ base_of config asked_region + top asked_region) same_region buffer_was.to_top in
      let end_before_cut = before_it config top block region cut_address (spare seat words) can_cut (next_in (current any_seat)) (spare any_seat (end_in (current any_seat) - next_in (current any_seat))) (elsewhere (next_in (current any_seat)) any_seat (end_in (current any_seat) - next_in (current any_seat)) seats_differ piece_there) piece_there (omega (arith, words_left, end_below_top)) in
      let cut_end = ends config top block region cut_address (spare seat words) can_cut in
      subst (λ asked_region. end_in (current any_seat) ≤ base_of config asked_region + tops_then asked_region) (sym same_region) (omega (arith, end_before_cut, cut_end, words_left)))
      (λ (other_region : buffer_was.region ≢ region). (let top_stays = top_else config top block region cut_address (spare seat words) can_cut buffer_was.region other_region in let end_below_top = buffer_was.to_top in omega (arith, top_stays, end_below_top)))
      (cases_eq buffer_was.region region)

  pub buffers_cut : AreBuffers config tops_then (updated current seat 0) after
  buffers_cut = buffers_without config top tops_then current block after seat buffers uncarved
      (λ address any_seat its_words differs spare_there. stays config top block region cut_address (spare seat words) can_cut address (elsewhere address any_seat its_words differs spare_there) ∙ spare_there)
      (λ any_address any_seat its_words spare_there.
      let spare_was = came config top block region cut_address (spare seat words) can_cut any_address (spare any_seat its_words) spare_there in
      let buffer_words = buffers.spares any_address any_seat its_words spare_was.1 in
      let cut_words = buffers.spares cut_address seat words can_cut.here in
      ((λ same_seat. spare_was.0 (sym buffer_words.0 ∙ ap (λ asked_seat. next_in (current asked_seat)) same_seat ∙ cut_words.0)), spare_was.1))
      ends_below
