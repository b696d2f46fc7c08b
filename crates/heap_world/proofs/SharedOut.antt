-- The shared facts say how room is shared out.
use Rattle.std.proofs.Common.{◌≡◌, ℕ, ◌<◌, ⊎_elim, inl, inr, Some, sym, ◌∙◌, ap, arith}
use Rattle.std.proofs.lemmas.Bool.{cases_order}
use Rattle.std.proofs.lemmas.Option.{same_Some}
use Rattle.heap_words.specs.declared.config.Config.{Config}
use Rattle.heap_words.specs.Words.{Top}
use Rattle.regions.specs.Place.{IsOf}
use Rattle.heap_world.specs.World.{World, Block, room_of, Shared}
use Rattle.heap_world.specs.Regions.{AreSharedOut}
use Rattle.heap_world.proofs.Pieces.{some_words, beside}

module _ (config : Config) (world : World) (shared : Shared config world) where
  -- a region of top 0 has no piece
  none_in_empty : (region address : ℕ) (piece : Block) → region < config.regions → IsOf config region address → world.memory (Top region) ≡ 0 → world.block address ≡ Some piece → ⊥
  none_in_empty region address piece region_below is_of empty piece_there =
      let has_words = some_words config (λ region. world.memory (Top region)) world.block shared.parsable shared.owned.rooms address piece piece_there in
      let where_is = beside config (λ region. world.memory (Top region)) world.block shared.parsable.plotted region address piece piece_there in
      let from = is_of.from in
      let address_below_top = is_of.before in
      omega (arith, has_words, where_is, from, address_below_top, empty)

  -- so is the room shared out
  pub shared_out : AreSharedOut config world
  shared_out = record {
    apart = λ asked_address other_address seat other_seat first_piece other_piece first_there second_there of_x of_y differ. ⊎_elim
        (λ (same_address : asked_address ≡ other_address).
        let same_piece : first_piece ≡ other_piece = same_Some first_piece other_piece (sym first_there ∙ ap world.block same_address ∙ second_there) in
        absurd (differ (same_Some seat other_seat (sym of_x ∙ ap room_of same_piece ∙ of_y))))
        (λ order. ⊎_elim
        (λ is_below. inl (shared.parsable.plotted.apart asked_address other_address first_piece other_piece first_there second_there is_below))
        (λ is_above. inr (shared.parsable.plotted.apart other_address asked_address other_piece first_piece second_there first_there is_above))
        order)
        (cases_order asked_address other_address);
    none_in_free = λ region address seat piece within in_region bit piece_there room. none_in_empty region address piece within in_region (shared.owned.free_word.empty region within bit) piece_there;
    none_in_set = λ asked_address seat first_piece piece_there room. shared.evacuated.aside.no_rooms asked_address seat first_piece piece_there room;
  }
