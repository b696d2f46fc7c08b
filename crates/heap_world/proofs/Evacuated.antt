-- Evacuation goes on while words of other pieces change, and a piece becomes an object.
use Rattle.std.proofs.Common.{◌≡◌, ◌≢◌, ℕ, ◌+◌, ◌<◌, ◌≤◌, ◌⊎◌, Bool, Option, Some, None, inl, inr, ⊎_elim, refl, sym, ap, ◌∙◌, subst, arith}
use Rattle.std.proofs.lemmas.Bool.{cases_eq}
use Rattle.std.proofs.lemmas.Option.{none-some, same_Some}
use Rattle.heap_words.specs.declared.config.Config.{Config}
use Rattle.heap_words.specs.Encoding.{object_words}
use Rattle.regions.specs.Marks.{HasMark}
use Rattle.regions.specs.Place.{base_of}
use Rattle.regions.proofs.PlaceLemmas.{regions_tile}
use Rattle.regions.specs.Sets.{IsIn}
use Rattle.shen_graph.specs.declared.name.Name.{Name}
use Rattle.shen_graph.specs.Graph.{Reference}
use Rattle.heap_world.specs.World.{Block, thing, moved, spent, promised, dead, words_of, room_of, name_at, Plot, Points, Body, body_at, IsCollected, IsMarkable, IsYoung, HasCopy, IsEvacuating}
use Rattle.heap_world.proofs.Marked.{markable_stays}
use Rattle.heap_world.proofs.Copies.{bodies_stay}
use Rattle.heap_world.proofs.Pointing.{named_piece}

-- what is marked in the set stays a copy where copies stay
pub copy_stays : (plot other_plot : Plot) → ((address : ℕ) (body : Body) → body_at (plot address) ≡ Some body → body_at (other_plot address) ≡ Some body) → ((address words target : ℕ) → plot address ≡ Some (spent words target) → other_plot address ≡ Some (spent words target)) → (address : ℕ) → HasCopy plot address → HasCopy other_plot address
copy_stays plot other_plot bodies spents address (HasCopy.copy body piece_there) = HasCopy.copy body (bodies address body piece_there)
copy_stays plot other_plot bodies spents address (HasCopy.spent_copy words target piece_there) = HasCopy.spent_copy words target (spents address words target piece_there)

module _ (config : Config) (phase cset evac claim free : ℕ) (top tams heap black : ℕ → ℕ) (block : Plot) (owner : ℕ → Option ℕ) (copying : ℕ → Bool) (working : ℕ → Option ℕ)
    (evacuating : IsEvacuating config phase cset evac claim free top tams heap black block owner copying working) where
  -- Words change, but not the headers, shapes, names and references of old copies.
  pub evacuated_words : (after : ℕ → ℕ)
      → ((address refs nums target : ℕ) (name : Name) → block address ≡ Some (moved name refs nums target) → (after address ≡ heap address) × (after (address + 1) ≡ heap (address + 1)) × (after (address + 2) ≡ heap (address + 2))
      × ((index : ℕ) → index < refs → after (address + 3 + index) ≡ heap (address + 3 + index)))
      → ((address words target : ℕ) → block address ≡ Some (spent words target) → (after address ≡ heap address) × (after (address + 1) ≡ heap (address + 1)))
      → IsEvacuating config phase cset evac claim free top tams after black block owner copying working
  evacuated_words after moveds spents = record {
    moved = record {
      moveds = λ address refs nums target name piece_there.
          let old_copy = evacuating.moved.moveds address refs nums target name piece_there in
          let same_words = moveds address refs nums target name piece_there in
          record { header = same_words.0 ∙ old_copy.header; shape = same_words.1 ∙ old_copy.shape; name_word = same_words.2 ∙ old_copy.name_word; few_refs = old_copy.few_refs; few_nums = old_copy.few_nums; inside = old_copy.inside; copy = old_copy.copy; outside = old_copy.outside; references = λ index index_below. let reference_there = old_copy.references index index_below in (reference_there.0, subst (λ value. Points block value reference_there.0) (sym (same_words.3 index index_below)) reference_there.1) };
      spents = λ address words target piece_there.
          let old_copy = evacuating.moved.spents address words target piece_there in
          let same_words = spents address words target piece_there in
          record { header = same_words.0 ∙ old_copy.header; shape = ap object_words same_words.1 ∙ old_copy.shape; inside = old_copy.inside; copy = old_copy.copy; piece = old_copy.piece; there = old_copy.there; long = old_copy.long; outside = old_copy.outside };
    };
    counted = evacuating.counted;
    aside = evacuating.aside;
    kept = evacuating.kept;
    units = evacuating.units;
  }

  -- The free word and who has regions change, but no region of the set is free or anyone's.
  pub evacuated_owned : (free_then : ℕ) (owner_then : ℕ → Option ℕ) → ((region : ℕ) → IsIn free_then region → IsIn cset region → ⊥) → ((region seat : ℕ) → owner_then region ≡ Some seat → IsIn cset region → ⊥)
      → IsEvacuating config phase cset evac claim free_then top tams heap black block owner_then copying working
  evacuated_owned free_then owner_then in_use nobodys = record {
    moved = evacuating.moved;
    counted = evacuating.counted;
    aside = record {
      in_heap = evacuating.aside.in_heap;
      in_use = in_use;
      nobodys = nobodys;
      no_new = evacuating.aside.no_new;
      no_promises = evacuating.aside.no_promises;
      no_rooms = evacuating.aside.no_rooms;
    };
    kept = evacuating.kept;
    units = evacuating.units;
  }

  -- A piece that stands for no object becomes one. It is not set aside, and is marked or was allocated since mark start.
  pub evacuated_made : (new_block : Plot) (address refs nums : ℕ) (name : Name) (piece : Block) → block address ≡ Some piece → words_of piece ≡ 3 + refs + nums → new_block address ≡ Some (thing name refs nums)
      → (IsCollected config cset address → ⊥) → (2 ≤ phase → HasMark config black address ⊎ IsYoung config tams address)
      → ((other_address : ℕ) (other_piece : Block) → block other_address ≡ Some other_piece → other_address ≢ address → new_block other_address ≡ Some other_piece)
      → ((other_address : ℕ) (other_piece : Block) → new_block other_address ≡ Some other_piece → other_address ≢ address → block other_address ≡ Some other_piece)
      → name_at (Some piece) ≡ None
      → IsEvacuating config phase cset evac claim free top tams heap black new_block owner copying working
  evacuated_made new_block address refs nums name piece room piece_words object_there outside marked_or_young stays others_old unnamed = record {
    moved = record {
      moveds = λ other_address other_refs other_nums target other_name piece_there.
          let old_copy = evacuating.moved.moveds other_address other_refs other_nums target other_name (old other_address (moved other_name other_refs other_nums target) (λ same_address. (let differ = same_address in cc)) piece_there) in
          record { header = old_copy.header; shape = old_copy.shape; name_word = old_copy.name_word; few_refs = old_copy.few_refs; few_nums = old_copy.few_nums; inside = old_copy.inside; copy = things target other_refs other_nums other_name old_copy.copy; outside = old_copy.outside; references = λ index index_below. let found_there = old_copy.references index index_below in (found_there.0, points_on (heap (other_address + 3 + index)) found_there.0 found_there.1) };
      spents = λ other_address words target piece_there.
          let old_copy = evacuating.moved.spents other_address words target (old other_address (spent words target) (λ same_address. (let differ = same_address in cc)) piece_there) in
          let piece_after = piece_then target old_copy.piece old_copy.there in
          record { header = old_copy.header; shape = old_copy.shape; inside = old_copy.inside; copy = still target old_copy.copy; piece = piece_after.0; there = piece_after.1; long = piece_after.2 ∙ old_copy.long; outside = old_copy.outside };
    };
    counted = evacuating.counted;
    aside = record {
      in_heap = evacuating.aside.in_heap;
      in_use = evacuating.aside.in_use;
      nobodys = evacuating.aside.nobodys;
      no_new = evacuating.aside.no_new;
      no_promises = λ other_address seat words piece_there. evacuating.aside.no_promises other_address seat words (old other_address (promised seat words) (λ same_address. (let differ = same_address in cc)) piece_there);
      no_rooms = λ other_address seat x piece_there room. evacuating.aside.no_rooms other_address seat x (old_room other_address seat x piece_there room) room;
    };
    kept = λ phase_on. record {
      objects = λ other_address piece_there. ⊎_elim
          (λ (same_address : other_address ≡ address). subst (λ x. HasMark config black x ⊎ IsYoung config tams x) (sym same_address) (marked_or_young phase_on))
          (λ (elsewhere : other_address ≢ address). (evacuating.kept phase_on).objects other_address (was_markable other_address elsewhere piece_there))
          (cases_eq other_address address);
      young = λ other_address seat x piece_there room. (evacuating.kept phase_on).young other_address seat x (old_room other_address seat x piece_there room) room;
      floors = (evacuating.kept phase_on).floors;
      unmarked = λ other_address words piece_there. (evacuating.kept phase_on).unmarked other_address words (old other_address (dead words) (λ same_address. (let differ = same_address in cc)) piece_there);
      deads = λ other_address words piece_there. (evacuating.kept phase_on).deads other_address words (old other_address (dead words) (λ same_address. (let differ = same_address in cc)) piece_there);
      only = λ other_address above_top mark inside. copy_stays block new_block (bodies_stay block new_block things moveds) spents other_address ((evacuating.kept phase_on).only other_address above_top mark inside);
    };
    units = λ phase_on region before piece_there. ⊎_elim
        (λ swept. inl (⊎_elim
        (λ swept_out. inl swept_out)
        (λ none_swept. inr (λ other_address other_refs other_nums other_name from target found_there. ⊎_elim
        (λ (same_address : other_address ≡ address). outside (subst (λ x. IsCollected config cset x) same_address (of_region region other_address piece_there from target)))
        (λ (elsewhere : other_address ≢ address). none_swept other_address other_refs other_nums other_name from target (others_old other_address (thing other_name other_refs other_nums) found_there elsewhere))
        (cases_eq other_address address)))
        swept))
        (λ works. inr works)
        (evacuating.units phase_on region before piece_there);
  }
    where
      old : (other_address : ℕ) (other_piece : Block) → (thing name refs nums ≡ other_piece → ⊥) → new_block other_address ≡ Some other_piece → block other_address ≡ Some other_piece
      old other_address other_piece differs piece_there = others_old other_address other_piece piece_there (λ same_address. differs (same_Some (thing name refs nums) other_piece (sym object_there ∙ ap new_block (sym same_address) ∙ piece_there)))

      old_room : (other_address seat : ℕ) (other_piece : Block) → new_block other_address ≡ Some other_piece → room_of other_piece ≡ Some seat → block other_address ≡ Some other_piece
      old_room other_address seat other_piece piece_there room = old other_address other_piece (λ same_address. none-some seat (ap room_of same_address ∙ room)) piece_there

      away : (other_address : ℕ) (other_piece : Block) (other_name : Name) → block other_address ≡ Some other_piece → name_at (Some other_piece) ≡ Some other_name → new_block other_address ≡ Some other_piece
      away other_address other_piece other_name piece_there named = stays other_address other_piece piece_there (λ same_address. none-some other_name (sym unnamed ∙ ap name_at (sym room ∙ ap block (sym same_address) ∙ piece_there) ∙ named))

      points_on : (word : ℕ) (reference : Reference) → Points block word reference → Points new_block word reference
      points_on word None points_before = points_before
      points_on word (Some other_name) points_before = let piece = named_piece (block word) other_name points_before in ap name_at (away word piece.0 other_name piece.1 piece.2) ∙ piece.2

      things : (other_address other_refs other_nums : ℕ) (other_name : Name) → block other_address ≡ Some (thing other_name other_refs other_nums) → new_block other_address ≡ Some (thing other_name other_refs other_nums)
      things other_address other_refs other_nums other_name piece_there = away other_address (thing other_name other_refs other_nums) other_name piece_there refl

      moveds : (other_address other_refs other_nums target : ℕ) (other_name : Name) → block other_address ≡ Some (moved other_name other_refs other_nums target) → new_block other_address ≡ Some (moved other_name other_refs other_nums target)
      moveds other_address other_refs other_nums target other_name piece_there = away other_address (moved other_name other_refs other_nums target) other_name piece_there refl

      spents : (other_address words target : ℕ) → block other_address ≡ Some (spent words target) → new_block other_address ≡ Some (spent words target)
      spents other_address words target piece_there = stays other_address (spent words target) piece_there (λ same_address. outside (subst (λ x. IsCollected config cset x) same_address (evacuating.moved.spents other_address words target piece_there).inside))

      still : (other_address : ℕ) → IsMarkable block other_address → IsMarkable new_block other_address
      still = markable_stays block new_block things (λ other_address seat words piece_there. ⊎_elim
          (λ (same_address : other_address ≡ address). IsMarkable.object name refs nums (ap new_block same_address ∙ object_there))
          (λ (elsewhere : other_address ≢ address). IsMarkable.to_come seat words (stays other_address (promised seat words) piece_there elsewhere))
          (cases_eq other_address address))

      was_markable : (other_address : ℕ) → other_address ≢ address → IsMarkable new_block other_address → IsMarkable block other_address
      was_markable other_address elsewhere (IsMarkable.object other_name other_refs other_nums piece_there) = IsMarkable.object other_name other_refs other_nums (others_old other_address (thing other_name other_refs other_nums) piece_there elsewhere)
      was_markable other_address elsewhere (IsMarkable.to_come seat words piece_there) = IsMarkable.to_come seat words (others_old other_address (promised seat words) piece_there elsewhere)

      of_region : (region other_address : ℕ) → IsIn cset region → base_of config region ≤ other_address → other_address < base_of config (region + 1) → IsCollected config cset other_address
      of_region region other_address region_in from below_end = subst (λ set. IsIn cset set) (sym (regions_tile.of_no_other config region other_address (record { from = from; before = omega (arith, below_end) }))) region_in

      piece_then : (other_address : ℕ) (other_piece : Block) → block other_address ≡ Some other_piece → (found_piece : Block) × (new_block other_address ≡ Some found_piece) × (words_of found_piece ≡ words_of other_piece)
      piece_then other_address other_piece piece_there = ⊎_elim
          (λ (same_address : other_address ≡ address). (thing name refs nums, ap new_block same_address ∙ object_there, sym piece_words ∙ ap words_of (same_Some piece other_piece (sym room ∙ ap block (sym same_address) ∙ piece_there))))
          (λ (elsewhere : other_address ≢ address). (other_piece, stays other_address other_piece piece_there elsewhere, refl))
          (cases_eq other_address address)
