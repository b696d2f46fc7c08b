-- Two plots are the same but for loose pieces: room, and words that only fill. What is said of objects goes on from one to the other, where
-- room is young and outside the collection set.
use Rattle.heap_words.specs.Phases.{marking_phase}
use Rattle.std.proofs.Common.{◌≡◌, ℕ, ◌+◌, ◌<◌, ◌≤◌, Bool, false, Option, Some, None, inl, inr, ⊎_elim, refl, sym, ap, ◌∙◌}
use Rattle.std.proofs.lemmas.Option.{same_Some}
use Rattle.heap_words.specs.declared.config.Config.{Config}
use Rattle.regions.specs.Sets.{IsIn}
use Rattle.shen_graph.specs.declared.name.Name.{Name}
use Rattle.shen_graph.specs.Graph.{Reference, Object}
use Rattle.heap_world.specs.World.{Block, thing, moved, spent, hand, promised, dead, filler, spare, carved, Plot, name_at, is_loose, Points, HasContents, Snapshot, Scan, IsMarkable, AreYoungRooms, AreRoomsOutside, KeepsSnapshot, IsEvacuating, IsUpdating}
use Rattle.heap_world.proofs.Pointing.{named_piece}
use Rattle.heap_world.proofs.Pieces.{object_reads}
use Rattle.heap_world.proofs.Marked.{markable_stays, marks_stay, entries_stay}
use Rattle.heap_world.proofs.Copies.{bodies_stay}
use Rattle.heap_world.proofs.Evacuated.{copy_stays}
use Rattle.heap_world.proofs.Updated.{current_stays}

-- pieces that are not loose stay, and none of them comes
pub record SameButLoose (plot other_plot : Plot) : Type 0 where
  pub stays : (address : ℕ) (piece : Block) → is_loose piece ≡ false → plot address ≡ Some piece → other_plot address ≡ Some piece
  pub came : (address : ℕ) (piece : Block) → is_loose piece ≡ false → other_plot address ≡ Some piece → plot address ≡ Some piece

-- what has a name is not loose
named_fixed : (piece : Block) (name : Name) → name_at (Some piece) ≡ Some name → is_loose piece ≡ false
named_fixed (thing name refs nums) other_name named = refl
named_fixed (moved name refs nums copy_address) other_name named = refl
named_fixed (spent words copy_address) name named = refl
named_fixed (hand seat words) name named = cc
named_fixed (promised seat words) name named = refl
named_fixed (dead words) name named = refl
named_fixed (filler words) name named = cc
named_fixed (spare seat words) name named = cc
named_fixed (carved seat words) name named = cc

module _ (config : Config) (plot other_plot : Plot) (same_but_loose : SameButLoose plot other_plot) where
  -- what a word stands for it still stands for
  pub names_stay : (address : ℕ) (name : Name) → name_at (plot address) ≡ Some name → name_at (other_plot address) ≡ Some name
  names_stay address name named = let piece = named_piece (plot address) name named in ap name_at (same_but_loose.stays address piece.0 (named_fixed piece.0 name piece.2) piece.1) ∙ piece.2

  points_on : (address : ℕ) (reference : Reference) → Points plot address reference → Points other_plot address reference
  points_on address None points = points
  points_on address (Some name) points = names_stay address name points

  -- what can be marked still can, and could before
  pub markable_loose : (address : ℕ) → IsMarkable plot address → IsMarkable other_plot address
  markable_loose = markable_stays plot other_plot (λ address refs nums name piece_there. same_but_loose.stays address (thing name refs nums) refl piece_there) (λ address seat words piece_there. IsMarkable.to_come seat words (same_but_loose.stays address (promised seat words) refl piece_there))

  was_markable : (address : ℕ) → IsMarkable other_plot address → IsMarkable plot address
  was_markable = markable_stays other_plot plot (λ address refs nums name piece_there. same_but_loose.came address (thing name refs nums) refl piece_there) (λ address seat words piece_there. IsMarkable.to_come seat words (same_but_loose.came address (promised seat words) refl piece_there))

  -- and its piece stays
  markable_piece : (address : ℕ) (piece : Block) → IsMarkable plot address → plot address ≡ Some piece → other_plot address ≡ Some piece
  markable_piece address piece (IsMarkable.object name refs nums is_there) piece_there = same_but_loose.stays address piece (sym (ap is_loose (same_Some (thing name refs nums) piece (sym is_there ∙ piece_there)))) piece_there
  markable_piece address piece (IsMarkable.to_come seat words is_there) piece_there = same_but_loose.stays address piece (sym (ap is_loose (same_Some (promised seat words) piece (sym is_there ∙ piece_there)))) piece_there

  -- the heap has the same objects
  pub contents_loose : (heap : ℕ → ℕ) (object : Name → Option Object) (count : ℕ → ℕ) → HasContents config heap plot object count → HasContents config heap other_plot object count
  contents_loose heap object count contents = record {
    objects = record {
      each = λ address refs nums name piece_there.
          let old_object = contents.objects.each address refs nums name (same_but_loose.came address (thing name refs nums) refl piece_there) in
          (old_object.0, old_object.1, object_reads heap heap plot other_plot address refs nums name old_object.0 (λ offset word_below. refl) names_stay old_object.2);
      once = λ address other_address refs nums other_refs other_nums name first_there second_there.
          contents.objects.once address other_address refs nums other_refs other_nums name (same_but_loose.came address (thing name refs nums) refl first_there) (same_but_loose.came other_address (thing name other_refs other_nums) refl second_there);
    };
    given = contents.given;
  }

  -- marking goes on
  pub marked_loose : (phase : ℕ) (grey black count : ℕ → ℕ) (buffer : ℕ → ℕ → ℕ) (top new_top tams heap : ℕ → ℕ) (snapshot : Snapshot) (recording : ℕ → Option ℕ) (scanning : ℕ → Option Scan)
      → KeepsSnapshot config phase grey black count buffer top tams heap plot snapshot recording scanning
      → (phase ≡ marking_phase → AreYoungRooms config snapshot.top other_plot) → ((region : ℕ) → region < config.regions → snapshot.top region ≤ new_top region)
      → KeepsSnapshot config phase grey black count buffer new_top tams heap other_plot snapshot recording scanning
  marked_loose phase grey black count buffer top new_top tams heap snapshot recording scanning marked young floors = record {
    empty = marked.empty;
    traced = marked.traced;
    led = marked.led;
    old = marked.old;
    kept = λ object_address refs nums name object_there. same_but_loose.stays object_address (thing name refs nums) refl (marked.kept object_address refs nums name object_there);
    floors = floors;
    marking = λ marking_on. record {
      older = λ address refs nums name object_there. (marked.marking marking_on).older address refs nums name (same_but_loose.came address (thing name refs nums) refl object_there);
      promises = λ object_address seat words object_there. (marked.marking marking_on).promises object_address seat words (same_but_loose.came object_address (promised seat words) refl object_there);
      deads = λ object_address words object_there. (marked.marking marking_on).deads object_address words (same_but_loose.came object_address (dead words) refl object_there);
      young = young marking_on;
      tams_are = (marked.marking marking_on).tams_are;
      greys = marks_stay config grey plot other_plot markable_loose (marked.marking marking_on).greys;
      blacks = marks_stay config black plot other_plot markable_loose (marked.marking marking_on).blacks;
      entries = entries_stay config count buffer plot other_plot markable_loose (marked.marking marking_on).entries;
    };
  }

  -- evacuation goes on, where no top of the set changes
  pub evacuated_loose : (phase cset evac claim free_regions : ℕ) (top new_top tams heap black : ℕ → ℕ) (owner : ℕ → Option ℕ) (copying : ℕ → Bool) (working : ℕ → Option ℕ)
      → IsEvacuating config phase cset evac claim free_regions top tams heap black plot owner copying working
      → (2 ≤ phase → AreYoungRooms config tams other_plot) → AreRoomsOutside config cset other_plot → (2 ≤ phase → (region : ℕ) → region < config.regions → tams region ≤ new_top region) → ((region : ℕ) → IsIn cset region → new_top region ≡ top region)
      → IsEvacuating config phase cset evac claim free_regions new_top tams heap black other_plot owner copying working
  evacuated_loose phase cset evac claim free_regions top new_top tams heap black owner copying working evacuating young outside floors set_tops = record {
    moved = record {
      moveds = λ old_address refs nums copy_address name piece_there.
          let was_moved = evacuating.moved.moveds old_address refs nums copy_address name (same_but_loose.came old_address (moved name refs nums copy_address) refl piece_there) in
          record { header = was_moved.header; shape = was_moved.shape; name_word = was_moved.name_word; few_refs = was_moved.few_refs; few_nums = was_moved.few_nums; inside = was_moved.inside; copy = same_but_loose.stays copy_address (thing name refs nums) refl was_moved.copy; outside = was_moved.outside; references = λ field field_below. let reference_there = was_moved.references field field_below in (reference_there.0, points_on (heap (old_address + 3 + field)) reference_there.0 reference_there.1) };
      spents = λ old_address words copy_address piece_there.
          let was_moved = evacuating.moved.spents old_address words copy_address (same_but_loose.came old_address (spent words copy_address) refl piece_there) in
          record { header = was_moved.header; shape = was_moved.shape; inside = was_moved.inside; copy = markable_loose copy_address was_moved.copy; piece = was_moved.piece; there = markable_piece copy_address was_moved.piece was_moved.copy was_moved.there; long = was_moved.long; outside = was_moved.outside };
    };
    counted = evacuating.counted;
    aside = record {
      in_heap = evacuating.aside.in_heap;
      in_use = evacuating.aside.in_use;
      nobodys = evacuating.aside.nobodys;
      no_new = λ region piece_there. set_tops region piece_there ∙ evacuating.aside.no_new region piece_there;
      no_promises = λ address seat words piece_there. evacuating.aside.no_promises address seat words (same_but_loose.came address (promised seat words) refl piece_there);
      no_rooms = outside;
    };
    kept = λ evacuating_on. record {
      objects = λ address piece_there. (evacuating.kept evacuating_on).objects address (was_markable address piece_there);
      young = young evacuating_on;
      floors = floors evacuating_on;
      unmarked = λ old_address words piece_there. (evacuating.kept evacuating_on).unmarked old_address words (same_but_loose.came old_address (dead words) refl piece_there);
      deads = λ old_address words piece_there. (evacuating.kept evacuating_on).deads old_address words (same_but_loose.came old_address (dead words) refl piece_there);
      only = λ old_address in_region mark inside.
          copy_stays plot other_plot
          (bodies_stay plot other_plot (λ any_address refs nums name. same_but_loose.stays any_address (thing name refs nums) refl) (λ any_address refs nums copy_address name. same_but_loose.stays any_address (moved name refs nums copy_address) refl))
          (λ any_address words copy_address. same_but_loose.stays any_address (spent words copy_address) refl) old_address ((evacuating.kept evacuating_on).only old_address in_region mark inside);
    };
    units = λ evacuating_on region before piece_there. ⊎_elim
        (λ swept. inl (⊎_elim (λ outside_set. inl outside_set) (λ no_object. inr (λ old_address refs nums name from copy_address reference_there. no_object old_address refs nums name from copy_address (same_but_loose.came old_address (thing name refs nums) refl reference_there))) swept))
        (λ works. inr works)
        (evacuating.units evacuating_on region before piece_there);
  }

  -- updating goes on
  pub updated_loose : (cset claim : ℕ) (top new_top limit heap : ℕ → ℕ) (scanning : ℕ → Option Scan) → IsUpdating config cset claim top limit heap plot scanning
      → AreYoungRooms config limit other_plot → ((region : ℕ) → region < config.regions → limit region ≤ new_top region) → IsUpdating config cset claim new_top limit heap other_plot scanning
  updated_loose cset claim top new_top limit heap scanning updating young limits = record {
    outside = λ address refs nums name object_there. updating.outside address refs nums name (same_but_loose.came address (thing name refs nums) refl object_there);
    renewed = λ address refs nums field name object_there field_below. ⊎_elim
        (λ current. inl (current_stays plot other_plot (λ other_address other_refs other_nums name. same_but_loose.stays other_address (thing name other_refs other_nums) refl) (heap (address + 3 + field)) current))
        (λ due. inr due)
        (updating.renewed address refs nums field name (same_but_loose.came address (thing name refs nums) refl object_there) field_below);
    young = young;
    limits = limits;
  }
