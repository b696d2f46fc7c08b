-- Walks of regions of the collection set: where a piece of such a region lies, what its words say, and up to where the region is swept.
use Rattle.std.proofs.Common.{◌≡◌, ◌≢◌, ℕ, ◌+◌, ◌-◌, ◌*◌, ◌/◌, ◌%◌, ◌<◌, ◌≤◌, Some, None, ⊎_elim, inl, inr, refl, sym, ap, ◌∙◌, subst, arith}
use Rattle.std.proofs.Math.Nat.{mul-le-mul_right, lt-div-mul-add}
use Rattle.std.proofs.lemmas.Nat.{le-div}
use Rattle.std.specs.Prelude.{◌==◌}
use Rattle.std.proofs.lemmas.Bool.{cases_lt, cases_eq, cond-true, cond-false, eq-eqb, ne_eqb}
use Rattle.std.proofs.lemmas.Option.{none-some, same_Some}
use Rattle.heap_words.specs.declared.config.Config.{Config}
use Rattle.heap_words.specs.Encoding.{plain_header, header_word, filler_header, filler_words_in, object_words, shape_word}
use Rattle.heap_words.specs.Words.{Cset, Evac, Top, Heap}
use Rattle.regions.specs.Place.{base_of, region_with}
use Rattle.regions.specs.Sets.{IsIn}
use Rattle.regions.proofs.PlaceLemmas.{regions_tile}
use Rattle.shen_graph.specs.declared.name.Name.{Name}
use Rattle.heap_world.specs.World.{World, Block, thing, moved, spent, hand, promised, dead, filler, spare, carved, words_of, filling, IsCollected, IsSweptTo, Shared}
use Rattle.heap_world.specs.Rely.{KeepsCopies}
use Rattle.heap_world.proofs.Pieces.{some_words}
use Rattle.cycle_steps.specs.Evacuation.Facts.{IsSwept, IsWalkedTo, IsAtObject, IsMeasured}

-- an address at or above the base of its region lies in it
pub before_end : (config : Config) (address : ℕ) → base_of config (region_with config address) ≤ address → address < base_of config (region_with config address) + config.region_words
before_end config address at_most =
    let words = config.region_words in
    let has_words : 0 < words = omega (arith, config.in_range.least_words) in
    let words_low : 1 * words ≤ (address / words - 1 + 1) * words = mul-le-mul_right words (omega arith) in
    let first_row : 1 ≤ address / words = le-div 1 address words has_words (omega (arith, at_most, words_low)) in
    let row_back : (address / words - 1 + 1) * words ≡ address / words * words = ap (λ (row : ℕ). row * words) (omega (arith, first_row)) in
    omega (arith, row_back, lt-div-mul-add {a = address} {b = words} has_words)

-- an address between the base of a region and the next is of the region
pub region_is : (config : Config) (region address : ℕ) → base_of config region ≤ address → address < base_of config region + config.region_words → region_with config address ≡ region
region_is config region address at_most below_next = regions_tile.of_no_other config region address (record { from = at_most; before = below_next })

-- so it lies in a set that has the region
pub collected_in : (config : Config) (cset region address : ℕ) → IsIn cset region → base_of config region ≤ address → address < base_of config region + config.region_words → IsCollected config cset address
collected_in config cset region address set_has at_most below_next = subst (λ any_region. IsIn cset any_region) (sym (region_is config region address at_most below_next)) set_has

-- the base of the next region
pub next_base : (config : Config) (region : ℕ) → base_of config (region + 1) ≡ base_of config region + config.region_words
next_base config region = omega arith

-- where a piece lies: in the part in use of the region of its address
pub record IsPlaced (config : Config) (world : World) (address : ℕ) (piece : Block) : Type 0 where
  pub within : region_with config address < config.regions
  pub from_base : base_of config (region_with config address) ≤ address
  pub to_top : address + words_of piece ≤ base_of config (region_with config address) + world.memory (Top (region_with config address))
  pub short : world.memory (Top (region_with config address)) ≤ config.region_words

-- the header of an object is none of words that only fill, moved or not, and that of such words tells how many they are
plain_fills_not : (header : ℕ) → header ≡ plain_header → filler_words_in header ≡ None
plain_fills_not header plain_one = ap filler_words_in plain_one

forwarded_fills_not : (header copy : ℕ) → header ≡ header_word copy → filler_words_in header ≡ None
forwarded_fills_not header copy forwards = cond-false (header % 4 == 2) _ _ (ne_eqb (header % 4) 2 (λ same_rest. omega (arith, forwards, same_rest)))

pub filler_fills : (header words : ℕ) → header ≡ filler_header words → filler_words_in header ≡ Some words
filler_fills header words fills = cond-true (header % 4 == 2) _ _ (eq-eqb (header % 4) 2 (omega (arith, fills))) ∙ ap Some (let same_words : header / 4 ≡ words = omega (arith, fills) in same_words)

-- a piece of which so many words only fill is those
pub filling_is : (piece : Block) (words : ℕ) → filling piece ≡ Some words → piece ≡ filler words
filling_is (filler filled_words) words fills = ap filler (same_Some filled_words words fills)
filling_is (thing name refs nums) words fills = absurd (none-some words fills)
filling_is (moved name refs nums copy) words fills = absurd (none-some words fills)
filling_is (spent filled_words copy) words fills = absurd (none-some words fills)
filling_is (hand seat filled_words) words fills = absurd (none-some words fills)
filling_is (promised seat filled_words) words fills = absurd (none-some words fills)
filling_is (dead filled_words) words fills = absurd (none-some words fills)
filling_is (spare seat filled_words) words fills = absurd (none-some words fills)
filling_is (carved seat filled_words) words fills = absurd (none-some words fills)

module _ (config : Config) (world : World) (shared : Shared config world) where
  -- a piece of the set has three words at least, but for words that only fill
  pub three_words : (address : ℕ) (piece : Block) → IsCollected config (world.memory Cset) address → filling piece ≡ None → world.block address ≡ Some piece → 3 ≤ words_of piece
  three_words address (thing name refs nums) address_collected solid piece_there = omega arith
  three_words address (moved name refs nums copy) address_collected solid piece_there = omega arith
  three_words address (spent words copy) address_collected solid piece_there = shared.parsable.spents address words copy piece_there
  three_words address (hand seat words) address_collected solid piece_there = shared.owned.rooms.hands address seat words piece_there
  three_words address (promised seat words) address_collected solid piece_there = shared.parsable.promises address seat words piece_there
  three_words address (dead words) address_collected solid piece_there = shared.parsable.deads address words piece_there
  three_words address (filler words) address_collected solid piece_there = absurd (none-some words (sym solid))
  three_words address (spare seat words) address_collected solid piece_there = absurd (shared.evacuated.aside.no_rooms address seat (spare seat words) piece_there refl address_collected)
  three_words address (carved seat words) address_collected solid piece_there = shared.owned.rooms.carveds address seat words piece_there

  pub placed : (address : ℕ) (piece : Block) → world.block address ≡ Some piece → IsPlaced config world address piece
  placed address piece piece_there =
      let used = shared.parsable.plotted.in_use address piece piece_there in
      let top_within : world.memory (Top used.region) ≤ config.region_words = shared.parsable.plotted.tops used.region used.within in
      let has_words = some_words config (λ region. world.memory (Top region)) world.block shared.parsable shared.owned.rooms address piece piece_there in
      let same_region : region_with config address ≡ used.region = region_is config used.region address used.from_base (omega (arith, used.to_top, top_within, has_words)) in
      record {
        within = subst (λ any_region. any_region < config.regions) (sym same_region) used.within;
        from_base = subst (λ any_region. base_of config any_region ≤ address) (sym same_region) used.from_base;
        to_top = subst (λ region. address + words_of piece ≤ base_of config region + world.memory (Top region)) (sym same_region) used.to_top;
        short = subst (λ region. world.memory (Top region) ≤ config.region_words) (sym same_region) top_within;
      }

  -- the header of a piece of the set tells whether it only fills, and then how many words
  pub header_tells : (address : ℕ) (piece : Block) → IsCollected config (world.memory Cset) address → world.block address ≡ Some piece → filler_words_in (world.memory (Heap address)) ≡ filling piece
  header_tells address (thing name refs nums) address_collected piece_there = plain_fills_not (world.memory (Heap address)) (shared.contents.objects.each address refs nums name piece_there).2.header
  header_tells address (moved name refs nums copy) address_collected piece_there = forwarded_fills_not (world.memory (Heap address)) copy (shared.evacuated.moved.moveds address refs nums copy name piece_there).header
  header_tells address (spent words copy) address_collected piece_there = forwarded_fills_not (world.memory (Heap address)) copy (shared.evacuated.moved.spents address words copy piece_there).header
  header_tells address (hand seat words) address_collected piece_there = absurd (shared.evacuated.aside.no_rooms address seat (hand seat words) piece_there refl address_collected)
  header_tells address (promised seat words) address_collected piece_there = absurd (shared.evacuated.aside.no_promises address seat words piece_there address_collected)
  header_tells address (dead words) address_collected piece_there = plain_fills_not (world.memory (Heap address)) (shared.unwritten.headers address words piece_there)
  header_tells address (filler words) address_collected piece_there = filler_fills (world.memory (Heap address)) words (shared.unwritten.fillers address words piece_there)
  header_tells address (spare seat words) address_collected piece_there = absurd (shared.evacuated.aside.no_rooms address seat (spare seat words) piece_there refl address_collected)
  header_tells address (carved seat words) address_collected piece_there = absurd (shared.evacuated.aside.no_rooms address seat (carved seat words) piece_there refl address_collected)

  -- the shape word of a piece of the set says how long it is, if the piece does not only fill
  pub words_there : (address : ℕ) (piece : Block) → IsCollected config (world.memory Cset) address → filling piece ≡ None → world.block address ≡ Some piece → object_words (world.memory (Heap (address + 1))) ≡ words_of piece
  words_there address (thing name refs nums) address_collected solid piece_there =
      let thing_there = (shared.contents.objects.each address refs nums name piece_there).2 in
      ap object_words thing_there.shape ∙ shaped refs nums thing_there.few_refs thing_there.few_nums
    where
      shaped : (refs nums : ℕ) → refs ≤ 16 → nums ≤ 16 → object_words (shape_word refs nums) ≡ 3 + refs + nums
      shaped refs nums few_refs few_nums = omega arith
  words_there address (moved name refs nums copy) address_collected solid piece_there =
      let thing_there = shared.evacuated.moved.moveds address refs nums copy name piece_there in
      ap object_words thing_there.shape ∙ shaped refs nums thing_there.few_refs thing_there.few_nums
    where
      shaped : (refs nums : ℕ) → refs ≤ 16 → nums ≤ 16 → object_words (shape_word refs nums) ≡ 3 + refs + nums
      shaped refs nums few_refs few_nums = omega arith
  words_there address (spent words copy) address_collected solid piece_there = (shared.evacuated.moved.spents address words copy piece_there).shape
  words_there address (hand seat words) address_collected solid piece_there = absurd (shared.evacuated.aside.no_rooms address seat (hand seat words) piece_there refl address_collected)
  words_there address (promised seat words) address_collected solid piece_there = absurd (shared.evacuated.aside.no_promises address seat words piece_there address_collected)
  words_there address (dead words) address_collected solid piece_there = shared.unwritten.lengths address words piece_there
  words_there address (filler words) address_collected solid piece_there = absurd (none-some words (sym solid))
  words_there address (spare seat words) address_collected solid piece_there = absurd (shared.evacuated.aside.no_rooms address seat (spare seat words) piece_there refl address_collected)
  words_there address (carved seat words) address_collected solid piece_there = absurd (shared.evacuated.aside.no_rooms address seat (carved seat words) piece_there refl address_collected)

  -- a region without an object that is not forwarded at an address is swept up to the piece behind it
  pub swept_past : (region address : ℕ) (piece : Block) → world.block address ≡ Some piece → ((refs nums : ℕ) (name : Name) → world.block address ≡ Some (thing name refs nums) → ⊥)
      → IsSweptTo config (world.memory Evac) world.block region address → IsSweptTo config (world.memory Evac) world.block region (address + words_of piece)
  swept_past region address piece piece_there no_object (inl outside) = inl outside
  swept_past region address piece piece_there no_object (inr swept) = inr (λ object refs nums name from object_below object_there. ⊎_elim
      (λ (object_before : object < address). swept object refs nums name from object_before object_there)
      (λ (object_from : address ≤ object). ⊎_elim
      (λ (same_address : object ≡ address). no_object refs nums name (ap world.block (sym same_address) ∙ object_there))
      (λ (objects_differ : object ≢ address). (let objects_apart = shared.parsable.plotted.apart address object piece (thing name refs nums) piece_there object_there (omega (arith, object_from, objects_differ)) in omega (arith, objects_apart, object_below)))
      (cases_eq object address))
      (cases_lt object address))

  -- one that is swept up to its top is swept
  pub swept_whole : (region end : ℕ) → base_of config region + world.memory (Top region) ≤ end → IsSweptTo config (world.memory Evac) world.block region end → IsSwept config world region
  swept_whole region end all_walked (inl outside) = inl outside
  swept_whole region end all_walked (inr swept) = inr (λ object refs nums name from object_below object_there.
      let object_placed = placed object (thing name refs nums) object_there in
      let inside_region : object < base_of config region + config.region_words = (let next_base_is = next_base config region in omega (arith, object_below, next_base_is)) in
      let same_region : region_with config object ≡ region = region_is config region object from inside_region in
      let under_top : object + (3 + refs + nums) ≤ base_of config region + world.memory (Top region) = subst (λ region. object + (3 + refs + nums) ≤ base_of config region + world.memory (Top region)) same_region object_placed.to_top in
      swept object refs nums name from (omega (arith, under_top, all_walked)) object_there)

-- What is swept stays so, and a walk stays where it has come to.
module _ (config : Config) (world later_world : World) (copies_kept : KeepsCopies config world later_world) where
  pub swept_stays : (region end : ℕ) → IsIn (world.memory Cset) region → end ≤ base_of config region + config.region_words
      → IsSweptTo config (world.memory Evac) world.block region end → IsSweptTo config (later_world.memory Evac) later_world.block region end
  swept_stays region end region_in_set end_inside (inl outside) = inl (copies_kept.out outside)
  swept_stays region end region_in_set end_inside (inr swept) = inr (λ object refs nums name from object_below object_there.
      swept object refs nums name from object_below (copies_kept.no_new object refs nums name (collected_in config (world.memory Cset) region object region_in_set from (omega (arith, object_below, end_inside))) object_there))

  pub walked_stays : (address end : ℕ) → IsWalkedTo config world address end → IsWalkedTo config later_world address end
  walked_stays address end walked =
      let piece = copies_kept.pieces address walked.piece walked.inside walked.there in
      record {
        inside = subst (λ some_set. IsCollected config some_set address) (sym copies_kept.cset) walked.inside;
        from_base = walked.from_base;
        before = walked.before;
        end_is = walked.end_is ∙ ap (λ top. base_of config (region_with config address) + top) (sym (copies_kept.tops (region_with config address) walked.inside));
        piece = piece.0;
        there = piece.1;
        swept = (let inside_region = before_end config address walked.from_base in swept_stays (region_with config address) address walked.inside (omega (arith, inside_region)) walked.swept);
      }

  pub object_stays : (address end : ℕ) → IsAtObject config world address end → IsAtObject config later_world address end
  unfolding walked_stays
  object_stays address end at_object =
      let piece = copies_kept.pieces address at_object.at.piece at_object.at.inside at_object.at.there in
      record { at = walked_stays address end at_object.at; solid = piece.3 ∙ at_object.solid }

  pub measured_stays : (address end behind : ℕ) → IsMeasured config world address end behind → IsMeasured config later_world address end behind
  unfolding walked_stays
  measured_stays address end behind measured =
      let piece = copies_kept.pieces address measured.at.piece measured.at.inside measured.at.there in
      record { at = walked_stays address end measured.at; solid = piece.3 ∙ measured.solid; next_is = measured.next_is ∙ ap (λ words. address + words) (sym piece.2) }
