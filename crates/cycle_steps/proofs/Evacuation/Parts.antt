-- Working on a unit of evacuation as a part: any machine that has a seat can have it inside. And what all units come to.
use Rattle.std.proofs.Common.{◌≡◌, ℕ, ◌+◌, ◌*◌, ◌%◌, ◌<◌, nat_lt, true, false, Some, None, ⊎_elim, inl, inr, ◌⊎◌, refl, sym, ap, ◌∙◌, subst, arith}
use Rattle.std.proofs.lemmas.Bool.{cases_Bool, cond-true, cond-false, eq-eqb, and_from, false≢true, le-leb, lt-ltb, ltb-true}
use Rattle.heap_words.specs.declared.config.Config.{Config}
use Rattle.heap_words.specs.Encoding.{header_word, is_forwarded}
use Rattle.heap_words.specs.Ranges.{seat_count}
use Rattle.heap_words.specs.Words.{Evac, Top, Heap, IsWord, is_word}
use Rattle.heap_words.specs.Touch.{loads}
use Rattle.regions.specs.Place.{base_of, region_with}
use Rattle.regions.specs.Sets.{IsIn}
use Rattle.regions.proofs.MarksApart.{word_inside}
use Rattle.shen_graph.specs.declared.name.Name.{Name}
use Rattle.heap_world.specs.World.{World, Block, thing, moved, filling, Body, body_at, body_words, HasCopy, IsCaredFor, Shared}
use Rattle.heap_world.specs.Rely.{Rely}
use Rattle.heap_world.proofs.Pieces.{some_words}
use Rattle.heap_world.proofs.Pointing.{piece_inside, copy_cases}
use Rattle.load_barrier.specs.declared.evac_spot.EvacSpot.{EvacSpot}
use Rattle.load_barrier.specs.declared.evac_spot.EvacSpot.TheVariants.{LoadClaim, ClaimUnit, LoadTop, LoadFirst, LoadShape, LoadMark, Resolving, Ended}
use Rattle.load_barrier.specs.UnitRows.{touch_at, is_ended}
use Rattle.load_barrier.specs.Fit as resolve
use Rattle.load_barrier.specs.UnitFit.{has_shape, is_walkable, is_ready, PartFit}
use Rattle.cycle_steps.specs.Resolving.Laws.{ResolvingSteps}
use Rattle.cycle_steps.proofs.Resolving.Parts.{resolving_steps}
use Rattle.cycle_steps.specs.Evacuation.Facts.{IsSwept, IsWalkedTo, IsMeasured, HasNothing, WorkFacts, CanEvacuate}
use Rattle.cycle_steps.specs.Evacuation.Laws.{spot_then, SweptStep, EvacuatingSteps, SweptIsForwarded, AllIsForwarded}
use Rattle.cycle_steps.proofs.Evacuation.Walks.{before_end, next_base, placed, three_words, swept_stays, walked_stays, object_stays, measured_stays}
use Rattle.cycle_steps.proofs.Evacuation.Units.{each_step}

-- While others step, what a machine counts on stays.
module _ (resolving : ResolvingSteps) (config : Config) (world other_world : World) (seat : ℕ) (shared : Shared config world) (rely : Rely config seat world other_world) where
  nothing_stays : HasNothing world seat → HasNothing other_world seat
  nothing_stays nothing = record {
    copying = rely.copies.copying ∙ nothing.copying;
    records_none = rely.marks.recording ∙ nothing.records_none;
    scans_none = rely.marks.scanning ∙ nothing.scans_none;
    rooms = λ address piece stands room. nothing.rooms address piece (rely.no_rooms address piece stands room) room;
  }

  facts_stay : (spot : EvacSpot) → WorkFacts config world seat spot → WorkFacts config other_world seat spot
  facts_stay LoadClaim facts = nothing_stays facts
  facts_stay (ClaimUnit unit) facts = (nothing_stays facts.0, facts.1)
  facts_stay (LoadTop region) facts = (nothing_stays facts.0, subst (λ chosen_set. IsIn chosen_set region) (sym rely.copies.keeps.cset) facts.1)
  facts_stay (LoadFirst address end) facts = (nothing_stays facts.0, walked_stays config world other_world rely.copies.keeps address end facts.1)
  facts_stay (LoadShape address end) facts = (nothing_stays facts.0, object_stays config world other_world rely.copies.keeps address end facts.1)
  facts_stay (LoadMark address end next_piece) facts = (nothing_stays facts.0, measured_stays config world other_world rely.copies.keeps address end next_piece facts.1)
  facts_stay (Resolving address end next_piece spot) facts =
      (facts.0, ((resolving.steps config seat address).stands world spot shared facts.1).stays other_world rely, measured_stays config world other_world rely.copies.keeps address end next_piece facts.2)
  facts_stay (Ended unit) facts = nothing_stays facts

  pub can_evacuate_stays : (cset : ℕ) (spot : EvacSpot) → CanEvacuate config world seat cset spot → CanEvacuate config other_world seat cset spot
  can_evacuate_stays cset spot can_evacuate = record {
    seated = can_evacuate.seated;
    phase = rely.marks.keeps.phase ∙ can_evacuate.phase;
    set_is = can_evacuate.set_is ∙ sym rely.copies.keeps.cset;
    working = rely.copies.working ∙ can_evacuate.working;
    facts = facts_stay spot can_evacuate.facts;
  }

-- a word of the heap is one by test
word_there : (config : Config) (address : ℕ) → IsWord config (Heap address) → is_word config (Heap address) ≡ true
word_there config address word_is = and_from _ _ (le-leb _ _ word_is.0) (lt-ltb _ _ word_is.1)

-- The numbers of the spot are in range.
module _ (config : Config) (world : World) (seat : ℕ) (shared : Shared config world) where
  -- the first word of a piece is of the heap
  header_there : (address : ℕ) (piece : Block) → world.block address ≡ Some piece → IsWord config (Heap address)
  header_there address piece piece_there =
      let piece_within = piece_inside config (λ region. world.memory (Top region)) world.block shared.parsable.plotted address piece piece_there in
      let some_word = some_words config (λ region. world.memory (Top region)) world.block shared.parsable shared.owned.rooms address piece piece_there in
      (piece_within.0, omega (arith, piece_within.1, some_word))

  -- so is the second one, where the piece does not only fill
  second_there : (address end : ℕ) (walked_to : IsWalkedTo config world address end) → filling walked_to.piece ≡ None → IsWord config (Heap (address + 1))
  second_there address end walked_to solid =
      let piece_within = piece_inside config (λ region. world.memory (Top region)) world.block shared.parsable.plotted address walked_to.piece walked_to.there in
      let three_long = three_words config world shared address walked_to.piece walked_to.inside solid walked_to.there in
      (omega (arith, piece_within.0), omega (arith, piece_within.1, three_long))

  shape_there : (address end : ℕ) (walked_to : IsWalkedTo config world address end) → filling walked_to.piece ≡ None → has_shape config address ≡ true
  shape_there address end walked_to solid = and_from _ _ (word_there config address (header_there address walked_to.piece walked_to.there)) (word_there config (address + 1) (second_there address end walked_to solid))

  -- behind a piece there is another one, or the end
  walkable_there : (address end next_address : ℕ) → IsMeasured config world address end next_address → is_walkable config next_address end ≡ true
  walkable_there address end next_address measured = ⊎_elim
      (λ (end_further : nat_lt next_address end ≡ true).
      let walked_to = measured.at in
      let piece_within = (placed config world shared address walked_to.piece walked_to.there).within in
      let next_is = measured.next_is in
      let end_is = walked_to.end_is in
      let next_below : next_address < end = ltb-true next_address end end_further in
      let piece = shared.parsable.filled.next (region_with config address) address walked_to.piece piece_within walked_to.from_base walked_to.there (omega (arith, next_below, next_is, end_is)) in
      cond-true (nat_lt next_address end) _ _ end_further ∙ word_there config next_address (header_there next_address piece.0 (ap world.block next_is ∙ piece.1)))
      (λ (end_reached : nat_lt next_address end ≡ false). cond-false (nat_lt next_address end) _ _ end_reached)
      (cases_Bool (nat_lt next_address end))

  ready_there : (spot : EvacSpot) → WorkFacts config world seat spot → is_ready config seat spot ≡ true
  ready_there LoadClaim facts = refl
  ready_there (ClaimUnit unit) facts = lt-ltb _ _ facts.1
  ready_there (LoadTop region) facts = lt-ltb _ _ (shared.evacuated.aside.in_heap region facts.1)
  ready_there (LoadFirst address end) facts = word_there config address (header_there address facts.1.piece facts.1.there)
  ready_there (LoadShape address end) facts = shape_there address end facts.1.at facts.1.solid
  ready_there (LoadMark address end next_piece) facts = and_from _ _ (shape_there address end facts.1.at facts.1.solid) (walkable_there address end next_piece facts.1)
  ready_there (Resolving address end next_piece spot) facts =
      and_from _ _ (shape_there address end facts.2.at facts.2.solid) (and_from _ _ (walkable_there address end next_piece facts.2)
      (and_from _ _ facts.1.ready (ap (λ resolved. resolve.is_busy resolved) facts.0)))
  ready_there (Ended unit) facts = refl

-- the next access is of the table
pub unit_inside : (resolving : ResolvingSteps) (config : Config) (world : World) (seat cset : ℕ) (spot : EvacSpot) → Shared config world → CanEvacuate config world seat cset spot → IsWord config (touch_at config seat spot).word
unit_inside resolving config world seat cset LoadClaim shared can_evacuate = tt
unit_inside resolving config world seat cset (ClaimUnit unit) shared can_evacuate = tt
unit_inside resolving config world seat cset (LoadTop region) shared can_evacuate = shared.evacuated.aside.in_heap region can_evacuate.facts.1
unit_inside resolving config world seat cset (LoadFirst address end) shared can_evacuate = header_there config world seat shared address can_evacuate.facts.1.piece can_evacuate.facts.1.there
unit_inside resolving config world seat cset (LoadShape address end) shared can_evacuate = second_there config world seat shared address end can_evacuate.facts.1.at can_evacuate.facts.1.solid
unit_inside resolving config world seat cset (LoadMark address end next_piece) shared can_evacuate = word_inside config address (header_there config world seat shared address can_evacuate.facts.1.at.piece can_evacuate.facts.1.at.there)
unit_inside resolving config world seat cset (Resolving address end next_piece spot) shared can_evacuate = ((resolving.steps config seat address).stands world spot shared can_evacuate.facts.1).inside
unit_inside resolving config world seat cset (Ended unit) shared can_evacuate = tt

-- of the words of copies only headers are accessed by more than loads
unit_spares : (resolving : ResolvingSteps) (config : Config) (world : World) (seat cset : ℕ) (spot : EvacSpot) (address word_number : ℕ) (body : Body) → Shared config world → CanEvacuate config world seat cset spot → body_at (world.block address) ≡ Some body → word_number < body_words body
    → (touch_at config seat spot).word ≡ Heap (address + word_number) → ((touch_at config seat spot).form ≡ loads) ⊎ (word_number ≡ 0)
unit_spares resolving config world seat cset (ClaimUnit unit) address word_number body shared can_evacuate body_there word_below word = absurd (cc (word))
unit_spares resolving config world seat cset (Resolving address end next_piece spot) given_address word_number body shared can_evacuate body_there word_below word =
    ⊎_elim (λ loaded. inl loaded) (λ published. inr published.4) (resolving.spares config world seat address spot given_address word_number body shared can_evacuate.facts.1 body_there word_below word)
unit_spares resolving config world seat cset _ address word_number body shared can_evacuate body_there word_below word = inl refl

-- the word that it finds is fit for the part
part_fits : (resolving : ResolvingSteps) (config : Config) (world : World) (seat cset : ℕ) (spot : EvacSpot) → Shared config world → CanEvacuate config world seat cset spot → PartFit config seat spot (world.memory (touch_at config seat spot).word)
part_fits resolving config world seat cset (LoadTop region) shared can_evacuate = le-leb _ _ (shared.parsable.plotted.tops region (shared.evacuated.aside.in_heap region can_evacuate.facts.1))
part_fits resolving config world seat cset (Resolving address end next_piece spot) shared can_evacuate = ((resolving.steps config seat address).goes world spot can_evacuate.facts.0 shared can_evacuate.facts.1).fits
part_fits resolving config world seat cset _ shared can_evacuate = tt

module _ (resolving : ResolvingSteps) where
  sweeps : (config : Config) (world : World) (seat cset : ℕ) (spot : EvacSpot) → is_ended spot ≡ false → Shared config world → CanEvacuate config world seat cset spot → SweptStep config world seat cset spot
  sweeps config world seat cset spot spot_going shared can_evacuate =
      let step = each_step resolving config world seat cset spot spot_going shared can_evacuate in
      record { world = step.world; memory = step.memory; graph = step.graph; shared = step.shared; own = step.own.swept; keeps = step.keeps; others = step.others }

  -- what the steps owe
  pub evacuating_by : EvacuatingSteps
  evacuating_by = record {
    begins = λ given_config world_now seat seated on idle nothing. record { seated = seated; phase = on; set_is = refl; working = idle; facts = nothing };
    steps = λ config seat cset. record {
      stands = λ world evac_spot shared can_evacuate. record { stays = λ later_world rely. can_evacuate_stays resolving config world later_world seat shared rely cset evac_spot can_evacuate; inside = unit_inside resolving config world seat cset evac_spot shared can_evacuate };
      goes = λ world_now evac_spot going shared can_evacuate.
          let step = each_step resolving config world_now seat cset evac_spot going shared can_evacuate in
          record {
            step = record { world = step.world; memory = step.memory; graph = step.graph; shared = step.shared; own = step.own.can; keeps = step.keeps; others = step.others };
            fits = (ready_there config step.world seat step.shared (spot_then config world_now seat cset evac_spot) step.own.can.facts, part_fits resolving config world_now seat cset evac_spot shared can_evacuate);
          };
    };
    sweeps = sweeps;
    stays_swept = λ config world after region keeps in_set swept. swept_stays config world after keeps region (base_of config (region + 1)) in_set (let base_next = next_base config region in omega (arith, base_next)) swept;
    spares = unit_spares resolving;
  }

-- as resolving is proved
pub evacuating_steps : EvacuatingSteps
evacuating_steps = evacuating_by resolving_steps

-- a header that leads to a copy is one of an object that is forwarded
leads_is_forwarded : (header copy_address : ℕ) → header ≡ header_word copy_address → is_forwarded header ≡ true
leads_is_forwarded header copy_address header_is = ap is_forwarded header_is ∙ eq-eqb ((4 * copy_address + 3) % 4) 3 (omega arith)

-- in a region that is swept each marked object is forwarded
pub swept_is_forwarded : SweptIsForwarded
swept_is_forwarded config world address shared evacuating_on swept room_left heap_address address_collected address_marked = by_copy ((shared.evacuated.kept (omega (arith, evacuating_on))).only address heap_address address_marked address_collected)
  where
    not_swept : (refs nums : ℕ) (name : Name) → world.block address ≡ Some (thing name refs nums) → IsSwept config world (region_with config address) → ⊥
    not_swept refs nums name object_there (inl outside) = false≢true (sym room_left ∙ outside)
    not_swept refs nums name object_there (inr no_object) =
        let piece_place = placed config world shared address (thing name refs nums) object_there in
        let below_end = before_end config address piece_place.from_base in
        let base_next = next_base config (region_with config address) in
        no_object address refs nums name piece_place.from_base (omega (arith, below_end, base_next)) object_there

    by_copy : HasCopy world.block address → is_forwarded (world.memory (Heap address)) ≡ true
    by_copy (HasCopy.copy body copy_there) = ⊎_elim
        (λ (object_now : world.block address ≡ Some (thing body.name body.refs body.nums)). absurd (not_swept body.refs body.nums body.name object_now swept))
        (λ (was_moved : (copy_address : ℕ) × (world.block address ≡ Some (moved body.name body.refs body.nums copy_address))). leads_is_forwarded _ was_moved.0 (shared.evacuated.moved.moveds address body.refs body.nums was_moved.0 body.name was_moved.1).header)
        (copy_cases (world.block address) body copy_there)
    by_copy (HasCopy.spent_copy words copy_address copy_there) = leads_is_forwarded _ copy_address (shared.evacuated.moved.spents address words copy_address copy_there).header

-- a region that is cared for and on which nobody works is swept
swept_of : (config : Config) (world : World) (region : ℕ) → ((seat : ℕ) → seat < seat_count config.mutators config.helpers → world.ghost.working seat ≡ None) → IsCaredFor config (world.memory Evac) world.block world.ghost.working region → IsSwept config world region
swept_of config world region idle (inl swept) = swept
swept_of config world region idle (inr worker) = let none_is : None ≡ Some region = sym (idle worker.0 worker.1) ∙ worker.2 in absurd (cc (none_is))

pub all_is_forwarded : AllIsForwarded
all_is_forwarded config world shared evacuating_on idle all_claimed room_left address heap_address address_collected address_marked =
    let region_within : region_with config address < config.regions = shared.evacuated.aside.in_heap (region_with config address) address_collected in
    swept_is_forwarded config world address shared evacuating_on (swept_of config world (region_with config address) idle (shared.evacuated.units evacuating_on (region_with config address) (omega (arith, region_within, all_claimed)) address_collected)) room_left heap_address address_collected address_marked
