-- The steps by which a machine works on a unit of evacuation.
use Rattle.std.proofs.Common.{◌≡◌, ◌≢◌, ℕ, ◌+◌, ◌<◌, ◌≤◌, nat_lt, true, false, Option, Some, None, ⊎_elim, inl, inr, refl, sym, ap, ◌∙◌, subst, arith}
use Rattle.std.specs.Prelude.{◌==◌}
use Rattle.std.specs.Int.{bit_at}
use Rattle.std.proofs.lemmas.Bool.{cases_eq, cases_Bool, cond-true, cond-false, eq-eqb, eqb-true, false≢true, ltb-true, ltb-false}
use Rattle.std.proofs.lemmas.Option.{same_Some}
use Rattle.heap_words.specs.declared.config.Config.{Config}
use Rattle.heap_words.specs.declared.access.Unit.{Unit as Done}
use Rattle.heap_words.specs.declared.access.Unit.TheVariants.{Worked, NoneLeft}
use Rattle.heap_words.specs.Encoding.{filler_words_in, object_words}
use Rattle.heap_words.specs.Words.{Word, Phase, Cset, Evac, Claim, Top, Tams, Black, Heap, write}
use Rattle.regions.specs.Place.{base_of, region_with}
use Rattle.regions.specs.Sets.{IsIn}
use Rattle.heap_words.specs.Touch.{touched}
use Rattle.regions.specs.Marks.{mark_word, mark_bit, HasMark}
use Rattle.shen_graph.specs.declared.name.Name.{Name}
use Rattle.heap_world.specs.World.{World, Block, thing, filler, words_of, filling, IsCollected, IsMarkable, IsYoung, IsSweptTo, Shared}
use Rattle.heap_world.specs.Rely.{Keeps, Rely}
use Rattle.heap_world.specs.Part.{PartStep}
use Rattle.heap_world.proofs.Pointing.{piece_inside}
use Rattle.heap_world.proofs.Keeping.{load_keeps, rely_same, keeps_of}
use Rattle.heap_world.proofs.FunctionUpdates.{updated_there}
use Rattle.load_barrier.specs.declared.spot.ResolveSpot.{ResolveSpot}
use Rattle.load_barrier.specs.declared.spot.ResolveSpot.TheVariants.{LoadHeader, Resolved}
use Rattle.load_barrier.specs.Rows as resolves
use Rattle.load_barrier.specs.declared.evac_spot.EvacSpot.{EvacSpot}
use Rattle.load_barrier.specs.declared.evac_spot.EvacSpot.TheVariants.{LoadClaim, ClaimUnit, LoadTop, LoadFirst, LoadShape, LoadMark, Resolving, Ended}
use Rattle.heap_words.specs.Phases.{evacuation_phase}
use Rattle.load_barrier.specs.UnitRows.{touch_at, is_ended, walk_on, after_claim, after_words, after_resolve, is_in_set, lies_in_set}
use Rattle.cycle_steps.specs.Resolving.Facts.{CanResolve}
use Rattle.cycle_steps.specs.Resolving.Laws.{ResolvingSteps}
use Rattle.cycle_steps.specs.Evacuation.Facts.{working_of, IsSwept, IsWalkedTo, HasNothing, WorkFacts, CanEvacuate}
use Rattle.cycle_steps.specs.Evacuation.Laws.{spot_then}
use Rattle.cycle_steps.proofs.Evacuation.Walks.{region_is, placed, header_tells, filling_is, words_there, swept_past, swept_whole, measured_stays}
use Rattle.cycle_steps.proofs.Evacuation.Changes.{world_then, cared_still, step_then, nothing_then}

-- what a machine counts on once it has made a step, and that a unit that it ended is swept
pub record Evacuates (config : Config) (world : World) (seat cset : ℕ) (spot next : EvacSpot) : Type 0 where
  pub can : CanEvacuate config world seat cset next
  pub swept : (region : ℕ) → working_of config spot ≡ Some region → is_ended next ≡ true → IsSwept config world region

-- what a step owes, this with it
abbrev pub UnitStep : Config → World → ℕ → ℕ → EvacSpot → Type 0
UnitStep config world seat cset spot = PartStep config world seat (touch_at config seat spot) (λ world_after. Evacuates config world_after seat cset spot (spot_then config world seat cset spot))

-- A walk of a region of the set has come to an address, at which a piece begins if it has not come to the end.
pub record IsWalk (config : Config) (world : World) (region address end : ℕ) : Type 0 where
  pub set : IsIn (world.memory Cset) region
  pub from_base : base_of config region ≤ address
  pub to_end : address ≤ end
  pub end_is : end ≡ base_of config region + world.memory (Top region)
  pub swept : IsSweptTo config (world.memory Evac) world.block region address
  pub piece : address < end → (x : Block) × (world.block address ≡ Some x)

module _ (config : Config) (world : World) (shared : Shared config world) where
  -- a walk begins at the base
  pub first_walk : (region : ℕ) → IsIn (world.memory Cset) region → IsWalk config world region (base_of config region) (base_of config region + world.memory (Top region))
  first_walk region region_in_set = record {
    set = region_in_set;
    from_base = omega arith;
    to_end = omega arith;
    end_is = refl;
    swept = inr (λ object refs nums name from object_below object_there. absurd (omega (arith, from, object_below)));
    piece = λ some_words. shared.parsable.filled.first region (shared.evacuated.aside.in_heap region region_in_set) (omega (arith, some_words));
  }

  -- and goes on behind a piece that is not the current copy of an object
  pub next_walk : (address end behind : ℕ) (walked_to : IsWalkedTo config world address end) → behind ≡ address + words_of walked_to.piece → ((refs nums : ℕ) (name : Name) → world.block address ≡ Some (thing name refs nums) → ⊥)
      → IsWalk config world (region_with config address) behind end
  next_walk address end behind walked_to next_is no_object =
      let piece_placed = placed config world shared address walked_to.piece walked_to.there in
      let end_is = walked_to.end_is in
      record {
        set = walked_to.inside;
        from_base = omega (arith, next_is, walked_to.from_base);
        to_end = omega (arith, next_is, end_is, piece_placed.to_top);
        end_is = walked_to.end_is;
        swept = subst (λ end. IsSweptTo config (world.memory Evac) world.block (region_with config address) end) (sym next_is) (swept_past config world shared (region_with config address) address walked_to.piece walked_to.there no_object walked_to.swept);
        piece = λ more_pieces. subst (λ address. (piece : Block) × (world.block address ≡ Some piece)) (sym next_is)
            (shared.parsable.filled.next (region_with config address) address walked_to.piece piece_placed.within walked_to.from_base walked_to.there (omega (arith, more_pieces, next_is, end_is)));
      }

module _ (config : Config) (world : World) (seat cset : ℕ) where
  -- a world to which the step leads, but for the unit on which the machine works
  record IsBase (spot : EvacSpot) (next_world : World) : Type 0 where
    memory : next_world.memory ≡ touched world.memory (touch_at config seat spot)
    graph : next_world.graph ≡ world.graph
    shared : Shared config next_world
    keeps : Keeps config seat world next_world
    others : (other_seat : ℕ) → other_seat ≢ seat → Rely config other_seat world next_world
    working : next_world.ghost.working seat ≡ working_of config spot

  -- a load leads to the same world
  loads_at : (spot : EvacSpot) (word : Word) → touched world.memory (touch_at config seat spot) ≡ write world.memory word (world.memory word) → Shared config world → CanEvacuate config world seat cset spot → IsBase spot world
  loads_at spot word same_touch shared can_evacuate = record {
    memory = load_keeps world.memory word ∙ sym same_touch;
    graph = refl;
    shared = shared;
    keeps = keeps_of config seat world world (rely_same config seat world);
    others = λ seat differs. rely_same config seat world;
    working = can_evacuate.working;
  }

  -- the machine goes on with its unit, if it has one
  goes_on : (spot next_spot : EvacSpot) (next_world : World) → IsBase spot next_world → CanEvacuate config world seat cset spot → spot_then config world seat cset spot ≡ next_spot → working_of config spot ≡ working_of config next_spot → is_ended next_spot ≡ false
      → WorkFacts config next_world seat next_spot → UnitStep config world seat cset spot
  goes_on at_spot next_spot next_world base can_evacuate leads unit next_going facts = record {
    world = next_world;
    memory = base.memory;
    graph = base.graph;
    shared = base.shared;
    own = subst (λ spot. Evacuates config next_world seat cset at_spot spot) (sym leads) (record {
      can = record {
        seated = can_evacuate.seated;
        phase = base.keeps.marks.phase ∙ can_evacuate.phase;
        set_is = can_evacuate.set_is ∙ sym base.keeps.copies.cset;
        working = base.working ∙ unit;
        facts = facts;
      };
      swept = λ region unit_ended walk_ended. absurd (false≢true (sym next_going ∙ walk_ended));
    });
    keeps = base.keeps;
    others = base.others;
  }

  -- the machine ends its unit
  ends : (spot : EvacSpot) (unit : Done) (next_world : World) → IsBase spot next_world → CanEvacuate config world seat cset spot → spot_then config world seat cset spot ≡ Ended unit → HasNothing next_world seat
      → ((region : ℕ) → working_of config spot ≡ Some region → IsSwept config next_world region) → UnitStep config world seat cset spot
  ends at_spot unit next_world base can_evacuate leads nothing swept =
      step_then config world next_world seat (next_world.memory Claim) None (base.keeps.marks.phase ∙ can_evacuate.phase) (omega arith) (touch_at config seat at_spot) (λ world_after. Evacuates config world_after seat cset at_spot (spot_then config world seat cset at_spot))
      (sym (load_keeps next_world.memory Claim) ∙ base.memory) base.graph base.shared base.keeps base.others
      (λ is_evacuating region region_claimed region_in_set. cared_still config (next_world.memory Evac) next_world.block next_world.ghost.working seat None region (λ own_unit. inl (swept region (sym base.working ∙ own_unit))) (base.shared.evacuated.units is_evacuating region region_claimed region_in_set))
      (subst (λ spot. Evacuates config (world_then next_world seat (next_world.memory Claim) None) seat cset at_spot spot) (sym leads) (record {
        can = record {
          seated = can_evacuate.seated;
          phase = base.keeps.marks.phase ∙ can_evacuate.phase;
          set_is = can_evacuate.set_is ∙ sym base.keeps.copies.cset;
          working = updated_there next_world.ghost.working seat None;
          facts = nothing_then next_world seat (next_world.memory Claim) None nothing;
        };
        swept = λ region region_in_set ended. swept region region_in_set;
      }))

  -- the machine walks on, or has come to the end
  walks : (spot : EvacSpot) (next_world : World) (region address end : ℕ) → IsBase spot next_world → CanEvacuate config world seat cset spot → spot_then config world seat cset spot ≡ walk_on address end → working_of config spot ≡ Some region
      → HasNothing next_world seat → IsWalk config next_world region address end → UnitStep config world seat cset spot
  walks spot next_world region address end base can_evacuate leads unit nothing walk = ⊎_elim
      (λ (more_words : nat_lt address end ≡ true).
      let top_short : next_world.memory (Top region) ≤ config.region_words = base.shared.parsable.plotted.tops region (base.shared.evacuated.aside.in_heap region walk.set) in
      let before_end : address < end = ltb-true address end more_words in
      let end_is = walk.end_is in
      let same_region : region_with config address ≡ region = region_is config region address walk.from_base (omega (arith, before_end, end_is, top_short)) in
      let piece = walk.piece before_end in
      goes_on spot (LoadFirst address end) next_world base can_evacuate (leads ∙ cond-true (nat_lt address end) _ _ more_words) (unit ∙ ap Some (sym same_region)) refl (
        nothing,
        record {
          inside = subst (λ ended_region. IsIn (next_world.memory Cset) ended_region) (sym same_region) walk.set;
          from_base = subst (λ ended_region. base_of config ended_region ≤ address) (sym same_region) walk.from_base;
          before = before_end;
          end_is = walk.end_is ∙ ap (λ region. base_of config region + next_world.memory (Top region)) (sym same_region);
          piece = piece.0;
          there = piece.1;
          swept = subst (λ region. IsSweptTo config (next_world.memory Evac) next_world.block region address) (sym same_region) walk.swept;
        },
      ))
      (λ (at_end : nat_lt address end ≡ false).
      let end_reached : end ≤ address = ltb-false address end at_end in
      let end_is = walk.end_is in
      ends spot Worked next_world base can_evacuate (leads ∙ cond-false (nat_lt address end) _ _ at_end) nothing
      (λ ended_region was_unit. subst (IsSwept config next_world) (same_Some region ended_region (sym unit ∙ was_unit)) (swept_whole config next_world base.shared region address (omega (arith, end_reached, end_is)) walk.swept)))
      (cases_Bool (nat_lt address end))

  -- the load of what is claimed
  at_load_claim : Shared config world → CanEvacuate config world seat cset LoadClaim → UnitStep config world seat cset LoadClaim
  at_load_claim shared can_evacuate = ⊎_elim
      (λ (some_unclaimed : nat_lt (world.memory Claim) config.regions ≡ true).
      goes_on LoadClaim (ClaimUnit (world.memory Claim)) world (loads_at LoadClaim Claim refl shared can_evacuate) can_evacuate (cond-true (nat_lt (world.memory Claim) config.regions) _ _ some_unclaimed) refl refl (can_evacuate.facts, ltb-true _ _ some_unclaimed))
      (λ (all_claimed : nat_lt (world.memory Claim) config.regions ≡ false).
      ends LoadClaim NoneLeft world (loads_at LoadClaim Claim refl shared can_evacuate) can_evacuate (cond-false (nat_lt (world.memory Claim) config.regions) _ _ all_claimed) can_evacuate.facts (λ region was_unit. absurd (cc (was_unit))))
      (cases_Bool (nat_lt (world.memory Claim) config.regions))

  -- the claim is made: of a region of the set, or of another one, in which there is nothing to do
  claims : (unit : ℕ) (next_spot : EvacSpot) → world.memory Claim ≡ unit → Shared config world → CanEvacuate config world seat cset (ClaimUnit unit) → after_claim cset unit ≡ next_spot
      → (IsIn (world.memory Cset) unit → working_of config next_spot ≡ Some unit) → WorkFacts config (world_then world seat (unit + 1) (working_of config next_spot)) seat next_spot → UnitStep config world seat cset (ClaimUnit unit)
  claims unit next_spot won shared can_evacuate leads works facts =
      step_then config world world seat (unit + 1) (working_of config next_spot) can_evacuate.phase (omega (arith, won)) (touch_at config seat (ClaimUnit unit)) (λ world_after. Evacuates config world_after seat cset (ClaimUnit unit) (spot_then config world seat cset (ClaimUnit unit)))
      (ap (λ claim_word. write world.memory Claim claim_word) (sym (cond-true (world.memory Claim == unit) (unit + 1) (world.memory Claim) (eq-eqb _ _ won)))) refl shared (keeps_of config seat world world (rely_same config seat world)) (λ seat differs. rely_same config seat world)
      (λ is_evacuating region region_claimed region_in_set. ⊎_elim
      (λ (own_unit : region ≡ unit). inr (seat, can_evacuate.seated, updated_there world.ghost.working seat (working_of config next_spot) ∙ works (subst (λ claimed_region. IsIn (world.memory Cset) claimed_region) own_unit region_in_set) ∙ ap Some (sym own_unit)))
      (λ (other_unit : region ≢ unit). cared_still config (world.memory Evac) world.block world.ghost.working seat (working_of config next_spot) region
      (λ was_working. absurd (let no_unit : None ≡ Some region = sym can_evacuate.working ∙ was_working in cc (no_unit)))
      (shared.evacuated.units is_evacuating region (omega (arith, region_claimed, other_unit, won)) region_in_set))
      (cases_eq region unit))
      (subst (λ spot. Evacuates config (world_then world seat (unit + 1) (working_of config next_spot)) seat cset (ClaimUnit unit) spot)
      (sym (cond-true (world.memory Claim == unit) (after_claim cset unit) LoadClaim (eq-eqb _ _ won) ∙ leads)) (record {
        can = record {
          seated = can_evacuate.seated;
          phase = can_evacuate.phase;
          set_is = can_evacuate.set_is;
          working = updated_there world.ghost.working seat (working_of config next_spot);
          facts = facts;
        };
        swept = λ region region_in_set ended. absurd (cc (region_in_set));
      }))

  at_claim_unit : (unit : ℕ) → Shared config world → CanEvacuate config world seat cset (ClaimUnit unit) → UnitStep config world seat cset (ClaimUnit unit)
  at_claim_unit unit shared can_evacuate = ⊎_elim
      (λ (won : (world.memory Claim == unit) ≡ true). ⊎_elim
      (λ (unit_in_set : is_in_set cset unit ≡ true).
      let unit_collected : IsIn (world.memory Cset) unit = subst (λ some_set. IsIn some_set unit) can_evacuate.set_is (eqb-true (bit_at cset unit) 1 unit_in_set) in
      claims unit (LoadTop unit) (eqb-true _ _ won) shared can_evacuate (cond-true (is_in_set cset unit) _ _ unit_in_set) (λ set_has. refl)
      (nothing_then world seat (unit + 1) (Some unit) can_evacuate.facts.0, unit_collected))
      (λ (not_in : is_in_set cset unit ≡ false).
      claims unit (Ended Worked) (eqb-true _ _ won) shared can_evacuate (cond-false (is_in_set cset unit) _ _ not_in)
      (λ set_has. absurd (false≢true (sym not_in ∙ eq-eqb (bit_at cset unit) 1 (subst (λ some_set. IsIn some_set unit) (sym can_evacuate.set_is) set_has))))
      (nothing_then world seat (unit + 1) None can_evacuate.facts.0))
      (cases_Bool (is_in_set cset unit)))
      (λ (lost : (world.memory Claim == unit) ≡ false).
      goes_on (ClaimUnit unit) LoadClaim world
      (loads_at (ClaimUnit unit) Claim (ap (λ claim_word. write world.memory Claim claim_word) (cond-false (world.memory Claim == unit) (unit + 1) (world.memory Claim) lost)) shared can_evacuate) can_evacuate
      (cond-false (world.memory Claim == unit) _ _ lost) refl refl can_evacuate.facts.0)
      (cases_Bool (world.memory Claim == unit))

  -- the load of a region's top
  at_load_top : (region : ℕ) → Shared config world → CanEvacuate config world seat cset (LoadTop region) → UnitStep config world seat cset (LoadTop region)
  at_load_top region shared can_evacuate =
      walks (LoadTop region) world region (base_of config region) (base_of config region + world.memory (Top region)) (loads_at (LoadTop region) (Top region) refl shared can_evacuate) can_evacuate refl refl
      can_evacuate.facts.0 (first_walk config world shared region can_evacuate.facts.1)

  -- the load of a piece's header: the walk steps over words that only fill
  at_load_first : (address end : ℕ) → Shared config world → CanEvacuate config world seat cset (LoadFirst address end) → UnitStep config world seat cset (LoadFirst address end)
  at_load_first address end shared can_evacuate = by_piece (filling can_evacuate.facts.1.piece) refl
    where
      tells : filler_words_in (world.memory (Heap address)) ≡ filling can_evacuate.facts.1.piece
      tells = header_tells config world shared address can_evacuate.facts.1.piece can_evacuate.facts.1.inside can_evacuate.facts.1.there

      base : IsBase (LoadFirst address end) world
      base = loads_at (LoadFirst address end) (Heap address) refl shared can_evacuate

      by_piece : (filled : Option ℕ) → filling can_evacuate.facts.1.piece ≡ filled → UnitStep config world seat cset (LoadFirst address end)
      by_piece (Some words) filling_found =
          let filler_there : can_evacuate.facts.1.piece ≡ filler words = filling_is can_evacuate.facts.1.piece words filling_found in
          walks (LoadFirst address end) world (region_with config address) (address + words) end base can_evacuate (ap (after_words address end) (tells ∙ filling_found)) refl can_evacuate.facts.0
          (next_walk config world shared address end (address + words) can_evacuate.facts.1 (ap (λ x. address + words_of x) (sym filler_there))
          (λ refs nums name object. (let same_piece : Some (filler words) ≡ Some (thing name refs nums) = ap (λ x. Some x) (sym filler_there) ∙ sym can_evacuate.facts.1.there ∙ object in absurd (cc (same_piece)))))
      by_piece None filling_found =
          goes_on (LoadFirst address end) (LoadShape address end) world base can_evacuate (ap (after_words address end) (tells ∙ filling_found)) refl refl (can_evacuate.facts.0, record { at = can_evacuate.facts.1; solid = filling_found })

  -- the load of a piece's shape
  at_load_shape : (address end : ℕ) → Shared config world → CanEvacuate config world seat cset (LoadShape address end) → UnitStep config world seat cset (LoadShape address end)
  at_load_shape address end shared can_evacuate =
      let walked = can_evacuate.facts.1.at in
      goes_on (LoadShape address end) (LoadMark address end (address + object_words (world.memory (Heap (address + 1))))) world (loads_at (LoadShape address end) (Heap (address + 1)) refl shared can_evacuate) can_evacuate refl refl refl
      (can_evacuate.facts.0, record { at = walked; solid = can_evacuate.facts.1.solid; next_is = ap (λ words. address + words) (words_there config world shared address walked.piece walked.inside can_evacuate.facts.1.solid walked.there) })

  -- in the collection set an object that is not marked has no current copy
  unmarked : (address end : ℕ) → Shared config world → world.memory Phase ≡ evacuation_phase → IsWalkedTo config world address end → (HasMark config (λ number. world.memory (Black number)) address → ⊥)
      → (refs nums : ℕ) (name : Name) → world.block address ≡ Some (thing name refs nums) → ⊥
  unmarked address end shared updating_next walked white refs nums name object_there = ⊎_elim
      (λ (address_black : HasMark config (λ number. world.memory (Black number)) address). white address_black)
      (λ (young : IsYoung config (λ region. world.memory (Tams region)) address).
      let old = shared.evacuated.aside.no_new (region_with config address) walked.inside in
      let end_is = walked.end_is in
      omega (arith, young, old, end_is, walked.before))
      ((shared.evacuated.kept (omega (arith, updating_next))).objects address (IsMarkable.object name refs nums object_there))

module _ (resolving : ResolvingSteps) (config : Config) (world : World) (seat cset : ℕ) where
  -- the load of a piece's mark
  at_load_mark : (address end behind : ℕ) → Shared config world → CanEvacuate config world seat cset (LoadMark address end behind) → UnitStep config world seat cset (LoadMark address end behind)
  at_load_mark address end behind shared can_evacuate =
      let next_spot : EvacSpot = LoadMark address end behind in
      let got : ℕ = world.memory (Black (mark_word config address)) in
      let nothing = can_evacuate.facts.0 in
      let measured = can_evacuate.facts.1 in
      let base = loads_at config world seat cset next_spot (Black (mark_word config address)) refl shared can_evacuate in
      let heap_address = (piece_inside config (λ region. world.memory (Top region)) world.block shared.parsable.plotted address measured.at.piece measured.at.there).0 in
      ⊎_elim
      (λ (bit_black : (bit_at got (mark_bit config address) == 1) ≡ true).
      goes_on config world seat cset next_spot (Resolving address end behind LoadHeader) world base can_evacuate (cond-true (bit_at got (mark_bit config address) == 1) _ _ bit_black) refl refl (
        refl,
        resolving.begins config world seat address can_evacuate.seated can_evacuate.phase measured.at.inside ((shared.evacuated.kept (omega (arith, can_evacuate.phase))).only address heap_address (eqb-true _ _ bit_black) measured.at.inside)
            nothing.copying nothing.records_none nothing.scans_none nothing.rooms,
        measured,
      ))
      (λ (white : (bit_at got (mark_bit config address) == 1) ≡ false).
      walks config world seat cset next_spot world (region_with config address) behind end base can_evacuate (cond-false (bit_at got (mark_bit config address) == 1) _ _ white) refl nothing
      (next_walk config world shared address end behind measured.at measured.next_is
      (unmarked config world seat cset address end shared can_evacuate.phase measured.at (λ address_marked. false≢true (sym white ∙ eq-eqb (bit_at got (mark_bit config address)) 1 address_marked)))))
      (cases_Bool (bit_at got (mark_bit config address) == 1))

  -- The address is resolved: with an answer in the set there was no room, and with another the object is forwarded.
  answered : (address end behind : ℕ) (spot : ResolveSpot) (answer : ℕ) (next_world : World) → IsBase config world seat cset (Resolving address end behind spot) next_world → CanEvacuate config world seat cset (Resolving address end behind spot)
      → resolves.next_at config address evacuation_phase spot (world.memory (resolves.touch_at config seat address spot).word) ≡ Resolved answer → CanResolve config next_world seat address (Resolved answer)
      → UnitStep config world seat cset (Resolving address end behind spot)
  answered address end behind resolve_spot answer next_world base can_evacuate leads resolved =
      let spot : EvacSpot = Resolving address end behind resolve_spot in
      let measured = measured_stays config world next_world base.keeps.copies address end behind can_evacuate.facts.2 in
      let answers = resolving.answers config next_world seat address answer resolved in
      let set_is : cset ≡ next_world.memory Cset = can_evacuate.set_is ∙ sym base.keeps.copies.cset in
      let nothing : HasNothing next_world seat = record { copying = resolved.copying; records_none = resolved.records_none; scans_none = resolved.scans_none; rooms = resolved.rooms } in
      ⊎_elim
      (λ (answer_in_set : lies_in_set config cset answer ≡ true).
      ends config world seat cset spot Worked next_world base can_evacuate (ap (after_resolve config cset address end behind) leads ∙ cond-true (lies_in_set config cset answer) _ _ answer_in_set) nothing
      (λ region own_unit. inl (answers.stopped (subst (λ some_set. IsCollected config some_set answer) set_is (eqb-true _ _ answer_in_set)))))
      (λ (not_in : lies_in_set config cset answer ≡ false).
      walks config world seat cset spot next_world (region_with config address) behind end base can_evacuate (ap (after_resolve config cset address end behind) leads ∙ cond-false (lies_in_set config cset answer) _ _ not_in) refl nothing
      (next_walk config next_world base.shared address end behind measured.at measured.next_is
      (answers.passed (λ address_collected. false≢true (sym not_in ∙ eq-eqb _ 1 (subst (λ some_set. IsCollected config some_set answer) (sym set_is) address_collected))))))
      (cases_Bool (lies_in_set config cset answer))

  -- a step of the resolving
  resolves_on : (address end behind : ℕ) (spot later_spot : ResolveSpot) (next_world : World) → IsBase config world seat cset (Resolving address end behind spot) next_world → CanEvacuate config world seat cset (Resolving address end behind spot)
      → resolves.next_at config address evacuation_phase spot (world.memory (resolves.touch_at config seat address spot).word) ≡ later_spot → CanResolve config next_world seat address later_spot
      → UnitStep config world seat cset (Resolving address end behind spot)
  resolves_on address end behind spot (Resolved answer) next_world base can_evacuate leads resolves = answered address end behind spot answer next_world base can_evacuate leads resolves
  resolves_on address end behind spot later_spot next_world base can_evacuate leads resolves =
      goes_on config world seat cset (Resolving address end behind spot) (Resolving address end behind later_spot) next_world base can_evacuate (ap (after_resolve config cset address end behind) leads) refl refl
      (refl, resolves, measured_stays config world next_world base.keeps.copies address end behind can_evacuate.facts.2)

  at_resolving : (address end behind : ℕ) (spot : ResolveSpot) → Shared config world → CanEvacuate config world seat cset (Resolving address end behind spot) → UnitStep config world seat cset (Resolving address end behind spot)
  at_resolving address end behind spot shared can_evacuate =
      let step = ((resolving.steps config seat address).goes world spot can_evacuate.facts.0 shared can_evacuate.facts.1).step in
      resolves_on address end behind spot (resolves.next_at config address evacuation_phase spot (world.memory (resolves.touch_at config seat address spot).word)) step.world
      (record { memory = step.memory; graph = step.graph; shared = step.shared; keeps = step.keeps; others = step.others; working = step.own.1 ∙ can_evacuate.working }) can_evacuate refl step.own.0

  -- each step
  pub each_step : (spot : EvacSpot) → is_ended spot ≡ false → Shared config world → CanEvacuate config world seat cset spot → UnitStep config world seat cset spot
  each_step LoadClaim spot_going shared can_evacuate = at_load_claim config world seat cset shared can_evacuate
  each_step (ClaimUnit unit) spot_going shared can_evacuate = at_claim_unit config world seat cset unit shared can_evacuate
  each_step (LoadTop region) spot_going shared can_evacuate = at_load_top config world seat cset region shared can_evacuate
  each_step (LoadFirst address end) spot_going shared can_evacuate = at_load_first config world seat cset address end shared can_evacuate
  each_step (LoadShape address end) spot_going shared can_evacuate = at_load_shape config world seat cset address end shared can_evacuate
  each_step (LoadMark address end behind) spot_going shared can_evacuate = at_load_mark address end behind shared can_evacuate
  each_step (Resolving address end behind spot) spot_going shared can_evacuate = at_resolving address end behind spot shared can_evacuate
  each_step (Ended unit) spot_going shared can_evacuate = absurd (cc (spot_going))
