-- The steps by which a machine works on a unit of updating.
use Rattle.heap_words.specs.Phases.{updating_phase}
use Rattle.std.proofs.Common.{◌≡◌, ◌≢◌, ℕ, ◌+◌, ◌*◌, ◌%◌, ◌<◌, ◌≤◌, nat_lt, true, false, Option, Some, ⊎_elim, inl, inr, refl, sym, ap, ◌∙◌, subst, arith}
use Rattle.std.specs.Prelude.{◌==◌}
use Rattle.std.specs.Int.{bit_at}
use Rattle.std.proofs.lemmas.Bool.{cases_eq, cases_Bool, cond-true, cond-false, eq-eqb, eqb-true, eqb-false, false≢true, ltb-true, ltb-false}
use Rattle.heap_words.specs.declared.config.Config.{Config}
use Rattle.heap_words.specs.declared.access.Unit.TheVariants.{Worked, NoneLeft}
use Rattle.heap_words.specs.Encoding.{refs_in, header_word, is_forwarded, forwardee_in}
use Rattle.heap_words.specs.Words.{Word, Phase, Cset, Claim, Top, Tams, Limit, Black, Heap, write}
use Rattle.regions.specs.Place.{base_of, region_with}
use Rattle.regions.specs.Sets.{IsIn}
use Rattle.heap_words.specs.Touch.{touched}
use Rattle.regions.specs.Marks.{mark_word, mark_bit, HasMark}
use Rattle.shen_graph.specs.declared.name.Name.{Name}
use Rattle.heap_world.specs.World.{World, Scan, Block, thing, filler, words_of, IsMarkable, IsYoung, IsCurrent, IsUpdating, Shared}
use Rattle.heap_world.specs.Rely.{Rely}
use Rattle.heap_world.specs.Part.{PartStep}
use Rattle.heap_world.proofs.Keeping.{load_keeps, rely_same, keeps_of}
use Rattle.heap_world.proofs.FunctionUpdates.{updated, updated_there}
use Rattle.unit_part.specs.declared.update_spot.Walk.{Walk}
use Rattle.unit_part.specs.declared.update_spot.Visit.{Visit}
use Rattle.unit_part.specs.declared.update_spot.UpdateSpot.{UpdateSpot}
use Rattle.unit_part.specs.declared.update_spot.UpdateSpot.TheVariants.{LoadClaim, ClaimUnit, LoadLimit, LoadTams, LoadFirst, LoadShape, LoadBlack, LoadField, LoadHeader, ExchangeField, Ended}
use Rattle.unit_part.specs.UpdateRows.{touch_at, next_at, is_ended, limit_of, tams_of, names_set, next_object, after_words, next_field}
use Rattle.cycle_steps.proofs.Evacuation.Walks.{region_is, placed}
use Rattle.cycle_steps.specs.Updating.Facts.{pass_of, HasComeTo, IsPiece, HasShape, HasField, HasFound, UpdateFacts, CanUpdate}
use Rattle.cycle_steps.proofs.Updating.Passes.{Comes, comes_at, IsPassed, passed_same, updating_passed, updating_claimed}
use Rattle.cycle_steps.proofs.Updating.Changes.{world_then, keeps_then, fields_then, step_then}
use Rattle.cycle_steps.proofs.Updating.Facts.{field_stays, facts_stay, can_update_stays}
use Rattle.cycle_steps.proofs.Updating.Pieces.{walked_region, walks_to, walks_on, piece_header, filler_tells, piece_shape, shape_words, shape_refs, field_word, current_names_none, old_names_set}
use Rattle.cycle_steps.proofs.Updating.Stored.{renewed_world, shared_renewed, rely_renewed}

-- where a machine stands after a step
abbrev pub spot_then : Config → World → ℕ → UpdateSpot → UpdateSpot
spot_then config world cset spot = next_at config cset spot (world.memory (touch_at config spot).word)

-- what a step of a machine that updates owes
abbrev pub UpdateStep : Config → World → ℕ → ℕ → UpdateSpot → Type 0
UpdateStep config world seat cset spot = PartStep config world seat (touch_at config spot) (λ other_world. CanUpdate config other_world seat cset (spot_then config world cset spot))

-- a place of a unit
abbrev stand : ℕ → ℕ → Scan
stand object field = record { object = object; field = field }

-- each field to which a machine comes from where it stands it comes to from another stand, in a world, or the field is current
abbrev IsPassedIn : Config → World → (from later_pass : Option Scan) → Type 0
IsPassedIn config world from later_pass = IsPassed config (λ any_region. world.memory (Limit any_region)) (λ address. world.memory (Heap address)) world.block from later_pass

-- the base of a region is of the region
base_region : (config : Config) (region : ℕ) → region_with config (base_of config region) ≡ region
base_region config region = region_is config region (base_of config region) (omega arith) (let some_words = config.in_range.least_words in omega (arith, some_words))

-- a header that leads to a copy is one of an object that is forwarded
leads_is_forwarded : (header new_address : ℕ) → header ≡ header_word new_address → is_forwarded header ≡ true
leads_is_forwarded header new_address header_told = ap is_forwarded header_told ∙ eq-eqb ((4 * new_address + 3) % 4) 3 (omega arith)

-- to the copy
header_leads : (new_address : ℕ) → forwardee_in (header_word new_address) ≡ new_address
header_leads new_address = omega arith

module _ (config : Config) (world : World) (seat cset : ℕ) where
  -- a world to which the step leads, but for where the machine stands
  record IsBase (spot : UpdateSpot) (some_world : World) : Type 0 where
    memory : some_world.memory ≡ touched world.memory (touch_at config spot)
    graph : some_world.graph ≡ world.graph
    shared : Shared config some_world
    rely : (any_seat : ℕ) → Rely config any_seat world some_world

  -- a load leads to the same world
  loads_at : (spot : UpdateSpot) (word : Word) → touched world.memory (touch_at config spot) ≡ write world.memory word (world.memory word) → Shared config world → IsBase spot world
  loads_at spot word same_access shared = record { memory = load_keeps world.memory word ∙ sym same_access; graph = refl; shared = shared; rely = λ seat. rely_same config seat world }

  -- what a machine counts on once it stands elsewhere
  stands_then : (world : World) (claim : ℕ) (spot next : UpdateSpot) → Shared config world → CanUpdate config world seat cset spot → (config.regions ≤ world.memory Claim → config.regions ≤ claim) → UpdateFacts config world next
      → CanUpdate config (world_then world seat claim (pass_of config next)) seat cset next
  stands_then world claim spot next shared can_update claims facts = record {
    seated = can_update.seated;
    phase = can_update.phase;
    set_is = can_update.set_is;
    copying = can_update.copying;
    working = can_update.working;
    records_none = can_update.records_none;
    scanning = updated_there world.ghost.scanning seat (pass_of config next);
    rooms = can_update.rooms;
    facts = facts_stay config world (world_then world seat claim (pass_of config next)) seat shared can_update.phase
        (keeps_then config world world seat claim (pass_of config next) (keeps_of config seat world world (rely_same config seat world)))
        (fields_then config world world seat claim (pass_of config next) claims (rely_same config seat world).fields) next facts;
  }

  -- the machine goes on
  goes_on : (spot next : UpdateSpot) (some_world : World) → IsBase spot some_world → CanUpdate config some_world seat cset spot → spot_then config world cset spot ≡ next → IsPassedIn config some_world (pass_of config spot) (pass_of config next) → UpdateFacts config some_world next
      → UpdateStep config world seat cset spot
  goes_on own_spot next some_world base can_update leads passed facts =
      step_then config world some_world seat (some_world.memory Claim) (pass_of config next) (touch_at config own_spot) (λ other_world. CanUpdate config other_world seat cset (spot_then config world cset own_spot))
      (sym (load_keeps some_world.memory Claim) ∙ base.memory) base.graph base.shared can_update.phase (base.rely seat).fields.claims
      (keeps_of config seat world some_world (base.rely seat)) (λ other_field differs. base.rely other_field)
      (updating_passed config (some_world.memory Cset) (some_world.memory Claim) (λ region. some_world.memory (Top region)) (λ region. some_world.memory (Limit region)) (λ address. some_world.memory (Heap address)) some_world.block some_world.ghost.scanning seat can_update.seated
      (base.shared.updated can_update.phase) (pass_of config next) (subst (λ from. IsPassedIn config some_world from (pass_of config next)) (sym can_update.scanning) passed))
      (subst (λ spot. CanUpdate config (world_then some_world seat (some_world.memory Claim) (pass_of config next)) seat cset spot) (sym leads)
      (stands_then some_world (some_world.memory Claim) own_spot next base.shared can_update (λ all_claimed. all_claimed) facts))

  -- it stays where it stands
  stays_there : (spot next : UpdateSpot) (some_world : World) → IsBase spot some_world → CanUpdate config some_world seat cset spot → spot_then config world cset spot ≡ next → pass_of config spot ≡ pass_of config next → UpdateFacts config some_world next → UpdateStep config world seat cset spot
  stays_there spot next some_world base can_update leads same_pass facts =
      goes_on spot next some_world base can_update leads (subst (λ later_pass. IsPassedIn config some_world (pass_of config spot) later_pass) same_pass (passed_same config (λ region. some_world.memory (Limit region)) (λ address. some_world.memory (Heap address)) some_world.block (pass_of config spot))) facts

  -- It goes behind a piece whose references are current from where it stands on.
  goes_behind : (spot : UpdateSpot) (some_world : World) (walk : Walk) (address field : ℕ) (piece : Block) → IsBase spot some_world → CanUpdate config some_world seat cset spot → HasComeTo config some_world walk address → some_world.block address ≡ Some piece
      → pass_of config spot ≡ Some (stand address field)
      → ((refs nums other_field : ℕ) (name : Name) → some_world.block address ≡ Some (thing name refs nums) → other_field < refs → field ≤ other_field → IsCurrent some_world.block (some_world.memory (Heap (address + 3 + other_field))))
      → spot_then config world cset spot ≡ next_object config walk (address + words_of piece) → UpdateStep config world seat cset spot
  goes_behind spot some_world walk address field piece base can_update walked piece_there pass_stands current leads = ⊎_elim
      (λ (goes_further : nat_lt (address + words_of piece) (limit_of config walk) ≡ true).
      let next_piece = walks_on config some_world base.shared can_update.phase walk address piece walked piece_there (ltb-true _ _ goes_further) in
      let next_region = walked_region config some_world base.shared can_update.phase walk (address + words_of piece) next_piece.0 in
      goes_on spot (LoadFirst walk (address + words_of piece)) some_world base can_update (leads ∙ cond-true (nat_lt (address + words_of piece) (limit_of config walk)) _ _ goes_further)
      (λ other_address refs nums other_field name object_there field_below old comes.
      let from = comes_at config (pass_of config spot) (stand address field) other_address other_field pass_stands comes in
      ⊎_elim
      (λ (address_less : address < other_address).
      let pieces_apart = base.shared.parsable.plotted.apart address other_address piece (thing name refs nums) piece_there object_there address_less in
      inr (
        stand (address + words_of piece) 0,
        refl,
        next_region ∙ sym here ∙ from.0,
        ⊎_elim
            (λ (same_address : address + words_of piece ≡ other_address). inr (same_address, omega arith))
            (λ (piece_differs : address + words_of piece ≢ other_address). inl (omega (arith, pieces_apart, piece_differs)))
            (cases_eq (address + words_of piece) other_address),
      ))
      (λ (same_address : (address ≡ other_address) × (field ≤ other_field)). inl (subst (λ some_address. IsCurrent some_world.block (some_world.memory (Heap (some_address + 3 + other_field)))) same_address.0 (current refs nums other_field name (ap some_world.block same_address.0 ∙ object_there) field_below same_address.1)))
      from.1)
      next_piece)
      (λ (unit_ended : nat_lt (address + words_of piece) (limit_of config walk) ≡ false).
      let limit_reached : limit_of config walk ≤ address + words_of piece = ltb-false _ _ unit_ended in
      let limit_is = walked.limit_is in
      goes_on spot (Ended Worked) some_world base can_update (leads ∙ cond-false (nat_lt (address + words_of piece) (limit_of config walk)) _ _ unit_ended)
      (λ other_address refs nums other_field name object_there field_below old comes.
      let from = comes_at config (pass_of config spot) (stand address field) other_address other_field pass_stands comes in
      ⊎_elim
      (λ (address_less : address < other_address).
      let pieces_apart = base.shared.parsable.plotted.apart address other_address piece (thing name refs nums) piece_there object_there address_less in
      absurd (old (subst (λ any_region. base_of config any_region + some_world.memory (Limit any_region) ≤ other_address) (sym here ∙ from.0) (omega (arith, pieces_apart, limit_reached, limit_is)))))
      (λ (same_address : (address ≡ other_address) × (field ≤ other_field)). inl (subst (λ some_address. IsCurrent some_world.block (some_world.memory (Heap (some_address + 3 + other_field)))) same_address.0 (current refs nums other_field name (ap some_world.block same_address.0 ∙ object_there) field_below same_address.1)))
      from.1)
      tt)
      (cases_Bool (nat_lt (address + words_of piece) (limit_of config walk)))
    where
      here : region_with config address ≡ walk.region
      here = walked_region config some_world base.shared can_update.phase walk address walked

  -- It goes past a reference that is current.
  goes_past : (spot : UpdateSpot) (some_world : World) (visit : Visit) (field : ℕ) → IsBase spot some_world → CanUpdate config some_world seat cset spot → HasField config some_world visit field → pass_of config spot ≡ Some (stand visit.address field)
      → IsCurrent some_world.block (some_world.memory (Heap (visit.address + 3 + field))) → spot_then config world cset spot ≡ next_field config visit (field + 1) → UpdateStep config world seat cset spot
  goes_past spot some_world visit field base can_update has_field pass_stands current leads = ⊎_elim
      (λ (fields_left : nat_lt (field + 1) (refs_in visit.shape) ≡ true).
      goes_on spot (LoadField visit (field + 1)) some_world base can_update (leads ∙ cond-true (nat_lt (field + 1) (refs_in visit.shape)) _ _ fields_left)
      (λ other_address refs nums other_field name object_there field_below old comes.
      let from = comes_at config (pass_of config spot) (stand visit.address field) other_address other_field pass_stands comes in
      ⊎_elim
      (λ (address_less : visit.address < other_address). inr (stand visit.address (field + 1), refl, from.0, inl address_less))
      (λ (same_address : (visit.address ≡ other_address) × (field ≤ other_field)). ⊎_elim
      (λ (at_own_field : field ≡ other_field). inl (subst (λ some_address. IsCurrent some_world.block (some_world.memory (Heap (some_address + 3 + other_field)))) same_address.0 (at_field other_field at_own_field)))
      (λ (fields_differ : field ≢ other_field). let field_least = same_address.1 in inr (stand visit.address (field + 1), refl, from.0, inr (same_address.0, omega (arith, field_least, fields_differ))))
      (cases_eq field other_field))
      from.1)
      (record { walked = has_field.walked; alive = has_field.alive; shape_is = has_field.shape_is; below = ltb-true _ _ fields_left }))
      (λ (no_fields_left : nat_lt (field + 1) (refs_in visit.shape) ≡ false).
      let has_shape : HasShape some_world visit.address visit.shape = inl (has_field.alive, has_field.shape_is) in
      let piece = shape_words config some_world base.shared can_update.phase visit.address visit.shape has_shape in
      goes_behind spot some_world visit.walk visit.address field piece.0 base can_update has_field.walked piece.1 pass_stands
      (λ refs nums other_field name object_there field_below from.
      let all_refs = shape_refs config some_world base.shared can_update.phase visit.address visit.shape refs nums name object_there has_shape in
      let fields_past : refs_in visit.shape ≤ field + 1 = ltb-false _ _ no_fields_left in
      at_field other_field (omega (arith, all_refs, fields_past, field_below, from)))
      (leads ∙ cond-false (nat_lt (field + 1) (refs_in visit.shape)) _ _ no_fields_left ∙ ap (λ words. next_object config visit.walk (visit.address + words)) piece.2))
      (cases_Bool (nat_lt (field + 1) (refs_in visit.shape)))
    where
      at_field : (other_field : ℕ) → field ≡ other_field → IsCurrent some_world.block (some_world.memory (Heap (visit.address + 3 + other_field)))
      at_field other_field same_field = subst (λ some_field. IsCurrent some_world.block (some_world.memory (Heap (visit.address + 3 + some_field)))) same_field current

  -- the load of what is claimed
  at_load_claim : Shared config world → CanUpdate config world seat cset LoadClaim → UpdateStep config world seat cset LoadClaim
  at_load_claim shared can_update = ⊎_elim
      (λ (unit_left : nat_lt (world.memory Claim) config.regions ≡ true).
      stays_there LoadClaim (ClaimUnit (world.memory Claim)) world (loads_at LoadClaim Claim refl shared) can_update (cond-true (nat_lt (world.memory Claim) config.regions) _ _ unit_left) refl (ltb-true _ _ unit_left))
      (λ (no_unit_left : nat_lt (world.memory Claim) config.regions ≡ false).
      stays_there LoadClaim (Ended NoneLeft) world (loads_at LoadClaim Claim refl shared) can_update (cond-false (nat_lt (world.memory Claim) config.regions) _ _ no_unit_left) refl tt)
      (cases_Bool (nat_lt (world.memory Claim) config.regions))

  -- the claim is made: of a region of the set, in which there is nothing to do, or of another one
  claims : (unit : ℕ) (next : UpdateSpot) → world.memory Claim ≡ unit → Shared config world → CanUpdate config world seat cset (ClaimUnit unit) → spot_then config world cset (ClaimUnit unit) ≡ next
      → ((address refs nums other_field : ℕ) (name : Name) → world.block address ≡ Some (thing name refs nums) → region_with config address ≡ unit → Comes config (pass_of config next) address other_field)
      → UpdateFacts config world next → UpdateStep config world seat cset (ClaimUnit unit)
  claims unit next won shared can_update leads first_comes facts =
      let all_claimed_then : config.regions ≤ world.memory Claim → config.regions ≤ unit + 1 = λ all_claimed. omega (arith, all_claimed, won) in
      step_then config world world seat (unit + 1) (pass_of config next) (touch_at config (ClaimUnit unit)) (λ other_world. CanUpdate config other_world seat cset (spot_then config world cset (ClaimUnit unit)))
      (ap (λ claim. write world.memory Claim claim) (sym (cond-true (world.memory Claim == unit) (unit + 1) (world.memory Claim) (eq-eqb _ _ won)))) refl shared can_update.phase all_claimed_then
      (keeps_of config seat world world (rely_same config seat world)) (λ seat seats_differ. rely_same config seat world)
      (subst (λ claim. IsUpdating config (world.memory Cset) (claim + 1) (λ region. world.memory (Top region)) (λ region. world.memory (Limit region)) (λ address. world.memory (Heap address)) world.block (updated world.ghost.scanning seat (pass_of config next))) won
      (updating_claimed config (world.memory Cset) (world.memory Claim) (λ region. world.memory (Top region)) (λ region. world.memory (Limit region)) (λ address. world.memory (Heap address)) world.block world.ghost.scanning seat can_update.seated
      (shared.updated can_update.phase) (pass_of config next) can_update.scanning (λ address refs nums other_field name object_there same_region. first_comes address refs nums other_field name object_there (same_region ∙ won))))
      (subst (λ spot. CanUpdate config (world_then world seat (unit + 1) (pass_of config next)) seat cset spot) (sym leads) (stands_then world (unit + 1) (ClaimUnit unit) next shared can_update all_claimed_then facts))

  at_claim_unit : (unit : ℕ) → Shared config world → CanUpdate config world seat cset (ClaimUnit unit) → UpdateStep config world seat cset (ClaimUnit unit)
  at_claim_unit unit shared can_update = ⊎_elim
      (λ (won : (world.memory Claim == unit) ≡ true). ⊎_elim
      (λ (unit_in_set : (bit_at cset unit == 1) ≡ true).
      let unit_inside : IsIn (world.memory Cset) unit = subst (λ some_set. IsIn some_set unit) can_update.set_is (eqb-true (bit_at cset unit) 1 unit_in_set) in
      claims unit (Ended Worked) (eqb-true _ _ won) shared can_update (cond-true (world.memory Claim == unit) _ _ won ∙ cond-true (bit_at cset unit == 1) _ _ unit_in_set)
      (λ other_address refs nums other_field name object_there same_region. absurd ((shared.updated can_update.phase).outside other_address refs nums name object_there (subst (λ some_region. IsIn (world.memory Cset) some_region) (sym same_region) unit_inside)))
      tt)
      (λ (not_in : (bit_at cset unit == 1) ≡ false).
      claims unit (LoadLimit unit) (eqb-true _ _ won) shared can_update (cond-true (world.memory Claim == unit) _ _ won ∙ cond-false (bit_at cset unit == 1) _ _ not_in)
      (λ other_address refs nums other_field name object_there same_region.
      let object_place = placed config world shared other_address (thing name refs nums) object_there in
      let base_below : base_of config unit ≤ other_address = subst (λ some_region. base_of config some_region ≤ other_address) same_region object_place.from_base in (
        stand (base_of config unit) 0,
        refl,
        base_region config unit ∙ sym same_region,
        ⊎_elim
            (λ (same_address : base_of config unit ≡ other_address). inr (same_address, omega arith))
            (λ (base_differs : base_of config unit ≢ other_address). inl (omega (arith, base_below, base_differs)))
            (cases_eq (base_of config unit) other_address),
      ))
      (can_update.facts, λ unit_inside. false≢true (sym not_in ∙ eq-eqb (bit_at cset unit) 1 (subst (λ some_set. IsIn some_set unit) (sym can_update.set_is) unit_inside))))
      (cases_Bool (bit_at cset unit == 1)))
      (λ (lost : (world.memory Claim == unit) ≡ false).
      stays_there (ClaimUnit unit) LoadClaim world
      (loads_at (ClaimUnit unit) Claim (ap (λ claim. write world.memory Claim claim) (cond-false (world.memory Claim == unit) (unit + 1) (world.memory Claim) lost)) shared) can_update
      (cond-false (world.memory Claim == unit) _ _ lost) refl tt)
      (cases_Bool (world.memory Claim == unit))

  -- the load of a region's limit: where it is 0, no object there was made before updating began
  at_load_limit : (region : ℕ) → Shared config world → CanUpdate config world seat cset (LoadLimit region) → UpdateStep config world seat cset (LoadLimit region)
  at_load_limit region shared can_update = ⊎_elim
      (λ (no_limit : (world.memory (Limit region) == 0) ≡ true).
      let zero : world.memory (Limit region) ≡ 0 = eqb-true _ _ no_limit in
      goes_on (LoadLimit region) (Ended Worked) world (loads_at (LoadLimit region) (Limit region) refl shared) can_update (cond-true (world.memory (Limit region) == 0) _ _ no_limit)
      (λ other_address refs nums other_field name object_there field_below old comes.
      let from = comes_at config (pass_of config (LoadLimit region)) (stand (base_of config region) 0) other_address other_field refl comes in
      let same_region : region ≡ region_with config other_address = sym (base_region config region) ∙ from.0 in
      let base_below : base_of config region ≤ other_address = subst (λ some_region. base_of config some_region ≤ other_address) (sym same_region) (placed config world shared other_address (thing name refs nums) object_there).from_base in
      absurd (old (subst (λ region. base_of config region + world.memory (Limit region) ≤ other_address) same_region (omega (arith, base_below, zero)))))
      tt)
      (λ (some_limit : (world.memory (Limit region) == 0) ≡ false).
      stays_there (LoadLimit region) (LoadTams region (world.memory (Limit region))) world (loads_at (LoadLimit region) (Limit region) refl shared) can_update (cond-false (world.memory (Limit region) == 0) _ _ some_limit) refl
      (can_update.facts, refl, eqb-false _ _ some_limit))
      (cases_Bool (world.memory (Limit region) == 0))

  -- the load of its top at mark start
  at_load_tams : (region limit : ℕ) → Shared config world → CanUpdate config world seat cset (LoadTams region limit) → UpdateStep config world seat cset (LoadTams region limit)
  at_load_tams region limit shared can_update =
      let walk : Walk = record { region = region; limit = limit; tams = world.memory (Tams region) } in
      let unit = can_update.facts.0 in
      let limit_is = can_update.facts.1 in
      let some_limit = can_update.facts.2 in
      let low_limit = (shared.updated can_update.phase).limits region unit.0 in
      let first_piece = shared.parsable.filled.first region unit.0 (omega (arith, limit_is, some_limit, low_limit)) in
      stays_there (LoadTams region limit) (LoadFirst walk (base_of config region)) world (loads_at (LoadTams region limit) (Tams region) refl shared) can_update refl refl
      (walks_to config world shared can_update.phase walk (base_of config region) first_piece.0 unit limit_is refl (omega arith) (omega (arith, some_limit)) first_piece.1)

  -- the load of a header: the walk steps over words that only fill
  at_load_first : (walk : Walk) (address : ℕ) → Shared config world → CanUpdate config world seat cset (LoadFirst walk address) → UpdateStep config world seat cset (LoadFirst walk address)
  at_load_first walk address shared can_update = ⊎_elim
      (λ (has_piece : IsPiece world address).
      stays_there (LoadFirst walk address) (LoadShape walk address) world base can_update (ap (after_words config walk address) (piece_header config world shared can_update.phase address has_piece)) refl (can_update.facts.0, has_piece))
      (λ (fills : (words : ℕ) × (world.block address ≡ Some (filler words))).
      goes_behind (LoadFirst walk address) world walk address 0 (filler fills.0) base can_update can_update.facts.0 fills.1 refl
      (λ refs nums other_field name object_there field_below from. (let same_piece : Some (filler fills.0) ≡ Some (thing name refs nums) = sym fills.1 ∙ object_there in absurd (cc (same_piece))))
      (ap (after_words config walk address) (filler_tells config world shared can_update.phase address fills.0 fills.1)))
      can_update.facts.1
    where
      base : IsBase (LoadFirst walk address) world
      base = loads_at (LoadFirst walk address) (Heap address) refl shared

  -- an object above the top at mark start is not dead
  alive_above : (walk : Walk) (address : ℕ) → Shared config world → world.memory Phase ≡ updating_phase → HasComeTo config world walk address → IsPiece world address → tams_of config walk ≤ address → IsMarkable world.block address
  alive_above walk address shared phase_three walked (inl alive) above_tams = alive
  alive_above walk address shared phase_three walked (inr fills) above_tams =
      let tams_is = walked.tams_is in
      absurd ((shared.evacuated.kept (omega (arith, phase_three))).deads address fills.0 fills.1
      (subst (λ any_region. base_of config any_region + world.memory (Tams any_region) ≤ address) (sym (walked_region config world shared phase_three walk address walked)) (omega (arith, above_tams, tams_is))))

  -- the load of a shape
  at_load_shape : (walk : Walk) (address : ℕ) → Shared config world → CanUpdate config world seat cset (LoadShape walk address) → UpdateStep config world seat cset (LoadShape walk address)
  at_load_shape walk address shared can_update =
      let got : ℕ = world.memory (Heap (address + 1)) in
      let visit : Visit = record { walk = walk; address = address; shape = got } in
      let base = loads_at (LoadShape walk address) (Heap (address + 1)) refl shared in
      let shape = piece_shape config world shared can_update.phase address can_update.facts.1 in
      let piece = shape_words config world shared can_update.phase address got shape in
      ⊎_elim
      (λ (no_fields : (refs_in got == 0) ≡ true).
      goes_behind (LoadShape walk address) world walk address 0 piece.0 base can_update can_update.facts.0 piece.1 refl
      (λ refs nums other_field name object_there field_below from.
      let all_refs = shape_refs config world shared can_update.phase address got refs nums name object_there shape in
      let zero : refs_in got ≡ 0 = eqb-true _ _ no_fields in
      absurd (omega (arith, all_refs, zero, field_below)))
      (cond-true (refs_in got == 0) _ _ no_fields ∙ ap (λ words. next_object config walk (address + words)) piece.2))
      (λ (some_fields : (refs_in got == 0) ≡ false).
      let some_refs : refs_in got ≢ 0 = eqb-false _ _ some_fields in
      ⊎_elim
      (λ (old : nat_lt address (tams_of config walk) ≡ true).
      stays_there (LoadShape walk address) (LoadBlack visit) world base can_update (cond-false (refs_in got == 0) _ _ some_fields ∙ cond-true (nat_lt address (tams_of config walk)) _ _ old) refl
      (can_update.facts.0, shape, some_refs, ltb-true _ _ old))
      (λ (young : nat_lt address (tams_of config walk) ≡ false).
      stays_there (LoadShape walk address) (LoadField visit 0) world base can_update (cond-false (refs_in got == 0) _ _ some_fields ∙ cond-false (nat_lt address (tams_of config walk)) _ _ young) refl
      (record { walked = can_update.facts.0; alive = alive_above walk address shared can_update.phase can_update.facts.0 can_update.facts.1 (ltb-false _ _ young); shape_is = refl; below = omega (arith, some_refs) }))
      (cases_Bool (nat_lt address (tams_of config walk))))
      (cases_Bool (refs_in got == 0))

  -- a marked object is not dead
  alive_marked : (visit : Visit) → Shared config world → world.memory Phase ≡ updating_phase → HasComeTo config world visit.walk visit.address → HasShape world visit.address visit.shape → refs_in visit.shape ≢ 0 → HasMark config (λ number. world.memory (Black number)) visit.address
      → HasField config world visit 0
  alive_marked visit shared phase_three walked (inl object) some_refs mark = record { walked = walked; alive = object.0; shape_is = object.1; below = omega (arith, some_refs) }
  alive_marked visit shared phase_three walked (inr fills) some_refs mark = absurd ((shared.evacuated.kept (omega (arith, phase_three))).unmarked visit.address fills.0 fills.1 mark)

  -- the load of a mark
  at_load_black : (visit : Visit) → Shared config world → CanUpdate config world seat cset (LoadBlack visit) → UpdateStep config world seat cset (LoadBlack visit)
  at_load_black visit shared can_update =
      let got : ℕ = world.memory (Black (mark_word config visit.address)) in
      let base = loads_at (LoadBlack visit) (Black (mark_word config visit.address)) refl shared in
      let walked = can_update.facts.0 in
      let shape = can_update.facts.1 in
      let old = can_update.facts.3 in
      let piece = shape_words config world shared can_update.phase visit.address visit.shape shape in
      ⊎_elim
      (λ (object_black : (bit_at got (mark_bit config visit.address) == 1) ≡ true).
      stays_there (LoadBlack visit) (LoadField visit 0) world base can_update (cond-true (bit_at got (mark_bit config visit.address) == 1) _ _ object_black) refl
      (alive_marked visit shared can_update.phase walked shape can_update.facts.2 (eqb-true _ _ object_black)))
      (λ (white : (bit_at got (mark_bit config visit.address) == 1) ≡ false).
      goes_behind (LoadBlack visit) world visit.walk visit.address 0 piece.0 base can_update walked piece.1 refl
      (λ ref_count num_count other_field object_name object_there field_below from. ⊎_elim
      (λ (mark : HasMark config (λ number. world.memory (Black number)) visit.address). absurd (false≢true (sym white ∙ eq-eqb _ _ mark)))
      (λ (young : IsYoung config (λ any_region. world.memory (Tams any_region)) visit.address).
      let tams_is = walked.tams_is in
      let above_tams : base_of config visit.walk.region + world.memory (Tams visit.walk.region) ≤ visit.address =
      subst (λ any_region. base_of config any_region + world.memory (Tams any_region) ≤ visit.address) (walked_region config world shared can_update.phase visit.walk visit.address walked) young in
      absurd (omega (arith, old, tams_is, above_tams)))
      ((shared.evacuated.kept (let phase_three = can_update.phase in omega (arith, phase_three))).objects visit.address (IsMarkable.object object_name ref_count num_count object_there)))
      (cond-false (bit_at got (mark_bit config visit.address) == 1) _ _ white ∙ ap (λ words. next_object config visit.walk (visit.address + words)) piece.2))
      (cases_Bool (bit_at got (mark_bit config visit.address) == 1))

  -- the load of a reference
  at_load_field : (visit : Visit) (field : ℕ) → Shared config world → CanUpdate config world seat cset (LoadField visit field) → UpdateStep config world seat cset (LoadField visit field)
  at_load_field visit field shared can_update =
      let got : ℕ = world.memory (Heap (visit.address + 3 + field)) in
      let base = loads_at (LoadField visit field) (Heap (visit.address + 3 + field)) refl shared in
      ⊎_elim
      (λ (current : IsCurrent world.block got).
      goes_past (LoadField visit field) world visit field base can_update can_update.facts refl current
      (cond-false (names_set config cset got) _ _ (subst (λ some_set. names_set config some_set got ≡ false) (sym can_update.set_is) (current_names_none config world shared can_update.phase got current))))
      (λ (finds : (new_address : ℕ) × HasFound world visit field got new_address).
      let old = old_names_set config world shared can_update.phase got finds.1.refs finds.1.nums finds.0 finds.1.name finds.1.old in
      stays_there (LoadField visit field) (LoadHeader visit field got) world base can_update (cond-true (names_set config cset got) _ _ (subst (λ some_set. names_set config some_set got ≡ true) (sym can_update.set_is) old)) refl
      (can_update.facts, finds))
      (field_word config world shared can_update.phase visit field can_update.facts)

  -- the load of the header of an old copy, which leads to the current one
  at_load_header : (visit : Visit) (field found : ℕ) → Shared config world → CanUpdate config world seat cset (LoadHeader visit field found) → UpdateStep config world seat cset (LoadHeader visit field found)
  at_load_header visit field found shared can_update =
      let got : ℕ = world.memory (Heap found) in
      let new_address = can_update.facts.1.0 in
      let finds = can_update.facts.1.1 in
      let header_found : got ≡ header_word new_address = (shared.evacuated.moved.moveds found finds.refs finds.nums new_address finds.name finds.old).header in
      stays_there (LoadHeader visit field found) (ExchangeField visit field found (forwardee_in got)) world (loads_at (LoadHeader visit field found) (Heap found) refl shared) can_update
      (cond-true (is_forwarded got) _ _ (leads_is_forwarded got new_address header_found)) refl
      (can_update.facts.0, subst (HasFound world visit field found) (sym (ap forwardee_in header_found ∙ header_leads new_address)) finds)

  -- the reference is exchanged for one to the current copy, if it is still the one that was found; else it is current
  at_exchange_field : (visit : Visit) (field found copy : ℕ) → Shared config world → CanUpdate config world seat cset (ExchangeField visit field found copy) → UpdateStep config world seat cset (ExchangeField visit field found copy)
  at_exchange_field visit field found copy shared can_update =
      let got : ℕ = world.memory (Heap (visit.address + 3 + field)) in
      let spot : UpdateSpot = ExchangeField visit field found copy in
      let has_field = can_update.facts.0 in
      let finds = can_update.facts.1 in
      let holder = finds.holder in
      ⊎_elim
      (λ (won : (got == found) ≡ true).
      let all_refs = shape_refs config world shared can_update.phase visit.address visit.shape holder.1 holder.2 holder.0 holder.3 (inl (has_field.alive, has_field.shape_is)) in
      let field_below : field < holder.1 = (let field_less = has_field.below in omega (arith, all_refs, field_less)) in
      let next_world : World = renewed_world config world shared can_update.phase visit.address holder.1 holder.2 field found finds.refs finds.nums copy holder.0 finds.name holder.3 field_below (eqb-true _ _ won) finds.old in
      let rely : (other_field : ℕ) → Rely config other_field world next_world = rely_renewed config world shared can_update.phase visit.address holder.1 holder.2 field found finds.refs finds.nums copy holder.0 finds.name holder.3 field_below (eqb-true _ _ won) finds.old in
      let world_kept = keeps_of config seat world next_world (rely seat) in
      goes_past spot next_world visit field (record {
        memory = ap (λ stored_word. write world.memory (Heap (visit.address + 3 + field)) stored_word) (sym (cond-true (got == found) copy got won));
        graph = refl;
        shared = shared_renewed config world shared can_update.phase visit.address holder.1 holder.2 field found finds.refs finds.nums copy holder.0 finds.name holder.3 field_below (eqb-true _ _ won) finds.old;
        rely = rely;
      }) (can_update_stays config world next_world seat cset spot shared world_kept (rely seat) can_update) (field_stays config world next_world seat shared can_update.phase world_kept (rely seat).fields visit field has_field) refl
      (subst (IsCurrent world.block) (sym (updated_there (λ any_address. world.memory (Heap any_address)) (visit.address + 3 + field) copy))
      (IsCurrent.names finds.refs finds.nums finds.name (shared.evacuated.moved.moveds found finds.refs finds.nums copy finds.name finds.old).copy))
      refl)
      (λ (lost : (got == found) ≡ false).
      goes_past spot world visit field
      (loads_at spot (Heap (visit.address + 3 + field)) (ap (λ stored_word. write world.memory (Heap (visit.address + 3 + field)) stored_word) (cond-false (got == found) copy got lost)) shared) can_update has_field refl
      (⊎_elim
      (λ (same_found : got ≡ found). absurd (eqb-false _ _ lost same_found))
      (λ (current : IsCurrent world.block got). current)
      finds.still)
      refl)
      (cases_Bool (got == found))

  -- each step
  pub each_updates : (spot : UpdateSpot) → is_ended spot ≡ false → Shared config world → CanUpdate config world seat cset spot → UpdateStep config world seat cset spot
  each_updates LoadClaim spot_going shared can_update = at_load_claim shared can_update
  each_updates (ClaimUnit unit) spot_going shared can_update = at_claim_unit unit shared can_update
  each_updates (LoadLimit region) spot_going shared can_update = at_load_limit region shared can_update
  each_updates (LoadTams region limit) spot_going shared can_update = at_load_tams region limit shared can_update
  each_updates (LoadFirst walk address) spot_going shared can_update = at_load_first walk address shared can_update
  each_updates (LoadShape walk address) spot_going shared can_update = at_load_shape walk address shared can_update
  each_updates (LoadBlack visit) spot_going shared can_update = at_load_black visit shared can_update
  each_updates (LoadField visit field) spot_going shared can_update = at_load_field visit field shared can_update
  each_updates (LoadHeader visit field found) spot_going shared can_update = at_load_header visit field found shared can_update
  each_updates (ExchangeField visit field found copy) spot_going shared can_update = at_exchange_field visit field found copy shared can_update
  each_updates (Ended unit) spot_going shared can_update = absurd (cc (spot_going))
