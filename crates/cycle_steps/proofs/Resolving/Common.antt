-- What steps of a machine that resolves an address have in common.
use Rattle.std.proofs.Common.{◌≡◌, ℕ, true, false, Option, Some, refl, sym, ap, ◌∙◌, subst, arith}
use Rattle.std.proofs.lemmas.Bool.{cond-true}
use Rattle.std.proofs.lemmas.Option.{same_Some, none-some}
use Rattle.heap_words.specs.declared.config.Config.{Config}
use Rattle.heap_words.specs.Encoding.{plain_header, header_word, is_forwarded, forwardee_in}
use Rattle.heap_words.specs.Words.{Cset, Evac, Heap, is_word}
use Rattle.heap_words.specs.Touch.{touch, touched}
use Rattle.heap_words.specs.Counter.{IsQuiet}
use Rattle.evac_room.specs.declared.spot.RoomSpot.{RoomSpot}
use Rattle.evac_room.specs.declared.spot.RoomSpot.TheVariants.{Look}
use Rattle.evac_room.specs.Spot.{is_ended, is_counted}
use Rattle.evac_room.specs.Rows as rooms
use Rattle.evac_room.proofs.OneStep.{Mine}
use Rattle.heap_world.specs.World.{World, Block, thing, spent, Body, body_at, IsCollected, TargetIn, Shared}
use Rattle.heap_world.specs.Part.{PartStep}
use Rattle.heap_world.proofs.Keeping.{rely_same, keeps_of}
use Rattle.load_barrier.specs.declared.spot.ResolveSpot.{ResolveSpot}
use Rattle.load_barrier.specs.declared.spot.ResolveSpot.TheVariants.{Entering, Resolved}
use Rattle.load_barrier.specs.Rows.{touch_at, next_at, after_header}
use Rattle.load_barrier.specs.Fit.{is_ready}
use Rattle.load_barrier.specs.Alone.{is_copier}
use Rattle.heap_words.specs.Phases.{evacuation_phase}
use Rattle.load_barrier.proofs.Knows.{header_forwarded, header_names}
use Rattle.cycle_steps.specs.Resolving.Facts.{CanResolve, IsAnswer, HasMovedTo, ResolveFacts, IsResolvingRoom}
use Rattle.cycle_steps.proofs.Resolving.Bodies.{piece_begins}
use Rattle.cycle_steps.proofs.Resolving.Counts.{counted_world, copying_now, counts_step}

-- An old copy's answer is its current copy.
pub moved_answer : (config : Config) (world : World) (address moved_to : ℕ) (body : Body) → Shared config world → HasMovedTo world address body moved_to → IsAnswer config world address moved_to
moved_answer config world address moved_to body shared has_moved =
    let leads = shared.evacuated.moved.moveds address body.refs body.nums moved_to body.name has_moved in
    record {
      named = λ named_body piece_there.
          let same_body : body ≡ named_body = same_Some body named_body (sym (ap body_at has_moved) ∙ piece_there) in
          subst (λ target_body. TargetIn config world moved_to target_body.refs target_body.nums target_body.name) same_body (record { piece = leads.copy; safe = λ inside. absurd (leads.outside inside) });
      passed = λ is_outside refs nums name piece_there. (let same_piece = sym has_moved ∙ piece_there in cc);
      stopped = λ inside. absurd (leads.outside inside);
    }

-- So it is with an old copy of what was promised.
pub spent_answer : (config : Config) (world : World) (address words moved_to : ℕ) → Shared config world → world.block address ≡ Some (spent words moved_to) → IsAnswer config world address moved_to
spent_answer config world address words moved_to shared has_spent =
    let leads = shared.evacuated.moved.spents address words moved_to has_spent in
    record {
      named = λ named_body piece_there. absurd (none-some named_body (sym (ap body_at has_spent) ∙ piece_there));
      passed = λ is_outside refs nums name piece_there. (let same_piece = sym has_spent ∙ piece_there in cc);
      stopped = λ inside. absurd (leads.outside inside);
    }

-- Once nobody copies any more, an object that has not moved is its own current copy.
pub still_answer : (config : Config) (world : World) (address : ℕ) (body : Body) → IsCollected config (world.memory Cset) address → IsQuiet (world.memory Evac) → world.block address ≡ Some (thing body.name body.refs body.nums) → IsAnswer config world address address
still_answer config world address body address_collected quiet has_object = record {
  named = λ named_body piece_there.
      let same_body : body ≡ named_body = same_Some body named_body (sym (ap body_at has_object) ∙ piece_there) in
      subst (λ target_body. TargetIn config world address target_body.refs target_body.nums target_body.name) same_body (record { piece = has_object; safe = λ in_cset. quiet });
  passed = λ is_outside. absurd (is_outside address_collected);
  stopped = λ in_cset. quiet.out_of_room;
}

-- a machine resolves an address, for the unit of work that it has claimed, or for none
pub record CanResolveFor (config : Config) (world : World) (seat address : ℕ) (unit : Option ℕ) (spot : ResolveSpot) : Type 0 where
  pub resolves : CanResolve config world seat address spot
  pub working : world.ghost.working seat ≡ unit

-- what a step of a machine that resolves an address owes
abbrev pub ResolveStep : Config → World → (seat address : ℕ) → Option ℕ → ResolveSpot → Type 0
ResolveStep config world seat address unit spot = PartStep config world seat (touch_at config seat address spot) (λ next_world. CanResolveFor config next_world seat address unit (next_at config address evacuation_phase spot (world.memory (touch_at config seat address spot).word)))

module _ (config : Config) (world : World) (seat address : ℕ) (unit : Option ℕ) (shared : Shared config world) where
  -- a step that leads to another spot
  abbrev pub StepTo : ResolveSpot → ResolveSpot → Type 0
  StepTo spot next_spot = PartStep config world seat (touch_at config seat address spot) (λ world. CanResolveFor config world seat address unit next_spot)

  pub leads_to : (spot next_spot : ResolveSpot) → next_at config address evacuation_phase spot (world.memory (touch_at config seat address spot).word) ≡ next_spot → StepTo spot next_spot → ResolveStep config world seat address unit spot
  leads_to spot next_spot leads step = subst (λ reached_spot. StepTo spot reached_spot) (sym leads) step

  -- what it counts on elsewhere in the same world
  pub can_at : (spot next_spot : ResolveSpot) → CanResolveFor config world seat address unit spot → is_copier next_spot ≡ is_copier spot → ((room_address : ℕ) (piece : Block) → IsResolvingRoom seat spot room_address piece → IsResolvingRoom seat next_spot room_address piece) → is_ready config seat address next_spot ≡ true → ResolveFacts config world seat address next_spot
      → CanResolveFor config world seat address unit next_spot
  can_at spot next_spot can_resolve copies rooms_stay spot_ready facts = record {
    resolves = record {
      seated = can_resolve.resolves.seated;
      phase = can_resolve.resolves.phase;
      inside = can_resolve.resolves.inside;
      there = can_resolve.resolves.there;
      copying = can_resolve.resolves.copying ∙ sym copies;
      records_none = can_resolve.resolves.records_none;
      scans_none = can_resolve.resolves.scans_none;
      rooms = λ room_address piece has_piece owned. rooms_stay room_address piece (can_resolve.resolves.rooms room_address piece has_piece owned);
      ready = spot_ready;
      facts = facts;
    };
    working = can_resolve.working;
  }

  -- a step that leaves the memory as it is
  pub looked : (spot next_spot : ResolveSpot) → world.memory ≡ touched world.memory (touch_at config seat address spot) → CanResolveFor config world seat address unit next_spot → StepTo spot next_spot
  looked spot next_spot same_memory can_resolve = record {
    world = world;
    memory = same_memory;
    graph = refl;
    shared = shared;
    own = can_resolve;
    keeps = keeps_of config seat world world (rely_same config seat world);
    others = λ seat differs. rely_same config seat world;
  }

  -- the header of an object that has not moved
  pub header_plain : (body : Body) → world.block address ≡ Some (thing body.name body.refs body.nums) → world.memory (Heap address) ≡ plain_header
  header_plain body has_object = (shared.contents.objects.each address body.refs body.nums body.name has_object).2.header

  -- the header of an old copy
  pub header_leads : (body : Body) (moved_to : ℕ) → HasMovedTo world address body moved_to → world.memory (Heap address) ≡ header_word moved_to
  header_leads body moved_to has_moved = (shared.evacuated.moved.moveds address body.refs body.nums moved_to body.name has_moved).header

  -- an old copy's current one lies in the heap
  pub answer_word : (body : Body) (moved_to : ℕ) → HasMovedTo world address body moved_to → is_word config (Heap moved_to) ≡ true
  answer_word body moved_to has_moved = piece_begins config world shared moved_to (thing body.name body.refs body.nums) (shared.evacuated.moved.moveds address body.refs body.nums moved_to body.name has_moved).copy (omega arith)

  -- what the header that leads to a copy is answered by
  pub leads_header : (moved_to : ℕ) → after_header address evacuation_phase (header_word moved_to) ≡ Resolved moved_to
  leads_header moved_to = cond-true (is_forwarded (header_word moved_to)) (Resolved (forwardee_in (header_word moved_to))) (Entering Look) (header_forwarded moved_to) ∙ ap (λ answer. Resolved answer) (header_names moved_to)

  -- what it counts on after a step of the counter
  module _ (this_spot : ResolveSpot) (spot : RoomSpot) (can_resolve : CanResolveFor config world seat address unit this_spot) (spot_going : is_ended spot ≡ false) (same_count : is_copier this_spot ≡ is_counted spot) (own_facts : Mine (world.memory Evac) spot)
      (touches : touch_at config seat address this_spot ≡ touch Evac (rooms.form_at spot)) where
    abbrev pub counted_then : World
    counted_then = counted_world config world seat spot shared can_resolve.resolves.phase can_resolve.resolves.seated spot_going (can_resolve.resolves.copying ∙ same_count) own_facts

    pub counter_moves : (next_spot : ResolveSpot) → is_copier next_spot ≡ is_counted (rooms.next_at spot (world.memory Evac)) → ((room_address : ℕ) (piece : Block) → IsResolvingRoom seat this_spot room_address piece → IsResolvingRoom seat next_spot room_address piece) → is_ready config seat address next_spot ≡ true
        → ResolveFacts config counted_then seat address next_spot → StepTo this_spot next_spot
    counter_moves next_spot copies rooms_stay next_ready facts =
        subst (λ own_touch. PartStep config world seat own_touch (λ world. CanResolveFor config world seat address unit next_spot)) (sym touches)
        (counts_step config world seat spot shared can_resolve.resolves.phase can_resolve.resolves.seated spot_going (can_resolve.resolves.copying ∙ same_count) own_facts (λ world. CanResolveFor config world seat address unit next_spot) (record {
          resolves = record {
            seated = can_resolve.resolves.seated;
            phase = can_resolve.resolves.phase;
            inside = can_resolve.resolves.inside;
            there = can_resolve.resolves.there;
            copying = copying_now config world seat spot shared can_resolve.resolves.phase can_resolve.resolves.seated spot_going (can_resolve.resolves.copying ∙ same_count) own_facts ∙ sym copies;
            records_none = can_resolve.resolves.records_none;
            scans_none = can_resolve.resolves.scans_none;
            rooms = λ room_address piece has_piece owned. rooms_stay room_address piece (can_resolve.resolves.rooms room_address piece has_piece owned);
            ready = next_ready;
            facts = facts;
          };
          working = can_resolve.working;
        }))
