-- Resolving an address as a part: any machine that has a seat can have it inside.
use Rattle.std.proofs.Common.{◌≡◌, ◌≢◌, ◌⊎◌, ℕ, ◌+◌, ◌<◌, ◌≤◌, Some, inl, inr, refl, sym, ap, ◌∙◌, arith}
use Rattle.heap_words.specs.declared.config.Config.{Config}
use Rattle.heap_words.specs.Ranges.{seat_count}
use Rattle.heap_words.specs.Words.{Top, Heap, IsWord}
use Rattle.heap_words.specs.Touch.{loads}
use Rattle.alloc_buffers.proofs.Accesses.{writes_spare}
use Rattle.heap_world.specs.World.{World, hand, spare, Body, body_at, body_words, Shared}
use Rattle.heap_world.proofs.Apart.{far, one_piece}
use Rattle.heap_world.proofs.Copies.{counted_one}
use Rattle.heap_world.proofs.Pointing.{body_piece}
use Rattle.load_barrier.specs.declared.copying.CopySpot.{CopySpot}
use Rattle.load_barrier.specs.declared.copying.CopySpot.TheVariants.{LoadWord, StoreWord, StoreHeader, Publish, GiveBack}
use Rattle.load_barrier.specs.declared.spot.ResolveSpot.{ResolveSpot}
use Rattle.load_barrier.specs.declared.spot.ResolveSpot.TheVariants.{LoadHeader, Entering, LoadShape, Taking, Copying, Leaving, Stopping, LoadAgain, Resolved}
use Rattle.load_barrier.specs.Rows.{touch_at}
use Rattle.load_barrier.specs.Fit.{LeavesFit}
use Rattle.load_barrier.proofs.Inside.{resolve_inside}
use Rattle.cycle_steps.specs.Resolving.Facts.{CanResolve}
use Rattle.cycle_steps.specs.Resolving.Laws.{ResolvingSteps}
use Rattle.cycle_steps.proofs.Resolving.Bodies.{copy_piece, piece_begins, room_no_copy}
use Rattle.cycle_steps.proofs.Resolving.Stays.{can_resolve_stays}
use Rattle.cycle_steps.proofs.Resolving.Leaving.{each_resolve}

module _ (config : Config) (world : World) (seat address : ℕ) (shared : Shared config world) where
  -- who leaves is counted
  leaves_fit : (spot : ResolveSpot) → CanResolve config world seat address spot → LeavesFit spot (world.memory (touch_at config seat address spot).word)
  leaves_fit (Leaving answer) resolvable = λ no_count.
      let counts = shared.evacuated.counted.counts in
      let seat_counted = counted_one world.ghost.copying (seat_count config.mutators config.helpers) seat resolvable.seated resolvable.copying in
      omega (arith, no_count, counts, seat_counted)
  leaves_fit LoadHeader resolvable = tt
  leaves_fit (Entering spot) resolvable = tt
  leaves_fit LoadShape resolvable = tt
  leaves_fit (Taking words spot) resolvable = tt
  leaves_fit (Copying copy end spot) resolvable = tt
  leaves_fit (Stopping spot) resolvable = tt
  leaves_fit LoadAgain resolvable = tt
  leaves_fit (Resolved answer) resolvable = tt

  -- the next access is of the table
  inside_at : (spot : ResolveSpot) → CanResolve config world seat address spot → IsWord config (touch_at config seat address spot).word
  inside_at spot resolvable =
      let piece = copy_piece config world shared address resolvable.there in
      resolve_inside config seat address spot resolvable.seated (piece_begins config world shared address piece.0 piece.1 (let piece_long = piece.2 in omega (arith, piece_long))) resolvable.ready

module _ (config : Config) (world : World) (seat resolved_address address offset : ℕ) (body : Body) (shared : Shared config world) (body_there : body_at (world.block address) ≡ Some body) (offset_below : offset < body_words body) where
  -- what it accesses of copies
  abbrev IsSpared : ResolveSpot → Type 0
  IsSpared spot = (touch_at config seat resolved_address spot).word ≡ Heap (address + offset) → ((touch_at config seat resolved_address spot).form ≡ loads) ⊎ ((copy : ℕ) × (end : ℕ) × (spot ≡ Copying copy end Publish) × (address ≡ resolved_address) × (offset ≡ 0))

  -- no word of its room is one of a copy
  room_far : (copy index words : ℕ) → world.block copy ≡ Some (hand seat words) → index < words → copy + index ≢ address + offset
  room_far copy index words room_there index_inside =
      let piece = body_piece (world.block address) body body_there in
      let piece_long = piece.2 in
      far config (λ region. world.memory (Top region)) world.block shared.parsable.plotted copy address index offset (hand seat words) piece.0 room_there piece.1
      (λ same_address. room_no_copy config world shared copy seat words room_there body (ap (λ address. body_at (world.block address)) same_address ∙ body_there)) index_inside (omega (arith, offset_below, piece_long))

  -- no free words of its buffer begin within a copy
  spare_far : (spare_words : ℕ) → world.block (address + offset) ≡ Some (spare seat spare_words) → 1 ≤ spare_words → ⊥
  spare_far spare_words spare_there spare_positive =
      let piece = body_piece (world.block address) body body_there in
      let piece_long = piece.2 in
      far config (λ region. world.memory (Top region)) world.block shared.parsable.plotted (address + offset) address 0 offset (spare seat spare_words) piece.0 spare_there piece.1
      (λ same_address. (let both_bodies = sym (ap (λ address. body_at (world.block address)) same_address ∙ body_there) ∙ ap body_at spare_there in cc)) (omega (arith, spare_positive)) (omega (arith, offset_below, piece_long)) (omega arith)

  -- one word of the heap has one address
  one_address : (address other_address : ℕ) → Heap address ≡ Heap other_address → address ≡ other_address
  one_address address other_address same_word = cc

  copy_spares : (copy end : ℕ) (spot : CopySpot) → CanResolve config world seat resolved_address (Copying copy end spot) → IsSpared (Copying copy end spot)
  copy_spares copy end (LoadWord words index) resolvable word = inl refl
  copy_spares copy end (StoreWord words index found) resolvable word =
      absurd (room_far copy index (body_words resolvable.facts.0) resolvable.facts.2.3.taken.here (let index_less = resolvable.facts.2.2 in let long_enough = resolvable.facts.2.0 in omega (arith, index_less, long_enough)) (one_address _ _ word))
  copy_spares copy end StoreHeader resolvable word =
      absurd (room_far copy 0 (body_words resolvable.facts.0) resolvable.facts.2.taken.here (omega arith) (let same_address = one_address copy (address + offset) word in omega (arith, same_address)))
  copy_spares copy end Publish resolvable word =
      let copy_there = copy_piece config world shared resolved_address resolvable.there in
      let piece = body_piece (world.block address) body body_there in
      let long_enough = piece.2 in
      let same_address = one_address resolved_address (address + offset) word in
      let some_words = copy_there.2 in
      let address_is : address ≡ resolved_address = one_piece config (λ region. world.memory (Top region)) world.block shared.parsable.plotted address resolved_address resolved_address piece.0 copy_there.0 piece.1 copy_there.1 (omega (arith, same_address)) (omega (arith, same_address, offset_below, long_enough)) (omega arith) (omega (arith, some_words)) in
      inr (copy, end, refl, address_is, omega (arith, same_address, address_is))
  copy_spares copy end (GiveBack answer) resolvable word = absurd (cc (word))

  spares_at : (spot : ResolveSpot) → CanResolve config world seat resolved_address spot → IsSpared spot
  spares_at LoadHeader resolvable word = inl refl
  spares_at (Entering spot) resolvable word = absurd (cc (word))
  spares_at LoadShape resolvable word = inl refl
  spares_at (Taking words spot) resolvable word = (let writes_there = writes_spare config world seat words spot resolvable.facts.2.1 (address + offset) word in absurd (spare_far writes_there.0 writes_there.1 writes_there.2))
  spares_at (Copying copy end spot) resolvable word = copy_spares copy end spot resolvable word
  spares_at (Leaving answer) resolvable word = absurd (cc (word))
  spares_at (Stopping spot) resolvable word = absurd (cc (word))
  spares_at LoadAgain resolvable word = inl refl
  spares_at (Resolved answer) resolvable word = inl refl

-- what the steps of resolving owe
pub resolving_steps : ResolvingSteps
resolving_steps = record {
  begins = λ config world seat address seated in_phase inside word_there copying records scans no_rooms. record {
    seated = seated;
    phase = in_phase;
    inside = inside;
    there = word_there;
    copying = copying;
    records_none = records;
    scans_none = scans;
    rooms = λ b piece piece_there own_room. no_rooms b piece piece_there own_room;
    ready = refl;
    facts = tt;
  };
  steps = λ config seat address. record {
    stands = λ world spot shared resolvable. record { stays = λ later_world rely. can_resolve_stays config world later_world seat address shared rely spot resolvable; inside = inside_at config world seat address shared spot resolvable };
    goes = λ world spot going shared resolvable.
        let step = each_resolve config world seat address (world.ghost.working seat) shared spot going (record { resolves = resolvable; working = refl }) in
        record {
          step = record {
            world = step.world;
            memory = step.memory;
            graph = step.graph;
            shared = step.shared;
            own = (step.own.resolves, step.own.working);
            keeps = step.keeps;
            others = step.others;
          };
          fits = (step.own.resolves.ready, leaves_fit config world seat address shared spot resolvable);
        };
  };
  spares = λ config world seat address spot copy_address offset b shared resolvable piece_there offset_below word. spares_at config world seat address copy_address offset b shared piece_there offset_below spot resolvable word;
  answers = λ config world seat address answer resolvable. resolvable.facts;
}
