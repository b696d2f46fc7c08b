-- The steps of a machine that resolves an address, up to the taking of room for a copy.
use Rattle.std.proofs.Common.{◌≡◌, ℕ, ◌+◌, ◌^◌, ◌<◌, Bool, true, false, Option, Some, ⊎_elim, refl, sym, ap, ◌∙◌, arith}
use Rattle.std.specs.Prelude.{◌==◌, nat_lt, if◌then◌else◌}
use Rattle.std.proofs.lemmas.Bool.{cond-true, cond-false, and_from, and_parts, lt-ltb, ltb-true}
use Rattle.std.proofs.lemmas.Bool.Decides.{nat_tests}
use Rattle.heap_words.specs.declared.config.Config.{Config}
use Rattle.heap_words.specs.Encoding.{header_word}
use Rattle.heap_words.specs.Words.{Evac, Heap, is_word}
use Rattle.alloc_buffers.specs.declared.spot.TakeSpot.TheVariants as take
use Rattle.heap_words.specs.Counter.{count_of, is_out_of_room}
use Rattle.evac_room.specs.declared.spot.RoomSpot.TheVariants.{Look, Raise, Inside, Stopped}
use Rattle.evac_room.specs.Spot.{is_counted}
use Rattle.heap_world.specs.World.{World, Body, body_at, body_words, HasCopy, Shared}
use Rattle.heap_world.proofs.Keeping.{load_keeps}
use Rattle.heap_world.proofs.Pointing.{copy_cases}
use Rattle.load_barrier.specs.declared.spot.ResolveSpot.TheVariants.{LoadHeader, Entering, LoadShape, Taking, LoadAgain, Resolved}
use Rattle.load_barrier.specs.Rows.{after_header, after_enter}
use Rattle.heap_words.specs.Phases.{evacuation_phase}
use Rattle.cycle_steps.specs.Resolving.Facts.{IsAnswer}
use Rattle.cycle_steps.proofs.Resolving.Bodies.{body_long, body_small, body_lies, piece_word_is, piece_begins, copy_piece, markable_piece}
use Rattle.cycle_steps.proofs.Resolving.Common as steps
use Rattle.cycle_steps.proofs.Resolving.Common.{CanResolveFor, ResolveStep, moved_answer, spent_answer}

module _ (config : Config) (world : World) (seat address : ℕ) (unit : Option ℕ) (shared : Shared config world) where
  -- the first load of the header
  pub at_load_header : CanResolveFor config world seat address unit LoadHeader → ResolveStep config world seat address unit LoadHeader
  at_load_header can_resolve = by_copy can_resolve.resolves.there
    where
      answered : (copy : ℕ) → world.memory (Heap address) ≡ header_word copy → is_word config (Heap copy) ≡ true → IsAnswer config world address copy → ResolveStep config world seat address unit LoadHeader
      answered copy header_is copy_inside answer =
          steps.leads_to config world seat address unit shared LoadHeader (Resolved copy) (ap (after_header address evacuation_phase) header_is ∙ steps.leads_header config world seat address unit shared copy)
          (steps.looked config world seat address unit shared LoadHeader (Resolved copy) (load_keeps world.memory (Heap address)) (steps.can_at config world seat address unit shared LoadHeader (Resolved copy) can_resolve refl (λ room_address piece room. room) copy_inside answer))

      by_copy : HasCopy world.block address → ResolveStep config world seat address unit LoadHeader
      by_copy (HasCopy.copy body has_piece) = ⊎_elim
          (λ current.
          steps.leads_to config world seat address unit shared LoadHeader (Entering Look) (ap (after_header address evacuation_phase) (steps.header_plain config world seat address unit shared body current))
          (steps.looked config world seat address unit shared LoadHeader (Entering Look) (load_keeps world.memory (Heap address)) (steps.can_at config world seat address unit shared LoadHeader (Entering Look) can_resolve refl (λ room_address room_piece room. room) refl (body, has_piece, tt))))
          (λ old. answered old.0 (steps.header_leads config world seat address unit shared body old.0 old.1) (steps.answer_word config world seat address unit shared body old.0 old.1) (moved_answer config world address old.0 body shared old.1))
          (copy_cases (world.block address) body has_piece)
      by_copy (HasCopy.spent_copy words copy has_piece) =
          let leads = shared.evacuated.moved.spents address words copy has_piece in
          let piece = markable_piece config world shared copy leads.copy in
          answered copy leads.header (piece_begins config world shared copy piece.0 piece.1 (let piece_long = piece.2 in omega (arith, piece_long))) (spent_answer config world address words copy shared has_piece)

  -- the load of the counter on the way in
  pub at_look : CanResolveFor config world seat address unit (Entering Look) → ResolveStep config world seat address unit (Entering Look)
  at_look can_resolve = by_bit (is_out_of_room (world.memory Evac)) (count_of (world.memory Evac) == 0) refl refl
    where
      body : (found_body : Body) × (body_at (world.block address) ≡ Some found_body)
      body = (can_resolve.resolves.facts.0, can_resolve.resolves.facts.1)

      by_bit : (full holds : Bool) → is_out_of_room (world.memory Evac) ≡ full → (count_of (world.memory Evac) == 0) ≡ holds → steps.StepTo config world seat address unit shared (Entering Look) (after_enter (if full then (if holds then Stopped else Look) else Raise (world.memory Evac)))
      by_bit true true out_of_room none_counted =
          steps.looked config world seat address unit shared (Entering Look) LoadAgain (load_keeps world.memory Evac) (steps.can_at config world seat address unit shared (Entering Look) LoadAgain can_resolve refl (λ room_address piece room. room) refl (body.0, body.1, record { out_of_room = out_of_room; nobody = grind (arith, nat_tests) }))
      by_bit true false out_of_room none_counted =
          steps.looked config world seat address unit shared (Entering Look) (Entering Look) (load_keeps world.memory Evac) (steps.can_at config world seat address unit shared (Entering Look) (Entering Look) can_resolve refl (λ room_address piece room. room) refl (body.0, body.1, tt))
      by_bit false holds out_of_room none_counted =
          steps.looked config world seat address unit shared (Entering Look) (Entering (Raise (world.memory Evac))) (load_keeps world.memory Evac)
          (steps.can_at config world seat address unit shared (Entering Look) (Entering (Raise (world.memory Evac))) can_resolve refl (λ room_address piece room. room) (let clear : nat_lt (world.memory Evac) (2 ^ 63) ≡ true = grind (arith, nat_tests) in and_from true _ refl (and_from _ true clear refl)) (body.0, body.1, tt))

  -- the exchange of the counter on the way in
  pub at_raise : (found : ℕ) → CanResolveFor config world seat address unit (Entering (Raise found)) → ResolveStep config world seat address unit (Entering (Raise found))
  at_raise found can_resolve = by_found (world.memory Evac == found) refl
    where
      clear : found < 2 ^ 63
      clear = ltb-true _ _ (and_parts (nat_lt found (2 ^ 63)) true can_resolve.resolves.ready).0

      by_found : (holds : Bool) → (world.memory Evac == found) ≡ holds → steps.StepTo config world seat address unit shared (Entering (Raise found)) (after_enter (if holds then Inside else Look))
      by_found true evac_test = steps.counter_moves config world seat address unit shared (Entering (Raise found)) (Raise found) can_resolve refl refl clear refl LoadShape
          (sym (ap is_counted (cond-true (world.memory Evac == found) Inside Look evac_test))) (λ room_address room_piece room. room) (shape_word_ready) (can_resolve.resolves.facts.0, can_resolve.resolves.facts.1, tt)
        where
          shape_word_ready : is_word config (Heap (address + 1)) ≡ true
          shape_word_ready = let piece = copy_piece config world shared address can_resolve.resolves.there in piece_word_is config world shared address 1 piece.0 piece.1 (let piece_long = piece.2 in omega (arith, piece_long))
      by_found false evac_test = steps.counter_moves config world seat address unit shared (Entering (Raise found)) (Raise found) can_resolve refl refl clear refl (Entering Look)
          (sym (ap is_counted (cond-false (world.memory Evac == found) Inside Look evac_test))) (λ room_address room_piece room. room) refl (can_resolve.resolves.facts.0, can_resolve.resolves.facts.1, tt)

  -- the load of the shape
  pub at_load_shape : CanResolveFor config world seat address unit LoadShape → ResolveStep config world seat address unit LoadShape
  at_load_shape can_resolve =
      let facts = can_resolve.resolves.facts.0 in
      let has_body = can_resolve.resolves.facts.1 in
      let long_body = body_long config world shared address facts has_body in
      let body_fits = body_small config world shared address facts has_body in
      let seated = can_resolve.resolves.seated in
      steps.leads_to config world seat address unit shared LoadShape (Taking (body_words facts) take.LoadBuffer) (ap (λ words. Taking words take.LoadBuffer) long_body)
      (steps.looked config world seat address unit shared LoadShape (Taking (body_words facts) take.LoadBuffer) (load_keeps world.memory (Heap (address + 1))) (steps.can_at config world seat address unit shared LoadShape (Taking (body_words facts) take.LoadBuffer) can_resolve refl (λ room_address piece room. room)
      (and_from _ _ (body_lies config world shared address facts has_body) (and_from _ _ (and_from _ _ (lt-ltb _ _ seated) refl) refl)) (
        facts,
        has_body,
        (
          refl,
          record {
            seated = seated;
            least = omega arith;
            most = body_fits;
            ready = and_from _ _ (and_from _ _ (lt-ltb _ _ seated) refl) refl;
            facts = tt;
            rooms = λ room_address piece has_piece own_room. can_resolve.resolves.rooms room_address piece has_piece own_room;
            records_none = can_resolve.resolves.records_none;
            scans_none = can_resolve.resolves.scans_none;
          },
        ),
      )))
