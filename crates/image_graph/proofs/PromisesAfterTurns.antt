-- What the turns of waiting threads make of promises and of pieces.
use Rattle.std.proofs.Common.{◌≡◌, ◌≢◌, ℕ, ◌+◌, ◌<◌, ◌⊎◌, ◌==◌, inl, inr, zero, suc, Option, Some, None, ⊎_elim, refl, sym, ap, ◌∙◌, arith}
use Rattle.std.proofs.lemmas.Bool.{cond-true, cond-false, cases_eq, eq-eqb, ne_eqb}
use Rattle.std.proofs.lemmas.Option.{none-some}
use Rattle.heap_words.specs.declared.config.Config.{Config}
use Rattle.heap_words.specs.Words.{Word, Top, Wait}
use Rattle.heap_words.specs.Encoding.{refs_in, nums_in, request_count_in, request_shape_in}
use Rattle.regions.specs.Place.{base_of}
use Rattle.heap_world.specs.World.{Block, name_at, Plot}
use Rattle.heap_world.proofs.Pieces.{piece_cases}
use Rattle.image_graph.specs.Full.{served, room_for}
use Rattle.image_graph.specs.Promised.{Promises}
use Rattle.image_graph.specs.Serving.{asked_shape, asked_name, asked_piece, made_block, made_promise, turn_room, served_block, served_promises}
use Rattle.image_graph.proofs.TurnWords.{before_turn}

-- a thread is promised the same
pub record SamePromise (promises other_promises : Promises) (thread : ℕ) : Type 0 where
  pub ref : other_promises.ref thread ≡ promises.ref thread
  pub refs : other_promises.refs thread ≡ promises.refs thread
  pub nums : other_promises.nums thread ≡ promises.nums thread

-- a mutator that waits is promised what it asked for
pub record IsPromisedAsAsked (memory : Word → ℕ) (promises : Promises) (mutator : ℕ) : Type 0 where
  pub waits : memory (Wait mutator) ≢ 0
  pub ref : promises.ref (mutator + 1) ≡ Some (asked_name memory mutator)
  pub refs : promises.refs (mutator + 1) ≡ refs_in (asked_shape memory mutator)
  pub nums : promises.nums (mutator + 1) ≡ nums_in (asked_shape memory mutator)

-- a thread that finds a region waits
room_waits : (config : Config) (memory : Word → ℕ) (mutator region : ℕ) → turn_room config memory mutator ≡ Some region → memory (Wait mutator) ≢ 0
room_waits config memory mutator region room_found no_wait = none-some region (sym (cond-true (memory (Wait mutator) == 0) None (room_for config memory mutator) (eq-eqb (memory (Wait mutator)) 0 no_wait)) ∙ room_found)

module _ (config : Config) (memory : Word → ℕ) (promises : Promises) where
  -- what holds of a thread's promise after some turns
  abbrev pub IsSameOrAsked : Promises → ℕ → Type 0
  IsSameOrAsked new_promises mutator = SamePromise promises new_promises (mutator + 1) ⊎ IsPromisedAsAsked memory new_promises mutator

  -- one turn keeps that
  turn_keeps : (asked_mutator mutator : ℕ) (memory_then : Word → ℕ) (promises_then : Promises) (found : Option ℕ) → memory_then (Wait mutator) ≡ memory (Wait mutator) → turn_room config memory_then mutator ≡ found → IsSameOrAsked promises_then asked_mutator → IsSameOrAsked (made_promise memory_then promises_then mutator found) asked_mutator
  turn_keeps asked_mutator mutator memory_then promises_then None same_wait room_found same_before = same_before
  turn_keeps asked_mutator mutator memory_then promises_then (Some region) same_wait room_found same_before = ⊎_elim
      (λ (own_mutator : mutator ≡ asked_mutator).
      let test = eq-eqb (mutator + 1) (asked_mutator + 1) (ap (λ value. value + 1) own_mutator) in
      let word : memory_then (Wait mutator) ≡ memory (Wait asked_mutator) = same_wait ∙ ap (λ mutator. memory (Wait mutator)) own_mutator in
      let same_asked_name : asked_name memory_then mutator ≡ asked_name memory asked_mutator =
      ap (λ (value : ℕ). record { thread = mutator + 1; count = request_count_in value }) word ∙ ap (λ (value : ℕ). record { thread = value + 1; count = request_count_in (memory (Wait asked_mutator)) }) own_mutator in
      inr (record {
        waits = λ no_wait. room_waits config memory_then mutator region room_found (word ∙ no_wait);
        ref = cond-true (mutator + 1 == asked_mutator + 1) (Some (asked_name memory_then mutator)) (promises_then.ref (asked_mutator + 1)) test ∙ ap Some same_asked_name;
        refs = cond-true (mutator + 1 == asked_mutator + 1) (refs_in (asked_shape memory_then mutator)) (promises_then.refs (asked_mutator + 1)) test ∙ ap (λ value. refs_in (request_shape_in value)) word;
        nums = cond-true (mutator + 1 == asked_mutator + 1) (nums_in (asked_shape memory_then mutator)) (promises_then.nums (asked_mutator + 1)) test ∙ ap (λ value. nums_in (request_shape_in value)) word;
      }))
      (λ (different_mutator : mutator ≢ asked_mutator).
      let test = ne_eqb (mutator + 1) (asked_mutator + 1) (λ same_mutator. different_mutator (omega (arith, same_mutator))) in
      let ref = cond-false (mutator + 1 == asked_mutator + 1) (Some (asked_name memory_then mutator)) (promises_then.ref (asked_mutator + 1)) test in
      let refs = cond-false (mutator + 1 == asked_mutator + 1) (refs_in (asked_shape memory_then mutator)) (promises_then.refs (asked_mutator + 1)) test in
      let nums = cond-false (mutator + 1 == asked_mutator + 1) (nums_in (asked_shape memory_then mutator)) (promises_then.nums (asked_mutator + 1)) test in
      ⊎_elim
      (λ (old : SamePromise promises promises_then (asked_mutator + 1)). inl (record { ref = ref ∙ old.ref; refs = refs ∙ old.refs; nums = nums ∙ old.nums }))
      (λ (new : IsPromisedAsAsked memory promises_then asked_mutator). inr (record { waits = new.waits; ref = ref ∙ new.ref; refs = refs ∙ new.refs; nums = nums ∙ new.nums }))
      same_before)
      (cases_eq mutator asked_mutator)

  -- so a thread is promised what it was, or what it asked for
  pub promise_after : (thread turns : ℕ) → IsSameOrAsked (served_promises config memory promises turns) thread
  unfolding served_promises
  promise_after thread zero = inl (record { ref = refl; refs = refl; nums = refl })
  promise_after thread (suc mutator) =
      turn_keeps thread mutator (served config memory mutator) (served_promises config memory promises mutator) (turn_room config (served config memory mutator) mutator) (before_turn config memory mutator mutator (omega arith)).0 refl (promise_after thread mutator)

module _ (config : Config) (memory : Word → ℕ) (block : Plot) where
  -- a piece that stood there, or one that was made for a mutator that waits
  abbrev pub IsOldOrMade : ℕ → ℕ → Block → Type 0
  IsOldOrMade turns address piece = (block address ≡ Some piece) ⊎ ((mutator : ℕ) × (mutator < turns) × (memory (Wait mutator) ≢ 0) × (name_at (Some piece) ≡ Some (asked_name memory mutator)))

  later : (turns address : ℕ) (piece : Block) → IsOldOrMade turns address piece → IsOldOrMade (suc turns) address piece
  later turns address piece old_or_made = ⊎_elim
      (λ (old : block address ≡ Some piece). inl old)
      (λ (made_earlier : (mutator : ℕ) × (mutator < turns) × (memory (Wait mutator) ≢ 0) × (name_at (Some piece) ≡ Some (asked_name memory mutator))). inr (made_earlier.0, omega (arith, made_earlier.1), made_earlier.2, made_earlier.3))
      old_or_made

  turn_piece : (mutator : ℕ) (memory_then : Word → ℕ) (plot : Plot) (found : Option ℕ) → memory_then (Wait mutator) ≡ memory (Wait mutator) → turn_room config memory_then mutator ≡ found → ((address : ℕ) (piece : Block) → plot address ≡ Some piece → IsOldOrMade mutator address piece)
      → (address : ℕ) (piece : Block) → made_block config memory_then plot mutator found address ≡ Some piece → IsOldOrMade (suc mutator) address piece
  turn_piece mutator memory_then plot None same_wait room_found known_before address piece piece_there = later mutator address piece (known_before address piece piece_there)
  turn_piece mutator memory_then plot (Some region) same_wait room_found known_before address piece piece_there = ⊎_elim
      (λ (new : (address ≡ base_of config region + memory_then (Top region)) × (asked_piece memory_then mutator ≡ piece)).
      inr (
        mutator,
        omega arith,
        (λ no_wait. room_waits config memory_then mutator region room_found (same_wait ∙ no_wait)),
        ap (λ some_piece. name_at (Some some_piece)) (sym new.1) ∙ ap (λ (some_piece : ℕ). Some (record { thread = mutator + 1; count = request_count_in some_piece })) same_wait,
      ))
      (λ (old : (address ≢ base_of config region + memory_then (Top region)) × (plot address ≡ Some piece)). later mutator address piece (known_before address piece old.1))
      (piece_cases plot (base_of config region + memory_then (Top region)) (asked_piece memory_then mutator) address piece piece_there)

  pub piece_after : (address asked_address : ℕ) (piece : Block) → served_block config memory block address asked_address ≡ Some piece → IsOldOrMade address asked_address piece
  unfolding served_block
  piece_after zero asked_place piece piece_there = inl piece_there
  piece_after (suc address) asked_place piece piece_there =
      turn_piece address (served config memory address) (served_block config memory block address) (turn_room config (served config memory address) address) (before_turn config memory address address (omega arith)).0 refl (piece_after address) asked_place piece piece_there
