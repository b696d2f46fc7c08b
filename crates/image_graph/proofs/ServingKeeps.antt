-- Serving and refusing keep the graph, and so does a full collection.
use Rattle.std.proofs.Common.{◌≡◌, ◌≢◌, ℕ, ◌+◌, ◌<◌, ◌≤◌, ◌==◌, inl, cond, nat_le, Bool, zero, suc, Option, Some, None, ⊎_elim, refl, sym, ap, ◌∙◌, subst, arith}
use Rattle.std.proofs.Math.Path.{fun_ext}
use Rattle.std.proofs.lemmas.Bool.{cond-true, cond-false, cases_eq, eq-eqb, ne_eqb, le-leb}
use Rattle.std.proofs.lemmas.Option.{none-some}
use Rattle.heap_words.specs.declared.config.Config.{Config}
use Rattle.heap_words.specs.Words.{Word, Top, Pin, Wait, Answer, Heap}
use Rattle.heap_words.specs.Encoding.{object_words}
use Rattle.regions.proofs.ServedRooms.{has_room}
use Rattle.shen_graph.specs.declared.name.Name.{Name}
use Rattle.shen_graph.specs.Graph.{Graph}
use Rattle.heap_world.specs.World.{Plot, name_at}
use Rattle.image_graph.specs.Held.{IsAmong, HoldsGraph}
use Rattle.image_graph.specs.Plot.{AreParsed, packed_block}
use Rattle.image_graph.specs.Pinned.{is_row_pinned}
use Rattle.image_graph.specs.Full.{now_in, held_words, kept_in, place_in, packed, served_in, room_for, served, refused, full_from}
use Rattle.image_graph.specs.Promised.{Promises, with_promised}
use Rattle.image_graph.specs.Image.{AnswerStands, RootsStand, ImageStands}
use Rattle.image_graph.specs.Serving.{asked_shape, made_block, made_promise, turn_room, served_block, served_promises, AreAsking}
use Rattle.image_graph.proofs.HeldRoots.{pin_stays}
use Rattle.image_graph.proofs.ImagesStand.{packed_stands}
use Rattle.image_graph.proofs.TurnWords.{served_first, turn_idle, turn_waits, before_turn, after_turn, own_wait}
use Rattle.image_graph.proofs.Made.{can_make, made_stands, other_words, other_asks}

-- the words of an image stand for the graph, and who has not had a turn asks for an object that can be
abbrev Stands : Config → Graph → (Word → ℕ) → Plot → Promises → ℕ → Type 0
Stands config graph memory block promises turns = ImageStands config memory block graph promises × AreAsking config memory graph promises turns

-- a thread that finds a region waits, and the region has room
pub finds_room : (config : Config) (memory : Word → ℕ) (mutator region : ℕ) → turn_room config memory mutator ≡ Some region
    → (memory (Wait mutator) ≢ 0) × (region < config.regions) × (memory (Top region) + object_words (asked_shape memory mutator) ≤ config.region_words)
finds_room config memory mutator region found_room = ⊎_elim
    (λ (not_waiting : memory (Wait mutator) ≡ 0). absurd (none-some region (sym (cond-true (memory (Wait mutator) == 0) None (room_for config memory mutator) (eq-eqb (memory (Wait mutator)) 0 not_waiting)) ∙ found_room)))
    (λ (is_waiting : memory (Wait mutator) ≢ 0).
    let lowest = has_room config.region_words (λ region. memory (Top region)) (object_words (asked_shape memory mutator)) config.regions region (sym (cond-false (memory (Wait mutator) == 0) None (room_for config memory mutator) (ne_eqb (memory (Wait mutator)) 0 is_waiting)) ∙ found_room) in
    (is_waiting, lowest.below, lowest.room))
    (cases_eq (memory (Wait mutator)) 0)

-- one turn keeps that
one_turn : (config : Config) (graph : Graph) (memory : Word → ℕ) (block : Plot) (promises : Promises) (thread : ℕ) (found : Option ℕ) → thread < config.mutators → Stands config graph memory block promises thread → turn_room config memory thread ≡ found
    → Stands config graph (served_in config memory thread found) (made_block config memory block thread found) (made_promise memory promises thread found) (suc thread)
one_turn config graph memory block promises thread None thread_below image_stands found_room = (image_stands.0, λ later_thread later mutator_below is_waiting. image_stands.1 later_thread (omega (arith, later)) mutator_below is_waiting)
one_turn config graph memory block promises thread (Some region) thread_below image_stands found_room =
    let room = finds_room config memory thread region found_room in
    let asking = image_stands.1 thread (omega arith) thread_below room.0 in (
      made_stands config memory block graph promises (can_make config memory block graph promises image_stands.0) thread region thread_below asking room.1 room.2 image_stands.0,
      λ later_thread later mutator_below is_waiting.
          let thread_differs : thread ≢ later_thread = λ same_thread. omega (arith, same_thread, later) in
          let words = other_words config memory block graph promises (can_make config memory block graph promises image_stands.0) thread region thread_below asking room.1 room.2 later_thread thread_differs in
          other_asks config memory block graph promises (can_make config memory block graph promises image_stands.0) thread region thread_below asking room.1 room.2 later_thread thread_differs (image_stands.1 later_thread (omega (arith, later)) mutator_below (λ is_zero. is_waiting (words.0 ∙ is_zero))),
    )

-- the words after a turn, by the region that was found
pub turn_is : (config : Config) (memory : Word → ℕ) (mutator : ℕ) → served config memory (suc mutator) ≡ served_in config (served config memory mutator) mutator (turn_room config (served config memory mutator) mutator)
turn_is config memory mutator = fun_ext (λ word. ⊎_elim
    (λ (not_waiting : served config memory mutator (Wait mutator) ≡ 0).
    turn_idle config memory mutator word not_waiting
    ∙ sym (ap (λ found_room. served_in config (served config memory mutator) mutator found_room word) (cond-true (served config memory mutator (Wait mutator) == 0) None (room_for config (served config memory mutator) mutator) (eq-eqb (served config memory mutator (Wait mutator)) 0 not_waiting))))
    (λ (is_waiting : served config memory mutator (Wait mutator) ≢ 0).
    turn_waits config memory mutator word is_waiting
    ∙ sym (ap (λ found_room. served_in config (served config memory mutator) mutator found_room word) (cond-false (served config memory mutator (Wait mutator) == 0) None (room_for config (served config memory mutator) mutator) (ne_eqb (served config memory mutator (Wait mutator)) 0 is_waiting))))
    (cases_eq (served config memory mutator (Wait mutator)) 0))

module _ (config : Config) (graph : Graph) (memory : Word → ℕ) (block : Plot) (promises : Promises) (stands : ImageStands config memory block graph promises) (asking : AreAsking config memory graph promises 0) where
  served_is : (thread : ℕ) → thread ≤ config.mutators → Stands config graph (served config memory thread) (served_block config memory block thread) (served_promises config memory promises thread) thread
  unfolding served_block served_promises
  served_is zero thread_below =
      let same_memory : memory ≡ served config memory 0 = fun_ext (λ word. sym (served_first config memory word)) in
      subst (λ next_memory. Stands config graph next_memory block promises 0) same_memory (stands, asking)
  served_is (suc thread) thread_below =
      let turn_before = served_is thread (omega (arith, thread_below)) in
      let next_turn = one_turn config graph (served config memory thread) (served_block config memory block thread) (served_promises config memory promises thread) thread (turn_room config (served config memory thread) thread) (omega (arith, thread_below)) turn_before refl in
      subst (λ next_memory. Stands config graph next_memory (made_block config (served config memory thread) (served_block config memory block thread) thread (turn_room config (served config memory thread) thread))
      (made_promise (served config memory thread) (served_promises config memory promises thread) thread (turn_room config (served config memory thread) thread)) (suc thread)) (sym (turn_is config memory thread)) next_turn

  pub served_stands : (thread : ℕ) → thread ≤ config.mutators → ImageStands config (served config memory thread) (served_block config memory block thread) graph (served_promises config memory promises thread)
  served_stands thread thread_below = (served_is thread thread_below).0

  -- who still waits at the end has no answer
  left_unanswered : (mutator : ℕ) → mutator < config.mutators → served config memory config.mutators (Wait mutator) ≢ 0 → served config memory config.mutators (Answer mutator) ≡ 0
  left_unanswered mutator mutator_below still_waiting = by_room (turn_room config (served config memory mutator) mutator) refl
    where
      end : (served config memory config.mutators (Wait mutator) ≡ served config memory (suc mutator) (Wait mutator)) × (served config memory config.mutators (Answer mutator) ≡ served config memory (suc mutator) (Answer mutator))
      end = after_turn config memory config.mutators mutator mutator_below

      by_room : (found : Option ℕ) → turn_room config (served config memory mutator) mutator ≡ found → served config memory config.mutators (Answer mutator) ≡ 0
      by_room None found_room =
          let same_words : (word : Word) → served config memory (suc mutator) word ≡ served config memory mutator word = λ word. ap (λ f. f word) (turn_is config memory mutator) ∙ ap (λ found. served_in config (served config memory mutator) mutator found word) found_room in
          let turn_before = before_turn config memory mutator mutator (omega arith) in
          let waits : memory (Wait mutator) ≢ 0 = λ is_zero. still_waiting (end.0 ∙ same_words (Wait mutator) ∙ turn_before.0 ∙ is_zero) in
          end.1 ∙ same_words (Answer mutator) ∙ turn_before.1 ∙ (asking mutator (omega arith) mutator_below waits).unanswered
      by_room (Some region) found_room =
          absurd (still_waiting (end.0 ∙ ap (λ f. f (Wait mutator)) (turn_is config memory mutator) ∙ ap (λ found. served_in config (served config memory mutator) mutator found (Wait mutator)) found_room ∙ own_wait config (served config memory mutator) mutator region))

-- refusing keeps the graph, where who waits has no answer
refused_stands : (config : Config) (memory : Word → ℕ) (block : Plot) (graph : Graph) (promises : Promises) → ImageStands config memory block graph promises
    → ((mutator : ℕ) → mutator < config.mutators → memory (Wait mutator) ≢ 0 → memory (Answer mutator) ≡ 0) → ImageStands config (refused memory) block graph promises
unfolding refused
refused_stands config memory block graph promises stands unanswered = record {
  plotted = stands.plotted;
  filled = stands.filled;
  objects = stands.objects;
  things = stands.things;
  fillers = stands.fillers;
  free_word = stands.free_word;
  rooted = record {
    roots = stands.rooted.roots;
    answers = λ mutator mutator_below. ⊎_elim
        (λ (no_request : memory (Wait mutator) ≡ 0). subst (λ answer. AnswerStands block answer (promises.ref (mutator + 1))) (sym (cond-true (memory (Wait mutator) == 0) (memory (Answer mutator)) 1 (eq-eqb (memory (Wait mutator)) 0 no_request))) (stands.rooted.answers mutator mutator_below))
        (λ (is_waiting : memory (Wait mutator) ≢ 0).
        let answer_one : cond (memory (Wait mutator) == 0) (memory (Answer mutator)) 1 ≡ 1 = cond-false (memory (Wait mutator) == 0) (memory (Answer mutator)) 1 (ne_eqb (memory (Wait mutator)) 0 is_waiting) in
        let is_zero = unanswered mutator mutator_below is_waiting in
        let nothing : promises.ref (mutator + 1) ≡ None = ⊎_elim
        (λ (no_request : (memory (Answer mutator) ≤ 1) × (promises.ref (mutator + 1) ≡ None)). no_request.1)
        (λ (answer_given : (1 < memory (Answer mutator)) × (name : Name) × (promises.ref (mutator + 1) ≡ Some name) × (name_at (block (memory (Answer mutator))) ≡ Some name)). absurd (omega (arith, answer_given.0, is_zero)))
        (stands.rooted.answers mutator mutator_below) in
        inl (omega (arith, answer_one), nothing))
        (cases_eq (memory (Wait mutator)) 0);
    no_more_roots = stands.rooted.no_more_roots;
    pins = λ mutator slot mutator_below few. pin_stays memory (refused memory) block block (memory (Pin mutator slot)) (graph.pin (mutator + 1) slot) (λ name copy plain. (copy, plain)) (stands.rooted.pins mutator slot mutator_below few);
    no_more_pins = stands.rooted.no_more_pins;
    no_more_promised = stands.rooted.no_more_promised;
  };
}

-- packing leaves requests as they are
packed_asks : (config : Config) (memory : Word → ℕ) (shut : ℕ → Bool) (now kept : ℕ → ℕ) (graph : Graph) (promises : Promises) → AreAsking config memory graph promises 0 → AreAsking config (packed config shut now kept memory) graph promises 0
unfolding packed
packed_asks config memory shut now kept graph promises asking thread later inside is_waiting =
    let asks = asking thread later inside is_waiting in
    record {
      shape = asks.shape;
      few_refs = asks.few_refs;
      few_nums = asks.few_nums;
      unanswered =
          cond-true (nat_le (memory (Answer thread)) 1) (memory (Answer thread)) (place_in config shut kept (now (memory (Answer thread)))) (le-leb (memory (Answer thread)) 1 (omega (arith, asks.unanswered))) ∙ asks.unanswered;
      new = asks.new;
    }

-- a full collection keeps the graph
pub full_stands : (config : Config) (memory : Word → ℕ) (block : Plot) (graph : Graph) (promises : Promises)
    → HoldsGraph config (λ region. memory (Top region)) (λ address. memory (Heap address)) block (now_in memory) (IsAmong (held_words config memory)) (with_promised graph promises)
    → RootsStand config memory block graph promises → AreParsed config (is_row_pinned config memory) (λ region. memory (Top region)) (λ address. memory (Heap address)) block → AreAsking config memory graph promises 0
    → ImageStands config (full_from config memory) (served_block config (packed config (is_row_pinned config memory) (now_in memory) (kept_in config memory) memory) (packed_block config (is_row_pinned config memory) (kept_in config memory) block) config.mutators) graph
    (served_promises config (packed config (is_row_pinned config memory) (now_in memory) (kept_in config memory) memory) promises config.mutators)
full_stands config memory block graph promises graph_held rooted parsed asking =
    let after : Word → ℕ = packed config (is_row_pinned config memory) (now_in memory) (kept_in config memory) memory in
    let plot : Plot = packed_block config (is_row_pinned config memory) (kept_in config memory) block in
    let packed_is = packed_stands config memory block graph promises graph_held rooted parsed in
    let asks = packed_asks config memory (is_row_pinned config memory) (now_in memory) (kept_in config memory) graph promises asking in
    refused_stands config (served config after config.mutators) (served_block config after plot config.mutators) graph (served_promises config after promises config.mutators)
    (served_stands config graph after plot promises packed_is asks config.mutators (omega arith))
    (left_unanswered config graph after plot promises packed_is asks)
