-- After a full collection an image holds the graph again, with what was made for waiting threads as further promises.
use Rattle.std.proofs.Common.{◌≡◌, ◌≢◌, ℕ, ◌+◌, ◌-◌, ◌<◌, ◌≤◌, ◌==◌, ◌&&◌, nat_le, nat_lt, cond, true, false, slice_get, Option, Some, None, ⊎_elim, sym, ap, ◌∙◌, subst, arith}
use Rattle.std.proofs.lemmas.Bool.{cond-true, cond-false, cases_Bool, ne_eqb, le-leb, lt-leb, lt-ltb, and_from, and_left, true≢false}
use Rattle.std.proofs.lemmas.Option.{same_Some, none-some}
use Rattle.std.proofs.Math.Logic.{∥∥₁_map}
use Rattle.heap_words.specs.declared.config.Config.{Config}
use Rattle.heap_words.specs.Words.{Word, Top, Wait, Heap}
use Rattle.heap_words.specs.Encoding.{is_forwarded, request_count_in}
use Rattle.shen_graph.specs.declared.name.Name.{Name}
use Rattle.shen_graph.specs.Graph.{Graph, Object, Reference, blank, fresh, same_reference}
use Rattle.shen_graph.specs.Reach.{IsReachable}
use Rattle.shen_graph.specs.Reach as reach
use Rattle.shen_graph.specs.Step.{name_in}
use Rattle.heap_world.specs.World.{thing, filler, spare, is_loose, room_of, Plot}
use Rattle.image_graph.specs.Held.{IsAmong}
use Rattle.image_graph.specs.Pinned.{is_row_pinned}
use Rattle.image_graph.specs.Plot.{AreParsed, AreThings, packed_block}
use Rattle.image_graph.specs.Full.{now_in, held_words, kept_in, packed_in, full_from}
use Rattle.image_graph.specs.Promised.{Promises, with_promised}
use Rattle.image_graph.specs.Image.{ImageStands}
use Rattle.image_graph.specs.Serving.{asked_name, served_block, served_promises}
use Rattle.image_graph.proofs.Named.{named_things}
use Rattle.image_graph.proofs.Reached.{reached_is_held}
use Rattle.image_graph.proofs.Promised.{same_reference-true, old_object}
use Rattle.image_graph.proofs.ImagesStand.{standing_holds}
use Rattle.image_graph.proofs.ServingKeeps.{full_stands}
use Rattle.image_graph.proofs.Still.{full_current, full_share, full_wait, packed_wait}
use Rattle.image_graph.proofs.PromisesAfterTurns.{SamePromise, IsPromisedAsAsked, promise_after}
use Rattle.image_graph.specs.Holds.{HoldsBy, HoldsSome}
use Rattle.full_cycle.specs.Collect.{HoldsWalked}
use Rattle.full_cycle.proofs.Holding.{parsed}

-- where each piece is an object, or only fills, nobody has free words of a buffer
no_spare : (block : Plot) → AreThings block → (address seat words : ℕ) → block address ≡ Some (spare seat words) → ⊥
no_spare block all_things address seat words spare_there = ⊎_elim
    (λ (object : (name : Name) × (refs : ℕ) × (nums : ℕ) × (spare seat words ≡ thing name refs nums)). true≢false (ap is_loose object.3))
    (λ (fills : (n : ℕ) × (1 ≤ n) × (spare seat words ≡ filler n)). none-some seat (sym (ap room_of fills.2)))
    (all_things address (spare seat words) spare_there)

module _ (config : Config) (memory : Word → ℕ) (block : Plot) (owner : ℕ → Option ℕ) (promises : Promises) (graph : Graph) (holds : HoldsBy config memory block owner promises graph)
    (walk : AreParsed config (is_row_pinned config memory) (λ given_region. memory (Top given_region)) (λ a. memory (Heap a)) block) where
  abbrev more : Graph
  more = with_promised graph promises

  abbrev after : Word → ℕ
  after = packed_in config memory

  -- what the graph reaches, the graph with promises reaches
  reach_more : (name : Name) → IsReachable graph name → IsReachable more name
  reach_more _ (reach.from_root thread root name leads) =
      let still_leads = holds.rooted.no_more_roots thread root name leads in
      let pinned : Reference = name_in (graph.pin thread (root - 17)) in
      reach.from_root thread root name
      (cond-false (root == 16) (promises.ref thread) (cond (nat_le 17 root && nat_lt root 21) pinned (graph.root thread root)) (ne_eqb root 16 (λ same_number. omega (arith, same_number, still_leads.3)))
      ∙ cond-false (nat_le 17 root && nat_lt root 21) pinned (graph.root thread root) (and_left (nat_le 17 root) (nat_lt root 21) (lt-leb 17 root (omega (arith, still_leads.3)))) ∙ leads)
  reach_more _ (reach.from_pin thread slot pin_held leads) =
      let still_leads = holds.rooted.no_more_pins thread slot pin_held leads in
      let index : 17 + slot - 17 ≡ slot = omega arith in
      reach.from_root thread (17 + slot) pin_held.name
      (cond-false (17 + slot == 16) (promises.ref thread) (cond (nat_le 17 (17 + slot) && nat_lt (17 + slot) 21) (name_in (graph.pin thread (17 + slot - 17))) (graph.root thread (17 + slot))) (ne_eqb (17 + slot) 16 (λ same_number. omega (arith, same_number)))
      ∙ cond-true (nat_le 17 (17 + slot) && nat_lt (17 + slot) 21) (name_in (graph.pin thread (17 + slot - 17))) (graph.root thread (17 + slot))
      (and_from (nat_le 17 (17 + slot)) (nat_lt (17 + slot) 21) (le-leb 17 (17 + slot) (omega arith)) (lt-ltb (17 + slot) 21 (omega (arith, still_leads.3))))
      ∙ ap (λ slot. name_in (graph.pin thread slot)) index ∙ ap name_in leads)
  reach_more _ (reach.from_field from_name name field reached leads) =
      reach.from_field from_name name field (reach_more from_name reached) (ap (λ (object : Object). slice_get object.refs field) (old_object config.mutators graph promises holds.unreached from_name reached) ∙ leads)

  -- so it is an object
  has_object : (name : Name) → IsReachable graph name → (object : Object) × (graph.object name ≡ Some object)
  has_object name reached =
      let reached_object = reached_is_held config (λ region. memory (Top region)) (λ address. memory (Heap address)) block (now_in memory) (IsAmong (held_words config memory)) more holds.objects name (reach_more name reached) in
      let object = holds.objects.each reached_object.0 reached_object.1 reached_object.2 name reached_object.3 reached_object.4 in
      ⊎_elim
      (λ (promised : same_reference (promises.ref name.thread) (Some name) ≡ true). absurd (holds.unreached.fresh name.thread name (same_reference-true (promises.ref name.thread) name promised) reached))
      (λ (not_promised : same_reference (promises.ref name.thread) (Some name) ≡ false).
      (object.0, sym (cond-false (same_reference (promises.ref name.thread) (Some name)) (Some (blank (promises.refs name.thread) (promises.nums name.thread))) (graph.object name) not_promised) ∙ object.1))
      (cases_Bool (same_reference (promises.ref name.thread) (Some name)))

  -- and no thread's next one
  not_next : (thread : ℕ) → 1 ≤ thread → IsReachable graph (fresh graph thread) → ⊥
  not_next thread positive reached =
      let object = has_object (fresh graph thread) reached in
      let given_name = holds.next.given (fresh graph thread) object.0 object.1 in
      omega (arith, given_name.by_thread positive)

  -- what is promised is the next object of its thread
  next_more : (mutator : ℕ) (name : Name) → mutator < config.mutators → (served_promises config after promises config.mutators).ref (mutator + 1) ≡ Some name → name ≡ fresh graph (mutator + 1)
  next_more mutator name mutator_below named = ⊎_elim
      (λ (old : SamePromise promises (served_promises config after promises config.mutators) (mutator + 1)). holds.next.promised (mutator + 1) name (sym old.ref ∙ named))
      (λ (new : IsPromisedAsAsked after (served_promises config after promises config.mutators) mutator).
      let waits : memory (Wait mutator) ≢ 0 = λ no_wait. new.waits (packed_wait config memory mutator ∙ no_wait) in
      let count : request_count_in (after (Wait mutator)) ≡ graph.count (mutator + 1) + 1 = ap request_count_in (packed_wait config memory mutator) ∙ holds.next.asked mutator mutator_below waits in
      same_Some name (asked_name after mutator) (sym named ∙ new.ref) ∙ ap (λ number. record { thread = mutator + 1; count = number }) count)
      (promise_after config after promises mutator config.mutators)

  holds_again : HoldsBy config (full_from config memory) (served_block config after (packed_block config (is_row_pinned config memory) (kept_in config memory) block) config.mutators) (λ region. None) (served_promises config after promises config.mutators) graph
  holds_again =
      let plot : Plot = served_block config after (packed_block config (is_row_pinned config memory) (kept_in config memory) block) config.mutators in
      let other_promises : Promises = served_promises config after promises config.mutators in
      let stands : ImageStands config (full_from config memory) plot graph other_promises = full_stands config memory block graph promises holds.objects holds.rooted walk holds.asking in
      let next_names : (given_thread : ℕ) (name : Name) → other_promises.ref given_thread ≡ Some name → name ≡ fresh graph given_thread = λ given_thread name named.
      let promised_is = stands.rooted.no_more_promised given_thread name named in
      subst (λ own_thread. name ≡ fresh graph own_thread) (sym promised_is.2) (next_more promised_is.0 name promised_is.1 (ap other_promises.ref (sym promised_is.2) ∙ named))
      in
      record {
        objects = standing_holds config (full_from config memory) plot graph other_promises stands;
        rooted = stands.rooted;
        moved = λ heap_address refs nums name piece_there forwarded.
            let object = stands.objects.each heap_address refs nums name piece_there in
            absurd (true≢false (sym forwarded ∙ ap is_forwarded object.2.header));
        filled = stands.filled;
        pieces = named_things plot stands.things;
        free_word = stands.free_word;
        shared_one = λ region piece_there. absurd (omega (arith, piece_there, full_share config memory));
        buffers = record {
          each = λ seat some_buffer. absurd (some_buffer (full_current config memory seat));
          spares = λ address seat words piece_there. absurd (no_spare plot stands.things address seat words piece_there);
        };
        asking = λ mutator from mutator_below some_buffer. absurd (some_buffer (full_wait config memory mutator));
        next = record {
          asked = λ mutator mutator_below some_buffer. absurd (some_buffer (full_wait config memory mutator));
          promised = next_names;
          given = holds.next.given;
        };
        unreached = record {
          own = λ given_thread promised_name piece_there. ap (λ (name : Name). name.thread) (next_names given_thread promised_name piece_there);
          few = λ thread name piece_there. (let promised_is = stands.rooted.no_more_promised thread name piece_there in omega (arith, promised_is.1, promised_is.2));
          fresh = λ given_thread promised_name piece_there reached.
              let promised_is = stands.rooted.no_more_promised given_thread promised_name piece_there in
              not_next given_thread (omega (arith, promised_is.2)) (subst (IsReachable graph) (next_names given_thread promised_name piece_there) reached);
        };
      }

pub holds_full : (config : Config) (memory : Word → ℕ) → HoldsWalked config memory → HoldsSome config (full_from config memory)
holds_full config memory holds = ∥∥₁_map holds (λ what_holds. (
  what_holds.0,
  (
    served_block config (packed_in config memory) (packed_block config (is_row_pinned config memory) (kept_in config memory) what_holds.1) config.mutators,
    (λ region. None),
    served_promises config (packed_in config memory) what_holds.3 config.mutators,
    holds_again config memory what_holds.1 what_holds.2 what_holds.3 what_holds.0 what_holds.4 (parsed config memory what_holds.1 what_holds.2 what_holds.3 what_holds.0 what_holds.4 what_holds.5 what_holds.6),
  ),
))
