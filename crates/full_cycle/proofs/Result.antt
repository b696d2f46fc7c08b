-- What a full collection does to the graph, and to who waits.
use Rattle.std.proofs.Common.{◌≡◌, ◌≢◌, ℕ, ◌<◌, ◌↔◌, Option, ⊎_elim, refl, sym, ap, ◌∙◌, subst, arith}
use Rattle.std.proofs.Math.Logic.{∥∥₁_map}
use Rattle.heap_words.specs.declared.config.Config.{Config}
use Rattle.heap_words.specs.Words.{Word, Top, Wait, Answer, Heap}
use Rattle.heap_words.specs.Ranges.{seat_count}
use Rattle.image_graph.specs.LetGo.{let_go}
use Rattle.image_graph.proofs.Elsewhere.{let_go_same}
use Rattle.shen_graph.specs.Graph.{Graph}
use Rattle.heap_world.specs.World.{thing, Plot}
use Rattle.regions.specs.ServedRooms.{NoneHasRoom, IsLowestRoom}
use Rattle.image_graph.specs.Held.{IsAmong}
use Rattle.image_graph.specs.Pinned.{is_row_pinned}
use Rattle.image_graph.specs.Full.{now_in, held_words, kept_in, asked_in, packed_in, full_from, full}
use Rattle.image_graph.specs.Plot.{packed_block}
use Rattle.image_graph.specs.Promised.{Promises, with_promised}
use Rattle.image_graph.specs.Image.{ImageStands}
use Rattle.image_graph.specs.Serving.{served_block, served_promises}
use Rattle.image_graph.specs.RequestsServed.{tops_at_turn}
use Rattle.image_graph.proofs.Reached.{held_are_reachable}
use Rattle.image_graph.proofs.Walked.{walk_keeps}
use Rattle.image_graph.proofs.TurnWords.{requests_are_answered}
use Rattle.image_graph.proofs.ServingKeeps.{full_stands}
use Rattle.image_graph.proofs.Still.{packed_wait}
use Rattle.image_graph.specs.Holds.{HoldsBy, HoldsSized}
use Rattle.image_graph.specs.Buffers.{LettingGoHolds}
use Rattle.image_graph.specs.Left.{IsLeft}
use Rattle.full_cycle.specs.Collect.{HoldsWalked}
use Rattle.full_cycle.specs.Result.{KeptAreReachable, KeepsTheGraph, KeepsTheReachable, RefusesTheLeft}
use Rattle.full_cycle.proofs.Holding.{parsed}

-- what is kept of words that hold a graph is reached, and what is reached is kept
pub reachable_kept : (config : Config) (memory : Word → ℕ) (block : Plot) (owner : ℕ → Option ℕ) (promises : Promises) (graph : Graph) → HoldsBy config memory block owner promises graph → KeptAreReachable config memory block (with_promised graph promises)
reachable_kept config memory block owner promises graph holds =
    let walked = walk_keeps config memory block (with_promised graph promises) holds.objects in
    let reached = held_are_reachable config (λ region. memory (Top region)) (λ address. memory (Heap address)) block (now_in memory) (IsAmong (held_words config memory)) (with_promised graph promises) holds.objects in
    record {
      only = λ kept_address some_kept. reached.only kept_address (walked.only kept_address some_kept);
      all = λ name name_reached.
          let reached_object = reached.all name name_reached in
          (reached_object.0, reached_object.1, reached_object.2, (let size = walked.words reached_object.0 reached_object.3 in omega (arith, size)), reached_object.4);
    }

module _ (config : Config) (memory : Word → ℕ) (lets : LettingGoHolds config memory (let_go config memory)) where
  -- once buffers were let go
  abbrev gone : Word → ℕ
  gone = let_go config memory

  pub keeps_reachable : KeepsTheReachable config memory
  keeps_reachable block owner promises graph holds =
      let what_is_left = lets block owner promises graph holds in
      let reachable = reachable_kept config gone what_is_left.pieces owner promises graph what_is_left.holds in
      record {
        only = λ address some_kept.
            let kept_object = reachable.only address some_kept in
            (kept_object.0, kept_object.1, kept_object.2, what_is_left.came address (thing kept_object.0 kept_object.1 kept_object.2) refl kept_object.3, kept_object.4);
        all = λ name name_reached.
            let kept_object = reachable.all name name_reached in
            (kept_object.0, kept_object.1, kept_object.2, kept_object.3, what_is_left.came kept_object.0 (thing name kept_object.1 kept_object.2) refl kept_object.4);
      }

  pub keeps_graph : (after : Word → ℕ) → after ≡ full config memory → KeepsTheGraph config memory after
  keeps_graph after after_cycle block owner promises graph holds sized =
      let what_is_left = lets block owner promises graph holds in
      record {
        pieces = what_is_left.pieces;
        came = what_is_left.came;
        stands =
            subst (λ (memory : Word → ℕ). ImageStands config memory (served_block config (packed_in config gone) (packed_block config (is_row_pinned config gone) (kept_in config gone) what_is_left.pieces) config.mutators) graph
            (served_promises config (packed_in config gone) promises config.mutators)) (sym after_cycle)
            (full_stands config gone what_is_left.pieces graph promises what_is_left.holds.objects what_is_left.holds.rooted
            (parsed config gone what_is_left.pieces owner promises graph what_is_left.holds (what_is_left.sized sized) what_is_left.none) what_is_left.holds.asking);
      }

  -- and they hold it by pieces that can be walked
  pub let_go_walked : HoldsSized config memory → HoldsWalked config gone
  let_go_walked holds = ∥∥₁_map holds (λ what_holds.
      let what_is_left = lets what_holds.1 what_holds.2 what_holds.3 what_holds.0 what_holds.4 in
      (what_holds.0, what_is_left.pieces, what_holds.2, what_holds.3, what_is_left.holds, what_is_left.sized what_holds.5, what_is_left.none))

refuses : (config : Config) (memory : Word → ℕ) (mutator : ℕ) → mutator < config.mutators → memory (Wait mutator) ≢ 0 → (full_from config memory (Answer mutator) ≡ 1) ↔ IsLeft config (packed_in config memory) mutator
refuses config memory mutator inside waits =
    let after : Word → ℕ = packed_in config memory in
    let waiting : after (Wait mutator) ≢ 0 = λ no_room. waits (sym (packed_wait config memory mutator) ∙ no_room) in
    let answered = (requests_are_answered config after).answered mutator inside waiting in (
      λ full_answer. ⊎_elim
          (λ (room : (region : ℕ) × IsLowestRoom config.region_words (tops_at_turn config after mutator) (asked_in after mutator) config.regions region).
          let room_given = answered.given room.0 room.1 in
          absurd (omega (arith, room_given, full_answer, config.in_range.least_words)))
          (λ (no_room : NoneHasRoom config.region_words (tops_at_turn config after mutator) (asked_in after mutator) config.regions). record { below = inside; waits = waiting; no_room = no_room })
          answered.either,
      λ is_left. answered.full is_left.no_room,
    )

pub refuses_left : (config : Config) (memory after : Word → ℕ) → after ≡ full config memory → RefusesTheLeft config memory after
refuses_left config memory after after_cycle thread inside waits =
    let wait : let_go config memory (Wait thread) ≡ memory (Wait thread) = let_go_same (Wait thread) (λ after_cycle. after_cycle) config memory (seat_count config.mutators config.helpers) in
    let refused_if_left = refuses config (let_go config memory) thread inside (λ zero_wait. waits (sym wait ∙ zero_wait)) in
    let same_answer : after (Answer thread) ≡ full config memory (Answer thread) = ap (λ state. state (Answer thread)) after_cycle in
    (λ is_refused. refused_if_left.0 (sym same_answer ∙ is_refused), λ is_left. same_answer ∙ refused_if_left.1 is_left)
