-- The collection set is freed: words that hold a graph, of which nothing names the set, hold it without the pieces of the set.
use Rattle.std.proofs.Common.{◌≡◌, ℕ, ◌+◌, Bool, false, Option, refl, sym, ◌∙◌, arith}
use Rattle.std.specs.Int.{bit_at}
use Rattle.std.proofs.lemmas.Nat.Bits.{bit_at-zero}
use Rattle.std.proofs.lemmas.Bool.{ne_eqb, eq-eqb, false_from_ne_true, true≢false}
use Rattle.heap_words.specs.declared.config.Config.{Config}
use Rattle.heap_words.specs.Words.{Word, Cset, Heap}
use Rattle.heap_words.specs.Encoding.{is_forwarded}
use Rattle.regions.specs.Place.{region_with}
use Rattle.regions.specs.Sets.{IsIn}
use Rattle.shen_graph.specs.Graph.{Graph}
use Rattle.heap_world.specs.World.{Plot}
use Rattle.image_graph.specs.Promised.{Promises}
use Rattle.image_graph.specs.Holds.{HoldsBy}
use Rattle.cycle_words.specs.Marking.Final.{freed, freed_block, freed_owner}
use Rattle.cycle_words.specs.Updating.Changes.{is_chosen, final_updated}
use Rattle.cycle_words.specs.StillHolds.{NothingNames, EndingHolds}
use Rattle.cycle_words.specs.Evacuation.Begun.{with_set}
use Rattle.cycle_words.proofs.Evacuation.ClearedHolds.{set_stored_holds}
use Rattle.cycle_words.proofs.Marking.Alike.{sized_alike, holds_alike}
use Rattle.cycle_words.proofs.Marking.Vanished.{freed_sized}
use Rattle.cycle_words.proofs.Marking.Freed.{CanFree, left_unmoved, freed_holds}

module _ (config : Config) (memory : Word → ℕ) (block : Plot) (owner : ℕ → Option ℕ) (promises : Promises) (graph : Graph) (holds : HoldsBy config memory block owner promises graph) (nothing : NothingNames config memory) where
  abbrev out : ℕ → Bool
  out = is_chosen memory

  not_out : (region : ℕ) → (IsIn (memory Cset) region → ⊥) → out region ≡ false
  not_out region away = ne_eqb (bit_at (memory Cset) region) 1 away

  can : CanFree config out memory block
  can = record {
    unseated = λ seat region found_there. not_out region (nothing.unseated seat region found_there);
    unshared = λ region found_there. not_out region (holds.shared_one region found_there).outside;
    unnamed_roots = λ word among some_word. not_out (region_with config word) (nothing.roots word among some_word);
    unnamed_fields = λ address index is_held few some_word. not_out (region_with config (memory (Heap (address + 3 + index)))) (nothing.fields address index is_held few some_word);
    unmoved = λ address refs nums name found_there left. false_from_ne_true (is_forwarded (memory (Heap address))) (λ forwarded.
        let moved_before = holds.moved address refs nums name found_there forwarded in
        true≢false (sym (eq-eqb (bit_at (memory Cset) (region_with config address)) 1 moved_before.in_set) ∙ left));
  }

  abbrev now : Word → ℕ
  now = freed config out memory

  abbrev left : Plot
  left = freed_block config out block

  abbrev owned : ℕ → Option ℕ
  owned = freed_owner out owner

  -- nothing that is left has moved, so no region need be in the set
  calm_holds : HoldsBy config (with_set now 0) left owned promises graph
  calm_holds = set_stored_holds config now left owned promises graph (freed_holds config out memory block owner promises graph holds can) (λ address refs nums name found_there. left_unmoved config out memory block owner promises graph holds can address refs nums name found_there) 0
      (λ region found_there member. (let no_bit = bit_at-zero region in omega (arith, member, no_bit)))

  pub set_ended_holds : HoldsBy config (final_updated config memory) left owned promises graph
  set_ended_holds = holds_alike (with_set now 0) (final_updated config memory)
      (record { heap = λ a. refl; top = λ r. refl; root = λ t i. refl; answer = λ t. refl; wait = λ t. refl; current = λ s. refl; free = refl; cset = refl; share = refl; pin = λ t i. refl })
      config left owned promises graph calm_holds

pub ending_holds : (config : Config) (memory : Word → ℕ) → EndingHolds config memory (final_updated config memory)
ending_holds config memory block owner promises graph holds nothing = record {
  holds = set_ended_holds config memory block owner promises graph holds nothing;
  sized = λ sized. sized_alike memory (final_updated config memory) (freed_block config (is_chosen memory) block) (λ a. refl) (freed_sized config (is_chosen memory) memory block sized);
}
