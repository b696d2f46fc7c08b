-- The end of marking keeps the graph, and each object that can be reached is kept.
use Rattle.std.proofs.Common.{◌≡◌, ℕ, ◌+◌, ◌≤◌, cond, Bool, true, false, Option, inl, inr, ⊎_elim, sym, ap, ◌∙◌, arith}
use Rattle.std.proofs.lemmas.Bool.{cond-false}
use Rattle.heap_words.specs.declared.config.Config.{Config}
use Rattle.heap_words.specs.Words.{Word, Tams, Heap}
use Rattle.regions.specs.Place.{region_with}
use Rattle.shen_graph.specs.Graph.{Graph}
use Rattle.heap_world.specs.Walk.{has}
use Rattle.heap_world.specs.World.{Plot}
use Rattle.image_graph.specs.Promised.{Promises}
use Rattle.image_graph.specs.Holds.{HoldsBy}
use Rattle.cycle_words.specs.Marking.Marks.{is_black, IsNew, IsKept}
use Rattle.cycle_words.specs.Marking.Close.{closed}
use Rattle.cycle_words.specs.Marking.WhileMarking.{IsObjectAt, CanBeReached, IsMarking, IsMarkedThrough}
use Rattle.cycle_words.specs.Marking.Final.{dead_in, freed_block, freed_owner, final_marked}
use Rattle.image_graph.specs.Buffers.{HasNoMoreSeats}
use Rattle.cycle_words.proofs.Marking.Plain.{reached_object, reach_ind, root_reached, field_reached}
use Rattle.cycle_words.proofs.Marking.Closed.{closed_holds, closed_through, object_alive, object_back}
use Rattle.cycle_words.proofs.Marking.Dead.{shared_alive, current_alive}
use Rattle.cycle_words.proofs.Marking.Vanished.{piece_was, piece_stays}
use Rattle.cycle_words.proofs.Marking.Freed.{CanFree, calm_can_free, same_roots, freed_holds}

module _ (config : Config) (memory : Word → ℕ) (block : Plot) (owner : ℕ → Option ℕ) (promises : Promises) (graph : Graph) (graph_held : HoldsBy config memory block owner promises graph) (marking : IsMarking config memory block) (seats : HasNoMoreSeats config memory) where
  -- the words once the marks are closed, and once the dead regions are freed
  abbrev now : Word → ℕ
  now = closed config memory

  abbrev memory_then : Word → ℕ
  memory_then = final_marked config memory

  abbrev out : ℕ → Bool
  out = dead_in config memory

  abbrev left : Plot
  left = freed_block config out block

  held : HoldsBy config now block owner promises graph
  held = closed_holds config memory block owner promises graph graph_held marking

  through : IsMarkedThrough config now block
  through = closed_through config memory block owner promises graph graph_held marking

  -- no object lies in a dead region
  alive : (address : ℕ) → IsObjectAt now block address → out (region_with config address) ≡ false
  alive address object = object_alive config memory block owner promises graph graph_held marking address (object_back config memory block owner promises graph graph_held marking address object)

  can : CanFree config out now block
  can =
      calm_can_free config out now block owner promises graph held marking.uncollected
      (λ address reached. alive address (reached_object config now block owner promises graph held marking.uncollected address reached)) (current_alive config memory seats) (shared_alive config memory)

  pub ended_holds : HoldsBy config memory_then left (freed_owner out owner) promises graph
  ended_holds = freed_holds config out now block owner promises graph held can

  -- what is kept and left was kept before, and what was kept is kept

  kept_was : (address : ℕ) → out (region_with config address) ≡ false → IsKept config memory_then address → IsKept config now address
  kept_was address region_stays kept_after = ⊎_elim
      (λ (address_black : is_black config memory_then address ≡ true). inl address_black)
      (λ (fresh : IsNew config memory_then address).
      inr (let same_tams : cond (out (region_with config address)) 0 (now (Tams (region_with config address))) ≡ now (Tams (region_with config address)) = cond-false (out (region_with config address)) 0 (now (Tams (region_with config address))) region_stays in
      omega (arith, fresh, same_tams)))
      kept_after

  kept_is : (address : ℕ) → IsKept config now address → IsKept config memory_then address
  kept_is address kept_before = ⊎_elim
      (λ (address_black : is_black config now address ≡ true). inl address_black)
      (λ (fresh : IsNew config now address). inr (let tams_lower = lower (out (region_with config address)) (now (Tams (region_with config address))) in omega (arith, fresh, tams_lower)))
      kept_before
    where
      lower : (graph_held : Bool) (x : ℕ) → cond graph_held 0 x ≤ x
      lower true x = omega arith
      lower false x = omega arith

  -- reaching is as before
  reached_was : (address : ℕ) → CanBeReached config memory_then address → CanBeReached config now address
  reached_was = reach_ind config memory_then left (freed_owner out owner) promises graph ended_holds marking.uncollected (CanBeReached config now)
      (λ word root_word some_word.
      root_reached config now block owner promises graph held marking.uncollected word
      (ap (λ xs. has xs word) (sym (same_roots config out now block owner promises graph held can)) ∙ root_word) some_word)
      (λ address index reached before few some_word. field_reached config now block owner promises graph held marking.uncollected address index before few some_word)

  object_was : (address : ℕ) → IsObjectAt memory_then left address → (out (region_with config address) ≡ false) × IsObjectAt now block address
  object_was address object_after =
      let piece_before = piece_was config out block address _ object_after.here in
      (piece_before.0, record { name = object_after.name; refs = object_after.refs; nums = object_after.nums; here = piece_before.1; shape = object_after.shape; few_refs = object_after.few_refs; few_nums = object_after.few_nums })

  object_is : (address : ℕ) → out (region_with config address) ≡ false → IsObjectAt now block address → IsObjectAt memory_then left address
  object_is address region_stays object_before =
      record {
        name = object_before.name;
        refs = object_before.refs;
        nums = object_before.nums;
        here = piece_stays config out block address region_stays ∙ object_before.here;
        shape = object_before.shape;
        few_refs = object_before.few_refs;
        few_nums = object_before.few_nums;
      }

  pub ended_through : IsMarkedThrough config memory_then left
  ended_through = record {
    reachable = λ address reached. kept_is address (through.reachable address (reached_was address reached));
    fields = λ object_address index object_after kept_after few some_word.
        let object_before = object_was object_address object_after in
        let field = through.fields object_address index object_before.1 (kept_was object_address object_before.0 kept_after) few some_word in
        (object_is (now (Heap (object_address + 3 + index))) (alive (now (Heap (object_address + 3 + index))) field.0) field.0, kept_is (now (Heap (object_address + 3 + index))) field.1);
  }
