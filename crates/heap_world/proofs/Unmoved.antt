-- Before objects are evacuated, none has an old copy.
use Rattle.std.proofs.Common.{◌≡◌, ℕ, ◌<◌, Some, sym, subst}
use Rattle.heap_words.specs.declared.config.Config.{Config}
use Rattle.heap_words.specs.Words.{Phase, Cset, Evac}
use Rattle.shen_graph.specs.declared.name.Name.{Name}
use Rattle.shen_graph.specs.Graph.{Reference}
use Rattle.heap_world.specs.World.{World, moved, spent, IsCollected, Points, UsableIn, IsUsable, Shared}
use Rattle.heap_world.proofs.Copies.{none_in_0}
use Rattle.heap_world.proofs.Keeping.{usable_now}

module _ (config : Config) (world : World) (shared : Shared config world) (early : world.memory Phase < 2) where
  -- nothing lies in the collection set
  pub none_collected : (address : ℕ) → IsCollected config (world.memory Cset) address → ⊥
  none_collected address address_collected = none_in_0 config address (subst (λ cset. IsCollected config cset address) (shared.phased.cset_is early) address_collected)

  -- so no copy is old
  pub unmoved : (address refs nums new_address : ℕ) (name : Name) → world.block address ≡ Some (moved name refs nums new_address) → ⊥
  unmoved address refs nums new_address name moved_there = none_collected address (shared.evacuated.moved.moveds address refs nums new_address name moved_there).inside

  pub unspent : (address words new_address : ℕ) → world.block address ≡ Some (spent words new_address) → ⊥
  unspent address words new_address spent_there = none_collected address (shared.evacuated.moved.spents address words new_address spent_there).inside

  -- and each word that stands for a reference may be used
  pub usable_unmoved : (word : ℕ) (reference : Reference) → Points world.block word reference → UsableIn config world word
  usable_unmoved word reference points = subst (λ cset. IsUsable config cset (world.memory Evac) world.block word) (sym (shared.phased.cset_is early)) (usable_now config (world.memory Evac) world.block unmoved word reference points)
