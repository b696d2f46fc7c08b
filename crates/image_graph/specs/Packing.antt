-- What packing takes of the heap before it.
use Rattle.std.specs.Prelude.{ℕ, ◌≡◌, ◌≢◌, ◌+◌, ◌<◌, Option, Some}
use Rattle.heap_words.specs.declared.config.Config.{Config}
use Rattle.heap_words.specs.Encoding.{refs_in}
use Rattle.shen_graph.specs.declared.name.Name.{Name}
use Rattle.shen_graph.specs.Graph.{Object}
use Rattle.heap_world.specs.World.{Plot, thing, name_at, IsPlotted, IsThing}
use Rattle.image_graph.specs.Held.{IsCopy}

-- Each kept address has an object of the graph of so many words, no two have one name, whatever stands for a name has its
-- current copy, and the fields of a kept object lead to kept objects.
pub record CanPack (config : Config) (top heap : ℕ → ℕ) (block : Plot) (object : Name → Option Object) (now kept : ℕ → ℕ) : Type 0 where
  pub plotted : IsPlotted config top block
  pub things : (address : ℕ) → 0 < kept address → (name : Name) × (refs : ℕ) × (nums : ℕ) × (block address ≡ Some (thing name refs nums)) × (kept address ≡ 3 + refs + nums)
  pub each : (address refs nums : ℕ) (name : Name) → 0 < kept address → block address ≡ Some (thing name refs nums)
      → (o : Object) × (object name ≡ Some o) × IsThing heap block address refs nums name o
  pub once : (address other_address refs nums more_refs more_nums : ℕ) (name : Name) → 0 < kept address → 0 < kept other_address
      → block address ≡ Some (thing name refs nums) → block other_address ≡ Some (thing name more_refs more_nums) → address ≡ other_address
  pub current : (word : ℕ) (name : Name) → name_at (block word) ≡ Some name → IsCopy block (now word) name
  pub closed : (address i : ℕ) → 0 < kept address → i < refs_in (heap (address + 1)) → heap (address + 3 + i) ≢ 0 → 0 < kept (now (heap (address + 3 + i)))
