-- What of the updating of references whoever steps can be relied on, where little changes.
use Rattle.heap_words.specs.Phases.{updating_phase}
use Rattle.std.proofs.Common.{◌≡◌, ℕ, ◌+◌, ◌<◌, ◌≤◌, ◌⊎◌, Some, inl, refl, sym, ap, ◌∙◌, subst}
use Rattle.heap_words.specs.declared.config.Config.{Config}
use Rattle.heap_words.specs.Words.{Phase, Tams, Limit, Claim, Heap}
use Rattle.shen_graph.specs.declared.name.Name.{Name}
use Rattle.heap_world.specs.World.{World, thing, dead, filler, IsCurrent}
use Rattle.heap_world.specs.Rely.{KeepsFields}

-- where tops at mark start, limits and claims stay, and each field of an object stays or is current then
pub fields_stored : (config : Config) (world next_world : World) → ((region : ℕ) → next_world.memory (Tams region) ≡ world.memory (Tams region)) → ((region : ℕ) → next_world.memory (Limit region) ≡ world.memory (Limit region)) → next_world.memory Claim ≡ world.memory Claim
    → ((address words : ℕ) → world.block address ≡ Some (dead words) → next_world.block address ≡ Some (dead words)) → ((address words : ℕ) → world.block address ≡ Some (filler words) → next_world.block address ≡ Some (filler words))
    → (world.memory Phase ≡ updating_phase → (address refs nums field : ℕ) (name : Name) → world.block address ≡ Some (thing name refs nums) → field < refs
    → (next_world.memory (Heap (address + 3 + field)) ≡ world.memory (Heap (address + 3 + field))) ⊎ IsCurrent next_world.block (next_world.memory (Heap (address + 3 + field))))
    → KeepsFields config world next_world
fields_stored config world next_world tams limits claim deads fillers fields = record {
  tams = tams;
  limits = limits;
  deads = deads;
  fillers = fillers;
  claims = λ all_claimed. subst (λ claimed. config.regions ≤ claimed) (sym claim) all_claimed;
  fields = fields;
}

-- where the plot is the same, and no word of the heap is written
pub fields_kept : (config : Config) (world next_world : World) → next_world.block ≡ world.block → ((region : ℕ) → next_world.memory (Tams region) ≡ world.memory (Tams region)) → ((region : ℕ) → next_world.memory (Limit region) ≡ world.memory (Limit region)) → next_world.memory Claim ≡ world.memory Claim
    → ((address : ℕ) → next_world.memory (Heap address) ≡ world.memory (Heap address)) → KeepsFields config world next_world
fields_kept config world next_world block tams limits claim heap =
    fields_stored config world next_world tams limits claim (λ address words piece_there. ap (λ plot. plot address) block ∙ piece_there) (λ address words piece_there. ap (λ plot. plot address) block ∙ piece_there) (λ marking_on address refs nums field name piece_there field_below. inl (heap (address + 3 + field)))

-- where nothing is written
pub same_fields : (config : Config) (world : World) → KeepsFields config world world
same_fields config world = fields_kept config world world refl (λ r. refl) (λ r. refl) refl (λ a. refl)
