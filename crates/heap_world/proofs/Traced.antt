-- References of the snapshot stay traced while words, marks and scans change.
use Rattle.std.proofs.Common.{◌≡◌, ℕ, ◌+◌, ◌<◌, ◌⊎◌, inl, inr, ⊎_elim, Option, Some, ◌∙◌}
use Rattle.heap_words.specs.declared.config.Config.{Config}
use Rattle.shen_graph.specs.declared.name.Name.{Name}
use Rattle.heap_world.specs.World.{thing, Snapshot, Scan, IsToScan, NeedsNoMarking, IsTracedAt, AreTraced}

module _ (config : Config) (snapshot : Snapshot) (heap black : ℕ → ℕ) (scanning : ℕ → Option Scan) where
  -- where more is noted
  pub traced_noted : (P Q : ℕ → Type 0) → ((word : ℕ) → P word → Q word) → AreTraced config snapshot heap black scanning P → AreTraced config snapshot heap black scanning Q
  traced_noted P Q noted_more traced = record {
    edges = λ address refs nums offset name in_snapshot field_below. edge address offset (traced.edges address refs nums offset name in_snapshot field_below);
    starts = λ start in_snapshot. noted_more start (traced.starts start in_snapshot);
  }
    where
      edge : (address field : ℕ) → IsTracedAt config snapshot heap black scanning P address field → IsTracedAt config snapshot heap black scanning Q address field
      edge address field (IsTracedAt.done (inl null)) = IsTracedAt.done (inl null)
      edge address field (IsTracedAt.done (inr noted)) = IsTracedAt.done (inr (noted_more _ noted))
      edge address field (IsTracedAt.stands same_word scan) = IsTracedAt.stands same_word scan

  -- where words change, but no field of the snapshot that marking still needs
  pub traced_stored : (P : ℕ → Type 0) (after : ℕ → ℕ)
      → ((address refs nums field : ℕ) (name : Name) → snapshot.block address ≡ Some (thing name refs nums) → field < refs → (after (address + 3 + field) ≡ heap (address + 3 + field)) ⊎ NeedsNoMarking snapshot P address field)
      → AreTraced config snapshot heap black scanning P → AreTraced config snapshot after black scanning P
  traced_stored P after fields_stay traced = record {
    edges = λ address refs nums field name object_there field_below. edge address field (fields_stay address refs nums field name object_there field_below) (traced.edges address refs nums field name object_there field_below);
    starts = traced.starts;
  }
    where
      edge : (address field : ℕ) → (after (address + 3 + field) ≡ heap (address + 3 + field)) ⊎ NeedsNoMarking snapshot P address field → IsTracedAt config snapshot heap black scanning P address field → IsTracedAt config snapshot after black scanning P address field
      edge address field (inr is_done) traced_at = IsTracedAt.done is_done
      edge address field (inl same_word) (IsTracedAt.done is_done) = IsTracedAt.done is_done
      edge address field (inl same_word) (IsTracedAt.stands field_stands scan) = IsTracedAt.stands (same_word ∙ field_stands) scan

  -- where marks and scans change, but each field that had still to be scanned has so now, or marking needs it no more
  pub traced_scanned : (P : ℕ → Type 0) (black_then : ℕ → ℕ) (scanning_then : ℕ → Option Scan)
      → ((address refs nums field : ℕ) (name : Name) → snapshot.block address ≡ Some (thing name refs nums) → field < refs → IsToScan config black scanning address field → IsToScan config black_then scanning_then address field ⊎ NeedsNoMarking snapshot P address field)
      → AreTraced config snapshot heap black scanning P → AreTraced config snapshot heap black_then scanning_then P
  traced_scanned P black_then scanning_then scans_stay traced = record {
    edges = λ address refs nums field name object_there field_below. edge address refs nums field name object_there field_below (traced.edges address refs nums field name object_there field_below);
    starts = traced.starts;
  }
    where
      edge : (address refs nums field : ℕ) (name : Name) → snapshot.block address ≡ Some (thing name refs nums) → field < refs → IsTracedAt config snapshot heap black scanning P address field → IsTracedAt config snapshot heap black_then scanning_then P address field
      edge address refs nums field name object_there field_below (IsTracedAt.done is_done) = IsTracedAt.done is_done
      edge address refs nums field name object_there field_below (IsTracedAt.stands same_word scan) =
          ⊎_elim (λ goes_on. IsTracedAt.stands same_word goes_on) (λ is_done. IsTracedAt.done is_done) (scans_stay address refs nums field name object_there field_below scan)
